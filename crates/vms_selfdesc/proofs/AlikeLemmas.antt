-- Images with the same bytes have the same numbers.
use Rattle.std.proofs.{lemmas.List.get_or-map, lemmas.List.length-map, lemmas.Option.slice_get-get_or}
use Rattle.std.proofs.Common.{◌≡◌, true, ℕ, ◌<◌, List, length, get_or, map, sym, ap, ◌∙◌, arith, Some}
use Rattle.vms_kinds.specs.declared.Kind.{Kind, TheVariants.U8}
use Rattle.vms_spots.proofs.SpotLaws.{numbers_are}
use Rattle.vms_spots.specs.Spots.{AreOf, raw_of}
use Rattle.vms_spec.specs.{Layout.device_cells, Layout.no_cell, Sets.Set, Streams.AreReady}
use Rattle.vms_desc.specs.{Formed.is_well_formed, Described.device_at, Spots.kinds_at}
use Rattle.vms_image.proofs.States.{state_at, states_long}
use Rattle.vms_image.specs.Typed.{AreImagesOf, IsOfDevice, Typed, state_of}
use Rattle.vms_selfdesc.proofs.Lengths.{ready_device}
use Rattle.vms_selfdesc.specs.Alike.{HaveKinds}

-- Of an image of a list that is ready: it is its device's, and at its version, and its numbers are of its kinds.
pub record IsKept (set : Set) (images : List Typed) (k : ℕ) (image : Typed) : Type 0 where
  pub seen : state_of image ≡ get_or (map state_of images) k (state_of image)
  pub of : IsOfDevice set k (state_of image)
  pub version : image.version ≡ (device_at set k).desc.version
  pub kinds : image.kinds ≡ kinds_at set k
  pub fit : AreOf image.kinds image.numbers

pub kept : (set : Set) → is_well_formed set ≡ true → (images : List Typed) → AreReady set (map state_of images) → AreImagesOf set images → (k : ℕ)
    → k < length images
    → (image : Typed) → image ≡ get_or images k image → IsKept set images k image
kept set well images ready of k lt image is =
    let cells = device_cells set (device_at set k) in
    let same : length (kinds_at set k) ≡ length cells = length-map cells (λ x. x.kind) in
    let inside : k < length (map state_of images) = omega (arith, states_long images) in
    let there : k < length set.devices = omega (arith, ready.one_each) in
    let seen = state_at _ _ image lt is in
    let state = slice_get-get_or _ _ (state_of image) inside ∙ ap (λ x. Some x) (sym seen) in
    let r = ready.ready k (device_at set k) (state_of image) (slice_get-get_or _ _ _ there) state in
    let kinds = (of.each k image (slice_get-get_or _ _ _ lt ∙ ap (λ x. Some x) (sym is))).kinds in
    record {
      seen = seen;
      of = ready_device _ well _ ready _ _ inside seen;
      version = r.version;
      kinds = kinds;
      fit = rw kinds (record {
        long = r.normal.cells.long ∙ sym same;
        fits = λ c small.
            let within : c < length cells = omega (arith, same) in
            rw (get_or-map (λ x. x.kind) cells c no_cell U8 within) (r.normal.cells.fits c within).0;
      });
    }

-- The bytes say the numbers.
pub numbers_same : (first second : Typed) (bytes more : List ℕ) → HaveKinds first second → bytes ≡ raw_of first.kinds first.numbers
    → more ≡ raw_of second.kinds second.numbers → bytes ≡ more → first.numbers ≡ second.numbers
numbers_same first second bytes more have one other same =
    let raw : raw_of first.kinds first.numbers ≡ raw_of first.kinds second.numbers =
    sym one ∙ same ∙ other ∙ ap (λ (kinds : List Kind). raw_of kinds second.numbers) (sym have.same) in
    let fit : AreOf first.kinds second.numbers = rw have.same have.second_fit in
    rw (← numbers_are first.kinds first.numbers have.first_fit, raw) (numbers_are first.kinds second.numbers fit)
