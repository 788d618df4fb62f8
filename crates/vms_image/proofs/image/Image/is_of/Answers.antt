use Rattle.vms_image.proofs.Facade.{◌≡◌, ◌∙◌, ap, sym, rules, arith, length, true, length-map, sub_of, Device, device_cells, spots_of, kinds_of}
use Rattle.vms_image.proofs.Facade.{kinds_are, spots_long, described, kinds_at, Typed, IsImageOf}
use Rattle.vms_image.proofs.SameSpots.{same_lists, lists_equal}
use Rattle.vms_desc.specs.Described.{device_at}
use Rattle.vms_image.proofs.image.Image.is_of.Goals as goal

same_spots : (c : goal.After-eq) → c.eq.result ≡ true → c.spots.result.now ≡ c.spots-then-len-as_slice.result.now
same_spots c t = same_lists _ (λ x y e. search rules) c.spots.result.now c.spots-then-len-as_slice.result.now (sym c.eq.ensures ∙ t)

spots_same : (c : goal.After-eq) → c.spots.result.now ≡ c.spots-then-len-as_slice.result.now → c.eq.result ≡ true
spots_same c e =
    c.eq.ensures ∙ lists_equal _ (λ x. search rules) c.spots.result.now c.spots-then-len-as_slice.result.now e

-- the kinds are those of the device
kinds : (c : goal.After-eq) → c.eq.result ≡ true → c.args.self.now.kinds ≡ kinds_at (described c.args.set.now) c.args.device
kinds c t =
    ap (λ (i : Typed). i.kinds) (sym c.self.view_is) ∙ sym (kinds_are 0 c.self.inside.cells.kinds)
    ∙ ap kinds_of (sym c.spots.ensures.spots ∙ same_spots c t ∙ c.spots-then-len-as_slice.ensures.spots)
    ∙ kinds_are 0 (kinds_at (described c.args.set.now) c.args.device)

of : (c : goal.After-eq) → c.eq.result ≡ true → IsImageOf (described c.args.set.now) c.args.device c.args.self.now
of c t = record {
  subs = ap (λ (i : Typed). length i.came) (sym c.self.view_is) ∙ subs_count;
  cells = ap (λ (i : Typed). length i.numbers) (sym c.self.view_is) ∙ sym c.spots.ensures.count ∙ ap length (same_spots c t ∙ c.spots-then-len-as_slice.ensures.spots)
      ∙ spots_long 0 (kinds_at (described c.args.set.now) c.args.device) ∙ length-map (device_cells (described c.args.set.now) (device_at (described c.args.set.now) c.args.device)) (λ x. x.kind);
  kinds = kinds c t;
} where
  subs_count : length c.self.inside.came.items ≡ length (device_at (described c.args.set.now) c.args.device).subs
  subs_count =
      omega (arith, c.len.ensures, c.if-len-as_slice.true, ap length c.as_slice.ensures, ap (λ (d : Device). length d.subs) c.device.ensures, length-map c.device.result.now.subs sub_of)

is_same : (c : goal.After-eq) → IsImageOf (described c.args.set.now) c.args.device c.args.self.now → c.eq.result ≡ true
is_same c i =
    spots_same c (c.spots.ensures.spots ∙ ap spots_of (ap (λ (i : Typed). i.kinds) c.self.view_is ∙ i.kinds) ∙ sym c.spots-then-len-as_slice.ensures.spots)

pub returns-then-len-as_slice : goal.returns-then-len-as_slice
returns-then-len-as_slice c = (λ t. of c t, λ i. is_same c i)
