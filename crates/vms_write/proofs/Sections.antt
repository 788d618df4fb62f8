-- What is written of ready images: the forms of cells, and the bytes of subsections and sections,
-- one after the other.
use Rattle.vms_write.proofs.Facade
use Facade.{wrote_fault, err_from_is_err_and, AllPass-from_list_all, ◌≡◌, ℕ, zero, suc, ◌+◌, ◌<◌, ◌≤◌, List, [], ◌∷◌, length}
use Facade.{length-drop, get_or, drop, sym, arith, true, map, ℤ, pos, refl, ap, ◌∙◌, and_parts, length-map, Set, is_name, first_fault, is_well_formed}
use Facade.{device_at, sub_at, none_is, device_clean, sub_clean, Kind, Cell, device_cells, form_of, Held, defaults_at, no_form, formed_of, formed, forms_of}
use Facade.{cases_lt, ⊎_elim, Some, get_or-map, slice_get-get_or, slice_get_within, get_or_from_slice_get, slice_get, MOST_ITEMS, Device, Slot, Number}
use Facade.{Constant, no_desc, Image, own_cells, own_slots, sub_place, sub_slots, IsReady, AreReady, AreCells, FitsHeads, own_constants, part_constants}
use Facade.{sub_are, own_are, versions_long, kinds_at, few_cells, good_of, CanWrite, Typed, IsImageOf, AreImagesOf, Rule, ◌++◌, take, Option, None}
use Facade.{◌&&◌, drop_more, desc_cells, struct_cells, zeroed, steps_of, WalkStep, CanSteps, CanStep, bytes_of, codes_of, run_of, Sub, AtLeast}
use Facade.{written_subs, written_section, written_sections, first_cell, sub_next, CellForm, sub_fine, subs_fine, written_sub, AreConstants}
use Rattle.std.proofs.Common.{Result, IsErrAnd}
use Rattle.vms_io.specs.{Told.Outlet, Writing.Stops, Writing.Wrote}
use Rattle.vms_spec.proofs.WellFormedLaws.{name_short, set_clean}
use Rattle.vms_parts.specs.Devices.{device_at as device_in}
use Rattle.vms_spec.specs.declared.Part.TheVariants as parts

-- a call that failed wrote a part of the bytes
pub failed : {T E : Type 0} {a b : Outlet} {xs : List ℕ} (r : Result T E) (e : E) → IsErrAnd r (λ y. y ≡ e) → Stops a b xs → Wrote a b xs r
failed r e is p = let fault = err_from_is_err_and r is in wrote_fault r _ fault.1 p

-- ---- names of a well-formed set are short; the forms of a device's cells, by the numbers that a set keeps of it

module _ (set : Set) (well : is_well_formed set ≡ true) where
  pub machine_short : (m : ℕ) (name : List ℕ) → m < length set.machines → name ≡ get_or set.machines m name → length name ≤ 64
  machine_short m name lt e =
      name_short 64 name (rw e (AllPass-from_list_all (is_name 64) set.machines (set_clean set (none_is (first_fault set) well)).own.0 m name lt))

  pub device_short : (i : ℕ) → i < length set.devices → length (device_at set i).desc.name ≤ 100
  device_short i lt = name_short 100 (device_at set i).desc.name (device_clean set well i lt).own.0

  pub sub_short : (i j : ℕ) → i < length set.devices → j < length (device_at set i).subs → length (sub_at (device_at set i) j).desc.name ≤ 165
  sub_short i j lt lj =
      let device = (device_at set i).desc.name in
      let name = (sub_at (device_at set i) j).desc.name in
      let tail = drop (length device + 1) name in
      let short = name_short 64 tail (and_parts _ (is_name 64 tail) (sub_clean set well i j lt lj).own.0).1 in
      omega (arith, device_short i lt, length-drop (length device + 1) name)

-- ---- The forms of a device's cells, by the numbers that a set keeps of it.

formed_cells : (cells : List Cell) → formed_of (map (λ c. c.kind) cells) (map (λ c. c.default) cells) ≡ map form_of cells
formed_cells [] = refl
formed_cells (c ∷ cells) = rw (formed_cells cells)

pub formed_defaults : (set : Set) (device : ℕ) (defaults : Held) → defaults ≡ defaults_at set device → formed defaults ≡ forms_of set (device_in set device)
formed_defaults set device defaults is = ap formed is ∙ formed_cells (device_cells set (device_in set device))

pub formed_long : (set : Set) (device : ℕ) (defaults : Held) (numbers : List ℤ) → defaults ≡ defaults_at set device → length numbers ≡ length (device_cells set (device_in set device)) → length (formed defaults) ≡ length numbers
formed_long set device defaults numbers is long = ap length (formed_defaults set device defaults is) ∙ length-map (device_cells set (device_in set device)) form_of ∙ sym long

-- the number of a cell at its default
pub default_in : (kinds : List Kind) (numbers : List ℤ) (k : ℕ) → k < length (formed_of kinds numbers) → (k < length numbers) × (get_or numbers k (pos 0) ≡ (get_or (formed_of kinds numbers) k no_form).default)
default_in [] numbers k lt = absurd (omega arith)
default_in (kind ∷ kinds) [] k lt = absurd (omega arith)
default_in (kind ∷ kinds) (z ∷ numbers) zero lt = (omega arith, refl)
default_in (kind ∷ kinds) (z ∷ numbers) (suc k) lt = let r = default_in kinds numbers k (omega arith) in (omega arith, r.1)

-- ---- what ready images have, one after the other

can_write : (cells : List Cell) (slots : List Slot) → AreCells cells slots → AreConstants slots → CanWrite (map (λ c. c.kind) cells) slots
can_write cells [] are k = tt
can_write cells (Number a kind caps ∷ slots) are k = search (arith, get_or-map, can_write cells slots are.1 k)
can_write cells (Constant kind z ∷ slots) are k = (k.0, can_write cells slots are k.1)
can_write cells (_ ∷ slots) are k = (tt, can_write cells slots are k)

-- device i of a set has an image whose bytes can be written
pub record IsWritable (set : Set) (i : ℕ) (image : Image) : Type 0 where
  pub few : length image.numbers ≤ MOST_ITEMS
  pub cells : length image.numbers ≡ length (device_cells set (device_at set i))
  pub came : length image.came ≡ length (device_at set i).subs
  pub own : CanWrite (kinds_at set i) (own_slots set (device_at set i) image.version image.numbers)
  pub subs : (j v : ℕ) → j < length (device_at set i).subs
      → CanWrite (kinds_at set i) (sub_slots set (sub_at (device_at set i) j) v image.numbers (sub_place set (own_cells set (device_at set i)) (device_at set i).subs j))

pub ready_writable : (set : Set) → is_well_formed set ≡ true → FitsHeads set → (i : ℕ) (image : Image) → i < length set.devices → IsReady set (device_at set i) image → IsWritable set i image
ready_writable set well heads i image lt r =
    let d = device_at set i in
    let m = image.numbers in
    let good = good_of set well heads in
    let normal = r.normal in
    let here = slice_get-get_or set.devices i (record { instance = 0; desc = no_desc; subs = [] }) lt in
    record {
      few = omega (arith, few_cells set well i);
      cells = normal.cells.long;
      came = versions_long d.subs image.came normal.subs;
      own = can_write (device_cells set d) _ (own_are set d image.version m) (own_constants set good i d here image.version 0 m);
      subs = λ j v lj.
          let there = slice_get-get_or d.subs j _ lj in
          can_write (device_cells set d) _ (sub_are set d j (sub_at d j) v m there) (part_constants set good i j d (sub_at d j) here there v _ m);
    }

-- ---- Images that are ready, one after the other.

-- what holds of the first n of a list
pub record SoFar {X : Type 0} (P : ℕ → X → Type 0) (xs : List X) (n : ℕ) : Type 0 where
  pub each : (k : ℕ) (x : X) → k < n → slice_get xs k ≡ Some x → P k x

pub none_so_far : {X : Type 0} (P : ℕ → X → Type 0) (xs : List X) → SoFar P xs 0
none_so_far P xs = record { each = λ k x lt. absurd (omega arith) }

pub one_more : {X : Type 0} {P : ℕ → X → Type 0} {xs : List X} {n : ℕ} {x : X} → SoFar P xs n → x ≡ get_or xs n x → P n x → SoFar P xs (n + 1)
one_more {P = P} {xs = xs} {n = n} {x = x} sofar is p = record {
  each = λ k other less f. ⊎_elim (λ (below : k < n). sofar.each k other below f) (λ (above : n ≤ k).
      let same : k ≡ n = omega arith in
      let here : x ≡ other = is ∙ get_or_from_slice_get xs n other x (rw same at f) in
      rw (same, ← here) p) (cases_lt k n);
}

module _ (set : Set) where
  pub all_ready : (images : List Image) (n : ℕ) → SoFar (λ k. IsReady set (device_at set k)) images n → length images ≡ length set.devices → length images ≤ n
      → AreReady set images
  all_ready images n sofar long le = record {
    one_each = long;
    ready = λ k d image e f.
        let inside = slice_get_within images k image f in rw (get_or_from_slice_get set.devices k d _ e) at (sofar.each k image (omega arith) f);
  }

  -- if one isn't ready, not all are
  pub not_all : (images : List Image) (n : ℕ) (image : Image) → n < length images → image ≡ get_or images n image → (IsReady set (device_at set n) image → ⊥)
      → AreReady set images → ⊥
  not_all images n image lt is r all =
      r (all.ready n (device_at set n) image (slice_get-get_or set.devices n _ (omega (arith, all.one_each))) (slice_get-get_or images n image lt ∙ ap Some (sym is)))

  pub all_of : (images : List Typed) (n : ℕ) → SoFar (IsImageOf set) images n → length images ≡ length set.devices → length images ≤ n → AreImagesOf set images
  all_of images n sofar long le = record {
    one_each = long;
    each = λ k image f. let inside = slice_get_within images k image f in sofar.each k image (omega arith) f;
  }

-- ---- the bytes of steps, runs of numbers, subsections and sections, one after the other

pub bytes_zeroed : (n : List ℤ) (xs : List Slot) → bytes_of n (steps_of xs) ≡ zeroed n xs
bytes_zeroed n [] = refl
bytes_zeroed n (Rule b ∷ xs) = bytes_zeroed n xs
bytes_zeroed n (_ ∷ xs) = rw (bytes_zeroed n xs)

-- any step of these slots
pub can_write_step : (kinds : List Kind) (slots : List Slot) (xs rest : List WalkStep) (x : WalkStep) → CanWrite kinds slots → steps_of slots ≡ xs ++ (x ∷ rest) → CanStep kinds x
can_write_step kinds slots xs rest x h e = one_of xs (rw e at h)
  where
    one_of : (ys : List WalkStep) → CanSteps kinds (ys ++ (x ∷ rest)) → CanStep kinds x
    one_of [] h = h.0
    one_of (y ∷ ys) h = one_of ys h.1

-- ---- The bytes of numbers of one kind whose cells follow one another.

pub run_bytes : (numbers : List ℤ) (kind : Kind) (first count : ℕ) → first + count ≤ length numbers → codes_of kind (take count (drop first numbers)) ≡ bytes_of numbers (run_of first count kind)
run_bytes numbers kind first zero room = refl
run_bytes numbers kind first (suc count) room =
    rw (drop_more numbers first (pos 0) (omega (arith, room)), run_bytes numbers kind (first + 1) count (omega (arith, room)))

-- ---- Subsections one after the other.

module _ (set : Set) (i : ℕ) (image : Image) (j : ℕ) (lt : j < length (device_at set i).subs) (lt' : j < length image.came) where
  abbrev d : Device
  d = device_at set i

  abbrev none : Sub
  none = record { desc = no_desc; needed = AtLeast 0 }

  -- the rest of the subsections, at one of them
  pub subs_next : written_subs set d image (first_cell set (parts.Sub i j)) (drop j d.subs) (drop j image.came)
      ≡ written_sub set i image j (get_or image.came j None)
      ++ written_subs set d image (first_cell set (parts.Sub i (j + 1))) (drop (j + 1) d.subs) (drop (j + 1) image.came)
  subs_next =
      rw (drop_more d.subs j none lt, drop_more image.came j None lt', sub_next set (own_cells set d) d.subs j none lt) (one (get_or image.came j None))
    where
      one : (o : Option ℕ) → written_subs set d image (first_cell set (parts.Sub i j)) (sub_at d j ∷ drop (j + 1) d.subs) (o ∷ drop (j + 1) image.came)
          ≡ written_sub set i image j o
          ++ written_subs set d image (first_cell set (parts.Sub i j) + length (desc_cells (struct_cells set) (sub_at d j).desc)) (drop (j + 1) d.subs)
          (drop (j + 1) image.came)
      one None = refl
      one (Some v) = refl

  -- the same for the walk that judges
  pub subs_fine_next : (forms : List CellForm) → subs_fine set d forms image j (first_cell set (parts.Sub i j)) (drop j d.subs) (drop j image.came)
      ≡ (sub_fine set d forms image j (first_cell set (parts.Sub i j)) (sub_at d j) (get_or image.came j None)
      && subs_fine set d forms image (j + 1) (first_cell set (parts.Sub i (j + 1))) (drop (j + 1) d.subs) (drop (j + 1) image.came))
  subs_fine_next forms =
      let one : j + 1 ≡ suc j = omega arith in
      rw (drop_more d.subs j none lt, drop_more image.came j None lt', sub_next set (own_cells set d) d.subs j none lt, one)

-- ---- The sections of a stream, one after the other.

-- the next section of those that are left
pub sections_at : (set : Set) (i : ℕ) (images : List Image) (image : Image) → i < length set.devices → i < length images → image ≡ get_or images i image
    → written_sections set i (drop i set.devices) (drop i images)
    ≡ written_section set (device_at set i) image i ++ written_sections set (i + 1) (drop (i + 1) set.devices) (drop (i + 1) images)
sections_at set i images image lt lt' is =
    let up : suc i ≡ i + 1 = omega arith in
    rw (drop_more set.devices i (record { instance = 0; desc = no_desc; subs = [] }) lt, drop_more images i image lt', up) (rw (← is))
