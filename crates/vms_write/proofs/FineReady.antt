-- When the slots of a part are fine, and that what the judging walk finds fine is ready.
use Rattle.std.proofs.{Math.Bool.or-false, lemmas.Bool.cases_Bool, Math.ListN.get_or-map}
use Rattle.std.proofs.lemmas.Bool.Decides.{Decides-and, Decides-eqb, Decides-like}
use Rattle.std.specs.Bool.{Decides}
use Rattle.vms_bodies.proofs.{PartLaws.sub_place_up, SettledLaws.its_above}
use Rattle.vms_write.proofs.Facade
use Facade.{◌≡◌, ℕ, zero, suc, ◌+◌, ◌<◌, ◌≤◌, List, [], ◌∷◌, ◌++◌, length, length-append, get_or, ℤ, pos, refl, sym, ap}
use Facade.{◌∙◌, subst, arith, Bool, true, false, ◌&&◌, ◌-◌, Option, Some, None, ne_eqb, eq-eqb, and-true, and_assoc, same_number, in_range}
use Facade.{counts_well, int_le, Desc, Set, Cell, no_cell, Slot, Number, Rule, desc_slots, desc_cells, has_cell, IsAbove, cells_first, names_append, and_swap}
use Facade.{both_below, CellForm, no_form, are_fit, settle, is_fine, is_within, steps_of, table, spot_slots, Kind, own_cell_count, lesser, least_from, least_of}
use Facade.{desc_at, PartAt, Ascends, below_from, from_end, desc_ascends, meanings_ascend, is_number_fine, behind, are_steps_fine, subs_fine, ⊎_elim}
use Facade.{OnTrue_from, OnFalse_from, get_or_from_slice_get, slice_get_within, map, ◌==◌, OnTrue, OnFalse, flat_map, slice_get, leb-true, slice_get-get_or}
use Facade.{Device, Sub, AtLeast, no_desc, Constant, meanings, struct_cells, device_cells, Image, own_cells, own_slots, sub_slots, came_slots, image_slots}
use Facade.{AreVersionsOf, RulesHold, IsReady, come_as_needed, IsGood, above_none, above_append, above_less, desc_above, meanings_above, constants_append}
use Facade.{own_constants, part_constants, image_are, named_fits, parts_together, same_number_is, ranged, counted_well, is_same, needed_are, are_needed}
use Facade.{AreConstants, fit_slots, FitSlots, ranges, within, or_second, form_of, device_at, is_well_formed, sub_at, device_clean, sub_clean, sub_size}
use Facade.{sub_place}
use Rattle.vms_spec.specs.Streams.{ComeAsNeeded}

-- ---- parts

pub fit_append : (n : List ℤ) (xs ys : List Slot) → are_fit n (xs ++ ys) ≡ (are_fit n xs && are_fit n ys)
fit_append n [] ys = refl
fit_append n (Number c kind caps ∷ xs) ys = grind (arith, and_assoc, fit_append n xs ys)
fit_append n (Rule b ∷ xs) ys = rw (fit_append n xs ys) (sym (and_assoc b (are_fit n xs) (are_fit n ys)))
fit_append n (_ ∷ xs) ys = fit_append n xs ys

pub settle_plus : (slots : List Slot) (forms : List CellForm) (n : List ℤ) (at a b : ℕ) → settle slots forms n at (a + b) ≡ (settle slots forms n at a && settle slots forms n (at + a) b)
settle_plus slots forms n at zero b = ap (settle slots forms n at) (omega arith) ∙ ap (λ x. settle slots forms n x b) (omega arith)
settle_plus slots forms n at (suc a) b =
    let one : suc a + b ≡ suc (a + b) = omega arith in
    let up : (at + 1) + a ≡ at + suc a = omega arith in
    rw (one, settle_plus slots forms n (at + 1) a b, up) (sym (and_assoc _ (settle slots forms n (at + 1) a) (settle slots forms n (at + suc a) b)))

pub record SameCells (low end : ℕ) (xs ys : List Slot) : Type 0 where
  pub same : (c : ℕ) → low ≤ c → c < end → has_cell xs c ≡ has_cell ys c

pub settle_same : (xs ys : List Slot) (forms : List CellForm) (n : List ℤ) (at k : ℕ) → SameCells at (at + k) xs ys → settle xs forms n at k ≡ settle ys forms n at k
settle_same xs ys forms n at zero h = refl
settle_same xs ys forms n at (suc k) h =
    rw (h.same at (omega arith) (omega arith), settle_same xs ys forms n (at + 1) k (record { same = λ c low lt. h.same c (omega arith) (omega arith) }))

-- no number of the slots is at the end or above
pub record IsBelow (end : ℕ) (slots : List Slot) : Type 0 where
  pub above : (c : ℕ) → end ≤ c → has_cell slots c ≡ false

pub fine_parts : (forms : List CellForm) (n : List ℤ) (xs ys : List Slot) (at a b : ℕ) → IsBelow (at + a) xs → IsAbove (at + a) ys
    → is_fine forms n (xs ++ ys) at (a + b) ≡ (is_fine forms n xs at a && is_fine forms n ys (at + a) b)
fine_parts forms n xs ys at a b below above = search (arith, names_append, or-false, fit_append, settle_plus, settle_same, and_swap, are_fit)

-- ---- The steps of a part are fine, and the cells after them at their defaults, exactly if its slots are fine.

-- ---- capacities and the least of them

lesser_within : (o : Option ℕ) (m : ℕ) (z : ℤ) → is_within (lesser o m) z ≡ (is_within o z && int_le z (pos m))
lesser_within o m z = grind (arith, both_below)

least_within : (o : Option ℕ) (caps : List ℕ) (z : ℤ) → is_within (least_from o caps) z ≡ (is_within o z && counts_well caps z)
least_within o [] z = sym (and-true (is_within o z))
least_within o (m ∷ caps) z = rw (least_within (lesser o m) caps z, lesser_within o m z) (and_assoc (is_within o z) (int_le z (pos m)) (counts_well caps z))

number_fine : (kind : Kind) (caps : List ℕ) (z : ℤ) → is_number_fine kind (least_of caps) z ≡ (in_range kind z && counts_well caps z)
number_fine kind caps z = rw (least_within None caps z)

-- ---- slots one after the other

-- the cells before a number, and those after it
settle_number : (forms : List CellForm) (n : List ℤ) (at end c : ℕ) (kind : Kind) (caps : List ℕ) (xs : List Slot) → at ≤ c → Ascends (c + 1) end xs
    → settle (Number c kind caps ∷ xs) forms n at (end - at) ≡ (settle [] forms n at (c - at) && settle xs forms n (c + 1) (end - (c + 1)))
settle_number forms n at end c kind caps xs le asc =
    let all = Number c kind caps ∷ xs in
    let room = from_end (c + 1) end xs asc in
    let default = same_number (get_or n c (pos 0)) (get_or forms c no_form).default in
    let front : SameCells at (at + (c - at)) all [] = record {
      same = λ k low lt. rw (ne_eqb c k (λ e. omega arith)) (below_from (c + 1) end xs asc k (omega arith));
    } in
    let back : SameCells (c + 1) ((c + 1) + (end - (c + 1))) all xs = record { same = λ k low lt. rw (ne_eqb c k (λ e. omega arith)) refl } in
    let parts : end - at ≡ (c - at) + suc (end - (c + 1)) = omega arith in
    let here : at + (c - at) ≡ c = omega arith in
    rw (parts, settle_plus all forms n at (c - at) (suc (end - (c + 1))), settle_same all [] forms n at (c - at) front, here)
    (rw (eq-eqb c c refl, settle_same all xs forms n (c + 1) (end - (c + 1)) back))

settle_other : (forms : List CellForm) (n : List ℤ) (xs ys : List Slot) (at k : ℕ) → ((c : ℕ) → has_cell xs c ≡ has_cell ys c) → settle xs forms n at k ≡ settle ys forms n at k
settle_other forms n xs ys at k h = settle_same xs ys forms n at k (record { same = λ c low lt. h c })

slots_fine : (forms : List CellForm) (n : List ℤ) (at end : ℕ) (xs : List Slot) → Ascends at end xs
    → (are_steps_fine forms n at (steps_of xs) && settle [] forms n (behind at (steps_of xs)) (end - behind at (steps_of xs))) ≡ is_fine forms n xs at (end - at)
slots_fine forms n at end [] h = refl
slots_fine forms n at end (Number c kind caps ∷ xs) h =
    let z = get_or n c (pos 0) in
    let rest = are_steps_fine forms n (c + 1) (steps_of xs) in
    let tail = settle [] forms n (behind (c + 1) (steps_of xs)) (end - behind (c + 1) (steps_of xs)) in
    rw (and_assoc (is_number_fine kind (least_of caps) z && _) rest tail, number_fine kind caps z, slots_fine forms n (c + 1) end xs h.1)
    (rw (settle_number forms n at end c kind caps xs h.0 h.1) (and_swap _ _ (are_fit n xs) (settle xs forms n (c + 1) (end - (c + 1)))))
slots_fine forms n at end (Rule b ∷ xs) h = grind (arith, and_assoc, settle_other, slots_fine forms n at end xs h)
slots_fine forms n at end (x ∷ xs) h = grind (arith, settle_other, slots_fine forms n at end xs h)

-- ---- a part of a set

part_ascends : (set : Set) (spot : PartAt) (n : List ℤ) → Ascends spot.base (spot.base + own_cell_count set (desc_at set spot.part)) (spot_slots set spot n)
part_ascends set spot n =
    subst (λ cs. Ascends spot.base (spot.base + length (desc_cells cs (desc_at set spot.part))) (spot_slots set spot n)) (cells_first set.structs (length set.structs))
    (desc_ascends (table set) (meanings_ascend set.structs (length set.structs)) (desc_at set spot.part) spot.version n spot.base)

-- the walk over a part, and the rest of its cells once the walk is at its end
pub part_is : (set : Set) (spot : PartAt) (forms : List CellForm) (n : List ℤ) (end : ℕ) → end ≡ spot.base + own_cell_count set (desc_at set spot.part)
    → let steps = steps_of (spot_slots set spot n) in
    (are_steps_fine forms n spot.base steps && settle [] forms n (behind spot.base steps) (end - behind spot.base steps))
    ≡ is_fine forms n (spot_slots set spot n) spot.base (own_cell_count set (desc_at set spot.part))
part_is set spot forms n end e =
    let asc : Ascends spot.base end (spot_slots set spot n) = rw e (part_ascends set spot n) in
    let size : end - spot.base ≡ own_cell_count set (desc_at set spot.part) = omega arith in
    rw size at (slots_fine forms n spot.base end (spot_slots set spot n) asc)

-- ---- what the judging walk finds fine is ready, and what is ready it finds fine: slots that fit

fit_decides : (n : List ℤ) (slots : List Slot) → AreConstants slots → Decides (are_fit n slots) (FitSlots n slots × RulesHold slots)
fit_decides n [] k = (λ e. (tt, tt), λ h. refl)
fit_decides n (Number c kind caps ∷ slots) k =
    Decides-like _ (λ h. ((h.0.0, h.0.1, h.1.0), h.1.1)) (λ h. ((h.0.0, h.0.1), (h.0.2, h.1)))
    (Decides-and _ _ (Decides-and _ _ (ranges kind _, ranged kind _) (within caps _, counted_well caps _)) (fit_decides n slots k))
fit_decides n (Constant kind z ∷ slots) k = Decides-like _ (λ h. ((k.0, h.0), h.1)) (λ h. (h.0.1, h.1)) (fit_decides n slots k.1)
fit_decides n (Rule b ∷ slots) k = grind (arith, fit_decides n slots k)
fit_decides n (_ ∷ slots) k = fit_decides n slots k

-- ---- cells that are in the slots or at their defaults

settle_decides : (slots : List Slot) (forms : List CellForm) (n : List ℤ) (from k : ℕ) → Decides (settle slots forms n from k)
    ((c : ℕ) → from ≤ c → c < from + k → has_cell slots c ≡ false → get_or n c (pos 0) ≡ (get_or forms c no_form).default)
settle_decides slots forms n from zero = (λ e c le lt bare. absurd (omega arith), λ h. refl)
settle_decides slots forms n from (suc k) = grind (arith, same_number_is, or_second, is_same, settle_decides slots forms n (from + 1) k)

-- ---- the subsections

abbrev subs_size : Set → List Sub → ℕ
subs_size set [] = 0
subs_size set (s ∷ subs) = sub_size set s + subs_size set subs

subs_long : (set : Set) (subs : List Sub) → length (flat_map (λ s. desc_cells (struct_cells set) s.desc) subs) ≡ subs_size set subs
subs_long set [] = refl
subs_long set (s ∷ subs) = rw (length-append, subs_long set subs)

cells_long : (set : Set) (d : Device) → own_cells set d + subs_size set d.subs ≡ length (device_cells set d)
cells_long set d = rw (length-append, subs_long set d.subs)

part_below : (set : Set) (d : Desc) (v : ℕ) (n : List ℤ) (at : ℕ)
    → IsBelow (at + length (desc_cells (struct_cells set) d)) (desc_slots (meanings set.structs (length set.structs)) d v n at)
part_below set d v n at = record { above = λ c le. its_above set d v at n c le }

came_above : (set : Set) (d : Device) (n : List ℤ) (at : ℕ) (subs : List Sub) (came : List (Option ℕ)) → IsAbove at (came_slots set d n at subs came)
came_above set d n at subs came =
    parts_together set d n (IsAbove at) (above_none at) (above_append at) at subs came (λ j s v e f.
    above_less at _ _ (sub_place_up set at subs j) (desc_above (meanings set.structs _) (meanings_above set.structs _) s.desc v n (sub_place set at subs j)))

-- the subsections are fine and came as needed
came_fine : (set : Set) (d : Device) (forms : List CellForm) (image : Image) (j at : ℕ) (subs : List Sub) (came : List (Option ℕ)) → length came ≡ length subs
    → (come_as_needed set d image j subs came && is_fine forms image.numbers (came_slots set d image.numbers at subs came) at (subs_size set subs)) ≡ subs_fine set d forms image j at subs came
came_fine set d forms image j at [] [] e = refl
came_fine set d forms image j at [] (o ∷ came) e = absurd (omega arith)
came_fine set d forms image j at (s ∷ subs) [] e = absurd (omega arith)
came_fine set d forms image j at (s ∷ subs) (None ∷ came) e =
    let n = image.numbers in
    let rest = came_slots set d n (at + sub_size set s) subs came in
    let none : IsBelow (at + sub_size set s) [] = record { above = λ c le. refl } in
    rw (fine_parts forms n [] rest at (sub_size set s) (subs_size set subs) none (came_above set d n (at + sub_size set s) subs came))
    (rw (← came_fine set d forms image (suc j) (at + sub_size set s) subs came (omega arith))
    (and_swap _ _ (settle [] forms n at (sub_size set s)) (is_fine forms n rest (at + sub_size set s) (subs_size set subs))))
came_fine set d forms image j at (s ∷ subs) (Some v ∷ came) e =
    let n = image.numbers in
    let here = sub_slots set s v n at in
    let rest = came_slots set d n (at + sub_size set s) subs came in
    rw (fine_parts forms n here rest at (sub_size set s) (subs_size set subs) (part_below set s.desc v n at) (came_above set d n (at + sub_size set s) subs came))
    (rw (← came_fine set d forms image (suc j) (at + sub_size set s) subs came (omega arith))
    (and_swap _ _ (is_fine forms n here at (sub_size set s)) (is_fine forms n rest (at + sub_size set s) (subs_size set subs))))

-- what the walk returns for a device
abbrev pub device_fine : Set → Device → List CellForm → Image → Bool
device_fine set d forms image =
    (image.version == d.desc.version && is_fine forms image.numbers (own_slots set d image.version image.numbers) 0 (own_cells set d)) && subs_fine set d forms image 0 (own_cells set d) d.subs image.came

-- in one piece
whole_fine : (set : Set) (d : Device) (forms : List CellForm) (image : Image) → length image.came ≡ length d.subs
    → device_fine set d forms image ≡ ((image.version == d.desc.version && come_as_needed set d image 0 d.subs image.came) && is_fine forms image.numbers (image_slots set d image) 0 (length (device_cells set d)))
whole_fine set d forms image e =
    let n = image.numbers in
    let version = image.version == d.desc.version in
    let come = come_as_needed set d image 0 d.subs image.came in
    let own = own_slots set d image.version n in
    let from = own_cells set d in
    let rest = came_slots set d n from d.subs image.came in
    let here : 0 + from ≡ from = omega arith in
    let parts =
    rw here at (fine_parts forms n own rest 0 from (subs_size set d.subs) (part_below set d.desc image.version n 0) (rw here (came_above set d n from d.subs image.came))) in
    rw (← came_fine set d forms image 0 from d.subs image.came e, ← cells_long set d, parts)
    (and_swap version (is_fine forms n own 0 from) come (is_fine forms n rest from (subs_size set d.subs)))

-- ---- readiness

-- subsections came at versions of theirs
versions_are : (set : Set) (d : Device) (image : Image) (j : ℕ) (subs : List Sub) (came : List (Option ℕ))
    → ((k : ℕ) (s : Sub) → slice_get subs k ≡ Some s → s.desc.minimum ≤ s.desc.version) → ComeAsNeeded set d image j subs came → AreVersionsOf subs came
versions_are set d image j [] [] h e = tt
versions_are set d image j [] (o ∷ came) h e = cc
versions_are set d image j (s ∷ subs) [] h e = absurd e
versions_are set d image j (s ∷ subs) (None ∷ came) h e = versions_are set d image (suc j) subs came (λ k. h (suc k)) e.1
versions_are set d image j (s ∷ subs) (Some v ∷ came) h e =
    let low = h 0 s refl in
    let same = e.1 in
    ((omega arith, omega arith), versions_are set d image (suc j) subs came (λ k. h (suc k)) e.2)

form_default : (cells : List Cell) (c : ℕ) → (get_or (map form_of cells) c no_form).default ≡ (get_or cells c no_cell).default
form_default cells c = rw (get_or-map form_of cells c no_cell)

image_constants : (set : Set) → IsGood set → (k : ℕ) (d : Device) (image : Image) → slice_get set.devices k ≡ Some d → AreConstants (image_slots set d image)
image_constants set good k d image e =
    let n = image.numbers in
    constants_append (own_slots set d image.version n) (came_slots set d n (own_cells set d) d.subs image.came) (own_constants set good k d e image.version 0 n)
    (parts_together set d n AreConstants tt constants_append (own_cells set d) d.subs image.came (λ j s v h i. part_constants set good k j d s e h v _ n))

module _ (set : Set) (well : is_well_formed set ≡ true) (good : IsGood set) (i : ℕ) (lt : i < length set.devices) (image : Image)
    (cells : length image.numbers ≡ length (device_cells set (device_at set i))) (subs : length image.came ≡ length (device_at set i).subs) (forms : List CellForm) (is : forms ≡ map form_of (device_cells set (device_at set i))) where
  found : slice_get set.devices i ≡ Some (device_at set i)
  found = slice_get-get_or set.devices i (record { instance = 0; desc = no_desc; subs = [] }) lt

  lowest : (k : ℕ) (s : Sub) → slice_get (device_at set i).subs k ≡ Some s → s.desc.minimum ≤ s.desc.version
  lowest k s e =
      let d = device_at set i in
      let same : sub_at d k ≡ s = get_or_from_slice_get d.subs k s (record { desc = no_desc; needed = AtLeast 0 }) e in
      rw same at (leb-true (sub_at d k).desc.minimum (sub_at d k).desc.version (sub_clean set well i k lt (slice_get_within d.subs k s e)).own.1.1.0)

  abbrev slots : List Slot
  slots = image_slots set (device_at set i) image

  ready : image.version ≡ (device_at set i).desc.version → ComeAsNeeded set (device_at set i) image 0 (device_at set i).subs image.came
      → FitSlots image.numbers slots × RulesHold slots → ((c : ℕ) → 0 ≤ c → c < 0 + length (device_cells set (device_at set i)) → has_cell slots c ≡ false
      → get_or image.numbers c (pos 0) ≡ (get_or forms c no_form).default) → IsReady set (device_at set i) image
  ready same needed fits settled =
      let d = device_at set i in
      let n = image.numbers in
      let all = device_cells set d in
      let low : d.desc.minimum ≤ d.desc.version = leb-true d.desc.minimum d.desc.version (device_clean set well i lt).own.1.1.0 in
      let absent : (c : ℕ) → c < length all → has_cell slots c ≡ false → get_or n c (pos 0) ≡ (get_or all c no_cell).default =
      λ c l bare. settled c (omega arith) (omega arith) bare ∙ rw is (form_default all c) in
      record {
        normal = record {
          version = (omega arith, omega arith);
          subs = versions_are set d image 0 d.subs image.came lowest needed;
          cells = record {
            long = cells;
            fits = λ c l. ⊎_elim (λ e. named_fits all n slots c e fits.0 (image_are set d image)) (λ e. rw (absent c l e) (good.defaults i d found c l))
                (cases_Bool (has_cell slots c));
          };
          absent = λ c l bare. absent c (omega arith) bare;
        };
        valid = fits.1;
        version = same;
        needed = needed;
      }

  decides : Decides (device_fine set (device_at set i) forms image) (IsReady set (device_at set i) image)
  decides =
      let d = device_at set i in
      rw (whole_fine set d forms image subs) (Decides-like _ (λ h. ready h.0.0 h.0.1 h.1.0 h.1.1) (λ r. (
        (r.version, r.needed),
        (
          (fit_slots (device_cells set d) image.numbers slots r.normal.cells (image_are set d image) (image_constants set good i d image found), r.valid),
          λ c le l bare. r.normal.absent c (omega arith) bare ∙ sym (rw is (form_default (device_cells set d) c)),
        ),
      )) (Decides-and _ _
      (Decides-and _ _ (Decides-eqb image.version d.desc.version) (needed_are set d image 0 d.subs image.came, are_needed set d image 0 d.subs image.came))
      (Decides-and _ _ (fit_decides image.numbers slots (image_constants set good i d image found))
      (settle_decides slots forms image.numbers 0 (length (device_cells set d))))))

  pub ready_by : (b : Bool) → b ≡ device_fine set (device_at set i) forms image → OnTrue b (IsReady set (device_at set i) image)
  ready_by b e = OnTrue_from b _ (λ is. decides.0 (sym e ∙ is))

  pub other_by : (b : Bool) → b ≡ device_fine set (device_at set i) forms image → OnFalse b (IsReady set (device_at set i) image → ⊥)
  other_by b e = OnFalse_from b _ (λ is ready. let fine = decides.1 ready in cc)
