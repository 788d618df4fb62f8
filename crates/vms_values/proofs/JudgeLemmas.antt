-- Validations along steps, also of a set that has none, and defaults of cells.
use Rattle.vms_values.proofs.Facade
use Facade.{AtLeast, get_or-drop, drop-drop, ◌≡◌, ℕ, suc, zero, ◌+◌, ◌<◌, ◌≤◌, Bool, true, false, not, if◌then◌else◌, Option, Some}
use Facade.{None, ◌&&◌, List, [], ◌∷◌, ◌++◌, length, get_or, drop, map, ℤ, pos, refl, sym, ap, ◌∙◌, arith, append_assoc, length-append}
use Facade.{◌==◌, flat_map, list_all, drop_more, drop_all, drop-map, map-append, drop-append_seam, eqb-true, and_parts, and-true, Set, Sub, Field, Desc}
use Facade.{ValuesReason, sub_first, sub_next, Image, sub_place, own_cells, own_slots, own_cell_count, first_cell, own_numbers, device_at, sub_at, desc_at}
use Facade.{Cell, Slot, no_desc, desc_cells, struct_cells, device_cells, Rule, Meaning, no_meaning, item_slots, times, field_slots, slots_from, desc_slots}
use Facade.{field_cells, numbers_of, all_hold, first, meaning, meanings, rules_are_true, BadLine, ReadDevice, are_defaults, or_bad, if_bad, sub_fails}
use Facade.{is_said_well, judge_subs, judge_device, CellForm, form_of, desc_of, formula, steps_of, spot_slots, no_form, settle, steps_hold, sub_judged}
use Facade.{sub_defaults, Item, cells_first, one_more, Test, PartAt, ◌*◌, ◌^◌, sum_by, Ok, Err, Result, sum_by-cons, ForSome, FitsHeads, Device}
use Facade.{values_read, ValuesRead, Values, Bad, ReadAll, ended, judged, answer_of, Refused, state_of, is_well_formed, few_cells, few_devices, fit_of}
use Facade.{few_subs, line_holds, read_holds, ReadsBy, MeansAs, LineFault, Reading, machine_of, bad_of, AllRead, ToldAs}
use Rattle.vms_values.specs.{declared.fault.Values.Values as Given, declared.judge.BadLine.BadLine as Found}
use Rattle.vms_parts.specs.declared.types.Desc.{Desc as Described}
use Rattle.vms_values_laws.specs.Laws.{device_lines}
use Rattle.vms_spec.specs.declared.Part.TheVariants as parts
use Rattle.vms_spec.specs.declared.ValuesReason.TheVariants as reasons
use Rattle.vms_spec.specs.Layout as slots
use Rattle.vms_values.specs.declared.fault.LineFault.TheVariants as faults

-- at the steps of slots, exactly if the slots' rules are true
pub steps_true : (xs : List Slot) → steps_hold (steps_of xs) ≡ rules_are_true xs
steps_true [] = refl
steps_true (slots.Rule b ∷ xs) = rw (steps_true xs)
steps_true (_ ∷ xs) = steps_true xs

-- the cells from a place on have these forms, and then others
pub settle_defaults : (cells : List Cell) (forms rest : List CellForm) (numbers : List ℤ) (at : ℕ) → drop at forms ≡ map form_of cells ++ rest → at + length cells ≤ length numbers
    → settle [] forms numbers at (length cells) ≡ are_defaults cells (drop at numbers)
settle_defaults [] forms rest numbers at e le = refl
settle_defaults (c ∷ cells) forms rest numbers at e le =
    let here : at ≡ at + 0 = omega arith in
    let same : get_or forms at no_form ≡ form_of c = ap (λ k. get_or forms k no_form) here ∙ rw (← get_or-drop at forms 0 no_form, e) in
    let later : drop (at + 1) forms ≡ map form_of cells ++ rest = rw (← drop-drop 1 at forms, e) in
    rw (same, settle_defaults cells forms rest numbers (at + 1) later (omega arith), drop_more numbers at (pos 0) (omega arith))

-- ---- the cells of a subsection among those of its device

cells_from_sub : (set : Set) (front : List Cell) (at : ℕ) (subs : List Sub) (j : ℕ) (none : Sub) → at ≡ length front → j < length subs
    → drop (sub_place set at subs j) (front ++ flat_map (λ s. desc_cells (struct_cells set) s.desc) subs)
    ≡ desc_cells (struct_cells set) (get_or subs j none).desc ++ flat_map (λ s. desc_cells (struct_cells set) s.desc) (drop (j + 1) subs)
cells_from_sub set front at [] j none e lt = absurd (omega arith)
cells_from_sub set front at (s ∷ subs) zero none e lt =
    rw e (drop-append_seam front (flat_map (λ s. desc_cells (struct_cells set) s.desc) (s ∷ subs)))
cells_from_sub set front at (s ∷ subs) (suc j) none e lt =
    let own = desc_cells (struct_cells set) s.desc in
    let one : suc j + 1 ≡ suc (j + 1) = omega arith in
    rw (← append_assoc front own (flat_map (λ s. desc_cells (struct_cells set) s.desc) subs), one)
    (cells_from_sub set (front ++ own) (at + length own) subs j none (rw e (sym (length-append front own))) (omega arith))

-- the defaults of a subsection's cells
pub bare_defaults : (set : Set) (i j : ℕ) (numbers : List ℤ) → j < length (device_at set i).subs → first_cell set (parts.Sub i j) + own_cell_count set (sub_at (device_at set i) j).desc ≤ length numbers
    → settle [] (map form_of (device_cells set (device_at set i))) numbers (first_cell set (parts.Sub i j)) (own_cell_count set (sub_at (device_at set i) j).desc) ≡ sub_defaults set i j numbers
bare_defaults set i j numbers lt room =
    let d = device_at set i in
    let rest = flat_map (λ s. desc_cells (struct_cells set) s.desc) (drop (j + 1) d.subs) in
    settle_defaults _ _ _ _ _ (drop-map form_of (first_cell set (parts.Sub i j)) (device_cells set d)
    ∙ ap (map form_of) (cells_from_sub set _ _ _ _ _ refl lt) ∙ map-append form_of (desc_cells (struct_cells set) (sub_at d j).desc) rest)
    room

-- the first bad line of the subsections from number j on
abbrev pub judged_from : Set → ℕ → Image → List ℕ → ℕ → Option BadLine
judged_from set i image lines j =
    judge_subs set (device_at set i) image j (first_cell set (parts.Sub i j)) (drop j (device_at set i).subs) (drop j image.came) (drop j lines)

abbrev with_reason : ℕ → Option ValuesReason → Option BadLine → Option BadLine
with_reason line None next = next
with_reason line (Some reason) next = Some (record { line = line; reason = reason })

module _ (set : Set) (i : ℕ) (image : Image) (lines : List ℕ) (j line : ℕ) (lt : j < length (device_at set i).subs) (lc : j < length image.came) (ll : j < length lines) (is : line ≡ get_or lines j 0) where
  pub judged_next : (o : Option ValuesReason) → sub_judged set i j image ≡ o
      → judged_from set i image lines j ≡ with_reason line o (judged_from set i image lines (j + 1))
  judged_next o e =
      let d = device_at set i in
      let at = first_cell set (parts.Sub i j) in
      let s = sub_at d j in
      let o = get_or image.came j None in
      let one : suc j ≡ j + 1 = omega arith in
      let none : Sub = record { desc = no_desc; needed = AtLeast 0 } in
      rw (← e, drop_more d.subs j none lt, drop_more image.came j None lc, drop_more lines j 0 ll, ← is, sub_next set (own_cells set d) d.subs j none lt, one)
      (by (sub_fails set s o image.numbers at) (is_said_well set d image j s o at)
      (judge_subs set d image (j + 1) (at + length (desc_cells (struct_cells set) s.desc)) (drop (j + 1) d.subs) (drop (j + 1) image.came) (drop (j + 1) lines)))
    where
      by : (fails well : Bool) (next : Option BadLine) → or_bad (if_bad fails line reasons.Invalid) (or_bad (if_bad (not well) line reasons.Needed) next)
          ≡ with_reason line (if fails then Some reasons.Invalid else if not well then Some reasons.Needed else None) next
      by true well next = refl
      by false true next = refl
      by false false next = refl

pub judged_end : (set : Set) (i : ℕ) (image : Image) (lines : List ℕ) (j : ℕ) → length (device_at set i).subs ≡ j → judged_from set i image lines j ≡ None
judged_end set i image lines j e = rw (drop_all j (device_at set i).subs (omega arith))

pub own_holds : (set : Set) (i : ℕ) (r : ReadDevice) → rules_are_true (own_slots set (device_at set i) r.image.version r.image.numbers) ≡ true
    → judge_device set (device_at set i) r ≡ judged_from set i r.image r.sub_lines 0
own_holds set i r e =
    let d = device_at set i in rw (e, sub_first set (own_cells set d) d.subs)

-- ---- The validations of a part, if no structure of the set has any.

-- the rules of each structure are true
abbrev pub AllTrue : List Meaning → Type 0
AllTrue ms = (j : ℕ) (n : List ℤ) (at : ℕ) → rules_are_true ((get_or ms j no_meaning).slots n at) ≡ true

true_append : (xs ys : List Slot) → rules_are_true xs ≡ true → rules_are_true (xs ++ ys) ≡ rules_are_true ys
true_append [] ys h = refl
true_append (Rule false ∷ xs) ys h = cc
true_append (_ ∷ xs) ys h = true_append xs ys h

times_true : (part : ℕ → List Slot) → ((at : ℕ) → rules_are_true (part at) ≡ true) → (n at step : ℕ) → rules_are_true (times n part at step) ≡ true
times_true part h zero at step = refl
times_true part h (suc n) at step = true_append (part at) (times n part (at + step) step) (h at) ∙ times_true part h n (at + step) step

module _ (ms : List Meaning) (all : AllTrue ms) where
  item_true : (item : Item) (caps : List ℕ) (n : List ℤ) (at : ℕ) → rules_are_true (item_slots ms item caps n at) ≡ true
  item_true item caps n at = grind arith

  fields_true : (fields : List Field) (v : ℕ) (own : ℕ → ℕ) (n : List ℤ) (i at : ℕ) (fs : List Field) → rules_are_true (slots_from ms fields v own n i at fs) ≡ true
  fields_true fields v own n i at [] = refl
  fields_true fields v own n i at (f ∷ fs) =
      let next = at + length (field_cells (map (λ m. m.cells) ms) fields i f) in
      true_append (field_slots ms fields v own n i at f) (slots_from ms fields v own n (suc i) next fs) (grind (arith, times_true, item_true))
      ∙ fields_true fields v own n (suc i) next fs

  desc_true : (d : Desc) (v : ℕ) (n : List ℤ) (at : ℕ) → rules_are_true (desc_slots ms d v n at) ≡ all_hold d.validate v (numbers_of (map (λ m. m.cells) ms) d n at)
  desc_true d v n at = grind (arith, true_append, fields_true, and-true)

meanings_true : (ds : List Desc) → ((k : ℕ) → (get_or ds k no_desc).validate ≡ []) → (k : ℕ) → AllTrue (meanings ds k)
unfolding first
meanings_true ds none zero j n at = refl
meanings_true ds none (suc k) j n at =
    let earlier = meanings ds k in
    let d = get_or ds k no_desc in
    one_more (λ (m : Meaning). (n : List ℤ) (at : ℕ) → rules_are_true (m.slots n at) ≡ true) no_meaning (λ n at. refl) earlier (meanings_true ds none k) (meaning earlier d)
    (λ n at. rw (desc_true earlier (meanings_true ds none k) d d.version n at, none k)) j n at

-- no structure has validations
unruled_at : (ds : List Described) → list_all (λ d. length d.validate == 0) ds ≡ true → (k : ℕ) → (get_or (map desc_of ds) k no_desc).validate ≡ []
unruled_at [] h k = refl
unruled_at (d ∷ ds) h k = by _ (list_all (λ d. length d.validate == 0) ds) h (unruled_at ds) _ where
  by : (ts : List Test) (rest : Bool) → ((length ts == 0) && rest) ≡ true → (rest ≡ true → (k : ℕ) → (get_or (map desc_of ds) k no_desc).validate ≡ [])
      → (k : ℕ) → (get_or (record { name = d.name; version = d.version; minimum = d.minimum; fields = (desc_of d).fields; validate = map formula ts } ∷ map desc_of ds) k no_desc).validate ≡ []
  by [] rest h later zero = refl
  by [] rest h later (suc k) = later h k
  by (t ∷ ts) rest h later k = absurd (omega (arith, eqb-true (length (t ∷ ts)) 0 (and_parts _ _ h).0))

pub own_rules : (set : Set) (ds : List Described) (spot : PartAt) (n : List ℤ) → map desc_of ds ≡ set.structs → list_all (λ d. length d.validate == 0) ds ≡ true
    → all_hold (desc_at set spot.part).validate spot.version (own_numbers set spot.part n spot.base) ≡ rules_are_true (spot_slots set spot n)
own_rules set ds spot n same h =
    let none : (k : ℕ) → (get_or set.structs k no_desc).validate ≡ [] = λ k. rw (sym same) (unruled_at ds h k) in
    let d = desc_at set spot.part in
    rw (sym (cells_first set.structs (length set.structs))) (sym (desc_true _ (meanings_true set.structs none (length set.structs)) d spot.version n spot.base))

abbrev no_device : Device
no_device = record { instance = 0; desc = no_desc; subs = [] }

few_each : (set : Set) (most : ℕ) (devices : List Device) → ((i : ℕ) → i < length devices → device_lines set (get_or devices i no_device) ≤ most) → sum_by (device_lines set) devices ≤ length devices * most
few_each set most [] h = omega arith
few_each set most (d ∷ devices) h =
    let here : device_lines set d ≤ most = h 0 (omega arith) in
    omega (arith, few_each set most devices (λ i lt. h (suc i) (omega arith)), sum_by-cons (device_lines set) d devices)

-- such a number is known as the line of the text
pub line_fits : (set : Set) → is_well_formed set ≡ true → FitsHeads set → (text : List ℕ) (line : ℕ) (reason : ValuesReason) → ReadsBy set (values_read set text) (Err (faults.Bad line reason)) → line < 2 ^ 32
line_fits set well heads text line reason h = go (values_read set text) refl h where
  go : (v : ValuesRead) → values_read set text ≡ v → ReadsBy set v (Err (faults.Bad line reason)) → line < 2 ^ 32
  go (Values machine images) e h = absurd h
  go (Bad l why) e h = omega (arith, line_holds set text l why (fit_of set well heads) e, few_each set 16417 set.devices (λ i lt. omega (arith, few_subs set well i lt, few_cells set well i)), few_devices set well)

-- what is read of a text is what it means
pub read_means : (set : Set) → is_well_formed set ≡ true → FitsHeads set → (text : List ℕ) (v : Given) → ReadsBy set (values_read set text) (Ok v) → MeansAs set text (Ok v)
read_means set well heads text v h = grind (arith, read_holds, fit_of)

pub bad_means : (set : Set) → is_well_formed set ≡ true → FitsHeads set → (text : List ℕ) (line : ℕ) (reason : ValuesReason) → ReadsBy set (values_read set text) (Err (faults.Bad line reason))
    → Refused set text line reason
bad_means set well heads text line reason h = grind (arith, read_holds, fit_of)

-- ---- What the whole text says, by its devices and their second pass.

-- what follows if the whole text was read
whole : (set : Set) (m : Option (List ℕ)) (all : ReadAll) (old new : Reading) (images : List Image) → AllRead set (Ok all) old new (Ok images) → new.lines.rest.now ≡ [] → old.judged ≡ None
    → ended set m (Ok all) ≡ answer_of m all.devices (bad_of new.judged)
whole set m all old new images h none first =
    rw (h.2 ∙ none, h.3, first)

pub text_read : (set : Set) (m : Option (List ℕ)) (r : Result ReadAll BadLine) (old new : Reading) (v : Given) → AllRead set r old new (Ok (map state_of v.images.items)) → new.lines.rest.now ≡ [] → old.judged ≡ None
    → new.judged ≡ None → machine_of set v.machine ≡ m → ForSome v.machine (λ k. k < length set.machines) → ReadsBy set (ended set m r) (Ok v)
text_read set m r old new v h none first fine is known = grind arith

pub text_judged : (set : Set) (m : Option (List ℕ)) (r : Result ReadAll BadLine) (old new : Reading) (images : List Image) (b : Found) → AllRead set r old new (Ok images) → new.lines.rest.now ≡ [] → old.judged ≡ None
    → new.judged ≡ Some b → ReadsBy set (ended set m r) (Err (faults.Bad b.line b.reason))
text_judged set m r old new images b h none first found = grind arith

pub text_longer : (set : Set) (m : Option (List ℕ)) (r : Result ReadAll BadLine) (old new : Reading) (images : List Image) → AllRead set r old new (Ok images) → (new.lines.rest.now ≡ [] → ⊥)
    → ReadsBy set (ended set m r) (Err (faults.Bad new.lines.line reasons.Form))
text_longer set m r old new images h some = grind arith

pub text_refused : (set : Set) (m : Option (List ℕ)) (r : Result ReadAll BadLine) (old new : Reading) (e : LineFault) → AllRead set r old new (Err e) → ReadsBy set (ended set m r) (Err e)
text_refused set m (Ok all) old new (faults.Bad line reason) h = absurd h
text_refused set m (Err b) old new (faults.Bad line reason) h = h
text_refused set m r old new faults.NoMemory h = grind arith

pub text_told : (set : Set) (m : Option (List ℕ)) (r : Result ReadAll BadLine) (old new : Reading) (v : Given) (result : Result Given LineFault) → AllRead set r old new (Ok (map state_of v.images.items)) → new.lines.rest.now ≡ []
    → old.judged ≡ None → machine_of set v.machine ≡ m → ForSome v.machine (λ k. k < length set.machines) → ToldAs new.judged v result → ReadsBy set (ended set m r) result
text_told set m r old new v result h none first is known t = grind (arith, text_judged)
