-- The second pass over a text judges the entries of sections and subsections, in order.
use Rattle.vms_values_laws.proofs.{Facade.Meets, Facade.AreBelow, Facade.has_line, SaidLaws.lines_said, SaidLaws.AreShortSaid, Walk.wrapped, Walk.part_comes}
use Rattle.vms_values_laws.proofs.Facade.{◌≡◌, ℕ, suc, ◌+◌, ◌≤◌, Bool, true, false, not, ◌&&◌, List, ◌∷◌, ◌++◌, length, map}
use Rattle.vms_values_laws.proofs.Facade.{drop, Option, Some, None, ℤ, pos, refl, sym, ap, ◌∙◌, arith, if◌then◌else◌, [], drop-cons}
use Rattle.vms_values_laws.proofs.Facade.{length-append, flat_map, ValuesReason, or_else, Desc, Sub, Device, Set, desc_cells, struct_cells, device_cells}
use Rattle.vms_values_laws.proofs.Facade.{desc_slots, meanings, Image, own_cells, rules_are_true, is_needed, BadLine, ReadDevice, or_bad, if_bad, are_defaults}
use Rattle.vms_values_laws.proofs.Facade.{sub_fails, is_said_well, judge_subs, judge_device, judge_devices, Number, Element, What, is_number, cells_with}
use Rattle.vms_values_laws.proofs.Facade.{cells_of, slots_of, numbers_in, CountsUp, elements_in, printed, Entry, OfSub, OfNumber, subs_entries, device_entries}
use Rattle.vms_values_laws.proofs.Facade.{devices_entries, if_not, rules_hold, has_default, have_defaults, sub_holds, came_well, part_reason, AreShaped, walks}
use Rattle.vms_values_laws.proofs.Facade.{elements_slots, ◌<◌, same_Some, append_cancel_left, map-id, get_or, Ok, Err, append-nil, codes, length-map}
use Rattle.vms_values_laws.proofs.Facade.{signed_decimal, ⊎_elim, cases_lt, get_or-eq_default, wanted_reason, number_entries, demand_of, reason_for, Taken}
use Rattle.vms_values_laws.proofs.Facade.{Follows, Along, Moved, ForNumber, Begins, first_line, number_spelled, Standing, Read, readers, read_desc, IsSound}
use Rattle.vms_values_laws.proofs.Facade.{AreSound, IsShort, number_holds, shapes, desc_elements, Said, Agrees}
use Rattle.vms_values_laws.proofs.SaidLaws.{all_taken, moved_none, ComesTo, At, meets_all, taken_of, Told, told_none, has_said, said_both, lines_both}
use Rattle.vms_spec.specs.declared.ValuesReason.TheVariants as reasons
use Rattle.vms_spec.specs.ValuesReading as reading

abbrev pub as_bad : ℕ → Option ValuesReason → Option BadLine
as_bad line None = None
as_bad line (Some reason) = Some (record { line = line; reason = reason })

-- the first of entries is on this line
abbrev pub parts_from : Set → ℕ → List Entry → Option BadLine
parts_from set line [] = None
parts_from set line (e ∷ es) = or_bad (as_bad line (part_reason set e)) (parts_from set (suc line) es)

-- the lines of subsections
abbrev pub sub_numbers : ℕ → List Entry → List ℕ
sub_numbers line [] = []
sub_numbers line (OfSub d image j s at came ∷ es) = line ∷ sub_numbers (suc line) es
sub_numbers line (_ ∷ es) = sub_numbers (suc line) es

pub subs_past : (line : ℕ) (n : List ℤ) (xs : List Element) (es : List Entry)
    → sub_numbers line (map (λ x. OfNumber x n) xs ++ es) ≡ sub_numbers (line + length xs) es
subs_past line n [] es = ap (λ l. sub_numbers l es) (omega arith)
subs_past line n (x ∷ xs) es = grind (arith, subs_past (suc line) n xs es)

parts_past : (set : Set) (line : ℕ) (n : List ℤ) (xs : List Element) (es : List Entry)
    → parts_from set line (map (λ x. OfNumber x n) xs ++ es) ≡ parts_from set (line + length xs) es
parts_past set line n [] es = ap (λ l. parts_from set l es) (omega arith)
parts_past set line n (x ∷ xs) es = grind (arith, parts_past set (suc line) n xs es)

pub or_bad_assoc : (a b c : Option BadLine) → or_bad (or_bad a b) c ≡ or_bad a (or_bad b c)
or_bad_assoc a b c = grind arith

pub parts_both : (set : Set) (line : ℕ) (es fs : List Entry)
    → parts_from set line (es ++ fs) ≡ or_bad (parts_from set line es) (parts_from set (line + length es) fs)
parts_both set line [] fs = ap (λ l. parts_from set l fs) (omega arith)
parts_both set line (e ∷ es) fs = grind (arith, or_bad_assoc, parts_both set (suc line) es fs)

pub rules_same : (xs : List Element) → rules_hold xs ≡ rules_are_true (slots_of xs)
rules_same [] = refl
rules_same (x ∷ xs) = grind (arith, rules_same xs)

pub defaults_same : (n : List ℤ) (at : ℕ) (xs : List Element) → CountsUp at (numbers_in xs) → at + length (cells_of xs) ≤ length n
    → have_defaults n xs ≡ are_defaults (cells_of xs) (drop at n)
defaults_same n at [] up room = refl
defaults_same n at (x ∷ xs) up room = by_what x.what (λ next. defaults_same n next xs) up room where
  by_what : (w : What)
      → ((next : ℕ) → CountsUp next (numbers_in xs) → next + length (cells_of xs) ≤ length n → have_defaults n xs ≡ are_defaults (cells_of xs) (drop next n))
      → CountsUp at (if is_number w then x ∷ numbers_in xs else numbers_in xs) → at + length (cells_with w (cells_of xs)) ≤ length n
      → (has_default n x.cell w && have_defaults n xs) ≡ are_defaults (cells_with w (cells_of xs)) (drop at n)
  by_what (Number cell) more up room =
      let next : suc at ≡ at + 1 = omega arith in
      rw (drop-cons n at (pos 0) (omega arith), up.0, next, more (at + 1) up.1 (omega arith))
  by_what _ more up room = more at up room

module _ (set : Set) where
  pub desc_rules : (d : Desc) (v : ℕ) (n : List ℤ) (at : ℕ) → rules_hold (elements_in set d v n at) ≡ rules_are_true
      (desc_slots (meanings set.structs (length set.structs)) d v n at)
  desc_rules d v n at = cc (rules_same (elements_in set d v n at), elements_slots set d v n at)

  pub desc_defaults : (d : Desc) (v : ℕ) (n : List ℤ) (at : ℕ) → at + length (desc_cells (struct_cells set) d) ≤ length n
      → have_defaults n (elements_in set d v n at) ≡ are_defaults (desc_cells (struct_cells set) d) (drop at n)
  desc_defaults d v n at room =
      let cells = (walks set d v v n n at at).cells_are in
      defaults_same n at (elements_in set d v n at) (walks set d v v n n at at).up (rw cells room) ∙ rw cells

  sub_same : (s : Sub) (o : Option ℕ) (n : List ℤ) (at : ℕ) → sub_fails set s o n at ≡ not (sub_holds set s o n at)
  sub_same s None n at = refl
  sub_same s (Some v) n at = ap not (sym (desc_rules s.desc v n at))

  well_same : (needed : Bool) (o : Option ℕ) (a b : Bool) → a ≡ b → (if needed then reading.came o else (not (reading.came o) && a)) ≡ came_well needed o b
  well_same true o a b e = refl
  well_same false o a b e = rw e

  one_part : (a b : Bool) (line : ℕ) (o : Option BadLine)
      → or_bad (if_bad (not a) line reasons.Invalid) (or_bad (if_bad (not b) line reasons.Needed) o) ≡ or_bad
      (as_bad line (or_else (if_not a reasons.Invalid) (if_not b reasons.Needed))) o
  one_part a b line o = grind arith

  abbrev cells_long : List Sub → ℕ
  cells_long subs = length (flat_map (λ s. desc_cells (struct_cells set) s.desc) subs)

  pub subs_judged : (d : Device) (image : Image) (j at : ℕ) (subs : List Sub) (came : List (Option ℕ)) (line : ℕ) → at + cells_long subs ≤ length image.numbers
      → judge_subs set d image j at subs came (sub_numbers line (subs_entries set d image j at subs came)) ≡ parts_from set line
      (subs_entries set d image j at subs came)
  subs_judged d image j at (s ∷ subs) (o ∷ came) line room =
      let size = length (desc_cells (struct_cells set) s.desc) in
      let long : cells_long (s ∷ subs) ≡ size + cells_long subs =
      length-append (desc_cells (struct_cells set) s.desc) (flat_map (λ s. desc_cells (struct_cells set) s.desc) subs) in
      let others = subs_entries set d image (suc j) (at + size) subs came in
      let xs = printed (elements_in set s.desc s.desc.version image.numbers at) in
      let next = suc line + length xs in
      let well = came_well (is_needed set d image s j) o (have_defaults image.numbers (elements_in set s.desc s.desc.version image.numbers at)) in
      let well_is : (is_said_well set d image j s o at) ≡ well =
      well_same _ o _
      _ (sym (desc_defaults s.desc _ _ at (omega arith))) in
      rw (
        subs_past (suc line) image.numbers xs others,
        subs_judged d image (suc j) (at + size) subs came next (omega arith),
        sub_same s o image.numbers at,
        well_is,
        parts_past set (suc line) image.numbers xs others,
      ) (one_part (sub_holds set s o image.numbers at) well line (parts_from set next others))
  subs_judged d image j at _ _ line room = refl

  -- what was read of a device has the lines of its entries, the first of which is on this line
  pub record IsLined (d : Device) (line : ℕ) (r : ReadDevice) : Type 0 where
    pub own : r.line ≡ line
    pub subs : r.sub_lines ≡ sub_numbers line (device_entries set d r.image)

  abbrev pub AreLined : ℕ → List Device → List ReadDevice → Type 0
  AreLined line (d ∷ devices) (r ∷ read) = IsLined d line r × AreLined (line + length (device_entries set d r.image)) devices read
  AreLined line _ _ = Unit {0}

  section_judged : (a : Bool) (line : ℕ) (o : Option BadLine)
      → or_bad (if_bad (not a) line reasons.Invalid) o ≡ or_bad (as_bad line (if_not a reasons.Invalid)) o
  section_judged a line o = grind arith

  device_judged : (d : Device) (line : ℕ) (r : ReadDevice) → IsLined d line r → length r.image.numbers ≡ length (device_cells set d)
      → judge_device set d r ≡ parts_from set line (device_entries set d r.image)
  device_judged d line r lined long =
      let image = r.image in
      let xs = printed (elements_in set d.desc d.desc.version image.numbers 0) in
      let subs = subs_entries set d image 0 (own_cells set d) d.subs image.came in
      let next = suc line + length xs in
      let room : own_cells set d + cells_long d.subs ≤ length image.numbers =
      omega (arith, length-append (desc_cells (struct_cells set) d.desc) (flat_map (λ s. desc_cells (struct_cells set) s.desc) d.subs)) in
      rw (
        lined.own,
        lined.subs ∙ subs_past _ _ xs subs,
        subs_judged d image 0 _ d.subs _ next room,
        ← (desc_rules d.desc image.version image.numbers 0),
        parts_past set (suc line) image.numbers xs subs,
      ) (section_judged (rules_hold (elements_in set d.desc image.version image.numbers 0)) line (parts_from set next subs))

  pub devices_judged : (line : ℕ) (devices : List Device) (read : List ReadDevice) → AreLined line devices read
      → AreShaped set devices (map (λ (r : ReadDevice). r.image) read)
      → judge_devices set devices read ≡ parts_from set line (devices_entries set devices (map (λ (r : ReadDevice). r.image) read))
  devices_judged line (d ∷ devices) (r ∷ read) lined shaped =
      let es = device_entries set d r.image in
      let fs = devices_entries set devices (map (λ (r : ReadDevice). r.image) read) in
      rw (device_judged d line r lined.0 shaped.0.cells, devices_judged (line + length es) devices read lined.1 shaped.1) (sym (parts_both set line es fs))
  devices_judged line _ _ lined shaped = refl

-- ---- Following what was taken, part after part.

-- what may be somewhere doesn't depend on the state
pub reason_same : (e : Entry) (o : Option (List ℕ × List ℕ)) → wanted_reason e o ≡ reason_for (demand_of e) o
reason_same e o = grind arith

pub follows_then : (taken more : List Taken) (P Q : List Entry → Type 0) (es : List Entry) → Follows taken P es
    → ((xs : List Entry) → P xs → Follows more Q xs) → Follows (taken ++ more) Q es
follows_then [] more P Q es f h = h es f
follows_then (t ∷ taken) more P Q [] f h = absurd f
follows_then (t ∷ taken) more P Q (e ∷ es) f h = (f.0, λ x. follows_then taken more P Q es (f.1 x) h)

pub along_then : (taken more : List Taken) (P Q : List Entry → Type 0) (es : List Entry) → Along taken P es → ((xs : List Entry) → P xs → Along more Q xs)
    → Along (taken ++ more) Q es
along_then [] more P Q es f h = h es f
along_then (t ∷ taken) more P Q [] f h = absurd f
along_then (t ∷ taken) more P Q (e ∷ es) f h = (f.0, along_then taken more P Q es f.1 h)

-- ---- The numbers of one description, read as entries.

-- numbers of at most 64 bits
abbrev pub AreShort : List ℤ → Type 0
AreShort numbers = (c : ℕ) → IsShort (get_or numbers c (pos 0))

pub short_within : (n : List ℤ) → ((c : ℕ) → c < length n → IsShort (get_or n c (pos 0))) → AreShort n
short_within n h c = ⊎_elim (λ (lt : c < length n). h c lt) (λ (ge : length n ≤ c). rw (get_or-eq_default n (pos 0) ge) (omega arith)) (cases_lt c (length n))

-- entries of these elements, in a state
abbrev pub of_numbers : List ℤ → List Element → List Entry
of_numbers n xs = map (λ x. OfNumber x n) xs

pub number_same : (name : List ℕ) (y z : ℤ) → IsShort y → IsShort z → name ++ (codes " = " ++ signed_decimal y) ≡ name ++ (codes " = " ++ signed_decimal z)
    → y ≡ z
number_same name y z p q e =
    let same = append_cancel_left (codes " = ") (signed_decimal y) (signed_decimal z) (append_cancel_left name _ _ e) in
    same_Some y z (sym (number_holds y p) ∙ ap number_spelled same ∙ number_holds z q)

pub follows_meets : (said : List Said) (left : List Element) (n : List ℤ) (xs : List Element) (more : List Entry) (P : List Entry → Type 0) → AreShort n
    → AreShortSaid said → Meets said left n xs → P (of_numbers n left ++ more) → Follows (all_taken said) P (of_numbers n xs ++ more)
follows_meets [] left n xs more P short said-short h p = rw h p
follows_meets (s ∷ said) left n [] more P short said-short h p = absurd h
follows_meets (s ∷ said) left n (x ∷ xs) more P short said-short h p = (
  ap ForNumber h.0,
  λ e. follows_meets said left n xs more P short said-short.1
      (h.1 (number_same _ _ _ (short s.element.cell) said-short.0 (rw h.0 at e))) p,
)

pub along_meets : (said : List Said) (left : List Element) (n : List ℤ) (xs : List Element) (more : List Entry) (P : List Entry → Type 0) → Agrees said n
    → Meets said left n xs → P (of_numbers n left ++ more) → Along (all_taken said) P (of_numbers n xs ++ more)
along_meets [] left n xs more P a h p = rw h p
along_meets (s ∷ said) left n [] more P a h p = absurd h
along_meets (s ∷ said) left n (x ∷ xs) more P a h p = (rw (h.0, a.0), along_meets said left n xs more P a.1 (h.1 a.0) p)

-- ---- a description that was read, or not

-- what lines up to a place said, if entries that have these lines go on like this
pub record NumbersSaid (set : Set) (d : Desc) (at : ℕ) (p : Standing) (numbers : List ℤ) (line : ℕ) (rest : List ℕ)
    (Then : List Entry → List Entry → Type 0) : Type 0 where
  pub said : List Said
  pub told : Told at p.numbers said numbers
  pub follows : (n : List ℤ) (more : List Entry) → AreShort n → Follows (all_taken said) (Then more) (number_entries set d n at ++ more)
  pub along : (n : List ℤ) (more : List Entry) → Agrees said n → Along (all_taken said) (Then more) (number_entries set d n at ++ more)
  pub moved : Moved p.line p.rest (all_taken said) line rest

pub record NumbersRead (set : Set) (d : Desc) (at : ℕ) (p q : Standing) : Type 0 where
  pub whole : NumbersSaid set d at p q.numbers q.line q.rest (λ more es. es ≡ more)
  pub open whole use *
  pub below : AreBelow (at + length (desc_cells (struct_cells set) d)) said
  -- the elements that are printed are those about which something was said
  pub heard : (n : List ℤ) → Agrees said n → printed (elements_in set d d.version n at) ≡ map (λ (s : Said). s.element) said

pub record NumbersStop (set : Set) (d : Desc) (at : ℕ) (p : Standing) (e : BadLine) : Type 0 where
  pub place : Standing
  pub element : Element
  pub before : NumbersSaid set d at p place.numbers e.line place.rest (λ more es. Begins (ForNumber element) es)
  pub open before use *
  pub wrong : reason_for (ForNumber element) (first_line place.rest) ≡ Some e.reason

-- what comes after the numbers
module _ {set : Set} {d : Desc} {at : ℕ} {p q : Standing} (n : NumbersRead set d at p q) where
  pub heard_on : (numbers : List ℤ) (es : List Entry) (said : List Said) (c : ℕ) → Agrees n.said numbers → has_line es c ≡ has_said said c
      → has_line (number_entries set d numbers at ++ es) c ≡ has_said (n.said ++ said) c
  heard_on numbers es said c agrees h = grind (arith, lines_both, lines_said, said_both)

  -- the lines of subsections after them
  pub lines_on : (numbers : List ℤ) (es : List Entry) → Agrees n.said numbers
      → sub_numbers p.line (number_entries set d numbers at ++ es) ≡ sub_numbers q.line es
  lines_on numbers es agrees =
      let xs = printed (elements_in set d d.version numbers at) in
      let on : p.line + length xs ≡ q.line =
      omega (arith, ap length (n.heard numbers agrees) ∙ length-map n.said (λ (s : Said). s.element), length-map n.said (λ (s : Said). taken_of s)) in
      subs_past p.line _ xs es ∙ ap (λ l. sub_numbers l es) on

abbrev pub NumbersCome : Set → Desc → ℕ → Standing → Read → Type 0
NumbersCome set d at p (Ok q) = NumbersRead set d at p q
NumbersCome set d at p (Err e) = NumbersStop set d at p e

module _ (set : Set) (d : Desc) (at : ℕ) (p : Standing) where
  abbrev total : List ℤ → List Element
  total n = wrapped [] [] true (desc_elements (shapes set) d d.version n at)

  entries_are : (n : List ℤ) → of_numbers n (total n) ≡ number_entries set d n at
  entries_are n = rw (map-id (printed (desc_elements (shapes set) d d.version n at)))

  abbrev said_of_at : {cell : ℕ} {q : Standing} {said : List Said} {left : List ℤ → List Element} (line : ℕ) (Then : List Entry → List Entry → Type 0)
      → At total p at cell q said left
      → q.line ≡ line → ((n : List ℤ) (more : List Entry) → Then more (of_numbers n (left n) ++ more)) → NumbersSaid set d at p q.numbers line q.rest Then
  said_of_at {q = q} {said = said} {left = left} line Then a is next =
      record {
        said = said;
        told = a.told;
        follows = λ n more short. rw (← (entries_are n)) (follows_meets said _ n _ more _ short a.short (a.meets n) (next n more));
        along = λ n more agrees. rw (← (entries_are n)) (along_meets said _ n _ more _ agrees (a.meets n) (next n more));
        moved = rw (← is) a.moved;
      }

  from_comes : (r : Read) → ComesTo total p at (at + length (desc_cells (struct_cells set) d)) [] [] (λ m. []) r → NumbersCome set d at p r
  from_comes (Ok q) f =
      record {
        whole = said_of_at q.line (λ more es. es ≡ more) f.stands refl (λ n more. refl);
        below = f.stands.below;
        heard = λ n agrees. sym (map-id _) ∙ meets_all f.said [] n _ agrees (f.stands.meets n) ∙ append-nil (map (λ (s : Said). s.element) f.said);
      }
  from_comes (Err e) s =
      record {
        place = s.place;
        element = s.element;
        before = said_of_at e.line (λ more es. Begins (ForNumber s.element) es) s.stood (sym s.line)
            (λ n more. record { first = OfNumber s.element n; others = _; is = refl; demands = refl });
        wrong = s.wrong;
      }

  pub numbers_come : AreSound set.structs → IsSound d → at + length (desc_cells (struct_cells set) d) ≤ length p.numbers
      → NumbersCome set d at p (read_desc (readers set) d d.version [] true at p)
  numbers_come structs sound room =
      let started : At total p at at p [] (λ m. total m ++ []) =
      record { meets = λ m. sym (append-nil (total m)); below = tt; up = omega arith; told = told_none at _; moved = moved_none p.line p.rest } in
      from_comes _ (part_comes total p at set d at p [] (λ m. []) structs sound room started).comes
