-- Which sets are compatible: worked examples, and the shipped sets.
use Rattle.vms_check.proofs.Facade
use Facade.{◌≡◌, ℕ, List, [], ◌∷◌, Option, Some, None, pos, refl, codes, U8, U16, I8, Equal, Unused, Struct, Place, Fixed, Counted, Eq, Lt, Own}
use Facade.{Set, Desc, Field, Sub, Formula, Below, Cell, And, first, here, in_field, Mismatch, first_mismatch, carried, set_0, set_1, set_3, number, box}
use Facade.{box_set, counted_set, subsection_set, tested_set, empty_set, zero, suc, ◌<◌, ◌≤◌, length, get_or, drop, Bool, true, sym, ap, ◌∙◌}
use Facade.{arith, ◌&&◌, is_none, list_all, and_parts, NEWEST_SET, shipped_sets, shipped_set, none_is, numbered, Compatible}
use Rattle.vms_spec.proofs.Examples.{sub_of}
use Rattle.vms_spec.specs.declared.Part.TheVariants as parts

-- ---- which sets are compatible, and what is carried over

unfoldable compared : Set → Set → Option Mismatch
unfolding first_mismatch
compared old new = first_mismatch old new

abbrev mismatch : ℕ → Place → Place → Option Mismatch
mismatch rule a b = Some (record { rule = rule; in_old = a; in_new = b })

-- the set, its first device, and field k of that device
abbrev whole : Place
whole = here parts.Set

abbrev device : Place
device = here (parts.Device 0)

abbrev field : ℕ → Place
field k = in_field (parts.Device 0) k

-- a box of a version, with the minimum 1
abbrev box_at : ℕ → List Field → List Formula → List Sub → Set
box_at version fields validate subs = record { machines = codes "lab" ∷ []; structs = []; devices = box version fields validate subs ∷ [] }

abbrev n : Field
n = number U8 (codes "n")

-- v counted by n
abbrev v_of : ℕ → Field
v_of most = record (number U16 (codes "v")) { count = Counted 0 most }

abbrev constant : ℕ → Set
constant z = box_set (record n { item = Equal U8 (pos z) } ∷ []) [] []

abbrev old_sub : Sub
old_sub = sub_of (codes "box/p") (codes "x") 5

abbrev raised : Desc → Desc
raised d = record d { version = 3; minimum = 2 }

-- ---- structures

abbrev point : ℕ → List Field → Desc
point version fields = record { name = codes "pt"; version = version; minimum = 1; fields = fields; validate = [] }

abbrev x : Field
x = number U8 (codes "x")

abbrev y : Field
y = record (number U8 (codes "y")) { since = 2 }

abbrev with_point : Desc → Set
with_point d = record (box_set (record (number U8 (codes "p")) { item = Struct 0 } ∷ []) [] []) { structs = d ∷ [] }

-- ---- carried numbers

abbrev two_numbers : Set
two_numbers = box_set (number U8 (codes "a") ∷ number U8 (codes "b") ∷ []) [] []

-- a renamed, b covered by unused bytes, d new, and a new subsection
abbrev newer : Set
newer = box_at 2 (record (number U8 (codes "c")) { former = codes "a" ∷ [] } ∷ record (number U8 (codes "gap")) { item = Unused 1 }
    ∷ record (number U16 (codes "d")) { since = 2; default = pos 300 } ∷ []) [] (old_sub ∷ [])

record ComparedRows : Type 0 where
  -- the shipped sets
  refuses_a_newer_machine : compared set_3 set_1 ≡ mismatch 1 whole whole
  refuses_a_device_that_new_has_not : compared (record set_0 { machines = [] }) empty_set ≡ mismatch 2 device whole
  refuses_a_device_that_old_has_not : compared empty_set (record set_0 { machines = [] }) ≡ mismatch 3 whole device
  -- versions, fields, counts, kinds, tests, names
  refuses_a_newer_version : compared (box_at 3 (n ∷ []) [] []) (box_at 2 (n ∷ []) [] []) ≡ mismatch 4 device device
  refuses_a_field_that_new_has_not : compared (box_set (n ∷ number U8 (codes "m") ∷ []) [] []) (box_set (n ∷ []) [] []) ≡ mismatch 5 (field 1) device
  refuses_one_for_an_array_of_one : compared (box_set (n ∷ []) [] []) (box_set (record n { count = Fixed 1 } ∷ []) [] []) ≡ mismatch 7 (field 0) (field 0)
  refuses_another_kind : compared (box_set (n ∷ []) [] []) (box_set (number I8 (codes "n") ∷ []) [] []) ≡ mismatch 8 (field 0) (field 0)
  refuses_a_test_that_is_left_out : compared tested_set
      (box_set (number U8 (codes "f") ∷ number U8 (codes "g") ∷ []) (Cell Own 0 255 Lt 10 ∷ []) []) ≡ mismatch 9 (field 1) (field 1)
  -- a version atom that holds is folded away
  accepts_a_test_that_holds_at_the_version : compared tested_set
      (box_at 2 (number U8 (codes "f") ∷ record (number U8 (codes "g")) { test = Some (And (Below 2) (Cell Own 0 255 Eq 1)) } ∷ [])
      (Cell Own 0 255 Lt 10 ∷ []) [])
      ≡ None
  refuses_another_name : compared (box_set (n ∷ []) [] []) (box_set (number U8 (codes "m") ∷ []) [] []) ≡ mismatch 10 (field 0) (field 0)
  refuses_a_smaller_capacity : compared (box_set (n ∷ v_of 4 ∷ []) [] []) counted_set ≡ mismatch 11 (field 1) (field 1)
  refuses_an_absent_array_that_is_too_small : compared (box_set (n ∷ []) [] []) (box_at 2 (n ∷ record (v_of 2) { since = 2 } ∷ []) [] [])
      ≡ mismatch 11 (field 0) (field 0)
  refuses_a_constant_of_another_number : compared (constant 1) (constant 2) ≡ mismatch 12 (field 0) (field 0)
  -- subsections and validations
  refuses_a_subsection_that_new_has_not : compared subsection_set (box_set (number U8 (codes "a") ∷ []) [] (sub_of (codes "box/p") (codes "x") 5 ∷ []))
      ≡ mismatch 13 (here (parts.Sub 0 1)) device
  refuses_a_subsection_that_is_too_old : compared (box_set [] [] (old_sub ∷ [])) (box_set [] [] (record old_sub { desc = raised old_sub.desc } ∷ []))
      ≡ mismatch 14 (here (parts.Sub 0 0)) (here (parts.Sub 0 0))
  refuses_a_new_validation : compared (box_set (n ∷ []) [] []) (box_set (n ∷ []) (Cell Own 0 255 Lt 10 ∷ []) []) ≡ mismatch 15 device device
  -- each side at its structure's own version
  refuses_a_structure_that_gained_a_field : compared (with_point (point 1 (x ∷ []))) (with_point (point 2 (x ∷ y ∷ [])))
      ≡ mismatch 6 (here (parts.Struct 0)) (in_field (parts.Struct 0) 1)
  accepts_a_newer_box : compared two_numbers newer ≡ None
  carries_shared_numbers : carried two_numbers newer (record { version = 1; came = []; numbers = pos 1 ∷ pos 2 ∷ [] } ∷ [])
      ≡ record { version = 1; came = None ∷ []; numbers = pos 1 ∷ pos 300 ∷ pos 5 ∷ [] } ∷ []
  carries_into_a_larger_array : carried counted_set (box_set (n ∷ v_of 4 ∷ []) [] [])
      (record { version = 1; came = []; numbers = pos 1 ∷ pos 7 ∷ pos 0 ∷ [] } ∷ [])
      ≡ record { version = 1; came = []; numbers = pos 1 ∷ pos 7 ∷ pos 0 ∷ pos 0 ∷ pos 0 ∷ [] } ∷ []

compared_rows : ComparedRows
unfolding compared first carried
compared_rows = search

-- ---- the shipped sets, each with every later one

abbrev are_compatible : Set → Set → Bool
are_compatible old new = is_none (first_mismatch old new)

-- each is compatible to each later one
abbrev in_order : List Set → Bool
in_order [] = true
in_order (set ∷ sets) = list_all (are_compatible set) sets && in_order sets

later : (old : Set) (sets : List Set) (j : ℕ) (d : Set) → list_all (are_compatible old) sets ≡ true → j < length sets
    → are_compatible old (get_or sets j d) ≡ true
later old [] j d e lt = absurd (omega arith)
later old (s ∷ sets) zero d e lt = (and_parts (are_compatible old s) (list_all (are_compatible old) sets) e).0
later old (s ∷ sets) (suc j) d e lt = later old sets j d (and_parts (are_compatible old s) (list_all (are_compatible old) sets) e).1 (omega arith)

pair : (sets : List Set) (i j : ℕ) (d : Set) → in_order sets ≡ true → i < j → j < length sets → are_compatible (get_or sets i d) (get_or sets j d) ≡ true
pair (s ∷ sets) zero (suc j) d e less lt = later s sets j d (and_parts (list_all (are_compatible s) sets) (in_order sets) e).0 (omega arith)
pair (s ∷ sets) (suc i) (suc j) d e less lt = pair sets i j d (and_parts (list_all (are_compatible s) sets) (in_order sets) e).1 (omega arith) (omega arith)
pair _ _ _ d e less lt = absurd (omega arith)

-- from set 1 on
abbrev boards : List Set
boards = drop 1 shipped_sets

boards_in_order : in_order boards ≡ true
unfolding first_mismatch first
boards_in_order = refl

pub shipped_compatible : (s t : ℕ) → 1 ≤ s → s < t → t ≤ NEWEST_SET → Compatible (shipped_set s) (shipped_set t)
shipped_compatible (suc i) (suc j) low less le =
    let d = shipped_set NEWEST_SET in
    let second : suc j < length shipped_sets = omega arith in
    none_is (first_mismatch (shipped_set (suc i)) (shipped_set (suc j)))
    (ap (λ (x : Set). are_compatible x (shipped_set (suc j))) (sym (numbered (suc i) d (omega (arith, second, less)))) ∙ ap
    (are_compatible (get_or boards i d)) (sym (numbered (suc j) d second)) ∙ pair boards i j d boards_in_order (omega arith) (omega arith))
shipped_compatible _ _ low less le = absurd (omega arith)
