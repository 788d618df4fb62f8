-- Worked examples of the definitions: the sets that they speak of, places, images, values texts and
-- first faults.
use Rattle.vms_spec.proofs.Facade
use Facade.{ℕ, List, [], ◌∷◌, Some, None, pos, negsuc, codes, Kind, U8, U16, U32, I8, Num, Equal, Unused, Struct, One, Counted, Eq, Ne, Lt, Ge, Own}
use Facade.{Parent, Set, Device, Desc, Field, Sub, Formula, AtLeast, Below, Cell, And, Or, ◌+◌, ◌-◌, ◌*◌, nat_lt, if◌then◌else◌, ◌++◌}
use Facade.{◌≡◌, Place, first, cell_at, cell_count, set_3, map, Bool, true, false, Option, list_all, Image, default_image, is_normal, is_ready}
use Facade.{shipped_sets, values_read, set_0, digits, values_text, ValuesRead, Values, Bad, Fixed, SetFault, first_fault, here, in_field}
use Rattle.vms_kinds.specs.declared.Kind.TheVariants.{Bool as Truth}
use Rattle.vms_spec.specs.declared.ValuesReason.TheVariants as reasons
use Rattle.vms_spec.specs.declared.Part.TheVariants as parts

-- ---- the sets of the worked rows: device box 0 with a few fields, and one set with everything

abbrev pub number : Kind → List ℕ → Field
number kind name = record { name = name; former = []; item = Num kind; count = One; since = 0; test = None; default = pos 0 }

abbrev pub box : ℕ → List Field → List Formula → List Sub → Device
box version fields validate subs =
    record { instance = 0; desc = record { name = codes "box"; version = version; minimum = 1; fields = fields; validate = validate }; subs = subs }

abbrev pub box_set : List Field → List Formula → List Sub → Set
box_set fields validate subs = record { machines = codes "lab" ∷ []; structs = []; devices = box 1 fields validate subs ∷ [] }

-- the field n, and an array of n 16-bit numbers, at most two
abbrev pub counted_set : Set
counted_set = box_set (number U8 (codes "n") ∷ record (number U16 (codes "v")) { count = Counted 0 2 } ∷ []) [] []

-- a bool, a constant and unused bytes
abbrev pub constant_set : Set
constant_set = box_set (
    number Truth (codes "flag") ∷ record (number U8 (codes "id")) { item = Equal U8 (pos 7) } ∷ record (number U8 (codes "gap")) { item = Unused 2 } ∷ []) [] []

abbrev pub sub_of : List ℕ → List ℕ → ℕ → Sub
sub_of full name default = record {
  desc = record { name = full; version = 1; minimum = 1; fields = record (number U8 name) { default = pos default } ∷ []; validate = [] };
  needed = Cell Own 0 255 Ne default;
}

-- two subsections
abbrev pub subsection_set : Set
subsection_set = box_set (number U8 (codes "a") ∷ []) [] (sub_of (codes "box/p") (codes "x") 5 ∷ sub_of (codes "box/q") (codes "y") 6 ∷ [])

-- g where f is 1, and f below 10
abbrev pub tested_set : Set
tested_set = box_set (number U8 (codes "f") ∷ record (number U8 (codes "g")) { test = Some (Cell Own 0 255 Eq 1) } ∷ []) (Cell Own 0 255 Lt 10 ∷ []) []

-- no field, and a validation that fails
abbrev pub bare_set : Set
bare_set = box_set [] (AtLeast 2 ∷ []) []

-- no device
abbrev pub empty_set : Set
empty_set = record { machines = []; structs = []; devices = [] }

-- a structure of version 3: y has `since` 3, z has `since` 4
abbrev pub point : Desc
point = record {
  name = codes "pt";
  version = 3;
  minimum = 1;
  fields = number U8 (codes "x") ∷ record (number U16 (codes "y")) { since = 3 } ∷ record (number U8 (codes "z")) { since = 4; default = pos 9 } ∷ [];
  validate = Cell Own 0 255 Lt 200 ∷ [];
}

-- a field with a test, whose `since` doesn't matter; a field with `since` 2; a validation; and a
-- subsection
abbrev pub mixed_set : Set
mixed_set = record {
  machines = codes "lab" ∷ [];
  structs = point ∷ [];
  devices = box 2 (
      number U8 (codes "n")
      ∷ record (number U8 (codes "ps")) { item = Struct 0; count = Counted 0 3 }
      ∷ number Truth (codes "flag")
      ∷ record (number U16 (codes "t")) { test = Some (And (Cell Own 2 1 Eq 1) (AtLeast 2)); since = 7 }
      ∷ record (number I8 (codes "w")) { since = 2; default = negsuc 2 } ∷ []) (Cell Own 0 255 Lt 3 ∷ [])
      (record {
        desc = record {
          name = codes "box/s";
          version = 2;
          minimum = 1;
          fields = record (number U32 (codes "a")) { default = pos 7 } ∷ record (number U8 (codes "b")) { since = 2; default = pos 1 } ∷ [];
          validate = Or (Below 2) (Cell Own 0 255 Ge 1) ∷ [];
        };
        needed = Cell Parent 0 255 Ge 2;
      } ∷ [])
      ∷ [];
}

-- ---- helpers of the worked rows: bytes from hexadecimal digits, lines of text, and the result of a reading

-- a digit of 0 to 9 or a to f
abbrev digit : ℕ → ℕ
digit c = if nat_lt c 58 then c - 48 else c - 87

-- the bytes of hexadecimal digits, two for each
abbrev pub hex : List ℕ → List ℕ
hex [] = []
hex (high ∷ []) = []
hex (high ∷ (low ∷ more)) = (digit high * 16 + digit low) ∷ hex more

-- the stream head
abbrev pub head : List ℕ
head = hex (codes "5145564d00000003")

-- the smallest stream
abbrev pub smallest : List ℕ
smallest = head ++ hex (codes "04000000000574696d657200000000000000010000000000000000") ++ hex (codes "7e0000000000")

-- the stream head and the head of box 0 at version 1; after it a footer and the end mark
abbrev pub box_head : List ℕ
box_head = head ++ hex (codes "040000000003626f780000000000000001")

abbrev pub box_end : List ℕ
box_end = hex (codes "7e0000000000")

abbrev pub lines : List (List ℕ) → List ℕ
lines [] = []
lines (text ∷ more) = text ++ 10 ∷ lines more

-- ---- the cells of paths

record PathRows : Type 0 where
  counts_cells : cell_count counted_set 0 ≡ 3
  finds_an_element : cell_at counted_set 0 None ((1, 1) ∷ []) ≡ Some 2
  finds_no_element_past_the_capacity : cell_at counted_set 0 None ((1, 2) ∷ []) ≡ None
  finds_no_constant : cell_at constant_set 0 None ((1, 0) ∷ []) ≡ None
  finds_a_number_in_a_structure : cell_at mixed_set 0 None ((1, 2) ∷ (2, 0) ∷ []) ≡ Some 9
  finds_a_number_of_a_subsection : cell_at mixed_set 0 (Some 0) ((1, 0) ∷ []) ≡ Some 14
  -- the latch of the timer chip's third counter
  finds_a_latch : cell_at set_3 3 None ((0, 2) ∷ (10, 0) ∷ []) ≡ Some 32

path_rows : PathRows
unfolding first
path_rows = search

-- ---- the images that may be written

-- each device's default image is ready
abbrev defaults_are_ready : Set → Bool
defaults_are_ready set = list_all (λ (d : Device). is_ready set d (default_image set d)) set.devices

-- a test of the image of a set's only device
abbrev of_box : (Set → Device → Image → Bool) → Set → Image → Bool
of_box test set image = list_all (λ (d : Device). test set d image) set.devices

abbrev image_of : List (Option ℕ) → List ℕ → Image
image_of came numbers = record { version = 1; came = came; numbers = map pos numbers }

abbrev of_mixed : ℕ → ℕ → Image
of_mixed version sub_version = record {
  version = version;
  came = Some sub_version ∷ [];
  numbers = pos 2 ∷ pos 1 ∷ pos 515 ∷ pos 9 ∷ pos 4 ∷ pos 5 ∷ pos 9 ∷ pos 0 ∷ pos 0 ∷ pos 9 ∷ pos 1 ∷ pos 1543 ∷ negsuc 0 ∷ pos 8 ∷ pos 1 ∷ [];
}

record ImageRows : Type 0 where
  writes_the_defaults_of_each_shipped_set : list_all defaults_are_ready shipped_sets ≡ true
  writes_no_count_above_the_capacity : of_box is_normal counted_set (image_of [] (3 ∷ 0 ∷ 0 ∷ [])) ≡ false
  writes_no_number_out_of_range : of_box is_normal counted_set (image_of [] (1 ∷ 65536 ∷ 0 ∷ [])) ≡ false
  writes_no_field_that_is_not_there : of_box is_normal tested_set (image_of [] (0 ∷ 7 ∷ [])) ≡ false
  writes_no_failing_validation : of_box is_ready tested_set (image_of [] (10 ∷ 0 ∷ [])) ≡ false
  writes_no_subsection_that_is_not_needed : of_box is_ready subsection_set (image_of (Some 1 ∷ None ∷ []) (9 ∷ 5 ∷ 6 ∷ [])) ≡ false
  writes_the_set's_versions : of_box is_ready mixed_set (of_mixed 2 2) ≡ true
  writes_no_older_subsection : of_box is_ready mixed_set (of_mixed 2 1) ≡ false
  finds_an_older_subsection_normal : of_box is_normal mixed_set (of_mixed 2 1) ≡ true

image_rows : ImageRows
unfolding first
image_rows = search

-- ---- how values texts are read

unfoldable reads : Set → List ℕ → ValuesRead
unfolding values_read
reads set text = values_read set text

abbrev now : ℕ → Image
now n = record { version = 1; came = []; numbers = pos n ∷ [] }

record TextRows : Type 0 where
  -- the shipped set 0
  reads_a_number : reads set_0 (lines (codes "section timer 0 v1" ∷ codes "now = 0" ∷ [])) ≡ Values None (now 0 ∷ [])
  refuses_a_leading_zero : reads set_0 (lines (codes "section timer 0 v1" ∷ codes "now = 00" ∷ [])) ≡ Bad 2 reasons.Number
  refuses_a_missing_line : reads set_0 (lines (codes "section timer 0 v1" ∷ [])) ≡ Bad 2 reasons.Form
  -- arrays, tests, validations, subsections
  refuses_too_large_a_count : reads counted_set (lines (codes "section box 0 v1" ∷ codes "n = 3" ∷ [])) ≡ Bad 2 reasons.Count
  refuses_a_number_that_is_not_there : reads tested_set (lines (codes "section box 0 v1" ∷ codes "f = 0" ∷ codes "g = 7" ∷ [])) ≡ Bad 3 reasons.Absent
  refuses_a_failing_validation : reads tested_set (lines (codes "section box 0 v1" ∷ codes "f = 10" ∷ codes "g = 0" ∷ [])) ≡ Bad 1 reasons.Invalid
  -- the first pass comes before the second
  refuses_a_bad_line_before_a_failing_validation : reads tested_set (lines (codes "section box 0 v1" ∷ codes "f = 10" ∷ codes "g = 256" ∷ []))
      ≡ Bad 3 reasons.Number
  refuses_a_needed_subsection_that_did_not_come : reads subsection_set (lines (codes "section box 0 v1" ∷ codes "a = 9" ∷ codes "sub box/p -" ∷ codes "x = 8" ∷ codes "sub box/q -" ∷ codes "y = 6" ∷ []))
      ≡ Bad 3 reasons.Needed
  -- a printed text can be read
  reads_what_is_shown : reads mixed_set (values_text mixed_set (Some (codes "lab")) (of_mixed 2 2 ∷ [])) ≡ Values (Some (codes "lab")) (of_mixed 2 2 ∷ [])

text_rows : TextRows
unfolding reads first digits
text_rows = search

-- ---- first faults of sets: each rule, and the order of the walk

unfoldable faulty : Set → Option SetFault
unfolding first_fault
faulty set = first_fault set

abbrev fault : ℕ → Place → Option SetFault
fault rule place = Some (record { rule = rule; place = place })

record FaultRows : Type 0 where
  -- names
  refuses_a_subsection_of_another_device : faulty (box_set [] [] (sub_of (codes "bax/p") (codes "x") 5 ∷ [])) ≡ fault 1 (here (parts.Sub 0 0))
  refuses_a_machine_that_comes_twice : faulty (record empty_set { machines = codes "a" ∷ codes "b" ∷ codes "a" ∷ [] }) ≡ fault 2 (here parts.Set)
  refuses_a_field_that_comes_twice : faulty (box_set (number U8 (codes "a") ∷ number U8 (codes "b") ∷ number U8 (codes "a") ∷ []) [] [])
      ≡ fault 2 (in_field (parts.Device 0) 2)
  -- versions, and what tests and counts name
  refuses_a_minimum_above_the_version : faulty (record empty_set { devices = record { instance = 0; subs = []; desc = record { name = codes "box"; version = 1; minimum = 2; fields = []; validate = [] } } ∷ [] })
      ≡ fault 3 (here (parts.Device 0))
  refuses_a_count_by_a_later_field : faulty (box_set (record (number U8 (codes "v")) { count = Counted 1 2 } ∷ number U8 (codes "n") ∷ []) [] [])
      ≡ fault 4 (in_field (parts.Device 0) 0)
  -- a field's fault comes before a validation's of the same description
  refuses_a_bad_field_before_a_bad_validation : faulty (box_set (record (number U8 (codes "a")) { count = Fixed 0 } ∷ []) (Cell Own 1 255 Lt 10 ∷ []) [])
      ≡ fault 8 (in_field (parts.Device 0) 0)
  -- a needed test's fault is at the subsection, before its fields
  refuses_a_needed_test_of_no_field : faulty (box_set [] [] (record (sub_of (codes "box/p") [] 5) { needed = Cell Parent 0 255 Eq 1 } ∷ []))
      ≡ fault 4 (here (parts.Sub 0 0))
  -- structures, defaults, limits, counts
  refuses_a_structure_that_uses_itself :
      faulty (record empty_set { structs = record point { fields = record (number U8 (codes "p")) { item = Struct 0 } ∷ []; validate = [] } ∷ [] })
      ≡ fault 5 (in_field (parts.Struct 0) 0)
  -- at the count's own field
  refuses_a_default_above_a_capacity :
      faulty (box_set (record (number U8 (codes "n")) { default = pos 3 } ∷ record (number U8 (codes "v")) { count = Counted 0 2 } ∷ []) [] [])
      ≡ fault 6 (in_field (parts.Device 0) 0)
  refuses_too_many_items : faulty (box_set (record (number U8 (codes "a")) { count = Fixed 16385 } ∷ []) [] []) ≡ fault 7 (here parts.Set)
  refuses_a_structure_without_a_field : faulty (record empty_set { structs = record point { fields = []; validate = [] } ∷ [] })
      ≡ fault 8 (here (parts.Struct 0))

fault_rows : FaultRows
unfolding faulty first
fault_rows = search
