-- Worked examples: the elements of sets, what is read off them, and texts that are refused.
use Rattle.vms_elements.proofs.Facade.{◌≡◌, ℕ, List, get_or, [], ◌∷◌, Some, None, pos, negsuc, codes, ℤ, digits, first, Set, Device, Image}
use Rattle.vms_elements.proofs.Facade.{values_text, counted_set, mixed_set, cell_name, text_of, values_lines, suc, ◌++◌, take, drop, map, length, refl}
use Rattle.vms_elements.proofs.Facade.{arith, ValuesReason, no_desc, first_line, machine_named, subsection_set, tested_set, sub_of, Entry, entries, entry_line}
use Rattle.vms_elements.proofs.Facade.{front_reason, part_reason, OfSection, OfSub, AreShaped, AreFine, IsBadLine, IsBadPart, Says, AreUnsaid}
use Rattle.vms_spec.specs.declared.ValuesReason.TheVariants as reasons

-- ---- the elements of the worked sets, and what is read off them

abbrev box_image : List ℤ → Image
box_image numbers = record { version = 1; came = []; numbers = numbers }

abbrev text : Set → Image → List (List ℕ)
text set image = values_lines set None (image ∷ [])

abbrev mixed : Image
mixed = record {
  version = 2;
  came = Some 2 ∷ [];
  numbers = pos 2 ∷ pos 1 ∷ pos 515 ∷ pos 9 ∷ pos 4 ∷ pos 5 ∷ pos 9 ∷ pos 0 ∷ pos 0 ∷ pos 9 ∷ pos 1 ∷ pos 1543 ∷ negsuc 0 ∷ pos 8 ∷ pos 1 ∷ [];
}

abbrev none : Device
none = record { instance = 0; desc = record { name = []; version = 0; minimum = 0; fields = []; validate = [] }; subs = [] }

abbrev name : Set → ℕ → List ℕ
name set c = cell_name set (get_or set.devices 0 none) c

record Rows : Type 0 where
  -- a counted array is printed to its count
  prints_an_array : text counted_set (box_image (pos 2 ∷ pos 1 ∷ pos 65535 ∷ []))
      ≡ codes "section box 0 v1" ∷ codes "n = 2" ∷ codes "v[0] = 1" ∷ codes "v[1] = 65535" ∷ []
  prints_structures : text mixed_set mixed ≡ codes "section box 0 v2" ∷ codes "n = 2" ∷ codes "ps[0].x = 1" ∷ codes "ps[0].y = 515" ∷ codes "ps[0].z = 9"
      ∷ codes "ps[1].x = 4" ∷ codes "ps[1].y = 5" ∷ codes "ps[1].z = 9" ∷ codes "flag = 1" ∷ codes "t = 1543" ∷ codes "w = -1"
      ∷ codes "sub box/s v2" ∷ codes "a = 8" ∷ codes "b = 1" ∷ []
  prints_the_same_text : text_of (values_lines mixed_set (Some (codes "lab")) (mixed ∷ [])) ≡ values_text mixed_set (Some (codes "lab")) (mixed ∷ [])
  -- the paths of cells
  names_a_number_in_a_structure : name mixed_set 9 ≡ codes "ps[2].z"
  names_a_number_of_a_subsection : name mixed_set 14 ≡ codes "b"

rows : Rows
unfolding first digits
rows = search

-- ---- texts that are refused: each reason, each way to miss a line, and two faults in one text

abbrev of_box : List ℤ → List Image
of_box numbers = record { version = 1; came = []; numbers = numbers } ∷ []

abbrev no_device : Device
no_device = record { instance = 0; desc = no_desc; subs = [] }

abbrev box : List ℕ
box = codes "section box 0 v1"

-- the numbers of a state, of whose lines n are good, and the text's lines, good ones first
record Follows (set : Set) (n : ℕ) (numbers : List ℤ) (good bad : List (List ℕ)) (reason : ValuesReason) : Type 0 where
  named : None ≡ machine_named set.machines (first_line (text_of (good ++ bad)))
  shaped : AreShaped set set.devices (of_box numbers)
  whole : entries set None (of_box numbers) ≡ take n (entries set None (of_box numbers)) ++ drop n (entries set None (of_box numbers))
  fine : AreFine (take n (entries set None (of_box numbers)))
  begins : text_of (good ++ bad) ≡ text_of (map entry_line (take n (entries set None (of_box numbers)))) ++ text_of bad
  number : n ≡ length (take n (entries set None (of_box numbers)))
  refused : front_reason (drop n (entries set None (of_box numbers))) (text_of bad) ≡ Some reason

bad_after : (set : Set) (n : ℕ) (numbers : List ℤ) (good bad : List (List ℕ)) (reason : ValuesReason) → Follows set n numbers good bad reason → IsBadLine set (text_of (good ++ bad)) (suc n) reason
bad_after set n numbers good bad reason c = search (arith)

record Refusals : Type 0 where
  -- above the capacity of the array that it counts
  a_count : IsBadLine counted_set (text_of (box ∷ codes "n = 3" ∷ [])) 2 reasons.Count
  -- not there, and not its default
  an_absent_number : IsBadLine tested_set (text_of (box ∷ codes "f = 0" ∷ codes "g = 7" ∷ [])) 3 reasons.Absent
  a_leading_zero : IsBadLine tested_set (text_of (box ∷ codes "f = 01" ∷ codes "g = 0" ∷ [])) 2 reasons.Number
  another_path : IsBadLine tested_set (text_of (box ∷ codes "g = 0" ∷ codes "f = 0" ∷ [])) 2 reasons.Form
  -- the first pass goes first: the validation fails as well
  the_absent_number_before_the_validation : IsBadLine tested_set (text_of (box ∷ codes "f = 10" ∷ codes "g = 7" ∷ [])) 3 reasons.Absent

refuses : Refusals
unfolding first digits
refuses = record {
  a_count = bad_after counted_set 1 (pos 0 ∷ pos 0 ∷ pos 0 ∷ []) (box ∷ []) (codes "n = 3" ∷ []) reasons.Count search;
  an_absent_number = bad_after tested_set 2 (pos 0 ∷ pos 0 ∷ []) (box ∷ codes "f = 0" ∷ []) (codes "g = 7" ∷ []) reasons.Absent search;
  a_leading_zero = bad_after tested_set 1 (pos 0 ∷ pos 0 ∷ []) (box ∷ []) (codes "f = 01" ∷ codes "g = 0" ∷ []) reasons.Number search;
  another_path = bad_after tested_set 1 (pos 0 ∷ pos 0 ∷ []) (box ∷ []) (codes "g = 0" ∷ codes "f = 0" ∷ []) reasons.Form search;
  the_absent_number_before_the_validation =
      bad_after tested_set 2 (pos 10 ∷ pos 0 ∷ []) (box ∷ codes "f = 10" ∷ []) (codes "g = 7" ∷ []) reasons.Absent search;
}

-- ---- the second pass

-- an image, the lines of its text, how many entries come before the refused one, and that entry
record Judged (set : Set) (n : ℕ) (image : Image) (lines : List (List ℕ)) (entry : Entry) (reason : ValuesReason) : Type 0 where
  says : Says set (text_of lines) None (image ∷ [])
  whole : entries set None (image ∷ []) ≡ take n (entries set None (image ∷ [])) ++ (entry ∷ drop (suc n) (entries set None (image ∷ [])))
  good : map (part_reason set) (take n (entries set None (image ∷ []))) ≡ map (λ e. None) (take n (entries set None (image ∷ [])))
  number : n ≡ length (take n (entries set None (image ∷ [])))
  refused : part_reason set entry ≡ Some reason

bad_part : (set : Set) (n : ℕ) (image : Image) (lines : List (List ℕ)) (entry : Entry) (reason : ValuesReason) → Judged set n image lines entry reason → IsBadPart set (text_of lines) (suc n) reason
bad_part set n image lines entry reason c = search (arith)

abbrev ten : Image
ten = record { version = 1; came = []; numbers = pos 10 ∷ pos 0 ∷ [] }

-- f is not below 10
refuses_a_validation : IsBadPart tested_set (text_of (box ∷ codes "f = 10" ∷ codes "g = 0" ∷ [])) 1 reasons.Invalid
unfolding first digits
refuses_a_validation =
    bad_part tested_set 0 ten (box ∷ codes "f = 10" ∷ codes "g = 0" ∷ []) (OfSection (get_or tested_set.devices 0 no_device) ten) reasons.Invalid
    (record { says = record { named = tt; shaped = search; unsaid = (unsaid, tt); fine = search; printed = refl }; whole = refl; good = refl; number = refl; refused = refl })
  where
    unsaid : AreUnsaid tested_set (get_or tested_set.devices 0 no_device) ten
    unsaid (suc (suc c)) h e = absurd (omega arith)
    unsaid _ h e = cc

abbrev dashes : Image
dashes = record { version = 1; came = None ∷ None ∷ []; numbers = pos 9 ∷ pos 8 ∷ pos 6 ∷ [] }

-- needed, and it did not come
refuses_a_dash : IsBadPart subsection_set (text_of (box ∷ codes "a = 9" ∷ codes "sub box/p -" ∷ codes "x = 8" ∷ codes "sub box/q -" ∷ codes "y = 6" ∷ [])) 3 reasons.Needed
unfolding first digits
refuses_a_dash =
    bad_part subsection_set 2 dashes (box ∷ codes "a = 9" ∷ codes "sub box/p -" ∷ codes "x = 8" ∷ codes "sub box/q -" ∷ codes "y = 6" ∷ [])
    (OfSub (get_or subsection_set.devices 0 no_device) dashes 0 (sub_of (codes "box/p") (codes "x") 5) 1 None) reasons.Needed
    (record { says = record { named = tt; shaped = search; unsaid = (unsaid, tt); fine = search; printed = refl }; whole = refl; good = refl; number = refl; refused = refl })
  where
    unsaid : AreUnsaid subsection_set (get_or subsection_set.devices 0 no_device) dashes
    unsaid (suc (suc (suc c))) h e = absurd (omega arith)
    unsaid _ h e = cc
