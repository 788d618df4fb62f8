-- Worked inputs: what is read of them, and faults as terms.
use Rattle.vms_stream.proofs.Facade.{◌≡◌, ℕ, List, [], ◌∷◌, ◌++◌, length, take, drop, map, Option, Some, None, pos, negsuc, ℤ, refl, codes}
use Rattle.vms_stream.proofs.Facade.{digits, U8, U64, code, Reason, first, Set, Image, default_image, magic, written, Reading, Accepted, Refused, set_0, set_1}
use Rattle.vms_stream.proofs.Facade.{set_4, timer, Piece, Magic, Version, Head, Number, End, values_text, hex, head, smallest, box_head, box_end, lines, box}
use Rattle.vms_stream.proofs.Facade.{number, counted_set, constant_set, subsection_set, bare_set, mixed_set, between_at, behind_at, trailer_at, reading}
use Rattle.vms_stream.proofs.Facade.{by_units, State, by_state, at_start, tested_set, unit_at, ap, ◌∙◌, ◌<◌, arith, Bool, true, false, ints, InRange}
use Rattle.vms_stream.proofs.Facade.{Configuration, Long, Constant, SubHead, Foot, Start, Mark, spell, spelled, Between, AfterFields, May, AtMagic, AtVersion}
use Rattle.vms_stream.proofs.Facade.{AtConfiguration, AtStart, AtHead, AtEnd, AtMark, AtNumber, AtConstant, AtSubHead, AtFoot, AtLongText, AtTrailing, due}
use Rattle.vms_stream.proofs.{Finding.only, Facade.holds, Facade.Unknown, Facade.reason_of, Facade.Front, Facade.Fails, Facade.Wrong, Facade.Fault}
use Rattle.vms_stream.specs.Faults.{Cut}
use Rattle.vms_kinds.specs.declared.Kind.TheVariants.{Bool as Truth}
use Rattle.vms_spec.specs.declared.Reason.TheVariants as reasons

-- ---- worked rows: what is read, written and shown of streams and sets

abbrev Answer : Type 0
Answer = Option (Reading (Option (List ℕ) × List Image))

abbrev of_state : Option (Reading State) → Answer
of_state None = None
of_state (Some (Accepted n state)) = Some (Accepted n (state.machine, state.images))
of_state (Some (Refused at section reason long)) = Some (Refused at section reason long)

-- an input, read with all machines of the set: the machine and the images, or the refusal
unfoldable read : Set → List ℕ → Answer
unfolding reading
read set input = of_state (reading (by_state set set.machines) (at_start set) input)

-- the same as a values text
abbrev text_of : Set → Answer → List ℕ
text_of set (Some (Accepted n state)) = values_text set state.0 state.1
text_of set _ = []

-- the units that are read
unfoldable units_of : Set → List ℕ → Option (Reading (List Piece))
unfolding reading
units_of set input = reading (by_units set set.machines) [] input

abbrev refused : ℕ → Option ℕ → Reason → ℕ → Answer
refused place section reason size = Some (Refused place section reason size)

-- what follows a stream head, none of whose machines is named
abbrev taken : ℕ → List Image → Answer
taken place images = Some (Accepted place (None, images))

abbrev numbers : List ℤ → Image
numbers n = record { version = 1; came = []; numbers = n }

-- ---- each tail: not known yet, footed, bare; with one device and two

-- the stream head, a configuration or none, and the section of the timer without its footer
abbrev bare : List ℕ
bare = take 35 smallest

abbrev named : List ℕ
named = head ++ hex (codes "07000000056973612d30") ++ hex (codes "04000000000574696d657200000000000000010000000000000000")

abbrev section : ℕ → List ℕ
section i = hex (codes "040000000003626f78000000") ++ i ∷ hex (codes "0000000109")

abbrev footer : List ℕ
footer = hex (codes "7e00000000")

abbrev two : Set
two = record { machines = []; structs = []; devices = map (λ (i : ℕ). record (box 1 (number U8 (codes "n") ∷ []) [] []) { instance = i }) (0 ∷ 1 ∷ []) }

abbrev nines : List Image
nines = numbers (pos 9 ∷ []) ∷ numbers (pos 9 ∷ []) ∷ []

record Tails : Type 0 where
  takes_the_smallest : read set_0 smallest ≡ taken 41 (numbers (pos 0 ∷ []) ∷ [])
  takes_it_bare : read set_0 (bare ++ hex (codes "00")) ≡ taken 36 (numbers (pos 0 ∷ []) ∷ [])
  ends_where_any_may_come : read set_0 bare ≡ refused 35 (Some 0) reasons.Truncated 0
  refuses_ff : read set_0 (bare ++ hex (codes "ff")) ≡ refused 35 None reasons.BadMark 1
  refuses_a_missing_section : read set_0 (head ++ hex (codes "00")) ≡ refused 8 (Some 0) reasons.MissingSection 1
  -- footed: by a configuration
  takes_it_footed : read set_0 (named ++ footer ++ hex (codes "00")) ≡ Some (Accepted 51 (Some (codes "isa-0"), numbers (pos 0 ∷ []) ∷ []))
  ends_where_a_footer_may_come : read set_0 named ≡ refused 45 (Some 0) reasons.Truncated 0
  wants_a_footer_at_the_end : read set_0 (named ++ hex (codes "00")) ≡ refused 45 (Some 0) reasons.BadFooter 1
  -- two sections
  takes_two_bare : read two (head ++ section 0 ++ section 1 ++ hex (codes "00")) ≡ taken 45 nines
  takes_two_footed : read two (head ++ section 0 ++ footer ++ section 1 ++ footer ++ hex (codes "00")) ≡ taken 55 nines
  wants_a_second_footer : read two (head ++ section 0 ++ footer ++ section 1 ++ hex (codes "00")) ≡ refused 49 (Some 1) reasons.BadFooter 1
  refuses_a_footer_in_a_bare_stream : read two (head ++ section 0 ++ section 1 ++ footer ++ hex (codes "00")) ≡ refused 44 None reasons.BadMark 1
  ends_before_the_next_unit : read two (head ++ section 0 ++ section 1) ≡ refused 44 (Some 1) reasons.Truncated 0
  ends_inside_the_next_unit : read two (head ++ section 0 ++ section 1 ++ hex (codes "04")) ≡ refused 44 None reasons.Truncated 1

tails : Tails
unfolding read first between_at behind_at trailer_at
tails = search

takes_a_bare_stream : units_of set_0 (bare ++ 0x00 ∷ [])
    ≡ Some (Accepted 36 (End ∷ Number 0 U64 (pos 0) ∷ Head 0 (codes "timer") 0 1 ∷ Version 3 ∷ Magic magic ∷ []))
unfolding units_of first between_at behind_at trailer_at
takes_a_bare_stream = refl

-- ---- sets with arrays, constants, tests, validations, structures and subsections

abbrev both : Image
both = record { version = 1; came = Some 1 ∷ Some 1 ∷ []; numbers = pos 9 ∷ pos 8 ∷ pos 7 ∷ [] }

abbrev sub_q : List ℕ
sub_q = hex (codes "0505626f782f710000000107")

abbrev sub_p : List ℕ
sub_p = hex (codes "0505626f782f700000000108")

abbrev mixed_head : List ℕ
mixed_head = head ++ hex (codes "040000000903626f780000000000000002")

abbrev mixed_bytes : List ℕ
mixed_bytes = mixed_head ++ hex (codes "02") ++ hex (codes "010203") ++ hex (codes "040005") ++ hex (codes "01") ++ hex (codes "0607") ++ hex (codes "ff")
    ++ hex (codes "0505626f782f730000000100000008") ++ hex (codes "7e0000000900")

abbrev mixed : Image
mixed = record {
  version = 2;
  came = Some 1 ∷ [];
  numbers = pos 2 ∷ pos 1 ∷ pos 515 ∷ pos 9 ∷ pos 4 ∷ pos 5 ∷ pos 9 ∷ pos 0 ∷ pos 0 ∷ pos 9 ∷ pos 1 ∷ pos 1543 ∷ negsuc 0 ∷ pos 8 ∷ pos 1 ∷ [];
}

-- at version 1 neither t nor w is there
abbrev older : Image
older = record {
  version = 1;
  came = None ∷ [];
  numbers = pos 0 ∷ pos 0 ∷ pos 0 ∷ pos 9 ∷ pos 0 ∷ pos 0 ∷ pos 9 ∷ pos 0 ∷ pos 0 ∷ pos 9 ∷ pos 1 ∷ pos 0 ∷ negsuc 2 ∷ pos 7 ∷ pos 1 ∷ [];
}

record Read : Type 0 where
  a_full_array : read counted_set (box_head ++ hex (codes "020001ffff") ++ box_end) ≡ taken 36 (numbers (pos 2 ∷ pos 1 ∷ pos 65535 ∷ []) ∷ [])
  subsections_in_another_order : read subsection_set (box_head ++ hex (codes "09") ++ sub_q ++ sub_p ++ box_end) ≡ taken 56 (both ∷ [])
  subsections_of_a_bare_section : read subsection_set (head ++ hex (codes "040000000003626f78000000000000000109") ++ sub_q ++ hex (codes "00"))
      ≡ taken 39 (record { version = 1; came = None ∷ Some 1 ∷ []; numbers = pos 9 ∷ pos 5 ∷ pos 7 ∷ [] } ∷ [])
  structures_at_their_own_version : read mixed_set mixed_bytes ≡ taken 57 (mixed ∷ [])
  an_older_version : read mixed_set (head ++ hex (codes "040000000903626f780000000000000001") ++ hex (codes "0001") ++ hex (codes "7e0000000900"))
      ≡ taken 33 (older ∷ [])
  -- a description without fields is judged directly after its head
  no_failing_validation_without_fields : read bare_set box_head ≡ refused 25 (Some 0) reasons.Invalid 0
  -- each element of an array of structures is judged at its own end
  no_structure_whose_validation_fails : read mixed_set (mixed_head ++ hex (codes "02") ++ hex (codes "010203") ++ hex (codes "c80005"))
      ≡ refused 32 (Some 0) reasons.Invalid 0

reads : Read
unfolding read first between_at behind_at trailer_at
reads = search

-- ---- what is written and shown; the default streams of the boards' sets

abbrev defaults : Set → List Image
defaults set = map (default_image set) set.devices

abbrev stream : Set → List ℕ → List ℕ
stream set machine = written set (Some machine) (defaults set) None

record Writes : Type 0 where
  the_smallest_stream : written set_0 None (default_image set_0 timer ∷ []) None ≡ smallest
  unused_bytes_as_zeros : written constant_set None (numbers (pos 1 ∷ []) ∷ []) None ≡ box_head ++ hex (codes "01070000") ++ box_end
  subsections_in_the_set's_order : written subsection_set None (both ∷ []) None ≡ box_head ++ hex (codes "09") ++ sub_p ++ sub_q ++ box_end
  bytes_251_of_set_1 : length (stream set_1 (codes "isa-1")) ≡ 251
  bytes_260_of_set_4 : length (stream set_4 (codes "isa-4")) ≡ 260
  -- 44 bytes from 206 on
  the_serial_section_of_set_1 : drop 206 (stream set_1 (codes "isa-1"))
      ≡ hex (codes "04000000040673657269616c0000000000000001") ++ hex (codes "0000000000000000000000ffffffffffffffff") ++ hex (codes "7e0000000400")

writes : Writes
unfolding code first
writes = search

reads_the_stream_of_set_4 : read set_4 (stream set_4 (codes "isa-4")) ≡ Some (Accepted 260 (Some (codes "isa-4"), defaults set_4))
unfolding read between_at behind_at trailer_at code first
reads_the_stream_of_set_4 = refl

shows_the_smallest_stream : text_of set_0 (read set_0 smallest) ≡ lines (codes "section timer 0 v1" ∷ codes "now = 0" ∷ [])
unfolding read first between_at behind_at trailer_at digits
shows_the_smallest_stream = refl

shows_structures : values_text mixed_set (Some (codes "lab")) (mixed ∷ [])
    ≡ lines (codes "machine lab" ∷ codes "section box 0 v2" ∷ codes "n = 2" ∷ codes "ps[0].x = 1" ∷ codes "ps[0].y = 515" ∷ codes "ps[0].z = 9"
    ∷ codes "ps[1].x = 4" ∷ codes "ps[1].y = 5" ∷ codes "ps[1].z = 9" ∷ codes "flag = 1" ∷ codes "t = 1543" ∷ codes "w = -1"
    ∷ codes "sub box/s v1" ∷ codes "a = 8" ∷ codes "b = 1" ∷ [])
unfolding first digits
shows_structures = refl

-- ---- refusals of worked rows as faults: the units before the place, and why nothing goes on there

abbrev IsRefused : Set → List ℕ → ℕ → Option ℕ → Reason → ℕ → Type 0
IsRefused set input place section reason size = Fault set set.machines input place section reason size

-- a fault of a unit that is whole
wrong : {set : Set} {names : List (List ℕ)} {input : List ℕ} {place : ℕ} {section : Option ℕ} {reason : Reason} {size : ℕ}
    → (u : List Piece) (x : Piece) (more : List ℕ) → Front set names u → May (due set u) x
    → holds set u ≡ true → reason_of set names u x ≡ Some (section, reason) → input ≡ spelled u ++ (spell x ++ more) → length (spelled u) ≡ place
    → length (spell x) ≡ size → Fault set names input place section reason size
wrong {section = section} {reason = reason} u x more front may held taken whole long size = record {
  units = u;
  rest = spell x ++ more;
  front = front;
  whole = whole;
  long = long;
  why = rw (← size) (Wrong x section reason held (record { may = may; more = more; there = refl }) taken);
}

abbrev start : List Piece
start = Version 3 ∷ Magic magic ∷ []

in_start : (set : Set) → Front set set.machines start
in_start set = ((tt, refl, AtMagic magic refl, refl), refl, AtVersion 3 (omega arith), refl)

-- ---- a whole section

head_may : (first after : Bool) (name : List ℕ) → May (Between first after) (Head 0 name 0 1)
head_may first after name = AtHead first after 0 name 0 1 (omega arith) (omega arith) (omega arith)

abbrev headed : List Piece
headed = Head 0 (codes "timer") 0 1 ∷ start

in_headed : Front set_0 set_0.machines headed
unfolding first
in_headed = (in_start set_0, refl, head_may true false _, refl)

abbrev fielded : List Piece
fielded = Number 0 U64 (pos 0) ∷ headed

in_fielded : Front set_0 set_0.machines fielded
unfolding first
in_fielded = (in_headed, refl, AtNumber 0 0 U64 [] (pos 0) ((omega arith, omega arith)), refl)

abbrev ended : List Piece
ended = End ∷ Foot 0 ∷ fielded

foot_may : May (AfterFields 0 Unknown) (Foot 0)
foot_may = AtFoot 0 Unknown 0 refl (omega arith)

in_ended : Front set_0 set_0.machines ended
unfolding first
in_ended = ((in_fielded, refl, foot_may, refl), refl, AtEnd false false, refl)

-- ---- sets with other fields

abbrev boxed : List Piece
boxed = Head 0 (codes "box") 0 1 ∷ start

in_boxed : (set : Set) → reason_of set set.machines start (Head 0 (codes "box") 0 1) ≡ None → Front set set.machines boxed
in_boxed set e = (in_start set, refl, head_may true false _, e)

byte : (n : ℕ) → n < 256 → InRange U8 (pos n)
byte n lt = (omega (arith, ints), omega (arith, ints))

abbrev with_q : List Piece
with_q = Number 2 U8 (pos 7) ∷ SubHead (codes "box/q") 1 ∷ Number 0 U8 (pos 9) ∷ boxed

sub_may : (k v : ℕ) (name : List ℕ) → v < 4294967296 → May (AfterFields k Unknown) (SubHead name v)
sub_may k v name lt = AtSubHead k Unknown name v lt

in_nine : Front subsection_set subsection_set.machines (Number 0 U8 (pos 9) ∷ boxed)
unfolding first
in_nine = (in_boxed subsection_set refl, refl, AtNumber 0 0 U8 [] (pos 9) (byte 9 (omega arith)), refl)

in_q : Front subsection_set subsection_set.machines with_q
unfolding first
in_q = ((in_nine, refl, sub_may 0 1 _ (omega arith), refl), refl, AtNumber 0 2 U8 [] (pos 7) (byte 7 (omega arith)), refl)

abbrev named_units : List Piece
named_units = Configuration (codes "isa-0") ∷ start

in_named : Front set_0 set_0.machines named_units
in_named = (in_start set_0, refl, AtConfiguration _ _ (omega arith), refl)

timer_may : (v : ℕ) → v < 4294967296 → May (Between true false) (Head 0 (codes "timer") 0 v)
timer_may v lt = AtHead true false 0 (codes "timer") 0 v (omega arith) (omega arith) lt

record Refusals : Type 0 where
  refuses_version_4 : IsRefused set_0 (hex (codes "5145564d00000004")) 4 None reasons.BadVersion 4
  refuses_another_magic : IsRefused set_0 (hex (codes "5145564e00000003")) 0 None reasons.BadMagic 4
  refuses_ram : IsRefused set_0 (head ++ hex (codes "01000000020372616d")) 8 None reasons.Ram 9
  refuses_a_part : IsRefused set_0 (head ++ hex (codes "02")) 8 None reasons.Iterative 1
  refuses_a_command : IsRefused set_0 (head ++ hex (codes "08")) 8 None reasons.Command 1
  refuses_a_footer_between_sections : IsRefused set_0 (head ++ hex (codes "7e")) 8 None reasons.BadMark 1
  refuses_a_missing_section : IsRefused set_0 (head ++ hex (codes "00")) 8 (Some 0) reasons.MissingSection 1
  refuses_a_cut_number : IsRefused set_0 (take 30 smallest) 27 (Some 0) reasons.Truncated 3
  refuses_a_footer_of_another_id : IsRefused set_0 (take 35 smallest ++ hex (codes "7e0000000100")) 35 (Some 0) reasons.BadFooter 5
  refuses_a_trailing_byte : IsRefused set_0 (smallest ++ hex (codes "00")) 41 None reasons.Trailing 1
  refuses_too_large_a_count : IsRefused counted_set (box_head ++ hex (codes "03")) 25 (Some 0) reasons.CountTooLarge 1
  refuses_a_bool_of_2 : IsRefused constant_set (box_head ++ hex (codes "02")) 25 (Some 0) reasons.BadBool 1
  refuses_another_constant : IsRefused constant_set (box_head ++ hex (codes "0108")) 26 (Some 0) reasons.NotEqual 1
  refuses_a_failing_validation : IsRefused tested_set (box_head ++ hex (codes "0a")) 26 (Some 0) reasons.Invalid 0
  refuses_a_subsection_that_came : IsRefused subsection_set (box_head ++ hex (codes "090505626f782f7100000001070505626f782f7100000001077e0000000000"))
      38 (Some 0) reasons.RepeatedSubsection 11
  refuses_an_unknown_subsection : IsRefused subsection_set (box_head ++ hex (codes "090505626f782f7200000001")) 26 (Some 0) reasons.UnknownSubsection 11
  refuses_a_section_that_came : IsRefused set_0 (take 40 smallest ++ hex (codes "04000000000574696d6572000000000000000100000000000000007e00000000"))
      40 (Some 0) reasons.RepeatedSection 19
  refuses_version_2 : IsRefused set_0 (hex (codes "5145564d00000002")) 4 None reasons.OldStream 4
  refuses_another_machine : IsRefused set_0 (head ++ hex (codes "07000000056973612d31")) 8 None reasons.WrongMachine 10
  refuses_a_subsection_of_the_configuration : IsRefused set_0 (head ++ hex (codes "07000000056973612d3005")) 18 None reasons.ConfigurationExtra 1
  refuses_too_new_a_section : IsRefused set_0 (take 23 smallest ++ hex (codes "00000002") ++ drop 27 smallest) 8 (Some 0) reasons.TooNew 19
  refuses_too_old_a_section : IsRefused set_0 (take 23 smallest ++ hex (codes "00000000") ++ drop 27 smallest) 8 (Some 0) reasons.TooOld 19
  refuses_another_instance : IsRefused set_0 (take 19 smallest ++ hex (codes "00000001") ++ drop 23 smallest) 8 None reasons.UnknownSection 19
  refuses_too_long_a_description : IsRefused set_0 (smallest ++ hex (codes "0601000001")) 41 None reasons.DescriptionTooLong 5

refusals : Refusals
unfolding code first
refusals = record {
  refuses_version_4 = wrong (Magic magic ∷ []) (Version 4) [] (tt, refl, AtMagic magic refl, refl) (AtVersion 4 (omega arith)) refl refl refl refl refl;
  refuses_another_magic = wrong [] (Magic (hex (codes "5145564e"))) (0 ∷ 0 ∷ 0 ∷ 3 ∷ []) tt (AtMagic _ refl) refl refl refl refl refl;
  refuses_ram = wrong start (Start 2 (codes "ram")) [] (in_start set_0) (AtStart _ _ _ _ (omega arith)) refl refl refl refl refl;
  refuses_a_part = wrong start (Mark 2) [] (in_start set_0) (AtMark _ _ _ refl) refl refl refl refl refl;
  refuses_a_command = wrong start (Mark 8) [] (in_start set_0) (AtMark _ _ _ refl) refl refl refl refl refl;
  refuses_a_footer_between_sections = wrong start (Mark 0x7e) [] (in_start set_0) (AtMark _ _ _ refl) refl refl refl refl refl;
  refuses_a_missing_section = wrong start End [] (in_start set_0) (AtEnd _ _) refl refl refl refl refl;
  refuses_a_cut_number = record {
    units = headed;
    rest = 0 ∷ 0 ∷ 0 ∷ [];
    front = in_headed;
    whole = refl;
    long = refl;
    why = Cut refl tt (λ x w. let e = ap (unit_at (due set_0 headed)) w.there ∙ only (due set_0 headed) x w.more w.may in cc);
  };
  refuses_a_footer_of_another_id = wrong fielded (Foot 1) (0 ∷ []) in_fielded (AtFoot 0 Unknown 1 refl (omega arith)) refl refl refl refl refl;
  refuses_a_trailing_byte = wrong ended (Mark 0) [] in_ended (AtTrailing 0 refl) refl refl refl refl refl;
  refuses_too_large_a_count =
      wrong boxed (Number 0 U8 (pos 3)) [] (in_boxed counted_set refl) (AtNumber 0 0 U8 (2 ∷ []) (pos 3) (byte 3 (omega arith))) refl refl refl refl refl;
  refuses_a_bool_of_2 =
      wrong boxed (Number 0 Truth (pos 2)) [] (in_boxed constant_set refl) (AtNumber 0 0 Truth [] (pos 2) (byte 2 (omega arith))) refl refl refl refl refl;
  refuses_another_constant =
      wrong (Number 0 Truth (pos 1) ∷ boxed) (Constant U8 (pos 8)) []
      (in_boxed constant_set refl, refl, AtNumber 0 0 Truth [] (pos 1) (byte 1 (omega arith)), refl)
      (AtConstant 0 U8 (pos 7) (pos 8) (byte 8 (omega arith))) refl refl refl refl refl;
  refuses_a_failing_validation = record {
    units = Number 0 U8 (pos 10) ∷ boxed;
    rest = [];
    front = (in_boxed tested_set refl, refl, AtNumber 0 0 U8 [] (pos 10) (byte 10 (omega arith)), refl);
    whole = refl;
    long = refl;
    why = Fails refl;
  };
  refuses_a_subsection_that_came =
      wrong with_q (SubHead (codes "box/q") 1) (7 ∷ 0x7e ∷ 0 ∷ 0 ∷ 0 ∷ 0 ∷ 0 ∷ []) in_q (sub_may 0 1 (codes "box/q") (omega arith)) refl refl refl refl refl;
  refuses_an_unknown_subsection =
      wrong (Number 0 U8 (pos 9) ∷ boxed) (SubHead (codes "box/r") 1) [] in_nine (sub_may 0 1 (codes "box/r") (omega arith)) refl refl refl refl refl;
  refuses_a_section_that_came =
      wrong (Foot 0 ∷ fielded) (Head 0 (codes "timer") 0 1) (0 ∷ 0 ∷ 0 ∷ 0 ∷ 0 ∷ 0 ∷ 0 ∷ 0 ∷ 0x7e ∷ 0 ∷ 0 ∷ 0 ∷ 0 ∷ []) (in_fielded, refl, foot_may, refl)
      (head_may false false (codes "timer")) refl refl refl refl refl;
  refuses_version_2 = wrong (Magic magic ∷ []) (Version 2) [] (tt, refl, AtMagic magic refl, refl) (AtVersion 2 (omega arith)) refl refl refl refl refl;
  refuses_another_machine = wrong start (Configuration (codes "isa-1")) [] (in_start set_0) (AtConfiguration _ _ (omega arith)) refl refl refl refl refl;
  refuses_a_subsection_of_the_configuration = wrong named_units (Mark 5) [] in_named (AtMark _ _ _ refl) refl refl refl refl refl;
  refuses_too_new_a_section = wrong start (Head 0 (codes "timer") 0 2) (drop 27 smallest) (in_start set_0) (timer_may 2 (omega arith)) refl refl refl refl refl;
  refuses_too_old_a_section = wrong start (Head 0 (codes "timer") 0 0) (drop 27 smallest) (in_start set_0) (timer_may 0 (omega arith)) refl refl refl refl refl;
  refuses_another_instance =
      wrong start (Head 0 (codes "timer") 1 1) (drop 27 smallest) (in_start set_0)
      (AtHead true false 0 (codes "timer") 1 1 (omega arith) (omega arith) (omega arith)) refl refl refl refl refl;
  refuses_too_long_a_description = wrong ended (Long 6 16777217) [] in_ended (AtLongText 16777217 (omega arith) (omega arith)) refl refl refl refl refl;
}
