-- The laws as they are stated.
use Rattle.vms_stream.proofs.Facade.{◌≡◌, ℕ, List, ◌++◌, Option, refl, append_assoc, Reason, Set, Piece, spell, spelled, IsWhole, Why, Fails, Wrong}
use Rattle.vms_stream.proofs.Facade.{FurtherLaw, get_or, ◌+◌, take, length, Some, None, IfSome, arith, suc, ◌≤◌, true, sym, ap, ◌∙◌, drop}
use Rattle.vms_stream.proofs.Facade.{false, slice_get_within, take-append-drop, LONGEST_NAME, Due, Whole, unit_at, IsThere, FoundLaw, is_one_of, longest_text}
use Rattle.vms_stream.proofs.Facade.{IsConfiguration, IsTrailer, optional, configuration, trailer, written, Reading, Accepted, Refused, well_good, Tail, Bare}
use Rattle.vms_stream.proofs.Facade.{images, machine, judge, reading, by_units, State, between, by_state, at_start, SectionReadLaw, BeginsSection}
use Rattle.vms_stream.proofs.Facade.{SectionFoundLaw, ToldLaw, AcceptedLaw, TakenLaw, LocalLaw, UnitsLaw, StreamLaw, GoesOn, FrontLaw, OneStreamLaw, Answer}
use Rattle.vms_stream.proofs.Facade.{EitherLaw, NeverBothLaw, OneFaultLaw, SectionLaw, WrittenLaw, WholeLaw, AreOneFault, reading_on}
use Rattle.vms_stream.proofs.{Inside.Agrees, StreamFound.found, StreamFound.section_found, StreamRead.read, StreamRead.free_is, StreamRead.section_on}
use Rattle.vms_stream.proofs.{Facade.IsBytes, Facade.bytes_rest, Facade.front_take, Finding.only, Finding.shows, Finding.advances, Finding.due_solid}
use Rattle.vms_stream.proofs.Written.{written_section_is, written_is_stream}
use Rattle.vms_stream.proofs.Steps.{Goes, Opening, Closes, Opens, Names, settled, free_opens}
use Rattle.vms_stream.proofs.Judging.{solid, state_accepts, state_refuses, cut_is, told_from, Says, says, units_mirror}
use Rattle.vms_stream.specs.{Faults.Cut, StreamLaws.Taken, StreamLaws.Faulty}
use Rattle.vms_spec.specs.declared.Reason.TheVariants as reasons

-- ---- a fault stays whatever follows the input, unless the input ends there

whole_on : (set : Set) (u : List Piece) (rest more : List ℕ) (x : Piece) → IsWhole set u rest x → IsWhole set u (rest ++ more) x
whole_on set u rest more x w = record { may = w.may; more = w.more ++ more; there = rw (w.there) (append_assoc (spell x) w.more more) }

why_on : (set : Set) (names : List (List ℕ)) (u : List Piece) (rest more : List ℕ) (section : Option ℕ) (reason : Reason) (size : ℕ)
    → (reason ≡ reasons.Truncated → ⊥) → Why set names u rest section reason size → Why set names u (rest ++ more) section reason size
why_on set names u rest more _ _ _ other (Fails h) = Fails h
why_on set names u rest more _ _ _ other (Cut h owes none) = absurd (other refl)
why_on set names u rest more _ _ _ other (Wrong x section reason h whole row) = Wrong x section reason h (whole_on set u rest more x whole) row

pub further_holds : FurtherLaw
further_holds set names input more place section reason size other f = record {
  units = f.units;
  rest = f.rest ++ more;
  front = f.front;
  whole = rw (f.whole) (append_assoc (spelled f.units) f.rest more);
  long = f.long;
  why = why_on set names _ f.rest more _ reason size other f.why;
}

shown : (d : Due) (rest : List ℕ) (x : Piece) (n : ℕ) → IsBytes rest → unit_at d rest ≡ Whole x n → IsThere d rest x n
shown d rest x n ok e = rw e at (shows d rest ok)

pub found_holds : FoundLaw
found_holds d rest ok = record {
  found = λ x n e. shown d rest x n ok e;
  only = λ x more m e. ap (unit_at d) e ∙ only d x more m;
  cut = λ c x more m e. let w = sym c ∙ ap (unit_at d) e ∙ only d x more m in cc;
  none = λ never. cut_is d rest (unit_at d rest) (shows d rest ok) never;
}

pub told_holds : ToldLaw
unfolding reading
told_holds set names input =
    told_from (judge (by_state set names)) (advances _ (λ s. solid set s s.spot)) (suc (length input)) (at_start set) 0 input (omega arith)

pub local_holds : LocalLaw
local_holds d r t x n ok e same =
    let w = shown d r x n ok e in
    let s : spell x ≡ take n t = cc (front_take n _ _ r w.there w.long) in
    ap (unit_at d) (sym (take-append-drop n t) ∙ ap (λ l. l ++ drop n t) (sym s)) ∙ only d x (drop n t) w.may ∙ ap (Whole x) w.long

pub accepted_holds : AcceptedLaw
accepted_holds set names well heads input n end ok h = found set names (well_good set well heads) input n end ok h

pub taken_holds : TakenLaw
taken_holds set names well heads input n machine images t =
    let r = read set names (well_good set well heads) input n machine images t in
    (r.end, r.is, r.machine_is, r.images_are)

-- ---- units

pub units_hold : UnitsLaw
units_hold set names well heads input n u ok e =
    let a = (state_accepts set names).ends input n u ok e in
    rw a.2 at (found set names (well_good set well heads) input n a.0 ok a.1)

pub stream_holds : StreamLaw
stream_holds set names well heads input n named states ok t =
    let r = read set names (well_good set well heads) input n named states t in
    let a = (state_accepts set names).accepted input n r.end ok r.is in
    (a.0, a.1, ap (λ s. s.machine) (sym a.2) ∙ r.machine_is, ap (λ s. s.images) (sym a.2) ∙ r.images_are)

pub front_holds : FrontLaw
front_holds set names well heads u rest ok front sound =
    let g = by_units set names in
    let t = told_from (judge g) (advances g (due_solid set)) (suc (length rest)) u (length (spelled u)) rest (omega arith) in
    by t.0 (says set names g (due_solid set) (λ u s. s ≡ u) (units_mirror set names) (suc (length rest)) u u (length (spelled u))
    (spelled u ++ rest) rest t.0 refl (bytes_rest (spelled u) rest ok) front refl refl t.1)
  where
    by : (x : Reading (List Piece)) → Says set names (by_units set names) (due_solid set) (λ u s. s ≡ u) (units_mirror set names) u (spelled u ++ rest) x
        → GoesOn set names (spelled u ++ rest) u
    by (Accepted n end) w = search (arith, units_hold)
    by (Refused place section reason size) f = absurd (sound place section reason size f)

-- ---- streams and faults

pub one_stream_holds : OneStreamLaw
one_stream_holds set names well heads input n m machine other images others t u =
    let good = well_good set well heads in
    let a = read set names good input n machine images t in
    let b = read set names good input m other others u in
    let e = sym a.is ∙ b.is in
    let same : a.end ≡ b.end = cc in
    record { lengths = cc; machines = cc; states = cc }

pub either_holds : EitherLaw
either_holds set names well heads input ok = by (told_holds set names input).0 (told_holds set names input).1
  where
    by : (r : Reading State) → reading (by_state set names) (at_start set) input ≡ Some r → Answer set names input
    by (Accepted n end) e = Taken n end.machine end.images (found set names (well_good set well heads) input n end ok e)
    by (Refused place section reason size) e = Faulty place section reason size ((state_refuses set names).refused input place section reason size ok e)

pub never_both_holds : NeverBothLaw
never_both_holds set names well heads input ok n machine images place section reason size t f =
    let r = read set names (well_good set well heads) input n machine images t in
    let e = sym r.is ∙ (state_refuses set names).faulty input place section reason size ok f in
    cc

same_refusal : {place other_place : ℕ} {section other_section : Option ℕ} {reason other_reason : Reason} {size other_size : ℕ} (x y : Reading State)
    → Some x ≡ Some y → x ≡ Refused place section reason size → y ≡ Refused other_place other_section other_reason other_size
    → AreOneFault place other_place section other_section reason other_reason size other_size
same_refusal x y e f g = record { places = cc; sections = cc; reasons = cc; sizes = cc }

pub one_fault_holds : OneFaultLaw
one_fault_holds set names input ok place other_place section other_section reason other_reason size other_size f g =
    same_refusal _ _ (sym ((state_refuses set names).faulty input place section reason size ok f) ∙
    (state_refuses set names).faulty input other_place other_section other_reason other_size ok g) refl refl

-- ---- a section at the front of the rest, whatever follows it

may_foot : (t : Tail) → (t ≡ Bare → ⊥) → Agrees t true
may_foot t h = grind arith

pub section_read_holds : SectionReadLaw
section_read_holds set names well heads k d image there machine images came tail first after room new foots id place bytes rest is =
    let s = between machine images came tail first after in
    let r = section_on set names (well_good set well heads) k d image there s (settled set s) refl (free_is set names first after s refl) room new true
    (may_foot tail foots) place id bytes rest is in
    r.reads ∙ ap (λ x. reading_on (judge (by_state set names)) x (place + length bytes) rest) (r.at refl)

pub section_found_holds : SectionFoundLaw
section_found_holds set names well heads machine images came tail first after images_long came_long place rest n end ok h four =
    let goes : Goes (record { set = set; names = names; taken = n; end = end }) (between machine images came tail first after) place rest = record { is = h } in
    by (free_opens first after refl ok came_long goes)
  where
    by : Opening (record { set = set; names = names; taken = n; end = end }) first (between machine images came tail false false) place rest
        → BeginsSection set came rest
    by (Closes more e all goes) = let f = sym four ∙ ap (λ l. get_or l 0 0) e in cc
    by (Names name more is e one le goes) = let f = sym four ∙ ap (λ l. get_or l 0 0) e in cc
    by (Opens k id v d more f e there new version goes) =
        let inside = slice_get_within set.devices k d there in
        (section_found (record { set = set; names = names; taken = n; end = end }) (well_good set well heads)
        (between machine images came tail false false) place k id v d more there (omega arith) came_long ok f e new version goes).begins

-- ---- what the writer gives

pub section_holds : SectionLaw
section_holds set d image id fits ready = written_section_is set d image id fits ready

pub written_holds : WrittenLaw
written_holds set names few machine text images configured described ready rest all = record {
  bytes = written set machine images text;
  text = text;
  stream = written_is_stream set names few machine text images configured described ready.one_each ready.ready;
  rest = rest;
  prefix = refl;
  long = refl;
  all = all;
}

configured : (names : List (List ℕ)) (machine : Option (List ℕ)) → IfSome machine (λ name. (is_one_of names name ≡ true) × (length name ≤ LONGEST_NAME))
    → IsConfiguration names machine (optional configuration machine)
configured names None h = refl
configured names (Some name) h = (h.0, h.1, refl)

pub trailed : (text : Option (List ℕ)) → IfSome text (λ t. length t ≤ longest_text) → IsTrailer text (optional trailer text)
trailed None h = refl
trailed (Some text) h = (h, refl)

pub whole_holds : WholeLaw
whole_holds set names few machine text images named fits ready = search (arith, configured, trailed, written_is_stream, written_holds)
