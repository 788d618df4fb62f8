-- What a load returns: images that are normal and valid, and exactly what the input is.
use Rattle.vms_load.proofs.Facade
use Facade.{⊎_elim, cases_eq, ◌≡◌, ℕ, Bool, true, false, List, [], ◌∷◌, slice_set, Option, Some, map, suc, zero, refl, sym, ap, ◌∙◌}
use Facade.{◌+◌, ◌++◌, drop, Result, Ok, Err, IfSome, inl, ◌≤◌, arith, length, length-append, length-drop, slice_get, same_Some, Device, Set}
use Facade.{Image, EachOnce, none_left, HasSection, SectionsSpell, Takes, at_other, IsKept, AreKept, IsBytes, WellFormed, Reading, Refused, FitsHeads, reading}
use Facade.{State, by_state, at_start, accepted_holds, one_stream_holds, never_both_holds, one_fault_holds, state_refuses, Refusal, Intake, Last, MayFollow}
use Facade.{bytes_both, no_bytes, reads_as, reads_told, Loads, GoesThrough, LoadReads, ReadsAll, name_of, most_given, LoadFault, Staged, capped, Piece, spell}
use Facade.{spelled, Reason, Fault, Why, Cut, Wrong, EndsAtUnit, GivesStream, IsRefusedAt, ExactLaw, UnitLaw}
use Rattle.vms_image.specs.Typed.{state_of as untyped}
use Rattle.vms_stream.specs.Faults.{Fails}
use Rattle.vms_load.specs.declared.fault.LoadFault.TheVariants as faults

none_came : (devices : List Device) (k : ℕ) (d : Device) → slice_get devices k ≡ Some d → slice_get (map (λ d. false) devices) k ≡ Some false
none_came [] k d e = cc
none_came (x ∷ devices) zero d e = refl
none_came (x ∷ devices) (suc k) d e = none_came devices k d e

section_is : (set : Set) (footed : Bool) (k : ℕ) (d : Device) (image : Image) (o : Option Device) (i : Option Image) (bytes : List ℕ) → o ≡ Some d → i ≡ Some image → HasSection set footed k o i bytes → IsKept set d image
section_is set footed k d image o i bytes e f h = search arith

module _ (set : Set) (footed : Bool) (images : List Image) (k : ℕ) (d : Device) (image : Image) (there : slice_get set.devices k ≡ Some d) (here : slice_get images k ≡ Some image) where
  -- a device that has not come yet comes in what follows
  by_order : (order : List ℕ) (came : List Bool) (bytes : List ℕ) → EachOnce came order → SectionsSpell set footed images order bytes → slice_get came k ≡ Some false → IsKept set d image
  by_order [] came bytes once spelled e = absurd (none_left came k once e)
  by_order (j ∷ order) came bytes once spelled e =
      ⊎_elim (λ (same : k ≡ j). section_is set footed j d image (slice_get set.devices j) (slice_get images j) spelled.0
      (rw (sym same) (there)) (rw (sym same) (here)) spelled.2)
      (λ ne. by_order order (slice_set came j true) spelled.1 once.1 spelled.3 (at_other came j k true ne ∙ e)) (cases_eq k j)

pub taken_kept : (set : Set) (names : List (List ℕ)) (input : List ℕ) (n : ℕ) (machine : Option (List ℕ)) (images : List Image) → Takes set names input n machine images → AreKept set images
taken_kept set names input n machine images t = record {
  one_each = t.stream.one_each;
  each = λ k d image there here.
      by_order set t.stream.footed images k d image there here t.stream.order (map (λ d. false) set.devices) t.stream.sections t.stream.each_once t.stream.spelled (none_came set.devices k d there);
}

-- ---- What a load returns, by what the judge reads.

module _ (set : Set) (names : List (List ℕ)) (well : WellFormed set) (heads : FitsHeads set) (staged : Staged) (input : List ℕ) (ok : IsBytes input) (left : Option (List ℕ)) where
  taken_by : (taken : ℕ) (x : Option (Reading State)) → reading (by_state set names) (at_start set) input ≡ x → ReadsAll set x staged input left (Ok taken) → Loads set names input left (map untyped staged.images.items) taken (Ok staged.machine)
  taken_by taken x e h = grind (arith, accepted_holds)

  refused_by : (images : List Image) (taken : ℕ) (fault : LoadFault) (x : Option (Reading State)) → reading (by_state set names) (at_start set) input ≡ x → ReadsAll set x staged input left (Err fault) → Loads set names input left images taken (Err fault)
  refused_by images taken (faults.Refused r) (Some (Refused place section reason long)) e h = (
    long,
    (state_refuses set names).refused input r.at r.section r.reason long ok (e ∙ ap (λ y. Some (Refused y.at y.section y.reason long)) (sym h.0)),
    h.1 ∙ ap (λ y. Some (drop (y.at + long) input)) (sym h.0),
  )
  refused_by images taken faults.ReadFault x e h = tt
  refused_by images taken (faults.Refused r) _ e h = absurd h

-- what may follow at the end are bytes
last_bytes : (left : Option (List ℕ)) (more : List ℕ) → IfSome left IsBytes → MayFollow Last left more → IsBytes more
last_bytes left more ok said = grind (arith, no_bytes)

abbrev Through : Intake → Intake → Set → List (List ℕ) → Staged → Result ℕ LoadFault → Type 0
Through a b set names staged result = GoesThrough a b set (reading (by_state set names) (at_start set)) staged result

module _ {a b : Intake} (set : Set) (names : List (List ℕ)) (well : WellFormed set) (heads : FitsHeads set) (staged : Staged) (ok : IfSome b.left IsBytes) where
  -- a stream that is read to its end is one of the set
  pub loads_taken : (taken : ℕ) → Through a b set names staged (Ok taken) → LoadReads a b set names (map untyped staged.images.items) taken (Ok staged.machine)
  loads_taken taken h = search (arith, taken_by, bytes_both, last_bytes, by_state, at_start)

  -- one that is refused has a fault
  pub loads_refused : (images : List Image) (taken : ℕ) (fault : LoadFault) → Through a b set names staged (Err fault) → LoadReads a b set names images taken (Err fault)
  loads_refused images taken (faults.Refused r) h = record {
    bytes = h.bytes;
    takes = h.takes;
    long = h.long;
    says = λ more f. refused_by set names well heads staged (h.bytes ++ more) (bytes_both h.bytes more h.takes.octets (last_bytes b.left more ok f)) (Some more) images taken (faults.Refused r)
        (reading (by_state set names) (at_start set) (h.bytes ++ more)) refl (h.says more f);
    cause = tt;
  }
  loads_refused images taken faults.ReadFault h = reads_as (λ n l. l) (λ rest left p. tt) h

-- the images that a load gives are normal and valid
pub loads_kept : {a b : Intake} (set : Set) (names : List (List ℕ)) (images : List Image) (taken : ℕ) (machine : Option ℕ) → LoadReads a b set names images taken (Ok machine) → AreKept set images
loads_kept set names images taken machine h = taken_kept set names _ taken _ images (h.says [] (inl refl)).0

-- ---- What a load says about the known input, and how many bytes it takes.

module _ (set : Set) (names : List (List ℕ)) (images : List Image) (taken : ℕ) {a b : Intake} where
  pub content : (r : Result (Option ℕ) LoadFault) → LoadReads a b set names images taken r → IfSome a.left (λ input. Loads set names input b.left images taken r)
  content r p = grind (arith, reads_told)

  pub given : (machine : Option ℕ) → LoadReads a b set names images taken (Ok machine) → b.given ≡ capped (a.given + taken)
  given machine p = omega arith

  pub within : (r : Result (Option ℕ) LoadFault) → LoadReads a b set names images taken r → b.given ≤ a.given + most_given set
  within r p = grind arith

-- ---- The result of a load says exactly what the input is.

module _ (set : Set) (names : List (List ℕ)) (well : WellFormed set) (heads : FitsHeads set) (input : List ℕ) (ok : IsBytes input) (left : Option (List ℕ)) (images : List Image) (taken : ℕ) where
  gives : (result : Result (Option ℕ) LoadFault) → Loads set names input left images taken result → (n : ℕ) (machine : Option (List ℕ)) (others : List Image)
      → Takes set names input n machine others → GivesStream set images taken result n machine others
  gives (Ok named) l n machine others takes =
      let same = one_stream_holds set names well heads input taken n (name_of set named) machine images others l.0 takes in
      (same.lengths, same.machines, same.states)
  gives (Err (faults.Refused r)) l n machine others takes =
      absurd (never_both_holds set names well heads input ok n machine others r.at r.section r.reason l.0 takes l.1)
  gives (Err faults.ReadFault) l n machine others takes = tt

  refuses : (result : Result (Option ℕ) LoadFault) → Loads set names input left images taken result → (place : ℕ) (section : Option ℕ) (reason : Reason) (size : ℕ)
      → Fault set names input place section reason size → IsRefusedAt result place section reason
  refuses (Ok named) l place section reason size fault =
      absurd (never_both_holds set names well heads input ok taken (name_of set named) images place section reason size l.0 fault)
  refuses (Err (faults.Refused r)) l place section reason size fault =
      let same = one_fault_holds set names input ok r.at place r.section section r.reason reason l.0 size l.1 fault in
      (same.places, same.sections, same.reasons)
  refuses (Err faults.ReadFault) l place section reason size fault = tt

pub exact_holds : ExactLaw
exact_holds set names well heads input ok left images taken result l = search (arith, gives, refuses)

-- ---- what a refusal takes

-- the offending unit is within the input
unit_within : (set : Set) (names : List (List ℕ)) (u : List Piece) (rest : List ℕ) (section : Option ℕ) (reason : Reason) (size : ℕ) → Why set names u rest section reason size → size ≤ length rest
unit_within set names u rest section reason size (Fails h) = omega arith
unit_within set names u rest section reason size (Cut h o n) = omega arith
unit_within set names u rest section reason size (Wrong x s r h w e) = omega (arith, ap length w.there, length-append (spell x) w.more)

pub fault_within : (set : Set) (names : List (List ℕ)) (input : List ℕ) (place : ℕ) (section : Option ℕ) (reason : Reason) (size : ℕ) → Fault set names input place section reason size → place + size ≤ length input
fault_within set names input place section reason size f =
    omega (arith, ap length f.whole, length-append (spelled f.units) f.rest, unit_within set names f.units f.rest section reason size f.why)

ends_at : (set : Set) (names : List (List ℕ)) (r : Refusal) (images : List Image) (taken : ℕ) (input left : List ℕ) → Loads set names input (Some left) images taken (Err (faults.Refused r)) → EndsAtUnit set names r input left
ends_at set names r images taken input left l =
    let rest = same_Some left (drop (r.at + l.0) input) l.2 in
    record {
      size = l.0;
      fault = l.1;
      ends = omega (arith, ap length rest, length-drop (r.at + l.0) input, fault_within set names input r.at r.section r.reason l.0 l.1);
    }

pub unit_holds : UnitLaw
unit_holds set names old new images taken r reads =
    reads_as {M = λ n. n ≤ most_given set} {Q = EndsAtUnit set names r} (λ n l. l) (λ input left l. ends_at set names r images taken input left l) reads
