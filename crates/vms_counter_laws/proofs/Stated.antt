-- The laws as they are stated, and worked pairs of sets.
use Rattle.vms_counter_laws.proofs.Always.{shown}
use Rattle.vms_counter_laws.proofs.Facade
use Facade.{◌≡◌, ℕ, true, false, List, [], ◌∷◌, Option, Some, None, IfSome, refl, if◌then◌else◌, or_left, or_right, bytes_eq-Decides}
use Facade.{IsBytes, Set, Image, is_one_of, WellFormed, bytes_at, machine_bytes, written_are_bytes, Mismatch, lacking, machine_for, candidates, stream_of}
use Facade.{Refusal, Answer, State, IsFirst, Here, Later, NoneShows, Counters, Agree, Lacks, Finds, Fault, one_fault_holds, OneAnswerLaw, subst, pos, codes}
use Facade.{code, U8, U16, Struct, Counted, Place, first, Desc, Field, set_1, set_3, here, in_field, number, box, box_set, sub_of, counted_set, subsection_set}
use Facade.{reading, between_at, behind_at, trailer_at, first_mismatch, default_images, AreCompatible, NoState, computed, NamedLaw, AlwaysLaw, ComputedLaw}
use Facade.{zero, suc, Bool, length, arith, slice_get, Decides, Decides-and, Decides-like, Device, FitsHeads, Reading, Accepted, Refused, AreReady, IsReady}
use Facade.{ready_decides, at_start, by_state, Taken, Faulty, state_refuses, accepted_holds, told_holds, either_holds, never_both_holds, Shows, all_ready}
use Facade.{answer_to, first_refused, or_next, refused, refusal_of}
use Rattle.vms_stream.specs.{State.State as Standing, StreamLaws.Answer as Either}
use Rattle.vms_spec.specs.declared.Part.TheVariants as parts
use Rattle.vms_spec.specs.declared.Reason.TheVariants as reasons

-- ---- the streams of candidates are bytes

-- what is lacking is one of the machines
more_known : (m : List ℕ) (machines : List (List ℕ)) (o : Option (List ℕ)) → IfSome o (λ x. is_one_of machines x ≡ true)
    → IfSome o (λ x. is_one_of (m ∷ machines) x ≡ true)
more_known m machines o h = grind (arith, or_right)

lacking_known : (names machines : List (List ℕ)) → IfSome (lacking names machines) (λ m. is_one_of machines m ≡ true)
lacking_known names [] = tt
lacking_known names (m ∷ machines) =
    elim (is_one_of names m) as (λ b. IfSome (if b then lacking names machines else Some m) (λ x. is_one_of (m ∷ machines) x ≡ true)) [
      | true ↦ more_known m _ _ (lacking_known names machines)
      | false ↦ or_left _ _ ((bytes_eq-Decides m m).1 refl)
    ]

pub machine_known : (old new : Set) (m : Mismatch) → IfSome (machine_for old new m) (λ x. is_one_of old.machines x ≡ true)
machine_known old new m = grind (arith, lacking_known)

pub stream_bytes : (old new : Set) → WellFormed old → (m : Mismatch) (images : List Image) → IsBytes (stream_of old new m images)
stream_bytes old new well m images =
    bytes_at (stream_of old new m images) (written_are_bytes old well _ images None (machine_bytes old well _ (machine_known old new m)) tt)

-- ---- Two sets have one answer.

module _ (old new : Set) where
  none_first : (m : Mismatch) (images : List Image) (list : List (List Image)) → NoneShows old new m list → IsFirst old new m images list → ⊥
  none_first m images _ none (Here more s) = none.0 s
  none_first m images _ none (Later others more n first) = none_first m images more none.1 first

  one_first : (m : Mismatch) (a b : List Image) (list : List (List Image)) → IsFirst old new m a list → IsFirst old new m b list → a ≡ b
  one_first m a b _ (Here more s) (Here _ t) = refl
  one_first m a b _ (Here more s) (Later _ _ n first) = absurd (n s)
  one_first m a b _ (Later _ more n first) (Here _ t) = absurd (n t)
  one_first m a b _ (Later others more n first) (Later _ _ k second) = one_first m a b more first second

  -- the bytes of a stream have one fault
  abbrev FaultOf : List ℕ → Refusal → ℕ → Type 0
  FaultOf bytes r n = Fault new new.machines bytes r.place r.section r.reason n

  one_refusal : (bytes : List ℕ) (r s : Refusal) (n k : ℕ) → IsBytes bytes → FaultOf bytes r n → FaultOf bytes s k → r ≡ s
  one_refusal bytes r s n k ok f g =
      let one = one_fault_holds new new.machines bytes ok r.place s.place r.section s.section r.reason s.reason n k f g in
      rw (one.places, one.sections, one.reasons)

  both_found : (m : Mismatch) (a b : List Image) (r s : Refusal) (n k : ℕ) → IsBytes (stream_of old new m a) → IsFirst old new m a (candidates old new m)
      → IsFirst old new m b (candidates old new m) → FaultOf (stream_of old new m a) r n → FaultOf (stream_of old new m b) s k
      → State m (machine_for old new m) a r ≡ State m (machine_for old new m) b s
  both_found m a b r s n k ok x y f g =
      let same = one_first m a b _ x y in
      rw (same, (one_refusal _ r s n k ok f (rw (← same) at g)))

  module _ (well : WellFormed old) where
    one_answer : (a b : Answer) → Counters old new a → Counters old new b → a ≡ b
    one_answer _ _ (Agree h) (Agree k) = refl
    one_answer _ _ (Agree h) (Lacks m e none) = cc
    one_answer _ _ (Agree h) (Finds m images r n e first fault) = cc
    one_answer _ _ (Lacks m e none) (Agree h) = cc
    one_answer _ _ (Finds m images r n e first fault) (Agree h) = cc
    one_answer _ _ (Lacks m e none) (Lacks m' e' none') = let same : m ≡ m' = cc in rw same
    one_answer _ _ (Lacks m e none) (Finds m' images r n e' first fault) =
        let same : m ≡ m' = cc in
        absurd (none_first m' images (candidates old new m') (subst (λ x. NoneShows old new x (candidates old new x)) same none) first)
    one_answer _ _ (Finds m images r n e first fault) (Lacks m' e' none') =
        let same : m' ≡ m = cc in
        absurd (none_first m images (candidates old new m) (subst (λ x. NoneShows old new x (candidates old new x)) same none') first)
    one_answer _ _ (Finds m a r n e x f) (Finds m' b s k e' y g) =
        let same : m' ≡ m = cc in
        rw same (both_found m a b r s n k (stream_bytes old new well m a) x (rw same at y) f (rw same at g))

pub one_answer_holds : OneAnswerLaw
one_answer_holds old new well a b x y = one_answer old new well a b x y

-- ---- worked pairs of sets

unfoldable told : Set → Set → Answer
unfolding first_mismatch reading
told old new = computed old new

abbrev mismatch : ℕ → Place → Place → Mismatch
mismatch rule a b = record { rule = rule; in_old = a; in_new = b }

-- a structure of one or two bytes
abbrev point : ℕ → List Field → Desc
point version fields = record { name = codes "pt"; version = version; minimum = 1; fields = fields; validate = [] }

abbrev points : Desc → Set
points d = record { machines = codes "lab" ∷ []; structs = d ∷ []; devices = box 1 (record (number U8 (codes "p")) { item = Struct 0 } ∷ []) [] [] ∷ [] }

abbrev older_points : Set
older_points = points (point 1 (number U8 (codes "x") ∷ []))

abbrev newer_points : Set
newer_points = points (point 2 (number U8 (codes "x") ∷ record (number U8 (codes "y")) { since = 2 } ∷ []))

abbrev four : Set
four = box_set (number U8 (codes "n") ∷ record (number U16 (codes "v")) { count = Counted 0 4 } ∷ []) [] []

abbrev without_q : Set
without_q = box_set (number U8 (codes "a") ∷ []) [] (sub_of (codes "box/p") (codes "x") 5 ∷ [])

record Rows : Type 0 where
  -- the newer set takes the footer's mark for y, and the stream is then bare
  takes_a_footer_for_a_field : told older_points newer_points
      ≡ State (mismatch 6 (here (parts.Struct 0)) (in_field (parts.Struct 0) 1)) None (record { version = 1; came = []; numbers = pos 0 ∷ [] } ∷ [])
      (record { place = 28; section = None; reason = reasons.Trailing })
  raises_a_count : told four counted_set
      ≡ State (mismatch 11 (in_field (parts.Device 0) 1) (in_field (parts.Device 0) 1)) None
      (record { version = 1; came = []; numbers = pos 3 ∷ pos 0 ∷ pos 0 ∷ pos 0 ∷ pos 0 ∷ [] } ∷ [])
      (record { place = 25; section = Some 0; reason = reasons.CountTooLarge })
  has_no_state : told subsection_set without_q ≡ NoState (mismatch 13 (here (parts.Sub 0 1)) (here (parts.Device 0)))
  names_a_machine : told set_3 set_1 ≡ State (mismatch 1 (here parts.Set) (here parts.Set)) (Some (codes "isa-2")) (default_images set_3)
      (record { place = 8; section = None; reason = reasons.WrongMachine })
  accepts_an_older_set : told set_1 set_3 ≡ AreCompatible

rows : Rows
unfolding told first between_at behind_at trailer_at code
rows = search

-- ---- the laws as they are stated: a state that is named

first_shows : (old new : Set) (m : Mismatch) (images : List Image) (list : List (List Image)) → IsFirst old new m images list → Shows old new m images
first_shows old new m images _ (Here more s) = s
first_shows old new m images _ (Later others more none first) = first_shows old new m images more first

pub named_holds : NamedLaw
named_holds old new m _ images refusal (Finds _ _ _ size e first fault) = search (arith, first_shows)

-- ---- mismatches that always have one

pub always_holds : AlwaysLaw
always_holds old new good_old good_new heads_old heads m h kind ready =
    let ok = stream_bytes old new good_old m _ in
    let s = shown old new good_old good_new heads_old heads ready m h kind ok in
    by s (either_holds new new.machines good_new heads (stream_of old new m (default_images old)) ok)
  where
    by : Shows old new m (default_images old) → Either new new.machines (stream_of old new m (default_images old))
        → (refusal : Refusal) × Counters old new (State m (machine_for old new m) (default_images old) refusal)
    by s (Taken n machine states t) = absurd (s.untaken n machine states t)
    by s (Faulty place section reason size fault) =
        (record { place = place; section = section; reason = reason }, Finds m (default_images old) _ size h (Here _ s) fault)

-- ---- the answer

abbrev EachReady : Set → List Device → List Image → Type 0
EachReady set ds ims = (k : ℕ) (d : Device) (image : Image) → slice_get ds k ≡ Some d → slice_get ims k ≡ Some image → IsReady set d image

all_ready_decides : (set : Set) (ds : List Device) (ims : List Image) → Decides (all_ready set ds ims) ((length ims ≡ length ds) × EachReady set ds ims)
all_ready_decides set [] [] = grind arith
all_ready_decides set (x ∷ ds) (im ∷ ims) =
    Decides-like _ (λ h. (rw h.1.0, each h.0 h.1.1)) (λ h. (h.1 0 x im refl refl, (omega arith, λ k. h.1 (suc k))))
    (Decides-and _ _ (ready_decides set x im) (all_ready_decides set ds ims))
  where
    each : IsReady set x im → EachReady set ds ims → EachReady set (x ∷ ds) (im ∷ ims)
    each here more zero d image e f =
        let a : x ≡ d = cc in let b : im ≡ image = cc in rw (a, b) at here
    each here more (suc k) d image e f = more k d image e f
all_ready_decides set _ _ = (λ e. cc, λ h. absurd (omega arith))

module _ (old new : Set) (well : WellFormed old) (good : WellFormed new) (heads : FitsHeads new) (m : Mismatch) where
  abbrev stream : List Image → List ℕ
  stream images = stream_of old new m images

  abbrev read : List Image → Option (Reading Standing)
  read images = reading (by_state new new.machines) (at_start new) (stream images)

  -- a refused candidate shows the mismatch, and another one doesn't
  abbrev Tried : List Image → Option Refusal → Type 0
  Tried images None = Shows old new m images → ⊥
  Tried images (Some r) = Shows old new m images × ((size : ℕ) × Fault new new.machines (stream images) r.place r.section r.reason size)

  by_reading : (images : List Image) → IsBytes (stream images) → AreReady old images → (o : Option (Reading Standing)) → read images ≡ o
      → Tried images (refusal_of o)
  by_reading images ok ready None e = λ s. absurd (cc (e, (told_holds new new.machines (stream images)).1))
  by_reading images ok ready (Some (Accepted n end)) e =
      λ s. s.untaken n end.machine end.images (accepted_holds new new.machines good heads (stream images) n end ok e)
  by_reading images ok ready (Some (Refused place section reason size)) e =
      let fault = (state_refuses new _).refused (stream images) place section reason size ok e in
      let never = never_both_holds new new.machines good heads (stream images) ok in
      (record { ready = ready; untaken = λ n machine states t. never n machine states place section reason size t fault }, (size, fault))

  tried : (images : List Image) → Tried images (refused old new m images)
  tried images = by (all_ready old old.devices images) refl
    where
      by : (b : Bool) → all_ready old old.devices images ≡ b → Tried images (if b then refusal_of (read images) else None)
      by true e =
          let r = (all_ready_decides old _ images).0 e in
          by_reading images (stream_bytes old new well m images) (record { one_each = r.0; ready = r.1 }) (read images) refl
      by false e = λ s. absurd (cc ((all_ready_decides old _ images).1 (s.ready.one_each, s.ready.ready), e))

  -- the result of the list of candidates
  abbrev Comes : List (List Image) → Answer → Type 0
  Comes list AreCompatible = ⊥
  Comes list (NoState n) = (n ≡ m) × NoneShows old new m list
  Comes list (State n machine images r) = (n ≡ m) × (machine ≡ machine_for old new m) × IsFirst old new m images list
      × ((size : ℕ) × Fault new new.machines (stream images) r.place r.section r.reason size)

  later : (images : List Image) (more : List (List Image)) → (Shows old new m images → ⊥) → (a : Answer) → Comes more a → Comes (images ∷ more) a
  later images more never AreCompatible c = c
  later images more never (NoState n) c = (c.0, (never, c.1))
  later images more never (State n machine others r) c = (c.0, c.1, Later images more never c.2, c.3)

  comes : (list : List (List Image)) → Comes list (first_refused old new m list)
  comes [] = (refl, tt)
  comes (images ∷ more) = by (refused old new m images) (tried images) (comes more)
    where
      by : (o : Option Refusal) → Tried images o → Comes more (first_refused old new m more)
          → Comes (images ∷ more) (or_next old new m images o (first_refused old new m more))
      by None t c = later images more t _ c
      by (Some r) t c = (refl, refl, Here more t.0, t.1)

  counted : first_mismatch old new ≡ Some m → (a : Answer) → Comes (candidates old new m) a → Counters old new a
  counted e AreCompatible c = absurd c
  counted e (NoState n) c = rw c.0 (Lacks m e c.1)
  counted e (State n machine images r) c = rw (c.0, c.1) (Finds m images r c.3.0 e c.2 c.3.1)

pub computed_holds : ComputedLaw
computed_holds old new well good heads = by (first_mismatch old new) refl
  where
    by : (o : Option Mismatch) → first_mismatch old new ≡ o → Counters old new (answer_to old new o)
    by None e = Agree e
    by (Some m) e = counted old new well good heads m e _ (comes old new well good heads m (candidates old new m))
