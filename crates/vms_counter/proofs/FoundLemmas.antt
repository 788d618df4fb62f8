-- The candidates of `counter`: machines and images, and the result of trying them in turn.
use Rattle.vms_counter.proofs.Facade
use Facade.{◌≡◌, ℕ, ◌<◌, false, List, ◌∷◌, drop, length, get_or, Some, sym, ◌∙◌, refl, true, slice_set, arith, [], Option, None, IfSome}
use Facade.{map, slice_get, drop_more, length-set, slice_get_read, cases_eq, inl, inr, is_one_of, lacking, and_raised, default_images, machine_for, raised}
use Facade.{at_set, at_other, Set, Typed, IsImageOf, AreImagesOf, state_of, at_option, Image, Mismatch, verdict_of, Accepted, first_mismatch, NoState, State}
use Facade.{Shows, Here, Later, Counters, Lacks, Finds, refusal_of, Tries, is_among, subst, IsFirst}
use Rattle.vms_frames.specs.declared.fault.Refusal.{Refusal as Refused}

-- ---- The first machine that isn't one of those names.

pub lacks_here : (names machines : List (List ℕ)) (i : ℕ) (m : List ℕ) → i < length machines → m ≡ get_or machines i m → is_one_of names m ≡ false
    → lacking names (drop i machines) ≡ lacking names machines
    → slice_get machines i ≡ lacking names machines
lacks_here names machines i m lt is unknown inv =
    let here : Some m ≡ lacking names (drop i machines) = rw (drop_more machines i m lt, ← is, unknown) in
    slice_get_read machines (length machines) i m refl lt is ∙ here ∙ inv

-- ---- Images of all devices, by their numbers.

-- an image of one device, put anew
pub put_are : (set : Set) (images : List Typed) (k : ℕ) (image : Typed) → AreImagesOf set images → k < length set.devices → IsImageOf set k image
    → AreImagesOf set (slice_set images k image)
put_are set images k image are lt is = record {
  one_each = length-set images k image ∙ are.one_each;
  each = λ j x e. elim (cases_eq j k) [
    | inl same ↦
        let all = are.one_each in
        let here : image ≡ x = cc (at_set images k image (omega arith)) in
        rw (same, ← here) is
    | inr other ↦ are.each j x (sym (at_other images k j image other) ∙ e)
  ];
}

-- ---- The result of trying the candidates in turn: the machine.

pub named : (machines : List (List ℕ)) (machine : Option ℕ) → IfSome (at_option machines machine) (λ m. is_one_of machines m ≡ true)
named machines machine = by (at_option machines machine) refl
  where
    by : (o : Option (List ℕ)) → at_option machines machine ≡ o → IfSome o (λ m. is_one_of machines m ≡ true)
    by None e = tt
    by (Some name) e = of machine e
      where
        of : (m : Option ℕ) → at_option machines m ≡ Some name → is_one_of machines name ≡ true
        of None e = absurd (cc)
        of (Some k) e = is_among machines k name e

-- ---- candidates

-- what was tried, as it is named elsewhere
pub tries_by : (old new : Set) (name k : Option (List ℕ)) (typed images : List Typed) (o r : Option Refused) → k ≡ name → typed ≡ images → o ≡ r
    → Tries old new k (map state_of typed) o → Tries old new name (map state_of images) r
tries_by old new name k typed images o r named same is t = rw (named, same, is) at t

module _ (old new : Set) (m : Mismatch) (first : first_mismatch old new ≡ Some m) where
  -- a candidate that isn't refused doesn't show the mismatch
  pub not_shown : (images : List Image) → Tries old new (machine_for old new m) images None → Shows old new m images → ⊥
  not_shown images t s = let k = t s.ready in s.untaken k.taken k.machine k.states k.takes

  pub shown : (images : List Image) (r : Refused) → Tries old new (machine_for old new m) images (Some r) → Shows old new m images
  shown images r t = record { ready = t.0; untaken = t.1.untaken }

  pub first_found : (images : List Image) (r : Refused) → images ≡ default_images old → Tries old new (machine_for old new m) images (Some r)
      → Counters old new (State m (machine_for old new m) images (refusal_of r))
  first_found images r e t =
      let here = Here (and_raised old new (raised old new m)) (shown images r t) in
      Finds m images (refusal_of r) t.1.size first (subst (λ x. IsFirst old new m images (x ∷ and_raised old new (raised old new m))) e here) t.1.fault

  pub second_found : (images : List Image) (r : Refused) → Tries old new (machine_for old new m) (default_images old) None → raised old new m ≡ Some images
      → Tries old new (machine_for old new m) images (Some r) → Counters old new (State m (machine_for old new m) images (refusal_of r))
  second_found images r none e t =
      let later = Later (default_images old) (images ∷ []) (not_shown (default_images old) none) (Here [] (shown images r t)) in
      Finds m images (refusal_of r) t.1.size first (rw e later) t.1.fault

  pub none_found : Tries old new (machine_for old new m) (default_images old) None → raised old new m ≡ None → Counters old new (NoState m)
  none_found none e = Lacks m first (rw e (not_shown (default_images old) none, tt))

  pub neither_found : (images : List Image) → Tries old new (machine_for old new m) (default_images old) None → raised old new m ≡ Some images
      → Tries old new (machine_for old new m) images None → Counters old new (NoState m)
  neither_found images none e t = Lacks m first (rw e (not_shown (default_images old) none, (not_shown images t, tt)))

pub accepted_none : (o : Option Mismatch) → Accepted ≡ verdict_of o → o ≡ None
accepted_none o e = grind arith
