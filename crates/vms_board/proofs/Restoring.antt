-- A board is restored from images.
use Rattle.vms_board.proofs.{Facade.reads_told, Facade.IsRefused, Facade.Refused, Facade.Restores, Imaging.at_below}
use Rattle.vms_board.proofs.Facade.{◌≡◌, inl, inr, ℕ, suc, ◌-◌, ◌<◌, ◌≤◌, List, [], ◌∷◌, length, get_or, Option, Some, None, IfSome}
use Rattle.vms_board.proofs.Facade.{Ok, Err, Result, ap, arith, slice_get, reads_as, Intake, Refusal, LoadReads, accepted_of, most_given, name_of, Image, Set}
use Rattle.vms_board.proofs.Facade.{ComesTo, RestoreReads, Takings, TakingsRead, IsUnfit, Family, lists_in, Standing, RestoreFault, ◌+◌}
use Rattle.vms_load.specs.declared.fault.LoadFault.TheVariants as loads
use Rattle.vms_board.specs.declared.restore.RestoreFault.TheVariants as faults

-- ---- the effect of a load on a board

get-at : (xs : List (List ℕ)) (k : ℕ) (x : List ℕ) → slice_get xs k ≡ Some x → get_or xs k [] ≡ x
get-at (y ∷ xs) (suc k) x e = get-at xs k x e
get-at _ _ x e = cc

module _ {S : Type 0} (f : Family S) where
  -- ---- what a loader of the newest set reads that accepts the board's machine

  module _ (number n : ℕ) (set : Set) (named : slice_get (f.set f.newest).machines (number - 1) ≡ Some (f.machine number)) (at : n ≡ number - 1)
      (newest : set ≡ f.set f.newest) where
    accepted : accepted_of set (Some n) ≡ f.machine number ∷ []
    accepted = cc (get-at (f.set f.newest).machines (number - 1) (f.machine number) named)

    pub machine_below : n < length set.machines
    machine_below = omega (arith, ap (λ (s : Set). length s.machines) newest, at_below (f.set f.newest).machines (number - 1) (f.machine number) named)

    pub taken_read : {a b : Intake} (images : List Image) (taken : ℕ) (machine : Option ℕ)
        → LoadReads a b set (accepted_of set (Some n)) images taken (Ok machine) → TakingsRead f number a b images taken (Ok tt)
    taken_read images taken machine p =
        reads_as (λ k l. rw (← newest) l) (λ rest more said. ((name_of set machine, rw (← newest, ← accepted) said.0), said.1)) p

    pub refused_read : {a b : Intake} (images : List Image) (taken : ℕ) (r : Refusal)
        → LoadReads a b set (accepted_of set (Some n)) images taken (Err (loads.Refused r)) → TakingsRead f number a b images taken (Err (faults.Refused r))
    refused_read images taken r p =
        reads_as (λ k l. rw (← newest) l) (λ rest more said. ((said.0, rw (← newest, ← accepted) said.1), said.2)) p

  pub broken_read : {a b : Intake} (number n : ℕ) (set : Set) (images : List Image) (taken : ℕ) → set ≡ f.set f.newest
      → LoadReads a b set (accepted_of set (Some n)) images taken (Err loads.ReadFault) → TakingsRead f number a b images taken (Err faults.ReadFault)
  broken_read number n set images taken newest p = reads_as (λ k l. rw (← newest) l) (λ rest more said. tt) p

  -- ---- the results

  -- a board is restored
  pub back_read : {a b : Intake} (own number : ℕ) (images : List Image) (taken : ℕ) (m : S) (count : ℕ) → number ≡ own → count ≡ taken
      → f.restored number (lists_in images) ≡ Ok m
      → TakingsRead f number a b images taken (Ok tt) → RestoreReads f own a b (record { state = m; taken = count }) (Ok tt)
  back_read own number images taken m count l e d p = rw (← l, e) (reads_as (λ k w. w) (λ rest more h. ((images, h.0, d), h.1)) p)

  -- the fault of the input
  pub fault_read : {a b : Intake} (own number : ℕ) (new : Standing S) (images : List Image) (taken : ℕ) (fault : RestoreFault)
      (r : Result (Unit {0}) RestoreFault)
      → number ≡ own → r ≡ Err fault
      → TakingsRead f number a b images taken (Err fault) → RestoreReads f own a b new r
  fault_read own number new images taken fault r l e p = rw (← l, e) (reads_as (λ k w. w) (came fault) p)
    where
      came : (fault : RestoreFault) (rest more : List ℕ) → Takings f number rest (Some more) images taken (Err fault)
          → ComesTo f number new rest (Some more) (Err fault)
      came (faults.Refused r) rest more h = inl h
      came faults.ReadFault rest more h = tt

  -- images that no board has
  pub unfit_read : {a b : Intake} (own number : ℕ) (new : Standing S) (images : List Image) (taken : ℕ) (fault : RestoreFault)
      (r : Result (Unit {0}) RestoreFault)
      → number ≡ own → r ≡ Err fault
      → IsUnfit f number taken images fault → TakingsRead f number a b images taken (Ok tt) → RestoreReads f own a b new r
  unfit_read own number new images taken fault r l e u p = search (arith, reads_as)

-- ---- the result of a call that reads a board's stream from a known input, and the bytes that it reads

module _ {S : Type 0} (f : Family S) (number : ℕ) (new : Standing S) {a b : Intake} where
  pub content : (r : Result Unit RestoreFault) → RestoreReads f number a b new r → IfSome a.left (λ input. ComesTo f number new input b.left r)
  content (Ok u) p = reads_told (λ input left. ComesTo f number new input left (Ok u)) tt p
  content (Err (faults.Refused r)) p = reads_told (λ input left. ComesTo f number new input left (Err (faults.Refused r))) tt p
  content (Err faults.ReadFault) p = elim a.left as (λ o. IfSome o (λ input. Unit {0})) [ None ↦ tt | Some input ↦ tt ]

  pub within : (r : Result Unit RestoreFault) → RestoreReads f number a b new r → b.given ≤ a.given + most_given (f.set f.newest)
  within (Ok u) p = omega arith
  within (Err fault) p = omega arith

-- bytes that are refused restore to that refusal
pub refused_is : {S : Type 0} (f : Family S) (number : ℕ) (input : List ℕ) (left : Option (List ℕ)) (r : Refusal) → IsRefused f number input left r
    → Restores f number input (Refused r.at r.section r.reason)
refused_is f number input left r (inl h) = inl h.0
refused_is f number input left r (inr h) = inr h.0
