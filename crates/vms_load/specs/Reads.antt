-- What the calls of the loader read, as the judge of streams says it.
use Rattle.std.specs.Prelude.{◌≡◌, ℕ, ◌+◌, ◌-◌, ◌≤◌, ◌^◌, List, drop, Option, Some, None, Result, Ok, Err, IfSome}
use Rattle.vms_spec.specs.Readings.{Verdict, Goes, Faulty, Over, Reading, Accepted, Refused}
use Rattle.vms_stream.specs.State.{State}
use Rattle.vms_frames.specs.Stands.{Stand}
use Rattle.vms_frames.specs.Calls.{ahead, held_long}
use Rattle.vms_frames.specs.declared.fault.FrameFault.{FrameFault}
use Rattle.vms_frames.specs.declared.fault.Refusal.{Refusal}
use Rattle.vms_frames.specs.declared.fault.FrameFault.TheVariants as frames
use Rattle.vms_load.specs.declared.fault.LoadFault.{LoadFault}
use Rattle.vms_load.specs.declared.fault.LoadFault.TheVariants as faults

-- The cursor holds no byte, and `due` more bytes leave its offset at most 2^63.
pub record MayTake (due : ℕ) (stand : Stand) : Type 0 where
  pub held : stand.held ≡ None
  pub place : stand.at + due ≤ 2 ^ 63

-- How a reading goes on from an offset, with this rest of the input.
abbrev pub Onward : Type 0
Onward = ℕ → List ℕ → Option (Reading State)

-- How a reading goes on after a unit at offset `at`, by the judge's verdict on it.
abbrev pub behind : (State → Onward) → ℕ → Verdict State → Onward
behind go at (Goes n next) to left = go next to left
behind go at (Faulty section reason long) to left = Some (Refused at section reason long)
behind go at (Over end) to left = Some (Accepted at end)

-- The reading goes on from the cursor's state `to`, and all bytes before it were taken.
abbrev pub Leads : Option (Reading State) → Onward → ℕ → Stand → List ℕ → Option (List ℕ) → Type 0
Leads reading next at to rest None = ⊥
Leads reading next at to rest (Some left) = (reading ≡ next to.at (ahead to.held left)) × (ahead to.held left ≡ drop (to.at - at) rest)

-- The reading ends with the refusal `r` of a unit of `long` bytes. Exactly the bytes up to the end of this
-- unit were taken.
pub record Refuses (reading : Option (Reading State)) (at : ℕ) (rest : List ℕ) (left : Option (List ℕ)) (r : Refusal) : Type 0 where
  pub long : ℕ
  pub is : reading ≡ Some (Refused r.at r.section r.reason long)
  pub from : at ≤ r.at
  pub taken : left ≡ Some (drop (r.at - at + long) rest)

-- The reading goes on as the result says, or is refused so.
abbrev pub Reads : {X : Type 0} → Option (Reading State) → (X → Onward) → ℕ → Stand → List ℕ → Option (List ℕ) → Result X LoadFault → Type 0
Reads reading next at to rest left (Ok x) = Leads reading (next x) at to rest left
Reads reading next at to rest left (Err (faults.Refused r)) = Refuses reading at rest left r
Reads reading next at to rest left (Err faults.ReadFault) = Unit {0}

-- The same between two states of a cursor, if the rest of its source is known.
abbrev pub ReadsOn : {X : Type 0} → Onward → (X → Onward) → Stand → Stand → Option (List ℕ) → Option (List ℕ) → Result X LoadFault → Type 0
ReadsOn reading next from to old left result = IfSome old (λ rest. Reads (reading from.at (ahead from.held rest)) next from.at to (ahead from.held rest) left result)

-- The same as `Leads`, if the rest of the source is known.
abbrev pub LeadsOn : Onward → Onward → Stand → Stand → Option (List ℕ) → Option (List ℕ) → Type 0
LeadsOn reading next from to old left = IfSome old (λ rest. Leads (reading from.at (ahead from.held rest)) next from.at to (ahead from.held rest) left)

-- The call began after a unit of `long` bytes at offset `at`, the first of `bytes`.
pub record IsBehind (long at : ℕ) (bytes : List ℕ) (to : Stand) (left : Option (List ℕ)) : Type 0 where
  pub place : to.at ≡ at + long
  pub held : to.held ≡ None
  pub taken : left ≡ Some (drop long bytes)

-- What follows such a unit, read from the unit on, by the judge's verdict on it.
abbrev pub ReadsBehind : {X : Type 0} → (State → Onward) → Verdict State → (X → Onward) → ℕ → ℕ → List ℕ → Stand → Option (List ℕ) → Result X LoadFault → Type 0
ReadsBehind go v next at long bytes to left result = Reads (behind go at v (at + long) (drop long bytes)) next at to bytes left result

-- A whole unit of `long` bytes at offset `at` is judged: the reading goes on in a state, or the unit is
-- invalid.
abbrev pub Settles : {X : Type 0} → Verdict State → ℕ → (X → State) → ℕ → Result X LoadFault → Type 0
Settles (Goes n next) at state long (Ok x) = (next ≡ state x) × (n ≡ long)
Settles (Faulty section reason n) at state long (Err (faults.Refused r)) = (r ≡ record { section = section; at = at; reason = reason }) × (n ≡ long)
Settles verdict at state long result = ⊥

-- The fault of a unit with the device concerned.
abbrev pub concerning : Option ℕ → FrameFault → LoadFault
concerning section (frames.Refused at reason) = faults.Refused (record { section = section; at = at; reason = reason })
concerning section frames.ReadFault = faults.ReadFault

-- The input is invalid; the source hasn't failed.
abbrev pub IsRefused : LoadFault → Type 0
IsRefused (faults.Refused r) = Unit {0}
IsRefused faults.ReadFault = ⊥

-- The number of bytes that a cursor was given: those before its offset, and the one that it holds.
abbrev pub reach : Stand → ℕ
reach stand = stand.at + held_long stand.held
