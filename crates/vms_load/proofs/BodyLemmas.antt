-- Readings of the fields of a part that go on: numbers, constants and rules.
use Rattle.vms_load.proofs.Facade
use Facade.{false_from_ne_true, ◌≡◌, ℕ, ◌+◌, List, [], length, take, drop, slice_set, Option, Some, Result, Ok, Err, OnOk, ℤ, refl, sym, ap}
use Facade.{◌∙◌, arith, Bool, true, false, not, ◌&&◌, nat_lt, ◌<◌, ◌^◌, IfErr, drop_all, Kind, width, value_of, Reason, same_number, exceeds}
use Facade.{is_truth, is_above, Slot, Rule, Taken, Progress, take_slot, Piece, raw, Seen, Good, Bad, seen, nothing_known, put, taken_by, IsUnit, by_tests}
use Facade.{tested, slot_seen, AnswersSeen, Fails, ReadsNumber, ReadsFiller, FrameFault, TakesAs, ReadsCapped, ReadsConstant, TakesOn, progress, same_number_is}
use Facade.{Intake, takes_none, reads_as, reads_last, ReadsAs, Told, Fills, keeps_same, ◌∷◌}
use Rattle.vms_load.proofs.RunReads.{step_fills}
use Rattle.vms_spec.specs.Layout.{Number as NumberSlot, Constant as ConstantSlot, Filler as FillerSlot}
use Rattle.vms_spec.specs.Units.{Number, Constant, Filler}
use Rattle.vms_stream.specs.Dues.{Field}
use Rattle.vms_walk.specs.declared.step.WalkStep.TheVariants as steps
use Rattle.vms_spec.specs.declared.Reason.TheVariants as reasons
use Rattle.vms_frames.specs.declared.fault.FrameFault.TheVariants as faults

-- ---- what else a slot requires

module _ (kind : Kind) (rest : List ℕ) where
  abbrev z : ℤ
  z = value_of (raw kind) (take (width kind) rest)

  abbrev cut : Bool
  cut = nat_lt (length rest) (width kind)

  abbrev bad : Bool
  bad = is_truth kind && is_above z 1

  number_by : (c : ℕ) (caps : List ℕ) → seen (Field 0 (NumberSlot c kind caps)) nothing_known rest ≡ by_tests cut bad (exceeds caps z) (Number c kind z) (width kind) reasons.CountTooLarge
  number_by c caps = tested 0 nothing_known (NumberSlot c kind caps) cut bad (exceeds caps z) (Number c kind z) (width kind) reasons.CountTooLarge refl

  constant_by : (y : ℤ) → seen (Field 0 (ConstantSlot kind y)) nothing_known rest ≡ by_tests cut bad (not (same_number z y)) (Constant kind z) (width kind) reasons.NotEqual
  constant_by y = tested 0 nothing_known (ConstantSlot kind y) cut bad (not (same_number z y)) (Constant kind z) (width kind) reasons.NotEqual refl

-- a good unit passed all tests
record Passed (a b e : Bool) (x y : Piece) : Type 0 where
  cut : a ≡ false
  bad : b ≡ false
  other : e ≡ false
  same : x ≡ y

passed : (a b e : Bool) (x y : Piece) (n : ℕ) (why : Reason) → by_tests a b e x n why ≡ Good y n → Passed a b e x y
passed a b e x y n why h = search arith

to_good : (a b e : Bool) (x y : Piece) (n : ℕ) (why : Reason) → a ≡ false → b ≡ false → e ≡ false → x ≡ y → by_tests a b e x n why ≡ Good y n
to_good a b e x y n why f g h same = cc

to_bad : (a b e : Bool) (x : Piece) (n : ℕ) (why : Reason) → a ≡ false → b ≡ false → e ≡ true → by_tests a b e x n why ≡ Bad n why
to_bad a b e x n why f g h = cc

number_same : (kind : Kind) (z y : ℤ) → Number 0 kind z ≡ Number 0 kind y → z ≡ y
number_same kind z y e = cc

-- a fault without the slot's own checks is the same with them
fails_with : (a b e : Bool) (x y : Piece) (n : ℕ) (why other : Reason) (rest : List ℕ) (left : Option (List ℕ)) (reason : Reason) → Fails (by_tests a b false x n why) rest left reason → Fails (by_tests a b e y n other) rest left reason
fails_with a b e x y n why other rest left reason h = grind arith

fails_alike : (a b e : Bool) (x y : Piece) (n : ℕ) (why : Reason) (rest : List ℕ) (left : Option (List ℕ)) (reason : Reason) → Fails (by_tests a b e x n why) rest left reason → Fails (by_tests a b e y n why) rest left reason
fails_alike a b e x y n why rest left reason h = grind arith

-- a slot with a test of its own beside those of its number
module _ (kind : Kind) (at : ℕ) (new : Option (List ℕ)) (rest : List ℕ) {found : Seen} (own : ℤ → Bool) (x : ℤ → Piece) (why : Reason)
    (is : found ≡ by_tests (cut kind rest) (bad kind rest) (own (z kind rest)) (x (z kind rest)) (width kind) why) where
  -- what is read of the number passed the others
  read_good : (v : ℤ) → ReadsNumber kind at (Some rest) new (Ok v) → Passed (cut kind rest) (bad kind rest) false (Number 0 kind (z kind rest)) (Number 0 kind v)
  read_good v h = passed (cut kind rest) (bad kind rest) false _ _ (width kind) reasons.CountTooLarge (sym (number_by kind rest 0 []) ∙ h.0)

  own_ok : (v : ℤ) → ReadsNumber kind at (Some rest) new (Ok v) → own v ≡ false → (found ≡ Good (x v) (width kind)) × (new ≡ Some (drop (width kind) rest))
  own_ok v h e = grind (arith, read_good, number_same, to_good)

  own_fails : (v : ℤ) → ReadsNumber kind at (Some rest) new (Ok v) → own v ≡ true → (at ≡ at) × Fails found rest new why
  own_fails v h e = grind (arith, read_good, to_bad, number_same)

  own_err : {X : Type 0} (unit : X → Piece) (long : X → ℕ) (fault : FrameFault) → ReadsNumber kind at (Some rest) new (Err fault)
      → AnswersSeen unit long found at rest new (Err fault)
  own_err unit long faults.ReadFault h = tt
  own_err unit long (faults.Refused place reason) h = (
    h.0,
    rw is (fails_with (cut kind rest) (bad kind rest) (own (z kind rest)) _ _ (width kind) reasons.CountTooLarge why rest new reason
        (rw (number_by kind rest 0 []) at h.1)),
  )

-- ---- what is taken by what is seen

fails_taken : (p : Progress) (s : Seen) (n : List ℤ) (to : ℕ) (left : Option (List ℕ)) (place : ℕ) (reason : Reason) → place ≡ p.place → Fails s p.rest left reason → TakesAs (taken_by p s) n to left (Err (faults.Refused place reason))
fails_taken p s n to left place reason e h = grind (arith, drop_all)

good_taken : (p : Progress) (s : Seen) (x : Piece) (m to : ℕ) (left : Option (List ℕ)) → s ≡ Good x m → to ≡ p.place + m → left ≡ Some (drop m p.rest) → TakesAs (taken_by p s) (put x p.numbers) to left (Ok tt)
good_taken p s x m to left e far l = rw e (refl, far, l)

by_read_fault : (t : Taken) (n : List ℤ) (to : ℕ) (left : Option (List ℕ)) → TakesAs t n to left (Err faults.ReadFault)
by_read_fault _ n to left = tt

module _ (rest : List ℕ) (new : Option (List ℕ)) (at to : ℕ) (numbers : List ℤ) where
  abbrev from : Progress
  from = record { numbers = numbers; place = at; rest = rest }

  seen_taken : (slot : Slot) (n : List ℤ) (result : Result (Unit {0}) FrameFault) → IsUnit slot → TakesAs (taken_by from (seen (Field 0 slot) nothing_known rest)) n to new result → TakesAs (take_slot slot from) n to new result
  seen_taken slot n result u h = rw (slot_seen 0 nothing_known from slot u) at h

  pub number_ok : (kind : Kind) (caps : List ℕ) (cell : ℕ) (x : ℤ) → to ≡ at + width kind → ReadsCapped kind caps at (Some rest) new (Ok x) → TakesAs (take_slot (NumberSlot cell kind caps) from) (slice_set numbers cell x) to new (Ok tt)
  number_ok kind caps cell x far a = grind (arith, passed, number_by, number_same, seen_taken, good_taken, to_good)

  pub number_err : (kind : Kind) (caps : List ℕ) (cell : ℕ) (n : List ℤ) (fault : FrameFault) → ReadsCapped kind caps at (Some rest) new (Err fault) → TakesAs (take_slot (NumberSlot cell kind caps) from) n to new (Err fault)
  number_err kind caps cell n fault a = grind (arith, by_read_fault, seen_taken, fails_taken, seen, number_by, fails_alike)

  -- a constant and unused bytes give no number
  plain : (slot : Slot) (x : Piece) (m : ℕ) (result : Result (Unit {0}) FrameFault) → IsUnit slot → OnOk result (to ≡ at + m) → put x numbers ≡ numbers
      → AnswersSeen (λ _. x) (λ _. m) (seen (Field 0 slot) nothing_known rest) at rest new result → TakesAs (take_slot slot from) numbers to new result
  plain slot x m result u far same a = grind (arith, seen_taken, good_taken, fails_taken, by_read_fault)

  pub constant_taken : (kind : Kind) (y : ℤ) (result : Result (Unit {0}) FrameFault) → OnOk result (to ≡ at + width kind) → ReadsConstant kind y at (Some rest) new result → TakesAs (take_slot (ConstantSlot kind y) from) numbers to new result
  constant_taken kind y result far a = plain (ConstantSlot kind y) (Constant kind y) (width kind) result tt far refl a

  pub filler_taken : (n : ℕ) (result : Result (Unit {0}) FrameFault) → OnOk result (to ≡ at + n) → ReadsFiller n at (Some rest) new result → TakesAs (take_slot (FillerSlot n) from) numbers to new result
  filler_taken n result far a = plain (FillerSlot n) (Filler (take n rest)) n result tt far refl a

-- ---- What is read of a number that is capped, of a constant, and of a rule.

pub are_others : (x y : ℤ) → (x ≡ y → ⊥) → same_number x y ≡ false
are_others x y other = false_from_ne_true (same_number x y) (λ e. other (same_number_is x y e))

module _ (a b : Intake) (kind : Kind) (at : ℕ) where
  abbrev Plain : Result ℤ FrameFault → Type 0
  Plain r = ReadsAs a b (λ _. width kind) (width kind) (ReadsNumber kind at) r

  abbrev Capped : List ℕ → Result ℤ FrameFault → Type 0
  Capped caps r = ReadsAs a b (λ _. width kind) (width kind) (ReadsCapped kind caps at) r

  abbrev Fixed : ℤ → Result (Unit {0}) FrameFault → Type 0
  Fixed y r = ReadsAs a b (λ _. width kind) (width kind) (ReadsConstant kind y at) r

module _ {a b : Intake} (kind : Kind) (at : ℕ) (caps : List ℕ) where
  pub reads_capped : (v : ℤ) → exceeds caps v ≡ false → Plain a b kind at (Ok v) → Capped a b kind at caps (Ok v)
  reads_capped v few p =
      reads_as (λ n l. l) (λ rest left h. own_ok kind at (Some left) rest (exceeds caps) (Number 0 kind) _ (number_by kind rest 0 caps) v h few) p

  -- a number that is above a capacity
  pub reads_large : (v : ℤ) (place : ℕ) → place ≡ at → exceeds caps v ≡ true → Plain a b kind at (Ok v)
      → Capped a b kind at caps (Err (faults.Refused place reasons.CountTooLarge))
  reads_large v place here large p =
      rw here (reads_last (reads_as (λ n l. omega arith)
      (λ rest left h. own_fails kind at (Some left) rest (exceeds caps) (Number 0 kind) _ (number_by kind rest 0 caps) v h large) p))

  pub reads_no_number : (e : FrameFault) → Plain a b kind at (Err e) → Capped a b kind at caps (Err e)
  reads_no_number e p = grind (arith, reads_as, own_err, number_by)

abbrev differs : ℤ → ℤ → Bool
differs y v = not (same_number v y)

module _ {a b : Intake} (kind : Kind) (at : ℕ) (y : ℤ) where
  pub reads_constant : (v : ℤ) → same_number v y ≡ true → v ≡ y → Plain a b kind at (Ok v) → Fixed a b kind at y (Ok tt)
  reads_constant v same is p =
      reads_as (λ n l. l)
      (λ rest left h. rw is at (own_ok kind at (Some left) rest (differs y) (Constant kind) _ (constant_by kind rest y) v h (ap not same))) p

  -- another number
  pub reads_other : (v : ℤ) (place : ℕ) → place ≡ at → same_number v y ≡ false → Plain a b kind at (Ok v)
      → Fixed a b kind at y (Err (faults.Refused place reasons.NotEqual))
  reads_other v place here other p =
      rw here (reads_last (reads_as (λ n l. omega arith)
      (λ rest left h. own_fails kind at (Some left) rest (differs y) (Constant kind) _ (constant_by kind rest y) v h (ap not other)) p))

  pub reads_no_constant : (e : FrameFault) → Plain a b kind at (Err e) → Fixed a b kind at y (Err e)
  reads_no_constant e p = grind (arith, reads_as, own_err, constant_by)

-- nothing is read for the validations of a description
pub reads_rule : (a : Intake) (holds : Bool) (numbers : List ℤ) (at : ℕ) (result : Result (Unit {0}) FrameFault) → a.given < 2 ^ 64 → OnOk result (holds ≡ true)
    → IfErr result (λ fault. (holds ≡ false) × (fault ≡ faults.Refused at reasons.Invalid)) → TakesOn a a 0 at at (λ rest. take_slot (Rule holds) (progress numbers at rest)) numbers result
reads_rule a holds numbers at result counted ok err = search (arith, takes_none)

-- The end of a part leaves the image and the source as they are.
module _ (a : Told) {found holds : Bool} (is : found ≡ holds) (r : Result (Unit {0}) FrameFault) (counted : a.source.given < 2 ^ 64) (ok : OnOk r (found ≡ true))
    (err : IfErr r (λ fault. (found ≡ false) × (fault ≡ faults.Refused a.place reasons.Invalid))) where
  pub rule_fills : Fills (steps.Rule holds ∷ []) a r a
  rule_fills = grind (arith, reads_rule, step_fills, keeps_same)
