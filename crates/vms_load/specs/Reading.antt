-- What the steps of a part take from a source.
use Rattle.std.specs.Prelude.{◌≡◌, ℕ, ◌+◌, ◌^◌, ◌<◌, List, [], ◌∷◌, ◌++◌, Option, ℤ, Result, Ok, Err}
use Rattle.std.proofs.Common.{refl, sym, ap, ◌∙◌, subst, arith, Some}
use Rattle.std.proofs.lemmas.Result.{on_ok_weaker}
use Rattle.vms_kinds.specs.Codes.{width}
use Rattle.vms_image.specs.Typed.{Typed}
use Rattle.vms_spec.specs.Layout.{Slot, Number, Constant, Filler, Rule}
use Rattle.vms_spec.specs.Taking.{Taken, Progress, Refusal, ◌>>=◌, take_slot}
use Rattle.vms_io.specs.Told.{Intake}
use Rattle.vms_io.specs.Reading.{Reads}
use Rattle.vms_io.proofs.ReadingLemmas.{takes_none, reads_as, reads_both}
use Rattle.vms_frames.specs.Reads.{course}
use Rattle.vms_frames.specs.declared.fault.FrameFault.{FrameFault}
use Rattle.vms_frames.specs.declared.fault.FrameFault.TheVariants as faults
use Rattle.vms_walk.specs.declared.step.WalkStep.{WalkStep}
use Rattle.vms_walk.specs.declared.step.WalkStep.TheVariants as steps
use Rattle.vms_walk.specs.Inside.{Keeps}
use Rattle.vms_walk.specs.Steps.{capacities_of}
use Rattle.vms_walk.proofs.Walking.{keeps_same, keeps_more, keeps_front}
use Rattle.vms_load.specs.Bodies.{TakesAs, HasMoved, progress}

-- The slot of a step. A step keeps only the least of the capacities.
abbrev pub slot_of : WalkStep → Slot
slot_of (steps.Number cell kind most) = Number cell kind (capacities_of most)
slot_of (steps.Constant kind value) = Constant kind value
slot_of (steps.Filler bytes) = Filler bytes
slot_of (steps.Rule holds) = Rule holds

-- What steps take, one after the other.
abbrev pub take_steps : List WalkStep → Progress → Taken
take_steps [] p = Ok p
take_steps (x ∷ xs) p = take_slot (slot_of x) p >>= take_steps xs

-- The numbers after what was taken, or those before a step that is refused.
abbrev pub numbers_then : Taken → List ℤ → (Progress → List ℤ) → List ℤ
numbers_then (Ok q) numbers more = more q
numbers_then (Err e) numbers more = numbers

-- The numbers after these steps, or before the first that is refused.
abbrev pub last_numbers : List WalkStep → Progress → List ℤ
last_numbers [] p = p.numbers
last_numbers (x ∷ xs) p = numbers_then (take_slot (slot_of x) p) p.numbers (last_numbers xs)

-- The number of bytes of a step.
abbrev pub step_long : WalkStep → ℕ
step_long (steps.Number cell kind most) = width kind
step_long (steps.Constant kind value) = width kind
step_long (steps.Filler bytes) = bytes
step_long (steps.Rule holds) = 0

-- The number of bytes of steps.
abbrev pub steps_long : List WalkStep → ℕ
steps_long [] = 0
steps_long (x ∷ xs) = step_long x + steps_long xs

-- An image, an offset, and what is known of a source.
pub record Told : Type 0 where
  pub image : Typed
  pub place : ℕ
  pub source : Intake

-- These three together.
abbrev pub told : Typed → ℕ → Intake → Told
told image place source = record { image = image; place = place; source = source }

-- The progress at `t`, if `rest` is the rest of the input.
abbrev pub from : Told → List ℕ → Progress
from t rest = progress t.image.numbers t.place rest

-- `IfRefused result P`: P, if the input is invalid.
abbrev pub IfRefused : Result (Unit {0}) FrameFault → Type 0 → Type 0
IfRefused (Ok x) P = Unit {0}
IfRefused (Err (faults.Refused at reason)) P = P
IfRefused (Err faults.ReadFault) P = Unit {0}

-- `IsFilled xs old result new rest left`: of the bytes `rest` these steps take what was taken, or are refused
-- so. If the input is invalid, the numbers are those before the refused step.
abbrev pub IsFilled : List WalkStep → Told → Result (Unit {0}) FrameFault → Told → List ℕ → List ℕ → Type 0
IsFilled xs old result new rest left =
    TakesAs (take_steps xs (from old rest)) new.image.numbers new.place (Some left) result
    × IfRefused result (new.image.numbers ≡ last_numbers xs (from old rest))

-- These steps were taken, or some of the first, and then a fault came.
pub record Fills (xs : List WalkStep) (old : Told) (result : Result (Unit {0}) FrameFault) (new : Told) : Type 0 where
  pub reads : Reads (course result) old.source new.source (HasMoved (steps_long xs) old.place new.place result) (IsFilled xs old result new)
  pub kept : new.image ≡ record old.image { numbers = new.image.numbers }
  pub keeps : Keeps xs old.image.numbers new.image.numbers

-- ---- laws

on_both : (xs ys zs : List WalkStep) → ((p : Progress) → take_steps zs p ≡ (take_steps xs p >>= take_steps ys)) → (t : Taken) → (t >>= take_steps zs) ≡ ((t >>= take_steps xs) >>= take_steps ys)
on_both xs ys zs h (Ok p) = h p
on_both xs ys zs h (Err e) = refl

pub take_append : (xs ys : List WalkStep) (p : Progress) → take_steps (xs ++ ys) p ≡ (take_steps xs p >>= take_steps ys)
take_append [] ys p = refl
take_append (x ∷ xs) ys p = on_both xs ys (xs ++ ys) (λ q. take_append xs ys q) (take_slot (slot_of x) p)

pub long_append : (xs ys : List WalkStep) → steps_long (xs ++ ys) ≡ steps_long xs + steps_long ys
long_append [] ys = omega arith
long_append (x ∷ xs) ys = omega (arith, long_append xs ys)

-- The numbers after steps that are taken, if more steps follow.
pub last_taken : (xs ys : List WalkStep) (p q : Progress) → take_steps xs p ≡ Ok q → last_numbers (xs ++ ys) p ≡ last_numbers ys q
last_taken [] ys p q e = ap (λ (t : Taken). numbers_then t p.numbers (last_numbers ys)) e
last_taken (x ∷ xs) ys p q e = go (take_slot (slot_of x) p) (λ r. last_taken xs ys r q) e
  where
    go : (t : Taken) → ((r : Progress) → take_steps xs r ≡ Ok q → last_numbers (xs ++ ys) r ≡ last_numbers ys q) → (t >>= take_steps xs) ≡ Ok q
        → numbers_then t p.numbers (last_numbers (xs ++ ys)) ≡ last_numbers ys q
    go (Ok r) h e = h r e
    go (Err r) h e = cc

-- If the steps are refused, further ones change nothing.
pub last_refused : (xs ys : List WalkStep) (p : Progress) (e : Refusal) → take_steps xs p ≡ Err e → last_numbers (xs ++ ys) p ≡ last_numbers xs p
last_refused [] ys p r e = cc
last_refused (x ∷ xs) ys p r e = go (take_slot (slot_of x) p) (λ q. last_refused xs ys q r) e
  where
    go : (t : Taken) → ((q : Progress) → take_steps xs q ≡ Err r → last_numbers (xs ++ ys) q ≡ last_numbers xs q) → (t >>= take_steps xs) ≡ Err r
        → numbers_then t p.numbers (last_numbers (xs ++ ys)) ≡ numbers_then t p.numbers (last_numbers xs)
    go (Ok q) h e = h q e
    go (Err q) h e = refl

-- ---- of what is read

abbrev whole : Progress → Taken
whole p = Ok p

-- Steps that were taken lead to the progress with this rest.
leads : (t : Taken) (b : Told) (left : List ℕ) → TakesAs t b.image.numbers b.place (Some left) (Ok tt) → t ≡ Ok (from b left)
leads (Err e) b left h = absurd h
leads (Ok q) b left h =
    let rest : q.rest ≡ left = some_is q.rest left (sym h.2) in
    let one : q ≡ record { numbers = b.image.numbers; place = q.place; rest = q.rest } = ap (λ (m : List ℤ). record { numbers = m; place = q.place; rest = q.rest }) (sym h.0) in
    let two : record { numbers = b.image.numbers; place = q.place; rest = q.rest } ≡ record { numbers = b.image.numbers; place = b.place; rest = q.rest } = ap (λ (k : ℕ). record { numbers = b.image.numbers; place = k; rest = q.rest }) (sym h.1) in
    ap whole (one ∙ two ∙ ap (λ (l : List ℕ). from b l) rest)
  where
    some_is : (x y : List ℕ) → Some x ≡ Some y → x ≡ y
    some_is x y e = cc

always : (t : Taken) (n : List ℤ) (place : ℕ) (left : Option (List ℕ)) → TakesAs t n place left (Err faults.ReadFault)
always (Ok p) n place left = tt
always (Err e) n place left = tt

stop_early : (t : Taken) (ys : List WalkStep) (fault : FrameFault) (n : List ℤ) (place : ℕ) (left : Option (List ℕ)) → TakesAs t n place left (Err fault) → TakesAs (t >>= take_steps ys) n place left (Err fault)
stop_early (Ok p) ys (faults.Refused at reason) n place left h = absurd h
stop_early (Ok p) ys faults.ReadFault n place left h = always (take_steps ys p) n place left
stop_early (Err e) ys fault n place left h = h

kept_on : (a b c : Typed) → b ≡ record a { numbers = b.numbers } → c ≡ record b { numbers = c.numbers } → c ≡ record a { numbers = c.numbers }
kept_on a b c e f = f ∙ ap (λ (image : Typed). record image { numbers = c.numbers }) e

pub fills_none : (a : Told) → a.source.given < 2 ^ 64 → Fills [] a (Ok tt) a
fills_none a few = record {
  reads = record {
    bytes = [];
    takes = takes_none a.source few;
    long = (omega arith, omega arith);
    says = λ more f. ((refl, refl, refl), tt);
    cause = tt;
  };
  kept = refl;
  keeps = keeps_same [] a.image.numbers a.image.numbers refl;
}

if_refused : {P Q : Type 0} (r : Result (Unit {0}) FrameFault) → (P → Q) → IfRefused r P → IfRefused r Q
if_refused (Ok x) f h = tt
if_refused (Err (faults.Refused at reason)) f h = f h
if_refused (Err faults.ReadFault) f h = tt

filled_more : (xs ys : List WalkStep) (a b c : Told) (r : Result (Unit {0}) FrameFault) (all rest left : List ℕ) → IsFilled xs a (Ok tt) b all rest → IsFilled ys b r c rest left
    → IsFilled (xs ++ ys) a r c all left
filled_more xs ys a b c r all rest left h k =
    let led = leads (take_steps xs (from a all)) b rest h.0 in
    let P : Taken → Type 0 = λ t. TakesAs t c.image.numbers c.place (Some left) r in (
      subst P (sym (take_append xs ys (from a all) ∙ ap (λ (t : Taken). t >>= take_steps ys) led)) k.0,
      if_refused r (λ (e : c.image.numbers ≡ last_numbers ys (from b rest)). e ∙ sym (last_taken xs ys (from a all) (from b rest) led)) k.1,
    )

pub fills_more : (xs ys : List WalkStep) (a b c : Told) (r : Result (Unit {0}) FrameFault) → Fills xs a (Ok tt) b → Fills ys b r c → Fills (xs ++ ys) a r c
fills_more xs ys a b c r h k = record {
  reads = reads_both (λ n m p q. (omega (arith, p.0, q.0, long_append xs ys), on_ok_weaker r (λ (e : c.place ≡ b.place + m). omega (arith, p.1, e)) q.1))
      (λ all rest left p q. filled_more xs ys a b c r all rest left p q) h.reads k.reads;
  kept = kept_on a.image b.image c.image h.kept k.kept;
  keeps = keeps_more xs ys a.image.numbers b.image.numbers c.image.numbers h.keeps k.keeps;
}

refused_then : (t : Taken) (n : List ℤ) (place : ℕ) (left : Option (List ℕ)) (fault : FrameFault) {P Q : Type 0} → TakesAs t n place left (Err fault) → ((e : Refusal) → t ≡ Err e → P → Q)
    → IfRefused (Err fault) P → IfRefused (Err fault) Q
refused_then (Ok q) n place left (faults.Refused at reason) h f p = absurd h
refused_then (Err e) n place left (faults.Refused at reason) h f p = f e refl p
refused_then t n place left faults.ReadFault h f p = tt

filled_before : (xs ys : List WalkStep) (a b : Told) (fault : FrameFault) (all left : List ℕ) → IsFilled xs a (Err fault) b all left → IsFilled (xs ++ ys) a (Err fault) b all left
filled_before xs ys a b fault all left h =
    let P : Taken → Type 0 = λ t. TakesAs t b.image.numbers b.place (Some left) (Err fault) in (
      subst P (sym (take_append xs ys (from a all))) (stop_early (take_steps xs (from a all)) ys fault b.image.numbers b.place (Some left) h.0),
      refused_then (take_steps xs (from a all)) b.image.numbers b.place (Some left) fault h.0
          (λ r e (f : b.image.numbers ≡ last_numbers xs (from a all)). f ∙ sym (last_refused xs ys (from a all) r e)) h.1,
    )

pub fills_before : (xs ys : List WalkStep) (a b : Told) (fault : FrameFault) → Fills xs a (Err fault) b → Fills (xs ++ ys) a (Err fault) b
fills_before xs ys a b fault h = record {
  reads = reads_as (λ n p. (omega (arith, p.0, long_append xs ys), tt)) (λ rest left p. filled_before xs ys a b fault rest left p) h.reads;
  kept = h.kept;
  keeps = keeps_front xs ys a.image.numbers b.image.numbers h.keeps;
}
