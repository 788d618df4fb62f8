-- Steps that are taken or refused, and runs of numbers of one kind.
use Rattle.vms_load.proofs.Facade
use Facade.{◌≡◌, ℕ, List, [], ◌∷◌, Option, Some, Result, Ok, Err, OnErr, OnOk, ℤ, ap, arith, zero, suc, ◌+◌, ◌*◌, ◌<◌, ◌≤◌}
use Facade.{◌++◌, length, take, drop, slice_set, None, refl, ◌∙◌, length-append, length-drop, false, ◌/◌, sym, subst, take-append-le}
use Facade.{drop-append-le, drop_all, length-take-le, take-append-drop, take-take, IsAtEnd, div-le_of_le-mul, div-lt_iff_lt-mul, lt-div-mul-add}
use Facade.{div-mul-le_self, Typed, Taken, ◌>>=◌, take_slot, Progress, refuse, on, reads_as, nothing_follows, FrameFault, WalkStep, TakesAs, TakesOn}
use Facade.{progress, slot_of, take_steps, last_numbers, numbers_then, step_long, Told, from, Fills, IsFilled, steps_long, take_append, last_taken, told, Kind}
use Facade.{width, value_of, is_bad_bool, values_of, put_from, run_of, keeps_same, keeps_more, keeps_put, run_split, Intake, Breaks, width_positive}
use Rattle.vms_walk.specs.{Inside.Keeps, declared.step.WalkStep.TheVariants.Number}
use Rattle.std.proofs.lemmas.List.{append-nil}
use Rattle.vms_kinds.specs.declared.Kind.TheVariants.{Bool}
use Rattle.vms_io.specs.Reading.{Takes}
use Rattle.vms_frames.specs.declared.fault.FrameFault.TheVariants as faults
use Rattle.vms_spec.specs.declared.Reason.TheVariants as reasons

-- what holds anyhow
pub on_any : {X E P : Type 0} (r : Result X E) → P → OnOk r P
on_any r p = grind arith

module _ (x : WalkStep) where
  alone : (t : Taken) (n : List ℤ) (place : ℕ) (left : Option (List ℕ)) (r : Result (Unit {0}) FrameFault) → TakesAs t n place left r → TakesAs (t >>= take_steps []) n place left r
  alone t n place left r h = grind arith

  same_then : (t : Taken) (numbers n : List ℤ) (place p : ℕ) (reason : _) (left : Option (List ℕ)) → TakesAs t n place left (Err (faults.Refused p reason)) → n ≡ numbers → n ≡ numbers_then t numbers (last_numbers [])
  same_then t numbers n place p reason left h e = grind arith

  module _ (a b : Told) where
    abbrev OneReads : Result (Unit {0}) FrameFault → Type 0
    OneReads r = TakesOn a.source b.source (step_long x) a.place b.place (λ rest. take_slot (slot_of x) (from a rest)) b.image.numbers r

    one_filled : (r : Result (Unit {0}) FrameFault) (rest left : List ℕ) → OnErr r (b.image ≡ a.image) → TakesAs (take_slot (slot_of x) (from a rest)) b.image.numbers b.place (Some left) r → IsFilled (x ∷ []) a r b rest left
    one_filled r rest left same h = search (arith, alone, from, same_then)

    pub step_fills : (r : Result (Unit {0}) FrameFault) → OneReads r → b.image ≡ record a.image { numbers = b.image.numbers } → Keeps (x ∷ []) a.image.numbers b.image.numbers → OnErr r (b.image ≡ a.image)
        → Fills (x ∷ []) a r b
    step_fills r reads kept keeps same = search (arith, reads_as, one_filled)

-- ---- What the steps at numbers of one kind, whose cells follow one another, take of their codes: all of them, or those before the
-- one that is cut.

any_good : (kind : Kind) (bytes : List ℕ) → (kind ≡ Bool → ⊥) → is_bad_bool kind bytes ≡ false
any_good kind bytes any = grind arith

pub values_long : (kind : Kind) (count : ℕ) (bytes : List ℕ) → length (values_of kind count bytes) ≡ count
values_long kind zero bytes = refl
values_long kind (suc count) bytes = rw (values_long kind count (drop (width kind) bytes))

pub run_long : (kind : Kind) (first count : ℕ) → steps_long (run_of first count kind) ≡ count * width kind
run_long kind first zero = omega arith
run_long kind first (suc count) = grind (arith, run_long kind (first + 1) count)

-- the first few cells get numbers
pub run_keeps : (kind : Kind) (count first : ℕ) (numbers zs : List ℤ) → length zs ≤ count → Keeps (run_of first count kind) numbers (put_from numbers first zs)
run_keeps kind count first numbers [] le = keeps_same (run_of first count kind) numbers numbers refl
run_keeps kind zero first numbers (z ∷ zs) le = absurd (omega arith)
run_keeps kind (suc count) first numbers (z ∷ zs) le =
    keeps_more (Number first kind None ∷ []) (run_of (first + 1) count kind) numbers (slice_set numbers first z) (put_from (slice_set numbers first z) (first + 1) zs)
    (keeps_put first kind None numbers z) (run_keeps kind count (first + 1) (slice_set numbers first z) zs (omega arith))

module _ (kind : Kind) (any : kind ≡ Bool → ⊥) where
  abbrev w : ℕ
  w = width kind

  -- ---- one number

  number_whole : (cell place : ℕ) (numbers : List ℤ) (rest : List ℕ) → width kind ≤ length rest
      → take_slot (slot_of (Number cell kind None)) (progress numbers place rest) ≡ Ok (progress (slice_set numbers cell (value_of kind (take (width kind) rest))) (place + width kind) (drop (width kind) rest))
  number_whole cell place numbers rest le = grind (arith, any_good)

  number_cut : (cell place : ℕ) (numbers : List ℤ) (rest : List ℕ) → length rest < width kind
      → take_slot (slot_of (Number cell kind None)) (progress numbers place rest) ≡ refuse (progress numbers place rest) reasons.Truncated (length rest)
  number_cut cell place numbers rest lt = grind arith

  -- ---- all of them

  pub run_taken : (count first place : ℕ) (numbers : List ℤ) (bytes more : List ℕ) → length bytes ≡ count * width kind
      → take_steps (run_of first count kind) (progress numbers place (bytes ++ more)) ≡ Ok (progress (put_from numbers first (values_of kind count bytes)) (place + count * width kind) more)
  run_taken zero first place numbers [] more long = ap (λ n. let t : Taken = Ok (progress numbers n more) in t) (omega arith)
  run_taken zero first place numbers (x ∷ bytes) more long = absurd (omega arith)
  run_taken (suc count) first place numbers bytes more long =
      let all : suc count * width kind ≡ width kind + count * width kind = grind arith in
      let le : width kind ≤ length bytes = omega arith in
      let v = value_of kind (take w bytes) in
      let front : take w (bytes ++ more) ≡ take w bytes = take-append-le w bytes more le in
      let far : (place + w) + count * w ≡ place + suc count * w = omega arith in
      rw (
        number_whole first place numbers (bytes ++ more) (omega (arith, length-append bytes more)),
        front,
        drop-append-le w bytes more le,
        run_taken count (first + 1) (place + w) (slice_set numbers first v) (drop w bytes) more (omega (arith, length-drop w bytes)),
        far,
      )

  -- ---- the input ends within them

  module _ (count whole first place : ℕ) (numbers : List ℤ) (bytes last : List ℕ) (long : length bytes ≡ whole * width kind) (cut : length last < width kind) (lt : whole < count) where
    abbrev behind : Progress
    behind = progress (put_from numbers first (values_of kind whole bytes)) (place + whole * width kind) last

    split_there : (rest : List WalkStep) × (run_of first count kind ≡ run_of first whole kind ++ (Number (first + whole) kind None ∷ rest))
    split_there = run_split first count whole kind lt

    done : take_steps (run_of first whole kind) (progress numbers place (bytes ++ last)) ≡ Ok behind
    done = run_taken whole first place numbers bytes last long

    at_cut : take_slot (slot_of (Number (first + whole) kind None)) behind ≡ refuse behind reasons.Truncated (length last)
    at_cut = number_cut (first + whole) behind.place behind.numbers last cut

    pub run_cut : take_steps (run_of first count kind) (progress numbers place (bytes ++ last)) ≡ refuse behind reasons.Truncated (length last)
    run_cut =
        rw (split_there.1, take_append (run_of first whole kind) (Number (first + whole) kind None ∷ split_there.0) (progress numbers place (bytes ++ last)), done, at_cut)

    pub cut_numbers : last_numbers (run_of first count kind) (progress numbers place (bytes ++ last)) ≡ put_from numbers first (values_of kind whole bytes)
    cut_numbers =
        rw (split_there.1, last_taken (run_of first whole kind) (Number (first + whole) kind None ∷ split_there.0) (progress numbers place (bytes ++ last)) behind done, at_cut)

-- ---- What a run of numbers reads.

-- the first of them
pub run_first : (first count : ℕ) (kind : Kind) → 0 < count → (rest : List WalkStep) × (run_of first count kind ≡ Number first kind None ∷ rest)
run_first first zero kind some = absurd (omega arith)
run_first first (suc count) kind some = (run_of (first + 1) count kind, refl)

-- an image with the numbers of some codes, from a cell on
abbrev pub filled : Typed → ℕ → Kind → ℕ → List ℕ → Typed
filled image first kind count bytes = record image { numbers = put_from image.numbers first (values_of kind count bytes) }

module _ (old new : Intake) (image : Typed) (first count place : ℕ) (kind : Kind) (any : kind ≡ Bool → ⊥) where
  pub took_run : (after : Typed) (to : ℕ) (bytes : List ℕ) → after ≡ filled image first kind count bytes → to ≡ place + count * width kind
      → Takes old new bytes → length bytes ≡ count * width kind
      → Fills (run_of first count kind) (told image place old) (Ok tt) (told after to new)
  took_run after to bytes is there takes long = rw (is, there) (record {
    reads = record {
      bytes = bytes;
      takes = takes;
      long = (omega (arith, run_long kind first count), omega arith);
      says = λ more f.
          let put = put_from image.numbers first (values_of kind count bytes) in
          (rw (run_taken kind any count first place image.numbers bytes more long) (refl, refl, refl), tt);
      cause = tt;
    };
    kept = refl;
    keeps = run_keeps kind count first image.numbers (values_of kind count bytes) (omega (arith, values_long kind count bytes));
  })

  pub failed_run : (n to : ℕ) → Breaks old new n → n ≤ count * width kind → Fills (run_of first count kind) (told image place old) (Err faults.ReadFault) (told image to new)
  failed_run n to breaks le = record {
    reads = record {
      bytes = breaks.bytes;
      takes = breaks.takes;
      long = (omega (arith, run_long kind first count), tt);
      says = λ more f. absurd f;
      cause = breaks.rose;
    };
    kept = refl;
    keeps = keeps_same (run_of first count kind) image.numbers image.numbers refl;
  }

  module _ (whole : ℕ) (bytes last : List ℕ) (takes : Takes old new (bytes ++ last)) (end : IsAtEnd new.left) (long : length bytes ≡ whole * width kind) (cut : length last < width kind) (lt : whole < count)
      (fewer : length (bytes ++ last) ≤ count * width kind) where
    abbrev stand : Told
    stand = told (filled image first kind whole bytes) (place + whole * width kind) new

    stopped : (more : List ℕ) → more ≡ [] → IsFilled (run_of first count kind) (told image place old) (Err (faults.Refused (place + whole * width kind) reasons.Truncated)) stand ((bytes ++ last) ++ more) more
    stopped more none =
        let all : bytes ++ last ≡ (bytes ++ last) ++ more = sym (ap (λ l. (bytes ++ last) ++ l) none ∙ append-nil (bytes ++ last)) in
        let fault = faults.Refused (place + whole * width kind) reasons.Truncated in
        let behind = progress (put_from image.numbers first (values_of kind whole bytes)) (place + whole * width kind) last in
        let is = run_cut kind any count whole first place image.numbers bytes last long cut lt in
        subst (λ l. IsFilled (run_of first count kind) (told image place old) (Err fault) stand l more) all (
          rw is (refl, refl, ap Some (cc (drop_all (length last) last (omega arith)))),
          sym (cut_numbers kind any count whole first place image.numbers bytes last long cut lt),
        )

    pub cut_run : (after : Typed) (to at : ℕ) → after ≡ filled image first kind whole bytes → to ≡ place + whole * width kind → at ≡ place + whole * width kind
        → Fills (run_of first count kind) (told image place old) (Err (faults.Refused at reasons.Truncated)) (told after to new)
    cut_run after to at is there cause = rw (is, there, cause) (record {
      reads = record {
        bytes = bytes ++ last;
        takes = takes;
        long = (omega (arith, run_long kind first count), tt);
        says = λ more f. stopped more (nothing_follows new.left more end f);
        cause = tt;
      };
      kept = refl;
      keeps = run_keeps kind count first image.numbers (values_of kind whole bytes) (omega (arith, values_long kind whole bytes));
    })

-- ---- how the bytes that came are parted

module _ (kind : Kind) (count n : ℕ) (buf : List ℕ) (room : length buf ≡ count * width kind) (bound : n ≤ length buf) where
  abbrev wide : ℕ
  wide = width kind

  below : n / width kind * width kind ≤ n
  below = div-mul-le_self n wide

  front_long : length (take (n / width kind * width kind) buf) ≡ n / width kind * width kind
  front_long = length-take-le (n / wide * wide) buf (omega arith)

  -- all of them are whole
  pub record AllCame : Type 0 where
    pub whole : n / width kind ≡ count
    pub all : n / width kind * width kind ≡ n
    pub long : length (take n buf) ≡ count * width kind

  pub all_came : count ≤ n / width kind → AllCame
  all_came enough =
      let swap : count * wide ≡ wide * count = grind arith in
      let most : n / wide ≤ count = div-le_of_le-mul wide (omega arith) in
      let whole : n / wide ≡ count = omega arith in
      let all : n / wide * wide ≡ n = omega (arith, ap (λ k. k * wide) whole) in
      record { whole = whole; all = all; long = length-take-le n buf bound ∙ sym all ∙ ap (λ k. k * wide) whole }

  -- the rest is part of a code
  pub record PartCame : Type 0 where
    pub parts : take (n / width kind * width kind) buf ++ drop (n / width kind * width kind) (take n buf) ≡ take n buf
    pub long : length (take (n / width kind * width kind) buf) ≡ n / width kind * width kind
    pub cut : length (drop (n / width kind * width kind) (take n buf)) < width kind
    pub fewer : length (take (n / width kind * width kind) buf ++ drop (n / width kind * width kind) (take n buf)) ≤ count * width kind
    pub short : n < length buf

  pub part_came : n / width kind < count → PartCame
  part_came lt =
      let m = n / wide * wide in
      let parts : take m buf ++ drop m (take n buf) ≡ take n buf = cc (take-take m n buf below, take-append-drop m (take n buf)) in
      let long : length (take n buf) ≡ n = length-take-le n buf bound in
      record {
        parts = parts;
        long = front_long;
        cut = omega (arith, length-drop m (take n buf), lt-div-mul-add {a = n} {b = wide} (width_positive kind));
        fewer = omega (arith, ap length parts);
        short = omega (arith, (div-lt_iff_lt-mul {k = wide} {x = n} {y = count} (width_positive kind)).0 lt);
      }
