-- What time and calls do to a clock chip.
use Rattle.vms_rtc.proofs.Facade
use Facade.{refl, arith, line_of, read_of, written, ticks, NumbersAre, ◌≡◌, ℕ, ◌-◌, ◌*◌, ◌/◌, ◌%◌, ◌^◌, ◌<◌, ◌≤◌}
use Facade.{◌==◌, Bool, true, false, ◌||◌, Option, Some, None, ◌⊎◌, inl, inr, ⊎_elim, ◌↔◌, sym, ltb-true, nat_tests, div-mul-le_self}
use Facade.{le-div, pow_pos, either, grown, quotient_mono, register, period_of_rate, period_of, ends_within, passed, PartsAreWhole, HasMultiple}
use Facade.{FlagIsSetAtMultiples, REGISTER_A, Rtc, div-lt_iff_lt-mul, false≢true, ◌+◌, ◌∙◌, div-add-mod', nat_lt, IsNextEnd, moment_of, ◌≢◌}
use Facade.{eqb-true, eq-eqb, cond_both, get_or-set_other, power_on, data_read, index_written, data_written, ReadsClearFlag, FlagsAreKept, VersionStays}
use Facade.{REGISTER_C, REGISTER_D, INDEX_PORT, if◌then◌else◌, List, length, replicate, set, get_or, subst, cases_Bool, get_or-replicate, get_or-set_same}
use Facade.{length-set, cases_eq, has, CallsKeepSound, IsSound}

-- ---- the numbers of the data sheet

pub numbers_are : NumbersAre
unfolding read_of written line_of ticks
numbers_are = search arith

-- ---- when a period ends in a span of time

ticks-mono : (from to : ℕ) → from ≤ to → ticks from ≤ ticks to
unfolding ticks
ticks-mono from to h = omega arith

-- ---- periods

abbrev IsPositive : Option ℕ → Type 0
IsPositive None = Unit {0}
IsPositive (Some period) = 0 < period

rate-positive : (rate : ℕ) → IsPositive (period_of_rate rate)
rate-positive rate =
    either IsPositive (rate == 0) None _ tt
    (either IsPositive (rate == 1) (Some 128) _ (omega arith)
    (either IsPositive (rate == 2) (Some 256) (Some (2 ^ (rate - 1))) (omega arith) (pow_pos (rate - 1))))

period-positive : (a : ℕ) → IsPositive (period_of a)
unfolding period_of
period-positive a = either IsPositive (a / 16 % 8 == 2) (period_of_rate (a % 16)) None (rate-positive (a % 16)) tt

-- ---- spans

within-parts : (period : Option ℕ) (first middle last : ℕ) → IsPositive period → first ≤ middle → middle ≤ last
    → ends_within period first last ≡ (ends_within period first middle || ends_within period middle last)
within-parts period first middle last p h l = grind (arith, grown, quotient_mono, ticks-mono)

set-either : (flag first second whole : Bool) → whole ≡ (first || second) → ((flag || first) || second) ≡ (flag || whole)
set-either flag first second whole e = grind (arith, nat_tests)

parts : (first middle last : ℕ) (chip : Rtc) → first ≤ middle → middle ≤ last → passed middle last (passed first middle chip) ≡ passed first last chip
unfolding passed
parts first middle last chip h l = grind (arith, set-either, within-parts, period-positive)

pub parts_are_whole : PartsAreWhole
parts_are_whole = record { passed = parts }

-- ---- multiples

multiple-of : (period from to : ℕ) → 0 < period → ends_within (Some period) from to ≡ true → (k : ℕ) × (ticks from < k * period) × (k * period ≤ ticks to)
multiple-of period from to p e = (ticks to / period, (div-lt_iff_lt-mul p).0 (ltb-true _ _ e), div-mul-le_self (ticks to) period)

ends-at : (period from to : ℕ) → 0 < period → (k : ℕ) × (ticks from < k * period) × (k * period ≤ ticks to) → ends_within (Some period) from to ≡ true
ends-at period from to p m = grind (arith, le-div)

ends-means : (period : Option ℕ) (from to : ℕ) → IsPositive period → (ends_within period from to ≡ true) ↔ HasMultiple period from to
ends-means period from to p = search (arith, multiple-of, ends-at)

or-means : {A : Type 0} (was ends : Bool) → (ends ≡ true) ↔ A → ((was || ends) ≡ true) ↔ ((was ≡ true) ⊎ A)
or-means was ends h = search arith

set-at : (from to : ℕ) (chip : Rtc) → ((passed from to chip).pf ≡ true) ↔ ((chip.pf ≡ true) ⊎ HasMultiple (period_of (register REGISTER_A chip)) from to)
unfolding passed
set-at from to chip = grind (arith, or-means, ends-means, period-positive)

pub set_at_multiples : FlagIsSetAtMultiples
set_at_multiples = record { flag = set-at }

-- ---- when a period of the periodic interrupt ends next

-- the end of a period that comes next after a moment
abbrev pub end_after : (period from : ℕ) → ℕ
end_after period from = moment_of (ticks from - ticks from % period + period)

next-tick : (period tick : ℕ) → (tick / period + 1) * period ≡ tick - tick % period + period
next-tick period tick = omega (arith, div-add-mod' tick period)

came : (tick to : ℕ) → moment_of tick ≤ to → tick ≤ ticks to
unfolding ticks moment_of
came tick to h = omega arith

not_come : (tick to : ℕ) → to < moment_of tick → ticks to < tick
unfolding ticks moment_of
not_come tick to h = omega arith

-- from there on a period has ended, and before none
ended : (period from to : ℕ) → 0 < period → end_after period from ≤ to → nat_lt (ticks from / period) (ticks to / period) ≡ true
ended period from to p h = grind (arith, next-tick, came, le-div)

not_ended : (period from to : ℕ) → 0 < period → to < end_after period from → nat_lt (ticks from / period) (ticks to / period) ≡ false
not_ended period from to p h =
    let here : ticks to < (ticks from / period + 1) * period =
    omega (arith, next-tick period (ticks from), not_come (ticks from - ticks from % period + period) to h) in
    let few : ticks to / period < ticks from / period + 1 = (div-lt_iff_lt-mul p).1 here in
    grind (arith, nat_tests)

pub end_is_next : (period from : ℕ) → 0 < period → IsNextEnd (Some period) from (Some (end_after period from))
end_is_next period from p = search (arith, not_ended, ended)

pub none_ends : (from : ℕ) → IsNextEnd None from None
none_ends from = record { ends = λ to h. refl }

-- ---- the effects of reads and writes: the flag

of-c : (chip : Rtc) → chip.index ≡ REGISTER_C → (data_read chip).1 ≡ record chip { pf = false }
unfolding data_read
of-c chip e = grind (arith, nat_tests)

of-others : (chip : Rtc) → chip.index ≢ REGISTER_C → (data_read chip).1 ≡ chip
unfolding data_read
of-others chip ne = grind (arith, nat_tests)

pub reads_clear : ReadsClearFlag
reads_clear = record { of_c = of-c; others = of-others }

-- ---- registers C and D

-- a write to another register leaves this one
pub left_as : (number value : ℕ) (chip : Rtc) → (chip.index ≡ number → (chip.index == REGISTER_C) || (chip.index == REGISTER_D) ≡ true)
    → register number (data_written value chip) ≡ register number chip
unfolding data_written
left_as number value chip is =
    cond_both ((chip.index == REGISTER_C) || (chip.index == REGISTER_D)) _ _ (λ (c : Rtc). register number c ≡ register number chip) (λ kept. refl)
    (λ other. get_or-set_other chip.cmos chip.index number _ 0 (λ same. false≢true (sym other ∙ is (sym same))))

pub flags_are_kept : FlagsAreKept
flags_are_kept = search (arith, left_as)

-- ---- the version

read-version : (port : ℕ) (chip : Rtc) → (read_of port chip).1.version ≡ chip.version
unfolding read_of data_read
read-version port chip = grind (arith, nat_tests)

write-version : (port value : ℕ) (chip : Rtc) → (written port value chip).version ≡ chip.version
unfolding written index_written data_written
write-version port value chip = grind (arith, nat_tests)

pub version_stays : VersionStays
unfolding power_on passed
version_stays = record { power_on = λ version. refl; read = read-version; write = write-version; passed = λ from to chip. refl }

-- ---- each call keeps the chip sound

-- the flag of the periodic interrupt isn't part of soundness
flagged : (flag : Bool) (chip : Rtc) → IsSound chip → IsSound (record chip { pf = flag })
flagged flag chip s = search

read-sound : (port : ℕ) (chip : Rtc) → IsSound chip → IsSound (read_of port chip).1
unfolding read_of data_read
read-sound port chip s = search (arith, nat_tests)

index-sound : (value : ℕ) (chip : Rtc) → IsSound chip → IsSound (index_written value chip)
unfolding index_written
index-sound value chip s = grind (arith, has)

-- a register of a written chip
byte-kept : (xs : List ℕ) (i v k : ℕ) → i < length xs → v < 256 → get_or xs k 0 < 256 → get_or (set xs i v) k 0 < 256
byte-kept xs i v k within small old =
    ⊎_elim (λ (e : k ≡ i). rw e (rw (get_or-set_same xs i v 0 within) small)) (λ other. rw (get_or-set_other xs i k v 0 other) old) (cases_eq k i)

abbrev kept-of : ℕ → ℕ → ℕ
kept-of index value = if index == REGISTER_A then value % 128 else value

register-a : (xs : List ℕ) (index value : ℕ) → index < length xs → get_or xs REGISTER_A 0 ≤ 127 → get_or (set xs index (kept-of index value)) REGISTER_A 0 ≤ 127
register-a xs index value within old = by (cases_Bool (index == REGISTER_A))
  where
    by : ((index == REGISTER_A) ≡ true) ⊎ ((index == REGISTER_A) ≡ false) → get_or (set xs index (kept-of index value)) REGISTER_A 0 ≤ 127
    by (inl e) =
        let at : index ≡ REGISTER_A = eqb-true index REGISTER_A e in
        let here : get_or (set xs index (kept-of index value)) REGISTER_A 0 ≡ kept-of index value =
        subst (λ (n : ℕ). get_or (set xs index (kept-of index value)) n 0 ≡ kept-of index value) at (get_or-set_same xs index (kept-of index value) 0 within) in
        let low : kept-of index value ≤ 127 = rw e (omega arith) in
        omega arith
    by (inr e) = rw (get_or-set_other xs index REGISTER_A (kept-of index value) 0 (λ same. false≢true (sym e ∙ eq-eqb index REGISTER_A (sym same)))) old

data-sound : (value : ℕ) (chip : Rtc) → value < 256 → IsSound chip → IsSound (data_written value chip)
unfolding data_written
data-sound value chip small s =
    cond_both ((chip.index == REGISTER_C) || (chip.index == REGISTER_D)) _ _ IsSound (λ kept. s)
    (λ other.
    let within : chip.index < length chip.cmos = let i = s.index in omega arith in
    record {
      version = s.version;
      index = s.index;
      count = cc (length-set chip.cmos chip.index (kept-of chip.index value));
      bytes = λ k lt. byte-kept chip.cmos chip.index (kept-of chip.index value) k within (grind (arith, either)) (s.bytes k lt);
      a = register-a chip.cmos chip.index value within s.a;
      c = cc (get_or-set_other chip.cmos chip.index REGISTER_C (kept-of chip.index value) 0 (λ same. false≢true (sym other ∙ grind (arith, nat_tests, same))));
      d = cc (get_or-set_other chip.cmos chip.index REGISTER_D (kept-of chip.index value) 0 (λ same. false≢true (sym other ∙ grind (arith, nat_tests, same))));
      mask = s.mask;
    })

write-sound : (port value : ℕ) (chip : Rtc) → value < 256 → IsSound chip → IsSound (written port value chip)
unfolding written
write-sound port value chip small s = either IsSound (port == INDEX_PORT) _ _ (index-sound value chip s) (data-sound value chip small s)

passed-sound : (from to : ℕ) (chip : Rtc) → IsSound chip → IsSound (passed from to chip)
unfolding passed
passed-sound from to chip s = flagged _ chip s

pub calls_keep_sound : CallsKeepSound
unfolding power_on
calls_keep_sound = record {
  power_on = λ version v.
      let bytes : (k : ℕ) → k < 64 → get_or (replicate 64 0) k 0 < 256 = λ k lt. let e = get_or-replicate {A = ℕ} 64 k 0 0 lt in omega arith in
      search arith;
  read = read-sound;
  write = write-sound;
  passed = passed-sound;
}
