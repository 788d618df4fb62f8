-- A chip and each of its counters are sound at power on, and stay so.
use Rattle.dev_pit.proofs.CallLaws.{at_step, count-with, each_of, loaded_by-later}
use Rattle.dev_pit.proofs.Facade
use Facade.{◌≡◌, ℕ, ◌≤◌, ◌==◌, Bool, true, false, not, ◌&&◌, ◌||◌, Option, Some, None, refl, arith, ◌^◌, ◌<◌, nat_tests}
use Facade.{nat_le, is_some, channel_of, registers_hold, moment_holds, status_holds, toggles_hold, LoadedBy, held_or, live_of, out_of, status_of, written}
use Facade.{programmed, powered_on, read_of, counted_of, latched, status_latched, read_back, mode_number, access_number, HasWidths, IsSoundCounter, HeldBelow}
use Facade.{Counter, READ_BACK_LEVEL, Access, LowByte, HighByte, LowThenHigh, Mode, flag_number, LAST_MOMENT, live_at, square, either, ◌-◌, ⊎_elim}
use Facade.{cases_Bool, IsLevel, control_word, SoundStays, StepsKeepLevel, counter_of, with_counter, new_pit, pit_read, asked_back, controlled, pit_written}
use Facade.{IsSoundPit, ControlWord, LatchCount, SetMode, ReadBack, Pit, nat_lt, high_part, ◌%◌}
use Rattle.dev_pit.specs.Counter.{loaded as loading}

-- ---- what the rules say about a counter itself

-- A status is latched only from the first level of the 8254 on.
abbrev pub StatusFits : ℕ → Option ℕ → Type 0
StatusFits level None = Unit {0}
StatusFits level (Some status) = READ_BACK_LEVEL ≤ level

-- Only a counter of two bytes is between them.
abbrev pub TogglesFit : Access → Bool → Option ℕ → Type 0
TogglesFit LowByte read_high held_low = (read_high ≡ false) × (held_low ≡ None)
TogglesFit HighByte read_high held_low = (read_high ≡ false) × (held_low ≡ None)
TogglesFit LowThenHigh read_high held_low = Unit {0}

pub record PlainSound (level now : ℕ) (counter : Counter) : Type 0 where
  pub widths : HasWidths counter
  pub loaded : LoadedBy now counter.loaded_at
  pub status : StatusFits level counter.status
  pub toggles : TogglesFit counter.access counter.read_high counter.held_low

pub mode-small : (mode : Mode) → mode_number mode ≤ 5
mode-small mode = grind arith

pub access-small : (access : Access) → (1 ≤ access_number access) × (access_number access ≤ 3)
access-small access = search arith

pub registers-hold : (counter : Counter) → registers_hold (channel_of counter) ≡ true
unfolding registers_hold channel_of
registers-hold counter = grind (arith, nat_tests, access-small, mode-small)

moment-from : (now : ℕ) (load : Option ℕ) → LoadedBy now load → (nat_le (held_or load 0) now && (is_some load || (held_or load 0 == 0))) ≡ true
moment-from now load h = grind (arith, nat_tests)

moment-back : (now : ℕ) (load : Option ℕ) → (nat_le (held_or load 0) now && (is_some load || (held_or load 0 == 0))) ≡ true → LoadedBy now load
moment-back now load e = grind (arith, nat_tests)

status-from : (level : ℕ) (status : Option ℕ) → StatusFits level status
    → ((is_some status || (held_or status 0 == 0)) && (nat_le READ_BACK_LEVEL level || not (is_some status))) ≡ true
status-from level status h = grind (arith, nat_tests)

status-back : (level : ℕ) (status : Option ℕ) → ((is_some status || (held_or status 0 == 0)) && (nat_le READ_BACK_LEVEL level || not (is_some status))) ≡ true
    → StatusFits level status
status-back level status e = grind (arith, nat_tests)

toggles-from : (access : Access) (read_high : Bool) (held : Option ℕ) → TogglesFit access read_high held
    → ((access_number access == 3) || (not read_high && not (is_some held))) ≡ true
toggles-from access read_high held h = grind (arith, nat_tests)

toggles-back : (access : Access) (read_high : Bool) (held : Option ℕ) → ((access_number access == 3) || (not read_high && not (is_some held))) ≡ true
    → TogglesFit access read_high held
toggles-back access read_high held e = grind (arith, nat_tests)

pub sound-from_plain : (level now : ℕ) (counter : Counter) → PlainSound level now counter → IsSoundCounter level now counter
unfolding channel_of moment_holds status_holds toggles_hold
sound-from_plain level now counter s = search (registers-hold, moment-from, status-from, toggles-from)

pub plain-from_sound : (level now : ℕ) (counter : Counter) → IsSoundCounter level now counter → PlainSound level now counter
unfolding channel_of moment_holds status_holds toggles_hold
plain-from_sound level now counter s = search (moment-back, status-back, toggles-back)

-- ---- steps

square-word : (n k : ℕ) → square n k < 2 ^ 16
unfolding square
square-word n k = either (λ m. m < 2 ^ 16) (nat_lt (k % n) (high_part n)) _ _ (omega arith) (omega arith)

live_at-word : (mode : Mode) (count k : ℕ) → count < 2 ^ 16 → live_at mode count k < 2 ^ 16
unfolding live_at
live_at-word mode count k h = grind (arith, nat_tests, either, square-word)

live-word : (counter : Counter) (now : ℕ) → HasWidths counter → live_of counter now < 2 ^ 16
unfolding live_of
live-word counter now h = grind (arith, live_at-word)

pub held-below : (limit value : ℕ) (held : Option ℕ) → HeldBelow limit held → value < limit → held_or held value < limit
held-below limit value held h l = grind arith

-- The status byte.
pub flag-small : (b : Bool) → flag_number b ≤ 1
flag-small b = grind arith

status-byte : (counter : Counter) (now : ℕ) → status_of counter now < 2 ^ 8
unfolding status_of
status-byte counter now = omega (arith, (access-small counter.access).1, mode-small counter.mode, flag-small counter.bcd, flag-small (out_of counter now))

-- A counter of which only these fields changed.
changed : {level now : ℕ} {counter : Counter} {held_low latch status : Option ℕ} {read_high : Bool} → PlainSound level now counter
    → HeldBelow (2 ^ 8) held_low → HeldBelow (2 ^ 16) latch → HeldBelow (2 ^ 8) status → StatusFits level status → TogglesFit counter.access read_high held_low
    → PlainSound level now (record counter { held_low = held_low; latch = latch; status = status; read_high = read_high })
changed s low latch byte fits toggles = search

-- Latching.
pub latched-sound : (level now : ℕ) (counter : Counter) → PlainSound level now counter → PlainSound level now (latched now counter)
unfolding latched
latched-sound level now counter s = grind (arith, nat_tests, changed, held-below, live-word)

status_latched-sound : (level now : ℕ) (counter : Counter) → READ_BACK_LEVEL ≤ level → PlainSound level now counter
    → PlainSound level now (status_latched now counter)
unfolding status_latched
status_latched-sound level now counter h s = grind (arith, nat_tests, changed, held-below, status-byte)

pub read_back-sound : (count status : Bool) (level now : ℕ) (counter : Counter) → READ_BACK_LEVEL ≤ level → PlainSound level now counter
    → PlainSound level now (read_back count status now counter)
unfolding read_back
read_back-sound true true level now counter h s = status_latched-sound level now _ h (latched-sound level now counter s)
read_back-sound true false level now counter h s = latched-sound level now counter s
read_back-sound false true level now counter h s = status_latched-sound level now counter h s
read_back-sound false false level now counter h s = s

-- Programming.
pub powered_on-sound : (level now : ℕ) → PlainSound level now powered_on
unfolding powered_on
powered_on-sound level now = search arith

fresh-toggles : (access : Access) → TogglesFit access false None
fresh-toggles access = grind arith

pub programmed-sound : (access : Access) (mode : Mode) (bcd : Bool) (level now : ℕ) (counter : Counter) → PlainSound level now counter
    → PlainSound level now (programmed access mode bcd counter)
unfolding programmed powered_on
programmed-sound access mode bcd level now counter s = search (arith, fresh-toggles)

-- Loading.
loaded-sound : (count level now : ℕ) (counter : Counter) → now ≤ LAST_MOMENT → count < 2 ^ 16 → PlainSound level now counter
    → PlainSound level now (loading count now counter)
unfolding loading
loaded-sound count level now counter m c s = search arith

-- A counter of two bytes may hold one or not.
holding : (level now : ℕ) (low : Option ℕ) (counter : Counter) → counter.access ≡ LowThenHigh → HeldBelow (2 ^ 8) low → PlainSound level now counter
    → PlainSound level now (record counter { held_low = low })
holding level now low counter e h s = changed s h s.widths.latch s.widths.status s.status (rw e tt)

pub written-sound : (value level now : ℕ) (counter : Counter) → now ≤ LAST_MOMENT → value < 256 → PlainSound level now counter
    → PlainSound level now (written value now counter)
unfolding written
written-sound value level now counter m v s =
    let loads = λ (count : ℕ) (c : Counter). loaded-sound count level now c m in search (arith, nat_tests, loaded-sound, holding)

-- Reading.
no_latch : (level now : ℕ) (counter : Counter) → PlainSound level now counter → PlainSound level now (record counter { latch = None })
no_latch level now counter s = changed s s.widths.held_low tt s.widths.status s.status s.toggles

turned : (level now : ℕ) (read_high : Bool) (latch : Option ℕ) (counter : Counter) → counter.access ≡ LowThenHigh → HeldBelow (2 ^ 16) latch
    → PlainSound level now counter → PlainSound level now (record counter { read_high = read_high; latch = latch })
turned level now read_high latch counter e h s = changed s s.widths.held_low h s.widths.status s.status (rw e tt)

pub read-sound : (level now : ℕ) (counter : Counter) → PlainSound level now counter → PlainSound level now (read_of now counter).1
unfolding read_of counted_of
read-sound level now counter s = search (arith, nat_tests, turned, no_latch)

-- ---- a chip is sound at power on, and time and every call keep it so

new-sound : (level now : ℕ) → IsLevel level → now ≤ LAST_MOMENT → IsSoundPit now (new_pit level)
unfolding new_pit
new-sound level now l m = search (arith, sound-from_plain, powered_on-sound, each_of)

later : (level now after : ℕ) (counter : Counter) → now ≤ after → IsSoundCounter level now counter → IsSoundCounter level after counter
later level now after counter h s = search (arith, plain-from_sound, sound-from_plain, loaded_by-later)

pit-later : (now after : ℕ) (pit : Pit) → now ≤ after → after ≤ LAST_MOMENT → IsSoundPit now pit → IsSoundPit after pit
pit-later now after pit h m s = grind (arith, counter_of, later)

-- A step of counter j that keeps it sound.
step-sound : (j now : ℕ) (step : Counter → Counter) (pit : Pit) → ((counter : Counter) → PlainSound pit.level now counter → PlainSound pit.level now (step counter)) → IsSoundPit now pit → IsSoundPit now (with_counter j (step (counter_of j pit)) pit)
step-sound j now step pit keeps s = record {
  level = s.level;
  moment = s.moment;
  count = cc (count-with j (step (counter_of j pit)) pit);
  counters = λ k l. at_step (IsSoundCounter pit.level now) k j step pit
      (λ here. sound-from_plain _ _ _ (keeps (counter_of k pit) (plain-from_sound _ _ _ (s.counters k l)))) (s.counters k l);
}

pit_read-sound : (k now : ℕ) (pit : Pit) → IsSoundPit now pit → IsSoundPit now (pit_read k now pit).1
unfolding pit_read
pit_read-sound k now pit s = step-sound k now (λ c. (read_of now c).1) pit (read-sound pit.level now) s

asked-sound : (count status : Bool) (k now : ℕ) (pit : Pit) → READ_BACK_LEVEL ≤ pit.level → IsSoundPit now pit
    → IsSoundPit now (asked_back count status k now pit)
unfolding asked_back
asked-sound count status k now pit h s = step-sound k now (read_back count status now) pit (λ c p. read_back-sound _ _ pit.level now c h p) s

controlled-sound : (word : ControlWord) (now : ℕ) (pit : Pit) → IsSoundPit now pit → IsSoundPit now (controlled word now pit)
unfolding controlled asked_back
controlled-sound (LatchCount k) now pit s = step-sound k now (latched now) pit (latched-sound pit.level now) s
controlled-sound (SetMode k access mode bcd) now pit s = step-sound k now (programmed access mode bcd) pit (programmed-sound access mode bcd pit.level now) s
controlled-sound (ReadBack count status first second third) now pit s =
    ⊎_elim (λ e. let h : READ_BACK_LEVEL ≤ pit.level = grind (arith, nat_tests) in
    rw e (asked-sound _ _ 2 now _ h (asked-sound _ _ 1 now _ h (asked-sound _ _ 0 now pit h s)))) (λ e. rw e s)
    (cases_Bool (nat_le READ_BACK_LEVEL pit.level))

pit_written-sound : (port value now : ℕ) (pit : Pit) → value < 256 → IsSoundPit now pit → IsSoundPit now (pit_written port value now pit)
unfolding pit_written
pit_written-sound port value now pit v s =
    either (IsSoundPit now) (port == 0x43) _ _ (controlled-sound (control_word value) now pit s)
    (step-sound (port - 0x40) now (written value now) pit (λ c p. written-sound value pit.level now c s.moment v p) s)

pub sound_stays : SoundStays
sound_stays = record {
  power_on = new-sound;
  in_time = pit-later;
  in_reads = pit_read-sound;
  in_writes = pit_written-sound;
  loaded = λ now pit s k l. (plain-from_sound _ _ _ (s.counters k l)).loaded;
}

-- The level.
abbrev HasLevel : ℕ → Pit → Type 0
HasLevel level pit = pit.level ≡ level

controlled-level : (word : ControlWord) (now : ℕ) (pit : Pit) → HasLevel pit.level (controlled word now pit)
unfolding controlled asked_back
controlled-level word now pit = grind (arith, nat_tests, either)

written-level : (port value now : ℕ) (pit : Pit) → HasLevel pit.level (pit_written port value now pit)
unfolding pit_written
written-level port value now pit = either (HasLevel pit.level) (port == 0x43) _ _ (controlled-level (control_word value) now pit) refl

pub steps_keep_level : StepsKeepLevel
unfolding new_pit pit_read
steps_keep_level = record { power_on = λ level. refl; read = λ k now pit. refl; write = written-level }
