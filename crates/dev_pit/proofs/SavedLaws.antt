-- What is saved of a chip and restored from it.
use Rattle.dev_pit.proofs.Facade.{ℕ, ◌≤◌, Bool, true, false, List, [], ◌++◌, ℤ, length, codes, arith, nat_le, STATUS_SINCE, CELLS, named_statuses}
use Rattle.dev_pit.proofs.Facade.{channel_cells, status_cells, three_cells, Channel, Access, LowThenHigh, Pit, ◌≡◌, ◌+◌, ◌<◌, subst, ◌∙◌}
use Rattle.dev_pit.proofs.Facade.{◌^◌, ◌==◌, not, ◌&&◌, Ok, ◌∷◌, slice_index_or, refl, ◌||◌, get_or-append, get_or-append-add, nat_tests}
use Rattle.dev_pit.proofs.Facade.{InRange, Kind, U8, kinds_under, status_rows, CHANNEL_CELLS, cell_at, kind_at, NEWEST, LAST_MOMENT, channel_kinds}
use Rattle.dev_pit.proofs.Facade.{channel_place, latched_place, status_place, IsChannelAt, IsPitCells, channel_at, IsLevel, number-lt, AllTrue, judged-ok}
use Rattle.dev_pit.proofs.Facade.{hook-ok, held_if, counter_from, moment_holds, status_holds, toggles_hold, LoadedBy, powered_on, RestoredIsSound, access_of}
use Rattle.dev_pit.proofs.Facade.{three_hold, pit_of, restored_pit, HeldBelow, IsSoundCounter, IsSoundPit, READ_BACK_LEVEL, Option, None, ap, sym, is_some}
use Rattle.dev_pit.proofs.Facade.{channel_rows, STATUS_LATCHED, Numbers, flag_number, flag_at, number_at, AreOf, MayRestore, first_failing, of_none, of_more}
use Rattle.dev_pit.proofs.Facade.{of_both, byte, word, long, flag, flag-back, AllHold, one_holds, of_rows, carried_rows, none_failing, all_true, judged-all}
use Rattle.dev_pit.proofs.Facade.{ok-hook, kinds_of, named, channel_in, pit_cells, carried, field_place, AreCellsOf, channel_of, held_or, SoundMeetsRules}
use Rattle.dev_pit.proofs.Facade.{SavedAreCells, SavedIsRestored, mode_number, mode_of, access_number, counter_of, CanSave, CanRestore, hook_restored}
use Rattle.dev_pit.proofs.{Facade.HasWidths, Facade.Counter, Facade.Mode, CallLaws.each_of, CallLaws.three_counters}
use Rattle.dev_pit.proofs.SoundLaws.{PlainSound, StatusFits, TogglesFit, sound-from_plain, plain-from_sound, mode-small, access-small, held-below}
use Rattle.dev_pit.specs.Saved.{rules}

-- ---- the number of cells of a chip

pub three_cells_fit : (set : ℕ) (first second third : Channel) → length (three_cells set first second third) ≤ CELLS
unfolding three_cells channel_cells status_cells
three_cells_fit set first second third = grind (arith, nat_tests)

-- ---- a restored chip is sound: normal cells are those of three channels

front : (rest : List Kind) (place : ℕ) → place < CHANNEL_CELLS → kind_at (channel_kinds ++ rest) place ≡ kind_at channel_kinds place
front rest place h = get_or-append channel_kinds rest U8 place h

after : (rest : List Kind) (place : ℕ) → kind_at (channel_kinds ++ rest) (channel_place 1 + place) ≡ kind_at rest place
after rest place = get_or-append-add channel_kinds rest place U8

abbrev status_kinds : List Kind
status_kinds = kinds_under status_rows NEWEST

abbrev two_more : List Kind
two_more = channel_kinds ++ channel_kinds ++ status_kinds

abbrev one_more : List Kind
one_more = channel_kinds ++ status_kinds

module _ (cells : List ℤ) (h : IsPitCells cells) where
  -- The cell at a place fits the kind.
  abbrev Fits : ℕ → Kind → Type 0
  Fits place kind = InRange kind (cell_at cells place)

  first-channel : IsChannelAt 0 cells
  first-channel = record {
    within = (omega arith, h.of_kinds.count);
    channel = λ place l. subst (λ n. Fits n (kind_at channel_kinds place)) (omega arith)
        (subst (Fits place) (front two_more place l) (h.of_kinds.in_range place (omega arith)));
    latched = h.of_kinds.in_range (latched_place 0) (omega arith);
    status = h.of_kinds.in_range (status_place 0) (omega arith);
  }

  second-channel : IsChannelAt 1 cells
  second-channel = record {
    within = (omega arith, h.of_kinds.count);
    channel = λ place l. rw (after two_more place ∙ front one_more place l) at (h.of_kinds.in_range (channel_place 1 + place) (omega arith));
    latched = h.of_kinds.in_range (latched_place 1) (omega arith);
    status = h.of_kinds.in_range (status_place 1) (omega arith);
  }

  further : (place : ℕ) → kind_at (channel_kinds ++ two_more) (channel_place 2 + place) ≡ kind_at one_more place
  further place = get_or-append-add (channel_kinds ++ channel_kinds) one_more place U8

  third-channel : IsChannelAt 2 cells
  third-channel = record {
    within = (omega arith, h.of_kinds.count);
    channel = λ place l. rw (further place ∙ front status_kinds place l) at (h.of_kinds.in_range (channel_place 2 + place) (omega arith));
    latched = h.of_kinds.in_range (latched_place 2) (omega arith);
    status = h.of_kinds.in_range (status_place 2) (omega arith);
  }

pub is_channel : (k : ℕ) (cells : List ℤ) → k < 3 → IsPitCells cells → IsChannelAt k cells
is_channel k cells l h = each_of (λ k. IsChannelAt k cells) (first-channel cells h) (second-channel cells h) (third-channel cells h) k l

-- ---- the chip

-- The fields of a channel, each in its range.
record HasRanges (channel : Channel) : Type 0 where
  count : channel.count < 2 ^ 16
  load_time : channel.load_time < 2 ^ 64
  wlow : channel.wlow < 2 ^ 8
  latch : channel.latch < 2 ^ 16
  status : channel.status < 2 ^ 8

if-below : (limit : ℕ) (b : Bool) (n : ℕ) → n < limit → HeldBelow limit (held_if b n)
if-below limit b n h = grind (arith, nat_tests)

if-loaded : (now : ℕ) (b : Bool) (n : ℕ) → n ≤ now → LoadedBy now (held_if b n)
if-loaded now b n h = grind (arith, nat_tests)

if-status : (level : ℕ) (b : Bool) (n : ℕ) → (nat_le READ_BACK_LEVEL level || not b) ≡ true → StatusFits level (held_if b n)
if-status level b n h = grind (arith, nat_tests)

halves : (access : Access) (read_high held : Bool) (n : ℕ) → (not read_high && not held) ≡ true → TogglesFit access read_high (held_if held n)
halves access read_high held n e = grind (arith, nat_tests)

three : (rw_number : ℕ) → (rw_number == 3) ≡ true → access_of rw_number ≡ LowThenHigh
three rw_number e = grind arith

if-toggles : (rw_number : ℕ) (read_high held : Bool) (n : ℕ) → ((rw_number == 3) || (not read_high && not held)) ≡ true
    → TogglesFit (access_of rw_number) read_high (held_if held n)
if-toggles rw_number read_high held n h = grind (arith, nat_tests, three, halves)

counter-sound : (level now : ℕ) (channel : Channel) → HasRanges channel → moment_holds now channel ≡ true → status_holds level channel ≡ true
    → toggles_hold channel ≡ true → PlainSound level now (counter_from channel)
unfolding counter_from moment_holds status_holds toggles_hold
counter-sound level now channel r m s t = search (arith, if-below, if-loaded, if-status, if-toggles)

-- The ranges of each channel's fields.
ranges-at : (k : ℕ) (cells : List ℤ) → IsChannelAt k cells → HasRanges (channel_at k cells)
unfolding channel_at
ranges-at k cells h = search (arith, number-lt)

-- A rule that holds for three channels holds for each.
each : (rule : Channel → Bool) (cells : List ℤ) → three_hold rule cells ≡ true → (k : ℕ) → k < 3 → rule (channel_at k cells) ≡ true
each rule cells e = grind arith

pit_of-sound : (level now : ℕ) (cells : List ℤ) → IsLevel level → now ≤ LAST_MOMENT → IsPitCells cells → AllTrue (rules level now cells)
    → IsSoundPit now (pit_of level cells)
unfolding pit_of
pit_of-sound level now cells l m h hold =
    let counter : (k : ℕ) → k < 3 → IsSoundCounter level now (counter_from (channel_at k cells)) =
    λ k b. sound-from_plain level now _
    (counter-sound level now (channel_at k cells) (ranges-at k cells (is_channel k cells b h)) (each (moment_holds now) cells hold.1.0 k b)
    (each (status_holds level) cells hold.1.1.0 k b) (each toggles_hold cells hold.1.1.1.0 k b)) in
    record {
      level = l;
      moment = m;
      count = refl;
      counters = each_of (λ k. IsSoundCounter level now
          (slice_index_or (counter_from (channel_at 0 cells) ∷ counter_from (channel_at 1 cells) ∷ counter_from (channel_at 2 cells) ∷ []) k powered_on))
          (counter 0 (omega arith)) (counter 1 (omega arith)) (counter 2 (omega arith));
    }

pit_of-level : (level : ℕ) (cells : List ℤ) → (pit_of level cells).level ≡ level
unfolding pit_of
pit_of-level level cells = refl

pub pit-restored : (level now : ℕ) (cells : List ℤ) (pit : Pit) → IsLevel level → now ≤ LAST_MOMENT → IsPitCells cells → restored_pit level now cells ≡ Ok pit
    → IsSoundPit now pit × (pit.level ≡ level)
pit-restored level now cells pit l m h e =
    let ok = judged-ok (rules level now cells) (pit_of level cells) pit e in
    subst (λ p. IsSoundPit now p × (p.level ≡ level)) ok.1 (pit_of-sound level now cells l m h ok.0, pit_of-level level cells)

pub restored_is_sound : RestoredIsSound
restored_is_sound = record {
  pit = λ numbers cells pit can e. pit-restored numbers.level numbers.moment cells pit can.pass.is_level can.pass.moment can.normal (hook-ok _ pit e);
}

-- ---- a saved chip is restored as it was

mode-back : (mode : Mode) → mode_of (mode_number mode) ≡ mode
mode-back mode = grind arith

access-back : (access : Access) → access_of (access_number access) ≡ access
access-back access = grind arith

held-back : (held : Option ℕ) → held_if (is_some held) (held_or held 0) ≡ held
held-back held = grind arith

-- A counter is that of its own fields.
pub counter-back : (counter : Counter) → counter_from (channel_of counter) ≡ counter
unfolding counter_from channel_of
counter-back counter = simp (mode-back, access-back, held-back)

-- The cells of three channels, in the newest set, give these channels.
first-back : (first second third : Channel) → channel_at 0 (three_cells NEWEST first second third) ≡ first
unfolding channel_at three_cells channel_cells status_cells
first-back first second third = simp flag-back

second-back : (first second third : Channel) → channel_at 1 (three_cells NEWEST first second third) ≡ second
unfolding channel_at three_cells channel_cells status_cells
second-back first second third = simp flag-back

third-back : (first second third : Channel) → channel_at 2 (three_cells NEWEST first second third) ≡ third
unfolding channel_at three_cells channel_cells status_cells
third-back first second third = simp flag-back

rule-saved : (rule : Channel → Bool) (first second third : Channel) → rule first ≡ true → rule second ≡ true → rule third ≡ true
    → three_hold rule (three_cells NEWEST first second third) ≡ true
rule-saved rule first second third a b c = grind (arith, first-back, second-back, third-back)

pub pit_of-saved : (pit : Pit) → length pit.counters ≡ 3 → pit_of pit.level (pit_cells NEWEST pit) ≡ pit
unfolding pit_of pit_cells
pit_of-saved pit three = simp (first-back, second-back, third-back, counter-back) (rw (three_counters pit.counters powered_on three))

-- The cells of a chip fit their kinds: each field has as many numbers of its kind as it counts.
channel-holds : (counter : Counter) → HasWidths counter → AllHold (named (channel_of counter)) channel_rows
unfolding channel_of
channel-holds counter h = grind (arith, nat_tests, one_holds, word, byte, mode-small, access-small, flag, long, held-below)

channel-of : (counter : Counter) → HasWidths counter → AreOf channel_kinds (channel_cells (channel_of counter))
unfolding channel_cells
channel-of counter h = of_rows (named (channel_of counter)) NEWEST channel_rows (channel-holds counter h)

-- An absent cell is 0.
no_held : (held : Option ℕ) → (flag_number (is_some held) == 1) ≡ false → held_or held 0 ≡ 0
no_held held e = grind arith

-- A sound chip.
module _ (now : ℕ) (pit : Pit) (s : IsSoundPit now pit) where
  abbrev first : Counter
  first = counter_of 0 pit

  abbrev second : Counter
  second = counter_of 1 pit

  abbrev third : Counter
  third = counter_of 2 pit

  widths : (k : ℕ) → k < 3 → HasWidths (counter_of k pit)
  widths k l = (s.counters k l).widths

  -- All rules hold.
  met : AllTrue (rules pit.level now (pit_cells NEWEST pit))
  unfolding pit_cells
  met = grind (arith, nat_tests, rule-saved)

  pub restored-newest : restored_pit pit.level now (pit_cells NEWEST pit) ≡ Ok pit
  restored-newest = cc (judged-all (rules pit.level now (pit_cells NEWEST pit)) (pit_of pit.level (pit_cells NEWEST pit)) met, pit_of-saved pit s.count)

  statuses-hold : AllHold (named_statuses (channel_of first) (channel_of second) (channel_of third)) status_rows
  unfolding channel_of
  statuses-hold = grind (arith, nat_tests, counter_of, held-below, widths, of_more, flag, of_none, byte)

  of-kinds : (set : ℕ) → AreOf (kinds_of set) (pit_cells set pit)
  unfolding pit_cells three_cells channel_cells status_cells
  of-kinds set =
      of_both channel_kinds (channel_kinds ++ channel_kinds ++ kinds_under status_rows set) (channel_cells (channel_of first)) _
      (channel-of first (widths 0 (omega arith)))
      (of_both channel_kinds (channel_kinds ++ kinds_under status_rows set) (channel_cells (channel_of second)) _ (channel-of second (widths 1 (omega arith)))
      (of_both channel_kinds (kinds_under status_rows set) (channel_cells (channel_of third)) _ (channel-of third (widths 2 (omega arith)))
      (of_rows (named_statuses (channel_of first) (channel_of second) (channel_of third)) set status_rows statuses-hold)))

  cells-of : (set : ℕ) → AreCellsOf set (pit_cells set pit)
  unfolding pit_cells three_cells channel_cells channel_of
  cells-of set =
      let default = λ (flag number : List ℕ) (k : ℕ). flag_at (pit_cells set pit) (field_place k flag) ≡ false
      → number_at (pit_cells set pit) (field_place k number) ≡ 0 in
      record {
        of_kinds = of-kinds set;
        wlow = each_of (default (codes "wlow_held") (codes "wlow")) (no_held first.held_low) (no_held second.held_low) (no_held third.held_low);
        latch = each_of (default (codes "latched") (codes "latch")) (no_held first.latch) (no_held second.latch) (no_held third.latch);
      }

-- Carried cells are those of the newest set, since what a set lacks is 0.
pub carried-saved : (set now : ℕ) (pit : Pit) → pit.level ≤ set → IsSoundPit now pit → carried set (pit_cells set pit) ≡ pit_cells NEWEST pit
unfolding pit_cells three_cells channel_cells status_cells channel_of
carried-saved set now pit le s =
    let none : nat_le STATUS_SINCE set ≡ false → (k : ℕ) → k < 3 → (counter_of k pit).status ≡ None =
    λ e k l. grind (arith, nat_tests, (plain-from_sound pit.level now _ (s.counters k l)).status) in
    rw (carried_rows (named_statuses (channel_in 0 pit) (channel_in 1 pit) (channel_in 2 pit)) set status_rows (statuses-hold now pit s) (
      (λ e. rw (none e 0 (omega arith), none e 1 (omega arith), none e 2 (omega arith))),
      ((λ e. rw (none e 0 (omega arith), none e 1 (omega arith), none e 2 (omega arith))), tt),
    ) (channel_cells (channel_in 0 pit) ++ channel_cells (channel_in 1 pit) ++ channel_cells (channel_in 2 pit)) STATUS_LATCHED refl)

pub saved_are_cells : SavedAreCells
saved_are_cells = record { of_set = λ numbers pit can s. cells-of numbers.moment pit s numbers.set }

-- A chip is sound if its cells break no rule, and conversely.
is_sound : (now : ℕ) (pit : Pit) → IsLevel pit.level → now ≤ LAST_MOMENT → length pit.counters ≡ 3
    → IsPitCells (pit_cells NEWEST pit) × (first_failing (rules pit.level now (pit_cells NEWEST pit)) ≡ None) → IsSoundPit now pit
is_sound now pit l m three h =
    let restored =
    judged-all (rules pit.level now (pit_cells NEWEST pit)) (pit_of pit.level (pit_cells NEWEST pit))
    (all_true (rules pit.level now (pit_cells NEWEST pit)) h.1) ∙ ap Ok (pit_of-saved pit three) in
    (pit-restored pit.level now (pit_cells NEWEST pit) pit l m h.0 restored).0

pub sound_meets_rules : SoundMeetsRules
sound_meets_rules = search (arith, cells-of, none_failing, met, is_sound)

restored-back : (numbers back : Numbers) (pit : Pit) → CanSave numbers pit → IsSoundPit numbers.moment pit → MayRestore back → back.level ≡ pit.level
    → back.moment ≡ numbers.moment
    → CanRestore back (carried numbers.set (pit_cells numbers.set pit)) × (hook_restored back (carried numbers.set (pit_cells numbers.set pit)) ≡ Ok pit)
restored-back numbers back pit can s may level moment =
    let le : pit.level ≤ numbers.set = let l = can.level_le_set in omega arith in
    let same = carried-saved numbers.set numbers.moment pit le s in
    let newest : restored_pit back.level back.moment (pit_cells NEWEST pit) ≡ Ok pit =
    rw (level, moment) (restored-newest numbers.moment pit s)
    in (
      record { pass = may; normal = subst IsPitCells (sym same) (cells-of numbers.moment pit s NEWEST) },
      rw same (ok-hook _ pit newest),
    )

pub saved_is_restored : SavedIsRestored
saved_is_restored = record { pit = restored-back }
