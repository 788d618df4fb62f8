-- What calls do to one counter of a chip: its count, its OUT, and the moment at which it was
-- loaded.
use Rattle.dev_pit.proofs.EdgeLaws.{ticks-mono}
use Rattle.dev_pit.proofs.Facade
use Facade.{◌≡◌, ℕ, zero, suc, ◌<◌, List, [], ◌∷◌, length, slice_index_or, slice_set, refl, ap, arith, length-set, powered_on, counter_of}
use Facade.{with_counter, Counter, Pit, Bool, Option, ◌∙◌, either, latched, status_latched, read_back, read_of, counted_of, GoesOn, Access, ◌+◌}
use Facade.{◌-◌, ◌≤◌, ◌==◌, true, false, ◌&&◌, ⊎_elim, nat_tests, nat_le, cases_Bool, reads, writes, called, programs, sets_mode_of, loads}
use Facade.{completes, control_word, out_at, out_of, written, CountingGoesOn, TerminalCountStays, pit_read, pit_out, asked_back, controlled, pit_written}
use Facade.{ControlWord, LatchCount, SetMode, ReadBack, READ_BACK_LEVEL, TerminalCount, get_or_default, LoadedBy, loaded, programmed, IsLoadedBy, Mode}

-- ---- the counters of a chip, and what holds for each after one was replaced

-- A fact of an element after another or the same was replaced: of the new one at its place, of the
-- old one elsewhere.
read-set : (P : Counter → Type 0) (xs : List Counter) (k j : ℕ) (counter default : Counter) → (k ≡ j → P counter) → P (slice_index_or xs k default)
    → P (slice_index_or (slice_set xs j counter) k default)
read-set P (x ∷ xs) zero zero counter default here there = here refl
read-set P (x ∷ xs) (suc k) (suc j) counter default here there = read-set P xs k j counter default (λ e. here (ap suc e)) there
read-set P _ _ _ counter default here there = there

-- A fact of counter `k` after counter `j` was replaced.
pub at_counter : (P : Counter → Type 0) (k j : ℕ) (counter : Counter) (pit : Pit) → (k ≡ j → P counter) → P (counter_of k pit)
    → P (counter_of k (with_counter j counter pit))
at_counter P k j counter pit here there = read-set P pit.counters k j counter powered_on here there

-- A fact of counter `k` after counter `j` made a step.
pub at_step : (P : Counter → Type 0) (k j : ℕ) (step : Counter → Counter) (pit : Pit) → (k ≡ j → P (step (counter_of k pit))) → P (counter_of k pit)
    → P (counter_of k (with_counter j (step (counter_of j pit)) pit))
at_step P k j step pit here there = at_counter P k j _ pit (λ e. rw e at (here e)) there

-- The number of counters stays.
pub count-with : (j : ℕ) (counter : Counter) (pit : Pit) → length (with_counter j counter pit).counters ≡ length pit.counters
count-with j counter pit = length-set pit.counters j counter

-- Three counters are those numbered 0 to 2.
pub three_counters : (xs : List Counter) (default : Counter) → length xs ≡ 3
    → slice_index_or xs 0 default ∷ slice_index_or xs 1 default ∷ slice_index_or xs 2 default ∷ [] ≡ xs
three_counters (a ∷ b ∷ c ∷ []) default e = refl
three_counters _ default e = absurd (omega arith)

-- A fact of each of three.
pub each_of : (P : ℕ → Type 0) → P 0 → P 1 → P 2 → (k : ℕ) → k < 3 → P k
each_of P a b c k l = grind (arith, nat_tests)

-- ---- which steps of a counter leave its counting as it was

pub same : (counter : Counter) → GoesOn counter counter
same counter = search

pub goes-on : (first second third : Counter) → GoesOn first second → GoesOn second third → GoesOn first third
goes-on first second third a b = record { count = cc; mode = cc; loaded_at = cc }

pub latched-goes_on : (now : ℕ) (counter : Counter) → GoesOn counter (latched now counter)
unfolding latched
latched-goes_on now counter = search

pub read_back-goes_on : (count status : Bool) (now : ℕ) (counter : Counter) → GoesOn counter (read_back count status now counter)
unfolding read_back latched status_latched
read_back-goes_on count status now counter = search arith

pub read-goes_on : (now : ℕ) (counter : Counter) → GoesOn counter (read_of now counter).1
unfolding read_of counted_of
read-goes_on now counter = search (arith, nat_tests)

-- ---- what calls leave unchanged in a counter

asked-go_on : (count status : Bool) (j k now : ℕ) (before : Counter) (pit : Pit) → GoesOn before (counter_of k pit)
    → GoesOn before (counter_of k (asked_back count status j now pit))
unfolding asked_back
asked-go_on count status j k now before pit g =
    at_step (GoesOn before) k j (read_back count status now) pit (λ here. goes-on before _ _ g (read_back-goes_on _ _ now (counter_of k pit))) g

-- A control word that doesn't set the mode of counter k leaves it counting.
control-goes_on : (word : ControlWord) (k now : ℕ) (pit : Pit) → sets_mode_of k word ≡ false
    → GoesOn (counter_of k pit) (counter_of k (controlled word now pit))
unfolding controlled
control-goes_on (LatchCount j) k now pit e =
    at_step (GoesOn (counter_of k pit)) k j (latched now) pit (λ here. latched-goes_on now (counter_of k pit)) (same (counter_of k pit))
control-goes_on (SetMode j access mode bcd) k now pit e =
    at_counter (GoesOn (counter_of k pit)) k j _ pit (λ here. absurd (grind (arith, nat_tests))) (same (counter_of k pit))
control-goes_on (ReadBack count status first second third) k now pit e =
    either (λ (p : Pit). GoesOn (counter_of k pit) (counter_of k p)) (nat_le READ_BACK_LEVEL pit.level) _ pit
    (asked-go_on _ _ 2 k now _ _ (asked-go_on _ _ 1 k now _ _ (asked-go_on _ _ 0 k now _ pit (same (counter_of k pit))))) (same (counter_of k pit))

-- A byte that doesn't complete a count leaves the counter counting.
written-goes_on : (value now : ℕ) (counter : Counter) → completes counter.access counter ≡ false → GoesOn counter (written value now counter)
unfolding written
written-goes_on value now counter e = search (arith, nat_tests)

write-goes_on : (k now port value : ℕ) (pit : Pit) → k < 3 → (0x40 ≤ port) × (port ≤ 0x43) × (value < 256) → ((port == 0x43) && sets_mode_of k (control_word value)) ≡ false → ((port == 0x40 + k) && completes (counter_of k pit).access (counter_of k pit)) ≡ false → GoesOn (counter_of k pit) (counter_of k (pit_written port value now pit))
unfolding pit_written
write-goes_on k now port value pit h c programs loads =
    ⊎_elim (λ control. rw control (control-goes_on (control_word value) k now pit (rw control at programs)))
    (λ data_port. rw data_port (at_step (GoesOn (counter_of k pit)) k (port - 0x40) (written value now) pit
    (λ here. written-goes_on value now (counter_of k pit) (grind arith)) (same (counter_of k pit)))) (cases_Bool (port == 0x43))

pub counting_goes_on : CountingGoesOn
unfolding called programs loads pit_read
counting_goes_on k now (reads j) pit h c p l =
    at_step (GoesOn (counter_of k pit)) k j (λ c. (read_of now c).1) pit (λ here. read-goes_on now (counter_of k pit)) (same (counter_of k pit))
counting_goes_on k now (writes port value) pit h c p l = write-goes_on k now port value pit h (c.0.0, c.0.1, c.1) p l

-- OUT after terminal count
out-later : (counter : Counter) (now later : ℕ) → counter.mode ≡ TerminalCount → now ≤ later → out_of counter now ≡ true → out_of counter later ≡ true
unfolding out_of out_at
out-later counter now later m h e = grind (arith, nat_tests, ticks-mono)

out-goes_on : (before after : Counter) (now : ℕ) → GoesOn before after → out_of after now ≡ out_of before now
unfolding out_of
out-goes_on before after now g = rw (g.count, g.mode, g.loaded_at)

pub terminal_count_stays : TerminalCountStays
unfolding pit_out
terminal_count_stays = record {
  in_time = λ k now later pit m h e. out-later (counter_of k pit) now later m h e;
  in_calls = λ k now later moment call pit small valid p l m h e.
      rw (out-goes_on (counter_of k pit) (counter_of k (called call moment pit)) later (counting_goes_on k moment call pit small valid p l))
      (out-later (counter_of k pit) now later m h e);
}

-- ---- a counter that was loaded by a moment was loaded by each later one

pub loaded_by-later : (load : Option ℕ) (now later : ℕ) → LoadedBy now load → now ≤ later → LoadedBy later load
loaded_by-later load now later h l = grind arith

-- A counter that wasn't loaded after a moment.
abbrev Loaded : (now : ℕ) → Counter → Type 0
Loaded now counter = LoadedBy now counter.loaded_at

pub goes_on-loaded : (now : ℕ) (before after : Counter) → GoesOn before after → Loaded now before → Loaded now after
goes_on-loaded now before after g h = rw g.loaded_at h

with-loaded : (now j : ℕ) (counter : Counter) (pit : Pit) → IsLoadedBy now pit → Loaded now counter → IsLoadedBy now (with_counter j counter pit)
with-loaded now j counter pit h l k within = at_counter (Loaded now) k j counter pit (λ here. l) (h k within)

pub written-loaded : (value now : ℕ) (counter : Counter) → Loaded now counter → Loaded now (written value now counter)
unfolding written loaded
written-loaded value now counter h = grind (arith, nat_tests)

programmed-loaded : (access : Access) (mode : Mode) (bcd : Bool) (now : ℕ) (counter : Counter) → Loaded now (programmed access mode bcd counter)
unfolding programmed powered_on
programmed-loaded access mode bcd now counter = tt

-- A step of counter j that doesn't load it, or loads it now.
step-loaded : (now j : ℕ) (step : Counter → Counter) (pit : Pit) → ((counter : Counter) → Loaded now counter → Loaded now (step counter)) → IsLoadedBy now pit
    → IsLoadedBy now (with_counter j (step (counter_of j pit)) pit)
step-loaded now j step pit keeps h k within =
    at_step (Loaded now) k j step pit (λ here. keeps (counter_of k pit) (h k within)) (h k within)

-- The whole chip.
asked_loaded : (count status : Bool) (k now : ℕ) (pit : Pit) → IsLoadedBy now pit → IsLoadedBy now (asked_back count status k now pit)
unfolding asked_back
asked_loaded count status k now pit h = step-loaded now k (read_back count status now) pit (λ c. goes_on-loaded now c _ (read_back-goes_on _ _ now c)) h

controlled-loaded : (word : ControlWord) (now : ℕ) (pit : Pit) → IsLoadedBy now pit → IsLoadedBy now (controlled word now pit)
unfolding controlled
controlled-loaded (LatchCount k) now pit h = step-loaded now k (latched now) pit (λ c. goes_on-loaded now c _ (latched-goes_on now c)) h
controlled-loaded (SetMode k access mode bcd) now pit h = with-loaded now k _ pit h (programmed-loaded access mode bcd now (counter_of k pit))
controlled-loaded (ReadBack count status first second third) now pit h =
    either (IsLoadedBy now) (nat_le READ_BACK_LEVEL pit.level) _ _ (asked_loaded _ _ 2 now _ (asked_loaded _ _ 1 now _ (asked_loaded _ _ 0 now pit h))) h

pub pit-later : (now later : ℕ) (pit : Pit) → IsLoadedBy now pit → now ≤ later → IsLoadedBy later pit
pit-later now later pit h l k within = loaded_by-later (counter_of k pit).loaded_at now later (h k within) l

-- The chip after a step of a counter that exists, which doesn't depend on the default for one that doesn't.
module _ (k now : ℕ) (after default : Counter) (pit : Pit) (within : k < length pit.counters) (h : IsLoadedBy now pit) where
  abbrev counter : Counter
  counter = slice_index_or pit.counters k default

  stepped : (step : Counter → Counter) → after ≡ step counter → ((counter : Counter) → Loaded now counter → Loaded now (step counter)) → (later : ℕ)
      → now ≤ later → IsLoadedBy later (with_counter k after pit)
  stepped step e keeps later l =
      rw (e ∙ ap step (get_or_default pit.counters k default powered_on within)) (pit-later now later (with_counter k (step (counter_of k pit)) pit) (step-loaded now k step pit keeps h) l)

  pub read_keeps : (value : ℕ) → (value, after) ≡ read_of now counter → (later : ℕ) → now ≤ later → IsLoadedBy later (with_counter k after pit)
  read_keeps value e = stepped (λ c. (read_of now c).1) (ap (λ a. a.1) e) (λ c. goes_on-loaded now c _ (read-goes_on now c))

  pub written_keeps : (value : ℕ) → after ≡ written value now counter → (later : ℕ) → now ≤ later → IsLoadedBy later (with_counter k after pit)
  written_keeps value e = stepped (written value now) e (written-loaded value now)

  pub asked_keeps : (count status : Bool) → after ≡ read_back count status now counter → IsLoadedBy now (with_counter k after pit)
  asked_keeps count status e = stepped (read_back count status now) e (λ c. goes_on-loaded now c _ (read_back-goes_on _ _ now c)) now (omega arith)

pub controlled_keeps : (word : ControlWord) (now later : ℕ) (after pit : Pit) → after ≡ controlled word now pit → IsLoadedBy now pit → now ≤ later
    → IsLoadedBy later after
controlled_keeps word now later after pit e h l = rw e (pit-later now later (controlled word now pit) (controlled-loaded word now pit h) l)
