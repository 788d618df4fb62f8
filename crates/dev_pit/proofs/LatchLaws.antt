-- What is read of a counter: latched counts, the read-back command and the status byte.
use Rattle.dev_pit.proofs.{CallLaws.at_counter, CallLaws.at_step, SoundLaws.flag-small, SoundLaws.mode-small, SoundLaws.access-small}
use Rattle.dev_pit.proofs.Facade
use Facade.{refl, NumbersAre, ◌≡◌, ℕ, ◌-◌, ◌<◌, ◌≤◌, ◌==◌, Bool, true, false, not, ◌&&◌, Some, arith, ⊎_elim, nat_tests, nat_le}
use Facade.{is_some, cases_Bool, Call, reads, writes, IsCall, called, programs, sets_mode_of, reads_latch, is_last, control_word, loaded, written, read_of}
use Facade.{counted_of, latched, status_latched, read_back, LatchStays, counter_of, pit_read, asked_back, controlled, pit_written, ControlWord, LatchCount}
use Facade.{SetMode, ReadBack, Counter, READ_BACK_LEVEL, Pit, either, status_holds, ReadBackByLevel, out_of, status_of, StatusTells, flag-back}

-- ---- the numbers are the constants' by their definition

pub numbers_are : NumbersAre
numbers_are = record { hertz = refl; read_back = refl; status = refl; cells = refl; channel_cells = refl }

-- ---- a latched count stays until it is read or the counter is programmed

-- A counter with this latched count.
abbrev Holds : (held : ℕ) → Counter → Type 0
Holds held counter = counter.latch ≡ Some held

-- Latching again keeps what is latched.
latched-holds : (held now : ℕ) (counter : Counter) → Holds held counter → Holds held (latched now counter)
unfolding latched
latched-holds held now counter h = rw h

status_latched-holds : (held now : ℕ) (counter : Counter) → Holds held counter → Holds held (status_latched now counter)
unfolding status_latched
status_latched-holds held now counter h = h

read_back-holds : (count status : Bool) (held now : ℕ) (counter : Counter) → Holds held counter → Holds held (read_back count status now counter)
unfolding read_back
read_back-holds count status held now counter h = grind (arith, nat_tests, status_latched-holds, latched-holds)

-- So does loading.
written-holds : (value held now : ℕ) (counter : Counter) → Holds held counter → Holds held (written value now counter)
unfolding written loaded
written-holds value held now counter h = grind (arith, nat_tests)

-- A read that returns a status or a first byte keeps it.
read-holds : (held now : ℕ) (counter : Counter) → (not (is_some counter.status) && is_last counter.access counter) ≡ false → Holds held counter
    → Holds held (read_of now counter).1
unfolding read_of counted_of
read-holds held now counter e h = grind (arith, nat_tests)

-- The whole chip.
asked-holds : (count status : Bool) (j k held now : ℕ) (pit : Pit) → Holds held (counter_of k pit)
    → Holds held (counter_of k (asked_back count status j now pit))
unfolding asked_back
asked-holds count status j k held now pit h =
    at_step (Holds held) k j (read_back count status now) pit (λ here. read_back-holds _ _ held now (counter_of k pit) h) h

control-holds : (word : ControlWord) (k held now : ℕ) (pit : Pit) → sets_mode_of k word ≡ false → Holds held (counter_of k pit)
    → Holds held (counter_of k (controlled word now pit))
unfolding controlled
control-holds (LatchCount j) k held now pit e h = at_step (Holds held) k j (latched now) pit (λ here. latched-holds held now (counter_of k pit) h) h
control-holds (SetMode j access mode bcd) k held now pit e h = at_counter (Holds held) k j _ pit (λ here. absurd (grind (arith, nat_tests))) h
control-holds (ReadBack count status first second third) k held now pit e h =
    either (λ (p : Pit). Holds held (counter_of k p)) (nat_le READ_BACK_LEVEL pit.level) _ pit
    (asked-holds _ _ 2 k held now _ (asked-holds _ _ 1 k held now _ (asked-holds _ _ 0 k held now pit h))) h

write-holds : (k held now port value : ℕ) (pit : Pit) → k < 3 → (0x40 ≤ port) × (port ≤ 0x43) × (value < 256) → ((port == 0x43) && sets_mode_of k (control_word value)) ≡ false → Holds held (counter_of k pit) → Holds held (counter_of k (pit_written port value now pit))
unfolding pit_written
write-holds k held now port value pit l c e h =
    ⊎_elim (λ control. rw control (control-holds (control_word value) k held now pit (rw control at e) h))
    (λ data_port. rw data_port (at_step (Holds held) k (port - 0x40) (written value now) pit (λ here. written-holds value held now (counter_of k pit) h) h))
    (cases_Bool (port == 0x43))

call-holds : (k held now : ℕ) (call : Call) (pit : Pit) → k < 3 → IsCall call → programs k call ≡ false → reads_latch k call pit ≡ false
    → Holds held (counter_of k pit) → Holds held (counter_of k (called call now pit))
unfolding called programs reads_latch pit_read
call-holds k held now (reads j) pit l c p r h =
    at_step (Holds held) k j (λ c. (read_of now c).1) pit
    (λ here. let t : (j == k) ≡ true = grind (arith, nat_tests) in read-holds held now (counter_of k pit) (rw t at r) h) h
call-holds k held now (writes port value) pit l c p r h = write-holds k held now port value pit l (c.0.0, c.0.1, c.1) p h

-- What is read of a latched count is the same at any moment.
pit_read-held : (k now later held : ℕ) (pit : Pit) → (counter_of k pit).latch ≡ Some held → pit_read k now pit ≡ pit_read k later pit
unfolding pit_read read_of
pit_read-held k now later held pit e = grind (arith, nat_tests)

pub latch_stays : LatchStays
latch_stays = search (arith, call-holds, pit_read-held)

-- ---- the read-back command by the chip's level

pub read_back_by_level : ReadBackByLevel
unfolding controlled status_holds
read_back_by_level = record {
  none = λ count status first second third now pit e. rw e;
  asks = λ count status first second third now pit h. let has : nat_le READ_BACK_LEVEL pit.level ≡ true = grind (arith, nat_tests) in rw has;
  rule = λ channel h. grind (arith, nat_tests);
}

-- ---- the status byte holds its four parts

pub status_tells : StatusTells
unfolding status_of
status_tells = record { tells = λ counter now. grind (arith, nat_tests, out_of, flag-small, access-small, mode-small, flag-back) }
