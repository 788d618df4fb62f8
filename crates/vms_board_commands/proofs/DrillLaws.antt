-- The events and the sum of `drill`.
use Rattle.std.proofs.lemmas.Bool.{cond_both}
use Rattle.vms_board_commands.proofs.Facade
use Facade.{◌≡◌, [], ◌∷◌, map, true, false, refl, Read, Write, Byte, Wait, Wire, Ack, next_number, event_by, event_of, events_after, is_save_due}
use Facade.{set_of, ℕ, List, length, Option, sym, ap, ◌∙◌, MaySaveUnder, restored, IsSound, State, back_of, came_back, saved_is_carried, isa, Back}
use Facade.{Restores, saved_stream, isa_laws, Reason, suc, ◌+◌, ◌-◌, ◌/◌, ◌≤◌, eqb-true, arith, step, Answer, Event, BETWEEN_SAVES, Counts}
use Facade.{counted, saves_of, after_save, Drill, bytes_after, taken_after, drill_on, drilled_on, with_drill_event, zero, ◌<◌, ◌%◌, IsTrue, mod-add-mod}
use Facade.{IsEvent, AreEvents, names, names_wire, EventsAreGood, SavesLeaveCounts, NEWEST, alike_stays, likeness, clock_goes_on, restored_is_sound}
use Facade.{saved_comes_back, sound_stays_on, saved, carried, Alike, power_on, observe, after_all, after_by, answers_by, Progress, counted_all, with_event}
use Facade.{drilled, NumbersAre, ◌*◌, streams_are_short, STREAM_ROOM, ProgressIsSame, SizesAreSmall}
use Rattle.vms_board.specs.Restoring.{Refused}

-- ---- worked drills: the events that seeds give, and the sets of saves

record Worked : Type 0 where
  acknowledges_first_of_seed_0 : events_after 0 1 ≡ Ack ∷ []
  gives_each_kind_of_event : events_after 7 12 ≡ Byte 0x17 ∷ Wire 6 true ∷ Write 0xa1 0x4c ∷ Write 0x3fe 0xe4 ∷ Write 0x42 0x3a ∷ Wire 14 false ∷ Read 0x43 ∷ Read 0x42 ∷ Ack ∷ Wait 15700000 ∷ Wire 15 false ∷ Ack ∷ []
  goes_on_from_the_greatest_seed : events_after 18446744073709551615 5 ≡ Read 0x3f8 ∷ Wire 6 true ∷ Write 0x3f9 0xd5 ∷ Wait 0 ∷ Read 0x3fc ∷ []
  saves_after_a_thousand : (is_save_due 999 ≡ false) × (is_save_due 1000 ≡ true)
  -- the level's set, the newest, and the level's again; only the newest if it is the level's
  turns_by_saves : map (set_of 3) (0 ∷ 1 ∷ 2 ∷ []) ≡ 3 ∷ 4 ∷ 3 ∷ []
  keeps_to_the_newest : set_of 4 7 ≡ 4

worked : Worked
unfolding next_number event_by event_of is_save_due set_of
worked = search

-- ---- a board goes on as the one that its own stream restores

module _ (set : ℕ) (m : State) (stream : List ℕ) (s : IsSound m) (may : MaySaveUnder m.level set) (is : stream ≡ saved_stream isa set m) where
  pub board_back : (other : State) (taken : ℕ) → Restores isa m.level stream (Back other taken) → other ≡ came_back set m
  unfolding came_back
  board_back other taken r =
      let back = isa_laws.come_back.stream set m s may in
      (back.only other taken (rw is at r)).0 ∙ sym (ap (back_of m) (ap (restored m.level) (sym (saved_is_carried.cells set m s may)) ∙ back.carried))

  pub long_back : (other : State) (taken : ℕ) → Restores isa m.level stream (Back other taken) → taken ≡ length stream
  long_back other taken r = cc (((isa_laws.come_back.stream set m s may).only other taken (rw is at r)).1)

  pub never_refused : (place : ℕ) (section : Option ℕ) (reason : Reason) → Restores isa m.level stream (Refused place section reason) → ⊥
  never_refused place section reason r = (isa_laws.come_back.stream set m s may).accepted place section reason (rw is at r)

-- ---- one event of a drill, and a save where one is due

-- where a save is due there was one
pub some_saves : (n : ℕ) → is_save_due (n + 1) ≡ true → 1 ≤ (n + 1) / BETWEEN_SAVES
unfolding is_save_due
some_saves n e = omega (arith, eqb-true _ 0 e)

-- a drill in progress
abbrev made : ℕ → ℕ → State → Counts → ℕ → ℕ → Drill
made events number board counts bytes taken =
    record { progress = record { events = events; number = number; board = board; counts = counts }; bytes = bytes; taken = taken }

module _ (old : Drill) (event : Event) (number : ℕ) (answer : Answer) (board : State) (counts : Counts)
    (next : number ≡ next_number old.progress.number) (chosen : event ≡ event_of number) (done : (answer, board) ≡ step event old.progress.board)
    (count : counts ≡ counted answer old.progress.counts) where
  abbrev events : ℕ
  events = old.progress.events + 1

  stepped : drill_on old (answer, board) ≡ with_drill_event old
  stepped = let now : (answer, board) ≡ step (event_of (next_number old.progress.number)) old.progress.board = cc in ap (drill_on old) now

  pub goes_unsaved : (taken : ℕ) → is_save_due events ≡ false → taken ≡ old.taken → made events number board counts old.bytes taken ≡ with_drill_event old
  unfolding after_save bytes_after taken_after
  goes_unsaved taken none same =
      let now : made events number board counts old.bytes taken ≡ drill_on old (answer, board) = rw (none, next, count, same) refl in now ∙ stepped

  pub goes_saved : (back : State) (long taken : ℕ) → is_save_due events ≡ true → back ≡ came_back (set_of board.level (saves_of events - 1)) board
      → long ≡ length (saved_stream isa (set_of board.level (saves_of events - 1)) board) → taken ≡ long
      → made events number back counts (old.bytes + long) taken ≡ with_drill_event old
  unfolding after_save bytes_after taken_after
  goes_saved back long taken due is long-is taken-is = (rw (due, next, count, taken-is, long-is, is) refl) ∙ stepped

-- ---- the loop

-- one event more of those that are left
pub one_more : (left after : ℕ) (drill next whole : Drill) → left ≡ after + 1 → drilled_on left drill ≡ whole → next ≡ with_drill_event drill → drilled_on after next ≡ whole
one_more left after drill next whole e goes is = let more : left ≡ suc after = omega arith in rw is (rw more at goes)

pub none_more : (left : ℕ) (drill whole : Drill) → left ≡ 0 → drilled_on left drill ≡ whole → drill ≡ whole
none_more left drill whole e goes = cc

-- ---- the events of a drill are such that there are

-- the remainder of a sum depends only on that of its first part
pub sum_rest : (n k m : ℕ) → (n % m + k) % m ≡ (n + k) % m
sum_rest n k m = mod-add-mod n m k

by-is : (what value place : ℕ) → value < 256 → IsEvent (event_by what value place)
unfolding event_by
by-is (suc (suc zero)) value place v = v
by-is (suc (suc (suc zero))) value place v = v
by-is (suc (suc (suc (suc zero)))) value place v = v
by-is (suc (suc (suc (suc (suc (suc (suc what))))))) value place v = grind arith
by-is _ value place v = tt

pub event-is : (x : ℕ) → IsEvent (event_of x)
unfolding event_of
event-is x = by-is _ _ _ (omega arith)

-- a wire that such an event names is one
pub names_a_wire : (x : ℕ) → IsTrue (names_wire (event_of x))
names_a_wire x = names (event_of x) (event-is x)

are-events : (count seed : ℕ) → AreEvents (events_after seed count)
are-events zero seed = tt
are-events (suc count) seed = (event-is (next_number seed), are-events count (next_number seed))

pub events_are_good : EventsAreGood
events_are_good = record { are = are-events }

-- ---- what saves leave of a drill

-- the set of a save is one under which the board may be saved
pub save_may : (level saves : ℕ) → level ≤ NEWEST → MaySaveUnder level (set_of level saves)
unfolding set_of
save_may level saves l = record { level_le_set = omega arith; set_le_newest = omega arith }

-- a board that is sound and like another one
pub record Left (m after : State) : Type 0 where
  pub alike : Alike m after
  pub sound : IsSound after
  pub level : after.level ≡ m.level

came-left : (set : ℕ) (m : State) → IsSound m → MaySaveUnder m.level set → Left m (came_back set m)
unfolding came_back
came-left set m s may =
    let back = saved_comes_back.back set m s may in
    rw back.restored (record {
      alike = back.alike;
      sound = restored_is_sound.sound m.level (carried set (saved set m)) back.back s.devices.level back.may back.restored;
      level = restored_is_sound.level m.level (carried set (saved set m)) back.back back.restored;
    })

pub save-left : (events : ℕ) (m : State) → IsSound m → Left m (after_save events m)
unfolding after_save
save-left events m s =
    cond_both (is_save_due events) _ _ (Left m) (λ e. came-left _ m s (save_may _ _ s.devices.level.last))
    (λ e. record { alike = likeness.itself m; sound = s; level = refl })

-- a drill in progress, and a board like its own that goes on without saves
record GoesAs (count : ℕ) (progress : Progress) (m : State) : Type 0 where
  pub counts : (drilled count progress).counts ≡ counted_all (observe (events_after progress.number count) m) progress.counts
  pub alike : Alike (after_all (events_after progress.number count) m) (drilled count progress).board
  pub events : (drilled count progress).events ≡ progress.events + count
  pub level : (drilled count progress).board.level ≡ progress.board.level
  pub sound : IsSound (drilled count progress).board

goes : (count : ℕ) (progress : Progress) (m : State) → Alike m progress.board → IsSound progress.board → GoesAs count progress m
unfolding answers_by after_by
goes zero progress m a s = record { counts = refl; alike = a; events = omega arith; level = refl; sound = s }
goes (suc count) progress m a s =
    let event : Event = event_of (next_number progress.number) in
    let now = alike_stays.event event m progress.board a in
    let left = save-left (progress.events + 1) (step event progress.board).1 (sound_stays_on.event event progress.board (event-is (next_number progress.number)) s) in
    let on = goes count (with_event progress) (step event m).1 (likeness.on _ _ _ now.alike left.alike) left.sound in
    record {
      counts = on.counts ∙ ap (λ answer. counted_all (observe (events_after (next_number progress.number) count) (step event m).1) (counted answer progress.counts)) now.value;
      alike = on.alike;
      events = omega arith;
      level = cc (clock_goes_on.level event progress.board);
      sound = on.sound;
    }

pub saves_leave_counts : SavesLeaveCounts
unfolding power_on
saves_leave_counts = record {
  same = λ level seed count l.
      let all = goes count _ _ (likeness.itself (power_on level)) (sound_stays_on.power_on level l) in
      record { counts = all.counts; alike = all.alike; events = omega arith; same_level = all.level; sound = all.sound };
}

-- ---- a drill with its streams, and its progress without them

progress-same : (count : ℕ) (drill : Drill) → (drilled_on count drill).progress ≡ drilled count drill.progress
progress-same zero drill = refl
progress-same (suc count) drill = progress-same count (with_drill_event drill)

pub progress_is_same : ProgressIsSame
progress_is_same = record {
  same = λ level seed count l.
      let progress = progress-same count _ in
      let all = saves_leave_counts.same level seed count l in
      record {
        progress = progress;
        counts = rw progress (all.counts);
        events = rw progress (all.events);
        alike = rw progress all.alike;
        sound = rw progress all.sound;
      };
}

-- ---- sizes

after-small : (events : ℕ) (m : State) (bytes : ℕ) → IsSound m → bytes_after events m bytes ≤ bytes + STREAM_ROOM
unfolding bytes_after
after-small events m bytes s =
    let few = streams_are_short.short _ m s (save_may m.level (saves_of events - 1) s.devices.level.last) in
    grind arith

small : (count : ℕ) (drill : Drill) → IsSound drill.progress.board → (drilled_on count drill).bytes ≤ drill.bytes + STREAM_ROOM * count
small zero drill s = omega arith
small (suc count) drill s =
    let stepped = sound_stays_on.event (event_of (next_number drill.progress.number)) drill.progress.board (event-is (next_number drill.progress.number)) s in
    let left = save-left (drill.progress.events + 1) (step (event_of (next_number drill.progress.number)) drill.progress.board).1 stepped in
    let rest = small count (with_drill_event drill) left.sound in
    omega (arith, after-small (drill.progress.events + 1) (step (event_of (next_number drill.progress.number)) drill.progress.board).1 drill.bytes stepped)

pub sizes_are_small : SizesAreSmall
sizes_are_small = search (arith, small, sound_stays_on)

-- ---- numbers

pub numbers_are : NumbersAre
numbers_are = record { wait = refl; saves = refl; room = refl }
