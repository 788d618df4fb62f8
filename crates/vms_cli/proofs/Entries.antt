-- The table of commands, row by row: what is proved of each, and that its words name what there is.
use Rattle.vms_cli.proofs.{TextCommands.shows_same, Facade.AskedLaw, Facade.CanBeAsked}
use Rattle.vms_cli.proofs.Facade.{Outcome, ℕ, List, Option, Some, None, refl, Held, Text, analyze_entry, SetWord, checked, compatible_text, check_entry}
use Rattle.vms_cli.proofs.Facade.{convert_entry, ◌≡◌, ◌⊎◌, ⊎_elim, subst, arith, IsBytes, IsFit, Set, Answer, Taken, Faulty, either_holds}
use Rattle.vms_cli.proofs.Facade.{taken_kept, Compatible, first_mismatch, Mismatch, word_set, done, Gives, next, FitStep, fit_word, IsSound, sound_next}
use Rattle.vms_cli.proofs.Facade.{sound_word_set, Rewrites, WouldLose, agreed, agrees, newest, target, CanBeConverted, HasOne, Converts, one_text, computed}
use Rattle.vms_cli.proofs.Facade.{counted, counter_text, counter_entry, named_sets, drill_line, drill_entry, BoardWord, load_entry, FitsHeads, WellFormed}
use Rattle.vms_cli.proofs.Facade.{Family, script_gives, sound_script, loads_one, LoadsBy, Traces, scripted, answers_to, Loads, trace_of, events_of, BoardOf}
use Rattle.vms_cli.proofs.Facade.{fetched_gives, CanBePacked, described_stream, packs, pack_entry, IfSome, HoldsAll, scripted_lines, IsLevel, has_end}
use Rattle.vms_cli.proofs.Facade.{one_outcome, PlaysAll, reads_exactly, play_entry, saved_stream, sound_saved, after_events, saved_on, save_entry, Refuses}
use Rattle.vms_cli.proofs.Facade.{Shows, show_entry, values_text, CanBeShown, ◌∷◌, [], codes, bytes_eq, Asked, Analyze, Check, Convert, Counter, Drill}
use Rattle.vms_cli.proofs.Facade.{Load, Pack, Play, Save, Show, pair_of, single_of, triple_of, entry_of}
use Rattle.vms_cli.proofs.KindLaws.{stands_of, all-some, both-asked, drill-asked, either-asked, file-asked, mapped-asked, save-asked, word-board, word-level}
use Rattle.vms_cli.proofs.RowLemmas.{next_gives, IsDone, IsRow, text_row, one_by, one_of}
use Rattle.vms_cli.proofs.StreamCommands.{is_answered, newest_fit, agreed_gives, converts_same, pack_gives, sound_pack}
use Rattle.vms_cli.proofs.TextCommands.{shows_under, has_listing, only_listing, sound_check, AreFit, counters_text, fit_sets, sound_counter, text_counters}
use Rattle.vms_cli.specs.{Commands.ConvertCommand.Refuses as RefusesToConvert, Kinds.family_of, Commands.ShowCommand.Values as Printed}

-- ---- `analyze` has one outcome, and what can be listed is

listed : (input : Option (List ℕ)) (held : Option Held) → analyze_entry.needs input held → IsDone analyze_entry.task input held
listed None held can = absurd can
listed (Some bytes) held can = record { outcome = _; is = record { listing = Text can.0; lists = can.1; is = refl }; status = refl }

pub analyze_row : IsRow analyze_entry
analyze_row = record {
  one = λ input held ok holds words. one_of (λ a b p q. only_listing input _ b a q p) (has_listing input _).1;
  done = λ input held octets words can. listed input held can;
}

-- ---- `check` has one outcome, and what is compatible is checked so

pub check_row : (old new : SetWord) → IsRow (check_entry old new)
check_row old new =
    text_row (λ held. checked held old new) (λ held. sound_check held old new)
    (λ input held can. (compatible_text, rw can.1 (rw can.2 refl)))

-- ---- `convert` has one outcome, and what can be converted is

abbrev OneConverted : Set → List ℕ → Held → Type 0
OneConverted to input held = HasOne (λ o. Converts to input (Some held) o)

-- whether the input begins with a stream or is invalid
module _ (to : Set) (fit : IsFit to) (compatible : Compatible to newest) (input : List ℕ) (held : Held) (ok : IsBytes input) where
  one_converted : {x : Outcome} → Converts to input (Some held) x → OneConverted to input held
  one_converted = one_of (λ a b p q. converts_same to fit compatible input (Some held) ok a b p q)

  answered_converted : Answer newest newest.machines input → OneConverted to input held
  answered_converted (Taken n machine images takes) =
      ⊎_elim (λ stream. one_converted (Rewrites n machine images stream.0 takes stream.1))
      (λ lost. one_converted (WouldLose n machine images lost.0 lost.1 takes lost.2))
      (is_answered to fit compatible machine images (taken_kept newest newest.machines input n machine images takes))
  answered_converted (Faulty place section reason size fault) = one_converted (RefusesToConvert place section reason size fault)

-- ---- the step that gives the set

-- it is the word's, well formed, and the newest reads it
pub target_is : (held : Option Held) (word : SetWord) (to : Set) → target held word ≡ Gives to → (word_set held word ≡ Gives to) × IsFit to × Compatible to newest
target_is held word to is = by (first_mismatch g.0 newest) refl g.2 where
  g : (a : Set) × (word_set held word ≡ Gives a) × (agrees a ≡ Gives to)
  g = next_gives (word_set held word) agrees to is

  by : (m : Option Mismatch) → first_mismatch g.0 newest ≡ m → agreed g.0 m ≡ Gives to → (word_set held word ≡ Gives to) × IsFit to × Compatible to newest
  by None e i = let same : g.0 ≡ to = cc in rw (← same) (g.1, subst FitStep g.1 (fit_word held word), e)
  by (Some m) e i = cc

sound_agreed : (held : Option Held) (to : Set) (m : Option Mismatch) → IsSound held (agreed to m)
sound_agreed held to m = grind arith

sound_target : (held : Option Held) (word : SetWord) → IsSound held (target held word)
sound_target held word = sound_next held (word_set held word) agrees (sound_word_set held word) (λ to. sound_agreed held to _)

pub target_gives : (held : Option Held) (word : SetWord) (to : Set) → word_set held word ≡ Gives to → Compatible to newest → target held word ≡ Gives to
target_gives held word to there compatible = cc (agreed_gives to compatible)

converted : (word : SetWord) (input : Option (List ℕ)) (held : Option Held) → CanBeConverted word input held → IsDone (convert_entry word).task input held
converted word None held can = absurd can.3
converted word (Some bytes) held can =
    let c = can.3 in
    ⊎_elim (λ stream. record {
      outcome = done stream.0 held c.0;
      is = rw (target_gives held word can.0 can.1 can.2) (Rewrites c.0 c.1 c.2 stream.0 c.3 stream.1);
      status = refl;
    }) (λ lost. absurd (c.4 lost.0 lost.1 lost.2))
    (is_answered can.0 (subst FitStep can.1 (fit_word held word)) can.2 c.1 c.2 (taken_kept newest newest.machines bytes c.0 c.1 c.2 c.3))

pub convert_row : (word : SetWord) → IsRow (convert_entry word)
convert_row word = record {
  one = λ input held ok holds words. one_by (λ to o. Converts to input (Some held) o) held (target (Some held) word) (sound_target (Some held) word) (λ to is.
      let suits = target_is (Some held) word to is in
      answered_converted to suits.1 suits.2 input held ok (either_holds newest newest.machines newest_fit.well newest_fit.heads input ok));
  done = λ input held octets words can. converted word input held can;
}

-- ---- `counter` has one outcome, and two sets have an answer

found : (old new : SetWord) (input : Option (List ℕ)) (held : Option Held) → (counter_entry old new).needs input held
    → IsDone (counter_entry old new).task input held
found old new input held can = record {
  outcome = done (counter_text can.0.old can.0.new (computed can.0.old can.0.new)) held 0;
  is = rw can.1 (text_counters held (Gives can.0) _ (subst AreFit can.1 (fit_sets held old new)) refl);
  status = refl;
}

pub counter_row : (old new : SetWord) → IsRow (counter_entry old new)
counter_row old new = record {
  one = λ input held ok holds words.
      let step = named_sets (Some held) old new in
      let one = one_text held (next step counted) (sound_counter (Some held) old new) in
      record {
        outcome = one.outcome;
        is = text_counters (Some held) step one.outcome (fit_sets (Some held) old new) one.is;
        only = λ other has. one.only other (counters_text (Some held) old new other has);
      };
  done = λ input held octets words can. found old new input held can;
}

-- ---- `drill` has one outcome, whatever there is

pub drill_row : (level seed count : ℕ) → IsRow (drill_entry level seed count)
drill_row level seed count =
    text_row (λ held. Gives (drill_line level seed count)) (λ held. tt) (λ input held can. (drill_line level seed count, refl))

-- ---- `load` has one outcome, and a board goes on if its stream and a script can be read

module _ {S : Type 0} (f : Family S) (well : WellFormed (f.set f.newest)) (heads : FitsHeads (f.set f.newest)) where
  one_scripted : (number : ℕ) (script input : List ℕ) (held : Held) → IsBytes input
      → HasOne (λ o. LoadsBy f number (scripted None (Some held) script) (Some input) (Some held) o)
  one_scripted number script input held ok =
      one_by (λ lines o. Loads f number lines input (Some held) o) held (scripted None (Some held) script) (sound_script None (Some held) script) (λ lines is.
      let one = loads_one f well heads number lines input (Some held) ok in
      record { outcome = one.outcome; is = one.is; only = one.only })

loaded : (board : BoardWord) (script : List ℕ) (input : Option (List ℕ)) (held : Option Held) → (load_entry board script).needs input held
    → IsDone (load_entry board script).task input held
loaded (BoardOf kind number) script input None can = absurd can.0
loaded (BoardOf kind number) script None (Some map) can = absurd can.1
loaded (BoardOf kind number) script (Some bytes) (Some map) can = record {
  outcome = done (trace_of (answers_to (family_of kind) (events_of can.0.lines) can.1.0)) (Some map) can.1.1;
  is = rw (script_gives None map script _ _ can.0.held can.0.short can.0.reads) (Traces can.1.0 can.1.1 can.1.2);
  status = refl;
}

pub load_row : (board : BoardWord) (script : List ℕ) → IsRow (load_entry board script)
load_row (BoardOf kind number) script = record {
  one = λ input held ok holds words. one_scripted _ (stands_of kind).well (stands_of kind).heads number script input held ok;
  done = λ input held octets words can. loaded (BoardOf kind number) script input held can;
}

-- ---- `pack` has one outcome, and what can be packed is

-- a values text that is there is packed
packs_give : (word : SetWord) (name : List ℕ) (map : Held) → (can : CanBePacked word name map)
    → packs (Some map) word name ≡ Gives (described_stream can.set can.machine can.images)
packs_give word name map can = grind (arith, pack_gives, fetched_gives)

packed : (word : SetWord) (name : List ℕ) (input : Option (List ℕ)) (held : Option Held) → (pack_entry word name).needs input held
    → (text : List ℕ) × (packs held word name ≡ Gives text)
packed word name input None can = absurd can
packed word name input (Some map) can = (described_stream can.set can.machine can.images, packs_give word name map can)

pub pack_row : (word : SetWord) (name : List ℕ) → IsRow (pack_entry word name)
pack_row word name =
    text_row (λ held. packs held word name) (λ held. sound_pack held word name) (packed word name)

-- ---- `play` has one outcome, and a script that can be read is played

played : (level : ℕ) (script : List ℕ) (input : Option (List ℕ)) (held : Option Held) → IfSome held HoldsAll → IsLevel level
    → (play_entry level script).needs input held → IsDone (play_entry level script).task input held
played level script input None octets is can = absurd can
played level script input (Some map) octets is can =
    let end = has_end level _ map is ((reads_exactly.only (Some level) can.text can.lines can.reads).0) octets in
    record { outcome = end.0; is = rw (script_gives _ map script _ _ can.held can.short can.reads) end.1; status = rw (end.1.outcome) }

pub play_row : (level : ℕ) (script : List ℕ) → IsRow (play_entry level script)
play_row level script = record {
  one = λ input held ok holds is.
      let step = scripted (Some level) (Some held) script in
      one_by (λ lines o. PlaysAll level lines held o) held step (sound_script (Some level) (Some held) script) (λ lines gives.
      let are = rw gives at (scripted_lines (Some level) (Some held) script) in
      let end = has_end level lines held is are holds in
      record { outcome = end.0; is = end.1; only = λ other p. one_outcome level lines held is are holds end.0 other end.1 p });
  done = λ input held octets is can. played level script input held octets is can;
}

-- ---- `save` has one outcome, and a board after a script that can be read is saved

saved : (board : BoardWord) (set : ℕ) (script : List ℕ) (input : Option (List ℕ)) (held : Option Held) → (save_entry board set script).needs input held
    → (text : List ℕ) × (saved_on board set held script ≡ Gives text)
saved board set script input None can = absurd can
saved (BoardOf kind number) set script input (Some map) can =
    let f = family_of kind in
    (saved_stream f set (after_events f (events_of can.lines) (f.power_on number)), rw (script_gives None map script _ _ can.held can.short can.reads) refl)

pub save_row : (board : BoardWord) (set : ℕ) (script : List ℕ) → IsRow (save_entry board set script)
save_row (BoardOf kind number) set script =
    text_row (λ held. saved_on (BoardOf kind number) set held script) (λ held. sound_saved _ number set held script) (saved (BoardOf kind number) set script)

-- ---- `show` has one outcome, and what can be shown is

-- whether the input begins with a stream or is invalid
module _ (set : Set) (fit : IsFit set) (input : List ℕ) (held : Held) (ok : IsBytes input) where
  one_shown : {x : Outcome} → Shows set input (Some held) x → HasOne (λ o. Shows set input (Some held) o)
  one_shown = one_of (λ a b p q. shows_same set fit input (Some held) a b ok p q)

  one_answered : Answer set set.machines input → HasOne (λ o. Shows set input (Some held) o)
  one_answered (Taken n machine images takes) = one_shown (Printed n machine images takes)
  one_answered (Faulty place section reason size fault) = one_shown (Refuses place section reason size fault)

shown : (word : SetWord) (input : Option (List ℕ)) (held : Option Held) → CanBeShown word input held → IsDone (show_entry word).task input held
shown word None held can = absurd can.2
shown word (Some bytes) held can =
    let t = can.2 in
    record { outcome = done (values_text can.0 t.1 t.2) held t.0; is = rw can.1 (Printed t.0 t.1 t.2 t.3); status = refl }

pub show_row : (word : SetWord) → IsRow (show_entry word)
show_row word = record {
  one = λ input held ok holds words. one_by (shows_under (Some input) (Some held)) held (word_set (Some held) word) (sound_word_set (Some held) word) (λ set is.
      let fit = subst FitStep is (fit_word (Some held) word) in
      one_answered set fit input held ok (either_holds set set.machines fit.well fit.heads input ok));
  done = λ input held octets words can. shown word input held can;
}

-- ---- the table of commands: what is proved of each, and that its words name what there is

-- the commands
pub row_of : (asked : Asked) → IsRow (entry_of asked)
row_of (Show set) = show_row set
row_of (Convert set) = convert_row set
row_of Analyze = analyze_row
row_of (Pack set values) = pack_row set values
row_of (Check old new) = check_row old new
row_of (Counter old new) = counter_row old new
row_of (Save board set script) = save_row board set script
row_of (Load board script) = load_row board script
row_of (Drill level seed count) = drill_row level seed count
row_of (Play level script) = play_row level script

-- ---- their words

single-asked : (name set : List ℕ) → CanBeAsked (single_of name set)
unfolding single_of
single-asked name set = search (either-asked, mapped-asked)

pair-asked : (name one other : List ℕ) → CanBeAsked (pair_of name one other)
unfolding pair_of
pair-asked name one other = search (either-asked, both-asked, file-asked, all-some, word-board, word-level) depth 12

triple-asked : (name one two three : List ℕ) → CanBeAsked (triple_of name one two three)
unfolding triple_of
triple-asked name one two three = search (either-asked, drill-asked, save-asked, word-board, word-level)

pub words_ask : AskedLaw
words_ask (name ∷ []) = either-asked (bytes_eq name (codes "analyze")) (Some Analyze) None tt tt
words_ask (name ∷ set ∷ []) = single-asked name set
words_ask (name ∷ one ∷ other ∷ []) = pair-asked name one other
words_ask (name ∷ one ∷ two ∷ three ∷ []) = triple-asked name one two three
words_ask _ = tt
