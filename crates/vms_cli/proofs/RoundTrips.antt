-- One command after the other: what was written is read again.
use Rattle.vms_cli.proofs.{RowLemmas.fits_of, Entries.words_ask, RowLemmas.next_gives, RowLemmas.caused_so, RowLemmas.row_so, TextCommands.verdict_so, StreamCommands.pack_gives}
use Rattle.vms_cli.proofs.Facade
use Facade.{fetched, named_parts, scripted, HasBy, ℕ, List, length, Option, None, Some, subst, ◌≡◌, [], append-nil, refl, ap, ◌∙◌, IfSome, Family}
use Facade.{LoadsBy, Traces, stream_with, BoardsGoOn, Outcome, Outside, DoesOrStops, Step, Gives, Both, both, next, ScriptLine, events_of, HasOutcome, Asked}
use Facade.{BoardOf, Load, Show, asked_of, Continuation, ContinuesBy, goes_on, Held, HoldsAll, Image, Set, written, WellFormed, Compatible, carried, Takes}
use Facade.{upgrade_stands, named_sets, set_in, sets_in, word_set, SetWord, FitStep, fit_word, AreCompatible, CheckThenShowLaw, ShowsBy, IsWritten, Upgrade}
use Facade.{UpgradesTo, shown_newer, Intake, Outlet, Stock, Serves, Ending, Tells, around, outcome_so, Runs, moment, task_of, machine_known, Answers}
use Facade.{AlwaysNamedLaw, Prints, RefusesSo, StateLaw, ◌≤◌, Bool, true, if◌then◌else◌, ◌∷◌, sym, arith, ◌-◌, ℤ, ◌++◌}
use Facade.{LONGEST_TEXT, AreReady, is_one_of, configuration, end_mark, optional, stream_head, trailer, written_sections, values_text, ValuesRead, Values, Bad}
use Facade.{values_read, IsFit, IsMachineOf, accepted_holds, written_only, printed_holds, described_text, short_holds, Listing, Text, Lists, IsTooLong, HasNone}
use Facade.{HasNoShape, IsRead, longest_input, fetched_set, longest_file, Part, done, ended, Untold, Ends, HasText, fetched_gives, IsListing}
use Facade.{PackThenAnalyzeLaw, ShowThenAnalyzeLaw, PrintsAlike, SaveThenAnalyzeLaw, PackThenShowLaw, ShowThenPackLaw, CanBeAsked, described_stream, packed_by}
use Facade.{packed_parts, packs, with_values, Shows, Refuses, ReachesSet, AreEvents, Event, IsNumber, images_saved, saved_stream, scripted_lines, saved_after}
use Facade.{after_events, after_number, lines_are_events, Fault, further_holds, Mismatch, Counters, Finds, always_holds, named_holds}
use Rattle.vms_cli.proofs.KindLaws.{goes_on_of, numbers_of, sound_of, stands_of}
use Rattle.vms_cli.specs.{Answers.Answers as CallAnswers, Commands.ShowCommand.Values as Printed}
use Rattle.vms_analyze.proofs.Shown.{shown_holds as shown_listing}
use Rattle.vms_board.specs.Family.{Stands}
use Rattle.vms_check.proofs.SelfLaws.{is_among}
use Rattle.vms_counter_laws.specs.Counters.{Refusal, State}
use Rattle.vms_commands.specs.Fetching.{text_under}

-- ---- A stream that a board wrote is loaded as that board going on.

module _ {S : Type 0} (f : Family S) (Alike : S → S → Type 0) (IsSound : S → Type 0) (going : BoardsGoOn f Alike IsSound) where
  continues_by : (number : ℕ) (step : Step (List ScriptLine)) (status : ℕ) (old new : Outside)
      → ((o : Outcome) → LoadsBy f number step old.input.left old.shelf.held o → DoesOrStops status old new o)
      → ContinuesBy f IsSound number step status old new
  continues_by number (Gives lines) status old new all = λ set m text sound same may room left.
      let there = (going.on set m text (events_of lines) sound (rw same may) room).there in
      all (goes_on f set m text lines old) (rw left (rw there.trace_is (Traces there.board (length (stream_with f set m text)) (rw same at there.restored))))
  continues_by number _ status old new all = tt

pub continues_so : (asked : Option Asked) (status : ℕ) (old new : Outside)
    → ((o : Outcome) → HasOutcome asked old.input.left old.shelf.held o → DoesOrStops status old new o) → Continuation asked status old new
continues_so (Some (Load (BoardOf kind number) script)) status old new all = continues_by _ _ _ (goes_on_of kind) number _ status old new all
continues_so asked status old new all = tt

-- ---- What an older set wrote is shown as carried.

-- the newer set takes the stream whole
takes_all : (older newer : Set) → WellFormed older → WellFormed newer → Compatible older newer → (machine text : Option (List ℕ)) (images : List Image)
    → IsWritten older machine text images
    → Takes newer newer.machines (written older machine images text) (length (written older machine images text)) machine (carried older newer images)
takes_all older newer well_older well_newer compatible machine text images w =
    let bytes = written older machine images text in
    rw (append-nil bytes) at ((upgrade_stands older newer well_older well_newer compatible machine text images w.named w.short w.ready).taken [] (λ none. refl))

upgrades_by : (s : Step Set) → FitStep s → (status : ℕ) (old new : Outside)
    → ((o : Outcome) → ShowsBy s old.input.left old.shelf.held o → DoesOrStops status old new o) → UpgradesTo s status old new
upgrades_by (Gives newer) fit status old new all = λ older machine text images well compatible w left.
    let outcome = shown_newer older newer machine text images old in
    let bytes = written older machine images text in
    all outcome (rw left (Printed (length bytes) machine (carried older newer images) (takes_all older newer well fit.well compatible _ text images w)))
upgrades_by _ fit status old new all = tt

pub upgrade_so : (asked : Option Asked) (status : ℕ) (old new : Outside)
    → ((o : Outcome) → HasOutcome asked old.input.left old.shelf.held o → DoesOrStops status old new o) → Upgrade asked status old new
upgrade_so (Some (Show word)) status old new all = upgrades_by (word_set old.shelf.held word) (fit_word old.shelf.held word) status old new all
upgrade_so asked status old new all = tt

-- ---- check, and then show

-- what two steps gave
both_give : {A : Type 0} (s r : Step A) (c : Both A) → both s r ≡ Gives c → (s ≡ Gives c.old) × (r ≡ Gives c.new)
both_give {A} s r c e =
    let one = next_gives s (λ a. next r (λ b. Gives (record { old = a; new = b }))) c e in
    let other = next_gives r (λ b. Gives (record { old = one.0; new = b })) c one.2 in
    let same : record { old = one.0; new = other.0 } ≡ c = cc in
    (one.1 ∙ ap (λ (x : Both A). Gives x.old) same, other.1 ∙ ap (λ (x : Both A). Gives x.new) same)

pub named_both : (sets : Both Set) (held : Option Held) (old new : SetWord) → named_sets held old new ≡ Gives sets
    → (word_set held old ≡ Gives sets.old) × (word_set held new ≡ Gives sets.new)
named_both sets held old new gives =
    let texts = next_gives (both (fetched_set held old) (fetched_set held new)) sets_in sets gives in
    let fetched = both_give (fetched_set held old) (fetched_set held new) texts.0 texts.1 in
    let read = both_give (set_in texts.0.old) (set_in texts.0.new) sets texts.2 in
    (rw (fetched.0) (read.0), rw (fetched.1) (read.1))

pub check_then_show : CheckThenShowLaw
check_then_show one other old new sets a b c d status checks shows gives checked held shown machine text images w left =
    let words = named_both sets a.shelf.held old new gives in
    let compatible : Compatible sets.old sets.new = subst AreCompatible gives ((rw checks at checked.verdict) refl) in
    let newer : word_set c.shelf.held new ≡ Gives sets.new = rw held (words.1) in
    (rw newer at (rw shows at shown.upgrade)) sets.old machine text images (subst FitStep words.0 (fit_word a.shelf.held old)).well compatible w left

-- ---- From how a call ends and why to what it answers.

module _ (i i' : Intake) (o o' n n' : Outlet) (s s' : Stock) where
  -- what the call answers
  pub answers : (words : List (List ℕ)) (e : Option Ending) (status : ℕ) → Runs (task_of (asked_of words)) (moment i o s) (moment i' o' s') e
      → (asked_of words ≡ None → o' ≡ o) → Tells n n' e status → Serves n n' → IfSome s.held HoldsAll
      → CallAnswers words status (around i o n s) (around i' o' n' s')
  answers words e status run unnamed t serves octets =
      let so = run.so in
      let fits = fits_of (asked_of words) in
      let outcome : (x : Outcome) → HasOutcome (asked_of words) i.left s.held x → DoesOrStops status (around i o n s) (around i' o' n' s') x =
      λ x has. outcome_so i i' o o' n n' s s' e status x (run.content x has) (caused_so i i' o o' s s' (task_of (asked_of words)).course fits e so) t in
      record {
        outcome = outcome;
        row = row_so i i' o o' n n' s s' (asked_of words) fits e status run unnamed t;
        verdict = verdict_so (asked_of words) i.left s.held status (around i o n s) (around i' o' n' s') outcome;
        upgrade = upgrade_so _ status _ _ outcome;
        continuation = continues_so _ status _ _ outcome;
        stands = record { input = so.draws; out = so.serves; notes = serves; shelf = so.reaches };
        octets = octets;
      }

-- ---- Packing and showing, one after the other.

abbrev pub first_text : List Part → List ℕ
first_text [] = []
first_text (part ∷ parts) = part.text

pub same_text : (x y : Outcome) → x ≡ y → first_text x.parts ≡ first_text y.parts
same_text x y e = rw e

-- what succeeds has a part, and what ends with a status of its own has none
pub done_apart : (s : ℕ) (note text : List ℕ) (held : Option Held) (k n : ℕ) → done text held n ≡ ended s note k → ⊥
done_apart s note text held k n e = parts_apart _ _ (ap (λ o. o.parts) e)
  where
    parts_apart : (part : Part) (parts : List Part) → part ∷ parts ≡ [] → ⊥
    parts_apart part parts e = cc

-- what succeeds by a step has the value of that step
pub has_gives : {A : Type 0} (P : A → Outcome → Type 0) (s : Step A) (text : List ℕ) (held : Option Held) (n : ℕ) → HasBy P s (done text held n)
    → (a : A) × (s ≡ Gives a) × P a (done text held n)
has_gives P Untold text held n has = absurd has
has_gives P (Gives a) text held n has = (a, refl, has)
has_gives P (Ends status line) text held n has = absurd (done_apart status line text held 0 n has)

-- ---- packing and then showing

-- an input that has a listing has few bytes
lists_few : (input text : List ℕ) (l : Listing) → Lists input l → l ≡ Text text → length input ≤ longest_input
lists_few input text _ (IsTooLong lt) e = cc
lists_few input text _ (HasNone few none) e = few
lists_few input text _ (HasNoShape p few last none) e = few
lists_few input text _ (IsRead p devices few last tells) e = few

pub lists_all : (input text : List ℕ) (held : Option Held) → Lists input (Text text) → IsListing held input (done text held (length input))
lists_all input text held lists = search (arith, lists_few)

-- a description is short enough for a stream
pub fits_text : (set : Set) → IsFit set → (images : List Image) → length (described_text set images) ≤ LONGEST_TEXT
fits_text set fit images = omega (arith, short_holds.short set fit.well fit.heads images)

pub machine_of_set : (set : Set) (machine : Option (List ℕ)) → IfSome machine (λ m. is_one_of set.machines m ≡ true) → IsMachineOf set machine
machine_of_set set machine h = grind arith

-- ---- What was written of a machine and images with its description.

module _ (held : Option Held) (word : SetWord) (set : Set) (there : word_set held word ≡ Gives set) (machine : Option (List ℕ)) (images : List Image)
    (named : IsMachineOf set machine) (ready : AreReady set images) where
  fit : IsFit set
  fit = subst FitStep there (fit_word held word)

  abbrev stream : List ℕ
  stream = described_stream set machine images

  -- `show` and `analyze` print its text
  shown_written : HasOutcome (Some (Show word)) (Some stream) held (done (values_text set machine images) held (length stream))
      × IsListing held stream (done (values_text set machine images) held (length stream))
  shown_written = (
    rw there (Printed (length stream) machine images (written_only set machine (Some (described_text set images)) images fit named (fits_text set fit images) ready).whole),
    lists_all stream _ held (shown_listing set fit.well fit.heads machine named images ready),
  )

  pub written_prints : PrintsAlike word stream held
  written_prints = record { text = values_text set machine images; shown = shown_written.0; listed = shown_written.1 }

  -- and `show` prints nothing else
  shown_is : (text : List ℕ) (n : ℕ) (x : Outcome) → x ≡ done text held n → Shows set stream held x → (text ≡ values_text set machine images) × (n ≡ length stream)
  shown_is text n x same (Printed taken other others whole) =
      let all = (written_only set machine (Some (described_text set images)) images fit named (fits_text set fit images) ready).only taken other others whole in
      let printed : values_text set machine images ≡ values_text set other others = cc in
      (sym (printed ∙ same_text _ _ same), ap (λ o. o.taken) (sym same) ∙ all.0)
  shown_is text n x same (Refuses place section reason size fault) = absurd (done_apart 1 _ text held _ n (sym same))

pub show_then_analyze : ShowThenAnalyzeLaw
show_then_analyze word set machine images text held there ready named n shows =
    let of = machine_of_set set machine named in
    let is = shown_is held word set there machine images of ready text n _ refl (rw there at shows) in
    rw (is.0, is.1) (shown_written held word set there machine images of ready).1

-- showing and then packing
pub show_then_pack : ShowThenPackLaw
show_then_pack word set machine images name text input map there ready named under short n shows =
    let of = machine_of_set set machine named in
    let is = shown_is (Some map) word set there machine images of ready text n _ refl (rw there at shows) in
    let reads : values_read set text ≡ Values machine images = rw (is.0) (printed_holds set machine images (subst FitStep there (fit_word (Some map) word)) of ready) in
    rw (pack_gives (Some map) word name set text _ there (fetched_gives longest_file map name text under short) (ap (packed_by set) reads)) refl

-- ---- packing and then showing

text_gives : (held : Option Held) (s : Step (List ℕ)) (text : List ℕ) → HasText held s (done text held 0) → s ≡ Gives text
text_gives held Untold text has = absurd has
text_gives held (Gives given) text has = ap Gives (sym (same_text _ _ has))
text_gives held (Ends status line) text has = absurd (done_apart status line text held 0 0 has)

packed_gives : (set : Set) (stream : List ℕ) (r : ValuesRead) → packed_by set r ≡ Gives stream
    → (machine : Option (List ℕ)) × (images : List Image) × (r ≡ Values machine images) × (described_stream set machine images ≡ stream)
packed_gives set stream (Values machine images) e = (machine, images, refl, cc)
packed_gives set stream (Bad line reason) e = cc

under_gives : (b : Bool) (text v line : List ℕ) → (if b then Gives text else Ends 9 line) ≡ Gives v → v ≡ text
under_gives b text v line e = grind arith

-- `show` and `analyze` print this text of a stream
abbrev PrintsText : SetWord → Held → (stream text : List ℕ) → Type 0
PrintsText word map stream text =
    HasOutcome (Some (Show word)) (Some stream) (Some map) (done text (Some map) (length stream))
    × IsListing (Some map) stream (done text (Some map) (length stream))

read_prints : (word : SetWord) (set : Set) (machine : Option (List ℕ)) (images : List Image) (text : List ℕ) (map : Held)
    → word_set (Some map) word ≡ Gives set → values_read set text ≡ Values machine images
    → PrintsText word map (described_stream set machine images) text
read_prints word set machine images text map there reads =
    let is = accepted_holds set text machine images (subst FitStep there (fit_word (Some map) word)) reads in
    rw is.printed (shown_written (Some map) word set there machine images is.named is.ready)

-- that of which it was packed
packed_prints : (word : SetWord) (name text stream : List ℕ) (map : Held) → map name ≡ Some text
    → HasText (Some map) (packs (Some map) word name) (done stream (Some map) 0) → PrintsText word map stream text
packed_prints word name text stream map under has =
    let parts = next_gives (named_parts (Some map) word name) packed_parts stream (text_gives _ _ stream has) in
    let t = next_gives (fetched_set (Some map) word) (with_values (Some map) name) parts.0 parts.1 in
    let values = next_gives (fetched longest_file (Some map) name) (λ v. next (set_in t.0) (λ set. Gives (record { set = set; values = v }))) parts.0 t.2 in
    let set = next_gives (set_in t.0) (λ set. Gives (record { set = set; values = values.0 })) parts.0 values.2 in
    let of : record { set = set.0; values = values.0 } ≡ parts.0 = cc in
    let same : values.0 ≡ text = under_gives _ text values.0 _ (subst (λ o. text_under longest_file name o ≡ Gives values.0) under values.1) in
    let there : word_set (Some map) word ≡ Gives set.0 = ap (λ s. next s set_in) t.1 ∙ set.1 in
    let read = packed_gives set.0 stream (values_read set.0 text)
    (subst (λ v. packed_by set.0 (values_read set.0 v) ≡ Gives stream) same (subst (λ p. packed_parts p ≡ Gives stream) (sym of) parts.2)) in
    subst (λ s. PrintsText word map s text) read.3 (read_prints word set.0 read.0 read.1 text map there read.2)

pub pack_then_show : PackThenShowLaw
pack_then_show word name text stream input map under has = (packed_prints word name text stream map under has).0

pub pack_then_analyze : PackThenAnalyzeLaw
pack_then_analyze word name text stream input map under has = (packed_prints word name text stream map under has).1

-- ---- What `save` writes, `show` and `analyze` print alike.

-- boards of a kind, which are sound at power on and remain so, after a script
module _ {S : Type 0} (f : Family S) {IsSound : S → Type 0} {AreTold : List (List ℤ) → Type 0} (stands : Stands f IsSound AreTold)
    (begins : (number : ℕ) → IsNumber f number → IsSound (f.power_on number))
    (stays : (events : List Event) (m : S) → AreEvents events → IsSound m → IsSound (after_events f events m))
    (held : Option Held) (word : SetWord) (number set : ℕ) (there : word_set held word ≡ Gives (f.set set)) (is : IsNumber f number)
    (may : ReachesSet f.newest number set) where
  own_stream : (m : S) → saved_stream f set m ≡ described_stream (f.set set) (Some (f.machine (f.number m))) (images_saved f set m)
  unfolding saved_stream
  own_stream m = refl

  sound_prints : (m : S) → IsSound m → f.number m ≡ number → PrintsAlike word (saved_stream f set m) held
  sound_prints m sound same =
      let reaches : ReachesSet f.newest (f.number m) set = rw same may in
      let named : is_one_of (f.set set).machines (f.machine (f.number m)) ≡ true =
      is_among (f.set set).machines (f.number m - 1) (f.machine (f.number m))
      (stands.named (f.number m) set (stands.numbered m sound).first reaches.level_le_set reaches.set_le_newest) in
      rw (own_stream m)
      (written_prints held word (f.set set) there (Some (f.machine (f.number m))) (images_saved f set m) named (stands.ready set m sound reaches))

  lines_print : (lines : List ScriptLine) → AreEvents (events_of lines)
      → PrintsAlike word (saved_stream f set (after_events f (events_of lines) (f.power_on number))) held
  lines_print lines are =
      let events = events_of lines in
      sound_prints _ (stays events (f.power_on number) are (begins number is)) (after_number f stands.stays events _ ∙ stands.begun number)

  saved_prints : (script stream : List ℕ) → HasText held (saved_after f number set held script) (done stream held 0) → PrintsAlike word stream held
  saved_prints script stream has =
      let of : List ScriptLine → Step (List ℕ) = λ lines. Gives (saved_stream f set (after_events f (events_of lines) (f.power_on number))) in
      let g = next_gives (scripted None held script) of stream (text_gives held _ stream has) in
      let is : saved_stream f set (after_events f (events_of g.0) (f.power_on number)) ≡ stream = cc in
      rw (← is) (lines_print g.0 (lines_are_events None g.0 (rw (g.1) at (scripted_lines None held script))))

pub save_then_analyze : SaveThenAnalyzeLaw
save_then_analyze words (BoardOf kind number) set script stream input held asked has =
    let can = subst CanBeAsked asked (words_ask words) in
    let of = numbers_of kind in
    saved_prints _ (stands_of kind) (sound_of kind).power_on (sound_of kind).events held _ number set
    (ap Gives (of.set set)) (rw of.newest at can.0) (rw of.newest at can.1) script stream has

-- ---- What follows where `counter` names a state.

prints_so : (old new : SetWord) (sets : Both Set) (held : Option Held) (m : Mismatch) (machine : Option (List ℕ)) (images : List Image) (r : Refusal)
    → named_sets held old new ≡ Gives sets → Counters sets.old sets.new (State m machine images r) → Prints old new sets held m machine images r
prints_so old new sets held m machine images r gives c = λ input.
    rw gives (Answers (State m machine images r) c)

refused_so : (new : SetWord) (set : Set) (held : Option Held) (r : Refusal) (size : ℕ) (bytes : List ℕ) → word_set held new ≡ Gives set
    → Fault set set.machines bytes r.place r.section r.reason size → RefusesSo new set held r size bytes
refused_so new set held r size bytes gives fault = rw gives (Refuses r.place r.section r.reason size fault)

-- the description is after everything else
described_behind : (set : Set) (machine : Option (List ℕ)) (images : List Image)
    → written set machine images None ++ trailer (described_text set images) ≡ described_stream set machine images
described_behind set machine images =
    ap (λ l. l ++ trailer (described_text set images))
    (append-nil (stream_head ++ optional configuration machine ++ written_sections set 0 set.devices images ++ end_mark))

-- the machine that a state's stream names is one of the older set
machine_stands : (old new : Set) (m : Mismatch) (machine : Option (List ℕ)) (images : List Image) (r : Refusal) → Counters old new (State m machine images r)
    → IsMachineOf old machine
machine_stands old new m _ images r (Finds _ _ _ size first is fault) = machine_of_set old _ (machine_known old new m)

pub state_stands : StateLaw
state_stands old new sets held m machine images r gives c =
    let words = named_both sets held old new gives in
    let named = named_holds sets.old sets.new m machine images r c in
    let reads = printed_holds sets.old machine images (subst FitStep words.0 (fit_word held old)) (machine_stands _ _ m _ images r c) named.ready in
    let stream = described_stream sets.old machine images in
    record {
      prints = prints_so old new sets held m _ images r gives c;
      size = named.size;
      ready = named.ready;
      refused = refused_so new _ held r _ _ words.1 named.fault;
      packed = λ map name input is under short.
          let text = values_text sets.old machine images in
          let there : word_set (Some map) old ≡ Gives sets.old = rw (sym is) (words.0) in
          let gives : packs (Some map) old name ≡ Gives stream =
          pack_gives (Some map) old name sets.old text stream there (fetched_gives longest_file map name text under short) (ap (packed_by sets.old) reads) in
          rw is (rw gives refl);
      packed_refused = λ whole.
          refused_so new _ held r _ stream words.1
          (rw (described_behind _ _ images) at (further_holds sets.new sets.new.machines (written sets.old machine images None)
          (trailer (described_text sets.old images)) r.place r.section r.reason named.size whole named.fault));
    }

pub always_named : AlwaysNamedLaw
always_named old new sets held m gives first kind ready =
    let words = named_both sets held old new gives in
    let fit : IsFit sets.old = subst FitStep words.0 (fit_word held old) in
    let fit' : IsFit sets.new = subst FitStep words.1 (fit_word held new) in
    let found = always_holds sets.old sets.new fit.well fit'.well fit.heads fit'.heads m first kind ready in
    (found.0, prints_so old new sets held m _ _ _ gives found.1)
