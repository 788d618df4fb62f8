-- What follows of a stream that `convert` writes.
use Rattle.vms_cli.proofs.{Entries.target_gives, Entries.target_is, StreamCommands.newest_fit, Facade.Restores, Facade.Loads, Facade.LoadsBy}
use Rattle.vms_cli.proofs.Facade.{target, Traces, Unfit, ScriptLine, ◌≡◌, ℕ, List, Option, Some, None, refl, sym, ap, ◌∙◌, subst, arith, []}
use Rattle.vms_cli.proofs.Facade.{append-nil, length, ◌-◌, Bool, true, false, ◌∷◌, IfSome, ℤ, if◌then◌else◌, length-map, bytes_eq-Decides}
use Rattle.vms_cli.proofs.Facade.{Held, IsFit, Image, Set, Takes, one_stream_holds, taken_kept, Compatible, IsStreamFor, word_set, Outcome, done, SetWord, Step}
use Rattle.vms_cli.proofs.Facade.{Gives, ConvertsBy, Rewrites, WouldLose, newest, Converts, described_text, AreRecastOf, converts_stand, ready, newest_kinds}
use Rattle.vms_cli.proofs.Facade.{PrintsAlike, ConvertAgainLaw, ConvertThenAnalyzeLaw, StandsFor, ConvertThenLoadLaw, IsLevel, NEWEST, State, recast_restores}
use Rattle.vms_cli.proofs.Facade.{recast_cells, IsConfiguration, is_one_of, recast_each, numbers_in, wants_arrays, lists_in, takes_under, isa, isa_stands, Back}
use Rattle.vms_cli.proofs.RoundTrips.{has_gives, done_apart, fits_text, machine_of_set, same_text, written_prints}
use Rattle.vms_cli.specs.{Commands.ConvertCommand.Refuses, Commands.ShowCommand.Values as Printed}
use Rattle.vms_convert.specs.Laws.{Converts as StaysSo}
use Rattle.vms_check.proofs.SelfLaws.{is_among}
use Rattle.vms_board.specs.Isa.{machine_of}
use Rattle.vms_board_commands.specs.Load.{Faulty as NotRead}

-- ---- What follows of a stream that `convert` writes.

module _ (input stream : List ℕ) (held : Option Held) (n : ℕ) where
  -- the stream is that of what the input takes
  record Written (to : Set) : Type 0 where
    fit : IsFit to
    compatible : Compatible to newest
    machine : Option (List ℕ)
    images : List Image
    takes : Takes newest newest.machines input n machine images
    is : IsStreamFor to newest machine images stream

  by_outcome : (to : Set) → IsFit to → Compatible to newest → (x : Outcome) → x ≡ done stream held n → Converts to input held x → Written to
  by_outcome to fit compatible x same (Rewrites taken machine images bytes takes is) = search arith
  by_outcome to fit compatible x same (WouldLose taken machine images section cell takes loses) = absurd (done_apart 11 _ stream held taken n (sym same))
  by_outcome to fit compatible x same (Refuses place section reason size fault) = absurd (done_apart 1 _ stream held _ n (sym same))

  by_word : (word : SetWord) → ConvertsBy (target held word) (Some input) held (done stream held n) → (to : Set) × (word_set held word ≡ Gives to) × Written to
  by_word word has =
      let g = has_gives (λ to x. Converts to input held x) (target held word) stream held n has in
      let is = target_is held word g.0 g.1 in
      (g.0, is.0, by_outcome g.0 is.1 is.2 _ refl g.2)

  -- ---- the laws of what is converted

  module _ (to : Set) (w : Written to) where
    kinds : AreRecastOf to newest w.images
    kinds = newest_kinds to newest refl _ (taken_kept newest newest.machines input n w.machine _ w.takes)

    stays : StaysSo to newest (described_text to) w.machine w.images stream
    stays = converts_stand to newest w.fit newest_fit.well w.compatible _ (λ backs. fits_text to w.fit backs) _ _ kinds stream w.is

    prints : (word : SetWord) → word_set held word ≡ Gives to → PrintsAlike word stream held
    prints word there =
        let all =
        ready to newest w.fit newest_fit.well w.compatible (described_text to) (λ backs. fits_text to w.fit backs) w.machine w.images kinds stream w.is in
        rw w.is.is (written_prints held word to there w.machine w.is.backs (machine_of_set to w.machine w.is.keeps.machine_is) all)

    stands_for : (word : SetWord) → word_set held word ≡ Gives to → StandsFor word input stream held n
    stands_for word there =
        let c = stays in
        let loads : Takes newest newest.machines stream (length stream) w.machine c.loaded = rw (append-nil stream) at (c.stream.taken [] (λ none. refl)) in
        record {
          to = to;
          there = there;
          machine = w.machine;
          images = w.images;
          takes = w.takes;
          loaded = c.loaded;
          loads = loads;
          cells = c.cells;
          shown = Printed (length stream) w.machine c.loaded loads;
          again = rw (target_gives held word to there w.compatible) (Rewrites (length stream) w.machine c.loaded stream loads c.again);
        }

pub convert_then_analyze : ConvertThenAnalyzeLaw
convert_then_analyze word input stream held n has =
    let w = by_word input stream held n word has in
    prints input stream held n w.0 w.2 word w.1

pub convert_again : ConvertAgainLaw
convert_again word input stream held n has =
    let w = by_word input stream held n word has in
    stands_for input stream held n w.0 w.2 word w.1

-- ---- Boards go on from what `convert` writes as from its input.

module _ (to : Set) (level : ℕ) where
  of_five : (a b c d e : List ℤ) → isa.restored level (recast_each to newest.devices (a ∷ b ∷ c ∷ d ∷ e ∷ [])) ≡ isa.restored level (a ∷ b ∷ c ∷ d ∷ e ∷ [])
  of_five a b c d e = go (wants_arrays to) where
    go : (w : Bool) → isa.restored level (a ∷ b ∷ c ∷ d ∷ (if w then recast_cells e else e) ∷ []) ≡ isa.restored level (a ∷ b ∷ c ∷ d ∷ e ∷ [])
    go true = rw (recast_restores _ e)
    go false = refl

  same_board : (lists : List (List ℤ)) → length lists ≡ 5 → isa.restored level (recast_each to newest.devices lists) ≡ isa.restored level lists
  same_board (a ∷ b ∷ c ∷ d ∷ e ∷ []) five = of_five a b c d e
  same_board _ five = absurd (omega arith)

-- ---- a stream whose machine is one of some names

-- the machines that a stream of this machine or none may name
named_in : (names : List (List ℕ)) (machine : Option (List ℕ)) (bytes : List ℕ) → IsConfiguration names machine bytes
    → IfSome machine (λ name. is_one_of names name ≡ true)
named_in names machine bytes c = grind arith

of_level : (level : ℕ) → IsLevel level → is_one_of newest.machines (machine_of level) ≡ true
of_level level is = is_among newest.machines (level - 1) (machine_of level) (isa_stands.named level NEWEST is.first is.last (omega arith))

known : (level : ℕ) → IsLevel level → (machine : Option (List ℕ)) → IfSome machine (λ name. is_one_of (machine_of level ∷ []) name ≡ true)
    → IfSome machine (λ name. is_one_of newest.machines name ≡ true)
known level is None h = tt
known level is (Some name) h = rw (← (bytes_eq-Decides (machine_of level) name).0 (grind arith)) (of_level level is)

-- ---- what is loaded

module _ (level : ℕ) (is : IsLevel level) (input stream : List ℕ) (held : Option Held) where
  abbrev alone : List (List ℕ)
  alone = machine_of level ∷ []

  restored_too : {word : _} {n : ℕ} → StandsFor word input stream held n → (board : State) (k : ℕ) → Restores isa level input (Back board k)
      → Restores isa level stream (Back board (length stream))
  restored_too s board k r =
      let images = r.0 in
      let machine = r.1.0 in
      let takes = r.1.1 in
      let named = named_in alone _ _ takes.stream.configured in
      let lifted = takes_under newest alone _ input k _ images (known level is _ named) takes in
      let one = one_stream_holds newest newest.machines newest_fit.well newest_fit.heads input k _ machine s.machine images s.images lifted s.takes in
      let loads = takes_under newest _ alone stream _ _ _ (rw one.machines at named) s.loads in
      let five = length-map images (λ (image : Image). image.numbers) ∙ (taken_kept newest newest.machines input k machine images lifted).one_each in
      let lists : lists_in s.loaded ≡ recast_each s.to newest.devices (lists_in images) =
      s.cells ∙ ap (λ l. recast_each s.to newest.devices (numbers_in l)) (sym one.states) in
      (s.loaded, (s.machine, loads), ap (isa.restored level) lists ∙ same_board s.to level (lists_in images) five ∙ r.2)

  traced_too : {word : _} {n : ℕ} → StandsFor word input stream held n → (lines : List ScriptLine) (trace : List ℕ) (k : ℕ) (x : Outcome)
      → x ≡ done trace held k → Loads isa level lines input held x → Loads isa level lines stream held (done trace held (length stream))
  traced_too s lines trace k _ same (Traces board taken r) =
      subst (λ t. Loads isa level lines stream held (done t held (length stream))) (same_text _ _ same)
      (Traces board (length stream) (restored_too s board taken r))
  traced_too s lines trace k _ same (NotRead place section reason size fault) = absurd (done_apart 1 _ trace held _ k (sym same))
  traced_too s lines trace k _ same (Unfit place section reason misfit) = absurd (done_apart 1 _ trace held _ k (sym same))

  by_script : {word : _} {n : ℕ} → StandsFor word input stream held n → (s : Step (List ScriptLine)) (trace : List ℕ) (k : ℕ)
      → LoadsBy isa level s (Some input) held (done trace held k) → LoadsBy isa level s (Some stream) held (done trace held (length stream))
  by_script stands s trace k has =
      let g = has_gives (λ lines x. Loads isa level lines input held x) s trace held k has in
      rw (g.1) (traced_too stands g.0 trace k _ refl g.2)

pub convert_then_load : ConvertThenLoadLaw
convert_then_load word level input stream script trace held n k is converted loaded =
    by_script level is input stream held (convert_again word input stream held n converted) _ trace k loaded
