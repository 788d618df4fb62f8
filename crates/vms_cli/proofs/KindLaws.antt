-- The kinds of boards, their sets and their words.
use Rattle.std.proofs.Common.{◌≡◌, ℕ, suc, ◌+◌, ◌-◌, ◌≤◌, List, ℤ, refl, arith}
use Rattle.dev_board.proofs.SoundLaws.{sound_stays_on}
use Rattle.dev_board.specs.{Laws.AreEvents, Sound.Alike, declared.event.Event.Event}
use Rattle.dev_clock.proofs.StepLaws.{sound_stays_on as clock_stays_on}
use Rattle.dev_clock.specs.Sound.{Alike as AlikeClocks}
use Rattle.vms_board.specs.{Clock.AreTold as AreToldClocks, ClockStands.clock_stands, Family.IsNumber, Family.Stands, Isa.AreTold, IsaStands.isa_stands}
use Rattle.vms_board_streams.proofs.BoardStreams.{clock_laws, isa_laws}
use Rattle.vms_board_streams.specs.Streams.{BoardsGoOn, after_events}
use Rattle.vms_commands.specs.Kinds.{first_set, newest_of, set_of}
use Rattle.vms_commands.specs.declared.kinds.BoardKind.{BoardKind, TheVariants.Isa, TheVariants.Clock}
use Rattle.std.proofs.lemmas.Bool.{cond_both}
use Rattle.vms_cli.proofs.Facade.{verdict, ClockSetsLaw, Check, asked_of, of_both, pair_of, zero, ◌++◌, if◌then◌else◌, [], ◌∷◌, Option, Some}
use Rattle.vms_cli.proofs.Facade.{None, codes, ap, option_map, bytes_eq, decimal_digit, sets_are_compatible, done, SetOf, Shipped, first_kind, kinds, set_front}
use Rattle.vms_cli.proofs.Facade.{named_set, number_after, set_word, ◌<◌, Bool, IfSome, decimal, IsLevel, or_else, ShippedSet, SetWord, is_shelf_name}
use Rattle.vms_cli.proofs.Facade.{Asked, BoardWord, BoardOf, board_word, board_front, drill_of, isa_level, save_of, save_on, with_file, CanBeAsked, IsBoard}
use Rattle.vms_cli.specs.Kinds.{IsSoundOf, StateOf, family_of}

-- ---- the laws of the kinds of boards

-- the numbers of cells that a restore takes
abbrev pub AreToldOf : BoardKind → List (List ℤ) → Type 0
AreToldOf Isa = AreTold
AreToldOf Clock = AreToldClocks

-- two boards that no event tells apart
abbrev pub AlikeOf : (kind : BoardKind) → StateOf kind → StateOf kind → Type 0
AlikeOf Isa = Alike
AlikeOf Clock = AlikeClocks

-- a kind has the sets and the numbers of its family
pub record Numbers (kind : BoardKind) : Type 0 where
  pub newest : newest_of kind ≡ (family_of kind).newest
  pub set : (number : ℕ) → set_of kind number ≡ (family_of kind).set number
  -- the words of its sets have one digit
  pub few : first_set kind + (suc (newest_of kind) - first_set kind) ≤ 10

pub numbers_of : (kind : BoardKind) → Numbers kind
numbers_of Isa = record { newest = refl; set = λ number. refl; few = omega arith }
numbers_of Clock = record { newest = refl; set = λ number. refl; few = omega arith }

pub stands_of : (kind : BoardKind) → Stands (family_of kind) (IsSoundOf kind) (AreToldOf kind)
stands_of Isa = isa_stands
stands_of Clock = clock_stands

-- a restored board goes on as the saved one
pub goes_on_of : (kind : BoardKind) → BoardsGoOn (family_of kind) (AlikeOf kind) (IsSoundOf kind)
goes_on_of Isa = isa_laws.go_on
goes_on_of Clock = clock_laws.go_on

-- a board is sound at power on, and remains so
pub record StaysSound (kind : BoardKind) : Type 0 where
  pub power_on : (number : ℕ) → IsNumber (family_of kind) number → IsSoundOf kind ((family_of kind).power_on number)
  pub events : (events : List Event) (m : StateOf kind) → AreEvents events → IsSoundOf kind m → IsSoundOf kind (after_events (family_of kind) events m)

pub sound_of : (kind : BoardKind) → StaysSound kind
sound_of Isa = record { power_on = sound_stays_on.power_on; events = sound_stays_on.events }
sound_of Clock = record { power_on = clock_stays_on.power_on; events = clock_stays_on.events }

-- ---- `check @c1 @c2` accepts: numbers of one digit, whose words are computed

abbrev digit_after : List ℕ → (first count : ℕ) → List ℕ → Option ℕ
digit_after front first zero word = None
digit_after front first (suc count) word = if bytes_eq word (front ++ (48 + first) ∷ []) then Some first else digit_after front (suc first) count word

by_digits : (front : List ℕ) (first count : ℕ) (word : List ℕ) → first + count ≤ 10 → number_after front first count word ≡ digit_after front first count word
by_digits front first zero word le = refl
by_digits front first (suc count) word le = cc (decimal_digit first (omega arith), by_digits front (suc first) count word (omega arith))

-- the same for the sets of each kind
by_kinds : (word : List ℕ) (of : List BoardKind)
    → first_kind (λ kind. option_map (SetOf kind) (number_after (set_front kind) (first_set kind) (suc (newest_of kind) - first_set kind) word)) of
    ≡ first_kind (λ kind. option_map (SetOf kind) (digit_after (set_front kind) (first_set kind) (suc (newest_of kind) - first_set kind) word)) of
by_kinds word [] = refl
by_kinds word (kind ∷ of) = cc (by_digits _ _ _ word (numbers_of kind).few, by_kinds word of)

-- ---- the words of both sets

first : set_word (codes "@c1") ≡ Some (Shipped (SetOf Clock 1))
first = ap (named_set (codes "@c1")) (by_kinds (codes "@c1") kinds)

asks : asked_of (codes "check" ∷ codes "@c1" ∷ codes "@c2" ∷ []) ≡ Some (Check (Shipped (SetOf Clock 1)) (Shipped (SetOf Clock 2)))
unfolding pair_of
asks = rw first (ap (of_both Check (Some (Shipped (SetOf Clock 1)))) (ap (named_set (codes "@c2")) (by_kinds (codes "@c2") kinds)))

pub clock_sets_hold : ClockSetsLaw
clock_sets_hold input held = grind (arith, asks, verdict, done, sets_are_compatible)

-- ---- words name boards that there are

-- there is such a board
abbrev pub IsThere : Option BoardWord → Type 0
IsThere board = IfSome board IsBoard

-- a number that a word has is in its range
after-range : (front word : List ℕ) (first count n : ℕ) → number_after front first count word ≡ Some n → (first ≤ n) × (n < first + count)
after-range front word first zero n e = cc
after-range front word first (suc count) n e =
    cond_both (bytes_eq word (front ++ decimal first)) _ _ (λ (o : Option ℕ). o ≡ Some n → (first ≤ n) × (n < first + suc count))
    (λ t e. let same : first ≡ n = cc in (omega arith, omega arith))
    (λ t e. let r = after-range front word (suc first) count n e in (omega arith, omega arith)) e

named : (kind : BoardKind) (word : List ℕ) (o : Option ℕ) → number_after (board_front kind) 1 (newest_of kind) word ≡ o
    → IsThere (option_map (BoardOf kind) o)
named kind word None e = tt
named kind word (Some number) e = let r = after-range _ word 1 _ number e in record { first = r.0; last = omega arith }

either-there : (x y : Option BoardWord) → IsThere x → IsThere y → IsThere (or_else x y)
either-there x y p q = grind arith

among : (word : List ℕ) (of : List BoardKind)
    → IsThere (first_kind (λ kind. option_map (BoardOf kind) (number_after (board_front kind) 1 (newest_of kind) word)) of)
among word [] = tt
among word (kind ∷ of) = either-there _ _ (named kind word _ refl) (among word of)

pub word-board : (word : List ℕ) → IsThere (board_word word)
word-board word = among word kinds

-- one of isa-1 to isa-4 has a level
abbrev pub HasLevel : Option ℕ → Type 0
HasLevel level = IfSome level IsLevel

pub word-level : (word : List ℕ) → HasLevel (isa_level (board_word word))
word-level word = grind arith

-- ---- commands

pub either-asked : (b : Bool) (x y : Option Asked) → CanBeAsked x → CanBeAsked y → CanBeAsked (if b then x else y)
either-asked b x y p q = grind arith

-- of a word with others, where each of the commands can be asked
pub mapped-asked : {A : Type 0} (ask : A → Asked) (what : Option A) → ((a : A) → CanBeAsked (Some (ask a))) → CanBeAsked (option_map ask what)
mapped-asked ask None can = tt
mapped-asked ask (Some a) can = can a

pub both-asked : (ask : SetWord → SetWord → Asked) (old new : Option SetWord) → ((a b : SetWord) → CanBeAsked (Some (ask a b)))
    → CanBeAsked (of_both ask old new)
both-asked ask (Some old) (Some new) can = can old new
both-asked ask _ _ can = tt

pub file-asked : {A : Type 0} (ask : A → List ℕ → Asked) (what : Option A) (name : List ℕ) → IfSome what (λ a. CanBeAsked (Some (ask a name)))
    → CanBeAsked (with_file ask what name)
file-asked ask None name can = tt
file-asked ask (Some a) name can = either-asked (is_shelf_name name) (Some (ask a name)) None can tt

pub all-some : {A : Type 0} {P : A → Type 0} (what : Option A) → ((a : A) → P a) → IfSome what P
all-some None all = tt
all-some (Some a) all = all a

on-asked : (script : List ℕ) (board : Option BoardWord) (set : Option ShippedSet) → IsThere board → CanBeAsked (save_on script board set)
on-asked script (Some (BoardOf kind number)) (Some (SetOf of set)) is = grind arith
on-asked script _ _ is = tt

pub save-asked : (board : Option BoardWord) (set : Option ShippedSet) (script : List ℕ) → IsThere board → CanBeAsked (save_of board set script)
save-asked board set script is = either-asked (is_shelf_name script) (save_on script board set) None (on-asked script board set is) tt

pub drill-asked : (level seed count : Option ℕ) → HasLevel level → CanBeAsked (drill_of level seed count)
drill-asked level seed count is = grind arith
