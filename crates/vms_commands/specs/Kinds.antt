-- The kinds of boards: the words that name their boards and sets, and their sets.
use Rattle.std.specs.Prelude.{ℕ, Bool, true, false, List, [], ◌∷◌, Option, None, codes}
use Rattle.dev_base.specs.declared.limits.TheConstants.{NEWEST}
use Rattle.vms_desc.specs.Formed.{shipped_set, clock_set}
use Rattle.vms_rtc.specs.declared.limits.TheConstants.{NEWEST_CLOCK}
use Rattle.vms_spec.specs.Lists.{or_else}
use Rattle.vms_spec.specs.Sets.{Set}
use Rattle.vms_commands.specs.declared.kinds.BoardKind.{BoardKind}
use Rattle.vms_commands.specs.declared.kinds.BoardKind.TheVariants.{Isa, Clock}

-- The kinds.
abbrev pub kinds : List BoardKind
kinds = Isa ∷ Clock ∷ []

-- Whether two kinds are the same.
abbrev pub same_kind : BoardKind → BoardKind → Bool
same_kind Isa Isa = true
same_kind Clock Clock = true
same_kind _ _ = false

-- The number of the newest set, which is also the highest number of a board.
abbrev pub newest_of : BoardKind → ℕ
newest_of Isa = NEWEST
newest_of Clock = NEWEST_CLOCK

-- The number of the first set. The boards of each kind begin with 1.
abbrev pub first_set : BoardKind → ℕ
first_set Isa = 0
first_set Clock = 1

-- What the word of a set has in front of its number.
abbrev pub set_front : BoardKind → List ℕ
set_front Isa = codes "@"
set_front Clock = codes "@c"

-- What the name of a board has in front of its number.
abbrev pub board_front : BoardKind → List ℕ
board_front Isa = codes "isa-"
board_front Clock = codes "clk-"

-- The set with a number.
abbrev pub set_of : BoardKind → ℕ → Set
set_of Isa number = shipped_set number
set_of Clock number = clock_set number

-- The first of the answers for the kinds of a list.
abbrev pub first_kind : {X : Type 0} → (BoardKind → Option X) → List BoardKind → Option X
first_kind f [] = None
first_kind f (kind ∷ rest) = or_else (f kind) (first_kind f rest)
