-- Arguments that name a set or a board. See docs/commands.md, "Arguments".
use Rattle.std.specs.Prelude.{ℕ, zero, suc, ◌++◌, ◌-◌, if◌then◌else◌, List, Option, Some, None}
use Rattle.std.specs.Fmt.{decimal}
use Rattle.std.specs.Option.{option_map}
use Rattle.std.specs.Str.{bytes_eq}
use Rattle.vms_script.specs.Names.{is_shelf_name}
use Rattle.vms_spec.specs.Sets.{Set}
use Rattle.vms_commands.specs.Kinds.{board_front, first_kind, first_set, kinds, newest_of, set_front, set_of}
use Rattle.vms_commands.specs.declared.kinds.BoardKind.{BoardKind}

-- A shipped set: that of a kind of boards, with a number.
pub data ShippedSet : Type 0 where
  SetOf : BoardKind → ℕ → ShippedSet

-- The set itself.
abbrev pub shipped : ShippedSet → Set
shipped (SetOf kind number) = set_of kind number

-- The set that an argument names: a shipped one, or a file of this name on the shelf.
pub data SetWord : Type 0 where
  Shipped : ShippedSet → SetWord
  OnShelf : List ℕ → SetWord

-- `number_after front first count word` is the number whose decimal text `word` has after `front`, among the
-- `count` numbers from `first`.
abbrev pub number_after : List ℕ → (first count : ℕ) → List ℕ → Option ℕ
number_after front first zero word = None
number_after front first (suc count) word = if bytes_eq word (front ++ decimal first) then Some first else number_after front (suc first) count word

-- The shipped set that a word names: what the sets of its kind have in front, as `@` or `@c`, and its number.
abbrev pub shipped_word : List ℕ → Option ShippedSet
shipped_word word =
    first_kind (λ kind. option_map (SetOf kind) (number_after (set_front kind) (first_set kind) (suc (newest_of kind) - first_set kind) word)) kinds

-- The set that a word names, given the shipped set that it names, if any.
abbrev pub named_set : List ℕ → Option ShippedSet → Option SetWord
named_set word (Some set) = Some (Shipped set)
named_set word None = if is_shelf_name word then Some (OnShelf word) else None

-- The set that a word names.
abbrev pub set_word : List ℕ → Option SetWord
set_word word = named_set word (shipped_word word)

-- A board: one of a kind, with a number.
pub data BoardWord : Type 0 where
  BoardOf : BoardKind → ℕ → BoardWord

-- The board that a word names: what the boards of its kind have in front, as `isa-`, and its number.
abbrev pub board_word : List ℕ → Option BoardWord
board_word word = first_kind (λ kind. option_map (BoardOf kind) (number_after (board_front kind) 1 (newest_of kind) word)) kinds
