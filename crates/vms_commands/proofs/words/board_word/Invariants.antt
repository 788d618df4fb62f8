use Rattle.std.specs.{Prelude.◌≡◌, Prelude.drop, Option.option_map}
use Rattle.vms_commands.specs.{Kinds.board_front, Kinds.first_kind, Kinds.kinds, Kinds.newest_of, SetWords.BoardOf, SetWords.board_word, SetWords.number_after}
use Rattle.vms_commands.proofs.words.board_word.Given as goal

abbrev pub invariant-loop-kind : goal.invariant-loop-kind
invariant-loop-kind l =
    first_kind (λ kind. option_map (BoardOf kind) (number_after (board_front kind) 1 (newest_of kind) l.word)) (drop l.kind-index kinds) ≡ board_word l.word
