use Rattle.std.specs.{Prelude.◌≡◌, Prelude.◌-◌, Prelude.suc, Prelude.drop, Option.option_map}
use Rattle.vms_commands.specs.Kinds.{first_kind, first_set, kinds, newest_of, set_front}
use Rattle.vms_commands.specs.SetWords.{SetOf, number_after, shipped_word}
use Rattle.vms_commands.proofs.words.shipped_set.Given as goal

abbrev pub invariant-loop-kind : goal.invariant-loop-kind
invariant-loop-kind l =
    first_kind (λ kind. option_map (SetOf kind) (number_after (set_front kind) (first_set kind) (suc (newest_of kind) - first_set kind) l.word))
    (drop l.kind-index kinds) ≡ shipped_word l.word
