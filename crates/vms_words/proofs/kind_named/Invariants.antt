use Rattle.std.proofs.Common.{◌≡◌, drop}
use Rattle.vms_words.specs.Words.{kind_named}
use Rattle.vms_words.proofs.WordLaws.{named_in}
use Rattle.vms_words.proofs.kind_named.Given as goal

abbrev pub invariant-loop-kind : goal.invariant-loop-kind
invariant-loop-kind l = kind_named l.word ≡ named_in l.word (drop l.kind-index l.kind-items)
