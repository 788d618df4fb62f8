use Rattle.vms_script.proofs.ScriptLemmas.{NotBefore}
use Rattle.vms_script.proofs.split.split_word.Given as goal

-- no space is before this offset
abbrev pub invariant-loop-place : goal.invariant-loop-place
invariant-loop-place l = NotBefore 32 l.line l.place
