use Rattle.std.proofs.Common.{◌≡◌, drop, map, string_bytes, ◌++◌}
use Rattle.std.specs.Vec.Iter.{into_iter_items}
use Rattle.vmstate.proofs.after_name.Given as goal

abbrev pub invariant-loop-word : goal.invariant-loop-word
invariant-loop-word l =
    l.words ++ map (λ word. string_bytes word) (into_iter_items l.word-iterator)
    ≡ map (λ word. string_bytes word) (drop 1 (into_iter_items l.fn.args))
