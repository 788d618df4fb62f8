use Rattle.std.proofs.Common.{◌≡◌, true, map, take}
use Rattle.std.specs.{List.list_all, Str.is_utf8}
use Rattle.vmstate_c.proofs.call.words_of.Given as goal

abbrev pub invariant-loop-word : goal.invariant-loop-word
invariant-loop-word l = record {
  words : l.words ≡ map (λ word. word.bytes.now) (take l.word-index l.asked);
  good : list_all (λ word. is_utf8 word.bytes.now) (take l.word-index l.asked) ≡ true;
}
