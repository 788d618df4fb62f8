use Rattle.std.proofs.{lemmas.Str.is_utf8-from_IsUtf8, lemmas.List.map_more, lemmas.List.Folds.list_all_at}
use Rattle.std.proofs.Common.{◌∙◌, ap, sym, Bool, List, ℕ, [], ◌∷◌, ◌++◌, map, take}
use Rattle.std.specs.{Str.is_utf8}
use Rattle.vmstate_c.proofs.StoredFiles.{all-more, not_utf8}
use Rattle.vmstate_c.specs.declared.request.Bytes.{Bytes}
use Rattle.vmstate_c.proofs.call.words_of.Goals as goal

abbrev text : Bytes → List ℕ
text word = word.bytes.now

abbrev good : Bytes → Bool
good word = is_utf8 word.bytes.now

pub returns-in-Err : goal.returns-in-Err
returns-in-Err c =
    let bad = list_all_at good c.args.asked.now c.loop-word.word-index _ c.loop-word-test.true (not_utf8 _ c.in-Err.ensures.cases.0) in
    rw bad c.empty_word.ensures

pub loop-word-preserved : goal.loop-word-preserved
loop-word-preserved c =
    let i = c.loop-word.word-index in
    let words = c.args.asked.now in
    let one = is_utf8-from_IsUtf8 _ c.in-Ok.ensures.cases.1 in
    record {
      words =
          c.in_ok-push-in-Ok.ensures.ok ∙ ap (λ (ws : List (List ℕ)). ws ++ c.in-Ok.word.now ∷ []) c.loop-word.invariant.words
          ∙ ap (λ (w : List ℕ). map text (take i words) ++ w ∷ []) c.in-Ok.ensures.cases.0 ∙ sym (map_more text words i _ c.loop-word-test.true);
      good = all-more good words i _ c.loop-word-test.true c.loop-word.invariant.good one;
    }
