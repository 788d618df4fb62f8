use Rattle.vms_frames.proofs.Facade.{rules, arith, sym, refl, ◌∙◌, [], ◌∷◌, ◌++◌, ◌≡◌, ◌≤◌, ◌+◌, length, Ok, Err}
use Rattle.vms_frames.proofs.Facade.{LONGEST_TEXT, number_at, Description, AfterEnd, nothing_known}
use Rattle.vms_frames.proofs.HeadLemmas.{number_of_unit, description_there, text_begins, text_cut, text_above, text_whole}
use Rattle.vms_frames.proofs.ReadsUnits.{a_text, unit_behind, unit_passed, unit_refused, unit_short}
use Rattle.vms_frames.proofs.read.description.Goals as goal

pub returns-in_err-fill-clause-reads : goal.returns-in_err-fill-clause-reads
returns-in_err-fill-clause-reads g c =
    unit_short a_text {n = 4} (0x06 ∷ []) _ _ _ c.from_residual.ensures.1 (omega arith) c.in_err-fill.ensures.cut
    (λ rest lt. sym (description_there rest) ∙ text_begins AfterEnd nothing_known 0x06 LONGEST_TEXT Description (0x06 ∷ []) rest (omega arith))

pub returns-then-length-gt-LONGEST_TEXT-clause-reads : goal.returns-then-length-gt-LONGEST_TEXT-clause-reads
returns-then-length-gt-LONGEST_TEXT-clause-reads g c =
    let bytes = c.fill.new.buf in
    let unit = 0x06 ∷ bytes in
    let four : length bytes ≡ 4 = search rules in
    let long : length unit ≡ 5 = omega arith in
    unit_behind a_text (0x06 ∷ []) c.args.at (Err c.refused.result) refl c.in_ok-fill.ensures.came
    (unit_refused a_text unit c.refused.ensures (g.met.S.Source.counted c.fill.new.source) long (omega arith)
    (λ rest. sym (description_there (bytes ++ rest)) ∙ text_above AfterEnd nothing_known 0x06 LONGEST_TEXT Description unit rest long (search rules)))

pub returns-in_err-pass-clause-reads : goal.returns-in_err-pass-clause-reads
returns-in_err-pass-clause-reads g c =
    let bytes = c.fill.new.buf in
    let unit = 0x06 ∷ bytes in
    let n = c.read_u32-length.result in
    let four : length bytes ≡ 4 = search rules in
    let same : n ≡ number_at 4 1 unit = search rules in
    let low : n ≤ LONGEST_TEXT = search rules in
    unit_behind a_text (0x06 ∷ []) c.args.at _ refl c.in_ok-fill.ensures.came
    (unit_short a_text unit _ _ _ c.from_residual-in_err-pass.ensures.1 (omega arith) c.in_err-pass.ensures.cut
    (λ rest lt. sym (description_there (bytes ++ rest)) ∙ text_cut AfterEnd nothing_known 0x06 LONGEST_TEXT Description unit rest (omega arith) (omega arith)
    (omega arith)))

pub returns-clause-reads : goal.returns-clause-reads
returns-clause-reads g c =
    let bytes = c.fill.new.buf in
    let unit = 0x06 ∷ bytes in
    let n = c.read_u32-length.result in
    let four : length bytes ≡ 4 = search rules in
    let same : n ≡ number_at 4 1 unit = search rules in
    let low : n ≤ LONGEST_TEXT = search rules in
    unit_behind a_text (0x06 ∷ []) c.args.at (Ok (5 + n)) refl c.in_ok-fill.ensures.came
    (unit_passed a_text unit c.args.at (omega arith)
    (λ rest le.
    sym (description_there (bytes ++ rest))
    ∙ text_whole AfterEnd nothing_known 0x06 LONGEST_TEXT Description unit rest (omega arith) (omega arith) (omega arith)
    ∙ rw (same, number_of_unit 4 1 unit rest (omega arith))) c.in_ok-pass.ensures.passed)
