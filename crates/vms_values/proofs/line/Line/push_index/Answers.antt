use Rattle.vms_values.proofs.Facade.{rules, ◌+◌, ◌++◌, ◌∷◌, [], sym, ◌∙◌, append_assoc, codes}
use Rattle.std.proofs.lemmas.Fmt.{decimal_digit}
use Rattle.vms_values.proofs.line.Line.push_index.Goals as goal

pub returns-then-index-lt10-clause-text : goal.returns-then-index-lt10-clause-text
returns-then-index-lt10-clause-text c =
    let line = c.args.self.now in
    let digit = 48 + c.args.index in
    let piece = append_assoc (line ++ codes "[") (digit ∷ []) (codes "]") ∙ append_assoc line (codes "[") (digit ∷ codes "]") in
    c.push.ensures ∙ (rw (decimal_digit c.args.index (search rules)) (sym piece))
