use Rattle.vms_analyze.proofs.Facade.{◌≡◌, ℕ, List, [], ◌∷◌, ap, ◌∙◌, subst, sub_head, Bytes, Goes, WhyStopped}
use Rattle.vms_analyze.proofs.Walks.{goes_then, line_goes, why_before}
use Rattle.vms_analyze.proofs.walk.Walk.sent_head.Goals as goal

pub returns-in-Err : goal.returns-in-Err
returns-in-Err c =
    let same : c.as_slice.result.now ≡ (sub_head c.args.name.now c.args.version) =
    c.as_slice.ensures.value ∙ c.sub_head-head.ensures ∙ ap (λ (n : List ℕ). sub_head n c.args.version) c.as_bytes.ensures.value in
    why_before _ _ _ _ _ (subst (λ l. WhyStopped (Bytes l ∷ []) c.args.self.now c.bytes.new.self c.in-Err.stop) same c.in-Err.ensures)

pub returns : goal.returns
returns c =
    let head = sub_head c.args.name.now c.args.version in
    let same : c.as_slice.result.now ≡ head =
    c.as_slice.ensures.value ∙ c.sub_head-head.ensures ∙ ap (λ (n : List ℕ). sub_head n c.args.version) c.as_bytes.ensures.value in
    let went : Goes (Bytes head ∷ []) c.args.self.now c.bytes.new.self =
    subst (λ l. Goes (Bytes l ∷ []) c.args.self.now c.bytes.new.self) same c.in_default.ensures in
    goes_then went (line_goes _ _ _ went.inside c.in_ok-print_sent.ensures.ok)
