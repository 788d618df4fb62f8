use Rattle.vms_values.proofs.Facade
use Facade.{◌≡◌, ◌<◌, true, length, refl, sym, ◌∙◌, arith, own_slots, rules_are_true, described, device_at, state_of, read_of}
use Rattle.vms_values.proofs.JudgeLemmas.{judged_next, judged_end, own_holds}
use Rattle.vms_values.proofs.judge.judge_device.Goals.{After-sub_count-sub-end, In-loop-sub}
use Rattle.vms_values.proofs.judge.judge_device.Goals as goal

holds : (c : goal.After-sub_count-sub-end)
    → rules_are_true (own_slots (described c.args.set.now) (device_at (described c.args.set.now) c.args.device) (state_of c.args.image.now).version (state_of c.args.image.now).numbers) ≡ true
holds c = rw (sym c.version.ensures) (sym c.hold_rules.ensures ∙ c.if-not-hold_rules.false)

-- the next subsection is one of the device's, and has an entry
inside : (c : goal.In-loop-sub) → (let j = c.loop-sub.sub in (j < length (device_at (described c.args.set.now) c.args.device).subs) × (j < length (state_of c.args.image.now).came) × (j < length c.args.sub_lines.now))
inside c = ((omega arith), omega arith, omega arith)

pub returns-in-Some : goal.returns-in-Some
returns-in-Some c =
    let image = state_of c.args.image.now in
    let lines = c.args.sub_lines.now in
    let h = goal.at.returns-in-Some c in
    let i = inside h.In-loop-sub in
    sym (own_holds (described c.args.set.now) c.args.device (read_of image c.args.line lines) (holds h.After-sub_count-sub-end) ∙ sym c.loop-sub.invariant
    ∙ judged_next (described c.args.set.now) c.args.device image _ _ _ i.0 i.1 i.2 refl _ (sym c.in-Some.ensures))

pub loop-sub-preserved : goal.loop-sub-preserved
loop-sub-preserved c =
    let lines = c.args.sub_lines.now in
    let i = inside (goal.at.loop-sub-preserved c).In-loop-sub in
    sym (judged_next (described c.args.set.now) c.args.device (state_of c.args.image.now) _ _ _ i.0 i.1 i.2 refl _ (sym c.in_default.ensures)) ∙ c.loop-sub.invariant

pub returns : goal.returns
returns c =
    let set = described c.args.set.now in
    let image = state_of c.args.image.now in
    let lines = c.args.sub_lines.now in
    let end : length (device_at set c.args.device).subs ≡ c.loop-sub.sub = omega arith in
    sym (own_holds set c.args.device (read_of image c.args.line lines) (holds (goal.at.returns c).After-sub_count-sub-end) ∙ sym c.loop-sub.invariant ∙ judged_end set c.args.device image lines _ end)
