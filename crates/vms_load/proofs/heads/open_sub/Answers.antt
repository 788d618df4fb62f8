use Rattle.vms_load.proofs.Facade.{get_or, rules, ◌≡◌, ◌<◌, sym, ap, ◌∙◌, arith, length, Option, Some, None, ℕ, List, map, length-map}
use Rattle.vms_load.proofs.Facade.{find_sub, sub_of, device_of, get_map_at, reason_against_sub, sub_opened, opened_unless, Reason}
use Rattle.vms_load.proofs.HeadLemmas.{unknown_sub, opens_sub, sub_below}
use Rattle.vms_load.proofs.heads.open_sub.Goals.{After-against_sub, In-Some}
use Rattle.vms_parts.specs.declared.types.Sub.{Sub as CodeSub}
use Rattle.vms_load.proofs.heads.open_sub.Goals as goal

below_subs : (subs : List CodeSub) (name : List ℕ) (j : ℕ) → find_sub 0 (map sub_of subs) name ≡ Some j → j < length subs
below_subs subs name j e = omega (arith, sub_below (map sub_of subs) name j e, length-map subs sub_of)

found : (c : goal.In-Some) → find_sub 0 (map sub_of c.args.device.now.subs) c.args.name.now.items ≡ Some c.in-Some.sub
found c = rw (c.find_sub.ensures, c.as_slice.ensures, c.deref.ensures.0) at c.in-Some.is

-- it is opened, or refused for the reason against it
judged : (c : goal.After-against_sub) → find_sub 0 (map sub_of c.args.device.now.subs) c.args.name.now.items ≡ Some c.in-Some.sub
    → (k : ℕ) (why : Option Reason) → c.against_sub.result ≡ why
    → opened_unless (Some k) c.in-Some.sub why ≡ sub_opened k (device_of c.args.device.now) c.args.image.now.came c.args.name.now.items c.args.version
judged c it k why is =
    let d = device_of c.args.device.now in
    let subs = c.args.device.now.subs in
    let j = c.in-Some.sub in
    let below = below_subs subs c.args.name.now.items j it in
    let here = get_map_at sub_of subs j c.index-as_slice-sub.result _ below (rw c.as_slice-2.ensures at c.index-as_slice-sub.is) in
    opens_sub k d c.args.image.now.came c.args.name.now.items c.args.version j why c.requires.long it
    (sym is ∙ c.against_sub.ensures ∙ rw c.came.ensures (ap (λ s. reason_against_sub s (get_or c.args.image.now.came j None) c.args.version) (sym here)))

pub bounds-as_slice-sub : goal.bounds-as_slice-sub
bounds-as_slice-sub c =
    let below = below_subs c.args.device.now.subs c.args.name.now.items c.in-Some.sub (found (goal.at.bounds-as_slice-sub c).In-Some) in
    omega (arith, ap length c.as_slice-2.ensures)

pub came-requires : goal.came-requires
came-requires c =
    let below = below_subs c.args.device.now.subs c.args.name.now.items c.in-Some.sub (found (goal.at.came-requires c).In-Some) in
    omega (arith, length-map c.args.device.now.subs sub_of)

pub returns-in-None-against_sub : goal.returns-in-None-against_sub
returns-in-None-against_sub c =
    let h = goal.at.returns-in-None-against_sub c in
    record { short = search rules; opened = λ k. judged h.After-against_sub (found h.In-Some) k None c.in-None-against_sub.is }

pub returns-in-Some-against_sub : goal.returns-in-Some-against_sub
returns-in-Some-against_sub c =
    let h = goal.at.returns-in-Some-against_sub c in
    record { short = search rules; opened = λ k. judged h.After-against_sub (found h.In-Some) k _ c.in-Some-against_sub.is }

pub returns-in-None : goal.returns-in-None
returns-in-None c = search (rules, unknown_sub)
