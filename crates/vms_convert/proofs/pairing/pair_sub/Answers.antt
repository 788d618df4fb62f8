use Rattle.vms_convert.proofs.Facade.{◌≡◌, ◌<◌, List, length, map, Some, ap, ◌∙◌, sym, arith, ◌++◌, ℕ, Option, length-map, on_ok_weaker}
use Rattle.vms_convert.proofs.Facade.{find_sub, Desc, Sub, sub_of, described, device_at, few_subs, sub_in, desc_on}
use Rattle.vms_convert.proofs.PartnerSteps.{room_sub, sub_pairs}
use Rattle.vms_convert.proofs.pairing.pair_sub.Goals.{After-as_slice, After-find_sub, In-Some}
use Rattle.vms_convert.proofs.pairing.pair_sub.Goals as goal

subs_are : (c : After-as_slice) → map sub_of c.as_slice.result.now ≡ (device_at (described c.args.new.now) c.args.in_new).subs
subs_are c = ap (λ l. map sub_of l) c.as_slice.ensures ∙ ap (λ d. d.subs) c.device.ensures

found : (c : After-find_sub) → c.find_sub.result ≡ find_sub 0 (device_at (described c.args.new.now) c.args.in_new).subs c.as_bytes-name.result.now
found c =
    c.find_sub.ensures ∙ ap (λ (l : List Sub). find_sub 0 l c.as_bytes-name.result.now)
    (ap (λ l. map sub_of l) c.as_slice.ensures ∙ ap (λ d. d.subs) c.device.ensures)

-- the subsection that was found
inside : (c : In-Some) → c.in-Some.found < length (device_at (described c.args.new.now) c.args.in_new).subs
inside c =
    sub_in ((device_at (described c.args.new.now) c.args.in_new).subs) c.as_bytes-name.result.now c.find_sub.result c.in-Some.found
    (c.find_sub.ensures ∙ ap (λ (l : List Sub). find_sub 0 l c.as_bytes-name.result.now)
    (ap (λ l. map sub_of l) c.as_slice.ensures ∙ ap (λ d. d.subs) c.device.ensures)) c.in-Some.is

pub find_sub-requires : goal.find_sub-requires
find_sub-requires c =
    omega (
      arith,
      length-map c.as_slice.result.now sub_of,
      ap length (subs_are (goal.at.find_sub-requires c).After-as_slice),
      few_subs (described c.args.new.now) c.args.new.now.well_formed c.args.in_new c.requires.new,
    )

pub first_cell-requires : goal.first_cell-requires
first_cell-requires c = (c.requires.new, inside (goal.at.first_cell-requires c).In-Some)

pub pair_descs-requires : goal.pair_descs-requires
pair_descs-requires c =
    let inside = inside (goal.at.pair_descs-requires c).In-Some in
    record {
      old = c.requires.older;
      new = (c.requires.new, inside);
      few = c.requires.few;
      room = omega (arith, room_sub c.args.new c.args.in_new c.in-Some.found inside);
    }

pub returns-in-Some : goal.returns-in-Some
returns-in-Some c =
    let new = described c.args.new.now in
    let name = c.as_bytes-name.result.now in
    let lt = inside (goal.at.returns-in-Some c).In-Some in
    let named : name ≡ (desc_on c.args.older).name = c.as_bytes-name.ensures ∙ ap (λ (d : Desc). d.name) c.desc.ensures in
    let is : find_sub 0 (device_at new c.args.in_new).subs (desc_on c.args.older).name ≡ Some c.in-Some.found =
    ap (λ n. find_sub 0 (device_at new c.args.in_new).subs n) (sym named) ∙ sym (found (goal.at.returns-in-Some c).After-find_sub) ∙ c.in-Some.is in
    let pairs = sub_pairs c.args.older c.args.new c.args.in_new c.in-Some.found c.first_cell.result c.requires.version lt is c.first_cell.ensures in
    on_ok_weaker c.pair_descs.result (λ e. e ∙ ap (λ (l : List (Option ℕ)). c.args.partners.now.items ++ l) pairs) c.pair_descs.ensures
