use Rattle.std.proofs.Common.{rules}
use Rattle.vms_rules.proofs.{NameLaws.names_so_far, structs.check_structs.Goals.After-index-structs-number}
use Rattle.vms_rules.proofs.Facade.{◌≡◌, None, map, arith, no_desc, struct_fault, desc_of, get_map_at, has_name, desc_at, ap, drop_is}
use Rattle.vms_rules.proofs.WalkLaws.{depths_long, depth_at, stops_by, goes_on, stops_here}
use Rattle.vms_rules.proofs.structs.check_structs.Goals as goal

pub index-requires : goal.index-requires
index-requires c = omega (arith, depths_long c.args.structs.now c.in_ok-depths.depths.items c.in_ok-depths.ensures)

pub struct_rules-rules-requires-clause-depth : goal.struct_rules-rules-requires-clause-depth
struct_rules-rules-requires-clause-depth c =
    depth_at c.args.structs.now c.in_ok-depths.depths.items c.loop-number.number c.index.result.now c.loop-number-test.true c.in_ok-depths.ensures c.index.ensures

desc_is : (c : After-index-structs-number) → desc_at (map desc_of c.args.structs.now) c.loop-number.number ≡ desc_of c.index-structs-number.result
desc_is c = get_map_at desc_of c.args.structs.now c.loop-number.number c.index-structs-number.result no_desc c.loop-number-test.true c.index-structs-number.is

pub returns-in_err-check_struct : goal.returns-in_err-check_struct
returns-in_err-check_struct c = search (rules, desc_is, stops_by, stops_here, drop_is)

pub loop-number-preserved : goal.loop-number-preserved
loop-number-preserved c =
    let structs = c.args.structs.now in
    let fault = struct_fault (map desc_of structs) in
    let d = c.index-structs-number.result in
    let here = desc_is (goal.at.loop-number-preserved c).After-index-structs-number in
    let good : fault c.loop-number.number (desc_of d) ≡ None = cc (here, c.in_ok-check_struct.ensures) in
    record {
      names = names_so_far desc_of (λ e. e.name) structs c.loop-number.number d (has_name c.loop-number.names) (has_name c.add_name.new.names)
          c.loop-number-test.true c.index-structs-number.is c.loop-number.invariant.names (rw c.as_str.ensures at c.in_ok-is_new.ensures.added);
      good = goes_on fault _ _ _ _ _ (ap (map desc_of) (drop_is structs _ _ c.loop-number-test.true c.index-structs-number.is)) c.loop-number.invariant.good good;
    }
