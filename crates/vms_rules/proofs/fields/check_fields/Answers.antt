use Rattle.std.proofs.Common.{rules}
use Rattle.vms_rules.proofs.{NameLaws.names_more, NameLaws.names_known, fields.check_fields.Goals.After-index-fields-number}
use Rattle.vms_rules.proofs.Facade.{◌≡◌, ◌<◌, None, length, get_or, ap, arith, field_of, desc_of, has_name, at_field, map, drop_is}
use Rattle.vms_rules.proofs.WalkLaws.{stops_by, goes_on, stops_here}
use Rattle.vms_rules.proofs.fields.check_fields.Goals as goal

pub returns-in_err-capacities : goal.returns-in_err-capacities
returns-in_err-capacities c = stops_by _ _ _ c.from_residual.ensures.1 tt

pub returns-in_err-differ : goal.returns-in_err-differ
returns-in_err-differ c = stops_by _ _ _ c.from_residual-in_err-differ.ensures.1 tt

pub returns-in_err-are_new : goal.returns-in_err-are_new
returns-in_err-are_new c = stops_by _ _ _ c.from_residual-in_err-are_new.ensures.1 tt

-- the field of this number
field_is : (c : After-index-fields-number)
    → let fields = c.args.desc.now.fields in
    (c.loop-number.number < length fields) × (c.index-fields-number.result ≡ get_or fields c.loop-number.number c.index-fields-number.result)
field_is c = (omega (arith, ap length c.as_slice-fields.ensures), cc (c.index-fields-number.is, c.as_slice-fields.ensures))

pub field_rules-rules-requires-clause-names : goal.field_rules-rules-requires-clause-names
field_rules-rules-requires-clause-names c =
    let of = field_is (goal.at.field_rules-rules-requires-clause-names c).After-index-fields-number in
    names_known c.args.desc.now.fields c.loop-number.number c.index-fields-number.result (has_name c.loop-number.names) c.in_ok-differ.differ
    c.in_ok-are_new.are_new of.0 of.1 (rw c.as_slice-fields.ensures at c.in_ok-differ.ensures) c.loop-number.invariant.names c.in_ok-are_new.ensures.new

pub returns-in_err-lowest : goal.returns-in_err-lowest
returns-in_err-lowest c = search (rules, field_is, stops_by, stops_here, drop_is)

pub loop-number-preserved : goal.loop-number-preserved
loop-number-preserved c =
    let fields = c.args.desc.now.fields in
    let f = c.index-fields-number.result in
    let i = c.loop-number.number in
    let at = at_field c.args.usable (desc_of c.args.desc.now) c.args.part in
    let of = field_is (goal.at.loop-number-preserved c).After-index-fields-number in
    let good : at i (field_of f) ≡ None = cc (c.field_rules-rules.ensures, c.in_ok-lowest.ensures) in
    record {
      names = λ e. names_more fields i f (has_name c.loop-number.names) (has_name c.are_new_names.new.names) of.0 of.1 (c.loop-number.invariant.names e)
          (c.in_ok-are_new.ensures.added e);
      good = goes_on at _ _ _ _ _ (ap (map field_of) (drop_is fields _ _ of.0 of.1)) c.loop-number.invariant.good good;
    }
