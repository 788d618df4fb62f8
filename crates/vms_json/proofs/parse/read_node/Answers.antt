use Rattle.vms_json.proofs.{Facade.IsUnder, Facade.HasEnded, FrameLaws.said_by, FrameLaws.whole_due}
use Rattle.vms_json.proofs.DueLaws.{none_left, under_below, ended_below, item_ended}
use Rattle.vms_json.proofs.Facade.{◌≡◌, Bool, true, false, refl, arith, rules, MatchBool, MatchBool-at_true, MatchBool-at_false}
use Rattle.vms_json.proofs.parse.read_node.Goals.{else-is_value-via-then-is_value+else-not-laid, else-is_value-via-else-is_value, After-next, In_ok-is_value}
use Rattle.vms_json.proofs.parse.read_node.Goals as goal

still_false : {b : Bool} (P Q : Type 0) → b ≡ false → Q → MatchBool b P Q
still_false P Q e q = rw e q

-- in the loop a value is due, and its first token lays rows
under : (c : After-next) → IsUnder (said_by c.args.text.now) c.loop-is_done.laid c.loop-is_done.reader
under c = let going : c.loop-is_done.is_done ≡ false = search rules in MatchBool-at_false _ _ going c.loop-is_done.invariant

laid : (c : In_ok-is_value) → IsUnder (said_by c.args.text.now) c.loop-is_done.laid c.loop-is_done.reader
    → MatchBool c.in_ok-is_value.is_value (HasEnded (said_by c.args.text.now) c.lay.new.laid c.lay.new.reader)
    (IsUnder (said_by c.args.text.now) c.lay.new.laid c.lay.new.reader)
laid c due = grind arith

pub loop-is_done-init : goal.loop-is_done-init
loop-is_done-init c = whole_due _ _ _ (search rules) (search rules) (search rules) refl

pub returns-in_err-token-clause-err : goal.returns-in_err-token-clause-err
returns-in_err-token-clause-err c why = grind (arith, none_left)

pub lay-requires : goal.lay-requires
lay-requires c = under_below (under (goal.at.lay-requires c).After-next)

pub go_on-requires : goal.go_on-requires
go_on-requires c =
    let at = goal.at.go_on-requires c in
    let one : c.in_ok-is_value.is_value ≡ true = search rules in
    ended_below (MatchBool-at_true _ _ one (laid at.In_ok-is_value (under at.After-next)))

pub loop-is_done-preserved : goal.loop-is_done-preserved
loop-is_done-preserved c =
    let at = goal.at.loop-is_done-preserved c in
    let going : c.loop-is_done.is_done ≡ false = search rules in
    let said = laid at.In_ok-is_value (under at.After-next) in
    let next : IsUnder (said_by c.args.text.now) c.lay.new.laid c.lay.new.reader =
    elim c.else-is_value.branch [
      | else-is_value-via-then-is_value+else-not-laid w ↦
          let one : c.in_ok-is_value.is_value ≡ true = search rules in
          let inside : c.lay.new.laid.in_list ≡ true = search rules in
          item_ended (MatchBool-at_true _ _ one said) inside
      | else-is_value-via-else-is_value w ↦
          let none : c.in_ok-is_value.is_value ≡ false = search rules in
          MatchBool-at_false _ _ none said
    ] in
    still_false _ _ going next
