use Rattle.vms_json.proofs.Facade.{◌≡◌, ◌-◌, ◌<◌, length, slice_set, ◌∙◌, arith, length-set, Row, AreBelow}
use Rattle.vms_json.proofs.{DueLaws.below_front, DueLaws.IsTold, DueLaws.ended, LaidLaws.list_laid, LaidLaws.object_laid}
use Rattle.vms_json.proofs.parse.Laid.end.Goals.{then-self, else-self, In-Some, After-len, After-is_in_list-self}
use Rattle.vms_json.proofs.parse.Laid.end.Goals as goal

-- the remaining open ones begin below the innermost, which begins below the end
below : (c : goal.In-Some) → AreBelow c.pop.new.self.items (length c.args.self.now.rows.items) × (c.in-Some.at < length c.args.self.now.rows.items)
below c = below_front _ _ _ (rw c.in-Some.ensures.items at c.requires)

within : (c : goal.In-Some) (r : Row) → AreBelow c.pop.new.self.items (length (slice_set c.args.self.now.rows.items c.in-Some.at r))
within c r = rw (length-set c.args.self.now.rows.items c.in-Some.at r) (below c).0

own : (c : goal.After-len) → c.len.result - c.in-Some.at ≡ length c.args.self.now.rows.items - c.in-Some.at
own c = rw (c.len.ensures ∙ c.args.self.now.rows.ok.0)

told : (c : goal.After-is_in_list-self)
    → IsTold (slice_set c.args.self.now.rows.items c.in-Some.at c.if-self.row) c.pop.new.self.items c.is_in_list-self.result
told c = record { none = c.is_in_list-self.ensures.none; some = c.is_in_list-self.ensures.some }

pub overflow_sub-count : goal.overflow_sub-count
overflow_sub-count c = omega (arith, (below (goal.at.overflow_sub-count c).In-Some).1)

pub index_mut-requires : goal.index_mut-requires
index_mut-requires c = omega (arith, (below (goal.at.index_mut-requires c).In-Some).1)

pub is_in_list-self-requires : goal.is_in_list-self-requires
is_in_list-self-requires c = within (goal.at.is_in_list-self-requires c).In-Some c.if-self.row

pub returns-clause-within : goal.returns-clause-within
returns-clause-within c = within (goal.at.returns-clause-within c).In-Some c.if-self.row

pub returns-clause-list : goal.returns-clause-list
returns-clause-list c fs done laid inner = elim c.if-self.branch [
  | then-self w ↦
      let at = goal.at.returns-clause-list c in
      ended _ (λ own are. list_laid own done are) laid c.in-Some.ensures.items (own at.After-len) (rw w.row-is) (told at.After-is_in_list-self)
  | else-self w ↦ absurd (cc)
]

pub returns-clause-object : goal.returns-clause-object
returns-clause-object c fs found laid inner = elim c.if-self.branch [
  | then-self w ↦ absurd (cc)
  | else-self w ↦
      let at = goal.at.returns-clause-object c in
      ended _ (λ own are. object_laid own found are) laid c.in-Some.ensures.items (own at.After-len) (rw w.row-is) (told at.After-is_in_list-self)
]
