use Rattle.std.proofs.Common.{rules, ℕ}
use borrow.Author.Count.{below_more}
use Rattle.vms_kinds.specs.Codes.{InRange}
use Rattle.dev_base.specs.Cells.{cell_at, kind_at}
use Rattle.dev_base.proofs.cells.are_in_range.Goals as goal

pub loop-place-preserved : goal.loop-place-preserved
loop-place-preserved c =
    let here : InRange (kind_at c.args.kinds.now c.loop-place.place) (cell_at c.args.cells.now c.loop-place.place) = search rules in
    below_more (λ (place : ℕ). InRange (kind_at c.args.kinds.now place) (cell_at c.args.cells.now place)) c.loop-place.place c.loop-place.invariant here
