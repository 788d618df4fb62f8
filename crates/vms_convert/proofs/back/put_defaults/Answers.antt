use Rattle.vms_convert.proofs.Facade.{◌<◌, length, refl, arith, ◌∙◌, described, few_cells, sub_inside}
use Rattle.vms_convert.proofs.TakeLaws.{put_all, put_one, put_rest}
use Rattle.vms_convert.proofs.back.put_defaults.Goals as goal

pub overflow_add-end : goal.overflow_add-end
overflow_add-end c =
    let set = described c.args.set.now in
    omega (arith, sub_inside set c.args.device c.args.sub c.requires.sub, few_cells set c.args.set.now.well_formed c.args.device)

pub loop-cell-init : goal.loop-cell-init
loop-cell-init c = record { rest = refl; put = record { long = refl; inside = λ k low lt. absurd (omega arith); below = λ k lt. refl; above = λ k le. refl } }

pub put_default-requires : goal.put_default-requires
put_default-requires c =
    let rest = c.loop-cell.invariant.rest in
    record {
      device = c.requires.device;
      cell = omega (arith, sub_inside (described c.args.set.now) c.args.device c.args.sub c.requires.sub);
      of = record {
        subs = rw rest (c.requires.of.subs);
        cells = c.loop-cell.invariant.put.long ∙ c.requires.of.cells;
        kinds = rw rest (c.requires.of.kinds);
      };
    }

pub loop-cell-preserved : goal.loop-cell-preserved
loop-cell-preserved c =
    let set = described c.args.set.now in
    let h = c.loop-cell.invariant in
    let put = c.put_default.ensures in
    let lt : c.loop-cell.cell < length c.args.image.now.numbers = omega (arith, sub_inside set c.args.device c.args.sub c.requires.sub) in
    record {
      rest = put_rest c.args.image.now c.loop-cell.image c.put_default.new.image _ h.rest put;
      put = rw put (put_one set c.args.device c.first_cell-first.result c.args.image.now.numbers c.loop-cell.cell c.loop-cell.image.numbers h.put lt
          c.loop-cell.auto.cell);
    }

pub returns : goal.returns
returns c =
    let set = described c.args.set.now in
    let few = few_cells set c.args.set.now.well_formed c.args.device in
    record {
      puts = put_all set c.args.device c.args.sub c.first_cell-first.result c.loop-cell.cell c.args.image.now.numbers c.loop-cell.image.numbers
          c.first_cell-first.ensures (omega (arith, sub_inside set c.args.device c.args.sub c.requires.sub)) c.loop-cell.invariant.put;
      rest = c.loop-cell.invariant.rest;
    }
