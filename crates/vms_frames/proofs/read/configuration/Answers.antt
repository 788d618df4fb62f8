use Rattle.vms_frames.proofs.Facade.{rules, arith, ap, ◌∙◌, ◌≡◌, ◌+◌, ◌≤◌, true, false, length, drop, length-drop, Ok, Err, Result}
use Rattle.vms_frames.proofs.Facade.{FrameFault, length-take-le, LONGEST_NAME, number_at, bytes_at, configuration_in, nothing_known, configuration_seen}
use Rattle.vms_frames.proofs.HeadLemmas.{bytes_of_unit, text_begins, text_cut, text_above, text_whole}
use Rattle.vms_frames.proofs.ReadsUnits.{a_step, unit_on, unit_whole, unit_refused, unit_short}
use Rattle.vms_frames.specs.declared.units.Step.{Step, TheVariants.Configuration}
use Rattle.vms_spec.specs.Units.{Configuration as AUnit}
use Rattle.vms_stream.specs.Dues.{Between as IsBetween}
use Rattle.vms_frames.proofs.read.configuration.Goals as goal

pub returns-in_err-grow-2 : goal.returns-in_err-grow-2
returns-in_err-grow-2 g c =
    let one = c.in_ok-grow.ensures.grown in
    let unit = c.grow.new.unit.items in
    let same : c.name_length-length.result ≡ number_at 4 1 unit = search rules in
    let low : c.name_length-length.result ≤ LONGEST_NAME = search rules in
    record {
      reads =
          unit_on (a_step configuration_seen) c.args.at _ one
          (unit_short (a_step configuration_seen) _ _ _ _ c.from_residual-in_err-grow-2.ensures.1 (omega arith) c.in_err-grow-2.ensures.cut
          (λ rest lt. text_cut (IsBetween true false) nothing_known 0x07 LONGEST_NAME AUnit unit rest (omega arith) (omega arith) (omega arith)));
    }

pub returns-then-length-gt-LONGEST_NAME : goal.returns-then-length-gt-LONGEST_NAME
returns-then-length-gt-LONGEST_NAME g c =
    let one = c.in_ok-grow.ensures.grown in
    let unit = c.grow.new.unit.items in
    let long : length unit ≡ 5 = omega arith in
    record {
      reads =
          unit_on (a_step configuration_seen) c.args.at (Err c.refused.result) one
          (unit_refused (a_step configuration_seen) unit c.refused.ensures (g.met.S.Source.counted c.grow.new.source) long (omega arith)
          (λ rest. text_above (IsBetween true false) nothing_known 0x07 LONGEST_NAME AUnit unit rest long (search rules)));
    }

pub returns : goal.returns
returns g c =
    let one = c.in_ok-grow.ensures.grown in
    let two = c.in_ok-grow-2.ensures.grown in
    let unit = c.grow-2.new.unit.items in
    let n = c.name_length-length.result in
    let name = c.of.result.machine in
    let result : Result Step FrameFault = Ok (Configuration name) in
    let same : n ≡ number_at 4 1 unit = search rules in
    let low : n ≤ LONGEST_NAME = search rules in
    let long : length unit ≡ 5 + n = omega arith in
    let named : name.items ≡ bytes_at (number_at 4 1 unit) 5 unit = rw (c.of.ensures ∙ ap configuration_in c.deref-2.ensures.0) in
    let few : length name.items ≡ number_at 4 1 unit = rw named (length-take-le (number_at 4 1 unit) (drop 5 unit) (omega (arith, length-drop 5 unit))) in
    record {
      reads =
          unit_on (a_step configuration_seen) c.args.at result one (unit_on (a_step configuration_seen) c.args.at result two
          (unit_whole (a_step configuration_seen) {x = Configuration name} unit c.args.at (g.met.S.Source.counted c.grow-2.new.source) (omega arith)
          (λ rest.
          text_whole (IsBetween true false) nothing_known 0x07 LONGEST_NAME AUnit unit rest (omega arith) (omega arith) (omega arith)
          ∙ rw (few, bytes_of_unit (number_at 4 1 unit) 5 unit rest (omega arith), named))));
    }

pub returns-in_err-grow : goal.returns-in_err-grow
returns-in_err-grow g c = search (rules, unit_short, text_begins)
