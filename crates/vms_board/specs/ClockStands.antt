-- The family of the boards clk-1 and clk-2 has the properties that code needs.
use Rattle.std.proofs.Common.{◌≡◌, ℕ, zero, suc, ◌-◌, ◌≤◌, Some, refl, arith}
use Rattle.std.specs.List.{slice_get}
use Rattle.dev_clock.proofs.{StepLaws.answers_tell_int, StepLaws.clock_goes_on, SavedLaws.restored_is_sound}
use Rattle.dev_clock.specs.Sound.{IsSound}
use Rattle.dev_clock.specs.State.{power_on}
use Rattle.dev_clock_images.proofs.ClockImages.{saved_are_ready, normal_may_be_restored}
use Rattle.dev_clock_images.specs.Images.{cells_of}
use Rattle.vms_desc.proofs.Clean.{none_is, clock_heads, clock_formed}
use Rattle.vms_desc.specs.Formed.{clock_set}
use Rattle.vms_rtc.proofs.StepLaws.{version_stays}
use Rattle.vms_rtc.specs.declared.limits.TheConstants.{NEWEST_CLOCK}
use Rattle.vms_board.specs.Clock.{clock, clock_machine, AreTold}
use Rattle.vms_board.specs.Family.{Stands}

-- a clock set has the machines of the versions up to its number
machine_at : (version set : ℕ) → 1 ≤ version → version ≤ set → set ≤ NEWEST_CLOCK → slice_get (clock_set set).machines (version - 1) ≡ Some (clock_machine version)
machine_at zero set first le last = absurd (omega (arith, first))
machine_at (suc zero) zero first le last = absurd (omega (arith, le))
machine_at (suc zero) (suc zero) first le last = refl
machine_at (suc zero) (suc (suc zero)) first le last = refl
machine_at (suc zero) (suc (suc (suc set))) first le last = absurd (omega (arith, last))
machine_at (suc (suc zero)) (suc (suc zero)) first le last = refl
machine_at (suc (suc zero)) zero first le last = absurd (omega (arith, le))
machine_at (suc (suc zero)) (suc zero) first le last = absurd (omega (arith, le))
machine_at (suc (suc zero)) (suc (suc (suc set))) first le last = absurd (omega (arith, last))
machine_at (suc (suc (suc version))) set first le last = absurd (omega (arith, le, last))

begun : (version : ℕ) → (power_on version).clock.version ≡ version
unfolding power_on
begun version = version_stays.power_on version

-- The family has these properties.
pub clock_stands : Stands clock IsSound AreTold
clock_stands = record {
  named = machine_at;
  numbered = λ m sound. sound.devices.clock.version;
  begun = begun;
  stays = clock_goes_on.version;
  told_int = answers_tell_int.int;
  kept = λ version lists m e. restored_is_sound.version version (cells_of lists) m e;
  ready = saved_are_ready.images;
  told = λ images kept. normal_may_be_restored.cells images kept.one_each (λ k d image there here. (kept.each k d image there here).normal);
  well = none_is _ (clock_formed NEWEST_CLOCK);
  heads = clock_heads NEWEST_CLOCK;
}
