-- The family of the boards isa-1 to the newest has the properties that code needs.
use Rattle.std.proofs.Common.{◌≡◌, ℕ, ◌+◌, ◌-◌, ◌≤◌, List, [], length, map, Some, refl, ap, ◌∙◌, arith}
use Rattle.std.proofs.lemmas.List.FromFn.{get_or-map-range_with_len, length-map-range_with_len}
use Rattle.std.proofs.lemmas.Option.{slice_get-get_or}
use Rattle.std.specs.List.{range_with_len, slice_get}
use Rattle.dev_base.specs.declared.limits.TheConstants.{NEWEST}
use Rattle.dev_board.specs.Sound.{IsSound}
use Rattle.dev_board.specs.State.{power_on}
use Rattle.dev_board.proofs.{SoundLaws.answers_tell_int, SoundLaws.clock_goes_on, RestoredLaws.restored_is_sound}
use Rattle.dev_images.proofs.{BoardReady.saved_are_ready, NormalCells.normal_may_be_restored}
use Rattle.vms_desc.proofs.Clean.{by_list, fit_number}
use Rattle.vms_desc.specs.Formed.{shipped_set}
use Rattle.vms_board.specs.Family.{Stands}
use Rattle.vms_board.specs.Isa.{isa, machine_of, cells_of, AreTold}

-- A shipped set from 1 on has the machines of the levels up to its number, by computation.
machines-are : (s : ℕ) → 1 ≤ s → s ≤ NEWEST → (shipped_set s).machines ≡ map machine_of (range_with_len 1 s)
machines-are = by_list (λ set. set.machines) (λ s. map machine_of (range_with_len 1 s)) 1 refl

machine_at : (s level : ℕ) → 1 ≤ level → level ≤ s → s ≤ NEWEST → slice_get (shipped_set s).machines (level - 1) ≡ Some (machine_of level)
machine_at s level l le h =
    let names = map machine_of (range_with_len 1 s) in
    let at-level : 1 + (level - 1) ≡ level = omega (arith, l) in
    ap (λ (machines : List (List ℕ)). slice_get machines (level - 1)) (machines-are s (omega (arith, l, le)) h)
    ∙ slice_get-get_or names (level - 1) [] (omega (arith, l, le, length-map-range_with_len machine_of 1 s))
    ∙ ap (λ (name : List ℕ). Some name) (get_or-map-range_with_len machine_of 1 s (level - 1) level [] (omega (arith, l, le)) at-level)

power_on-level : (level : ℕ) → (power_on level).level ≡ level
unfolding power_on
power_on-level level = refl

-- The family has these properties.
pub isa_stands : Stands isa IsSound AreTold
isa_stands = record {
  named = λ level s first le last. machine_at s level first le last;
  numbered = λ m sound. sound.devices.level;
  begun = λ level. power_on-level level;
  stays = clock_goes_on.level;
  told_int = answers_tell_int.int;
  kept = λ level lists m e. restored_is_sound.level level (cells_of lists) m e;
  ready = saved_are_ready.images;
  told = λ images kept. normal_may_be_restored.cells images kept.one_each (λ k d image there here. (kept.each k d image there here).normal);
  well = (fit_number NEWEST).well;
  heads = (fit_number NEWEST).heads;
}
