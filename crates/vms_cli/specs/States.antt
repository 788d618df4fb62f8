-- What follows if `counter` names a state: the older set packs its text, and the newer set refuses its stream at
-- that place and for that reason. And when it always names one.
use Rattle.std.specs.Prelude.{◌≡◌, ℕ, ◌+◌, ◌≤◌, List, length, Option, Some, None}
use Rattle.vms_io.specs.Shelves.{Held}
use Rattle.vms_spec.specs.declared.Reason.TheVariants as reasons
use Rattle.vms_spec.specs.Images.{Image}
use Rattle.vms_spec.specs.Sets.{Set}
use Rattle.vms_spec.specs.Streams.{AreReady, written}
use Rattle.vms_spec.specs.Values.{values_text}
use Rattle.vms_check.specs.declared.mismatch.Mismatch.{Mismatch}
use Rattle.vms_check.specs.Comparing.{first_mismatch}
use Rattle.vms_counter_laws.specs.Candidates.{default_images, machine_for}
use Rattle.vms_counter_laws.specs.Counters.{Refusal, State, Counters}
use Rattle.vms_counter_laws.specs.Laws.{AlwaysShown}
use Rattle.vms_commands.specs.Fetching.{longest_file, named_sets}
use Rattle.vms_commands.specs.Lines.{refused_line}
use Rattle.vms_commands.specs.Outcomes.{done, ended}
use Rattle.vms_commands.specs.SetWords.{SetWord}
use Rattle.vms_commands.specs.Steps.{Both, Gives}
use Rattle.vms_cli.specs.Answers.{HasOutcome}
use Rattle.vms_cli.specs.Commands.{Show, Pack, Counter}
use Rattle.vms_cli.specs.Commands.CounterCommand.{counter_text}
use Rattle.vms_cli.specs.Commands.PackCommand.{described_stream}

-- The outcome of `counter` is the text of this state.
abbrev pub Prints : (old new : SetWord) → Both Set → Option Held → Mismatch → Option (List ℕ) → List Image → Refusal → Type 0
Prints old new sets held m machine images r =
    (input : Option (List ℕ)) → HasOutcome (Some (Counter old new)) input held (done (counter_text sets.old sets.new (State m machine images r)) held 0)

-- The outcome of `show` with the newer set is the line of the refusal, at a unit of `size` bytes.
abbrev pub RefusesSo : (new : SetWord) → Set → Option Held → Refusal → ℕ → List ℕ → Type 0
RefusesSo new set held r size bytes =
    HasOutcome (Some (Show new)) (Some bytes) held (ended 1 (refused_line set r.place r.section r.reason) (r.place + size))

-- What holds of a state that `counter` names.
pub record StateStands (old new : SetWord) (sets : Both Set) (held : Option Held) (m : Mismatch) (machine : Option (List ℕ)) (images : List Image) (r : Refusal) : Type 0 where
  pub prints : Prints old new sets held m machine images r
  pub size : ℕ
  -- the older set writes it, and the newer set refuses that at this place and for this reason
  pub ready : AreReady sets.old images
  pub refused : RefusesSo new sets.new held r size (written sets.old machine images None)
  -- if its text is on the shelf, `pack` with the older set writes it, followed by its description
  pub packed : (map : Held) (name : List ℕ) (input : Option (List ℕ)) → held ≡ Some map → map name ≡ Some (values_text sets.old machine images)
      → length (values_text sets.old machine images) ≤ longest_file
      → HasOutcome (Some (Pack old name)) input held (done (described_stream sets.old machine images) held 0)
  -- and the newer set refuses that too, unless it needs more bytes than the stream has without the description
  pub packed_refused : (r.reason ≡ reasons.Truncated → ⊥) → RefusesSo new sets.new held r size (described_stream sets.old machine images)

-- This is so if the answer to the sets that the words name is a state.
abbrev pub StateLaw : Type 0
StateLaw = (old new : SetWord) (sets : Both Set) (held : Option Held) (m : Mismatch) (machine : Option (List ℕ)) (images : List Image) (r : Refusal)
    → named_sets held old new ≡ Gives sets → Counters sets.old sets.new (State m machine images r) → StateStands old new sets held m machine images r

-- Suppose that the mismatch is a machine, a version, or a constant of a device's field that is always present. If the
-- older set's defaults are ready, `counter` prints them as the state.
abbrev pub AlwaysNamedLaw : Type 0
AlwaysNamedLaw = (old new : SetWord) (sets : Both Set) (held : Option Held) (m : Mismatch) → named_sets held old new ≡ Gives sets
    → first_mismatch sets.old sets.new ≡ Some m → AlwaysShown sets.old m → AreReady sets.old (default_images sets.old)
    → (r : Refusal) × Prints old new sets held m (machine_for sets.old sets.new m) (default_images sets.old) r
