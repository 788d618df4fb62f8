-- The walk over what is required and what is in a stream, as the code has it.
use Rattle.std.specs.Prelude.{◌≡◌, ℕ, ◌≤◌, Bool, true, false, ◌&&◌, List, [], ◌∷◌, ◌++◌, length, drop, Result, Ok, Err}
use Rattle.vms_spec.specs.Lookup.{number_at, bytes_at}
use Rattle.vms_spec.specs.Spelling.{begins_with}
use Rattle.vms_spec.specs.Streams.{configuration}
use Rattle.vms_elements.specs.Lines.{text_of}
use Rattle.vms_analyze.specs.declared.fault.AnalyzeReason.TheVariants as reasons
use Rattle.vms_analyze.specs.Listing.{Listing, Refused, Text}
use Rattle.vms_analyze.specs.Wanted.{Want, Differs, behind, found, is_machine}
use Rattle.vms_analyze.specs.declared.walk.Walk.{Walk}
use Rattle.vms_analyze.specs.declared.walk.Stop.{Stop}
use Rattle.vms_analyze.specs.declared.walk.Stop.TheVariants as stops

-- The rest of the stream.
abbrev pub left : Walk → List ℕ
left w = drop w.place w.input.now

-- The offset is in the stream.
abbrev pub IsInside : Walk → Type 0
IsInside w = w.place ≤ length w.input.now

-- All of `ws` was found, whatever is required after it, and its lines were printed.
pub record Goes (ws : List Want) (old new : Walk) : Type 0 where
  pub lines : List (List ℕ)
  pub taken : (more : List Want) → found (ws ++ more) old.id old.place (left old) ≡ behind lines (found more new.id new.place (left new))
  pub printed : new.text.items ≡ old.text.items ++ text_of lines
  pub inside : IsInside new
  pub input : new.input.now ≡ old.input.now

-- The first piece that isn't as required is at the offset.
pub record Stops (ws : List Want) (old new : Walk) : Type 0 where
  pub differs : (more : List Want) → found (ws ++ more) old.id old.place (left old) ≡ Differs new.place

-- The walk stops because of that, or because memory ran out.
abbrev pub WhyStopped : List Want → Walk → Walk → Stop → Type 0
WhyStopped ws old new stops.Differs = Stops ws old new
WhyStopped ws old new stops.NoMemory = Unit {0}

-- The walk finds all of `ws`, or stops.
abbrev pub Walks : List Want → Walk → Walk → Result (Unit {0}) Stop → Type 0
Walks ws old new (Ok u) = Goes ws old new
Walks ws old new (Err stop) = WhyStopped ws old new stop

-- A line was printed, and all else is unchanged.
pub record Prints (old new : Walk) (line : List ℕ) : Type 0 where
  pub text : new.text.items ≡ old.text.items ++ (line ++ 10 ∷ [])
  pub place : new.place ≡ old.place
  pub id : new.id ≡ old.id
  pub input : new.input.now ≡ old.input.now

-- ---- the machine

-- This is the name in the configuration that is next, and it may be a machine's.
pub record IsMachineName (rest name : List ℕ) : Type 0 where
  pub there : name ≡ bytes_at (number_at 4 1 rest) 5 rest
  pub good : is_machine name ≡ true

-- Whether a configuration with this name is next, and the name may be a machine's.
abbrev pub is_configuration : List ℕ → List ℕ → Bool
is_configuration rest name = begins_with (configuration name) rest && is_machine name

-- No configuration with such a name is next.
pub record HasNoMachine (rest : List ℕ) : Type 0 where
  pub none : is_configuration rest (bytes_at (number_at 4 1 rest) 5 rest) ≡ false

-- ---- a whole stream

-- The walk is at the start of the stream.
abbrev pub AtStart : Walk → List ℕ → Type 0
AtStart w stream = (w.id ≡ 0) × (w.place ≡ 0) × (w.input.now ≡ stream) × (w.text.items ≡ [])

-- The listing is the refusal at this offset, unless memory ran out.
abbrev pub WhyNone : Listing → Walk → Stop → Type 0
WhyNone listing new stops.Differs = listing ≡ Refused new.place reasons.Mismatch
WhyNone listing new stops.NoMemory = Unit {0}

-- The listing is the text that was printed, or the refusal where the walk stopped.
abbrev pub Shows : Listing → Walk → Result (Unit {0}) Stop → Type 0
Shows listing new (Ok u) = listing ≡ Text new.text.items
Shows listing new (Err stop) = WhyNone listing new stop
