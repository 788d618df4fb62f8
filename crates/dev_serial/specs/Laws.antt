-- The laws of saving, of likeness and of soundness, which functions in src/laws.rt have as clauses.
use Rattle.std.specs.Prelude.{◌≡◌, ℕ, ℤ, pos, true, ◌+◌, ◌%◌, ◌<◌, ◌≤◌, ◌↔◌, List, length, take, drop, replicate, Ok}
use Rattle.vms_fields.specs.declared.serial.TheConstants.{RX_COUNT, TX_COUNT, RX_DATA, RX_NUMBER, TX_NUMBER}
use Rattle.vms_hooks.specs.Numbers.{Numbers}
use Rattle.dev_base.specs.Cells.{number_at, AreOf}
use Rattle.dev_base.specs.Levels.{IsLevel}
use Rattle.dev_base.specs.declared.limits.TheConstants.{NEWEST, LAST_MOMENT}
use Rattle.dev_serial.specs.declared.fifo.TheConstants.{FIFO_BYTES}
use Rattle.dev_serial.specs.Access.{read_of, written, came_in, advanced}
use Rattle.dev_serial.specs.Cells.{IsArray, kinds, carried}
use Rattle.dev_serial.specs.Port.{Port, power_on, line_of}
use Rattle.dev_serial.specs.PortNumbers.{saved}
use Rattle.dev_serial.specs.Rules.{restored}
use Rattle.dev_serial.specs.Saved.{CanSave, CanRestore, cells_at, hook_restored}
use Rattle.dev_serial.specs.Sound.{IsSound, IsHeld, Alike}
use Rattle.dev_serial.specs.Stored.{counted_of, counted_bytes, ring_of, ring_bytes, behind_head, ring_holds}
use Rattle.dev_serial.specs.declared.levels.TheConstants.{FIFOS_SINCE, RINGS_SINCE}
use Rattle.dev_serial.specs.declared.stored.Ring.{Ring}

-- Cells of set `set`: each is of its kind, the counted arrays agree with their counts, and the
-- cells of a subsection that isn't needed have their defaults. The latch and the timeout are one
-- cell each. Each is needed exactly if it doesn't have its default.
pub record AreSaved (set : ℕ) (cells : List ℤ) : Type 0 where
  pub of_kinds : AreOf (kinds set) cells
  pub rx : FIFOS_SINCE ≤ set → IsArray cells RX_COUNT
  pub tx : FIFOS_SINCE ≤ set → IsArray cells TX_COUNT
  pub no_fifo : FIFOS_SINCE ≤ set → number_at cells RX_COUNT ≡ 0 → number_at cells TX_COUNT ≡ 0
      → take 34 (drop RX_COUNT cells) ≡ replicate 34 (pos 0)
  pub no_ring : RINGS_SINCE ≤ set → number_at cells RX_NUMBER ≡ 0
      → number_at cells TX_NUMBER ≡ 0 → take 36 (drop RX_DATA cells) ≡ replicate 36 (pos 0)

-- What a sound port saves under a set are cells of that set.
abbrev pub SavedAreCells : Type 0
SavedAreCells =
    (numbers : Numbers) (port : Port) → CanSave numbers port → IsSound numbers.moment port
    → AreSaved numbers.set (cells_at numbers port)

-- The cells `cells` of the newest set may be restored, and give a port like `port`.
pub record ComesBack (numbers : Numbers) (port : Port) (cells : List ℤ) : Type 0 where
  pub may : CanRestore numbers cells
  pub back : Port
  pub restored : hook_restored numbers cells ≡ Ok back
  pub alike : Alike port back

-- A sound port is saved under a set from its level on, and its cells are carried to the newest set.
-- They may be restored and give a port like it.
abbrev pub SavedComesBack : Type 0
SavedComesBack =
    (numbers : Numbers) (port : Port) → CanSave numbers port → IsSound numbers.moment port
    → ComesBack (record numbers { set = NEWEST }) port
    (carried numbers.set (cells_at numbers port))

-- A port is sound exactly if a stream can describe it and every rule holds for what the newest set
-- saves.
abbrev pub SoundMeetsRules : Type 0
SoundMeetsRules =
    (now : ℕ) (port : Port) → now ≤ LAST_MOMENT → IsSound now port
    ↔ (IsHeld port
    × ((back : Port) × (restored port.level now (saved NEWEST now port) ≡ Ok back)))

-- The port is sound and has the level `level`.
pub record IsSoundAt (level now : ℕ) (port : Port) : Type 0 where
  pub sound : IsSound now port
  pub own_level : port.level ≡ level

-- A restored port is sound and has the level of the pass.
abbrev pub RestoredIsSound : Type 0
RestoredIsSound =
    (numbers : Numbers) (cells : List ℤ) (port : Port) → CanRestore numbers cells
    → hook_restored numbers cells ≡ Ok port → IsSoundAt numbers.level numbers.moment port

-- The ring of a list is valid, and the list can be read back from its ring and its counted array.
pub record ListComesBack (bytes : List ℕ) : Type 0 where
  pub ring : ring_bytes (ring_of bytes) ≡ bytes
  pub holds : ring_holds (ring_of bytes) ≡ true
  pub array : counted_bytes (counted_of bytes) ≡ bytes

-- Each list of at most sixteen bytes can be read back from its ring and its counted array.
abbrev pub ListsComeBack : Type 0
ListsComeBack = (bytes : List ℕ) → length bytes ≤ FIFO_BYTES → ListComesBack bytes

-- The elements within `number` of the head are those that the ring's bytes are read from.
abbrev pub HoldsWhatItGives : Type 0
HoldsWhatItGives =
    (ring : Ring) (place : ℕ) → ring.head ≤ 15 → ring.number ≤ FIFO_BYTES → place < FIFO_BYTES
    → behind_head ring place < ring.number
    ↔ ((i : ℕ) × (i < ring.number) × ((ring.head + i) % FIFO_BYTES ≡ place))

-- Likeness is reflexive.
abbrev pub AlikeItself : Type 0
AlikeItself = (port : Port) → Alike port port

-- Likeness is symmetric.
abbrev pub AlikeBack : Type 0
AlikeBack = (port other : Port) → Alike port other → Alike other port

-- Likeness is transitive.
abbrev pub AlikeOn : Type 0
AlikeOn = (port other third : Port) → Alike port other → Alike other third → Alike port third

-- Two results are equal, and the ports after them are alike.
pub record AnswersAlike {A : Type 0} (first second : A × Port) : Type 0 where
  pub value : second.0 ≡ first.0
  pub alike : Alike first.1 second.1

-- Ports that are alike save the same under each set.
abbrev pub SavesAlike : Type 0
SavesAlike = (set now : ℕ) (port other : Port) → Alike port other
    → saved set now other ≡ saved set now port

-- Reads of ports that are alike give the same value and leave the ports alike.
abbrev pub ReadsAlike : Type 0
ReadsAlike =
    (offset now : ℕ) (port other : Port) → Alike port other
    → AnswersAlike (read_of offset now port) (read_of offset now other)

-- Writes leave ports that are alike so.
abbrev pub WritesAlike : Type 0
WritesAlike =
    (offset value now : ℕ) (port other : Port) → Alike port other
    → Alike (written offset value now port) (written offset value now other)

-- Bytes that arrive leave ports that are alike so.
abbrev pub BytesInAlike : Type 0
BytesInAlike = (byte now : ℕ) (port other : Port) → Alike port other
    → Alike (came_in byte now port) (came_in byte now other)

-- Time that passes sends the same bytes from ports that are alike, and leaves them so.
abbrev pub AdvancesAlike : Type 0
AdvancesAlike = (to : ℕ) (port other : Port) → Alike port other
    → AnswersAlike (advanced to port) (advanced to other)

-- Ports that are alike have the same interrupt line.
abbrev pub LinesAlike : Type 0
LinesAlike = (now : ℕ) (port other : Port) → Alike port other → line_of now other ≡ line_of now port

-- A port is sound at power on, at any moment.
abbrev pub PowerOnIsSound : Type 0
PowerOnIsSound = (level now : ℕ) → IsLevel level → IsSound now (power_on level)

-- A read keeps a sound port sound.
abbrev pub ReadsKeepSound : Type 0
ReadsKeepSound = (offset now : ℕ) (port : Port) → IsSound now port
    → IsSound now (read_of offset now port).1

-- A write keeps a sound port sound.
abbrev pub WritesKeepSound : Type 0
WritesKeepSound = (offset value now : ℕ) (port : Port) → value < 256 → IsSound now port
    → IsSound now (written offset value now port)

-- A byte that arrives keeps a sound port sound.
abbrev pub BytesInKeepSound : Type 0
BytesInKeepSound = (byte now : ℕ) (port : Port) → byte < 256 → IsSound now port
    → IsSound now (came_in byte now port)

-- A sound port is sound at a later moment, after time has passed.
abbrev pub AdvancesKeepSound : Type 0
AdvancesKeepSound = (now to : ℕ) (port : Port) → now ≤ to → IsSound now port
    → IsSound to (advanced to port).1

-- A read keeps the level.
abbrev pub ReadsKeepLevel : Type 0
ReadsKeepLevel = (offset now : ℕ) (port : Port) → (read_of offset now port).1.level ≡ port.level

-- A write keeps the level.
abbrev pub WritesKeepLevel : Type 0
WritesKeepLevel = (offset value now : ℕ) (port : Port)
    → (written offset value now port).level ≡ port.level

-- A byte that arrives keeps the level.
abbrev pub BytesInKeepLevel : Type 0
BytesInKeepLevel = (byte now : ℕ) (port : Port) → (came_in byte now port).level ≡ port.level

-- Time that passes keeps the level.
abbrev pub AdvancesKeepLevel : Type 0
AdvancesKeepLevel = (to : ℕ) (port : Port) → (advanced to port).1.level ≡ port.level
