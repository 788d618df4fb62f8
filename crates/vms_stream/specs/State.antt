-- The state of the units so far that a loader holds: the named machine, the images so far, which devices
-- came, whether sections have footers, and how far the reading is.
use Rattle.std.specs.Prelude.{ℕ, Bool, true, false, List, [], map, drop, slice_set, Option, Some, None}
use Rattle.std.specs.List.{slice_get}
use Rattle.vms_spec.specs.Lists.{at_option}
use Rattle.vms_spec.specs.Sets.{Device, Set}
use Rattle.vms_spec.specs.Layout.{Slot}
use Rattle.vms_spec.specs.Images.{Image, default_image}
use Rattle.vms_spec.specs.Units.{Piece, Magic, Version, Configuration, Head, Number, Constant, Filler, SubHead, Foot, End}
use Rattle.vms_spec.specs.SoFar.{mark_come, put_version, device_named, image, fresh, part_slots}
use Rattle.vms_stream.specs.SoFar.{no_image, put_image}
use Rattle.vms_stream.specs.Dues.{Due, AMagic, AVersion, Between, AfterEnd, Nothing, rules_hold, due_field}
use Rattle.vms_stream.specs.Table.{first_of, sub_at}
use Rattle.vms_stream.specs.Judge.{Grammar}
use Rattle.vms_stream.specs.SoFar.{Footed, Known, Tail, Unknown, behind, beyond}

-- How far a reading is:
--
-- - `Before`: before the magic.
-- - `Headed`: before the version.
-- - `Free first after`: between sections; `first` directly after the stream head, `after` directly after a
--   configuration.
-- - `Inside k id part n`: in the section of device k with this id. Its subsection `part` is read, or its own
--   fields if there is none, and `n` slots are passed.
-- - `Ended`: after the end mark.
-- - `Over`: nothing is due.
pub data Spot : Type 0 where
  Before : Spot
  Headed : Spot
  Free : Bool → Bool → Spot
  Inside : ℕ → ℕ → Option ℕ → ℕ → Spot
  Ended : Spot
  Over : Spot

-- The state of a reading.
pub record State : Type 0 where
  pub machine : Option (List ℕ)
  pub images : List Image
  pub came : List Bool
  pub tail : Tail
  pub spot : Spot

-- The state before the first byte: each image at its defaults, and no device has come.
abbrev pub at_start : Set → State
at_start set = record {
  machine = None;
  images = map (default_image set) set.devices;
  came = map (λ (d : Device). false) set.devices;
  tail = Unknown;
  spot = Before;
}

-- The state between sections, if the devices marked in `came` have come.
abbrev pub between : Option (List ℕ) → List Image → List Bool → Tail → Bool → Bool → State
between machine images came tail first after = record { machine = machine; images = images; came = came; tail = tail; spot = Free first after }

-- The image, or an empty one.
abbrev pub or_none : Option Image → Image
or_none None = no_image
or_none (Some image) = image

-- The device whose section is open.
abbrev pub open_at : Spot → Option ℕ
open_at (Inside k id part n) = Some k
open_at _ = None

-- The id of the open section, 0 if none is open.
abbrev pub id_at : Spot → ℕ
id_at (Inside k id part n) = id
id_at _ = 0

-- The image of the open device.
abbrev pub image_at : State → Image
image_at s = or_none (at_option s.images (open_at s.spot))

-- `onward spot f g` is the spot after one more unit of a section; `f` gives the part, `g` the number of slots
-- passed.
abbrev pub onward : Spot → (Option ℕ → ℕ → Option ℕ) → (ℕ → ℕ) → Spot
onward (Inside k id part n) f g = Inside k id (f part n) (g n)
onward _ f g = Over

-- `inside k id part n` is the spot in the section of device `k`, if there is one.
abbrev pub inside : Option ℕ → ℕ → Option ℕ → ℕ → Spot
inside None id part n = Over
inside (Some k) id part n = Inside k id part n

module _ (set : Set) where
  -- The slots that the part being read still has.
  abbrev pub slots_at : State → Spot → List Slot
  slots_at s (Inside k id part n) = drop n (part_slots set (slice_get set.devices k) (image_at s) part)
  slots_at s _ = []

  -- What is due at a spot.
  abbrev pub due_by : State → Spot → Due
  due_by s Before = AMagic
  due_by s Headed = AVersion
  due_by s (Free first after) = Between first after
  due_by s (Inside k id part n) = due_field s.tail (Some k) (slots_at s (Inside k id part n))
  due_by s Ended = AfterEnd
  due_by s Over = Nothing

  -- What the rows need of a state.
  abbrev pub known_at : State → Known
  known_at s = record { came = s.came; section = open_at s.spot; id = id_at s.spot; image = image_at s }

  -- All slots of the part whose fields are read.
  abbrev pub part_at : State → Spot → List Slot
  part_at s (Inside k id part n) = part_slots set (slice_get set.devices k) (image_at s) part
  part_at s _ = []

  -- The spot after the next unit of the part.
  abbrev pub next_spot : State → Spot
  next_spot s = onward s.spot (λ part n. part) (λ n. beyond n (part_at s s.spot))

  -- The state after a unit that changes no number.
  abbrev pub next_field : State → State
  next_field s = record s { spot = next_spot s }

  -- `after s x` is the state after the unit `x`.
  abbrev pub after : State → Piece → State
  after s (Magic bytes) = record s { spot = Headed }
  after s (Version v) = record s { spot = Free true false }
  after s (Configuration name) = record s { machine = Some name; tail = Footed; spot = Free false true }
  after s (Head id name instance v) =
      let o = device_named set name instance in
      record {
        machine = s.machine;
        images = put_image s.images o (fresh set (at_option set.devices o) v);
        came = mark_come s.came o;
        tail = behind set (open_at s.spot) s.tail;
        spot = inside o id None 0;
      }
  after s (Number c kind z) =
      let i = image_at s in
      record s { images = put_image s.images (open_at s.spot) (record i { numbers = slice_set i.numbers c z }); spot = next_spot s }
  after s (Constant kind z) = next_field s
  after s (Filler bytes) = next_field s
  after s (SubHead name v) =
      let i = image_at s in
      let j = sub_at set (known_at s) name in
      record s { images = put_image s.images (open_at s.spot) (record i { came = put_version i.came j v }); spot = onward s.spot (λ part n. j) (λ n. 0) }
  after s (Foot id) = record s { tail = Footed; spot = Free false false }
  after s End = record s { tail = behind set (open_at s.spot) s.tail; spot = Ended }
  after s _ = record s { spot = Over }

-- The grammar whose state is the one that a loader holds.
abbrev pub by_state : Set → List (List ℕ) → Grammar State
by_state set names = record {
  due = λ s. due_by set s s.spot;
  holds = λ s. rules_hold (slots_at set s s.spot);
  section = λ s. open_at s.spot;
  reason = λ s x. first_of set names (due_by set s s.spot) (known_at set s) x;
  after = after set;
}
