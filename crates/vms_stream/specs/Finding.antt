-- Which unit is at the front of an input if something is due: a whole unit with its length, or the beginning
-- of one.
use Rattle.std.specs.Prelude.{ℕ, ◌+◌, Bool, false, ◌&&◌, ◌==◌, nat_lt, if◌then◌else◌, List, length, get_or, take}
use Rattle.vms_kinds.specs.Codes.{width, value_of}
use Rattle.vms_spec.specs.declared.TheConstants.{LONGEST_NAME}
use Rattle.vms_spec.specs.Layout.{Number as NumberSlot, Constant as ConstantSlot, Filler as FillerSlot, Rule as RuleSlot}
use Rattle.vms_spec.specs.Streams.{longest_text}
use Rattle.vms_spec.specs.Lookup.{number_at, bytes_at}
use Rattle.vms_spec.specs.Units.{Piece, Magic, Version, Configuration, Long, Head, Number, Constant, Filler, SubHead, Foot, End, Description, Start, Mark}
use Rattle.vms_stream.specs.Dues.{Due, is_foot, AMagic, AVersion, Between, Field, AfterFields, AfterEnd, Nothing, raw}
use Rattle.vms_stream.specs.SoFar.{Tail}

-- What is found at the front of an input.
pub data Found : Type 0 where
  -- a whole unit and its number of bytes
  Whole : Piece → ℕ → Found
  -- the input ends before a unit is whole
  Cut : Found

-- `needs n rest x` is the unit `x` of `n` bytes, if `rest` has that many.
abbrev pub needs : ℕ → List ℕ → Piece → Found
needs n rest x = if nat_lt (length rest) n then Cut else Whole x n

-- `start_at rest n` is a section start with mark 01, whose length byte is `n`.
abbrev pub start_at : List ℕ → ℕ → Found
start_at rest n = needs (6 + n) rest (Start (number_at 4 1 rest) (bytes_at n 6 rest))

-- `head_at rest n` is a section head, whose length byte is `n`.
abbrev pub head_at : List ℕ → ℕ → Found
head_at rest n = needs (14 + n) rest (Head (number_at 4 1 rest) (bytes_at n 6 rest) (number_at 4 (6 + n) rest) (number_at 4 (10 + n) rest))

-- `sub_at rest n` is a subsection head, whose length byte is `n`.
abbrev pub sub_at : List ℕ → ℕ → Found
sub_at rest n = needs (6 + n) rest (SubHead (bytes_at n 2 rest) (number_at 4 (2 + n) rest))

-- `text_at mark longest unit rest n` is a unit of mark, length `n` and text. If `n` is above `longest`, the
-- unit ends before the text.
abbrev pub text_at : ℕ → ℕ → (List ℕ → Piece) → List ℕ → ℕ → Found
text_at mark longest unit rest n = if nat_lt longest n then needs 5 rest (Long mark n) else needs (5 + n) rest (unit (bytes_at n 5 rest))

-- `between_at first m rest` is the unit between sections that begins with mark `m`.
unfoldable pub between_at : Bool → ℕ → List ℕ → Found
between_at first m rest =
    if m == 0x00 then needs 1 rest End
    else if m == 0x01 then start_at rest (get_or rest 5 0)
    else if m == 0x04 then head_at rest (get_or rest 5 0)
    else if m == 0x07 && first then text_at 0x07 LONGEST_NAME Configuration rest (number_at 4 1 rest)
    else needs 1 rest (Mark m)

-- `behind_at tail m rest` is the unit after the fields that begins with mark `m`.
unfoldable pub behind_at : Tail → ℕ → List ℕ → Found
behind_at tail m rest =
    if m == 0x05 then sub_at rest (get_or rest 1 0)
    else if is_foot tail m then (if m == 0x7e then needs 5 rest (Foot (number_at 4 1 rest)) else needs 1 rest (Mark m))
    else between_at false m rest

-- `trailer_at m rest` is the unit after the end mark that begins with mark `m`.
unfoldable pub trailer_at : ℕ → List ℕ → Found
trailer_at m rest = if m == 0x06 then text_at 0x06 longest_text Description rest (number_at 4 1 rest) else needs 1 rest (Mark m)

-- `unit_at d rest` is the unit at the front of `rest` if `d` is due. A field's bytes have no mark: the slot
-- says which unit they are.
abbrev pub unit_at : Due → List ℕ → Found
unit_at AMagic rest = needs 4 rest (Magic (take 4 rest))
unit_at AVersion rest = needs 4 rest (Version (number_at 4 0 rest))
unit_at (Between first after) rest = between_at first (get_or rest 0 0) rest
unit_at (Field k (NumberSlot c kind capacities)) rest = needs (width kind) rest (Number c kind (value_of (raw kind) (take (width kind) rest)))
unit_at (Field k (ConstantSlot kind z)) rest = needs (width kind) rest (Constant kind (value_of (raw kind) (take (width kind) rest)))
unit_at (Field k (FillerSlot n)) rest = needs n rest (Filler (take n rest))
unit_at (Field k (RuleSlot b)) rest = Cut
unit_at (AfterFields k tail) rest = behind_at tail (get_or rest 0 0) rest
unit_at AfterEnd rest = trailer_at (get_or rest 0 0) rest
unit_at Nothing rest = Cut
