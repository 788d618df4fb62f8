-- The heads, the configuration and the footer that bytes encode, and why bytes are no section head
-- (docs/format.md, "The parts of a stream").
use Rattle.std.specs.Prelude.{◌≢◌, ℕ, ◌+◌, ◌<◌, ◌⊎◌, List, [], ◌∷◌, length, get_or}
use Rattle.vms_spec.specs.Streams.{section_head}
use Rattle.vms_spec.specs.Lookup.{number_at, bytes_at}
use Rattle.vms_marks.specs.declared.head.Head.{Head}
use Rattle.vms_marks.specs.declared.sub_head.SubHead.{SubHead}
use Rattle.vms_marks.specs.declared.configuration.Configuration.{Configuration}
use Rattle.vms_marks.specs.declared.foot.Foot.{Foot}

-- the bytes of a section head
abbrev pub head_bytes : Head → List ℕ
head_bytes head = section_head head.id head.name.items head.instance head.version

-- the section head at the front of these bytes: the id from byte 1 on, the name's length in byte 5,
-- the name from byte 6 on, and after it the instance id and the version
abbrev pub head_in : List ℕ → Head
head_in bytes = let n = get_or bytes 5 0 in record {
  id = number_at 4 1 bytes;
  name = record { items = bytes_at n 6 bytes };
  instance = number_at 4 (6 + n) bytes;
  version = number_at 4 (10 + n) bytes;
}

-- there is a first byte, and it isn't the mark of a section head
abbrev pub HasWrongMark : List ℕ → Type 0
HasWrongMark [] = ⊥
HasWrongMark (mark ∷ bytes) = mark ≢ 0x04

-- there are fewer than 6 bytes, or not the number that the name's length says
abbrev pub HasWrongLength : List ℕ → Type 0
HasWrongLength bytes = (length bytes < 6) ⊎ (length bytes ≢ 14 + get_or bytes 5 0)

-- the subsection head at the front of these bytes: the name's length in byte 1, the name from byte
-- 2 on, and after it the version
abbrev pub sub_head_in : List ℕ → SubHead
sub_head_in bytes = let n = get_or bytes 1 0 in record { name = record { items = bytes_at n 2 bytes }; version = number_at 4 (2 + n) bytes }

-- the configuration at the front of these bytes: the name's length from byte 1 on, the name from byte 5 on
abbrev pub configuration_in : List ℕ → Configuration
configuration_in bytes = record { machine = record { items = bytes_at (number_at 4 1 bytes) 5 bytes } }

-- the footer at the front of these bytes: its id from byte 1 on
abbrev pub foot_in : List ℕ → Foot
foot_in bytes = record { id = number_at 4 1 bytes }
