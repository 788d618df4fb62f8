-- The units of an input, and the bytes of each (docs/format.md, "Units, offsets and refusals").
-- What can only be refused is a unit too: so a unit can be complete and invalid.
use Rattle.std.specs.Prelude.{ℕ, List, [], ◌∷◌, ◌++◌, length, ℤ}
use Rattle.vms_kinds.specs.declared.Kind.{Kind}
use Rattle.vms_kinds.specs.Codes.{code}
use Rattle.vms_spec.specs.Streams.{be32, configuration, section_head, sub_head, foot, end_mark, trailer}

-- a unit of an input
pub data Piece : Type 0 where
  -- the first four bytes
  Magic : List ℕ → Piece
  -- the stream's version
  Version : ℕ → Piece
  -- a configuration with its name
  Configuration : List ℕ → Piece
  -- a mark, and a length that is too great for what this mark begins
  Long : ℕ → ℕ → Piece
  -- a full section head: id, name, instance and version
  Head : ℕ → List ℕ → ℕ → ℕ → Piece
  -- the number of a cell: the cell, its kind and the number
  Number : ℕ → Kind → ℤ → Piece
  -- the number that is in the place of a constant
  Constant : Kind → ℤ → Piece
  -- unused bytes
  Filler : List ℕ → Piece
  -- a subsection head: name and version
  SubHead : List ℕ → ℕ → Piece
  -- a footer with its id
  Foot : ℕ → Piece
  -- the end mark
  End : Piece
  -- a description section with its text
  Description : List ℕ → Piece
  -- a section start with mark 01: id and name
  Start : ℕ → List ℕ → Piece
  -- a mark that begins nothing
  Mark : ℕ → Piece

-- the bytes of a unit
abbrev pub spell : Piece → List ℕ
spell (Magic bytes) = bytes
spell (Version v) = be32 v
spell (Configuration name) = configuration name
spell (Long mark n) = mark ∷ be32 n
spell (Head id name instance v) = section_head id name instance v
spell (Number c kind z) = code kind z
spell (Constant kind z) = code kind z
spell (Filler bytes) = bytes
spell (SubHead name v) = sub_head name v
spell (Foot id) = foot id
spell End = end_mark
spell (Description text) = trailer text
spell (Start id name) = 0x01 ∷ be32 id ++ (length name ∷ name)
spell (Mark b) = b ∷ []

-- The bytes of a list of units. Lists of units begin with the latest: `x ∷ u` is u and then x.
abbrev pub spelled : List Piece → List ℕ
spelled [] = []
spelled (x ∷ u) = spelled u ++ spell x
