-- The room of a line. Definitions cite each number by the constant that the code uses too. Here are the numbers.
use Rattle.std.specs.Prelude.{◌≡◌}
use Rattle.vms_values.specs.declared.line.TheConstants.{INDEX_ROOM, LONGEST, LONGEST_PATH, NUMBER_ROOM, PART_ROOM}

-- The numbers.
pub record LineLaw : Type 0 where
  -- the most bytes of a line: the longest path and a number
  pub line : LONGEST ≡ 2969
  -- the most bytes of a path: 65 fields, one inside the other
  pub path : LONGEST_PATH ≡ 2925
  -- the most bytes after a path: a number of 128 bits with its sign, and what is around it
  pub number : NUMBER_ROOM ≡ 44
  -- the most bytes of an element's number with its brackets
  pub index : INDEX_ROOM ≡ 12
  -- the most bytes of a field in a path: its name, an element's number and a dot
  pub part : PART_ROOM ≡ 45
