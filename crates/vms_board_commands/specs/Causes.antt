-- The statuses with which the commands of boards may end (docs/commands.md).
use Rattle.std.specs.Prelude.{Bool, true, false, [], ◌∷◌}
use Rattle.vms_commands.specs.Courses.{Course, of_shelf, text_course}

-- The course of `save`.
abbrev pub save_course : Course
save_course = text_course (0 ∷ 6 ∷ 10 ∷ []) [] true

-- The course of a command that allocates all memory and then reads a stream.
abbrev pub stream_course : Bool → Course
stream_course asks = text_course (0 ∷ 1 ∷ 5 ∷ 6 ∷ 10 ∷ []) (0 ∷ 1 ∷ 5 ∷ 6 ∷ []) asks

-- The course of `load`.
abbrev pub load_course : Course
load_course = stream_course true

-- The course of `drill`.
abbrev pub drill_course : Course
drill_course = text_course (0 ∷ 6 ∷ 10 ∷ []) [] false

-- The course of `play`.
abbrev pub play_course : Course
play_course = record {
  statuses = 0 ∷ 6 ∷ 10 ∷ of_shelf true;
  writes = 0 ∷ 6 ∷ 7 ∷ 10 ∷ [];
  takes = [];
  stores = 0 ∷ 6 ∷ 7 ∷ 10 ∷ [];
  asks = true;
}
