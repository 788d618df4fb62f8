-- The statuses that each command can return, and what it touches with each. See docs/commands.md, "Statuses and
-- error lines".
use Rattle.std.specs.Prelude.{ℕ, Bool, List, Option}
use Rattle.vms_commands.specs.Courses.{Course, is_among}
use Rattle.vms_cli.specs.Commands.{Asked, task_of}

-- The course of a command, or of arguments that form none.
abbrev pub course_of : Option Asked → Course
course_of asked = (task_of asked).course

-- The statuses that the command can return.
abbrev pub statuses_of : Option Asked → List ℕ
statuses_of asked = (course_of asked).statuses

-- The statuses with which standard output may have been written: all of the text, or a prefix of it; for a session
-- also the traces of its first lines.
abbrev pub writes_at : Option Asked → List ℕ
writes_at asked = (course_of asked).writes

-- The statuses with which some input may have been read.
abbrev pub takes_at : Option Asked → List ℕ
takes_at asked = (course_of asked).takes

-- The statuses with which the shelf may have changed: a session stores on it.
abbrev pub stores_at : Option Asked → List ℕ
stores_at asked = (course_of asked).stores

-- Whether the shelf is used.
abbrev pub asks : Option Asked → Bool
asks asked = (course_of asked).asks

-- Whether the command reads its input.
abbrev pub reads : Option Asked → Bool
reads asked = is_among (takes_at asked) 0
