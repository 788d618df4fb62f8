-- Arguments that name a board, a script on it, or a number. See docs/commands.md, "Arguments".
use Rattle.std.specs.Prelude.{◌≡◌, ℕ, length, ◌≤◌, List, Option, Some, None, Result, Ok, Err}
use Rattle.vms_io.specs.Shelves.{Held}
use Rattle.vms_spec.specs.Spelling.{number_spelled}
use Rattle.dev_base.specs.Levels.{IsUpTo}
use Rattle.vms_script.specs.Lines.{ScriptLine}
use Rattle.vms_script.specs.Script.{script_read}
use Rattle.vms_script.specs.Views.{number_read}
use Rattle.vms_script.specs.declared.line.ScriptReason.{ScriptReason}
use Rattle.vms_commands.specs.Kinds.{newest_of}
use Rattle.vms_commands.specs.SetWords.{BoardWord, BoardOf}
use Rattle.vms_commands.specs.declared.kinds.BoardKind.TheVariants.{Isa}
use Rattle.vms_board_commands.specs.Scripts.{longest_script}

-- An existing board.
abbrev pub IsBoard : BoardWord → Type 0
IsBoard (BoardOf kind number) = IsUpTo (newest_of kind) number

-- The level of a board, if it is one of isa-1 to isa-4.
abbrev pub isa_level : Option BoardWord → Option ℕ
isa_level (Some (BoardOf Isa level)) = Some level
isa_level _ = None

-- The number of a result, if it has one.
abbrev pub told : Result ℕ ScriptReason → Option ℕ
told (Ok n) = Some n
told (Err reason) = None

-- The number below 2^64 whose decimal text a word is.
abbrev pub number_word : List ℕ → Option ℕ
number_word word = told (number_read (number_spelled word))

-- A script under a name, which isn't too long and is in its grammar; on a board of the level, if one is given.
pub record CanBeRead (play : Option ℕ) (name : List ℕ) (map : Held) : Type 0 where
  pub text : List ℕ
  pub held : map name ≡ Some text
  pub short : length text ≤ longest_script
  pub lines : List ScriptLine
  pub reads : script_read play text ≡ Ok lines
