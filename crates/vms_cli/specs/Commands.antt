-- The commands: what can be asked, by which arguments, and what each command is. See docs/commands.md.
pub mod AnalyzeCommand
pub mod CheckCommand
pub mod ConvertCommand
pub mod CounterCommand
pub mod DrillCommand
pub mod LoadCommand
pub mod PackCommand
pub mod PlayCommand
pub mod SaveCommand
pub mod ShowCommand
use Rattle.std.specs.Prelude.{◌≡◌, ℕ, false, if◌then◌else◌, List, [], ◌∷◌, Option, Some, None, codes}
use Rattle.std.specs.Option.{option_map}
use Rattle.std.specs.Str.{bytes_eq}
use Rattle.vms_script.specs.Names.{is_shelf_name}
use Rattle.vms_commands.specs.Asks.{board_asked, set_asked}
use Rattle.vms_commands.specs.Lines.{bad_words}
use Rattle.vms_commands.specs.Outcomes.{ended}
use Rattle.vms_commands.specs.SetWords.{BoardWord, ShippedSet, SetWord, board_word, set_word, shipped_word}
use Rattle.vms_board_commands.specs.Runs.{Task, unread_task}
use Rattle.vms_cli.specs.Asks.{saved_asked}
use Rattle.vms_cli.specs.Boards.{isa_level, number_word}
use Rattle.vms_cli.specs.Commands.AnalyzeCommand.{analyze_entry}
use Rattle.vms_cli.specs.Commands.CheckCommand.{check_entry}
use Rattle.vms_cli.specs.Commands.ConvertCommand.{convert_entry, convertible}
use Rattle.vms_cli.specs.Commands.CounterCommand.{counter_entry}
use Rattle.vms_cli.specs.Commands.DrillCommand.{drill_entry, few_events}
use Rattle.vms_cli.specs.Commands.LoadCommand.{load_entry}
use Rattle.vms_cli.specs.Commands.PackCommand.{pack_entry}
use Rattle.vms_cli.specs.Commands.PlayCommand.{play_entry}
use Rattle.vms_cli.specs.Commands.SaveCommand.{save_entry, saved_set}
use Rattle.vms_cli.specs.Commands.ShowCommand.{show_entry}
use Rattle.vms_cli.specs.Entry.{Entry}
use Rattle.vms_cli.specs.declared.commands.Command.{Command}
use Rattle.vms_cli.specs.declared.commands.Command.TheVariants as code

-- A command with its arguments.
pub data Asked : Type 0 where
  Show : SetWord → Asked
  Convert : SetWord → Asked
  Analyze : Asked
  Pack : SetWord → List ℕ → Asked
  Check : (old new : SetWord) → Asked
  Counter : (old new : SetWord) → Asked
  Save : BoardWord → ℕ → List ℕ → Asked
  Load : BoardWord → List ℕ → Asked
  Drill : (level seed count : ℕ) → Asked
  Play : ℕ → List ℕ → Asked

-- What each command has to do, what its words ensure, and what it needs.
abbrev pub entry_of : Asked → Entry
entry_of (Show set) = show_entry set
entry_of (Convert set) = convert_entry set
entry_of Analyze = analyze_entry
entry_of (Pack set values) = pack_entry set values
entry_of (Check old new) = check_entry old new
entry_of (Counter old new) = counter_entry old new
entry_of (Save board set script) = save_entry board set script
entry_of (Load board script) = load_entry board script
entry_of (Drill level seed count) = drill_entry level seed count
entry_of (Play level script) = play_entry level script

-- The command that the code's value means.
abbrev pub asked : Command → Asked
asked (code.Show set) = Show (set_asked set)
asked (code.Convert set) = Convert (set_asked set)
asked code.Analyze = Analyze
asked (code.Pack set values) = Pack (set_asked set) values.now
asked (code.Check old new) = Check (set_asked old) (set_asked new)
asked (code.Counter old new) = Counter (set_asked old) (set_asked new)
asked (code.Save board script) = Save (saved_asked board).0 (saved_asked board).1 script.now
asked (code.Load board script) = Load (board_asked board) script.now
asked (code.Drill board seed count) = Drill board.level seed count
asked (code.Play board script) = Play board.level script.now

-- ---- the arguments

-- Two sets that arguments name.
abbrev pub of_both : (SetWord → SetWord → Asked) → Option SetWord → Option SetWord → Option Asked
of_both ask (Some old) (Some new) = Some (ask old new)
of_both ask _ _ = None

-- What an argument names, and the name of a file on the shelf.
abbrev pub with_file : {A : Type 0} → (A → List ℕ → Asked) → Option A → List ℕ → Option Asked
with_file ask None name = None
with_file ask (Some what) name = if is_shelf_name name then Some (ask what name) else None

-- A command with one argument.
unfoldable pub single_of : List ℕ → List ℕ → Option Asked
single_of name set =
    if bytes_eq name (codes "show") then option_map Show (set_word set)
    else if bytes_eq name (codes "convert") then option_map Convert (convertible (set_word set)) else None

-- A command with two arguments.
unfoldable pub pair_of : List ℕ → List ℕ → List ℕ → Option Asked
pair_of name one other =
    if bytes_eq name (codes "check") then of_both Check (set_word one) (set_word other)
    else if bytes_eq name (codes "counter") then of_both Counter (set_word one) (set_word other)
    else if bytes_eq name (codes "pack") then with_file Pack (set_word one) other
    else if bytes_eq name (codes "load") then with_file Load (board_word one) other
    else if bytes_eq name (codes "play") then with_file Play (isa_level (board_word one)) other else None

-- The command `drill` of a level, a seed and a number of events.
abbrev pub drill_of : Option ℕ → Option ℕ → Option ℕ → Option Asked
drill_of (Some level) (Some seed) (Some count) = Some (Drill level seed count)
drill_of _ _ _ = None

-- The command `save` of a script on a board, under a shipped set.
abbrev pub save_on : (script : List ℕ) → Option BoardWord → Option ShippedSet → Option Asked
save_on script (Some board) (Some set) = option_map (λ number. Save board number script) (saved_set board set)
save_on script _ _ = None

-- The same, if the script's name is one of the shelf.
abbrev pub save_of : Option BoardWord → Option ShippedSet → (script : List ℕ) → Option Asked
save_of board set script = if is_shelf_name script then save_on script board set else None

-- A command with three arguments.
unfoldable pub triple_of : List ℕ → List ℕ → List ℕ → List ℕ → Option Asked
triple_of name one two three =
    if bytes_eq name (codes "drill") then drill_of (isa_level (board_word one)) (number_word two) (few_events (number_word three))
    else if bytes_eq name (codes "save") then save_of (board_word one) (shipped_word two) three else None

-- The command that the arguments form, if any.
abbrev pub asked_of : List (List ℕ) → Option Asked
asked_of (name ∷ []) = if bytes_eq name (codes "analyze") then Some Analyze else None
asked_of (name ∷ set ∷ []) = single_of name set
asked_of (name ∷ one ∷ other ∷ []) = pair_of name one other
asked_of (name ∷ one ∷ two ∷ three ∷ []) = triple_of name one two three
asked_of _ = None

-- ---- what is to be done

-- The task of arguments that form no command. It ends with 2, or with 6 if standard error fails.
abbrev pub unnamed_task : Task
unnamed_task =
    unread_task (λ held o. o ≡ ended 2 bad_words 0) (record { statuses = 2 ∷ 6 ∷ []; writes = []; takes = []; stores = []; asks = false })

-- The task of a command, or of arguments that form none.
abbrev pub task_of : Option Asked → Task
task_of None = unnamed_task
task_of (Some asked) = (entry_of asked).task

-- The task of a command.
abbrev pub doing : Asked → Task
doing asked = task_of (Some asked)
