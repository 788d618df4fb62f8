-- The names of other crates, and of this crate's `specs`, that the proofs use.
pub use Rattle.std.proofs.{lemmas.Bool.ltb-true, lemmas.Bool.and_parts, lemmas.Bool.Decides.nat_tests, lemmas.Fmt.decimal_digit}
pub use Rattle.std.proofs.{lemmas.Result.err_from_is_err_and, lemmas.Slice.Eq.bytes_eq-Decides, Math.Nat.le-max_left, Math.Nat.le-max_right, Common.◌≡◌}
pub use Rattle.std.proofs.{Common.◌≤◌, Common.◌⊎◌, lemmas.Option.none-some, lemmas.Option.slice_get-get_or}
pub use Rattle.std.proofs.Common.{Bool, Err, IfSome, IsErrAnd, IsSomeAnd, List, None, Ok, Option, Result, Some, [], ap, append-nil, arith, codes, false, get_or}
pub use Rattle.std.proofs.Common.{⊎_elim, cond, ◌==◌, if◌then◌else◌, inl, inr, le_refl, length, length-append, map, max, nat_lt, refl, rules, subst}
pub use Rattle.std.proofs.Common.{suc, sym, take, take_all, true, zero, ℕ, ℤ, ◌++◌, ◌+◌, ◌-◌, ◌<◌, ◌^◌, ◌∙◌, ◌∷◌}
pub use Rattle.std.proofs.lemmas.List.{drop_at, get_or-map, length-map, length-take}
pub use Rattle.std.specs.{Fmt.decimal, Io.KnownBytes.Appends, Io.KnownBytes.Keeps, List.list_all, Option.ForSome, Option.option_map, Prelude.string_bytes}
pub use Rattle.std.specs.{Result.MatchResult, Str.bytes_eq, declared.alloc.Global.Global, declared.vec.Vec.Vec}
unfoldable pub use Rattle.std.specs.Fmt.{digits}
pub use Rattle.vms_kinds.specs.Bytes.{IsBytes}
pub use Rattle.vms_spec.specs.{Good.IsFit, Heads.FitsHeads, Sets.Device, Sets.Set, Values.values_text, WellFormed.WellFormed, declared.Reason.Reason}
pub use Rattle.vms_spec.specs.{declared.TheConstants.LONGEST_TEXT, Layout.device_cells, Layout.no_desc, Lists.at_option, Lists.or_else, Images.Image}
pub use Rattle.vms_spec.specs.{Images.default_image, ValuesReading.Bad, ValuesReading.Values, ValuesReading.ValuesRead, ValuesReading.values_read}
pub use Rattle.vms_spec.specs.Streams.{AreReady, IsConfiguration, configuration, end_mark, is_one_of, optional, stream_head, trailer, written, written_sections}
unfoldable pub use Rattle.vms_spec.specs.Layout.{first}
pub use Rattle.vms_stream.proofs.Stated.{further_holds, either_holds, never_both_holds, one_fault_holds, one_stream_holds}
pub use Rattle.vms_stream.specs.{Faults.Fault, StreamLaws.Answer, StreamLaws.Faulty, StreamLaws.Taken, Streams.Takes}
pub use Rattle.vms_elements.specs.{Parts.cell_name, Parts.device_elements, Parts.names_of, Reading.IsMachineOf}
pub use Rattle.vms_analyze.proofs.One.{one_holds, total_holds}
pub use Rattle.vms_analyze.specs.{Laws.HasListing, declared.fault.AnalyzeFault.AnalyzeFault, declared.fault.AnalyzeReason.AnalyzeReason}
pub use Rattle.vms_analyze.specs.Calls.{Analyzes, IsListed, IsTooMuch, ListsTaken}
pub use Rattle.vms_analyze.specs.Listing.{HasNoShape, HasNone, IsRead, IsTooLong, Listing, Lists, Text, longest_input}
pub use Rattle.vms_board.specs.{Isa.isa, IsaStands.isa_stands, Restoring.Back, Restoring.Restores, Saving.stream_with}
pub use Rattle.vms_board.specs.Family.{Family, IsNumber, images_saved, lists_in}
unfoldable pub use Rattle.vms_board.specs.Saving.{saved_stream}
pub use Rattle.vms_board_commands.proofs.RunLemmas.{other_seen, reads_all, among_left, kept_so, wrote_so, refused_so, save_asks, shelf_has, stream_asks}
pub use Rattle.vms_board_commands.proofs.RunLemmas.{text_asks, traced_so, behind_runs, lacks_runs, lacks_text, seen_runs, then_runs, unread_runs, seen_given}
pub use Rattle.vms_board_commands.proofs.RunLemmas.{seen_lost, seen_refused, seen_written, sees_as, TakesSo, content_seen, load_seen}
pub use Rattle.vms_board_commands.proofs.ScriptCommands.{loads_one, has_end, one_outcome, script_gives, scripted_lines, sound_saved, sound_script}
pub use Rattle.vms_board_commands.specs.{Drill.drill_line, Play.PlaysAll, Save.saved_after, Scripts.scripted, Runs.Frame, Runs.Runs, Runs.Task, Runs.moment}
pub use Rattle.vms_board_commands.specs.{Seen.Seen, Seen.SeenAs, Seen.Sees, Seen.WithGiven, Load.Loads, Load.LoadsBy, Load.Traces, Load.Unfit}
pub use Rattle.vms_board_streams.proofs.FamilyLaws.{takes_under}
pub use Rattle.vms_board_streams.specs.Streams.{BoardsGoOn, after_events, answers_to, trace_of}
pub use Rattle.vms_check.specs.{Carrying.carried, Comparing.Compatible, Comparing.first_mismatch, declared.mismatch.Mismatch.Mismatch}
pub use Rattle.vms_check_laws.proofs.Streaming.{upgrade_stands}
pub use Rattle.vms_cli.specs.{Answers.HasOutcome, Answers.Verdict, Causes.WritesBy, ClockSets.ClockSetsLaw, Entry.Entry, Limits.LimitsLaw, TwoSets.sets_of}
pub use Rattle.vms_cli.specs.{declared.commands.pack.PackParts.PackParts, declared.two_sets.TwoSets.TwoSets, Boards.IsBoard, Boards.isa_level}
pub use Rattle.vms_cli.specs.{Program.OutFlushed, Program.OutLate, Commands.LoadCommand.load_entry, Statuses.course_of, Commands.PackCommand.named_parts}
pub use Rattle.vms_cli.specs.{Commands.PackCommand.pack_entry, Rows.CanAnswer, Rows.ComesSeen, Rows.DoesSeen, Rows.HasCause}
pub use Rattle.vms_cli.specs.AnalyzeLaws.{PackThenAnalyzeLaw, PrintsAlike, SaveThenAnalyzeLaw, ShowThenAnalyzeLaw}
pub use Rattle.vms_cli.specs.Commands.{Analyze, Asked, Check, Convert, Counter, Drill, Load, Pack, Play, Save, Show, asked_of, drill_of, entry_of, of_both}
pub use Rattle.vms_cli.specs.Commands.{save_of, save_on, task_of, with_file, PlayCommand.play_entry, DrillCommand.drill_entry}
pub use Rattle.vms_cli.specs.Commands.AnalyzeCommand.{EndsLike, FailsReading, FailsWriting, GivesListed, IsListing, IsRefused, analyze_course, analyze_entry}
pub use Rattle.vms_cli.specs.Commands.AnalyzeCommand.{bytes_taken, listing_outcome, unlisted_line}
pub use Rattle.vms_cli.specs.Commands.CheckCommand.{AreCompatible, asks_shelf, check_entry, checked, compared, compatible_text, verdict}
use Rattle.vms_cli.specs.Commands.ConvertCommand
pub use ConvertCommand.{CanBeConverted, ConvertGives, Converts, ConvertsBy, ConvertsStream, ConvertsWell, ConvertsWith, IsDone, IsInNewest, IsLost, IsMismatch}
pub use ConvertCommand.{LacksLine, LacksMemory, NamesCell, Rewrites, WouldLose, agreed, agrees, convert_course, convert_entry, lost_line, newest, target}
pub use Rattle.vms_cli.specs.Commands.CounterCommand.{Answers, CountersBy, counted, counter_entry, counter_text, no_state}
pub use Rattle.vms_cli.specs.Commands.PackCommand.{packed, packed_by, packed_parts, packs, parts_of, with_values, CanBePacked, Parts, described_stream}
pub use Rattle.vms_cli.specs.Commands.SaveCommand.{save_entry, saved_on}
pub use Rattle.vms_cli.specs.Commands.ShowCommand.{CanBeShown, GivesWithin, Refuses, Shows, ShowsBy, ShowsWell, show_course, show_entry}
pub use Rattle.vms_cli.specs.Continuation.{Continuation, ContinuesBy, goes_on}
pub use Rattle.vms_cli.specs.ConvertLaws.{ConvertAgainLaw, ConvertThenAnalyzeLaw, ConvertThenLoadLaw, StandsFor}
pub use Rattle.vms_cli.specs.Laws.{AmpleLaw, AskedLaw, CanBeAsked, CanBeDone, CheckThenShowLaw, CompleteLaw, HasOne, HasOneOutcome, HasRoom, IsAmple, NoneRises}
pub use Rattle.vms_cli.specs.Laws.{OutcomeLaw, PackThenShowLaw, PromisesKept, ShowThenPackLaw}
pub use Rattle.vms_cli.specs.States.{AlwaysNamedLaw, Prints, RefusesSo, StateLaw}
pub use Rattle.vms_cli.specs.Upgrade.{IsWritten, Upgrade, UpgradesTo, shown_newer}
unfoldable pub use Rattle.vms_cli.specs.Commands.{pair_of, single_of, triple_of}
pub use Rattle.vms_commands.proofs.{EndLemmas.ends_with, EndLemmas.kept_none, NamedSets.FitStep, NamedSets.fit_text, NamedSets.fit_word}
pub use Rattle.vms_commands.proofs.EndLemmas.{outcome_so, same_keeps, draws_none, draws_took, writes_end, wrong, around, comes_to_nothing}
pub use Rattle.vms_commands.proofs.StepLemmas.{IsSound, ending_passed, fetched_gives, first_err, had_by, one_text, sound_fetch, sound_next, sound_set}
pub use Rattle.vms_commands.proofs.StepLemmas.{sound_sets, sound_word, sound_word_set, then_as}
pub use Rattle.vms_commands.specs.{Asks.set_asked, SetLines.mismatch_line, declared.ending.Ending.Ending, SetWords.set_word, Kinds.board_front}
pub use Rattle.vms_commands.specs.{Kinds.first_kind, Kinds.kinds, Kinds.set_front, declared.kinds.BoardKind.TheVariants.Isa}
pub use Rattle.vms_commands.specs.Courses.{EndsSo, Risen, Stands, is_among, of_shelf, text_course}
pub use Rattle.vms_commands.specs.Endings.{Caused, EndsAs, Tells, WritesAs, ending_of, line_of, status_of}
pub use Rattle.vms_commands.specs.Fetching.{SetText, fetched, fetched_set, is_on_shelf, longest_file, named_sets, set_in, sets_in, word_set}
pub use Rattle.vms_commands.specs.Lines.{bad_words, out_of_memory, read_fault, refused_line, shelf_fault, write_fault}
pub use Rattle.vms_commands.specs.Outcomes.{ComesTo, Does, DoesOrStops, FailsToStore, HasPart, NotesFault, OutFault, Outcome, Outside, Part, ShelfFault}
pub use Rattle.vms_commands.specs.Outcomes.{TellsShelfFault, WantsMemory, done, ended, text_begun}
pub use Rattle.vms_commands.specs.SetWords.{BoardOf, BoardWord, SetOf, SetWord, Shipped, ShippedSet, board_word, named_set, number_after}
pub use Rattle.vms_commands.specs.StepEndings.{StepAs, TextEnds, WrittenAs, text_of}
pub use Rattle.vms_commands.specs.Steps.{Both, Ends, Gives, HasBy, HasText, Step, Untold, both, next}
pub use Rattle.vms_commands.specs.declared.ending.Ending.TheVariants.{Refused}
pub use Rattle.vms_convert.proofs.Answered.{answered}
pub use Rattle.vms_convert.proofs.Converts.{converts_stand, ready, same_backs, newest_kinds, one_lost, recast_long}
pub use Rattle.vms_convert.specs.{Laws.AreRecastOf, Recast.wants_arrays, declared.fault.ConvertFault.ConvertFault, Calls.IsStreamFor, Calls.LosesFirst}
pub use Rattle.vms_convert.specs.Converted.{AreBack, recast_each}
pub use Rattle.vms_convert.specs.Lost.{KeepsAll, Loses, OfCell, OfDevice, OfMachine, first_cell, numbers_in}
pub use Rattle.vms_counter.specs.{Found.answer_of, declared.finding.Finding.Finding}
pub use Rattle.vms_counter_laws.proofs.Stated.{machine_known, one_answer_holds, always_holds, computed_holds, named_holds}
pub use Rattle.vms_counter_laws.specs.{Computed.computed, Counters.Counters, Counters.Finds}
pub use Rattle.vms_desc.proofs.{AskLaws.few_cells, Clean.fit_of}
pub use Rattle.vms_desc.specs.{Described.described, Described.device_at, Formed.is_well_formed}
pub use Rattle.vms_frames.specs.declared.fault.Refusal.{Refusal}
pub use Rattle.vms_image.specs.Typed.{AreImagesOf, Typed, state_of}
pub use Rattle.vms_io.proofs.{ShelvingLemmas.looks_reaches, WritingLemmas.serves_none, WritingLemmas.wrote_behind}
pub use Rattle.vms_io.proofs.ReadingLemmas.{nothing_follows, reads_as}
pub use Rattle.vms_io.specs.{Shelves.Held, Shelves.HoldsAll, Shelving.Looks, Writing.Serves, Causes.AppendsPrefix, Causes.KeepsPromise, Causes.Rose}
pub use Rattle.vms_io.specs.Reading.{Course, Last, MayFollow, Reads}
pub use Rattle.vms_io.specs.Told.{Intake, Outlet, Stock, intake, outlet, stock}
pub use Rattle.vms_load.proofs.{ExactLoads.loads_kept, ExactLoads.taken_kept, ExactLoads.within, StreamLengths.well_of}
pub use Rattle.vms_load.specs.{Going.LoadReads, Good.AreKept, Lean.has, Lean.loads, Lean.taken_by}
pub use Rattle.vms_load.specs.Staging.{AreShaped, accepted_of, most_given, name_of, no_image}
pub use Rattle.vms_script.proofs.GrammarLaws.{reads_exactly}
pub use Rattle.vms_script.specs.{Lines.ScriptLine, Names.is_shelf_name}
pub use Rattle.vms_selfdesc.proofs.Lengths.{short_holds}
pub use Rattle.vms_selfdesc.specs.Tree.{described_text}
pub use Rattle.vms_session.proofs.CourseLemmas.{after_number, lines_are_events}
pub use Rattle.vms_session.specs.Events.{events_of}
pub use Rattle.vms_values.specs.{Printing.AreOf, Printing.IsOf, Printing.machine_of, Reading.ReadsAs}
pub use Rattle.vms_values_laws.proofs.Stated.{accepted_holds, printed_holds, written_only}
pub use Rattle.arrayvec.specs.ArrayVec.{ArrayVec}
pub use Rattle.dev_base.specs.{Levels.IsLevel, Levels.ReachesSet, declared.limits.TheConstants.NEWEST}
pub use Rattle.dev_board.specs.{Laws.AreEvents, State.State, declared.event.Event.Event}
pub use Rattle.dev_clock_images.proofs.ClockImages.{sets_are_compatible}
pub use Rattle.dev_serial.proofs.RecastLaws.{recast_restores}
pub use Rattle.dev_serial.specs.Recast.{recast_cells}
