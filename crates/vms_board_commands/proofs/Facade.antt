-- The names of other crates, and of this crate's `specs`, that the proofs use.
pub use Rattle.std.proofs.{KnownBytes.Keeps-refl, Math.Nat.mod-add-mod, lemmas.Bool.or_right, lemmas.Option.same_Some, lemmas.Result.err_from_is_err_and}
pub use Rattle.std.proofs.Common.{Bool, Err, IfOk, IfSome, IsErrAnd, IsTrue, List, None, Ok, Option, Result, Some, [], ap, arith, drop, drop_at, eqb-true}
pub use Rattle.std.proofs.Common.{false, inl, inr, length, length-append, length-drop, map, refl, subst, suc, sym, true, zero, ℕ, ◌%◌, ◌*◌, ◌++◌}
pub use Rattle.std.proofs.Common.{◌+◌, ◌-◌, ◌/◌, ◌<◌, ◌^◌, ◌||◌, ◌∙◌, ◌∷◌, ◌≡◌, ◌≤◌}
pub use Rattle.std.specs.{Io.KnownBytes.Appends, Io.KnownBytes.Consumes, Prelude.IsSomeAnd, declared.alloc.Global.Global, declared.vec.Vec.Vec}
pub use Rattle.vms_kinds.specs.Bytes.{IsBytes}
pub use Rattle.vms_spec.specs.{Heads.FitsHeads, Images.Image, Sets.Set, WellFormed.WellFormed, declared.Reason.Reason}
pub use Rattle.vms_stream.proofs.Stated.{one_fault_holds}
pub use Rattle.vms_stream.specs.Faults.{Fault}
pub use Rattle.vms_board.proofs.Restoring.{within}
pub use Rattle.vms_board.specs.{Family.Family, Isa.isa, Standing.Standing, declared.save.SaveFault.SaveFault, Comes.IsRefused, Comes.RestoreReads}
pub use Rattle.vms_board.specs.{Restoring.Back, Restoring.Restore, Restoring.Restores, Saving.Saves, Saving.saved_stream}
pub use Rattle.vms_board_commands.specs.{Drill.drill_line, DrillEvents.events_after, DrillViews.IsInProgress, DrillViews.progress_view, Play.PlaysAll}
pub use Rattle.vms_board_commands.specs.{Play.ending_by, Save.saved_after, Scripts.longest_script, Scripts.said_lines, Scripts.scripted, Seen.Seen, Seen.SeenAs}
pub use Rattle.vms_board_commands.specs.{Seen.Sees, Seen.WithGiven, declared.drills.schedule.TheConstants.BETWEEN_SAVES}
pub use Rattle.vms_board_commands.specs.Causes.{drill_course, play_course, save_course, stream_course}
pub use Rattle.vms_board_commands.specs.DrillEventLaws.{EventsAreGood, SavesLeaveCounts}
pub use Rattle.vms_board_commands.specs.DrillLaws.{NumbersAre, ProgressIsSame, SizesAreSmall}
pub use Rattle.vms_board_commands.specs.DrillProgress.{Counts, Progress, back_of, counted, counted_all, drilled, saves_of, with_event}
pub use Rattle.vms_board_commands.specs.Drills.{Drill, drill_begun, drill_on, drilled_on, summary_of, with_drill_event}
pub use Rattle.vms_board_commands.specs.Load.{Faulty, LoadGives, Loads, Traces, Unfit}
unfoldable pub use Rattle.vms_board_commands.specs.{DrillEvents.event_by, DrillEvents.event_of, DrillEvents.next_number, Drills.bytes_after, Drills.taken_after}
unfoldable pub use Rattle.vms_board_commands.specs.DrillProgress.{after_save, came_back, is_save_due, set_of}
pub use Rattle.vms_board_streams.proofs.BoardStreams.{isa_are_short as streams_are_short, isa_laws}
pub use Rattle.vms_board_streams.proofs.FamilyLaws.{bytes_come, no_fault, one_restore}
pub use Rattle.vms_board_streams.specs.{Streams.after_events, Streams.answers_to, Streams.trace_of, declared.memory.TheConstants.STREAM_ROOM}
pub use Rattle.vms_commands.proofs.EndLemmas.{writes_serve, wrong, asked, draws_none, draws_took, looked_so, same_so, so_since, unshelved_so, writes_end}
pub use Rattle.vms_commands.proofs.EndLemmas.{comes_to_nothing, quiet_same, takes_nothing, text_written}
use Rattle.vms_commands.proofs.StepLemmas
pub use StepLemmas.{first_err, had_by, mapped_by, sound_fetch, sound_next, text_ends, then_as, then_text, ended_by, ending_mapped, ending_passed, fetched_gives}
pub use Rattle.vms_commands.specs.{Lines.refused_line, declared.ending.Ending.Ending, declared.ending.Ending.TheVariants.WouldLose}
pub use Rattle.vms_commands.specs.Courses.{Course, Draws, EndsSo, Risen, is_among, of_shelf, text_course}
pub use Rattle.vms_commands.specs.Endings.{EndsAs, EndsWith, SetCause, WritesAs, ending_of, status_of}
pub use Rattle.vms_commands.specs.Outcomes.{ComesTo, Outcome, Part, TakesBytes, done, ended, text_of}
pub use Rattle.vms_commands.specs.StepEndings.{Asks, FetchCause, HadCause, ReadCause, StepAs, TextEnds}
pub use Rattle.vms_commands.specs.Steps.{Ends, Gives, Step, Untold, next}
pub use Rattle.vms_commands.specs.declared.ending.Ending.TheVariants.{WriteFault, NoMemory, ReadFault, Refused, ShelfFault}
pub use Rattle.vms_frames.specs.declared.fault.Refusal.{Refusal}
pub use Rattle.vms_io.proofs.{ReadingLemmas.reads_as, ReadingLemmas.reads_told, WritingLemmas.serves_none, WritingLemmas.stops_prefix}
pub use Rattle.vms_io.specs.{Causes.Rose, Reading.Last, Reading.Reads, Reading.Takes, Shelves.Held, Shelves.HoldsAll, Shelving.Looks}
pub use Rattle.vms_io.specs.Told.{Intake, Outlet, Stock, intake, outlet, stock}
pub use Rattle.vms_load.proofs.ExactLoads.{fault_within}
pub use Rattle.vms_load.specs.{Going.LoadReads, Staging.most_given}
pub use Rattle.vms_script.proofs.GrammarLaws.{reads_exactly}
pub use Rattle.vms_script.specs.{Grammar.AreLines, Lines.ScriptLine, Script.script_read, Views.ReadsLines, Views.event_lines, Views.lines_view}
pub use Rattle.vms_script.specs.{declared.line.Line.Line, declared.line.ScriptFault.ScriptFault}
pub use Rattle.vms_session.proofs.CourseLemmas.{rose_since, begun_whole, are_events, events_back}
pub use Rattle.vms_session.proofs.EndLaws.{sessions_end, sessions_are_one}
pub use Rattle.vms_session.specs.{Events.events_of, Events.trace_from, Parts.Plays, Session.Session, declared.line.PlayFault.PlayFault}
pub use Rattle.vms_session.specs.Playing.{DoesSome, Goes, LinesEnd, session_of}
pub use Rattle.arrayvec.specs.ArrayVec.{ArrayVec}
pub use Rattle.dev_base.specs.{Levels.IsLevel, declared.limits.TheConstants.NEWEST}
pub use Rattle.dev_board.proofs.{RestoredLaws.restored_is_sound, WireLaws.names, SoundLaws.clock_goes_on, SoundLaws.power_on-sound, SoundLaws.sound_stays_on}
pub use Rattle.dev_board.proofs.SavedLaws.{alike_stays, likeness, saved_comes_back}
pub use Rattle.dev_board.specs.{Sound.Alike, Sound.IsSound, State.State, Step.after_all, Step.names_wire, Step.observe, Step.step, declared.event.Answer.Answer}
pub use Rattle.dev_board.specs.{declared.event.Event.Event, Laws.AreEvents, Laws.IsEvent, Saved.MaySaveUnder, Saved.carried, Saved.restored, Saved.saved}
pub use Rattle.dev_board.specs.declared.event.Event.TheVariants.{Ack, Byte, Read, Wait, Wire, Write}
unfoldable pub use Rattle.dev_board.specs.{State.power_on, Step.after_by, Step.answers_by}
pub use Rattle.dev_images.proofs.Carried.{saved_is_carried}
