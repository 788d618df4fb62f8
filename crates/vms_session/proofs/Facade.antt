-- The names of other crates, and of this crate's `specs`, that the proofs use.
pub use Rattle.std.proofs.{KnownBytes.Appends-nil, KnownBytes.Appends-trans, lemmas.Bool.Decides.nat_tests, lemmas.List.drop_all, lemmas.List.drop_more}
pub use Rattle.std.proofs.{lemmas.List.take_all, lemmas.Result.err_from_is_err_and, lemmas.Slice.Eq.bytes_eq-Decides, Common.◌≤◌, Common.◌⊎◌}
pub use Rattle.std.proofs.Common.{Bool, Err, List, None, Ok, Option, Result, Some, [], ap, append-nil, append_assoc, arith, drop, false, get_or, if◌then◌else◌}
pub use Rattle.std.proofs.Common.{inl, inr, length, length-append, map, nat_lt, refl, subst, suc, sym, take, true, zero, ℕ, ⊎_elim, ◌++◌, ◌+◌, ◌<◌, ◌∙◌, ◌∷◌, ◌≡◌, ◌≢◌}
pub use Rattle.std.specs.{Io.KnownBytes.Appends, List.slice_get, Prelude.slice_set, Str.bytes_eq}
pub use Rattle.vms_kinds.specs.Bytes.{IsBytes}
pub use Rattle.vms_spec.proofs.ListsAndNumbers.{none_left}
pub use Rattle.vms_spec.specs.{Images.Image, Images.IsNormal, Sets.Device, Sets.Set, Streams.EachOnce, declared.Reason.Reason}
pub use Rattle.vms_stream.specs.Streams.{HasSection, SectionsSpell}
pub use Rattle.vms_board.specs.{Family.Family, Family.MaySaveIn, Isa.isa, Saving.saved_stream}
pub use Rattle.vms_board.specs.Restoring.{Back, Refused, Restore, Restores, TakesBoard}
pub use Rattle.vms_board_streams.proofs.BoardStreams.{isa_are_bytes as streams_are_bytes, isa_laws}
pub use Rattle.vms_board_streams.specs.{Sets.AreOf, Streams.after_events}
pub use Rattle.vms_commands.specs.Fetching.{longest_file}
pub use Rattle.vms_commands.specs.Outcomes.{FailsToStore, HoldsBut, Part, held_after, stored_next, text_begun, text_of}
pub use Rattle.vms_desc.specs.Formed.{shipped_set}
pub use Rattle.vms_io.proofs.{PutLemmas.puts_bytes, ShelvingLemmas.reaches_both, ShelvingLemmas.reaches_none, ShelvingLemmas.stores_told}
pub use Rattle.vms_io.proofs.WritingLemmas.{leaves_all, leaves_none, leaves_rest, leaves_stop, serves_both, serves_none}
pub use Rattle.vms_io.specs.{Causes.Rose, Shelving.Reaches, Told.Outlet, Told.Stock, Told.outlet, Told.stock, Writing.Serves}
pub use Rattle.vms_io.specs.Shelves.{Held, HoldsAll, HoldsBytes, PutsUnder}
pub use Rattle.vms_script.specs.{Grammar.AreLines, Grammar.IsLine, Trace.trace_line, declared.line.Line.Line, Lines.Happens, Lines.Saves, Lines.ScriptLine}
pub use Rattle.vms_script.specs.{Lines.is_set_of, Views.event_lines, Views.line_view, Views.lines_view, Views.session_view}
pub use Rattle.vms_session.specs.{Events.events_of, Events.trace_from, Parts.Plays, Parts.part_of, declared.line.PlayFault.PlayFault}
pub use Rattle.vms_session.specs.Laws.{BringsNone, GoesOnWithout, HasAnEnd, IsLarge, IsMissing, IsOneCourse, IsOneEnd, IsRefused, LevelStays, LinesAreOne}
pub use Rattle.vms_session.specs.Laws.{ReadsBytes, RefusalsLeave, SessionsAreOne, SessionsEnd, SessionsStaySound}
pub use Rattle.vms_session.specs.Lines.{missing_line, refused_line, restored_line, saved_line, too_large_line}
pub use Rattle.vms_session.specs.Playing.{DoesSome, Goes, HasPlayCause, LinesEnd, WritesText, session_of}
pub use Rattle.vms_session.specs.Session.{ComesTo, Does, IsLoaded, IsTooLarge, Leaves, LoadsBytes, LoadsHeld, Session}
pub use Rattle.vms_session.specs.declared.line.PlayFault.TheVariants.{NoMemory, ShelfFault, WriteFault}
pub use Rattle.dev_base.specs.{Levels.IsLevel, declared.limits.TheConstants.NEWEST}
pub use Rattle.dev_board.proofs.{SoundLaws.clock_goes_on, SoundLaws.sound_stays_on, RestoredLaws.restored_is_sound, WireLaws.names}
pub use Rattle.dev_board.specs.{Saved.AreBoardCells, Sound.IsSound, State.State, Step.step, declared.event.Event.Event, Laws.AreEvents, Laws.IsEvent}
pub use Rattle.dev_board.specs.declared.event.Event.TheVariants.{Byte, Read, Wire, Write}
unfoldable pub use Rattle.dev_board.specs.Step.{after_by, answers_by}
pub use Rattle.dev_images.proofs.NormalCells.{normal_may_be_restored}
pub use Rattle.dev_images.specs.Images.{cells_in}
