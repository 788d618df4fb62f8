-- The names of other crates, and of this crate's `specs`, that the proofs use.
pub use Rattle.std.proofs.Common.{Bool, Err, IsErrAnd, List, None, Ok, Option, Result, Some, [], ap, append_assoc, arith, drop, drop_at, false, get_or}
pub use Rattle.std.proofs.Common.{if◌then◌else◌, length, length-append, length-drop, nat_lt, not, refl, rules, slice_index, subst, suc, sym, take}
pub use Rattle.std.proofs.Common.{take-append-drop, take_all, take_at, true, zero, ℕ, ℤ, ◌&&◌, ◌++◌, ◌+◌, ◌-◌, ◌<◌, ◌==◌, ◌^◌}
pub use Rattle.vms_frames.specs.Calls.{AnswersAfter, AnswersBehind, AnswersEnd, AnswersHead, AnswersSeen, ReadsEnd, ReadsNumber, after_of, behind_long, due_of}
pub use Rattle.vms_frames.specs.Reads.{BehindReads, BetweenReads, CutsShort, EndReads, Grows, HeadReads, IsLong, Passes, ReadsAs, ReadsBehind, ReadsCode}
pub use Rattle.vms_frames.specs.Reads.{ReadsFoot, ReadsMagic, ReadsNext, ReadsStep, ReadsSub, ReadsText, ReadsTrailer, ReadsUnit, ReadsVersion}
pub use Rattle.vms_frames.specs.Reads.{configuration_seen, described, foot_seen, head_seen, held_bytes, IsStartReason, start_seen, sub_long, IsMarkReason}
use Rattle.vms_io.proofs.ReadingLemmas
pub use ReadingLemmas.{takes_both, takes_none, breaks_more, misses_more, nothing_follows, reads_as, reads_behind, reads_both, reads_last, takes_as}
pub use Rattle.std.proofs.{lemmas.Int.to_z-of_z, lemmas.Option.same_Some, lemmas.Slice.Eq.bytes_eq-Decides, lemmas.Result.on_ok_weaker}
pub use Rattle.std.proofs.{lemmas.Result.IfErr-weaker, Common.◌∙◌, Common.◌∷◌, Common.◌≡◌, Common.◌≤◌}
pub use Rattle.std.proofs.lemmas.List.{append-nil, get_or-take, length-take-le, take-append-le}
pub use Rattle.std.proofs.lemmas.Bool.{eq-eqb, false_from_ne_true, le-ltb, lt-ltb, ltb-true, ne_eqb}
pub use Rattle.std.specs.{Int.w128, Str.bytes_eq}
pub use Rattle.vms_kinds.specs.{declared.Kind.Kind, Codes.IsBadBool, Codes.value_of, Codes.width}
pub use Rattle.vms_spec.specs.{declared.Reason.Reason, Streams.longest_text, Streams.magic, Lookup.bytes_at, Lookup.is_bad_bool, Lookup.number_at}
pub use Rattle.vms_spec.specs.declared.TheConstants.{LONGEST_NAME, LONGEST_TEXT}
pub use Rattle.vms_spec.specs.Units.{Description, End, Foot, Long, Magic, Number, Piece, Start, Version}
pub use Rattle.vms_bodies.proofs.{Places.if_both, BodyOnly.if_false, Heads.bad_same, Heads.raw_same}
pub use Rattle.vms_stream.proofs.Calls.{foot_row}
pub use Rattle.vms_stream.specs.{Taking.nothing_known, Table.first_row, Finding.text_at, Finding.sub_at, SoFar.Unknown, Finding.Whole, Finding.needs, Seen.Good}
pub use Rattle.vms_stream.specs.{SoFar.Footed, Seen.seen_by, Seen.seen_in, Table.alone, SoFar.Known, Finding.Cut, Seen.Short, Seen.Seen, Seen.seen, Seen.Bad}
pub use Rattle.vms_stream.specs.Dues.{AMagic, AVersion, AfterEnd, AfterFields, Due, Field, is_foot, raw}
pub use Rattle.vms_frames.specs.{declared.fault.FrameFault.TheVariants.ReadFault, declared.fault.FrameFault.TheVariants.Refused, declared.units.Between.Between}
pub use Rattle.vms_frames.specs.{declared.units.Between.TheVariants.First, declared.units.Step.TheVariants.Section, declared.units.Behind.TheVariants.Done}
pub use Rattle.vms_frames.specs.{declared.units.Behind.TheVariants.Next, declared.units.Behind.TheVariants.Sub, declared.fault.FrameFault.FrameFault}
pub use Rattle.vms_frames.specs.{declared.units.Behind.Behind, declared.units.Step.Step, declared.units.Tail.Tail, Reads.sub_seen, Reads.CutsHead}
pub use Rattle.vms_frames.specs.Calls.{held_of, in_section, step_long, tail_of, unit_of_step}
pub use Rattle.vms_io.specs.{Told.Intake, Told.intake, Reading.Breaks, Reading.Takes}
pub use Rattle.vms_marks.specs.{declared.sub_head.TheConstants.LONGEST_SUB_HEAD, declared.head.TheConstants.LONGEST_HEAD, declared.sub_head.SubHead.SubHead}
pub use Rattle.vms_marks.specs.{declared.mark.Mark.Mark, Heads.configuration_in, Heads.sub_head_in, Marks.byte_of, Marks.mark_of, Heads.head_in}
pub use Rattle.vms_marks.specs.declared.description.TheConstants.{LONGEST_DESCRIPTION}
pub use Rattle.byteorder.specs.Endian.{big_from, big_number}
unfoldable pub use Rattle.vms_stream.specs.Finding.{behind_at, between_at, trailer_at}
