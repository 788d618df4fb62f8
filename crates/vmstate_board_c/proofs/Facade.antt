-- The names of other crates, and of this crate's `specs`, that the proofs use.
pub use Rattle.std.proofs.{BoxSteps.Steps.box_in, BoxSteps.Steps.box_out, ResultValues.and_tt, lemmas.Bool.Decides.nat_tests}
pub use Rattle.std.proofs.BoxSteps.Form.{B, Bx, D, P, R, args, box_ty, box_typed, word, τ}
pub use Rattle.std.proofs.Common.{Bool, Option, ap, append-nil, arith, false, inl, inr, lit<, rules, true, true≢false, ℕ, ◌-◌, ◌==◌, ◌∙◌, ◌≤◌}
pub use Rattle.std.proofs.alloc.Calls.{Goes-blank, handle_tells, token, α}
pub use Rattle.std.specs.{Box.Ownership.box_owns}
pub use Rattle.std.specs.Prelude.{IfSome, MatchOption, None, Some, is_some, nat_lt}
pub use Rattle.std.specs.contracts.impls.GlobalAllocator.TheImpl.{dict, ghosts}
pub use Rattle.dev_base.proofs.RuleLaws.{either}
pub use Rattle.dev_board.specs.{State.State, Touch.saying, declared.event.Answer.Answer, declared.event.Event.Event}
pub use Rattle.dev_board.specs.declared.event.Event.TheVariants.{Ack, Byte, Read, Wait, Wire, Write}
unfoldable pub use Rattle.dev_board.specs.Step.{acted, after_act, step}
pub use Rattle.dev_clock.specs.State.{ClockState}
unfoldable pub use Rattle.dev_clock.specs.Step.{follows_line}
pub use Rattle.vmstate_board_c.specs.{Kinds.now_of, Kinds.step_of, declared.answer.CAnswer.CAnswer, declared.kinds.AnyBoard.AnyBoard}
pub use Rattle.vmstate_board_c.specs.Answers.{IsAccess, Reaches, acts, acts_after, event_at, said, time_to}
pub use Rattle.vmstate_board_c.specs.declared.kinds.AnyBoard.TheVariants.{Clock, Isa}
pub use base.Fml.{flft, fsep, ftrue}
pub use base.Logic.{SProp, emp, fst∗, id⊢, never}
pub use contract.BorrowLft.{◌⊑◌}
pub use contract.Monad.{Fun, fact}
pub use contract.Running.{tables}
unfoldable pub use contract.Running.{tables_of}
pub use denote.Exit.{no, yes}
pub use denote.Param.{bounded}
pub use denote.RattleType.{RattleType, Valss}
pub use denote.RawPtr.{Ptr, RawPtr, block_ptr, in_a_block, null_ptr, ptr_val}
pub use denote.Signature.{Slot, plain, type_at}
pub use denote.Steps.{heard, nothing, only}
pub use denote.Struct.Owning.{shape, to}
pub use denote.Struct.Struct.{within}
pub use denote.Struct.Tuple.{Tuple}
pub use denote.Triple.Call.{calls_at, calls_at_last}
pub use denote.Triple.Clauses.{Clauses, Ended}
pub use denote.Triple.Spec.{triple_of}
pub use denote.Triple.Statement.{Contract}
pub use denote.Triple.Walked.{Goes-dropped, Stays, ends_at, says, stay_dropped, walk_of}
pub use lib.Dec.{T}
pub use mathlib.Core.List.{List, [], ◌++◌, ◌∷◌}
pub use mathlib.Core.Path.{refl, subst, sym, ◌≡◌}
pub use mir.MapTy.{inst_fn}
pub use mir.Syntax.{Args, Body, Dict, Fn, a_type, assign, copy, dcons, dnil, impl, place, return, rv_opd, seq, tnil}
pub use mir.Val.{Val, WT, has_ty, of_list, vcons, vnil, vptr, vstruct}
pub use prog.Memory.{Memory}
pub use prog.Routine.{Routine}
pub use prog.Wp.{WpFn}
pub use seplogic.Ra.Ura.{Ura}
pub use sound.WpLaws.{fm_of}
pub use types.ByLocal.{alloc_all, env, free_all, get, get_in, lands_as, lands_last, look_at, pass_all, sets}
pub use types.Kit.{ !, Item, at_ret, await, done, drop, feq_i, feq_l, fjoin, fpack, fpick, fsplit, join, later, move, pick, qed, raw, rewrite, some, split}
pub use types.Kit.{split3, suffices, use1, ‵, ◌$◌, ◌∵◌, ◌⊛◌}
pub use types.Logic.{Logic, sem}
pub use types.Part.{agg, sub, whole}
pub use types.Run.{and_then, blocks, enter, exec, first, fld, lit, no_more, of_opd, returns, stop}
