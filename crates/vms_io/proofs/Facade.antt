-- The names of other crates, and of this crate's `specs`, that the proofs use.
pub use Rattle.std.proofs.{Math.Seq.take-append-add, lemmas.Map.Text.btree_map_updates_text, lemmas.Slice.take-put_mid_below, lemmas.Slice.Eq.bytes_eq-Decides}
use Rattle.std.proofs.Common
pub use Common.{Bool, Err, IfSome, List, None, Ok, OnErr, Option, Result, Some, [], ap, append-nil, append_assoc, arith, cond, drop, drop-drop, drop_at, false}
pub use Common.{if◌then◌else◌, inl, inr, le_refl, length, length-append, length-drop, length-take, length-take-le, refl, rules, subst, sym, take}
pub use Common.{take-append-drop, take_all, true, ℕ, ◌&&◌, ◌++◌, ◌+◌, ◌-◌, ◌<◌, ◌^◌, ◌∙◌, ◌≡◌, ◌≢◌, ◌≤◌}
pub use Rattle.std.proofs.KnownBytes.{Appends-nil, Appends-trans, Consumes-nil, Consumes-trans}
pub use Rattle.std.proofs.lemmas.List.{drop-append-le, drop-take, drop_all, take-take, take_rest, Folds.list_all-append}
pub use Rattle.std.specs.{Io.Take.take_limit, Io.Take.take_remaining, Map.update, Option.option_map, Str.bytes_eq}
pub use Rattle.std.specs.Io.KnownBytes.{Appends, Consumes, IsAtEnd, Keeps}
pub use Rattle.vms_kinds.proofs.ByteLemmas.{bytes_both, bytes_first}
pub use Rattle.vms_kinds.specs.Bytes.{IsBytes}
pub use Rattle.vms_io.specs.{Ahead.ahead, Ahead.are_bytes, Ahead.bytes_only, Cabinets.held_in, Causes.AppendsPrefix, Causes.HasCause}
pub use Rattle.vms_io.specs.Gathered.{KeepsFront, between, block, told}
pub use Rattle.vms_io.specs.Reading.{Breaks, Broken, Course, HasRisen, Last, MayFollow, Misses, On, Reads, Takes}
pub use Rattle.vms_io.specs.Shelves.{Held, HoldsAll, HoldsBytes, IfToldBoth, KeepsOthers, PutsUnder}
pub use Rattle.vms_io.specs.Shelving.{Looks, Reaches, Stores}
pub use Rattle.vms_io.specs.Told.{Intake, Outlet, Stock, intake, outlet}
pub use Rattle.vms_io.specs.Writing.{Puts, Serves, Stops, Wrote}
pub use borrow.Rule.Slice.PartMut.{post_of, put_mid}
pub use lib.Seq.{take-add, take-append-le}
