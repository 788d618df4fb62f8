-- The names of other crates, and of this crate's `specs`, that the proofs use.
pub use Rattle.std.proofs.{lemmas.Bool.Decides.nat_tests, lemmas.List.drop_more, lemmas.List.map-append, lemmas.List.take_more}
pub use Rattle.std.proofs.Common.{Err, IfOk, List, Ok, Result, [], ap, append_assoc, arith, drop, get_or, length, map, refl, suc, sym, take, zero, ℕ, ◌++◌, ◌+◌}
pub use Rattle.std.proofs.Common.{◌<◌, ◌∙◌, ◌∷◌, ◌≡◌, ◌≤◌}
pub use Rattle.vms_spec.specs.Sets.{Set}
pub use Rattle.vms_fields.specs.Fields.{fields_at, listed_at}
pub use Rattle.vms_parts.specs.{Views.desc_of, Views.device_of, Views.field_of, Views.set_of, Views.sub_of, declared.types.Field.Field}
pub use Rattle.vms_shipped.specs.ClockSets.{clock_1, clock_2, clock_set}
pub use Rattle.vms_shipped.specs.Rows.{all_in, desc_in, device_in, fields_in, listed_row, sub_in}
