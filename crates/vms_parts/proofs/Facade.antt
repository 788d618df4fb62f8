-- The names of other crates, and of this crate's `specs`, that the proofs use.
pub use Rattle.std.proofs.{Math.ListN.length-set, lemmas.Bool.eqb-false, lemmas.Bool.eqb-true, Common.◌≤◌}
pub use Rattle.std.proofs.Common.{Bool, List, None, Option, [], add-one, ap, arith, drop, false, get_or, get_or-set_other, get_or-set_same, length, map, refl}
pub use Rattle.std.proofs.Common.{suc, sym, take, true, zero, ℕ, ◌*◌, ◌++◌, ◌+◌, ◌<◌, ◌^◌, ◌∙◌, ◌∷◌, ◌≡◌, ◌≢◌}
pub use Rattle.std.proofs.lemmas.List.{drop_all, drop_more, map-append, take_all}
pub use Rattle.std.specs.Prelude.{if◌then◌else◌, ◌==◌}
pub use Rattle.vms_kinds.specs.declared.Item.{Item, TheVariants.Struct}
pub use Rattle.vms_spec.specs.{Sets.Desc, WellFormed.item_count, WellFormed.items_in, declared.Count.Count, declared.Count.TheVariants.Counted}
pub use Rattle.vms_spec.specs.Layout.{capacity_of, counted, no_desc}
unfoldable pub use Rattle.vms_spec.specs.Layout.{first}
pub use Rattle.vms_parts.specs.{Sizes.fields_size, Sizes.in_u32, Sizes.size_of, Sizes.sizes_to, Sizes.subs_size, Views.desc_of, Views.field_of, Views.sub_of}
pub use Rattle.vms_parts.specs.{declared.sizes.Measure.Measure, declared.sizes.Measure.TheVariants.Items, declared.types.Field.Field, declared.types.Sub.Sub}
pub use Rattle.vms_parts.specs.Capacities.{counted_in, least_from, least_of, lesser, lowered_at}
