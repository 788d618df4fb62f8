-- The names of other crates, and of this crate's `specs`, that the proofs use.
pub use Rattle.std.proofs.{lemmas.Bool.and_parts, lemmas.Int.to_z-of_z, lemmas.Simd.map-map}
pub use Rattle.std.proofs.Common.{Bool, IsTrue, List, None, Option, SFits, Some, [], ap, arith, get_or, length, map, refl, replicate, rules, subst, suc, sym}
pub use Rattle.std.proofs.Common.{true, zero, ℕ, ◌<◌, ◌↔◌, ◌∙◌, ◌∷◌, ◌≡◌, ◌≤◌}
pub use Rattle.std.proofs.lemmas.List.{ext_get_or, get_or-map, get_or-replicate, length-map, length-replicate}
pub use Rattle.std.specs.{Int.w128, List.slice_get}
pub use Rattle.vms_kinds.specs.{Codes.InRange, declared.Kind.Kind, declared.Kind.TheVariants.U8}
pub use Rattle.vms_spec.specs.{Layout.device_cells, Sets.Device}
pub use Rattle.vms_desc.specs.{Described.described, Spots.kinds_at}
pub use Rattle.vms_image.specs.Typed.{IsImageOf, Typed, default_at, state_of}
pub use Rattle.vms_parts.specs.{Devices.device_at, Views.device_of, Views.sub_of}
pub use Rattle.vms_spots.proofs.SpotLaws.{kinds_are, spots_long}
pub use Rattle.vms_spots.specs.{Spots.Held, Spots.kinds_of, Spots.no_spot, Spots.spots_of, declared.layout.Spot.Spot}
pub use lib.Pointwise.{pointwise}
