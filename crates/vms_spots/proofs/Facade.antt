-- The names of other crates, and of this crate's `specs`, that the proofs use.
pub use Rattle.std.proofs.{lemmas.Bool.cases_eq, lemmas.Int.to_z-of_z, lemmas.Option.get_or_from_slice_get, lemmas.Option.slice_get_within}
pub use Rattle.std.proofs.Common.{List, Some, [], ap, append-nil, append_assoc, arith, drop, get_or, inl, inr, length, length-append, length-drop, length-take}
pub use Rattle.std.proofs.Common.{map, pos, refl, replicate, rules, set, subst, suc, sym, take, zero, ℕ, ℤ, ◌%◌, ◌*◌, ◌++◌, ◌+◌, ◌-◌}
pub use Rattle.std.proofs.Common.{◌<◌, ◌∙◌, ◌∷◌, ◌≡◌, ◌≤◌, ◌⊎◌}
pub use Rattle.std.proofs.lemmas.List.{drop_all, drop_at, drop_more, ext_get_or, get_or-map, get_or-replicate, get_or-set_other, get_or-set_same, get_or_read}
pub use Rattle.std.proofs.lemmas.List.{length-map, length-replicate, length-set, length-take-le, nil_from_length, replicate-append-replicate, set-get_or}
pub use Rattle.std.proofs.lemmas.List.{take-append-drop, take_at, with_items_is}
pub use Rattle.std.specs.{Int.w128, List.slice_get, Vec.with_items}
pub use Rattle.vms_kinds.proofs.{ByteLemmas.bytes_first, ByteLemmas.bytes_rest, CodeLemmas.value_taken}
pub use Rattle.vms_kinds.specs.{Bytes.IsBytes, Codes.InRange, Codes.value_of, Codes.width, declared.Kind.Kind}
pub use Rattle.vms_kinds.specs.declared.Kind.TheVariants.{Bool, U16, U8}
unfoldable pub use Rattle.vms_kinds.specs.Codes.{code}
pub use Rattle.vms_spec.proofs.ListsAndNumbers.{length-code, value_code}
pub use Rattle.vms_spec.specs.declared.TheConstants.{MOST_ITEMS}
pub use Rattle.vms_spots.specs.{declared.layout.Spot.Spot, declared.layout.TheConstants.MOST_BYTES}
pub use Rattle.vms_spots.specs.Spots.{AreApart, AreOf, AreOne, Held, IsHeld, aligned, bytes_of, codes_of, end_from, held, kinds_of, no_spot, number_at}
pub use Rattle.vms_spots.specs.Spots.{put_from, raw_from, raw_of, spots_from, spots_of, values_of}
pub use mir.Val.{of_z, to_z}
