-- The names of other crates, and of this crate's `specs`, that the proofs use.
pub use Rattle.std.proofs.{lemmas.Option.slice_get-get_or, lemmas.Bool.lt-ltb, lemmas.Bool.ltb-false, lemmas.Bool.ltb-true}
pub use Rattle.std.proofs.Common.{◌++◌, ◌+◌, ◌-◌, ◌<◌, ◌∙◌, ◌∷◌, ◌≡◌, ◌≤◌, ◌⊎◌, Bool, List, None, Option, Some}
pub use Rattle.std.proofs.Common.{[], ap, append-nil, append_assoc, arith, codes, drop, false, get_or, if◌then◌else◌, inl, inr, length, map, nat_lt}
pub use Rattle.std.proofs.Common.{negsuc, pos, refl, subst, suc, sym, take, true, zero, zero-add, ℕ, ℤ, ◌%◌, ◌/◌, ◌==◌, ◌&&◌, ◌*◌}
pub use Rattle.std.proofs.lemmas.List.{get_or-append_right, get_or-map, get_or_append_left, get_or_past, length-map, map-append}
pub use Rattle.std.specs.{Fmt.decimal, Fmt.digit_glyph, Fmt.digits_onto, List.AllByRecursion, List.flat_map, List.slice_get}
pub use Rattle.vms_kinds.specs.{declared.Item.Item, declared.Kind.Kind, declared.Item.TheVariants.Num, declared.Item.TheVariants.Struct}
pub use Rattle.vms_spec.proofs.Examples.{counted_set, mixed_set, sub_of, subsection_set, tested_set}
pub use Rattle.vms_spec.proofs.ListsAndNumbers.{pick_append}
pub use Rattle.vms_spec.proofs.Tables.{first_cells, elements_fit, size_same, first_at, first_long, one_more, two_more}
pub use Rattle.vms_spec.specs.{Values.printer, Spelling.first_line, declared.Count.Count, Layout.meaning, Layout.meanings, ValuesReading.machine_named}
pub use Rattle.vms_spec.specs.{declared.Count.TheVariants.One, declared.ValuesReason.ValuesReason, Sets.Desc, Sets.Device, Sets.Field, Sets.Set, Sets.Sub}
pub use Rattle.vms_spec.specs.Images.{Image, came_slots, own_cells, sub_place}
pub use Rattle.vms_spec.specs.Layout.{no_cell, no_desc, no_meaning, numbers_of, place_of, slots_from, struct_cells, times, Cell, Meaning, Slot, capacity_of}
pub use Rattle.vms_spec.specs.Layout.{cells_from, counted, desc_cells, desc_slots, device_cells, elements_of, field_cells, item_cells, item_size, item_slots}
pub use Rattle.vms_spec.specs.Places.{cell_at, cell_in, desc_of_sub, element_at, item_at, path_at}
pub use Rattle.vms_spec.specs.Values.{printers, values_text, version_text, Printer, array_lines, desc_lines, element_lines, field_lines, item_lines, no_printer}
pub use Rattle.vms_elements.specs.Elements.{Element, Number, Rule, Shape, Stand, What, array_elements, behind, cells_in, desc_elements, dotted, elements_from}
pub use Rattle.vms_elements.specs.Elements.{field_elements, index_text, item_elements, no_shape, shape, shapes, single, stand_of}
pub use Rattle.vms_elements.specs.Entries.{Entry, OfNumber, OfSection, OfSub, device_entries, devices_entries, entries, entry_line, front_reason}
pub use Rattle.vms_elements.specs.Entries.{number_entries, part_reason, subs_entries}
pub use Rattle.vms_elements.specs.Laws.{ArePaths, CellLaw, CountedLaw, DeviceLaw, DistinctLaw, ElementsLaw, EntryLaw, PathLaw, TextLaw, part_desc}
pub use Rattle.vms_elements.specs.Lines.{device_lines, devices_lines, machine_lines, number_line, number_lines, printed, subs_lines, text_of, values_lines}
pub use Rattle.vms_elements.specs.Parts.{CountsUp, IsFieldOf, absent, cell_name, cells_of, cells_with, device_elements, elements_in, field_named, is_number}
pub use Rattle.vms_elements.specs.Parts.{last_field, names_of, numbers_in, slots_of, sub_elements, subs_elements}
pub use Rattle.vms_elements.specs.Reading.{AreFine, AreShaped, AreUnsaid, IsBadLine, IsBadPart, Says}
unfoldable pub use Rattle.std.specs.Fmt.{digits}
unfoldable pub use Rattle.vms_spec.specs.Layout.{first}
