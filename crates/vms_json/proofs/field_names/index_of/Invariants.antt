use Rattle.vms_json.proofs.Facade.{◌≡◌, ℕ, ◌+◌, ◌≤◌, ◌++◌, List, length, items_left, names_of, IsIndex}
use Rattle.vms_json.proofs.field_names.index_of.Given as goal

abbrev pub invariant-loop-field : goal.invariant-loop-field
invariant-loop-field l =
    (before : List (List ℕ)) × IsIndex l.first before × (names_of (items_left l.fn.fields) ≡ before ++ names_of (items_left l.fields)) ×
    (length before ≡ l.i)
    × (l.i + length l.fields.rows.now ≤ length l.fn.fields.rows.now)

abbrev pub decreases-loop-field : goal.decreases-loop-field
decreases-loop-field l = length l.fields.rows.now
