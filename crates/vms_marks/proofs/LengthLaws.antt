-- The lengths of units are those of the format.
use Rattle.std.proofs.Common.{refl}
use Rattle.vms_marks.specs.Laws.{LengthsAre}

pub lengths_are : LengthsAre
lengths_are = record { of_configuration = refl; of_section = refl; of_sub = refl; of_description = refl; of_load = refl; of_head = refl; of_foot = refl; of_front = refl }
