-- The clock sets 1 and 2 (docs/sets.md): a clock chip, and after it the devices of set 4. Set c
-- describes the boards clk-1 to clk-c.
use Rattle.std.specs.Prelude.{ℕ, zero, suc, ◌+◌, List, [], ◌∷◌, ◌++◌, codes}
use Rattle.vms_kinds.specs.declared.Kind.TheVariants.{U8, Bool as Truth}
use Rattle.vms_spec.specs.declared.Count.TheVariants.{Fixed}
use Rattle.vms_spec.specs.declared.Rel.TheVariants.{Eq}
use Rattle.vms_spec.specs.declared.Whose.TheVariants.{Own}
use Rattle.vms_spec.specs.Sets.{Set, Device, Sub, Field, Cell}
use Rattle.vms_spec.specs.Shipped.{number, desc, device, sub, set_4}

-- the fields of an MC146818: the index register, and the 64 bytes of registers and memory
abbrev pub mc146818_fields : List Field
mc146818_fields = number U8 (codes "index") ∷ record (number U8 (codes "cmos")) { count = Fixed 64 } ∷ []

-- the mask of the NMI, from version 2 on
abbrev pub nmi_mask : Field
nmi_mask = record (number Truth (codes "nmi_mask")) { since = 2 }

-- the subsection of the periodic interrupt's flag
abbrev pub pending : Sub
pending = sub (codes "mc146818/pending") (number Truth (codes "pf") ∷ []) (Cell Own 0 1 Eq 1)

-- the clock chip of set 1
abbrev pub mc146818_at_1 : Device
mc146818_at_1 = device 0 (desc (codes "mc146818") 1 mc146818_fields) (pending ∷ [])

-- the clock chip of set 2
abbrev pub mc146818_at_2 : Device
mc146818_at_2 = device 0 (desc (codes "mc146818") 2 (mc146818_fields ++ nmi_mask ∷ [])) (pending ∷ [])

-- the machine name of a board of a version: clk-1 or clk-2
abbrev pub clock_machine : ℕ → List ℕ
clock_machine version = codes "clk-" ++ (48 + version) ∷ []

-- clock set 1: the board clk-1
abbrev pub clock_1 : Set
clock_1 = record { machines = clock_machine 1 ∷ []; structs = set_4.structs; devices = mc146818_at_1 ∷ set_4.devices }

-- clock set 2: the boards clk-1 and clk-2
abbrev pub clock_2 : Set
clock_2 = record { machines = clock_machine 1 ∷ clock_machine 2 ∷ []; structs = set_4.structs; devices = mc146818_at_2 ∷ set_4.devices }

-- the clock set of a number, 1 or 2
abbrev pub clock_set : ℕ → Set
clock_set zero = clock_1
clock_set (suc zero) = clock_1
clock_set (suc (suc c)) = clock_2
