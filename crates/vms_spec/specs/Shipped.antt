-- The shipped sets 0 to 4 (docs/sets.md). Set 0 has the device `timer` alone. Set s of the others
-- describes the boards isa-1 to isa-s. Defaults and `since` are 0 unless a table says otherwise,
-- and there are no validations.
use Rattle.std.specs.Prelude.{ℕ, ◌+◌, List, [], ◌∷◌, ◌++◌, Some, None, pos, negsuc, codes}
use Rattle.vms_kinds.specs.declared.Kind.{Kind}
use Rattle.vms_kinds.specs.declared.Kind.TheVariants.{U8, U16, U64, I8, Bool as Truth, Timer}
use Rattle.vms_kinds.specs.declared.Item.{Item}
use Rattle.vms_kinds.specs.declared.Item.TheVariants.{Num, Equal, Unused, Struct}
use Rattle.vms_spec.specs.declared.Count.TheVariants.{One, Fixed, Counted}
use Rattle.vms_spec.specs.declared.Rel.TheVariants.{Eq, Ne, Ge}
use Rattle.vms_spec.specs.declared.Whose.TheVariants.{Own}
use Rattle.vms_spec.specs.Sets.{Set, Device, Sub, Desc, Field, Formula, Cell, Or}

-- ---- words for tables of fields

-- a single field without a test, of this name and item
abbrev pub field : List ℕ → Item → Field
field name item = record { name = name; former = []; item = item; count = One; since = 0; test = None; default = pos 0 }

-- a field that is a number of a kind
abbrev pub number : Kind → List ℕ → Field
number kind name = field name (Num kind)

-- a field for each of the names, all numbers of one kind
abbrev pub numbers : Kind → List (List ℕ) → List Field
numbers kind [] = []
numbers kind (name ∷ names) = number kind name ∷ numbers kind names

-- the moment of a timer that isn't pending, 2 ^ 64 - 1, which is also the mask of all bits
abbrev pub never : ℕ
never = 0xffff_ffff_ffff_ffff

-- a description of this name, version and fields, whose minimum version is 1
abbrev pub desc : List ℕ → ℕ → List Field → Desc
desc name version fields = record { name = name; version = version; minimum = 1; fields = fields; validate = [] }

-- a device of this instance
abbrev pub device : ℕ → Desc → List Sub → Device
device instance d subs = record { instance = instance; desc = d; subs = subs }

-- a subsection of version 1, with its needed test
abbrev pub sub : List ℕ → List Field → Formula → Sub
sub name fields needed = record { desc = desc name 1 fields; needed = needed }

-- ---- timer

-- the field of the timer: the moment in nanoseconds
abbrev pub now : Field
now = number U64 (codes "now")

-- the device `timer`, in every set
abbrev pub timer : Device
timer = device 0 (desc (codes "timer") 1 (now ∷ [])) []

-- ---- i8259

-- the fields of an 8259A: its registers, lines and initialization state, and then its flags
abbrev pub i8259_fields : List Field
i8259_fields =
    numbers U8 (codes "irr" ∷ codes "isr" ∷ codes "imr" ∷ codes "lines" ∷ codes "lowest" ∷ codes "base" ∷ codes "init_state" ∷ [])
    ++ numbers Truth (codes "icw4" ∷ codes "single" ∷ codes "read_isr" ∷ codes "poll" ∷ codes "special_mask" ∷ codes "auto_eoi" ∷ codes "rotate" ∷ codes "nested" ∷ [])

-- the edge and level control register, from version 2 on
abbrev pub elcr : Field
elcr = record (number U8 (codes "elcr")) { since = 2 }

-- an 8259A of set 1
abbrev pub i8259_at_1 : ℕ → Device
i8259_at_1 instance = device instance (desc (codes "i8259") 1 i8259_fields) []

-- an 8259A with its control register of edges and levels
abbrev pub i8259_with_elcr : Desc
i8259_with_elcr = desc (codes "i8259") 2 (i8259_fields ++ elcr ∷ [])

-- an 8259A of sets 2 and 3
abbrev pub i8259_at_2 : ℕ → Device
i8259_at_2 instance = device instance i8259_with_elcr []

-- the subsection of the level mode
abbrev pub ltim : Sub
ltim = sub (codes "i8259/ltim") (number Truth (codes "ltim") ∷ []) (Cell Own 0 1 Eq 1)

-- an 8259A of set 4
abbrev pub i8259_at_4 : ℕ → Device
i8259_at_4 instance = device instance i8259_with_elcr (ltim ∷ [])

-- ---- i8254

-- the structure of one counter, whose last item differs between the sets
abbrev pub pit_channel : Item → Desc
pit_channel gate = desc (codes "pit_channel") 1 (
    number U16 (codes "count") ∷ number U8 (codes "mode") ∷ number U8 (codes "rw")
    ∷ number Truth (codes "bcd") ∷ number Truth (codes "loaded") ∷ number U64 (codes "load_time")
    ∷ number Truth (codes "read_high") ∷ number Truth (codes "wlow_held")
    ∷ record (number U8 (codes "wlow")) { test = Some (Cell Own 7 1 Eq 1) }
    ∷ number Truth (codes "latched")
    ∷ record (number U16 (codes "latch")) { test = Some (Cell Own 9 1 Eq 1) }
    ∷ field (codes "gate") gate ∷ [])

-- the three counters
abbrev pub channels : Field
channels = record (field (codes "channels") (Struct 0)) { count = Fixed 3 }

-- the 8253 of set 1
abbrev pub i8254_at_1 : Device
i8254_at_1 = device 0 (desc (codes "i8254") 1 (channels ∷ [])) []

-- the 8254 of sets 2 to 4, with the latched status of each counter
abbrev pub i8254_at_2 : Device
i8254_at_2 = device 0 (desc (codes "i8254") 2 (
    channels
    ∷ record (number Truth (codes "status_latched")) { count = Fixed 3; since = 2 }
    ∷ record (number U8 (codes "status")) { count = Fixed 3; since = 2 } ∷ [])) []

-- ---- serial

-- the fields of a 16450: its registers, and the moment at which the transmitter is done
abbrev pub serial_fields : List Field
serial_fields =
    numbers U8 (codes "ier" ∷ codes "iir" ∷ codes "lcr" ∷ codes "mcr" ∷ codes "lsr" ∷ codes "scr" ∷ codes "rbr" ∷ codes "thr" ∷ codes "tsr" ∷ [])
    ++ record (number Timer (codes "tx_due")) { default = pos never } ∷ []

-- the divisor latch in sets 1 and 2
abbrev pub divider : Field
divider = number U16 (codes "divider")

-- the divisor latch in sets 3 and 4, with its former name
abbrev pub divisor : Field
divisor = record (number U16 (codes "divisor")) { former = codes "divider" ∷ [] }

-- the FIFO control register, from version 2 on
abbrev pub fcr : Field
fcr = record (number U8 (codes "fcr")) { since = 2 }

-- the subsection of a hidden interrupt of the empty transmitter register
abbrev pub thr_ipending : Sub
thr_ipending = sub (codes "serial/thr_ipending") (record (number I8 (codes "thr_ipending")) { default = negsuc 0 } ∷ []) (Cell Own 0 255 Ne 255)

-- the FIFOs: for each a count, and the bytes that it counts
abbrev pub fifo : Sub
fifo = sub (codes "serial/fifo") (
    number U8 (codes "rx_count") ∷ record (number U8 (codes "rx")) { count = Counted 0 16 }
    ∷ number U8 (codes "tx_count") ∷ record (number U8 (codes "tx")) { count = Counted 2 16 } ∷ [])
    (Or (Cell Own 0 255 Ge 1) (Cell Own 2 255 Ge 1))

-- the moment of the character timeout
abbrev pub timeout : Sub
timeout = sub (codes "serial/timeout") (record (number Timer (codes "timeout_at")) { default = pos never } ∷ []) (Cell Own 0 never Ne never)

-- the FIFOs as rings: sixteen bytes, the position of the oldest byte, and the number of bytes
abbrev pub ring : Sub
ring = sub (codes "serial/ring") (
    record (number U8 (codes "rx_data")) { count = Fixed 16 } ∷ number U8 (codes "rx_head") ∷ number U8 (codes "rx_number")
    ∷ record (number U8 (codes "tx_data")) { count = Fixed 16 } ∷ number U8 (codes "tx_head") ∷ number U8 (codes "tx_number") ∷ [])
    (Or (Cell Own 2 255 Ge 1) (Cell Own 5 255 Ge 1))

-- the serial port of a version
abbrev pub serial : ℕ → List Field → List Sub → Device
serial version fields subs = device 0 (desc (codes "serial") version fields) subs

-- ---- the sets

-- the machine name of a board of a level: isa-0 to isa-4
abbrev pub isa_machine : ℕ → List ℕ
isa_machine level = codes "isa-" ++ (48 + level) ∷ []

-- set 0: the timer alone
abbrev pub set_0 : Set
set_0 = record { machines = isa_machine 0 ∷ []; structs = []; devices = timer ∷ [] }

-- set 1: the board isa-1
abbrev pub set_1 : Set
set_1 = record {
  machines = isa_machine 1 ∷ [];
  structs = pit_channel (Equal U8 (pos 1)) ∷ [];
  devices = timer ∷ i8259_at_1 0 ∷ i8259_at_1 1 ∷ i8254_at_1 ∷ serial 1 (divider ∷ serial_fields) (thr_ipending ∷ []) ∷ [];
}

-- set 2: the boards isa-1 and isa-2
abbrev pub set_2 : Set
set_2 = record {
  machines = isa_machine 1 ∷ isa_machine 2 ∷ [];
  structs = pit_channel (Unused 1) ∷ [];
  devices = timer ∷ i8259_at_2 0 ∷ i8259_at_2 1 ∷ i8254_at_2
      ∷ serial 2 (divider ∷ serial_fields ++ fcr ∷ []) (thr_ipending ∷ fifo ∷ []) ∷ [];
}

-- set 3: the boards isa-1 to isa-3
abbrev pub set_3 : Set
set_3 = record {
  machines = isa_machine 1 ∷ isa_machine 2 ∷ isa_machine 3 ∷ [];
  structs = pit_channel (Unused 1) ∷ [];
  devices = timer ∷ i8259_at_2 0 ∷ i8259_at_2 1 ∷ i8254_at_2
      ∷ serial 3 (divisor ∷ serial_fields ++ fcr ∷ []) (thr_ipending ∷ fifo ∷ timeout ∷ []) ∷ [];
}

-- set 4: the boards isa-1 to isa-4
abbrev pub set_4 : Set
set_4 = record {
  machines = isa_machine 1 ∷ isa_machine 2 ∷ isa_machine 3 ∷ isa_machine 4 ∷ [];
  structs = pit_channel (Unused 1) ∷ [];
  devices = timer ∷ i8259_at_4 0 ∷ i8259_at_4 1 ∷ i8254_at_2
      ∷ serial 4 (divisor ∷ serial_fields ++ fcr ∷ []) (thr_ipending ∷ fifo ∷ timeout ∷ ring ∷ []) ∷ [];
}

-- the shipped sets by their numbers, 0 to 4
abbrev pub shipped_sets : List Set
shipped_sets = set_0 ∷ set_1 ∷ set_2 ∷ set_3 ∷ set_4 ∷ []
