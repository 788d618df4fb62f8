-- A lamp: its section, and its cells.
use Rattle.std.specs.Prelude.{ℕ, ◌==◌, nat_le, nat_lt, if◌then◌else◌, List, [], ◌∷◌, Result, Ok, Err, codes, ℤ, pos, None, slice_set}
use Rattle.vms_kinds.specs.declared.Kind.{Kind}
use Rattle.vms_kinds.specs.declared.Kind.TheVariants.{U8, U16, Bool as Truth}
use Rattle.vms_kinds.specs.declared.Item.TheVariants.{Num}
use Rattle.vms_spec.specs.declared.Count.TheVariants.{One}
use Rattle.vms_spec.specs.Sets.{Field, Set}
use Rattle.vms_hooks.specs.declared.fault.HookFault.{HookFault}
use Rattle.vms_image.specs.Typed.{Typed}
use Rattle.library_tour.specs.declared.lamp.Lamp.{Lamp}

-- A field of one number, which is present from version `since` on.
abbrev pub field : List ℕ → Kind → ℕ → Field
field name kind since = record { name = name; former = []; item = Num kind; count = One; since = since; test = None; default = pos 0 }

-- The brightness, the switch, and from version 2 on the colour.
abbrev pub fields : ℕ → List Field
fields version =
    field (codes "brightness") U8 1 ∷ field (codes "on") Truth 1
    ∷ (if nat_le 2 version then field (codes "colour") U16 2 ∷ [] else [])

-- The set of the machine `room` with a lamp.
abbrev pub lamp_set : ℕ → Set
lamp_set version = record {
  machines = codes "room" ∷ [];
  structs = [];
  devices = record {
    instance = 0;
    desc = record { name = codes "lamp"; version = version; minimum = 1; fields = fields version; validate = [] };
    subs = [];
  } ∷ [];
}

-- The largest brightness.
abbrev pub brightest : ℕ
brightest = 100

-- The two cells of a lamp.
abbrev pub cells_of : Lamp → List ℤ
cells_of lamp = pos lamp.brightness ∷ pos (if lamp.is_on then 1 else 0) ∷ []

-- The lamp with these cells, or the first rule that fails.
abbrev pub lamp_of : List ℤ → Result Lamp HookFault
lamp_of (pos brightness ∷ pos switch ∷ []) =
    if nat_lt brightest brightness then Err (record { rule = 2 })
    else if nat_lt 1 switch then Err (record { rule = 3 })
    else Ok (record { brightness = brightness; is_on = switch == 1 })
lamp_of _ = Err (record { rule = 1 })

-- An image with these numbers in its first two cells.
abbrev pub with_two : Typed → ℤ → ℤ → Typed
with_two image one two = record image { numbers = slice_set (slice_set image.numbers 0 one) 1 two }
