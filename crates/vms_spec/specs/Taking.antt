-- The reading of a description's bytes, field by field and structure by structure. It agrees with
-- the judge's reading slot by slot. Readers of bodies are proved against this form.
use Rattle.std.specs.Prelude.{ℕ, zero, suc, ◌+◌, Bool, not, if◌then◌else◌, nat_lt, List, [], ◌∷◌, length, get_or, map, take, drop, slice_set, ℤ, Result, Ok, Err}
use Rattle.vms_kinds.specs.declared.Kind.{Kind}
use Rattle.vms_kinds.specs.declared.Item.{Item}
use Rattle.vms_kinds.specs.declared.Item.TheVariants.{Num, Equal, Unused, Struct}
use Rattle.vms_kinds.specs.Codes.{width, value_of}
use Rattle.vms_spec.specs.declared.Reason.{Reason}
use Rattle.vms_spec.specs.declared.Reason.TheVariants as reasons
use Rattle.vms_spec.specs.Sets.{Field, Desc}
use Rattle.vms_spec.specs.Tests.{is_there}
use Rattle.vms_spec.specs.Layout.{Slot, Number, Constant, Filler, Rule, Cell, counted, item_size, field_cells, desc_cells, numbers_of, elements_of, all_hold, no_parent, first}
use Rattle.vms_spec.specs.Numbers.{same_number, exceeds}
use Rattle.vms_spec.specs.Lookup.{is_bad_bool}

-- how far a reading has come: the numbers of all cells, the offset, and the rest of the bytes
pub record Progress : Type 0 where
  pub numbers : List ℤ
  pub place : ℕ
  pub rest : List ℕ

-- a refusal: the offset, the reason, the length of the offending unit, and the bytes from it on
pub record Refusal : Type 0 where
  pub place : ℕ
  pub reason : Reason
  pub long : ℕ
  pub rest : List ℕ

-- the result of a reading: how far it came, or the first refusal
abbrev pub Taken : Type 0
Taken = Result Progress Refusal

infixl 10 ◌>>=◌
-- a reading and then another, unless the first is refused
abbrev pub ◌>>=◌ : Taken → (Progress → Taken) → Taken
(Ok p) >>= f = f p
(Err e) >>= f = Err e

-- a refusal here, of a unit of this length
abbrev pub refuse : Progress → Reason → ℕ → Taken
refuse p reason long = Err (record { place = p.place; reason = reason; long = long; rest = p.rest })

-- n bytes further, with these numbers
abbrev pub on : ℕ → List ℤ → Progress → Taken
on n numbers p = Ok (record { numbers = numbers; place = p.place + n; rest = drop n p.rest })

-- a unit of n bytes, or the refusal Truncated with the rest of the input as the unit
abbrev pub if_whole : ℕ → Progress → Taken → Taken
if_whole n p t = if nat_lt (length p.rest) n then refuse p reasons.Truncated (length p.rest) else t

-- a structure: its cells, and the reading of its bytes from its first cell on
pub record Taker : Type 0 where
  pub cells : List Cell
  pub takes : ℕ → Progress → Taken

-- the taker that is used if there is no structure
abbrev pub no_taker : Taker
no_taker = record { cells = []; takes = λ at p. Ok p }

-- the cells of the structures
abbrev pub cells_of : List Taker → List (List Cell)
cells_of structs = map (λ t. t.cells) structs

-- the reading of a number of a kind: refused for this reason if `fails` holds, otherwise stored in
-- the numbers
abbrev pub take_value : Kind → Reason → (ℤ → Bool) → (ℤ → List ℤ) → Progress → Taken
take_value kind reason fails put p = if_whole (width kind) p (
    if is_bad_bool kind (take (width kind) p.rest) then refuse p reasons.BadBool (width kind)
    else if fails (value_of kind (take (width kind) p.rest)) then refuse p reason (width kind)
    else on (width kind) (put (value_of kind (take (width kind) p.rest))) p)

-- the reading of one slot: its unit, or its rule
abbrev pub take_slot : Slot → Progress → Taken
take_slot (Number cell kind capacities) p = take_value kind reasons.CountTooLarge (exceeds capacities) (slice_set p.numbers cell) p
take_slot (Constant kind z) p = take_value kind reasons.NotEqual (λ y. not (same_number y z)) (λ y. p.numbers) p
take_slot (Filler n) p = if_whole n p (on n p.numbers p)
take_slot (Rule holds) p = if holds then Ok p else refuse p reasons.Invalid 0

-- the reading of one item whose first cell is given
abbrev pub take_item : List Taker → Item → List ℕ → ℕ → Progress → Taken
take_item structs (Num kind) capacities cell p = take_slot (Number cell kind capacities) p
take_item structs (Equal kind z) capacities cell p = take_slot (Constant kind z) p
take_item structs (Unused n) capacities cell p = take_slot (Filler n) p
take_item structs (Struct j) capacities cell p = (get_or structs j no_taker).takes cell p

-- the reading of n items, each `step` cells after the one before
abbrev pub take_items : List Taker → Item → List ℕ → ℕ → ℕ → ℕ → Progress → Taken
take_items structs item capacities step zero cell p = Ok p
take_items structs item capacities step (suc n) cell p = take_item structs item capacities cell p >>= λ q. take_items structs item capacities step n (cell + step) q

-- the reading of a field whose first cell is `cell`, in a description whose first cell is `base`
abbrev pub take_field : List Taker → Desc → ℕ → ℕ → ℕ → ℕ → Field → Progress → Taken
take_field structs d v base i cell f p =
    let own = numbers_of (cells_of structs) d p.numbers base in
    if is_there f.test f.since v own no_parent
    then take_items structs f.item (counted i d.fields) (item_size (cells_of structs) f.item) (elements_of f.count own) cell p
    else Ok p

-- the reading of the given fields
abbrev pub take_fields : List Taker → Desc → ℕ → ℕ → ℕ → ℕ → List Field → Progress → Taken
take_fields structs d v base i cell [] p = Ok p
take_fields structs d v base i cell (f ∷ fs) p =
    take_field structs d v base i cell f p >>= λ q. take_fields structs d v base (suc i) (cell + length (field_cells (cells_of structs) d.fields i f)) fs q

-- the validations of a description whose first cell is `base`
abbrev pub check_rules : List Taker → Desc → ℕ → ℕ → Progress → Taken
check_rules structs d v base p = take_slot (Rule (all_hold d.validate v (numbers_of (cells_of structs) d p.numbers base))) p

-- the reading of a description at a version, whose cells begin at `base`
unfoldable pub take_desc : List Taker → Desc → ℕ → ℕ → Progress → Taken
take_desc structs d v base p = take_fields structs d v base 0 base d.fields p >>= check_rules structs d v base

-- the taker of a structure, given the earlier ones
abbrev pub taker_of : List Taker → Desc → Taker
taker_of structs d = record { cells = desc_cells (cells_of structs) d; takes = take_desc structs d d.version }

-- the takers of the first k structures
abbrev pub takers : List Desc → ℕ → List Taker
takers structs k = first taker_of structs k
