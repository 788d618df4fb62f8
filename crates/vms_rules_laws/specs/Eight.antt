-- The eight rules of description sets as they are worded (docs/format.md, "Which sets are well
-- formed"). The walk over a set gives the first rule that fails, and its place. A law says that it
-- finds none exactly if all of this holds.
use Rattle.std.specs.Prelude.{◌≡◌, ◌⊎◌, ℕ, zero, suc, ◌+◌, ◌<◌, ◌≤◌, List, [], ◌∷◌, ◌++◌, length, Some, None, ℤ, pos, ◌≤ℤ◌}
use Rattle.std.specs.List.{slice_get}
use Rattle.vms_kinds.specs.declared.Item.{Item}
use Rattle.vms_kinds.specs.declared.Item.TheVariants.{Num, Equal, Unused, Struct}
use Rattle.vms_kinds.specs.declared.Kind.{Kind}
use Rattle.vms_kinds.specs.declared.Kind.TheVariants.{U8, U16, U32}
use Rattle.vms_kinds.specs.Codes.{InRange}
use Rattle.vms_spec.specs.declared.TheConstants.{MOST_ITEMS, MOST_UNUSED}
use Rattle.vms_spec.specs.declared.Count.{Count}
use Rattle.vms_spec.specs.declared.Count.TheVariants.{One, Fixed, Counted}
use Rattle.vms_spec.specs.declared.Whose.{Whose}
use Rattle.vms_spec.specs.declared.Whose.TheVariants.{Own, Parent}
use Rattle.vms_spec.specs.Images.{default_image}
use Rattle.vms_spec.specs.Sets.{Formula, AtLeast, Below, Cell, Not, And, Or, Field, Desc, Sub, Device, Set}
use Rattle.vms_elements.specs.Elements.{What, Number, Constant, Filler, Rule, Element}
use Rattle.vms_elements.specs.Parts.{device_elements}

-- the element at this number of a list is this one
abbrev pub At : {X : Type 0} → List X → ℕ → X → Type 0
At xs k x = slice_get xs k ≡ Some x

-- ---- 1: names

-- the number is from the first to the second
abbrev pub IsWithin : ℕ → ℕ → ℕ → Type 0
IsWithin least most n = (least ≤ n) × (n ≤ most)

-- a digit, a letter, or one of `_`, `-` and `.`
abbrev pub IsNameByte : ℕ → Type 0
IsNameByte b = IsWithin 48 57 b ⊎ IsWithin 65 90 b ⊎ IsWithin 97 122 b ⊎ (b ≡ 95) ⊎ (b ≡ 45) ⊎ (b ≡ 46)

-- a name of 1 to `most` bytes, each of them a name's byte
pub record IsName (most : ℕ) (name : List ℕ) : Type 0 where
  pub some : 1 ≤ length name
  pub few : length name ≤ most
  pub each : (k b : ℕ) → At name k b → IsNameByte b

-- a subsection's full name: the device's name, a slash and a tail
pub record IsSubName (device name : List ℕ) : Type 0 where
  pub tail : List ℕ
  pub is : name ≡ device ++ 47 ∷ tail
  pub named : IsName 64 tail

-- ---- 2: distinct names

-- no earlier element than number i has this name
abbrev pub IsNew : {X : Type 0} → (X → List ℕ) → List X → ℕ → List ℕ → Type 0
IsNew {X} name_of xs i name = (j : ℕ) (x : X) → j < i → At xs j x → name_of x ≡ name → ⊥

-- the names of a field: its own and its former ones
abbrev pub names_of : Field → List (List ℕ)
names_of f = f.name ∷ f.former

-- the names of field i are distinct, and none of them is a name of an earlier field
pub record AreNewNames (fields : List Field) (i : ℕ) (f : Field) : Type 0 where
  pub new : (j a b : ℕ) (g : Field) (name : List ℕ) → j < i → At fields j g → At (names_of g) a name → At (names_of f) b name → ⊥
  pub once : (a b : ℕ) (name : List ℕ) → a < b → At (names_of f) a name → At (names_of f) b name → ⊥

-- ---- 4: the fields that tests and counts name

-- field k is a single number without a test, present at every version from the minimum on
pub record IsSteady (d : Desc) (k : ℕ) : Type 0 where
  pub field : Field
  pub there : At d.fields k field
  pub kind : Kind
  pub number : field.item ≡ Num kind
  pub one : field.count ≡ One
  pub untested : field.test ≡ None
  pub since : field.since ≤ d.minimum

-- the test names this field
abbrev pub Names : Formula → Whose → ℕ → Type 0
Names (AtLeast n) whose k = ⊥
Names (Below n) whose k = ⊥
Names (Cell w j mask rel value) whose k = (w ≡ whose) × (j ≡ k)
Names (Not t) whose k = Names t whose k
Names (And s t) whose k = Names s whose k ⊎ Names t whose k
Names (Or s t) whose k = Names s whose k ⊎ Names t whose k

-- the test names only such fields of its own description, and only such of the parent
pub record NamesOnly (IsOwn IsParent : ℕ → Type 0) (t : Formula) : Type 0 where
  pub own : (k : ℕ) → Names t Own k → IsOwn k
  pub parent : (k : ℕ) → Names t Parent k → IsParent k

-- no field of a parent may be named
abbrev pub Nobody : ℕ → Type 0
Nobody k = ⊥

-- field k is such a field before field i
abbrev pub IsEarlier : Desc → ℕ → ℕ → Type 0
IsEarlier d i k = (k < i) × IsSteady d k

-- the kinds of a field that counts
abbrev pub IsCounting : Item → Type 0
IsCounting item = (item ≡ Num U8) ⊎ (item ≡ Num U16) ⊎ (item ≡ Num U32)

-- ---- 6: defaults

-- a number's default, and a constant, is in range; every other item has the default 0
abbrev pub DefaultFits : Item → ℤ → Type 0
DefaultFits (Num kind) z = InRange kind z
DefaultFits (Equal kind y) z = InRange kind y × (z ≡ pos 0)
DefaultFits (Unused n) z = z ≡ pos 0
DefaultFits (Struct j) z = z ≡ pos 0

-- ---- 7: limits

-- a test and the tests that it contains
abbrev pub parts_of : Formula → List Formula
parts_of (AtLeast n) = AtLeast n ∷ []
parts_of (Below n) = Below n ∷ []
parts_of (Cell whose field mask rel value) = Cell whose field mask rel value ∷ []
parts_of (Not t) = Not t ∷ parts_of t
parts_of (And s t) = And s t ∷ (parts_of s ++ parts_of t)
parts_of (Or s t) = Or s t ∷ (parts_of s ++ parts_of t)

-- the first test is negated or joined by the second
abbrev pub IsWithinTest : Formula → Formula → Type 0
IsWithinTest s (Not t) = s ≡ t
IsWithinTest s (And t u) = (s ≡ t) ⊎ (s ≡ u)
IsWithinTest s (Or t u) = (s ≡ t) ⊎ (s ≡ u)
IsWithinTest s _ = ⊥

-- the test contains one that contains one, and so on n times
abbrev pub Nests : ℕ → Formula → Type 0
Nests zero t = Unit {0}
Nests (suc n) t = (s : Formula) × IsWithinTest s t × Nests n s

-- it has at most 64 nodes and 16 levels, itself included
pub record IsSmall (t : Formula) : Type 0 where
  pub few : length (parts_of t) ≤ 64
  pub shallow : Nests 16 t → ⊥

-- structure i uses the earlier structure j
pub record Uses (structs : List Desc) (i j : ℕ) : Type 0 where
  pub desc : Desc
  pub there : At structs i desc
  pub place : ℕ
  pub field : Field
  pub among : At desc.fields place field
  pub is : field.item ≡ Struct j
  pub earlier : j < i

-- structure i uses another, which uses another, and so on n times
abbrev pub UsesOn : List Desc → ℕ → ℕ → Type 0
UsesOn structs zero i = Unit {0}
UsesOn structs (suc n) i = (j : ℕ) × Uses structs i j × UsesOn structs n j

-- a number, a constant and unused bytes are one item each; the end of a description is none
abbrev pub item_number : What → ℕ
item_number (Number cell) = 1
item_number (Constant kind z) = 1
item_number (Filler n) = 1
item_number (Rule holds) = 0

-- the items of these elements
abbrev pub items_among : List Element → ℕ
items_among [] = 0
items_among (x ∷ xs) = item_number x.what + items_among xs

-- the number of items of the devices: arrays at their full length or capacity, and structures
-- wherever they are used
abbrev pub items_of : Set → List Device → ℕ
items_of set [] = 0
items_of set (d ∷ devices) = items_among (device_elements set d (default_image set d)) + items_of set devices

-- ---- 8: counts

-- constants and unused bytes are single items, and lengths and capacities are at least 1
abbrev pub CountFits : Item → Count → Type 0
CountFits (Equal kind z) count = count ≡ One
CountFits (Unused n) count = count ≡ One
CountFits item One = Unit {0}
CountFits item (Fixed n) = 1 ≤ n
CountFits item (Counted by most) = 1 ≤ most

-- ---- the rules at a field, a description, a subsection, a device and a set

-- field i of a description that may use the structures of numbers below k
pub record IsField (k : ℕ) (d : Desc) (i : ℕ) (f : Field) : Type 0 where
  pub named : (a : ℕ) (name : List ℕ) → At (names_of f) a name → IsName 32 name
  pub new : AreNewNames d.fields i f
  pub test : (t : Formula) → f.test ≡ Some t → NamesOnly (IsEarlier d i) Nobody t
  pub count : (by most : ℕ) → f.count ≡ Counted by most → (steady : IsEarlier d i by) × IsCounting steady.1.field.item
  pub uses : (j : ℕ) → f.item ≡ Struct j → j < k
  pub default : DefaultFits f.item f.default
  pub counts : (j most : ℕ) (g : Field) → At d.fields j g → g.count ≡ Counted i most → f.default ≤ℤ pos most
  pub few_former : length f.former ≤ 8
  pub small : (t : Formula) → f.test ≡ Some t → IsSmall t
  pub unused : (n : ℕ) → f.item ≡ Unused n → IsWithin 1 MOST_UNUSED n
  pub good_count : CountFits f.item f.count

-- the rules at a validation
pub record IsValidation (d : Desc) (t : Formula) : Type 0 where
  pub named : NamesOnly (IsSteady d) Nobody t
  pub small : IsSmall t

-- the rules at a description that may use the structures of numbers below k
pub record IsDesc (k : ℕ) (d : Desc) : Type 0 where
  pub versions : d.minimum ≤ d.version
  pub few_fields : length d.fields ≤ 256
  pub few_validations : length d.validate ≤ 16
  pub fields : (i : ℕ) (f : Field) → At d.fields i f → IsField k d i f
  pub validations : (i : ℕ) (t : Formula) → At d.validate i t → IsValidation d t

-- the rules at structure i, which uses only structures of smaller number
pub record IsStruct (structs : List Desc) (i : ℕ) (d : Desc) : Type 0 where
  pub named : IsName 100 d.name
  pub new : IsNew (λ e. e.name) structs i d.name
  pub is : IsDesc i d
  pub shallow : UsesOn structs 4 i → ⊥
  pub some : 1 ≤ length d.fields

-- the rules at subsection j
pub record IsSub (k : ℕ) (d : Device) (j : ℕ) (s : Sub) : Type 0 where
  pub named : IsSubName d.desc.name s.desc.name
  pub new : IsNew (λ t. t.desc.name) d.subs j s.desc.name
  pub is : IsDesc k s.desc
  pub needed : NamesOnly (IsSteady s.desc) (IsSteady d.desc) s.needed
  pub small : IsSmall s.needed

-- the rules at device i
pub record IsDevice (set : Set) (i : ℕ) (d : Device) : Type 0 where
  pub named : IsName 100 d.desc.name
  pub new : (j : ℕ) (e : Device) → j < i → At set.devices j e → (e.desc.name ≡ d.desc.name) × (e.instance ≡ d.instance) → ⊥
  pub is : IsDesc (length set.structs) d.desc
  pub few_subs : length d.subs ≤ 32
  pub subs : (j : ℕ) (s : Sub) → At d.subs j s → IsSub (length set.structs) d j s

-- the rules at a set
pub record ObeysRules (set : Set) : Type 0 where
  pub named : (k : ℕ) (name : List ℕ) → At set.machines k name → IsName 64 name
  pub new : (j k : ℕ) (name : List ℕ) → j < k → At set.machines j name → At set.machines k name → ⊥
  pub few_machines : length set.machines ≤ 16
  pub few_structs : length set.structs ≤ 64
  pub few_devices : length set.devices ≤ 64
  pub structs : (i : ℕ) (d : Desc) → At set.structs i d → IsStruct set.structs i d
  pub devices : (i : ℕ) (d : Device) → At set.devices i d → IsDevice set i d
  pub items : items_of set set.devices ≤ MOST_ITEMS
