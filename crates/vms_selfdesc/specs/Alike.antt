-- When two images of a device have the same description.
use Rattle.std.specs.Prelude.{◌≡◌, ℕ, ◌<◌, Bool, true, false, ◌&&◌, List, length, is_none, ℤ}
use Rattle.vms_kinds.specs.declared.Item.{Item}
use Rattle.vms_kinds.specs.declared.Item.TheVariants.{Struct}
use Rattle.vms_spec.specs.declared.Count.{Count}
use Rattle.vms_spec.specs.declared.Count.TheVariants.{Counted}
use Rattle.vms_spec.specs.declared.Part.{Part}
use Rattle.vms_spec.specs.Sets.{Field, Set}
use Rattle.vms_spec.specs.Layout.{elements_of, no_parent}
use Rattle.vms_spec.specs.Tests.{is_there}
use Rattle.vms_desc.specs.Asks.{field_at, own_numbers}
use Rattle.vms_desc.specs.Described.{described, device_at}
use Rattle.vms_desc.specs.Parts.{desc_at}
use Rattle.vms_spots.specs.Spots.{AreOf}
use Rattle.vms_image.specs.Typed.{IsOfDevice, Typed, state_of}
use Rattle.vms_selfdesc.specs.Entries.{part_entries}
use Rattle.vms_selfdesc.specs.Needs.{HasPlace}
use Rattle.vms_selfdesc.specs.declared.alike.Pair.{Pair}

-- ---- fields

-- The item is no structure.
abbrev pub is_plain : Item → Bool
is_plain (Struct j) = false
is_plain item = true

-- The number of elements isn't in a cell.
abbrev pub is_uncounted : Count → Bool
is_uncounted (Counted by most) = false
is_uncounted count = true

-- The field's presence and its number of elements depend on no number.
abbrev pub is_steady : Field → Bool
is_steady f = is_uncounted f.count && is_none f.test

-- By two assignments of numbers the field is present in both or in neither, with the same number of elements.
pub record HasSameCount (v : ℕ) (own other : ℕ → ℕ) (f : Field) : Type 0 where
  pub count : elements_of f.count own ≡ elements_of f.count other
  pub there : is_there f.test f.since v own no_parent ≡ is_there f.test f.since v other no_parent

-- The field also has no structures, so the same is listed of it by both.
pub record IsFieldAlike (v : ℕ) (own other : ℕ → ℕ) (f : Field) : Type 0 where
  pub plain : is_plain f.item ≡ true
  pub stand : HasSameCount v own other f

-- A part has the same entries by two lists of numbers, in the stream or not.
abbrev pub IsPartAlike : Set → Part → ℕ → List ℤ → List ℤ → Type 0
IsPartAlike set part base n m = (sent : Bool) → part_entries set (desc_at set part) sent n base ≡ part_entries set (desc_at set part) sent m base

-- ---- what the calls require

-- The numbers of two images are of the same kinds, and each is in the range of its kind.
pub record HaveKinds (first second : Typed) : Type 0 where
  pub same : first.kinds ≡ second.kinds
  pub first_fit : AreOf first.kinds first.numbers
  pub second_fit : AreOf second.kinds second.numbers

module _ (p : Pair) where
  -- The set of a pair of images, and the numbers of each.
  abbrev pub set_of : Set
  set_of = described p.set.now

  abbrev pub firsts : List ℤ
  firsts = p.first.now.numbers

  abbrev pub seconds : List ℤ
  seconds = p.second.now.numbers

  -- Both are images of device i.
  pub record AreOfDevice (i : ℕ) : Type 0 where
    pub first : IsOfDevice set_of i (state_of p.first.now)
    pub second : IsOfDevice set_of i (state_of p.second.now)

  -- The same, at one version and with numbers of the same kinds.
  pub record AreKeptOf (i : ℕ) : Type 0 where
    pub of : AreOfDevice i
    pub version : p.first.now.version ≡ p.second.now.version
    pub kinds : HaveKinds p.first.now p.second.now

  -- Both are images of device i, which has a subsection j.
  pub record HaveSub (i j : ℕ) : Type 0 where
    pub first : IsOfDevice set_of i (state_of p.first.now)
    pub second : IsOfDevice set_of i (state_of p.second.now)
    pub is_sub : j < length (device_at set_of i).subs

  -- The cells of a part are among the numbers of both from a cell on, and both have as many.
  pub record HavePart (part : Part) (base : ℕ) : Type 0 where
    pub first : HasPlace set_of part base firsts
    pub second : HasPlace set_of part base seconds
    pub long : length firsts ≡ length seconds

  -- The same, and the part has a field k.
  pub record HaveField (part : Part) (base k : ℕ) : Type 0 where
    pub first : HasPlace set_of part base firsts
    pub second : HasPlace set_of part base seconds
    pub field : k < length (desc_at set_of part).fields

  -- Field k of the part is alike in both.
  abbrev pub AlikeAt : Part → ℕ → ℕ → Type 0
  AlikeAt part base k =
      IsFieldAlike (desc_at set_of part).version (own_numbers set_of part firsts base) (own_numbers set_of part seconds base) (field_at set_of part k)

  -- It has the same count in both.
  abbrev pub SameCountAt : Part → ℕ → ℕ → Type 0
  SameCountAt part base k =
      HasSameCount (desc_at set_of part).version (own_numbers set_of part firsts base) (own_numbers set_of part seconds base) (field_at set_of part k)
