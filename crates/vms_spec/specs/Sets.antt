-- Description sets as plain data (docs/format.md, "What a section has"). Names are the bytes of
-- their text. Structures, devices, fields and subsections have numbers from 0 on, in the order of
-- the lists here.
use Rattle.std.specs.Prelude.{ℕ, List, Option, ℤ}
use Rattle.vms_kinds.specs.declared.Item.{Item}
use Rattle.vms_spec.specs.declared.Rel.{Rel}
use Rattle.vms_spec.specs.declared.Whose.{Whose}
use Rattle.vms_spec.specs.declared.Count.{Count}

-- A test. AtLeast and Below compare the version. Cell compares the number of a field: whose field
-- it is, its number, a mask, a relation, and the value that the masked number is compared with.
pub data Formula : Type 0 where
  AtLeast : ℕ → Formula
  Below : ℕ → Formula
  Cell : Whose → ℕ → ℕ → Rel → ℕ → Formula
  Not : Formula → Formula
  And : Formula → Formula → Formula
  Or : Formula → Formula → Formula

-- a field: its names, item, count, first version, test and default
pub record Field : Type 0 where
  pub name : List ℕ
  pub former : List (List ℕ)
  pub item : Item
  pub count : Count
  pub since : ℕ
  pub test : Option Formula
  pub default : ℤ

-- a description: a name, the version and the minimum version, fields, and validations
pub record Desc : Type 0 where
  pub name : List ℕ
  pub version : ℕ
  pub minimum : ℕ
  pub fields : List Field
  pub validate : List Formula

-- a subsection and its needed test; its name is the full one: the device's name, a slash and a tail
pub record Sub : Type 0 where
  pub desc : Desc
  pub needed : Formula

-- a device: an instance id, a description, and subsections
pub record Device : Type 0 where
  pub instance : ℕ
  pub desc : Desc
  pub subs : List Sub

-- a description set: the names of machines, the structures, and the devices
pub record Set : Type 0 where
  pub machines : List (List ℕ)
  pub structs : List Desc
  pub devices : List Device
