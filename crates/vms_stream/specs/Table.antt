-- The table of reasons: which units are invalid, and why (docs/format.md, "Units, offsets and refusals"). Its
-- rows are tried in order.
use Rattle.std.specs.Prelude.{ℕ, Bool, true, false, not, ◌&&◌, ◌||◌, ◌==◌, nat_lt, if◌then◌else◌, List, [], ◌∷◌, ◌++◌, Option, Some, None}
use Rattle.std.specs.Str.{bytes_eq}
use Rattle.vms_spec.specs.declared.Reason.{Reason}
use Rattle.vms_spec.specs.declared.Reason.TheVariants as reasons
use Rattle.vms_spec.specs.Lists.{at_option, position}
use Rattle.vms_spec.specs.Numbers.{is_truth, is_above, same_number, exceeds}
use Rattle.vms_spec.specs.Sets.{Desc, Sub, Device, Set}
use Rattle.vms_spec.specs.Layout.{Number as NumberSlot, Constant as ConstantSlot}
use Rattle.vms_spec.specs.Streams.{magic, is_one_of}
use Rattle.vms_spec.specs.Units.{Piece, Magic, Version, Configuration, Long, Head, Number, Constant, SubHead, Foot, End, Start, Mark}
use Rattle.vms_spec.specs.SoFar.{subs_of, device_named}
use Rattle.vms_stream.specs.SoFar.{Known, known, Bare, Unknown, Footed}
use Rattle.vms_stream.specs.Dues.{Due, Between, AfterFields, AfterEnd, Field, due}

-- One row: whether it takes the unit, the device concerned, and the reason.
pub record Row : Type 0 where
  pub taken : Bool
  pub section : Option ℕ
  pub reason : Reason

-- The row of these three.
abbrev pub row : Bool → Option ℕ → Reason → Row
row taken section reason = record { taken = taken; section = section; reason = reason }

-- The device and reason of the first row that takes the unit.
abbrev pub first_row : List Row → Option (Option ℕ × Reason)
first_row [] = None
first_row (r ∷ rows) = if r.taken then Some (r.section, r.reason) else first_row rows

-- ---- tests on options

-- Whether an option is none.
abbrev pub is_none : {X : Type 0} → Option X → Bool
is_none None = true
is_none (Some x) = false

-- `test_some p o` is whether `o` holds something of which `p` is true.
abbrev pub test_some : {X : Type 0} → (X → Bool) → Option X → Bool
test_some p None = false
test_some p (Some x) = p x

-- ---- tests on what is due

-- Whether a unit between sections may come.
abbrev pub is_between : Due → Bool
is_between (Between first after) = true
is_between (AfterFields k Unknown) = true
is_between (AfterFields k Bare) = true
is_between _ = false

-- Whether a configuration has come directly before.
abbrev pub is_after_configuration : Due → Bool
is_after_configuration (Between first after) = after
is_after_configuration _ = false

-- Whether the open section must have a footer.
abbrev pub wants_foot : Due → Bool
wants_foot (AfterFields k Footed) = true
wants_foot _ = false

-- Whether the end mark has come.
abbrev pub is_after_end : Due → Bool
is_after_end AfterEnd = true
is_after_end _ = false

-- ---- tests on a unit alone

-- Whether the unit is a mark that begins nothing longer.
abbrev pub is_lone : Piece → Bool
is_lone (Mark m) = true
is_lone _ = false

-- Whether the unit is the lone mark `b`.
abbrev pub is_mark : ℕ → Piece → Bool
is_mark b (Mark m) = m == b
is_mark b _ = false

-- Whether the unit is mark `b` with a length that is too great.
abbrev pub is_long : ℕ → Piece → Bool
is_long b (Long m n) = m == b
is_long b _ = false

-- Whether the unit is a magic of other bytes.
abbrev pub other_magic : Piece → Bool
other_magic (Magic bytes) = not (bytes_eq bytes magic)
other_magic _ = false

-- Whether the unit is a stream's version of which `p` is true.
abbrev pub is_version : (ℕ → Bool) → Piece → Bool
is_version p (Version v) = p v
is_version p _ = false

-- Whether a name is `ram`.
abbrev pub is_ram : List ℕ → Bool
is_ram name = bytes_eq name (0x72 ∷ 0x61 ∷ 0x6d ∷ [])

-- Whether the unit is a section start with mark 01 whose name satisfies `p`.
abbrev pub starts : (List ℕ → Bool) → Piece → Bool
starts p (Start id name) = p name
starts p _ = false

-- Whether the unit is a configuration whose machine name satisfies `p`.
abbrev pub configures : (List ℕ → Bool) → Piece → Bool
configures p (Configuration name) = p name
configures p _ = false

-- Whether the unit is a bool above 1.
abbrev pub bad_bool : Piece → Bool
bad_bool (Number c kind z) = is_truth kind && is_above z 1
bad_bool (Constant kind z) = is_truth kind && is_above z 1
bad_bool _ = false

-- ---- tests on a unit by what is due

-- Whether the unit is a constant whose number isn't the expected one.
abbrev pub other_constant : Piece → Due → Bool
other_constant (Constant its y) (Field k (ConstantSlot kind z)) = not (same_number y z)
other_constant _ _ = false

-- Whether the unit is a number above the capacity of an array that it counts.
abbrev pub large_count : Piece → Due → Bool
large_count (Number cell its z) (Field k (NumberSlot c kind capacities)) = exceeds capacities z
large_count _ _ = false

-- Whether the unit is a footer of another id, or, in a footed stream, neither a footer nor a subsection head.
abbrev pub bad_foot : Due → Known → Piece → Bool
bad_foot d k (Foot id) = not (id == k.id)
bad_foot d k (Mark b) = wants_foot d
bad_foot d k _ = false

-- The subsections of the open device.
abbrev pub subs_in : Set → Known → List Sub
subs_in set k = subs_of (at_option set.devices k.section)

-- The index of the subsection `name` of the open device.
abbrev pub sub_at : Set → Known → List ℕ → Option ℕ
sub_at set k name = position (λ (s : Sub). bytes_eq s.desc.name name) 0 (subs_in set k)

-- ---- tests on a unit by what is known

module _ (set : Set) where
  -- The device that a head names, or whose section is open.
  abbrev pub concerned : Known → Piece → Option ℕ
  concerned k (Head id name instance v) = device_named set name instance
  concerned k _ = k.section

  -- Whether the unit is a head that names no device of the set.
  abbrev pub no_device : Piece → Bool
  no_device (Head id name instance v) = is_none (device_named set name instance)
  no_device _ = false

  -- Whether the unit is a head of a device that has come.
  abbrev pub again : Known → Piece → Bool
  again k (Head id name instance v) = test_some (λ (b : Bool). b) (at_option k.came (device_named set name instance))
  again k _ = false

  -- `version_is p k x` is whether `p` is true of the version of a head or subsection head and the description
  -- that it names.
  abbrev pub version_is : (Desc → ℕ → Bool) → Known → Piece → Bool
  version_is p k (Head id name instance v) = test_some (λ (d : Device). p d.desc v) (at_option set.devices (device_named set name instance))
  version_is p k (SubHead name v) = test_some (λ (s : Sub). p s.desc v) (at_option (subs_in set k) (sub_at set k name))
  version_is p k _ = false

  -- Whether the unit is a head of a subsection that the open device doesn't have.
  abbrev pub no_sub : Known → Piece → Bool
  no_sub k (SubHead name v) = is_none (sub_at set k name)
  no_sub k _ = false

  -- Whether the unit is a head of a subsection that has come in this section.
  abbrev pub sub_again : Known → Piece → Bool
  sub_again k (SubHead name v) = test_some (λ (o : Option ℕ). not (is_none o)) (at_option k.image.came (sub_at set k name))
  sub_again k _ = false

  -- At an end mark, the first device that hasn't come.
  abbrev pub missing : Known → Piece → Option ℕ
  missing k End = position not 0 k.came
  missing k _ = None

-- The rows for a unit `x` if `d` is due and `k` is known. An input that ends inside the unit and a validation
-- that fails are judged before, in the module Faults.
--
-- The first part, `alone`, has the rows that a unit alone decides, by what is due, the id of the open section
-- and the device concerned. The second, `asking`, has those that need the set, the machines or the units so
-- far. No unit has rows in both, so the order of the two parts doesn't matter.
abbrev pub alone : Due → Known → Piece → List Row
alone d k x =
    row (other_magic x) None reasons.BadMagic
    ∷ row (is_version (λ v. v == 2) x) None reasons.OldStream
    ∷ row (is_version (λ v. not (v == 2 || v == 3)) x) None reasons.BadVersion
    ∷ row (is_lone x && is_between d && not (is_mark 2 x || is_mark 3 x || is_mark 8 x || (is_mark 5 x && is_after_configuration d))) None reasons.BadMark
    ∷ row (starts is_ram x) None reasons.Ram
    ∷ row (starts (λ name. not (is_ram name)) x || ((is_mark 2 x || is_mark 3 x) && is_between d)) None reasons.Iterative
    ∷ row (is_mark 8 x && is_between d) None reasons.Command
    ∷ row (is_mark 5 x && is_after_configuration d) None reasons.ConfigurationExtra
    ∷ row (is_long 7 x) None reasons.WrongMachine
    ∷ row (bad_bool x) k.section reasons.BadBool
    ∷ row (other_constant x d) k.section reasons.NotEqual
    ∷ row (large_count x d) k.section reasons.CountTooLarge
    ∷ row (bad_foot d k x) k.section reasons.BadFooter
    ∷ row (is_lone x && is_after_end d) None reasons.Trailing
    ∷ row (is_long 6 x) None reasons.DescriptionTooLong
    ∷ []

-- The rows that need the set, the machines or the units so far.
abbrev pub asking : Set → List (List ℕ) → Known → Piece → List Row
asking set names k x =
    row (configures (λ name. not (is_one_of names name)) x) None reasons.WrongMachine
    ∷ row (no_device set x) None reasons.UnknownSection
    ∷ row (again set k x) (concerned set k x) reasons.RepeatedSection
    ∷ row (version_is set (λ d v. nat_lt d.version v) k x) (concerned set k x) reasons.TooNew
    ∷ row (version_is set (λ d v. nat_lt v d.minimum) k x) (concerned set k x) reasons.TooOld
    ∷ row (no_sub set k x) (concerned set k x) reasons.UnknownSubsection
    ∷ row (sub_again set k x) (concerned set k x) reasons.RepeatedSubsection
    ∷ row (not (is_none (missing set k x))) (missing set k x) reasons.MissingSection
    ∷ []

-- All rows.
abbrev pub table : Set → List (List ℕ) → Due → Known → Piece → List Row
table set names d k x = alone d k x ++ asking set names k x

-- The device and reason of the first row that takes the unit `x`.
abbrev pub first_of : Set → List (List ℕ) → Due → Known → Piece → Option (Option ℕ × Reason)
first_of set names d k x = first_row (table set names d k x)

-- The same for the unit `x` after the units `u`.
abbrev pub reason_of : Set → List (List ℕ) → List Piece → Piece → Option (Option ℕ × Reason)
reason_of set names u x = first_of set names (due set u) (known set u) x
