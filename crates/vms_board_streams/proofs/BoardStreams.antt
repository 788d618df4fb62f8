-- The streams of both families of boards: short, of bytes, and with the laws of a family.
use Rattle.std.proofs.Common.{⊎_elim}
use Rattle.vms_board_streams.proofs.FamilyLaws as family
use Rattle.vms_board_streams.proofs.Facade
use Facade.{cases_lt, Alike, Bool, Compatible, IsSound, NEWEST, NEWEST_CLOCK_SET, Set, StreamsAreBytes, StreamsAreShort, StreamsStand, WellFormed, alike_stays}
use Facade.{arith, by_number, clock, clock_formed, clock_holds, clock_machine, clock_set, clock_stands, devices_long, first, first_mismatch, formed}
use Facade.{images_come_back, isa, isa_stands, list_all, ltb-true, machine_of, nat_lt, none_is, refl, saved_images, sets_are_compatible, shipped_compatible}
use Facade.{shipped_holds, shipped_set, shipped_sets, suc, true, zero, ℕ, ◌<◌, ◌≡◌, ◌≤◌}
use Rattle.vms_board_streams.proofs.{FamilyBytes.IsMachineName, FamilyBytes.IsSmall, FamilyBytes.family_bytes, FamilyBytes.family_short, FamilyLaws.Laws}
use Rattle.dev_board.proofs.SavedLaws.{alike_stays as isa_alike}
use Rattle.dev_board.specs.Sound.{IsSound as IsSoundIsa, Alike as AlikeIsa}
use Rattle.dev_images.proofs.Carried.{images_come_back as isa_images_back}
use Rattle.dev_images.specs.Images.{saved_images as isa_images}

-- ---- the streams of the boards isa-1 to the newest are short, and are bytes

pub isa_well : (set : ℕ) → WellFormed (shipped_set set)
isa_well set = none_is _ (formed set)

-- The sections of each shipped set, by computation.
abbrev are_short : Set → Bool
are_short set = nat_lt (devices_long set set.devices) 4096

all-short : list_all are_short shipped_sets ≡ true
unfolding first
all-short = refl

isa-short : (set : ℕ) → set ≤ NEWEST → devices_long (shipped_set set) (shipped_set set).devices < 4096
isa-short set le = ltb-true (devices_long (shipped_set set) (shipped_set set).devices) 4096 (by_number are_short all-short set)

isa-named : (level : ℕ) → level ≤ NEWEST → IsMachineName (machine_of level)
isa-named level le = record { short = omega arith; octets = (omega arith, (omega arith, (omega arith, (omega arith, (omega arith, tt))))) }

isa-small : IsSmall isa
isa-small = record {
  well = λ set le. isa_well set;
  sections = isa-short;
  text = λ set images le. shipped_holds.shipped set le images;
  machine = λ set m may. isa-named _ (omega arith);
}

pub isa_are_short : StreamsAreShort isa IsSoundIsa
isa_are_short = family_short isa isa-small _

pub isa_are_bytes : StreamsAreBytes isa IsSoundIsa
isa_are_bytes = family_bytes isa isa-small _

-- ---- the streams of the boards clk-1 and clk-2 are short, and are bytes

pub clock_well : (set : ℕ) → WellFormed (clock_set set)
clock_well set = none_is _ (clock_formed set)

clock-short : (set : ℕ) → devices_long (clock_set set) (clock_set set).devices < 4096
unfolding first
clock-short zero = omega arith
clock-short (suc zero) = omega arith
clock-short (suc (suc set)) = omega arith

clock-named : (version : ℕ) → version ≤ NEWEST_CLOCK_SET → IsMachineName (clock_machine version)
clock-named version le = record { short = omega arith; octets = (omega arith, (omega arith, (omega arith, (omega arith, (omega arith, tt))))) }

clock-small : IsSmall clock
clock-small = record {
  well = λ set le. clock_well set;
  sections = λ set le. clock-short set;
  text = λ set images le. clock_holds.clock set images;
  machine = λ set m may. clock-named _ (omega arith);
}

pub clock_are_short : StreamsAreShort clock IsSound
clock_are_short = family_short clock clock-small _

pub clock_are_bytes : StreamsAreBytes clock IsSound
clock_are_bytes = family_bytes clock clock-small _

-- ---- the laws of the streams of the boards isa-1 to isa-4, and the properties that they need

newest_itself : Compatible (shipped_set NEWEST) (shipped_set NEWEST)
unfolding first_mismatch first
newest_itself = refl

pub compatible : (s : ℕ) → 1 ≤ s → s ≤ NEWEST → Compatible (shipped_set s) (shipped_set NEWEST)
compatible s l h =
    ⊎_elim (λ (lt : s < NEWEST). shipped_compatible s NEWEST l lt (omega arith))
    (λ (ge : NEWEST ≤ s). let same : s ≡ NEWEST = omega (arith, h, ge) in rw same newest_itself) (cases_lt s NEWEST)

isa_streams_stand : StreamsStand isa AlikeIsa IsSoundIsa
isa_streams_stand = record {
  well = λ set last. isa_well set;
  compatible = compatible;
  described = λ set m last. let l = shipped_holds.shipped set last (isa_images set m) in omega arith;
  back = λ set m s may. let b = isa_images_back.back set m s may in record { back = b.back; restored = b.restored; alike = b.alike };
  alike = λ event m n a. let one = isa_alike.event event m n a in record { answer = one.value; alike = one.alike };
  octets = isa_are_bytes;
}

pub isa_laws : Laws isa AlikeIsa IsSoundIsa
isa_laws = family.laws isa AlikeIsa isa_stands isa_streams_stand

-- ---- the laws of the streams of the boards clk-1 and clk-2, and the properties that they need

clock_streams_stand : StreamsStand clock Alike IsSound
clock_streams_stand = record {
  well = λ set last. clock_well set;
  compatible = sets_are_compatible.newest;
  described = λ set m last. let l = clock_holds.clock set (saved_images set m) in omega arith;
  back = λ set m s may. let b = images_come_back.back set m s may in record { back = b.back; restored = b.restored; alike = b.alike };
  alike = λ event m n a. let one = alike_stays.event event m n a in record { answer = one.value; alike = one.alike };
  octets = clock_are_bytes;
}

pub clock_laws : Laws clock Alike IsSound
clock_laws = family.laws clock Alike clock_stands clock_streams_stand
