-- The timer chip's cells are saved in a ready image, and are carried as its own table says.
use Rattle.dev_images.proofs.Facade.{AreCellsOf, Bool, COUNTERS, Cell, Constant, Desc, Device, Filler, InEachSet, InRange, Kind, LATCH, LATCHED, List, NEWEST}
use Rattle.dev_images.proofs.Facade.{None, Num, Number, Option, Origin, PitIsCarried, PitIsReady, Row, Rule, RulesHold, STATUS, STATUS_LATCHED, Set, Slot, Some}
use Rattle.dev_images.proofs.Facade.{U16, U8, WLOW, WLOW_HELD, [], and-false, and-true, and_from, arith, carried, carried_by, carriers, carry_items}
use Rattle.dev_images.proofs.Facade.{channel_place, channel_rows, cond, device_cells, false, first, get_or, has_cell, i8254_at_1, i8254_at_2, is_same}
use Rattle.dev_images.proofs.Facade.{latched_place, map, meanings, names_append, nat_of, newest_set, no_carrier, no_meaning, number, or-false, or_assoc, pit_in}
use Rattle.dev_images.proofs.Facade.{pos, refl, replicate, rules_append, same_kind, same_number, set_1, set_2, shipped_set, status_place, struct_cells, subst}
use Rattle.dev_images.proofs.Facade.{suc, sym, true, zero, ℕ, ℤ, ◌&&◌, ◌++◌, ◌+◌, ◌==◌, ◌||◌, ◌∷◌, ◌≡◌}
use Rattle.dev_images.proofs.{Facade.◌≤ℤ◌, Facade.◌≤◌, ReadyOf.all_from, ReadyOf.are_kept, ReadyOf.from-more, ReadyOf.ready-of, ReadyOf.run}
use Rattle.dev_images.proofs.ShippedDevices.{IsSavedAs, SavedWhere, carried-in, is_pit, later_structs, needs, pit_kinds, pit_origins, ready-in, unneeded}
use Rattle.vms_kinds.specs.declared.Kind.TheVariants.{Bool as Truth}
use Rattle.dev_pit.specs.Cells.{carried as pit_carried}

-- ---- cells one after the other, each with whether it is present

abbrev pub run_slots : ℕ → List (Bool × Cell) → List Slot → List Slot
run_slots at [] rest = rest
run_slots at (c ∷ cells) rest = cond c.0 (Number at c.1.kind c.1.capacities ∷ []) [] ++ run_slots (suc at) cells rest

-- Whether one of them is at a place and present.
abbrev pub run_has : ℕ → List (Bool × Cell) → ℕ → Bool
run_has at [] k = false
run_has at (c ∷ cells) k = ((at == k) && c.0) || run_has (suc at) cells k

run-has : (at : ℕ) (cells : List (Bool × Cell)) (rest : List Slot) (k : ℕ) → has_cell (run_slots at cells rest) k ≡ (run_has at cells k || has_cell rest k)
run-has at [] rest k = refl
run-has at ((true, cell) ∷ cells) rest k = grind (arith, and-true, or_assoc, run-has (suc at) cells rest k)
run-has at ((false, cell) ∷ cells) rest k = grind (arith, and-false, run-has (suc at) cells rest k)

run-rules : (at : ℕ) (cells : List (Bool × Cell)) (rest : List Slot) → RulesHold rest → RulesHold (run_slots at cells rest)
run-rules at [] rest h = h
run-rules at ((there, cell) ∷ cells) rest h = grind (arith, run-rules (suc at) cells rest h)

-- ---- a channel among an image's cells, by the place of its first. Two of its cells may be absent.

-- The places of the first cells of the second and the third channel.
abbrev pub second_at : ℕ
second_at = channel_place 1

abbrev pub third_at : ℕ
third_at = channel_place 2

-- The place a number of cells after another.
abbrev behind : ℕ → ℕ → ℕ
behind zero at = at
behind (suc n) at = behind n (suc at)

abbrev cell_of : Kind → Cell
cell_of kind = record { kind = kind; capacities = []; default = pos 0 }

-- Whether a field is in the bytes: the flag that holds it, if there is one, is set.
abbrev is_there : List ℤ → ℕ → Option ℕ → Bool
is_there numbers at None = true
is_there numbers at (Some flag) = needs (get_or numbers (behind flag at) (pos 0))

-- Its cells, each with whether it is in the bytes.
abbrev pub channel : List ℤ → ℕ → List (Bool × Cell)
channel numbers at = map (λ (row : Row). (is_there numbers at row.shape.held_by, cell_of row.shape.kind)) channel_rows

-- Its slots in a set.
abbrev pub slots_in : Set → List ℤ → ℕ → List Slot
slots_in set numbers at = (get_or (meanings set.structs 1) 0 no_meaning).slots numbers at

-- These are the slots of its cells, followed by another slot.
abbrev pub IsChannel : Set → List ℤ → Slot → ℕ → Type 0
IsChannel set numbers last at = slots_in set numbers at ≡ run_slots at (channel numbers at) (last ∷ []) ++ Rule true ∷ []

-- What follows a channel's cells: its gate's byte, which carries nothing in later sets.
abbrev gate : Slot
gate = Constant U8 (pos 1)

abbrev pub no_gate : Slot
no_gate = Filler 1

-- ---- three channels, and what follows them

abbrev pub chip_slots : Set → List ℤ → List Slot → List Slot
chip_slots set numbers rest =
    (((slots_in set numbers 0 ++ (slots_in set numbers second_at ++ (slots_in set numbers third_at ++ []))) ++ rest) ++ Rule true ∷ []) ++ []

-- Whether a place's cell is in the bytes.
abbrev pub chip_has : List ℤ → List Slot → ℕ → Bool
chip_has numbers rest k =
    run_has 0 (channel numbers 0) k || (run_has second_at (channel numbers second_at) k || (run_has third_at (channel numbers third_at) k || has_cell rest k))

-- The statuses of later sets.
abbrev pub status_slots : List Slot
status_slots =
    Number (latched_place 0) Truth [] ∷ Number (latched_place 1) Truth [] ∷ Number (latched_place 2) Truth []
    ∷ Number (status_place 0) U8 [] ∷ Number (status_place 1) U8 [] ∷ Number (status_place 2) U8 [] ∷ []

module _ (set : Set) (numbers : List ℤ) (last : Slot) where
  channel-has : (at k : ℕ) → IsChannel set numbers last at → has_cell (last ∷ []) k ≡ false
      → has_cell (slots_in set numbers at) k ≡ run_has at (channel numbers at) k
  channel-has at k is none = grind (arith, names_append, run-has, or-false)

  channel-rules : (at : ℕ) → IsChannel set numbers last at → RulesHold (last ∷ []) → RulesHold (slots_in set numbers at)
  channel-rules at is own = rw is (rules_append (run_slots at (channel numbers at) (last ∷ [])) _ (run-rules at (channel numbers at) (last ∷ []) own) (refl, tt))

-- Each channel has these slots.
pub record AreChannels (set : Set) (numbers : List ℤ) (last : Slot) : Type 0 where
  pub first : IsChannel set numbers last 0
  pub second : IsChannel set numbers last second_at
  pub third : IsChannel set numbers last third_at
  pub none : (k : ℕ) → has_cell (last ∷ []) k ≡ false
  pub rules : RulesHold (last ∷ [])

module _ (set : Set) (numbers : List ℤ) (last : Slot) (rest : List Slot) (are : AreChannels set numbers last) where
  pub chip-has : (k : ℕ) → has_cell (chip_slots set numbers rest) k ≡ chip_has numbers rest k
  chip-has k =
      simp (names_append, channel-has set numbers last 0 k are.first (are.none k), channel-has set numbers last second_at k are.second (are.none k), channel-has set numbers last third_at k are.third (are.none k), or_assoc, or-false)

  chip-rules : RulesHold rest → RulesHold (chip_slots set numbers rest)
  chip-rules more = grind (arith, channel-rules, rules_append)

  chip-kept : (cells : List Cell) → all_from (λ k cell. chip_has numbers rest k || same_number (get_or numbers k (pos 0)) cell.default) 0 cells ≡ true
      → are_kept (chip_slots set numbers rest) numbers 0 cells ≡ true
  chip-kept cells e = from-more _ _ 0 cells (λ k cell l h. subst (λ b. (b || same_number (get_or numbers k (pos 0)) cell.default) ≡ true) (sym (chip-has k))) e

-- ---- the cells that may be absent

-- These two are 0 if their flags are clear.
record IsKeptAt (numbers : List ℤ) (at : ℕ) : Type 0 where
  wlow : needs (get_or numbers (behind WLOW_HELD at) (pos 0)) ≡ false → get_or numbers (behind WLOW at) (pos 0) ≡ pos 0
  latch : needs (get_or numbers (behind LATCHED at) (pos 0)) ≡ false → get_or numbers (behind LATCH at) (pos 0) ≡ pos 0

record IsKept (numbers : List ℤ) : Type 0 where
  first : IsKeptAt numbers 0
  second : IsKeptAt numbers second_at
  third : IsKeptAt numbers third_at

-- An absent number is 0 if its flag is clear.
off : (flag number : ℤ) → InRange Truth flag → pos 0 ≤ℤ number → ((nat_of flag == 1) ≡ false → nat_of number ≡ 0) → needs flag ≡ false → number ≡ pos 0
off flag number r l h e = grind (arith, unneeded)

absent-kept : (set : ℕ) (numbers : List ℤ) → AreCellsOf set numbers → IsKept numbers
absent-kept set numbers are =
    let range = are.of_kinds.in_range in
    record {
      first = record {
        wlow = off _ _ (range WLOW_HELD (omega arith)) (range WLOW (omega arith)).0 (are.wlow 0 (omega arith));
        latch = off _ _ (range LATCHED (omega arith)) (range LATCH (omega arith)).0 (are.latch 0 (omega arith));
      };
      second = record {
        wlow = off _ _ (range (second_at + WLOW_HELD) (omega arith)) (range (second_at + WLOW) (omega arith)).0 (are.wlow 1 (omega arith));
        latch = off _ _ (range (second_at + LATCHED) (omega arith)) (range (second_at + LATCH) (omega arith)).0 (are.latch 1 (omega arith));
      };
      third = record {
        wlow = off _ _ (range (third_at + WLOW_HELD) (omega arith)) (range (third_at + WLOW) (omega arith)).0 (are.wlow 2 (omega arith));
        latch = off _ _ (range (third_at + LATCHED) (omega arith)) (range (third_at + LATCH) (omega arith)).0 (are.latch 2 (omega arith));
      };
    }

settled : (there : Bool) (z : ℤ) → (there ≡ false → z ≡ pos 0) → (((there || false) || false) || same_number z (pos 0)) ≡ true
settled there z off = grind (arith, is_same)

-- In later sets too, which have the same cells and then those of the statuses.
all-settled : (numbers : List ℤ) → IsKept numbers
    → all_from (λ k cell. chip_has numbers [] k || same_number (get_or numbers k (pos 0)) cell.default) 0 (device_cells set_1 i8254_at_1) ≡ true
unfolding first
all-settled numbers k =
    and_from _ _ (settled _ _ k.first.wlow) (and_from _ _ (settled _ _ k.first.latch) (and_from _ _ (settled _ _ k.second.wlow)
    (and_from _ _ (settled _ _ k.second.latch) (and_from _ _ (settled _ _ k.third.wlow) (and_from _ _ (settled _ _ k.third.latch) refl)))))

-- ---- carried to the newest set

-- A channel of the newest set from one of older sets.
abbrev channel_in : Set → List ℤ → ℕ → List ℤ
channel_in old numbers at =
    get_or (carriers (struct_cells old) (struct_cells (shipped_set NEWEST)) old.structs (shipped_set NEWEST).structs 1) 0 no_carrier 0 numbers at

-- The number of a cell that may be absent, and is then 0.
abbrev may_lack : Set → List ℤ → Kind → Bool → ℕ → List ℤ
may_lack old numbers kind there at =
    carry_items [] (struct_cells old) (struct_cells (shipped_set NEWEST)) numbers (Num kind) (Num kind) (pos 0 ∷ []) 1 (cond there 1 0) 1 at

may_lack-is : (old : Set) (numbers : List ℤ) (kind : Kind) (there : Bool) (at : ℕ) → same_kind kind kind ≡ true
    → (there ≡ false → get_or numbers at (pos 0) ≡ pos 0) → may_lack old numbers kind there at ≡ get_or numbers at (pos 0) ∷ []
may_lack-is old numbers kind there at e off = grind arith

-- A channel that is carried number by number, except these two.
abbrev lacking : List ℤ → ℕ → List ℤ → List ℤ → List ℤ
lacking numbers at wlow latch = run numbers at WLOW ++ (wlow ++ (get_or numbers (behind LATCHED at) (pos 0) ∷ (latch ++ [])))

abbrev whole : List ℤ → ℕ → List ℤ
whole numbers at = lacking numbers at (get_or numbers (behind WLOW at) (pos 0) ∷ []) (get_or numbers (behind LATCH at) (pos 0) ∷ [])

abbrev IsLacking : Set → List ℤ → ℕ → Type 0
IsLacking old numbers at =
    channel_in old numbers at ≡ lacking numbers at (may_lack old numbers U8 (needs (get_or numbers (behind WLOW_HELD at) (pos 0))) (behind WLOW at))
    (may_lack old numbers U16 (needs (get_or numbers (behind LATCHED at) (pos 0))) (behind LATCH at))

channel-carried : (old : Set) (numbers : List ℤ) (at : ℕ) → IsLacking old numbers at → IsKeptAt numbers at → channel_in old numbers at ≡ whole numbers at
channel-carried old numbers at is k = grind (arith, may_lack-is, behind)

-- Three channels and what follows them.
abbrev with_channels : List ℤ → List ℤ → List ℤ → List ℤ → List ℤ
with_channels first second third rest = ((first ++ (second ++ (third ++ []))) ++ rest) ++ []

channels-carried : (old : Set) (numbers rest : List ℤ) → IsKept numbers → IsLacking old numbers 0 → IsLacking old numbers second_at
    → IsLacking old numbers third_at
    → with_channels (channel_in old numbers 0) (channel_in old numbers second_at) (channel_in old numbers third_at) rest ≡ with_channels (whole numbers 0)
    (whole numbers second_at) (whole numbers third_at) rest
channels-carried old numbers rest k a b c = grind (arith, channel-carried)

-- ---- the chip

saved-1 : (numbers : List ℤ) → AreCellsOf 1 numbers → IsSavedAs set_1 i8254_at_1 i8254_at_2 numbers (pit_carried 1 numbers)
unfolding first
saved-1 numbers are =
    let k = absent-kept 1 numbers are in
    let channels : AreChannels set_1 numbers gate = record { first = refl; second = refl; third = refl; none = λ k. refl; rules = tt } in
    record {
      ready = ready-of set_1 i8254_at_1 numbers (omega arith) tt are.of_kinds refl
          (chip-kept set_1 numbers gate [] channels (device_cells set_1 i8254_at_1) (all-settled numbers k))
          (chip-rules set_1 numbers gate [] channels tt);
      carried = channels-carried set_1 numbers (replicate 6 (pos 0)) k refl refl refl;
    }

-- In later sets, which have the same structure, and the statuses after the channels.
saved-2 : (old : Set) (numbers : List ℤ) → AreCellsOf 2 numbers
    → IsSavedAs (record old { structs = set_2.structs }) i8254_at_2 i8254_at_2 numbers (pit_carried 2 numbers)
unfolding first
saved-2 old numbers are =
    let set = record old { structs = set_2.structs } in
    let k = absent-kept 2 numbers are in
    let channels : AreChannels set numbers no_gate = record { first = refl; second = refl; third = refl; none = λ k. refl; rules = tt } in
    record {
      ready = ready-of set i8254_at_2 numbers (omega arith) tt are.of_kinds refl
          (chip-kept set numbers no_gate status_slots channels (device_cells set i8254_at_2) (all-settled numbers k))
          (chip-rules set numbers no_gate status_slots channels tt);
      carried = channels-carried set numbers (run numbers STATUS_LATCHED COUNTERS ++ run numbers STATUS COUNTERS) k refl refl refl;
    }

pit-each : (s : ℕ) → 1 ≤ s → s ≤ NEWEST → SavedWhere AreCellsOf pit_carried (pit_in newest_set) s (shipped_set s) (pit_in (shipped_set s))
pit-each zero l h = absurd (omega (arith, l))
pit-each (suc zero) l h = saved-1
pit-each (suc (suc s)) l h = λ numbers are.
    let n = suc (suc s) in
    let set = shipped_set n in
    let as-2 : AreCellsOf 2 numbers = record { of_kinds = rw (pit_kinds n (omega arith) h) at are.of_kinds; wlow = are.wlow; latch = are.latch } in
    subst (λ (d : Device). IsSavedAs set d i8254_at_2 numbers (pit_carried n numbers)) (sym (is_pit n (omega arith) h))
    (subst (λ (structs : List Desc). IsSavedAs (record set { structs = structs }) i8254_at_2 i8254_at_2 numbers (pit_carried n numbers))
    (sym (later_structs n (omega arith) h))
    (subst (λ (origins : List Origin). IsSavedAs (record set { structs = set_2.structs }) i8254_at_2 i8254_at_2 numbers (carried_by origins numbers))
    (sym (pit_origins n (omega arith) h)) (saved-2 set numbers as-2)))

pub pit_is_saved : InEachSet (SavedWhere AreCellsOf pit_carried (pit_in newest_set)) pit_in
pit_is_saved = record { each = pit-each }

pub pit_is_ready : PitIsReady
pit_is_ready = ready-in pit_is_saved

pub pit_is_carried : PitIsCarried
pit_is_carried = carried-in pit_is_saved
