-- The spots of a walk, in ascending order; and runs of numbers of one kind.
use Rattle.vms_walk.proofs.Facade
use Facade.{◌≡◌, ℕ, ◌+◌, ◌*◌, ◌<◌, ◌≤◌, List, ◌++◌, length, get_or, drop, ℤ, refl, sym, ap, ◌∙◌, arith, Bool, true}
use Facade.{Option, Item, Struct, MOST_ITEMS, Set, Field, is_there, uses_below, least_of, no_desc, no_parent, item_slots, item_size, slots_from, desc_slots}
use Facade.{desc_cells, struct_cells, elements_of, capacity_of, counted, times, FieldsBelow, all_below, struct_slots, struct_cells_at, room_for_less, one_fits}
use Facade.{cells_first, in_u32, field_at, own_numbers, is_well_formed, desc_at, reach, field_clean, struct_clean, PartAt, table, cells_in, HasSpot}
use Facade.{spot_numbers, spot_slots, slots_at, present_of, size_in, elements_slots, steps_of, item_rank, part_rank, reach_whole, uses_more, rank_below}
use Facade.{place_after, place_within, field_start, cell_of, all_hold, holds_at, zero, suc, ◌-◌, [], ◌∷◌, None, append_assoc, append-nil, Kind, Num}
use Facade.{WalkStep, Number, run_of, capacities_of, length-append, if_there, false, get_or-map, Desc, has_cell, Slot, Meaning, no_meaning, field_slots}
use Facade.{cells_from, field_cells, first, meanings, field_size, elements_fit, one_more, meaning, Rule, min, nat_lt, ◌||◌, or-false, or_assoc, exceeds}
use Facade.{is_above, same_tests, lesser, least_from, Ok, Does}
use Rattle.vms_walk.proofs.Walking.{slots_next, fields_at, present_slots, present_fits, steps_bare, times_split, Among}
use Rattle.vms_spec.specs.declared.Part.TheVariants as parts
use Rattle.vms_spec.specs.Layout as slots

-- ---- the spots of a walk: where fields and structures are, and what they have

pub cells_table : (set : Set) → cells_in (table set) ≡ struct_cells set
cells_table set = cells_first set.structs (length set.structs)

pub spot_room : (set : Set) (spot : PartAt) (n : List ℤ) → HasSpot set spot n
    → spot.base + length (desc_cells (cells_in (table set)) (desc_at set spot.part)) ≤ length n
spot_room set spot n h = rw (cells_table set) h.room

pub own_is : (set : Set) (spot : PartAt) (n : List ℤ) → own_numbers set spot.part n spot.base ≡ spot_numbers set spot n
own_is set spot n = rw (sym (cells_table set))

pub holds_is : (set : Set) (spot : PartAt) (n : List ℤ) → holds_at set spot n ≡ all_hold (desc_at set spot.part).validate spot.version (spot_numbers set spot n)
holds_is set spot n = ap (all_hold (desc_at set spot.part).validate spot.version) (own_is set spot n)

-- sizes as the code has them
pub size_code : (set : Set) (item : Item) (size : ℕ) → size ≡ in_u32 (item_size (struct_cells set) item) → size_in set item ≤ MOST_ITEMS
    → size ≡ size_in set item
size_code set item size e small = grind (arith, cells_table)

pub width_code : (set : Set) (f : Field) (width : ℕ) → width ≡ in_u32 (capacity_of f.count * item_size (struct_cells set) f.item)
    → capacity_of f.count * size_in set f.item ≤ MOST_ITEMS → width ≡ capacity_of f.count * size_in set f.item
width_code set f width e small = grind (arith, cells_table)

pub present_then : (set : Set) (spot : PartAt) (n : List ℤ) (f : Field) (b : Bool) (count : ℕ)
    → b ≡ is_there f.test f.since spot.version (own_numbers set spot.part n spot.base) no_parent → b ≡ true
    → count ≡ elements_of f.count (own_numbers set spot.part n spot.base) → count ≡ present_of f spot.version (spot_numbers set spot n)
present_then set spot n f b count e t c =
    let there : is_there f.test f.since spot.version (own_numbers set spot.part n spot.base) no_parent ≡ true = sym e ∙ t in
    rw (c, ← own_is set spot n, there)

-- ---- structures

module _ (set : Set) (well : is_well_formed set ≡ true) (j : ℕ) (lt : j < length set.structs) where
  below : FieldsBelow j (get_or set.structs j no_desc).fields
  below = all_below j (get_or set.structs j no_desc).fields (λ i l. ((struct_clean set well j lt).fields i l).uses)

  pub struct_spot : (v cell : ℕ) (n : List ℤ) → v ≡ (get_or set.structs j no_desc).version
      → (caps : List ℕ) → item_slots (table set) (Struct j) caps n cell ≡ spot_slots set (record { part = parts.Struct j; version = v; base = cell }) n
  struct_spot v cell n e caps =
      struct_slots _ _ _ _ _ lt below ∙ ap (λ x. desc_slots (table set) (get_or set.structs j no_desc) x n cell) (sym e)

  pub struct_size : size_in set (Struct j) ≡ length (desc_cells (struct_cells set) (get_or set.structs j no_desc))
  struct_size =
      ap length (struct_cells_at _ _ _ lt below) ∙ ap (λ cs. length (desc_cells cs (get_or set.structs j no_desc))) (cells_table set)

-- ---- the next field

-- the first cell of a field, as the code has it
pub start_code : (set : Set) (spot : PartAt) (k cell : ℕ) → cell ≡ field_start set spot.part spot.base k → cell ≡ cell_of set spot k
start_code set spot k cell e = grind (arith, cells_table)

-- the first cell of the field after it
pub start_after : (set : Set) (spot : PartAt) (k cell : ℕ) → cell ≡ cell_of set spot k → k < length (desc_at set spot.part).fields
    → cell + capacity_of (field_at set spot.part k).count * size_in set (field_at set spot.part k).item ≡ cell_of set spot (k + 1)
start_after set spot k cell e lt = grind (arith, place_after)

pub record Next (set : Set) (spot : PartAt) (n : List ℤ) (k cell : ℕ) : Type 0 where
  pub slots : slots_from (table set) (desc_at set spot.part).fields spot.version (spot_numbers set spot n) n k cell (drop k (desc_at set spot.part).fields)
      ≡ slots_at set spot n k cell
      ++ slots_from (table set) (desc_at set spot.part).fields spot.version (spot_numbers set spot n) n (k + 1)
      (cell + capacity_of (field_at set spot.part k).count * size_in set (field_at set spot.part k).item) (drop (k + 1) (desc_at set spot.part).fields)
  pub room : cell + capacity_of (field_at set spot.part k).count * size_in set (field_at set spot.part k).item ≤ length n
  pub uses : uses_below (reach set spot.part) (field_at set spot.part k).item ≡ true
  pub some : 1 ≤ capacity_of (field_at set spot.part k).count

pub next_field : (set : Set) → is_well_formed set ≡ true → (spot : PartAt) (n : List ℤ) → HasSpot set spot n → (k cell : ℕ)
    → k < length (desc_at set spot.part).fields → cell ≡ cell_of set spot k → Next set spot n k cell
next_field set well spot n h k cell lt here =
    let all = (desc_at set spot.part).fields in
    let f = field_at set spot.part k in
    let w = capacity_of f.count * size_in set f.item in
    let at = fields_at all k lt in
    let clean = field_clean set well spot.part h.part k lt in
    record {
      slots = slots_next (table set) all spot.version (spot_numbers set spot n) n k cell w f (drop k all) (drop (k + 1) all) at refl;
      room = omega (arith, start_after set spot k cell here lt, place_within (cells_in (table set)) all 0 spot.base all (k + 1), spot_room set spot n h);
      uses = clean.uses;
      some = clean.some;
    }

-- ---- what the calls of the walk need

-- one field: its elements are of this item, and this many are in the bytes
pub record FieldNeeds (set : Set) (spot : PartAt) (n : List ℤ) (k cell count : ℕ) (item : Item) (most : Option ℕ) : Type 0 where
  pub uses : uses_below (length set.structs) item ≡ true
  pub lower : item_rank item + 1 < part_rank set spot.part + 2
  pub small : size_in set item ≤ MOST_ITEMS
  pub room : cell + count * size_in set item ≤ length n
  pub steps : steps_of (slots_at set spot n k cell) ≡ steps_of (elements_slots set item most n count cell)

pub field_needs : (set : Set) → is_well_formed set ≡ true → (spot : PartAt) (n : List ℤ) → HasSpot set spot n
    → (k cell count : ℕ) (item : Item) (most : Option ℕ) → k < length (desc_at set spot.part).fields
    → item ≡ (field_at set spot.part k).item → count ≡ present_of (field_at set spot.part k) spot.version (spot_numbers set spot n)
    → most ≡ least_of (counted k (desc_at set spot.part).fields)
    → cell + capacity_of (field_at set spot.part k).count * size_in set (field_at set spot.part k).item ≤ length n
    → FieldNeeds set spot n k cell count item most
field_needs set well spot n h k cell count item most lt is there least room =
    let f = field_at set spot.part k in
    let own = spot_numbers set spot n in
    let clean = field_clean set well spot.part h.part k lt in
    let uses : uses_below (reach set spot.part) item ≡ true = ap (uses_below (reach set spot.part)) is ∙ clean.uses in
    let fewer : count ≤ capacity_of f.count = omega (arith, present_fits f spot.version own) in
    let size : size_in set item ≡ size_in set f.item = ap (size_in set) is in
    record {
      uses = uses_more (reach set spot.part) (length set.structs) item (reach_whole set spot.part h.part) uses;
      lower = omega (arith, rank_below (reach set spot.part) item uses);
      small = omega (arith, one_fits (capacity_of f.count) (size_in set f.item) cell (length n) MOST_ITEMS clean.some room h.few);
      room = rw size (room_for_less count (capacity_of f.count) (size_in set f.item) cell (length n) fewer room);
      steps = rw (present_slots (table set) ((desc_at set spot.part).fields) spot.version own n k cell f, ← there, ← is, least)
          (steps_bare (table set) n item _ count cell (size_in set item));
    }

-- ---- numbers of one kind whose cells follow one another are the elements of an array

run_is : (set : Set) (kind : Kind) (n : List ℤ) (first count : ℕ) → steps_of (elements_slots set (Num kind) None n count first) ≡ run_of first count kind
run_is set kind n first zero = refl
run_is set kind n first (suc count) = rw (run_is set kind n (first + 1) count)

pub run_steps : (set : Set) (item : Item) (most : Option ℕ) (kind : Kind) → item ≡ Num kind → most ≡ None → (n : List ℤ) (first count : ℕ)
    → steps_of (elements_slots set item most n count first) ≡ run_of first count kind
run_steps set item most kind e f n first count = rw (e, f) (run_is set kind n first count)

-- the steps of an element of each form
abbrev pub steps_at : Set → Option ℕ → List ℤ → ℕ → Item → List WalkStep
steps_at set most n cell item = steps_of (item_slots (table set) item (capacities_of most) n cell)

-- a row of one element
pub one_slots : (set : Set) (item : Item) (most : Option ℕ) (n : List ℤ) (count first : ℕ) → count ≡ 1
    → steps_of (elements_slots set item most n count first) ≡ steps_at set most n first item
one_slots set item most n count first is = rw is (ap steps_of (append-nil (item_slots (table set) item (capacities_of most) n first)))

-- those before one of them, it, and the others
pub run_split : (first count n : ℕ) (kind : Kind) → n < count
    → (rest : List WalkStep) × (run_of first count kind ≡ run_of first n kind ++ (Number (first + n) kind None ∷ rest))
run_split first count n kind lt =
    let e : first + n * 1 ≡ first + n = omega arith in
    let parts = times_split _ _ (λ cell. Number cell kind None ∷ []) first 1 lt in
    (parts.0, rw e at parts.1)

-- what holds of each step holds of each of their cells
pub run_each : (P : WalkStep → Type 0) (first count : ℕ) (kind : Kind)
    → ((ys rest : List WalkStep) (x : WalkStep) → run_of first count kind ≡ ys ++ (x ∷ rest) → P x)
    → (k : ℕ) → first ≤ k → k < first + count → P (Number k kind None)
run_each P first count kind each k from below =
    let n = k - first in
    let parts = run_split first count n kind (omega arith) in
    let here : first + n ≡ k = omega arith in
    rw here at (each (run_of first n kind) parts.0 (Number (first + n) kind None) parts.1)

-- the first few of them, and the others
pub run_both : (first n m : ℕ) (kind : Kind) → run_of first (n + m) kind ≡ run_of first n kind ++ run_of (first + n) m kind
run_both first zero m kind = grind arith
run_both first (suc n) m kind =
    let e : (first + 1) + n ≡ first + suc n = omega arith in
    let one : suc n + m ≡ suc (n + m) = omega arith in
    rw (one, run_both (first + 1) n m kind, e)

-- some of them after those before them
pub run_parts : (first n m count : ℕ) (kind : Kind) → n + m ≤ count
    → run_of first count kind ≡ run_of first n kind ++ (run_of (first + n) m kind ++ run_of (first + (n + m)) (count - (n + m)) kind)
run_parts first n m count kind le =
    let all : count ≡ (n + m) + (count - (n + m)) = omega arith in
    ap (λ k. run_of first k kind) all ∙ rw (run_both first (n + m) (count - (n + m)) kind, run_both first n m kind)
    (append_assoc (run_of first n kind) (run_of (first + n) m kind) _)

-- ---- some of them after those before them

module _ {S F : Type 0} {N : S → List ℤ} {does : Does S F} (first cell count : ℕ) (kind : Kind) (a b : S) (from : first ≤ cell)
    (way : does (run_of first (cell - first) kind) a (Ok tt) b) (some : ℕ) (le : cell + some ≤ first + count) where
  pub run_among : Among N does (λ n. run_of first count kind) (λ n. run_of first ((cell + some) - first) kind) (λ n. run_of first (cell - first) kind)
      (λ n. run_of cell some kind) a b
  run_among = record {
    way = λ n ys zs e k. way;
    more = λ n.
        let front = cell - first in
        let there : first + front ≡ cell = omega arith in
        let sum : (cell + some) - first ≡ front + some = omega arith in
        rw (sum, run_both first front some kind, there);
    split = λ n.
        let front = cell - first in
        let there : first + front ≡ cell = omega arith in
        (run_of (first + (front + some)) (count - (front + some)) kind, rw there at (run_parts first front some count kind (omega arith)));
  }

-- ---- the slots of a description have their cells in ascending order, between its first cell and its end

-- the cells ascend, from one on and below an end
abbrev pub Ascends : ℕ → ℕ → List Slot → Type 0
Ascends from end [] = from ≤ end
Ascends from end (slots.Number c kind caps ∷ xs) = (from ≤ c) × Ascends (c + 1) end xs
Ascends from end (_ ∷ xs) = Ascends from end xs

-- ---- what follows

pub below_from : (from end : ℕ) (xs : List Slot) → Ascends from end xs → (c : ℕ) → c < from → has_cell xs c ≡ false
below_from from end [] h c lt = refl
below_from from end (slots.Number k kind caps ∷ xs) h c lt = grind (arith, below_from (k + 1) end xs h.1 c (omega arith))
below_from from end (_ ∷ xs) h c lt = below_from from end xs h c lt

pub from_end : (from end : ℕ) (xs : List Slot) → Ascends from end xs → from ≤ end
from_end from end [] h = h
from_end from end (slots.Number k kind caps ∷ xs) h = let up = h.0 in omega (arith, from_end (k + 1) end xs h.1)
from_end from end (_ ∷ xs) h = from_end from end xs h

-- ---- joined

lower : (low from end : ℕ) (xs : List Slot) → low ≤ from → Ascends from end xs → Ascends low end xs
lower low from end [] le h = omega arith
lower low from end (slots.Number k kind caps ∷ xs) le h = let up = h.0 in (omega arith, h.1)
lower low from end (_ ∷ xs) le h = lower low from end xs le h

join : (from mid end : ℕ) (xs ys : List Slot) → Ascends from mid xs → Ascends mid end ys → Ascends from end (xs ++ ys)
join from mid end [] ys h k = lower from mid end ys h k
join from mid end (slots.Number c kind caps ∷ xs) ys h k = (h.0, join (c + 1) mid end xs ys h.1 k)
join from mid end (_ ∷ xs) ys h k = join from mid end xs ys h k

-- ---- parts of a description

pub record MeansAscends (m : Meaning) : Type 0 where
  pub means : (at : ℕ) (n : List ℤ) → Ascends at (at + length m.cells) (m.slots n at)

abbrev pub MeanAscends : List Meaning → Type 0
MeanAscends ms = (j : ℕ) → MeansAscends (get_or ms j no_meaning)

none_ascends : MeansAscends no_meaning
none_ascends = record { means = λ at n. omega arith }

module _ (ms : List Meaning) (known : MeanAscends ms) where
  item_ascends : (item : Item) (caps : List ℕ) (n : List ℤ) (at : ℕ) → Ascends at (at + item_size (cells_in ms) item) (item_slots ms item caps n at)
  item_ascends (Num kind) caps n at = (omega arith, omega arith)
  item_ascends (Struct j) caps n at = rw (get_or-map (λ (m : Meaning). m.cells) ms j no_meaning) ((known j).means at n)
  item_ascends _ caps n at = omega arith

  items_ascend : (item : Item) (caps : List ℕ) (n : List ℤ) (k at : ℕ)
      → Ascends at (at + k * item_size (cells_in ms) item) (times k (item_slots ms item caps n) at (item_size (cells_in ms) item))
  items_ascend item caps n zero at = omega arith
  items_ascend item caps n (suc k) at =
      let size = item_size (cells_in ms) item in
      let e : (at + size) + k * size ≡ at + suc k * size = grind arith in
      rw e at (join at (at + size) ((at + size) + k * size) (item_slots ms item caps n at) (times k (item_slots ms item caps n) (at + size) size)
      (item_ascends item caps n at) (items_ascend item caps n k (at + size)))

  module _ (fields : List Field) (v : ℕ) (own : ℕ → ℕ) (n : List ℤ) where
    field_ascends : (i at : ℕ) (f : Field) → Ascends at (at + length (field_cells (cells_in ms) fields i f)) (field_slots ms fields v own n i at f)
    field_ascends i at f =
        let size = item_size (cells_in ms) f.item in
        let count = elements_of f.count own in
        let end = at + capacity_of f.count * size in
        let room = room_for_less count (capacity_of f.count) size at end (elements_fit f.count own) (omega arith) in
        let slots = times count (item_slots ms f.item (counted i fields) n) at size in
        rw field_size (if_there (Ascends at end) (omega arith) (is_there f.test f.since v own no_parent) slots
        (rw append-nil at (join at (at + count * size) end slots [] (items_ascend f.item (counted i fields) n count at) (omega arith))))

    fields_ascend : (i at : ℕ) (fs : List Field) → Ascends at (at + length (cells_from (cells_in ms) fields i fs)) (slots_from ms fields v own n i at fs)
    fields_ascend i at [] = omega arith
    fields_ascend i at (f ∷ fs) =
        let here = field_cells (cells_in ms) fields i f in
        let later = cells_from (cells_in ms) fields (suc i) fs in
        let next = at + length here in
        let e : next + length later ≡ at + length (here ++ later) = omega (arith, length-append here later) in
        rw e at (join at next (next + length later) (field_slots ms fields v own n i at f) (slots_from ms fields v own n (suc i) next fs)
        (field_ascends i at f) (fields_ascend (suc i) next fs))

  pub desc_ascends : (d : Desc) (v : ℕ) (n : List ℤ) (at : ℕ) → Ascends at (at + length (desc_cells (cells_in ms) d)) (desc_slots ms d v n at)
  desc_ascends d v n at =
      let end = at + length (desc_cells (cells_in ms) d) in
      let same : end ≤ end = omega arith in
      join at end end (slots_from ms d.fields v _ n 0 at d.fields) (Rule (all_hold d.validate v _) ∷ []) (fields_ascend d.fields v _ n 0 at d.fields) same

pub meanings_ascend : (ds : List Desc) (k : ℕ) → MeanAscends (meanings ds k)
unfolding first
meanings_ascend ds zero = λ j. none_ascends
meanings_ascend ds (suc k) =
    one_more MeansAscends no_meaning none_ascends (meanings ds k) (meanings_ascend ds k) (meaning (meanings ds k) (get_or ds k no_desc))
    (record { means = λ at n. desc_ascends (meanings ds k) (meanings_ascend ds k) (get_or ds k no_desc) _ n at })

-- ---- a number that counts arrays is within all capacities if it is within the least of them: the least of capacities

above_lesser : (k m n : ℕ) → nat_lt (min k m) n ≡ (nat_lt k n || nat_lt m n)
above_lesser k m n = grind (arith, same_tests)

exceeds_lesser : (o : Option ℕ) (m : ℕ) (z : ℤ) → exceeds (capacities_of (lesser o m)) z ≡ (exceeds (capacities_of o) z || is_above z m)
exceeds_lesser o m z = grind (arith, or-false, above_lesser)

exceeds_from : (o : Option ℕ) (caps : List ℕ) (z : ℤ) → exceeds (capacities_of (least_from o caps)) z ≡ (exceeds (capacities_of o) z || exceeds caps z)
exceeds_from o [] z = sym (or-false (exceeds (capacities_of o) z))
exceeds_from o (m ∷ caps) z = grind (arith, exceeds_lesser, or_assoc, exceeds_from (lesser o m) caps z)

-- a number is above the least of these capacities if it is above one of them
pub exceeds_least : (caps : List ℕ) (z : ℤ) → exceeds (capacities_of (least_of caps)) z ≡ exceeds caps z
exceeds_least caps z = exceeds_from None caps z
