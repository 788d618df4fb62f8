-- Pairing step by step, as the code has it.
use Rattle.vms_convert.proofs.Facade
use Facade.{append_assoc, ◌≡◌, ℕ, ◌+◌, ◌-◌, ◌*◌, ◌<◌, ◌≤◌, List, [], ◌∷◌, ◌++◌, length, get_or, replicate, true, false}
use Facade.{Option, Some, None, ap, arith, append-nil, drop_all, Bor, flat_map, slice_get-get_or, Cell, no_desc, no_field, capacity_of, item_size, desc_cells}
use Facade.{struct_cells, find_sub, Field, Set, DescSet, few_cells, own_inside_device, sub_inside, struct_is, MOST_ITEMS, field_size, in_u32, Part, uses_below}
use Facade.{described, device_at, well_of, is_well_formed, HasPart, desc_at, sub_at, reach, field_clean, reach_whole, uses_more, Entry, is_absent}
use Facade.{device_partners, named_partners, array_on, item_on, AreArrays, HasRoom, PairsElement, arrays_on, elements_left, HasFew, IsStart, IsNextStart}
use Facade.{IsBehind, PairsField, entries_at, partners_left, partners_on, sub_on, IsSide, desc_on, own_side, Arrays, Start, Side}
use Rattle.vms_convert.proofs.PartnerLaws.{depth, depth_within, something, entries_found, cells_here, left_absent, left_alone, left_paired, desc_left}
use Rattle.vms_convert.proofs.PartnerLaws.{element_paired, element_alone, all_but_one, one_of_all}
use Rattle.vms_desc.specs.Asks.{first_cell}
use Rattle.vms_spec.specs.declared.Part.TheVariants as parts

pub few_are : (n : ℕ) → n ≤ MOST_ITEMS → in_u32 n ≡ n
few_are n le = omega arith

-- ---- one side

module _ (s : Side) where
  abbrev cs : List (List Cell)
  cs = struct_cells (described s.set.now)

  abbrev all : List Field
  all = (desc_on s).fields

  abbrev field_at : ℕ → Field
  field_at k = get_or all k no_field

  abbrev size_at : ℕ → ℕ
  size_at k = capacity_of (field_at k).count * item_size cs (field_at k).item

  -- the cells of a field are few, and so are those after it
  pub few_here : (k : ℕ) → k < length all → HasFew s k → size_at k ≤ MOST_ITEMS
  few_here k lt few = omega (arith, cells_here cs all s.version k lt, field_size cs all k (field_at k))

  pub few_next : (k : ℕ) → k < length all → HasFew s k → HasFew s (k + 1)
  few_next k lt few = omega (arith, cells_here cs all s.version k lt)

  pub behind_field : (start next : Start) → start.field < length all → IsStart s start → next.field ≡ start.field + 1
      → next.cell ≡ start.cell + in_u32 (size_at start.field) → IsBehind s start next
  behind_field start next lt h field cell =
      let k = start.field in
      let size = field_size cs all k (field_at k) in
      let here = cells_here cs all s.version k lt in
      let room = h.room in
      let few = few_are (size_at k) (omega arith) in
      record {
        start = record {
          inside = omega arith;
          room = rw field (omega arith);
        };
        field = field;
        cell = omega arith;
      }

  -- the place after a field is small
  pub sum_small : (start : Start) → start.field < length all → IsStart s start → start.cell + in_u32 (size_at start.field) ≤ MOST_ITEMS
  sum_small start lt h = grind (arith, field_size, cells_here, few_are)

-- which structures a field uses
pub uses_here : (set : Set) (k : ℕ) → is_well_formed set ≡ true → (part : Part) → HasPart set part → k < length (desc_at set part).fields
    → (uses_below (reach set part) (get_or (desc_at set part).fields k no_field).item ≡ true)
    × (uses_below (length set.structs) (get_or (desc_at set part).fields k no_field).item ≡ true)
uses_here set k well part h lt =
    let uses = (field_clean set well part h k lt).uses in
    (uses, uses_more (reach set part) (length set.structs) (get_or (desc_at set part).fields k no_field).item (reach_whole set part h) uses)

-- ---- both sides

module _ (s t : Side) (k : ℕ) (lt : k < length (desc_on s).fields) (few : HasFew s k) (before after : List (Option ℕ)) where
  abbrev old : Set
  old = described s.set.now

  abbrev new : Set
  new = described t.set.now

  abbrev f : Field
  f = get_or (desc_on s).fields k no_field

  abbrev n : ℕ
  n = capacity_of f.count * item_size (struct_cells old) f.item

  abbrev g : ℕ → Field
  g l = get_or (desc_on t).fields l no_field

  all_put : after ≡ before ++ replicate (in_u32 n) None → after ≡ before ++ replicate n None
  all_put e = rw (few_are n (few_here s k lt few)) at e

  pub absent_pairs : (start : Start) → IsStart t start → is_absent s.version f ≡ true → after ≡ before ++ replicate (in_u32 n) None
      → PairsField s t k start start before after
  absent_pairs start h e put = record {
    start = h;
    so_far = rw (all_put put, left_absent _ _ _ (desc_on s).fields s.version k lt _ e, append_assoc);
  }

  pub alone_pairs : (start next : Start) → IsNextStart t start next → length (desc_on t).fields ≤ next.field → is_absent s.version f ≡ false
      → after ≡ before ++ replicate (in_u32 n) None → PairsField s t k start next before after
  alone_pairs start next h end e put =
      let none : entries_at t next ≡ [] = rw (drop_all next.field (desc_on t).fields end) in
      record {
        start = h.start;
        so_far = rw (all_put put, ← h.same, none, left_alone _ _ _ (desc_on s).fields s.version k lt e, append_assoc);
      }

  pub both_pair : (start next more : Start) → IsNextStart t start next → next.field < length (desc_on t).fields → IsBehind t next more
      → is_absent s.version f ≡ false
      → after ≡ before ++ array_on old new f.item (g next.field).item (capacity_of f.count) (capacity_of (g next.field).count) next.cell
      → PairsField s t k start more before after
  both_pair start next more h inside behind e put =
      let found = something _ (h.there inside) in
      let entry : Entry = record { index = next.field; place = next.cell; field = g next.field; rest = found.rest } in
      let entries : entries_at t start ≡ entry ∷ entries_at t more =
      rw (← h.same, behind.field, behind.cell) (entries_found (struct_cells new) (desc_on t).fields t.version next.field next.cell inside found) in
      record {
        start = behind.start;
        so_far = rw (put, entries, left_paired _ _ _ (desc_on s).fields s.version k lt entry (entries_at t more) e, append_assoc);
      }

pub all_paired : (s t : Side) (before after : List (Option ℕ)) (k first : ℕ) (start : Start) → length (desc_on s).fields ≤ k
    → after ++ partners_left s t k start ≡ before ++ partners_left s t 0 (record { field = 0; cell = first }) → after ≡ before ++ partners_on s t first
all_paired s t before after k first start end e =
    rw (drop_all k (desc_on s).fields end, append-nil, desc_left _ _ _ s.version t.version (desc_on s) (desc_on t) first) at e

-- ---- elements

module _ (a : Arrays) (are : AreArrays a) (i at : ℕ) (lt : i < a.one.count) (room : HasRoom a i at) (before after : List (Option ℕ)) where
  abbrev older : Set
  older = described a.sets.old.now

  abbrev newer : Set
  newer = described a.sets.new.now

  abbrev size_old : ℕ
  size_old = item_size (struct_cells older) a.one.item

  abbrev size_new : ℕ
  size_new = item_size (struct_cells newer) a.other.item

  pub element_pairs : i < a.other.count → after ≡ before ++ item_on older newer a.one.item a.other.item at
      → PairsElement a i at (at + in_u32 size_new) before after
  element_pairs less put =
      rw (few_are size_new (omega (arith, all_but_one a.other.count i size_new less))) (record {
        room = omega (arith, all_but_one a.other.count i size_new less);
        so_far = rw (put, element_paired _ _ _ a.one.item a.other.item a.one.count a.other.count i at lt less, append_assoc);
      })

  pub element_alone_pairs : a.other.count ≤ i → after ≡ before ++ replicate (in_u32 size_old) None → PairsElement a i at at before after
  element_alone_pairs le put =
      let small = few_are size_old (omega (arith, one_of_all a.one.count size_old (omega arith))) in
      let none : a.other.count - (i + 1) ≡ a.other.count - i = omega arith in
      record {
        room = rw none room;
        so_far = rw (rw small at put, element_alone _ _ _ a.one.item a.other.item a.one.count a.other.count i at lt le, append_assoc);
      }

-- ---- parts of devices, and structures

pub few_own : (set : Bor DescSet) (i : ℕ) → HasFew (own_side set (parts.Device i)) 0
few_own set i = omega (arith, own_inside_device (described set.now) i, few_cells (described set.now) set.now.well_formed i)

pub room_sub : (set : Bor DescSet) (i j : ℕ) → j < length (device_at (described set.now) i).subs → first_cell (described set.now) (parts.Sub i j) + length
    (desc_cells (struct_cells (described set.now)) (sub_at (device_at (described set.now) i) j).desc) ≤ MOST_ITEMS
room_sub set i j lt = omega (arith, sub_inside (described set.now) i j lt, few_cells (described set.now) set.now.well_formed i)

pub few_sub : (set : Bor DescSet) (i j : ℕ) → j < length (device_at (described set.now) i).subs → HasFew (own_side set (parts.Sub i j)) 0
few_sub set i j lt = omega (arith, room_sub set i j lt)

pub few_struct : (set : Bor DescSet) (j : ℕ) → length (get_or (struct_cells (described set.now)) j []) ≤ MOST_ITEMS → HasFew (own_side set (parts.Struct j)) 0
few_struct set j few = omega (arith, ap length (struct_is (described set.now) (well_of (described set.now) set.now.well_formed) j))

pub room_struct : (set : Bor DescSet) (j at : ℕ) → at + length (get_or (struct_cells (described set.now)) j []) ≤ MOST_ITEMS
    → at + length (desc_cells (struct_cells (described set.now)) (get_or (described set.now).structs j no_desc)) ≤ MOST_ITEMS
room_struct set j at room = omega (arith, ap length (struct_is (described set.now) (well_of (described set.now) set.now.well_formed) j))

-- the subsection of a name
pub sub_pairs : (s : Side) (new : Bor DescSet) (k found first : ℕ) → s.version ≡ (desc_on s).version → found < length (device_at (described new.now) k).subs
    → find_sub 0 (device_at (described new.now) k).subs (desc_on s).name ≡ Some found → first ≡ first_cell (described new.now) (parts.Sub k found)
    → partners_on s (record { set = new; part = parts.Sub k found; version = s.version }) first ≡ sub_on s (described new.now) (device_at (described new.now) k)
sub_pairs s new k found first version lt is place = grind (arith, slice_get-get_or)

-- the fields of a device, and the rest of its subsections
pub device_pairs : (old new : Bor DescSet) (i k : ℕ) (s : Side) (now : List (Option ℕ)) → s ≡ own_side old (parts.Device i)
    → now ≡ partners_on s (record { set = new; part = parts.Device k; version = s.version }) 0
    → now ++ flat_map (named_partners (described old.now) (described new.now) (device_at (described new.now) k)) (device_at (described old.now) i).subs
    ≡ device_partners (described old.now) (described new.now) (device_at (described old.now) i) (device_at (described new.now) k)
unfolding device_partners
device_pairs old new i k s now is e = rw (e, is)

-- ---- a field of each side

pub arrays_are : (s t : Side) (k l : ℕ) → IsSide s → IsSide t → k < length (desc_on s).fields → l < length (desc_on t).fields → HasFew s k
    → AreArrays (arrays_on s k t l)
arrays_are s t k l in_s in_t lt lt' few = record {
  one = (uses_here _ k s.set.now.well_formed s.part in_s lt).1;
  other = (uses_here _ l t.set.now.well_formed t.part in_t lt').1;
  few = few_here s k lt few;
}

pub arrays_room : (s t : Side) (k : ℕ) (start : Start) → start.field < length (desc_on t).fields → IsStart t start
    → HasRoom (arrays_on s k t start.field) 0 start.cell
arrays_room s t k start lt h =
    let cells = struct_cells (described t.set.now) in
    let f = get_or (desc_on t).fields start.field no_field in
    let size = field_size cells (desc_on t).fields start.field f in
    let here = cells_here cells (desc_on t).fields t.version start.field lt in
    let none : capacity_of f.count ≡ capacity_of f.count - 0 = omega arith in
    rw (← none) (omega arith)

pub elements_all : (s t : Side) (k l at : ℕ) → elements_left (arrays_on s k t l) 0 at
    ≡ array_on (described s.set.now) (described t.set.now) (get_or (desc_on s).fields k no_field).item (get_or (desc_on t).fields l no_field).item
    (capacity_of (get_or (desc_on s).fields k no_field).count) (capacity_of (get_or (desc_on t).fields l no_field).count) at
elements_all s t k l at = grind arith

-- how far down the structures of a field go
pub field_depth : (s : Side) (k : ℕ) → IsSide s → k < length (desc_on s).fields
    → depth (get_or (desc_on s).fields k no_field).item ≤ reach (described s.set.now) s.part
field_depth s k in_s lt = grind (arith, depth_within, uses_here)
