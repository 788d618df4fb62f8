-- The laws as they are stated: the paths of cells, images that are ready, and the bytes that are
-- written.
use Rattle.vms_bodies.proofs.{Facade.CellLaw, Facade.ReadyLaw, Facade.ZeroedLaw, Places.place_up}
use Rattle.vms_bodies.proofs.Facade.{size_of_device, cell_count, field_size, element_room, first_at, ◌≡◌, ℕ, zero, suc, ◌+◌, ◌*◌, ◌<◌}
use Rattle.vms_bodies.proofs.Facade.{◌≤◌, List, ◌∷◌, length, length-append, Option, Some, None, refl, arith, Bool, true, false, nat_lt}
use Rattle.vms_bodies.proofs.Facade.{if◌then◌else◌, [], flat_map, slice_get, ltb-true, get_or_from_slice_get, Item, Num, Struct, Field, Desc, Sub, Device}
use Rattle.vms_bodies.proofs.Facade.{Set, Cell, no_desc, first, item_size, capacity_of, place_of, field_cells, cells_from, desc_cells, struct_cells}
use Rattle.vms_bodies.proofs.Facade.{device_cells, sub_place, own_cells, item_at, element_at, path_at, desc_of_sub, cell_in, cell_at, get_or, ℤ, pos}
use Rattle.vms_bodies.proofs.Facade.{◌≤ℤ◌, ap, not, ◌&&◌, ◌==◌, nat_le, ◌||◌, AllByRecursion, and_parts, not-true, leb-true, le-leb}
use Rattle.vms_bodies.proofs.Facade.{eqb-true, and_from, not_from_false, Kind, lowest, InRange, same_number, no_cell, Slot, Rule, Image, has_cell, image_slots}
use Rattle.vms_bodies.proofs.Facade.{IsVersionOf, AreVersionsOf, FitsCell, FitCells, IsNormal, RulesHold, is_needed, ComeAsNeeded, IsReady, int_le, in_range}
use Rattle.vms_bodies.proofs.Facade.{counts_well, is_version_of, are_versions_of, fit_cells, are_settled, is_normal, rules_are_true, come_as_needed, is_ready}
use Rattle.vms_bodies.proofs.Facade.{ranges, within, same_number_itself, same_number_is, Decides-and, Decides-like, Decides, replicate, length-replicate}
use Rattle.vms_bodies.proofs.Facade.{Filler, Spells, zeroed, GoodLaw, ShippedLaw, well_good, shipped_stands}

-- ---- places

-- the cells of a field lie among those of the fields
place_room : (cs : List (List Cell)) (fields : List Field) (i base : ℕ) (fs : List Field) (k : ℕ) (f : Field) → slice_get fs k ≡ Some f
    → place_of cs fields i base fs k + capacity_of f.count * item_size cs f.item ≤ base + length (cells_from cs fields i fs)
place_room cs fields i base [] k f e = cc
place_room cs fields i base (g ∷ fs) zero f e =
    let same : g ≡ f = cc in
    rw (← same) (omega (arith, field_size cs fields i g, length-append (field_cells cs fields i g) (cells_from cs fields (suc i) fs)))
place_room cs fields i base (g ∷ fs) (suc k) f e =
    omega (
      arith,
      place_room cs fields (suc i) (base + length (field_cells cs fields i g)) fs k f e,
      length-append (field_cells cs fields i g)
          (cells_from cs fields (suc i) fs),
    )

-- ---- paths

-- the cell is among n cells from a place on
record Within (base size c : ℕ) : Type 0 where
  pub low : base ≤ c
  pub high : c < base + size

some_if : (b : Bool) (o : Option ℕ) (c : ℕ) → (if b then o else None) ≡ Some c → (b ≡ true) × (o ≡ Some c)
some_if b o c h = grind arith

module _ (set : Set) where
  abbrev size_below : ℕ → Desc → ℕ
  size_below below d = length (desc_cells (first desc_cells set.structs below) d)

  abbrev Inside : List (ℕ × ℕ) → Type 0
  Inside path = (below : ℕ) (d : Desc) (base c : ℕ) → path_at set path below (Some d) base ≡ Some c → Within base (size_below below d) c

  -- the rest of a path, in a structure
  abbrev further : List (ℕ × ℕ) → ℕ → ℕ → ℕ → Option ℕ
  further path below j cell = if nat_lt j below then path_at set path j (slice_get set.structs j) cell else None

  in_struct : (step : ℕ × ℕ) (path : List (ℕ × ℕ)) → Inside (step ∷ path) → (below j cell c : ℕ) → j < below → (o : Option Desc) → slice_get set.structs j ≡ o
      → path_at set (step ∷ path) j o cell ≡ Some c → Within cell (item_size (first desc_cells set.structs below) (Struct j)) c
  in_struct step path inside below j cell c lt None e h = cc
  in_struct step path inside below j cell c lt (Some d) e h =
      rw (first_at desc_cells set.structs [] below j lt, get_or_from_slice_get set.structs j d no_desc e) (inside j d cell c h)

  in_item : (path : List (ℕ × ℕ)) → Inside path → (below : ℕ) (item : Item) (cell c : ℕ) → item_at (further path below) path item cell ≡ Some c
      → Within cell (item_size (first desc_cells set.structs below) item) c
  in_item [] inside below (Num kind) cell c h = let same : cell ≡ c = cc in record { low = omega arith; high = omega arith }
  in_item (step ∷ path) inside below (Struct j) cell c h =
      let t = some_if _ _ _ h in in_struct _ _ inside _ _ _ _ (ltb-true j below t.0) _ refl t.1
  in_item _ inside below _ cell c h = cc

  in_element : (path : List (ℕ × ℕ)) → Inside path → (below : ℕ) (d : Desc) (base i e c : ℕ) (o : Option Field) → slice_get d.fields i ≡ o
      → element_at (first desc_cells set.structs below) d base i e o (item_at (further path below) path) ≡ Some c → Within base (size_below below d) c
  in_element path inside below d base i e c None there h = cc
  in_element path inside below d base i e c (Some f) there h =
      let cs = first desc_cells set.structs below in
      let t = some_if (nat_lt e (capacity_of f.count)) _ c h in
      let w = in_item path inside below f.item (place_of cs d.fields 0 base d.fields i + e * item_size cs f.item) c t.1 in
      let room = place_room cs d.fields 0 base d.fields i f there in
      let up = place_up cs d.fields 0 base d.fields i in
      let element = element_room e (capacity_of f.count) (item_size cs f.item) (ltb-true e (capacity_of f.count) t.0) in
      record { low = omega arith; high = omega arith }

  path_inside : (path : List (ℕ × ℕ)) → Inside path
  path_inside [] below d base c h = cc
  path_inside (step ∷ path) below d base c h = in_element path (path_inside path) below d base step.0 step.1 c _ refl h

  abbrev cells : Desc → List Cell
  cells d = desc_cells (struct_cells set) d

  -- a subsection's cells lie among those of all
  sub_room : (base : ℕ) (subs : List Sub) (j : ℕ) (s : Sub) → slice_get subs j ≡ Some s
      → sub_place set base subs j + length (cells s.desc) ≤ base + length (flat_map (λ (s : Sub). cells s.desc) subs)
  sub_room base [] j s e = cc
  sub_room base (t ∷ subs) zero s e =
      let same : t ≡ s = cc in rw (← same) (omega (arith, length-append (cells t.desc) (flat_map (λ (s : Sub). cells s.desc) subs)))
  sub_room base (t ∷ subs) (suc j) s e =
      omega (arith, sub_room (base + length (cells t.desc)) subs j s e, length-append (cells t.desc) (flat_map (λ (s : Sub). cells s.desc) subs))

  all_room : (d : Device) → length (device_cells set d) ≡ own_cells set d + length (flat_map (λ (s : Sub). cells s.desc) d.subs)
  all_room d = length-append (cells d.desc) _

  in_sub : (d : Device) (j : ℕ) (path : List (ℕ × ℕ)) (c : ℕ) (o : Option Sub) → slice_get d.subs j ≡ o
      → path_at set path (length set.structs) (desc_of_sub o) (sub_place set (own_cells set d) d.subs j) ≡ Some c → c < length (device_cells set d)
  in_sub d j [] c None e h = cc
  in_sub d j (step ∷ path) c None e h = cc
  in_sub d j path c (Some s) e h =
      let w = path_inside path (length set.structs) s.desc (sub_place set (own_cells set d) d.subs j) c h in
      omega (arith, sub_room (own_cells set d) d.subs j s e, all_room d)

  in_device : (o : Option Device) (part : Option ℕ) (path : List (ℕ × ℕ)) (c : ℕ) → cell_in set o part path ≡ Some c → c < size_of_device set o
  in_device None part path c h = cc
  in_device (Some d) None path c h = let w = path_inside path (length set.structs) d.desc 0 c h in omega (arith, all_room d)
  in_device (Some d) (Some j) path c h = in_sub d j path c _ refl h

  pub cell_inside : (k : ℕ) (part : Option ℕ) (path : List (ℕ × ℕ)) (c : ℕ) → cell_at set k part path ≡ Some c → c < cell_count set k
  cell_inside k part path c h = grind (arith, in_device)

-- ---- the tests of readiness are the relations: numbers

below_int : (z u : ℤ) → z ≤ℤ u → int_le z u ≡ true
below_int z u h = grind arith

pub is_same : (z u : ℤ) → z ≡ u → same_number z u ≡ true
is_same z u e = rw (← e) (same_number_itself z)

pub ranged : (kind : Kind) (z : ℤ) → InRange kind z → in_range kind z ≡ true
ranged kind z h = grind (arith, and_from, below_int, lowest)

pub counted_well : (caps : List ℕ) (z : ℤ) → AllByRecursion (λ most. z ≤ℤ pos most) caps → counts_well caps z ≡ true
counted_well [] z h = refl
counted_well (m ∷ caps) z h = and_from _ _ (below_int z _ h.0) (counted_well caps z h.1)

same_decides : (z u : ℤ) → Decides (same_number z u) (z ≡ u)
same_decides z u = (same_number_is z u, is_same z u)

-- ---- versions

pub le_decides : (a b : ℕ) → Decides (nat_le a b) (a ≤ b)
le_decides a b = (leb-true a b, le-leb a b)

pub version_decides : (d : Desc) (v : ℕ) → Decides (is_version_of d v) (IsVersionOf d v)
version_decides d v = Decides-and _ _ (le_decides _ v) (le_decides v _)

versions_decide : (subs : List Sub) (came : List (Option ℕ)) → Decides (are_versions_of subs came) (AreVersionsOf subs came)
versions_decide [] [] = (λ e. tt, λ h. refl)
versions_decide (s ∷ subs) (None ∷ came) = versions_decide subs came
versions_decide (s ∷ subs) (Some v ∷ came) = Decides-and _ _ (version_decides s.desc v) (versions_decide subs came)
versions_decide _ _ = (λ e. cc, λ h. absurd h)

-- ---- cells

cells_decide : (cells : List Cell) (numbers : List ℤ) → Decides (fit_cells cells numbers) (FitCells cells numbers)
cells_decide [] [] = (λ e. record { long = refl; fits = λ c lt. absurd (omega arith) }, λ h. refl)
cells_decide [] (z ∷ numbers) = (λ e. cc, λ h. absurd (omega arith))
cells_decide (cell ∷ cells) [] = (λ e. cc, λ h. absurd (omega arith))
cells_decide (cell ∷ cells) (z ∷ numbers) =
    Decides-like _ (λ h. record { long = ap suc h.1.long; fits = by_place h.0 h.1.fits })
    (λ h. (h.fits 0 (omega arith), record { long = omega arith; fits = λ c lt. h.fits (suc c) (omega arith) }))
    (Decides-and _ _ (Decides-and _ _ (ranges _ z, ranged _ z) (within cell.capacities z, counted_well _ z)) (cells_decide cells numbers))
  where
    by_place : FitsCell cell z → ((c : ℕ) → c < length cells → FitsCell (get_or cells c no_cell) (get_or numbers c (pos 0)))
        → (c : ℕ) → c < length (cell ∷ cells) → FitsCell (get_or (cell ∷ cells) c no_cell) (get_or (z ∷ numbers) c (pos 0))
    by_place a b zero lt = a
    by_place a b (suc c) lt = b c (omega arith)

-- what is at its default if it has no byte, from a cell on
abbrev Settled : List Slot → ℕ → List Cell → List ℤ → Type 0
Settled slots from cells numbers =
    (c k : ℕ) → c < length numbers → c < length cells → k ≡ from + c → has_cell slots k ≡ false
    → get_or numbers c (pos 0) ≡ (get_or cells c no_cell).default

unless : {P : Type 0} (b c : Bool) → Decides c P → Decides (b || c) (b ≡ false → P)
unless b c d = grind arith

settled_decides : (slots : List Slot) (from : ℕ) (cells : List Cell) (numbers : List ℤ)
    → Decides (are_settled slots from cells numbers) (Settled slots from cells numbers)
settled_decides slots from [] numbers = (λ e c k lt le is bare. absurd (omega arith), λ h. refl)
settled_decides slots from (cell ∷ cells) [] = (λ e c k lt le is bare. absurd (omega arith), λ h. refl)
settled_decides slots from (cell ∷ cells) (z ∷ numbers) =
    Decides-like _ (λ h. by_place h.0 h.1) (λ h. (
      λ bare. h 0 from (omega arith) (omega arith) (omega arith) bare,
      λ c k lt le is bare. h (suc c) k (omega arith) (omega arith) (omega arith) bare,
    )) (Decides-and _ _ (unless _ _ (same_decides z _)) (settled_decides slots (suc from) cells numbers))
  where
    by_place : (has_cell slots from ≡ false → z ≡ cell.default) → Settled slots (suc from) cells numbers → Settled slots from (cell ∷ cells) (z ∷ numbers)
    by_place a b zero k lt le is bare = let same : k ≡ from = omega arith in a (rw same at bare)
    by_place a b (suc c) k lt le is bare = b c k (omega arith) (omega arith) (omega arith) bare

-- ---- normal, valid

normal_decides : (set : Set) (d : Device) (image : Image) → Decides (is_normal set d image) (IsNormal set d image)
normal_decides set d image =
    Decides-like _ (λ h. record {
      version = h.0.0.0;
      subs = h.0.0.1;
      cells = h.0.1;
      absent = λ k lt bare. h.1 k k lt (omega (arith, h.0.1.long)) (omega arith) bare;
    }) (λ h. (
      ((h.version, h.subs), h.cells),
      λ c k lt le is bare. let same : k ≡ c = omega arith in h.absent c lt (rw same at bare),
    ))
    (Decides-and _ _
    (Decides-and _ _ (Decides-and _ _ (version_decides d.desc image.version) (versions_decide d.subs image.came))
    (cells_decide (device_cells set d) image.numbers)) (settled_decides (image_slots set d image) 0 (device_cells set d) image.numbers))

pub rules_decide : (slots : List Slot) → Decides (rules_are_true slots) (RulesHold slots)
rules_decide [] = (λ e. tt, λ h. refl)
rules_decide (Rule b ∷ slots) = Decides-and _ _ (λ e. e, λ e. e) (rules_decide slots)
rules_decide (_ ∷ slots) = rules_decide slots

-- ---- ready

module _ (set : Set) (d : Device) (image : Image) where
  pub needed_are : (j : ℕ) (subs : List Sub) (came : List (Option ℕ)) → come_as_needed set d image j subs came ≡ true → ComeAsNeeded set d image j subs came
  needed_are j [] [] e = refl
  needed_are j (s ∷ subs) (None ∷ came) e = let p = and_parts (not (is_needed set d image s j)) _ e in (not-true _ p.0, needed_are (suc j) subs came p.1)
  needed_are j (s ∷ subs) (Some v ∷ came) e =
      let p = and_parts (is_needed set d image s j && v == s.desc.version) _ e in
      let q = and_parts (is_needed set d image s j) _ p.0 in
      (q.0, eqb-true v s.desc.version q.1, needed_are (suc j) subs came p.1)
  needed_are j _ _ e = cc

  pub are_needed : (j : ℕ) (subs : List Sub) (came : List (Option ℕ)) → ComeAsNeeded set d image j subs came → come_as_needed set d image j subs came ≡ true
  are_needed j [] [] h = refl
  are_needed j [] (o ∷ came) h = cc
  are_needed j (s ∷ subs) [] h = absurd h
  are_needed j (s ∷ subs) (None ∷ came) h = and_from _ _ (not_from_false _ h.0) (are_needed (suc j) subs came h.1)
  are_needed j (s ∷ subs) (Some v ∷ came) h = grind (arith, and_from, are_needed (suc j) subs came h.2)

  pub ready_decides : Decides (is_ready set d image) (IsReady set d image)
  ready_decides = grind (arith, Decides-like, Decides-and, normal_decides, rules_decide, needed_are, are_needed)

-- ---- the bytes that the writer gives for slots are of the slots

-- the zeroed bytes of slots are of the slots
pub zeroed_spells : (m : List ℤ) (slots : List Slot) → Spells m slots (zeroed m slots)
zeroed_spells m [] = refl
zeroed_spells m (Filler n ∷ slots) = (replicate n 0, zeroed m slots, length-replicate n 0, refl, zeroed_spells m slots)
zeroed_spells m (Rule b ∷ slots) = zeroed_spells m slots
zeroed_spells m (_ ∷ slots) = (zeroed m slots, refl, zeroed_spells m slots)

-- ---- the laws as they are stated

pub good_holds : GoodLaw
good_holds = well_good

pub shipped_holds : ShippedLaw
shipped_holds = shipped_stands

pub cell_holds : CellLaw
cell_holds = cell_inside

pub ready_holds : ReadyLaw
ready_holds set d image = let r = ready_decides set d image in record { holds = r.0; passes = r.1 }

pub zeroed_holds : ZeroedLaw
zeroed_holds = zeroed_spells
