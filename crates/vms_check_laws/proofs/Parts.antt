-- Structures on both sides, by induction on the number of the newer one, and parts of devices.
use Rattle.vms_check_laws.proofs.{Presence.holds_left, Presence.holds_right, AlignedDescs.Clashes, AlignedDescs.front_aligns}
use Rattle.vms_check_laws.proofs.Counts.{old_fields, StructsGood, plains_further, DescGood, structs_good, device_good, sub_good}
use Rattle.vms_check_laws.proofs.Descriptions.{desc_meets, sides, desc_clashes, first_state, good_fields}
use Rattle.vms_check_laws.proofs.Facade
use Facade.{◌≡◌, ℕ, ◌<◌, ◌≤◌, List, length, get_or, None, sym, ap, ◌∙◌, arith, ℤ, [], ◌⊎◌, inl, inr, zero, suc, ◌+◌}
use Facade.{◌∷◌, map, Option, Some, refl, flat_map, slice_get, cells_in, Desc, no_desc, Cell, Meaning, meanings, desc_cells, first_long, struct_slots}
use Facade.{struct_cells_at, Comparer, no_comparer, comparer_of, comparers, Carrier, no_carrier, carrier_of, carriers, FitsAt, first_at, Part, Set}
use Facade.{struct_cells, desc_slots, WellFormed, comparing, carrying, cells_first, Holds, Sub, Device, Image, IsVersionOf, AreVersionsOf, RulesHold, sub_slots}
use Facade.{sub_place, came_slots, carried_sub, defaults, rules_append, ◌++◌, Spells, zeroed, own_slots, present, position_from, is_earlier_in, Field}
use Facade.{numbers_of, Entry, IsPartOf, IsRead, FrontAligns}
use Rattle.vms_check_laws.proofs.FieldsRead.{fields_sized, pair_meets}
use Rattle.vms_check_laws.proofs.PairLists.{Settled, settled_defaults, settled_append, settled_empty}
use Rattle.vms_check_laws.proofs.Premises.{Table, by_less, Meets, fields_below, Reads, GoodCells, FitCells, fit_append, fit_defaults, fit_length, IsKnown}
use Rattle.vms_check_laws.proofs.Premises.{AreKnown, all_known, PairGood, Sides, OldFields, Met, Row}
use Rattle.vms_spec.specs.declared.Part.TheVariants as parts

abbrev pub meanings_of : List Desc → List Meaning
meanings_of ds = meanings ds (length ds)

abbrev pub cells_of : List Desc → List (List Cell)
cells_of ds = cells_in (meanings_of ds)

abbrev pub rules_to : (olds news : List Desc) → ℕ → List Comparer
rules_to olds news k = comparers (cells_of olds) (cells_of news) olds news k

abbrev pub carries_to : (olds news : List Desc) → ℕ → List Carrier
carries_to olds news k = carriers (cells_of olds) (cells_of news) olds news k

-- ---- the rows of the tables, one more and the earlier ones

module _ (x y : List (List Cell)) (olds news : List Desc) where
  comparer_at : (k j : ℕ) → j < k
      → get_or (comparers x y olds news k) j no_comparer ≡ comparer_of (comparers x y olds news j) x y olds j (get_or news j no_desc)
  comparer_at k j lt = grind (arith, first_at, first_long)

  pub carrier_at : (k j : ℕ) → j < k → get_or (carriers x y olds news k) j no_carrier ≡ carrier_of (carriers x y olds news j) x y olds (get_or news j no_desc)
  carrier_at k j lt = grind (arith, first_at)

module _ (olds news : List Desc) (numbers numbers' : List ℤ) (old : StructsGood olds) (new : StructsGood news) where
  abbrev KnownTable : ℕ → Type 0
  KnownTable k = Table (rules_to olds news k) (carries_to olds news k) (meanings_of olds) (meanings_of news) numbers numbers' (length olds) k

  abbrev Next : ℕ → Type 0
  Next k =
      Row (meanings_of olds) (meanings_of news) numbers numbers' (length olds) k
      (comparer_of (rules_to olds news k) (cells_of olds) (cells_of news) olds k (get_or news k no_desc))
      (carrier_of (carries_to olds news k) (cells_of olds) (cells_of news) olds (get_or news k no_desc))

  row : (k : ℕ) → k < length news → KnownTable k → Next k
  row k lt table =
      let b = get_or news k no_desc in
      let good = new k lt in
      let below = fields_below k b.fields (λ j f e. (good.new j f e).item) in
      let cells_are = struct_cells_at news _ k lt below in
      record {
        sized = λ i p.
            let a = get_or olds i no_desc in
            fields_sized (sides table a b a.version b.version (parts.Struct i) (parts.Struct k) p 0) 0 b.fields _ below ∙ sym (ap length cells_are);
        good = rw cells_are (good_fields _ k b.fields 0 b.fields (λ j l. (table.rows j l).good) below good.defaults);
        meets = λ i lt_i none x fits.
            let a = get_or olds i no_desc in
            let below_a = fields_below i a.fields (λ j f e. ((old i lt_i).old j f e).item) in
            let fits_a : FitsAt (desc_cells (cells_of olds) a) numbers x = rw (struct_cells_at olds _ i lt_i below_a) at fits in
            let plain_a = old_fields _ _ a.fields numbers x fits_a (plains_further i _ a.fields (omega arith) (old i lt_i).old) in
            let m = desc_meets table a b a.version b.version (parts.Struct i) (parts.Struct k) x plain_a good fits_a none in
            let slots_are = struct_slots olds _ i numbers x lt_i below_a in
            record {
              fits = rw cells_are m.fits;
              aligned = λ y. rw (slots_are, struct_slots news _ k numbers' y lt below) (m.aligned y);
              reads = λ y held. rw (slots_are, struct_slots news _ k numbers' y lt below, cells_are) (m.reads y held);
            };
      }

  pub tables : (k : ℕ) → k ≤ length news → KnownTable k
  tables k le = record {
    rows = λ j lt.
        rw (comparer_at _ _ olds news k j lt, carrier_at _ _ olds news k j lt)
        (by_less (λ m. m < length news → Next m)
        (λ m before less. row m less (record {
          rows = λ i l.
              rw (comparer_at _ _ olds news m i l, carrier_at _ _ olds news m i l) (before i l (omega arith));
        })) k j lt (omega arith));
  }

-- the constants of two devices' own fields clash, at one version, x and y being the cells of the structures
abbrev pub DevicesClash : (old new : Set) → (d e : Device) → (v : ℕ) → Part → Part → (x y : List (List Cell)) → Type 0
DevicesClash old new d e v part part' x y =
    let es = present x d.desc v in
    let fs = present y e.desc v in
    let ks = comparers x y old.structs new.structs (length new.structs) in
    Clashes (record { ks = ks; a = d.desc; b = e.desc; v = v; w = v; part = part; part' = part'; o = position_from 0 es; n = position_from 0 fs }) es fs

-- then the newer set's own fields aren't spelled at a front where the older wrote its own
abbrev pub ClashRefuses : (old new : Set) → (d e : Device) → (v : ℕ) → Part → Part → (numbers numbers' : List ℤ) → (x y : List (List Cell)) → Type 0
ClashRefuses old new d e v part part' numbers numbers' x y = DevicesClash old new d e v part part' x y → FitsAt (desc_cells x d.desc) numbers 0
    → (body r r' : List ℕ) → Spells numbers' (own_slots new e v numbers') body → body ++ r' ≡ zeroed numbers (own_slots old d v numbers) ++ r → ⊥

pub part_good : (set : Set) → WellFormed set → (d : Desc) → IsPartOf set d → DescGood (length set.structs) d
part_good set well d (inl p) = rw (← p.is) (device_good set well p.i p.device p.there)
part_good set well d (inr p) = rw (← p.is) (sub_good set well p.i p.j _ p.sub p.there p.below)

known_at : (structs : List Meaning) (all : List Field) (v : ℕ) (numbers : List ℤ) (base : ℕ) (es : List Entry) (p : ℕ) (e : Entry) → slice_get es p ≡ Some e
    → AreKnown structs all v numbers base es → IsKnown structs all v numbers base e
known_at structs all v numbers base [] p e h k = cc
known_at structs all v numbers base (x ∷ es) zero e h k = let same : x ≡ e = cc in rw (← same) k.0
known_at structs all v numbers base (x ∷ es) (suc p) e h k = known_at structs all v numbers base es p e h k.1

-- ---- A part of a device (its own fields, or a subsection) in two well-formed sets that compare well there. Subsections of a device: new's
-- own list, each from old's of its name where it came.

module _ (old new : Set) (good_old : WellFormed old) (good_new : WellFormed new) where
  abbrev ms : List Meaning
  ms = meanings old.structs (length old.structs)

  abbrev ns : List Meaning
  ns = meanings new.structs (length new.structs)

  -- the cells of structures, made either way
  old_first : cells_in ms ≡ struct_cells old
  old_first = cells_first _ _

  new_first : cells_in ns ≡ struct_cells new
  new_first = cells_first _ _

  pub all_tables : (numbers numbers' : List ℤ)
      → Table (rules_to old.structs new.structs (length new.structs)) (carries_to old.structs new.structs (length new.structs)) ms ns numbers numbers'
      (length old.structs) (length new.structs)
  all_tables numbers numbers' = tables _ _ numbers numbers' (structs_good old good_old) (structs_good new good_new) _ (omega arith)

  -- the default of each cell of a description of new fits it
  pub good_cells : (b : Desc) → DescGood (length new.structs) b → GoodCells (desc_cells (struct_cells new) b)
  good_cells b good =
      let below = fields_below _ _ (λ j f e. (good.new j f e).item) in
      rw (← new_first) (good_fields _ _ b.fields 0 b.fields (λ j l. ((all_tables [] []).rows j l).good) below good.defaults)

  -- two parts at which no rule fails
  pub part_meets : (a b : Desc) (v : ℕ) (part part' : Part) → DescGood (length old.structs) a → DescGood (length new.structs) b
      → comparing old new a b v part part' ≡ None → (numbers numbers' : List ℤ) (at : ℕ) → FitsAt (desc_cells (struct_cells old) a) numbers at
      → Meets numbers numbers' (desc_slots ms a v numbers at) (λ y. desc_slots ns b v numbers' y) (desc_cells (struct_cells new) b)
      (carrying old new numbers v a b at)
  part_meets a b v part part' good_a good_b same numbers numbers' at fits =
      let fits_in = rw (← old_first) at fits in
      rw (← old_first, ← new_first) (desc_meets (all_tables _ _) a b v v part part' at (old_fields _ _ _ _ at fits_in good_a.old) good_b fits_in
      (rw (← old_first, ← new_first) at same))

  pub devices_clash : (i k : ℕ) (d e : Device) → slice_get old.devices i ≡ Some d → slice_get new.devices k ≡ Some e → (v : ℕ) (part part' : Part)
      (numbers numbers' : List ℤ) → ClashRefuses old new d e v part part' numbers numbers' (struct_cells old) (struct_cells new)
  devices_clash i k d e in_old in_new v part part' numbers numbers' =
      rw (← old_first, ← new_first) (λ clash fits.
      let plain = old_fields _ _ _ _ 0 fits (device_good old good_old i d in_old).old in
      desc_clashes (all_tables _ _) d.desc e.desc v v part part' 0 plain (device_good new good_new k e in_new) fits 0 clash)

  module _ (a b : Desc) (of_old : IsPartOf old a) (of_new : IsPartOf new b) (v : ℕ) (part part' : Part) (numbers numbers' : List ℤ) (at at' : ℕ) where
    abbrev es : List Entry
    es = present (cells_in ms) a v

    abbrev fs : List Entry
    fs = present (cells_in ns) b v

    abbrev here : Sides
    here = sides (all_tables numbers numbers') a b v v part part' at at'

    good : DescGood (length new.structs) b
    good = part_good new good_new b of_new

    plain : FitsAt (desc_cells (cells_in ms) a) numbers at → OldFields (length old.structs) (λ k. numbers_of (cells_in ms) a numbers at k) a.fields
    plain fits = old_fields _ _ _ _ at fits (part_good old good_old a of_old).old

    pub position_stands : IsRead old new a b v part part' numbers numbers' at at' (struct_cells old) (struct_cells new)
    position_stands = rw (← old_first, ← new_first) (λ p e f h.
        let k = known_at ms _ v _ at es p e h.on_old (all_known ms a.fields v numbers at) in
        let k' = known_at ns _ v _ at' fs p f h.on_new (all_known ns b.fields v numbers' at') in
        let met : Met here e f = record { good = record { rules = h.rules; structs = h.structs }; known = k; known' = k' } in
        let old_f = plain h.fits e.index e.field k.field in
        let new_f = good.earlier f.index f.field k'.field in
        ((pair_meets here (is_earlier_in b f.index) e f (record { met = met; old = old_f; new = new_f; fits = k.fits h.fits; agree = h.agree })).reads h.held).carries)

    pub aligned_stands : FrontAligns old new a b v part part' numbers numbers' at at' (struct_cells old) (struct_cells new)
    aligned_stands = rw (← old_first, ← new_first) (λ p h.
        let first : (q : ℕ) (e f : Entry) → q < p → slice_get es q ≡ Some e → slice_get fs q ≡ Some f → PairGood here.two e f = λ q e f lt x y.
        let d = h.paired q e f lt x y in
        record { rules = d.rules; structs = d.structs } in
        front_aligns here good.earlier (plain h.fits) h.fits p es fs 0 0 h.on_old h.on_new first (first_state (all_tables _ _) a b v v part part' at at'))

module _ (old new : Set) (good_old : WellFormed old) (good_new : WellFormed new) (d e : Device) (image : Image) (numbers' : List ℤ)
    (came_of : Sub → Option ℕ) where
  abbrev sub_cells : Sub → List Cell
  sub_cells t = desc_cells (struct_cells new) t.desc

  -- new's subsection has come, from old's s, whose cells begin at a place
  pub record Came (t : Sub) : Type 0 where
    pub sub : Sub
    pub version : ℕ
    pub place : ℕ
    pub part : Part
    pub part' : Part
    pub came : came_of t ≡ Some version
    pub numbers : carried_sub old new d image t ≡ carrying old new image.numbers version sub.desc t.desc place
    pub good : DescGood (length old.structs) sub.desc
    pub good' : DescGood (length new.structs) t.desc
    pub same : comparing old new sub.desc t.desc version part part' ≡ None
    pub fits : FitsAt (desc_cells (struct_cells old) sub.desc) image.numbers place
    pub rules : RulesHold (sub_slots old sub version image.numbers place)
    pub within : IsVersionOf t.desc version

  pub record Stayed (t : Sub) : Type 0 where
    pub came : came_of t ≡ None
    pub numbers : carried_sub old new d image t ≡ defaults (sub_cells t)
    pub good : GoodCells (sub_cells t)

  abbrev pub Facts : List Sub → Type 0
  Facts [] = Unit {0}
  Facts (t ∷ ts) = (Stayed t ⊎ Came t) × Facts ts

  abbrev carried_of : Sub → List ℤ
  carried_of t = carried_sub old new d image t

  abbrev came_meets : (t : Sub) (c : Came t)
      → Meets image.numbers numbers' (sub_slots old c.sub c.version image.numbers c.place) (λ y. sub_slots new t c.version numbers' y) (sub_cells t)
      (carrying old new image.numbers c.version c.sub.desc t.desc c.place)
  came_meets t c = part_meets old new good_old good_new _ t.desc _ c.part _ c.good c.good' c.same _ _ _ c.fits

  one_fit : (t : Sub) → Stayed t ⊎ Came t → FitCells (sub_cells t) (carried_of t)
  one_fit t (inl s) = rw s.numbers (fit_defaults _ s.good)
  one_fit t (inr c) = rw c.numbers (came_meets t c).fits

  one_size : (t : Sub) → Stayed t ⊎ Came t → length (carried_of t) ≡ length (sub_cells t)
  one_size t f = fit_length _ _ (one_fit t f)

  pub subs_fit : (ts : List Sub) → Facts ts → FitCells (flat_map sub_cells ts) (flat_map carried_of ts)
  subs_fit [] h = tt
  subs_fit (t ∷ ts) h = fit_append (sub_cells t) (flat_map sub_cells ts) (carried_of t) (flat_map carried_of ts) (one_fit t h.0) (subs_fit ts h.1)

  -- the bytes of a subsection that came, its rules and its defaults
  pub sub_reads : (t : Sub) (c : Came t) (place' : ℕ) → Holds numbers' place' (carried_of t)
      → Reads image.numbers numbers' (sub_slots old c.sub c.version image.numbers c.place) (sub_slots new t c.version numbers' place') place' (sub_cells t)
      (carried_of t)
  sub_reads t c place' held = rw c.numbers ((came_meets t c).reads place' (rw (← c.numbers) held))

  next_place : (t : Sub) (ts : List Sub) (place : ℕ) → Stayed t ⊎ Came t → Holds numbers' place (flat_map carried_of (t ∷ ts))
      → Holds numbers' (place + length (sub_cells t)) (flat_map carried_of ts)
  next_place t ts place f held = rw (one_size t f) at (holds_right (carried_of t) held)

  -- what is read of the subsections from one on, whose cells begin at a place
  pub record SubsRead (ts : List Sub) (place : ℕ) : Type 0 where
    pub versions : AreVersionsOf ts (map came_of ts)
    pub rules : RulesHold (came_slots new e numbers' place ts (map came_of ts))
    pub settled : Settled (came_slots new e numbers' place ts (map came_of ts)) place (flat_map sub_cells ts) (flat_map carried_of ts)

  one_reads : (t : Sub) (ts : List Sub) (place : ℕ) → Stayed t ⊎ Came t → Holds numbers' place (carried_of t) → length (carried_of t) ≡ length (sub_cells t)
      → SubsRead ts (place + length (sub_cells t)) → SubsRead (t ∷ ts) place
  one_reads t ts place (inl s) held size h =
      let first : Settled [] place (sub_cells t) (carried_of t) = rw s.numbers (settled_defaults [] place _) in
      record { versions = rw s.came h.versions; rules = rw s.came h.rules; settled = rw s.came (settled_append size first (omega arith) h.settled) }
  one_reads t ts place (inr c) held size h = search (arith, sub_reads, rules_append, settled_append)

  pub subs_read : (ts : List Sub) (place : ℕ) → Facts ts → Holds numbers' place (flat_map carried_of ts) → SubsRead ts place
  subs_read [] place h held = record { versions = tt; rules = tt; settled = settled_empty [] place [] [] refl }
  subs_read (t ∷ ts) place h held =
      one_reads t ts place h.0 (holds_left _ held) (one_size t h.0) (subs_read ts (place + length (sub_cells t)) h.1 (next_place t ts place h.0 held))

  -- each subsection of new is where its cells begin
  pub sub_held : (ts : List Sub) (place l : ℕ) (t : Sub) → slice_get ts l ≡ Some t → Facts ts → Holds numbers' place (flat_map carried_of ts)
      → Holds numbers' (sub_place new place ts l) (carried_of t)
  sub_held [] place l t is h held = absurd (cc)
  sub_held (u ∷ ts) place zero t is h held = let same : u ≡ t = cc in rw (← same) (holds_left _ held)
  sub_held (u ∷ ts) place (suc l) t is h held = sub_held ts (place + length (sub_cells u)) l t is h.1 (next_place u ts place h.0 held)
