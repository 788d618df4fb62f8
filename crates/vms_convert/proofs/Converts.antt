-- What is converted loads as the newer set's, and again: recast numbers, and the parts of a device
-- one by one.
use Rattle.vms_convert.proofs.{TakeLaws.first_slots, TakeLaws.walk_next, TakeLaws.one_slots, HasBack.one_back, Settling.back_versions, Settling.some_at}
use Rattle.vms_convert.proofs.BackNormal.{back_may, at_get, gives, given_all, steps_long}
use Rattle.vms_convert.proofs.Facade
use Facade.{◌≡◌, zero, suc, Bool, true, false, List, [], ◌∷◌, get_or, map, Some, ℤ, refl, sym, arith, if◌then◌else◌, ℕ, ◌<◌, length}
use Facade.{ap, Option, None, IfSome, slice_get, Device, Set, Cell, first, device_cells, Image, IsNormal, newest_set, timer, i8259_at_4, i8254_at_2, AreOf}
use Facade.{kind-of, count-of, kinds, IsPortCells, recast_cells, recast_kinds, AreRecastOf, RecastOfLaw, OneLostLaw, AreOfKinds, recast, wants_arrays, is_port}
use Facade.{AreKept, serial_at_4, port-of, recast_each, is_one_of, one_number, DifferAt, Loses, OfCell, OfDevice, OfMachine, KeepsAll, ◌+◌, ◌≤◌}
use Facade.{◌∙◌, append-nil, slice_get-get_or, take_all, own_slots, image_slots, is_well_formed, sub_at, few_cells, own_inside_device, sub_inside, Typed}
use Facade.{HasSpot, spot_slots, steps_of, SettlesSub, part_of, part_slots, sub_slots_at, changed, part_place, give_step, subst, slice_get_within, get_or-map}
use Facade.{length-map, Ok, AreReady, longest_text, written, WellFormed, no_cell, IsFit, same_lists, well_good, Compatible, carried, carried_device, pair, back}
use Facade.{all_in, upgrade_stands, recast_twice, AreBack, IsConverted, IsPairAt, OneBackLaw, BackLaw, numbers_in, device_partners, device_paired, U8}
use Facade.{ArePartners, carried_stands, kinds_at, default_at, state_of, IsBack, Changes, AreTargets, AreSources, IsWholeStream, Converts, at_option}
use Facade.{IsStreamFor, PutsStream, Judges, stream_of, ArePut, Pair, MayBeWritten, IsValidAt}
use Rattle.vms_parts.specs.Devices.{device_at}
use Rattle.vms_spec.specs.declared.Part.TheVariants as parts

-- ---- recast numbers of normal images of the newest set are of its devices' kinds

-- the same, as the devices say it
to_kinds : (cells : List Cell) (numbers : List ℤ) → AreOfKinds cells numbers → AreOf (map (λ cell. cell.kind) cells) numbers
to_kinds cells numbers h = search (arith, count-of, kind-of)

from_kinds : (cells : List Cell) (numbers : List ℤ) → AreOf (map (λ cell. cell.kind) cells) numbers → AreOfKinds cells numbers
from_kinds cells numbers h = search (arith, count-of, kind-of)

of_normal : (d : Device) (image : Image) → IsNormal newest_set d image → AreOfKinds (device_cells newest_set d) image.numbers
of_normal d image n = record { long = n.cells.long; in_range = λ c lt. (n.cells.fits c lt).0 }

port_kinds : map (λ cell. cell.kind) (device_cells newest_set serial_at_4) ≡ kinds 4
unfolding first
port_kinds = refl

port_of : (to : Set) (numbers : List ℤ) → AreOfKinds (device_cells newest_set serial_at_4) numbers
    → AreOfKinds (device_cells newest_set serial_at_4) (recast to serial_at_4 numbers)
port_of to numbers h = go (wants_arrays to) where
  go : (b : Bool) → AreOfKinds (device_cells newest_set serial_at_4) (if b then recast_cells numbers else numbers)
  go false = h
  go true = from_kinds _ _ (rw port_kinds (recast_kinds _ (rw port_kinds at (to_kinds _ _ h))))

device_is : (d e : Device) (numbers : List ℤ) → Some d ≡ Some e → AreOfKinds (device_cells newest_set d) numbers
    → AreOfKinds (device_cells newest_set e) numbers
device_is d e numbers h k = let same : e ≡ d = cc in rw same k

pub recast_of : RecastOfLaw
recast_of to (a ∷ b ∷ c ∷ d ∷ e ∷ []) l h = each where
  each : AreRecastOf to newest_set (a ∷ b ∷ c ∷ d ∷ e ∷ [])
  each zero x is = device_is timer x _ is (of_normal timer a (h 0 timer a refl refl))
  each (suc zero) x is = device_is (i8259_at_4 0) x _ is (of_normal _ b (h 1 (i8259_at_4 0) b refl refl))
  each (suc (suc zero)) x is = device_is (i8259_at_4 1) x _ is (of_normal _ c (h 2 (i8259_at_4 1) c refl refl))
  each (suc (suc (suc zero))) x is = device_is i8254_at_2 x _ is (of_normal _ d (h 3 i8254_at_2 d refl refl))
  each (suc (suc (suc (suc zero)))) x is = device_is serial_at_4 x _ is (port_of to _ (of_normal _ e (h 4 serial_at_4 e refl refl)))
  each (suc (suc (suc (suc (suc k))))) x is = absurd (cc)
recast_of to _ l h = absurd (omega arith)

-- ---- The recast numbers of a device of the newest set, and when its cells are a port's.

pub recast_at : (to : Set) (devices : List Device) (lists : List (List ℤ)) (k : ℕ) (e : Device) (numbers : List ℤ) → slice_get devices k ≡ Some e
    → slice_get lists k ≡ Some numbers → get_or (recast_each to devices lists) k [] ≡ recast to e numbers
recast_at to (d ∷ devices) (n ∷ lists) zero e numbers p q = grind arith
recast_at to (d ∷ devices) (n ∷ lists) (suc k) e numbers p q = recast_at to devices lists k e numbers p q
recast_at to _ _ k e numbers p q = absurd (cc)

pub recast_long : (to : Set) (devices : List Device) (lists : List (List ℤ)) → length lists ≡ length devices
    → length (recast_each to devices lists) ≡ length devices
recast_long to [] lists l = refl
recast_long to (d ∷ devices) [] l = absurd (omega arith)
recast_long to (d ∷ devices) (n ∷ lists) l = ap suc (recast_long to devices lists (omega arith))

-- ---- images that a loader of the newest set keeps

no_truth : (P : Type 0) → false ≡ true → P
no_truth P e = cc

pub port_is : (k : ℕ) → k < length newest_set.devices → is_port (device_at newest_set k) ≡ true → k ≡ 4
port_is (suc (suc (suc (suc zero)))) lt e = refl
port_is (suc (suc (suc (suc (suc k))))) lt e = absurd (omega arith)
port_is _ lt e = no_truth _ e

pub port_cells : (images : List Image) → AreKept newest_set images → (k : ℕ) (image : Image) → k ≡ 4
    → slice_get images k ≡ Some image → IsPortCells image.numbers
port_cells images kept k image is at = port-of image (kept.each 4 serial_at_4 image refl (rw (sym is) (at))).normal

-- of a set that is the newest
pub newest_kinds : (to new : Set) → new ≡ newest_set → (images : List Image) → AreKept new images → AreRecastOf to new images
newest_kinds to new is images = rw is (λ kept. recast_of to images kept.one_each (λ k e image at at'. (kept.each k e image at at').normal))

-- ---- What is lost first is one thing.

accepted : (to : Set) (machine : Option (List ℕ)) (name : List ℕ) → IfSome machine (λ m. is_one_of to.machines m ≡ true) → machine ≡ Some name
    → is_one_of to.machines name ≡ true
accepted to machine name h e = grind arith

module _ (to new : Set) (machine : Option (List ℕ)) (wanted there : List (List ℤ)) (backs : List Image) where
  abbrev Lost : Option ℕ → Option ℕ → Type 0
  Lost section cell = Loses to new machine wanted there backs section cell

  abbrev Differ : ℕ → ℕ → Type 0
  Differ k c = DifferAt (get_or wanted k []) (get_or there k []) c

  not_same : (k c : ℕ) → Differ k c → get_or wanted k [] ≡ get_or there k [] → ⊥
  not_same k c d e = d.other (rw e)

  not_all : (k c : ℕ) → Differ k c → wanted ≡ there → ⊥
  not_all k c d e = not_same k c d (rw e)

  never : (section cell : Option ℕ) → KeepsAll to new machine wanted there backs → Lost section cell → ⊥
  never section cell h said = grind (arith, not_all)

  first_differ : (k c k' c' : ℕ) → ((i : ℕ) → i < k → get_or wanted i [] ≡ get_or there i []) → Differ k c
      → ((i : ℕ) → i < k' → get_or wanted i [] ≡ get_or there i []) → Differ k' c' → k ≡ k'
  first_differ k c k' c' before d before' d' = grind (arith, one_number, not_same)

  one : (section cell section' cell' : Option ℕ) → Lost section cell → Lost section' cell' → (section ≡ section') × (cell ≡ cell')
  one section cell section' cell' (OfCell k c before d) (OfCell k' c' before' d') = grind (arith, first_differ, one_number)
  one section cell section' cell' (OfCell k c before d) (OfDevice k' inside same before' bad) = absurd (not_all k c d same)
  one section cell section' cell' (OfCell k c before d) (OfMachine name same valid is not) = absurd (not_all k c d same)
  one section cell section' cell' (OfDevice k inside same before bad) (OfCell k' c' before' d') = absurd (not_all k' c' d' same)
  one section cell section' cell' (OfDevice k inside same before bad) (OfDevice k' inside' same' before' bad') = grind (arith, one_number)
  one section cell section' cell' (OfDevice k inside same before bad) (OfMachine name same' valid is not) = absurd (bad (valid k inside))
  one section cell section' cell' (OfMachine name same valid is not) (OfCell k' c' before' d') = absurd (not_all k' c' d' same)
  one section cell section' cell' (OfMachine name same valid is not) (OfDevice k' inside same' before' bad) = absurd (bad (valid k' inside))
  one section cell section' cell' (OfMachine name same valid is not) (OfMachine name' same' valid' is' not') = (refl, refl)

pub one_lost : OneLostLaw
one_lost to new machine wanted there backs = record {
  never_both = λ section cell h l. never to new _ wanted there backs section cell h l;
  one = λ a b c d p q. one to new machine wanted there backs a b c d p q;
}

-- ---- the parts of a device, as the code walks over them by number

module _ (set : Set) (i : ℕ) (lt : i < length set.devices) where
  pub there : slice_get set.devices i ≡ Some (device_at set i)
  there = slice_get-get_or set.devices i _ lt

  module _ (well : is_well_formed set ≡ true) (n : List ℤ) (long : length n ≡ length (device_cells set (device_at set i))) where
    pub own_spot : HasSpot set (part_of set (parts.Device i)) n
    own_spot = search (arith, few_cells, own_inside_device)

    pub sub_spot : (j : ℕ) → j < length (device_at set i).subs → HasSpot set (part_of set (parts.Sub i j)) n
    sub_spot j less = search (arith, few_cells, sub_inside)

  pub settle_rest : (a b : Typed) (j : ℕ) → SettlesSub set i j a b → b ≡ record a { numbers = b.numbers }
  settle_rest a b j s = grind arith

-- ---- What is given, part by part.

module _ (set : Set) (i : ℕ) (lt : i < length set.devices) (image : Image) (long : length image.came ≡ length (device_at set i).subs)
    (version : image.version ≡ (device_at set i).desc.version) (partners : List (Option ℕ)) where
  abbrev dev : Device
  dev = device_at set i

  abbrev n : List ℤ
  n = image.numbers

  abbrev pub gives_to : ℕ → List ℤ → List ℤ
  gives_to j before = changed (give_step partners image.numbers) (steps_of (first_slots set (device_at set i) image.came j image.numbers)) before

  pub gave_own : (before : List ℤ) → changed (give_step partners n) (steps_of (spot_slots set (part_of set (parts.Device i)) n)) before ≡ gives_to 0 before
  gave_own before = rw (append-nil (own_slots set dev dev.desc.version n))

  one_is : (j : ℕ) (o : Option ℕ) → one_slots set (sub_at dev j) o n (part_place set dev j) ≡ sub_slots_at set i j o n
  one_is j o = grind arith

  pub gave_sub : (before now next : List ℤ) (j : ℕ) → j < length dev.subs → now ≡ gives_to j before
      → next ≡ changed (give_step partners n) (steps_of (part_slots set i j image)) now → next ≡ gives_to (j + 1) before
  gave_sub before now next j less e f =
      let o = get_or image.came j None in
      let at : slice_get dev.subs j ≡ Some (sub_at dev j) = slice_get-get_or dev.subs j _ less in
      let at' : slice_get image.came j ≡ Some (get_or image.came j None) = slice_get-get_or image.came j None (omega arith) in
      walk_next (give_step partners n) set dev image.came j (sub_at dev j) o n before now next at at' e (rw (one_is j o) f)

  pub gave_all : (before : List ℤ) (j : ℕ) → length dev.subs ≤ j → j ≤ length dev.subs
      → gives_to j before ≡ changed (give_step partners n) (steps_of (image_slots set dev image)) before
  gave_all before j end within = grind (arith, take_all)

-- ---- what is converted loads as the newer set's, and again

pub one_stands : OneBackLaw
one_stands to fit i d there partners numbers x y p q =
    let good = well_good to fit.well fit.heads in
    one_back to good.structs d (good.devices i d there) (λ j s e. good.subs i j d s there e) _ _ x y p q

pub back_stands : BackLaw
back_stands to new fit well i d e there numbers kinds image back =
    back_may to fit.well fit.heads i d there _ _ (device_paired to new fit.well well i d e there) _ kinds
    image back

-- what comes back of numbers of the right kinds: each image may be written, and is ready if all are valid
module _ (to new : Set) (fit : IsFit to) (well : WellFormed new) (compatible : Compatible to new) (wanted : List (List ℤ)) (backs : List Image)
    (all_back : AreBack to new wanted backs) (kinds : (k : ℕ) (e : Device) → slice_get new.devices k ≡ Some e → AreOfKinds (device_cells new e) (get_or wanted k []))
  where
    pub newer : (i : ℕ) (d : Device) → slice_get to.devices i ≡ Some d → Pair to new fit.well (all_in to new fit.well well compatible) i d
    newer i d there = pair to new fit.well (all_in to new fit.well well compatible) i d there

    pub may_be : (i : ℕ) (d : Device) (image : Image) → slice_get to.devices i ≡ Some d → slice_get backs i ≡ Some image → MayBeWritten to d image
    may_be i d image there at =
        let n = newer i d there in
        back_stands to new fit well i d n.device there (get_or wanted n.number []) (kinds n.number n.device n.stands) image
        (all_back.each i n.number d n.device image (record { in_old = there; found = n.found; in_new = n.stands }) at)

    pub ready_if : ((k : ℕ) → k < length new.devices → IsValidAt to new backs k) → AreReady to backs
    ready_if valid = record {
      one_each = all_back.one_each;
      ready = λ i d image there at.
          let n = newer i d there in
          let may = may_be i d image there at in
          record {
            normal = may.normal;
            valid = valid n.number (slice_get_within new.devices n.number n.device n.stands) i d n.device image n.stands
                (back to new fit.well (all_in to new fit.well well compatible) i d there n) there at;
            version = may.version;
            needed = may.needed;
          };
    }

-- recast twice
twice : (to : Set) (e : Device) (numbers : List ℤ) → recast to e (recast to e numbers) ≡ recast to e numbers
twice to e numbers = grind (arith, recast_twice)

each_twice : (to : Set) (devices : List Device) (lists : List (List ℤ)) → recast_each to devices (recast_each to devices lists) ≡ recast_each to devices lists
each_twice to (e ∷ devices) (numbers ∷ lists) = rw (twice to e numbers, each_twice to devices lists)
each_twice to _ _ = refl

-- ---- one stream

module _ (to new : Set) (fit : IsFit to) (well : WellFormed new) (compatible : Compatible to new) where
  -- the images that come back of the same numbers are the same
  pub same_backs : (wanted : List (List ℤ)) (xs ys : List Image) → AreBack to new wanted xs → AreBack to new wanted ys → ys ≡ xs
  same_backs wanted xs ys p q =
      same_lists ys xs (omega arith) (λ i lt. each i (omega arith) (omega arith) (omega arith))
    where
      each : (i : ℕ) → i < length to.devices → i < length ys → i < length xs → slice_get ys i ≡ slice_get xs i
      each i a b c =
          let d = some_at to.devices i a in
          let y = some_at ys i b in
          let x = some_at xs i c in
          let newer = pair to new fit.well (all_in to new fit.well well compatible) i d.0 d.1 in
          let is : IsPairAt to new i newer.number d.0 newer.device = record { in_old = d.1; found = newer.found; in_new = newer.stands } in
          let one =
          one_stands to fit i d.0 d.1 (device_partners to new d.0 newer.device) (get_or wanted newer.number []) x.0 y.0
          (p.each i newer.number d.0 newer.device x.0 is x.1) (q.each i newer.number d.0 newer.device y.0 is y.1) in
          y.1 ∙ ap (λ (image : Image). Some image) one ∙ sym x.1

  module _ (describe : List Image → List ℕ) (short : (backs : List Image) → length (describe backs) ≤ longest_text) (machine : Option (List ℕ))
      (images : List Image) (kinds : AreRecastOf to new images) (bytes : List ℕ) (converted : IsConverted to new describe machine images bytes) where
    abbrev backs : List Image
    backs = converted.backs

    abbrev wanted : List (List ℤ)
    wanted = recast_each to new.devices (numbers_in images)

    pub ready : AreReady to backs
    ready = ready_if to new fit well compatible wanted backs converted.back kinds converted.keeps.valid

    pub converts_stand : Converts to new describe machine images bytes
    converts_stand =
        let keeps = converted.keeps in
        let text = describe backs in
        let wanted_is : recast_each to new.devices (numbers_in (carried to new backs)) ≡ wanted = rw (← keeps.cells) (each_twice to _ _) in
        let stream = upgrade_stands to new fit.well well compatible machine (Some text) backs keeps.machine_is (short backs) ready in
        record {
          loaded = carried to new backs;
          text = text;
          stream = subst (λ b. IsWholeStream new new.machines b machine (carried to new backs) (Some text)) (sym converted.is) stream;
          cells = sym keeps.cells;
          again = record {
            backs = backs;
            back = rw wanted_is converted.back;
            keeps = rw wanted_is keeps;
            is = converted.is;
          };
          one = λ others again.
              let one = same_backs wanted backs _ converted.back (rw wanted_is at again.back) in
              again.is ∙ ap (λ (b : List Image). written to machine b (Some (describe b))) one ∙ sym converted.is;
        }

-- ---- One device brought to the older set and back.

module _ (to new : Set) (fit : IsFit to) (well : WellFormed new) (i k : ℕ) (d e : Device) (at_i : slice_get to.devices i ≡ Some d)
    (at_k : slice_get new.devices k ≡ Some e) where
  abbrev ps : List (Option ℕ)
  ps = device_partners to new d e

  -- what its partners are given from defaults on is what is carried
  pub given_carried : (numbers : List ℤ) (image : Image) → IsBack to d ps numbers image
      → gives ps image.numbers (image_slots to d image) (map (λ c. c.default) (device_cells new e)) ≡ (carried_device to new d e image).numbers
  given_carried numbers image back =
      carried_stands to new fit.well well i k d e at_i at_k image (back_versions to d ps _ image back)
      (gives ps image.numbers (image_slots to d image) (map (λ (c : Cell). c.default) (device_cells new e)))
      (given_all to new d e image (device_paired to new fit.well well i d e at_i))

-- ---- as the calls have it

-- the older device i and the newer k, of whose numbers an image of the older is made
pub record IsReturning (to new : Set) (i k : ℕ) (source : List ℤ) : Type 0 where
  pub fit : IsFit to
  pub well : WellFormed new
  pub device : i < length to.devices
  pub other : k < length new.devices
  pub kinds : AreOfKinds (device_cells new (device_at new k)) source

module _ (to new : Set) (i k : ℕ) (source : List ℤ) (p : IsReturning to new i k source) (partners : List (Option ℕ))
    (partners_are : partners ≡ device_partners to new (device_at to i) (device_at new k)) where
  abbrev d : Device
  d = device_at to i

  abbrev e : Device
  e = device_at new k

  abbrev theirs : List (Option ℕ)
  theirs = device_partners to new (device_at to i) (device_at new k)

  paired : ArePartners (device_cells to d) (device_cells new e) (device_partners to new d e)
  paired = device_paired to new p.fit.well p.well i d e (there to i p.device)

  kind_at : (cells : List Cell) (c : ℕ) → get_or (map (λ c. c.kind) cells) c U8 ≡ (get_or cells c no_cell).kind
  kind_at cells c = get_or-map (λ (c : Cell). c.kind) cells c no_cell

  -- the numbers of the newer device may be taken
  pub sources_of : AreSources (kinds_at to i) source partners
  sources_of = rw partners_are (record {
    long = cc (length-map (device_cells to d) (λ (c : Cell). c.kind), paired.long);
    inside = λ c j f. omega (arith, (paired.kinds c j (at_get theirs c j f)).0, p.kinds.long);
    in_range = λ c j f. (let h = paired.kinds c j (at_get theirs c j f) in rw (kind_at (device_cells to d) c, h.1) (p.kinds.in_range j h.0));
  })

  module _ (image : Typed) (back : IsBack to (device_at to i) partners source (state_of image)) where
    pub back_of : IsBack to d (device_partners to new d e) source (state_of image)
    back_of = rw (← partners_are) back

    module _ (carried : Typed) (fresh : carried ≡ default_at new k) where
      -- those of the older device's image may be given
      pub targets_of : AreTargets carried.kinds image.numbers partners
      targets_of =
          let fits = (back_stands to new p.fit p.well i d e (there to i p.device) source p.kinds (state_of image) back_of).normal.cells in
          rw (partners_are, fresh) (record {
            long = omega (arith, fits.long, paired.long);
            inside = λ c j f. omega (arith, (paired.kinds c j (at_get theirs c j f)).0, length-map (device_cells new e) (λ (c : Cell). c.kind));
            in_range = λ c j f.
                let g = at_get theirs c j f in
                rw (kind_at (device_cells new e) j, ← (paired.kinds c j g).1)
                (fits.fits c (omega (arith, slice_get_within theirs c (Some j) g, paired.long))).0;
          })

      module _ (target : Typed)
          (changes : Changes (give_step partners image.numbers) (steps_of (image_slots to (device_at to i) (state_of image))) carried target) where
        pub given_long : length source ≡ length target.numbers
        given_long =
            rw (changes, steps_long partners image.numbers (steps_of (image_slots to d (state_of image))) _, fresh)
            (omega (arith, length-map (device_cells new e) (λ (c : Cell). c.default)))

        pub given_is : target.numbers ≡ (carried_device to new d e (state_of image)).numbers
        given_is = rw (changes, partners_are, fresh) (given_carried to new p.fit p.well i k d e (there to i p.device) (there new k p.other) source _ back_of)

-- ---- The answers of the call, from those of its parts.

module _ (to new : Set) (name : Option (List ℕ)) (images backs : List Image)
    (back : AreBack to new (recast_each to new.devices (numbers_in images)) backs) where
  module _ (m : Option ℕ)
      (h : Judges to new name (recast_each to new.devices (numbers_in images)) (numbers_in (carried to new backs)) backs (Ok m)) where
    streams : IsStreamFor to new name images (stream_of to (at_option to.machines m) backs)
    streams = record { backs = backs; back = back; keeps = h.0; is = rw (h.1.is) }

    pub puts_kept : (ArePut : List ℕ → Type 0) → ArePut (stream_of to (at_option to.machines m) backs) → PutsStream to new name images ArePut
    puts_kept ArePut p = record { bytes = stream_of to (at_option to.machines m) backs; is = streams; puts = p }
