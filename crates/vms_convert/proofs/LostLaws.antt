-- What is lost first, from what is found of each of the older set's devices.
use Rattle.vms_convert.proofs.Converts.{there, newest_kinds, port_cells, port_is, recast_at}
use Rattle.vms_convert.proofs.Facade
use Facade.{◌≡◌, ℕ, ◌+◌, ◌<◌, Bool, true, false, nat_lt, List, [], ◌∷◌, ◌++◌, length, get_or, map, Option, Some, None, ℤ, refl, sym}
use Facade.{ap, ◌∙◌, arith, if◌then◌else◌, get_or-append_seam, ltb-true, ltb-false, get_or_append_left, length-map, get_or_from_slice_get}
use Facade.{slice_get-get_or, slice_get_within, slice_get, take_all, length-append, ◌≤◌, slice_set, take, map-append, take_more_set, back, Device, Set}
use Facade.{Image, find_device, index, WellFormed, device_at, device_is, carried, carried_at, carried_device, no_image, Compatible, found_device, pair, all_in}
use Facade.{at_map, DifferAt, Loses, OfCell, numbers_in, FirstDifference, ArePaired, IsFirstLost, IsLostCell, carried_of, LostCell, IsBack, device_partners}
use Facade.{default_image, Typed, state_of, AreImagesOf, default_at, typed, IsReturned, AreReturnedTo, AreReturned, IsRecastFor, kinds_at, recast, AreFresh}
use Facade.{AreRoutes, IsRoute, Route, first, newest_set, AreKept, kinds, recast_each, at_other, IsImageOf, Older, older, ext_get_or}
use Rattle.vms_convert.proofs.HasBack.{extend, appended}
use Rattle.vms_convert.specs.Returns.{IsEarlier}
use Rattle.std.proofs.lemmas.List.{length-set}

abbrev pub no_device : Device
no_device = device_at (record { machines = []; structs = []; devices = [] }) 0

module _ (to new : Set) (wanted : List (List ℤ)) where
  same_partner : (i k l : ℕ) → ArePaired to new i k → ArePaired to new i l → k ≡ l
  same_partner i k l p q = cc

  module _ (backs : List Image) (x : Image) (n k : ℕ) (long : length backs ≡ n) (pair : ArePaired to new n k) where
    abbrev more : List Image
    more = backs ++ x ∷ []

    abbrev Gives : ℕ → ℕ → Type 0
    Gives i l = get_or wanted l [] ≡ carried_of to new more i l

    -- what this device gives to the newer one
    abbrev gives : List ℤ
    gives = (carried_device to new (device_at to n) (device_at new k) x).numbers

    at_front : (i l : ℕ) → i < n → carried_of to new more i l ≡ carried_of to new backs i l
    at_front i l lt = rw (get_or_append_left backs (x ∷ []) (no_image to new) i (omega arith))

    at_end : (l : ℕ) → carried_of to new more n l ≡ (carried_device to new (device_at to n) (device_at new l) x).numbers
    at_end l = grind (arith, get_or-append_seam)

    -- what the devices before give, and this one
    upto : (l : ℕ) → ((i : ℕ) → i < n → ArePaired to new i l → get_or wanted l [] ≡ carried_of to new backs i l) → (ArePaired to new n l → Gives n l)
        → (i : ℕ) → i < n + 1 → ArePaired to new i l → Gives i l
    upto l front end i lt = grind (arith, extend, at_front)

    -- this device gives all its numbers
    end_gives : get_or wanted k [] ≡ gives → (l : ℕ) → ArePaired to new n l → Gives n l
    end_gives e l p = rw (← same_partner n k l pair p, at_end k) e

    still : (l : LostCell) → IsLostCell to new wanted n backs l → ((j : ℕ) → j < l.device → ArePaired to new n j → Gives n j)
        → IsLostCell to new wanted (n + 1) more l
    still l h end = search (arith, at_front, upto)

    lost_here : (c : ℕ) → DifferAt (get_or wanted k []) gives c
        → ((i j : ℕ) → i < n → j < k → ArePaired to new i j → get_or wanted j [] ≡ carried_of to new backs i j)
        → IsLostCell to new wanted (n + 1) more (record { device = k; cell = c })
    lost_here c differs before = search (arith, at_end, upto, same_partner)

    all_given : (known : Option LostCell) → IsFirstLost to new wanted n backs known → get_or wanted k [] ≡ gives
        → IsFirstLost to new wanted (n + 1) more known
    all_given known h e = grind (arith, upto, end_gives, still)

    earlier_of : (l : LostCell) (c : ℕ) → IsLostCell to new wanted n backs l → DifferAt (get_or wanted k []) gives c
        → (b : Bool) → nat_lt l.device k ≡ b → IsFirstLost to new wanted (n + 1) more (if b then Some l else Some (record { device = k; cell = c }))
    earlier_of l c h differs true e = still l h (λ j less p. absurd (omega (arith, ltb-true l.device k e, same_partner n k j pair p)))
    earlier_of l c h differs false e = lost_here c differs (λ i j lt less p. h.before i j lt (omega (arith, ltb-false l.device k e)) p)

    pub lost_next : (known : Option LostCell) (cell : Option ℕ) (next : Option LostCell) → IsFirstLost to new wanted n backs known
        → FirstDifference (get_or wanted k []) gives cell → IsEarlier known k cell next → IsFirstLost to new wanted (n + 1) more next
    lost_next known cell next h e is = grind (arith, all_given, lost_here, earlier_of)

module _ (to new : Set) (well_to : WellFormed to) (well_new : WellFormed new) (compatible : Compatible to new) where
  pub older_pair : (k : ℕ) (e : Device) (at : slice_get new.devices k ≡ Some e) (o : Older to new well_to well_new compatible k e) → ArePaired to new o.i k
  older_pair k e at o =
      let d_is = device_is to o.i o.d o.stands in
      let e_is = device_is new k e at in
      record {
        in_old = o.stands ∙ ap (λ (d : Device). Some d) (sym d_is);
        found = rw d_is (o.back);
        in_new = cc;
      }

  module _ (backs : List Image) where
    abbrev given : List (List ℤ)
    given = numbers_in (carried to new backs)

    pub there_is : (k : ℕ) (e : Device) (at : slice_get new.devices k ≡ Some e) (o : Older to new well_to well_new compatible k e) → get_or given k [] ≡ carried_of to new backs o.i k
    unfolding carried
    there_is k e at o =
        let carry : Device → Image =
        λ e. (let found = find_device 0 to.devices e.desc.name e.instance in carried_at to new backs e found (slice_get to.devices (index found))) in
        let image = carry e in
        let stands = at_map (λ (image : Image). image.numbers) (map carry new.devices) k image (at_map carry new.devices k e at) in
        rw (get_or_from_slice_get given k _ [] stands, o.found, o.stands, device_is to o.i o.d o.stands, device_is new k e at)

    pub there_long : length given ≡ length new.devices
    unfolding carried
    there_long = length-map (carried to new backs) (λ (image : Image). image.numbers) ∙ length-map new.devices _

    module _ (wanted : List (List ℤ)) (long : length wanted ≡ length new.devices) where
      -- what the older device of its name carries of a device is all of it
      known : (k : ℕ) → k < length new.devices
          → ((i : ℕ) → i < length to.devices → ArePaired to new i k → get_or wanted k [] ≡ carried_of to new backs i k)
          → get_or wanted k [] ≡ get_or given k []
      known k lt h =
          let at : slice_get new.devices k ≡ Some (device_at new k) = slice_get-get_or new.devices k no_device lt in
          let o = older to new well_to well_new compatible k (device_at new k) at in
          h o.i (slice_get_within to.devices o.i o.d o.stands) (older_pair k (device_at new k) at o) ∙ sym (there_is k (device_at new k) at o)

      -- nothing is lost of the cells
      pub all_carried : IsFirstLost to new wanted (length to.devices) backs None → wanted ≡ given
      all_carried h = ext_get_or [] wanted given (long ∙ sym there_long) (λ k lt. known k (omega arith) (λ i inside p. h i k inside p))

      -- this cell is lost first
      pub cell_lost : (machine : Option (List ℕ)) (l : LostCell) → IsFirstLost to new wanted (length to.devices) backs (Some l)
          → Loses to new machine wanted given backs (Some l.device) (Some l.cell)
      cell_lost machine l h = OfCell l.device l.cell before differ where
        within : l.device < length new.devices
        within = slice_get_within new.devices l.device (device_at new l.device) h.pair.in_new

        before : (k : ℕ) → k < l.device → get_or wanted k [] ≡ get_or given k []
        before k less = known k (omega (arith, within)) (λ i inside p. h.before i k inside less p)

        differ : DifferAt (get_or wanted l.device []) (get_or given l.device []) l.cell
        differ =
            let at = h.pair.in_new in
            let o = older to new well_to well_new compatible _ (device_at new l.device) at in
            let all = all_in to new well_to well_new compatible in
            let p = pair to new well_to all h.i (device_at to h.i) h.pair.in_old in
            let number : p.number ≡ l.device = cc (p.found, h.pair.found) in
            let device : p.device ≡ device_at new l.device = cc (p.stands, at) in
            let same : o.i ≡ h.i = cc (o.found, rw device at (back to new well_to all h.i (device_at to h.i) h.pair.in_old p)) in
            rw (there_is _ (device_at new l.device) at o, same) h.differs

-- ---- One device more is brought to the older set.

module _ (to new : Set) (wanted : List (List ℤ)) where
  pub returned_next : (n k : ℕ) (images : List Typed) (lost next : Option LostCell) (x : Typed) (cell : Option ℕ) → AreReturnedTo to new wanted n images lost
      → ArePaired to new n k
      → IsReturned to new n k (get_or wanted k []) x cell → IsEarlier lost k cell next → AreReturnedTo to new wanted (n + 1) (images ++ x ∷ []) next
  returned_next n k images lost next x cell h pair is earlier =
      let all = map state_of images in
      let states : map state_of (images ++ x ∷ []) ≡ all ++ state_of x ∷ [] = map-append state_of images (x ∷ []) in
      let long : length all ≡ n = cc (length-map images state_of) in
      record {
        count = omega (arith, length-append images (x ∷ []));
        of = appended (IsImageOf to) images x n h.count h.of is.of;
        back = λ i l image p e.
            appended (λ i image. (l : ℕ) → ArePaired to new i l
            → IsBack to (device_at to i) (device_partners to new (device_at to i) (device_at new l)) (get_or wanted l []) image) all (state_of x) n long
            (λ i image e l p. h.back i l image p e) (λ l p. (let same : k ≡ l = cc in rw (← same) is.back)) i image (rw states at e) l p;
        first_lost = rw states (lost_next to new wanted all (state_of x) n k long pair lost cell next h.first_lost is.lost earlier);
      }

-- the newest set's device of a name
pub pair_found : (to new : Set) (i k : ℕ) → i < length to.devices → find_device 0 new.devices (device_at to i).desc.name (device_at to i).instance ≡ Some k
    → ArePaired to new i k
pair_found to new i k lt found =
    let f = found_device new.devices (device_at to i).desc.name (device_at to i).instance k found in
    record { in_old = there to i lt; found = found; in_new = there new k (slice_get_within new.devices k f.device f.stands) }

pub always_found : (to new : Set) → WellFormed to → WellFormed new → Compatible to new → (i : ℕ) → i < length to.devices
    → find_device 0 new.devices (device_at to i).desc.name (device_at to i).instance ≡ None → ⊥
always_found to new well_to well_new compatible i lt none =
    let p = pair to new well_to (all_in to new well_to well_new compatible) i (device_at to i) (there to i lt) in cc (none, p.found)

-- ---- Routes and images before the input is read, and while devices are brought to the older set.

module _ (to new : Set) where
  pub route_more : (n : ℕ) (routes : List Route) (r : Route) → AreRoutes to new n routes → IsRoute to new n r.other r
      → AreRoutes to new (n + 1) (routes ++ r ∷ [])
  route_more n routes r h is = record {
    count = omega (arith, length-append routes (r ∷ []));
    each = appended (λ i x. IsRoute to new i x.other x) routes r n h.count h.each is;
  }

pub fresh_of : (set : Set) (images : List Typed) → map state_of images ≡ map (default_image set) set.devices → AreImagesOf set images → AreFresh set images
fresh_of set images states of = record {
  count = of.one_each;
  each = λ i image at.
      let lt : i < length set.devices = omega (arith, slice_get_within images i image at) in
      let same : state_of image ≡ default_image set (device_at set i) =
      cc (rw states at (at_map state_of images i image at), at_map (default_image set) set.devices i (device_at set i) (there set i lt)) in
      rw ((of.each i image at).kinds) (ap (typed (kinds_at set i)) same);
}

-- the first n devices have been brought, and all others not
pub record Midway (to new : Set) (wanted : List (List ℤ)) (n : ℕ) (routes : List Route) (images : List Typed) (lost : Option LostCell) : Type 0 where
  pub long : length images ≡ length to.devices
  pub as_long : length routes ≡ length to.devices
  pub routes_are : (i : ℕ) (r : Route) → n ≤ i → slice_get routes i ≡ Some r → IsRoute to new i r.other r
  pub fresh : (i : ℕ) (image : Typed) → n ≤ i → slice_get images i ≡ Some image → image ≡ default_at to i
  pub brought : AreReturnedTo to new wanted n (take n images) lost

set_above : {A : Type 0} (xs : List A) (n i : ℕ) (x y : A) → n < i → slice_get (slice_set xs n x) i ≡ Some y → slice_get xs i ≡ Some y
set_above xs n i x y lt e = cc (at_other xs n i x (λ same. absurd (omega arith)))

module _ (to new : Set) (wanted : List (List ℤ)) where
  pub midway_first : (routes : List Route) (images : List Typed) → AreRoutes to new (length to.devices) routes → AreFresh to images
      → Midway to new wanted 0 routes images None
  midway_first routes images r f = record {
    long = f.count;
    as_long = r.count;
    routes_are = λ i x le e. r.each i x e;
    fresh = λ i x le e. f.each i x e;
    brought = record { count = refl; of = λ i image e. absurd (cc); back = λ i k image p e. absurd (cc); first_lost = λ i k lt. absurd (omega arith) };
  }

  pub midway_next : (n k : ℕ) (routes : List Route) (images : List Typed) (lost next : Option LostCell) (route : Route) (image : Typed) (cell : Option ℕ)
      → Midway to new wanted n routes images lost → n < length to.devices → ArePaired to new n k
      → IsReturned to new n k (get_or wanted k []) image cell → IsEarlier lost k cell next
      → Midway to new wanted (n + 1) (slice_set routes n route) (slice_set images n image) next
  midway_next n k routes images lost next route image cell m lt pair is earlier = record {
    long = cc (length-set images n image);
    as_long = cc (length-set routes n route);
    routes_are = λ i x le e. m.routes_are i x (omega arith) (set_above routes n i route x (omega arith) e);
    fresh = λ i x le e. m.fresh i x (omega arith) (set_above images n i image x (omega arith) e);
    brought = rw (take_more_set images n image (omega arith)) (returned_next to new wanted n k _ lost next image cell m.brought pair is earlier);
  }

  pub midway_last : (n : ℕ) (routes : List Route) (images : List Typed) (lost : Option LostCell) → Midway to new wanted n routes images lost
      → n ≡ length to.devices → AreReturned to new wanted images lost
  midway_last n routes images lost m all = let whole : take n images ≡ images = take_all n images (omega arith) in rw (← all, ← whole) m.brought

-- ---- The numbers of a device of the newest set that a loader keeps, as they are brought to an older set.

four_kinds : kinds_at newest_set 4 ≡ kinds 4
unfolding first
four_kinds = refl

module _ (to new : Set) (is : new ≡ newest_set) (images : List Image) (kept : AreKept new images) (k : ℕ) (lt : k < length new.devices) (image : Image)
    (at : slice_get images k ≡ Some image) where
  abbrev wanted : List (List ℤ)
  wanted = recast_each to new.devices (numbers_in images)

  pub wanted_is : get_or (recast_each to new.devices (numbers_in images)) k [] ≡ recast to (device_at new k) image.numbers
  wanted_is = grind (arith, recast_at, at_map)

  pub recast_for : IsRecastFor to new k image.numbers
  recast_for = record {
    inside = lt;
    kinds = rw (← wanted_is) (newest_kinds to new is images kept k (device_at new k) (there new k lt));
    port = λ port.
        let four : k ≡ 4 = port_is k (rw is at lt) (rw is at port) in
        (rw (is, four) four_kinds, port_cells images (rw is at kept) k image four at);
  }
