-- What was found of the devices, as the relations say it; of each state something comes back, and
-- all is kept or something is lost first.
use Rattle.vms_convert.proofs.{BackNormal.gives_long, HasBack.Made, HasBack.made, HasBack.extend, HasBack.has_back}
use Rattle.vms_convert.proofs.Converts.{may_be, ready_if, given_carried, newest_kinds, recast_long}
use Rattle.vms_convert.proofs.Facade
use Facade.{◌≡◌, ℕ, ◌<◌, List, [], ◌∷◌, length, get_or, map, Option, Some, None, Result, Ok, Err, ℤ, refl, sym, ◌∙◌, arith}
use Facade.{length-map, slice_get-get_or, slice_get_within, slice_get, IsFit, Device, Set, Image, Cell, device_cells, find_device, newest_set, AreReady}
use Facade.{IsReady, WellFormed, device_at, IsNameAt, device_is, Typed, state_of, shipped_holds, AreKept, name_of, device_below, carried, Compatible}
use Facade.{AreOfKinds, back, pair, all_in, AreBack, recast_each, AreWritable, FirstInvalid, Judges, KeepsMachine, KeepsName, first_cell_at, first_of}
use Facade.{IsValidAt, Loses, OfDevice, OfMachine, first_cell, numbers_in, AreReturned, IsFirstLost, Loss, LostCell, ext_get_or, ◌⊎◌, inl, inr, zero, suc}
use Facade.{Bool, true, false, pos, Slot, Rule, RulesHold, image_slots, is_one_of, no_image, older, device_partners, IsBack, IsPairAt, AnswerLaw, DifferAt}
use Facade.{KeepsAll, OfCell}
use Rattle.vms_convert.proofs.LostLaws.{all_carried, cell_lost, no_device, older_pair, there_is, there_long}

-- ---- one device

-- the search by a name and an instance that are those of a device
pub searched_by : (devices : List Device) (d here : Device) (name : List ℕ) (found : Option ℕ) → here ≡ d → name ≡ here.desc.name
    → found ≡ find_device 0 devices name here.instance → find_device 0 devices d.desc.name d.instance ≡ found
searched_by devices d here name found same named is = rw (← same, ← named) (sym is)

module _ (to new : Set) (images : List Typed) (writable : AreWritable to images) (k : ℕ) where
  abbrev all : List Image
  all = map state_of images

  -- the image that the older set has of it is ready, or isn't
  pub valid_of : (i : ℕ) (image : Typed) → find_device 0 to.devices (device_at new k).desc.name (device_at new k).instance ≡ Some i
      → slice_get all i ≡ Some (state_of image) → IsReady to (device_at to i) (state_of image) → IsValidAt to new all k
  valid_of i image found at ready j d e back in_new found' in_old at' = grind (arith, device_is)

  pub invalid_of : (i : ℕ) (image : Typed) → k < length new.devices → find_device 0 to.devices (device_at new k).desc.name (device_at new k).instance ≡ Some i
      → i < length to.devices → slice_get all i ≡ Some (state_of image) → (IsReady to (device_at to i) (state_of image) → ⊥) → IsValidAt to new all k → ⊥
  invalid_of i image lt found inside at not valid =
      let there : slice_get to.devices i ≡ Some (device_at to i) = slice_get-get_or to.devices i no_device inside in
      let may = writable.may i (device_at to i) (state_of image) there at in
      not (record {
        normal = may.normal;
        valid = valid i (device_at to i) (device_at new k) (state_of image) (slice_get-get_or new.devices k no_device lt) found there at;
        version = may.version;
        needed = may.needed;
      })

  pub valid_none : find_device 0 to.devices (device_at new k).desc.name (device_at new k).instance ≡ None → IsValidAt to new all k
  valid_none none j d e back in_new found in_old at = let e_is = device_is new k e in_new in cc

-- a machine that is found by its name
pub keeps_machine : (to new : Set) (names : List (List ℕ)) (name : List ℕ) (k own : ℕ) → names ≡ to.machines → name ≡ get_or new.machines k []
    → IsNameAt names name (Some own) → KeepsName to (name_of new (Some k)) (Some own)
keeps_machine to new names name k own names_are name_is h = search (arith, slice_get-get_or)

-- ---- the answer, of what comes back of the images that a loader of the newest set keeps

module _ (to : Set) (images : List Typed) (writable : AreWritable to images) (name : List ℕ) (instance own : ℕ)
    (found : find_device 0 to.devices name instance ≡ Some own) where
  pub own_bound : own < length images
  own_bound = omega (arith, device_below to.devices name instance own found)

-- what is first invalid of images in the newest set, as it is named elsewhere
pub invalid_by : (to new : Set) (images : List Typed) (s : Set) (o found : Option ℕ) → s ≡ new → FirstInvalid to s (map state_of images) found → found ≡ o
    → FirstInvalid to new (map state_of images) o
invalid_by to new images s o found set_is h same = rw (← same, ← set_is) h

same_first : (numbers : List ℤ) (cells : List Cell) → length numbers ≡ length cells → first_cell numbers ≡ first_of cells
same_first numbers cells e = grind arith

-- images that a loader of the newest set keeps, and what comes back of them
pub record ComesBack (to new : Set) (images : List Image) (typed : List Typed) (lost : Option LostCell) : Type 0 where
  pub fit : IsFit to
  pub newest : new ≡ newest_set
  pub compatible : Compatible to new
  pub kept : AreKept new images
  pub returned : AreReturned to new (recast_each to new.devices (numbers_in images)) typed lost

module _ (to new : Set) (images : List Image) (typed : List Typed) (lost : Option LostCell) (p : ComesBack to new images typed lost) where
  abbrev wants : List (List ℤ)
  wants = recast_each to new.devices (numbers_in images)

  abbrev states : List Image
  states = map state_of typed

  abbrev given : List (List ℤ)
  given = numbers_in (carried to new states)

  well : WellFormed new
  well = rw p.newest shipped_holds.1.1.1.1.0.well

  long : length wants ≡ length new.devices
  long = recast_long to new.devices (numbers_in images) (length-map images (λ (image : Image). image.numbers) ∙ p.kept.one_each)

  kinds : (k : ℕ) (e : Device) → slice_get new.devices k ≡ Some e → AreOfKinds (device_cells new e) (get_or wants k [])
  kinds = newest_kinds to new p.newest images p.kept

  pub backs_are : AreBack to new wants states
  backs_are = record {
    one_each = cc (length-map typed state_of, p.returned.count);
    each = λ i k d e image q at.
        let d_is = device_is to i d q.in_old in
        let e_is = device_is new k e q.in_new in
        rw (← d_is, ← e_is) (p.returned.back i k image (rw (d_is, e_is) q) at);
  }

  pub writable_back : AreWritable to typed
  writable_back = record {
    count = p.returned.count;
    of = p.returned.of;
    may = may_be to new p.fit well p.compatible wants states backs_are kinds;
  }

  pub ready_back : ((k : ℕ) → k < length new.devices → IsValidAt to new states k) → AreReady to states
  ready_back valid = ready_if to new p.fit well p.compatible wants states backs_are kinds valid

  first_lost : (found : Option LostCell) → lost ≡ found → IsFirstLost to new wants (length to.devices) states found
  first_lost found same = rw (← same) p.returned.first_lost

  pub cell_first : (name : Option (List ℕ)) (l : LostCell) → lost ≡ Some l → Loses to new name wants given states (Some l.device) (Some l.cell)
  cell_first name l same = cell_lost to new p.fit.well well p.compatible states wants long name l (first_lost _ same)

  kept_cells : lost ≡ None → wants ≡ given
  kept_cells same = all_carried to new p.fit.well well p.compatible states wants long (first_lost None same)

  pub device_first : (name : Option (List ℕ)) → lost ≡ None → (k : ℕ) → FirstInvalid to new states (Some k)
      → Loses to new name wants given states (Some k) (first_cell_at new k)
  device_first name same k h =
      let cell : first_cell (get_or wants k []) ≡ first_cell_at new k =
      same_first _ _ (kinds k (device_at new k) (slice_get-get_or new.devices k no_device h.0)).long in
      rw (← cell) (OfDevice k h.0 (kept_cells same) h.1 h.2)

  pub machine_last : (name : Option (List ℕ)) → lost ≡ None → FirstInvalid to new states None → (m : Result (Option ℕ) Loss) → KeepsMachine to name m
      → Judges to new name wants given states m
  machine_last name same valid (Ok m) h = (record { cells = kept_cells same; valid = valid; machine_is = h.one }, h)
  machine_last name same valid (Err loss) h = rw h.loss_is (OfMachine h.which (kept_cells same) valid h.is h.none)

-- ---- of each state of the newer set something comes back, and either all is kept or something is lost first

-- ---- the first index at which something doesn't hold

record FirstBad (P Bad : ℕ → Type 0) (n : ℕ) : Type 0 where
  k : ℕ
  inside : k < n
  before : (i : ℕ) → i < k → P i
  bad : Bad k

first_bad : (P Bad : ℕ → Type 0) (n : ℕ) → ((i : ℕ) → i < n → P i ⊎ Bad i) → ((i : ℕ) → i < n → P i) ⊎ FirstBad P Bad n
first_bad P Bad zero either = inl (λ i lt. absurd (omega arith))
first_bad P Bad (suc n) either = elim (first_bad P Bad n (λ i lt. either i (omega arith))) [
  | inr b ↦ inr (record { k = b.k; inside = omega arith; before = b.before; bad = b.bad })
  | inl f ↦ elim (either n (omega arith)) [
    | inl h ↦ inl (extend P n f h)
    | inr bad ↦ inr (record { k = n; inside = omega arith; before = f; bad = bad })
  ]
]

same_or_not : (x y : ℤ) → (x ≡ y) ⊎ (x ≡ y → ⊥)
same_or_not x y = grind arith

first_differ : (xs ys : List ℤ) → length xs ≡ length ys → (xs ≡ ys) ⊎ ((c : ℕ) × DifferAt xs ys c)
first_differ xs ys long =
    elim (first_bad (λ c. get_or xs c (pos 0) ≡ get_or ys c (pos 0)) (λ c. get_or xs c (pos 0) ≡ get_or ys c (pos 0) → ⊥) (length xs)
    (λ c lt. same_or_not (get_or xs c (pos 0)) (get_or ys c (pos 0)))) [
      | inl f ↦ inl (ext_get_or (pos 0) xs ys long f)
      | inr b ↦ inr (b.k, record { inside = b.inside; before = b.before; other = b.bad })
    ]

-- ---- the first device that isn't valid

either_valid : (slots : List Slot) → RulesHold slots ⊎ (RulesHold slots → ⊥)
either_valid [] = inl tt
either_valid (Rule false ∷ slots) = inr (λ h. (let e : false ≡ true = h.0 in cc))
either_valid (Rule true ∷ slots) = grind (arith, either_valid slots)
either_valid (_ ∷ slots) = either_valid slots

module _ (to new : Set) (fit : IsFit to) (well : WellFormed new) (compatible : Compatible to new) where
  abbrev IsBackAt : List (List ℤ) → ℕ → Image → Type 0
  IsBackAt wanted i image = (k : ℕ) (d e : Device) → IsPairAt to new i k d e → IsBack to d (device_partners to new d e) (get_or wanted k []) image

  backs_of : (wanted : List (List ℤ)) → Made (λ backs i image. IsBackAt wanted i image) (length to.devices)
  backs_of wanted = made (λ backs i image. IsBackAt wanted i image) (length to.devices) (λ xs x i y lt p. p) next (length to.devices) (omega arith) where
    next : (xs : List Image) → length xs < length to.devices → (image : Image) × IsBackAt wanted (length xs) image
    next xs lt =
        let n = length xs in
        let there : slice_get to.devices n ≡ Some (device_at to n) = slice_get-get_or to.devices n no_device lt in
        let newer = pair to new fit.well (all_in to new fit.well well compatible) n (device_at to n) there in
        let one = has_back to fit n (device_at to n) there (device_partners to new (device_at to n) newer.device) (get_or wanted newer.number []) in (
          one.image,
          λ k d e p.
              let d_is : device_at to n ≡ d = cc (there, p.in_old) in
              let found : find_device 0 new.devices d.desc.name d.instance ≡ Some newer.number = rw (← d_is) newer.found in
              let k_is : newer.number ≡ k = cc (found, p.found) in
              let e_is : newer.device ≡ e = cc (newer.stands, p.in_new) in
              rw (← d_is, ← e_is, ← k_is) one.is_back,
        )

  -- ---- which of them are valid

  either_at : (backs : List Image) → length backs ≡ length to.devices → (k : ℕ) → k < length new.devices
      → IsValidAt to new backs k ⊎ (IsValidAt to new backs k → ⊥)
  either_at backs long k lt =
      let at_k : slice_get new.devices k ≡ Some (device_at new k) = slice_get-get_or new.devices k no_device lt in
      let o = older to new fit.well well compatible k (device_at new k) at_k in
      let image = get_or backs o.i (no_image to new) in
      let at_i : slice_get backs o.i ≡ Some image = slice_get-get_or backs o.i _ (omega (arith, slice_get_within to.devices o.i o.d o.stands)) in
      elim (either_valid (image_slots to o.d image)) [
        | inr n ↦ inr (λ valid. n (valid o.i o.d (device_at new k) image at_k o.found o.stands at_i))
        | inl h ↦ inl (λ i d e back in_new found in_old at.
            let e_is : device_at new k ≡ e = cc (at_k, in_new) in
            let number : o.i ≡ i = cc (o.found, found) in
            let d_is : o.d ≡ d = cc (o.stands, in_old) in
            let image_is : image ≡ back = cc (at_i, at) in
            rw (← d_is, ← image_is) h)
      ]

  module _ (wanted : List (List ℤ)) (long : length wanted ≡ length new.devices)
      (kinds : (k : ℕ) (e : Device) → slice_get new.devices k ≡ Some e → AreOfKinds (device_cells new e) (get_or wanted k []))
      (h : Made (λ backs i image. IsBackAt wanted i image) (length to.devices)) where
    abbrev there : List (List ℤ)
    there = numbers_in (carried to new h.list)

    there_at : (k : ℕ) → k < length new.devices → length (get_or wanted k []) ≡ length (get_or there k [])
    there_at k lt =
        let e = device_at new k in
        let at_k = slice_get-get_or new.devices k no_device lt in
        let o = older to new fit.well well compatible k e at_k in
        let p = older_pair to new fit.well well compatible k e at_k o in
        let d = device_at to o.i in
        let image = get_or h.list o.i (no_image to new) in
        let back = h.each o.i image (slice_get-get_or h.list o.i _ (omega (arith, slice_get_within to.devices o.i o.d o.stands))) k d e p in
        rw (there_is to new fit.well well compatible h.list k e at_k o, ← given_carried to new fit well o.i k d e p.in_old at_k (get_or wanted k []) image back)
        (omega (
          arith,
          (kinds k e at_k).long,
          gives_long (device_partners to new d e) image.numbers (image_slots to d image) (map (λ c. c.default) (device_cells new e)),
          length-map (device_cells new e) (λ (c : Cell). c.default),
        ))

    abbrev AllValid : Type 0
    AllValid = (i : ℕ) → i < length new.devices → IsValidAt to new h.list i

    abbrev Answered : Option (List ℕ) → Type 0
    Answered machine =
        KeepsAll to new machine wanted there h.list ⊎ ((section : Option ℕ) × (cell : Option ℕ) × Loses to new machine wanted there h.list section cell)

    answered_name : (name : List ℕ) → wanted ≡ there → AllValid → (b : Bool) → is_one_of to.machines name ≡ b → Answered (Some name)
    answered_name name same valid true e = inl (record { cells = same; valid = valid; machine_is = e })
    answered_name name same valid false e = inr (None, None, OfMachine name same valid refl e)

    answered_machine : (machine : Option (List ℕ)) → wanted ≡ there → AllValid → Answered machine
    answered_machine machine same valid = grind (arith, answered_name)

    answered_all : (machine : Option (List ℕ)) → Answered machine
    answered_all machine =
        elim (first_bad (λ k. get_or wanted k [] ≡ get_or there k []) (λ k. (c : ℕ) × DifferAt (get_or wanted k []) (get_or there k []) c) (length wanted)
        (λ k lt. first_differ (get_or wanted k []) (get_or there k []) (there_at k (omega arith)))) [
          | inr f ↦ inr (Some f.k, Some f.bad.0, OfCell f.k f.bad.0 f.before f.bad.1)
          | inl all ↦
              let same = ext_get_or [] wanted there (long ∙ sym (there_long to new fit.well well compatible h.list)) all in
              elim (first_bad (IsValidAt to new h.list) (λ k. IsValidAt to new h.list k → ⊥) (length new.devices) (either_at h.list h.long)) [
                | inl f ↦ answered_machine machine same f
                | inr b ↦ inr (Some b.k, first_cell (get_or wanted b.k []), OfDevice b.k b.inside same b.before b.bad)
              ]
        ]

pub answered : AnswerLaw
answered to new fit well compatible machine images long kinds =
    let h = backs_of to new fit well compatible _ in
    record {
      backs = h.list;
      back = record { one_each = h.long; each = λ i k d e image p at. h.each i image at k d e p };
      answer = answered_all to new fit well compatible _
          (recast_long to new.devices (numbers_in images) (length-map images (λ (x : Image). x.numbers) ∙ long)) kinds h machine;
    }
