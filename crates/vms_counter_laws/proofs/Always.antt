-- The defaults show three kinds of mismatch, where they are ready: streams with a machine, and the
-- sections before the one that a mismatch concerns.
use Rattle.vms_counter_laws.proofs.Facade
use Facade.{◌≡◌, ℕ, ◌^◌, ◌<◌, List, [], ◌++◌, length, refl, sym, ap, ◌∙◌, append_assoc, Bool, true, false, ◌&&◌, ◌∷◌}
use Facade.{get_or, Option, Some, None, arith, list_all, or_left, or_right, bytes_eq-Decides, be32, section_head, stream_head, configuration, is_one_of}
use Facade.{IsConfiguration, be32_read, apart, Device, Set, Image, HasSection, SectionsSpell, Takes, lacking, subst, zero, suc, ◌+◌, ◌≤◌, slice_set}
use Facade.{slice_get, length-set, slice_get_within, first_answer, IsBytes, FitsHeads, IsReady, written_section, written_sections, Accepted, WellFormed, here}
use Facade.{reading_on, at_other, bytes_rest, Tail, Footed, Bare, judge, between, by_state, BeginsSection, section_read_holds, section_found_holds}
use Facade.{compare_device, failing_pair, is_in, ArePaired, compared, Pair, pair, back, device_stands, at_first, one_on, saved, ◌==◌, if◌then◌else◌}
use Facade.{inl, inr, map, append-nil, ℤ, struct_cells, desc_cells, Spells, default_image, own_slots, own_cells, zeroed, IsVersionOf, magic, end_mark, foot}
use Facade.{written, written_subs, AreReady, Magic, Version, find_device, few_devices, machine_short, falses, defaults_of, version_decides, well_good}
use Facade.{device_found, Unknown, AtMagic, AtVersion, reading, Headed, at_start, unit_on, taken_holds, Mismatch, reduced, compare_fields, comparers, Comparer}
use Facade.{Entry, first_mismatch, is_kept, present, position_from, FitsAt, fits_left, from_zero, fits_whole, devices_clash, at_map, default_images}
use Facade.{machine_for, stream_of, Shows, IsPlain, AlwaysShown, OfMachine, OfVersion, OfConstant}
use Rattle.vms_counter_laws.proofs.Inverted.{present_fields, clashes, else_some, one_rule, struct_no_device, tables_within, IsDevice, OfDevice, of_device}
use Rattle.vms_counter_laws.proofs.Inverted.{Version as OfItsVersion, Own, Below, part_within, DeviceFails, device_fails, machine_fails}
use Rattle.vms_stream.specs.State.{State}
use Rattle.vms_spec.specs.declared.Part.TheVariants as parts

-- ---- Two section heads at one front.

pub same_be32 : (n m : ℕ) → n < 2 ^ 32 → m < 2 ^ 32 → be32 n ≡ be32 m → n ≡ m
same_be32 n m lt lt' e = cc (be32_read n [] lt, be32_read m [] lt')

pub record SameHead (name name' : List ℕ) (instance instance' v v' : ℕ) (rest rest' : List ℕ) : Type 0 where
  pub names : name ≡ name'
  pub instances : instance ≡ instance'
  pub versions : v ≡ v'
  pub rests : rest ≡ rest'

pub same_head : (id id' : ℕ) (name name' : List ℕ) (instance instance' v v' : ℕ) (rest rest' : List ℕ) → instance < 2 ^ 32 → instance' < 2 ^ 32
    → v < 2 ^ 32 → v' < 2 ^ 32 → section_head id name instance v ++ rest ≡ section_head id' name' instance' v' ++ rest'
    → SameHead name name' instance instance' v v' rest rest'
same_head id id' name name' instance instance' v v' rest rest' i_fits i_fits' v_fits v_fits' h =
    let long : length name ≡ length name' = cc in
    let more : ((name ++ be32 instance) ++ be32 v) ++ rest ≡ ((name' ++ be32 instance') ++ be32 v') ++ rest' = cc in
    let a = apart name name' (be32 instance' ++ (be32 v' ++ rest')) (be32 instance ++ (be32 v ++ rest)) long (simp append_assoc at more) in
    let b = apart (be32 instance) (be32 instance') (be32 v' ++ rest') (be32 v ++ rest) refl a.1 in
    let c = apart (be32 v) (be32 v') rest' rest refl b.1 in
    record { names = a.0; instances = same_be32 _ _ i_fits i_fits' b.0; versions = same_be32 v v' v_fits v_fits' c.0; rests = c.1 }

-- ---- A machine that the newer set doesn't have: no stream that names it is accepted.

-- ---- the machine

pub record Lacks (names machines : List (List ℕ)) : Type 0 where
  pub name : List ℕ
  pub is : lacking names machines ≡ Some name
  pub unknown : is_one_of names name ≡ false
  pub known : is_one_of machines name ≡ true

pub lacks : (names machines : List (List ℕ)) → list_all (is_one_of names) machines ≡ false → Lacks names machines
lacks names [] h = absurd (cc)
lacks names (m ∷ machines) h =
    let by : (b : Bool) → is_one_of names m ≡ b → (b && list_all (is_one_of names) machines) ≡ false → Lacks names (m ∷ machines) = elim [
      | true ↦ λ e k.
          let r = lacks names machines k in
          record { name = r.name; is = rw e r.is; unknown = r.unknown; known = or_right _ _ r.known }
      | false ↦ λ e k.
          record { name = m; is = rw e; unknown = e; known = or_left _ _ ((bytes_eq-Decides m m).1 refl) }
    ] in
    by _ refl h

-- ---- bytes

-- sections, and then the end mark, begin with no configuration's mark
first_byte : (set : Set) (footed : Bool) (images : List Image) (order : List ℕ) (sections more : List ℕ) → SectionsSpell set footed images order sections
    → get_or (sections ++ (0x00 ∷ more)) 0 0 ≡ 0x07 → ⊥
first_byte set footed images [] sections more spelled h = let f : ◌≡◌ {A = ℕ} 0x00 0x07 = rw spelled at h in cc
first_byte set footed images (k ∷ order) sections more spelled h = by _ _ spelled.2
  where
    by : (o : Option Device) (p : Option Image) → HasSection set footed k o p spelled.0 → ⊥
    by (Some d) (Some image) s =
        let f : ◌≡◌ {A = ℕ} 0x04 0x07 = rw (spelled.4, s.1.whole) at h in cc
    by None p s = s
    by (Some d) None s = s

by_machine : (names : List (List ℕ)) (machine : Option (List ℕ)) (name named more more' : List ℕ) → is_one_of names name ≡ false → length name < 2 ^ 32
    → IsConfiguration names machine named
    → (named ≡ [] → get_or more 0 0 ≡ 0x07 → ⊥) → configuration name ++ more' ≡ named ++ more → ⊥
by_machine names machine name named more more' unknown short is no_mark h = grind (arith, apart, same_be32)

pub machine_untaken : (set : Set) (names : List (List ℕ)) (name more : List ℕ) → is_one_of names name ≡ false → length name < 2 ^ 32
    → (n : ℕ) (machine : Option (List ℕ)) (images : List Image) → Takes set names (stream_head ++ (configuration name ++ more)) n machine images → ⊥
machine_untaken set names name more unknown short n machine images t =
    let s = t.stream in
    let tail = 0x00 ∷ (s.tail ++ t.rest) in
    let is : stream_head ++ (configuration name ++ more) ≡ stream_head ++ (s.named ++ (s.sections ++ tail)) = t.prefix ∙ rw s.whole (simp append_assoc) in
    by_machine names _ name _ _ more unknown short s.configured (λ none e. first_byte set _ images _ _ _ s.spelled e)
    (apart stream_head stream_head _ _ refl is).1

-- ---- devices of the older set and of the newer one, and the sections before the one that a mismatch concerns

module _ (old new : Set) (good_old : WellFormed old) (good_new : WellFormed new) (heads : FitsHeads new)
    (all_in : first_answer (λ i d. failing_pair ((2, is_in new d) ∷ []) (here (parts.Device i)) (here parts.Set)) 0 old.devices ≡ None) where
  two_apart : (i i' : ℕ) (d d' : Device) → i < i' → slice_get old.devices i ≡ Some d → slice_get old.devices i' ≡ Some d'
      → (p : Pair old new good_old all_in i d) (q : Pair old new good_old all_in i' d') → p.number ≡ q.number → ⊥
  two_apart i i' d d' lt e e' p q numbers =
      let one : p.device ≡ q.device = cc (p.stands, q.stands) in
      let indices : i ≡ i' = cc (back old new good_old all_in i d e p, back old new good_old all_in i' d' e' q) in
      omega arith

  -- the devices of old from i on have not come
  abbrev pub Waits : List Bool → ℕ → Type 0
  Waits came i =
      (j : ℕ) (d : Device) (p : Pair old new good_old all_in j d) → i ≤ j → slice_get old.devices j ≡ Some d → slice_get came p.number ≡ Some false

  -- an accepted reading has the section of a device, which is one of new
  pub record Comes (d : Device) (image : Image) (id : ℕ) : Type 0 where
    pub came : List Bool
    pub rest : List ℕ
    pub begins : BeginsSection new came (written_section old d image id ++ rest)

  module _ (names : List (List ℕ)) (n : ℕ) (end : State) (last : List ℕ) where
    waits_next : (came : List Bool) (i : ℕ) (d : Device) (p : Pair old new good_old all_in i d) → slice_get old.devices i ≡ Some d → Waits came i
        → Waits (slice_set came p.number true) (suc i)
    waits_next came i d p e waits j d' q le e' =
        at_other came _ _ true (λ same. two_apart i j d d' (omega arith) e e' p q (sym same)) ∙ waits j d' q (omega arith) e'

    pub comes : (c i : ℕ) (ds : List Device) (ims : List Image) → ((j : ℕ) → slice_get old.devices (i + j) ≡ slice_get ds j) → i + length ds ≤ 4294967296
        → ((j : ℕ) (d : Device) (image : Image) → slice_get ds j ≡ Some d → slice_get ims j ≡ Some image → IsReady old d image)
        → ((j : ℕ) (d : Device) → j < c → slice_get ds j ≡ Some d → compared old new (i + j) d ≡ None)
        → (d : Device) (image : Image) → slice_get ds c ≡ Some d → slice_get ims c ≡ Some image
        → (images : List Image) (came : List Bool) (tail : Tail) (first after : Bool) → length images ≡ length new.devices
        → length came ≡ length new.devices → Waits came i → (tail ≡ Bare → ⊥) → (place : ℕ) → IsBytes (written_sections old i ds ims ++ last)
        → reading_on (judge (by_state new names)) (between None images came tail first after) place (written_sections old i ds ims ++ last)
        ≡ Some (Accepted n end)
        → Comes d image (i + c)
    comes zero i (x ∷ ds) (im ∷ ims) devices_are few ready none d image at_c im_c images came tail first after images_long came_long waits foots place ok h =
        let z : i + 0 ≡ i = omega arith in
        let front = written_section old x im i in
        let rest = written_sections old (suc i) ds ims ++ last in
        let e : (front ++ written_sections old (suc i) ds ims) ++ last ≡ front ++ rest = append_assoc front (written_sections old (suc i) ds ims) last in
        let b = section_found_holds new names good_new heads None images came tail first after images_long came_long place (front ++ rest) n end
        (subst IsBytes e ok)
        (ap (reading_on (judge (by_state new names)) (between None images came tail first after) place) (sym e) ∙ h) refl in
        let d_is : x ≡ d = cc in
        let im_is : im ≡ image = cc in
        rw z (record { came = came; rest = rest; begins = rw (d_is, im_is) at b })
    comes (suc c) i (x ∷ ds) (im ∷ ims) devices_are few ready none d image at_c im_c images came tail first after images_long came_long waits foots place ok h =
        let z : i + 0 ≡ i = omega arith in
        let s : suc i + c ≡ i + suc c = omega arith in
        let at_i : slice_get old.devices i ≡ Some x = at_first (slice_get old.devices) i devices_are in
        let p = pair old new good_old all_in i x at_i in
        let none_here : compare_device old new i x (Some p.number) (Some p.device) ≡ None = rw (z, p.compared_is) at (none 0 x (omega arith) refl) in
        let front = written_section old x im i in
        let rest = written_sections old (suc i) ds ims ++ last in
        let e : (front ++ written_sections old (suc i) ds ims) ++ last ≡ front ++ rest = append_assoc front (written_sections old (suc i) ds ims) last in
        let paired : ArePaired old new i p.number x p.device =
        record { in_old = at_i; in_new = p.stands; names = sym p.name_is; instances = sym p.instance_is; rules = none_here } in
        let section = device_stands old new good_old good_new i p.number x p.device paired im i (saved old x im (ready 0 x im refl refl)) (omega arith) in
        let inside = slice_get_within new.devices p.number p.device p.stands in
        let on = section_read_holds new names good_new heads p.number p.device _ p.stands None images came tail first after (omega arith)
        (waits i x p (omega arith) at_i) foots i place front rest section in
        rw (← s) (comes c (suc i) ds ims (one_on (slice_get old.devices) i devices_are) (omega arith) (λ j. ready (suc j))
        (λ j u lt f. let t : suc i + j ≡ i + suc j = omega arith in rw t (none (suc j) u (omega arith) f))
        d image at_c im_c (slice_set images p.number _) (slice_set came p.number true) Footed false false
        (length-set images p.number _ ∙ images_long) (length-set came p.number true ∙ came_long) (waits_next came i x p at_i waits) (λ f. cc)
        (place + length front) (bytes_rest front rest (subst IsBytes e ok))
        (sym on ∙ ap (reading_on (judge (by_state new names)) (between None images came tail first after) place) (sym e) ∙ h))
    comes _ i _ _ devices_are few ready none d image at_c im_c images came tail first after images_long came_long waits foots place ok h = absurd (cc)

-- ---- the defaults show three kinds of mismatch, where they are ready

module _ (old new : Set) (good_old : WellFormed old) (good_new : WellFormed new) (heads_old : FitsHeads old) (heads : FitsHeads new)
    (ready : AreReady old (default_images old)) where
  abbrev images : List Image
  images = default_images old

  -- what follows the stream head
  abbrev behind : List ℕ
  behind = written_sections old 0 old.devices images ++ (end_mark ++ [])

  whole : written old None images None ≡ stream_head ++ behind
  whole = simp (append_assoc, append-nil)

  start_on : (more : List ℕ) → reading (by_state new new.machines) (at_start new) (stream_head ++ more)
      ≡ reading_on (judge (by_state new new.machines))
      (between None (map (default_image new) new.devices) (map (λ (d : Device). false) new.devices) Unknown true false) 8 more
  unfolding reading
  start_on more =
      let s0 = at_start new in
      unit_on new new.machines s0 (Magic magic) 0 (be32 3 ++ more) refl (AtMagic magic refl) refl
      ∙ unit_on new new.machines (record s0 { spot = Headed }) (Version 3) 4 more refl (AtVersion 3 (omega arith)) refl

  -- ---- the device at which the sets differ

  module _ (m : Mismatch) (fails : DeviceFails old new m) where
    abbrev i : ℕ
    i = fails.answers.number

    abbrev d : Device
    d = fails.answers.item

    abbrev p : Pair old new good_old fails.all_in i d
    p = pair old new good_old fails.all_in i d fails.answers.stands

    abbrev image : Image
    image = default_image old d

    fails_here : compare_device old new i d (Some p.number) (Some p.device) ≡ Some m
    fails_here = grind arith

    -- an accepted reading has its section
    arrives : IsBytes (written old None images None) → (n : ℕ) (machine : Option (List ℕ)) (states : List Image)
        → Takes new new.machines (written old None images None) n machine states → Comes old new good_old good_new heads fails.all_in d image i
    arrives ok n machine states t =
        let r = taken_holds new new.machines good_new heads (written old None images None) n machine states t in
        let h = sym (start_on behind) ∙ ap (reading (by_state new new.machines) (at_start new)) (sym whole) ∙ r.1 in
        let z : 0 + i ≡ i = omega arith in
        rw z at (comes old new good_old good_new heads fails.all_in new.machines n r.0 (end_mark ++ []) i 0 old.devices images
        (from_zero (slice_get old.devices)) (omega (arith, few_devices old good_old)) ready.ready (λ j u lt e. fails.answers.before j u lt e) d image
        fails.answers.stands (at_map (default_image old) old.devices i d fails.answers.stands) (map (default_image new) new.devices)
        (map (λ (d : Device). false) new.devices) Unknown true false (defaults_of new _) (falses new.devices)
        (λ j u q le e. at_map (λ (d : Device). false) new.devices q.number q.device q.stands) (λ e. cc) 8
        (bytes_rest stream_head behind (subst IsBytes whole ok)) h)

    -- then the newer set's device is at that version, and its own fields are spelled where the older wrote its own
    record Meets : Type 0 where
      version : IsVersionOf p.device.desc d.desc.version
      numbers : List ℤ
      body : List ℕ
      rest : List ℕ
      rest' : List ℕ
      own : Spells numbers (own_slots new p.device d.desc.version numbers) body
      spelled : body ++ rest' ≡ zeroed image.numbers (own_slots old d d.desc.version image.numbers) ++ rest

    meets : Comes old new good_old good_new heads fails.all_in d image i → Meets
    meets c =
        let b = c.begins in
        let e = b.device in
        let s = b.is in
        let own = zeroed image.numbers (own_slots old d d.desc.version image.numbers) in
        let more = written_subs old d image (own_cells old d) d.subs image.came ++ (foot i ++ c.rest) in
        let more' = s.tail ++ ((if b.footed then foot b.id else []) ++ b.after) in
        let head_e = section_head b.id e.desc.name e.instance b.image.version in
        let is : (section_head i d.desc.name d.instance d.desc.version) ++ (own ++ more) ≡ head_e ++ (s.body ++ more') =
        simp append_assoc (simp append_assoc at (b.spelled ∙ ap (λ (l : List ℕ). l ++ b.after) s.whole)) in
        let fits = heads_old.instance i d fails.answers.stands in
        let fits' = heads.instance b.number e b.there in
        let head = same_head i b.id _ _ _ _ _ _ _ _ fits.0 fits'.0 fits.1 (omega (arith, s.normal.version.1, fits'.1)) is in
        let found : find_device 0 new.devices e.desc.name e.instance ≡ Some p.number = rw (← head.names, ← head.instances) p.found in
        let number : b.number ≡ p.number = cc (device_found new good_new b.number e b.there) in
        let same : e ≡ p.device = cc (b.there, p.stands) in
        record {
          version = rw (← head.versions, same) at s.normal.version;
          numbers = b.image.numbers;
          body = s.body;
          rest = more;
          rest' = more';
          own = rw (← same, head.versions) s.own;
          spelled = sym head.rests;
        }

    -- ---- its version

    version_fails : Meets → m.rule ≡ 4 → ⊥
    version_fails w four = grind (arith, of_device, fails_here, version_decides)

    -- ---- a constant

    own_fits : FitsAt (desc_cells (struct_cells old) d.desc) image.numbers 0
    own_fits = fits_left _ (fits_whole _ _ (ready.ready i d image fails.answers.stands (at_map _ old.devices i d fails.answers.stands)).normal.cells)

    abbrev v : ℕ
    v = d.desc.version

    abbrev es : List Entry
    es = present (struct_cells old) d.desc v

    abbrev fs : List Entry
    fs = present (struct_cells new) p.device.desc v

    abbrev ks : List Comparer
    ks = comparers (struct_cells old) (struct_cells new) old.structs new.structs (length new.structs)

    constant_fails : Meets → m.rule ≡ 12 → (i' j' : ℕ) → m.in_old.part ≡ parts.Device i' → m.in_old.field ≡ Some j' → IsPlain old i' j' → ⊥
    constant_fails w twelve i' j' part field plain = by (of_device old new i _ d _ m fails_here)
      where
        is_device : IsDevice m.in_old.part
        is_device = rw part tt

        fields : m.in_old.part ≡ parts.Device i → compare_fields ks d.desc p.device.desc v v (parts.Device i) (parts.Device p.number) (position_from 0 es)
            (position_from 0 fs) es fs ≡ Some m → ⊥
        fields here c =
            let o = position_from 0 es in
            let n = position_from 0 fs in
            let other = parts.Device p.number in
            let clash = clashes (record { ks = ks; a = d.desc; b = p.device.desc; v = v; w = v; part = parts.Device i; part' = other; o = o; n = n }) m twelve
            (tables_within _ _ _ _ _) (λ s. struct_no_device _ s is_device)
            ((well_good old good_old heads_old).constants i d fails.answers.stands) ((well_good new good_new heads).constants p.number p.device p.stands)
            (λ j f field' is. cc (plain.always, fails.answers.stands)) es fs (present_fields _ _ v 0 0 _ (from_zero (slice_get d.desc.fields)))
            (present_fields _ _ v 0 0 _ (from_zero (slice_get p.device.desc.fields))) c in
            devices_clash old new good_old good_new i _ d _ fails.answers.stands p.stands v _ _ _
            _ clash own_fits w.body w.rest w.rest' w.own w.spelled

        by : OfDevice old new i p.number d p.device m → ⊥
        by (OfItsVersion r f) = omega arith
        by (Below lt n) = n is_device
        by (Own lt c) =
            let o = position_from 0 es in
            let n = position_from 0 fs in
            elim (else_some _ _ m c) [
              | inl f ↦ fields (grind (arith, struct_no_device, part_within old new d.desc p.device.desc v (parts.Device i) (parts.Device p.number) m c)) f
              | inr f ↦
                  let kept =
                  list_all (λ t. is_kept ks d.desc p.device.desc v v (parts.Device i) (parts.Device p.number) o n (reduced v t)) p.device.desc.validate in
                  omega (arith, (one_rule 15 kept _ _ m f.1).1)
            ]

  -- ---- the three kinds

  device_untaken : (m : Mismatch) (r : ℕ) → m.rule ≡ r → (r == 1) ≡ false → 3 < r → first_mismatch old new ≡ Some m → IsBytes (stream_of old new m images)
      → ((fails : DeviceFails old new m) → Meets m fails → ⊥) → (n : ℕ) (machine : Option (List ℕ)) (states : List Image)
      → Takes new new.machines (stream_of old new m images) n machine states → ⊥
  device_untaken m r rule other late h ok never n machine states t =
      let fails = device_fails old new m h (omega arith) in
      let stream : stream_of old new m images ≡ written old None images None = rw (rule, other) in
      never fails (meets m fails (arrives m fails (subst IsBytes stream ok) n _ states (rw stream at t)))

  machine_shown : (m : Mismatch) → first_mismatch old new ≡ Some m → m.rule ≡ 1 → (n : ℕ) (machine : Option (List ℕ)) (states : List Image)
      → Takes new new.machines (stream_of old new m images) n machine states → ⊥
  machine_shown m h one n machine states t =
      let l = lacks new.machines old.machines (machine_fails old new m h one) in
      let named : machine_for old new m ≡ Some l.name = ap (λ k. if k == 1 then lacking new.machines old.machines else None) one ∙ l.is in
      let is : written old (Some l.name) images None ≡ stream_head ++ (configuration l.name ++ behind) = simp append_assoc in
      machine_untaken new _ l.name _ l.unknown (omega (arith, machine_short old good_old l.name l.known)) n _ states
      (subst (λ x. Takes new new.machines x n machine states) (ap (λ k. written old k images None) named ∙ is) t)

  pub shown : (m : Mismatch) → first_mismatch old new ≡ Some m → AlwaysShown old m → IsBytes (stream_of old new m images) → Shows old new m images
  shown m h (OfMachine one) ok = record { ready = ready; untaken = machine_shown m h one }
  shown m h (OfVersion four) ok = record { ready = ready; untaken = device_untaken m 4 four refl (omega arith) h ok (λ fails w. version_fails m fails w four) }
  shown m h (OfConstant i j twelve part field plain) ok =
      record { ready = ready; untaken = device_untaken m 12 twelve refl (omega arith) h ok (λ fails w. constant_fails m fails w twelve i j part field plain) }
