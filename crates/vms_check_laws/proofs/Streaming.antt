-- What the older set writes is a stream of the newer, with the carried images: each device's section is one of the newer set's, and the
-- order takes each device once.
use Rattle.vms_check_laws.proofs.Facade
use Facade.{found_is, option_and_then, ◌≡◌, ℕ, suc, ◌+◌, Bool, true, false, List, ◌∷◌, Option, Some, None, refl, ◌∙◌, arith, slice_get}
use Facade.{bytes_eq-Decides, ◌≤◌, length, map, get_or, list_all, IfSome, length-map, ap, [], sym, first_answer, Device, Set, find_device, index}
use Facade.{WellFormed, here, Mismatch, failing_pair, compare_device, paired_device, is_found, is_in, passes, device_found, Image, HasSection, SectionsSpell}
use Facade.{IsReady, EachOnce, is_one_of, written_section, written_sections, is_version_of, Compatible, first_mismatch, comparing, compare_subs, carried}
use Facade.{carried_device, carried_at, no_image, ArePaired, DeviceLaw, or_else_none, IsStream, IsConfiguration, configuration, trailer, optional, longest_text}
use Facade.{written, AreReady, every_one, machine_short, few_devices, UpgradeLaw, trailed, answers_none}
use Rattle.vms_check_laws.proofs.Presence.{RestAt, at_first, one_on, from_zero}
use Rattle.vms_check_laws.proofs.Wholes.{saved, Among, section_whole, at_map, from_map, Rises, takes_each, all_came}
use Rattle.vms_spec.specs.declared.Part.TheVariants as parts

-- ---- devices by name and instance

pub record FoundDevice (devices : List Device) (name : List ℕ) (instance j : ℕ) : Type 0 where
  pub device : Device
  pub stands : slice_get devices j ≡ Some device
  pub name_is : device.desc.name ≡ name
  pub instance_is : device.instance ≡ instance

pub found_device : (devices : List Device) (name : List ℕ) (instance k : ℕ) → find_device 0 devices name instance ≡ Some k → FoundDevice devices name instance k
found_device devices name instance k e =
    let f = found_is devices 0 name instance k e in
    let same : f.i ≡ k = omega arith in
    record { device = f.device; stands = rw same at f.there; name_is = (bytes_eq-Decides _ name).0 f.name_is; instance_is = f.instance_is }

pub found_some : (r : Option ℕ) → is_found r ≡ true → (k : ℕ) × (r ≡ Some k)
found_some r h = grind arith

-- ---- a device of each

abbrev pub compared : Set → Set → ℕ → Device → Option Mismatch
compared old new i d = compare_device old new i d (paired_device old new d) (slice_get new.devices (index (paired_device old new d)))

module _ (old new : Set) (good_old : WellFormed old)
    (all_in : first_answer (λ i d. failing_pair ((2, is_in new d) ∷ []) (here (parts.Device i)) (here parts.Set)) 0 old.devices ≡ None) where
  -- the device of new that has the name and instance of old's device i
  pub record Pair (i : ℕ) (d : Device) : Type 0 where
    pub number : ℕ
    pub found : find_device 0 new.devices d.desc.name d.instance ≡ Some number
    pub device : Device
    pub stands : slice_get new.devices number ≡ Some device
    pub name_is : device.desc.name ≡ d.desc.name
    pub instance_is : device.instance ≡ d.instance
    pub compared_is : compared old new i d ≡ compare_device old new i d (Some number) (Some device)

  pub pair : (i : ℕ) (d : Device) → slice_get old.devices i ≡ Some d → Pair i d
  pair i d e =
      let r = found_some _ (passes ((2, _) ∷ []) (here (parts.Device (0 + i))) (here parts.Set) (answers_none _ 0 _ all_in i d e)).0 in
      of r.0 r.1 (found_device _ _ _ r.0 r.1)
    where
      of : (k : ℕ) → find_device 0 new.devices d.desc.name d.instance ≡ Some k → FoundDevice new.devices d.desc.name d.instance k → Pair i d
      of k is f =
          record { number = k; found = is; device = f.device; stands = f.stands; name_is = f.name_is; instance_is = f.instance_is; compared_is = rw (is, f.stands) }

  pub back : (i : ℕ) (d : Device) → slice_get old.devices i ≡ Some d → (p : Pair i d) → find_device 0 old.devices p.device.desc.name p.device.instance ≡ Some i
  back i d e p = grind (arith, device_found)

-- ---- devices by name and instance

abbrev pub device_order : Set → List Device → List ℕ
device_order new devices = map (λ d. index (find_device 0 new.devices d.desc.name d.instance)) devices

-- one device
pub device_stands : DeviceLaw
device_stands old new good_old good_new i k d e paired image id saved lt =
    let p = or_else_none (failing_pair ((4, is_version_of e.desc d.desc.version) ∷ []) (here (parts.Device i)) (here (parts.Device k))) _ paired.rules in
    let q =
    or_else_none (comparing old new d.desc e.desc d.desc.version (parts.Device i) (parts.Device k))
    (first_answer (compare_subs old new i k e) 0 d.subs) p.1 in
    section_whole old new good_old good_new i k d e paired.in_old paired.in_new q.1 image saved _ _ q.0
    (passes ((4, _) ∷ []) (here (parts.Device i)) (here (parts.Device k)) p.0).0 paired.names paired.instances id lt

module _ (old new : Set) (good_old : WellFormed old) (good_new : WellFormed new) (none : Compatible old new) where
  -- what the rules on sets give
  pub record Rules : Type 0 where
    pub machines : list_all (is_one_of new.machines) old.machines ≡ true
    pub olds : first_answer (λ i d. failing_pair ((2, is_in new d) ∷ []) (here (parts.Device i)) (here parts.Set)) 0 old.devices ≡ None
    pub news : first_answer (λ i d. failing_pair ((3, is_in old d) ∷ []) (here parts.Set) (here (parts.Device i))) 0 new.devices ≡ None
    pub devices : first_answer (λ i d. compared old new i d) 0 old.devices ≡ None

  pub rules : Rules
  unfolding first_mismatch
  rules = search (arith, or_else_none)

  -- each device of old is one of new
  pub all_in : first_answer (λ i d. failing_pair ((2, is_in new d) ∷ []) (here (parts.Device i)) (here parts.Set)) 0 old.devices ≡ None
  all_in = rules.olds

  -- old's device of the name and instance of new's device k
  pub record Older (k : ℕ) (e : Device) : Type 0 where
    pub i : ℕ
    pub d : Device
    pub stands : slice_get old.devices i ≡ Some d
    pub found : find_device 0 old.devices e.desc.name e.instance ≡ Some i
    pub back : find_device 0 new.devices d.desc.name d.instance ≡ Some k

  pub older : (k : ℕ) (e : Device) → slice_get new.devices k ≡ Some e → Older k e
  older k e at =
      let r = found_some _ (passes ((3, _) ∷ []) (here parts.Set) (here (parts.Device (0 + k))) (answers_none _ 0 _ rules.news k e at)).0 in
      let f = found_device _ _ _ r.0 r.1 in
      record { i = r.0; d = f.device; stands = f.stands; found = r.1; back = rw (f.name_is, f.instance_is) (device_found new good_new k e at) }

  -- ---- each of new's devices has one section

  each_new : (k : ℕ) → slice_get (map (λ (d : Device). false) new.devices) k ≡ Some false → Among k (device_order new old.devices)
  each_new k waits =
      let x = from_map (λ (d : Device). false) _ k false waits in
      let o = older k x.0 x.1 in
      (o.i, at_map (λ (d : Device). index (find_device 0 new.devices d.desc.name d.instance)) old.devices o.i o.d o.stands ∙ rw o.back)

  abbrev none_came : List Bool
  none_came = map (λ (d : Device). false) new.devices

  -- no device has come yet, and none comes twice
  order_rises : (i : ℕ) (ds : List Device) → RestAt old.devices i ds
      → Rises (λ b. b ≡ false) true (λ k. option_and_then (λ e. find_device 0 old.devices e.desc.name e.instance) (slice_get new.devices k)) none_came i
      (device_order new ds)
  order_rises i [] h = tt
  order_rises i (d ∷ ds) h =
      let at = at_first (slice_get old.devices) i h in
      let p = pair old new good_old all_in i d at in (
        i,
        false,
        omega arith,
        rw (p.found, p.stands) (back old new good_old all_in i d at p),
        rw p.found (at_map (λ (d : Device). false) new.devices p.number p.device p.stands),
        refl,
        order_rises (suc i) ds (one_on (slice_get old.devices) i h),
      )

  pub each_once : EachOnce none_came (device_order new old.devices)
  each_once =
      takes_each _ true _ (λ e. cc) EachOnce (λ xs f. all_came xs (λ j e. f j false e refl)) (λ xs k b order e h more. (e ∙ ap Some h, more)) none_came 0 _
      (order_rises 0 _ (from_zero (slice_get old.devices))) (λ k b e h. each_new k (rw h at e))

  module _ (images : List Image) where
    -- the image of new's device is old's of this name, carried
    image_at : (i : ℕ) (d : Device) → slice_get old.devices i ≡ Some d → (p : Pair old new good_old all_in i d)
        → slice_get (carried old new images) p.number ≡ Some (carried_device old new d p.device (get_or images i (no_image old new)))
    unfolding carried
    image_at i d e p =
        at_map (λ e. carried_at old new images e (find_device 0 old.devices e.desc.name e.instance)
        (slice_get old.devices (index (find_device 0 old.devices e.desc.name e.instance)))) new.devices p.number p.device p.stands
        ∙ rw (back old new good_old all_in i d e p, e)

    -- each section of old, in old's order
    pub spell : (i : ℕ) (ds : List Device) (ims : List Image) → length ims ≡ length ds → RestAt old.devices i ds
        → ((j : ℕ) → get_or images (i + j) (no_image old new) ≡ get_or ims j (no_image old new))
        → ((j : ℕ) (d : Device) (image : Image) → slice_get ds j ≡ Some d → slice_get ims j ≡ Some image → IsReady old d image)
        → i + length ds ≤ 4294967296 → SectionsSpell new true (carried old new images) (device_order new ds) (written_sections old i ds ims)
    spell i [] ims long devices_are images_are ready few = refl
    spell i (d ∷ ds) [] long devices_are images_are ready few = absurd (omega arith)
    spell i (d ∷ ds) (im ∷ ims) long devices_are images_are ready few =
        let e : slice_get old.devices i ≡ Some d = at_first (slice_get old.devices) i devices_are in
        let im_is : get_or images i (no_image old new) ≡ im = at_first (λ k. get_or images k (no_image old new)) i images_are in
        let p = pair old new good_old all_in i d e in
        let front = written_section old d im i in
        let image_is : slice_get (carried old new images) p.number ≡ Some (carried_device old new d p.device im) = image_at i d e p ∙ rw im_is in
        let z : i ≡ 0 + i = omega arith in
        let fine : compare_device old new i d (Some p.number) (Some p.device) ≡ None =
        rw (← p.compared_is, z) (answers_none (λ i d. compared old new i d) 0 _ rules.devices i d e) in
        let paired : ArePaired old new i p.number d p.device =
        record { in_old = e; in_new = p.stands; names = sym p.name_is; instances = sym p.instance_is; rules = fine } in
        let at_number : HasSection new true p.number (slice_get new.devices p.number) (slice_get (carried old new images) p.number) front =
        rw (p.stands, image_is)
        (i, device_stands old new good_old good_new i p.number d p.device paired im i (saved old d im (ready 0 d im refl refl)) (omega arith)) in
        let more =
        spell (suc i) ds ims (omega arith) (one_on (slice_get old.devices) i devices_are) (one_on (λ k. get_or images k (no_image old new)) i images_are)
        (λ j. ready (suc j)) (omega arith) in
        (front, written_sections old (suc i) ds ims, rw p.found at_number, more, refl)

module _ (old new : Set) (good_old : WellFormed old) (good_new : WellFormed new) (none : Compatible old new) where
  configured : (machine : Option (List ℕ)) → IfSome machine (λ m. is_one_of old.machines m ≡ true)
      → IsConfiguration new.machines machine (optional configuration machine)
  configured None h = refl
  configured (Some name) h = (every_one _ _ name (rules old new good_old good_new none).machines h, omega (arith, machine_short old good_old name h), refl)

  one_each : (images : List Image) → length (carried old new images) ≡ length new.devices
  unfolding carried
  one_each images = length-map new.devices _

  stream : (machine text : Option (List ℕ)) (images : List Image) → IfSome machine (λ m. is_one_of old.machines m ≡ true)
      → IfSome text (λ t. length t ≤ longest_text)
      → AreReady old images → IsStream new new.machines (written old machine images text) machine (carried old new images) text
  stream machine text images named short ready = record {
    named = optional configuration machine;
    configured = configured _ named;
    one_each = one_each images;
    order = device_order new old.devices;
    each_once = each_once old new good_old good_new none;
    sections = written_sections old 0 old.devices images;
    footed = true;
    bare = λ e. cc;
    spelled = spell old new good_old good_new none images 0 _ images ready.one_each (from_zero (slice_get old.devices))
        (from_zero (λ k. get_or images k (no_image old new))) ready.ready (omega (arith, few_devices old good_old));
    tail = optional trailer text;
    described = trailed text short;
    whole = refl;
  }

pub upgrade_stands : UpgradeLaw
upgrade_stands old new well_old well_new compatible machine text images named short ready =
    let s = stream old new well_old well_new compatible _ text images named short ready in
    record {
      stream = s;
      taken = λ rest all. record { bytes = written old machine images text; text = text; stream = s; rest = rest; prefix = refl; long = refl; all = all };
    }
