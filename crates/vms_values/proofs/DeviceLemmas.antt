-- Devices that are read one after the other: their images, their subsections, and what is judged of them.
use Rattle.std.proofs.Common.{ap₂}
use Rattle.vms_values.proofs.Facade
use Facade.{AtLeast, no_desc, length-take-le, ◌≡◌, ℕ, ◌+◌, ◌<◌, true, zero, suc, List, [], ◌∷◌, ◌++◌, Some, length, ap, sym}
use Facade.{◌∙◌, subst, arith, length-append, Option, None, Result, Ok, Err, refl, map, take, drop, append_assoc, append-nil, slice_set, flat_map}
use Facade.{slice_get, length-map, drop_more, drop_all, take_more, take_all, map-append, take_more_set, ForSome, Set, Device, Sub, Typed, state_of, default_at}
use Facade.{IsOfDevice, IsImageOf, device_cells, desc_cells, struct_cells, device_at, is_well_formed, few_cells, sub_next, HasSpot, IsKept, place_of, IsAlike}
use Facade.{said_read, sub_read, SubReached, SubsReached, first_line, BadLine, ReadDevice, ReadAll, ValuesRead, read_devices, ended, values_read, after_machine}
use Facade.{machine_named, Standing, ReadSubs, read_subs, with_device, read_device, or_bad, judge_device, judge_devices, sub_said, also, read_sub, LineFault}
use Facade.{StartsAt, Start, machine_of, Image, own_cells, Reading, bad_of, device_read, start_of, DeviceRead, AllRead, or_bad_assoc, first_cell, sub_at, Taken}
use Facade.{ReadsBy}
use Rattle.vms_values.specs.declared.fault.Values.{Values}
use Rattle.vms_spec.specs.declared.Part.TheVariants as parts
use Rattle.vms_values.specs.declared.fault.LineFault.TheVariants as faults

pub alike_kept : (a b : Typed) → IsKept a b → IsAlike a b
alike_kept a b h = record { version = h.version; subs = ap length h.came; cells = h.long; kinds = h.kinds }

pub default_of : (set : Set) → is_well_formed set ≡ true → (i : ℕ) → i < length set.devices → (image : Typed) → image ≡ default_at set i → IsOfDevice set i (state_of image)
default_of set well i lt image e =
    let d = device_at set i in
    let cells : length image.numbers ≡ length (device_cells set d) = rw e (length-map (device_cells set d) (λ c. c.default)) in
    record {
      is_device = lt;
      cells = cells;
      subs = rw e (length-map d.subs (λ s. Rattle.std.proofs.Common.None));
      few = omega (arith, few_cells set well i);
    }

pub own_spot : (set : Set) (i v : ℕ) (image : Typed) → IsOfDevice set i (state_of image) → HasSpot set (record { part = parts.Device i; version = v; base = 0 }) image.numbers
own_spot set i v image h =
    let d = device_at set i in
    record {
      part = h.is_device;
      few = h.few;
      room = omega (arith, length-append (desc_cells (struct_cells set) d.desc) (flat_map (λ s. desc_cells (struct_cells set) s.desc) d.subs));
    }

at_more : {X : Type 0} (P : ℕ → X → Type 0) (xs : List X) (y : X) → ((k : ℕ) (z : X) → slice_get xs k ≡ Some z → P k z) → P (length xs) y → (k : ℕ) (z : X) → slice_get (xs ++ y ∷ []) k ≡ Some z → P k z
at_more P [] y h p zero z e = let same : y ≡ z = cc in rw same at p
at_more P [] y h p (suc k) z e = cc
at_more P (x ∷ xs) y h p zero z e = h zero z e
at_more {X} P (x ∷ xs) y h p (suc k) z e = at_more (λ (j : ℕ) (w : X). P (suc j) w) xs y (λ j w f. h (suc j) w f) p k z e

-- this many images, each of its device
pub record AreFirstImages (set : Set) (n : ℕ) (images : List Typed) : Type 0 where
  pub count : length images ≡ n
  pub each : (k : ℕ) (image : Typed) → slice_get images k ≡ Some image → IsImageOf set k image

pub first_more : (set : Set) (n : ℕ) (images more : List Typed) (image : Typed) → AreFirstImages set n images → IsImageOf set n image → more ≡ images ++ image ∷ [] → AreFirstImages set (n + 1) more
first_more set n images more image a o e = record {
  count = rw (e, length-append images (image ∷ []), a.count);
  each = λ k other f. at_more (IsImageOf set) _ image a.each (rw a.count o) _ _ (rw (sym e) (f));
}

-- ---- Devices that are read one after the other, and what the whole text says.

abbrev pub with_devices : List ReadDevice → Result ReadAll BadLine → Result ReadAll BadLine
with_devices ds (Err e) = Err e
with_devices ds (Ok all) = Ok (record { devices = ds ++ all.devices; line = all.line; rest = all.rest })

pub record Said (set : Set) (v : ValuesRead) (start : Start) : Type 0 where
  pub name : Option (List ℕ)
  pub is : v ≡ ended set name (read_devices set set.devices start.lines.line start.lines.rest.now)
  pub machine : machine_of set start.machine ≡ name
  pub known : ForSome start.machine (λ m. m < length set.machines)

from_start : (set : Set) (text : List ℕ) (start : Start) (o : Option (List ℕ)) (v : ValuesRead) → v ≡ after_machine set text o → StartsAt set.machines text o start
    → Said set v start
from_start set text start o v e s = search (arith)

pub top : (set : Set) (machines : List (List ℕ)) (text : List ℕ) (start : Start) → machines ≡ set.machines → StartsAt machines text (machine_named machines (first_line text)) start → Said set (values_read set text) start
unfolding values_read
top set machines text start same s = from_start _ _ _ _ _ refl (rw same at s)

pub said_so : (set : Set) (text : List ℕ) (v : ValuesRead) (result : Result Values LineFault) → values_read set text ≡ v → ReadsBy set v result → ReadsBy set (values_read set text) result
said_so set text v result e r = rw e r

-- ---- Devices that are read one after the other, and judged.

abbrev after_device : (ℕ → List ℕ → Result ReadAll BadLine) → Result (ReadDevice × Standing) BadLine → Result ReadAll BadLine
after_device go (Ok (r, p)) = with_device r (go p.line p.rest)
after_device go (Err b) = Err b

one_device : (set : Set) (d : Device) (p : Standing) (go : ℕ → List ℕ → Result ReadAll BadLine) → read_device set d p go ≡ after_device go (device_read set d p)
one_device set d p go = grind arith

or_none : (o : Option BadLine) → or_bad o None ≡ o
or_none o = grind arith

judge_more : (set : Set) (ds : List Device) (rs : List ReadDevice) (d : Device) (r : ReadDevice) → length ds ≡ length rs
    → judge_devices set (ds ++ d ∷ []) (rs ++ r ∷ []) ≡ or_bad (judge_devices set ds rs) (judge_device set d r)
judge_more set [] [] d r e = or_none (judge_device set d r)
judge_more set (c ∷ ds) (x ∷ rs) d r e =
    let less : length ds ≡ length rs = omega arith in
    rw (judge_more set ds rs d r less, or_bad_assoc (judge_device set c x) (judge_devices set ds rs) (judge_device set d r))
judge_more set _ _ d r e = cc

-- the first n devices have these images and this first bad line of the second pass; the rest is the whole reading
pub record Gathered (set : Set) (n : ℕ) (start : Result ReadAll BadLine) (first judged : Option BadLine) (images : List Image) (left : Result ReadAll BadLine) : Type 0 where
  pub done : List ReadDevice
  pub count : length done ≡ n
  pub images_are : map (λ r. r.image) done ≡ images
  pub whole : with_devices done left ≡ start
  pub so_far : judged ≡ or_bad first (judge_devices set (take n set.devices) done)

more_devices : (ds : List ReadDevice) (r : ReadDevice) (x : Result ReadAll BadLine) → with_devices ds (with_device r x) ≡ with_devices (ds ++ r ∷ []) x
more_devices ds r (Err e) = refl
more_devices ds r (Ok all) = rw (sym (append_assoc ds (r ∷ []) all.devices))

module _ (set : Set) (i : ℕ) (lt : i < length set.devices) where
  next_device : (old : Reading) → read_devices set (drop i set.devices) old.lines.line old.lines.rest.now
      ≡ after_device (λ line rest. read_devices set (drop (i + 1) set.devices) line rest) (device_read set (device_at set i) (start_of set (device_at set i) old))
  next_device old =
      rw (drop_more set.devices i (record { instance = 0; desc = no_desc; subs = [] }) lt)
      (one_device set (device_at set i) (start_of set (device_at set i) old) (λ line rest. read_devices set (drop (i + 1) set.devices) line rest))

  -- the result for one device
  record Given (old new : Reading) (image : Image) : Type 0 where
    r : ReadDevice
    p : Standing
    read : device_read set (device_at set i) (start_of set (device_at set i) old) ≡ Ok (r, p)
    same : image ≡ r.image
    line : new.lines.line ≡ p.line
    rest : new.lines.rest.now ≡ p.rest
    judged : bad_of new.judged ≡ or_bad (bad_of old.judged) (judge_device set (device_at set i) r)

  given : (x : Result (ReadDevice × Standing) BadLine) (old new : Reading) (image : Image) → device_read set (device_at set i) (start_of set (device_at set i) old) ≡ x
      → DeviceRead set (device_at set i) x old new (Ok image) → Given old new image
  given x old new image e h = grind arith

  refused : (x : Result (ReadDevice × Standing) BadLine) (start : Result ReadAll BadLine) (done : List ReadDevice) (go : ℕ → List ℕ → Result ReadAll BadLine) (begun old new : Reading) (e : LineFault)
      → with_devices done (after_device go x) ≡ start → DeviceRead set (device_at set i) x old new (Err e) → AllRead set start begun new (Err e)
  refused (Ok (r, p)) start done go begun old new (faults.Bad line reason) w h = absurd h
  refused (Err b) start done go begun old new (faults.Bad line reason) w h = subst (λ s. AllRead set s begun new (Err (faults.Bad line reason))) w h
  refused _ start done go begun old new faults.NoMemory w h = tt

  pub gathered_refused : (start : Result ReadAll BadLine) (first judged : Option BadLine) (images : List Image) (begun old new : Reading) (e : LineFault)
      → Gathered set i start first judged images (read_devices set (drop i set.devices) old.lines.line old.lines.rest.now)
      → DeviceRead set (device_at set i) (device_read set (device_at set i) (start_of set (device_at set i) old)) old new (Err e) → AllRead set start begun new (Err e)
  gathered_refused start first judged images begun old new e g h = grind (arith, next_device)

  pub gathered_next : (start : Result ReadAll BadLine) (first : Option BadLine) (images more : List Image) (old new : Reading) (image : Image)
      → Gathered set i start first (bad_of old.judged) images (read_devices set (drop i set.devices) old.lines.line old.lines.rest.now)
      → DeviceRead set (device_at set i) (device_read set (device_at set i) (start_of set (device_at set i) old)) old new (Ok image) → more ≡ images ++ image ∷ []
      → Gathered set (i + 1) start first (bad_of new.judged) more (read_devices set (drop (i + 1) set.devices) new.lines.line new.lines.rest.now)
  gathered_next start first images more old new image g h m =
      let d = device_at set i in
      let k = given (device_read set d (start_of set d old)) old new image refl h in
      let rest = λ (line : ℕ) (rest : List ℕ). read_devices set (drop (i + 1) set.devices) line rest in
      record {
        done = g.done ++ k.r ∷ [];
        count = rw (length-append g.done (k.r ∷ []), g.count);
        images_are = map-append (λ r. r.image) g.done (k.r ∷ []) ∙ ap (λ l. l ++ k.r.image ∷ []) g.images_are ∙ ap (λ x. images ++ x ∷ []) (sym k.same) ∙ sym m;
        whole = ap₂ (λ n l. with_devices (g.done ++ k.r ∷ []) (rest n l)) k.line k.rest ∙ sym (more_devices g.done k.r (rest k.p.line k.p.rest))
            ∙ rw (next_device old, k.read) at g.whole;
        so_far = rw (
          k.judged,
          g.so_far,
          or_bad_assoc first (judge_devices set (take i set.devices) g.done) (judge_device set d k.r),
          take_more set.devices i (record { instance = 0; desc = no_desc; subs = [] }) lt,
          judge_more set (take i set.devices) g.done d k.r (length-take-le i set.devices (omega arith) ∙ sym g.count),
        );
      }

-- all devices are read
pub gathered_all : (set : Set) (n : ℕ) (start : Result ReadAll BadLine) (images : List Image) (begun now : Reading) → length set.devices ≡ n
    → Gathered set n start (bad_of begun.judged) (bad_of now.judged) images (read_devices set (drop n set.devices) now.lines.line now.lines.rest.now) → AllRead set start begun now (Ok images)
gathered_all set n start images begun now e g =
    let first = bad_of begun.judged in
    let all : take n set.devices ≡ set.devices = take_all n set.devices (omega arith) in
    let same : g.done ++ [] ≡ g.done = append-nil g.done in
    subst (λ s. AllRead set s begun now (Ok images))
    (ap (λ l. with_devices g.done (read_devices set l now.lines.line now.lines.rest.now)) (sym (drop_all n set.devices (omega arith))) ∙ g.whole) (
      ap (map (λ r. r.image)) same ∙ g.images_are,
      refl,
      refl,
      g.so_far ∙ ap (λ l. or_bad first (judge_devices set l g.done)) all ∙ ap (λ l. or_bad first (judge_devices set set.devices l)) (sym same),
    )

-- ---- Subsections that are read one after the other.

abbrev after_sub : ℕ → (Standing → Result ReadSubs BadLine) → Result (Option ℕ × Standing) BadLine → Result ReadSubs BadLine
after_sub line go (Ok (o, q)) = also o line (go q)
after_sub line go (Err b) = Err b

one_sub : (set : Set) (s : Sub) (at : ℕ) (p : Standing) (o : Option (Option ℕ)) (go : Standing → Result ReadSubs BadLine) → read_sub set s at p o go ≡ after_sub p.line go (said_read set s at p o)
one_sub set s at p o go = grind arith

next_sub : (set : Set) (i j : ℕ) (p : Standing) → j < length (device_at set i).subs
    → read_subs set (first_cell set (parts.Sub i j)) (drop j (device_at set i).subs) p
    ≡ after_sub p.line (λ q. read_subs set (first_cell set (parts.Sub i (j + 1))) (drop (j + 1) (device_at set i).subs) q) (sub_read set (sub_at (device_at set i) j) (first_cell set (parts.Sub i j)) p)
next_sub set i j p lt =
    let d = device_at set i in
    let s = sub_at d j in
    let at = first_cell set (parts.Sub i j) in
    let none : Sub = record { desc = no_desc; needed = AtLeast 0 } in
    rw (drop_more d.subs j none lt, sub_next set (own_cells set d) d.subs j none lt)
    (one_sub set s at p (sub_said s (first_line p.rest)) (λ q. read_subs set (at + length (desc_cells (struct_cells set) s.desc)) (drop (j + 1) d.subs) q))

abbrev pub with_subs : List (Option ℕ) → List ℕ → Result ReadSubs BadLine → Result ReadSubs BadLine
with_subs came lines (Err b) = Err b
with_subs came lines (Ok r) = Ok (record { place = r.place; came = came ++ r.came; lines = lines ++ r.lines })

-- the first n subsections came so and have these lines; the rest of the reading is the whole reading
pub record Follows (start : Result ReadSubs BadLine) (n : ℕ) (came : List (Option ℕ)) (lines : List ℕ) (left : Result ReadSubs BadLine) : Type 0 where
  pub whole : with_subs (take n came) lines left ≡ start

pub follows_none : (start : Result ReadSubs BadLine) (came : List (Option ℕ)) (lines : List ℕ) (left : Result ReadSubs BadLine) → lines ≡ [] → left ≡ start → Follows start 0 came lines left
follows_none start came lines left e f = grind arith

more_subs : (came : List (Option ℕ)) (lines : List ℕ) (o : Option ℕ) (line : ℕ) (r : Result ReadSubs BadLine) → with_subs came lines (also o line r) ≡ with_subs (came ++ o ∷ []) (lines ++ line ∷ []) r
more_subs came lines o line (Err b) = refl
more_subs came lines o line (Ok r) = rw (sym (append_assoc came (o ∷ []) r.came), sym (append_assoc lines (line ∷ []) r.lines))

module _ (set : Set) (i j : ℕ) (lt : j < length (device_at set i).subs) where
  pub follows_next : (start : Result ReadSubs BadLine) (old new : Taken) (lines more : List ℕ) (o : Option ℕ) (q : Standing)
      → Follows start j old.image.came lines (read_subs set (first_cell set (parts.Sub i j)) (drop j (device_at set i).subs) (place_of old))
      → j < length old.image.came → sub_read set (sub_at (device_at set i) j) (first_cell set (parts.Sub i j)) (place_of old) ≡ Ok (o, q) → q ≡ place_of new
      → new.image.came ≡ slice_set old.image.came j o → more ≡ lines ++ old.lines.line ∷ []
      → Follows start (j + 1) new.image.came more (read_subs set (first_cell set (parts.Sub i (j + 1))) (drop (j + 1) (device_at set i).subs) (place_of new))
  follows_next start old new lines more o q f room r e c m = search (arith, next_sub, take_more_set, more_subs)

  pub follows_stop : (start : Result ReadSubs BadLine) (old : Taken) (lines : List ℕ) (b : BadLine)
      → Follows start j old.image.came lines (read_subs set (first_cell set (parts.Sub i j)) (drop j (device_at set i).subs) (place_of old))
      → sub_read set (sub_at (device_at set i) j) (first_cell set (parts.Sub i j)) (place_of old) ≡ Err b → start ≡ Err b
  follows_stop start old lines b f r = grind (arith, next_sub)

pub record Came (r : Result (Option ℕ × Standing) BadLine) (j : ℕ) (old new : Taken) : Type 0 where
  pub o : Option ℕ
  pub q : Standing
  pub read : r ≡ Ok (o, q)
  pub place : q ≡ place_of new
  pub came : new.image.came ≡ slice_set old.image.came j o
  pub alike : IsAlike old.image new.image

pub sub_came : (r : Result (Option ℕ × Standing) BadLine) (j : ℕ) (old new : Taken) → SubReached r j old new (Ok tt) → Came r j old new
sub_came r j old new h = grind arith

pub subs_end : (start : Result ReadSubs BadLine) (set : Set) (at n : ℕ) (subs : List Sub) (old new : Taken) (lines : List ℕ)
    → Follows start n new.image.came lines (read_subs set at subs (place_of new)) → subs ≡ [] → n ≡ length new.image.came → IsAlike old.image new.image → SubsReached start old new lines (Ok tt)
subs_end start set at n subs old new lines f none all same =
    let left : read_subs set at subs (place_of new) ≡ Ok (record { place = place_of new; came = []; lines = [] }) = rw none in
    let whole : start ≡ Ok (record { place = place_of new; came = take n new.image.came ++ []; lines = lines ++ [] }) = sym f.whole ∙ ap (with_subs (take n new.image.came) lines) left in
    rw whole (refl, append-nil (take n new.image.came) ∙ take_all n new.image.came (omega arith), append-nil lines, same)

pub subs_bad : (start : Result ReadSubs BadLine) (r : Result (Option ℕ × Standing) BadLine) (j : ℕ) (old new mid : Taken) (lines : List ℕ) (e : LineFault)
    → ((b : BadLine) → r ≡ Err b → start ≡ Err b) → SubReached r j mid new (Err e) → SubsReached start old new lines (Err e)
subs_bad start r j old new mid lines e h f = grind arith

pub alike_more : (a b c : Typed) → IsAlike a b → IsAlike b c → IsAlike a c
alike_more a b c h k = record { version = k.version ∙ h.version; subs = k.subs ∙ h.subs; cells = k.cells ∙ h.cells; kinds = k.kinds ∙ h.kinds }

pub of_alike : (set : Set) (i : ℕ) (a b : Typed) → IsOfDevice set i (state_of a) → IsAlike a b → IsOfDevice set i (state_of b)
of_alike set i a b h k = record { is_device = h.is_device; cells = k.cells ∙ h.cells; subs = k.subs ∙ h.subs; few = rw k.cells h.few }

pub subs_alike : (r : Result ReadSubs BadLine) (old new : Taken) (lines : List ℕ) → SubsReached r old new lines (Ok tt) → IsAlike old.image new.image
subs_alike r old new lines h = grind arith
