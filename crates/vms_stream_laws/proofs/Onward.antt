-- Units with which a stream can go on. Units without a fault go on to an end, if every validation
-- holds.
use Rattle.vms_stream_laws.proofs.Facade
use Facade.{BeginningLaw, Begins, HoldsBefore, ◌≡◌, ℕ, zero, suc, ◌+◌, ◌<◌, Bool, true, false, ◌&&◌, List, [], ◌∷◌, length, drop}
use Facade.{slice_set, ℤ, pos, Some, None, refl, ◌∙◌, arith, slice_get, le-ltb, InRange, Kind, U8, Slot, raw, exceeds, is_above, is_truth, Set, slots}
use Facade.{AllCame, Number, Constant, is_below, not_above, same_number_itself, AreConstants, AfterFields, due_field, Known, Tail, skipped, first_of, ◌≤◌}
use Facade.{◌++◌, append_assoc, length-drop, length-set, Option, sym, ap, replicate, leb-true, length-map, length-replicate, slice_get_within, IsBytes}
use Facade.{bytes_both, IsGood, FitsHeads, Image, own_cells, sub_place, at_option, Device, Sub, come, device, device_named, id_of, image, mark_come, opened}
use Facade.{part, part_slots, slots_of_sub, magic, Piece, Magic, Version, Configuration, Head, Filler, Foot, End, spell, spelled, WellFormed, device_parts}
use Facade.{well_good, none_missing, own_constants, part_constants, Due, AVersion, Between, May, AtMagic, AtVersion, AtHead, AtEnd, AtNumber, AtConstant}
use Facade.{AtFiller, AtFoot, AtNext, due, fits_four, holds, is_foot, Front, owes, Bare, known, passed, tail, reason_of, end_passes, foot_passes, head_passes}
use Facade.{AreBytes, be32_bytes, bytes_at, code_bytes, foot_bytes, head_bytes, parts_named, zeros_bytes, RefusedLaw, unruled, subst, append-nil}
use Facade.{take-append_seam, bytes_first, Ends, units_hold}
use Rattle.vms_stream_laws.proofs.Parts.{every_holds as all_hold, from_bare, to_bare}
use Rattle.vms_stream_laws.proofs.WellFormed.{bounded, still_fits, still_well}
use Rattle.vms_kinds.specs.declared.Kind.TheVariants.{Bool as Truth}
use Rattle.vms_spec.proofs.WellFormedLaws.{beyond as is_beyond}
use Rattle.vms_spec.specs.Layout.{Number as NumberSlot, Constant as ConstantSlot, Filler as FillerSlot, Rule as RuleSlot}
use Rattle.vms_stream.proofs.Written.{spelled as spelled_bytes}
use Rattle.vms_stream.specs.Dues.{Field}

-- ---- units of a part that no row takes

pub zero_in : (kind : Kind) → InRange (raw kind) (pos 0)
zero_in U8 = (omega arith, omega arith)
zero_in _ = (omega arith, omega arith)

pub raw_in : (kind : Kind) (z : ℤ) → InRange kind z → InRange (raw kind) z
raw_in kind z r = search (arith, not_above, is_below)

-- a truth value that is in range is 0 or 1
fits_truth : (kind : Kind) (z : ℤ) → InRange kind z → (is_truth kind && is_above z 1) ≡ false
fits_truth Truth z r = is_below z 1 r.1
fits_truth kind z r = refl

zero_fits : (capacities : List ℕ) → exceeds capacities (pos 0) ≡ false
zero_fits [] = refl
zero_fits (most ∷ capacities) = rw (le-ltb most 0 (omega arith)) (zero_fits capacities)

module _ (set : Set) (names : List (List ℕ)) (so_far : Known) where
  zero_kind : (kind : Kind) → (is_truth kind && is_above (pos 0) 1) ≡ false
  zero_kind Truth = refl
  zero_kind kind = refl

  pub number_passes : (k c : ℕ) (kind : Kind) (capacities : List ℕ) → first_of set names (Field k (NumberSlot c kind capacities)) so_far (Number c kind (pos 0)) ≡ None
  number_passes k c kind capacities = rw (zero_kind kind, zero_fits capacities)

  pub constant_passes : (k : ℕ) (kind : Kind) (z : ℤ) → InRange kind z → first_of set names (Field k (ConstantSlot kind z)) so_far (Constant kind z) ≡ None
  constant_passes k kind z r = rw (fits_truth kind z r, same_number_itself z)

-- ---- the slot that is due

-- What comes next of the slots that are left: nothing, a number, a constant, or unused bytes.
pub data Next (t : Tail) (k : ℕ) (left : List Slot) : Type 0 where
  AllPassed : due_field t (Some k) left ≡ AfterFields k t → Next t k left
  ANumber : (c : ℕ) (kind : Kind) (capacities : List ℕ) → due_field t (Some k) left ≡ Field k (NumberSlot c kind capacities) → skipped left < length left → Next t k left
  AConstant : (kind : Kind) (z : ℤ) → InRange kind z → due_field t (Some k) left ≡ Field k (ConstantSlot kind z) → skipped left < length left → Next t k left
  AFiller : (n : ℕ) → due_field t (Some k) left ≡ Field k (FillerSlot n) → skipped left < length left → Next t k left

skips : (t : Tail) (k : ℕ) (slot : Slot) (left : List Slot) → due_field t (Some k) (slot ∷ left) ≡ due_field t (Some k) left → skipped (slot ∷ left) ≡ suc (skipped left)
    → Next t k left → Next t k (slot ∷ left)
skips t k slot left same more (AllPassed e) = AllPassed (same ∙ e)
skips t k slot left same more (ANumber c kind capacities e lt) = ANumber c kind capacities (same ∙ e) (omega arith)
skips t k slot left same more (AConstant kind z r e lt) = AConstant kind z r (same ∙ e) (omega arith)
skips t k slot left same more (AFiller n e lt) = AFiller n (same ∙ e) (omega arith)

pub next_of : (t : Tail) (k : ℕ) (left : List Slot) → AreConstants left → Next t k left
next_of t k [] a = AllPassed refl
next_of t k (RuleSlot b ∷ left) a = skips t k (RuleSlot b) left refl refl (next_of t k left a)
next_of t k (FillerSlot zero ∷ left) a = skips t k (FillerSlot zero) left refl refl (next_of t k left a)
next_of t k (FillerSlot (suc n) ∷ left) a = AFiller (suc n) refl (omega arith)
next_of t k (NumberSlot c kind capacities ∷ left) a = ANumber c kind capacities refl (omega arith)
next_of t k (ConstantSlot kind z ∷ left) a = AConstant kind z a.0 refl (omega arith)

pub constants_left : (n : ℕ) (slots : List Slot) → AreConstants slots → AreConstants (drop n slots)
constants_left zero slots a = a
constants_left (suc n) [] a = tt
constants_left (suc n) (ConstantSlot kind z ∷ slots) a = constants_left n slots a.1
constants_left (suc n) (_ ∷ slots) a = constants_left n slots a

-- ---- devices that have not come

abbrev pub waiting : List Bool → ℕ
waiting [] = 0
waiting (true ∷ came) = waiting came
waiting (false ∷ came) = suc (waiting came)

pub data Waits (came : List Bool) : Type 0 where
  NoneWaits : AllCame came → Waits came
  OneWaits : (k : ℕ) → slice_get came k ≡ Some false → waiting (slice_set came k true) + 1 ≡ waiting came → Waits came

pub waits : (came : List Bool) → Waits came
waits [] = NoneWaits tt
waits (false ∷ came) = OneWaits 0 refl (omega arith)
waits (true ∷ came) = by (waits came)
  where
    by : Waits came → Waits (true ∷ came)
    by (NoneWaits all) = NoneWaits all
    by (OneWaits k e less) = OneWaits (suc k) e less

-- ---- units without a fault go on to an end, if every validation holds. The open section's fields come with the number 0, its
-- constants and unused bytes. Then come its footer, a section of each device that hasn't come, and the end mark.

-- ---- units go on

-- followed by these, they are units without a fault after which none must come
pub record Ending (set : Set) (names : List (List ℕ)) (u : List Piece) : Type 0 where
  pub more : List Piece
  pub front : Front set names (more ++ u)
  pub over : owes (due set (more ++ u)) [] ≡ false
  pub octets : IsBytes (spelled u) → IsBytes (spelled (more ++ u))

module _ (set : Set) (names : List (List ℕ)) (well : WellFormed set) (heads : FitsHeads set) (holding : (u : List Piece) → holds set u ≡ true) where
  good : IsGood set
  good = well_good set well heads

  abbrev Goes : List Piece → Type 0
  Goes u = Ending set names u

  abbrev Fine : List Piece → Type 0
  Fine u = Front set names u

  over_here : (u : List Piece) → Fine u → owes (due set u) [] ≡ false → Goes u
  over_here u front over = record { more = []; front = front; over = over; octets = λ ok. ok }

  -- by one more unit
  on : (u : List Piece) (x : Piece) → Fine u → May (due set u) x → reason_of set names u x ≡ None → AreBytes (spell x) → (Fine (x ∷ u) → Goes (x ∷ u)) → Goes u
  on u x front may none ok next =
      let e = next (front, holding u, may, none) in
      let is : e.more ++ (x ∷ u) ≡ (e.more ++ x ∷ []) ++ u = sym (append_assoc e.more (x ∷ []) u) in
      record {
        more = e.more ++ x ∷ [];
        front = rw is at e.front;
        over = rw is at e.over;
        octets = λ h. rw is at (e.octets (bytes_both (spelled u) (spell x) h (bytes_at (spell x) ok)));
      }

  -- ---- the fields of the open part

  constants_of : (o : Option ℕ) (i : Image) (p : Option ℕ) → AreConstants (part_slots set (at_option set.devices o) i p)
  constants_of None i p = tt
  constants_of (Some k) i p = by (slice_get set.devices k) refl p
    where
      of_sub : (d : Device) → slice_get set.devices k ≡ Some d → (j : ℕ) (s : Option Sub) → slice_get d.subs j ≡ s → (c : Option (Option ℕ)) → AreConstants (slots_of_sub set d i j s c)
      of_sub d e j (Some s) f (Some (Some v)) = part_constants set good k j d s e f v (sub_place set (own_cells set d) d.subs j) i.numbers
      of_sub d e j _ f _ = tt

      by : (o : Option Device) → slice_get set.devices k ≡ o → (p : Option ℕ) → AreConstants (part_slots set o i p)
      by None e p = tt
      by (Some d) e None = own_constants set good k d e i.version 0 i.numbers
      by (Some d) e (Some j) = of_sub d e j (slice_get d.subs j) refl (slice_get i.came j)

  abbrev left : List Piece → List Slot
  left u = drop (passed set u) (slots set u)

  -- the due unit of the open part, or what comes after its fields
  one_field : (u : List Piece) (k : ℕ) → Fine u → due set u ≡ due_field (tail set u) (Some k) (left u) → Next (tail set u) k (left u)
      → ((c : ℕ) (kind : Kind) → skipped (left u) < length (left u) → Fine (Number c kind (pos 0) ∷ u) → Goes (Number c kind (pos 0) ∷ u))
      → ((kind : Kind) (z : ℤ) → skipped (left u) < length (left u) → Fine (Constant kind z ∷ u) → Goes (Constant kind z ∷ u))
      → ((n : ℕ) → skipped (left u) < length (left u) → Fine (Filler (replicate n 0) ∷ u) → Goes (Filler (replicate n 0) ∷ u))
      → (due set u ≡ AfterFields k (tail set u) → Goes u) → Goes u
  one_field u k front is (AllPassed e) number constant filler behind = behind (is ∙ e)
  one_field u k front is (ANumber c kind capacities e lt) number constant filler behind =
      on u (Number c kind (pos 0)) front (rw (is ∙ e) (AtNumber k c kind capacities (pos 0) (zero_in kind)))
      (rw (is ∙ e) (number_passes set names (known set u) k c kind capacities)) (code_bytes kind (pos 0)) (number c kind lt)
  one_field u k front is (AConstant kind z r e lt) number constant filler behind =
      on u (Constant kind z) front (rw (is ∙ e) (AtConstant k kind z z (raw_in kind z r))) (rw (is ∙ e) (constant_passes set names (known set u) k kind z r))
      (code_bytes kind z) (constant kind z lt)
  one_field u k front is (AFiller n e lt) number constant filler behind =
      on u (Filler (replicate n 0)) front (rw (is ∙ e) (AtFiller k n (replicate n 0) (length-replicate n 0)))
      refl (zeros_bytes n) (filler n lt)

  -- more slots than there are aren't passed
  never_past : (u : List Piece) (most : ℕ) → length (slots set u) ≤ most → most ≤ passed set u + 0 → skipped (left u) < length (left u) → ⊥
  never_past u most fits far lt = omega (arith, length-drop (passed set u) (slots set u))

  abbrev Fits : List Piece → ℕ → Type 0
  Fits u most = (i : Image) → length (part_slots set (device set u) i (part set u)) ≤ most

  -- what the units so far say after the fields
  abbrev Behind : ℕ → List Bool → Type 0
  Behind k came = (w : List Piece) → Fine w → due set w ≡ AfterFields k (tail set w) → come set w ≡ came → Goes w

  -- all fields that are left
  fields_on : (fuel : ℕ) (u : List Piece) (k most : ℕ) → Fine u → opened set u ≡ Some k → due set u ≡ due_field (tail set u) (Some k) (left u) → Fits u most → most ≤ passed set u + fuel
      → Behind k (come set u) → Goes u
  fields_on zero u k most front opened_so is fits far next =
      one_field u k front is
      (next_of (tail set u) k (left u) (constants_left (passed set u) (slots set u) (constants_of (opened set u) (image set u) (part set u))))
      (λ c kind lt f. absurd (never_past u most (fits (image set u)) far lt)) (λ kind z lt f. absurd (never_past u most (fits (image set u)) far lt))
      (λ n lt f. absurd (never_past u most (fits (image set u)) far lt)) (λ e. next u front e refl)
  fields_on (suc fuel) u k most front opened_so is fits far next =
      let far' : most ≤ suc (passed set u + skipped (left u)) + fuel = omega arith in
      let field : (x : Piece) → opened set (x ∷ u) ≡ Some k → due_field (tail set (x ∷ u)) (opened set (x ∷ u)) (left (x ∷ u)) ≡ due_field (tail set (x ∷ u)) (Some k) (left (x ∷ u)) =
      λ x e. rw e in
      one_field u k front is
      (next_of (tail set u) k (left u) (constants_left (passed set u) (slots set u) (constants_of (opened set u) (image set u) (part set u))))
      (λ c kind lt f. fields_on fuel (Number c kind (pos 0) ∷ u) k most f opened_so (field (Number c kind (pos 0)) opened_so) fits far' next)
      (λ kind z lt f. fields_on fuel (Constant kind z ∷ u) k most f opened_so (field (Constant kind z) opened_so) fits far' next)
      (λ n lt f. fields_on fuel (Filler (replicate n 0) ∷ u) k most f opened_so (field (Filler (replicate n 0)) opened_so) fits far' next)
      (λ e. next u front e refl)

  -- a part whose fields aren't all passed
  part_on : (u : List Piece) (k : ℕ) → Fine u → opened set u ≡ Some k → due set u ≡ due_field (tail set u) (Some k) (left u) → Behind k (come set u) → Goes u
  part_on u k front opened_so is next =
      let b = bounded set (device set u) (part set u) in
      fields_on b.most u k b.most front opened_so is b.fits (omega arith) next

  -- ---- between sections

  -- a section head and the end mark may come
  record Opens (u : List Piece) : Type 0 where
    head : (id : ℕ) (name : List ℕ) (instance v : ℕ) → fits_four id → fits_four instance → fits_four v → May (due set u) (Head id name instance v)
    end : May (due set u) End

  opens_between : (u : List Piece) (first after : Bool) → due set u ≡ Between first after → Opens u
  opens_between u first after is = record {
    head = λ id name instance v f g h. rw is (AtHead first after id name instance v f g h);
    end = rw is (AtEnd first after);
  }

  opens_bare : (u : List Piece) (k : ℕ) → due set u ≡ AfterFields k Bare → Opens u
  opens_bare u k is = record {
    head = λ id name instance v f g h. rw is (AtNext k Bare (Head id name instance v) refl (AtHead false false id name instance v f g h));
    end = rw is (AtNext k Bare End refl (AtEnd false false));
  }

  abbrev Open : List Bool → Type 0
  Open came = (w : List Piece) → Fine w → Opens w → come set w ≡ came → Goes w

  abbrev IdFits : Piece → Type 0
  IdFits (Head id name instance v) = fits_four id
  IdFits x = Unit {0}

  may_id : (d : Due) (x : Piece) → May d x → IdFits x
  may_id _ _ (AtHead first after id name instance v f g h) = f
  may_id _ x (AtNext k t _ f may) = may_id (Between false false) x may
  may_id _ _ _ = tt

  id_fits : (u : List Piece) → Fine u → fits_four (id_of u)
  id_fits [] front = omega arith
  id_fits (Head id name instance v ∷ u) front = may_id (due set u) (Head id name instance v) front.2
  id_fits (x ∷ u) front = id_fits u front.0

  foot_on : (u : List Piece) (k : ℕ) (t : Tail) → is_foot t 0x7e ≡ true → Fine u → due set u ≡ AfterFields k t → Open (come set u) → Goes u
  foot_on u k t may front is next =
      let x = Foot (id_of u) in
      on u x front (rw is (AtFoot k t (id_of u) may (id_fits u front)))
      (foot_passes set names (due set u) (known set u) (id_of u) refl) (foot_bytes (id_of u)) (λ f. next (x ∷ u) f (opens_between (x ∷ u) false false refl) refl)

  -- after the fields of a section comes its footer, or, if sections have none, what may come between sections
  close_on : (u : List Piece) (k : ℕ) (t : Tail) → Fine u → due set u ≡ AfterFields k t → Open (come set u) → Goes u
  close_on u k t front is next = grind (arith, foot_on, opens_bare)

  -- a section of a device that has not come
  section_on : (u : List Piece) (k : ℕ) (d : Device) → slice_get set.devices k ≡ Some d → slice_get (come set u) k ≡ Some false → Fine u → Opens u → Open (slice_set (come set u) k true) → Goes u
  section_on u k d there new front opens next =
      let v = d.desc.version in
      let x = Head 0 d.desc.name d.instance v in
      let tops = good.instance k d there in
      let named = good.distinct k d there in
      on u x front (opens.head 0 d.desc.name d.instance v (omega arith) tops.0 tops.1)
      (head_passes set names (due set u) (known set u) 0 d.desc.name d.instance v k d named there new (leb-true d.desc.minimum v (device_parts set well k d there).0.own.1.1.0, omega arith))
      (let named = (parts_named set well k d there).0 in head_bytes 0 d.instance v d.desc.name named.octets named.short)
      (λ f. part_on (x ∷ u) k f named (rw named)
      (λ w g is same. close_on w k (tail set w) g is (λ y h may came. next y h may (came ∙ same ∙ ap (mark_come (come set u)) named))))

  end_on : (u : List Piece) → Fine u → Opens u → AllCame (come set u) → Goes u
  end_on u front opens all =
      on u End front opens.end (end_passes set names (due set u) (known set u) (none_missing 0 (come set u) all)) (omega arith, tt)
      (λ f. over_here (End ∷ u) f refl)

  come_long : (u : List Piece) → length (come set u) ≡ length set.devices
  come_long [] = length-map set.devices (λ (d : Device). false)
  come_long (Head id name instance v ∷ u) = by (device_named set name instance) ∙ come_long u
    where
      by : (o : Option ℕ) → length (mark_come (come set u) o) ≡ length (come set u)
      by None = refl
      by (Some k) = length-set (come set u) k true
  come_long (x ∷ u) = come_long u

  -- the sections of all devices that haven't come, at most this many, and the end mark
  devices_on : (n : ℕ) (u : List Piece) → Fine u → Opens u → waiting (come set u) ≤ n → Goes u
  devices_on zero u front opens few = by (waits (come set u))
    where
      by : Waits (come set u) → Goes u
      by (NoneWaits all) = end_on u front opens all
      by (OneWaits k e less) = absurd (omega arith)
  devices_on (suc n) u front opens few = by (waits (come set u)) (λ w f may le. devices_on n w f may le)
    where
      there : (k : ℕ) → slice_get (come set u) k ≡ Some false → (o : Option Device) → slice_get set.devices k ≡ o → ((d : Device) → slice_get set.devices k ≡ Some d → Goes u) → Goes u
      there k e (Some d) f go = go d f
      there k e None f go = absurd (is_beyond set.devices k (omega (arith, slice_get_within (come set u) k false e, come_long u)) f)

      by : Waits (come set u) → ((w : List Piece) → Fine w → Opens w → waiting (come set w) ≤ n → Goes w) → Goes u
      by (NoneWaits all) again = end_on u front opens all
      by (OneWaits k e less) again =
          there k e (slice_get set.devices k) refl (λ d at. section_on u k d at e front opens (λ w f may came. again w f may (rw came (omega arith))))

  sections_on : (u : List Piece) → Fine u → Opens u → Goes u
  sections_on u front opens = devices_on (waiting (come set u)) u front opens (omega arith)

  -- ---- whatever came

  -- an open part, or none
  inside_on : (u : List Piece) → Fine u → (o : Option ℕ) → opened set u ≡ o → due set u ≡ due_field (tail set u) o (left u) → Goes u
  inside_on u front None opened_so is = over_here u front (rw is)
  inside_on u front (Some k) opened_so is = part_on u k front opened_so is (λ w f due_is same. close_on w k (tail set w) f due_is (λ y g may came. sections_on y g may))

  version_on : (u : List Piece) → Fine u → due set u ≡ AVersion → Goes u
  version_on u front is =
      on u (Version 3) front (rw is (AtVersion 3 (omega arith))) refl (be32_bytes 3)
      (λ f. sections_on (Version 3 ∷ u) f (opens_between (Version 3 ∷ u) true false refl))

  pub goes_on : (u : List Piece) → Fine u → Goes u
  goes_on [] front = on [] (Magic magic) tt (AtMagic magic refl) refl (spelled_bytes magic refl) (λ f. version_on (Magic magic ∷ []) f refl)
  goes_on (Magic bytes ∷ u) front = version_on (Magic bytes ∷ u) front refl
  goes_on (Version v ∷ u) front = sections_on (Version v ∷ u) front (opens_between (Version v ∷ u) true false refl)
  goes_on (Configuration name ∷ u) front = sections_on (Configuration name ∷ u) front (opens_between (Configuration name ∷ u) false true refl)
  goes_on (Foot id ∷ u) front = sections_on (Foot id ∷ u) front (opens_between (Foot id ∷ u) false false refl)
  goes_on (End ∷ u) front = over_here (End ∷ u) front refl
  goes_on (x ∷ u) front = inside_on (x ∷ u) front (opened set (x ∷ u)) refl refl

-- ---- units without a fault are those with which some stream of the set begins, validations aside

module _ (set : Set) (names : List (List ℕ)) where
  begins : WellFormed set → FitsHeads set → (u : List Piece) → IsBytes (spelled u) → Front set names u → Begins set names u
  begins well heads u ok front =
      let bare = unruled set in
      let e = goes_on bare names (still_well set well) (still_fits set heads) (all_hold set) u (to_bare set names u front) in
      let input = spelled (e.more ++ u) in
      let ends : Ends bare names input (length input) (e.more ++ u) =
      record { rest = []; front = e.front; held = all_hold set (e.more ++ u); over = e.over; whole = sym (append-nil input); long = refl } in
      record {
        input = input;
        octets = e.octets ok;
        goes_on = record {
          taken = length input;
          more = e.more;
          ends = ends;
          takes = units_hold bare names (still_well set well) (still_fits set heads) input (length input) (e.more ++ u) (e.octets ok) ends;
        };
      }

  before : (u : List Piece) → Front set names u → HoldsBefore set u
  before [] front = tt
  before (x ∷ u) front = (before u front.0, front.1)

  first_of_more : (more u : List Piece) → Front (unruled set) names (more ++ u) → Front (unruled set) names u
  first_of_more [] u front = front
  first_of_more (x ∷ more) u front = first_of_more more u front.0

pub beginnings_hold : BeginningLaw
beginnings_hold set names well heads u ok = record {
  begins = begins set names well heads u ok;
  before = before set names u;
  front = λ b held. from_bare set names u (first_of_more set names b.goes_on.more u b.goes_on.ends.front) held;
}

bytes_before : (xs ys : List ℕ) → IsBytes (xs ++ ys) → IsBytes xs
bytes_before xs ys ok = subst IsBytes (take-append_seam xs ys) (bytes_first (length xs) (xs ++ ys) ok)

pub refused_hold : RefusedLaw
refused_hold set names well heads input place section reason size ok fault =
    begins set names well heads fault.units (bytes_before (spelled fault.units) fault.rest (subst IsBytes fault.whole ok)) fault.front
