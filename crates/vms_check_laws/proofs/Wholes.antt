-- A device with subsections: what the older set writes is a section of the newer with the carried image. An order that names each remaining
-- one, and none twice, takes each once.
use Rattle.vms_check_laws.proofs.{PairDevices.Found, PairDevices.look_up, PairDevices.comes, PairLists.Settled, PairLists.settled_append, Counts.device_good}
use Rattle.vms_check_laws.proofs.Counts.{sub_good}
use Rattle.vms_check_laws.proofs.Facade
use Facade.{◌≡◌, ◌⊎◌, inl, inr, ℕ, zero, suc, Bool, true, false, cases_eq, slice_get-map, List, ◌∷◌, slice_set, Option, Some, None, refl}
use Facade.{sym, ap, ◌∙◌, slice_get, [], ◌+◌, ◌<◌, ◌++◌, length, map, arith, ℤ, flat_map, slice_get_within, AreAll, ComesOnce, AllCame}
use Facade.{at_other, Part, first_answer, Sub, Device, Set, struct_cells, desc_cells, device_cells, Image, zeroed, own_slots, own_cells, sub_slots, sub_place}
use Facade.{came_slots, IsSection, SubSpells, SubsSpell, sub_head, written_subs, written_section, find_sub, index, is_version_of, WellFormed, comparing}
use Facade.{compare_subs, carrying, carried_sub, carried_device, defaults, sub_came, sub_found, defaults_at, version_decides, rules_append, IsSaved, Holds}
use Facade.{FitsAt, answers_none, at_set, rules_split, sub_size, ◌≤◌, option_and_then, Cell, FitCells, RulesHold, IsReady, ComeAsNeeded, or_else_none}
use Facade.{part_apart, cells_of_sub}
use Rattle.vms_check_laws.proofs.Parts.{Came, Facts, subs_fit, subs_read, sub_held, part_meets, sub_reads, good_cells, Stayed}
use Rattle.vms_check_laws.proofs.Premises.{fit_append, fit_length, are_fit}
use Rattle.vms_check_laws.proofs.Presence.{holds_left, holds_right, holds_at, fits_left, RestAt, at_first, one_on, from_zero, fits_right, fits_at}
use Rattle.vms_spec.specs.declared.Part.TheVariants as parts

abbrev pub Among : ℕ → List ℕ → Type 0
Among a order = (i : ℕ) × (slice_get order i ≡ Some a)

among_rest : (k j : ℕ) (order : List ℕ) → (k ≡ j → ⊥) → (i : ℕ) → slice_get (j ∷ order) i ≡ Some k → Among k order
among_rest k j order ne i e = grind arith

-- Places of a list, open all of them, where `back` gives places of another list that rise.
module _ {A : Type 0} (Open : A → Type 0) (done : A) (back : ℕ → Option ℕ) where
  abbrev pub Rises : List A → ℕ → List ℕ → Type 0
  Rises xs j [] = Unit {0}
  Rises xs j (k ∷ order) = (m : ℕ) × (x : A) × (j ≤ m) × (back k ≡ Some m) × (slice_get xs k ≡ Some x) × Open x × Rises xs (suc m) order

  rises_set : (xs : List A) (k m j : ℕ) (order : List ℕ) → back k ≡ Some m → m < j → Rises xs j order → Rises (slice_set xs k done) j order
  rises_set xs k m j [] is lt h = tt
  rises_set xs k m j (l ∷ order) is lt h = grind (arith, at_other, rises_set xs k m (suc h.0) order is (omega arith) h.6)

  module _ (closed : Open done → ⊥) where
    -- what is still open after one is done is among the rest
    still : (xs : List A) (j k : ℕ) (order : List ℕ) (x y : A) → slice_get xs j ≡ Some y → slice_get (slice_set xs j done) k ≡ Some x → Open x
        → (slice_get xs k ≡ Some x → Among k (j ∷ order)) → Among k order
    still xs j k order x y e h open_x covers = elim (cases_eq k j) [
      | inl same ↦
          let gone = at_set xs j done (slice_get_within xs j y e) in
          let is : done ≡ x = cc in
          absurd (closed (rw is open_x))
      | inr other ↦ let c = covers (sym (at_other xs j k done other) ∙ h) in among_rest k j order other c.0 c.1
    ]

    -- an order that names all that are open takes each once
    pub takes_each : (P : List A → List ℕ → Type 0) → ((xs : List A) → ((k : ℕ) (x : A) → slice_get xs k ≡ Some x → Open x → ⊥) → P xs [])
        → ((xs : List A) (k : ℕ) (x : A) (order : List ℕ) → slice_get xs k ≡ Some x → Open x → P (slice_set xs k done) order → P xs (k ∷ order))
        → (xs : List A) (j : ℕ) (order : List ℕ) → Rises xs j order → ((k : ℕ) (x : A) → slice_get xs k ≡ Some x → Open x → Among k order) → P xs order
    takes_each P none one xs j [] h covers = none xs (λ k x e open_x. (let c = covers k x e open_x in cc (c.1)))
    takes_each P none one xs j (k ∷ order) h covers =
        one xs k h.1 order h.4 h.5
        (takes_each P none one (slice_set xs k done) (suc h.0) order (rises_set xs k h.0 _ order h.3 (omega arith) h.6)
        (λ l x e open_x. still xs k l order x h.1 h.4 e open_x (λ f. covers l x f open_x)))

none_left : (left : List (Option ℕ)) → ((j v : ℕ) → slice_get left j ≡ Some (Some v) → ⊥) → AreAll left
none_left [] h = tt
none_left (None ∷ left) h = none_left left (λ j v e. h (suc j) v e)
none_left (Some u ∷ left) h = h 0 u refl

pub all_came : (came : List Bool) → ((j : ℕ) → slice_get came j ≡ Some false → ⊥) → AllCame came
all_came [] h = tt
all_came (true ∷ came) h = all_came came (λ j e. h (suc j) e)
all_came (false ∷ came) h = h 0 refl

-- ---- a device with subsections

pub fits_whole : (cells : List Cell) (numbers : List ℤ) → FitCells cells numbers → FitsAt cells numbers 0
fits_whole cells numbers h = record { each = λ c lt. let z : c ≡ 0 + c = omega arith in rw (← z) (h.fits c lt) }

pub come_version : (set : Set) (d : Device) (image : Image) (k : ℕ) (subs : List Sub) (came : List (Option ℕ)) (j : ℕ) (s : Sub) (v : ℕ)
    → ComeAsNeeded set d image k subs came → slice_get subs j ≡ Some s → slice_get came j ≡ Some (Some v) → v ≡ s.desc.version
come_version set d image k (x ∷ subs) [] j s v h e e' = absurd h
come_version set d image k (x ∷ subs) (Some u ∷ came) zero s v h e e' = grind arith
come_version set d image k (x ∷ subs) (None ∷ came) (suc j) s v h e e' = come_version set d image (suc k) subs came j s v h.1 e e'
come_version set d image k (x ∷ subs) (Some u ∷ came) (suc j) s v h e e' = come_version set d image (suc k) subs came j s v h.2 e e'
come_version set d image k _ _ _ s v h e e' = absurd (cc)

-- a ready image is a saved one
pub saved : (set : Set) (d : Device) (image : Image) → IsReady set d image → IsSaved set d image
saved set d image r = search (arith, come_version)

pub at_map : {A B : Type 0} (f : A → B) (xs : List A) (j : ℕ) (x : A) → slice_get xs j ≡ Some x → slice_get (map f xs) j ≡ Some (f x)
at_map f xs j x e = rw (slice_get-map f xs j, e)

pub from_map : {A B : Type 0} (f : A → B) (xs : List A) (j : ℕ) (y : B) → slice_get (map f xs) j ≡ Some y → (x : A) × (slice_get xs j ≡ Some x) × (f x ≡ y)
from_map f [] j y e = absurd (cc)
from_map f (x ∷ xs) zero y e = let is : f x ≡ y = cc in (x, refl, is)
from_map f (x ∷ xs) (suc j) y e = from_map f xs j y e

holds_whole : (numbers : List ℤ) → Holds numbers 0 numbers
holds_whole numbers = record { each = λ c lt. let z : 0 + c ≡ c = omega arith in rw z }

abbrev pub sub_order : Device → List Sub → List (Option ℕ) → List ℕ
sub_order e [] came = []
sub_order e (s ∷ subs) [] = []
sub_order e (s ∷ subs) (None ∷ came) = sub_order e subs came
sub_order e (s ∷ subs) (Some v ∷ came) = index (find_sub 0 e.subs s.desc.name) ∷ sub_order e subs came

module _ (old new : Set) (good_old : WellFormed old) (good_new : WellFormed new) (i k : ℕ) (d e : Device) (at_i : slice_get old.devices i ≡ Some d)
    (at_k : slice_get new.devices k ≡ Some e)
    (none : first_answer (compare_subs old new i k e) 0 d.subs ≡ None) (image : Image) (ready : IsSaved old d image) where
  sub_pair : (j : ℕ) (s : Sub) → slice_get d.subs j ≡ Some s → Found e.subs s.desc.name
  sub_pair j s at_j = grind (arith, look_up, answers_none)

  abbrev own : List ℤ
  own = carrying old new image.numbers image.version d.desc e.desc 0

  abbrev rest : List ℤ
  rest = flat_map (carried_sub old new d image) e.subs

  abbrev numbers' : List ℤ
  numbers' = own ++ rest

  abbrev image' : Image
  image' = carried_device old new d e image

  -- ---- what two sets without a mismatch give for each subsection of new

  abbrev came : Sub → Option ℕ
  came t = sub_came old new (find_sub 0 d.subs t.desc.name) (slice_get image.came (index (find_sub 0 d.subs t.desc.name)))

  abbrev FactOf : Sub → Type 0
  FactOf t = Stayed old new good_old good_new d e image numbers' came t ⊎ Came old new good_old good_new d e image numbers' came t

  stayed : (l : ℕ) (t : Sub) → slice_get e.subs l ≡ Some t → came t ≡ None
      → carried_sub old new d image t ≡ defaults (desc_cells (struct_cells new) t.desc) → FactOf t
  stayed l t at_l h is = inl (record { came = h; numbers = is; good = good_cells old new good_old good_new t.desc (sub_good new good_new k l e t at_k at_l) })

  compared : (j l : ℕ) (s t : Sub) → slice_get d.subs j ≡ Some s → slice_get e.subs l ≡ Some t → s.desc.name ≡ t.desc.name
      → (is_version_of t.desc s.desc.version ≡ true) × (comparing old new s.desc t.desc s.desc.version (parts.Sub i j) (parts.Sub k l) ≡ None)
  compared j l s t at_j at_l names = grind (arith, sub_found, answers_none, or_else_none)

  abbrev came_is : (j l : ℕ) (s t : Sub) (v : ℕ) → slice_get d.subs j ≡ Some s → slice_get e.subs l ≡ Some t → s.desc.name ≡ t.desc.name
      → slice_get image.came j ≡ Some (Some v) → find_sub 0 d.subs t.desc.name ≡ Some j → Came old new good_old good_new d e image numbers' came t
  came_is j l s t v at_j at_l names at_came found =
      let c = compared j l s t at_j at_l names in
      let v_is : v ≡ s.desc.version = ready.subs j s v at_j at_came in
      let subs_fit : FitsAt (flat_map (λ u. desc_cells (struct_cells old) u.desc) d.subs) image.numbers (own_cells old d) =
      fits_at (omega arith) (fits_right (desc_cells (struct_cells old) d.desc) (fits_whole (device_cells old d) image.numbers ready.normal.cells)) in
      record {
        sub = s;
        version = v;
        place = sub_place old (own_cells old d) d.subs j;
        part = parts.Sub i j;
        part' = parts.Sub k l;
        came = rw (found, at_came);
        numbers = rw (found, at_j, at_came);
        good = sub_good old good_old i j d s at_i at_j;
        good' = sub_good new good_new k l e t at_k at_l;
        same = rw v_is c.1;
        fits = cells_of_sub (λ at xs. FitsAt xs image.numbers at) (λ at xs ys. fits_left ys) (λ at xs ys. fits_right xs) old _ d.subs j s at_j subs_fit;
        rules = part_apart old d image.numbers RulesHold rules_split (own_cells old d) d.subs image.came
            (rules_split (own_slots old d image.version image.numbers) _ ready.valid).1 j s v at_j at_came;
        within = rw v_is ((version_decides t.desc s.desc.version).0 c.0);
      }

  fact : (l : ℕ) (t : Sub) → slice_get e.subs l ≡ Some t → FactOf t
  fact l t at_l = elim (comes old new d image t) [
    | inl h ↦ stayed l t at_l h.came h.segment
    | inr h ↦ inr (came_is _ l h.f.sub t h.v h.f.there at_l h.f.name_is h.is_come h.f.found)
  ]

  facts_from : (l : ℕ) (ts : List Sub) → RestAt e.subs l ts → Facts old new good_old good_new d e image numbers' came ts
  facts_from l [] h = tt
  facts_from l (t ∷ ts) h = (fact l t (at_first (slice_get e.subs) l h), facts_from (suc l) ts (one_on (slice_get e.subs) l h))

  -- all subsections of new
  facts : Facts old new good_old good_new d e image numbers' came e.subs
  facts = facts_from 0 e.subs (from_zero (slice_get e.subs))

  back : (j : ℕ) (s : Sub) → slice_get d.subs j ≡ Some s → (p : Found e.subs s.desc.name) → find_sub 0 d.subs p.sub.desc.name ≡ Some j
  back j s at_j p = grind (arith, sub_found)

  abbrev came_here : (j : ℕ) (s : Sub) (v : ℕ) (at_j : slice_get d.subs j ≡ Some s) → slice_get image.came j ≡ Some (Some v) → (p : Found e.subs s.desc.name)
      → Came old new good_old good_new d e image numbers' came p.sub
  came_here j s v at_j at_came p = came_is j p.number s p.sub v at_j p.there (sym p.name_is) at_came (back j s at_j p)

  -- ---- each subsection that is present is there once, and spelled

  order_has : (subs : List Sub) (cs : List (Option ℕ)) (j l v : ℕ) (s : Sub) → slice_get subs j ≡ Some s → slice_get cs j ≡ Some (Some v)
      → index (find_sub 0 e.subs s.desc.name) ≡ l → Among l (sub_order e subs cs)
  order_has (x ∷ subs) (Some u ∷ cs) zero l v s h h' is = let same : x ≡ s = cc in (0, rw (same, is))
  order_has (x ∷ subs) (None ∷ cs) (suc j) l v s h h' is = order_has subs cs j l v s h h' is
  order_has (x ∷ subs) (Some u ∷ cs) (suc j) l v s h h' is = let r = order_has subs cs j l v s h h' is in (suc r.0, r.1)
  order_has _ _ _ l v s h h' is = absurd (cc)

  each_come : (l v : ℕ) → slice_get image'.came l ≡ Some (Some v) → Among l (sub_order e d.subs image.came)
  each_come l v h =
      let f = from_map came e.subs l (Some v) h in
      elim (comes old new d image f.0) [
        | inl stays ↦ absurd (cc (stays.came, f.2))
        | inr g ↦
            let found : find_sub 0 e.subs g.f.sub.desc.name ≡ Some l = rw g.f.name_is (sub_found new good_new k l e f.0 at_k f.1) in
            order_has d.subs _ _ l g.v g.f.sub g.f.there g.is_come (ap index found)
      ]

  module _ (held : Holds numbers' (own_cells new e) rest) where
    one_spell : (j : ℕ) (s : Sub) (v : ℕ) (at_j : slice_get d.subs j ≡ Some s) (at_came : slice_get image.came j ≡ Some (Some v)) (p : Found e.subs s.desc.name)
        → SubSpells new e image' p.number (slice_get e.subs p.number) (slice_get image'.came p.number)
        (sub_head s.desc.name v ++ zeroed image.numbers (sub_slots old s v image.numbers (sub_place old (own_cells old d) d.subs j)))
    one_spell j s v at_j at_came p =
        let c = came_here j s v at_j at_came p in
        let body = zeroed image.numbers (sub_slots old s v image.numbers (sub_place old (own_cells old d) d.subs j)) in
        let held_t = sub_held old new good_old good_new d e image numbers' came e.subs _ p.number p.sub p.there facts held in
        let spells = (sub_reads old new good_old good_new d e image _ came p.sub c _ held_t).carries.spells in
        rw (p.there, at_map came e.subs _ p.sub p.there, c.came) (body, spells, rw p.name_is)

    -- the subsections from one on: their bytes, and each that is present once
    record Walk (j : ℕ) (subs : List Sub) (cs : List (Option ℕ)) (place : ℕ) : Type 0 where
      spells : SubsSpell new e image' (sub_order e subs cs) (written_subs old d image place subs cs)
      rises : (m : ℕ) → m ≤ j → Rises (λ o. (v : ℕ) × (o ≡ Some v)) None (λ l. option_and_then (λ t. find_sub 0 d.subs t.desc.name) (slice_get e.subs l))
          image'.came m (sub_order e subs cs)

    walk : (j place : ℕ) (subs : List Sub) (cs : List (Option ℕ)) → RestAt d.subs j subs → RestAt image.came j cs
        → ((m : ℕ) → sub_place old (own_cells old d) d.subs (j + m) ≡ sub_place old place subs m) → Walk j subs cs place
    walk j place (s ∷ subs) (None ∷ cs) h h' h'' =
        let more = walk (suc j) (place + sub_size old s) subs cs
        (one_on (slice_get d.subs) j h) (one_on (slice_get image.came) j h') (one_on (sub_place old (own_cells old d) d.subs) j h'') in
        record { spells = more.spells; rises = λ m le. more.rises m (omega arith) }
    walk j place (s ∷ subs) (Some v ∷ cs) h h' h'' =
        let next = place + sub_size old s in
        let more = walk (suc j) next subs cs
        (one_on (slice_get d.subs) j h) (one_on (slice_get image.came) j h') (one_on (sub_place old (own_cells old d) d.subs) j h'') in
        let at_j : slice_get d.subs j ≡ Some s = at_first (slice_get d.subs) j h in
        let at_came = at_first (slice_get image.came) j h' in
        let p = sub_pair j s at_j in
        let one = rw (at_first (sub_place old (own_cells old d) d.subs) j h'') at (one_spell j s v at_j at_came p) in
        let bytes = sub_head s.desc.name v ++ zeroed image.numbers (sub_slots old s v image.numbers place) in
        record {
          spells = (bytes, written_subs old d image next subs cs, rw p.found one, more.spells, refl);
          rises = λ m le. (
            j,
            Some v,
            le,
            rw (p.found, p.there) (back j s at_j p),
            rw (p.found, at_map came e.subs _ p.sub p.there, (came_here j s v at_j at_came p).came),
            (v, refl),
            more.rises (suc j) (omega arith),
          );
        }
    walk j place _ _ h h' h'' = record { spells = refl; rises = λ m le. tt }

    walked : Walk 0 d.subs image.came (own_cells old d)
    walked = walk 0 _ d.subs _ (from_zero (slice_get d.subs)) (from_zero (slice_get image.came)) (from_zero (sub_place old (own_cells old d) d.subs))

    each_once : ComesOnce image'.came (sub_order e d.subs image.came)
    each_once =
        takes_each _ None _ (λ h. (let e = h.1 in cc)) ComesOnce (λ xs f. none_left xs (λ j v e. f j (Some v) e (v, refl)))
        (λ xs k o order e h more. ((h.0, e ∙ ap Some h.1), more)) image'.came 0 _ (walked.rises 0 (omega arith)) (λ l o e h. each_come l h.0 (rw h.1 at e))

  -- the section
  pub section_whole : (part part' : Part) → comparing old new d.desc e.desc d.desc.version part part' ≡ None → is_version_of e.desc d.desc.version ≡ true
      → d.desc.name ≡ e.desc.name → d.instance ≡ e.instance → (id : ℕ) → id < 4294967296 → IsSection new e image' id true (written_section old d image id)
  section_whole part part' same version names instances id lt =
      let v = image.version in
      let numbers = image.numbers in
      let cells = desc_cells (struct_cells new) e.desc in
      let good_a = device_good old good_old i d at_i in
      let good_b = device_good new good_new k e at_k in
      let sub_cells = flat_map (λ s. desc_cells (struct_cells new) s.desc) e.subs in
      let fits : FitsAt (desc_cells (struct_cells old) d.desc) numbers 0 = fits_left _ (fits_whole _ _ ready.normal.cells) in
      let own_meets = part_meets old new good_old good_new d.desc e.desc v part part' good_a good_b (rw ready.version same) _ _ 0 fits in
      let own_size = fit_length cells own own_meets.fits in
      let place_is : 0 + length own ≡ own_cells new e = omega arith in
      let held_rest : Holds numbers' (own_cells new e) rest = holds_at place_is (holds_right own (holds_whole numbers')) in
      let own_reads = own_meets.reads 0 (holds_left rest (holds_whole numbers')) in
      let slots = own_slots new e v numbers' in
      let more = came_slots new e numbers' (own_cells new e) e.subs image'.came in
      let subs = subs_read old new good_old good_new d e image numbers' came e.subs (own_cells new e) facts held_rest in
      let settled : Settled (slots ++ more) 0 (device_cells new e) numbers' = settled_append own_size own_reads.settled (sym place_is) subs.settled in
      let rules_old = (rules_split (own_slots old d v numbers) (came_slots old d numbers (own_cells old d) d.subs image.came) ready.valid).0 in
      let body = zeroed numbers (own_slots old d v numbers) in
      let tail = written_subs old d image (own_cells old d) d.subs image.came in
      record {
        fits = lt;
        normal = record {
          version = rw ready.version ((version_decides e.desc d.desc.version).0 version);
          subs = subs.versions;
          cells = (are_fit _ _
              (fit_append cells sub_cells own rest own_meets.fits (subs_fit old new good_old good_new d e image numbers' came e.subs facts)));
          absent = λ c below absent.
              let z : 0 + c ≡ c = omega arith in
              elim (rw z at (settled.each c below)) [ inl has ↦ absurd (cc (has, absent)) | inr is ↦ is ∙ defaults_at _ c ];
        };
        valid = rules_append slots more (own_reads.carries.rules rules_old) subs.rules;
        body = body;
        own = own_reads.carries.spells;
        order = sub_order e d.subs image.came;
        each_once = each_once held_rest;
        tail = tail;
        subs = (walked held_rest).spells;
        whole = rw (names, instances);
      }
