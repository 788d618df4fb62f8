-- What is carried of a device, cell by cell.
use Rattle.vms_check_laws.proofs.{Facade.device_partners, GoesFields.part_goes, GoesFields.below_of}
use Rattle.vms_check_laws.proofs.Facade.{CarriedLaw, ◌≡◌, ◌⊎◌, inl, inr, ℕ, ◌+◌, ◌-◌, ◌<◌, Bool, true, false, List, length, get_or}
use Rattle.vms_check_laws.proofs.Facade.{Option, Some, ℤ, pos, refl, sym, ◌∙◌, arith, flat_map, slice_get, slice_get_within, ap, zero, suc, ◌∷◌}
use Rattle.vms_check_laws.proofs.Facade.{ext_get_or, [], Sub, Device, Set, Cell, no_cell, desc_cells, device_cells, struct_cells, Image, has_cell, image_slots}
use Rattle.vms_check_laws.proofs.Facade.{own_slots, own_cells, came_slots, sub_slots, sub_place, find_sub, WellFormed, none_in_both, its_in, sub_size}
use Rattle.vms_check_laws.proofs.Facade.{sub_place_up, part_apart, defaults_at, defaults_long, device_parts, sub_clean, sub_found, carrying, carried_sub}
use Rattle.vms_check_laws.proofs.Facade.{carried_device, IsCarried, IsAtVersions, part_partners, named_partners}
use Rattle.vms_check_laws.proofs.PairDevices.{Found, look_up, Comes, comes, has_part, one_part, device_paired, sized, rest_paired, in_one, sub_top, StandsIn}
use Rattle.vms_check_laws.proofs.PairDevices.{all_long, at_place, number_at, stands_in}
use Rattle.vms_check_laws.proofs.PairLists.{goes_append, IsWithin, Goes, at_none}

module _ (old new : Set) (good_old : WellFormed old) (good_new : WellFormed new) (i i' : ℕ) (d e : Device) (at_i : slice_get old.devices i ≡ Some d)
    (at_k : slice_get new.devices i' ≡ Some e) (image : Image) (versions : IsAtVersions d image) where
  abbrev numbers : List ℤ
  numbers = image.numbers

  abbrev own_segment : List ℤ
  own_segment = carrying old new numbers image.version d.desc e.desc 0

  abbrev rest : List ℤ
  rest = flat_map (carried_sub old new d image) e.subs

  abbrev place : ℕ → ℕ
  place m = sub_place old (own_cells old d) d.subs m

  abbrev place' : ℕ → ℕ
  place' l = sub_place new (own_cells new e) e.subs l

  abbrev new_cells : Sub → List Cell
  new_cells s = desc_cells (struct_cells new) s.desc

  -- what is in the bytes of subsections, and what is carried
  abbrev has_come : ℕ → Bool
  has_come c = has_cell (came_slots old d numbers (own_cells old d) d.subs image.came) c

  abbrev carried : Sub → List ℤ
  carried t = carried_sub old new d image t

  -- ---- the parts

  own_goes : Goes (desc_cells (struct_cells old) d.desc) (desc_cells (struct_cells new) e.desc) numbers (own_slots old d image.version numbers) 0 0
      (part_partners old new d.desc.version d.desc e.desc 0) own_segment
  own_goes = rw versions.version (part_goes old new good_old good_new _ _ d.desc e.desc 0 0 (below_of _ d.desc _ (device_parts old good_old i d at_i).0))

  abbrev SubGoes : ℕ → ℕ → Sub → Sub → ℕ → Type 0
  SubGoes m l s t v =
      Goes (desc_cells (struct_cells old) s.desc) (new_cells t) numbers (sub_slots old s v numbers (place m)) (place m) (place' l)
      (part_partners old new s.desc.version s.desc t.desc (place' l)) (carrying old new numbers v s.desc t.desc (place m))

  sub_goes : (m l : ℕ) (s t : Sub) (v : ℕ) → slice_get d.subs m ≡ Some s → slice_get e.subs l ≡ Some t → v ≡ s.desc.version → SubGoes m l s t v
  sub_goes m l s t v at_m at_l v_is =
      rw v_is (part_goes old new good_old good_new _ _ s.desc t.desc _ _ (below_of _ s.desc _ (sub_clean old good_old i m d s at_i at_m)))

  goes_of : (l : ℕ) (t : Sub) → slice_get e.subs l ≡ Some t → (h : Comes old new d image t) → SubGoes h.f.number l h.f.sub t h.v
  goes_of l t at_l h = sub_goes _ l _ t h.v h.f.there at_l (versions.subs h.f.number h.f.sub h.v h.f.there h.is_come)

  sized' : (l : ℕ) (t : Sub) → slice_get e.subs l ≡ Some t → length (carried t) ≡ sub_size new t
  sized' l t at_l = elim (comes old new d image t) [ inl h ↦ ap length h.segment ∙ defaults_long _ | inr h ↦ ap length h.segment ∙ (goes_of l t at_l h).long ]

  -- ---- the partners of a subsection

  named_is : (s t : Sub) (l : ℕ) → slice_get e.subs l ≡ Some t → s.desc.name ≡ t.desc.name
      → named_partners old new e s ≡ part_partners old new s.desc.version s.desc t.desc (place' l)
  named_is s t l at_l names = grind (arith, sub_found)

  abbrev qs : List (Option ℕ)
  qs = flat_map (named_partners old new e) d.subs

  -- ---- taken

  -- a subsection whose cell has a partner is one that has its name in the newer device
  paired_sub : (s : Sub) (c k : ℕ) → slice_get (named_partners old new e s) c ≡ Some (Some k)
      → (f : Found e.subs s.desc.name) × (slice_get (part_partners old new s.desc.version s.desc f.sub.desc (place' f.number)) c ≡ Some (Some k))
  paired_sub s c k h = elim (look_up e.subs s.desc.name) [
    | inl none ↦ absurd (at_none (length (desc_cells (struct_cells old) s.desc)) c k (rw none at h))
    | inr f ↦ (f, rw (named_is s f.sub f.number f.there (sym f.name_is)) at h)
  ]

  taken_in : (c r : ℕ) (w : StandsIn old (named_partners old new e) (own_cells old d) d.subs c (Some (own_cells new e + r)))
      → has_come (own_cells old d + c) ≡ true → get_or rest r (pos 0) ≡ get_or numbers (own_cells old d + c) (pos 0)
  taken_in c r w come =
      let h = has_part old d numbers _ d.subs image.came _ come in
      let range = its_in old h.sub.desc h.version _ _ _ h.has in
      let same : h.j ≡ w.m = one_part old _ d.subs h.j w.m _ h.sub w.sub h.there w.there range.0 range.1 (omega arith) (omega arith) in
      let sub_same : h.sub ≡ w.sub = cc in
      let is_come : slice_get image.came w.m ≡ Some (Some h.version) = rw same at h.is_come in
      let p = paired_sub w.sub w.c _ w.here in
      let goes = sub_goes w.m _ w.sub _ _ w.there p.0.there (versions.subs w.m w.sub h.version w.there is_come) in
      let pair = goes.paired.pairs w.c _ p.1 in
      let back : find_sub 0 d.subs p.0.sub.desc.name ≡ Some w.m = rw p.0.name_is (sub_found old good_old i w.m d w.sub at_i w.there) in
      let segment : carried p.0.sub ≡ carrying old new numbers h.version w.sub.desc p.0.sub.desc (place w.m) = rw (back, w.there, is_come) in
      let has_here : has_cell (sub_slots old w.sub h.version numbers (place w.m)) (place w.m + w.c) ≡ true = rw (← w.is, ← same, ← sub_same) h.has in
      rw (
        number_at new carried _ e.subs p.0.number p.0.sub sized' p.0.there (pos 0) r pair.r pair.inside pair.is,
        segment,
        goes.taken w.c pair.r (rw (← pair.is) p.1) has_here,
        w.is,
      )

  -- ---- all others

  abbrev NoneHas : ℕ → Type 0
  NoneHas r = (c : ℕ) → slice_get qs c ≡ Some (Some (own_cells new e + r)) → has_come (own_cells old d + c) ≡ false

  other_come : (l : ℕ) (t : Sub) → Comes old new d image t → (r q : ℕ) → slice_get e.subs l ≡ Some t → q < sub_size new t → own_cells new e + r ≡ place' l + q
      → NoneHas r → get_or (carried t) q (pos 0) ≡ (get_or (new_cells t) q no_cell).default
  other_come l t h r q at_l lt is none =
      let goes = goes_of l t at_l h in
      rw h.segment (goes.other q lt (λ c f.
      let inside : c < sub_size old h.f.sub = (let i = slice_get_within _ c (Some (place' l + q)) f in omega arith) in
      let b = (place h.f.number + c) - own_cells old d in
      let b_is : own_cells old d + b ≡ place h.f.number + c = omega (arith, sub_place_up old (own_cells old d) d.subs h.f.number) in
      let here = at_place old (named_partners old new e) _ d.subs h.f.number h.f.sub (sized old new good_old good_new i d e at_i) h.f.there b c inside b_is in
      let has : has_come (own_cells old d + b) ≡ false = none b (here ∙ rw (named_is h.f.sub t l at_l h.f.name_is, is) f) in
      part_apart old d numbers (λ xs. has_cell xs (place h.f.number + c) ≡ false) (none_in_both _) (own_cells old d) d.subs image.came
      (rw b_is at has) h.f.number h.f.sub h.v h.f.there h.is_come))

  other_at : (l : ℕ) (t : Sub) (r q : ℕ) → slice_get e.subs l ≡ Some t → q < sub_size new t → own_cells new e + r ≡ place' l + q → NoneHas r
      → get_or rest r (pos 0) ≡ (get_or (flat_map new_cells e.subs) r no_cell).default
  other_at l t r q at_l lt is none =
      rw (
        number_at new carried _ e.subs l t sized' at_l (pos 0) r q lt is,
        number_at new new_cells _ e.subs l t (λ m s f. refl) at_l no_cell r q lt is,
      ) (elim (comes old new d image t) [
        | inl h ↦ rw h.segment (defaults_at _ q)
        | inr h ↦ other_come l t h r q at_l lt is none
      ])

  other_in : (r : ℕ) → r < length (flat_map new_cells e.subs) → NoneHas r → get_or rest r (pos 0) ≡ (get_or (flat_map new_cells e.subs) r no_cell).default
  other_in r lt none =
      let o = in_one new (own_cells new e) e.subs (own_cells new e + r) (omega arith) (omega arith) in
      other_at o.0 o.1 r ((own_cells new e + r) - place' o.0) o.2 (omega (arith, o.3, o.4)) (omega (arith, o.3)) none

  -- ---- the subsections, and before them the device's own cells

  come_within : IsWithin (own_cells old d) (length (flat_map (λ s. desc_cells (struct_cells old) s.desc) d.subs))
      (came_slots old d numbers (own_cells old d) d.subs image.came)
  come_within = record {
    in_range = λ c come.
        let h = has_part old d numbers _ d.subs image.came c come in
        let range = its_in old h.sub.desc h.version _ _ c h.has in (
          omega (arith, range.0, sub_place_up old (own_cells old d) d.subs h.j),
          omega (arith, range.1, sub_top old (own_cells old d) d.subs h.j h.sub h.there),
        );
  }

  rest_goes : Goes (flat_map (λ s. desc_cells (struct_cells old) s.desc) d.subs) (flat_map new_cells e.subs) numbers
      (came_slots old d numbers (own_cells old d) d.subs image.came) (own_cells old d) (own_cells new e) qs rest
  rest_goes = record {
    paired = rest_paired old new good_old good_new i d e at_i;
    within = come_within;
    long = all_long new _ e.subs sized';
    taken = λ c r f come. taken_in c r (stands_in old _ _ d.subs c _ (sized old new good_old good_new i d e at_i) f) come;
    other = other_in;
  }

  pub carried_by_cell : IsCarried old new d e image (carried_device old new d e image).numbers
  unfolding device_partners
  carried_by_cell =
      let all = goes_append own_goes (omega arith) (omega arith) rest_goes in
      record {
        long = all.long;
        taken = λ c k f is.
            let p = all.paired.pairs c k f in
            let k_is : k ≡ p.r = omega arith in
            let z : 0 + c ≡ c = omega arith in
            rw k_is (rw z at (all.taken c p.r (rw (← p.is) f) (rw z is)));
        other = λ k lt none. let z : 0 + k ≡ k = omega arith in all.other k lt (λ c f. let u : 0 + c ≡ c = omega arith in rw u (none c (rw z at f)));
      }

-- ---- what is carried is said cell by cell, and that says all of it

-- where a partner is, if there is one
is_some_of : (o : Option ℕ) (k : ℕ) → (o ≡ Some k) ⊎ (o ≡ Some k → ⊥)
is_some_of o k = grind arith

search_in : (ps : List (Option ℕ)) (k : ℕ) → ((c : ℕ) × (slice_get ps c ≡ Some (Some k))) ⊎ ((c : ℕ) → slice_get ps c ≡ Some (Some k) → ⊥)
search_in [] k = inr (λ c e. cc)
search_in (o ∷ ps) k =
    elim (is_some_of o k) [ inl h ↦ inl (0, rw h) | inr h ↦ elim (search_in ps k) [ inl r ↦ inl (suc r.0, r.1) | inr r ↦ inr (none h r) ] ] where
      none : (o ≡ Some k → ⊥) → ((c : ℕ) → slice_get ps c ≡ Some (Some k) → ⊥) → (c : ℕ) → slice_get (o ∷ ps) c ≡ Some (Some k) → ⊥
      none a b zero e = a cc
      none a b (suc c) e = b c e

module _ (old new : Set) (good_old : WellFormed old) (good_new : WellFormed new) (i : ℕ) (d e : Device) (there : slice_get old.devices i ≡ Some d)
    (image : Image) where
  one_carried : (a b : List ℤ) → IsCarried old new d e image a → IsCarried old new d e image b → a ≡ b
  one_carried a b p q =
      ext_get_or (pos 0) a b (omega arith) (λ k lt. elim (search_in (device_partners old new d e) k) [
        | inl h ↦ by_has k h.0 (omega arith) h.1 _ refl
        | inr h ↦ none_has k (omega arith) (λ c g. absurd (h c g))
      ])
    where
      none_has : (k : ℕ) → k < length (device_cells new e)
          → ((c : ℕ) → slice_get (device_partners old new d e) c ≡ Some (Some k) → has_cell (image_slots old d image) c ≡ false)
          → get_or a k (pos 0) ≡ get_or b k (pos 0)
      none_has k lt none = cc (p.other k lt none, q.other k lt none)

      by_has : (k c : ℕ) → k < length (device_cells new e) → slice_get (device_partners old new d e) c ≡ Some (Some k) → (h : Bool)
          → has_cell (image_slots old d image) c ≡ h → get_or a k (pos 0) ≡ get_or b k (pos 0)
      by_has k c lt f true h = cc (p.taken c k f h, q.taken c k f h)
      by_has k c lt f false h = none_has k lt (λ c' g. rw ((device_paired old new good_old good_new i d e there).once c' c k g f) h)

pub carried_stands : CarriedLaw
carried_stands old new good_old good_new i k d e at_i at_k image versions numbers carried =
    one_carried old new good_old good_new i d e at_i image _ _ carried
    (carried_by_cell old new good_old good_new i k d e at_i at_k image versions)
