-- The image of numbers has come as needed.
use Rattle.vms_convert.proofs.{Facade.one_part, Facade.Number, Facade.at_map, Facade.MayBeWritten, Settling.comes_at, Settling.needed_same}
use Rattle.vms_convert.proofs.Facade.{ne_eqb, ◌≡◌, ℕ, zero, suc, ◌+◌, ◌≤◌, Bool, true, List, [], ◌∷◌, Some, None, refl, ◌∙◌}
use Rattle.vms_convert.proofs.Facade.{arith, inl, inr, ◌<◌, length, get_or, map, Option, ℤ, pos, false, if◌then◌else◌, length-set, ◌==◌}
use Rattle.vms_convert.proofs.Facade.{slice_get, leb-true, eq-eqb, or_parts, get_or-map, get_or-set_other, get_or-set_same, length-map, false_from_ne_true}
use Rattle.vms_convert.proofs.Facade.{get_or_from_slice_get, Sub, Device, Set, Image, FitsCell, has_cell, image_slots, own_slots, own_cells, came_slots}
use Rattle.vms_convert.proofs.Facade.{sub_slots, is_needed, needed_from, bare, image_of, AreSubs, versions, needed, within_all, InRange, Cell, no_cell, Slot}
use Rattle.vms_convert.proofs.Facade.{device_cells, WellFormed, FitsHeads, IsGood, names_append, none_in_both, its_same, its_below, its_above, SameIn, sub_size}
use Rattle.vms_convert.proofs.Facade.{sub_place_up, parts_together, part_apart, part_place, well_good, device_parts, sub_clean, IsCellOf, IsBack, taken, whole}
use Rattle.vms_convert.proofs.Facade.{ArePartners, AreOfKinds, own_or_sub, Typed, WalkStep, changed, Changes, AreTargets, give_partner, give_step}
use Rattle.vms_convert.proofs.Facade.{device_partners, IsCarried, steps_of, its_in}
use Rattle.vms_walk.specs.declared.step.WalkStep.TheVariants.{Number as Step}

pub all_subs : (subs : List Sub) → ((j : ℕ) (s : Sub) → slice_get subs j ≡ Some s → s.desc.minimum ≤ s.desc.version) → AreSubs subs
all_subs [] h = tt
all_subs (s ∷ subs) h = (h 0 s refl, all_subs subs (λ j t e. h (suc j) t e))

-- ---- What comes back is normal, whatever numbers of the right kinds it is made of, and has come as needed.

taken_fits : (numbers : List ℤ) (cell : Cell) (has : Bool) (p : Option ℕ) → FitsCell cell cell.default
    → ((k : ℕ) → p ≡ Some k → InRange cell.kind (get_or numbers k (pos 0))) → FitsCell cell (taken numbers cell has p)
taken_fits numbers cell has p fine h = grind (arith, within_all)

pub at_get : (partners : List (Option ℕ)) (c k : ℕ) → get_or partners c None ≡ Some k → slice_get partners c ≡ Some (Some k)
at_get [] c k e = cc
at_get (p ∷ partners) zero k e = rw e
at_get (p ∷ partners) (suc c) k e = at_get partners c k e

module _ (to : Set) (well : WellFormed to) (heads : FitsHeads to) (i : ℕ) (d : Device) (there : slice_get to.devices i ≡ Some d) where
  good : IsGood to
  good = well_good to well heads

  abbrev cells : List Cell
  cells = device_cells to d

  module _ (others : List Cell) (partners : List (Option ℕ)) (paired : ArePartners cells others partners) (numbers : List ℤ)
      (of_kinds : AreOfKinds others numbers) (image : Image) (back : IsBack to d partners numbers image) where
    abbrev now : List ℤ
    now = back.now

    abbrev then_ : List ℤ
    then_ = image.numbers

    abbrev default_at : ℕ → ℤ
    default_at c = (get_or cells c no_cell).default

    taken_fit : (c : ℕ) → c < length cells → FitsCell (get_or cells c no_cell) (get_or now c (pos 0))
    taken_fit c lt =
        rw (back.are_taken.each c lt)
        (taken_fits numbers (get_or cells c no_cell) _ _ (good.defaults i d there c lt)
        (λ k e. let h = paired.kinds c k (at_get partners c k e) in rw h.1 (of_kinds.in_range k h.0)))

    -- and so does what is settled
    either_fits : (c : ℕ) (b : Bool) → c < length cells → get_or then_ c (pos 0) ≡ (if b then get_or now c (pos 0) else default_at c)
        → FitsCell (get_or cells c no_cell) (get_or then_ c (pos 0))
    either_fits c true lt e = rw e (taken_fit c lt)
    either_fits c false lt e = rw e (good.defaults i d there c lt)

    fits : (c : ℕ) → c < length cells → FitsCell (get_or cells c no_cell) (get_or then_ c (pos 0))
    fits c lt = elim (own_or_sub to d c lt) [
      | inl own ↦ either_fits c true lt (back.settled.own c own)
      | inr h ↦ either_fits c (is_needed to d (whole d now) h.1 h.0) lt (back.settled.subs h.0 h.1 c h.2)
    ]

    -- ---- and if no byte is for it, it is at its default

    same_own : SameIn 0 (0 + own_cells to d) now then_
    same_own = record { same = λ c low lt. back.settled.own c (omega arith) }

    -- whether a cell is in the bytes of the device's own fields, of a subsection, of all subsections that came
    abbrev in_own : List ℤ → ℕ → Bool
    in_own n c = has_cell (own_slots to d d.desc.version n) c

    abbrev in_sub : Sub → ℕ → List ℤ → ℕ → ℕ → Bool
    in_sub s v n j c = has_cell (sub_slots to s v n (part_place to d j)) c

    abbrev in_subs : List ℤ → List (Option ℕ) → ℕ → Bool
    in_subs n came c = has_cell (came_slots to d n (own_cells to d) d.subs came) c

    abbrev all_came : List (Option ℕ)
    all_came = map (λ s. Some s.desc.version) d.subs

    abbrev came_back : List (Option ℕ)
    came_back = needed_from to d (bare d then_) 0 d.subs

    -- a cell that is in no part of the whole image was not taken
    left : (c : ℕ) → c < length cells → in_own now c ≡ false → in_subs now all_came c ≡ false → get_or now c (pos 0) ≡ default_at c
    left c lt a b = grind (arith, names_append)

    none_else : (c : ℕ) (came : List (Option ℕ))
        → ((j : ℕ) (s : Sub) (v : ℕ) → slice_get d.subs j ≡ Some s → slice_get came j ≡ Some (Some v) → in_sub s v now j c ≡ false)
        → in_subs now came c ≡ false
    none_else c came h =
        parts_together to d now (λ xs. has_cell xs c ≡ false) refl (λ xs ys p q. rw (names_append xs ys c, p, q))
        (own_cells to d) d.subs came h

    absent_own : (c : ℕ) → c < length cells → c < own_cells to d → in_own then_ c ≡ false → get_or then_ c (pos 0) ≡ default_at c
    absent_own c lt own none =
        back.settled.own c own ∙ left c lt (rw (its_same to d.desc d.desc.version 0 good.structs (good.devices i d there) now then_ same_own) at none)
        (none_else c _ (λ j s v e f. its_below to s.desc v (part_place to d j) now c (omega (arith, sub_place_up to (own_cells to d) d.subs j))))

    -- it isn't in a part other than the cell's own
    other_part : (c j : ℕ) (s : Sub) → IsCellOf to d j s c → in_sub s s.desc.version now j c ≡ false → (j' : ℕ) (s' : Sub) (v : ℕ)
        → slice_get d.subs j' ≡ Some s' → slice_get all_came j' ≡ Some (Some v) → in_sub s' v now j' c ≡ true → ⊥
    other_part c j s h before j' s' v e f has =
        let range = its_in to s'.desc v (part_place to d j') now c has in
        let same : j' ≡ j = one_part to (own_cells to d) d.subs j' j c s' s e h.is range.0 range.1 h.low h.high in
        let one : s' ≡ s = cc (e, h.is) in
        let v_is : v ≡ s'.desc.version = cc (f, at_map (λ (s : Sub). Some s.desc.version) d.subs j' s' e) in
        cc (before, has)

    absent_needed : (c j : ℕ) (s : Sub) → c < length cells → IsCellOf to d j s c → is_needed to d (whole d now) s j ≡ true → in_subs then_ came_back c ≡ false
        → get_or then_ c (pos 0) ≡ default_at c
    absent_needed c j s lt h n none =
        let same : SameIn (part_place to d j) (part_place to d j + sub_size to s) now then_ =
        record { same = λ c low lt. rw (back.settled.subs j s c (record { is = h.is; low = low; high = lt }), n) } in
        let z : 0 + j ≡ j = omega arith in
        let still : is_needed to d (bare d then_) s j ≡ true = needed_same to well i d there j s h.is (whole d now) (bare d then_) same_own same ∙ n in
        let came = rw (z, still) at (comes_at to d (bare d then_) d.subs 0 j s h.is) in
        let here : in_sub s s.desc.version then_ j c ≡ false =
        part_apart to d then_ (λ xs. has_cell xs c ≡ false) (none_in_both c) (own_cells to d) d.subs came_back none j s s.desc.version h.is came in
        let before = rw (its_same to s.desc s.desc.version _ good.structs (good.subs i j d s there h.is) now then_ same) at here in
        same.same c h.low h.high ∙ left c lt (its_above to d.desc d.desc.version 0 now c (omega (arith, sub_place_up to (own_cells to d) d.subs j)))
        (none_else c _ (λ j' s' v e' f. false_from_ne_true _ (other_part c j s h before j' s' v e' f)))

    absent : (c : ℕ) → c < length cells → has_cell (image_slots to d (image_of to d then_)) c ≡ false → get_or then_ c (pos 0) ≡ default_at c
    absent c lt none = elim (own_or_sub to d c lt) [
      | inl own ↦ absent_own c lt own parts.0
      | inr h ↦ by_needed h.0 h.1 h.2 _ refl
    ] where
      parts : (in_own then_ c ≡ false) × (in_subs then_ came_back c ≡ false)
      parts = none_in_both c (own_slots to d d.desc.version then_) (came_slots to d then_ (own_cells to d) d.subs came_back) none

      by_needed : (j : ℕ) (s : Sub) → IsCellOf to d j s c → (b : Bool) → is_needed to d (whole d now) s j ≡ b → get_or then_ c (pos 0) ≡ default_at c
      by_needed j s h true n = absent_needed c j s lt h n parts.1
      by_needed j s h false n = rw (back.settled.subs j s c h, n)

    pub back_may : MayBeWritten to d image
    back_may = rw back.is (record {
      normal = record {
        version = (leb-true d.desc.minimum d.desc.version (device_parts to well i d there).0.own.1.1.0, omega arith);
        subs = versions to d (bare d then_) 0 d.subs
            (all_subs d.subs (λ j s e. leb-true s.desc.minimum s.desc.version (sub_clean to well i j d s there e).own.1.1.0));
        cells = record { long = cc; fits = fits };
        absent = λ c lt none. absent c (omega arith) none;
      };
      version = refl;
      needed = needed to d then_ (needed_from to d (bare d then_) 0 d.subs) 0 d.subs;
    })

-- ---- A number may be given after others: the target keeps its kinds and its length.

pub partner_long : (z : ℤ) (o : Option ℕ) (now : List ℤ) → length (give_partner z o now) ≡ length now
partner_long z None now = refl
partner_long z (Some k) now = length-set now k z

pub steps_long : (partners : List (Option ℕ)) (numbers : List ℤ) (xs : List WalkStep) (now : List ℤ)
    → length (changed (give_step partners numbers) xs now) ≡ length now
steps_long partners numbers [] now = refl
steps_long partners numbers (Step c kind most ∷ xs) now =
    steps_long partners numbers xs _ ∙ partner_long (get_or numbers c (pos 0)) (get_or partners c None) now
steps_long partners numbers (_ ∷ xs) now = steps_long partners numbers xs now

pub may_give : (p p' : List (Option ℕ)) (n n' : List ℤ) (xs : List WalkStep) (a b : Typed) → p' ≡ p → n' ≡ n → Changes (give_step p n) xs a b
    → AreTargets a.kinds n p → length a.kinds ≡ length a.numbers → AreTargets b.kinds n' p' × (length b.kinds ≡ length b.numbers)
may_give p p' n n' xs a b e f h targets long =
    let kinds : b.kinds ≡ a.kinds = rw h in
    let numbers : length b.numbers ≡ length a.numbers = cc (steps_long p n xs a.numbers) in
    (rw (kinds, f, e) targets, rw (kinds, numbers) long)

-- ---- What the partners of cells are given, step by step: that is what is carried.

module _ (partners : List (Option ℕ)) (numbers : List ℤ) where
  abbrev pub gives : List Slot → List ℤ → List ℤ
  gives slots now = changed (give_step partners numbers) (steps_of slots) now

  pub gives_long : (slots : List Slot) (now : List ℤ) → length (gives slots now) ≡ length now
  gives_long slots now = steps_long partners numbers (steps_of slots) now

  partner_other : (z : ℤ) (o : Option ℕ) (now : List ℤ) (k : ℕ) → (o ≡ Some k → ⊥) → get_or (give_partner z o now) k (pos 0) ≡ get_or now k (pos 0)
  partner_other z None now k ne = refl
  partner_other z (Some j) now k ne = grind (arith, get_or-set_other)

  -- after one more number
  abbrev next : ℕ → List ℤ → List ℤ
  next c now = give_partner (get_or numbers c (pos 0)) (get_or partners c None) now

  -- no cell of the slots has this partner
  pub given_none : (slots : List Slot) (now : List ℤ) (k : ℕ) → ((c : ℕ) → get_or partners c None ≡ Some k → has_cell slots c ≡ false)
      → get_or (gives slots now) k (pos 0) ≡ get_or now k (pos 0)
  given_none [] now k h = refl
  given_none (Number c kind caps ∷ slots) now k h =
      grind (arith, or_parts, partner_other, eq-eqb, given_none slots (next c now) k (λ b e. (or_parts (c == b) (has_cell slots b) (h b e)).1))
  given_none (_ ∷ slots) now k h = given_none slots now k h

  module _ (once : (b c k : ℕ) → get_or partners b None ≡ Some k → get_or partners c None ≡ Some k → b ≡ c) where
    -- the partner of a cell that is in the slots has the cell's number
    pub given_at : (slots : List Slot) (c k : ℕ) (now : List ℤ) → k < length now → get_or partners c None ≡ Some k
        → get_or (gives slots now) k (pos 0) ≡ (if has_cell slots c then get_or numbers c (pos 0) else get_or now k (pos 0))
    given_at [] c k now lt e = refl
    given_at (Number b kind caps ∷ slots) c k now lt e =
        let more = given_at slots c k (next b now) (omega (arith, partner_long (get_or numbers b (pos 0)) (get_or partners b None) now)) e in
        grind (arith, partner_long, get_or-set_same, eq-eqb, ne_eqb, partner_other, more)
    given_at (_ ∷ slots) c k now lt e = given_at slots c k now lt e

-- from defaults on
pub given_all : (old new : Set) (d e : Device) (image : Image) → ArePartners (device_cells old d) (device_cells new e) (device_partners old new d e)
    → IsCarried old new d e image (gives (device_partners old new d e) image.numbers (image_slots old d image) (map (λ c. c.default) (device_cells new e)))
given_all old new d e image paired =
    let partners = device_partners old new d e in
    let before = map (λ (c : Cell). c.default) (device_cells new e) in
    let slots = image_slots old d image in
    let long : length before ≡ length (device_cells new e) = length-map (device_cells new e) (λ (c : Cell). c.default) in
    record {
      long = cc (gives_long partners image.numbers slots before);
      taken = λ c k f h.
          rw h at (given_at partners image.numbers (λ b c' k' x y. paired.once b c' k' (at_get partners b k' x) (at_get partners c' k' y)) slots c k before
          (omega (arith, (paired.kinds c k f).0)) (get_or_from_slice_get partners c _ None f));
      other = λ k lt none.
          given_none partners image.numbers slots before k (λ c f. none c (at_get partners c k f))
          ∙ get_or-map (λ (c : Cell). c.default) (device_cells new e) k no_cell;
    }
