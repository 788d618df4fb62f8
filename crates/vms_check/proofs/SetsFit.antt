-- Two descriptions and two sets: no rule fails exactly where they fit as the rules say.
use Rattle.vms_check.proofs.Facade
use Facade.{◌≡◌, inl, inr, ℕ, zero, suc, List, [], ◌∷◌, length, get_or, Bool, true, Option, Some, None, refl, sym, ◌∙◌, arith, nat_tests}
use Facade.{AllZip, AllZip-long, AllZip-left, ◌+◌, ◌<◌, slice_get, is_none, ltb-true, slice_get-get_or, Item, Struct, Part, no_desc, struct_cells}
use Facade.{or_else, first_answer, uses_below, Formula, Desc, Sub, Device, Set, here, in_field, WellFormed, struct_rules, device_rules, sub_rules, Comparer}
use Facade.{Entry, compare_desc, compare_fields, failing_pair, is_kept, no_comparer, pair_rules, pair_structs, Compatible, compare_device, compare_sub}
use Facade.{compare_subs, is_in, ArePaired, DescsFit, IsKept, fields_at, in_old, in_new, DevicesFit, Fits, IsSubFor, SetsFit, Reduced, Known, reduced, Mismatch}
use Facade.{or_else_none, answers_none, both_none, find_device, find_sub, index, is_one_of, Clean, struct_clean, device_parts, sub_clean, none_is, AreRules}
use Facade.{table, device_mismatch, lost_mismatch, machines_mismatch, each}
use Rattle.vms_check.proofs.PairLaws.{passes, pass, at_every, none_answers, paired_so, so_paired}
use Rattle.vms_check.proofs.WholeLaws.{desc_split, AllBelow, all_uses, structs_are, whole_is}
use Rattle.vms_spec.specs.Layout.{Cell}
use Rattle.vms_spec.specs.declared.Part.TheVariants as parts

-- ---- Two descriptions: no rule fails exactly where they fit as the rules say.

module _ (same : ℕ → ℕ → Bool) (structs : List Comparer) (k : ℕ) (a b : Desc) (v w : ℕ) (in_a in_b : Part) where
  abbrev compares : List Entry → List Entry → Option Mismatch
  compares es fs = compare_fields structs a b v w in_a in_b (in_old same a b v w) (in_new same a b v w) es fs

  abbrev rule_of : Entry → Entry → Option Mismatch
  rule_of e f =
      failing_pair (pair_rules structs a b v w in_a in_b (in_old same a b v w) (in_new same a b v w) e f) (in_field in_a e.index) (in_field in_b f.index)

  abbrev struct_of : Entry → Entry → Option Mismatch
  struct_of e f = pair_structs structs a b v w in_a in_b (in_old same a b v w) (in_new same a b v w) e.field.item f.field.item

  -- structures that compare well are so said
  abbrev Said : Type 0
  Said = (i j : ℕ) → uses_below k (Struct j) ≡ true → get_or structs j no_comparer i ≡ None → same i j ≡ true

  -- those that are so said compare well
  abbrev Meant : Type 0
  Meant = (i j : ℕ) → uses_below k (Struct j) ≡ true → same i j ≡ true → get_or structs j no_comparer i ≡ None

  said_by : Said → (e f : Entry) → uses_below k f.field.item ≡ true → struct_of e f ≡ None → (i j : ℕ) → e.field.item ≡ Struct i → f.field.item ≡ Struct j
      → same i j ≡ true
  said_by said e f below none i j is_i is_j = said i j (rw is_j at below) (rw (is_i, is_j) at none)

  fields_so : Said → (es fs : List Entry) → AllBelow k fs → compares es fs ≡ None → AllZip (ArePaired same a b v w) es fs
  fields_so said [] [] below none = tt
  fields_so said (e ∷ es) (f ∷ fs) below none =
      let first = or_else_none (rule_of e f) (or_else (struct_of e f) (compares es fs)) none in
      let later = or_else_none (struct_of e f) (compares es fs) first.1 in (
        paired_so same structs a b v w in_a in_b e f (in_field in_a e.index) (in_field in_b f.index) first.0 (said_by said e f below.0 later.0),
        fields_so said es fs below.1 later.1,
      )
  fields_so said es fs below none = cc

  -- where both are structures, they are alike, so they are so said
  struct_none : Meant → (x y : Item) → uses_below k y ≡ true → ((i j : ℕ) → x ≡ Struct i → y ≡ Struct j → same i j ≡ true)
      → pair_structs structs a b v w in_a in_b (in_old same a b v w) (in_new same a b v w) x y ≡ None
  struct_none meant x y below said = grind arith

  -- structures are never covered
  paired_structs : (e f : Entry) → ArePaired same a b v w e f → (i j : ℕ) → e.field.item ≡ Struct i → f.field.item ≡ Struct j → same i j ≡ true
  paired_structs e f h i j is_i is_j = grind arith

  so_fields : Meant → (es fs : List Entry) → AllBelow k fs → length es ≡ length fs
      → ((p : ℕ) (e f : Entry) → slice_get es p ≡ Some e → slice_get fs p ≡ Some f → ArePaired same a b v w e f) → compares es fs ≡ None
  so_fields meant [] [] below long pairs = refl
  so_fields meant (e ∷ es) (f ∷ fs) below long pairs =
      let here = pairs 0 e f refl refl in
      both_none (rule_of e f) (or_else (struct_of e f) (compares es fs))
      (so_paired same structs a b v w in_a in_b e f (in_field in_a e.index) (in_field in_b f.index) here)
      (both_none (struct_of e f) (compares es fs) (struct_none meant _ _ below.0 (paired_structs e f here))
      (so_fields meant es fs below.1 (omega arith) (λ p g x left right. pairs (suc p) g x left right)))
  so_fields meant es fs below long pairs = absurd (omega arith)

  -- ---- validations

  abbrev keeps : Reduced → Bool
  keeps r = is_kept structs a b v w in_a in_b (in_old same a b v w) (in_new same a b v w) r

  kept_so : (r : Reduced) → keeps r ≡ true → IsKept same a b v w r
  kept_so (Known true) e = inl refl
  kept_so _ e = inr e

  so_kept : (r : Reduced) → IsKept same a b v w r → keeps r ≡ true
  so_kept r h = grind (arith, nat_tests)

  -- ---- both

  pub descs_so : (x y : List (List Cell)) → Said → AllBelow k (fields_at b w) → compare_desc structs x y a b v w in_a in_b ≡ None → DescsFit same a b v w
  descs_so x y said below none =
      let p = or_else_none _ _ (sym (desc_split structs x y a b v w in_a in_b) ∙ none) in
      let fields = fields_so said (fields_at a v) (fields_at b w) below p.0 in
      let kept = (passes ((15, _) ∷ []) (here in_a) (here in_b) p.1).0 in
      record {
        as_many = sym (AllZip-long _ (fields_at a v) (fields_at b w) fields);
        pairs = λ p e f left right. rw (left, right) at (AllZip-left _ (fields_at a v) (fields_at b w) fields p);
        validations = λ i t e. kept_so (reduced w t) (each (λ (t : Formula). keeps (reduced w t)) b.validate i t kept e);
      }

  pub so_descs : (x y : List (List Cell)) → Meant → AllBelow k (fields_at b w) → DescsFit same a b v w → compare_desc structs x y a b v w in_a in_b ≡ None
  so_descs x y meant below h = grind (arith, desc_split, both_none, so_fields, pass, at_every, so_kept)

-- ---- Two sets: the walk finds no mismatch exactly where all rules hold.

clean_below : (k : ℕ) (d : Desc) (rules : List Bool) (v : ℕ) → Clean k d rules → AllBelow k (fields_at d v)
clean_below k d rules v c = all_uses k v 0 d.fields (λ j f e. (c.fields j f e).1.1.1.1.0)

module _ (old new : Set) (well : WellFormed new) where
  abbrev structs : List Comparer
  structs = table old new

  abbrev count : ℕ
  count = length new.structs

  struct_below : (j v : ℕ) → j < count → AllBelow j (fields_at (get_or new.structs j no_desc) v)
  struct_below j v lt =
      let d = get_or new.structs j no_desc in clean_below j d (struct_rules new.structs j d) v
      (struct_clean new well j d (slice_get-get_or new.structs j no_desc lt))

  device_below : (k v : ℕ) (e : Device) → slice_get new.devices k ≡ Some e → AllBelow count (fields_at e.desc v)
  device_below k v e there = clean_below count e.desc (device_rules new k e) v (device_parts new well k e there).0

  sub_below : (k l v : ℕ) (e : Device) (t : Sub) → slice_get new.devices k ≡ Some e → slice_get e.subs l ≡ Some t → AllBelow count (fields_at t.desc v)
  sub_below k l v e t there inside = clean_below count t.desc (sub_rules e l t) v (sub_clean new well k l e t there inside)

  -- ---- from the walk to the rules

  -- the structures that compare well
  abbrev same : ℕ → ℕ → Bool
  same i j = is_none (get_or structs j no_comparer i)

  said : (k : ℕ) (i j : ℕ) → uses_below k (Struct j) ≡ true → get_or structs j no_comparer i ≡ None → same i j ≡ true
  said k i j below none = rw none

  struct_fits : (i j : ℕ) → j < count → same i j ≡ true
      → DescsFit same (get_or old.structs i no_desc) (get_or new.structs j no_desc) (get_or old.structs i no_desc).version
      (get_or new.structs j no_desc).version
  struct_fits i j lt is =
      let a = get_or old.structs i no_desc in
      let b = get_or new.structs j no_desc in
      descs_so same structs j a b a.version b.version (parts.Struct i) (parts.Struct j) (struct_cells old) (struct_cells new) (said j)
      (struct_below j b.version lt)
      (sym (structs_are old new (rw well) i j a.version b.version lt refl refl) ∙ none_is (get_or structs j no_comparer i) is)

  sub_fits : (i k j : ℕ) (e : Device) (s : Sub) → slice_get new.devices k ≡ Some e → (found : Option ℕ) (there : Option Sub)
      → find_sub 0 e.subs s.desc.name ≡ found → slice_get e.subs (index found) ≡ there
      → compare_sub old new i k j s found there ≡ None → (l : ℕ) × (t : Sub) × IsSubFor same s e l t
  sub_fits i k j e s device (Some l) (Some t) is inside none =
      let p = or_else_none _ _ none in
      let v = s.desc.version in (
        l,
        t,
        record {
          found = is;
          there = inside;
          version = (passes ((14, _) ∷ []) _ _ p.0).0;
          fits = descs_so same structs count s.desc t.desc v v (parts.Sub i j) (parts.Sub k l) (struct_cells old) (struct_cells new) (said count)
              (sub_below k l v e t device inside) p.1;
        },
      )
  sub_fits i k j e s device _ _ is inside none = cc

  device_fits : (i k : ℕ) (d e : Device) → slice_get new.devices k ≡ Some e → compare_device old new i d (Some k) (Some e) ≡ None → DevicesFit same d e
  device_fits i k d e there none =
      let p = or_else_none _ _ none in
      let q = or_else_none _ _ p.1 in
      record {
        version = (passes ((4, _) ∷ []) _ _ p.0).0;
        fits = descs_so same structs count d.desc e.desc _ _ (parts.Device i) (parts.Device k) (struct_cells old) (struct_cells new) (said count)
            (device_below k _ e there) q.0;
        subs = λ j s inside. sub_fits i k (0 + j) e s there (find_sub 0 e.subs s.desc.name)
            (slice_get e.subs (index (find_sub 0 e.subs s.desc.name))) refl refl (answers_none (compare_subs old new i k e) 0 d.subs q.1 j s inside);
      }

  pub fits_so : Compatible old new → Fits old new
  fits_so none =
      let p = or_else_none (machines_mismatch old new) (or_else (lost_mismatch old new) (first_answer (device_mismatch old new) 0 old.devices))
      (sym (whole_is old new) ∙ none) in
      let q = or_else_none (lost_mismatch old new) (first_answer (device_mismatch old new) 0 old.devices) p.1 in
      let r = or_else_none _ _ q.0 in (
        same,
        record {
          machines = λ i m e. each (is_one_of new.machines) old.machines i m (passes ((1, _) ∷ []) _ _ p.0).0 e;
          kept = λ i d e. (passes ((2, _) ∷ []) _ _
              (answers_none (λ i d. failing_pair ((2, is_in new d) ∷ []) (here (parts.Device i)) (here parts.Set)) 0 old.devices r.0 i d e)).0;
          known = λ i d e. (passes ((3, _) ∷ []) _ _
              (answers_none (λ i d. failing_pair ((3, is_in old d) ∷ []) (here parts.Set) (here (parts.Device i))) 0 new.devices r.1 i d e)).0;
          structs = struct_fits;
          devices = λ i k d e inside found there. device_fits (0 + i) k d e there
              (rw (found, there) at (answers_none (device_mismatch old new) 0 old.devices q.1 i d inside));
        },
      )

  -- ---- from the rules to the walk

  module _ (with : ℕ → ℕ → Bool) (fit : SetsFit with old new) where
    -- by the structures of smaller numbers
    structs_meant : (k i j : ℕ) → j < k → j < count → with i j ≡ true → get_or structs j no_comparer i ≡ None
    structs_meant zero i j less lt is = absurd (omega arith)
    structs_meant (suc k) i j less lt is =
        let a = get_or old.structs i no_desc in
        let b = get_or new.structs j no_desc in
        structs_are old new (rw well) i j a.version b.version lt refl refl
        ∙ so_descs with structs j a b a.version b.version (parts.Struct i) (parts.Struct j) (struct_cells old) (struct_cells new)
        (λ h l below said. let low : l < j = ltb-true l j below in structs_meant k h l (omega arith) (omega arith) said)
        (struct_below j b.version lt) (fit.structs i j lt is)

    meant : (i j : ℕ) → uses_below count (Struct j) ≡ true → with i j ≡ true → get_or structs j no_comparer i ≡ None
    meant i j below is = let lt : j < count = ltb-true j count below in structs_meant count i j lt lt is

    so_sub : (i k j : ℕ) (e : Device) (s : Sub) → slice_get new.devices k ≡ Some e → (l : ℕ) (t : Sub) → IsSubFor with s e l t
        → compare_subs old new i k e j s ≡ None
    so_sub i k j e s device l t h =
        rw (h.found, h.there)
        (both_none _ _ (pass ((14, _) ∷ []) _ _ (h.version, tt))
        (so_descs with structs count s.desc t.desc _ _ (parts.Sub i j) (parts.Sub k l) (struct_cells old) (struct_cells new) meant
        (sub_below k l _ e t device h.there) h.fits))

    so_device : (i k : ℕ) (d e : Device) → slice_get new.devices k ≡ Some e → DevicesFit with d e → compare_device old new i d (Some k) (Some e) ≡ None
    so_device i k d e there h =
        both_none _ _ (pass ((4, _) ∷ []) _ _ (h.version, tt))
        (both_none _ _ (so_descs with structs count d.desc e.desc _ _ (parts.Device i) (parts.Device k) (struct_cells old) (struct_cells new) meant
        (device_below k _ e there) h.fits)
        (none_answers (compare_subs old new i k e) 0 d.subs
        (λ j s inside. let found = h.subs j s inside in so_sub i k (0 + j) e s there found.0 found.1 found.2)))

    so_found : (i : ℕ) (d : Device) → slice_get old.devices i ≡ Some d → (found : Option ℕ) (there : Option Device)
        → find_device 0 new.devices d.desc.name d.instance ≡ found → slice_get new.devices (index found) ≡ there
        → compare_device old new (0 + i) d found there ≡ None
    so_found i d inside found there is is' = grind (arith, so_device)

    so_compatible : Compatible old new
    so_compatible = grind (arith, whole_is, both_none, pass, at_every, none_answers, so_found)

  pub so_fits : Fits old new → Compatible old new
  so_fits h = so_compatible h.0 h.1

pub rules_hold : (old new : Set) → WellFormed new → AreRules old new
rules_hold old new well = record { hold = fits_so old new well; suffice = so_fits old new well }
