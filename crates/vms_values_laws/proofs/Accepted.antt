-- A text that was accepted is the one of its machine and images.
use Rattle.vms_values_laws.proofs.{BadLines.fine_text, BadLines.NoneBad, Meeting.named_is, Meeting.Ends, ReadyParts.device_ready, Rights.AreGood}
use Rattle.vms_values_laws.proofs.{AllCome.images_of, AllCome.short_are, Facade.DefaultsFit, Facade.device_cells}
use Rattle.vms_values_laws.proofs.Facade.{all_both, all_from, all_parts, ◌≡◌, ℕ, suc, ◌+◌, Bool, true, false, List, [], ◌∷◌, ◌++◌, length}
use Rattle.vms_values_laws.proofs.Facade.{get_or, map, Option, Some, None, ℤ, pos, append_cancel_left, refl, sym, ap, ◌∙◌, arith, codes, zero}
use Rattle.vms_values_laws.proofs.Facade.{◌≤◌, AllByRecursion, slice_get, leb-true, ext_get_or, Sub, Device, Set, desc_cells, struct_cells, Image}
use Rattle.vms_values_laws.proofs.Facade.{own_cells, version_text, Element, elements_in, printed, sub_line, Entry, OfSub, OfNumber, number_entries}
use Rattle.vms_values_laws.proofs.Facade.{subs_entries, devices_entries, entry_line, device_entries, entries, is_of_cell, has_line, IsShaped, AreShaped}
use Rattle.vms_values_laws.proofs.Facade.{AreUnsaid, AllUnsaid, IsAtVersion, AreAtVersions, IsMachineOf, AreFine, Says, Demand, ForSection, demand_of, Taken}
use Rattle.vms_values_laws.proofs.Facade.{lines_of, Follows, Along, first_line, IsReady, AreReady, BadLine, ValuesRead, Values, Bad, machine_named, WellFormed}
use Rattle.vms_values_laws.proofs.Facade.{IsGood, device_parts, sub_clean}
use Rattle.vms_values_laws.proofs.SecondPass.{AreShort, of_numbers, number_same, parts_from}

-- ---- Two states with the same lines, and with defaults where there is no line, are the same.

-- the same is required, with the same line, one after the other
abbrev pub Match : List Entry → List Entry → Type 0
Match [] [] = Unit {0}
Match (e ∷ es) (f ∷ fs) = (demand_of e ≡ demand_of f) × (entry_line e ≡ entry_line f) × Match es fs
Match _ _ = ⊥

-- what was taken along one state, and was demanded of the other, which has its lines
pub matched : (taken : List Taken) (es fs : List Entry) → Follows taken (λ l. Ends None [] l) es → Along taken (λ l. l ≡ []) es
    → Follows taken (λ l. Ends None [] l) fs → lines_of taken ≡ map entry_line fs → Match es fs
matched [] es fs f a g l = rw (a, g.0) tt
matched (t ∷ taken) [] fs f a g l = absurd f
matched (t ∷ taken) (e ∷ es) [] f a g l = absurd g
matched (t ∷ taken) (e ∷ es) (x ∷ fs) f a g l =
    let line : t.line ≡ entry_line x = cc in
    (f.0 ∙ sym g.0, a.0 ∙ line, matched taken es fs (f.1 a.0) a.1 (g.1 (sym line)) cc)

abbrev for_section : Demand → Bool
for_section (ForSection d) = true
for_section _ = false

-- an entry of a device after its section's, with the numbers of this state
abbrev IsOwn : List ℤ → Entry → Type 0
IsOwn n (OfSub d image j s at o) = IsAtVersion s o
IsOwn n (OfNumber x m) = m ≡ n
IsOwn n _ = ⊥

abbrev AreOwn : List ℤ → List Entry → Type 0
AreOwn n = AllByRecursion (IsOwn n)

-- the first of them is a section, if there is one
abbrev BeginsNew : List Entry → Type 0
BeginsNew [] = Unit {0}
BeginsNew (e ∷ es) = for_section (demand_of e) ≡ true

other : (n : List ℤ) (e f : Entry) → IsOwn n e → for_section (demand_of f) ≡ true → demand_of e ≡ demand_of f → ⊥
other n e f a b c = grind arith

record Parted (es fs es' fs' : List Entry) : Type 0 where
  inside : Match es es'
  rest : Match fs fs'

parted : (n m : List ℤ) (es fs es' fs' : List Entry) → AreOwn n es → AreOwn m es' → BeginsNew fs → BeginsNew fs' → Match (es ++ fs) (es' ++ fs')
    → Parted es fs es' fs'
parted n m [] fs [] fs' i i' b b' h = record { inside = tt; rest = h }
parted n m [] (f ∷ fs) (e' ∷ es') fs' i i' b b' h = absurd (other m e' f i'.0 b (sym h.0))
parted n m (e ∷ es) fs [] (f' ∷ fs') i i' b b' h = absurd (other n e f' i.0 b' h.0)
parted n m (e ∷ es) fs (e' ∷ es') fs' i i' b b' h =
    let p = parted n m es fs es' fs' i.1 i'.1 b b' h.2 in record { inside = (h.0, h.1, p.inside); rest = p.rest }
parted n m _ _ _ _ i i' b b' h = absurd h

-- the entries of a device after its section's
abbrev pub inside_of : Set → Device → Image → List Entry
inside_of set d image = number_entries set d.desc image.numbers 0 ++ subs_entries set d image 0 (own_cells set d) d.subs image.came

module _ (set : Set) (d : Device) (image : Image) where
  numbers_own : (xs : List Element) → AreOwn image.numbers (of_numbers image.numbers xs)
  numbers_own [] = tt
  numbers_own (x ∷ xs) = (refl, numbers_own xs)

  subs_own : (j at : ℕ) (subs : List Sub) (came : List (Option ℕ)) → AreAtVersions subs came
      → AreOwn image.numbers (subs_entries set d image j at subs came)
  subs_own j at (s ∷ subs) (o ∷ came) h = (h.0, all_both _ _ _ (numbers_own _) (subs_own (suc j) _ subs came h.1))
  subs_own j at _ _ h = tt

  whole_own : AreAtVersions d.subs image.came → AreOwn image.numbers (inside_of set d image)
  whole_own h = all_both _ _ _ (numbers_own _) (subs_own 0 _ d.subs _ h)

module _ (n m : List ℤ) (short : AreShort n) (short' : AreShort m) where
  one_number : (e f : Entry) (c : ℕ) → IsOwn n e → IsOwn m f → demand_of e ≡ demand_of f → entry_line e ≡ entry_line f → is_of_cell c e ≡ true
      → get_or n c (pos 0) ≡ get_or m c (pos 0)
  one_number e f c is of demand line at = grind (arith, number_same)

  -- a number has the same line in both, or it is this default in both
  same_at : (c : ℕ) (z : ℤ) (es fs : List Entry) → AreOwn n es → AreOwn m fs → Match es fs → (has_line es c ≡ false → get_or n c (pos 0) ≡ z)
      → (has_line fs c ≡ false → get_or m c (pos 0) ≡ z) → get_or n c (pos 0) ≡ get_or m c (pos 0)
  same_at c z [] [] a b h u u' = cc (u refl, u' refl)
  same_at c z (e ∷ es) (f ∷ fs) a b h u u' = by _ refl (same_at c z es fs a.1 b.1 h.2) where
    by : (t : Bool) → is_of_cell c e ≡ t
        → ((has_line es c ≡ false → get_or n c (pos 0) ≡ z) → (has_line fs c ≡ false → get_or m c (pos 0) ≡ z) → get_or n c (pos 0) ≡ get_or m c (pos 0))
        → get_or n c (pos 0) ≡ get_or m c (pos 0)
    by true p later = one_number e f c a.0 b.0 h.0 h.1 p
    by false p later = grind arith
  same_at c z _ _ a b h u u' = absurd h

abbrev came_with : Entry → List (Option ℕ) → List (Option ℕ)
came_with (OfSub d image j s at o) came = o ∷ came
came_with _ came = came

abbrev came_of : List Entry → List (Option ℕ)
came_of [] = []
came_of (e ∷ es) = came_with e (came_of es)

numbers_came : (n : List ℤ) (xs : List Element) (es : List Entry) → came_of (of_numbers n xs ++ es) ≡ came_of es
numbers_came n [] es = refl
numbers_came n (x ∷ xs) es = numbers_came n xs es

not_both : (s : Sub) (v : ℕ) → sub_line s None ≡ sub_line s (Some v) → ⊥
not_both s v e =
    let f = append_cancel_left (codes " ") (version_text None) _ (append_cancel_left s.desc.name _ _ (append_cancel_left (codes "sub ") _ _ e)) in
    cc

one_came : (s t : Sub) (o p : Option ℕ) → s ≡ t → IsAtVersion s o → IsAtVersion t p → sub_line s o ≡ sub_line t p → o ≡ p
one_came s t None None same a b e = refl
one_came s t (Some v) (Some w) same a b e = rw (a, b, same)
one_came s t None (Some w) same a b e = absurd (not_both t w (rw same at e))
one_came s t (Some v) None same a b e = absurd (not_both t v (sym (rw same at e)))

came_same : (n m : List ℤ) (es fs : List Entry) → AreOwn n es → AreOwn m fs → Match es fs → came_of es ≡ came_of fs
came_same n m [] [] a b h = refl
came_same n m (e ∷ es) (f ∷ fs) a b h = grind (arith, one_came, came_same n m es fs a.1 b.1 h.2)
came_same n m _ _ a b h = absurd h

module _ (set : Set) (d : Device) (image : Image) where
  subs_came : (j at : ℕ) (subs : List Sub) (came : List (Option ℕ)) → length came ≡ length subs → came_of (subs_entries set d image j at subs came) ≡ came
  subs_came j at [] [] long = refl
  subs_came j at (s ∷ subs) (o ∷ came) long =
      let next = at + length (desc_cells (struct_cells set) s.desc) in
      ap (λ l. o ∷ l)
      (numbers_came image.numbers (printed (elements_in set s.desc s.desc.version image.numbers at)) _ ∙ subs_came (suc j) next subs came (omega arith))
  subs_came j at _ _ long = absurd (omega arith)

  whole_came : length image.came ≡ length d.subs → came_of (inside_of set d image) ≡ image.came
  whole_came long = grind (arith, numbers_came, subs_came)

same_image : (i j : Image) → i.version ≡ j.version → i.came ≡ j.came → i.numbers ≡ j.numbers → i ≡ j
same_image i j e f g = grind arith

device_same : (set : Set) (d : Device) (image image' : Image) → IsShaped set d image → IsShaped set d image'
    → AreUnsaid set d image → AreUnsaid set d image' → Match (inside_of set d image) (inside_of set d image') → image ≡ image'
device_same set d image image' a b u u' m =
    let es = inside_of set d image in
    same_image image image' (a.version ∙ sym b.version)
    (sym (whole_came set d image a.subs) ∙ came_same _ _ es _ (whole_own set d image a.versions) (whole_own set d image' b.versions) m
    ∙ whole_came set d image' b.subs) (ext_get_or (pos 0) image.numbers image'.numbers (a.cells ∙ sym b.cells) (λ c lt.
    same_at _ _ (short_are _ a.short) (short_are _ b.short) c _ es _ (whole_own set d image a.versions)
    (whole_own set d image' b.versions) m (u c lt) (u' c (omega arith))))

begins_new : (set : Set) (devices : List Device) (images : List Image) → BeginsNew (devices_entries set devices images)
begins_new set (d ∷ devices) (image ∷ images) = refl
begins_new set _ _ = tt

pub devices_same : (set : Set) (devices : List Device) (images images' : List Image) → AreShaped set devices images → AreShaped set devices images'
    → AllUnsaid set devices images → AllUnsaid set devices images' → Match (devices_entries set devices images) (devices_entries set devices images')
    → images ≡ images'
devices_same set [] [] [] a b u u' m = refl
devices_same set [] [] (i ∷ images') a b u u' m = absurd b
devices_same set (d ∷ devices) (i ∷ images) [] a b u u' m = absurd b
devices_same set (d ∷ devices) (i ∷ images) (j ∷ images') a b u u' m =
    let p = parted _ _ _ _ _ _ (whole_own set d i a.0.versions) (whole_own set d j b.0.versions) (begins_new set _ images) (begins_new set _ _) m.2 in
    rw (device_same set d i j a.0 b.0 u.0 u'.0 p.inside, devices_same set devices images images' a.1 b.1 u.1 u'.1 p.rest)
devices_same set _ _ images' a b u u' m = absurd a

-- ---- A text in which no line is bad says a state; the second pass finds its first bad part, or the state is ready.

pub named_machine : (set : Set) (text : List ℕ) (machine : Option (List ℕ)) → machine ≡ machine_named set.machines (first_line text) → IsMachineOf set machine
named_machine set text None e = tt
named_machine set text (Some name) e = named_is set.machines (first_line text) name (sym e)

pub none_says : (set : Set) (text : List ℕ) (v : ValuesRead) (n : NoneBad set text v) → Says set text n.machine (images_of n.all.devices)
none_says set text v n =
    let fine = fine_text set text v n in
    record { named = named_machine set text _ n.named; shaped = n.shaped; unsaid = n.unsaid; fine = fine.0; printed = fine.1 }

abbrev pub answer_by : Option (List ℕ) → List Image → Option BadLine → ValuesRead
answer_by machine images (Some b) = Bad b.line b.reason
answer_by machine images None = Values machine images

pub none_answers : (set : Set) (text : List ℕ) (v : ValuesRead) (n : NoneBad set text v)
    → v ≡ answer_by n.machine (images_of n.all.devices) (parts_from set 1 (entries set n.machine (images_of n.all.devices)))
none_answers set text v n = cc

-- no part is bad
pub none_good : (set : Set) (line : ℕ) (es : List Entry) → parts_from set line es ≡ None → AreGood set es
none_good set line [] h = tt
none_good set line (e ∷ es) h = grind (arith, none_good set (suc line) es)

module _ (set : Set) (well : WellFormed set) (good : IsGood set) where
  -- what is known of each device of the set
  abbrev IsKnown : Device → Type 0
  IsKnown d = DefaultsFit (device_cells set d) × (d.desc.minimum ≤ d.desc.version)
      × ((j : ℕ) (s : Sub) → slice_get d.subs j ≡ Some s → s.desc.minimum ≤ s.desc.version)

  all_known : AllByRecursion IsKnown set.devices
  all_known = all_from _ _ (λ k d e. (
    good.defaults k d e,
    leb-true d.desc.minimum d.desc.version (device_parts set well k d e).0.own.1.1.0,
    λ j s f. leb-true s.desc.minimum s.desc.version (sub_clean set well k j d s e f).own.1.1.0,
  ))

  -- the devices from one on
  record ReadyFrom (devices : List Device) (images : List Image) : Type 0 where
    one_each : length images ≡ length devices
    ready : (k : ℕ) (d : Device) (image : Image) → slice_get devices k ≡ Some d → slice_get images k ≡ Some image → IsReady set d image

  ready_from : (devices : List Device) (images : List Image) → AllByRecursion IsKnown devices → AreShaped set devices images → AllUnsaid set devices images
      → AreFine (devices_entries set devices images) → AreGood set (devices_entries set devices images) → ReadyFrom devices images
  ready_from [] [] known shaped unsaid fine goods = record { one_each = refl; ready = λ k d image e f. cc }
  ready_from (d ∷ devices) (image ∷ images) known shaped unsaid fine goods =
      let f = all_parts _ (device_entries set d image) (devices_entries set devices images) fine in
      let g = all_parts _ (device_entries set d image) (devices_entries set devices images) goods in
      let short = short_are image.numbers shaped.0.short in
      let mine = device_ready set d image short shaped.0 unsaid.0 f.0 g.0 known.0.0 known.0.1 known.0.2 in
      let others = ready_from devices images known.1 shaped.1 unsaid.1 f.1 g.1 in
      record { one_each = ap suc others.one_each; ready = λ k e j a b. place k e j a b mine others.ready }
    where
      place : (k : ℕ) (e : Device) (j : Image) → slice_get (d ∷ devices) k ≡ Some e → slice_get (image ∷ images) k ≡ Some j → IsReady set d image
          → ((k : ℕ) (d : Device) (image : Image) → slice_get devices k ≡ Some d → slice_get images k ≡ Some image → IsReady set d image) → IsReady set e j
      place zero e j a b mine others =
          let device : d ≡ e = cc in
          let state : image ≡ j = cc in
          rw (← device, ← state) mine
      place (suc k) e j a b mine others = others k e j a b
  ready_from _ _ known shaped unsaid fine goods = absurd shaped

  machine_good : (machine : Option (List ℕ)) (images : List Image) → AreFine (entries set machine images) → AreGood set (entries set machine images)
      → AreFine (devices_entries set set.devices images) × AreGood set (devices_entries set set.devices images)
  machine_good machine images f g = grind arith

  pub says_ready : (text : List ℕ) (machine : Option (List ℕ)) (images : List Image) → Says set text machine images → AreGood set (entries set machine images)
      → AreReady set images
  says_ready text machine images s g =
      let p = machine_good _ images s.fine g in
      let all = ready_from _ images all_known s.shaped s.unsaid p.0 p.1 in
      record { one_each = all.one_each; ready = all.ready }
