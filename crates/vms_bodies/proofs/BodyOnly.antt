-- What is spelled so is taken: the body of a description, and a section with subsections in any
-- order.
use Rattle.vms_bodies.proofs.Facade.{◌≡◌, ◌≢◌, ℕ, ◌+◌, ◌<◌, ◌≤◌, List, ◌∷◌, ◌++◌, length, get_or, take, drop, slice_set}
use Rattle.vms_bodies.proofs.Facade.{Ok, Err, ℤ, pos, refl, sym, ap, ◌∙◌, arith, append_assoc, length-append, Bool, true, false, not}
use Rattle.vms_bodies.proofs.Facade.{if◌then◌else◌, nat_lt, ◌==◌, [], drop-append_seam, take_all, take-append-le, append_cancel_left, ext_get_or}
use Rattle.vms_bodies.proofs.Facade.{get_or-set_same, length-set, le-ltb, ne_eqb, cases_eq, ⊎_elim, Kind, width, code, InRange, Reason, Desc, exceeds}
use Rattle.vms_bodies.proofs.Facade.{same_number, Slot, Number, Constant, Filler, Rule, Cell, meanings, desc_slots, Spells, RulesHold, has_cell, Taken}
use Rattle.vms_bodies.proofs.Facade.{Progress, Refusal, take_value, take_slot, take_desc, takers, IsSound, AreSound, AreCells, length-code, value_code}
use Rattle.vms_bodies.proofs.Facade.{good_code, same_number_itself, not_exceeds, IsNormal, IsValid, IsVersionOf, sub_head, IsGood, zero, suc, map, Option, Some}
use Rattle.vms_bodies.proofs.Facade.{None, ◌||◌, slice_get, get_or-eq_default, cases_lt, slice_get_within, Device, Set, Sub, no_cell, device_cells, Image}
use Rattle.vms_bodies.proofs.SettledLaws.{its_below, its_outside, fit_slots, own_are, defaults_at, defaults_long, SameIn, own_constants, part_constants}
use Rattle.vms_bodies.proofs.{SpellLaws.FitSlots, SpellLaws.cell_in, SpellLaws.set_other, SpellLaws.at_set, SettledLaws.its_same, SettledLaws.its_spelled}
use Rattle.vms_bodies.proofs.{SettledLaws.its_fit, SettledLaws.its_hold, WalkLaws.Left, WalkLaws.Gives, WalkLaws.IsOther, WalkLaws.Keeping, WalkLaws.ComesTo}
use Rattle.vms_bodies.proofs.{WalkLaws.set_desc_comes, Facade.default_image, Facade.own_slots, Facade.own_cells, Facade.sub_slots, Facade.came_slots}
use Rattle.vms_bodies.proofs.Places.{IsAbove, desc_above, meanings_above, names_append, none_in_both, none_joined}
use Rattle.vms_bodies.proofs.PartLaws.{part_place, sub_size, sub_are, sub_place_up, parts_apart, parts_together, part_apart, names_next, none_of, none_came}
use Rattle.vms_spec.specs.declared.Reason.TheVariants as reasons
use Rattle.vms_spec.specs.Streams

-- ---- tests that come out well

pub if_false : {A : Type 0} (b : Bool) (x y : A) → b ≡ false → (if b then x else y) ≡ y
if_false b x y e = rw e refl

pub if_true : {A : Type 0} (b : Bool) (x y : A) → b ≡ true → (if b then x else y) ≡ x
if_true b x y e = rw e refl

-- the front of the rest, of a known length
pub front_take : (n : ℕ) (xs ys rest : List ℕ) → rest ≡ xs ++ ys → length xs ≡ n → take n rest ≡ xs
front_take n xs ys rest e len = cc (take-append-le n xs ys (omega arith), take_all n xs (omega arith))

pub front_drop : (n : ℕ) (xs ys rest : List ℕ) → rest ≡ xs ++ ys → length xs ≡ n → drop n rest ≡ ys
front_drop n xs ys rest e len = rw (e, ← len) (drop-append_seam xs ys)

front_long : (n : ℕ) (xs ys rest : List ℕ) → rest ≡ xs ++ ys → length xs ≡ n → nat_lt (length rest) n ≡ false
front_long n xs ys rest e len = le-ltb (length rest) n (omega (arith, ap length e, length-append xs ys))

-- a number's code is taken if it doesn't fail
value_taken : (kind : Kind) (reason : Reason) (fails : ℤ → Bool) (put : ℤ → List ℤ) (z : ℤ) (p : Progress) (r : List ℕ) → InRange kind z
    → fails z ≡ false → p.rest ≡ code kind z ++ r
    → take_value kind reason fails put p ≡ Ok (record { numbers = put z; place = p.place + width kind; rest = r })
value_taken kind reason fails put z p r fits good e = grind (arith, front_long, length-code, front_take, good_code, value_code, front_drop)

filler_taken : (filler r : List ℕ) (p : Progress) (n : ℕ) → length filler ≡ n → p.rest ≡ filler ++ r
    → take_slot (Filler n) p ≡ Ok (record { numbers = p.numbers; place = p.place + n; rest = r })
filler_taken filler r p n len e = rw (front_long n filler r p.rest e len, front_drop n filler r p.rest e len) refl

-- no byte at all
pub none_taken : (p : Progress) → take_slot (Filler 0) p ≡ Ok p
none_taken p = grind (arith, filler_taken)

-- ---- what is still to be taken

abbrev pub Never : Refusal → Type 0
Never e = ⊥

-- these slots spell the rest before a tail by the numbers n; besides their cells the numbers so far are n's
pub record Rest (n : List ℤ) (end : ℕ) (tail : List ℕ) (more : List Slot) (q : Progress) : Type 0 where
  pub bytes : List ℕ
  pub front : q.rest ≡ bytes ++ tail
  pub place : q.place + length bytes ≡ end
  pub spells : Spells n more bytes
  pub fits : FitSlots n more
  pub rules : RulesHold more
  pub same : (c : ℕ) → has_cell more c ≡ false → get_or n c (pos 0) ≡ get_or q.numbers c (pos 0)
  pub long : length q.numbers ≡ length n

-- the slots that remain are such
pub record Spelling (total : List ℤ → List Slot) (n : List ℤ) (end : ℕ) (tail : List ℕ) (cell : ℕ) (done : List Slot) (q : Progress) : Type 0 where
  pub more : List Slot
  pub split : total n ≡ done ++ more
  pub high : IsAbove cell more
  pub rest : Rest n end tail more q

module _ (all : List Cell) (total : List ℤ → List Slot) (n : List ℤ) (end : ℕ) (tail : List ℕ) where
  abbrev Here : ℕ → Progress → List Slot → (List ℤ → List Slot) → Type 0
  Here cell q done left = Left total (Spelling total n end tail) Never cell q done left

  split_of : {cell : ℕ} {done : List Slot} {left : List ℤ → List Slot} {q : Progress} → Here cell q done left → total n ≡ done ++ left n
  split_of l = l.split n (record { same = λ c lt. l.holds.rest.same c (l.holds.high.below c lt) })

  rest_of : {cell : ℕ} {done : List Slot} {left : List ℤ → List Slot} {q : Progress} → Here cell q done left → Rest n end tail (left n) q
  rest_of {done = done} {left = left} l = rw (append_cancel_left done l.holds.more (left n) (sym l.holds.split ∙ split_of l)) at l.holds.rest

  -- at a cell that was set to its number, and at each other
  number_same : (cell c : ℕ) (numbers : List ℤ) → cell < length numbers → ((cell == c) ≡ false → get_or n c (pos 0) ≡ get_or numbers c (pos 0))
      → get_or n c (pos 0) ≡ get_or (slice_set numbers cell (get_or n cell (pos 0))) c (pos 0)
  number_same cell c numbers inside h =
      ⊎_elim (λ (e : c ≡ cell). rw (e, get_or-set_same numbers cell (get_or n cell (pos 0)) (pos 0) inside) refl)
      (λ (ne : c ≢ cell). h (ne_eqb cell c (λ e. ne (sym e))) ∙ sym (set_other _ _ _ _ ne)) (cases_eq c cell)

  -- a slot that is taken leaves the others
  passed : {cell further : ℕ} {slot : Slot} {done : List Slot} {left : List ℤ → List Slot} {p q : Progress}
      → ((m : List ℤ) → IsAbove further (left m)) → Here cell p done (λ m. slot ∷ left m) → take_slot slot p ≡ Ok q → Rest n end tail (left n) q
      → Gives total (Spelling total n end tail) Never further (done ++ slot ∷ []) (take_slot slot p)
  passed {slot = slot} {done = done} {left = left} up l is r =
      rw is (record { more = left n; split = cc (split_of l, append_assoc done (slot ∷ []) (left n)); high = up n; rest = r })

  number_spelling : length all ≤ length n → ((m : List ℤ) → AreCells all (total m)) → (cell : ℕ) (kind : Kind) (caps : List ℕ) (done : List Slot)
      → (left : List ℤ → List Slot) (p : Progress) → ((m : List ℤ) → IsAbove (cell + 1) (left m)) → Here cell p done (λ m. Number cell kind caps ∷ left m)
      → Gives total (Spelling total n end tail) Never (cell + 1) (done ++ Number cell kind caps ∷ []) (take_slot (Number cell kind caps) p)
  number_spelling room cells cell kind caps done left p up l =
      let r = rest_of l in
      let z = get_or n cell (pos 0) in
      let inside : cell < length p.numbers = omega (arith, (cell_in all done (left n) cell kind caps (rw (split_of l) at (cells n))).within) in
      passed {cell = cell} {further = cell + 1} {slot = Number cell kind caps} {done = done} {left = left} up l
      (value_taken kind reasons.CountTooLarge (exceeds caps) (slice_set p.numbers cell) z p _ r.fits.0 (not_exceeds caps z r.fits.1)
      (r.front ∙ rw (r.spells.1, append_assoc) refl))
      (record {
        bytes = r.spells.0;
        front = refl;
        place = omega (arith, ap length r.spells.1, length-append (code kind z) r.spells.0, length-code kind z);
        spells = r.spells.2;
        fits = r.fits.2;
        rules = r.rules;
        same = λ c e. number_same cell c p.numbers inside (λ ne. r.same c (rw ne e));
        long = cc (length-set p.numbers cell z);
      })

  -- a slot without a cell changes no number
  unchanged : {slot : Slot} {left : List Slot} {p : Progress} (size : ℕ) (bytes : List ℕ) → Rest n end tail (slot ∷ left) p
      → p.place + size + length bytes ≡ end → Spells n left bytes → FitSlots n left → RulesHold left → ((c : ℕ) → has_cell (slot ∷ left) c ≡ has_cell left c)
      → Rest n end tail left (record { numbers = p.numbers; place = p.place + size; rest = bytes ++ tail })
  unchanged size bytes r long spells fits rules none = search arith

  other_spelling : (cell : ℕ) (slot : Slot) (done : List Slot) (left : List ℤ → List Slot) (p : Progress) → IsOther total (Spelling total n end tail) Never slot
      → ((m : List ℤ) → IsAbove cell (left m)) → Here cell p done (λ m. slot ∷ left m)
      → Gives total (Spelling total n end tail) Never cell (done ++ slot ∷ []) (take_slot slot p)
  other_spelling cell (Number c kind caps) done left p o up l = absurd o
  other_spelling cell (Constant kind z) done left p o up l =
      let r = rest_of l in
      passed {cell = cell} {further = cell} {slot = Constant kind z} {done = done} {left = left} up l
      (value_taken kind reasons.NotEqual (λ y. not (same_number y z)) (λ y. p.numbers) z p _ r.fits.0 (ap not (same_number_itself z))
      (r.front ∙ rw (r.spells.1, append_assoc) refl))
      (unchanged _ _ r
      (omega (arith, ap length r.spells.1, length-append (code kind z) r.spells.0, length-code kind z)) r.spells.2 r.fits.1 r.rules (λ c. refl))
  other_spelling cell (Filler k) done left p o up l =
      let r = rest_of l in
      passed {cell = cell} {further = cell} {slot = Filler k} {done = done} {left = left} up l
      (filler_taken _ _ _ _ r.spells.2 (r.front ∙ rw (r.spells.3, append_assoc) refl))
      (unchanged _ _ r (omega (arith, ap length r.spells.3, length-append r.spells.0 r.spells.1)) r.spells.4 r.fits r.rules (λ c. refl))
  other_spelling cell (Rule b) done left p o up l =
      let r = rest_of l in
      passed {cell = cell} {further = cell} {slot = Rule b} {done = done} {left = left} up l (if_true _ _ _ r.rules.0)
      (record { bytes = r.bytes; front = r.front; place = r.place; spells = r.spells; fits = r.fits; rules = r.rules.1; same = r.same; long = r.long })

  pub spelling_keeps : length all ≤ length n → ((m : List ℤ) → AreCells all (total m)) → Keeping total (Spelling total n end tail) Never
  spelling_keeps room cells = record {
    less = λ cell further done left p le up l. record { more = left n; split = split_of l; high = up n; rest = rest_of l };
    number = λ cell kind caps done left p up l. number_spelling room cells _ _ _ _ left _ up l;
    other = λ cell slot done left p o up l. other_spelling _ _ _ left _ o up l;
  }

-- what a body of these numbers gives
ends_so : (total : List ℤ → List Slot) (n : List ℤ) (end cell : ℕ) (tail : List ℕ) (t : Taken)
    → ComesTo total (Spelling total n end tail) Never cell (λ m. []) t → t ≡ Ok (record { numbers = n; place = end; rest = tail })
ends_so total n end cell tail (Err e) c = absurd c
ends_so total n end cell tail (Ok q) c =
    let r = rest_of [] total n end tail c.1 in
    let place : q.place ≡ end = omega (arith, ap length r.spells) in
    rw (← (ext_get_or (pos 0) q.numbers n r.long (λ k lt. sym (r.same k refl))), ← place, ← (r.front ∙ ap (λ l. l ++ tail) r.spells)) refl

-- a body of a description of the set is taken, and gives the numbers that it was made of
pub body_only : (all : List Cell) (ds : List Desc) → AreSound ds → (d : Desc) (v base : ℕ) (n : List ℤ) (p : Progress) (bytes tail : List ℕ) → IsSound d
    → length all ≤ length n → length p.numbers ≡ length n → ((m : List ℤ) → AreCells all (desc_slots (meanings ds (length ds)) d v m base))
    → Spells n (desc_slots (meanings ds (length ds)) d v n base) bytes → FitSlots n (desc_slots (meanings ds (length ds)) d v n base)
    → RulesHold (desc_slots (meanings ds (length ds)) d v n base)
    → ((c : ℕ) → has_cell (desc_slots (meanings ds (length ds)) d v n base) c ≡ false → get_or n c (pos 0) ≡ get_or p.numbers c (pos 0))
    → p.rest ≡ bytes ++ tail → take_desc (takers ds (length ds)) d v base p ≡ Ok (record { numbers = n; place = p.place + length bytes; rest = tail })
body_only all ds structs d v base n p bytes tail sound room long cells spells fits rules same front =
    let total : List ℤ → List Slot = λ m. desc_slots (meanings ds (length ds)) d v m base in
    let end = p.place + length bytes in
    let c = set_desc_comes total _ Never (spelling_keeps all total n end tail room cells) ds structs d v base p sound (λ m. refl)
    (record {
      more = total n;
      split = refl;
      high = desc_above _ (meanings_above ds _) d v n base;
      rest = record { bytes = bytes; front = front; place = refl; spells = spells; fits = fits; rules = rules; same = same; long = long };
    }) in
    ends_so total n end _ tail _ c.comes

-- ---- a section with subsections in any order is read

pub rules_split : (xs ys : List Slot) → RulesHold (xs ++ ys) → RulesHold xs × RulesHold ys
rules_split [] ys h = (tt, h)
rules_split (Rule b ∷ xs) ys h = let r = rules_split xs ys h.1 in ((h.0, r.0), r.1)
rules_split (_ ∷ xs) ys h = rules_split xs ys h

-- the numbers of the cells that are named, and the defaults of the others
abbrev pub pick : List ℤ → List Slot → ℕ → List Cell → List ℤ
pick n xs i [] = []
pick n xs i (x ∷ cells) = (if has_cell xs i then get_or n i (pos 0) else x.default) ∷ pick n xs (suc i) cells

pick_long : (n : List ℤ) (xs : List Slot) (i : ℕ) (cells : List Cell) → length (pick n xs i cells) ≡ length cells
pick_long n xs i [] = refl
pick_long n xs i (x ∷ cells) = ap suc (pick_long n xs (suc i) cells)

pick_from : (n : List ℤ) (xs : List Slot) (i j : ℕ) (cells : List Cell) (c : ℕ) → i + c ≡ j → c < length cells
    → get_or (pick n xs i cells) c (pos 0) ≡ (if has_cell xs j then get_or n j (pos 0) else (get_or cells c no_cell).default)
pick_from n xs i j [] c e lt = absurd (omega arith)
pick_from n xs i j (x ∷ cells) zero e lt = grind arith
pick_from n xs i j (x ∷ cells) (suc c) e lt = pick_from n xs (suc i) j cells c (omega arith) (omega arith)

-- another list has the same number, if it has at each cell and is no longer than the cells
picks : (n m : List ℤ) (xs : List Slot) (cells : List Cell) (c : ℕ) → length m ≡ length cells
    → (c < length cells → (if has_cell xs c then get_or n c (pos 0) else (get_or cells c no_cell).default) ≡ get_or m c (pos 0))
    → get_or (pick n xs 0 cells) c (pos 0) ≡ get_or m c (pos 0)
picks n m xs cells c long h =
    ⊎_elim (λ (lt : c < length cells). pick_from n xs 0 c cells c (omega arith) lt ∙ h lt)
    (λ (le : length cells ≤ c). get_or-eq_default (pick n xs 0 cells) (pos 0) (omega (arith, pick_long n xs 0 cells))
    ∙ sym (get_or-eq_default m (pos 0) (omega arith))) (cases_lt c (length cells))

-- if the same cells are named, the same is picked
pick_same : (n : List ℤ) (xs ys : List Slot) (cells : List Cell) (c : ℕ) → has_cell xs c ≡ has_cell ys c
    → get_or (pick n xs 0 cells) c (pos 0) ≡ get_or (pick n ys 0 cells) c (pos 0)
pick_same n xs ys cells c e = grind (arith, picks, pick_long, pick_from)

-- what is not named is at its default
pick_default : (n : List ℤ) (xs : List Slot) (cells : List Cell) (c : ℕ) → has_cell xs c ≡ false
    → get_or (pick n xs 0 cells) c (pos 0) ≡ get_or (map (λ (x : Cell). x.default) cells) c (pos 0)
pick_default n xs cells c e = grind (arith, picks, defaults_long, defaults_at)

-- if what isn't picked is at its default, the numbers are picked as they are
pick_all : (n : List ℤ) (xs : List Slot) (cells : List Cell) (c : ℕ) → length n ≡ length cells
    → (c < length n → has_cell xs c ≡ false → get_or n c (pos 0) ≡ (get_or cells c no_cell).default) → get_or (pick n xs 0 cells) c (pos 0) ≡ get_or n c (pos 0)
pick_all n xs cells c long h = grind (arith, picks)

-- what a subsection that is spelled has
pub record IsSub (set : Set) (d : Device) (image : Image) (j w : ℕ) (front : List ℕ) : Type 0 where
  pub sub : Sub
  pub there : slice_get d.subs j ≡ Some sub
  pub version : IsVersionOf sub.desc w
  pub body : List ℕ
  pub spells : Spells image.numbers (sub_slots set sub w image.numbers (part_place set d j)) body
  pub is : front ≡ sub_head sub.desc.name w ++ body

pub sub_so : (set : Set) (d : Device) (image : Image) (j w : ℕ) (front : List ℕ) (s : Sub) → slice_get d.subs j ≡ Some s → IsVersionOf s.desc w
    → slice_get image.came j ≡ Some (Some w)
    → Streams.SubSpells set d image j (slice_get d.subs j) (slice_get image.came j) front → IsSub set d image j w front
sub_so set d image j w front s e version f h = search arith

module _ (set : Set) (d : Device) (image : Image) where
  abbrev own : List Slot
  own = own_slots set d image.version image.numbers

  abbrev parts : List (Option ℕ) → List Slot
  parts came = came_slots set d image.numbers (own_cells set d) d.subs came

  -- the slots of part j at a version
  abbrev part : ℕ → ℕ → Sub → List Slot
  part j w s = sub_slots set s w image.numbers (part_place set d j)

  -- the numbers while these parts came
  abbrev pub so_far : List (Option ℕ) → List ℤ
  so_far came = pick image.numbers (own ++ parts came) 0 (device_cells set d)

  abbrev pub image_at : List (Option ℕ) → Image
  image_at came = record { version = image.version; came = came; numbers = so_far came }

  so_long : (came : List (Option ℕ)) → length (so_far came) ≡ length (device_cells set d)
  so_long came = grind (arith, pick_long, own, parts)

  module _ (normal : IsNormal set d image) where
    -- a region in which no other part has a cell
    region : (came : List (Option ℕ)) (low end : ℕ) → ((c : ℕ) → low ≤ c → c < end → has_cell own c ≡ false → has_cell (parts came) c ≡ false
        → (i : ℕ) (s : Sub) (x : ℕ) → slice_get d.subs i ≡ Some s → slice_get image.came i ≡ Some (Some x) → has_cell (part i x s) c ≡ false)
        → SameIn low end image.numbers (so_far came)
    region came low end h = record {
      same = λ c up lt. pick_all image.numbers (own ++ parts came) (device_cells set d) c normal.cells.long (λ inside e.
          let both = none_in_both c own (parts came) e in
          normal.absent c inside (none_joined c own _ both.0
          (parts_together set d _ (λ xs. has_cell xs c ≡ false) refl (none_joined c) _ d.subs _
          (h c up lt both.0 both.1))));
    }

    own_region : (came : List (Option ℕ)) → SameIn 0 (0 + own_cells set d) image.numbers (so_far came)
    own_region came = region _ 0 _ (λ c up lt a b i s x e f.
        its_below set s.desc x (part_place set d i) _ _ (omega (arith, sub_place_up set (own_cells set d) d.subs i)))

    part_region : (came : List (Option ℕ)) (j w : ℕ) (s : Sub) → slice_get d.subs j ≡ Some s → slice_get came j ≡ Some (Some w)
        → slice_get image.came j ≡ Some (Some w) → SameIn (part_place set d j) (part_place set d j + sub_size set s) image.numbers (so_far came)
    part_region came j w s there f g = region came _ _ (λ c up lt a b i t x e f'.
        ⊎_elim (λ (same : j ≡ i).
        let st : t ≡ s = cc in
        let xw : x ≡ w = cc in
        rw (← same, st, xw) (part_apart set d _ (λ xs. has_cell xs c ≡ false) (none_in_both c) _ d.subs came b j s w there f))
        (λ (ne : j ≡ i → ⊥). its_outside set t.desc x _ _ c
        (parts_apart set (own_cells set d) d.subs j i s t there e ne c up lt)) (cases_eq j i))

    -- at last all numbers are there
    pub so_at_last : so_far image.came ≡ image.numbers
    so_at_last = ext_get_or (pos 0) (so_far image.came) image.numbers (so_long image.came ∙ sym normal.cells.long)
        (λ c lt. pick_all image.numbers (own ++ parts image.came) (device_cells set d) c normal.cells.long (λ inside e. normal.absent c inside e))

    module _ (good : IsGood set) (k : ℕ) (here : slice_get set.devices k ≡ Some d) (valid : IsValid set d image) where
      -- a part's body gives the numbers of one part more
      pub part_taken : (came : List (Option ℕ)) (j w : ℕ) (s : Sub) (place : ℕ) (body tail : List ℕ) → slice_get d.subs j ≡ Some s
          → slice_get came j ≡ Some None → slice_get image.came j ≡ Some (Some w)
          → Spells image.numbers (sub_slots set s w image.numbers (part_place set d j)) body
          → take_desc (takers set.structs (length set.structs)) s.desc w (part_place set d j)
          (record { numbers = so_far came; place = place; rest = body ++ tail })
          ≡ Ok (record { numbers = so_far (slice_set came j (Some w)); place = place + length body; rest = tail })
      part_taken came j w s place body tail there new comes spells =
          let all = device_cells set d in
          let base = part_place set d j in
          let n = image.numbers in
          let came1 = slice_set came j (Some w) in
          let m = so_far came1 in
          let sound = good.subs k j d s here there in
          let same = part_region came1 j w s there (at_set came j _ (slice_get_within came j None new)) comes in
          let rules : RulesHold (part j w s) = part_apart set d n _ rules_split _ d.subs _ (rules_split own _ valid).1 j s w there comes in
          let fits : FitSlots n (part j w s) =
          fit_slots all n (part j w s) normal.cells (sub_are set d j s w n there) (part_constants set good k j d s here there w base n) in
          body_only all set.structs good.structs s.desc w base m (record { numbers = so_far came; place = place; rest = body ++ tail }) body tail sound
          (omega (arith, so_long came1)) (so_long came ∙ sym (so_long came1)) (λ x. sub_are set d j s w x there)
          (its_spelled set s.desc w base good.structs sound n m body same spells) (its_fit set s.desc w base good.structs sound n m same fits)
          (its_hold set s.desc w base good.structs sound n m same rules)
          (λ c e.
          pick_same n (own ++ parts came1) (own ++ parts came) all c
          (names_append own (parts came1) c ∙ ap (λ b. has_cell own c || b)
          (names_next set d n c _ d.subs came j s w there new ∙ rw (rw (its_same set s.desc w base good.structs sound n m same) at e) refl)
          ∙ sym (names_append own (parts came) c)))
          refl

      -- the own body
      pub own_taken : (place : ℕ) (body tail : List ℕ) → Spells image.numbers (own_slots set d image.version image.numbers) body
          → take_desc (takers set.structs (length set.structs)) d.desc image.version 0
          (record { numbers = (default_image set d).numbers; place = place; rest = body ++ tail })
          ≡ Ok (record { numbers = so_far (none_of d.subs); place = place + length body; rest = tail })
      own_taken place body tail spells =
          let all = device_cells set d in
          let n = image.numbers in
          let v = image.version in
          let none = none_of d.subs in
          let m = so_far none in
          let sound = good.devices k d here in
          let same = own_region none in
          let fits : FitSlots n own = fit_slots all n own normal.cells (own_are set d v n) (own_constants set good k d here v 0 n) in
          body_only all _ good.structs d.desc v 0 m
          _ body tail sound (omega (arith, so_long none)) (defaults_long all ∙ sym (so_long none)) (own_are set d v)
          (its_spelled set d.desc v 0 good.structs sound n m body same spells) (its_fit set d.desc v 0 good.structs sound n m same fits)
          (its_hold set d.desc v 0 good.structs sound n m same (rules_split own _ valid).0)
          (λ c e.
          pick_default n (own ++ parts none) all c (none_joined c own (parts none) (rw (its_same set d.desc v 0 good.structs sound n m same) at e)
          (parts_together set d n (λ xs. has_cell xs c ≡ false) refl (none_joined c) (own_cells set d) d.subs none
          (λ i s x e g. absurd (none_came d.subs i x g)))))
          refl
