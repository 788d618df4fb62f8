-- What is taken of the older cells, and the defaults of the others.
use Rattle.vms_convert.proofs.Facade
use Facade.{subst, ne_eqb, inl, inr, cases_lt, ◌≡◌, ℕ, zero, suc, ◌<◌, List, [], ◌∷◌, ◌++◌, length, get_or, take, drop, slice_set, ℤ}
use Facade.{pos, refl, ap, arith, ◌+◌, map, Option, Some, None, sym, ◌∙◌, append_assoc, Bool, true, length-set, if◌then◌else◌, ◌≤◌}
use Facade.{slice_get, get_or-set_other, get_or-set_same, map-append, length-map, eq-eqb, get_or-map, slice_get-get_or, append-nil, take_all, add-one, IsSound}
use Facade.{AreSound, Sub, Device, Set, Slot, desc_cells, struct_cells, Cell, no_cell, Number, device_cells, own_cells, own_slots, sub_slots, sub_place}
use Facade.{came_slots, has_cell, image_slots, its_same, its_below, part_place, image_are, sub_size, sub_place_up, SameBelow, SameIn, exceeds, AreCells}
use Facade.{least_of, steps_of, step_of, exceeds_least, taken, AreTaken, whole, changed, changed_append, Changes, put_partner, put_step, AreSources, Keeps}
use Facade.{WalkStep, has_step_of, put_keeps, takes_keeps, Kind, Typed, InRange, U8, FitsHeads, own_cell_count, device_at, is_well_formed, desc_at, kinds_at}
use Facade.{good_of, ArePut, ArePutAt, at_map, IsGood, spot_slots, part_of, sub_at}
use Rattle.vms_desc.specs.Asks.{first_cell}
use Rattle.vms_spec.specs.declared.Part.TheVariants as parts

-- ---- The first numbers of one list, before the rest of another.

-- one more of the first
pub put_front : (xs ys : List ℤ) (c : ℕ) → c < length xs → length xs ≡ length ys
    → slice_set (take c xs ++ drop c ys) c (get_or xs c (pos 0)) ≡ take (suc c) xs ++ drop (suc c) ys
put_front (x ∷ xs) (y ∷ ys) zero lt long = refl
put_front (x ∷ xs) (y ∷ ys) (suc c) lt long = rw (put_front xs ys c (omega arith) (omega arith))
put_front _ _ c lt long = absurd (omega arith)

-- ---- The slots of a device's own fields and of its first subsections, in the order in which walks visit them.

-- each subsection came at its version in the set
abbrev pub all_came : List Sub → List (Option ℕ)
all_came subs = map (λ s. Some s.desc.version) subs

-- one subsection, which came or not
abbrev pub one_slots : Set → Sub → Option ℕ → List ℤ → ℕ → List Slot
one_slots set s None n at = []
one_slots set s (Some v) n at = sub_slots set s v n at

module _ (set : Set) (d : Device) (n : List ℤ) where
  pub came_next : (from : ℕ) (subs : List Sub) (came : List (Option ℕ)) (j : ℕ) (s : Sub) (o : Option ℕ) → slice_get subs j ≡ Some s → slice_get came j ≡ Some o
      → came_slots set d n from (take (suc j) subs) (take (suc j) came) ≡ came_slots set d n from (take j subs) (take j came) ++ one_slots set s o n
      (sub_place set from subs j)
  came_next from (t ∷ subs) (None ∷ came) zero s o e f = grind arith
  came_next from (t ∷ subs) (Some v ∷ came) zero s o e f =
      let same : o ≡ Some v = cc in
      let one : t ≡ s = cc in
      rw (append-nil, one, same)
  came_next from (t ∷ subs) (None ∷ came) (suc j) s o e f = came_next (from + length (desc_cells (struct_cells set) t.desc)) subs came j s o e f
  came_next from (t ∷ subs) (Some v ∷ came) (suc j) s o e f =
      let next = from + length (desc_cells (struct_cells set) t.desc) in
      let more = one_slots set s o n (sub_place set next subs j) in
      rw (came_next next subs came j s o e f, append_assoc (sub_slots set t v n from) (came_slots set d n next (take j subs) (take j came)) more)
  came_next from _ _ j s o e f = absurd (cc)

abbrev pub first_slots : Set → Device → List (Option ℕ) → ℕ → List ℤ → List Slot
first_slots set d came j n = own_slots set d d.desc.version n ++ came_slots set d n (own_cells set d) (take j d.subs) (take j came)

-- a walk goes through one more
pub walk_next : (f : WalkStep → List ℤ → List ℤ) (set : Set) (d : Device) (came : List (Option ℕ)) (j : ℕ) (s : Sub) (o : Option ℕ)
    (n before now next : List ℤ) → slice_get d.subs j ≡ Some s → slice_get came j ≡ Some o
    → now ≡ changed f (steps_of (first_slots set d came j n)) before
    → next ≡ changed f (steps_of (one_slots set s o n (part_place set d j))) now → next ≡ changed f (steps_of (first_slots set d came (j + 1) n)) before
walk_next f set d came j s o n before now next e h first more =
    let its = one_slots set s o n (part_place set d j) in
    let own = own_slots set d d.desc.version n in
    let front = came_slots set d n (own_cells set d) (take j d.subs) (take j came) in
    rw (
      add-one j,
      came_next set d n (own_cells set d) d.subs came j s o e h,
      ← append_assoc own front its,
      map-append step_of (own ++ front) its,
      changed_append f (steps_of (own ++ front)) (steps_of its) before,
      ← first,
    ) more

module _ (set : Set) (structs : AreSound set.structs) (d : Device) where
  came_same : (n m : List ℤ) (from : ℕ) (subs : List Sub) (came : List (Option ℕ)) (j : ℕ) → ((i : ℕ) (s : Sub) → slice_get subs i ≡ Some s → IsSound s.desc)
      → SameIn from (sub_place set from subs j) n m
      → came_slots set d m from (take j subs) (take j came) ≡ came_slots set d n from (take j subs) (take j came)
  came_same n m from [] came zero sound s = refl
  came_same n m from [] came (suc j) sound s = refl
  came_same n m from (t ∷ subs) came zero sound s = refl
  came_same n m from (t ∷ subs) [] (suc j) sound s = refl
  came_same n m from (t ∷ subs) (None ∷ came) (suc j) sound s =
      came_same n m (from + sub_size set t) subs came j (λ i u e. sound (suc i) u e) (record { same = λ c low lt. s.same c (omega arith) lt })
  came_same n m from (t ∷ subs) (Some v ∷ came) (suc j) sound s =
      let next = from + sub_size set t in
      let up = sub_place_up set next subs j in
      rw (
        its_same set t.desc v from structs (sound 0 t refl) n m (record { same = λ c low lt. s.same c low (omega arith) }),
        came_same n m next subs came j (λ i u e. sound (suc i) u e) (record { same = λ c low lt. s.same c (omega arith) lt }),
      )

  pub first_same : IsSound d.desc → ((i : ℕ) (s : Sub) → slice_get d.subs i ≡ Some s → IsSound s.desc) → (n m : List ℤ) (came : List (Option ℕ)) (j : ℕ)
      → SameBelow (part_place set d j) n m → first_slots set d came j m ≡ first_slots set d came j n
  first_same own sound n m came j s =
      let up = sub_place_up set (own_cells set d) d.subs j in
      rw (
        its_same set d.desc d.desc.version 0 structs own n m (record { same = λ c low lt. s.same c (omega arith) }),
        came_same n m (own_cells set d) d.subs came j sound (record { same = λ c low lt. s.same c lt }),
      )

-- ---- The number of a cell after the steps of some slots.

-- what a cell has after its step, if it had another number before
abbrev pub put_value : List ℤ → List ℕ → Option ℕ → ℤ → ℤ
put_value source caps (Some k) old = let z = get_or source k (pos 0) in if exceeds caps z then old else z
put_value source caps None old = old

put_long : (source : List ℤ) (cell : ℕ) (most o : Option ℕ) (now : List ℤ) → length (put_partner source cell most o now) ≡ length now
put_long source cell most None now = refl
put_long source cell most (Some k) now = grind (arith, length-set)

put_here : (source : List ℤ) (c : ℕ) (caps : List ℕ) (o : Option ℕ) (now : List ℤ) → c < length now
    → get_or (put_partner source c (least_of caps) o now) c (pos 0) ≡ put_value source caps o (get_or now c (pos 0))
put_here source c caps None now lt = refl
put_here source c caps (Some k) now lt = grind (arith, exceeds_least, get_or-set_same)

put_other : (source : List ℤ) (cell c : ℕ) (most o : Option ℕ) (now : List ℤ) → (c ≡ cell → ⊥)
    → get_or (put_partner source cell most o now) c (pos 0) ≡ get_or now c (pos 0)
put_other source cell c most None now ne = refl
put_other source cell c most (Some k) now ne = grind (arith, get_or-set_other)

module _ (all : List Cell) (partners : List (Option ℕ)) (source : List ℤ) where
  abbrev after : List Slot → List ℤ → List ℤ
  after slots now = changed (put_step partners source) (steps_of slots) now

  abbrev value : ℕ → ℤ → ℤ
  value c old = put_value source (get_or all c no_cell).capacities (get_or partners c None) old

  abbrev taken_if : ℕ → Bool → ℤ → ℤ
  taken_if c has old = if has then value c old else old

  abbrev put : ℕ → List ℕ → List ℤ → List ℤ
  put d caps now = put_partner source d (least_of caps) (get_or partners d None) now

  pub put_at : (slots : List Slot) (now : List ℤ) (c : ℕ) → AreCells all slots → length now ≡ length all → c < length all
      → get_or (after slots now) c (pos 0) ≡ taken_if c (has_cell slots c) (get_or now c (pos 0))
  put_at [] now c are long lt = refl
  put_at (Number d kind caps ∷ slots) now c are long lt =
      let more = put_at slots (put d caps now) c are.1 (put_long source d (least_of caps) (get_or partners d None) now ∙ long) lt in
      grind (arith, put_long, put_here, eq-eqb, ne_eqb, put_other, more)
  put_at (_ ∷ slots) now c are long lt = put_at slots now c are long lt

  -- from defaults on, the cells of the slots have taken theirs
  pub taken_at : (c : ℕ) (has : Bool) → taken_if c has (get_or all c no_cell).default ≡ taken source (get_or all c no_cell) has (get_or partners c None)
  taken_at c has = grind arith

-- ---- What the cells of a device have taken, part by part.

module _ (set : Set) (i : ℕ) (lt : i < length set.devices) (good : IsGood set) (partners : List (Option ℕ)) (source : List ℤ) where
  abbrev d : Device
  d = device_at set i

  abbrev puts : List Slot → List ℤ → List ℤ
  puts slots now = changed (put_step partners source) (steps_of slots) now

  -- the device's own fields and its first j subsections have taken their numbers, from defaults on
  abbrev TookTo : ℕ → List ℤ → Type 0
  TookTo j n = n ≡ puts (first_slots set d (all_came d.subs) j n) (map (λ c. c.default) (device_cells set d))

  pub took_own : (n : List ℤ) → n ≡ puts (spot_slots set (part_of set (parts.Device i)) n) (map (λ c. c.default) (device_cells set d)) → TookTo 0 n
  took_own n e = rw (append-nil (own_slots set d d.desc.version n)) e

  pub took_sub : (n m : List ℤ) (j : ℕ) → j < length d.subs → TookTo j n → m ≡ puts (spot_slots set (part_of set (parts.Sub i j)) m) n → TookTo (j + 1) m
  took_sub n m j less first more =
      let there = slice_get-get_or set.devices i _ lt in
      let s = sub_at d j in
      let e : slice_get d.subs j ≡ Some s = slice_get-get_or d.subs j _ less in
      let its = sub_slots set s s.desc.version m (part_place set d j) in
      let keeps : Keeps (steps_of its) n m = subst (Keeps (steps_of its) n) (sym more) (put_keeps partners source (steps_of its) n) in
      let below : SameBelow (part_place set d j) n m =
      record { same = λ c lt. keeps.same c (has_step_of its c ∙ its_below set s.desc s.desc.version (part_place set d j) m c lt) } in
      let still = first_same set good.structs d (good.devices i d there) (λ k s e. good.subs i k d s there e) n m (all_came d.subs) j below in
      walk_next (put_step partners source) set d (all_came d.subs) j s (Some s.desc.version) m (map (λ c. c.default) (device_cells set d)) n m e
      (at_map (λ (s : Sub). Some s.desc.version) d.subs j s e) (rw still first) more

  pub took_all : (n : List ℤ) (j : ℕ) → j ≡ length d.subs → TookTo j n → length n ≡ length (device_cells set d) → AreTaken set d partners source n
  took_all n j end first long =
      let cells = device_cells set d in
      let before = map (λ (c : Cell). c.default) cells in
      let slots = image_slots set d (whole d n) in
      let is : n ≡ puts slots before =
      rw (take_all j d.subs (omega arith), take_all j (all_came d.subs) (omega (arith, length-map d.subs (λ (s : Sub). Some s.desc.version)))) at first in
      record {
        long = long;
        each = λ c lt.
            ap (λ (l : List ℤ). get_or l c (pos 0)) is
            ∙ put_at cells partners source slots before c (image_are set d (whole d n)) (length-map cells (λ (c : Cell). c.default)) lt
            ∙ rw (get_or-map (λ (c : Cell). c.default) cells c no_cell) (taken_at cells partners source c (has_cell slots c));
      }

-- ---- A step may be taken after others: the image keeps its kinds and its length.

pub may_take : (p p' : List (Option ℕ)) (s s' : List ℤ) (xs : List WalkStep) (a b : Typed) → p' ≡ p → s' ≡ s → Changes (put_step p s) xs a b
    → AreSources a.kinds s p → length a.kinds ≡ length a.numbers → AreSources b.kinds s' p' × (length b.kinds ≡ length b.numbers)
may_take p p' s s' xs a b e f h sources long =
    let kinds : b.kinds ≡ a.kinds = rw h in (
      rw (kinds, f, e) sources,
      rw kinds (long ∙ sym (takes_keeps p s xs a b h).long),
    )

-- ---- Cells are put to their defaults one after the other.

module _ (set : Set) (i first : ℕ) (before : List ℤ) where
  abbrev default : ℕ → ℤ
  default c = (get_or (device_cells set (device_at set i)) c no_cell).default

  pub put_one : (cell : ℕ) (now : List ℤ) → ArePut set i first cell before now → cell < length before → first ≤ cell
      → ArePut set i first (cell + 1) before (slice_set now cell (get_or (device_cells set (device_at set i)) cell no_cell).default)
  put_one cell now h lt le =
      let long = h.long in
      let z = default cell in
      let other : (c : ℕ) → (c ≡ cell → ⊥) → get_or (slice_set now cell z) c (pos 0) ≡ get_or now c (pos 0) =
      λ c ne. get_or-set_other now cell c z (pos 0) ne in
      record {
        long = cc (length-set now cell z);
        inside = λ c low less. elim (cases_lt c cell) [
          | inl lower ↦ other c (λ same. absurd (omega arith)) ∙ h.inside c low lower
          | inr ge ↦ let same : c ≡ cell = omega arith in rw same (get_or-set_same now cell z (pos 0) (omega arith))
        ];
        below = λ c less. other c (λ same. absurd (omega arith)) ∙ h.below c less;
        above = λ c up. other c (λ same. absurd (omega arith)) ∙ h.above c (omega arith);
      }

-- all cells of a subsection
pub put_all : (set : Set) (i j first cell : ℕ) (before now : List ℤ) → first ≡ first_cell set (parts.Sub i j)
    → cell ≡ first_cell set (parts.Sub i j) + own_cell_count set (desc_at set (parts.Sub i j))
    → ArePut set i first cell before now → ArePutAt set i j before now
put_all set i j first cell before now e f h = rw (← f, ← e) h

-- and nothing but numbers changes
pub put_rest : (a b c : Typed) (numbers : List ℤ) → b ≡ record a { numbers = b.numbers } → c ≡ record b { numbers = numbers }
    → c ≡ record a { numbers = c.numbers }
put_rest a b c numbers e f = rw f (rw e)

-- a default is in its kind's range
pub default_fits : (set : Set) → is_well_formed set ≡ true → FitsHeads set → (i : ℕ) → i < length set.devices → (cell : ℕ)
    → cell < length (device_cells set (device_at set i)) → (kinds : List Kind) → kinds ≡ kinds_at set i
    → InRange (get_or kinds cell U8) (get_or (device_cells set (device_at set i)) cell no_cell).default
default_fits set well heads i lt cell less kinds e =
    let cells = device_cells set (device_at set i) in
    let kind : get_or kinds cell U8 ≡ (get_or cells cell no_cell).kind = rw e (get_or-map (λ (c : Cell). c.kind) cells cell no_cell) in
    rw kind ((good_of set well heads).defaults i (device_at set i) (slice_get-get_or set.devices i _ lt) cell less).0
