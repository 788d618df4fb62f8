-- When the image of numbers is ready.
use Rattle.dev_images.proofs.Facade
use Facade.{AreOf, AreVersionsOf, Bool, Cell, ComeAsNeeded, Device, Image, IsReady, IsValid, List, None, Number, Option, RulesHold, Set, Slot, Some, Sub, []}
use Facade.{and_from, and_parts, ap, arith, bare, came_slots, cond, cond_both, counts_well, desc_cells, device_cells, drop, false, flat_map, get_or}
use Facade.{get_or-drop, get_or-replicate, get_or-take, has_cell, has_left, has_right, image_of, image_slots, is_needed, kind_at, leb-true, length, ltb-true}
use Facade.{map, names_append, nat_le, nat_lt, ne_eqb, needed_from, no_cell, or_from, or_second, own_cells, own_slots, pos, refl, replicate, rules_append}
use Facade.{same_number, same_number_is, struct_cells, sub_slots, subst, suc, sym, take, true, within, zero, ℕ, ℤ, ◌&&◌, ◌++◌, ◌+◌, ◌-◌}
use Facade.{◌<◌, ◌||◌, ◌∙◌, ◌∷◌, ◌≡◌, ◌≤◌}

-- The subsections' descriptions can be written at their versions.
abbrev pub AreSubs : List Sub → Type 0
AreSubs [] = Unit {0}
AreSubs (s ∷ subs) = (s.desc.minimum ≤ s.desc.version) × AreSubs subs

pub versions : (set : Set) (d : Device) (image : Image) (j : ℕ) (subs : List Sub) → AreSubs subs → AreVersionsOf subs (needed_from set d image j subs)
versions set d image j [] h = tt
versions set d image j (s ∷ subs) h = grind (arith, cond_both, versions set d image (suc j) subs h.1)

-- Only the numbers decide which subsections are needed.
pub needed : (set : Set) (d : Device) (numbers : List ℤ) (came : List (Option ℕ)) (j : ℕ) (subs : List Sub)
    → ComeAsNeeded set d (record (bare d numbers) { came = came }) j subs (needed_from set d (bare d numbers) j subs)
needed set d numbers came j [] = refl
needed set d numbers came j (s ∷ subs) = grind (arith, cond_both, needed set d numbers came (suc j) subs)

-- Cells of their kinds fit if each count is within its capacities.
pub kind-of : (cells : List Cell) (c : ℕ) → kind_at (map (λ cell. cell.kind) cells) c ≡ (get_or cells c no_cell).kind
kind-of (cell ∷ cells) (suc c) = kind-of cells c
kind-of _ _ = refl

pub count-of : (cells : List Cell) → length (map (λ cell. cell.kind) cells) ≡ length cells
count-of [] = refl
count-of (cell ∷ cells) = ap suc (count-of cells)

-- ---- a test of each cell and its place, from a place on

abbrev pub all_from : (ℕ → Cell → Bool) → ℕ → List Cell → Bool
all_from test from [] = true
all_from test from (cell ∷ cells) = test from cell && all_from test (suc from) cells

pub from-at : (test : ℕ → Cell → Bool) (from : ℕ) (cells : List Cell) → all_from test from cells ≡ true → (c place : ℕ) → place ≡ from + c → c < length cells
    → test place (get_or cells c no_cell) ≡ true
from-at test from [] e c place is lt = absurd (omega arith)
from-at test from (cell ∷ cells) e zero place is lt = grind arith
from-at test from (cell ∷ cells) e (suc c) place is lt =
    from-at test (suc from) cells (and_parts (test from cell) _ e).1 c place (omega arith) (omega arith)

pub from-more : (test more : ℕ → Cell → Bool) (from : ℕ) (cells : List Cell)
    → ((k : ℕ) (cell : Cell) → from ≤ k → k < from + length cells → test k cell ≡ true → more k cell ≡ true) → all_from test from cells ≡ true
    → all_from more from cells ≡ true
from-more test more from [] lift e = refl
from-more test more from (cell ∷ cells) lift e =
    let p = and_parts (test from cell) _ e in
    and_from _ _ (lift from cell (omega arith) (omega arith) p.0)
    (from-more test more (suc from) cells (λ k cell l h. lift k cell (omega arith) (omega arith)) p.1)

-- Cells that are joined.
from-both : (test : ℕ → Cell → Bool) (from next : ℕ) (first second : List Cell) → next ≡ from + length first → all_from test from first ≡ true
    → all_from test next second ≡ true → all_from test from (first ++ second) ≡ true
from-both test from next [] second is e f = grind arith
from-both test from next (cell ∷ first) second is e f =
    let p = and_parts (test from cell) _ e in
    and_from _ _ p.0 (from-both test (suc from) next first second (omega arith) p.1 f)

-- From a cell on, each is in the bytes or holds its default.
abbrev pub are_kept : List Slot → List ℤ → ℕ → List Cell → Bool
are_kept slots numbers = all_from (λ k cell. has_cell slots k || same_number (get_or numbers k (pos 0)) cell.default)

-- From a cell on, counts are within the capacities of their arrays.
abbrev pub are_counted : List ℤ → ℕ → List Cell → Bool
are_counted numbers = all_from (λ k cell. counts_well cell.capacities (get_or numbers k (pos 0)))

-- The default of each cell is 0.
abbrev pub zero_defaults : ℕ → List Cell → Bool
zero_defaults = all_from (λ k cell. same_number (pos 0) cell.default)

pub or-lift : (a b c : Bool) → (a ≡ true → b ≡ true) → (a || c) ≡ true → (b || c) ≡ true
or-lift a b c f e = grind arith

module _ (first second : List Slot) (numbers : List ℤ) (from : ℕ) (cells : List Cell) where
  pub kept-left : are_kept first numbers from cells ≡ true → are_kept (first ++ second) numbers from cells ≡ true
  kept-left = from-more _ _ from cells (λ k cell l h. or-lift (has_cell first k) (has_cell (first ++ second) k) _ (has_left first second k))

  pub kept-right : are_kept second numbers from cells ≡ true → are_kept (first ++ second) numbers from cells ≡ true
  kept-right = from-more _ _ from cells (λ k cell l h. or-lift (has_cell second k) (has_cell (first ++ second) k) _ (has_right first second k))

-- Each of these numbers is 0.
abbrev pub AreZeros : List ℤ → ℕ → ℕ → Type 0
AreZeros numbers from to = (k : ℕ) → from ≤ k → k < to → get_or numbers k (pos 0) ≡ pos 0

-- Each cell that isn't in the bytes is 0, as its default is.
pub kept-by : (slots : List Slot) (numbers : List ℤ) (from : ℕ) (cells : List Cell) → zero_defaults from cells ≡ true
    → ((k : ℕ) → from ≤ k → k < from + length cells → has_cell slots k ≡ false → get_or numbers k (pos 0) ≡ pos 0) → are_kept slots numbers from cells ≡ true
kept-by slots numbers from cells d none = grind (arith, from-more)

-- None of these slots has a cell.
pub has-none : (slots more : List Slot) (c : ℕ) → has_cell slots c ≡ false → has_cell more c ≡ false → has_cell (slots ++ more) c ≡ false
has-none slots more c e f = names_append slots more c ∙ or_from _ _ e f

-- Every number of these slots is that of a cell from a place on and below another.
abbrev pub all_within : ℕ → ℕ → List Slot → Bool
all_within low high [] = true
all_within low high (Number k kind capacities ∷ slots) = nat_le low k && (nat_lt k high && all_within low high slots)
all_within low high (slot ∷ slots) = all_within low high slots

pub outside : (low high : ℕ) (slots : List Slot) (c : ℕ) → all_within low high slots ≡ true → (low ≤ c → c < high → ⊥) → has_cell slots c ≡ false
outside low high [] c e out = refl
outside low high (Number k kind capacities ∷ slots) c e out =
    let p = and_parts (nat_le low k) _ e in
    let q = and_parts (nat_lt k high) _ p.1 in
    or_from _ _ (ne_eqb k c (λ same. out (omega (arith, leb-true low k p.0)) (omega (arith, ltb-true k high q.0)))) (outside low high slots c q.1 out)
outside low high (slot ∷ slots) c e out = outside low high slots c e out

-- ---- part by part

-- The cells of one subsection.
abbrev pub sub_cells : Set → Sub → List Cell
sub_cells set s = desc_cells (struct_cells set) s.desc

module _ (set : Set) (d : Device) (numbers : List ℤ) where
  -- The slots of a subsection if it is needed.
  abbrev pub if_needed : Sub → ℕ → ℕ → List Slot
  if_needed s j at = cond (is_needed set d (bare d numbers) s j) (sub_slots set s s.desc.version numbers at) []

  -- These cells are in the bytes or hold their defaults, and the rules hold.
  abbrev AreFine : ℕ → List Cell → List Slot → Type 0
  AreFine at cells slots = (are_kept slots numbers at cells ≡ true) × RulesHold slots

  -- Each cell of a subsection is in its bytes or holds its default, and its rules hold.
  pub record IsFineSub (s : Sub) (j at : ℕ) : Type 0 where
    pub kept : are_kept (if_needed s j at) numbers at (sub_cells set s) ≡ true
    pub rules : RulesHold (if_needed s j at)

  abbrev pub AreFineSubs : ℕ → ℕ → List Sub → Type 0
  AreFineSubs j at [] = Unit {0}
  AreFineSubs j at (s ∷ subs) = IsFineSub s j at × AreFineSubs (suc j) (at + length (sub_cells set s)) subs

  subs-fine : (j at : ℕ) (subs : List Sub) → AreFineSubs j at subs
      → AreFine at (flat_map (sub_cells set) subs) (came_slots set d numbers at subs (needed_from set d (bare d numbers) j subs))
  subs-fine j at [] h = (refl, tt)
  subs-fine j at (s ∷ subs) h =
      let first = if_needed s j at in
      let next = at + length (sub_cells set s) in
      let came = needed_from set d (bare d numbers) (suc j) subs in
      let rest = came_slots set d numbers next subs came in
      let more = subs-fine (suc j) next subs h.1 in
      let cells = flat_map (sub_cells set) subs in
      let here = cond_both (is_needed set d (bare d numbers) s j) (Some s.desc.version) None
      (λ o. came_slots set d numbers at (s ∷ subs) (o ∷ came) ≡ first ++ rest) (λ e. rw e) (λ e. rw e) in
      subst (AreFine at (sub_cells set s ++ cells)) (sym here) (
        from-both _ at next (sub_cells set s) cells refl (kept-left first rest numbers at (sub_cells set s) h.0.kept)
            (kept-right first rest numbers next cells more.0),
        rules_append first rest h.0.rules more.1,
      )

-- ---- the image as a whole

module _ (set : Set) (d : Device) (numbers : List ℤ) (minimum : d.desc.minimum ≤ d.desc.version) (subs : AreSubs d.subs)
    (are : AreOf (map (λ cell. cell.kind) (device_cells set d)) numbers) (counted : are_counted numbers 0 (device_cells set d) ≡ true) where
  pub ready-of : are_kept (image_slots set d (image_of set d numbers)) numbers 0 (device_cells set d) ≡ true → IsValid set d (image_of set d numbers)
      → IsReady set d (image_of set d numbers)
  ready-of kept valid =
      let cells = device_cells set d in
      let slots = image_slots set d (image_of set d numbers) in
      record {
        normal = record {
          version = (minimum, omega arith);
          subs = versions set d (bare d numbers) 0 d.subs subs;
          cells = record {
            long = omega (arith, are.count, count-of cells);
            fits = λ c lt. (
              rw (← kind-of cells c) (are.in_range c (omega (arith, count-of cells))),
              within (get_or cells c no_cell).capacities _ (from-at _ 0 cells counted c c (omega arith) lt),
            );
          };
          absent = λ c lt out. same_number_is _ _ (or_second (has_cell slots c) _ (from-at _ 0 cells kept c c (omega arith) (omega (arith, are.count, count-of cells))) out);
        };
        valid = valid;
        version = refl;
        needed = needed set d numbers (needed_from set d (bare d numbers) 0 d.subs) 0 d.subs;
      }

  -- Part by part: the own fields of a device, and each subsection by itself.
  pub ready-parts : are_kept (own_slots set d d.desc.version numbers) numbers 0 (desc_cells (struct_cells set) d.desc) ≡ true
      → RulesHold (own_slots set d d.desc.version numbers) → AreFineSubs set d numbers 0 (own_cells set d) d.subs → IsReady set d (image_of set d numbers)
  ready-parts own rules fine =
      let held = own_slots set d d.desc.version numbers in
      let came = came_slots set d numbers (own_cells set d) d.subs (needed_from set d (bare d numbers) 0 d.subs) in
      let more = subs-fine set d numbers 0 (own_cells set d) d.subs fine in
      let next = own_cells set d in
      let cells = desc_cells (struct_cells set) d.desc in
      ready-of
      (from-both _ 0 next cells (flat_map (sub_cells set) d.subs) (omega arith) (kept-left held came numbers 0 cells own)
      (kept-right held came numbers next (flat_map (sub_cells set) d.subs) more.0))
      (rules_append held came rules more.1)

-- ---- zeros

pub zeros-in : (numbers : List ℤ) (from n : ℕ) → take n (drop from numbers) ≡ replicate n (pos 0) → AreZeros numbers from (from + n)
zeros-in numbers from n e k l h =
    let there : from + (k - from) ≡ k = omega arith in
    let few : k - from < n = omega arith in
    cc (get_or-take n (drop from numbers) (k - from) (pos 0) few, get_or-drop from numbers (k - from) (pos 0), get_or-replicate n (k - from) (pos 0) (pos 0) few, e, there)

-- The numbers of cells one after the other.
abbrev pub run : List ℤ → ℕ → ℕ → List ℤ
run numbers at zero = []
run numbers at (suc n) = get_or numbers at (pos 0) ∷ run numbers (suc at) n

pub run-zeros : (numbers : List ℤ) (at n : ℕ) → AreZeros numbers at (at + n) → replicate n (pos 0) ≡ run numbers at n
run-zeros numbers at zero zeros = refl
run-zeros numbers at (suc n) zeros =
    cc (zeros at (omega arith) (omega arith), run-zeros numbers (suc at) n (λ k l h. zeros k (omega arith) (omega arith)))
