-- What is found at the front of an input is there and may come, and what is there and may come is
-- found.
use Rattle.vms_stream.proofs.Facade
use Facade.{◌≡◌, ℕ, ◌+◌, ◌<◌, ◌≤◌, List, ◌∷◌, ◌++◌, length, get_or, take, drop, ℤ, refl, sym, ap, ◌∙◌, arith}
use Facade.{append_assoc, length-append, true, false, ◌==◌, ◌&&◌, if◌then◌else◌, ◌||◌, drop-drop, le-ltb, eqb-true, or_parts, not-true, Kind}
use Facade.{U8, width, code, value_of, InRange, LONGEST_NAME, be32, longest_text, number_at, bytes_at, Piece, Magic, Version, Configuration, Long, Head, Number}
use Facade.{Constant, Filler, SubHead, Foot, End, Description, Start, Mark, spell, Due, Between, May, AtMagic, AtVersion, AtConfiguration, AtLongName, AtStart}
use Facade.{AtHead, AtEnd, AtMark, AtNumber, AtConstant, AtFiller, AtSubHead, AtFoot, AtOther, AtNext, is_foot, is_next, first_byte, AtDescription, AtLongText}
use Facade.{AtTrailing, raw, length-code, value_code, be32_read, front_take, front_drop, Whole, needs, text_at, between_at, behind_at, trailer_at, unit_at}
use Facade.{Tail, if_both, zero, suc, [], Option, Some, None, Bool, nat_lt, ltb-false, Reason, Set, Slot, Verdict, Goes, Over, opened, slots, AMagic, AVersion}
use Facade.{Field, AfterFields, AfterEnd, due, due_field, Advances, width_positive, Found, Cut, Grammar, judge, judge_found, by_row, owes, passed, tail, if_so}
use Facade.{length-drop, get_or-drop, not, ltb-true, or_from, and_parts, length-take-le, take-append-drop, bytes_first, IsBytes, fits_four, is_bytes_drop}
use Facade.{four_low, split_one, split_four, head_bytes, text_long, sub_bytes, raw_take, start_at, head_at, sub_at, IsThere}
use Rattle.vms_kinds.specs.declared.Kind.TheVariants.{Bool as Truth}
use Rattle.vms_spec.specs.Layout.{Number as NumberSlot, Constant as ConstantSlot, Filler as FillerSlot, Rule as RuleSlot}
use Rattle.vms_bodies.proofs.Heads.{text_at as what_follows}

-- ---- a unit that may come and is spelled at the front is the one that is found

by_kind : (kind : Kind) (z : ℤ) → InRange (raw kind) z → value_of (raw kind) (code kind z) ≡ z
unfolding code
by_kind Truth z r = value_code U8 z r
by_kind kind z r = value_code kind z r

raw_value : (kind : Kind) (z : ℤ) (more : List ℕ) → InRange (raw kind) z → value_of (raw kind) (take (width kind) (code kind z ++ more)) ≡ z
raw_value kind z more r = rw (front_take (width kind) (code kind z) more (code kind z ++ more) refl (length-code kind z)) (by_kind kind z r)

-- the unit y of n bytes is there, if y is x and n its length
there : (n : ℕ) (x y : Piece) (more : List ℕ) → y ≡ x → n ≡ length (spell x) → needs n (spell x ++ more) y ≡ Whole x (length (spell x))
there n x y more e long = rw (e, long, le-ltb (length (spell x ++ more)) (length (spell x)) (omega (arith, length-append (spell x) more)))

one : (b : ℕ) (more : List ℕ) → needs 1 (b ∷ more) (Mark b) ≡ Whole (Mark b) 1
one b more = there 1 (Mark b) (Mark b) more refl refl

-- mark, length and text
text_there : (mark longest : ℕ) (unit : List ℕ → Piece) (name more : List ℕ) → longest < 4294967296 → length name ≤ longest
    → spell (unit name) ≡ mark ∷ be32 (length name) ++ name
    → text_at mark longest unit (spell (unit name) ++ more) (number_at 4 1 (spell (unit name) ++ more)) ≡ Whole (unit name) (length (spell (unit name)))
text_there mark longest unit name more low le e = grind (arith, be32_read, front_take, text_at, there)

long_there : (mark longest : ℕ) (unit : List ℕ → Piece) (n : ℕ) (more : List ℕ) → longest < n → n < 4294967296
    → text_at mark longest unit (spell (Long mark n) ++ more) (number_at 4 1 (spell (Long mark n) ++ more)) ≡ Whole (Long mark n) 5
long_there mark longest unit n more lt f = grind (arith, text_at, be32_read, there)

-- a byte that begins a footer unit begins no subsection
not_sub : (tail : Tail) (b : ℕ) (r : List ℕ) → is_foot tail b ≡ true
    → behind_at tail b r ≡ (if is_foot tail b then (if b == 0x7e then needs 5 r (Foot (number_at 4 1 r)) else needs 1 r (Mark b)) else between_at false b r)
unfolding behind_at
not_sub tail b r t = grind arith

-- a byte that begins a unit between sections
pub next_at : (tail : Tail) (b : ℕ) (r : List ℕ) → is_next tail b ≡ true → behind_at tail b r ≡ between_at false b r
unfolding behind_at
next_at tail b r n = let a = or_parts (b == 0x05) (is_foot tail b) (not-true _ n) in rw (a.0, a.1)

-- the first byte is the unit's
pub begins : (x : Piece) (more : List ℕ) → May (Between false false) x → first_byte x ≡ get_or (spell x ++ more) 0 0
begins _ more (AtStart directly after id name f) = refl
begins _ more _ = refl

pub only : (d : Due) (x : Piece) (more : List ℕ) → May d x → unit_at d (spell x ++ more) ≡ Whole x (length (spell x))
unfolding between_at behind_at trailer_at
only _ _ more (AtMagic bytes e) = there 4 (Magic bytes) _ more (ap Magic (front_take 4 bytes more (bytes ++ more) refl e)) (sym e)
only _ _ more (AtVersion v f) = there 4 (Version v) _ more (ap Version (be32_read v more (omega arith))) refl
only _ _ more (AtConfiguration after name le) = text_there 0x07 LONGEST_NAME Configuration name more (omega arith) le refl
only _ _ more (AtLongName after n lt f) = long_there 0x07 LONGEST_NAME Configuration n more lt f
only _ _ more (AtStart directly after id name f) =
    let r = spell (Start id name) ++ more in
    let e2 : bytes_at (length name) 6 r ≡ name = front_take (length name) name more (drop 6 r) refl refl in
    there (6 + length name) (Start id name) _ more (rw (be32_read id ((length name ∷ name) ++ more) (omega arith), e2)) (omega arith)
only _ _ more (AtHead directly after id name instance v f g h) =
    let x = Head id name instance v in
    let n = length name in
    let last = be32 instance ++ be32 v in
    let r = spell x ++ more in
    let after : drop 6 r ≡ name ++ (last ++ more) = rw (append_assoc name (be32 instance) (be32 v)) (append_assoc name last more) in
    let e1 : number_at 4 1 r ≡ id = be32_read id ((n ∷ ((name ++ be32 instance) ++ be32 v)) ++ more) (omega arith) in
    let e2 : bytes_at n 6 r ≡ name = front_take n name (last ++ more) (drop 6 r) after refl in
    let d6 : drop (6 + n) r ≡ last ++ more = cc (drop-drop n 6 r, front_drop n name (last ++ more) (drop 6 r) after refl) in
    let plus : 10 + n ≡ (6 + n) + 4 = omega arith in
    let d10 : drop (10 + n) r ≡ be32 v ++ more = cc (drop-drop 4 (6 + n) r) in
    let e3 : number_at 4 (6 + n) r ≡ instance = cc (be32_read instance (be32 v ++ more) (omega arith)) in
    let e4 : number_at 4 (10 + n) r ≡ v = cc (be32_read v more (omega arith)) in
    there (14 + n) x _ more (rw (e1, e2, e3, e4)) (omega (arith, length-append (name ++ be32 instance) (be32 v), length-append name (be32 instance)))
only _ _ more (AtEnd directly after) = there 1 End End more refl refl
only _ _ more (AtMark directly after b e) = grind (arith, or_parts, one)
only _ _ more (AtNumber k c kind capacities z r) =
    there (width kind) (Number c kind z) _ more (ap (Number c kind) (raw_value kind z more r)) (sym (length-code kind z))
only _ _ more (AtConstant k kind z y r) = there (width kind) (Constant kind y) _ more (ap (Constant kind) (raw_value kind y more r)) (sym (length-code kind y))
only _ _ more (AtFiller k n bytes e) = there n (Filler bytes) _ more (ap Filler (front_take n bytes more (bytes ++ more) refl e)) (sym e)
only _ _ more (AtSubHead k tail name v f) =
    let n = length name in
    let r = spell (SubHead name v) ++ more in
    let after : drop 2 r ≡ name ++ (be32 v ++ more) = append_assoc name (be32 v) more in
    let d2 : drop (2 + n) r ≡ be32 v ++ more = cc (drop-drop n 2 r, front_drop n name (be32 v ++ more) (drop 2 r) after refl) in
    let e4 : number_at 4 (2 + n) r ≡ v = cc (be32_read v more (omega arith)) in
    there (6 + n) (SubHead name v) _ more (rw (front_take n name (be32 v ++ more) (drop 2 r) after refl, e4)) (omega (arith, length-append name (be32 v)))
only _ _ more (AtFoot k tail id t f) = rw t (there 5 (Foot id) _ more (ap Foot (be32_read id more (omega arith))) refl)
only _ _ more (AtOther k tail b t e) = not_sub tail b (b ∷ more) t ∙ rw (t, e) (one b more)
only _ _ more (AtNext k tail x t may) = grind (arith, spell, next_at, begins, only (Between false false) x more may)
only _ _ more (AtDescription text le) = text_there 0x06 longest_text Description text more (omega arith) le refl
only _ _ more (AtLongText n lt f) = long_there 0x06 longest_text Description n more lt f
only _ _ more (AtTrailing b e) = rw e (one b more)

-- ---- a unit that is found has at least one byte, and all its bytes are there. So a reading advances.

abbrev Stays : List ℕ → Found → Type 0
Stays rest (Whole x n) = (0 < n) × (n ≤ length rest)
Stays rest Cut = Unit {0}

some_bytes : (n : ℕ) (rest : List ℕ) (x : Piece) → 0 < n → Stays rest (needs n rest x)
some_bytes n rest x h = grind arith

-- a unit that is no field's
abbrev pub IsFramed : Piece → Type 0
IsFramed (Number c kind z) = ⊥
IsFramed (Constant kind z) = ⊥
IsFramed (Filler bytes) = ⊥
IsFramed x = Unit {0}

-- what holds of each such unit, whether it is whole or not, holds of what is found by a mark
module _ (P : Found → Type 0) (rest : List ℕ) (each : (n : ℕ) (x : Piece) → 0 < n → IsFramed x → P (needs n rest x)) where
  text_each : (mark longest : ℕ) (unit : List ℕ → Piece) (n : ℕ) → IsFramed (unit (bytes_at n 5 rest)) → P (text_at mark longest unit rest n)
  text_each mark longest unit n framed = grind (arith, if_both, bytes_at)

  between_each : (first : Bool) (m : ℕ) → P (between_at first m rest)
  unfolding between_at
  between_each first m = grind (arith, if_both, text_each)

  pub behind_each : (tail : Tail) (m : ℕ) → P (behind_at tail m rest)
  unfolding behind_at
  behind_each tail m = grind (arith, if_both, between_each)

  trailer_each : (m : ℕ) → P (trailer_at m rest)
  unfolding trailer_at
  trailer_each m = grind (arith, if_both, text_each, number_at)

-- no filler of 0 bytes is due
abbrev pub IsSolid : Due → Type 0
IsSolid (Field k (FillerSlot zero)) = ⊥
IsSolid _ = Unit {0}

stays : (d : Due) (rest : List ℕ) → IsSolid d → Stays rest (unit_at d rest)
stays AMagic rest solid = some_bytes 4 rest (Magic (take 4 rest)) (omega arith)
stays AVersion rest solid = some_bytes 4 rest (Version (number_at 4 0 rest)) (omega arith)
stays (Between first after) rest solid = between_each (Stays rest) rest (λ n x some _. some_bytes n rest x some) first (get_or rest 0 0)
stays (Field k (NumberSlot c kind capacities)) rest solid = some_bytes (width kind) rest (Number c kind _) (width_positive kind)
stays (Field k (ConstantSlot kind z)) rest solid = some_bytes (width kind) rest (Constant kind _) (width_positive kind)
stays (Field k (FillerSlot zero)) rest solid = absurd solid
stays (Field k (FillerSlot (suc n))) rest solid = some_bytes (suc n) rest (Filler (take (suc n) rest)) (omega arith)
stays (AfterFields k tail) rest solid = behind_each (Stays rest) rest (λ n x some _. some_bytes n rest x some) tail (get_or rest 0 0)
stays AfterEnd rest solid = trailer_each (Stays rest) rest (λ n x some _. some_bytes n rest x some) (get_or rest 0 0)
stays _ rest solid = tt

module _ {S : Type 0} (g : Grammar S) (solid : (s : S) → IsSolid (g.due s)) where
  abbrev Advanced : List ℕ → Verdict S → Type 0
  Advanced rest (Goes n next) = (0 < n) × (n ≤ length rest)
  Advanced rest _ = Unit {0}

  on_row : (rest : List ℕ) (o : Option (Option ℕ × Reason)) (n : ℕ) (next : S) → (0 < n) × (n ≤ length rest) → Advanced rest (by_row g o n next)
  on_row rest None n next h = h
  on_row rest (Some (section, reason)) n next h = tt

  on_found : (s : S) (rest : List ℕ) (f : Found) → Stays rest f → Advanced rest (judge_found g s rest f)
  on_found s rest (Whole x n) h = on_row rest (g.reason s x) n (g.after s x) h
  on_found s rest Cut h = if_both (Advanced rest) (owes (g.due s) rest) _ (Over s) tt tt

  pub advances : Advances (judge g)
  advances = search (arith, on_found, stays)

-- of the units so far: the fields that are due leave fillers of 0 bytes out
pub field_solid : (t : Tail) (o : Option ℕ) (slots : List Slot) → IsSolid (due_field t o slots)
field_solid t (Some k) (RuleSlot b ∷ slots) = field_solid t (Some k) slots
field_solid t (Some k) (FillerSlot zero ∷ slots) = field_solid t (Some k) slots
field_solid t o slots = tt

pub due_solid : (set : Set) (u : List Piece) → IsSolid (due set u)
due_solid set [] = tt
due_solid set (End ∷ u) = tt
due_solid set (x ∷ u) = assumption (field_solid (tail set (x ∷ u)) (opened set (x ∷ u)) (drop (passed set (x ∷ u)) (slots set (x ∷ u))))

-- ---- what is found may come, and is spelled at the front

abbrev pub Shows : Due → List ℕ → Found → Type 0
Shows d rest (Whole x n) = IsThere d rest x n
Shows d rest Cut = Unit {0}

whole : (d : Due) (rest : List ℕ) (n : ℕ) (x : Piece) → (n ≤ length rest → IsThere d rest x n) → Shows d rest (needs n rest x)
whole d rest n x f = if_so (Shows d rest) (nat_lt (length rest) n) Cut (Whole x n) (λ t. tt) (λ e. f (ltb-false (length rest) n e))

one_byte : (rest : List ℕ) (m : ℕ) → get_or rest 0 0 ≡ m → 1 ≤ length rest → rest ≡ m ∷ drop 1 rest
one_byte rest m e le = cc (split_one rest le)

-- a mark and a number
mark_four : (rest : List ℕ) (m : ℕ) → IsBytes rest → get_or rest 0 0 ≡ m → 5 ≤ length rest → rest ≡ m ∷ (be32 (number_at 4 1 rest) ++ drop 5 rest)
mark_four rest m ok e le =
    cc (one_byte rest m e (omega arith), split_four (drop 1 rest) (is_bytes_drop 1 rest ok) (omega (arith, length-drop 1 rest)), drop-drop 4 1 rest)

number_low : (rest : List ℕ) (k : ℕ) → IsBytes rest → fits_four (number_at 4 k rest)
number_low rest k ok = four_low (drop k rest) (is_bytes_drop k rest ok)

-- a number's bytes
number_there : (kind : Kind) (rest : List ℕ) → IsBytes rest → width kind ≤ length rest
    → InRange (raw kind) (value_of (raw kind) (take (width kind) rest)) × (rest ≡ code kind (value_of (raw kind) (take (width kind) rest)) ++ drop
    (width kind) rest)
number_there kind rest ok le =
    let t = raw_take kind (take (width kind) rest) (length-take-le (width kind) rest le) (bytes_first (width kind) rest ok) in
    (t.0, sym (take-append-drop (width kind) rest) ∙ ap (λ l. l ++ drop (width kind) rest) t.1)

-- mark, length and text
text_shown : (d : Due) (rest : List ℕ) (mark longest : ℕ) (unit : List ℕ → Piece) → IsBytes rest → get_or rest 0 0 ≡ mark
    → ((name : List ℕ) → spell (unit name) ≡ mark ∷ be32 (length name) ++ name) → ((name : List ℕ) → length name ≤ longest → May d (unit name))
    → ((n : ℕ) → longest < n → fits_four n → May d (Long mark n)) → Shows d rest (text_at mark longest unit rest (number_at 4 1 rest))
text_shown d rest mark longest unit ok e spelled may_text may_long =
    let n = number_at 4 1 rest in
    let name = bytes_at n 5 rest in
    if_so (Shows d rest) (nat_lt longest n) (needs 5 rest (Long mark n)) (needs (5 + n) rest (unit name))
    (λ t. whole d rest 5 (Long mark n)
    (λ le. record { may = may_long n (ltb-true longest n t) (number_low rest 1 ok); long = refl; there = mark_four rest mark ok e le }))
    (λ f. whole d rest (5 + n) (unit name) (λ le.
    let len : length name ≡ n = text_long n 5 rest le in
    let low : n ≤ longest = ltb-false longest n f in
    record {
      may = may_text name (omega arith);
      long = omega (arith, ap length (spelled name), len);
      there = rw (spelled name, append_assoc (be32 (length name)) name (drop (5 + n) rest), len)
          (mark_four rest mark ok e (omega arith) ∙ ap (λ l. mark ∷ (be32 n ++ l)) (what_follows n 5 rest));
    }))

mark_shown : (d : Due) (rest : List ℕ) (x : Piece) (m : ℕ) → get_or rest 0 0 ≡ m → spell x ≡ m ∷ [] → May d x → Shows d rest (needs 1 rest x)
mark_shown d rest x m e spelled may = whole d rest 1 x (λ le. record { may = may; long = ap length spelled; there = cc (one_byte rest m e le) })

start_shown : (first after : Bool) (rest : List ℕ) (n : ℕ) → IsBytes rest → get_or rest 0 0 ≡ 0x01 → get_or rest 5 0 ≡ n
    → Shows (Between first after) rest (start_at rest n)
start_shown first after rest n ok mark size =
    let id = number_at 4 1 rest in
    let name = bytes_at n 6 rest in
    whole (Between first after) rest (6 + n) (Start id name) (λ le.
    let len : length name ≡ n = text_long n 6 rest le in
    let e3 : drop 5 rest ≡ n ∷ drop 6 rest = cc (split_one (drop 5 rest) (omega (arith, length-drop 5 rest)), get_or-drop 5 rest 0 0, drop-drop 1 5 rest) in
    record {
      may = AtStart first after id name (number_low rest 1 ok);
      long = omega (arith, len);
      there = mark_four rest 0x01 ok mark (omega arith) ∙ ap (λ l. 0x01 ∷ (be32 id ++ l)) (e3 ∙ ap (λ l. n ∷ l) (what_follows n 6 rest))
          ∙ ap (λ k. 0x01 ∷ (be32 id ++ (k ∷ (name ++ drop (6 + n) rest)))) (sym len);
    })

head_shown : (first after : Bool) (rest : List ℕ) (n : ℕ) → IsBytes rest → get_or rest 0 0 ≡ 0x04 → get_or rest 5 0 ≡ n
    → Shows (Between first after) rest (head_at rest n)
head_shown first after rest n ok mark size =
    let id = number_at 4 1 rest in
    let name = bytes_at n 6 rest in
    let instance = number_at 4 (6 + n) rest in
    let v = number_at 4 (10 + n) rest in
    whole (Between first after) rest (14 + n) (Head id name instance v) (λ le. record {
      may = AtHead first after id name instance v (number_low rest 1 ok) (number_low rest (6 + n) ok) (number_low rest (10 + n) ok);
      long = omega (arith, text_long n 6 rest (omega arith), length-append (name ++ be32 instance) (be32 v), length-append name (be32 instance));
      there = head_bytes rest n ok mark size le;
    })

sub_shown : (k : ℕ) (tail : Tail) (rest : List ℕ) (n : ℕ) → IsBytes rest → get_or rest 0 0 ≡ 0x05 → get_or rest 1 0 ≡ n
    → Shows (AfterFields k tail) rest (sub_at rest n)
sub_shown k tail rest n ok mark size =
    let name = bytes_at n 2 rest in
    let v = number_at 4 (2 + n) rest in
    whole (AfterFields k tail) rest (6 + n) (SubHead name v) (λ le. record {
      may = AtSubHead k tail name v (number_low rest (2 + n) ok);
      long = omega (arith, text_long n 2 rest (omega arith), length-append name (be32 v));
      there = sub_bytes rest n ok mark size le;
    })

between_shown : (first after : Bool) (m : ℕ) (rest : List ℕ) → IsBytes rest → get_or rest 0 0 ≡ m → Shows (Between first after) rest (between_at first m rest)
unfolding between_at
between_shown first after m rest ok e =
    let d = Between first after in
    let named = text_at 0x07 LONGEST_NAME Configuration rest (number_at 4 1 rest) in
    let test = if_so (Shows d rest) in
    test (m == 0x00) (needs 1 rest End) _ (λ t. mark_shown d rest End 0 (e ∙ eqb-true m 0 t) refl (AtEnd first after))
    (λ f0. test (m == 0x01) (start_at rest (get_or rest 5 0)) _ (λ t. start_shown first after rest (get_or rest 5 0) ok (e ∙ eqb-true m 1 t) refl)
    (λ f1. test (m == 0x04) (head_at rest (get_or rest 5 0)) _ (λ t. head_shown first after rest (get_or rest 5 0) ok (e ∙ eqb-true m 4 t) refl)
    (λ f4. test (m == 0x07 && first) named (needs 1 rest (Mark m)) (λ t. let a = and_parts (m == 0x07) first t in named_shown first a.1 (e ∙ eqb-true m 7 a.0))
    (λ f7. mark_shown d rest (Mark m) m e refl
    (AtMark first after m (or_from (m == 0x00 || m == 0x01 || m == 0x04) (m == 0x07 && first)
    (or_from (m == 0x00 || m == 0x01) (m == 0x04) (or_from (m == 0x00) (m == 0x01) f0 f1) f4) f7))))))
  where
    named_shown : (first : Bool) → first ≡ true → get_or rest 0 0 ≡ 0x07
        → Shows (Between first after) rest (text_at 0x07 LONGEST_NAME Configuration rest (number_at 4 1 rest))
    named_shown true t mark =
        text_shown (Between true after) rest 0x07 LONGEST_NAME Configuration ok mark (λ name. refl) (λ name le. AtConfiguration after name le)
        (λ n lt f. AtLongName after n lt f)
    named_shown false t mark = cc

-- a unit between sections after the fields
next_shown : (k : ℕ) (tail : Tail) (rest : List ℕ) (f : Found) → is_next tail (get_or rest 0 0) ≡ true → IsBytes rest → Shows (Between false false) rest f
    → Shows (AfterFields k tail) rest f
next_shown k tail rest Cut n ok s = tt
next_shown k tail rest (Whole x m) n ok s =
    record { may = AtNext k tail x (ap (is_next tail) (cc (begins x (drop m rest) s.may)) ∙ n) s.may; long = s.long; there = s.there }

behind_shown : (k : ℕ) (tail : Tail) (m : ℕ) (rest : List ℕ) → IsBytes rest → get_or rest 0 0 ≡ m → Shows (AfterFields k tail) rest (behind_at tail m rest)
unfolding behind_at
behind_shown k tail m rest ok e =
    let d = AfterFields k tail in
    let test = if_so (Shows d rest) in
    test (m == 0x05) (sub_at rest (get_or rest 1 0)) _ (λ t. sub_shown k tail rest (get_or rest 1 0) ok (e ∙ eqb-true m 5 t) refl)
    (λ f5. test (is_foot tail m) (if m == 0x7e then needs 5 rest (Foot (number_at 4 1 rest)) else needs 1 rest (Mark m)) (between_at false m rest)
    (λ t. test (m == 0x7e) (needs 5 rest (Foot (number_at 4 1 rest))) (needs 1 rest (Mark m))
    (λ f. let at = eqb-true m 0x7e f in
    whole d rest 5 (Foot (number_at 4 1 rest))
    (λ le. record {
      may = AtFoot k tail (number_at 4 1 rest) (ap (is_foot tail) (sym at) ∙ t)
          (number_low rest 1 ok);
      long = refl;
      there = mark_four rest 0x7e ok (e ∙ at) le;
    }))
    (λ f. mark_shown d rest (Mark m) m e refl (AtOther k tail m t f)))
    (λ t. next_shown k tail rest (between_at false m rest) (ap (is_next tail) e ∙ ap not (or_from (m == 0x05) (is_foot tail m) f5 t)) ok
    (between_shown false false m rest ok e)))

trailer_shown : (m : ℕ) (rest : List ℕ) → IsBytes rest → get_or rest 0 0 ≡ m → Shows AfterEnd rest (trailer_at m rest)
unfolding trailer_at
trailer_shown m rest ok e =
    if_so (Shows AfterEnd rest) (m == 0x06) (text_at 0x06 longest_text Description rest (number_at 4 1 rest)) (needs 1 rest (Mark m))
    (λ t. text_shown AfterEnd rest 0x06 longest_text Description ok (e ∙ eqb-true m 6 t) (λ name. refl) (λ name le. AtDescription name le)
    (λ n lt f. AtLongText n lt f)) (λ f. mark_shown AfterEnd rest (Mark m) m e refl (AtTrailing m f))

pub shows : (d : Due) (rest : List ℕ) → IsBytes rest → Shows d rest (unit_at d rest)
shows AMagic rest ok =
    whole AMagic rest 4 (Magic (take 4 rest))
    (λ le. let l = length-take-le 4 rest le in record { may = AtMagic (take 4 rest) l; long = l; there = sym (take-append-drop 4 rest) })
shows AVersion rest ok =
    whole AVersion rest 4 (Version (number_at 4 0 rest))
    (λ le. record { may = AtVersion (number_at 4 0 rest) (four_low rest ok); long = refl; there = split_four rest ok le })
shows (Between first after) rest ok = between_shown first after (get_or rest 0 0) rest ok refl
shows (Field k (NumberSlot c kind capacities)) rest ok =
    let z = value_of (raw kind) (take (width kind) rest) in
    whole (Field k (NumberSlot c kind capacities)) rest (width kind) (Number c kind z)
    (λ le. let t = number_there kind rest ok le in record { may = AtNumber k c kind capacities z t.0; long = length-code kind z; there = t.1 })
shows (Field k (ConstantSlot kind y)) rest ok =
    let z = value_of (raw kind) (take (width kind) rest) in
    whole (Field k (ConstantSlot kind y)) rest (width kind) (Constant kind z)
    (λ le. let t = number_there kind rest ok le in record { may = AtConstant k kind y z t.0; long = length-code kind z; there = t.1 })
shows (Field k (FillerSlot n)) rest ok =
    whole (Field k (FillerSlot n)) rest n (Filler (take n rest))
    (λ le. let l = length-take-le n rest le in record { may = AtFiller k n (take n rest) l; long = l; there = sym (take-append-drop n rest) })
shows (AfterFields k tail) rest ok = behind_shown k tail (get_or rest 0 0) rest ok refl
shows AfterEnd rest ok = trailer_shown (get_or rest 0 0) rest ok refl
shows _ rest ok = tt
