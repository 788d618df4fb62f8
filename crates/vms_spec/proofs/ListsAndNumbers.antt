-- Lists and numbers: tests of them, and their bytes.
use Rattle.vms_spec.proofs.Facade
use Facade.{◌≡◌, ℕ, suc, ◌+◌, ◌*◌, ◌-◌, ◌<◌, ◌≤◌, min, Bool, true, false, ◌&&◌, nat_le, if◌then◌else◌, List, ◌∷◌}
use Facade.{◌++◌, length, get_or, drop, Option, Some, None, refl, sym, ap, ◌∙◌, arith, ◌||◌, [], AllByRecursion, slice_get, bytes_eq, or_assoc}
use Facade.{or_comm, drop-append_seam, and_from, drop-drop, drop_more, get_or_read, bytes_eq-Decides, or_else, position, Set, Sub, sub_place, AreVersionsOf}
use Facade.{AllCame, is_one_of, natural_from, ℤ, pos, negsuc, ◌≤ℤ◌, or_parts, ints, same_number, is_above, exceeds, ◌^◌, append-nil, mod_below}
use Facade.{pow_pos, big_number, big_bytes, big_number-reads_back, Kind, U8, width, residue, code, InRange, value_of, MOST_UNUSED, be32, is_bad_bool, nat_tests}
use Facade.{is_name_byte}
use Rattle.std.proofs.{lemmas.Result.err_from_is_err_and, Common.Err, Common.IsErrAnd, Common.Result}

-- ---- tests

pub same_tests : (a b : Bool) → (a ≡ true → b ≡ true) → (b ≡ true → a ≡ true) → a ≡ b
same_tests a b f g = grind arith

pub or_second : (a b : Bool) → (a || b) ≡ true → a ≡ false → b ≡ true
or_second a b e f = grind arith

pub or_turned : (a b c : Bool) → (a || (b || c)) ≡ ((b || a) || c)
or_turned a b c = cc (or_assoc a b c, or_comm a b)

pub and_swap : (a b c d : Bool) → ((a && b) && (c && d)) ≡ ((a && c) && (b && d))
and_swap a b c d = grind arith

pub both_below : (n a b : ℕ) → nat_le n (min a b) ≡ (nat_le n a && nat_le n b)
both_below n a b = grind (arith, same_tests, and_from)

pub either_of : {C : Type 0} (a b : Bool) → (a || b) ≡ true → (a ≡ true → C) → (b ≡ true → C) → C
either_of a b e f g = grind arith

-- what `?` returns
pub err_is : {T E : Type 0} (r : Result T E) (e : E) → IsErrAnd r (λ y. y ≡ e) → r ≡ Err e
err_is r e is = let p = err_from_is_err_and r is in rw (p.1, p.2)

-- ---- lists

-- the first of a list, if it is taken
pub pick_append : {B : Type 0} (b : Bool) (x : B) (xs ys zs : List B) → xs ≡ ys ++ zs → (if b then x ∷ xs else xs) ≡ (if b then x ∷ ys else ys) ++ zs
pick_append b x xs ys zs e = grind arith

pub all_right : (P : ℕ → Type 0) (xs ys : List ℕ) → AllByRecursion P (xs ++ ys) → AllByRecursion P ys
all_right P [] ys h = h
all_right P (x ∷ xs) ys h = all_right P xs ys h.1

pub both_none : {X : Type 0} (x y : Option X) → x ≡ None → y ≡ None → or_else x y ≡ None
both_none x y e f = rw e (f)

pub drop_on : {A : Type 0} (all : List A) (at : ℕ) (xs ys : List A) → drop at all ≡ xs ++ ys → drop (at + length xs) all ≡ ys
drop_on all at xs ys e = cc (drop-drop (length xs) at all, drop-append_seam xs ys)

-- if a first element is found, its number is within the list
pub found_inside : {X : Type 0} (p : X → Bool) (i : ℕ) (xs : List X) (k : ℕ) → position p i xs ≡ Some k → (i ≤ k) × (k - i < length xs)
found_inside p i [] k e = absurd (cc)
found_inside p i (x ∷ xs) k e = by (λ h. found_inside p (suc i) xs k h) (p x) e
  where
    by : (position p (suc i) xs ≡ Some k → (suc i ≤ k) × (k - suc i < length xs)) → (t : Bool) → (if t then Some i else position p (suc i) xs) ≡ Some k → (i ≤ k) × (k - i < suc (length xs))
    by rest true e = let same : i ≡ k = cc in (omega arith, omega arith)
    by rest false e = let h = rest e in (omega arith, omega arith)

pub one_of_both : (xs ys : List (List ℕ)) (n : List ℕ) → is_one_of (xs ++ ys) n ≡ (is_one_of xs n || is_one_of ys n)
one_of_both [] ys n = refl
one_of_both (x ∷ xs) ys n = rw (one_of_both xs ys n) (sym (or_assoc (bytes_eq x n) (is_one_of xs n) (is_one_of ys n)))

-- ---- lists of a stream and of an image

pub none_left : (came : List Bool) (k : ℕ) → AllCame came → slice_get came k ≡ Some false → ⊥
none_left (true ∷ came) (suc k) all e = none_left came k all e
none_left (false ∷ came) k all e = absurd all
none_left _ _ all e = cc

pub versions_long : (subs : List Sub) (came : List (Option ℕ)) → AreVersionsOf subs came → length came ≡ length subs
versions_long [] [] h = refl
versions_long (s ∷ subs) (None ∷ came) h = ap suc (versions_long subs came h)
versions_long (s ∷ subs) (Some v ∷ came) h = ap suc (versions_long subs came h.1)
versions_long _ _ h = absurd h

-- where the first subsection begins
pub sub_first : (set : Set) (at : ℕ) (subs : List Sub) → sub_place set at subs 0 ≡ at
sub_first set at [] = refl
sub_first set at (s ∷ subs) = refl

-- a number doesn't shrink if digits are added
pub natural_up : (n : ℕ) (bs : List ℕ) → n ≤ natural_from n bs
natural_up n [] = omega arith
natural_up n (b ∷ bs) = omega (arith, natural_up (n * 10 + (b - 48)) bs)

-- a name is found at the first place that has it
pub found_one : (names : List (List ℕ)) (i : ℕ) (name one : List ℕ) → i < length names → one ≡ get_or names i one → bytes_eq one name ≡ true → is_one_of (drop i names) name ≡ is_one_of names name
    → (is_one_of names name ≡ true) × (get_or names i [] ≡ name)
found_one names i name one lt is same inv = (
  sym inv ∙ ap (λ l. is_one_of l name) (drop_more names i one lt)
      ∙ ap (λ l. bytes_eq l name || is_one_of (drop (i + 1) names) name) (sym is) ∙ ap (λ t. t || is_one_of (drop (i + 1) names) name) same,
  sym (get_or_read names i one lt is []) ∙ (bytes_eq-Decides one name).0 same,
)

-- ---- tests on numbers, and the relations that they decide

pub same_number_itself : (z : ℤ) → same_number z z ≡ true
same_number_itself z = grind arith

pub same_number_is : (a b : ℤ) → same_number a b ≡ true → a ≡ b
same_number_is a b e = grind arith

pub not_above : (z : ℤ) (most : ℕ) → is_above z most ≡ false → z ≤ℤ pos most
not_above z most e = grind arith

pub is_below : (z : ℤ) (most : ℕ) → z ≤ℤ pos most → is_above z most ≡ false
is_below z most h = grind arith

pub within_all : (caps : List ℕ) (z : ℤ) → exceeds caps z ≡ false → AllByRecursion (λ most. z ≤ℤ pos most) caps
within_all [] z e = tt
within_all (most ∷ caps) z e = let h = or_parts (is_above z most) (exceeds caps z) e in (not_above z most h.0, within_all caps z h.1)

pub not_exceeds : (caps : List ℕ) (z : ℤ) → AllByRecursion (λ most. z ≤ℤ pos most) caps → exceeds caps z ≡ false
not_exceeds [] z h = refl
not_exceeds (most ∷ caps) z h = rw (is_below z most h.0) (not_exceeds caps z h.1)

-- ---- numbers can be read back from their bytes

pub read_back : (w x : ℕ) → x < 256 ^ w → big_number w (big_bytes w x) ≡ x
read_back w x h = cc (append-nil (big_bytes w x), big_number-reads_back w x [] h)

pub length-code : (kind : Kind) (z : ℤ) → length (code kind z) ≡ width kind
unfolding code
length-code kind z = grind arith

pub width_small : (kind : Kind) → width kind ≤ MOST_UNUSED
width_small kind = grind arith

-- ---- numbers by their bytes

residue_low : (w : ℕ) (z : ℤ) → residue w z < 2 ^ (8 * w)
residue_low w (pos n) = mod_below n (2 ^ (8 * w)) (pow_pos (8 * w))
residue_low w (negsuc n) = omega (arith, pow_pos (8 * w))

low : (kind : Kind) (z : ℤ) → residue (width kind) z < 256 ^ (width kind)
low kind z = grind (arith, residue_low)

pub code_read : (kind : Kind) (z : ℤ) → big_number (width kind) (code kind z) ≡ residue (width kind) z
unfolding code
code_read kind z = read_back (width kind) (residue (width kind) z) (low kind z)

pub value_code : (kind : Kind) (z : ℤ) → InRange kind z → value_of kind (code kind z) ≡ z
value_code U8 (pos n) h = rw (code_read U8 (pos n)) (grind (arith, ints))
value_code kind (pos n) h = rw (code_read kind (pos n)) (grind (arith, ints))
value_code U8 (negsuc n) h = absurd (omega (arith, ints))
value_code kind (negsuc n) h = rw (code_read kind (negsuc n)) (grind (arith, ints))

pub good_code : (kind : Kind) (z : ℤ) → InRange kind z → is_bad_bool kind (code kind z) ≡ false
unfolding code
good_code kind z h = grind arith

pub be32_read : (n : ℕ) (rest : List ℕ) → n < 2 ^ 32 → big_number 4 (be32 n ++ rest) ≡ n
be32_read n rest h = big_number-reads_back 4 n rest (omega arith)

-- ---- the bytes of names are printable ASCII

pub name_byte_high : (b : ℕ) → is_name_byte b ≡ true → 45 ≤ b
name_byte_high b e = grind (arith, nat_tests)

pub name_byte_low : (b : ℕ) → is_name_byte b ≡ true → b < 123
name_byte_low b e = grind (arith, nat_tests)
