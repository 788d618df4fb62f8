-- Heads of sections and subsections as bytes: what is spelled is read, and what is read is spelled.
use Rattle.vms_bodies.proofs.Facade.{⊎_elim, cases_Bool, ◌≡◌, ℕ, zero, suc, ◌+◌, ◌<◌, ◌≤◌, List, ◌∷◌, ◌++◌, length, get_or}
use Rattle.vms_bodies.proofs.Facade.{take, drop, Some, refl, sym, ap, ◌∙◌, arith, append_assoc, length-drop, true, false, ◌==◌, ◌&&◌, []}
use Rattle.vms_bodies.proofs.Facade.{slice_get, bytes_eq, drop-drop, take-append-drop, length-take-le, get_or-take, drop-cons, eqb-true, and_parts, big_number}
use Rattle.vms_bodies.proofs.Facade.{big_from, again, bytes_rest, IsBytes, Device, be32, section_head, number_at, bytes_at, find_device, Sub, sub_head}
use Rattle.vms_bodies.proofs.Facade.{find_sub, Kind, U8, width, code, value_of, InRange, plain_take, value_taken, is_truth, is_above, is_bad_bool, raw}
use Rattle.vms_kinds.specs.declared.Kind.TheVariants.{Bool as Truth}

-- ---- bytes

pub is_bytes_drop : (n : ℕ) (xs : List ℕ) → IsBytes xs → IsBytes (drop n xs)
is_bytes_drop n xs h = bytes_rest (take n xs) _ (rw take-append-drop h)

pub four_low : (xs : List ℕ) → IsBytes xs → big_number 4 xs < 4294967296
four_low xs ok = omega (arith, ok 0, ok 1, ok 2, ok 3)

pub split_one : (xs : List ℕ) → 1 ≤ length xs → xs ≡ get_or xs 0 0 ∷ drop 1 xs
split_one xs h = grind arith

big_from_take : (i k : ℕ) (xs : List ℕ) (m : ℕ) → i + k ≤ m → big_from i k (take m xs) ≡ big_from i k xs
big_from_take i zero xs m le = refl
big_from_take i (suc k) xs m le = rw (get_or-take m xs i 0 (omega arith), (big_from_take (suc i) k xs m (omega arith))) refl

pub split_four : (xs : List ℕ) → IsBytes xs → 4 ≤ length xs → xs ≡ be32 (big_number 4 xs) ++ drop 4 xs
split_four xs ok long = grind (arith, again, big_from_take)

pub four_at : (k after : ℕ) (rest : List ℕ) → IsBytes rest → after ≡ k + 4 → after ≤ length rest → drop k rest ≡ be32 (number_at 4 k rest) ++ drop after rest
four_at k after rest ok e le =
    split_four _ (is_bytes_drop k rest ok) (omega (arith, length-drop k rest)) ∙ ap (λ l. be32 (number_at 4 k rest) ++ l) (drop-drop 4 k rest ∙ rw e refl)

pub text_at : (n k : ℕ) (rest : List ℕ) → drop k rest ≡ bytes_at n k rest ++ drop (k + n) rest
text_at n k rest = cc (take-append-drop n (drop k rest), drop-drop n k rest)

pub text_long : (n k : ℕ) (rest : List ℕ) → k + n ≤ length rest → length (bytes_at n k rest) ≡ n
text_long n k rest le = length-take-le n (drop k rest) (omega (arith, length-drop k rest))

pub head_bytes : (rest : List ℕ) (n : ℕ) → IsBytes rest → get_or rest 0 0 ≡ 0x04 → get_or rest 5 0 ≡ n → 14 + n ≤ length rest
    → rest ≡ section_head (number_at 4 1 rest) (bytes_at n 6 rest) (number_at 4 (6 + n) rest) (number_at 4 (10 + n) rest) ++ drop (14 + n) rest
head_bytes rest n ok mark size long =
    let id = be32 (number_at 4 1 rest) in
    let name = bytes_at n 6 rest in
    let instance = be32 (number_at 4 (6 + n) rest) in
    let v = be32 (number_at 4 (10 + n) rest) in
    let tail = drop (14 + n) rest in
    let e5 : drop (6 + n) rest ≡ instance ++ (v ++ tail) =
    cc (four_at (6 + n) (10 + n) rest ok (omega arith) (omega arith), four_at (10 + n) (14 + n) rest ok (omega arith) long) in
    split_one rest (omega arith) ∙ ap (λ b. b ∷ drop 1 rest) mark ∙ ap (λ l. 0x04 ∷ l)
    (four_at 1 5 rest ok (omega arith) (omega arith) ∙ ap (λ l. id ++ l)
    ((drop-cons rest 5 0 (omega arith) ∙ ap (λ b. b ∷ drop 6 rest) size) ∙ ap (λ l. n ∷ l) (text_at n 6 rest ∙ ap (λ l. name ++ l) e5
    ∙ sym (append_assoc name instance (v ++ tail)) ∙ sym (append_assoc (name ++ instance) v tail))))
    ∙ ap (λ k. 0x04 ∷ (id ++ (k ∷ (((name ++ instance) ++ v) ++ tail)))) (sym (text_long n 6 rest (omega arith)))

-- ---- the device that is found

-- a device of this name and instance is at index k
pub record Found (devices : List Device) (j : ℕ) (name : List ℕ) (instance k : ℕ) : Type 0 where
  pub i : ℕ
  pub is : k ≡ j + i
  pub device : Device
  pub there : slice_get devices i ≡ Some device
  pub name_is : bytes_eq device.desc.name name ≡ true
  pub instance_is : device.instance ≡ instance

pub found_is : (devices : List Device) (j : ℕ) (name : List ℕ) (instance k : ℕ) → find_device j devices name instance ≡ Some k → Found devices j name instance k
found_is [] j name instance k e = cc
found_is (d ∷ devices) j name instance k e =
    ⊎_elim (λ (t : (bytes_eq d.desc.name name && d.instance == instance) ≡ true).
    let h = and_parts (bytes_eq d.desc.name name) _ t in
    let one : Some j ≡ Some k = rw t at e in
    let same : j ≡ k = cc in
    record { i = 0; is = omega arith; device = d; there = refl; name_is = h.0; instance_is = eqb-true d.instance instance h.1 })
    (λ (f : (bytes_eq d.desc.name name && d.instance == instance) ≡ false).
    let h = found_is devices (suc j) name instance k (rw f at e) in
    record { i = suc h.i; is = omega arith; device = h.device; there = h.there; name_is = h.name_is; instance_is = h.instance_is }) (cases_Bool _)

-- ---- heads of subsections: what is spelled is read, and what is read is spelled: what is found

pub sub_bytes : (rest : List ℕ) (n : ℕ) → IsBytes rest → get_or rest 0 0 ≡ 0x05 → get_or rest 1 0 ≡ n → 6 + n ≤ length rest
    → rest ≡ sub_head (bytes_at n 2 rest) (number_at 4 (2 + n) rest) ++ drop (6 + n) rest
sub_bytes rest n ok mark size long =
    let name = bytes_at n 2 rest in
    let v = be32 (number_at 4 (2 + n) rest) in
    let tail = drop (6 + n) rest in
    split_one rest (omega arith) ∙ ap (λ b. b ∷ drop 1 rest) mark ∙ ap (λ l. 0x05 ∷ l)
    ((cc (drop-cons rest 1 0 (omega arith))) ∙ ap (λ l. n ∷ l) (text_at n 2 rest ∙ ap (λ l. name ++ l) (four_at _ _ rest ok (omega arith) long)
    ∙ sym (append_assoc name v tail)))
    ∙ ap (λ k. 0x05 ∷ (k ∷ ((name ++ v) ++ tail))) (sym (text_long n 2 rest (omega arith)))

-- a subsection of this name is at index k
pub record FoundSub (subs : List Sub) (j : ℕ) (name : List ℕ) (k : ℕ) : Type 0 where
  pub i : ℕ
  pub is : k ≡ j + i
  pub sub : Sub
  pub there : slice_get subs i ≡ Some sub
  pub name_is : bytes_eq sub.desc.name name ≡ true

pub sub_is : (subs : List Sub) (j : ℕ) (name : List ℕ) (k : ℕ) → find_sub j subs name ≡ Some k → FoundSub subs j name k
sub_is [] j name k e = cc
sub_is (s ∷ subs) j name k e =
    ⊎_elim (λ (t : bytes_eq s.desc.name name ≡ true).
    let one : Some j ≡ Some k = rw t at e in
    let same : j ≡ k = cc in
    record { i = 0; is = omega arith; sub = s; there = refl; name_is = t })
    (λ (f : bytes_eq s.desc.name name ≡ false).
    let h = sub_is subs (suc j) name k (rw f at e) in
    record { i = suc h.i; is = omega arith; sub = h.sub; there = h.there; name_is = h.name_is }) (cases_Bool _)

-- ---- the judge counts slots, the relation counts units: how the two are related. And what bytes say as a number.

-- ---- numbers

-- the bytes of a unit of a number, whatever a bool's byte is
pub raw_take : (kind : Kind) (bytes : List ℕ) → length bytes ≡ width kind → IsBytes bytes
    → InRange (raw kind) (value_of (raw kind) bytes) × (bytes ≡ code kind (value_of (raw kind) bytes))
unfolding code
raw_take Truth bytes len ok = plain_take U8 bytes refl len ok (λ b. let e = b.0 in cc)
raw_take kind bytes len ok = value_taken kind bytes len ok (λ b. let e = b.0 in cc)

pub raw_same : (kind : Kind) (bytes : List ℕ) → value_of (raw kind) bytes ≡ value_of kind bytes
raw_same kind bytes = grind arith

pub bad_same : (kind : Kind) (bytes : List ℕ) → (is_truth kind && is_above (value_of (raw kind) bytes) 1) ≡ is_bad_bool kind bytes
bad_same kind bytes = grind arith
