-- The bytes of the head that is read are those that were read.
use Rattle.std.proofs.Common.{◌≡◌, ℕ, zero, suc, ◌+◌, ◌<◌, List, ◌∷◌, ◌++◌, length, get_or, take, drop, refl, sym, arith, length-drop}
use Rattle.std.proofs.Common.{take-append-drop, append_assoc, [], ap, ◌∙◌}
use Rattle.std.proofs.lemmas.List.{drop-drop, length-take-le, get_or-drop}
use Rattle.byteorder.specs.Endian.{big_number}
use Rattle.vms_kinds.proofs.{CodeLemmas.again}
use Rattle.vms_kinds.specs.{declared.Kind.TheVariants.U32, Bytes.IsBytes}
use Rattle.vms_spec.specs.{Streams.be32, Lookup.number_at}
use Rattle.vms_marks.specs.Heads.{head_bytes, head_in}

-- four bytes are those of their number
four : (a b c d : ℕ) (bytes : List ℕ) → a < 256 → b < 256 → c < 256 → d < 256 → be32 (big_number 4 (a ∷ b ∷ c ∷ d ∷ bytes)) ≡ a ∷ b ∷ c ∷ d ∷ []
four a b c d bytes ha hb hc hd = again U32 (a ∷ b ∷ c ∷ d ∷ []) refl below
  where
    below : (i : ℕ) → get_or (a ∷ b ∷ c ∷ d ∷ []) i 0 < 256
    below zero = ha
    below (suc zero) = hb
    below (suc (suc zero)) = hc
    below (suc (suc (suc zero))) = hd
    below (suc (suc (suc (suc i)))) = omega arith

-- eight bytes are those of their two numbers
eight : (front bytes : List ℕ) → length bytes ≡ 8 → IsBytes bytes → (front ++ be32 (big_number 4 bytes)) ++ be32 (big_number 4 (drop 4 bytes)) ≡ front ++ bytes
eight front (a ∷ b ∷ c ∷ d ∷ e ∷ f ∷ g ∷ h ∷ []) long ok =
    rw (four a b c d (e ∷ f ∷ g ∷ h ∷ []) (ok 0) (ok 1) (ok 2) (ok 3), four e f g h [] (ok 4) (ok 5) (ok 6) (ok 7), append_assoc)
eight front _ long ok = absurd (omega arith)

-- bytes of the right mark and length are those of the head that is read from them
pub spells : (bytes : List ℕ) → IsBytes bytes → get_or bytes 0 0 ≡ 4 → length bytes ≡ 14 + get_or bytes 5 0 → head_bytes (head_in bytes) ≡ bytes
spells (m ∷ a ∷ b ∷ c ∷ d ∷ n ∷ more) ok mark long =
    let r = m ∷ a ∷ b ∷ c ∷ d ∷ n ∷ more in
    let six : drop (6 + n) r ≡ drop n more = sym (drop-drop n 6 r) in
    let plus : 10 + n ≡ (6 + n) + 4 = omega arith in
    let ten : drop (10 + n) r ≡ drop 4 (drop n more) = rw (plus, ← drop-drop 4 (6 + n) r, six) in
    let named : length (take n more) ≡ n = length-take-le n more (omega arith) in
    let last : length (drop n more) ≡ 8 = simp length-drop (omega arith) in
    let bytes : IsBytes (drop n more) = λ i. rw (get_or-drop n more i 0, get_or-drop 6 r (n + i) 0) (ok (6 + (n + i))) in
    ap (λ (l : List ℕ). 4 ∷ (((l ++ (length (take n more) ∷ take n more)) ++ be32 (number_at 4 (6 + n) r)) ++ be32 (number_at 4 (10 + n) r)))
    (four a b c d (n ∷ more) (ok 1) (ok 2) (ok 3) (ok 4))
    ∙ rw (named, six, ten, eight (take n more) (drop n more) last bytes, take-append-drop, mark)
spells _ ok mark long = absurd (omega arith)
