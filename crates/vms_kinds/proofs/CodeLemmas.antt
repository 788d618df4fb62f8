-- The bytes of a number and back, kind by kind.
use Rattle.std.proofs.Common.{◌≤◌, slice_set, ◌≡◌, ℕ, ◌^◌, ◌<◌, List, [], ◌∷◌, length, ℤ, pos, negsuc, slice_index, arith, refl}
use Rattle.std.proofs.{lemmas.Int.ints, lemmas.Int.to_z-of_z, lemmas.Nat.be_bytes_2, lemmas.Nat.be_bytes_4, lemmas.Nat.be_bytes_8}
use Rattle.std.proofs.Common.{◌*◌, ap, ◌∙◌, sym, true, false, ◌++◌, drop}
use Rattle.std.specs.Int.{Width, w8, w16, w32, w64, w128, cast_unsigned}
use Rattle.byteorder.specs.Endian.{big_bytes, big_number, twos_complement}
use Rattle.vms_kinds.specs.{Bytes.IsBytes, declared.Kind.Kind}
use Rattle.vms_kinds.specs.Codes.{width, residue, code, InRange, IsBadBool, is_signed, value_of}
use Rattle.vms_kinds.specs.declared.Kind.TheVariants.{U8, U16, U32, U64, I8, I16, I32, I64, Bool, Timer}
use mir.Val.{SFits, to_z, of_z}
use lib.IntN.{nat_abs}

again_1 : (bs : List ℕ) → length bs ≡ 1 → IsBytes bs → big_bytes 1 (big_number 1 bs) ≡ bs
again_1 (b ∷ []) len ok = ap (λ n. n ∷ []) (omega (arith, ok 0))
again_1 _ len ok = absurd (omega arith)

-- the bytes of a width are those of the number in them
pub again : (kind : Kind) (bs : List ℕ) → length bs ≡ width kind → IsBytes bs → big_bytes (width kind) (big_number (width kind) bs) ≡ bs
again U16 bs len ok = be_bytes_2 bs (big_number 2 bs) len ok (omega arith)
again I16 bs len ok = be_bytes_2 bs (big_number 2 bs) len ok (omega arith)
again U32 bs len ok = be_bytes_4 bs (big_number 4 bs) len ok (omega arith)
again I32 bs len ok = be_bytes_4 bs (big_number 4 bs) len ok (omega arith)
again U64 bs len ok = be_bytes_8 bs (big_number 8 bs) len ok (omega arith)
again I64 bs len ok = be_bytes_8 bs (big_number 8 bs) len ok (omega arith)
again Timer bs len ok = be_bytes_8 bs (big_number 8 bs) len ok (omega arith)
again _ bs len ok = again_1 bs len ok

-- a number in the bytes of a width is below the width's power of 2
below : (kind : Kind) (bs : List ℕ) → IsBytes bs → big_number (width kind) bs < 2 ^ (8 * width kind)
below U16 bs ok = omega (arith, ok 0, ok 1)
below I16 bs ok = omega (arith, ok 0, ok 1)
below U32 bs ok = omega (arith, ok 0, ok 1, ok 2, ok 3)
below I32 bs ok = omega (arith, ok 0, ok 1, ok 2, ok 3)
below U64 bs ok = omega (arith, ok 0, ok 1, ok 2, ok 3, ok 4, ok 5, ok 6, ok 7)
below I64 bs ok = omega (arith, ok 0, ok 1, ok 2, ok 3, ok 4, ok 5, ok 6, ok 7)
below Timer bs ok = omega (arith, ok 0, ok 1, ok 2, ok 3, ok 4, ok 5, ok 6, ok 7)
below _ bs ok = omega (arith, ok 0)

-- a number below that, read as two's complement: it is in range, and its residue is the number
two_back : (kind : Kind) (n : ℕ) → is_signed kind ≡ true → n < 2 ^ (8 * width kind)
    → InRange kind (twos_complement (width kind) n) × (residue (width kind) (twos_complement (width kind) n) ≡ n)
two_back I8 n s h = (grind (arith, ints), grind (arith, ints))
two_back I16 n s h = (grind (arith, ints), grind (arith, ints))
two_back I32 n s h = (grind (arith, ints), grind (arith, ints))
two_back I64 n s h = (grind (arith, ints), grind (arith, ints))
two_back _ n s h = cc

-- another number's bytes
plain_code : (kind : Kind) (n : ℕ) → is_signed kind ≡ false → InRange kind (pos n) → big_bytes (width kind) n ≡ code kind (pos n)
unfolding code
plain_code U8 n s h = ap (big_bytes 1) (omega (arith, ints))
plain_code kind n s h = ap (big_bytes (width kind)) (grind (arith, ints))

-- the number that the bytes of a signed kind give
pub signed_take : (kind : Kind) (bs : List ℕ) → is_signed kind ≡ true → length bs ≡ width kind → IsBytes bs
    → InRange kind (twos_complement (width kind) (big_number (width kind) bs)) × (bs ≡ code kind (twos_complement (width kind) (big_number (width kind) bs)))
unfolding code
signed_take kind bs s len ok =
    let r = two_back kind _ s (below kind bs ok) in (r.0, sym (ap (big_bytes (width kind)) r.1 ∙ again kind bs len ok))

-- the number that the bytes of another kind give
pub plain_take : (kind : Kind) (bs : List ℕ) → is_signed kind ≡ false → length bs ≡ width kind → IsBytes bs → (IsBadBool kind bs → ⊥)
    → InRange kind (pos (big_number (width kind) bs)) × (bs ≡ code kind (pos (big_number (width kind) bs)))
plain_take kind bs s len ok bad = let r = in_range kind bs s ok bad in (r, sym (again kind bs len ok) ∙ plain_code kind _ s r) where
  in_range : (kind : Kind) (bs : List ℕ) → is_signed kind ≡ false → IsBytes bs → (IsBadBool kind bs → ⊥) → InRange kind (pos (big_number (width kind) bs))
  in_range Bool bs s ok bad = let no : 1 < slice_index bs 0 → ⊥ = λ x. bad (refl, x) in omega (arith, ints)
  in_range kind bs s ok bad = grind (arith, ints, below kind bs ok)

-- a signed number fits its own width, and is there the residue
as_i8 : (z : ℤ) → InRange I8 z → SFits w8 z × (cast_unsigned w8 z ≡ residue 1 z)
as_i8 z h = (grind (arith, ints), grind (arith, ints))

pub as_i16 : (z : ℤ) → InRange I16 z → SFits w16 z × (cast_unsigned w16 z ≡ residue 2 z)
as_i16 z h = (grind (arith, ints), grind (arith, ints))

pub as_i32 : (z : ℤ) → InRange I32 z → SFits w32 z × (cast_unsigned w32 z ≡ residue 4 z)
as_i32 z h = (grind (arith, ints), grind (arith, ints))

pub as_i64 : (z : ℤ) → InRange I64 z → SFits w64 z × (cast_unsigned w64 z ≡ residue 8 z)
as_i64 z h = (grind (arith, ints), grind (arith, ints))

-- a cast from 128 bits to a width that the number fits
cast_back : (w : Width) (z : ℤ) → SFits w128 z → SFits w z → to_z w (of_z w (to_z w128 (of_z w128 z))) ≡ z
cast_back w z f g = rw (to_z-of_z w128 z f) (to_z-of_z w z g)

-- one byte, put in front
first_put : (old : List ℕ) (n : ℕ) → 1 ≤ length old → n < 256 → slice_set old 0 n ≡ big_bytes 1 n ++ drop 1 old
first_put [] n some h = absurd (omega arith)
first_put (x ∷ old) n some h = ap (λ v. v ∷ old) (omega arith)

-- the bytes after a signed number was written
pub written_signed : (kind k : Kind) (w : Width) (z : ℤ) (old new : List ℕ) → kind ≡ k → InRange kind z → SFits w128 z
    → (InRange k z → SFits w z × (cast_unsigned w z ≡ residue (width k) z))
    → new ≡ big_bytes (width k) (cast_unsigned w (to_z w (of_z w (to_z w128 (of_z w128 z))))) ++ drop (width k) old
    → new ≡ code kind z ++ drop (width kind) old
unfolding code
written_signed kind k w z old new is h f fits e =
    let g : SFits w z × (cast_unsigned w z ≡ residue (width k) z) = fits (rw is at h) in
    rw (e, cast_back w z f g.0, g.1, is)

pub written_i8 : (kind : Kind) (z : ℤ) (old : List ℕ) (n : ℕ) → kind ≡ I8 → InRange kind z → SFits w128 z → 1 ≤ length old → n < 256
    → n ≡ cast_unsigned w8 (to_z w8 (of_z w8 (to_z w128 (of_z w128 z))))
    → slice_set old 0 n ≡ code kind z ++ drop (width kind) old
written_i8 kind z old n is h f some small e =
    written_signed kind I8 w8 z old _ is h f (as_i8 z) (rw (first_put old n some small, e))

not_negative : (kind : Kind) (n : ℕ) → is_signed kind ≡ false → InRange kind (negsuc n) → ⊥
not_negative U8 n s h = omega (arith, ints)
not_negative kind n s h = grind (arith, ints)

-- the bytes after another number was written
pub written_plain : (kind : Kind) (z : ℤ) (w : ℕ) (old new : List ℕ) → w ≡ width kind → is_signed kind ≡ false → InRange kind z → SFits w128 z
    → new ≡ big_bytes w (nat_abs (to_z w128 (of_z w128 z))) ++ drop w old
    → new ≡ code kind z ++ drop (width kind) old
written_plain kind (pos n) w old new ew s h f e =
    rw (e, to_z-of_z w128 (pos n) f, ew, plain_code kind n s h)
written_plain kind (negsuc n) w old new ew s h f e = absurd (not_negative kind n s h)

-- the bytes after one byte was written
pub written_byte : (kind : Kind) (z : ℤ) (old : List ℕ) → 1 ≡ width kind → is_signed kind ≡ false → InRange kind z → SFits w128 z → 1 ≤ length old
    → nat_abs (to_z w128 (of_z w128 z)) < 256
    → slice_set old 0 (nat_abs (to_z w128 (of_z w128 z))) ≡ code kind z ++ drop (width kind) old
written_byte kind z old ew s h f some small = written_plain kind z 1 old _ ew s h f (first_put old _ some small)

-- a reading of bytes
pub value_taken : (kind : Kind) (bs : List ℕ) → length bs ≡ width kind → IsBytes bs → (IsBadBool kind bs → ⊥)
    → InRange kind (value_of kind bs) × (bs ≡ code kind (value_of kind bs))
value_taken I8 bs len ok bad = signed_take I8 bs refl len ok
value_taken I16 bs len ok bad = signed_take I16 bs refl len ok
value_taken I32 bs len ok bad = signed_take I32 bs refl len ok
value_taken I64 bs len ok bad = signed_take I64 bs refl len ok
value_taken kind bs len ok bad = plain_take kind bs refl len ok bad
