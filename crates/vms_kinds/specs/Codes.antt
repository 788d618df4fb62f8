-- The kinds of number in a stream: their widths, ranges and bytes (docs/format.md).
use Rattle.std.specs.Prelude.{◌≡◌, ℕ, ◌-◌, ◌*◌, ◌%◌, ◌^◌, ◌<◌, List, ℤ, pos, negsuc, ◌≤ℤ◌, slice_index, if◌then◌else◌, Bool as Truth, true, false}
use Rattle.byteorder.specs.Endian.{big_bytes, big_number, twos_complement}
use Rattle.vms_kinds.specs.declared.Kind.{Kind}
use Rattle.vms_kinds.specs.declared.Kind.TheVariants.{U8, U16, U32, U64, I8, I16, I32, I64, Bool, Timer}

-- The number of bytes.
abbrev pub width : Kind → ℕ
width U8 = 1
width U16 = 2
width U32 = 4
width U64 = 8
width I8 = 1
width I16 = 2
width I32 = 4
width I64 = 8
width Bool = 1
width Timer = 8

-- The least number of the kind: 0, unless the kind has negative numbers.
abbrev pub lowest : Kind → ℤ
lowest I8 = negsuc 0x7f
lowest I16 = negsuc 0x7fff
lowest I32 = negsuc 0x7fff_ffff
lowest I64 = negsuc 0x7fff_ffff_ffff_ffff
lowest _ = pos 0

-- The greatest number of the kind.
abbrev pub highest : Kind → ℤ
highest U8 = pos 0xff
highest U16 = pos 0xffff
highest U32 = pos 0xffff_ffff
highest U64 = pos 0xffff_ffff_ffff_ffff
highest I8 = pos 0x7f
highest I16 = pos 0x7fff
highest I32 = pos 0x7fff_ffff
highest I64 = pos 0x7fff_ffff_ffff_ffff
highest Bool = pos 1
highest Timer = pos 0xffff_ffff_ffff_ffff

-- Whether the kind has negative numbers.
abbrev pub is_signed : Kind → Truth
is_signed I8 = true
is_signed I16 = true
is_signed I32 = true
is_signed I64 = true
is_signed _ = false

-- The number `z` is in the range of the kind.
abbrev pub InRange : Kind → ℤ → Type 0
InRange kind z = (lowest kind ≤ℤ z) × (z ≤ℤ highest kind)

-- The number modulo 2 ^ (8 * w).
abbrev pub residue : ℕ → ℤ → ℕ
residue w (pos n) = n % 2 ^ (8 * w)
residue w (negsuc n) = 2 ^ (8 * w) - 1 - n % 2 ^ (8 * w)

-- The bytes of a number of this kind: two's complement, the highest byte first.
unfoldable pub code : Kind → ℤ → List ℕ
code kind z = big_bytes (width kind) (residue (width kind) z)

-- The byte of a truth value is neither 0 nor 1.
abbrev pub IsBadBool : Kind → List ℕ → Type 0
IsBadBool kind bytes = (kind ≡ Bool) × (1 < slice_index bytes 0)

-- The number with these bytes.
abbrev pub value_of : Kind → List ℕ → ℤ
value_of kind bytes = if is_signed kind then twos_complement (width kind) (big_number (width kind) bytes) else pos (big_number (width kind) bytes)
