-- The words of the kinds of number.
use Rattle.std.specs.Prelude.{◌≡◌, ◌↔◌, ℕ, List, Option, Some, None, if◌then◌else◌, codes}
use Rattle.std.specs.Str.{bytes_eq}
use Rattle.vms_kinds.specs.declared.Kind.{Kind}
use Rattle.vms_kinds.specs.declared.Kind.TheVariants.{U8, U16, U32, U64, I8, I16, I32, I64, Bool, Timer}

-- the word of a kind
abbrev pub kind_word : Kind → List ℕ
kind_word U8 = codes "u8"
kind_word U16 = codes "u16"
kind_word U32 = codes "u32"
kind_word U64 = codes "u64"
kind_word I8 = codes "i8"
kind_word I16 = codes "i16"
kind_word I32 = codes "i32"
kind_word I64 = codes "i64"
kind_word Bool = codes "bool"
kind_word Timer = codes "timer"

-- the kind, if the word is its word, otherwise another answer
abbrev pub kind_if : List ℕ → Kind → Option Kind → Option Kind
kind_if word kind other = if bytes_eq word (kind_word kind) then Some kind else other

-- the kind of a word, if there is one
abbrev pub kind_named : List ℕ → Option Kind
kind_named word =
    kind_if word U8 (kind_if word U16 (kind_if word U32 (kind_if word U64
    (kind_if word I8 (kind_if word I16 (kind_if word I32 (kind_if word I64
    (kind_if word Bool (kind_if word Timer None)))))))))

-- the answer is a kind exactly if the word is that kind's
abbrev pub TellsKind : List ℕ → Option Kind → Type 0
TellsKind word named = (kind : Kind) → (named ≡ Some kind) ↔ (word ≡ kind_word kind)
