-- The kinds and their words correspond.
use Rattle.std.proofs.{Common.[], lemmas.List.drop_more, lemmas.List.drop_all, lemmas.Slice.Eq.bytes_eq-Decides}
use Rattle.std.proofs.Common.{◌≡◌, ℕ, ◌+◌, ◌<◌, ◌≤◌, List, ◌∷◌, length, get_or, drop, Bool, true, Option, Some, None, if◌then◌else◌, refl, sym, ap, ◌∙◌, arith}
use Rattle.std.specs.Str.{bytes_eq}
use Rattle.vms_kinds.specs.declared.Kind.{Kind}
use Rattle.vms_words.specs.Words.{kind_word, kind_if, kind_named, TellsKind}
use Rattle.vms_kinds.specs.declared.Kind.TheVariants as kinds

-- the answer's word is the given one
abbrev HasWord : List ℕ → Option Kind → Type 0
HasWord word named = (kind : Kind) → named ≡ Some kind → word ≡ kind_word kind

by_test : (same : Bool) (word : List ℕ) (kind : Kind) (other : Option Kind)
    → (same ≡ true → word ≡ kind_word kind) → HasWord word other → HasWord word (if same then Some kind else other)
by_test same word kind other has others k is = grind arith

tried : (word : List ℕ) (kind : Kind) (other : Option Kind) → HasWord word other → HasWord word (kind_if word kind other)
tried word kind other others = by_test (bytes_eq word (kind_word kind)) word kind other (bytes_eq-Decides word (kind_word kind)).0 others

has_word : (word : List ℕ) → HasWord word (kind_named word)
has_word word =
    tried word kinds.U8 _ (tried word kinds.U16 _ (tried word kinds.U32 _ (tried word kinds.U64 _
    (tried word kinds.I8 _ (tried word kinds.I16 _ (tried word kinds.I32 _ (tried word kinds.I64 _
    (tried word kinds.Bool _ (tried word kinds.Timer _ (λ kind is. cc))))))))))

pub word_named : (kind : Kind) → kind_named (kind_word kind) ≡ Some kind
word_named kinds.U8 = refl
word_named _ = refl

pub tells_kind : (word : List ℕ) → TellsKind word (kind_named word)
tells_kind word kind = (has_word word kind, λ same. ap kind_named same ∙ word_named kind)

pub told : (word : List ℕ) (named : Option Kind) → kind_named word ≡ named → TellsKind word named
told word named e = rw e at (tells_kind word)

-- the first of these kinds whose word this is
abbrev pub named_in : List ℕ → List Kind → Option Kind
named_in word [] = None
named_in word (kind ∷ kinds) = kind_if word kind (named_in word kinds)

-- a kind is tried: its word is the given one, or the later kinds remain
module _ (word text : List ℕ) (kinds : List Kind) (i : ℕ) (d : Kind) (lt : i < length kinds) (e : text ≡ kind_word (get_or kinds i d)) where
  pub tried_once : (b : Bool) → bytes_eq word text ≡ b → named_in word (drop i kinds) ≡ (if b then Some (get_or kinds i d) else named_in word (drop (i + 1) kinds))
  tried_once b same =
      ap (named_in word) (drop_more kinds i d lt)
      ∙ ap (λ b. if b then Some (get_or kinds i d) else named_in word (drop (i + 1) kinds)) (ap (bytes_eq word) (sym e) ∙ same)

pub no_kind : (word : List ℕ) (kinds : List Kind) (i : ℕ) → length kinds ≤ i → named_in word (drop i kinds) ≡ None
no_kind word kinds i h = ap (named_in word) (drop_all i kinds h)
