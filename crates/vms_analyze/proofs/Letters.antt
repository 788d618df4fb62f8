-- Names of a well-formed set and paths are of the bytes that a description may have.
use Rattle.vms_analyze.proofs.Facade
use Facade.{decimal_all, ◌≡◌, ℕ, ◌+◌, ◌<◌, ◌≤◌, Bool, true, ◌&&◌, nat_le, List, [], ◌∷◌, ◌++◌, elements_each, what_of}
use Facade.{length, length-append, refl, ap, ◌∙◌, arith, get_or, ℤ, list_all, AllByRecursion, and_parts, le-leb, and_from, list_all-append, Count}
use Facade.{is_name_byte, is_name, is_sub_name, index_text, What, Constant, Filler, Rule, is_path_byte, is_path, sub_name_is, Item, MOST_UNUSED, in_range}
use Facade.{defaults_well, is_small_item, Field, Desc, Set, no_desc, elements_in}
use Rattle.std.specs.Fmt.{decimal}
use Rattle.vms_elements.specs.Elements.{Number, Element, behind}

-- ---- Names of a well-formed set and paths are of the bytes that a description may have.

-- of 1 to n bytes, all of them letters of paths
pub record IsNamed (most : ℕ) (text : List ℕ) : Type 0 where
  pub some : 1 ≤ length text
  pub few : length text ≤ most
  pub bytes : list_all is_path_byte text ≡ true

pub named_path : (most : ℕ) (text : List ℕ) → IsNamed most text → is_path most text ≡ true
named_path most text h = rw (le-leb 1 (length text) h.some, (le-leb (length text) most h.few), h.bytes)

pub named_within : (a b : ℕ) (text : List ℕ) → a ≤ b → IsNamed a text → IsNamed b text
named_within a b text le h = let few = h.few in record { some = h.some; few = omega arith; bytes = h.bytes }

pub every_both : (xs ys : List ℕ) → list_all is_path_byte xs ≡ true → list_all is_path_byte ys ≡ true → list_all is_path_byte (xs ++ ys) ≡ true
every_both xs ys e f = list_all-append is_path_byte xs ys ∙ and_from _ _ e f

-- ---- names

name_bytes : (xs : List ℕ) → list_all is_name_byte xs ≡ true → list_all is_path_byte xs ≡ true
name_bytes [] e = refl
name_bytes (x ∷ xs) e =
    let p = and_parts (is_name_byte x) (list_all is_name_byte xs) e in
    rw p.0 (name_bytes xs p.1)

pub name_named : (most : ℕ) (name : List ℕ) → is_name most name ≡ true → IsNamed most name
name_named most name e = search (arith, name_bytes)

pub sub_named : (device name : List ℕ) → IsNamed 100 device → is_sub_name device name ≡ true → IsNamed 165 name
sub_named device name d e =
    let front = device ++ 47 ∷ [] in
    let n = sub_name_is device name e in
    let tail = name_named 64 n.tail n.good in
    let few = d.few in
    let long : length (front ++ n.tail) ≡ length device + 1 + length n.tail = omega (arith, length-append front n.tail, length-append device (47 ∷ [])) in
    let same = ap length n.whole in
    record {
      some = omega arith;
      few = omega arith;
      bytes = rw n.whole at (every_both front n.tail (every_both device (47 ∷ []) d.bytes refl) tail.bytes);
    }

-- ---- numbers of elements

path_bytes : (text : List ℕ) → AllByRecursion (λ b. is_path_byte b ≡ true) text → list_all is_path_byte text ≡ true
path_bytes [] h = refl
path_bytes (b ∷ text) h = rw h.0 (path_bytes text h.1)

digit_byte : (d : ℕ) → d < 10 → is_path_byte (48 + d) ≡ true
digit_byte d lt = rw (le-leb 48 (48 + d) (omega arith), le-leb (48 + d) 57 (omega arith))

decimal_bytes : (n : ℕ) → list_all is_path_byte (decimal n) ≡ true
decimal_bytes n = path_bytes (decimal n) (decimal_all _ digit_byte n)

pub index_bytes : (count : Count) (e : ℕ) → list_all is_path_byte (index_text count e) ≡ true
index_bytes count e = grind (arith, every_both, decimal_bytes)

-- ---- Each element of a part of a well-formed set has a path of the right bytes, and may be described.

abbrev pub IsGoodWhat : What → Type 0
IsGoodWhat (Number cell) = in_range cell.kind cell.default ≡ true
IsGoodWhat (Constant kind z) = Unit {0}
IsGoodWhat (Filler n) = (nat_le 1 n && nat_le n MOST_UNUSED) ≡ true
IsGoodWhat (Rule holds) = Unit {0}

-- an end has no path for itself
abbrev pub HasPath : What → List ℕ → Type 0
HasPath (Rule holds) name = Unit {0}
HasPath _ name = 1 ≤ length name

-- inside of a field, and with the field's name
pub record IsPart (x : Element) : Type 0 where
  pub bytes : list_all is_path_byte x.name ≡ true
  pub what : IsGoodWhat x.what

pub record IsGoodElement (x : Element) : Type 0 where
  pub part : IsPart x
  pub path : HasPath x.what x.name

-- the rules of a field
pub record IsGoodField (f : Field) : Type 0 where
  pub name : is_name 32 f.name ≡ true
  pub default : defaults_well f.item f.default ≡ true
  pub small : is_small_item f.item ≡ true

abbrev pub AreGoodFields : List Field → Type 0
AreGoodFields = AllByRecursion IsGoodField

-- ---- elements of fields

has_path : (w : What) (name : List ℕ) → 1 ≤ length name → HasPath w name
has_path w name h = grind arith

behind_good : (f : Field) → is_name 32 f.name ≡ true → (e : ℕ) (step : ℕ × ℕ) (c p : Bool) (x : Element) → IsPart x
    → IsGoodElement (behind step (f.name ++ index_text f.count e) c p x)
behind_good f name e step c p x h =
    let named = name_named 32 f.name name in
    let front = f.name ++ index_text f.count e in
    record {
      part = record { bytes = every_both front x.name (every_both f.name (index_text f.count e) named.bytes (index_bytes f.count e)) h.bytes; what = h.what };
      path = has_path x.what (front ++ x.name) (omega (arith, length-append front x.name, length-append f.name (index_text f.count e)));
    }

what_good : (i : Item) (caps : List ℕ) (z : ℤ) → defaults_well i z ≡ true → is_small_item i ≡ true → IsGoodWhat (what_of i caps z)
what_good i caps z default small = grind arith

pub elements_good : (set : Set) → ((j : ℕ) → AreGoodFields (get_or set.structs j no_desc).fields) → (d : Desc) → AreGoodFields d.fields
    → (v : ℕ) (n : List ℤ) (at : ℕ) → AllByRecursion IsGoodElement (elements_in set d v n at)
elements_good set h d fields v n at =
    elements_each IsGoodField IsPart IsGoodElement (λ f good caps at. record { bytes = refl; what = what_good _ _ _ good.default good.small })
    (λ x h. record { bytes = h.bytes; what = h.what }) (λ f good number e c p x h. behind_good f good.name _ _ _ _ _ h)
    (λ at b. record { part = record { bytes = refl; what = tt }; path = tt }) (λ x h. h.part) set h d v fields n at
