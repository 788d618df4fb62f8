-- A description is read back from its text: the bytes of a value's text, trees and whole
-- descriptions.
use Rattle.vms_selfdesc.proofs.Facade
use Facade.{nat_tests, decimal_all, all_both, ◌≡◌, ℕ, suc, ◌<◌, ◌≤◌, ◌%◌, ◌/◌, ◌+◌, Bool, true, false, cond, ◌&&◌, nat_lt}
use Facade.{nat_le, List, [], ◌∷◌, ◌++◌, map, Option, Some, None, ℤ, pos, negsuc, refl, arith, codes, AllByRecursion, list_all, and_parts, leb-true}
use Facade.{ltb-true, ltb-false, digit_char, escape, escape_byte, escape_letter, quoted, Data, null, boolean, number, string, array, object, Items, no_items}
use Facade.{item, Members, no_members, member, items_of, number_text, comma_if, compact_text, items_text, members_text, Kind, kind_word, Entry, entry_tree}
use Facade.{sub_members, device_members, ◌^◌, int_lt, ap, signed_decimal, mag, option_map, ItemsHaveNumbers, IsNumber-decimal, IsNumber-signed_decimal, put}
use Facade.{of_integer, of_items, items_outline, number_of-decimal, number_of-negative, IsSound, AreSound, sent_entry, absent_entry, natural, list_tree, max}
use Facade.{sym, ap₂, ◌∙◌, option_and_then, Token, tokens, tokens-print, value-json_tokens, ArePrintable-json_tokens, depth, items_depth, members_depth}
use Facade.{of_json, read, max_depth, outline, members_outline, print-outline}
use Rattle.std.proofs.Common.{append-nil}
use Rattle.std.specs.Fmt.{decimal}
use Rattle.serde_json.specs.Data.{Num}
use Rattle.vms_kinds.specs.declared.Kind.TheVariants as kinds
use Rattle.json.specs.Json as json
use Rattle.json.specs.Tree as tree

-- ---- the bytes in the text of a JSON value without spaces: those of its strings, escaped, and others from 34 to 125

-- all strings and keys have such bytes
abbrev mutual
  pub HasLetters : (ℕ → Type 0) → Data → Type 0
  HasLetters L (string s) = AllByRecursion L s
  HasLetters L (array ds) = ItemsHave L ds
  HasLetters L (object ms) = MembersHave L ms
  HasLetters _ _ = Unit {0}

  pub ItemsHave : (ℕ → Type 0) → Items → Type 0
  ItemsHave L no_items = Unit {0}
  ItemsHave L (item d ds) = HasLetters L d × ItemsHave L ds

  pub MembersHave : (ℕ → Type 0) → Members → Type 0
  MembersHave L no_members = Unit {0}
  MembersHave L (member k d ms) = AllByRecursion L k × HasLetters L d × MembersHave L ms

-- the bytes that strings and keys may have, and those that the text may have then
pub record Allows (Letter Good : ℕ → Type 0) : Type 0 where
  pub key : (b : ℕ) → 48 ≤ b → b ≤ 122 → Letter b
  pub own : (b : ℕ) → 34 ≤ b → b ≤ 125 → Good b
  pub letter : (b : ℕ) → 32 ≤ b → Letter b → Good b

-- an entry whose path and type are of such bytes
pub record IsSpelled (L : ℕ → Type 0) (e : Entry) : Type 0 where
  pub path : AllByRecursion L e.path
  pub type : AllByRecursion L e.type

abbrev pub AreSpelled : (ℕ → Type 0) → List Entry → Type 0
AreSpelled L = AllByRecursion (IsSpelled L)

module _ {Letter Good : ℕ → Type 0} (allows : Allows Letter Good) where
  -- a byte that JSON itself writes
  own : (b : ℕ) → (nat_le 34 b && nat_le b 125) ≡ true → Good b
  own b e = let p = and_parts (nat_le 34 b) (nat_le b 125) e in allows.own b (leb-true 34 b p.0) (leb-true b 125 p.1)

  -- ---- numbers

  pub decimal_good : (n : ℕ) → AllByRecursion Good (decimal n)
  decimal_good = decimal_all Good (λ d lt. allows.own (48 + d) (omega arith) (omega arith))

  number_good : (n : Num) → AllByRecursion Good (number_text n)
  number_good n = grind (arith, decimal_good)

  -- ---- texts in quotes

  escaped : (x : ℕ) → nat_lt 0 (escape_letter x) ≡ true → Good (escape_letter x)
  escaped x e = allows.own _ (grind (arith, nat_tests)) (grind (arith, nat_tests))

  hex : (d : ℕ) → d < 16 → Good (digit_char d)
  hex d lt = grind arith

  byte_good : (x : ℕ) → Letter x → AllByRecursion Good (escape_byte x)
  unfolding escape_byte
  byte_good x l = go _ _ (escaped x) (λ h. ltb-true x 32 h) (λ h. ltb-false x 32 h)
    where
      go : (a b : Bool) → (a ≡ true → Good (escape_letter x)) → (b ≡ true → x < 32) → (b ≡ false → 32 ≤ x)
          → AllByRecursion Good (cond a (92 ∷ escape_letter x ∷ []) (cond b (92 ∷ 117 ∷ 48 ∷ 48 ∷ digit_char (x / 16) ∷ digit_char (x % 16) ∷ []) (x ∷ [])))
      go true b p r q = (own 92 refl, (p refl, tt))
      go false true p r q =
          let i = r refl in (own 92 refl, (own 117 refl, (own 48 refl, (own 48 refl, (hex (x / 16) (omega arith), (hex (x % 16) (omega arith), tt))))))
      go false false p r q = (allows.letter x (q refl) l, tt)

  escape_good : (s : List ℕ) → AllByRecursion Letter s → AllByRecursion Good (escape s)
  escape_good [] p = tt
  escape_good (x ∷ s) p = all_both Good _ _ (byte_good x p.0) (escape_good s p.1)

  quoted_good : (s : List ℕ) → AllByRecursion Letter s → AllByRecursion Good (quoted s)
  quoted_good s p = (own 34 refl, all_both Good _ _ (escape_good s p) (own 34 refl, tt))

  -- ---- values

  comma : (later : Bool) (text : List ℕ) → AllByRecursion Good text → AllByRecursion Good (comma_if later ++ text)
  comma later text p = grind arith

  mutual
    pub text_good : (d : Data) → HasLetters Letter d → AllByRecursion Good (compact_text d)
    text_good null p = (own 110 refl, (own 117 refl, (own 108 refl, (own 108 refl, tt))))
    text_good (boolean true) p = (own 116 refl, (own 114 refl, (own 117 refl, (own 101 refl, tt))))
    text_good (boolean false) p = (own 102 refl, (own 97 refl, (own 108 refl, (own 115 refl, (own 101 refl, tt)))))
    text_good (number n) p = number_good n
    text_good (string s) p = quoted_good s p
    text_good (array ds) p = (own 91 refl, items_good false ds p)
    text_good (object ms) p = (own 123 refl, members_good false ms p)

    items_good : (later : Bool) (ds : Items) → ItemsHave Letter ds → AllByRecursion Good (items_text later ds)
    items_good later no_items p = (own 93 refl, tt)
    items_good later (item d ds) p = comma later _ (all_both Good (compact_text d) (items_text true ds) (text_good d p.0) (items_good true ds p.1))

    members_good : (later : Bool) (ms : Members) → MembersHave Letter ms → AllByRecursion Good (members_text later ms)
    members_good later no_members p = (own 125 refl, tt)
    members_good later (member k d ms) p =
        let rest = all_both Good (compact_text d) (members_text true ms) (text_good d p.1) (members_good true ms p.2) in
        comma later _ (all_both Good (quoted k) _ (quoted_good k p.0) (own 58 refl, rest))

  -- ---- the trees of a self-description

  -- a word of letters, digits and `_`
  pub word : (text : List ℕ) → list_all (λ b. nat_le 48 b && nat_le b 122) text ≡ true → AllByRecursion Letter text
  word [] e = tt
  word (b ∷ text) e =
      let p = and_parts (nat_le 48 b && nat_le b 122) (list_all (λ b. nat_le 48 b && nat_le b 122) text) e in
      let q = and_parts (nat_le 48 b) (nat_le b 122) p.0 in
      (allows.key b (leb-true 48 b q.0) (leb-true b 122 q.1), word text p.1)

  pub kind_letters : (kind : Kind) → AllByRecursion Letter (kind_word kind)
  kind_letters kind = grind arith

  entry_letters : (path type : List ℕ) (size : ℕ) (absent : Option ℤ) → AllByRecursion Letter path → AllByRecursion Letter type
      → HasLetters Letter (entry_tree (record { path = path; size = size; type = type; absent = absent }))
  entry_letters path type size None p q = (word (codes "name") refl, p, (word (codes "size") refl, tt, (word (codes "type") refl, q, tt)))
  entry_letters path type size (Some z) p q =
      (word (codes "name") refl, p, (word (codes "size") refl, tt, (word (codes "type") refl, q, (word (codes "value") refl, tt, tt))))

  entries_letters : (es : List Entry) → AreSpelled Letter es → ItemsHave Letter (items_of (map entry_tree es))
  entries_letters [] p = tt
  entries_letters (e ∷ es) p = (entry_letters e.path e.type e.size e.absent p.0.path p.0.type, entries_letters es p.1)

  pub sub_letters : (es : List Entry) (name : List ℕ) (sent : Bool) (version : ℕ) → AreSpelled Letter es → AllByRecursion Letter name
      → HasLetters Letter (object (sub_members es name sent version))
  sub_letters es name sent version p q =
      (word (codes "fields") refl, entries_letters es p, (word (codes "name") refl, q, (word (codes "sent") refl, tt, (word (codes "version") refl, tt, tt))))

  pub device_letters : (es : List Entry) (instance : ℕ) (name : List ℕ) (subs : List Data) (version : ℕ) → AreSpelled Letter es → AllByRecursion Letter name
      → ItemsHave Letter (items_of subs)
      → HasLetters Letter (object (device_members es instance name subs version))
  device_letters es instance name subs version p q r = search (arith, word, entries_letters)

  pub devices_letters : (ds : List Data) → ItemsHave Letter (items_of ds)
      → HasLetters Letter (object (member (codes "devices") (array (items_of ds)) no_members))
  devices_letters ds p = (word (codes "devices") refl, p, tt)

-- ---- the trees of descriptions are read back from their texts

pub natural_sound : (n : ℕ) → n < 2 ^ 64 → IsSound (natural n)
natural_sound n small = record { read = ap (option_map number) (number_of-decimal n small); numbers = IsNumber-decimal n small }

pub string_sound : (s : List ℕ) → IsSound (string s)
string_sound s = record { read = refl; numbers = tt }

pub record Negative (z : ℤ) : Type 0 where
  pub text : number_text (of_integer z) ≡ signed_decimal z
  pub sound : IsSound (number (of_integer z))

pub negative_sound : (z : ℤ) → mag z < 2 ^ 63 → int_lt z (pos 0) ≡ true → Negative z
negative_sound (pos n) fits below = let lt : n < 0 = ltb-true n 0 below in absurd (omega arith)
negative_sound (negsuc n) fits below = record {
  text = refl;
  sound = record { read = ap (option_map number) (number_of-negative n fits); numbers = IsNumber-signed_decimal (negsuc n) fits };
}

-- ---- objects and arrays

items_read : (ds : List Data) → AreSound ds → of_items (items_outline (items_of ds)) ≡ Some (items_of ds)
items_read [] r = refl
items_read (d ∷ ds) r = rw (r.0.read, items_read ds r.1)

items_numbers : (ds : List Data) → AreSound ds → ItemsHaveNumbers (items_outline (items_of ds))
items_numbers [] r = tt
items_numbers (d ∷ ds) r = (r.0.numbers, items_numbers ds r.1)

pub array_sound : (ds : List Data) → AreSound ds → IsSound (array (items_of ds))
array_sound ds r = record { read = rw (items_read ds r); numbers = items_numbers ds r }

pub sent_sound : (path : List ℕ) (size : ℕ) (type : List ℕ) → IsSound (natural size) → IsSound (entry_tree (sent_entry path size type))
sent_sound path size type r = record { read = rw r.read; numbers = (tt, (r.numbers, (tt, tt))) }

pub absent_sound : (path type : List ℕ) (default : ℤ) → IsSound (number (of_integer default)) → IsSound (entry_tree (absent_entry path type default))
absent_sound path type default r =
    let none = natural_sound 0 (omega arith) in
    record { read = rw (none.read, r.read); numbers = (tt, (none.numbers, (tt, (r.numbers, tt)))) }

pub sub_sound : (es : List Entry) (name : List ℕ) (sent : Bool) (version : ℕ) → IsSound (list_tree entry_tree es) → IsSound (natural version)
    → IsSound (object (sub_members es name sent version))
sub_sound es name sent version fields r = record { read = rw (fields.read, r.read); numbers = (fields.numbers, (tt, (tt, (r.numbers, tt)))) }

pub device_sound : (es : List Entry) (instance : ℕ) (name : List ℕ) (subs : List Data) (version : ℕ) → IsSound (list_tree entry_tree es)
    → IsSound (natural instance) → IsSound (array (items_of subs))
    → IsSound (natural version) → IsSound (object (device_members es instance name subs version))
device_sound es instance name subs version fields r inner s = search (arith)

pub whole_sound : (devices : List Data) → IsSound (array (items_of devices)) → IsSound (object (put (codes "devices") (array (items_of devices)) no_members))
whole_sound devices r = record { read = rw r.read; numbers = (r.numbers, tt) }

-- ---- a description is read back from its text

mutual
  tree_depth : (d : Data) → tree.depth (outline d) ≡ depth d
  tree_depth (array ds) = ap suc (items_deep ds)
  tree_depth (object ms) = ap suc (members_deep ms)
  tree_depth _ = refl

  items_deep : (ds : Items) → tree.items_depth (items_outline ds) ≡ items_depth ds
  items_deep no_items = refl
  items_deep (item d ds) = ap₂ max (tree_depth d) (items_deep ds)

  members_deep : (ms : Members) → tree.members_depth (members_outline ms) ≡ members_depth ms
  members_deep no_members = refl
  members_deep (member k d ms) = ap₂ max (tree_depth d) (members_deep ms)

-- of a value and the tokens after it, of which there must be none
abbrev whole : Option (json.Json × List Token) → Option Data
whole o = option_and_then of_json (option_and_then (λ p. json.if_last p.0 p.1) o)

pub reads_whole : (d : Data) (text : List ℕ) → text ≡ compact_text d → IsSound d → depth d ≤ max_depth → read text ≡ Some d
reads_whole d text e sound shallow =
    let ts = tree.json_tokens (outline d) in
    let found = ap tokens (e ∙ sym (print-outline d)) ∙ tokens-print ts (ArePrintable-json_tokens (outline d) sound.numbers) in
    ap whole (ap (json.value max_depth) (found ∙ sym (append-nil ts)) ∙ value-json_tokens (outline d) max_depth [] (omega (arith, tree_depth d))) ∙ sound.read
