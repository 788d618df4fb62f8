-- Names, paths, members and entries as they are written, and how long they are.
use Rattle.vms_selfdesc.proofs.Facade
use Facade.{nat_tests, ◌≡◌, ℕ, ◌<◌, length, true, ◌≤◌, List, [], ◌++◌, length-append, string_bytes, append_assoc, subst, sym, ap, arith}
use Facade.{◌∷◌, codes, decimal, ◌+◌, drop, take, refl, ◌^◌, ◌%◌, list_all, and_parts, digits, decimal_by_steps, length-decimal-le}
use Facade.{take-append-drop, bytes_eq-Decides, bytes_eq, Part, is_name, is_name_byte, is_sub_name, Set, field_at, device_at, is_well_formed, HasPart, desc_at}
use Facade.{sub_at, device_clean, sub_clean, field_sound, IsPlain, Extends, IsEmpty, IsSound, Puts, Adds, Begins, member_text, cell_tail, absent_tail, Text}
use Facade.{escape_byte, quoted, escape, Data, string, object, Members, no_members, member, compact_text, members_text, Kind, width, kind_word, natural, Draft}
use Facade.{MOST_ITEMS, element_path, U8, ◌*◌, String, IsUtf8, IsUtf8-string_bytes, take-append_seam, Item, Struct, few_structs, item_rank, part_rank}
use Facade.{item_levels, part_levels, suc, ℤ, Bool, false, number, of_integer, number_text, comma_if, MOST_UNUSED, sent_entry, absent_entry, entry_tree}
use Rattle.std.proofs.Common.{append-nil}
use Rattle.vms_spec.specs.declared.Part.TheVariants as parts
use Rattle.vms_kinds.specs.declared.Kind.TheVariants as kinds

-- ---- Texts in which JSON escapes nothing: names of a set, and paths.

pub plain_append : (xs ys : List ℕ) → IsPlain xs → IsPlain ys → IsPlain (xs ++ ys)
plain_append [] ys p q = q
plain_append (x ∷ xs) ys p q = (p.0, plain_append xs ys p.1 q)

pub plain_escape : (xs : List ℕ) → IsPlain xs → escape xs ≡ xs
plain_escape [] p = refl
plain_escape (x ∷ xs) p = rw (p.0, plain_escape xs p.1)

pub quoted_long : (xs : List ℕ) → IsPlain xs → length (quoted xs) ≡ length xs + 2
quoted_long xs p = omega (arith, length-append (escape xs) (34 ∷ []), ap length (plain_escape xs p))

-- a byte from 35 on but the backslash
pub plain_byte : (x : ℕ) → 35 ≤ x → (x ≡ 92 → ⊥) → escape_byte x ≡ x ∷ []
unfolding escape_byte
plain_byte x le other = grind (arith, nat_tests)

mark : (x : ℕ) → 35 ≤ x → (x ≡ 92 → ⊥) → IsPlain (x ∷ [])
mark x le other = (plain_byte x le other, tt)

-- ---- names

name_byte : (x : ℕ) → is_name_byte x ≡ true → escape_byte x ≡ x ∷ []
name_byte x e = plain_byte x (grind (arith, nat_tests)) (λ is. let f = rw is at e in cc)

-- so is a key, or a type
pub name_plain : (xs : List ℕ) → list_all is_name_byte xs ≡ true → IsPlain xs
name_plain [] e = tt
name_plain (x ∷ xs) e = let p = and_parts (is_name_byte x) (list_all is_name_byte xs) e in (name_byte x p.0, name_plain xs p.1)

pub key_long : (key : List ℕ) → list_all is_name_byte key ≡ true → length (quoted key) ≡ length key + 2
key_long key e = quoted_long key (name_plain key e)

pub word_plain : (kind : Kind) → list_all is_name_byte (kind_word kind) ≡ true
word_plain kind = grind arith

-- a text of at most a number of bytes that is written as it is
pub record IsShort (most : ℕ) (name : List ℕ) : Type 0 where
  pub plain : IsPlain name
  pub short : length name ≤ most

pub name_short : (most : ℕ) (name : List ℕ) → is_name most name ≡ true → IsShort most name
name_short most name e = search (arith, name_plain)

-- a subsection's name: its device's, a slash and a name
pub record IsSubName (device name : List ℕ) : Type 0 where
  pub tail : List ℕ
  pub whole : (device ++ 47 ∷ []) ++ tail ≡ name
  pub good : is_name 64 tail ≡ true

pub sub_name_is : (device name : List ℕ) → is_sub_name device name ≡ true → IsSubName device name
sub_name_is device name e =
    let k = length device + 1 in
    let front = device ++ 47 ∷ [] in
    let p = and_parts (bytes_eq (take k name) front) (is_name 64 (drop k name)) e in
    record { tail = drop k name; whole = rw (← (bytes_eq-Decides (take k name) front).0 p.0) (take-append-drop k name); good = p.1 }

pub sub_name_short : (device name : List ℕ) → IsShort 100 device → is_sub_name device name ≡ true → IsShort 165 name
sub_name_short device name d e =
    let n = sub_name_is device name e in
    let tail = name_short 64 n.tail n.good in
    record {
      plain = subst IsPlain n.whole (plain_append _ _ (plain_append _ _ d.plain (mark 47 (omega arith) (λ e. omega arith))) tail.plain);
      short = omega (arith, ap length n.whole, length-append (device ++ 47 ∷ []) n.tail, length-append device (47 ∷ []));
    }

-- ---- paths

digits_plain : (n : ℕ) → n < 2 ^ 64 → IsPlain (decimal n)
digits_plain n small = decimal_by_steps (λ n ds. IsPlain ds) (λ n l. mark (48 + n) (omega arith) (λ e. omega arith))
    (λ n ds l h. plain_append _ _ h (mark (48 + n % 10) (omega arith) (λ e. omega arith))) n small

-- of an element with a number of 64 bits
pub element_plain : (path : List ℕ) (i : ℕ) → i < 2 ^ 64 → IsPlain path → IsPlain (element_path path i)
element_plain path i lt p = grind (arith, plain_append, mark, digits_plain)

pub element_long : (path : List ℕ) (i : ℕ) → i < MOST_ITEMS → length (element_path path i) ≤ length path + 7
element_long path i lt =
    let digits = length-decimal-le 5 i (omega arith) (omega arith) (omega arith) in
    omega (arith, length-append path (91 ∷ (decimal i ++ 93 ∷ [])), length-append (decimal i) (93 ∷ []))

pub dot_plain : (path : List ℕ) → IsPlain path → IsPlain (path ++ 46 ∷ [])
dot_plain path p = plain_append _ _ p (mark 46 (omega arith) (λ e. omega arith))

-- ---- The names of a well-formed set are written as they are.

module _ (set : Set) (well : is_well_formed set ≡ true) where
  pub field_name : (part : Part) (k : ℕ) → HasPart set part → k < length (desc_at set part).fields → IsShort 32 (field_at set part k).name
  field_name part k h lt =
      let f = field_at set part k in
      name_short 32 f.name (and_parts (is_name 32 f.name) (list_all (is_name 32) f.former) (field_sound _ well _ h _ lt).0).0

  pub device_plain : (i : ℕ) → i < length set.devices → IsPlain (device_at set i).desc.name
  device_plain i lt = (name_short 100 (device_at set i).desc.name (device_clean set well i lt).own.0).plain

  pub sub_plain : (i j : ℕ) → i < length set.devices → j < length (device_at set i).subs → IsPlain (sub_at (device_at set i) j).desc.name
  sub_plain i j lt l =
      (sub_name_short _ _ (name_short 100 (device_at set i).desc.name (device_clean set well i lt).own.0) (sub_clean set well i j lt l).own.0).plain

-- ---- Bytes that are written one after the other.

pub further : {a b c : Text} {xs ys : List ℕ} → Extends a b xs → Extends b c ys → Extends a c (xs ++ ys)
further {a} {b} {c} {xs} {ys} f g = record {
  whole = λ e.
      let late = g.whole e in
      let early = f.whole late.0 in
      (early.0, rw (late.1, early.1, append_assoc));
  fits = λ e le.
      let there = f.fits e (omega (arith, length-append xs ys)) in
      g.fits there (omega (arith, ap length (f.whole there).1, length-append (string_bytes a.written) xs, length-append xs ys));
  room = omega arith;
}

pub same : {a b : Text} {xs ys : List ℕ} → Extends a b xs → xs ≡ ys → Extends a b ys
same {a} {b} more e = rw e at more

pub unchanged : (a : Text) → Extends a a []
unchanged a = record { whole = λ e. (e, sym (append-nil (string_bytes a.written))); fits = λ e le. e; room = omega arith }

-- ---- a text from its beginning

pub wrote : {a b : Text} {room : ℕ} {bytes : List ℕ} → IsEmpty a room → Extends a b bytes → b.whole ≡ true → string_bytes b.written ≡ bytes
wrote empty more e = rw ((more.whole e).1, empty.bytes)

-- ---- The texts of members and entries, piece by piece.

pub quoted_plain : (s : List ℕ) → IsPlain s → 34 ∷ (s ++ 34 ∷ []) ≡ quoted s
quoted_plain s p = rw (plain_escape s p)

pub puts : {a b c : Text} {k v : List ℕ} {d : Data} → IsPlain k → Extends a b (codes ",\"" ++ (k ++ codes "\":")) → Extends b c v → v ≡ compact_text d
    → IsSound d → Puts a c k d
puts {a} {b} {c} {k} {v} p key value is sound = record {
  text = same (further key value) (rw (← is, plain_escape k p, append_assoc k (34 ∷ []) (58 ∷ v), append_assoc k (34 ∷ 58 ∷ []) v));
  sound = sound;
}

-- ---- objects

-- a member with those after it
pub member_more : (k : List ℕ) (d : Data) (ms : Members) → members_text true (member k d ms) ≡ member_text k d ++ members_text true ms
member_more k d ms = simp append_assoc

-- ---- entries

-- the members of an entry after its path
abbrev pub size_members : ℕ → List ℕ → Members → Members
size_members size type ms = member (codes "size") (natural size) (member (codes "type") (string type) ms)

pub size_text : (size : ℕ) (type : List ℕ) (ms : Members) (s : List ℕ) → members_text true ms ≡ s
    → (member_text (codes "size") (natural size) ++ member_text (codes "type") (string type)) ++ s ≡ members_text true (size_members size type ms)
size_text size type ms s e =
    rw (
      append_assoc (member_text (codes "size") (natural size)) (member_text (codes "type") (string type)) s,
      member_more (codes "size") (natural size) (member (codes "type") (string type) ms),
      member_more (codes "type") (string type) ms,
      e,
    )

-- what was begun, the path, and the rest of an entry
pub entry_adds : {a b e : Draft} {t : Text} {size : ℕ} {type : List ℕ} {ms : Members} → IsPlain (string_bytes a.path.text) → Begins a b (codes "{\"name\":\"")
    → Extends b.text t (string_bytes b.path.text) → Extends t e.text (34 ∷ members_text true (size_members size type ms))
    → IsSound (object (member (codes "name") (string (string_bytes a.path.text)) (size_members size type ms)))
    → e.later ≡ true → string_bytes e.path.text ≡ string_bytes b.path.text
    → Adds a e (object (member (codes "name") (string (string_bytes a.path.text)) (size_members size type ms)) ∷ [])
unfolding escape_byte
entry_adds {a} {b} {e} {t} {size} {type} {ms} p begun path more sound later kept =
    let name = string_bytes a.path.text in
    let rest = members_text true (size_members size type ms) in
    let entry = object (member (codes "name") (string name) (size_members size type ms)) in
    record {
      text = same (further (further begun.text path) more)
          (rw (begun.keeps.path, append-nil (compact_text entry), plain_escape name p, append_assoc name (34 ∷ []) rest) (simp append_assoc));
      later = later;
      sound = (sound, tt);
      path = cc;
    }

pub tail_text : (kind : Kind) → cell_tail kind ≡ 34 ∷ members_text true (size_members (width kind) (kind_word kind) no_members)
unfolding escape_byte
tail_text kind = let word = kind_word kind in rw (plain_escape word (name_plain word (word_plain kind)), append_assoc word (34 ∷ []) (125 ∷ []))

pub absent_text : (kind : Kind) (d : Data)
    → absent_tail kind ++ (compact_text d ++ codes "}") ≡ 34 ∷ members_text true (size_members 0 (kind_word kind) (member (codes "value") d no_members))
unfolding escape_byte digits
absent_text kind d = grind (arith, plain_escape, name_plain, word_plain)

-- ---- the tails of a kind that is known

pub absent_same : (kind k : Kind) → kind ≡ k → absent_tail k ≡ absent_tail kind
absent_same kind k e = ap absent_tail (sym e)

-- a width is one digit
abbrev shown_tail : Kind → List ℕ
shown_tail kind = codes "\",\"size\":" ++ ((48 + width kind) ∷ (codes ",\"type\":\"" ++ (kind_word kind ++ codes "\"}")))

shown_is : (kind : Kind) → shown_tail kind ≡ cell_tail kind
unfolding digits
shown_is kind = grind arith

pub cell_same : (kind k : Kind) → kind ≡ k → shown_tail k ≡ cell_tail kind
cell_same kind k e = cc (shown_is k)

-- ---- paths that are gone into and left again, and how long they get

-- the first bytes of these are the path before
pub record Enters {Z : Type 0} (old : String Z) (now : List ℕ) (kept : ℕ) : Type 0 where
  pub within : kept ≤ length now
  pub text : IsUtf8 (take kept now)
  pub back : take kept now ≡ string_bytes old

pub enters : {Z : Type 0} (old : String Z) {now : List ℕ} {kept : ℕ} (more : List ℕ) → kept ≡ length (string_bytes old) → now ≡ string_bytes old ++ more
    → Enters old now kept
enters old {now} {kept} more is e =
    let back : take kept now ≡ string_bytes old = rw (is, e) (take-append_seam (string_bytes old) more) in
    record { within = omega (arith, ap length e, length-append (string_bytes old) more); text = rw back (IsUtf8-string_bytes old); back = back }

-- ---- lengths

pub index_long : (path : List ℕ) (i : ℕ) → i < 2 ^ 32 → length (element_path path i) ≤ length path + 12
index_long path i lt =
    let digits = length-decimal-le 10 i (omega arith) (omega arith) (omega arith) in
    omega (arith, length-append path (91 ∷ (decimal i ++ 93 ∷ [])), length-append (decimal i) (93 ∷ []))

pub item_levels_are : (item : Item) → item_rank item ≡ 5 * item_levels item
item_levels_are item = grind arith

pub levels_are : (set : Set) (part : Part) → part_rank set part ≡ 5 * part_levels set part
levels_are set part = grind arith

pub few_levels : (set : Set) → is_well_formed set ≡ true → (part : Part) → HasPart set part → part_levels set part ≤ 64
few_levels set well parts.Set h = absurd h
few_levels set well (parts.Struct j) h = omega (arith, few_structs set well)
few_levels set well _ h = few_structs set well

-- ---- how long the text of an entry is

-- a member of an object, with what comes after it
pub member_long : (later : Bool) (k : List ℕ) (d : Data) (ms : Members)
    → length (members_text later (member k d ms)) ≡ length
    (comma_if later) + (length (quoted k) + suc (length (compact_text d) + length (members_text true ms)))
member_long later k d ms = simp length-append

-- a type is one of at most 6 bytes
pub word_short : (kind : Kind) → length (quoted (kind_word kind)) ≤ 8
word_short kinds.U8 = omega (arith, key_long (codes "u8") refl)
word_short kind = omega (arith, key_long (kind_word kind) (word_plain kind))

pub number_short : (n : ℕ) → n < 4294967296 → length (decimal n) ≤ 10
number_short n lt = length-decimal-le 10 n (omega arith) (omega arith) (omega arith)

-- ---- entries

sent_members_long : (path type : List ℕ) (size : ℕ) (ms : Members) → IsPlain path → size ≤ MOST_UNUSED → length (quoted type) ≤ 8
    → length (members_text false (member (codes "name") (string path) (member (codes "size") (natural size) (member (codes "type") (string type) ms))))
    ≤ length path + 37 + length (members_text true ms)
unfolding escape_byte
sent_members_long path type size ms p small word =
    let rest = member (codes "type") (string type) ms in
    omega (
      arith,
      member_long false (codes "name") (string path) (member (codes "size") (natural size) rest),
      member_long true (codes "size") (natural size) rest,
      member_long true (codes "type") (string type) ms,
      quoted_long path p,
      length-decimal-le 4 size (omega arith) (omega arith) (omega arith),
    )

pub sent_long : (path : List ℕ) (size : ℕ) (type : List ℕ) → IsPlain path → size ≤ MOST_UNUSED → length (quoted type) ≤ 8
    → length (compact_text (entry_tree (sent_entry path size type))) ≤ length path + 39
sent_long path size type p small word = omega (arith, sent_members_long path type size no_members p small word)

pub absent_long : (path type : List ℕ) (z : ℤ) → IsPlain path → length (quoted type) ≤ 8 → length (number_text (of_integer z)) ≤ 20
    → length (compact_text (entry_tree (absent_entry path type z))) ≤ length path + 68
absent_long path type z p word short =
    let last = member_long true (codes "value") (number (of_integer z)) no_members in
    omega (arith, sent_members_long path type 0 (member (codes "value") (number (of_integer z)) no_members) p (omega arith) word, key_long (codes "value") refl)
