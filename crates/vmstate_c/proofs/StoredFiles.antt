-- The files that a call stored, entry by entry.
use Rattle.std.proofs.{lemmas.Bool.and_from, lemmas.Bool.Decides.not_from_Decides, lemmas.Slice.Eq.bytes_eq-Decides, lemmas.Map.Text.is_eq-slice_cmp}
use Rattle.std.proofs.Common.{◌≡◌, ◌∙◌, refl, ℕ, ◌+◌, ◌<◌, Bool, true, false, List, length, take, get_or, ◌≢◌, sym, ap}
use Rattle.std.proofs.Common.{◌&&◌, if◌then◌else◌, Some, zero, suc, cond, [], ◌∷◌, ◌++◌, map, reverse, Option, None, arith}
use Rattle.std.proofs.lemmas.List.{append-nil, reverse-append, take_more, Folds.list_all_more, Elements.All-cons, Elements.All-contains}
use Rattle.std.proofs.lemmas.Str.{IsUtf8-from_is_utf8, is_utf8-from_IsUtf8}
use Rattle.std.specs.{Str.IsUtf8, Str.is_utf8, Str.bytes_eq, Bool.Decides, Option.option_map, Ordering.is_eq, Ordering.nat_cmp, Cmp.Lexicographic.slice_cmp}
use Rattle.std.specs.{String.string_bytes, String.string_cmp, Map.keys_of, Map.lookup, declared.string.String.String, declared.alloc.Global.Global}
use Rattle.std.specs.{declared.cmp.Ordering.TheVariants.Less, BTreeMap.BTreeMap, BTreeMap.IsOrdered, BTreeMap.get, BTreeMap.is_at}
use Rattle.std.specs.List.{list_all, All, AllByRecursion, Contains, find, Sorted.IsStrictlySortedBy}
use Rattle.vms_io.specs.Shelves.{Held, PutsUnder}
use Rattle.vmstate_c.specs.{declared.request.File.File, Folders.held_in, declared.folder.Content.Content, declared.request.Stored.Stored}
use Rattle.vmstate_c.specs.Calls.{file_over, file_of, is_named}
use Rattle.vmstate_c.specs.Storing.{Entry, IsStored, bytes_of, is_just, is_lent, places}

-- ---- whether all words so far pass a test, and which words are UTF-8

pub all-more : {A : Type 0} (p : A → Bool) (xs : List A) (i : ℕ) (d : A) → i < length xs → list_all p (take i xs) ≡ true → p (get_or xs i d) ≡ true → list_all p (take (i + 1) xs) ≡ true
all-more p xs i d lt all one = list_all_more p xs i d lt ∙ and_from (list_all p (take i xs)) (p (get_or xs i d)) all one

pub not_utf8 : (bytes : List ℕ) → ¬ (IsUtf8 bytes) → is_utf8 bytes ≡ false
not_utf8 bytes bad = by (is_utf8 bytes) refl
  where
    by : (b : Bool) → is_utf8 bytes ≡ b → is_utf8 bytes ≡ false
    by true e = absurd (bad (IsUtf8-from_is_utf8 bytes e))
    by false e = e

-- ---- the files held after one was added to a shelf

-- a file under a name that is UTF-8
pub held-put : (file : File) (old new : Held) → IsUtf8 file.name.now → PutsUnder old new file.name.now file.bytes.now → (name : List ℕ) → new name ≡ file_over file old name
held-put file old new utf8 puts name = by (bytes_eq file.name.now name) refl
  where
    by : (b : Bool) → bytes_eq file.name.now name ≡ b → new name ≡ (if b && is_utf8 name then Some file.bytes.now else old name)
    by true e =
        let same : file.name.now ≡ name = (bytes_eq-Decides file.name.now name).0 e in
        let text : is_utf8 name ≡ true = rw (← same) (is_utf8-from_IsUtf8 file.name.now utf8) in
        rw text (rw same at puts.there)
    by false e =
        let other : name ≢ file.name.now = λ same. not_from_Decides (bytes_eq file.name.now name) (bytes_eq-Decides file.name.now name) e (sym same) in
        puts.others name other

-- a file whose name isn't UTF-8 has no name that a text equals
pub held-other : (file : File) (held : Held) → ¬ (IsUtf8 file.name.now) → (name : List ℕ) → held name ≡ file_over file held name
held-other file held bad name = by (bytes_eq file.name.now name) (is_utf8 name) refl refl
  where
    by : (b c : Bool) → bytes_eq file.name.now name ≡ b → is_utf8 name ≡ c → held name ≡ (if b && c then Some file.bytes.now else held name)
    by true true e f =
        let same : file.name.now ≡ name = (bytes_eq-Decides file.name.now name).0 e in
        absurd (bad (rw same (IsUtf8-from_is_utf8 name f)))
    by true false e f = refl
    by false c e f = refl

-- ---- the files that a call stored, as they are found entry by entry

abbrev Pair : Type 0
Pair = String Global × Content

abbrev name_in : Pair → List ℕ
name_in e = string_bytes e.0

abbrev bytes_in : Pair → List ℕ
bytes_in e = e.1.bytes.items

abbrev entry : List ℕ → List ℕ → Entry
entry name bytes = record { name = name; bytes = bytes }

-- the files of these entries that aren't lent with the same bytes
abbrev pub news : List File → List Pair → List Entry
news lent [] = []
news lent (e ∷ es) = if is_lent lent (name_in e) (bytes_in e) then news lent es else entry (name_in e) (bytes_in e) ∷ news lent es

-- what holds of the news of the later entries, and with this entry too if it is news, holds of all
by_news : (P : List Entry → Type 0) (lent : List File) (e : Pair) (es : List Pair) → P (news lent es)
    → (is_lent lent (name_in e) (bytes_in e) ≡ false → P (entry (name_in e) (bytes_in e) ∷ news lent es)) → P (news lent (e ∷ es))
by_news P lent e es rest one = by (is_lent lent (name_in e) (bytes_in e)) refl
  where
    by : (b : Bool) → is_lent lent (name_in e) (bytes_in e) ≡ b → P (if b then news lent es else entry (name_in e) (bytes_in e) ∷ news lent es)
    by true q = rest
    by false q = one q

some_is : {xs ys : List ℕ} → Some xs ≡ Some ys → xs ≡ ys
some_is e = cc

is_just-Decides : (held : Option (List ℕ)) (bytes : List ℕ) → Decides (is_just held bytes) (held ≡ Some bytes)
is_just-Decides None bytes = ((λ e. cc), (λ e. cc))
is_just-Decides (Some held) bytes = ((λ e. ap Some ((bytes_eq-Decides held bytes).0 e)), (λ e. (bytes_eq-Decides held bytes).1 (some_is e)))

-- the last of the files with a name is the new one, or the last of the others
one-more : (files : List File) (file : File) (name bytes : List ℕ) → IsUtf8 name
    → is_lent (files ++ file ∷ []) name bytes ≡ (if bytes_eq file.name.now name then bytes_eq file.bytes.now bytes else is_lent files name bytes)
one-more files file name bytes utf8 =
    rw (reverse-append files (file ∷ [])) (by (bytes_eq file.name.now name) (is_utf8-from_IsUtf8 name utf8))
  where
    by : (b : Bool) → is_utf8 name ≡ true
        → is_just (option_map (λ f. f.bytes.now) (cond (b && is_utf8 name) (Some file) (find (is_named name) (reverse files)))) bytes
        ≡ (if b then bytes_eq file.bytes.now bytes else is_lent files name bytes)
    by true u = rw u
    by false u = refl

-- a turn of the search for the last file with a name
module _ (files : List File) (i : ℕ) (d : File) (name bytes text : List ℕ) (lt : i < length files) (utf8 : IsUtf8 name) where
  lent-more : (tested : Bool) → text ≡ name → tested ≡ bytes_eq (get_or files i d).name.now text
      → is_lent (take (i + 1) files) name bytes ≡ (if tested then bytes_eq (get_or files i d).bytes.now bytes else is_lent (take i files) name bytes)
  lent-more tested same is =
      rw (take_more files i d lt, is, same) (one-more (take i files) (get_or files i d) name bytes utf8)

  pub lent-same : (tested now : Bool) → text ≡ name → tested ≡ bytes_eq (get_or files i d).name.now text → tested ≡ true
      → now ≡ bytes_eq (get_or files i d).bytes.now bytes → now ≡ is_lent (take (i + 1) files) name bytes
  lent-same tested now same is passed e =
      e ∙ sym (rw passed at (lent-more tested same is))

  pub lent-other : (tested now : Bool) → text ≡ name → tested ≡ bytes_eq (get_or files i d).name.now text → tested ≡ false
      → now ≡ is_lent (take i files) name bytes → now ≡ is_lent (take (i + 1) files) name bytes
  lent-other tested now same is failed e =
      e ∙ sym (rw failed at (lent-more tested same is))

-- ---- which files

abbrev IsNew : List File → Held → Entry → Type 0
IsNew lent held file = (held file.name ≡ Some file.bytes) × (file_of file.name lent ≢ Some file.bytes)

all_new : (lent : List File) (held : Held) (es : List Pair) → All (λ e. held (name_in e) ≡ Some (bytes_in e)) es → All (IsNew lent held) (news lent es)
all_new lent held [] there = λ k d lt. absurd (omega (arith, lt))
all_new lent held (e ∷ es) there =
    let rest = all_new lent held es (λ k d lt. there (suc k) d (omega (arith, lt))) in
    by_news (All (IsNew lent held)) lent e es rest (λ q.
    let differs = not_from_Decides _ (is_just-Decides (file_of (name_in e) lent) (bytes_in e)) q in
    All-cons (IsNew lent held) _ _ (there zero e (omega arith), differs) rest)

later : {X : Type 0} (x y : X) (ys : List X) → Contains ys x → Contains (y ∷ ys) x
later x y ys (k, lt, e) = (suc k, omega (arith, lt), e)

has_new : (lent : List File) (es : List Pair) (name bytes : List ℕ) → held_in es name ≡ Some bytes → file_of name lent ≢ Some bytes
    → Contains (news lent es) (entry name bytes)
has_new lent [] name bytes there differs = cc
has_new lent (e ∷ es) name bytes there differs =
    by (is_eq (slice_cmp nat_cmp name (name_in e))) refl there (λ found. has_new lent es name bytes found differs)
  where
    here : (b : Bool) → is_lent lent (name_in e) (bytes_in e) ≡ b → name ≡ name_in e → bytes_in e ≡ bytes
        → Contains (if b then news lent es else entry (name_in e) (bytes_in e) ∷ news lent es) (entry name bytes)
    here true q same found = absurd (differs (ap (λ n. file_of n lent) same ∙ (is_just-Decides (file_of (name_in e) lent) (bytes_in e)).0 q ∙ ap Some found))
    here false q same found = (zero, omega arith, ap (λ n. entry n (bytes_in e)) (sym same) ∙ ap (entry name) found)

    by : (b : Bool) → is_eq (slice_cmp nat_cmp name (name_in e)) ≡ b
        → option_map (λ content. content.bytes.items) (cond b (Some e.1) (lookup (is_at (λ k. slice_cmp nat_cmp name (string_bytes k))) es)) ≡ Some bytes
        → (held_in es name ≡ Some bytes → Contains (news lent es) (entry name bytes)) → Contains (news lent (e ∷ es)) (entry name bytes)
    by true q found rest = here _ refl ((bytes_eq-Decides name (name_in e)).0 (sym (is_eq-slice_cmp name (name_in e)) ∙ q)) (some_is found)
    by false q found rest = by_news (λ files. Contains files (entry name bytes)) lent e es (rest found) (λ q. later _ _ _ (rest found))

-- ---- in which order

below : (lent : List File) (first : List ℕ) (es : List Pair) → AllByRecursion (λ k. slice_cmp nat_cmp first (string_bytes k) ≡ Less) (keys_of es)
    → AllByRecursion (λ n. slice_cmp nat_cmp first n ≡ Less) (map (λ (file : Entry). file.name) (news lent es))
below lent first [] all = tt
below lent first (e ∷ es) all =
    let rest = below lent first es all.1 in
    by_news (λ files. AllByRecursion (λ n. slice_cmp nat_cmp first n ≡ Less) (map (λ (file : Entry). file.name) files)) lent e es rest (λ q. (all.0, rest))

sorted_news : (lent : List File) (es : List Pair) → IsStrictlySortedBy string_cmp (keys_of es)
    → IsStrictlySortedBy (slice_cmp nat_cmp) (map (λ (file : Entry). file.name) (news lent es))
unfolding IsStrictlySortedBy
sorted_news lent [] sorted = tt
sorted_news lent (e ∷ es) sorted =
    let rest = sorted_news lent es sorted.1 in
    by_news (λ files. IsStrictlySortedBy (slice_cmp nat_cmp) (map (λ (file : Entry). file.name) files)) lent e es rest
    (λ q. (below lent (name_in e) es sorted.0, rest))

pub is_stored : (lent : List File) (m : BTreeMap (String Global) Content) → IsOrdered string_cmp m → All (λ e. get string_cmp m e.0 ≡ Some e.1) m.entries
    → IsStored lent (held_in m.entries) (news lent m.entries)
is_stored lent m ordered found = record {
  exact = λ name bytes. (
    (λ c. All-contains (IsNew lent (held_in m.entries)) _ _ (all_new lent (held_in m.entries) m.entries there) c),
    (λ h. has_new lent m.entries name bytes h.0 h.1),
  );
  ordered = sorted_news lent m.entries ordered;
}
  where
    there : All (λ e. held_in m.entries (name_in e) ≡ Some (bytes_in e)) m.entries
    there k d lt = ap (option_map (λ content. content.bytes.items)) (found k d lt)

-- ---- where they are

-- what is packed so far, and the files that are still to come, are all files
pub record Rest (lent : List File) (all : List Entry) (es : List Pair) (files : List Stored) (bytes : List ℕ) : Type 0 where
  pub files_are : files ++ places (length bytes) (news lent es) ≡ places 0 all
  pub bytes_are : bytes ++ bytes_of (news lent es) ≡ bytes_of all

pub at_end : (lent : List File) (all : List Entry) (files : List Stored) (bytes : List ℕ) → Rest lent all [] files bytes
    → (files ≡ places 0 all) × (bytes ≡ bytes_of all)
at_end lent all files bytes rest = (sym (append-nil files) ∙ rest.files_are, sym (append-nil bytes) ∙ rest.bytes_are)
