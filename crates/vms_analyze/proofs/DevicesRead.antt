-- What is read of a description is exactly what it says.
use Rattle.vms_analyze.proofs.Facade
use Facade.{arith, map-map, ◌≡◌, ℕ, Bool, true, ◌&&◌, ◌||◌, ◌==◌, nat_le, if◌then◌else◌, List, [], Option, Some, None, ℤ, codes}
use Facade.{refl, inl, ap, ◌∙◌, ◌∷◌, map, IfSome, Ordering, Equal, subst, ◌+◌, drop, bytes_eq, is_utf8, and_parts, eqb-true, and_from}
use Facade.{bytes_eq-Decides, list_all, nat_cmp, match_ordering, slice_cmp, Data, number, string, object, no_members, member, array, Items, Members, of_integer}
use Facade.{get, get_member, as_array, fits, Kind, width, MOST_UNUSED, LONGEST_NAME, in_range, kind_word, kind_named, word_named, tells_kind, natural}
use Facade.{entry_tree, list_tree, LONGEST_PATH, Told, Fixed, Skipped, inr, told_entry, is_path, is_good, ToldSub, told_sub, ToldDevice, told_device, told_tree}
use Facade.{fits_four, is_kept, is_good_sub, is_good_device, IsSorted, AreSorted, HoldSorted, only, path_at, sent_keys, kept_keys, unprinted, sent_as, sent_in}
use Facade.{kept_as, kept_in, element_in, next, list_at, each, sub_keys, sub_in, device_keys, device_in, devices_in, items_of, read, value_in, is_width, Tells}
use Facade.{◌⊎◌, false}
use Rattle.vms_analyze.proofs.MembersRead.{is_picked, after, first_then, only_is, only_so, text_is, path_is, natural_is, whole_is, whole_back, Says, under}
use Rattle.vms_analyze.proofs.MembersRead.{IsPathAt, four_is, flag_is, list_is, each_says, each_back, read_sorted}
use Rattle.vms_analyze.proofs.Shapes.{sub_parts, sub_from, device_parts, device_from}

-- what a choice gives is given by one of its sides
if_gives : {A : Type 0} (b : Bool) (x y : Option A) (a : A) → (if b then x else y) ≡ Some a → ((b ≡ true) × (x ≡ Some a)) ⊎ ((b ≡ false) × (y ≡ Some a))
if_gives b x y a e = grind arith

when_gives : {A : Type 0} (b : Bool) (x : Option A) (a : A) → (if b then x else None) ≡ Some a → (b ≡ true) × (x ≡ Some a)
when_gives b x a e = grind arith

-- ---- What is read of an element is the element whose entry the value is, and of each good element's entry that element is read.

abbrev pub element_tree : Told → Data
element_tree t = entry_tree (told_entry t)

abbrev three : Data → Data → Data → Data
three path size type = object (member (codes "name") path (member (codes "size") size (member (codes "type") type no_members)))

abbrev four : Data → Data → Data → Data → Data
four path size type value =
    object (member (codes "name") path (member (codes "size") size (member (codes "type") type (member (codes "value") value no_members))))

word_of : (word : List ℕ) (kind : Kind) → kind_named word ≡ Some kind → word ≡ kind_word kind
word_of word kind e = (tells_kind word kind).0 e

-- ---- what is in the stream

-- an element of a path, and its tree
record IsToldBy (path : List ℕ) (tree_read : Data) (t : Told) : Type 0 where
  tree : tree_read ≡ element_tree t
  good : is_path LONGEST_PATH path ≡ true → is_good t ≡ true

told_by : (path : List ℕ) (d : Data) (b : Bool) (u t : Told) → only b u ≡ Some t → (b ≡ true → d ≡ element_tree u)
    → (is_path LONGEST_PATH path ≡ true → b ≡ true → is_good u ≡ true) → IsToldBy path d t
told_by path d b u t e tree good = let o = only_is _ _ _ e in rw (← o.same) (record { tree = tree o.so; good = λ h. good h o.so })

abbrev IsUnprinted : List ℕ → ℕ → List ℕ → Told → Type 0
IsUnprinted path size word t = IsToldBy path (three (string path) (natural size) (string word)) t

abbrev is_few : ℕ → Bool
is_few size = nat_le 1 size && nat_le size MOST_UNUSED

unprinted_is : (path : List ℕ) (size : ℕ) (word : List ℕ) (t : Told) → unprinted path size word ≡ Some t → IsUnprinted path size word t
unprinted_is path size word t e = elim (if_gives (bytes_eq word (codes "equal")) _ _ t e) [
  | inl p ↦
      told_by path _ (is_width size) (Fixed path size) t p.1 (λ so. rw ((bytes_eq-Decides word (codes "equal")).0 p.0))
      (λ h so. and_from (is_path LONGEST_PATH path) (is_width size) h so)
  | inr q ↦
      let k = when_gives (bytes_eq word (codes "unused")) _ t q.1 in
      told_by path _ (is_few size) (Skipped path size) t k.1 (λ so. rw ((bytes_eq-Decides word (codes "unused")).0 k.0))
      (λ h so. and_from (is_path LONGEST_PATH path) (is_few size) h so)
]

sent_is : (path : List ℕ) (size : ℕ) (word : List ℕ) (named : Option Kind) (t : Told) → kind_named word ≡ named → sent_as path size word named ≡ Some t
    → IsUnprinted path size word t
sent_is path size word None t f e = unprinted_is _ _ _ _ e
sent_is path size word (Some kind) t f e = told_by _ _ _ _ _ e (λ so. rw (eqb-true size (width kind) so, word_of word kind f)) (λ h so. h)

sent_says : (d : Data) → IsSorted d → fits sent_keys [] d ≡ true → (t : Told) → sent_in d ≡ Some t → Says element_tree is_good d t
sent_says d sorted h t e =
    let a = after _ (path_is LONGEST_PATH (codes "name") d) _ t e in
    let b = after _ (natural_is (codes "size") d) _ t a.then in
    let c = after _ (text_is (get (codes "type") d)) _ t b.then in
    let s = sent_is a.value b.value c.value (kind_named c.value) t refl c.then in
    record {
      tree_is = is_picked sent_keys ((refl, (refl, tt)), ((refl, tt), (tt, tt))) d sorted h ∙ rw (a.is.is, b.is, c.is) s.tree;
      good_is = s.good a.is.good;
    }

-- ---- what doesn't

abbrev IsKept : List ℕ → ℕ → List ℕ → ℤ → Told → Type 0
IsKept path size word value t = IsToldBy path (four (string path) (natural size) (string word) (number (of_integer value))) t

kept_is : (path : List ℕ) (size : ℕ) (word : List ℕ) (value : ℤ) (named : Option Kind) (t : Told) → kind_named word ≡ named
    → kept_as path size value named ≡ Some t → IsKept path size word value t
kept_is path size word value None t f e = cc
kept_is path size word value (Some kind) t f e =
    told_by _ _ _ _ _ e (λ so. rw (eqb-true size 0 (and_parts (size == 0) (in_range kind value) so).0, word_of word kind f))
    (λ h so. and_from _ _ h (and_parts (size == 0) (in_range kind value) so).1)

kept_says : (d : Data) → IsSorted d → fits kept_keys [] d ≡ true → (t : Told) → kept_in d ≡ Some t → Says element_tree is_good d t
kept_says d sorted h t e =
    let a = after _ (path_is LONGEST_PATH (codes "name") d) _ t e in
    let b = after _ (natural_is (codes "size") d) _ t a.then in
    let c = after _ (text_is (get (codes "type") d)) _ t b.then in
    let v = after _ (whole_is (codes "value") d) _ t c.then in
    let s = kept_is a.value b.value c.value v.value (kind_named c.value) t refl v.then in
    record {
      tree_is =
          is_picked kept_keys ((refl, (refl, (refl, tt))), ((refl, (refl, tt)), ((refl, tt), (tt, tt)))) d sorted h
          ∙ rw (a.is.is, b.is, c.is, v.is) s.tree;
      good_is = s.good a.is.good;
    }

pub element_says : (d : Data) → IsSorted d → (t : Told) → element_in d ≡ Some t → Says element_tree is_good d t
element_says d sorted t e = elim (if_gives (fits sent_keys [] d) _ _ t e) [
  | inl p ↦ sent_says d sorted p.0 t p.1
  | inr q ↦ let k = when_gives (fits kept_keys [] d) _ t q.1 in kept_says d sorted k.0 t k.1
]

-- back
pub element_back : (t : Told) → is_good t ≡ true → element_in (element_tree t) ≡ Some t
element_back t e = grind (arith, first_then, only_so, word_named, whole_back)

-- ---- What is read of a description's devices is exactly what it says.

held : (key : List ℕ) (ms : Members) → HoldSorted ms → IfSome (get_member key ms) IsSorted
held key no_members h = tt
held key (member l d ms) h = go (slice_cmp nat_cmp key l) (held key ms h.1)
  where
    go : (o : Ordering) → IfSome (get_member key ms) IsSorted → IfSome (match_ordering o (get_member key ms) (Some d) (get_member key ms)) IsSorted
    go Equal more = h.0
    go _ more = more

under_sorted : (key : List ℕ) (d : Data) → IsSorted d → IfSome (get key d) IsSorted
under_sorted key (object ms) h = held key ms h.1
under_sorted key _ h = tt

list_sorted : (key : List ℕ) (d : Data) (ds : Items) → IsSorted d → list_at key d ≡ Some ds → AreSorted ds
list_sorted key d ds sorted e = go (get key d) (under_sorted key d sorted) e
  where
    go : (o : Option Data) → IfSome o IsSorted → next o as_array ≡ Some ds → AreSorted ds
    go (Some (array es)) h e = let same : es ≡ ds = cc in subst AreSorted same h
    go _ h e = cc

-- ---- lists

record ListAt {A : Type 0} (tree : A → Data) (good : A → Bool) (key : List ℕ) (d : Data) (list : List A) : Type 0 where
  is : under key d ≡ list_tree tree list
  fine : list_all good list ≡ true

module _ {A : Type 0} (tree : A → Data) (good : A → Bool) (says : Data → Option A) where
  list_says : ((d : Data) → IsSorted d → (a : A) → says d ≡ Some a → Says tree good d a) → (key : List ℕ) (d : Data) → IsSorted d → (list : List A)
      → next (list_at key d) (each says) ≡ Some list → ListAt tree good key d list
  list_says one key d sorted list e =
      let a = after {P = λ (ds : Items). list_at key d ≡ Some ds} _ (λ ds at. at) (each says) list e in
      let s = each_says tree good says one _ (list_sorted _ _ _ sorted a.is) _ a.then in
      record { is = rw (list_is (get key d) a.value a.is, s.trees_are); fine = s.good_are }

entries_back : (ts : List Told) → list_all is_good ts ≡ true → each element_in (items_of (map entry_tree (map told_entry ts))) ≡ Some ts
entries_back ts h = rw (map-map entry_tree told_entry ts) (each_back element_tree is_good element_in element_back _ h)

entries_are : (d : Data) (ts : List Told) → under (codes "fields") d ≡ list_tree element_tree ts
    → under (codes "fields") d ≡ list_tree entry_tree (map told_entry ts)
entries_are d ts e = rw (map-map entry_tree told_entry ts) e

-- ---- subsections

abbrev a_sub : List ℕ → Bool → ℕ → List Told → ToldSub
a_sub name sent version elements = record { name = name; sent = sent; version = version; elements = elements }

-- of an object with these keys, which has a name
by_keys : {A : Type 0} (tree : A → Data) (good : A → Bool) (keys : List (List ℕ)) (rest : List ℕ → Option A) (d : Data) (a : A)
    → (if fits keys [] d then next (path_at LONGEST_NAME (codes "name") d) rest else None) ≡ Some a
    → (fits keys [] d ≡ true → (name : List ℕ) → IsPathAt LONGEST_NAME (codes "name") d name → rest name ≡ Some a → Says tree good d a) → Says tree good d a
by_keys tree good keys rest d a e says = grind (arith, when_gives, path_is)

pub sub_says : (d : Data) → IsSorted d → (s : ToldSub) → sub_in d ≡ Some s → Says told_sub is_good_sub d s
sub_says d sorted s e = by_keys told_sub is_good_sub sub_keys _ d s e (λ h name named rest.
    let b = after _ (flag_is (get (codes "sent") d)) _ s rest in
    let c = after _ (four_is (codes "version") d) _ s b.then in
    let l = after _ (list_says element_tree is_good element_in element_says (codes "fields") d sorted) _ s c.then in
    let o = only_is (b.value || list_all is_kept l.value) (a_sub name b.value c.value l.value) s l.then in
    record {
      tree_is =
          is_picked sub_keys ((refl, (refl, (refl, tt))), ((refl, (refl, tt)), ((refl, tt), (tt, tt)))) d sorted h
          ∙ rw (b.is, named.is, c.is.is, entries_are d l.value l.is.is) (ap told_sub o.same);
      good_is =
          cc (sub_from (a_sub name b.value c.value l.value) (record { name = named.good; version = c.is.good; elements = l.is.fine; kept = o.so }));
    })

pub sub_back : (s : ToldSub) → is_good_sub s ≡ true → sub_in (told_sub s) ≡ Some s
sub_back s e =
    let p = sub_parts s e in
    first_then _ (only_so (is_path LONGEST_NAME s.name) s.name p.name)
    (first_then _ (only_so (fits_four s.version) s.version p.version)
    (first_then _ (entries_back s.elements p.elements) (only_so (s.sent || list_all is_kept s.elements) s p.kept)))

-- ---- devices

abbrev a_device : List ℕ → ℕ → ℕ → List Told → List ToldSub → ToldDevice
a_device name instance version elements subs = record { name = name; instance = instance; version = version; elements = elements; subs = subs }

pub device_says : (d : Data) → IsSorted d → (t : ToldDevice) → device_in d ≡ Some t → Says told_device is_good_device d t
device_says d sorted t e = by_keys told_device is_good_device device_keys _ d t e (λ h name named rest.
    let b = after _ (four_is (codes "instance_id") d) _ t rest in
    let c = after _ (four_is (codes "version") d) _ t b.then in
    let l = after _ (list_says element_tree is_good element_in element_says (codes "fields") d sorted) _ t c.then in
    let m = after _ (list_says told_sub is_good_sub sub_in sub_says (codes "subsections") d sorted) _ t l.then in
    let same : a_device name b.value c.value l.value m.value ≡ t = Rattle.std.proofs.lemmas.Option.same_Some _ _ m.then in
    record {
      tree_is =
          is_picked device_keys ((refl, (refl, (refl, (refl, tt)))), ((refl, (refl, (refl, tt))), ((refl, (refl, tt)), ((refl, tt), (tt, tt))))) d sorted h
          ∙ rw (entries_are d l.value l.is.is, b.is.is, named.is, m.is.is, c.is.is) (ap told_device same);
      good_is =
          cc (device_from (a_device name b.value c.value l.value m.value)
          (record { name = named.good; instance = b.is.good; version = c.is.good; elements = l.is.fine; subs = m.is.fine }));
    })

pub device_back : (t : ToldDevice) → is_good_device t ≡ true → device_in (told_device t) ≡ Some t
device_back t e =
    let p = device_parts t e in
    first_then _ (only_so (is_path LONGEST_NAME t.name) t.name p.name)
    (first_then _ (only_so (fits_four t.instance) t.instance p.instance)
    (first_then _ (only_so (fits_four t.version) t.version p.version)
    (first_then _ (entries_back t.elements p.elements)
    (first_then _ (each_back told_sub is_good_sub sub_in sub_back t.subs p.subs) refl))))

-- the whole
pub devices_say : (d : Data) → IsSorted d → (ts : List ToldDevice) → devices_in d ≡ Some ts → Says told_tree (list_all is_good_device) d ts
devices_say d sorted ts e =
    let k = when_gives (fits (codes "devices" ∷ []) [] d) _ ts e in
    let l = list_says told_device is_good_device device_in device_says (codes "devices") d sorted ts k.1 in
    record {
      tree_is = is_picked (codes "devices" ∷ []) (tt, tt) d sorted k.0 ∙ rw l.is;
      good_is = l.fine;
    }

-- ---- What is read of a description's text is what it says.

value_sorted : (text : List ℕ) (d : Data) → value_in text ≡ Some d → IsSorted d
value_sorted text d e = rw (when_gives (is_utf8 text) (read text) d e).1 at (read_sorted text)

pub tells_if : (input : List ℕ) (p : ℕ) (devices : List ToldDevice) → next (value_in (drop (p + 5) input)) devices_in ≡ Some devices → Tells input p devices
tells_if input p devices e =
    let a = after {P = λ (d : Data). value_in (drop (p + 5) input) ≡ Some d} _ (λ d is. is) devices_in devices e in
    let s = devices_say a.value (value_sorted (drop (p + 5) input) a.value a.is) devices a.then in
    record { tree = rw (a.is, s.tree_is); good = s.good_is }

pub told_back : (input : List ℕ) (p : ℕ) (devices : List ToldDevice) → Tells input p devices → next (value_in (drop (p + 5) input)) devices_in ≡ Some devices
told_back input p devices t = first_then devices_in t.tree (each_back told_device is_good_device device_in device_back devices t.good)

pub not_told : (input : List ℕ) (p : ℕ) → next (value_in (drop (p + 5) input)) devices_in ≡ None → (devices : List ToldDevice) → Tells input p devices → ⊥
not_told input p e devices t = let back = told_back input p devices t in cc
