-- What the text of a set's file says: few levels, and no number with a fraction.
use Rattle.vms_descfile.proofs.{DescBack.set_back, Facade.has_value}
use Rattle.vms_descfile.proofs.Facade.{◌≡◌, ℕ, List, Some, sym, ap, Err, Data, Set, Fault, FileFault, Answer, Refuses, parts_of, parts_said, value_said}
use Rattle.vms_descfile.proofs.Facade.{value_in, file_said, Gives, GivesValue, IsFileFault, suc, ◌+◌, ◌≤◌, [], ◌∷◌, Bool, true, false, nat_le}
use Rattle.vms_descfile.proofs.Facade.{Option, None, ℤ, pos, negsuc, codes, get_or, Ordering, Less, Equal, Greater, int_le, int_lt, ◌&&◌, ◌==◌}
use Rattle.vms_descfile.proofs.Facade.{if◌then◌else◌, arith, length, subst, refl, slice_get, nat_cmp, match_ordering, slice_cmp, and_parts, leb-true}
use Rattle.vms_descfile.proofs.Facade.{Members, no_members, member, put, string, number, null, depth, members_depth, object, of_integer, max_depth, Formula}
use Rattle.vms_descfile.proofs.Facade.{AtLeast, Below, Cell, Not, And, Or, Field, Desc, Sub, Device, Own, Parent, Rel, nodes, is_small_test, is_small_optional}
use Rattle.vms_descfile.proofs.Facade.{is_small_item, WellFormed, has_few, struct_rules, device_rules, sub_rules, Clean, struct_clean, device_parts, sub_clean}
use Rattle.vms_descfile.proofs.Facade.{list_file, natural_file, given_as, unless, list_as, own_names, is_zero, item_word, capacity_in, length_in, counter_in}
use Rattle.vms_descfile.proofs.Facade.{equal_in, size_in, rel_file, test_file, integer_file, front_file, field_file, desc_members, struct_file, sub_file}
use Rattle.vms_descfile.proofs.Facade.{whole_file, device_file, set_file, or_parts, has_float, members_have_float, is_none, String, Global, string_bytes}
use Rattle.vms_descfile.proofs.Facade.{◌∙◌, IsUtf8-string_bytes, read, compact_text, SetFault, first_fault, Parts, judged_said, FitsSet}
use Rattle.vms_descfile.specs.Written.{struct_in}
use Rattle.vms_json.specs.declared.fault.Fault.TheVariants as faults
use Rattle.vms_descfile.specs.declared.file_fault.FileFault.TheVariants as file_faults
use Rattle.vms_spec.specs.declared.Rel.TheVariants as rels
use Rattle.vms_spec.specs.Rules as rules

-- ---- what a text says, by what its value says

pub no_json : (text : List ℕ) (fault : FileFault) → GivesValue (value_in text) (Err fault) → Gives (file_said text) (Err fault)
unfolding file_said
no_json text fault e = grind arith

pub said_by : (text : List ℕ) (d : Data) → value_in text ≡ Some d → parts_said (parts_of d) ≡ file_said text
unfolding file_said
said_by text d e = sym (ap value_said e)

pub shape_said : (a : Answer Set) (fault : Fault) (result : FileFault) → Refuses a fault → IsFileFault fault result → Gives (parts_said a) (Err result)
shape_said a fault result said is = grind arith

-- ---- the file of a set has no number with a fraction, and if the set is well formed, fewer levels than what can be read back

-- if C, at most n levels; and no number with a fraction
record IsFine (C : Type 0) (n : ℕ) (d : Data) : Type 0 where
  few : C → depth d ≤ n
  whole : has_float d ≡ false

record AreFine (C : Type 0) (n : ℕ) (ms : Members) : Type 0 where
  few : C → members_depth ms ≤ n
  whole : members_have_float ms ≡ false

module _ {C : Type 0} where
  flat : {n : ℕ} {d : Data} → depth d ≡ 0 → has_float d ≡ false → IsFine C n d
  flat none whole = record { few = λ c. omega arith; whole = whole }

  object_fine : {n : ℕ} {ms : Members} → AreFine C n ms → IsFine C (suc n) (object ms)
  object_fine q = record { few = λ c. omega (arith, q.few c); whole = q.whole }

  member_fine : {n : ℕ} (k : List ℕ) {d : Data} {ms : Members} → IsFine C n d → AreFine C n ms → AreFine C n (member k d ms)
  member_fine k p q = record { few = λ c. omega (arith, p.few c, q.few c); whole = rw (p.whole, q.whole) }

  no_members_fine : {n : ℕ} → AreFine C n no_members
  no_members_fine = record { few = λ c. omega arith; whole = refl }

  put_fine : {n : ℕ} (k : List ℕ) (d : Data) (ms : Members) → IsFine C n d → AreFine C n ms → AreFine C n (put k d ms)
  put_fine k d no_members p q = member_fine k p no_members_fine
  put_fine {n} k d (member l e ms) p q = by_order (slice_cmp nat_cmp k l) (put_fine k d ms p rest)
    where
      parts : (has_float e ≡ false) × (members_have_float ms ≡ false)
      parts = or_parts (has_float e) (members_have_float ms) q.whole

      rest : AreFine C n ms
      rest = record { few = λ c. omega (arith, q.few c); whole = parts.1 }

      by_order : (o : Ordering) → AreFine C n (put k d ms)
          → AreFine C n (match_ordering o (member k d (member l e ms)) (member l d ms) (member l e (put k d ms)))
      by_order Less more = member_fine k p q
      by_order Equal more = member_fine l p rest
      by_order Greater more = member_fine l (record { few = λ c. omega (arith, q.few c); whole = parts.0 }) more

  list_fine : {A : Type 0} (n : ℕ) (f : A → Data) (xs : List A) → ((i : ℕ) (x : A) → slice_get xs i ≡ Some x → IsFine C n (f x))
      → IsFine C (suc n) (list_file f xs)
  list_fine n f [] all = record { few = λ c. omega arith; whole = refl }
  list_fine n f (x ∷ xs) all =
      let one = all 0 x refl in
      let rest = list_fine n f xs (λ i y e. all (suc i) y e) in
      record { few = λ c. omega (arith, one.few c, rest.few c); whole = rw (one.whole, rest.whole) }

  given_fine : {A : Type 0} (n : ℕ) (k : List ℕ) (f : A → Data) (o : Option A) (ms : Members) → ((a : A) → o ≡ Some a → IsFine C n (f a))
      → AreFine C n ms
      → AreFine C n (given_as k f o ms)
  given_fine n k f None ms all q = q
  given_fine n k f (Some a) ms all q = put_fine _ _ _ (all a refl) q

  unless_fine : {n : ℕ} (b : Bool) (k : List ℕ) (d : Data) (ms : Members) → IsFine C n d → AreFine C n ms → AreFine C n (unless b k d ms)
  unless_fine true k d ms p q = q
  unless_fine false k d ms p q = put_fine _ _ _ p q

  list_as_fine : {A : Type 0} (n : ℕ) (k : List ℕ) (f : A → Data) (xs : List A) (ms : Members)
      → ((i : ℕ) (x : A) → slice_get xs i ≡ Some x → IsFine C n (f x)) → AreFine C (suc n) ms → AreFine C (suc n) (list_as k f xs ms)
  list_as_fine n k f [] ms all q = q
  list_as_fine n k f (x ∷ xs) ms all q = put_fine k (list_file f (x ∷ xs)) ms (list_fine n f (x ∷ xs) all) q

  integer_fine : {n : ℕ} (z : ℤ) → IsFine C n (integer_file z)
  integer_fine {n} z = either (int_le (negsuc 9223372036854775807) z && int_lt z (pos 18446744073709551616))
    where
      no_float : (z : ℤ) → has_float (number (of_integer z)) ≡ false
      no_float (pos n) = refl
      no_float (negsuc n) = refl

      either : (b : Bool) → IsFine C n (if b then number (of_integer z) else null)
      either true = flat refl (no_float z)
      either false = flat refl refl

  -- ---- tests: two levels each, an object and a list of two

  rel_fine : (r : Rel) → IsFine C 0 (rel_file r)
  rel_fine rels.Eq = flat refl refl
  rel_fine _ = flat refl refl

  test_fine : (own parent : List (List ℕ)) (t : Formula) → IsFine C (rules.depth t + rules.depth t) (test_file own parent t)
  test_fine own parent (AtLeast n) = record { few = λ c. omega arith; whole = refl }
  test_fine own parent (Below n) = record { few = λ c. omega arith; whole = refl }
  test_fine own parent (Cell Own k mask rel value) = let r = rel_fine rel in record { few = λ c. omega (arith, r.few c); whole = rw r.whole }
  test_fine own parent (Cell Parent k mask rel value) = let r = rel_fine rel in record { few = λ c. omega (arith, r.few c); whole = rw r.whole }
  test_fine own parent (Not t) = let inner = test_fine own parent t in record { few = λ c. omega (arith, inner.few c); whole = rw inner.whole }
  test_fine own parent (And s t) = search (arith, test_fine own parent s, test_fine own parent t)
  test_fine own parent (Or s t) = search (arith, test_fine own parent s, test_fine own parent t)

  small_fine : {n : ℕ} (own parent : List (List ℕ)) (t : Formula) → 32 ≤ n → (C → is_small_test t ≡ true) → IsFine C n (test_file own parent t)
  small_fine own parent t le small =
      let fine = test_fine own parent t in record {
        few = λ c. omega (arith, leb-true (rules.depth t) 16 (and_parts (nat_le (nodes t) 64) (nat_le (rules.depth t) 16) (small c)).1, fine.few c);
        whole = fine.whole;
      }

  -- ---- fields and descriptions

  front_fine : (own : List (List ℕ)) (f : Field) → AreFine C 32 (front_file own f)
  front_fine own f =
      list_as_fine 31 (codes "former") string f.former _ (λ i t e. flat refl refl)
      (given_fine 32 (codes "equal") integer_file (equal_in f.item) _ (λ z e. integer_fine z)
      (unless_fine (is_zero f.default) (codes "default") (integer_file f.default) _ (integer_fine f.default)
      (given_fine 32 (codes "counted") (λ k. string (get_or own k [])) (counter_in f.count) _ (λ k e. flat refl refl)
      (given_fine 32 (codes "count") natural_file (length_in f.count) _ (λ n e. flat refl refl)
      (given_fine 32 (codes "capacity") natural_file (capacity_in f.count) no_members (λ n e. flat refl refl) no_members_fine)))))

  field_fine : (own : List (List ℕ)) (f : Field) → (C → is_small_optional f.test ≡ true) → IsFine C 33 (field_file own f)
  field_fine own f small =
      object_fine
      (given_fine 32 (codes "test") (test_file own []) f.test _ (λ t is. small_fine own [] t (omega arith) (λ c. rw is at (small c)))
      (given_fine 32 (codes "struct") natural_file (struct_in f.item) _ (λ n e. flat refl refl)
      (given_fine 32 (codes "size") natural_file (size_in f.item) _ (λ n e. flat refl refl)
      (unless_fine (f.since == 0) (codes "since") (natural_file f.since) _ (flat refl refl)
      (put_fine (codes "name") (string f.name) _ (flat refl refl)
      (put_fine (codes "kind") (string (item_word f.item)) (front_file own f) (flat refl refl) (front_fine own f)))))))

  desc_fine : (n : ℕ) (d : Desc) (rules : List Bool) → (C → Clean n d rules) → AreFine C 34 (desc_members d)
  desc_fine n d rules clean =
      let own = own_names d.fields in
      let small = λ (i : ℕ) (f : Field) (there : slice_get d.fields i ≡ Some f) (c : C).
      and_parts (nat_le (length f.former) 8) (is_small_optional f.test)
      (and_parts (nat_le (length f.former) 8 && is_small_optional f.test) (is_small_item f.item) ((clean c).fields i f there).1.1.1.1.1.1.0).0 in
      put_fine (codes "version") (natural_file d.version) _ (flat refl refl)
      (list_as_fine 33 (codes "validate") (test_file own []) d.validate _
      (λ i t there. small_fine own [] t (omega arith) (λ c. ((clean c).validations i t there).1.1.1.1.1.1.0))
      (put_fine (codes "name") (string d.name) _ (flat refl refl)
      (unless_fine (d.minimum == d.version) (codes "minimum") (natural_file d.minimum) _ (flat refl refl)
      (put_fine (codes "fields") _ no_members (list_fine 33 (field_file own) d.fields (λ i f there. field_fine own f (λ c. (small i f there c).1)))
      no_members_fine))))

  -- ---- subsections, devices and sets

  sub_fine : (parent : List (List ℕ)) (n : ℕ) (s : Sub) (rules : List Bool) → (C → Clean n s.desc rules) → (C → is_small_test s.needed ≡ true)
      → IsFine C 35 (sub_file parent s)
  sub_fine parent n s rules clean small =
      let needed = small_fine (own_names s.desc.fields) parent s.needed (omega arith) small in
      object_fine (put_fine (codes "needed") _ (desc_members s.desc) needed (desc_fine n s.desc rules clean))

module _ (set : Set) where
  struct_fine : (i : ℕ) (d : Desc) → slice_get set.structs i ≡ Some d → IsFine (WellFormed set) 35 (struct_file d)
  struct_fine i d there = object_fine (desc_fine _ d (struct_rules set.structs i d) (λ well. struct_clean set well i d there))

  device_fine : (i : ℕ) (d : Device) → slice_get set.devices i ≡ Some d → IsFine (WellFormed set) 38 (device_file d)
  device_fine i d there =
      let own = own_names d.desc.fields in
      let n = length set.structs in
      let desc = desc_fine n d.desc (device_rules set i d) (λ well. (device_parts set well i d there).0) in
      let whole : IsFine (WellFormed set) 37 (whole_file d) =
      object_fine (list_as_fine 35 (codes "subsections") (sub_file own) d.subs (desc_members d.desc) (λ j s e.
      sub_fine own n s (sub_rules d j s) (λ well. sub_clean set well i j d s there e)
      (λ well. (and_parts (has_few s.desc) (is_small_test s.needed) (sub_clean set well i j d s there e).own.1.1.1.1.1.1.0).1))
      (record { few = λ well. omega (arith, desc.few well); whole = desc.whole })) in
      record { few = λ well. omega (arith, whole.few well); whole = rw whole.whole }

  set_fine : IsFine (WellFormed set) max_depth (set_file set)
  set_fine =
      let devices = list_fine 38 device_file set.devices device_fine in
      let machines = list_fine {C = WellFormed set} 38 string set.machines (λ i t e. flat refl refl) in
      let structs = list_fine 35 struct_file set.structs struct_fine in
      record { few = λ well. omega (arith, devices.few well, machines.few well, structs.few well); whole = rw (devices.whole, machines.whole, structs.whole) }

-- ---- what the text of a set's file says

pub compact_file : (set : Set) (d : Data) (s : String Global) → d ≡ set_file set
    → (has_float d ≡ false → string_bytes s ≡ compact_text d) → string_bytes s ≡ compact_text (set_file set)
compact_file set d s is text = cc (text (ap has_float is ∙ (set_fine set).whole))

formed : (o : Option SetFault) → is_none o ≡ true → o ≡ None
formed o is = grind arith

pub file_reads : (set : Set) (d : Data) (s : String Global) → d ≡ set_file set → is_none (first_fault set) ≡ true → FitsSet set
    → (depth d ≤ max_depth → read (string_bytes s) ≡ Some d) → file_said (string_bytes s) ≡ Parts set
file_reads set d s is none fits reads =
    let well = formed (first_fault set) none in
    let bytes = string_bytes s in
    let said = reads (subst (λ e. depth e ≤ max_depth) (sym is) ((set_fine set).few well)) ∙ ap Some is in
    sym (said_by bytes (set_file set) (has_value bytes (set_file set) (IsUtf8-string_bytes s) said))
    ∙ ap parts_said (set_back set well fits) ∙ ap (judged_said set) well
