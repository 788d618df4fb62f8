-- Words with numbers, and the sets that words name.
use Rattle.std.proofs.{lemmas.Fmt.length-decimal-le, lemmas.Fmt.decimal_injective, lemmas.List.append_cancel_left, lemmas.Slice.Eq.bytes_eq-Decides}
use Rattle.std.proofs.Common.{ℕ, ◌<◌, ◌≤◌, length, arith, ◌≡◌, zero, suc, ◌+◌, ◌-◌, ◌^◌, ◌++◌, Bool, true, false, List}
use Rattle.std.proofs.Common.{Option, Some, None, Result, Ok, Err, ℤ, pos, negsuc, refl, sym, ap, ◌∙◌, Fits, w8, nat_le, [], ◌∷◌, codes, subst}
use Rattle.std.proofs.lemmas.Bool.{cond_both, lt-ltb, leb-true, Decides.nat_tests}
use Rattle.std.specs.{Fmt.decimal, Str.bytes_eq, List.slice_get, Option.option_and_then}
use Rattle.vms_spec.specs.{Spelling.number_spelled, Good.IsFit, WellFormed.first_fault, WellFormed.SetFault, Sets.Desc, Sets.Sub, Sets.Device, Sets.Set}
use Rattle.vms_words.proofs.Spells.{number_holds, spelled_holds}
use Rattle.vms_script.specs.{Views.number_read, declared.line.ScriptReason.ScriptReason}
use Rattle.vms_commands.specs.{SetWords.number_after, SetWords.SetOf, SetWords.SetWord, Kinds.set_of as kind_set, declared.kinds.BoardKind.BoardKind}
use Rattle.vms_commands.specs.Fetching.{SetText, Number, Text, fetched_set, said_set, set_in, word_set}
use Rattle.vms_commands.specs.Steps.{Step, Untold, Gives, Ends, next as after}
use Rattle.vms_commands.specs.declared.kinds.BoardKind.TheVariants.{Isa, Clock}
use Rattle.vms_desc.proofs.Clean.{none_is, clock_heads, clock_formed, fit_number}
use Rattle.vms_desc.specs.Formed.{clock_set}
use Rattle.serde_json.specs.{Data.Data, Data.Items, Data.no_items, Data.item, Find.as_array, Find.as_number, Find.as_u64}
use Rattle.vms_io.specs.Shelves.{Held}
use Rattle.vms_json.specs.{Keys.fits, Names.Names, Names.Scope, Names.names_if}
use Rattle.vms_json.specs.Answers.{Answer, good, bad, under, next, changed, each_from, each_of, list_of}
use Rattle.vms_json.specs.Members.{judged, at as member_at, at_or, text_of, up_to, u32_of}
use Rattle.vms_descfile.specs.{Descs.sub_of, Descs.whole_in, Descs.whole_of, Descs.device_in, Tests.test_of}
use Rattle.vms_descfile.specs.Descs.{device_of, set_in as set_said, set_of, parts_of, Head, Whole, desc_needs, desc_allows, head_of, rest_of, struct_of, sub_in}
use Rattle.vms_descfile.specs.Files.{Said, Parts, judged_said, parts_said, value_said, value_in, file_said}

-- ---- how long the parts of a line are

pub number_short : (n : ℕ) → n < 18446744073709551616 → length (decimal n) ≤ 20
number_short n lt = length-decimal-le 20 n (omega arith) (omega (arith, lt)) (omega (arith, lt))

-- ---- words that end with a number

-- a word with a number of the range
pub numbered : (front : List ℕ) (first count n : ℕ) → first ≤ n → n < first + count → n < 2 ^ 64 → number_after front first count (front ++ decimal n) ≡ Some n
numbered front first zero n le lt small = absurd (omega (arith, le, lt))
numbered front first (suc count) n le lt small =
    let same_text = bytes_eq-Decides (front ++ decimal n) (front ++ decimal first) in
    cond_both (bytes_eq (front ++ decimal n) (front ++ decimal first)) _ _ (λ (o : Option ℕ). o ≡ Some n)
    (λ e. ap Some (sym (decimal_injective n first small (omega arith) (append_cancel_left front (decimal n) (decimal first) (same_text.0 e)))))
    (λ e. let other : first ≡ n → ⊥ = λ same. let f : true ≡ false = sym (same_text.1 (ap (λ (k : ℕ). front ++ decimal k) (sym same))) ∙ e in cc in
    numbered front (suc first) count n (omega (arith, other)) (omega arith) small)

-- a word with no number of the range
pub unnumbered : (front word : List ℕ) (first count : ℕ) → ((n : ℕ) → first ≤ n → n < first + count → word ≡ front ++ decimal n → ⊥) → number_after front first count word ≡ None
unnumbered front word first zero none = refl
unnumbered front word first (suc count) none =
    cond_both (bytes_eq word (front ++ decimal first)) _ _ (λ (o : Option ℕ). o ≡ None)
    (λ e. absurd (none first (omega arith) (omega arith) ((bytes_eq-Decides word (front ++ decimal first)).0 e)))
    (λ e. unnumbered front word (suc first) count (λ n le lt. none n (omega arith) (omega arith)))

-- ---- digits that were read

abbrev ok_number : ℕ → Result ℕ ScriptReason
ok_number n = Ok n

abbrev err_number : ScriptReason → Result ℕ ScriptReason
err_number reason = Err reason

read_is : (text : List ℕ) (n : ℕ) → Ok n ≡ number_read (number_spelled text) → (n < 2 ^ 64) × (text ≡ decimal n)
read_is text n e = by (number_spelled text) refl e where
  by : (o : Option ℤ) → number_spelled text ≡ o → Ok n ≡ number_read o → (n < 2 ^ 64) × (text ≡ decimal n)
  by None s r = cc
  by (Some (negsuc m)) s r = cc
  by (Some (pos m)) s r =
      let less : m < 2 ^ 64 = grind (arith, nat_tests) in
      let same : n ≡ m = grind (arith, nat_tests) in
      (omega (arith, same, less), spelled_holds text (pos m) less s ∙ ap decimal (sym same))

decimal_read : (n : ℕ) → n < 2 ^ 64 → number_read (number_spelled (decimal n)) ≡ Ok n
decimal_read n lt = rw (number_holds (pos n) lt, lt-ltb n (2 ^ 64) lt)

-- ---- the answers of the code

module _ (front word : List ℕ) (first last : ℕ) where
  other : ((n : ℕ) → first ≤ n → n ≤ last → word ≡ front ++ decimal n → ⊥) → None ≡ number_after front first (suc last - first) word
  other none = sym (unnumbered front word first (suc last - first) (λ n le lt is. none n le (omega (arith, le, lt)) is))

  pub no_front : ((rest : List ℕ) → word ≡ front ++ rest → ⊥) → None ≡ number_after front first (suc last - first) word
  no_front none = other (λ n le up is. none (decimal n) is)

  -- after the front there are these bytes
  module _ (bytes digits : List ℕ) (same : bytes ≡ word) (split : bytes ≡ front ++ digits) (few : Fits w8 last) where
    is : word ≡ front ++ digits
    is = sym same ∙ split

    same_digits : (n : ℕ) → word ≡ front ++ decimal n → digits ≡ decimal n
    same_digits n w = append_cancel_left front digits (decimal n) (sym is ∙ w)

    pub in_range : (n : ℕ) → Ok n ≡ number_read (number_spelled digits) → first ≤ n → n ≤ last → Some n ≡ number_after front first (suc last - first) word
    in_range n read le up =
        let r = read_is digits n read in
        sym (ap (number_after front first (suc last - first)) (is ∙ ap (λ (t : List ℕ). front ++ t) r.1) ∙ numbered front first (suc last - first) n le (omega (arith, le, up)) r.0)

    pub out_of_range : (n : ℕ) → Ok n ≡ number_read (number_spelled digits) → (first ≤ n → n ≤ last → ⊥) → None ≡ number_after front first (suc last - first) word
    out_of_range n read out = other (λ m le up w.
        let r = read_is digits n read in
        let one : n ≡ m = decimal_injective n m r.0 (omega (arith, up, few)) (sym r.1 ∙ same_digits m w) in
        out (omega (arith, le, one)) (omega (arith, up, one)))

    pub no_number : (reason : ScriptReason) → Err reason ≡ number_read (number_spelled digits) → None ≡ number_after front first (suc last - first) word
    no_number reason read = other (λ m le up w.
        let f : err_number reason ≡ ok_number m = read ∙ ap (λ (t : List ℕ). number_read (number_spelled t)) (same_digits m w) ∙ decimal_read m (omega (arith, up, few)) in cc)

-- ---- the sets of each kind of boards are well formed, and their numbers fit the heads of a stream

pub fit_kind : (kind : BoardKind) (number : ℕ) → IsFit (kind_set kind number)
fit_kind Isa number = fit_number number
fit_kind Clock number = record { well = none_is (first_fault (clock_set number)) (clock_formed number); heads = clock_heads number }

-- ---- each set that a word names is well formed, and its numbers fit the heads of a stream

-- what a good answer says has this property
abbrev Says : {A : Type 0} → (A → Type 0) → Answer A → Type 0
Says P (good a) = P a
Says P (bad path) = Unit {0}

abbrev Each : {A : Type 0} → (A → Type 0) → List A → Type 0
Each P xs = (i : ℕ) (x : _) → slice_get xs i ≡ Some x → P x

module _ {A B : Type 0} (P : B → Type 0) where
  -- whatever the first answer says
  says_next : (x : Answer A) (f : A → Answer B) → ((a : A) → Says P (f a)) → Says P (next x f)
  says_next x f h = grind arith

  -- by what it says
  says_then : (Q : A → Type 0) (x : Answer A) (f : A → Answer B) → Says Q x → ((a : A) → Q a → Says P (f a)) → Says P (next x f)
  says_then Q x f q h = grind arith

  says_changed : (Q : A → Type 0) (f : A → B) (x : Answer A) → Says Q x → ((a : A) → Q a → P (f a)) → Says P (changed f x)
  says_changed Q f x q h = grind arith

module _ {A : Type 0} (P : A → Type 0) where
  says_judged : (b : Bool) (x : Answer A) → Says P x → Says P (judged b x)
  says_judged b x h = grind arith

  says_under : (key : List ℕ) (x : Answer A) → Says P x → Says P (under key x)
  says_under key x h = grind arith

  says_at : (says : Data → Answer A) (key : List ℕ) (d : Data) → ((e : Data) → Says P (says e)) → Says P (member_at says key d)
  says_at says key d h = grind (arith, says_under)

  says_at_or : (default : A) (says : Data → Answer A) (key : List ℕ) (d : Data) → P default → ((e : Data) → Says P (says e)) → Says P (at_or default says key d)
  says_at_or default says key d p h = grind (arith, says_under)

  each_cons : (x : A) (xs : List A) → P x → Each P xs → Each P (x ∷ xs)
  each_cons x xs p h zero y e = let same : x ≡ y = cc in subst P same p
  each_cons x xs p h (suc i) y e = h i y e

  none_each : Each P []
  none_each i x e = cc

  says_each : (says : Data → Answer A) (i : ℕ) (ds : Items) → ((e : Data) → Says P (says e)) → Says (Each P) (each_from says i ds)
  says_each says i no_items h = none_each
  says_each says i (item d ds) h =
      says_then (Each P) P (under _ (says d)) _ (says_under _ (says d) (h d)) (λ a p.
      says_changed (Each P) (Each P) (λ list. a ∷ list) (each_from says (i + 1) ds) (says_each says (i + 1) ds h) (λ list each. each_cons a list p each))

  says_items : (says : Data → Answer A) (o : Option Items) → ((e : Data) → Says P (says e)) → Says (Each P) (each_of says o)
  says_items says None h = tt
  says_items says (Some ds) h = says_each says 0 ds h

  says_list : (says : Data → Answer A) (d : Data) → ((e : Data) → Says P (says e)) → Says (Each P) (list_of says d)
  says_list says d h = says_items says (as_array d) h

-- ---- numbers of four bytes

abbrev Small : ℕ → Type 0
Small n = n ≤ 4294967295

small_up : (o : Option ℕ) → Says Small (up_to 4294967295 o)
small_up None = tt
small_up (Some n) = cond_both (nat_le n 4294967295) _ _ (Says Small) (leb-true n 4294967295) (λ e. tt)

small_u32 : (d : Data) → Says Small (u32_of d)
small_u32 d = small_up (option_and_then as_u64 (as_number d))

-- ---- descriptions

abbrev SmallDesc : Desc → Type 0
SmallDesc d = Small d.version

abbrev SmallSub : Sub → Type 0
SmallSub s = SmallDesc s.desc

abbrev SmallWhole : Whole → Type 0
SmallWhole w = SmallDesc w.desc × Each SmallSub w.subs

abbrev SmallDevice : Device → Type 0
SmallDevice d = Small d.instance × SmallDesc d.desc × Each SmallSub d.subs

abbrev SmallSet : Set → Type 0
SmallSet set = Each SmallDevice set.devices

-- by what is under a key
at_then : {A B : Type 0} (P : B → Type 0) (Q : A → Type 0) (says : Data → Answer A) (key : List ℕ) (d : Data) (f : A → Answer B)
    → ((e : Data) → Says Q (says e)) → ((a : A) → Q a → Says P (f a)) → Says P (next (member_at says key d) f)
at_then P Q says key d f q h = says_then P Q (member_at says key d) f (says_at Q says key d q) h

rest_small : (names : Names) (head : Head) (d : Data) → Says SmallDesc (rest_of names head d)
rest_small names head d =
    says_next SmallDesc (at_or [] (list_of (test_of (record { own = names; parent = None }))) (codes "validate") d) _ (λ validate.
    at_then SmallDesc Small u32_of (codes "version") d _ small_u32 (λ version small. small))

sub_in_small : (scope : Scope) (d : Data) → Says SmallSub (sub_in scope d)
sub_in_small scope d =
    says_next SmallSub (head_of scope.own d) _ (λ head. says_next SmallSub (member_at (test_of scope) (codes "needed") d) _ (λ needed.
    says_changed SmallSub SmallDesc _ (rest_of scope.own head d) (rest_small scope.own head d) (λ desc small. small)))

sub_small : (asks : Bool) (parent : Names) (d : Data) → Says SmallSub (sub_of asks parent d)
sub_small asks parent d =
    let scope : Scope = record { own = names_if asks d; parent = Some parent } in
    says_judged SmallSub (fits (codes "needed" ∷ desc_needs) desc_allows d) (sub_in scope d) (sub_in_small scope d)

whole_in_small : (asks : Bool) (names : Names) (d : Data) → Says SmallWhole (whole_in asks names d)
whole_in_small asks names d =
    says_next SmallWhole (head_of names d) _ (λ head.
    says_then SmallWhole (Each SmallSub) (at_or [] (list_of (sub_of asks names)) (codes "subsections") d) _
    (says_at_or (Each SmallSub) [] (list_of (sub_of asks names)) (codes "subsections") d (none_each SmallSub)
    (λ e. says_list SmallSub (sub_of asks names) e (sub_small asks names))) (λ subs small.
    says_changed SmallWhole SmallDesc _ (rest_of names head d) (rest_small names head d) (λ desc s. (s, small))))

whole_small : (asks : Bool) (d : Data) → Says SmallWhole (whole_of asks d)
whole_small asks d =
    says_judged SmallWhole (fits desc_needs (codes "subsections" ∷ desc_allows) d) (whole_in asks (names_if asks d) d)
    (whole_in_small asks (names_if asks d) d)

device_in_small : (asks : Bool) (d : Data) → Says SmallDevice (device_in asks d)
device_in_small asks d =
    at_then SmallDevice SmallWhole (whole_of asks) (codes "desc") d _ (whole_small asks) (λ whole w.
    says_changed SmallDevice Small _ (member_at u32_of (codes "instance") d) (says_at Small u32_of (codes "instance") d small_u32)
    (λ instance small. (small, w.0, w.1)))

device_small : (asks : Bool) (d : Data) → Says SmallDevice (device_of asks d)
device_small asks d = says_judged SmallDevice (fits (codes "desc" ∷ codes "instance" ∷ []) [] d) (device_in asks d) (device_in_small asks d)

-- ---- sets

set_in_small : (asks : Bool) (d : Data) → Says SmallSet (set_said asks d)
set_in_small asks d =
    at_then SmallSet (Each SmallDevice) (list_of (device_of asks)) (codes "devices") d _ (λ x. says_list SmallDevice (device_of asks) x (device_small asks))
    (λ devices small. says_next SmallSet (member_at (list_of text_of) (codes "machines") d) _ (λ machines.
    says_next SmallSet (member_at (list_of (struct_of asks)) (codes "structs") d) _ (λ structs. small)))

set_small : (asks : Bool) (d : Data) → Says SmallSet (set_of asks d)
set_small asks d = says_judged SmallSet (fits (codes "devices" ∷ codes "machines" ∷ codes "structs" ∷ []) [] d) (set_said asks d) (set_in_small asks d)

-- ---- files

parts_small : (d : Data) → Says SmallSet (parts_of d)
unfolding parts_of
parts_small d = says_next SmallSet (set_of false d) (λ unasked. set_of true d) (λ unasked. set_small true d)

abbrev FitSaid : Said → Type 0
FitSaid (Parts set) = IsFit set
FitSaid said = Unit {0}

judged_fit : (set : Set) (fault : Option SetFault) → first_fault set ≡ fault → SmallSet set → FitSaid (judged_said set fault)
judged_fit set None e small = record {
  well = e;
  heads = record {
    instance = λ k d is. let h = small k d is in (omega (arith, h.0), omega (arith, h.1));
    sub_version = λ k j d s is there. omega (arith, (small k d is).2 j s there);
  };
}
judged_fit set (Some fault) e small = tt

parts_fit : (a : Answer Set) → Says SmallSet a → FitSaid (parts_said a)
parts_fit (good set) h = judged_fit set (first_fault set) refl h
parts_fit (bad path) h = tt

value_fit : (o : Option Data) → FitSaid (value_said o)
value_fit None = tt
value_fit (Some d) = parts_fit (parts_of d) (parts_small d)

file_fit : (text : List ℕ) → FitSaid (file_said text)
unfolding file_said
file_fit text = value_fit (value_in text)

-- ---- words

abbrev pub FitStep : Step Set → Type 0
FitStep Untold = Unit {0}
FitStep (Gives set) = IsFit set
FitStep (Ends status line) = Unit {0}

fit_said : (name : List ℕ) (said : Said) → FitSaid said → FitStep (said_set name said)
fit_said name said h = grind arith

pub fit_text : (text : SetText) → FitStep (set_in text)
fit_text (Number (SetOf kind number)) = fit_kind kind number
fit_text (Text name text) = fit_said name (file_said text) (file_fit text)

fit_next : {A : Type 0} (s : Step A) (f : A → Step Set) → ((a : A) → FitStep (f a)) → FitStep (after s f)
fit_next s f h = grind arith

pub fit_word : (held : Option Held) (word : SetWord) → FitStep (word_set held word)
fit_word held word = fit_next (fetched_set held word) set_in fit_text
