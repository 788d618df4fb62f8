-- What the grammar says of a script's text is what the reader takes, in both directions.
use Rattle.vms_script.proofs.Facade
use Facade.{append_assoc, cond_both, first_line, IsBadHere, IsRefused, RefusesFirst, ◌≡◌, [], ◌∷◌, Some, None, Ok, Err, true, refl, codes, Happens}
use Facade.{Saves, Restores, line_read, bad, script_read, nat_tests, ℕ, ◌+◌, ◌^◌, ◌<◌, Bool, false, not, ◌==◌, List, ◌++◌, Option, pos}
use Facade.{if◌then◌else◌, ap, ◌∙◌, arith, decimal, list_all, ne_eqb, digits_decimal, Event, numerals, number_holds, port_text, event_text}
use Facade.{line_text, script_text, IsEvent, IsLine, AreLines, is_wire, NEWEST, ScriptLine, Read, or_form, number_in, is_wait, is_set_of, out_line, wire_line}
use Facade.{set_spelled, save_line, is_name_byte, name_byte_high, is_shelf_name, Split, Reading, lines_of, with_line, lines_read, text_read, first_word}
use Facade.{longer_word, byte_spelled, byte_text, port_spelled, level_spelled, ScriptReason, ℤ, negsuc, sym, subst, bytes_eq, eqb-true, bytes_eq-Decides}
use Facade.{number_spelled, spelled_holds, ReadsExactly, or_range, in_line, byte_line, wait_line, name_spelled, restore_line, play_line, line_split, begun}
use Facade.{tail_read, level_text}
use Rattle.vms_script.proofs.NumberLemmas
use NumberLemmas.{lacks, lacks-append, byte_lacks, port_lacks, digits_lack, byte_back, port_back, EndsEarly, waits_end, wires_end, sets_end, byte_is, port_is}
use Rattle.dev_board.specs.declared.event.Event.TheVariants as events
use Rattle.vms_script.specs.declared.line.ScriptReason.TheVariants as reasons

-- ---- worked scripts: what they say, and the first bad line with its reason

record Worked : Type 0 where
  reads_two_lines : script_read None (codes "out 0020 19\nwire 3 1\n") ≡ Ok (Happens (events.Write 0x20 0x19) ∷ Happens (events.Wire 3 true) ∷ [])
  refuses_a_line_without_its_end : script_read None (codes "ack") ≡ bad 1 reasons.NoEnd
  refuses_input_4 : script_read None (codes "ack\nwire 4 1\n") ≡ bad 2 reasons.Range
  refuses_three_digits : script_read None (codes "in 3f8\n") ≡ bad 1 reasons.Form
  refuses_the_first_bad_line : script_read None (codes "wait -1\nin 3f8\n") ≡ bad 1 reasons.Range
  answers_the_lowest_reason : script_read None (codes "wire 4 1") ≡ bad 1 reasons.Range
  refuses_an_older_set : script_read (Some 2) (codes "save @1 x\n") ≡ bad 1 reasons.Range
  reads_a_port : line_read None (codes "in 03fd") ≡ Ok (Happens (events.Read 0x3fd))
  reads_a_byte : line_read None (codes "byte 41") ≡ Ok (Happens (events.Byte 0x41))
  reads_an_acknowledge : line_read None (codes "ack") ≡ Ok (Happens events.Ack)
  reads_the_longest_wait : line_read None (codes "wait 1000000000000000") ≡ Ok (Happens (events.Wait 1000000000000000))
  reads_a_save : line_read (Some 2) (codes "save @4 s.1") ≡ Ok (Saves 4 (codes "s.1"))
  reads_a_restore : line_read (Some 1) (codes "restore bad") ≡ Ok (Restores (codes "bad"))
  refuses_a_save_outside_of_a_session : line_read None (codes "save @1 x") ≡ Err reasons.Form

worked : Worked
unfolding script_read
worked = search

-- ---- lines as they are spelled, and lines that are read: words and lines of a text that is spelled

word_front : (word rest : List ℕ) → lacks 32 word ≡ true → first_word (word ++ 32 ∷ rest) ≡ (word, Some rest)
word_front [] rest h = refl
word_front (b ∷ word) rest h = grind (arith, nat_tests, word_front word rest)

lines_front : (line text : List ℕ) → lacks 10 line ≡ true → lines_of (line ++ 10 ∷ text) ≡ record { lines = line ∷ (lines_of text).lines; tail = (lines_of text).tail }
lines_front [] text h = refl
lines_front (b ∷ line) text h = grind (arith, nat_tests, lines_front line text)

decimal_lacks : (byte n : ℕ) → byte < 48 → n < 2 ^ 64 → lacks byte (decimal n) ≡ true
decimal_lacks byte n h i = digits_lack _ _ h (digits_decimal numerals n i)

name_byte : (b : ℕ) → is_name_byte b ≡ true → not (b == 10) ≡ true
name_byte b e = let high = name_byte_high b e in ap not (ne_eqb b 10 (λ same. omega arith))

name_lacks : (name : List ℕ) → list_all is_name_byte name ≡ true → lacks 10 name ≡ true
name_lacks [] e = refl
name_lacks (b ∷ name) e = grind (arith, name_byte b, name_lacks name)

shelf_lacks : (name : List ℕ) → is_shelf_name name ≡ true → lacks 10 name ≡ true
shelf_lacks name e = grind (arith, name_lacks)

pub early_small : (holds : ℕ → Bool) (n : ℕ) → EndsEarly holds → holds n ≡ true → n < 2 ^ 64
early_small holds n early h = grind (arith, nat_tests, early n)

number_good : (holds : ℕ → Bool) (line : ℕ → ScriptLine) (n : ℕ) → EndsEarly holds → holds n ≡ true → number_in holds line (decimal n) ≡ Ok (line n)
number_good holds line n early h = rw (number_holds (pos n) (early_small holds n early h), h)

-- ---- a good line is read as it is spelled

level_back : (up : Bool) → level_spelled (level_text up) ≡ Some up
level_back up = grind (arith, nat_tests)

event_good : (play : Option ℕ) (event : Event) → IsEvent event → line_read play (event_text event) ≡ Ok (Happens event)
event_good play (events.Read port) h = rw (port_back port h)
event_good play (events.Write port value) h =
    rw (word_front (port_text port) (byte_text value) (port_lacks 32 port (omega arith)), port_back port h.0, byte_back value h.1)
event_good play (events.Byte value) h = rw (byte_back value h)
event_good play (events.Wait ns) h = number_good is_wait (λ ns. Happens (events.Wait ns)) _ waits_end h
event_good play (events.Wire input up) h =
    rw (word_front (decimal input) (level_text up) (decimal_lacks 32 input (omega arith) (early_small is_wire input wires_end h)), level_back up)
    (number_good is_wire (λ input. Happens (events.Wire input up)) _ wires_end h)
event_good play events.Ack h = refl

line_good : (play : Option ℕ) (line : ScriptLine) → IsLine play line → line_read play (line_text line) ≡ Ok line
line_good play (Happens event) h = event_good play event h
line_good (Some level) (Saves set name) h =
    ap (save_line level) (word_front (64 ∷ decimal set) name (decimal_lacks 32 _ (omega arith) (early_small (is_set_of NEWEST level) _ (sets_end level) h.0)))
    ∙ rw h.1 (number_good (is_set_of NEWEST level) (λ set. Saves set name) _ (sets_end level) h.0)
line_good (Some level) (Restores name) h = rw h
line_good None _ h = absurd h

level_lacks : (up : Bool) → lacks 10 (level_text up) ≡ true
level_lacks up = grind (arith, nat_tests)

event_lacks : (event : Event) → IsEvent event → lacks 10 (event_text event) ≡ true
event_lacks (events.Read port) h = port_lacks 10 port (omega arith)
event_lacks (events.Write port value) h = lacks-append 10 (port_text port) (32 ∷ byte_text value) (port_lacks 10 port (omega arith)) (byte_lacks 10 value (omega arith))
event_lacks (events.Byte value) h = byte_lacks 10 value (omega arith)
event_lacks (events.Wait ns) h = decimal_lacks 10 _ (omega arith) (early_small is_wait _ waits_end h)
event_lacks (events.Wire input up) h =
    lacks-append 10 (decimal input) (32 ∷ level_text up) (decimal_lacks 10 input (omega arith) (early_small is_wire input wires_end h)) (level_lacks up)
event_lacks events.Ack h = refl

line_lacks : (play : Option ℕ) (line : ScriptLine) → IsLine play line → lacks 10 (line_text line) ≡ true
line_lacks play line h = grind (arith, event_lacks, lacks-append, decimal_lacks, early_small, sets_end, shelf_lacks)

-- ---- a good script is read as it is spelled

text_good : (play : Option ℕ) (number : ℕ) (lines : List ScriptLine) → AreLines play lines → text_read play number (script_text lines) ≡ Ok lines
text_good play number [] h = refl
text_good play number (line ∷ lines) h =
    rw (lines_front (line_text line) (script_text lines) (line_lacks play line h.0), line_good play line h.0, text_good play (number + 1) lines h.1)

pub spelled_read : (play : Option ℕ) (lines : List ScriptLine) → AreLines play lines → script_read play (script_text lines) ≡ Ok lines
unfolding script_read
spelled_read play lines h = text_good _ 1 _ h

-- ---- what is read is spelled so

-- each line that is read satisfies P
record Only (P : ScriptLine → Type 0) (r : Read) : Type 0 where
  holds : (line : ScriptLine) → r ≡ Ok line → P line

only_ok : {P : ScriptLine → Type 0} (line : ScriptLine) → P line → Only P (Ok line)
only_ok {P} line h = record { holds = λ other e. let same : line ≡ other = cc in subst P same h }

only_none : {P : ScriptLine → Type 0} (reason : ScriptReason) → Only P (Err reason)
only_none reason = record { holds = λ line e. cc }

only_map : {P Q : ScriptLine → Type 0} {r : Read} → ((line : ScriptLine) → P line → Q line) → Only P r → Only Q r
only_map f o = record { holds = λ line e. f line (o.holds line e) }

choose : {P : ScriptLine → Type 0} (t : Bool) (a b : Read) → (t ≡ true → Only P a) → Only P b → Only P (if t then a else b)
choose t a b f g = grind (arith, nat_tests)

-- a part that has its shape
formed : {P : ScriptLine → Type 0} {A : Type 0} (o : Option A) (next : A → Read) → ((a : A) → o ≡ Some a → Only P (next a)) → Only P (or_form o next)
formed o next f = grind (arith, only_none)

number_is : {P : ScriptLine → Type 0} (holds : ℕ → Bool) (make : ℕ → ScriptLine) (text : List ℕ) → EndsEarly holds
    → ((n : ℕ) → holds n ≡ true → text ≡ decimal n → P (make n)) → Only P (number_in holds make text)
number_is {P} holds make text early f = formed (number_spelled text) (or_range holds make) by where
  by : (z : ℤ) → number_spelled text ≡ Some z → Only P (or_range holds make z)
  by (negsuc n) s = only_none reasons.Range
  by (pos n) s =
      choose _ _ _
      (λ h. only_ok (make n) (f n h (spelled_holds text (pos n) (early_small holds _ early h) s))) (only_none reasons.Range)

level_is : (text : List ℕ) (up : Bool) → level_spelled text ≡ Some up → text ≡ level_text up
level_is text up e = grind (arith, nat_tests)

abbrev pub rejoined : List ℕ × Option (List ℕ) → List ℕ
rejoined (word, None) = word
rejoined (word, Some rest) = word ++ 32 ∷ rest

longer_joined : (b : ℕ) (split : List ℕ × Option (List ℕ)) → rejoined (longer_word b split) ≡ b ∷ rejoined split
longer_joined b split = grind (arith, nat_tests)

pub word_split : (line : List ℕ) → line ≡ rejoined (first_word line)
word_split [] = refl
word_split (b ∷ line) = by (b == 32) refl (word_split line) where
  by : (t : Bool) → (b == 32) ≡ t → line ≡ rejoined (first_word line) → b ∷ line ≡ rejoined (first_word (b ∷ line))
  by true e later = ap (λ c. c ∷ line) (eqb-true b 32 e) ∙ sym (rw e)
  by false e later = ap (λ rest. b ∷ rest) later ∙ sym (longer_joined b (first_word line)) ∙ sym (rw e)

-- a text is what a line says
abbrev pub Says : Option ℕ → List ℕ → ScriptLine → Type 0
Says play text line = IsLine play line × (text ≡ line_text line)

in_is : (play : Option ℕ) (rest : List ℕ) → Only (Says play (codes "in " ++ rest)) (in_line rest)
in_is play rest = formed (port_spelled rest) _ (λ p s. let q = port_is rest p s in only_ok (Happens (events.Read p)) (q.small, rw (q.text_is)))

byte_line_is : (play : Option ℕ) (rest : List ℕ) → Only (Says play (codes "byte " ++ rest)) (byte_line rest)
byte_line_is play rest = formed (byte_spelled rest) _ (λ v s. let q = byte_is rest v s in only_ok (Happens (events.Byte v)) (q.small, rw (q.text_is)))

wait_is : (play : Option ℕ) (rest : List ℕ) → Only (Says play (codes "wait " ++ rest)) (wait_line rest)
wait_is play rest = number_is is_wait (λ ns. Happens (events.Wait ns)) rest waits_end (λ n h t. (h, rw t))

out_is : (play : Option ℕ) (split : List ℕ × Option (List ℕ)) → Only (Says play (codes "out " ++ rejoined split)) (out_line split)
out_is play (port, rest) =
    formed (port_spelled port) _ (λ p s. formed rest _ (λ value r. formed (byte_spelled value) _ (λ v t.
    let q = port_is port p s in
    let w = byte_is value v t in
    only_ok (Happens (events.Write p v)) ((q.small, w.small), rw (r, q.text_is, w.text_is)))))

wire_line_is : (play : Option ℕ) (split : List ℕ × Option (List ℕ)) → Only (Says play (codes "wire " ++ rejoined split)) (wire_line split)
wire_line_is play (number, rest) =
    formed rest _ (λ level r. formed (level_spelled level) _ (λ up s.
    number_is is_wire (λ input. Happens (events.Wire input up)) number wires_end (λ n h t. (h, rw (r, t, level_is level up s)))))

named : (text name : List ℕ) → name_spelled text ≡ Some name → (is_shelf_name name ≡ true) × (text ≡ name)
named text name e = (grind arith, grind arith)

set_is : (word number : List ℕ) → set_spelled word ≡ Some number → word ≡ 64 ∷ number
set_is word number e = grind (arith, nat_tests)

save_line_is : (level : ℕ) (split : List ℕ × Option (List ℕ)) → Only (Says (Some level) (codes "save " ++ rejoined split)) (save_line level split)
save_line_is level (word, rest) =
    formed rest _ (λ text r. formed (name_spelled text) _ (λ name s. formed (set_spelled word) _ (λ number w.
    number_is (is_set_of NEWEST level) (λ set. Saves set name) number (sets_end level)
    (λ n h t. let k = named text name s in ((h, k.0), rw (r, set_is word number w, t, k.1))))))

restore_is : (level : ℕ) (rest : List ℕ) → Only (Says (Some level) (codes "restore " ++ rest)) (restore_line rest)
restore_is level rest = formed (name_spelled rest) _ (λ name s. let k = named rest name s in only_ok (Restores name) (k.0, rw (k.1)))

-- a word that is known, before the rest
with_word : (play : Option ℕ) (word known rest : List ℕ) {r : Read} → bytes_eq word known ≡ true → Only (Says play (known ++ 32 ∷ rest)) r
    → Only (Says play (word ++ 32 ∷ rest)) r
with_word play word known rest e = only_map (λ line h. (h.0, rw ((bytes_eq-Decides word known).0 e) (h.1)))

-- the rest of a line by its own first word
with_rest : (play : Option ℕ) (front rest : List ℕ) {r : Read} → Only (Says play (front ++ rejoined (first_word rest))) r → Only (Says play (front ++ rest)) r
with_rest play front rest = only_map (λ line h. (h.0, rw (word_split rest) (h.1)))

play_is : (play : Option ℕ) (word rest : List ℕ) → Only (Says play (word ++ 32 ∷ rest)) (play_line play word rest)
play_is None word rest = only_none reasons.Form
play_is (Some level) word rest =
    choose (bytes_eq word (codes "save")) _ _
    (λ p. with_word (Some level) word (codes "save") rest p (with_rest (Some level) (codes "save ") rest (save_line_is level (first_word rest))))
    (choose (bytes_eq word (codes "restore")) _ _ (λ p. with_word (Some level) word (codes "restore") rest p (restore_is level rest)) (only_none reasons.Form))

split_is : (play : Option ℕ) (split : List ℕ × Option (List ℕ)) → Only (Says play (rejoined split)) (line_split play split)
split_is play (word, None) =
    choose _ _ _ (λ p. only_ok (Happens events.Ack) (tt, (bytes_eq-Decides word (codes "ack")).0 p)) (only_none reasons.Form)
split_is play (word, Some rest) =
    choose (bytes_eq word (codes "in")) _ _ (λ p. with_word play word (codes "in") rest p (in_is play rest))
    (choose (bytes_eq word (codes "out")) _ _
    (λ p. with_word play word (codes "out") rest p (with_rest play (codes "out ") rest (out_is play (first_word rest))))
    (choose (bytes_eq word (codes "byte")) _ _ (λ p. with_word play word (codes "byte") rest p (byte_line_is play rest))
    (choose (bytes_eq word (codes "wait")) _ _ (λ p. with_word play word (codes "wait") rest p (wait_is play rest))
    (choose (bytes_eq word (codes "wire")) _ _
    (λ p. with_word play word (codes "wire") rest p (with_rest play (codes "wire ") rest (wire_line_is play (first_word rest))))
    (play_is play word rest)))))

pub line_is : (play : Option ℕ) (text : List ℕ) (line : ScriptLine) → line_read play text ≡ Ok line → Says play text line
line_is play text line e = let h = (split_is play (first_word text)).holds line e in (h.0, word_split text ∙ h.1)

-- lines with their line feeds, and the rest after them
abbrev pub unsplit : List (List ℕ) → List ℕ → List ℕ
unsplit [] tail = tail
unsplit (line ∷ lines) tail = line ++ 10 ∷ unsplit lines tail

begun_unsplit : (b : ℕ) (lines : List (List ℕ)) (tail : List ℕ) → unsplit (begun b lines tail).lines (begun b lines tail).tail ≡ b ∷ unsplit lines tail
begun_unsplit b lines tail = grind (arith, nat_tests)

abbrev pub text_of : Split → List ℕ
text_of split = unsplit split.lines split.tail

pub text_split : (text : List ℕ) → text ≡ text_of (lines_of text)
text_split [] = refl
text_split (b ∷ text) = by (b == 10) refl (text_split text) where
  by : (t : Bool) → (b == 10) ≡ t → text ≡ text_of (lines_of text) → b ∷ text ≡ text_of (lines_of (b ∷ text))
  by true e later = ap (λ c. c ∷ text) (eqb-true b 10 e) ∙ ap (λ rest. 10 ∷ rest) later ∙ sym (rw e)
  by false e later = ap (λ rest. b ∷ rest) later ∙ sym (begun_unsplit b (lines_of text).lines (lines_of text).tail) ∙ sym (rw e)

-- ---- a whole text: its lines have no line feed

abbrev AllLack : List (List ℕ) → Type 0
AllLack [] = Unit {0}
AllLack (line ∷ lines) = (lacks 10 line ≡ true) × AllLack lines

abbrev SplitLacks : Split → Type 0
SplitLacks split = AllLack split.lines × (lacks 10 split.tail ≡ true)

begun_lacks : (b : ℕ) (lines : List (List ℕ)) (tail : List ℕ) → (b == 10) ≡ false → AllLack lines → lacks 10 tail ≡ true → SplitLacks (begun b lines tail)
begun_lacks b lines tail e h i = grind (arith, nat_tests)

lines_lack : (text : List ℕ) → SplitLacks (lines_of text)
lines_lack [] = (tt, refl)
lines_lack (b ∷ text) = grind (arith, cond_both, begun_lacks, lines_lack text)

line_first : (line after : List ℕ) → lacks 10 line ≡ true → first_line (line ++ 10 ∷ after) ≡ Some (line, after)
line_first [] after h = refl
line_first (b ∷ line) after h = grind (arith, nat_tests, line_first line after)

no_first : (text : List ℕ) → lacks 10 text ≡ true → first_line text ≡ None
no_first [] h = refl
no_first (b ∷ text) h = grind (arith, nat_tests, no_first text)

-- what a reading says: the lines that are spelled, or the first bad one
abbrev Means : Option ℕ → ℕ → List ℕ → Reading → Type 0
Means play number text (Ok lines) = AreLines play lines × (text ≡ script_text lines)
Means play number text (Err fault) = IsRefused play number text fault

-- a bad line with none before it
here : (play : Option ℕ) (number : ℕ) (left : List ℕ) (reason : ScriptReason) → IsBadHere play left (first_line left) reason → Means play number left (bad number reason)
here play number left reason h = record { before = []; left = left; good = tt; whole = refl; number = omega arith; bad = h }

tail_means : (play : Option ℕ) (number : ℕ) (tail : List ℕ) → lacks 10 tail ≡ true → Means play number tail (tail_read play number tail)
tail_means play number tail h = search (arith, no_first)

lines_mean : (play : Option ℕ) (number : ℕ) (texts : List (List ℕ)) (tail : List ℕ) → AllLack texts → lacks 10 tail ≡ true
    → Means play number (unsplit texts tail) (lines_read play number texts tail)
lines_mean play number [] tail h i = tail_means play number tail i
lines_mean play number (text ∷ texts) tail h i =
    by (line_read play text) refl (lines_read play (number + 1) texts tail) (lines_mean play (number + 1) texts tail h.1 i) where
      by : (r : Read) → line_read play text ≡ r → (later : Reading) → Means play (number + 1) (unsplit texts tail) later
          → Means play number (text ++ 10 ∷ unsplit texts tail) (with_line number r later)
      by (Err reason) e later m = here play number _ reason (rw (line_first text (unsplit texts tail) h.0) e)
      by (Ok line) e (Ok more) m = let said = line_is play text line e in ((said.0, m.0), rw (said.1, m.1) refl)
      by (Ok line) e (Err fault) m =
          let said = line_is play text line e in
          record {
            before = line ∷ m.before;
            left = m.left;
            good = (said.0, m.good);
            whole = rw (said.1, m.whole) (sym (append_assoc (line_text line) (10 ∷ script_text m.before) m.left));
            number = omega arith;
            bad = m.bad;
          }

script_means : (play : Option ℕ) (text : List ℕ) → Means play 1 text (script_read play text)
unfolding script_read
script_means play text = grind (arith, lines_lack, text_split, lines_mean)

pub refuses_first : RefusesFirst
refuses_first = record { at = λ play text fault e. rw e at (script_means play text) }

pub reads_exactly : ReadsExactly
reads_exactly = record { spelled = spelled_read; only = λ play text lines e. rw e at (script_means play text) }
