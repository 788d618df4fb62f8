-- Scripts line by line, and the line that is refused.
use Rattle.vms_script.proofs.GrammarLaws.{rejoined, word_split}
use Rattle.vms_script.proofs.Facade
use Facade.{nat_tests, unended_reason, ◌≡◌, ℕ, ◌+◌, ◌<◌, Bool, true, false, ◌==◌, List, [], ◌∷◌, ◌++◌, length, Option, Some, None}
use Facade.{Ok, Err, if◌then◌else◌, refl, sym, ap, ◌∙◌, arith, append_assoc, eqb-true, append-nil, first_line, longer_line, ScriptLine, Read}
use Facade.{line_read, Split, Reading, lines_of, begun, bad, also, with_line, unended, text_read, SaysLines, IsBadAt, IsPut, IsRefusal, ReadsLines, ScriptFault}
use Facade.{ScriptReason, zero, suc, ◌≤◌, get_or, take, drop, codes, bytes_eq, ne_eqb, eq-eqb, none-some, first_word, longer_word, not, list_all, IsAscii}
use Facade.{slice_index, and_parts, is_name_byte, name_byte_low, is_shelf_name}
use Rattle.vms_script.specs.declared.line.ScriptReason.TheVariants as reasons

-- ---- the lines of a text by its first line

abbrev by_first : Option (List ℕ × List ℕ) → List ℕ → Split
by_first None text = record { lines = []; tail = text }
by_first (Some (line, after)) text = record { lines = line ∷ (lines_of after).lines; tail = (lines_of after).tail }

at_byte : (b : ℕ) (text : List ℕ) (t : Bool) → lines_of text ≡ by_first (first_line text) text
    → (if t then record { lines = [] ∷ (lines_of text).lines; tail = (lines_of text).tail } else begun b (lines_of text).lines (lines_of text).tail)
    ≡ by_first (if t then Some ([], text) else longer_line b (first_line text)) (b ∷ text)
at_byte b text true is = refl
at_byte b text false is = rw is (grind (arith, nat_tests))

lines_first : (text : List ℕ) → lines_of text ≡ by_first (first_line text) text
lines_first [] = refl
lines_first (b ∷ text) = at_byte b text (b == 10) (lines_first text)

text_first : (play : Option ℕ) (number : ℕ) (text line after : List ℕ) → first_line text ≡ Some (line, after)
    → text_read play number text ≡ with_line number (line_read play line) (text_read play (number + 1) after)
text_first play number text line after e = rw (lines_first text, e)

abbrev pub after_lines : List ScriptLine → Reading → Reading
after_lines before (Ok lines) = Ok (before ++ lines)
after_lines before (Err fault) = Err fault

after_also : (before : List ScriptLine) (line : ScriptLine) (reading : Reading) → after_lines (before ++ line ∷ []) reading ≡ after_lines before (also line reading)
after_also before line (Ok lines) = rw (append_assoc before (line ∷ []) lines)
after_also before line (Err fault) = refl

-- a good line
pub line_goes : (before : List ScriptLine) (play : Option ℕ) (number : ℕ) (text line after : List ℕ) (said : ScriptLine) → first_line text ≡ Some (line, after) → line_read play line ≡ Ok said
    → after_lines (before ++ said ∷ []) (text_read play (number + 1) after) ≡ after_lines before (text_read play number text)
line_goes before play number text line after said first good =
    after_also before said (text_read play (number + 1) after)
    ∙ sym (ap (after_lines before) (text_first play number text line after first
    ∙ ap (λ r. with_line number r (text_read play (number + 1) after)) good))

-- a bad line
pub line_stops : (before : List ScriptLine) (play : Option ℕ) (number : ℕ) (text line after : List ℕ) (reason : ScriptReason) → first_line text ≡ Some (line, after) → line_read play line ≡ Err reason
    → after_lines before (text_read play number text) ≡ bad number reason
line_stops before play number text line after reason first is =
    rw (text_first play number text line after first, is)

-- the end of the text, or a last line without its end
pub text_ends : (before : List ScriptLine) (play : Option ℕ) (number : ℕ) (text : List ℕ) → first_line text ≡ None → length text ≡ 0 → after_lines before (text_read play number text) ≡ Ok before
text_ends before play number [] first none = rw (append-nil before)
text_ends before play number (b ∷ text) first none = absurd (omega arith)

unended_is : (before : List ScriptLine) (number : ℕ) (read : Read) → after_lines before (unended number read) ≡ bad number (unended_reason read)
unended_is before number read = grind (arith, nat_tests)

pub tail_stops : (before : List ScriptLine) (play : Option ℕ) (number : ℕ) (text : List ℕ) → first_line text ≡ None → 0 < length text
    → after_lines before (text_read play number text) ≡ bad number (unended_reason (line_read play text))
tail_stops before play number [] first some = absurd (omega arith)
tail_stops before play number (b ∷ text) first some =
    ap (after_lines before) (rw (lines_first (b ∷ text), first)) ∙ unended_is before number (line_read play (b ∷ text))

pub reads_lines : (reading : Reading) (lines : List ScriptLine) → reading ≡ Ok lines → SaysLines reading lines
reads_lines reading lines e = rw e refl

pub reads_bad : (reading : Reading) (number : ℕ) (reason : ScriptReason) → reading ≡ bad number reason → IsBadAt reading number reason
reads_bad reading number reason e = rw e (refl, refl)

-- what a line says is after what was said before
pub line_put : (before : List ScriptLine) (play : Option ℕ) (number : ℕ) (text line after : List ℕ) (all : List ScriptLine) → first_line text ≡ Some (line, after) → IsPut (line_read play line) before all
    → after_lines all (text_read play (number + 1) after) ≡ after_lines before (text_read play number text)
line_put before play number text line after all first put = grind (arith, line_goes)

-- a last line that says something lacks only its end
pub put_unended : (before all : List ScriptLine) (read : Read) → IsPut read before all → unended_reason read ≡ reasons.NoEnd
put_unended before all read h = grind (arith, nat_tests)

-- a line that is refused is the text's first bad one
pub refused : {V : Type 0} (lines : V) (items : V → List ScriptLine) (reading : Reading) (read : Read) (number : ℕ) (fault : ScriptFault)
    → ((reason : ScriptReason) → read ≡ Err reason → reading ≡ bad number reason) → IsRefusal read number fault → ReadsLines items reading (Err fault)
refused lines items reading read number fault is h = grind (arith, reads_bad)

pub is_empty : (text : List ℕ) → (length text == 0) ≡ true → length text ≡ 0
is_empty text e = eqb-true (length text) 0 e

pub is_some : (text : List ℕ) → (length text == 0) ≡ false → 0 < length text
is_some text e = grind (arith, nat_tests)

-- a byte is at an offset, and not before it
abbrev pub NotBefore : ℕ → List ℕ → ℕ → Type 0
NotBefore byte xs i = (k : ℕ) → k < i → get_or xs k 0 ≡ byte → ⊥

word_at : (xs : List ℕ) (i : ℕ) → i < length xs → get_or xs i 0 ≡ 32 → NotBefore 32 xs i → first_word xs ≡ (take i xs, Some (drop (suc i) xs))
word_at [] i lt is before = absurd (omega arith)
word_at (b ∷ xs) zero lt is before = rw (eq-eqb b 32 is)
word_at (b ∷ xs) (suc i) lt is before =
    rw (ne_eqb b 32 (before 0 (omega arith))) (ap (longer_word b) (word_at xs i (omega arith) is (λ k h. before (suc k) (omega arith))))

one_word : (xs : List ℕ) → NotBefore 32 xs (length xs) → first_word xs ≡ (xs, None)
one_word [] none = refl
one_word (b ∷ xs) none = rw (ne_eqb b 32 (none 0 (omega arith))) (ap (longer_word b) (one_word xs (λ k h. none (suc k) (omega arith))))

-- the first space ends the first word
pub found_word : (xs : List ℕ) (i : ℕ) → i < length xs → get_or xs i 0 ≡ 32 → NotBefore 32 xs i → first_word xs ≡ (take i xs, Some (drop (i + 1) xs))
found_word xs i lt is before =
    let s : i + 1 ≡ suc i = omega arith in rw s (word_at _ _ lt is before)

pub no_blank : (xs : List ℕ) (i : ℕ) → length xs ≤ i → NotBefore 32 xs i → first_word xs ≡ (xs, None)
no_blank xs i end none = one_word xs (λ k h is. none k (omega arith) is)

-- nothing was found so far
pub none_yet : (byte : ℕ) (xs : List ℕ) → NotBefore byte xs 0
none_yet byte xs k h is = absurd (omega arith)

pub none_here : (byte : ℕ) (xs : List ℕ) (i : ℕ) → (get_or xs i 0 ≡ byte → ⊥) → NotBefore byte xs i → NotBefore byte xs (i + 1)
none_here byte xs i other before k h is = grind arith

-- a line without a space is its own first word
lone_word : (xs : List ℕ) → (first_word xs).1 ≡ None → first_word xs ≡ (xs, None)
lone_word xs none = by (first_word xs) none (word_split xs) where
  by : (split : List ℕ × Option (List ℕ)) → split.1 ≡ None → xs ≡ rejoined split → split ≡ (xs, None)
  by (word, None) none is = rw is
  by (word, Some rest) none is = cc

-- a line with a space isn't empty
pub words_long : (xs rest : List ℕ) → (first_word xs).1 ≡ Some rest → 0 < length xs
words_long [] rest some = absurd (none-some rest some)
words_long (b ∷ xs) rest some = omega arith

-- what a line of one word that isn't `ack` says
pub other_says : (play : Option ℕ) (xs : List ℕ) → bytes_eq xs (codes "ack") ≡ false → (first_word xs).1 ≡ None → line_read play xs ≡ Err reasons.Form
other_says play xs other none = rw (lone_word xs none, other)

bytes_ascii : (bytes : List ℕ) → list_all is_name_byte bytes ≡ true → (i : ℕ) → slice_index bytes i < 128
bytes_ascii [] e i = omega arith
bytes_ascii (b ∷ bytes) e zero = let low = name_byte_low b (and_parts (is_name_byte b) (list_all is_name_byte bytes) e).0 in omega arith
bytes_ascii (b ∷ bytes) e (suc i) = bytes_ascii bytes (and_parts (is_name_byte b) (list_all is_name_byte bytes) e).1 i

pub name_ascii : (name : List ℕ) → is_shelf_name name ≡ true → IsAscii name
name_ascii name e = grind (arith, bytes_ascii)
