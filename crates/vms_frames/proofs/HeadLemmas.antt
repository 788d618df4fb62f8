-- Units by the bytes that came: numbers, heads, footers, and what ends a stream.
use Rattle.vms_frames.proofs.Facade
use Facade.{◌≡◌, ℕ, suc, zero, ◌+◌, ◌<◌, ◌≤◌, List, [], ◌++◌, length, get_or, drop, Some, Ok, Err, refl, sym, ap, arith, length-drop}
use Facade.{take-append-le, le-ltb, lt-ltb, big_from, Reason, number_at, bytes_at, Refused, Piece, Known, Due, first_row, alone, needs, Seen, Good, Bad, Short}
use Facade.{seen_in, seen_by, not, ℤ, Bool, true, false, if◌then◌else◌, slice_index, take, None, ◌∙◌, length-append, take_at, false_from_ne_true}
use Facade.{ltb-true, bytes_eq, bytes_eq-Decides, big_number, Kind, width, value_of, IsBadBool, is_bad_bool, Magic, Number, raw_same, bad_same, magic, AMagic}
use Facade.{Field, raw, seen, nothing_known, ◌==◌, nat_lt, take_all, eq-eqb, ne_eqb, get_or-take, length-take-le, Long, Start, Foot, head_in, sub_head_in}
use Facade.{AfterFields, text_at, Section, step_long, unit_of_step, in_section, head_seen, start_seen, IsStartReason, sub_seen, foot_seen, ReadsTrailer}
use Facade.{◌-◌, ◌∷◌, Option, Result, Intake, Takes, Breaks, reads_behind, reads_last, longest_text, Description, AfterEnd, trailer_at, FrameFault}
use Facade.{ReadFault, AnswersEnd, ReadsText, if_both}
use Rattle.std.proofs.{Common.Result, Math.Bool.and-false, lemmas.List.get_or_append_left, lemmas.List.drop-append-le}
use Rattle.vms_spec.specs.{Layout.Number as NumberSlot, Units.SubHead as ASub, Units.Mark}
use Rattle.vms_stream.specs.Dues.{Between as IsBetween}
use Rattle.vms_spec.specs.declared.Reason.TheVariants as reasons
use Rattle.vms_kinds.specs.declared.Kind.TheVariants as kinds
use Rattle.vms_stream.specs.SoFar as tails
pub use Rattle.vms_spec.proofs.ListsAndNumbers.{err_is}

-- ---- what the bytes of a unit are, whatever comes after them

pub byte_of_unit : (i : ℕ) (unit rest : List ℕ) → i < length unit → get_or (unit ++ rest) i 0 ≡ get_or unit i 0
byte_of_unit i unit rest h = get_or_append_left unit rest 0 i h

big_append : (i k : ℕ) (xs ys : List ℕ) → i + k ≤ length xs → big_from i k (xs ++ ys) ≡ big_from i k xs
big_append i zero xs ys h = refl
big_append i (suc k) xs ys h = rw (byte_of_unit i xs ys (omega arith), big_append (suc i) k xs ys (omega arith))

pub number_of_unit : (k i : ℕ) (unit rest : List ℕ) → i + k ≤ length unit → number_at k i (unit ++ rest) ≡ number_at k i unit
number_of_unit k i unit rest h = rw (drop-append-le i unit rest (omega arith)) (big_append 0 _ _ _ (omega (arith, length-drop i unit)))

pub bytes_of_unit : (n i : ℕ) (unit rest : List ℕ) → i + n ≤ length unit → bytes_at n i (unit ++ rest) ≡ bytes_at n i unit
bytes_of_unit n i unit rest h = rw (drop-append-le i unit rest (omega arith), take-append-le n (drop i unit) rest (omega (arith, length-drop i unit)))

-- ---- the number of bytes that a unit needs

pub cut_short : (d : Due) (k : Known) (n : ℕ) (rest : List ℕ) (x : Piece) → length rest < n → seen_in d k (needs n rest x) ≡ Short
cut_short d k n rest x h = rw (lt-ltb (length rest) n h)

pub seen_whole : (d : Due) (k : Known) (n : ℕ) (rest : List ℕ) (x : Piece) → n ≤ length rest
    → seen_in d k (needs n rest x) ≡ seen_by (first_row (alone d k x)) x n
seen_whole d k n rest x h = rw (le-ltb (length rest) n h)

-- ---- a number whose code came, and the head of a stream

abbrev number_seen : Kind → List ℕ → Seen
number_seen kind all = seen (Field 0 (NumberSlot 0 kind [])) nothing_known all

abbrev seen_if : Kind → ℤ → Bool → Seen
seen_if kind z bad = seen_by (if bad then Some (None, reasons.BadBool) else None) (Number 0 kind z) (width kind)

-- what comes after it doesn't matter
number_came : (kind : Kind) (code rest : List ℕ) → length code ≡ width kind
    → number_seen kind (code ++ rest) ≡ seen_if kind (value_of (raw kind) code) (is_bad_bool kind code)
number_came kind code rest long =
    seen_whole (Field 0 (NumberSlot 0 kind [])) nothing_known (width kind) (code ++ rest) _ (omega (arith, length-append code rest))
    ∙ rw (take_at code rest (width kind) long, bad_same kind code)

-- the one byte of a truth value
first : (code : List ℕ) → big_number 1 code ≡ slice_index code 0
first code = omega arith

not_bad : (kind : Kind) (code : List ℕ) → length code ≡ width kind → (IsBadBool kind code → ⊥) → is_bad_bool kind code ≡ false
not_bad kinds.Bool code long good = false_from_ne_true _ (λ e. good (refl, rw (← (first code)) (ltb-true 1 _ e)))
not_bad kind code long good = refl

pub number_good : (kind : Kind) (code : List ℕ) (value : ℤ) → length code ≡ width kind → (IsBadBool kind code → ⊥) → value ≡ value_of kind code
    → (rest : List ℕ) → number_seen kind (code ++ rest) ≡ Good (Number 0 kind value) (width kind)
number_good kind code value long good is rest = rw (number_came kind code rest long, not_bad kind code long good, raw_same kind code, is)

is_bad : (kind : Kind) (code : List ℕ) → IsBadBool kind code → is_bad_bool kind code ≡ true
is_bad kinds.Bool code bad = lt-ltb 1 _ (rw first bad.1)
is_bad kind code bad = cc

pub number_bad : (kind : Kind) (code : List ℕ) → length code ≡ width kind → IsBadBool kind code → (rest : List ℕ)
    → number_seen kind (code ++ rest) ≡ Bad (width kind) reasons.BadBool
number_bad kind code long bad rest = rw (number_came kind code rest long, is_bad kind code bad)

-- ---- the magic

abbrev magic_by : List ℕ → Bool → Seen
magic_by all b = seen_by (if not b then Some (None, reasons.BadMagic) else None) (Magic (take 4 all)) 4

magic_came : (unit rest : List ℕ) → length unit ≡ 4 → seen AMagic nothing_known (unit ++ rest) ≡ magic_by (unit ++ rest) (bytes_eq unit magic)
magic_came unit rest long =
    seen_whole AMagic nothing_known 4 (unit ++ rest) _ (omega (arith, length-append unit rest))
    ∙ ap (λ l. magic_by (unit ++ rest) (bytes_eq l magic)) (take_at unit rest 4 long)

pub magic_good : (unit rest : List ℕ) → length unit ≡ 4 → unit ≡ magic → seen AMagic nothing_known (unit ++ rest) ≡ Good (Magic (take 4 (unit ++ rest))) 4
magic_good unit rest long e = magic_came unit rest long ∙ ap (λ l. magic_by (unit ++ rest) (bytes_eq l magic)) e

pub magic_bad : (unit rest : List ℕ) → length unit ≡ 4 → (unit ≡ magic → ⊥) → seen AMagic nothing_known (unit ++ rest) ≡ Bad 4 reasons.BadMagic
magic_bad unit rest long other =
    magic_came unit rest long ∙ ap (magic_by (unit ++ rest)) (false_from_ne_true (bytes_eq unit magic) (λ e. other ((bytes_eq-Decides unit magic).0 e)))

-- ---- the heads of sections and of subsections, of configurations and of descriptions, and footers, by the bytes that came

-- a byte that came stays where it is
pub kept_byte : (i : ℕ) (unit more : List ℕ) → take (length unit) more ≡ unit → i < length unit → get_or more i 0 ≡ get_or unit i 0
kept_byte i unit more kept h = sym (get_or-take (length unit) more i 0 h) ∙ ap (λ l. get_or l i 0) kept

-- ---- heads of sections

pub head_cut : (all : List ℕ) → length all < 14 + get_or all 5 0 → head_seen all ≡ Short
head_cut all few = cut_short (IsBetween true false) nothing_known (14 + get_or all 5 0) all _ few

pub head_long : (unit : List ℕ) → length unit ≡ 14 + get_or unit 5 0 → length unit ≡ step_long (Section (head_in unit))
head_long unit long = rw (length-take-le (get_or unit 5 0) (drop 6 unit) (omega (arith, length-drop 6 unit))) long

pub head_whole : (unit rest : List ℕ) → length unit ≡ 14 + get_or unit 5 0
    → head_seen (unit ++ rest) ≡ Good (unit_of_step (Section (head_in unit))) (step_long (Section (head_in unit)))
head_whole unit rest long =
    let all = unit ++ rest in
    let k = get_or unit 5 0 in
    seen_whole (IsBetween true false) nothing_known (14 + get_or all 5 0) all _ (omega (arith, length-append unit rest, byte_of_unit 5 unit rest (omega arith)))
    ∙ rw (
      byte_of_unit 5 unit rest (omega arith),
      number_of_unit 4 1 unit rest (omega arith),
      bytes_of_unit k 6 unit rest (omega arith),
      number_of_unit 4 (6 + k) unit rest (omega arith),
      number_of_unit 4 (10 + k) unit rest (omega arith),
      ← head_long unit long,
      long,
    )

-- ---- heads of subsections

pub sub_cut : (all : List ℕ) → length all < 6 + get_or all 1 0 → sub_seen all ≡ Short
sub_cut all few = cut_short (AfterFields 0 tails.Unknown) nothing_known (6 + get_or all 1 0) all _ few

pub sub_whole_long : (unit : List ℕ) → length unit ≡ 6 + get_or unit 1 0 → length unit ≡ 6 + length (sub_head_in unit).name.items
sub_whole_long unit long = rw (length-take-le (get_or unit 1 0) (drop 2 unit) (omega (arith, length-drop 2 unit))) long

pub sub_whole : (unit rest : List ℕ) → length unit ≡ 6 + get_or unit 1 0
    → sub_seen (unit ++ rest) ≡ Good (ASub (sub_head_in unit).name.items (sub_head_in unit).version) (6 + length (sub_head_in unit).name.items)
sub_whole unit rest long =
    let all = unit ++ rest in
    let k = get_or unit 1 0 in
    let n : get_or all 1 0 ≡ k = byte_of_unit 1 unit rest (omega arith) in
    seen_whole (AfterFields 0 tails.Unknown) nothing_known (6 + get_or all 1 0) all
    (ASub (bytes_at (get_or all 1 0) 2 all) (number_at 4 (2 + get_or all 1 0) all)) (omega (arith, length-append unit rest))
    ∙ rw (n, bytes_of_unit k 2 unit rest (omega arith), number_of_unit 4 (2 + k) unit rest (omega arith), ← sub_whole_long unit long, long)

-- ---- footers

module _ (id : ℕ) where
  pub foot_cut : (unit rest : List ℕ) → length unit + length rest < 5 → foot_seen id (unit ++ rest) ≡ Short
  foot_cut unit rest few = cut_short (AfterFields 0 tails.Unknown) (in_section id) 5 (unit ++ rest) _ (omega (arith, length-append unit rest))

  foot_came : (unit rest : List ℕ) → length unit ≡ 5 → foot_seen id (unit ++ rest)
      ≡ seen_by (if not (number_at 4 1 unit == id) then Some (None, reasons.BadFooter) else None) (Foot (number_at 4 1 unit)) 5
  foot_came unit rest long =
      seen_whole (AfterFields 0 tails.Unknown) (in_section id) 5 (unit ++ rest) (Foot (number_at 4 1 (unit ++ rest))) (omega (arith, length-append unit rest))
      ∙ rw (number_of_unit 4 1 unit rest (omega arith)) refl

  pub foot_whole : (unit rest : List ℕ) → length unit ≡ 5 → number_at 4 1 unit ≡ id → foot_seen id (unit ++ rest) ≡ Good (Foot id) 5
  foot_whole unit rest long same = foot_came unit rest long ∙ rw (eq-eqb (number_at 4 1 unit) id same, same) refl

  pub foot_wrong : (unit rest : List ℕ) → length unit ≡ 5 → (number_at 4 1 unit ≡ id → ⊥) → foot_seen id (unit ++ rest) ≡ Bad 5 reasons.BadFooter
  foot_wrong unit rest long other = foot_came unit rest long ∙ rw (ne_eqb (number_at 4 1 unit) id other) refl

-- ---- sections that are sent in parts

pub start_cut : (all : List ℕ) → length all < 6 + get_or all 5 0 → start_seen all ≡ Short
start_cut all few = cut_short (IsBetween true false) nothing_known (6 + get_or all 5 0) all _ few

pub start_whole : (unit rest : List ℕ) (reason : Reason) → length unit ≡ 6 + get_or unit 5 0 → IsStartReason (drop 6 unit) reason
    → start_seen (unit ++ rest) ≡ Bad (6 + get_or unit 5 0) reason
start_whole unit rest reason long is =
    let all = unit ++ rest in
    let k = get_or unit 5 0 in
    let n : get_or all 5 0 ≡ k = byte_of_unit 5 unit rest (omega arith) in
    seen_whole (IsBetween true false) nothing_known (6 + get_or all 5 0) all (Start (number_at 4 1 all) (bytes_at (get_or all 5 0) 6 all))
    (omega (arith, length-append unit rest))
    ∙ rw (n, bytes_of_unit k 6 unit rest (omega arith), take_all k (drop 6 unit) (omega (arith, length-drop 6 unit)), is (number_at 4 1 all)) refl

-- ---- configurations and descriptions: a mark, a length, and that many bytes

module _ (d : Due) (k : Known) (mark longest : ℕ) (piece : List ℕ → Piece) where
  abbrev pub text_seen : List ℕ → Seen
  text_seen all = seen_in d k (text_at mark longest piece all (number_at 4 1 all))

  pub text_begins : (unit rest : List ℕ) → length unit + length rest < 5 → text_seen (unit ++ rest) ≡ Short
  text_begins unit rest few =
      let all = unit ++ rest in
      let n = number_at 4 1 all in
      let less : length all < 5 = omega (arith, length-append unit rest) in
      if_both (λ f. seen_in d k f ≡ Short) (nat_lt longest n) (needs 5 all (Long mark n)) (needs (5 + n) all (piece (bytes_at n 5 all)))
      (cut_short d k 5 all (Long mark n) less) (cut_short d k (5 + n) all (piece (bytes_at n 5 all)) (omega arith))

  pub text_cut : (unit rest : List ℕ) → 5 ≤ length unit → number_at 4 1 unit ≤ longest → length unit + length rest < 5 + number_at 4 1 unit
      → text_seen (unit ++ rest) ≡ Short
  text_cut unit rest some low few =
      rw (number_of_unit 4 1 unit rest (omega arith), le-ltb longest (number_at 4 1 unit) low)
      (cut_short d k (5 + number_at 4 1 unit) (unit ++ rest) _ (omega (arith, length-append unit rest)))

  -- an invalid length
  pub text_above : (unit rest : List ℕ) → length unit ≡ 5 → longest < number_at 4 1 unit
      → text_seen (unit ++ rest) ≡ seen_by (first_row (alone d k (Long mark (number_at 4 1 unit)))) (Long mark (number_at 4 1 unit)) 5
  text_above unit rest long high =
      rw (number_of_unit 4 1 unit rest (omega arith), lt-ltb longest (number_at 4 1 unit) high)
      (seen_whole d k 5 (unit ++ rest) (Long mark (number_at 4 1 unit)) (omega (arith, length-append unit rest)))

  pub text_whole : (unit rest : List ℕ) → 5 ≤ length unit → number_at 4 1 unit ≤ longest → 5 + number_at 4 1 unit ≤ length unit + length rest
      → text_seen (unit ++ rest) ≡ seen_by (first_row (alone d k (piece (bytes_at (number_at 4 1 unit) 5 (unit ++ rest)))))
      (piece (bytes_at (number_at 4 1 unit) 5 (unit ++ rest))) (5 + number_at 4 1 unit)
  text_whole unit rest some low le =
      rw (number_of_unit 4 1 unit rest (omega arith), le-ltb longest (number_at 4 1 unit) low)
      (seen_whole d k (5 + number_at 4 1 unit) (unit ++ rest) _ (omega (arith, length-append unit rest)))

-- ---- what ends a stream: nothing, or a description section

-- a description, after its mark
pub description_there : (more : List ℕ)
    → text_seen AfterEnd nothing_known 0x06 longest_text Description (0x06 ∷ more) ≡ seen AfterEnd nothing_known (0x06 ∷ more)
unfolding trailer_at
description_there more = refl

trailing_row : (b : ℕ) → first_row (alone AfterEnd nothing_known (Mark b)) ≡ Some (None, reasons.Trailing)
trailing_row b = simp and-false refl

other_there : (b : ℕ) (more : List ℕ) → (b ≡ 0x06 → ⊥) → seen AfterEnd nothing_known (b ∷ more) ≡ Bad 1 reasons.Trailing
unfolding trailer_at
other_there b more other = grind (arith, seen_whole, trailing_row)

-- the read of its first byte failed
pub trailer_broken : {a b : Intake} (at : ℕ) → Breaks a b 1 → ReadsTrailer a b at (Err ReadFault)
trailer_broken at p = record { bytes = p.bytes; takes = p.takes; long = omega arith; says = λ more f. unsaid (p.bytes ++ more) (Some more); cause = p.rose }
  where
    unsaid : (rest : List ℕ) (left : Option (List ℕ)) → AnswersEnd rest (seen AfterEnd nothing_known rest) at at left (Err ReadFault)
    unsaid _ left = tt

-- another byte came
pub trailer_other : {a b : Intake} (at c : ℕ) (fault : FrameFault) → Takes a b (c ∷ []) → (c ≡ 0x06 → ⊥) → fault ≡ Refused at reasons.Trailing
    → ReadsTrailer a b at (Err fault)
trailer_other {a} {b} at c fault p other same = search (arith, other_there)

-- the mark of a description came
pub trailer_on : {a b c : Intake} (at : ℕ) (r : Result ℕ FrameFault) → Takes a b (0x06 ∷ []) → ReadsText b c (0x06 ∷ []) at r → ReadsTrailer a c at r
trailer_on at (Ok n) p h = grind (arith, reads_behind, reads_last)
trailer_on at (Err (Refused place reason)) p h = reads_behind (λ k l. l) (λ rest left q. q) p h
trailer_on at (Err ReadFault) p h = reads_behind (λ k l. l) (λ rest left q. tt) p h
