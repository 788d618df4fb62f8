-- What a cursor's call sees, and what the judge says; a unit between sections after the fields.
use Rattle.vms_stream.proofs.{Finding.next_at, Steps.Line, Steps.mark_never, Steps.start_never}
use Rattle.vms_stream.proofs.Facade
use Facade.{arith, JudgedLaw, NextLaw, SeenLaw, ◌≡◌, if_both, if_so, ℕ, ◌+◌, List, ◌∷◌, length, Option, Some, None, refl, ap, Bool, true}
use Facade.{false, nat_lt, ◌==◌, if◌then◌else◌, [], zero, suc, ◌++◌, Reason, Set, Image, bytes_at, Verdict, Faulty, Over, Piece, Start, Mark}
use Facade.{Number, Constant, if_true, Tail, Unknown, Footed, Bare, Known, Due, Between, AfterFields, begins_next, rules_hold, AMagic, Field, is_foot, is_next}
use Facade.{due_field, Found, Whole, Cut, needs, between_at, unit_at, sub_at, behind_at, cut_in, first_of, is_between, wants_foot, Row, first_row, alone}
use Facade.{asking, other_constant, large_count, bad_foot, judge, judge_found, by_row, owes, State, Free, Inside, due_by, known_at, slots_at, after, by_state}
use Facade.{Spot, Before, Headed, Ended, open_at, Slot, Bad, seen_in, seen_by, judge_seen, ask, begins_section}
use Rattle.vms_stream.specs.State.{Over as IsOver}
use Rattle.std.proofs.Math.Bool.{and-false}
use Rattle.vms_spec.specs.Layout.{Number as NumberSlot, Constant as ConstantSlot, Filler as FillerSlot, Rule as RuleSlot}
use Rattle.vms_spec.specs.declared.Reason.TheVariants as reasons

-- what begins there is between sections, and no footer
next_between : (k : ℕ) (t : Tail) (rest : List ℕ) → begins_next t rest ≡ true → (is_between (AfterFields k t) ≡ true) × (wants_foot (AfterFields k t) ≡ false)
next_between k t rest e = grind arith

-- an invalid unit is so in any state
some_row : (set : Set) (names : List (List ℕ)) (s u : State) (m : ℕ) (row : Line) → (row ≡ None → ⊥)
    → by_row (by_state set names) row m s ≡ by_row (by_state set names) row m u
some_row set names s u m None never = absurd (never refl)
some_row set names s u m (Some line) never = refl

module _ (set : Set) (names : List (List ℕ)) (machine : Option (List ℕ)) (images : List Image) (came : List Bool) (k id : ℕ) (part : Option ℕ) (n : ℕ)
    (t : Tail) (rest : List ℕ) where
  -- in the section, and between sections of a bare stream
  abbrev inner : State
  inner = record { machine = machine; images = images; came = came; tail = t; spot = Inside k id part n }

  abbrev outer : State
  outer = record { machine = machine; images = images; came = came; tail = Bare; spot = Free false false }

  -- the verdict after the fields, by what is found there
  abbrev verdict : Due → Found → Verdict State
  verdict d (Whole x m) = by_row (by_state set names) (first_of set names d (known_at set inner) x) m (after set inner x)
  verdict d Cut = if owes d rest then Faulty (cut_in d rest (Some k)) reasons.Truncated (length rest) else Over inner

  same : (f : Found) → judge_found (by_state set names) inner rest f ≡ verdict (due_by set inner (Inside k id part n)) f
  same (Whole x m) = refl
  same Cut = refl

  -- it is the one between sections
  abbrev IsOuter : Found → Type 0
  IsOuter f = verdict (AfterFields k t) f ≡ judge_found (by_state set names) outer rest f

  module _ (e : begins_next t rest ≡ true) where
    needs_outer : (m : ℕ) (x : Piece) → IsOuter (Whole x m) → IsOuter (needs m rest x)
    needs_outer m x h = if_both IsOuter (nat_lt (length rest) m) Cut (Whole x m) (rw e) h

    start_outer : (m its : ℕ) (name : List ℕ) → IsOuter (Whole (Start its name) m)
    start_outer m its name = some_row set names _ _ m _ (start_never set names (Between false false) (known_at set outer) its name)

    between_outer : (b : ℕ) → ((m : ℕ) → IsOuter (Whole (Mark b) m)) → IsOuter (between_at false b rest)
    unfolding between_at
    between_outer b mark = grind (arith, if_both, needs_outer, start_outer, bytes_at)

    unit_is : unit_at (AfterFields k t) rest ≡ unit_at (Between false false) rest
    unit_is = grind (arith, next_at)

    mark_outer : (b m : ℕ) → IsOuter (Whole (Mark b) m)
    mark_outer b m = grind (arith, next_between, some_row, mark_never, known_at)

    pub next_judged : due_by set inner (Inside k id part n) ≡ AfterFields k t → rules_hold (slots_at set inner (Inside k id part n)) ≡ true
        → judge (by_state set names) inner rest ≡ judge (by_state set names) outer rest
    next_judged due held = grind (arith, if_true, same, due_by, unit_is, between_outer, mark_outer)

-- a row of this section, or none
abbrev Of : Option ℕ → Line → Type 0
Of section None = Unit {0}
Of section (Some line) = line.0 ≡ section

abbrev AllOf : Option ℕ → List Row → Type 0
AllOf section [] = Unit {0}
AllOf section (r ∷ rows) = (r.section ≡ section) × AllOf section rows

of_first : (section : Option ℕ) (rows : List Row) → AllOf section rows → Of section (first_row rows)
of_first section [] a = tt
of_first section (r ∷ rows) a = by (of_first section rows a.1) r.taken
  where
    by : Of section (first_row rows) → (b : Bool) → Of section (if b then Some (r.section, r.reason) else first_row rows)
    by later true = a.0
    by later false = later

-- the first row of two lists
abbrev or_line : Line → Line → Line
or_line None o = o
or_line (Some line) o = Some line

first_append : (xs ys : List Row) → first_row (xs ++ ys) ≡ or_line (first_row xs) (first_row ys)
first_append [] ys = refl
first_append (x ∷ xs) ys = by (first_append xs ys) x.taken
  where
    by : first_row (xs ++ ys) ≡ or_line (first_row xs) (first_row ys) → (b : Bool)
        → (if b then Some (x.section, x.reason) else first_row (xs ++ ys)) ≡ or_line (if b then Some (x.section, x.reason) else first_row xs) (first_row ys)
    by later true = refl
    by later false = later

-- neither a footer nor a subsection head
pub foot_row : (j : ℕ) (k : Known) (b : ℕ) → first_row (alone (AfterFields j Footed) k (Mark b)) ≡ Some (k.section, reasons.BadFooter)
foot_row j k b = simp and-false refl

-- ---- a unit that is invalid by itself belongs to the open section

module _ (k : Known) where
  abbrev OfOpen : Due → Found → Type 0
  OfOpen d (Whole x n) = Of k.section (first_row (alone d k x))
  OfOpen d Cut = Unit {0}

  whole : (d : Due) (rest : List ℕ) (m : ℕ) (x : Piece) → Of k.section (first_row (alone d k x)) → OfOpen d (needs m rest x)
  whole d rest m x h = if_so (OfOpen d) (nat_lt (length rest) m) Cut (Whole x m) (λ e. tt) (λ e. h)

  two_rows : (a b : Bool) (p q : Reason) → Of k.section (if a then Some (k.section, p) else if b then Some (k.section, q) else None)
  two_rows false false p q = tt
  two_rows _ _ p q = refl

  in_field : (j : ℕ) (slot : Slot) (rest : List ℕ) → OfOpen (Field j slot) (unit_at (Field j slot) rest)
  in_field j slot rest = grind (arith, whole, two_rows)

  mark_of : (j : ℕ) (t : Tail) (b : ℕ) → is_foot t b ≡ true → (b == 0x7e) ≡ false → Of k.section (first_row (alone (AfterFields j t) k (Mark b)))
  mark_of j Footed b h g = rw (foot_row j k b) refl
  mark_of j _ b h g = cc

  behind_of : (j : ℕ) (t : Tail) (b : ℕ) (rest : List ℕ) → is_next t b ≡ false → OfOpen (AfterFields j t) (behind_at t b rest)
  unfolding behind_at
  behind_of j t b rest h = grind (arith, if_so, sub_at, whole, two_rows, mark_of)

  after_of : (j : ℕ) (t : Tail) (rest : List ℕ) → begins_next t rest ≡ false → OfOpen (AfterFields j t) (unit_at (AfterFields j t) rest)
  unfolding behind_at between_at
  after_of j t rest h = grind (arith, behind_of)

  -- and a cut one belongs to it
  record Concerned (d : Due) (rest : List ℕ) : Type 0 where
    bad : OfOpen d (unit_at d rest)
    cut : cut_in d rest k.section ≡ k.section

  outside : (d : Due) (rest : List ℕ) → k.section ≡ None → ((o : Option ℕ) → cut_in d rest o ≡ o) → Concerned d rest
  outside d rest n c = search (arith, of_first, alone)

  inside : (t : Tail) (j : ℕ) (slots : List Slot) (rest : List ℕ) → begins_section (due_field t (Some j) slots) rest ≡ false
      → Concerned (due_field t (Some j) slots) rest
  inside t j [] rest h = record { bad = after_of j t rest h; cut = rw h }
  inside t j (RuleSlot b ∷ slots) rest h = inside t j slots rest h
  inside t j (FillerSlot zero ∷ slots) rest h = inside t j slots rest h
  inside t j (FillerSlot (suc n) ∷ slots) rest h = record { bad = in_field j (FillerSlot (suc n)) rest; cut = refl }
  inside t j (NumberSlot c kind caps ∷ slots) rest h = record { bad = in_field j (NumberSlot c kind caps) rest; cut = refl }
  inside t j (ConstantSlot kind z ∷ slots) rest h = record { bad = in_field j (ConstantSlot kind z) rest; cut = refl }

concerned_at : (set : Set) (s : State) (p : Spot) (rest : List ℕ) → s.spot ≡ p → begins_section (due_by set s p) rest ≡ false
    → Concerned (known_at set s) (due_by set s p) rest
concerned_at set s (Inside k id part n) rest e b = inside (known_at set s) s.tail k (slots_at set s (Inside k id part n)) rest b
concerned_at set s Before rest e b = outside _ AMagic rest (ap open_at e) (λ o. refl)
concerned_at set s Headed rest e b = outside _ _ rest (ap open_at e) (λ o. refl)
concerned_at set s (Free first c) rest e b = outside _ _ rest (ap open_at e) (λ o. refl)
concerned_at set s Ended rest e b = outside _ _ rest (ap open_at e) (λ o. refl)
concerned_at set s IsOver rest e b = outside _ _ rest (ap open_at e) (λ o. refl)

-- ---- the judge

module _ (set : Set) (names : List (List ℕ)) (s : State) (rest : List ℕ) where
  abbrev d : Due
  d = due_by set s s.spot

  abbrev k : Known
  k = known_at set s

  by_line : (x : Piece) (n : ℕ) (o : Line) → Of k.section o
      → by_row (by_state set names) (or_line o (first_row (asking set names k x))) n (after set s x) ≡ judge_seen k.section (ask set names s) rest
      (seen_by o x n)
  by_line x n None h = refl
  by_line x n (Some (section, reason)) h = rw h

  by_found : (f : Found) → OfOpen k d f → cut_in d rest k.section ≡ k.section → owes d rest ≡ true
      → judge_found (by_state set names) s rest f ≡ judge_seen k.section (ask set names s) rest (seen_in d k f)
  by_found (Whole x n) h c o = rw (first_append _ _) (by_line x n _ h)
  by_found Cut h c o = rw (o, c)

pub judged_holds : JudgedLaw
judged_holds set names s rest held o b = grind (arith, concerned_at, if_true, rules_hold, by_state, due_by, by_found)

pub next_holds : NextLaw
next_holds set names machine images came k id part n tail rest due held e = next_judged set names machine images came k id part n tail rest e due held

-- ---- what a call asks

-- rows that differ in their sections alone
abbrev Alike : List Row → List Row → Type 0
Alike [] [] = Unit {0}
Alike (r ∷ rows) (s ∷ others) = (r.taken ≡ s.taken) × (r.reason ≡ s.reason) × Alike rows others
Alike [] (s ∷ others) = ⊥
Alike (r ∷ rows) [] = ⊥

alike_seen : (rows others : List Row) (x : Piece) (n : ℕ) → Alike rows others → seen_by (first_row rows) x n ≡ seen_by (first_row others) x n
alike_seen [] [] x n a = refl
alike_seen (r ∷ rows) (s ∷ others) x n a = rw a.0 (by (alike_seen rows others x n a.2) s.taken)
  where
    by : seen_by (first_row rows) x n ≡ seen_by (first_row others) x n → (b : Bool)
        → seen_by (if b then Some (r.section, r.reason) else first_row rows) x n ≡ seen_by (if b then Some (s.section, s.reason) else first_row others) x n
    by later true = ap (Bad n) a.1
    by later false = later
alike_seen _ _ x n a = absurd a

module _ (t : Tail) (j : ℕ) (l m : Known) (id_is : l.id ≡ m.id) where
  tail_same : (t : Tail) → (is_between (AfterFields j t) ≡ is_between (AfterFields 0 t)) × (wants_foot (AfterFields j t) ≡ wants_foot (AfterFields 0 t))
  tail_same Unknown = (refl, refl)
  tail_same _ = (refl, refl)

  other_same : (x : Piece) → other_constant x (AfterFields j t) ≡ other_constant x (AfterFields 0 t)
  other_same (Constant kind y) = refl
  other_same x = refl

  large_same : (x : Piece) → large_count x (AfterFields j t) ≡ large_count x (AfterFields 0 t)
  large_same (Number c kind z) = refl
  large_same x = refl

  foot_same : (x : Piece) → bad_foot (AfterFields j t) l x ≡ bad_foot (AfterFields 0 t) m x
  foot_same x = grind (arith, tail_same)

  rows_alike : (x : Piece) → Alike (alone (AfterFields j t) l x) (alone (AfterFields 0 t) m x)
  rows_alike x = rw ((tail_same t).0, other_same x, large_same x, foot_same x) search

same_seen : (t : Tail) (j : ℕ) (l m : Known) → l.id ≡ m.id → (f : Found) → seen_in (AfterFields j t) l f ≡ seen_in (AfterFields 0 t) m f
same_seen t j l m e Cut = refl
same_seen t j l m e (Whole x n) = alike_seen (alone (AfterFields j t) l x) (alone (AfterFields 0 t) m x) x n (rows_alike t j l m e x)

pub seen_holds : SeenLaw
seen_holds t j l m rest e = same_seen t j l m e (unit_at (AfterFields j t) rest)
