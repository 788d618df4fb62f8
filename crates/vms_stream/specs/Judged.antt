-- The result of a cursor's call decides the judge's verdict, except for the rows that need the set, the
-- machines or the units so far.
use Rattle.std.specs.Prelude.{◌≡◌, ℕ, Bool, true, false, List, length, Option}
use Rattle.vms_spec.specs.declared.Reason.TheVariants as reasons
use Rattle.vms_spec.specs.Sets.{Set}
use Rattle.vms_spec.specs.Images.{Image}
use Rattle.vms_spec.specs.Readings.{Verdict, Faulty}
use Rattle.vms_spec.specs.Units.{Piece}
use Rattle.vms_stream.specs.SoFar.{Tail, Bare, Known}
use Rattle.vms_stream.specs.Dues.{Due, AfterFields, begins_next, rules_hold}
use Rattle.vms_stream.specs.Table.{first_row, asking}
use Rattle.vms_stream.specs.Seen.{Seen, Good, Bad, Short, seen}
use Rattle.vms_stream.specs.Judge.{judge, by_row, owes}
use Rattle.vms_stream.specs.State.{State, Free, Inside, open_at, slots_at, due_by, known_at, after, by_state}

-- `judge_seen section go rest seen` is the verdict by what a call returns. An invalid or cut unit belongs to
-- `section`; `go` judges a good unit further.
abbrev pub judge_seen : Option ℕ → (Piece → ℕ → Verdict State) → List ℕ → Seen → Verdict State
judge_seen section go rest (Good x n) = go x n
judge_seen section go rest (Bad n reason) = Faulty section reason n
judge_seen section go rest Short = Faulty section reasons.Truncated (length rest)

-- `ask set names s x n` is the verdict by the rest of the table: the rows of `asking`.
abbrev pub ask : Set → List (List ℕ) → State → Piece → ℕ → Verdict State
ask set names s x n = by_row (by_state set names) (first_row (asking set names (known_at set s) x)) n (after set s x)

-- `begins_section d rest` is whether a unit between sections begins directly after the fields.
abbrev pub begins_section : Due → List ℕ → Bool
begins_section (AfterFields k tail) rest = begins_next tail rest
begins_section d rest = false

-- Says `judge` by `seen` and `ask`, if a unit must come and none between sections begins directly after
-- fields.
abbrev pub JudgedLaw : Type 0
JudgedLaw = (set : Set) (names : List (List ℕ)) (s : State) (rest : List ℕ) → rules_hold (slots_at set s s.spot) ≡ true → owes (due_by set s s.spot) rest ≡ true → begins_section (due_by set s s.spot) rest ≡ false
    → judge (by_state set names) s rest ≡ judge_seen (open_at s.spot) (ask set names s) rest (seen (due_by set s s.spot) (known_at set s) rest)

-- A unit between sections directly after the fields is judged as between sections, in a bare stream.
abbrev pub NextLaw : Type 0
NextLaw = (set : Set) (names : List (List ℕ)) (machine : Option (List ℕ)) (images : List Image) (came : List Bool) (k id : ℕ) (part : Option ℕ) (n : ℕ) (tail : Tail) (rest : List ℕ)
    → due_by set (record { machine = machine; images = images; came = came; tail = tail; spot = Inside k id part n }) (Inside k id part n) ≡ AfterFields k tail
    → rules_hold (slots_at set (record { machine = machine; images = images; came = came; tail = tail; spot = Inside k id part n }) (Inside k id part n)) ≡ true
    → begins_next tail rest ≡ true
    → judge (by_state set names) (record { machine = machine; images = images; came = came; tail = tail; spot = Inside k id part n }) rest
    ≡ judge (by_state set names) (record { machine = machine; images = images; came = came; tail = Bare; spot = Free false false }) rest

-- The call after fields depends only on the id of the open section, and on no device's number.
abbrev pub SeenLaw : Type 0
SeenLaw = (tail : Tail) (k : ℕ) (l m : Known) (rest : List ℕ) → l.id ≡ m.id → seen (AfterFields k tail) l rest ≡ seen (AfterFields 0 tail) m rest
