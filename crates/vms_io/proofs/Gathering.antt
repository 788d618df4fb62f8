-- Bytes that are buffered for a writer, and flushed.
use Rattle.vms_io.proofs.Facade.{◌≡◌, refl, append-nil, ℕ, ◌+◌, ◌-◌, ◌≤◌, List, ◌++◌, length, take, drop, Option, Some, None, Result}
use Rattle.vms_io.proofs.Facade.{Ok, Err, sym, ap, ◌∙◌, arith, append_assoc, take-append-drop, drop-drop, length-take, drop-take, drop_all}
use Rattle.vms_io.proofs.Facade.{drop-append-le, Keeps, Appends, HasCause, told, between, KeepsFront}

-- a part of the buffer, taken from its first byte
pub part_is : (room : List ℕ) (b e : ℕ) → b ≤ e → take (e - b) (drop b room) ≡ between room b e
part_is room b e le =
    let sum : b + (e - b) ≡ e = omega arith in
    rw (← drop-take b (e - b) room, sum)

-- the writer took the first n of them
pub handed : (a x y : Option (List ℕ)) (room part : List ℕ) (b e n : ℕ) → b ≤ e → part ≡ take (e - b) (drop b room)
    → Appends x y (take n part) → Keeps a (told x (between room b e)) → Keeps a (told y (between room (b + n) e))
handed None x y room part b e n le is p k = tt
handed (Some zs) None y room part b e n le is p k = absurd k
handed (Some zs) (Some xs) None room part b e n le is p k = absurd p
handed (Some zs) (Some xs) (Some ys) room part b e n le is p k =
    let whole : part ≡ between room b e = is ∙ part_is _ _ _ le in
    let rest : between room (b + n) e ≡ drop n part = sym (drop-drop n b (take e room)) ∙ ap (drop n) (sym whole) in
    rw (p, rest, append_assoc, take-append-drop, whole) k

-- if nothing is buffered, the known bytes are the writer's
pub told_empty : (x : Option (List ℕ)) (room : List ℕ) (b e : ℕ) → e ≡ 0 → told x (between room b e) ≡ x
told_empty None room b e none = refl
told_empty (Some xs) room b e none = rw (drop_all b (take e room) (omega (arith, none, length-take e room)), append-nil)

-- more bytes are buffered
pub gathers : (x : Option (List ℕ)) (room new more : List ℕ) (b e f : ℕ) → b ≤ e → e ≤ length room
    → take f new ≡ take e room ++ more → Appends (told x (between room b e)) (told x (between new b f)) more
gathers None room new more b e f le fits is = tt
gathers (Some xs) room new more b e f le fits is =
    rw (is, drop-append-le b (take e room) more (omega (arith, length-take e room)), append_assoc)

-- the writer took nothing
pub still_told : (a x y : Option (List ℕ)) (waiting : List ℕ) → Keeps x y → Keeps a (told x waiting) → Keeps a (told y waiting)
still_told a x y waiting p k = grind arith

pub later_cause : {T E : Type 0} (a b c : ℕ) (result : Result T E) → a ≤ b → HasCause b c result → HasCause a c result
later_cause a b c (Ok x) le h = record { later = omega (arith, le, h.later); failed = tt }
later_cause a b c (Err x) le h = record { later = omega (arith, le, h.later); failed = omega (arith, le, h.failed) }

-- the writer has a front of the known bytes
pub kept_front : (a x : Option (List ℕ)) (waiting : List ℕ) → Keeps a (told x waiting) → KeepsFront a x
kept_front None x waiting k = tt
kept_front (Some zs) None waiting k = absurd k
kept_front (Some zs) (Some xs) waiting k = (waiting, sym k)

-- and it stays a front if the buffered bytes are dropped
pub dropped : (x : Option (List ℕ)) (room waiting : List ℕ) → KeepsFront (told x waiting) (told x (between room 0 0))
dropped None room waiting = tt
dropped (Some xs) room waiting = (waiting, rw append-nil)
