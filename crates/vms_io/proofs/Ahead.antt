-- The bytes that a buffered reader still gives, as they are read and given.
use Rattle.vms_io.proofs.{Filling.left_split, Gathering.part_is}
use Rattle.vms_io.proofs.Facade
use Facade.{bytes_only, between, ◌≡◌, ℕ, ◌+◌, ◌-◌, ◌≤◌, List, [], ◌++◌, length, take, drop, Option, Some, None, refl, sym, ◌∙◌}
use Facade.{arith, append_assoc, drop_all, length-take, length-take-le, take-take, list_all-append, Consumes, Keeps, ahead}

-- after the front of a list of bytes there are bytes
only_after : (xs bs ys : List ℕ) → xs ≡ bs ++ ys → Consumes (bytes_only xs) (bytes_only ys) bs
only_after xs bs ys e = grind (arith, list_all-append)

-- the front of the waiting bytes is given
gives : (x : Option (List ℕ)) (waiting bs rest : List ℕ) → waiting ≡ bs ++ rest → Consumes (ahead x waiting) (ahead x rest) bs
gives None waiting bs rest e = tt
gives (Some xs) waiting bs rest e = only_after (waiting ++ xs) bs (rest ++ xs) (rw (e, append_assoc))

-- the first n waiting bytes, copied into the front of a buffer
pub given_on : (x : Option (List ℕ)) (room copied buf : List ℕ) (b e n : ℕ) → copied ≡ take ((b + n) - b) (drop b room) → b + n ≤ e → e ≤ length room
    → Consumes (ahead x (between room b e)) (ahead x (between room (b + n) e)) (take n (copied ++ buf))
given_on x room copied buf b e n is fits within =
    let less : (b + n) - b ≤ e - b = omega arith in
    let le : b ≤ e = omega arith in
    let front : copied ≡ take ((b + n) - b) (between room b e) = rw (is, ← take-take ((b + n) - b) (e - b) (drop b room) less, part_is room b e le) in
    gives x (between room b e) (take n (copied ++ buf)) (between room (b + n) e)
    (left_split (take e room) (take e room) copied buf b n refl front (omega (arith, length-take-le e room within)))

-- if nothing waits, neither before nor now, what the reader still gives is ahead
pub still_ahead : (x y z : Option (List ℕ)) (room new : List ℕ) (b e d f : ℕ) → b ≡ e → d ≡ 0 → f ≡ 0 → x ≡ y
    → Keeps (ahead y (between new d f)) z → Keeps (ahead x (between room b e)) z
still_ahead x y z room new b e d f given begun ended same k =
    rw (none_waits room b e given, same) (rw (none_waits new d f (begun ∙ sym ended)) at k)
  where
    none_waits : (room : List ℕ) (b e : ℕ) → b ≡ e → between room b e ≡ []
    none_waits room b e same = drop_all b (take e room) (omega (arith, same, length-take e room))
