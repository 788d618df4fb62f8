-- What each port reaches.
use Rattle.dev_board.proofs.Facade.{◌≡◌, ◌≢◌, ℕ, ◌-◌, ◌<◌, ◌≤◌, ◌==◌, ◌⊎◌, Bool, true, false, ◌&&◌, ◌||◌}
use Rattle.dev_board.proofs.Facade.{if◌then◌else◌, refl, ◌∙◌, arith, sym, subst, ⊎_elim, and-false, nat_le, nat_tests, is_port, PortsAre}
use Rattle.dev_board.proofs.Facade.{target_of, Target, Pair, Counter, Control, Register, Nothing, IsPort, HasDevices, State}

-- What a port reaches that isn't the pair's.
abbrev other : ℕ → Target
other port =
    if nat_le 0x40 port && nat_le port 0x42 then Counter (port - 0x40)
    else (if port == 0x43 then Control
    else (if nat_le 0x3f8 port && nat_le port 0x3ff then Register (port - 0x3f8)
    else Nothing))

by_pair : (level port : ℕ) (own : Bool) → is_port level port ≡ own → target_of level port ≡ (if own then Pair else other port)
unfolding target_of
by_pair level port own is = rw is refl

-- It is none of these ports, at any level.
none_of : (a b c d e f since : Bool) → a ≡ false → b ≡ false → c ≡ false → d ≡ false → e ≡ false → f ≡ false → (a || b || c || d || (since && (e || f))) ≡ false
none_of a b c d e f since p q r s t u = rw (p, q, r, s, t, u, and-false since) refl

not_pair : (level port : ℕ) → port ≢ 0x20 → port ≢ 0x21 → port ≢ 0xa0 → port ≢ 0xa1 → port ≢ 0x4d0 → port ≢ 0x4d1 → is_port level port ≡ false
not_pair level port a b c d e f = grind (arith, none_of)

-- A port between two chips', or after both and before their level registers, isn't the pair's.
between : (level port : ℕ) → (0x21 < port) × (port < 0xa0) ⊎ (0xa1 < port) × (port < 0x4d0) → target_of level port ≡ other port
between level port e = grind (arith, by_pair, not_pair)

counter_of : (port counter : ℕ) → 0x40 ≤ port → port ≤ 0x42 → port - 0x40 ≡ counter → other port ≡ Counter counter
counter_of port counter low high back = grind arith

register_of : (port offset : ℕ) → 0x3f8 ≤ port → port ≤ 0x3ff → port - 0x3f8 ≡ offset → other port ≡ Register offset
register_of port offset low high back = grind arith

-- A port below or above a range isn't in it.
out_of : (low high port : ℕ) → (port < low) ⊎ (high < port) → (nat_le low port && nat_le port high) ≡ false
out_of low high port outside = grind (arith, and-false)

wider : (port : ℕ) → (port < 0x40) ⊎ (0x43 < port) → (port < 0x40) ⊎ (0x42 < port)
wider port outside = grind arith

pub ports_are : PortsAre
ports_are = record {
  pair = λ level port is. rw (by_pair level port true is);
  counter = λ level counter m. grind (arith, between, counter_of);
  control = λ level. grind (arith, between);
  register = λ level offset m. grind (arith, between, register_of);
  nothing = λ level port own timer serial. grind (arith, by_pair, out_of, wider);
}

-- ---- what is known of a port that reaches a target

-- What is known of a port that reaches a target.
abbrev pub IsReached : ℕ → ℕ → Target → Type 0
IsReached level port Pair = is_port level port ≡ true
IsReached level port (Counter counter) = (counter < 3) × IsPort port
IsReached level port Control = IsPort port
IsReached level port (Register offset) = offset ≤ 7
IsReached level port Nothing = Unit {0}

control-port : (port : ℕ) → (port == 0x43) ≡ true → IsPort port
control-port port e = (grind (arith, nat_tests), grind (arith, nat_tests))

register-port : (port : ℕ) → (nat_le 0x3f8 port && nat_le port 0x3ff) ≡ true → port - 0x3f8 ≤ 7
register-port port e = grind (arith, nat_tests)

reached : (level port : ℕ) → IsReached level port (target_of level port)
unfolding target_of
reached level port = grind (arith, control-port, register-port)

-- The same for what a call returned and a match found.
pub reached_as : (level port : ℕ) (target found : Target) → target ≡ target_of level port → target ≡ found → IsReached level port found
reached_as level port target found e is = subst (IsReached level port) (sym e ∙ is) (reached level port)

-- The pair's own port, by the pair's level.
pub pair_port : (m now : State) (port : ℕ) (target : Target) → HasDevices m → m ≡ now → target ≡ target_of now.level port → target ≡ Pair
    → is_port m.pair.level port ≡ true
pair_port m now port target h view e is = cc (reached_as now.level port target Pair e is)

-- A port of the timer chip.
pub pit_port : (level port : ℕ) (target : Target) → target ≡ target_of level port → ((counter : ℕ) × (target ≡ Counter counter)) ⊎ (target ≡ Control)
    → IsPort port
pit_port level port target e is =
    ⊎_elim (λ counter. (reached_as level port target (Counter counter.0) e counter.1).1) (λ control. reached_as level port target Control e control) is
