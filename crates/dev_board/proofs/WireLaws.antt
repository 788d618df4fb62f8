-- The inputs of the pair, bit by bit, and the wires among them.
use Rattle.dev_board.proofs.Facade
use Facade.{◌≡◌, ◌≢◌, ℕ, ◌-◌, ◌<◌, ◌^◌, Bool, true, false, ◌&&◌, arith, bit_or, refl, ap, sym, ◌∙◌, false≢true, nat_tests}
use Facade.{and_le_l, and_le_r, or_of_16, pow_below, and-false, and-true, or-false, has, bits_where, has-and, has-or, has-one_other, lines_of, pit_out, line_of}
use Facade.{IsEvent, State, inputs_of, names_wire, wires_after, AreWires, is_wire, wires_of, with_wire, Event, Wire, WIRES, ◌+◌, ◌≤◌, ◌==◌, not}
use Facade.{if◌then◌else◌, ⊎_elim, cases_lt, bit_at_not, bit_at-lt, bit_at-zero, bit_at, w16, or-true, has-one, not_test, lines_are_taken, settled_pair}
use Facade.{wire_left, WiresStay, after_act, settled, step}

-- ---- the inputs of the pair, bit by bit

pub wires_of-are : (m : State) → AreWires (wires_of m)
unfolding wires_of
wires_of-are m = record {
  bound = omega (arith, and_le_r (lines_of m.pair) WIRES);
  out = has-and (lines_of m.pair) WIRES 0 ∙ and-false (has (lines_of m.pair) 0);
  serial = has-and (lines_of m.pair) WIRES 4 ∙ and-false (has (lines_of m.pair) 4);
}

pub wire-bound : (input : ℕ) → is_wire input ≡ true → input < 16
wire-bound input e = grind (arith, nat_tests)

-- A wire differs from an input that isn't one.
pub wire-other : (input other : ℕ) → is_wire input ≡ true → is_wire other ≡ false → other ≢ input
wire-other input other e f same = false≢true (sym f ∙ ap is_wire same ∙ e)

with_wire-are : (input wires : ℕ) (up : Bool) → is_wire input ≡ true → AreWires wires → AreWires (with_wire input up wires)
unfolding with_wire
with_wire-are input wires true e w = record {
  bound = or_of_16 wires (2 ^ input) w.bound (pow_below input 16 (wire-bound input e));
  out = cc (has-or wires (2 ^ input) 0, has-one_other input 0 (wire-other input 0 e refl));
  serial = cc (has-or wires (2 ^ input) 4, has-one_other input 4 (wire-other input 4 e refl));
}
with_wire-are input wires false e w = record {
  bound = omega (arith, and_le_l wires (65535 - 2 ^ input));
  out = cc (has-and wires (65535 - 2 ^ input) 0);
  serial = cc (has-and wires (65535 - 2 ^ input) 4);
}

pub wires_after-are : (event : Event) (wires : ℕ) → names_wire event ≡ true → AreWires wires → AreWires (wires_after event wires)
unfolding wires_after names_wire
wires_after-are event wires e w = grind (arith, with_wire-are)

-- If an event names a wire, it is one.
pub names : (event : Event) → IsEvent event → names_wire event ≡ true
unfolding names_wire
names event e = grind arith

-- The input of a wire's event.
pub named-bound : (event : Event) (input : ℕ) (up : Bool) → names_wire event ≡ true → event ≡ Wire input up → input < 16
unfolding names_wire
named-bound event input up e is = wire-bound input (sym (ap names_wire is) ∙ e)

-- A device's line among the inputs.
where-bit : (b : Bool) (bits place : ℕ) → has 0 place ≡ false → has (bits_where b bits) place ≡ (has bits place && b)
where-bit b bits place z = grind (arith, and-true, and-false)

pub one-lt : (b : Bool) (bit : ℕ) → bit < 2 ^ 16 → bits_where b bit < 2 ^ 16
one-lt b bit h = grind arith

module _ (wires : ℕ) (m : State) (w : AreWires wires) where
  abbrev out : Bool
  out = pit_out 0 m.moment m.pit

  abbrev line : Bool
  line = line_of m.moment m.serial

  pub inputs-lt : inputs_of wires m < 2 ^ 16
  unfolding inputs_of
  inputs-lt = or_of_16 _ _ (or_of_16 wires (bits_where out 0x01) w.bound (one-lt out 0x01 (omega arith))) (one-lt line 0x10 (omega arith))

  pub inputs-out : has (inputs_of wires m) 0 ≡ out
  unfolding inputs_of
  inputs-out =
      rw (has-or (bit_or wires (bits_where out 0x01)) (bits_where line 0x10) 0, where-bit line 0x10 0 refl, has-or wires (bits_where out 0x01) 0, w.out, where-bit out 0x01 0 refl) (or-false out)

  pub inputs-serial : has (inputs_of wires m) 4 ≡ line
  unfolding inputs_of
  inputs-serial =
      cc (has-or (bit_or wires (bits_where out 0x01)) (bits_where line 0x10) 4, where-bit line 0x10 4 refl, has-or wires (bits_where out 0x01) 4, where-bit out 0x01 4 refl)

-- ---- a wire stays as the last event that named it left it

-- The wires have the lines' level at each wire.
wires_of-wire : (m : State) (wire : ℕ) → is_wire wire ≡ true → has (wires_of m) wire ≡ has (lines_of m.pair) wire
unfolding wires_of
wires_of-wire m wire e = grind (arith, has-and, has)

has-rest : (input wire : ℕ) → input < 16 → wire < 16 → has (65535 - 2 ^ input) wire ≡ not (has (2 ^ input) wire)
has-rest input wire h l = cc (bit_at_not w16 (2 ^ input) wire (pow_below input 16 h) l, not_test (bit_at (2 ^ input) wire) (bit_at-lt (2 ^ input) wire))

-- One of them rises or falls.
named : (input wire wires : ℕ) (up : Bool) → input < 16 → wire < 16 → has (with_wire input up wires) wire ≡ (if input == wire then up else has wires wire)
unfolding with_wire
named input wire wires true h l = grind (arith, nat_tests, has, has-or, has-one, has-one_other, or-true, or-false)
named input wire wires false h l = grind (arith, nat_tests, has, has-and, has-rest, has-one, has-one_other, and-true, and-false)

left : (event : Event) (wire wires : ℕ) → wire < 16 → IsEvent event → has (wires_after event wires) wire ≡ wire_left wire event (has wires wire)
unfolding wires_after
left event wire wires l e = grind (arith, named, wire-bound)

-- No device drives a wire.
driven : (b : Bool) (input wire : ℕ) → wire ≢ input → has (bits_where b (2 ^ input)) wire ≡ false
driven b input wire n = grind (arith, has-one_other, bit_at-zero)

inputs-wire : (wires wire : ℕ) (m : State) → is_wire wire ≡ true → has (inputs_of wires m) wire ≡ has wires wire
unfolding inputs_of
inputs-wire wires wire m e =
    cc (has-or (bit_or wires (bits_where (pit_out 0 m.moment m.pit) 0x01)) (bits_where (line_of m.moment m.serial) 0x10) wire, driven (line_of m.moment m.serial) 4 wire (λ s. wire-other wire 4 e refl (sym s)), or-false (has (bit_or wires (bits_where (pit_out 0 m.moment m.pit) 0x01)) wire), has-or wires (bits_where (pit_out 0 m.moment m.pit) 0x01) wire, driven (pit_out 0 m.moment m.pit) 0 wire (λ s. wire-other wire 0 e refl (sym s)), or-false (has wires wire))

taken : (inputs edges wire : ℕ) (m : State) → inputs < 2 ^ 16 → is_wire wire ≡ true → has (lines_of (settled_pair inputs edges m.pair)) wire ≡ has inputs wire
taken inputs edges wire m bound e =
    let l : wire < 16 = wire-bound wire e in
    ⊎_elim (λ (low : wire < 8). lines_are_taken.master inputs edges wire m.pair bound low (λ s. wire-other wire 2 e refl (sym s)))
    (λ (high : 8 ≤ wire). let place : 8 + (wire - 8) ≡ wire = omega arith in
    rw place at (lines_are_taken.slave inputs edges (wire - 8) m.pair bound (omega arith))) (cases_lt wire 8)

settled-wire : (wires wire : ℕ) (edge : Bool) (m : State) → AreWires wires → is_wire wire ≡ true
    → has (lines_of (settled wires edge m).pair) wire ≡ has wires wire
unfolding settled
settled-wire wires wire edge m w e = taken (inputs_of wires m) (bits_where edge 0x01) wire m (inputs-lt wires m w) e ∙ inputs-wire wires wire m e

pub wires_stay : WiresStay
unfolding step after_act
wires_stay = search (arith, settled-wire, wires_after-are, names, wires_of-are, left, wire-bound, wires_of-wire)
