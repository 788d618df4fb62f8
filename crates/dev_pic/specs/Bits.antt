-- An 8-bit register as a set of inputs: bit i is input i.
use Rattle.std.specs.Prelude.{ℕ, ◌-◌, ◌^◌, bit_and, bit_or}

-- `with_input register input` is the register with the input in it.
unfoldable pub with_input : ℕ → ℕ → ℕ
with_input register input = bit_or register (2 ^ input)

-- `but_not register other` is the set of the inputs of `register` that aren't in `other`.
unfoldable pub but_not : ℕ → ℕ → ℕ
but_not register other = bit_and register (255 - other)

-- `without_input register input` is the register without the input.
unfoldable pub without_input : ℕ → ℕ → ℕ
without_input register input = but_not register (2 ^ input)
