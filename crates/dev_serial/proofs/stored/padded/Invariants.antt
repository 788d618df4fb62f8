use Rattle.dev_serial.proofs.Facade.{◌≡◌, ℕ, ◌<◌, get_or, length, byte_of}
use Rattle.dev_serial.proofs.stored.padded.Given as goal

abbrev pub invariant-loop-place : goal.invariant-loop-place
invariant-loop-place l = record {
  len : length l.sixteen ≡ 16;
  set : (i : ℕ) → i < l.place → get_or l.sixteen i 0 ≡ byte_of l.bytes i;
}
