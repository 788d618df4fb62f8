-- Each call keeps a port sound.
use Rattle.dev_serial.proofs.{WaitLaws.character-positive, SoundLaws.emptied-sound, SoundLaws.thr-sound}
use Rattle.dev_serial.proofs.Facade
use Facade.{Trigger, ◌≡◌, ℕ, ◌+◌, ◌*◌, ◌<◌, ◌≤◌, ◌==◌, Bool, true, false, Option, refl, arith, ◌/◌, ◌%◌, inl, cond_both}
use Facade.{leb-true, nat_le, is_some, and_le_r, and-false, with_taken, read_of, id_read, lsr_read, thr_written, ier_written, switch_of, fcr_cleared}
use Facade.{fcr_written, receiver_cleared, transmitter_cleared, written, came_in, advanced, has, character_time, received, taken, IsSound, nat_tests}
use Facade.{LONGEST_CHARACTER, either, PowerOnIsSound, ReadsKeepSound, WritesKeepSound, BytesInKeepSound, AdvancesKeepSound, Port, power_on, mode_of}
use Rattle.dev_serial.proofs.SoundLaws.{latched-sound, cleared-sound, advance-transmitter, advance-receiver, character-longest, received-sound, taken-held}

pub power_on_is_sound : PowerOnIsSound
unfolding power_on
power_on_is_sound level now is_level = search (arith, and-false)

module _ (now : ℕ) (port : Port) (sound : IsSound now port) where
  -- an answer whose port is sound
  abbrev Kept : ℕ × Port → Type 0
  Kept answer = IsSound now answer.1

  longest : character_time port.divisor port.lcr ≤ LONGEST_CHARACTER
  longest = grind (arith, character-longest)

  id-kept : Kept (id_read now port)
  id-kept = search (arith, latched-sound, inl)

  byte-kept : Kept (with_taken port (taken (mode_of port) now port.receiver))
  byte-kept =
      let receiver = taken-held now now _ (has port.mcr 4) (omega arith) longest port.level (is_some port.fifos) _ port.receiver refl sound.receiver in search

  status-kept : Kept (lsr_read port)
  status-kept = search

  read-kept : (offset : ℕ) → Kept (read_of offset now port)
  unfolding read_of
  read-kept offset = search (arith, nat_tests, byte-kept, id-kept, status-kept)

  came-kept : (byte : ℕ) → byte < 256 → IsSound now (record port { receiver = received (mode_of port) byte now port.receiver })
  came-kept byte b =
      let receiver = received-sound now now _ byte (has port.mcr 4) _ (omega arith) longest port.level (is_some port.fifos) b sound.receiver in search

  in-kept : (byte : ℕ) → byte < 256 → IsSound now (came_in byte now port)
  unfolding came_in
  in-kept byte b = either (IsSound now) (has port.mcr 4) _ _ sound (came-kept byte b)

  thr-kept : (byte : ℕ) → byte < 256 → IsSound now (thr_written byte now port)
  unfolding thr_written
  thr-kept byte b = search (arith, thr-sound, character-positive, longest)

  divisor-kept : (divisor : ℕ) → divisor < 65536 → IsSound now (record port { divisor = divisor })
  divisor-kept divisor h = search

  ier-kept : (value : ℕ) → IsSound now (ier_written value port)
  unfolding ier_written
  ier-kept value = let range = and_le_r value 0x0f in search (arith, latched-sound, nat_tests)

  -- lists are cleared, and the switch is set
  switched : (clears_sent clears_held : Bool) (fifos : Option Trigger) → (is_some fifos ≡ true → 2 ≤ port.level) → (clears_sent ≡ false → is_some fifos ≡ is_some port.fifos) → (clears_held ≡ false → is_some fifos ≡ is_some port.fifos) → IsSound now (record (transmitter_cleared clears_sent (receiver_cleared clears_held port)) { fifos = fifos })
  switched clears_sent clears_held fifos h s t = grind (arith, emptied-sound, cleared-sound)

  fcr-kept-at : (value : ℕ) (before after : Option Trigger) → 2 ≤ port.level → port.fifos ≡ before
      → IsSound now (record (fcr_cleared before after value port) { fifos = after })
  unfolding fcr_cleared
  fcr-kept-at value before after h e = grind (arith, switched, has)

  fcr-kept : (value : ℕ) → 2 ≤ port.level → IsSound now (fcr_written value port)
  unfolding fcr_written
  fcr-kept value h = fcr-kept-at value port.fifos (switch_of value) h refl

  write-kept : (offset value : ℕ) → value < 256 → IsSound now (written offset value now port)
  unfolding written
  write-kept offset value v =
      either (IsSound now) (offset == 0) _ _
      (either (IsSound now) (has port.lcr 7) _ _ (divisor-kept (port.divisor / 256 * 256 + value) (omega arith)) (thr-kept value v))
      (either (IsSound now) (offset == 1) _ _
      (either (IsSound now) (has port.lcr 7) _ _ (divisor-kept (value * 256 + port.divisor % 256) (omega arith)) (ier-kept value))
      (either (IsSound now) (offset == 2) _ _
      (cond_both (nat_le 2 port.level) (fcr_written value port) port (IsSound now) (λ e. fcr-kept value (leb-true 2 port.level e)) (λ _. sound))
      (either (IsSound now) (offset == 3) _ _ (search)
      (either (IsSound now) (offset == 4) _ _ (let range = and_le_r value 0x1f in search)
      (either (IsSound now) (offset == 5) _ _ sound
      (either (IsSound now) (offset == 6) _ _ sound (search)))))))

pub reads_keep_sound : ReadsKeepSound
reads_keep_sound offset now port s = read-kept now port s offset

pub writes_keep_sound : WritesKeepSound
writes_keep_sound offset value now port v s = write-kept now port s offset value v

pub bytes_in_keep_sound : BytesInKeepSound
bytes_in_keep_sound byte now port b s = in-kept now port s byte b

pub advances_keep_sound : AdvancesKeepSound
unfolding advanced
advances_keep_sound now to port l s = search (arith, advance-receiver, longest, advance-transmitter)
