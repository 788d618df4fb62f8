-- The steps of the chip.
use Rattle.std.specs.Prelude.{ℕ, ◌-◌, ◌<◌, ◌≤◌, ◌==◌, Bool, ◌&&◌, nat_le, if◌then◌else◌, [], ◌∷◌, slice_index_or, slice_set}
use Rattle.dev_pit.specs.Control.{control_word}
use Rattle.dev_pit.specs.Counter.{LoadedBy, powered_on, read_of, written, out_of, edge_of, latched, programmed, read_back}
use Rattle.dev_pit.specs.declared.control.ControlWord.{ControlWord}
use Rattle.dev_pit.specs.declared.control.ControlWord.TheVariants.{LatchCount, SetMode, ReadBack}
use Rattle.dev_pit.specs.declared.counter.Counter.{Counter}
use Rattle.dev_pit.specs.declared.limits.TheConstants.{READ_BACK_LEVEL}
use Rattle.dev_pit.specs.declared.pit.Pit.{Pit}

-- `IsPort port`: the port is one of the three counters' or the control port.
abbrev pub IsPort : ℕ → Type 0
IsPort port = (0x40 ≤ port) × (port ≤ 0x43)

-- `counter_of k pit` is the counter `k`, 0 to 2.
abbrev pub counter_of : ℕ → Pit → Counter
counter_of k pit = slice_index_or pit.counters k powered_on

-- `with_counter k counter pit` is the chip with `counter` in place of its counter `k`.
abbrev pub with_counter : ℕ → Counter → Pit → Pit
with_counter k counter pit = record pit { counters = slice_set pit.counters k counter }

-- `IsLoadedBy now pit`: no counter was loaded after the moment `now`.
abbrev pub IsLoadedBy : ℕ → Pit → Type 0
IsLoadedBy now pit = (k : ℕ) → k < 3 → LoadedBy now (counter_of k pit).loaded_at

-- `new_pit level` is the chip at power on.
unfoldable pub new_pit : ℕ → Pit
new_pit level = record { level = level; counters = powered_on ∷ powered_on ∷ powered_on ∷ [] }

-- `pit_read k now pit` is the byte that a read of counter `k` returns, and the chip after it.
unfoldable pub pit_read : ℕ → ℕ → Pit → ℕ × Pit
pit_read k now pit = let answer = read_of now (counter_of k pit) in (answer.0, with_counter k answer.1 pit)

-- `asked_back count status k now pit` is the chip after counter `k` has latched its count, its
-- status or both (8254 data sheet, "Read-Back Command").
unfoldable pub asked_back : Bool → Bool → ℕ → ℕ → Pit → Pit
asked_back count status k now pit = with_counter k (read_back count status now (counter_of k pit)) pit

-- `controlled word now pit` is the chip after a control word; an 8253 has no read-back command.
unfoldable pub controlled : ControlWord → ℕ → Pit → Pit
controlled (LatchCount k) now pit = with_counter k (latched now (counter_of k pit)) pit
controlled (SetMode k access mode bcd) now pit = with_counter k (programmed access mode bcd (counter_of k pit)) pit
controlled (ReadBack count status first second third) now pit =
    if nat_le READ_BACK_LEVEL pit.level
    then asked_back (count && third) (status && third) 2 now (asked_back (count && second) (status && second) 1 now (asked_back (count && first) (status && first) 0 now pit))
    else pit

-- `pit_written port value now pit` is the chip after a byte is written to a counter's port or to
-- the control port.
unfoldable pub pit_written : ℕ → ℕ → ℕ → Pit → Pit
pit_written port value now pit =
    if port == 0x43 then controlled (control_word value) now pit else with_counter (port - 0x40) (written value now (counter_of (port - 0x40) pit)) pit

-- `pit_out k now pit` is OUT of counter `k`.
unfoldable pub pit_out : ℕ → ℕ → Pit → Bool
pit_out k now pit = out_of (counter_of k pit) now

-- `pit_edge k from to pit` tells whether OUT of counter `k` has a rising edge after `from` and not
-- after `to`.
unfoldable pub pit_edge : ℕ → ℕ → ℕ → Pit → Bool
pit_edge k from to pit = edge_of (counter_of k pit) from to
