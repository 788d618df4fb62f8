-- The FIFOs in a stream: a count with sixteen bytes, and a ring.
use Rattle.std.specs.Prelude.{ℕ, ◌+◌, ◌-◌, ◌%◌, ◌==◌, Bool, nat_le, nat_lt, ◌&&◌, ◌||◌, not, List, length, min, slice_index_or}
use Rattle.std.specs.List.{range_with_len, list_all}
use Rattle.dev_base.specs.Cells.{firsts}
use Rattle.dev_serial.specs.declared.fifo.TheConstants.{FIFO_BYTES}
use Rattle.dev_serial.specs.declared.stored.Counted.{Counted}
use Rattle.dev_serial.specs.declared.stored.Ring.{Ring}

-- The byte at index `place`, or 0 after the last.
abbrev pub byte_of : List ℕ → ℕ → ℕ
byte_of bytes place = slice_index_or bytes place 0

-- The bytes of the list followed by zeros, sixteen in all.
abbrev pub padded : List ℕ → List ℕ
padded bytes = firsts FIFO_BYTES (byte_of bytes)

-- The counted array of a list.
abbrev pub counted_of : List ℕ → Counted
counted_of bytes = record { count = length bytes; bytes = padded bytes }

-- The bytes that a counted array holds.
abbrev pub counted_bytes : Counted → List ℕ
counted_bytes array = firsts (min array.count FIFO_BYTES) (byte_of array.bytes)

-- The ring of a list, which begins at element 0.
abbrev pub ring_of : List ℕ → Ring
ring_of bytes = record { elements = padded bytes; head = 0; number = length bytes }

-- The bytes that a ring holds. Byte i is element (head + i) modulo 16, for i below the lesser of
-- its number and 16.
abbrev pub ring_bytes : Ring → List ℕ
ring_bytes ring = firsts (min ring.number FIFO_BYTES) (λ i. byte_of ring.elements ((ring.head + i) % FIFO_BYTES))

-- The distance of an element from the head, with wrap-around.
abbrev pub behind_head : Ring → ℕ → ℕ
behind_head ring place = (place + FIFO_BYTES - ring.head) % FIFO_BYTES

-- Whether an element is held or 0.
abbrev pub is_held_or_zero : Ring → ℕ → Bool
is_held_or_zero ring place = nat_lt (behind_head ring place) ring.number || (byte_of ring.elements place == 0)

-- Whether a ring is valid: head is at most 15 and number at most 16, head is 0 if number is 0, and
-- the elements that aren't held are 0.
unfoldable pub ring_holds : Ring → Bool
ring_holds ring =
    nat_le ring.head 15 && (nat_le ring.number FIFO_BYTES && ((not (ring.number == 0) || (ring.head == 0)) && list_all (is_held_or_zero ring) (range_with_len 0 FIFO_BYTES)))
