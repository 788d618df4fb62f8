-- Worked rows: small sets, and the serial port of two shipped sets.
use Rattle.vms_convert.proofs.Facade
use Facade.{◌≡◌, ℕ, suc, List, [], ◌∷◌, ◌++◌, get_or, map, replicate, Option, Some, None, ℤ, pos, negsuc, codes, range_with_len, U8, Num}
use Facade.{Unused, One, Counted, Field, Sub, Device, Set, set_1, set_2, set_4, serial, serial_fields, divider, divisor, fcr, thr_ipending, fifo, timeout, ring}
use Facade.{never, i8254_at_1, i8254_at_2, first, device_cells, has_cell, image_slots, carried_device, image_of, taken, whole, device_partners}
use Rattle.vms_spec.specs.Layout.{Cell as OneCell}

abbrev number : List ℕ → Field
number name = record { name = name; former = []; item = Num U8; count = One; since = 0; test = None; default = pos 0 }

abbrev box : ℕ → List Field → List Sub → Device
box version fields subs =
    record { instance = 0; desc = record { name = codes "box"; version = version; minimum = 1; fields = fields; validate = [] }; subs = subs }

abbrev lab : Device → Set
lab d = record { machines = codes "lab" ∷ []; structs = []; devices = d ∷ [] }

-- the number that each cell takes, where `now` determines which cells are in the bytes
abbrev taken_from : Set → Device → List (Option ℕ) → List ℤ → List ℤ → ℕ → List OneCell → List ℤ
taken_from to d partners numbers now c [] = []
taken_from to d partners numbers now c (cell ∷ cells) =
    taken numbers cell (has_cell (image_slots to d (whole d now)) c) (get_or partners c None) ∷ taken_from to d partners numbers now (suc c) cells

abbrev taken_by : (to new : Set) → (d e : Device) → List ℤ → List ℤ → List ℤ
taken_by to new d e numbers now = taken_from to d (device_partners to new d e) numbers now 0 (device_cells to d)

-- ---- two fields, the first of which has another name now, before one that came later

abbrev pair : Device
pair = box 1 (number (codes "a") ∷ number (codes "b") ∷ []) []

abbrev renamed : Device
renamed = box 2 (record (number (codes "c")) { former = codes "a" ∷ [] } ∷ number (codes "b") ∷ record (number (codes "d")) { since = 2 } ∷ []) []

-- ---- a number whose bytes are unused now

abbrev covered : Device
covered = box 1 (number (codes "a") ∷ record (number (codes "gap")) { item = Unused 1 } ∷ []) []

-- ---- a count above the older capacity isn't taken, so none of its elements is in the bytes

abbrev counted : ℕ → Device
counted most = box 1 (number (codes "n") ∷ record (number (codes "v")) { count = Counted 0 most } ∷ []) []

record BoxRows : Type 0 where
  renamed_partners : device_partners (lab pair) (lab renamed) pair renamed ≡ Some 0 ∷ Some 1 ∷ []
  covered_partners : device_partners (lab pair) (lab covered) pair covered ≡ Some 0 ∷ None ∷ []
  covered_taken : taken_by (lab pair) (lab covered) pair covered (pos 7 ∷ []) (pos 7 ∷ pos 0 ∷ []) ≡ pos 7 ∷ pos 0 ∷ []
  counted_partners : device_partners (lab (counted 2)) (lab (counted 4)) (counted 2) (counted 4) ≡ Some 0 ∷ Some 1 ∷ Some 2 ∷ []
  too_many : taken_by (lab (counted 2)) (lab (counted 4)) (counted 2) (counted 4) (pos 3 ∷ pos 10 ∷ pos 11 ∷ pos 12 ∷ pos 0 ∷ []) (pos 0 ∷ pos 0 ∷ pos 0 ∷ [])
      ≡ pos 0 ∷ pos 0 ∷ pos 0 ∷ []
  few_enough : taken_by (lab (counted 2)) (lab (counted 4)) (counted 2) (counted 4) (pos 1 ∷ pos 10 ∷ pos 0 ∷ pos 0 ∷ pos 0 ∷ []) (pos 1 ∷ pos 10 ∷ pos 0 ∷ [])
      ≡ pos 1 ∷ pos 10 ∷ pos 0 ∷ []
  -- the first of them is lost: carried to the newer set again the count is 0
  count_is_lost : (carried_device (lab (counted 2)) (lab (counted 4)) (counted 2) (counted 4)
      (image_of (lab (counted 2)) (counted 2) (pos 0 ∷ pos 0 ∷ pos 0 ∷ []))).numbers ≡ replicate 5 (pos 0)

box_rows : BoxRows
unfolding device_partners first
box_rows = search

-- ---- the serial port

abbrev serial_at_1 : Device
serial_at_1 = serial 1 (divider ∷ serial_fields) (thr_ipending ∷ [])

abbrev serial_at_2 : Device
serial_at_2 = serial 2 (divider ∷ serial_fields ++ fcr ∷ []) (thr_ipending ∷ fifo ∷ [])

abbrev serial_at_4 : Device
serial_at_4 = serial 4 (divisor ∷ serial_fields ++ fcr ∷ []) (thr_ipending ∷ fifo ∷ timeout ∷ ring ∷ [])

abbrev some_from : ℕ → ℕ → List (Option ℕ)
some_from a n = map (λ (k : ℕ). Some k) (range_with_len a n)

-- one byte is held, and its timeout runs
abbrev held : ℤ → List ℤ
held timeout_at =
    pos 12 ∷ pos 0 ∷ pos 1 ∷ pos 0 ∷ pos 0 ∷ pos 97 ∷ pos 0 ∷ pos 0 ∷ pos 0 ∷ pos 0 ∷ pos never ∷ pos 1 ∷ negsuc 0 ∷ []
    ++ (pos 1 ∷ pos 65 ∷ replicate 32 (pos 0)) ++ timeout_at ∷ replicate 36 (pos 0)

abbrev held_back : List ℤ
held_back =
    pos 12 ∷ pos 0 ∷ pos 1 ∷ pos 0 ∷ pos 0 ∷ pos 97 ∷ pos 0 ∷ pos 0 ∷ pos 0 ∷ pos 0 ∷ pos never ∷ pos 1 ∷ negsuc 0 ∷ []
    ++ (pos 1 ∷ pos 65 ∷ replicate 32 (pos 0))

record PortRows : Type 0 where
  port_1 : device_partners set_1 set_4 serial_at_1 serial_at_4 ≡ some_from 0 11 ++ some_from 12 1
  port_2 : device_partners set_2 set_4 serial_at_2 serial_at_4 ≡ some_from 0 47
  held_taken : taken_by set_2 set_4 serial_at_2 serial_at_4 (held (pos 5)) held_back ≡ held_back
  -- the FIFO is needed and the latch is not; carried to the newest set again, all is there but the timeout
  held_image : (image_of set_2 serial_at_2 held_back).came ≡ None ∷ Some 1 ∷ []
  timeout_is_lost : (carried_device set_2 set_4 serial_at_2 serial_at_4 (image_of set_2 serial_at_2 held_back)).numbers ≡ held (pos never)
  -- structures: the timer chip's three counters, cell by cell
  chip_1 : device_partners set_1 set_4 i8254_at_1 i8254_at_2 ≡ some_from 0 33

port_rows : PortRows
unfolding device_partners first
port_rows = search
