-- Numbers of one kind in consecutive cells are set by their codes.
use Rattle.vms_spots.proofs.Facade.{put_from, nil_from_length, ◌≡◌, ℕ, zero, suc, ◌+◌, ◌-◌, ◌*◌, ◌<◌, ◌≤◌, List, [], ◌∷◌}
use Rattle.vms_spots.proofs.Facade.{◌++◌, length, get_or, take, drop, map, set, refl, sym, ap, ◌∙◌, arith, length-append, append_assoc, length-drop}
use Rattle.vms_spots.proofs.Facade.{length-map, length-take-le, take-append-drop, get_or_read, IsBytes, bytes_first, bytes_rest, value_taken, Kind, U8, Bool}
use Rattle.vms_spots.proofs.{SpotLaws.put_is, BufferLaws.Holds, BufferLaws.at_spot, BufferLaws.puts, RunLaws.again, RunLaws.twice, RunLaws.codes_seen}
use Rattle.vms_spots.proofs.Facade.{width, value_of, Spot, aligned, spots_from, spots_of, no_spot, kinds_of, number_at, Held, held, IsHeld, AreOne, values_of}

-- after a number of a kind the next of the kind follows without a gap
next_spot : (kind : Kind) (e : ℕ) (kinds : List Kind) (k : ℕ) → suc k < length kinds → get_or kinds k U8 ≡ kind → get_or kinds (suc k) U8 ≡ kind
    → (get_or (spots_from e kinds) (suc k) no_spot).offset ≡ (get_or (spots_from e kinds) k no_spot).offset + width kind
next_spot kind e (x ∷ (y ∷ kinds)) zero lt a b = grind (arith, again, aligned, twice)
next_spot kind e (x ∷ (y ∷ kinds)) (suc k) lt a b = next_spot kind (aligned (width x) e + width x) (y ∷ kinds) k (omega arith) a b
next_spot kind e _ k lt a b = absurd (omega arith)

module _ (spots : List Spot) (kind : Kind) (any : kind ≡ Bool → ⊥) where
  -- one more is set in place of the old one
  puts_one : {first : ℕ} {bytes : List ℕ} (before old codes after : List ℕ) → IsHeld spots bytes → first < length spots → get_or (kinds_of spots) first U8 ≡ kind
      → (get_or spots first no_spot).offset ≡ length before → width kind ≤ length old → width kind ≤ length codes → IsBytes codes → bytes ≡ before ++ (old ++ after)
      → let numbers = set (map (number_at bytes) spots) first (value_of kind (take (width kind) codes)) in
      Holds spots (record { kinds = kinds_of spots; numbers = numbers }) (before ++ (take (width kind) codes ++ (drop (width kind) old ++ after)))
  puts_one {first} {bytes} before old codes after h lt kind_is at o c ok e =
      let w = width kind in
      let s = get_or spots first no_spot in
      let code_is = take w codes in
      let behind = drop w old ++ after in
      let a = at_spot {s = s} h lt refl in
      let same : s.kind ≡ kind = a.kind ∙ kind_is in
      let read = value_taken kind code_is (length-take-le w codes c) (bytes_first w codes ok) (λ bad. any bad.0) in
      let whole : bytes ≡ before ++ (take w old ++ behind) = cc (take-append-drop w old, append_assoc (take w old) (drop w old) after) in
      let new = put_is before (take w old) code_is behind bytes s.offset w whole (sym at) (length-take-le w old o) in
      puts (before ++ (code_is ++ behind)) code_is w (value_of kind code_is) a (rw kind_is read.0) (cc (read.1, same)) (ap width (sym same)) (sym new)

  puts_all : (count first : ℕ) (before old codes after bytes : List ℕ) → IsHeld spots bytes → first + count ≤ length spots → AreOne (kinds_of spots) first count kind
      → (0 < count → (get_or spots first no_spot).offset ≡ length before) → length old ≡ count * width kind → length codes ≡ count * width kind
      → IsBytes codes → bytes ≡ before ++ (old ++ after)
      → let numbers = put_from (map (number_at bytes) spots) first (values_of kind count codes) in
      Holds spots (record { kinds = kinds_of spots; numbers = numbers }) (before ++ (codes ++ after))
  puts_all zero first before old codes after bytes h room ones at o c ok e = search (arith, nil_from_length)
  puts_all (suc count) first before old codes after bytes h room ones at o c ok e =
      let w = width kind in
      let more : suc count * w ≡ w + count * w = grind arith in
      let kinds = kinds_of spots in
      let first_code = take w codes in
      let rest = drop w codes in
      let front = before ++ first_code in
      let behind = drop w old ++ after in
      let next = before ++ (first_code ++ behind) in
      let here : get_or kinds first U8 ≡ kind = ones first (omega arith) (omega arith) in
      let start : (get_or spots first no_spot).offset ≡ length before = at (omega arith) in
      let one = puts_one before old codes after h (omega arith) here start (omega arith) (omega arith) ok e in
      let split : first_code ++ rest ≡ codes = take-append-drop w codes in
      let code_long : length first_code ≡ w = length-take-le w codes (omega arith) in
      let up : first + 1 ≡ suc first = omega arith in
      let next_at : 0 < count → (get_or spots (first + 1) no_spot).offset ≡ length front = λ some.
      let spot = next_spot kind 0 kinds first (omega (arith, length-map spots (λ (s : Spot). s.kind))) here (ones (suc first) (omega arith) (omega arith)) in
      let laid : spots ≡ spots_of kinds = h.laid in
      rw (up, length-append before first_code, code_long, laid) (cc (spot, rw laid at start)) in
      let r = puts_all count (first + 1) front (drop w old) rest after next one.held_is (omega arith) (λ k le lt. ones k (omega arith) (omega arith))
      next_at (omega (arith, length-drop w old)) (omega (arith, length-drop w codes)) (bytes_rest first_code rest (rw split ok)) (sym (append_assoc before first_code behind)) in
      let numbers_are = ap (λ (x : Held). x.numbers) one.seen_is in
      let all : front ++ (rest ++ after) ≡ before ++ (codes ++ after) = cc (append_assoc before first_code (rest ++ after), append_assoc first_code rest after) in
      rw (numbers_are, all) at r

-- in a buffer, by what contracts see
pub puts_codes : {spots : List Spot} {bytes : List ℕ} {first count : ℕ} {kind : Kind} {s : Spot} {seen : Held} (new codes : List ℕ) (n : ℕ) → held spots bytes ≡ seen
    → IsHeld spots bytes → 0 < count → first + count ≤ length seen.numbers → AreOne seen.kinds first count kind → (kind ≡ Bool → ⊥)
    → length codes ≡ count * width kind → IsBytes codes → s ≡ get_or spots first s → n ≡ length codes
    → new ≡ take s.offset bytes ++ (codes ++ drop n (drop s.offset bytes))
    → Holds spots (record seen { numbers = put_from seen.numbers first (values_of kind count codes) }) new
puts_codes {spots} {bytes} {first} {count} {kind} {s} new codes n same h some room ones any long ok is size e =
    let all : first + count ≤ length (map (number_at bytes) spots) = rw (← same) at room in
    let within : first + count ≤ length spots = omega (arith, length-map spots (number_at bytes)) in
    let inside : s.offset + count * width kind ≤ length bytes = (codes_seen same h some room ones is).0 in
    let is_at : s ≡ get_or spots first no_spot = get_or_read spots first s (omega arith) is no_spot in
    let before = take s.offset bytes in
    let left = drop s.offset bytes in
    let left_long : length left ≡ length bytes - s.offset = length-drop s.offset bytes in
    let start : (get_or spots first no_spot).offset ≡ length before = rw (← is_at) (sym (length-take-le s.offset bytes (omega arith))) in
    let old_long : length (take n left) ≡ count * width kind = length-take-le n left (omega arith) ∙ size ∙ long in
    let whole : bytes ≡ before ++ (take n left ++ drop n left) = cc (take-append-drop n left, take-append-drop s.offset bytes) in
    rw (← same, e)
    (puts_all spots kind any count first before (take n left) codes (drop n left) bytes h within (rw (← same) at ones) (λ more. start) old_long long ok whole)
