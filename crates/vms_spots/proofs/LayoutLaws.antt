-- Spots that are laid out in order.
use Rattle.vms_spots.proofs.Facade.{◌≡◌, Some, ℕ, ◌+◌, ◌-◌, ◌*◌, ◌<◌, ◌≤◌, List, [], ◌∷◌, ◌++◌, length, get_or, drop}
use Rattle.vms_spots.proofs.Facade.{arith, append_assoc, append-nil, drop_all, drop_more, length-map, slice_get_within, get_or_from_slice_get, slice_get}
use Rattle.vms_spots.proofs.Facade.{MOST_ITEMS, Kind, width, MOST_BYTES, Spot, aligned, spots_from, spots_of, bytes_of, no_spot, kinds_of}
use Rattle.vms_spots.proofs.SpotLaws.{aligned_is, kinds_are, last_end, end_small}

-- the spots so far and the remaining ones are the whole
pub record LaidOut (kinds : List Kind) (spots : List Spot) (end i : ℕ) : Type 0 where
  pub small : end ≤ 8 * i
  pub rest : spots ++ spots_from end (drop i kinds) ≡ spots_of kinds

pub goes : {kinds : List Kind} {spots new : List Spot} {end next i : ℕ} {s : Spot} (d : Kind) → i < length kinds
    → s ≡ record { offset = aligned (width (get_or kinds i d)) end; kind = get_or kinds i d } → new ≡ spots ++ (s ∷ []) → next ≡ s.offset + width s.kind
    → LaidOut kinds spots end i → LaidOut kinds new next (i + 1)
goes {kinds} {spots} {new} {end} {next} {i} d lt is n e l =
    let kind = get_or kinds i d in
    let next_is : next ≡ aligned (width kind) end + width kind = cc in
    let rest : List Spot = spots_from (aligned (width kind) end + width kind) (drop (i + 1) kinds) in
    record {
      small = omega (arith, (aligned_is kind end).eighth i l.small);
      rest = cc (append_assoc spots ((record { offset = aligned (width kind) end; kind = kind }) ∷ []) rest, drop_more kinds i d lt);
    }

pub ends : {kinds : List Kind} {spots : List Spot} {end i : ℕ} → length kinds ≤ i → LaidOut kinds spots end i → spots ≡ spots_of kinds
ends {kinds} {spots} {i = i} all l = cc (append-nil spots, drop_all i kinds all)

-- spots that are laid out are those of their kinds
pub laid_again : (kinds : List Kind) (spots : List Spot) → spots ≡ spots_of kinds → spots ≡ spots_of (kinds_of spots)
laid_again kinds spots e = cc (kinds_are 0 kinds)

pub kinds_again : (kinds : List Kind) (spots : List Spot) → spots ≡ spots_of kinds → kinds_of spots ≡ kinds
kinds_again kinds spots e = cc (kinds_are 0 kinds)

-- ---- the last one

pub record IsLast (kinds : List Kind) (s : Spot) : Type 0 where
  pub small : s.offset ≤ MOST_BYTES
  pub end : s.offset + width s.kind ≡ bytes_of kinds
  pub bound : bytes_of kinds ≤ MOST_BYTES

-- at most 8 bytes for each
pub few_bytes : (kinds : List Kind) → length kinds ≤ MOST_ITEMS → bytes_of kinds ≤ MOST_BYTES
few_bytes kinds few = omega (arith, end_small 0 kinds 0 (omega arith))

-- the last spot of a list that has one
pub last_is : {spots : List Spot} {s : Spot} → length spots ≤ MOST_ITEMS → spots ≡ spots_of (kinds_of spots) → slice_get spots (length spots - 1) ≡ Some s
    → IsLast (kinds_of spots) s
last_is {spots} {s} few laid got =
    let kinds = kinds_of spots in
    let n = length spots - 1 in
    let some = slice_get_within spots n s got in
    let long = length-map spots (λ s. s.kind) in
    let same : s ≡ get_or (spots_of kinds) n no_spot = cc (get_or_from_slice_get spots n s no_spot got) in
    let end : s.offset + width s.kind ≡ bytes_of kinds = cc (last_end 0 kinds n (omega arith)) in
    let bound : bytes_of kinds ≤ MOST_BYTES = few_bytes kinds (omega arith) in
    record { small = omega arith; end = end; bound = bound }
