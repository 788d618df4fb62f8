-- Worked listings.
use Rattle.vms_analyze.proofs.{DevicesRead.not_told, Texts.last_place, Facade.HasNone, Facade.HasNoShape}
use Rattle.vms_analyze.proofs.Facade.{◌≡◌, ℕ, zero, suc, true, not, ◌==◌, List, [], ◌∷◌, ◌++◌, get_or, take, drop, Some, None, pos, refl}
use Rattle.vms_analyze.proofs.Facade.{arith, codes, list_all, and_parts, eq-eqb, digits, is_utf8, chars, devices_in, next, serde_json_on_literals, code, U64}
use Rattle.vms_analyze.proofs.Facade.{Image, trailer, value_in, Sent, ToldDevice, told_tree, is_good_device, Lines, Differs, wants, found, Refused, Lists}
use Rattle.vms_analyze.specs.declared.fault.AnalyzeReason.TheVariants as reasons

abbrev timer : List Image
timer = record { version = 1; came = []; numbers = pos 0 ∷ [] } ∷ []

-- the smallest stream, with a footer's mark
abbrev smallest : ℕ → List ℕ
smallest mark =
    0x51 ∷ 0x45 ∷ 0x56 ∷ 0x4d ∷ 0 ∷ 0 ∷ 0 ∷ 3 ∷ 4 ∷ 0 ∷ 0 ∷ 0 ∷ 0 ∷ 5 ∷ 0x74 ∷ 0x69 ∷ 0x6d ∷ 0x65 ∷ 0x72 ∷ 0 ∷ 0 ∷ 0 ∷ 0 ∷ 0 ∷ 0 ∷ 0 ∷ 1
    ∷ 0 ∷ 0 ∷ 0 ∷ 0 ∷ 0 ∷ 0 ∷ 0 ∷ 0 ∷ mark ∷ 0 ∷ 0 ∷ 0 ∷ 0 ∷ 0 ∷ []

abbrev says_timer : List ToldDevice
says_timer = record { name = codes "timer"; instance = 0; version = 1; elements = Sent (codes "now") U64 ∷ []; subs = [] } ∷ []

record ListingRows : Type 0 where
  -- its description has one number
  reads_the_description : value_in
      (codes "{\"devices\":[{\"fields\":[{\"name\":\"now\",\"size\":8,\"type\":\"u64\"}],\"instance_id\":0,\"name\":\"timer\",\"subsections\":[],\"version\":1}]}")
      ≡ Some (told_tree says_timer)
  is_of_the_shape : list_all is_good_device says_timer ≡ true
  lists_the_smallest_stream : found (wants says_timer) 0 0 (smallest 0x7e) ≡ Lines (codes "section timer 0 v1" ∷ codes "now = 0" ∷ [])
  refuses_another_footer : found (wants says_timer) 0 0 (smallest 0x7f) ≡ Differs 35
  -- the end mark isn't the last byte
  refuses_more_bytes : found (wants says_timer) 0 0 (smallest 0x7e ++ 0 ∷ []) ≡ Differs 41
  refuses_fewer_bytes : found (wants says_timer) 0 0 (take 39 (smallest 0x7e)) ≡ Differs 35
  -- the stream head is two units
  refuses_another_version : found (wants says_timer) 0 0 (0x51 ∷ 0x45 ∷ 0x56 ∷ 0x4d ∷ 0 ∷ 0 ∷ 0 ∷ 2 ∷ []) ≡ Differs 4

listing_rows : ListingRows
unfolding serde_json_on_literals is_utf8 chars digits code
listing_rows = search

no_six : (input : List ℕ) → list_all (λ b. not (b == 6)) input ≡ true → (p : ℕ) → get_or input p 0 ≡ 6 → ⊥
no_six [] e p m = absurd (omega arith)
no_six (b ∷ input) e zero m = let f : (b == 6) ≡ true = eq-eqb b 6 m in cc ((and_parts (not (b == 6)) (list_all (λ b. not (b == 6)) input) e).0)
no_six (b ∷ input) e (suc p) m = no_six input (and_parts (not (b == 6)) (list_all (λ b. not (b == 6)) input) e).1 p m

finds_no_description : Lists (smallest 0x7e) (Refused 41 reasons.NoDescription)
finds_no_description = HasNone (omega arith) (λ p h. no_six (smallest 0x7e) refl p h.mark)

-- ---- a number of 64 bits that is said to have 4 bytes

abbrev four_bytes : List ℕ
four_bytes =
    codes "{\"devices\":[{\"fields\":[{\"name\":\"now\",\"size\":4,\"type\":\"u64\"}],\"instance_id\":0,\"name\":\"timer\",\"subsections\":[],\"version\":1}]}"

four_bytes_say_nothing : next (value_in four_bytes) devices_in ≡ None
unfolding serde_json_on_literals is_utf8 chars
four_bytes_say_nothing = refl

refuses_four_bytes : Lists (smallest 0x7e ++ trailer four_bytes) (Refused 41 reasons.Shape)
refuses_four_bytes =
    HasNoShape 41 (omega arith) (last_place (smallest 0x7e) (drop 4 four_bytes) (record { none = no_six four_bytes refl }) (omega arith))
    (not_told (smallest 0x7e ++ trailer four_bytes) 41 four_bytes_say_nothing)
