-- The listing of a stream by its own description: the values text, or why there is none and where
-- (docs/format.md, "Without a set").
use Rattle.std.specs.Prelude.{◌≡◌, ℕ, ◌+◌, ◌<◌, ◌≤◌, true, List, length, get_or, take, drop, Option, Some, None}
use Rattle.std.specs.List.{list_all}
use Rattle.vms_json.specs.Texts.{value_in}
use Rattle.vms_spec.specs.Lookup.{number_at}
use Rattle.vms_elements.specs.Lines.{text_of}
use Rattle.vms_analyze.specs.declared.fault.AnalyzeReason.{AnalyzeReason}
use Rattle.vms_analyze.specs.declared.fault.AnalyzeReason.TheVariants as reasons
use Rattle.vms_analyze.specs.declared.input.TheConstants.{LONGEST}
use Rattle.vms_analyze.specs.Told.{ToldDevice, told_tree, is_good_device}
use Rattle.vms_analyze.specs.Wanted.{Found, Lines, Differs, wants, found}

-- The most bytes of an input.
abbrev pub longest_input : ℕ
longest_input = LONGEST

-- A description may be at offset `p`: mark 06, and the length of the rest of the input.
pub record IsPlace (input : List ℕ) (p : ℕ) : Type 0 where
  pub mark : get_or input p 0 ≡ 6
  pub long : p + 5 + number_at 4 (p + 1) input ≡ length input

-- `p` is the greatest such offset.
pub record IsLastPlace (input : List ℕ) (p : ℕ) : Type 0 where
  pub is : IsPlace input p
  pub last : (q : ℕ) → p < q → IsPlace input q → ⊥

-- The description at `p` says these devices.
pub record Tells (input : List ℕ) (p : ℕ) (devices : List ToldDevice) : Type 0 where
  pub tree : value_in (drop (p + 5) input) ≡ Some (told_tree devices)
  pub good : list_all is_good_device devices ≡ true

-- The values text, or an offset and the reason why there is none.
pub data Listing : Type 0 where
  Text : List ℕ → Listing
  Refused : ℕ → AnalyzeReason → Listing

-- The listing, if the bytes before the description were found so.
abbrev pub listing_of : Found → Listing
listing_of (Lines lines) = Text (text_of lines)
listing_of (Differs place) = Refused place reasons.Mismatch

-- `Lists input listing`: the input has this listing.
pub data Lists (input : List ℕ) : Listing → Type 0 where
  IsTooLong : longest_input < length input → Lists input (Refused longest_input reasons.TooLong)
  HasNone : length input ≤ longest_input → ((p : ℕ) → IsPlace input p → ⊥) → Lists input (Refused (length input) reasons.NoDescription)
  HasNoShape : (p : ℕ) → length input ≤ longest_input → IsLastPlace input p → ((devices : List ToldDevice) → Tells input p devices → ⊥)
      → Lists input (Refused p reasons.Shape)
  IsRead : (p : ℕ) (devices : List ToldDevice) → length input ≤ longest_input → IsLastPlace input p → Tells input p devices
      → Lists input (listing_of (found (wants devices) 0 0 (take p input)))

-- The result is the last such offset of an input, if it has one.
abbrev pub TellsPlace : List ℕ → Option ℕ → Type 0
TellsPlace input None = (p : ℕ) → IsPlace input p → ⊥
TellsPlace input (Some p) = IsLastPlace input p
