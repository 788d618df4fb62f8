-- The laws of streams and faults, each as a statement. Those with `WellFormed` and `FitsHeads` are for every
-- well-formed set whose instances and versions fit the four bytes that heads have for them.
use Rattle.std.specs.Prelude.{◌≡◌, ℕ, ◌+◌, ◌≤◌, List, [], ◌++◌, length, get_or, take, slice_set, Bool, true, false, Option, Some, None, IfSome, ◌<◌}
use Rattle.std.specs.List.{slice_get}
use Rattle.vms_spec.specs.declared.TheConstants.{LONGEST_NAME}
use Rattle.vms_spec.specs.declared.Reason.{Reason}
use Rattle.vms_kinds.specs.Bytes.{IsBytes}
use Rattle.vms_spec.specs.declared.Reason.TheVariants as reasons
use Rattle.vms_spec.specs.Sets.{Device, Set}
use Rattle.vms_spec.specs.Images.{Image}
use Rattle.vms_spec.specs.Streams.{is_one_of, longest_text, IsReady, IsConfiguration, IsTrailer, optional, configuration, trailer, written_section, written, AreReady}
use Rattle.vms_spec.specs.WellFormed.{WellFormed}
use Rattle.vms_spec.specs.Readings.{Reading, Accepted}
use Rattle.vms_spec.specs.Units.{Piece, spelled}
use Rattle.vms_spec.specs.Heads.{FitsHeads}
use Rattle.vms_stream.specs.SoFar.{Tail, Footed, Bare, images, machine}
use Rattle.vms_stream.specs.Dues.{Due}
use Rattle.vms_stream.specs.Faults.{Front, Fault}
use Rattle.vms_stream.specs.Finding.{Whole, unit_at}
use Rattle.vms_stream.specs.Judge.{judge, reading}
use Rattle.vms_bodies.specs.Whole.{reading_on}
use Rattle.vms_stream.specs.Streams.{IsSection, IsStream, Takes}
use Rattle.vms_stream.specs.State.{State, at_start, between, by_state}
use Rattle.vms_stream.specs.Laws.{Ends}

-- ---- the judge

-- The judge accepts or refuses every input.
abbrev pub ToldLaw : Type 0
ToldLaw = (set : Set) (names : List (List ℕ)) (input : List ℕ) → (told : Reading State) × (reading (by_state set names) (at_start set) input ≡ Some told)

-- What the judge accepts, the input takes.
abbrev pub AcceptedLaw : Type 0
AcceptedLaw = (set : Set) (names : List (List ℕ)) → WellFormed set → FitsHeads set → (input : List ℕ) (n : ℕ) (end : State) → IsBytes input
    → reading (by_state set names) (at_start set) input ≡ Some (Accepted n end) → Takes set names input n end.machine end.images

-- What an input takes, the judge accepts, with the same length, machine and images.
abbrev pub TakenLaw : Type 0
TakenLaw = (set : Set) (names : List (List ℕ)) → WellFormed set → FitsHeads set → (input : List ℕ) (n : ℕ) (machine : Option (List ℕ)) (images : List Image)
    → Takes set names input n machine images
    → (end : State) × (reading (by_state set names) (at_start set) input ≡ Some (Accepted n end)) × (end.machine ≡ machine) × (end.images ≡ images)

-- ---- a section at a front, whatever follows it

-- A footed section of a device that hasn't come is read, and the reading resumes after it.
abbrev pub SectionReadLaw : Type 0
SectionReadLaw = (set : Set) (names : List (List ℕ)) → WellFormed set → FitsHeads set → (k : ℕ) (d : Device) (image : Image) → slice_get set.devices k ≡ Some d
    → (machine : Option (List ℕ)) (images : List Image) (came : List Bool) (tail : Tail) (first after : Bool) → k < length images → slice_get came k ≡ Some false → (tail ≡ Bare → ⊥)
    → (id place : ℕ) (bytes rest : List ℕ) → IsSection set d image id true bytes
    → reading_on (judge (by_state set names)) (between machine images came tail first after) place (bytes ++ rest)
    ≡ reading_on (judge (by_state set names)) (between machine (slice_set images k image) (slice_set came k true) Footed false false) (place + length bytes) rest

-- `BeginsSection set came rest`: `rest` begins with a section of a device that hasn't come.
pub record BeginsSection (set : Set) (came : List Bool) (rest : List ℕ) : Type 0 where
  pub number : ℕ
  pub device : Device
  pub there : slice_get set.devices number ≡ Some device
  pub new : slice_get came number ≡ Some false
  pub id : ℕ
  pub image : Image
  pub footed : Bool
  pub bytes : List ℕ
  pub after : List ℕ
  pub is : IsSection set device image id footed bytes
  pub spelled : rest ≡ bytes ++ after

-- If a reading between sections ends well and the first byte is a section's mark, `rest` begins with a
-- section.
abbrev pub SectionFoundLaw : Type 0
SectionFoundLaw = (set : Set) (names : List (List ℕ)) → WellFormed set → FitsHeads set
    → (machine : Option (List ℕ)) (images : List Image) (came : List Bool) (tail : Tail) (first after : Bool) → length images ≡ length set.devices → length came ≡ length set.devices
    → (place : ℕ) (rest : List ℕ) (n : ℕ) (end : State) → IsBytes rest → reading_on (judge (by_state set names)) (between machine images came tail first after) place rest ≡ Some (Accepted n end)
    → get_or rest 0 0 ≡ 0x04 → BeginsSection set came rest

-- ---- units

-- The unit that is found at the front depends only on its own bytes.
abbrev pub LocalLaw : Type 0
LocalLaw = (d : Due) (r t : List ℕ) (x : Piece) (n : ℕ) → IsBytes r → unit_at d r ≡ Whole x n → take n r ≡ take n t → unit_at d t ≡ Whole x n

-- Units that end well are a stream, with the machine and the images that they say.
abbrev pub UnitsLaw : Type 0
UnitsLaw = (set : Set) (names : List (List ℕ)) → WellFormed set → FitsHeads set → (input : List ℕ) (n : ℕ) (u : List Piece) → IsBytes input
    → Ends set names input n u → Takes set names input n (machine set u) (images set u)

-- A stream consists of units that end well.
abbrev pub StreamLaw : Type 0
StreamLaw = (set : Set) (names : List (List ℕ)) → WellFormed set → FitsHeads set → (input : List ℕ) (n : ℕ) (named : Option (List ℕ)) (states : List Image) → IsBytes input
    → Takes set names input n named states → (u : List Piece) × Ends set names input n u × (machine set u ≡ named) × (images set u ≡ states)

-- `GoesOn set names input u`: `u` and some more units are those of a stream that `input` takes.
pub record GoesOn (set : Set) (names : List (List ℕ)) (input : List ℕ) (u : List Piece) : Type 0 where
  pub taken : ℕ
  pub more : List Piece
  pub ends : Ends set names input taken (more ++ u)
  pub takes : Takes set names input taken (machine set (more ++ u)) (images set (more ++ u))

-- If an input has no fault, its front `u` is continued so.
abbrev pub FrontLaw : Type 0
FrontLaw = (set : Set) (names : List (List ℕ)) → WellFormed set → FitsHeads set → (u : List Piece) (rest : List ℕ) → IsBytes (spelled u ++ rest) → Front set names u
    → ((place : ℕ) (section : Option ℕ) (reason : Reason) (size : ℕ) → Fault set names (spelled u ++ rest) place section reason size → ⊥)
    → GoesOn set names (spelled u ++ rest) u

-- ---- streams and faults

-- Two streams that an input takes have the same length, machine and images.
pub record AreSame (n m : ℕ) (machine other : Option (List ℕ)) (images others : List Image) : Type 0 where
  pub lengths : n ≡ m
  pub machines : machine ≡ other
  pub states : images ≡ others

-- An input takes at most one stream.
abbrev pub OneStreamLaw : Type 0
OneStreamLaw = (set : Set) (names : List (List ℕ)) → WellFormed set → FitsHeads set → (input : List ℕ) (n m : ℕ) (machine other : Option (List ℕ)) (images others : List Image)
    → Takes set names input n machine images → Takes set names input m other others → AreSame n m machine other images others

-- The input takes a stream, or it has a fault.
pub data Answer (set : Set) (names : List (List ℕ)) (input : List ℕ) : Type 0 where
  Taken : (n : ℕ) (machine : Option (List ℕ)) (images : List Image) → Takes set names input n machine images → Answer set names input
  Faulty : (place : ℕ) (section : Option ℕ) (reason : Reason) (size : ℕ) → Fault set names input place section reason size → Answer set names input

-- Every input has one of the two.
abbrev pub EitherLaw : Type 0
EitherLaw = (set : Set) (names : List (List ℕ)) → WellFormed set → FitsHeads set → (input : List ℕ) → IsBytes input → Answer set names input

-- No input has both.
abbrev pub NeverBothLaw : Type 0
NeverBothLaw = (set : Set) (names : List (List ℕ)) → WellFormed set → FitsHeads set → (input : List ℕ) → IsBytes input
    → (n : ℕ) (machine : Option (List ℕ)) (images : List Image) (place : ℕ) (section : Option ℕ) (reason : Reason) (size : ℕ)
    → Takes set names input n machine images → Fault set names input place section reason size → ⊥

-- Two faults of an input have the same offset, device, reason and size.
pub record AreOneFault (place other_place : ℕ) (section other_section : Option ℕ) (reason other_reason : Reason) (size other_size : ℕ) : Type 0 where
  pub places : place ≡ other_place
  pub sections : section ≡ other_section
  pub reasons : reason ≡ other_reason
  pub sizes : size ≡ other_size

-- An input has at most one fault, for every set.
abbrev pub OneFaultLaw : Type 0
OneFaultLaw = (set : Set) (names : List (List ℕ)) (input : List ℕ) → IsBytes input
    → (place other_place : ℕ) (section other_section : Option ℕ) (reason other_reason : Reason) (size other_size : ℕ)
    → Fault set names input place section reason size → Fault set names input other_place other_section other_reason other_size
    → AreOneFault place other_place section other_section reason other_reason size other_size

-- A fault stays the same whatever follows the input, unless the input ends there.
abbrev pub FurtherLaw : Type 0
FurtherLaw = (set : Set) (names : List (List ℕ)) (input more : List ℕ) (place : ℕ) (section : Option ℕ) (reason : Reason) (size : ℕ) → (reason ≡ reasons.Truncated → ⊥)
    → Fault set names input place section reason size → Fault set names (input ++ more) place section reason size

-- ---- what the writer gives

-- What the writer gives for a ready image is a footed section with it, for every set.
abbrev pub SectionLaw : Type 0
SectionLaw = (set : Set) (d : Device) (image : Image) (id : ℕ) → id < 4294967296 → IsReady set d image → IsSection set d image id true (written_section set d image id)

-- An input that begins with what the writer gives takes exactly that, if the machine is accepted and the text
-- fits. Without a text, nothing may follow.
abbrev pub WrittenLaw : Type 0
WrittenLaw = (set : Set) (names : List (List ℕ)) → length set.devices ≤ 4294967296 → (machine text : Option (List ℕ)) (images : List Image)
    → IsConfiguration names machine (optional configuration machine) → IsTrailer text (optional trailer text) → AreReady set images
    → (rest : List ℕ) → (text ≡ None → rest ≡ [])
    → Takes set names (written set machine images text ++ rest) (length (written set machine images text)) machine images

-- `IsWholeStream set names bytes machine images text`: `bytes` are a stream, and an input that begins with
-- them takes exactly these. Without a text, nothing may follow.
pub record IsWholeStream (set : Set) (names : List (List ℕ)) (bytes : List ℕ) (machine : Option (List ℕ)) (images : List Image) (text : Option (List ℕ)) : Type 0 where
  pub stream : IsStream set names bytes machine images text
  pub taken : (rest : List ℕ) → (text ≡ None → rest ≡ []) → Takes set names (bytes ++ rest) (length bytes) machine images

-- What the writer gives for ready images is a whole stream of the set, if the machine is one of `names` and
-- the lengths of machine and text fit.
abbrev pub WholeLaw : Type 0
WholeLaw = (set : Set) (names : List (List ℕ)) → length set.devices ≤ 4294967296 → (machine text : Option (List ℕ)) (images : List Image)
    → IfSome machine (λ name. (is_one_of names name ≡ true) × (length name ≤ LONGEST_NAME)) → IfSome text (λ t. length t ≤ longest_text) → AreReady set images
    → IsWholeStream set names (written set machine images text) machine images text
