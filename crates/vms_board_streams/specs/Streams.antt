-- The laws of the streams of boards of one kind.
use Rattle.std.specs.Prelude.{◌≡◌, ℕ, ◌<◌, ◌≤◌, ◌++◌, List, [], ◌∷◌, length, Option, Some, IfSome, Ok, ℤ}
use Rattle.dev_board.specs.Step.{answers_by, after_by}
use Rattle.dev_board.specs.declared.event.Answer.{Answer}
use Rattle.dev_board.specs.declared.event.Event.{Event}
use Rattle.vms_check.specs.Carrying.{carried}
use Rattle.vms_check.specs.Comparing.{Compatible}
use Rattle.vms_script.specs.Trace.{trace_line}
use Rattle.vms_spec.specs.Images.{Image}
use Rattle.vms_kinds.specs.Bytes.{IsBytes}
use Rattle.vms_spec.specs.Streams.{longest_text}
use Rattle.vms_spec.specs.WellFormed.{WellFormed}
use Rattle.vms_spec.specs.declared.Reason.{Reason}
use Rattle.vms_board.specs.Family.{Family, MaySaveIn, images_saved, lists_in}
use Rattle.vms_board.specs.Restoring.{Restore, Back, Refused, Restores}
use Rattle.vms_board.specs.Saving.{saved_text, saved_stream, stream_with}
use Rattle.vms_board_streams.specs.declared.memory.TheConstants.{STREAM_ROOM}

-- A description section has room for the text.
abbrev pub HasRoomFor : Option (List ℕ) → Type 0
HasRoomFor text = IfSome text (λ t. length t ≤ longest_text)

-- The trace of these answers, as `load` writes it.
abbrev pub trace_of : List Answer → List ℕ
trace_of [] = []
trace_of (answer ∷ answers) = trace_line answer ++ trace_of answers

module _ {S : Type 0} (f : Family S) where
  -- The answers to a list of events, each applied after those before it.
  abbrev pub answers_to : List Event → S → List Answer
  answers_to events m = answers_by f.step events m

  -- The board after a list of events.
  abbrev pub after_events : List Event → S → S
  after_events events m = after_by f.step events m

  -- The images of a board under the set `set`, carried to the newest.
  abbrev pub images_carried : ℕ → S → List Image
  images_carried set m = carried (f.set set) (f.set f.newest) (images_saved f set m)

  -- On the board that the bytes restore, these events leave this trace.
  pub record GoesOn (number : ℕ) (bytes : List ℕ) (events : List Event) (taken : ℕ) (trace : List ℕ) : Type 0 where
    pub board : S
    pub restored : Restores f number bytes (Back board taken)
    pub trace_is : trace ≡ trace_of (answers_to events board)

  -- On the board that this stream restores, the events leave the trace that they leave on the saved
  -- board. All bytes are read.
  pub record IsContinued (set : ℕ) (m : S) (text : Option (List ℕ)) (events : List Event) : Type 0 where
    pub there : GoesOn (f.number m) (stream_with f set m text) events (length (stream_with f set m text)) (trace_of (answers_to events m))
    pub only : (taken : ℕ) (trace : List ℕ) → GoesOn (f.number m) (stream_with f set m text) events taken trace
        → (taken ≡ length (stream_with f set m text)) × (trace ≡ trace_of (answers_to events m))

  -- The stream of a sound board, under each set from its number on, is shorter than the buffer.
  pub record StreamsAreShort (IsSound : S → Type 0) : Type 0 where
    pub short : (set : ℕ) (m : S) → IsSound m → MaySaveIn f m set → length (saved_stream f set m) < STREAM_ROOM

  -- The stream of a sound board, under each set from its number on, is bytes.
  pub record StreamsAreBytes (IsSound : S → Type 0) : Type 0 where
    pub bytes : (set : ℕ) (m : S) → IsSound m → MaySaveIn f m set → IsBytes (saved_stream f set m)

  -- A restore of bytes has exactly one outcome: a board or a refusal.
  pub record BytesAreOne : Type 0 where
    pub some : (number : ℕ) (bytes : List ℕ) → IsBytes bytes → (restore : Restore S) × Restores f number bytes restore
    pub one : (number : ℕ) (bytes : List ℕ) → IsBytes bytes → (a b : Restore S) → Restores f number bytes a → Restores f number bytes b → a ≡ b

module _ {S : Type 0} (f : Family S) (Alike : S → S → Type 0) where
  -- The numbers of the newest set's devices restore a board like `m`.
  pub record BackAlike (m : S) (lists : List (List ℤ)) : Type 0 where
    pub back : S
    pub restored : f.restored (f.number m) lists ≡ Ok back
    pub alike : Alike m back

  -- Two boards give the same answer to an event, and are alike after it.
  pub record AnswerAlike (first second : Answer × S) : Type 0 where
    pub answer : second.0 ≡ first.0
    pub alike : Alike first.1 second.1

  -- The properties that the laws of streams need of a family, beside those that code needs.
  pub record StreamsStand (IsSound : S → Type 0) : Type 0 where
    pub well : (set : ℕ) → set ≤ f.newest → WellFormed (f.set set)
    pub compatible : (set : ℕ) → 1 ≤ set → set ≤ f.newest → Compatible (f.set set) (f.set f.newest)
    pub described : (set : ℕ) (m : S) → set ≤ f.newest → HasRoomFor (Some (saved_text f set m))
    pub back : (set : ℕ) (m : S) → IsSound m → MaySaveIn f m set → BackAlike m (lists_in (images_carried f set m))
    pub alike : (event : Event) (m n : S) → Alike m n → AnswerAlike (f.step event m) (f.step event n)
    pub octets : StreamsAreBytes f IsSound

  -- The stream of a board under the set `set` restores a board like it, and nothing else.
  pub record StreamComesBack (set : ℕ) (m : S) : Type 0 where
    pub back : S
    pub alike : Alike m back
    pub carried : f.restored (f.number m) (lists_in (images_carried f set m)) ≡ Ok back
    pub restores : Restores f (f.number m) (saved_stream f set m) (Back back (length (saved_stream f set m)))
    pub only : (other : S) (taken : ℕ) → Restores f (f.number m) (saved_stream f set m) (Back other taken)
        → (other ≡ back) × (taken ≡ length (saved_stream f set m))
    pub accepted : (place : ℕ) (section : Option ℕ) (reason : Reason)
        → Restores f (f.number m) (saved_stream f set m) (Refused place section reason) → ⊥

  -- Each sound board is restored from its stream, under each set from its number on.
  pub record StreamsComeBack (IsSound : S → Type 0) : Type 0 where
    pub stream : (set : ℕ) (m : S) → IsSound m → MaySaveIn f m set → StreamComesBack set m

  -- A board restored from the stream of a sound board continues as that board does. The description that the
  -- stream has makes no difference, and `own` says that `saved_stream` is such a stream.
  pub record BoardsGoOn (IsSound : S → Type 0) : Type 0 where
    pub on : (set : ℕ) (m : S) (text : Option (List ℕ)) (events : List Event) → IsSound m → MaySaveIn f m set
        → HasRoomFor text → IsContinued f set m text events
    pub own : (set : ℕ) (m : S) → saved_stream f set m ≡ stream_with f set m (Some (saved_text f set m))
