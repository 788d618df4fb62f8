-- The commands that write a stream: `pack` and `convert`.
use Rattle.vms_cli.proofs.Facade
use Facade.{◌≡◌, ℕ, ◌<◌, List, length, map, Option, Some, None, Ok, refl, arith, [], ForSome, slice_get-get_or, Held, Outlet, at_option, Set}
use Facade.{AreReady, IsFit, ValuesRead, Values, Bad, values_read, state_of, machine_of, ReadsAs, accepted_holds, Ending, fetched, longest_file, word_set}
use Facade.{SetWord, TextEnds, WrittenAs, Step, Gives, next, IsSound, sound_fetch, sound_next, sound_set, sound_word, described_stream, packed, packs, sees_as}
use Facade.{ConvertGives, ConvertsBy, agrees, newest, Err, ◌+◌, ap, Intake, Stock, Outcome, StepAs, Both, both, Untold, Ends, HasBy, first_err, then_as}
use Facade.{SeenAs, WithGiven, kept_so, wrote_so, draws_none, draws_took, ◌⊎◌, zero, suc, ◌∷◌, get_or, ℤ, inl, inr, sym, ◌∙◌, ◌^◌, Bool}
use Facade.{false, Result, IfSome, length-map, string_bytes, Image, device_cells, written, device_at, AreKept, described_text, carried, Compatible}
use Facade.{first_mismatch, IsStreamFor, LosesFirst, AreBack, recast_each, KeepsAll, Loses, OfCell, OfDevice, OfMachine, first_cell, numbers_in, answered}
use Facade.{same_backs, one_lost, newest_kinds, recast_long, fit_word, Isa, SetOf, Shipped, IsInNewest, Converts, ConvertsStream, ConvertsWith, IsDone, IsLost}
use Facade.{IsMismatch, LacksLine, LacksMemory, NamesCell, Rewrites, WouldLose, agreed, lost_line, ArrayVec, reads_as, IsBytes, Refusal, LoadReads, name_of}
use Facade.{loads_kept, Mismatch, ConvertFault, EndsSo, is_among, EndsAs, WritesAs, status_of, refused_line, done, ended, mismatch_line, wrong}
use Facade.{comes_to_nothing, ends_with, same_keeps, Seen, content_seen, load_seen, other_seen, seen_lost, seen_written, convert_course}
use Rattle.vms_cli.proofs.TextCommands.{Front, HasFront, Invalid, Stream, one_front}
use Rattle.vms_cli.specs.Commands.ConvertCommand.{EndsLike, FailsReading, FailsWriting, IsRefused, Refuses}
use Rattle.vms_values.specs.declared.fault.Values.{Values as Given}
use Rattle.std.specs.{declared.alloc.Global.Global, declared.string.String.String}
use Rattle.vms_convert.specs.Calls.{Converts as Calls}
use Rattle.vms_load.specs.declared.fault.LoadFault.TheVariants as loads
use Rattle.vms_convert.specs.declared.fault.ConvertFault.TheVariants as faults
use Rattle.vms_commands.specs.declared.ending.Ending.TheVariants as endings

-- ---- from what a reading and a write say to how `pack` ends

ready_of : (set : Set) → IsFit set → (text : List ℕ) (r : ValuesRead) (v : Given) → values_read set text ≡ r → ReadsAs set r (Ok v)
    → AreReady set (map state_of v.images.items)
ready_of set fit text (Values machine images) v e reads = rw reads.0 (accepted_holds set text machine images fit e).ready
ready_of set fit text (Bad line reason) v e reads = absurd reads

-- the images of a text that was read are ready
pub read_ready : (set : Set) → IsFit set → (text : List ℕ) (v : Given) → ReadsAs set (values_read set text) (Ok v) → AreReady set (map state_of v.images.items)
read_ready set fit text v reads = ready_of set fit text _ v refl reads

-- the machine of a number
pub named : (set : Set) (machine : Option ℕ) → ForSome machine (λ m. m < length set.machines) → at_option set.machines machine ≡ machine_of set machine
named set None h = refl
named set (Some m) h = slice_get-get_or set.machines m [] (h m refl)

module _ (set : Set) (text : List ℕ) (o o' : Outlet) where
  pub packs_read : (v : Given) (e : Option Ending) → ReadsAs set (values_read set text) (Ok v)
      → WrittenAs (described_stream set (at_option set.machines v.machine) (map state_of v.images.items)) o o' e → TextEnds (packed set text) o o' e
  packs_read v e reads w = grind (arith, named)

-- ---- what the words name

module _ (held : Option Held) (word : SetWord) (name : List ℕ) (set : Set) (text stream : List ℕ) where
  pub pack_gives : word_set held word ≡ Gives set → fetched longest_file held name ≡ Gives text → packed set text ≡ Gives stream
      → packs held word name ≡ Gives stream
  pack_gives there values reads = grind arith

pub sound_pack : (held : Option Held) (word : SetWord) (name : List ℕ) → IsSound held (packs held word name)
sound_pack held word name = grind (arith, sound_next, sound_word, sound_fetch, sound_set)

-- ---- Two steps, one after the other: what is said of the first that ends the command, or of what both give.

module _ {A T U : Type 0} (m : T → A) (n : U → Both A) where
  -- the second ended it
  pub second_of : (s r : Step A) (t : T) (e : Ending) → StepAs m s (Ok t) → StepAs {A = A} {T = T} m r (Err e)
      → StepAs {A = Both A} {T = U} n (both s r) (Err e)
  second_of s r t e h k =
      then_as m n (λ a. next r (λ b. Gives (record { old = a; new = b }))) s t (Err e) h (first_err m n (λ b. Gives (record { old = m t; new = b })) r e k)

  -- both gave something
  pub two_of : (s r : Step A) (t v : T) (u : U) → n u ≡ record { old = m t; new = m v } → StepAs m s (Ok t) → StepAs m r (Ok v) → StepAs n (both s r) (Ok u)
  two_of s r t v u is h k = search (arith, then_as, next)

-- ---- `convert`, by the step that gives its set and the one that compares it.

-- the outcome once the set is there
abbrev pub converts_after : Option (List ℕ) → Option Held → Set → Outcome → Type 0
converts_after input held to x = ConvertsBy (agrees to) input held x

-- the outcome after both steps is that after the second one, by the first
pub converts_next : (input : Option (List ℕ)) (held : Option Held) (s : Step Set) (x : Outcome) → ConvertsBy (next s agrees) input held x
    → HasBy (converts_after input held) s x
converts_next input held s x h = grind arith

module _ {A B T : Type 0} (m : T → A) (f : A → Step B) where
  pub seen_next : (P : B → List ℕ → Outcome → Type 0) {i i' : Intake} {o o' : Outlet} {shelf shelf' : Stock} (e : Option Ending) (s : Step A) (t : T)
      → StepAs m s (Ok t) → SeenAs (WithGiven (f (m t)) P) i i' o o' shelf shelf' e → SeenAs (WithGiven (next s f) P) i i' o o' shelf shelf' e
  seen_next P e s t h seen = grind (arith, sees_as, next)

-- ---- how many bytes the input gives

pub gives_none : (step : Step Set) (i : Intake) → ConvertGives step i i
gives_none step i = grind arith

pub gives_next : {A T : Type 0} (m : T → A) (f : A → Step Set) (s : Step A) (t : T) (i i' : Intake) → StepAs m s (Ok t) → ConvertGives (f (m t)) i i'
    → ConvertGives (next s f) i i'
gives_next m f Untold t i i' h g = grind arith
gives_next {A} m f (Gives a) t i i' h g = rw h at g
gives_next m f (Ends status line) t i i' h g = absurd h

-- ---- One thing is answered of a machine and images of the newest set: a stream, or what would be lost first.

pub newest_fit : IsFit newest
newest_fit = fit_word None (Shipped (SetOf Isa 4))

-- a list of which an item isn't empty has that item
inside : (lists : List (List ℤ)) (k c : ℕ) → c < length (get_or lists k []) → k < length lists
inside [] k c lt = absurd (omega arith)
inside (l ∷ lists) zero c lt = omega arith
inside (l ∷ lists) (suc k) c lt = let rest = inside lists k c lt in omega arith

module _ (to : Set) (fit : IsFit to) (compatible : Compatible to newest) (machine : Option (List ℕ)) (images : List Image) where
  abbrev wanted : List (List ℤ)
  wanted = recast_each to newest.devices (numbers_in images)

  abbrev there : List Image → List (List ℤ)
  there backs = numbers_in (carried to newest backs)

  same : (xs ys : List Image) → AreBack to newest wanted xs → AreBack to newest wanted ys → ys ≡ xs
  same xs ys p q = same_backs to newest fit newest_fit.well compatible wanted xs ys p q

  -- ---- there is one

  pub one_stream : (bytes others : List ℕ) → IsStreamFor to newest machine images bytes → IsStreamFor to newest machine images others → others ≡ bytes
  one_stream bytes others p q = cc (same _ _ p.back q.back)

  pub never_both : (bytes : List ℕ) (section cell : Option ℕ) → IsStreamFor to newest machine images bytes → LosesFirst to newest machine images section cell
      → ⊥
  never_both bytes section cell p q =
      (one_lost to newest machine wanted (there p.backs) p.backs).never_both section cell p.keeps (rw (same _ _ p.back q.back) at q.loses)

  pub one_loss : (section cell section' cell' : Option ℕ) → LosesFirst to newest machine images section cell
      → LosesFirst to newest machine images section' cell' → (section ≡ section') × (cell ≡ cell')
  one_loss section cell section' cell' p q =
      (one_lost to newest machine wanted (there p.backs) p.backs).one section cell section' cell' p.loses (rw (same _ _ p.back q.back) at q.loses)

  module _ (kept : AreKept newest images) where
    abbrev IsAnswered : Type 0
    IsAnswered = ((bytes : List ℕ) × IsStreamFor to newest machine images bytes)
        ⊎ ((section : Option ℕ) × (cell : Option ℕ) × LosesFirst to newest machine images section cell)

    by_backs : (backs : List Image) → AreBack to newest wanted backs
        → KeepsAll to newest machine wanted (there backs) backs
        ⊎ ((section : Option ℕ) × (cell : Option ℕ) × Loses to newest machine wanted (there backs) backs section cell)
        → IsAnswered
    by_backs backs back (inl keeps) =
        inl (written to machine backs (Some (described_text to backs)), record { backs = backs; back = back; keeps = keeps; is = refl })
    by_backs backs back (inr lost) = inr (lost.0, lost.1, record { backs = backs; back = back; loses = lost.2 })

    pub is_answered : IsAnswered
    is_answered =
        let a = answered to newest fit newest_fit.well compatible machine images kept.one_each (newest_kinds to newest refl images kept) in
        by_backs _ a.back a.answer

    -- ---- what would be lost is a cell or a device of the newest set

    long : length wanted ≡ length newest.devices
    long = recast_long to newest.devices (numbers_in images) (length-map images (λ (image : Image). image.numbers) ∙ kept.one_each)

    cells_long : (k : ℕ) → k < length newest.devices → length (get_or wanted k []) ≡ length (device_cells newest (device_at newest k))
    cells_long k lt = (newest_kinds to newest refl images kept k (device_at newest k) (slice_get-get_or newest.devices k _ lt)).long

    device_inside : (k : ℕ) (numbers : List ℤ) → k < length newest.devices → length numbers ≡ length (device_cells newest (device_at newest k))
        → IsInNewest (Some k) (first_cell numbers)
    device_inside k [] lt e = tt
    device_inside k (z ∷ numbers) lt e = (lt, omega arith)

    pub lost_inside : (section cell : Option ℕ) → LosesFirst to newest machine images section cell → IsInNewest section cell
    lost_inside section cell p = by section cell p.loses
      where
        by : (section cell : Option ℕ) → Loses to newest machine wanted (there p.backs) p.backs section cell → IsInNewest section cell
        by section cell (OfCell k c before differ) =
            let lt : k < length newest.devices = omega (arith, inside wanted k c differ.inside, long) in
            (lt, omega (arith, cells_long k lt))
        by section cell (OfDevice k lt all before bad) = device_inside k _ lt (cells_long k lt)
        by section cell (OfMachine name all valid is not) = tt

-- ---- From what the call answers to how `convert` ends.

module _ (to : Set) (fit : IsFit to) (compatible : Compatible to newest) (bytes : List ℕ) (held : Option Held) (ok : IsBytes bytes) where
  -- what the front of an input becomes
  abbrev Becomes : Front → Outcome → Type 0
  Becomes (Stream taken machine images) x =
      ((stream : List ℕ) × IsStreamFor to newest machine images stream × (x ≡ done stream held taken))
      ⊎ ((section : Option ℕ) × (cell : Option ℕ) × LosesFirst to newest machine images section cell × (x ≡ ended 11 (lost_line newest section cell) taken))
  Becomes (Invalid place section reason size) x = x ≡ ended 1 (refused_line newest place section reason) (place + size)

  becomes_one : (front : Front) (x y : Outcome) → Becomes front x → Becomes front y → y ≡ x
  becomes_one (Stream n machine images) x y (inl p) (inl q) = cc (one_stream to fit compatible _ images p.0 q.0 p.1 q.1)
  becomes_one (Stream n machine images) x y (inl p) (inr q) = absurd (never_both to fit compatible _ images p.0 q.0 q.1 p.1 q.2)
  becomes_one (Stream n machine images) x y (inr p) (inl q) = absurd (never_both to fit compatible _ images q.0 p.0 p.1 q.1 p.2)
  becomes_one (Stream n machine images) x y (inr p) (inr q) =
      let same = one_loss to fit compatible _ images q.0 q.1 p.0 p.1 q.2 p.2 in
      rw (q.3, p.3, same.0, same.1)
  becomes_one (Invalid place section reason size) x y p q = cc

  front_of : (x : Outcome) → Converts to bytes held x → (front : Front) × HasFront newest bytes front × Becomes front x
  front_of _ (Rewrites taken machine images stream takes p) = (Stream taken machine images, takes, inl (stream, p, refl))
  front_of _ (WouldLose taken machine images section cell takes p) = (Stream taken machine images, takes, inr (section, cell, p, refl))
  front_of _ (Refuses place section reason size fault) = (Invalid place section reason size, fault, refl)

  pub converts_same : (x y : Outcome) → Converts to bytes held x → Converts to bytes held y → y ≡ x
  converts_same x y p q =
      let a = front_of x p in
      let b = front_of y q in
      becomes_one a.0 x y a.2 (rw (one_front newest newest_fit bytes ok a.0 b.0 a.1 b.1) at b.2)

-- the step that compares
pub agreed_gives : (to : Set) → Compatible to newest → agrees to ≡ Gives to
agreed_gives to compatible = ap (agreed to) compatible

-- ---- what is seen

module _ (to : Set) where
  abbrev OfSet : Stock → List ℕ → Outcome → Type 0
  OfSet s bytes x = Converts to bytes s.held x

module _ (to : Set) {i i' : Intake} {o o' : Outlet} {s s' : Stock} where
  -- a stream was taken, and it was written under the set, or some of it
  stream_seen : {images : List Image} {taken : ℕ} (machine : Option ℕ) {stream : List ℕ} {e : Option Ending} → s'.held ≡ s.held
      → LoadReads i i' newest newest.machines images taken (Ok machine) → IsStreamFor to newest (name_of newest machine) images stream
      → WritesAs stream o o' e → Seen (OfSet to s) i i' o o' s s' e
  stream_seen {images} {taken} machine {stream} {e} same reads is w =
      seen_written {P = OfSet to s} stream taken e same
      (reads_as {M = λ n. n ≡ taken} {Q = λ input left. OfSet to s input (done stream s.held taken)} (λ n l. l.0)
      (λ input left l. Rewrites taken (name_of newest machine) images stream l.0 is) reads) w

  loss_seen : {images : List Image} {taken : ℕ} (machine : Option ℕ) {section cell : Option ℕ} {line : ArrayVec ℕ}
      → LoadReads i i' newest newest.machines images taken (Ok machine) → LosesFirst to newest (name_of newest machine) images section cell
      → line.items ≡ lost_line newest section cell → Seen (OfSet to s) i i' o o' s s' (Some (endings.WouldLose line))
  loss_seen {images} {taken} machine {section} {cell} {line} reads is said =
      seen_lost {P = OfSet to s} line taken
      (reads_as {M = λ n. n ≡ taken} {Q = λ input left. OfSet to s input (ended 11 line.items taken)} (λ n l. l.0)
      (λ input left l. rw said (WouldLose taken (name_of newest machine) images section cell l.0 is)) reads)

  refusal_seen : (images : List Image) (taken : ℕ) {r : Refusal} {line : ArrayVec ℕ}
      → LoadReads i i' newest newest.machines images taken (Err (loads.Refused r)) → line.items ≡ refused_line newest r.at r.section r.reason
      → Seen (OfSet to s) i i' o o' s s' (Some (endings.Refused line))
  refusal_seen images taken {r} {line} reads said =
      load_seen {P = OfSet to s} newest newest.machines images taken r line reads (λ input size fault. rw said (Refuses r.at r.section r.reason size fault))

-- ---- the outcome

module _ (to : Set) (fit : IsFit to) (i i' : Intake) (o o' : Outlet) where
  -- what is seen at an ending: an outcome, the line of a rule that fails, or nothing
  data Left (s s' : Stock) : Option Ending → Type 0 where
    Saw : {e : Option Ending} → Compatible to newest → Seen (λ bytes y. Converts to bytes s.held y) i i' o o' s s' e → Left s s' e
    Unlike : {m : Mismatch} {line : String Global} → string_bytes line ≡ mismatch_line m → first_mismatch to newest ≡ Some m → i' ≡ i
        → Left s s' (Some (endings.NotCompatible line))
    Nothing : {e : Option Ending} → is_among (0 ∷ 1 ∷ 6 ∷ 11 ∷ []) (status_of e) ≡ false → ((x : Outcome) → EndsAs i i' o o' s s' e x) → Left s s' e

  left_by : (r : Result (Unit {0}) ConvertFault) (e : Option Ending) → EndsLike r e → Calls to newest i i' o o' r → (s s' : Stock) → s'.held ≡ s.held
      → Left s s' e
  left_by _ _ (IsMismatch m line said) c s s' same = Unlike said c.0 c.1
  left_by _ _ (IsRefused r line said) c s s' same = Saw c.0 (refusal_seen to c.1.images c.1.taken c.1.reads said)
  left_by _ _ (IsLost section cell line said) c s s' same = Saw c.0 (loss_seen to _ c.1.reads c.1.converts.0 said)
  left_by _ _ FailsReading c s s' same = Nothing refl (λ x. comes_to_nothing o o' s s' _ (same_keeps o o' c.1.none) same)
  left_by _ _ LacksMemory c s s' same = Nothing refl (λ x. comes_to_nothing o o' s s' _ (same_keeps o o' c.1) same)
  left_by _ _ (LacksLine m) c s s' same = Nothing refl (λ x. comes_to_nothing o o' s s' _ (same_keeps o o' c.2) same)
  left_by _ _ _ c s s' same = Saw c.0 (stream_seen to _ same c.1.reads c.1.converts.is c.1.converts.puts)

  -- what is seen, under a set that is well formed and that the newest reads
  seen_by : (s s' : Stock) (e : Option Ending) → Left s s' e → SeenAs (ConvertsWith (agrees to) s.held) i i' o o' s s' e
  seen_by s s' e left = grind (arith, agreed_gives, sees_as, other_seen)

  -- ---- known or unknown

  convert_given : (r : Result (Unit {0}) ConvertFault) → Calls to newest i i' o o' r → ConvertGives (agrees to) i i'
  convert_given r c = grind (arith, agreed, agreed_gives)

  -- ---- what it touches

  pub convert_so : (r : Result (Unit {0}) ConvertFault) (e : Option Ending) → EndsLike r e → Calls to newest i i' o o' r → (s : Stock) (asks : Bool)
      → EndsSo i i' o o' s s (convert_course asks) e
  convert_so _ _ (IsDone u) c s asks =
      wrote_so s (convert_course asks) None refl (draws_took c.1.reads.takes) c.1.converts.bytes c.1.converts.puts tt refl (λ f. absurd (wrong f))
  convert_so _ _ (IsMismatch m line said) c s asks =
      kept_so s (convert_course asks) (Some (endings.NotCompatible line)) refl (rw c.1 (draws_none i)) c.2 tt (λ f. c.1)
  convert_so _ _ (IsRefused r line said) c s asks =
      kept_so s (convert_course asks) (Some (endings.Refused line)) refl (draws_took c.1.reads.takes) c.1.none tt (λ f. absurd (wrong f))
  convert_so _ _ (IsLost section cell line said) c s asks =
      kept_so s (convert_course asks) (Some (endings.WouldLose line)) refl (draws_took c.1.reads.takes) c.1.converts.1 tt (λ f. absurd (wrong f))
  convert_so _ _ FailsReading c s asks =
      kept_so s (convert_course asks) (Some endings.ReadFault) refl (draws_took c.1.reads.takes) c.1.none c.1.reads.cause (λ f. absurd (wrong f))
  convert_so _ _ FailsWriting c s asks =
      let put = c.1.converts in
      wrote_so s (convert_course asks) (Some endings.WriteFault) refl (draws_took c.1.reads.takes) put.bytes put.puts put.puts.rose refl (λ f. absurd (wrong f))
  convert_so _ _ LacksMemory c s asks = kept_so s (convert_course asks) (Some endings.NoMemory) refl (rw c.0 (draws_none i)) c.1 tt (λ f. c.0)
  convert_so _ _ (LacksLine m) c s asks = kept_so s (convert_course asks) (Some endings.NoMemory) refl (rw c.1 (draws_none i)) c.2 tt (λ f. c.1)

  -- the outcome of a known input
  content_by : (s s' : Stock) (e : Option Ending) (x : Outcome) → Left s s' e → IfSome i.left IsBytes → i.given < 2 ^ 64
      → ConvertsBy (agrees to) i.left s.held x → EndsAs i i' o o' s s' e x
  content_by s s' e x (Saw compatible v) ok few has =
      content_seen {o = o} {o' = o'} {s = s} {s' = s'} {P = λ bytes y. Converts to bytes s.held y} e x
      (λ bytes y octets p q. converts_same to fit compatible bytes s.held octets x y p q) ok v (rw (agreed_gives to compatible) at has)
  content_by s s' e x (Unlike {m} {line} said first none) ok few has =
      rw none (ends_with 4 (string_bytes line) i x few ((rw (ap (agreed to) first) at has) ∙ ap (λ l. ended 4 l 0) (sym said)))
  content_by s s' e x (Nothing other h) ok few has = h x

  pub converts_stream : (r : Result (Unit {0}) ConvertFault) (e : Option Ending) → EndsLike r e → Calls to newest i i' o o' r → IfSome i.left IsBytes
      → i.given < 2 ^ 64 → ConvertsStream to i i' o o' e
  converts_stream r e like said octets counted = search (arith, content_by, left_by, convert_so, seen_by, convert_given)

-- what would be lost is named in the newest set
pub names_cell : (to : Set) → IsFit to → (i i' : Intake) (o o' : Outlet) (r : Result (Unit {0}) ConvertFault) → Calls to newest i i' o o' r → NamesCell r
names_cell to fit i i' o o' (Err (faults.WouldLose section cell)) c =
    let t = c.1 in
    lost_inside to fit c.0 _ _ (loads_kept newest _ _ _ _ t.reads) _ cell t.converts.0
names_cell to fit i i' o o' r c = tt
