-- The commands that write a text: `show`, `counter`, `analyze` and `check`.
use Rattle.vms_cli.proofs.Facade
use Facade.{◌≡◌, ℕ, suc, ◌+◌, ◌<◌, ◌≤◌, true, List, ◌∷◌, length, get_or, map, inl, inr, Option, Some, None, Ok, Err, IsSomeAnd}
use Facade.{refl, sym, ap, ◌∙◌, subst, arith, [], ◌++◌, length-map, get_or-map, Global, Vec, slice_get-get_or, ArrayVec, reads_as, Held, Intake}
use Facade.{Outlet, Stock, Reason, IsBytes, no_desc, Device, Set, Image, values_text, WellFormed, IsFit, Fault, Takes, one_stream_holds, never_both_holds}
use Facade.{one_fault_holds, Refusal, LoadReads, AreShaped, no_image, name_of, accepted_of, most_given, device_at, is_well_formed, few_cells, Typed, state_of}
use Facade.{AreImagesOf, AreOf, IsOf, machine_of, Ending, Refused, WritesAs, refused_line, Outcome, done, ended, StepAs, Step, Untold, Gives, Ends, Both}
use Facade.{HasText, both, next, Seen, load_seen, seen_written, GivesWithin, Shows, Refuses, at_option, Mismatch, Counters, computed, one_answer_holds}
use Facade.{computed_holds, Finding, answer_of, fetched_set, named_sets, SetText, sets_in, mismatch_line, SetWord, FitStep, fit_text, IsSound, sound_next}
use Facade.{sound_sets, Answers, CountersBy, counted, counter_text, no_state, length-append, Result, IfSome, IsErrAnd, draws_took, drop_at, MatchResult, Reads}
use Facade.{Course, Last, MayFollow, nothing_follows, Analyzes, IsListed, IsTooMuch, ListsTaken, HasListing, Listing, Text, Lists, longest_input, AnalyzeFault}
use Facade.{AnalyzeReason, one_holds, total_holds, wrong, EndsSo, EndsAs, ending_of, comes_to_nothing, same_keeps, SeenAs, Sees, TakesSo, content_seen}
use Facade.{other_seen, reads_all, seen_refused, analyze_course, EndsLike, IsRefused, FailsReading, FailsWriting, GivesListed, IsListing, bytes_taken}
use Facade.{listing_outcome, unlisted_line, kept_so, wrote_so, checked, compared, verdict, AreCompatible, Verdict, HasOutcome, Asked, Check, Outside}
use Facade.{DoesOrStops}
use Rattle.vms_cli.specs.{Commands.ShowCommand.Values, Commands.AnalyzeCommand.IsDone, Commands.AnalyzeCommand.LacksMemory}
use Rattle.vms_frames.specs.declared.fault.Refusal.{Refusal as RefusedAt}
use Rattle.vms_counter_laws.specs.Counters.{Answer}
use Rattle.vms_io.specs.Reading.{Takes as TakesBytesOf}
use Rattle.vms_analyze.specs.Listing.{Refused as Unlisted}
use Rattle.vms_load.specs.declared.fault.LoadFault.TheVariants as faults
use Rattle.vms_counter.specs.declared.finding.Finding.TheVariants as findings
use Rattle.vms_analyze.specs.declared.fault.AnalyzeFault.TheVariants as analyze_faults
use Rattle.vms_analyze.specs.declared.fault.AnalyzeReason.TheVariants as reasons
use Rattle.vms_commands.specs.declared.ending.Ending.TheVariants as endings

-- ---- From what a load and a write say to the outcome of `show`.

abbrev no_device : Device
no_device = record { instance = 0; desc = no_desc; subs = [] }

same_machine : (set : Set) (machine : Option ℕ) → name_of set machine ≡ machine_of set machine
same_machine set machine = grind arith

-- the outcome under a set, if the input is known
abbrev pub shows_under : Option (List ℕ) → Option Held → Set → Outcome → Type 0
shows_under input held set x = IsSomeAnd input (λ bytes. Shows set bytes held x)

-- ---- an input has one outcome

-- what is at the front of an input: a stream, or what is wrong there
pub data Front : Type 0 where
  Stream : (taken : ℕ) (machine : Option (List ℕ)) (images : List Image) → Front
  Invalid : (place : ℕ) (section : Option ℕ) (reason : Reason) (size : ℕ) → Front

abbrev pub HasFront : Set → List ℕ → Front → Type 0
HasFront set input (Stream taken machine images) = Takes set set.machines input taken machine images
HasFront set input (Invalid place section reason size) = Fault set set.machines input place section reason size

pub one_front : (set : Set) → IsFit set → (input : List ℕ) → IsBytes input → (a b : Front) → HasFront set input a → HasFront set input b → b ≡ a
one_front set fit input ok (Stream n machine images) (Stream m other others) t u =
    let one = one_stream_holds set set.machines fit.well fit.heads input m n other machine others images u t in
    rw (one.lengths, one.machines, one.states)
one_front set fit input ok (Stream n machine images) (Invalid place section reason size) t f =
    absurd (never_both_holds set set.machines fit.well fit.heads input ok n machine images place section reason size t f)
one_front set fit input ok (Invalid place section reason size) (Stream n machine images) f t =
    absurd (never_both_holds set set.machines fit.well fit.heads input ok n machine images place section reason size t f)
one_front set fit input ok (Invalid place section reason size) (Invalid at device why long) f g =
    let one = one_fault_holds set set.machines input ok at place device section why reason long size g f in
    rw (one.places, one.sections, one.reasons, one.sizes)

abbrev shown : Set → Option Held → Front → Outcome
shown set held (Stream taken machine images) = done (values_text set machine images) held taken
shown set held (Invalid place section reason size) = ended 1 (refused_line set place section reason) (place + size)

front_shown : (set : Set) (bytes : List ℕ) (held : Option Held) (x : Outcome) → Shows set bytes held x
    → (front : Front) × HasFront set bytes front × (x ≡ shown set held front)
front_shown set bytes held _ (Values taken machine images takes) = (Stream taken machine images, takes, refl)
front_shown set bytes held _ (Refuses place section reason size fault) = (Invalid place section reason size, fault, refl)

pub shows_same : (set : Set) → IsFit set → (bytes : List ℕ) (held : Option Held) (x y : Outcome) → IsBytes bytes → Shows set bytes held x
    → Shows set bytes held y → y ≡ x
shows_same set fit bytes held x y ok p q = grind (arith, front_shown, one_front)

-- ---- what is seen

module _ (set : Set) where
  abbrev OfSet : Option Held → List ℕ → Outcome → Type 0
  OfSet held bytes x = Shows set bytes held x

  -- a stream was taken, and its text was written, or some of it
  pub text_seen : {i i' : Intake} {o o' : Outlet} {s s' : Stock} (images : List Image) (taken : ℕ) (machine : Option ℕ) (e : Option Ending) → s'.held ≡ s.held
      → LoadReads i i' set (accepted_of set None) images taken (Ok machine) → WritesAs (values_text set (machine_of set machine) images) o o' e
      → Seen (OfSet s.held) i i' o o' s s' e
  text_seen {i} {i'} {o} {o'} {s} images taken machine e held reads w =
      let name = machine_of set machine in
      let text = values_text set name images in
      seen_written {P = OfSet s.held} text taken e held
      (reads_as {M = λ n. n ≡ taken} {Q = λ input left. OfSet s.held input (done text s.held taken)} (λ n l. l.0)
      (λ input left l. Values taken name images (rw (same_machine set _) at l.0))
      reads) w

  pub refusal_seen : {i i' : Intake} {o o' : Outlet} {s s' : Stock} (images : List Image) (taken : ℕ) (r : Refusal) (line : ArrayVec ℕ)
      → LoadReads i i' set (accepted_of set None) images taken (Err (faults.Refused r)) → line.items ≡ refused_line set r.at r.section r.reason
      → Seen (OfSet s.held) i i' o o' s s' (Some (Refused line))
  refusal_seen {i} {i'} {o} {o'} {s} images taken r line reads said =
      load_seen {P = OfSet s.held} set (accepted_of set None) images taken r line reads
      (λ input size fault. rw said (Refuses r.at r.section r.reason size fault))

-- ---- what is printed

module _ (set : Set) where
  are_from : (devices : List Device) (images : List Image) → length images ≡ length devices
      → ((k : ℕ) → k < length devices → IsOf set (get_or devices k no_device) (get_or images k (state_of no_image))) → AreOf set devices images
  are_from [] [] all each = tt
  are_from (d ∷ devices) (image ∷ images) all each = (each 0 (omega arith), are_from devices images (omega arith) (λ k lt. each (suc k) (omega arith)))
  are_from _ _ all each = absurd (omega arith)

  pub are_of : is_well_formed set ≡ true → (images : List Typed) → AreShaped set images → AreOf set set.devices (map state_of images)
  are_of well images h = are_from _ _ (length-map images state_of ∙ h.all) (λ k lt.
      let shape = h.each k lt in
      let is : IsOf set (device_at set k) (state_of (get_or images k no_image)) =
      record { cells = shape.cells; subs = shape.subs; few = omega (arith, few_cells set well k) } in
      subst (λ (x : Image). IsOf set (device_at set k) x) (sym (get_or-map _ images k _ _ (omega arith))) is)

-- how many bytes the input gives
pub gives_none : (step : Step Set) (i : Intake) → GivesWithin step i i
gives_none Untold i = inl refl
gives_none (Gives set) i = omega arith
gives_none (Ends status line) i = refl

pub gives_within : {T : Type 0} (m : T → Set) (step : Step Set) (t : T) (i i' : Intake) → StepAs m step (Ok t)
    → i'.given ≤ i.given + most_given (m t) → WellFormed (m t) → GivesWithin step i i'
gives_within m Untold t i i' h within well = inr (m t, well, within)
gives_within m (Gives set) t i i' h within well = rw h at within
gives_within m (Ends status line) t i i' h within well = absurd h

-- ---- Of `counter`: what is answered is the text that its steps give.

abbrev pub AreFit : Step (Both Set) → Type 0
AreFit Untold = Unit {0}
AreFit (Gives sets) = IsFit sets.old × IsFit sets.new
AreFit (Ends status line) = Unit {0}

fit_second : (old : Set) (s : Step Set) → IsFit old → FitStep s → AreFit (next s (λ new. Gives (record { old = old; new = new })))
fit_second old (Gives new) a b = (a, b)
fit_second old _ a b = tt

fit_both : (s r : Step Set) → FitStep s → FitStep r → AreFit (both s r)
fit_both s r a b = grind (arith, fit_second)

fit_after : (s : Step (Both SetText)) → AreFit (next s sets_in)
fit_after (Gives texts) = fit_both _ _ (fit_text texts.old) (fit_text texts.new)
fit_after _ = tt

pub fit_sets : (held : Option Held) (old new : SetWord) → AreFit (named_sets held old new)
fit_sets held old new = fit_after (both (fetched_set held old) (fetched_set held new))

-- ---- the text

-- there is one answer, the one that is computed
pub answered : (old new : Set) → IsFit old → IsFit new → (answer : Answer) → Counters old new answer → answer ≡ computed old new
answered old new fit fit' answer c = one_answer_holds old new fit.well answer (computed old new) c (computed_holds old new fit.well fit'.well fit'.heads)

text_of_answer : (held : Option Held) (s : Step (Both Set)) (o : Outcome) → AreFit s → CountersBy s held o → HasText held (next s counted) o
text_of_answer held (Gives sets) _ fit (Answers answer c) = rw (answered _ _ fit.0 fit.1 answer c)
text_of_answer held _ o fit has = has

pub counters_text : (held : Option Held) (old new : SetWord) (o : Outcome) → CountersBy (named_sets held old new) held o
    → HasText held (next (named_sets held old new) counted) o
counters_text held old new o has = text_of_answer held (named_sets held old new) o (fit_sets held old new) has

pub text_counters : (held : Option Held) (s : Step (Both Set)) (o : Outcome) → AreFit s → HasText held (next s counted) o → CountersBy s held o
text_counters held (Gives sets) o fit has = rw has (Answers (computed sets.old sets.new) (computed_holds sets.old sets.new fit.0.well fit.1.well fit.1.heads))
text_counters held _ o fit has = has

pub sound_counter : (held : Option Held) (old new : SetWord) → IsSound held (next (named_sets held old new) counted)
sound_counter held old new = sound_next held (named_sets held old new) _ (sound_sets held old new) (λ sets. tt)

-- ---- what is written

are_shaped : (set : Set) (images : List Typed) → AreImagesOf set images → AreShaped set images
are_shaped set images are = record {
  all = are.one_each;
  each = λ k lt. are.each k (get_or images k no_image) (slice_get-get_or images k _ (omega arith));
}

-- one image for each device is what is printed
pub printed_of : (set : Set) → is_well_formed set ≡ true → (images : List Typed) → AreImagesOf set images → AreOf set set.devices (map state_of images)
printed_of set well images are = are_of set well images (are_shaped set images are)

-- the text of what is found
module _ (old new : Set) (f : Finding) (m : Mismatch) where
  pub no_state_is : (text : List ℕ) → f ≡ findings.NoState m → text ≡ mismatch_line m ++ no_state → text ≡ counter_text old new (answer_of old f)
  no_state_is text is e = cc

  pub state_is : (machine : Option ℕ) (images : Vec Typed Global) (r : RefusedAt) (head : List ℕ) (items : List Typed) → f ≡ findings.State m machine images r
      → head ≡ mismatch_line m ++ refused_line new r.at r.section r.reason → items ≡ images.items
      → head ++ values_text old (at_option old.machines machine) (map state_of items) ≡ counter_text old new (answer_of old f)
  state_is machine images r head items is e e' = cc

-- ---- from what the listing of an input says to how `analyze` ends

-- how it ends, by the result of the call
pub listed_like : (listed : Result (Unit {0}) AnalyzeFault) (work : Result (Unit {0}) Ending)
    → MatchResult listed (λ u. work ≡ Ok u) (λ fault. IsErrAnd work (λ e. EndsLike (Err fault) (Some e))) → EndsLike listed (ending_of work)
listed_like (Ok u) work is = rw is (IsDone u)
listed_like (Err fault) (Ok u) is = absurd is
listed_like (Err fault) (Err e) is = is

-- an input has one outcome
pub has_listing : (input : List ℕ) (held : Option Held) → (o : Outcome) × IsListing held input o
has_listing input held =
    let has : HasListing input = total_holds input in
    (listing_outcome has.listing input held, record { listing = has.listing; lists = has.lists; is = refl })

pub only_listing : (input : List ℕ) (held : Option Held) (a b : Outcome) → IsListing held input a → IsListing held input b → a ≡ b
only_listing input held a b p q = cc (one_holds input p.listing q.listing p.lists q.lists)

-- ---- what is taken

-- bytes with this listing, and the number that is read of an input with it
abbrev HasListed : Listing → List ℕ → ℕ → Type 0
HasListed listing input n = Lists input listing × (bytes_taken input ≡ n)

abbrev Took : Intake → Intake → Listing → Type 0
Took i i' listing = Reads Last i i' (λ n. n ≤ longest_input + 1) (TakesSo (HasListed listing))

took_so : (listing : Listing) (bytes more : List ℕ) → length bytes ≡ bytes_taken (bytes ++ more) → Lists (bytes ++ more) listing
    → TakesSo (HasListed listing) (bytes ++ more) more
took_so listing bytes more all lists = record {
  taken = bytes_taken (bytes ++ more);
  says = (lists, refl);
  within = omega arith;
  rest = ap (λ l. Some l) (sym (drop_at bytes more (bytes_taken (bytes ++ more)) all));
}

took_by : {course : Course} {i i' : Intake} {IsLong : ℕ → Type 0} {Says : List ℕ → List ℕ → Type 0} {listing : Listing} (r : Reads course i i' IsLong Says)
    → length r.bytes ≤ longest_input + 1
    → ((more : List ℕ) → MayFollow Last i'.left more → TakesSo (HasListed listing) (r.bytes ++ more) more) → Took i i' listing
took_by r few says = record { bytes = r.bytes; takes = r.takes; long = few; says = says; cause = tt }

listed_took : {i i' : Intake} {listing : Listing} → IsListed i i' listing → Took i i' listing
listed_took {i} {i'} {listing} p =
    let r = p.reads in
    took_by r (omega arith) (λ more f.
    took_so _ _ more (omega (arith, ap length (nothing_follows _ more p.end f), length-append r.bytes more)) (r.says more f))

too_much_took : {i i' : Intake} {listing : Listing} → IsTooMuch i i' listing → Took i i' listing
too_much_took {i} {i'} {listing} p =
    let r = p.reads in
    took_by r (omega arith) (λ more f. took_so _ _ more (omega (arith, length-append r.bytes more)) (r.says more tt))

refused_took : {i i' : Intake} (at : ℕ) (reason : AnalyzeReason) → ListsTaken i i' (Err (analyze_faults.Refused at reason)) → Took i i' (Unlisted at reason)
refused_took at reasons.TooLong p = too_much_took p
refused_took at _ p = listed_took p

-- ---- what is seen

module _ (i i' : Intake) (o o' : Outlet) where
  -- this outcome is that of the listing, with as many bytes as were taken
  listing_sees : (s : Stock) (listing : Listing) (t : Took i i' listing) (x : Outcome)
      → ((n : ℕ) (input : List ℕ) → bytes_taken input ≡ n → n ≡ length t.bytes → x ≡ listing_outcome listing input s.held)
      → x.taken ≡ length t.bytes → Sees (IsListing s.held) i i' x
  listing_sees s listing t x same all =
      reads_as {M = λ n. n ≡ x.taken} {Q = λ input left. IsListing s.held input x} (λ n l. l ∙ sym all)
      (λ input left l. record { listing = listing; lists = l.0; is = same (length t.bytes) input l.1 refl }) (reads_all _ t (λ input left so. so))

  listing_seen : (s : Stock) (text : List ℕ) (e : Option Ending) → IsListed i i' (Text text) → WritesAs text o o' e → Seen (IsListing s.held) i i' o o' s s e
  listing_seen s text e p w =
      let t = listed_took p in
      seen_written {P = IsListing s.held} text (length t.bytes) e refl (listing_sees s _ t _ (λ k input all is. rw (sym (all ∙ is))) refl) w

  unlisted_seen : (s : Stock) (at : ℕ) (reason : AnalyzeReason) (line : ArrayVec ℕ) → ListsTaken i i' (Err (analyze_faults.Refused at reason))
      → line.items ≡ unlisted_line at reason → Seen (IsListing s.held) i i' o o' s s (Some (endings.Refused line))
  unlisted_seen s at reason line p said =
      let t = refused_took at reason p in
      seen_refused {P = IsListing s.held} line (length t.bytes)
      (listing_sees s _ t _
      (λ k input all is. rw (said, sym (all ∙ is))) refl)

  pub list_seen : (r : Result (Unit {0}) AnalyzeFault) (e : Option Ending) → EndsLike r e → Analyzes i i' o o' r → (s : Stock)
      → SeenAs (IsListing s.held) i i' o o' s s e
  list_seen _ _ (IsDone u) a s = λ among. listing_seen s a.text None a.listed a.written
  list_seen _ _ (IsRefused at reason line said) a s = λ among. unlisted_seen s at reason line a.0 said
  list_seen _ _ FailsReading a s = other_seen _ refl
  list_seen _ _ FailsWriting a s = λ among. listing_seen s a.text _ a.listed a.written
  list_seen _ _ LacksMemory a s = other_seen _ refl

  -- the outcome of a known input
  pub list_content : (r : Result (Unit {0}) AnalyzeFault) (e : Option Ending) → EndsLike r e → Analyzes i i' o o' r → IfSome i.left IsBytes
      → (s : Stock) (x : Outcome) → IsSomeAnd i.left (λ bytes. IsListing s.held bytes x) → EndsAs i i' o o' s s e x
  list_content _ _ FailsReading a octets s x is = comes_to_nothing o o' s s _ (same_keeps o o' a.1) refl
  list_content _ _ LacksMemory a octets s x is = comes_to_nothing o o' s s _ (same_keeps o o' a.1) refl
  list_content r e like a octets s x is =
      content_seen {o = o} {o' = o'} {s = s} {s' = s} {P = IsListing s.held} e x (λ bytes y ok p q. only_listing bytes s.held y x q p) octets
      (list_seen r e like a s refl) is

  -- ---- known or unknown

  few_given : (bytes : List ℕ) → TakesBytesOf i i' bytes → length bytes ≤ longest_input + 1 → GivesListed i.given i'.given
  few_given bytes t few = omega arith

  pub list_given : (r : Result (Unit {0}) AnalyzeFault) → Analyzes i i' o o' r → GivesListed i.given i'.given
  list_given (Err (analyze_faults.Refused at reason)) a = let t = refused_took at reason a.0 in few_given t.bytes t.takes t.long
  list_given (Err analyze_faults.ReadFault) a = few_given a.0.bytes a.0.takes a.0.few
  list_given (Err analyze_faults.NoMemory) a = few_given a.0.bytes a.0.takes a.0.few
  list_given _ a = let t = listed_took a.listed in few_given t.bytes t.takes t.long

  -- ---- what is touched

  pub list_so : (r : Result (Unit {0}) AnalyzeFault) (e : Option Ending) → EndsLike r e → Analyzes i i' o o' r → (s : Stock)
      → EndsSo i i' o o' s s analyze_course e
  list_so _ _ (IsDone u) a s = wrote_so s _ None refl (draws_took (listed_took a.listed).takes) a.text a.written tt refl (λ f. absurd (wrong f))
  list_so _ _ (IsRefused at reason line said) a s = kept_so s _ _ refl (draws_took (refused_took at reason a.0).takes) a.1 tt (λ f. absurd (wrong f))
  list_so _ _ FailsReading a s = kept_so s _ _ refl (draws_took a.0.takes) a.1 a.0.rose (λ f. absurd (wrong f))
  list_so _ _ FailsWriting a s = wrote_so s _ _ refl (draws_took (listed_took a.listed).takes) a.text a.written a.written.rose refl (λ f. absurd (wrong f))
  list_so _ _ LacksMemory a s = kept_so s _ _ refl (draws_took a.0.takes) a.1 tt (λ f. absurd (wrong f))

-- ---- of `check`: its steps are known where the shelf is, and where it is done the two sets are compatible

sound_verdict : (held : Option Held) (m : Option Mismatch) → IsSound held (verdict m)
sound_verdict held m = grind arith

pub sound_check : (held : Option Held) (old new : SetWord) → IsSound held (checked held old new)
sound_check held old new = sound_next held (named_sets held old new) _ (sound_sets held old new) (λ sets. sound_verdict held _)

-- ---- Where `check` is done the two sets are compatible.

module _ (status : ℕ) (old new : Outside) (zero : status ≡ 0) where
  -- an outcome that is done or stopped at has the status 0 where the answer has
  none_else : (o : Outcome) → 0 < o.status → DoesOrStops status old new o → ⊥
  none_else o some e = grind arith

  none_fails : (held : Option Held) (m : Option Mismatch) → ((o : Outcome) → HasText held (verdict m) o → DoesOrStops status old new o) → m ≡ None
  none_fails held None all = refl
  none_fails held (Some m) all = absurd (none_else _ (omega arith) (all (ended 4 (mismatch_line m) 0) refl))

  are_compatible : (held : Option Held) (s : Step (Both Set)) → IsSound held s
      → ((o : Outcome) → HasText held (next s compared) o → DoesOrStops status old new o) → AreCompatible s
  are_compatible held Untold sound all = tt
  are_compatible held (Gives sets) sound all = none_fails held _ all
  are_compatible held (Ends k line) sound all = none_else _ sound (all (ended k line 0) refl)

pub verdict_so : (asked : Option Asked) (left : Option (List ℕ)) (held : Option Held) (status : ℕ) (old new : Outside)
    → ((o : Outcome) → HasOutcome asked left held o → DoesOrStops status old new o) → Verdict asked held status
verdict_so (Some (Check a b)) left held status old new all = λ zero. are_compatible status old new zero held _ (sound_sets held a b) all
verdict_so asked left held status old new all = tt
