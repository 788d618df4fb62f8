-- The run of a command, from the steps before its work, what is seen of the input, and the work
-- itself.
use Rattle.vms_board_commands.proofs.Facade
use Facade.{◌≡◌, ℕ, Bool, true, false, ◌||◌, List, [], ◌∷◌, ◌++◌, Result, Ok, Err, refl, Option, Some, None, or_right, ArrayVec, Saves}
use Facade.{SaveFault, Rose, Looks, Intake, Outlet, Stock, serves_none, Goes, PlayFault, asked, draws_none, looked_so, same_so, unshelved_so, writes_serve}
use Facade.{wrong, mapped_by, Course, Draws, EndsSo, Risen, is_among, of_shelf, text_course, SetCause, WritesAs, status_of, Ending, Refused, ReadFault}
use Facade.{drill_course, play_course, save_course, stream_course, ending_by, ◌+◌, ◌≤◌, length, drop, drop_at, IfSome, sym, ap, ◌∙◌, arith}
use Facade.{length-append, length-drop, Consumes, IsSomeAnd, same_Some, reads_as, reads_told, Last, Reads, Takes, IsBytes, Image, Set, Fault, Refusal}
use Facade.{LoadReads, fault_within, text_written, EndsAs, EndsWith, Outcome, TakesBytes, done, ended, StepAs, Step, WouldLose, Seen, SeenAs, Sees, WithGiven}
use Facade.{◌<◌, ◌^◌, subst, Held, TextEnds, next, comes_to_nothing, ended_by, quiet_same, so_since, text_ends, then_text}
use Rattle.vms_board_commands.specs.{Save.ending_by as save_ending, Runs.Runs, Runs.RunsBehind, Runs.Task, Runs.moment, Runs.unread_task}
use Rattle.vms_commands.proofs.EndLemmas.{same_keeps}
use Rattle.vms_commands.specs.{Steps.HasBy, Steps.HasText}
use Rattle.vms_load.specs.declared.fault.LoadFault.TheVariants as loads

-- ---- lists of statuses

or_here : (b c d : Bool) → b || c ≡ true → (c ≡ true → d ≡ true) → b || d ≡ true
or_here b c d e f = grind arith

-- a status is in a joined list if it is in its first part
pub among_left : (xs ys : List ℕ) (k : ℕ) → is_among xs k ≡ true → is_among (xs ++ ys) k ≡ true
among_left [] ys k e = absurd (cc)
among_left (n ∷ xs) ys k e = or_here _ _ _ e (among_left xs ys k)

pub among_right : (xs ys : List ℕ) (k : ℕ) → is_among ys k ≡ true → is_among (xs ++ ys) k ≡ true
among_right [] ys k e = e
among_right (n ∷ xs) ys k e = or_right _ _ (among_right xs ys k e)

-- the statuses of the shelf are included if the command reads the shelf
pub shelf_has : (own : List ℕ) (asks : Bool) (k : ℕ) → asks ≡ true → is_among (of_shelf true) k ≡ true → is_among (own ++ of_shelf asks) k ≡ true
shelf_has own asks k is one = among_right own _ k (rw is (one))

-- ---- a set or a script that isn't available

-- a course that may read the shelf, and the statuses that this allows
pub record MayAsk (course : Course) (asks : Bool) : Type 0 where
  pub held : (k : ℕ) → asks ≡ true → is_among (of_shelf true) k ≡ true → is_among course.statuses k ≡ true
  pub memory : is_among course.statuses 10 ≡ true

pub text_asks : (own takes : List ℕ) (asks : Bool) → is_among own 10 ≡ true → MayAsk (text_course own takes asks) asks
text_asks own takes asks ten = record { held = shelf_has own asks; memory = among_left own _ 10 ten }

pub save_asks : MayAsk save_course true
save_asks = text_asks (0 ∷ 6 ∷ 10 ∷ []) [] true refl

pub stream_asks : (asks : Bool) → MayAsk (stream_course asks) asks
stream_asks asks = text_asks (0 ∷ 1 ∷ 5 ∷ 6 ∷ 10 ∷ []) (0 ∷ 1 ∷ 5 ∷ 6 ∷ []) asks refl

pub play_asks : MayAsk play_course true
play_asks = record { held = shelf_has (0 ∷ 6 ∷ 10 ∷ []) true; memory = refl }

-- input and output aren't touched
module _ (course : Course) (asks : Bool) (may : MayAsk course asks) (i : Intake) (o : Outlet) {s s' : Stock} (looks : Looks s s') (same : course.asks ≡ false → s' ≡ s) where
  untouched : (e : Option Ending) → is_among course.statuses (status_of e) ≡ true → Risen i i o o s s' e → EndsSo i i o o s s' course e
  untouched e can risen = looked_so i o course e looks same can risen

-- ---- a text is written, or nothing

-- whether or not the input was read, the shelf isn't used any more
module _ {i i' : Intake} {o o' : Outlet} (s : Stock) (course : Course) (e : Option Ending) (can : is_among course.statuses (status_of e) ≡ true) (draws : Draws i i') where
  pub wrote_so : (text : List ℕ) → WritesAs text o o' e → Risen i i' o o' s s e → is_among course.writes (status_of e) ≡ true
      → (is_among course.takes (status_of e) ≡ false → i' ≡ i) → EndsSo i i' o o' s s course e
  wrote_so text w risen writes input =
      unshelved_so s course e can risen (λ f. absurd (asked (is_among course.writes (status_of e)) writes f)) input draws (writes_serve text o o' e w)

  pub kept_so : o' ≡ o → Risen i i' o o' s s e → (is_among course.takes (status_of e) ≡ false → i' ≡ i) → EndsSo i i' o o' s s course e
  kept_so same risen input = unshelved_so s course e can risen (λ f. same_keeps o o' same) input draws (rw same (serves_none o))

module _ (i : Intake) (s : Stock) (o o' : Outlet) where
  pub saved_so : (bytes : List ℕ) (r : Result Unit SaveFault) → Saves bytes o o' r → EndsSo i i o o' s s save_course (mapped_by save_ending r)
  saved_so bytes r h = grind (arith, wrote_so, draws_none, same_so)

  pub drilled_so : (text : List ℕ) (e : Option Ending) → WritesAs text o o' e → EndsSo i i o o' s s drill_course e
  drilled_so text e w = grind (arith, wrote_so, draws_none)

-- ---- a stream is read

-- whether or not the command reads the shelf
module _ {asks : Bool} {i i' : Intake} (s : Stock) (draws : Draws i i') where
  pub traced_so : (text : List ℕ) (o o' : Outlet) (e : Option Ending) → WritesAs text o o' e → EndsSo i i' o o' s s (stream_course asks) e
  traced_so text o o' e w = grind (arith, wrote_so, wrong)

  pub refused_so : (o : Outlet) (line : ArrayVec ℕ) → EndsSo i i' o o s s (stream_course asks) (Some (Refused line))
  refused_so o line = kept_so s (stream_course asks) (Some (Refused line)) refl draws refl tt (λ f. absurd (wrong f))

  pub unread_so : (o : Outlet) → Rose i.faults i'.faults → EndsSo i i' o o s s (stream_course asks) (Some ReadFault)
  unread_so o rose = kept_so s (stream_course asks) (Some ReadFault) refl draws refl rose (λ f. absurd (wrong f))

-- ---- a session is played

module _ (i : Intake) {o o' : Outlet} {s s' : Stock} where
  played : {r : Result Unit PlayFault} (e : Option Ending) → is_among play_course.statuses (status_of e) ≡ true → Risen i i o o' s s' e → is_among play_course.writes (status_of e) ≡ true
      → Goes o o' s s' r → EndsSo i i o o' s s' play_course e
  played e can risen does g = search (arith, asked, is_among, wrong, draws_none)

  pub played_so : (r : Result Unit PlayFault) → Goes o o' s s' r → EndsSo i i o o' s s' play_course (mapped_by ending_by r)
  played_so r g = grind (arith, played)

-- ---- what can be said of an input: from the calls that read it to the ending of a command: what is read

pub takes_bytes : {i i' : Intake} {bytes : List ℕ} (n : ℕ) → Takes i i' bytes → length bytes ≡ n → TakesBytes i i' n
takes_bytes {i} {i'} {bytes} n t all = record { left = rest i.left i'.left t.told; given = cc }
  where
    rest : (old new : Option (List ℕ)) → Consumes old new bytes → IfSome old (λ input. new ≡ Some (drop n input))
    rest None new took = tt
    rest (Some input) None took = absurd took
    rest (Some input) (Some more) took = rw (sym (ap (drop n) took ∙ drop_at bytes more n all))

-- so many bytes are read from an input, and this is left
pub record TakesSo (Says : List ℕ → ℕ → Type 0) (input left : List ℕ) : Type 0 where
  pub taken : ℕ
  pub says : Says input taken
  pub within : taken ≤ length input
  pub rest : Some left ≡ Some (drop taken input)

-- if a number of bytes is read and this is left, they are the bytes that were read
same_length : (bytes more : List ℕ) (n : ℕ) → n ≤ length (bytes ++ more) → Some more ≡ Some (drop n (bytes ++ more)) → n ≡ length bytes
same_length bytes more n within left =
    omega (arith, ap length (same_Some more (drop n (bytes ++ more)) left), length-append bytes more, length-drop n (bytes ++ more))

pub reads_all : {i i' : Intake} {L : ℕ → Type 0} {P : List ℕ → List ℕ → Type 0} (Says : List ℕ → ℕ → Type 0) (r : Reads Last i i' L P) → ((input left : List ℕ) → P input left → TakesSo Says input left)
    → Reads Last i i' (λ n. n ≡ length r.bytes) (λ input left. Says input (length r.bytes))
reads_all Says r so = record {
  bytes = r.bytes;
  takes = r.takes;
  long = refl;
  says = λ more f. let t = so (r.bytes ++ more) more (r.says more f) in rw (same_length _ more _ t.within t.rest) at t.says;
  cause = tt;
}

-- ---- steps before

-- nothing is seen of what wasn't fetched
pub set_other : (asks : Bool) (s s' : Stock) (e : Option Ending) → SetCause asks s s' e → is_among (0 ∷ 1 ∷ 6 ∷ 11 ∷ []) (status_of e) ≡ false
set_other asks s s' e c = grind arith

ended-as : {i i' : Intake} (P : List ℕ → Outcome → Type 0) (status : ℕ) (line : List ℕ) (taken : ℕ) → Sees P i i' (ended status line taken) → EndsWith status line i i' (ended status line taken)
ended-as P status line taken sees = record { status_is = refl; parts = refl; note = refl; taken = takes_bytes taken sees.takes sees.long }

module _ {i i' : Intake} {o o' : Outlet} {s s' : Stock} where
  -- nothing is seen at another ending
  pub other_seen : {P : List ℕ → Outcome → Type 0} (e : Option Ending) → is_among (0 ∷ 1 ∷ 6 ∷ 11 ∷ []) (status_of e) ≡ false → SeenAs P i i' o o' s s' e
  other_seen e other = λ among. absurd (wrong (sym among ∙ other))

  -- an outcome by one meaning is one by another
  pub sees_as : {P Q : List ℕ → Outcome → Type 0} {e : Option Ending} → ((bytes : List ℕ) (x : Outcome) → P bytes x → Q bytes x) → Seen P i i' o o' s s' e → Seen Q i i' o o' s s' e
  sees_as {P} {Q} {e} h v = search (arith, reads_as)

  -- with what the step before gave
  pub seen_given : {A T : Type 0} {P : A → List ℕ → Outcome → Type 0} (m : T → A) (step : Step A) (t : T) (e : Option Ending) → StepAs m step (Ok t) → SeenAs (P (m t)) i i' o o' s s' e
      → SeenAs (WithGiven step P) i i' o o' s s' e
  seen_given {A} {T} {P} m step t e h seen = λ among. sees_as {P = P (m t)} {Q = WithGiven step P} (λ bytes x p. (m t, grind arith, p)) (seen among)

  -- ---- what is done

  -- a text was written, or some of it
  pub seen_written : {P : List ℕ → Outcome → Type 0} (text : List ℕ) (taken : ℕ) (e : Option Ending) → s'.held ≡ s.held → Sees P i i' (done text s.held taken) → WritesAs text o o' e → Seen P i i' o o' s s' e
  seen_written text taken e held sees w = search (arith, done, text_written, takes_bytes)

  pub seen_refused : {P : List ℕ → Outcome → Type 0} (line : ArrayVec ℕ) (taken : ℕ) → Sees P i i' (ended 1 line.items taken) → Seen P i i' o o' s s' (Some (Refused line))
  seen_refused {P} line taken sees = record { outcome = ended 1 line.items taken; sees = sees; ends = ended-as P 1 _ taken sees }

  -- a refused load reads the bytes up to the end of the invalid unit
  pub load_seen : {P : List ℕ → Outcome → Type 0} (set : Set) (names : List (List ℕ)) (images : List Image) (taken : ℕ) (r : Refusal) (line : ArrayVec ℕ) → LoadReads i i' set names images taken (Err (loads.Refused r))
      → ((input : List ℕ) (size : ℕ) → Fault set names input r.at r.section r.reason size → P input (ended 1 line.items (r.at + size))) → Seen P i i' o o' s s' (Some (Refused line))
  load_seen {P} set names images taken r line reads is =
      seen_refused {P = P} line (length reads.bytes)
      (reads_all (λ bytes n. P bytes (ended 1 line.items n)) reads
      (λ input left l. record {
        taken = r.at + l.0;
        says = is input l.0 l.1;
        within = fault_within set names input r.at _ _ l.0 l.1;
        rest = l.2;
      }))

  pub seen_lost : {P : List ℕ → Outcome → Type 0} (line : ArrayVec ℕ) (taken : ℕ) → Sees P i i' (ended 11 line.items taken) → Seen P i i' o o' s s' (Some (WouldLose line))
  seen_lost {P} line taken sees = record { outcome = ended 11 line.items taken; sees = sees; ends = ended-as P 11 _ taken sees }

  -- ---- the outcome of a known input

  -- if an input has one outcome, it is the one that is seen
  pub content_seen : {P : List ℕ → Outcome → Type 0} (e : Option Ending) (x : Outcome) → ((bytes : List ℕ) (y : Outcome) → IsBytes bytes → P bytes x → P bytes y → y ≡ x) → IfSome i.left IsBytes
      → Seen P i i' o o' s s' e → IsSomeAnd i.left (λ bytes. P bytes x) → EndsAs i i' o o' s s' e x
  content_seen {P} e x one octets v has =
      rw (same i.left octets (reads_told (λ (bytes : List ℕ) (left : Option (List ℕ)). P bytes v.outcome) tt v.sees) has) at v.ends
    where
      same : (left : Option (List ℕ)) → IfSome left IsBytes → IfSome left (λ bytes. P bytes v.outcome) → IsSomeAnd left (λ bytes. P bytes x) → v.outcome ≡ x
      same None ok told has = absurd has
      same (Some bytes) ok told has = one bytes v.outcome ok has told

-- ---- the run of a command, if a step before its work ended it

pub lacks_runs : {A T : Type 0} (m : T → A) (P : A → Outcome → Type 0) (step : Step A) {t : Task} {asks : Bool} {i : Intake} {o : Outlet} {s s' : Stock}
    {e : Ending}
    → MayAsk t.course asks → i.given < 2 ^ 64 → Looks s s' → (t.course.asks ≡ false → s' ≡ s) → SetCause asks s s' (Some e)
    → StepAs {A = A} {T = T} m step (Err e)
    → ((x : Outcome) → t.has i.left s.held x → HasBy P step x) → t.gives s.held i i → Runs t (moment i o s) (moment i o s') (Some e)
lacks_runs m P step {t} {asks} {i} {o} {s} {s'} {e} may few looks same cause had has gives =
    search (arith, ended_by, quiet_same, other_seen, set_other, untouched)

pub lacks_text : {A T : Type 0} (m : T → A) (f : A → Step (List ℕ)) (step : Step A) {Has : Option Held → Outcome → Type 0} {course : Course} {asks : Bool}
    {i : Intake} {o : Outlet} {s s' : Stock} {e : Ending}
    → MayAsk course asks → i.given < 2 ^ 64 → Looks s s' → (course.asks ≡ false → s' ≡ s) → SetCause asks s s' (Some e) → StepAs {A = A} {T = T} m step (Err e)
    → ((x : Outcome) → Has s.held x → HasText s.held (next step f) x) → Runs (unread_task Has course) (moment i o s) (moment i o s') (Some e)
lacks_text m f step {Has} {course} {asks} {i} {o} {s} may few looks same cause had has =
    lacks_runs m (λ a x. HasText s.held (f a) x) step {t = unread_task Has course} may few looks same cause had (λ x h. grind arith) tt

-- ---- a text is written

-- by a course that writes only then and reads nothing
pub text_runs : (text : Step (List ℕ)) {Has : Option Held → Outcome → Type 0} {course : Course} {i : Intake} {o o' : Outlet} {s s' : Stock} {e : Option Ending}
    → i.given < 2 ^ 64 → s'.held ≡ s.held → TextEnds text o o' e → EndsSo i i o o' s s' course e → (course.writes ≡ 0 ∷ 6 ∷ []) × (course.takes ≡ [])
    → ((x : Outcome) → Has s.held x → HasText s.held text x) → Runs (unread_task Has course) (moment i o s) (moment i o' s') e
text_runs text {Has} {course} {i} {o} {o'} {s} {s'} {e} few held ends so lists has = search (arith, text_ends, wrong, is_among)

-- after a step that gave something
pub then_runs : {A T : Type 0} (m : T → A) (f : A → Step (List ℕ)) (step : Step A) (t : T) {Has : Option Held → Outcome → Type 0} {course : Course}
    {i : Intake} {o o' : Outlet} {s s' : Stock} {e : Option Ending}
    → i.given < 2 ^ 64 → s'.held ≡ s.held → StepAs m step (Ok t) → TextEnds (f (m t)) o o' e → EndsSo i i o o' s s' course e
    → (course.writes ≡ 0 ∷ 6 ∷ []) × (course.takes ≡ [])
    → ((x : Outcome) → Has s.held x → HasText s.held (next step f) x) → Runs (unread_task Has course) (moment i o s) (moment i o' s') e
then_runs m f step t {Has} {course} {i} {o} {o'} {s} {s'} {e} few held had ends so lists has =
    text_runs (next step f) few held (then_text m f o o' e step t had ends) so lists has

-- ---- the input is read

-- after a step that searched the shelf
behind_so : (course : Bool → Course) (asks : Bool) {i i' : Intake} {o o' : Outlet} {s s' : Stock} (e : Option Ending) → (course true).asks ≡ true
    → (asks ≡ false → s' ≡ s) → Looks s s'
    → EndsSo i i' o o' s' s' (course asks) e → EndsSo i i' o o' s s' (course asks) e
behind_so course true e uses same looks so = so_since e uses looks so
behind_so course false {i} {i'} {o} {o'} {s} {s'} e uses same looks so = subst (λ x. EndsSo i i' o o' x s' (course false) e) (same refl) so

pub behind_runs : {HasIt Has : Option (List ℕ) → Option Held → Outcome → Type 0} {SeesIt Sees : Option Held → List ℕ → Outcome → Type 0}
    {gives : Option Held → Intake → Intake → Type 0} {i i' : Intake} {o o' : Outlet} {s s' : Stock} {e : Option Ending}
    → (course : Bool → Course) (asks : Bool) → (course true).asks ≡ true → RunsBehind HasIt SeesIt course i i' o o' e → Looks s s' → (asks ≡ false → s' ≡ s)
    → ((x : Outcome) → Has i.left s.held x → HasIt i.left s.held x) → gives s.held i i'
    → (SeenAs (SeesIt s.held) i i' o o' s s' e → SeenAs (Sees s.held) i i' o o' s s' e)
    → Runs (record { has = Has; sees = Sees; gives = gives; course = course asks }) (moment i o s) (moment i' o' s') e
behind_runs {HasIt} {Has} {SeesIt} {Sees} {gives} {i} {i'} {o} {o'} {s} {s'} {e} course asks uses behind looks same has given seen = record {
  content = λ x h. behind.content s s' x looks.held (has x h);
  so = behind_so course asks e uses same looks (behind.so s' asks);
  given = given;
  seen = λ reads. seen (behind.seen s s' looks.held);
}

-- what was read has an outcome, and no other
pub seen_runs : (Has : List ℕ → Option Held → Outcome → Type 0) {Sees : Option Held → List ℕ → Outcome → Type 0} {course : Bool → Course} {i i' : Intake}
    {o o' : Outlet} {e : Option Ending}
    → ((bytes : List ℕ) (held : Option Held) (x y : Outcome) → IsBytes bytes → Has bytes held x → Has bytes held y → y ≡ x)
    → ((held : Option Held) (bytes : List ℕ) (x : Outcome) → Has bytes held x → Sees held bytes x)
    → IfSome i.left IsBytes → ((s s' : Stock) → s'.held ≡ s.held → Seen (λ bytes x. Has bytes s.held x) i i' o o' s s' e)
    → ((s : Stock) (asks : Bool) → EndsSo i i' o o' s s (course asks) e)
    → RunsBehind (λ left held x. IsSomeAnd left (λ bytes. Has bytes held x)) Sees course i i' o o' e
seen_runs Has {Sees} {course} {i} {i'} {o} {o'} {e} one well octets seen so = record {
  content = λ s s' x held has. content_seen {o = o} {o' = o'} {s = s} {s' = s'} {P = λ bytes y. Has bytes s.held y} e x
      (λ bytes y ok p q. one bytes s.held x y ok p q) octets (seen s s' held) has;
  so = so;
  seen = λ s s' held among. sees_as {P = λ bytes y. Has bytes s.held y} {Q = Sees s.held} (λ bytes y p. well s.held bytes y p) (seen s s' held);
}

-- a read failed
pub unread_runs : {HasIt : Option (List ℕ) → Option Held → Outcome → Type 0} {SeesIt : Option Held → List ℕ → Outcome → Type 0} {i i' : Intake} (o : Outlet)
    → Draws i i' → Rose i.faults i'.faults
    → RunsBehind HasIt SeesIt stream_course i i' o o (Some ReadFault)
unread_runs o draws rose = search (arith, comes_to_nothing, unread_so, other_seen)
