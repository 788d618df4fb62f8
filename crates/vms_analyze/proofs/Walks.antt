-- A walk over what is required, part after part.
use Rattle.vms_analyze.proofs.Facade
use Facade.{section_line, map-map, ◌≡◌, ℕ, ◌+◌, List, [], ◌∷◌, ◌++◌, length, append_assoc, append-nil, take, drop, ℤ, refl, sym, ap}
use Facade.{◌∙◌, arith, ◌<◌, get_or, ◌≤◌, true, nat_le, map, take-append-drop, drop-drop, take_more, flat_map, list_all, flat_map-append}
use Facade.{and_parts, leb-true, flat_map_single, flat_map-map, Result, Ok, Err, OnOk, IfErr, ◌^◌, false, ◌==◌, length-append, length-drop, ◌-◌}
use Facade.{take_all, Kind, code, InRange, text_of, Want, Number, Line, number_line, behind, found, Bytes, Machine, Head, Foot, element_want, sub_wants}
use Facade.{device_wants, start_wants, wants, left, IsInside, Goes, Stops, Prints, WhyStopped, Walks, Walk, text_append, Stop, LONGEST_NAME, end_mark, is_path}
use Facade.{told_of, sub_of, device_of, element_wants, subs_wants, devices_wants, Element, number_at, bytes_at, is_name_byte, begins_with, configuration}
use Facade.{section_head, is_machine, machine_line, found_after, begun}
use Rattle.vms_analyze.proofs.Following.{Takes, one_follows, takes_line, takes_number, behind_both, takes_head}
use Rattle.vms_analyze.proofs.Streams.{takes_machine, no_machine}
use Rattle.vms_analyze.specs.declared.told.Device.{Device}
use Rattle.vms_analyze.specs.declared.walk.Stop.TheVariants as stops

-- ---- One step of a walk, by what is taken.

pub goes : (w : Want) (old new : Walk) (bytes : List ℕ) (lines : List (List ℕ)) → Takes w old.id bytes new.id lines → left old ≡ bytes ++ left new
    → new.place ≡ old.place + length bytes → new.text.items ≡ old.text.items ++ text_of lines → IsInside new → new.input.now ≡ old.input.now
    → Goes (w ∷ []) old new
goes w old new bytes lines t there place printed inside input = record {
  lines = lines;
  taken = λ more.
      ap (found (w ∷ more) old.id old.place) there ∙ (one_follows t).goes more old.place (left new)
      ∙ ap (λ (k : ℕ). behind lines (found more new.id k (left new))) (sym place);
  printed = printed;
  inside = inside;
  input = input;
}

-- a piece of an input, and the rest after it
pub split : (input piece : List ℕ) (place n : ℕ) → piece ≡ take n (drop place input) → drop place input ≡ piece ++ drop (place + n) input
split input piece place n e = cc (take-append-drop n (drop place input), drop-drop n place input)

-- a walk that is past these bytes, and has printed nothing more
pub record Passed (old mid : Walk) (bytes : List ℕ) : Type 0 where
  pub there : left old ≡ bytes ++ left mid
  pub place : mid.place ≡ old.place + length bytes
  pub text : mid.text ≡ old.text
  pub inside : IsInside mid
  pub input : mid.input.now ≡ old.input.now

-- what is taken and then printed
pub printed_goes : {w : Want} {old mid new : Walk} {bytes line : List ℕ} → Takes w old.id bytes mid.id (line ∷ []) → Passed old mid bytes → Prints mid new line
    → Goes (w ∷ []) old new
printed_goes {w = w} {old = old} {mid = mid} {new = new} {bytes = bytes} {line = line} takes p prints =
    goes _ _ _ bytes (line ∷ []) (rw prints.id takes) (cc) (cc) (cc) (omega (arith, ap length prints.input)) cc

pub number_goes : {old mid new : Walk} (path : List ℕ) (kind : Kind) (z : ℤ) → InRange kind z → Passed old mid (code kind z) → mid.id ≡ old.id
    → Prints mid new (number_line path z) → Goes (Number path kind ∷ []) old new
number_goes {old = old} path kind z fits p id prints = printed_goes (rw id (takes_number _ _ _ _ fits)) p prints

-- ---- one step after the other

pub goes_then : {ws vs : List Want} {a b c : Walk} → Goes ws a b → Goes vs b c → Goes (ws ++ vs) a c
goes_then {ws = ws} {vs = vs} {a = a} {c = c} g h = record {
  lines = g.lines ++ h.lines;
  taken = λ more.
      rw (append_assoc ws vs more, g.taken (vs ++ more), h.taken more) (behind_both g.lines h.lines (found more c.id c.place (left c)));
  printed = rw (h.printed, g.printed, text_append g.lines h.lines) (append_assoc a.text.items (text_of g.lines) (text_of h.lines));
  inside = h.inside;
  input = cc;
}

-- a walk that stops, before more is required, and after what is taken
stops_before : (ws vs : List Want) (a c : Walk) → Stops ws a c → Stops (ws ++ vs) a c
stops_before ws vs a c s = record { differs = λ more. rw (append_assoc ws vs more) (s.differs (vs ++ more)) }

stops_then : {ws vs : List Want} {a b c : Walk} → Goes ws a b → Stops vs b c → Stops (ws ++ vs) a c
stops_then {ws = ws} {vs = vs} {a = a} g s = record {
  differs = λ more.
      rw (append_assoc ws vs more, g.taken (vs ++ more), s.differs more);
}

pub line_goes : (line : List ℕ) (old new : Walk) → IsInside old → Prints old new line → Goes (Line line ∷ []) old new
line_goes line old new inside p = record {
  lines = line ∷ [];
  taken = λ more.
      (one_follows (takes_line line old.id)).goes more old.place (left old)
      ∙ ap (λ (k : ℕ). behind (line ∷ []) (found more old.id k (left old))) (omega arith)
      ∙ ap (λ (i : ℕ). behind (line ∷ []) (found more i new.place (left old))) (sym p.id)
      ∙ ap (λ (l : List ℕ). behind (line ∷ []) (found more new.id new.place l)) (rw (sym p.place) (ap (drop new.place) (sym p.input)));
  printed = p.text;
  inside = omega (arith, ap length p.input);
  input = p.input;
}

-- ---- A walk over what is required, one thing after the other.

module _ {X : Type 0} (one : X → List Want) where
  pub more_of : (xs : List X) (i : ℕ) (d : X) → i < length xs → flat_map one (take (i + 1) xs) ≡ flat_map one (take i xs) ++ one (get_or xs i d)
  more_of xs i d lt = cc (take_more xs i d lt, flat_map-append one (take i xs) (get_or xs i d ∷ []), append-nil (one (get_or xs i d)))

  pub one_stops : (xs : List X) (i : ℕ) (d : X) (a b c : Walk) (stop : Stop) → i < length xs → Goes (flat_map one (take i xs)) a b
      → WhyStopped (one (get_or xs i d)) b c stop → WhyStopped (flat_map one xs) a c stop
  one_stops xs i d a b c stops.Differs lt g s =
      let front = flat_map one (take (i + 1) xs) in
      let whole : front ++ flat_map one (drop (i + 1) xs) ≡ flat_map one xs =
      cc (flat_map-append one (take (i + 1) xs) (drop (i + 1) xs), take-append-drop (i + 1) xs) in
      rw whole at (stops_before front (flat_map one (drop (i + 1) xs)) a c (rw (more_of xs i d lt) (stops_then g s)))
  one_stops xs i d a b c stops.NoMemory lt g s = tt

-- one after the other, whatever the stop
pub why_before : (ws vs : List Want) (a c : Walk) (stop : Stop) → WhyStopped ws a c stop → WhyStopped (ws ++ vs) a c stop
why_before ws vs a c stops.Differs s = stops_before _ _ _ _ s
why_before ws vs a c stops.NoMemory s = tt

pub why_then : {ws : List Want} {a b : Walk} (vs : List Want) (c : Walk) (stop : Stop) → Goes ws a b → WhyStopped vs b c stop → WhyStopped (ws ++ vs) a c stop
why_then vs c stops.Differs g s = stops_then g s
why_then vs c stops.NoMemory g s = tt

-- whatever the result
pub walks_then : {ws : List Want} {a b : Walk} (vs : List Want) (c : Walk) (r : Result (Unit {0}) Stop) → Goes ws a b → Walks vs b c r → Walks (ws ++ vs) a c r
walks_then vs c (Ok u) g h = goes_then g h
walks_then vs c (Err stop) g h = why_then _ _ _ g h

-- a line is printed last
pub prints_walk : {ws : List Want} {line : List ℕ} {a b c : Walk} (r : Result (Unit {0}) Stop) → (Prints b c line → Goes ws a c) → OnOk r (Prints b c line)
    → IfErr r (λ e. e ≡ stops.NoMemory) → Walks ws a c r
prints_walk (Ok u) f h k = f h
prints_walk (Err stop) f h k = rw k tt

-- ---- A walk over a subsection, a device and a stream, part after part.

pub path_short : (most : ℕ) (text : List ℕ) → is_path most text ≡ true → length text ≤ most
path_short most text e = grind arith

pub all_good : {X : Type 0} (xs : List X) → list_all (λ _. true) xs ≡ true
all_good [] = refl
all_good (x ∷ xs) = all_good xs

-- what is required
pub elements_are : (es : List Element) → element_wants es ≡ map element_want (map told_of es)
elements_are es = cc (flat_map_single (λ e. element_want (told_of e)) es, map-map element_want told_of es)

-- ---- a device

abbrev pub head_of : Device → List Want
head_of d = Head d.name.now d.instance d.version ∷ []

module _ (d : Device) where
  abbrev elements : List Want
  elements = element_wants d.elements.items

  abbrev subs : List Want
  subs = subs_wants d.subs.items

  abbrev all : List Want
  all = device_wants (device_of d)

  device_as : ((head_of d ++ elements) ++ subs) ++ (Foot ∷ []) ≡ all
  device_as = rw (elements_are d.elements.items, sym (flat_map-map sub_wants sub_of d.subs.items))

  pub head_stops : (a b : Walk) (stop : Stop) → WhyStopped (head_of d) a b stop → WhyStopped all a b stop
  head_stops a b stop w =
      rw device_as at (why_before ((head_of d ++ elements) ++ subs) (Foot ∷ []) a b stop
      (why_before (head_of d ++ elements) subs a b stop (why_before (head_of d) elements a b stop w)))

  pub elements_stop : {a b : Walk} (c : Walk) (stop : Stop) → Goes (head_of d) a b → WhyStopped elements b c stop → WhyStopped all a c stop
  elements_stop {a = a} c stop g w =
      rw device_as at (why_before ((head_of d ++ elements) ++ subs) (Foot ∷ []) a c stop
      (why_before (head_of d ++ elements) subs a c stop (why_then elements c stop g w)))

  pub subs_stop : {a b c : Walk} (e : Walk) (stop : Stop) → Goes (head_of d) a b → Goes elements b c → WhyStopped subs c e stop → WhyStopped all a e stop
  subs_stop {a = a} e stop g h w = rw device_as at (why_before ((head_of d ++ elements) ++ subs) (Foot ∷ []) a e stop (why_then subs e stop (goes_then g h) w))

  pub device_walks : {a b c e : Walk} (f : Walk) (r : Result (Unit {0}) Stop) → Goes (head_of d) a b → Goes elements b c → Goes subs c e
      → Walks (Foot ∷ []) e f r → Walks all a f r
  device_walks {a = a} f r g h i w = rw device_as at (walks_then (Foot ∷ []) f r (goes_then (goes_then g h) i) w)

-- ---- a stream

module _ (ds : List Device) where
  abbrev whole : List Want
  whole = wants (map device_of ds)

  stream_as : (start_wants ++ devices_wants ds) ++ (Bytes end_mark ∷ []) ≡ whole
  stream_as = rw (sym (flat_map-map device_wants device_of ds))

  pub start_stops : (a b : Walk) (stop : Stop) → WhyStopped start_wants a b stop → WhyStopped whole a b stop
  start_stops a b stop w =
      rw stream_as at (why_before (start_wants ++ devices_wants ds) (Bytes end_mark ∷ []) a b stop
      (why_before start_wants (devices_wants ds) a b stop w))

  pub devices_stop : {a b : Walk} (c : Walk) (stop : Stop) → Goes start_wants a b → WhyStopped (devices_wants ds) b c stop → WhyStopped whole a c stop
  devices_stop {a = a} c stop g w =
      rw stream_as at (why_before (start_wants ++ devices_wants ds) (Bytes end_mark ∷ []) a c stop (why_then (devices_wants ds) c stop g w))

  pub stream_walks : {a b c : Walk} (d : Walk) (r : Result (Unit {0}) Stop) → Goes start_wants a b → Goes (devices_wants ds) b c
      → Walks (Bytes end_mark ∷ []) c d r → Walks whole a d r
  stream_walks {a = a} d r g h w = rw stream_as at (walks_then (Bytes end_mark ∷ []) d r (goes_then g h) w)

-- past it
passed : (front : List ℕ) (old mid : Walk) → IsInside old → begins_with front (left old) ≡ true → mid.place ≡ old.place + length front → mid.text ≡ old.text
    → mid.input.now ≡ old.input.now → Passed old mid front
passed front old mid inside e place text input =
    record {
      there = cc (begun front (left old) e, drop-drop (length front) old.place old.input.now);
      place = place;
      text = text;
      inside = omega (
        arith,
        ap length (begun front (left old) e),
        length-append front (drop (length front) (left old)),
        length-drop old.place old.input.now,
        ap length input,
      );
      input = input;
    }

-- heads
pub head_goes : (old mid new : Walk) (name : List ℕ) (instance version : ℕ) → begins_with (section_head mid.id name instance version) (left old) ≡ true
    → mid.id < 2 ^ 32
    → IsInside old → mid.place ≡ old.place + length (section_head mid.id name instance version) → mid.text ≡ old.text → mid.input.now ≡ old.input.now
    → Prints mid new (section_line name instance version) → Goes (Head name instance version ∷ []) old new
head_goes old mid new name instance version e small inside place text input prints =
    printed_goes (takes_head _ _ _ _ _ small) (passed _ _ _ inside e place text input) prints

-- the machine
pub machine_passes : (old : Walk) → IsInside old → (get_or (left old) 0 0 == 7) ≡ false → Goes (Machine ∷ []) old old
machine_passes old inside e = record {
  lines = [];
  taken = λ more.
      let same : old.place + 0 ≡ old.place = omega arith in
      ap (found_after (found more) old.place (left old)) (no_machine old.id (left old) e) ∙ ap (λ (k : ℕ). behind [] (found more old.id k (left old))) same;
  printed = sym (append-nil _);
  inside = inside;
  input = refl;
}

pub machine_goes : (old mid new : Walk) (name : List ℕ) → is_machine name ≡ true → begins_with (configuration name) (left old) ≡ true → mid.id ≡ old.id
    → IsInside old
    → mid.place ≡ old.place + length (configuration name) → mid.text ≡ old.text → mid.input.now ≡ old.input.now → Prints mid new (machine_line name)
    → Goes (Machine ∷ []) old new
machine_goes old mid new name good e id inside place text input prints =
    let short = leb-true (length name) LONGEST_NAME (and_parts (nat_le (length name) LONGEST_NAME) (list_all is_name_byte name) good).0 in
    printed_goes (rw id (takes_machine name old.id good (omega arith))) (passed (configuration name) old mid inside e place text input) prints

-- the name that is there
pub name_there : (w : Walk) (n : ℕ) → n ≡ number_at 4 1 (left w)
    → take n (take (length w.input.now - (w.place + 5)) (drop (w.place + 5) w.input.now)) ≡ bytes_at (number_at 4 1 (left w)) 5 (left w)
name_there w n is =
    cc (
      take_all (length w.input.now - (w.place + 5)) (drop (w.place + 5) w.input.now) (omega (arith, length-drop (w.place + 5) w.input.now)),
      drop-drop 5 w.place w.input.now,
    )
