-- Each input has exactly one listing.
use Rattle.vms_analyze.proofs.DevicesRead.{told_back, tells_if, not_told}
use Rattle.vms_analyze.proofs.Facade
use Facade.{TotalLaw, devices_in, ◌≡◌, ℕ, ◌+◌, ◌<◌, ◌≤◌, Bool, true, false, ◌==◌, List, length, take, refl, ◌∙◌, arith}
use Facade.{slice_index, ◌++◌, length-append, Err, sym, ap, append-nil, Vec, Global, Result, ◌≢◌, [], ◌∷◌, drop, ◌-◌, length-drop, map}
use Facade.{Option, Some, None, append_assoc, ⊎_elim, eq-eqb, cases_lt, get_or-take, drop_all, take_all, map-append, NoneAfter, Nowhere, Passes, is_byte}
use Facade.{IsPlace, IsLastPlace, longest_input, Listing, Refused, listing_of, Lists, IsTooLong, HasNone, HasNoShape, IsRead, Text, Intake, takes_both}
use Facade.{takes_as, breaks_more, nothing_follows, Takes, Appended, IsWhole, TakesPiece, TakesInput, HasMore, NoInput, AnalyzeFault, ListsAs, IsListed}
use Facade.{IsTooMuch, ListsTaken, ShowsAs, Differs, Want, behind, found, Walk, left, Goes, WhyStopped, AtStart, WhyNone, Stop, Data, Items, no_items, item}
use Facade.{next, each, ReadsAs, Unread, same_Some, ap₂, ToldDevice, wants, OneLaw, LongestLaw, zero, suc, ◌&&◌, get_or, and_parts, eqb-true, value_in}
use Facade.{number_at, TellsPlace, HasListing}
use Rattle.std.proofs.lemmas.List.{length-take}
use Rattle.vms_analyze.specs.declared.input.NoInput.TheVariants as none
use Rattle.vms_analyze.specs.declared.fault.AnalyzeFault.TheVariants as faults
use Rattle.vms_analyze.specs.declared.fault.AnalyzeReason.TheVariants as reasons
use Rattle.vms_analyze.specs.declared.walk.Stop.TheVariants as whys
use Rattle.vms_analyze.specs.declared.members.Unread.TheVariants as unread

-- ---- The places of an input below a byte that was found from the end.

-- none from `end` on
abbrev pub NoneFrom : List ℕ → ℕ → Type 0
NoneFrom input end = (q : ℕ) → end ≤ q → IsPlace input q → ⊥

marked : (input : List ℕ) (end q : ℕ) → q < end → IsPlace input q → (slice_index (take end input) q == 6) ≡ true
marked input end q lt place = eq-eqb (slice_index (take end input) q) 6 (get_or-take end input q 0 lt ∙ place.mark)

long : (input : List ℕ) (end : ℕ) → end ≤ length input → length (take end input) ≡ end
long input end le = omega (arith, length-take end input)

-- there is none at q, if there is none from an offset on and q isn't below it
none_at : (input : List ℕ) (end q : ℕ) → NoneFrom input end → (q < end → ⊥) → IsPlace input q → ⊥
none_at input end q none not_below place = ⊎_elim (λ (lt : q < end). not_below lt) (λ (ge : end ≤ q). none q ge place) (cases_lt q end)

module _ (input : List ℕ) (end at : ℕ) (le : end ≤ length input) (none : NoneFrom input end)
    (h : NoneAfter (Passes (is_byte 6) (take end input)) 0 (length (take end input)) at) where
  pub none_after : NoneFrom input (at + 1)
  none_after q low place = none_at _ _ _ none (λ lt. h.after q low (omega (arith, long input end le)) (marked _ _ _ lt place)) place

  -- the place that was found
  pub last_found : IsPlace input at → IsLastPlace input at
  last_found place = record { is = place; last = λ q lt p. none_after q (omega arith) p }

  -- or wasn't one
  pub found_none : (IsPlace input at → ⊥) → NoneFrom input at
  found_none other q low place = grind (arith, none_after)

pub none_before : (input : List ℕ) (end : ℕ) → end ≤ length input → NoneFrom input end
    → Nowhere (Passes (is_byte 6) (take end input)) 0 (length (take end input)) → (q : ℕ) → IsPlace input q → ⊥
none_before input end le none h q place =
    none_at _ _ _ none (λ lt. h q (omega arith) (omega (arith, long input end le)) (marked _ _ _ lt place)) place

-- ---- An input that is taken piece by piece.

pub piece_ends : {old mid new : Intake} {was now : List ℕ} {room : ℕ} {done : Bool} → Takes old mid was → Appended mid new was now room done → done ≡ true
    → length was + room ≤ longest_input + 1 → IsWhole old new now
piece_ends {was = was} p a e le =
    record {
      few = rw a.items (omega (arith, a.short e, length-append was a.bytes));
      takes = takes_as (sym a.items) (takes_both p a.takes);
      end = a.end e;
    }

-- if there is more
pub piece_grows : {mid new : Intake} {was now : List ℕ} {room : ℕ} {done : Bool} → Appended mid new was now room done → done ≡ false
    → length now ≡ length was + room
piece_grows {was = was} a e = cc (length-append was a.bytes, a.all e)

pub piece_few : {mid new : Intake} {was now : List ℕ} {room : ℕ} {done : Bool} → Appended mid new was now room done → length was + room ≤ longest_input + 1
    → length now ≤ longest_input + 1
piece_few {was = was} a le = rw a.items (omega (arith, length-append was a.bytes))

pub piece_fails : (old mid new : Intake) (was now : List ℕ) (room : ℕ) (why : NoInput) → Takes old mid was → TakesPiece mid new was now room (Err why)
    → length was + room ≤ longest_input + 1 → TakesInput old new (Err why)
piece_fails old mid new was now room none.TooLong p h le = absurd h
piece_fails old mid new was now room none.ReadFault p h le = breaks_more _ le p h
piece_fails old mid new was now room none.NoMemory p h le =
    record { bytes = was ++ h.bytes; takes = takes_both p h.takes; few = omega (arith, length-append was h.bytes) }

-- ---- From what was taken of a source to what it lists.

too_long : (input : List ℕ) (at : ℕ) (l : Listing) → Lists input l → l ≡ Refused at reasons.TooLong → longest_input < length input
too_long input at l xs e = grind arith

module _ (old new : Intake) (input : List ℕ) (whole : IsWhole old new input) where
  is_listed : (l : Listing) → Lists input l → IsListed old new l
  is_listed l lists = record {
    reads = record {
      bytes = input;
      takes = whole.takes;
      long = whole.few;
      says = λ more f.
          rw (nothing_follows new.left more whole.end f, append-nil input) lists;
      cause = tt;
    };
    end = whole.end;
  }

  pub lists_taken : (r : Result (Vec ℕ Global) AnalyzeFault) → ListsAs input r → ListsTaken old new r
  lists_taken (Err (faults.Refused at reasons.TooLong)) l = absurd (omega (arith, too_long input at _ l refl))
  lists_taken (Err faults.ReadFault) l = absurd l
  lists_taken (Err faults.WriteFault) l = absurd l
  lists_taken (Err faults.NoMemory) l = record { bytes = input; takes = whole.takes; few = omega arith }
  lists_taken _ l = is_listed _ l

pub is_too_much : (old new : Intake) → HasMore old new → IsTooMuch old new (Refused longest_input reasons.TooLong)
is_too_much old new h = record {
  reads = record {
    bytes = h.front;
    takes = h.takes;
    long = h.long;
    says = λ more f. IsTooLong (omega (arith, length-append h.front more));
    cause = tt;
  };
}

-- ---- From the walk to the listing, and from what was taken of a source to what it lists.

at_start : (ws : List Want) (old : Walk) (stream : List ℕ) → AtStart old stream → found (ws ++ []) old.id old.place (left old) ≡ found ws 0 0 stream
at_start ws old stream s = rw (append-nil ws, s.0, s.1) (ap (found ws 0 0) s.2)

whole_is : (ws : List Want) (old new : Walk) (stream rest : List ℕ) → AtStart old stream → (g : Goes ws old new) → left new ≡ rest
    → found ws 0 0 stream ≡ behind g.lines (found [] new.id new.place rest)
whole_is ws old new stream rest s g e = cc (at_start ws old stream s, g.taken [])

-- which ends at its end
pub is_shown : (ws : List Want) (old new : Walk) (stream : List ℕ) → AtStart old stream → Goes ws old new → new.place ≡ length stream
    → listing_of (found ws 0 0 stream) ≡ Text new.text.items
is_shown ws old new stream s g e =
    let none : left new ≡ [] = drop_all new.place new.input.now (omega (arith, ap length (g.input ∙ s.2))) in
    rw (whole_is ws old new stream [] s g none, append-nil g.lines, g.printed, s.3)

-- which ends before it
pub has_more : (ws : List Want) (old new : Walk) (stream : List ℕ) → AtStart old stream → Goes ws old new → new.place ≢ length stream
    → listing_of (found ws 0 0 stream) ≡ Refused new.place reasons.Mismatch
has_more ws old new stream s g other = go (left new) refl
  where
    go : (l : List ℕ) → left new ≡ l → listing_of (found ws 0 0 stream) ≡ Refused new.place reasons.Mismatch
    go [] e = absurd (other (omega (arith, ap length (g.input ∙ s.2), ap length e, length-drop new.place new.input.now)))
    go (b ∷ rest) e = ap listing_of (whole_is ws old new stream (b ∷ rest) s g e)

pub why_none : (ws : List Want) (old new : Walk) (stream : List ℕ) (stop : Stop) → AtStart old stream → WhyStopped ws old new stop
    → WhyNone (listing_of (found ws 0 0 stream)) new stop
why_none ws old new stream whys.Differs s h = ap listing_of (sym (at_start ws old _ s) ∙ h.differs [])
why_none ws old new stream whys.NoMemory s h = tt

-- the text after a place
pub text_behind : (input : List ℕ) (k : ℕ) → take (length input - k) (drop k input) ≡ drop k input
text_behind input k = take_all (length input - k) (drop k input) (omega (arith, length-drop k input))

pub lists_as : (input : List ℕ) (listing : Listing) (r : Result (Vec ℕ Global) AnalyzeFault) → Lists input listing → ShowsAs listing r → ListsAs input r
lists_as input listing r lists e = grind arith

-- ---- Lists whose items are read one after the other.

-- what the first items say, before what the others say
abbrev pub before : {A : Type 0} → List A → Option (List A) → Option (List A)
before done said = next said (λ rest. Some (done ++ rest))

before_one : {A : Type 0} (done : List A) (a : A) (said : Option (List A)) → before done (next said (λ rest. Some (a ∷ rest))) ≡ before (done ++ a ∷ []) said
before_one done a (Some rest) = ap Some (sym (append_assoc done (a ∷ []) rest))
before_one done a None = refl

pub before_none : {A : Type 0} (said : Option (List A)) → said ≡ before [] said
before_none said = grind arith

pub goes_on : {A T : Type 0} (m : T → A) (says : Data → Option A) (now rest : Items) (d : Data) (whole : Option (List A)) (done : List T) (t : T)
    → whole ≡ before (map m done) (each says now) → now ≡ item d rest → says d ≡ Some (m t) → whole ≡ before (map m (done ++ t ∷ [])) (each says rest)
goes_on m says now rest d whole done t e is said = rw (e, is, said, before_one (map m done) (m t) (each says rest), map-append m done (t ∷ []))

pub stops : {A T U : Type 0} (m : T → A) (n : U → List A) (says : Data → Option A) (now rest : Items) (d : Data) (whole : Option (List A)) (done : List A)
    → (why : Unread) → whole ≡ before done (each says now) → now ≡ item d rest → ReadsAs m (says d) (Err why) → ReadsAs n whole (Err why)
stops m n says now rest d whole done why e is said = grind arith

pub ends : {A : Type 0} (says : Data → Option A) (now : Items) (whole : Option (List A)) (done : List A)
    → whole ≡ before done (each says now) → now ≡ no_items → whole ≡ Some done
ends says now whole done e none = rw (e, none, append-nil done)

-- ---- an input has at most one listing

-- one place, and one listing
last_same : (input : List ℕ) (p q : ℕ) → IsLastPlace input p → IsLastPlace input q → p ≡ q
last_same input p q a b =
    ⊎_elim (λ (lt : p < q). absurd (a.last q lt b.is))
    (λ (ge : q ≤ p). ⊎_elim (λ (lt : q < p). absurd (b.last p lt a.is)) (λ (le : p ≤ q). let same : p ≡ q = omega arith in same) (cases_lt q p)) (cases_lt p q)

pub one_holds : OneLaw
one_holds input _ _ (IsTooLong lt) (HasNone le none) = absurd (omega arith)
one_holds input _ _ (IsTooLong lt) (HasNoShape q le last other) = absurd (omega arith)
one_holds input _ _ (IsTooLong lt) (IsRead q es le last tells) = absurd (omega arith)
one_holds input _ _ (HasNone le none) (IsTooLong lt) = absurd (omega arith)
one_holds input _ _ (HasNone le none) (HasNoShape q le' last other) = absurd (none q last.is)
one_holds input _ _ (HasNone le none) (IsRead q es le' last tells) = absurd (none q last.is)
one_holds input _ _ (HasNoShape p le last other) (IsTooLong lt) = absurd (omega arith)
one_holds input _ _ (HasNoShape p le last other) (HasNone le' none) = absurd (none p last.is)
one_holds input _ _ (HasNoShape p le last other) (HasNoShape q le' last' others') = rw (last_same input p q last last')
one_holds input _ _ (HasNoShape p le last other) (IsRead q es le' last' tells) = absurd (other es (rw (last_same input q p last' last) at tells))
one_holds input _ _ (IsRead p ds le last tells) (IsTooLong lt) = absurd (omega arith)
one_holds input _ _ (IsRead p ds le last tells) (HasNone le' none) = absurd (none p last.is)
one_holds input _ _ (IsRead p ds le last tells) (HasNoShape q le' last' other) = absurd (other ds (rw (last_same input p q last last') at tells))
one_holds input _ _ (IsRead p ds le last tells) (IsRead q es le' last' tells') =
    let at = last_same _ _ _ last last' in
    -- what is read of a description is what it says, so it says one thing
    let same = same_Some ds es (sym (told_back _ _ _ (rw at at tells)) ∙ told_back _ _ _ tells') in
    ap₂ (λ (k : ℕ) (l : List ToldDevice). listing_of (found (wants l) 0 0 (take k input))) at same
one_holds input _ _ _ _ = refl

-- greatest lengths
pub longest_are : LongestLaw
longest_are = record { input = refl; path = refl }

-- ---- each input has a listing: the last place

abbrev is_place : List ℕ → ℕ → Bool
is_place input p = get_or input p 0 == 6 && p + 5 + number_at 4 (p + 1) input == length input

there_is : (input : List ℕ) (p : ℕ) → IsPlace input p → is_place input p ≡ true
there_is input p h = rw (eq-eqb (get_or input p 0) 6 h.mark) (eq-eqb (p + 5 + number_at 4 (p + 1) input) (length input) h.long)

record HasPlace (input : List ℕ) : Type 0 where
  place : Option ℕ
  tells : TellsPlace input place

search_below : (input : List ℕ) (n : ℕ) → NoneFrom input n → HasPlace input
search_below input zero none = record { place = None; tells = λ p h. none p (omega arith) h }
search_below input (suc n) none = go (is_place input n) refl (search_below input n)
  where
    go : (b : Bool) → is_place input n ≡ b → (NoneFrom input n → HasPlace input) → HasPlace input
    go true e more =
        let q = and_parts (get_or input n 0 == 6) (n + 5 + number_at 4 (n + 1) input == length input) e in
        let is : IsPlace input n = record { mark = eqb-true (get_or input n 0) 6 q.0; long = eqb-true _ (length input) q.1 } in
        record { place = Some n; tells = record { is = is; last = λ q lt h. none q (omega arith) h } }
    go false e more = more (λ q low h. ⊎_elim (λ (lt : n < q). none q (omega arith) h) (λ (ge : q ≤ n).
        let same : q ≡ n = omega arith in
        let there : is_place input n ≡ true = cc (there_is input q h) in cc) (cases_lt n q))

last_place : (input : List ℕ) → HasPlace input
last_place input = search_below input (length input) (λ q ge h. omega arith)

-- ---- the listing

by_shape : (input : List ℕ) (p : ℕ) → length input ≤ longest_input → IsLastPlace input p → (o : Option (List ToldDevice))
    → next (value_in (drop (p + 5) input)) devices_in ≡ o → HasListing input
by_shape input p few last None e = record { listing = _; lists = HasNoShape p few last (not_told input p e) }
by_shape input p few last (Some devices) e = record { listing = _; lists = IsRead p devices few last (tells_if input p devices e) }

by_place : (input : List ℕ) → length input ≤ longest_input → (o : Option ℕ) → TellsPlace input o → HasListing input
by_place input few None none = record { listing = _; lists = HasNone few none }
by_place input few (Some p) last = by_shape input p few last (next (value_in (drop (p + 5) input)) devices_in) refl

pub total_holds : TotalLaw
total_holds input =
    ⊎_elim (λ (lt : longest_input < length input). record { listing = _; lists = IsTooLong lt })
    (λ (le : length input ≤ longest_input). let p = last_place input in by_place input le p.place p.tells) (cases_lt longest_input (length input))
