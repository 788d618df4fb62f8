-- The laws of the streams of any family of boards.
use Rattle.vms_board_streams.proofs.Facade
use Facade.{Alike, Answer, Back, BoardsGoOn, BytesAreOne, Err, Event, Family, Faulty, FitsHeads, HasRoomFor, IfSome, Image, IsBytes, IsConfiguration}
use Facade.{IsContinued, IsFaultAt, IsSound, IsWholeStream, List, MaySaveIn, Misfit, Ok, Option, Reason, Refused, Restore, Restores, Result, Set, Some, Stands}
use Facade.{StreamComesBack, StreamsComeBack, StreamsStand, Taken, Takes, TakesBoard, WellFormed, [], answers_by, answers_to, ap, append-nil, arith}
use Facade.{bytes_eq-Decides, either_holds, images_carried, images_saved, inl, inr, is_among, is_one_of, length, lists_in, misfit_reason, misfit_section}
use Facade.{never_both_holds, one_fault_holds, one_stream_holds, refl, saved_stream, saved_text, stream_with, sym, trace_of, true, upgrade_stands, ℕ, ℤ}
use Facade.{◌-◌, ◌∷◌, ◌≡◌, ◌≤◌}

-- ---- a restore of bytes has exactly one outcome

module _ {S : Type 0} (f : Family S) (well : WellFormed (f.set f.newest)) (heads : FitsHeads (f.set f.newest)) where
  -- the outcome of restoring the bytes
  abbrev pub Comes : ℕ → List ℕ → Type 0
  Comes number bytes = (restore : Restore S) × Restores f number bytes restore

  images-come : (number : ℕ) (bytes : List ℕ) (taken : ℕ) (images : List Image) → TakesBoard f number bytes taken images → (r : Result S Misfit) → f.restored number (lists_in images) ≡ r → Comes number bytes
  images-come number bytes taken images t (Ok m) e = (Back m taken, (images, t, e))
  images-come number bytes taken images t (Err misfit) e = (
    Refused taken (misfit_section misfit) (misfit_reason misfit),
    inr (record { images = images; taken = t; misfit = misfit; fails = e; section_is = refl; reason_is = refl }),
  )

  answer-comes : (number : ℕ) (bytes : List ℕ) → Answer (f.set f.newest) (f.machine number ∷ []) bytes → Comes number bytes
  answer-comes number bytes (Taken n machine images takes) =
      images-come number bytes n images (machine, takes) (f.restored number (lists_in images)) refl
  answer-comes number bytes (Faulty place section reason size fault) = (Refused place section reason, inl (size, fault))

  pub bytes_come : (number : ℕ) (bytes : List ℕ) → IsBytes bytes → Comes number bytes
  bytes_come number bytes ok =
      answer-comes number bytes (either_holds (f.set f.newest) (f.machine number ∷ []) well heads bytes ok)

  module _ (number : ℕ) (bytes : List ℕ) where
    one-stream : (n k : ℕ) (images others : List Image) → TakesBoard f number bytes n images → TakesBoard f number bytes k others → (n ≡ k) × (images ≡ others)
    one-stream n k images others t u =
        let one = one_stream_holds (f.set f.newest) (f.machine number ∷ []) well heads bytes n k t.0 u.0 images others t.1 u.1 in
        (one.lengths, one.states)

    same-cells : (n k : ℕ) (images others : List Image) → TakesBoard f number bytes n images → TakesBoard f number bytes k others
        → f.restored number (lists_in images) ≡ f.restored number (lists_in others)
    same-cells n k images others t u = rw ((one-stream n k images others t u).1)

    module _ (ok : IsBytes bytes) where
      pub no_fault : (n : ℕ) (images : List Image) (place : ℕ) (section : Option ℕ) (reason : Reason) → TakesBoard f number bytes n images → IsFaultAt f number bytes place section reason → ⊥
      no_fault n images place section reason t d =
          never_both_holds (f.set f.newest) (f.machine number ∷ []) well heads bytes ok n t.0 images place section reason d.0 t.1 d.1

      pub one_restore : (a b : Restore S) → Restores f number bytes a → Restores f number bytes b → a ≡ b
      one_restore (Back m n) (Back m' k) r s = cc (same-cells n k r.0 s.0 r.1 s.1, (one-stream n k r.0 s.0 r.1 s.1).0)
      one_restore (Back m n) (Refused place section reason) r (inl d) = absurd (no_fault n r.0 place _ reason r.1 d)
      one_restore (Back m n) (Refused place section reason) r (inr d) = cc (same-cells n place r.0 _ r.1 d.taken)
      one_restore (Refused place section reason) (Back m n) (inl d) s = absurd (no_fault n s.0 place _ reason s.1 d)
      one_restore (Refused place section reason) (Back m n) (inr d) s = cc (same-cells n place s.0 _ s.1 d.taken)
      one_restore (Refused place section reason) (Refused other section' reason') (inl d) (inl g) =
          let one = one_fault_holds (f.set f.newest) (f.machine number ∷ []) bytes ok place other section section' reason reason' d.0 g.0 d.1 g.1 in
          cc
      one_restore (Refused place section reason) (Refused other section' reason') (inl d) (inr g) = absurd (no_fault other _ place _ reason g.taken d)
      one_restore (Refused place section reason) (Refused other section' reason') (inr d) (inl g) = absurd (no_fault place _ other _ _ d.taken g)
      one_restore (Refused place section reason) (Refused other section' reason') (inr d) (inr g) =
          cc (same-cells place other _ _ d.taken g.taken, (one-stream place other _ _ d.taken g.taken).0)

  pub bytes_are_one : BytesAreOne f
  bytes_are_one = record { some = bytes_come; one = one_restore }

-- ---- the stream of a board of a family restores a board like it: one accepted name

-- a stream is read under other names too, if they include its machine
configured_under : (names others : List (List ℕ)) (machine : Option (List ℕ)) (bytes : List ℕ) → IfSome machine (λ name. is_one_of others name ≡ true)
    → IsConfiguration names machine bytes → IsConfiguration others machine bytes
configured_under names others machine bytes h c = grind arith

pub takes_under : (set : Set) (names others : List (List ℕ)) (input : List ℕ) (taken : ℕ) (machine : Option (List ℕ)) (images : List Image) → IfSome machine (λ name. is_one_of others name ≡ true)
    → Takes set names input taken machine images → Takes set others input taken machine images
takes_under set names others input taken machine images h t =
    let s = t.stream in
    record {
      bytes = t.bytes;
      text = t.text;
      stream = record {
        named = s.named;
        configured = configured_under names others _ _ h s.configured;
        one_each = s.one_each;
        order = s.order;
        each_once = s.each_once;
        sections = s.sections;
        footed = s.footed;
        bare = s.bare;
        spelled = s.spelled;
        tail = s.tail;
        described = s.described;
        whole = s.whole;
      };
      rest = t.rest;
      prefix = t.prefix;
      long = t.long;
      all = t.all;
    }

alone : (set : Set) (names : List (List ℕ)) (input : List ℕ) (taken : ℕ) (name : List ℕ) (images : List Image) → Takes set names input taken (Some name) images → Takes set (name ∷ []) input taken (Some name) images
alone set names input taken name images t = takes_under set names _ input taken _ images (rw ((bytes_eq-Decides name name).1 refl)) t

-- ---- the laws

pub record Laws {S : Type 0} (f : Family S) (Alike : S → S → Type 0) (IsSound : S → Type 0) : Type 0 where
  pub come_back : StreamsComeBack f Alike IsSound
  pub go_on : BoardsGoOn f Alike IsSound
  pub one : BytesAreOne f

module _ {S : Type 0} (f : Family S) (Alike : S → S → Type 0) {IsSound : S → Type 0} {AreTold : List (List ℤ) → Type 0} (stands : Stands f IsSound AreTold) (st : StreamsStand f Alike IsSound) where
  -- ---- the stream of a board

  module _ (set : ℕ) (m : S) (text : Option (List ℕ)) (short : HasRoomFor text) (s : IsSound m) (may : MaySaveIn f m set) where
    abbrev stream : List ℕ
    stream = stream_with f set m text

    abbrev images-back : List Image
    images-back = images_carried f set m

    least : 1 ≤ f.number m
    least = (stands.numbered m s).first

    named : is_one_of (f.set set).machines (f.machine (f.number m)) ≡ true
    named = is_among (f.set set).machines (f.number m - 1) (f.machine (f.number m)) (stands.named (f.number m) set least may.level_le_set may.set_le_newest)

    set-least : 1 ≤ set
    set-least = let a = least in omega arith

    whole : IsWholeStream (f.set f.newest) (f.set f.newest).machines stream (Some (f.machine (f.number m))) images-back text
    unfolding stream_with
    whole =
        upgrade_stands (f.set set) (f.set f.newest) (st.well set may.set_le_newest) stands.well (st.compatible set set-least may.set_le_newest)
        (Some (f.machine (f.number m))) text (images_saved f set m)
        named short (stands.ready set m s may)

    takes : Takes (f.set f.newest) (f.machine (f.number m) ∷ []) stream (length stream) (Some (f.machine (f.number m))) images-back
    takes = alone _ _ stream _ _ _ (rw (append-nil stream) at (whole.taken [] (λ e. refl)))

    abbrev back-to : S
    back-to = (st.back set m s may).back

    images-restore : f.restored (f.number m) (lists_in images-back) ≡ Ok back-to
    images-restore = (st.back set m s may).restored

    there : Restores f (f.number m) stream (Back back-to (length stream))
    there = (images-back, (Some (f.machine (f.number m)), takes), images-restore)

    same-images : (images : List Image) (taken : ℕ) → TakesBoard f (f.number m) stream taken images → (images ≡ images-back) × (taken ≡ length stream)
    same-images images taken t =
        let same = one_stream_holds (f.set f.newest) (f.machine (f.number m) ∷ []) stands.well stands.heads stream taken (length stream) t.0 (Some (f.machine (f.number m))) images images-back t.1 takes in
        (same.states, same.lengths)

    same-restore : (images : List Image) (taken : ℕ) → TakesBoard f (f.number m) stream taken images → f.restored (f.number m) (lists_in images) ≡ Ok back-to
    same-restore images taken t = rw ((same-images images taken t).0) images-restore

    only-back : (other : S) (taken : ℕ) → Restores f (f.number m) stream (Back other taken) → (other ≡ back-to) × (taken ≡ length stream)
    only-back other taken r = (cc (same-restore r.0 taken r.1), (same-images r.0 taken r.1).1)

    never-refused : IsBytes stream → (place : ℕ) (section : Option ℕ) (reason : Reason) → Restores f (f.number m) stream (Refused place section reason) → ⊥
    never-refused bytes place section reason (inl fault) =
        never_both_holds (f.set f.newest) (f.machine (f.number m) ∷ []) stands.well stands.heads stream bytes (length stream) (Some (f.machine (f.number m))) images-back place section reason fault.0 takes fault.1
    never-refused bytes place section reason (inr misfit) = cc (same-restore _ place misfit.taken)

  -- ---- the stream of a board, with its own description

  comes-back : (set : ℕ) (m : S) → IsSound m → MaySaveIn f m set → StreamComesBack f Alike set m
  unfolding saved_stream stream_with
  comes-back set m s may =
      let text = Some (saved_text f set m) in
      let room = st.described set m may.set_le_newest in
      record {
        back = (st.back set m s may).back;
        alike = (st.back set m s may).alike;
        carried = (st.back set m s may).restored;
        restores = there set m text room s may;
        only = only-back set m text room s may;
        accepted = never-refused set m text room s may (st.octets.bytes set m s may);
      }

  -- ---- events on a loaded board

  alike-answers : (events : List Event) (m n : S) → Alike m n → answers_to f events n ≡ answers_to f events m
  unfolding answers_by
  alike-answers [] m n a = refl
  alike-answers (event ∷ events) m n a =
      let one = st.alike event m n a in
      cc (one.answer, alike-answers events (f.step event m).1 (f.step event n).1 one.alike)

  goes-on : (set : ℕ) (m : S) (text : Option (List ℕ)) (events : List Event) → IsSound m → MaySaveIn f m set → HasRoomFor text → IsContinued f set m text events
  goes-on set m text events s may room =
      let back = st.back set m s may in
      let same : answers_to f events back.back ≡ answers_to f events m = alike-answers events m _ back.alike in
      record {
        there = record { board = back.back; restored = there set m text room s may; trace_is = ap trace_of (sym same) };
        only = λ taken trace goes.
            let is = only-back set m text room s may _ taken goes.restored in
            (is.1, cc (is.0, same));
      }

  own : (set : ℕ) (m : S) → saved_stream f set m ≡ stream_with f set m (Some (saved_text f set m))
  unfolding saved_stream stream_with
  own set m = refl

  pub laws : Laws f Alike IsSound
  laws = record { come_back = record { stream = comes-back }; go_on = record { on = goes-on; own = own }; one = bytes_are_one f stands.well stands.heads }
