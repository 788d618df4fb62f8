-- The first bad line of a text.
use Rattle.vms_values_laws.proofs.{SubsCome.line_taken, Meeting.Ends, SaidLaws.some_if, SaidLaws.moved_then, SaidLaws.moved_none, SaidLaws.moved_one}
use Rattle.vms_values_laws.proofs.AllCome.{images_of, AllRead, AreGoodDevices, AllCome, devices_come, AllWent}
use Rattle.vms_values_laws.proofs.Facade
use Facade.{Taken, lines_of, AreFineTaken, Follows, Along, Moved, is_one_of, AreSound, begun, ◌≡◌, ℕ, suc, ◌+◌, List, [], ◌∷◌, ◌++◌}
use Facade.{length, map, Option, Some, None, refl, sym, ap, ◌∙◌, arith, append-nil, codes, and_parts, ◌⊎◌, inl, inr, ◌&&◌, drop, Ok, Err}
use Facade.{Result, bytes_eq-Decides, ValuesReason, Set, Image, first_line, begins_with, BadLine, ReadAll, machine_named, judge_devices, rest_of, after_machine}
use Facade.{ended, judged, answer_of, ValuesRead, Bad, values_read, text_of, Entry, entries, devices_entries, entry_line, front_reason, AreShaped, AllUnsaid}
use Facade.{AreFine, IsBadLine, ForMachine, reason_for}
use Rattle.vms_values_laws.proofs.SecondPass.{follows_then, along_then, reason_same, parts_from, devices_judged}

-- ---- What the first pass finds in a whole text.

pub record Split (taken : List Taken) (P : List Entry → Type 0) (es : List Entry) : Type 0 where
  pub before : List Entry
  pub after : List Entry
  pub is : es ≡ before ++ after
  pub lines : map entry_line before ≡ lines_of taken
  pub long : length before ≡ length taken
  pub fine : AreFine before
  pub rest : P after

pub split : (taken : List Taken) (P Q : List Entry → Type 0) (es : List Entry) → AreFineTaken taken → Follows taken P es → Along taken Q es → Split taken Q es
split [] P Q es fine f a = record { before = []; after = es; is = refl; lines = refl; long = refl; fine = tt; rest = a }
split (t ∷ taken) P Q [] fine f a = absurd f
split (t ∷ taken) P Q (e ∷ es) fine f a =
    let s = split taken P Q es fine.1 (f.1 a.0) a.1 in
    record {
      before = e ∷ s.before;
      after = s.after;
      is = ap (λ l. e ∷ l) s.is;
      lines = rw (a.0, s.lines);
      long = ap suc s.long;
      fine = (
        reason_same e (Some (entry_line e, [])) ∙ ap (λ x. reason_for x (Some (entry_line e, []))) f.0 ∙ ap
            (λ (l : List ℕ). reason_for t.demand (Some (l, []))) a.0 ∙ fine.0,
        s.fine,
      );
      rest = s.rest;
    }

-- What the first pass takes of a text: the lines of each state that has them, up to a bad line or the end.
pub record TakenOf (set : Set) (text : List ℕ) (machine : Option (List ℕ)) (taken : List Taken) (at : ℕ) (rest : List ℕ) (o : Option ValuesReason)
    : Type 0 where
  pub named : machine ≡ machine_named set.machines (first_line text)
  pub follows : (images : List Image) → AreShaped set set.devices images → Follows taken (λ es. Ends o rest es) (entries set machine images)
  pub moved : Moved 1 text taken at rest

-- a line is bad, and the relation says so
pub record OneBad (set : Set) (text : List ℕ) (v : ValuesRead) : Type 0 where
  pub line : ℕ
  pub reason : ValuesReason
  pub machine : Option (List ℕ)
  pub taken : List Taken
  pub rest : List ℕ
  pub took : TakenOf set text machine taken line rest (Some reason)
  pub is_bad : IsBadLine set text line reason
  pub is : v ≡ Bad line reason

-- no line is bad
pub record NoneBad (set : Set) (text : List ℕ) (v : ValuesRead) : Type 0 where
  pub machine : Option (List ℕ)
  pub all : ReadAll
  pub taken : List Taken
  pub took : TakenOf set text machine taken all.line [] None
  pub open took use *
  pub shaped : AreShaped set set.devices (images_of all.devices)
  pub unsaid : AllUnsaid set set.devices (images_of all.devices)
  pub judged : judge_devices set set.devices all.devices ≡ parts_from set 1 (entries set machine (images_of all.devices))
  pub along : Along taken (λ es. es ≡ []) (entries set machine (images_of all.devices))
  pub is : v ≡ answer_of machine all.devices (judge_devices set set.devices all.devices)

abbrev pub FirstPass : Set → List ℕ → ValuesRead → Type 0
FirstPass set text v = OneBad set text v ⊎ NoneBad set text v

-- its lines are those of what was read
pub fine_text : (set : Set) (text : List ℕ) (v : ValuesRead) (n : NoneBad set text v)
    → AreFine (entries set n.machine (images_of n.all.devices)) × (text ≡ text_of (map entry_line (entries set n.machine (images_of n.all.devices))))
fine_text set text v n =
    let es = entries set n.machine (images_of n.all.devices) in
    let s = split _ (λ es. Ends None [] es) (λ es. es ≡ []) es n.moved.fine (n.follows (images_of n.all.devices) n.shaped) n.along in
    let whole : es ≡ s.before = cc (append-nil s.before) in (
      rw whole s.fine,
      n.moved.texts ∙ append-nil (text_of (lines_of n.taken)) ∙ ap text_of (sym s.lines) ∙ ap (λ l. text_of (map entry_line l)) (sym whole),
    )

pub follows_ends : (taken : List Taken) (P Q : List Entry → Type 0) (es : List Entry) → Follows taken P es → ((xs : List Entry) → P xs → Q xs)
    → Follows taken Q es
follows_ends taken P Q es f h = rw (append-nil taken) at (follows_then taken [] P Q es f h)

-- the line of the machine, if one is named
abbrev machine_taken : Option (List ℕ) → List Taken
machine_taken None = []
machine_taken (Some name) = record { demand = ForMachine name; line = codes "machine " ++ name } ∷ []

-- after the line of the machine, as after none
behind_machine : (set : Set) (machine : Option (List ℕ)) (images : List Image) (taken : List Taken) (P : List Entry → Type 0)
    → (Follows taken P (devices_entries set set.devices images) → Follows (machine_taken machine ++ taken) P (entries set machine images))
    × (Along taken P (devices_entries set set.devices images) → Along (machine_taken machine ++ taken) P (entries set machine images))
behind_machine set machine images taken P = grind arith

-- the machine is no part
parts_machine : (set : Set) (machine : Option (List ℕ)) (line : ℕ) (images : List Image) → line ≡ 1 + length (machine_taken machine)
    → parts_from set line (devices_entries set set.devices images) ≡ parts_from set 1 (entries set machine images)
parts_machine set machine line images e = grind arith

module _ (set : Set) (text : List ℕ) (machine : Option (List ℕ)) (line : ℕ) (after : List ℕ)
    (named : machine ≡ machine_named set.machines (first_line text)) (headed : Moved 1 text (machine_taken machine) line after) where
  -- a line that is bad after what was taken, if these entries are to come
  first_bad : {images : List Image} {at : ℕ} {rest : List ℕ} {Q : List Entry → Type 0} (reason : ValuesReason)
      → AllWent set set.devices line after images at rest Q → ((es : List Entry) → Q es → front_reason es rest ≡ Some reason) → OneBad set text (Bad at reason)
  first_bad {images = images} {at = at} {rest = rest} {Q = Q} reason a bad =
      let P : List Entry → Type 0 = λ es. front_reason es rest ≡ Some reason in
      let all = machine_taken machine ++ a.taken in
      let passed : Moved 1 text all at rest = moved_then headed a.moved in
      let its : (images : List Image) → AreShaped set set.devices images → Follows all P (entries set machine images) =
      λ images shaped. (behind_machine set _ images _ P).0 (follows_ends _ Q P _ (a.follows images shaped) bad) in
      let s = split all P P _ passed.fine (its images a.shaped)
      ((behind_machine set _ images _ P).1 (rw (append-nil a.taken) at (along_then _ [] Q P _ a.along bad))) in
      record {
        line = at;
        reason = reason;
        machine = machine;
        taken = all;
        rest = rest;
        took = record { named = named; follows = its; moved = passed };
        is_bad = record {
          machine = machine;
          images = images;
          before = s.before;
          after = s.after;
          rest = rest;
          named = named;
          shaped = a.shaped;
          state = s.is;
          fine = s.fine;
          begins = cc;
          number = omega arith;
          bad = s.rest;
        };
        is = refl;
      }

  by_rest : (all : ReadAll) (rest : List ℕ) → all.rest ≡ rest → AllRead set set.devices line after all → FirstPass set text (judged set machine all rest)
  by_rest all [] e a = inr (record {
    machine = machine;
    all = all;
    taken = machine_taken machine ++ a.taken;
    took = record {
      named = named;
      follows = λ images shaped. (behind_machine set _ images _ (λ es. Ends None [] es)).0
          (follows_ends _ (λ es. es ≡ []) (λ es. Ends None [] es) _ (a.follows images shaped) (λ es e. (e, refl)));
      moved = moved_then headed (rw e at a.moved);
    };
    shaped = a.shaped;
    unsaid = a.unsaid;
    judged = devices_judged set line _ _ a.lined a.shaped ∙ parts_machine set _ line _ headed.further;
    along = (behind_machine set _ _ _ (λ es. es ≡ [])).1 a.along;
    is = refl;
  })
  -- something comes after the last line
  by_rest all (b ∷ rest) e a = inl (first_bad _ a.whole (λ es is. rw (is, e)))

  by_end : (o : Result ReadAll BadLine) → AllCome set set.devices line after o → FirstPass set text (ended set machine o)
  by_end (Ok all) a = by_rest all _ refl a
  by_end (Err e) a = inl (first_bad _ a.before (λ es b. rw b.is (reason_same b.first (first_line a.rest) ∙ rw b.demands a.wrong)))

-- ---- The first pass over a text: a bad line, or what its lines say.

machine_first : (machines : List (List ℕ)) (o : Option (List ℕ × List ℕ)) (name : List ℕ) → machine_named machines o ≡ Some name
    → (rest : List ℕ) × (o ≡ Some (codes "machine " ++ name, rest))
machine_first machines None name e = cc
machine_first machines (Some (line, rest)) name e =
    let p = some_if (begins_with (codes "machine ") line && is_one_of machines (drop 8 line)) _ _ e in
    (rest, rw (begun (codes "machine ") line (and_parts _ _ p.0).0, p.1))

name_moved : (set : Set) (text name : List ℕ) → machine_named set.machines (first_line text) ≡ Some name
    → Moved 1 text (machine_taken (Some name)) 2 (rest_of (first_line text))
name_moved set text name e =
    let line = machine_first _ _ name e in
    moved_one 1 text (record { demand = ForMachine name; line = codes "machine " ++ name }) (rest_of (first_line text))
    (line_taken text (codes "machine " ++ name) line.0 line.1) (rw ((bytes_eq-Decides _ _).1 refl))

by_machine : (set : Set) (text : List ℕ) → AreSound set.structs → AreGoodDevices set set.devices → (machine : Option (List ℕ))
    → machine_named set.machines (first_line text) ≡ machine → FirstPass set text (after_machine set text machine)
by_machine set text structs good None e = by_end set text None 1 text (sym e) (moved_none 1 text) _ (devices_come set structs _ good 1 text)
by_machine set text structs good (Some name) e =
    let after = rest_of (first_line text) in
    by_end set text _ 2 after (sym e) (name_moved set text name e) _ (devices_come set structs _ good 2 after)

pub first_pass : (set : Set) (text : List ℕ) → AreSound set.structs → AreGoodDevices set set.devices → FirstPass set text (values_read set text)
unfolding values_read
first_pass set text structs good = by_machine set text structs good _ refl
