-- Images that may be written, part by part, and the first bad part.
use Rattle.vms_values_laws.proofs.{SaidLaws.if_none, SaidLaws.short, AllCome.are_short, Facade.sub_line}
use Rattle.vms_values_laws.proofs.Facade.{all_both, ◌≡◌, ℕ, suc, ◌+◌, ◌≤◌, Bool, true, false, List, ◌∷◌, ◌++◌, length, get_or}
use Rattle.vms_values_laws.proofs.Facade.{Option, Some, None, ℤ, refl, sym, ap, ◌∙◌, arith, [], map, flat_map, slice_get, printed, or_else_none}
use Rattle.vms_values_laws.proofs.Facade.{ValuesReason, or_else, Desc, Sub, Device, Set, Cell, no_cell, Slot, desc_cells, struct_cells, device_cells, Image}
use Rattle.vms_values_laws.proofs.Facade.{own_cells, own_slots, sub_slots, came_slots, image_slots, RulesHold, AreVersionsOf, is_needed, ComeAsNeeded, IsReady}
use Rattle.vms_values_laws.proofs.Facade.{DefaultsFit, rules_append, rules_decide, elements_in, Entry, OfSub, number_entries, subs_entries, device_entries}
use Rattle.vms_values_laws.proofs.Facade.{if_not, have_defaults, came_well, part_reason, AreFine, IsShaped, AreUnsaid, AreAtVersions, walks, elements_slots}
use Rattle.vms_values_laws.proofs.Facade.{BadLine, or_bad, pos, ranged, devices_entries, entries, AreShaped, AllUnsaid, IsText, Says, entry_law, text_is}
use Rattle.vms_values_laws.proofs.Facade.{OfSection, bytes_eq, bytes_eq-Decides, entry_line, is_of_cell, line_reason, or_right, rules_split, section_line}
use Rattle.vms_values_laws.proofs.Rights.{right_none, part, right_by, known_both, Known, defaults_are, AreGood, IfDefaults}
use Rattle.vms_values_laws.proofs.SecondPass.{of_numbers, AreShort, short_within, desc_rules, as_bad, parts_from}
use Rattle.vms_spec.specs.declared.ValuesReason.TheVariants as reasons
use Rattle.vms_spec.specs.Layout as slots

-- ---- The entries of a state, beside its cells and slots.

pub bytes_same : (a b : List ℕ) → a ≡ b → if_not (bytes_eq a b) reasons.Form ≡ None
bytes_same a b e = rw ((bytes_eq-Decides a b).1 e)

two_none : (a b : Bool) → or_else (if_not a reasons.Invalid) (if_not b reasons.Needed) ≡ None → (a ≡ true) × (b ≡ true)
two_none a b e = let p = or_else_none _ _ e in (if_none a _ p.0, if_none b _ p.1)

-- what has come was to come, and what hasn't is at its defaults
well_come : (b : Bool) (v : ℕ) (have : Bool) → came_well b (Some v) have ≡ true → b ≡ true
well_come b v have e = grind arith

well_away : (b have : Bool) → came_well b None have ≡ true → (b ≡ false) × (have ≡ true)
well_away b have e = grind arith

-- a line that is no number's, before those of a part's numbers
head_known : {set : Set} {n : List ℤ} {at : ℕ} {es : List Entry} {cells : List Cell} {ss : List Slot} {N : Type 0} (e : Entry)
    → ((k : ℕ) → is_of_cell k e ≡ false) → line_reason e (entry_line e) ≡ None → (part_reason set e ≡ None → N) → (N → part_reason set e ≡ None)
    → Known set n at es cells ss (Unit {0}) → Known set n at (e ∷ es) cells ss N
head_known e silent fine to from p = record {
  outside = λ k h. rw (silent k) (p.outside k h);
  unsaid = λ k h. p.unsaid k (rw (silent k) at h);
  said = λ f g d bare. ((p.said f.1 g.1 d (λ c k lt e none. bare c k lt e (rw (silent k) none))).0, to g.0);
  right = λ r m. let q = p.right r tt in ((fine, q.0), (from m, q.1));
}

module _ (set : Set) (n : List ℤ) (short : AreShort n) where
  abbrev cells : Desc → List Cell
  cells d = desc_cells (struct_cells set) d

  desc_part : (d : Desc) (v at : ℕ) → Known set n at (of_numbers n (printed (elements_in set d v n at))) (cells d)
      (slots.desc_slots (slots.meanings set.structs (length set.structs)) d v n at) (Unit {0})
  desc_part d v at =
      let w = walks set d v v n n at at in
      rw (← (w.cells_are), ← (elements_slots set d v n at)) (part set n short at (elements_in set d v n at) w.up w.counted)

  desc_bare : (d : Desc) (v at : ℕ) → IfDefaults n at (cells d) (have_defaults n (elements_in set d v n at))
  desc_bare d v at = let w = walks set d v v n n at at in rw (← (w.cells_are)) (defaults_are n at (elements_in set d v n at) w.up)

-- the cells of subsections
abbrev pub sub_cells : Set → List Sub → List Cell
sub_cells set subs = flat_map (λ s. desc_cells (struct_cells set) s.desc) subs

module _ (set : Set) (d : Device) (image : Image) (short : AreShort image.numbers) where
  abbrev n : List ℤ
  n = image.numbers

  module _ (s : Sub) (j at : ℕ) where
    abbrev own : List Cell
    own = desc_cells (struct_cells set) s.desc

    its : Known set n at (number_entries set s.desc n at) own (sub_slots set s s.desc.version n at) (Unit {0})
    its = desc_part set n short s.desc _ at

    came_known : (v : ℕ) → v ≡ s.desc.version → Known set n at (OfSub d image j s at (Some v) ∷ number_entries set s.desc n at) own (sub_slots set s v n at)
        (RulesHold (sub_slots set s v n at) × (is_needed set d image s j ≡ true))
    came_known v same =
        let ss = sub_slots set s v n at in
        head_known (OfSub d image j s at (Some v)) (λ k. refl) (rw (same, (bytes_eq-Decides (sub_line s (Some s.desc.version)) _).1 refl))
        (λ g. let p = two_none _ _ g in ((rules_decide ss).0 (sym (desc_rules set s.desc v n at) ∙ p.0), well_come _ v _ p.1))
        (λ m. rw (desc_rules set s.desc v n at ∙ (rules_decide ss).1 m.0, m.1)) (rw same its)

    away_known : Known set n at (OfSub d image j s at None ∷ number_entries set s.desc n at) own [] (is_needed set d image s j ≡ false)
    away_known = record {
      outside = λ k h. ((its.outside k h).0, refl);
      unsaid = λ k h. refl;
      said = λ f g defaults none.
          let w = well_away _ _ (two_none true _ g.0).1 in
          let bare = (desc_bare set n short s.desc _ at).0 w.1 in
          (record { right = λ c k lt e. let is = bare c k lt e refl in record { fits = rw is (defaults c lt); absent = λ h. is } }, w.0);
      right = λ r m.
          let line = or_right (bytes_eq (sub_line s None) (sub_line s (Some s.desc.version))) _ ((bytes_eq-Decides (sub_line s None) _).1 refl) in
          let p = its.right (record { right = λ c k lt e. right_by (λ h. refl) (r.right c k lt e) }) tt in
          ((rw line, p.0), (rw (m, ((desc_bare set n short s.desc s.desc.version at).1 (λ c k lt e f. (r.right c k lt e).absent refl))), p.1));
    }

  subs_known : (j at : ℕ) (subs : List Sub) (came : List (Option ℕ)) → length came ≡ length subs → AreAtVersions subs came
      → Known set n at (subs_entries set d image j at subs came) (sub_cells set subs) (came_slots set d n at subs came)
      (RulesHold (came_slots set d n at subs came) × ComeAsNeeded set d image j subs came)
  subs_known j at [] [] long v = record {
    outside = λ k h. (refl, refl);
    unsaid = λ k h. refl;
    said = λ f g d bare. (right_none n at [], (tt, refl));
    right = λ r m. (tt, tt);
  }
  subs_known j at (s ∷ subs) (None ∷ came) long v =
      known_both (λ a b. (b.0, (a, b.1))) (λ m. (m.1.0, (m.0, m.1.1))) refl (away_known s j at) (subs_known (suc j) _ subs came (omega arith) v.1)
  subs_known j at (s ∷ subs) (Some w ∷ came) long v =
      let mine = sub_slots set s w n at in
      let later = came_slots set d n (at + length (desc_cells (struct_cells set) s.desc)) subs came in
      known_both (λ a b. (rules_append mine later a.0 b.0, (a.1, v.0, b.1))) (λ m. let r = rules_split mine later m.0 in ((r.0, m.1.0), (r.1, m.1.2))) refl
      (came_known s j at w v.0) (subs_known (suc j) _ subs came (omega arith) v.1)
  subs_known j at _ _ long v = absurd (omega arith)

  device_known : image.version ≡ d.desc.version → length image.came ≡ length d.subs → AreAtVersions d.subs image.came
      → Known set n 0 (device_entries set d image) (device_cells set d) (image_slots set d image)
      (RulesHold (image_slots set d image) × ComeAsNeeded set d image 0 d.subs image.came)
  device_known version long versions =
      let ss = own_slots set d image.version n in
      let later = came_slots set d n (own_cells set d) d.subs image.came in
      let line = bytes_same _ _ (ap (section_line d) version) in
      let rules = desc_rules set d.desc _ n 0 in
      let own : Known set n 0 (OfSection d image ∷ number_entries set d.desc n 0) (desc_cells (struct_cells set) d.desc) ss (RulesHold ss) =
      head_known _ (λ k. refl) line (λ g. (rules_decide ss).0 (sym rules ∙ if_none _ _ g))
      (λ m. rw (rules ∙ (rules_decide ss).1 m)) (rw version (desc_part set n short d.desc _ 0)) in
      known_both (λ a b. (rules_append ss later a b.0, b.1)) (λ m. let r = rules_split ss later m.0 in (r.0, (r.1, m.1))) (omega arith) own
      (subs_known 0 _ d.subs _ long versions)

  -- ---- A state that a text says, with good parts, is ready.

  versions_of : (subs : List Sub) (came : List (Option ℕ)) → length came ≡ length subs → AreAtVersions subs came
      → ((j : ℕ) (s : Sub) → slice_get subs j ≡ Some s → s.desc.minimum ≤ s.desc.version) → AreVersionsOf subs came
  versions_of [] [] long h low = tt
  versions_of (s ∷ subs) (None ∷ came) long h low = versions_of subs came (omega arith) h.1 (λ j t e. low (suc j) t e)
  versions_of (s ∷ subs) (Some v ∷ came) long h low =
      let l = low 0 s refl in
      ((omega arith, omega arith), versions_of subs came (omega arith) h.1 (λ j t e. low (suc j) t e))
  versions_of _ _ long h low = absurd (omega arith)

  pub device_ready : IsShaped set d image → AreUnsaid set d image → AreFine (device_entries set d image) → AreGood set (device_entries set d image)
      → DefaultsFit (device_cells set d)
      → d.desc.minimum ≤ d.desc.version → ((j : ℕ) (s : Sub) → slice_get d.subs j ≡ Some s → s.desc.minimum ≤ s.desc.version) → IsReady set d image
  device_ready shaped unsaid fine good defaults low lows =
      let p = (device_known shaped.version shaped.subs shaped.versions).said fine good defaults (λ c k lt e h.
      unsaid k (omega arith) h ∙ ap (λ i. (get_or (device_cells set d) i no_cell).default) (omega arith)) in
      record {
        normal = record {
          version = (omega arith, omega arith);
          subs = versions_of d.subs _ shaped.subs shaped.versions lows;
          cells = record { long = shaped.cells; fits = λ c lt. (p.0.right c c lt (omega arith)).fits };
          absent = λ c lt e. (p.0.right c c (omega arith) (omega arith)).absent e;
        };
        valid = p.1.0;
        version = shaped.version;
        needed = p.1.1;
      }

-- ---- The first bad part of entries.

pub record FirstPart (set : Set) (line : ℕ) (es : List Entry) (b : BadLine) : Type 0 where
  pub before : List Entry
  pub entry : Entry
  pub after : List Entry
  pub is : es ≡ before ++ entry ∷ after
  pub good : map (part_reason set) before ≡ map (λ e. None) before
  pub number : b.line ≡ line + length before
  pub bad : part_reason set entry ≡ Some b.reason

pub first_part : (set : Set) (line : ℕ) (es : List Entry) (b : BadLine) → parts_from set line es ≡ Some b → FirstPart set line es b
first_part set line [] b h = absurd (cc)
first_part set line (e ∷ es) b h = go _ refl h (λ g. first_part set (suc line) es b g) where
  go : (o : Option ValuesReason) → part_reason set e ≡ o → or_bad (as_bad line o) (parts_from set (suc line) es) ≡ Some b
      → (parts_from set (suc line) es ≡ Some b → FirstPart set (suc line) es b) → FirstPart set line (e ∷ es) b
  go None is h more =
      let p = more h in
      record {
        before = e ∷ p.before;
        entry = p.entry;
        after = p.after;
        is = rw p.is;
        good = rw (is, p.good);
        number = omega arith;
        bad = p.bad;
      }
  go (Some reason) is h more =
      let same : record { line = line; reason = reason } ≡ b = cc in
      record { before = []; entry = e; after = es; is = refl; good = refl; number = rw (← same) (omega arith); bad = rw (← same) is }

pub bad_part_found : (set : Set) (line : ℕ) (before : List Entry) (entry : Entry) (after : List Entry) (reason : ValuesReason)
    → map (part_reason set) before ≡ map (λ e. None) before
    → part_reason set entry ≡ Some reason → parts_from set line (before ++ entry ∷ after) ≡ Some (record { line = line + length before; reason = reason })
bad_part_found set line [] entry after reason good bad =
    let same : line ≡ line + 0 = omega arith in
    rw (bad, ← same)
bad_part_found set line (e ∷ before) entry after reason good bad =
    let here : part_reason set e ≡ None = cc in
    let same : line + suc (length before) ≡ suc line + length before = omega arith in
    rw (here, same) (bad_part_found set (suc line) before entry after reason (cc) bad)

pub good_none : (set : Set) (line : ℕ) (es : List Entry) → AreGood set es → parts_from set line es ≡ None
good_none set line [] g = refl
good_none set line (e ∷ es) g = rw g.0 (good_none set (suc line) es g.1)

-- ---- Ready images are what their text says, and no part of them is bad.

came_at : (set : Set) (d : Device) (image : Image) (j : ℕ) (subs : List Sub) (came : List (Option ℕ)) → ComeAsNeeded set d image j subs came
    → (length came ≡ length subs) × AreAtVersions subs came
came_at set d image j [] [] h = (refl, tt)
came_at set d image j [] (o ∷ came) h = absurd (cc)
came_at set d image j (s ∷ subs) [] h = absurd h
came_at set d image j (s ∷ subs) (None ∷ came) h = let p = came_at set d image (suc j) subs came h.1 in (ap suc p.0, (tt, p.1))
came_at set d image j (s ∷ subs) (Some v ∷ came) h = let p = came_at set d image (suc j) subs came h.2 in (ap suc p.0, (h.1, p.1))

-- what the lines of a device are
record DeviceSays (set : Set) (d : Device) (image : Image) : Type 0 where
  shaped : IsShaped set d image
  unsaid : AreUnsaid set d image
  fine : AreFine (device_entries set d image)
  good : AreGood set (device_entries set d image)

device_says : (set : Set) (d : Device) (image : Image) → AreShort image.numbers → IsReady set d image → DeviceSays set d image
device_says set d image short ready =
    let at = came_at set d image 0 d.subs _ ready.needed in
    let known = device_known set d image short ready.version at.0 at.1 in
    let p = known.right (record {
      right = λ c k lt e. let same : k ≡ c = omega arith in
          record {
            fits = rw same (ready.normal.cells.fits c lt);
            absent = λ h. ready.normal.absent k (omega arith) h ∙ ap (λ i. (get_or (device_cells set d) i no_cell).default) same;
          };
    }) (ready.valid, ready.needed) in
    record {
      shaped = record { version = ready.version; subs = at.0; versions = at.1; cells = ready.normal.cells.long; short = are_short image.numbers short };
      unsaid = λ c lt e. ready.normal.absent c lt (known.unsaid c e);
      fine = p.0;
      good = p.1;
    }

-- numbers that fit their cells have at most 64 bits
ready_short : (set : Set) (d : Device) (image : Image) → IsReady set d image → AreShort image.numbers
ready_short set d image ready = short_within _ (λ c lt.
    short (get_or (device_cells set d) c no_cell).kind (get_or image.numbers c (pos 0)) (ranged _ _ (ready.normal.cells.fits c (omega arith)).0))

record AllSay (set : Set) (devices : List Device) (images : List Image) : Type 0 where
  shaped : AreShaped set devices images
  unsaid : AllUnsaid set devices images
  fine : AreFine (devices_entries set devices images)
  good : AreGood set (devices_entries set devices images)

all_say : (set : Set) (devices : List Device) (images : List Image) → length images ≡ length devices
    → ((k : ℕ) (d : Device) (image : Image) → slice_get devices k ≡ Some d → slice_get images k ≡ Some image → IsReady set d image) → AllSay set devices images
all_say set [] [] long ready = record { shaped = tt; unsaid = tt; fine = tt; good = tt }
all_say set (d ∷ devices) (image ∷ images) long ready =
    let here = ready 0 d image refl refl in
    let mine = device_says set d image (ready_short set d image here) here in
    let others = all_say set devices images (omega arith) (λ k e i a b. ready (suc k) e i a b) in
    record {
      shaped = (mine.shaped, others.shaped);
      unsaid = (mine.unsaid, others.unsaid);
      fine = all_both _ (device_entries set d image) (devices_entries set devices images) mine.fine others.fine;
      good = all_both _ (device_entries set d image) (devices_entries set devices images) mine.good others.good;
    }
all_say set _ _ long ready = absurd (omega arith)

-- what a text says, and no part of it is bad
pub record SaysWell (set : Set) (text : List ℕ) (machine : Option (List ℕ)) (images : List Image) : Type 0 where
  pub says : Says set text machine images
  pub good : AreGood set (entries set machine images)

with_machine : (set : Set) (machine : Option (List ℕ)) (images : List Image) → AllSay set set.devices images
    → AreFine (entries set machine images) × AreGood set (entries set machine images)
with_machine set machine images a = grind (arith, bytes_same)

pub text_says : (set : Set) (text : List ℕ) (machine : Option (List ℕ)) (images : List Image) → IsText set text machine images
    → SaysWell set text machine images
text_says set text machine images t =
    let a = all_say set _ images t.ready.one_each t.ready.ready in
    let p = with_machine set _ images a in
    record {
      says = record {
        named = t.named;
        shaped = a.shaped;
        unsaid = a.unsaid;
        fine = p.0;
        printed = cc (text_is set machine images, entry_law set machine images);
      };
      good = p.1;
    }
