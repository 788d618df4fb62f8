-- The laws of values texts, as they are stated.
use Rattle.vms_values_laws.proofs.{Meeting.clean_devices, SecondPass.parts_from, AllCome.images_of, AllCome.good_devices}
use Rattle.vms_values_laws.proofs.Accepted.{Match, matched, devices_same, answer_by, none_answers, none_says, none_good, says_ready, named_machine}
use Rattle.vms_values_laws.proofs.BadLines.{FirstPass, NoneBad, first_pass, TakenOf}
use Rattle.vms_values_laws.proofs.Facade
use Facade.{◌≡◌, inl, inr, ℕ, List, ◌++◌, Option, Some, None, sym, ap, ◌∙◌, subst, arith, ◌∷◌, map, refl, append-nil, [], ◌+◌}
use Facade.{length, suc, ◌≤◌, sum_by, ℤ, length-append, length-map, sum_by-cons, ValuesReason, Set, Device, Desc, Sub, ValuesRead, Bad, machine_named}
use Facade.{BadLine, Values, values_read, Entry, entries, devices_entries, entry_line, OfNumber, number_entries, subs_entries, device_entries, IsBadLine}
use Facade.{IsMachineOf, Says, IsText, Refused, Reads, Taken, Image, own_cells, first_line, IsConfiguration, IsTrailer, optional, configuration, trailer}
use Facade.{written, AreReady, WellFormed, text_of, printed, values_text, IsFit, well_good, entry_law, text_is, ReadLaw, OnlyLaw, AcceptedLaw, PrintedLaw}
use Facade.{device_lines, most_lines, LineLaw, machine_short, few_devices, Takes, one_stream_holds, written_holds, FitsText, WrittenLaw, PackedLaw, ShownLaw}
use Facade.{desc_cells, struct_cells, Element, cells_of, elements_in, walks, AreShaped, AreFine, is_number, cells_with, Number, What, and-true, and-false}
use Facade.{if◌then◌else◌, ◌&&◌}
use Rattle.vms_values_laws.proofs.Meeting.{clean_named, AreClean, Ends, Same, meet, NoFeed, line_first, AreCleanDevices, clean_entries}
use Rattle.vms_values_laws.proofs.ReadyParts.{sub_cells, first_part, bad_part_found, good_none, text_says}

-- ---- the machine that a text names

-- the first line of a text that has this line first
first_is : (text line : List ℕ) (lines : List (List ℕ)) → NoFeed line → text ≡ text_of (line ∷ lines) → first_line text ≡ Some (line, text_of lines)
first_is text line lines clean e = cc (line_first line (text_of lines) clean)

by_devices : (set : Set) (text : List ℕ) (devices : List Device) (images : List Image) → AreCleanDevices devices
    → text ≡ text_of (map entry_line (devices_entries set devices images)) → machine_named set.machines (first_line text) ≡ None
by_devices set text (d ∷ devices) (image ∷ images) clean e = grind (arith, machine_named, first_is)
by_devices set text _ _ clean e = rw e

named_by : (set : Set) → WellFormed set → (text : List ℕ) (machine : Option (List ℕ)) (images : List Image) → IsMachineOf set machine
    → text ≡ text_of (map entry_line (entries set machine images)) → machine_named set.machines (first_line text) ≡ machine
named_by set well text machine images named e = grind (arith, by_devices, clean_devices, machine_named, first_is, clean_named)

-- ---- What was taken, beside what is stated: a bad line by the relation is the one that is found, and so are the lines of a state.

module _ {set : Set} {text : List ℕ} {machine' : Option (List ℕ)} {taken : List Taken} {at : ℕ} {rest : List ℕ} {o : Option ValuesReason}
    (t : TakenOf set text machine' taken at rest o) where
  -- a state that has these lines and then ends like this
  beside : (machine : Option (List ℕ)) (images : List Image) (before after : List Entry) (rest' : List ℕ) (o' : Option ValuesReason)
      → machine ≡ machine_named set.machines (first_line text) → AreShaped set set.devices images → entries set machine images ≡ before ++ after
      → AreClean (before ++ after) → AreFine before → text ≡ text_of (map entry_line before) ++ rest' → Ends o' rest' after → Same taken before o o'
  beside machine images before after rest' o' named shaped state clean fine begins ends =
      meet taken before after rest rest' o o' (rw (← state, named, ← t.named) (t.follows images shaped)) clean t.moved.fine fine
      (sym t.moved.texts ∙ begins) ends

  against : {line : ℕ} {reason : ValuesReason} (x : IsBadLine set text line reason) → AreClean (entries set x.machine x.images)
      → Same taken x.before o (Some reason)
  against x clean = beside _ _ _ _ x.rest _ x.named x.shaped x.state (rw x.state at clean) x.fine x.begins x.bad

  its_lines : WellFormed set → (machine : Option (List ℕ)) (images : List Image) → Says set text machine images
      → Same taken (entries set machine images) o None
  its_lines well machine images says =
      let es = entries set machine images in
      let clean : AreClean (es ++ []) = subst AreClean (sym (append-nil es)) (clean_entries set well _ images says.named) in
      beside _ images es [] [] None (sym (named_by set well text _ images says.named says.printed)) says.shaped (sym (append-nil es)) clean
      says.fine (says.printed ∙ sym (append-nil _)) (refl, refl)

bad_back : (set : Set) (text : List ℕ) (line : ℕ) (reason : ValuesReason) (x : IsBadLine set text line reason) → AreClean (entries set x.machine x.images)
    → (v : ValuesRead) → FirstPass set text v → v ≡ Bad line reason
bad_back set text line reason x clean v (inl b) =
    let same = against b.took x clean in
    let reasons : b.reason ≡ reason = (let e = same.reason in cc) in
    let lines : b.line ≡ line = omega (arith, b.took.moved.further, same.long, x.number) in
    rw (← lines, ← reasons) b.is
bad_back set text line reason x clean v (inr n) = let e = (against n.took x clean).reason in cc

-- ---- What a text says, if no line is bad, is what is read of it.

module _ (set : Set) (well : WellFormed set) (text : List ℕ) (machine : Option (List ℕ)) (images : List Image) (says : Says set text machine images) where
  same_devices : (machine : Option (List ℕ)) (i j : List Image) → Match (entries set machine i) (entries set machine j)
      → Match (devices_entries set set.devices i) (devices_entries set set.devices j)
  same_devices machine i j m = grind arith

  module _ (v : ValuesRead) (n : NoneBad set text v) where
    same_machine : n.machine ≡ machine
    same_machine = grind (arith, named_by)

    same_images : images_of n.all.devices ≡ images
    same_images =
        let read = images_of n.all.devices in
        let m : Match (entries set n.machine read) (entries set n.machine images) =
        matched n.taken (entries set n.machine read) (entries set n.machine images) (n.follows read n.shaped) n.along (n.follows images says.shaped)
        ((its_lines n.took well _ images says).lines ∙ ap (λ m. map entry_line (entries set m images)) (sym same_machine)) in
        devices_same set set.devices read images n.shaped says.shaped n.unsaid says.unsaid (same_devices _ read images m)

  pub says_answers : (v : ValuesRead) → FirstPass set text v → v ≡ answer_by machine images (parts_from set 1 (entries set machine images))
  says_answers v (inl b) = let e = (its_lines b.took well _ images says).reason in cc
  says_answers v (inr n) = none_answers set text v n ∙ rw (same_machine v n, same_images v n)

-- ---- The laws of reading, as they are stated.

its_first_pass : (set : Set) (text : List ℕ) → IsFit set → FirstPass set text (values_read set text)
its_first_pass set text fit = let good = well_good set fit.well fit.heads in first_pass set text good.structs (good_devices set good)

by_parts : (set : Set) (text : List ℕ) (machine : Option (List ℕ)) (images : List Image) (o : Option BadLine) → IsFit set → Says set text machine images
    → parts_from set 1 (entries set machine images) ≡ o → Reads set text (answer_by machine images o)
by_parts set text machine images (Some b) fit says e =
    let p = first_part set 1 (entries set machine images) b e in
    inr (record {
      machine = machine;
      images = images;
      before = p.before;
      entry = p.entry;
      after = p.after;
      says = says;
      state = p.is;
      good = p.good;
      number = p.number ∙ omega arith;
      bad = p.bad;
    })
by_parts set text machine images None fit says e = record {
  named = says.named;
  ready = says_ready set fit.well (well_good set fit.well fit.heads) text _ images says (none_good set 1 _ e);
  printed = cc (entry_law set machine images, text_is set machine images);
}

by_pass : (set : Set) (text : List ℕ) (v : ValuesRead) → IsFit set → FirstPass set text v → Reads set text v
by_pass set text v fit (inl b) = rw b.is (inl b.is_bad)
by_pass set text v fit (inr n) = rw (none_answers set text v n) (by_parts set text _ _ _ fit (none_says set text v n) refl)

pub read_holds : ReadLaw
read_holds set text fit = by_pass set text _ fit (its_first_pass set text fit)

pub accepted_holds : AcceptedLaw
accepted_holds set text machine images fit e = rw e at (read_holds set text fit)

text_back : (set : Set) (text : List ℕ) (machine : Option (List ℕ)) (images : List Image) → IsFit set → IsText set text machine images
    → values_read set text ≡ Values machine images
text_back set text machine images fit t =
    let s = text_says set text _ images t in
    says_answers set fit.well text _ images s.says _ (its_first_pass set text fit) ∙ rw (good_none set 1 _ s.good)

refused_back : (set : Set) (text : List ℕ) (line : ℕ) (reason : ValuesReason) → IsFit set → Refused set text line reason
    → values_read set text ≡ Bad line reason
refused_back set text line reason fit (inl x) =
    bad_back set text line reason x (clean_entries set fit.well _ _ (named_machine set text _ x.named)) _ (its_first_pass set text fit)
refused_back set text line reason fit (inr x) =
    let here : 1 + length x.before ≡ line = omega (arith, x.number) in
    says_answers set fit.well text _ _ x.says _ (its_first_pass set text fit) ∙ rw (x.state, bad_part_found set 1 _ _ _ reason x.good x.bad, here)

pub only_holds : OnlyLaw
only_holds set text (Values machine images) fit r = text_back set text _ images fit r
only_holds set text (Bad line reason) fit r = refused_back set text line reason fit r

pub printed_holds : PrintedLaw
printed_holds set machine images fit named ready =
    text_back set (values_text set machine images) machine images fit (record { named = named; ready = ready; printed = refl })

-- ---- Streams of any set, written and shown.

module _ (set : Set) (well : WellFormed set) where
  configured : (machine : Option (List ℕ)) → IsMachineOf set machine → IsConfiguration set.machines machine (optional configuration machine)
  configured machine h = grind (arith, machine_short)

trailed : (described : Option (List ℕ)) → FitsText described → IsTrailer described (optional trailer described)
trailed described h = grind arith

-- all of it is taken
pub takes : (set : Set) → WellFormed set → (machine described : Option (List ℕ)) (images : List Image) → IsMachineOf set machine → FitsText described
    → AreReady set images → Takes set set.machines (written set machine images described) (length (written set machine images described)) machine images
takes set well machine described images named fits ready =
    let stream = written set machine images described in
    rw (append-nil stream) at (written_holds set set.machines (omega (arith, few_devices set well)) machine described images (configured set well _ named)
    (trailed _ fits) ready [] (λ e. refl))

pub written_only : WrittenLaw
written_only set machine described images fit named fits ready =
    let stream = written set machine images described in
    let whole = takes set fit.well _ _ images named fits ready in
    record {
      whole = whole;
      only = λ taken other others t.
          let same = one_stream_holds set set.machines fit.well fit.heads stream
          (length stream) taken machine other images others whole t in (sym same.lengths, sym same.machines, sym same.states);
    }

pub packed_holds : PackedLaw
packed_holds set text machine described images fit fits e =
    let is = accepted_holds set text machine images fit e in
    record { machine = machine; images = images; whole = takes set fit.well _ _ images is.named fits is.ready; printed = sym is.printed }

pub shown_holds : ShownLaw
shown_holds set machine described images fit named fits ready text s =
    let stream = written set machine images described in
    let same = (written_only set machine described images fit named fits ready).only (length stream) s.machine s.images s.whole in
    sym (ap (values_read set) (rw (sym same.1) (ap (values_text set s.machine) (sym same.2) ∙ s.printed))) ∙ printed_holds set machine images fit named ready

-- ---- The number of lines that a text of a set may have.

few_printed : (xs : List Element) → length (printed xs) ≤ length (cells_of xs)
few_printed [] = omega arith
few_printed (x ∷ xs) = by_what x.what (few_printed xs) where
  by_what : (w : What) → length (printed xs) ≤ length (cells_of xs)
      → length (if x.counted && is_number w then x ∷ printed xs else printed xs) ≤ length (cells_with w (cells_of xs))
  by_what (Number cell) h = grind (arith, and-true)
  by_what _ h = rw (and-false x.counted) h

few_numbers : (set : Set) (d : Desc) (n : List ℤ) (at : ℕ) → length (number_entries set d n at) ≤ length (desc_cells (struct_cells set) d)
few_numbers set d n at =
    let xs = elements_in set d d.version n at in
    omega (arith, length-map (printed xs) (λ x. OfNumber x n), few_printed xs, ap length (walks set d d.version d.version n n at at).cells_are)

few_subs : (set : Set) (d : Device) (image : Image) (j at : ℕ) (subs : List Sub) (came : List (Option ℕ))
    → length (subs_entries set d image j at subs came) ≤ length subs + length (sub_cells set subs)
few_subs set d image j at (s ∷ subs) (o ∷ came) =
    let own = desc_cells (struct_cells set) s.desc in
    let entries = length-append (number_entries set s.desc image.numbers at) (subs_entries set d image (suc j) (at + length own) subs came) in
    omega (arith, few_subs set d image (suc j) (at + length own) subs came, few_numbers set s.desc image.numbers at, length-append own (sub_cells set subs))
few_subs set d image j at _ _ = omega arith

few_device : (set : Set) (d : Device) (image : Image) → length (device_entries set d image) ≤ device_lines set d
few_device set d image =
    let entries = length-append (number_entries set d.desc image.numbers 0) (subs_entries set d image 0 (own_cells set d) d.subs image.came) in
    let few = few_subs set d image 0 (own_cells set d) d.subs image.came in
    omega (arith, few_numbers set d.desc image.numbers 0, length-append (desc_cells (struct_cells set) d.desc) (sub_cells set d.subs))

few_all : (set : Set) (devices : List Device) (images : List Image) → length (devices_entries set devices images) ≤ sum_by (device_lines set) devices
few_all set (d ∷ devices) (image ∷ images) =
    let entries = length-append (device_entries set d image) (devices_entries set devices images) in
    omega (arith, few_device set d image, few_all set devices images, sum_by-cons (device_lines set) d devices)
few_all set _ _ = omega arith

few_entries : (set : Set) (machine : Option (List ℕ)) (images : List Image) → length (entries set machine images) ≤ most_lines set
few_entries set None images = omega (arith, few_all set set.devices images)
few_entries set _ images = omega (arith, few_all set set.devices images)

by_refused : (set : Set) (text : List ℕ) (line : ℕ) (reason : ValuesReason) → Refused set text line reason → line ≤ suc (most_lines set)
by_refused set text line reason (inl x) = omega (arith, ap length x.state, length-append x.before x.after, few_entries set x.machine x.images)
by_refused set text line reason (inr x) = omega (arith, ap length x.state, length-append x.before (x.entry ∷ x.after), few_entries set x.machine x.images)

pub line_holds : LineLaw
line_holds set text line reason fit e = by_refused set text line reason (rw e at (read_holds set text fit))
