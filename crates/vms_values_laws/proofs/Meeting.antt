-- Lines without a line feed: a text leads along one list of lines, and the entries of a fit set have no other.
use Rattle.vms_values_laws.proofs.{SecondPass.reason_same, SaidLaws.if_none, SaidLaws.some_if, SaidLaws.short}
use Rattle.vms_values_laws.proofs.Facade
use Facade.{name_byte_high, IsMachineOf, decimal_all, if_both, elements_each, all_both, all_from, ◌≡◌, ℕ, suc, ◌+◌, Bool, true, false, ◌==◌}
use Facade.{if◌then◌else◌, List, ◌∷◌, ◌++◌, length, drop, Option, Some, None, ℤ, refl, sym, ap, ◌∙◌, arith, codes, [], map}
use Facade.{append_assoc, ne_eqb, decimal, signed_decimal, bytes_eq, bytes_eq-Decides, some_pair_parts, AllByRecursion, ◌&&◌, get_or, nat_le, take}
use Facade.{slice_get, list_all, and_parts, get_or_from_slice_get, take-append-drop, or_else_none, either_of, Cell, first_line, begins_with, number_spelled}
use Facade.{spelled_holds, begun, What, Number, Element, text_of, if_not, element_reason, spelled_reason, Entry, entry_line, line_reason, front_reason, Demand}
use Facade.{ForMachine, ForSection, ForSub, ForNumber, reason_for, demand_of, Taken, lines_of, AreFineTaken, Follows, ValuesReason, AreFine, Count, Field, Desc}
use Facade.{Sub, Device, Set, no_desc, counted, desc_cells, struct_cells, Image, index_text, is_number, printed, OfNumber, number_entries, subs_entries}
use Facade.{device_entries, devices_entries, entries, is_name_byte, is_name, is_sub_name, is_one_of, machine_named, WellFormed, first_fault, Clean}
use Facade.{struct_clean, device_parts, sub_clean, get_none}
use Rattle.vms_spec.specs.declared.ValuesReason.TheVariants as reasons
use Rattle.vms_spec.specs.declared.Part.TheVariants as parts

-- ---- Lines without a line feed, and which lines meet a demand.

abbrev pub NoFeed : List ℕ → Type 0
NoFeed = AllByRecursion (λ b. (b == 10) ≡ false)

feed_append : (a b : List ℕ) → NoFeed a → NoFeed b → NoFeed (a ++ b)
feed_append = all_both _

-- such a line is the first of a text
pub line_first : (line rest : List ℕ) → NoFeed line → first_line (line ++ 10 ∷ rest) ≡ Some (line, rest)
line_first [] rest h = refl
line_first (b ∷ line) rest h = cc (line_first line rest h.1)

decimal_feed : (n : ℕ) → NoFeed (decimal n)
decimal_feed n = decimal_all _ (λ d lt. ne_eqb (48 + d) 10 (λ e. omega arith)) n

pub signed_feed : (z : ℤ) → NoFeed (signed_decimal z)
signed_feed z = grind (arith, decimal_feed)

-- what is demanded has no line feed
abbrev pub IsClean : Demand → Type 0
IsClean (ForMachine name) = NoFeed name
IsClean (ForSection d) = NoFeed d.desc.name
IsClean (ForSub s) = NoFeed s.desc.name
IsClean (ForNumber x) = NoFeed x.name

by_bytes : (a b : List ℕ) → if_not (bytes_eq a b) reasons.Form ≡ None → NoFeed b → NoFeed a
by_bytes a b e h = rw ((bytes_eq-Decides a b).0 (if_none _ _ e)) h

by_spelled : (cell : Cell) (present : Bool) (text : List ℕ) (o : Option ℤ) → number_spelled text ≡ o → spelled_reason cell present o ≡ None → NoFeed text
by_spelled cell present text None e f = cc
by_spelled cell present text (Some z) e f = rw (spelled_holds text z (short cell.kind z (if_none _ _ (or_else_none _ _ f).0)) e) (signed_feed z)

by_what : (what : What) (present : Bool) (text : List ℕ) → element_reason what present text ≡ None → NoFeed text
by_what (Number cell) present text e = by_spelled cell _ text _ refl e
by_what _ present text e = cc

by_front : (x : Element) (a : List ℕ) (b : Bool) → begins_with (x.name ++ codes " = ") a ≡ b
    → (if b then element_reason x.what x.present (drop (length (x.name ++ codes " = ")) a) else Some reasons.Form) ≡ None → NoFeed x.name → NoFeed a
by_front x a true e f h =
    rw (begun (x.name ++ codes " = ") a e)
    (feed_append _ _ (feed_append x.name _ h (refl, (refl, (refl, tt))))
    (by_what x.what _ _ f))
by_front x a false e f h = cc

pub sub_feed : (name text : List ℕ) → NoFeed name → NoFeed text → NoFeed (codes "sub " ++ (name ++ (codes " " ++ text)))
sub_feed name text h g = (refl, (refl, (refl, (refl, feed_append name _ h (refl, g)))))

-- a fine line has none
pub fine_feed : (demand : Demand) (a : List ℕ) → IsClean demand → reason_for demand (Some (a, [])) ≡ None → NoFeed a
fine_feed demand a h e = grind (arith, by_bytes, feed_append, either_of, if_none, bytes_eq-Decides, sub_feed, decimal_feed, by_front)

-- ---- A text leads along one list of lines: those that were taken are those of each state that has the text's lines.

abbrev pub AreClean : List Entry → Type 0
AreClean = AllByRecursion (λ (e : Entry). IsClean (demand_of e))

-- how a list of entries ends before the rest of a text: with the reason of the first bad line, or both with nothing
abbrev pub Ends : Option ValuesReason → List ℕ → List Entry → Type 0
Ends None rest es = (es ≡ []) × (rest ≡ [])
Ends (Some reason) rest es = front_reason es rest ≡ Some reason

-- the same lines and the same end
pub record Same (taken : List Taken) (before : List Entry) (o o' : Option ValuesReason) : Type 0 where
  pub long : length taken ≡ length before
  pub lines : lines_of taken ≡ map entry_line before
  pub reason : o ≡ o'

-- a fine line doesn't end them
not_ended : (o : Option ValuesReason) (e : Entry) (es : List Entry) (line rest : List ℕ) → NoFeed line → reason_for (demand_of e) (Some (line, [])) ≡ None
    → Ends o (line ++ 10 ∷ rest) (e ∷ es) → ⊥
not_ended o e es line rest feed fine h = grind (arith, reason_same, line_first)

fine_entry : (e : Entry) → line_reason e (entry_line e) ≡ None → reason_for (demand_of e) (Some (entry_line e, [])) ≡ None
fine_entry e h = cc (reason_same e (Some (entry_line e, [])))

pub meet : (taken : List Taken) (before after : List Entry) (rest rest' : List ℕ) (o o' : Option ValuesReason)
    → Follows taken (λ es. Ends o rest es) (before ++ after) → AreClean (before ++ after)
    → AreFineTaken taken → AreFine before → text_of (lines_of taken) ++ rest ≡ text_of (map entry_line before) ++ rest' → Ends o' rest' after
    → Same taken before o o'
meet [] [] after rest rest' o o' f clean fine fine' e ends = grind arith
meet [] (x ∷ before) after rest rest' o o' f clean fine fine' e ends =
    let is : rest ≡ entry_line x ++ 10 ∷ (text_of (map entry_line before) ++ rest') =
    e ∙ append_assoc (entry_line x) (10 ∷ text_of (map entry_line before)) rest' in
    absurd (not_ended o x _ _ _ (fine_feed _ _ clean.0 (fine_entry x fine'.0)) (fine_entry x fine'.0) (rw is at f))
meet (t ∷ taken) [] [] rest rest' o o' f clean fine fine' e ends = absurd f
meet (t ∷ taken) [] (x ∷ after) rest rest' o o' f clean fine fine' e ends =
    let same : reason_for (demand_of x) (Some (t.line, [])) ≡ None = rw f.0 fine.0 in
    let is : rest' ≡ t.line ++ 10 ∷ (text_of (lines_of taken) ++ rest) = cc (append_assoc t.line (10 ∷ text_of (lines_of taken)) rest) in
    absurd (not_ended o' x after t.line _ (fine_feed _ t.line clean.0 same) same (rw is at ends))
meet (t ∷ taken) (x ∷ before) after rest rest' o o' f clean fine fine' e ends =
    let feed' = fine_feed _ _ clean.0 (fine_entry x fine'.0) in
    let feed = fine_feed _ t.line clean.0 (rw f.0 fine.0) in
    let texts = sym (append_assoc t.line (10 ∷ text_of (lines_of taken)) rest) ∙ e ∙ append_assoc (entry_line x) (10 ∷ text_of (map entry_line before)) rest' in
    let both = some_pair_parts t.line _ _ _ (sym (line_first t.line _ feed) ∙ ap first_line texts ∙ line_first _ _ feed') in
    let more = meet taken before after rest rest' o o' (f.1 (sym both.0)) clean.1 fine.1 fine'.1 both.1 ends in
    record { long = ap suc more.long; lines = rw (both.0, more.lines); reason = more.reason }

-- ---- The entries of a set whose names have no line feed.

abbrev pub AreNamed : List Element → Type 0
AreNamed = AllByRecursion (λ (x : Element). NoFeed x.name)

abbrev pub AreCleanFields : List Field → Type 0
AreCleanFields = AllByRecursion (λ (f : Field). NoFeed f.name)

index_feed : (count : Count) (e : ℕ) → NoFeed (index_text count e)
index_feed count e = grind (arith, feed_append, decimal_feed)

clean_numbers : (n : List ℤ) (xs : List Element) → AreNamed xs → AreClean (map (λ x. OfNumber x n) (printed xs))
clean_numbers n [] h = tt
clean_numbers n (x ∷ xs) h =
    let more = clean_numbers n xs h.1 in
    if_both (λ l. AreClean (map (λ x. OfNumber x n) l)) (x.counted && is_number x.what) (x ∷ printed xs) (printed xs) (h.0, more) more

abbrev pub AreCleanSubs : List Sub → Type 0
AreCleanSubs = AllByRecursion (λ (s : Sub). NoFeed s.desc.name × AreCleanFields s.desc.fields)

abbrev pub AreCleanDevices : List Device → Type 0
AreCleanDevices = AllByRecursion (λ (d : Device). NoFeed d.desc.name × AreCleanFields d.desc.fields × AreCleanSubs d.subs)

module _ (set : Set) (structs : (j : ℕ) → AreCleanFields (get_or set.structs j no_desc).fields) where
  clean_part : (d : Desc) (n : List ℤ) (at : ℕ) → AreCleanFields d.fields → AreClean (number_entries set d n at)
  clean_part d n at h =
      clean_numbers n _
      (elements_each (λ f. NoFeed f.name) (λ x. NoFeed x.name) (λ x. NoFeed x.name) (λ f good caps at. tt) (λ x h. (refl, h))
      (λ f good number e c p x h. feed_append _ x.name (feed_append f.name _ good (index_feed _ e)) h)
      (λ at b. tt) (λ x h. h) set structs d _ h n at)

  clean_subs : (d : Device) (image : Image) (j at : ℕ) (subs : List Sub) (came : List (Option ℕ)) → AreCleanSubs subs
      → AreClean (subs_entries set d image j at subs came)
  clean_subs d image j at (s ∷ subs) (o ∷ came) h =
      let next = at + length (desc_cells (struct_cells set) s.desc) in (
        h.0.0,
        all_both _ _ _
            (clean_part s.desc _ at h.0.1) (clean_subs d image (suc j) next subs came h.1),
      )
  clean_subs d image j at _ _ h = tt

  clean_images : (devices : List Device) (images : List Image) → AreCleanDevices devices → AreClean (devices_entries set devices images)
  clean_images (d ∷ devices) (image ∷ images) h =
      all_both _ (device_entries set d image) (devices_entries set devices images) (
        h.0.0,
        all_both _ _ _
            (clean_part d.desc _ 0 h.0.1) (clean_subs d image 0 _ d.subs _ h.0.2),
      ) (clean_images devices images h.1)
  clean_images _ _ h = tt

-- ---- No name of a well-formed set has a line feed.

name_bytes : (name : List ℕ) → list_all is_name_byte name ≡ true → NoFeed name
name_bytes [] e = tt
name_bytes (b ∷ name) e =
    let p = and_parts (is_name_byte b) (list_all is_name_byte name) e in
    (ne_eqb b 10 (λ same. let h = name_byte_high b p.0 in omega arith), name_bytes name p.1)

clean_name : (most : ℕ) (name : List ℕ) → is_name most name ≡ true → NoFeed name
clean_name most name e = name_bytes name (and_parts (nat_le 1 (length name) && nat_le (length name) most) (list_all is_name_byte name) e).1

clean_sub_name : (device name : List ℕ) → NoFeed device → is_sub_name device name ≡ true → NoFeed name
clean_sub_name device name h e =
    let n = length device + 1 in
    let p = and_parts (bytes_eq (take n name) (device ++ 47 ∷ [])) (is_name 64 (drop n name)) e in
    let front : NoFeed (take n name) = rw ((bytes_eq-Decides (take n name) (device ++ 47 ∷ [])).0 p.0) (feed_append device (47 ∷ []) h (refl, tt)) in
    rw (take-append-drop n name) at (feed_append (take n name) (drop n name) front (clean_name 64 (drop n name) p.1))

clean_fields : (k : ℕ) (d : Desc) (rules : List Bool) → Clean k d rules → AreCleanFields d.fields
clean_fields k d rules c = all_from _ _ (λ i f e. clean_name 32 f.name (and_parts (is_name 32 f.name) (list_all (is_name 32) f.former) (c.fields i f e).0).0)

named_one : (machines : List (List ℕ)) (name : List ℕ) → list_all (is_name 64) machines ≡ true → is_one_of machines name ≡ true → NoFeed name
named_one [] name e h = cc
named_one (m ∷ machines) name e h =
    let p = and_parts (is_name 64 m) (list_all (is_name 64) machines) e in
    either_of _ _ h (λ f. rw (← ((bytes_eq-Decides m name).0 f)) (clean_name 64 m p.0)) (λ f. named_one machines name p.1 f)

-- a machine that is named is one of the set
pub named_is : (machines : List (List ℕ)) (o : Option (List ℕ × List ℕ)) (name : List ℕ) → machine_named machines o ≡ Some name → is_one_of machines name ≡ true
named_is machines o name e = grind (arith, some_if)

module _ (set : Set) (well : WellFormed set) where
  clean_structs : (j : ℕ) → AreCleanFields (get_or set.structs j no_desc).fields
  clean_structs j = go _ refl where
    go : (o : Option Desc) → slice_get set.structs j ≡ o → AreCleanFields (get_or set.structs j no_desc).fields
    go None e = rw (get_none _ j _ e) tt
    go (Some d) e = rw (get_or_from_slice_get _ j d _ e) (clean_fields j d _ (struct_clean set well j d e))

  device_clean : (k : ℕ) (d : Device) → slice_get set.devices k ≡ Some d → NoFeed d.desc.name × AreCleanFields d.desc.fields × AreCleanSubs d.subs
  device_clean k d e =
      let c = (device_parts set well k d e).0 in
      let name : NoFeed d.desc.name = clean_name 100 _ c.own.0 in (
        name,
        clean_fields _ d.desc _ c,
        all_from _ d.subs
            (λ j s f. let x = sub_clean set well k j d s e f in
            (clean_sub_name _ _ name x.own.0, clean_fields _ s.desc _ x)),
      )

  pub clean_devices : AreCleanDevices set.devices
  clean_devices = all_from _ _ (λ k d e. device_clean k d e)

  machines_named : list_all (is_name 64) set.machines ≡ true
  unfolding first_fault
  machines_named = grind (arith, or_else_none)

  pub clean_named : (name : List ℕ) → is_one_of set.machines name ≡ true → NoFeed name
  clean_named name h = named_one _ name machines_named h

  pub clean_entries : (machine : Option (List ℕ)) (images : List Image) → IsMachineOf set machine → AreClean (entries set machine images)
  clean_entries machine images h = grind (arith, clean_images, clean_structs, clean_devices, clean_named)
