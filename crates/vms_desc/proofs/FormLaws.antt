-- Forms that are appended, and the numbers of a device's cells at their defaults.
use Rattle.vms_desc.proofs.{Clean.none_is, EvalLaws.device_forms_are, EvalLaws.times_map, Facade.fields_forms}
use Rattle.vms_desc.proofs.Facade.{device_forms, forms_to, structs_forms, AreForms, Puts, kinds_at, form_numbers, defaults_at, ◌≡◌, ℕ, zero, suc}
use Rattle.vms_desc.proofs.Facade.{◌+◌, ◌-◌, ◌*◌, ◌<◌, ◌≤◌, List, [], ◌∷◌, ◌++◌, length, get_or, drop, take, map, refl, sym, ap}
use Rattle.vms_desc.proofs.Facade.{◌∙◌, arith, ℤ, pos, append_assoc, append-nil, length-append, true, drop_at, ext_get_or, length-map, map-append}
use Rattle.vms_desc.proofs.Facade.{take-map, take_at, take-append-le, length-drop, get_or_past, mul-le, slice_get-get_or, map-map, Kind, U8, InRange, FitsHeads}
use Rattle.vms_desc.proofs.Facade.{no_desc, no_cell, times, device_cells, first_fault, DefaultsFit, first_at, first_take, first_long, well_good, device_at}
use Rattle.vms_desc.proofs.Facade.{CellForm, Parts, field_of, desc_of, device_of, set_of, form_of, layout_of, get_map_at, Held, Forms, is_well_formed}
use Rattle.std.proofs.{Common.drop-drop, Common.take_all, Math.Seq.take-add, lemmas.List.drop-append-le, lemmas.List.get_or-map, lemmas.List.length-take-le}
use Rattle.vms_parts.specs.{declared.types.Desc.Desc, declared.types.Device.Device}
use Rattle.vms_spec.specs.Sets as sets

-- ---- forms in order

-- none are appended
pub puts_none : (a : Forms) (cells : List CellForm) → cells ≡ [] → Puts a a cells
puts_none a cells none = record { kinds = rw (none, append-nil); defaults = rw (none, append-nil) }

-- forms that are appended to others, of which there were none
pub are_both : (kinds : List Kind) (defaults : List ℤ) (b c : Forms) (x y : List CellForm) → kinds ≡ [] → defaults ≡ []
    → b.kinds.items ≡ kinds ++ map (λ form. form.kind) x → b.defaults.items ≡ defaults ++ map (λ form. form.default) x → Puts b c y → AreForms c (x ++ y)
are_both kinds defaults b c x y bare none first also second = record {
  kinds = rw (map-append, second.kinds, first, bare);
  defaults = rw (map-append, second.defaults, also, none);
}

-- the forms so far and the remaining ones are the whole
pub record Left (from here : Forms) (rest all : List CellForm) : Type 0 where
  pub kinds : here.kinds.items ++ map (λ form. form.kind) rest ≡ from.kinds.items ++ map (λ form. form.kind) all
  pub defaults : here.defaults.items ++ map (λ form. form.default) rest ≡ from.defaults.items ++ map (λ form. form.default) all

pub left_all : (a : Forms) (all : List CellForm) → Left a a all all
left_all a all = record { kinds = refl; defaults = refl }

more_put : {X : Type 0} (g : CellForm → X) (from here next : List X) (part rest after all : List CellForm) → rest ≡ part ++ after → next ≡ here ++ map g part
    → here ++ map g rest ≡ from ++ map g all → next ++ map g after ≡ from ++ map g all
more_put g from here next part rest after all parts put left = cc (append_assoc here (map g part) (map g after), map-append g part after)

pub left_goes : {from here next : Forms} (part rest after all : List CellForm) → rest ≡ part ++ after → Puts here next part → Left from here rest all
    → Left from next after all
left_goes part rest after all parts put left = search (arith, more_put)

pub left_none : {from here : Forms} {rest all : List CellForm} → rest ≡ [] → Left from here rest all → Puts from here all
left_none none left = record {
  kinds = sym (append-nil _) ∙ (rw none at left.kinds);
  defaults = sym (append-nil _) ∙ (rw none at left.defaults);
}

-- one more piece of a part that is appended again
pub piece_next : {X : Type 0} (old items new : List X) (start done next : ℕ) → start ≤ done → done ≤ next → next ≤ length old
    → items ≡ old ++ take (done - start) (drop start old) → new ≡ items ++ take (next - done) (drop done items)
    → new ≡ old ++ take (next - start) (drop start old)
piece_next old items new start done next begun on inside is more =
    let part = drop start old in
    let k = done - start in
    let m = next - done in
    let at : start + k ≡ done = omega arith in
    let sum : next - start ≡ k + m = omega arith in
    let there : drop done old ≡ drop k part = ap (λ (i : ℕ). drop i old) (sym at) ∙ sym (drop-drop k start old) in
    let piece : take m (drop done items) ≡ take m (drop k part) =
    rw (is, drop-append-le done old (take k part) (omega arith), take-append-le m (drop done old) (take k part) (omega (arith, length-drop done old)), there) in
    cc (piece, append_assoc old (take k part) (take m (drop k part)), take-add k m part)

-- one element, repeated
module _ {X : Type 0} (part : List X) where
  abbrev pub repeated : ℕ → List X
  repeated n = times n (λ _. part) 0 0

  repeated_long : (n : ℕ) → length (repeated n) ≡ length part * n
  repeated_long zero = grind arith
  repeated_long (suc n) =
      let more : length part * suc n ≡ length part + length part * n = grind arith in omega (arith, length-append part (repeated n), repeated_long n)

  repeated_both : (n m k : ℕ) → k ≡ n + m → repeated k ≡ repeated n ++ repeated m
  repeated_both zero m k is = let e : k ≡ m = omega arith in rw e
  repeated_both (suc n) m k is = let e : k ≡ suc (n + m) = omega arith in rw (e, append_assoc, repeated_both n m (n + m) refl)

  -- more of them are appended
  pub repeats_more : (front items new : List X) (done more start size : ℕ) → start ≡ length front → size ≡ length part → items ≡ front ++ repeated done
      → more ≤ done → new ≡ items ++ take ((start + size * more) - start) (drop start items) → new ≡ front ++ repeated (done + more)
  repeats_more front items new done more start size at wide is le e =
      let span : (start + size * more) - start ≡ length part * more = omega (arith, ap (λ (k : ℕ). k * more) wide) in
      let behind : drop start items ≡ repeated done = ap (drop start) is ∙ drop_at front (repeated done) start (sym at) in
      let first : take (length part * more) (repeated done) ≡ repeated more =
      rw (repeated_both more (done - more) done (omega arith)) (take_at (repeated more) (repeated (done - more)) (length part * more) (repeated_long more)) in
      e ∙ cc (append_assoc front (repeated done) (repeated more), repeated_both done more (done + more) refl)

  -- there are enough of them
  pub repeated_room : (front items : List X) (done more start size : ℕ) → start ≡ length front → size ≡ length part → items ≡ front ++ repeated done
      → more ≤ done → start + size * more ≤ length items
  repeated_room front items done more start size at wide is le =
      let most : size * more ≤ size * done = mul-le size more size done (omega arith) le in
      omega (arith, ap (λ (k : ℕ). k * done) wide, ap length is, length-append front (repeated done), repeated_long done)

module _ {X : Type 0} (g : CellForm → X) where
  -- the appended forms are repeated
  pub repeated_put : (old list new : List X) (part : List CellForm) (start n : ℕ) → start ≡ length old → list ≡ old ++ map g part
      → new ≡ take start list ++ times n (λ _. drop start list) 0 0 → new ≡ old ++ map g (times n (λ _. part) 0 0)
  repeated_put old list new part start n at put is =
      rw (is, put, take_at old (map g part) start (sym at), drop_at old (map g part) start (sym at), times_map g part n)

-- a structure's forms are made from the earlier ones
pub struct_forms : (structs : List Desc) (j : ℕ) (d : Desc) → j < length structs → d ≡ get_or structs j d
    → fields_forms (forms_to (map desc_of (take j structs)) (length (take j structs))) (map field_of d.fields) ≡ get_or
    (forms_to (map desc_of structs) (length structs)) j []
struct_forms structs j d lt is =
    let ds = map desc_of structs in
    let here : get_or ds j no_desc ≡ desc_of d = get_map_at desc_of structs j d no_desc lt is in
    let made = first_at (λ forms x. fields_forms forms x.fields) ds [] (length structs) j lt in
    rw (length-take-le j structs (omega arith), ← take-map desc_of j structs, first_take (λ forms x. fields_forms forms x.fields) ds j j (omega arith))
    (ap (λ (x : sets.Desc). fields_forms (forms_to ds j) x.fields) (sym here) ∙ sym made)

pub no_struct_forms : (structs : List Desc) (j : ℕ) → length structs ≤ j → get_or (forms_to (map desc_of structs) (length structs)) j [] ≡ []
no_struct_forms structs j le = grind (arith, get_or_past, first_long)

-- the forms of a device's cells
abbrev pub forms_in : Parts → Device → List CellForm
forms_in parts d = device_forms (structs_forms parts.structs) (device_of d)

forms_of : (parts : Parts) (d : Device) → forms_in parts d ≡ map form_of (device_cells (set_of parts) (device_of d))
forms_of parts d = rw (← length-map parts.structs desc_of) (device_forms_are (set_of parts) (device_of d))

layout_of_devices : (parts : Parts) (devices : List Device)
    → map (forms_in parts) devices ≡ map (λ d. map form_of (device_cells (set_of parts) d)) (map device_of devices)
layout_of_devices parts [] = refl
layout_of_devices parts (d ∷ devices) = cc (forms_of parts d, layout_of_devices parts devices)

-- all devices' forms are the layout
pub layout_is : (parts : Parts) (layout : List (List CellForm)) (i : ℕ) → length parts.devices ≤ i → layout ≡ map (forms_in parts) (take i parts.devices)
    → layout ≡ layout_of (set_of parts)
layout_is parts layout i all e = e ∙ rw (take_all i parts.devices all) (layout_of_devices parts parts.devices)

-- ---- the defaults of a device's cells

pub same_held : (h : Held) (kinds : List Kind) (numbers : List ℤ) → h.kinds ≡ kinds → h.numbers ≡ numbers → h ≡ record { kinds = kinds; numbers = numbers }
same_held h kinds numbers e f = rw (← e, ← f)

-- a list that was written from the front to its end
pub filled_with : {X : Type 0} (d : X) (new old : List X) (i : ℕ) → length new ≡ length old → length old ≤ i
    → ((k : ℕ) → k < i → get_or new k d ≡ get_or old k d) → new ≡ old
filled_with d new old i long all written = ext_get_or d new old long (λ k h. written k (omega arith))

-- the forms of a device's cells
module _ (set : sets.Set) (k : ℕ) (forms : List CellForm) (laid : forms ≡ map form_of (device_cells set (device_at set k))) where
  form_kinds : map (λ form. form.kind) forms ≡ kinds_at set k
  form_kinds = rw laid (map-map (λ form. form.kind) form_of (device_cells set (device_at set k)))

  form_defaults : map (λ form. form.default) forms ≡ map (λ c. c.default) (device_cells set (device_at set k))
  form_defaults = rw laid (map-map (λ form. form.default) form_of (device_cells set (device_at set k)))

  pub form_count : length forms ≡ length (device_cells set (device_at set k))
  form_count = ap length laid ∙ length-map (device_cells set (device_at set k)) form_of

  -- each default is in its kind's range
  defaults_fit : is_well_formed set ≡ true → FitsHeads set → k < length set.devices → (c : ℕ) → c < length forms
      → InRange (get_or (map (λ form. form.kind) forms) c U8) (get_or (map (λ form. form.default) forms) c (pos 0))
  defaults_fit well heads lt c inside =
      let cells = device_cells set (device_at set k) in
      let fit : DefaultsFit cells = (well_good set (none_is (first_fault set) well) heads).defaults k (device_at set k) (slice_get-get_or set.devices k _ lt) in
      let within : c < length cells = omega (arith, form_count) in
      rw (form_kinds, form_defaults, get_or-map (λ x. x.kind) cells c no_cell U8 within, get_or-map (λ x. x.default) cells c no_cell (pos 0) within)
      (fit c within).0

  -- so the defaults are those of the device's cells
  defaults_are : form_numbers forms ≡ defaults_at set k
  defaults_are = cc (form_kinds, form_defaults)

-- forms as their kinds and their defaults
module _ (forms : Forms) (cells : List CellForm) (are : AreForms forms cells) where
  pub kinds_long : length forms.kinds.items ≡ length cells
  kinds_long = ap length are.kinds ∙ length-map cells (λ form. form.kind)

  pub defaults_long : length forms.defaults.items ≡ length forms.kinds.items
  defaults_long = ap length are.defaults ∙ length-map cells (λ form. form.default) ∙ sym kinds_long

  pub numbers_seen : (h : Held) → h ≡ record { kinds = forms.kinds.items; numbers = forms.defaults.items } → h ≡ form_numbers cells
  numbers_seen h e = e ∙ cc (are.kinds, are.defaults)

  pub kept_fit : (set : sets.Set) (k : ℕ) → cells ≡ map form_of (device_cells set (device_at set k)) → is_well_formed set ≡ true → FitsHeads set
      → k < length set.devices → (c : ℕ) → c < length forms.kinds.items → InRange (get_or forms.kinds.items c U8) (get_or forms.defaults.items c (pos 0))
  kept_fit set k laid well heads lt c inside = rw (are.kinds, are.defaults) (defaults_fit set k cells laid well heads lt c (omega (arith, kinds_long)))

abbrev no_device : sets.Device
no_device = record { instance = 0; desc = no_desc; subs = [] }

-- the entry of a table that was computed with the set
pub entry_is : (set : sets.Set) (defaults : List Held) (k : ℕ) (here : Held) → defaults ≡ map form_numbers (layout_of set) → k < length set.devices
    → here ≡ get_or defaults k here → here ≡ defaults_at set k
entry_is set defaults k here tabled lt is =
    let within : k < length (layout_of set) = omega (arith, length-map set.devices (λ d. map form_of (device_cells set d))) in
    let forms : get_or (layout_of set) k [] ≡ map form_of (device_cells set (device_at set k)) =
    get_or-map (λ d. map form_of (device_cells set d)) set.devices k no_device [] lt in
    is ∙ rw tabled (get_or-map form_numbers (layout_of set) k [] here within ∙ defaults_are set k (get_or (layout_of set) k []) forms)

-- ---- made device by device

-- the forms that a call made
pub forms_are : (parts : Parts) (i : ℕ) (d : Device) (forms : List CellForm) → i < length parts.devices → d ≡ get_or parts.devices i d → {structs : List Desc}
    → structs ≡ parts.structs → forms ≡ device_forms (structs_forms structs) (device_of d)
    → forms ≡ map form_of (device_cells (set_of parts) (device_at (set_of parts) i))
forms_are parts i d forms lt is {structs} same e = rw (get_map_at device_of parts.devices i d no_device lt is) (e ∙ rw same (forms_of parts d))

-- the whole table
pub defaults_made : (parts : Parts) (defaults : List Held) (i : ℕ) → length parts.devices ≤ i
    → defaults ≡ map (λ d. form_numbers (forms_in parts d)) (take i parts.devices) → defaults ≡ map form_numbers (layout_of (set_of parts))
defaults_made parts defaults i all e =
    e ∙ rw (← layout_is parts (map (forms_in parts) (take i parts.devices)) i all refl) (sym (map-map form_numbers (forms_in parts) (take i parts.devices)))
