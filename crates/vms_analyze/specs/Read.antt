-- What a JSON value says about devices, member by member; none if it has another shape (docs/format.md, "The
-- self-description" and "Without a set").
use Rattle.std.specs.Prelude.{ℕ, Bool, true, false, ◌&&◌, ◌||◌, ◌==◌, nat_le, if◌then◌else◌, List, [], ◌∷◌, Option, Some, None, ℤ, pos, int_lt, codes}
use Rattle.std.specs.List.{list_all}
use Rattle.std.specs.Str.{bytes_eq}
use Rattle.serde_json.specs.Data.{Num, Data, Items, no_items, item}
use Rattle.serde_json.specs.Find.{get, as_bool, as_number, as_str, as_array, as_u64, as_integer}
use Rattle.vms_kinds.specs.declared.Kind.{Kind}
use Rattle.vms_kinds.specs.Codes.{width}
use Rattle.vms_json.specs.Keys.{fits}
use Rattle.vms_spec.specs.declared.TheConstants.{LONGEST_NAME, MOST_UNUSED}
use Rattle.vms_spec.specs.Rules.{in_range}
use Rattle.vms_words.specs.Words.{kind_named}
use Rattle.vms_analyze.specs.Told.{Told, Sent, Kept, Fixed, Skipped, ToldSub, ToldDevice, is_path, fits_four, is_kept, is_width}
use Rattle.vms_analyze.specs.declared.elements.TheConstants.{LONGEST_PATH}

-- `f` of what was read, if there is something.
abbrev pub next : {A B : Type 0} → Option A → (A → Option B) → Option B
next None f = None
next (Some a) f = f a

-- `a`, if the test holds.
abbrev pub only : {A : Type 0} → Bool → A → Option A
only true a = Some a
only false a = None

-- ---- members

-- The text under a key.
abbrev pub text_at : List ℕ → Data → Option (List ℕ)
text_at key d = next (get key d) as_str

-- The text, if it is a path or name of at most `most` bytes.
abbrev pub path_of : ℕ → List ℕ → Option (List ℕ)
path_of most text = only (is_path most text) text

-- The path or name under a key, of at most `most` bytes.
abbrev pub path_at : ℕ → List ℕ → Data → Option (List ℕ)
path_at most key d = next (text_at key d) (path_of most)

-- The number without a sign.
abbrev pub natural_of : Data → Option ℕ
natural_of d = next (as_number d) as_u64

-- The number without a sign under a key.
abbrev pub natural_at : List ℕ → Data → Option ℕ
natural_at key d = next (next (get key d) as_number) as_u64

-- The number of four bytes under a key.
abbrev pub four_at : List ℕ → Data → Option ℕ
four_at key d = next (natural_at key d) (λ n. only (fits_four n) n)

-- The flag under a key.
abbrev pub flag_at : List ℕ → Data → Option Bool
flag_at key d = next (get key d) as_bool

-- The list under a key.
abbrev pub list_at : List ℕ → Data → Option Items
list_at key d = next (get key d) as_array

-- A whole number: one without a sign, or one below 0.
abbrev pub whole_from : Option ℕ → Option ℤ → Option ℤ
whole_from (Some n) z = Some (pos n)
whole_from None z = next z (λ z. only (int_lt z (pos 0)) z)

-- The whole number of a JSON number.
abbrev pub whole_of : Num → Option ℤ
whole_of n = whole_from (as_u64 n) (as_integer n)

-- The whole number under a key.
abbrev pub whole_at : List ℕ → Data → Option ℤ
whole_at key d = next (next (get key d) as_number) whole_of

-- ---- lists

-- What all items say.
abbrev pub each : {A : Type 0} → (Data → Option A) → Items → Option (List A)
each says no_items = Some []
each says (item d ds) = next (says d) (λ a. next (each says ds) (λ rest. Some (a ∷ rest)))

-- ---- elements

-- The keys of an element that is in the stream.
abbrev pub sent_keys : List (List ℕ)
sent_keys = codes "name" ∷ codes "size" ∷ codes "type" ∷ []

-- The keys of a number that isn't.
abbrev pub kept_keys : List (List ℕ)
kept_keys = codes "name" ∷ codes "size" ∷ codes "type" ∷ codes "value" ∷ []

-- An element that isn't printed.
abbrev pub unprinted : List ℕ → ℕ → List ℕ → Option Told
unprinted path size word =
    if bytes_eq word (codes "equal") then only (is_width size) (Fixed path size)
    else if bytes_eq word (codes "unused") then only (nat_le 1 size && nat_le size MOST_UNUSED) (Skipped path size)
    else None

-- An element that is in the stream, by its type.
abbrev pub sent_as : List ℕ → ℕ → List ℕ → Option Kind → Option Told
sent_as path size word (Some kind) = only (size == width kind) (Sent path kind)
sent_as path size word None = unprinted path size word

-- An element that is in the stream.
abbrev pub sent_in : Data → Option Told
sent_in d =
    next (path_at LONGEST_PATH (codes "name") d) (λ path. next (natural_at (codes "size") d) (λ size. next (text_at (codes "type") d) (λ word.
    sent_as path size word (kind_named word))))

-- A number that isn't in the stream, by its type.
abbrev pub kept_as : List ℕ → ℕ → ℤ → Option Kind → Option Told
kept_as path size value None = None
kept_as path size value (Some kind) = only (size == 0 && in_range kind value) (Kept path kind value)

-- A number that isn't in the stream.
abbrev pub kept_in : Data → Option Told
kept_in d =
    next (path_at LONGEST_PATH (codes "name") d) (λ path. next (natural_at (codes "size") d) (λ size. next (text_at (codes "type") d) (λ word.
    next (whole_at (codes "value") d) (λ value. kept_as path size value (kind_named word)))))

-- An element, by its keys.
abbrev pub element_in : Data → Option Told
element_in d = if fits sent_keys [] d then sent_in d else if fits kept_keys [] d then kept_in d else None

-- The elements of a device or a subsection.
abbrev pub elements_in : Data → Option (List Told)
elements_in d = next (list_at (codes "fields") d) (each element_in)

-- ---- subsections

-- The keys of a subsection.
abbrev pub sub_keys : List (List ℕ)
sub_keys = codes "fields" ∷ codes "name" ∷ codes "sent" ∷ codes "version" ∷ []

-- A subsection whose keys are there.
abbrev pub sub_from : Data → Option ToldSub
sub_from d =
    next (path_at LONGEST_NAME (codes "name") d) (λ name. next (flag_at (codes "sent") d) (λ sent. next (four_at (codes "version") d) (λ version.
    next (elements_in d) (λ elements.
    only (sent || list_all is_kept elements) (record { name = name; sent = sent; version = version; elements = elements })))))

-- A subsection.
abbrev pub sub_in : Data → Option ToldSub
sub_in d = if fits sub_keys [] d then sub_from d else None

-- The subsections of a device.
abbrev pub subs_in : Data → Option (List ToldSub)
subs_in d = next (list_at (codes "subsections") d) (each sub_in)

-- ---- devices

-- The keys of a device.
abbrev pub device_keys : List (List ℕ)
device_keys = codes "fields" ∷ codes "instance_id" ∷ codes "name" ∷ codes "subsections" ∷ codes "version" ∷ []

-- A device whose keys are there.
abbrev pub device_from : Data → Option ToldDevice
device_from d =
    next (path_at LONGEST_NAME (codes "name") d) (λ name. next (four_at (codes "instance_id") d) (λ instance. next (four_at (codes "version") d) (λ version.
    next (elements_in d) (λ elements. next (subs_in d) (λ subs.
    Some (record { name = name; instance = instance; version = version; elements = elements; subs = subs }))))))

-- A device.
abbrev pub device_in : Data → Option ToldDevice
device_in d = if fits device_keys [] d then device_from d else None

-- The devices of a description.
abbrev pub devices_in : Data → Option (List ToldDevice)
devices_in d = if fits (codes "devices" ∷ []) [] d then next (list_at (codes "devices") d) (each device_in) else None
