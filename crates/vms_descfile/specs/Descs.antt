-- What the descriptions of a file say: in the first walk, or in the second, in which names are
-- looked up (docs/sets.md).
use Rattle.std.specs.Prelude.{ℕ, Bool, true, false, List, [], ◌∷◌, map, Option, Some, None, codes}
use Rattle.serde_json.specs.Data.{Data}
use Rattle.vms_spec.specs.Sets.{Formula, Field, Desc, Sub, Device, Set}
use Rattle.vms_parts.specs.Views.{field_of as field_seen, desc_of as desc_seen, sub_of as sub_seen}
use Rattle.vms_descfile.specs.declared.read.descs.Head as declared
use Rattle.vms_descfile.specs.declared.read.devices.Whole as whole
use Rattle.vms_json.specs.Answers.{Answer, good, next, changed, list_of}
use Rattle.vms_json.specs.Keys.{fits}
use Rattle.vms_json.specs.Members.{judged, at, at_or, maybe_at, u32_of, text_of}
use Rattle.vms_json.specs.Names.{Names, Scope, names_if}
use Rattle.vms_descfile.specs.Tests.{test_of}
use Rattle.vms_descfile.specs.Fields.{field_of}

-- the keys that every description has
abbrev pub desc_needs : List (List ℕ)
desc_needs = codes "fields" ∷ codes "name" ∷ codes "version" ∷ []

-- the keys that a description may have
abbrev pub desc_allows : List (List ℕ)
desc_allows = codes "minimum" ∷ codes "validate" ∷ []

-- the members up to the name, in the order of their keys
pub record Head : Type 0 where
  pub fields : List Field
  pub minimum : Option ℕ
  pub name : List ℕ

-- the head of the code
abbrev pub head_seen : declared.Head → Head
head_seen h = record { fields = map field_seen h.fields; minimum = h.minimum; name = h.name }

-- the members up to the name
abbrev pub head_of : Names → Data → Answer Head
head_of names d =
    next (at (list_of (field_of names)) (codes "fields") d) (λ fields.
    next (maybe_at u32_of (codes "minimum") d) (λ minimum.
    next (at text_of (codes "name") d) (λ name.
    good (record { fields = fields; minimum = minimum; name = name }))))

-- the minimum version, which is the version if none is given
abbrev pub minimum_or : ℕ → Option ℕ → ℕ
minimum_or version None = version
minimum_or version (Some minimum) = minimum

-- the description of these members
abbrev pub desc_as : Head → List Formula → ℕ → Desc
desc_as head validate version =
    record { name = head.name; version = version; minimum = minimum_or version head.minimum; fields = head.fields; validate = validate }

-- the members after the name
abbrev pub rest_of : Names → Head → Data → Answer Desc
rest_of names head d =
    next (at_or [] (list_of (test_of (record { own = names; parent = None }))) (codes "validate") d) (λ validate.
    next (at u32_of (codes "version") d) (λ version.
    good (desc_as head validate version)))

-- ---- structures

-- a structure, with its names
abbrev pub struct_in : Names → Data → Answer Desc
struct_in names d = next (head_of names d) (λ head. rest_of names head d)

-- a structure, in the first or the second walk
abbrev pub struct_of : Bool → Data → Answer Desc
struct_of asks d = judged (fits desc_needs desc_allows d) (struct_in (names_if asks d) d)

-- ---- subsections, whose needed tests may also name fields of the device

-- a subsection, with its names
abbrev pub sub_in : Scope → Data → Answer Sub
sub_in scope d =
    next (head_of scope.own d) (λ head.
    next (at (test_of scope) (codes "needed") d) (λ needed.
    changed (λ desc. record { desc = desc; needed = needed }) (rest_of scope.own head d)))

-- a subsection, in the first or the second walk
abbrev pub sub_of : Bool → Names → Data → Answer Sub
sub_of asks parent d =
    judged (fits (codes "needed" ∷ desc_needs) desc_allows d) (sub_in (record { own = names_if asks d; parent = Some parent }) d)

-- ---- devices

-- the description of a device, with its subsections
pub record Whole : Type 0 where
  pub desc : Desc
  pub subs : List Sub

-- the same of the code
abbrev pub whole_seen : whole.Whole → Whole
whole_seen w = record { desc = desc_seen w.desc; subs = map sub_seen w.subs }

-- the description of a device with its subsections, with its names
abbrev pub whole_in : Bool → Names → Data → Answer Whole
whole_in asks names d =
    next (head_of names d) (λ head.
    next (at_or [] (list_of (sub_of asks names)) (codes "subsections") d) (λ subs.
    changed (λ desc. record { desc = desc; subs = subs }) (rest_of names head d)))

-- the same, in the first or the second walk
abbrev pub whole_of : Bool → Data → Answer Whole
whole_of asks d = judged (fits desc_needs (codes "subsections" ∷ desc_allows) d) (whole_in asks (names_if asks d) d)

-- the members of a device
abbrev pub device_in : Bool → Data → Answer Device
device_in asks d =
    next (at (whole_of asks) (codes "desc") d) (λ whole.
    changed (λ instance. record { instance = instance; desc = whole.desc; subs = whole.subs }) (at u32_of (codes "instance") d))

-- a device, in the first or the second walk
abbrev pub device_of : Bool → Data → Answer Device
device_of asks d = judged (fits (codes "desc" ∷ codes "instance" ∷ []) [] d) (device_in asks d)

-- ---- sets

-- the members of a set
abbrev pub set_in : Bool → Data → Answer Set
set_in asks d =
    next (at (list_of (device_of asks)) (codes "devices") d) (λ devices.
    next (at (list_of text_of) (codes "machines") d) (λ machines.
    next (at (list_of (struct_of asks)) (codes "structs") d) (λ structs.
    good (record { machines = machines; structs = structs; devices = devices }))))

-- a set, in the first or the second walk
abbrev pub set_of : Bool → Data → Answer Set
set_of asks d = judged (fits (codes "devices" ∷ codes "machines" ∷ codes "structs" ∷ []) [] d) (set_in asks d)

-- the parts that a value says: the second walk looks up the names, if the first found no fault
unfoldable pub parts_of : Data → Answer Set
parts_of d = next (set_of false d) (λ unasked. set_of true d)
