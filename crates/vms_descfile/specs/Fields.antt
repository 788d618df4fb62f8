-- What the fields of a file say (docs/sets.md).
use Rattle.std.specs.Prelude.{◌≡◌, ℕ, Bool, true, ◌&&◌, not, if◌then◌else◌, List, [], ◌∷◌, Option, Some, None, option_map, option_and_then, ℤ, pos, codes}
use Rattle.std.specs.Str.{bytes_eq}
use Rattle.serde_json.specs.Data.{Data, Members, member, no_members}
use Rattle.serde_json.specs.Find.{get, as_str}
use Rattle.vms_kinds.specs.declared.Kind.{Kind}
use Rattle.vms_kinds.specs.declared.Item.{Item}
use Rattle.vms_kinds.specs.declared.Item.TheVariants as items
use Rattle.vms_spec.specs.declared.Count.{Count}
use Rattle.vms_spec.specs.declared.Count.TheVariants.{One, Fixed, Counted}
use Rattle.vms_spec.specs.Sets.{Formula, Field}
use Rattle.vms_words.specs.Words.{kind_named}
use Rattle.vms_json.specs.Answers.{Answer, good, next, given, list_of}
use Rattle.vms_json.specs.Keys.{has, fits}
use Rattle.vms_json.specs.Members.{judged, at, at_or, maybe_at, member_or, u16_of, u32_of, integer_of, text_of}
use Rattle.vms_json.specs.Names.{Names, name_in}
use Rattle.vms_descfile.specs.Tests.{test_of}
use Rattle.vms_descfile.specs.declared.read.fields.Front as declared
use Rattle.vms_descfile.specs.declared.read.sort.Sort.{Sort}
use Rattle.vms_descfile.specs.declared.read.sort.Sort.TheVariants as sorts

-- ---- kinds

-- the kind of a word, if there is one
abbrev pub sort_named : List ℕ → Option Sort
sort_named word =
    if bytes_eq word (codes "unused") then Some sorts.Unused
    else if bytes_eq word (codes "struct") then Some sorts.Struct
    else option_map sorts.Number (kind_named word)

-- the kind that a value names
abbrev pub sort_of : Data → Answer Sort
sort_of d = next (text_of d) (λ word. given (sort_named word))

-- ---- keys

-- an array has either a fixed length, or a field that counts it and a capacity
abbrev pub counts_fit : Data → Bool
counts_fit d = if has (codes "counted") d then has (codes "capacity") d && not (has (codes "count") d) else not (has (codes "capacity") d)

-- a constant has no default, whatever `kind` says
abbrev pub values_fit : Data → Bool
values_fit d = not (has (codes "equal") d && has (codes "default") d)

-- the keys that depend on the kind; they aren't checked if the kind is none of the words
abbrev pub sort_fits : Option Sort → Data → Bool
sort_fits None d = true
sort_fits (Some (sorts.Number kind)) d = not (has (codes "size") d) && not (has (codes "struct") d)
sort_fits (Some sorts.Unused) d = has (codes "size") d && not (has (codes "struct") d) && not (has (codes "equal") d) && not (has (codes "default") d)
sort_fits (Some sorts.Struct) d = has (codes "struct") d && not (has (codes "size") d) && not (has (codes "equal") d) && not (has (codes "default") d)

-- the keys that every field has
abbrev pub field_needs : List (List ℕ)
field_needs = codes "kind" ∷ codes "name" ∷ []

-- the keys that a field may have
abbrev pub field_allows : List (List ℕ)
field_allows =
    codes "capacity" ∷ codes "count" ∷ codes "counted" ∷ codes "default" ∷ codes "equal" ∷ codes "former"
    ∷ codes "since" ∷ codes "size" ∷ codes "struct" ∷ codes "test" ∷ []

-- the value has the keys of a field
abbrev pub field_fits : Data → Bool
field_fits d =
    fits field_needs field_allows d && counts_fit d && values_fit d
    && sort_fits (option_and_then sort_named (option_and_then as_str (get (codes "kind") d))) d

-- ---- members

-- a number, or 0 if there is none
abbrev pub or_zero : Option ℕ → ℕ
or_zero None = 0
or_zero (Some n) = n

-- a field that counts and a capacity, or a length, or neither
abbrev pub count_as : Option ℕ → Option ℕ → Option ℕ → Count
count_as capacity count (Some by) = Counted by (or_zero capacity)
count_as capacity (Some length) None = Fixed length
count_as capacity None None = One

-- the count of a field
abbrev pub count_of : Names → Data → Answer Count
count_of names d =
    next (maybe_at u32_of (codes "capacity") d) (λ capacity.
    next (maybe_at u32_of (codes "count") d) (λ count.
    next (maybe_at (name_in names) (codes "counted") d) (λ counted.
    good (count_as capacity count counted))))

-- a number or a constant of a kind
abbrev pub number_item : Kind → Option ℤ → Item
number_item kind None = items.Num kind
number_item kind (Some value) = items.Equal kind value

-- the item of a kind, with the values under `equal`, `size` and `struct`
abbrev pub item_as : Sort → Option ℤ → Option ℕ → Option ℕ → Item
item_as (sorts.Number kind) equal size struct = number_item kind equal
item_as sorts.Unused equal size struct = items.Unused (or_zero size)
item_as sorts.Struct equal size struct = items.Struct (or_zero struct)

-- the members before the kind, in the order of their keys
pub record Front : Type 0 where
  pub count : Count
  pub default : ℤ
  pub equal : Option ℤ
  pub former : List (List ℕ)

-- the front of the code
abbrev pub front_seen : declared.Front → Front
front_seen f = record { count = f.count; default = f.default; equal = f.equal; former = f.former }

-- the former names, given the value under `former`, if there is one
abbrev pub former_of : Option Data → Answer (List (List ℕ))
former_of former = member_or [] (list_of text_of) (codes "former") former

-- the members before the kind
abbrev pub front_of : Names → Data → Answer Front
front_of names d =
    next (count_of names d) (λ count.
    next (at_or (pos 0) integer_of (codes "default") d) (λ default.
    next (maybe_at integer_of (codes "equal") d) (λ equal.
    next (former_of (get (codes "former") d)) (λ former.
    good (record { count = count; default = default; equal = equal; former = former })))))

-- the test by which a field is present, if there is one
abbrev pub presence_of : Names → Data → Answer (Option Formula)
presence_of names d = maybe_at (test_of (record { own = names; parent = None })) (codes "test") d

-- the kind and the members after it
abbrev pub field_after : Names → Front → Data → Answer Field
field_after names front d =
    next (at sort_of (codes "kind") d) (λ sort.
    next (at text_of (codes "name") d) (λ name.
    next (at_or 0 u32_of (codes "since") d) (λ since.
    next (maybe_at u16_of (codes "size") d) (λ size.
    next (maybe_at u32_of (codes "struct") d) (λ struct.
    next (presence_of names d) (λ test.
    good (record {
      name = name;
      former = front.former;
      item = item_as sort front.equal size struct;
      count = front.count;
      since = since;
      test = test;
      default = front.default;
    })))))))

-- the members of a field
abbrev pub field_in : Names → Data → Answer Field
field_in names d = next (front_of names d) (λ front. field_after names front d)

-- a field
abbrev pub field_of : Names → Data → Answer Field
field_of names d = judged (field_fits d) (field_in names d)

-- ---- fields with a kind of number, a name and at most former names

-- the field of a kind, a name and former names
abbrev pub plain_field : Kind → List ℕ → List (List ℕ) → Field
plain_field kind name former = record {
  name = name;
  former = former;
  item = items.Num kind;
  count = One;
  since = 0;
  test = None;
  default = pos 0;
}

-- the field of a kind, a name and the value under `former`, if there is one
abbrev pub plain_of : Option Data → Kind → List ℕ → Answer Field
plain_of former kind name = next (former_of former) (λ names. good (plain_field kind name names))

-- the value says such a field, whatever the names of its description are
abbrev pub IsPlain : Option Data → Kind → List ℕ → Data → Type 0
IsPlain former kind name d = (names : Names) → field_of names d ≡ plain_of former kind name

-- a member before others, if there is one
abbrev pub maybe_member : List ℕ → Option Data → Members → Members
maybe_member key None ms = ms
maybe_member key (Some d) ms = member key d ms

-- the members of such a field, of which each may be there
abbrev pub plain_members : Option Data → Option Data → Option Data → Members
plain_members former kind name =
    maybe_member (codes "former") former (maybe_member (codes "kind") kind (maybe_member (codes "name") name no_members))
