-- What the tests of a file say (docs/sets.md).
use Rattle.std.specs.Prelude.{ℕ, zero, suc, Bool, if◌then◌else◌, List, [], ◌∷◌, Option, Some, None, codes}
use Rattle.std.specs.Str.{bytes_eq}
use Rattle.serde_json.specs.Data.{Data, object, Items, no_items, item, no_members, member}
use Rattle.serde_json.specs.Find.{as_array}
use Rattle.vms_json.specs.Nodes.{view}
use Rattle.vms_json.specs.declared.node.Node.{Node}
use Rattle.vms_json.specs.Keys.{fits}
use Rattle.vms_spec.specs.declared.Rel.{Rel}
use Rattle.vms_spec.specs.declared.Rel.TheVariants as rels
use Rattle.vms_spec.specs.declared.Whose.TheVariants.{Own, Parent}
use Rattle.vms_spec.specs.Sets.{Formula, AtLeast, Below, Cell, Not, And, Or}
use Rattle.vms_descfile.specs.declared.read.cells.Form.{Form}
use Rattle.vms_descfile.specs.declared.read.cells.Form.TheVariants as forms
use Rattle.vms_descfile.specs.declared.read.cells.Leaf.{Leaf}
use Rattle.vms_descfile.specs.declared.read.cells.Leaf.TheVariants as leaves
use Rattle.vms_descfile.specs.declared.read.cells.OwnCell.{OwnCell}
use Rattle.vms_descfile.specs.declared.read.cells.Join.{Join}
use Rattle.vms_descfile.specs.declared.read.cells.Join.TheVariants as joins
use Rattle.vms_json.specs.Answers.{Answer, good, bad, under, next, changed, given}
use Rattle.vms_json.specs.Members.{at, u32_of, u64_of, text_of}
use Rattle.vms_json.specs.Names.{Names, Scope, name_in}

-- the relation of a word, if there is one
abbrev pub rel_named : List ℕ → Option Rel
rel_named word =
    if bytes_eq word (codes "eq") then Some rels.Eq
    else if bytes_eq word (codes "ne") then Some rels.Ne
    else if bytes_eq word (codes "lt") then Some rels.Lt
    else if bytes_eq word (codes "ge") then Some rels.Ge
    else None

-- the relation that a value names
abbrev pub rel_of : Data → Answer Rel
rel_of d = next (text_of d) (λ word. given (rel_named word))

-- how a number is compared: the relation, the mask and the value
pub record Compared : Type 0 where
  pub rel : Rel
  pub mask : ℕ
  pub value : ℕ

-- an answer that needs the device's names, or a fault if there are none
abbrev pub with_parent : {A : Type 0} → (Names → Answer A) → Option Names → Answer A
with_parent says None = bad []
with_parent says (Some names) = says names

-- a test of a number of the description
abbrev pub own_cell : Scope → Data → Answer Formula
own_cell scope d =
    next (at (name_in scope.own) (codes "field") d) (λ k.
    next (at rel_of (codes "is") d) (λ rel.
    next (at u64_of (codes "mask") d) (λ mask.
    next (at u64_of (codes "value") d) (λ value.
    good (Cell Own k mask rel value)))))

-- the object of these members, and the test that it says
abbrev pub own_seen : OwnCell → Data
own_seen own =
    object (member (codes "field") (view own.field) (member (codes "is") (view own.rel)
    (member (codes "mask") (view own.mask) (member (codes "value") (view own.value) no_members))))

-- the test that the members of the code say
abbrev pub own_said : Scope → OwnCell → Answer Formula
own_said scope own =
    next (under (codes "field") (name_in scope.own (view own.field))) (λ k.
    next (under (codes "is") (rel_of (view own.rel))) (λ rel.
    next (under (codes "mask") (u64_of (view own.mask))) (λ mask.
    next (under (codes "value") (u64_of (view own.value))) (λ value.
    good (Cell Own k mask rel value)))))

-- a test of a number of the device
abbrev pub parent_cell : Names → Data → Answer Formula
parent_cell names d =
    next (at rel_of (codes "is") d) (λ rel.
    next (at u64_of (codes "mask") d) (λ mask.
    next (at (name_in names) (codes "parent") d) (λ k.
    next (at u64_of (codes "value") d) (λ value.
    good (Cell Parent k mask rel value)))))

-- the two items of a list
pub record Pair : Type 0 where
  pub first : Data
  pub second : Data

-- the two items of a list, if there are two
abbrev pub two_in : Option Items → Answer Pair
two_in (Some (item a (item b no_items))) = good (record { first = a; second = b })
two_in ds = bad []

-- the two items of a value, which must be a list of two
abbrev pub two_of : Data → Answer Pair
two_of d = two_in (as_array d)

-- the pair of the code
abbrev pub pair_seen : Node × Node → Pair
pair_seen two = record { first = view two.0; second = view two.1 }

-- the test of both answers, or the first fault
abbrev pub both : (Formula → Formula → Formula) → Answer Formula → Answer Formula → Answer Formula
both join first second = next (under (codes "0") first) (λ s. changed (join s) (under (codes "1") second))

-- the value has the keys of a test of a number
abbrev pub is_cell : List ℕ → Data → Bool
is_cell whose = fits (codes "is" ∷ codes "mask" ∷ codes "value" ∷ whose ∷ []) []

-- The form of a test depends on its keys, which are exactly those of one form.
abbrev pub form_of : Data → Form
form_of d =
    if fits (codes "at_least" ∷ []) [] d then forms.Leaf leaves.AtLeast
    else if fits (codes "below" ∷ []) [] d then forms.Leaf leaves.Below
    else if is_cell (codes "field") d then forms.Leaf leaves.Own
    else if is_cell (codes "parent") d then forms.Leaf leaves.Parent
    else if fits (codes "not" ∷ []) [] d then forms.Not
    else if fits (codes "and" ∷ []) [] d then forms.Two joins.And
    else if fits (codes "or" ∷ []) [] d then forms.Two joins.Or
    else forms.Leaf leaves.None

-- a test that contains no other
abbrev pub leaf_as : Leaf → Scope → Data → Answer Formula
leaf_as leaves.AtLeast scope d = changed AtLeast (at u32_of (codes "at_least") d)
leaf_as leaves.Below scope d = changed Below (at u32_of (codes "below") d)
leaf_as leaves.Own scope d = own_cell scope d
leaf_as leaves.Parent scope d = with_parent (λ names. parent_cell names d) scope.parent
leaf_as leaves.None scope d = bad []

-- the key of two tests
abbrev pub key_of : Join → List ℕ
key_of joins.And = codes "and"
key_of joins.Or = codes "or"

-- the test of two tests
abbrev pub joined : Join → Formula → Formula → Formula
joined joins.And = And
joined joins.Or = Or

-- the test of a form, where `inner` reads the tests in it
abbrev pub test_as : Form → (Data → Answer Formula) → Scope → Data → Answer Formula
test_as forms.Not inner scope d = changed Not (at inner (codes "not") d)
test_as (forms.Two join) inner scope d =
    next (at two_of (key_of join) d) (λ p. under (key_of join) (both (joined join) (inner p.first) (inner p.second)))
test_as (forms.Leaf leaf) inner scope d = leaf_as leaf scope d

-- A test of at most n levels. No value that is read has more than 127 levels, so this bound refuses
-- none.
abbrev pub test_within : ℕ → Scope → Data → Answer Formula
test_within zero scope d = bad []
test_within (suc depth) scope d = test_as (form_of d) (test_within depth scope) scope d

-- the test that a value says
abbrev pub test_of : Scope → Data → Answer Formula
test_of scope d = test_within 127 scope d
