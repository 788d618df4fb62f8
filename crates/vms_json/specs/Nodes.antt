-- The value of the rows of a tree. Each value is a run of rows. The row of a list or an object has
-- the length of its run, and its contents follow. A member's key comes before the rows of its
-- value. The members of an object are added in order, so the last value of a key stays.
use Rattle.std.specs.Prelude.{ℕ, zero, suc, ◌+◌, ◌*◌, List, [], ◌∷◌, length, take, drop, min, max, Option, Some, None, Bool, true, false}
use Rattle.std.specs.Borrow.{Bor}
use Rattle.serde_json.specs.Data.{Data, Num, null, boolean, number, string, array, object, Members, no_members, put, Items, no_items, item}
use Rattle.serde_json.specs.View.{number_view}
use Rattle.vms_json.specs.declared.node.Row.{Row}
use Rattle.vms_json.specs.declared.node.Row.TheVariants as rows
use Rattle.vms_json.specs.declared.node.Tree.{Tree}
use Rattle.vms_json.specs.declared.node.Node.{Node}
use Rattle.vms_json.specs.declared.node.Items.{Items as ItemsLeft}
use Rattle.vms_json.specs.declared.node.Members.{Members as MembersLeft}

-- the number of rows of the value that begins with this row
abbrev pub count_at : Row → ℕ
count_at (rows.List n) = n
count_at (rows.Object n) = n
count_at _ = 1

-- the number of a row, if it is one
abbrev pub number_at : Row → Option Num
number_at (rows.Number n) = Some (number_view n)
number_at _ = None

-- the text of a row, if it is one
abbrev pub text_at : Row → Option (List ℕ)
text_at (rows.Text s) = Some s.now
text_at _ = None

-- the bool of a row, if it is one
abbrev pub flag_at : Row → Option Bool
flag_at (rows.Bool b) = Some b
flag_at _ = None

-- the row is that of a list
abbrev pub is_list : Row → Bool
is_list (rows.List n) = true
is_list _ = false

-- the row is that of an object
abbrev pub is_object : Row → Bool
is_object (rows.Object n) = true
is_object _ = false

-- the key of a row, if it is one
abbrev pub key_at : Row → Option (Bor (List ℕ))
key_at (rows.Key s) = Some s
key_at _ = None

-- the number of rows of the first value
abbrev pub front : List Row → ℕ
front [] = 0
front (r ∷ rs) = min (max (count_at r) 1) (length (r ∷ rs))

-- the number bounds how deep and how far the rows are read; twice their number plus one is always
-- enough
unfoldable mutual
  pub data_in : ℕ → List Row → Data
  data_in zero rs = null
  data_in (suc n) [] = null
  data_in (suc n) (rows.Null ∷ rs) = null
  data_in (suc n) (rows.Bool b ∷ rs) = boolean b
  data_in (suc n) (rows.Number k ∷ rs) = number (number_view k)
  data_in (suc n) (rows.Text s ∷ rs) = string s.now
  data_in (suc n) (rows.Key s ∷ rs) = null
  data_in (suc n) (rows.List k ∷ rs) = array (items_in n rs)
  data_in (suc n) (rows.Object k ∷ rs) = object (members_in n rs no_members)

  pub items_in : ℕ → List Row → Items
  items_in zero rs = no_items
  items_in (suc n) [] = no_items
  items_in (suc n) (r ∷ rs) = item (data_in n (take (front (r ∷ rs)) (r ∷ rs))) (items_in n (drop (front (r ∷ rs)) (r ∷ rs)))

  -- the earlier members, with these after them; a member begins with a key
  pub members_in : ℕ → List Row → Members → Members
  members_in zero rs found = found
  members_in (suc n) [] found = found
  members_in (suc n) (rows.Null ∷ rs) found = found
  members_in (suc n) (rows.Bool b ∷ rs) found = found
  members_in (suc n) (rows.Number k ∷ rs) found = found
  members_in (suc n) (rows.Text s ∷ rs) found = found
  members_in (suc n) (rows.Key s ∷ rs) found = members_in n (drop (front rs) rs) (put s.now (data_in n (take (front rs) rs)) found)
  members_in (suc n) (rows.List k ∷ rs) found = found
  members_in (suc n) (rows.Object k ∷ rs) found = found

-- the value of a run of rows
abbrev pub rows_view : List Row → Data
rows_view rs = data_in (2 * length rs) rs

-- the value of a tree
abbrev pub tree_view : Tree → Data
tree_view t = rows_view t.rows.items

-- the value of a node
abbrev pub view : Node → Data
view v = rows_view v.rows.now

-- the rest of a list's items
abbrev pub items_left : ItemsLeft → Items
items_left l = items_in (2 * length l.rows.now + 1) l.rows.now

-- the earlier members, with the rest after them
abbrev pub members_on : MembersLeft → Members → Members
members_on l found = members_in (2 * length l.rows.now + 1) l.rows.now found

-- the rest of an object's members
abbrev pub members_left : MembersLeft → Members
members_left l = members_on l no_members
