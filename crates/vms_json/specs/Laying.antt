-- The rows that are laid while a text is read: those of a value, of items, of members, and of all
-- open lists and objects.
use Rattle.std.specs.Prelude.{◌≡◌, ℕ, ◌+◌, ◌*◌, ◌<◌, ◌≤◌, List, [], ◌∷◌, ◌++◌, length, Bool, true, false, Option, Some}
use Rattle.json.specs.Token.{Token}
use Rattle.json.specs.Json.{value}
use Rattle.serde_json.specs.Read.{of_json, converted}
use Rattle.std.specs.Borrow.{Bor}
use Rattle.serde_json.specs.Data.{Data, Items, Members, no_members}
use Rattle.vms_json.specs.declared.node.Row.{Row}
use Rattle.vms_json.specs.declared.node.Row.TheVariants as rows
use Rattle.vms_json.specs.Nodes.{count_at, front, items_in, members_in, rows_view}
use Rattle.vms_json.specs.declared.parse.Laid.{Laid}
use Rattle.vms_json.specs.Frames.{Frame, in_list, in_object, before, after, due}

-- the items of these rows
abbrev pub items_of : List Row → Items
items_of rs = items_in (2 * length rs + 1) rs

-- the members of these rows, after the earlier ones
abbrev pub members_of : List Row → Members → Members
members_of rs found = members_in (2 * length rs + 1) rs found

-- the rows of one value, whatever follows them
pub record IsRun (rs : List Row) (d : Data) : Type 0 where
  pub some : 0 < length rs
  pub all : (more : List Row) → front (rs ++ more) ≡ length rs
  pub says : rows_view rs ≡ d

-- the rows of these items, whatever follows them
pub record AreItems (rs : List Row) (done : List Data) : Type 0 where
  pub first : (more : List Row) → items_of (rs ++ more) ≡ before done (items_of more)

-- the rows of these members, whatever follows them
pub record AreMembers (rs : List Row) (found : Members) : Type 0 where
  pub first : (more : List Row) → members_of (rs ++ more) no_members ≡ members_of more found

-- an open list or object: its own rows after those that were laid before; the count in its row
-- isn't known yet
pub record IsOpen (Below : List Row → List ℕ → Type 0) (row : ℕ → Row) (Own : List Row → Type 0) (rs : List Row) (starts : List ℕ) : Type 0 where
  pub below : List Row
  pub own : List Row
  pub places : List ℕ
  pub count : ℕ
  pub are : rs ≡ below ++ row count ∷ own
  pub begins : starts ≡ places ++ length below ∷ []
  pub inside : Own own
  pub laid : Below below places

-- an open list with these items
abbrev pub InList : (List Row → List ℕ → Type 0) → List Data → List Row → List ℕ → Type 0
InList Below done = IsOpen Below rows.List (λ own. AreItems own done)

-- an open object with these members
abbrev pub InObject : (List Row → List ℕ → Type 0) → Members → List Row → List ℕ → Type 0
InObject Below found = IsOpen Below rows.Object (λ own. AreMembers own found)

-- the same, with the key whose value is read
pub record AtKey (Before : List Row → List ℕ → Type 0) (k : List ℕ) (rs : List Row) (starts : List ℕ) : Type 0 where
  pub first : List Row
  pub key : Bor (List ℕ)
  pub are : rs ≡ first ++ rows.Key key ∷ []
  pub name : key.now ≡ k
  pub laid : Before first starts

-- the rows of open lists and objects, with the places where they begin, outermost first
abbrev pub IsLaid : List Frame → List Row → List ℕ → Type 0
IsLaid [] rs starts = (rs ≡ []) × (starts ≡ [])
IsLaid (in_list n done ∷ fs) rs starts = InList (IsLaid fs) done rs starts
IsLaid (in_object n found k ∷ fs) rs starts = AtKey (InObject (IsLaid fs) found) k rs starts

-- a value was laid after them
pub record HasValue (fs : List Frame) (rs : List Row) (starts : List ℕ) (d : Data) : Type 0 where
  pub below : List Row
  pub run : List Row
  pub are : rs ≡ below ++ run
  pub value : IsRun run d
  pub laid : IsLaid fs below starts

-- the innermost is a list
abbrev pub is_in_list : List Frame → Bool
is_in_list [] = false
is_in_list (in_list n done ∷ fs) = true
is_in_list (in_object n found k ∷ fs) = false

-- the frames' bounds are at least the number of remaining tokens
abbrev pub AreEnough : List Frame → ℕ → Type 0
AreEnough [] m = Unit {0}
AreEnough (in_list n done ∷ fs) m = (m ≤ n) × AreEnough fs m
AreEnough (in_object n found k ∷ fs) m = (m ≤ n) × AreEnough fs m

-- the only row of a value that is one token
pub record IsRowOf (t : Token) (r : Row) : Type 0 where
  pub says : (n : ℕ) (ts : List Token) → converted of_json (value n (t ∷ ts)) ≡ Some (rows_view (r ∷ []), ts)
  pub one : count_at r ≡ 1

-- each number is less than m
abbrev pub AreBelow : List ℕ → ℕ → Type 0
AreBelow [] m = Unit {0}
AreBelow (s ∷ ss) m = (s < m) × AreBelow ss m

-- ---- while a text is read, whose value is `said`

-- the next value is due within these frames
pub record IsUnder (said : Option (Data × List Token)) (laid : Laid) (ts : List Token) : Type 0 where
  pub frames : List Frame
  pub says : said ≡ due frames ts
  pub rows : IsLaid frames laid.rows.items laid.begun.items
  pub inner : laid.in_list ≡ is_in_list frames
  pub enough : AreEnough frames (length ts)

-- a value ended within these frames
pub record HasEnded (said : Option (Data × List Token)) (laid : Laid) (ts : List Token) : Type 0 where
  pub frames : List Frame
  pub value : Data
  pub says : said ≡ after frames value ts
  pub rows : HasValue frames laid.rows.items laid.begun.items value
  pub inner : laid.in_list ≡ is_in_list frames
  pub enough : AreEnough frames (length ts)

-- the rows are those of the whole text, and these tokens remain
pub record IsWhole (said : Option (Data × List Token)) (laid : Laid) (ts : List Token) : Type 0 where
  pub value : Data
  pub says : said ≡ Some (value, ts)
  pub run : IsRun laid.rows.items value
