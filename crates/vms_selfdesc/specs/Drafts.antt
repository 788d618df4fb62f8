-- What the calls that write a description append to its text.
use Rattle.std.specs.Prelude.{◌≡◌, ℕ, ◌+◌, ◌≤◌, Bool, true, false, List, [], ◌∷◌, ◌++◌, Some, length, string_bytes, string_capacity, codes, decimal}
use Rattle.json.specs.Print.{escape_byte, quoted}
use Rattle.json.specs.Tree.{HasNumbers}
use Rattle.serde_json.specs.Data.{Data, string, boolean}
use Rattle.serde_json.specs.Read.{of_json}
use Rattle.serde_json.specs.Written.{outline, compact_text, comma_if}
use Rattle.vms_kinds.specs.declared.Kind.{Kind}
use Rattle.vms_kinds.specs.Codes.{width}
use Rattle.vms_words.specs.Words.{kind_word}
use Rattle.vms_selfdesc.specs.Tree.{natural}
use Rattle.vms_selfdesc.specs.declared.draft.Draft.{Draft}
use Rattle.vms_selfdesc.specs.declared.text.Text.{Text}

-- The text has no byte that JSON escapes.
abbrev pub IsPlain : List ℕ → Type 0
IsPlain [] = Unit {0}
IsPlain (x ∷ xs) = (escape_byte x ≡ x ∷ []) × IsPlain xs

-- The tree is read back from its text: the text of each number is a number, and members are in order.
pub record IsSound (d : Data) : Type 0 where
  pub read : of_json (outline d) ≡ Some d
  pub numbers : HasNumbers (outline d)

-- All trees are read back.
abbrev pub AreSound : List Data → Type 0
AreSound [] = Unit {0}
AreSound (d ∷ ds) = IsSound d × AreSound ds

-- ---- texts

-- A member after others.
abbrev pub member_text : List ℕ → Data → List ℕ
member_text k d = 44 ∷ (quoted k ++ 58 ∷ compact_text d)

-- Trees in an array, with a comma before each that isn't the first.
abbrev pub texts : Bool → List Data → List ℕ
texts later [] = []
texts later (d ∷ ds) = comma_if later ++ (compact_text d ++ texts true ds)

-- Whether a comma comes before the next tree.
abbrev pub after : Bool → List Data → Bool
after later [] = later
after later (d ∷ ds) = true

-- What follows the path of a cell that is in the stream.
abbrev pub cell_tail : Kind → List ℕ
cell_tail kind = codes "\",\"size\":" ++ (decimal (width kind) ++ (codes ",\"type\":\"" ++ (kind_word kind ++ codes "\"}")))

-- What follows the path of a cell that isn't in the stream, up to its default.
abbrev pub absent_tail : Kind → List ℕ
absent_tail kind = codes "\",\"size\":0,\"type\":\"" ++ (kind_word kind ++ codes "\",\"value\":")

-- ---- what a call appends

-- Nothing has been written or is missing, and there is room for at least this many bytes.
pub record IsEmpty (t : Text) (capacity : ℕ) : Type 0 where
  pub whole : t.whole ≡ true
  pub bytes : string_bytes t.written ≡ []
  pub room : capacity ≤ string_capacity t.written

-- These bytes have been appended. If memory wasn't enough, the new text isn't whole. It was enough if the bytes fit in
-- the capacity that the text had, which never shrinks.
pub record Extends (old new : Text) (bytes : List ℕ) : Type 0 where
  pub whole : new.whole ≡ true → (old.whole ≡ true) × (string_bytes new.written ≡ string_bytes old.written ++ bytes)
  pub fits : old.whole ≡ true → length (string_bytes old.written) + length bytes ≤ string_capacity old.written → new.whole ≡ true
  pub room : string_capacity old.written ≤ string_capacity new.written

-- A tree has been appended.
pub record Spells (old new : Text) (d : Data) : Type 0 where
  pub text : Extends old new (compact_text d)
  pub sound : IsSound d

-- A member of an object has been appended.
pub record Puts (old new : Text) (k : List ℕ) (d : Data) : Type 0 where
  pub text : Extends old new (member_text k d)
  pub sound : IsSound d

-- The members of an entry after its path have been appended.
pub record PutsSize (old new : Text) (size : ℕ) (type : List ℕ) : Type 0 where
  pub text : Extends old new (member_text (codes "size") (natural size) ++ member_text (codes "type") (string type))
  pub sound : IsSound (natural size)

-- The members of a subsection after its fields have been appended.
pub record PutsSub (old new : Text) (name : List ℕ) (sent : Bool) (version : ℕ) : Type 0 where
  pub text : Extends old new (member_text (codes "name") (string name) ++ (member_text (codes "sent") (boolean sent) ++ member_text (codes "version") (natural version)))
  pub sound : IsSound (natural version)

-- The members of a device between its fields and its subsections have been appended.
pub record PutsName (old new : Text) (instance : ℕ) (name : List ℕ) : Type 0 where
  pub text : Extends old new (member_text (codes "instance_id") (natural instance) ++ member_text (codes "name") (string name))
  pub sound : IsSound (natural instance)

-- The draft is empty, and its text has room for at least this many bytes.
pub record IsNew (d : Draft) (capacity : ℕ) : Type 0 where
  pub text : IsEmpty d.text capacity
  pub path : string_bytes d.path.text ≡ []
  pub later : d.later ≡ false

-- The path is as before, and so is whether a comma comes next.
pub record Keeps (old new : Draft) : Type 0 where
  pub path : string_bytes new.path.text ≡ string_bytes old.path.text
  pub later : new.later ≡ old.later

-- The beginning of a tree in an array has been appended.
pub record Begins (old new : Draft) (front : List ℕ) : Type 0 where
  pub text : Extends old.text new.text (comma_if old.later ++ front)
  pub keeps : Keeps old new

-- Trees in an array have been appended, and the path is as before.
pub record Adds (old new : Draft) (ds : List Data) : Type 0 where
  pub text : Extends old.text new.text (texts old.later ds)
  pub later : new.later ≡ after old.later ds
  pub sound : AreSound ds
  pub path : string_bytes new.path.text ≡ string_bytes old.path.text

-- An array has been appended, and the path is as before.
pub record Lays (old new : Draft) (d : Data) : Type 0 where
  pub text : Extends old.text new.text (compact_text d)
  pub sound : IsSound d
  pub path : string_bytes new.path.text ≡ string_bytes old.path.text
