-- Open lists and objects while a text is read, innermost first. They decide what the whole text
-- says by the rest of its tokens.
use Rattle.std.specs.Prelude.{ℕ, ◌-◌, List, [], ◌∷◌, ◌++◌, length, Option, Some, option_and_then}
use Rattle.json.specs.Token.{Token}
use Rattle.json.specs.Json as json
use Rattle.json.specs.Json.{Parse, items, members, value}
use Rattle.serde_json.specs.Data.{Data, array, object, Items, item, Members, put}
use Rattle.serde_json.specs.Read.{of_json, of_items, of_members, converted, max_depth}

-- Each frame has a number that bounds the turns for its rest. A list has its earlier items; an
-- object has its earlier members and the key whose value is read.
pub data Frame : Type 0 where
  in_list : ℕ → List Data → Frame
  in_object : ℕ → Members → List ℕ → Frame

-- the earlier items before the later ones
abbrev pub before : List Data → Items → Items
before [] rest = rest
before (d ∷ ds) rest = item d (before ds rest)

-- the number of levels that a value may have within these frames
abbrev pub room : List Frame → ℕ
room fs = max_depth - length fs

-- the grammar of a value in the innermost list or object
abbrev pub inside : List Frame → Parse json.Json
inside fs = value (max_depth - length fs - 1)

-- what the whole text says after this value ended within these frames, if these tokens remain
abbrev pub after : List Frame → Data → List Token → Option (Data × List Token)
after [] d ts = Some (d, ts)
after (in_list n done ∷ fs) d ts = option_and_then (λ p. after fs (array (before (done ++ d ∷ []) p.0)) p.1) (converted of_items (items (inside fs) n ts))
after (in_object n found k ∷ fs) d ts = option_and_then (λ p. after fs (object p.0) p.1) (converted (λ ms. of_members ms (put k d found)) (members (inside fs) n ts))

-- the same if a value is due
abbrev pub value_due : List Frame → List Token → Option (Data × List Token)
value_due fs ts = option_and_then (λ p. after fs p.0 p.1) (converted of_json (value (room fs) ts))

-- the same if more items of a list are due, after these
abbrev pub items_due : ℕ → List Data → List Frame → List Token → Option (Data × List Token)
items_due n done fs ts = option_and_then (λ p. after fs (array (before done p.0)) p.1) (converted of_items (items (inside fs) n ts))

-- the same if more members of an object are due, after these
abbrev pub members_due : ℕ → Members → List Frame → List Token → Option (Data × List Token)
members_due n found fs ts = option_and_then (λ p. after fs (object p.0) p.1) (converted (λ ms. of_members ms found) (members (inside fs) n ts))

-- the same at any point: in a list more of its items are due, otherwise a value
abbrev pub due : List Frame → List Token → Option (Data × List Token)
due [] ts = value_due [] ts
due (in_list n done ∷ fs) ts = items_due n done fs ts
due (in_object n found k ∷ fs) ts = value_due (in_object n found k ∷ fs) ts
