-- The first line of a text.
use Rattle.std.specs.Prelude.{◌≡◌, ℕ, List, Option, Some, None}
use Rattle.vms_words.specs.declared.line.NextLine.{NextLine}

-- the line and the text after it, or none
abbrev pub IsFirstLine : Option (List ℕ × List ℕ) → Option NextLine → Type 0
IsFirstLine None None = Unit {0}
IsFirstLine None (Some line) = ⊥
IsFirstLine (Some said) None = ⊥
IsFirstLine (Some (text, after)) (Some line) = (line.text.now ≡ text) × (line.after.now ≡ after)
