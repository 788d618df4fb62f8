-- What contracts see of a shelf in memory.
use Rattle.std.specs.Prelude.{◌≡◌, ◌↔◌, ℕ, ◌+◌, List, Option, Some, None, Contains}
use Rattle.std.specs.Option.{option_map}
use Rattle.std.specs.Ordering.{nat_cmp}
use Rattle.std.specs.Cmp.Lexicographic.{slice_cmp}
use Rattle.std.specs.String.{string_bytes}
use Rattle.std.specs.BTreeMap.{is_at}
use Rattle.std.specs.Map.{lookup}
use Rattle.std.specs.declared.string.String.{String}
use Rattle.std.specs.declared.alloc.Global.{Global}
use Rattle.vms_kinds.specs.Bytes.{IsBytes}
use Rattle.vms_io.specs.Causes.{capped}
use Rattle.vms_io.specs.Shelves.{Held, HoldsAll, HoldsBytes}
use Rattle.vms_io.specs.declared.memory.shelf.Content.{Content}
use Rattle.vms_io.specs.declared.memory.shelf.MemShelf.{MemShelf}

-- A shelf in memory: the bytes under each name, and the numbers of the calls that fail. It counts the
-- calls and the faults.
pub record Cabinet : Type 0 where
  pub held : Held
  pub failing : List ℕ
  pub calls : ℕ
  pub faults : ℕ

-- the shelf counts this call, which fails exactly if its number is listed; the list is unchanged
pub record IsNextCall (old new : Cabinet) (Failed : Type 0) : Type 0 where
  pub fails : Failed ↔ Contains old.failing (capped (old.calls + 1))
  pub calls : new.calls ≡ capped (old.calls + 1)
  pub failing : new.failing ≡ old.failing

-- the bytes that the entries of a map have under a name, if `bytes_of` gives those of an entry's value
abbrev pub held_under : {C : Type 0} → (C → List ℕ) → List (String Global × C) → Held
held_under bytes_of entries name = option_map bytes_of (lookup (is_at (λ k. slice_cmp nat_cmp name (string_bytes k))) entries)

-- they are bytes, if those of each value are
pub under_holds : {C : Type 0} (bytes_of : C → List ℕ) → ((c : C) → IsBytes (bytes_of c)) → (entries : List (String Global × C)) → HoldsAll (held_under bytes_of entries)
under_holds {C} bytes_of octets entries name = by (lookup (is_at (λ k. slice_cmp nat_cmp name (string_bytes k))) entries)
  where
    by : (found : Option C) → HoldsBytes (option_map bytes_of found)
    by None = tt
    by (Some c) = octets c

-- the bytes that the entries of a shelf have under a name
abbrev pub held_in : List (String Global × Content) → Held
held_in entries = held_under (λ content. content.bytes.items) entries

-- the cabinet of a shelf
abbrev pub cabinet : MemShelf → Cabinet
cabinet s = record {
  held = held_in s.entries.entries;
  failing = s.failing.items;
  calls = s.calls;
  faults = s.faults;
}

-- each entry consists of bytes
pub contents_hold : (entries : List (String Global × Content)) → HoldsAll (held_in entries)
contents_hold entries = under_holds (λ content. content.bytes.items) (λ content. content.octets) entries
