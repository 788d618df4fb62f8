-- What contracts know of the objects of the outside at one moment.
use Rattle.std.specs.Prelude.{ℕ, List, Bool, Option}
use Rattle.vms_io.specs.Shelves.{Held}
use Rattle.vms_io.specs.declared.source.Source as source
use Rattle.vms_io.specs.declared.sink.Sink as sink
use Rattle.vms_io.specs.declared.shelf.Shelf as shelf

-- of a source: the rest of the bytes, the number of given ones, the count of faults, and whether it
-- promises none
pub record Intake : Type 0 where
  pub left : Option (List ℕ)
  pub given : ℕ
  pub faults : ℕ
  pub promise : Bool

-- the intake of a source
abbrev pub intake : {S : Type 0} → source.Ghosts S → S → Intake
intake g s = record { left = g.left s; given = g.given s; faults = g.faults s; promise = g.promise s }

-- of a sink: the written bytes, the count of faults, and the number of bytes below which it
-- promises none
pub record Outlet : Type 0 where
  pub written : Option (List ℕ)
  pub faults : ℕ
  pub promise : Option ℕ

-- the outlet of a sink
abbrev pub outlet : {K : Type 0} → sink.Ghosts K → K → Outlet
outlet g k = record { written = g.written k; faults = g.faults k; promise = g.promise k }

-- of a shelf: its contents, the count of faults, and whether it promises none
pub record Stock : Type 0 where
  pub held : Option Held
  pub faults : ℕ
  pub promise : Bool

-- the stock of a shelf
abbrev pub stock : {H : Type 0} → shelf.Ghosts H → H → Stock
stock g h = record { held = g.held h; faults = g.faults h; promise = g.promise h }
