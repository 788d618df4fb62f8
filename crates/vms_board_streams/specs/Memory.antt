-- What contracts see of bytes in memory.
use Rattle.std.specs.Prelude.{ℕ, List, drop}
use Rattle.vms_board_streams.specs.declared.growing.Growing.{Growing}
use Rattle.vms_board_streams.specs.declared.lent.Lent.{Lent}

-- The bytes that were written to a sink that grows.
abbrev pub gathered : Growing → List ℕ
gathered s = s.bytes.items

-- The rest of borrowed bytes.
abbrev pub rest : Lent → List ℕ
rest s = drop s.at s.bytes.now
