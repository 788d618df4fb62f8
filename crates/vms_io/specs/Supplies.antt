-- What contracts see of the objects in memory.
use Rattle.std.specs.Prelude.{drop}
use Rattle.vms_io.specs.declared.memory.source.MemSource.{MemSource}
use Rattle.vms_io.specs.declared.memory.sink.MemSink.{MemSink}
use Rattle.vms_io.specs.Memory.{Supply, Store}

-- the supply of a source in memory
abbrev pub supply : MemSource → Supply
supply s = record { left = drop s.at s.bytes.items; pieces = s.pieces.items; failing = s.failing.items; calls = s.calls; given = s.given; faults = s.faults }

-- the store of a sink in memory
abbrev pub store : MemSink → Store
store s = record { bytes = s.bytes.items; room = s.room; failing = s.failing.items; calls = s.calls; faults = s.faults }
