-- What contracts see of a sink over a writer.
use Rattle.std.specs.declared.io.traits.Write.{Ghosts}
use Rattle.vms_io.specs.declared.standard.StdSink.{StdSink}

-- the writer, which has all bytes but the buffered ones
abbrev pub writer_of : {W : Type 0} {G : Ghosts W} → StdSink W G → W
writer_of s = s.writer
