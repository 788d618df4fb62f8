-- A port as contracts see it.
use Rattle.dev_serial.specs.Port.{Port}
use Rattle.dev_serial.specs.declared.serial.Serial.TheInside.{Inside}

-- The state of a port.
abbrev pub port_view : Inside → Port
port_view s = record {
  level = s.level;
  divisor = s.divisor;
  ier = s.ier;
  lcr = s.lcr;
  mcr = s.mcr;
  scr = s.scr;
  fifos = s.fifos;
  receiver = s.receiver;
  transmitter = s.transmitter;
  thr_empty = s.thr_empty;
}
