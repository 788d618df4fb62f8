use Rattle.dev_serial.proofs.KeepLaws.{power_on_is_sound, reads_keep_sound, writes_keep_sound, bytes_in_keep_sound, advances_keep_sound}
use Rattle.dev_serial.proofs.laws.sound_law.Goals as goal

pub returns : goal.returns
returns c = record { power_on = power_on_is_sound; reads = reads_keep_sound; writes = writes_keep_sound; bytes_in = bytes_in_keep_sound; advances = advances_keep_sound }
