-- What is read of devices.
use Rattle.std.specs.Prelude.{◌≡◌, ℕ, true, if◌then◌else◌, List, [], map, Option, Some, None, Result, Ok, Err}
use Rattle.vms_spec.specs.declared.ValuesReason.TheVariants as reasons
use Rattle.vms_spec.specs.Sets.{Device, Set}
use Rattle.vms_spec.specs.Images.{Image, default_image, own_cells}
use Rattle.vms_spec.specs.Spelling.{first_line}
use Rattle.vms_spec.specs.ValuesReading.{BadLine, Standing, ReadSubs, ReadDevice, ReadAll, readers, read_desc, read_subs, next_line, then_subs, section_line, is_line, judge_device, judge_devices, or_bad}
use Rattle.vms_values.specs.declared.fault.LineFault.{LineFault}
use Rattle.vms_values.specs.declared.fault.LineFault.TheVariants as faults
use Rattle.vms_values.specs.declared.devices.Reading.{Reading}
use Rattle.vms_values.specs.declared.fault.Values.{Values as Given}
use Rattle.vms_values.specs.declared.judge.BadLine.{BadLine as Found}
use Rattle.vms_values.specs.Reading.{IsBad}
use Rattle.vms_values.specs.Judging.{bad_of}

-- What was read of a device, and the reading's state after it.
abbrev pub found : Device → ℕ → Result ReadSubs BadLine → Result (ReadDevice × Standing) BadLine
found d line (Err b) = Err b
found d line (Ok r) =
    Ok (record { image = record { version = d.desc.version; came = r.came; numbers = r.place.numbers }; line = line; sub_lines = r.lines }, r.place)

-- What is read of the section of the device `d` at `p`, with its subsections.
abbrev pub device_read : Set → Device → Standing → Result (ReadDevice × Standing) BadLine
device_read set d p =
    if is_line (section_line d) (first_line p.rest)
    then found d p.line (then_subs (read_desc (readers set) d.desc d.desc.version [] true 0 (next_line p)) (read_subs set (own_cells set d) d.subs))
    else Err (record { line = p.line; reason = reasons.Form })

-- The state in which the reading of a device begins.
abbrev pub start_of : Set → Device → Reading → Standing
start_of set d reading = record { numbers = (default_image set d).numbers; line = reading.lines.line; rest = reading.lines.rest.now }

-- The image, and the first bad line of the second pass so far; or the bad line. Memory may run out in any
-- case.
abbrev pub DeviceRead : Set → Device → Result (ReadDevice × Standing) BadLine → Reading → Reading → Result Image LineFault → Type 0
DeviceRead set d r old new (Err faults.NoMemory) = Unit {0}
DeviceRead set d (Ok (r, p)) old new (Ok image) =
    (image ≡ r.image) × (new.lines.line ≡ p.line) × (new.lines.rest.now ≡ p.rest) × (bad_of new.judged ≡ or_bad (bad_of old.judged) (judge_device set d r))
DeviceRead set d (Err b) old new (Err (faults.Bad line reason)) = IsBad b (faults.Bad line reason)
DeviceRead set d r old new result = ⊥

-- The same for all devices.
abbrev pub AllRead : Set → Result ReadAll BadLine → Reading → Reading → Result (List Image) LineFault → Type 0
AllRead set r old new (Err faults.NoMemory) = Unit {0}
AllRead set (Ok all) old new (Ok images) =
    (map (λ r. r.image) all.devices ≡ images) × (all.line ≡ new.lines.line) × (all.rest ≡ new.lines.rest.now)
    × (bad_of new.judged ≡ or_bad (bad_of old.judged) (judge_devices set set.devices all.devices))
AllRead set (Err b) old new (Err (faults.Bad line reason)) = IsBad b (faults.Bad line reason)
AllRead set r old new result = ⊥

-- `f` of what is Ok.
abbrev pub map_ok : {V W E : Type 0} → (V → W) → Result V E → Result W E
map_ok f (Ok v) = Ok (f v)
map_ok f (Err e) = Err e

-- The result is the values, unless there is a bad line.
abbrev pub ToldAs : Option Found → Given → Result Given LineFault → Type 0
ToldAs None v result = result ≡ Ok v
ToldAs (Some b) v result = result ≡ Err (faults.Bad b.line b.reason)
