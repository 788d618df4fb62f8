-- What a head opens: the device or subsection that it names, or the reason against it. The reasons are tried
-- in the table's order.
use Rattle.std.specs.Prelude.{ℕ, Bool, false, nat_lt, if◌then◌else◌, List, get_or, Option, Some, None, Result, Ok, Err}
use Rattle.std.specs.List.{slice_get}
use Rattle.vms_spec.specs.declared.Reason.{Reason}
use Rattle.vms_spec.specs.declared.Reason.TheVariants as reasons
use Rattle.vms_spec.specs.Sets.{Desc, Sub, Device, Set}
use Rattle.vms_spec.specs.Lookup.{find_device, find_sub, index, did_come}
use Rattle.vms_load.specs.declared.fault.LoadFault.{LoadFault}
use Rattle.vms_load.specs.declared.fault.LoadFault.TheVariants.{Refused}

-- The device concerned, if any, and the reason.
pub record Unfit : Type 0 where
  pub section : Option ℕ
  pub reason : Reason

-- The result with this device and reason.
abbrev pub unfit : Option ℕ → Reason → Result ℕ Unfit
unfit section reason = Err (record { section = section; reason = reason })

-- The reason against version `v` of a description.
abbrev pub reason_against_version : Desc → ℕ → Option Reason
reason_against_version d v =
    if nat_lt d.version v then Some reasons.TooNew
    else if nat_lt v d.minimum then Some reasons.TooOld
    else None

-- The reason against a section of a device at version `v`; `came` is whether its section has come.
abbrev pub reason_against : Device → Bool → ℕ → Option Reason
reason_against d came v = if came then Some reasons.RepeatedSection else reason_against_version d.desc v

-- The reason against a subsection at version `v`; `came` is the version at which it came.
abbrev pub reason_against_sub : Sub → Option ℕ → ℕ → Option Reason
reason_against_sub s came v =
    if nat_lt s.desc.version v then Some reasons.TooNew
    else if nat_lt v s.desc.minimum then Some reasons.TooOld
    else if did_come came then Some reasons.RepeatedSubsection
    else None

-- The number k is opened unless there is a reason against it.
abbrev pub opened_unless : Option ℕ → ℕ → Option Reason → Result ℕ Unfit
opened_unless section k None = Ok k
opened_unless section k (Some reason) = unfit section reason

-- What a head at version `v` opens if it names device k.
abbrev pub device_opened : ℕ → Option ℕ → Option Device → Bool → Result ℕ Unfit
device_opened v (Some k) (Some d) came = opened_unless (Some k) k (reason_against d came v)
device_opened v (Some k) None came = unfit None reasons.UnknownSection
device_opened v None d came = unfit None reasons.UnknownSection

-- What a section head opens.
abbrev pub section_opened : Set → List Bool → List ℕ → ℕ → ℕ → Result ℕ Unfit
section_opened set came name instance v =
    let found = find_device 0 set.devices name instance in
    device_opened v found (slice_get set.devices (index found)) (get_or came (index found) false)

-- What a head at version `v` opens if it names subsection j of device k.
abbrev pub sub_opened_at : ℕ → ℕ → Option ℕ → Option Sub → Option (Option ℕ) → Result ℕ Unfit
sub_opened_at k v (Some j) (Some s) (Some came) = opened_unless (Some k) j (reason_against_sub s came v)
sub_opened_at k v j s came = unfit (Some k) reasons.UnknownSubsection

-- What a subsection head opens.
abbrev pub sub_opened : ℕ → Device → List (Option ℕ) → List ℕ → ℕ → Result ℕ Unfit
sub_opened k d came name v =
    let found = find_sub 0 d.subs name in
    sub_opened_at k v found (slice_get d.subs (index found)) (slice_get came (index found))

-- The same result with device k concerned.
abbrev pub in_section : ℕ → Result ℕ Reason → Result ℕ Unfit
in_section k (Ok j) = Ok j
in_section k (Err reason) = unfit (Some k) reason

-- The result of a call that opens what a head at this offset names.
abbrev pub opened_at : ℕ → Result ℕ Unfit → Result ℕ LoadFault
opened_at place (Ok k) = Ok k
opened_at place (Err why) = Err (Refused (record { section = why.section; at = place; reason = why.reason }))
