-- The memory of a conversion, before the input is read.
use Rattle.std.specs.Prelude.{◌≡◌, ◌&&◌, ℕ, ◌<◌, List, length, Option, Some, None, if◌then◌else◌}
use Rattle.std.specs.List.{slice_get}
use Rattle.vms_spec.specs.Sets.{Set}
use Rattle.vms_desc.specs.Described.{described, device_at}
use Rattle.vms_desc.specs.declared.set.DescSet.{DescSet}
use Rattle.vms_image.specs.Typed.{Typed, default_at}
use Rattle.vms_check.specs.Comparing.{Compatible}
use Rattle.vms_check.specs.Partners.{device_partners}
use Rattle.vms_convert.specs.Recast.{is_port, wants_arrays}
use Rattle.vms_convert.specs.Returns.{ArePaired}
use Rattle.vms_convert.specs.declared.room.Room.{Room}
use Rattle.vms_convert.specs.declared.room.Route.{Route}

-- The image for the recast numbers of device k of the newer set, if they are recast.
abbrev pub recast_room : (to new : Set) → ℕ → Option Typed
recast_room to new k = if is_port (device_at new k) && wants_arrays to then Some (default_at new k) else None

-- The route from device k of the newer set to device i of the older one.
pub record IsRoute (to new : Set) (i k : ℕ) (r : Route) : Type 0 where
  pub pair : ArePaired to new i k
  pub other : r.other ≡ k
  pub partners : r.partners.items ≡ device_partners to new (device_at to i) (device_at new k)
  pub recast : r.recast ≡ recast_room to new k
  pub carried : r.carried ≡ default_at new k

-- The routes to the older set's first n devices, in its order.
pub record AreRoutes (to new : Set) (n : ℕ) (routes : List Route) : Type 0 where
  pub count : length routes ≡ n
  pub each : (i : ℕ) (r : Route) → slice_get routes i ≡ Some r → IsRoute to new i r.other r

-- The default image of each device, in the set's order.
pub record AreFresh (set : Set) (images : List Typed) : Type 0 where
  pub count : length images ≡ length set.devices
  pub each : (i : ℕ) (image : Typed) → slice_get images i ≡ Some image → image ≡ default_at set i

-- The memory of a conversion from the newer set to the older one.
pub record IsRoom (to new : Set) (room : Room) : Type 0 where
  pub images : AreFresh to room.images.items
  pub routes : AreRoutes to new (length to.devices) room.routes.items

-- ---- the same of the sets that the code borrows

module _ (to new : DescSet) where
  -- The newer set reads what the older one writes.
  abbrev pub AreCompatible : Type 0
  AreCompatible = Compatible (described to) (described new)

  -- The same, where device i is one of the older set.
  pub record HasCounterpart (i : ℕ) : Type 0 where
    pub compatible : Compatible (described to) (described new)
    pub device : i < length (described to).devices

  -- Devices i and k have one name and instance.
  abbrev pub AreCounterparts : ℕ → ℕ → Type 0
  AreCounterparts i k = ArePaired (described to) (described new) i k

  -- The route to device i.
  abbrev pub IsRouteTo : ℕ → Route → Type 0
  IsRouteTo i route = IsRoute (described to) (described new) i route.other route

  -- The routes to all devices.
  abbrev pub AreAllRoutes : List Route → Type 0
  AreAllRoutes routes = AreRoutes (described to) (described new) (length (described to).devices) routes

  -- The memory of a conversion.
  abbrev pub IsRoomFor : Room → Type 0
  IsRoomFor room = IsRoom (described to) (described new) room
