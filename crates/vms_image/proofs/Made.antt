-- The image of a device at the set's version, with no subsection and all defaults.
use Rattle.vms_image.proofs.Facade.{◌≡◌, ℕ, List, ◌∷◌, None, length, map, replicate, sym, ◌∙◌, refl, [], map-map, device_cells, device_at}
use Rattle.vms_image.proofs.Facade.{device_of, kinds_at, Typed, default_at}
use Rattle.vms_spec.specs.Sets as sets
use Rattle.vms_parts.specs.declared.types.Device.{Device}

-- the same value at each place
pub map-same : {X Y : Type 0} (y : Y) (xs : List X) → map (λ x. y) xs ≡ replicate (length xs) y
map-same y [] = refl
map-same y (x ∷ xs) = rw (map-same y xs)

pub same_image : (a b : Typed) → a.version ≡ b.version → a.came ≡ b.came → a.numbers ≡ b.numbers → a.kinds ≡ b.kinds → a ≡ b
same_image a b v c n k =
    let image : Typed = record { version = a.version; came = a.came; numbers = a.numbers; kinds = a.kinds } in
    let all : image ≡ b = rw (v, c, n, k) in
    all

pub made : (set : sets.Set) (k : ℕ) (device : Device) → device_of device ≡ device_at set k → (image : Typed) → image.version ≡ device.desc.version
    → image.came ≡ replicate (length device.subs) None → image.numbers ≡ map (λ c. c.default) (device_cells set (device_at set k)) → image.kinds ≡ kinds_at set k → image ≡ default_at set k
made set k device is image v c n kinds =
    same_image image (default_at set k)
    (rw (← is) v) (rw (← is, map-map) (c ∙ sym (map-same None device.subs))) n kinds
