-- The number of items of a description's fields, given those of the structures.
use Rattle.vms_parts.proofs.Facade.{◌≡◌, ℕ, zero, suc, List, ◌∷◌, get_or, refl, [], Item, Struct, Desc}
use Rattle.vms_parts.proofs.Facade.{first, no_desc, item_count, items_in, Items, size_of, fields_size, sizes_to}
use Rattle.vms_spec.specs.Sets.{Field}

pub item_is : (sizes : List ℕ) (item : Item) → item_count sizes item ≡ size_of Items sizes item
item_is sizes (Struct j) = refl
item_is sizes _ = refl

pub items_are : (sizes : List ℕ) (fs : List Field) → items_in sizes fs ≡ fields_size Items sizes fs
items_are sizes [] = refl
items_are sizes (f ∷ fs) = rw (item_is sizes f.item, items_are sizes fs)

pub items_to : (ds : List Desc) (k : ℕ) → first (λ sizes d. items_in sizes d.fields) ds k ≡ sizes_to Items ds k
unfolding first
items_to ds zero = refl
items_to ds (suc k) = rw (items_to ds k, items_are (sizes_to Items ds k) (get_or ds k no_desc).fields)
