-- Sums that are cut at 2 ^ 32 - 1.
use Rattle.vms_parts.proofs.Facade.{◌≡◌, ℕ, zero, suc, ◌+◌, ◌*◌, ◌^◌, ◌<◌, ◌≤◌, List, [], ◌∷◌, ◌++◌, length, get_or}
use Rattle.vms_parts.proofs.Facade.{drop, map, refl, sym, ap, ◌∙◌, arith, add-one, drop_all, map-append, Item, capacity_of, first, no_desc, Measure}
use Rattle.vms_parts.proofs.Facade.{in_u32, size_of, fields_size, subs_size, sizes_to, field_of, desc_of}
use Rattle.vms_parts.proofs.Items.{drop_is, get_map_at}
use Rattle.vms_parts.specs.declared.types.Desc.{Desc}
use Rattle.vms_spec.specs.Sets as sets

-- sums over lists that a loop walks: `whole` is the sum of the sizes `one` of all elements
module _ {T : Type 0} (whole : List T → ℕ) (one : T → ℕ) (nothing : whole [] ≡ 0) (adds : (x : T) (xs : List T) → whole (x ∷ xs) ≡ one x + whole xs) where
  pub sum_goes : (xs : List T) (i sum new all : ℕ) (x : T) → i < length xs → x ≡ get_or xs i x → new ≡ in_u32 (sum + one x)
      → in_u32 (sum + whole (drop i xs)) ≡ all → in_u32 (new + whole (drop (i + 1) xs)) ≡ all
  sum_goes xs i sum new all x lt is has e =
      let next : whole (drop i xs) ≡ one x + whole (drop (i + 1) xs) = ap whole (drop_is xs i x lt is) ∙ adds x (drop (i + 1) xs) in
      omega (arith, has, next, e)

  pub sum_ends : (xs : List T) (i sum all : ℕ) → length xs ≤ i → sum < 2 ^ 32 → in_u32 (sum + whole (drop i xs)) ≡ all → sum ≡ all
  sum_ends xs i sum all over small e =
      let all_added = rw (drop_all i xs over, nothing) at e in
      omega arith

-- a size of a structure that is cut at 2 ^ 32 - 1 gives the same cut product
pub capped_product : (c s : ℕ) → in_u32 (c * in_u32 s) ≡ in_u32 (c * s)
capped_product zero s = omega arith
capped_product (suc c) s =
    let p : suc c * in_u32 s ≡ in_u32 s + c * in_u32 s = grind arith in
    let q : suc c * s ≡ s + c * s = grind arith in
    let e : in_u32 (c * in_u32 s) ≡ in_u32 (c * s) = capped_product c s in
    omega (arith, p, q, e)

pub capped_at : (sizes : List ℕ) (j : ℕ) → get_or (map in_u32 sizes) j 0 ≡ in_u32 (get_or sizes j 0)
capped_at (s ∷ sizes) (suc j) = capped_at sizes j
capped_at _ j = refl

capped_item : (m : Measure) (sizes : List ℕ) (c : ℕ) (item : Item) → in_u32 (c * size_of m (map in_u32 sizes) item) ≡ in_u32 (c * size_of m sizes item)
capped_item m sizes c item = grind (arith, capped_at, capped_product)

pub capped_fields : (m : Measure) (sizes : List ℕ) (fs : List sets.Field) → in_u32 (fields_size m (map in_u32 sizes) fs) ≡ in_u32 (fields_size m sizes fs)
capped_fields m sizes [] = refl
capped_fields m sizes (f ∷ fs) =
    let e : in_u32 (capacity_of f.count * size_of m (map in_u32 sizes) f.item) ≡ in_u32 (capacity_of f.count * size_of m sizes f.item) = capped_item m sizes (capacity_of f.count) f.item in
    let r : in_u32 (fields_size m (map in_u32 sizes) fs) ≡ in_u32 (fields_size m sizes fs) = capped_fields m sizes fs in
    omega (arith, e, r)

pub capped_subs : (m : Measure) (sizes : List ℕ) (subs : List sets.Sub) → in_u32 (subs_size m (map in_u32 sizes) subs) ≡ in_u32 (subs_size m sizes subs)
capped_subs m sizes [] = refl
capped_subs m sizes (s ∷ subs) = omega (arith, capped_fields m sizes s.desc.fields, capped_subs m sizes subs)

-- one more structure
pub sizes_more : (m : Measure) (structs : List Desc) (sizes : List ℕ) (i : ℕ) (d : Desc) (size : ℕ) → d ≡ get_or structs i d → i < length structs
    → sizes ≡ map in_u32 (sizes_to m (map desc_of structs) i) → size ≡ in_u32 (fields_size m sizes (map field_of d.fields))
    → sizes ++ size ∷ [] ≡ map in_u32 (sizes_to m (map desc_of structs) (i + 1))
unfolding first
sizes_more m structs sizes i d size is lt e s =
    let ds = map desc_of structs in
    let here : get_or ds i no_desc ≡ desc_of d = get_map_at desc_of structs i d no_desc lt is in
    let one : size ≡ in_u32 (fields_size m (sizes_to m ds i) (get_or ds i no_desc).fields) = rw (s, e, here) (capped_fields m (sizes_to m ds i) (map field_of d.fields)) in
    rw (e, one, add-one) (sym (map-append in_u32 (sizes_to m ds i) (fields_size m (sizes_to m ds i) (get_or ds i no_desc).fields ∷ [])))
