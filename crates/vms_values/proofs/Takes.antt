-- What is read of structures, arrays and parts.
use Rattle.vms_values.proofs.Facade
use Facade.{refl, ◌∙◌, ◌≡◌, ℕ, zero, suc, ◌+◌, ◌<◌, Bool, true, ◌&&◌, List, [], ◌∷◌, ◌++◌, length, get_or, pos, arith}
use Facade.{codes, ◌-◌, ◌*◌, drop, Option, sym, decimal, exceeds_least, Typed, IsKept, run_read, Item, Num, Struct, Count, One, Field, Desc, Set}
use Facade.{is_there, no_desc, no_parent, first, item_size, field_cells, numbers_of, elements_of, counted, no_field, struct_cells, capacity_of, Reader}
use Facade.{Standing, Read, ◌>>=◌, no_reader, reader, readers, cells_of, read_item, read_elements, read_array, read_field, read_fields, read_desc}
use Facade.{ItemBelow, FieldsBelow, all_below, item_cells_same, field_cells_same, own_same, row_same, first_same, readers_cells, first_at, is_well_formed}
use Facade.{struct_clean, field_size, least_of, size_in, capacities_of, cells_table, fields_at}

pub kept_none : (a : Typed) → IsKept a a
kept_none a = record { version = refl; came = refl; long = refl; kinds = refl }

pub kept_more : (a b c : Typed) → IsKept a b → IsKept b c → IsKept a c
kept_more a b c h k = record { version = k.version ∙ h.version; came = k.came ∙ h.came; long = k.long ∙ h.long; kinds = k.kinds ∙ h.kinds }

-- ---- What is read of a structure is the same in each table that reaches it.

-- a reading goes on in the same way after the same reading
pub then_same : (r s : Read) (f g : Standing → Read) → r ≡ s → ((p : Standing) → f p ≡ g p) → (r >>= f) ≡ (s >>= g)
then_same r s f g e h = grind arith

-- two tables have the same structures of numbers below j
module _ (j : ℕ) (rs Rs : List Reader) (agree : (i : ℕ) → i < j → get_or rs i no_reader ≡ get_or Rs i no_reader) where
  cells : (i : ℕ) → i < j → get_or (cells_of rs) i [] ≡ get_or (cells_of Rs) i []
  cells i lt = row_same (λ (r : Reader). r.cells) no_reader rs Rs i (agree i lt)

  item_same : (f : Field) (caps path : List ℕ) (present : Bool) (at : ℕ) (item : Item) (p : Standing) → ItemBelow j item
      → read_item rs f caps path present at item p ≡ read_item Rs f caps path present at item p
  item_same f caps path present at (Struct i) p e = rw (agree i e, read_item)
  item_same f caps path present at _ p e = refl

  elements_same : (f : Field) (caps path : List ℕ) (present : Bool) (at step i m : ℕ) (p : Standing) → ItemBelow j f.item
      → read_elements rs f caps path present at step i m p ≡ read_elements Rs f caps path present at step i m p
  elements_same f caps path present at step i zero p e = refl
  elements_same f caps path present at step i (suc m) p e =
      then_same _ _ (λ q. read_elements rs f caps path present (at + step) step (suc i) m q) (λ q. read_elements Rs f caps path present (at + step) step (suc i) m q)
      (item_same f _ _ _ _ _ _ e) (λ q. elements_same f caps path present (at + step) step (suc i) m q e)

  array_same : (f : Field) (caps path : List ℕ) (present : Bool) (at : ℕ) (c : Count) (own : ℕ → ℕ) (p : Standing) → ItemBelow j f.item
      → read_array rs f caps path present at c own p ≡ read_array Rs f caps path present at c own p
  array_same f caps path present at One own p e = item_same f _ _ _ _ _ _ e
  array_same f caps path present at c own p e =
      rw (item_cells_same j (cells_of rs) (cells_of Rs) cells f.item [] (pos 0) e) (elements_same f _ _ _ _ _ 0 _ _ e)

  field_same : (d : Desc) (v : ℕ) (path : List ℕ) (present : Bool) (base i at : ℕ) (f : Field) (p : Standing) → FieldsBelow j d.fields → ItemBelow j f.item
      → read_field rs d v path present base i at f p ≡ read_field Rs d v path present base i at f p
  field_same d v path present base i at f p b e =
      rw (own_same j (cells_of rs) (cells_of Rs) cells d p.numbers base b) (array_same f _ _ _ _ _ (numbers_of (cells_of Rs) d p.numbers base) _ e)

  fields_same : (d : Desc) (v : ℕ) (path : List ℕ) (present : Bool) (base i at : ℕ) (fs : List Field) (p : Standing) → FieldsBelow j d.fields → FieldsBelow j fs
      → read_fields rs d v path present base i at fs p ≡ read_fields Rs d v path present base i at fs p
  fields_same d v path present base i at [] p b e = refl
  fields_same d v path present base i at (f ∷ fs) p b e =
      then_same _ _ (λ q. read_fields rs d v path present base (suc i) (at + length (field_cells (cells_of rs) d.fields i f)) fs q)
      (λ q. read_fields Rs d v path present base (suc i) (at + length (field_cells (cells_of Rs) d.fields i f)) fs q)
      (field_same d v path present base i at f p b e.0)
      (λ q. rw (field_cells_same j (cells_of rs) (cells_of Rs) cells d.fields i f e.0) (fields_same d v path present base (suc i) (at + length (field_cells (cells_of Rs) d.fields i f)) fs q b e.1))

-- what is read of one element of a structure is what is read of its description
pub struct_reads : (set : Set) → is_well_formed set ≡ true → (j : ℕ) → j < length set.structs → (f : Field) (caps path : List ℕ) (present : Bool) (at : ℕ) (p : Standing)
    → read_item (readers set) f caps path present at (Struct j) p
    ≡ read_desc (readers set) (get_or set.structs j no_desc) (get_or set.structs j no_desc).version (path ++ codes ".") present at p
struct_reads set well j lt f caps path present at p =
    let ds = set.structs in
    let d = get_or ds j no_desc in
    let below = all_below j d.fields (λ i l. ((struct_clean set well j lt).fields i l).uses) in
    rw (first_at reader ds no_reader (length ds) j lt, read_item)
    (fields_same j (first reader ds j) (readers set) (λ i l. first_same reader ds no_reader j (length ds) i (omega arith) l) d d.version (path ++ codes ".") present at 0 at d.fields p below below)

-- ---- The elements of an array and the fields of a part that remain to be read.

item_least : (rs : List Reader) (f : Field) (caps path : List ℕ) (present : Bool) (at : ℕ) (item : Item) (p : Standing)
    → read_item rs f (capacities_of (least_of caps)) path present at item p ≡ read_item rs f caps path present at item p
item_least rs f caps path present at (Num kind) p =
    grind (arith, exceeds_least)
item_least rs f caps path present at _ p = refl

elements_least : (rs : List Reader) (f : Field) (caps path : List ℕ) (present : Bool) (at step i n : ℕ) (p : Standing)
    → read_elements rs f (capacities_of (least_of caps)) path present at step i n p ≡ read_elements rs f caps path present at step i n p
elements_least rs f caps path present at step i zero p = refl
elements_least rs f caps path present at step i (suc n) p =
    then_same _ _ (λ q. read_elements rs f (capacities_of (least_of caps)) path present (at + step) step (suc i) n q) (λ q. read_elements rs f caps path present (at + step) step (suc i) n q)
    (item_least rs f caps (path ++ codes "[" ++ decimal i ++ codes "]") present at f.item p) (λ q. elements_least rs f caps path present (at + step) step (suc i) n q)

-- the next of the elements that are left, and those after it
pub elements_left : (rs : List Reader) (f : Field) (caps path : List ℕ) (present : Bool) (step at i count : ℕ) (p : Standing) (r : Read) → i < count
    → read_item rs f caps (path ++ codes "[" ++ decimal i ++ codes "]") present at f.item p ≡ r
    → read_elements rs f caps path present at step i (count - i) p
    ≡ (r >>= λ q. read_elements rs f caps path present (at + step) step (i + 1) (count - (i + 1)) q)
elements_left rs f caps path present step at i count p r lt here = grind arith

run_is : (rs : List Reader) (f : Field) (c : Count) (own : ℕ → ℕ) (count : ℕ) (caps path : List ℕ) (present : Bool) (at : ℕ) (p : Standing) → count ≡ elements_of c own
    → read_array rs f caps (path ++ f.name) present at c own p ≡ run_read rs f c (capacities_of (least_of caps)) path present at count p
run_is rs f One own count caps path present at p e = sym (item_least rs f caps (path ++ f.name) present at f.item p)
run_is rs f _ own count caps path present at p e =
    rw (sym e) (sym (elements_least rs f caps (path ++ f.name) present at (item_size (cells_of rs) f.item) 0 count p))

module _ (set : Set) where
  pub read_cells : cells_of (readers set) ≡ struct_cells set
  read_cells = readers_cells set.structs (length set.structs)

  pub read_size : (item : Item) → item_size (cells_of (readers set)) item ≡ size_in set item
  read_size item = rw (read_cells ∙ sym (cells_table set))

  pub array_read : (f : Field) (count : ℕ) (caps path : List ℕ) (present : Bool) (at : ℕ) (p : Standing) → (f.count ≡ One → ⊥)
      → read_elements (readers set) f caps (path ++ f.name) present at (size_in set f.item) 0 count p ≡ run_read (readers set) f f.count caps path present at count p
  array_read f count caps path present at p other = grind (arith, read_size)

  -- field k of a description, by the numbers so far: how many of its elements are read, and the most that its number counts
  pub record IsNext (d : Desc) (v : ℕ) (present : Bool) (base k count : ℕ) (most : Option ℕ) (now : Bool) (f : Field) (p : Standing) : Type 0 where
    pub inside : k < length d.fields
    pub found : f ≡ get_or d.fields k no_field
    pub counts : count ≡ elements_of (get_or d.fields k no_field).count (numbers_of (struct_cells set) d p.numbers base)
    pub least : most ≡ least_of (counted k d.fields)
    pub is : now ≡ (present && is_there (get_or d.fields k no_field).test (get_or d.fields k no_field).since v (numbers_of (struct_cells set) d p.numbers base) no_parent)

  -- what is read of it, and then of the fields after it
  pub fields_left : {d : Desc} {v : ℕ} {present : Bool} {base k count : ℕ} {most : Option ℕ} {now : Bool} {f : Field} {p : Standing}
      (path : List ℕ) (cell next : ℕ) (r : Read) → IsNext d v present base k count most now f p → cell + capacity_of f.count * size_in set f.item ≡ next
      → run_read (readers set) f f.count (capacities_of most) path now cell count p ≡ r
      → read_fields (readers set) d v path present base k cell (drop k d.fields) p
      ≡ (r >>= λ q. read_fields (readers set) d v path present base (k + 1) next (drop (k + 1) d.fields) q)
  fields_left {d} {v} {present} {base} {k} {count} {most} {now} {f} {p} path cell next r n after e =
      let rs = readers set in
      let g = get_or d.fields k no_field in
      let own = numbers_of (struct_cells set) d p.numbers base in
      let one : suc k ≡ k + 1 = omega arith in
      let here : read_field rs d v path present base k cell g p ≡ run_read rs g g.count (capacities_of most) path now cell count p =
      rw (read_cells, ← n.is, run_is rs g g.count own count (counted k d.fields) path now cell p n.counts, n.least) in
      rw (← after, ← e, fields_at d.fields k n.inside, here, field_size (cells_of rs) d.fields k g, read_size g.item, one, n.found)
