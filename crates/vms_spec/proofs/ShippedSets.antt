-- Each shipped set is well formed and good. So the premises of the laws about sets can be met.
use Rattle.vms_spec.proofs.Facade
use Facade.{arith, ◌≡◌, ℕ, zero, suc, ◌<◌, ◌^◌, Bool, true, List, [], ◌∷◌, Option, Some, None, refl, is_none, AllByRecursion, list_all}
use Facade.{slice_get, and_parts, ltb-true, Device, Sub, Set, first, first_fault, shipped_sets, IsFit, ShippedLaw, FitsHeads}
use Rattle.std.specs.Prelude.{◌&&◌, nat_lt}

-- ---- the numbers that four bytes can hold, computed

abbrev is_word : ℕ → Bool
is_word n = nat_lt n (2 ^ 32)

abbrev sub_fits : Sub → Bool
sub_fits s = is_word s.desc.version

abbrev pub device_fits : Device → Bool
device_fits d = is_word d.instance && is_word d.desc.version && list_all sub_fits d.subs

abbrev pub is_fit : Set → Bool
is_fit set = is_none (first_fault set) && list_all device_fits set.devices

pub each : {X : Type 0} (p : X → Bool) (xs : List X) (k : ℕ) (x : X) → list_all p xs ≡ true → slice_get xs k ≡ Some x → p x ≡ true
each p [] k x all e = cc
each p (y ∷ xs) zero x all e = let same : y ≡ x = cc in rw same at (and_parts (p y) (list_all p xs) all).0
each p (y ∷ xs) (suc k) x all e = each p xs k x (and_parts (p y) (list_all p xs) all).1 e

word : (n : ℕ) → is_word n ≡ true → n < 2 ^ 32
word n = ltb-true n (2 ^ 32)

pub heads_fit : (set : Set) → list_all device_fits set.devices ≡ true → FitsHeads set
heads_fit set all = record {
  instance = λ k d e.
      let f = and_parts (is_word d.instance && is_word d.desc.version) (list_all sub_fits d.subs) (each device_fits set.devices k d all e) in
      let g = and_parts (is_word d.instance) (is_word d.desc.version) f.0 in
      (word d.instance g.0, word d.desc.version g.1);
  sub_version = λ k j d s e h.
      let f = and_parts (is_word d.instance && is_word d.desc.version) (list_all sub_fits d.subs) (each device_fits set.devices k d all e) in
      word s.desc.version (each sub_fits d.subs j s f.1 h);
}

pub none_is : {X : Type 0} (o : Option X) → is_none o ≡ true → o ≡ None
none_is o h = grind arith

pub fit : (set : Set) → is_fit set ≡ true → IsFit set
fit set h = search (arith, none_is, heads_fit)

-- ---- each shipped set

pub all_fit : list_all is_fit shipped_sets ≡ true
unfolding first_fault first
all_fit = refl

stand : (sets : List Set) → list_all is_fit sets ≡ true → AllByRecursion IsFit sets
stand [] all = tt
stand (set ∷ sets) all = let f = and_parts (is_fit set) (list_all is_fit sets) all in (fit set f.0, stand sets f.1)

pub shipped_stands : ShippedLaw
shipped_stands = stand shipped_sets all_fit
