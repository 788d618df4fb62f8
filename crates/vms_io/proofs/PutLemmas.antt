-- A shelf in memory after bytes were put under a name.
use Rattle.vms_io.proofs.Facade.{arith, ◌≡◌, ℕ, Bool, true, false, cond, List, Option, Some, Result, Ok, Err, OnErr, ap, refl, bytes_eq-Decides}
use Rattle.vms_io.proofs.Facade.{option_map, bytes_eq, update, IsBytes, Held, HoldsAll, PutsUnder, KeepsOthers}

differ : (b : Bool) {X : Type 0} (x y : X) → (b ≡ true → ⊥) → cond b x y ≡ y
differ true x y never = absurd (never refl)
differ false x y never = refl

-- an update at a name stores the bytes there and leaves the others
pub update_puts : {X : Type 0} (f g : List ℕ → Option X) (v : X) (bytes_of : X → List ℕ) (name : List ℕ)
    → ((cs : List ℕ) → g cs ≡ update bytes_eq f name (Some v) cs)
    → PutsUnder (λ cs. option_map bytes_of (f cs)) (λ cs. option_map bytes_of (g cs)) name (bytes_of v)
update_puts f g v bytes_of name h = search (arith, bytes_eq-Decides, differ)

-- if all contents are unchanged, so are those of other names
pub unchanged_others : {T E : Type 0} (result : Result T E) (old new : Held) (name : List ℕ) → OnErr result (new ≡ old) → OnErr result (KeepsOthers old new name)
unchanged_others (Ok x) old new name same = tt
unchanged_others (Err e) old new name same = λ other differs. ap (λ (held : Held). held other) same

-- if bytes are stored, all contents stay bytes
pub puts_bytes : (old new : Held) (name bytes : List ℕ) → PutsUnder old new name bytes → IsBytes bytes → HoldsAll old → HoldsAll new
puts_bytes old new name bytes p ok holds = grind (arith, bytes_eq-Decides)
