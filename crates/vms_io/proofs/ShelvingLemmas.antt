-- Calls over a shelf, one after the other, and shelves whose contents are known.
use Rattle.vms_io.proofs.Facade
use Facade.{◌≡◌, List, ℕ, Option, Some, None, refl, ◌∙◌, subst, arith, Held, IfToldBoth, PutsUnder, Looks, Reaches, Stores, Stock}

pub reaches_none : (a : Stock) → Reaches a a
reaches_none a = record { later = omega arith; promise = refl }

pub reaches_both : {a b c : Stock} → Reaches a b → Reaches b c → Reaches a c
reaches_both {a} {b} {c} p q = record { later = omega (arith, p.later, q.later); promise = q.promise ∙ p.promise }

pub looks_reaches : {a b : Stock} → Looks a b → Reaches a b
looks_reaches p = record { later = p.later; promise = p.promise }

-- the contents after a store, if those before it are known
pub record IsStored (was : Held) (now : Option Held) (name bytes : List ℕ) : Type 0 where
  pub after : Held
  pub told : now ≡ Some after
  pub puts : PutsUnder was after name bytes

pub stores_told : {a b : Stock} {name bytes : List ℕ} (was : Held) → a.held ≡ Some was → Stores a b name bytes → IsStored was b.held name bytes
stores_told {a} {b} {name} {bytes} was is p =
    by b.held (subst (λ (h : Option Held). IfToldBoth h b.held (λ was now. PutsUnder was now name bytes)) is p.told)
  where
    by : (now : Option Held) → IfToldBoth (Some was) now (λ was now. PutsUnder was now name bytes) → IsStored was now name bytes
    by None h = absurd h
    by (Some after) h = record { after = after; told = refl; puts = h }
