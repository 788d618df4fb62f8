-- A list that is filled from its front to its end.
use Rattle.vms_image.proofs.Facade.{◌≡◌, ℕ, ◌<◌, ◌≤◌, List, Option, None, length, get_or, replicate, arith, sym, ◌∙◌, ext_get_or}
use Rattle.vms_image.proofs.Facade.{length-replicate, get_or-replicate}

pub cleared : (new old : List (Option ℕ)) (i : ℕ) → length new ≡ length old → length old ≤ i
    → ((k : ℕ) → k < i → get_or new k None ≡ None) → new ≡ replicate (length old) None
cleared new old i long all written =
    ext_get_or None new (replicate (length old) None) (long ∙ sym (length-replicate (length old) None))
    (λ k h. written k (omega (arith, long, h)) ∙ sym (get_or-replicate (length old) k None None (omega (arith, long, h))))
