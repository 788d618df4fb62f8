-- The least capacity that a number counts.
use Rattle.vms_parts.proofs.{Facade.least_from, Facade.lowered_at, Facade.counted_in, Items.drop_is}
use Rattle.vms_parts.proofs.Facade.{◌≡◌, ◌≢◌, ℕ, ◌+◌, ◌<◌, List, [], ◌∷◌, ◌++◌, length, get_or, get_or-set_same}
use Rattle.vms_parts.proofs.Facade.{get_or-set_other, drop, take, map, Bool, true, false, Option, None, refl, sym, ◌∙◌, arith, ◌==◌}
use Rattle.vms_parts.proofs.Facade.{if◌then◌else◌, drop_all, take_all, length-set, eqb-true, eqb-false, Count, Counted, counted, Field, field_of, lesser}
use Rattle.std.proofs.lemmas.List.{append-nil}
use Rattle.vms_spec.specs.Sets as sets

of_count : Count → sets.Field → sets.Field
of_count c f = record { name = f.name; former = f.former; item = f.item; count = c; since = f.since; test = f.test; default = f.default }

at_lowered : (table : List (Option ℕ)) (by most i : ℕ) (rest : List ℕ) (b : Bool) → (by == i) ≡ b → i < length table
    → least_from (get_or (lowered_at table by most) i None) rest ≡ least_from (get_or table i None) ((if b then most ∷ [] else []) ++ rest)
at_lowered table by most i rest true e lt =
    let same : i ≡ by = sym (eqb-true by i e) in
    rw (same, get_or-set_same table by (lesser (get_or table by None) most) None (omega (arith, same)))
at_lowered table by most i rest false e lt =
    let other : i ≢ by = λ (p : i ≡ by). eqb-false by i e (sym p) in
    rw (get_or-set_other table by i (lesser (get_or table by None) most) None other)

one_more : (c : Count) (f : sets.Field) (rest : List sets.Field) (table : List (Option ℕ)) (i : ℕ) → i < length table
    → least_from (get_or (counted_in table c) i None) (counted i rest) ≡ least_from (get_or table i None) (counted i (of_count c f ∷ rest))
unfolding of_count
one_more (Counted by most) f rest table i lt = at_lowered table by most i (counted i rest) (by == i) refl lt
one_more _ f rest table i lt = refl

pub least_more : (fields : List Field) (k : ℕ) (f : Field) (table : List (Option ℕ)) (i : ℕ) (whole : Option ℕ) → k < length fields → f ≡ get_or fields k f → i < length table
    → least_from (get_or table i None) (counted i (map field_of (drop k fields))) ≡ whole
    → least_from (get_or (counted_in table f.count) i None) (counted i (map field_of (drop (k + 1) fields))) ≡ whole
unfolding of_count
least_more fields k f table i whole lt is inside e =
    one_more f.count (field_of f) (map field_of (drop (k + 1) fields)) table i inside ∙ (rw (drop_is fields k f lt is) at e)

pub counted_long : (c : Count) (table : List (Option ℕ)) → length (counted_in table c) ≡ length table
counted_long c table = grind (arith, length-set)

-- a slice as long as the list is the whole list
pub written_back : {X : Type 0} (items new : List X) (len : ℕ) → length new ≡ length items → len ≡ length items → take len (new ++ drop (length new) items) ≡ new
written_back items new len long all =
    rw (drop_all (length new) items (omega (arith, long)), append-nil) (take_all len new (omega (arith, long, all)))
