-- What is required, one after the other, is taken if it is at the front.
use Rattle.vms_analyze.proofs.Facade
use Facade.{◌≡◌, ℕ, ◌+◌, ◌<◌, ◌^◌, Bool, true, ◌&&◌, nat_le, List, [], ◌∷◌, ◌++◌, length, length-append, append_assoc, Some}
use Facade.{ℤ, refl, sym, ap, ◌∙◌, arith, codes, decimal, le-leb, and_from, Kind, width, code, InRange, in_range, section_head, length-code, value_code}
use Facade.{be32_read, front_take, front_drop, ranged, begins_itself, Want, Bytes, Any, Number, Head, Line, number_line, Took, took, only_if, take_number}
use Facade.{taken, Found, Lines, Differs, behind, found_after, found}

-- ---- one

-- this is taken at the front of an input
pub record Takes (w : Want) (id : ℕ) (bytes : List ℕ) (next : ℕ) (lines : List (List ℕ)) : Type 0 where
  pub is : (more : List ℕ) → taken w id (bytes ++ more) ≡ Some (took (length bytes) next lines)

pub if_so : (b : Bool) (t : Took) → b ≡ true → only_if b t ≡ Some t
if_so b t e = grind arith

pub takes_bytes : (bytes : List ℕ) (id : ℕ) → Takes (Bytes bytes) id bytes id []
takes_bytes bytes id = record { is = λ more. if_so _ (took (length bytes) id []) (begins_itself bytes more) }

pub takes_line : (line : List ℕ) (id : ℕ) → Takes (Line line) id [] id (line ∷ [])
takes_line line id = record { is = λ more. refl }

pub takes_any : (bytes : List ℕ) (n id : ℕ) → length bytes ≡ n → Takes (Any n) id bytes id []
takes_any bytes n id long = record {
  is = λ more. if_so (nat_le n (length (bytes ++ more))) (took n id []) (le-leb n (length (bytes ++ more)) (omega (arith, length-append bytes more)))
      ∙ ap (λ (k : ℕ). Some (took k id [])) (sym long);
}

pub takes_number : (path : List ℕ) (kind : Kind) (z : ℤ) (id : ℕ) → InRange kind z → Takes (Number path kind) id (code kind z) id (number_line path z ∷ [])
takes_number path kind z id fits = record { is = λ more. whole more }
  where
    whole : (more : List ℕ) → taken (Number path kind) id (code kind z ++ more) ≡ Some (took (length (code kind z)) id (number_line path z ∷ []))
    whole more =
        let rest = code kind z ++ more in
        ap (λ (y : ℤ). take_number path kind id rest y) (cc (front_take (width kind) (code kind z) more rest refl (length-code kind z), value_code kind z fits))
        ∙ if_so (nat_le (width kind) (length rest) && in_range kind z) (took (width kind) id (number_line path z ∷ []))
        (and_from _ _ (le-leb (width kind) (length rest) (omega (arith, length-append (code kind z) more, length-code kind z))) (ranged kind z fits))
        ∙ ap (λ (k : ℕ). Some (took k id (number_line path z ∷ []))) (sym (length-code kind z))

pub takes_head : (name : List ℕ) (instance version old id : ℕ) → id < 2 ^ 32
    → Takes (Head name instance version) old (section_head id name instance version) id
    ((codes "section " ++ (name ++ (codes " " ++ (decimal instance ++ (codes " v" ++ decimal version))))) ∷ [])
takes_head name instance version old id small = search (arith, be32_read, if_so, begins_itself)

-- ---- one after the other

pub behind_none : (f : Found) → behind [] f ≡ f
behind_none f = grind arith

pub behind_both : (xs ys : List (List ℕ)) (f : Found) → behind xs (behind ys f) ≡ behind (xs ++ ys) f
behind_both xs ys (Lines more) = rw (append_assoc xs ys more)
behind_both xs ys (Differs place) = refl

-- what is required takes these bytes, with these lines, and what is required next is looked for after them
pub record Follows (ws : List Want) (id : ℕ) (bytes : List ℕ) (next : ℕ) (lines : List (List ℕ)) : Type 0 where
  pub goes : (more : List Want) (place : ℕ) (rest : List ℕ)
      → found (ws ++ more) id place (bytes ++ rest) ≡ behind lines (found more next (place + length bytes) rest)

pub none_follows : (id : ℕ) → Follows [] id [] id []
none_follows id = search (arith, behind_none)

pub one_follows : {w : Want} {id : ℕ} {bytes : List ℕ} {next : ℕ} {lines : List (List ℕ)} → Takes w id bytes next lines → Follows (w ∷ []) id bytes next lines
one_follows {id = id} {bytes = bytes} {next = next} {lines = lines} t = record {
  goes = λ more place rest. ap (found_after (found more) place (bytes ++ rest)) (t.is rest)
      ∙ ap (λ (l : List ℕ). behind lines (found more next (place + length bytes) l)) (front_drop _ bytes _ _ refl refl);
}

pub both_follow : {ws vs : List Want} {id next last : ℕ} {bytes more : List ℕ} {lines others : List (List ℕ)}
    → Follows ws id bytes next lines → Follows vs next more last others → Follows (ws ++ vs) id (bytes ++ more) last (lines ++ others)
both_follow {ws = ws} {vs = vs} {bytes = bytes} {more = more} {lines = lines} {others = others} a b = record {
  goes = λ us place rest.
      let long : place + length (bytes ++ more) ≡ place + length bytes + length more = omega (arith, length-append bytes more) in
      rw (append_assoc ws vs us, append_assoc bytes more rest, a.goes (vs ++ us) place (more ++ rest), b.goes us (place + length bytes) rest, long)
      (behind_both lines others _);
}

-- the same, with other spellings of the bytes and the lines
pub follows_as : {ws vs : List Want} {id next : ℕ} {bytes more : List ℕ} {lines others : List (List ℕ)} → ws ≡ vs → bytes ≡ more → lines ≡ others
    → Follows ws id bytes next lines → Follows vs id more next others
follows_as e f g h = rw (← e, ← f, ← g) h
