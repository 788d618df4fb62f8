-- What is known of a state that agrees with what lines said, and what was said in two parts.
use Rattle.vms_values_laws.proofs.Facade
use Facade.{◌≡◌, ℕ, ◌≤◌, List, [], ◌∷◌, ◌++◌, get_or, map, slice_set, ℤ, pos, refl, sym, ◌∙◌, arith, append_assoc, true, false}
use Facade.{if◌then◌else◌, Some, None, suc, get_or-set_other, Bool, ◌==◌, ◌||◌, length, map-append, all_both, all_more, all_parts, length-append}
use Facade.{eq-eqb, or_parts, or_assoc, AllByRecursion, ValuesReason, if_not, Standing, Element, text_of, ranges, text_append, Said, said_line, Agrees, Meets}
use Facade.{AreBelow, AreFrom, put_all, Entry, OfNumber, has_line, IsShort, ◌<◌, drop, Option, Ok, Err, codes, ◌+◌, get_or-set_same, length-set}
use Facade.{signed_decimal, Read, BadLine, CellLine, put_number, put_line, ◌>>=◌, Number, number_reason, spelled_reason, line_reason, wanted_reason, Kind}
use Facade.{same_number, exceeds, in_range, Cell, first_line, begins_with, number_spelled, spelled_holds, line_splits, begun, ForNumber, Moved, Taken, lines_of}
use Facade.{reason_for}
use Rattle.vms_spec.specs.declared.ValuesReason.TheVariants as reasons

pub some_if : {A : Type 0} (b : Bool) (x y : A) → (if b then Some x else None) ≡ Some y → (b ≡ true) × (x ≡ y)
some_if b x y e = grind arith

pub if_none : (b : Bool) (reason : ValuesReason) → if_not b reason ≡ None → b ≡ true
if_none b reason e = grind arith

pub meets_left : (said : List Said) (left left' : List Element) (n : List ℤ) (xs : List Element) → Meets said left n xs → (Agrees said n → left ≡ left')
    → Meets said left' n xs
meets_left [] left left' n xs h e = h ∙ e tt
meets_left (s ∷ said) left left' n [] h e = h
meets_left (s ∷ said) left left' n (x ∷ xs) h e = (h.0, λ a. meets_left said left left' n xs (h.1 a) (λ b. e (a, b)))

pub meets_more : (said : List Said) (s : Said) (left : List Element) (n : List ℤ) (xs : List Element) → Meets said (s.element ∷ left) n xs
    → Meets (said ++ s ∷ []) left n xs
meets_more [] s left n [] h = cc
meets_more [] s left n (x ∷ xs) h = let e : x ≡ s.element = cc in let f : xs ≡ left = cc in (e, λ a. f)
meets_more (t ∷ said) s left n [] h = h
meets_more (t ∷ said) s left n (x ∷ xs) h = (h.0, λ a. meets_more said s left n xs (h.1 a))

-- if all agrees, that is the list
pub meets_all : (said : List Said) (left : List Element) (n : List ℤ) (xs : List Element) → Agrees said n → Meets said left n xs
    → xs ≡ map (λ (s : Said). s.element) said ++ left
meets_all [] left n xs a h = h
meets_all (s ∷ said) left n [] a h = absurd h
meets_all (s ∷ said) left n (x ∷ xs) a h = rw (h.0, meets_all said left n xs a.1 (h.1 a.0))

-- a further number
pub agrees_put : (said : List Said) (cell : ℕ) (n : List ℤ) (z : ℤ) → AreBelow cell said → Agrees said n → Agrees said (slice_set n cell z)
agrees_put [] cell n z b a = tt
agrees_put (s ∷ said) cell n z b a = (get_or-set_other n cell s.element.cell z (pos 0) (λ e. omega arith) ∙ a.0, agrees_put said cell n z b.1 a.1)

-- what is said of cells above leaves what was said below
pub agrees_kept : (said more : List Said) (cell : ℕ) (n : List ℤ) → AreBelow cell said → AreFrom cell more → Agrees said n → Agrees said (put_all n more)
agrees_kept said [] cell n b f a = a
agrees_kept said (s ∷ more) cell n b f a = agrees_kept said more cell _ b f.1 (agrees_put said _ n _ (all_more said b (λ t lt. omega arith)) a)

pub put_more : (n : List ℤ) (said more : List Said) → put_all n (said ++ more) ≡ put_all (put_all n said) more
put_more n [] more = refl
put_more n (s ∷ said) more = put_more (slice_set n s.element.cell s.number) said more

-- what was taken for what was said
abbrev pub taken_of : Said → Taken
taken_of s = record { demand = ForNumber s.element; line = said_line s }

abbrev pub all_taken : List Said → List Taken
all_taken said = map (λ (s : Said). taken_of s) said

pub moved_none : (line : ℕ) (text : List ℕ) → Moved line text [] line text
moved_none line text = record { further = omega arith; texts = refl; fine = tt }

pub moved_one : (line : ℕ) (text : List ℕ) (t : Taken) (rest : List ℕ) → text ≡ t.line ++ 10 ∷ rest → reason_for t.demand (Some (t.line, [])) ≡ None
    → Moved line text (t ∷ []) (suc line) rest
moved_one line text t rest e f = record { further = omega arith; texts = cc (append_assoc t.line (10 ∷ []) rest); fine = (f, tt) }

pub moved_then : {line line' line'' : ℕ} {text text' text'' : List ℕ} {taken more : List Taken} → Moved line text taken line' text'
    → Moved line' text' more line'' text'' → Moved line text (taken ++ more) line'' text''
moved_then {text'' = text''} {taken = taken} {more = more} f g = record {
  further = omega (arith, length-append taken more);
  texts = f.texts ∙ rw (g.texts, map-append (λ (t : Taken). t.line) taken more, text_append _ _)
      (sym (append_assoc (text_of (lines_of taken)) _ text''));
  fine = all_both _ taken more f.fine g.fine;
}

-- numbers of at most 64 bits were said
abbrev pub AreShortSaid : List Said → Type 0
AreShortSaid = AllByRecursion (λ s. IsShort s.number)

-- what lines said, about cells from one on
pub record Told (low : ℕ) (before : List ℤ) (said : List Said) (after : List ℤ) : Type 0 where
  pub agrees : Agrees said after
  pub from : AreFrom low said
  pub numbers : after ≡ put_all before said
  pub long : length after ≡ length before
  pub short : AreShortSaid said

pub told_none : (low : ℕ) (n : List ℤ) → Told low n [] n
told_none low n = record { agrees = tt; from = tt; numbers = refl; long = refl; short = tt }

pub told_both : {low high : ℕ} {n m k : List ℤ} {said more : List Said} → Told low n said m → Told high m more k → low ≤ high → AreBelow high said
    → Told low n (said ++ more) k
told_both {low = low} {high = high} {n = n} {m = m} {k = k} {said = said} {more = more} f g le below = record {
  agrees = all_both _ said more (rw g.numbers (agrees_kept said more high m below g.from f.agrees)) g.agrees;
  from = all_both _ said more f.from (all_more more g.from (λ s ge. omega arith));
  numbers = rw (g.numbers, f.numbers) (sym (put_more n said more));
  long = cc;
  short = all_both _ said more f.short g.short;
}

-- ---- which cells have a line, by what was said: A cell about which nothing was said is unchanged.

-- whether something was said of a cell
abbrev pub has_said : List Said → ℕ → Bool
has_said [] c = false
has_said (s ∷ said) c = (s.element.cell == c) || has_said said c

pub said_both : (said more : List Said) (c : ℕ) → has_said (said ++ more) c ≡ (has_said said c || has_said more c)
said_both [] more c = refl
said_both (s ∷ said) more c = grind (arith, or_assoc, said_both said more c)

pub lines_both : (es fs : List Entry) (c : ℕ) → has_line (es ++ fs) c ≡ (has_line es c || has_line fs c)
lines_both [] fs c = refl
lines_both (e ∷ es) fs c = grind (arith, or_assoc, lines_both es fs c)

-- the elements of what was said have lines of these cells
pub lines_said : (n : List ℤ) (said : List Said) (c : ℕ) → has_line (map (λ x. OfNumber x n) (map (λ (s : Said). s.element) said)) c ≡ has_said said c
lines_said n [] c = refl
lines_said n (s ∷ said) c = rw (lines_said n said c)

pub unsaid_kept : (n : List ℤ) (said : List Said) (c : ℕ) → has_said said c ≡ false → get_or (put_all n said) c (pos 0) ≡ get_or n c (pos 0)
unsaid_kept n [] c e = refl
unsaid_kept n (s ∷ said) c e =
    let p = or_parts (s.element.cell == c) (has_said said c) e in
    unsaid_kept (slice_set n s.element.cell s.number) said c p.1
    ∙ get_or-set_other n s.element.cell c s.number (pos 0) (λ same. let e = eq-eqb s.element.cell c (sym same) in cc)

-- ---- one line: what it says, or why it is refused

-- the element of a number, under a path
abbrev pub spot : List (ℕ × ℕ) → List ℕ → Bool → ℕ → Cell → Element
spot steps path present at c = record { path = steps; name = path; cell = at; what = Number c; counted = true; present = present }

abbrev pub cell_line : Bool → ℕ → Cell → CellLine
cell_line present at c = record { cell = at; kind = c.kind; capacities = c.capacities; default = c.default; present = present }

-- a line was taken, which said this number
pub record Put (x : Element) (p q : Standing) : Type 0 where
  pub number : ℤ
  pub rest : p.rest ≡ said_line (record { element = x; number = number }) ++ 10 ∷ q.rest
  pub line : q.line ≡ suc p.line
  pub numbers : q.numbers ≡ slice_set p.numbers x.cell number
  pub fine : line_reason (OfNumber x []) (said_line (record { element = x; number = number })) ≡ None
  pub short : IsShort number

-- a line was refused
pub record NotPut (x : Element) (p : Standing) (o : Option (List ℕ × List ℕ)) (e : BadLine) : Type 0 where
  pub line : e.line ≡ p.line
  pub bad : wanted_reason (OfNumber x []) o ≡ Some e.reason

abbrev pub Stepped : Element → Standing → Option (List ℕ × List ℕ) → Read → Type 0
Stepped x p o (Ok q) = Put x p q
Stepped x p o (Err e) = NotPut x p o e

-- a number in the range of a kind has at most 64 bits
pub short : (kind : Kind) (z : ℤ) → in_range kind z ≡ true → IsShort z
short kind z e = grind (arith, ranges)

module _ (steps : List (ℕ × ℕ)) (path : List ℕ) (present : Bool) (at : ℕ) (c : Cell) (p : Standing) where
  abbrev here : Element
  here = spot steps path present at c

  abbrev its : CellLine
  its = cell_line present at c

  abbrev front : List ℕ
  front = path ++ codes " = "

  module _ (line rest : List ℕ) (splits : p.rest ≡ line ++ 10 ∷ rest) (begins : begins_with front line ≡ true) where
    abbrev text : List ℕ
    text = drop (length front) line

    wanted : (o : Option ℤ) → number_spelled text ≡ o → wanted_reason (OfNumber here []) (Some (line, rest)) ≡ spelled_reason c present o
    wanted o e = rw (begins, e)

    refused : (z : ℤ) (reason : Rattle.vms_spec.specs.declared.ValuesReason.ValuesReason) → number_spelled text ≡ Some z
        → number_reason c present z ≡ Some reason → NotPut here p (Some (line, rest)) (record { line = p.line; reason = reason })
    refused z reason e f = record { line = refl; bad = wanted _ e ∙ f }

    taken : (z : ℤ) → number_spelled text ≡ Some z → in_range c.kind z ≡ true → number_reason c present z ≡ None
        → Put here p (record { numbers = slice_set p.numbers at z; line = suc p.line; rest = rest })
    taken z e range f =
        let whole : line ≡ path ++ (codes " = " ++ signed_decimal z) =
        cc (begun front line begins, spelled_holds text z (short c.kind z range) e, append_assoc path (codes " = ") _) in
        record {
          number = z;
          rest = cc;
          line = refl;
          numbers = refl;
          fine = rw (sym whole) (wanted _ e ∙ f);
          short = short c.kind z range;
        }

    -- by the three tests on a number
    judged : (z : ℤ) → number_spelled text ≡ Some z → (a b d : Bool) → in_range c.kind z ≡ a → exceeds c.capacities z ≡ b
        → (present || same_number z c.default) ≡ d → Stepped here p (Some (line, rest)) (put_number its p rest (Some z))
    judged z e false b d ra eb pd = rw ra (refused z reasons.Number e (rw ra))
    judged z e true true d ra eb pd = rw (ra, eb) (refused z reasons.Count e (rw (ra, eb)))
    judged z e true false false ra eb pd = rw (ra, eb, pd) (refused z reasons.Absent e (rw (ra, eb, pd)))
    judged z e true false true ra eb pd = rw (ra, eb, pd) (taken z e ra (rw (ra, eb, pd)))

    spelled : (o : Option ℤ) → number_spelled text ≡ o → Stepped here p (Some (line, rest)) (put_number its p rest o)
    spelled None e = record { line = refl; bad = wanted None e }
    spelled (Some z) e = judged z e _ _ _ refl refl refl

  by_front : (line rest : List ℕ) → p.rest ≡ line ++ 10 ∷ rest → (b : Bool) → begins_with front line ≡ b
      → Stepped here p (Some (line, rest)) (put_line path its p (Some (line, rest)))
  by_front line rest splits true e = rw e (spelled line rest splits e _ refl)
  by_front line rest splits false e = rw e (record { line = refl; bad = rw e refl })

  by_line : (o : Option (List ℕ × List ℕ)) → first_line p.rest ≡ o → Stepped here p o (put_line path its p o)
  by_line None e = record { line = refl; bad = refl }
  by_line (Some (line, rest)) e = by_front line rest (line_splits p.rest line rest e) _ refl

  pub one_line : Stepped here p (first_line p.rest) (put_line path its p (first_line p.rest))
  one_line = by_line _ refl

-- ---- Reading line by line, beside the elements of a state by its numbers.

-- the number of a cell is settled by what was said
pub record Knows (said : List Said) (c : ℕ) : Type 0 where
  pub known : (m n : List ℤ) → Agrees said m → Agrees said n → get_or m c (pos 0) ≡ get_or n c (pos 0)

abbrev pub AllKnown : List ℕ → List Said → Type 0
AllKnown [] said = Unit {0}
AllKnown (c ∷ cells) said = Knows said c × AllKnown cells said

abbrev said_of : (x : Element) (p q : Standing) → Put x p q → Said
said_of x p q put = record { element = x; number = put.number }

told_one : (x : Element) (p q : Standing) (put : Put x p q) → x.cell < length p.numbers → Told x.cell p.numbers (said_of x p q put ∷ []) q.numbers
told_one x p q put inside =
    rw put.numbers
    (record {
      agrees = (get_or-set_same p.numbers x.cell put.number (pos 0) inside, tt);
      from = (omega arith, tt);
      numbers = refl;
      long = length-set p.numbers x.cell put.number;
      short = (put.short, tt);
    })

-- total: the elements of a state by its numbers; start: where reading began; low: the first of their cells
module _ (total : List ℤ → List Element) (start : Standing) (low : ℕ) where
  -- Once this was said, this is left of each state that agrees with it. What is said from here on is of cells from this one on.
  pub record At (cell : ℕ) (p : Standing) (said : List Said) (left : List ℤ → List Element) : Type 0 where
    pub meets : (m : List ℤ) → Meets said (left m) m (total m)
    pub below : AreBelow cell said
    pub up : low ≤ cell
    pub told : Told low start.numbers said p.numbers
    pub open told use *
    pub moved : Moved start.line start.rest (all_taken said) p.line p.rest

  -- a line was refused where an element must be
  pub record Stopped (e : BadLine) : Type 0 where
    pub cell : ℕ
    pub place : Standing
    pub said : List Said
    pub element : Element
    pub after : List ℤ → List Element
    pub stood : At cell place said (λ m. element ∷ after m)
    pub line : e.line ≡ place.line
    pub wrong : wanted_reason (OfNumber element []) (first_line place.rest) ≡ Some e.reason

  -- more was said, and these cells are known
  pub record Further (cell : ℕ) (known : List ℕ) (before : List Said) (left : List ℤ → List Element) (q : Standing) : Type 0 where
    pub said : List Said
    pub stands : At cell q said left
    pub grows : (m : List ℤ) → Agrees said m → Agrees before m
    pub knows : AllKnown known said

  abbrev pub ComesTo : ℕ → List ℕ → List Said → (List ℤ → List Element) → Read → Type 0
  ComesTo cell known before left (Ok q) = Further cell known before left q
  ComesTo cell known before left (Err e) = Stopped e

  pub record Comes (cell : ℕ) (known : List ℕ) (before : List Said) (left : List ℤ → List Element) (r : Read) : Type 0 where
    pub comes : ComesTo cell known before left r

  pub at_left : {cell : ℕ} {p : Standing} {said : List Said} {left left' : List ℤ → List Element} → ((m : List ℤ) → Agrees said m → left m ≡ left' m)
      → At cell p said left → At cell p said left'
  at_left {said = said} e a = record { meets = λ m. meets_left said _ _ m _ (a.meets m) (e m); below = a.below; up = a.up; told = a.told; moved = a.moved }

  pub stay : {cell further : ℕ} {p : Standing} {said : List Said} {left : List ℤ → List Element} → cell ≤ further → At cell p said left
      → Comes further [] said left (Ok p)
  stay {cell = cell} {further = further} {p = p} {said = said} {left = left} le a =
      let below : AreBelow further said = all_more said a.below (λ s lt. omega arith) in
      let stands : At further p said left = record { meets = a.meets; below = below; up = omega arith; told = a.told; moved = a.moved } in
      record { comes = record { said = said; stands = stands; grows = λ m g. g; knows = tt } }

  earlier : {cell : ℕ} {known : List ℕ} {before said : List Said} {left : List ℤ → List Element} (r : Read) → ((m : List ℤ) → Agrees said m → Agrees before m)
      → Comes cell known said left r → Comes cell known before left r
  earlier (Ok q) g c = let f = c.comes in record { comes = record { said = f.said; stands = f.stands; grows = λ m a. g m (f.grows m a); knows = f.knows } }
  earlier (Err e) g c = record { comes = c.comes }

  pub then_comes : {cell further : ℕ} {known known' : List ℕ} {before : List Said} {left left' : List ℤ → List Element} (r : Read) (f : Standing → Read)
      → Comes cell known before left r
      → ((q : Standing) (said : List Said) → At cell q said left → ((m : List ℤ) → Agrees said m → Agrees before m) → AllKnown known said
      → Comes further known' said left' (f q)) → Comes further known' before left' (r >>= f)
  then_comes (Ok q) f c h = let x = c.comes in earlier (f q) x.grows (h q x.said x.stands x.grows x.knows)
  then_comes (Err e) f c h = record { comes = c.comes }

  module _ (x : Element) (p : Standing) (said : List Said) (left : List ℤ → List Element) (room : x.cell < length start.numbers)
      (a : At x.cell p said (λ m. x ∷ left m)) where
    after_line : (q : Standing) (put : Put x p q) → At (x.cell + 1) q (said ++ said_of x p q put ∷ []) left
    after_line q put =
        let s = said_of x p q put in
        record {
          meets = λ m. meets_more said s _ m _ (a.meets m);
          below = all_both _ said _ (all_more said a.below (λ t lt. omega arith)) (omega arith, tt);
          up = omega arith;
          told = told_both a.told (told_one x p q put (omega arith)) a.up a.below;
          moved = rw (map-append (λ (s : Said). taken_of s) said (s ∷ []), put.line)
              (moved_then a.moved (moved_one p.line p.rest _ q.rest put.rest put.fine));
        }

    pub by_read : (r : Read) → Stepped x p (first_line p.rest) r → Comes (x.cell + 1) (x.cell ∷ []) said left r
    by_read (Ok q) put =
        let s = said_of x p q put in
        record {
          comes = record {
            said = said ++ s ∷ [];
            stands = after_line q put;
            grows = λ m g. (all_parts _ said (s ∷ []) g).0;
            knows = (record { known = λ m n g h. (all_parts _ said (s ∷ []) g).1.0 ∙ sym (all_parts _ said (s ∷ []) h).1.0 }, tt);
          };
        }
    by_read (Err e) not =
        record { comes = record { cell = x.cell; place = p; said = said; element = x; after = left; stood = a; line = not.line; wrong = not.bad } }
