-- The subsections of a device, read as entries.
use Rattle.vms_values_laws.proofs.{Facade.Desc, SecondPass.along_then}
use Rattle.vms_values_laws.proofs.Facade.{all_parts, ◌≡◌, ℕ, suc, ◌+◌, ◌≤◌, List, ◌∷◌, ◌++◌, length, map, Option, Some, None, ℤ}
use Rattle.vms_values_laws.proofs.Facade.{Ok, Err, AllByRecursion, Result, refl, sym, ap, ◌∙◌, arith, append_assoc, [], length-append, length-map}
use Rattle.vms_values_laws.proofs.Facade.{flat_map, bytes_eq-Decides, Sub, Device, Set, desc_cells, struct_cells, Image, first_line, Standing, Read, BadLine}
use Rattle.vms_values_laws.proofs.Facade.{ReadSubs, read_subs, read_sub, sub_said, also, then_subs, next_line, rest_of, IsSound, AreSound, line_splits}
use Rattle.vms_values_laws.proofs.Facade.{sub_line, Entry, OfSub, number_entries, subs_entries, has_line, IsAtVersion, AreAtVersions, Said, Agrees, Demand}
use Rattle.vms_values_laws.proofs.Facade.{ForSub, ForNumber, reason_for, Taken, Follows, Along, Begins, Moved}
use Rattle.vms_values_laws.proofs.SaidLaws.{all_taken, moved_none, moved_one, moved_then, Told, told_none, told_both, has_said}
use Rattle.vms_values_laws.proofs.SecondPass.{AreShort, NumbersRead, NumbersStop, NumbersCome, numbers_come, heard_on, lines_on, sub_numbers, follows_then}
use Rattle.vms_spec.specs.declared.ValuesReason.TheVariants as reasons

pub line_taken : (text line rest : List ℕ) → first_line text ≡ Some (line, rest) → text ≡ line ++ 10 ∷ rest_of (first_line text)
line_taken text line rest e = line_splits text line rest e ∙ rw e

-- what a line says of a subsection
pub record SaidSub (s : Sub) (o : Option (List ℕ × List ℕ)) (came : Option ℕ) : Type 0 where
  pub rest : List ℕ
  pub is : o ≡ Some (sub_line s came, rest)
  pub fine : reason_for (ForSub s) (Some (sub_line s came, [])) ≡ None
  pub version : IsAtVersion s came

-- or why it says nothing
abbrev SubLine : Sub → Option (List ℕ × List ℕ) → Option (Option ℕ) → Type 0
SubLine s o None = reason_for (ForSub s) o ≡ Some reasons.Form
SubLine s o (Some came) = SaidSub s o came

said_by : (s : Sub) (line rest : List ℕ) (came : Option ℕ) → line ≡ sub_line s came → reason_for (ForSub s) (Some (line, [])) ≡ None → IsAtVersion s came
    → SaidSub s (Some (line, rest)) came
said_by s line rest came is fine version = record { rest = rest; is = rw is; fine = rw is at fine; version = version }

sub_line_is : (s : Sub) (o : Option (List ℕ × List ℕ)) → SubLine s o (sub_said s o)
sub_line_is s None = refl
sub_line_is s (Some (line, rest)) = grind (arith, said_by, bytes_eq-Decides)

-- What was said and taken up to a place. The entries follow on what was taken, whichever subsections have come and whatever comes after them.
-- Those that have come have its lines.
pub record Went (es : Image → List (Option ℕ) → List Entry) (subs : List Sub) (at : ℕ) (p : Standing) (came : List (Option ℕ)) (numbers : List ℤ) (line : ℕ)
    (rest : List ℕ) (Then : List Entry → List Entry → Type 0) : Type 0 where
  pub said : List Said
  pub taken : List Taken
  pub told : Told at p.numbers said numbers
  pub one_each : length came ≡ length subs
  pub versions : AreAtVersions subs came
  pub follows : (image : Image) (came : List (Option ℕ)) (more : List Entry) → length came ≡ length subs → AreShort image.numbers
      → Follows taken (Then more) (es image came ++ more)
  pub along : (image : Image) (more : List Entry) → Agrees said image.numbers → Along taken (Then more) (es image came ++ more)
  pub moved : Moved p.line p.rest taken line rest

-- a part that was read
pub record Got (es : Image → List (Option ℕ) → List Entry) (subs : List Sub) (at : ℕ) (p : Standing) (r : ReadSubs) : Type 0 where
  pub whole : Went es subs at p r.came r.place.numbers r.place.line r.place.rest (λ more es. es ≡ more)
  pub open whole use *
  pub heard : (image : Image) → Agrees said image.numbers → (c : ℕ) → has_line (es image r.came) c ≡ has_said said c
  pub lines : (image : Image) → Agrees said image.numbers → r.lines ≡ sub_numbers p.line (es image r.came)

-- a reading that stopped at a bad line, after what was said and taken before it
pub record Stop (es : Image → List (Option ℕ) → List Entry) (subs : List Sub) (at : ℕ) (p : Standing) (e : BadLine) : Type 0 where
  pub demand : Demand
  pub came : List (Option ℕ)
  pub numbers : List ℤ
  pub rest : List ℕ
  pub before : Went es subs at p came numbers e.line rest (λ more es. Begins demand es)
  pub wrong : reason_for demand (first_line rest) ≡ Some e.reason

abbrev pub Come : (Image → List (Option ℕ) → List Entry) → List Sub → ℕ → Standing → Result ReadSubs BadLine → Type 0
Come es subs at p (Ok r) = Got es subs at p r
Come es subs at p (Err e) = Stop es subs at p e

-- none has come
abbrev none_of : List Sub → List (Option ℕ)
none_of subs = map (λ s. None) subs

pub none_at : (subs : List Sub) → AreAtVersions subs (none_of subs)
none_at [] = tt
none_at (s ∷ subs) = (tt, none_at subs)

-- a reading that stopped at its first line
pub stopped_first : (es : Image → List (Option ℕ) → List Entry) (subs : List Sub) (at : ℕ) (p : Standing) (demand : Demand)
    → ((image : Image) (came : List (Option ℕ)) (more : List Entry) → length came ≡ length subs → Begins demand (es image came ++ more))
    → reason_for demand (first_line p.rest) ≡ Some reasons.Form → Stop es subs at p (record { line = p.line; reason = reasons.Form })
stopped_first es subs at p demand begins wrong = record {
  demand = demand;
  came = none_of subs;
  numbers = p.numbers;
  rest = p.rest;
  before = record {
    said = [];
    taken = [];
    told = told_none at _;
    one_each = length-map subs (λ s. None);
    versions = none_at subs;
    follows = λ image came more long short. begins image came more long;
    along = λ image more agrees. begins image (none_of subs) more (length-map subs (λ s. None));
    moved = moved_none p.line p.rest;
  };
  wrong = wrong;
}

abbrev pub AreSoundSubs : List Sub → Type 0
AreSoundSubs = AllByRecursion (λ (s : Sub). IsSound s.desc)

module _ (set : Set) (d : Device) where
  abbrev pub cells_long : List Sub → ℕ
  cells_long subs = length (flat_map (λ s. desc_cells (struct_cells set) s.desc) subs)

  abbrev size_of : Sub → ℕ
  size_of s = length (desc_cells (struct_cells set) s.desc)

  -- the entries of the subsections from j on, and those of the numbers of a description before them
  abbrev those : ℕ → ℕ → List Sub → Image → List (Option ℕ) → List Entry
  those j at subs image came = subs_entries set d image j at subs came

  abbrev pub behind_numbers : Desc → ℕ → ℕ → ℕ → List Sub → Image → List (Option ℕ) → List Entry
  behind_numbers desc at j next subs image came = number_entries set desc image.numbers at ++ subs_entries set d image j next subs came

  module _ (desc : Desc) (at j next : ℕ) (subs : List Sub) (p : Standing) (fits : at + length (desc_cells (struct_cells set) desc) ≡ next) where
    stopped_inside : (e : BadLine) → NumbersStop set desc at p e → Stop (behind_numbers desc at j next subs) subs at p e
    stopped_inside e n = record {
      demand = ForNumber n.element;
      came = none_of subs;
      numbers = n.place.numbers;
      rest = n.place.rest;
      before = record {
        said = n.said;
        taken = all_taken n.said;
        told = n.told;
        one_each = length-map subs (λ s. None);
        versions = none_at subs;
        follows = λ image came more long short. rw append_assoc (n.follows image.numbers (those j next subs image came ++ more) short);
        along = λ image more agrees. rw append_assoc (n.along image.numbers (those j next subs image (none_of subs) ++ more) agrees);
        moved = n.moved;
      };
      wrong = n.wrong;
    }

    abbrev went_behind : {q : Standing} {came : List (Option ℕ)} {numbers : List ℤ} {line : ℕ} {rest : List ℕ} {Then : List Entry → List Entry → Type 0}
        → NumbersRead set desc at p q → Went (those j next subs) subs next q came numbers line rest Then
        → Went (behind_numbers desc at j next subs) subs at p came numbers line rest Then
    went_behind {came = came} {Then = Then} n r = record {
      said = n.said ++ r.said;
      taken = all_taken n.said ++ r.taken;
      told = told_both n.told r.told (omega arith) (rw fits at n.below);
      one_each = r.one_each;
      versions = r.versions;
      follows = λ image came more long short.
          let later = those j next subs image came ++ more in
          rw append_assoc (follows_then _ _ (λ l. l ≡ later) _ _ (n.follows image.numbers later short)
          (λ l is. rw is (r.follows image came more long short)));
      along = λ image more agrees.
          let all = all_parts _ n.said r.said agrees in
          let later = those j next subs image came ++ more in
          rw append_assoc (along_then _ _ (λ l. l ≡ later) _ _ (n.along image.numbers later all.0)
          (λ l is. rw is (r.along image more all.1)));
      moved = moved_then n.moved r.moved;
    }

    behind : (q : Standing) (o : Result ReadSubs BadLine) → NumbersRead set desc at p q → Come (those j next subs) subs next q o
        → Come (behind_numbers desc at j next subs) subs at p o
    behind q (Ok r) n x = record {
      whole = went_behind n x.whole;
      heard = λ image agrees c.
          let all = all_parts _ n.said x.said agrees in heard_on n _ _ x.said c all.0 (x.heard image all.1 c);
      lines = λ image agrees.
          let all = all_parts _ n.said x.said agrees in x.lines image all.1 ∙ sym (lines_on n _ _ all.0);
    }
    behind q (Err e) n x = record { demand = x.demand; came = x.came; numbers = x.numbers; rest = x.rest; before = went_behind n x.before; wrong = x.wrong }

    -- the numbers of a description, and subsections after them
    pub numbers_first : (r : Read) (go : Standing → Result ReadSubs BadLine) → NumbersCome set desc at p r
        → ((q : Standing) → NumbersRead set desc at p q → Come (those j next subs) subs next q (go q))
        → Come (behind_numbers desc at j next subs) subs at p (then_subs r go)
    numbers_first r go n h = grind (arith, behind, stopped_inside)

  module _ (s : Sub) (subs : List Sub) (j at : ℕ) (p : Standing) where
    refused : reason_for (ForSub s) (first_line p.rest) ≡ Some reasons.Form
        → Stop (those j at (s ∷ subs)) (s ∷ subs) at p (record { line = p.line; reason = reasons.Form })
    refused e = stopped_first _ _ at p _ first_sub e where
      first_sub : (image : Image) (came : List (Option ℕ)) (more : List Entry) → length came ≡ suc (length subs)
          → Begins (ForSub s) (subs_entries set d image j at (s ∷ subs) came ++ more)
      first_sub image [] more long = absurd (omega arith)
      first_sub image (o ∷ came) more long = record { first = OfSub d image j s at o; others = _; is = refl; demands = refl }

    -- the line of the subsection is before its numbers
    module _ (came : Option ℕ) (head : SaidSub s (first_line p.rest) came) where
      abbrev own : Image → List (Option ℕ) → List Entry
      own = behind_numbers s.desc at (suc j) (at + size_of s) subs

      abbrev head_taken : Taken
      head_taken = record { demand = ForSub s; line = sub_line s came }

      follows_head : (taken : List Taken) (P : List Entry → Type 0) (image : Image) (came : List (Option ℕ)) (more : List Entry)
          → length came ≡ suc (length subs) → ((came : List (Option ℕ)) → length came ≡ length subs → Follows taken P (own image came ++ more))
          → Follows (head_taken ∷ taken) P (subs_entries set d image j at (s ∷ subs) came ++ more)
      follows_head taken P image came more long h = grind arith

      abbrev headed : {others : List (Option ℕ)} {numbers : List ℤ} {line : ℕ} {rest : List ℕ} {Then : List Entry → List Entry → Type 0}
          → Went own subs at (next_line p) others numbers line rest Then → Went (those j at (s ∷ subs)) (s ∷ subs) at p (came ∷ others) numbers line rest Then
      headed {Then = Then} w = record {
        said = w.said;
        taken = head_taken ∷ w.taken;
        told = w.told;
        one_each = ap suc w.one_each;
        versions = (head.version, w.versions);
        follows = λ image came more long short. follows_head w.taken (Then more) image came more long (λ came long. w.follows image came more long short);
        along = λ image more agrees. (refl, w.along image more agrees);
        moved = moved_then (moved_one p.line p.rest _ _ (line_taken p.rest _ _ head.is) head.fine) w.moved;
      }

      sub_comes : (o : Result ReadSubs BadLine) → Come own subs at (next_line p) o → Come (those j at (s ∷ subs)) (s ∷ subs) at p (also came p.line o)
      sub_comes (Ok r) x = record { whole = headed x.whole; heard = x.heard; lines = λ image agrees. rw (x.lines image agrees) }
      sub_comes (Err e) x = record { demand = x.demand; came = came ∷ x.came; numbers = x.numbers; rest = x.rest; before = headed x.before; wrong = x.wrong }

  by_head : (s : Sub) (subs : List Sub) (j at : ℕ) (p : Standing) (o : Option (Option ℕ)) → AreSound set.structs → IsSound s.desc
      → SubLine s (first_line p.rest) o → at + size_of s ≤ length p.numbers
      → ((q : Standing) → length q.numbers ≡ length p.numbers
      → Come (those (suc j) (at + size_of s) subs) subs (at + size_of s) q (read_subs set (at + size_of s) subs q))
      → Come (those j at (s ∷ subs)) (s ∷ subs) at p (read_sub set s at p o (λ q. read_subs set (at + size_of s) subs q))
  by_head s subs j at p None structs sound e here later = refused s subs j at p e
  by_head s subs j at p (Some came) structs sound e here later =
      sub_comes s subs j at p came e _
      (numbers_first s.desc at _ _ subs _ refl _ _
      (numbers_come set s.desc at _ structs sound here) (λ q n. later q n.told.long))

  pub subs_come : AreSound set.structs → (subs : List Sub) (j at : ℕ) (p : Standing) → AreSoundSubs subs → at + cells_long subs ≤ length p.numbers
      → Come (λ image came. subs_entries set d image j at subs came) subs at p (read_subs set at subs p)
  subs_come structs [] j at p sound room = record {
    whole = record {
      said = [];
      taken = [];
      told = told_none at _;
      one_each = refl;
      versions = tt;
      follows = λ image came more long short. refl;
      along = λ image more agrees. refl;
      moved = moved_none p.line p.rest;
    };
    heard = λ image agrees c. refl;
    lines = λ image agrees. refl;
  }
  subs_come structs (s ∷ subs) j at p sound room =
      let long : cells_long (s ∷ subs) ≡ size_of s + cells_long subs = length-append (desc_cells (struct_cells set) s.desc) _ in
      by_head s subs j at p _ structs sound.0 (sub_line_is s (first_line p.rest)) (omega arith)
      (λ q same. subs_come structs subs (suc j) (at + size_of s) q sound.1 (omega arith))
