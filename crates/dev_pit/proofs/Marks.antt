-- The marked ticks: OUT of a counter and its edges after a moment come at one of them.
use Rattle.dev_pit.proofs.{Facade.Counter, Facade.Turns, EdgeLaws.period-pos, EdgeLaws.period-two, EdgeLaws.ticks-mono}
use Rattle.dev_pit.proofs.Facade.{SquareWave, SoftwareStrobe, marks_of, Marks, ◌≡◌, ℕ, ◌+◌, ◌-◌, ◌*◌, ◌/◌, ◌%◌, ◌<◌, ◌≤◌}
use Rattle.dev_pit.proofs.Facade.{◌==◌, ◌⊎◌, inl, inr, true, not, refl, ap, ◌∙◌, arith, ⊎_elim, cases_lt, nat_tests, div-add-mod'}
use Rattle.dev_pit.proofs.Facade.{div-mul-add, mod-mul-add, mul-le-mul_right, nat_lt, quotient_mono, rises, out_at, period, high_part, Mode, TerminalCount}
use Rattle.dev_pit.proofs.Facade.{RateGenerator, Some, None, ticks, moment_of, AreTurns, Turned, edge_of, out_of}

-- ---- OUT of a counter, and its edges, come again at the marked ticks

-- a tick is another one, or one of the marks
abbrev pub IsMark : (k : ℕ) → Marks → ℕ → Type 0
IsMark k marks tick = (tick ≡ k) ⊎ ((tick ≡ marks.first) ⊎ ((tick ≡ marks.second) ⊎ (tick ≡ marks.third)))

-- from tick k on a marked tick not after this one has its OUT and its edge
pub record Marked (mode : Mode) (count n before k tick : ℕ) : Type 0 where
  pub at : ℕ
  pub is : IsMark k (marks_of mode n k) at
  pub from : k ≤ at
  pub not_after : at ≤ tick
  pub edge : rises mode count before at ≡ rises mode count before tick
  pub out : out_at mode count at ≡ out_at mode count tick

-- tick k itself
itself : {mode : Mode} {count n before k tick : ℕ} → k ≤ tick → rises mode count before k ≡ rises mode count before tick
    → out_at mode count k ≡ out_at mode count tick → Marked mode count n before k tick
itself l e o = record { at = _; is = inl refl; from = omega arith; not_after = l; edge = e; out = o }

-- a count of 1 of a mode with periods holds OUT high
flat-rate : (count n before k tick : ℕ) → (count == 1) ≡ true → k ≤ tick → Marked RateGenerator count n before k tick
unfolding rises out_at
flat-rate count n before k tick one l = itself l (rw one) (rw one)

flat-square : (count n before k tick : ℕ) → (count == 1) ≡ true → k ≤ tick → Marked SquareWave count n before k tick
unfolding rises out_at
flat-square count n before k tick one l = itself l (rw one) (rw one)

marked-terminal : (count before k tick : ℕ) → before ≤ k → k ≤ tick → Marked TerminalCount count (period count) before k tick
unfolding rises out_at
marked-terminal count before k tick b l =
    ⊎_elim (λ h. itself l (grind (arith, nat_tests)) (grind (arith, nat_tests)))
    (λ h. ⊎_elim
    (λ s. record { at = period count; is = inr (inl refl); from = omega arith; not_after = h; edge = grind (arith, nat_tests); out = grind (arith, nat_tests) })
    (λ s. itself l (grind (arith, nat_tests)) (grind (arith, nat_tests)))
    (cases_lt k (period count))) (cases_lt tick (period count))

marked-strobe : (count before k tick : ℕ) → before ≤ k → k ≤ tick → Marked SoftwareStrobe count (period count) before k tick
unfolding rises out_at
marked-strobe count before k tick b l =
    let n = period count in
    let second : k ≤ n → n + 1 ≤ tick → Marked SoftwareStrobe count n before k tick =
    λ s e.
    record { at = n + 1; is = inr (inr (inl refl)); from = omega arith; not_after = e; edge = grind (arith, nat_tests); out = grind (arith, nat_tests) } in
    ⊎_elim (λ h. itself l (grind (arith, nat_tests)) (grind (arith, nat_tests)))
    (λ h. ⊎_elim
    (λ s. ⊎_elim
    (λ e. record { at = n; is = inr (inl refl); from = omega arith; not_after = h; edge = grind (arith, nat_tests); out = grind (arith, nat_tests) })
    (second (omega arith))
    (cases_lt tick (n + 1)))
    (λ s. ⊎_elim (λ e. ⊎_elim (λ f. itself l (grind (arith, nat_tests)) (grind (arith, nat_tests))) (λ f. second (omega arith) f) (cases_lt tick (n + 1)))
    (λ e. itself l (grind (arith, nat_tests)) (grind (arith, nat_tests)))
    (cases_lt k (n + 1)))
    (cases_lt k n)) (cases_lt tick n)

-- ---- periods

neither_is : (first second last : ℕ) → first < last → second < last → (first == last) ≡ (second == last)
neither_is first second last h l = grind (arith, nat_tests)

both_below : (first second high : ℕ) → first < high → second < high → nat_lt first high ≡ nat_lt second high
both_below first second high h l = grind (arith, nat_tests)

none_below : (first second high : ℕ) → high ≤ first → high ≤ second → nat_lt first high ≡ nat_lt second high
none_below first second high h l = grind (arith, nat_tests)

-- a place in a period
record IsAt (n q r at : ℕ) : Type 0 where
  quotient : at / n ≡ q
  rest : at % n ≡ r

place : (n q r at : ℕ) → r < n → at ≡ q * n + r → IsAt n q r at
place n q r at h e = record { quotient = rw e (div-mul-add q n r h); rest = rw e (mod-mul-add q n r h) }

-- the marks of the two modes with periods, of tick k
module _ (count n before k tick : ℕ) (is_n : n ≡ period count) (b : before ≤ k) (l : k ≤ tick) where
  positive : 0 < n
  positive = rw is_n (period-pos count)

  old : before / n ≤ k / n
  old = quotient_mono n before k positive b

  -- place r of the next period, if that isn't after the tick
  record Next (r at : ℕ) : Type 0 where
    rest : at % n ≡ r
    grew : nat_lt (before / n) (at / n) ≡ nat_lt (before / n) (tick / n)
    from : k ≤ at
    not_after : at ≤ tick

  next : (r at : ℕ) → r < n → at ≡ k / n * n + n + r → k / n < tick / n → r ≤ tick % n → Next r at
  next r at h e q f =
      let is : IsAt n (k / n + 1) r at = place n (k / n + 1) r at h (omega arith) in
      let whole : (k / n + 1) * n ≤ tick / n * n = mul-le-mul_right n (omega arith) in
      record {
        rest = is.rest;
        grew = grind (arith, nat_tests, is.quotient, old, q);
        from = omega (arith, div-add-mod' k n);
        not_after = omega (arith, div-add-mod' tick n, whole);
      }

  on : {mode : Mode} {r at : ℕ} → Next r at → IsMark k (marks_of mode n k) at → rises mode count before at ≡ rises mode count before tick
      → out_at mode count at ≡ out_at mode count tick → Marked mode count n before k tick
  on here mark e o = record { at = _; is = mark; from = here.from; not_after = here.not_after; edge = e; out = o }

  rate-edge : (at : ℕ) → nat_lt (before / n) (at / n) ≡ nat_lt (before / n) (tick / n)
      → rises RateGenerator count before at ≡ rises RateGenerator count before tick
  unfolding rises
  rate-edge at e = rw (← is_n) (rw e)

  rate-out : (at : ℕ) → (at % n == n - 1) ≡ (tick % n == n - 1) → out_at RateGenerator count at ≡ out_at RateGenerator count tick
  unfolding out_at
  rate-out at e = rw (← is_n) (rw e)

  square-edge : (at : ℕ) → nat_lt (before / n) (at / n) ≡ nat_lt (before / n) (tick / n) → rises SquareWave count before at ≡ rises SquareWave count before tick
  unfolding rises
  square-edge at e = rw (← is_n) (rw e)

  square-out : (at : ℕ) → nat_lt (at % n) (high_part n) ≡ nat_lt (tick % n) (high_part n) → out_at SquareWave count at ≡ out_at SquareWave count tick
  unfolding out_at
  square-out at e = rw (← is_n) (rw e)

  -- the tick itself, or tick k, which is in the same period
  abbrev Rate : Type 0
  Rate = Marked RateGenerator count n before k tick

  abbrev Square : Type 0
  Square = Marked SquareWave count n before k tick

  -- both ticks are in one period
  rate-k : k / n ≡ tick / n → k % n < n - 1 → tick % n < n - 1 → Rate
  rate-k here h f = itself l (rate-edge k (ap (nat_lt (before / n)) here)) (rate-out k (neither_is _ _ _ h f))

  rate-last : k / n ≡ tick / n → tick % n ≡ n - 1 → Rate
  rate-last here f = search (arith, positive)

  -- the tick is in a later period
  rate-first : 2 ≤ n → k / n < tick / n → tick % n < n - 1 → Rate
  rate-first two h f =
      let at = k / n * n + n in
      let here = next 0 at (omega arith) (omega arith) h (omega arith) in
      on here (inr (inr (inl refl))) (rate-edge at here.grew) (rate-out at (neither_is _ _ _ (omega arith) f))

  rate-again : 2 ≤ n → k / n < tick / n → tick % n ≡ n - 1 → Rate
  rate-again two h f =
      let at = k / n * n + n + n - 1 in
      let here = next (n - 1) at (omega arith) (omega arith) h (omega arith) in
      on here (inr (inr (inr refl))) (rate-edge at here.grew) (rate-out at (grind (arith, nat_tests)))

  rate : 2 ≤ n → Rate
  rate two = grind (arith, quotient_mono, rate-first, rate-again, rate-k, rate-last)

  -- a square wave, high below `high_part`
  square-k : k / n ≡ tick / n → nat_lt (k % n) (high_part n) ≡ nat_lt (tick % n) (high_part n) → Square
  square-k here h = itself l (square-edge k (ap (nat_lt (before / n)) here)) (square-out k h)

  square-falls : 2 ≤ n → k / n ≡ tick / n → k % n < high_part n → high_part n ≤ tick % n → Square
  square-falls two here g f =
      let at = k / n * n + high_part n in
      let is : IsAt n (k / n) (high_part n) at = place n (k / n) (high_part n) at (omega arith) refl in
      record {
        at = at;
        is = inr (inl refl);
        from = omega (arith, div-add-mod' k n);
        not_after = omega (arith, div-add-mod' tick n, ap (λ q. q * n) here);
        edge = square-edge at (ap (nat_lt (before / n)) (is.quotient ∙ here));
        out = square-out at (none_below _ _ _ (omega arith) f);
      }

  square-first : 2 ≤ n → k / n < tick / n → tick % n < high_part n → Square
  square-first two h f =
      let at = k / n * n + n in
      let here = next 0 at (omega arith) (omega arith) h (omega arith) in
      on here (inr (inr (inl refl))) (square-edge at here.grew) (square-out at (both_below _ _ _ (omega arith) f))

  square-again : 2 ≤ n → k / n < tick / n → high_part n ≤ tick % n → Square
  square-again two h f =
      let at = k / n * n + n + high_part n in
      let here = next (high_part n) at (omega arith) refl h f in
      on here (inr (inr (inr refl))) (square-edge at here.grew) (square-out at (none_below _ _ _ (omega arith) f))

  square : 2 ≤ n → Square
  square two = grind (arith, quotient_mono, square-first, square-again, square-k, both_below, square-falls, none_below)

pub marked : (mode : Mode) (count before k tick : ℕ) → before ≤ k → k ≤ tick → Marked mode count (period count) before k tick
unfolding rises out_at
marked TerminalCount count before k tick b l = marked-terminal count before k tick b l
marked RateGenerator count before k tick b l = grind (arith, nat_tests, flat-rate, period, rate, period-two)
marked SquareWave count before k tick b l = grind (arith, nat_tests, flat-square, period, square, period-two)
marked SoftwareStrobe count before k tick b l = marked-strobe count before k tick b l
marked _ count before k tick b l = itself l refl refl

-- ---- moments

-- so many ticks have passed at the moment of a tick
pub ticks_at : (load tick : ℕ) → ticks load (moment_of load tick) ≡ tick
unfolding ticks moment_of
ticks_at load tick = omega arith

-- a tick's moment has come where as many ticks have passed
pub moment_came : (load to tick : ℕ) → load ≤ to → tick ≤ ticks load to → moment_of load tick ≤ to
unfolding ticks moment_of
moment_came load to tick h l = omega arith

-- ---- what OUT of a counter does after a moment, it has done by one of three

-- the moments of the marked ticks of a counter that was loaded
abbrev pub turns_since : (load : ℕ) → Counter → (base : ℕ) → Turns
turns_since load counter base =
    let marks = marks_of counter.mode (period counter.count) (ticks load base) in
    record { first = moment_of load marks.first; second = moment_of load marks.second; third = moment_of load marks.third }

-- of a counter that isn't loaded, OUT stays
pub stays_unloaded : (turns : Turns) (counter : Counter) (base : ℕ) → counter.loaded_at ≡ None → AreTurns turns counter base
unfolding edge_of out_of
stays_unloaded turns counter base e since to h b l = record { at = base; is = inl refl; from = omega arith; upto = l; edge = rw e; out = rw e refl }

module _ (load : ℕ) (counter : Counter) (since base to : ℕ) (loaded : counter.loaded_at ≡ Some load) (b : since ≤ base) (l : base ≤ to) where
  abbrev Mark : Type 0
  Mark = Marked counter.mode counter.count (period counter.count) (ticks load since) (ticks load base) (ticks load to)

  abbrev Done : Type 0
  Done = Turned (turns_since load counter base) counter since base to

  -- a moment with so many ticks as the one that is marked
  same-edge : (c : ℕ) (m : Mark) → ticks load c ≡ m.at → edge_of counter since c ≡ edge_of counter since to
  unfolding edge_of
  same-edge c m e = rw loaded (rw e m.edge)

  same-out : (c : ℕ) (m : Mark) → ticks load c ≡ m.at → out_of counter c ≡ out_of counter to
  unfolding out_of
  same-out c m e = rw loaded (rw e m.out)

  by_mark : load ≤ since → Mark → Done
  by_mark by m = ⊎_elim
      (λ (f : ticks load base < m.at).
      let c = moment_of load m.at in
      let there : ticks load c ≡ m.at = ticks_at load m.at in
      record {
        at = c;
        is = grind (arith, nat_tests, m.is);
        from = ⊎_elim
            (λ (g : c < base). absurd (omega (arith, ticks-mono load c base (omega arith)))) (λ (g : base ≤ c). g) (cases_lt c base);
        upto = moment_came load to m.at (omega arith) m.not_after;
        edge = same-edge c m there;
        out = same-out c m there;
      })
      (λ (f : m.at ≤ ticks load base). record {
        at = base;
        is = inl refl;
        from = omega arith;
        upto = l;
        edge = same-edge base m (omega arith);
        out = same-out base m (omega arith);
      }) (cases_lt (ticks load base) m.at)

pub turns_loaded : (load : ℕ) (counter : Counter) (base : ℕ) → counter.loaded_at ≡ Some load → AreTurns (turns_since load counter base) counter base
turns_loaded load counter base e since to h b l = grind (arith, nat_tests, by_mark, marked, ticks-mono)
