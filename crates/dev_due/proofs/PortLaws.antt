-- The serial port's line while time passes.
use Rattle.dev_due.proofs.Facade
use Facade.{Bool, IsSentAfter, List, None, Option, Port, ReceiverState, SameLine, Shift, Some, [], advanced, advances_in_parts, ap, append-nil, arith}
use Facade.{bytes_of-timetable, cases_lt, character-positive, character_time, departures, either, false, gone, has, holding, inl, inr, interrupt, is_some}
use Facade.{le-leb, length, line_of, loops_at_moment, lt-leb, mode_of, nat_tests, received, refl, run_until, same_Some, staying, still, sym, timetable, true}
use Facade.{waits_until_due, ℕ, ⊎_elim, ◌*◌, ◌++◌, ◌+◌, ◌<◌, ◌==◌, ◌∙◌, ◌∷◌, ◌≡◌, ◌≤◌, ◌⊎◌}
use Rattle.dev_serial.specs.Port.{has_come}

-- ---- nothing leaves

sent_after : (shift : Option Shift) (c to : ℕ) → c ≤ to → IsSentAfter to shift → IsSentAfter c shift
sent_after None c to l h = tt
sent_after (Some shift) c to l h = omega arith

-- ---- the line of a port in which nothing leaves is one of time

line-same : (c to : ℕ) (port : Port) → has_come c port.receiver.timeout ≡ has_come to port.receiver.timeout → line_of c port ≡ line_of to port
unfolding line_of interrupt
line-same c to port e = rw e refl

-- ---- a span in which nothing leaves

-- from a moment on up to a later one
pub record IsSpan (port : Port) (base to : ℕ) : Type 0 where
  pub upto : base ≤ to
  pub same : (c : ℕ) → base ≤ c → c ≤ to → SameLine port c to

abbrev after : ℕ → Port → Port
after to port = (advanced to port).1

-- nothing leaves after `base` up to `c`
stays : (base c : ℕ) (port : Port) → base ≤ c → IsSentAfter c (after base port).transmitter.shift → advanced c port ≡ advanced base port
stays base c port l h =
    advances_in_parts base c port l ∙ ap (λ (x : List ℕ × Port). ((advanced base port).0 ++ x.0, x.1)) (still c (after base port) h)
    ∙ ap (λ (xs : List ℕ). (xs, after base port)) (append-nil (advanced base port).0)

module _ (base to : ℕ) (port : Port) (l : base ≤ to) (h : IsSentAfter to (after base port).transmitter.shift) where
  abbrev p : Port
  p = after base port

  at : (c : ℕ) → base ≤ c → c ≤ to → advanced c port ≡ advanced base port
  at c low high = stays _ _ _ low (sent_after _ _ _ high h)

  one : (c : ℕ) → base ≤ c → c ≤ to → has_come c p.receiver.timeout ≡ has_come to p.receiver.timeout → SameLine port c to
  one c low high e = record {
    line = cc (at c low high, line-same c to p e, at to l (omega arith));
    sent = ap (λ (x : List ℕ × Port). x.0) (at c low high ∙ sym (at to l (omega arith)));
  }

  -- a span begins at the base, or where the port's timeout comes
  pub record Begins : Type 0 where
    pub begin : ℕ
    pub from : base ≤ begin
    pub is : (begin ≡ base) ⊎ (p.receiver.timeout ≡ Some begin)
    pub span : IsSpan port begin to

  at-base : ((c : ℕ) → base ≤ c → c ≤ to → has_come c p.receiver.timeout ≡ has_come to p.receiver.timeout) → Begins
  at-base same = record { begin = base; from = omega arith; is = inl refl; span = record { upto = l; same = λ c low high. one _ low high (same c low high) } }

  begins-by : (timeout : Option ℕ) → p.receiver.timeout ≡ timeout → Begins
  begins-by None e = at-base (λ c low high. rw e refl)
  begins-by (Some timeout) e = ⊎_elim (λ (f : to < timeout). at-base (λ c low high. rw e (grind (arith, nat_tests))))
      (λ (f : timeout ≤ to). ⊎_elim (λ (g : base < timeout). record {
        begin = timeout;
        from = omega arith;
        is = inr e;
        span = record { upto = f; same = λ c low high. one _ (omega arith) high (rw e (grind (arith, nat_tests))) };
      })
      (λ (g : timeout ≤ base). at-base (λ c low high. rw e (grind (arith, nat_tests)))) (cases_lt base timeout)) (cases_lt to timeout)

  pub begins : Begins
  begins = begins-by p.receiver.timeout refl

-- ---- a byte leaves the shift register

next-stays : (character due : ℕ) (bytes : List ℕ) → 1 ≤ character
    → staying due (timetable character (due + character) bytes) ≡ timetable character (due + character) bytes
unfolding staying timetable
next-stays character due [] h = refl
next-stays character due (byte ∷ bytes) h = rw (lt-leb (due + character) due (omega arith)) refl

-- what the shift register and the list hold then
sent-transmitter : (port : Port) (shift : Shift) → port.transmitter.shift ≡ Some shift
    → (after shift.due port).transmitter ≡ holding
    (timetable (character_time port.divisor port.lcr) (shift.due + character_time port.divisor port.lcr) port.transmitter.waiting)
unfolding advanced run_until departures timetable staying
sent-transmitter port shift e = grind (arith, next-stays, character-positive)

-- and a timeout of the receiver that took it in
abbrev IsTimeout : Option ℕ → ℕ → Option ℕ → Type 0
IsTimeout old new timeout = (timeout ≡ old) ⊎ (timeout ≡ Some new)

received-timeout : (port : Port) (byte at : ℕ) (receiver : ReceiverState)
    → IsTimeout receiver.timeout (at + 4 * character_time port.divisor port.lcr) (received (mode_of port) byte at receiver).timeout
unfolding received
received-timeout port byte at receiver = grind (arith, is_some, either)

sent-timeout : (port : Port) (shift : Shift) → has port.mcr 4 ≡ true → port.transmitter.shift ≡ Some shift
    → IsTimeout port.receiver.timeout (shift.due + 4 * character_time port.divisor port.lcr) (after shift.due port).receiver.timeout
sent-timeout port shift l e = rw ((loops_at_moment port shift l e).1) (received-timeout port shift.byte shift.due port.receiver)

-- without loop mode the byte leaves
pub leaves : (port : Port) (shift : Shift) → has port.mcr 4 ≡ false → port.transmitter.shift ≡ Some shift → (length (advanced shift.due port).0 == 0) ≡ false
unfolding advanced departures timetable gone
leaves port shift l e = rw (l, e, le-leb shift.due shift.due (omega arith)) (grind (arith, nat_tests))

-- ---- where spans begin

-- the moments of a port: the present one, the timeout, when a byte leaves the shift register, and when a timeout that begins then ends
abbrev pub IsBase : Port → (now base : ℕ) → Type 0
IsBase port now base =
    (base ≡ now) ⊎ ((port.receiver.timeout ≡ Some base)
    ⊎ ((shift : Shift) × (port.transmitter.shift ≡ Some shift) × ((k : ℕ) × (k ≤ length port.transmitter.waiting)
    × ((base ≡ shift.due + k * character_time port.divisor port.lcr)
    ⊎ (base ≡ shift.due + k * character_time port.divisor port.lcr + 4 * character_time port.divisor port.lcr)))))

-- a span of time up to a moment begins at one of them
pub record Covers (port : Port) (now to : ℕ) : Type 0 where
  pub base : ℕ
  pub from : now ≤ base
  pub is : IsBase port now base
  pub span : IsSpan port base to

-- a span that begins at a base, or where the timeout comes
cover-from : (base to : ℕ) (port : Port) (now : ℕ) → base ≤ to → IsSentAfter to (after base port).transmitter.shift → now ≤ base → IsBase port now base
    → ((begin : ℕ) → (after base port).receiver.timeout ≡ Some begin → IsBase port now begin) → Covers port now to
cover-from base to port now l h from here timed =
    let b = begins _ _ port l h in
    let is : IsBase port now b.begin = ⊎_elim (λ own. rw own here) (timed b.begin) b.is in
    record { base = b.begin; from = let later = b.from in omega arith; is = is; span = b.span }

-- a timeout is that of the port, or one that began with one of the first k bytes that left
abbrev IsSince : Port → Shift → (k : ℕ) → Option ℕ → Type 0
IsSince port shift k timeout =
    (timeout ≡ port.receiver.timeout)
    ⊎ ((j : ℕ) × (j < k) × (timeout ≡ Some (shift.due + j * character_time port.divisor port.lcr + 4 * character_time port.divisor port.lcr)))

module _ (port : Port) (shift : Shift) (k : ℕ) where
  abbrev time : ℕ
  time = character_time port.divisor port.lcr

  -- that of a port after one more byte left
  since-next : (old new : Option ℕ) (at : ℕ) → at ≡ shift.due + k * time + 4 * time → IsSince port shift k old → IsTimeout old at new
      → IsSince port shift (k + 1) new
  since-next old new at d (inl own) (inl same) = inl (same ∙ own)
  since-next old new at d (inr (j, below, is)) (inl same) = inr (j, omega arith, same ∙ is)
  since-next old new at d since (inr same) = inr (k, omega arith, same ∙ ap (λ (n : ℕ). Some n) d)

module _ (port : Port) (now to : ℕ) (looped : has port.mcr 4 ≡ true) (shift : Shift) (sends : port.transmitter.shift ≡ Some shift) where
  abbrev character : ℕ
  character = character_time port.divisor port.lcr

  -- a timeout of these is one of the port's moments
  since-base : (k : ℕ) (timeout : Option ℕ) (base : ℕ) → k ≤ length port.transmitter.waiting + 1 → timeout ≡ Some base → IsSince port shift k timeout
      → IsBase port now base
  since-base k timeout base h e (inl own) = inr (inl (sym own ∙ e))
  since-base k timeout base h e (inr (j, below, is)) = inr (inr (shift, sends, (j, omega arith, inr (same_Some base _ (sym e ∙ is)))))

  -- a port in loop mode after k bytes left, and at which moment: it holds the rest
  record Reached (k : ℕ) (base : ℕ) (p : Port) : Type 0 where
    is : p ≡ after base port
    loops : has p.mcr 4 ≡ true
    time : character_time p.divisor p.lcr ≡ character
    from : now ≤ base
    begins_there : IsBase port now base
    few : k ≤ length port.transmitter.waiting + 1
    timeout : IsSince port shift k p.receiver.timeout

  -- a span that begins at this moment, or where the timeout comes
  covered : (k base : ℕ) (p : Port) → Reached k base p → base ≤ to → IsSentAfter to p.transmitter.shift → Covers port now to
  covered k base p r l h =
      cover-from _ _ _ _ l (rw (r.is) at h) r.from r.begins_there
      (λ begin e. since-base _ _ _ r.few (ap (λ (q : Port). q.receiver.timeout) r.is ∙ e) r.timeout)

  -- the port after k bytes left, of which the next is due at its moment, and which holds these bytes still
  record Holds (k : ℕ) (bytes : List ℕ) (p : Port) : Type 0 where
    transmitter : p.transmitter ≡ holding (timetable character (shift.due + k * character) bytes)
    all : length bytes + k ≡ length port.transmitter.waiting + 1

  -- one more byte leaves
  next-reached : (k base due : ℕ) (p : Port) (first : Shift) → Reached k base p → p.transmitter.shift ≡ Some first → first.due ≡ shift.due + k * character
      → k ≤ length port.transmitter.waiting
      → base ≤ first.due → Reached (k + 1) first.due (after first.due p)
  unfolding advanced
  next-reached k base due p first r e d few later = record {
    is = cc (advances_in_parts base first.due port later);
    loops = r.loops;
    time = r.time;
    from = omega arith;
    begins_there = inr (inr (shift, sends, (k, few, inl d)));
    few = omega arith;
    timeout = since-next port shift k p.receiver.timeout _ _ (ap (λ (d : ℕ). d + 4 * character_time p.divisor p.lcr) d ∙ ap (λ (c : ℕ). shift.due + k * character + 4 * c) r.time) r.timeout (sent-timeout p first r.loops e);
  }

  none-shift : (due : ℕ) → (holding (timetable character due [])).shift ≡ None
  unfolding holding timetable
  none-shift due = refl

  first-shift : (due byte : ℕ) (bytes : List ℕ) → (holding (timetable character due (byte ∷ bytes))).shift ≡ Some (record { byte = byte; due = due })
  unfolding holding timetable
  first-shift due byte bytes = refl

  first-waiting : (due byte : ℕ) (bytes : List ℕ) → (holding (timetable character due (byte ∷ bytes))).waiting ≡ bytes
  unfolding holding timetable
  first-waiting due byte bytes = bytes_of-timetable character (due + character) bytes

  -- by induction on the bytes that are still held
  cover-loop : (bytes : List ℕ) (k base : ℕ) (p : Port) → Reached k base p → Holds k bytes p → base ≤ to → base ≤ shift.due + k * character → Covers port now to
  cover-loop [] k base p r h l later = covered _ _ _ r l (rw (h.transmitter, none-shift (shift.due + k * character)) tt)
  cover-loop (byte ∷ bytes) k base p r h l later =
      let due = shift.due + k * character in
      let first : Shift = record { byte = byte; due = due } in
      let e : p.transmitter.shift ≡ Some first = cc (first-shift due byte bytes) in
      ⊎_elim (λ (f : to < due). covered k base p r l (rw e f)) (λ (f : due ≤ to).
      cover-loop bytes (k + 1) due (after due p) (next-reached _ _ due _ _ r e refl (omega arith) later) (record {
        transmitter = let next : due + character ≡ shift.due + (k + 1) * character = omega arith in
            cc (sent-transmitter p first e, r.time, next, first-waiting due byte bytes);
        all = omega arith;
      }) f (omega arith)) (cases_lt to due)

  whole : port.transmitter ≡ holding (timetable character (shift.due + 0 * character) (shift.byte ∷ port.transmitter.waiting))
  unfolding holding timetable
  whole = grind (arith, bytes_of-timetable)

  -- from the present moment
  cover-now : now ≤ to → now < shift.due → Covers port now to
  cover-now l h =
      cover-loop (shift.byte ∷ port.transmitter.waiting) 0 _ port (record {
        is = sym (ap (λ (x : List ℕ × Port). x.1) (waits_until_due now port shift sends h));
        loops = looped;
        time = refl;
        from = omega arith;
        begins_there = inl refl;
        few = omega arith;
        timeout = inl refl;
      }) (record { transmitter = whole; all = omega arith }) l (omega arith)

-- a byte leaves at a moment not after this one
pub record LeavesBy (port : Port) (to : ℕ) : Type 0 where
  pub shift : Shift
  pub sends : port.transmitter.shift ≡ Some shift
  pub by : shift.due ≤ to
  pub some : (length (advanced shift.due port).0 == 0) ≡ false

-- nothing leaves up to a moment
at-once : (port : Port) (now to : ℕ) → now ≤ to → IsSentAfter to port.transmitter.shift → Covers port now to
at-once port now to l h =
    let same : after now port ≡ port = ap (λ (x : List ℕ × Port). x.1) (still now port (sent_after _ _ _ l h)) in
    cover-from _ _ _ _ l (rw same h) (omega arith) (inl refl) (λ begin e. inr (inl (rw same at e)))

by-mode : (looped : Bool) (port : Port) (now to : ℕ) (shift : Shift) → has port.mcr 4 ≡ looped → port.transmitter.shift ≡ Some shift → now ≤ to
    → now < shift.due → shift.due ≤ to → Covers port now to ⊎ LeavesBy port to
by-mode true port now to shift l e h d f = inl (cover-now _ _ _ l _ e h d)
by-mode false port now to shift l e h d f = inr (record { shift = shift; sends = e; by = f; some = leaves _ _ l e })

by-shift : (shift : Option Shift) (port : Port) (now to : ℕ) → port.transmitter.shift ≡ shift → now ≤ to → IsSentAfter now shift
    → Covers port now to ⊎ LeavesBy port to
by-shift shift port now to e h d = grind (arith, at-once, by-mode)

-- up to any moment the line stays from one of the port's moments on, or a byte left
pub covers : (port : Port) (now to : ℕ) → now ≤ to → IsSentAfter now port.transmitter.shift → Covers port now to ⊎ LeavesBy port to
covers port now to h d = by-shift _ _ _ _ refl h d
