-- What is saved of a clock chip and restored from it, and the rules that it meets.
use Rattle.vms_rtc.proofs.Facade
use Facade.{◌≡◌, ℕ, zero, suc, ◌+◌, ◌<◌, ◌≤◌, ◌||◌, not, nat_le, Bool, true, false, List, [], ◌∷◌, length, map, replicate}
use Facade.{get_or, ℤ, pos, codes, Ok, refl, sym, ap, subst, ◌∙◌, arith, nat_tests, get_or-map, mc146818_rows, place_of_clock, numbers_of, Numbers, U8}
use Facade.{of_none, of_more, byte, flag, flag-back, AllHold, size_at, whole, of_rows, carried_rows, stands, all_set, AllTrue, judged-all, ok-hook, cell_at}
use Facade.{nat_of, flag_number, firsts, AreOf, named, kinds, saved_cells, carried, register, SavedAreCells, SavedIsRestored, CanSave, CanRestore, MayRestore}
use Facade.{register_in, nmi_mask_in, pf_in, rules, chip_of, restored, hook_restored, IsSound, NEWEST_CLOCK, NMI_SINCE, REGISTER_A, REGISTER_C, REGISTER_D}
use Facade.{REGISTERS, Rtc, drop, get_or-map-range_with_len, length-map-range_with_len, CMOS, InRange, Kind, bytes_within, number-lt, judged-ok, hook-ok}
use Facade.{IsUpTo, RestoredIsSound, registers_hold, None, get_or_append_left, length-map, none_failing, all_true, first_failing, IsTold, SoundMeetsRules}

-- ---- the kinds of what is saved

of-bytes : (xs : List ℕ) (n : ℕ) → length xs ≡ n → ((k : ℕ) → k < n → get_or xs k 0 < 256) → AreOf (replicate n U8) (map pos xs)
of-bytes [] zero len small = of_none
of-bytes [] (suc n) len small = absurd (omega arith)
of-bytes (x ∷ xs) zero len small = absurd (omega arith)
of-bytes (x ∷ xs) (suc n) len small =
    of_more U8 (pos x) (replicate n U8) (map pos xs) (byte x (small 0 (omega arith))) (of-bytes xs n (omega arith) (λ k lt. small (suc k) (omega arith)))

-- the index and all registers are bytes
pub record IsWide (chip : Rtc) : Type 0 where
  pub index : chip.index < 256
  pub count : length chip.cmos ≡ REGISTERS
  pub bytes : (k : ℕ) → k < REGISTERS → register k chip < 256

wide : (chip : Rtc) → IsSound chip → IsWide chip
wide chip s = record { index = omega arith; count = s.count; bytes = s.bytes }

-- the numbers of each field
holds : (chip : Rtc) → IsWide chip → AllHold (named chip) mc146818_rows
holds chip s =
    let index = s.index in (
      of_more _ _ _ _ (byte chip.index (omega arith)) of_none,
      (of-bytes chip.cmos 64 s.count s.bytes, (of_more _ _ _ _ (flag chip.nmi_mask) of_none, (of_more _ _ _ _ (flag chip.pf) of_none, tt))),
    )

pub of-set : (set : ℕ) (chip : Rtc) → IsSound chip → AreOf (kinds set) (saved_cells set chip)
unfolding saved_cells
of-set set chip s = of_rows (named chip) set mc146818_rows (holds chip (wide chip s))

pub saved_are_cells : SavedAreCells
saved_are_cells = record { of_kinds = of-set }

-- ---- the chip of its own cells

-- the cells of the newest clock set
abbrev pub newest : Rtc → List ℤ
newest chip = whole (named chip) mc146818_rows

there : (chip : Rtc) → IsWide chip → (name : List ℕ) (k : ℕ) → k < size_at mc146818_rows name
    → cell_at (newest chip) (place_of_clock name + k) ≡ cell_at (numbers_of (named chip) name) k
there chip s name k l = stands (named chip) name mc146818_rows (holds chip s) [] 0 k refl l

mask-there : (chip : Rtc) → IsWide chip → nmi_mask_in (newest chip) ≡ chip.nmi_mask
mask-there chip s = cc (there chip s (codes "nmi_mask") 0 (omega arith), flag-back chip.nmi_mask)

flag-there : (chip : Rtc) → IsWide chip → pf_in (newest chip) ≡ chip.pf
flag-there chip s = cc (there chip s (codes "pf") 0 (omega arith), flag-back chip.pf)

register-there : (chip : Rtc) → IsWide chip → (k : ℕ) → k < REGISTERS → register_in (newest chip) k ≡ get_or chip.cmos k 0
register-there chip s k lt = ap nat_of (there chip s (codes "cmos") k lt ∙ get_or-map pos chip.cmos k 0 (pos 0) (omega arith))

pub own-back : (chip : Rtc) → IsWide chip → chip_of chip.version (newest chip) ≡ chip
unfolding chip_of
own-back chip s =
    let cmos : firsts REGISTERS (register_in (newest chip)) ≡ chip.cmos =
    sym (all_set (register_in (newest chip)) chip.cmos REGISTERS s.count (λ k lt. sym (register-there chip s k lt))) in
    rw (cmos, mask-there chip s, flag-there chip s)

-- ---- the rules

unmasked : (version : ℕ) (flag : Bool) → (nat_le NMI_SINCE version ≡ false → flag ≡ false) → (nat_le NMI_SINCE version || not flag) ≡ true
unmasked version flag = grind arith

pub met : (chip : Rtc) → IsSound chip → AllTrue (rules chip.version (newest chip))
met chip s =
    let a : register_in (newest chip) REGISTER_A ≤ 127 =
    let e = register-there chip (wide chip s) REGISTER_A (omega arith) in omega arith in
    let c : register_in (newest chip) REGISTER_C ≡ 0 = cc (register-there chip (wide chip s) REGISTER_C (omega arith)) in
    let d : register_in (newest chip) REGISTER_D ≡ 0 = cc (register-there chip (wide chip s) REGISTER_D (omega arith)) in
    let index = s.index in (
      grind (arith, nat_tests, index),
      (grind (arith, nat_tests, a, c, d), (unmasked chip.version (nmi_mask_in (newest chip)) (λ none. mask-there chip (wide chip s) ∙ s.mask none), tt)),
    )

-- ---- carried cells

carried-newest : (set : ℕ) (chip : Rtc) → IsSound chip → chip.version ≤ set → carried set (saved_cells set chip) ≡ newest chip
unfolding saved_cells
carried-newest set chip s le =
    let lacks : nat_le NMI_SINCE set ≡ false → chip.nmi_mask ≡ false = λ e. s.mask (grind (arith, nat_tests)) in
    carried_rows (named chip) set mc146818_rows (holds chip (wide chip s))
    (λ e. cc, (λ e. cc, (λ e. ap (λ m. pos (flag_number m) ∷ []) (lacks e), (λ e. cc, tt)))) [] 0 refl

pub saved-newest : (chip : Rtc) → saved_cells NEWEST_CLOCK chip ≡ newest chip
unfolding saved_cells
saved-newest chip = refl

pub restored-own : (chip : Rtc) → IsSound chip → restored chip.version (newest chip) ≡ Ok chip
restored-own chip s = cc (judged-all (rules chip.version (newest chip)) (chip_of chip.version (newest chip)) (met chip s), own-back chip (wide chip s))

back-as : (numbers back : Numbers) (chip : Rtc) → CanSave numbers chip → IsSound chip → MayRestore back → back.level ≡ chip.version
    → CanRestore back (carried numbers.set (saved_cells numbers.set chip)) × (hook_restored back (carried numbers.set (saved_cells numbers.set chip)) ≡ Ok chip)
back-as numbers back chip can s may same =
    let le : chip.version ≤ numbers.set = let l = can.reaches.level_le_set in omega arith in
    let e = sym (carried-newest numbers.set chip s le) in
    let own : restored back.level (newest chip) ≡ Ok chip = cc (restored-own chip s) in (
      subst (CanRestore back) e (record { pass = may; of_kinds = (subst (AreOf (kinds NEWEST_CLOCK)) (saved-newest chip) (of-set NEWEST_CLOCK chip s)) }),
      subst (λ cells. hook_restored back cells ≡ Ok chip) e (ok-hook (restored back.level (newest chip)) chip own),
    )

pub saved_is_restored : SavedIsRestored
saved_is_restored = record { chip = back-as }

-- ---- a restored chip is sound: the kinds of the cells of the newest clock set

-- the index and the registers are bytes
pub is_byte : (cells : List ℤ) (k : ℕ) → AreOf (kinds NEWEST_CLOCK) cells → k < CMOS + REGISTERS → InRange U8 (cell_at cells k)
is_byte cells k are lt =
    subst (λ (kind : Kind). InRange kind (cell_at cells k))
    (bytes_within [] (drop (CMOS + REGISTERS) (kinds NEWEST_CLOCK)) (CMOS + REGISTERS) k (omega arith) (omega arith)) (are.in_range k (omega arith))

-- ---- what is restored

-- a register of the chip of cells
pub register_of : (version : ℕ) (cells : List ℤ) (k : ℕ) → k < REGISTERS → register k (chip_of version cells) ≡ register_in cells k
unfolding chip_of
register_of version cells k lt = get_or-map-range_with_len (register_in cells) 0 REGISTERS k k 0 lt (omega arith)

record Registers (cells : List ℤ) : Type 0 where
  a : register_in cells REGISTER_A ≤ 127
  c : register_in cells REGISTER_C ≡ 0
  d : register_in cells REGISTER_D ≡ 0

registers : (cells : List ℤ) → registers_hold cells ≡ true → Registers cells
registers cells h = search arith

clear : (b flag : Bool) → (b || not flag) ≡ true → b ≡ false → flag ≡ false
clear b flag h e = grind (arith, nat_tests)

pub sound : (version : ℕ) (cells : List ℤ) → IsUpTo NEWEST_CLOCK version → AreOf (kinds NEWEST_CLOCK) cells → AllTrue (rules version cells)
    → IsSound (chip_of version cells)
unfolding chip_of
sound version cells v are hold =
    let n = registers cells hold.1.0 in
    record {
      version = v;
      index = grind (arith, nat_tests, hold.0);
      count = length-map-range_with_len (register_in cells) 0 REGISTERS;
      bytes = λ k lt.
          let is : register k (chip_of version cells) ≡ register_in cells k = register_of version cells k lt in
          omega (arith, number-lt U8 (cell_at cells (1 + k)) (is_byte cells (1 + k) are (omega arith)));
      a = n.a;
      c = n.c;
      d = n.d;
      mask = clear (nat_le NMI_SINCE version) (nmi_mask_in cells) hold.1.1.0;
    }

made : (version : ℕ) (cells : List ℤ) → (chip_of version cells).version ≡ version
unfolding chip_of
made version cells = refl

-- the chip that was restored is that of its cells, and all rules hold
module _ (numbers : Numbers) (cells : List ℤ) (chip : Rtc) (e : hook_restored numbers cells ≡ Ok chip) where
  accepted : AllTrue (rules numbers.level cells) × (chip_of numbers.level cells ≡ chip)
  accepted = judged-ok (rules numbers.level cells) (chip_of numbers.level cells) chip (hook-ok (restored numbers.level cells) chip e)

  is-sound : CanRestore numbers cells → IsSound chip
  is-sound can = subst IsSound accepted.1 (sound numbers.level cells can.pass.is_version can.of_kinds accepted.0)

  has-version : chip.version ≡ numbers.level
  has-version = rw (sym accepted.1) (made numbers.level cells)

pub restored_is_sound : RestoredIsSound
restored_is_sound = record { sound = λ numbers cells chip can e. is-sound numbers cells chip e can; version = has-version }

-- ---- the chip is sound exactly if its cells in the newest clock set meet the rules

-- a chip that a stream can describe has bytes
module _ (chip : Rtc) (t : IsTold chip) where
  small : (k : ℕ) → k < CMOS + REGISTERS → nat_of (cell_at (newest chip) k) < 256
  unfolding saved_cells
  small k l = number-lt U8 (cell_at (newest chip) k) (is_byte (newest chip) k t.cells l)

  register-at : (k : ℕ) → k < REGISTERS → nat_of (cell_at (newest chip) (suc k)) ≡ get_or chip.cmos k 0
  register-at k l =
      ap nat_of (get_or_append_left (map pos chip.cmos) _ (pos 0) k (omega (arith, length-map chip.cmos pos)) ∙ get_or-map pos chip.cmos k 0 (pos 0)
      (omega arith))

  is-wide : IsWide chip
  is-wide = record {
    index = small 0 (omega arith);
    count = t.count;
    bytes = λ k l. let e = register-at k l in let b = small (suc k) (omega arith) in omega arith;
  }

  pub same-chip : chip_of chip.version (saved_cells NEWEST_CLOCK chip) ≡ chip
  unfolding saved_cells
  same-chip = own-back chip is-wide

  told-sound : first_failing (rules chip.version (newest chip)) ≡ None → IsSound chip
  unfolding saved_cells
  told-sound none =
      subst IsSound (own-back chip is-wide) (sound chip.version (newest chip) t.version t.cells (all_true (rules chip.version (newest chip)) none))

-- the cells of a sound chip
told : (chip : Rtc) → IsSound chip → IsTold chip
told chip s = record { version = s.version; count = s.count; cells = of-set NEWEST_CLOCK chip s }

pub sound_meets_rules : SoundMeetsRules
unfolding saved_cells
sound_meets_rules = search (arith, told, none_failing, met, told-sound)
