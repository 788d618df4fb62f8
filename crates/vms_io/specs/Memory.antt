-- What the objects in memory hold, and what they promise.
use Rattle.std.specs.Prelude.{◌≡◌, ℕ, ◌+◌, ◌-◌, ◌<◌, ◌⊎◌, ◌↔◌, min, max, List, [], ◌∷◌, length, drop, slice_get, Bool, true, false, Option, Some, None, unwrap_or, Contains, IsTrue, Result, IfOk, IsErr, refl}
use Rattle.std.proofs.Common.{subst, sym}
use Rattle.std.proofs.lemmas.List.{get_or-drop}
use Rattle.vms_io.specs.Causes.{KeepsPromise, CountsFailures, capped}
use Rattle.vms_kinds.specs.Bytes.{IsBytes}

-- A source in memory: the rest of the bytes, the greatest piece of each read, and the numbers of the
-- reads that fail. It counts the reads, the given bytes and the faults.
pub record Supply : Type 0 where
  pub left : List ℕ
  pub pieces : List ℕ
  pub failing : List ℕ
  pub calls : ℕ
  pub given : ℕ
  pub faults : ℕ

-- A sink in memory: the written bytes, the room for them, and the numbers of the writes that fail. It
-- counts the writes and the faults.
pub record Store : Type 0 where
  pub bytes : List ℕ
  pub room : ℕ
  pub failing : List ℕ
  pub calls : ℕ
  pub faults : ℕ

-- the greatest piece of the read after `calls` others: 0 means 1, and reads after the end of the
-- list aren't limited
abbrev pub piece_of : List ℕ → ℕ → ℕ
piece_of pieces calls = max (unwrap_or (slice_get pieces calls) 0xffff_ffff_ffff_ffff) 1

-- the number of bytes that a read into this much room takes
abbrev pub taken_of : Supply → ℕ → ℕ
taken_of s room = min (min (piece_of s.pieces s.calls) room) (length s.left)

-- a write of a piece of this length fails: its number is listed, or there is no room left and the
-- piece isn't empty
abbrev pub WriteFails : Store → ℕ → Type 0
WriteFails s long = Contains s.failing (capped (s.calls + 1)) ⊎ ((s.room ≡ length s.bytes) × (0 < long))

-- the source counts this read, which fails if its number is listed, and otherwise takes as many
-- bytes as its turn says; the lists are unchanged
pub record IsNextRead {E : Type 0} (old new : Supply) (room : ℕ) (result : Result ℕ E) : Type 0 where
  pub takes : IfOk result (λ n. n ≡ taken_of old room)
  pub fails : IsErr result ↔ Contains old.failing (capped (old.calls + 1))
  pub calls : new.calls ≡ capped (old.calls + 1)
  pub faults : CountsFailures old.faults new.faults result
  pub pieces : new.pieces ≡ old.pieces
  pub failing : new.failing ≡ old.failing

-- the sink counts this write, which fails if it has to, and otherwise takes as many bytes of a piece
-- of this length as there is room for; the room and the list are unchanged
pub record IsNextWrite {E : Type 0} (old new : Store) (long : ℕ) (result : Result ℕ E) : Type 0 where
  pub takes : IfOk result (λ n. n ≡ min (old.room - length old.bytes) long)
  pub fails : IsErr result ↔ WriteFails old long
  pub calls : new.calls ≡ capped (old.calls + 1)
  pub faults : CountsFailures old.faults new.faults result
  pub room : new.room ≡ old.room
  pub failing : new.failing ≡ old.failing

-- the list is empty
abbrev pub is_empty : List ℕ → Bool
is_empty [] = true
is_empty (x ∷ xs) = false

-- a list that is_empty finds empty is empty
pub empty_is : (xs : List ℕ) → IsTrue (is_empty xs) → xs ≡ []
empty_is [] h = refl
empty_is (x ∷ xs) h = cc

-- the rest of a list of bytes consists of bytes
pub bytes_left : (bytes : List ℕ) (at : ℕ) → IsBytes bytes → IsBytes (drop at bytes)
bytes_left bytes at h i = subst (λ (n : ℕ). n < 256) (sym (get_or-drop at bytes i 0)) (h (at + i))

-- the room, if no write is listed to fail
abbrev pub promise_of : List ℕ → ℕ → Option ℕ
promise_of [] room = Some room
promise_of (x ∷ xs) room = None

-- the promise of a sink that counts no fault while there is room
pub promise_kept : (failing : List ℕ) (room : ℕ) (bytes : List ℕ) (faults : ℕ) → (failing ≡ [] → length bytes < room → faults ≡ 0) → KeepsPromise (promise_of failing room) (Some bytes) faults
promise_kept [] room bytes faults h = h refl
promise_kept (x ∷ xs) room bytes faults h = tt
