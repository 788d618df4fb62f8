-- The members of an object, and the numbers and texts under its keys.
use Rattle.std.specs.Prelude.{ℕ, Bool, true, false, nat_le, if◌then◌else◌, List, [], Option, Some, None, option_and_then, ℤ}
use Rattle.serde_json.specs.Data.{Data}
use Rattle.serde_json.specs.Find.{get, as_number, as_str, as_u64, as_integer}
use Rattle.vms_json.specs.Answers.{Answer, good, bad, under, changed, given}

-- the answer of an object, which is judged before its members
abbrev pub judged : {A : Type 0} → Bool → Answer A → Answer A
judged true answer = answer
judged false answer = bad []

-- ---- members

-- the answer of a member, or the fault of the object if there is none
abbrev pub member_of : {A : Type 0} → (Data → Answer A) → List ℕ → Option Data → Answer A
member_of says key None = bad []
member_of says key (Some d) = under key (says d)

-- the answer of a member, or a default
abbrev pub member_or : {A : Type 0} → A → (Data → Answer A) → List ℕ → Option Data → Answer A
member_or default says key None = good default
member_or default says key (Some d) = under key (says d)

-- the answer of the member of a key
abbrev pub at : {A : Type 0} → (Data → Answer A) → List ℕ → Data → Answer A
at says key d = member_of says key (get key d)

-- the same, with a default
abbrev pub at_or : {A : Type 0} → A → (Data → Answer A) → List ℕ → Data → Answer A
at_or default says key d = member_or default says key (get key d)

-- the same, or nothing if there is no such member
abbrev pub maybe_at : {A : Type 0} → (Data → Answer A) → List ℕ → Data → Answer (Option A)
maybe_at says key d = at_or None (λ e. changed Some (says e)) key d

-- ---- numbers and texts

-- the number, if there is one and it is at most `most`
abbrev pub up_to : ℕ → Option ℕ → Answer ℕ
up_to most None = bad []
up_to most (Some n) = if nat_le n most then good n else bad []

-- a whole number from 0 to `most`
abbrev pub natural : ℕ → Data → Answer ℕ
natural most d = up_to most (option_and_then as_u64 (as_number d))

-- a whole number from 0 to 2 ^ 16 - 1
abbrev pub u16_of : Data → Answer ℕ
u16_of = natural 65535

-- a whole number from 0 to 2 ^ 32 - 1
abbrev pub u32_of : Data → Answer ℕ
u32_of = natural 4294967295

-- a whole number from 0 to 2 ^ 64 - 1
abbrev pub u64_of : Data → Answer ℕ
u64_of = natural 18446744073709551615

-- a whole number of 64 bits, signed or unsigned
abbrev pub integer_of : Data → Answer ℤ
integer_of d = given (option_and_then as_integer (as_number d))

-- the bytes of a text
abbrev pub text_of : Data → Answer (List ℕ)
text_of d = given (as_str d)
