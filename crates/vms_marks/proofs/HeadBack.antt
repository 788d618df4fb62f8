-- Heads, a configuration and a footer can be read back from their bytes.
use Rattle.std.proofs.{lemmas.List.drop-drop, Math.Seq.drop-append_seam, Math.Seq.take-append_seam, Common.append_assoc}
use Rattle.std.proofs.Common.{◌≡◌, ℕ, ◌+◌, ◌<◌, ◌≤◌, ◌^◌, List, ◌∷◌, ◌++◌, length, drop, refl, sym, ap, ◌∙◌, arith}
use Rattle.vms_spec.proofs.{ListsAndNumbers.be32_read}
use Rattle.vms_spec.specs.{declared.TheConstants.LONGEST_NAME, Streams.be32, Lookup.number_at, Lookup.bytes_at}
use Rattle.vms_marks.specs.{declared.sub_head.SubHead.SubHead, declared.configuration.Configuration.Configuration, declared.foot.Foot.Foot}
use Rattle.vms_marks.specs.{declared.head.Head.Head, Laws.HeadLaw, Laws.SubHeadLaw, Laws.ConfigurationLaw, Laws.FootLaw}
use Rattle.vms_marks.specs.Heads.{head_bytes, head_in, sub_head_in, configuration_in}

-- what follows the length of the name
abbrev tail : Head → List ℕ → List ℕ
tail head rest = be32 head.instance ++ (be32 head.version ++ rest)

-- the bytes of a head, part by part
parts : (head : Head) (rest : List ℕ) → head_bytes head ++ rest ≡ 0x04 ∷ (be32 head.id ++ (length head.name.items ∷ (head.name.items ++ tail head rest)))
parts head rest =
    rw (append_assoc (head.name.items ++ be32 head.instance) (be32 head.version) rest, append_assoc head.name.items (be32 head.instance) (be32 head.version ++ rest))

abbrev make : ℕ → List ℕ → ℕ → ℕ → Head
make id name instance version = record { id = id; name = record { items = name }; instance = instance; version = version }

-- the head with this id, this name, and the numbers after it
said : (id : ℕ) (name more : List ℕ) (instance version : ℕ) (rest : List ℕ) → id < 2 ^ 32 → instance < 2 ^ 32 → version < 2 ^ 32
    → more ≡ be32 instance ++ (be32 version ++ rest)
    → head_in (0x04 ∷ (be32 id ++ (length name ∷ (name ++ more)))) ≡ make id name instance version
said id name more instance version rest i j v is =
    let n = length name in
    let r = 0x04 ∷ (be32 id ++ (n ∷ (name ++ more))) in
    let six : drop (6 + n) r ≡ more = sym (drop-drop n 6 r) ∙ drop-append_seam name more in
    let plus : 10 + n ≡ (6 + n) + 4 = omega arith in
    let ten : drop (10 + n) r ≡ drop 4 more = rw (plus, ← drop-drop 4 (6 + n) r, six) in
    let first : number_at 4 1 r ≡ id = be32_read id (n ∷ (name ++ more)) i in
    let named : bytes_at n 6 r ≡ name = take-append_seam name more in
    let second : number_at 4 (6 + n) r ≡ instance = rw (six, is) (be32_read instance (be32 version ++ rest) j) in
    let third : number_at 4 (10 + n) r ≡ version = rw (ten, is) (be32_read version rest v) in
    rw (first, named, second, third)

pub head_holds : HeadLaw
head_holds head h rest =
    ap head_in (parts head rest) ∙ said head.id head.name.items (tail head rest) head.instance head.version rest h.id h.instance h.version refl

-- ---- subsections

sub_of : List ℕ → ℕ → SubHead
sub_of name version = record { name = record { items = name }; version = version }

said_sub : (name : List ℕ) (version : ℕ) (rest : List ℕ) → version < 2 ^ 32 → sub_head_in (0x05 ∷ (length name ∷ (name ++ (be32 version ++ rest)))) ≡ sub_of name version
unfolding sub_of
said_sub name version rest v =
    let n = length name in
    let more = be32 version ++ rest in
    let r = 0x05 ∷ (n ∷ (name ++ more)) in
    let two : drop (2 + n) r ≡ more = sym (drop-drop n 2 r) ∙ drop-append_seam name more in
    let named : bytes_at n 2 r ≡ name = take-append_seam name more in
    let numbered : number_at 4 (2 + n) r ≡ version = rw two (be32_read version rest v) in
    rw (named, numbered)

pub sub_head_holds : SubHeadLaw
unfolding sub_of
sub_head_holds head v rest = rw (append_assoc head.name.items (be32 head.version) rest) (said_sub head.name.items head.version rest v)

-- ---- configurations and footers

configured : List ℕ → Configuration
configured name = record { machine = record { items = name } }

said_name : (name rest : List ℕ) → length name ≤ LONGEST_NAME → configuration_in (0x07 ∷ (be32 (length name) ++ (name ++ rest))) ≡ configured name
unfolding configured
said_name name rest few =
    let n = length name in
    let r = 0x07 ∷ (be32 n ++ (name ++ rest)) in
    let long : number_at 4 1 r ≡ n = be32_read n (name ++ rest) (omega arith) in
    rw (long, take-append_seam name rest)

pub configuration_holds : ConfigurationLaw
unfolding configured
configuration_holds c few rest = said_name c.machine.items rest few

foot_of : ℕ → Foot
foot_of id = record { id = id }

pub foot_holds : FootLaw
unfolding foot_of
foot_holds f h rest = ap foot_of (be32_read f.id rest h)
