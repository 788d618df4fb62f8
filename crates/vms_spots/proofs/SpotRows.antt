-- Worked examples of spots and bytes.
use Rattle.vms_spots.proofs.Facade.{◌≡◌, ℕ, List, [], ◌∷◌, map, pos, refl, Kind, U8, U16, code, spots_of, bytes_of, raw_of}

offsets : List Kind → List ℕ
offsets kinds = map (λ s. s.offset) (spots_of kinds)

-- a box with a count and two elements
box : List Kind
box = U8 ∷ U16 ∷ U16 ∷ []

aligns_the_elements : offsets box ≡ 0 ∷ 2 ∷ 4 ∷ []
unfolding box offsets
aligns_the_elements = refl

takes_six_bytes : bytes_of box ≡ 6
unfolding box
takes_six_bytes = refl

leaves_0_between : raw_of box (pos 2 ∷ pos 1 ∷ pos 65535 ∷ []) ≡ 0x02 ∷ 0x00 ∷ 0x00 ∷ 0x01 ∷ 0xff ∷ 0xff ∷ []
unfolding box code
leaves_0_between = refl

no_bytes_without_cells : bytes_of [] ≡ 0
no_bytes_without_cells = refl
