-- The states of a list of images.
use Rattle.vms_image.proofs.Facade.{◌≡◌, ℕ, zero, suc, ◌<◌, List, [], ◌∷◌, Some, length, get_or, map, sym, ap, ◌∙◌, arith, slice_get}
use Rattle.vms_image.proofs.Facade.{length-map, get_or-map, Typed, state_of}

pub states_long : (images : List Typed) → length (map state_of images) ≡ length images
states_long images = length-map images state_of

-- the state of one of the images
pub state_at : (images : List Typed) (k : ℕ) (image : Typed) → k < length images → image ≡ get_or images k image → state_of image ≡ get_or (map state_of images) k (state_of image)
state_at images k image lt is = ap state_of is ∙ sym (get_or-map state_of images k image (state_of image) lt)

pub at_state : (images : List Typed) (k : ℕ) (image : Typed) → slice_get images k ≡ Some image → slice_get (map state_of images) k ≡ Some (state_of image)
at_state [] k image e = cc
at_state (x ∷ xs) zero image e = cc
at_state (x ∷ xs) (suc k) image e = at_state xs k image e

-- the image at a number
pub image_at : (images : List Typed) (k : ℕ) (image : Typed) → k < length images → image ≡ get_or images k image → slice_get images k ≡ Some image
image_at [] k image lt is = absurd (omega arith)
image_at (x ∷ xs) zero image lt is = cc
image_at (x ∷ xs) (suc k) image lt is = image_at xs k image (omega arith) is
