-- A description that is kept from a save.
use Rattle.std.specs.Prelude.{◌≡◌, ◌<◌, ℕ, IfSome, List, Option, length, map, string_bytes}
use Rattle.vms_board.specs.Family.{Family}
use Rattle.vms_board.specs.Imaging.{AreOfSet, AreSavedIn, CanSave, IsSetOf}
use Rattle.vms_board.specs.declared.last.Kept.{Kept}
use Rattle.vms_board.specs.declared.last.LastDescription.{LastDescription}
use Rattle.vms_desc.specs.Described.{described}
use Rattle.vms_desc.specs.declared.set.DescSet.{DescSet}
use Rattle.vms_image.specs.Typed.{AreImagesOf, Typed, state_of}
use Rattle.vms_selfdesc.specs.Tree.{described_text}
use Rattle.vms_spec.specs.Streams.{AreReady, longest_text}

module _ {S : Type 0} (f : Family S) where
  -- The images are ready under the set with their number, and the text describes them and fits a stream. There is one of each
  -- device, and of the spare ones too.
  pub record IsKept (kept : Kept) : Type 0 where
    pub of : AreImagesOf (f.set kept.number) kept.images.items
    pub spare : IfSome kept.spare (λ images. AreImagesOf (f.set kept.number) images.items)
    pub ready : AreReady (f.set kept.number) (map state_of kept.images.items)
    pub text : string_bytes kept.text ≡ described_text (f.set kept.number) (map state_of kept.images.items)
    pub short : length (string_bytes kept.text) < longest_text

  -- The same, if there is one.
  abbrev pub IsLast : LastDescription → Type 0
  IsLast last = IfSome last.kept IsKept

  -- The images are ready under the set, which is that of the family with this number, and what is kept is of the family.
  pub record CanDescribe (number : ℕ) (set : DescSet) (images : List Typed) (last : Option Kept) : Type 0 where
    pub own : IsSetOf f set number
    pub of : AreOfSet set images
    pub ready : AreReady (described set) (map state_of images)
    pub kept : IfSome last IsKept

  -- These images are kept, with the text that describes them under the set.
  pub record Describes (set : DescSet) (images : List Typed) (kept : Kept) : Type 0 where
    pub same : kept.images.items ≡ images
    pub text : string_bytes kept.text ≡ described_text (described set) (map state_of images)
    pub is_kept : IsKept kept

  -- The devices may be saved under the set, and what is kept are their images with the text that describes them.
  pub record CanWrite (is_sound : S → Type 0) (devices : S) (number : ℕ) (set : DescSet) (kept : Kept) : Type 0 where
    pub can : CanSave is_sound f devices number set
    pub images : AreSavedIn f set number devices kept.images.items
    pub text : string_bytes kept.text ≡ described_text (described set) (map state_of kept.images.items)
    pub short : length (string_bytes kept.text) < longest_text
