-- Bytes that are not too long are read in one way: they are the listing of a loadable image or have a first wrong line,
-- not both, and they are the listing of one loadable image.
use Rattle.std.specs.Prelude.{◌≡◌, ◌⊎◌, ◌≤◌, ℕ, List, length}
use Rattle.rt_code.specs.Image.{Image}
use Rattle.rt_load.specs.Reading.{IsListingText, IsFirstWrongLine, Fault}
use Rattle.rt_load.specs.declared.refusal.TheConstants.{IMAGE_BYTES}

-- bytes are read in one way
pub record AreReadOneWay : Type 0 where
  pub one_image : (text : List ℕ) (a b : Image) → IsListingText text a → IsListingText text b → a ≡ b
  pub not_both : (text : List ℕ) (img : Image) (n : ℕ) (fault : Fault) → IsListingText text img
      → IsFirstWrongLine text n fault → ⊥
  pub one_fault : (text : List ℕ) (n m : ℕ) (f g : Fault) → IsFirstWrongLine text n f → IsFirstWrongLine text m g
      → (n ≡ m) × (f ≡ g)
  pub either :
      (text : List ℕ) → length text ≤ IMAGE_BYTES
      → ((img : Image) × IsListingText text img) ⊎ ((n : ℕ) × (fault : Fault) × IsFirstWrongLine text n fault)
