-- Laws of the images of applications.
use Rattle.std.specs.Prelude.{◌≡◌, [], IsSome}
use Rattle.std.specs.List.{AllByRecursion}
use Rattle.rt_app.specs.Accepted.{IsAccepted}
use Rattle.rt_app.specs.Bodies.{member_at}
use Rattle.rt_app.specs.Tree.{App}
use Rattle.rt_app.specs.Holding.{storage}
use Rattle.rt_code.specs.Image.{Image}
use Rattle.rt_code.specs.Lines.{HasLines}
use Rattle.rt_code.specs.Runnable.{IsRunnable}
use Rattle.rt_code.specs.StandingLaws.{StandingLaws}
use Rattle.rt_gen_body.specs.Form.{fixed_body}
use Rattle.rt_build.specs.Built.{IsBuilt}
use Rattle.rt_build.specs.Image.{IsImageOf}
use Rattle.rt_build.specs.Order.{CodePart, OfBody, OfLevel, OfTimer, fixed_parts, free_parts}

-- Code that stands keeps its laws in the memory of every application, accepted or not.
abbrev pub CodeKeepsLaws : Type 0
CodeKeepsLaws = (app : App) → StandingLaws (storage app)

-- each line of a part is fixed
abbrev pub IsFixedPart : App → CodePart → Type 0
IsFixedPart app (OfBody id) = IsSome (fixed_body app (member_at app id))
IsFixedPart app (OfLevel p) = ⊥
IsFixedPart app OfTimer = ⊥

-- There are no software tasks and no monotonic, and the bodies emit literals and pend interrupts and do nothing else.
pub record HasFixedCode (app : App) : Type 0 where
  pub alone : free_parts app ≡ []
  pub bodies : AllByRecursion (IsFixedPart app) (fixed_parts app)

-- Such an application has one image, and so one listing.
abbrev pub FixedCodeHasOneImage : Type 0
FixedCodeHasOneImage = (app : App) (a b : Image) → HasFixedCode app → IsImageOf app a → IsImageOf app b → a ≡ b

-- An application has one image that `build` makes: two answers for it are equal.
abbrev pub OneImageIsBuilt : Type 0
OneImageIsBuilt = (app : App) (a b : Image) → IsBuilt app a → IsBuilt app b → a ≡ b

-- the application has an image, which a core runs, and whose listing and traces can be written
pub record HasImage (app : App) : Type 0 where
  pub image : Image
  pub of_app : IsImageOf app image
  pub built : IsBuilt app image
  pub runnable : IsRunnable image
  pub lines : HasLines image

-- Every accepted application has an image.
abbrev pub ImagesExist : Type 0
ImagesExist = (app : App) → IsAccepted app → HasImage app
