-- What `why` answers explains an image.
use Rattle.rt_code.specs.Image.{Image}
use Rattle.rt_safe.proofs.Safe.{checked_images_are_safe}
use Rattle.rt_topx.specs.Explained.{Explains, is_safe, breaks, status_of}
use Rattle.rt_why.specs.Text.{why_text}
use Rattle.rt_why.specs.Witness.{IsWhy}
use Rattle.rt_why.specs.declared.witness.Why.{Why}
use Rattle.rt_why.specs.declared.witness.Why.TheVariants as answer

pub explains : (image : Image) (a : Why) → IsWhy image a → Explains image (status_of a) (why_text image a)
explains image answer.Yes checked = is_safe checked (checked_images_are_safe image checked)
explains image (answer.No w) (least, is) = breaks w least is
