use Rattle.std.proofs.Common.{◌↔◌, IsTrue, subst}
use Rattle.rt_code.specs.Image.{Image}
use Rattle.rt_code.specs.Runnable.{HasRightSizes, HasRightRows}
use Rattle.rt_image_tables.proofs.runnable.is_runnable.Goals as goal

pub returns-then-has_right_sizes : goal.returns-then-has_right_sizes
returns-then-has_right_sizes c =
    let rows = rw (c.deref.ensures.value, c.deref-then-has_right_sizes.ensures.value) at c.has_right_rows.ensures in
    let of_image : IsTrue c.has_right_rows.result ↔ HasRightRows c.args.image.now.bits c.args.image.now.bodies
    c.args.image.now.irqs =
    subst (λ (img : Image). IsTrue c.has_right_rows.result ↔ HasRightRows img.bits img.bodies img.irqs) c.image.view_is
    rows in
    let sizes : HasRightSizes c.args.image.now = c.has_right_sizes.ensures.0 cc in
    (λ yes. record { sizes = sizes; rows = of_image.0 yes }, λ is. of_image.1 is.rows)
