-- Within the limits no sum stops.
use Rattle.std.proofs.Common.{◌≡◌, ap}
use Rattle.rt_app.specs.Frame.{first_expression_slot, first_lock_slot}
use Rattle.rt_app.specs.View.{block_of, body_of}
use Rattle.rt_frames.proofs.Within.{first_expression, first_mask, first_spawn}
use Rattle.rt_frames.proofs.frame.Slots.of.Goals as goal

pub returns-clause-expressions : goal.returns-clause-expressions
returns-clause-expressions c =
    first_expression c.args.args (body_of c.args.body.now) (block_of c.deref.result.now) c.block-parts.result
    c.from.result c.saturating_add-expressions.result c.requires.few c.requires.limits
    (ap block_of c.deref.ensures.value, c.block-parts.ensures) c.from.ensures c.saturating_add-expressions.ensures

pub returns-clause-masks : goal.returns-clause-masks
returns-clause-masks c =
    let expressions : c.saturating_add-expressions.result ≡ first_expression_slot c.args.args
    (body_of c.args.body.now) =
    first_expression c.args.args (body_of c.args.body.now) (block_of c.deref.result.now) c.block-parts.result
    c.from.result c.saturating_add-expressions.result c.requires.few c.requires.limits
    (ap block_of c.deref.ensures.value, c.block-parts.ensures) c.from.ensures c.saturating_add-expressions.ensures in
    first_mask c.args.args (body_of c.args.body.now) (block_of c.deref.result.now) c.block-parts.result
    c.saturating_add-expressions.result c.expression_words.result c.saturating_add-masks.result
    c.requires.few c.requires.limits (ap block_of c.deref.ensures.value, c.block-parts.ensures) expressions
    c.expression_words.ensures c.saturating_add-masks.ensures

pub returns-clause-spawns : goal.returns-clause-spawns
returns-clause-spawns c =
    let expressions : c.saturating_add-expressions.result ≡ first_expression_slot c.args.args
    (body_of c.args.body.now) =
    first_expression c.args.args (body_of c.args.body.now) (block_of c.deref.result.now) c.block-parts.result
    c.from.result c.saturating_add-expressions.result c.requires.few c.requires.limits
    (ap block_of c.deref.ensures.value, c.block-parts.ensures) c.from.ensures c.saturating_add-expressions.ensures in
    let masks : c.saturating_add-masks.result ≡ first_lock_slot c.args.args (body_of c.args.body.now) =
    first_mask c.args.args (body_of c.args.body.now) (block_of c.deref.result.now) c.block-parts.result
    c.saturating_add-expressions.result c.expression_words.result c.saturating_add-masks.result
    c.requires.few c.requires.limits (ap block_of c.deref.ensures.value, c.block-parts.ensures) expressions
    c.expression_words.ensures c.saturating_add-masks.ensures in
    first_spawn c.args.args (body_of c.args.body.now) (block_of c.deref.result.now) c.block-parts.result
    c.saturating_add-masks.result c.saturating_add.result c.requires.few c.requires.limits
    (ap block_of c.deref.ensures.value, c.block-parts.ensures) masks c.saturating_add.ensures
