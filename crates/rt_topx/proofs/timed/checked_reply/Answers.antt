use Rattle.std.proofs.Common.{◌≡◌, ◌++◌, ℕ, codes, List, sym, subst, ◌∙◌}
use Rattle.rt_ids.specs.declared.status.Status.TheVariants as status
use Rattle.rt_bounds.specs.Bounds.{AreBounds}
use Rattle.rt_bounds.specs.Text.{bounds_text}
use Rattle.rt_bounds.specs.declared.bound.Bounds.{Bounds}
use Rattle.rt_image_times.specs.Report.{times_text}
use Rattle.rt_image_times.specs.Response.{AreTimes}
use Rattle.rt_image_times.specs.declared.response.TimeBound.{TimeBound}
use Rattle.rt_load.proofs.Judged.{limits_of_points}
use Rattle.rt_top.proofs.Giving.{made_tells}
use Rattle.rt_topx.specs.Bounded.{TellsTimedBounds, has_times, is_of_no_form}
use Rattle.rt_topx.proofs.Bounding.{hold_on_runs, tells_replies, times_hold_on_runs}
use Rattle.rt_topx.proofs.timed.checked_reply.Goals as goal

pub returns-then-requests_itself : goal.returns-then-requests_itself
returns-then-requests_itself c =
    let img = c.args.image.now in
    let limits = c.args.limits.now in
    let asks = sym c.requests_itself.ensures ∙ c.if-requests_itself.true in
    tells_replies status.No (λ bytes. bytes ≡ codes "no\n") (TellsTimedBounds img limits)
    (λ bytes is. subst (TellsTimedBounds img limits status.No) (sym is) (is_of_no_form c.requires.checked asks))
    c.reply_of_text.result
    (made_tells status.No (λ bytes. bytes ≡ codes "no\n") c.no_text.result c.no_text.ensures c.reply_of_text.result
    c.reply_of_text.ensures.text c.reply_of_text.ensures.memory)

pub returns-else-requests_itself : goal.returns-else-requests_itself
returns-else-requests_itself c =
    let img = c.args.image.now in
    let limits = c.args.limits.now in
    let asks_not = sym c.requests_itself.ensures ∙ c.if-requests_itself.false in
    let P : List ℕ → Type 0 = λ bytes. (b : Bounds) × (rows : List TimeBound) × AreBounds img b
    × AreTimes img b limits rows × (bytes ≡ bounds_text img b ++ times_text rows) in
    tells_replies status.Done P (TellsTimedBounds img limits)
    (λ bytes is. subst (TellsTimedBounds img limits status.Done) (sym is.4)
    (has_times is.0 is.1 c.requires.checked asks_not is.2 (hold_on_runs img is.0 c.requires.checked is.2) is.3
    (times_hold_on_runs img is.0 limits is.1 (record {
      within = limits_of_points img c.requires.loadable;
      checked = c.requires.checked;
      form = asks_not;
      bounds = is.2;
      limits_fit = c.requires.limits;
      times = is.3;
    }))))
    c.reply_of_text-else-requests_itself.result
    (made_tells status.Done P c.text_of_times.result c.text_of_times.ensures
    c.reply_of_text-else-requests_itself.result c.reply_of_text-else-requests_itself.ensures.text
    c.reply_of_text-else-requests_itself.ensures.memory)
