use Rattle.std.proofs.Common.{◌≡◌, List, ◌∙◌, sym}
use Rattle.rt_ids.specs.declared.status.Status.TheVariants as status
use Rattle.rt_app.specs.View.{app_of}
use Rattle.rt_rta.specs.Report.{report}
use Rattle.rt_rta.specs.Response.{AreResponseTimes}
use Rattle.rt_rta.specs.declared.response.ResponseTime.{ResponseTime}
use Rattle.rt_sim.proofs.Responding.{images_respond, images_respond_once_init_ends}
use Rattle.rt_top.specs.Outputs.{no_line, TellsTimes, responds, no_times}
use Rattle.rt_top.proofs.Giving.{line_tells, made_tells, replies_as}
use Rattle.rt_top.proofs.times.times_reply.Goals as goal

pub returns-then-not-has_response_times : goal.returns-then-not-has_response_times
returns-then-not-has_response_times c =
    line_tells status.No no_line (TellsTimes (app_of c.args.app.now) c.args.limits.now)
    (no_times (sym c.has_response_times.ensures ∙ c.if-not-has_response_times.true)) c.line.result c.line.ensures

pub returns : goal.returns
returns c =
    let app = app_of c.args.app.now in
    let ls = c.args.limits.now in
    let form = sym c.has_response_times.ensures ∙ c.if-not-has_response_times.false in
    replies_as c.reply_of_text.result
    (made_tells status.Done (λ bytes. (rows : List ResponseTime) × AreResponseTimes app ls rows
    × (bytes ≡ report rows)) c.response_lines.result c.response_lines.ensures c.reply_of_text.result
    c.reply_of_text.ensures.text c.reply_of_text.ensures.memory)
    (λ ended bytes (is, (rows, are, says)). rw (is, says) (responds rows form are (λ image of_app. (
      images_respond app image c.requires.accepted of_app form ls c.requires.limits,
      images_respond_once_init_ends app image c.requires.accepted of_app form ls c.requires.limits,
    ))))
