use Rattle.std.proofs.Common.{ℕ, Vec, Global, ap, ◌∙◌}
use Rattle.rt_app.specs.View.{app_of}
use Rattle.rt_code.specs.Image.{Image}
use Rattle.rt_reach.proofs.Ending.{soon_taken, none_made, some_made}
use Rattle.rt_reach.proofs.script.script_text.Goals as goal
use Rattle.rt_reach.proofs.script.script_text.Goals.{in_default, in-len1-up+in_ok-push_script}

pub steps_to_take-steps-requires-clause-soon : goal.steps_to_take-steps-requires-clause-soon
steps_to_take-steps-requires-clause-soon c =
    soon_taken (app_of c.args.app.now) c.args.core.image c.requires.accepted c.requires.form c.requires.image
    c.as_slice.result.now (c.as_slice.ensures.value ∙ c.in_ok-irqs.ensures) c.first-item.result
    c.in-len1-up.len_at_least c.first-item.is

pub returns : goal.returns
returns c =
    let app = app_of c.args.app.now in
    let img = c.args.core.image in
    let irqs = c.as_slice.result.now in
    let are = c.as_slice.ensures.value ∙ c.in_ok-irqs.ensures in
    elim c.if-as_slice-lt1.branch [
      | in_default w ↦
          none_made app img c.requires.accepted c.requires.form c.requires.image irqs are c.requires.good
          c.requires.built
          c.if-as_slice-lt1.text.items (ap (λ (v : Vec ℕ Global). v.items) w.text-is ∙ c.new-text.ensures.items)
          w.in_default.len_below
      | in-len1-up+in_ok-push_script w ↦
          some_made app img c.requires.accepted c.requires.form c.requires.image irqs are c.requires.good
          c.requires.built
          c.if-as_slice-lt1.text.items w.first-item.result w.steps_to_take-steps.result w.in-len1-up.len_at_least
          w.first-item.is w.steps_to_take-steps.ensures.first _
          (ap (λ (i : Image). i.names) (w.behind-core.view_is ∙ w.image.ensures ∙ w.steps_to_take-steps.ensures.image)
          ∙ c.requires.image.tables.names)
          c.new-text.result.items c.new-text.ensures.items
          (ap (λ (v : Vec ℕ Global). v.items) w.text-is ∙ w.in_ok-push_script.ensures)
    ]
