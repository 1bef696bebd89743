use Rattle.rt_live.proofs.Vocabulary.{Image, List, Names, Step, Took, TookPrefix, ap, arith, on_err_from, subst, suc}
use Rattle.rt_live.proofs.Vocabulary.{sym, ℕ, ◌∙◌, ◌≡◌}
use Rattle.rt_live.proofs.Woven.{at_event}
use Rattle.rt_run.specs.Inside.Writing.{HasWords, ShowsWords}
use Rattle.rt_run.proofs.{Worded.operands, Worded.step_known, Happened.step_leads, Happened.silent_lines}
use Rattle.rt_run.proofs.{Happened.silent_lined, Happened.step_lines, Happened.step_lined, Taking.took_none}
use Rattle.rt_live.proofs.showing.show_step.Goals as goal

pub line-text-requires : goal.line-text-requires
line-text-requires g c =
    let core = c.args.core.now in
    let run = step_leads core c.step.new.self c.step.ensures.state in
    let named = ap (λ (i : Image). i.names) (c.behind-core.view_is ∙ c.image.ensures ∙ run.image) in
    let shows = (step_known core.image c.requires.writable.lines core.core c.requires.writable.known).1 in
    let words = subst (λ (n : Names). HasWords n c.in-Some.what) (sym named)
    (subst (ShowsWords core.image.names) (sym c.step.ensures.item ∙ c.in-Some.is) shows) in
    record {
      step = omega (arith, c.steps-step.ensures, run.steps, c.requires.few);
      operands = operands c.behind-core.inside.names c.in-Some.what words c.numbers_fit.ensures;
    }

pub returns-in_default-clause-ok : goal.returns-in_default-clause-ok
returns-in_default-clause-ok g c =
    let core = c.args.core.now in
    let kept = g.K.Sink.taken c.args.out.now in
    record {
      leads = step_leads core c.step.new.self c.step.ensures.state;
      lined = silent_lined core c.step.result c.step.ensures.item c.in_default.is;
      took =
          subst (Took kept kept) (sym (silent_lines core c.step.result c.step.ensures.item c.in_default.is))
          (took_none kept);
    }

pub returns-clause-ok : goal.returns-clause-ok
returns-clause-ok g c =
    let core = c.args.core.now in
    let run = step_leads core c.step.new.self c.step.ensures.state in
    let named = ap (λ (i : Image). i.names) (c.behind-core.view_is ∙ c.image.ensures ∙ run.image) in
    let counted : c.steps-step.result ≡ suc core.steps = omega (arith, c.steps-step.ensures, run.steps) in
    let shows = (step_known core.image c.requires.writable.lines core.core c.requires.writable.known).1 in
    let words = subst (λ (n : Names). HasWords n c.in-Some.what) (sym named)
    (subst (ShowsWords core.image.names) (sym c.step.ensures.item ∙ c.in-Some.is) shows) in
    let kept : List ℕ = g.K.Sink.taken c.args.out.now in
    let after : List ℕ = g.K.Sink.taken c.put_all.new.sink in
    record {
      leads = run;
      lined =
          step_lined core c.behind-core.inside.names c.step.result c.in-Some.what c.steps-step.result named
          c.step.ensures.item c.in-Some.is counted (record {
            step = omega (arith, c.steps-step.ensures, run.steps, c.requires.few);
            operands = operands c.behind-core.inside.names c.in-Some.what words c.numbers_fit.ensures;
          });
      took =
          subst (Took kept after) (c.as_slice.ensures.value ∙ c.line-text.ensures
          ∙ sym (step_lines core c.behind-core.inside.names c.step.result c.in-Some.what c.steps-step.result named
          c.step.ensures.item c.in-Some.is counted)) c.in_ok-put_all.ensures.ok;
    }

pub returns-in_err-put_all-clause-err : goal.returns-in_err-put_all-clause-err
returns-in_err-put_all-clause-err g c =
    let core = c.args.core.now in
    let run = step_leads core c.step.new.self c.step.ensures.state in
    let named = ap (λ (i : Image). i.names) (c.behind-core.view_is ∙ c.image.ensures ∙ run.image) in
    let counted : c.steps-step.result ≡ suc core.steps = omega (arith, c.steps-step.ensures, run.steps) in
    let kept : List ℕ = g.K.Sink.taken c.args.out.now in
    let after : List ℕ = g.K.Sink.taken c.put_all.new.sink in
    on_err_from c.from_residual.result (at_event Step core c.step.new.self kept after run (subst (TookPrefix kept after)
    (c.as_slice.ensures.value ∙ c.line-text.ensures
    ∙ sym (step_lines core c.behind-core.inside.names c.step.result c.in-Some.what c.steps-step.result named
    c.step.ensures.item c.in-Some.is counted)) c.in_err-put_all.ensures.err))
