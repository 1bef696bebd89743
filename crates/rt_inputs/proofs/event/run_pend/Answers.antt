use Rattle.std.proofs.Common.{◌≡◌, ◌*◌, ◌/◌, ◌%◌, ◌^◌, [], ◌∷◌, ap, sym, subst, ◌∙◌, arith}
use Rattle.std.proofs.lemmas.Result.{on_ok_weaker, on_err_weaker}
use Rattle.rt_ids.specs.Arrivals.{arrivals}
use Rattle.rt_ids.specs.Event.{Arrive}
use Rattle.rt_ids.specs.Names.{Names}
use Rattle.rt_ids.specs.Naming.{IsDeclared}
use Rattle.rt_code.specs.Image.{Image}
use Rattle.rt_run.proofs.Advancing.{written, stopped_at}
use Rattle.rt_run.proofs.Happened.{only_bit, one_arrival, pend_leads, pend_lines, pend_lined, pend_shows}
use Rattle.rt_inputs.proofs.event.run_pend.Goals as goal

pub arrive-requires : goal.arrive-requires
arrive-requires g c = λ bit within set.
    let same = only_bit (c.get-number.result % 32) bit (omega arith) set in
    omega (arith, c.get-number.ensures.in_range)

pub put_item-requires : goal.put_item-requires
put_item-requires g c =
    let core = c.args.core.now in
    let number = c.get-number.result in
    let one : arrivals (number / 32) (1 * 2 ^ (number % 32) % 2 ^ 32) ≡ c.args.irq ∷ [] =
    one_arrival number ∙ ap (λ n. n ∷ []) c.get-number.ensures.value in
    let run = pend_leads core c.arrive.new.self c.args.irq _ one c.arrive.ensures in
    let named = ap (λ (i : Image). i.names) (c.behind-core.view_is ∙ c.image.ensures ∙ run.image) in
    record {
      step = omega (arith, c.steps-step.ensures, run.steps, c.requires.few);
      operands = record {
        written = (subst (λ (n : Names). IsDeclared n c.args.irq) (sym named) c.requires.declared, tt);
        few = tt;
      };
    }

pub returns-clause-ok : goal.returns-clause-ok
returns-clause-ok g c =
    let core = c.args.core.now in
    let after = c.arrive.new.self in
    let number = c.get-number.result in
    let one : arrivals (number / 32) (1 * 2 ^ (number % 32) % 2 ^ 32) ≡ c.args.irq ∷ [] =
    one_arrival number ∙ ap (λ n. n ∷ []) c.get-number.ensures.value in
    let run = pend_leads core after c.args.irq _ one c.arrive.ensures in
    let named = ap (λ (i : Image). i.names) (c.behind-core.view_is ∙ c.image.ensures ∙ run.image) in
    let counted : c.steps-step.result ≡ core.steps = omega (arith, c.steps-step.ensures, run.steps) in
    on_ok_weaker c.put_item.result
    (written (Arrive c.args.irq ∷ []) core after _ _ c.args.held.now.items _ _ run
    (pend_lined core c.args.irq c.requires.few c.requires.declared)
    (pend_lines core _ c.args.irq _ named counted))
    c.put_item.ensures.ok

pub returns-clause-err : goal.returns-clause-err
returns-clause-err g c =
    let core = c.args.core.now in
    let after = c.arrive.new.self in
    let number = c.get-number.result in
    let one : arrivals (number / 32) (1 * 2 ^ (number % 32) % 2 ^ 32) ≡ c.args.irq ∷ [] =
    one_arrival number ∙ ap (λ n. n ∷ []) c.get-number.ensures.value in
    let run = pend_leads core after c.args.irq _ one c.arrive.ensures in
    let named = ap (λ (i : Image). i.names) (c.behind-core.view_is ∙ c.image.ensures ∙ run.image) in
    let counted : c.steps-step.result ≡ core.steps = omega (arith, c.steps-step.ensures, run.steps) in
    on_err_weaker c.put_item.result
    (stopped_at (Arrive c.args.irq) core after _ _ c.args.held.now.items _ (pend_shows core c.args.irq)
    c.put_item.ensures.few run
    (pend_lines core _ c.args.irq _ named counted))
    c.put_item.ensures.err
