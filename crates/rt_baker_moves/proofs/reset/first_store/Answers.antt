use Rattle.std.proofs.Common.{◌++◌, map, replicate, List, ap, ◌∙◌}
use Rattle.rt_app.specs.declared.app.Shared.{Shared}
use Rattle.rt_app.specs.declared.app.Local.{Local}
use Rattle.rt_app.specs.View.{app_of}
use Rattle.rt_baker_work.specs.Store.{Store}
use Rattle.rt_baker_moves.specs.declared.reset.TheConstants.{NUMBERS}
use Rattle.rt_baker_moves.proofs.Resets.{reset_contents}
use Rattle.rt_baker_moves.proofs.reset.first_store.Goals as goal

pub returns : goal.returns
returns c =
    reset_contents (app_of c.args.app.now) c.new.result NUMBERS
    (ap (λ (s : Store). s.shared) c.new.ensures ∙ c.in_ok-shared.ensures
    ∙ ap (λ (xs : List Shared). map (λ r. r.first) xs ++ replicate NUMBERS 0) c.deref.ensures.value)
    (ap (λ (s : Store). s.locals) c.new.ensures ∙ c.in_ok-locals.ensures
    ∙ ap (λ (xs : List Local). map (λ r. r.first) xs ++ replicate NUMBERS 0) c.deref-2.ensures.value)
    (ap (λ (s : Store). s.out) c.new.ensures ∙ c.in_ok-out.ensures)
    (ap (λ (s : Store). s.ready) c.new.ensures ∙ c.in_ok-ready.ensures) (ap (λ (s : Store). s.timed) c.new.ensures)
