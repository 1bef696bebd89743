use Rattle.std.proofs.Common.{sym, refl, subst}
use Rattle.rt_lemmas.proofs.Results.{on_ok_weaker}
use Rattle.rt_judge.specs.Inside.Touching.{IsNext}
use Rattle.rt_judge.proofs.touching.touch_row.Goals as goal

pub returns-in-Some : goal.returns-in-Some
returns-in-Some c = on_ok_weaker c.add.result _ _ (λ added. record {
  next = c.add.new.self;
  is_next = subst (λ row. IsNext row c.args.touch.now c.args.opened.now c.add.new.self) (sym c.in-Some.is) added;
  is = refl;
}) c.add.ensures

pub returns-in_ok-new-in-None : goal.returns-in_ok-new-in-None
returns-in_ok-new-in-None c = record {
  next = c.in_ok-new-in-None.field-0;
  is_next = subst (λ row. IsNext row c.args.touch.now c.args.opened.now c.in_ok-new-in-None.field-0) (sym c.in-None.is)
      c.in_ok-new-in-None.ensures;
  is = refl;
}
