use Rattle.std.proofs.Common.{None, Some, length, sym, ap, subst, ◌∙◌, arith}
use Rattle.std.specs.List.{AllByRecursion}
use Rattle.rt_app.specs.View.{app_of}
use Rattle.rt_respond.specs.Load.{sum_of, IsRoundedUp, IsLast}
use Rattle.rt_respond.specs.Inside.Places.{IsSmall, table_shares, table_has_numbers, AreSharesOf}
use Rattle.rt_respond.proofs.Handlers.{few_handlers}
use Rattle.rt_respond.proofs.Shares.{table_small, table_few, load_is, shares_none, shares_some}
use Rattle.rt_respond.proofs.report.load_of.Goals as goal

pub returns-in-None : goal.returns-in-None
returns-in-None c =
    let app = app_of c.args.app.now in
    let limits = c.args.limits.now in
    let ws = c.deref.result.now in
    let has = subst (AreSharesOf limits c.args.handlers.now ws) c.in-None.is c.in_ok-shares_of.ensures in
    load_is app limits c.in-Some.last None
    (subst (λ hs. IsLast hs c.in-Some.last) c.requires.handlers c.in-Some.ensures.last)
    (shares_none app limits c.in-Some.last ws (c.deref.ensures.value ∙ c.in_ok-works.ensures)
    (ap (λ hs. table_has_numbers limits hs ws) (sym c.requires.handlers) ∙ has))

pub sum_of-requires-clause-few : goal.sum_of-requires-clause-few
sum_of-requires-clause-few c =
    let app = app_of c.args.app.now in
    let limits = c.args.limits.now in
    let ws = c.deref.result.now in
    let has = subst (AreSharesOf limits c.args.handlers.now ws) c.in-Some-2.is c.in_ok-shares_of.ensures in
    omega (
      arith,
      ap length c.deref-in-Some-2.ensures.value,
      ap length has.1,
      table_few limits c.args.handlers.now ws,
      ap length c.requires.handlers,
      few_handlers app 0 app.tasks,
      c.requires.few,
    )

pub sum_of-requires-clause-small : goal.sum_of-requires-clause-small
sum_of-requires-clause-small c =
    let limits = c.args.limits.now in
    let ws = c.deref.result.now in
    let has = subst (AreSharesOf limits c.args.handlers.now ws) c.in-Some-2.is c.in_ok-shares_of.ensures in
    subst (AllByRecursion IsSmall) (sym (c.deref-in-Some-2.ensures.value ∙ has.1))
    (table_small limits c.requires.limits.every.positive c.args.handlers.now ws has.0)

pub returns : goal.returns
returns c =
    let app = app_of c.args.app.now in
    let limits = c.args.limits.now in
    let ws = c.deref.result.now in
    let has = subst (AreSharesOf limits c.args.handlers.now ws) c.in-Some-2.is c.in_ok-shares_of.ensures in
    load_is app limits c.in-Some.last (Some c.in_ok-sum_of-in-Some-2.field-0)
    (subst (λ hs. IsLast hs c.in-Some.last) c.requires.handlers c.in-Some.ensures.last)
    (shares_some app limits c.in-Some.last ws c.in_ok-sum_of-in-Some-2.field-0
    (c.deref.ensures.value ∙ c.in_ok-works.ensures)
    (ap (λ hs. table_has_numbers limits hs ws) (sym c.requires.handlers) ∙ has.0)
    (subst (λ ss. IsRoundedUp (sum_of ss) c.in_ok-sum_of-in-Some-2.field-0)
    (c.deref-in-Some-2.ensures.value ∙ has.1 ∙ ap (λ hs. table_shares limits hs ws) c.requires.handlers)
    c.in_ok-sum_of-in-Some-2.ensures))
