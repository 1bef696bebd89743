use Rattle.std.proofs.Common.{◌≡◌, ◌++◌, ◌∷◌, List, length, slice_range, rules, sym, subst}
use Rattle.rt_points.specs.declared.point.Opened.{Opened}
use Rattle.rt_judge.specs.Inside.Nestings.{IsSaid, inside_of}
use Rattle.rt_judge.specs.declared.nesting.Nesting.{Nesting}
use Rattle.rt_judge.proofs.Nestings.{said_enter}
use Rattle.rt_judge.proofs.nesting.Nestings.enter.Goals as goal

pub returns : goal.returns
returns c =
    let old = c.args.self.now.opened.items in
    let new = c.copy_to_end.new.opened.items in
    let n = c.args.nesting in
    let o : Opened = record { section = c.args.section; kind = c.args.kind } in
    let start : c.len-start.result ≡ length old = search rules in
    let end : c.len-end.result ≡ length new = search rules in
    subst (λ (behind : Nesting). IsSaid old new behind (o ∷ inside_of old n))
    (λ i. record { start = sym start i; end = sym end i })
    (said_enter old new n o c.requires
    (subst (λ (xs : List Opened). new ≡ xs ++ slice_range xs n.start n.end) c.in_ok-push.ensures.items
    c.in_ok-copy_to_end.ensures))
