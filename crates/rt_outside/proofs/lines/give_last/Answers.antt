use Rattle.std.proofs.Common.{◌≡◌, ◌<◌, [], length, rules}
use Rattle.std.proofs.lemmas.List.{nil_from_length}
use Rattle.rt_outside.proofs.Handing.{all_out, last_goes}
use Rattle.rt_outside.proofs.lines.give_last.Goals as goal

pub returns-then-is_empty : goal.returns-then-is_empty
returns-then-is_empty g c =
    let none : c.args.held.now ≡ [] = nil_from_length c.args.held.now (search rules) in
    λ text holds. all_out (g.L.LineSink.came c.args.sink.now) text c.args.held.now c.args.count none holds

pub returns : goal.returns
returns g c =
    let some : 0 < length c.args.held.now = search rules in
    λ text holds. last_goes (g.L.LineSink.came c.args.sink.now) (g.L.LineSink.came c.take.new.self) text c.args.held.now
    c.args.count some holds c.in_ok-take.ensures
