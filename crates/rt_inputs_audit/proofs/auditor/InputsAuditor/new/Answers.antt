use Rattle.std.proofs.Common.{[], ap, sym, arith}
use Rattle.rt_inputs_audit.specs.Reading.{Standing}
use Rattle.rt_inputs_audit.proofs.auditor.InputsAuditor.new.Goals as goal

pub returns : goal.returns
returns g c = record {
  follows = c.requires.machine;
  chose = c.requires.chosen;
  stood = c.requires.on;
  inputs = c.requires.inputs;
  named = c.requires.names;
  stands = record {
    shown = [];
    few = omega arith;
    read = ap (λ p. let s : Standing = record { phase = p; lines = [] } in s) (sym c.new-2.ensures);
    judged = c.in_ok-judge.ensures c.args.board.now;
  };
}
