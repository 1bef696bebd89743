use Rattle.std.proofs.Common.{Some}
use Rattle.rt_app.specs.View.{app_of}
use Rattle.rt_topx.proofs.audit.judge_source.Given as goal

abbrev pub ghosts-judge_lines : goal.ghosts-judge_lines
ghosts-judge_lines g a = record {
  app = Some (app_of a.machine.now.code.now.app.now);
  board = Some a.board.now;
}
