use Rattle.std.proofs.Common.{◌≡◌, ℕ, suc, ◌+◌, ◌<◌, refl, arith, subst, sym, ap, ◌∙◌}
use Rattle.rt_ids.specs.Naming.{IsDeclared}
use Rattle.rt_lemmas.proofs.Results.{on_err_from}
use Rattle.rt_app.specs.View.{app_of}
use Rattle.rt_code.specs.Image.{Image}
use Rattle.rt_given.specs.Words.{next_source, given_words, next_word}
use Rattle.rt_given.proofs.Sources.{after_one, source_after}
use Rattle.rt_inputs.specs.Going.{moves_at}
use Rattle.rt_inputs.specs.Script.{given_requests}
use Rattle.rt_inputs.specs.Inside.Ran.{Ran, moment}
use Rattle.rt_inputs.proofs.Known.{still_can}
use Rattle.rt_inputs.proofs.Requests.{few_still, none_yet, request_cut, request_more}
use Rattle.rt_inputs.proofs.running.run_words.Goals as goal

pub loop-done-init : goal.loop-done-init
loop-done-init g c = record {
  run =
      none_yet c.args.irq c.args.local (app_of c.args.app.now) c.args.board.now c.args.source.now
      (moment c.args.core.now c.args.registers.now) _ c.args.held.now.items;
  source = refl;
  quiet = refl;
}

pub run_word-requires-clause-can : goal.run_word-requires-clause-can
run_word-requires-clause-can g c =
    let app = app_of c.args.app.now in
    let done : ℕ = c.loop-done._done in
    still_can app c.args.board.now
    (moves_at app c.args.board.now (moment c.args.core.now c.args.registers.now)
    (given_requests c.args.irq c.args.local (given_words done c.args.source.now)))
    c.args.core.now c.loop-done.core c.loop-done.invariant.run.leads.machine c.requires.can

pub run_word-requires-clause-few : goal.run_word-requires-clause-few
run_word-requires-clause-few g c =
    let within : c.loop-done._done < c.args.count = omega arith in
    few_still c.args.irq c.args.local (app_of c.args.app.now) c.args.board.now c.loop-done._done c.args.source.now
    c.args.count (moment c.args.core.now c.args.registers.now) (moment c.loop-done.core c.loop-done.registers)
    c.loop-done.invariant.run.leads within c.requires.few

pub run_word-requires-clause-declared : goal.run_word-requires-clause-declared
run_word-requires-clause-declared g c =
    subst (λ (img : Image). IsDeclared img.names c.args.irq) (sym c.loop-done.invariant.run.leads.machine.image)
    c.requires.declared

pub returns-in_err-run_word-clause-err : goal.returns-in_err-run_word-clause-err
returns-in_err-run_word-clause-err g c =
    let within : c.loop-done._done < c.args.count = omega arith in
    let is : c.next-word.result ≡ next_word (source_after c.loop-done._done c.args.source.now) =
    c.next-word.ensures.word ∙ ap next_word c.loop-done.invariant.source in
    on_err_from c.from_residual.result
    (request_cut c.args.irq c.args.local (app_of c.args.app.now) c.args.board.now c.loop-done._done c.args.count
    c.args.source.now c.next-word.result within is (moment c.args.core.now c.args.registers.now)
    (moment c.loop-done.core c.loop-done.registers) (moment c.run_word.new.core c.run_word.new.registers) _ _ _
    c.args.held.now.items _ c.loop-done.invariant.run c.in_err-run_word.ensures.err)

pub loop-done-preserved : goal.loop-done-preserved
loop-done-preserved g c =
    let done : ℕ = c.loop-done._done in
    let first = c.args.source.now in
    let step : done + 1 ≡ suc done = omega arith in
    let is : c.next-word.result ≡ next_word (source_after done first) =
    c.next-word.ensures.word ∙ ap next_word c.loop-done.invariant.source in
    record {
      run =
          request_more c.args.irq c.args.local (app_of c.args.app.now) c.args.board.now done first c.next-word.result is
          (moment c.args.core.now c.args.registers.now) (moment c.loop-done.core c.loop-done.registers)
          (moment c.run_word.new.core c.run_word.new.registers) _ _ _ c.args.held.now.items _
          c.run_word.new.held.items c.loop-done.invariant.run c.in_ok-run_word.ensures.ok;
      source =
          c.next-word.ensures.behind ∙ ap next_source c.loop-done.invariant.source ∙ sym (after_one done first)
          ∙ ap (λ n. source_after n first) (sym step);
      quiet = c.in_ok-run_word.ensures.quiet ∙ c.loop-done.invariant.quiet;
    }

pub returns-clause-ok : goal.returns-clause-ok
returns-clause-ok g c =
    let all : c.loop-done._done ≡ c.args.count = omega arith in
    subst (λ n. Ran (app_of c.args.app.now) c.args.board.now
    (given_requests c.args.irq c.args.local (given_words n c.args.source.now))
    (moment c.args.core.now c.args.registers.now) (moment c.loop-done.core c.loop-done.registers)
    (g.K.Sink.taken c.args.out.now) (g.K.Sink.taken c.loop-done.out) c.args.held.now.items c.loop-done.held.items)
    all c.loop-done.invariant.run
