use Rattle.std.proofs.Common.{◌≡◌, ◌<◌, List, length, take, get_or, refl, arith, ap, subst, sym, ◌∙◌}
use Rattle.std.proofs.lemmas.List.{take_all}
use Rattle.std.proofs.lemmas.Option.{slice_get-get_or}
use Rattle.rt_lemmas.proofs.Membership.{all_at}
use Rattle.rt_lemmas.proofs.Results.{on_err_from}
use Rattle.rt_code.specs.Image.{Image}
use Rattle.rt_core.specs.Core.{Core}
use Rattle.rt_script.specs.declared.line.Line.{Line}
use Rattle.rt_script.specs.Script.{events, HasName}
use Rattle.rt_run.specs.Inside.Writing.{Writes}
use Rattle.rt_run.proofs.Known.{fresh_known, still_writable, steps_below, ticks_below, time_led}
use Rattle.rt_run.proofs.Advancing.{nothing_yet}
use Rattle.rt_run.proofs.Scripted.{room, line_more, line_cut}
use Rattle.rt_run.proofs.script.run_lines.Goals as goal

pub loop-line-init : goal.loop-line-init
loop-line-init g c = record { run = nothing_yet c.args.core.now _ c.args.held.now; quiet = refl }

pub run_line-requires-clause-writable : goal.run_line-requires-clause-writable
run_line-requires-clause-writable g c =
    still_writable (events (take c.loop-line.line-index c.args.lines.now)) c.args.core.now _
    c.loop-line.invariant.run.leads
    (record { lines = c.requires.lines; known = fresh_known c.args.core.now c.requires.fresh })

pub run_line-requires-clause-few : goal.run_line-requires-clause-few
run_line-requires-clause-few g c =
    let script = c.args.lines.now in
    let i = c.loop-line.line-index in
    let at : i < length script = omega arith in
    omega (
      arith,
      c.loop-line.invariant.run.leads.steps,
      c.requires.fresh.steps,
      steps_below (events (take i script)),
      room script i c.line-item.result at c.line-item.is c.requires.script,
    )

pub run_line-requires-clause-early : goal.run_line-requires-clause-early
run_line-requires-clause-early g c =
    let script = c.args.lines.now in
    let i = c.loop-line.line-index in
    let at : i < length script = omega arith in
    omega (
      arith,
      time_led (events (take i script)) c.args.core.now _ c.loop-line.invariant.run.leads,
      ap (λ (k : Core). k.time) c.requires.fresh.core,
      ticks_below (events (take i script)),
      room script i c.line-item.result at c.line-item.is c.requires.script,
    )

pub run_line-requires-clause-declared : goal.run_line-requires-clause-declared
run_line-requires-clause-declared g c =
    let script = c.args.lines.now in
    let i = c.loop-line.line-index in
    let at : i < length script = omega arith in
    let line : Line = c.line-item.result in
    let names = c.args.core.now.image.names in
    let named : HasName names (get_or script i line) =
    all_at (HasName names) script i (get_or script i line) c.requires.declared (slice_get-get_or script i line at) in
    subst (λ (img : Image). HasName img.names line) (sym c.loop-line.invariant.run.leads.image)
    (subst (HasName names) (sym c.line-item.is) named)

pub returns-in_err-run_line-clause-err : goal.returns-in_err-run_line-clause-err
returns-in_err-run_line-clause-err g c =
    let script = c.args.lines.now in
    let i = c.loop-line.line-index in
    let at : i < length script = omega arith in
    on_err_from c.from_residual.result
    (line_cut script i c.line-item.result at c.line-item.is c.args.core.now _ c.run_line.new.core _ _ _
    c.args.held.now _
    c.loop-line.invariant.run c.in_err-run_line.ensures.err)

pub loop-line-preserved : goal.loop-line-preserved
loop-line-preserved g c =
    let script = c.args.lines.now in
    let i = c.loop-line.line-index in
    let at : i < length script = omega arith in
    record {
      run =
          line_more script i c.line-item.result at c.line-item.is c.args.core.now _ c.run_line.new.core _ _ _
          c.args.held.now _ c.run_line.new.held c.loop-line.invariant.run c.in_ok-run_line.ensures.ok;
      quiet = c.in_ok-run_line.ensures.quiet ∙ c.loop-line.invariant.quiet;
    }

pub returns-clause-ok : goal.returns-clause-ok
returns-clause-ok g c =
    let script = c.args.lines.now in
    let all : take c.loop-line.line-index script ≡ script = take_all c.loop-line.line-index script (omega arith) in
    subst (λ (s : List Line).
    Writes (events s) c.args.core.now c.loop-line.core (g.K.Sink.taken c.args.out.now) (g.K.Sink.taken c.loop-line.out)
    c.args.held.now c.loop-line.held)
    all c.loop-line.invariant.run
