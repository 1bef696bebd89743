use Rattle.std.proofs.Common.{refl, sym, arith}
use Rattle.rt_lines.specs.Refusal.{too_long, refused_at}
use Rattle.rt_app.specs.View.{app_of}
use Rattle.rt_ids.specs.declared.status.Status.TheVariants as status
use Rattle.rt_inputs_audit.specs.declared.refusal.Cause.TheVariants as cause
use Rattle.rt_top.specs.Inside.Using.{for_memory, at_fault, stop}
use Rattle.rt_top.specs.Reads.{given_by}
use Rattle.rt_top.proofs.Auditing.{few_lines}
use Rattle.rt_top.proofs.Texts.{long_within, whole_within}
use Rattle.rt_topx.specs.Kinds as kind
use Rattle.rt_topx.specs.Refusal.{SaysTrace}
use Rattle.rt_topx.specs.Rticx.{rticx_program}
use Rattle.rt_top.proofs.Conducting.{refusal_reads}
use Rattle.rt_topx.proofs.Conducting.{refused_beside}
use Rattle.rt_topx.proofs.audit.judge_lines.Goals as goal

pub end-requires-clause-few : goal.end-requires-clause-few
end-requires-clause-few g c =
    let text = given_by g.S.Source.past c.args.source.now c.read_lines.new.source in
    omega (arith, few_lines text, c.in-Ok-read_lines.ensures.within, c.in-Ok-read_lines.ensures.handed.0)

pub returns-in-Err-TooLong : goal.returns-in-Err-TooLong
returns-in-Err-TooLong g c t is of_board =
    let app = app_of c.args.machine.now.code.now.app.now in
    let long = (rw c.in-Err-TooLong.field-0-is at c.in-Err-TooLong.ensures.too_long) refl in
    let quiet = (rw c.in-Err-TooLong.field-0-is at c.in-Err-TooLong.ensures.quiet) (λ e. absurd cc) in
    refusal_reads rticx_program kind.Trace t _ _ (long_within _ _ _ _ _ c.read_lines.ensures.given long, quiet) quiet
    status.Text (SaysTrace (refused_at 1 cause.TooLong))
    (λ line says.
    (refl, refused_beside app is _ of_board (refused_at 1 cause.TooLong) (too_long (omega (arith, long))) says))
    c.refuse_trace.result c.refuse_trace.ensures

pub returns-in-Err-Fault : goal.returns-in-Err-Fault
returns-in-Err-Fault g c t is of_board =
    stop status.Read (at_fault ((rw c.in-Err-Fault.field-0-is at c.in-Err-Fault.ensures.fault) refl))

pub returns-in-Err-NoMemory : goal.returns-in-Err-NoMemory
returns-in-Err-NoMemory g c t is of_board =
    let quiet = (rw c.in-Err-NoMemory.field-0-is at c.in-Err-NoMemory.ensures.quiet) (λ e. absurd cc) in
    stop status.Memory (for_memory quiet)

pub returns-in-Ok-end : goal.returns-in-Ok-end
returns-in-Ok-end g c t is of_board =
    let lines = c.in-Ok-read_lines.ensures in (
      (
        whole_within _ _ _ _ _ c.read_lines.ensures.given lines.ended lines.within,
        c.read_lines.ensures.quiet (λ e. absurd cc),
      ),
      c.in-Ok-end.ensures _ _ _ c.requires.chosen c.requires.on lines.within (sym lines.handed.0) lines.handed.1,
    )

pub returns : goal.returns
returns g c t is of_board =
    let lines = c.in-Ok-read_lines.ensures in
    let quiet = c.read_lines.ensures.quiet (λ e. absurd cc) in
    let refused = c.in-Err.ensures _ _ _ c.requires.chosen c.requires.on lines.within (sym lines.handed.0)
    lines.handed.1 in
    refusal_reads rticx_program kind.Trace t _ _
    (whole_within _ _ _ _ _ c.read_lines.ensures.given lines.ended lines.within, quiet) quiet status.Text
    (SaysTrace c.in-Err.refusal) (λ line says. (refl, refused_beside _ is _ of_board c.in-Err.refusal refused says))
    c.refuse_trace-in-Err.result c.refuse_trace-in-Err.ensures

pub returns-in_default : goal.returns-in_default
returns-in_default g c t is of_board = stop status.Memory (for_memory refl)
