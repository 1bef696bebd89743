use Rattle.std.proofs.Common.{refl, subst, ◌∙◌}
use Rattle.rt_ids.specs.declared.status.Status.TheVariants as status
use Rattle.rt_script.specs.Text.{IsScriptRefused, too_long}
use Rattle.rt_script.specs.declared.refusal.ScriptRefused.TheVariants as in_script
use Rattle.rt_top.specs.Kinds as kind
use Rattle.rt_top.specs.Rtic.{rtic_program}
use Rattle.rt_top.specs.Reads.{given_by}
use Rattle.rt_top.specs.SecondRefusal.{SaysScript}
use Rattle.rt_top.specs.Inside.Using.{stop}
use Rattle.rt_top.proofs.Conducting.{refusal_reads, refused_over}
use Rattle.rt_top.proofs.start.read_script_of.Goals as goal

pub returns-in-Ok-None-clause-reads : goal.returns-in-Ok-None-clause-reads
returns-in-Ok-None-clause-reads g c first app is named =
    let read = rw c.in-Ok-None.field-0-is at c.in-Ok-None.ensures in
    refusal_reads rtic_program kind.Script first _ _ read.0 read.0.1 status.Text (SaysScript in_script.TooLong)
    (λ line says. (refl, refused_over app is in_script.TooLong (too_long read.1) says)) c.refuse_script.result
    c.refuse_script.ensures

pub returns-in-Err-clause-reads : goal.returns-in-Err-clause-reads
returns-in-Err-clause-reads g c first app is named = stop c.in-Err.status c.in-Err.ensures

pub returns-clause-reads : goal.returns-clause-reads
returns-clause-reads g c first app is named =
    let gave = given_by g.S.Source.past c.args.source.now c.read_within.new.source in
    let read = rw c.in-Ok-Some.field-0-is at c.in-Ok-Some.ensures in
    let refusal = c.in-Err-read_script.refusal in
    let refused = subst (λ n. IsScriptRefused n gave refusal) named (subst
    (λ m. IsScriptRefused c.args.names.now m refusal)
    (c.deref.ensures.value ∙ read.1) c.in-Err-read_script.ensures.refused) in
    refusal_reads rtic_program kind.Script first gave _ read.0 read.0.1 status.Text (SaysScript refusal)
    (λ line says. (refl, refused_over app is refusal refused says)) c.refuse_script-in-Err-read_script.result
    c.refuse_script-in-Err-read_script.ensures
