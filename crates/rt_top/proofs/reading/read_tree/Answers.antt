use Rattle.std.proofs.Common.{◌≡◌, subst, ◌∙◌, refl}
use Rattle.rt_ids.specs.declared.status.Status.TheVariants as status
use Rattle.rt_grammar.specs.Text.{IsRefused}
use Rattle.rt_parse.proofs.WholeRefused.{too_long, long_refused}
use Rattle.rt_top.specs.Kinds as kind
use Rattle.rt_top.specs.Rtic.{rtic_program}
use Rattle.rt_top.specs.Refusal.{refusal_line}
use Rattle.rt_top.specs.Inside.Using.{for_memory, stop}
use Rattle.rt_top.proofs.Conducting.{refusal_reads}
use Rattle.rt_top.proofs.reading.read_tree.Goals as goal

pub returns-in-Ok-None : goal.returns-in-Ok-None
returns-in-Ok-None g c =
    let read = rw c.in-Ok-None.field-0-is at c.in-Ok-None.ensures in
    refusal_reads rtic_program kind.Tree _ _ _ read.0 read.0.1 status.App (λ line. line ≡ refusal_line too_long)
    (λ line says. (refl, (too_long, long_refused _ read.1, says))) c.refuse.result c.refuse.ensures

pub returns-in-Err-At : goal.returns-in-Err-At
returns-in-Err-At g c =
    let fault = c.in-Err-At.fault in
    let read = rw c.in-Ok-Some.field-0-is at c.in-Ok-Some.ensures in
    let refused = subst (λ t. IsRefused t fault) (c.deref.ensures.value ∙ read.1)
    ((rw c.in-Err-At.field-0-is at c.in-Err-At.ensures.refused) fault refl) in
    refusal_reads rtic_program kind.Tree _ _ _ read.0 read.0.1 status.App (λ line. line ≡ refusal_line fault)
    (λ line says. (refl, (fault, refused, says))) c.refuse-in-Err-At.result c.refuse-in-Err-At.ensures

pub returns-in-Err : goal.returns-in-Err
returns-in-Err g c = stop c.in-Err.status c.in-Err.ensures

pub returns : goal.returns
returns g c =
    let read = rw c.in-Ok-Some.field-0-is at c.in-Ok-Some.ensures in stop status.Memory (for_memory read.0.1)
