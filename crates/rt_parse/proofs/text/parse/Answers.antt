use Rattle.std.proofs.Common.{◌≤◌, length, sym, ap, ◌∙◌, arith}
use Rattle.rt_ids.specs.declared.limits.TheConstants.{TEXT_BYTES}
use Rattle.rt_ast.specs.View.{app_of}
use Rattle.rt_parse.specs.Inside.ReadingDeclaration.{text_at}
use Rattle.rt_parse.proofs.WholeOnly.{text_only}
use Rattle.rt_parse.proofs.WholeRefused.{read_is_text}
use Rattle.rt_parse.proofs.Refusals.{refused, refused_first, no_text, same_fault}
use Rattle.rt_parse.proofs.text.parse.Goals as goal

pub returns-in-Ok-clause-ok : goal.returns-in-Ok-clause-ok
returns-in-Ok-clause-ok c =
    let short : length c.args.src.now ≤ TEXT_BYTES = omega (arith, c.if-src.false) in
    read_is_text c.args.src.now short (app_of c.in-Ok.tree) (ap text_at (sym c.of.ensures.all) ∙ c.in-Ok.ensures)

pub returns-in-Ok-clause-only : goal.returns-in-Ok-clause-only
returns-in-Ok-clause-only c other t =
    let short : length c.args.src.now ≤ TEXT_BYTES = omega (arith, c.if-src.false) in
    text_only c.args.src.now other (app_of c.in-Ok.tree) t
    (read_is_text c.args.src.now short (app_of c.in-Ok.tree) (ap text_at (sym c.of.ensures.all) ∙ c.in-Ok.ensures))

pub returns-in-Err-At-clause-refused : goal.returns-in-Err-At-clause-refused
returns-in-Err-At-clause-refused c fault e =
    let short : length c.args.src.now ≤ TEXT_BYTES = omega (arith, c.if-src.false) in
    refused c.args.src.now short c.in-Err-At.found (ap text_at (sym c.of.ensures.all)
    ∙ (rw c.in-Err-At.field-0-is at c.in-Err-At.ensures)) fault
    (sym c.fault_of.ensures ∙ same_fault c.fault_of.result fault e)

pub returns-in-Err-At-clause-first : goal.returns-in-Err-At-clause-first
returns-in-Err-At-clause-first c fault other e x =
    let short : length c.args.src.now ≤ TEXT_BYTES = omega (arith, c.if-src.false) in
    refused_first c.args.src.now short c.in-Err-At.found (ap text_at (sym c.of.ensures.all)
    ∙ (rw c.in-Err-At.field-0-is at c.in-Err-At.ensures)) fault other
    (sym c.fault_of.ensures ∙ same_fault c.fault_of.result fault e) x

pub returns-in-Err-At-clause-none : goal.returns-in-Err-At-clause-none
returns-in-Err-At-clause-none c fault e app t =
    let short : length c.args.src.now ≤ TEXT_BYTES = omega (arith, c.if-src.false) in
    no_text c.args.src.now short c.in-Err-At.found (ap text_at (sym c.of.ensures.all)
    ∙ (rw c.in-Err-At.field-0-is at c.in-Err-At.ensures)) app t
