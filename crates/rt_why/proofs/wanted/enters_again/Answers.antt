use Rattle.std.proofs.Common.{Option, sym, subst, ◌∙◌}
use Rattle.rt_code.specs.declared.instr.Note.{Note}
use Rattle.rt_judge.proofs.Seen.{any_inside, inside_any}
use Rattle.rt_why.specs.Inside.Wanted.{EntersOpen}
use Rattle.rt_why.proofs.wanted.enters_again.Goals as goal

pub returns-in-Some : goal.returns-in-Some
returns-in-Some c =
    let opened = c.args.opened.now in (
      λ yes. subst (λ (n : Option Note). EntersOpen n opened) (sym c.in-Some.ensures)
          (any_inside c.in-Some.section opened (sym c.is_inside.ensures ∙ yes)),
      λ is. c.is_inside.ensures ∙ inside_any c.in-Some.section opened
          (subst (λ (n : Option Note). EntersOpen n opened) c.in-Some.ensures is),
    )
