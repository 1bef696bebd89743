use Rattle.rt_live.proofs.Vocabulary.{Happens, Option, Posts, Step, What, [], arith, cut, refl, subst, ◌∷◌}
use Rattle.rt_live.proofs.{Looking.posted, Turning.can_on, Turning.gave_up, Turning.goes_before, Turning.goes_on}
use Rattle.rt_live.proofs.{Woven.same_line}
use Rattle.rt_live.proofs.turns.step.Goals as goal

pub returns-in_err-look-clause-goes : goal.returns-in_err-look-clause-goes
returns-in_err-look-clause-goes g c =
    rw (gave_up _ c.from_residual.result c.from_residual.ensures.1)
    (goes_before (Happens Step ∷ []) (c.in_err-look.ensures.goes _))

pub show_step-requires-clause-writable : goal.show_step-requires-clause-writable
show_step-requires-clause-writable g c =
    (can_on (c.in_ok-look.ensures.goes _) 0 c.requires.can (omega arith) (omega arith)).able.writable

pub show_step-requires-clause-few : goal.show_step-requires-clause-few
show_step-requires-clause-few g c =
    omega (arith, (can_on (c.in_ok-look.ensures.goes _) 0 c.requires.can (omega arith) (omega arith)).few)

pub returns-in_err-shown-clause-goes : goal.returns-in_err-shown-clause-goes
returns-in_err-shown-clause-goes g c =
    rw (gave_up _ c.from_residual-in_err-shown.result c.from_residual-in_err-shown.ensures.1)
    (goes_on (c.in_ok-look.ensures.goes _)
    (record { calls = []; same = same_line c.look.new.line; done = cut (c.in_err-shown.ensures.err, refl) }))

pub forward-requires-clause-words : goal.forward-requires-clause-words
forward-requires-clause-words g c =
    (can_on (c.in_ok-look.ensures.goes _) 0 c.requires.can (omega arith) (omega arith)).able.words

pub forward-requires-clause-may : goal.forward-requires-clause-may
forward-requires-clause-may g c =
    (can_on (c.in_ok-look.ensures.goes _) 0 c.requires.can (omega arith) (omega arith)).routed

pub forward-requires-clause-room : goal.forward-requires-clause-room
forward-requires-clause-room g c =
    omega (arith, (can_on (c.in_ok-look.ensures.goes _) 0 c.requires.can (omega arith) (omega arith)).room)

pub returns-clause-goes : goal.returns-clause-goes
returns-clause-goes g c =
    goes_on (c.in_ok-look.ensures.goes _) (posted c.in_ok-shown.ensures.ok
    (subst (λ (s : Option What). Posts (g.T.Routes.leads c.args.role.now.routes) s c.look.new.line c.forward.new.line)
    c.in_ok-shown.ensures.shown c.forward.ensures.posts))
