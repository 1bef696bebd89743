use Rattle.std.proofs.Common.{inr}
use Rattle.rt_ast.specs.View as written
use Rattle.rt_ast.specs.declared.app.AppTree.{AppTree}
use Rattle.rt_app.specs.declared.app.App as code
use Rattle.rt_build.proofs.Accepting.{accepted_by, only_by, first_by, none_by, moved, unread_by, unread_first_by}
use Rattle.rt_build.proofs.text.accept.Goals as goal

pub returns-in-Ok-clause-ok : goal.returns-in-Ok-clause-ok
returns-in-Ok-clause-ok c = accepted_by c.args.src.now (written.app_of c.in-Ok.tree) c.in-Ok.ensures.ok
    c.in-Ok.ensures.only c.judge.result c.judge.ensures.ok

pub returns-in-Ok-clause-only : goal.returns-in-Ok-clause-only
returns-in-Ok-clause-only c = only_by c.args.src.now (written.app_of c.in-Ok.tree) c.in-Ok.ensures.ok
    c.in-Ok.ensures.only c.judge.result c.judge.ensures.ok

pub returns-in-Ok-clause-refused : goal.returns-in-Ok-clause-refused
returns-in-Ok-clause-refused c = λ fault e. inr
    (record { tree = written.app_of c.in-Ok.tree; text = c.in-Ok.ensures.ok; broken = c.judge.ensures.refused fault e })

pub returns-in-Ok-clause-first : goal.returns-in-Ok-clause-first
returns-in-Ok-clause-first c = λ fault other e. first_by c.args.src.now (written.app_of c.in-Ok.tree) c.in-Ok.ensures.ok
    c.in-Ok.ensures.only fault other (c.judge.ensures.refused fault e)

pub returns-in-Ok-clause-none : goal.returns-in-Ok-clause-none
returns-in-Ok-clause-none c = λ fault e. none_by c.args.src.now (written.app_of c.in-Ok.tree) c.in-Ok.ensures.ok
    c.in-Ok.ensures.only fault (c.judge.ensures.refused fault e)

pub returns-in-Err-clause-refused : goal.returns-in-Err-clause-refused
returns-in-Err-clause-refused c = λ fault e. unread_by c.args.src.now fault
    (c.in-Err.ensures.refused fault (moved {A = code.App} {B = AppTree} c.in-Err.refused fault e))

pub returns-in-Err-clause-first : goal.returns-in-Err-clause-first
returns-in-Err-clause-first c = λ fault other e.
    unread_first_by c.args.src.now fault (λ o. c.in-Err.ensures.first fault o
    (moved {A = code.App} {B = AppTree} c.in-Err.refused fault e))
    (c.in-Err.ensures.none fault (moved {A = code.App} {B = AppTree} c.in-Err.refused fault e)) other

pub returns-in-Err-clause-none : goal.returns-in-Err-clause-none
returns-in-Err-clause-none c = λ fault e app is. c.in-Err.ensures.none fault
    (moved {A = code.App} {B = AppTree} c.in-Err.refused fault e) is.tree is.text
