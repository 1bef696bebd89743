use Rattle.std.proofs.Common.{◌≡◌, ℕ, ◌+◌, ◌≤◌, List, [], ◌∷◌, length, drop, Some, None, IfOk, OnOk, Result, Ok, Err}
use Rattle.std.proofs.Common.{option_map, ap, ◌++◌}
use Rattle.std.proofs.lemmas.Result.{IfOk-weaker}
use Rattle.rt_ids.specs.declared.memory.NoMemory.{NoMemory}
use Rattle.rt_app.specs.BodyCost.{size_measure, cost_of}
use Rattle.rt_app.specs.Tree.{Body, App}
use Rattle.rt_app.specs.View.{app_of, body_of}
use Rattle.rt_code.specs.declared.image.BodyRow.{BodyRow}
use Rattle.rt_code.specs.declared.instr.Instr.TheVariants as instr
use Rattle.rt_gen_body.specs.Bodies.{BodyStands}
use Rattle.rt_gen_body.specs.BodyCode.{body_code}
use Rattle.rt_gen_body.specs.Form.{HasForm}
use Rattle.rt_ids.specs.declared.ids.BodyId.TheVariants as body
use Rattle.rt_gen_queue.specs.Line.{Line}
use Rattle.rt_build.specs.Entries.{Entries}
use Rattle.rt_build.specs.Image.{IdleStands}
use Rattle.rt_build.specs.Order.{OfBody}
use Rattle.rt_build.specs.Inside.Code.{AddsParts}
use Rattle.rt_build.proofs.Abutting.{idle_added, wait_added}
use Rattle.rt_build.proofs.Grown.{idle_declared, idle_absent}
use Rattle.rt_build.proofs.code.push_idle.Goals as goal

-- what follows of an answer, and of what holds where there is one
if_ok_with : {X E : Type 0} (r : Result X E) (P : X → Type 0) (Q : Type 0) (R : X → Type 0)
    → ((x : X) → P x → Q → R x) → IfOk r P → OnOk r Q → IfOk r R
if_ok_with (Ok x) P Q R step p q = step x p q
if_ok_with (Err e) P Q R step p q = tt

-- likewise of what it adds
module _ (app : App) (before after : List Line) where
  idle_part : (b : Body) → app.idle ≡ Some b → (r : Result ℕ NoMemory) → IfOk r (λ entry. entry ≡ length before)
      → OnOk r (length after ≤ length before + cost_of (size_measure app) app.idle)
      → IfOk r (λ entry. HasForm app body.Idle entry (drop entry after))
      → IfOk r (λ entry. drop entry after ≡ body_code app body.Idle entry)
      → IfOk r (λ entry. (at : Entries) → at.idle ≡ entry → AddsParts app at (OfBody body.Idle ∷ []) before after)
  idle_part b declared (Ok entry) is short formed are =
      λ at begins. idle_added app at entry before after is b declared begins short formed are
  idle_part b declared (Err e) is short formed are = tt

  wait_part : app.idle ≡ None → (r : Result ℕ NoMemory) → IfOk r (λ entry. entry ≡ length before)
      → OnOk r (after ≡ before ++ (instr.Wait, None) ∷ [])
      → IfOk r (λ entry. (at : Entries) → at.idle ≡ entry → AddsParts app at (OfBody body.Idle ∷ []) before after)
  wait_part absent (Ok entry) is grown = λ at begins. wait_added app at entry before after is absent begins grown
  wait_part absent (Err e) is grown = tt

pub returns-in-Some-clause-part : goal.returns-in-Some-clause-part
returns-in-Some-clause-part c =
    idle_part (app_of c.args.plan.now.app.now) c.args.lines.now.items c.gen_body.new.code.items
    (body_of c.in-Some._body) (ap (option_map body_of) c.in-Some.is) c.gen_body.result c.gen_body.ensures.entry
    c.gen_body.ensures.size c.gen_body.ensures.form c.gen_body.ensures.lines

pub returns-in-None-clause-part : goal.returns-in-None-clause-part
returns-in-None-clause-part c =
    wait_part (app_of c.args.plan.now.app.now) c.args.lines.now.items c.push_wait.new.lines.items
    (ap (option_map body_of) c.in-None.is) c.push_wait.result c.push_wait.ensures.entry c.push_wait.ensures.line

pub returns-in-Some-clause-stands : goal.returns-in-Some-clause-stands
returns-in-Some-clause-stands c =
    IfOk-weaker c.gen_body.result (λ entry. BodyStands (app_of c.args.plan.now.app.now) body.Idle
    c.gen_body.new.code.items entry)
    (λ entry. (more : List Line) (bodies : List BodyRow)
    → IdleStands (app_of c.args.plan.now.app.now) (c.gen_body.new.code.items ++ more) bodies entry
    (app_of c.args.plan.now.app.now).idle)
    (λ entry stands. idle_declared (app_of c.args.plan.now.app.now) c.gen_body.new.code.items entry
    (body_of c.in-Some._body) (ap (option_map body_of) c.in-Some.is) stands)
    c.gen_body.ensures.stands

pub returns-in-None-clause-stands : goal.returns-in-None-clause-stands
returns-in-None-clause-stands c =
    if_ok_with c.push_wait.result _ _
    (λ entry. (more : List Line) (bodies : List BodyRow)
    → IdleStands (app_of c.args.plan.now.app.now) (c.push_wait.new.lines.items ++ more) bodies entry
    (app_of c.args.plan.now.app.now).idle)
    (λ entry at grown. idle_absent (app_of c.args.plan.now.app.now) c.args.lines.now.items c.push_wait.new.lines.items
    entry (ap (option_map body_of) c.in-None.is) at grown)
    c.push_wait.ensures.entry c.push_wait.ensures.line
