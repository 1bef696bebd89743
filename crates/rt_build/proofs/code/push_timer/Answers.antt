use Rattle.std.proofs.Common.{◌≡◌, ℕ, ◌+◌, ◌≤◌, List, length, take, drop, Option, Some, Result, Ok, Err, IfOk, OnOk}
use Rattle.std.proofs.Common.{sym, subst}
use Rattle.std.specs.List.{AllByRecursion}
use Rattle.rt_ids.specs.declared.memory.NoMemory.{NoMemory}
use Rattle.rt_app.specs.declared.app.Mono.{Mono}
use Rattle.rt_app.specs.BodyCost.{timer_size}
use Rattle.rt_app.specs.Names.{names_of}
use Rattle.rt_app.specs.Tree.{App}
use Rattle.rt_app.specs.View.{app_of}
use Rattle.rt_gen_queue.specs.Line.{Line, IsNameable}
use Rattle.rt_gen_timer.specs.TimerCode.{timer_code}
use Rattle.rt_build.specs.Entries.{Entries}
use Rattle.rt_build.specs.Order.{timer_parts}
use Rattle.rt_build.specs.Inside.Code.{Adds, AddsParts, HasTimer}
use Rattle.rt_build.proofs.Abutting.{timer_added, parts_none}
use Rattle.rt_build.proofs.Grown.{adds_none, adds_behind, timer_put, timer_absent}
use Rattle.rt_build.proofs.code.push_timer.Goals as goal

-- what follows of an answer, where there is one
module _ (app : App) (mono : Mono) (timed : app.mono ≡ Some mono) (before after : List Line) where
  adds_timer : (r : Result ℕ NoMemory) → IfOk r (λ entry. entry ≡ length before)
      → IfOk r (λ entry. take entry after ≡ before)
      → IfOk r (λ entry. AllByRecursion (IsNameable (names_of app)) (drop entry after))
      → OnOk r (length after ≤ length before + timer_size app (Some mono))
      → OnOk r (Adds app (timer_size app app.mono) before after)
  adds_timer (Ok entry) at kept named short =
      subst (λ (o : Option Mono). Adds app (timer_size app o) before after) (sym timed)
      (adds_behind app (timer_size app (Some mono)) entry before after at kept named short)
  adds_timer (Err e) at kept named short = tt

  part_timer : (r : Result ℕ NoMemory) → IfOk r (λ entry. entry ≡ length before)
      → OnOk r (length after ≤ length before + timer_size app (Some mono))
      → IfOk r (λ entry. drop entry after ≡ timer_code app mono.priority entry)
      → IfOk r (λ entry. (at : Entries) → at.timer ≡ entry → AddsParts app at (timer_parts app.mono) before after)
  part_timer (Ok entry) is short are =
      λ at begins. timer_added app at entry before after is mono timed begins short are
  part_timer (Err e) is short are = tt

  stands_timer : (r : Result ℕ NoMemory) → IfOk r (λ entry. entry ≡ length before)
      → IfOk r (λ entry. take entry after ≡ before)
      → IfOk r (λ entry. drop entry after ≡ timer_code app mono.priority entry)
      → IfOk r (λ entry. HasTimer app after entry)
  stands_timer (Ok entry) at kept put = timer_put app entry mono before after timed at kept put
  stands_timer (Err e) at kept put = tt

pub returns-in-Some-clause-adds : goal.returns-in-Some-clause-adds
returns-in-Some-clause-adds c =
    adds_timer (app_of c.args.plan.now.app.now) c.in-Some.mono c.in-Some.is c.args.lines.now.items
    c.gen_timer.new.code.items c.gen_timer.result c.gen_timer.ensures.entry c.gen_timer.ensures.kept
    c.gen_timer.ensures.names c.gen_timer.ensures.size

pub returns-in-Some-clause-part : goal.returns-in-Some-clause-part
returns-in-Some-clause-part c =
    part_timer (app_of c.args.plan.now.app.now) c.in-Some.mono c.in-Some.is c.args.lines.now.items
    c.gen_timer.new.code.items c.gen_timer.result c.gen_timer.ensures.entry c.gen_timer.ensures.size
    c.gen_timer.ensures.lines

pub returns-in-Some-clause-stands : goal.returns-in-Some-clause-stands
returns-in-Some-clause-stands c =
    stands_timer (app_of c.args.plan.now.app.now) c.in-Some.mono c.in-Some.is c.args.lines.now.items
    c.gen_timer.new.code.items c.gen_timer.result c.gen_timer.ensures.entry c.gen_timer.ensures.kept
    c.gen_timer.ensures.lines

pub returns-in-None-clause-adds : goal.returns-in-None-clause-adds
returns-in-None-clause-adds c =
    let app = app_of c.args.plan.now.app.now in
    let lines = c.args.lines.now.items in
    subst (λ (o : Option Mono). Adds app (timer_size app o) lines lines) (sym c.in-None.is) (adds_none app lines)

pub returns-in-None-clause-part : goal.returns-in-None-clause-part
returns-in-None-clause-part c at begins =
    let app = app_of c.args.plan.now.app.now in
    let lines = c.args.lines.now.items in
    subst (λ (o : Option Mono). AddsParts app at (timer_parts o) lines lines) (sym c.in-None.is)
    (parts_none app at lines)

pub returns-in-None-clause-stands : goal.returns-in-None-clause-stands
returns-in-None-clause-stands c =
    timer_absent (app_of c.args.plan.now.app.now) 0 c.args.lines.now.items c.in-None.is
