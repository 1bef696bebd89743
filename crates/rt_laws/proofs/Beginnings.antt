-- A dispatcher and the timer handler begin with entering the section of their queue.
use Rattle.std.proofs.Common.{◌≡◌, ℕ, refl, sym, subst}
use Rattle.rt_actions.specs.Content.{Values}
use Rattle.rt_actions.specs.Action.{Enters}
use Rattle.rt_actions.specs.Doing.{Doing, over, does}
use Rattle.rt_ids.specs.declared.ids.Section.{Section}
use Rattle.rt_ids.specs.declared.ids.Section.TheVariants as section
use Rattle.rt_app.specs.Tree.{App}
use Rattle.rt_app.specs.Handlers.{Handler, Dispatches, Times}
use Rattle.rt_app.specs.Doings.{handler_doing}

-- what is left to do begins with entering the section
abbrev pub BeginsWith : Section → Doing Values → Type 0
BeginsWith x over = ⊥
BeginsWith x (does (Enters y cost) made next) = y ≡ x
BeginsWith x (does action made next) = ⊥

-- all of a handler is left to do
abbrev pub IsAllOf : App → Handler → Doing Values → Type 0
IsAllOf app handler rest = (vs : Values) × (rest ≡ handler_doing app handler vs)

pub dispatcher_begins : (app : App) (p : ℕ) (rest : Doing Values) → IsAllOf app (Dispatches p) rest
    → BeginsWith (section.Ready p) rest
dispatcher_begins app p rest all = subst (λ r. BeginsWith (section.Ready p) r) (sym all.1) refl

pub timer_begins : (app : App) (rest : Doing Values) → IsAllOf app Times rest → BeginsWith section.Timer rest
timer_begins app rest all = subst (λ r. BeginsWith section.Timer r) (sym all.1) refl
