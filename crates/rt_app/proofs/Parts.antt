-- The rules that an accepted application does not break, one by one.
use Rattle.std.proofs.Common.{◌≡◌, List, [], ◌++◌, flat_map}
use Rattle.rt_lemmas.proofs.Lists.{append_none_left, append_none_right}
use Rattle.rt_app.specs.declared.violation.Violation.{Violation}
use Rattle.rt_app.specs.Tree.{App}
use Rattle.rt_app.specs.Bodies.{members}
use Rattle.rt_app.specs.Declarations.{mono_priority, task_priority, priorities, used_twice, interrupt_uses, number_uses}
use Rattle.rt_app.specs.Declarations.{interrupts, dispatchers, owned_twice, hardware_tasks, declarations}
use Rattle.rt_app.specs.Listing.{listings_breaks}
use Rattle.rt_app.specs.Statements.{statements}
use Rattle.rt_app.specs.Length.{lengths}
use Rattle.rt_app.specs.Rules.{violations}

pub record Parts (app : App) : Type 0 where
  pub mono_priority : mono_priority app.bits app.mono ≡ []
  pub task_priorities : flat_map (task_priority app.bits) app.tasks ≡ []
  pub interrupts : used_twice [] (interrupt_uses app) ≡ []
  pub numbers : used_twice [] (number_uses app) ≡ []
  pub dispatchers : dispatchers app ≡ []
  pub owned : owned_twice [] (members app) ≡ []
  pub hardware : hardware_tasks app ≡ []
  pub listed : listings_breaks app ≡ []
  pub statements : statements app ≡ []
  pub lengths : lengths app ≡ []

left : (xs ys : List Violation) → xs ++ ys ≡ [] → xs ≡ []
left xs ys fine = append_none_left xs ys fine

right : (xs ys : List Violation) → xs ++ ys ≡ [] → ys ≡ []
right xs ys fine = append_none_right xs ys fine

pub parts : (app : App) → violations app ≡ [] → Parts app
parts app fine =
    let on_statements = statements app ++ lengths app in
    let behind = right (declarations app) (listings_breaks app ++ on_statements) fine in
    let last = right (listings_breaks app) on_statements behind in
    let on_owned = owned_twice [] (members app) ++ hardware_tasks app in
    let on_dispatchers = dispatchers app ++ on_owned in
    let on_interrupts = interrupts app ++ on_dispatchers in
    let declared = left (declarations app) (listings_breaks app ++ on_statements) fine in
    let first = left (priorities app) on_interrupts declared in
    let second = right (priorities app) on_interrupts declared in
    let third = left (interrupts app) on_dispatchers second in
    let fourth = right (interrupts app) on_dispatchers second in
    let fifth = right (dispatchers app) on_owned fourth in
    record {
      mono_priority = left (mono_priority app.bits app.mono) (flat_map (task_priority app.bits) app.tasks) first;
      task_priorities = right (mono_priority app.bits app.mono) (flat_map (task_priority app.bits) app.tasks) first;
      interrupts = left (used_twice [] (interrupt_uses app)) (used_twice [] (number_uses app)) third;
      numbers = right (used_twice [] (interrupt_uses app)) (used_twice [] (number_uses app)) third;
      dispatchers = left (dispatchers app) on_owned fourth;
      owned = left (owned_twice [] (members app)) (hardware_tasks app) fifth;
      hardware = right (owned_twice [] (members app)) (hardware_tasks app) fifth;
      listed = left (listings_breaks app) on_statements behind;
      statements = left (statements app) (lengths app) last;
      lengths = right (statements app) (lengths app) last;
    }
