-- The handlers of an application are those of its tasks, by what serves their interrupts.
use Rattle.std.proofs.Common.{◌≡◌, ℕ, zero, suc, ◌+◌, ◌≤◌, ◌==◌, ◌&&◌, ◌||◌, not, nat_lt, Bool, true, false, Contains}
use Rattle.std.proofs.Common.{List, [], ◌∷◌, ◌++◌, slice_get}
use Rattle.std.proofs.Common.{Option, Some, None, refl, sym, ap, subst, ◌∙◌, arith, eq-eqb}
use Rattle.std.specs.Prelude.{is_none}
use Rattle.std.specs.List.{AllByRecursion}
use Rattle.std.proofs.lemmas.Option.{none-some, same_Some}
use Rattle.std.proofs.lemmas.Bool.{eqb-true}
use Rattle.rt_lemmas.proofs.Bools.{true_and_false, and_parts}
use Rattle.rt_lemmas.proofs.Lists.{AreFrom, all_from, first_from, rest_from, found}
use Rattle.rt_lemmas.proofs.Membership.{all_append, all_at, any_one}
use Rattle.rt_ids.specs.Lists.{is_some_and, or_zero, then_from}
use Rattle.rt_ids.specs.Choice.{IsIn}
use Rattle.rt_app.specs.Tree.{Task, App}
use Rattle.rt_app.specs.Level.{is_software, is_of_level, levels}
use Rattle.rt_app.specs.Handlers.{Runs, Dispatches, Service, task_services, services, irq_number, dispatcher_of}
use Rattle.rt_app.specs.Sending.{dispatcher_number}
use Rattle.rt_app.specs.Accepted.{IsAccepted}
use Rattle.rt_app.proofs.Members.{in_front, in_back}
use Rattle.rt_laws.specs.Services.{service_at}
use Rattle.rt_laws.proofs.Dispatchers.{only_service, dispatcher_serves, dispatcher_served}
use Rattle.rt_laws.proofs.FineHandlers.{all_in}
use Rattle.rt_respond.specs.Form.{is_of_form}
use Rattle.rt_respond.specs.Handlers.{serving_irq, job_cost, own_handler, task_handlers, handlers, is_at}
use Rattle.rt_respond.specs.declared.handler.Handler.{Handler}
use Rattle.rt_respond_laws.proofs.Tasks.{software_level, services_have, level_task, IsServing, ByTask, ByLevel}
use Rattle.rt_respond_laws.proofs.Tasks.{is_serving}
use Rattle.rt_respond_laws.proofs.Tasks.{service_number}

zero_more : (n : ℕ) → n ≡ n + 0
zero_more n = omega arith

one_more : (n k : ℕ) → n + 1 + k ≡ n + suc k
one_more n k = omega arith

none_more : (n : ℕ) → 0 + n ≡ n
none_more n = omega arith

module _ (app : App) (accepted : IsAccepted app) where
  -- the handler of a task whose jobs run in an interrupt of this index and number
  abbrev pub handler_for : ℕ → Task → ℕ → ℕ → Handler
  handler_for n t irq number =
      record {
        irq = irq;
        number = number;
        priority = t.priority;
        task = n;
        steps = job_cost app t;
        is_dispatcher = is_software t;
      }

  handlers_have : (n : ℕ) (ts : List Task) (k : ℕ) (t : Task) (irq number : ℕ) → slice_get ts k ≡ Some t
      → serving_irq app t t.binds ≡ Some irq → irq_number app irq ≡ Some number
      → IsIn (task_handlers app n ts) (handler_for (n + k) t irq number)
  handlers_have n [] k t irq number at serves is = absurd (none-some t at)
  handlers_have n (u ∷ ts) zero t irq number at serves is =
      let same : u ≡ t = same_Some u t at in
      in_front (own_handler app n u (serving_irq app u u.binds)
      (then_from (serving_irq app u u.binds) (irq_number app))) (task_handlers app (n + 1) ts)
      (handler_for (n + 0) t irq number)
      (subst (λ x. IsIn (own_handler app n x (serving_irq app x x.binds)
      (then_from (serving_irq app x x.binds) (irq_number app))) (handler_for (n + 0) t irq number)) (sym same)
      (subst (λ o. IsIn (own_handler app n t o (then_from o (irq_number app))) (handler_for (n + 0) t irq number))
      (sym serves)
      (subst (λ o. IsIn (own_handler app n t (Some irq) o) (handler_for (n + 0) t irq number)) (sym is) (
        0,
        ap (λ k. Some (handler_for k t irq number)) (zero_more n),
      ))))
  handlers_have n (u ∷ ts) (suc k) t irq number at serves is =
      in_back (own_handler app n u (serving_irq app u u.binds)
      (then_from (serving_irq app u u.binds) (irq_number app))) (task_handlers app (n + 1) ts)
      (handler_for (n + suc k) t irq number)
      (subst (λ m. IsIn (task_handlers app (n + 1) ts) (handler_for m t irq number)) (one_more n k)
      (handlers_have (n + 1) ts k t irq number at serves is))

  -- a task has a handler, where its interrupt has a number
  pub has_handler : (n : ℕ) (t : Task) (irq number : ℕ) → slice_get app.tasks n ≡ Some t
      → serving_irq app t t.binds ≡ Some irq → irq_number app irq ≡ Some number
      → IsIn (handlers app) (handler_for n t irq number)
  has_handler n t irq number at serves is =
      subst (λ m. IsIn (handlers app) (handler_for m t irq number)) (none_more n)
      (handlers_have 0 app.tasks n t irq number at serves is)

  -- a handler is that of a task
  pub record IsOfTask (h : Handler) : Type 0 where
    pub row : Task
    pub at : slice_get app.tasks h.task ≡ Some row
    pub serves : serving_irq app row row.binds ≡ Some h.irq
    pub number : irq_number app h.irq ≡ Some h.number
    pub priority : h.priority ≡ row.priority
    pub steps : h.steps ≡ job_cost app row
    pub dispatcher : h.is_dispatcher ≡ is_software row

  of_tasks : (n : ℕ) (ts : List Task) → AreFrom app.tasks n ts → AllByRecursion IsOfTask (task_handlers app n ts)
  of_tasks n [] from = tt
  of_tasks n (t ∷ ts) from =
      all_append IsOfTask (own_handler app n t (serving_irq app t t.binds)
      (then_from (serving_irq app t t.binds) (irq_number app))) (task_handlers app (n + 1) ts)
      (own (serving_irq app t t.binds) refl (then_from (serving_irq app t t.binds) (irq_number app)) refl)
      (of_tasks (n + 1) ts (rest_from app.tasks n t ts from))
    where
      own : (o : Option ℕ) → serving_irq app t t.binds ≡ o → (m : Option ℕ)
          → then_from (serving_irq app t t.binds) (irq_number app) ≡ m
          → AllByRecursion IsOfTask (own_handler app n t o m)
      own None is m number = tt
      own (Some i) is None number = tt
      own (Some i) is (Some k) number = (
        record {
          row = t;
          at = first_from app.tasks n t ts from;
          serves = is;
          number = sym (ap (λ o. then_from o (irq_number app)) is) ∙ number;
          priority = refl;
          steps = refl;
          dispatcher = refl;
        },
        tt,
      )

  pub handler_of_task : (h : Handler) → IsIn (handlers app) h → IsOfTask h
  handler_of_task h is =
      all_at IsOfTask (handlers app) is.0 h (of_tasks 0 app.tasks (all_from app.tasks)) is.1

  -- a handler that is a dispatcher's is of a level
  pub record IsOfLevel (h : Handler) : Type 0 where
    pub known : Contains (levels app) h.priority
    pub of : dispatcher_of app h.priority ≡ Some h.irq
    pub number : h.number ≡ dispatcher_number app h.priority

  pub of_level : (h : Handler) → IsIn (handlers app) h → h.is_dispatcher ≡ true → IsOfLevel h
  of_level h there is =
      let of = handler_of_task h there in
      let soft : is_software of.row ≡ true = sym of.dispatcher ∙ is in
      by of of.row.binds refl soft
    where
      by : (of : IsOfTask h) → (o : Option ℕ) → of.row.binds ≡ o → is_software of.row ≡ true → IsOfLevel h
      by of (Some j) binds soft = absurd (bound_hard of.row j binds soft)
        where
          bound_hard : (t : Task) (j : ℕ) → t.binds ≡ Some j → is_software t ≡ true → ⊥
          bound_hard t j binds soft = cc
      by of None binds soft =
          let serves : dispatcher_of app of.row.priority ≡ Some h.irq =
          sym (ap (serving_irq app of.row) binds) ∙ of.serves in
          let own : dispatcher_of app h.priority ≡ Some h.irq = ap (dispatcher_of app) of.priority ∙ serves in
          record {
            known = subst (Contains (levels app)) (sym of.priority)
                (software_level app accepted h.task of.row of.at soft);
            of = own;
            number = sym (ap or_zero (ap (λ o. then_from o (irq_number app)) own ∙ of.number));
          }

  -- another binds its interrupt
  pub binds_own : (h : Handler) (of : IsOfTask h) → h.is_dispatcher ≡ false → of.row.binds ≡ Some h.irq
  binds_own h of is = by of.row.binds refl
    where
      by : (o : Option ℕ) → of.row.binds ≡ o → of.row.binds ≡ Some h.irq
      by None binds =
          absurd (true_and_false (is_software of.row) (none_soft of.row binds) (sym of.dispatcher ∙ is))
        where
          none_soft : (t : Task) → t.binds ≡ None → is_software t ≡ true
          none_soft t binds = ap is_none binds
      by (Some j) binds = binds ∙ sym (ap (serving_irq app of.row) binds) ∙ of.serves

  -- a handler serves its interrupt
  pub record ServesAs (h : Handler) : Type 0 where
    pub service : Service
    pub at : service_at app h.number ≡ Some service
    pub priority : service.priority ≡ h.priority
    pub runs : h.is_dispatcher ≡ false → service.handler ≡ Runs h.task
    pub dispatches : h.is_dispatcher ≡ true → service.handler ≡ Dispatches h.priority

  pub handler_serves : (h : Handler) → IsIn (handlers app) h → ServesAs h
  handler_serves h is = by h.is_dispatcher refl
    where
      of : IsOfTask h
      of = handler_of_task h is

      never : h.is_dispatcher ≡ true → h.is_dispatcher ≡ false → ⊥
      never dispatches wired = true_and_false h.is_dispatcher dispatches wired

      by : (b : Bool) → h.is_dispatcher ≡ b → ServesAs h
      by true dispatches =
          let level = of_level h is dispatches in
          let one = dispatcher_served app accepted h.priority level.known in
          let serves = dispatcher_serves app accepted h.priority level.known one.0 one.1 in
          record {
            service = one.0;
            at = subst (λ n. service_at app n ≡ Some one.0) (sym level.number) one.1;
            priority = one.2;
            runs = λ wired. absurd (never dispatches wired);
            dispatches = λ is. serves.0;
          }
      by false wired =
          let w : Service = record { irq = h.irq; handler = Runs (0 + h.task); priority = of.row.priority } in
          let there : IsIn (services app) w =
          in_front (task_services 0 app.tasks) _ w
          (services_have app accepted 0 app.tasks h.task of.row h.irq of.at (binds_own h of wired)) in
          let one = found (λ (s : Service). is_some_and (λ n. n == h.number) (irq_number app s.irq)) (services app)
          there.0 w
          there.1 (ap (is_some_and (λ n. n == h.number)) of.number ∙ eq-eqb h.number h.number refl) in
          let same : one.0 ≡ w = only_service app accepted h.number one.0 w there of.number one.1 in
          record {
            service = one.0;
            at = one.1;
            priority = ap (λ (v : Service). v.priority) same ∙ sym of.priority;
            runs = λ is. ap (λ (v : Service). v.handler) same ∙ ap Runs (none_more h.task);
            dispatches = λ dispatches. absurd (never dispatches wired);
          }

  -- no two handlers are of one task
  make : ℕ → ℕ → ℕ → ℕ → ℕ → Bool → Handler
  make irq number priority task steps is_dispatcher =
      record {
        irq = irq;
        number = number;
        priority = priority;
        task = task;
        steps = steps;
        is_dispatcher = is_dispatcher;
      }

  made : (h : Handler) → h ≡ make h.irq h.number h.priority h.task h.steps h.is_dispatcher
  unfolding make
  made h = refl

  pub same_by_task : (h g : Handler) → IsIn (handlers app) h → IsIn (handlers app) g → h.task ≡ g.task → h ≡ g
  same_by_task h g h_in g_in same =
      let one = handler_of_task h h_in in
      let other = handler_of_task g g_in in
      let row : one.row ≡ other.row = same_Some one.row other.row (sym one.at ∙ ap (slice_get app.tasks) same ∙
      other.at)
      in
      let irq : h.irq ≡ g.irq =
      same_Some h.irq g.irq (sym one.serves ∙ ap (λ (t : Task). serving_irq app t t.binds) row ∙ other.serves) in
      let number : h.number ≡ g.number =
      same_Some h.number g.number (sym one.number ∙ ap (irq_number app) irq ∙ other.number) in
      let priority = one.priority ∙ ap (λ (t : Task). t.priority) row ∙ sym other.priority in
      let steps = one.steps ∙ ap (λ (t : Task). job_cost app t) row ∙ sym other.steps in
      let kind = one.dispatcher ∙ ap is_software row ∙ sym other.dispatcher in
      made h
      ∙ ap (λ n. make n h.number h.priority h.task h.steps h.is_dispatcher) irq
      ∙ ap (λ n. make g.irq n h.priority h.task h.steps h.is_dispatcher) number
      ∙ ap (λ n. make g.irq g.number n h.task h.steps h.is_dispatcher) priority
      ∙ ap (λ n. make g.irq g.number g.priority n h.steps h.is_dispatcher) same
      ∙ ap (λ n. make g.irq g.number g.priority g.task n h.is_dispatcher) steps
      ∙ ap (make g.irq g.number g.priority g.task g.steps) kind ∙ sym (made g)

  tasks_from : (n : ℕ) (ts : List Task) → AllByRecursion (λ h. n ≤ h.task) (task_handlers app n ts)
  tasks_from n [] = tt
  tasks_from n (t ∷ ts) =
      all_append (λ h. n ≤ h.task) (own_handler app n t (serving_irq app t t.binds)
      (then_from (serving_irq app t t.binds) (irq_number app))) (task_handlers app (n + 1) ts)
      (own (serving_irq app t t.binds) (then_from (serving_irq app t t.binds) (irq_number app)))
      (weaker (task_handlers app (n + 1) ts) (tasks_from (n + 1) ts))
    where
      own : (irq number : Option ℕ) → AllByRecursion (λ h. n ≤ h.task) (own_handler app n t irq number)
      own (Some irq) (Some number) = (omega arith, tt)
      own (Some irq) None = tt
      own None number = tt

      weaker : (hs : List Handler) → AllByRecursion (λ h. n + 1 ≤ h.task) hs → AllByRecursion (λ h. n ≤ h.task) hs
      weaker [] all = tt
      weaker (h ∷ hs) all = let first = all.0 in (omega (arith, first), weaker hs all.1)

  -- what relates no two handlers of different tasks holds of none of them and those behind
  module _ (Alike : Handler → Handler → Type 0)
      (never : (h g : Handler) → IsIn (handlers app) h → IsIn (handlers app) g → Alike h g → h.task ≡ g.task) where
    abbrev pub Apart : List Handler → Type 0
    Apart [] = Unit {0}
    Apart (h ∷ hs) = AllByRecursion (λ g. ¬ Alike h g) hs × Apart hs

    apart_from : (n : ℕ) (ts : List Task) → ((h : Handler) → IsIn (task_handlers app n ts) h → IsIn (handlers app) h)
        → Apart (task_handlers app n ts)
    apart_from n [] within = tt
    apart_from n (t ∷ ts) within =
        own (λ deeper. apart_from (n + 1) ts deeper) (serving_irq app t t.binds)
        (then_from (serving_irq app t t.binds) (irq_number app)) within
      where
        own : (((h : Handler) → IsIn (task_handlers app (n + 1) ts) h → IsIn (handlers app) h)
            → Apart (task_handlers app (n + 1) ts)) → (irq number : Option ℕ)
            → ((h : Handler) → IsIn (own_handler app n t irq number ++ task_handlers app (n + 1) ts) h
            → IsIn (handlers app) h)
            → Apart (own_handler app n t irq number ++ task_handlers app (n + 1) ts)
        own next None number all = next all
        own next (Some irq) None all = next all
        own next (Some irq) (Some number) all =
            let h : Handler = handler_for n t irq number in (
              all_in (λ g. ¬ Alike h g) (task_handlers app (n + 1) ts) (λ g there alike.
                  let same = never h g (all h (0, refl)) (all g (suc there.0, there.1)) alike in
                  let later = all_at (λ h. n + 1 ≤ h.task) (task_handlers app (n + 1) ts) there.0 g
                  (tasks_from (n + 1) ts) there.1 in
                  omega (arith, same, later)),
              next (λ g there. all g (suc there.0, there.1)),
            )

    pub apart : Apart (handlers app)
    apart = apart_from 0 app.tasks (λ h is. is)

-- what is of one priority and number with another stands where it does
pub at_alike : (i h g : Handler) → h.priority ≡ g.priority → h.number ≡ g.number → is_at i h ≡ is_at i g
at_alike i h g priority number =
    ap (λ q. not (nat_lt q i.priority || ((i.priority == q) && nat_lt i.number h.number))) priority
    ∙ ap (λ n. not (nat_lt g.priority i.priority || ((i.priority == g.priority) && nat_lt i.number n))) number

module _ (app : App) (accepted : IsAccepted app) (form : is_of_form app ≡ true) where
  -- the handler of what serves an interrupt
  pub record RowOf (irq : ℕ) (x : Service) : Type 0 where
    pub handler : Handler
    pub declared : IsIn (handlers app) handler
    pub number : handler.number ≡ irq
    pub priority : x.priority ≡ handler.priority
    pub runs : handler.is_dispatcher ≡ false → x.handler ≡ Runs handler.task
    pub dispatches : handler.is_dispatcher ≡ true → x.handler ≡ Dispatches handler.priority

  pub row_of : (irq : ℕ) (x : Service) → service_at app irq ≡ Some x → RowOf irq x
  row_of irq x at = by (is_serving app accepted form irq x at)
    where
      of_row : (h : Handler) → IsIn (handlers app) h → h.number ≡ irq → RowOf irq x
      of_row h there number =
          let serves = handler_serves app accepted h there in
          let same : x ≡ serves.service =
          same_Some x serves.service (sym at ∙ ap (service_at app) (sym number) ∙ serves.at) in
          record {
            handler = h;
            declared = there;
            number = number;
            priority = ap (λ (s : Service). s.priority) same ∙ serves.priority;
            runs = λ is. ap (λ (s : Service). s.handler) same ∙ serves.runs is;
            dispatches = λ is. ap (λ (s : Service). s.handler) same ∙ serves.dispatches is;
          }

      by : IsServing app accepted form x → RowOf irq x
      by (ByTask runs) =
          of_row (handler_for app accepted runs.task runs.row x.irq irq)
          (has_handler app accepted runs.task runs.row x.irq irq runs.at
          (ap (serving_irq app runs.row) runs.binds) (service_number app accepted form irq x at)) refl
      by (ByLevel runs) =
          let one = any_one (is_of_level runs.level) app.tasks (level_task app accepted runs.level runs.known) in
          let parts = and_parts (is_software one.1) (one.1.priority == runs.level) one.3 in
          of_row (handler_for app accepted one.0 one.1 x.irq irq)
          (has_handler app accepted one.0 one.1 x.irq irq one.2
          (soft_serves one.1 one.1.binds refl parts.0
          (ap (dispatcher_of app) (eqb-true one.1.priority runs.level parts.1) ∙ runs.of))
          (service_number app accepted form irq x at)) refl
        where
          soft_serves : (t : Task) → (o : Option ℕ) → t.binds ≡ o → is_software t ≡ true
              → dispatcher_of app t.priority ≡ Some x.irq → serving_irq app t t.binds ≡ Some x.irq
          soft_serves t None binds soft is = ap (serving_irq app t) binds ∙ is
          soft_serves t (Some j) binds soft is = absurd (bound_hard t j binds soft)
            where
              bound_hard : (t : Task) (j : ℕ) → t.binds ≡ Some j → is_software t ≡ true → ⊥
              bound_hard t j binds soft = cc
