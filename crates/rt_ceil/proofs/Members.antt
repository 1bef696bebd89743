-- The filled tables, seen at one index: the greatest priority of the bodies that use it.
use Rattle.std.proofs.Common.{◌≡◌, ℕ, ◌+◌, ◌<◌, max, if◌then◌else◌, List, [], ◌∷◌, ◌++◌, map, length, get_or, Option}
use Rattle.std.proofs.Common.{Some, None, refl, sym, ap, ◌∙◌, arith}
use Rattle.std.specs.List.{fold, list_any}
use Rattle.std.proofs.lemmas.List.{length-replicate, get_or-replicate}
use Rattle.std.proofs.lemmas.List.Sums.{fold-append}
use Rattle.rt_lemmas.proofs.Lists.{fold_keeps}
use Rattle.rt_ids.specs.declared.ids.BodyId.{BodyId}
use Rattle.rt_ids.specs.declared.ids.BodyId.TheVariants as body
use Rattle.rt_app.specs.declared.costs.TheConstants.{PRIORITIES}
use Rattle.rt_app.specs.Tree.{App, Body, Task}
use Rattle.rt_app.specs.Bodies.{Member, members, thread_members, task_members}
use Rattle.rt_app.specs.Spawned.{uses_timer}
use Rattle.rt_app.specs.Level.{holds}
use Rattle.rt_app.specs.Ceiling.{greatest_priority, lists, uses_places_of, readies, arms_level}
use Rattle.rt_ids.specs.Lists.{greatest}
use Rattle.rt_ceil.specs.Inside.Tables.{Tables, zero_tables, mono_priority, tables_after_body, used_by_thread}
use Rattle.rt_ceil.specs.Inside.Tables.{used_by_task, filled_tables}
use Rattle.rt_ceil.proofs.Greatest.{folded_raises, greatest_any, greatest_both, greatest_filtered}
use Rattle.rt_ceil.proofs.Counted.{IsSized, used_keeps, used_shared, used_free, used_ready, used_timer}

-- after a body
abbrev pub used_by : App → Tables → Member → Tables
used_by app t m = tables_after_body app m.priority m.body.shared m.body.block t

thread_is : (app : App) (id : BodyId) (t : Tables) (o : Option Body) → used_by_thread app t o
    ≡ fold (used_by app) t (thread_members id o)
thread_is app id t None = refl
thread_is app id t (Some b) = refl

tasks_are : (app : App) (n : ℕ) (t : Tables) (ts : List Task) → fold (used_by_task app) t ts
    ≡ fold (used_by app) t (task_members n ts)
tasks_are app n t [] = refl
tasks_are app n t (x ∷ ts) = tasks_are app (n + 1) (used_by_task app t x) ts

-- the pass goes over the members
pub filled_is : (app : App) → filled_tables app ≡ fold (used_by app) (zero_tables app) (members app)
filled_is app =
    let f = used_by app in
    let first = thread_members body.Init app.init in
    let second = thread_members body.Idle app.idle in
    let rest = task_members 0 app.tasks in
    tasks_are app 0 (used_by_thread app (used_by_thread app (zero_tables app) app.init) app.idle) app.tasks
    ∙ ap (λ t. fold f t rest) (thread_is app body.Idle (used_by_thread app (zero_tables app) app.init) app.idle
    ∙ ap (λ t. fold f t second) (thread_is app body.Init (zero_tables app) app.init))
    ∙ sym (fold-append f (fold f (zero_tables app) first) second rest)
    ∙ sym (fold-append f (zero_tables app) first (second ++ rest))

abbrev pub IsSizedFor : App → Tables → Type 0
IsSizedFor app t = IsSized (length app.shared) (length app.tasks) PRIORITIES t

untouched_sized : (app : App) → IsSizedFor app (zero_tables app)
untouched_sized app = record {
  shared = length-replicate (length app.shared) 0;
  free =
      length-replicate (length app.tasks) 0;
  ready = length-replicate {A = ℕ} PRIORITIES 0;
}

keeps : (app : App) (t : Tables) (m : Member) → IsSizedFor app t → IsSizedFor app (used_by app t m)
keeps app t m h = used_keeps app m.priority (length app.shared) (length app.tasks) PRIORITIES m.body.shared m.body.block
    t h

pub filled_sized : (app : App) → IsSizedFor app (filled_tables app)
filled_sized app = let e = filled_is app in rw e (fold_keeps (used_by app) (IsSizedFor app) (keeps app)
    (zero_tables app) (members app) (untouched_sized app))

from_zero : (x y : ℕ) → x ≡ 0 → max x y ≡ y
from_zero x y h = omega arith

pub filled_shared : (app : App) (r : ℕ) → r < length app.shared → get_or (filled_tables app).shared r 0
    ≡ greatest_priority (lists r) app
filled_shared app r b =
    ap (λ (t : Tables). get_or t.shared r 0) (filled_is app)
    ∙ folded_raises (used_by app) (IsSizedFor app) (keeps app) (λ t. get_or t.shared r 0)
    (λ m. if lists r m then m.priority else 0)
    (λ t m h. used_shared app m.priority r (length app.shared) (length app.tasks) PRIORITIES b m.body.shared
    m.body.block t h) (zero_tables app) (members app) (untouched_sized app)
    ∙ from_zero (get_or (zero_tables app).shared r 0)
    (greatest (map (λ m. if lists r m then m.priority else 0) (members app)))
    (get_or-replicate (length app.shared) r 0 0 b)
    ∙ greatest_filtered (lists r) (λ m. m.priority) (members app)

pub filled_free : (app : App) (n : ℕ) → n < length app.tasks → get_or (filled_tables app).free n 0
    ≡ greatest_priority (holds (uses_places_of n)) app
filled_free app n b =
    let test = holds (uses_places_of n) in
    ap (λ (t : Tables). get_or t.free n 0) (filled_is app)
    ∙ folded_raises (used_by app) (IsSizedFor app) (keeps app) (λ t. get_or t.free n 0)
    (λ m. if test m then m.priority else 0)
    (λ t m h. used_free app m.priority n (length app.shared) (length app.tasks) PRIORITIES b m.body.shared m.body.block
    t h) (zero_tables app) (members app) (untouched_sized app)
    ∙ from_zero (get_or (zero_tables app).free n 0)
    (greatest (map (λ m. if test m then m.priority else 0) (members app)))
    (get_or-replicate (length app.tasks) n 0 0 b)
    ∙ greatest_filtered test (λ m. m.priority) (members app)

pub filled_ready : (app : App) (p : ℕ) → p < PRIORITIES
    → get_or (filled_tables app).ready p 0 ≡ max (greatest_priority (holds (readies app p)) app)
    (if list_any (holds (arms_level app p)) (members app) then mono_priority app.mono else 0)
filled_ready app p b =
    let soon : Member → ℕ = λ m. if holds (readies app p) m then m.priority else 0 in
    let after : Member → ℕ = λ m. if holds (arms_level app p) m then mono_priority app.mono else 0 in
    ap (λ (t : Tables). get_or t.ready p 0) (filled_is app)
    ∙ folded_raises (used_by app) (IsSizedFor app) (keeps app) (λ t. get_or t.ready p 0) (λ m. max (soon m) (after m))
    (λ t m h. used_ready app m.priority p (length app.shared) (length app.tasks) PRIORITIES b m.body.shared m.body.block
    t h) (zero_tables app) (members app) (untouched_sized app)
    ∙ from_zero (get_or (zero_tables app).ready p 0) (greatest (map (λ m. max (soon m) (after m)) (members app)))
    (get_or-replicate PRIORITIES p 0 0 b)
    ∙ greatest_both soon after (members app) ∙ ap (λ x. max x (greatest (map after (members app))))
    (greatest_filtered (holds (readies app p)) (λ m. m.priority) (members app))
    ∙ ap (max (greatest_priority (holds (readies app p)) app))
    (greatest_any (holds (arms_level app p)) (mono_priority app.mono) (members app))

pub filled_timer : (app : App) → (filled_tables app).timer ≡ greatest_priority (holds uses_timer) app
filled_timer app =
    let test = holds uses_timer in
    ap (λ (t : Tables). t.timer) (filled_is app)
    ∙ folded_raises (used_by app) (IsSizedFor app) (keeps app) (λ t. t.timer) (λ m. if test m then m.priority else 0)
    (λ t m h. used_timer app m.priority (length app.shared) (length app.tasks) PRIORITIES m.body.shared m.body.block t
    h) (zero_tables app) (members app) (untouched_sized app)
    ∙ from_zero 0 (greatest (map (λ m. if test m then m.priority else 0) (members app))) refl
    ∙ greatest_filtered test (λ m. m.priority) (members app)
