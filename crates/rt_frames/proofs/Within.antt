-- Within the limits no number of a frame or of the stack reaches the greatest one of 32 bits.
use Rattle.std.proofs.Common.{◌≡◌, ℕ, zero, suc, ◌+◌, ◌*◌, ◌≤◌, min, max, if◌then◌else◌, Bool, true, false, List, []}
use Rattle.std.proofs.Common.{◌∷◌, ◌++◌, map, filter, cond, Option, Some, None, refl, ap, ◌∙◌, arith}
use Rattle.std.specs.List.{AllByRecursion, list_any}
use Rattle.std.proofs.lemmas.List.{map-append}
use Rattle.rt_ids.specs.declared.ids.BodyId.{BodyId}
use Rattle.rt_ids.specs.declared.ids.BodyId.TheVariants as body
use Rattle.rt_app.specs.declared.bounds.BodyBound.{BodyBound}
use Rattle.rt_app.specs.Tree.{Statement, Bind, Assign, Branch, Repeat, Locked, Emit}
use Rattle.rt_app.specs.Tree.{Pend, Spawns, Block, Empty, Then, Body, Task, App}
use Rattle.rt_app.specs.Spawned.{spawns}
use Rattle.rt_app.specs.Bodies.{Member, members, thread_members, task_members}
use Rattle.rt_app.specs.declared.bounds.Wait.{Wait}
use Rattle.rt_app.specs.Cost.{Measure}
use Rattle.rt_app.specs.BodyCost.{cost_measure}
use Rattle.rt_app.specs.Bounds.{Bounds, body_bound, bounds}
use Rattle.rt_app.specs.Waiting.{waiting_bound}
use Rattle.rt_ids.specs.Exception.{entry_words}
use Rattle.rt_ids.specs.Lists.{greatest}
use Rattle.rt_app.specs.Level.{is_of_level}
use Rattle.rt_app.specs.Frame.{block_depth, has_loop, statement_locks, locks, frame_words}
use Rattle.rt_app.specs.Frame.{expression_words, first_expression_slot, first_lock_slot, first_spawn_slot}
use Rattle.rt_frames.specs.declared.frame.Parts.{Parts}
use Rattle.rt_frames.specs.Inside.FrameParts.{block_parts}
use Rattle.rt_app.specs.Variables.{variables}
use Rattle.rt_app.specs.Limits.{inner_blocks, blocks_of, KeepsBodyLimits}
use Rattle.rt_app.specs.Limits.{KeepsThreadLimits, KeepsTaskLimits, KeepsLimits}
use Rattle.rt_app.specs.Stack.{is_bound_at, frames_of, is_timed_at, has_handler, need, priority_bytes, bytes_below}
use Rattle.rt_app.specs.Stack.{thread_frame, thread_words, stack_bytes, handler_priorities}
use Rattle.rt_frames.specs.Inside.Saturated.{saturated_number}
use Rattle.rt_frames.specs.Inside.Bounded.{member_bound}
use Rattle.rt_app.proofs.SoundStack.{few_variables, few_spawn_words}

-- each lock is a block inside another
mutual
  statement_locks_few : (s : Statement) → statement_locks s ≤ inner_blocks s
  statement_locks_few (Bind x v) = omega arith
  statement_locks_few (Assign x e at) = omega arith
  statement_locks_few (Branch e a b) = omega (arith, locks_few a, locks_few b)
  statement_locks_few (Repeat x first last turn) = omega (arith, locks_few turn)
  statement_locks_few (Locked r inner at) = omega (arith, locks_few inner)
  statement_locks_few (Emit e) = omega arith
  statement_locks_few (Pend i) = omega arith
  statement_locks_few (Spawns s) = omega arith

  locks_few : (b : Block) → locks b + 1 ≤ blocks_of b
  locks_few Empty = omega arith
  locks_few (Then s rest) = omega (arith, statement_locks_few s, locks_few rest)

choice_few : (loops : Bool) (d : ℕ) → max d (cond loops 1 0) ≤ d + 1
choice_few true d = omega arith
choice_few false d = omega arith

pub frame_few : (args : ℕ) (b : Body) → KeepsBodyLimits b → args ≤ 4 → frame_words args b ≤ 1100
frame_few args b h few =
    omega (
      arith,
      few_variables b.block,
      h.statements,
      h.nesting,
      h.depth,
      locks_few b.block,
      few_spawn_words (spawns b.block),
      choice_few (has_loop b.block) (block_depth b.block),
    )

pub thread_few : (o : Option Body) → KeepsThreadLimits o → thread_frame o ≤ 1100
thread_few None h = omega arith
thread_few (Some b) h = frame_few 0 b h (omega arith)

pub task_few : (t : Task) → KeepsTaskLimits t → frame_words t.args t.body ≤ 1100
task_few t h = frame_few t.args t.body h.body h.args

thread_words_few : (app : App) → KeepsLimits app → thread_words app ≤ 1100
thread_words_few app h = omega (arith, thread_few app.init h.init, thread_few app.idle h.idle)

most_of : (m n : ℕ) → m ≤ 1100 → n ≤ 1100 → max m n ≤ 1100
most_of m n h g = omega arith

kept_few : (b : Bool) (t : Task) (ts : List Task) → frame_words t.args t.body ≤ 1100
    → greatest (map (λ u. frame_words u.args u.body) ts) ≤ 1100 → greatest
    (map (λ u. frame_words u.args u.body) (cond b (t ∷ ts) ts)) ≤ 1100
kept_few true t ts h g = most_of (frame_words t.args t.body) (greatest (map (λ u. frame_words u.args u.body) ts)) h g
kept_few false t ts h g = g

frames_few : (test : Task → Bool) (ts : List Task) → AllByRecursion KeepsTaskLimits ts
    → greatest (map (λ u. frame_words u.args u.body) (filter test ts)) ≤ 1100
frames_few test [] h = omega arith
frames_few test (t ∷ ts) h = kept_few (test t) t (filter test ts) (task_few t h.0) (frames_few test ts h.1)

needed : (any timed : Bool) (bound soft : ℕ) → bound ≤ 1100 → soft ≤ 1100
    → max bound (max (cond any (16 + soft) 0) (cond timed 24 0)) ≤ 1116
needed true true bound soft h g = omega arith
needed true false bound soft h g = omega arith
needed false true bound soft h g = omega arith
needed false false bound soft h g = omega arith

need_few : (app : App) → KeepsLimits app → (p : ℕ) → need app p ≤ 1116
need_few app h p = needed (list_any (is_of_level p) app.tasks) (is_timed_at p app)
    (greatest (frames_of (is_bound_at p) app)) (greatest (frames_of (is_of_level p) app))
    (frames_few (is_bound_at p) app.tasks h.tasks) (frames_few (is_of_level p) app.tasks h.tasks)

entry_few : (fpu : Bool) → entry_words fpu ≤ 26
entry_few true = omega arith
entry_few false = omega arith

if_few : (b : Bool) (e n : ℕ) → e ≤ 26 → n ≤ 1116 → cond b (4 * (e + n)) 0 ≤ 4568
if_few true e n few h = omega arith
if_few false e n few h = omega arith

more : (a b n : ℕ) → a ≤ 4568 * n → b ≤ 4568 → a + b ≤ 4568 * suc n
more a b n h g = omega arith

bytes_few : (app : App) → KeepsLimits app → (n : ℕ) → bytes_below app n ≤ 4568 * n
unfolding bytes_below
bytes_few app h zero = omega arith
bytes_few app h (suc n) =
    let own = if_few (has_handler app n) (entry_words app.fpu) (need app n) (entry_few app.fpu) (need_few app h n) in
    more (bytes_below app n) (priority_bytes app n) n (bytes_few app h n) own

stack_few : (app : App) → KeepsLimits app → stack_bytes app ≤ 2000000
stack_few app h = omega (arith, thread_words_few app h, bytes_few app h 256)

pub whole : (n : ℕ) → n ≤ 1100 → saturated_number n ≡ n
whole n h = omega arith

abbrev bound_with : BodyBound → ℕ → BodyBound
bound_with b n = record { body = b.body; frame = n; cost = b.cost }

same_bound : (app : App) (m : Member) → frame_words m.args m.body ≤ 1100 → member_bound (cost_measure app) m
    ≡ body_bound app m
same_bound app m few = ap (bound_with (body_bound app m)) (whole (frame_words m.args m.body) few)

same_thread : (app : App) (id : BodyId) (o : Option Body) → KeepsThreadLimits o
    → map (member_bound (cost_measure app)) (thread_members id o) ≡ map (body_bound app) (thread_members id o)
same_thread app id None h = refl
same_thread app id (Some b) h = ap (λ x. x ∷ []) (same_bound app (record { id = id; priority = 0; args = 0; body = b })
    (thread_few (Some b) h))

same_tasks : (app : App) (n : ℕ) (ts : List Task) → AllByRecursion KeepsTaskLimits ts
    → map (member_bound (cost_measure app)) (task_members n ts) ≡ map (body_bound app) (task_members n ts)
same_tasks app n [] h = refl
same_tasks app n (t ∷ ts) h =
    ap (λ x. x ∷ map (member_bound (cost_measure app)) (task_members (n + 1) ts))
    (same_bound app (record { id = body.Task n; priority = t.priority; args = t.args; body = t.body })
    (task_few t h.0))
    ∙ ap (λ xs. body_bound app (record { id = body.Task n; priority = t.priority; args = t.args; body = t.body }) ∷ xs)
    (same_tasks app (n + 1) ts h.1)

bodies_are : (app : App) → KeepsLimits app → map (member_bound (cost_measure app)) (members app)
    ≡ map (body_bound app) (members app)
bodies_are app h =
    let f : Member → BodyBound = member_bound (cost_measure app) in
    rw (
      map-append f (thread_members body.Init app.init) (thread_members body.Idle app.idle ++ task_members 0 app.tasks),
      map-append f (thread_members body.Idle app.idle) (task_members 0 app.tasks),
      map-append (body_bound app) (thread_members body.Init app.init)
          (thread_members body.Idle app.idle ++ task_members 0 app.tasks),
      map-append (body_bound app) (thread_members body.Idle app.idle) (task_members 0 app.tasks),
      same_thread app body.Init app.init h.init,
      same_thread app body.Idle app.idle h.idle,
      same_tasks app 0 app.tasks h.tasks,
    )
    refl

small : (n : ℕ) → n ≤ 2000000 → saturated_number n ≡ n
small n h = omega arith

same_bounds : (bodies bodies' : List BodyBound) (waits waits' : List Wait) (words words' bytes bytes' : ℕ) → bodies
    ≡ bodies' → waits ≡ waits' → words ≡ words' → bytes ≡ bytes'
    → ◌≡◌ {A = Bounds} (record { bodies = bodies; waits = waits; thread_words = words; stack_bytes = bytes })
    (record { bodies = bodies'; waits = waits'; thread_words = words'; stack_bytes = bytes' })
same_bounds bodies bodies' waits waits' words words' bytes bytes' e f g h = rw (e, f, g, h) refl

pub bounds_are : (app : App) (m : Measure) (bodies : List BodyBound) (waits : List Wait) (words bytes : ℕ)
    → KeepsLimits app → m ≡ cost_measure app
    → bodies ≡ map (member_bound m) (members app) → waits
    ≡ map (λ p. record { priority = p; steps = waiting_bound app p }) (handler_priorities app) → words
    ≡ saturated_number (thread_words app) → bytes ≡ saturated_number (stack_bytes app)
    → ◌≡◌ {A = Bounds} (record { bodies = bodies; waits = waits; thread_words = words; stack_bytes = bytes })
    (bounds app)
bounds_are app m bodies waits words bytes limits measure e f g h =
    same_bounds bodies (bounds app).bodies waits (bounds app).waits words (thread_words app) bytes (stack_bytes app)
    (e ∙ ap (λ n. map (member_bound n) (members app)) measure ∙ bodies_are app limits) f
    (g ∙ whole (thread_words app) (thread_words_few app limits)) (h ∙ small (stack_bytes app) (stack_few app limits))

-- the parts of a frame of a body within the limits
pub record FewSlots (b : Body) : Type 0 where
  pub variables : variables b.block ≤ 1000
  pub depth : block_depth b.block ≤ 16
  pub locks : locks b.block ≤ 16

pub slots_few : (b : Body) → KeepsBodyLimits b → FewSlots b
slots_few b h = record {
  variables = omega (arith, few_variables b.block, h.statements);
  depth = h.depth;
  locks = omega (arith, locks_few b.block, h.nesting);
}

-- the parts that the code finds are those of the body, whose sums do not stop
abbrev pub Found : Body → Block → Parts → Type 0
Found b found p = (found ≡ b.block) × (p ≡ block_parts found)

found_few : (b : Body) (found : Block) (p : Parts) → KeepsBodyLimits b → Found b found p
    → (p.variables ≡ variables b.block) × (p.depth ≡ block_depth b.block) × (p.has_loop ≡ has_loop b.block)
    × (p.locks ≡ locks b.block)
found_few b found p h (is, parts_is) =
    let few = slots_few b h in
    let all : p ≡ block_parts b.block = parts_is ∙ ap block_parts is in (
      ap (λ p. p.variables) all ∙ whole (variables b.block) (omega (arith, few.variables)),
      ap (λ p. p.depth) all ∙ whole (block_depth b.block) (omega (arith, few.depth)),
      ap (λ p. p.has_loop) all,
      ap (λ p. p.locks) all ∙ whole (locks b.block) (omega (arith, few.locks)),
    )

pub first_expression : (args : ℕ) (b : Body) (found : Block) (p : Parts) (from first : ℕ) → args ≤ 4 → KeepsBodyLimits b
    → Found b found p → from ≡ args → first ≡ min (from + p.variables) 4294967295
    → first ≡ first_expression_slot args b
first_expression args b found p from first small h is same sum =
    let few = slots_few b h in
    let parts = found_few b found p h is in
    omega (arith, few.variables, parts.0)

pub first_mask : (args : ℕ) (b : Body) (found : Block) (p : Parts) (first words masks : ℕ) → args ≤ 4
    → KeepsBodyLimits b → Found b found p → first ≡ first_expression_slot args b
    → words ≡ max p.depth (if p.has_loop then 1 else 0) → masks ≡ min (first + words) 4294967295 → masks
    ≡ first_lock_slot args b
first_mask args b found p first words masks small h is at words_is sum =
    let few = slots_few b h in
    let parts = found_few b found p h is in
    let same : words ≡ expression_words b.block = words_is ∙ ap (λ d. max d (if p.has_loop then 1 else 0)) parts.1
    ∙ ap (λ l. max (block_depth b.block) (if l then 1 else 0)) parts.2 in
    let most = choice_few (has_loop b.block) (block_depth b.block) in
    omega (arith, few.variables, few.depth)

pub first_spawn : (args : ℕ) (b : Body) (found : Block) (p : Parts) (masks spawns : ℕ) → args ≤ 4 → KeepsBodyLimits b
    → Found b found p → masks ≡ first_lock_slot args b
    → spawns ≡ min (masks + p.locks) 4294967295 → spawns ≡ first_spawn_slot args b
first_spawn args b found p masks spawns small h is at sum =
    let few = slots_few b h in
    let parts = found_few b found p h is in
    let most = choice_few (has_loop b.block) (block_depth b.block) in
    omega (arith, few.variables, few.depth, few.locks, parts.3)
