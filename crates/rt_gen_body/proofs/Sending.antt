-- The code of a spawn with its arguments: their values come into the slots of the spawn, and then the message goes, to
-- the ready queue or to the timer queue, or what its handle takes back or puts to another instant.
use Rattle.rt_gen_queue.proofs.Vocabulary.{After, AllByRecursion, App, Bool, Call, Cancel, Expression, HANDLE_COST}
use Rattle.rt_gen_queue.proofs.Vocabulary.{HasCodeAt, Line, List, Move, Rest, SPAWN_AFTER_COST, Some, Soon, Spawn}
use Rattle.rt_gen_queue.proofs.Vocabulary.{Spawns, Task, Values, [], all_weaker, ap, arith, armed_messages, ceiling}
use Rattle.rt_gen_queue.proofs.Vocabulary.{cost_measure, drop, drop_more, greatest, if◌then◌else◌, inl, inr}
use Rattle.rt_gen_queue.proofs.Vocabulary.{is_software, is_some, is_some_and, length, length-append, length-map, map}
use Rattle.rt_gen_queue.proofs.Vocabulary.{plain, refl, run, saved_slots, slice_get, slice_index, slice_set}
use Rattle.rt_gen_queue.proofs.Vocabulary.{spawn_actions, spawn_code, spawn_words, stands_with_more, storage, subst}
use Rattle.rt_gen_queue.proofs.Vocabulary.{suc, sym, take, true, value_in, ℕ, ◌&&◌, ◌*◌, ◌+◌, ◌-◌, ◌<◌, ◌∙◌, ◌∷◌, ◌≡◌}
use Rattle.rt_gen_queue.proofs.Vocabulary.{◌≤◌}
use Rattle.rt_ids.specs.declared.ids.Section.TheVariants as section
use Rattle.rt_app.specs.{Accepted.AreMeant, Accepted.IsSpawnPlaced, BodyCost.timer_section_cost, Frame.expression_depth}
use Rattle.rt_app.specs.{Frame.spawn_depth, Steps.expressions_steps, Steps.spawn_steps}
use Rattle.rt_app.specs.Sound.{AreReached, IsSoundSpawn, SpawnsTask}
use Rattle.rt_app.specs.declared.costs.TheConstants.{HANDLE_MESSAGE_COST, MESSAGE_COST, SPAWN_COST, TIMER_QUEUE_WORDS}
use Rattle.rt_code.specs.StandingLaws.{AreAtLeast}
use Rattle.rt_code.specs.declared.instr.Instr.TheVariants as instr
use Rattle.rt_gen_queue.proofs.{Facts.Spawned, Facts.few_arguments, Placing.code_behind, Whole.spawn_stands}
use Rattle.rt_gen_queue.proofs.Layer.{Here, S, copy_gives, goes, lasts_left, left_at, configuration}
use Rattle.rt_gen_queue.specs.Spawning.{CallSite}
use Rattle.rt_gen_body.proofs.Expressions.{Sets, Sound, evaluates, kept_set, next_begins, variable_set}
use Rattle.rt_gen_body.proofs.Owning.{not_open, represented_left}
use Rattle.rt_gen_body.proofs.Scopes.{IsAboutToRun, Body, Performs, Scope, Settled, State, free_slot, front_of}
use Rattle.rt_gen_body.proofs.Scopes.{goes_behind}
use Rattle.rt_gen_body.proofs.Scopes.{listed_by, named, sooner, then_at}
use Rattle.rt_gen_body.specs.SimpleCode.{bind_code, goes_code, send_code, values_of}
use Rattle.rt_gen_body.specs.ValueCode.{Context, arguments_code, expression_code, next_slot}
use Rattle.rt_gen_timer.proofs.{Afters.afters_stand, Cancelling.cancels_all_stand, Moving.moves_all_stand}
use Rattle.rt_gen_timer.specs.TimerCalls.{MayUsePlaces, MayUseTimer, StandsBefore}
use Rattle.rt_gen_timer.specs.TimerCode.{after_code, cancel_code, move_code}

-- the first of the values in the slots from one on, and the others
first_value : (n slot v : ℕ) (slots vs : List ℕ) → slot < length slots → take (suc n) (drop slot slots) ≡ v ∷ vs
    → (slice_index slots slot ≡ v) × (take n (drop (slot + 1) slots) ≡ vs)
first_value n slot v slots vs within are =
    let split : slice_index slots slot ∷ take n (drop (slot + 1) slots) ≡ v ∷ vs =
    sym (ap (take (suc n)) (drop_more slots slot 0 within)) ∙ are in
    (ap (λ (xs : List ℕ). slice_index xs 0) split, ap (drop 1) split)

-- the steps of what goes, without those of its values
abbrev goes_steps : App → Spawn → ℕ
goes_steps app (Soon n args offset) = SPAWN_COST
goes_steps app (After word delay n args offset) = SPAWN_AFTER_COST + MESSAGE_COST * armed_messages app
goes_steps app (Cancel word n handle offset) = HANDLE_COST + HANDLE_MESSAGE_COST * armed_messages app
goes_steps app (Move word delay n handle offset) = HANDLE_COST + HANDLE_MESSAGE_COST * armed_messages app

-- What follows a spawn, by its answer, which is in the first slot of spawns.
record Answered (b : Body) (p : Scope) (h : Here) (size cost : ℕ) (vars : List ℕ) (rest : ℕ → Rest) : Type 0 where
  on : (answer : ℕ) (t : State) → t.done ≤ h.done + cost → slice_index t.slots b.c.spawns ≡ answer
      → Settled b p.fixed p.visible h (record t { vars = vars })
      → S b.z (then_at h (h.at + size) t (rest answer t.vs))

-- a spawn that may go from here
pub record SoundSpawn (b : Body) (p : Scope) (q : Spawn) : Type 0 where
  pub deep : b.c.expressions + spawn_depth q ≤ b.top
  pub words : b.c.spawns + spawn_words q ≤ b.words
  pub sound : IsSoundSpawn b.z.app b.m p.locked q
  pub placed : IsSpawnPlaced b.z.app (listed_by b.m) p.visible q

-- what is left after fewer steps is no less
least_left : (done used steps : ℕ) (deadlines : List ℕ) → used ≤ steps
    → AreAtLeast (left_at (done + steps) deadlines) (map (λ n. n - used) (left_at done deadlines))
least_left done used steps [] less = tt
least_left done used steps (d ∷ deadlines) less = (omega arith, least_left done used steps deadlines less)

-- the code of what goes to a software task, where the application has what it needs
code_called : (b : Body) (lines : App → List Line) (needs : App → Bool) (n : ℕ) (t : Task) → needs b.z.app ≡ true
    → slice_get b.z.app.tasks n ≡ Some t → is_software t ≡ true
    → (if needs b.c.app && is_some_and is_software (slice_get b.c.app.tasks n) then lines b.c.app else [])
    ≡ lines b.z.app
code_called b lines needs n t has there software =
    rw (ap (λ (c : Context). c.app) b.facts.is, has, there, software) refl

module _ {b : Body} {p : Scope} {h : Here} {vars : List ℕ} {vs : Values} (q : Spawn) (rest : ℕ → Rest)
    (begins : IsAboutToRun b p h (goes_code b.c p.threshold h.at q) (goes_steps b.z.app q) vars vs)
    (on : Answered b p h (length (goes_code b.c p.threshold h.at q)) (goes_steps b.z.app q) vars rest) where
  abbrev left : ℕ
  left = h.until - h.done - goes_steps b.z.app q

  -- it goes by its law, since what is after its lines is correct in as many steps as are left
  by_law : {lines : List Line} → goes_code b.c p.threshold h.at q ≡ lines
      → (HasCodeAt b.z.code h.at lines → StandsBefore b.z.app b.z.who b.z.code b.z.bodies b.z.thread
      (goes_steps b.z.app q) b.c.spawns lines rest left (configuration b.z h) vs) → S b.z h
  by_law {lines = lines} lines_are law = record {
    stands = law (subst (λ (ls : List Line). HasCodeAt b.z.code h.at ls) lines_are begins.has)
        (λ answer used k slots cells queues ws less gone.
        let done : ℕ = h.done + goes_steps b.z.app q in
        let t : State = record { done = done; slots = slots; cells = cells; vars = vars; queues = queues; vs = ws } in
        let same : (x : ℕ) → x < p.count → slice_index slots x ≡ slice_index h.slots x =
        λ x low. gone.kept x (inl (omega (arith, begins.inside.room, b.floor, b.masks))) in
        stands_with_more (storage b.z.app) b.z.bodies b.z.thread b.z.who b.z.code (h.until - done) k
        (configuration b.z (then_at h (h.at + length lines) t (rest answer ws)))
        (map (λ n. n - used) (left_at h.done h.deadlines)) (omega arith)
        (least_left h.done used (goes_steps b.z.app q) h.deadlines gone.in_time)
        (subst (λ (ls : List Line). S b.z (then_at h (h.at + length ls) t (rest answer ws))) lines_are
        (on.on answer t (omega arith) gone.answered.1
        (record {
          known = record {
            in_slots = λ x here. same x (begins.inside.below x here) ∙ begins.known.in_slots x here;
            in_cells = represented_left (configuration b.z h) gone.own gone.agree begins.known.in_cells;
            long = gone.own.long ∙ begins.known.long;
            frame = gone.frame ∙ begins.known.frame;
            variables = begins.known.variables;
          };
          kept = λ x here. same x (begins.inside.fixed x here);
        }))).stands) (h.until - h.done) (omega (arith, begins.time.0));
  }

  -- no slot of a spawn keeps a mask
  below_spawns : AllByRecursion (λ d. d < b.c.spawns) (saved_slots h.held)
  below_spawns =
      all_weaker (λ d. (b.top ≤ d) × (d < p.lock)) (λ d. d < b.c.spawns)
      (λ d between. omega (arith, between.1, begins.inside.high)) (saved_slots h.held) begins.inside.saved

  -- it may use the timer queue, and the places of a task
  may_use : b.c.spawns + TIMER_QUEUE_WORDS ≤ b.words → b.m.priority ≤ ceiling b.z.app section.Timer
      → MayUseTimer b.z.app b.z.who (goes_steps b.z.app q) p.threshold b.c.spawns (configuration b.z h)
  may_use words within = record {
    cells = begins.known.long;
    frame = omega (arith, begins.known.frame);
    masks = below_spawns;
    closed = not_open h.held p.locked section.Timer (λ r. refl) begins.inside.are;
    within = b.facts.enters section.Timer within;
    off = begins.inside.off;
    enough = lasts_left h.done (goes_steps b.z.app q) h.deadlines begins.time.1;
  }

  may_take : (task : ℕ) → b.m.priority ≤ ceiling b.z.app (section.Free task)
      → MayUsePlaces b.z.app b.z.who task (configuration b.z h)
  may_take task within = record {
    closed = not_open h.held p.locked (section.Free task) (λ r. refl) begins.inside.are;
    within = b.facts.enters (section.Free task) within;
  }

-- the call site of a call that names a task
abbrev site : Body → Scope → Here → Values → ℕ → Task → (ℕ → Rest) → CallSite
site b p h vs task t rest = record {
  app = b.z.app;
  code = b.z.code;
  bodies = b.z.bodies;
  thread = b.z.thread;
  who = b.z.who;
  configuration = configuration b.z h;
  threshold = p.threshold;
  task = task;
  t = t;
  slot = b.c.spawns;
  vs = vs;
  rest = rest;
}

-- the code of what goes does its actions, once the values are in their slots
goes_on : {b : Body} {p : Scope} {h : Here} {vars : List ℕ} {vs : Values} (q : Spawn) (rest : ℕ → Rest)
    → SoundSpawn b p q → IsAboutToRun b p h (goes_code b.c p.threshold h.at q) (goes_steps b.z.app q) vars vs
    → take (length (values_of q)) (drop b.c.spawns h.slots) ≡ map (value_in vars vs) (values_of q)
    → h.rest ≡ spawn_actions b.z.app (value_in vars vs) q rest vs
    → Answered b p h (length (goes_code b.c p.threshold h.at q)) (goes_steps b.z.app q) vars rest → S b.z h
goes_on {b = b} {p = p} {h = h} {vars = vars} {vs = vs} (Soon task args offset) rest sound begins come is on =
    let q : Spawn = Soon task args offset in
    let t : Task = sound.sound.0 in
    let one = sound.sound.1 in
    by_law q rest begins on
    (code_called b (λ a. spawn_code a task p.threshold b.c.spawns h.at) (λ a. true) task t refl one.is_there
    one.software)
    (λ has behind k enough.
    spawn_stands (site b p h vs task t rest)
    (record { accepted = b.facts.accepted; is_there = one.is_there; software = one.software })
    (record {
      value = value_in vars vs;
      args = args;
      offset = offset;
      has = has;
      may = record {
        cells = begins.known.long;
        frame = omega (arith, sound.words, begins.known.frame);
        masks = below_spawns q rest begins on;
        closed = (
          not_open h.held p.locked (section.Free task) (λ r. refl) begins.inside.are,
          not_open h.held p.locked (section.Ready t.priority) (λ r. refl) begins.inside.are,
        );
        within = (
          b.facts.enters (section.Free task) one.within,
          b.facts.enters (section.Ready t.priority) sound.sound.2,
        );
        off = begins.inside.off;
        steps = lasts_left h.done SPAWN_COST h.deadlines begins.time.1;
      };
      arguments = ap (λ count. take count (drop b.c.spawns h.slots)) (sym one.arguments) ∙ come;
      is = is;
    }) (left q rest begins on) k enough
    (λ granted used i slots cells queues ws less gone.
    behind granted used i slots cells queues ws less
    (record {
      answered = (omega (arith, gone.answer.0), gone.answer.1);
      frame = gone.frame;
      kept = λ d. elim [ inl below ↦ gone.kept d (inl below) | inr above ↦ gone.kept d (inr (omega arith)) ];
      in_time = gone.steps;
      own = gone.own;
      agree = gone.agree;
    })))
goes_on {b = b} {p = p} {h = h} {vars = vars} {vs = vs} (After word delay task args offset) rest sound begins come is
    on =
    let q : Spawn = After word delay task args offset in
    let s = sound.sound in
    let one = s.1 in
    let timed = ap is_some s.4.1 in
    let values = first_value (length args) b.c.spawns (value_in vars vs delay) h.slots (map (value_in vars vs) args)
    (omega (arith, sound.words, begins.known.frame)) come in
    by_law q rest begins on
    (code_called b (λ a. after_code a task p.threshold b.c.spawns h.at) (λ a. is_some a.mono) task s.0 timed
    one.is_there
    one.software)
    (λ has.
    afters_stand (site b p h vs task s.0 rest)
    (record { accepted = b.facts.accepted; is_there = one.is_there; software = one.software }) timed
    (record {
      cost = timer_section_cost b.z.app;
      delay = value_in vars vs delay;
      args = map (value_in vars vs) args;
      armed = s.3;
      costs = inl refl;
      has = has;
      may = may_use q rest begins on sound.words s.5;
      places = may_take q rest begins on task one.within;
      delayed = values.0;
      arguments = ap (λ count. take count (drop (b.c.spawns + 1) h.slots)) (sym one.arguments) ∙ values.1;
      is = is;
    }) (left q rest begins on))
goes_on {b = b} {p = p} {h = h} {vars = vars} {vs = vs} (Cancel word task handle offset) rest sound begins come is on =
    let q : Spawn = Cancel word task handle offset in
    let s = sound.sound in
    let one = s.1 in
    let timed = ap is_some one.timed.1 in
    let values = first_value 0 b.c.spawns (value_in vars vs handle) h.slots []
    (omega (arith, sound.words, begins.known.frame)) come in
    by_law q rest begins on
    (code_called b (λ a. cancel_code a task p.threshold b.c.spawns h.at) (λ a. is_some a.mono) task s.0 timed
    one.is_there
    one.software)
    (λ has.
    cancels_all_stand (site b p h vs task s.0 rest)
    (record { accepted = b.facts.accepted; is_there = one.is_there; software = one.software }) timed
    (record {
      handle = value_in vars vs handle;
      has = has;
      may = may_use q rest begins on sound.words one.within;
      places = may_take q rest begins on task s.2;
      shown = values.0;
      is = is;
    }) (left q rest begins on))
goes_on {b = b} {p = p} {h = h} {vars = vars} {vs = vs} (Move word delay task handle offset) rest sound begins come is
    on =
    let q : Spawn = Move word delay task handle offset in
    let one = sound.sound.1 in
    let timed = ap is_some one.timed.1 in
    let values = first_value 1 b.c.spawns (value_in vars vs delay) h.slots (value_in vars vs handle ∷ [])
    (omega (arith, sound.words, begins.known.frame)) come in
    let second = first_value 0 (b.c.spawns + 1) (value_in vars vs handle) h.slots []
    (omega (arith, sound.words, begins.known.frame)) values.1 in
    by_law q rest begins on
    (code_called b (λ a. move_code a task p.threshold b.c.spawns h.at) (λ a. is_some a.mono) task sound.sound.0 timed
    one.is_there one.software)
    (λ has.
    moves_all_stand (site b p h vs task sound.sound.0 rest)
    (record { accepted = b.facts.accepted; is_there = one.is_there; software = one.software }) timed
    (record {
      delay = value_in vars vs delay;
      handle = value_in vars vs handle;
      has = has;
      may = may_use q rest begins on sound.words one.within;
      delayed = values.0;
      shown = second.0;
      is = is;
    }) (left q rest begins on))

module _ (b : Body) (p : Scope) where
  all_sound : (es : List Expression) → b.c.expressions + greatest (map expression_depth es) ≤ b.top
      → AllByRecursion (AreReached b.z.app b.m p.locked) es
      → AllByRecursion (AreMeant b.z.app (listed_by b.m) p.visible) es → AllByRecursion (Sound b p) es
  all_sound [] deep reached meant = tt
  all_sound (e ∷ es) deep (reached, others) (meant, more) =
      (record { deep = omega arith; reached = reached; meant = meant }, all_sound es (omega arith) others more)

-- a task has few arguments, so a spawn of it has few
few_given : (b : Body) (locked : List ℕ) {n : ℕ} {args : List Expression} {t : Task}
    → SpawnsTask b.z.app b.m locked n args t → length args ≤ 4
few_given b locked {n = n} {t = t} one =
    let facts : Spawned b.z.app n t =
    record { accepted = b.facts.accepted; at = one.is_there; software = one.software } in
    omega (arith, one.arguments, few_arguments b.z.app n t facts)

module _ {b : Body} {p : Scope} where
  -- the values of a spawn may be evaluated
  values_sound : (q : Spawn) → SoundSpawn b p q → AllByRecursion (Sound b p) (values_of q)
  values_sound (Soon n args offset) s = all_sound b p args s.deep s.sound.1.reached s.placed.1
  values_sound (After word delay n args offset) s =
      all_sound b p (delay ∷ args) (omega (arith, s.deep)) (s.sound.2, s.sound.1.reached) (s.placed.0, s.placed.2)
  values_sound (Cancel word n handle offset) s =
      all_sound b p (handle ∷ []) (omega (arith, s.deep)) (s.sound.1.reached, tt) (s.placed.1, tt)
  values_sound (Move word delay n handle offset) s =
      all_sound b p (delay ∷ handle ∷ []) (omega (arith, s.deep)) (s.sound.2, (s.sound.1.reached, tt))
      (s.placed.0, (s.placed.2, tt))

  -- and there is a slot for each, and one more
  values_few : (q : Spawn) → SoundSpawn b p q → b.c.spawns + length (values_of q) + 1 ≤ b.words
  values_few (Soon n args offset) s = omega (arith, s.words, few_given b p.locked s.sound.1)
  values_few (After word delay n args offset) s = omega (arith, s.words, few_given b p.locked s.sound.1)
  values_few (Cancel word n handle offset) s = omega (arith, s.words)
  values_few (Move word delay n handle offset) s = omega (arith, s.words)

steps_split : (b : Body) (q : Spawn)
    → spawn_steps (cost_measure b.z.app) q ≡ goes_steps b.z.app q + expressions_steps (values_of q)
steps_split b (Soon n args offset) = refl
steps_split b (After word delay n args offset) = omega arith
steps_split b (Cancel word n handle offset) = omega arith
steps_split b (Move word delay n handle offset) = omega arith

-- the values of arguments are in the slots from one on, and those of spawns before it are as they were
record Come (b : Body) (slot : ℕ) (given before slots : List ℕ) : Type 0 where
  long : length slots ≡ length before
  low : (x : ℕ) → x < b.c.expressions → slice_index slots x ≡ slice_index before x
  values : take (length given) (drop slot slots) ≡ given
  kept : (d : ℕ) → b.c.spawns ≤ d → d < slot → slice_index slots d ≡ slice_index before d

arguments_come : {b : Body} {p : Scope} (es : List Expression) {h : Here} {vars : List ℕ} {vs : Values} {slot : ℕ}
    → AllByRecursion (Sound b p) es → (b.c.spawns ≤ slot) × (slot + length es ≤ b.words)
    → IsAboutToRun b p h (arguments_code b.c es slot) (expressions_steps es) vars vs
    → ((done at : ℕ) (slots : List ℕ) → done ≡ h.done + expressions_steps es
    → at ≡ h.at + length (arguments_code b.c es slot) → Come b slot (map (value_in vars vs) es) h.slots slots
    → S b.z (record h { done = done; slots = slots; at = at }))
    → S b.z h
arguments_come [] {h = h} all room begins on =
    on h.done h.at h.slots (omega arith) (omega arith)
    (record { long = refl; low = λ x less. refl; values = refl; kept = λ d above less. refl })
arguments_come {b = b} {p = p} (e ∷ es) {h = h} {vars = vars} {vs = vs} {slot = slot} (sound, others) (behind, room)
    begins on =
    let first : List Line = expression_code b.c e slot b.c.expressions in
    let more : List Line = arguments_code b.c es (next_slot slot) in
    let floor = b.floor in let masks = b.masks in let deep = sound.deep in let high = begins.inside.high in
    let next : next_slot slot ≡ slot + 1 = omega (arith, b.word) in
    let size = length-append first more in
    evaluates e (record { target = inr (omega arith); there = omega arith; low = omega arith; floor = omega arith })
    (omega arith) sound.reached sound.meant (front_of first more (omega arith) begins)
    (λ done at slots done_is at_is value.
    let same : (x : ℕ) → x < b.c.expressions → slice_index slots x ≡ slice_index h.slots x =
    λ x less. value.below x less (λ (is : x ≡ slot). omega arith) in
    arguments_come es others (omega arith, omega arith)
    (next_begins (code_behind b.z.code h.at at first more at_is begins.has) (omega arith) value.long same begins)
    (λ done2 at2 slots2 done2_is at2_is come.
    on done2 at2 slots2 (omega arith) (omega arith)
    (record {
      long = come.long ∙ value.long;
      low = λ x less. come.low x less ∙ same x less;
      values =
          ap (take (suc (length (map (value_in vars vs) es))))
          (drop_more slots2 slot 0 (omega (arith, come.long, value.long, begins.known.frame)))
          ∙ ap (λ v. v ∷ take (length (map (value_in vars vs) es)) (drop (slot + 1) slots2))
          (come.kept slot behind (omega arith) ∙ value.value)
          ∙ ap (λ (ws : List ℕ). value_in vars vs e ∷ ws)
          (ap (λ d. take (length (map (value_in vars vs) es)) (drop d slots2)) (sym next) ∙ come.values);
      kept = λ d above less.
          come.kept d above (omega arith) ∙ value.above d (omega arith) (λ (is : d ≡ slot). omega arith);
    })))

-- a spawn, and what follows by its answer
sends_on : {b : Body} {p : Scope} {h : Here} {vars : List ℕ} {vs : Values} (q : Spawn) (rest : ℕ → Rest)
    → SoundSpawn b p q
    → IsAboutToRun b p h (send_code b.c p.threshold h.at q) (spawn_steps (cost_measure b.z.app) q) vars vs
    → h.rest ≡ spawn_actions b.z.app (value_in vars vs) q rest vs
    → Answered b p h (length (send_code b.c p.threshold h.at q)) (spawn_steps (cost_measure b.z.app) q) vars rest
    → S b.z h
sends_on {b = b} {p = p} {h = h} {vars = vars} {vs = vs} q rest sound begins is answered =
    let values : List Expression = values_of q in
    let split = steps_split b q in
    let front : List Line = arguments_code b.c values b.c.spawns in
    let code : ℕ → List Line = λ a. goes_code b.c p.threshold a q in
    let last : List Line = code (h.at + length front) in
    let size = length-append front last in
    let masks = b.masks in let floor = b.floor in
    arguments_come values (values_sound q sound) (omega arith, omega (arith, values_few q sound))
    (front_of front last (omega arith) begins)
    (λ done at slots done_is at_is come.
    let lines = ap code at_is in
    let same_size : length (code at) ≡ length last = ap (λ (ls : List Line). length ls) lines in
    goes_on q rest sound
    (next_begins (subst (λ (ls : List Line). HasCodeAt b.z.code at ls) (sym lines)
    (code_behind b.z.code h.at at front last at_is begins.has)) (omega arith) come.long come.low begins)
    (ap (λ n. take n (drop b.c.spawns slots)) (sym (length-map values (value_in vars vs))) ∙ come.values) is
    (record {
      on = λ answer t within shown settled.
          named refl (omega arith) refl
          (answered.on answer t (omega arith) shown (record {
            known = settled.known;
            kept = λ y here. settled.kept y here
                ∙ come.low y (omega (arith, begins.inside.fixed y here, begins.inside.room));
          }));
    }))

module _ {b : Body} {p : Scope} where
  pub sends : (q : Spawn) → SoundSpawn b p q
      → Performs b p p.visible (λ at. send_code b.c p.threshold at q) (spawn_steps (cost_measure b.z.app) q)
      (run b.z.app (Spawns q))
  sends q sound = record {
    runs = λ {h} {vars} {vs} later begins is behind.
        sends_on q (λ answer. later vars) sound begins is
        (record { on = λ answer t within shown settled. behind.on (record t { vars = vars }) within settled });
  }

  -- the answer of a spawn comes into a variable
  pub binds_sent : {x : ℕ} {more : List ℕ} (q : Spawn) → SoundSpawn b p q → Sets b p x more
      → Performs b p more (λ at. bind_code b.c p.threshold at x (Call q)) (spawn_steps (cost_measure b.z.app) q + 1)
      (λ later vars vs.
      spawn_actions b.z.app (value_in vars vs) q (λ answer. later (slice_set vars x answer)) vs)
  binds_sent {x = x} {more = more} q sound sets = record {
    runs = λ {h} {vars} {vs} later begins is behind.
        let front : List Line = send_code b.c p.threshold h.at q in
        let last : List Line = plain (instr.Copy x b.c.spawns) ∷ [] in
        let small = sets.small begins.inside in
        sends_on q (λ answer. later (slice_set vars x answer)) sound (front_of front last (omega arith) begins) is
        (record {
          on = λ answer t within shown settled.
              goes (code_behind b.z.code h.at (h.at + length front) front last refl begins.has).0
              (sooner (omega arith) begins)
              (copy_gives answer (omega (arith, b.floor, b.masks, b.spawns, settled.known.frame))
              (omega (arith, values_few q sound, settled.known.frame))
              (free_slot x (inl (omega (arith, b.floor))) begins.inside) shown)
              (goes_behind behind (omega (arith, length-append front last)) (omega arith)
              (variable_set x answer more small sets.cases settled.known)
              (λ y here. kept_set b p t.slots x answer y (sets.free begins.inside) here ∙ settled.kept y here));
        });
  }
