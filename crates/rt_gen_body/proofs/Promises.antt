-- What is promised of the code of each kind of body: it stands, from its entry through its blocks to its end.
use Rattle.rt_gen_queue.proofs.Vocabulary.{Action, App, AtPriority, BODY_COST, Body as AppBody, BodyId, BodyRow, Bool}
use Rattle.rt_gen_queue.proofs.Vocabulary.{Contains, Doing, Ends, Entry, HasCodeAt, Location, HoldsOff, IsAccepted}
use Rattle.rt_gen_queue.proofs.Vocabulary.{IsIn, IsSound, Line, List, Member, None, Option, Rest, Returns, Runner, Some}
use Rattle.rt_gen_queue.proofs.Vocabulary.{Spawn, Configuration, Stands, StandsFrom, Starting, Task, Values, [], act}
use Rattle.rt_gen_queue.proofs.Vocabulary.{all_at, ap}
use Rattle.rt_gen_queue.proofs.Vocabulary.{append_assoc, arith, block_steps, body_cost, calm, cap_steps, contains_none}
use Rattle.rt_gen_queue.proofs.Vocabulary.{cost_measure, false, first_lock_slot, frame_words, get_or-take}
use Rattle.rt_gen_queue.proofs.Vocabulary.{get_or_append_left, greatest, has_body, has_loop, if◌then◌else◌, is_software}
use Rattle.rt_gen_queue.proofs.Vocabulary.{length, length-append, length-replicate, length-take-le, map, max, member_at}
use Rattle.rt_gen_queue.proofs.Vocabulary.{members, memory, none-some, line_with_note, nothing, option_map, or_left}
use Rattle.rt_gen_queue.proofs.Vocabulary.{spend_step}
use Rattle.rt_gen_queue.proofs.Vocabulary.{plain, range_with_len, refl, replicate, row_for, same_Some, slice_get}
use Rattle.rt_gen_queue.proofs.Vocabulary.{slice_index, spawn_words, spawns, stands_with_more, storage, subst, suc, sym}
use Rattle.rt_gen_queue.proofs.Vocabulary.{take, true, variables, zero, ℕ, ◌++◌, ◌+◌, ◌-◌, ◌<◌, ◌^◌, ◌∙◌, ◌∷◌, ◌≡◌, ◌≤◌}
use Rattle.std.proofs.lemmas.List.FromFn.{get_or-range_with_len, length-range_with_len}
use Rattle.rt_ids.specs.declared.ids.BodyId.TheVariants as body
use Rattle.rt_app.specs.{BodyCost.cost_of, Cost.capped_cost, Stack.thread_frame, Stack.thread_words, Statements.is_init}
use Rattle.rt_app.specs.Doings.{body_doing, declared_doing, task_doing}
use Rattle.rt_app.specs.Frame.{block_depth, first_expression_slot, first_spawn_slot}
use Rattle.rt_code.specs.{Stack.return_address, Standing.Finishes}
use Rattle.rt_code.specs.declared.instr.Instr.TheVariants as instr
use Rattle.rt_code.specs.declared.instr.Note.TheVariants as note
use Rattle.rt_gen_queue.proofs.Layer.{Here, Lasts, S, Setting, begins, begun, by_line, returns_here, configuration}
use Rattle.rt_gen_queue.proofs.Placing.{code_behind, code_front, code_there}
use Rattle.rt_gen_queue.specs.Called.{CalledBodyStands}
use Rattle.rt_gen_body.proofs.{Blocks.block_stands, Storing.facts_for}
use Rattle.rt_gen_body.proofs.Owning.{AllRepresented, all_agreed, known_of, represented}
use Rattle.rt_gen_body.proofs.Scopes.{Body, Facts, Scope, State, then_at}
use Rattle.rt_gen_body.specs.{Bodies.BodyStands, Form.end_line, BlockCode.block_code}
use Rattle.rt_gen_body.specs.BodyCode.{body_blocks, code_of, context_of, threshold_of}

-- a cost that is short is the steps and the end
pub cost_is : (app : App) (b : AppBody) → block_steps (cost_measure app) b.block + 1 ≤ BODY_COST
    → body_cost (cost_measure app) b ≡ block_steps (cost_measure app) b.block + 1
cost_is app b few =
    ap (λ n. capped_cost (n + 1)) (cap_steps.blocks (cost_measure app) b.block)
    ∙ (let e : capped_cost (capped_cost (block_steps (cost_measure app) b.block) + 1)
    ≡ block_steps (cost_measure app) b.block
    + 1 = omega arith in e)

-- a loop has a slot for its test
loop_fits : (loops : Bool) (deep first : ℕ) → loops ≡ true → first < first + max deep (if loops then 1 else 0)
loop_fits true deep first is = omega arith
loop_fits false deep first is = absurd cc

-- a called body's arguments, and a hardware task's none, are in the first slots
vars_of : (args count : ℕ) (slots : List ℕ) (x : ℕ) → args ≤ length slots → x < args
    → slice_index (take args slots ++ replicate count 0) x ≡ slice_index slots x
vars_of args count slots x enough less =
    get_or_append_left (take args slots) (replicate count 0) 0 x (omega (arith, length-take-le args slots enough))
    ∙ get_or-take args slots x 0 less

pub contains_range : (args y : ℕ) → Contains (range_with_len 0 args) y → y < args
contains_range args y (k, within, is) =
    let less : k < args = omega (arith, length-range_with_len 0 args) in
    omega (arith, get_or-range_with_len 0 args k y less)

-- the lines of a body's blocks from an address on
abbrev pub lines_of : App → Member → ℕ → List Line
lines_of app m at = block_code (context_of app m) (threshold_of app m) (first_lock_slot m.args m.body) at m.body.block

-- the runner of a body, and its preemption threshold at its start
abbrev pub runner_if : Bool → ℕ → Runner
runner_if starts threshold = if starts then Starting else AtPriority threshold

threshold_at_start : (app : App) (starts : Bool) (p : ℕ)
    → HoldsOff app (runner_if starts p) (runner_if starts p) [] (if starts then 2 ^ app.bits else p)
threshold_at_start app true p = omega arith
threshold_at_start app false p = omega arith

-- a body of an application, in a frame of so many words
pub record IsBody (z : Setting) (m : Member) (words : ℕ) : Type 0 where
  pub accepted : IsAccepted z.app
  pub sound : IsSound z.app
  pub is : member_at z.app m.id ≡ Some m
  pub runs : z.who ≡ runner_if (is_init m.id) m.priority
  pub room : frame_words m.args m.body ≤ words
  pub word : words < 2 ^ 32

-- the code of a body's blocks at an address, and a frame and memory as they are where it begins
record Given (z : Setting) (m : Member) (words entry : ℕ) (s : State) : Type 0 where
  has : HasCodeAt z.code entry (lines_of z.app m entry)
  long : length s.slots ≡ words
  all : length s.cells ≡ length (memory z.app)
  known : AllRepresented z s.cells s.queues s.vs

-- a job with no section open and nothing in its hands, with so many steps for all and for what is told of the code
abbrev pub job : (until left at : ℕ) → State → Doing Values → Here
job until left at t rest = then_at (begun (calm left [] None 0 [] (λ h. []) rest) until) at t rest

module _ {z : Setting} {m : Member} {words : ℕ} (w : IsBody z m words) where
  few_steps : block_steps (cost_measure z.app) m.body.block + 1 ≤ BODY_COST
  few_steps =
      let one = (has_body z.app w.accepted m.id m w.is).is_one in
      all_at (λ m. block_steps (cost_measure z.app) m.body.block + 1 ≤ BODY_COST) (members z.app) one.0 m w.sound.steps
      one.1

  facts : Facts z.app z.who m (context_of z.app m)
  facts =
      subst (λ (who : Runner). Facts z.app who m (context_of z.app m)) (sym w.runs)
      (facts_for z.app w.accepted w.sound m (has_body z.app w.accepted m.id m w.is).is_one (is_init m.id) refl)

  off : HoldsOff z.app z.who z.who [] (threshold_of z.app m)
  off =
      subst (λ (who : Runner). HoldsOff z.app who who [] (threshold_of z.app m)) (sym w.runs)
      (threshold_at_start z.app (is_init m.id) m.priority)

  masks_room : first_spawn_slot m.args m.body ≤ words
  masks_room = omega (arith, w.room)

  abbrev in_frame : Body
  in_frame = record {
    z = z;
    m = m;
    c = context_of z.app m;
    words = words;
    top = first_lock_slot m.args m.body;
    facts = facts;
    floor = omega arith;
    masks = omega arith;
    spawns = masks_room;
    word = w.word;
  }

  abbrev scope : Scope
  scope = record {
    visible = range_with_len 0 m.args;
    fixed = [];
    locked = [];
    count = m.args;
    threshold = threshold_of z.app m;
    lock = first_lock_slot m.args m.body;
  }

  -- from its arguments on its blocks stand before what is correct after them
  blocks_stand : (until left entry : ℕ) (rest : Rest) (s : State)
      → Lasts (block_steps (cost_measure z.app) m.body.block) (until ∷ left ∷ []) → Given z m words entry s
      → ((t : State) → t.done ≤ block_steps (cost_measure z.app) m.body.block → length t.cells ≡ length (memory z.app)
      → AllRepresented z t.cells t.queues t.vs
      → S z (job until left (entry + length (lines_of z.app m entry)) t (rest t.vs)))
      → Stands (storage z.app) z.code z.bodies z.thread z.who until
      (calm left s.slots z.caller entry s.cells s.queues (body_doing z.app m.body (take m.args s.slots) rest s.vs))
  blocks_stand until left entry rest s time given on =
      let placed = has_body z.app w.accepted m.id m w.is in
      let few = few_steps in let room = w.room in let long = given.long in
      let zeros : List ℕ = replicate (variables m.body.block) 0 in
      let vars : List ℕ = take m.args s.slots ++ zeros in
      let there : m.args ≤ length s.slots = omega arith in
      let start : Configuration =
      calm left s.slots z.caller entry s.cells s.queues (body_doing z.app m.body (take m.args s.slots) rest s.vs) in
      begins {z = z} start until
      ((block_stands in_frame m.body.block scope
      (record {
        depth = omega arith;
        loops = loop_fits (has_loop m.body.block) (block_depth m.body.block) (first_expression_slot m.args m.body);
        masks = omega arith;
        sends = λ q here.
            let least : spawn_words q ≤ greatest (map spawn_words (spawns m.body.block)) =
            most (spawns m.body.block) q here in
            omega arith;
        variables = omega arith;
        steps = omega arith;
      }) (w.sound.bodies m.id m w.is) placed.placed.block).runs {h = begun start until} {vars = vars} {vs = s.vs}
      (λ vars. rest)
      (record {
        has = given.has;
        time = (omega (arith, time.0), (omega (arith, time.1.0), tt));
        known = record {
          in_slots = λ y here.
              sym (vars_of m.args (variables m.body.block) s.slots y there (contains_range m.args y here));
          in_cells = known_of s.queues given.known;
          long = given.all;
          frame = long;
          variables = omega (
            arith,
            length-append (take m.args s.slots) zeros,
            length-take-le m.args s.slots there,
            length-replicate {A = ℕ} (variables m.body.block) 0,
          );
        };
        inside = record {
          below = contains_range m.args;
          fixed = λ y here. absurd (contains_none y here);
          room = omega arith;
          low = omega arith;
          high = omega arith;
          saved = tt;
          are = tt;
          off = off;
        };
      }) refl
      (record {
        on = λ t within settled.
            on t (omega (arith, within)) settled.known.long
            (represented s.cells s.queues s.vs given.known settled.known.in_cells t.queues);
      }))
    where
      most : (ps : List Spawn) (p : Spawn) → IsIn ps p → spawn_words p ≤ greatest (map spawn_words ps)
      most [] p (i, at) = absurd (none-some p at)
      most (q ∷ ps) p (zero, at) =
          let same : spawn_words q ≡ spawn_words p = ap spawn_words (same_Some q p at) in omega arith
      most (q ∷ ps) p (suc i, at) = let less = most ps p (i, at) in omega arith

-- the last line of a body, at an address, ends it by this action
abbrev pub Ending : Setting → ℕ → Action → Type 0
Ending z at action =
    (until left : ℕ) (t : State) → Lasts (suc t.done) (until ∷ left ∷ []) → AllRepresented z t.cells t.queues t.vs
    → S z (job until left at t (act action nothing t.vs))

-- a body of the thread or of a hardware task has a frame of its own
abbrev pub alone : Setting → Setting
alone z = record z { caller = None }

-- with all given back it is over
finishes : (z : Setting) (until left at : ℕ) (action : Action) (t : State) → AllRepresented z t.cells t.queues t.vs
    → Finishes (storage z.app) z.code z.bodies z.thread z.who action
    (spend_step (configuration (alone z) (job until left at t (act action nothing t.vs))))
finishes z until left at action t known = record {
  values = t.vs;
  follows = λ answer. nothing;
  is = refl;
  closed = refl;
  empty = refl;
  own_frame = refl;
  represented = λ h kept. known h
      (or_left ((storage z.app).is_kept z.who h) ((storage z.app).is_constant z.who h) kept);
}

-- what such a body promises: it does what it means, and then ends
abbrev pub Whole : Setting → (words entry cost : ℕ) → (Values → Doing Values) → Type 0
Whole z words entry cost doing =
    StandsFrom (storage z.app) z.code z.bodies z.thread z.who (length (memory z.app)) words entry cost doing

-- where memory and queues are so, and nothing is done
abbrev begun_with : (slots cells : List ℕ) → (Location → List Entry) → Values → State
begun_with slots cells queues vs =
    record { done = 0; slots = slots; cells = cells; vars = []; queues = queues; vs = vs }

pub whole_stands : (z : Setting) {m : Member} {words : ℕ} (entry : ℕ) (action : Action)
    → IsBody (alone z) m words → m.args ≡ 0 → HasCodeAt z.code entry (lines_of z.app m entry)
    → Ending (alone z) (entry + length (lines_of z.app m entry)) action
    → Whole z words entry (body_cost (cost_measure z.app) m.body) (body_doing z.app m.body [] (act action nothing))
whole_stands z {m = m} entry action w no_args has ending = λ slots cells queues vs long all taken.
    let cost : ℕ = body_cost (cost_measure z.app) m.body in
    let cost_eq = cost_is z.app m.body (few_steps w) in
    subst (λ n. Stands (storage z.app) z.code z.bodies z.thread z.who cost
    (calm cost slots None entry cells queues (body_doing z.app m.body (take n slots) (act action nothing) vs))) no_args
    (blocks_stand w cost cost entry (act action nothing) (begun_with slots cells queues vs)
    (omega arith, (omega arith, tt)) (record { has = has; long = long; all = all; known = taken })
    (λ t within kept known. ending cost cost t (omega arith, (omega arith, tt)) known))

abbrev of_thread : BodyId → AppBody → Member
of_thread id b = record { id = id; priority = 0; args = 0; body = b }

abbrev pub of_task : ℕ → Task → Member
of_task n t = record { id = body.Task n; priority = t.priority; args = t.args; body = t.body }

-- a body of the thread, declared or not: it runs in the thread's frame, and the code of its blocks is at an address
record OfThread (z : Setting) (id : BodyId) (o : Option AppBody) (entry : ℕ) : Type 0 where
  accepted : IsAccepted z.app
  sound : IsSound z.app
  runs : z.who ≡ runner_if (is_init id) 0
  is : member_at z.app id ≡ option_map (of_thread id) o
  room : thread_frame o ≤ thread_words z.app
  has : HasCodeAt z.code entry (body_blocks z.app (option_map (of_thread id) o) entry)

-- such a body stands: of one that is not there is the end alone
thread_stands : (z : Setting) (id : BodyId) (o : Option AppBody) (entry : ℕ) → OfThread z id o entry
    → Ending (alone z) (entry + length (body_blocks z.app (option_map (of_thread id) o) entry)) (Ends id)
    → Whole z (thread_words z.app) entry (cost_of (cost_measure z.app) o)
    (declared_doing z.app o [] (act (Ends id) nothing))
thread_stands z id None entry w ending = λ slots cells queues vs long all taken.
    let none : entry + 0 ≡ entry = omega arith in
    let s : State = begun_with slots cells queues vs in
    begins {z = alone z} (calm 1 slots None entry cells queues (act (Ends id) nothing vs)) 1
    (subst (λ at. S (alone z) (job 1 1 at s (act (Ends id) nothing vs))) none
    (ending 1 1 s (omega arith, (omega arith, tt)) taken))
thread_stands z id (Some b) entry w ending =
    let small = w.sound.stack_small in
    whole_stands z {m = of_thread id b} entry (Ends id)
    (record {
      accepted = w.accepted;
      sound = w.sound;
      is = w.is;
      runs = w.runs;
      room = w.room;
      word = omega (arith, w.room);
    }) refl w.has ending

-- the code of a body, declared or not: its blocks, and its last line after them
pub record BodyThere (app : App) (id : BodyId) (o : Option Member) (code : List Line) (entry : ℕ) : Type 0 where
  pub blocks : HasCodeAt code entry (body_blocks app o entry)
  pub last : slice_get code (entry + length (body_blocks app o entry)) ≡ Some (end_line app id entry)

-- after other code, and with more after it
pub body_between : (app : App) (id : BodyId) (o : Option Member) (front more : List Line)
    → BodyThere app id o ((front ++ code_of app id o (length front)) ++ more) (length front)
body_between app id o front more =
    let entry : ℕ = length front in
    let end : List Line = end_line app id entry ∷ [] in
    let has : HasCodeAt ((front ++ code_of app id o entry) ++ more) entry (code_of app id o entry) =
    rw append_assoc (code_there front (code_of app id o entry) more) in
    record {
      blocks = code_front _ entry (body_blocks app o entry) end has;
      last = (code_behind _ entry (entry + length (body_blocks app o entry)) (body_blocks app o entry) end refl has).0;
    }

module _ {app : App} (accepted : IsAccepted app) (sound : IsSound app) where
  abbrev runs : Runner → ℕ → List Line → List BodyRow → Option (List ℕ) → Setting
  runs who thread code bodies caller =
      record { app = app; code = code; bodies = bodies; thread = thread; who = who; caller = caller }

  pub init_stands : (front : List Line)
      → BodyStands app body.Init (front ++ code_of app body.Init (member_at app body.Init) (length front))
      (length front)
  init_stands front more bodies =
      let m : Option Member = member_at app body.Init in
      let entry : ℕ = length front in
      let lines : List Line = code_of app body.Init m entry in
      let at : ℕ = entry + length (body_blocks app m entry) in
      let there = body_between app body.Init m front more in
      let size : suc at ≡ length (front ++ lines) =
      omega (
        arith,
        length-append front lines,
        length-append (body_blocks app m entry) (end_line app body.Init entry ∷ []),
      ) in
      let z : Setting = runs Starting (length (front ++ lines)) ((front ++ lines) ++ more) bodies None in
      thread_stands z body.Init app.init entry
      (record {
        accepted = accepted;
        sound = sound;
        runs = refl;
        is = refl;
        room = omega arith;
        has = there.blocks;
      })
      (λ until left t time known.
      by_line instr.Serve (Some (note.End body.Init)) there.last time
      (refl, refl, size, finishes z until left at (Ends body.Init) t known))

  pub idle_stands : (front : List Line)
      → BodyStands app body.Idle (front ++ code_of app body.Idle (member_at app body.Idle) (length front))
      (length front)
  idle_stands front more bodies =
      let m : Option Member = member_at app body.Idle in
      let entry : ℕ = length front in
      let at : ℕ = entry + length (body_blocks app m entry) in
      let there = body_between app body.Idle m front more in
      let z : Setting = runs (AtPriority 0) entry ((front ++ code_of app body.Idle m entry) ++ more) bodies None in
      thread_stands z body.Idle app.idle entry
      (record {
        accepted = accepted;
        sound = sound;
        runs = refl;
        is = refl;
        room = omega arith;
        has = there.blocks;
      })
      (λ until left t time known.
      by_line (instr.Jump entry) (Some (note.End body.Idle)) there.last time
      (refl, refl, finishes z until left at (Ends body.Idle) t known))

  module _ {n : ℕ} {t : Task} {code : List Line} {entry : ℕ} (is : slice_get app.tasks n ≡ Some t)
      (short : frame_words t.args t.body < 2 ^ 32)
      (there : BodyThere app (body.Task n) (Some (of_task n t)) code entry) where
    task_body : {thread : ℕ} {bodies : List BodyRow} {caller : Option (List ℕ)}
        → IsBody (runs (AtPriority t.priority) thread code bodies caller) (of_task n t) (frame_words t.args t.body)
    task_body = record {
      accepted = accepted;
      sound = sound;
      is = ap (option_map (of_task n)) is;
      runs = refl;
      room = omega arith;
      word = short;
    }

    last_is : (called : Bool) → is_software t ≡ called
        → slice_get code (entry + length (body_blocks app (Some (of_task n t)) entry))
        ≡ Some (if called then line_with_note instr.Back (note.End (body.Task n)) else plain instr.Ret)
    last_is called kind = there.last ∙ rw (is, kind) refl

    -- the body of a task that is bound to an interrupt
    pub task_stands : is_software t ≡ false → (bodies : List BodyRow) (thread : ℕ)
        → StandsFrom (storage app) code bodies thread (AtPriority t.priority) (length (memory app))
        (frame_words t.args t.body) entry (body_cost (cost_measure app) t.body)
        (task_doing app n [] (act Returns nothing))
    task_stands bound bodies thread =
        rw is
        (whole_stands (runs (AtPriority t.priority) thread code bodies None) entry Returns task_body
        (all_at (λ t. is_software t ≡ false → t.args ≡ 0) app.tasks n t sound.hardware is bound) there.blocks
        (λ until left s time known.
        returns_here (last_is false bound) time refl refl refl refl (λ h kept.
        known h (or_left ((storage app).is_kept (AtPriority t.priority) h)
        ((storage app).is_constant (AtPriority t.priority) h) kept))))

    -- one that dispatchers call: its end goes back into the handler's frame
    pub called_stands : is_software t ≡ true → CalledBodyStands app n code (row_for (λ k. entry) n t)
    called_stands software =
        rw is
        (λ bodies thread steps frame behind goes left slots cells queues vs enough long known.
        let z : Setting = runs (AtPriority t.priority) thread code bodies (Some frame) in
        let cost : ℕ = body_cost (cost_measure app) t.body in
        let w : IsBody z (of_task n t) (frame_words t.args t.body) = task_body in
        let cost_eq = cost_is app t.body (few_steps w) in
        rw is
        (blocks_stand w (cost + steps) left entry (act (Ends (body.Task n)) behind) (begun_with slots cells queues vs)
        (omega arith, (omega arith, tt))
        (record { has = there.blocks; long = long; all = known.long; known = known.each })
        (λ s within kept represented.
        by_line instr.Back (Some (note.End (body.Task n))) (last_is true software) (omega arith, (omega arith, tt)) (
          refl,
          record {
            frame = frame;
            caller = refl;
            closed = refl;
            acts = λ back alike. record {
              values = s.vs;
              follows = λ answer. behind;
              is = refl;
              on = λ us agree.
                  stands_with_more (storage app) bodies thread (AtPriority t.priority) code steps
                  (cost + steps - suc s.done)
                  (calm (left - s.done - 1) back None (return_address frame) s.cells s.queues (behind us))
                  ((left - s.done - 1) ∷ []) (omega arith) (omega arith, tt)
                  (goes (left - s.done - 1) back s.cells s.queues us (omega arith) alike
                  (record { long = kept; each = all_agreed z s.cells s.queues agree represented }));
            };
          },
        ))))
