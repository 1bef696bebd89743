-- What is known of a body, of what its code is generated with and of a point in it, what a statement asks of the frame
-- there, and what it means that code does what it is to do.
use Rattle.rt_gen_queue.proofs.Vocabulary.{AllByRecursion, App, AtPriority, BODY_COST, Block, Bool, Contains, Doing}
use Rattle.rt_gen_queue.proofs.Vocabulary.{Entry}
use Rattle.rt_gen_queue.proofs.Vocabulary.{Guarded, HasCodeAt, OpenSection, Location, HoldsOff, IsAccepted}
use Rattle.rt_gen_queue.proofs.Vocabulary.{IsChangeable, IsIn}
use Rattle.rt_gen_queue.proofs.Vocabulary.{IsSoundLock, IsWithin, Line, List, Member, NobodyKeeps, Own, Runner, Section}
use Rattle.rt_gen_queue.proofs.Vocabulary.{Spawn, Starting, Statement, Values, [], all_weaker, arith, block_steps}
use Rattle.rt_gen_queue.proofs.Vocabulary.{ceiling, cost_measure, has_loop, inl, inr, is_constant, is_kept, length, map}
use Rattle.rt_gen_queue.proofs.Vocabulary.{max, memory, refl, saved_slots, slice_index, spawn_words, spawns}
use Rattle.rt_gen_queue.proofs.Vocabulary.{statement_steps, storage, subst, sym, true, variables, variables_in, ℕ, ◌++◌}
use Rattle.rt_gen_queue.proofs.Vocabulary.{◌+◌, ◌<◌, ◌^◌, ◌||◌, ◌∙◌, ◌∷◌, ◌≡◌, ◌≢◌, ◌≤◌, ◌⊎◌}
use Rattle.rt_ids.specs.declared.ids.Section.TheVariants as section
use Rattle.rt_app.specs.{Declarations.owns as owns_local, Meaning.Later, Spawned.statement_spawns}
use Rattle.rt_app.specs.Frame.{block_depth, is_loop, locks, statement_depth, statement_locks}
use Rattle.rt_app.specs.Statements.{is_free, is_init}
use Rattle.rt_app.specs.declared.expr.Atom.TheVariants as atom
use Rattle.rt_gen_queue.proofs.Layer.{Here, InTime, IsFree, S, Setting, lasts_less}
use Rattle.rt_gen_queue.proofs.Placing.{code_front}
use Rattle.rt_gen_body.proofs.Owning.{IsRepresented, OpenAre}
use Rattle.rt_gen_body.specs.{ValueCode.Context, BodyCode.context_of}

-- a section that opens raises the level that is held off
pub threshold_inside : (app : App) (who : Runner) (held : List OpenSection) (threshold : ℕ) (h : OpenSection)
    → HoldsOff app who who held threshold → HoldsOff app who who (h ∷ held) (max threshold (ceiling app h.section))
threshold_inside app Starting held threshold h off = omega (arith, off)
threshold_inside app (AtPriority p) held threshold h off = omega (arith, off)

-- what a body may do, and what its code is generated with
pub record Facts (app : App) (who : Runner) (m : Member) (c : Context) : Type 0 where
  pub accepted : IsAccepted app
  pub is : c ≡ context_of app m
  -- its runner keeps its local resources, and what it reaches without a lock, unless it lists it to be read alone
  pub own : (n : ℕ) → owns_local n m ≡ true → is_kept app who (Own n) ≡ true
  pub free : (r : ℕ) → r < length app.shared → (is_init m.id ≡ true) ⊎ (is_free app m r ≡ true)
      → (is_kept app who (Guarded (section.Res r)) || is_constant app who (Guarded (section.Res r))) ≡ true
  pub change : (r : ℕ) → r < length app.shared → (is_init m.id ≡ true) ⊎ (is_free app m r ≡ true)
      → IsChangeable app m [] (atom.Shared r) → is_kept app who (Guarded (section.Res r)) ≡ true
  pub shared : (locked : List ℕ) (r : ℕ) → IsSoundLock app m locked r
      → NobodyKeeps (storage app) who who (section.Res r)
  -- sections whose ceilings are at least the body's priority may be entered
  pub enters : (x : Section) → m.priority ≤ ceiling app x → IsWithin (storage app) who who x

-- A body with what its code is generated with, and its frame: so many words, whose slots for masks begin at one.
pub record Body : Type 0 where
  pub z : Setting
  pub m : Member
  pub c : Context
  pub words : ℕ
  pub top : ℕ
  pub facts : Facts z.app z.who m c
  pub floor : c.expressions ≤ top
  pub masks : top ≤ c.spawns
  pub spawns : c.spawns ≤ words
  pub word : words < 2 ^ 32

-- Where a statement stands: the variables in scope, those of loops round it, the resources that are locked, how many
-- variables there are before it, the preemption threshold, and the slot for the next mask.
pub record Scope : Type 0 where
  pub visible : List ℕ
  pub fixed : List ℕ
  pub locked : List ℕ
  pub count : ℕ
  pub threshold : ℕ
  pub lock : ℕ

-- the local resources that a body lists
abbrev pub listed_by : Member → List ℕ
listed_by m = map (λ o. o.local) m.body.local

-- the slots that open sections saved masks in are among these
abbrev pub SavedBetween : ℕ → ℕ → List OpenSection → Type 0
SavedBetween low high held = AllByRecursion (λ d. (low ≤ d) × (d < high)) (saved_slots held)

-- a point with these sections open
pub record Inside (b : Body) (p : Scope) (held : List OpenSection) : Type 0 where
  pub below : (y : ℕ) → Contains p.visible y → y < p.count
  pub fixed : (y : ℕ) → Contains p.fixed y → y < p.count
  pub room : p.count ≤ b.c.expressions
  pub low : b.top ≤ p.lock
  pub high : p.lock ≤ b.c.spawns
  pub saved : SavedBetween b.top p.lock held
  pub are : OpenAre held p.locked
  pub off : HoldsOff b.z.app b.z.who b.z.who held p.threshold

-- further on, with more variables in scope, or more of loops
pub inside_as : {b : Body} {p : Scope} {held : List OpenSection} (visible fixed : List ℕ) (n : ℕ)
    → ((y : ℕ) → Contains visible y → y < p.count + n) → ((y : ℕ) → Contains fixed y → y < p.count + n)
    → p.count + n ≤ b.c.expressions → Inside b p held
    → Inside b (record p { visible = visible; fixed = fixed; count = p.count + n }) held
inside_as visible fixed n below loops room inside = record {
  below = below;
  fixed = loops;
  room = room;
  low = inside.low;
  high = inside.high;
  saved = inside.saved;
  are = inside.are;
  off = inside.off;
}

-- a slot below those for masks, or above them, keeps none
pub free_slot : {b : Body} {p : Scope} {held : List OpenSection} (d : ℕ) → (d < b.top) ⊎ (p.lock ≤ d) → Inside b p held
    → IsFree held d
free_slot {b = b} {p = p} {held = held} d apart inside =
    all_weaker (λ e. (b.top ≤ e) × (e < p.lock)) (λ e. e ≢ d) (λ e between. differ e between.0 between.1 apart)
    (saved_slots held) inside.saved
  where
    differ : (e : ℕ) → b.top ≤ e → e < p.lock → (d < b.top) ⊎ (p.lock ≤ d) → e ≢ d
    differ e low high (inl below) = omega arith
    differ e low high (inr above) = omega arith

-- What is known of values: those of variables in scope are in their slots, those of resources in cells.
pub record Knows (b : Body) (held : List OpenSection) (visible slots cells vars : List ℕ) (vs : Values) : Type 0 where
  pub in_slots : (x : ℕ) → Contains visible x → slice_index slots x ≡ slice_index vars x
  pub in_cells : IsRepresented b.z held cells vs
  pub long : length cells ≡ length (memory b.z.app)
  pub frame : length slots ≡ b.words
  pub variables : length vars ≡ b.c.expressions

-- less is known of fewer variables
pub fewer_visible : {b : Body} {held : List OpenSection} {visible fewer slots cells vars : List ℕ} {vs : Values}
    → ((x : ℕ) → Contains fewer x → Contains visible x) → Knows b held visible slots cells vars vs
    → Knows b held fewer slots cells vars vs
fewer_visible within known = record {
  in_slots = λ x here. known.in_slots x (within x here);
  in_cells = known.in_cells;
  long = known.long;
  frame = known.frame;
  variables = known.variables;
}

-- before some lines that take so many steps: they are in the code, and there is time for them
pub record IsAboutToRun (b : Body) (p : Scope) (h : Here) (lines : List Line) (cost : ℕ) (vars : List ℕ) (vs : Values)
    : Type 0 where
  pub has : HasCodeAt b.z.code h.at lines
  pub time : InTime (h.done + cost) h
  pub known : Knows b h.held p.visible h.slots h.cells vars vs
  pub inside : Inside b p h.held

-- what lines change
pub record State : Type 0 where
  pub done : ℕ
  pub slots : List ℕ
  pub cells : List ℕ
  pub vars : List ℕ
  pub queues : Location → List Entry
  pub vs : Values

-- after them, with these variables in scope: the variables of loops are in their slots as before
pub record Settled (b : Body) (fixed visible : List ℕ) (h : Here) (t : State) : Type 0 where
  pub known : Knows b h.held visible t.slots t.cells t.vars t.vs
  pub kept : (x : ℕ) → Contains fixed x → slice_index t.slots x ≡ slice_index h.slots x

abbrev pub then_at : Here → ℕ → State → Doing Values → Here
then_at h at t rest =
    record h { done = t.done; slots = t.slots; at = at; cells = t.cells; queues = t.queues; rest = rest }

-- the code after some lines is correct, where they have taken no more than so many steps
pub record Behind (b : Body) (p : Scope) (visible : List ℕ) (h : Here) (size cost : ℕ) (later : Later) : Type 0 where
  pub on : (t : State) → t.done ≤ h.done + cost → Settled b p.fixed visible h t
      → S b.z (then_at h (h.at + size) t (later t.vars t.vs))

-- lines, which depend on where they begin, do what is to be done before anything later
pub record Performs (b : Body) (p : Scope) (visible : List ℕ) (lines : ℕ → List Line) (cost : ℕ)
    (doing : Later → Later) : Type 0 where
  pub runs : {h : Here} {vars : List ℕ} {vs : Values} (later : Later) → IsAboutToRun b p h (lines h.at) cost vars vs
      → h.rest ≡ doing later vars vs → Behind b p visible h (length (lines h.at)) cost later → S b.z h

-- the same point by other names
pub named : {z : Setting} {h : Here} {done at : ℕ} {rest : Doing Values} → h.done ≡ done → h.at ≡ at → h.rest ≡ rest
    → S z (record h { done = done; at = at; rest = rest }) → S z h
named {z = z} {h = h} {done = done} {at = at} done_is at_is rest_is correct =
    subst (λ (k : ℕ). S z (record h { done = k })) (sym done_is)
    (subst (λ (a : ℕ). S z (record h { done = done; at = a })) (sym at_is)
    (subst (λ (r : Doing Values). S z (record h { done = done; at = at; rest = r })) (sym rest_is) correct))

-- after some lines the code is correct, wherever they have led by another name
pub goes_behind : {b : Body} {p : Scope} {h : Here} {visible slots cells vars : List ℕ} {size cost done at : ℕ}
    {queues : Location → List Entry} {vs : Values} {later : Later} → Behind b p visible h size cost later
    → at ≡ h.at + size → done ≤ h.done + cost → Knows b h.held visible slots cells vars vs
    → ((x : ℕ) → Contains p.fixed x → slice_index slots x ≡ slice_index h.slots x)
    → S b.z (record h {
      done = done;
      slots = slots;
      at = at;
      cells = cells;
      queues = queues;
      rest = later vars vs;
    })
goes_behind {slots = slots} {cells = cells} {vars = vars} {done = done} {queues = queues} {vs = vs} behind at_is less
    known kept =
    let t : State = record { done = done; slots = slots; cells = cells; vars = vars; queues = queues; vs = vs } in
    named refl at_is refl (behind.on t less (record { known = known; kept = kept }))

-- so what is after them is after their last ones, which begin where loops' variables are as before
pub still_behind : {b : Body} {p : Scope} {h : Here} {visible slots cells : List ℕ} {size few cost steps done at : ℕ}
    {queues : Location → List Entry} {rest : Doing Values} {later : Later} → Behind b p visible h size cost later
    → at + few ≡ h.at + size → done + steps ≤ h.done + cost
    → ((x : ℕ) → Contains p.fixed x → slice_index slots x ≡ slice_index h.slots x)
    → Behind b p visible
    (record h { done = done; slots = slots; at = at; cells = cells; queues = queues; rest = rest }) few steps later
still_behind behind at_is less kept = record {
  on = λ t within settled.
      goes_behind behind at_is (omega arith) settled.known (λ x here. settled.kept x here ∙ kept x here);
}

module _ {b : Body} {p : Scope} {h : Here} {lines : List Line} {cost : ℕ} {vars : List ℕ} {vs : Values} where
  -- there is time for so many of the steps
  pub sooner : {k : ℕ} → k ≤ h.done + cost → IsAboutToRun b p h lines cost vars vs → InTime k h
  sooner {k = k} less begins = lasts_less k (h.done + cost) (h.until ∷ h.deadlines) less begins.time

-- the first of the lines
pub front_of : {b : Body} {p : Scope} {h : Here} {few cost : ℕ} {vars : List ℕ} {vs : Values} (front back : List Line)
    → few ≤ cost → IsAboutToRun b p h (front ++ back) cost vars vs → IsAboutToRun b p h front few vars vs
front_of {b = b} {h = h} front back less begins = record {
  has = code_front b.z.code h.at front back begins.has;
  time = sooner (omega arith) begins;
  known = begins.known;
  inside = begins.inside;
}

-- what a statement and a block ask of the frame, and how long they take
pub record Needs : Type 0 where
  pub depth : ℕ
  pub loop : Bool
  pub locks : ℕ
  pub sends : List Spawn
  pub variables : ℕ
  pub steps : ℕ

abbrev pub needs : App → Statement → Needs
needs app s = record {
  depth = statement_depth s;
  loop = is_loop s;
  locks = statement_locks s;
  sends = statement_spawns s;
  variables = variables_in s;
  steps = statement_steps (cost_measure app) s;
}

abbrev pub block_needs : App → Block → Needs
block_needs app b = record {
  depth = block_depth b;
  loop = has_loop b;
  locks = locks b;
  sends = spawns b;
  variables = variables b;
  steps = block_steps (cost_measure app) b;
}

-- what needs so much fits where it stands
pub record Fits (b : Body) (p : Scope) (n : Needs) : Type 0 where
  pub depth : b.c.expressions + n.depth ≤ b.top
  pub loops : n.loop ≡ true → b.c.expressions < b.top
  pub masks : p.lock + n.locks ≤ b.c.spawns
  pub sends : (q : Spawn) → IsIn n.sends q → b.c.spawns + spawn_words q ≤ b.words
  pub variables : p.count + n.variables ≤ b.c.expressions
  pub steps : n.steps ≤ BODY_COST

-- so does a part of it, which stands deeper
pub part_fits : {b : Body} {p q : Scope} {n m : Needs} → Fits b p n → m.depth ≤ n.depth
    → (q.lock + m.locks ≤ p.lock + n.locks) × (q.count + m.variables ≤ p.count + n.variables) → m.steps ≤ n.steps
    → (m.loop ≡ true → n.loop ≡ true) → ((s : Spawn) → IsIn m.sends s → IsIn n.sends s) → Fits b q m
part_fits fits deep (masks, variables) steps loops sends = record {
  depth = omega (arith, fits.depth);
  loops = λ is. fits.loops (loops is);
  masks = omega (arith, fits.masks);
  sends = λ s there. fits.sends s (sends s there);
  variables = omega (arith, fits.variables);
  steps = omega (arith, fits.steps);
}
