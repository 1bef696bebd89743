-- The code of every block stands, with that of sections round blocks: it does what the block means, within its steps.
use Rattle.rt_gen_queue.proofs.Vocabulary.{AllByRecursion, App, Assign, BODY_COST, Bind, Block, Branch, Calc, Call}
use Rattle.rt_gen_queue.proofs.Vocabulary.{Contains, Emit, Empty, Guarded, HasCodeAt, OpenSection, HoldsOff, IsKindFor}
use Rattle.rt_gen_queue.proofs.Vocabulary.{IsSoundLock, SectionKind, Leaves, Line, List, Locked, Now, Pend, Repeat}
use Rattle.rt_gen_queue.proofs.Vocabulary.{Spawns}
use Rattle.rt_gen_queue.proofs.Vocabulary.{Statement, Then, Values, [], accepted_are_sound, act, all_append, all_has}
use Rattle.rt_gen_queue.proofs.Vocabulary.{all_weaker, ap, arith, block_steps, cap_steps, contains_cases}
use Rattle.rt_gen_queue.proofs.Vocabulary.{contains_there, cost_measure, false_from_ne_true, guard_of, has_loop, inl}
use Rattle.rt_gen_queue.proofs.Vocabulary.{inr, kind_of, leave_line, length, length-append, list_any, max}
use Rattle.rt_gen_queue.proofs.Vocabulary.{opening_instr}
use Rattle.rt_gen_queue.proofs.Vocabulary.{or_left, or_right, spend_step, refl, run, run_block, saved_slot}
use Rattle.rt_gen_queue.proofs.Vocabulary.{saved_slots}
use Rattle.rt_gen_queue.proofs.Vocabulary.{slots_with_mask, slice_index, spawns, statement_steps, storage, subst, suc}
use Rattle.rt_gen_queue.proofs.Vocabulary.{sym}
use Rattle.rt_gen_queue.proofs.Vocabulary.{variables, variables_in, zero, ℕ, ◌*◌, ◌++◌, ◌+◌, ◌-◌, ◌<◌, ◌==◌, ◌∙◌, ◌∷◌}
use Rattle.rt_gen_queue.proofs.Vocabulary.{◌≡◌, ◌≤◌}
use Rattle.std.proofs.Math.Nat.{suc-mul}
use Rattle.rt_lemmas.proofs.Membership.{contained_any}
use Rattle.rt_ids.specs.declared.ids.Section.TheVariants as section
use Rattle.rt_app.proofs.Members.{in_back, in_front}
use Rattle.rt_app.specs.{Frame.is_loop, Sound.IsSoundBlock, Sound.IsSoundStatement, Spawned.statement_spawns}
use Rattle.rt_app.specs.Accepted.{IsBlockPlaced, IsStatementPlaced, visible_after}
use Rattle.rt_app.specs.Cost.{block_cost, capped_cost, lock_cost}
use Rattle.rt_gen_queue.proofs.{Entering.kind_fits, Masks.of_kinds, Masks.saved_beside, Owning.reads_inside}
use Rattle.rt_gen_queue.proofs.{Placing.code_behind, Placing.code_front}
use Rattle.rt_gen_queue.proofs.Layer.{Here, MayOpen, enters_here, leaves_here, configuration}
use Rattle.rt_gen_queue.specs.declared.guard.Guard.{Guard}
use Rattle.rt_gen_body.proofs.{Sending.binds_sent, Sending.sends, Storing.guard_is}
use Rattle.rt_gen_body.proofs.Expressions.{Sets, assigns, binds_time, emits_value, pends, sets_variable}
use Rattle.rt_gen_body.proofs.Loops.{BlockPerforms, chooses, in_loop, loops}
use Rattle.rt_gen_body.proofs.Owning.{open_as, resource_cell, represented_agreed, represented_inside}
use Rattle.rt_gen_body.proofs.Owning.{represented_outside}
use Rattle.rt_gen_body.proofs.Scopes.{IsAboutToRun, Body, Fits, Inside, Performs, Scope, block_needs, fewer_visible}
use Rattle.rt_gen_body.proofs.Scopes.{front_of}
use Rattle.rt_gen_body.proofs.Scopes.{goes_behind, inside_as, threshold_inside, listed_by, named, needs, part_fits}
use Rattle.rt_gen_body.proofs.Scopes.{sooner}
use Rattle.rt_gen_body.specs.BlockCode.{block_code, guard_at, statement_code}
use Rattle.rt_gen_body.specs.ValueCode.{Context, next_slot}

-- a section costs its steps, where they are few
section_cost : (app : App) (inner : Block) → 2 + block_steps (cost_measure app) inner ≤ BODY_COST
    → lock_cost (block_cost (cost_measure app) inner) ≡ 2 + block_steps (cost_measure app) inner
section_cost app inner few =
    ap lock_cost (cap_steps.blocks (cost_measure app) inner)
    ∙ (let e : capped_cost (2 + capped_cost (block_steps (cost_measure app) inner)) ≡ 2
    + block_steps (cost_measure app) inner = omega arith in e)

-- the slot that keeps a mask
saved_all : (P : ℕ → Type 0) (g : Guard) (threshold slot : ℕ) → P slot
    → AllByRecursion P (saved_slot (kind_of g threshold slot))
saved_all P g threshold slot holds =
    of_kinds g threshold (λ kind. AllByRecursion P (saved_slot (kind slot))) tt (holds, tt) (holds, tt)

-- inside a section of a resource
abbrev pub in_lock : Body → Scope → ℕ → Scope
in_lock b p r = record p {
  locked = r ∷ p.locked;
  threshold = max p.threshold (guard_at b.c r).ceiling;
  lock = next_slot p.lock;
}

module _ (b : Body) (p : Scope) (r offset : ℕ) (inner : Block) (sound : IsSoundLock b.z.app b.m p.locked r)
    (fits : Fits b p (needs b.z.app (Locked r inner offset))) where
  abbrev kind : SectionKind
  kind = kind_of (guard_at b.c r) p.threshold p.lock

  abbrev open_now : OpenSection
  open_now = record { section = section.Res r; kind = kind }

  -- its guard is the section's
  guard : guard_at b.c r ≡ guard_of b.z.app (section.Res r)
  guard = ap (λ (c : Context). guard_at c r) b.facts.is ∙ guard_is b.z.app b.m r sound.is_there

  opens : opening_instr (guard_at b.c r).value kind
      ≡ opening_instr ((storage b.z.app).value ((storage b.z.app).ceiling (section.Res r))) kind
  unfolding storage
  opens = ap (λ (g : Guard). opening_instr g.value kind) guard

  may_open : {h : Here} {lines : List Line} {cost : ℕ} {vars : List ℕ} {vs : Values}
      → IsAboutToRun b p h lines cost vars vs
      → MayOpen b.z h (section.Res r) kind
  may_open {h = h} begins = record {
    mask = subst (λ (g : Guard). IsKindFor (storage b.z.app) b.z.who b.z.who h.held (section.Res r)
        (kind_of g p.threshold p.lock)) (sym guard)
        (kind_fits b.z.app b.z.who h.held (section.Res r) p.threshold p.lock begins.inside.off
        ((accepted_are_sound b.z.app b.facts.accepted).ceilings (section.Res r) sound.is_there));
    slot = saved_all (λ d. (d < length h.slots) × (¬ Contains (saved_slots h.held) d)) (guard_at b.c r) p.threshold
        p.lock (
          omega (arith, begins.known.frame, b.spawns, fits.masks),
          λ there.
              let P : ℕ → Type 0 = λ e. (b.top ≤ e) × (e < p.lock) in
              let found : P p.lock = all_has P (saved_slots h.held) p.lock begins.inside.saved there in
              omega (arith, found.1),
        );
    within = b.facts.enters (section.Res r) sound.within;
    closed = open_as h.held p.locked (section.Res r) begins.inside.are
        ∙ false_from_ne_true (list_any (λ q. q == r) p.locked) (λ is. sound.once (contained_any r p.locked is));
    nobody = b.facts.shared p.locked r sound;
  }

  inside_lock : {held : List OpenSection} → Inside b p held → Inside b (in_lock b p r) (open_now ∷ held)
  inside_lock {held = held} inside =
      let next : next_slot p.lock ≡ p.lock + 1 = omega (arith, fits.masks, b.spawns, b.word) in
      record {
        below = inside.below;
        fixed = inside.fixed;
        room = inside.room;
        low = omega (arith, inside.low);
        high = omega (arith, fits.masks);
        saved =
            all_append (λ d. (b.top ≤ d) × (d < next_slot p.lock)) (saved_slot kind) (saved_slots held)
            (saved_all (λ d. (b.top ≤ d) × (d < next_slot p.lock)) (guard_at b.c r) p.threshold p.lock
            (inside.low, omega arith))
            (all_weaker (λ d. (b.top ≤ d) × (d < p.lock)) (λ d. (b.top ≤ d) × (d < next_slot p.lock))
            (λ d between. (between.0, omega (arith, between.1))) (saved_slots held) inside.saved);
        are = (refl, inside.are);
        off = subst (λ (g : Guard). HoldsOff b.z.app b.z.who b.z.who (open_now ∷ held) (max p.threshold g.ceiling))
            (sym guard) (threshold_inside b.z.app b.z.who held p.threshold open_now inside.off);
      }

  pub locks : BlockPerforms b (in_lock b p r) inner
      → Performs b p p.visible (λ at. statement_code b.c p.threshold p.lock at (Locked r inner offset))
      (statement_steps (cost_measure b.z.app) (Locked r inner offset)) (run b.z.app (Locked r inner offset))
  locks stands = record {
    runs = λ {h} {vars} {vs} later begins is behind.
        let cost : ℕ = lock_cost (block_cost (cost_measure b.z.app) inner) in
        let cost_is = section_cost b.z.app inner fits.steps in
        let at : ℕ = h.at + 1 in
        let code : List Line = block_code b.c (max p.threshold (guard_at b.c r).ceiling) (next_slot p.lock) at inner in
        let last : List Line = leave_line (section.Res r) (guard_at b.c r) p.threshold p.lock ∷ [] in
        let next : suc h.at ≡ at = omega arith in
        let has = subst (λ a. HasCodeAt b.z.code a (code ++ last)) next begins.has.1 in
        let cell = resource_cell b.z.app r sound.is_there in
        let same : (saved y : ℕ) → y < b.c.expressions → slice_index (slots_with_mask kind saved h.slots) y
        ≡ slice_index h.slots y =
        λ saved y low. (saved_beside (guard_at b.c r) p.threshold p.lock saved h.slots).others y
        (omega (arith, b.floor, begins.inside.low)) in
        enters_here kind cost begins.has.0 opens (sooner (omega arith) begins) (may_open begins) is
        (λ saved ws cells queues taken.
        named refl next refl
        (stands.runs (λ vars. act (Leaves (section.Res r)) (later vars))
        (record {
          has = code_front b.z.code at code last has;
          time = (omega (arith, begins.time.0), (omega (arith, cost_is), (sooner (omega arith) begins).1));
          known = record {
            in_slots = λ y here.
                same saved y (omega (arith, begins.inside.below y here, begins.inside.room))
                ∙ begins.known.in_slots y here;
            in_cells = represented_inside open_now (spend_step (configuration b.z h)) taken begins.known.in_cells;
            long = taken.same.long ∙ begins.known.long;
            frame = (saved_beside (guard_at b.c r) p.threshold p.lock saved h.slots).long ∙ begins.known.frame;
            variables = begins.known.variables;
          };
          inside = inside_lock begins.inside;
        }) refl
        (record {
          on = λ t within settled.
              let known = settled.known in
              leaves_here kind
              (record {
                outer = h.held;
                deadline = h.done + cost;
                around = h.deadlines;
                innermost = refl;
                last = refl;
              }) (code_behind b.z.code at (at + length code) code last refl has).0 refl
              (omega (arith, begins.time.0), (omega (arith, cost_is), (sooner (omega arith) begins).1)) refl
              (cell.for (slice_index t.cells) (t.queues (Guarded (section.Res r))) (t.vs (Guarded (section.Res r)))
              (known.in_cells.has cell (reads_inside b.z.app b.z.who h.held open_now (section.Res r) refl)))
              (λ us agree.
              goes_behind behind (omega (arith, length-append code last)) (omega arith) (record {
                in_slots = known.in_slots;
                in_cells = represented_agreed agree (represented_outside open_now known.in_cells);
                long = known.long;
                frame = known.frame;
                variables = known.variables;
              }) (λ y here.
              settled.kept y here ∙ same saved y (omega (arith, begins.inside.fixed y here, begins.inside.room))));
        })));
  }

-- after a statement all is in scope that was, and what is new is the next variable
behind_more : (app : App) (listed : List ℕ) (n : ℕ) (visible : List ℕ) (s : Statement) (y : ℕ) → Contains visible y
    → Contains (visible_after app listed n visible s) y
behind_more app listed n visible (Bind x v) y here = contains_there n visible y here
behind_more app listed n visible s y here = here

behind_below : (app : App) (listed : List ℕ) (n : ℕ) (visible : List ℕ) (s : Statement)
    → ((y : ℕ) → Contains visible y → y < n) → (y : ℕ) → Contains (visible_after app listed n visible s) y
    → y < n + variables_in s
behind_below app listed n visible (Bind x v) below y here =
    elim (contains_cases n visible y here) [ inl e ↦ omega arith | inr old ↦ omega (arith, below y old) ]
behind_below app listed n visible s below y here = omega (arith, below y here)

-- one of some turns is no more than all
at_least : (n m : ℕ) → 0 < n → m ≤ n * m
at_least zero m some = absurd (omega arith)
at_least (suc n) m some = omega (arith, suc-mul n m)

-- a block that uses later variables alone may stand where earlier ones are the next
further : {b : Body} {p : Scope} (block : Block) (n : ℕ) → p.count + n ≤ b.c.expressions
    → BlockPerforms b (record p { count = p.count + n }) block → BlockPerforms b p block
further {p = p} block n room performs = record {
  runs = λ later begins is after.
      performs.runs later
      (record {
        has = begins.has;
        time = begins.time;
        known = begins.known;
        inside = inside_as p.visible p.fixed n (λ y here. omega (arith, begins.inside.below y here))
            (λ y here. omega (arith, begins.inside.fixed y here)) room begins.inside;
      }) is (record { on = after.on });
}

-- the next variable may be set
next_sets : {b : Body} {p : Scope} {x : ℕ} → x ≡ p.count → p.count + 1 ≤ b.c.expressions
    → Sets b p x (p.count ∷ p.visible)
next_sets {p = p} is room = record {
  small = λ {held} inside. omega arith;
  free = λ {held} inside here. omega (arith, inside.fixed _ here);
  cases = λ y here.
      elim (contains_cases p.count p.visible y here) [ inl e ↦ inl (is ∙ e) | inr old ↦ inr old ];
}

module _ (b : Body) where
  mutual
    pub statement_stands : (s : Statement) (p : Scope) → Fits b p (needs b.z.app s)
        → IsSoundStatement b.z.app b.m p.count p.locked p.fixed s
        → IsStatementPlaced b.z.app (listed_by b.m) p.count p.visible s
        → Performs b p (visible_after b.z.app (listed_by b.m) p.count p.visible s)
        (λ at. statement_code b.c p.threshold p.lock at s) (statement_steps (cost_measure b.z.app) s) (run b.z.app s)
    statement_stands (Bind x (Calc e)) p fits sound placed =
        sets_variable e (record { deep = fits.depth; reached = sound.1; meant = placed.1 })
        (next_sets sound.0 fits.variables)
    statement_stands (Bind x (Now at)) p fits sound placed =
        binds_time (next_sets sound.0 fits.variables)
    statement_stands (Bind x (Call q)) p fits sound placed =
        binds_sent q
        (record { deep = fits.depth; words = fits.sends q (0, refl); sound = sound.1; placed = placed.1 })
        (next_sets sound.0 fits.variables)
    statement_stands (Assign x e at) p fits sound placed =
        assigns x e at (record { deep = fits.depth; reached = sound.2; meant = placed.1 }) sound.0 placed.0 sound.1
    statement_stands (Branch e first second) p fits sound placed =
        chooses e first second (record { deep = omega (arith, fits.depth); reached = sound.0; meant = placed.0 })
        (block_stands first p
        (part_fits fits (omega arith) (omega arith, omega arith) (omega arith)
        (or_left (has_loop first) (has_loop second)) (in_front (spawns first) (spawns second))) sound.1 placed.1)
        (further second (variables first) (omega (arith, fits.variables))
        (block_stands second (record p { count = p.count + variables first })
        (part_fits fits (omega arith) (omega arith, omega arith) (omega arith)
        (or_right (has_loop first) (has_loop second)) (in_back (spawns first) (spawns second))) sound.2 placed.2))
    statement_stands (Repeat x first last turn) p fits sound placed =
        subst (λ (y : ℕ). Performs b p p.visible (λ at. statement_code b.c p.threshold p.lock at
        (Repeat y first last turn))
        (statement_steps (cost_measure b.z.app) (Repeat y first last turn)) (run b.z.app (Repeat y first last turn)))
        (sym sound.0)
        (loops first last turn
        (λ some.
        let few = at_least (last - first) (block_steps (cost_measure b.z.app) turn + 6) (omega arith) in
        block_stands turn (in_loop p)
        (part_fits fits (omega arith) (omega arith, omega arith) (omega arith) (λ is. refl) (λ q there. there))
        (subst (λ (y : ℕ). IsSoundBlock b.z.app b.m (p.count + 1) p.locked (y ∷ p.fixed) turn) sound.0 sound.4)
        placed.1) (omega (arith, fits.variables)) (fits.loops refl) sound.2)
    statement_stands (Locked r inner at) p fits sound placed =
        locks b p r at inner sound.0 fits
        (block_stands inner (in_lock b p r)
        (part_fits fits (omega arith) (omega arith, omega arith) (omega arith) (λ is. is) (λ q there. there)) sound.1
        placed.1)
    statement_stands (Emit e) p fits sound placed =
        emits_value e (record { deep = fits.depth; reached = sound; meant = placed })
    statement_stands (Pend i) p fits sound placed = pends i
    statement_stands (Spawns q) p fits sound placed =
        sends q (record { deep = fits.depth; words = fits.sends q (0, refl); sound = sound; placed = placed })

    pub block_stands : (block : Block) (p : Scope) → Fits b p (block_needs b.z.app block)
        → IsSoundBlock b.z.app b.m p.count p.locked p.fixed block
        → IsBlockPlaced b.z.app (listed_by b.m) p.count p.visible block → BlockPerforms b p block
    block_stands Empty p fits sound placed = record {
      runs = λ {h} {vars} {vs} later begins is after.
          named refl (omega arith) is
          (after.on (record {
            done = h.done;
            slots = h.slots;
            cells = h.cells;
            vars = vars;
            queues = h.queues;
            vs = vs;
          }) (omega arith) (record { known = begins.known; kept = λ y here. refl }));
    }
    block_stands (Then s rest) p fits sound placed =
        let more : ℕ = block_steps (cost_measure b.z.app) rest in
        let visible : List ℕ = visible_after b.z.app (listed_by b.m) p.count p.visible s in
        let one = statement_stands s p
        (part_fits fits (omega arith) (omega arith, omega arith) (omega arith) (or_left (is_loop s) (has_loop rest))
        (in_front (statement_spawns s) (spawns rest))) sound.0 placed.0 in
        let two = block_stands rest (record p { visible = visible; count = p.count + variables_in s })
        (part_fits fits (omega arith) (omega arith, omega arith) (omega arith) (or_right (is_loop s) (has_loop rest))
        (in_back (statement_spawns s) (spawns rest))) sound.1 placed.1 in
        record {
          runs = λ {h} {vars} {vs} later begins is after.
              let first : List Line = statement_code b.c p.threshold p.lock h.at s in
              let others : List Line = block_code b.c p.threshold p.lock (h.at + length first) rest in
              one.runs (run_block b.z.app rest later) (front_of first others (omega arith) begins) is
              (record {
                on = λ t within settled.
                    two.runs later
                    (record {
                      has = code_behind b.z.code h.at (h.at + length first) first others refl begins.has;
                      time = sooner (omega arith) begins;
                      known = settled.known;
                      inside = inside_as visible p.fixed (variables_in s)
                          (behind_below b.z.app (listed_by b.m) p.count p.visible s begins.inside.below)
                          (λ y here. omega (arith, begins.inside.fixed y here)) (omega (arith, fits.variables))
                          begins.inside;
                    }) refl
                    (record {
                      on = λ t2 within2 settled2.
                          goes_behind after (omega (arith, length-append first others)) (omega arith)
                          (fewer_visible (behind_more b.z.app (listed_by b.m) p.count p.visible s)
                          settled2.known) (λ y here. settled2.kept y here ∙ settled.kept y here);
                    });
              });
        }
