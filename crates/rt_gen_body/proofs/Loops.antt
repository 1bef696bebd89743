-- The code of a choice between two blocks, and of a loop: from its head, turn after turn.
use Rattle.rt_gen_queue.proofs.Vocabulary.{Block, Bool, Branch, Contains, Doing, Empty, Expression, HasCodeAt}
use Rattle.rt_gen_queue.proofs.Vocabulary.{OpenSection, Line}
use Rattle.rt_gen_queue.proofs.Vocabulary.{List, Repeat, Then, Values, [], ap, arith, block_steps, contains_cases}
use Rattle.rt_gen_queue.proofs.Vocabulary.{contains_here, contains_there, cost_measure, expression_steps, false}
use Rattle.rt_gen_queue.proofs.Vocabulary.{get_or-set_other, get_or-set_same, if◌then◌else◌, inl, inr, le-ltb, length}
use Rattle.rt_gen_queue.proofs.Vocabulary.{length-append, length-set, lt-ltb, max, nat_lt, number_of, plain, refl, run}
use Rattle.rt_gen_queue.proofs.Vocabulary.{run_block, slice_index, slice_set, statement_steps, subst, suc, sym, true}
use Rattle.rt_gen_queue.proofs.Vocabulary.{value_in, zero, ℕ, ◌*◌, ◌++◌, ◌+◌, ◌-◌, ◌<◌, ◌==◌, ◌^◌, ◌∙◌, ◌∷◌, ◌≡◌, ◌≤◌}
use Rattle.std.proofs.Math.Nat.{suc-mul}
use Rattle.rt_ids.specs.declared.op.Op.TheVariants as op
use Rattle.rt_app.specs.Meaning.{Later, turns_from}
use Rattle.rt_code.specs.declared.instr.Instr.TheVariants as instr
use Rattle.rt_gen_queue.proofs.{Numbers.added, Numbers.steps_and, Placing.code_behind, Placing.code_front}
use Rattle.rt_gen_queue.proofs.Layer.{Here, S, calc_gives, goes, jump_by_gives, jump_gives, set_gives}
use Rattle.rt_gen_body.proofs.Expressions.{Sound, next_begins, still_known, valued, variable_set, with_value}
use Rattle.rt_gen_body.proofs.Scopes.{IsAboutToRun, Behind, Body, Inside, Knows, Performs, Scope, fewer_visible}
use Rattle.rt_gen_body.proofs.Scopes.{free_slot}
use Rattle.rt_gen_body.proofs.Scopes.{goes_behind, inside_as, named, sooner, still_behind}
use Rattle.rt_gen_body.specs.{BlockCode.block_code, BlockCode.loop_back, BlockCode.statement_code, ValueCode.value_code}

-- a block does what it means, and leaves in scope what was
abbrev pub BlockPerforms : Body → Scope → Block → Type 0
BlockPerforms b p block =
    Performs b p p.visible (λ at. block_code b.c p.threshold p.lock at block) (block_steps (cost_measure b.z.app) block)
    (run_block b.z.app block)

module _ {b : Body} {p : Scope} where
  -- A test and the jump after it: the value decides where the code goes on.
  decides : {visible : List ℕ} {h : Here} {vars : List ℕ} {vs : Values} {total : ℕ} {later : Later} {more : List Line}
      (e : Expression) (to cost : ℕ) → expression_steps e + suc cost ≤ total
      → Sound b p e → IsAboutToRun b p h (value_code b.c e ++ plain (instr.JumpZ b.c.expressions to)
      ∷ more) total vars vs
      → Behind b p visible h (length (value_code b.c e ++ plain (instr.JumpZ b.c.expressions to) ∷ more)) total later
      → ((slots : List ℕ)
      → IsAboutToRun b p (valued b h e slots) (plain (instr.JumpZ b.c.expressions to) ∷ more) (suc cost) vars vs
      → HasCodeAt b.z.code (h.at + length (value_code b.c e) + 1) more
      → Behind b p visible (valued b h e slots) (suc (length more)) (suc cost) later
      → (stop : Bool) → (value_in vars vs e == 0) ≡ stop
      → S b.z (record (valued b h e slots) {
        done = suc (h.done + expression_steps e);
        at = if stop then to else h.at + length (value_code b.c e) + 1;
      }))
      → S b.z h
  decides {h = h} {vars = vars} {vs = vs} {more = more} e to cost less sound begins behind on =
      let stop : Bool = value_in vars vs e == 0 in
      let next : h.at + length (value_code b.c e) + 1 ≡ suc (h.at + length (value_code b.c e)) = omega arith in
      with_value e (suc cost) less sound begins behind
      (λ slots there result begins1 behind1.
      goes begins1.has.0 (sooner (omega arith) begins1) (jump_by_gives stop there (ap (λ v. v == 0) result))
      (subst (λ n. S b.z (record (valued b h e slots) {
        done = suc (h.done + expression_steps e);
        at = if stop then to else n;
      })) next
      (on slots begins1 (subst (λ n. HasCodeAt b.z.code n more) (sym next) begins1.has.1) behind1 stop refl)))

  -- a block after a jump
  begins_block : {h : Here} {lines : List Line} {cost : ℕ} {vars : List ℕ} {vs : Values} (block : Block) (at : ℕ)
      → HasCodeAt b.z.code at (block_code b.c p.threshold p.lock at block)
      → suc (block_steps (cost_measure b.z.app) block) ≤ cost → IsAboutToRun b p h lines cost vars vs
      → IsAboutToRun b p (record h { done = suc h.done; at = at }) (block_code b.c p.threshold p.lock at block)
      (block_steps (cost_measure b.z.app) block) vars vs
  begins_block block at has less begins = next_begins has (omega arith) refl (λ x low. refl) begins

  -- a choice between two blocks: without a second one its jump leads over the first, and else the first ends with a
  -- jump over the second
  pub chooses : (e : Expression) (first second : Block) → Sound b p e → BlockPerforms b p first
      → BlockPerforms b p second
      → Performs b p p.visible (λ at. statement_code b.c p.threshold p.lock at (Branch e first second))
      (statement_steps (cost_measure b.z.app) (Branch e first second)) (run b.z.app (Branch e first second))
  chooses e first Empty sound one two = record {
    runs = λ {h} {vars} {vs} later begins is behind.
        let at : ℕ = h.at + length (value_code b.c e) + 1 in
        let left : Bool → Doing Values =
        λ stop. if stop then later vars vs else run_block b.z.app first later vars vs in
        decides e (at + length (block_code b.c p.threshold p.lock at first))
        (suc (block_steps (cost_measure b.z.app) first)) (omega arith) sound begins behind
        (λ slots begins1 has behind1. elim [
          | true ↦ λ stops.
              named refl refl (is ∙ ap left stops)
              (goes_behind behind1 (omega arith) (omega arith) begins1.known (λ y here. refl))
          | false ↦ λ stops.
              one.runs later (begins_block first at has (omega arith) begins1) (is ∙ ap left stops)
              (still_behind behind1 (omega arith) (omega arith) (λ x here. refl))
        ]);
  }
  chooses e first (Then s more) sound one two = record {
    runs = λ {h} {vars} {vs} later begins is behind.
        let second : Block = Then s more in
        let at : ℕ = h.at + length (value_code b.c e) + 1 in
        let code : List Line = block_code b.c p.threshold p.lock at first in
        let to : ℕ = at + length code + 1 in
        let other : List Line = block_code b.c p.threshold p.lock to second in
        let over : List Line = plain (instr.Jump (to + length other)) ∷ other in
        let all = length-append code over in
        let steps : ℕ = max (block_steps (cost_measure b.z.app) first) (block_steps (cost_measure b.z.app) second) in
        let left : Bool → Doing Values =
        λ stop. if stop then run_block b.z.app second later vars vs else run_block b.z.app first later vars vs in
        decides e to (suc steps) (omega arith) sound begins behind
        (λ slots begins1 has behind1.
        let over_has = code_behind b.z.code at (at + length code) code over refl has in
        elim [
          | true ↦ λ stops.
              two.runs later
              (begins_block second to (subst (λ a. HasCodeAt b.z.code a other) (omega arith) over_has.1) (omega arith)
              begins1) (is ∙ ap left stops) (still_behind behind1 (omega (arith, all)) (omega arith) (λ x here. refl))
          | false ↦ λ stops.
              one.runs later
              (begins_block first at (code_front b.z.code at code over has) (omega arith) begins1) (is ∙ ap left stops)
              (record {
                on = λ t within settled.
                    goes over_has.0 (sooner (omega arith) begins1) jump_gives
                    (goes_behind behind1 (omega (arith, all)) (omega arith) settled.known settled.kept);
              })
        ]);
  }

-- the steps of so many turns, each with its block and the six of its head and its tail
abbrev spent : ℕ → ℕ → ℕ
spent zero block = 0
spent (suc turns) block = block + 6 + spent turns block

spent_is : (turns block : ℕ) → spent turns block ≡ turns * (block + 6)
spent_is zero block = omega arith
spent_is (suc turns) block = omega (arith, spent_is turns block, suc-mul turns (block + 6))

-- inside a loop of the next variable
abbrev pub in_loop : Scope → Scope
in_loop p = record p { visible = p.count ∷ p.visible; fixed = p.count ∷ p.fixed; count = p.count + 1 }

pub inside_loop : {b : Body} {p : Scope} {held : List OpenSection} → p.count + 1 ≤ b.c.expressions → Inside b p held
    → Inside b (in_loop p) held
inside_loop {p = p} room inside =
    inside_as (p.count ∷ p.visible) (p.count ∷ p.fixed) 1 (λ y here. within y p.visible inside.below here)
    (λ y here. within y p.fixed inside.fixed here) room inside
  where
    within : (y : ℕ) (xs : List ℕ) → ((x : ℕ) → Contains xs x → x < p.count) → Contains (p.count ∷ xs) y
        → y < p.count + 1
    within y xs below here =
        elim (contains_cases p.count xs y here) [
          | inl same ↦ omega arith
          | inr old ↦ omega (arith, below y old)
        ]

-- a loop's turn and where its code is, the numbers that it begins with and ends before, and where it ends
pub record Loop : Type 0 where
  pub turn : Block
  pub from : ℕ
  pub first : ℕ
  pub last : ℕ
  pub end : ℕ

-- the lines of a loop's head, and all from there on, with the head at an address
abbrev head_lines : Body → Scope → Loop → List Line
head_lines b p l =
    plain (instr.Set b.c.expressions l.last)
    ∷ plain (instr.Calc op.Lt b.c.expressions p.count b.c.expressions) ∷ plain (instr.JumpZ b.c.expressions l.end) ∷ []

abbrev turn_lines : Body → Scope → Loop → ℕ → List Line
turn_lines b p l at =
    head_lines b p l ++ (block_code b.c p.threshold p.lock l.from l.turn ++ loop_back b.c p.count at)

-- the number that the loop has come to
number_there : {b : Body} {p : Scope} {h : Here} {lines : List Line} {cost : ℕ} {vs : Values} (vars : List ℕ) (i : ℕ)
    → IsAboutToRun b (in_loop p) h lines cost (slice_set vars p.count i) vs
    → slice_index (slice_set vars p.count i) p.count ≡ i
number_there {p = p} vars i begins =
    get_or-set_same vars p.count i 0
    (omega (arith, begins.inside.room, begins.known.variables, length-set vars p.count i))

-- a loop whose head is at an address
pub record LoopAt (b : Body) (p : Scope) (l : Loop) (at : ℕ) : Type 0 where
  pub room : b.c.expressions < b.top
  pub word : l.last < 2 ^ 32
  pub from : l.from ≡ steps_and 3 at
  pub end : l.end ≡ at + length (turn_lines b p l at)
  pub fixed : (y : ℕ) → Contains p.fixed y → y < p.count
  pub stands : l.first < l.last → BlockPerforms b (in_loop p) l.turn

module _ {b : Body} {p : Scope} {l : Loop} where
  -- the head of a loop compares its number with the last, and goes on to the turn or to the end
  head_runs : {h : Here} {cost : ℕ} {vars : List ℕ} {vs : Values} (stop : Bool) → LoopAt b p l h.at
      → IsAboutToRun b (in_loop p) h (turn_lines b p l h.at) cost vars vs → 3 ≤ cost
      → (number_of (nat_lt (slice_index vars p.count) l.last) == 0) ≡ stop
      → ((after : List ℕ) → length after ≡ length h.slots
      → ((y : ℕ) → y < b.c.expressions → slice_index after y ≡ slice_index h.slots y)
      → S b.z (record h { done = steps_and 3 h.done; slots = after; at = if stop then l.end else l.from }))
      → S b.z h
  head_runs {h = h} {vars = vars} stop loop begins few is on =
      let e : ℕ = b.c.expressions in
      let x : ℕ = p.count in
      let one : List ℕ = slice_set h.slots e l.last in
      let test : ℕ = number_of (nat_lt (slice_index vars x) l.last) in
      let after : List ℕ = slice_set one e test in
      let long : length one ≡ length h.slots = length-set h.slots e l.last in
      let there : e < length h.slots = omega (arith, begins.known.frame, b.masks, b.spawns) in
      let low : x < e = omega (arith, begins.inside.room) in
      let x_is : slice_index one x ≡ slice_index vars x =
      get_or-set_other h.slots e x l.last 0 (omega arith)
      ∙ begins.known.in_slots x (contains_here x p.visible) in
      let free = free_slot e (inl loop.room) begins.inside in
      goes begins.has.0 (sooner (omega arith) begins) (set_gives there free)
      (goes begins.has.1.0 (sooner (omega arith) begins)
      (calc_gives test (omega arith) (omega arith) (omega arith) free
      (ap (λ k. number_of (nat_lt k (slice_index one e))) x_is
      ∙ ap (λ k. number_of (nat_lt (slice_index vars x) k)) (get_or-set_same h.slots e l.last 0 there)))
      (goes begins.has.1.1.0 (sooner (omega arith) begins)
      (jump_by_gives stop (omega (arith, long, length-set one e test))
      (ap (λ k. k == 0) (get_or-set_same one e test 0 (omega arith)) ∙ is))
      (subst (λ n. S b.z (record h {
        done = steps_and 3 h.done;
        slots = after;
        at = if stop then l.end else n;
      })) loop.from
      (on after (length-set one e test ∙ long)
      (λ y less.
      get_or-set_other one e y test 0 (omega arith) ∙ get_or-set_other h.slots e y l.last 0 (omega arith))))))

  -- the tail of a turn adds one, and goes to the head
  tail_runs : {h : Here} {vars : List ℕ} {vs : Values} {head : ℕ} (i : ℕ) → LoopAt b p l head
      → IsAboutToRun b (in_loop p) h (loop_back b.c p.count head) 3 vars vs
      → slice_index h.slots p.count ≡ i → suc i < 2 ^ 32
      → ((after : List ℕ) → Knows b h.held (p.count ∷ p.visible) after h.cells (slice_set vars p.count (suc i)) vs
      → ((y : ℕ) → y < p.count → slice_index after y ≡ slice_index h.slots y)
      → S b.z (record h { done = steps_and 3 h.done; slots = after; at = head }))
      → S b.z h
  tail_runs {h = h} {head = head} i loop begins is small on =
      let room = loop.room in
      let e : ℕ = b.c.expressions in
      let x : ℕ = p.count in
      let one : List ℕ = slice_set h.slots e 1 in
      let long : length one ≡ length h.slots = length-set h.slots e 1 in
      let there : e < length h.slots = omega (arith, begins.known.frame, b.masks, b.spawns) in
      let low : x < e = omega (arith, begins.inside.room) in
      let x_is : slice_index one x ≡ i = get_or-set_other h.slots e x 1 0 (omega arith) ∙ is in
      let one_is : slice_index one e ≡ 1 = get_or-set_same h.slots e 1 0 there in
      goes begins.has.0 (sooner (omega arith) begins) (set_gives there (free_slot e (inl room) begins.inside))
      (goes begins.has.1.0 (sooner (omega arith) begins)
      (calc_gives (suc i) (omega arith) (omega arith) (omega arith)
      (free_slot x (inl (omega arith)) begins.inside)
      (added (slice_index one x) (slice_index one e) (suc i) (omega (arith, x_is, one_is)) small))
      (goes begins.has.1.1.0 (sooner (omega arith) begins) jump_gives
      (on (slice_set one x (suc i))
      (variable_set x (suc i) (x ∷ p.visible) low (λ y here. inr here)
      (still_known long (λ y less. get_or-set_other h.slots e y 1 0 (omega arith)) begins))
      (λ y less. get_or-set_other one x y (suc i) 0 (omega arith)
      ∙ get_or-set_other h.slots e y 1 0 (omega arith)))))

  -- turn after turn, from the head
  loop_turns : (turns : ℕ) {h : Here} {vs : Values} {later : Later} (i : ℕ) (vars : List ℕ) → LoopAt b p l h.at
      → (turns ≡ l.last - i) × (l.first ≤ i)
      → IsAboutToRun b (in_loop p) h (turn_lines b p l h.at)
      (3 + spent turns (block_steps (cost_measure b.z.app) l.turn))
      (slice_set vars p.count i) vs
      → h.rest ≡ turns_from turns p.count i (run_block b.z.app l.turn) later vars vs
      → Behind b p p.visible h (length (turn_lines b p l h.at))
      (3 + spent turns (block_steps (cost_measure b.z.app) l.turn)) later
      → S b.z h
  loop_turns zero i vars loop left begins is behind =
      let i_is = number_there vars i begins in
      head_runs true loop begins (omega arith) (ap (λ b. number_of b == 0) (le-ltb _ l.last (omega (arith, left.0))))
      (λ after long same.
      named refl refl is
      (goes_behind behind loop.end (omega arith)
      (fewer_visible (λ y here. contains_there p.count p.visible y here) (still_known long same begins))
      (λ y here. same y (omega (arith, loop.fixed y here, begins.inside.room)))))
  loop_turns (suc turns) {h = h} {later = later} i vars loop left begins is behind =
      let x : ℕ = p.count in
      let turn : List Line = block_code b.c p.threshold p.lock l.from l.turn in
      let tail : List Line = loop_back b.c x h.at in
      let i_is = number_there vars i begins in
      let low : x < b.c.expressions = omega (arith, begins.inside.room) in
      let code =
      code_behind b.z.code h.at l.from (head_lines b p l) (turn ++ tail) (omega (arith, loop.from)) begins.has in
      head_runs false loop begins (omega arith) (ap (λ b. number_of b == 0) (lt-ltb _ l.last (omega (arith, left.0))))
      (λ after long same.
      (loop.stands (omega (arith, left.0, left.1))).runs (turns_from turns x (suc i) (run_block b.z.app l.turn) later)
      (next_begins (code_front b.z.code l.from turn tail code) (omega arith) long same begins) is
      (record {
        on = λ t within settled.
            tail_runs i loop
            (record {
              has = code_behind b.z.code l.from (l.from + length turn) turn tail refl code;
              time = sooner (omega arith) begins;
              known = settled.known;
              inside = begins.inside;
            })
            (settled.kept x (contains_here x p.fixed) ∙ same x low ∙ begins.known.in_slots x (contains_here x p.visible)
            ∙ i_is) (omega (arith, loop.word))
            (λ last known kept.
            loop_turns turns (suc i) t.vars loop (omega (arith, left.0), omega (arith, left.1))
            (record { has = begins.has; time = sooner (omega arith) begins; known = known; inside = begins.inside })
            refl
            (still_behind behind refl (omega arith)
            (λ y here.
            kept y (loop.fixed y here) ∙ settled.kept y (contains_there x p.fixed y here)
            ∙ same y (omega (arith, loop.fixed y here)))));
      }))

-- a loop from its first line
pub loops : {b : Body} {p : Scope} (first last : ℕ) (turn : Block)
    → (first < last → BlockPerforms b (in_loop p) turn) → p.count + 1 ≤ b.c.expressions → b.c.expressions < b.top
    → last < 2 ^ 32
    → Performs b p p.visible (λ at. statement_code b.c p.threshold p.lock at (Repeat p.count first last turn))
    (statement_steps (cost_measure b.z.app) (Repeat p.count first last turn))
    (run b.z.app (Repeat p.count first last turn))
loops {b = b} {p = p} first last turn stands room test word = record {
  runs = λ {h} {vars} {vs} later begins is behind.
      let x : ℕ = p.count in
      let code : List Line = block_code b.c p.threshold p.lock (h.at + 4) turn in
      let l : Loop = record {
        turn = turn;
        from = h.at + 4;
        first = first;
        last = last;
        end = h.at + 4 + length code + 3;
      } in
      let total = spent_is (last - first) (block_steps (cost_measure b.z.app) turn) in
      let one : suc h.at ≡ h.at + 1 = omega arith in
      let size = length-append code (loop_back b.c x (h.at + 1)) in
      let there : x < length h.slots = omega (arith, begins.known.frame, b.floor, b.masks, b.spawns) in
      goes begins.has.0 (sooner (omega arith) begins)
      (set_gives there (free_slot x (inl (omega (arith, b.floor))) begins.inside))
      (named refl one refl
      (loop_turns {l = l} (last - first)
      {h = record h { done = suc h.done; slots = slice_set h.slots x first; at = h.at + 1 }} first vars
      (record {
        room = test;
        word = word;
        from = omega arith;
        end = omega (arith, size);
        fixed = begins.inside.fixed;
        stands = stands;
      }) (refl, omega arith)
      (record {
        has = subst (λ a. HasCodeAt b.z.code a (turn_lines b p l (h.at + 1))) one begins.has.1;
        time = sooner (omega (arith, total)) begins;
        known = variable_set x first (x ∷ p.visible) (omega arith) (λ y here. contains_cases x p.visible y here)
            begins.known;
        inside = inside_loop room begins.inside;
      }) is
      (still_behind behind (omega (arith, size)) (omega (arith, total))
      (λ y here. get_or-set_other h.slots x y first 0 (omega (arith, begins.inside.fixed y here))))));
}
