-- What a request asks for at a handler, in its parts: a step that takes it, the cost of its job, and what the job
-- releases. A number that is found with fewer jobs in a row is the number with more.
use Rattle.std.proofs.Common.{◌≡◌, ℕ, zero, suc, ◌+◌, ◌-◌, ◌*◌, ◌<◌, ◌==◌, Bool, true, false, if◌then◌else◌}
use Rattle.std.proofs.Common.{length, find, Option, Some, None, refl, sym, ap, subst, ◌∙◌, arith}
use Rattle.std.proofs.lemmas.Bool.{eqb-true}
use Rattle.std.proofs.lemmas.Option.{none-some, same_Some}
use Rattle.rt_app.specs.Tree.{Spawn, Soon, After, Cancel, Move, Value, Calc, Now, Call, Statement, Bind, Assign, Branch}
use Rattle.rt_app.specs.Tree.{Repeat, Locked, Emit, Pend, Spawns, Block, Empty, Then, App}
use Rattle.rt_respond.specs.Number.{capped, plus, greater_of, times}
use Rattle.rt_respond.specs.Handlers.{handlers, handled_block, is_at}
use Rattle.rt_respond.specs.Work.{spawn_sends, value_sends, statement_sends, block_sends, handler_asks, takes}
use Rattle.rt_respond.specs.Work.{weight, release_asks, work_within, work, sends}
use Rattle.rt_respond.specs.declared.handler.Release.{Release}
use Rattle.rt_respond.specs.declared.handler.Release.TheVariants as released_by
use Rattle.rt_respond.specs.declared.handler.Quantity.{Quantity}
use Rattle.rt_respond.specs.declared.handler.Handler.{Handler}
use Rattle.rt_respond.specs.declared.number.TheConstants.{MOST_WORK}
use Rattle.rt_respond_laws.proofs.Sending.{sums}

-- where there is a number there is the same number
abbrev pub Extends : Option ℕ → Option ℕ → Type 0
Extends a b = (n : ℕ) → a ≡ Some n → b ≡ Some n

plus_extends : (a b c d : Option ℕ) → Extends a c → Extends b d → Extends (plus a b) (plus c d)
plus_extends None b c d first second n is = absurd (none-some n is)
plus_extends (Some x) None c d first second n is = absurd (none-some n is)
plus_extends (Some x) (Some y) c d first second n is =
    ap (λ o. plus o d) (first x refl) ∙ ap (plus (Some x)) (second y refl) ∙ is

greater_extends : (a b c d : Option ℕ) → Extends a c → Extends b d → Extends (greater_of a b) (greater_of c d)
greater_extends None b c d first second n is = absurd (none-some n is)
greater_extends (Some x) None c d first second n is = absurd (none-some n is)
greater_extends (Some x) (Some y) c d first second n is =
    ap (λ o. greater_of o d) (first x refl) ∙ ap (greater_of (Some x)) (second y refl) ∙ is

times_none : (c : Option ℕ) → times 0 c ≡ Some 0
times_none None = refl
times_none (Some w) = ap (λ n. Some (capped n)) (let none : 0 * w ≡ 0 = omega arith in none)

times_extends : (k : ℕ) (a c : Option ℕ) → Extends a c → Extends (times k a) (times k c)
times_extends k (Some w) c first n is = ap (times k) (first w refl) ∙ is
times_extends k None c first n is = by (k == 0) refl is
  where
    by : (b : Bool) → (k == 0) ≡ b → (if b then Some 0 else None) ≡ Some n → times k c ≡ Some n
    by true test same = ap (λ m. times m c) (eqb-true k 0 test) ∙ times_none c ∙ same
    by false test same = absurd (none-some n same)

-- of code, where each release that asks for a number asks for the same one
module _ (f g : Release → Option ℕ) (more : (r : Release) → Extends (f r) (g r)) where
  spawn_extends : (s : Spawn) → Extends (spawn_sends f s) (spawn_sends g s)
  spawn_extends (Soon t args at) n is = more (released_by.Message t) n is
  spawn_extends (After word delay t args at) n is = is
  spawn_extends (Cancel word t handle at) n is = is
  spawn_extends (Move word delay t handle at) n is = is

  value_extends : (v : Value) → Extends (value_sends f v) (value_sends g v)
  value_extends (Calc e) n is = is
  value_extends (Now at) n is = is
  value_extends (Call s) n is = spawn_extends s n is

  mutual
    statement_extends : (s : Statement) → Extends (statement_sends f s) (statement_sends g s)
    statement_extends (Bind x v) n is = value_extends v n is
    statement_extends (Assign x e at) n is = is
    statement_extends (Branch e first second) n is =
        greater_extends (block_sends f first) (block_sends f second) (block_sends g first) (block_sends g second)
        (block_extends first) (block_extends second) n is
    statement_extends (Repeat x first last turn) n is =
        times_extends (last - first) (block_sends f turn) (block_sends g turn) (block_extends turn) n is
    statement_extends (Locked r inner at) n is = block_extends inner n is
    statement_extends (Emit e) n is = is
    statement_extends (Pend j) n is = more (released_by.Request j) n is
    statement_extends (Spawns s) n is = spawn_extends s n is

    block_extends : (b : Block) → Extends (block_sends f b) (block_sends g b)
    block_extends Empty n is = is
    block_extends (Then s rest) n is =
        plus_extends (statement_sends f s) (block_sends f rest) (statement_sends g s) (block_sends g rest)
        (statement_extends s) (block_extends rest) n is

choice_extends : (b : Bool) (a c : Option ℕ) → Extends a c
    → Extends (if b then a else Some 0) (if b then c else Some 0)
choice_extends true a c more n is = more n is
choice_extends false a c more n is = is

asks_extend : (w v : Handler → Option ℕ) → ((h : Handler) → Extends (w h) (v h)) → (o : Option Handler)
    → Extends (handler_asks w o) (handler_asks v o)
asks_extend w v more None n is = is
asks_extend w v more (Some h) n is = more h n is

module _ (app : App) (what : Quantity) (i : Handler) where
  -- with one job more in a row
  within_more : (depth : ℕ) (h : Handler) → Extends (work_within app what i depth h) (work_within app what i
      (suc depth) h)
  unfolding work_within
  within_more zero h n is = absurd (none-some n is)
  within_more (suc depth) h n is =
      choice_extends (is_at i h)
      (plus (Some (weight what h)) (block_sends (release_asks app (work_within app what i depth))
      (handled_block app h)))
      (plus (Some (weight what h)) (block_sends (release_asks app (work_within app what i (suc depth)))
      (handled_block app h)))
      (plus_extends (Some (weight what h)) (block_sends (release_asks app (work_within app what i depth))
      (handled_block app
      h))
      (Some (weight what h)) (block_sends (release_asks app (work_within app what i (suc depth))) (handled_block app h))
      (λ n is. is)
      (block_extends (release_asks app (work_within app what i depth)) (release_asks app (work_within app what i
      (suc depth)))
      (λ r. asks_extend (work_within app what i depth) (work_within app what i (suc depth)) (within_more depth)
      (find (takes r) (handlers app))) (handled_block app h)))
      n is

  -- the parts of a work
  pub record Parts (h : Handler) (w : ℕ) : Type 0 where
    pub releases : ℕ
    pub is : sends app what i (handled_block app h) ≡ Some releases
    pub sum : weight what h + releases ≡ w

  parts_of : (h : Handler) (w depth : ℕ) → length (handlers app) ≡ depth → 0 < depth → is_at i h ≡ true
      → work_within app what i depth h ≡ Some w → w < MOST_WORK → Parts h w
  unfolding work_within
  parts_of h w zero all some at is below = absurd (omega (arith, some))
  parts_of h w (suc depth) all some at is below =
      let own : plus (Some (weight what h)) (block_sends (release_asks app (work_within app what i depth))
      (handled_block app
      h))
      ≡ Some w =
      sym (ap (λ b. if b then plus (Some (weight what h))
      (block_sends (release_asks app (work_within app what i depth)) (handled_block app h)) else Some 0) at) ∙ is in
      let parts = sums (Some (weight what h))
      (block_sends (release_asks app (work_within app what i depth)) (handled_block app h)) w own below in
      let first = same_Some (weight what h) parts.first parts.first_is in
      let sum = parts.sum in
      record {
        releases = parts.second;
        is = subst (λ n. block_sends (release_asks app (work_within app what i n))
            (handled_block app h) ≡ Some parts.second)
            (sym all)
            (block_extends (release_asks app (work_within app what i depth)) (release_asks app (work_within app what i
            (suc
            depth)))
            (λ r. asks_extend (work_within app what i depth) (work_within app what i (suc depth)) (within_more depth)
            (find (takes r) (handlers app))) (handled_block app h) parts.second parts.second_is);
        sum = omega (arith, first, sum);
      }

  pub work_parts : (h : Handler) (w : ℕ) → 0 < length (handlers app) → is_at i h ≡ true → work app what i h ≡ Some w
      → w < MOST_WORK → Parts h w
  work_parts h w some at is below = parts_of h w (length (handlers app)) refl some at is below

  -- what is not at the handler asks for nothing there
  behind_within : (h : Handler) (depth : ℕ) → 0 < depth → is_at i h ≡ false → work_within app what i depth h ≡ Some 0
  unfolding work_within
  behind_within h zero some behind = absurd (omega (arith, some))
  behind_within h (suc depth) some behind =
      ap (λ b. if b then plus (Some (weight what h))
      (block_sends (release_asks app (work_within app what i depth)) (handled_block app h)) else Some 0) behind

  pub behind_asks : (h : Handler) → 0 < length (handlers app) → is_at i h ≡ false → work app what i h ≡ Some 0
  behind_asks h some behind = behind_within h (length (handlers app)) some behind
