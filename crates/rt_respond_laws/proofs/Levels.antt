-- What the ready messages of each level ask for at a handler, where the level's dispatcher is at it: each what its body
-- releases, and a turn of the dispatcher, where the turns that have been taken and have started nothing are paid.
use Rattle.std.proofs.Common.{◌≡◌, ℕ, zero, suc, ◌+◌, ◌-◌, ◌*◌, ◌≤◌, ◌<◌, ◌==◌, ◌&&◌, ◌⊎◌, inl, inr, Bool, true, false}
use Rattle.std.proofs.Common.{if◌then◌else◌, Contains, List, [], ◌∷◌, ◌++◌, length, length-append, refl, sym}
use Rattle.std.proofs.Common.{ap, subst, ◌∙◌, arith, eq-eqb}
use Rattle.std.specs.List.{list_any}
use Rattle.std.proofs.lemmas.Bool.{eqb-true, cases_lt}
use Rattle.rt_lemmas.proofs.Bools.{and_both, and_parts, true_and_false}
use Rattle.rt_lemmas.proofs.Membership.{all_at, any_one, any_passes, contains_at}
use Rattle.rt_ids.specs.Lists.{or_zero}
use Rattle.rt_ids.specs.declared.ids.Section.TheVariants as section
use Rattle.rt_actions.specs.Location.{Guarded}
use Rattle.rt_actions.specs.Content.{Message, Values, messages}
use Rattle.rt_app.specs.declared.costs.TheConstants.{PRIORITIES}
use Rattle.rt_app.specs.Tree.{App}
use Rattle.rt_app.specs.Level.{is_of_level, levels}
use Rattle.rt_app.proofs.SoundCeilings.{those_all}
use Rattle.rt_respond.specs.Handlers.{handlers, is_at}
use Rattle.rt_respond.specs.Work.{release_work}
use Rattle.rt_respond.specs.declared.handler.Quantity.{Quantity}
use Rattle.rt_respond.specs.declared.handler.Handler.{Handler}
use Rattle.rt_respond_laws.proofs.Weights.{turn_weight}
use Rattle.rt_respond_laws.proofs.Sending.{Posting}
use Rattle.rt_respond_laws.proofs.Bodies.{sends_of}
use Rattle.rt_respond_laws.proofs.Claims.{IsLevelAt}

-- the sum of a number of each priority below this one
pub sum_below : (ℕ → ℕ) → ℕ → ℕ
sum_below f zero = 0
sum_below f (suc n) = sum_below f n + f n

pub sums_more : (f g e : ℕ → ℕ) (n : ℕ) → ((q : ℕ) → f q ≤ g q + e q)
    → sum_below f n ≤ sum_below g n + sum_below e n
unfolding sum_below
sums_more f g e zero each = omega arith
sums_more f g e (suc n) each =
    let here = each n in let rest = sums_more f g e n each in omega (arith, here, rest)

pub sums_less : (f g e : ℕ → ℕ) (n : ℕ) → ((q : ℕ) → f q + e q ≤ g q)
    → sum_below f n + sum_below e n ≤ sum_below g n
unfolding sum_below
sums_less f g e zero each = omega arith
sums_less f g e (suc n) each =
    let here = each n in let rest = sums_less f g e n each in omega (arith, here, rest)

pub sums_same : (f g : ℕ → ℕ) (n : ℕ) → ((q : ℕ) → f q ≤ g q) → sum_below f n ≤ sum_below g n
unfolding sum_below
sums_same f g zero each = omega arith
sums_same f g (suc n) each =
    let here = each n in let rest = sums_same f g n each in omega (arith, here, rest)

-- so much at one priority
abbrev pub only_at : ℕ → ℕ → ℕ → ℕ
only_at k x q = if k == q then x else 0

none_only : (k x n : ℕ) → n ≤ k → sum_below (only_at k x) n ≡ 0
unfolding sum_below
none_only k x zero less = refl
none_only k x (suc n) less = by (k == n) refl (none_only k x n (omega (arith, less)))
  where
    by : (b : Bool) → (k == n) ≡ b → sum_below (only_at k x) n ≡ 0
        → sum_below (only_at k x) n + (if b then x else 0) ≡ 0
    by true test rest = let same = eqb-true k n test in absurd (omega (arith, less, same))
    by false test rest = omega (arith, rest)

pub one_only : (k x n : ℕ) → sum_below (only_at k x) n ≤ x
unfolding sum_below
one_only k x zero = omega arith
one_only k x (suc n) = by (k == n) refl (one_only k x n)
  where
    by : (b : Bool) → (k == n) ≡ b → sum_below (only_at k x) n ≤ x
        → sum_below (only_at k x) n + (if b then x else 0) ≤ x
    by true test rest =
        let same = eqb-true k n test in
        let none = none_only k x n (omega (arith, same)) in omega (arith, none)
    by false test rest = omega (arith, rest)

pub one_there : (k x n : ℕ) → k < n → x ≤ sum_below (only_at k x) n
unfolding sum_below
one_there k x zero less = absurd (omega (arith, less))
one_there k x (suc n) less = by (k == n) refl (λ below. one_there k x n below)
  where
    by : (b : Bool) → (k == n) ≡ b → (k < n → x ≤ sum_below (only_at k x) n)
        → x ≤ sum_below (only_at k x) n + (if b then x else 0)
    by true test rest = omega arith
    by false test rest = elim (cases_lt k n) [
      | inl below ↦ (let more = rest below in omega (arith, more))
      | inr past ↦
          (let same : k ≡ n = omega (arith, less, past) in absurd (true_and_false (k == n) (eq-eqb k n same) test))
    ]

-- a sum that is something has a part that is
pub some_of : (f : ℕ → ℕ) (n : ℕ) → 0 < sum_below f n → (q : ℕ) × (0 < f q)
unfolding sum_below
some_of f zero some = absurd (omega (arith, some))
some_of f (suc n) some = elim (cases_lt 0 (f n)) [
  | inl here ↦ (n, here)
  | inr none ↦ some_of f n (omega (arith, some, none))
]

pub part_within : (f : ℕ → ℕ) (q n : ℕ) → q < n → f q ≤ sum_below f n
unfolding sum_below
part_within f q zero less = absurd (omega (arith, less))
part_within f q (suc n) less = elim (cases_lt q n) [
  | inl below ↦ (let rest = part_within f q n below in omega (arith, rest))
  | inr past ↦
      (let same : q ≡ n = omega (arith, less, past) in
      let own = ap f same in omega (arith, own))
]

pub level_small : (app : App) (q : ℕ) → Contains (levels app) q → q < PRIORITIES
level_small app q known =
    let there = contains_at (levels app) q known in
    all_at (λ p. p < PRIORITIES) (levels app) there.0 q
    (those_all (λ p. p < PRIORITIES) (λ p. list_any (is_of_level p) app.tasks) PRIORITIES (λ p below is. below))
    there.1

module _ (app : App) (what : Quantity) (i : Handler) (posts : Posting) where
  -- a level whose dispatcher is at the handler
  abbrev is_its : ℕ → Handler → Bool
  is_its q h = (h.is_dispatcher && (h.priority == q)) && is_at i h

  abbrev pub is_level_at : ℕ → Bool
  is_level_at q = list_any (is_its q) (handlers app)

  pub level_at : (q : ℕ) → is_level_at q ≡ true → IsLevelAt app i q
  level_at q is =
      let one = any_one (is_its q) (handlers app) is in
      let parts = and_parts (one.1.is_dispatcher && (one.1.priority == q)) (is_at i one.1) one.3 in
      let own = and_parts one.1.is_dispatcher (one.1.priority == q) parts.0 in
      record {
        handler = one.1;
        declared = (one.0, one.2);
        dispatches = own.0;
        level = eqb-true one.1.priority q own.1;
        at = parts.1;
      }

  pub is_level : (q : ℕ) → IsLevelAt app i q → is_level_at q ≡ true
  is_level q at =
      any_passes (is_its q) (handlers app) at.declared.0 at.handler at.declared.1
      (and_both (at.handler.is_dispatcher && (at.handler.priority == q)) (is_at i at.handler)
      (and_both at.handler.is_dispatcher (at.handler.priority == q) at.dispatches (eq-eqb at.handler.priority q
      at.level))
      at.at)

  -- what the bodies of messages release
  abbrev pub extra : Message → ℕ
  extra m = or_zero (sends_of app (release_work app what i) posts m.task)

  abbrev pub extras : List Message → ℕ
  extras [] = 0
  extras (m ∷ ms) = extra m + extras ms

  extras_last : (ms : List Message) (m : Message) → extras (ms ++ m ∷ []) ≡ extras ms + extra m
  extras_last [] m = omega arith
  extras_last (n ∷ ms) m = let rest = extras_last ms m in omega (arith, rest)

  -- a turn of a level's dispatcher
  abbrev pub turn_cost : ℕ → ℕ
  turn_cost q = turn_weight app what q

  -- what these ready messages of a level ask for, where so many turns are paid
  abbrev pub level_owes : ℕ → List Message → ℕ → ℕ
  level_owes q ms taken = if is_level_at q then extras ms + (length ms - taken) * turn_cost q else 0

  turns_more : (n t c : ℕ) → t ≤ n → (n + 1 - t) * c ≡ (n - t) * c + c
  turns_more n t c less =
      ap (λ k. k * c) (let one : n + 1 - t ≡ suc (n - t) = omega (arith, less) in one) ∙ (by (n - t))
    where
      by : (k : ℕ) → suc k * c ≡ k * c + c
      by k = omega arith

  -- a level that is at the handler, or not
  by_level : (q : ℕ) (x y e f : ℕ) → (IsLevelAt app i q → x + e ≤ y + f) → (is_level_at q ≡ false → e ≡ 0)
      → (if is_level_at q then x else 0) + e ≤ (if is_level_at q then y else 0) + f
  by_level q x y e f at not_at = by (is_level_at q) refl
    where
      by : (b : Bool) → is_level_at q ≡ b → (if b then x else 0) + e ≤ (if b then y else 0) + f
      by true is = at (level_at q is)
      by false is = let none = not_at is in omega (arith, none)

  -- all that messages ask for
  abbrev pub owed_ready : Values → (ℕ → ℕ) → ℕ
  owed_ready vs taken = sum_below (λ q. level_owes q (messages (vs (Guarded (section.Ready q)))) (taken q)) PRIORITIES

  module _ (vs ws : Values) (taken then_taken : ℕ → ℕ) where
    abbrev before : ℕ → List Message
    before q = messages (vs (Guarded (section.Ready q)))

    abbrev behind : ℕ → List Message
    behind q = messages (ws (Guarded (section.Ready q)))

    -- nothing of them changes
    pub ready_same : ((q : ℕ) → behind q ≡ before q) → ((q : ℕ) → IsLevelAt app i q → then_taken q ≡ taken q)
        → owed_ready ws then_taken ≤ owed_ready vs taken
    ready_same same turns =
        sums_same _ _ PRIORITIES (λ q.
        let less = by_level q (extras (behind q) + (length (behind q) - then_taken q) * turn_cost q)
        (extras (before q) + (length (before q) - taken q) * turn_cost q) 0 0
        (λ at. let own = ap (λ ms. extras ms + (length ms - then_taken q) * turn_cost q) (same q) in
        let paid = ap (λ n. extras (before q) + (length (before q) - n) * turn_cost q) (turns q at) in
        omega (arith, own, paid)) (λ is. refl) in
        omega (arith, less))

    -- a message becomes ready
    pub ready_more : (r : ℕ) (m : Message) (now : ℕ) → behind r ≡ before r ++ m ∷ []
        → ((q : ℕ) → ¬ (r ≡ q) → behind q ≡ before q) → ((q : ℕ) → IsLevelAt app i q → then_taken q ≡ taken q)
        → ((q : ℕ) → IsLevelAt app i q → taken q ≤ length (before q))
        → (IsLevelAt app i r → turn_cost r + extra m ≤ now) → owed_ready ws then_taken ≤ owed_ready vs taken + now
    ready_more r m now more others turns few asks =
        let sums = sums_more _ _ (only_at r now) PRIORITIES (λ q. by q (r == q) refl) in
        let once = one_only r now PRIORITIES in
        omega (arith, sums, once)
      where
        by : (q : ℕ) (b : Bool) → (r == q) ≡ b → level_owes q (behind q) (then_taken q)
            ≤ level_owes q (before q) (taken q) + (if b then now else 0)
        by q true test =
            let same : r ≡ q = eqb-true r q test in
            let less = by_level q (extras (behind q) + (length (behind q) - then_taken q) * turn_cost q)
            (extras (before q) + (length (before q) - taken q) * turn_cost q) 0 now
            (λ at.
            let is : behind q ≡ before q ++ m ∷ [] =
            subst (λ k. behind k ≡ before k ++ m ∷ []) same more in
            let own = ap extras is ∙ extras_last (before q) m in
            let long = ap length is ∙ length-append (before q) (m ∷ []) in
            let room = few q at in
            let paid = turns q at in
            let product = ap (λ n. n * turn_cost q) (let one : length (behind q) - then_taken q
            ≡ length (before q) + 1 - taken q = omega (arith, long, paid) in one)
            ∙ turns_more (length (before q)) (taken q) (turn_cost q) room in
            let enough = asks (subst (IsLevelAt app i) (sym same) at) in
            let cost = ap turn_cost same in
            omega (arith, own, product, enough, cost)) (λ is. refl) in
            omega (arith, less)
        by q false test =
            let same = others q (λ e. true_and_false (r == q) (eq-eqb r q e) test) in
            let less = by_level q (extras (behind q) + (length (behind q) - then_taken q) * turn_cost q)
            (extras (before q) + (length (before q) - taken q) * turn_cost q) 0 0
            (λ at. let own = ap (λ ms. extras ms + (length ms - then_taken q) * turn_cost q) same in
            let paid = ap (λ n. extras (before q) + (length (before q) - n) * turn_cost q) (turns q at) in
            omega (arith, own, paid)) (λ is. refl) in
            omega (arith, less)

    -- a message starts, and gives what it releases to its job
    pub ready_less : (r : ℕ) (m : Message) (given : ℕ) → before r ≡ m ∷ behind r
        → ((q : ℕ) → ¬ (r ≡ q) → behind q ≡ before q)
        → ((q : ℕ) → ¬ (r ≡ q) → IsLevelAt app i q → then_taken q ≡ taken q)
        → (IsLevelAt app i r → then_taken r + 1 ≡ taken r) → (given ≡ 0) ⊎ (IsLevelAt app i r × (r < PRIORITIES)
        × (extra m ≡ given)) → owed_ready ws then_taken + given ≤ owed_ready vs taken
    ready_less r m given more others turns own gives = by_given gives
      where
        at_most : (e : ℕ) → (IsLevelAt app i r → e ≤ extra m) → (is_level_at r ≡ false → e ≡ 0)
            → owed_ready ws then_taken + sum_below (only_at r e) PRIORITIES ≤ owed_ready vs taken
        at_most e small none =
            sums_less _ _ (only_at r e) PRIORITIES (λ q. by q (r == q) refl)
          where
            by : (q : ℕ) (b : Bool) → (r == q) ≡ b
                → level_owes q (behind q) (then_taken q) + (if b then e else 0)
                ≤ level_owes q (before q) (taken q)
            by q true test =
                let same : r ≡ q = eqb-true r q test in
                let less = by_level q (extras (behind q) + (length (behind q) - then_taken q) * turn_cost q)
                (extras (before q) + (length (before q) - taken q) * turn_cost q) e 0
                (λ at.
                let at_r = subst (IsLevelAt app i) (sym same) at in
                let is : before q ≡ m ∷ behind q = subst (λ k. before k ≡ m ∷ behind k) same more in
                let parts = ap extras is in
                let long = ap length is in
                let paid = subst (λ k. then_taken k + 1 ≡ taken k) same (own at_r) in
                let product = ap (λ n. n * turn_cost q) (let one : length (behind q) - then_taken q
                ≡ length (before q) - taken q = omega (arith, long, paid) in one) in
                let few = small at_r in
                omega (arith, parts, product, few)) (λ is. none (ap is_level_at same ∙ is)) in
                omega (arith, less)
            by q false test =
                let differs = λ (e : r ≡ q). true_and_false (r == q) (eq-eqb r q e) test in
                let same = others q differs in
                let less = by_level q (extras (behind q) + (length (behind q) - then_taken q) * turn_cost q)
                (extras (before q) + (length (before q) - taken q) * turn_cost q) 0 0
                (λ at. let own = ap (λ ms. extras ms + (length ms - then_taken q) * turn_cost q) same in
                let paid = ap (λ n. extras (before q) + (length (before q) - n) * turn_cost q) (turns q differs at) in
                omega (arith, own, paid)) (λ is. refl) in
                omega (arith, less)

        by_given : (given ≡ 0) ⊎ (IsLevelAt app i r × (r < PRIORITIES) × (extra m ≡ given))
            → owed_ready ws then_taken + given ≤ owed_ready vs taken
        by_given (inl none) = let less = at_most 0 (λ at. omega arith) (λ is. refl) in omega (arith, less, none)
        by_given (inr gives) =
            let same = gives.2 in
            let less = at_most given (λ at. omega (arith, same))
            (λ is. absurd (true_and_false (is_level_at r) (is_level r gives.0) is)) in
            let there = one_there r given PRIORITIES gives.1 in
            omega (arith, less, there)

    -- a turn of a level begins
    pub turn_begins : (r : ℕ) → IsLevelAt app i r → r < PRIORITIES → ((q : ℕ) → behind q ≡ before q)
        → ((q : ℕ) → ¬ (r ≡ q) → IsLevelAt app i q → then_taken q ≡ taken q) → then_taken r ≡ taken r + 1
        → taken r + 1 ≤ length (before r) → owed_ready ws then_taken + turn_cost r ≤ owed_ready vs taken
    turn_begins r at_r small same turns own room =
        let sums = sums_less _ _ (only_at r (turn_cost r)) PRIORITIES (λ q. by q (r == q) refl) in
        let there = one_there r (turn_cost r) PRIORITIES small in
        omega (arith, sums, there)
      where
        by : (q : ℕ) (b : Bool) → (r == q) ≡ b
            → level_owes q (behind q) (then_taken q) + (if b then turn_cost r else 0)
            ≤ level_owes q (before q) (taken q)
        by q true test =
            let is : r ≡ q = eqb-true r q test in
            let less = by_level q (extras (behind q) + (length (behind q) - then_taken q) * turn_cost q)
            (extras (before q) + (length (before q) - taken q) * turn_cost q) (turn_cost r) 0
            (λ at.
            let paid = subst (λ k. then_taken k ≡ taken k + 1) is own in
            let few = subst (λ k. taken k + 1 ≤ length (before k)) is room in
            let parts = ap extras (same q) in
            let long = ap length (same q) in
            let product = sym (turns_more (length (before q) - 1) (taken q) (turn_cost q) (omega (arith, few))) in
            let left = ap (λ n. n * turn_cost q) (let one : length (before q) - 1 + 1 - taken q
            ≡ length (before q) - taken q = omega (arith, few) in one) in
            let right = ap (λ n. n * turn_cost q) (let one : length (behind q) - then_taken q
            ≡ length (before q) - 1 - taken q = omega (arith, long, paid, few) in one) in
            let cost = ap turn_cost is in
            omega (arith, parts, product, left, right, cost))
            (λ none. absurd (true_and_false (is_level_at q) (is_level q (subst (IsLevelAt app i) is at_r)) none)) in
            omega (arith, less)
        by q false test =
            let differs = λ (e : r ≡ q). true_and_false (r == q) (eq-eqb r q e) test in
            let less = by_level q (extras (behind q) + (length (behind q) - then_taken q) * turn_cost q)
            (extras (before q) + (length (before q) - taken q) * turn_cost q) 0 0
            (λ at. let own = ap (λ ms. extras ms + (length ms - then_taken q) * turn_cost q) (same q) in
            let paid = ap (λ n. extras (before q) + (length (before q) - n) * turn_cost q) (turns q differs at) in
            omega (arith, own, paid)) (λ is. refl) in
            omega (arith, less)

  -- where messages ask for something, some are ready
  pub some_ready : (vs : Values) (taken : ℕ → ℕ) → 0 < owed_ready vs taken
      → (q : ℕ) × (IsLevelAt app i q) × (¬ (messages (vs (Guarded (section.Ready q))) ≡ []))
  some_ready vs taken some =
      let one = some_of (λ q. level_owes q (messages (vs (Guarded (section.Ready q)))) (taken q)) PRIORITIES some in
      by one.0 (is_level_at one.0) refl one.1
    where
      by : (q : ℕ) (b : Bool) → is_level_at q ≡ b
          → 0 < (if b then extras (messages (vs (Guarded (section.Ready q))))
          + (length (messages (vs (Guarded (section.Ready q)))) - taken q) * turn_cost q else 0)
          → (q : ℕ) × (IsLevelAt app i q) × (¬ (messages (vs (Guarded (section.Ready q))) ≡ []))
      by q false is more = absurd (omega (arith, more))
      by q true is more = (
        q,
        level_at q is,
        λ none.
            let parts = ap extras none in
            let product = ap (λ ms. (length ms - taken q) * turn_cost q) none in
            let nothing : (0 - taken q) * turn_cost q ≡ 0 =
            ap (λ n. n * turn_cost q) (let zero : 0 - taken q ≡ 0 = omega arith in zero) ∙ (omega arith) in
            omega (arith, more, parts, product, nothing),
      )

  -- where none are ready they ask for nothing
  pub none_ready : (vs : Values) (taken : ℕ → ℕ) → ((q : ℕ) → messages (vs (Guarded (section.Ready q))) ≡ [])
      → owed_ready vs taken ≡ 0
  none_ready vs taken none = elim (cases_lt 0 (owed_ready vs taken)) [
    | inl some ↦ (let one = some_ready vs taken some in absurd (one.2 (none one.0)))
    | inr nil ↦ omega (arith, nil)
  ]

  -- where they ask for nothing, as many turns are taken as there are
  pub all_taken : ((q : ℕ) → 0 < turn_cost q) → (vs : Values) (taken : ℕ → ℕ) → owed_ready vs taken ≡ 0 → (q : ℕ)
      → IsLevelAt app i q → q < PRIORITIES → length (messages (vs (Guarded (section.Ready q)))) ≤ taken q
  all_taken costs vs taken none q at small =
      let part = part_within (λ q. level_owes q (messages (vs (Guarded (section.Ready q)))) (taken q)) q PRIORITIES
      small
      in
      let own = ap (λ b. if b then extras (messages (vs (Guarded (section.Ready q))))
      + (length (messages (vs (Guarded (section.Ready q)))) - taken q) * turn_cost q else 0) (is_level q at) in
      by (length (messages (vs (Guarded (section.Ready q)))) - taken q) refl (omega (arith, part, own, none))
    where
      by : (k : ℕ) → length (messages (vs (Guarded (section.Ready q)))) - taken q ≡ k
          → extras (messages (vs (Guarded (section.Ready q))))
          + (length (messages (vs (Guarded (section.Ready q)))) - taken q) * turn_cost q ≤ 0
          → length (messages (vs (Guarded (section.Ready q)))) ≤ taken q
      by zero is few = omega (arith, is)
      by (suc k) is few =
          let product = ap (λ n. n * turn_cost q) is in
          let some : turn_cost q ≤ suc k * turn_cost q = omega arith in
          let cost = costs q in absurd (omega (arith, few, product, some, cost))
