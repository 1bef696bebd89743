-- What holds a handler off: the greatest of a list is the greatest of its parts, and the code's tables say the same as
-- the definitions.
use Rattle.std.proofs.Common.{◌≡◌, ℕ, ◌+◌, ◌<◌, Bool, true, false, nat_le, if◌then◌else◌}
use Rattle.std.proofs.Common.{List, [], ◌∷◌, ◌++◌, map, take, get_or, length, Option}
use Rattle.std.proofs.Common.{refl, sym, ap, ◌∙◌, ◌-◌, ◌==◌, Some, slice_get, option_map, eq-eqb}
use Rattle.std.proofs.lemmas.List.{map_more}
use Rattle.rt_ids.specs.declared.ids.Section.TheVariants as section
use Rattle.rt_app.specs.Tree.{Statement, Bind, Assign, Branch, Repeat, Locked, Emit, Pend, Spawns, Block, Empty, Then}
use Rattle.rt_app.specs.Tree.{Spawn, Soon, After, Cancel, Move, Value, Calc, Now, Call, Task, App}
use Rattle.rt_app.specs.Variables.{variables, variables_in}
use Rattle.rt_app.specs.Bodies.{Member, task_priority}
use Rattle.rt_app.specs.Level.{is_software, is_of_level}
use Rattle.rt_app.specs.declared.costs.TheConstants.{FREE_COST, READY_COST, PRIORITIES}
use Rattle.rt_ids.specs.Lists.{or_zero}
use Rattle.rt_lemmas.proofs.Bools.{and_both}
use Rattle.rt_lemmas.proofs.Membership.{any_passes}
use Rattle.std.specs.List.{list_any}
use Rattle.rt_app.specs.Ceiling.{Ceilings, ceiling, ceilings}
use Rattle.rt_app.specs.Cost.{Measure}
use Rattle.rt_app.specs.BodyCost.{cost_measure}
use Rattle.rt_app.specs.Sound.{IsSoundSpawn, IsSoundValue, IsSoundStatement, IsSoundBlock}
use Rattle.rt_app.specs.View.{statement_of, block_of}
use Rattle.rt_app.specs.declared.stmt.Stmt.{Stmt}
use Rattle.rt_frames.proofs.Sums.{block_more}
use Rattle.rt_frames.specs.Inside.Waits.{free_at, ready_at}
use Rattle.rt_frames.proofs.Tables.{shared_at_is, free_at_is, ready_at_is}
use Rattle.rt_respond.specs.Number.{plus, greater_of, greatest_of}
use Rattle.rt_respond.specs.Work.{steps_weight, release_work}
use Rattle.rt_respond.specs.Blocking.{queue_holds, free_holds, ready_holds, spawn_holds, value_holds, section_holds}
use Rattle.rt_respond.specs.Blocking.{statement_holds, block_holds}
use Rattle.rt_respond.specs.Inside.Holding.{free_most, spawn_most, value_most, section_most, statement_most, block_most}
use Rattle.rt_respond.specs.declared.handler.Quantity.{Quantity}
use Rattle.rt_respond.specs.declared.handler.Handler.{Handler}
use Rattle.rt_respond.specs.declared.handler.Release.{Release}
use Rattle.rt_respond.specs.declared.handler.Release.TheVariants as released
use Rattle.rt_respond.proofs.Numbers.{greater_regrouped, greater_alone, greater_nothing}

pub greatest_append : (xs ys : List (Option ℕ)) → greatest_of (xs ++ ys)
    ≡ greater_of (greatest_of xs) (greatest_of ys)
greatest_append [] ys = sym (greater_nothing (greatest_of ys))
greatest_append (x ∷ xs) ys = ap (greater_of x) (greatest_append xs ys)
    ∙ greater_regrouped x (greatest_of xs) (greatest_of ys)

pub greatest_one : (w : Option ℕ) → greatest_of (w ∷ []) ≡ w
greatest_one w = greater_alone w ∙ greater_nothing w

-- one more of a list
pub greatest_more : {A : Type 0} (f : A → Option ℕ) (xs : List A) (i : ℕ) (x : A) → i < length xs → x ≡ get_or xs i x
    → greatest_of (map f (take (i + 1) xs)) ≡ greater_of (greatest_of (map f (take i xs))) (f x)
greatest_more f xs i x within is =
    ap greatest_of (map_more f xs i x within ∙ ap (λ y. map f (take i xs) ++ f y ∷ []) (sym is))
    ∙ greatest_append (map f (take i xs)) (f x ∷ [])
    ∙ ap (greater_of (greatest_of (map f (take i xs)))) (greatest_one (f x))

pub block_most_more : (app : App) (what : Quantity) (asks : Release
    → Option ℕ) (c : Ceilings) (m : Measure) (p : ℕ) (xs : List Stmt)
    (i : ℕ) (x : Stmt) → i < length xs → x ≡ get_or xs i x
    → block_most app what asks c m p (block_of (take (i + 1) xs))
    ≡ greater_of (block_most app what asks c m p (block_of (take i xs))) (statement_most app what asks c m p
    (statement_of x))
block_most_more app what asks c m p = block_more (block_most app what asks c m p)
    (statement_most app what asks c m p) greater_of
    (λ s rest. refl) greater_regrouped (λ s. greater_alone (statement_most app what asks c m p s))

-- the levels of an application are priorities
abbrev pub HasFewLevels : App → Type 0
HasFewLevels app = (q : ℕ) → list_any (is_of_level q) app.tasks ≡ true → q < PRIORITIES

-- the ready queue of a task's level, as a table has it
pub level_at : (app : App) → HasFewLevels app → (n q : ℕ) (t : Task) → slice_get app.tasks n ≡ Some t
    → is_software t ≡ true → q ≡ t.priority → ready_at (ceilings app) q ≡ ceiling app (section.Ready q)
level_at app few n q t at soft same =
    let is : list_any (is_of_level q) app.tasks ≡ true = any_passes (is_of_level q) app.tasks n t at
    (and_both (is_software t) (t.priority == q) soft (eq-eqb t.priority q (sym same))) in
    ready_at_is app q (few q is) is

-- a section of a queue, whose ceiling a table has
pub queue_is : (app : App) (what : Quantity) (i : Handler) (top k cost : ℕ) (w : Option ℕ) → k ≡ top
    → greatest_of (queue_holds app what i top cost w)
    ≡ (if nat_le i.priority k then plus (Some (steps_weight what (cost - 1))) w else Some 0)
queue_is app what i top k cost w same =
    by (nat_le i.priority top)
    ∙ ap (λ x. if nat_le i.priority x then plus (Some (steps_weight what (cost - 1))) w else Some 0) (sym same)
  where
    by : (b : Bool) → greatest_of (if b then plus (Some (steps_weight what (cost - 1))) w ∷ [] else [])
        ≡ (if b then plus (Some (steps_weight what (cost - 1))) w else Some 0)
    by true = greatest_one (plus (Some (steps_weight what (cost - 1))) w)
    by false = refl

module _ (app : App) (few : HasFewLevels app) (what : Quantity) (i : Handler) (m : Member) where
  abbrev pub free_part : ℕ → Option ℕ
  free_part n = free_most app what (release_work app what i) (ceilings app) (cost_measure app) i.priority n

  priority_at : (n : ℕ) (t : Task) → slice_get app.tasks n ≡ Some t → task_priority app n ≡ t.priority
  priority_at n t at = ap (λ (o : Option Task). or_zero (option_map (λ u. u.priority) o)) at

  pub free_is : (n : ℕ) (t : Task) → slice_get app.tasks n ≡ Some t → is_software t ≡ true
      → greatest_of (free_holds app what i n) ≡ free_part n
  free_is n t at soft =
      queue_is app what i (ceiling app (section.Free n)) (free_at (ceilings app) n) FREE_COST (Some 0)
      (free_at_is app n t at soft)

  spawn_is : (s : Spawn) (locked : List ℕ) → IsSoundSpawn app m locked s
      → greatest_of (spawn_holds app what i s)
      ≡ spawn_most app what (release_work app what i) (ceilings app) (cost_measure app) i.priority s
  spawn_is (Soon n args at) locked sound =
      greatest_append (free_holds app what i n) (ready_holds app what i n)
      ∙ ap (λ w. greater_of w (greatest_of (ready_holds app what i n)))
      (free_is n sound.0 sound.1.is_there sound.1.software)
      ∙ ap (greater_of (free_part n))
      (queue_is app what i (ceiling app (section.Ready (task_priority app n)))
      (ready_at (ceilings app) (task_priority app n)) READY_COST (release_work app what i (released.Message n))
      (level_at app few n (task_priority app n) sound.0 sound.1.is_there sound.1.software
      (priority_at n sound.0 sound.1.is_there)))
  spawn_is (After word delay n args at) locked sound = refl
  spawn_is (Cancel word n handle at) locked sound = refl
  spawn_is (Move word delay n handle at) locked sound = refl

  value_is : (v : Value) (locked : List ℕ) → IsSoundValue app m locked v
      → greatest_of (value_holds app what i v)
      ≡ value_most app what (release_work app what i) (ceilings app) (cost_measure app) i.priority v
  value_is (Calc e) locked sound = refl
  value_is (Now at) locked sound = refl
  value_is (Call s) locked sound = spawn_is s locked sound

  abbrev most_of : Statement → Option ℕ
  most_of = statement_most app what (release_work app what i) (ceilings app) (cost_measure app) i.priority

  abbrev most_in : Block → Option ℕ
  most_in = block_most app what (release_work app what i) (ceilings app) (cost_measure app) i.priority

  mutual
    pub statement_is : (s : Statement) (n : ℕ) (locked fixed : List ℕ) → IsSoundStatement app m n locked fixed s
        → greatest_of (statement_holds app what i s) ≡ most_of s
    statement_is (Bind x v) n locked fixed sound = value_is v locked sound.1
    statement_is (Assign x e at) n locked fixed sound = refl
    statement_is (Branch e first second) n locked fixed sound =
        greatest_append (block_holds app what i first) (block_holds app what i second)
        ∙ ap (λ w. greater_of w (greatest_of (block_holds app what i second)))
        (block_is first n locked fixed sound.1)
        ∙ ap (greater_of (most_in first)) (block_is second (n + variables first) locked fixed sound.2)
    statement_is (Repeat x first last turn) n locked fixed sound =
        block_is turn (n + 1) locked (x ∷ fixed) sound.4
    statement_is (Locked r inner at) n locked fixed sound =
        by (nat_le i.priority (ceiling app (section.Res r))) (block_is inner n (r ∷ locked) fixed sound.1)
        ∙ ap (λ k. if nat_le i.priority k
        then section_most app what (release_work app what i) (ceilings app) (cost_measure app) i.priority inner
        else most_in inner)
        (sym (shared_at_is app r sound.0.is_there))
      where
        by : (b : Bool) → greatest_of (block_holds app what i inner) ≡ most_in inner
            → greatest_of (if b then section_holds app what i inner ∷ [] else block_holds app what i inner)
            ≡ (if b then section_most app what (release_work app what i) (ceilings app)
            (cost_measure app) i.priority inner
            else most_in inner)
        by true inside = greatest_one (section_holds app what i inner)
        by false inside = inside
    statement_is (Emit e) n locked fixed sound = refl
    statement_is (Pend irq) n locked fixed sound = greatest_one (release_work app what i (released.Request irq))
    statement_is (Spawns s) n locked fixed sound = spawn_is s locked sound

    pub block_is : (b : Block) (n : ℕ) (locked fixed : List ℕ) → IsSoundBlock app m n locked fixed b
        → greatest_of (block_holds app what i b) ≡ most_in b
    block_is Empty n locked fixed sound = refl
    block_is (Then s rest) n locked fixed sound =
        greatest_append (statement_holds app what i s) (block_holds app what i rest)
        ∙ ap (λ w. greater_of w (greatest_of (block_holds app what i rest))) (statement_is s n locked fixed sound.0)
        ∙ ap (greater_of (most_of s)) (block_is rest (n + variables_in s) locked fixed sound.1)
