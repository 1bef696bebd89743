-- How the code of a body comes about: what a generator's calls append, one after the other, is the code of what they
-- are for, and so the whole code of a body stands.
use Rattle.rt_gen_queue.proofs.Vocabulary.{AllByRecursion, App, Appends, BodyId, Ceilings, IsAccepted, IsPlan}
use Rattle.rt_gen_queue.proofs.Vocabulary.{KeepsTaskLimits, Line, List, Made, None, Option, Plan, Some, Task, []}
use Rattle.rt_gen_queue.proofs.Vocabulary.{accepted_are_sound, all_at, ap, app_of, append-nil, append_assoc, arith}
use Rattle.rt_gen_queue.proofs.Vocabulary.{block_of, ceiling, eqb-true, false, frame_words, get_or, guard_of_ceiling}
use Rattle.rt_gen_queue.proofs.Vocabulary.{length}
use Rattle.rt_gen_queue.proofs.Vocabulary.{length-append, map, mapped_at, member_at, next_address, option_map, plain}
use Rattle.rt_gen_queue.proofs.Vocabulary.{range_with_len, refl, set-append_seam, slice_get, slice_get_read, slice_set}
use Rattle.rt_gen_queue.proofs.Vocabulary.{subst, suc, sym, task_of, true, zero, ℕ, ◌++◌, ◌+◌, ◌<◌, ◌==◌}
use Rattle.rt_gen_queue.proofs.Vocabulary.{◌^◌, ◌∙◌, ◌∷◌, ◌≡◌, ◌≢◌, ◌≤◌}
use Rattle.std.proofs.lemmas.{Bool.eqb-false, Option.slice_get-map, Simd.map-map}
use Rattle.rt_lemmas.proofs.{Lists.all_map, Membership.all_from_members}
use Rattle.rt_ids.specs.declared.ids.BodyId.TheVariants as body
use Rattle.rt_ids.specs.declared.ids.Section.TheVariants as section
use Rattle.rt_app.specs.{View.body_of, View.statement_of, declared.stmt.Stmt.Stmt}
use Rattle.rt_app.specs.Tree as tree
use Rattle.rt_app.specs.Bodies.{Member}
use Rattle.rt_app.specs.declared.body.Body as written
use Rattle.rt_app.specs.declared.app.App as code
use Rattle.rt_app.specs.declared.app.Task as row
use Rattle.rt_frames.{proofs.Within.frame_few, specs.Inside.Reached.IsBlockReached}
use Rattle.rt_code.specs.declared.instr.Instr.TheVariants as instr
use Rattle.rt_gen_queue.specs.declared.guard.Guard.{Guard}
use Rattle.rt_gen_body.proofs.Promises.{BodyThere, body_between, called_stands, contains_range, idle_stands}
use Rattle.rt_gen_body.proofs.Promises.{init_stands, of_task, task_stands}
use Rattle.rt_gen_body.specs.Bodies.{BodyStands, DeclaredStands, IsBodyOf}
use Rattle.rt_gen_body.specs.{Inside.Generating.slots_code, ValueCode.Context}
use Rattle.rt_gen_body.specs.BlockCode.{block_code, branch_code, statement_code, two_code}
use Rattle.rt_gen_body.specs.Inside.Choices.{EndsWith, first_code}
use Rattle.rt_gen_body.specs.BodyCode.{body_blocks, code_of, guards_of}

-- the address after lines
pub behind_at : (n : ℕ) (xs ys : List Line) → n + length (xs ++ ys) ≡ n + length xs + length ys
behind_at n xs ys = omega (arith, length-append xs ys)

longer : (n : ℕ) (xs : List Line) (x : Line) → n + suc (length (xs ++ x ∷ [])) ≡ n + 1 + length xs + 1
longer n xs x = omega (arith, length-append xs (x ∷ []))

pub behind_four : (n : ℕ) (xs : List Line) (x y z w : Line)
    → n + length ((xs ++ x ∷ y ∷ z ∷ []) ++ w ∷ []) ≡ n + length xs + 4
behind_four n xs x y z w = simp length-append (omega arith)

pub behind_loop : (n : ℕ) (xs head one ys back : List Line) → n + length ((((xs ++ head) ++ one) ++ ys) ++ back)
    ≡ n + length xs + (length head + length one) + length ys + length back
behind_loop n xs head one ys back = simp length-append (omega arith)

-- a line in place of the one after three, and of the one after a line and others
pub fourth_seam : (o : List Line) (x y z old new : Line) (rest : List Line)
    → slice_set (o ++ x ∷ y ∷ z ∷ old ∷ rest) (length (o ++ x ∷ y ∷ z ∷ [])) new ≡ o ++ x ∷ y ∷ z ∷ new ∷ rest
fourth_seam o x y z old new rest =
    rw (← append_assoc o (x ∷ y ∷ z ∷ []) (old ∷ rest))
    (set-append_seam (o ++ x ∷ y ∷ z ∷ []) old rest new ∙ append_assoc o (x ∷ y ∷ z ∷ []) (new ∷ rest))

between_seam : (o one two : List Line) (ahead old new : Line)
    → slice_set (o ++ ahead ∷ (one ++ old ∷ two)) (length o + 1 + length one) new ≡ o ++ ahead ∷ (one ++ new ∷ two)
between_seam o one two ahead old new =
    let long : length o + 1 + length one ≡ length (o ++ ahead ∷ one) = omega (arith, length-append o (ahead ∷ one)) in
    rw (long, ← append_assoc o (ahead ∷ one) (old ∷ two))
    (set-append_seam (o ++ ahead ∷ one) old two new ∙ append_assoc o (ahead ∷ one) (new ∷ two))

-- the code of a block, and of what comes after it
pub block_code-append : (c : Context) (threshold lock at : ℕ) (xs ys : List Stmt)
    → block_code c threshold lock at (block_of (xs ++ ys))
    ≡ block_code c threshold lock at (block_of xs) ++ block_code c threshold lock
    (at + length (block_code c threshold lock at (block_of xs))) (block_of ys)
block_code-append c threshold lock at [] ys = ap (λ n. block_code c threshold lock n (block_of ys)) (omega arith)
block_code-append c threshold lock at (x ∷ xs) ys =
    let first : List Line = statement_code c threshold lock at (statement_of x) in
    rw (block_code-append c threshold lock (at + length first) xs ys) (simp (behind_at, append_assoc))

-- a second block that has no statements is the empty one, and before another the choice is between two
pub no_second : (n : ℕ) (second : List Stmt) → n ≡ length second → true ≡ (n == 0) → block_of second ≡ tree.Empty
no_second n [] is e = refl
no_second n (x ∷ xs) is e = (let zero : n ≡ 0 = eqb-true n 0 (sym e) in absurd (omega arith))

pub some_second : (c : Context) (at : ℕ) (one two : ℕ → List Line) (n : ℕ) (second : List Stmt) → n ≡ length second
    → false ≡ (n == 0) → branch_code c at one two (block_of second) ≡ two_code c at one two
some_second c at one two n [] is e = (let some : n ≢ 0 = eqb-false n 0 (sym e) in absurd (some is))
some_second c at one two n (x ∷ xs) is e = refl

pub two_emitted : (c : Context) (b q r : Made) (first second : ℕ → List Line)
    → Appends b q (first_code c (next_address b) (first (next_address b + 1)))
    → EndsWith q r (length b.lines + 1 + length (first (next_address b + 1))) (second (next_address q))
    → Appends b r (two_code c (next_address b) first second)
two_emitted c b q r first second e f = rw (f, e) (simp (behind_at, longer, append_assoc, between_seam))

-- lines and none after them
pub appends_none : (code : Made) → Appends code code []
appends_none code = ap (λ (xs : List Line). record code { lines = xs }) (sym (append-nil code.lines))

-- the jump over a second block stands among the lines of the first
pub first_within : (c : Context) (a b : Made) (over : ℕ) (block : List Line) → over ≡ length a.lines + 1 + length block
    → Appends a b (first_code c (next_address a) block) → over < length b.lines
first_within c a b over block place e =
    omega (
      arith,
      ap (λ (l : Made). length l.lines) e,
      length-append a.lines (first_code c (next_address a) block),
      length-append block (plain (instr.Jump 0) ∷ []),
    )

-- a task of the code, as it stands among the tasks of the definitions
pub task_there : (app : code.App) (items : List row.Task) (n : ℕ) (t : row.Task) → items ≡ app.tasks.items
    → n < length items → t ≡ get_or items n t → slice_get (app_of app).tasks n ≡ Some (task_of t)
task_there app items n t is within at =
    mapped_at task_of app.tasks.items n t (subst (λ (xs : List row.Task). slice_get xs n ≡ Some t) is
    (slice_get_read items (length items) n t refl within at))

pub task_limits : (app : code.App) → IsAccepted (app_of app) → (n : ℕ) (t : row.Task)
    → slice_get (app_of app).tasks n ≡ Some (task_of t) → KeepsTaskLimits (task_of t)
task_limits app accepted n t at = all_at KeepsTaskLimits (app_of app).tasks n (task_of t) accepted.limits.tasks at

pub task_code : (app : code.App) (guards : List Guard) (id : BodyId) {n : ℕ} (t : row.Task) (at : ℕ)
    → guards ≡ guards_of (app_of app) → id ≡ body.Task n → slice_get (app_of app).tasks n ≡ Some (task_of t)
    → slots_code (app_of app) guards t.args t.priority (body_of t.body) at
    ≡ body_blocks (app_of app) (member_at (app_of app) id) at
task_code app guards id t at guarded is there = rw (guarded, is, there) refl

pub no_task : (app : code.App) (id : BodyId) (n : ℕ) (at : ℕ) → id ≡ body.Task n
    → slice_get (app_of app).tasks n ≡ None → body_blocks (app_of app) (member_at (app_of app) id) at ≡ []
no_task app id n at named absent = rw (named, absent) refl

-- the same of a task that is found by its number, and of none
pub task_found : (app : code.App) (n : ℕ) (t : row.Task) → Some t ≡ slice_get app.tasks.items n
    → slice_get (app_of app).tasks n ≡ Some (task_of t)
task_found app n t is = mapped_at task_of app.tasks.items n t (sym is)

pub task_not_found : (app : code.App) (n : ℕ) → None ≡ slice_get app.tasks.items n
    → slice_get (app_of app).tasks n ≡ None
task_not_found app n is = slice_get-map task_of app.tasks.items n ∙ ap (option_map task_of) (sym is)

-- what `init` has is what a body has
pub init_reached : (app : code.App) → IsAccepted (app_of app) → (b : written.Body) → app.init ≡ Some b
    → IsBlockReached (app_of app) (body_of b).block
init_reached app accepted b at =
    let m : Member = record { id = body.Init; priority = 0; args = 0; body = body_of b } in (
      m,
      0,
      [],
      [],
      (accepted_are_sound (app_of app) accepted).bodies body.Init m
          (ap (λ (o : Option written.Body). option_map (λ x. let y : Member =
          record { id = body.Init; priority = 0; args = 0; body = x } in y) (option_map body_of o)) at),
    )

-- the ceilings of a plan are priorities that there are, and how the sections mask by them
pub small_ceilings : (plan : Plan) → IsAccepted (app_of plan.app.now) → IsPlan plan → (bits : ℕ) (tops : List ℕ)
    → bits ≡ plan.app.now.bits → tops ≡ plan.ceil.shared → AllByRecursion (λ c. c ≤ 2 ^ bits) tops
small_ceilings plan accepted planned bits tops same is =
    let app : App = app_of plan.app.now in
    let all : List ℕ = range_with_len 0 (length app.shared) in
    subst (λ b. AllByRecursion (λ c. c ≤ 2 ^ b) tops) (sym same)
    (subst (λ (cs : List ℕ). AllByRecursion (λ c. c ≤ 2 ^ app.bits) cs)
    (sym (is ∙ ap (λ (c : Ceilings). c.shared) planned.ceilings))
    (all_map (λ r. ceiling app (section.Res r)) (λ r. r < length app.shared) (λ c. c ≤ 2 ^ app.bits)
    (λ r within. (accepted_are_sound app accepted).ceilings (section.Res r) within) all
    (all_from_members (λ r. r < length app.shared) all (contains_range (length app.shared)))))

pub guards_are : (plan : Plan) → IsPlan plan → (bits : ℕ) (tops : List ℕ) (guards : List Guard)
    → bits ≡ plan.app.now.bits → tops ≡ plan.ceil.shared → guards ≡ map (guard_of_ceiling bits) tops
    → guards ≡ guards_of (app_of plan.app.now)
guards_are plan planned bits tops guards same is made =
    let app : App = app_of plan.app.now in
    made ∙ ap (λ b. map (guard_of_ceiling b) tops) same ∙ ap (λ (cs : List ℕ). map (guard_of_ceiling app.bits) cs)
    (is ∙ ap (λ (c : Ceilings). c.shared) planned.ceilings)
    ∙ map-map (guard_of_ceiling app.bits) (λ r. ceiling app (section.Res r)) (range_with_len 0 (length app.shared))

-- what is generated after other code stands
module _ {app : App} (accepted : IsAccepted app) (front : List Line) where
  task_of_code : (n : ℕ) (more : List Line)
      → DeclaredStands app n ((front ++ code_of app (body.Task n) (member_at app (body.Task n)) (length front)) ++ more)
      (length front)
  task_of_code n more = record {
    bound = λ t is hardware.
        task_stands accepted (accepted_are_sound app accepted) is (short t is) (there t is) hardware;
    called = λ t is software.
        called_stands accepted (accepted_are_sound app accepted) is (short t is) (there t is) software;
  }
    where
      short : (t : Task) → slice_get app.tasks n ≡ Some t → frame_words t.args t.body < 2 ^ 32
      short t is =
          let limits : KeepsTaskLimits t = all_at KeepsTaskLimits app.tasks n t accepted.limits.tasks is in
          omega (arith, frame_few t.args t.body limits.body limits.args)

      there : (t : Task) → slice_get app.tasks n ≡ Some t → BodyThere app (body.Task n) (Some (of_task n t))
          ((front ++ code_of app (body.Task n) (member_at app (body.Task n)) (length front)) ++ more) (length front)
      there t is =
          subst (λ (o : Option Task). BodyThere app (body.Task n) (option_map (of_task n) o)
          ((front ++ code_of app (body.Task n) (member_at app (body.Task n)) (length front)) ++ more) (length front)) is
          (body_between app (body.Task n) (member_at app (body.Task n)) front more)

  pub generated_stands : (id : BodyId) → IsBodyOf app id
      → BodyStands app id (front ++ code_of app id (member_at app id) (length front)) (length front)
  generated_stands body.Init of_app = init_stands accepted (accepted_are_sound app accepted) front
  generated_stands body.Idle of_app = idle_stands accepted (accepted_are_sound app accepted) front
  generated_stands (body.Task n) of_app = task_of_code n
