use Rattle.rt_gen_queue.proofs.Vocabulary.{Bool, IsSome, Option, Some, ap, arith, false, if◌then◌else◌, is_of_level}
use Rattle.rt_gen_queue.proofs.Vocabulary.{is_some_and, length, length-map, map, mapped_at, or_zero, refl, slice_get}
use Rattle.rt_gen_queue.proofs.Vocabulary.{slice_get_read, subst, sym, task_of, true, ℕ, ◌∙◌, ◌≡◌}
use Rattle.rt_gen_disp.proofs.Lasts.{is_at_level, last_below, last_is, last_more, last_none, last_served}
use Rattle.rt_gen_disp.proofs.dispatcher.last_of.Goals.{else-is_of_level, then-is_of_level}
use Rattle.rt_gen_disp.proofs.dispatcher.last_of.Goals as goal

pub loop-number-init : goal.loop-number-init
loop-number-init c = sym (last_none (is_at_level c.args.level (map task_of c.args.tasks.now)))

pub loop-number-preserved : goal.loop-number-preserved
loop-number-preserved c =
    let number = c.loop-number.number in
    let task = c.index-tasks-number.result in
    let items = c.args.tasks.now in
    let test = is_at_level c.args.level (map task_of items) in
    let there : slice_get (map task_of items) number ≡ Some (task_of task) =
    mapped_at task_of items number task
    (slice_get_read items (length items) number task refl c.loop-number-test.true c.index-tasks-number.is) in
    let passes : test number ≡ is_of_level c.args.level (task_of task) =
    ap (is_some_and (is_of_level c.args.level)) there in
    let chosen : c.if-is_of_level.last
    ≡ (if is_of_level c.args.level (task_of task) then Some number else c.loop-number.last) =
    elim c.if-is_of_level.branch [
      | then-is_of_level w ↦ w.last-is ∙ rw (sym c.is_of_level.ensures ∙ w.if-is_of_level.true)
      | else-is_of_level w ↦ w.last-is ∙ rw (sym c.is_of_level.ensures ∙ w.if-is_of_level.false)
    ] in
    chosen ∙ ap (λ (b : Bool). if b then Some number else c.loop-number.last) (sym passes)
    ∙ ap (λ (o : Option ℕ). if test number then Some number else o) c.loop-number.invariant
    ∙ sym (last_more test number)

pub unreachable-requires : goal.unreachable-requires
unreachable-requires c =
    let tasks = map task_of c.args.tasks.now in
    let test = is_at_level c.args.level tasks in
    let end : length tasks ≡ c.loop-number.number = omega (arith, length-map c.args.tasks.now task_of) in
    let none = ap (last_below test) end ∙ sym c.loop-number.invariant ∙ c.in-None.is in
    absurd (let some : false ≡ true = subst IsSome none (last_served c.args.level tasks c.requires.served) in cc)

pub returns : goal.returns
returns c =
    let tasks = map task_of c.args.tasks.now in
    let test = is_at_level c.args.level tasks in
    let end : c.loop-number.number ≡ length tasks = omega (arith, length-map c.args.tasks.now task_of) in
    ap or_zero (sym c.in-Some.is ∙ c.loop-number.invariant ∙ ap (last_below test) end) ∙ last_is test (length tasks)
