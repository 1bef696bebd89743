use Rattle.rt_gen_queue.proofs.Vocabulary.{IsSome, None, Option, false, length, refl, slice_get, slice_get_read, subst}
use Rattle.rt_gen_queue.proofs.Vocabulary.{then_from, true, ℕ, ◌∙◌, ◌≡◌}
use Rattle.std.proofs.lemmas.Option.{slice_get_past}
use Rattle.rt_gen_queue.proofs.target.free_ceiling.Goals as goal

pub unreachable-requires : goal.unreachable-requires
unreachable-requires c =
    let index = c.from.ensures ∙ c.task.view_is in
    let tops = c.args.ceilings.now in
    let none : then_from (slice_get tops c.args.task) (λ o. o) ≡ None =
    rw (← index, slice_get_past tops c.from.result c.in-None.ensures.lookup.3) refl in
    absurd (let some : false ≡ true = subst (λ (o : Option ℕ). IsSome o) none c.requires in cc)

pub unreachable-requires-in-Some-None : goal.unreachable-requires-in-Some-None
unreachable-requires-in-Some-None c =
    let index = c.from.ensures ∙ c.task.view_is in
    let tops = c.args.ceilings.now in
    let read = c.in-Some-None.ensures.lookup in
    let none : then_from (slice_get tops c.args.task) (λ o. o) ≡ None =
    rw (
      ← index,
      slice_get_read tops (length tops) c.from.result c.in-Some-None.field-0.now refl read.3.0 read.1,
      c.in-Some-None.field-0-is,
    ) refl in
    absurd (let some : false ≡ true = subst (λ (o : Option ℕ). IsSome o) none c.requires in cc)

pub returns : goal.returns
returns c =
    let index = c.from.ensures ∙ c.task.view_is in
    let tops = c.args.ceilings.now in
    let read = c.in-Some-Some.ensures.lookup in
    rw (
      ← index,
      slice_get_read tops (length tops) c.from.result c.in-Some-Some.field-0.now refl read.3.0 read.1,
      c.in-Some-Some.field-0-is,
    ) refl
