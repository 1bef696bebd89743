use Rattle.std.proofs.Common.{◌+◌, not, Some, sym, ap, subst, ◌∙◌}
use Rattle.std.proofs.lemmas.Option.{slice_get-get_or, get_or_from_slice_get}
use Rattle.rt_lemmas.proofs.Bools.{and_left, and_right, and_both, true_and_false}
use Rattle.rt_respond.specs.Handlers.{stands_before}
use Rattle.rt_respond.specs.Inside.Paths.{is_marked, IsLowestBefore}
use Rattle.rt_respond.proofs.Paths.{lowest_new, lowest_old}
use Rattle.rt_respond.proofs.path.lowest_on.Goals as goal
use Rattle.rt_respond.proofs.path.lowest_on.Goals.{then-is_between+then-stands_before, else-is_between}
use Rattle.rt_respond.proofs.path.lowest_on.Goals.{else-is_between-via-then-is_between+else-stands_before}
use Rattle.rt_respond.proofs.path.lowest_on.Goals.{else-is_between-via-else-is_between}

pub loop-place-preserved : goal.loop-place-preserved
loop-place-preserved c =
    let hs = c.args.handlers.now in
    let all = c.args.all.now in
    let from = c.args.from in
    let to = c.args.to in
    let place = c.loop-place.place in
    let lowest = c.loop-place.lowest in
    let inv = c.loop-place.invariant in
    let first = is_marked all from place in
    let second = is_marked all place to in
    elim c.if-is_between.branch [
      | then-is_between+then-stands_before w ↦
          let low = w.index-handlers-lowest.result in
          let h = w.index-handlers-place.result in
          let both = sym c.is_between.ensures ∙ w.if-is_between.true in
          subst (IsLowestBefore hs all from to (place + 1)) (sym w.lowest-is)
          (lowest_new hs all from to place lowest inv low h c.loop-place-test.true
          (slice_get-get_or hs lowest low inv.there ∙ ap Some (sym w.index-handlers-lowest.is))
          (slice_get-get_or hs place h c.loop-place-test.true ∙ ap Some (sym w.index-handlers-place.is))
          (and_left first second both) (and_right first second both)
          (sym w.stands_before.ensures ∙ w.if-stands_before.true))
      | else-is_between w ↦ subst (IsLowestBefore hs all from to (place + 1)) (sym w.lowest-is)
          (elim w.else-is_between.branch [
            | else-is_between-via-then-is_between+else-stands_before v ↦
                lowest_old hs all from to place lowest inv (λ low h low_at h_at one two.
                let low_is = v.index-handlers-lowest.is
                ∙ get_or_from_slice_get hs lowest low v.index-handlers-lowest.result low_at in
                let h_is = v.index-handlers-place.is
                ∙ get_or_from_slice_get hs place h v.index-handlers-place.result h_at in
                ap not (ap (λ x. stands_before x h) (sym low_is)
                ∙ ap (stands_before v.index-handlers-lowest.result) (sym h_is)
                ∙ sym v.stands_before.ensures ∙ v.if-stands_before.false))
            | else-is_between-via-else-is_between v ↦
                lowest_old hs all from to place lowest inv (λ low h low_at h_at one two.
                absurd (true_and_false c.is_between.result (c.is_between.ensures ∙ and_both first second one two)
                v.if-is_between.false))
          ])
    ]

pub returns-clause-joined : goal.returns-clause-joined
returns-clause-joined c = sym c.is_marked.ensures ∙ c.if-not-is_marked.false
