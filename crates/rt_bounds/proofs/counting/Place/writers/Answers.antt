use Rattle.std.proofs.Common.{◌≢◌, ◌<◌, ◌+◌, ◌⊎◌, inl, inr, ⊎_elim, get_or, sym}
use Rattle.std.proofs.Common.{ap, subst, ◌∙◌, is_some, arith, rules}
use Rattle.std.proofs.lemmas.Bool.{both_ways}
use Rattle.std.proofs.lemmas.List.{get_or_default}
use Rattle.std.proofs.lemmas.List.Sorted.{IsPartitionPoint-from_clause}
use Rattle.rt_judge.specs.Inside.Tables.{found}
use Rattle.rt_bounds.specs.Inside.Writtens.{is_before, Counts, CountTo}
use Rattle.rt_bounds.specs.declared.counting.Writers.{Writers}
use Rattle.rt_bounds.specs.declared.written.Written.{Written}
use Rattle.rt_bounds.proofs.Asked.{parted, none_yet, none_behind, passes, is_one, are_several, are_all, at_any, counts_at, is_some-some}
use Rattle.rt_bounds.proofs.counting.Place.writers.Goals.{then-row-slot-via-then-row-slot, then-row-slot-via-else-row-slot+then-self-row}
use Rattle.rt_bounds.proofs.counting.Place.writers.Goals.{then-is_some+in-Nobody, else-is_some}
use Rattle.rt_bounds.proofs.counting.Place.writers.Goals as goal

-- the row that stands for none
abbrev nothing : Written
nothing = record { slot = 0; address = 0 }

pub loop-index-init : goal.loop-index-init
loop-index-init c =
    let point = IsPartitionPoint-from_clause (is_before c.args.slot c.args.self.now.first) c.args.written.now
    c.partition_point-from.result c.partition_point-from.ensures.partitioned
    (parted c.args.written.now c.requires.order c.args.slot c.args.self.now.first) (λ a r q k. search rules) in
    record {
      point = point;
      past = omega arith;
      few = c.partition_point-from.ensures.bound;
      so = none_yet c.args.written.now c.requires.order c.args.walk.now c.args.self.now c.args.slot
          c.partition_point-from.result point;
    }

pub returns-then-row-slot : goal.returns-then-row-slot
returns-then-row-slot c = λ image has.
    let few = c.loop-index-test.true in
    let past = c.loop-index.auto.index in
    let other : (d : Written)
    → ((get_or c.args.written.now c.loop-index.index d).slot ≢ c.args.slot)
    ⊎ (c.args.self.now.last < (get_or c.args.written.now c.loop-index.index d).address) =
    at_any c.args.written.now c.requires.order c.args.walk.now c.args.self.now c.args.slot
    c.partition_point-from.result c.loop-index.invariant.point
    (λ row. (row.slot ≢ c.args.slot) ⊎ (c.args.self.now.last < row.address)) c.loop-index.index nothing few
    (elim c.then-row-slot.branch [
      | then-row-slot-via-then-row-slot w ↦ inl w.if-row-slot.true
      | then-row-slot-via-else-row-slot+then-self-row w ↦ inr w.if-self-row.true
    ]) in
    are_all c.args.written.now c.requires.order c.args.walk.now c.args.self.now c.args.slot c.partition_point-from.result
    c.loop-index.invariant.point image has c.loop-index.index c.loop-index.invariant.few
    (none_behind c.args.written.now c.requires.order c.args.walk.now c.args.self.now c.args.slot
    c.partition_point-from.result c.loop-index.invariant.point c.loop-index.index past few other) c.loop-index.found
    c.loop-index.invariant.so

pub returns-in-One : goal.returns-in-One
returns-in-One c = λ image has.
    let some = is_some-some c.find.result (sym c.is_some.ensures ∙ c.if-is_some.true) in
    let counts = counts_at c.args.written.now c.requires.order c.args.walk.now c.args.self.now c.args.slot
    c.partition_point-from.result c.loop-index.invariant.point c.loop-index.index nothing c.loop-index.auto.index
    c.loop-index-test.true c.if-row-slot.false c.if-self-row.false some.0 (sym c.find.ensures ∙ some.1) in
    let so = c.loop-index.invariant.so in
    ⊎_elim
    (λ one. are_several c.args.written.now c.requires.order c.args.walk.now c.args.self.now c.args.slot
    c.partition_point-from.result c.loop-index.invariant.point image has c.loop-index.index one.0 nothing
    c.loop-index-test.true counts (subst (λ (f : Writers). CountTo c.args.walk.now c.args.self.now c.args.slot c.args.written.now
    c.loop-index.index f) one.1 so))
    (λ several. absurd (subst (λ (f : Writers). CountTo c.args.walk.now c.args.self.now c.args.slot c.args.written.now
    c.loop-index.index f) several so))
    c.in-One.is

pub loop-index-preserved : goal.loop-index-preserved
loop-index-preserved c =
    let all = c.loop-index.invariant in
    let few = c.loop-index-test.true in
    let past = c.loop-index.auto.index in
    let rest : CountTo c.args.walk.now c.args.self.now c.args.slot c.args.written.now (c.loop-index.index + 1)
    c.if-is_some.found =
    elim c.if-is_some.branch [
      | then-is_some+in-Nobody w ↦ (
          let some = is_some-some c.find.result (sym c.is_some.ensures ∙ w.if-is_some.true) in
          let counts = counts_at c.args.written.now c.requires.order c.args.walk.now c.args.self.now c.args.slot
          c.partition_point-from.result all.point c.loop-index.index nothing past few c.if-row-slot.false
          c.if-self-row.false some.0 (sym c.find.ensures ∙ some.1) in
          subst (λ (f : Writers). CountTo c.args.walk.now c.args.self.now c.args.slot c.args.written.now
          (c.loop-index.index + 1) f) (sym w.found-is)
          (is_one c.args.written.now c.requires.order c.args.walk.now c.args.self.now c.args.slot
          c.partition_point-from.result all.point c.loop-index.index
          (get_or c.args.written.now c.loop-index.index nothing).address
          (λ d. subst (Counts c.args.walk.now c.args.self.now c.args.slot)
          (get_or_default c.args.written.now c.loop-index.index nothing d few) counts)
          (λ d. ap (λ (row : Written). row.address)
          (get_or_default c.args.written.now c.loop-index.index d nothing few))
          (subst (λ (f : Writers). CountTo c.args.walk.now c.args.self.now c.args.slot c.args.written.now
          c.loop-index.index f) w.in-Nobody.is all.so)))
      | else-is_some w ↦ (
          subst (λ (f : Writers). CountTo c.args.walk.now c.args.self.now c.args.slot c.args.written.now
          (c.loop-index.index + 1) f) (sym w.found-is)
          (passes c.args.written.now c.requires.order c.args.walk.now c.args.self.now c.args.slot
          c.partition_point-from.result all.point c.loop-index.index
          (λ d counts. both_ways c.is_some.result w.if-is_some.false
          (c.is_some.ensures ∙ ap is_some (c.find.ensures ∙ ap
          (λ (row : Written). found c.args.walk.now.table row.address)
          (get_or_default c.args.written.now c.loop-index.index nothing d few) ∙ counts.there)))
          c.loop-index.found all.so))
    ] in
    record {
      point = all.point;
      past = omega (arith, past);
      few = omega (arith, few);
      so = rest;
    }

pub returns : goal.returns
returns c = λ image has.
    are_all c.args.written.now c.requires.order c.args.walk.now c.args.self.now c.args.slot c.partition_point-from.result
    c.loop-index.invariant.point image has c.loop-index.index c.loop-index.invariant.few
    (λ j d past less. let end = c.loop-index-test.false in absurd (omega (arith, end, past, less))) c.loop-index.found
    c.loop-index.invariant.so
