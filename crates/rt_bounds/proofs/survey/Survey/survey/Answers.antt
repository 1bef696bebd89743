use Rattle.std.proofs.Common.{◌+◌, ap, ◌∙◌, arith}
use Rattle.rt_judge.specs.Inside.Walks.{reached_by}
use Rattle.rt_bounds.specs.declared.survey.Mark.TheVariants as mark
use Rattle.rt_bounds.proofs.Steps.{start_within, started, top_within, rest_free, step_steps, step_loop, step_on}
use Rattle.rt_bounds.proofs.Steps.{step_within, step_free, step_nearer, back_nearer, steps_fit, steps_close}
use Rattle.rt_bounds.proofs.Steps.{loop_closes, same_survey, same_measure, same_seen, free_on}
use Rattle.rt_bounds.proofs.Steps.{moved_free}
use Rattle.rt_bounds.proofs.Listed.{listed_first, listed_again, first_on_list, next_on_list, top_on_list, rest_on_list}
use Rattle.rt_bounds.proofs.Surveying.{seen_set, seen_now}
use Rattle.rt_bounds.proofs.survey.Survey.survey.Goals as goal

pub open-requires : goal.open-requires
open-requires c =
    let s = c.args.self.now in
    start_within c.args.image.now c.args.owner c.args.walk.now c.requires.checked c.requires.mapped s.depth s.goal
    s.marks.items
    c.args.start c.requires.surveyed.surveying c.requires.free.free.there

pub loop-top-init : goal.loop-top-init
loop-top-init c =
    let s = c.args.self.now in
    let opened = c.in_ok-open.ensures in
    let free = c.requires.free.free in
    let within = start_within c.args.image.now c.args.owner c.args.walk.now c.requires.checked c.requires.mapped s.depth s.goal
    s.marks.items
    c.args.start c.requires.surveyed.surveying free.there in
    record {
      depth = opened.depth;
      goal = opened.goal;
      surveying = same_survey c.args.image.now c.args.owner c.args.walk.now s.depth c.open.new.self.depth s.goal
          c.open.new.self.goal _ c.open.new.self.marks.items _ c.open.new.self.trail.items opened.depth opened.goal
          opened.marks opened.trail
          (started c.args.image.now c.args.owner c.args.walk.now c.requires.checked c.requires.mapped s.depth s.goal
          s.marks.items
          c.args.start s.trail.items c.requires.surveyed.empty c.requires.surveyed.surveying
          free.there free.aside c.requires.unseen);
      wide = (
        c.requires.free.last,
        c.requires.free.folded,
        free_on c.args.image.now c.args.owner (reached_by c.args.walk.now) c.requires.free.last s.depth
            c.open.new.self.depth s.goal c.open.new.self.goal c.args.start s.trail.items c.open.new.self.trail.items
            opened.depth opened.goal c.requires.surveyed.empty opened.trail free,
      );
      listed = listed_first s.marks.items c.open.new.self.marks.items c.args.start mark.Open opened.marks s.seen.items
          c.open.new.self.seen.items opened.seen within c.requires.surveyed.listed;
      on_list = first_on_list c.args.start s.seen.items c.open.new.self.seen.items opened.seen s.trail.items
          c.open.new.self.trail.items c.requires.surveyed.empty opened.trail;
      seen = same_seen _ c.open.new.self.marks.items c.args.start opened.marks
          (seen_now s.marks.items c.args.start mark.Open within (λ e. cc));
    }

pub go_on-requires : goal.go_on-requires
go_on-requires c =
    let s = c.loop-top.self in
    step_within c.args.image.now c.args.owner c.args.walk.now c.requires.checked c.requires.mapped s.depth s.goal
    s.marks.items
    c.loop-top.invariant.wide.0 c.args.folds.now c.loop-top.invariant.wide.1 s.trail.items c.pop.new.self.items
    c.in-Some.top c.in-Some.ensures.items c.loop-top.invariant.surveying c.loop-top.invariant.wide.2
    c.in-Unseen.next c.in-Unseen.ensures

pub loop-top-smaller-in-Continue-branch-2 : goal.loop-top-smaller-in-Continue-branch-2
loop-top-smaller-in-Continue-branch-2 c =
    let s = c.loop-top.self in
    let gone = c.in_ok-go_on-in-Unseen.ensures in
    same_measure _ c.go_on.new.self.marks.items _ c.go_on.new.self.trail.items _ gone.marks gone.trail
    (step_nearer c.args.image.now c.args.owner c.args.walk.now c.requires.checked c.requires.mapped s.depth s.goal
    s.marks.items
    c.loop-top.invariant.wide.0 c.args.folds.now c.loop-top.invariant.wide.1 s.trail.items c.pop.new.self.items
    c.in-Some.top c.in-Some.ensures.items c.loop-top.invariant.surveying c.loop-top.invariant.wide.2
    c.in-Unseen.next c.in-Unseen.ensures)

pub loop-top-preserved-in-Continue-branch-2 : goal.loop-top-preserved-in-Continue-branch-2
loop-top-preserved-in-Continue-branch-2 c =
    let s = c.loop-top.self in
    let gone = c.in_ok-go_on-in-Unseen.ensures in
    let within = step_within c.args.image.now c.args.owner c.args.walk.now c.requires.checked c.requires.mapped s.depth s.goal
    s.marks.items
    c.loop-top.invariant.wide.0 c.args.folds.now c.loop-top.invariant.wide.1 s.trail.items c.pop.new.self.items
    c.in-Some.top c.in-Some.ensures.items c.loop-top.invariant.surveying c.loop-top.invariant.wide.2
    c.in-Unseen.next c.in-Unseen.ensures in
    record {
      depth = gone.depth ∙ c.loop-top.invariant.depth;
      goal = gone.goal ∙ c.loop-top.invariant.goal;
      surveying = same_survey c.args.image.now c.args.owner c.args.walk.now s.depth c.go_on.new.self.depth s.goal
          c.go_on.new.self.goal _ c.go_on.new.self.marks.items _ c.go_on.new.self.trail.items gone.depth gone.goal
          gone.marks gone.trail
          (step_on c.args.image.now c.args.owner c.args.walk.now c.requires.checked c.requires.mapped s.depth s.goal
          s.marks.items
          c.loop-top.invariant.wide.0 c.args.folds.now c.loop-top.invariant.wide.1 s.trail.items c.pop.new.self.items
          c.in-Some.top c.in-Some.ensures.items c.loop-top.invariant.surveying c.loop-top.invariant.wide.2
          c.in-Unseen.next c.in-Unseen.ensures);
      wide = (
        c.loop-top.invariant.wide.0,
        c.loop-top.invariant.wide.1,
        moved_free c.args.image.now c.args.owner (reached_by c.args.walk.now) c.loop-top.invariant.wide.0 s.depth
            c.go_on.new.self.depth s.goal c.go_on.new.self.goal _ c.go_on.new.self.trail.items gone.depth gone.goal
            gone.trail
            (step_free c.args.image.now c.args.owner c.args.walk.now c.requires.checked c.requires.mapped s.depth s.goal
            s.marks.items
            c.loop-top.invariant.wide.0 c.args.folds.now c.loop-top.invariant.wide.1 s.trail.items c.pop.new.self.items
            c.in-Some.top c.in-Some.ensures.items c.loop-top.invariant.surveying c.loop-top.invariant.wide.2
            c.in-Unseen.next c.in-Unseen.ensures),
      );
      listed = listed_first s.marks.items c.go_on.new.self.marks.items c.in-Unseen.next mark.Open gone.marks s.seen.items
          c.go_on.new.self.seen.items gone.seen within c.loop-top.invariant.listed;
      on_list = next_on_list c.in-Some.top c.in-Unseen.next s.seen.items c.go_on.new.self.seen.items gone.seen
          s.trail.items c.pop.new.self.items c.go_on.new.self.trail.items c.in-Some.ensures.items gone.trail
          c.loop-top.invariant.on_list;
      seen = same_seen _ c.go_on.new.self.marks.items c.args.start gone.marks
          (seen_set s.marks.items c.in-Unseen.next c.args.start mark.Open within (λ e. cc) c.loop-top.invariant.seen);
    }

pub overflow_add-steps : goal.overflow_add-steps
overflow_add-steps c =
    let s = c.loop-top.self in
    let small = steps_fit c.args.image.now c.args.owner c.args.walk.now c.requires.checked c.requires.mapped s.depth s.goal
    s.marks.items
    c.loop-top.invariant.wide.0 c.args.folds.now c.loop-top.invariant.wide.1 s.trail.items c.pop.new.self.items
    c.in-Some.top c.in-Some.ensures.items c.loop-top.invariant.surveying c.loop-top.invariant.wide.2
    c.requires.limits c.in-Steps.steps c.in-Steps.ensures in
    omega (arith, small)

pub close-requires : goal.close-requires
close-requires c =
    let s = c.loop-top.self in
    top_within c.args.image.now c.args.owner c.args.walk.now c.requires.checked c.requires.mapped s.depth s.goal
    s.marks.items
    c.loop-top.invariant.wide.0 c.args.folds.now c.loop-top.invariant.wide.1 s.trail.items c.pop.new.self.items
    c.in-Some.top c.in-Some.ensures.items c.loop-top.invariant.surveying c.loop-top.invariant.wide.2

pub loop-top-smaller-in-Steps : goal.loop-top-smaller-in-Steps
loop-top-smaller-in-Steps c =
    let s = c.loop-top.self in
    let closed = c.close.ensures in
    same_measure _ c.close.new.self.marks.items _ c.close.new.self.trail.items _ closed.marks
    (ap (λ v. v.items) closed.trail)
    (back_nearer c.args.image.now c.args.owner c.args.walk.now c.requires.checked c.requires.mapped s.depth s.goal
    s.marks.items
    c.loop-top.invariant.wide.0 c.args.folds.now c.loop-top.invariant.wide.1 s.trail.items c.pop.new.self.items
    c.in-Some.top c.in-Some.ensures.items c.loop-top.invariant.surveying c.loop-top.invariant.wide.2
    (mark.Steps (c.in-Steps.steps + 1)) (steps_close (c.in-Steps.steps + 1)))

pub loop-top-preserved-in-Steps : goal.loop-top-preserved-in-Steps
loop-top-preserved-in-Steps c =
    let s = c.loop-top.self in
    let closed = c.close.ensures in
    let within = top_within c.args.image.now c.args.owner c.args.walk.now c.requires.checked c.requires.mapped s.depth s.goal
    s.marks.items
    c.loop-top.invariant.wide.0 c.args.folds.now c.loop-top.invariant.wide.1 s.trail.items c.pop.new.self.items
    c.in-Some.top c.in-Some.ensures.items c.loop-top.invariant.surveying c.loop-top.invariant.wide.2 in
    record {
      depth = closed.depth ∙ c.loop-top.invariant.depth;
      goal = closed.goal ∙ c.loop-top.invariant.goal;
      surveying = same_survey c.args.image.now c.args.owner c.args.walk.now s.depth c.close.new.self.depth s.goal
          c.close.new.self.goal _ c.close.new.self.marks.items _ c.close.new.self.trail.items closed.depth
          closed.goal closed.marks (ap (λ v. v.items) closed.trail)
          (step_steps c.args.image.now c.args.owner c.args.walk.now c.requires.checked c.requires.mapped s.depth s.goal
          s.marks.items
          c.loop-top.invariant.wide.0 c.args.folds.now c.loop-top.invariant.wide.1 s.trail.items c.pop.new.self.items
          c.in-Some.top c.in-Some.ensures.items c.loop-top.invariant.surveying c.loop-top.invariant.wide.2
          c.in-Steps.steps c.in-Steps.ensures);
      wide = (
        c.loop-top.invariant.wide.0,
        c.loop-top.invariant.wide.1,
        moved_free c.args.image.now c.args.owner (reached_by c.args.walk.now) c.loop-top.invariant.wide.0 s.depth
            c.close.new.self.depth s.goal c.close.new.self.goal _ c.close.new.self.trail.items
            closed.depth closed.goal (ap (λ v. v.items) closed.trail)
            (rest_free c.args.image.now c.args.owner c.args.walk.now c.requires.checked c.requires.mapped s.depth s.goal
            s.marks.items
            c.loop-top.invariant.wide.0 c.args.folds.now c.loop-top.invariant.wide.1 s.trail.items c.pop.new.self.items
            c.in-Some.top c.in-Some.ensures.items c.loop-top.invariant.surveying c.loop-top.invariant.wide.2),
      );
      listed = listed_again s.marks.items c.close.new.self.marks.items c.in-Some.top (mark.Steps (c.in-Steps.steps + 1))
          closed.marks s.seen.items c.close.new.self.seen.items (ap (λ v. v.items) closed.seen)
          (top_on_list c.in-Some.top s.seen.items s.trail.items c.pop.new.self.items c.in-Some.ensures.items
          c.loop-top.invariant.on_list) c.loop-top.invariant.listed;
      on_list = rest_on_list c.in-Some.top s.seen.items c.close.new.self.seen.items (ap (λ v. v.items) closed.seen)
          s.trail.items c.pop.new.self.items c.close.new.self.trail.items c.in-Some.ensures.items
          (ap (λ v. v.items) closed.trail) c.loop-top.invariant.on_list;
      seen = same_seen _ c.close.new.self.marks.items c.args.start closed.marks
          (seen_set s.marks.items c.in-Some.top c.args.start (mark.Steps (c.in-Steps.steps + 1)) within
          (steps_close (c.in-Steps.steps + 1)).0 c.loop-top.invariant.seen);
    }

pub close-requires-in-Loop : goal.close-requires-in-Loop
close-requires-in-Loop c =
    let s = c.loop-top.self in
    top_within c.args.image.now c.args.owner c.args.walk.now c.requires.checked c.requires.mapped s.depth s.goal
    s.marks.items
    c.loop-top.invariant.wide.0 c.args.folds.now c.loop-top.invariant.wide.1 s.trail.items c.pop.new.self.items
    c.in-Some.top c.in-Some.ensures.items c.loop-top.invariant.surveying c.loop-top.invariant.wide.2

pub loop-top-smaller : goal.loop-top-smaller
loop-top-smaller c =
    let s = c.loop-top.self in
    let closed = c.close-in-Loop.ensures in
    same_measure _ c.close-in-Loop.new.self.marks.items _ c.close-in-Loop.new.self.trail.items _ closed.marks
    (ap (λ v. v.items) closed.trail)
    (back_nearer c.args.image.now c.args.owner c.args.walk.now c.requires.checked c.requires.mapped s.depth s.goal
    s.marks.items
    c.loop-top.invariant.wide.0 c.args.folds.now c.loop-top.invariant.wide.1 s.trail.items c.pop.new.self.items
    c.in-Some.top c.in-Some.ensures.items c.loop-top.invariant.surveying c.loop-top.invariant.wide.2
    (mark.Loop c.in-Loop.address) (loop_closes c.in-Loop.address))

pub loop-top-preserved : goal.loop-top-preserved
loop-top-preserved c =
    let s = c.loop-top.self in
    let closed = c.close-in-Loop.ensures in
    let within = top_within c.args.image.now c.args.owner c.args.walk.now c.requires.checked c.requires.mapped s.depth s.goal
    s.marks.items
    c.loop-top.invariant.wide.0 c.args.folds.now c.loop-top.invariant.wide.1 s.trail.items c.pop.new.self.items
    c.in-Some.top c.in-Some.ensures.items c.loop-top.invariant.surveying c.loop-top.invariant.wide.2 in
    record {
      depth = closed.depth ∙ c.loop-top.invariant.depth;
      goal = closed.goal ∙ c.loop-top.invariant.goal;
      surveying = same_survey c.args.image.now c.args.owner c.args.walk.now s.depth c.close-in-Loop.new.self.depth s.goal
          c.close-in-Loop.new.self.goal _ c.close-in-Loop.new.self.marks.items _ c.close-in-Loop.new.self.trail.items closed.depth
          closed.goal closed.marks (ap (λ v. v.items) closed.trail)
          (step_loop c.args.image.now c.args.owner c.args.walk.now c.requires.checked c.requires.mapped s.depth s.goal
          s.marks.items
          c.loop-top.invariant.wide.0 c.args.folds.now c.loop-top.invariant.wide.1 s.trail.items c.pop.new.self.items
          c.in-Some.top c.in-Some.ensures.items c.loop-top.invariant.surveying c.loop-top.invariant.wide.2
          c.in-Loop.address c.in-Loop.ensures);
      wide = (
        c.loop-top.invariant.wide.0,
        c.loop-top.invariant.wide.1,
        moved_free c.args.image.now c.args.owner (reached_by c.args.walk.now) c.loop-top.invariant.wide.0 s.depth
            c.close-in-Loop.new.self.depth s.goal c.close-in-Loop.new.self.goal _ c.close-in-Loop.new.self.trail.items
            closed.depth closed.goal (ap (λ v. v.items) closed.trail)
            (rest_free c.args.image.now c.args.owner c.args.walk.now c.requires.checked c.requires.mapped s.depth s.goal
            s.marks.items
            c.loop-top.invariant.wide.0 c.args.folds.now c.loop-top.invariant.wide.1 s.trail.items c.pop.new.self.items
            c.in-Some.top c.in-Some.ensures.items c.loop-top.invariant.surveying c.loop-top.invariant.wide.2),
      );
      listed = listed_again s.marks.items c.close-in-Loop.new.self.marks.items c.in-Some.top (mark.Loop c.in-Loop.address)
          closed.marks s.seen.items c.close-in-Loop.new.self.seen.items (ap (λ v. v.items) closed.seen)
          (top_on_list c.in-Some.top s.seen.items s.trail.items c.pop.new.self.items c.in-Some.ensures.items
          c.loop-top.invariant.on_list) c.loop-top.invariant.listed;
      on_list = rest_on_list c.in-Some.top s.seen.items c.close-in-Loop.new.self.seen.items (ap (λ v. v.items) closed.seen)
          s.trail.items c.pop.new.self.items c.close-in-Loop.new.self.trail.items c.in-Some.ensures.items
          (ap (λ v. v.items) closed.trail) c.loop-top.invariant.on_list;
      seen = same_seen _ c.close-in-Loop.new.self.marks.items c.args.start closed.marks
          (seen_set s.marks.items c.in-Some.top c.args.start (mark.Loop c.in-Loop.address) within
          (loop_closes c.in-Loop.address).0 c.loop-top.invariant.seen);
    }
