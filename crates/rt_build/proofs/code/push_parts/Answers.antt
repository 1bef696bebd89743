use Rattle.std.proofs.Common.{◌≡◌, ◌==◌, ℕ, ◌+◌, List, ◌++◌, length, take, drop, sum_by, slice_index, refl, sym, ap}
use Rattle.std.proofs.Common.{subst, ◌∙◌, arith}
use Rattle.std.specs.Prelude.{position}
use Rattle.rt_ids.specs.Lists.{or_zero}
use Rattle.rt_ids.specs.declared.ids.BodyId.TheVariants as body
use Rattle.rt_app.specs.BodyCost.{size_measure, cost_of, dispatcher_size, timer_size}
use Rattle.rt_app.specs.Level.{levels}
use Rattle.rt_app.specs.View.{app_of}
use Rattle.rt_gen_queue.specs.Line.{Line}
use Rattle.rt_build.specs.Entries.{Entries}
use Rattle.rt_build.specs.Order.{OfBody}
use Rattle.rt_build.specs.Inside.Code.{kind_size, HasTasks, LeavesOthers}
use Rattle.rt_build.specs.declared.code.TaskKind.TheVariants.{Hardware, Software}
use Rattle.rt_build.proofs.Grown.{thread_kept, thread_made, tasks_kept, tasks_left, hardware_apart, kinds_sum}
use Rattle.rt_build.proofs.Grown.{dispatchers_kept}
use Rattle.rt_build.proofs.Grown.{adds_then, all_named, adds_behind, kept_then, written}
use Rattle.rt_build.proofs.Abutting.{part_put, tasks_whole, levels_whole, parts_put}
use Rattle.rt_build.proofs.ImageSizes.{all_code}
use Rattle.rt_build.proofs.code.push_parts.Goals as goal

pub returns : goal.returns
returns c =
    let app = app_of c.args.plan.now.app.now in
    let m = size_measure app in
    let none = c.args.code.now.lines.items in
    let first = c.gen_body.new.code.items in
    let second = c.push_idle.new.lines.items in
    let third = c.push_tasks.new.lines.items in
    let fourth = c.push_tasks-2.new.lines.items in
    let fifth = c.push_dispatchers.new.lines.items in
    let sixth = c.push_timer.new.lines.items in
    let a = cost_of m app.init in
    let b = cost_of m app.idle in
    let d = sum_by (kind_size app Hardware) app.tasks in
    let e = sum_by (kind_size app Software) app.tasks in
    let f = sum_by (dispatcher_size app) (levels app) in
    let g = timer_size app app.mono in
    let begin = adds_behind app a c.in_ok-gen_body.field-0 none first c.in_ok-gen_body.ensures.entry
    c.in_ok-gen_body.ensures.kept c.in_ok-gen_body.ensures.names c.in_ok-gen_body.ensures.size in
    let hardware = c.in_ok-push_tasks.ensures.adds in
    let software = c.in_ok-push_tasks-2.ensures.adds in
    let levelled = c.in_ok-code-2.ensures.adds in
    let last = c.in_ok-code-3.ensures.adds in
    let all = all_named app (a + (b + (d + (e + (f + g))))) none sixth c.requires.empty
    (adds_then app a (b + (d + (e + (f + g)))) none first sixth begin
    (adds_then app b (d + (e + (f + g))) first second sixth c.in_ok-code.ensures.adds
    (adds_then app d (e + (f + g)) second third sixth hardware
    (adds_then app e (f + g) third fourth sixth software (adds_then app f g fourth fifth sixth levelled last))))) in
    let made = thread_made app first second c.in_ok-code.field-0 c.in_ok-code.ensures.adds.kept
    c.in_ok-code.ensures.entry c.in_ok-gen_body.field-0
    (c.in_ok-gen_body.ensures.entry ∙ ap (λ (lines : List Line). length lines) c.requires.empty)
    c.in_ok-gen_body.ensures.stands c.in_ok-code.ensures.stands in
    let idle = c.in_ok-code.field-0 in
    let size = c.args.code.now.tasks.len in
    let start = c.args.code.now.tasks.items in
    let one = c.push_tasks.new.entries in
    let two = c.push_tasks-2.new.entries in
    let others_one = c.in_ok-push_tasks.ensures.others in
    let others_two = c.in_ok-push_tasks-2.ensures.others in
    let long : length start ≡ size =
    ap (λ (es : List ℕ). length es) (sym c.deref_mut.ensures.value) ∙ c.deref_mut.ensures.len in
    let long_one : length one ≡ length start =
    others_one.long ∙ ap (λ (es : List ℕ). length es) c.deref_mut.ensures.value in
    let first_pass = written size start one long_one long in
    let begin_two : c.deref_mut-2.result.now ≡ one = c.deref_mut-2.ensures.value ∙ first_pass in
    let long_two : length two ≡ length one = others_two.long ∙ ap (λ (es : List ℕ). length es) begin_two in
    let left : LeavesOthers app Software one two =
    subst (λ (es : List ℕ). LeavesOthers app Software es two) begin_two others_two in
    let second_pass = written size (take size (one ++ drop (length one) start)) two
    (long_two ∙ ap (λ (es : List ℕ). length es) (sym first_pass))
    (ap (λ (es : List ℕ). length es) first_pass ∙ (long_one ∙ long)) in
    let at : Entries = record {
      idle = idle;
      task = λ n.
          slice_index (take size (two ++ drop (length two) (take size (one ++ drop (length one) start)))) n;
      dispatcher = λ p.
          slice_index c.in_ok-code-2.field-0.items (or_zero (position (λ q. q == p) (levels app)));
      timer = c.in_ok-code-3.field-0;
    } in
    let behind_software = kept_then fourth fifth sixth levelled.kept last.kept in
    let behind_hardware = kept_then third fourth sixth software.kept behind_software in
    record {
      entries = record {
        of_tasks = ap (λ (es : List ℕ). length es) second_pass ∙ (long_two ∙ (long_one ∙ c.requires.entries));
        of_levels = c.in_ok-code-2.ensures.entries;
      };
      thread = thread_kept app third sixth behind_hardware idle (thread_kept app second third hardware.kept idle made);
      hardware = subst (HasTasks app sixth Hardware) (sym second_pass)
          (tasks_left app Hardware Software sixth one two left hardware_apart
          (tasks_kept app third sixth behind_hardware (length one) Hardware one c.in_ok-push_tasks.ensures.stands));
      software = subst (HasTasks app sixth Software) (sym second_pass)
          (tasks_kept app fourth sixth behind_software (length two) Software two c.in_ok-push_tasks-2.ensures.stands);
      dispatchers = dispatchers_kept app fifth sixth last.kept c.in_ok-code-2.field-0.items
          c.in_ok-code-2.ensures.stands;
      timer = c.in_ok-code-3.ensures.stands;
      named = all.0;
      parts = parts_put app at none first second third fourth fifth sixth c.requires.empty begin.kept
          c.in_ok-code.ensures.adds.kept hardware.kept software.kept levelled.kept last.kept
          (part_put app at (OfBody body.Init) c.in_ok-gen_body.field-0 none first c.in_ok-gen_body.ensures.entry
          (sym (c.in_ok-gen_body.ensures.entry ∙ ap (λ (lines : List Line). length lines) c.requires.empty))
          c.in_ok-gen_body.ensures.size c.in_ok-gen_body.ensures.form c.in_ok-gen_body.ensures.lines)
          (c.in_ok-code.ensures.part at refl)
          (tasks_whole app at one second third Hardware c.in_ok-push_tasks.ensures.parts
          (λ n t there of. ap (λ (es : List ℕ). slice_index es n) second_pass
          ∙ left.others n t there (hardware_apart t of)))
          (tasks_whole app at two third fourth Software c.in_ok-push_tasks-2.ensures.parts
          (λ n t there of. ap (λ (es : List ℕ). slice_index es n) second_pass))
          (levels_whole app at c.in_ok-code-2.field-0.items fourth fifth c.in_ok-code-2.ensures.entries
          c.in_ok-code-2.ensures.parts (λ p. refl))
          (c.in_ok-code-3.ensures.part at refl);
      short = omega (arith, all.1, all_code app, kinds_sum app app.tasks);
    }
