use Rattle.rt_gen_queue.proofs.Vocabulary.{AllByRecursion, IsNameable, IsSome, Line, List, ap, app_of, arith, drop}
use Rattle.rt_gen_queue.proofs.Vocabulary.{drop_at, length, length-append, names_of, refl, subst, sym, take, take_at}
use Rattle.rt_gen_queue.proofs.Vocabulary.{◌++◌, ◌+◌, ◌∙◌, ◌≡◌}
use Rattle.rt_gen_queue.proofs.Nameable.{named_behind}
use Rattle.rt_gen_timer.proofs.Generated.{timer_claimed, timer_named, timer_short}
use Rattle.rt_gen_timer.proofs.timer.gen_timer.Goals as goal
use Rattle.rt_gen_timer.specs.TimerCode.{timer_code}

pub returns : goal.returns
returns c =
    let app = app_of c.args.plan.now.app.now in
    let old : List Line = c.args.code.now.items in
    let new : List Line = c.extend_from_slice.new.self.items in
    let code : List Line = timer_code app c.args.mono.priority c.in_ok-entry.entry in
    let entry : c.in_ok-entry.entry ≡ length old =
    c.in_ok-entry.ensures.entry ∙ ap (λ (l : List Line). length l) c.deref.ensures.value in
    let none : c.in_ok-entry.entry + 0 ≡ c.in_ok-entry.entry = omega arith in
    let some : IsSome c.args.plan.now.app.now.mono = subst (λ o. IsSome o) (sym c.requires.timed) refl in
    let is : new ≡ old ++ code =
    rw (
      c.extend_from_slice.ensures.items,
      c.in_ok-extend_from_slice.was,
      c.as_slice.ensures,
      c.in_ok-generate.ensures,
      c.new-lines.ensures,
      none,
    ) in
    record {
      entry = entry;
      kept = ap (take c.in_ok-entry.entry) is ∙ take_at old code c.in_ok-entry.entry (sym entry);
      lines = ap (drop c.in_ok-entry.entry) is ∙ drop_at old code c.in_ok-entry.entry (sym entry);
      names = subst (λ n. AllByRecursion (IsNameable (names_of app)) (drop n new)) (sym entry)
          (named_behind (names_of app) old new code is (timer_claimed app c.requires.accepted
          (timer_named app c.requires.accepted some) c.args.mono.priority c.in_ok-entry.entry));
      size = omega (
        arith,
        ap (λ (ls : List Line). length ls) is,
        length-append old code,
        timer_short app c.args.mono c.in_ok-entry.entry,
      );
      left = tt;
    }
