use Rattle.rt_gen_queue.proofs.Vocabulary.{AllByRecursion, IsNameable, Line, List, Made, ap, app_of, arith, drop}
use Rattle.rt_gen_queue.proofs.Vocabulary.{drop_at, length, length-append, names_of, next_address, subst, sym, take}
use Rattle.rt_gen_queue.proofs.Vocabulary.{take_at, ℕ, ◌++◌, ◌+◌, ◌∙◌, ◌≡◌}
use Rattle.rt_gen_queue.proofs.Named.{dispatcher_named}
use Rattle.rt_gen_disp.proofs.{Nameable.dispatcher_lines_named, Sizes.dispatcher_short}
use Rattle.rt_gen_disp.proofs.dispatcher.gen_dispatcher.Goals as goal
use Rattle.rt_gen_disp.specs.Code.{dispatcher_code}

pub returns : goal.returns
returns c =
    let app = app_of c.args.plan.now.app.now in
    let old : List Line = c.args.code.now.items in
    let new : List Line = c.extend_from_slice.new.self.items in
    let entry : ℕ = c.in_ok-entry.entry in
    let own : List Line = dispatcher_code app c.args.level entry in
    let begins : entry ≡ length old =
    c.in_ok-entry.ensures.entry ∙ ap (λ (l : List Line). length l) c.deref.ensures.value in
    let none : entry + 0 ≡ entry = omega arith in
    let made : List Line → Made = λ ls. record { entry = entry; lines = ls } in
    let behind_none : Made → Made =
    λ m. record m { lines = m.lines ++ dispatcher_code app c.args.level (next_address m) } in
    let generated = c.in_ok-generate.ensures.lines ∙ ap behind_none c.new-lines.ensures
    ∙ ap (λ (at : ℕ). made (dispatcher_code app c.args.level at)) none in
    let is : new ≡ old ++ own =
    c.in_ok-extend_from_slice.ensures.items
    ∙ ap (λ (ls : List Line). old ++ ls) (c.as_slice.ensures ∙ ap (λ (m : Made). m.lines) generated) in
    let behind : drop entry new ≡ own = ap (drop entry) is ∙ drop_at old own entry (sym begins) in
    let named = dispatcher_named app c.args.level c.requires.accepted c.requires.software in
    record {
      entry = begins;
      kept = ap (take entry) is ∙ take_at old own entry (sym begins);
      lines = behind;
      names = subst (AllByRecursion (IsNameable (names_of app))) (sym behind)
          (dispatcher_lines_named app c.args.level named entry);
      size = omega (
        arith,
        ap (λ (ls : List Line). length ls) is,
        length-append old own,
        dispatcher_short app c.args.level entry c.requires.accepted.limits.tasks,
      );
      left = tt;
    }
