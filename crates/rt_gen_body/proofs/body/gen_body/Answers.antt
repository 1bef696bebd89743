use Rattle.rt_gen_queue.proofs.Vocabulary.{AllByRecursion, IsNameable, Line, List, ap, app_of, arith, drop, drop_at}
use Rattle.rt_gen_queue.proofs.Vocabulary.{length, length-append, names_of, subst, sym, take, take_at, ℕ}
use Rattle.rt_gen_queue.proofs.Vocabulary.{◌++◌, ◌+◌, ◌∙◌, ◌≡◌}
use Rattle.rt_gen_queue.proofs.Nameable.{nameable}
use Rattle.rt_gen_body.proofs.{Generated.generated_stands, Shapes.code_claimed, Shapes.code_formed, Shapes.code_short}
use Rattle.rt_gen_body.proofs.body.gen_body.Goals as goal
use Rattle.rt_gen_body.specs.{Form.HasForm, BodyCode.body_code}

pub returns : goal.returns
returns c =
    let app = app_of c.args.plan.now.app.now in
    let old : List Line = c.args.code.now.items in
    let entry : ℕ = c.in_ok-entry.entry in
    let code : List Line = body_code app c.args.id entry in
    let begins : entry ≡ length old =
    c.in_ok-entry.ensures.entry ∙ ap (λ (l : List Line). length l) c.deref.ensures.value in
    let none : entry + 0 ≡ entry = omega arith in
    let is : c.extend_from_slice.new.self.items ≡ old ++ code =
    rw (
      c.extend_from_slice.ensures.items,
      c.in_ok-extend_from_slice.was,
      c.as_slice.ensures,
      c.in_ok-generate.ensures,
      c.new-lines.ensures,
      none,
    ) in
    let behind : drop entry c.extend_from_slice.new.self.items ≡ code =
    ap (drop entry) is ∙ drop_at old code entry (sym begins) in
    record {
      entry = begins;
      kept = ap (take entry) is ∙ take_at old code entry (sym begins);
      lines = behind;
      names = subst (AllByRecursion (IsNameable (names_of app))) (sym behind)
          (nameable (names_of app) code (code_claimed app c.requires.accepted c.args.id entry));
      form = subst (HasForm app c.args.id entry) (sym behind) (code_formed app c.args.id entry);
      size = omega (
        arith,
        ap (λ (ls : List Line). length ls) is,
        length-append old code,
        code_short app c.requires.accepted c.args.id entry,
      );
      stands = rw (is, begins) (generated_stands c.requires.accepted old c.args.id c.requires.of_app);
      left = tt;
    }
