use Rattle.std.proofs.Common.{◌≡◌, ◌++◌, ◌∷◌, [], ℕ, List, Option, None, sym, subst, ◌∙◌, append_assoc, arith}
use Rattle.std.proofs.lemmas.Fmt.{decimal_digit}
use Rattle.rt_lemmas.proofs.Results.{on_ok_weaker}
use Rattle.rt_lines.specs.Table.{spaced_text}
use Rattle.rt_bounds.specs.Text.{wait_words}
use Rattle.rt_bounds.specs.declared.longest.Longest.{Longest}
use Rattle.rt_bounds.proofs.text.push_wait.Goals as goal

-- where nothing holds a priority off, it waits for 0 steps
no_wait : (out new : List ℕ) (longest : Option Longest) → longest ≡ None → new ≡ out ++ 32 ∷ 48 ∷ 10 ∷ []
    → new ≡ (out ++ spaced_text (wait_words longest)) ++ 10 ∷ []
no_wait out new longest none is =
    subst (λ (l : Option Longest). new ≡ (out ++ spaced_text (wait_words l)) ++ 10 ∷ []) (sym none)
    (subst (λ (d : List ℕ). new ≡ (out ++ spaced_text (d ∷ [])) ++ 10 ∷ []) (sym (decimal_digit 0 (omega arith)))
    (is ∙ sym (append_assoc out (32 ∷ 48 ∷ []) (10 ∷ []))))

pub returns-in-None : goal.returns-in-None
returns-in-None c = on_ok_weaker c.push_bytes.result _ _
    (no_wait c.args.out.now.items c.push_bytes.new.out.items c.args.longest c.in-None.is) c.push_bytes.ensures
