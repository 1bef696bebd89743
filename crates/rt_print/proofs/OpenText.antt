-- Options one after the other, and options in parentheses.
use Rattle.std.proofs.Common.{◌≡◌, ℕ, Bool, true, false, ◌||◌, List, [], ◌∷◌, ◌++◌, Result, OnOk, codes, refl, sym, ap}
use Rattle.std.proofs.Common.{◌∙◌, append_assoc, append-nil}
use Rattle.rt_lemmas.proofs.Bools.{or_false, or_true, or_regrouped}
use Rattle.rt_lemmas.proofs.Results.{on_ok_weaker}
use Rattle.rt_ast.specs.CanonicalExpression.{further}
use Rattle.rt_ast.specs.CanonicalOptions.{options_text}
use Rattle.rt_print.specs.Opened.{has_any, opening_text, opened_text, closing_text}

pub one_opened : (opened : Bool) (o0 o1 o2 o3 w x : List ℕ) (os : List (List ℕ)) → os ≡ (w ++ x) ∷ [] → o1 ≡ o0
    ++ opening_text opened → o2 ≡ o1 ++ w → o3 ≡ o2 ++ x → o3 ≡ o0 ++ opened_text opened os
one_opened opened o0 o1 o2 o3 w x os is e1 e2 e3 =
    e3 ∙ ap (λ (t : List ℕ). t ++ x) (e2 ∙ ap (λ (t : List ℕ). t ++ w) e1)
    ∙ append_assoc (o0 ++ opening_text opened) w x ∙ append_assoc o0 (opening_text opened) (w ++ x)
    ∙ ap (λ (t : List ℕ). o0 ++ t) (sym (append-nil (opening_text opened ++ (w ++ x))))
    ∙ ap (λ (xs : List (List ℕ)). o0 ++ opened_text opened xs) (sym is)

opened_append : (opened : Bool) (xs ys : List (List ℕ)) → opened_text opened (xs ++ ys) ≡ opened_text opened xs
    ++ opened_text (opened || has_any xs) ys
opened_append opened [] ys = ap (λ (b : Bool). opened_text b ys) (sym (or_false opened))
opened_append opened (x ∷ xs) ys =
    ap (λ (t : List ℕ). opening_text opened ++ x ++ t) (opened_append true xs ys)
    ∙ sym (append_assoc (opening_text opened ++ x) (opened_text true xs) (opened_text true ys))
    ∙ ap (λ (b : Bool). (opening_text opened ++ x ++ opened_text true xs) ++ opened_text b ys) (sym (or_true opened))

any_append : (xs ys : List (List ℕ)) → has_any (xs ++ ys) ≡ (has_any xs || has_any ys)
any_append [] ys = refl
any_append (x ∷ xs) ys = refl

further_opened : (os : List (List ℕ)) → opened_text true os ≡ further (λ text. text) os
further_opened [] = refl
further_opened (o ∷ os) = ap (λ (t : List ℕ). 44 ∷ 32 ∷ (o ++ t)) (further_opened os)

pub options_are : (os : List (List ℕ)) → opened_text false os ++ closing_text (has_any os) ≡ options_text os
options_are [] = refl
options_are (o ∷ os) = ap (λ (t : List ℕ). 40 ∷ ((o ++ t) ++ codes ")")) (further_opened os)

-- what is left of options, of which some come here
abbrev left : Bool → List (List ℕ) → List ℕ
left opened os = opened_text opened os ++ closing_text (opened || has_any os)

left_append : (opened : Bool) (xs ys : List (List ℕ)) → left opened (xs ++ ys) ≡ opened_text opened xs
    ++ left (opened || has_any xs) ys
left_append opened xs ys =
    ap (λ (t : List ℕ). t ++ closing_text (opened || has_any (xs ++ ys))) (opened_append opened xs ys)
    ∙ ap (λ (b : Bool). (opened_text opened xs ++ opened_text (opened || has_any xs) ys) ++ closing_text b)
    (ap (λ (b : Bool). opened || b) (any_append xs ys) ∙ or_regrouped opened (has_any xs) (has_any ys))
    ∙ append_assoc (opened_text opened xs) (opened_text (opened || has_any xs) ys)
    (closing_text ((opened || has_any xs) || has_any ys))

-- one more
step : (opened now : Bool) (o0 o1 : List ℕ) (xs ys : List (List ℕ)) → o1 ≡ o0 ++ opened_text opened xs → now
    ≡ (opened || has_any xs) → o1 ++ left now ys ≡ o0 ++ left opened (xs ++ ys)
step opened now o0 o1 xs ys e a =
    ap (λ (t : List ℕ). t ++ left now ys) e ∙ append_assoc o0 (opened_text opened xs) (left now ys)
    ∙ ap (λ (b : Bool). o0 ++ (opened_text opened xs ++ left b ys)) a
    ∙ ap (λ (t : List ℕ). o0 ++ t) (sym (left_append opened xs ys))

pub options_of_task : {A E : Type 0} (r : Result A E) (bound before opened : Bool) (o0 o1 o2 o3 o4 : List ℕ)
    (b p c rest : List (List ℕ)) → o1 ≡ o0 ++ opened_text false b → bound ≡ (false || has_any b)
    → o2 ≡ o1 ++ opened_text bound p → before ≡ (bound || has_any p) → o3 ≡ o2 ++ opened_text before c → opened
    ≡ (before || has_any c)
    → OnOk r (o4 ≡ o3 ++ (opened_text opened rest ++ closing_text (opened || has_any rest)))
    → OnOk r (o4 ≡ o0 ++ options_text (((b ++ p) ++ c) ++ rest))
options_of_task r bound before opened o0 o1 o2 o3 o4 b p c rest e1 a1 e2 a2 e3 a3 h =
    on_ok_weaker r _ _ (λ k. k ∙ step before opened o2 o3 c rest e3 a3 ∙ step bound before o1 o2 p (c ++ rest) e2 a2
    ∙ step false bound o0 o1 b (p ++ (c ++ rest)) e1 a1
    ∙ ap (λ (os : List (List ℕ)). o0 ++ left false os) (sym (append_assoc b p (c ++ rest))
    ∙ sym (append_assoc (b ++ p) c rest)) ∙ ap (λ (t : List ℕ). o0 ++ t) (options_are (((b ++ p) ++ c) ++ rest))) h
