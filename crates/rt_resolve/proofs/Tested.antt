-- Tests of lists that are given in another way, and the faults of names that are declared twice.
use Rattle.std.proofs.Common.{◌≡◌, ℕ, ◌+◌, ◌<◌, Bool, ◌++◌, List, [], ◌∷◌, map, reverse, take, drop, get_or, length, ap}
use Rattle.std.proofs.Common.{sym, ◌∙◌, Bor, append_assoc}
use Rattle.std.specs.List.{list_any}
use Rattle.std.proofs.lemmas.List.{take_more, drop_more, map-append, reverse-append}
use Rattle.rt_lemmas.proofs.Lists.{list_any-reverse}
use Rattle.rt_ids.specs.declared.rule.Rule.TheVariants as rule
use Rattle.rt_ast.specs.declared.ident.Ident.{Ident}
use Rattle.rt_app.specs.declared.violation.Violation.{Violation}
use Rattle.rt_app.specs.Violation.{when}
use Rattle.rt_resolve.specs.Scope.{is_named}
use Rattle.rt_resolve.specs.NameRules.{declared_twice}

abbrev pub idents : List (Bor Ident) → List Ident
idents xs = map (λ x. x.now) xs

idents_more : (all : List (Bor Ident)) (i : ℕ) (d : Bor Ident) → i < length all → d ≡ get_or all i d
    → reverse (idents (take (i + 1) all)) ≡ d.now ∷ reverse (idents (take i all))
idents_more all i d h is =
    ap (λ xs. reverse (idents xs)) (take_more all i d h) ∙ ap reverse
    (map-append (λ (x : Bor Ident). x.now) (take i all) (get_or all i d ∷ []))
    ∙ reverse-append (idents (take i all)) ((get_or all i d).now ∷ [])
    ∙ ap (λ (x : Bor Ident). x.now ∷ reverse (idents (take i all))) (sym is)

-- the faults of one name more
pub declared_more : (all : List (Bor Ident)) (i : ℕ) (d : Bor Ident) (old new whole : List Violation) (b : Bool)
    → i < length all → d ≡ get_or all i d
    → b ≡ list_any (is_named d.now.name) (idents (take i all)) → new ≡ old ++ when b rule.DeclaredTwice d.now.at
    → old ++ declared_twice (reverse (idents (take i all))) (idents (drop i all)) ≡ whole
    → new ++ declared_twice (reverse (idents (take (i + 1) all))) (idents (drop (i + 1) all)) ≡ whole
declared_more all i d old new whole b h is m e f =
    let front = idents_more all i d h is in
    let rest : drop i all ≡ d ∷ drop (i + 1) all = drop_more all i d h ∙ ap (λ x. x ∷ drop (i + 1) all) (sym is) in
    let twice = list_any-reverse (is_named d.now.name) (idents (take i all)) in
    rw (e, front, append_assoc, m, ← twice) (rw rest at f)
