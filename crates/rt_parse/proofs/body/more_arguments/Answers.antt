use Rattle.std.proofs.Common.{◌≡◌, ◌++◌, ℕ, length, codes, List, [], ◌∷◌, Ok, sym, ◌∙◌, arith, refl}
use Rattle.std.proofs.lemmas.Result.{err_from_is_err_and}
use Rattle.rt_lex.specs.Token.{Token, is_this_sign}
use Rattle.rt_ast.specs.declared.ident.Ident.{Ident}
use Rattle.rt_parse.specs.Inside.Reading.{Stops}
use Rattle.rt_parse.specs.declared.stop.Stop.{Stop}
use Rattle.rt_parse.specs.Inside.ReadingBodies.{argument_at, one_argument_at}
use Rattle.rt_parse.proofs.Loops.{goes_on, stops, ended}
use Rattle.rt_parse.proofs.Numbers.{still_stops}
use Rattle.rt_parse.proofs.Options.{argument_is}
use Rattle.rt_parse.proofs.ShorterDeclaration.{shorter_argument}
use Rattle.rt_parse.proofs.body.more_arguments.Goals as goal

got : (xs : List Ident) (n : ℕ) (rest : List Token) (x : Ident) (behind : List Token) → n ≡ length xs
    → one_argument_at n rest ≡ Ok (x, behind) → argument_at xs rest ≡ Ok (xs ++ x ∷ [], behind)
got xs n rest x behind count e = argument_is xs rest ∙ rw (sym count, e) refl

stopped : (xs : List Ident) (n : ℕ) (rest : List Token) (why : Stop) → n ≡ length xs
    → Stops why (one_argument_at n rest) → Stops why (argument_at xs rest)
stopped xs n rest why count h = rw (argument_is xs rest, sym count) (still_stops why (one_argument_at n rest) _ h)

pub returns-in_err-one : goal.returns-in_err-one
returns-in_err-one c =
    let p = err_from_is_err_and c.from_residual-in_err-one.result c.from_residual-in_err-one.ensures.1 in
    let count : c.len.result ≡ length c.loop-alloc.arguments.items =
    omega (arith, c.loop-alloc.arguments.ok.0, c.len.ensures) in
    rw (p.1, p.2) (stops (is_this_sign (codes ",")) argument_at c.loop-alloc.arguments.items c.loop-alloc.rest
    (c.args.first ∷ []) c.args.tokens c.in_err-one.field-0.0
    (sym c.begins_sign.ensures ∙ c.loop-alloc-test.true)
    (stopped c.loop-alloc.arguments.items c.len.result c.loop-alloc.rest c.in_err-one.field-0.0 count
    c.in_err-one.ensures) c.loop-alloc.invariant)

pub loop-alloc-smaller : goal.loop-alloc-smaller
loop-alloc-smaller c =
    let count : c.len.result ≡ length c.loop-alloc.arguments.items =
    omega (arith, c.loop-alloc.arguments.ok.0, c.len.ensures) in
    shorter_argument c.loop-alloc.arguments.items c.loop-alloc.rest
    (c.loop-alloc.arguments.items ++ c.in_ok-one.one ∷ []) c.in_ok-one.behind
    (got c.loop-alloc.arguments.items c.len.result c.loop-alloc.rest c.in_ok-one.one c.in_ok-one.behind count
    c.in_ok-one.ensures)

pub loop-alloc-preserved : goal.loop-alloc-preserved
loop-alloc-preserved c =
    let count : c.len.result ≡ length c.loop-alloc.arguments.items =
    omega (arith, c.loop-alloc.arguments.ok.0, c.len.ensures) in
    rw c.in_ok-push-2.ensures.items (goes_on (is_this_sign (codes ",")) argument_at c.loop-alloc.arguments.items
    c.loop-alloc.rest (c.args.first ∷ []) c.args.tokens (c.loop-alloc.arguments.items ++ c.in_ok-one.one ∷ [])
    c.in_ok-one.behind
    (shorter_argument c.loop-alloc.arguments.items) (sym c.begins_sign.ensures ∙ c.loop-alloc-test.true)
    (got c.loop-alloc.arguments.items c.len.result c.loop-alloc.rest c.in_ok-one.one c.in_ok-one.behind count
    c.in_ok-one.ensures) c.loop-alloc.invariant)

pub returns : goal.returns
returns c = ended (is_this_sign (codes ",")) argument_at c.loop-alloc.arguments.items c.loop-alloc.rest
    (c.args.first ∷ []) c.args.tokens (sym c.begins_sign.ensures ∙ c.loop-alloc-test.false) c.loop-alloc.invariant
