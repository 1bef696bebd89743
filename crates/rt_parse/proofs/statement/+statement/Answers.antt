use Rattle.std.proofs.Common.{◌≡◌, ℕ, suc, List, [], ◌∷◌, ◌++◌, map, sym, ap, ◌∙◌, arith, refl, Ok}
use Rattle.std.proofs.lemmas.Result.{err_from_is_err_and}
use Rattle.std.proofs.lemmas.List.{map_push}
use Rattle.rt_lex.specs.Token.{Token}
use Rattle.rt_ast.specs.Tree.{Statement}
use Rattle.rt_ast.specs.View.{statement_of}
use Rattle.rt_parse.specs.Inside.Reading.{Stops}
use Rattle.rt_parse.specs.declared.stop.Stop.{Stop}
use Rattle.rt_parse.specs.Inside.ReadingStatement.{one_more_at, statement_at, is_inside, block_at, inside_at, below_at}
use Rattle.rt_parse.specs.Inside.ReadingStatement.{braced_block_at}
use Rattle.rt_parse.proofs.Loops.{goes_on, stops, ended}
use Rattle.rt_parse.proofs.Numbers.{still_stops}
use Rattle.rt_parse.proofs.ShorterStatement.{shorter_one_more, shorter_block, shorter_inside}
use Rattle.rt_parse.proofs.statement.+statement.Goals as goal

block_suc : (left room : ℕ) (tokens : List Token) → block_at (suc left) room tokens
    ≡ braced_block_at (block_at left) (inside_at left) room tokens
unfolding block_at
block_suc left room tokens = refl

below_suc : (left room : ℕ) (tokens : List Token) → below_at (suc left) room tokens ≡ inside_at left room tokens
unfolding below_at
below_suc left room tokens = refl

pub below-returns-in-Some : goal.below-returns-in-Some
below-returns-in-Some t c =
    let e : c.args.left ≡ suc c.in-Some.fewer = omega (arith, c.in-Some.ensures.0, c.in-Some.ensures.1) in
    rw (ap (λ left. below_at left c.args.room c.args.tokens) e ∙ below_suc c.in-Some.fewer c.args.room c.args.tokens)
    c.inside.ensures

pub block-returns-in-Some : goal.block-returns-in-Some
block-returns-in-Some t c =
    let e : c.args.left ≡ suc c.in-Some.fewer = omega (arith, c.in-Some.ensures.0, c.in-Some.ensures.1) in
    rw (ap (λ left. block_at left c.args.room c.args.tokens) e ∙ block_suc c.in-Some.fewer c.args.room c.args.tokens)
    c.braced_block.ensures

-- one more statement after those so far, or what stops it
more : (left room room' : ℕ) (so_far : List Statement) (s : Statement) (rest behind : List Token)
    → statement_at (block_at left) (inside_at left) room rest ≡ Ok ((s, room'), behind)
    → one_more_at (block_at left) (inside_at left) (so_far, room) rest ≡ Ok ((so_far ++ s ∷ [], room'), behind)
unfolding one_more_at
more left room room' so_far s rest behind e = rw e refl

no_more : (left room : ℕ) (so_far : List Statement) (rest : List Token) (why : Stop)
    → Stops why (statement_at (block_at left) (inside_at left) room rest)
    → Stops why (one_more_at (block_at left) (inside_at left) (so_far, room) rest)
unfolding one_more_at
no_more left room so_far rest why h = still_stops why (statement_at (block_at left) (inside_at left) room rest) _ h

pub statements-returns-in_err-one : goal.statements-returns-in_err-one
statements-returns-in_err-one t c =
    let p = err_from_is_err_and c.from_residual.result c.from_residual.ensures.1 in
    rw (p.1, p.2) (stops is_inside (one_more_at (block_at c.args.left) (inside_at c.args.left))
    (map statement_of c.loop-alloc.statements.items, c.loop-alloc.room) c.loop-alloc.rest ([], c.args.first_room)
    c.args.tokens c.in_err-one.field-0.0
    (sym c.goes_past.ensures ∙ c.loop-alloc-test.true) (no_more c.args.left c.loop-alloc.room
    (map statement_of c.loop-alloc.statements.items) c.loop-alloc.rest c.in_err-one.field-0.0 c.in_err-one.ensures)
    c.loop-alloc.invariant)

pub statements-loop-alloc-smaller : goal.statements-loop-alloc-smaller
statements-loop-alloc-smaller t c =
    shorter_one_more (block_at c.args.left) (inside_at c.args.left) (shorter_block c.args.left)
    (shorter_inside c.args.left) (map statement_of c.loop-alloc.statements.items, c.loop-alloc.room)
    c.loop-alloc.rest (
      map statement_of c.loop-alloc.statements.items ++ statement_of c.in_ok-one.one ∷ [],
      c.in_ok-one.behind_room,
    ) c.in_ok-one.behind
    (more c.args.left c.loop-alloc.room c.in_ok-one.behind_room (map statement_of c.loop-alloc.statements.items)
    (statement_of c.in_ok-one.one) c.loop-alloc.rest c.in_ok-one.behind c.in_ok-one.ensures)

pub statements-loop-alloc-preserved : goal.statements-loop-alloc-preserved
statements-loop-alloc-preserved t c =
    let e : map statement_of c.push.new.self.items ≡ map statement_of c.loop-alloc.statements.items
    ++ statement_of c.in_ok-one.one ∷ [] = rw c.in_ok-push.ensures.items
    (map_push _ c.loop-alloc.statements.items c.in_ok-one.one) in
    rw e (goes_on is_inside (one_more_at (block_at c.args.left) (inside_at c.args.left))
    (map statement_of c.loop-alloc.statements.items, c.loop-alloc.room) c.loop-alloc.rest ([], c.args.first_room)
    c.args.tokens
    (map statement_of c.loop-alloc.statements.items ++ statement_of c.in_ok-one.one ∷ [], c.in_ok-one.behind_room)
    c.in_ok-one.behind
    (shorter_one_more (block_at c.args.left) (inside_at c.args.left) (shorter_block c.args.left)
    (shorter_inside c.args.left) (map statement_of c.loop-alloc.statements.items, c.loop-alloc.room))
    (sym c.goes_past.ensures ∙ c.loop-alloc-test.true)
    (more c.args.left c.loop-alloc.room c.in_ok-one.behind_room (map statement_of c.loop-alloc.statements.items)
    (statement_of c.in_ok-one.one) c.loop-alloc.rest c.in_ok-one.behind c.in_ok-one.ensures)
    c.loop-alloc.invariant)

pub statements-returns : goal.statements-returns
statements-returns t c =
    ended is_inside (one_more_at (block_at c.args.left) (inside_at c.args.left))
    (map statement_of c.loop-alloc.statements.items, c.loop-alloc.room) c.loop-alloc.rest ([], c.args.first_room)
    c.args.tokens (sym c.goes_past.ensures ∙ c.loop-alloc-test.false) c.loop-alloc.invariant
