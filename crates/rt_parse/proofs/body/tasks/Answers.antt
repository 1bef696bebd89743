use Rattle.std.proofs.Common.{◌≡◌, ◌++◌, ℕ, true, length, codes, map, List, [], ◌∷◌, Ok, sym, ◌∙◌, arith, refl}
use Rattle.std.proofs.lemmas.Result.{err_from_is_err_and}
use Rattle.std.proofs.lemmas.List.{map_push, length-map}
use Rattle.rt_lex.specs.Token.{Token, is_this_word}
use Rattle.rt_ast.specs.Tree.{Task}
use Rattle.rt_ast.specs.View.{task_of}
use Rattle.rt_parse.specs.Inside.Reading.{Stops, begins_with}
use Rattle.rt_parse.specs.Inside.ReadingList.{adds_at}
use Rattle.rt_parse.specs.declared.stop.Stop.{Stop}
use Rattle.rt_parse.specs.Inside.ReadingBodies.{task_at}
use Rattle.rt_parse.proofs.Loops.{goes_on, stops, ended}
use Rattle.rt_parse.proofs.Numbers.{still_stops}
use Rattle.rt_parse.proofs.Lists.{shorter_adds}
use Rattle.rt_parse.proofs.ShorterDeclaration.{shorter_task}
use Rattle.rt_parse.proofs.body.tasks.Goals as goal

got : (xs : List Task) (n : ℕ) (rest : List Token) (x : Task) (behind : List Token)
    → begins_with (is_this_word (codes "task")) rest ≡ true → n ≡ length xs → task_at n rest ≡ Ok (x, behind)
    → adds_at task_at xs rest ≡ Ok (xs ++ x ∷ [], behind)
unfolding adds_at
got xs n [] x behind open_ count e = absurd cc
got xs n (t ∷ rest) x behind open_ count e = rw (sym count, e) refl

stopped : (xs : List Task) (n : ℕ) (rest : List Token) (why : Stop) → begins_with (is_this_word (codes "task")) rest
    ≡ true → n ≡ length xs → Stops why (task_at n rest) → Stops why (adds_at task_at xs rest)
unfolding adds_at
stopped xs n [] why open_ count h = absurd cc
stopped xs n (t ∷ rest) why open_ count h = rw (sym count) (still_stops why (task_at n (t ∷ rest)) _ h)

pub returns-in_err-one : goal.returns-in_err-one
returns-in_err-one c =
    let p = err_from_is_err_and c.from_residual.result c.from_residual.ensures.1 in
    let count : c.len.result ≡ length (map task_of c.loop-alloc.tasks.items) =
    omega (arith, c.loop-alloc.tasks.ok.0, c.len.ensures, length-map c.loop-alloc.tasks.items task_of) in
    let open_ = sym c.begins_word.ensures ∙ c.loop-alloc-test.true in
    rw (p.1, p.2) (stops (is_this_word (codes "task")) (adds_at task_at) (map task_of c.loop-alloc.tasks.items)
    c.loop-alloc.rest [] c.args.tokens c.in_err-one.field-0.0
    open_ (stopped (map task_of c.loop-alloc.tasks.items) c.len.result c.loop-alloc.rest c.in_err-one.field-0.0 open_
    count c.in_err-one.ensures) c.loop-alloc.invariant)

pub loop-alloc-smaller : goal.loop-alloc-smaller
loop-alloc-smaller c =
    let count : c.len.result ≡ length (map task_of c.loop-alloc.tasks.items) =
    omega (arith, c.loop-alloc.tasks.ok.0, c.len.ensures, length-map c.loop-alloc.tasks.items task_of) in
    let open_ = sym c.begins_word.ensures ∙ c.loop-alloc-test.true in
    shorter_adds task_at shorter_task (map task_of c.loop-alloc.tasks.items) c.loop-alloc.rest
    (map task_of c.loop-alloc.tasks.items ++ task_of c.in_ok-one.one ∷ []) c.in_ok-one.behind
    (got (map task_of c.loop-alloc.tasks.items) c.len.result c.loop-alloc.rest (task_of c.in_ok-one.one)
    c.in_ok-one.behind open_ count c.in_ok-one.ensures)

pub loop-alloc-preserved : goal.loop-alloc-preserved
loop-alloc-preserved c =
    let count : c.len.result ≡ length (map task_of c.loop-alloc.tasks.items) =
    omega (arith, c.loop-alloc.tasks.ok.0, c.len.ensures, length-map c.loop-alloc.tasks.items task_of) in
    let open_ = sym c.begins_word.ensures ∙ c.loop-alloc-test.true in
    let e : map task_of c.push.new.self.items ≡ map task_of c.loop-alloc.tasks.items ++ task_of c.in_ok-one.one ∷ [] =
    rw c.in_ok-push.ensures.items (map_push _ c.loop-alloc.tasks.items c.in_ok-one.one) in
    rw e (goes_on (is_this_word (codes "task")) (adds_at task_at) (map task_of c.loop-alloc.tasks.items)
    c.loop-alloc.rest [] c.args.tokens (map task_of c.loop-alloc.tasks.items ++ task_of c.in_ok-one.one ∷ [])
    c.in_ok-one.behind
    (shorter_adds task_at shorter_task (map task_of c.loop-alloc.tasks.items)) open_
    (got (map task_of c.loop-alloc.tasks.items) c.len.result c.loop-alloc.rest (task_of c.in_ok-one.one)
    c.in_ok-one.behind open_ count c.in_ok-one.ensures) c.loop-alloc.invariant)

pub returns : goal.returns
returns c = ended (is_this_word (codes "task")) (adds_at task_at) (map task_of c.loop-alloc.tasks.items)
    c.loop-alloc.rest [] c.args.tokens (sym c.begins_word.ensures ∙ c.loop-alloc-test.false) c.loop-alloc.invariant
