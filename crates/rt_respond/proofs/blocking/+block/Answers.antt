use Rattle.std.proofs.Common.{if◌then◌else◌, nat_le, sym, ap, ◌∙◌, take, arith}
use Rattle.std.proofs.lemmas.Bool.{le-leb, leb-true}
use Rattle.rt_lemmas.proofs.Bools.{not_so}
use Rattle.rt_app.specs.View.{block_of, app_of}
use Rattle.rt_frames.proofs.Views.{branch_at, repeat_at, locked_at}
use Rattle.rt_respond.specs.Number.{greater_of}
use Rattle.rt_respond.specs.Inside.Works.{table_asks}
use Rattle.rt_respond.specs.Inside.Holding.{block_most, held_section, held_statement, held_block}
use Rattle.rt_respond.proofs.Holding.{block_most_more}
use Rattle.rt_respond.proofs.blocking.+block.Goals as goal

pub block_holds-loop-stmt-preserved : goal.block_holds-loop-stmt-preserved
block_holds-loop-stmt-preserved t c =
    let held = c.args.held.now in
    let app = app_of c.args.app.now in
    let asks = table_asks held.all.handlers.now held.all.works.now in
    c.greater_of-most.ensures ∙ ap (λ a. greater_of a c.statement_holds.result) c.loop-stmt.invariant
    ∙ ap (greater_of (block_most app held.counted asks held.ceilings.now held.measure.now held.this.now.priority
    (block_of (take c.loop-stmt.stmt-index c.args.stmts.now)))) c.statement_holds.ensures
    ∙ sym (block_most_more app held.counted asks held.ceilings.now held.measure.now held.this.now.priority
    c.args.stmts.now
    c.loop-stmt.stmt-index c.stmt-item.result c.loop-stmt-test.true c.stmt-item.is)

pub statement_holds-returns-in-Branch : goal.statement_holds-returns-in-Branch
statement_holds-returns-in-Branch t c =
    let held = c.args.held.now in
    let app = app_of c.args.app.now in
    let asks = table_asks held.all.handlers.now held.all.works.now in
    let is = branch_at c.args.stmt.now c.in-Branch._condition c.in-Branch.first c.in-Branch.second c.deref.result.now
    c.deref-in-Branch.result.now c.in-Branch.is c.deref.ensures.value c.deref-in-Branch.ensures.value in
    rw is (c.greater_of.ensures ∙ ap (λ a. greater_of a c.block_holds-in-Branch.result) c.block_holds.ensures
    ∙ ap (greater_of (block_most app held.counted asks held.ceilings.now held.measure.now held.this.now.priority
    (block_of c.deref.result.now))) c.block_holds-in-Branch.ensures)

pub statement_holds-returns-in-Repeat : goal.statement_holds-returns-in-Repeat
statement_holds-returns-in-Repeat t c =
    let is = repeat_at c.args.stmt.now c.in-Repeat._variable c.in-Repeat._first c.in-Repeat._last c.in-Repeat.turn
    c.deref-in-Repeat.result.now c.in-Repeat.is c.deref-in-Repeat.ensures.value in
    rw is c.block_holds-in-Repeat.ensures

pub statement_holds-section_holds-requires : goal.statement_holds-section_holds-requires
statement_holds-section_holds-requires t c = (
  c.in-Locked.resource,
  c.in-Locked._at,
  locked_at c.args.stmt.now c.in-Locked.resource c.in-Locked.inner c.in-Locked._at
      c.deref-then-held-shared_ceiling.result.now c.in-Locked.is c.deref-then-held-shared_ceiling.ensures.value,
)

pub statement_holds-returns-then-held-shared_ceiling : goal.statement_holds-returns-then-held-shared_ceiling
statement_holds-returns-then-held-shared_ceiling t c =
    let held = c.args.held.now in
    let inner = block_of c.deref-then-held-shared_ceiling.result.now in
    let is = locked_at c.args.stmt.now c.in-Locked.resource c.in-Locked.inner c.in-Locked._at
    c.deref-then-held-shared_ceiling.result.now c.in-Locked.is c.deref-then-held-shared_ceiling.ensures.value in
    c.section_holds.ensures
    ∙ sym (ap (held_statement (app_of c.args.app.now) held) is
    ∙ ap (λ b. if b then held_section (app_of c.args.app.now) held inner
    else held_block (app_of c.args.app.now) held inner)
    (ap (nat_le held.this.now.priority) (sym c.shared_ceiling.ensures)
    ∙ le-leb held.this.now.priority c.shared_ceiling.result c.if-held-shared_ceiling.true))

pub statement_holds-returns-else-held-shared_ceiling : goal.statement_holds-returns-else-held-shared_ceiling
statement_holds-returns-else-held-shared_ceiling t c =
    let held = c.args.held.now in
    let inner = block_of c.deref-else-held-shared_ceiling.result.now in
    let is = locked_at c.args.stmt.now c.in-Locked.resource c.in-Locked.inner c.in-Locked._at
    c.deref-else-held-shared_ceiling.result.now c.in-Locked.is c.deref-else-held-shared_ceiling.ensures.value in
    let below = c.if-held-shared_ceiling.false in
    c.block_holds-else-held-shared_ceiling.ensures
    ∙ sym (ap (held_statement (app_of c.args.app.now) held) is
    ∙ ap (λ b. if b then held_section (app_of c.args.app.now) held inner
    else held_block (app_of c.args.app.now) held inner)
    (ap (nat_le held.this.now.priority) (sym c.shared_ceiling.ensures)
    ∙ not_so (nat_le held.this.now.priority c.shared_ceiling.result)
    (λ test. (let reach = leb-true held.this.now.priority c.shared_ceiling.result test in
    omega (arith, reach, below)))))
