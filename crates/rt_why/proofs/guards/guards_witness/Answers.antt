use Rattle.std.proofs.Common.{◌≡◌, true, List, Option, sym, subst}
use Rattle.std.specs.List.{list_all}
use Rattle.rt_judge.specs.Inside.Touching.{is_row_guarded}
use Rattle.rt_judge.specs.declared.touching.Touching.{Touching}
use Rattle.rt_judge.proofs.Verdicts.{guards}
use Rattle.rt_why.specs.Inside.Rows.{IsUnguardedRow}
use Rattle.rt_why.proofs.Unguarding.{all_are_there, unguarded_at, all_guarded}
use Rattle.rt_why.proofs.guards.guards_witness.Goals as goal

pub cell_witness-requires-clause-stored : goal.cell_witness-requires-clause-stored
cell_witness-requires-clause-stored c =
    let cell = c.in-Some.cell in
    let there : IsUnguardedRow c.args.findings.now.cells.rows.items cell = subst (λ (rows : List (Option Touching)).
    IsUnguardedRow rows cell) c.deref.ensures.value (unguarded_at c.deref.result.now cell (sym c.in-Some.ensures)) in
    (all_are_there c.args.image.now c.args.findings.now c.requires.looked cell there).stored

pub cell_witness-requires-clause-touched : goal.cell_witness-requires-clause-touched
cell_witness-requires-clause-touched c =
    let cell = c.in-Some.cell in
    let there : IsUnguardedRow c.args.findings.now.cells.rows.items cell = subst (λ (rows : List (Option Touching)).
    IsUnguardedRow rows cell) c.deref.ensures.value (unguarded_at c.deref.result.now cell (sym c.in-Some.ensures)) in
    (all_are_there c.args.image.now c.args.findings.now c.requires.looked cell there).touched

pub cell_witness-requires-clause-differ : goal.cell_witness-requires-clause-differ
cell_witness-requires-clause-differ c =
    let cell = c.in-Some.cell in
    let there : IsUnguardedRow c.args.findings.now.cells.rows.items cell = subst (λ (rows : List (Option Touching)).
    IsUnguardedRow rows cell) c.deref.ensures.value (unguarded_at c.deref.result.now cell (sym c.in-Some.ensures)) in
    (all_are_there c.args.image.now c.args.findings.now c.requires.looked cell there).differ

pub cell_witness-requires-clause-unguarded : goal.cell_witness-requires-clause-unguarded
cell_witness-requires-clause-unguarded c =
    let cell = c.in-Some.cell in
    let there : IsUnguardedRow c.args.findings.now.cells.rows.items cell = subst (λ (rows : List (Option Touching)).
    IsUnguardedRow rows cell) c.deref.ensures.value (unguarded_at c.deref.result.now cell (sym c.in-Some.ensures)) in
    (all_are_there c.args.image.now c.args.findings.now c.requires.looked cell there).outside

pub unreachable-requires : goal.unreachable-requires
unreachable-requires c =
    let f = c.args.findings.now in
    let all : list_all is_row_guarded f.cells.rows.items ≡ true = subst (λ (rows : List (Option Touching)).
    list_all is_row_guarded rows ≡ true) c.deref.ensures.value (all_guarded c.deref.result.now
    (sym c.in-None.ensures)) in
    c.requires.broken (guards c.args.image.now f c.requires.looked c.requires.operates all)
