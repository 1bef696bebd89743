use Rattle.std.proofs.Common.{◌++◌, ℕ, List, length, refl, ap, sym, subst, arith, ◌+◌}
use Rattle.rt_outside.specs.Inside.Handed.{HoldsLast, IsUnended, LeavesOf}
use Rattle.rt_outside.proofs.Handing.{line_goes, piece_comes, rest_held}
use Rattle.rt_outside.proofs.lines.give_piece.Goals as goal

pub loop-end-init : goal.loop-end-init
loop-end-init g c = record {
  leaves = λ text holds. piece_comes (g.L.LineSink.came c.args.sink.now) text c.args.held.now.items c.args.piece.now
      c.args.count holds;
  unended = c.requires.holds.1.unended;
  few = omega arith;
}

pub give-requires : goal.give-requires
give-requires g c =
    let at = c.loop-end.invariant.leaves c.requires.holds.0 c.requires.holds.1 in
    (at.before, omega (arith, at.number_is), at.are_out)

pub loop-end-preserved : goal.loop-end-preserved
loop-end-preserved g c =
    let none = c.in_ok-give.ensures.held in
    record {
      leaves = λ text holds.
          subst (λ (held : List ℕ). LeavesOf (g.L.LineSink.came c.give.new.sink) (text ++ c.args.piece.now)
          (held ++ c.in-Some.behind.now) (c.loop-end.out + 1)) (sym none)
          (line_goes (g.L.LineSink.came c.loop-end.sink) (g.L.LineSink.came c.give.new.sink) (text ++ c.args.piece.now)
          c.loop-end.held.items c.loop-end.rest.now c.in-Some.end.now c.in-Some.behind.now c.loop-end.out
          (c.loop-end.invariant.leaves text holds) c.loop-end.invariant.unended c.in-Some.ensures.splits
          c.in_ok-give.ensures.came);
      unended = subst (λ (held : List ℕ). IsUnended held) (sym none) refl;
      few = omega (
        arith,
        c.loop-end.invariant.few,
        c.in-Some.ensures.shorter,
        ap (λ (held : List ℕ). length held) none,
      );
    }

pub returns-clause-holds : goal.returns-clause-holds
returns-clause-holds g c =
    λ text holds.
    subst (λ (held : List ℕ). HoldsLast (g.L.LineSink.came c.loop-end.sink) (text ++ c.args.piece.now) held
    c.loop-end.out) (sym c.in_ok-extend_from_slice.ensures.items)
    (rest_held (g.L.LineSink.came c.loop-end.sink) (text ++ c.args.piece.now) c.loop-end.held.items c.loop-end.rest.now
    c.loop-end.out
    (c.loop-end.invariant.leaves text holds) c.loop-end.invariant.unended c.in_default.ensures.splits)
