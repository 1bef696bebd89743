use Rattle.rt_gen_queue.proofs.Vocabulary.{arith, ℕ, ◌+◌, ◌-◌, ◌≡◌}
use Rattle.rt_gen_queue.proofs.Placing.{four_appended}
use Rattle.rt_gen_queue.proofs.spawn.append_spawn.Goals as goal

pub returns : goal.returns
returns c =
    let full : ℕ = c.args.entry + (26 + c.args.target.now.args) in
    let first : c.in_ok-end.end - 2 ≡ full = omega (arith, c.in_ok-end.ensures.end) in
    let last : c.in_ok-end.end ≡ full + 2 = omega (arith, c.in_ok-end.ensures.end) in
    rw (
      c.in_ok-append-2.ensures.lines,
      c.in_ok-fill.ensures.lines,
      c.in_ok-append.ensures.lines,
      c.end_lines.ensures,
      c.ready.ensures,
      c.place.ensures,
      first,
      last,
      four_appended,
    ) at c.append-3.ensures.lines
