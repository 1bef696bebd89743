use Rattle.std.proofs.Common.{◌≡◌, ◌<◌, ◌≤◌, Some, ap, ◌∙◌, refl, arith, rules, length, length-set, slice_get}
use Rattle.std.specs.BTreeMap.{get}
use Rattle.std.specs.Ordering.{nat_cmp}
use Rattle.rt_judge.specs.Inside.Tables.{found_by}
use Rattle.rt_judge.proofs.Tables.{row_here, row_apart, row_past, one_fewer, is_apart}
use Rattle.rt_judge.proofs.table.NestingTable.put.Goals as goal

pub returns-then-index-len : goal.returns-then-index-len
returns-then-index-len c =
    let rows = c.args.self.now.rows.items in
    let at = c.args.address in
    let row = Some c.args.nesting in
    let outside = c.args.self.now.outside in
    let long : c.len.result ≡ length rows = search rules in
    let within : at < length rows = omega (arith, long) in
    record {
      here = ap (λ o. found_by o (get nat_cmp outside at)) (row_here rows at row within);
      others = λ other apart. ap (λ o. found_by o (get nat_cmp outside other)) (row_apart rows at other row apart);
      size = length-set rows at row;
      fewer = λ _. one_fewer rows at c.args.nesting (get nat_cmp outside at) within c.requires;
      outside = λ past. absurd (omega (arith, past, within));
    }

pub returns-in_ok-insert : goal.returns-in_ok-insert
returns-in_ok-insert c =
    let rows = c.args.self.now.rows.items in
    let at = c.args.address in
    let long : c.len.result ≡ length rows = search rules in
    let past : length rows ≤ at = omega (arith, long) in
    let updates = c.in_ok-insert.ensures.updates in
    record {
      here = ap (λ row. found_by row (get nat_cmp c.insert.new.self at)) (row_past rows at past) ∙ updates.1;
      others = λ other apart. ap (found_by (slice_get rows other)) (updates.2 other (is_apart at other apart));
      size = refl;
      fewer = λ within. absurd (omega (arith, past, within));
      outside = λ _. refl;
    }
