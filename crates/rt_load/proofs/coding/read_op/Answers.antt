use Rattle.std.proofs.Common.{rules, ◌≡◌, ◌∙◌, sym}
use Rattle.rt_lines.specs.Parts.{words_of}
use Rattle.rt_lines.specs.Table.{shape_at}
use Rattle.rt_listing.specs.Words.{op_row, ops}
use Rattle.rt_load.specs.Inside.Operand.{in_front}
use Rattle.rt_load.proofs.Ops.{op_found, op_missed}
use Rattle.rt_load.proofs.coding.read_op.Goals as goal

pub returns-in-Some : goal.returns-in-Some
returns-in-Some c =
    let names = c.args.names.now in
    let ws = in_front (words_of c.args.words) in
    let said : c.map.result ≡ shape_at (op_row c.in-Some.op).shape names ws = search rules in
    said ∙ sym (op_found names c.args.first.now ws ops c.in-Some.op (sym c.op_named.ensures ∙ c.in-Some.is))

pub returns-in-None : goal.returns-in-None
returns-in-None c = sym (op_missed c.args.names.now c.args.first.now (in_front (words_of c.args.words)) ops
    (sym c.op_named.ensures ∙ c.in-None.is))
