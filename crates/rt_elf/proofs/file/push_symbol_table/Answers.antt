use Rattle.std.proofs.Common.{◌≡◌, arith, rules}
use Rattle.std.proofs.lemmas.Grind.{common_steps}
use Rattle.rt_elf.proofs.Entries.{table_parts}
use Rattle.rt_elf.proofs.file.push_symbol_table.Goals as goal

pub returns : goal.returns
returns c =
    let e = c.args.executable.now in
    let marks_is : c.deref.result.now ≡ e.marks = first_of (search rules, grind (arith, common_steps), cc) in
    let symbols_is : c.deref-2.result.now ≡ e.symbols = first_of (search rules, grind (arith, common_steps), cc) in
    table_parts e c.args.out.now.items _ _ _ _ _ _ marks_is symbols_is c.in_ok-push_words.ensures
    c.in_ok-next.ensures.entries c.in_ok-next.ensures.next c.in_ok-push_symbols.ensures.entries
