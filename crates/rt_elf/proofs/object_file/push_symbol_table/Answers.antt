use Rattle.std.proofs.Common.{◌≡◌, arith, rules}
use Rattle.std.proofs.lemmas.Grind.{common_steps}
use Rattle.rt_elf.proofs.Entries.{object_table_parts}
use Rattle.rt_elf.proofs.object_file.push_symbol_table.Goals as goal

pub returns : goal.returns
returns c =
    let o = c.args.object.now in
    let marks_is : c.deref.result.now ≡ o.marks = first_of (search rules, grind (arith, common_steps), cc) in
    let symbols_is : c.deref-2.result.now ≡ o.symbols = first_of (search rules, grind (arith, common_steps), cc) in
    let wanted_is : c.deref-3.result.now ≡ o.wanted = first_of (search rules, grind (arith, common_steps), cc) in
    object_table_parts o c.args.out.now.items _ _ _ _ _ _ _ _ _ marks_is symbols_is wanted_is
    c.in_ok-push_words.ensures c.in_ok-next.ensures.entries c.in_ok-next.ensures.next
    c.in_ok-behind.ensures.entries c.in_ok-behind.ensures.next c.in_ok-push_symbols.ensures.entries
