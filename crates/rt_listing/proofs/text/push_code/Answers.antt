use Rattle.std.proofs.Common.{arith}
use Rattle.std.proofs.lemmas.List.{take_all}
use Rattle.std.proofs.lemmas.Grind.{common_steps}
use Rattle.rt_listing.specs.Short.{HasShortInstr, HasShortNote, HasWordInstr, HasLevelNote}
use Rattle.rt_listing.proofs.Short.{one_more}
use Rattle.rt_listing.proofs.text.push_code.Goals as goal

pub loop-address-preserved : goal.loop-address-preserved
loop-address-preserved c =
    let lines = c.args.code.now in
    let line = c.index-code-address in
    record {
      text = grind (arith, common_steps);
      instrs = one_more HasShortInstr lines _ line.result (omega arith) line.is c.loop-address.invariant.instrs
          c.push_line.ensures.instr_short;
      notes = one_more HasShortNote lines _ line.result (omega arith) line.is c.loop-address.invariant.notes
          c.push_line.ensures.note_short;
      words = one_more HasWordInstr lines _ line.result (omega arith) line.is c.loop-address.invariant.words
          c.push_line.ensures.instr_words;
      levels = one_more HasLevelNote lines _ line.result (omega arith) line.is c.loop-address.invariant.levels
          c.push_line.ensures.note_level;
    }

pub returns-clause-instrs_short : goal.returns-clause-instrs_short
returns-clause-instrs_short c = rw (take_all c.loop-address.address c.args.code.now (omega arith)) at
    c.loop-address.invariant.instrs

pub returns-clause-notes_short : goal.returns-clause-notes_short
returns-clause-notes_short c = rw (take_all c.loop-address.address c.args.code.now (omega arith)) at
    c.loop-address.invariant.notes

pub returns-clause-instrs_words : goal.returns-clause-instrs_words
returns-clause-instrs_words c = rw (take_all c.loop-address.address c.args.code.now (omega arith)) at
    c.loop-address.invariant.words

pub returns-clause-notes_levels : goal.returns-clause-notes_levels
returns-clause-notes_levels c = rw (take_all c.loop-address.address c.args.code.now (omega arith)) at
    c.loop-address.invariant.levels
