use Rattle.std.proofs.Common.{◌≡◌, length, sym, ap, ◌∙◌, arith}
use Rattle.rt_given.specs.Given.{count_of}
use Rattle.rt_given.specs.Words.{words_asked}
use Rattle.rt_given.proofs.Sources.{words_long}
use Rattle.rt_live_inputs.proofs.Giving.{words_some}
use Rattle.rt_live_inputs.proofs.device.GivingDevice.give_line.Goals as goal

pub give_words-requires-clause-room : goal.give_words-requires-clause-room
give_words-requires-clause-room g c =
    let source = c.in-Some.source in
    let line = c.args.line.now in
    let many : length (words_asked line) ≡ count_of line =
    ap length (words_some line source (sym c.of.ensures ∙ c.in-Some.is)) ∙ words_long (count_of line) source in
    omega (arith, many, c.count.ensures, c.requires.room)

pub returns-clause-many : goal.returns-clause-many
returns-clause-many g c =
    let source = c.in-Some.source in
    let line = c.args.line.now in
    let many : length (words_asked line) ≡ count_of line =
    ap length (words_some line source (sym c.of.ensures ∙ c.in-Some.is)) ∙ words_long (count_of line) source in
    omega (arith, many, c.from.ensures, c.count-2.ensures)
