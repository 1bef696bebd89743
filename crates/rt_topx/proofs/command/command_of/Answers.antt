use Rattle.rt_top.proofs.CommandWords.{with_verb}
use Rattle.rt_topx.proofs.command.command_of.Goals as goal

pub returns-in-run-clause-some : goal.returns-in-run-clause-some
returns-in-run-clause-some c = (_, _, _, with_verb 3 _ c.in-run.is-run c.in-run.len_at_least c.in-run.len_below)

pub returns-in-audit-clause-some : goal.returns-in-audit-clause-some
returns-in-audit-clause-some c =
    (_, _, _, with_verb 3 _ c.in-audit.is-audit c.in-audit.len_at_least c.in-audit.len_below)

pub returns-in-live-clause-some : goal.returns-in-live-clause-some
returns-in-live-clause-some c = (_, _, _, with_verb 3 _ c.in-live.is-live c.in-live.len_at_least c.in-live.len_below)

pub returns-in-native-clause-some : goal.returns-in-native-clause-some
returns-in-native-clause-some c =
    (_, _, with_verb 2 _ c.in-native.is-native c.in-native.len_at_least c.in-native.len_below)

pub returns-in-why-clause-some : goal.returns-in-why-clause-some
returns-in-why-clause-some c = (_, with_verb 1 _ c.in-why.is-why c.in-why.len_at_least c.in-why.len_below)

pub returns-in-cycles-clause-some : goal.returns-in-cycles-clause-some
returns-in-cycles-clause-some c =
    (_, with_verb 1 _ c.in-cycles.is-cycles c.in-cycles.len_at_least c.in-cycles.len_below)

pub returns-in-bounds-clause-some : goal.returns-in-bounds-clause-some
returns-in-bounds-clause-some c =
    (_, with_verb 1 _ c.in-bounds.is-bounds c.in-bounds.len_at_least c.in-bounds.len_below)

pub returns-in-bounds-2-clause-some : goal.returns-in-bounds-2-clause-some
returns-in-bounds-2-clause-some c =
    (_, _, with_verb 2 _ c.in-bounds-2.is-bounds c.in-bounds-2.len_at_least c.in-bounds-2.len_below)

pub returns-in-respond-clause-some : goal.returns-in-respond-clause-some
returns-in-respond-clause-some c =
    (_, _, with_verb 2 _ c.in-respond.is-respond c.in-respond.len_at_least c.in-respond.len_below)
