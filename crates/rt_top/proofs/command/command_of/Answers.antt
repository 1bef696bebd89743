use Rattle.rt_top.proofs.CommandWords.{with_verb, soak_named, soak_none}
use Rattle.rt_top.proofs.command.command_of.Goals as goal

pub returns-in-check-clause-some : goal.returns-in-check-clause-some
returns-in-check-clause-some c = (_, with_verb 1 _ c.in-check.is-check c.in-check.len_at_least c.in-check.len_below)

pub returns-in-fmt-clause-some : goal.returns-in-fmt-clause-some
returns-in-fmt-clause-some c = (_, with_verb 1 _ c.in-fmt.is-fmt c.in-fmt.len_at_least c.in-fmt.len_below)

pub returns-in-build-clause-some : goal.returns-in-build-clause-some
returns-in-build-clause-some c = (_, with_verb 1 _ c.in-build.is-build c.in-build.len_at_least c.in-build.len_below)

pub returns-in-deepest-clause-some : goal.returns-in-deepest-clause-some
returns-in-deepest-clause-some c =
    (_, with_verb 1 _ c.in-deepest.is-deepest c.in-deepest.len_at_least c.in-deepest.len_below)

pub returns-in-verify-clause-some : goal.returns-in-verify-clause-some
returns-in-verify-clause-some c =
    (_, with_verb 1 _ c.in-verify.is-verify c.in-verify.len_at_least c.in-verify.len_below)

pub returns-in-run-clause-some : goal.returns-in-run-clause-some
returns-in-run-clause-some c = (_, _, with_verb 2 _ c.in-run.is-run c.in-run.len_at_least c.in-run.len_below)

pub returns-in-audit-clause-some : goal.returns-in-audit-clause-some
returns-in-audit-clause-some c = (_, _, with_verb 2 _ c.in-audit.is-audit c.in-audit.len_at_least c.in-audit.len_below)

pub returns-in-live-clause-some : goal.returns-in-live-clause-some
returns-in-live-clause-some c = (_, _, with_verb 2 _ c.in-live.is-live c.in-live.len_at_least c.in-live.len_below)

pub returns-in-times-clause-some : goal.returns-in-times-clause-some
returns-in-times-clause-some c = (_, _, with_verb 2 _ c.in-times.is-times c.in-times.len_at_least c.in-times.len_below)

pub returns-in-pair-clause-some : goal.returns-in-pair-clause-some
returns-in-pair-clause-some c = (_, _, _, with_verb 3 _ c.in-pair.is-pair c.in-pair.len_at_least c.in-pair.len_below)

pub returns-in-soak-clause-some : goal.returns-in-soak-clause-some
returns-in-soak-clause-some c =
    soak_named _ _ _ _ _ (with_verb 4 _ c.in-soak.is-soak c.in-soak.len_at_least c.in-soak.len_below) c.soak_of.result
    c.soak_of.ensures.some

pub returns-in-soak-clause-none : goal.returns-in-soak-clause-none
returns-in-soak-clause-none c =
    soak_none _ _ _ _ _ (with_verb 4 _ c.in-soak.is-soak c.in-soak.len_at_least c.in-soak.len_below) c.soak_of.result
    c.soak_of.ensures.none
