use Rattle.std.proofs.Common.{refl}
use Rattle.rt_top.specs.Words.{texts}
use Rattle.rt_top.specs.Inside.Meant.{command_word}
use Rattle.rt_top.specs.Rtic.{rtic_program}
use Rattle.rt_top.proofs.Clauses.{conducted, none_failed, one_failed}
use Rattle.rt_top.proofs.Ending as ending
use Rattle.rt_top.proofs.Excluding.{lawful}
use Rattle.rt_top.proofs.Using.{did, quiet, read_whole, skipped}
use Rattle.rt_top.proofs.top.rtic.Goals as goal

pub returns-in-Some-clause-answered : goal.returns-in-Some-clause-answered
returns-in-Some-clause-answered g c e named answer =
    ending.answered lawful refl
    (conducted lawful (texts c.args.words.now) (command_word c.in-Some.command) c.in-Some.ensures.some
    c.decide.ensures e named)
    answer

pub returns-in-Some-clause-complete : goal.returns-in-Some-clause-complete
returns-in-Some-clause-complete g c e due named is_due no_first no_second no_third no_sink =
    let k = conducted lawful (texts c.args.words.now) (command_word c.in-Some.command) c.in-Some.ensures.some
    c.decide.ensures e named in
    ending.complete lawful refl k due is_due
    (λ failed. none_failed rtic_program _ _ _ _ _ _ _ _ k.end k.read failed _ _ _ (λ limit f. f) (λ limit f. f)
    (λ limit f. f) no_first no_second no_third) no_sink

pub returns-in-Some-clause-usage : goal.returns-in-Some-clause-usage
returns-in-Some-clause-usage g c none = absurd (none (command_word c.in-Some.command, c.in-Some.ensures.some))

pub returns-in-Some-clause-no_usage : goal.returns-in-Some-clause-no_usage
returns-in-Some-clause-no_usage g c usage = absurd (ending.no_usage lawful refl c.decide.ensures usage)

pub returns-in-Some-clause-first_unread : goal.returns-in-Some-clause-first_unread
returns-in-Some-clause-first_unread g c skips =
    (skipped lawful 0 _ _ _ c.decide.ensures.end c.decide.ensures.read
    (skips (command_word c.in-Some.command) c.in-Some.ensures.some)).0

pub returns-in-Some-clause-second_unread : goal.returns-in-Some-clause-second_unread
returns-in-Some-clause-second_unread g c skips =
    (skipped lawful 1 _ _ _ c.decide.ensures.end c.decide.ensures.read
    (skips (command_word c.in-Some.command) c.in-Some.ensures.some)).0

pub returns-in-Some-clause-third_unread : goal.returns-in-Some-clause-third_unread
returns-in-Some-clause-third_unread g c skips =
    (skipped lawful 2 _ _ _ c.decide.ensures.end c.decide.ensures.read
    (skips (command_word c.in-Some.command) c.in-Some.ensures.some)).0

pub returns-in-Some-clause-first_read : goal.returns-in-Some-clause-first_read
returns-in-Some-clause-first_read g c e kind named comes answer =
    let k = conducted lawful (texts c.args.words.now) (command_word c.in-Some.command) c.in-Some.ensures.some
    c.decide.ensures e named in
    (read_whole rtic_program 0 _ _ _ k.end kind k.read comes.reads comes.passed (ending.alive lawful refl k answer)).0

pub returns-in-Some-clause-second_read : goal.returns-in-Some-clause-second_read
returns-in-Some-clause-second_read g c e kind named comes answer =
    let k = conducted lawful (texts c.args.words.now) (command_word c.in-Some.command) c.in-Some.ensures.some
    c.decide.ensures e named in
    (read_whole rtic_program 1 _ _ _ k.end kind k.read comes.reads comes.passed (ending.alive lawful refl k answer)).0

pub returns-in-Some-clause-third_read : goal.returns-in-Some-clause-third_read
returns-in-Some-clause-third_read g c e kind named comes answer =
    let k = conducted lawful (texts c.args.words.now) (command_word c.in-Some.command) c.in-Some.ensures.some
    c.decide.ensures e named in
    (read_whole rtic_program 2 _ _ _ k.end kind k.read comes.reads comes.passed (ending.alive lawful refl k answer)).0

pub returns-in-Some-clause-read : goal.returns-in-Some-clause-read
returns-in-Some-clause-read g c is_read = (
  command_word c.in-Some.command,
  c.in-Some.ensures.some,
  one_failed rtic_program _ _ _ _ _ _ _ _ c.decide.ensures.end c.decide.ensures.read
      (ending.failed lawful refl c.decide.ensures is_read) _ _ _ (λ limit f. f) (λ limit f. f) (λ limit f. f),
)

pub returns-in-Some-clause-silent : goal.returns-in-Some-clause-silent
returns-in-Some-clause-silent g c stops = ending.silent lawful refl c.decide.ensures stops

pub returns-in-Some-clause-first_heard : goal.returns-in-Some-clause-first_heard
returns-in-Some-clause-first_heard g c =
    let (limit, how, done, stops) = did rtic_program 0 _ _ _ c.decide.ensures.end c.decide.ensures.read in
    quiet _ _ _ _ _ limit how _ done (λ is. ending.told lawful refl c.decide.ensures (stops is))

pub returns-in-Some-clause-second_heard : goal.returns-in-Some-clause-second_heard
returns-in-Some-clause-second_heard g c =
    let (limit, how, done, stops) = did rtic_program 1 _ _ _ c.decide.ensures.end c.decide.ensures.read in
    quiet _ _ _ _ _ limit how _ done (λ is. ending.told lawful refl c.decide.ensures (stops is))

pub returns-in-Some-clause-third_heard : goal.returns-in-Some-clause-third_heard
returns-in-Some-clause-third_heard g c =
    let (limit, how, done, stops) = did rtic_program 2 _ _ _ c.decide.ensures.end c.decide.ensures.read in
    quiet _ _ _ _ _ limit how _ done (λ is. ending.told lawful refl c.decide.ensures (stops is))

pub returns-in-Some-clause-sink_heard : goal.returns-in-Some-clause-sink_heard
returns-in-Some-clause-sink_heard g c = c.decide.ensures.heard

pub returns-in-Some-clause-write : goal.returns-in-Some-clause-write
returns-in-Some-clause-write g c failed = (ending.write lawful refl c.decide.ensures failed).0

pub returns-in-Some-clause-part : goal.returns-in-Some-clause-part
returns-in-Some-clause-part g c e named failed =
    (ending.write lawful refl
    (conducted lawful (texts c.args.words.now) (command_word c.in-Some.command) c.in-Some.ensures.some
    c.decide.ensures e named)
    failed).1

pub returns-in-None-clause-answered : goal.returns-in-None-clause-answered
returns-in-None-clause-answered g c e named answer = absurd (c.in-None.ensures.none (e, named))

pub returns-in-None-clause-complete : goal.returns-in-None-clause-complete
returns-in-None-clause-complete g c e due named is_due no_first no_second no_third no_sink =
    absurd (c.in-None.ensures.none (e, named))

pub returns-in-None-clause-usage : goal.returns-in-None-clause-usage
returns-in-None-clause-usage g c none = c.answer.ensures.wrote

pub returns-in-None-clause-part : goal.returns-in-None-clause-part
returns-in-None-clause-part g c e named failed = absurd (c.in-None.ensures.none (e, named))

pub returns-in-None-clause-first_read : goal.returns-in-None-clause-first_read
returns-in-None-clause-first_read g c e kind named comes answer = absurd (c.in-None.ensures.none (e, named))

pub returns-in-None-clause-second_read : goal.returns-in-None-clause-second_read
returns-in-None-clause-second_read g c e kind named comes answer = absurd (c.in-None.ensures.none (e, named))

pub returns-in-None-clause-third_read : goal.returns-in-None-clause-third_read
returns-in-None-clause-third_read g c e kind named comes answer = absurd (c.in-None.ensures.none (e, named))
