use Rattle.rt_live.proofs.Vocabulary.{◌∙◌}
use Rattle.rt_dual.proofs.Accounts.{all_gathered, are_accounts, more, room_for}
use Rattle.rt_dual.proofs.closing.accounts_of.Goals as goal

pub close-left-requires-clause-gathered : goal.close-left-requires-clause-gathered
close-left-requires-clause-gathered c =
    all_gathered c.requires c.deref_mut.ensures.value c.into_inner.ensures c.gather-far.result
    c.gather-far.ensures.tally (c.into_inner-2.ensures ∙ c.gather-far.ensures.maker)

pub account_of-requires-clause-room : goal.account_of-requires-clause-room
account_of-requires-clause-room c = room_for 0 c.args.one.items c.requires.one_empty

pub account_of-requires-2-clause-room : goal.account_of-requires-2-clause-room
account_of-requires-2-clause-room c = room_for 1 c.args.two.items c.requires.two_empty

pub account_of-requires-clause-more : goal.account_of-requires-clause-more
account_of-requires-clause-more c =
    more c.requires c.deref_mut.ensures.value c.into_inner.ensures c.gather-far.result c.gather-far.ensures.tally 0
    c.args.one.items c.requires.one_empty

pub account_of-requires-2-clause-more : goal.account_of-requires-2-clause-more
account_of-requires-2-clause-more c =
    more c.requires c.deref_mut.ensures.value c.into_inner.ensures c.gather-far.result c.gather-far.ensures.tally 1
    c.args.two.items c.requires.two_empty

pub returns : goal.returns
returns c =
    are_accounts c.requires c.deref_mut.ensures.value c.into_inner.ensures c.gather-far.result
    c.gather-far.ensures.tally (c.into_inner-2.ensures ∙ c.gather-far.ensures.maker) c.close-left.result.bits
    c.close-left.ensures.history c.close-left.result.own c.close-left.ensures.own c.account_of.ensures
    c.account_of-2.ensures
