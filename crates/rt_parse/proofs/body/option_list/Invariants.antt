use Rattle.std.proofs.Common.{length, codes}
use Rattle.rt_grammar.specs.Options.{no_options}
use Rattle.rt_parse.specs.Inside.ReadingOptions.{option_at}
use Rattle.rt_parse.specs.Inside.DeclarationView.{options_view, owner_view}
use Rattle.rt_parse.proofs.Lists.{IsListing}
use Rattle.rt_parse.proofs.body.option_list.Given as goal

abbrev pub invariant-loop-alloc : goal.invariant-loop-alloc
invariant-loop-alloc l = IsListing (codes ")") (option_at (owner_view l.owner)) (options_view l.options) l.rest
    no_options l.fn.tokens

abbrev pub decreases-loop-alloc : goal.decreases-loop-alloc
decreases-loop-alloc l = length l.rest
