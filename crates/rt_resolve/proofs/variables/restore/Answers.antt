use Rattle.std.proofs.Common.{rules, Some, None}
use Rattle.std.proofs.lemmas.Map.Text.{hash_map_updates_str}
use Rattle.rt_resolve.proofs.variables.restore.Goals as goal

pub returns-in-Some-get_mut : goal.returns-in-Some-get_mut
returns-in-Some-get_mut c =
    rw c.in-Some.is (hash_map_updates_str c.args.name.now c.args.meanings.now
    (c.get_mut.follows.lender c.in-Some.hidden) (Some c.in-Some.hidden)
    ((c.get_mut.follows.holds c.in-Some.hidden).3 (search rules)))

pub returns-in-None : goal.returns-in-None
returns-in-None c = rw c.in-None.is (hash_map_updates_str c.args.name.now c.args.meanings.now c.remove.new.self None
    c.remove.ensures.updates)
