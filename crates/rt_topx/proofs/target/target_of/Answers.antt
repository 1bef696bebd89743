use Rattle.rt_topx.proofs.Saying.{flash_said, port_said, ram_said}
use Rattle.rt_topx.proofs.target.target_of.Goals as goal

pub region_of-requires : goal.region_of-requires
region_of-requires c =
    rw (c.flash_of.ensures, c.facts-facts.ensures) (flash_said c.args.setup.now.facts c.requires.whole)

pub region_of-requires-2 : goal.region_of-requires-2
region_of-requires-2 c =
    rw (c.ram_of.ensures, c.facts-facts.ensures) (ram_said c.args.setup.now.facts c.requires.whole)

pub address_of-requires : goal.address_of-requires
address_of-requires c =
    rw (c.port_of.ensures, c.facts-facts.ensures) (port_said c.args.setup.now.facts c.requires.whole)
