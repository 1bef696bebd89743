-- The bodies that the code lists, as bodies of the definitions.
use Rattle.rt_ids.specs.declared.ids.BodyId.{BodyId}
use Rattle.rt_ids.specs.declared.ids.BodyId.TheVariants as body
use Rattle.rt_app.specs.Bodies as bodies
use Rattle.rt_app.specs.View.{body_of}
use Rattle.rt_rules.specs.declared.member.Which.{Which}
use Rattle.rt_rules.specs.declared.member.Which.TheVariants as which
use Rattle.rt_rules.specs.declared.member.Member.{Member}

-- which body it is
abbrev pub id_of : Which → BodyId
id_of which.Init = body.Init
id_of which.Idle = body.Idle
id_of (which.Task n) = body.Task n

-- a body with its priority and its arguments
abbrev pub member_of : Member → bodies.Member
member_of m = record { id = id_of m.which; priority = m.priority; args = m.args; body = body_of m.body.now }
