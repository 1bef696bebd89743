-- The shifts lose nothing, and so they are the products of the formula.
use Rattle.std.proofs.Common.{◌≡◌, ◌^◌, ◌-◌, ◌*◌, ◌%◌, subst, sym, ℕ}
use Rattle.rt_ids.proofs.Shifts.{shifted}
use Rattle.rt_ids.proofs.priority.Prio.hw.Goals as goal

pub returns : goal.returns
returns c =
    subst (λ (p : ℕ). (1 * 2 ^ c.args.bits % 256 - p) * 2 ^ (8 - c.args.bits) % 256
    ≡ (2 ^ c.args.bits - c.args.self) * 2 ^ (8 - c.args.bits))
    (sym c.self.view_is)
    (shifted c.args.bits c.args.self c.requires.few_bits c.requires.many_bits c.requires.least c.requires.greatest)
