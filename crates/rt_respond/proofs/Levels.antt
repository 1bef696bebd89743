-- The levels of an accepted application are priorities, of which a table of the code has a row each.
use Rattle.std.proofs.Common.{◌≡◌, ◌≤◌, ◌==◌, ◌^◌, true, arith}
use Rattle.std.specs.List.{list_any}
use Rattle.std.proofs.Math.Nat.{pow-le-pow_right}
use Rattle.rt_lemmas.proofs.Bools.{and_right, or_left}
use Rattle.rt_lemmas.proofs.Membership.{any_one, any_passes}
use Rattle.rt_app.specs.Tree.{App}
use Rattle.rt_app.specs.Accepted.{IsAccepted}
use Rattle.rt_app.specs.Level.{is_software, is_of_level}
use Rattle.rt_app.specs.Stack.{has_handler, is_timed_at}
use Rattle.rt_app.proofs.Parts.{parts}
use Rattle.rt_app.proofs.SoundCeilings.{handled_in_range}
use Rattle.rt_respond.proofs.Holding.{HasFewLevels}

pub few_levels : (app : App) → IsAccepted app → HasFewLevels app
few_levels app accepted q is =
    let one = any_one (is_of_level q) app.tasks is in
    let same = and_right (is_software one.1) (one.1.priority == q) one.3 in
    let has : has_handler app q ≡ true = or_left (list_any (λ t. t.priority == q) app.tasks) (is_timed_at q app)
    (any_passes (λ t. t.priority == q) app.tasks one.0 one.1 one.2 same) in
    let within = (handled_in_range app accepted (parts app accepted.rules) q has).1 in
    let bits = accepted.limits.most_bits in
    let most : 2 ^ app.bits ≤ 2 ^ 7 = pow-le-pow_right (omega arith) bits in
    omega (arith, within, most)
