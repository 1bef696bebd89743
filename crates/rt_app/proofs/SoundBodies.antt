-- The bodies of an accepted application are sound.
use Rattle.std.proofs.Common.{◌≡◌, ℕ, zero, ◌+◌, ◌<◌, Contains, [], Some, flat_map, arith, suc, inl, inr}
use Rattle.std.specs.List.{range_with_len}
use Rattle.rt_lemmas.proofs.Membership.{all_at, contains_cases, contains_none, none_of_each}
use Rattle.rt_ids.specs.declared.ids.BodyId.{BodyId}
use Rattle.rt_app.specs.Tree.{App}
use Rattle.rt_app.specs.Bodies.{Member, members, member_at}
use Rattle.rt_app.specs.Use.{uses}
use Rattle.rt_app.specs.Statements.{breaks}
use Rattle.rt_app.specs.Accepted.{IsAccepted}
use Rattle.rt_app.specs.Sound.{IsSoundBody}
use Rattle.rt_app.proofs.Parts.{Parts}
use Rattle.rt_app.proofs.Members.{has_body, is_declared}
use Rattle.rt_app.proofs.SoundStatements.{block_sound}

range_below : (from count : ℕ) (x : ℕ) → Contains (range_with_len from count) x → x < from + count
range_below from zero x is = absurd (contains_none x is)
range_below from (suc count) x is = elim (contains_cases from (range_with_len (from + 1) count) x is)
    [ inl same ↦ omega arith | inr more ↦ (let less = range_below (from + 1) count x more in omega arith) ]

pub bodies_sound : (app : App) → IsAccepted app → Parts app → (id : BodyId) (m : Member) → member_at app id ≡ Some m
    → IsSoundBody app m
bodies_sound app accepted parts id m at =
    let own = has_body app accepted id m at in
    let fine = all_at _ (members app) own.is_one.0 m (none_of_each (λ m. flat_map (breaks app m) (uses [] m.body.block))
    (members app) parts.statements) own.is_one.1 in
    block_sound app m (is_declared app accepted m own.is_one) m.body.block m.args (range_with_len 0 m.args) [] []
    own.placed.block own.limits.numbers fine (λ x is. (let less = range_below 0 m.args x is in omega arith))
    (omega arith)
    (λ x is. absurd (cc)) (λ x is. is) (λ test is. is)
