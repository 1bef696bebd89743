-- The law of turns, behind labels of a run: each turn of a dispatcher that has begun, and one that waits, is for a
-- message of its own.
use Rattle.std.proofs.Common.{◌≡◌, ℕ, ◌+◌, Bool, true, false, if◌then◌else◌}
use Rattle.std.proofs.Common.{count_by, Contains, List, [], ◌∷◌, ◌++◌, append_assoc}
use Rattle.std.proofs.Common.{slice_index_or, refl, ap, subst}
use Rattle.std.proofs.Common.{◌∙◌, arith}
use Rattle.std.proofs.lemmas.List.Sums.{sum_by-cons}
use Rattle.rt_lemmas.proofs.Membership.{contains_here, contains_there}
use Rattle.rt_trace.specs.Label.{Label, Arrived}
use Rattle.rt_app.specs.Tree.{App}
use Rattle.rt_app.specs.Accepted.{IsAccepted}
use Rattle.rt_app.specs.Level.{levels}
use Rattle.rt_app.specs.Sending.{dispatcher_number}
use Rattle.rt_laws.specs.State.{State, first}
use Rattle.rt_laws.specs.Allowed.{after}
use Rattle.rt_laws.specs.Run.{RunsOn}
use Rattle.rt_laws.specs.ByItems.{after_all}
use Rattle.rt_laws.specs.Observer.{Observer, first_sight, sees}
use Rattle.rt_laws.specs.Waiting.{is_take}
use Rattle.rt_laws.specs.MessagesWaiting.{is_ready_at, is_start_at}
use Rattle.rt_laws.proofs.Well.{StateWell}
use Rattle.rt_laws.proofs.Happens.{first_well}
use Rattle.rt_laws.proofs.ItemCounts.{one_if}
use Rattle.rt_rta.proofs.OnceInitEnds.{split_at}
use Rattle.rt_laws.proofs.ReadyCounted.{many, next_shown}
use Rattle.rt_laws.proofs.Keeping.{next_well}
use Rattle.rt_respond.specs.Form.{is_of_form}
use Rattle.rt_respond_laws.specs.Turns.{RunsTurnForMessages}
use Rattle.rt_respond_laws.proofs.Turning.{turn}
use Rattle.rt_respond_laws.proofs.Turns.{Turned, one_label, none_first, first_turned, other_request}

module _ (app : App) (accepted : IsAccepted app) (form : is_of_form app ≡ true) (p : ℕ)
    (level : Contains (levels app) p) where
  -- behind labels of a run
  pub record Behind (s : State) (now : Turned app accepted form p level s) (labels : List Label) : Type 0 where
    pub turned : Turned app accepted form p level (after_all app s labels)
    pub count : turned.taken + count_by (is_start_at app p) labels
        ≡ now.taken + count_by (is_take (turn app p)) labels
    pub ready : many app p (after_all app s labels).values + count_by (is_start_at app p) labels
        ≡ many app p s.values + count_by (is_ready_at app p) labels

  pub all_turned : (labels : List Label) (s : State) (v : Observer) → StateWell app s v → (now : Turned app accepted
      form p level s)
      → RunsOn app s labels → ((irq : ℕ) → Contains labels (Arrived irq) → ¬ (turn app p ≡ irq))
      → Behind s now labels
  all_turned [] s v well now runs other = record { turned = now; count = refl; ready = refl }
  all_turned (label ∷ labels) s v well now runs other =
      let one = one_label app accepted form p level s v well now label runs.0
      (λ irq is. other irq (subst (λ l. Contains (label ∷ labels) l) is (contains_here label labels))) in
      let rest = all_turned labels (after app s label) (sees app v label) (next_well app accepted s v label well runs.0)
      one.behind runs.1 (λ irq there. other irq (contains_there label labels (Arrived irq) there)) in
      let here = next_shown app p accepted s v label well runs.0 in
      let started = sum_by-cons (λ l. one_if (is_start_at app p l)) label labels in
      let readied = sum_by-cons (λ l. one_if (is_ready_at app p l)) label labels in
      let took = sum_by-cons (λ l. one_if (is_take (turn app p) l)) label labels in
      record {
        turned = rest.turned;
        count = added rest.turned.taken one.behind.taken now.taken (one_if (is_start_at app p label))
            (one_if (is_take (turn app p) label)) (count_by (is_start_at app p) labels)
            (count_by (is_take (turn app p)) labels) (count_by (is_start_at app p) (label ∷ labels))
            (count_by (is_take (turn app p)) (label ∷ labels)) one.count rest.count started took;
        ready = added (many app p (after_all app s (label ∷ labels)).values) (many app p (after app s label).values)
            (many app p s.values) (one_if (is_start_at app p label)) (one_if (is_ready_at app p label))
            (count_by (is_start_at app p) labels) (count_by (is_ready_at app p) labels)
            (count_by (is_start_at app p) (label ∷ labels)) (count_by (is_ready_at app p) (label ∷ labels)) here
            rest.ready started readied;
      }
    where
      added : (c b a x y m n k l : ℕ) → b + x ≡ a + y → c + m ≡ b + n → k ≡ x + m → l ≡ y + n → c + k ≡ a + l
      added c b a x y m n k l first second third fourth = omega (arith, first, second, third, fourth)

-- the front of a run is one
pub runs_front : (app : App) (front behind : List Label) (s : State) → RunsOn app s (front ++ behind)
    → RunsOn app s front
runs_front app [] behind s runs = tt
runs_front app (label ∷ front) behind s runs = (runs.0, runs_front app front behind (after app s label) runs.1)

pub runs_turn_for_messages : RunsTurnForMessages
runs_turn_for_messages app accepted form limits fine labels runs kept p level front behind is =
    let begun = first_turned app accepted form p level in
    let none = none_first app accepted form p level in
    let own = runs_front app front behind (first app) (subst (RunsOn app (first app)) is runs) in
    let all = all_turned app accepted form p level front (first app) (first_sight app) (first_well app accepted) begun
    own
    other in
    let waiting = all.turned.waiting in
    let count = all.count in
    let ready = all.ready in
    let same = one_if_is (slice_index_or (after_all app (first app) front).pending (dispatcher_number app p) false) in
    record {
      asked = omega (arith, waiting, count, ready, none, same);
      started = omega (arith, count);
    }
  where
    one_if_is : (b : Bool) → one_if b ≡ (if b then 1 else 0)
    one_if_is true = refl
    one_if_is false = refl

    other : (irq : ℕ) → Contains front (Arrived irq) → ¬ (turn app p ≡ irq)
    other irq there =
        let parts = split_at front (Arrived irq) there in
        other_request app accepted form p level limits.every fine.every irq
        (kept.limited parts.0 (parts.1 ++ behind) irq
        (is ∙ ap (λ xs. xs ++ behind) parts.2 ∙ append_assoc parts.0 (Arrived irq ∷ parts.1) behind))
