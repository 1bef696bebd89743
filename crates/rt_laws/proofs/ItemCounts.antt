-- How often items name a task, and where its places are: what an item more changes of both, in plain numbers.
use Rattle.std.proofs.Common.{◌≡◌, ℕ, ◌+◌, ◌==◌, ◌≤◌, Bool, false, cond, count_by, List, [], ◌∷◌, ◌++◌, refl, arith}
use Rattle.std.proofs.lemmas.List.Sums.{sum_by_push}
use Rattle.rt_actions.specs.Location.{Guarded}
use Rattle.rt_actions.specs.Content.{Values, number}
use Rattle.rt_ids.specs.declared.ids.Section.TheVariants as section
use Rattle.rt_trace.specs.declared.item.What.{What}
use Rattle.rt_trace.specs.declared.item.What.TheVariants as what
use Rattle.rt_app.specs.Tree.{App}
use Rattle.rt_laws.specs.Places.{arming_count, ready_of}
use Rattle.rt_laws.specs.MessagesByItems.{TaskCounts, task_counts, is_ok, is_ready, is_start, is_free, is_arm, is_fire}
use Rattle.rt_laws.specs.MessagesByItems.{is_cancel}
use Rattle.rt_laws.proofs.Hands.{InTransit, Forwards, GivesBack}

-- one where it is so
abbrev pub one_if : Bool → ℕ
one_if b = cond b 1 0

-- whether a hand has the place of a message to the task that is to become ready or armed, or one that is to be given
-- back
abbrev pub forwards : ℕ → InTransit → Bool
forwards t (Forwards u) = u == t
forwards t hand = false

abbrev pub gives_back : ℕ → InTransit → Bool
gives_back t (GivesBack u) = u == t
gives_back t hand = false

-- where the places of a task are, and how many are out
pub record Whereabouts : Type 0 where
  pub forward : ℕ
  pub back : ℕ
  pub armed : ℕ
  pub ready : ℕ
  pub out : ℕ

abbrev pub whereabouts : App → ℕ → List InTransit → Values → Whereabouts
whereabouts app t hands vs = record {
  forward = count_by (forwards t) hands;
  back = count_by (gives_back t) hands;
  armed = arming_count t vs;
  ready = ready_of app t vs;
  out = number (vs (Guarded (section.Free t)));
}

-- the counts of a task agree with them
pub record Agrees (c : TaskCounts) (w : Whereabouts) : Type 0 where
  pub queued : c.ok + c.fire ≡ c.ready + c.arm + w.forward
  pub given_back : c.start + c.cancel ≡ c.free + w.back
  pub armed : c.arm ≡ c.fire + c.cancel + w.armed
  pub started : c.ready ≡ c.start + w.ready
  pub placed : c.ok ≡ c.free + w.out

-- so many items more
pub record Change (more : TaskCounts) (v w : Whereabouts) : Type 0 where
  pub queued : more.ok + more.fire + v.forward ≡ more.ready + more.arm + w.forward
  pub given_back : more.start + more.cancel + v.back ≡ more.free + w.back
  pub armed : more.arm + v.armed ≡ more.fire + more.cancel + w.armed
  pub started : more.ready + v.ready ≡ more.start + w.ready
  pub placed : more.ok + v.out ≡ more.free + w.out

abbrev pub with_more : TaskCounts → TaskCounts → TaskCounts
with_more c more = record {
  ok = c.ok + more.ok;
  ready = c.ready + more.ready;
  start = c.start + more.start;
  free = c.free + more.free;
  arm = c.arm + more.arm;
  fire = c.fire + more.fire;
  cancel = c.cancel + more.cancel;
}

pub agrees_more : (c more : TaskCounts) (v w : Whereabouts) → Agrees c v → Change more v w → Agrees (with_more c more) w
agrees_more c more v w old change = record {
  queued = omega (arith, old.queued, change.queued);
  given_back = omega (arith, old.given_back, change.given_back);
  armed = omega (arith, old.armed, change.armed);
  started = omega (arith, old.started, change.started);
  placed = omega (arith, old.placed, change.placed);
}

-- no fewer places are out than are to be given back
pub back_out : (c : TaskCounts) (w : Whereabouts) → Agrees c w → w.back ≤ w.out
back_out c w is = omega (arith, is.queued, is.given_back, is.armed, is.started, is.placed)

-- one item more
abbrev pub one : ℕ → What → TaskCounts
one t w = record {
  ok = one_if (is_ok t w);
  ready = one_if (is_ready t w);
  start = one_if (is_start t w);
  free = one_if (is_free t w);
  arm = one_if (is_arm t w);
  fire = one_if (is_fire t w);
  cancel = one_if (is_cancel t w);
}

pub counts_push : (t : ℕ) (ws : List What) (w : What)
    → task_counts t (ws ++ w ∷ []) ≡ with_more (task_counts t ws) (one t w)
counts_push t ws w k = record {
  ok = sum_by_push (λ x. one_if (is_ok t x)) ws w k;
  ready = sum_by_push (λ x. one_if (is_ready t x)) ws w k;
  start = sum_by_push (λ x. one_if (is_start t x)) ws w k;
  free = sum_by_push (λ x. one_if (is_free t x)) ws w k;
  arm = sum_by_push (λ x. one_if (is_arm t x)) ws w k;
  fire = sum_by_push (λ x. one_if (is_fire t x)) ws w k;
  cancel = sum_by_push (λ x. one_if (is_cancel t x)) ws w k;
}

-- an item that names no task's place or message
abbrev pub IsElse : What → Type 0
IsElse (what.Placed t) = ⊥
IsElse (what.Ready t) = ⊥
IsElse (what.Start t args) = ⊥
IsElse (what.Free t) = ⊥
IsElse (what.Arm t i) = ⊥
IsElse (what.Fire t) = ⊥
IsElse (what.Cancel t h) = ⊥
IsElse (what.Move t h i) = ⊥
IsElse w = Unit {0}

pub no_more : TaskCounts
no_more = record { ok = 0; ready = 0; start = 0; free = 0; arm = 0; fire = 0; cancel = 0 }

pub same_change : (v : Whereabouts) → Change no_more v v
unfolding no_more
same_change v = record {
  queued = omega arith;
  given_back = omega arith;
  armed = omega arith;
  started = omega arith;
  placed = omega arith;
}

pub else_none : (t : ℕ) (w : What) → IsElse w → one t w ≡ no_more
unfolding no_more
else_none t (what.Placed u) is = absurd is
else_none t (what.Ready u) is = absurd is
else_none t (what.Start u args) is = absurd is
else_none t (what.Free u) is = absurd is
else_none t (what.Arm u i) is = absurd is
else_none t (what.Fire u) is = absurd is
else_none t (what.Cancel u h) is = absurd is
else_none t (what.Move u h i) is = absurd is
else_none t w is = refl

-- changes by plain numbers
pub placed_change : {b f h g i a r o p : ℕ} → h ≡ b + f → i ≡ g → p ≡ o + b
    → Change (record { ok = b; ready = 0; start = 0; free = 0; arm = 0; fire = 0; cancel = 0 })
    (record { forward = f; back = g; armed = a; ready = r; out = o })
    (record { forward = h; back = i; armed = a; ready = r; out = p })
placed_change forward back out = record {
  queued = omega arith;
  given_back = omega arith;
  armed = omega arith;
  started = omega arith;
  placed = omega arith;
}

pub freed_change : {b f h g i a r o p : ℕ} → h ≡ f → g ≡ b + i → p + b ≡ o
    → Change (record { ok = 0; ready = 0; start = 0; free = b; arm = 0; fire = 0; cancel = 0 })
    (record { forward = f; back = g; armed = a; ready = r; out = o })
    (record { forward = h; back = i; armed = a; ready = r; out = p })
freed_change forward back out = record {
  queued = omega arith;
  given_back = omega arith;
  armed = omega arith;
  started = omega arith;
  placed = omega arith;
}

pub armed_change : {b f h g i a c r o : ℕ} → f ≡ b + h → i ≡ g → c ≡ a + b
    → Change (record { ok = 0; ready = 0; start = 0; free = 0; arm = b; fire = 0; cancel = 0 })
    (record { forward = f; back = g; armed = a; ready = r; out = o })
    (record { forward = h; back = i; armed = c; ready = r; out = o })
armed_change forward back armed = record {
  queued = omega arith;
  given_back = omega arith;
  armed = omega arith;
  started = omega arith;
  placed = omega arith;
}

pub fired_change : {b f h g i a c r o : ℕ} → h ≡ b + f → i ≡ g → c + b ≡ a
    → Change (record { ok = 0; ready = 0; start = 0; free = 0; arm = 0; fire = b; cancel = 0 })
    (record { forward = f; back = g; armed = a; ready = r; out = o })
    (record { forward = h; back = i; armed = c; ready = r; out = o })
fired_change forward back armed = record {
  queued = omega arith;
  given_back = omega arith;
  armed = omega arith;
  started = omega arith;
  placed = omega arith;
}

pub cancelled_change : {b f h g i a c r o : ℕ} → h ≡ f → i ≡ b + g → c + b ≡ a
    → Change (record { ok = 0; ready = 0; start = 0; free = 0; arm = 0; fire = 0; cancel = b })
    (record { forward = f; back = g; armed = a; ready = r; out = o })
    (record { forward = h; back = i; armed = c; ready = r; out = o })
cancelled_change forward back armed = record {
  queued = omega arith;
  given_back = omega arith;
  armed = omega arith;
  started = omega arith;
  placed = omega arith;
}

pub moved_change : {f g a c r o : ℕ} → c ≡ a
    → Change (record { ok = 0; ready = 0; start = 0; free = 0; arm = 0; fire = 0; cancel = 0 })
    (record { forward = f; back = g; armed = a; ready = r; out = o })
    (record { forward = f; back = g; armed = c; ready = r; out = o })
moved_change armed = record {
  queued = omega arith;
  given_back = omega arith;
  armed = omega arith;
  started = omega arith;
  placed = omega arith;
}

pub readied_change : {b f h g i a r k o : ℕ} → f ≡ b + h → i ≡ g → k ≡ r + b
    → Change (record { ok = 0; ready = b; start = 0; free = 0; arm = 0; fire = 0; cancel = 0 })
    (record { forward = f; back = g; armed = a; ready = r; out = o })
    (record { forward = h; back = i; armed = a; ready = k; out = o })
readied_change forward back ready = record {
  queued = omega arith;
  given_back = omega arith;
  armed = omega arith;
  started = omega arith;
  placed = omega arith;
}

pub started_change : {b f h g i a r k o : ℕ} → h ≡ f → i ≡ b + g → k + b ≡ r
    → Change (record { ok = 0; ready = 0; start = b; free = 0; arm = 0; fire = 0; cancel = 0 })
    (record { forward = f; back = g; armed = a; ready = r; out = o })
    (record { forward = h; back = i; armed = a; ready = k; out = o })
started_change forward back ready = record {
  queued = omega arith;
  given_back = omega arith;
  armed = omega arith;
  started = omega arith;
  placed = omega arith;
}
