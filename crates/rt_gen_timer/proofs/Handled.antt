-- Handles stay given and of one message each, where a message leaves the queue, goes last with its handle, or comes
-- with the next one.
use Rattle.rt_gen_queue.proofs.Vocabulary.{AllByRecursion, AreHandled, Armed, List, Message, Timed, [], all_append}
use Rattle.rt_gen_queue.proofs.Vocabulary.{all_behind, all_weaker, arith, subst, with_armed, ℕ, ◌++◌, ◌+◌, ◌<◌, ◌∷◌}
use Rattle.rt_gen_queue.proofs.Vocabulary.{◌≡◌, ◌≢◌, ◌≤◌}
use Rattle.rt_gen_timer.proofs.Least.{AreApart, others_apart}
use Rattle.rt_gen_timer.proofs.Numbered.{all_less, along_at, along_from, along_less, along_more}

-- a handle that was given, and two that differ
abbrev IsGiven : ℕ → Armed → Type 0
IsGiven given b = (0 < b.handle) × (b.handle ≤ given)

abbrev Differ : Armed → Armed → Type 0
Differ a b = a.handle ≢ b.handle

-- no two armed messages have one handle
pub apart_of : (t : Timed) → AreHandled t → AreApart t.armed
apart_of t handled =
    along_from Differ t.armed
    (λ i j a b first second less same. absurd (omega (arith, handled.once i j a b first second same)))

handled_by : (t : Timed) → AllByRecursion (IsGiven t.given) t.armed → AreApart t.armed → AreHandled t
handled_by t given apart = record {
  given = given;
  once = λ i j a b first second same.
      let before : i < j → a.handle ≢ b.handle = along_at Differ t.armed apart i j a b first second in
      let behind : j < i → b.handle ≢ a.handle = along_at Differ t.armed apart j i b a second first in
      grind (arith, before, behind, same);
}

-- a message more has the next handle
pub handled_more : (t : Timed) (instant : ℕ) (m : Message) → AreHandled t → AreHandled (with_armed instant m t)
handled_more t instant m handled =
    let a : Armed = record { instant = instant; message = m; handle = t.given + 1 } in
    handled_by (with_armed instant m t)
    (all_append (IsGiven (t.given + 1)) t.armed (a ∷ [])
    (all_weaker (IsGiven t.given) (IsGiven (t.given + 1)) (λ b is. (is.0, omega (arith, is.1))) t.armed handled.given)
    ((omega arith, omega arith), tt))
    (along_more Differ t.armed a (apart_of t handled)
    (all_weaker (IsGiven t.given) (λ b. Differ b a) (λ b is. omega (arith, is.1)) t.armed handled.given))

module _ (t : Timed) (before behind : List Armed) (a : Armed) (handled : AreHandled t)
    (parts : t.armed ≡ before ++ a ∷ behind) where
  given_all : AllByRecursion (IsGiven t.given) (before ++ a ∷ behind)
  given_all = subst (AllByRecursion (IsGiven t.given)) parts handled.given

  apart_all : AreApart (before ++ a ∷ behind)
  apart_all = subst AreApart parts (apart_of t handled)

  -- a message less
  pub handled_less : AreHandled (record t { armed = before ++ behind })
  handled_less =
      handled_by (record t { armed = before ++ behind }) (all_less (IsGiven t.given) before behind a given_all)
      (along_less Differ before behind a apart_all)

  -- a message that goes last, for another instant
  pub handled_last : (instant moved : ℕ)
      → AreHandled (record t { moved = moved; armed = (before ++ behind) ++ record a { instant = instant } ∷ [] })
  handled_last instant moved =
      let b : Armed = record a { instant = instant } in
      handled_by (record t { moved = moved; armed = (before ++ behind) ++ b ∷ [] })
      (all_append (IsGiven t.given) (before ++ behind) (b ∷ []) handled_less.given
      ((all_behind (IsGiven t.given) before (a ∷ behind) given_all).0, tt))
      (along_more Differ (before ++ behind) b (along_less Differ before behind a apart_all)
      (others_apart before behind a apart_all))
