-- Where neither core of a pair posts to the other by its own events alone, no look of either finds anything.
use Rattle.rt_live.proofs.Vocabulary.{AllByRecursion, Arrive, Asks as Pends, Call, Core, Entry, Event, Happens, Image}
use Rattle.rt_live.proofs.Vocabulary.{IsAnswered, IsEmptyLook, IsWholeLook, Latch, Latches, LeavesWords, Line, List}
use Rattle.rt_live.proofs.Vocabulary.{Looks, Names, None, Option, Pend, Pended, Request, Some, Step, Turn, What, []}
use Rattle.rt_live.proofs.Vocabulary.{after, all_append, all_map, all_weaker, ap, append_assoc, arith, arrivals_from}
use Rattle.rt_live.proofs.Vocabulary.{core_after, interleaving, items_of, length, look_calls_from}
use Rattle.rt_live.proofs.Vocabulary.{look_requests, looks, map, part, part_all, refl, replicate, request_of, reset}
use Rattle.rt_live.proofs.Vocabulary.{routed, set, step, subst, suc, sym, turn_requests, zero, zeros_at as zeros, ℕ}
use Rattle.rt_live.proofs.Vocabulary.{ℕ_discrete, ◌++◌, ◌∙◌, ◌∷◌, ◌≡◌}
use Rattle.rt_dual.proofs.Vocabulary.{IsCourse, IsPairText, CorePlace, events_of, events_of-append, first_events}
use Rattle.rt_dual.proofs.Vocabulary.{forward}
use Rattle.rt_dual.proofs.Vocabulary.{second_events, turns}
use Rattle.rt_lemmas.proofs.Lists.{all_both}
use Rattle.rt_core.specs.Trace.{happen, labels}
use Rattle.rt_core.proofs.Happening.{labels-append}
use Rattle.rt_trace.specs.{Label.Label, Label.Arrived, Label.Ticked, Label.Rang, Label.Stepped, declared.item.Item.Item}
use Rattle.rt_dual.specs.{Laws.PostsNothing}
use Rattle.rt_dual.proofs.{Cutting.zeros_arrive, Ordered.part_there, Ordered.precede, Posted.none_in, Posted.looks_in}
use Rattle.rt_dual.proofs.{Posted.turn_events}
use Rattle.rt_trace.specs.declared.item.What.TheVariants as what

-- a latch of a word of 0
abbrev IsEmpty : Request → Type 0
IsEmpty (Pends bit) = ⊥
IsEmpty (Latches word found) = found ≡ 0

-- a look of which the words were 0 finds nothing
empty_words : (k : ℕ) (words : List ℕ) → AllByRecursion IsEmpty (map request_of (look_calls_from k words))
    → words ≡ replicate (length words) 0
empty_words k [] all = refl
empty_words k (word ∷ words) all = ap (λ w. w ∷ words) all.0 ∙ ap (λ ws. 0 ∷ ws) (empty_words (suc k) words all.1)

-- with such looks turns come to their events alone
alone : (here : ℕ) (ts : List Turn) (found : List (List ℕ)) → length found ≡ looks ts
    → AllByRecursion (λ ws. AllByRecursion IsEmpty (look_requests here ws)) found
    → interleaving ts found ≡ events_of ts
alone here [] found many all = refl
alone here (Happens e ∷ ts) found many all = ap (λ us. e ∷ us) (alone here ts found many all)
alone here (Looks ∷ ts) [] many all = absurd (omega (arith, many))
alone here (Looks ∷ ts) (ws ∷ found) many all =
    ap (λ us. us ++ interleaving ts found)
    (ap (map Arrive) (ap (arrivals_from 0) (empty_words _ ws all.0) ∙ zeros_arrive 0 (length ws)))
    ∙ alone here ts found (omega (arith, many)) all.1

-- what holds of all items holds of what a step among the labels shows
step_among : (P : What → Type 0) (n : ℕ) (front rest : List Label) (shown : What)
    → AllByRecursion (λ (item : Item). P item.what) (items_of n (front ++ Stepped (Some shown) ∷ rest)) → P shown
step_among P n [] rest shown all = all.0
step_among P n (Arrived irq ∷ front) rest shown all = step_among P n front rest shown all.1
step_among P n (Ticked ∷ front) rest shown all = step_among P n front rest shown all.1
step_among P n (Rang ∷ front) rest shown all = step_among P n front rest shown all.1
step_among P n (Stepped (Some w) ∷ front) rest shown all = step_among P (suc n) front rest shown all.1
step_among P n (Stepped None ∷ front) rest shown all = step_among P (suc n) front rest shown all

shown_after : (P : What → Type 0) (img : Image) (c : Core) (n : ℕ) (es later : List Event) (shown : What)
    → AllByRecursion (λ (item : Item). P item.what) (items_of n (labels img c (es ++ Step ∷ later)))
    → (step img (core_after img c es)).1 ≡ Some shown → P shown
unfolding labels happen
shown_after P img c n es later shown all is =
    let d : Core = core_after img c es in
    let rest : List Label = labels img (step img d).0 later in
    step_among P n (labels img c es) rest shown
    (subst (λ s. AllByRecursion (λ (item : Item). P item.what) (items_of n (labels img c es ++ Stepped s ∷ rest))) is
    (subst (λ ls. AllByRecursion (λ (item : Item). P item.what) (items_of n ls))
    (labels-append img c es (Step ∷ later)) all))

set_zeros : (n k : ℕ) → set {A = ℕ} (replicate n 0) k 0 ≡ replicate n 0
set_zeros zero k = refl
set_zeros (suc n) zero = refl
set_zeros (suc n) (suc k) = ap (λ (ws : List ℕ). 0 ∷ ws) (set_zeros n k)

abbrev Empty : Entry → Type 0
Empty e = IsEmpty (request_of e.call)

-- a core of a pair that posts nothing by its own events
module _ {place : CorePlace} {img : Image} {other : Names} {events : List Event} {found : List (List ℕ)}
    {history : List Entry} (is : IsCourse place img other events found history) where
  -- the calls of its line in a history of latches of 0
  empty_part : (es : List Entry) → AllByRecursion Empty es
      → AllByRecursion IsEmpty (map request_of (part es place.line))
  empty_part es all =
      all_map request_of (λ c. IsEmpty (request_of c)) IsEmpty (λ c empty. empty) (part es place.line)
      (part_all (λ c. IsEmpty (request_of c)) es place.line all)

  -- pends nothing while its looks find nothing
  none_pended : PostsNothing img other events → (front rest : List Entry) (bit : ℕ) (answer : Pended)
      → history ≡ front ++ record { line = place.line; call = Pend bit answer } ∷ rest → AllByRecursion Empty front → ⊥
  none_pended silent front rest bit answer same all =
      let route : ℕ → Option ℕ = forward img other in
      let p = precede is front rest bit answer same in
      let made : AllByRecursion IsEmpty (turn_requests route place.here place.there img (reset img) p.earlier p.seen) =
      subst (AllByRecursion IsEmpty) p.made_parts (empty_part front all) in
      let own : interleaving p.earlier p.seen ≡ events_of p.earlier =
      alone place.here p.earlier p.seen p.many
      (looks_in route place.here place.there img IsEmpty (reset img) p.earlier p.seen p.many made) in
      let parts : events ≡ events_of p.earlier ++ Step ∷ events_of p.later =
      sym (turn_events events) ∙ ap events_of p.parts ∙ events_of-append p.earlier (Happens Step ∷ p.later) in
      let nowhere : routed route (Some (what.Post p.post)) ≡ None =
      shown_after (λ w. routed route (Some w) ≡ None) img (reset img) 0 (events_of p.earlier) (events_of p.later)
      (what.Post p.post) (subst (λ es. PostsNothing img other es) parts silent)
      (ap (λ es. (step img (core_after img (reset img) es)).1) (sym own) ∙ p.shows) in
      let leads : route p.post ≡ Some p.irq = p.leads in
      absurd (cc)

  -- where all calls were latches of 0, its looks found nothing
  empty_looks : AllByRecursion Empty history → AllByRecursion IsEmptyLook found
  empty_looks all =
      all_weaker (λ ws. IsWholeLook ws × AllByRecursion IsEmpty (look_requests place.here ws)) IsEmptyLook
      (λ ws both. empty_words _ ws both.1 ∙ ap (λ n. replicate n 0) both.0) found
      (all_both IsWholeLook (λ ws. AllByRecursion IsEmpty (look_requests place.here ws)) found is.whole
      (looks_in (forward img other) place.here place.there img IsEmpty (reset img) (turns events) found is.many
      (subst (AllByRecursion IsEmpty) is.called (empty_part history all))))

module _ (first second : Image) (script : List Line) (bytes : List ℕ) (p : IsPairText first second script bytes)
    (one_posts : PostsNothing first second.names (first_events script))
    (two_posts : PostsNothing second first.names (second_events script)) where
  no_pend_yet : (front rest : List Entry) (line bit : ℕ) (answer : Pended)
      → p.history ≡ front ++ record { line = line; call = Pend bit answer } ∷ rest → AllByRecursion Empty front → ⊥
  no_pend_yet front rest line bit answer same all = by (ℕ_discrete line 255) (ℕ_discrete line 254)
    where
      at : (n : ℕ) → line ≡ n → p.history ≡ front ++ record { line = n; call = Pend bit answer } ∷ rest
      at n is = subst (λ m. p.history ≡ front ++ record { line = m; call = Pend bit answer } ∷ rest) is same

      by : Dec (line ≡ 255) → Dec (line ≡ 254) → ⊥
      by (yes is) no_matter = none_pended p.is_one one_posts front rest bit answer (at 255 is) all
      by (no ne) (yes is) = none_pended p.is_two two_posts front rest bit answer (at 254 is) all
      by (no ne) (no other) =
          none_in (part front line) (part rest line) (Pend bit answer)
          (sym (part_there front rest line (Pend bit answer)) ∙ ap (λ (es : List Entry). part es line) (sym same)
          ∙ p.others line ne other)

  -- the next call finds nothing, and leaves nothing
  next : (front rest : List Entry) (line : ℕ) (c : Call) → p.history ≡ front ++ record { line = line; call = c } ∷ rest
      → AllByRecursion Empty front → IsAnswered (replicate 32 0) c
      → IsEmpty (request_of c) × (after (replicate 32 0) c ≡ replicate 32 0)
  next front rest line (Latch k word) same all is = (is ∙ zeros 32 k, set_zeros 32 k)
  next front rest line (Pend bit answer) same all is = absurd (no_pend_yet front rest line bit answer same all)

  all_empty : (front rest : List Entry) → p.history ≡ front ++ rest → LeavesWords (replicate 32 0) rest p.left
      → AllByRecursion Empty front → AllByRecursion Empty rest
  all_empty front [] same leaves all = tt
  all_empty front (e ∷ rest) same leaves all =
      let now = next front rest e.line e.call same all leaves.0 in (
        now.0,
        all_empty (front ++ e ∷ []) rest (same ∙ sym (append_assoc front (e ∷ []) rest))
            (subst (λ (ws : List ℕ). LeavesWords ws rest p.left) now.1 leaves.1)
            (all_append Empty front (e ∷ []) all (now.0, tt)),
      )

  pub nothing : AllByRecursion IsEmptyLook p.one × AllByRecursion IsEmptyLook p.two
  nothing =
      let empty : AllByRecursion Empty p.history = all_empty [] p.history refl p.legal tt in
      (empty_looks p.is_one empty, empty_looks p.is_two empty)
