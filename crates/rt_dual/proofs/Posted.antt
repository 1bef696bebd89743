-- What a core asks of the words: on which words and bits, and where a pend stands among its calls.
use Rattle.rt_live.proofs.Vocabulary.{AllByRecursion, Arrive, Asks as Pends, Core, Event, Happens, Image, IsWholeLook}
use Rattle.rt_live.proofs.Vocabulary.{Latches, List, Looks, None, Option, Request, Some, Step, Tick, Turn, What, []}
use Rattle.rt_live.proofs.Vocabulary.{all_append, all_behind, all_front, ap, append-nil, append_assoc, arith}
use Rattle.rt_live.proofs.Vocabulary.{bit_in_row, drop, inl, inr, interleaving, last_turns, length, length-append}
use Rattle.rt_live.proofs.Vocabulary.{look_arrivals, look_calls_from, look_requests, looks, map, option_to_list}
use Rattle.rt_live.proofs.Vocabulary.{post_requests, refl, request_of, routed, step, step_item, subst, suc, sym}
use Rattle.rt_live.proofs.Vocabulary.{turn_requests, with_looks, word_in_row, ℕ, ◌*◌, ◌++◌, ◌+◌, ◌<◌, ◌∙◌, ◌∷◌, ◌≡◌}
use Rattle.rt_live.proofs.Vocabulary.{◌≤◌, ◌⊎◌}
use Rattle.rt_dual.proofs.Vocabulary.{events_of, events_of-append, turns}
use Rattle.rt_core.specs.Trace.{core_after}
use Rattle.rt_core.proofs.Happening.{core_after-append}
use Rattle.rt_live.proofs.Woven.{events_own}
use Rattle.rt_dual.specs.{Laws.IsPosted}
use Rattle.rt_trace.specs.declared.item.What.TheVariants as what

-- the events of a core's turns are its own
pub turn_events : (es : List Event) → events_of (turns es) ≡ es
turn_events es =
    events_of-append (with_looks es) (last_turns 0) ∙ append-nil (events_of (with_looks es)) ∙ events_own es

-- an element of two lists stands in the first or in the second
pub split_at : {X : Type 0} (front rest xs ys : List X) (x : X) → front ++ x ∷ rest ≡ xs ++ ys
    → ((more : List X) × (xs ≡ front ++ x ∷ more)) ⊎ ((more : List X) × (front ≡ xs ++ more) × (more ++ x ∷ rest ≡ ys))
split_at front rest [] ys x same = inr (front, refl, same)
split_at [] rest (y ∷ xs) ys x same = let head : y ≡ x = cc in inl (xs, ap (λ z. z ∷ xs) head)
split_at (z ∷ front) rest (y ∷ xs) ys x same =
    let head : z ≡ y = cc in
    elim (split_at front rest xs ys x (ap (drop 1) same)) [
      | inl in_first ↦ inl (in_first.0, ap (λ w. w ∷ xs) (sym head) ∙ ap (λ zs. z ∷ zs) in_first.1)
      | inr in_second ↦ inr (in_second.0, ap (λ w. w ∷ front) head ∙ ap (λ zs. y ∷ zs) in_second.1, in_second.2)
    ]

pub none_in : {X : Type 0} (front rest : List X) (x : X) → front ++ x ∷ rest ≡ [] → ⊥
none_in [] rest x same = absurd (cc)
none_in (y ∷ front) rest x same = absurd (cc)

-- a latch of a word of the core `here`, or a pend of a bit of the core `there`
abbrev pub Within : ℕ → ℕ → Request → Type 0
Within here there (Pends bit) = (512 * there ≤ bit) × (bit < 512 * there + 512)
Within here there (Latches word found) = (16 * here ≤ word) × (word < 16 * here + 16)

abbrev IsLatch : Request → Type 0
IsLatch (Pends bit) = ⊥
IsLatch (Latches word found) = Unit {0}

latches : (k : ℕ) (words : List ℕ) → AllByRecursion IsLatch (map request_of (look_calls_from k words))
latches k [] = tt
latches k (word ∷ words) = (tt, latches (suc k) words)

-- a look pends nothing
pub no_pend : (here : ℕ) (words : List ℕ) (front more : List Request) (bit : ℕ)
    → look_requests here words ≡ front ++ Pends bit ∷ more → ⊥
no_pend here words front more bit same =
    let all : AllByRecursion IsLatch (front ++ Pends bit ∷ more) =
    subst (AllByRecursion IsLatch) same (latches (word_in_row here 0) words) in
    (all_behind IsLatch front (Pends bit ∷ more) all).0

-- where an item leads there is a post that leads there
post_of : (route : ℕ → Option ℕ) (shown : Option What) (irq : ℕ) → routed route shown ≡ Some irq
    → (post : ℕ) × (shown ≡ Some (what.Post post)) × (route post ≡ Some irq)
post_of route None irq is = absurd (cc)
post_of route (Some (what.Post post)) irq is = (post, refl, is)
post_of route (Some w) irq is = absurd (cc)

module _ (route : ℕ → Option ℕ) (here there : ℕ) (img : Image) where
  abbrev asks : Core → List Turn → List (List ℕ) → List Request
  asks c ts found = turn_requests route here there img c ts found

  module _ (low : (post irq : ℕ) → route post ≡ Some irq → irq < 512) where
    look_within : (k : ℕ) (words : List ℕ) → 16 * here ≤ k → k + length words ≤ 16 * here + 16
        → AllByRecursion (Within here there) (map request_of (look_calls_from k words))
    look_within k [] least most = tt
    look_within k (word ∷ words) least most = (
      (least, omega (arith, most)),
      look_within (suc k) words (omega (arith, least)) (omega (arith, most)),
    )

    post_within : (shown : Option What) → AllByRecursion (Within here there) (post_requests route there shown)
    post_within shown = by (routed route shown) refl
      where
        by : (o : Option ℕ) → routed route shown ≡ o
            → AllByRecursion (Within here there) (map (λ irq. Pends (bit_in_row there irq)) (option_to_list o))
        by None is = tt
        by (Some irq) is =
            let post = post_of route shown irq is in
            ((omega arith, omega (arith, low post.0 irq post.2)), tt)

    -- all that turns ask for
    pub asks_within : (c : Core) (ts : List Turn) (found : List (List ℕ)) → AllByRecursion IsWholeLook found
        → AllByRecursion (Within here there) (asks c ts found)
    asks_within c [] found whole = tt
    asks_within c (Happens e ∷ ts) found whole =
        let d : Core = core_after img c (e ∷ []) in
        all_append (Within here there) (post_requests route there (step_item img c e)) (asks d ts found)
        (post_within (step_item img c e)) (asks_within d ts found whole)
    asks_within c (Looks ∷ ts) [] whole = tt
    asks_within c (Looks ∷ ts) (ws ∷ found) whole =
        let d : Core = core_after img c (look_arrivals ws) in
        all_append (Within here there) (look_requests here ws) (asks d ts found) (look_within (word_in_row here 0) ws
        (omega arith) (omega (arith, whole.0))) (asks_within d ts found whole.1)

  -- what is so of all that turns ask for is so of the requests of each of their looks
  pub looks_in : (P : Request → Type 0) (c : Core) (ts : List Turn) (found : List (List ℕ)) → length found ≡ looks ts
      → AllByRecursion P (asks c ts found) → AllByRecursion (λ ws. AllByRecursion P (look_requests here ws)) found
  looks_in P c ts [] many all = tt
  looks_in P c [] (ws ∷ found) many all = absurd (omega (arith, many))
  looks_in P c (Happens e ∷ ts) (ws ∷ found) many all =
      let d : Core = core_after img c (e ∷ []) in
      looks_in P d ts (ws ∷ found) many
      (all_behind P (post_requests route there (step_item img c e)) (asks d ts (ws ∷ found)) all)
  looks_in P c (Looks ∷ ts) (ws ∷ found) many all =
      let d : Core = core_after img c (look_arrivals ws) in
      let look : List Request = look_requests here ws in (
        all_front P look (asks d ts found) all,
        looks_in P d ts found (omega (arith, many)) (all_behind P look (asks d ts found) all),
      )

  abbrev Posts : Core → List Turn → List (List ℕ) → List Request → ℕ → Type 0
  Posts c ts found front bit = IsPosted route here there img c ts found front bit

  -- a pend of a step is what it shows
  posted_here : (shown : Option What) (front more : List Request) (bit : ℕ)
      → front ++ Pends bit ∷ more ≡ post_requests route there shown
      → (front ≡ [])
      × ((post : ℕ) × (irq : ℕ) × (shown ≡ Some (what.Post post)) × (route post ≡ Some irq)
      × (bit ≡ bit_in_row there irq))
  posted_here shown front more bit same = by (routed route shown) refl front same
    where
      by : (o : Option ℕ) → routed route shown ≡ o → (rs : List Request)
          → rs ++ Pends bit ∷ more ≡ map (λ irq. Pends (bit_in_row there irq)) (option_to_list o)
          → (rs ≡ [])
          × ((post : ℕ) × (irq : ℕ) × (shown ≡ Some (what.Post post)) × (route post ≡ Some irq)
          × (bit ≡ bit_in_row there irq))
      by None is rs eq = absurd (none_in rs more (Pends bit) eq)
      by (Some irq) is [] eq =
          let post = post_of route shown irq is in
          let at : bit ≡ bit_in_row there irq = cc in
          (refl, (post.0, irq, post.1, post.2, at))
      by (Some irq) is (r ∷ rs) eq = absurd (none_in rs more (Pends bit) (ap (drop 1) eq))

  -- a turn that comes before others with these looks, by which this happens and this is asked for
  module _ (c : Core) (t : Turn) (looked : List (List ℕ)) (came : List Event) (asked : List Request)
      (many : (ts : List Turn) → length looked + looks ts ≡ looks (t ∷ ts))
      (woven : (ts : List Turn) (fs : List (List ℕ)) → interleaving (t ∷ ts)
      (looked ++ fs) ≡ came ++ interleaving ts fs)
      (asks_on : (ts : List Turn) (fs : List (List ℕ)) → asks c (t ∷ ts) (looked ++ fs)
      ≡ asked ++ asks (core_after img c came) ts fs) where
    behind : (ts : List Turn) (found : List (List ℕ)) (front : List Request) (bit : ℕ)
        → Posts (core_after img c came) ts found front bit → Posts c (t ∷ ts) (looked ++ found) (asked ++ front) bit
    behind ts found front bit p = record {
      earlier = t ∷ p.earlier;
      later = p.later;
      parts = ap (λ us. t ∷ us) p.parts;
      seen = looked ++ p.seen;
      unseen = p.unseen;
      found_parts = ap (λ fs. looked ++ fs) p.found_parts ∙ sym (append_assoc looked p.seen p.unseen);
      many = omega (arith, length-append looked p.seen, p.many, many p.earlier);
      made_parts = ap (λ rs. asked ++ rs) p.made_parts ∙ sym (asks_on p.earlier p.seen);
      post = p.post;
      irq = p.irq;
      shows =
          ap (λ es. (step img (core_after img c es)).1) (woven p.earlier p.seen)
          ∙ ap (λ (d : Core). (step img d).1) (core_after-append img c came (interleaving p.earlier p.seen))
          ∙ p.shows;
      leads = p.leads;
      is = p.is;
    }

  nothing_yet : (c : Core) → core_after img c [] ≡ c
  unfolding core_after
  nothing_yet c = refl

  -- each pend among what turns ask for
  pub posted : (c : Core) (ts : List Turn) (found : List (List ℕ)) (front rest : List Request) (bit : ℕ)
      → front ++ Pends bit ∷ rest ≡ asks c ts found → Posts c ts found front bit
  posted c [] found front rest bit same = absurd (none_in front rest (Pends bit) same)
  posted c (Looks ∷ ts) [] front rest bit same = absurd (none_in front rest (Pends bit) same)
  posted c (Looks ∷ ts) (ws ∷ found) front rest bit same =
      let look : List Request = look_requests here ws in
      let d : Core = core_after img c (look_arrivals ws) in
      elim (split_at front rest look (asks d ts found) (Pends bit) same) [
        | inl looked ↦ absurd (no_pend here ws front looked.0 bit looked.1)
        | inr past ↦
            subst (λ rs. Posts c (Looks ∷ ts) (ws ∷ found) rs bit) (sym past.1)
            (behind c Looks (ws ∷ []) (look_arrivals ws) look (λ us. omega arith) (λ us fs. refl) (λ us fs. refl) ts
            found past.0 bit (posted d ts found past.0 rest bit past.2))
      ]
  posted c (Happens Tick ∷ ts) found front rest bit same =
      behind c (Happens Tick) [] (Tick ∷ []) [] (λ us. omega arith) (λ us fs. refl) (λ us fs. refl) ts found front bit
      (posted (core_after img c (Tick ∷ [])) ts found front rest bit same)
  posted c (Happens (Arrive irq) ∷ ts) found front rest bit same =
      behind c (Happens (Arrive irq)) [] (Arrive irq ∷ []) [] (λ us. omega arith) (λ us fs. refl) (λ us fs. refl) ts
      found front bit (posted (core_after img c (Arrive irq ∷ [])) ts found front rest bit same)
  posted c (Happens Step ∷ ts) found front rest bit same =
      let posts : List Request = post_requests route there (step img c).1 in
      let d : Core = core_after img c (Step ∷ []) in
      elim (split_at front rest posts (asks d ts found) (Pends bit) same) [
        | inl at ↦ let p = posted_here (step img c).1 front at.0 bit (sym at.1) in
            record {
              earlier = [];
              later = ts;
              parts = refl;
              seen = [];
              unseen = found;
              found_parts = refl;
              many = refl;
              made_parts = p.0;
              post = p.1.0;
              irq = p.1.1;
              shows = ap (λ (d : Core). (step img d).1) (nothing_yet c) ∙ p.1.2;
              leads = p.1.3;
              is = p.1.4;
            }
        | inr past ↦
            subst (λ rs. Posts c (Happens Step ∷ ts) found rs bit) (sym past.1)
            (behind c (Happens Step) [] (Step ∷ []) posts (λ us. omega arith) (λ us fs. refl) (λ us fs. refl) ts found
            past.0 bit (posted d ts found past.0 rest bit past.2))
      ]
