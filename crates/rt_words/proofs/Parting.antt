-- A history's calls, counted by the parts that it has.
use Rattle.std.proofs.Common.{◌≡◌, ℕ, ◌+◌, ◌≢◌, Bool, cond, eqb, List, [], ◌∷◌, map, filter, count_by, sum_by, Contains}
use Rattle.std.proofs.Common.{refl, sym, ap, ◌∙◌, subst, ⊎_elim, arith, eq-eqb, ne_eqb}
use Rattle.std.proofs.lemmas.List.Sums.{sum_by-cons}
use mathlib.Core.Logic.{dite}
use native.Mathlib.Decide.{ℕ_discrete}
use Rattle.rt_words.specs.declared.call.Call.{Call}
use Rattle.rt_words.specs.declared.view.Part.{Part}
use Rattle.rt_words.specs.History.{Entry, part}
use Rattle.rt_words.specs.Lines.{numbers}
use Rattle.rt_words.specs.Inside.Seats.{Distinct}
use Rattle.rt_words.specs.Ending.{calls_in}
use Rattle.rt_words.proofs.Lists.{in_head, in_tail, in_cases, in_none}
use Rattle.rt_words.proofs.Accounting.{count_first}

pub part_first : (e : Entry) (es : List Entry) (n : ℕ) → e.line ≡ n → part (e ∷ es) n ≡ e.call ∷ part es n
part_first e es n is = ap (λ b. map (λ (x : Entry). x.call)
    (cond b (e ∷ filter (λ (x : Entry). eqb x.line n) es) (filter (λ (x : Entry). eqb x.line n) es)))
    (eq-eqb e.line n is)

pub part_rest : (e : Entry) (es : List Entry) (n : ℕ) → e.line ≢ n → part (e ∷ es) n ≡ part es n
part_rest e es n ne = ap (λ b. map (λ (x : Entry). x.call)
    (cond b (e ∷ filter (λ (x : Entry). eqb x.line n) es) (filter (λ (x : Entry). eqb x.line n) es)))
    (ne_eqb e.line n ne)

-- the history without the calls of a number
abbrev without : ℕ → List Entry → List Entry
without n [] = []
without n (e ∷ es) = cond (eqb e.line n) (without n es) (e ∷ without n es)

without_yes : (e : Entry) (es : List Entry) (n : ℕ) → e.line ≡ n → without n (e ∷ es) ≡ without n es
without_yes e es n is = ap (λ b. cond b (without n es) (e ∷ without n es)) (eq-eqb e.line n is)

without_no : (e : Entry) (es : List Entry) (n : ℕ) → e.line ≢ n → without n (e ∷ es) ≡ e ∷ without n es
without_no e es n ne = ap (λ b. cond b (without n es) (e ∷ without n es)) (ne_eqb e.line n ne)

part_without : (history : List Entry) (n m : ℕ) → n ≢ m → part (without n history) m ≡ part history m
part_without [] n m ne = refl
part_without (e ∷ es) n m ne = dite (ℕ_discrete e.line n)
    (λ is. ap (λ (h : List Entry). part h m) (without_yes e es n is) ∙ part_without es n m ne
    ∙ sym (part_rest e es m (λ f. ne (sym is ∙ f))))
    (λ no_. ap (λ (h : List Entry). part h m) (without_no e es n no_) ∙ dite (ℕ_discrete e.line m)
    (λ f. part_first e (without n es) m f ∙ ap (λ (t : List Call). e.call ∷ t) (part_without es n m ne)
    ∙ sym (part_first e es m f))
    (λ f. part_rest e (without n es) m f ∙ part_without es n m ne ∙ sym (part_rest e es m f)))

part_gone : (history : List Entry) (n : ℕ) → part (without n history) n ≡ []
part_gone [] n = refl
part_gone (e ∷ es) n = dite (ℕ_discrete e.line n)
    (λ is. ap (λ (h : List Entry). part h n) (without_yes e es n is) ∙ part_gone es n)
    (λ no_. ap (λ (h : List Entry). part h n) (without_no e es n no_) ∙ part_rest e (without n es) n no_
    ∙ part_gone es n)

module _ (p : Call → Bool) where
  count_apart : (history : List Entry) (n : ℕ) → count_by p (calls_in history) ≡ count_by p (part history n)
      + count_by p (calls_in (without n history))
  count_apart [] n = refl
  count_apart (e ∷ es) n =
      let rest = count_apart es n in
      let one = count_first p e.call (calls_in es) in
      dite (ℕ_discrete e.line n)
      (λ is.
      let a = ap (count_by p) (part_first e es n is) in
      let b = count_first p e.call (part es n) in
      let c = ap (λ (h : List Entry). count_by p (calls_in h)) (without_yes e es n is) in
      omega (arith, rest, one, a, b, c))
      (λ ne.
      let a = ap (count_by p) (part_rest e es n ne) in
      let b = count_first p e.call (calls_in (without n es)) in
      let c = ap (λ (h : List Entry). count_by p (calls_in h)) (without_no e es n ne) in
      omega (arith, rest, one, a, b, c))

  -- a history without parts is empty
  none_left : (history : List Entry) → ((n : ℕ) → part history n ≡ []) → count_by p (calls_in history) ≡ 0
  none_left [] h = refl
  none_left (e ∷ es) h = let f : e.call ∷ part es e.line ≡ [] = sym (part_first e es e.line refl) ∙ h e.line in
      absurd cc

  sum_same : (f g : ℕ → ℕ) (ns : List ℕ) → ((n : ℕ) → Contains ns n → f n ≡ g n) → sum_by f ns ≡ sum_by g ns
  sum_same f g [] h = refl
  sum_same f g (n ∷ ns) h =
      let a = h n (in_head n ns) in
      let b = sum_same f g ns (λ m t. h m (in_tail n m ns t)) in
      omega (arith, a, b, sum_by-cons f n ns, sum_by-cons g n ns)

  by_numbers : (history : List Entry) (ns : List ℕ) → Distinct ns → ((n : ℕ) → ¬ Contains ns n → part history n ≡ [])
      → count_by p (calls_in history) ≡ sum_by (λ n. count_by p (part history n)) ns
  by_numbers history [] apart out = none_left history (λ n. out n (in_none n))
  by_numbers history (n ∷ ns) apart out =
      let rest = by_numbers (without n history) ns apart.1 (λ m no_. dite (ℕ_discrete n m)
      (λ e. subst (λ (k : ℕ). part (without n history) k ≡ []) e (part_gone history n))
      (λ ne. part_without history n m ne ∙ out m (λ t. ⊎_elim ne no_ (in_cases n m ns t)))) in
      let same = sum_same (λ m. count_by p (part (without n history) m)) (λ m. count_by p (part history m)) ns
      (λ m t. ap (count_by p) (part_without history n m
      (λ e. apart.0 (subst (λ (k : ℕ). Contains ns k) (sym e) t)))) in
      let one = count_apart history n in
      let all = sum_by-cons (λ m. count_by p (part history m)) n ns in
      omega (arith, rest, same, one, all)

  sum_parts : (history : List Entry) (parts : List Part)
      → ((q : Part) → Contains parts q → part history q.line ≡ q.calls)
      → sum_by (λ n. count_by p (part history n)) (numbers parts) ≡ sum_by (λ (q : Part). count_by p q.calls) parts
  sum_parts history [] h = refl
  sum_parts history (q ∷ qs) h =
      let a = ap (count_by p) (h q (in_head q qs)) in
      let b = sum_parts history qs (λ r t. h r (in_tail q r qs t)) in
      omega (
        arith,
        a,
        b,
        sum_by-cons (λ n. count_by p (part history n)) q.line (numbers qs),
        sum_by-cons (λ (r : Part). count_by p r.calls) q qs,
      )

  -- the calls are those of the first line and of the gathered ones
  pub by_parts : (history : List Entry) (mine : List Call) (parts : List Part) → part history 255 ≡ mine
      → ((q : Part) → Contains parts q → part history q.line ≡ q.calls)
      → ¬ Contains (numbers parts) 255 → Distinct (numbers parts)
      → ((n : ℕ) → n ≢ 255 → ¬ Contains (numbers parts) n → part history n ≡ [])
      → count_by p (calls_in history) ≡ count_by p mine + sum_by (λ (q : Part). count_by p q.calls) parts
  by_parts history mine parts own is other apart out =
      let all = by_numbers history (255 ∷ numbers parts) (other, apart)
      (λ n no_. out n (λ e. no_ (subst (λ (k : ℕ). Contains (k ∷ numbers parts) n) e (in_head n (numbers parts))))
      (λ t. no_ (in_tail 255 n (numbers parts) t))) in
      let a = ap (count_by p) own in
      omega (
        arith,
        all,
        a,
        sum_by-cons (λ n. count_by p (part history n)) 255 (numbers parts),
        sum_parts history parts is,
      )
