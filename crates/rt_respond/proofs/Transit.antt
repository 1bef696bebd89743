-- The priorities at which places may be in transit, one after another.
use Rattle.std.proofs.Common.{◌≡◌, ℕ, suc, ◌+◌, Bool, true, false, if◌then◌else◌, List, [], ◌∷◌, ◌++◌, sym, ap}
use Rattle.std.proofs.Common.{◌∙◌, arith}
use Rattle.std.proofs.lemmas.List.{append-nil}
use Rattle.rt_ids.specs.Lists.{those_below}

pub none_yet : (test : ℕ → Bool) (found : List ℕ) → found ≡ [] → found ≡ those_below test 0
unfolding those_below
none_yet test found is = is

module _ (test : ℕ → Bool) (n : ℕ) (before found : List ℕ) (so_far : before ≡ those_below test n) where
  next : (b : Bool) → test n ≡ b → before ++ (if b then n ∷ [] else []) ≡ those_below test (n + 1)
  unfolding those_below
  next b is =
      let e : suc n ≡ n + 1 = omega arith in
      ap (λ xs. xs ++ (if b then n ∷ [] else [])) so_far
      ∙ ap (λ c. those_below test n ++ (if c then n ∷ [] else [])) (sym is) ∙ ap (those_below test) e

  pub one_more : test n ≡ true → found ≡ before ++ n ∷ [] → found ≡ those_below test (n + 1)
  one_more is pushed = pushed ∙ next true is

  pub none_more : test n ≡ false → found ≡ before → found ≡ those_below test (n + 1)
  none_more is same = same ∙ sym (append-nil before) ∙ next false is
