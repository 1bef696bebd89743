-- On the outermost of sections that hold a priority off, each with a number.
use Rattle.std.proofs.Common.{◌≡◌, ℕ, ◌≤◌, ◌<◌, nat_le, Bool, true, false, List, [], ◌∷◌, length, drop, map, Option}
use Rattle.std.proofs.Common.{Some, None, option_map, IfSome, refl, sym, ap, subst, ◌∙◌, arith}
use Rattle.std.specs.List.{AllByRecursion}
use Rattle.std.proofs.lemmas.Bool.{leb-true, leb-false}
use Rattle.std.proofs.lemmas.Option.{same_Some, none-some}
use Rattle.rt_ids.specs.declared.ids.Section.{Section}
use Rattle.rt_app.specs.Tree.{App}
use Rattle.rt_app.specs.Ceiling.{ceiling}
use Rattle.rt_laws.specs.Preemption.{greatest_ceiling}
use Rattle.rt_laws.specs.Waiting.{outer_or, outermost}

outer_map : (f : ℕ → ℕ) (n : ℕ) (b : Bool) (o : Option ℕ)
    → outer_or (f n) b (option_map f o) ≡ option_map f (outer_or n b o)
outer_map f n b (Some m) = refl
outer_map f n true None = refl
outer_map f n false None = refl

outer_kept : (n : ℕ) (b : Bool) (o : Option ℕ) (P : ℕ → Type 0) → IfSome (outer_or n b o) P → IfSome o P
outer_kept n b (Some m) P h = h
outer_kept n b None P h = tt

-- where there is none, this one does not hold the priority off, and none further out does
outer_none : (n : ℕ) (b : Bool) (o : Option ℕ) → outer_or n b o ≡ None → (b ≡ false) × (o ≡ None)
outer_none n b (Some m) h = cc
outer_none n true None h = cc
outer_none n false None h = (refl, refl)

-- it is this one, where none further out is
outer_cases : (n : ℕ) (b : Bool) (o : Option ℕ) (P : ℕ → Type 0) → (b ≡ true → o ≡ None → P n) → IfSome o P
    → IfSome (outer_or n b o) P
outer_cases n b (Some m) P here out = out
outer_cases n true None P here out = here refl refl
outer_cases n false None P here out = tt

both_outer : (n m l : ℕ) (b : Bool) (o u : Option ℕ) → ((k : ℕ) → o ≡ Some k → (e : ℕ) × (u ≡ Some e))
    → outer_or n b o ≡ Some l
    → (e : ℕ) × (outer_or m b u ≡ Some e)
both_outer n m l b (Some k) u some h = let there = some k refl in (there.0, ap (outer_or m b) there.1)
both_outer n m l true None (Some e) some h = (e, refl)
both_outer n m l true None None some h = (m, refl)
both_outer n m l false None u some h = absurd (none-some l h)

module _ (app : App) (p : ℕ) where
  pub outermost_map : (f : ℕ → ℕ) (xs : List Section) (ns : List ℕ)
      → outermost app p xs (map f ns) ≡ option_map f (outermost app p xs ns)
  outermost_map f [] ns = refl
  outermost_map f (x ∷ xs) [] = refl
  outermost_map f (x ∷ xs) (n ∷ ns) = ap (outer_or (f n) (nat_le p (ceiling app x))) (outermost_map f xs ns)
      ∙ outer_map f n (nat_le p (ceiling app x)) (outermost app p xs ns)

  -- where none holds the priority off, all their ceilings are below it
  pub none_outermost : (xs : List Section) (ns : List ℕ) → length ns ≡ length xs → 0 < p
      → outermost app p xs ns ≡ None → greatest_ceiling app xs < p
  none_outermost [] ns long positive none = positive
  none_outermost (x ∷ xs) [] long positive none = absurd (omega arith)
  none_outermost (x ∷ xs) (n ∷ ns) long positive none =
      let parts = outer_none n (nat_le p (ceiling app x)) (outermost app p xs ns) none in
      let here : ceiling app x < p = leb-false p (ceiling app x) parts.0 in
      let out : greatest_ceiling app xs < p = none_outermost xs ns (omega arith) positive parts.1 in
      omega arith

  -- and where their ceilings are below it none does
  pub below_outermost : (xs : List Section) (ns : List ℕ) → greatest_ceiling app xs < p → outermost app p xs ns ≡ None
  below_outermost [] ns below = refl
  below_outermost (x ∷ xs) [] below = refl
  below_outermost (x ∷ xs) (n ∷ ns) below =
      let out : greatest_ceiling app xs < p = omega arith in
      go (nat_le p (ceiling app x)) refl (below_outermost xs ns out)
    where
      go : (b : Bool) → nat_le p (ceiling app x) ≡ b → outermost app p xs ns ≡ None
          → outer_or n b (outermost app p xs ns) ≡ None
      go true holds none = (let within : p ≤ ceiling app x = leb-true p (ceiling app x) holds in absurd (omega arith))
      go false holds none = ap (outer_or n false) none

  -- the same sections with other numbers have one where these have one
  pub both_outermost : (xs : List Section) (ns ms : List ℕ) (l : ℕ) → length ms ≡ length xs
      → outermost app p xs ns ≡ Some l
      → (e : ℕ) × (outermost app p xs ms ≡ Some e)
  both_outermost [] ns ms l long h = absurd (none-some l h)
  both_outermost (x ∷ xs) [] ms l long h = absurd (none-some l h)
  both_outermost (x ∷ xs) (n ∷ ns) [] l long h = absurd (omega arith)
  both_outermost (x ∷ xs) (n ∷ ns) (m ∷ ms) l long h =
      both_outer n m l (nat_le p (ceiling app x)) (outermost app p xs ns) (outermost app p xs ms)
      (λ k is. both_outermost xs ns ms k (omega arith) is) h

  -- what holds of the outermost holds of it without the innermost
  pub outermost_drop : (P : ℕ → Type 0) (xs : List Section) (ns : List ℕ) → length ns ≡ length xs
      → IfSome (outermost app p xs ns) P
      → IfSome (outermost app p (drop 1 xs) (drop 1 ns)) P
  outermost_drop P [] ns long h = tt
  outermost_drop P (x ∷ xs) [] long h = absurd (omega arith)
  outermost_drop P (x ∷ xs) (n ∷ ns) long h = outer_kept n (nat_le p (ceiling app x)) (outermost app p xs ns) P h

  -- a section more, innermost
  pub outermost_more : (P : ℕ → Type 0) (x : Section) (c : ℕ) (xs : List Section) (ns : List ℕ)
      → length ns ≡ length xs → 0 < p
      → (greatest_ceiling app xs < p → p ≤ ceiling app x → P c) → IfSome (outermost app p xs ns) P
      → IfSome (outermost app p (x ∷ xs) (c ∷ ns)) P
  outermost_more P x c xs ns long positive here out =
      outer_cases c (nat_le p (ceiling app x)) (outermost app p xs ns) P
      (λ holds none. here (none_outermost xs ns long positive none) (leb-true p (ceiling app x) holds)) out

  -- what holds of all numbers holds of that of the outermost
  pub outermost_all : (P : ℕ → Type 0) (xs : List Section) (ns : List ℕ) → AllByRecursion P ns
      → IfSome (outermost app p xs ns) P
  outermost_all P [] ns all = tt
  outermost_all P (x ∷ xs) [] all = tt
  outermost_all P (x ∷ xs) (n ∷ ns) all =
      outer_cases n (nat_le p (ceiling app x)) (outermost app p xs ns) P (λ holds none. all.0)
      (outermost_all P xs ns all.1)

  -- which is the one further out where there is one
  pub outermost_grown : (x : Section) (c n : ℕ) (xs : List Section) (ns : List ℕ) → outermost app p xs ns ≡ Some n
      → outermost app p (x ∷ xs) (c ∷ ns) ≡ Some n
  outermost_grown x c n xs ns is = ap (outer_or c (nat_le p (ceiling app x))) is

-- The outermost section that holds a priority off, entered in this step, has at most so many steps left; or there is
-- none.
abbrev pub Behind : ℕ → ℕ → Option ℕ → Option ℕ → Type 0
Behind entered left None since = Unit {0}
Behind entered left (Some n) since = (since ≡ Some entered) × (n ≤ left)

pub behind_is : (entered left n : ℕ) (o since : Option ℕ) → o ≡ Some n → since ≡ Some entered → n ≤ left
    → Behind entered left o since
behind_is entered left n o since is then less = subst (λ u. Behind entered left u since) (sym is) (then, less)

dropped_is : (c n m : ℕ) (b : Bool) (o : Option ℕ) → outer_or c b o ≡ Some n → o ≡ Some m → m ≡ n
dropped_is c n m b None is there = absurd (none-some m there)
dropped_is c n m b (Some k) is there = sym (same_Some k m there) ∙ same_Some k n is

module _ (app : App) (p : ℕ) where
  -- Without the innermost there is none, or it is the same.
  pub outermost_kept : (entered left : ℕ) (xs : List Section) (ns : List ℕ) (ys : List Section) (ms : List ℕ)
      → xs ≡ ys → length ns ≡ length xs → length ms ≡ length xs
      → outermost app p xs ns ≡ Some left → outermost app p ys ms ≡ Some entered
      → Behind entered left (outermost app p (drop 1 xs) (drop 1 ns)) (outermost app p (drop 1 ys) (drop 1 ms))
  outermost_kept entered left xs ns ys ms same long also is since =
      subst (λ zs. Behind entered left (outermost app p (drop 1 xs) (drop 1 ns))
      (outermost app p (drop 1 zs) (drop 1 ms))) same
      (go xs ns ms long also is (subst (λ zs. outermost app p zs ms ≡ Some entered) (sym same) since))
    where
      one : (x : Section) (n m : ℕ) (xs : List Section) (ns ms : List ℕ) → length ms ≡ length xs
          → outermost app p (x ∷ xs) (n ∷ ns) ≡ Some left → outermost app p (x ∷ xs) (m ∷ ms) ≡ Some entered
          → (o : Option ℕ) → outermost app p xs ns ≡ o → Behind entered left o (outermost app p xs ms)
      one x n m xs ns ms long is since None inner = tt
      one x n m xs ns ms long is since (Some k) inner =
          let other = both_outermost app p xs ns ms k long inner in
          let same_entered : other.0 ≡ entered =
          dropped_is m entered other.0 (nat_le p (ceiling app x)) (outermost app p xs ms) since other.1 in
          let same_left : k ≡ left = dropped_is n left k (nat_le p (ceiling app x)) (outermost app p xs ns) is inner in
          (other.1 ∙ ap Some same_entered, omega arith)

      go : (xs : List Section) (ns ms : List ℕ) → length ns ≡ length xs → length ms ≡ length xs
          → outermost app p xs ns ≡ Some left → outermost app p xs ms ≡ Some entered
          → Behind entered left (outermost app p (drop 1 xs) (drop 1 ns)) (outermost app p (drop 1 xs) (drop 1 ms))
      go [] ns ms long also is since = tt
      go (x ∷ xs) [] ms long also is since = absurd (omega arith)
      go (x ∷ xs) (n ∷ ns) [] long also is since = absurd (omega arith)
      go (x ∷ xs) (n ∷ ns) (m ∷ ms) long also is since =
          one x n m xs ns ms (omega arith) is since (outermost app p xs ns) refl
