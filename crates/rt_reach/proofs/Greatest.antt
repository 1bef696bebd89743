-- The greatest of those in a list that pass, and the first that has it.
use Rattle.std.proofs.Common.{◌≡◌, ℕ, zero, suc, ◌+◌, ◌<◌, ◌⊎◌, inl, inr, max, Bool, true, false}
use Rattle.std.proofs.Common.{if◌then◌else◌, List, [], ◌∷◌, ◌++◌, length, map, filter, find, take, drop, get_or}
use Rattle.std.proofs.Common.{slice_get}
use Rattle.std.proofs.Common.{Some, None, refl, ap, sym, ◌∙◌, arith}
use Rattle.std.proofs.lemmas.Bool.{cases_lt}
use Rattle.std.proofs.lemmas.List.{map-append, take-append-drop}
use Rattle.rt_lemmas.proofs.Lists.{map_next}
use Rattle.rt_ids.specs.Lists.{greatest}
use Rattle.rt_ids.proofs.Greatest.{greatest_has}
use Rattle.rt_app.specs.declared.app.Task as code
use Rattle.rt_app.specs.Tree.{Task}
use Rattle.rt_app.specs.Frame.{frame_words}
use Rattle.rt_app.specs.View.{task_of}

-- the words of a task's frame
abbrev pub words : Task → ℕ
words t = frame_words t.args t.body

-- the greatest of those that pass is 0, or that of one of them
module _ {X : Type 0} (f : X → ℕ) (test : X → Bool) where
  pub record Attains (xs : List X) (most : ℕ) : Type 0 where
    pub index : ℕ
    pub item : X
    pub at : slice_get xs index ≡ Some item
    pub passes : test item ≡ true
    pub is : f item ≡ most

  abbrev pub most_of : List X → ℕ
  most_of xs = greatest (map f (filter test xs))

  attained : (xs : List X) → (most_of xs ≡ 0) ⊎ Attains xs (most_of xs)
  attained [] = inl refl
  attained (x ∷ xs) = by (test x) refl (attained xs)
    where
      more : Attains xs (most_of xs) → (most : ℕ) → most_of xs ≡ most → Attains (x ∷ xs) most
      more has most same = record {
        index = suc has.index;
        item = has.item;
        at = has.at;
        passes = has.passes;
        is = has.is ∙ same;
      }

      here : test x ≡ true → (most : ℕ) → f x ≡ most → Attains (x ∷ xs) most
      here passes most same = record { index = 0; item = x; at = refl; passes = passes; is = same }

      by : (b : Bool) → test x ≡ b → (most_of xs ≡ 0) ⊎ Attains xs (most_of xs)
          → (greatest (map f (if b then x ∷ filter test xs else filter test xs)) ≡ 0)
          ⊎ Attains (x ∷ xs) (greatest (map f (if b then x ∷ filter test xs else filter test xs)))
      by false fails (inl none) = inl none
      by false fails (inr has) = inr (more has (most_of xs) refl)
      by true passes (inl none) = inr (here passes (max (f x) (most_of xs)) (omega (arith, none)))
      by true passes (inr has) = elim (cases_lt (f x) (most_of xs)) [
        | inl less ↦ inr (more has (max (f x) (most_of xs)) (omega (arith, less)))
        | inr least ↦ inr (here passes (max (f x) (most_of xs)) (omega (arith, least)))
      ]

  -- where one passes, one that passes is the greatest
  pub greatest_attained : (xs : List X) (i : ℕ) (x : X) → slice_get xs i ≡ Some x → test x ≡ true
      → Attains xs (most_of xs)
  greatest_attained xs i x at passes = elim (attained xs) [
    | inl none ↦ record {
      index = i;
      item = x;
      at = at;
      passes = passes;
      is = let within = greatest_has f test xs i x at passes in omega (arith, within, none);
    }
    | inr has ↦ has
  ]

  -- with one more at the end
  pub most_push : (xs : List X) (x : X)
      → most_of (xs ++ x ∷ []) ≡ (if test x then max (most_of xs) (f x) else most_of xs)
  most_push [] x =
      elim (test x) as (λ b. greatest (map f (if b then x ∷ [] else [])) ≡ (if b then max 0 (f x) else 0)) [
        | true ↦ omega arith
        | false ↦ refl
      ]
  most_push (y ∷ xs) x = by (test y) (test x) (most_push xs x)
    where
      by : (own more : Bool) → most_of (xs ++ x ∷ []) ≡ (if more then max (most_of xs) (f x) else most_of xs)
          → greatest (map f (if own then y ∷ filter test (xs ++ x ∷ []) else filter test (xs ++ x ∷ [])))
          ≡ (if more then max (greatest (map f (if own then y ∷ filter test xs else filter test xs))) (f x)
          else greatest (map f (if own then y ∷ filter test xs else filter test xs)))
      by true true is = omega (arith, is)
      by true false is = omega (arith, is)
      by false true is = is
      by false false is = is

  -- the first that passes, with one more at the end
  pub find_push : (xs : List X) (x : X) → find test xs ≡ None
      → find test (xs ++ x ∷ []) ≡ (if test x then Some x else None)
  find_push [] x none = refl
  find_push (y ∷ xs) x none = by (test y) none (find_push xs x)
    where
      by : (b : Bool) → (if b then Some y else find test xs) ≡ None
          → (find test xs ≡ None → find test (xs ++ x ∷ []) ≡ (if test x then Some x else None))
          → (if b then Some y else find test (xs ++ x ∷ [])) ≡ (if test x then Some x else None)
      by true none more = absurd (cc (none))
      by false none more = more none

  -- what is found in front is found
  pub find_front : (xs ys : List X) (x : X) → find test xs ≡ Some x → find test (xs ++ ys) ≡ Some x
  find_front [] ys x is = absurd (cc (is))
  find_front (y ∷ xs) ys x is = by (test y) is (find_front xs ys x)
    where
      by : (b : Bool) → (if b then Some y else find test xs) ≡ Some x
          → (find test xs ≡ Some x → find test (xs ++ ys) ≡ Some x)
          → (if b then Some y else find test (xs ++ ys)) ≡ Some x
      by true is more = is
      by false is more = more is

-- the frame of a task stands behind those of `init` and `idle`
pub frame_at : (frames : List ℕ) (a b : ℕ) (ts : List code.Task) (n : ℕ) (t : code.Task)
    → frames ≡ a ∷ b ∷ map words (map task_of ts) → n < length ts → t ≡ get_or ts n t
    → get_or frames (2 + n) 0 ≡ words (task_of t)
frame_at frames a b ts n t are within is =
    let index : 2 + n ≡ suc (suc n) = omega arith in
    ap (λ fs. get_or fs (2 + n) 0) are ∙ ap (λ k. get_or (a ∷ b ∷ map words (map task_of ts)) k 0) index
    ∙ at_index ts n t within is
  where
    at_index : (ts : List code.Task) (n : ℕ) (t : code.Task) → n < length ts → t ≡ get_or ts n t
        → get_or (map words (map task_of ts)) n 0 ≡ words (task_of t)
    at_index [] n t within is = absurd (omega arith)
    at_index (u ∷ ts) zero t within is = ap (λ v. words (task_of v)) (sym is)
    at_index (u ∷ ts) (suc n) t within is = at_index ts n t (omega arith) is

-- the greatest of the tasks so far, with the next one
pub most_next : (test : Task → Bool) (frames : List ℕ) (a b : ℕ) (ts : List code.Task) (n : ℕ) (t : code.Task)
    (most : ℕ)
    → frames ≡ a ∷ b ∷ map words (map task_of ts) → n < length ts → t ≡ get_or ts n t
    → most ≡ most_of words test (map task_of (take n ts)) → (passes : Bool) → passes ≡ test (task_of t)
    → (if passes then max most (get_or frames (2 + n) 0) else most)
    ≡ most_of words test (map task_of (take (n + 1) ts))
most_next test frames a b ts n t most are within is before passes same =
    ap (λ k. if passes then max most k else most) (frame_at frames a b ts n t are within is)
    ∙ ap (λ m. if passes then max m (words (task_of t)) else m) before
    ∙ ap (λ p. if p then max (most_of words test (map task_of (take n ts))) (words (task_of t))
    else most_of words test (map task_of (take n ts))) same
    ∙ sym (most_push words test (map task_of (take n ts)) (task_of t))
    ∙ ap (most_of words test) (sym (map_next task_of ts n t within is))

-- the first that passes among the tasks so far and the next one
pub find_next : (test : Task → Bool) (ts : List code.Task) (n : ℕ) (t : code.Task) → n < length ts → t ≡ get_or ts n t
    → find test (map task_of (take n ts)) ≡ None
    → find test (map task_of (take (n + 1) ts)) ≡ (if test (task_of t) then Some (task_of t) else None)
find_next test ts n t within is none =
    ap (find test) (map_next task_of ts n t within is)
    ∙ find_push words test (map task_of (take n ts)) (task_of t) none

pub find_not : (test : Task → Bool) (ts : List code.Task) (n : ℕ) (t : code.Task) → n < length ts → t ≡ get_or ts n t
    → find test (map task_of (take n ts)) ≡ None → test (task_of t) ≡ false
    → find test (map task_of (take (n + 1) ts)) ≡ None
find_not test ts n t within is none fails =
    find_next test ts n t within is none ∙ ap (λ b. if b then Some (task_of t) else None) fails

pub find_here : (test : Task → Bool) (ts : List code.Task) (n : ℕ) (t : code.Task) → n < length ts → t ≡ get_or ts n t
    → find test (map task_of (take n ts)) ≡ None → test (task_of t) ≡ true
    → find test (map task_of ts) ≡ Some (task_of t)
find_here test ts n t within is none passes =
    ap (λ us. find test (map task_of us)) (sym (take-append-drop (n + 1) ts))
    ∙ ap (find test) (map-append task_of (take (n + 1) ts) (drop (n + 1) ts))
    ∙ find_front words test (map task_of (take (n + 1) ts)) (map task_of (drop (n + 1) ts)) (task_of t)
    (find_next test ts n t within is none ∙ ap (λ b. if b then Some (task_of t) else None) passes)
