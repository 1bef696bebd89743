-- The ceilings read off so far, with one more.
use Rattle.std.proofs.Common.{◌≡◌, ℕ, ◌+◌, ◌<◌, List, [], ◌∷◌, ◌++◌, length, map, take, get_or, Bool, true, false}
use Rattle.std.proofs.Common.{Option, if◌then◌else◌, refl, sym, ap, ◌∙◌, arith, add-zero, add-one}
use Rattle.std.proofs.lemmas.List.{take_more, map-append, append-nil, length-map, length-take}
use Rattle.rt_app.specs.Tree.{Task}
use Rattle.rt_app.specs.View.{task_of}
use Rattle.rt_app.specs.declared.app.Task as code
use Rattle.rt_ids.specs.Lists.{those_below}
use Rattle.rt_ceil.specs.Inside.Rows.{free_row, free_rows, ready_row, ready_rows}

pub free_rows-append : (table : List ℕ) (n : ℕ) (xs ys : List Task) → free_rows table n (xs ++ ys)
    ≡ free_rows table n xs ++ free_rows table (n + length xs) ys
free_rows-append table n [] ys = ap (λ k. free_rows table k ys) (sym (add-zero n))
free_rows-append table n (x ∷ xs) ys =
    let e : (n + 1) + length xs ≡ n + length (x ∷ xs) = omega arith in
    ap (λ (t : List (Option ℕ)). free_row x (get_or table n 0) ∷ t)
    (free_rows-append table (n + 1) xs ys ∙ ap (λ k. free_rows table (n + 1) xs ++ free_rows table k ys) e)

length_before : (tasks : List code.Task) (i : ℕ) → i < length tasks → 0 + length (map task_of (take i tasks)) ≡ i
length_before tasks i h = omega (arith, length-map (take i tasks) task_of, length-take i tasks)

pub free_rows_more : (table : List ℕ) (tasks : List code.Task) (i : ℕ) (d : code.Task) → i < length tasks
    → free_rows table 0 (map task_of (take (i + 1) tasks)) ≡ free_rows table 0 (map task_of (take i tasks))
    ++ free_row (task_of (get_or tasks i d)) (get_or table i 0) ∷ []
free_rows_more table tasks i d h =
    ap (λ (t : List code.Task). free_rows table 0 (map task_of t)) (take_more tasks i d h)
    ∙ ap (free_rows table 0) (map-append task_of (take i tasks) (get_or tasks i d ∷ []))
    ∙ free_rows-append table 0 (map task_of (take i tasks)) (task_of (get_or tasks i d) ∷ [])
    ∙ ap (λ k. free_rows table 0 (map task_of (take i tasks)) ++ free_row (task_of (get_or tasks i d))
    (get_or table k 0) ∷ []) (length_before tasks i h)

pub ready_rows_none : (served : List Bool) (table : List ℕ) → ready_rows served table 0 ≡ []
unfolding those_below
ready_rows_none served table = refl

next : (served : List Bool) (table : List ℕ) (n : ℕ) (b : Bool) → get_or served n false ≡ b
    → ready_rows served table (n + 1) ≡ ready_rows served table n ++ map (ready_row table) (if b then n ∷ [] else [])
unfolding those_below
next served table n b is =
    ap (ready_rows served table) (add-one n) ∙ map-append (ready_row table)
    (those_below (λ level. get_or served level false) n) (if get_or served n false then n ∷ [] else [])
    ∙ ap (λ (x : Bool). ready_rows served table n ++ map (ready_row table) (if x then n ∷ [] else [])) is

pub ready_rows_served : (served : List Bool) (table : List ℕ) (n : ℕ) → get_or served n false ≡ true
    → ready_rows served table (n + 1) ≡ ready_rows served table n ++ ready_row table n ∷ []
ready_rows_served served table n is = next served table n true is

pub ready_rows_other : (served : List Bool) (table : List ℕ) (n : ℕ) → get_or served n false ≡ false
    → ready_rows served table (n + 1) ≡ ready_rows served table n
ready_rows_other served table n is = next served table n false is ∙ append-nil (ready_rows served table n)
