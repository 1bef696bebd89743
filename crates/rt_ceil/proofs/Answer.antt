-- What is read off the filled tables are the ceilings.
use Rattle.std.proofs.Common.{◌≡◌, ℕ, zero, suc, ◌+◌, ◌<◌, max, Bool, true, false, ◌||◌, if◌then◌else◌, List, [], ◌∷◌}
use Rattle.std.proofs.Common.{◌++◌, map, length, get_or, slice_get, replicate, Option, Some, None, option_map, refl}
use Rattle.std.proofs.Common.{sym, ap, ◌∙◌, arith}
use Rattle.std.specs.List.{list_any, range_with_len}
use Rattle.std.proofs.lemmas.List.{length-map, length-replicate, get_or-replicate, map-append}
use Rattle.std.proofs.lemmas.List.FromFn.{get_or-map-range_with_len, length-map-range_with_len}
use Rattle.std.proofs.lemmas.Grind.{same_number_lists}
use Rattle.std.proofs.lemmas.Option.{slice_get_within}
use Rattle.rt_lemmas.proofs.Lists.{fold_keeps, AreFrom, all_from, first_from, rest_from}
use Rattle.rt_app.specs.View.{task_of, app_of}
use Rattle.rt_app.specs.declared.app.App as code
use Rattle.rt_app.specs.declared.app.Task as code_task
use Rattle.rt_app.specs.declared.app.Mono.{Mono}
use Rattle.rt_app.specs.declared.ceilings.ReadyCeiling.{ReadyCeiling}
use Rattle.rt_app.specs.declared.costs.TheConstants.{PRIORITIES}
use Rattle.rt_app.specs.Tree.{App, Task}
use Rattle.rt_app.specs.Bodies.{members}
use Rattle.rt_app.specs.Level.{is_software, is_of_level, levels, holds}
use Rattle.rt_ids.specs.Lists.{those_below, or_zero}
use Rattle.rt_app.specs.Ceiling.{greatest_priority, uses_places_of, resource_ceiling, free_ceiling, free_ceilings}
use Rattle.rt_app.specs.Ceiling.{readies, arms_level, mover_priority, ready_ceiling, timer_ceiling, Ceilings, ceilings}
use Rattle.rt_ceil.specs.Inside.Tables.{Tables, level_of, mono_priority, filled_tables}
use Rattle.rt_ceil.specs.Inside.Rows.{free_row, free_rows, served_with, served_levels, ready_row, ready_rows, timer_row}
use Rattle.rt_ceil.proofs.Greatest.{folded_marks}
use Rattle.rt_ceil.proofs.Raised.{length-marked, marked_at, level_of_is}
use Rattle.rt_ceil.proofs.Members.{filled_sized, filled_shared, filled_free, filled_ready, filled_timer}

pub shared_is : (app : App) → (filled_tables app).shared ≡ map (resource_ceiling app)
    (range_with_len 0 (length app.shared))
shared_is app =
    let n = length app.shared in
    let rows = map (resource_ceiling app) (range_with_len 0 n) in
    let sized : length (filled_tables app).shared ≡ n = (filled_sized app).shared in
    same_number_lists (filled_tables app).shared rows
    (sized ∙ sym (length-map-range_with_len (resource_ceiling app) 0 n))
    (λ r h. let b : r < n = omega arith in filled_shared app r b
    ∙ sym (get_or-map-range_with_len (resource_ceiling app) 0 n r r 0 b (omega arith)))

row_of : (app : App) (n m : ℕ) (t : Task) → slice_get app.tasks n ≡ Some t → m
    ≡ greatest_priority (holds (uses_places_of n)) app → free_row t m
    ≡ (if is_software t then Some (free_ceiling app n) else None)
row_of app n m t at is =
    ap (free_row t) is ∙ ap (λ (o : Option Task). if is_software t then Some
    (max (or_zero (option_map (λ u. u.priority) o)) (greatest_priority (holds (uses_places_of n)) app)) else None)
    (sym at)

-- of the tasks from a number on
free_from : (app : App) (n : ℕ) (ts : List Task) → AreFrom app.tasks n ts → free_rows (filled_tables app).free n ts
    ≡ free_ceilings app n ts
free_from app n [] from = refl
free_from app n (t ∷ ts) from =
    let at = first_from app.tasks n t ts from in
    ap (λ x. x ∷ free_rows (filled_tables app).free (n + 1) ts)
    (row_of app n (get_or (filled_tables app).free n 0) t at
    (filled_free app n (slice_get_within app.tasks n t at)))
    ∙ ap (λ xs. (if is_software t then Some (free_ceiling app n) else None) ∷ xs)
    (free_from app (n + 1) ts (rest_from app.tasks n t ts from))

pub free_is : (app : App) → free_rows (filled_tables app).free 0 app.tasks ≡ free_ceilings app 0 app.tasks
free_is app = free_from app 0 app.tasks (all_from app.tasks)

-- the served levels
mark_keeps : (served : List Bool) (t : Task) → length served ≡ PRIORITIES → length (served_with served (level_of t))
    ≡ PRIORITIES
mark_keeps served t h = length-marked served (level_of t) ∙ h

pub served_sized : (ts : List Task) → length (served_levels ts) ≡ PRIORITIES
served_sized ts = fold_keeps (λ served t. served_with served (level_of t)) (λ served. length served ≡ PRIORITIES)
    mark_keeps (replicate PRIORITIES false) ts (length-replicate PRIORITIES false)

served_is : (ts : List Task) (p : ℕ) → p < PRIORITIES → get_or (served_levels ts) p false ≡ list_any (is_of_level p) ts
served_is ts p b =
    folded_marks (λ served t. served_with served (level_of t)) (λ served. length served ≡ PRIORITIES) mark_keeps
    (λ served. get_or served p false) (is_of_level p)
    (λ served t h. marked_at served (level_of t) p (omega arith) ∙ ap (λ (x : Bool). get_or served p false || x)
    (level_of_is p t)) (replicate PRIORITIES false) ts (length-replicate PRIORITIES false)
    ∙ ap (λ (x : Bool). x || list_any (is_of_level p) ts) (get_or-replicate PRIORITIES p false false b)

one_row : (x : Bool) (f g : ℕ → ReadyCeiling) (n : ℕ) → f n ≡ g n → map f (if x then n ∷ [] else [])
    ≡ map g (if x then n ∷ [] else [])
one_row true f g n h = ap (λ r. r ∷ []) h
one_row false f g n h = refl

none_moves : (x : Bool) (n : ℕ) → (if x then n else n) ≡ n
none_moves true n = refl
none_moves false n = refl

-- the rows of levels below a number, where each test and each row is the same
rows_below : (a b : ℕ → Bool) (f g : ℕ → ReadyCeiling) (n : ℕ) → ((p : ℕ) → p < n → a p ≡ b p)
    → ((p : ℕ) → p < n → f p ≡ g p) → map f (those_below a n) ≡ map g (those_below b n)
unfolding those_below
rows_below a b f g zero same rows = refl
rows_below a b f g (suc n) same rows =
    map-append f (those_below a n) (if a n then n ∷ [] else [])
    ∙ ap (λ xs. xs ++ map f (if a n then n ∷ [] else []))
    (rows_below a b f g n (λ p h. same p (omega arith)) (λ p h. rows p (omega arith)))
    ∙ ap (λ (x : Bool). map g (those_below b n) ++ map f (if x then n ∷ [] else [])) (same n (omega arith))
    ∙ ap (λ xs. map g (those_below b n) ++ xs) (one_row (b n) f g n (rows n (omega arith)))
    ∙ sym (map-append g (those_below b n) (if b n then n ∷ [] else []))

mover_is : (app : App) (p : ℕ) (o : Option Mono)
    → (if list_any (holds (arms_level app p)) (members app) then mono_priority o else 0) ≡ mover_priority app p o
mover_is app p None = none_moves (list_any (holds (arms_level app p)) (members app)) 0
mover_is app p (Some mono) = refl

row_is : (app : App) (p : ℕ) → p < PRIORITIES → ready_row (filled_tables app).ready p
    ≡ record { level = p; ceiling = ready_ceiling app p }
row_is app p b =
    ap (λ (n : ℕ). let row : ReadyCeiling = record { level = p; ceiling = max p n } in row)
    (filled_ready app p b ∙ ap (max (greatest_priority (holds (readies app p)) app)) (mover_is app p app.mono))

pub ready_is : (app : App) → ready_rows (served_levels app.tasks) (filled_tables app).ready PRIORITIES
    ≡ map (λ p. record { level = p; ceiling = ready_ceiling app p }) (levels app)
ready_is app =
    rows_below (λ p. get_or (served_levels app.tasks) p false) (λ p. list_any (is_of_level p) app.tasks)
    (ready_row (filled_tables app).ready) (λ p. record { level = p; ceiling = ready_ceiling app p }) PRIORITIES
    (served_is app.tasks) (row_is app)

timer_from : (app : App) (x : ℕ) → (filled_tables app).timer ≡ x → (o : Option Mono)
    → timer_row o (filled_tables app).timer ≡ option_map (λ mono. max (or_zero (option_map (λ m. m.priority) o)) x) o
timer_from app x e None = refl
timer_from app x e (Some mono) = ap (λ n. Some (max mono.priority n)) e

pub timer_is : (app : App) → timer_row app.mono (filled_tables app).timer
    ≡ option_map (λ mono. timer_ceiling app) app.mono
timer_is app = timer_from app _ (filled_timer app) app.mono

ceilings_same : (a b : Ceilings) → a.shared ≡ b.shared → a.free ≡ b.free → a.ready ≡ b.ready → a.timer ≡ b.timer → a ≡ b
ceilings_same a b s f r t =
    let Free : Type 0 = List (Option ℕ) in
    let Ready : Type 0 = List ReadyCeiling in
    let Timer : Type 0 = Option ℕ in
    ap (λ (x : List ℕ). let c : Ceilings = record { shared = x; free = a.free; ready = a.ready; timer = a.timer } in c)
    s
    ∙ ap (λ (x : Free). let c : Ceilings = record { shared = b.shared; free = x; ready = a.ready; timer = a.timer } in
    c) f
    ∙ ap (λ (x : Ready). let c : Ceilings = record { shared = b.shared; free = b.free; ready = x; timer = a.timer } in
    c) r
    ∙ ap (λ (x : Timer). let c : Ceilings = record { shared = b.shared; free = b.free; ready = b.ready; timer = x } in
    c) t

-- what the code reads off its tables
pub ceilings_are : (a : code.App) (t : Tables) (answer : Ceilings) (table levels_table : List ℕ) (served : List Bool)
    (tasks again : List code_task.Task) → t ≡ filled_tables (app_of a) → tasks ≡ a.tasks.items → again ≡ a.tasks.items
    → table ≡ t.free → levels_table ≡ t.ready → served ≡ served_levels (map task_of tasks) → answer.shared ≡ t.shared
    → answer.free ≡ free_rows table 0 (map task_of again) → answer.ready ≡ ready_rows served levels_table PRIORITIES
    → answer.timer ≡ timer_row a.mono t.timer → answer ≡ ceilings (app_of a)
ceilings_are a t answer table levels_table served tasks again is ts us tf tr sv s f r m =
    let app = app_of a in
    ceilings_same answer (ceilings app) (s ∙ ap (λ (x : Tables). x.shared) is ∙ shared_is app)
    (f ∙ ap (λ (x : List ℕ). free_rows x 0 (map task_of again)) (tf ∙ ap (λ (x : Tables). x.free) is)
    ∙ ap (λ (x : List code_task.Task). free_rows (filled_tables app).free 0 (map task_of x)) us ∙ free_is app)
    (r ∙ ap (λ (x : List ℕ). ready_rows served x PRIORITIES) (tr ∙ ap (λ (x : Tables). x.ready) is)
    ∙ ap (λ (x : List Bool). ready_rows x (filled_tables app).ready PRIORITIES)
    (sv ∙ ap (λ (x : List code_task.Task). served_levels (map task_of x)) ts) ∙ ready_is app)
    (m ∙ ap (λ (x : Tables). timer_row a.mono x.timer) is ∙ timer_is app)

-- what reading off requires
pub free_fits : (a : code.App) (t : Tables) (table : List ℕ) (tasks : List code_task.Task) → t
    ≡ filled_tables (app_of a) → tasks ≡ a.tasks.items → table ≡ t.free → length tasks ≡ length table
free_fits a t table tasks is ts tf =
    ap (λ (x : List code_task.Task). length x) ts ∙ sym (length-map a.tasks.items task_of)
    ∙ sym (filled_sized (app_of a)).free ∙ ap (λ (x : Tables). length x.free) (sym is)
    ∙ ap (λ (x : List ℕ). length x) (sym tf)

pub ready_fits : (a : code.App) (t : Tables) (table : List ℕ) → t ≡ filled_tables (app_of a) → table ≡ t.ready
    → length table ≡ PRIORITIES
ready_fits a t table is tr = ap (λ (x : List ℕ). length x) tr ∙ ap (λ (x : Tables). length x.ready) is
    ∙ (filled_sized (app_of a)).ready

pub served_fits : (served : List Bool) (tasks : List Task) → served ≡ served_levels tasks → length served ≡ PRIORITIES
served_fits served tasks is = ap (λ (x : List Bool). length x) is ∙ served_sized tasks
