-- The cells of an image: resources are found by their names, each name is one word, and there are few.
use Rattle.std.proofs.Common.{◌≡◌, ℕ, zero, suc, ◌+◌, ◌/◌, ◌%◌, ◌<◌, ◌==◌, Bool, true, false, cond, List, []}
use Rattle.std.proofs.Common.{◌∷◌, ◌++◌, length, map, flat_map, get_or, Option, Some, None, slice_get, Contains, codes}
use Rattle.std.proofs.Common.{decimal, refl, sym, ap, ◌∙◌, arith, if◌then◌else◌}
use Rattle.std.specs.Fmt.{digits, digits_onto, digit_glyph}
use Rattle.std.specs.Prelude.{bytes_eq}
use Rattle.std.specs.List.{AllByRecursion, list_any, position_or_len, range_with_len}
use Rattle.std.proofs.lemmas.Bool.{lt-ltb, ne_eqb}
use Rattle.std.proofs.lemmas.Bool.Decides.{nat_tests}
use Rattle.std.proofs.lemmas.List.{length-map}
use Rattle.std.proofs.lemmas.List.Sums.{position_or_len_is}
use Rattle.std.proofs.lemmas.Option.{same_Some, slice_get-get_or, slice_get_within, get_or_from_slice_get}
use Rattle.std.proofs.lemmas.Slice.Eq.{bytes_eq-Decides}
use Rattle.rt_lemmas.proofs.Bools.{true_and_false, left_of_none, right_of_none, not_so}
use Rattle.rt_lemmas.proofs.Lists.{all_map, mapped_at}
use Rattle.rt_lemmas.proofs.Membership.{all_append, any_contained}
use Rattle.rt_lemmas.proofs.Indices.{there_is}
use Rattle.rt_ids.specs.Lists.{then_from}
use Rattle.rt_ids.specs.Word.{IsName}
use Rattle.rt_ids.specs.declared.cell.CellRow.{CellRow}
use Rattle.rt_app.specs.declared.app.Shared.{Shared}
use Rattle.rt_app.specs.declared.app.Local.{Local}
use Rattle.rt_app.specs.declared.app.Mono.{Mono}
use Rattle.rt_app.specs.Tree.{Task, App}
use Rattle.rt_app.specs.Accepted.{IsAccepted}
use Rattle.rt_app.specs.Acceptance.{IsSound}
use Rattle.rt_app.specs.Layout.{Cell, resource_cells, local_cells, free_cells, place_cells, task_cells, ready_cells}
use Rattle.rt_app.specs.Layout.{ready_room, timer_cell, timer_column, timer_cells, memory, layout, row_of}
use Rattle.rt_app.specs.Level.{is_software, levels, armed_messages}
use Rattle.rt_app.specs.Names.{HasNames}
use Rattle.rt_app.proofs.Laid.{resource_row, on_ready, on_queues, on_locals}
use Rattle.rt_code.specs.Image.{Image}
use Rattle.rt_code.specs.Cells.{cell_named, resource_cell}
use Rattle.rt_code.specs.Listable.{blanks, IsWord}
use Rattle.rt_code.proofs.Writable.{plain}
use Rattle.rt_layout.proofs.Few.{cells_are_few}
use Rattle.rt_build.specs.Entries.{Entries}
use Rattle.rt_build.specs.Image.{HasTables}

-- a cell, before which none has its name, is the first of its name
first_named : (cells : List CellRow) (i : ℕ) (cell : CellRow) → slice_get cells i ≡ Some cell
    → ((k : ℕ) (other : CellRow) → k < i → slice_get cells k ≡ Some other → other.name ≡ cell.name → ⊥)
    → cell_named cells cell.name ≡ Some i
first_named cells i cell at alone =
    let within = slice_get_within cells i cell at in
    let here : get_or cells i cell ≡ cell = get_or_from_slice_get cells i cell cell at in
    let own : bytes_eq (get_or cells i cell).name cell.name ≡ true =
    (bytes_eq-Decides (get_or cells i cell).name cell.name).1 (ap (λ (c : CellRow). c.name) here) in
    let before : (k : ℕ) → k < i → bytes_eq (get_or cells k cell).name cell.name ≡ false =
    λ k below. not_so (bytes_eq (get_or cells k cell).name cell.name)
    (λ same. alone k (get_or cells k cell) below (slice_get-get_or cells k cell (omega arith))
    ((bytes_eq-Decides (get_or cells k cell).name cell.name).0 same)) in
    let index : position_or_len (λ c. bytes_eq c.name cell.name) cells ≡ i =
    position_or_len_is (λ c. bytes_eq c.name cell.name) cells i cell (omega arith) before (λ _. own) in
    rw index (grind (arith, nat_tests))

module _ (app : App) (at : Entries) (img : Image) (tables : HasTables app at img) (sound : IsSound app) where
  -- the cell of a resource is the first of its name
  pub resource_numbers : (r : ℕ) → r < length app.shared → resource_cell img r ≡ Some r
  resource_numbers r within =
      let one = there_is app.shared r within in
      let row = resource_row app r one.0 one.1 in
      let named : slice_get img.names.shared r ≡ Some one.0.name = ap (λ names. slice_get names.shared r) tables.names
      ∙ mapped_at (λ s. s.name) app.shared r one.0 one.1 in
      let alone : (k : ℕ) (other : CellRow) → k < r → slice_get (layout app).cells k ≡ Some other
      → other.name ≡ one.0.name → ⊥ =
      λ k other below there same.
      (let two = there_is app.shared k (omega arith) in
      let own : other.name ≡ two.0.name =
      ap (λ (c : CellRow). c.name) (same_Some _ _ (sym there ∙ resource_row app k two.0 two.1)) in
      let e : k ≡ r = sound.names.shared_differ k r one.0.name
      (mapped_at (λ s. s.name) app.shared k two.0 two.1 ∙ ap Some (sym own ∙ same))
      (mapped_at (λ s. s.name) app.shared r one.0 one.1) in
      absurd (omega arith)) in
      ap (λ o. then_from o (cell_named img.cells)) named
      ∙ (ap (λ cells. cell_named cells one.0.name) tables.cells
      ∙ first_named (layout app).cells r (record { name = one.0.name; first = one.0.first }) row alone)

not_blank : (b : ℕ) → list_any (λ y. y == b) blanks ≡ false → ¬ Contains blanks b
not_blank b other is = true_and_false (list_any (λ y. y == b) blanks) (any_contained b blanks is) other

-- so is a text of which no byte is a blank
abbrev is_blank : ℕ → Bool
is_blank b = list_any (λ y. y == b) blanks

literal : (bytes : List ℕ) → list_any is_blank bytes ≡ false → IsWord bytes
literal [] none = tt
literal (b ∷ bytes) none = (
  not_blank b (left_of_none (is_blank b) (list_any is_blank bytes) none),
  literal bytes (right_of_none (is_blank b) (list_any is_blank bytes) none),
)

-- and a number
digit : (d : ℕ) → d < 10 → ¬ Contains blanks (digit_glyph false d)
digit d few = not_blank (digit_glyph false d) (rw (
  lt-ltb d 10 few,
  ne_eqb 9 (48 + d) (λ e. omega (arith, e)),
  ne_eqb 10 (48 + d) (λ e. omega (arith, e)),
  ne_eqb 13 (48 + d) (λ e. omega (arith, e)),
  ne_eqb 32 (48 + d) (λ e. omega (arith, e)),
) refl)

either : (test : Bool) (xs ys : List ℕ) → IsWord xs → IsWord ys → IsWord (cond test xs ys)
either true xs ys first second = first
either false xs ys first second = second

digits_word : (k n : ℕ) (more : List ℕ) → IsWord more → IsWord (digits_onto k 10 false n more)
digits_word zero n more word = word
digits_word (suc k) n more word =
    let here : IsWord (digit_glyph false (n % 10) ∷ more) = (digit (n % 10) (omega arith), word) in
    either (n / 10 == 0) _ _ here (digits_word k (n / 10) _ here)

decimal_word : (n : ℕ) → IsWord (decimal n)
unfolding digits
decimal_word n = digits_word 64 n [] tt

joined : (xs ys : List ℕ) → IsWord xs → IsWord ys → IsWord (xs ++ ys)
joined = all_append (λ b. ¬ Contains blanks b)

-- the names of cells
abbrev HasWord : Cell → Type 0
HasWord cell = IsWord cell.name

each_of : (f : ℕ → Cell) (ks : List ℕ) → ((k : ℕ) → HasWord (f k)) → AllByRecursion HasWord (map f ks)
each_of f [] each = tt
each_of f (k ∷ ks) each = (each k, each_of f ks each)

each_made : {X : Type 0} (f : X → List Cell) → ((x : X) → AllByRecursion HasWord (f x)) → (xs : List X)
    → AllByRecursion HasWord (flat_map f xs)
each_made f each [] = tt
each_made f each (x ∷ xs) = all_append HasWord (f x) (flat_map f xs) (each x) (each_made f each xs)

resource_words : (r : ℕ) (ss : List Shared) → AllByRecursion (λ s. IsName s.name) ss
    → AllByRecursion HasWord (resource_cells r ss)
resource_words r [] named = tt
resource_words r (s ∷ ss) named = ((plain s.name named.0).word, resource_words (r + 1) ss named.1)

local_words : (n : ℕ) (ls : List Local) → AllByRecursion (λ l. IsName l.name) ls
    → AllByRecursion HasWord (local_cells n ls)
local_words n [] named = tt
local_words n (l ∷ ls) named = (
  joined (codes "local.") l.name (literal (codes "local.") refl) (plain l.name named.0).word,
  local_words (n + 1) ls named.1,
)

dot : IsWord (codes ".")
dot = literal (codes ".") refl

-- a name between this word and a dot
dotted : (front name : List ℕ) → IsWord front → IsWord name → IsWord (front ++ name ++ codes ".")
dotted front name first second = joined (front ++ name) (codes ".") (joined front name first second) dot

free_words : (n : ℕ) (t : Task) → IsName t.name → AllByRecursion HasWord (free_cells n t)
free_words n t named =
    let front : IsWord (codes "free." ++ t.name ++ codes ".") =
    dotted (codes "free.") t.name (literal (codes "free.") refl) (plain t.name named).word in (
      joined (codes "free." ++ t.name ++ codes ".") (codes "count") front (literal (codes "count") refl),
      each_of _ (range_with_len 0 t.capacity)
          (λ k. joined (codes "free." ++ t.name ++ codes ".") (decimal k) front (decimal_word k)),
    )

place_words : (n : ℕ) (t : Task) → IsName t.name → (index : ℕ) → AllByRecursion HasWord (place_cells n t index)
place_words n t named index =
    let task : IsWord (codes "input." ++ t.name ++ codes ".") =
    dotted (codes "input.") t.name (literal (codes "input.") refl) (plain t.name named).word in
    let front : IsWord (codes "input." ++ t.name ++ codes "." ++ decimal index ++ codes ".") =
    dotted (codes "input." ++ t.name ++ codes ".") (decimal index) task (decimal_word index) in
    each_of _ (range_with_len 0 t.args)
    (λ k. joined (codes "input." ++ t.name ++ codes "." ++ decimal index ++ codes ".") (decimal k) front
    (decimal_word k))

queue_words : (n : ℕ) (t : Task) → IsName t.name → (b : Bool)
    → AllByRecursion HasWord (if b then free_cells n t ++ flat_map (place_cells n t) (range_with_len 0 t.capacity)
    else [])
queue_words n t named true =
    all_append HasWord (free_cells n t) (flat_map (place_cells n t) (range_with_len 0 t.capacity))
    (free_words n t named) (each_made (place_cells n t) (place_words n t named) (range_with_len 0 t.capacity))
queue_words n t named false = tt

task_words : (n : ℕ) (ts : List Task) → AllByRecursion (λ t. IsName t.name) ts
    → AllByRecursion HasWord (task_cells n ts)
task_words n [] named = tt
task_words n (t ∷ ts) named =
    all_append HasWord (if is_software t then free_cells n t ++ flat_map (place_cells n t) (range_with_len 0 t.capacity)
    else []) (task_cells (n + 1) ts) (queue_words n t named.0 (is_software t)) (task_words (n + 1) ts named.1)

ready_words : (app : App) (p : ℕ) → AllByRecursion HasWord (ready_cells app p)
ready_words app p =
    let front : IsWord (codes "ready." ++ decimal p ++ codes ".") =
    dotted (codes "ready.") (decimal p) (literal (codes "ready.") refl) (decimal_word p) in (
      joined (codes "ready." ++ decimal p ++ codes ".") (codes "head") front (literal (codes "head") refl),
      (
        joined (codes "ready." ++ decimal p ++ codes ".") (codes "count") front (literal (codes "count") refl),
        each_of _ (range_with_len 0 (ready_room app p))
            (λ k. joined (codes "ready." ++ decimal p ++ codes ".") (codes "at." ++ decimal k) front
            (joined (codes "at.") (decimal k) (literal (codes "at.") refl) (decimal_word k))),
      ),
    )

timer_word : (name : List ℕ) → IsWord name → HasWord (timer_cell name)
timer_word name word = joined (codes "timer.") name (literal (codes "timer.") refl) word

column_words : (app : App) (name : List ℕ) → IsWord name → AllByRecursion HasWord (timer_column app name)
column_words app name word =
    each_of _ (range_with_len 0 (armed_messages app))
    (λ k. timer_word (name ++ codes "." ++ decimal k)
    (joined (name ++ codes ".") (decimal k) (joined name (codes ".") word dot) (decimal_word k)))

timer_words : (app : App) (o : Option Mono) → AllByRecursion HasWord (timer_cells app o)
timer_words app None = tt
timer_words app (Some mono) =
    let handles = all_append HasWord (timer_column app (codes "handle")) (timer_column app (codes "heap"))
    (column_words app (codes "handle") (literal (codes "handle") refl))
    (column_words app (codes "heap") (literal (codes "heap") refl)) in
    let numbers = all_append HasWord (timer_column app (codes "arming"))
    (timer_column app (codes "handle") ++ timer_column app (codes "heap"))
    (column_words app (codes "arming") (literal (codes "arming") refl)) handles in
    let instants = all_append HasWord (timer_column app (codes "at"))
    (timer_column app (codes "arming") ++ (timer_column app (codes "handle") ++ timer_column app (codes "heap")))
    (column_words app (codes "at") (literal (codes "at") refl)) numbers in (
      timer_word (codes "count") (literal (codes "count") refl),
      (
        timer_word (codes "armings") (literal (codes "armings") refl),
        (timer_word (codes "given") (literal (codes "given") refl), instants),
      ),
    )

pub words : (app : App) → HasNames app → AllByRecursion (λ cell. IsWord cell.name) (layout app).cells
words app named =
    all_map row_of HasWord (λ (cell : CellRow). IsWord cell.name) (λ cell is. is) (memory app)
    (all_append HasWord (resource_cells 0 app.shared) (on_locals app) (resource_words 0 app.shared named.shared)
    (all_append HasWord (local_cells 0 app.locals) (on_queues app) (local_words 0 app.locals named.locals)
    (all_append HasWord (task_cells 0 app.tasks) (on_ready app) (task_words 0 app.tasks named.tasks)
    (all_append HasWord (flat_map (ready_cells app) (levels app)) (timer_cells app app.mono)
    (each_made (ready_cells app) (ready_words app) (levels app)) (timer_words app app.mono)))))

pub few_cells : (app : App) → IsAccepted app → length (layout app).cells < 16384
few_cells app accepted = omega (arith, length-map (memory app) row_of, cells_are_few app accepted)
