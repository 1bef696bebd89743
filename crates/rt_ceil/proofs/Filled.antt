-- Tables of an application as they are made.
use Rattle.std.proofs.Common.{◌≡◌, ℕ, List, length, replicate, refl, sym, ap, ◌∙◌}
use Rattle.std.proofs.lemmas.List.{length-map}
use Rattle.rt_app.specs.View.{task_of, app_of}
use Rattle.rt_app.specs.declared.app.App as code
use Rattle.rt_app.specs.declared.costs.TheConstants.{PRIORITIES}
use Rattle.rt_ceil.specs.Inside.Tables.{Tables, zero_tables}

pub tables_same : (t u : Tables) → t.shared ≡ u.shared → t.free ≡ u.free → t.ready ≡ u.ready → t.timer ≡ u.timer → t ≡ u
tables_same t u a b c d =
    let one : t ≡ record { shared = u.shared; free = t.free; ready = t.ready; timer = t.timer } =
    ap (λ (x : List ℕ). let r : Tables = record { shared = x; free = t.free; ready = t.ready; timer = t.timer } in
    r) a in
    let two : record { shared = u.shared; free = t.free; ready = t.ready; timer = t.timer }
    ≡ record { shared = u.shared; free = u.free; ready = t.ready; timer = t.timer } =
    ap (λ (x : List ℕ). let r : Tables = record { shared = u.shared; free = x; ready = t.ready; timer = t.timer } in
    r) b in
    let three : record { shared = u.shared; free = u.free; ready = t.ready; timer = t.timer }
    ≡ record { shared = u.shared; free = u.free; ready = u.ready; timer = t.timer } =
    ap (λ (x : List ℕ). let r : Tables = record { shared = u.shared; free = u.free; ready = x; timer = t.timer } in
    r) c in
    one ∙ two ∙ three ∙ ap (λ (x : ℕ). let r : Tables = record {
      shared = u.shared;
      free = u.free;
      ready = u.ready;
      timer = x;
    } in r) d

pub untouched_is : (a : code.App) (s f r : List ℕ) (n m : ℕ) → s ≡ replicate n 0 → n ≡ length a.shared.items → f
    ≡ replicate m 0 → m ≡ length a.tasks.items → r ≡ replicate PRIORITIES 0
    → record { shared = s; free = f; ready = r; timer = 0 } ≡ zero_tables (app_of a)
untouched_is a s f r n m es en ef em er =
    tables_same _ (zero_tables (app_of a)) (es ∙ ap (λ (k : ℕ). replicate k 0) en)
    (ef ∙ ap (λ (k : ℕ). replicate k 0) (em ∙ sym (length-map a.tasks.items task_of))) er refl
