use Rattle.std.proofs.Common.{◌≡◌, ◌++◌, ℕ, List, ap, ◌∙◌}
use Rattle.rt_bounds.specs.Text.{bounds_text}
use Rattle.rt_image_times.specs.Report.{times_text}
use Rattle.rt_load.proofs.Judged.{limits_of_points}
use Rattle.rt_topx.proofs.timed.text_of_times.Goals as goal

pub bounds-requires-clause-limits : goal.bounds-requires-clause-limits
bounds-requires-clause-limits c = limits_of_points c.args.image.now c.requires.loadable

pub times-requires-clause-within : goal.times-requires-clause-within
times-requires-clause-within c = limits_of_points c.args.image.now c.requires.loadable

-- what was appended to what was written
appended : (front lines out text behind : List ℕ) → out ≡ text ++ behind → text ≡ front → behind ≡ lines
    → out ≡ front ++ lines
appended front lines out text behind is first last =
    is ∙ ap (λ (xs : List ℕ). xs ++ behind) first ∙ ap (λ (ys : List ℕ). front ++ ys) last

pub returns : goal.returns
returns c = (
  c.in_ok-found.found,
  c.in_ok-rows.rows.items,
  c.in_ok-found.ensures,
  c.in_ok-rows.ensures,
  appended (bounds_text c.args.image.now c.in_ok-found.found) (times_text c.in_ok-rows.rows.items)
      c.push_bytes.new.out.items c.in_ok-text.text.items c.deref-2.result.now
      (rw c.in_ok-push_bytes.was at c.push_bytes.ensures) c.in_ok-text.ensures
      (c.deref-2.ensures.value ∙ c.in_ok-lines.ensures ∙ ap times_text c.deref.ensures.value),
)
