-- What an auditor has left to do for a job, and how it changes as silent statements run. The definitions have what is
-- left as a function of what comes after it, of variables and of contents (`rt_app`; the RTIC 1 book, resources).
use Rattle.std.specs.Prelude.{◌≡◌, ℕ, Bool, true, false, List, [], ◌∷◌, Option, Some, None}
use Rattle.rt_app.specs.Tree.{App}
use Rattle.rt_app.specs.Meaning.{Later}
use Rattle.rt_baker_work.specs.declared.todo.Todo.{Todo}
use Rattle.rt_baker_work.specs.declared.todo.Todo.TheVariants as todo
use Rattle.rt_baker_work.specs.Store.{Store, contents}
use Rattle.rt_baker_work.specs.Todo.{behind}

-- what is left to do of a body: a list of things, and the body's variables
pub record Work : Type 0 where
  -- the next thing last
  pub todos : List Todo
  -- the variables of the body
  pub vars : List ℕ

-- a job's work with nothing to do
abbrev pub no_work : Work
no_work = record { todos = []; vars = [] }

-- Whatever is left after it, what was to do first and then the old work is what the new work is.
pub record Becomes (app : App) (first : Later → Later) (old : Work) (was : Store) (new : Work) (is : Store) : Type
    0 where
  pub same : (later : Later) → first (behind app old.todos later) old.vars (contents was) ≡ behind app new.todos
      later new.vars (contents is)

-- whether a thing to do is one that others can see
abbrev pub is_seen : Todo → Bool
is_seen (todo.Act a) = true
is_seen (todo.Clock r) = true
is_seen t = false

-- nothing is left, or the next thing is one that others can see
abbrev pub IsSettled : List Todo → Type 0
IsSettled [] = Unit {0}
IsSettled (t ∷ []) = is_seen t ≡ true
IsSettled (t ∷ u ∷ ts) = IsSettled (u ∷ ts)

-- the last of these, which is to be done next
abbrev pub next_todo : List Todo → Option Todo
next_todo [] = None
next_todo (t ∷ []) = Some t
next_todo (t ∷ u ∷ ts) = next_todo (u ∷ ts)
