-- What is left to do, one thing more and one less, and what it becomes.
use Rattle.std.proofs.Common.{◌≡◌, ℕ, suc, List, [], ◌∷◌, ◌++◌, length, set, true, refl, ap, ◌∙◌}
use Rattle.std.proofs.Common.{sym, subst, arith, append_assoc, ◌-◌}
use Rattle.std.specs.List.{slice_get}
use Rattle.rt_app.specs.Tree.{App}
use Rattle.rt_app.specs.Meaning.{Later}
use Rattle.rt_baker_work.specs.declared.todo.Todo.{Todo}
use Rattle.rt_baker_work.specs.Store.{Store, contents}
use Rattle.rt_baker_work.specs.Todo.{meaning, behind}
use Rattle.rt_baker_work.specs.Work.{Work, Becomes, is_seen, IsSettled, next_todo}

pub behind_more : (app : App) (ts us : List Todo) (later : Later)
    → behind app (ts ++ us) later ≡ behind app us (behind app ts later)
unfolding behind
behind_more app [] us later = refl
behind_more app (t ∷ ts) us later = behind_more app ts us (meaning app t later)

abbrev pub made : List Todo → List ℕ → Work
made ts vars = record { todos = ts; vars = vars }

abbrev pub with_todos : Work → List Todo → Work
with_todos w ts = made (w.todos ++ ts) w.vars

pub two_more : (old a b : Work) (t u : Todo) → a ≡ with_todos old (t ∷ []) → b ≡ with_todos a (u ∷ [])
    → b ≡ with_todos old (t ∷ u ∷ [])
two_more old a b t u e f =
    f ∙ ap (λ (w : Work). with_todos w (u ∷ [])) e
    ∙ ap (λ (ts : List Todo). made ts old.vars) (append_assoc old.todos (t ∷ []) (u ∷ []))

pub three_more : (old a b c : Work) (t u v : Todo) → a ≡ with_todos old (t ∷ []) → b ≡ with_todos a (u ∷ [])
    → c ≡ with_todos b (v ∷ [])
    → c ≡ with_todos old (t ∷ u ∷ v ∷ [])
three_more old a b c t u v e f g =
    g ∙ ap (λ (w : Work). with_todos w (v ∷ [])) (two_more old a b t u e f)
    ∙ ap (λ (ts : List Todo). made ts old.vars) (append_assoc old.todos (t ∷ u ∷ []) (v ∷ []))

-- what is to do first stands on top, by these variables
pub grown : (app : App) (first : Later → Later) (old new : Work) (s : Store) (ts : List Todo) (vars : List ℕ)
    → new ≡ made (old.todos ++ ts) vars
    → ((later : Later) → first later old.vars (contents s) ≡ behind app ts later vars (contents s))
    → Becomes app first old s new s
grown app first old new s ts vars is means = record {
  same = λ later.
      means (behind app old.todos later)
      ∙ ap (λ (f : Later). f vars (contents s)) (sym (behind_more app old.todos ts later))
      ∙ ap (λ (w : Work). behind app w.todos later w.vars (contents s)) (sym is);
}

pub pushed : (app : App) (first : Later → Later) (old new : Work) (s : Store) (ts : List Todo)
    → new ≡ with_todos old ts
    → ((later : Later) → first later old.vars (contents s) ≡ behind app ts later old.vars (contents s))
    → Becomes app first old s new s
pushed app first old new s ts is means = grown app first old new s ts old.vars is means

-- a variable has another value
pub variable_set : (app : App) (first : Later → Later) (old new : Work) (s : Store) (x n : ℕ)
    → new ≡ made old.todos (set old.vars x n)
    → ((later : Later) → first later old.vars (contents s) ≡ later (set old.vars x n) (contents s))
    → Becomes app first old s new s
variable_set app first old new s x n is means = record {
  same = λ later.
      means (behind app old.todos later)
      ∙ ap (λ (w : Work). behind app w.todos later w.vars (contents s)) (sym is);
}

-- a resource has
pub content_set : (app : App) (first : Later → Later) (w : Work) (s t : Store)
    → ((later : Later) → first later w.vars (contents s) ≡ later w.vars (contents t)) → Becomes app first w s w t
content_set app first w s t means = record { same = λ later. means (behind app w.todos later) }

-- work that is seen as other, with one thing more
pub one_more : (ts us : List Todo) (vars : List ℕ) (old : Work) (t : Todo) → made ts vars ≡ old
    → us ≡ ts ++ t ∷ [] → made us vars ≡ with_todos old (t ∷ [])
one_more ts us vars old t view is = ap (λ (l : List Todo). made l vars) is
    ∙ ap (λ (w : Work). with_todos w (t ∷ [])) view

-- the next thing of work is taken up
pub taken_up : (app : App) (t : Todo) (first w mid new : Work) (was s u : Store) → w ≡ with_todos mid (t ∷ [])
    → Becomes app (λ later. later) first was w s
    → Becomes app (meaning app t) mid s new u → Becomes app (λ later. later) first was new u
unfolding behind
taken_up app t first w mid new was s u is h step = record {
  same = λ later.
      h.same later
      ∙ ap (λ (k : Work). behind app k.todos later k.vars (contents s)) is
      ∙ ap (λ (f : Later). f mid.vars (contents s)) (behind_more app mid.todos (t ∷ []) later)
      ∙ step.same later;
}

pub settled_end : (ts : List Todo) (t : Todo) → is_seen t ≡ true → IsSettled (ts ++ t ∷ [])
settled_end [] t seen = seen
settled_end (u ∷ []) t seen = seen
settled_end (u ∷ v ∷ ts) t seen = settled_end (v ∷ ts) t seen

pub settled_as : (t : Todo) (new mid : Work) → new ≡ with_todos mid (t ∷ []) → is_seen t ≡ true → IsSettled new.todos
settled_as t new mid is seen = subst (λ (w : Work). IsSettled w.todos) (sym is) (settled_end mid.todos t seen)

-- the last thing is the next one
pub next_is : (ts : List Todo) → slice_get ts (length ts - 1) ≡ next_todo ts
next_is [] = refl
next_is (t ∷ []) = refl
next_is (t ∷ u ∷ ts) =
    let e : length (t ∷ u ∷ ts) - 1 ≡ suc (length (u ∷ ts) - 1) = omega arith in
    ap (slice_get (t ∷ u ∷ ts)) e ∙ next_is (u ∷ ts)
