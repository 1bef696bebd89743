-- The thread as it begins `idle`, and as it waits.
use Rattle.std.proofs.Common.{◌≡◌, ℕ, ◌++◌, Option, None, List, [], ◌∷◌, replicate, Bor, refl, ap, ◌∙◌, sym}
use Rattle.std.proofs.Common.{subst}
use Rattle.rt_actions.specs.Content.{Values}
use Rattle.rt_actions.specs.Action.{Ends}
use Rattle.rt_actions.specs.Doing.{Doing}
use Rattle.rt_ids.specs.declared.ids.BodyId.TheVariants as body_id
use Rattle.rt_app.specs.declared.stmt.Stmt.{Stmt}
use Rattle.rt_app.specs.Tree.{Body, Block, App}
use Rattle.rt_app.specs.View.{block_of}
use Rattle.rt_app.specs.Variables.{variables}
use Rattle.rt_app.specs.Doings.{body_doing, nothing}
use Rattle.rt_app.specs.Sending.{act}
use Rattle.rt_app.specs.Meaning.{run_block}
use Rattle.rt_laws.specs.State as laws
use Rattle.rt_laws.specs.State.{reached_values}
use Rattle.rt_laws.specs.Acting.{idle_job}
use Rattle.rt_baker_work.specs.declared.todo.Todo.TheVariants as todo
use Rattle.rt_baker_work.specs.Store.{Store, contents}
use Rattle.rt_baker_work.specs.Todo.{behind}
use Rattle.rt_baker_work.specs.Work.{Work, Becomes, IsSettled}
use Rattle.rt_baker_work.proofs.Walks.{made}
use Rattle.rt_baker_moves.specs.Job.{AuditorJob, finish}
use Rattle.rt_baker_moves.specs.Inside.Moves.{IsBegun}
use Rattle.rt_baker_moves.proofs.Acts.{settled_reaches, finish_reaches}
use Rattle.rt_baker_moves.proofs.Jobs.{kept}

-- `idle` ran as far as its first action
pub idle_begun : (app : App) (cost left : ℕ) (b : Body) (block : Bor (List Stmt)) (new : AuditorJob) (w v : Work)
    (was is
    : Store) → left ≡ cost → b.block ≡ block_of block.now
    → w ≡ made (todo.Run block ∷ []) (replicate (variables (block_of block.now)) 0)
    → Becomes app (λ later. later) w was v is → IsSettled v.todos → new ≡ kept laws.Idle 0 v left [] []
    → IsBegun app (laws.new_job laws.Idle 0 cost (body_doing app b [] (act (Ends body_id.Idle) nothing) (contents
    was))) was new is
unfolding behind
idle_begun app cost left b block new w v was is paid text begins runs settles made_so =
    subst (λ (j : AuditorJob). IsBegun app (laws.new_job laws.Idle 0 cost first) was j is) (sym made_so)
    (record {
      job = record {
        values = contents is;
        is = ap (λ (n : ℕ). laws.new_job laws.Idle 0 n first) (sym paid)
            ∙ ap (λ (d : Doing Values). laws.new_job laws.Idle 0 left d) same;
        settled = settles;
        waits = λ waiting. absurd (cc);
      };
      values = ap (λ (d : Doing Values). reached_values d (contents was)) same
          ∙ settled_reaches app v.todos (finish laws.Idle) v.vars (contents is) (contents was) settles
          (finish_reaches laws.Idle v.vars (contents is) (contents was) (λ waiting. cc));
    })
  where
    first : Doing Values
    first = body_doing app b [] (act (Ends body_id.Idle) nothing) (contents was)

    same : first ≡ behind app v.todos (finish laws.Idle) v.vars (contents is)
    same =
        ap (λ (k : Block). run_block app k (finish laws.Idle) (replicate (variables k) 0) (contents was)) text
        ∙ sym (ap (λ (u : Work). behind app u.todos (finish laws.Idle) u.vars (contents was)) begins)
        ∙ runs.same (finish laws.Idle)

pub work_begun : (old w : Work) (args : List ℕ) (block : Bor (List Stmt)) → old ≡ made [] [] → args ≡ []
    → w ≡ made (old.todos ++ todo.Run block ∷ []) (args ++ replicate (variables (block_of block.now)) 0)
    → w ≡ made (todo.Run block ∷ []) (replicate (variables (block_of block.now)) 0)
work_begun old w args block empty none is =
    is
    ∙ ap (λ (u : Work). made (u.todos ++ todo.Run block ∷ []) (args ++ replicate (variables (block_of block.now))
    0)) empty
    ∙ ap (λ (xs : List ℕ). made (todo.Run block ∷ []) (xs ++ replicate (variables (block_of block.now)) 0)) none

-- without `idle` the thread waits
pub waits_without : (app : App) (s : Store) (new : AuditorJob) (w : Work) → app.idle ≡ None → w ≡ made [] []
    → new ≡ kept laws.Waiting 0 w 0 [] [] → IsBegun app (idle_job app (contents s) app.idle) s new s
unfolding behind
waits_without app s new w none empty made_so =
    subst (λ (o : Option Body). IsBegun app (idle_job app (contents s) o) s new s) (sym none)
    (subst (λ (j : AuditorJob). IsBegun app (idle_job app (contents s) None) s j s) (sym (made_so
    ∙ ap (λ (u : Work). kept laws.Waiting 0 u 0 [] []) empty))
    (record {
      job = record { values = contents s; is = refl; settled = tt; waits = λ waiting. refl };
      values = refl;
    }))
