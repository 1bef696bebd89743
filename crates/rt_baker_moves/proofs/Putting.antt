-- A word is put into a local resource: that is what is kept too.
use Rattle.std.proofs.Common.{◌≡◌, ℕ, ap, sym, subst, ◌∙◌}
use Rattle.rt_actions.specs.Location.{Own}
use Rattle.rt_actions.specs.Content.{Values, Number, values_with}
use Rattle.rt_app.specs.Tree.{App}
use Rattle.rt_laws.specs.DeviceWords.{state_after_put}
use Rattle.rt_laws.specs.State as laws
use Rattle.rt_baker_work.specs.Store.{Store, contents}
use Rattle.rt_baker_moves.specs.State.{AuditorState, with_jobs, StateIs}

-- a state with other contents
abbrev pub with_store : AuditorState → Store → AuditorState
with_store s is = record {
  jobs = s.jobs;
  pending = s.pending;
  waiting = s.waiting;
  store = is;
  time = s.time;
  alarm = s.alarm;
  owing = s.owing;
}

pub put_stands : (o s : AuditorState) (is : Store) (local word : ℕ) → o ≡ s
    → contents is ≡ values_with (contents o.store) (Own local) (Number word)
    → (app : App) (t : laws.State) → StateIs app s t → StateIs app (with_store o is) (state_after_put local word t)
put_stands o s is local word same puts app t h =
    let puts_too : contents is ≡ values_with (contents s.store) (Own local) (Number word) =
    puts ∙ ap (λ (k : AuditorState). values_with (contents k.store) (Own local) (Number word)) same in
    subst (λ (k : AuditorState). StateIs app (with_store k is) (state_after_put local word t)) (sym same)
    (record {
      jobs = h.jobs;
      is =
          ap (λ (u : laws.State).
          record u { jobs = t.jobs; values = values_with u.values (Own local) (Number word) }) h.is
          ∙ ap (λ (vs : Values). record (with_jobs s t.jobs) { values = vs }) (sym puts_too);
      waiting = h.waiting;
    })
