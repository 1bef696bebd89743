-- A row of response times for each wait, and the other way round.
use Rattle.std.proofs.Common.{List, [], ◌∷◌, refl, ap, subst, ⊎_elim, ◌∙◌}
use Rattle.std.specs.List.{Contains}
use Rattle.rt_lemmas.proofs.Membership.{contains_cases, contains_here, contains_none, contains_there}
use Rattle.rt_ids.specs.Priority.{hardware}
use Rattle.rt_code.specs.Image.{Image}
use Rattle.rt_bounds.specs.declared.bound.HandlerBound.{HandlerBound}
use Rattle.rt_bounds.specs.declared.bound.WaitBound.{WaitBound}
use Rattle.rt_timely.proofs.Told.{waits_are_told}
use Rattle.rt_rta.specs.declared.limits.Limit.{Limit}
use Rattle.rt_image_times.specs.Response.{IsTimeOf, AreTimesOf}
use Rattle.rt_image_times.specs.declared.response.TimeBound.{TimeBound}
use Rattle.rt_image_times_laws.specs.Laws.{TimesAreTold}

module _ (img : Image) (limits : List Limit) (handlers : List HandlerBound) where
  -- the row of a wait
  pub row_of : (waits : List WaitBound) (rows : List TimeBound) → AreTimesOf img limits handlers waits rows
      → (wait : WaitBound) → Contains waits wait
      → (row : TimeBound) × Contains rows row × IsTimeOf img limits handlers wait row
  row_of [] rows are wait has = absurd (contains_none wait has)
  row_of (w ∷ waits) [] are wait has = absurd are
  row_of (w ∷ waits) (r ∷ rows) are wait has =
      ⊎_elim
      (λ same. (r, contains_here r rows, subst (λ (v : WaitBound). IsTimeOf img limits handlers v r) same are.0))
      (λ rest. let one = row_of waits rows are.1 wait rest in (one.0, contains_there r rows one.0 one.1, one.2))
      (contains_cases w waits wait has)

  -- the wait of a row
  pub wait_of : (waits : List WaitBound) (rows : List TimeBound) → AreTimesOf img limits handlers waits rows
      → (row : TimeBound) → Contains rows row
      → (wait : WaitBound) × Contains waits wait × IsTimeOf img limits handlers wait row
  wait_of waits [] are row has = absurd (contains_none row has)
  wait_of [] (r ∷ rows) are row has = absurd are
  wait_of (w ∷ waits) (r ∷ rows) are row has =
      ⊎_elim
      (λ same. (w, contains_here w waits, subst (λ (v : TimeBound). IsTimeOf img limits handlers w v) same are.0))
      (λ rest. let one = wait_of waits rows are.1 row rest in (one.0, contains_there w waits one.0 one.1, one.2))
      (contains_cases r rows row has)

pub times_are_told : TimesAreTold
times_are_told img b limits rows are index row h at enabled small =
    let wait = waits_are_told img b index row h are.within are.checked are.bounds at enabled small in
    let one = row_of img limits b.handlers.items b.waits.items rows are.times wait.0 wait.1 in (
      one.0.response,
      record {
        index = index;
        row = row;
        at = at;
        number = refl;
        handler = h;
        enabled = enabled;
        time = one.0;
        among = one.1;
        priority = ap (hardware img.bits) one.2.priority ∙ wait.2;
        is = refl;
      },
    )
