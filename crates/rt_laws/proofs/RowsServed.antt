-- Worked examples: where messages are ready or due and nobody has the section of their queue open, the interrupt of who
-- serves them is pending, and then a job has all of its handler left to do.
use Rattle.std.proofs.Common.{◌≡◌, true, false, [], ◌∷◌, slice_index_or, None, inl, refl}
use Rattle.rt_ids.specs.Lists.{those_below}
use Rattle.rt_actions.specs.Location.{Guarded}
use Rattle.rt_actions.specs.Content.{messages}
use Rattle.rt_ids.specs.declared.ids.BodyId.TheVariants as body
use Rattle.rt_ids.specs.declared.ids.Section.TheVariants as section
use Rattle.rt_trace.specs.Label.{Arrived, Ticked, Rang}
use Rattle.rt_trace.specs.declared.item.What.TheVariants as what
use Rattle.rt_app.specs.Handlers.{Dispatches, Times}
use Rattle.rt_laws.specs.State.{State, first}
use Rattle.rt_laws.specs.Allowed.{after}
use Rattle.rt_laws.specs.ByItems.{after_all}
use Rattle.rt_laws.specs.Giving.{next_instant, is_due}
use Rattle.rt_laws.specs.Served.{HasAllToDo}
use Rattle.rt_laws.proofs.RowParts.{labels_of, shows}
use Rattle.rt_laws.proofs.RowsQueues.{one, timed, arming, armed}

-- `a` has spawned `t`, and is behind the section
spawned : State
spawned = after_all one (first one) (Arrived 0 ∷ labels_of
    (what.End body.Init ∷ what.Take 0 0
    ∷ what.Enter (section.Free 1) ∷ what.Placed 1 ∷ what.Leave (section.Free 1) None
    ∷ what.Enter (section.Ready 1) ∷ what.Ready 1 ∷ what.Post 1 ∷ what.Leave (section.Ready 1) None ∷ []))

one_ready : messages (spawned.values (Guarded (section.Ready 1))) ≡ record { task = 1; args = 7 ∷ [] } ∷ []
unfolding one spawned those_below
one_ready = refl

it_is_posted : slice_index_or spawned.pending 1 false ≡ true
unfolding one spawned those_below
it_is_posted = refl

-- the dispatcher has started: its interrupt is pending no more
dispatching : State
dispatching = after_all one spawned (labels_of
    (what.Enter (section.Free 1) ∷ what.Full 1 ∷ what.Leave (section.Free 1) None ∷ what.Ret 0 ∷ what.Take 1 0 ∷ []))

it_is_taken : slice_index_or dispatching.pending 1 false ≡ false
unfolding one spawned dispatching those_below
it_is_taken = refl

it_begins : HasAllToDo one dispatching.jobs 1 (Dispatches 1)
unfolding one spawned dispatching those_below
it_begins = inl (refl, (dispatching.values, refl))

-- the alarm has come
rung : State
rung = after_all timed armed (Ticked ∷ Ticked ∷ Rang ∷ [])

one_due : is_due rung.time (next_instant rung) ≡ true
unfolding timed arming armed rung
one_due = refl

timer_is_posted : slice_index_or rung.pending 2 false ≡ true
unfolding timed arming armed rung
timer_is_posted = refl

timer_begins : HasAllToDo timed (after timed rung (shows (what.Take 2 0))).jobs 2 Times
unfolding timed arming armed rung those_below
timer_begins = inl (refl, (rung.values, refl))
