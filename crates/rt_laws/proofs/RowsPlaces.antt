-- Worked examples of where places are: what started jobs have in their hands behind a place, a start and a cancel, and
-- what items alone tell of it.
use Rattle.std.proofs.Common.{◌≡◌, ◌++◌, List, [], ◌∷◌, Some, None, refl}
use Rattle.rt_ids.specs.Lists.{those_below}
use Rattle.rt_actions.specs.Location.{Guarded}
use Rattle.rt_actions.specs.Content.{number}
use Rattle.rt_ids.specs.declared.ids.BodyId.TheVariants as body
use Rattle.rt_ids.specs.declared.ids.Section.TheVariants as section
use Rattle.rt_trace.specs.Label.{Label, Arrived, items_of}
use Rattle.rt_trace.specs.declared.item.What.TheVariants as what
use Rattle.rt_laws.specs.State.{State, first}
use Rattle.rt_laws.specs.ByItems.{after_all}
use Rattle.rt_laws.specs.Places.{hands_after, in_transit, arming_count, ready_of}
use Rattle.rt_laws.specs.MessagesByItems.{whats, task_counts, still_armed}
use Rattle.rt_laws.proofs.RowParts.{labels_of}
use Rattle.rt_laws.proofs.RowsHandles.{undo}

-- a job that has a place of the task 1 in its hands is stopped by one that starts a message of the task 2
stopped : hands_after (labels_of
    (what.End body.Init ∷ what.Take 0 0 ∷ what.Enter (section.Free 1) ∷ what.Placed 1 ∷ what.Take 1 0
    ∷ what.Enter (section.Ready 2) ∷ what.Start 2 [] ∷ []))
    ≡ Some 2 ∷ Some 1 ∷ None ∷ []
stopped = refl

-- `a` has armed two messages, put one off and taken the other back
taken_back : List Label
taken_back = Arrived 0 ∷ labels_of
    (what.End body.Init ∷ what.Take 0 0
    ∷ what.Enter (section.Free 1) ∷ what.Placed 1 ∷ what.Leave (section.Free 1) None
    ∷ what.Enter section.Timer ∷ what.Clock 0 ∷ what.Arm 1 5 ∷ what.AlarmSet ∷ what.Leave section.Timer None
    ∷ what.Enter (section.Free 1) ∷ what.Placed 1 ∷ what.Leave (section.Free 1) None
    ∷ what.Enter section.Timer ∷ what.Clock 0 ∷ what.Arm 1 5 ∷ what.AlarmSet ∷ what.Leave section.Timer None
    ∷ what.Enter section.Timer ∷ what.Clock 0 ∷ what.Move 1 1 9 ∷ what.AlarmSet ∷ what.Leave section.Timer None
    ∷ what.Enter section.Timer ∷ what.Cancel 1 2 ∷ [])

behind_cancel : State
behind_cancel = after_all undo (first undo) taken_back

-- both places are out: one is in its hands, one armed
in_its_hands : hands_after taken_back ≡ Some 1 ∷ None ∷ []
unfolding taken_back
in_its_hands = refl

two_out : number (behind_cancel.values (Guarded (section.Free 1))) ≡ 2
unfolding undo taken_back behind_cancel those_below
two_out = refl

one_in_transit : in_transit 1 (hands_after taken_back) ≡ 1
unfolding taken_back
one_in_transit = refl

one_armed : arming_count 1 behind_cancel.values ≡ 1
unfolding undo taken_back behind_cancel those_below
one_armed = refl

none_ready : ready_of undo 1 behind_cancel.values ≡ 0
unfolding undo taken_back behind_cancel those_below
none_ready = refl

-- with the free its hands are empty again
given : List Label
given = taken_back ++ labels_of
    (what.AlarmSet ∷ what.Leave section.Timer None ∷ what.Enter (section.Free 1) ∷ what.Free 1 ∷ [])

given_back : hands_after given ≡ None ∷ None ∷ []
unfolding taken_back given
given_back = refl

-- by items: of the two that were armed one was cancelled, and its place given back without a start
counts : task_counts 1 (whats (items_of 0 given))
    ≡ record { ok = 2; ready = 0; start = 0; free = 1; arm = 2; fire = 0; cancel = 1 }
unfolding taken_back given
counts = refl

-- the other is armed still, for its later instant
armed_still : still_armed (whats (items_of 0 given))
    ≡ record { instant = 9; message = record { task = 1; args = [] }; handle = 1 } ∷ []
unfolding taken_back given
armed_still = refl
