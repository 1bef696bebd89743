-- Where the places of messages are (the RTIC 1 book, the capacity of software tasks): a place of a task is out while
-- its message is in transit, armed or ready. It is in transit in the hands of a job: from the `ok` of a spawn until its
-- message is ready or armed, from the `fire` of the timer handler until that is ready, and from the `start` of a
-- dispatcher, or from a `cancel`, until its `free`. Whose hands a place is in follows from what is shown alone; the
-- code keeps the numbers of free places in cells.
use Rattle.std.specs.Prelude.{◌≡◌, ℕ, ◌+◌, ◌==◌, count_by, List, [], ◌∷◌, drop, Option, Some, None}
use Rattle.rt_ids.specs.Lists.{is_some_and}
use Rattle.rt_actions.specs.Location.{Guarded}
use Rattle.rt_actions.specs.Content.{Values, number, messages, delays}
use Rattle.rt_ids.specs.declared.ids.Section.TheVariants as section
use Rattle.rt_trace.specs.Label.{Label, Stepped}
use Rattle.rt_trace.specs.declared.item.What.{What}
use Rattle.rt_trace.specs.declared.item.What.TheVariants as what
use Rattle.rt_app.specs.Tree.{App}
use Rattle.rt_app.specs.Bodies.{task_priority}
use Rattle.rt_laws.specs.State.{State}

-- The task of the place that a job has in its hands, where it has one. It has one at most.
abbrev pub Hand : Type 0
Hand = Option ℕ

-- what a job has in its hands after an item of its own
abbrev pub hand_behind : Hand → What → Hand
hand_behind hand (what.Placed t) = Some t
hand_behind hand (what.Fire t) = Some t
hand_behind hand (what.Start t args) = Some t
hand_behind hand (what.Cancel t handle) = Some t
hand_behind hand (what.Ready t) = None
hand_behind hand (what.Arm t instant) = None
hand_behind hand (what.Free t) = None
hand_behind hand w = hand

-- the hands of the started jobs, the last started first, after an item of the first of them, which runs
abbrev pub on_first : What → List Hand → List Hand
on_first w [] = []
on_first w (hand ∷ hands) = hand_behind hand w ∷ hands

-- the hands of the started jobs after a label: a job that is taken begins with empty hands, and one that returns leaves
-- with its own
abbrev pub hands_behind : List Hand → Label → List Hand
hands_behind hands (Stepped (Some (what.Take irq depth))) = None ∷ hands
hands_behind hands (Stepped (Some (what.Ret irq))) = drop 1 hands
hands_behind hands (Stepped (Some w)) = on_first w hands
hands_behind hands label = hands

-- the hands of the started jobs after labels, from these hands on
abbrev pub hands_from : List Hand → List Label → List Hand
hands_from hands [] = hands
hands_from hands (label ∷ labels) = hands_from (hands_behind hands label) labels

-- the hands of the started jobs after these labels of a run
abbrev pub hands_after : List Label → List Hand
hands_after labels = hands_from (None ∷ []) labels

-- the places of a task that are in transit
abbrev pub in_transit : ℕ → List Hand → ℕ
in_transit t hands = count_by (is_some_and (λ u. u == t)) hands

-- the places of a task whose messages are armed
abbrev pub arming_count : ℕ → Values → ℕ
arming_count t vs = count_by (λ a. a.message.task == t) (delays (vs (Guarded section.Timer)))

-- the places of a task whose messages are ready
abbrev pub ready_of : App → ℕ → Values → ℕ
ready_of app t vs = count_by (λ m. m.task == t) (messages (vs (Guarded (section.Ready (task_priority app t)))))

-- the places of each task that are out are those in transit, armed and ready
abbrev pub CountsPlaces : App → List Label → State → Type 0
CountsPlaces app labels s =
    (t : ℕ) → number (s.values (Guarded (section.Free t)))
    ≡ in_transit t (hands_after labels) + arming_count t s.values + ready_of app t s.values
