-- What holds of the handles of armed messages in every run (the RTIC 1 book, the handles of scheduled messages): each
-- was given, and a handle is of one armed message at most. So a cancel and a move by a handle are of one message.
use Rattle.rt_actions.specs.Location.{Guarded}
use Rattle.rt_actions.specs.Content.{timer_content}
use Rattle.rt_ids.specs.declared.ids.Section.TheVariants as section
use Rattle.rt_app.specs.Handled.{AreHandled}
use Rattle.rt_laws.specs.State.{State}

-- the armed messages of a state have handles that were given, and no two have one handle
abbrev pub KeepsHandles : State → Type 0
KeepsHandles s = AreHandled (timer_content (s.values (Guarded section.Timer)))
