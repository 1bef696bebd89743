-- The execution priority of a point: the one that its owner and its open sections hold a processor to (ARMv7-M
-- Architecture Reference Manual, section B1.5.4). It is one owner's part in the system ceiling of Baker (Stack-Based
-- Scheduling of Realtime Processes, 1991), as a priority value. A smaller value is a higher priority. Here it follows
-- from the code; the core has it in its registers.
use Rattle.std.specs.Prelude.{ℕ, min, List, [], ◌∷◌, option_map, unwrap_or}
use Rattle.rt_ids.specs.declared.limits.TheConstants.{THREAD_VALUE}
use Rattle.rt_code.specs.Image.{Image}
use Rattle.rt_points.specs.Point.{Owner, Starting, Thread, Handling, SectionKind, Mark, Raise, Mask, Opened}
use Rattle.rt_points.specs.Leading.{handler_at}

-- the priority value of an owner: `init` runs with all interrupts masked, the thread below every interrupt
abbrev pub owner_value : Image → Owner → ℕ
owner_value img Starting = 0
owner_value img Thread = THREAD_VALUE
owner_value img (Handling index) = unwrap_or (option_map (λ h. h.value) (handler_at img index)) THREAD_VALUE

-- the words of an owner's frame
abbrev pub frame_of : Image → Owner → ℕ
frame_of img Starting = img.thread_words
frame_of img Thread = img.thread_words
frame_of img (Handling index) = unwrap_or (option_map (λ h. h.frame) (handler_at img index)) 0

-- the execution priority inside a section of a kind, where it is this outside: the value falls or stays
abbrev pub lowered_value : SectionKind → ℕ → ℕ
lowered_value Mark value = value
lowered_value (Raise slot v) value = min v value
lowered_value (Mask slot) value = 0

-- the execution priority with these sections open, innermost first, as a priority value: no section makes the value
-- greater
abbrev pub execution_priority : Image → Owner → List Opened → ℕ
execution_priority img owner [] = owner_value img owner
execution_priority img owner (o ∷ outer) = lowered_value o.kind (execution_priority img owner outer)
