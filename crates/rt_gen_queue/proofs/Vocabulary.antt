-- The words that the proofs of the four code crates share, from one module, as a prelude is in Rust: this file declares
-- nothing, and hands on what is declared below. The words of the layer on which code is proved are in Layer. Types that
-- this crate's source declares cannot be handed on to other crates.
-- numbers, truth values, options, lists and equations
pub use Rattle.std.proofs.Common.{Bool, Contains, IfSome, IsSome, List, None, OnOk, Option, Some, [], ap, append-nil}
pub use Rattle.std.proofs.Common.{append_assoc, arith, bit_and, bit_or, cond, drop, drop-cons, eq-eqb, false, filter}
pub use Rattle.std.proofs.Common.{find, flat_map, get_or, get_or-set_other, get_or-set_same, if◌then◌else◌, inl, inr}
pub use Rattle.std.proofs.Common.{is_some, length, length-append, length-set, map, max, min, nat_le, nat_lt, not}
pub use Rattle.std.proofs.Common.{option_map, position, refl, replicate, slice_get, slice_index, slice_set}
pub use Rattle.std.proofs.Common.{subst, suc, sum_by, sym, take, true, zero, zero-add, ℕ, ◌%◌, ◌&&◌, ◌*◌}
pub use Rattle.std.proofs.Common.{◌++◌, ◌+◌, ◌-◌, ◌<◌, ◌==◌, ◌^◌, ◌||◌, ◌∙◌, ◌∷◌, ◌≡◌, ◌≢◌, ◌≤◌, ◌⊎◌}
pub use Rattle.std.specs.List.{AllByRecursion, list_any, range_with_len}
-- lemmas on them
pub use Rattle.std.proofs.lemmas.Bool.{cases_eq, cases_lt, eqb-true, false_from_ne_true, false≢true, le-leb, le-ltb}
pub use Rattle.std.proofs.lemmas.Bool.{lt-ltb, ltb-true, ne_eqb}
pub use Rattle.std.proofs.{Math.Seq.set-append_seam, lemmas.Bool.Decides.nat_tests}
pub use Rattle.std.proofs.{lemmas.List.FromFn.get_or-map-range_with_len, lemmas.List.FromFn.length-map-range_with_len}
pub use Rattle.std.proofs.{lemmas.List.Sums.sum_by-append, lemmas.List.Sums.sum_by-cons, lemmas.Nat.mod-mul-add}
pub use Rattle.std.proofs.lemmas.List.{drop_all, drop_at, drop_more, ext_get_or, get_or-take, get_or_append_left}
pub use Rattle.std.proofs.lemmas.List.{length-map, length-replicate, length-take-le, length_push, map-append}
pub use Rattle.std.proofs.lemmas.List.{take-append-drop, take-append-le, take_all, take_at, take_more}
pub use Rattle.std.proofs.lemmas.Option.{get_or_from_slice_get, none-some, same_Some, slice_get-get_or, slice_get_read}
pub use Rattle.std.proofs.lemmas.Option.{slice_get_within}
-- more lemmas, of this house
pub use Rattle.rt_lemmas.proofs.Bools.{and_both, and_left, and_right, or_left, or_right}
pub use Rattle.rt_lemmas.proofs.Lists.{AreFrom, all_behind, all_from, all_front, drop_as_cons, first_from, mapped_at}
pub use Rattle.rt_lemmas.proofs.Lists.{rest_from}
pub use Rattle.rt_lemmas.proofs.Membership.{all_append, all_at, all_has, all_weaker, any_passes, contains_cases}
pub use Rattle.rt_lemmas.proofs.Membership.{contains_here, contains_none, contains_there}
-- what jobs do and hold: sections, contents of queues, places of messages, actions
pub use Rattle.rt_actions.specs.Action.{Action, Arms, Cancels, Clocks, Emits, Ends, Enters, Fires, Frees, Leaves, Moves}
pub use Rattle.rt_actions.specs.Action.{Posts, Readies, FindsFull, Returns, SetsAlarm, Places, effect}
pub use Rattle.rt_ids.specs.{Choice.IsIn, Names.Names}
pub use Rattle.rt_actions.specs.{Doing.Doing, Doing.does, Entry.Entry, Entry.count}
pub use Rattle.rt_ids.specs.{Operation.number_of, Operation.operate, declared.ids.BodyId.BodyId}
pub use Rattle.rt_ids.specs.{declared.ids.Section.Section, declared.limits.TheConstants.BODY_COST}
pub use Rattle.rt_actions.specs.Content.{Armed, Content, Delays, MayArm, Message, Messages, Number, Timed, Values}
pub use Rattle.rt_actions.specs.Content.{message_of_handle}
pub use Rattle.rt_actions.specs.Content.{delays, least, least_instant, messages, number, values_with, timer_content}
pub use Rattle.rt_actions.specs.Content.{with_armed}
pub use Rattle.rt_actions.specs.Content.{with_moved, without_handle, without_least}
pub use Rattle.rt_actions.specs.Location.{Guarded, Location, Own, is_same_location, is_same_section}
pub use Rattle.rt_ids.specs.Lists.{greatest, is_some_and, or_zero, then_from}
pub use Rattle.rt_actions.specs.Storage.{At, AtPriority, Home, In, Runner, Starting, Storage}
-- an application
pub use Rattle.rt_app.specs.{Names.names_of, Spawned.spawns, Variables.variables, Variables.variables_in, View.app_of}
pub use Rattle.rt_app.specs.{View.block_of, View.task_of, declared.app.Mono.Mono, declared.costs.TheConstants.FREE_COST}
pub use Rattle.rt_app.specs.{declared.costs.TheConstants.HANDLE_COST, declared.costs.TheConstants.SPAWN_AFTER_COST}
pub use Rattle.rt_app.specs.{declared.plan.Plan.Plan}
pub use Rattle.rt_app.specs.Tree.{After, App, Assign, Bind, Block, Body, Branch, Calc, Call, Cancel, Emit, Empty}
pub use Rattle.rt_app.specs.Tree.{Expression, Locked, Move, Now, Num, Oper, Pend, Read, Repeat, Soon, Spawn, Spawns}
pub use Rattle.rt_app.specs.Tree.{Statement, Task, Then}
pub use Rattle.rt_app.specs.Bodies.{Member, member_at, members, task_priority}
pub use Rattle.rt_app.specs.Level.{capacities_before, armed_count, armed_messages, is_armed, is_of_level, is_software}
pub use Rattle.rt_app.specs.Level.{levels}
-- that it is accepted, and what follows
pub use Rattle.rt_app.specs.{Acceptance.IsSound, Accepted.IsAccepted, Ceiling.Ceilings, Ceiling.ceiling}
pub use Rattle.rt_app.specs.{Handled.AreHandled, Handlers.irq_number, Limits.KeepsTaskLimits, Limits.statements_in}
pub use Rattle.rt_app.specs.{Plan.IsPlan, Sound.IsChangeable, Sound.IsSoundLock}
-- its memory, its queues, and what is done in them
pub use Rattle.rt_app.specs.Layout.{Layout, armings_at, free_at, handle_count_at, handles_at, heap_at, home_of}
pub use Rattle.rt_app.specs.Layout.{inputs_at}
pub use Rattle.rt_app.specs.Layout.{instants_at, layout, memory, numbers_at, ready_at, ready_room, timer_at}
pub use Rattle.rt_app.specs.Holding.{RepresentsFree, RepresentsReady, RepresentsTimer, arguments_of, arming_of_entry}
pub use Rattle.rt_app.specs.Holding.{armed_place}
pub use Rattle.rt_app.specs.Holding.{arming_at, handle_at, instant_at, is_constant, is_kept, message_at, message_word}
unfoldable pub use Rattle.rt_app.specs.Holding.{storage}
pub use Rattle.rt_app.specs.Heap.{IsArranged, IsHeap, above, at, key_of, keys}
pub use Rattle.rt_app.specs.Sending.{Rest, act, act_all, arm_actions, capacity_of, dispatcher_number, is_armed_as}
pub use Rattle.rt_app.specs.Sending.{leave_timer, ready_actions, spawn_actions, place_actions}
pub use Rattle.rt_app.specs.{Doings.nothing, Doings.start_doing, Meaning.run, Meaning.run_block, Meaning.value_in}
-- costs and sizes
pub use Rattle.rt_app.specs.BodyCost.{body_cost, cost_measure, handle_section_cost, timer_cost}
pub use Rattle.rt_app.specs.Frame.{first_lock_slot, frame_words, has_loop, spawn_words}
pub use Rattle.rt_app.specs.Steps.{block_steps, expression_steps, statement_steps}
-- lemmas on applications
pub use Rattle.rt_app.proofs.{ArmedPlaces.few_before, ArmedPlaces.few_messages, Capping.cap_steps, Laid.local_is_home}
pub use Rattle.rt_app.proofs.{Laid.resource_is_home, Members.has_body, Sound.accepted_are_sound}
pub use Rattle.rt_app.proofs.{Representing.IsTimedPlace}
pub use Rattle.rt_app.proofs.{Representing.the_task}
pub use Rattle.rt_app.proofs.Counting.{all_counted, count_more, counted, one, one_itself, same_entry}
pub use Rattle.rt_app.proofs.LaidQueues.{capacity_is, free_is_home, input_is_home, many, ready_is_home}
-- code, and that it stands
pub use Rattle.rt_ids.specs.Naming.{IsDeclared}
pub use Rattle.rt_code.specs.{
  Acting.with_queue,
  Processor.Leads,
  Stack.body_frame,
  Stack.caller_frame,
}
pub use Rattle.rt_code.specs.{declared.image.BodyRow.BodyRow, declared.instr.Instr.Instr, declared.instr.Note.Note}
pub use Rattle.rt_code.specs.Masking.{IsKindFor, IsMask, IsWithin, NobodyKeeps, TakesOver, closing_instr, opening_instr}
pub use Rattle.rt_code.specs.Masking.{slots_with_mask}
pub use Rattle.rt_code.specs.Owning.{Agree, OpenSection, SectionKind, LeavesMine, Marked, Masked, MayAccess, MayLoad}
pub use Rattle.rt_code.specs.Owning.{MayStore}
pub use Rattle.rt_code.specs.Owning.{Raised, Configuration, is_open, mine, owns, reads, saved_slot, saved_slots}
pub use Rattle.rt_code.specs.Standing.{Asks, Goes, KeepsSaved, LineFits, Stands, StandsFrom, spend_step}
pub use Rattle.rt_code.specs.Standing.{processor_of}
pub use Rattle.rt_actions.proofs.Sections.{one_section}
pub use Rattle.rt_code.proofs.Mine.{may_load, owns_open, owns_reads, queued, queued_more, queues_same}
pub use Rattle.rt_code.proofs.Mine.{reads_more, same_section}
pub use Rattle.rt_code.proofs.Standing.{stands_with_more}
-- lines, guards, queues and spawns, as code has them
pub use Rattle.rt_gen_queue.specs.Called.{AreRepresented, calm, row_for, rows_for}
pub use Rattle.rt_gen_queue.specs.Guards.{enter, enter_line, guard_of, guard_of_ceiling, kind_at, kind_of, leave}
pub use Rattle.rt_gen_queue.specs.Guards.{leave_line}
pub use Rattle.rt_gen_queue.specs.Line.{HasCodeAt, IsNameable, Line, line_with_note, plain}
pub use Rattle.rt_gen_queue.specs.Making.{Appends, Extends, Made, next_address}
pub use Rattle.rt_gen_queue.specs.{Queue.queue_at, SpawnLines.store_code}
pub use Rattle.rt_gen_queue.specs.{Spawning.HoldsOff}
pub use Rattle.rt_gen_queue.specs.SpawnCode.{end_code, fill_code, ready_code, spawn_code, place_code, target_of}
