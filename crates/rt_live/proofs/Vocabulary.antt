-- The words that the proofs of this crate and of rt_dual share, from one module, as a prelude is in Rust: this file
-- declares nothing, and hands on what is declared below. Types that this crate's source declares cannot be handed on to
-- another crate.
pub use Rattle.rt_ids.specs.Event.{Arrive, Event, Step, Tick, steps}
pub use Rattle.rt_ids.specs.{Arrivals.arrivals, Arrivals.arrivals_below, Lists.those_below, Names.Names}
pub use Rattle.rt_ids.specs.{Naming.irq_named, declared.limits.TheConstants.IRQ_NUMBERS}
pub use Rattle.rt_lemmas.proofs.Membership.{all_append, all_at, all_flat_map, all_has, all_weaker, contains_cases}
pub use Rattle.rt_lemmas.proofs.Membership.{contains_here, contains_none, contains_there}
pub use Rattle.rt_lemmas.proofs.{Lists.all_behind, Lists.all_front, Lists.all_map, Results.on_err_from}
pub use Rattle.rt_live.specs.Account.{HasRoom, account_of, account_text, counted_row, declared_irqs, empty_row, row_of}
pub use Rattle.rt_live.specs.Account.{settled_row, with_counts}
pub use Rattle.rt_live.specs.Going.{Comes, Done, FindsDeclared, Goes, IsLook, IsWholeLook, Posts, a_turn, cut, no_turn}
pub use Rattle.rt_live.specs.Interleaving.{Happens, Looks, Turn, arrivals_from, event_turns, interleaving, last_turns}
pub use Rattle.rt_live.specs.Interleaving.{look_arrivals, look_calls, look_calls_from, looks, turns, with_looks}
pub use Rattle.rt_live.specs.Ready.{AreGathered, AreReady, HasBits, HasMade, IsBeside, IsWaiting, irqs_of, maker_line}
pub use Rattle.rt_live.specs.Ready.{part_of}
pub use Rattle.rt_live.specs.Requests.{Latches, Pends as Asks, Request, look_requests, no_route, post_requests}
pub use Rattle.rt_live.specs.Requests.{request_of, routed, step_item, turn_requests}
pub use Rattle.rt_live.specs.Shares.{HasOwnName, HasOwnNames, event_of, own_events, own_line_events, own_turns, takes}
pub use Rattle.rt_live.specs.{Able.BitsMayArrive, Able.CanGo, Able.IsAble, Able.MayRoute, Devices.device_script}
pub use Rattle.rt_live.specs.{Devices.entries_of, Devices.is_device, Doing.HasLived, Doing.HasWrittenPart}
pub use Rattle.rt_live.specs.{History.IsEmptyLook, History.IsHistory, History.device_pends, History.line_asks}
pub use Rattle.rt_live.specs.{Inside.Working.CanWork, Output.IsBalanced, Output.IsLiveText, Written.Ended}
pub use Rattle.rt_live.specs.{Written.EndsByLine}
pub use Rattle.rt_run.proofs.Weighing.{Arrives, Named, steps_weigh, weight, weight_append}
pub use Rattle.rt_run.proofs.{Advancing.steps-append, Known.steps_below, Known.still_writable, Sent.breaks_before}
pub use Rattle.rt_run.proofs.{Sent.breaks_behind, Sent.sends_none, Sent.sends_on, Taking.cause_on, Taking.part_more}
pub use Rattle.rt_run.proofs.{Taking.part_on, Taking.took_on}
pub use Rattle.rt_script.specs.Script.{HasDeviceInRange, HasName, HasNames, IsScript, core_events, core_line_events}
pub use Rattle.rt_script.specs.Script.{count, count_of, line_events, line_pends, pends}
pub use Rattle.rt_script.specs.declared.line.Line.{Line, Line as Asked}
pub use Rattle.rt_script.specs.declared.line.Line.TheVariants.{Device, Device as DeviceLine, Pends, Steps, Ticks}
pub use Rattle.rt_words.proofs.{Bits.zeros as zeros_at, Accounting.accounts, Accounting.count_first, Counting.one_if}
pub use Rattle.rt_words.proofs.{Found.as_many, Found.none_pending, Found.part_all, Parting.by_parts, Parting.part_first}
pub use Rattle.rt_words.specs.Account.{IsTally, latched_count, latches, merged_count, merges, raised_count, raises}
pub use Rattle.rt_words.specs.Lines.{Line as Caller, Row, word_count as row_count, numbers}
pub use Rattle.rt_words.specs.{Ending.AllGathered, Ending.OneHistory, Ending.calls_in, History.CallsLast}
pub use Rattle.rt_words.specs.{History.IsLegal, History.LeavesWords, History.part, Object.IsAnswered, Object.IsPending}
pub use Rattle.rt_words.specs.{Object.after, Object.pending_bit, Row.bit_in_row, Row.word_in_row}
pub use Rattle.rt_words.specs.{declared.call.Call.Call, declared.call.Call.TheVariants.Latch}
pub use Rattle.rt_words.specs.{declared.call.Call.TheVariants.Pend, declared.call.Entry.Entry}
pub use Rattle.rt_words.specs.{declared.call.Pended.Pended, declared.call.Pended.TheVariants.Merged}
pub use Rattle.rt_words.specs.{declared.call.Pended.TheVariants.Raised, declared.row.TheConstants.CORE_WORDS}
pub use Rattle.rt_words.specs.{declared.tally.Tally.Tally, declared.view.Part.Part}
pub use Rattle.std.proofs.Common.{Bool, Contains, Err, List, None, Ok, OnErr, OnOk, Option, Result, Some, [], ap}
pub use Rattle.std.proofs.Common.{append-nil, append_assoc, arith, cond, count_by, drop, eq-eqb, false, filter, find}
pub use Rattle.std.proofs.Common.{flat_map, get_or, if◌then◌else◌, inl, inr, is_ok, length, length-set, map, ne_eqb}
pub use Rattle.std.proofs.Common.{option_map, option_to_list, refl, replicate, rules, set, slice_index_or, subst, suc}
pub use Rattle.std.proofs.Common.{sum_by, sym, take, true, zero, ℕ, ⊎_elim, ◌%◌, ◌*◌, ◌++◌, ◌+◌, ◌-◌, ◌/◌, ◌<◌, ◌==◌}
pub use Rattle.std.proofs.Common.{◌^◌, ◌∙◌, ◌∷◌, ◌≡◌, ◌≢◌, ◌≤◌, ◌⊎◌}
pub use Rattle.std.proofs.lemmas.List.{length-append, length-map, length-replicate, map-append, nil_from_length}
pub use Rattle.std.proofs.lemmas.List.{take-append-drop, take_all, take_at}
pub use Rattle.std.proofs.{lemmas.Bool.cases_lt, lemmas.Bool.false≢true, lemmas.List.Concat.flat_map-append}
pub use Rattle.std.proofs.{lemmas.List.Elements.filter-append, lemmas.List.Sums.sum_by-cons}
pub use Rattle.std.proofs.{lemmas.Nat.Bits.bit_at-zero, lemmas.Option.none-some, lemmas.Option.same_Some}
pub use Rattle.std.proofs.{lemmas.Option.slice_get-get_or, lemmas.Result.on_err_weaker, lemmas.Result.on_ok_weaker}
pub use mathlib.Core.Logic.{dite}
pub use native.Mathlib.Decide.{dec_lt, ℕ_discrete}
pub use Rattle.rt_code.specs.{Image.Image, Lines.HasLines}
pub use Rattle.rt_core.specs.{Core.Core, Core.reset, Machine.IsFresh, Machine.Machine, Stepping.step, Trace.core_after}
pub use Rattle.rt_core.specs.{Trace.labels, Trace.trace}
pub use Rattle.rt_devices.specs.{Work.interrupt_asked, Work.requests, declared.device.Device.Device as DeviceThread}
pub use Rattle.rt_ids.specs.Naming.{IsDeclared}
pub use Rattle.rt_outside.specs.{Bytes.Took, Bytes.TookPrefix}
pub use Rattle.rt_run.specs.{Done.Leads, Sending.Breaks, Sending.Sends, Sending.lines_of}
pub use Rattle.rt_trace.specs.{Label.items_of, Text.text, Text.total_text, declared.item.What.What}
pub use Rattle.std.specs.{Int.bit_at, List.AllByRecursion, Prelude.All}
