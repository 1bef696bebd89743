-- The end of a section of the timer queue: the alarm is set to the least armed instant, which is that of the heap's
-- first message, or to none where nothing is armed, and the section closes.
use Rattle.rt_gen_queue.proofs.Vocabulary.{Agree, App, Content, Entry, Guarded, HasCodeAt, OpenSection, IsAccepted}
use Rattle.rt_gen_queue.proofs.Vocabulary.{IsSome, Line}
use Rattle.rt_gen_queue.proofs.Vocabulary.{List, Rest, SetsAlarm, Some, Values, [], and_both, ap, arith, armed_place}
use Rattle.rt_gen_queue.proofs.Vocabulary.{delays, does, guard_of, least_instant, leave, leave_timer, length, map}
use Rattle.rt_gen_queue.proofs.Vocabulary.{map-append, owns_open, owns_reads, reads, reads_more, refl, slice_index}
use Rattle.rt_gen_queue.proofs.Vocabulary.{storage, subst, suc, sym, timer_content, true, ℕ, ◌++◌, ◌+◌, ◌^◌, ◌∙◌, ◌∷◌}
use Rattle.rt_gen_queue.proofs.Vocabulary.{◌≡◌, ◌≤◌}
use Rattle.rt_ids.specs.declared.ids.Section.TheVariants as section
use Rattle.rt_gen_queue.proofs.{Numbers.steps_and, Owning.timer_represented}
use Rattle.rt_gen_queue.proofs.Entering.{fits_append, leave_fits, leave_placed, leaves, opened}
use Rattle.rt_gen_queue.proofs.Layer.{Here, Setting, Straight, alarms, all_fit, fits, loads, loads_at, no_alarm, placed}
use Rattle.rt_gen_queue.proofs.Layer.{reads_open, skips, skips_off, stays}
use Rattle.rt_gen_timer.proofs.{Acting.Columns, Acting.first_open, Acting.instant_open, Alone.instant_in}
use Rattle.rt_gen_timer.proofs.{Alone.number_in, Delaying.at_address, Hollow.IsFirst, Opening.timer_irq}
use Rattle.rt_gen_timer.proofs.{Represented.first_within, Window.Slots, Window.Words, Window.words}
use Rattle.rt_gen_timer.specs.{TimerCode.queue_of, TimerLines.alarm_lines}

-- the alarm is set within 5 steps; only one slot is written
alarm_stands : {z : Setting} {f : Slots} {values : Values} {rest : Rest} {lines : List Line} {h : Here} (w : Words)
    (heap : List Entry) → Columns z (queue_of z.app) h.held h.cells
    → (storage z.app).timer ≡ Some (queue_of z.app).irq
    → (w.count ≡ length heap) × (length heap ≤ (queue_of z.app).messages)
    → IsFirst (queue_of z.app) (armed_place z.app) (instant_in z.app h.cells) (number_in z.app h.cells) h.cells
    (least_instant (delays (values (Guarded section.Timer)))) heap
    → h.rest ≡ does SetsAlarm values (λ answer. rest)
    → ((done other : ℕ) (vs : Values) → done ≤ h.done + 5 → Agree (storage z.app) z.who h.held vs values
    → Straight z f lines (record h { done = done; at = h.at + 6; rest = rest vs }) (words (record w { other = other })))
    → Straight z f (alarm_lines (queue_of z.app) 0 h.at ++ lines) h (words w)
alarm_stands {h = h} w [] columns timer (counted, room) none doing on =
    skips_off 4 (omega arith) counted
    (no_alarm columns.opens doing none
    (λ vs agree.
    at_address (h.at + 6) (omega arith) (on (steps_and 2 h.done) w.other vs (omega arith) agree)))
alarm_stands {z = z} {h = h} w (e ∷ others) columns timer (counted, room) (shown, kept, least) doing on =
    let instant : ℕ = instant_in z.app h.cells e in
    stays (omega (arith, counted))
    (loads (armed_place z.app e) (reads_open (first_open columns (omega (arith, room))) shown)
    (loads_at (armed_place z.app e) instant refl (reads_open (instant_open columns kept.room) kept.instants)
    (alarms timer columns.opens doing least
    (λ vs agree. skips 1 (omega arith) (on (steps_and 5 h.done) instant vs (omega arith) agree)))))

-- The section may close: its cells represent what it is given back as, and a slot has how many messages are armed.
pub record MayClose (z : Setting) (h : Here) (w : Words) (values : Values) : Type 0 where
  pub accepted : IsAccepted z.app
  pub mono : IsSome z.app.mono
  pub columns : Columns z (queue_of z.app) h.held h.cells
  pub counted : w.count ≡ length (h.queues (Guarded section.Timer))
  pub represented : (storage z.app).Represents (Guarded section.Timer) (slice_index h.cells)
      (h.queues (Guarded section.Timer)) (values (Guarded section.Timer))
  pub few : (timer_content (values (Guarded section.Timer))).given
      + (timer_content (values (Guarded section.Timer))).moved ≤ 2 ^ 32

-- It closes within 6 steps, with the alarm set; only one slot is written.
pub closes_timer : {z : Setting} {f : Slots} {lines : List Line} {h : Here} {outer : List OpenSection} {deadline : ℕ}
    {around : List ℕ} {rest : Rest} {values : Values} (threshold : ℕ) (w : Words) → MayClose z h w values
    → h.held ≡ opened z f section.Timer threshold ∷ outer → h.deadlines ≡ deadline ∷ around
    → h.rest ≡ leave_timer z.app rest values
    → ((done other : ℕ) (vs : Values) → done ≤ h.done + 6 → Agree (storage z.app) z.who outer vs values
    → Straight z f lines
    (record h { held = outer; done = done; deadlines = around; at = h.at + 7; rest = rest vs })
    (words (record w { other = other })))
    → Straight z f (alarm_lines (queue_of z.app) 0 h.at ++ leave z.app section.Timer threshold 9 ∷ lines) h (words w)
closes_timer {z = z} {f = f} {h = h} {outer = outer} {values = values} threshold w may innermost last doing on =
    let x = section.Timer in
    let s = timer_represented z.app (slice_index h.cells) (h.queues (Guarded x)) (values (Guarded x)) may.represented in
    let t_is : timer_content (values (Guarded x)) ≡ s.timed = ap timer_content s.is in
    alarm_stands w s.heap may.columns (timer_irq z.app may.accepted may.mono)
    (may.counted ∙ sym s.arranged.long, omega (arith, s.room, s.arranged.long))
    (first_within h.cells s (subst (λ t. t.given + t.moved ≤ 2 ^ 32) t_is may.few)) doing
    (λ done other vs soon agree.
    let inside : reads (storage z.app) z.who h.held (Guarded x) ≡ true =
    owns_reads (storage z.app) z.who h.held (Guarded x) (owns_open (storage z.app) z.who h.held x may.columns.opens) in
    leaves threshold innermost last refl
    (subst (λ (c : Content). (storage z.app).Represents (Guarded x) (slice_index h.cells) (h.queues (Guarded x)) c)
    (sym (agree (Guarded x) inside)) may.represented)
    (λ us after.
    at_address (h.at + 7) (omega arith)
    (on (suc done) other us (omega (arith, soon))
    (λ location can.
    after location can
    ∙ agree location
    (subst (λ (held : List OpenSection). reads (storage z.app) z.who held location ≡ true) (sym innermost)
    (reads_more (storage z.app) z.who (opened z f x threshold) outer location can))))))

module _ (app : App) (threshold : ℕ) where
  -- lines with one that leaves the section among them: that they fit the window, and where they are numbered from
  -- another slot on
  pub leaving_fits : (front behind : List Line) → all_fit 24 9 front ≡ true → all_fit 24 9 behind ≡ true
      → all_fit 24 9 (front ++ leave app section.Timer threshold 9 ∷ behind) ≡ true
  leaving_fits front behind first second =
      fits_append 24 9 front (leave app section.Timer threshold 9 ∷ behind) first
      (and_both (fits 24 9 (leave app section.Timer threshold 9).0) (all_fit 24 9 behind)
      (leave_fits section.Timer (guard_of app section.Timer) threshold 9 24 9) second)

  pub leaving_placed : (code : List Line) (f : Slots) (at : ℕ) (front behind : List Line)
      → HasCodeAt code at
      (map (placed f.slot) front ++ leave app section.Timer threshold (f.slot + 9) ∷ map (placed f.slot) behind)
      → HasCodeAt code at (map (placed f.slot) (front ++ leave app section.Timer threshold 9 ∷ behind))
  leaving_placed code f at front behind has =
      subst (HasCodeAt code at)
      (ap (λ line. map (placed f.slot) front ++ line ∷ map (placed f.slot) behind)
      (sym (leave_placed section.Timer (guard_of app section.Timer) threshold 9 f.slot))
      ∙ sym (map-append (placed f.slot) front (leave app section.Timer threshold 9 ∷ behind))) has

  -- so it is where the alarm is set and the section closes
  abbrev pub closing_lines : ℕ → List Line → List Line
  closing_lines at lines = alarm_lines (queue_of app) 0 at ++ leave app section.Timer threshold 9 ∷ lines

  pub closing_fit : (at : ℕ) (lines : List Line) → all_fit 24 9 lines ≡ true
      → all_fit 24 9 (closing_lines at lines) ≡ true
  closing_fit at lines fit = leaving_fits (alarm_lines (queue_of app) 0 at) lines refl fit

  pub closing_placed : (code : List Line) (f : Slots) (at : ℕ) (lines : List Line)
      → HasCodeAt code at
      (alarm_lines (queue_of app) f.slot at ++ leave app section.Timer threshold (f.slot + 9)
      ∷ map (placed f.slot) lines)
      → HasCodeAt code at (map (placed f.slot) (closing_lines at lines))
  closing_placed code f at lines has = leaving_placed code f at (alarm_lines (queue_of app) 0 at) lines has
