-- The lines of spawns, of calls that go to the timer queue and of the timer handler's choices lead to addresses of the
-- part that they stand in, or to the one after them.
use Rattle.std.proofs.Common.{◌≡◌, ℕ, ◌+◌, ◌*◌, ◌≤◌, List, [], ◌∷◌, ◌++◌, arith}
use Rattle.std.specs.List.{range_with_len}
use Rattle.rt_ids.specs.declared.ids.Section.TheVariants as section
use Rattle.rt_ids.specs.declared.limits.TheConstants.{CAPACITY}
use Rattle.rt_ids.specs.declared.op.Op.TheVariants as op
use Rattle.rt_code.specs.declared.instr.Instr.TheVariants as instr
use Rattle.rt_code.specs.declared.instr.Note.TheVariants as note
use Rattle.rt_gen_queue.specs.Line.{Line, plain, line_with_note}
use Rattle.rt_gen_queue.specs.SpawnLines.{store_code, fill_lines, place_lines, ready_lines, end_lines, spawn_lines}
use Rattle.rt_gen_queue.specs.declared.slots.TheConstants.{PLACE, WORK}
use Rattle.rt_gen_queue.specs.declared.target.Target.{Target}
use Rattle.rt_gen_timer.specs.TimerLines as lines
use Rattle.rt_gen_timer.specs.declared.armed.ArmedTask.{ArmedTask}
use Rattle.rt_gen_timer.specs.declared.queue.TimerQueue.{TimerQueue}
use Rattle.rt_gen_timer.specs.declared.slots.TheConstants as slots
use Rattle.rt_native_runs.proofs.Inside.{Part, IsInside, IsFine, Fine, none, line_then, both, each, enter_fine}
use Rattle.rt_native_runs.proofs.Inside.{leave_fine}

module _ (p : Part) where
  fill_fine : (c : Target) (slot : ℕ) → Fine p (fill_lines c slot)
  fill_fine c slot =
      let stored : Fine p (store_code c.args c.inputs slot 0) =
      each p (λ j. plain (instr.StoreAt (c.inputs + j) (slot + WORK) (slot + j))) (range_with_len 0 c.args)
      (λ j. tt) in
      let word : List Line =
      plain (instr.Set (slot + WORK) (CAPACITY * c.task))
      ∷ plain (instr.Calc op.Add (slot + PLACE) (slot + PLACE) (slot + WORK)) ∷ [] in
      let rest = both p (store_code c.args c.inputs slot 0) word stored (record { claimed = tt }) in
      record { claimed = rest.claimed }

  place_fine : (c : Target) (threshold slot full : ℕ) → IsInside p full → Fine p (place_lines c threshold slot full)
  place_fine c threshold slot full inside = record {
    claimed = (
      enter_fine p (section.Free c.task) c.guard threshold (slot + 8),
      (inside, (tt, (leave_fine p (section.Free c.task) c.guard threshold (slot + 8), tt))),
    );
  }

  ready_fine : (c : Target) (threshold slot : ℕ) → Fine p (ready_lines c threshold slot)
  ready_fine c threshold slot = record {
    claimed = (
      enter_fine p (section.Ready c.queue.level) c.queue.guard threshold (slot + 8),
      (tt, (leave_fine p (section.Ready c.queue.level) c.queue.guard threshold (slot + 8), tt)),
    );
  }

  end_fine : (c : Target) (threshold slot end : ℕ) → IsInside p end → Fine p (end_lines c threshold slot end)
  end_fine c threshold slot end inside = record {
    claimed = (inside, (tt, (leave_fine p (section.Free c.task) c.guard threshold (slot + 8), tt)));
  }

  -- a spawn, of 28 lines and one for each argument
  pub spawn_fine : (c : Target) (threshold slot at : ℕ) → p.first ≤ at → at + (28 + c.args) ≤ p.last
      → Fine p (spawn_lines c threshold slot at)
  spawn_fine c threshold slot at front back =
      let full : ℕ = at + (26 + c.args) in
      let ends : List Line = end_lines c threshold slot (full + 2) in
      both p (place_lines c threshold slot full) (fill_lines c slot ++ (ready_lines c threshold slot ++ ends))
      (place_fine c threshold slot full (record { front = omega arith; back = omega arith }))
      (both p (fill_lines c slot) (ready_lines c threshold slot ++ ends) (fill_fine c slot)
      (both p (ready_lines c threshold slot) ends (ready_fine c threshold slot)
      (end_fine c threshold slot (full + 2) (record { front = omega arith; back = omega arith }))))

  module _ (q : TimerQueue) (timed : q.irq ≡ p.timer) (slot : ℕ) where
    inside : (at k : ℕ) → p.first ≤ at → at + k ≤ p.last → IsInside p (at + k)
    inside at k front back = record { front = omega arith; back = back }

    sift_up_fine : (at : ℕ) → p.first ≤ at → at + 15 ≤ p.last → Fine p (lines.sift_up_lines q slot at)
    sift_up_fine at front back =
        let over = inside at 15 front back in
        record { claimed = (over, (over, (record { front = front; back = omega arith }, tt))) }

    sift_down_fine : (at : ℕ) → p.first ≤ at → at + 31 ≤ p.last → Fine p (lines.sift_down_lines q slot at)
    sift_down_fine at front back =
        let over = inside at 31 front back in
        record { claimed = (over, (over, (record { front = front; back = omega arith }, tt))) }

    alarm_fine : (at : ℕ) → p.first ≤ at → at + 6 ≤ p.last → Fine p (lines.alarm_lines q slot at)
    alarm_fine at front back = record {
      claimed = (inside at 5 front (omega arith), (timed, (inside at 6 front back, tt)));
    }

    time_fine : (at : ℕ) → p.first ≤ at → at + 5 ≤ p.last → Fine p (lines.time_lines q slot at)
    time_fine at front back = record { claimed = (inside at 5 front back, tt) }

    remove_fine : (at : ℕ) → p.first ≤ at → at + 54 ≤ p.last → Fine p (lines.remove_lines q slot at)
    remove_fine at front back =
        let put : List Line =
        plain (instr.StoreAt (lines.heap_of q) (slot + slots.HOLE) (slot + slots.HAND)) ∷ [] in
        let down : List Line = lines.sift_down_lines q slot (at + 22) in
        let up : List Line = lines.sift_up_lines q slot (at + 7) in
        both p (lines.last_lines q slot (at + 54)) (up ++ (down ++ put))
        (record { claimed = (inside at 54 front back, tt) })
        (both p up (down ++ put) (sift_up_fine (at + 7) (omega arith) (omega arith))
        (both p down put (sift_down_fine (at + 22) (omega arith) (omega arith)) (record { claimed = tt })))

    put_off_fine : (a : ArmedTask) (at : ℕ) → p.first ≤ at → at + 59 ≤ p.last
        → Fine p (lines.put_off_lines q slot a at)
    put_off_fine a at front back =
        let settle : List Line =
        line_with_note (instr.StoreAt (lines.heap_of q) (slot + slots.HOLE) (slot + slots.HAND))
        (note.Move a.target.task (slot + slots.ARGUMENTS) (slot + slots.INSTANT)) ∷ [] in
        let down : List Line = lines.sift_down_lines q slot (at + 27) in
        let up : List Line = lines.sift_up_lines q slot (at + 12) in
        let again : List Line = lines.again_lines q slot in
        let time : List Line = lines.time_lines q slot (at + 1) in
        line_then p (plain (instr.Copy (slot + slots.HAND) (slot + slots.PLACE)))
        (time ++ (again ++ (up ++ (down ++ settle)))) tt
        (both p time (again ++ (up ++ (down ++ settle))) (time_fine (at + 1) (omega arith) (omega arith))
        (both p again (up ++ (down ++ settle)) (record { claimed = tt })
        (both p up (down ++ settle) (sift_up_fine (at + 12) (omega arith) (omega arith))
        (both p down settle (sift_down_fine (at + 27) (omega arith) (omega arith)) (record { claimed = (tt, tt) })))))

    module _ (threshold : ℕ) where
      enters : IsFine p (lines.enter_timer q slot threshold).0
      enters = enter_fine p section.Timer q.guard threshold (slot + slots.MASK)

      leaves : IsFine p (lines.leave_timer q slot threshold).0
      leaves = leave_fine p section.Timer q.guard threshold (slot + slots.MASK)

      arm_fine : (a : ArmedTask) (at : ℕ) → p.first ≤ at → at + 46 ≤ p.last
          → Fine p (lines.arm_lines q slot threshold a at)
      arm_fine a at front back =
          let settle : Line =
          line_with_note (instr.StoreAt (lines.heap_of q) (slot + slots.HOLE) (slot + slots.HAND))
          (note.Arm a.target.task (slot + slots.INSTANT)) in
          let alarm : List Line = lines.alarm_lines q slot (at + 39) in
          let leave : List Line = lines.leave_timer q slot threshold ∷ [] in
          let up : List Line = lines.sift_up_lines q slot (at + 23) in
          let row : List Line = lines.row_lines q slot a in
          let time : List Line = lines.time_lines q slot (at + 1) in
          line_then p (lines.enter_timer q slot threshold) (time ++ (row ++ (up ++ settle ∷ (alarm ++ leave)))) enters
          (both p time (row ++ (up ++ settle ∷ (alarm ++ leave))) (time_fine (at + 1) (omega arith) (omega arith))
          (both p row (up ++ settle ∷ (alarm ++ leave)) (record { claimed = tt })
          (both p up (settle ∷ (alarm ++ leave)) (sift_up_fine (at + 23) (omega arith) (omega arith))
          (line_then p settle (alarm ++ leave) tt
          (both p alarm leave (alarm_fine (at + 39) (omega arith) (omega arith))
          (line_then p (lines.leave_timer q slot threshold) [] leaves (none p)))))))

      full_fine : (a : ArmedTask) (end : ℕ) → IsInside p end → Fine p (lines.full_lines q slot threshold a end)
      full_fine a end to = record {
        claimed = (
          to,
          (tt, (leave_fine p (section.Free a.target.task) a.target.guard threshold (slot + slots.MASK), tt)),
        );
      }

      -- a `spawn_after`, of 61 lines and one for each argument
      pub after_fine : (a : ArmedTask) (at : ℕ) → p.first ≤ at → at + (61 + a.target.args) ≤ p.last
          → Fine p (lines.after_lines q slot threshold a at)
      after_fine a at front back =
          let full : ℕ = at + (59 + a.target.args) in
          let place : List Line = place_lines a.target threshold (slot + slots.ARGUMENTS) full in
          let fill : List Line = fill_lines a.target (slot + slots.ARGUMENTS) in
          let arm : List Line = lines.arm_lines q slot threshold a (at + (12 + a.target.args)) in
          let ends : List Line = lines.full_lines q slot threshold a (full + 2) in
          both p place (fill ++ (arm ++ ends))
          (place_fine a.target threshold (slot + slots.ARGUMENTS) full
          (record { front = omega arith; back = omega arith }))
          (both p fill (arm ++ ends) (fill_fine a.target (slot + slots.ARGUMENTS))
          (both p arm ends (arm_fine a (at + (12 + a.target.args)) (omega arith) (omega arith))
          (full_fine a (full + 2) (record { front = omega arith; back = omega arith }))))

      free_fine : (c : Target) → Fine p (lines.free_lines q slot threshold c)
      free_fine c = record {
        claimed = (
          enter_fine p (section.Free c.task) c.guard threshold (slot + slots.MASK),
          (tt, (leave_fine p (section.Free c.task) c.guard threshold (slot + slots.MASK), tt)),
        );
      }

      find_fine : (a : ArmedTask) (handle missing at : ℕ) → IsInside p missing → p.first ≤ at → at + 17 ≤ p.last
          → Fine p (lines.find_lines q slot threshold a handle missing at)
      find_fine a handle missing at to front back = record {
        claimed = (enters, (to, (record { front = omega arith; back = omega arith }, (to, tt))));
      }

      missing_fine : (end : ℕ) → IsInside p end → Fine p (lines.missing_lines q slot threshold end)
      missing_fine end to = record { claimed = (to, (leaves, tt)) }

      -- a `cancel`, of 91 lines
      pub cancel_fine : (a : ArmedTask) (at : ℕ) → p.first ≤ at → at + 91 ≤ p.last
          → Fine p (lines.cancel_lines q slot threshold a at)
      cancel_fine a at front back =
          let find : List Line = lines.find_lines q slot threshold a slots.ANSWER (at + 89) at in
          let remove : List Line = lines.remove_lines q slot (at + 17) in
          let told : Line = line_with_note instr.Mark (note.Cancel a.target.task (slot + slots.ANSWER)) in
          let alarm : List Line = lines.alarm_lines q slot (at + 72) in
          let place : List Line = lines.place_of_row_lines q slot threshold a in
          let free : List Line = lines.free_lines q slot threshold a.target in
          let missing : List Line = lines.missing_lines q slot threshold (at + 91) in
          both p find (remove ++ told ∷ (alarm ++ (place ++ (free ++ missing))))
          (find_fine a slots.ANSWER (at + 89) at (record { front = omega arith; back = omega arith }) front
          (omega arith))
          (both p remove (told ∷ (alarm ++ (place ++ (free ++ missing))))
          (remove_fine (at + 17) (omega arith) (omega arith))
          (line_then p told (alarm ++ (place ++ (free ++ missing))) tt
          (both p alarm (place ++ (free ++ missing)) (alarm_fine (at + 72) (omega arith) (omega arith))
          (both p place (free ++ missing) (record { claimed = (leaves, tt) })
          (both p free missing (free_fine a.target)
          (missing_fine (at + 91) (record { front = omega arith; back = back })))))))

      -- a `reschedule_after`, of 87 lines
      pub move_fine : (a : ArmedTask) (at : ℕ) → p.first ≤ at → at + 87 ≤ p.last
          → Fine p (lines.move_lines q slot threshold a at)
      move_fine a at front back =
          let find : List Line = lines.find_lines q slot threshold a slots.ARGUMENTS (at + 85) at in
          let off : List Line = lines.put_off_lines q slot a (at + 17) in
          let alarm : List Line = lines.alarm_lines q slot (at + 76) in
          let missing : List Line = lines.missing_lines q slot threshold (at + 87) in
          both p find (off ++ (alarm ++ lines.leave_timer q slot threshold ∷ missing))
          (find_fine a slots.ARGUMENTS (at + 85) at (record { front = omega arith; back = omega arith }) front
          (omega arith))
          (both p off (alarm ++ lines.leave_timer q slot threshold ∷ missing)
          (put_off_fine a (at + 17) (omega arith) (omega arith))
          (both p alarm (lines.leave_timer q slot threshold ∷ missing)
          (alarm_fine (at + 76) (omega arith) (omega arith))
          (line_then p (lines.leave_timer q slot threshold) missing leaves
          (missing_fine (at + 87) (record { front = omega arith; back = back })))))

      -- the front of the timer handler, of 73 lines
      pub front_fine : (at : ℕ) → p.first ≤ at → at + 73 ≤ p.last → Fine p (lines.front_lines q slot threshold at)
      front_fine at front back =
          let due : List Line = lines.due_lines q slot threshold (at + 10) (at + 18) in
          let alarm : List Line = lines.alarm_lines q slot (at + 10) in
          let idle : List Line = lines.idle_lines q slot threshold in
          let remove : List Line = lines.remove_lines q slot (at + 19) in
          both p due (alarm ++ (idle ++ remove))
          (record {
            claimed = (
              enters,
              (
                record { front = omega arith; back = omega arith },
                (record { front = omega arith; back = omega arith }, tt),
              ),
            );
          })
          (both p alarm (idle ++ remove) (alarm_fine (at + 10) (omega arith) (omega arith))
          (both p idle remove (record { claimed = (leaves, tt) })
          (remove_fine (at + 19) (omega arith) (omega arith))))

      -- the choice of a task in the timer handler, of 26 lines
      pub choice_fine : (a : ArmedTask) (at : ℕ) → p.first ≤ at → at + 26 ≤ p.last
          → Fine p (lines.choice_lines q slot threshold a at)
      choice_fine a at front back =
          let fire : List Line = lines.fire_lines q slot a (at + 26) in
          let alarm : List Line = lines.alarm_lines q slot (at + 6) in
          let ready : List Line = ready_lines a.target threshold (slot + slots.ARGUMENTS) in
          let ret : List Line = plain instr.Ret ∷ [] in
          both p fire (alarm ++ lines.leave_timer q slot threshold ∷ (ready ++ ret))
          (record { claimed = (record { front = omega arith; back = back }, (tt, tt)) })
          (both p alarm (lines.leave_timer q slot threshold ∷ (ready ++ ret))
          (alarm_fine (at + 6) (omega arith) (omega arith))
          (line_then p (lines.leave_timer q slot threshold) (ready ++ ret) leaves
          (both p ready ret (ready_fine a.target threshold (slot + slots.ARGUMENTS)) (record { claimed = tt }))))
