-- The code of a whole spawn stands: a place is taken, filled and handed on, or none is left.
use Rattle.rt_gen_queue.proofs.Vocabulary.{Agree, Entry, HasCodeAt, Location, LeavesMine, Line, List, Message, Rest}
use Rattle.rt_gen_queue.proofs.Vocabulary.{Some}
use Rattle.rt_gen_queue.proofs.Vocabulary.{Values, [], act_all, ap, arguments_of, arith, count_more, drop, end_code}
use Rattle.rt_gen_queue.proofs.Vocabulary.{fill_code, inl, inr, length, map, one_itself, plain, ready_actions}
use Rattle.rt_gen_queue.proofs.Vocabulary.{ready_code, refl, slice_index, spawn_code, storage, subst, sym, take}
use Rattle.rt_gen_queue.proofs.Vocabulary.{take-append-le, place_code, task_priority, ℕ, ◌++◌, ◌+◌, ◌-◌, ◌<◌, ◌∙◌, ◌∷◌}
use Rattle.rt_gen_queue.proofs.Vocabulary.{◌≡◌, ◌≤◌, ◌⊎◌}
use Rattle.rt_ids.specs.declared.ids.Section.TheVariants as section
use Rattle.rt_code.specs.declared.instr.Instr.TheVariants as instr
use Rattle.rt_gen_queue.proofs.{Entering.saves_below, Numbers.steps_and, Numbers.steps_are, Owning.nobody_keeps}
use Rattle.rt_gen_queue.proofs.{Queueing.ready_stands, Storing.fill_stands, Storing.message_is, Storing.own_filled}
use Rattle.rt_gen_queue.proofs.Facts.{Spawned, arguments, few_arguments, few_ready, free_top, known, place_of, priority}
use Rattle.rt_gen_queue.proofs.Facts.{ready_top}
use Rattle.rt_gen_queue.proofs.Granting.{HasTaken, MayTake, refused_stands, take_begins, with_place}
use Rattle.rt_gen_queue.proofs.Layer.{Frame, Here, InTime, Now, S, Setting, Straight, ahead, begins, begun, frame_at}
use Rattle.rt_gen_queue.proofs.Layer.{framed, jumps, lasts_less, moved, read_behind, sets, configuration, window}
use Rattle.rt_gen_queue.proofs.Layer.{window_long}
use Rattle.rt_gen_queue.proofs.Layer.{window_outside, window_read}
use Rattle.rt_gen_queue.proofs.Placing.{code_behind, code_front, fill_long, spawn_long}
use Rattle.rt_gen_queue.proofs.Words.{Arguments, Scratch, listed, words}
use Rattle.rt_gen_queue.specs.Spawning.{SpawnsStand}

pub spawn_stands : SpawnsStand
spawn_stands c named q n k fuel on =
    begins {z = z} s k
    (subst (λ (slots : List ℕ). S z (record h { slots = slots })) (sym (framed 9 8 s.slots slot long))
    (take_begins may_take a w is granted
    (λ r cells queues us taken.
    refused_stands may_take taken a r has_full
    (λ vs own agree.
    moved _ end refl (sym end_at ∙ omega arith)
    (ends_at 0 5 r vs (omega arith) (omega arith) own agree)))))
  where
    open c use {app, code, bodies, thread, who, configuration as s, threshold, task, t, slot, vs, rest}
    open named use {accepted, is_there, software}
    open q use {value, args, has, may, arguments as words_are, is}

    z : Setting
    z = record { app = app; code = code; bodies = bodies; thread = thread; who = who; caller = s.caller }

    h : Here
    h = begun s k

    facts : Spawned app task t
    facts = record { accepted = accepted; at = is_there; software = software }

    long : slot + 9 ≤ length s.slots
    long = omega (arith, may.frame)

    f : Frame 9 8
    f = frame_at 9 8 s.slots slot long

    lines : List Line
    lines = spawn_code app task threshold slot s.address

    count : ℕ
    count = arguments_of app task

    few : count ≤ 4
    few = omega (arith, arguments app task t facts, few_arguments app task t facts)

    full : ℕ
    full = s.address + (26 + count)

    end : ℕ
    end = s.address + length lines

    end_at : full + 2 ≡ end
    end_at = omega (arith, spawn_long app task threshold slot s.address)

    ending : List Line
    ending = end_code app task threshold slot (full + 2)

    readying : List Line
    readying = ready_code app task (task_priority app task) threshold slot

    has_fill : HasCodeAt code (steps_and 8 s.address) (fill_code app task slot ++ (readying ++ ending))
    has_fill =
        code_behind code s.address (steps_and 8 s.address) (place_code app task threshold slot full)
        (fill_code app task slot ++ (readying ++ ending)) (omega arith) has

    filled_to : ℕ
    filled_to = steps_and (4 + count) (steps_and 8 s.address)

    has_ready : HasCodeAt code filled_to (readying ++ ending)
    has_ready =
        code_behind code (steps_and 8 s.address) filled_to (fill_code app task slot) (readying ++ ending)
        (omega (arith, fill_long app task slot, steps_are (4 + count) (steps_and 8 s.address))) has_fill

    has_end : HasCodeAt code (steps_and 12 filled_to) ending
    has_end = code_behind code filled_to (steps_and 12 filled_to) readying ending (omega arith) has_ready

    has_full : HasCodeAt code full (drop 2 ending)
    has_full =
        code_behind code (steps_and 12 filled_to) full (take 2 ending) (drop 2 ending)
        (omega (arith, steps_are (4 + count) (steps_and 8 s.address))) has_end

    lasts : (j : ℕ) → j ≤ 128 → InTime j h
    lasts j less = (omega (arith, fuel, less), lasts_less j 128 s.lefts less may.steps)

    -- the words that are there
    a : Arguments
    a = record {
      first = slice_index s.slots slot;
      second = slice_index s.slots (steps_and 1 slot);
      third = slice_index s.slots (steps_and 2 slot);
      fourth = slice_index s.slots (steps_and 3 slot);
    }

    w : Scratch
    w = record {
      count = slice_index s.slots (steps_and 4 slot);
      index = slice_index s.slots (steps_and 5 slot);
      word = slice_index s.slots (steps_and 6 slot);
      number = slice_index s.slots (steps_and 7 slot);
      mask = slice_index s.slots (steps_and 8 slot);
    }

    args_are : take t.args (listed a) ≡ map value args
    args_are =
        sym (take-append-le t.args (listed a) (drop (slot + 4) s.slots) (few_arguments app task t facts))
        ∙ ap (take t.args) (sym (read_behind s.slots slot 4 (omega (arith, may.frame)))) ∙ words_are

    message : Message
    message = record { task = task; args = map value args }

    readies : Rest
    readies = act_all (ready_actions app (task_priority app task) message) (rest 1)

    -- after all of it
    ends_at : {cells : List ℕ} {queues : Location → List Entry} (granted used : ℕ) (r : Scratch) (us : Values)
        → granted ≤ 1 → used ≤ 32 → LeavesMine (storage app) who (configuration z h) cells queues
        → Agree (storage app) who s.held us vs
        → S z (Now f (record h { done = used; at = end; cells = cells; queues = queues; rest = rest granted us })
        (words (record a { first = granted }) r))
    ends_at {cells = cells} {queues = queues} granted used r us one soon own agree =
        let ws : List ℕ = words (record a { first = granted }) r in
        let before : List ℕ = words a w in
        let zeroth : slot ≡ slot + 0 = omega arith in
        record {
          stands =
              on granted used (k - used) (window f ws) cells queues us (omega (arith, fuel))
              (record {
                answer = (one, ap (slice_index (window f ws)) zeroth ∙ window_read f ws 0 (omega arith));
                frame = window_long f ws before refl ∙ ap length (sym (framed 9 8 s.slots slot long));
                kept = λ d far.
                    window_outside f ws before refl d (outside d far)
                    ∙ ap (λ (slots : List ℕ). slice_index slots d) (sym (framed 9 8 s.slots slot long));
                steps = omega (arith, soon);
                own = record { long = own.long; touched = own.touched; queued = own.queued };
                agree = agree;
              });
        }
      where
        outside : (d : ℕ) → (d < slot) ⊎ (slot + 16 ≤ d) → (d < slot) ⊎ (slot + 9 ≤ d)
        outside d (inl less) = inl less
        outside d (inr more) = inr (omega arith)

    may_take : MayTake z f h task threshold full t
    may_take = record {
      facts = facts;
      code = code_front code s.address (place_code app task threshold slot full)
          (fill_code app task slot ++ (readying ++ ending)) has;
      time = lasts 8 (omega arith);
      long = may.cells;
      enter = record {
        room = omega arith;
        masks = may.masks;
        off = may.off;
        top = free_top app task t facts;
        within = may.within.0;
        closed = may.closed.0;
        nobody = nobody_keeps app who who (section.Free task) tt;
      };
    }

    -- with a place in the hands
    granted : (e : Entry) (r : Scratch) (cells : List ℕ) (queues : Location → List Entry) (us : Values)
        → HasTaken z h task vs e cells queues us
        → S z (Now f (with_place h e cells queues (readies us)) (words a (record r { word = e.place })))
    granted e r cells queues us taken =
        let holding : Here = with_place h e cells queues (readies us) in
        let p_is : task_priority app task ≡ t.priority = priority app task t facts in
        let soon : steps_and (4 + count) 8 ≡ 12 + count = omega (arith, steps_are (4 + count) 8) in
        fill_stands {f = f} {h = holding}
        (record {
          facts = facts;
          code = code_front code (steps_and 8 s.address) (fill_code app task slot) (readying ++ ending) has_fill;
          time = lasts (8 + (4 + count)) (omega (arith, few));
          saves = saves_below f s.held may.masks;
          hands = record {
            of_task = taken.of_task;
            place = taken.place;
            some = omega (arith, count_more e e s.places, one_itself e);
            long = taken.own.long ∙ may.cells;
          };
        }) a r
        (λ r2 left filled.
        ready_stands {f = f} {h = record (ahead (4 + count) holding) { cells = left }}
        (record {
          known = known app task t facts;
          few = few_ready app task t facts;
          code = subst (λ q. HasCodeAt code filled_to (ready_code app task q threshold slot)) p_is
              (code_front code filled_to readying ending has_ready);
          time = lasts (steps_and (4 + count) 8 + 12) (omega (arith, soon, few));
          enter = record {
            room = omega arith;
            masks = may.masks;
            off = may.off;
            top = ready_top app task t facts;
            within = may.within.1;
            closed = may.closed.1;
            nobody = nobody_keeps app who who (section.Ready t.priority) tt;
          };
          hands = record {
            of_task = (taken.of_task, refl);
            place = place_of app task t facts e taken.of_task taken.place;
            hands = refl;
            message = message_is facts taken.of_task (omega arith) filled
                ∙ ap (λ ws. record { task = task; args = ws }) args_are;
            long = filled.long ∙ taken.own.long ∙ may.cells;
          };
        }) a r2 (ap (λ q. act_all (ready_actions app q message) (rest 1) us) p_is)
        (λ r3 last more us3 readied.
        let at_end : Here = ahead 12 (ahead (4 + count) holding) in
        let g : Here = record at_end { places = s.places; cells = last; queues = more; rest = rest 1 us3 } in
        let run : Straight z f (plain (instr.Set 0 1) ∷ plain (instr.Jump (full + 2)) ∷ []) g (words a r3) =
        sets (jumps
        (moved _ end refl (sym end_at)
        (ends_at 1 (steps_and 14 (steps_and (4 + count) 8)) r3 us3 (omega arith) (omega (arith, soon, few))
        (own_filled h taken.none taken.own filled
        (record { long = readied.own.long; touched = readied.own.touched; queued = readied.own.queued }))
        (λ location read. readied.agree location read ∙ taken.agree location read)))) in
        let zeroth : slot ≡ slot + 0 = omega arith in
        let time = lasts (steps_and 12 (steps_and (4 + count) 8) + 2) (omega (arith, soon, few)) in
        run.runs
        (record { time = time; saves = saves_below f s.held may.masks; long = refl; fit = refl })
        (has_end.0 ∙ ap (λ d. Some (plain (instr.Set d 1))) zeroth, (has_end.1.0, tt))))
