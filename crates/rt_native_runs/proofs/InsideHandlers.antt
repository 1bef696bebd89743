-- The code of dispatchers and of the timer handler leads to addresses of the part that it is.
use Rattle.std.proofs.Common.{◌≡◌, ◌⊎◌, ℕ, zero, suc, ◌-◌, ◌+◌, ◌<◌, ◌≤◌, ◌==◌, ◌&&◌, Bool, true, false, List, [], ◌∷◌}
use Rattle.std.proofs.Common.{◌++◌, slice_get, Option, Some, None, IsSome, if◌then◌else◌, length, length-append}
use Rattle.std.proofs.Common.{append-nil, refl, sym, ap, subst, ◌∙◌, arith, inl, inr}
use Rattle.std.specs.List.{range_with_len}
use Rattle.std.proofs.lemmas.Bool.{cases_Bool, eqb-true, eqb-false}
use Rattle.std.proofs.lemmas.Option.{none-some, same_Some, slice_get_within}
use Rattle.rt_lemmas.proofs.Lists.{AreFrom, all_from}
use Rattle.rt_ids.specs.Lists.{is_some_and, or_zero, greatest, those_below}
use Rattle.rt_ids.specs.declared.ids.Section.TheVariants as section
use Rattle.rt_app.specs.Level.{is_software, is_of_level, is_armed}
use Rattle.rt_app.specs.Tree.{Task, App}
use Rattle.rt_code.specs.declared.instr.Instr.TheVariants as instr
use Rattle.rt_gen_queue.specs.Line.{Line, plain}
use Rattle.rt_gen_queue.specs.Queue.{queue_at}
use Rattle.rt_gen_disp.specs.Code.{test_lines, argument_lines, front_lines, start_lines, choice_lines, choice_code}
use Rattle.rt_gen_disp.specs.Code.{choices_code, callee_of, next_for, last_of, exit_of, dispatcher_code}
use Rattle.rt_gen_disp.specs.declared.{called.Called.Called, lines.Exit.Exit}
use Rattle.rt_gen_disp.proofs.Lasts.{is_at_level, last_below, last_is, last_past, last_there}
use Rattle.rt_gen_disp.proofs.Sizes.{Grows, choice_long, choices_grow}
use Rattle.rt_gen_timer.specs.TimerCode as timer
use Rattle.rt_gen_timer.specs.TimerLines as lines
use Rattle.rt_native_runs.proofs.Inside.{Part, IsInside, IsCallFrom, Fine, none, both, each, enter_fine, leave_fine}
use Rattle.rt_native_runs.proofs.Inside.{EndWell, IsClosed, ends_behind}
use Rattle.rt_native_runs.proofs.InsideSpawns.{front_fine, choice_fine}

-- the last that passes does
last_passes : (test : ℕ → Bool) (n k : ℕ) → last_below test n ≡ Some k → test k ≡ true
unfolding last_below
last_passes test zero k is = absurd (none-some k is)
last_passes test (suc n) k is = go (test n) refl is (λ found. last_passes test n k found)
  where
    go : (b : Bool) → test n ≡ b → (if b then Some n else last_below test n) ≡ Some k
        → (last_below test n ≡ Some k → test k ≡ true) → test k ≡ true
    go true passes found before = cc (passes, found)
    go false fails found before = before found

-- the greatest of those that pass does, where there is one
greatest_passes : (test : ℕ → Bool) (n k : ℕ) → k < n → test k ≡ true → test (greatest (those_below test n)) ≡ true
greatest_passes test n k within passes = go (last_below test n) refl (last_there test n k within passes)
  where
    go : (o : Option ℕ) → last_below test n ≡ o → IsSome o → test (greatest (those_below test n)) ≡ true
    go None is some = absurd (cc)
    go (Some last) is some =
        let same : last ≡ greatest (those_below test n) = sym (ap or_zero is) ∙ last_is test n in
        subst (λ m. test m ≡ true) same (last_passes test n last is)

-- the task of a number that passes
task_at : (test : Task → Bool) (o : Option Task) → is_some_and test o ≡ true
    → (t : Task) × (o ≡ Some t) × (test t ≡ true)
task_at test None is = absurd (cc)
task_at test (Some t) is = (t, refl, is)

module _ (p : Part) (calls : p.calls ≡ true) (app : App) (level : ℕ) where
  front_of_dispatcher : (at : ℕ) → p.first ≤ at → at + 18 ≤ p.last → Fine p (front_lines (queue_at app level) at)
  front_of_dispatcher at front back = record {
    claimed = (
      enter_fine p (section.Ready level) (queue_at app level).guard level 14,
      (
        record { front = omega arith; back = omega arith },
        (
          record { front = omega arith; back = omega arith },
          (leave_fine p (section.Ready level) (queue_at app level).guard level 14, tt),
        ),
      ),
    );
  }

  start_fine : (c : Called) (at : ℕ) → p.first ≤ at → at + 3 ≤ p.last
      → Fine p (start_lines (queue_at app level) c at)
  start_fine c at front back =
      let closed = leave_fine p (section.Free c.task) c.guard level 14 in
      let enter = enter_fine p (section.Free c.task) c.guard level 14 in
      let leave = leave_fine p (section.Ready level) (queue_at app level).guard level 14 in
      let called : IsCallFrom p.calls 0 = subst (λ b. IsCallFrom b 0) (sym calls) refl in
      record {
        claimed = (
          tt,
          (
            record { front = omega arith; back = omega arith },
            (leave, (enter, (tt, (closed, (called, tt))))),
          ),
        );
      }

  one_choice : (c : Called) (next at : ℕ) → IsInside p next → p.first ≤ at → at + (8 + c.args) ≤ p.last
      → Fine p (choice_lines (queue_at app level) c next at)
  one_choice c next at to front back =
      let test : List Line = test_lines c next in
      let arguments : List Line = argument_lines c.inputs c.args in
      let start : List Line = start_lines (queue_at app level) c (at + (5 + c.args)) in
      both p test (arguments ++ start) (record { claimed = (to, tt) })
      (both p arguments start
      (each p (λ j. plain (instr.LoadAt j (c.inputs + j) 7)) (range_with_len 0 c.args) (λ j. tt))
      (start_fine c (at + (5 + c.args)) (omega arith) (omega arith)))

  choice_ends : (c : Called) (next at : ℕ) → EndWell (choice_lines (queue_at app level) c next at)
  choice_ends c next at =
      let arguments : List Line = argument_lines c.inputs c.args in
      let start : List Line = start_lines (queue_at app level) c (at + (5 + c.args)) in
      ends_behind (test_lines c next) (arguments ++ start) (ends_behind arguments start tt)

  -- from an address and a number of a task on: there are lines where a task of the level is yet to come, and they are
  -- fine where they are in the part
  record Goes (exit : Exit) (at n : ℕ) (more : List Line) : Type 0 where
    some : (m : ℕ) (t : Task) → n ≤ m → slice_get app.tasks m ≡ Some t → is_of_level level t ≡ true → 1 ≤ length more
    fine : IsInside p exit.address → p.first ≤ at → at + length more ≤ suc p.last → Fine p more
    ends : (more ≡ []) ⊎ EndWell more

  module _ (exit : Exit) (last : exit.last ≡ last_of level app.tasks) where
    -- behind a task of the level that is not the last one there is another
    another : (n : ℕ) (t : Task) → slice_get app.tasks n ≡ Some t → is_of_level level t ≡ true
        → (n == exit.last) ≡ false → (m : ℕ) × (u : Task) × (n + 1 ≤ m) × (slice_get app.tasks m ≡ Some u)
        × (is_of_level level u ≡ true)
    another n t there of differs =
        let passes : is_at_level level app.tasks n ≡ true = ap (is_some_and (is_of_level level)) there ∙ of in
        let found = task_at (is_of_level level) (slice_get app.tasks (last_of level app.tasks))
        (greatest_passes (is_at_level level app.tasks) (length app.tasks) n
        (slice_get_within app.tasks n t there) passes)
        in
        let least = last_past level app.tasks n there of in
        let other = eqb-false n exit.last differs in (
          last_of level app.tasks,
          found.0,
          before n (last_of level app.tasks) least (λ same. other (same ∙ sym last)),
          found.1,
          found.2,
        )
      where
        before : (i j : ℕ) → i ≤ j → ¬ (i ≡ j) → i + 1 ≤ j
        before i j less differs = omega (arith, less, differs)

    leads : (at n : ℕ) (t : Task) (more : List Line) → slice_get app.tasks n ≡ Some t → is_of_level level t ≡ true
        → Goes exit (at + (17 + t.args)) (n + 1) more → IsInside p exit.address → p.first ≤ at
        → at + (17 + t.args) + length more ≤ suc p.last → IsInside p (next_for exit n (at + (17 + t.args)))
    leads at n t more there of rest exits front back = go (n == exit.last) refl
      where
        go : (b : Bool) → (n == exit.last) ≡ b → IsInside p (if b then exit.address else at + (17 + t.args))
        go true is = exits
        go false is =
            let one = another n t there of is in
            let some = rest.some one.0 one.1 one.2 one.3 one.4 in
            record { front = omega arith; back = omega (arith, some, back) }

    grows : Grows app level exit (λ n. 0) (λ at n k more. Goes exit at n more)
    grows = record {
      none = λ at n from. record {
        some = λ m t before there of. absurd (none-some t (sym (from_end n m before from) ∙ there));
        fine = λ exits front back. none p;
        ends = inl refl;
      };
      other = λ at n k t more here other rest. record {
        some = λ m u before there of. rest.some m u (later n m t u before here other there of) there of;
        fine = rest.fine;
        ends = rest.ends;
      };
      next = λ at n row k t more is rest.
          let c : Called = callee_of app n row t in
          let choice : List Line = choice_code app level exit at n row t in
          let long = choice_long (queue_at app level) c (next_for exit n (at + (17 + t.args))) at in
          let whole = length-append choice more in
          record {
            some = λ m u before there of. omega (arith, long, whole);
            fine = λ exits front back.
                both p choice more
                (one_choice c (next_for exit n (at + (17 + t.args))) at
                (leads at n t more is.at is.of rest exits front (omega (arith, long, whole, back))) front
                (omega (arith, long, whole, back)))
                (rest.fine exits (omega (arith, front)) (omega (arith, long, whole, back)));
            ends = inr (elim rest.ends [
              | inl none ↦ subst (λ (ls : List Line). EndWell (choice ++ ls)) (sym none)
                  (subst EndWell (sym (append-nil choice))
                  (choice_ends c (next_for exit n (at + (17 + t.args))) at))
              | inr ends ↦ ends_behind choice more ends
            ]);
          };
    }
      where
        from_end : (n m : ℕ) → n ≤ m → AreFrom app.tasks n [] → slice_get app.tasks m ≡ None
        from_end n m before from =
            let here : n + (m - n) ≡ m = omega (arith, before) in
            ap (slice_get app.tasks) (sym here) ∙ from (m - n)

        later : (n m : ℕ) (t u : Task) → n ≤ m → slice_get app.tasks n ≡ Some t → is_of_level level t ≡ false
            → slice_get app.tasks m ≡ Some u → is_of_level level u ≡ true → n + 1 ≤ m
        later n m t u before here other there of = go (cases_Bool (n == m))
          where
            go : ((n == m) ≡ true) ⊎ ((n == m) ≡ false) → n + 1 ≤ m
            go (inl is) =
                let same : n ≡ m = eqb-true n m is in
                let alike : Some t ≡ Some u = sym here ∙ ap (slice_get app.tasks) same ∙ there in
                absurd (cc (same_Some t u alike, other, of))
            go (inr is) = let differs = eqb-false n m is in omega (arith, before, differs)

  -- a dispatcher of a level with a task, from its first address on
  pub dispatcher_closed : (at n : ℕ) (t : Task) → slice_get app.tasks n ≡ Some t → is_of_level level t ≡ true
      → p.first ≤ at → at + length (dispatcher_code app level at) ≤ suc p.last
      → IsClosed p (dispatcher_code app level at)
  dispatcher_closed at n t there of front back =
      let exit : Exit = exit_of app level at in
      let ahead : List Line = front_lines (queue_at app level) at in
      let choices : List Line = choices_code app level exit (at + 18) 0 0 app.tasks in
      let long = length-append ahead choices in
      let goes : Goes exit (at + 18) 0 choices =
      choices_grow (grows exit refl) app.tasks (at + 18) 0 0 (all_from app.tasks) (all_from _) in
      let some = goes.some n t (omega arith) there of in
      record {
        fine = both p ahead choices (front_of_dispatcher at front (omega (arith, long, some, back)))
            (goes.fine (record { front = omega arith; back = omega (arith, long, some, back) }) (omega arith)
            (omega (arith, long, back)));
        ends = ends_behind ahead choices (elim goes.ends [
          | inl none ↦ absurd (let no : length choices ≡ 0 = ap (λ (ls : List Line). length ls) none in
              omega (arith, some, no))
          | inr ends ↦ ends
        ]);
      }

-- the timer handler, from its first address on
module _ (p : Part) (app : App) (timed : (timer.queue_of app).irq ≡ p.timer) (threshold : ℕ) where
  timer_choices : (ts : List Task) (at n : ℕ) → p.first ≤ at
      → at + length (timer.choices_code app threshold at n ts) ≤ p.last
      → Fine p (timer.choices_code app threshold at n ts)
  timer_choices [] at n front back = none p
  timer_choices (t ∷ ts) at n front back =
      go (is_software t && is_armed app n) back (λ a. timer_choices ts a (n + 1))
    where
      own : List Line
      own = lines.choice_lines (timer.queue_of app) 0 threshold (timer.armed_task app n) at

      go : (b : Bool)
          → at + length (if b then own ++ timer.choices_code app threshold (at + 26) (n + 1) ts
          else timer.choices_code app threshold at (n + 1) ts) ≤ p.last
          → ((a : ℕ) → p.first ≤ a → a + length (timer.choices_code app threshold a (n + 1) ts) ≤ p.last
          → Fine p (timer.choices_code app threshold a (n + 1) ts))
          → Fine p (if b then own ++ timer.choices_code app threshold (at + 26) (n + 1) ts
          else timer.choices_code app threshold at (n + 1) ts)
      go true within others =
          let more : List Line = timer.choices_code app threshold (at + 26) (n + 1) ts in
          let long = length-append own more in
          both p own more
          (choice_fine p (timer.queue_of app) timed 0 threshold (timer.armed_task app n) at front
          (omega (arith, long, within)))
          (others (at + 26) (omega arith) (omega (arith, long, within)))
      go false within others = others at front within

  pub timer_closed : (at : ℕ) → p.first ≤ at → at + length (timer.timer_code app threshold at) ≤ suc p.last
      → IsClosed p (timer.timer_code app threshold at)
  timer_closed at front back =
      let ahead : List Line = lines.front_lines (timer.queue_of app) 0 threshold at in
      let choices : List Line = timer.choices_code app threshold (at + 73) 0 app.tasks in
      let jump : List Line = plain (instr.Jump (at + 10)) ∷ [] in
      let long = length-append ahead (choices ++ jump) in
      let longer = length-append choices jump in
      record {
        fine = both p ahead (choices ++ jump)
            (front_fine p (timer.queue_of app) timed 0 threshold at front (omega (arith, long, longer, back)))
            (both p choices jump
            (timer_choices app.tasks (at + 73) 0 (omega arith) (omega (arith, long, longer, back)))
            (record { claimed = (record { front = omega arith; back = omega (arith, long, longer, back) }, tt) }));
        ends = ends_behind ahead (choices ++ jump) (ends_behind choices jump tt);
      }
