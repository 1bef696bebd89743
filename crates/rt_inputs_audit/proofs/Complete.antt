-- The lines of a run beside devices come one after another.
use Rattle.std.proofs.Common.{◌≡◌, ℕ, zero, suc, ◌+◌, ◌-◌, ◌^◌, ◌<◌, ◌≤◌, Bool, true, false, if◌then◌else◌, List, []}
use Rattle.std.proofs.Common.{◌∷◌}
use Rattle.std.proofs.Common.{◌++◌, map, Some, None, refl, sym, ap, subst, ◌∙◌, le_refl, arith}
use Rattle.std.specs.List.{AllByRecursion}
use Rattle.std.proofs.lemmas.Option.{same_Some, none-some}
use Rattle.rt_lemmas.proofs.Membership.{all_append}
use Rattle.rt_actions.specs.Content.{Values}
use Rattle.rt_actions.specs.Action.{SetsAlarm, Returns}
use Rattle.rt_actions.specs.Doing.{Doing, over, does}
use Rattle.rt_trace.specs.Label.{Label, Arrived, Ticked, Rang, Stepped, steps_of}
use Rattle.rt_trace.specs.declared.item.What.{What}
use Rattle.rt_trace.specs.declared.item.What.TheVariants as what
use Rattle.rt_app.specs.Tree.{App}
use Rattle.rt_laws.specs.State.{Role, Init, Idle, Waiting, Serving, Job, State}
use Rattle.rt_laws.specs.Giving.{next_instant, is_due, return_item, next_item, item_given}
use Rattle.rt_laws.specs.Allowed.{May, after}
use Rattle.rt_laws.specs.Run.{RunsOn}
use Rattle.rt_laws.specs.ByItems.{label_of, steps_after, after_all, silent}
use Rattle.rt_laws.specs.DeviceWords.{WithWords, One, Puts, things, state_after_put, RunsBeside}
use Rattle.rt_laws.proofs.Silent.{silent_steps_by_cost}
use Rattle.rt_board.specs.Board.{Board}
use Rattle.rt_board.specs.declared.board.Input as board
use Rattle.rt_inputs.specs.Shown.{ShownLine, Shows, Input, lines_from}
use Rattle.rt_inputs_audit.specs.Given.{inputs_at, locals_of, written_before, GivesFrom}
use Rattle.rt_inputs_audit.specs.Following.{Place, take_label, taken, settled, behind_item, RunsByLines}

-- an item that no step gives
abbrev IsEvent : What → Type 0
IsEvent (what.Pend irq) = Unit {0}
IsEvent what.Tick = Unit {0}
IsEvent w = ⊥

no_event_set : (b : Bool) → IsEvent (if b then what.Alarm else what.AlarmSet) → ⊥
no_event_set true h = h
no_event_set false h = h

no_event_return : (role : Role) (w : What) → return_item role ≡ Some w → IsEvent w → ⊥
no_event_return Init w is event = none-some w is
no_event_return Idle w is event = none-some w is
no_event_return Waiting w is event = none-some w is
no_event_return (Serving irq) w is event = subst IsEvent (sym (same_Some (what.Ret irq) w is)) event

no_event_next : (s : State) (role : Role) (rest : Doing Values) (w : What) → next_item s role rest ≡ Some w
    → IsEvent w → ⊥
no_event_next s role over w is event = none-some w is
no_event_next s role (does SetsAlarm made next) w is event =
    no_event_set (is_due s.time (next_instant s))
    (subst IsEvent (sym (same_Some (if is_due s.time (next_instant s) then what.Alarm else what.AlarmSet) w is))
    event)
no_event_next s role (does Returns made next) w is event = no_event_return role w is event
no_event_next s role (does action made next) w is event = subst IsEvent (sym (same_Some _ w is)) event

no_event : (s : State) (js : List Job) (w : What) → item_given s js ≡ Some w → IsEvent w → ⊥
no_event s [] w is event = none-some w is
no_event s (job ∷ others) w is event = no_event_next s job.role job.rest w is event

-- a word, with its local resource
abbrev Word : Type 0
Word = ℕ × ℕ

abbrev locals : List Word → List ℕ
locals ws = map (λ (w : Word). w.0) ws

-- the lines of words
abbrev shown : ℕ → List Word → List ShownLine
shown m ws = map (λ (w : Word). Input m w.0 w.1) ws

-- the state after words
abbrev put_all : List Word → State → State
put_all [] s = s
put_all (w ∷ ws) s = put_all ws (state_after_put w.0 w.1 s)

put_more : (ws : List Word) (local word : ℕ) (s : State)
    → put_all (ws ++ (local, word) ∷ []) s ≡ state_after_put local word (put_all ws s)
put_more [] local word s = refl
put_more (w ∷ ws) local word s = put_more ws local word (state_after_put w.0 w.1 s)

locals_more : (ws : List Word) (local word : ℕ) → locals (ws ++ (local, word) ∷ []) ≡ locals ws ++ local ∷ []
locals_more [] local word = refl
locals_more (w ∷ ws) local word = ap (λ ls. w.0 ∷ ls) (locals_more ws local word)

shown_more : (m : ℕ) (ws : List Word) (local word : ℕ)
    → shown m (ws ++ (local, word) ∷ []) ≡ shown m ws ++ Input m local word ∷ []
shown_more m [] local word = refl
shown_more m (w ∷ ws) local word = ap (λ ls. Input m w.0 w.1 ∷ ls) (shown_more m ws local word)

abbrev AreShort : List Word → Type 0
AreShort ws = AllByRecursion (λ (w : Word). w.1 < 2 ^ 32) ws

module _ (app : App) (b : Board) where
  silent_owing : (k : ℕ) (s : State) → (after_all app s (silent k)).owing ≡ s.owing
  silent_owing k s = ap (λ (u : State). u.owing) (silent_steps_by_cost.leads app s k)

  -- what an item of a step stands for is that step
  label_is : (s t : State) (w : What) → t.owing ≡ s.owing → May app t (Stepped (Some w))
      → Stepped (Some w) ≡ label_of s.owing w
  label_is s t (what.Pend irq) same may = absurd (no_event t t.jobs (what.Pend irq) may.1 tt)
  label_is s t what.Tick same may = absurd (no_event t t.jobs what.Tick may.1 tt)
  label_is s t what.Alarm same may =
      ap (λ o. if o then Rang else Stepped (Some what.Alarm)) (sym (sym same ∙ may.0.not_owing))
  label_is s t (what.Take irq depth) same may = refl
  label_is s t w same may = refl

  more_silent : (k : ℕ) (s : State) → RunsOn app s (silent k) → May app (after_all app s (silent k)) (Stepped None)
      → RunsOn app s (silent (suc k))
  more_silent zero s runs may = (may, tt)
  more_silent (suc k) s runs may = (runs.0, more_silent k (after app s (Stepped None)) runs.1 may)

  after_more : (k : ℕ) (s : State)
      → after_all app s (silent (suc k)) ≡ after app (after_all app s (silent k)) (Stepped None)
  after_more zero s = refl
  after_more (suc k) s = after_more k (after app s (Stepped None))

  pub none_silent : (s : State) (m : ℕ) → RunsOn app s (silent (m - m))
  none_silent s m = let none : zero ≡ m - m = omega arith in subst (λ k. RunsOn app s (silent k)) none tt

  from_here : (s : State) (m : ℕ) (moves : List (WithWords Label)) → RunsBeside app s moves
      → RunsBeside app (after_all app s (silent (m - m))) moves
  from_here s m moves runs = let none : zero ≡ m - m = omega arith in
      subst (λ k. RunsBeside app (after_all app s (silent k)) moves) none runs

  abbrev free : State → ℕ → Place
  free s n = record { state = s; done = n; held = None }

  -- words change nothing of what a take asks
  may_unput : (ws : List Word) (s : State) (irq depth : ℕ) → May app (put_all ws s) (take_label irq depth)
      → May app s (take_label irq depth)
  may_unput [] s irq depth may = may
  may_unput (w ∷ ws) s irq depth may = may_unput ws (state_after_put w.0 w.1 s) irq depth may

  -- the lines of the words of a take come
  words_come : (ws : List Word) (inputs : List board.Input) (s : State) (n m irq depth total : ℕ)
      (lines : List ShownLine)
      → locals ws ≡ locals_of inputs → AreShort ws
      → RunsByLines app b (taken app (put_all ws s) m irq depth) lines total
      → RunsByLines app b (settled app s n m irq depth inputs) (shown m ws ++ lines) total
  words_come [] [] s n m irq depth total lines same short runs = runs
  words_come [] (input ∷ inputs) s n m irq depth total lines same short runs = absurd cc
  words_come (w ∷ ws) [] s n m irq depth total lines same short runs = absurd cc
  words_come (w ∷ ws) (input ∷ inputs) s n m irq depth total lines same short runs =
      let here : w.0 ≡ input.local = cc in
      let more : locals ws ≡ locals_of inputs = cc in (
        record { at_step = refl; next = here; short = short.0 },
        words_come ws inputs (state_after_put w.0 w.1 s) n m irq depth total lines more short.1 runs,
      )

  -- it is so of these moves wherever they run, behind these words
  abbrev Come : List (WithWords Label) → Type 0
  Come moves =
      (s : State) (n m total : ℕ) (ws : List Word) → n ≤ m → m + steps_of (things moves) ≡ total
      → RunsOn app s (silent (m - n)) → RunsBeside app (put_all ws (after_all app s (silent (m - n)))) moves
      → GivesFrom app b (locals ws) moves → AreShort ws
      → RunsByLines app b (free s n) (lines_from m (shown m ws) moves) total

  module _ (moves : List (WithWords Label)) (rest : Come moves) (s : State) (n m total : ℕ) (le : n ≤ m)
      (quiet : RunsOn app s (silent (m - n))) where
    abbrev mid : State
    mid = after_all app s (silent (m - n))

    -- an item that is no take
    item_comes : (w : What) (label : Label) → label ≡ label_of s.owing w → May app mid label
        → (RunsByLines app b (free (after app mid label) (steps_after m label)) (lines_from
        (steps_after m label) [] moves)
        total
        → RunsByLines app b (behind_item app b s n m w) (lines_from (steps_after m label) [] moves) total)
        → RunsBeside app (after app mid label) moves → GivesFrom app b [] moves
        → steps_after m label + steps_of (things moves) ≡ total
        → RunsByLines app b (free s n)
        (Shows (record { step = m; what = w }) ∷ lines_from (steps_after m label) [] moves) total
    item_comes w label is may leads runs gives all = (
      record { in_order = le; quiet = quiet; allowed = subst (λ l. May app mid l) is may },
      leads
          (rest (after app mid label) (steps_after m label) (steps_after m label) total [] (le_refl
          (steps_after m label)) all
          (none_silent (after app mid label) (steps_after m label))
          (from_here (after app mid label) (steps_after m label) moves runs) gives tt),
    )

    -- the lines of one label
    abbrev Lines : Label → Type 0
    Lines label = RunsByLines app b (free s n) (lines_from m [] (One label ∷ moves)) total

    -- with the number of steps as it is counted
    counted : (w : What) (j k : ℕ) → j ≡ k
        → RunsByLines app b (free s n) (Shows (record { step = m; what = w }) ∷ lines_from k [] moves) total
        → RunsByLines app b (free s n) (Shows (record { step = m; what = w }) ∷ lines_from j [] moves) total
    counted w j k same runs =
        subst (λ i. RunsByLines app b (free s n) (Shows (record { step = m; what = w }) ∷ lines_from i [] moves) total)
        (sym same) runs

    arrived_comes : (irq : ℕ) → m + steps_of (things moves) ≡ total → May app mid (Arrived irq)
        → RunsBeside app (after app mid (Arrived irq)) moves → GivesFrom app b [] moves → Lines (Arrived irq)
    arrived_comes irq all may runs gives =
        counted (what.Pend irq) (m + 0) m (omega arith)
        (item_comes (what.Pend irq) (Arrived irq) refl may (λ r. r) runs gives all)

    ticked_comes : m + steps_of (things moves) ≡ total → May app mid Ticked
        → RunsBeside app (after app mid Ticked) moves → GivesFrom app b [] moves → Lines Ticked
    ticked_comes all may runs gives =
        counted what.Tick (m + 0) m (omega arith)
        (item_comes what.Tick Ticked refl may (λ r. r) runs gives all)

    rang_comes : m + steps_of (things moves) ≡ total → May app mid Rang
        → RunsBeside app (after app mid Rang) moves → GivesFrom app b [] moves → Lines Rang
    rang_comes all may runs gives =
        let owed : s.owing ≡ true = sym (silent_owing (m - n) s) ∙ may in
        let label : Rang ≡ label_of s.owing what.Alarm =
        ap (λ o. if o then Rang else Stepped (Some what.Alarm)) (sym owed) in
        counted what.Alarm (m + 0) m (omega arith)
        (item_comes what.Alarm Rang label may
        (λ r. subst (λ l. RunsByLines app b (free (after app mid l) (steps_after m l))
        (lines_from m [] moves) total) label
        r) runs gives all)

    silent_comes : suc m + steps_of (things moves) ≡ total → May app mid (Stepped None)
        → RunsBeside app (after app mid (Stepped None)) moves → GivesFrom app b [] moves → Lines (Stepped None)
    silent_comes all may runs gives =
        let more : suc (m - n) ≡ suc m - n = omega arith in
        let one : suc m ≡ m + 1 = omega arith in
        subst (λ k. RunsByLines app b (free s n) (lines_from k [] moves) total) one
        (rest s n (suc m) total [] (omega (arith, le)) all
        (subst (λ k. RunsOn app s (silent k)) more (more_silent (m - n) s quiet may))
        (subst (λ k. RunsBeside app (after_all app s (silent k)) moves) more
        (subst (λ t. RunsBeside app t moves) (sym (after_more (m - n) s)) runs)) gives tt)

    -- a step with an item that is no take
    plain_comes : (w : What) → Stepped (Some w) ≡ label_of s.owing w
        → (RunsByLines app b (free (after app mid (label_of s.owing w)) (steps_after m (label_of s.owing w)))
        (lines_from (suc m) [] moves) total
        → RunsByLines app b (behind_item app b s n m w) (lines_from (suc m) [] moves) total)
        → suc m + steps_of (things moves) ≡ total → May app mid (Stepped (Some w))
        → RunsBeside app (after app mid (Stepped (Some w))) moves → GivesFrom app b [] moves → Lines (Stepped (Some w))
    plain_comes w label leads all may runs gives =
        counted w (m + 1) (suc m) (omega arith)
        (item_comes w (Stepped (Some w)) label may
        (λ r. leads (subst (λ l. RunsByLines app b (free (after app mid l) (steps_after m l)) (lines_from (suc m) []
        moves) total) label r)) runs gives all)

    step_comes : (w : What) → [] ≡ written_before app b (Stepped (Some w))
        → suc m + steps_of (things moves) ≡ total → May app mid (Stepped (Some w))
        → RunsBeside app (after app mid (Stepped (Some w))) moves → GivesFrom app b [] moves → Lines (Stepped (Some w))
    step_comes (what.Take irq depth) none all may runs gives =
        counted (what.Take irq depth) (m + 1) (suc m) (omega arith)
        (item_comes (what.Take irq depth) (take_label irq depth) refl may
        (λ r. words_come [] (inputs_at app b irq) mid n m irq depth total (lines_from (suc m) [] moves) none tt r) runs
        gives all)
    step_comes w none all may runs gives =
        plain_comes w (label_is s mid w (silent_owing (m - n) s) may) (λ r. r) all may runs gives

    -- a take with its words
    take_comes : (irq depth : ℕ) (ws : List Word) → locals ws ≡ locals_of (inputs_at app b irq) → AreShort ws
        → suc m + steps_of (things moves) ≡ total → May app (put_all ws mid) (take_label irq depth)
        → RunsBeside app (after app (put_all ws mid) (take_label irq depth)) moves → GivesFrom app b [] moves
        → RunsByLines app b (free s n)
        (Shows (record { step = m; what = what.Take irq depth }) ∷ (shown m ws ++ lines_from (m + 1) [] moves)) total
    take_comes irq depth ws same short all may runs gives =
        let one : suc m ≡ m + 1 = omega arith in
        let t : State = after app (put_all ws mid) (take_label irq depth) in (
          record { in_order = le; quiet = quiet; allowed = may_unput ws mid irq depth may },
          words_come ws (inputs_at app b irq) mid n m irq depth total (lines_from (m + 1) [] moves) same short
              (subst (λ k. RunsByLines app b (free t (suc m)) (lines_from k [] moves) total) one
              (rest t (suc m) (suc m) total [] (le_refl (suc m)) all (none_silent t (suc m)) (from_here t
              (suc m) moves runs)
              gives tt)),
        )

    label_comes : (label : Label) (ws : List Word) → m + steps_of (label ∷ things moves) ≡ total
        → May app (put_all ws mid) label → RunsBeside app (after app (put_all ws mid) label) moves
        → locals ws ≡ written_before app b label → GivesFrom app b [] moves → AreShort ws
        → RunsByLines app b (free s n) (lines_from m (shown m ws) (One label ∷ moves)) total
    label_comes (Arrived irq) [] all may runs none gives short = arrived_comes irq all may runs gives
    label_comes Ticked [] all may runs none gives short = ticked_comes all may runs gives
    label_comes Rang [] all may runs none gives short = rang_comes all may runs gives
    label_comes (Stepped None) [] all may runs none gives short =
        silent_comes (omega (arith, all)) may runs gives
    label_comes (Stepped (Some w)) [] all may runs none gives short =
        step_comes w none (omega (arith, all)) may runs gives
    label_comes (Stepped (Some (what.Take irq depth))) (w ∷ ws) all may runs same gives short =
        take_comes irq depth (w ∷ ws) same short (omega (arith, all)) may runs gives
    label_comes label (w ∷ ws) all may runs same gives short = absurd cc

  pub come_by_moves : (moves : List (WithWords Label)) → Come moves
  come_by_moves [] s n m total [] le all quiet runs gives short =
      let here : m ≡ total = omega (arith, all) in
      record { free = refl; few = omega arith; quiet = subst (λ t. RunsOn app s (silent (t - n))) here quiet }
  come_by_moves [] s n m total (w ∷ ws) le all quiet runs gives short = absurd cc
  come_by_moves (Puts local word ∷ moves) s n m total ws le all quiet runs gives short =
      subst (λ ls. RunsByLines app b (free s n) (lines_from m ls moves) total) (shown_more m ws local word)
      (come_by_moves moves s n m total (ws ++ (local, word) ∷ []) le all quiet
      (subst (λ t. RunsBeside app t moves) (sym (put_more ws local word (after_all app s (silent (m - n))))) runs.1)
      (subst (λ ls. GivesFrom app b ls moves) (sym (locals_more ws local word)) gives)
      (all_append (λ (w : Word). w.1 < 2 ^ 32) ws ((local, word) ∷ []) short (runs.0.short, tt)))
  come_by_moves (One label ∷ moves) s n m total ws le all quiet runs gives short =
      label_comes moves (come_by_moves moves) s n m total le quiet label ws all runs.0 runs.1 gives.0 gives.1 short
