-- Lines of a run that are not silent: those that ask the core for something, and those whose note says what is done.
use Rattle.rt_gen_queue.proofs.Vocabulary.{Action, Agree, Clocks, Doing, Entry, Guarded, HasCodeAt, Location}
use Rattle.rt_gen_queue.proofs.Vocabulary.{Instr}
use Rattle.rt_gen_queue.proofs.Vocabulary.{Line, LineFits, List, None, Posts, SetsAlarm, Some, Values, and_right, ap}
use Rattle.rt_gen_queue.proofs.Vocabulary.{arith, delays, does, effect, is_open, least_instant, length, length-set, map}
use Rattle.rt_gen_queue.proofs.Vocabulary.{spend_step, plain, refl, slice_index, slice_set, storage, subst, suc}
use Rattle.rt_gen_queue.proofs.Vocabulary.{sym, true}
use Rattle.rt_gen_queue.proofs.Vocabulary.{ℕ, ◌+◌, ◌<◌, ◌^◌, ◌∙◌, ◌∷◌, ◌≡◌}
use Rattle.rt_ids.specs.declared.ids.Section.TheVariants as section
use Rattle.rt_code.specs.Acting.{Acts}
use Rattle.rt_code.specs.declared.instr.Instr.TheVariants as instr
use Rattle.rt_gen_queue.proofs.Layer.Correct.{Gives, Later, S, at_passed, by_line}
use Rattle.rt_gen_queue.proofs.Layer.Jobs.{Here, Setting, lasts_less, configuration}
use Rattle.rt_gen_queue.proofs.Layer.Requests.{alarms_here, clocks_here, no_alarm_here, posts_here}
use Rattle.rt_gen_queue.proofs.Layer.Runs.{MayRun, Straight, all_fit, first_fits, fits, next_in_time, placed, slot_of}
use Rattle.rt_gen_queue.proofs.Layer.Runs.{word_of}
use Rattle.rt_gen_queue.proofs.Layer.Window.{Frame, Now, free_there, is_free, window, window_free, window_set}
use Rattle.rt_gen_queue.proofs.Layer.Window.{window_there}

-- Where the job is after a line that may have changed all but the open sections and the deadlines.
abbrev pub behind_line : Here → List Entry → List ℕ → (Location → List Entry) → Doing Values → Here
behind_line h places cells queues rest = record h {
  done = suc h.done;
  places = places;
  at = suc h.at;
  cells = cells;
  queues = queues;
  rest = rest;
}

module _ {size mask : ℕ} where
  -- the lines after it may run
  pub may_follow : {f : Frame size mask} {line : Line} {lines : List Line} {h : Here} {ws : List ℕ}
      (places : List Entry) (cells : List ℕ) (queues : Location → List Entry) (rest : Doing Values) (after : List ℕ)
      → length after ≡ length ws → MayRun f (line ∷ lines) h ws
      → MayRun f lines (behind_line h places cells queues rest) after
  may_follow {line = line} {lines = lines} {h = h} places cells queues rest after long may = record {
    time = lasts_less (suc h.done + length lines) (h.done + suc (length lines)) (h.until ∷ h.deadlines) (omega arith)
        may.time;
    saves = may.saves;
    long = long ∙ may.long;
    fit = and_right (fits size mask line.0) (all_fit size mask lines) may.fit;
  }

  module _ {z : Setting} {f : Frame size mask} {line : Line} {lines : List Line} {h : Here} {ws : List ℕ}
      {places : List Entry} {cells : List ℕ} {queues : Location → List Entry} where
    -- a run that goes on after a line, as what the line's note asks for
    pub goes_later : {rest : Doing Values} {after : List ℕ} → length after ≡ length ws → MayRun f (line ∷ lines) h ws
        → HasCodeAt z.code (suc h.at) (map (placed f.slot) lines)
        → Straight z f lines (behind_line h places cells queues rest) after
        → Later z h
        (spend_step (configuration z (Now f (record (behind_line h places cells queues rest) { done = h.done }) after)))
    goes_later {rest = rest} {after = after} long may has on =
        at_passed (Now f (record (behind_line h places cells queues rest) { done = h.done }) after)
        (on.runs (may_follow places cells queues rest after long may) has)

    -- the next action of what is left to do, as a line's note has it, and the lines after it
    pub acts_later : {values : Values} {rest : Values → Doing Values} (action : Action) (after : List ℕ)
        → length after ≡ length ws → MayRun f (line ∷ lines) h ws
        → HasCodeAt z.code (suc h.at) (map (placed f.slot) lines) → h.rest ≡ does action values (λ answer. rest)
        → ((vs : Values) → Agree (storage z.app) z.who h.held vs values
        → Straight z f lines (behind_line h places cells queues (rest (effect action vs))) after)
        → Acts (storage z.app) z.bodies z.who action 0
        (spend_step (configuration z
        (Now f (record (behind_line h places cells queues h.rest) { done = h.done }) after)))
        (Later z h)
    acts_later {values = values} {rest = rest} action after long may has is on = record {
      values = values;
      follows = λ answer. rest;
      is = is;
      on = λ vs agree. goes_later long may has (on vs agree);
    }

  module _ {z : Setting} {f : Frame size mask} {line : Line} {lines : List Line} {h : Here} {ws : List ℕ} where
    -- a line by what fits it where it is
    pub by_noted : (MayRun f (line ∷ lines) h ws → HasCodeAt z.code (suc h.at) (map (placed f.slot) lines)
        → LineFits (storage z.app) z.code z.bodies z.thread z.who (Some (placed f.slot line))
        (spend_step (configuration z (Now f h ws))) (Later z h))
        → Straight z f (line ∷ lines) h ws
    by_noted line_fits = record {
      runs = λ may has. by_line (placed f.slot line).0 (placed f.slot line).1 has.0 (next_in_time may)
          (line_fits may has.1);
    }

    -- what an instruction gives that writes a free slot of the window
    pub in_window : {i : Instr} {to : ℕ} {cells : List ℕ} (d v : ℕ) → MayRun f (line ∷ lines) h ws
        → is_free size mask d ≡ true → Gives z (Now f h ws) i (slice_set (window f ws) (f.slot + d) v) to cells
        → Gives z (Now f h ws) i (window f (slice_set ws d v)) to cells
    in_window {i = i} {to = to} {cells = cells} d v may free gives =
        let there : d < length ws = omega (arith, may.long, free_there size mask d free) in
        subst (λ slots. Gives z (Now f h ws) i slots to cells) (window_set f ws d v there) gives

  -- what is left to do after a line that asks the core
  abbrev pub Follow : Setting → Frame size mask → List Line → Here → List ℕ → Values → (Values → Doing Values) → Type 0
  Follow z f lines h ws values rest =
      (vs : Values) → Agree (storage z.app) z.who h.held vs values
      → Straight z f lines (record h { done = suc h.done; at = suc h.at; rest = rest vs }) ws

  module _ {z : Setting} {f : Frame size mask} {lines : List Line} {h : Here} {ws : List ℕ} where
    -- an interrupt becomes pending
    pub posts : {irq : ℕ} {values : Values} {rest : Values → Doing Values}
        → h.rest ≡ does (Posts irq) values (λ answer. rest) → Follow z f lines h ws values rest
        → Straight z f (plain (instr.Post irq) ∷ lines) h ws
    posts {rest = rest} is on = record {
      runs = λ may has. posts_here has.0 (next_in_time may) is
          (λ vs agree. (on vs agree).runs (may_follow h.places h.cells h.queues (rest vs) ws refl may) has.1);
    }

    -- a slot gets the time
    pub clocks : {d : ℕ} {values : Values} {follows : ℕ → Values → Doing Values} → h.rest ≡ does Clocks values follows
        → ((now : ℕ) (vs : Values) → now < 2 ^ 31 → Agree (storage z.app) z.who h.held vs values
        → Straight z f lines (record h { done = suc h.done; at = suc h.at; rest = follows now vs })
        (slice_set ws d now))
        → Straight z f (plain (instr.Clock d) ∷ lines) h ws
    clocks {d = d} {follows = follows} is on = record {
      runs = λ may has.
          let free : is_free size mask d ≡ true = first_fits may in
          let there : d < length ws = omega (arith, may.long, free_there size mask d free) in
          clocks_here has.0 (next_in_time may) (window_there f ws d there) (window_free f h.held d free may.saves) is
          (λ now vs early agree.
          subst (λ slots. S z (record h { done = suc h.done; slots = slots; at = suc h.at; rest = follows now vs }))
          (sym (window_set f ws d now there))
          ((on now vs early agree).runs (may_follow h.places h.cells h.queues (follows now vs) (slice_set ws d now)
          (length-set ws d now) may) has.1));
    }

    -- the alarm becomes the instant in a slot, which is the least armed one
    pub alarms : {x irq : ℕ} {values : Values} {rest : Values → Doing Values} → (storage z.app).timer ≡ Some irq
        → is_open h.held section.Timer ≡ true → h.rest ≡ does SetsAlarm values (λ answer. rest)
        → least_instant (delays (values (Guarded section.Timer))) ≡ Some (slice_index ws x)
        → Follow z f lines h ws values rest → Straight z f (plain (instr.Alarm x irq) ∷ lines) h ws
    alarms {x = x} {rest = rest} timer opens is least on = record {
      runs = λ may has. alarms_here has.0 (next_in_time may) (slot_of x may (first_fits may)) timer opens is
          (least ∙ ap Some (sym (word_of x (slice_index ws x) may (first_fits may) refl)))
          (λ vs agree. (on vs agree).runs (may_follow h.places h.cells h.queues (rest vs) ws refl may) has.1);
    }

    -- nothing is armed, and no alarm is left
    pub no_alarm : {values : Values} {rest : Values → Doing Values} → is_open h.held section.Timer ≡ true
        → h.rest ≡ does SetsAlarm values (λ answer. rest)
        → least_instant (delays (values (Guarded section.Timer))) ≡ None → Follow z f lines h ws values rest
        → Straight z f (plain instr.NoAlarm ∷ lines) h ws
    no_alarm {rest = rest} opens is least on = record {
      runs = λ may has. no_alarm_here has.0 (next_in_time may) opens is least
          (λ vs agree. (on vs agree).runs (may_follow h.places h.cells h.queues (rest vs) ws refl may) has.1);
    }
