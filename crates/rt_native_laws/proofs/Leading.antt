-- A machine instruction leads on: what others see of it the image shows, and then the processor is where the image is.
use Rattle.std.proofs.Common.{◌≡◌, ◌∙◌, ℕ, ◌/◌, ◌%◌, ◌^◌, ◌<◌, ◌≤◌, Bool, false, true, List, [], ◌∷◌, ◌++◌, Option}
use Rattle.std.proofs.Common.{Some, None, refl, inl, inr, ◌⊎◌, sym, ap, subst, arith, length, flat_map}
use Rattle.std.proofs.lemmas.List.{length-set}
use Rattle.std.specs.Prelude.{option_map, reverse, slice_index_or}
use Rattle.rt_ids.specs.Choice.{IsIn}
use Rattle.rt_ids.specs.Event.{Step}
use Rattle.rt_code.specs.Image.{Image}
use Rattle.rt_code.specs.declared.instr.Instr.{Instr}
use Rattle.rt_core.specs.Core.{Context, Core}
use Rattle.rt_core.specs.Stepping.{step}
use Rattle.rt_core.specs.Transfer.{core_after_word}
use Rattle.rt_native.specs.Layout.{outside, places, stack_top}
use Rattle.rt_native.specs.Service.{timer_irq}
use Rattle.rt_native.specs.Target.{Target}
use Rattle.rt_native.specs.declared.outside.Outside.{Outside}
use Rattle.rt_native.specs.declared.target.Input.{Input}
use Rattle.rt_thumb.specs.Exceptions.{systick}
use Rattle.rt_thumb.specs.Machine.{Machine, Seen, word_at}
use Rattle.rt_thumb.specs.Step.{Program}
use Rattle.rt_thumb.specs.declared.instruction.Instruction.{Instruction}
use Rattle.rt_trace.specs.Label.{Stepped}
use Rattle.rt_trace.specs.declared.item.What.{What}
use Rattle.rt_trace.specs.declared.item.What.TheVariants as what
use Rattle.rt_native_laws.specs.Alike.{SetsNoAlarm}
use Rattle.rt_native_laws.specs.Behaving.{StaysGood}
use Rattle.rt_native_laws.specs.Doing.{seen_of}
use Rattle.rt_native_laws.specs.Going.{IsNothing, IsOneStep, StepsBy}
use Rattle.rt_native_laws.specs.EachKind.{IsLoosely}
use Rattle.rt_native_laws.specs.Inputs.{Enters, IsAtInputs, Reads as ReadsMore, ReadingGoes}
use Rattle.rt_native_laws.specs.Inputs.{read_behind}
use Rattle.rt_native_laws.specs.InTail.{Debt, paid}
use Rattle.rt_native_laws.specs.Moments.{AreFillings, Began, CameBack, CanRead, Comes, Fills, HasBegun, HasJustRead}
use Rattle.rt_native_laws.specs.Moments.{HasRead, IsPut, IsTaken, Last, Loads, Moment, Puts, Taking, WasCalled, Went}
use Rattle.rt_native_laws.specs.Moments.{instruction_at, last_after}
use Rattle.rt_native_laws.specs.Moments.{moment_after}
use Rattle.rt_native_laws.specs.Moments.{Happening, settled_words, shown, with_core, with_frame}
use Rattle.rt_native_laws.specs.Own.{Executes}
use Rattle.rt_native_laws.specs.Phases.{Entering, IsNew, Phase, Reads, kept_words, tail_of, viewed}
use Rattle.rt_native_laws.specs.Reading.{AtCellLow, AtCellTop, AtLoad, AtLow, AtStore, AtTop, IsReading, Reading}
use Rattle.rt_native_laws.specs.Reading.{read_at, reads_of}
use Rattle.rt_native_laws.specs.Relating.{IsInPlace, IsWhere, LeadsOn, lowest, calls_of}
use Rattle.rt_native_laws.specs.Simulating.{IsWhatWasRead, compared, seen_of_label}
use Rattle.rt_native_laws.specs.Standing.{IsLaidOut}
use Rattle.rt_native_laws.specs.Waiting.{IsFresh, KeepsAbove, KeepsTail, Waiting, others_tail}
use Rattle.rt_native_laws.proofs.Above.{private_keeps_above, steps_keep_above, words_stay_in_private}
use Rattle.rt_native_laws.proofs.Above.{words_stay_in_steps}
use Rattle.rt_native_laws.proofs.Deep.{phases_are_within_frames}
use Rattle.rt_native_laws.proofs.Even.{goes_to_even}
use Rattle.rt_native_laws.proofs.Inputs.{reading_goes_on}
use Rattle.rt_native_laws.proofs.Marking.{marks_are_done, moment_is, step_seen}
use Rattle.rt_native_laws.proofs.Reading.{fresh_of}
use Rattle.rt_native_laws.proofs.Relating.{alarm_then, in_no_tail, is_where_on, private_keeps_outside}
use Rattle.rt_native_laws.proofs.Relating.{steps_keep_outside}
use Rattle.rt_native_laws.proofs.Shaping.{KeepsShape, StaysInContext, step_keeps_shape, step_shows}
use Rattle.rt_native_laws.proofs.Tails.{for_some, tail_same, tail_untouched}
use Rattle.rt_native_laws.proofs.Unpaid.{IsQuiet, by_debt, moment_same, owing, paid_same, parts_same, step_same}
use Rattle.rt_native_laws.proofs.Viewing.{IsAlone, new_alone, view_above}

-- one item at most is seen
one_seen : (said : Option What) → reverse (seen_of said ++ []) ≡ seen_of said
one_seen (Some (what.Emit value)) = refl
one_seen (Some (what.Post irq)) = refl
one_seen said = refl

-- a handler that has just read was just taken
pub taken_of : (r : Option (Input × ℕ)) (last : Last) → HasJustRead r last → IsTaken last
taken_of None last h = h
taken_of (Some read) last h = subst IsTaken (sym h) tt

-- no word of its frame is settled
pub none_settled : (last : Last) (words : ℕ) → IsTaken last → settled_words last words ≤ 0
none_settled Began words h = omega arith
none_settled (HasRead input word) words h = omega arith
none_settled (WasCalled arguments) words h = absurd h
none_settled CameBack words h = absurd h
none_settled Went words h = absurd h

pub begun_of : (irq : ℕ) (x : Context) (below : List Context) (last : Last) → IsTaken last → x.irq ≡ irq
    → HasBegun irq (x ∷ below) last
begun_of irq x below Began h same = same
begun_of irq x below (HasRead input word) h same = same
begun_of irq x below (WasCalled arguments) h same = absurd h
begun_of irq x below CameBack h same = absurd h
begun_of irq x below Went h same = absurd h

module _ (img : Image) (target : Target) (p : Program) (there : IsInPlace img target p) (ceiling : ℕ)
    (called : ℕ → Option Machine)
    (fits : List Happening → Bool) (s : Moment) (m n : Machine)
    (stays : StaysGood img target.inputs ceiling fits s) (w : IsWhere img target p ceiling called s m)
    (executed : Instruction)
    (exec : Executes p executed m n) where
  abbrev at : Outside
  at = outside img target

  abbrev pl : List ℕ
  pl = places img target

  abbrev bottom : ℕ
  bottom = lowest img target p

  -- the core for which the processor stands
  abbrev c : Core
  c = w.unpaid

  abbrev Own : (k : Core) (top : ℕ) (y : Machine) → Phase at bottom img pl p k top y → Option Debt
  Own k top y phase = tail_of at bottom img pl p k top y phase

  laid : IsLaidOut at bottom (length c.processor.cells)
  laid = subst (IsLaidOut at bottom) (sym w.cells) there.laid

  pub placed : (n.address % 2 ≡ 0) × (n.address < 2 ^ 32)
  placed =
      goes_to_even p.port m n w.placed.0 (there.has.low m.address executed exec.found) w.words executed
      (there.has.encodable m.address executed exec.found) exec.does

  low : bottom ≤ m.register 13
  low = (phases_are_within_frames at bottom img pl p c w.top m laid there.has.port w.phase).low

  high : w.top ≤ at.time
  high =
      omega (
        arith,
        (phases_are_within_frames at bottom img pl p c w.top m laid there.has.port w.phase).below_cells,
        there.laid.time,
      )

  -- a phase of another core, of which so many words are the core's
  abbrev Kept : ℕ → Core → Type 0
  Kept kept k =
      (phase : Phase at bottom img pl p k w.top n) × IsNew at bottom img pl p k w.top n kept phase

  -- what is new is fresh
  fresh_then : (k : Core) (last : Last) (kept : ℕ) (now : Kept kept k)
      → settled_words last (length k.processor.slots) ≤ kept
      → IsFresh at bottom (stack_top img target) ceiling target.inputs
      (calls_of target called) img pl p w.tail last k w.top n now.0
  fresh_then k last kept now within =
      fresh_of at bottom (stack_top img target) ceiling target.inputs
      (calls_of target called) img pl p w.tail k w.top n kept last now.0 now.1
      within

  kept_now : settled_words s.last (length c.processor.slots) ≤ kept_words at bottom img pl p c w.top m w.phase
  kept_now = w.fresh.0

  abbrev Alone : Type 0
  Alone = IsAlone at bottom img pl p c w.top m w.phase

  abbrev View : (k : Core) (y : Machine) → Phase at bottom img pl p k w.top y → Machine
  View k y phase = viewed at bottom img pl p k w.top y phase

  -- The job is in no tail. What leaves the time, and what is owed, leaves the tail of others.
  module _ (own : Alone) where
    -- what lies above is kept as it is seen
    seen_above : (k : Core) (kept : ℕ) (now : Kept kept k) → KeepsAbove at w.top m n
        → KeepsAbove at w.top (View c m w.phase) (View k n now.0)
    seen_above k kept now above =
        view_above at w.top m n (View c m w.phase) (View k n now.0) own.view
        (new_alone at bottom img pl p k w.top n kept now.0 now.1).view above

    meanwhile : (k : Core) (kept : ℕ) (now : Kept kept k) → KeepsTail w.tail w.tail c k
        → KeepsTail (others_tail (Own c w.top m w.phase) w.tail) (others_tail (Own k w.top n now.0) w.tail) c k
    meanwhile k kept now keeps =
        in_no_tail (Own c w.top m w.phase) (Own k w.top n now.0) w.tail c k own.tail
        (new_alone at bottom img pl p k w.top n kept now.0 now.1).tail keeps

    unchanged : (k : Core) → k.time ≡ c.time → k.alarm ≡ c.alarm → k.pending ≡ c.pending
        → KeepsTail w.tail w.tail c k
    unchanged k time alarm pending =
        tail_same w.tail c k (owing img target p ceiling called s m w) time alarm pending

  -- nothing to the core
  module _ (own : Alone)
      (y : IsNothing at bottom img pl p c w.top m n (kept_words at bottom img pl p c w.top m w.phase)) where
    abbrev words : List ℕ
    words = y.core.processor.slots

    now : Kept (kept_words at bottom img pl p c w.top m w.phase) (with_frame words c)
    now = subst (Kept (kept_words at bottom img pl p c w.top m w.phase)) y.words.core (y.phase, y.fresh)

    settled : settled_words s.last (length words) ≤ kept_words at bottom img pl p c w.top m w.phase
    settled =
        subst (λ (k : ℕ). settled_words s.last k ≤ kept_words at bottom img pl p c w.top m w.phase) (sym y.words.long)
        kept_now

    filled : AreFillings (with_core s c) words
    filled = record {
      long = y.words.long;
      settled = λ k l. y.words.words k (omega (arith, l, kept_now));
    }

    filled_paid : with_frame words s.core ≡ paid w.tail (with_frame words c)
    filled_paid =
        ap (with_frame words) w.owed
        ∙ by_debt (λ (f : Core → Core). with_frame words (f c) ≡ f (with_frame words c)) w.tail refl (λ t e. refl)

    fills : AreFillings s words
    fills =
        subst (λ (k : Core). AreFillings (with_core s k) words) (sym w.owed)
        (by_debt (λ (f : Core → Core). AreFillings (with_core s (f c)) words) w.tail filled
        (λ t e. record { long = filled.long; settled = filled.settled }))

    where_then : IsWhere img target p ceiling called (moment_after img s (Fills words)) n
    where_then =
        subst (λ (k : Core). IsWhere img target p ceiling called (with_core s k) n) (sym filled_paid)
        (is_where_on img target p there ceiling called called s m n w (λ jobs. jobs) w.tail w.of_timer
        (with_frame words c) s.last now.0
        (fresh_then (with_frame words c) s.last _ now settled)
        (meanwhile own (with_frame words c) _ now (unchanged own (with_frame words c) refl refl refl))
        (seen_above own (with_frame words c) _ now (private_keeps_above at y.floor w.top m n y.unseen))
        (private_keeps_outside at bottom y.floor w.top m n y.deep high y.unseen)
        (words_stay_in_private at img pl p executed y.floor w.top m n there.has exec y.unseen w.words) placed refl refl
        refl refl w.alarm)

    pub silence_leads_on : LeadsOn img target p ceiling called fits s m n
    silence_leads_on =
        let marked = marks_are_done img target p there ceiling called (λ more. fits (Fills words ∷ more))
        (moment_after img s (Fills words)) n (λ more can f. stays (Fills words ∷ more) (fills, can) f) where_then in
        record {
          happened = Fills words ∷ marked.happened;
          can = (fills, marked.can);
          arrivals = marked.arrivals;
          few = omega (arith, marked.few);
          words = (tt, marked.words m);
          seen = ap (compared (timer_irq img.code)) (ap (λ (x : Machine). x.seen) y.unseen.rest
              ∙ sym (ap (λ (xs : List Seen). reverse xs ++ m.seen) marked.seen));
          ticks = ap (λ (x : Machine). x.is_pending systick) y.unseen.rest;
          time = marked.time;
          here = marked.here;
          marks = marked.marks;
        }

  -- a step of the core
  module _ (own : Alone) (quiet : IsQuiet img target p ceiling called s m w) (i : Instr)
      (st : StepsBy img i c (step img c).0 (step img c).1) (stays_here : StaysInContext i) (core : Core)
      (loosely : IsLoosely img c (step img c).0 core)
      (y : IsOneStep at bottom img pl p c w.top m n core (step img c).1) where
    abbrev d : Core
    d = (step img c).0

    abbrev said : Option What
    said = (step img c).1

    abbrev frame : List ℕ
    frame = core.processor.slots

    at_it : instruction_at img c ≡ Some i
    at_it = ap (option_map (λ l. l.0)) st.line

    abbrev last_now : Last
    last_now = last_after img (Some i)

    shape : KeepsShape i c d
    shape = step_keeps_shape img i c d said stays_here st

    abbrev next : Moment
    next = record { core = paid w.tail d; last = last_now; takings = s.takings }

    next_is : moment_after img s (Comes Step) ≡ next
    next_is =
        moment_same img target p ceiling called s m w quiet
        ∙ ap (λ (z : Moment). with_core z (paid w.tail z.core))
        (moment_is img (with_core s c) i stays_here st.takes_none at_it)

    stepped : Kept (settled_words last_now (length frame)) (with_frame frame d)
    stepped =
        subst (Kept (settled_words last_now (length frame))) loosely.core (
          y.phase,
          subst (λ (o : Option Instr). IsNew at bottom img pl p core w.top n
              (settled_words (last_after img o) (length frame)) y.phase) at_it y.fresh,
        )

    low_now : bottom ≤ n.register 13
    low_now =
        (phases_are_within_frames at bottom img pl p (with_frame frame d) w.top n
        (subst (IsLaidOut at bottom) (sym shape.cells) laid) there.has.port stepped.0).low

    fills_unpaid : AreFillings (with_core next d) frame
    fills_unpaid = record {
      long = loosely.long;
      settled = λ k l. loosely.words k (subst (λ (o : Option Instr). k < settled_words (last_after img o)
          (length d.processor.slots)) (sym at_it) l);
    }

    fills_next : AreFillings next frame
    fills_next =
        by_debt (λ (f : Core → Core). AreFillings (with_core next (f d)) frame) w.tail fills_unpaid
        (λ t e. record { long = fills_unpaid.long; settled = fills_unpaid.settled })

    fills_then : AreFillings (moment_after img s (Comes Step)) frame
    fills_then = subst (λ (z : Moment). AreFillings z frame) (sym next_is) fills_next

    stepped_paid : with_frame frame (paid w.tail d) ≡ paid w.tail (with_frame frame d)
    stepped_paid =
        by_debt (λ (f : Core → Core). with_frame frame (f d) ≡ f (with_frame frame d)) w.tail refl (λ t e. refl)

    kept_tail : KeepsTail w.tail w.tail c (with_frame frame d)
    kept_tail =
        tail_untouched w.tail c (with_frame frame d) (owing img target p ceiling called s m w) shape.time
        (for_some w.tail (λ t. (d.alarm ≡ c.alarm)
        × (slice_index_or c.pending t.irq false ≡ true → slice_index_or d.pending t.irq false ≡ true)) (λ t e.
        (shape.untouched (subst SetsNoAlarm at_it (quiet t e st.takes_none)), shape.asked t.irq)))

    where_stepped : IsWhere img target p ceiling called (moment_after img (moment_after img s (Comes Step))
        (Fills frame)) n
    where_stepped =
        subst (λ (z : Moment). IsWhere img target p ceiling called (with_core z (with_frame frame z.core)) n)
        (sym next_is)
        (subst (λ (k : Core). IsWhere img target p ceiling called (with_core next k) n) (sym stepped_paid)
        (is_where_on img target p there ceiling called called s m n w (λ jobs. jobs) w.tail w.of_timer
        (with_frame frame d) last_now stepped.0
        (fresh_then (with_frame frame d) last_now _ stepped (omega arith))
        (meanwhile own (with_frame frame d) _ stepped kept_tail)
        (seen_above own (with_frame frame d) _ stepped (steps_keep_above at w.top said m n y.others))
        (steps_keep_outside at bottom w.top said m n low low_now y.others)
        (words_stay_in_steps at img pl p executed w.top said m n there.has exec y.others w.words) placed shape.below
        shape.cells shape.requests shape.stopped (alarm_then img c d w.alarm shape.alarm)))

    pub step_leads_on : LeadsOn img target p ceiling called fits s m n
    step_leads_on =
        let s1 = moment_after img s (Comes Step) in
        let marked = marks_are_done img target p there ceiling called (λ more. fits (Comes Step ∷ Fills frame ∷ more))
        (moment_after img s1 (Fills frame)) n
        (λ more can f. stays (Comes Step ∷ Fills frame ∷ more) (tt, (fills_then, can)) f) where_stepped in
        record {
          happened = Comes Step ∷ Fills frame ∷ marked.happened;
          can = (tt, (fills_then, marked.can));
          arrivals = marked.arrivals;
          few = omega (arith, marked.few);
          words = (tt, (tt, marked.words m));
          seen = ap (compared (timer_irq img.code)) (y.others.seen
              ∙ sym (ap (λ (xs : List Seen). reverse xs ++ m.seen)
              (step_seen img s (Fills frame ∷ marked.happened)
              ∙ (ap (λ (xs : List Seen). xs ++ flat_map seen_of_label
              (shown img (moment_after img s (Comes Step)) (Fills frame ∷ marked.happened)))
              (ap (λ (x : Core × Option What). seen_of_label (Stepped x.1))
              (step_same img target p ceiling called s m w quiet) ∙ step_shows img i c d said stays_here st)
              ∙ ap (λ (xs : List Seen). seen_of said ++ xs) marked.seen))
              ∙ ap (λ (xs : List Seen). xs ++ m.seen) (one_seen said)));
          ticks = y.others.tick;
          time = marked.time ∙ (ap (λ (z : Moment). z.core.time) next_is ∙ ((paid_same w.tail d).time ∙ (shape.time
              ∙ sym (parts_same img target p ceiling called s m w).time)));
          here = marked.here;
          marks = marked.marks;
        }

  -- an input is read
  module _ (own : Alone) (x : IsReading at bottom img pl p c w.top m)
      (read : HasJustRead (read_at x.stage x.input x.value) s.last) (all : x.declared ≡ target.inputs) where
    goes : ReadingGoes at bottom img pl p c w.top x.stage x.input x.value x.declared m n
    goes = reading_goes_on at bottom img pl p c w.top m n executed there.has x exec

    first : IsTaken s.last
    first = taken_of (read_at x.stage x.input x.value) s.last read

    settled_first : (words : ℕ) → settled_words s.last words ≤ 0
    settled_first words = none_settled s.last words first

    -- which handler has begun
    begun_by : (tail : Option Debt) (takings : List Taking) (below : List Context)
        → Waiting at bottom (stack_top img target) ceiling target.inputs
        (calls_of target called) img pl p tail takings below c
        w.top m
        → HasBegun x.input.irq below s.last
    begun_by tail [] [] jobs = absurd (omega (arith, jobs.1, x.exception))
    begun_by tail [] (context ∷ below) jobs = absurd jobs
    begun_by tail (taking ∷ takings) [] jobs = absurd jobs
    begun_by tail (taking ∷ takings) (context ∷ below) jobs =
        begun_of x.input.irq context below s.last first (omega (arith, jobs.2, x.exception, x.among.0.1))

    begun : HasBegun x.input.irq s.core.below s.last
    begun =
        subst (λ (b : List Context). HasBegun x.input.irq b s.last)
        (sym (parts_same img target p ceiling called s m w).below)
        (begun_by (others_tail (Own c w.top m w.phase) w.tail) s.takings c.below
        (subst (λ (v : Machine). Waiting at bottom (stack_top img target) ceiling target.inputs (calls_of target called)
        img pl p (others_tail (Own c w.top m w.phase) w.tail) s.takings c.below c w.top v) own.view w.waiting))

    among : IsIn target.inputs x.input
    among = subst (λ (is : List Input). IsIn is x.input) all x.among.0.0

    -- the core goes on to another, which has as many cells, and has done this last
    module _ (last : Last) (d : Core) (phase : Phase at bottom img pl p d w.top n)
        (fresh : IsFresh at bottom (stack_top img target) ceiling target.inputs
        (calls_of target called) img pl p w.tail last d w.top n phase)
        (no_tail : Own d w.top n phase ≡ None) (seen_as : View d n phase ≡ n) (below : d.below ≡ c.below)
        (as_many : length d.processor.cells ≡ length c.processor.cells) (pending : d.pending ≡ c.pending)
        (stopped : d.stopped ≡ c.stopped) (time : d.time ≡ c.time) (alarm : d.alarm ≡ c.alarm) where
      low_then : bottom ≤ n.register 13
      low_then =
          (phases_are_within_frames at bottom img pl p d w.top n (subst (IsLaidOut at bottom) (sym as_many) laid)
          there.has.port phase).low

      where_read : IsWhere img target p ceiling called
          (record { core = paid w.tail d; last = last; takings = s.takings }) n
      where_read =
          is_where_on img target p there ceiling called called s m n w
          (λ jobs. jobs) w.tail w.of_timer d last phase fresh
          (in_no_tail (Own c w.top m w.phase) (Own d w.top n phase) w.tail c d own.tail no_tail
          (unchanged own d time alarm pending))
          (view_above at w.top m n (View c m w.phase) (View d n phase) own.view seen_as
          (steps_keep_above at w.top None m n goes.others))
          (steps_keep_outside at bottom w.top None m n low low_then goes.others)
          (words_stay_in_steps at img pl p executed w.top None m n there.has exec goes.others w.words) placed below
          as_many (ap (length {A = Bool}) pending) stopped (alarm_then img c d w.alarm (inl alarm))

    abbrev Known : Type 0
    Known = List Input × Option (Input × ℕ)

    -- nothing to the core
    reads_on : (again : IsReading at bottom img pl p c w.top n)
        → reads_of at bottom img pl p c w.top n again ≡ (x.declared, read_at x.stage x.input x.value)
        → LeadsOn img target p ceiling called fits s m n
    reads_on again same =
        let here = subst (λ (k : Core). IsWhere img target p ceiling called (with_core s k) n) (sym w.owed)
        (where_read s.last c (Reads again) (
          settled_first (length c.processor.slots),
          (
            subst (λ (r : Option (Input × ℕ)). HasJustRead r s.last) (sym (ap (λ (r : Known). r.1) same)) read,
            ap (λ (r : Known). r.0) same ∙ all,
          ),
          tt,
          tt,
        ) refl refl refl refl refl refl refl refl) in
        let marked = marks_are_done img target p there ceiling called fits s n stays here in
        record {
          happened = marked.happened;
          can = marked.can;
          arrivals = marked.arrivals;
          few = omega (arith, marked.few);
          words = marked.words m;
          seen = ap (compared (timer_irq img.code))
              (goes.others.seen ∙ sym (ap (λ (xs : List Seen). reverse xs ++ m.seen) marked.seen));
          ticks = goes.others.tick;
          time = marked.time;
          here = marked.here;
          marks = marked.marks;
        }

    -- the register is read
    loads : x.stage ≡ AtLoad → (again : IsReading at bottom img pl p c w.top n)
        → reads_of at bottom img pl p c w.top n again ≡ (x.declared, Some (x.input, word_at m x.input.address))
        → LeadsOn img target p ceiling called fits s m n
    loads stage again same =
        let v = word_at m x.input.address in
        let can : CanRead target.inputs s x.input v = record {
          among = among;
          begun = begun;
          small = w.words.memory (x.input.address / 4);
        } in
        let last = HasRead x.input v in
        let here = subst (λ (k : Core). IsWhere img target p ceiling called
        (record { core = k; last = last; takings = s.takings }) n) (sym w.owed)
        (where_read last c (Reads again) (
          none_settled last (length c.processor.slots) tt,
          (
            subst (λ (r : Option (Input × ℕ)). HasJustRead r last) (sym (ap (λ (r : Known). r.1) same)) refl,
            ap (λ (r : Known). r.0) same ∙ all,
          ),
          tt,
          tt,
        ) refl refl refl refl refl refl refl refl) in
        let marked = marks_are_done img target p there ceiling called (λ more. fits (Loads x.input v ∷ more))
        (moment_after img s (Loads x.input v)) n
        (λ more ok f. stays (Loads x.input v ∷ more) (can, ok) f) here in
        record {
          happened = Loads x.input v ∷ marked.happened;
          can = (can, marked.can);
          arrivals = marked.arrivals;
          few = omega (arith, marked.few);
          words = ((goes.loads stage, refl), marked.words m);
          seen = ap (compared (timer_irq img.code))
              (goes.others.seen ∙ sym (ap (λ (xs : List Seen). reverse xs ++ m.seen) marked.seen));
          ticks = goes.others.tick;
          time = marked.time;
          here = marked.here;
          marks = marked.marks;
        }

    abbrev put : Core
    put = core_after_word c x.input.cell x.value

    phase_of : IsAtInputs at bottom img pl p x.declared put w.top n
        → (phase : Phase at bottom img pl p put w.top n)
        × IsFresh at bottom (stack_top img target) ceiling target.inputs
        (calls_of target called) img pl p w.tail s.last put w.top n phase
        × (Own put w.top n phase ≡ None) × (View put n phase ≡ n)
    phase_of (ReadsMore y same) = (
      Reads y,
      (
        settled_first (length put.processor.slots),
        (
          subst (λ (r : Option (Input × ℕ)). HasJustRead r s.last) (sym (ap (λ (r : Known). r.1) same)) first,
          ap (λ (r : Known). r.0) same ∙ all,
        ),
        tt,
        tt,
      ),
      refl,
      refl,
    )
    phase_of (Enters y) = (Entering y, (settled_first (length put.processor.slots), tt, tt, tt), refl, refl)

    put_paid : core_after_word s.core x.input.cell x.value ≡ paid w.tail put
    put_paid =
        ap (λ (k : Core). core_after_word k x.input.cell x.value) w.owed
        ∙ by_debt (λ (f : Core → Core). core_after_word (f c) x.input.cell x.value ≡ f put) w.tail refl (λ t e. refl)

    -- a word comes into a cell
    puts : IsAtInputs at bottom img pl p x.declared put w.top n → x.value < 2 ^ 32
        → read_at x.stage x.input x.value ≡ Some (x.input, x.value) → LeadsOn img target p ceiling called fits s m n
    puts at_inputs small was_read =
        let can : IsPut target.inputs s x.input.cell x.value = record {
          input = x.input;
          among = among;
          for_cell = refl;
          begun = begun;
          small = small;
        } in
        let last_is : s.last ≡ HasRead x.input x.value =
        subst (λ (r : Option (Input × ℕ)). HasJustRead r s.last) was_read read in
        let f = phase_of at_inputs in
        let here = subst (λ (k : Core). IsWhere img target p ceiling called (with_core s k) n) (sym put_paid)
        (where_read s.last put f.0 f.1 f.2 f.3 refl (length-set c.processor.cells x.input.cell x.value) refl refl refl
        refl) in
        let marked = marks_are_done img target p there ceiling called (λ more. fits (Puts x.input.cell x.value ∷ more))
        (moment_after img s (Puts x.input.cell x.value)) n
        (λ more ok f. stays (Puts x.input.cell x.value ∷ more) (can, ok) f) here in
        record {
          happened = Puts x.input.cell x.value ∷ marked.happened;
          can = (can, marked.can);
          arrivals = marked.arrivals;
          few = omega (arith, marked.few);
          words = (
            subst (λ (l : Last). IsWhatWasRead l x.input.cell x.value) (sym last_is) (refl, refl),
            marked.words m,
          );
          seen = ap (compared (timer_irq img.code))
              (goes.others.seen ∙ sym (ap (λ (xs : List Seen). reverse xs ++ m.seen) marked.seen));
          ticks = goes.others.tick;
          time = marked.time;
          here = marked.here;
          marks = marked.marks;
        }

    -- but for the load, what has been read stays
    abbrev known : Option (Input × ℕ) → Known
    known r = (x.declared, r)

    unread : (stage : Reading) → x.stage ≡ stage
        → read_behind stage x.input x.value m ≡ read_at stage x.input x.value
        → known (read_behind x.stage x.input x.value m) ≡ known (read_at x.stage x.input x.value)
    unread stage e same =
        ap (λ (y : Reading). known (read_behind y x.input x.value m)) e
        ∙ (ap known same ∙ sym (ap (λ (y : Reading). known (read_at y x.input x.value)) e))

    pub reading_leads_on : LeadsOn img target p ceiling called fits s m n
    reading_leads_on = by_case goes.phase
      where
        goes_on : (again : IsReading at bottom img pl p c w.top n)
            → reads_of at bottom img pl p c w.top n again ≡ (x.declared, read_behind x.stage x.input x.value m)
            → (stage : Reading) → x.stage ≡ stage → LeadsOn img target p ceiling called fits s m n
        goes_on again same AtLoad e =
            loads e again (same ∙ ap (λ (y : Reading). (x.declared, read_behind y x.input x.value m)) e)
        goes_on again same AtLow e = reads_on again (same ∙ unread AtLow e refl)
        goes_on again same AtTop e = reads_on again (same ∙ unread AtTop e refl)
        goes_on again same AtCellLow e = reads_on again (same ∙ unread AtCellLow e refl)
        goes_on again same AtCellTop e = reads_on again (same ∙ unread AtCellTop e refl)
        goes_on again same AtStore e = reads_on again (same ∙ unread AtStore e refl)

        by_case : ((again : IsReading at bottom img pl p c w.top n)
            × (reads_of at bottom img pl p c w.top n again ≡ (x.declared, read_behind x.stage x.input x.value m)))
            ⊎ (IsAtInputs at bottom img pl p x.declared put w.top n × (x.value < 2 ^ 32)
            × (read_at x.stage x.input x.value ≡ Some (x.input, x.value)))
            → LeadsOn img target p ceiling called fits s m n
        by_case (inl y) = goes_on y.0 y.1 x.stage refl
        by_case (inr y) = puts y.0 y.1 y.2
