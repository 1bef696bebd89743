-- What a line does when more serves: a weaker wish for what comes later, code that stands elsewhere, and other `lefts`.
-- R says which `lefts` may stand for which; it holds of what opening and leaving a section make of them.
use Rattle.std.proofs.Common.{ℕ, ◌-◌, Bool, List, ◌∷◌, drop, Option, Some, None}
use Rattle.rt_actions.specs.Action.{Action, effect}
use Rattle.rt_actions.specs.Storage.{Storage, Runner}
use Rattle.rt_ids.specs.declared.ids.BodyId.{BodyId}
use Rattle.rt_ids.specs.declared.ids.BodyId.TheVariants as body
use Rattle.rt_ids.specs.declared.ids.Section.{Section}
use Rattle.rt_code.specs.Owning.{Configuration}
use Rattle.rt_code.specs.Acting.{Acts, SetsTheAlarm, Noted}
use Rattle.rt_code.specs.Masking.{EntersSection, LeavesSection}
use Rattle.rt_code.specs.Processor.{Effect, Traps, Leads}
use Rattle.rt_code.specs.Standing.{Finishes, Calls, ComesBack, EndsBody, Asks, Goes, Does, Fits, LineFits}
use Rattle.rt_code.specs.Standing.{configuration_after}
use Rattle.rt_code.specs.declared.image.BodyRow.{BodyRow}
use Rattle.rt_code.specs.declared.instr.Instr.{Instr}
use Rattle.rt_code.specs.declared.instr.Note.{Note}
use Rattle.rt_code.specs.declared.instr.Note.TheVariants as note
use Rattle.rt_code.specs.declared.processor.Request.{Request}
use Rattle.rt_code.specs.declared.processor.Request.TheVariants as request

-- which `lefts` may stand for which
pub record Serves (R : List ℕ → List ℕ → Type 0) : Type 0 where
  pub more : (n : ℕ) (ls ms : List ℕ) → R ls ms → R (n ∷ ls) (n ∷ ms)
  pub fewer : (ls ms : List ℕ) → R ls ms → R (drop 1 ls) (drop 1 ms)

-- what held of a place holds of it with other `lefts`
abbrev pub Carries : (List ℕ → List ℕ → Type 0) → (Configuration → Type 0) → (Configuration → Type 0) → Type 0
Carries R later other = (s : Configuration) (lefts : List ℕ) → R s.lefts lefts → later s
    → other (record s { lefts = lefts })

module _ (st : Storage) (bodies : List BodyRow) (who : Runner) (R : List ℕ → List ℕ → Type 0) (serves : Serves R)
    (later other : Configuration → Type 0) (carry : Carries R later other) where
  pub acts_later : (action : Action) (answer : ℕ) (s : Configuration) (lefts : List ℕ) → R s.lefts lefts
      → Acts st bodies who action answer s later → Acts st bodies who action answer (record s { lefts = lefts }) other
  acts_later action answer s lefts r a = record {
    values = a.values;
    follows = a.follows;
    is = a.is;
    on = λ vs same. carry (record s { rest = a.follows answer (effect action vs) }) lefts r (a.on vs same);
  }

  pub alarm_later : (instant : Option ℕ) (s : Configuration) (lefts : List ℕ) → R s.lefts lefts
      → SetsTheAlarm st bodies who instant s later → SetsTheAlarm st bodies who instant (record s { lefts = lefts })
      other
  unfolding acts_later
  alarm_later instant s lefts r a = record {
    acts = acts_later _ 0 s lefts r a.acts;
    inside = a.inside;
    least =
        a.least;
  }

  pub noted_later : (told : Note) (s : Configuration) (lefts : List ℕ) → R s.lefts lefts
      → Noted st bodies who told s later
      → Noted st bodies who told (record s { lefts = lefts }) other
  noted_later (note.Placed t) s lefts r a = record {
    entry = a.entry;
    others = a.others;
    inside = a.inside;
    first = a.first;
    of_task = a.of_task;
    acts = acts_later _ 0 _ lefts r a.acts;
  }
  noted_later (note.Full t) s lefts r a = record { inside = a.inside; acts = acts_later _ 0 _ lefts r a.acts }
  noted_later (note.Ready t) s lefts r a = record {
    level = a.level;
    message = a.message;
    entry = a.entry;
    others = a.others;
    inside = a.inside;
    in_hands = a.in_hands;
    of_task = a.of_task;
    acts = acts_later _ 0 _ lefts r a.acts;
  }
  noted_later (note.Start t from) s lefts r a = record {
    level = a.level;
    message = a.message;
    entry = a.entry;
    others = a.others;
    inside = a.inside;
    first = a.first;
    of_task = a.of_task;
    fits = a.fits;
    shown = a.shown;
    acts = acts_later _ 0 _ lefts r a.acts;
  }
  noted_later (note.Free t) s lefts r a = record {
    entry = a.entry;
    others = a.others;
    inside = a.inside;
    in_hands = a.in_hands;
    of_task = a.of_task;
    acts = acts_later _ 0 _ lefts r a.acts;
  }
  noted_later (note.Arm t slot) s lefts r a = record {
    instant = a.instant;
    message = a.message;
    entry = a.entry;
    others = a.others;
    inside = a.inside;
    in_hands = a.in_hands;
    of_task = a.of_task;
    shown = a.shown;
    acts = acts_later _ 0 _ lefts r a.acts;
  }
  noted_later (note.Fire t) s lefts r a = record {
    message = a.message;
    entry = a.entry;
    before = a.before;
    behind = a.behind;
    inside = a.inside;
    stands = a.stands;
    of_task = a.of_task;
    acts = acts_later _ 0 _ lefts r a.acts;
  }
  noted_later (note.Cancel t slot) s lefts r a = record {
    handle = a.handle;
    entry = a.entry;
    before = a.before;
    behind = a.behind;
    inside = a.inside;
    stands = a.stands;
    of_task = a.of_task;
    shown = a.shown;
    acts = acts_later _ 0 _ lefts r a.acts;
  }
  noted_later (note.Move t slot from) s lefts r a = record {
    handle = a.handle;
    instant = a.instant;
    entry = a.entry;
    before = a.before;
    behind = a.behind;
    inside = a.inside;
    stands = a.stands;
    of_task = a.of_task;
    shown = a.shown;
    put_off = a.put_off;
    acts = acts_later _ 0 _ lefts r a.acts;
  }
  noted_later told s lefts r a = absurd a

  pub enters_later : (x : Section) (i : Instr) (s : Configuration) (lefts : List ℕ) → R s.lefts lefts
      → EntersSection st who x i s later
      → EntersSection st who x i (record s { lefts = lefts }) other
  enters_later x i s lefts r g = record {
    cost = g.cost;
    values = g.values;
    follows = g.follows;
    is = g.is;
    kind = g.kind;
    mask = g.mask;
    opens = g.opens;
    slot = g.slot;
    within = g.within;
    once = g.once;
    shared = g.shared;
    on = λ saved vs cells queues over. carry _ ((g.cost - 1) ∷ lefts) (serves.more (g.cost - 1) s.lefts lefts r)
        (g.on saved vs cells queues (record {
          agree = over.agree;
          same = record { long = over.same.long; touched = over.same.touched; queued = over.same.queued };
          represented = over.represented;
          once = over.once;
          few = over.few;
        }));
  }

  pub leaves_later : (x : Section) (i : Instr) (s : Configuration) (lefts : List ℕ) → R s.lefts lefts
      → LeavesSection st who x i s later → LeavesSection st who x i (record s { lefts = lefts }) other
  leaves_later x i s lefts r g = record {
    values = g.values;
    follows = g.follows;
    is = g.is;
    kind = g.kind;
    outer = g.outer;
    innermost = g.innermost;
    closes = g.closes;
    represented = g.represented;
    on = λ vs same. carry _ (drop 1 lefts) (serves.fewer s.lefts lefts r) (g.on vs same);
  }

  -- the code that a line stands in is not read by the line
  module _ (code more : List (Instr × Option Note)) (thread : ℕ) where
    pub finishes_later : (action : Action) (s : Configuration) (lefts : List ℕ)
        → Finishes st code bodies thread who action s
        → Finishes st more bodies thread who action (record s { lefts = lefts })
    finishes_later action s lefts f = record {
      values = f.values;
      follows = f.follows;
      is = f.is;
      closed = f.closed;
      empty = f.empty;
      own_frame = f.own_frame;
      represented = f.represented;
    }

    pub calls_later : (row from : ℕ) (s : Configuration) (lefts : List ℕ) → R s.lefts lefts
        → Calls st code bodies thread who row from s later → Calls st more bodies thread who row from
        (record s { lefts = lefts }) other
    calls_later row from s lefts r c = record {
      called = c.called;
      is_there = c.is_there;
      closed = c.closed;
      may_call = c.may_call;
      fits = c.fits;
      on = λ slots alike. carry _ lefts r (c.on slots alike);
    }

    pub back_later : (t : ℕ) (s : Configuration) (lefts : List ℕ) → R s.lefts lefts
        → ComesBack st code bodies thread who t s later → ComesBack st more bodies thread who t
        (record s { lefts = lefts }) other
    back_later t s lefts r c = record {
      frame = c.frame;
      caller = c.caller;
      closed = c.closed;
      acts = λ slots alike. acts_later _ 0 _ lefts r (c.acts slots alike);
    }

    pub ends_later : (b : BodyId) (i : Instr) (s : Configuration) (lefts : List ℕ) → R s.lefts lefts
        → EndsBody st code bodies thread who b i s later → EndsBody st more bodies thread who b i
        (record s { lefts = lefts }) other
    ends_later body.Init i s lefts r (serve, starts, on, f) = (serve, starts, on, finishes_later _ s lefts f)
    ends_later body.Idle i s lefts r (jump, idle, f) = (jump, idle, finishes_later _ s lefts f)
    ends_later (body.Task t) i s lefts r (back, c) = (back, back_later t s lefts r c)

    pub asks_later : (asked : Request) (told : Option Note) (s : Configuration) (lefts : List ℕ) → R s.lefts lefts
        → Asks st code bodies thread who asked told s later → Asks st more bodies thread who asked told
        (record s { lefts = lefts }) other
    asks_later request.Nothing None s lefts r a = carry s lefts r a
    asks_later request.Nothing (Some told) s lefts r a = noted_later told s lefts r a
    asks_later (request.Emit value) None s lefts r a = acts_later _ 0 s lefts r a
    asks_later (request.Post irq) None s lefts r a = acts_later _ 0 s lefts r a
    asks_later (request.Clock time) None s lefts r a = acts_later _ time s lefts r a
    asks_later (request.Alarm instant irq) None s lefts r (timer, a) = (timer, alarm_later _ s lefts r a)
    asks_later request.NoAlarm None s lefts r a = alarm_later _ s lefts r a
    asks_later (request.Call row from) None s lefts r a = calls_later row from s lefts r a
    asks_later request.Return None s lefts r a = finishes_later _ s lefts a
    asks_later request.Back None s lefts r a = absurd a
    asks_later asked (Some told) s lefts r a = absurd a

    pub goes_later : (told : Option Note) (basepri : ℕ) (primask : Bool) (e : Effect) (s : Configuration)
        (lefts : List ℕ)
        → R s.lefts lefts
        → Goes st code bodies thread who told basepri primask s later e
        → Goes st more bodies thread who told basepri primask (record s { lefts = lefts }) other e
    goes_later told basepri primask (Traps t) s lefts r g = g
    goes_later told basepri primask (Leads p asked) s lefts r (base, mask, saved, a) =
        (base, mask, saved, asks_later asked told (configuration_after s p) lefts r a)

    pub does_later : (i : Instr) (told : Option Note) (s : Configuration) (lefts : List ℕ) → R s.lefts lefts
        → Does st code bodies thread who i told s later → Does st more bodies thread who i told
        (record s { lefts = lefts }) other
    does_later i told s lefts r d = record {
      touches = d.touches;
      goes = λ time basepri primask early. goes_later told basepri primask _ s lefts r
          (d.goes time basepri primask early);
    }

    pub fits_later : (i : Instr) (told : Option Note) (s : Configuration) (lefts : List ℕ) → R s.lefts lefts
        → Fits st code bodies thread who i told s later → Fits st more bodies thread who i told
        (record s { lefts = lefts }) other
    fits_later i (Some (note.Enter x)) s lefts r f = enters_later x i s lefts r f
    fits_later i (Some (note.Leave x)) s lefts r f = leaves_later x i s lefts r f
    fits_later i (Some (note.End b)) s lefts r f = ends_later b i s lefts r f
    fits_later i told s lefts r f = does_later i told s lefts r f

    pub line_later : (line : Option (Instr × Option Note)) (s : Configuration) (lefts : List ℕ) → R s.lefts lefts
        → LineFits st code bodies thread who line s later → LineFits st more bodies thread who line
        (record s { lefts = lefts }) other
    line_later None s lefts r f = f
    line_later (Some line) s lefts r f = fits_later line.0 line.1 s lefts r f
