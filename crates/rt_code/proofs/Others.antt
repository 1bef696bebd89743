-- Code that stands, stands whatever others do to what is not the job's own: each clause of standing goes by the job's
-- own alone.
use Rattle.std.proofs.Common.{◌≡◌, ℕ, zero, suc, ◌+◌, ◌<◌, Bool, true, false, List, [], ◌∷◌, ◌++◌, drop, slice_get}
use Rattle.std.proofs.Common.{Option, Some, None, sym, ap, subst, ◌∙◌, arith}
use Rattle.std.proofs.lemmas.Bool.{or_left, false≢true}
use Rattle.rt_actions.specs.Action.{Action, effect}
use Rattle.rt_actions.specs.Entry.{Entry, count}
use Rattle.rt_actions.specs.Location.{Location, Guarded, is_same_section}
use Rattle.rt_actions.specs.Storage.{Storage, Runner}
use Rattle.rt_ids.specs.declared.ids.BodyId.{BodyId}
use Rattle.rt_ids.specs.declared.ids.BodyId.TheVariants as body
use Rattle.rt_ids.specs.declared.ids.Section.{Section}
use Rattle.rt_ids.specs.declared.ids.Section.TheVariants as section
use Rattle.rt_code.specs.Access.{access_of}
use Rattle.rt_code.specs.Acting.{Acts, SetsTheAlarm, Noted, with_queue}
use Rattle.rt_code.specs.Effect as instruction
use Rattle.rt_code.specs.Masking.{EntersSection, LeavesSection}
use Rattle.rt_code.specs.Owning.{Configuration, is_open, MayAccess, LeavesMine}
use Rattle.rt_code.specs.Processor.{Processor, Effect, Traps, Leads}
use Rattle.rt_code.specs.Standing.{Finishes, Calls, ComesBack, EndsBody, Asks, Goes, Does, Fits, LineFits, Stands}
use Rattle.rt_code.specs.Standing.{configuration_after, spend_step, processor_of}
use Rattle.rt_code.specs.StandingLaws.{RepresentsByItsOwn, StandsWhateverOthersDo}
use Rattle.rt_code.specs.declared.image.BodyRow.{BodyRow}
use Rattle.rt_code.specs.declared.instr.Instr.{Instr}
use Rattle.rt_code.specs.declared.instr.Note.{Note}
use Rattle.rt_code.specs.declared.instr.Note.TheVariants as note
use Rattle.rt_code.specs.declared.processor.Request.{Request}
use Rattle.rt_code.specs.declared.processor.Request.TheVariants as request
use Rattle.rt_code.proofs.Mine.{same_section, queue_counts, owns_open, owns_kept}
use Rattle.rt_code.proofs.Left.{queue_left, leaves_moved, leaves_twice, leaves_outer, represents_left}
use Rattle.rt_code.proofs.Left.{taken, put_last, put_first, taken_out, put_behind}
use Rattle.rt_code.proofs.LeftDone.{SameDone, same_done, access_left}
use Rattle.rt_code.proofs.Standing.{stands_step, stands_left, stands_fits, stands_none}
use Rattle.rt_code.proofs.Touching.{with_memory, access_same}

-- what holds of a place holds of it whatever others did to what is not the job's own
abbrev pub Keeps : Storage → Runner → (Configuration → Type 0) → Type 0
Keeps st who later = (s : Configuration) (cells : List ℕ) (queues : Location → List Entry)
    → LeavesMine st who s cells queues
    → later s → later (record s { cells = cells; queues = queues })

module _ (st : Storage) (by_own : RepresentsByItsOwn st) (bodies : List BodyRow) (who : Runner) (later : Configuration
    → Type 0)
    (keep : Keeps st who later) where
  pub acts_others : (action : Action) (answer : ℕ) (s : Configuration) (cells : List ℕ) (queues : Location → List Entry)
      → LeavesMine st who s cells queues
      → Acts st bodies who action answer s later → Acts st bodies who action answer
      (record s { cells = cells; queues = queues }) later
  acts_others action answer s cells queues over a = record {
    values = a.values;
    follows = a.follows;
    is = a.is;
    on = λ vs same. keep (record s { rest = a.follows answer (effect action vs) }) cells queues
        (record { long = over.long; touched = over.touched; queued = over.queued }) (a.on vs same);
  }

  pub alarm_others : (instant : Option ℕ) (s : Configuration) (cells : List ℕ) (queues : Location → List Entry)
      → LeavesMine st who s cells queues
      → SetsTheAlarm st bodies who instant s later → SetsTheAlarm st bodies who instant
      (record s { cells = cells; queues = queues }) later
  unfolding acts_others
  alarm_others instant s cells queues over a = record {
    acts = acts_others _ 0 s cells queues over a.acts;
    inside =
        a.inside;
    least = a.least;
  }

  -- an action that moves a place
  acts_moved : (action : Action) (s : Configuration) (cells : List ℕ) (queues : Location → List Entry) (x : Section)
      (places : List Entry) (change : List Entry → List Entry)
      → is_open s.held x ≡ true
      → ((e : Entry) → 0 < count e places + count e (change (s.queues (Guarded x))) → 0 < count e s.places
      + count e (s.queues (Guarded x)))
      → LeavesMine st who s cells queues
      → Acts st bodies who action 0 (record s {
        places = places;
        queues =
            with_queue s.queues x (change (s.queues (Guarded x)));
      }) later
      → Acts st bodies who action 0 (record s {
        cells = cells;
        places = places;
        queues =
            with_queue queues x (change (queues (Guarded x)));
      }) later
  acts_moved action s cells queues x places change inside before over a =
      subst (λ q. Acts st bodies who action 0 (record s {
        cells = cells;
        places = places;
        queues =
            with_queue queues x (change q);
      }) later)
      (sym (queue_left st who s cells queues x over inside))
      (acts_others action 0 (record s {
        places = places;
        queues = with_queue s.queues x (change (s.queues (Guarded x)));
      }) cells (with_queue queues x (change (s.queues (Guarded x))))
      (leaves_moved st who s cells queues x places (change (s.queues (Guarded x))) inside before over) a)

  pub noted_others : (told : Note) (s : Configuration) (cells : List ℕ) (queues : Location → List Entry)
      → LeavesMine st who s cells queues
      → Noted st bodies who told s later → Noted st bodies who told (record s { cells = cells; queues = queues }) later
  noted_others (note.Placed t) s cells queues over a = record {
    entry = a.entry;
    others = a.others;
    inside = a.inside;
    first = queue_left st who s cells queues (section.Free t) over a.inside ∙ a.first;
    of_task = a.of_task;
    acts = acts_moved _ s cells queues (section.Free t) (a.entry ∷ s.places) (λ q. a.others) a.inside
        (λ e some. taken e a.entry s.places a.others (s.queues (Guarded (section.Free t))) a.first some) over a.acts;
  }
  noted_others (note.Full t) s cells queues over a = record {
    inside = a.inside;
    acts =
        acts_others _ 0 s cells queues over a.acts;
  }
  noted_others (note.Ready t) s cells queues over a = record {
    level = a.level;
    message = a.message;
    entry = a.entry;
    others = a.others;
    inside = a.inside;
    in_hands = a.in_hands;
    of_task = a.of_task;
    acts = acts_moved _ s cells queues (section.Ready a.level) a.others (λ q. q ++ a.entry ∷ []) a.inside
        (λ e some. put_last e a.entry s.places a.others (s.queues (Guarded (section.Ready a.level))) a.in_hands some)
        over a.acts;
  }
  noted_others (note.Start t from) s cells queues over a = record {
    level = a.level;
    message = a.message;
    entry = a.entry;
    others = a.others;
    inside = a.inside;
    first = queue_left st who s cells queues (section.Ready a.level) over a.inside ∙ a.first;
    of_task = a.of_task;
    fits = a.fits;
    shown = a.shown;
    acts = acts_moved _ s cells queues (section.Ready a.level) (a.entry ∷ s.places) (λ q. a.others) a.inside
        (λ e some. taken e a.entry s.places a.others (s.queues (Guarded (section.Ready a.level))) a.first some) over
        a.acts;
  }
  noted_others (note.Free t) s cells queues over a = record {
    entry = a.entry;
    others = a.others;
    inside = a.inside;
    in_hands = a.in_hands;
    of_task = a.of_task;
    acts = acts_moved _ s cells queues (section.Free t) a.others (λ q. a.entry ∷ q) a.inside
        (λ e some. put_first e a.entry s.places a.others (s.queues (Guarded (section.Free t))) a.in_hands some) over
        a.acts;
  }
  noted_others (note.Arm t slot) s cells queues over a = record {
    instant = a.instant;
    message = a.message;
    entry = a.entry;
    others = a.others;
    inside = a.inside;
    in_hands = a.in_hands;
    of_task = a.of_task;
    shown = a.shown;
    acts = acts_moved _ s cells queues section.Timer a.others (λ q. q ++ a.entry ∷ []) a.inside
        (λ e some. put_last e a.entry s.places a.others (s.queues (Guarded section.Timer)) a.in_hands some) over a.acts;
  }
  noted_others (note.Fire t) s cells queues over a = record {
    message = a.message;
    entry = a.entry;
    before = a.before;
    behind = a.behind;
    inside = a.inside;
    stands = queue_left st who s cells queues section.Timer over a.inside ∙ a.stands;
    of_task = a.of_task;
    acts = acts_moved _ s cells queues section.Timer (a.entry ∷ s.places) (λ q. a.before ++ a.behind) a.inside
        (λ e some. taken_out e a.entry s.places a.before a.behind (s.queues (Guarded section.Timer)) a.stands some) over
        a.acts;
  }
  noted_others (note.Cancel t slot) s cells queues over a = record {
    handle = a.handle;
    entry = a.entry;
    before = a.before;
    behind = a.behind;
    inside = a.inside;
    stands = queue_left st who s cells queues section.Timer over a.inside ∙ a.stands;
    of_task = a.of_task;
    shown = a.shown;
    acts = acts_moved _ s cells queues section.Timer (a.entry ∷ s.places) (λ q. a.before ++ a.behind) a.inside
        (λ e some. taken_out e a.entry s.places a.before a.behind (s.queues (Guarded section.Timer)) a.stands some)
        over a.acts;
  }
  noted_others (note.Move t slot from) s cells queues over a = record {
    handle = a.handle;
    instant = a.instant;
    entry = a.entry;
    before = a.before;
    behind = a.behind;
    inside = a.inside;
    stands = queue_left st who s cells queues section.Timer over a.inside ∙ a.stands;
    of_task = a.of_task;
    shown = a.shown;
    put_off = a.put_off;
    acts = acts_moved _ s cells queues section.Timer s.places (λ q. a.before ++ (a.behind ++ a.entry ∷ [])) a.inside
        (λ e some. put_behind e a.entry s.places a.before a.behind (s.queues (Guarded section.Timer)) a.stands some)
        over a.acts;
  }
  noted_others told s cells queues over a = absurd a

  pub enters_others : (x : Section) (i : Instr) (s : Configuration) (cells : List ℕ) (queues : Location → List Entry)
      → LeavesMine st who s cells queues
      → EntersSection st who x i s later → EntersSection st who x i (record s { cells = cells; queues = queues }) later
  enters_others x i s cells queues over g = record {
    cost = g.cost;
    values = g.values;
    follows = g.follows;
    is = g.is;
    kind = g.kind;
    mask = g.mask;
    opens = g.opens;
    slot = g.slot;
    within = g.within;
    once = g.once;
    shared = g.shared;
    on = λ saved vs other others again. g.on saved vs other others (record {
      agree = again.agree;
      same = leaves_twice st who s cells other queues others over again.same;
      represented = again.represented;
      once = again.once;
      few = again.few;
    });
  }

  pub leaves_others : (x : Section) (i : Instr) (s : Configuration) (cells : List ℕ) (queues : Location → List Entry)
      → LeavesMine st who s cells queues
      → LeavesSection st who x i s later → LeavesSection st who x i (record s { cells = cells; queues = queues }) later
  leaves_others x i s cells queues over g =
      let inside : is_open s.held x ≡ true =
      subst (λ hs. is_open hs x ≡ true) (sym g.innermost)
      (or_left (is_same_section x x) (is_open g.outer x) (same_section x)) in record {
        values = g.values;
        follows = g.follows;
        is = g.is;
        kind = g.kind;
        outer = g.outer;
        innermost = g.innermost;
        closes = g.closes;
        represented = represents_left st who by_own s cells queues (Guarded x) (g.values (Guarded x)) over
            (owns_open st who s.held x inside)
            (λ e free some. let least = queue_counts s.queues e x s.held inside in omega arith) g.represented;
        on = λ vs same. keep (record s {
          held = g.outer;
          lefts = drop 1 s.lefts;
          address = suc s.address;
          rest =
              g.follows 0 vs;
        }) cells queues
            (let less = leaves_outer st who s _ g.outer cells queues g.innermost over in
            record { long = less.long; touched = less.touched; queued = less.queued })
            (g.on vs same);
      }

  module _ (code : List (Instr × Option Note)) (thread : ℕ) where
    pub finishes_others : (action : Action) (s : Configuration) (cells : List ℕ) (queues : Location → List Entry)
        → LeavesMine st who s cells queues
        → Finishes st code bodies thread who action s → Finishes st code bodies thread who action
        (record s { cells = cells; queues = queues })
    finishes_others action s cells queues over f = record {
      values = f.values;
      follows = f.follows;
      is = f.is;
      closed = f.closed;
      empty = f.empty;
      own_frame = f.own_frame;
      represented = λ h kept. represents_left st who by_own s cells queues h (f.values h) over
          (owns_kept st who s.held h kept)
          (λ e free some. absurd (false≢true (sym (free who) ∙ kept))) (f.represented h kept);
    }

    pub calls_others : (row from : ℕ) (s : Configuration) (cells : List ℕ) (queues : Location → List Entry)
        → LeavesMine st who s cells queues
        → Calls st code bodies thread who row from s later → Calls st code bodies thread who row from
        (record s { cells = cells; queues = queues }) later
    calls_others row from s cells queues over c = record {
      called = c.called;
      is_there = c.is_there;
      closed = c.closed;
      may_call = c.may_call;
      fits = c.fits;
      on = λ slots alike. keep _ cells queues
          (record { long = over.long; touched = over.touched; queued = over.queued }) (c.on slots alike);
    }

    pub back_others : (t : ℕ) (s : Configuration) (cells : List ℕ) (queues : Location → List Entry)
        → LeavesMine st who s cells queues
        → ComesBack st code bodies thread who t s later → ComesBack st code bodies thread who t
        (record s { cells = cells; queues = queues }) later
    back_others t s cells queues over c = record {
      frame = c.frame;
      caller = c.caller;
      closed = c.closed;
      acts = λ slots alike. acts_others _ 0 _ cells queues
          (record { long = over.long; touched = over.touched; queued = over.queued }) (c.acts slots alike);
    }

    pub ends_others : (b : BodyId) (i : Instr) (s : Configuration) (cells : List ℕ) (queues : Location → List Entry)
        → LeavesMine st who s cells queues
        → EndsBody st code bodies thread who b i s later → EndsBody st code bodies thread who b i
        (record s { cells = cells; queues = queues }) later
    ends_others body.Init i s cells queues over (serve, starts, on, f) =
        (serve, starts, on, finishes_others _ s cells queues over f)
    ends_others body.Idle i s cells queues over (jump, idle, f) = (jump, idle, finishes_others _ s cells queues over f)
    ends_others (body.Task t) i s cells queues over (back, c) = (back, back_others t s cells queues over c)

    pub asks_others : (asked : Request) (told : Option Note) (s : Configuration) (cells : List ℕ) (queues : Location
        → List Entry)
        → LeavesMine st who s cells queues
        → Asks st code bodies thread who asked told s later → Asks st code bodies thread who asked told
        (record s { cells = cells; queues = queues }) later
    asks_others request.Nothing None s cells queues over a = keep s cells queues over a
    asks_others request.Nothing (Some told) s cells queues over a = noted_others told s cells queues over a
    asks_others (request.Emit value) None s cells queues over a = acts_others _ 0 s cells queues over a
    asks_others (request.Post irq) None s cells queues over a = acts_others _ 0 s cells queues over a
    asks_others (request.Clock time) None s cells queues over a = acts_others _ time s cells queues over a
    asks_others (request.Alarm instant irq) None s cells queues over (timer, a) =
        (timer, alarm_others _ s cells queues over a)
    asks_others request.NoAlarm None s cells queues over a = alarm_others _ s cells queues over a
    asks_others (request.Call row from) None s cells queues over a = calls_others row from s cells queues over a
    asks_others request.Return None s cells queues over a = finishes_others _ s cells queues over a
    asks_others request.Back None s cells queues over a = absurd a
    asks_others asked (Some told) s cells queues over a = absurd a

    -- two processors that are the same but for their cells
    led_others : (told : Option Note) (basepri : ℕ) (primask : Bool) (s : Configuration) (cells : List ℕ)
        (queues : Location → List Entry) (p other : Processor) (asked : Request)
        → LeavesMine st who s cells queues → with_memory other [] ≡ with_memory p []
        → SameDone st who s cells (Leads p asked) (Leads other asked)
        → Goes st code bodies thread who told basepri primask s later (Leads p asked)
        → Goes st code bodies thread who told basepri primask (record s { cells = cells; queues = queues }) later
        (Leads other asked)
    led_others told basepri primask s cells queues p other asked over same done (base, mask, saved, a) =
        let is : with_memory p other.cells ≡ other = ap (λ q. with_memory q other.cells) (sym same) in
        subst (λ q. Goes st code bodies thread who told basepri primask (record s { cells = cells; queues = queues })
        later (Leads q asked)) is (
          base,
          mask,
          saved,
          asks_others asked told (configuration_after s p) other.cells queues
              (record { long = done.long; touched = done.touched; queued = over.queued }) a,
        )

    goes_others : (told : Option Note) (basepri : ℕ) (primask : Bool) (s : Configuration) (cells : List ℕ)
        (queues : Location → List Entry) (one other : Effect)
        → LeavesMine st who s cells queues → SameDone st who s cells one other
        → Goes st code bodies thread who told basepri primask s later one
        → Goes st code bodies thread who told basepri primask (record s { cells = cells; queues = queues }) later other
    goes_others told basepri primask s cells queues (Traps t) other over done g = absurd g
    goes_others told basepri primask s cells queues (Leads p asked) (Traps t) over done g =
        absurd (let e = done.alike in cc)
    goes_others told basepri primask s cells queues (Leads p asked) (Leads q also) over done g =
        let alike = done.alike in
        let same : with_memory q [] ≡ with_memory p [] = cc in
        let also_asked : also ≡ asked = cc in
        subst (λ a. Goes st code bodies thread who told basepri primask (record s { cells = cells; queues = queues })
        later (Leads q a)) (sym also_asked)
        (led_others told basepri primask s cells queues p q asked over same
        (subst (λ a. SameDone st who s cells (Leads p asked) (Leads q a)) also_asked done) g)

    does_others : (i : Instr) (told : Option Note) (s : Configuration) (cells : List ℕ) (queues : Location → List Entry)
        → LeavesMine st who s cells queues
        → Does st code bodies thread who i told s later → Does st code bodies thread who i told
        (record s { cells = cells; queues = queues }) later
    does_others i told s cells queues over d = record {
      touches = subst (λ a. MayAccess st who (record s { cells = cells; queues = queues }) a)
          (sym (access_same i (processor_of s 0 false) cells))
          (access_left st who s cells queues (access_of i (processor_of s 0 false)) over d.touches);
      goes = λ time basepri primask early. goes_others told basepri primask s cells queues
          (instruction.effect i time (processor_of s basepri primask)) _ over
          (same_done st who i time basepri primask s cells queues over d.touches) (d.goes time basepri primask early);
    }

    fits_others : (i : Instr) (told : Option Note) (s : Configuration) (cells : List ℕ) (queues : Location → List Entry)
        → LeavesMine st who s cells queues
        → Fits st code bodies thread who i told s later → Fits st code bodies thread who i told
        (record s { cells = cells; queues = queues }) later
    fits_others i (Some (note.Enter x)) s cells queues over f = enters_others x i s cells queues over f
    fits_others i (Some (note.Leave x)) s cells queues over f = leaves_others x i s cells queues over f
    fits_others i (Some (note.End b)) s cells queues over f = ends_others b i s cells queues over f
    fits_others i told s cells queues over f = does_others i told s cells queues over f

    pub line_others : (line : Option (Instr × Option Note)) (s : Configuration) (cells : List ℕ) (queues : Location
        → List Entry)
        → LeavesMine st who s cells queues
        → LineFits st code bodies thread who line s later → LineFits st code bodies thread who line
        (record s { cells = cells; queues = queues }) later
    line_others None s cells queues over f = f
    line_others (Some line) s cells queues over f = fits_others line.0 line.1 s cells queues over f

-- The law: whatever others do to what is not the job's own, its code stands.
pub stands_others : (st : Storage) (bodies : List BodyRow) (thread : ℕ) (who : Runner) → RepresentsByItsOwn st
    → StandsWhateverOthersDo st bodies thread who
stands_others st bodies thread who by_own code zero s cells queues over stands =
    absurd (stands_none st code bodies thread who s stands)
stands_others st bodies thread who by_own code (suc n) s cells queues over stands =
    stands_step st code bodies thread who n (record s { cells = cells; queues = queues })
    (stands_left st code bodies thread who n s stands)
    (line_others st by_own bodies who (Stands st code bodies thread who n)
    (λ t others lists. stands_others st bodies thread who by_own code n t others lists) code thread
    (slice_get code s.address) (spend_step s) cells queues
    (record { long = over.long; touched = over.touched; queued = over.queued })
    (stands_fits st code bodies thread who n s stands))
