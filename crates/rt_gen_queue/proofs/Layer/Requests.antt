-- Lines that ask the core for something, wherever they are: each does the next action of what is left to do.
use Rattle.rt_gen_queue.proofs.Vocabulary.{Action, Agree, Asks, BodyRow, Bool, Clocks, Doing, Emits, Goes, Guarded}
use Rattle.rt_gen_queue.proofs.Vocabulary.{Location, Instr, List, Leads, MayAccess, None, Posts, Returns, SetsAlarm, Some}
use Rattle.rt_gen_queue.proofs.Vocabulary.{Values, [], body_frame, caller_frame, delays, does, effect as action_effect}
use Rattle.rt_gen_queue.proofs.Vocabulary.{false, is_open, least_instant, length, spend_step, plain, processor_of}
use Rattle.rt_gen_queue.proofs.Vocabulary.{refl}
use Rattle.rt_gen_queue.proofs.Vocabulary.{slice_get, slice_index, slice_set, storage, subst, suc, sym, true, ℕ, ◌<◌}
use Rattle.rt_gen_queue.proofs.Vocabulary.{◌^◌, ◌≡◌}
use Rattle.rt_ids.specs.declared.ids.Section.TheVariants as section
use Rattle.rt_code.{proofs.Done.effect_is_done, specs.Access.access_of, specs.Acting.Acts, specs.Effect.effect}
use Rattle.rt_code.{specs.Processor.Effect, specs.Stack.IsAlikeUpTo, specs.Stack.arguments_fit, specs.declared.processor.Request.Request}
use Rattle.rt_code.specs.declared.instr.Instr.TheVariants as instr
use Rattle.rt_code.specs.declared.processor.Request.TheVariants as request
use Rattle.rt_gen_queue.proofs.Layer.Correct.{Later, S, at_passed, by_line}
use Rattle.rt_gen_queue.proofs.Layer.Instructions.{IsFree, kept_free, kept_same, one_there}
use Rattle.rt_gen_queue.proofs.Layer.Jobs.{Here, InTime, Setting, configuration}

-- what is left to do after the next action, whatever others did to what is not the job's
abbrev pub Follows : Setting → Here → Values → (Values → Doing Values) → Type 0
Follows z h values rest =
    (vs : Values) → Agree (storage z.app) z.who h.held vs values
    → S z (record h { done = suc h.done; at = suc h.at; rest = rest vs })

-- the next action, and what follows it
abbrev pub acts : {z : Setting} {h : Here} {values : Values} {rest : Values → Doing Values} (action : Action)
    → h.rest ≡ does action values (λ answer. rest) → Follows z h values (λ vs. rest (action_effect action vs))
    → Acts (storage z.app) z.bodies z.who action 0 (record (spend_step (configuration z h)) { address = suc h.at })
    (Later z h)
acts {h = h} {values = values} {rest = rest} action is on = record {
  values = values;
  follows = λ answer. rest;
  is = is;
  on = λ vs agree. at_passed (record h { at = suc h.at; rest = rest (action_effect action vs) }) (on vs agree);
}

-- an instruction that changes nothing but the address, to this one, and asks for this
asks_for : {z : Setting} {h : Here} (i : Instr) (asked : Request) (to : ℕ) → slice_get z.code h.at ≡ Some (plain i)
    → InTime (suc h.done) h
    → ((time b : ℕ) (m : Bool) → effect i time (processor_of (configuration z h) b m)
    ≡ Leads (record { address = to; basepri = b; primask = m; slots = h.slots; cells = h.cells }) asked)
    → MayAccess (storage z.app) z.who (configuration z h)
    (access_of i (processor_of (configuration z h) 0 false))
    → Asks (storage z.app) z.code z.bodies z.thread z.who asked None
    (record (spend_step (configuration z h)) { address = to }) (Later z h) → S z h
asks_for {z = z} {h = h} i asked to here time leads may asks =
    by_line i None here time
    (record {
      touches = may;
      goes = λ now b m early.
          subst (λ (e : Effect). Goes (storage z.app) z.code z.bodies z.thread z.who None b m
          (spend_step (configuration z h))
          (Later z h) e) (sym (leads now b m)) (refl, refl, kept_same h.held h.slots, asks);
    })

-- what its runner keeps is given back, and its values are these
abbrev pub GivesBack : Setting → Here → Values → Type 0
GivesBack z h values =
    (location : Location) → (storage z.app).is_kept z.who location ≡ true
    → (storage z.app).Represents location (slice_index h.cells) (h.queues location) (values location)

-- the row of this number may be called, with its arguments in the slots from one on
pub record MayCall (z : Setting) (h : Here) (row from : ℕ) (called : BodyRow) : Type 0 where
  pub own : z.caller ≡ None
  pub is_there : slice_get z.bodies row ≡ Some called
  pub closed : h.held ≡ []
  pub some : 0 < length h.slots
  pub fits : arguments_fit h.slots called from ≡ true

module _ {z : Setting} {h : Here} where
  -- a value is emitted
  pub emits_here : {s : ℕ} {values : Values} {rest : Values → Doing Values} (v : ℕ)
      → slice_get z.code h.at ≡ Some (plain (instr.Emit s)) → InTime (suc h.done) h → s < length h.slots
      → slice_index h.slots s ≡ v → h.rest ≡ does (Emits v) values (λ answer. rest) → Follows z h values rest → S z h
  emits_here {s = s} v here time there shown is on =
      asks_for {z = z} {h = h} (instr.Emit s) (request.Emit (slice_index h.slots s)) (suc h.at) here time
      (λ now b m. effect_is_done (instr.Emit s) now (processor_of (configuration z h) b m) refl
      (one_there s (length h.slots) there)) tt
      (subst (λ w. Acts (storage z.app) z.bodies z.who (Emits w) 0
      (record (spend_step (configuration z h)) { address = suc h.at }) (Later z h)) (sym shown) (acts (Emits v) is on))

  -- an interrupt becomes pending
  pub posts_here : {irq : ℕ} {values : Values} {rest : Values → Doing Values}
      → slice_get z.code h.at ≡ Some (plain (instr.Post irq)) → InTime (suc h.done) h
      → h.rest ≡ does (Posts irq) values (λ answer. rest) → Follows z h values rest → S z h
  posts_here {irq = irq} here time is on =
      asks_for {z = z} {h = h} (instr.Post irq) (request.Post irq) (suc h.at) here time
      (λ now b m. effect_is_done (instr.Post irq) now (processor_of (configuration z h) b m) refl refl) tt
      (acts (Posts irq) is on)

  -- a slot gets the time
  pub clocks_here : {d : ℕ} {values : Values} {follows : ℕ → Values → Doing Values}
      → slice_get z.code h.at ≡ Some (plain (instr.Clock d)) → InTime (suc h.done) h → d < length h.slots
      → IsFree h.held d → h.rest ≡ does Clocks values follows
      → ((now : ℕ) (vs : Values) → now < 2 ^ 31 → Agree (storage z.app) z.who h.held vs values
      → S z (record h { done = suc h.done; slots = slice_set h.slots d now; at = suc h.at; rest = follows now vs }))
      → S z h
  clocks_here {d = d} {values = values} {follows = follows} here time there free is on =
      by_line (instr.Clock d) None here time
      (record {
        touches = tt;
        goes = λ now b m early.
            subst (λ (e : Effect). Goes (storage z.app) z.code z.bodies z.thread z.who None b m
            (spend_step (configuration z h))
            (Later z h) e)
            (sym (effect_is_done (instr.Clock d) now (processor_of (configuration z h) b m) refl
            (one_there d (length h.slots) there))) (
              refl,
              refl,
              kept_free h.held h.slots d now free,
              record {
                values = values;
                follows = follows;
                is = is;
                on = λ vs agree.
                    at_passed (record h { slots = slice_set h.slots d now; at = suc h.at; rest = follows now vs })
                    (on now vs early agree);
              },
            );
      })

  -- the alarm becomes the instant in a slot, which is the least armed one
  pub alarms_here : {s irq : ℕ} {values : Values} {rest : Values → Doing Values}
      → slice_get z.code h.at ≡ Some (plain (instr.Alarm s irq)) → InTime (suc h.done) h → s < length h.slots
      → (storage z.app).timer ≡ Some irq → is_open h.held section.Timer ≡ true
      → h.rest ≡ does SetsAlarm values (λ answer. rest)
      → least_instant (delays (values (Guarded section.Timer))) ≡ Some (slice_index h.slots s)
      → Follows z h values rest → S z h
  alarms_here {s = s} {irq = irq} here time there timer opens is least on =
      asks_for {z = z} {h = h} (instr.Alarm s irq) (request.Alarm (slice_index h.slots s) irq) (suc h.at) here time
      (λ now b m. effect_is_done (instr.Alarm s irq) now (processor_of (configuration z h) b m) refl
      (one_there s (length h.slots) there)) tt
      (timer, record { acts = acts SetsAlarm is on; inside = opens; least = least })

  -- nothing is armed, and no alarm is left
  pub no_alarm_here : {values : Values} {rest : Values → Doing Values}
      → slice_get z.code h.at ≡ Some (plain instr.NoAlarm) → InTime (suc h.done) h
      → is_open h.held section.Timer ≡ true → h.rest ≡ does SetsAlarm values (λ answer. rest)
      → least_instant (delays (values (Guarded section.Timer))) ≡ None → Follows z h values rest → S z h
  no_alarm_here here time opens is least on =
      asks_for {z = z} {h = h} instr.NoAlarm request.NoAlarm (suc h.at) here time
      (λ now b m. effect_is_done instr.NoAlarm now (processor_of (configuration z h) b m) refl refl) tt
      (record { acts = acts SetsAlarm is on; inside = opens; least = least })

  -- a body is called, with its arguments in the slots from one on
  pub calls_here : {row from : ℕ} (called : BodyRow) → slice_get z.code h.at ≡ Some (plain (instr.Call row from))
      → InTime (suc h.done) h → MayCall z h row from called
      → ((slots : List ℕ)
      → IsAlikeUpTo called.args (body_frame (caller_frame h.slots (suc h.at)) called from) slots
      → Later z h (record (spend_step (configuration z h)) {
        address = called.entry;
        slots = slots;
        caller = Some (caller_frame h.slots (suc h.at));
      }))
      → S z h
  calls_here {row = row} {from = from} called here time may on =
      asks_for {z = z} {h = h} (instr.Call row from) (request.Call row from) h.at here time
      (λ now b m. effect_is_done (instr.Call row from) now (processor_of (configuration z h) b m) refl refl) tt
      (record {
        called = called;
        is_there = may.is_there;
        closed = may.closed;
        may_call = (may.own, may.some);
        fits = may.fits;
        on = on;
      })

  -- the job returns
  pub returns_here : {values : Values} {rest : Values → Doing Values}
      → slice_get z.code h.at ≡ Some (plain instr.Ret) → InTime (suc h.done) h → z.caller ≡ None → h.held ≡ []
      → h.places ≡ [] → h.rest ≡ does Returns values (λ answer. rest) → GivesBack z h values → S z h
  returns_here {values = values} {rest = rest} here time own closed empty is back =
      asks_for {z = z} {h = h} instr.Ret request.Return h.at here time
      (λ now b m. effect_is_done instr.Ret now (processor_of (configuration z h) b m) refl refl) tt
      (record {
        values = values;
        follows = λ answer. rest;
        is = is;
        closed = closed;
        empty = empty;
        own_frame = own;
        represented = back;
      })
