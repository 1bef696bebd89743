-- Code is correct from where a job is: one line of it leads on to where the code is correct again.
use Rattle.rt_gen_queue.proofs.Vocabulary.{Asks, Bool, Goes, Instr, KeepsSaved, Leads, Line, LineFits, List, MayAccess}
use Rattle.rt_gen_queue.proofs.Vocabulary.{None, Note, Option, Some, Configuration, Stands, arith, false, spend_step}
use Rattle.rt_gen_queue.proofs.Vocabulary.{plain}
use Rattle.rt_gen_queue.proofs.Vocabulary.{processor_of, refl, slice_get, storage, subst, suc, sym, ℕ, ◌-◌, ◌≡◌}
use Rattle.rt_code.proofs.Standing.{stands_step}
use Rattle.rt_code.specs.{Access.access_of, Effect.effect, Processor.Effect, Standing.Does}
use Rattle.rt_code.specs.declared.processor.Request.TheVariants as request
use Rattle.rt_gen_queue.proofs.Layer.Jobs.{Here, InTime, Setting, has_left, left_none, left_passed, configuration}

-- the code is correct from here on, within the steps that are left
pub record S (z : Setting) (h : Here) : Type 0 where
  pub stands : Stands (storage z.app) z.code z.bodies z.thread z.who (h.until - h.done) (configuration z h)

-- it is correct at a configuration that one more step leads to
abbrev pub Later : Setting → Here → Configuration → Type 0
Later z h s = Stands (storage z.app) z.code z.bodies z.thread z.who (h.until - suc h.done) s

-- correct where a job is, by equal numbers of steps and of lines
pub moved : {z : Setting} {h : Here} (done at : ℕ) → done ≡ h.done → at ≡ h.at
    → S z (record h { done = done; at = at }) → S z h
moved {z = z} {h = h} done at done_is at_is correct =
    subst (λ n. S z (record h { done = n })) done_is
    (subst (λ n. S z (record h { done = done; at = n })) at_is correct)

pub at_passed : {z : Setting} (h : Here) → S z (record h { done = suc h.done })
    → Later z h (spend_step (configuration z h))
at_passed {z = z} h correct =
    subst (λ (lefts : List ℕ). Later z h (record (configuration z h) { lefts = lefts }))
    (sym (left_passed h.done h.deadlines))
    correct.stands

pub by_line : {z : Setting} {h : Here} (i : Instr) (told : Option Note) → slice_get z.code h.at ≡ Some (i, told)
    → InTime (suc h.done) h
    → LineFits (storage z.app) z.code z.bodies z.thread z.who (Some (i, told)) (spend_step (configuration z h))
    (Later z h)
    → S z h
by_line {z = z} {h = h} i told here time fits =
    let one : suc (h.until - suc h.done) ≡ h.until - h.done = omega (arith, time.0) in
    record {
      stands = subst (λ n. Stands (storage z.app) z.code z.bodies z.thread z.who n (configuration z h)) one
          (stands_step (storage z.app) z.code z.bodies z.thread z.who (h.until - suc h.done) (configuration z h)
          (has_left h.done h.deadlines time.1)
          (subst (λ (line : Option Line). LineFits (storage z.app) z.code z.bodies z.thread z.who line
          (spend_step (configuration z h)) (Later z h)) (sym here) fits));
    }

-- What an instruction that asks for nothing does here: it touches what the job may touch, keeps what sections saved,
-- and leads to these slots and cells at an address.
pub record Gives (z : Setting) (h : Here) (i : Instr) (slots : List ℕ) (to : ℕ) (cells : List ℕ) : Type 0 where
  pub may : MayAccess (storage z.app) z.who (configuration z h) (access_of i (processor_of (configuration z h) 0 false))
  pub kept : KeepsSaved h.held h.slots slots
  pub leads : (time b : ℕ) (m : Bool) → effect i time (processor_of (configuration z h) b m)
      ≡ Leads (record { address = to; basepri = b; primask = m; slots = slots; cells = cells }) request.Nothing

-- where it leads
abbrev pub given : Here → List ℕ → ℕ → List ℕ → Here
given h slots to cells = record h { slots = slots; at = to; cells = cells }

-- the same with what its note asks
pub does : {z : Setting} {h : Here} {i : Instr} {slots : List ℕ} {to : ℕ} {cells : List ℕ} (told : Option Note)
    → Gives z h i slots to cells → Asks (storage z.app) z.code z.bodies z.thread z.who request.Nothing told
    (spend_step (configuration z (given h slots to cells))) (Later z h)
    → Does (storage z.app) z.code z.bodies z.thread z.who i told (spend_step (configuration z h)) (Later z h)
does {z = z} {h = h} {i = i} told gives asks = record {
  touches = gives.may;
  goes = λ time b m fast.
      subst (λ (e : Effect). Goes (storage z.app) z.code z.bodies z.thread z.who told b m
      (spend_step (configuration z h))
      (Later z h) e) (sym (gives.leads time b m)) (refl, refl, gives.kept, asks);
}

-- a silent line: no note, and nothing is asked
pub goes : {z : Setting} {h : Here} {i : Instr} {slots : List ℕ} {to : ℕ} {cells : List ℕ}
    → slice_get z.code h.at ≡ Some (plain i) → InTime (suc h.done) h → Gives z h i slots to cells
    → S z (record (given h slots to cells) { done = suc h.done }) → S z h
goes {h = h} {i = i} {slots = slots} {to = to} {cells = cells} here time gives on =
    by_line i None here time (does None gives (at_passed (given h slots to cells) on))

-- a job at the first line of code that has so many steps
abbrev pub begun : Configuration → ℕ → Here
begun s until = record {
  held = s.held;
  done = 0;
  until = until;
  deadlines = s.lefts;
  places = s.places;
  slots = s.slots;
  at = s.address;
  cells = s.cells;
  queues = s.queues;
  rest = s.rest;
}

pub begins : {z : Setting} (s : Configuration) (until : ℕ) → S z (begun s until)
    → Stands (storage z.app) z.code z.bodies z.thread z.who until (record s { caller = z.caller })
begins {z = z} s until correct =
    let all : until - 0 ≡ until = omega arith in
    subst (λ n. Stands (storage z.app) z.code z.bodies z.thread z.who n (record s { caller = z.caller })) all
    (subst (λ (lefts : List ℕ). Stands (storage z.app) z.code z.bodies z.thread z.who (until - 0)
    (record s { caller = z.caller; lefts = lefts })) (left_none s.lefts) correct.stands)
