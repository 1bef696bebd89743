-- What a level keeps, or may read at any time, while its dispatcher runs, which no action of a dispatcher changes; and
-- how a dispatcher opens the section of a queue.
use Rattle.rt_gen_queue.proofs.Vocabulary.{Agree, App, AreRepresented, At, AtPriority, Bool, Content, Entry, Guarded}
use Rattle.rt_gen_queue.proofs.Vocabulary.{OpenSection}
use Rattle.rt_gen_queue.proofs.Vocabulary.{Location, Home, List, MayLoad, Number, Own, Section, RepresentsReady}
use Rattle.rt_gen_queue.proofs.Vocabulary.{Configuration}
use Rattle.rt_gen_queue.proofs.Vocabulary.{TakesOver, Values, [], ap, arith, ceiling, false, home_of, if◌then◌else◌}
use Rattle.rt_gen_queue.proofs.Vocabulary.{is_open, is_same_location, kind_at, length, local_is_home, or_right}
use Rattle.rt_gen_queue.proofs.Vocabulary.{owns_open}
use Rattle.rt_gen_queue.proofs.Vocabulary.{owns_reads, values_with, reads, refl, resource_is_home, same_section}
use Rattle.rt_gen_queue.proofs.Vocabulary.{slice_index}
use Rattle.rt_gen_queue.proofs.Vocabulary.{storage, subst, sym, true, ℕ, ◌+◌, ◌^◌, ◌||◌, ◌∙◌, ◌≡◌, ◌≤◌}
use Rattle.rt_lemmas.proofs.Bools.{or_assoc}
use Rattle.rt_ids.specs.declared.ids.Section.TheVariants as section
use Rattle.rt_gen_queue.proofs.{Entering.MayEnter, Layer.Here}
use Rattle.rt_gen_queue.proofs.Owning.{IsQueue, home_as, is_inside, nobody_keeps, other_location, unread}
use Rattle.rt_gen_disp.proofs.{Dispatchers.Dispatcher, Dispatchers.alone, Dispatchers.job, Words.own}

module _ (d : Dispatcher) where
  -- a section that is open alone is open, and what it guards may be read
  pub open_here : (x : Section) → is_open (alone d x) x ≡ true
  open_here x = is_inside d.app (AtPriority d.level) [] (record { section = x; kind = kind_at d.app x d.level 14 }) x
      refl

  pub reads_here : (x : Section) → reads (storage d.app) (AtPriority d.level) (alone d x) (Guarded x) ≡ true
  reads_here x =
      owns_reads (storage d.app) (AtPriority d.level) (alone d x) (Guarded x)
      (owns_open (storage d.app) (AtPriority d.level) (alone d x) x (open_here x))

  -- the section of a queue may be opened where none is
  pub may_enter : {h : Here} (x : Section) → h.held ≡ [] → IsQueue x → ceiling d.app x ≤ 2 ^ d.app.bits
      → d.level ≤ ceiling d.app x → MayEnter (job d) own h x d.level
  unfolding storage
  may_enter x none queue top within = record {
    room = omega arith;
    masks = rw none tt;
    off = rw none (omega arith);
    top = top;
    within = within;
    closed = ap (λ held. is_open held x) none;
    nobody = nobody_keeps d.app (AtPriority d.level) (AtPriority d.level) x queue;
  }

-- the ready queue of the level is given back, by what its cells represent
pub for_ready : (d : Dispatcher) (cells : ℕ → ℕ) (entries : List Entry) (content : Content)
    → RepresentsReady d.app cells d.level entries content
    → (storage d.app).Represents (Guarded (section.Ready d.level)) cells entries content
unfolding storage
for_ready d cells entries content represents = (d.is, represents)

abbrev MayRead : App → ℕ → Location → Type 0
MayRead app level h = ((storage app).is_kept (AtPriority level) h || (storage app).is_constant (AtPriority level) h)
    ≡ true

-- with any sections open it may read the same and more
reads_kept : (app : App) (level : ℕ) (held : List OpenSection) (h : Location) → MayRead app level h
    → reads (storage app) (AtPriority level) held h ≡ true
reads_kept app level held (Guarded x) may = or_assoc (is_open held x) _ _ ∙ or_right (is_open held x) _ may
reads_kept app level held (Own n) may = may

-- no queue is among it
not_queue : (app : App) (level : ℕ) (h : Location) (x : Section) → MayRead app level h → IsQueue x
    → is_same_location (Guarded x) h ≡ false
not_queue app level h x may queue =
    other_location app (AtPriority level) [] x h (unread app (AtPriority level) [] x queue refl)
    (reads_kept app level [] h may)

module _ {app : App} {level : ℕ} {cells : List ℕ} {queues : Location → List Entry} {vs : Values} where
  -- it is represented by cells of its own alone
  represented_on : {after : List ℕ} {later : Location → List Entry} {ws : Values}
      → AreRepresented app level cells queues vs
      → length after ≡ length cells → ((h : Location) → MayRead app level h → ws h ≡ vs h)
      → ((c : ℕ) (h : Location) → MayRead app level h → home_of app c ≡ At h → slice_index after c
      ≡ slice_index cells c)
      → AreRepresented app level after later ws
  unfolding storage
  represented_on {after = after} {later = later} {ws = ws} represented long same left =
      record { long = long ∙ represented.long; each = each }
    where
      each : (h : Location) → MayRead app level h → (storage app).Represents h (slice_index after) (later h) (ws h)
      each (Guarded (section.Res r)) may =
          let one = represented.each (Guarded (section.Res r)) may in
          let cell = left r (Guarded (section.Res r)) may (resource_is_home app r one.0) in
          (one.0, same (Guarded (section.Res r)) may ∙ one.1 ∙ ap Number (sym cell))
      each (Guarded (section.Free n)) may = absurd cc
      each (Guarded (section.Ready p)) may = absurd cc
      each (Guarded section.Timer) may = absurd cc
      each (Own n) may =
          let one = represented.each (Own n) may in
          let cell = left (length app.shared + n) (Own n) may (local_is_home app n one.0) in
          (one.0, same (Own n) may ∙ one.1 ∙ ap Number (sym cell))

  -- values that agree are represented too
  pub represented_agreed : {ws : Values} (held : List OpenSection) → AreRepresented app level cells queues vs
      → Agree (storage app) (AtPriority level) held ws vs → AreRepresented app level cells queues ws
  represented_agreed held represented agree =
      represented_on represented refl (λ h may. agree h (reads_kept app level held h may)) (λ c h may of. refl)

  -- and so are those with another content of a queue
  pub represented_put : {later : Location → List Entry} (x : Section) (content : Content) → IsQueue x
      → AreRepresented app level cells queues vs
      → AreRepresented app level cells later (values_with vs (Guarded x) content)
  represented_put x content queue represented =
      represented_on represented refl
      (λ h may. ap (λ (b : Bool). if b then content else vs h) (not_queue app level h x may queue))
      (λ c h may of. refl)

  -- and where only cells of a queue are others
  pub represented_written : {after : List ℕ} (x : Section) → IsQueue x → AreRepresented app level cells queues vs
      → length after ≡ length cells
      → ((c : ℕ) → ¬ (home_of app c ≡ At (Guarded x)) → slice_index after c ≡ slice_index cells c)
      → AreRepresented app level after queues vs
  represented_written x queue represented long elsewhere =
      represented_on represented long (λ h may. refl) (λ c h may of. elsewhere c (λ is. other h may (sym of ∙ is)))
    where
      other : (h : Location) → MayRead app level h → ¬ (At h ≡ At (Guarded x))
      other h may same =
          let is : h ≡ Guarded x = cc in
          let found : is_same_location (Guarded x) h ≡ true = ap (is_same_location (Guarded x)) is ∙ same_section x in
          cc (found, not_queue app level h x may queue)

-- others leave it as it is
pub represented_taken : {app : App} {level : ℕ} {s : Configuration} {values vs : Values} {cells : List ℕ}
    {queues : Location → List Entry} (x : Section)
    → TakesOver (storage app) (AtPriority level) x s values vs cells queues
    → AreRepresented app level s.cells s.queues values → AreRepresented app level cells queues vs
represented_taken {app = app} {level = level} {s = s} x taken represented =
    represented_on represented taken.same.long (λ h may. taken.agree h (reads_kept app level s.held h may))
    (λ c h may of. taken.same.touched c
    (subst (λ (home : Home). MayLoad (storage app) (AtPriority level) s home) (sym (home_as app c ∙ of))
    (reads_kept app level s.held h may)))
