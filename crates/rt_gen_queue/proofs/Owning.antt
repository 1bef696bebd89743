-- What a job owns of the queues: their cells where their section is opens, and nothing of them where it is not.
use Rattle.rt_gen_queue.proofs.Vocabulary.{Agree, App, At, AtPriority, Bool, Content, Entry, Guarded, OpenSection}
use Rattle.rt_gen_queue.proofs.Vocabulary.{Location}
use Rattle.rt_gen_queue.proofs.Vocabulary.{Home}
use Rattle.rt_gen_queue.proofs.Vocabulary.{In, LeavesMine, List, MayLoad, MayStore, NobodyKeeps, Own, Runner, Section}
use Rattle.rt_gen_queue.proofs.Vocabulary.{RepresentsFree, RepresentsReady, RepresentsTimer, Configuration, Starting}
use Rattle.rt_gen_queue.proofs.Vocabulary.{Values, ap, count}
use Rattle.rt_gen_queue.proofs.Vocabulary.{false, home_of, if◌then◌else◌, inl, inr, is_open, is_same_location}
use Rattle.rt_gen_queue.proofs.Vocabulary.{is_same_section, length, memory, one_section, or_left, owns_open, owns_reads}
use Rattle.rt_gen_queue.proofs.Vocabulary.{values_with, reads, reads_more, refl, same_section, slice_get_within}
use Rattle.rt_gen_queue.proofs.Vocabulary.{slice_index}
use Rattle.rt_gen_queue.proofs.Vocabulary.{storage, subst, sym, true, with_queue, ℕ, ◌<◌, ◌||◌, ◌∙◌, ◌∷◌, ◌≡◌}
use Rattle.std.proofs.lemmas.Bool.{cases_Bool}
use Rattle.rt_lemmas.proofs.{Bools.or_neither, Indices.at_read}
use Rattle.rt_actions.specs.Storage.{Nowhere}
use Rattle.rt_ids.specs.declared.ids.Section.TheVariants as section
use Rattle.rt_gen_queue.proofs.Layer.Jobs.{Setting}

-- the sections of queues
abbrev pub IsQueue : Section → Type 0
IsQueue (section.Res r) = ⊥
IsQueue (section.Free n) = Unit {0}
IsQueue (section.Ready p) = Unit {0}
IsQueue section.Timer = Unit {0}

-- nobody keeps what a queue has, or may read it without the section
no_ones : (app : App) (who : Runner) (x : Section) → IsQueue x → ((storage app).is_kept who (Guarded x) ≡ false)
    × ((storage app).is_constant who (Guarded x) ≡ false)
unfolding storage
no_ones app who (section.Res r) queue = absurd queue
no_ones app Starting (section.Free n) queue = (refl, refl)
no_ones app (AtPriority p) (section.Free n) queue = (refl, refl)
no_ones app Starting (section.Ready p) queue = (refl, refl)
no_ones app (AtPriority q) (section.Ready p) queue = (refl, refl)
no_ones app Starting section.Timer queue = (refl, refl)
no_ones app (AtPriority q) section.Timer queue = (refl, refl)

pub nobody_keeps : (app : App) (who runner : Runner) (x : Section) → IsQueue x → NobodyKeeps (storage app) who runner x
nobody_keeps app who Starting x queue = (no_ones app Starting x queue).0
nobody_keeps app who (AtPriority p) x queue = λ q. no_ones app (AtPriority q) x queue

pub home_as : (app : App) (c : ℕ) → (storage app).home c ≡ home_of app c
unfolding storage
home_as app c = refl

pub free_represented : (app : App) (n : ℕ) (cells : ℕ → ℕ) (entries : List Entry) (content : Content)
    → (storage app).Represents (Guarded (section.Free n)) cells entries content
    → RepresentsFree app cells n entries content
unfolding storage
free_represented app n cells entries content represents = represents.1

pub free_back : {app : App} {n : ℕ} {cells : ℕ → ℕ} {entries : List Entry} {content : Content}
    (other : ℕ → ℕ) (more : List Entry) (before : Content)
    → (storage app).Represents (Guarded (section.Free n)) other more before → RepresentsFree app cells n entries content
    → (storage app).Represents (Guarded (section.Free n)) cells entries content
unfolding storage
free_back other more before old represents = (old.0, represents)

pub ready_represented : (app : App) (p : ℕ) (cells : ℕ → ℕ) (entries : List Entry) (content : Content)
    → (storage app).Represents (Guarded (section.Ready p)) cells entries content
    → RepresentsReady app cells p entries content
unfolding storage
ready_represented app p cells entries content represents = represents.1

pub ready_back : {app : App} {p : ℕ} {cells : ℕ → ℕ} {entries : List Entry} {content : Content}
    (other : ℕ → ℕ) (more : List Entry) (before : Content)
    → (storage app).Represents (Guarded (section.Ready p)) other more before
    → RepresentsReady app cells p entries content
    → (storage app).Represents (Guarded (section.Ready p)) cells entries content
unfolding storage
ready_back other more before old represents = (old.0, represents)

pub timer_represented : (app : App) (cells : ℕ → ℕ) (entries : List Entry) (content : Content)
    → (storage app).Represents (Guarded section.Timer) cells entries content → RepresentsTimer app cells entries content
unfolding storage
timer_represented app cells entries content represents = represents.1

pub timer_back : {app : App} {cells : ℕ → ℕ} {entries : List Entry} {content : Content}
    (other : ℕ → ℕ) (more : List Entry) (before : Content)
    → (storage app).Represents (Guarded section.Timer) other more before → RepresentsTimer app cells entries content
    → (storage app).Represents (Guarded section.Timer) cells entries content
unfolding storage
timer_back other more before old represents = (old.0, represents)

-- a cell that belongs to something is in memory
pub in_memory : (app : App) (c : ℕ) (home : Home) → home_of app c ≡ home → ¬ (Nowhere ≡ home) → c < length (memory app)
in_memory app c home is some =
    let one = at_read (λ cell. cell.home) (memory app) c home Nowhere is some in
    slice_get_within (memory app) c one.0 one.1

pub at_in_memory : (app : App) (c : ℕ) (location : Location) → home_of app c ≡ At location → c < length (memory app)
at_in_memory app c location is = in_memory app c (At location) is (λ e. cc)

pub place_in_memory : (app : App) (c : ℕ) (e : Entry) → home_of app c ≡ In e → c < length (memory app)
place_in_memory app c e is = in_memory app c (In e) is (λ e. cc)

module _ (app : App) (who : Runner) where
  pub loads_open : (s : Configuration) (c : ℕ) (x : Section) → home_of app c ≡ At (Guarded x) → is_open s.held x ≡ true
      → MayLoad (storage app) who s ((storage app).home c)
  loads_open s c x is opens =
      subst (λ (home : Home). MayLoad (storage app) who s home) (sym (home_as app c ∙ is))
      (owns_reads (storage app) who s.held (Guarded x) (owns_open (storage app) who s.held x opens))

  pub stores_open : (s : Configuration) (c : ℕ) (x : Section) → home_of app c ≡ At (Guarded x) → is_open s.held x ≡ true
      → MayStore (storage app) who s ((storage app).home c)
  stores_open s c x is opens =
      subst (λ (home : Home). MayStore (storage app) who s home) (sym (home_as app c ∙ is))
      (owns_open (storage app) who s.held x opens)

  pub stores_place : (s : Configuration) (c : ℕ) (e : Entry) → home_of app c ≡ In e → 0 < count e s.places
      → MayStore (storage app) who s ((storage app).home c)
  stores_place s c e is some =
      subst (λ (home : Home). MayStore (storage app) who s home) (sym (home_as app c ∙ is)) some

  -- a queue whose section is not opens is not read
  pub unread : (held : List OpenSection) (x : Section) → IsQueue x → is_open held x ≡ false
      → reads (storage app) who held (Guarded x) ≡ false
  unread held x queue closed =
      or_neither (is_open held x || (storage app).is_kept who (Guarded x)) ((storage app).is_constant who (Guarded x))
      (or_neither (is_open held x) ((storage app).is_kept who (Guarded x)) closed (no_ones app who x queue).0)
      (no_ones app who x queue).1

  pub is_inside : (held : List OpenSection) (h : OpenSection) (x : Section) → h.section ≡ x → is_open (h ∷ held) x
      ≡ true
  is_inside held h x is =
      or_left (is_same_section h.section x) (is_open held x)
      (ap (λ y. is_same_section y x) is ∙ same_section x)

  pub reads_inside : (held : List OpenSection) (h : OpenSection) (x : Section) → h.section ≡ x
      → reads (storage app) who (h ∷ held) (Guarded x) ≡ true
  reads_inside held h x is =
      owns_reads (storage app) who (h ∷ held) (Guarded x)
      (owns_open (storage app) who (h ∷ held) x (is_inside held h x is))

  same_location : (x : Section) (h : Location) → is_same_location (Guarded x) h ≡ true → h ≡ Guarded x
  same_location x (Guarded y) is = ap Guarded (sym (one_section x y is))
  same_location x (Own n) is = absurd cc

  -- another location, where this section's is not read
  pub other_location : (held : List OpenSection) (x : Section) (h : Location) → reads (storage app) who held (Guarded x)
      ≡ false
      → reads (storage app) who held h ≡ true → is_same_location (Guarded x) h ≡ false
  other_location held x h none may =
      elim (cases_Bool (is_same_location (Guarded x) h)) [
        | inl is ↦
            (let e : reads (storage app) who held (Guarded x) ≡ true =
            subst (λ (k : Location). reads (storage app) who held k ≡ true) (same_location x h is) may in
            cc (e, none))
        | inr differs ↦ differs
      ]

  pub put_here : (vs : Values) (x : Section) (content : Content) → values_with vs (Guarded x) content (Guarded x)
      ≡ content
  put_here vs x content = ap (λ (b : Bool). if b then content else vs (Guarded x)) (same_section x)

  pub queue_here : (queues : Location → List Entry) (x : Section) (entries : List Entry)
      → with_queue queues x entries (Guarded x) ≡ entries
  queue_here queues x entries = ap (λ (b : Bool). if b then entries else queues (Guarded x)) (same_section x)

-- what is represented, in the values and queues that have it
pub represented_put : (app : App) (cells : ℕ → ℕ) (entries : List Entry) (content : Content) (queues : Location
    → List Entry)
    (us : Values) (x : Section) → (storage app).Represents (Guarded x) cells entries content
    → (storage app).Represents (Guarded x) cells (with_queue queues x entries (Guarded x))
    (values_with us (Guarded x) content (Guarded x))
represented_put app cells entries content queues us x represents =
    subst (λ (es : List Entry). (storage app).Represents (Guarded x) cells es
    (values_with us (Guarded x) content (Guarded x)))
    (sym (queue_here app Starting queues x entries))
    (subst (λ (c : Content). (storage app).Represents (Guarded x) cells entries c)
    (sym (put_here app Starting us x content)) represents)

module _ (z : Setting) where
  -- values after a section: what may be read without it is as it was
  pub agree_out : {after us ws : Values} (held : List OpenSection) (h : OpenSection) (x : Section) (content : Content)
      → reads (storage z.app) z.who held (Guarded x) ≡ false
      → Agree (storage z.app) z.who held after (values_with us (Guarded x) content)
      → Agree (storage z.app) z.who (h ∷ held) us ws → Agree (storage z.app) z.who held after ws
  agree_out {us = us} held h x content none last inner = λ location may.
      last location may
      ∙ ap (λ (b : Bool). if b then content else us location) (other_location z.app z.who held x location none may)
      ∙ inner location (reads_more (storage z.app) z.who h held location may)

  -- what is the job's own after a section: only cells and the queue of the section are others
  pub leaves_out : {cells after : List ℕ} {queues : Location → List Entry} (s : Configuration) (x : Section)
      (entries : List Entry) → reads (storage z.app) z.who s.held (Guarded x) ≡ false
      → LeavesMine (storage z.app) z.who s cells queues → length after ≡ length cells
      → ((c : ℕ) → ¬ (home_of z.app c ≡ At (Guarded x)) → slice_index after c ≡ slice_index cells c)
      → LeavesMine (storage z.app) z.who s after (with_queue queues x entries)
  leaves_out {queues = queues} s x entries none over long kept = record {
    long = long ∙ over.long;
    touched = λ c may.
        kept c (λ is. closed (subst (λ (home : Home). MayLoad (storage z.app) z.who s home) (home_as z.app c ∙ is) may))
        ∙ over.touched c may;
    queued = λ location own.
        ap (λ (b : Bool). if b then entries else queues location)
        (other_location z.app z.who s.held x location none (owns_reads (storage z.app) z.who s.held location own))
        ∙ over.queued location own;
  }
    where
      closed : reads (storage z.app) z.who s.held (Guarded x) ≡ true → ⊥
      closed may = cc (may, none)
