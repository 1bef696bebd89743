-- How an application keeps resources, each in a cell of its own that represents its value, and what is known of values
-- as code goes on: a resource that may be read has the value that is in its cell. The sections that are open while a
-- body runs are those of the resources that it has locked.
use Rattle.rt_gen_queue.proofs.Vocabulary.{Agree, App, At, AtPriority, Bool, Content, Entry, Guarded, OpenSection}
use Rattle.rt_gen_queue.proofs.Vocabulary.{Location}
use Rattle.rt_gen_queue.proofs.Vocabulary.{Home}
use Rattle.rt_gen_queue.proofs.Vocabulary.{LeavesMine, List, MayLoad, MayStore, Number, Own, Runner, Section}
use Rattle.rt_gen_queue.proofs.Vocabulary.{Configuration}
use Rattle.rt_gen_queue.proofs.Vocabulary.{Starting, TakesOver, Values, [], ap, arith, eq-eqb, eqb-true, false}
use Rattle.rt_gen_queue.proofs.Vocabulary.{false_from_ne_true, get_or-set_other, get_or-set_same, if◌then◌else◌, inl}
use Rattle.rt_gen_queue.proofs.Vocabulary.{inr, is_constant, is_kept, is_open, is_same_location, is_same_section}
use Rattle.rt_gen_queue.proofs.Vocabulary.{length}
use Rattle.rt_gen_queue.proofs.Vocabulary.{list_any, local_is_home, memory, number, one_section, owns, values_with}
use Rattle.rt_gen_queue.proofs.Vocabulary.{reads}
use Rattle.rt_gen_queue.proofs.Vocabulary.{reads_more, refl, resource_is_home, same_section, slice_index, slice_set}
use Rattle.rt_gen_queue.proofs.Vocabulary.{storage, subst, sym, true, ℕ, ◌+◌, ◌<◌, ◌||◌, ◌∙◌, ◌∷◌, ◌≡◌, ◌≢◌, ◌⊎◌}
use Rattle.rt_lemmas.proofs.Membership.{any_one}
use Rattle.rt_ids.specs.declared.ids.Section.TheVariants as section
use Rattle.rt_app.{proofs.Laid.long_enough, specs.Holding.IsHeld}
use Rattle.rt_gen_queue.proofs.Layer.{Here, Reads, Setting, Writes, configuration}

-- the open sections are those of these resources, innermost first
abbrev pub OpenAre : List OpenSection → List ℕ → Type 0
OpenAre [] [] = Unit {0}
OpenAre (h ∷ held) (r ∷ locked) = (h.section ≡ section.Res r) × OpenAre held locked
OpenAre held locked = ⊥

-- so another section is open where it is one of theirs
pub open_as : (held : List OpenSection) (locked : List ℕ) (x : Section) → OpenAre held locked
    → is_open held x ≡ list_any (λ q. is_same_section (section.Res q) x) locked
open_as [] [] x are = refl
open_as [] (q ∷ locked) x are = absurd are
open_as (h ∷ held) [] x are = absurd are
open_as (h ∷ held) (q ∷ locked) x are =
    ap (λ y. is_same_section y x || is_open held x) are.0
    ∙ ap (λ b. is_same_section (section.Res q) x || b) (open_as held locked x are.1)

-- where none of theirs passes for it, it is not
pub not_open : (held : List OpenSection) (locked : List ℕ) (x : Section)
    → ((r : ℕ) → is_same_section (section.Res r) x ≡ false) → OpenAre held locked → is_open held x ≡ false
not_open held locked x apart are =
    let test : ℕ → Bool = λ q. is_same_section (section.Res q) x in
    open_as held locked x are
    ∙ false_from_ne_true (list_any test locked) (λ is. (let one = any_one test locked is in cc (one.3, apart one.1)))

-- what holds something has a cell that represents it
pub record HasCell (app : App) (location : Location) (cell : ℕ) : Type 0 where
  pub home : (storage app).home cell ≡ At location
  pub there : cell < length (memory app)
  pub of : (cells : ℕ → ℕ) (entries : List Entry) (content : Content)
      → (storage app).Represents location cells entries content → content ≡ Number (cells cell)
  pub for : (cells : ℕ → ℕ) (entries : List Entry) (content : Content) → content ≡ Number (cells cell)
      → (storage app).Represents location cells entries content

pub resource_cell : (app : App) (r : ℕ) → r < length app.shared → HasCell app (Guarded (section.Res r)) r
unfolding storage
resource_cell app r within = record {
  home = resource_is_home app r within;
  there = omega (arith, long_enough app);
  of = λ cells entries content represents. represents.1;
  for = λ cells entries content is. (within, is);
}

pub local_cell : (app : App) (n : ℕ) → n < length app.locals → HasCell app (Own n) (length app.shared + n)
unfolding storage
local_cell app n within = record {
  home = local_is_home app n within;
  there = omega (arith, long_enough app);
  of = λ cells entries content represents. represents.1;
  for = λ cells entries content is. (within, is);
}

one_location : (a b : Location) → is_same_location a b ≡ true → a ≡ b
one_location (Guarded a) (Guarded b) is = ap Guarded (one_section a b is)
one_location (Own a) (Own b) is = ap Own (eqb-true a b is)
one_location a b is = absurd cc

same_location : (a : Location) → is_same_location a a ≡ true
same_location (Guarded x) = same_section x
same_location (Own n) = eq-eqb n n refl

same_or_other : (a b : Location) → ((a ≡ b) × (is_same_location a b ≡ true)) ⊎ (is_same_location a b ≡ false)
same_or_other a b = go (is_same_location a b) refl
  where
    go : (c : Bool) → is_same_location a b ≡ c → ((a ≡ b) × (is_same_location a b ≡ true))
        ⊎ (is_same_location a b ≡ false)
    go true is = inl (one_location a b is, is)
    go false is = inr is

-- each location has one cell, and another location has another
one_cell : {app : App} {location : Location} {cell other : ℕ} → HasCell app location cell → HasCell app location other
    → cell ≡ other
one_cell {cell = cell} one two =
    ap number (two.of (λ k. k) [] (Number cell) (one.for (λ k. k) [] (Number cell) refl))

abbrev location_of : Location → Home → Location
location_of none (At h) = h
location_of none home = none

other_cell : {app : App} {one two : Location} {cell other : ℕ} → HasCell app one cell → HasCell app two other
    → is_same_location one two ≡ false → other ≢ cell
other_cell {app = app} {one = one} {two = two} first second differ same =
    let e : At two ≡ At one = sym second.home ∙ ap (storage app).home same ∙ first.home in
    let location : two ≡ one = ap (location_of one) e in
    cc (ap (is_same_location one) location ∙ same_location one, differ)

-- With these sections open, what may be read has the value that is in its cell.
pub record IsRepresented (z : Setting) (held : List OpenSection) (cells : List ℕ) (vs : Values) : Type 0 where
  pub has : {location : Location} {cell : ℕ} → HasCell z.app location cell
      → reads (storage z.app) z.who held location ≡ true → vs location ≡ Number (slice_index cells cell)

may_load : (z : Setting) {location : Location} {cell : ℕ} (s : Configuration) → HasCell z.app location cell
    → reads (storage z.app) z.who s.held location ≡ true → MayLoad (storage z.app) z.who s ((storage z.app).home cell)
may_load z s has may = subst (λ (home : Home). MayLoad (storage z.app) z.who s home) (sym has.home) may

reads_fewer : (z : Setting) (h : OpenSection) (held : List OpenSection) (location : Location)
    → is_same_location (Guarded h.section) location ≡ false
    → reads (storage z.app) z.who (h ∷ held) location ≡ true → reads (storage z.app) z.who held location ≡ true
reads_fewer z h held (Guarded y) other may =
    sym (ap (λ b. ((b || is_open held y) || (storage z.app).is_kept z.who (Guarded y))
    || (storage z.app).is_constant z.who (Guarded y)) other) ∙ may
reads_fewer z h held (Own n) other may = may

module _ {z : Setting} where
  pub reads_cell : {h : Here} {location : Location} {cell : ℕ} {vs : Values} → HasCell z.app location cell
      → reads (storage z.app) z.who h.held location ≡ true → length h.cells ≡ length (memory z.app)
      → IsRepresented z h.held h.cells vs → Reads z h cell (number (vs location))
  reads_cell {h = h} has may long known = record {
    may = may_load z (configuration z h) has may;
    there = omega (arith, has.there);
    is = sym (ap number (known.has has may));
  }

  pub writes_cell : {h : Here} {location : Location} {cell : ℕ} → HasCell z.app location cell
      → owns (storage z.app) z.who h.held location ≡ true → length h.cells ≡ length (memory z.app) → Writes z h cell
  writes_cell {h = h} has may long = record {
    may = subst (λ (home : Home). MayStore (storage z.app) z.who (configuration z h) home) (sym has.home) may;
    there = omega (arith, has.there);
  }

  -- values that agree in what may be read
  pub represented_agreed : {held : List OpenSection} {cells : List ℕ} {vs ws : Values}
      → Agree (storage z.app) z.who held vs ws → IsRepresented z held cells ws → IsRepresented z held cells vs
  represented_agreed agree known = record { has = λ {location} has may. agree location may ∙ known.has has may }

  -- with fewer sections open less is known
  pub represented_outside : {held : List OpenSection} {cells : List ℕ} {vs : Values} (h : OpenSection)
      → IsRepresented z (h ∷ held) cells vs → IsRepresented z held cells vs
  represented_outside {held = held} h known = record {
    has = λ {location} has may. known.has has (reads_more (storage z.app) z.who h held location may);
  }

  -- memory and queues as others left them represent what they represented, where the job may read
  pub represented_left : (s : Configuration) {vs ws : Values} {cells : List ℕ} {queues : Location → List Entry}
      → LeavesMine (storage z.app) z.who s cells queues → Agree (storage z.app) z.who s.held ws vs
      → IsRepresented z s.held s.cells vs → IsRepresented z s.held cells ws
  represented_left s left agree known = record {
    has = λ {location} {cell} has may. agree location may ∙ known.has has may
        ∙ ap Number (sym (left.touched cell (may_load z s has may)));
  }

  -- a section that is entered adds what it guards
  pub represented_inside : (h : OpenSection) (s : Configuration) {values vs : Values} {cells : List ℕ}
      {queues : Location → List Entry}
      → TakesOver (storage z.app) z.who h.section s values vs cells queues → IsRepresented z s.held s.cells values
      → IsRepresented z (h ∷ s.held) cells vs
  represented_inside h s {vs = vs} {cells = cells} {queues = queues} taken known = record {
    has = λ {location} {cell} has may.
        elim (same_or_other (Guarded h.section) location) [
          | inl same ↦ has.of (slice_index cells) (queues location) (vs location)
              (subst (λ (k : Location). (storage z.app).Represents k (slice_index cells) (queues k)
              (vs k)) same.0 taken.represented)
          | inr other ↦
              (represented_left s taken.same taken.agree known).has has (reads_fewer z h s.held location other may)
        ];
  }

  -- what is kept in a cell gets a new value
  pub represented_put : {held : List OpenSection} {cells : List ℕ} {vs : Values} {location : Location} {cell : ℕ}
      (v : ℕ)
      → HasCell z.app location cell → length cells ≡ length (memory z.app) → IsRepresented z held cells vs
      → IsRepresented z held (slice_set cells cell v) (values_with vs location (Number v))
  represented_put {cells = cells} {vs = vs} {location = location} {cell = cell} v has long known = record {
    has = λ {location = other} {cell = c} at may.
        elim (same_or_other location other) [
          | inl same ↦ ap (λ b. if b then Number v else vs other) same.1
              ∙ ap Number (sym (get_or-set_same cells cell v 0 (omega (arith, has.there))))
              ∙ ap (λ k. Number (slice_index (slice_set cells cell v) k))
              (one_cell has (subst (λ (k : Location). HasCell z.app k c) (sym same.0) at))
          | inr apart ↦ ap (λ b. if b then Number v else vs other) apart ∙ known.has at may
              ∙ ap Number (sym (get_or-set_other cells cell c v 0 (other_cell has at apart)))
        ];
  }

-- all that may be read where no section is open is represented by cells
abbrev pub AllRepresented : Setting → List ℕ → (Location → List Entry) → Values → Type 0
AllRepresented z cells queues vs =
    (location : Location) → ((storage z.app).is_kept z.who location || (storage z.app).is_constant z.who location)
    ≡ true
    → (storage z.app).Represents location (slice_index cells) (queues location) (vs location)

read_is : (z : Setting) (location : Location) → reads (storage z.app) z.who [] location
    ≡ ((storage z.app).is_kept z.who location || (storage z.app).is_constant z.who location)
read_is z (Guarded x) = refl
read_is z (Own n) = refl

cell_of : (app : App) (who : Runner) (location : Location)
    → (is_kept app who location || is_constant app who location) ≡ true → IsHeld app location
    → (cell : ℕ) × HasCell app location cell
cell_of app who (Guarded (section.Res r)) may within = (r, resource_cell app r within)
cell_of app who (Own n) may within = (length app.shared + n, local_cell app n within)
cell_of app Starting location may within = absurd cc
cell_of app (AtPriority p) location may within = absurd cc

-- what was represented once, and so has cells, is represented where values are known
pub represented : {z : Setting} {cells : List ℕ} {vs : Values} (before : List ℕ) (queues : Location → List Entry)
    (old : Values) → AllRepresented z before queues old → IsRepresented z [] cells vs → (later : Location → List Entry)
    → AllRepresented z cells later vs
unfolding storage
represented {z = z} {cells = cells} {vs = vs} before queues old taken known later location may =
    let one = cell_of z.app z.who location may (taken location may).0 in
    one.1.for (slice_index cells) (later location) (vs location) (known.has one.1 (read_is z location ∙ may))

-- likewise by values that agree in it
pub all_agreed : (z : Setting) (cells : List ℕ) (queues : Location → List Entry) {us vs : Values}
    → Agree (storage z.app) z.who [] us vs → AllRepresented z cells queues vs → AllRepresented z cells queues us
all_agreed z cells queues agree known location may = rw (agree location (read_is z location ∙ may)) (known location may)

-- and that is known where they do
pub known_of : {z : Setting} {cells : List ℕ} {vs : Values} (queues : Location → List Entry)
    → AllRepresented z cells queues vs → IsRepresented z [] cells vs
known_of {z = z} {cells = cells} {vs = vs} queues taken = record {
  has = λ {location} has may.
      has.of (slice_index cells) (queues location) (vs location) (taken location (sym (read_is z location) ∙ may));
}
