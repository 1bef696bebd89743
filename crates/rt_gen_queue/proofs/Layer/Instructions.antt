-- What each instruction gives where a job is, once for all generated code. Slots are numbered from the frame's first.
use Rattle.rt_gen_queue.proofs.Vocabulary.{AllByRecursion, Bool, OpenSection, Instr, KeepsSaved, Leads, List, MayAccess}
use Rattle.rt_gen_queue.proofs.Vocabulary.{MayLoad, MayStore, Option, Some, all_weaker, ap, false, get_or-set_other}
use Rattle.rt_gen_queue.proofs.Vocabulary.{get_or-set_same, if◌then◌else◌, length, length-set, lt-ltb, nat_lt, operate}
use Rattle.rt_gen_queue.proofs.Vocabulary.{option_map, processor_of, refl, saved_slots, slice_get, slice_get-get_or}
use Rattle.rt_gen_queue.proofs.Vocabulary.{slice_index, slice_set, storage, subst, suc, sym, true, ℕ, ◌&&◌, ◌+◌, ◌<◌}
use Rattle.rt_gen_queue.proofs.Vocabulary.{◌==◌, ◌∙◌, ◌≡◌, ◌≢◌}
use Rattle.std.specs.Option.{option_to_list}
use Rattle.rt_lemmas.proofs.Membership.{all_from_members}
use Rattle.rt_ids.specs.declared.op.Op.{Op}
use Rattle.rt_code.{proofs.Done.effect_is_done, specs.Effect.unchecked_effect, specs.Effect.next}
use Rattle.rt_code.{specs.Effect.next_with_slot}
use Rattle.rt_code.{specs.Operands.are_there, specs.Operands.slots_of, specs.Processor.Processor}
use Rattle.rt_code.specs.Access.{Access, Loads, Stores, access_of, cell_of, cells_of}
use Rattle.rt_code.specs.declared.instr.Instr.TheVariants as instr
use Rattle.rt_code.specs.declared.processor.Request.TheVariants as request
use Rattle.rt_gen_queue.proofs.Layer.{Correct.Gives, Jobs.Here, Jobs.Setting, Jobs.configuration}

-- indices that are there, one by one
pub one_there : (a n : ℕ) → a < n → (nat_lt a n && true) ≡ true
one_there a n h = rw (lt-ltb a n h) refl

pub two_there : (a b n : ℕ) → a < n → b < n → (nat_lt a n && (nat_lt b n && true)) ≡ true
two_there a b n h k = rw (lt-ltb a n h, lt-ltb b n k) refl

pub three_there : (a b c n : ℕ) → a < n → b < n → c < n → (nat_lt a n && (nat_lt b n && (nat_lt c n && true))) ≡ true
three_there a b c n h k l = rw (lt-ltb a n h, lt-ltb b n k, lt-ltb c n l) refl

-- A list has a value at one index, and is as before at the others.
pub record Wrote (d v : ℕ) (before after : List ℕ) : Type 0 where
  pub here : slice_index after d ≡ v
  pub others : (e : ℕ) → e ≢ d → slice_index after e ≡ slice_index before e
  pub long : length after ≡ length before

pub wrote : (d v : ℕ) (words : List ℕ) → d < length words → Wrote d v words (slice_set words d v)
wrote d v words there = record {
  here = get_or-set_same words d v 0 there;
  others = λ e other. get_or-set_other words d e v 0 other;
  long = length-set words d v;
}

-- no open section keeps the mask that it found in this slot
abbrev pub IsFree : List OpenSection → ℕ → Type 0
IsFree held d = AllByRecursion (λ e. e ≢ d) (saved_slots held)

pub kept_free : (held : List OpenSection) (slots : List ℕ) (d v : ℕ) → IsFree held d
    → KeepsSaved held slots (slice_set slots d v)
kept_free held slots d v free =
    all_weaker (λ e. e ≢ d) (λ e. slice_index (slice_set slots d v) e ≡ slice_index slots e)
    (λ e other. get_or-set_other slots d e v 0 other) (saved_slots held) free

pub kept_same : (held : List OpenSection) (slots : List ℕ) → KeepsSaved held slots slots
kept_same held slots =
    all_from_members (λ e. slice_index slots e ≡ slice_index slots e) (saved_slots held) (λ e has. refl)

pub shows : (slots : List ℕ) (s v : ℕ) → s < length slots → slice_index slots s ≡ v → slice_get slots s ≡ Some v
shows slots s v there is = slice_get-get_or slots s 0 there ∙ ap Some is

-- a cell that the job may read, and what it has
pub record Reads (z : Setting) (h : Here) (c value : ℕ) : Type 0 where
  pub may : MayLoad (storage z.app) z.who (configuration z h) ((storage z.app).home c)
  pub there : c < length h.cells
  pub is : slice_index h.cells c ≡ value

-- a cell that the job may write
pub record Writes (z : Setting) (h : Here) (c : ℕ) : Type 0 where
  pub may : MayStore (storage z.app) z.who (configuration z h) ((storage z.app).home c)
  pub there : c < length h.cells

-- the cell that an access touches whose number a slot has
touched : (h : Here) (access : ℕ → Access) (s k : ℕ) → slice_get h.slots s ≡ Some k
    → cell_of (access k) < length h.cells
    → are_there (option_to_list (option_map cell_of (option_map access (slice_get h.slots s)))) h.cells ≡ true
touched h access s k got there =
    subst (λ (o : Option ℕ). are_there (option_to_list (option_map cell_of (option_map access o))) h.cells ≡ true)
    (sym got) (one_there (cell_of (access k)) (length h.cells) there)

may_touch : (z : Setting) (h : Here) (access : ℕ → Access) (s k : ℕ) → slice_get h.slots s ≡ Some k
    → MayAccess (storage z.app) z.who (configuration z h) (Some (access k))
    → MayAccess (storage z.app) z.who (configuration z h) (option_map access (slice_get h.slots s))
may_touch z h access s k got may =
    subst (λ (o : Option ℕ). MayAccess (storage z.app) z.who (configuration z h) (option_map access o)) (sym got) may

module _ {z : Setting} {h : Here} where
  -- an instruction by the table of effects, whose cells and slots are there
  by_table : {to : ℕ} {slots cells : List ℕ} (i : Instr)
      → MayAccess (storage z.app) z.who (configuration z h) (access_of i (processor_of (configuration z h) 0 false))
      → KeepsSaved h.held h.slots slots
      → ((b : ℕ) (m : Bool) → are_there (cells_of i (processor_of (configuration z h) b m)) h.cells ≡ true)
      → are_there (slots_of i) h.slots ≡ true
      → ((time b : ℕ) (m : Bool) → unchecked_effect i time (processor_of (configuration z h) b m)
      ≡ Leads (record { address = to; basepri = b; primask = m; slots = slots; cells = cells }) request.Nothing)
      → Gives z h i slots to cells
  by_table i may kept cells slots leads = record {
    may = may;
    kept = kept;
    leads = λ time b m. effect_is_done i time (processor_of (configuration z h) b m) (cells b m) slots ∙ leads time b m;
  }

  -- one that writes a slot, by the value that it gives
  by_slot : {v w : ℕ} (d : ℕ) (i : Instr) → w ≡ v → IsFree h.held d
      → MayAccess (storage z.app) z.who (configuration z h) (access_of i (processor_of (configuration z h) 0 false))
      → ((b : ℕ) (m : Bool) → are_there (cells_of i (processor_of (configuration z h) b m)) h.cells ≡ true)
      → are_there (slots_of i) h.slots ≡ true
      → ((time b : ℕ) (m : Bool) → unchecked_effect i time (processor_of (configuration z h) b m)
      ≡ Leads (next_with_slot (processor_of (configuration z h) b m) d w) request.Nothing)
      → Gives z h i (slice_set h.slots d v) (suc h.at) h.cells
  by_slot {w = w} d i is free may cells slots leads =
      subst (λ w. Gives z h i (slice_set h.slots d w) (suc h.at) h.cells) is
      (by_table i may (kept_free h.held h.slots d w free) cells slots leads)

  pub set_gives : {d v : ℕ} → d < length h.slots → IsFree h.held d
      → Gives z h (instr.Set d v) (slice_set h.slots d v) (suc h.at) h.cells
  set_gives {d = d} {v = v} there free =
      by_slot d (instr.Set d v) refl free tt (λ b m. refl) (one_there d (length h.slots) there) (λ time b m. refl)

  pub copy_gives : {d s : ℕ} (v : ℕ) → d < length h.slots → s < length h.slots → IsFree h.held d
      → slice_index h.slots s ≡ v → Gives z h (instr.Copy d s) (slice_set h.slots d v) (suc h.at) h.cells
  copy_gives {d = d} {s = s} v there from free is =
      by_slot d (instr.Copy d s) is free tt (λ b m. refl) (two_there d s (length h.slots) there from) (λ time b m. refl)

  pub calc_gives : {op : Op} {d x y : ℕ} (v : ℕ) → d < length h.slots → x < length h.slots → y < length h.slots
      → IsFree h.held d → operate op (slice_index h.slots x) (slice_index h.slots y) ≡ v
      → Gives z h (instr.Calc op d x y) (slice_set h.slots d v) (suc h.at) h.cells
  calc_gives {op = op} {d = d} {x = x} {y = y} v there left right free is =
      by_slot d (instr.Calc op d x y) is free tt (λ b m. refl)
      (three_there d x y (length h.slots) there left right) (λ time b m. refl)

  pub load_gives : {d c : ℕ} (v : ℕ) → d < length h.slots → IsFree h.held d → Reads z h c v
      → Gives z h (instr.Load d c) (slice_set h.slots d v) (suc h.at) h.cells
  load_gives {d = d} {c = c} v there free reads =
      by_slot d (instr.Load d c) reads.is free reads.may (λ b m. one_there c (length h.cells) reads.there)
      (one_there d (length h.slots) there) (λ time b m. refl)

  -- the cell at a distance from another, which is in a slot
  pub load_at_gives : {d c s : ℕ} (k v : ℕ) → d < length h.slots → s < length h.slots → IsFree h.held d
      → slice_index h.slots s ≡ k → Reads z h (c + k) v
      → Gives z h (instr.LoadAt d c s) (slice_set h.slots d v) (suc h.at) h.cells
  load_at_gives {d = d} {c = c} {s = s} k v there from free shown reads =
      let got : slice_get h.slots s ≡ Some k = shows h.slots s k from shown in
      by_slot d (instr.LoadAt d c s) (ap (λ j. slice_index h.cells (c + j)) shown ∙ reads.is) free
      (may_touch z h (λ j. Loads (c + j)) s k got reads.may)
      (λ b m. touched h (λ j. Loads (c + j)) s k got reads.there)
      (two_there d s (length h.slots) there from) (λ time b m. refl)

  pub store_gives : {c s : ℕ} (v : ℕ) → s < length h.slots → slice_index h.slots s ≡ v → Writes z h c
      → Gives z h (instr.Store c s) h.slots (suc h.at) (slice_set h.cells c v)
  store_gives {c = c} {s = s} v from is writes =
      subst (λ w. Gives z h (instr.Store c s) h.slots (suc h.at) (slice_set h.cells c w)) is
      (by_table (instr.Store c s) writes.may (kept_same h.held h.slots)
      (λ b m. one_there c (length h.cells) writes.there) (one_there s (length h.slots) from) (λ time b m. refl))

  pub store_at_gives : {c s a : ℕ} (k v : ℕ) → s < length h.slots → a < length h.slots
      → slice_index h.slots s ≡ k → slice_index h.slots a ≡ v → Writes z h (c + k)
      → Gives z h (instr.StoreAt c s a) h.slots (suc h.at) (slice_set h.cells (c + k) v)
  store_at_gives {c = c} {s = s} {a = a} k v from of shown is writes =
      let got : slice_get h.slots s ≡ Some k = shows h.slots s k from shown in
      subst (λ w. Gives z h (instr.StoreAt c s a) h.slots (suc h.at) (slice_set h.cells (c + k) w)) is
      (subst (λ j. Gives z h (instr.StoreAt c s a) h.slots (suc h.at)
      (slice_set h.cells (c + j) (slice_index h.slots a))) shown
      (by_table (instr.StoreAt c s a) (may_touch z h (λ j. Stores (c + j)) s k got writes.may)
      (kept_same h.held h.slots) (λ b m. touched h (λ j. Stores (c + j)) s k got writes.there)
      (two_there s a (length h.slots) from of) (λ time b m. refl)))

  pub mark_gives : Gives z h instr.Mark h.slots (suc h.at) h.cells
  mark_gives = by_table instr.Mark tt (kept_same h.held h.slots) (λ b m. refl) refl (λ time b m. refl)

  pub jump_gives : {to : ℕ} → Gives z h (instr.Jump to) h.slots to h.cells
  jump_gives {to = to} = by_table (instr.Jump to) tt (kept_same h.held h.slots) (λ b m. refl) refl (λ time b m. refl)

  -- a jump that is taken where a slot is 0, by whether it is
  pub jump_by_gives : {s to : ℕ} (test : Bool) → s < length h.slots → (slice_index h.slots s == 0) ≡ test
      → Gives z h (instr.JumpZ s to) h.slots (if test then to else suc h.at) h.cells
  jump_by_gives {s = s} {to = to} test from is =
      by_table (instr.JumpZ s to) tt (kept_same h.held h.slots) (λ b m. refl) (one_there s (length h.slots) from)
      (λ time base m.
      ap (λ b. Leads (if b then record (processor_of (configuration z h) base m) { address = to } else next
      (processor_of (configuration z h) base m)) request.Nothing) is
      ∙ chosen test (processor_of (configuration z h) base m) to)
    where
      chosen : (b : Bool) (p : Processor) (to : ℕ)
          → Leads (if b then record p { address = to } else next p) request.Nothing
          ≡ Leads (record p { address = if b then to else suc p.address }) request.Nothing
      chosen true p to = refl
      chosen false p to = refl
