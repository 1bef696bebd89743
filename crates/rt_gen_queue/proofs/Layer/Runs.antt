-- Lines that run one after another on a window of the frame, their slots numbered from the window's first. That they
-- are in the code, that there is time for them, and that they write free slots of the window is asked once for all of
-- them; each line then asks for what it alone needs.
use Rattle.rt_gen_queue.proofs.Vocabulary.{At, Bool, Guarded, HasCodeAt, Instr, Line, List, Note, Section, [], and_left}
use Rattle.rt_gen_queue.proofs.Vocabulary.{and_right, ap, arith, false, home_of, is_open, length, length-set, ltb-true}
use Rattle.rt_gen_queue.proofs.Vocabulary.{map, memory, nat_tests, operate, option_map, plain, refl, slice_index}
use Rattle.rt_gen_queue.proofs.Vocabulary.{slice_set, subst, suc, true, ℕ, ◌&&◌, ◌+◌, ◌<◌, ◌==◌, ◌∙◌, ◌∷◌, ◌≡◌}
use Rattle.rt_ids.specs.declared.op.Op.{Op}
use Rattle.rt_code.specs.declared.instr.Instr.TheVariants as instr
use Rattle.rt_code.specs.declared.instr.Note.TheVariants as note
use Rattle.rt_gen_queue.proofs.Layer.Correct.{Gives, S, goes}
use Rattle.rt_gen_queue.proofs.Layer.Instructions.{IsFree, Reads, Writes, Wrote, calc_gives, copy_gives, jump_by_gives}
use Rattle.rt_gen_queue.proofs.Layer.Instructions.{jump_gives, load_at_gives, load_gives, set_gives, store_at_gives}
use Rattle.rt_gen_queue.proofs.Layer.Instructions.{store_gives, wrote}
use Rattle.rt_gen_queue.proofs.Layer.Jobs.{Here, InTime, Setting, lasts_less, configuration}
use Rattle.rt_gen_queue.proofs.Layer.Window.{Frame, Now, Saves, free_there, is_free, is_there, window, window_free}
use Rattle.rt_gen_queue.proofs.Layer.Window.{window_read, window_set, window_there}
use Rattle.rt_gen_queue.proofs.Owning.{at_in_memory, loads_open, stores_open}

-- an instruction whose slots are numbered from a slot on
abbrev pub shifted : ℕ → Instr → Instr
shifted s (instr.Set d v) = instr.Set (s + d) v
shifted s (instr.Copy d x) = instr.Copy (s + d) (s + x)
shifted s (instr.Calc op d x y) = instr.Calc op (s + d) (s + x) (s + y)
shifted s (instr.Load d c) = instr.Load (s + d) c
shifted s (instr.Store c x) = instr.Store c (s + x)
shifted s (instr.LoadAt d c x) = instr.LoadAt (s + d) c (s + x)
shifted s (instr.StoreAt c x a) = instr.StoreAt c (s + x) (s + a)
shifted s (instr.JumpZ x to) = instr.JumpZ (s + x) to
shifted s (instr.Emit x) = instr.Emit (s + x)
shifted s (instr.Clock d) = instr.Clock (s + d)
shifted s (instr.Alarm x irq) = instr.Alarm (s + x) irq
shifted s (instr.Raise d v) = instr.Raise (s + d) v
shifted s (instr.Restore x) = instr.Restore (s + x)
shifted s (instr.Mask d) = instr.Mask (s + d)
shifted s (instr.Unmask x) = instr.Unmask (s + x)
shifted s (instr.Call row from) = instr.Call row (s + from)
shifted s i = i

-- its note likewise
abbrev pub shifted_note : ℕ → Note → Note
shifted_note s (note.Start t from) = note.Start t (s + from)
shifted_note s (note.Arm t x) = note.Arm t (s + x)
shifted_note s (note.Cancel t x) = note.Cancel t (s + x)
shifted_note s (note.Move t x from) = note.Move t (s + x) (s + from)
shifted_note s told = told

abbrev pub placed : ℕ → Line → Line
placed s line = (shifted s line.0, option_map (shifted_note s) line.1)

-- a silent instruction names slots of a window of so many alone, and writes none that is for a mask
abbrev pub fits : ℕ → ℕ → Instr → Bool
fits size mask (instr.Set d v) = is_free size mask d
fits size mask (instr.Copy d x) = is_free size mask d && is_there size x
fits size mask (instr.Calc op d x y) = is_free size mask d && (is_there size x && is_there size y)
fits size mask (instr.Load d c) = is_free size mask d
fits size mask (instr.Store c x) = is_there size x
fits size mask (instr.LoadAt d c x) = is_free size mask d && is_there size x
fits size mask (instr.StoreAt c x a) = is_there size x && is_there size a
fits size mask (instr.JumpZ x to) = is_there size x
fits size mask (instr.Emit x) = is_there size x
fits size mask (instr.Clock d) = is_free size mask d
fits size mask (instr.Alarm x irq) = is_there size x
fits size mask i = true

abbrev pub all_fit : ℕ → ℕ → List Line → Bool
all_fit size mask [] = true
all_fit size mask (line ∷ lines) = fits size mask line.0 && all_fit size mask lines

module _ {size mask : ℕ} where
  -- what is asked of all lines of a run together
  pub record MayRun (f : Frame size mask) (lines : List Line) (h : Here) (ws : List ℕ) : Type 0 where
    pub time : InTime (h.done + length lines) h
    pub saves : Saves f h.held
    pub long : length ws ≡ size
    pub fit : all_fit size mask lines ≡ true

  -- code that goes on with these lines is correct, with these words in the window
  pub record Straight (z : Setting) (f : Frame size mask) (lines : List Line) (h : Here) (ws : List ℕ) : Type 0 where
    pub runs : MayRun f lines h ws → HasCodeAt z.code h.at (map (placed f.slot) lines) → S z (Now f h ws)

  -- there is time for the next line
  pub next_in_time : {f : Frame size mask} {line : Line} {lines : List Line} {h : Here} {ws : List ℕ}
      → MayRun f (line ∷ lines) h ws → InTime (suc h.done) h
  next_in_time {lines = lines} {h = h} may =
      lasts_less (suc h.done) (h.done + suc (length lines)) (h.until ∷ h.deadlines) (omega arith) may.time

  -- and the lines after it may run
  pub may_go_on : {f : Frame size mask} {line : Line} {lines : List Line} {h : Here} {ws : List ℕ}
      (to : ℕ) (cells after : List ℕ) → length after ≡ length ws → MayRun f (line ∷ lines) h ws
      → MayRun f lines (record h { done = suc h.done; at = to; cells = cells }) after
  may_go_on {line = line} {lines = lines} {h = h} to cells after long may = record {
    time = lasts_less (suc h.done + length lines) (h.done + suc (length lines)) (h.until ∷ h.deadlines) (omega arith)
        may.time;
    saves = may.saves;
    long = long ∙ may.long;
    fit = and_right _ _ may.fit;
  }

  module _ {f : Frame size mask} {line : Line} {lines : List Line} {h : Here} {ws : List ℕ} where
    -- the first line fits
    pub first_fits : MayRun f (line ∷ lines) h ws → fits size mask line.0 ≡ true
    first_fits may = and_left _ _ may.fit

    -- a slot that an instruction reads is in the frame, and what it has
    pub is_in : (x : ℕ) → MayRun f (line ∷ lines) h ws → is_there size x ≡ true → x < length ws
    is_in x may there = omega (arith, may.long, ltb-true x size there)

    pub slot_of : (x : ℕ) → MayRun f (line ∷ lines) h ws → is_there size x ≡ true → f.slot + x < length (window f ws)
    slot_of x may there = window_there f ws x (is_in x may there)

    -- so is one that it may write
    pub slot_free : (d : ℕ) → MayRun f (line ∷ lines) h ws → is_free size mask d ≡ true
        → f.slot + d < length (window f ws)
    slot_free d may free = window_there f ws d (omega (arith, may.long, free_there size mask d free))

    pub word_of : (x v : ℕ) → MayRun f (line ∷ lines) h ws → is_there size x ≡ true → slice_index ws x ≡ v
        → slice_index (window f ws) (f.slot + x) ≡ v
    word_of x v may there is = window_read f ws x (is_in x may there) ∙ is

  -- the next lines, with these cells and words
  abbrev pub Next : Setting → Frame size mask → List Line → Here → List ℕ → List ℕ → Type 0
  Next z f lines h cells after = Straight z f lines (record h { done = suc h.done; at = suc h.at; cells = cells }) after

  -- where no line is left
  pub ends : {z : Setting} {f : Frame size mask} {h : Here} {ws : List ℕ} → S z (Now f h ws) → Straight z f [] h ws
  ends on = record { runs = λ may has. on }

  module _ {z : Setting} {f : Frame size mask} {lines : List Line} {h : Here} {ws : List ℕ} where
    -- a silent line that leads to the next one
    pub goes_on : (i : Instr) (cells after : List ℕ) → length after ≡ length ws
        → (MayRun f (plain i ∷ lines) h ws
        → Gives z (Now f h ws) (shifted f.slot i) (window f after) (suc h.at) cells)
        → Next z f lines h cells after → Straight z f (plain i ∷ lines) h ws
    goes_on i cells after long gives on = record {
      runs = λ may has. goes has.0 (next_in_time may) (gives may)
          (on.runs (may_go_on (suc h.at) cells after long may) has.1);
    }

    -- an instruction that writes a slot of the window, and nothing else
    writes : (i : Instr) (d v : ℕ) → (MayRun f (plain i ∷ lines) h ws → is_free size mask d ≡ true)
        → (MayRun f (plain i ∷ lines) h ws → IsFree h.held (f.slot + d) → f.slot + d < length (window f ws)
        → Gives z (Now f h ws) (shifted f.slot i) (slice_set (window f ws) (f.slot + d) v) (suc h.at) h.cells)
        → Next z f lines h h.cells (slice_set ws d v) → Straight z f (plain i ∷ lines) h ws
    writes i d v is_free gives on =
        goes_on i h.cells (slice_set ws d v) (length-set ws d v)
        (λ may.
        let free = is_free may in
        let there : d < length ws = omega (arith, may.long, free_there size mask d free) in
        subst (λ slots. Gives z (Now f h ws) (shifted f.slot i) slots (suc h.at) h.cells)
        (window_set f ws d v there)
        (gives may (window_free f h.held d free may.saves) (window_there f ws d there))) on

    -- a slot gets a number
    pub sets : {d v : ℕ} → Next z f lines h h.cells (slice_set ws d v)
        → Straight z f (plain (instr.Set d v) ∷ lines) h ws
    sets {d = d} {v = v} on =
        writes (instr.Set d v) d v (λ may. first_fits may) (λ may free there. set_gives there free) on

    -- a slot gets what another has
    pub copies : {d x : ℕ} → Next z f lines h h.cells (slice_set ws d (slice_index ws x))
        → Straight z f (plain (instr.Copy d x) ∷ lines) h ws
    copies {d = d} {x = x} on =
        let v : ℕ = slice_index ws x in
        writes (instr.Copy d x) d v (λ may. and_left _ _ (first_fits may)) (λ may free there.
        let from = and_right _ _ (first_fits may) in
        copy_gives v there (slot_of x may from) free (word_of x v may from refl)) on

    -- a slot gets what an operation gives on two
    pub calculates : {op : Op} {d x y : ℕ} (value : ℕ) → operate op (slice_index ws x) (slice_index ws y) ≡ value
        → Next z f lines h h.cells (slice_set ws d value) → Straight z f (plain (instr.Calc op d x y) ∷ lines) h ws
    calculates {op = op} {d = d} {x = x} {y = y} value is on =
        writes (instr.Calc op d x y) d value (λ may. and_left _ _ (first_fits may)) (λ may free there.
        let both = and_right _ _ (first_fits may) in
        let left = and_left _ _ both in
        let right = and_right _ _ both in
        calc_gives value there (slot_of x may left) (slot_of y may right) free
        (ap (λ k. operate op k (slice_index (window f ws) (f.slot + y))) (word_of x (slice_index ws x) may left refl)
        ∙ ap (operate op (slice_index ws x)) (word_of y (slice_index ws y) may right refl) ∙ is)) on

    -- a slot gets what a cell has
    pub loads : {d c : ℕ} (value : ℕ) → Reads z (Now f h ws) c value → Next z f lines h h.cells (slice_set ws d value)
        → Straight z f (plain (instr.Load d c) ∷ lines) h ws
    loads {d = d} {c = c} value reads on =
        writes (instr.Load d c) d value (λ may. first_fits may) (λ may free there. load_gives value there free reads) on

    -- a slot gets what a cell has, by the number in another slot
    pub loads_at : {d c x : ℕ} (k value : ℕ) → slice_index ws x ≡ k → Reads z (Now f h ws) (c + k) value
        → Next z f lines h h.cells (slice_set ws d value) → Straight z f (plain (instr.LoadAt d c x) ∷ lines) h ws
    loads_at {d = d} {c = c} {x = x} k value shown reads on =
        writes (instr.LoadAt d c x) d value (λ may. and_left _ _ (first_fits may)) (λ may free there.
        let from = and_right _ _ (first_fits may) in
        load_at_gives k value there (slot_of x may from) free (word_of x k may from shown) reads) on

    -- a cell gets what a slot has
    pub stores : {c x : ℕ} (value : ℕ) → slice_index ws x ≡ value → Writes z (Now f h ws) c
        → ((left : List ℕ) → Wrote c value h.cells left → Next z f lines h left ws)
        → Straight z f (plain (instr.Store c x) ∷ lines) h ws
    stores {c = c} {x = x} value is writes on =
        goes_on (instr.Store c x) (slice_set h.cells c value) ws refl
        (λ may. store_gives value (slot_of x may (first_fits may)) (word_of x value may (first_fits may) is) writes)
        (on (slice_set h.cells c value) (wrote c value h.cells writes.there))

    -- a cell gets what a slot has, by the number in another slot
    pub stores_at : {c x a : ℕ} (k value : ℕ) → slice_index ws x ≡ k → slice_index ws a ≡ value
        → Writes z (Now f h ws) (c + k)
        → ((left : List ℕ) → Wrote (c + k) value h.cells left → Next z f lines h left ws)
        → Straight z f (plain (instr.StoreAt c x a) ∷ lines) h ws
    stores_at {c = c} {x = x} {a = a} k value shown is writes on =
        goes_on (instr.StoreAt c x a) (slice_set h.cells (c + k) value) ws refl
        (λ may.
        let from = and_left _ _ (first_fits may) in
        let of = and_right _ _ (first_fits may) in
        store_at_gives k value (slot_of x may from) (slot_of a may of) (word_of x k may from shown)
        (word_of a value may of is) writes)
        (on (slice_set h.cells (c + k) value) (wrote (c + k) value h.cells writes.there))

    -- a jump
    pub jumps : {to : ℕ} → S z (Now f (record h { done = suc h.done; at = to }) ws)
        → Straight z f (plain (instr.Jump to) ∷ lines) h ws
    jumps {to = to} on = record { runs = λ may has. goes has.0 (next_in_time may) jump_gives on }

    -- a jump where a slot is 0: taken where it is, and else the next line
    pub jumps_off : {x to : ℕ} → slice_index ws x ≡ 0 → S z (Now f (record h { done = suc h.done; at = to }) ws)
        → Straight z f (plain (instr.JumpZ x to) ∷ lines) h ws
    jumps_off {x = x} {to = to} is on = record {
      runs = λ may has. goes has.0 (next_in_time may)
          (jump_by_gives true (slot_of x may (first_fits may)) (ap (λ k. k == 0) (word_of x 0 may (first_fits may) is)))
          on;
    }

    pub stays : {x to : ℕ} → 0 < slice_index ws x → Next z f lines h h.cells ws
        → Straight z f (plain (instr.JumpZ x to) ∷ lines) h ws
    stays {x = x} {to = to} some on =
        goes_on (instr.JumpZ x to) h.cells ws refl
        (λ may. jump_by_gives false (slot_of x may (first_fits may))
        (ap (λ k. k == 0) (word_of x (slice_index ws x) may (first_fits may) refl) ∙ is_not (slice_index ws x) some)) on
      where
        is_not : (k : ℕ) → 0 < k → (k == 0) ≡ false
        is_not k some = grind (arith, nat_tests)

-- a cell of a queue whose section is open
pub record Opens (z : Setting) (h : Here) (x : Section) (c : ℕ) : Type 0 where
  pub opens : is_open h.held x ≡ true
  pub long : length h.cells ≡ length (memory z.app)
  pub home : home_of z.app c ≡ At (Guarded x)

pub reads_open : {z : Setting} {h : Here} {x : Section} {c v : ℕ} → Opens z h x c → slice_index h.cells c ≡ v
    → Reads z h c v
reads_open {z = z} {h = h} {x = x} {c = c} opens is = record {
  may = loads_open z.app z.who (configuration z h) c x opens.home opens.opens;
  there = omega (arith, opens.long, at_in_memory z.app c _ opens.home);
  is = is;
}

pub writes_open : {z : Setting} {h : Here} {x : Section} {c : ℕ} → Opens z h x c → Writes z h c
writes_open {z = z} {h = h} {x = x} {c = c} opens = record {
  may = stores_open z.app z.who (configuration z h) c x opens.home opens.opens;
  there = omega (arith, opens.long, at_in_memory z.app c _ opens.home);
}
