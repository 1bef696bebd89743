-- Interrupted jobs are in their phases, whatever runs above them.
use Rattle.std.proofs.Common.{◌≡◌, ◌≢◌, ◌∙◌, ℕ, ◌+◌, ◌*◌, ◌/◌, ◌%◌, ◌^◌, ◌<◌, ◌≤◌, inr, ⊎_elim}
use Rattle.std.proofs.Common.{Bool, true, false, not, List, [], ◌∷◌, sym, refl, ap, subst, arith, length}
use Rattle.std.proofs.lemmas.Bool.{cases_eq}
use Rattle.std.proofs.lemmas.Bool.Decides.{nat_tests}
use Rattle.std.proofs.lemmas.List.{length-set, length-replicate, get_or-set_same, get_or-set_other}
use Rattle.std.specs.List.{AllByRecursion, filter}
use Rattle.std.specs.Prelude.{if◌then◌else◌, ◌==◌, min, nat_lt, nat_eq, slice_index_or, slice_set, Option, Some}
use mathlib.Core.Path.{fun_ext}
use Rattle.rt_code.specs.Image.{Image}
use Rattle.rt_code.specs.declared.image.Handler.{Handler}
use Rattle.rt_core.specs.Core.{Core, Context}
use Rattle.rt_core.specs.Priority.{base_value, execution, mask_value, running_value}
use Rattle.rt_core.specs.Transfer.{core_after_entry}
use Rattle.rt_ids.specs.Operation.{number_of}
use Rattle.rt_native.specs.Service.{stub}
use Rattle.rt_native.specs.declared.outside.Outside.{Outside}
use Rattle.rt_native.specs.declared.target.Input.{Input}
use Rattle.rt_thumb.specs.Exceptions.{external, entered, popped, flags_of, even, with_words, status_word}
use Rattle.rt_thumb.specs.Exceptions.{return_to_thread, return_to_handler}
use Rattle.rt_thumb.specs.Machine.{Machine, Flags, word_at, with_word, with_register}
use Rattle.rt_thumb.specs.Step.{Program}
use Rattle.rt_native_laws.specs.Going.{HasCode}
use Rattle.rt_native_laws.specs.InTail.{Debt}
use Rattle.rt_native_laws.specs.Moments.{Last, Taking}
use Rattle.rt_native_laws.specs.Own.{Spans}
use Rattle.rt_native_laws.specs.Phases.{Entering, OthersRan, Phase, tail_of, viewed}
use Rattle.rt_native_laws.specs.Saving.{CanBeInterrupted, HasAgain}
use Rattle.rt_native_laws.specs.Standing.{HoldsWords, IsLaidOut, Shows, frame_bytes}
use Rattle.rt_native_laws.specs.Waiting.{FunctionCalls, KeepsAbove, Waiting, WaitingIsKept, EntryAddsAJob, EntryBegins}
use Rattle.rt_native_laws.specs.Waiting.{resumed}
use Rattle.rt_native_laws.specs.Waiting.{return_value, IsFresh, KeepsTail, interrupted_core, context_of, others_tail}
use Rattle.rt_native_laws.proofs.Pieces.{other}
use Rattle.rt_native_laws.proofs.Private.{equals}
use Rattle.rt_native_laws.proofs.Saving.{entry_is_undone, entry_pushes_below, stack_is as pushed_stack}
use Rattle.rt_native_laws.proofs.Shapes.{stub_has_first}
use Rattle.rt_native_laws.proofs.Showing.{job_is_kept, phases_show}
use Rattle.rt_native_laws.proofs.Tails.{keeps_entered, keeps_in, none_then}
use Rattle.rt_native_laws.proofs.Tests.{is_less, not_less, not_equal, same_number}
use Rattle.rt_native_laws.proofs.Unopened.{IsUnopened}
use Rattle.rt_native_laws.proofs.Viewing.{view_shows, view_words, views_keep}

-- two choices by the same tests
chosen : (a b c d : Bool) (s s2 t t2 u u2 v v2 w w2 : ℕ) → (a ≡ true → s ≡ s2) → t ≡ t2 → u ≡ u2 → v ≡ v2
    → (a ≡ false → b ≡ false → c ≡ false → w ≡ w2)
    → (if a then s else if b then t else if c then u else if d then v else w)
    ≡ (if a then s2 else if b then t2 else if c then u2 else if d then v2 else w2)
chosen true b c d s s2 t t2 u u2 v v2 w w2 f g h i j = f refl
chosen false true c d s s2 t t2 u u2 v v2 w w2 f g h i j = g
chosen false false true d s s2 t t2 u u2 v v2 w w2 f g h i j = h
chosen false false false true s s2 t t2 u u2 v v2 w w2 f g h i j = i
chosen false false false false s s2 t t2 u u2 v v2 w w2 f g h i j = j refl refl refl

differs_12 : (k : ℕ) → (k == 12) ≡ false → k ≢ 12
differs_12 k h e = grind (arith, nat_tests)

differs : (k : ℕ) → (k == 13) ≡ false → k ≢ 13
differs k h e = grind (arith, nat_tests)

differs_14 : (k : ℕ) → (k == 14) ≡ false → k ≢ 14
differs_14 k h e = grind (arith, nat_tests)

none_of : (a b c d : Bool) (s t u v w : ℕ) → a ≡ false → b ≡ false → c ≡ false → d ≡ false
    → (if a then s else if b then t else if c then u else if d then v else w) ≡ w
none_of false false false false s t u v w f g h i = refl
none_of false false false true s t u v w f g h i = absurd (cc)
none_of false false true d s t u v w f g h i = absurd (cc)
none_of false true c d s t u v w f g h i = absurd (cc)
none_of true b c d s t u v w f g h i = absurd (cc)

-- What a job sees that was interrupted, before and behind what runs above it.
module _ (at : Outside) (priority top : ℕ) (m n : Machine) (keeps : KeepsAbove at top m n) (aligned : top % 8 ≡ 0)
    (below : top + 32 ≤ at.cells) where
  abbrev before : Machine
  before = resumed priority top m

  abbrev after : Machine
  after = resumed priority top n

  stacked : (k : ℕ) → k < 8 → word_at n (top + 4 * k) ≡ word_at m (top + 4 * k)
  stacked k l = keeps.memory ((top + 4 * k) / 4) (omega (arith, aligned)) (omega (arith, aligned, l, below))

  abbrev stack_by : ℕ → ℕ
  stack_by status = top + 32 + 4 * (status / 2 ^ 9 % 2)

  pub register_same : (k : ℕ) → after.register k ≡ before.register k
  register_same k =
      chosen (nat_lt k 4) (k == 12) (k == 13) (k == 14) _ _ _ _ _ _ _ _ _ _
      (λ l. stacked k (omega (arith, is_less k 4 l))) (stacked 4 (omega arith))
      (ap stack_by (stacked 7 (omega arith))) (stacked 5 (omega arith))
      (λ l g f. ap (λ (v : ℕ). if k == 13 then top else v)
      (keeps.registers k (not_less k 4 l) (differs_12 k g) (differs k f)))

  -- the state, by what might have changed
  abbrev made : (ℕ → ℕ) → ℕ → ℕ → ℕ → List ℕ → Machine
  made register address status exception active = record after {
    register = register;
    address = even address;
    flags = flags_of status;
    exception = status % 2 ^ 9;
    active = filter (λ e. not (nat_eq e exception)) active;
  }

  pub resumed_same : after ≡ record before {
    memory = after.memory;
    is_pending = after.is_pending;
    is_unsettled = after.is_unsettled;
    seen = after.seen;
  }
  resumed_same =
      ap (λ (f : ℕ → ℕ). made f (word_at n (top + 4 * 6)) (word_at n (top + 4 * 7)) n.exception n.active)
      (fun_ext register_same)
      ∙ (ap (λ (f : ℕ). made before.register f (word_at n (top + 4 * 7)) n.exception n.active)
      (stacked 6 (omega arith))
      ∙ (ap (λ (f : ℕ). made before.register (word_at m (top + 4 * 6)) f n.exception n.active)
      (stacked 7 (omega arith))
      ∙ (ap (λ (f : ℕ). made before.register (word_at m (top + 4 * 6)) (word_at m (top + 4 * 7)) f n.active)
      keeps.exception
      ∙ ap (made before.register (word_at m (top + 4 * 6)) (word_at m (top + 4 * 7)) m.exception) keeps.active)))

  pub active_same : after.active ≡ before.active
  active_same = ap (λ (x : Machine). x.active) resumed_same

  pub exception_same : after.exception ≡ before.exception
  exception_same = ap (λ (x : Machine). x.exception) resumed_same

  -- it keeps what lies above, further up
  pub above_kept : (next : ℕ) → top ≤ next → KeepsAbove at next before after
  above_kept next h = record {
    registers = λ k l f g. register_same k;
    memory = λ k l f. keeps.memory k (omega (arith, h, l)) f;
    exception = exception_same;
    active = active_same;
  }

  -- words in registers and memory
  word_by : (a b c d : Bool) (s t u v w : ℕ) → s < 2 ^ 32 → t < 2 ^ 32 → u < 2 ^ 32 → v < 2 ^ 32 → w < 2 ^ 32
      → (if a then s else if b then t else if c then u else if d then v else w) < 2 ^ 32
  word_by true b c d s t u v w f g h i j = f
  word_by false true c d s t u v w f g h i j = g
  word_by false false true d s t u v w f g h i j = h
  word_by false false false true s t u v w f g h i j = i
  word_by false false false false s t u v w f g h i j = j

  either : (b : Bool) (s t : ℕ) → s < 2 ^ 32 → t < 2 ^ 32 → (if b then s else t) < 2 ^ 32
  either true s t h i = h
  either false s t h i = i

  pub words_resumed : priority < 2 ^ 8 → top < 2 ^ 32 → before.register 13 < 2 ^ 32 → HoldsWords n → HoldsWords after
  words_resumed small low stack words = record {
    registers = λ k.
        word_by (nat_lt k 4) (k == 12) (k == 13) (k == 14) _ _ _ _ _ (words.memory ((top + 4 * k) / 4))
        (words.memory ((top + 4 * 4) / 4)) (subst (λ (x : ℕ). x < 2 ^ 32) (sym (register_same 13)) stack)
        (words.memory ((top + 4 * 5) / 4)) (either (k == 13) top (n.register k) low (words.registers k));
    memory = words.memory;
    base_priority = small;
  }

-- Jobs that wait are kept.
module _ (at : Outside) (bottom highest ceiling : ℕ) (inputs : List Input) (calls : FunctionCalls) (img : Image)
    (places : List ℕ)
    (p : Program) (port : p.port ≡ at.port)
  where
    abbrev Jobs : Option Debt → List Taking → List Context → Core → ℕ → Machine → Type 0
    Jobs tail takings below c top m = Waiting at bottom highest ceiling inputs calls img places p tail takings below c
        top m

    -- the next one
    module _ (priority : ℕ) (x : Context) (below : List Context) (c d : Core) (top : ℕ) (m n : Machine)
        (laid : IsLaidOut at bottom (length c.processor.cells))
        (as_many : length d.processor.cells ≡ length c.processor.cells) (stopped : d.stopped ≡ c.stopped)
        (keeps : KeepsAbove at top m n) (shown : Shows at d n) (words : HoldsWords n) (aligned : top % 8 ≡ 0)
        (small : priority < 2 ^ 8) (next : ℕ) (up : top + 32 ≤ (resumed priority top m).register 13)
        (within : next ≤ at.cells) (fits : (resumed priority top m).register 13 ≤ next) where
      abbrev there : Core
      there = interrupted_core priority c x below

      abbrev there_now : Core
      there_now = interrupted_core priority d x below

      low : top + 32 ≤ at.cells
      low = omega (arith, up, within, fits)

      words_now : HoldsWords (resumed priority top n)
      words_now =
          words_resumed at priority top m n keeps aligned low small (omega (arith, low, laid.time, laid.in_memory))
          (omega (arith, within, fits, laid.time, laid.in_memory)) words

      shown_now : Shows at there_now (resumed priority top n)
      shown_now = record {
        base_priority = refl;
        is_masked = refl;
        cells = shown.cells;
        time = shown.time;
        alarm = shown.alarm;
        pending = shown.pending;
      }

      others : OthersRan at ((resumed priority top m).register 13) next there there_now (resumed priority top m)
          (resumed priority top n)
      others = record {
        core = ap (λ (b : Bool). record there_now { stopped = b }) stopped;
        as_many = as_many;
        processor = record {
          rest = resumed_same at priority top m n keeps aligned low;
          memory = λ k f t. keeps.memory k (omega (arith, f, up)) (omega (arith, t, within, laid.aligned));
        };
        settled = refl;
        cells = shown.cells;
        time = shown.time;
        alarm = shown.alarm;
        pending = shown.pending;
        words = words_now;
      }

    kept : (tail now : Option Debt) (takings : List Taking) (below : List Context) (c d : Core) (top : ℕ)
        (m n : Machine) → IsLaidOut at bottom (length c.processor.cells)
        → length d.processor.cells ≡ length c.processor.cells → d.stopped ≡ c.stopped
        → KeepsAbove at top m n → Shows at d n → HoldsWords n → KeepsTail tail now c d
        → Jobs tail takings below c top m → Jobs now takings below d top n
    kept tail now [] [] c d top m n laid as_many stopped keeps shown words meanwhile jobs =
        (jobs.0, keeps.exception ∙ jobs.1, keeps.active ∙ jobs.2, none_then tail now c d meanwhile jobs.3)
    kept tail now [] (x ∷ below) c d top m n laid as_many stopped keeps shown words meanwhile jobs = absurd jobs
    kept tail now (taking ∷ takings) [] c d top m n laid as_many stopped keeps shown words meanwhile jobs = absurd jobs
    kept tail now (taking ∷ takings) (x ∷ below) c d top m n laid as_many stopped keeps shown words meanwhile
        (aligned, small, runs, active, link, up, next, within, fits, higher, phase, fresh, more) =
        let priority = taking.base_priority in
        let back = resumed priority top m in
        let back_now = resumed priority top n in
        let there = interrupted_core priority c x below in
        let there_now = interrupted_core priority d x below in
        let room : top + 32 ≤ at.cells = omega (arith, up, within.0, fits) in
        let stack = register_same at priority top m n keeps aligned room 13 in
        let ran = others priority x below c d top m n laid as_many stopped keeps shown words aligned small next up
        within.0 fits in
        let above = above_kept at priority top m n keeps aligned room next (omega (arith, up, fits)) in
        let job = job_is_kept at bottom img places p there there_now next back back_now laid port ran highest ceiling
        inputs calls tail now taking.last (keeps_in priority x below c d tail now meanwhile) phase fresh in (
          aligned,
          small,
          keeps.exception ∙ runs,
          keeps.active ∙ (active ∙ ap (λ (es : List ℕ). external x.irq ∷ es)
              (sym (active_same at priority top m n keeps aligned room))),
          keeps.registers 14 (omega arith) (λ e. omega (arith, e)) (λ e. omega (arith, e)) ∙ (link ∙ ap return_value
              (sym (exception_same at priority top m n keeps aligned room))),
          subst (λ (y : ℕ). top + 32 ≤ y) (sym stack) up,
          next,
          within,
          subst (λ (y : ℕ). y ≤ next) (sym stack) fits,
          higher,
          job.0,
          job.1,
          kept (others_tail (tail_of at bottom img places p there next back phase) tail)
              (others_tail (tail_of at bottom img places p there_now next back_now job.0) now) takings below there
              there_now next (viewed at bottom img places p there next back phase)
              (viewed at bottom img places p there_now next back_now job.0) laid as_many stopped
              (views_keep at bottom img places p there there_now next next back back_now phase job.0 next
              (λ k h f g. ap (λ (r : ℕ → ℕ). r k) job.3) above.memory above.exception above.active)
              (view_shows at bottom img places p there_now next back_now job.0 there_now
              (shown_now priority x below c d top m n laid as_many stopped keeps shown words aligned small next up
              within.0 fits)) (view_words at bottom img places p there_now next back_now job.0 ran.words) job.2 more,
        )

pub waiting_is_kept : WaitingIsKept
waiting_is_kept at bottom highest ceiling inputs calls img places p tail now takings below c d top m n laid port as_many
    stopped keeps shown words meanwhile jobs =
    kept at bottom highest ceiling inputs calls img places p port tail now takings below c d top m n laid as_many
    stopped
    keeps
    shown words meanwhile jobs

-- An entry. No other exception that is active has its number.
all_stay : (e : ℕ) (es : List ℕ) → AllByRecursion (λ x. x ≢ e) es → filter (λ x. not (nat_eq x e)) es ≡ es
all_stay e [] h = refl
all_stay e (x ∷ xs) h =
    ap (λ (b : Bool). if not b then x ∷ filter (λ y. not (nat_eq y e)) xs else filter (λ y. not (nat_eq y e)) xs)
    (not_equal x e h.0) ∙ ap (λ (ys : List ℕ). x ∷ ys) (all_stay e xs h.1)

one_goes : (e : ℕ) (es : List ℕ) → AllByRecursion (λ x. x ≢ e) es → filter (λ x. not (nat_eq x e)) (e ∷ es) ≡ es
one_goes e es h =
    ap (λ (b : Bool). if not b then e ∷ filter (λ y. not (nat_eq y e)) es else filter (λ y. not (nat_eq y e)) es)
    (same_number e e refl) ∙ all_stay e es h

-- words that are pushed are words
pub one_of : (b : Bool) (s t : ℕ) → s < 2 ^ 32 → t < 2 ^ 32 → (if b then s else t) < 2 ^ 32
one_of true s t h i = h
one_of false s t h i = i

pub pushed_words : (ws : List ℕ) (a : ℕ) (m : Machine) → AllByRecursion (λ w. w < 2 ^ 32) ws
    → ((k : ℕ) → m.memory k < 2 ^ 32) → (k : ℕ) → (with_words a ws m).memory k < 2 ^ 32
pushed_words [] a m h words k = words k
pushed_words (w ∷ ws) a m h words k =
    pushed_words ws (a + 4) (with_word a w m) h.1 (λ j. one_of (j == a / 4) w (m.memory j) h.0 (words j)) k

bit : (b : Bool) → number_of b ≤ 1
bit true = omega arith
bit false = omega arith

pub status_small : (f : Flags) (aligned e : ℕ) → aligned ≤ 1 → e < 2 ^ 9 → status_word f aligned e < 2 ^ 32
status_small f aligned e h i =
    omega (arith, bit f.is_negative, bit f.is_zero, bit f.is_carry, bit f.is_overflow, h, i)

-- what is pending, but one
taken_away : (pending : ℕ → Bool) (words : List Bool) (irq k : ℕ)
    → ((j : ℕ) → j < length words → pending (external j) ≡ slice_index_or words j false)
    → k < length (slice_set words irq false)
    → (if external k == external irq then false else pending (external k))
    ≡ slice_index_or (slice_set words irq false) k false
taken_away pending words irq k h l =
    let there : k < length words = subst (λ (x : ℕ). k < x) (length-set words irq false) l in
    ⊎_elim
    (λ (e : k ≡ irq).
    ap (λ (b : Bool). if b then false else pending (external k))
    (same_number (external k) (external irq) (ap external e))
    ∙ (sym (get_or-set_same words irq false false (subst (λ (x : ℕ). x < length words) e there))
    ∙ ap (λ (x : ℕ). slice_index_or (slice_set words irq false) x false) (sym e)))
    (λ (e : k ≢ irq).
    ap (λ (b : Bool). if b then false else pending (external k))
    (not_equal (external k) (external irq) (λ f. e (omega arith)))
    ∙ (h k there ∙ sym (get_or-set_other words irq k false false e)))
    (cases_eq k irq)

module _ (at : Outside) (bottom : ℕ) (img : Image) (places : List ℕ) (p : Program) (irq : ℕ) (h : Handler)
    (c : Core) (top : ℕ) (m : Machine) (laid : IsLaidOut at bottom (length c.processor.cells))
    (port : p.port ≡ at.port) (can : CanBeInterrupted m) (low : m.address < 2 ^ 32)
    (inactive : AllByRecursion (λ e. e ≢ external irq) m.active) (unmasked : c.processor.primask ≡ false)
    (words : HoldsWords m) (fits : m.register 13 ≤ top) (within : top ≤ at.cells)
    (phase : Phase at bottom img places p c top m) where
  abbrev e : ℕ
  e = external irq

  abbrev inside : Machine
  inside = entered e m

  abbrev frame : ℕ
  frame = inside.register 13

  abbrev priority : ℕ
  priority = c.processor.basepri

  abbrev after_it : Machine
  after_it = resumed priority frame inside

  abbrev core_inside : Core
  core_inside = core_after_entry c irq h

  abbrev core_then : Core
  core_then = interrupted_core priority core_inside (context_of c irq h) c.below

  shown : Shows at c m
  shown = phases_show at bottom img places p c top m laid port phase

  has : HasAgain m (popped (with_register 13 frame inside))
  has = entry_is_undone e m (with_register 13 frame inside) can (record { stack = refl; words = λ k l. refl })

  stack_is : frame + 32 + m.register 13 % 8 ≡ m.register 13
  stack_is = pushed_stack e m can

  -- registers that an entry does not push
  others_stay : (k : ℕ) → k ≢ 13 → k ≢ 14 → inside.register k ≡ m.register k
  others_stay k f g = other k 14 _ _ g ∙ other k 13 _ _ f

  by_tests : (k : ℕ) (a b x y : Bool) → nat_lt k 4 ≡ a → (k == 12) ≡ b → (k == 13) ≡ x → (k == 14) ≡ y
      → after_it.register k ≡ m.register k
  by_tests k true b x y f g i j = has.registers k (is_less k 4 f)
  by_tests k false true x y f g i j = let exact : k ≡ 12 = equals k 12 g in
      subst (λ (z : ℕ). after_it.register z ≡ m.register z) (sym exact) has.register_12
  by_tests k false false true y f g i j = let exact : k ≡ 13 = equals k 13 i in
      subst (λ (z : ℕ). after_it.register z ≡ m.register z) (sym exact) has.stack
  by_tests k false false false true f g i j = let exact : k ≡ 14 = equals k 14 j in
      subst (λ (z : ℕ). after_it.register z ≡ m.register z) (sym exact) has.link
  by_tests k false false false false f g i j =
      none_of (nat_lt k 4) (k == 12) (k == 13) (k == 14) _ _ _ _ _ f g i j
      ∙ (other k 13 frame (inside.register k) (differs k i) ∙ others_stay k (differs k i) (differs_14 k j))

  registers_are : (k : ℕ) → after_it.register k ≡ m.register k
  registers_are k = by_tests k (nat_lt k 4) (k == 12) (k == 13) (k == 14) refl refl refl refl

  memory_kept : (k : ℕ) → m.register 13 ≤ 4 * k → inside.memory k ≡ m.memory k
  memory_kept k f = entry_pushes_below e m can k (inr f)

  beyond : (a : ℕ) → at.cells ≤ a → a % 4 ≡ 0 → word_at inside a ≡ word_at m a
  beyond a f z = memory_kept (a / 4) (omega (arith, f, z, fits, within))

  active_is : after_it.active ≡ m.active
  active_is = one_goes e m.active inactive

  -- the state, by what an entry changes and a return gives back
  abbrev entry_made : (ℕ → ℕ) → ℕ → Flags → ℕ → List ℕ → ℕ → Bool → Machine
  entry_made register address flags exception active base_priority is_masked = record after_it {
    register = register;
    address = address;
    flags = flags;
    exception = exception;
    active = active;
    base_priority = base_priority;
    is_masked = is_masked;
  }

  same_but_memory : after_it ≡ record m {
    memory = after_it.memory;
    is_pending = after_it.is_pending;
    is_unsettled = after_it.is_unsettled;
    seen = after_it.seen;
  }
  same_but_memory =
      ap (λ (f : ℕ → ℕ). entry_made f after_it.address after_it.flags after_it.exception after_it.active priority false)
      (fun_ext registers_are)
      ∙ (ap (λ (f : ℕ). entry_made m.register f after_it.flags after_it.exception after_it.active priority false)
      has.address
      ∙ (ap (λ (f : Flags). entry_made m.register m.address f after_it.exception after_it.active priority false)
      has.flags
      ∙ (ap (λ (f : ℕ). entry_made m.register m.address m.flags f after_it.active priority false) has.exception
      ∙ (ap (λ (f : List ℕ). entry_made m.register m.address m.flags m.exception f priority false) active_is
      ∙ (ap (λ (f : ℕ). entry_made m.register m.address m.flags m.exception m.active f false) (sym shown.base_priority)
      ∙ ap (entry_made m.register m.address m.flags m.exception m.active m.base_priority)
      (sym (shown.is_masked ∙ unmasked)))))))

  words_inside : (k : ℕ) → inside.memory k < 2 ^ 32
  words_inside k =
      let r = m.register in
      let status = status_word m.flags (r 13 / 4 % 2) m.exception in
      let last : AllByRecursion (λ w. w < 2 ^ 32) (m.address ∷ status ∷ []) =
      (low, (status_small m.flags (r 13 / 4 % 2) m.exception (omega arith) can.exception, tt)) in
      let more : AllByRecursion (λ w. w < 2 ^ 32) (r 12 ∷ r 14 ∷ m.address ∷ status ∷ []) =
      (words.registers 12, (words.registers 14, last)) in
      let most : AllByRecursion (λ w. w < 2 ^ 32) (r 2 ∷ r 3 ∷ r 12 ∷ r 14 ∷ m.address ∷ status ∷ []) =
      (words.registers 2, (words.registers 3, more)) in
      pushed_words (r 0 ∷ r 1 ∷ r 2 ∷ r 3 ∷ r 12 ∷ r 14 ∷ m.address ∷ status ∷ []) _ m
      (words.registers 0, (words.registers 1, most)) words.memory k

  words_after : HoldsWords after_it
  words_after = record {
    registers = λ k. subst (λ (x : ℕ). x < 2 ^ 32) (sym (registers_are k)) (words.registers k);
    memory = words_inside;
    base_priority = subst (λ (x : ℕ). x < 2 ^ 8) shown.base_priority words.base_priority;
  }

  shown_then : Shows at core_then after_it
  shown_then = record {
    base_priority = refl;
    is_masked = refl;
    cells = λ k l. beyond (at.cells + 4 * k) (omega arith) (omega (arith, laid.aligned)) ∙ shown.cells k l;
    time = beyond at.time (omega (arith, laid.time)) (omega (arith, laid.aligned, laid.time)) ∙ shown.time;
    alarm = beyond (at.time + 4) (omega (arith, laid.time)) (omega (arith, laid.aligned, laid.time)) ∙ shown.alarm;
    pending = λ k l. taken_away m.is_pending c.pending irq k shown.pending l;
  }

  others_ran : OthersRan at (m.register 13) top c core_then m after_it
  others_ran = record {
    core = ap (λ (b : Bool). record core_then { processor = record core_then.processor { primask = b } })
        (sym unmasked);
    as_many = refl;
    processor = record { rest = same_but_memory; memory = λ k f t. memory_kept k f };
    settled = refl;
    cells = shown_then.cells;
    time = shown_then.time;
    alarm = shown_then.alarm;
    pending = shown_then.pending;
    words = words_after;
  }

  above : KeepsAbove at top m after_it
  above = record {
    registers = λ k f g h. registers_are k;
    memory = λ k f g. memory_kept k (omega (arith, f, fits));
    exception = has.exception;
    active = active_is;
  }

  pub added : (highest ceiling : ℕ) (inputs : List Input) (calls : FunctionCalls) (tail : Option Debt)
      (takings : List Taking) (last : Last)
      → top + m.register 13 % 8 ≤ m.register 13 + frame_bytes c → h.value < execution c
      → KeepsTail tail tail c core_inside
      → IsFresh at bottom highest ceiling inputs calls img places p tail last c top m phase
      → Waiting at bottom highest ceiling inputs calls img places p
      (others_tail (tail_of at bottom img places p c top m phase) tail) takings c.below c top
      (viewed at bottom img places p c top m phase)
      → Waiting at bottom highest ceiling inputs calls img places p tail
      (record { base_priority = priority; last = last } ∷ takings)
      (context_of c irq h ∷ c.below) core_inside frame inside
  added highest ceiling inputs calls tail takings last deep higher meanwhile fresh jobs =
      let job = job_is_kept at bottom img places p c core_then top m after_it laid port others_ran highest ceiling
      inputs calls
      tail tail last (keeps_entered priority irq h c tail tail meanwhile) phase fresh in (
        omega (arith, stack_is, can.stack),
        subst (λ (x : ℕ). x < 2 ^ 8) shown.base_priority words.base_priority,
        refl,
        ap (λ (es : List ℕ). e ∷ es) (sym active_is),
        ap return_value (sym has.exception),
        omega (arith, registers_are 13, stack_is),
        top,
        (within, omega (arith, deep, stack_is)),
        omega (arith, fits, registers_are 13),
        subst (λ (b : Bool). h.value < min (running_value c.below) (min (base_value priority) (mask_value b))) unmasked
            higher,
        job.0,
        job.1,
        waiting_is_kept at bottom highest ceiling inputs calls img places p
            (others_tail (tail_of at bottom img places p c top m phase) tail)
            (others_tail (tail_of at bottom img places p core_then top after_it job.0) tail) takings c.below c core_then
            top (viewed at bottom img places p c top m phase)
            (viewed at bottom img places p core_then top after_it job.0) laid port refl refl
            (views_keep at bottom img places p c core_then top top m after_it phase job.0 top
            (λ k f g i. ap (λ (r : ℕ → ℕ). r k) job.3) above.memory above.exception above.active)
            (view_shows at bottom img places p core_then top after_it job.0 core_then shown_then)
            (view_words at bottom img places p core_then top after_it job.0 words_after) job.2 jobs,
      )

  -- what runs then is a handler
  registers_inside : (k : ℕ) → inside.register k < 2 ^ 32
  registers_inside k =
      one_of (k == 14) _ _ (one_of (m.exception == 0) return_to_thread return_to_handler (omega arith) (omega arith))
      (one_of (k == 13) _ _ (omega (arith, words.registers 13)) (words.registers k))

  module _ (code : HasCode at img places p) (to : ℕ) (below : to < 0xE0000000)
      (room : bottom + 4 * h.frame + 32 + m.register 13 % 8 ≤ m.register 13) where
    pub unopened_inside : IsUnopened at bottom img places p to h core_inside frame inside
    unopened_inside = record {
      low = below;
      addresses = code.addresses;
      laid = laid;
      entry = refl;
      frame = length-replicate h.frame 0;
      free = refl;
      room = omega (arith, room, stack_is);
      stands = record {
        address = refl;
        base_priority = shown.base_priority;
        is_masked = shown.is_masked;
        aligned = omega (arith, stack_is, can.stack);
        stack = omega (arith, room, stack_is);
        frames = omega (arith, stack_is, fits, within);
        slots = λ k l. absurd (omega (arith, l));
        caller = λ k l. absurd (omega (arith, l));
        cells = shown_then.cells;
        time = shown_then.time;
        alarm = shown_then.alarm;
        pending = shown_then.pending;
      };
      ends = refl;
      settled = refl;
      words = record {
        registers = registers_inside;
        memory = words_inside;
        base_priority = words.base_priority;
      };
    }

    pub entering : Spans p inside.address (stub at [] places to irq (Some h)) to
        → Phase at bottom img places p core_inside frame inside
    entering lies =
        let u = unopened_inside in
        let first = stub_has_first at places to irq h in
        Entering (record {
          to = to;
          irq = irq;
          handler = h;
          first = inside;
          opens = record {
            laid = laid;
            addresses = code.addresses;
            low = below;
            code = lies;
            entry = refl;
            frame = u.frame;
            free = refl;
            room = u.room;
            stands = u.stands;
          };
          ends = refl;
          settled = refl;
          words = u.words;
          begun = record {
            passed = [];
            next = first.0;
            left = first.1;
            parts = first.2;
            fallen = omega arith;
            aligned = u.stands.aligned;
            prepares = refl;
          };
          deep = omega arith;
        })

pub entry_begins : EntryBegins
entry_begins at bottom img places p to irq h c top m code laid can low inactive unmasked words fits within phase below
    lies room =
    entering at bottom img places p irq h c top m laid code.port can low inactive unmasked words fits within phase code
    to below room lies

pub entry_adds_a_job : EntryAddsAJob
entry_adds_a_job at bottom highest ceiling inputs calls img places p tail takings last irq h c top m laid port can low
    inactive unmasked words fits within deep higher meanwhile phase fresh jobs =
    added at bottom img places p irq h c top m laid port can low inactive unmasked words fits within phase highest
    ceiling inputs calls tail takings last deep higher meanwhile fresh jobs
