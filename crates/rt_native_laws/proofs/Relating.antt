-- What runs goes on, and the processor is where the image is again.
use Rattle.std.proofs.Common.{◌≡◌, ◌∙◌, ℕ, ◌+◌, ◌*◌, ◌/◌, ◌%◌, ◌^◌, ◌<◌, ◌≤◌, ◌⊎◌, inl, inr, false, List, Option}
use Rattle.std.proofs.Common.{IfSome, None, refl, sym, ap, subst, arith, length, ⊎_elim}
use Rattle.rt_code.specs.Image.{Image}
use Rattle.rt_core.specs.Core.{Context, Core}
use Rattle.rt_native.specs.Layout.{TICK_BYTES, outside, places, stack_top}
use Rattle.rt_native.specs.Program.{vectors}
use Rattle.rt_native.specs.Target.{Target}
use Rattle.rt_native.specs.declared.outside.Outside.{Outside}
use Rattle.rt_native.specs.declared.target.Input.{Input}
use Rattle.rt_native.proofs.Ends.{ends}
use Rattle.rt_priorities.proofs.Keeping.{others_keep_agreeing}
use Rattle.rt_priorities.proofs.Vectors.{length_vectors}
use Rattle.rt_thumb.specs.Exceptions.{priority_of, systick}
use Rattle.rt_thumb.specs.Machine.{Machine, word_at}
use Rattle.rt_thumb.specs.Step.{Program}
use Rattle.rt_native_laws.specs.Devices.{is_devices}
use Rattle.rt_native_laws.specs.Going.{LeavesOthers}
use Rattle.rt_native_laws.specs.InTail.{Debt, paid}
use Rattle.rt_native_laws.specs.Linked.{LiesLinked}
use Rattle.rt_native_laws.specs.Moments.{Last, Moment}
use Rattle.rt_native_laws.specs.Own.{ChangesItsOwn}
use Rattle.rt_native_laws.specs.Phases.{Phase, tail_of, viewed}
use Rattle.rt_native_laws.specs.Relating.{calls_of, AreEvenBelow, IsAlarmOf, IsOfTimer, IsPastMarks, IsInPlace, IsWhere}
use Rattle.rt_native_laws.specs.Relating.{Related, lowest}
use Rattle.rt_native_laws.specs.Standing.{HoldsWords, IsLaidOut, Shows}
use Rattle.rt_native_laws.specs.Waiting.{IsFresh, KeepsAbove, KeepsTail, Waiting, others_tail}
use Rattle.rt_native_laws.proofs.Devices.{core_is_no_device, flash_is_no_device}
use Rattle.rt_native_laws.proofs.Showing.{phases_show}
use Rattle.rt_native_laws.proofs.Viewing.{view_rest, view_shows, view_words}
use Rattle.rt_native_laws.proofs.Waiting.{waiting_is_kept}
use Rattle.rt_trace.specs.declared.item.What.{What}

-- Memory below the stack, with a tick's frame at its end, and above the cells, the time and the alarm is as it was.
abbrev pub KeepsOutside : Outside → ℕ → Machine → Machine → Type 0
KeepsOutside at bottom m n =
    (k : ℕ) → (4 * k + 4 + TICK_BYTES ≤ bottom) ⊎ (at.time + 8 ≤ 4 * k) → n.memory k ≡ m.memory k

-- Of that, what is no device's is.
abbrev pub KeepsChip : Target → Outside → ℕ → Machine → Machine → Type 0
KeepsChip target at bottom m n =
    (k : ℕ) → is_devices target k ≡ false → (4 * k + 4 + TICK_BYTES ≤ bottom) ⊎ (at.time + 8 ≤ 4 * k)
    → n.memory k ≡ m.memory k

pub private_keeps_outside : (at : Outside) (bottom floor top : ℕ) (m n : Machine) → bottom ≤ floor → top ≤ at.time
    → ChangesItsOwn floor top m n → KeepsOutside at bottom m n
private_keeps_outside at bottom floor top m n low high own k beside =
    own.memory k (⊎_elim (λ (h : 4 * k + 4 + TICK_BYTES ≤ bottom). inl (omega (arith, h, low)))
    (λ (h : at.time + 8 ≤ 4 * k). inr (omega (arith, h, high))) beside)

pub steps_keep_outside : (at : Outside) (bottom top : ℕ) (said : Option What) (m n : Machine) → bottom ≤ m.register 13
    → bottom ≤ n.register 13 → LeavesOthers at top said m n → KeepsOutside at bottom m n
steps_keep_outside at bottom top said m n low low_now others k beside =
    others.memory k (⊎_elim
    (λ (h : 4 * k + 4 + TICK_BYTES ≤ bottom). inl (omega (arith, h, low), omega (arith, h, low_now)))
    (λ (h : at.time + 8 ≤ 4 * k). inr (inr h)) beside)

module _ (img : Image) (target : Target) (p : Program) (there : IsInPlace img target p) where
  abbrev at : Outside
  at = outside img target

  abbrev pl : List ℕ
  pl = places img target

  abbrev bottom : ℕ
  bottom = lowest img target p

  abbrev highest : ℕ
  highest = stack_top img target

  abbrev inputs : List Input
  inputs = target.inputs

  -- The registers of the system, and the words of the vector table, are as they were.
  pub record KeepsService (m n : Machine) : Type 0 where
    pub system : (a : ℕ) → 0xE000E000 ≤ a → a < 0xE000F000 → word_at n a ≡ word_at m a
    pub vectors : (k : ℕ) → k < length (vectors img target)
        → word_at n (target.flash.address + 4 * k) ≡ word_at m (target.flash.address + 4 * k)

  -- no device changes them
  pub service_chip : (m n : Machine) → target.flash.address % 4 ≡ 0 → KeepsChip target at bottom m n
      → KeepsService m n
  service_chip m n aligned keeps = record {
    system = λ a h f.
        keeps (a / 4) (core_is_no_device target (a / 4) (omega (arith, h)) (omega (arith, f)))
        (inr (omega (arith, h, there.laid.in_memory)));
    vectors = λ k l.
        let all = ends img target in
        keeps ((target.flash.address + 4 * k) / 4)
        (flash_is_no_device target ((target.flash.address + 4 * k) / 4) (omega (arith, aligned))
        (omega (
          arith,
          aligned,
          l,
          length_vectors img target,
          all.fault,
          all.tick,
          all.stubs,
          all.reset,
          all.start,
          all.code,
          all.load,
          there.image.fits.2,
        )))
        (⊎_elim
        (λ (h : target.flash.address + 4 * k + 4 + TICK_BYTES ≤ bottom). inl (omega (arith, h, aligned)))
        (λ (h : at.time + 8 ≤ target.flash.address + 4 * k). inr (omega (arith, h, aligned))) (there.apart k l));
  }

  pub service_kept : (m n : Machine) → target.flash.address % 4 ≡ 0 → KeepsOutside at bottom m n → KeepsService m n
  service_kept m n aligned keeps = service_chip m n aligned (λ k no h. keeps k h)

  module _ (m n : Machine) (keeps : KeepsService m n) where
    pub loaded_still : LiesLinked img target p m → LiesLinked img target p n
    loaded_still l = record {
      object = l.object;
      addresses = l.addresses;
      loaded = record {
        region = l.loaded.region;
        fits = l.loaded.fits;
        table = keeps.system 0xE000ED08 (omega arith) (omega arith) ∙ l.loaded.table;
        words = λ k h. keeps.vectors k h ∙ l.loaded.words k h;
        code = l.loaded.code;
      };
      executed = l.executed;
      linked = l.linked;
      reached = l.reached;
      elsewhere = l.elsewhere;
      frames = l.frames;
    }

    pub tick_still : priority_of m systick ≡ 0 → priority_of n systick ≡ 0
    tick_still e =
        ap (λ (w : ℕ). w / 2 ^ (8 * (0xE000ED23 % 4)) % 2 ^ 8)
        (keeps.system 0xE000ED23 (omega arith) (omega arith)) ∙ e

  -- A machine instruction of what runs leads to a core and to a phase of it, with a tail in which a job is then.
  module _ (ceiling : ℕ) (called now : ℕ → Option Machine) (s : Moment) (m n : Machine)
      (r : IsWhere img target p ceiling called s m)
      (recall : Waiting at bottom highest ceiling inputs (calls_of target called) img pl p
      (others_tail (tail_of at bottom img pl p r.unpaid r.top m r.phase) r.tail) s.takings r.unpaid.below r.unpaid r.top
      (viewed at bottom img pl p r.unpaid r.top m r.phase)
      → Waiting at bottom highest ceiling inputs (calls_of target now) img pl p
      (others_tail (tail_of at bottom img pl p r.unpaid r.top m r.phase) r.tail) s.takings r.unpaid.below r.unpaid r.top
      (viewed at bottom img pl p r.unpaid r.top m r.phase)) (tail : Option Debt)
      (of_timer : IfSome tail (IsOfTimer img ceiling)) (d : Core) (last : Last)
      (phase : Phase at bottom img pl p d r.top n)
      (fresh : IsFresh at bottom highest ceiling inputs (calls_of target now) img pl p tail last d r.top n phase)
      (meanwhile : KeepsTail (others_tail (tail_of at bottom img pl p r.unpaid r.top m r.phase) r.tail)
      (others_tail (tail_of at bottom img pl p d r.top n phase) tail) r.unpaid d)
      (above : KeepsAbove at r.top (viewed at bottom img pl p r.unpaid r.top m r.phase)
      (viewed at bottom img pl p d r.top n phase)) where
    laid_before : IsLaidOut at bottom (length r.unpaid.processor.cells)
    laid_before = subst (IsLaidOut at bottom) (sym r.cells) there.laid

    same_active : n.active ≡ m.active
    same_active =
        sym (ap (λ (y : Machine). y.active) (view_rest at bottom img pl p d r.top n phase))
        ∙ (above.active ∙ ap (λ (y : Machine). y.active) (view_rest at bottom img pl p r.unpaid r.top m r.phase))

    module _ (keeps : KeepsService m n) (words : HoldsWords n)
        (placed : (n.address % 2 ≡ 0) × (n.address < 2 ^ 32))
        (below : d.below ≡ r.unpaid.below)
        (as_many : length d.processor.cells ≡ length r.unpaid.processor.cells)
        (requests : length d.pending ≡ length r.unpaid.pending) (stopped : d.stopped ≡ r.unpaid.stopped)
        (alarm : IsAlarmOf img d.alarm) where
      laid_now : IsLaidOut at bottom (length d.processor.cells)
      laid_now = subst (IsLaidOut at bottom) (sym as_many) laid_before

      shown : Shows at d n
      shown = phases_show at bottom img pl p d r.top n laid_now there.has.port phase

      pub is_where_by : IsWhere img target p ceiling now
          (record { core = paid tail d; last = last; takings = s.takings }) n
      is_where_by = record {
        tail = tail;
        of_timer = of_timer;
        unpaid = d;
        owed = refl;
        top = r.top;
        phase = phase;
        fresh = fresh;
        waiting = subst (λ (b : List Context). Waiting at bottom highest ceiling inputs (calls_of target now) img pl p
            (others_tail (tail_of at bottom img pl p d r.top n phase) tail) s.takings b d r.top
            (viewed at bottom img pl p d r.top n phase))
            (sym below)
            (waiting_is_kept at bottom highest ceiling inputs (calls_of target now) img pl p
            (others_tail (tail_of at bottom img pl p r.unpaid r.top m r.phase) r.tail)
            (others_tail (tail_of at bottom img pl p d r.top n phase) tail) s.takings r.unpaid.below r.unpaid d r.top
            (viewed at bottom img pl p r.unpaid r.top m r.phase) (viewed at bottom img pl p d r.top n phase)
            laid_before there.has.port as_many stopped above
            (view_shows at bottom img pl p d r.top n phase d shown)
            (view_words at bottom img pl p d r.top n phase words) meanwhile (recall r.waiting));
        agrees = others_keep_agreeing img r.unpaid d m n r.agrees (record {
          registers = λ a h f. keeps.system a (omega (arith, h)) (omega (arith, f));
          handlers = same_active;
          contexts = below;
          base_priority = shown.base_priority;
          is_masked = shown.is_masked;
          pending = λ irq l. shown.pending irq (omega (arith, l, requests, r.requests));
        });
        words = words;
        placed = placed;
        loaded = loaded_still m n keeps r.loaded;
        tick = tick_still m n keeps r.tick;
        requests = requests ∙ r.requests;
        alarm = alarm;
        cells = as_many ∙ r.cells;
        frames = subst AreEvenBelow (sym below) r.frames;
      }

      -- with its marks done, if they are
      pub related_by : IsPastMarks img target p d r.top n phase
          → Related img target p ceiling now (record { core = paid tail d; last = last; takings = s.takings }) n
      unfolding is_where_by
      related_by marks = record { here = is_where_by; marks = marks }

    -- where memory is as it was but for the stack, the cells, the time and the alarm
    pub is_where_on : KeepsOutside at bottom m n → HoldsWords n → (n.address % 2 ≡ 0) × (n.address < 2 ^ 32)
        → d.below ≡ r.unpaid.below → length d.processor.cells ≡ length r.unpaid.processor.cells
        → length d.pending ≡ length r.unpaid.pending → d.stopped ≡ r.unpaid.stopped → IsAlarmOf img d.alarm
        → IsWhere img target p ceiling now (record { core = paid tail d; last = last; takings = s.takings }) n
    is_where_on keeps = is_where_by (service_kept m n (omega (arith, r.loaded.loaded.region.0)) keeps)

    -- with its marks done, if they are
    pub related_on : (keeps : KeepsOutside at bottom m n) (words : HoldsWords n)
        (placed : (n.address % 2 ≡ 0) × (n.address < 2 ^ 32)) (below : d.below ≡ r.unpaid.below)
        (as_many : length d.processor.cells ≡ length r.unpaid.processor.cells)
        (requests : length d.pending ≡ length r.unpaid.pending) (stopped : d.stopped ≡ r.unpaid.stopped)
        (alarm : IsAlarmOf img d.alarm) → IsPastMarks img target p d r.top n phase
        → Related img target p ceiling now (record { core = paid tail d; last = last; takings = s.takings }) n
    unfolding is_where_by is_where_on
    related_on keeps words placed below as_many requests stopped alarm marks =
        record { here = is_where_on keeps words placed below as_many requests stopped alarm; marks = marks }

-- an alarm that is as it was, or none
pub alarm_then : (img : Image) (c d : Core) → IsAlarmOf img c.alarm → (d.alarm ≡ c.alarm) ⊎ (d.alarm ≡ None)
    → IsAlarmOf img d.alarm
alarm_then img c d h e =
    ⊎_elim (λ (f : d.alarm ≡ c.alarm). subst (IsAlarmOf img) (sym f) h)
    (λ (f : d.alarm ≡ None). subst (IsAlarmOf img) (sym f) tt) e

-- the tail of others, where the job is in none before and then
pub in_no_tail : (own then tail : Option Debt) (c d : Core) → own ≡ None → then ≡ None → KeepsTail tail tail c d
    → KeepsTail (others_tail own tail) (others_tail then tail) c d
in_no_tail own then tail c d e f keeps =
    subst (λ (o : Option Debt). KeepsTail (others_tail o tail) (others_tail then tail) c d) (sym e)
    (subst (λ (o : Option Debt). KeepsTail tail (others_tail o tail) c d) (sym f) keeps)
