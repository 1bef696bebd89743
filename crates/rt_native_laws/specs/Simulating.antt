-- What native code does, event after event, beside what the image does: at each event of the processor some things
-- happen to the image, after which both have shown the same, as in a simulation (Milner, Communication and Concurrency,
-- 1989). Interrupts may come between any two machine instructions, and an exception may be taken late where the
-- architecture leaves it open (ARMv7-M Architecture Reference Manual, section B1.5.4).
use Rattle.std.specs.Prelude.{◌≡◌, ℕ, suc, ◌+◌, ◌-◌, ◌^◌, ◌<◌, ◌≤◌, ◌⊎◌, ◌==◌, Bool, true, not}
use Rattle.std.specs.Prelude.{List, [], ◌∷◌, ◌++◌, length, reverse, flat_map, slice_index, Option, Some}
use Rattle.std.specs.Prelude.{⊤}
use Rattle.std.specs.List.{AllByRecursion, filter}
use Rattle.rt_ids.specs.Event.{Arrive}
use Rattle.rt_ids.specs.Lists.{is_some_and}
use Rattle.rt_ids.specs.declared.limits.TheConstants.{IRQ_NUMBERS}
use Rattle.rt_code.specs.Image.{Image}
use Rattle.rt_code.specs.Runnable.{IsRunnable}
use Rattle.rt_core.specs.Core.{reset, depth}
use Rattle.rt_native.specs.Fitting.{Fits, IsRegion}
use Rattle.rt_native.specs.Layout.{TICK_BYTES, flash_end, outside, places, stack_top}
use Rattle.rt_native.specs.Service.{timer_irq}
use Rattle.rt_native.specs.Target.{Target}
use Rattle.rt_thumb.specs.Exceptions.{external, priority_of, systick}
use Rattle.rt_thumb.specs.Machine.{Machine, Seen, Emitted, Posted, Entered, Returned, word_at}
use Rattle.rt_thumb.specs.Step as processor
use Rattle.rt_thumb.specs.Step.{Program}
use Rattle.rt_trace.specs.Label.{Label, Stepped, Ticked}
use Rattle.rt_trace.specs.declared.item.What.TheVariants as what
use Rattle.rt_native_laws.specs.Behaving.{BehavesWell}
use Rattle.rt_native_laws.specs.Devices.{CanChange, LoadsNext}
use Rattle.rt_native_laws.specs.Doing.{seen_of}
use Rattle.rt_native_laws.specs.Reading.{IsInput}
use Rattle.rt_native_laws.specs.Loading.{IsExecuted}
use Rattle.rt_native_laws.specs.Moments.{Happening, Comes, Loads, Puts, Last, HasRead, Moment, at_reset, moment_after}
use Rattle.rt_native_laws.specs.Moments.{AllCanHappen, moment_after_all, shown, with_frame}
use Rattle.rt_native_laws.specs.Phases.{IsDone}
use Rattle.rt_native_laws.specs.Standing.{IsLaidOut, HoldsWords}
use Rattle.rt_priorities.specs.Agreeing.{AgreesWith}
use Rattle.rt_priorities.specs.Setting.{CanBeSet}
use Rattle.rt_priorities.specs.Vectors.{IsLoaded}

-- What a processor shows where the image shows a label: a step that takes an interrupt is its entry, and so on; a tick
-- is the entry of SysTick's exception.
abbrev pub seen_of_label : Label → List Seen
seen_of_label (Stepped (Some (what.Take irq depth))) = Entered (external irq) ∷ []
seen_of_label (Stepped (Some (what.Ret irq))) = Returned (external irq) ∷ []
seen_of_label (Stepped said) = seen_of said
seen_of_label Ticked = Entered systick ∷ []
seen_of_label label = []

-- What is compared: all but a tick's return, which the image does not show, and requests of the interrupt that alarms
-- pend. Those come from ticks, and from the end of an alarm's code, where the image has set it already.
abbrev pub is_compared : Option ℕ → Seen → Bool
is_compared timer (Emitted value) = true
is_compared timer (Posted irq) = not (is_some_and (λ t. t == irq) timer)
is_compared timer (Entered e) = true
is_compared timer (Returned e) = not (e == systick)

-- what is compared of all that others see
abbrev pub compared : Option ℕ → List Seen → List Seen
compared timer seen = filter (is_compared timer) seen

-- the requests that devices make
abbrev pub arrivals_of : Happening → List ℕ
arrivals_of (Comes (Arrive irq)) = irq ∷ []
arrivals_of happening = []

-- and those of an event of the processor
abbrev pub arrivals_at : processor.Event → List ℕ
arrivals_at (processor.Arrives irq) = irq ∷ []
arrivals_at event = []

-- Whether an event can come: a device has the number of an interrupt, and changes words of its own; and an exception is
-- recognized late only before a context synchronization event.
abbrev pub CanCome : Target → Machine → processor.Event → Type 0
CanCome target m (processor.Arrives irq) = irq < IRQ_NUMBERS
CanCome target m (processor.Changes address value) = CanChange target address value
CanCome target m processor.GoesLate = m.is_unsettled ≡ true
CanCome target m event = ⊤

-- the word that comes into a cell is the one that was read last, from the register of an input for the cell
abbrev pub IsWhatWasRead : Last → ℕ → ℕ → Type 0
IsWhatWasRead (HasRead input value) cell word = (input.cell ≡ cell) × (value ≡ word)
IsWhatWasRead last cell word = ⊥

-- What is read is read by the load that the processor executes next, and is the word that the register holds then; and
-- what is put was read before.
abbrev pub IsFromRegister : Program → Machine → Moment → Happening → Type 0
IsFromRegister p m s (Loads input word) = LoadsNext p m input.address × (word_at m input.address ≡ word)
IsFromRegister p m s (Puts cell word) = IsWhatWasRead s.last cell word
IsFromRegister p m s happening = ⊤

-- each word is, of some things that happen one after the other
abbrev pub AreFromRegisters : Image → Program → Machine → Moment → List Happening → Type 0
AreFromRegisters img p m s [] = ⊤
AreFromRegisters img p m s (happening ∷ more) =
    IsFromRegister p m s happening × AreFromRegisters img p m (moment_after img s happening) more

-- how often SysTick counts down
abbrev pub ticks : List processor.Event → ℕ
ticks [] = 0
ticks (processor.Ticks ∷ events) = suc (ticks events)
ticks (event ∷ events) = ticks events

module _ (img : Image) (target : Target) (p : Program) where
  -- the lowest address of the image's own stack, below which a tick may have its frame
  abbrev pub stack_bottom : ℕ
  stack_bottom = stack_top img target - img.stack_bytes

  -- One event of the processor, beside what happens to the image, which is no more than its code has instructions, and
  -- two things: it is no fault; devices request the same; words of inputs are what their registers held as they were
  -- read; others see the same; and the stack is no deeper than the image's, a tick's frame aside.
  pub record IsBeside (s : Moment) (happened : List Happening) (m : Machine) (event : processor.Event)
      (next : Machine) : Type 0 where
    pub no_fault : processor.step p m event ≡ Some next
    pub can : AllCanHappen img target.inputs s happened
    pub arrivals : flat_map arrivals_of happened ≡ arrivals_at event
    pub few : length happened ≤ length img.code + 2
    pub words : AreFromRegisters img p m s happened
    pub seen : compared (timer_irq img.code) next.seen
        ≡ compared (timer_irq img.code) (reverse (flat_map seen_of_label (shown img s happened)) ++ m.seen)
    pub deep : stack_top img target ≤ next.register 13 + depth img (moment_after_all img s happened).core + TICK_BYTES

  -- It is so at each of some events, as long as what has happened fits. Whether things fit is told of those that happen
  -- from here on, behind what has happened.
  abbrev pub StaysBeside : (List Happening → Bool) → Moment → Machine → List processor.Event → Type 0
  StaysBeside fits s m [] = ⊤
  StaysBeside fits s m (event ∷ events) =
      fits [] ≡ true → CanCome target m event → (happened : List Happening) × (next : Machine)
      × IsBeside s happened m event next
      × StaysBeside (λ more. fits (happened ++ more)) (moment_after_all img s happened) next events

  -- The processor behind the code of reset: the program lies apart from RAM; the thread is between two instructions, as
  -- the core after reset is, with these words in its frame; interrupts are set as the image's rows; and SysTick is of
  -- the highest priority, as reset leaves it.
  pub record StandsBehindReset (words : List ℕ) (m : Machine) : Type 0 where
    pub executed : IsExecuted target p
    pub apart : (flash_end img target ≤ target.ram.address)
        ⊎ ((outside img target).time + 8 ≤ target.flash.address)
    pub laid : IsLaidOut (outside img target) stack_bottom (length img.cells)
    pub address : m.address ≡ slice_index (places img target) 0
    pub long : length words ≡ img.thread_words
    pub thread : IsDone (outside img target) stack_bottom img (places img target) p (with_frame words (reset img))
        (stack_top img target) m
    pub agrees : AgreesWith img (reset img) m
    pub exception : m.exception ≡ 0
    pub tick : priority_of m systick ≡ 0
    pub holds_words : HoldsWords m

  -- and the program lies in flash
  pub record IsBehindReset (words : List ℕ) (m : Machine) : Type 0 where
    pub loaded : IsLoaded img target p m
    pub stands : StandsBehindReset words m

  -- From here on native code does what the image does: some things happen to the image first, which nobody sees, and
  -- then it is so event after event.
  pub record Simulates (fits : List Happening → Bool) (m : Machine) (events : List processor.Event) : Type 0 where
    pub first : List Happening
    pub can : AllCanHappen img target.inputs (at_reset img) first
    pub arrivals : flat_map arrivals_of first ≡ []
    pub unseen : flat_map seen_of_label (shown img (at_reset img) first) ≡ []
    pub follows : StaysBeside (λ more. fits (first ++ more)) (moment_after_all img (at_reset img) first) m events

  -- an image of which a program can be made for a target
  pub record IsFitFor : Type 0 where
    pub runnable : IsRunnable img
    pub set : CanBeSet img.irqs
    pub fits : Fits img target
    pub flash : IsRegion target.flash
    pub ram : IsRegion target.ram
    -- RAM does not begin at the address 0, where code or nothing lies
    pub above_zero : 8 ≤ target.ram.address
    pub inputs : AllByRecursion (IsInput (length img.cells)) target.inputs

  -- and for one that has no C functions
  pub record IsImageFor : Type 0 where
    pub fit : IsFitFor
    pub no_functions : target.calls ≡ []

-- Behind reset native code does what its image does, whatever comes, where the image behaves well: at each event what
-- others see of the processor is what the image shows, no fault comes, and the stack is no deeper than the image's, but
-- for a tick's frame. The time does not come to the word that stands for no alarm; one tick may be pending at first.
abbrev pub NativeSimulates : Type 0
NativeSimulates =
    (img : Image) (target : Target) (p : Program) (fits : List Happening → Bool) (words : List ℕ) (m : Machine)
    (events : List processor.Event) → IsImageFor img target p → BehavesWell img target.inputs fits
    → IsBehindReset img target p words m → ticks events + 3 < 2 ^ 32 → Simulates img target p fits m events
