-- Cores with other words in their frames, and what a tick does to them and to cells.
use Rattle.std.proofs.Common.{◌≡◌, ℕ, suc, nat_le, Bool, true}
use Rattle.std.proofs.Common.{false, if◌then◌else◌, List, [], ◌∷◌, length, map}
use Rattle.std.proofs.Common.{slice_set, sum_by, Option, Some, None}
use Rattle.std.proofs.Common.{refl, ap, ◌∙◌, arith}
use Rattle.std.proofs.lemmas.List.Sums.{sum_by-cons}
use Rattle.rt_ids.specs.Lists.{is_empty}
use Rattle.rt_code.specs.Image.{Image, entry_words}
use Rattle.rt_code.specs.Stack.{IsAlikeUpTo}
use Rattle.rt_core.specs.declared.alarm.Alarm.{Alarm}
use Rattle.rt_core.specs.Core.{Core, Context, context_words}
use Rattle.rt_core.specs.Priority.{running_value}
use Rattle.rt_core.specs.Trace.{ring, tick}
use Rattle.rt_core.specs.Transfer.{core_after_pend}
use Rattle.rt_trace.specs.Label.{Label, Rang}
use Rattle.rt_native_laws.specs.Moments.{Taking}
use Rattle.rt_native_laws.specs.Moments.{settled_words}
use Rattle.rt_native_runs.proofs.Beside.{AreAlike}
use Rattle.rt_native_runs.proofs.Words.{alike_itself}
use Rattle.rt_core.specs.Touching.{with_cells}

-- the contexts with these words in their frames
abbrev pub refill : List (List ℕ) → List Context → List Context
refill [] below = below
refill (words ∷ others) [] = []
refill (words ∷ others) (x ∷ below) = record x { slots = words } ∷ refill others below

-- the core with these words in its frame and in those of what it interrupted
abbrev pub refilled : List ℕ → List (List ℕ) → Core → Core
refilled words others c =
    record c { processor = record c.processor { slots = words }; below = refill others c.below }

-- these are words for the frames of what was interrupted: those that are settled are as they are
abbrev pub AreFills : List Taking → List Context → List (List ℕ) → Type 0
AreFills [] [] [] = Unit {0}
AreFills (t ∷ takings) (x ∷ below) (words ∷ others) =
    IsAlikeUpTo (settled_words t.last (length x.slots)) x.slots words × AreFills takings below others
AreFills takings below others = ⊥

abbrev pub bases_of_takings : List Taking → List ℕ
bases_of_takings takings = map (λ t. t.base_priority) takings

-- the words that there are
pub own_fills : (takings : List Taking) (below : List Context) → length takings ≡ length below
    → AreFills takings below (map (λ x. x.slots) below)
own_fills [] [] same = tt
own_fills [] (x ∷ below) same = absurd (omega (arith, same))
own_fills (t ∷ takings) [] same = absurd (omega (arith, same))
own_fills (t ∷ takings) (x ∷ below) same = (
  alike_itself (settled_words t.last (length x.slots)) x.slots,
  own_fills takings below (omega (arith, same)),
)

pub refill_own : (below : List Context) → refill (map (λ x. x.slots) below) below ≡ below
refill_own [] = refl
refill_own (x ∷ below) = ap (λ bs. x ∷ bs) (refill_own below)

module _ (img : Image) where
  alike_words : (takings : List Taking) (below : List Context) (others : List (List ℕ))
      → AreFills takings below others
      → sum_by (context_words (entry_words img)) (refill others below)
      ≡ sum_by (context_words (entry_words img)) below
  alike_words [] [] [] fills = refl
  alike_words [] [] (words ∷ others) fills = absurd fills
  alike_words [] (x ∷ below) others fills = absurd fills
  alike_words (t ∷ takings) [] others fills = absurd fills
  alike_words (t ∷ takings) (x ∷ below) [] fills = absurd fills
  alike_words (t ∷ takings) (x ∷ below) (words ∷ others) fills =
      let y : Context = record x { slots = words } in
      let before = sum_by-cons (context_words (entry_words img)) x below in
      let now = sum_by-cons (context_words (entry_words img)) y (refill others below) in
      let rest = alike_words takings below others fills.1 in
      omega (arith, before, now, rest, fills.0.0)

  pub alike_refilled : (takings : List Taking) (below : List Context) (others : List (List ℕ))
      → AreFills takings below others → AreAlike img below (refill others below)
  alike_refilled takings below others fills = record {
    empty = empty takings below others fills;
    running = running takings below others fills;
    words = alike_words takings below others fills;
  }
    where
      empty : (takings : List Taking) (below : List Context) (others : List (List ℕ))
          → AreFills takings below others → is_empty (refill others below) ≡ is_empty below
      empty [] [] [] fills = refl
      empty [] [] (words ∷ others) fills = absurd fills
      empty [] (x ∷ below) others fills = absurd fills
      empty (t ∷ takings) [] others fills = absurd fills
      empty (t ∷ takings) (x ∷ below) [] fills = absurd fills
      empty (t ∷ takings) (x ∷ below) (words ∷ others) fills = refl

      running : (takings : List Taking) (below : List Context) (others : List (List ℕ))
          → AreFills takings below others → running_value (refill others below) ≡ running_value below
      running [] [] [] fills = refl
      running [] [] (words ∷ others) fills = absurd fills
      running [] (x ∷ below) others fills = absurd fills
      running (t ∷ takings) [] others fills = absurd fills
      running (t ∷ takings) (x ∷ below) [] fills = absurd fills
      running (t ∷ takings) (x ∷ below) (words ∷ others) fills = refl

-- what a tick does to a core, whatever words its frames hold
pub record TickIs (c : Core) : Type 0 where
  pub alarm : Option Alarm
  pub pending : List Bool
  pub shown : List Label
  pub is : tick c ≡ (record c { time = suc c.time; alarm = alarm; pending = pending }, shown)
  pub beside : (words : List ℕ) (others : List (List ℕ)) → tick (refilled words others c)
      ≡ (refilled words others (record c { time = suc c.time; alarm = alarm; pending = pending }), shown)

pub tick_is : (c : Core) → TickIs c
tick_is c = by c.alarm refl
  where
    rung : (a : Alarm) → c.alarm ≡ Some a → (due : Bool) → nat_le a.instant (suc c.time) ≡ due → TickIs c
    rung a is true due = record {
      alarm = None;
      pending = slice_set c.pending a.irq true;
      shown = Rang ∷ [];
      is = ap (λ o. ring (record c { time = suc c.time }) o) is
          ∙ ap (λ b. if◌then◌else◌ {A = Core × List Label} b
          (record (core_after_pend (record c { time = suc c.time }) a.irq) { alarm = None }, Rang ∷ [])
          (record c { time = suc c.time }, [])) due;
      beside = λ words others.
          ap (λ o. ring (record (refilled words others c) { time = suc c.time }) o) is
          ∙ ap (λ b. if◌then◌else◌ {A = Core × List Label} b (
            record (core_after_pend (record (refilled words others c) { time = suc c.time }) a.irq) { alarm = None },
            Rang ∷ [],
          )
          (record (refilled words others c) { time = suc c.time }, [])) due;
    }
    rung a is false due = record {
      alarm = c.alarm;
      pending = c.pending;
      shown = [];
      is = ap (λ o. ring (record c { time = suc c.time }) o) is
          ∙ ap (λ b. if◌then◌else◌ {A = Core × List Label} b
          (record (core_after_pend (record c { time = suc c.time }) a.irq) { alarm = None }, Rang ∷ [])
          (record c { time = suc c.time }, [])) due;
      beside = λ words others.
          ap (λ o. ring (record (refilled words others c) { time = suc c.time }) o) is
          ∙ ap (λ b. if◌then◌else◌ {A = Core × List Label} b (
            record (core_after_pend (record (refilled words others c) { time = suc c.time }) a.irq) { alarm = None },
            Rang ∷ [],
          )
          (record (refilled words others c) { time = suc c.time }, [])) due;
    }

    by : (o : Option Alarm) → c.alarm ≡ o → TickIs c
    by None is = record {
      alarm = c.alarm;
      pending = c.pending;
      shown = [];
      is = ap (λ o. ring (record c { time = suc c.time }) o) is;
      beside = λ words others. ap (λ o. ring (record (refilled words others c) { time = suc c.time }) o) is;
    }
    by (Some a) is = rung a is (nat_le a.instant (suc c.time)) refl

-- a tick goes by no cell
pub tick_beside : (c : Core) (cells : List ℕ) → tick (with_cells c cells) ≡ (with_cells (tick c).0 cells, (tick c).1)
tick_beside c cells = by c.alarm
  where
    by : (o : Option Alarm) → ring (record (with_cells c cells) { time = suc c.time }) o
        ≡ (
          with_cells (ring (record c { time = suc c.time }) o).0 cells,
          (ring (record c { time = suc c.time }) o).1,
        )
    by None = refl
    by (Some alarm) = rung (nat_le alarm.instant (suc c.time))
      where
        rung : (b : Bool) → (if◌then◌else◌ {A = Core × List Label} b (
          record (core_after_pend (record (with_cells c cells) { time = suc c.time }) alarm.irq) { alarm = None },
          Rang ∷ [],
        ) (record (with_cells c cells) { time = suc c.time }, []))
            ≡ (
              with_cells (if◌then◌else◌ {A = Core × List Label} b
                  (record (core_after_pend (record c { time = suc c.time }) alarm.irq) { alarm = None }, Rang ∷ [])
                  (record c { time = suc c.time }, [])).0 cells,
              (if◌then◌else◌ {A = Core × List Label} b
                  (record (core_after_pend (record c { time = suc c.time }) alarm.irq) { alarm = None }, Rang ∷ [])
                  (record c { time = suc c.time }, [])).1,
            )
        rung true = refl
        rung false = refl
