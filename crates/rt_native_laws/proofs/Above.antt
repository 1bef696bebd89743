-- What runs leaves alone what lies above it, and leaves words.
use Rattle.std.proofs.Common.{◌≡◌, ◌∙◌, ℕ, suc, ◌*◌, ◌/◌, ◌%◌, inl, inr, Bool, true, false, not, List, []}
use Rattle.std.proofs.Common.{◌∷◌, ◌++◌, Option, Some, None, sym, refl, ap, subst, arith, length, map, ⊎_elim}
use Rattle.std.specs.Prelude.{if◌then◌else◌, ◌==◌, ◌&&◌, nat_le}
use Rattle.rt_core.specs.Core.{Core, Context}
use Rattle.rt_core.specs.Trace.{ring, tick}
use Rattle.rt_core.specs.Transfer.{core_after_pend}
use Rattle.rt_core.specs.declared.alarm.Alarm.{Alarm}
use Rattle.rt_thumb.specs.Effect.{effect}
use Rattle.rt_thumb.specs.Exceptions.{external, even, returned}
use Rattle.rt_thumb.specs.Machine.{Machine, Seen, Returned}
use Rattle.rt_thumb.specs.declared.instruction.Instruction.{Instruction}
use Rattle.rt_thumb.specs.declared.instruction.Instruction.TheVariants as instruction
use Rattle.rt_trace.specs.Label.{Label, Rang}
use Rattle.rt_trace.specs.declared.item.What.{What}
use Rattle.rt_trace.specs.declared.item.What.TheVariants as what
use Rattle.rt_native_laws.specs.Above.{PrivateKeepsAbove, StepsKeepAbove, TicksKeepAbove, WordsStay, WordsStayInPrivate}
use Rattle.rt_native_laws.specs.Above.{WordsStayInSteps}
use Rattle.rt_native_laws.specs.Doing.{seen_of}
use Rattle.rt_native_laws.specs.Laws.{IsNoReturn}
use Rattle.rt_native_laws.specs.Standing.{HoldsWords}
use Rattle.rt_native_laws.proofs.Leaving.{return_pops}
use Rattle.rt_native_laws.proofs.Steady.{is_exchange, words_after}

pub private_keeps_above : PrivateKeepsAbove
private_keeps_above at floor top m n own = record {
  registers = λ k h f g. own.registers k h g;
  memory = λ k h f. own.memory k (inr h);
  exception = ap (λ (x : Machine). x.exception) own.rest;
  active = ap (λ (x : Machine). x.active) own.rest;
}

pub steps_keep_above : StepsKeepAbove
steps_keep_above at top said m n others = record {
  registers = λ k h f g. others.registers k h g;
  memory = λ k h f. others.memory k (inr (inl (h, f)));
  exception = others.exception;
  active = others.active;
}

-- a tick leaves the active handlers
abbrev below_of : Core × List Label → List Context
below_of r = r.0.below

rings : (c : Core) (alarm : Alarm) (b : Bool)
    → below_of (if b then (record (core_after_pend c alarm.irq) { alarm = None }, Rang ∷ []) else (c, [])) ≡ c.below
rings c alarm true = refl
rings c alarm false = refl

ring_leaves : (c : Core) (o : Option Alarm) → (ring c o).0.below ≡ c.below
ring_leaves c None = refl
ring_leaves c (Some alarm) = rings c alarm (nat_le alarm.instant c.time)

pub tick_leaves : (c : Core) → (tick c).0.below ≡ c.below
tick_leaves c = ring_leaves (record c { time = suc c.time }) c.alarm

whole_word : (k : ℕ) → 4 * k / 4 ≡ k
whole_word k = omega arith

pub ticks_keep_above : TicksKeepAbove
ticks_keep_above at img top c m n above high agrees t = record {
  registers = λ k h f g. t.registers k;
  memory = λ k h f.
      ap n.memory (sym (whole_word k))
      ∙ (t.memory (4 * k) (omega (arith, h, high)) (inl (omega (arith, f, above))) ∙ ap m.memory (whole_word k));
  exception = t.exception;
  active = t.agrees.active ∙ (ap (λ (xs : List Context). map (λ x. external x.irq) xs) (tick_leaves c)
      ∙ sym agrees.active);
}

longer : {A : Type 0} (x : A) (xs : List A) → xs ≡ x ∷ xs → ⊥
longer x xs e = let more = ap (length {A = _}) e in omega (arith, more)

-- BX
module _ (m n : Machine) (words : HoldsWords m) (never : (e : ℕ) → n.seen ≡ Returned e ∷ m.seen → ⊥) where
  moved_on : (b : Bool) (a : ℕ) → (if b then Some (record m { address = a }) else None) ≡ Some n → HoldsWords n
  moved_on true a e =
      let exact : record m { address = a } ≡ n = cc in
      subst HoldsWords exact (record {
        registers = words.registers;
        memory = words.memory;
        base_priority = words.base_priority;
      })
  moved_on false a e = absurd (cc)

  exchanging : (value : ℕ) (b : Bool) → (if b then returned value m
      else if value % 2 == 1 then Some (record m { address = even value }) else None) ≡ Some n → HoldsWords n
  exchanging value true e =
      absurd (never m.exception (ap (λ (x : Machine). x.seen) (sym (return_pops value m n e))))
  exchanging value false e = moved_on (value % 2 == 1) (even value) e

pub words_stay : WordsStay
words_stay at img places p i m n code exec words never =
    ⊎_elim
    (λ (x : (r : ℕ) × (i ≡ instruction.BranchExchange r)).
    exchanging m n words never (m.register x.0) (nat_le 0xF0000000 (m.register x.0) && not (m.exception == 0))
    (ap (λ (j : Instruction). effect p.port j m) (sym x.1) ∙ exec.does))
    (λ (x : (k : Machine) → IsNoReturn i k). words_after at img places p code i m n exec (x m) words) (is_exchange i)

pub words_stay_in_private : WordsStayInPrivate
words_stay_in_private at img places p i floor top m n code exec own words =
    words_stay at img places p i m n code exec words
    (λ e f. longer (Returned e) m.seen (sym (ap (λ (x : Machine). x.seen) own.rest) ∙ f))

-- no item of the image is seen as a return
no_return_seen : (said : Option What) (e : ℕ) (xs : List Seen) → seen_of said ++ xs ≡ Returned e ∷ xs → ⊥
no_return_seen (Some (what.Emit value)) e xs f = cc
no_return_seen (Some (what.Post irq)) e xs f = cc
no_return_seen said e xs f = longer (Returned e) xs f

pub words_stay_in_steps : WordsStayInSteps
words_stay_in_steps at img places p i top said m n code exec others words =
    words_stay at img places p i m n code exec words (λ e f. no_return_seen said e m.seen (sym others.seen ∙ f))
