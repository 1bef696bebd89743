-- The tail of an alarm, in which one job at most is, as others run.
use Rattle.std.proofs.Common.{◌≡◌, ◌∙◌, ℕ, ◌≤◌, inl, inr, Bool, true, false, List, Option, Some, None}
use Rattle.std.proofs.Common.{IfSome, refl, sym, ap, arith, ⊎_elim}
use Rattle.std.specs.Prelude.{slice_index_or}
use Rattle.rt_code.specs.declared.image.Handler.{Handler}
use Rattle.rt_core.specs.Core.{Context, Core}
use Rattle.rt_core.specs.Transfer.{core_after_entry}
use Rattle.rt_native_laws.specs.InTail.{Debt}
use Rattle.rt_native_laws.specs.Tail.{IsOwing, Meanwhile}
use Rattle.rt_native_laws.specs.Waiting.{KeepsTail, context_of, interrupted_core, others_tail}

abbrev pub debt : ℕ → ℕ → Bool → Debt
debt irq instant owes = record { irq = irq; instant = instant; owes = owes }

pub debt_is : (a b : Debt) → a.irq ≡ b.irq → a.instant ≡ b.instant → a.owes ≡ b.owes → a ≡ b
debt_is a b e f g =
    ap (λ (k : ℕ). debt k a.instant a.owes) e
    ∙ (ap (λ (k : ℕ). debt b.irq k a.owes) f ∙ ap (λ (k : Bool). debt b.irq b.instant k) g)

-- the tail in which a job is then
abbrev pub tail_then : Option Debt → Option Debt → Option Debt
tail_then (Some own) now = now
tail_then None now = None

pub some_is_none : (t : Debt) → Some t ≡ None → ⊥
some_is_none t e = cc

pub none_then : (tail now : Option Debt) (c d : Core) → KeepsTail tail now c d → tail ≡ None → now ≡ None
none_then None None c d keeps e = refl
none_then None (Some now) c d keeps e = absurd keeps
none_then (Some tail) now c d keeps e = absurd (some_is_none tail e)

-- the tail of others is kept with it
pub others_keep : (own tail now : Option Debt) (c d : Core) → IfSome own (λ o. tail ≡ Some o) → KeepsTail tail now c d
    → KeepsTail (others_tail own tail) (others_tail (tail_then own now) now) c d
others_keep None tail now c d is keeps = keeps
others_keep (Some own) (Some tail) (Some now) c d is keeps = tt
others_keep (Some own) (Some tail) None c d is keeps = absurd keeps
others_keep (Some own) None now c d is keeps = absurd (some_is_none own (sym is))

-- at the ceiling, before and then
pub holds_then : (own tail now : Option Debt) (c d : Core) (priority priority_then ceiling : ℕ)
    → priority_then ≡ priority → KeepsTail tail now c d
    → IfSome own (λ o. (tail ≡ Some o) × (priority ≤ ceiling))
    → IfSome (tail_then own now) (λ o. (now ≡ Some o) × (priority_then ≤ ceiling))
holds_then None tail now c d priority priority_then ceiling same keeps is = tt
holds_then (Some own) tail None c d priority priority_then ceiling same keeps is = tt
holds_then (Some own) tail (Some now) c d priority priority_then ceiling same keeps is =
    (refl, omega (arith, is.1, same))

pub only_tail : (own tail : Option Debt) (priority ceiling : ℕ)
    → IfSome own (λ o. (tail ≡ Some o) × (priority ≤ ceiling)) → IfSome own (λ o. tail ≡ Some o)
only_tail None tail priority ceiling is = tt
only_tail (Some own) tail priority ceiling is = is.0

-- what a handler interrupted has the same time, alarm and requests
pub keeps_in : (priority : ℕ) (x : Context) (below : List Context) (c d : Core) (tail now : Option Debt)
    → KeepsTail tail now c d
    → KeepsTail tail now (interrupted_core priority c x below) (interrupted_core priority d x below)
keeps_in priority x below c d None None keeps = tt
keeps_in priority x below c d None (Some now) keeps = absurd keeps
keeps_in priority x below c d (Some tail) None keeps = absurd keeps
keeps_in priority x below c d (Some tail) (Some now) keeps =
    let w = keeps.2 in (
      keeps.0,
      keeps.1,
      record { later = w.later; debt = w.debt; has_come = w.has_come; none = w.none; set = w.set },
    )

pub keeps_entered : (priority irq : ℕ) (h : Handler) (c : Core) (tail now : Option Debt)
    → KeepsTail tail now c (core_after_entry c irq h)
    → KeepsTail tail now c
    (interrupted_core priority (core_after_entry c irq h) (context_of c irq h) c.below)
keeps_entered priority irq h c None None keeps = tt
keeps_entered priority irq h c None (Some now) keeps = absurd keeps
keeps_entered priority irq h c (Some tail) None keeps = absurd keeps
keeps_entered priority irq h c (Some tail) (Some now) keeps =
    let w = keeps.2 in (
      keeps.0,
      keeps.1,
      record { later = w.later; debt = w.debt; has_come = w.has_come; none = w.none; set = w.set },
    )

-- what leaves the time and the alarm as they are, and the request where it is
pub untouched : (irq instant : ℕ) (owes : Bool) (u v : Core) → IsOwing irq instant owes u → v.time ≡ u.time
    → v.alarm ≡ u.alarm → (slice_index_or u.pending irq false ≡ true → slice_index_or v.pending irq false ≡ true)
    → Meanwhile irq instant owes owes u v
untouched irq instant owes u v x time alarm asked = record {
  later = omega (arith, time);
  debt = λ e. e;
  has_come = λ e h.
      let come = x.has_come e (omega (arith, h, time)) in (alarm ∙ come.0, asked come.1);
  none = λ e. alarm ∙ e;
  set = ⊎_elim
      (λ (e : u.alarm ≡ Some (record { instant = instant; irq = irq })). inl (alarm ∙ e))
      (λ (e : (u.alarm ≡ None) × (owes ≡ false → slice_index_or u.pending irq false ≡ true)).
      inr (alarm ∙ e.0, λ f. asked (e.1 f))) x.set;
}

-- so of a tail, if there is one
abbrev pub IsOwingSo : Option Debt → Core → Type 0
IsOwingSo tail u = IfSome tail (λ t. IsOwing t.irq t.instant t.owes u)

pub tail_untouched : (tail : Option Debt) (u v : Core) → IsOwingSo tail u → v.time ≡ u.time
    → IfSome tail (λ t. (v.alarm ≡ u.alarm)
    × (slice_index_or u.pending t.irq false ≡ true → slice_index_or v.pending t.irq false ≡ true))
    → KeepsTail tail tail u v
tail_untouched None u v owing time same = tt
tail_untouched (Some t) u v owing time same =
    (refl, refl, untouched t.irq t.instant t.owes u v owing time same.0 same.1)

pub for_some : (tail : Option Debt) (P : Debt → Type 0) → ((t : Debt) → tail ≡ Some t → P t) → IfSome tail P
for_some None P h = tt
for_some (Some t) P h = h t refl

pub tail_same : (tail : Option Debt) (u v : Core) → IsOwingSo tail u → v.time ≡ u.time → v.alarm ≡ u.alarm
    → v.pending ≡ u.pending → KeepsTail tail tail u v
tail_same tail u v owing time alarm pending =
    tail_untouched tail u v owing time
    (for_some tail (λ t. (v.alarm ≡ u.alarm)
    × (slice_index_or u.pending t.irq false ≡ true → slice_index_or v.pending t.irq false ≡ true))
    (λ t e. (alarm, λ f. ap (λ (ps : List Bool). slice_index_or ps t.irq false) pending ∙ f)))

-- the tail of others stays with it
pub others_stay : (own tail : Option Debt) (c d : Core) → KeepsTail tail tail c d
    → KeepsTail (others_tail own tail) (others_tail own tail) c d
others_stay None tail c d keeps = keeps
others_stay (Some own) tail c d keeps = tt
