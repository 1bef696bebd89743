-- What is made for two cores lets them run, and lets the words be closed when they have ended.
use Rattle.rt_live.proofs.Vocabulary.{AllByRecursion, Caller, Contains, Core, Device, Event, HasBits, HasLines}
use Rattle.rt_live.proofs.Vocabulary.{HasOwnName, HasOwnNames, IRQ_NUMBERS, Image, IsFresh, IsPending, IsScript, Line}
use Rattle.rt_live.proofs.Vocabulary.{List, Machine, Names, Pends, Row, Steps, Ticks, [], all_has, ap, arith}
use Rattle.rt_live.proofs.Vocabulary.{bit_in_row, declared_irqs, empty_row, false≢true, irqs_of, last_turns, length}
use Rattle.rt_live.proofs.Vocabulary.{map, own_events, pending_bit, row_count, steps_below, subst, sym, true}
use Rattle.rt_live.proofs.Vocabulary.{with_looks, ℕ, ◌++◌, ◌/◌, ◌<◌, ◌^◌, ◌∙◌, ◌∷◌, ◌≡◌}
use Rattle.rt_dual.proofs.Vocabulary.{AreEmpty, Both, HasRun, HaveRun, IsWoven, CorePlace, Second, Share, Side}
use Rattle.rt_dual.proofs.Vocabulary.{irqs_empty}
use Rattle.rt_dual.proofs.Vocabulary.{leads_by, own_length, placed_line, turns, weave}
use Rattle.rt_live.proofs.{Woven.looks-append, Woven.looks_own, Readied.able_placed}
use Rattle.rt_dual.specs.Inside.Both.{AreBefore, CanRun, CanWrite, HasEnded, IsBefore}
use Rattle.rt_dual.proofs.{Posted.turn_events, Routing.forwards_declared}

-- bits of another core leave those of this one
pub bits_kept : (core : ℕ) (old new irqs : List ℕ)
    → ((bit : ℕ) → bit / 512 ≡ core → pending_bit new bit ≡ pending_bit old bit) → HasBits core old irqs
    → HasBits core new irqs
bits_kept core old new irqs same has irq low =
    let kept = same (bit_in_row core irq) (omega (arith, low)) in
    (λ is. (has irq low).0 (sym kept ∙ is), λ there. kept ∙ (has irq low).1 there)

-- a core can run on its side
module _ {place : CorePlace} {made : List ℕ} {share : Share} {head : List ℕ} {row : Row} {m : Machine} {other : Image}
    {side : Side} (fresh : IsFresh m) (lines : HasLines m.image)
    (before : IsBefore place made share head row m.image other side) (near : place.here < 2) (many : row_count row ≡ 32)
    (far : HasBits place.there row.may (declared_irqs other.names))
    (bits : AllByRecursion (λ irq. irq < IRQ_NUMBERS) (declared_irqs other.names)) (script : List Line)
    (scripted : IsScript script) (named : HasOwnNames share m.image.names script) where
  pub can_run : CanRun script m side row
  can_run = record {
    can = record {
      able =
          able_placed fresh lines (ap (λ (l : Caller). l.words) before.line)
          (omega (arith, ap (λ (l : Caller). l.here) before.line, near, many))
          (subst (λ n. HasBits n row.may (declared_irqs m.image.names)) (sym (ap (λ (l : Caller). l.here) before.line))
          before.may) before.bits;
      routed = λ post irq is.
          let there : Contains (declared_irqs other.names) irq =
          forwards_declared m.image other.names post irq (sym (before.routes post) ∙ is) in
          let low : irq < 496 = all_has (λ n. n < IRQ_NUMBERS) (declared_irqs other.names) irq bits there in
          subst (λ (l : Caller). IsPending row.may (bit_in_row l.there irq)) (sym before.line)
          ((far irq (omega (arith, low))).1 there);
      few = omega (arith, fresh.steps, scripted.few);
      early = omega (arith, ap (λ (c : Core). c.time) fresh.core, scripted.few);
      room = omega (arith, ap (λ (l : Caller). length l.calls) before.line, scripted.few);
    };
    declared = subst (λ s. HasOwnNames s m.image.names script) (sym before.shares) named;
  }

-- both cores have ended on their sides
pub have_run : {script : List Line} {a a' b b' : Machine} {old : Both} {first second : Side} → IsFresh a → IsFresh b
    → AreBefore a.image b.image old → HasEnded script a a' old.first first → HasEnded script b b' old.second second
    → HaveRun script a a' b b' (record old { first = first; second = second })
have_run {old = old} fresh_a fresh_b before one two = record {
  one = record { fresh = fresh_a; old = old.first; before = before.one; ended = one };
  two = record { fresh = fresh_b; old = old.second; before = before.two; ended = two };
}

-- a core that has ended on its side
module _ {place : CorePlace} {made : List ℕ} {share : Share} {head : List ℕ} {row : Row} {other : Image}
    {script : List Line} {m n : Machine} {side : Side} (run : HasRun place made share head row other script m n side)
  where
    -- what its turns came to
    abbrev pub woven : IsWoven (leads_by run.old.role.routes) run.old.line.value.here run.old.line.value.there true
        (turns (own_events run.old.role.share script)) run.ended.ends.calls m n run.old.text.bytes.items
        run.ended.ends.ended.shown
    woven = weave run.ended.ends.ended.done

    abbrev ended_line : side.line.value ≡ placed_line place row made run.ended.ends.calls
    ended_line =
        run.ended.ends.same ∙ ap (λ (l : Caller). record l { calls = l.calls ++ run.ended.ends.calls }) run.before.line

    pub own_calls : side.line.value.calls ≡ run.ended.ends.calls
    own_calls = ap (λ (l : Caller). l.calls) ended_line

    still_placed : side.line.value ≡ placed_line place row made side.line.value.calls
    still_placed = ended_line ∙ ap (placed_line place row made) (sym own_calls)

    pub rows_irqs : irqs_of side.rows.items ≡ declared_irqs m.image.names
    rows_irqs = ap irqs_of (run.ended.rows ∙ run.before.rows) ∙ irqs_empty (declared_irqs m.image.names)

    still_empty : AreEmpty side.rows.items
    still_empty = record {
      empty = run.ended.rows ∙ run.before.rows ∙ ap (map empty_row) (sym rows_irqs);
      bits = subst (AllByRecursion (λ irq. irq < IRQ_NUMBERS)) (sym rows_irqs) run.before.bits;
    }

    few_calls : IsScript script → length side.line.value.calls < 2 ^ 32
    few_calls scripted =
        let events : List Event = own_events run.old.role.share script in
        omega (
          arith,
          ap length own_calls,
          woven.few,
          looks-append (with_looks events) (last_turns 0),
          looks_own events,
          steps_below events,
          ap length (turn_events events),
          own_length run.old.role.share script,
          scripted.few,
        )

-- the words of both can be closed
pub can_write : {script : List Line} {a a' b b' : Machine} {both : Both} → HaveRun script a a' b b' both
    → IsScript script → CanWrite both
can_write run scripted = record {
  first_line = still_placed run.one;
  second_line = still_placed run.two;
  few = few_calls run.two scripted;
  one_empty = still_empty run.one;
  two_empty = still_empty run.two;
}

-- the second core gets no request of the script
pub second_names : (names : Names) (script : List Line) → HasOwnNames Second names script
second_names names [] = tt
second_names names (line ∷ script) = (one line, second_names names script)
  where
    one : (l : Line) → HasOwnName Second names l
    one (Steps n) taken = tt
    one (Ticks n) taken = tt
    one (Pends irq n) taken = absurd (false≢true taken)
    one (Device d irq n) taken = absurd (false≢true taken)
