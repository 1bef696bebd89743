-- Worked examples: what Baker's machine gives and allows is what a person worked out from Baker's rules.
use Rattle.std.proofs.Common.{◌≡◌, ℕ, false, List, [], ◌∷◌, ◌++◌, codes, Some, None, refl}
use Rattle.rt_ids.specs.declared.op.Op.TheVariants as op
use Rattle.rt_ids.specs.declared.ids.BodyId.TheVariants as body
use Rattle.rt_ids.specs.declared.ids.Section.TheVariants as section
use Rattle.rt_trace.specs.Label.{Label, Arrived}
use Rattle.rt_trace.specs.declared.item.What.TheVariants as what
use Rattle.rt_app.specs.declared.expr.Atom.TheVariants as atom
use Rattle.rt_app.specs.Tree.{Num, Read, Oper, Assign, Locked, Emit, Then, App}
use Rattle.rt_app.specs.Waiting.{waiting_bound}
use Rattle.rt_app.proofs.RowParts.{irq, shared, body_listing, hardware, last}
use Rattle.rt_laws.specs.State.{first}
use Rattle.rt_laws.specs.ByItems.{after_all, silent}
use Rattle.rt_laws.specs.Observer.{Seen, first_sight, sees_all}
use Rattle.rt_laws.specs.Waiting.{steppers, lower, is_take}
use Rattle.rt_laws.proofs.RowParts.{Moment, moment, shows, lefts_of}

-- interrupts { LO = 0, MID = 1, HI = 2 }  shared { s = 5 }
-- task lo(binds = LO, priority = 1, shared = [s]) { lock s { s = s + 1; } emit 9; }
-- task mid(binds = MID, priority = 2) { emit 7; }
-- task hi(binds = HI, priority = 3, shared = [s]) { lock s { emit s; } }
unfoldable pub locks : App
locks = record {
  bits = 3;
  fpu = false;
  irqs = irq (codes "LO") 0 ∷ irq (codes "MID") 1 ∷ irq (codes "HI") 2 ∷ [];
  dispatchers = [];
  mono = None;
  shared = shared (codes "s") 5 ∷ [];
  locals = [];
  init = None;
  idle = None;
  tasks = hardware (codes "lo") 0 1 (body_listing (0 ∷ [])
      (Then (Locked 0 (last (Assign (atom.Shared 0) (Oper op.Add (Read (atom.Shared 0) 0) (Num 1)) 0)) 0)
      (last (Emit (Num 9)))))
      ∷ hardware (codes "mid") 1 2 (body_listing [] (last (Emit (Num 7))))
      ∷ hardware (codes "hi") 2 3 (body_listing (0 ∷ []) (last (Locked 0 (last (Emit (Read (atom.Shared 0) 0))) 0)))
      ∷ [];
  name_at = 0;
}

-- the machine after these labels
abbrev at : List Label → Moment
at labels = moment locks (after_all locks (first locks) labels)

-- `init` is absent, and ends at once. Before that the system ceiling is the greatest priority, 8, so nothing is taken.
masked : at (Arrived 2 ∷ []) ≡ record { ceiling = 8; candidate = None; gives = Some (what.End body.Init) }
unfolding locks
masked = refl

-- then `lo` is to be taken; the thread waits
unfoldable pub ended : List Label
ended = Arrived 0 ∷ shows (what.End body.Init) ∷ []

takes_lo : at ended ≡ record { ceiling = 0; candidate = Some 0; gives = None }
unfolding locks ended
takes_lo = refl

-- Inside the lock of `s`, whose ceiling is 3, the others are pending: none is taken, and the value is left as it was
-- raised.
unfoldable pub inside : List Label
inside = ended ++ shows (what.Take 0 40) ∷ shows (what.Enter (section.Res 0)) ∷ Arrived 1 ∷ Arrived 2 ∷ []

holds_both_off : at inside ≡ record {
  ceiling = 3;
  candidate = None;
  gives =
      Some (what.Leave (section.Res 0) (Some 6));
}
unfolding locks ended inside
holds_both_off = refl

-- Once it is left, the one of the greatest priority is to be taken, and then the other, before `lo` goes on.
takes_hi : at (inside ++ shows (what.Leave (section.Res 0) (Some 6)) ∷ [])
    ≡ record { ceiling = 1; candidate = Some 2; gives = Some (what.Emit 9) }
unfolding locks ended inside
takes_hi = refl

-- A lock of `s` costs 6 steps, the entering and the leaving counted: 1 is left after the entering and four silent
-- steps, and none after five.
left_after : ℕ → List ℕ
left_after n = lefts_of (after_all locks (first locks)
    (ended ++ shows (what.Take 0 40) ∷ shows (what.Enter (section.Res 0)) ∷ silent n)).jobs

four_silent : left_after 4 ≡ 1 ∷ []
unfolding locks ended left_after
four_silent = refl

five_silent : left_after 5 ≡ 0 ∷ []
unfolding locks ended left_after
five_silent = refl

-- The waiting of `hi`, which becomes pending inside the lock: the steps of `lo` up to the leaving, in the section
-- that it entered in step 2.
waiting : List Seen
waiting =
    let behind : List Label = ended ++ shows (what.Take 0 40) ∷ shows (what.Enter (section.Res 0)) ∷ Arrived 2 ∷ [] in
    lower 3 (steppers locks (is_take 2) (sees_all locks (first_sight locks) behind)
    (silent 2 ++ shows (what.Leave (section.Res 0) (Some 6)) ∷ shows (what.Take 2 80) ∷ []))

waits_in_one_section : waiting ≡
    (let held : Seen = record { priority = 1; inside = section.Res 0 ∷ []; since = 2 ∷ [] } in held ∷ held ∷ held ∷ [])
unfolding locks ended waiting
waits_in_one_section = refl

-- and the bound is the cost of the lock
bound : waiting_bound locks 3 ≡ 6
unfolding locks
bound = refl
