-- The whole run: what its end asks for, and what came of it.
use Rattle.std.proofs.Common.{◌≡◌, ℕ, suc, ◌^◌, ◌<◌, ◌≤◌, Bool, true, false, List, [], ◌∷◌, flat_map, length}
use Rattle.std.proofs.Common.{map, get_or, refl, ap, subst, ◌∙◌, arith}
use Rattle.std.specs.List.{AllByRecursion}
use Rattle.rt_ids.specs.Names.{Names}
use Rattle.rt_ids.specs.declared.limits.TheConstants.{IRQ_NUMBERS}
use Rattle.rt_app.specs.Tree.{App}
use Rattle.rt_core.specs.Core.{Core}
use Rattle.rt_core.specs.Machine.{IsFresh, Machine}
use Rattle.rt_outside.specs.Faults.{Rose}
use Rattle.rt_script.specs.Script.{HasNames, IsScript}
use Rattle.rt_sim.specs.Good.{AreDeclared}
use Rattle.rt_trace.specs.Text.{total_text}
use Rattle.rt_words.specs.Account.{IsTally}
use Rattle.rt_words.specs.Ending.{OneHistory}
use Rattle.rt_words.specs.Lines.{Line, Row}
use Rattle.rt_words.specs.declared.tally.Tally.{Tally}
use Rattle.rt_live.specs.Account.{account_text, declared_irqs, settled_row, with_counts}
use Rattle.rt_live.specs.Ready.{AreGathered}
use Rattle.rt_live.specs.declared.account.AccountRow.{AccountRow}
use Rattle.rt_board.specs.Board.{Board}
use Rattle.rt_given.specs.Given.{asked}
use Rattle.rt_given.specs.declared.line.GivenLine.{GivenLine}
use Rattle.rt_inputs.specs.Inputs.{events_of, no_words}
use Rattle.rt_inputs.specs.Inside.Placed.{CanRun}
use Rattle.rt_inputs.specs.Inside.Ran.{held_in, moment}
use Rattle.rt_values.specs.Sides.{TakerSide}
use Rattle.rt_live_inputs.specs.Boxes.{boxes, plain}
use Rattle.rt_live_inputs.specs.Histories.{AreHistories}
use Rattle.rt_live_inputs.specs.Looking.{Found, Looks, happenings_of, line_turns, own_steps, step_turns, turns}
use Rattle.rt_live_inputs.specs.Output.{HasWritten, HasWrittenPart, happened}
use Rattle.rt_live_inputs.specs.declared.boxes.BoxKind.{BoxKind as Box}
use Rattle.rt_live_inputs.specs.Account.{rows_of}
use Rattle.rt_live_inputs.specs.Inside.Going.{CanHappen, CameOf, Puts}
use Rattle.rt_live_inputs.specs.Inside.Making.{HasGone, HasRoomFor, HaveHistories, HaveTaken, with_takers}
use Rattle.rt_live_inputs.specs.Inside.Turning.{IsLook}
use Rattle.rt_live_inputs.proofs.Declared.{run_declared}
use Rattle.rt_live_inputs.proofs.Final.{Came, if_all, if_cut, run_came}
use Rattle.rt_live_inputs.proofs.Going.{can_then, same_image}
use Rattle.rt_live_inputs.proofs.Lines.{lines_happen, repeated, steps_happen}
use Rattle.rt_live_inputs.proofs.Lived.{account_is, are_histories, rows_balanced, rows_room}
use Rattle.rt_live_inputs.proofs.Steps.{own_few}
use Rattle.rt_live_inputs.proofs.Turning.{happens_append, turn_steps, turn_ticks}

taken_long : (script : List GivenLine) (found : List Found) (k : ℕ) (kinds : List Box) (takers : List TakerSide)
    → HaveTaken script found k kinds takers → length kinds ≡ length takers
taken_long script found k [] [] taken = refl
taken_long script found k [] (t ∷ takers) taken = absurd taken
taken_long script found k (box ∷ kinds) [] taken = absurd taken
taken_long script found k (box ∷ kinds) (t ∷ takers) taken =
    ap suc (taken_long script found (suc k) kinds takers taken.1)

taken_gathered : (script : List GivenLine) (found : List Found) (k : ℕ) (kinds : List Box) (takers : List TakerSide)
    → HaveTaken script found k kinds takers → AllByRecursion (λ (t : TakerSide). t.gathered ≡ true) takers
taken_gathered script found k [] [] taken = tt
taken_gathered script found k [] (t ∷ takers) taken = absurd taken
taken_gathered script found k (box ∷ kinds) [] taken = absurd taken
taken_gathered script found k (box ∷ kinds) (t ∷ takers) taken =
    (taken.0.0, taken_gathered script found (suc k) kinds takers taken.1)

module _ (app : App) (board : Board) (script : List GivenLine) (m n : Machine) (words words' : List ℕ)
    (kinds : List Box) (takers : List TakerSide) (line : Line)
    (p q : Bool) (x y : List ℕ) (g h : ℕ) (can : CanRun app board m) (fresh : IsFresh m)
    (asking : IsScript (asked script))
    (gone : HasGone app board script kinds p q line takers (moment m words) (moment n words') x y g h) where
  pub kinds_long : length kinds ≡ length takers
  kinds_long = taken_long script gone.found 0 kinds takers gone.taken

  pub all_taken : AllByRecursion (λ (t : TakerSide). t.gathered ≡ true) takers
  all_taken = taken_gathered script gone.found 0 kinds takers gone.taken

  pub steps_small : n.steps < 2 ^ 32
  steps_small =
      let hs = happenings_of kinds (turns script) gone.found in
      let happening = happens_append (flat_map line_turns script) (Looks ∷ repeated (own_steps script) step_turns) in
      let still : CanHappen 0 app board n =
      can_then app board hs p q (moment m words) (moment n words') x y g h gone.goes 0 3000000
      (omega (
        arith,
        turn_steps kinds (turns script) gone.found,
        happening,
        lines_happen script,
        steps_happen (own_steps script),
        own_few script,
        asking.few,
      ))
      (omega (
        arith,
        turn_ticks kinds (turns script) gone.found,
        happening,
        lines_happen script,
        steps_happen (own_steps script),
        own_few script,
        asking.few,
      ))
      (record {
        can = can;
        few = omega (arith, fresh.steps);
        early = omega (arith, ap (λ (c : Core). c.time) fresh.core);
      }) in
      omega (arith, still.few)

  pub image_kept : n.image ≡ m.image
  image_kept =
      same_image app board (happenings_of kinds (turns script) gone.found) p q (moment m words)
      (moment n words') x y g h
      gone.goes

  module _ (row : Row) (counted : List AccountRow) (none : held_in words ≡ no_words)
      (scripted : IsScript (plain script))
      (named : HasNames m.image.names (asked script)) (kinds_are : kinds ≡ boxes script) (few : length kinds ≤ 8192)
      (gathered : AreGathered m.image.names (plain script) row line counted) (bits : List ℕ) (own : Tally)
      (one : OneHistory line bits) (told : IsTally line.here line.there line.calls own)
      (behind : (k : ℕ) → 16 ≤ k → get_or bits k 0 ≡ 0)
      (low : AllByRecursion (λ irq. irq < IRQ_NUMBERS) (declared_irqs m.image.names)) where
    abbrev names : Names
    names = m.image.names

    abbrev rows_then : List AccountRow
    rows_then = map (settled_row 0 bits) (map (with_counts 0 0 0 own) counted)

    pub rows_have_room : AllByRecursion (HasRoomFor (length kinds)) rows_then
    rows_have_room =
        rows_room (plain script) scripted (length kinds) few rows_then
        (rows_balanced names script row line counted gone.found kinds takers bits scripted gathered one behind gone.many
        gone.each gone.latched kinds_are gone.taken own told low)

    declared : AreDeclared app (events_of (happened script gone.found))
    declared =
        run_declared app script (subst (λ (ns : Names). HasNames ns (asked script)) can.names named) gone.found
        (length kinds)
        (subst (λ (ns : Names). AllByRecursion (IsLook ns (length kinds)) gone.found) can.names gone.each)

    -- once the histories of the mailboxes are known
    module _ (histories : HaveHistories takers) (front : List ℕ) (rows : List AccountRow)
        (rows_are : rows ≡ map (with_takers kinds takers) rows_then) (r s : Bool) (v z t : List ℕ) (f i j : ℕ)
        (first : Puts front true p v x f g) (third : Puts (total_text n.steps) q r y z h i)
        (last : Puts (account_text names rows) r s z t i j) where
      abbrev are : AreHistories script gone.found
      are =
          are_histories names script row line counted gone.found kinds takers bits scripted gathered one behind
          gone.many
          gone.each gone.latched kinds_are gone.taken histories

      told_rows : rows ≡ rows_of names (boxes script) are.entries are.calls
      told_rows =
          rows_are
          ∙ account_is names script row line counted gone.found kinds takers bits scripted gathered one behind gone.many
          gone.each gone.latched kinds_are gone.taken own told low histories kinds_long

      all_came : Came app board m words fresh none script gone.found are declared rows told_rows front s n v t f j
      all_came =
          run_came app board m words fresh none script gone.found are declared rows told_rows front n words' p q r s v
          x y
          z t f g h i j first
          (subst (λ (ks : List Box). CameOf app board (happenings_of ks (turns script) gone.found) p q (moment m words)
          (moment n words') x y g h) kinds_are gone.goes) third last

      pub ran_all : s ≡ true → HasWritten app board script front m n v t × (j ≡ f)
      ran_all =
          if_all app board m words fresh none script gone.found are declared rows told_rows front s n v t f j all_came

      pub ran_part : s ≡ false → HasWrittenPart app board script front m n v t × Rose f j
      ran_part =
          if_cut app board m words fresh none script gone.found are declared rows told_rows front s n v t f j all_came
