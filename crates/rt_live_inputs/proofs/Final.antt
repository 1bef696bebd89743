-- What was written in all is a text that `live` allows, or a beginning of one.
use Rattle.std.proofs.Common.{◌≡◌, ℕ, ◌⊎◌, Bool, true, false, List, [], ◌++◌, flat_map, refl, ap, sym}
use Rattle.std.proofs.Common.{subst, ◌∙◌, append_assoc, arith}
use Rattle.std.proofs.lemmas.Bool.{false≢true}
use Rattle.rt_ids.specs.Event.{Event, steps}
use Rattle.rt_app.specs.Tree.{App}
use Rattle.rt_code.specs.Image.{Image}
use Rattle.rt_core.specs.Core.{Core, reset}
use Rattle.rt_core.specs.Machine.{IsFresh, Machine}
use Rattle.rt_laws.specs.DeviceWords.{WithWords}
use Rattle.rt_outside.specs.Bytes.{Took, TookAtLeast, TookPrefix}
use Rattle.rt_outside.specs.Faults.{Rose}
use Rattle.rt_sim.specs.Beside.{labels_beside}
use Rattle.rt_sim.specs.Good.{AreDeclared}
use Rattle.rt_trace.specs.Text.{total_text}
use Rattle.rt_live.specs.Account.{account_text}
use Rattle.rt_live.specs.declared.account.AccountRow.{AccountRow}
use Rattle.rt_board.specs.Board.{Board}
use Rattle.rt_given.specs.declared.line.GivenLine.{GivenLine}
use Rattle.rt_inputs.specs.Inputs.{Happening, Registers, events_of, moves_from, moves_of, no_words}
use Rattle.rt_inputs.specs.Going.{Moment, MovesLead, moves_at, text_at, without_words}
use Rattle.rt_inputs.specs.Shown.{line_text, lines_from}
use Rattle.rt_inputs.specs.Inside.Ran.{held_in, moment}
use Rattle.rt_inputs.proofs.Moved.{events_come}
use Rattle.rt_live_inputs.specs.Account.{rows_of}
use Rattle.rt_live_inputs.specs.Boxes.{boxes}
use Rattle.rt_live_inputs.specs.Histories.{AreHistories}
use Rattle.rt_live_inputs.specs.Looking.{Found}
use Rattle.rt_live_inputs.specs.Output.{HasWritten, HasWrittenPart, IsLiveText, happened, live_text}
use Rattle.rt_live_inputs.specs.Inside.Going.{CameOf, Puts}
use Rattle.rt_live_inputs.proofs.Texts.{Comes_of, comes_of}

-- of what is not written nothing depends
puts_other : (q r : Bool) (bytes others : List ℕ) (x y : List ℕ) (f g : ℕ) → (q ≡ true → bytes ≡ others)
    → Puts bytes q r x y f g → Puts others q r x y f g
puts_other true r bytes others x y f g same puts =
    subst (λ (t : List ℕ). Puts t true r x y f g) (same refl) puts
puts_other false true bytes others x y f g same puts = puts
puts_other false false bytes others x y f g same puts = puts

-- where no fault came all steps were done
all_steps : (app : App) (board : Board) (hs : List Happening) (p q : Bool) (a b : Moment) (x y : List ℕ) (f g : ℕ)
    → a.machine.steps ≡ 0 → CameOf app board hs p q a b x y f g → q ≡ true
    → b.machine.steps ≡ steps (events_of hs)
all_steps app board hs true true a b x y f g none goes went = omega (
  arith,
  none,
  goes.0.leads.machine.steps,
  ap steps (events_come app a.machine.image board a.machine.core a.registers hs),
)
all_steps app board hs true false a b x y f g none goes went = absurd (false≢true went)
all_steps app board hs false true a b x y f g none goes went = absurd goes
all_steps app board hs false false a b x y f g none goes went = absurd (false≢true went)

module _ (app : App) (board : Board) (m : Machine) (words : List ℕ) (fresh : IsFresh m)
    (none : held_in words ≡ no_words) where
  abbrev start : Moment
  start = moment m words

  same_start : start ≡ without_words m
  same_start = ap (λ (r : Registers). let at : Moment = record { machine = m; registers = r } in at) none

  -- the whole trace
  text_is : (hs : List Happening) → live_text app m.image board hs
      ≡ text_at app board start hs ++ total_text (steps (events_of hs))
  text_is hs =
      let img : Image = m.image in
      let put : ℕ → Core → Registers → List ℕ = λ k c r.
      flat_map (line_text app) (lines_from k [] (labels_beside app img c (moves_from app img board c r hs))) in
      let total : List ℕ = total_text (steps (events_of hs)) in
      ap (λ es. put 0 (reset img) no_words ++ total_text (steps es)) (events_come app img board (reset img) no_words hs)
      ∙ ap (λ c. put 0 c no_words ++ total) (sym fresh.core)
      ∙ ap (λ k. put k m.core no_words ++ total) (sym fresh.steps)
      ∙ ap (λ r. put m.steps m.core r ++ total) (sym none)

  from_reset : (hs : List Happening) (n : Machine) → MovesLead app (moves_at app board start hs) m n
      → MovesLead app (moves_of app m.image board hs) m n
  from_reset hs n leads =
      subst (λ (ms : List (WithWords Event)). MovesLead app ms m n)
      (ap (λ (c : Core). moves_from app m.image board c no_words hs) fresh.core)
      (subst (λ (at : Moment). MovesLead app (moves_at app board at hs) m n) same_start leads)

  -- a run whose looks found this
  module _ (script : List GivenLine) (found : List Found) (are : AreHistories script found)
      (declared : AreDeclared app (events_of (happened script found))) (rows : List AccountRow)
      (rows_are : rows ≡ rows_of m.image.names (boxes script) are.entries are.calls) (front : List ℕ) where
    abbrev hs : List Happening
    hs = happened script found

    abbrev account : List ℕ
    account = account_text m.image.names rows

    abbrev bytes : List ℕ
    bytes = live_text app m.image board hs ++ account

    abbrev is_text : IsLiveText app m.image board script bytes
    is_text = record {
      found = found;
      are = are;
      declared = declared;
      written = ap (λ (rs : List AccountRow). live_text app m.image board hs ++ account_text m.image.names rs) rows_are;
    }

    whole_is : front ++ (text_at app board start hs ++ (total_text (steps (events_of hs)) ++ account)) ≡ front ++ bytes
    whole_is =
        ap (λ (t : List ℕ). front ++ t)
        (sym (append_assoc (text_at app board start hs) (total_text (steps (events_of hs))) account)
        ∙ ap (λ (t : List ℕ). t ++ account) (sym (text_is hs)))

    -- what came of it
    abbrev pub Came : Bool → Machine → List ℕ → List ℕ → ℕ → ℕ → Type 0
    Came true n v t f g = HasWritten app board script front m n v t × (g ≡ f)
    Came false n v t f g = HasWrittenPart app board script front m n v t × Rose f g

    came : (s : Bool) (n : Machine) (v t : List ℕ) (f g : ℕ)
        → Comes_of app board hs start front (total_text (steps (events_of hs)) ++ account) s n v t f g
        → Came s n v t f g
    came true n v t f g all = (
      record { bytes = bytes; is = is_text; took = subst (Took v t) whole_is all.0; leads = from_reset hs n all.1 },
      all.2,
    )
    came false n v t f g cut =
        let b = cut.0 in (
          record {
            part = record { bytes = bytes; is = is_text; took = subst (TookPrefix v t) whole_is b.took };
            told = b.told;
            last = b.last;
            rest = b.rest;
            parts = b.parts;
            one = b.one;
            leads = from_reset (b.told ++ b.last) n b.leads;
            lines =
                subst (λ (at : Moment). (b.told ++ b.last ≡ []) ⊎ TookAtLeast v t
                (front ++ text_at app board at b.told))
                same_start b.lines;
            all = b.all;
          },
          cut.1,
        )

    pub run_came : (n : Machine) (words' : List ℕ) (p q r s : Bool) (v x y z t : List ℕ) (f g h i j : ℕ)
        → Puts front true p v x f g → CameOf app board hs p q start (moment n words') x y g h
        → Puts (total_text n.steps) q r y z h i → Puts account r s z t i j → Came s n v t f j
    run_came n words' p q r s v x y z t f g h i j one two three four =
        came s n v t f j
        (comes_of app board hs start (moment n words') front (total_text (steps (events_of hs)))
        account p q r s v x y z t f
        g h i j one two
        (puts_other q r (total_text n.steps) (total_text (steps (events_of hs))) y z h i
        (λ went. ap total_text (all_steps app board hs p q start (moment n words') x y g h fresh.steps two went)) three)
        four)

    -- by the answer
    pub if_all : (s : Bool) (n : Machine) (v t : List ℕ) (f g : ℕ) → Came s n v t f g → s ≡ true
        → HasWritten app board script front m n v t × (g ≡ f)
    if_all true n v t f g all is = all
    if_all false n v t f g all is = absurd (false≢true is)

    pub if_cut : (s : Bool) (n : Machine) (v t : List ℕ) (f g : ℕ) → Came s n v t f g → s ≡ false
        → HasWrittenPart app board script front m n v t × Rose f g
    if_cut true n v t f g all is = absurd (false≢true (sym is))
    if_cut false n v t f g all is = all
