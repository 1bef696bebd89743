-- Core steps up to the first that shows an item, with what devices put where it is a take: where they lead, and their
-- lines.
use Rattle.std.proofs.Common.{◌≡◌, ℕ, zero, suc, List, [], ◌∷◌, ◌++◌, replicate}
use Rattle.std.proofs.Common.{Option, Some, None, refl, ap, sym, ◌∙◌, append_assoc, append-nil}
use Rattle.rt_ids.specs.Event.{Event, Step, steps}
use Rattle.rt_app.specs.Tree.{App}
use Rattle.rt_code.specs.Image.{Image}
use Rattle.rt_core.specs.Core.{Core}
use Rattle.rt_core.specs.Stepping.{step}
use Rattle.rt_core.specs.Trace.{happen, labels}
use Rattle.rt_trace.specs.Label.{Label, Stepped}
use Rattle.rt_trace.specs.declared.item.Item.{Item}
use Rattle.rt_trace.specs.declared.item.What.{What}
use Rattle.rt_trace.specs.declared.item.What.TheVariants as what
use Rattle.rt_laws.specs.DeviceWords.{WithWords, One, Puts, ones, things}
use Rattle.rt_sim.specs.Beside.{core_after_put, core_beside, labels_beside}
use Rattle.rt_board.specs.Board.{Board}
use Rattle.rt_inputs.specs.Inputs.{Comes, Registers, taken, puts_for, moves_from}
use Rattle.rt_inputs.specs.Shown.{ShownLine, Shows, Input, lines_from}
use Rattle.rt_inputs.specs.Inside.Placed.{lines_of_words}
use Rattle.rt_inputs.proofs.Joined.{things_append, core_append, labels_append}
use Rattle.rt_inputs.proofs.LinesBehind as behind
use Rattle.rt_inputs.proofs.Moved.{no_event_put}
use Rattle.rt_inputs.proofs.Takes.{takes_leave_cells}

abbrev numbered : ℕ → What → Item
numbered n w = record { step = n; what = w }

-- words that devices put, as they stand among labels
abbrev as_labels : List (WithWords Event) → List (WithWords Label)
as_labels [] = []
as_labels (One e ∷ puts) = as_labels puts
as_labels (Puts n word ∷ puts) = Puts n word ∷ as_labels puts

no_label : (puts : List (WithWords Event)) → things (as_labels puts) ≡ []
no_label [] = refl
no_label (One e ∷ puts) = no_label puts
no_label (Puts n word ∷ puts) = no_label puts

their_lines : (n : ℕ) (puts : List (WithWords Event)) (words : List ShownLine)
    → lines_from n words (as_labels puts) ≡ words ++ lines_of_words n puts
their_lines n [] words = sym (append-nil words)
their_lines n (One e ∷ puts) words = their_lines n puts words
their_lines n (Puts local word ∷ puts) words =
    their_lines n puts (words ++ Input n local word ∷ [])
    ∙ append_assoc words (Input n local word ∷ []) (lines_of_words n puts)

module _ (app : App) (img : Image) where
  labels_put : (puts : List (WithWords Event)) (c : Core) → things puts ≡ []
      → labels_beside app img c puts ≡ as_labels puts
  labels_put [] c only = refl
  labels_put (One e ∷ puts) c only = absurd cc
  labels_put (Puts n word ∷ puts) c only =
      ap (λ ls. Puts n word ∷ ls) (labels_put puts (core_after_put app n word c) only)

  -- words that are put behind a take are as words that are put before it
  put_behind : (puts : List (WithWords Event)) (c : Core) (irq depth : ℕ) → things puts ≡ []
      → (step img c).1 ≡ Some (what.Take irq depth)
      → step img (core_beside app img c puts) ≡ (core_beside app img (step img c).0 puts, (step img c).1)
  put_behind [] c irq depth only takes = refl
  put_behind (One e ∷ puts) c irq depth only takes = absurd cc
  put_behind (Puts n word ∷ puts) c irq depth only takes =
      let first = takes_leave_cells app img c n word irq depth takes in
      let shows : (step img (core_after_put app n word c)).1 ≡ (step img c).1 =
      ap (λ (s : Core × Option What). s.1) first in
      let leads : (step img (core_after_put app n word c)).0 ≡ core_after_put app n word (step img c).0 =
      ap (λ (s : Core × Option What). s.0) first in
      put_behind puts (core_after_put app n word c) irq depth only (shows ∙ takes)
      ∙ ap (λ d. (core_beside app img d puts, (step img (core_after_put app n word c)).1)) leads
      ∙ ap (λ o. (core_beside app img (core_after_put app n word (step img c).0) puts, o)) shows

  module _ (board : Board) (registers : Registers) where
    -- silent core steps, at which no device puts a word
    pub silent_moves : (k : ℕ) (c : Core) → labels img c (replicate k Step) ≡ replicate k (Stepped None)
        → moves_from app img board c registers (replicate k (Comes Step)) ≡ ones (replicate k Step)
    unfolding labels happen
    silent_moves zero c silent = refl
    silent_moves (suc k) c silent =
        let first : Stepped (step img c).1 ≡ Stepped None = cc in
        let none : (step img c).1 ≡ None = cc in
        let rest : labels img (step img c).0 (replicate k Step) ≡ replicate k (Stepped None) = cc in
        ap (λ (o : Option What). let puts = puts_for app board registers (taken o) in
        puts ++ One Step ∷ moves_from app img board (core_beside app img c (puts ++ One Step ∷ [])) registers
        (replicate k (Comes Step))) none
        ∙ ap (λ ms. One Step ∷ ms) (silent_moves k (step img c).0 rest)

    -- one core step and what devices put at it, by what it shows
    module _ (c : Core) (w : What) (shows : (step img c).1 ≡ Some w) where
      abbrev pub puts : List (WithWords Event)
      puts = puts_for app board registers (taken (Some w))

      one_is : moves_from app img board c registers (Comes Step ∷ []) ≡ puts ++ One Step ∷ []
      one_is = ap (λ (o : Option What). puts_for app board registers (taken o) ++ One Step ∷ []) shows

      -- the step with the words before it
      with_puts : step img (core_beside app img c puts) ≡ (core_beside app img (step img c).0 puts, (step img c).1)
      with_puts = by w shows
        where
          by : (w : What) → (step img c).1 ≡ Some w
              → step img (core_beside app img c (puts_for app board registers (taken (Some w))))
              ≡ (core_beside app img (step img c).0 (puts_for app board registers (taken (Some w))), (step img c).1)
          by (what.Take irq depth) takes =
              put_behind (puts_for app board registers (Some irq)) c irq depth
              (no_event_put app img board registers (Some irq)) takes
          by other takes = refl

      core_is : core_beside app img c (puts ++ One Step ∷ []) ≡ core_beside app img (step img c).0 puts
      unfolding happen
      core_is = core_append app img puts (One Step ∷ []) c ∙ ap (λ (s : Core × Option What). s.0) with_puts

      labels_are : labels_beside app img c (puts ++ One Step ∷ []) ≡ as_labels puts ++ One (Stepped (Some w)) ∷ []
      unfolding happen
      labels_are =
          labels_append app img puts (One Step ∷ []) c
          ∙ ap (λ ls. ls ++ One (Stepped (step img (core_beside app img c puts)).1) ∷ [])
          (labels_put puts c (no_event_put app img board registers (taken (Some w))))
          ∙ ap (λ o. as_labels puts ++ One (Stepped o) ∷ []) (ap (λ (s : Core × Option What). s.1) with_puts ∙ shows)

      pub one_core : core_beside app img c (moves_from app img board c registers (Comes Step ∷ []))
          ≡ core_beside app img (step img c).0 puts
      one_core = ap (core_beside app img c) one_is ∙ core_is

      pub one_lines : (n : ℕ)
          → lines_from n [] (labels_beside app img c (moves_from app img board c registers (Comes Step ∷ [])))
          ≡ Shows (numbered n w) ∷ lines_of_words n puts
      one_lines n =
          ap (λ ms. lines_from n [] (labels_beside app img c ms)) one_is
          ∙ ap (lines_from n []) labels_are
          ∙ behind.lines_of_words (as_labels puts) (Stepped (Some w)) n [] (no_label puts)
          ∙ ap (λ ls. Shows (numbered n w) ∷ ls) (their_lines n puts [])

      pub one_steps : steps (things (moves_from app img board c registers (Comes Step ∷ []))) ≡ 1
      one_steps =
          ap (λ ms. steps (things ms)) one_is
          ∙ ap steps (things_append puts (One Step ∷ [])
          ∙ ap (λ es. es ++ Step ∷ []) (no_event_put app img board registers (taken (Some w))))
