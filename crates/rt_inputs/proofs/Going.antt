-- Core steps up to the first that shows an item, as a run with inputs goes them.
use Rattle.std.proofs.Common.{◌≡◌, ℕ, zero, suc, ◌+◌, ◌-◌, ◌<◌, ◌≤◌, List, [], ◌∷◌, ◌++◌, map, flat_map, replicate}
use Rattle.std.proofs.Common.{Option, Some, None, length, refl, ap, sym, subst, ◌∙◌, append-nil, arith}
use Rattle.std.proofs.lemmas.List.{replicate_more}
use Rattle.rt_ids.specs.Event.{Step, steps}
use Rattle.rt_app.specs.Tree.{App}
use Rattle.rt_code.specs.Image.{Image}
use Rattle.rt_core.specs.Core.{Core}
use Rattle.rt_core.specs.Machine.{Machine}
use Rattle.rt_core.specs.Reaching.{StepsToItem, label_of_item, and_the_last}
use Rattle.rt_core.specs.Stepping.{step}
use Rattle.rt_core.specs.Trace.{happen, core_after, labels}
use Rattle.rt_outside.specs.Bytes.{TookPrefix}
use Rattle.rt_trace.specs.Label.{Stepped, items_of}
use Rattle.rt_trace.specs.declared.buffer.TheConstants.{BUFFER_BYTES}
use Rattle.rt_trace.specs.declared.item.Item.{Item}
use Rattle.rt_trace.specs.declared.item.What.{What}
use Rattle.rt_laws.specs.DeviceWords.{ones, things}
use Rattle.rt_laws.proofs.Beside.{things_ones}
use Rattle.rt_run.specs.Inside.Writing.{Wrote}
use Rattle.rt_run.proofs.Taking.{wrote_none}
use Rattle.rt_run.proofs.Reached.{steps_are}
use Rattle.rt_sim.specs.Beside.{core_beside, labels_beside}
use Rattle.rt_sim.proofs.Wordless.{labels_ones, core_ones}
use Rattle.rt_board.specs.Board.{Board}
use Rattle.rt_inputs.specs.Inputs.{Happening, Comes, Registers, taken, puts_for}
use Rattle.rt_inputs.specs.Shown.{ShownLine, Shows, lines_from, line_text}
use Rattle.rt_inputs.specs.Going.{Moment, MovesLead, Leads, moves_at, lines_at, text_at, registers_after}
use Rattle.rt_inputs.specs.Inside.Placed.{lines_of_words}
use Rattle.rt_inputs.specs.Inside.Ran.{Ran, Cut}
use Rattle.rt_inputs.proofs.LinesBehind.{lines_of_ones}
use Rattle.rt_inputs.proofs.Advancing.{leads_on, lines_split, written, stopped, cut_more}
use Rattle.rt_inputs.proofs.Reached.{silent_moves, one_core, one_lines, one_steps}

abbrev numbered : ℕ → What → Item
numbered n w = record { step = n; what = w }

same_registers : (n : ℕ) (registers : Registers) → registers_after registers (replicate n (Comes Step)) ≡ registers
same_registers zero registers = refl
same_registers (suc n) registers = same_registers n registers

-- silent steps show nothing
no_items : (k n : ℕ) → items_of n (replicate k (Stepped None)) ≡ []
no_items zero n = refl
no_items (suc k) n = no_items k (suc n)

-- the steps before the last show nothing, and the last shows the item
last_shows : (img : Image) (c : Core) (k : ℕ) (w : What)
    → labels img c (replicate (suc k) Step) ≡ replicate k (Stepped None) ++ Stepped (Some w) ∷ []
    → (labels img c (replicate k Step) ≡ replicate k (Stepped None))
    × ((step img (core_after img c (replicate k Step))).1 ≡ Some w)
unfolding labels happen core_after
last_shows img c zero w is = (refl, let last : (step img c).1 ≡ Some w = cc in last)
last_shows img c (suc k) w is =
    let first : Stepped (step img c).1 ≡ Stepped None = cc in
    let rest : labels img (step img c).0 (replicate (suc k) Step)
    ≡ replicate k (Stepped None) ++ Stepped (Some w) ∷ [] = cc in
    let behind = last_shows img (step img c).0 k w rest in (
      ap (λ l. l ∷ labels img (step img c).0 (replicate k Step)) first ∙ ap (λ ls. Stepped None ∷ ls) behind.0,
      behind.1,
    )

last_core : (img : Image) (c : Core) (k : ℕ)
    → core_after img c (replicate (suc k) Step) ≡ (step img (core_after img c (replicate k Step))).0
unfolding core_after happen
last_core img c zero = refl
last_core img c (suc k) = last_core img (step img c).0 k

-- where the last step shows an item there is one
pub one_done : (most : ℕ) (a b : Machine) (shown : Option What) (w : What) (goes : StepsToItem most a b shown)
    → shown ≡ Some w → goes.done ≡ suc goes.reaches.silent
one_done most a b shown w goes some = goes.reaches.count ∙ ap (and_the_last goes.reaches.silent) some

module _ (app : App) (board : Board) (registers : Registers) where
  abbrev pub at : Machine → Moment
  at m = record { machine = m; registers = registers }

  -- silent core steps
  module _ (k : ℕ) (a : Machine)
      (silent : labels a.image a.core (replicate k Step) ≡ replicate k (Stepped None)) where
    moves_are : moves_at app board (at a) (replicate k (Comes Step)) ≡ ones (replicate k Step)
    moves_are = silent_moves app a.image board registers k a.core silent

    silent_leads : (b : Machine) → b.image ≡ a.image → b.core ≡ core_after a.image a.core (replicate k Step)
        → b.steps ≡ a.steps + k → Leads app board (replicate k (Comes Step)) (at a) (at b)
    silent_leads b image core count = record {
      machine = record {
        image = image;
        core =
            core ∙ sym (core_ones app a.image (replicate k Step) a.core)
            ∙ ap (core_beside app a.image a.core) (sym moves_are);
        steps =
            omega (
              arith,
              count,
              ap (λ ms. steps (things ms)) moves_are,
              ap steps (things_ones (replicate k Step)),
              steps_are k,
            );
      };
      registers = sym (same_registers k registers);
    }

    silent_lines : lines_at app board (at a) (replicate k (Comes Step)) ≡ []
    silent_lines =
        ap (λ ms. lines_from a.steps [] (labels_beside app a.image a.core ms)) moves_are
        ∙ ap (lines_from a.steps []) (labels_ones app a.image (replicate k Step) a.core ∙ ap ones silent)
        ∙ lines_of_ones a.steps (replicate k (Stepped None)) ∙ ap (map Shows) (no_items k a.steps)

  -- where no step shows an item
  pub none_ran : (most : ℕ) (a b : Machine) (shown : Option What) (x held : List ℕ)
      (goes : StepsToItem most a b shown) → shown ≡ None
      → Ran app board (replicate (most - 0) (Comes Step)) (at a) (at b) x x held held
  none_ran most a b shown x held goes none =
      let k : ℕ = goes.done in
      let count : goes.reaches.silent ≡ k =
      omega (arith, goes.reaches.count, ap (and_the_last goes.reaches.silent) none) in
      let silent : labels a.image a.core (replicate k Step) ≡ replicate k (Stepped None) =
      goes.reaches.shows ∙ ap (λ o. replicate goes.reaches.silent (Stepped None) ++ label_of_item o) none
      ∙ append-nil (replicate goes.reaches.silent (Stepped None)) ∙ ap (λ n. replicate n (Stepped None)) count in
      let all : k ≡ most - 0 = omega (arith, goes.all none) in
      subst (λ n. Ran app board (replicate n (Comes Step)) (at a) (at b) x x held held) all
      (written app board (replicate k (Comes Step)) (at a) (at b) x x held held []
      (silent_leads k a silent b goes.image goes.reaches.core goes.steps)
      (ap (flat_map (line_text app)) (silent_lines k a silent)) (wrote_none x held))

  -- where the last shows one, with what devices put there
  module _ (most : ℕ) (a b m : Machine) (shown : Option What) (w : What) (goes : StepsToItem most a b shown)
      (some : shown ≡ Some w)
      (state : m
      ≡ record b { core = core_beside app b.image b.core (puts_for app board registers (taken (Some w))) }) where
    abbrev k : ℕ
    k = goes.reaches.silent

    abbrev before : Core
    before = core_after a.image a.core (replicate k Step)

    abbrev middle : Machine
    middle = record { image = a.image; core = before; steps = a.steps + k }

    count : goes.done ≡ suc k
    count = one_done most a b shown w goes some

    facts : (labels a.image a.core (replicate k Step) ≡ replicate k (Stepped None))
        × ((step a.image before).1 ≡ Some w)
    facts =
        last_shows a.image a.core k w
        (ap (λ n. labels a.image a.core (replicate n Step)) (sym count) ∙ goes.reaches.shows
        ∙ ap (λ o. replicate k (Stepped None) ++ label_of_item o) some)

    core_there : b.core ≡ (step a.image before).0
    core_there =
        goes.reaches.core ∙ ap (λ n. core_after a.image a.core (replicate n Step)) count
        ∙ last_core a.image a.core k

    abbrev words : List ShownLine
    words = lines_of_words (a.steps + k) (puts_for app board registers (taken (Some w)))

    front_leads : Leads app board (replicate k (Comes Step)) (at a) (at middle)
    front_leads = silent_leads k a facts.0 middle refl refl refl

    last_leads : MovesLead app (moves_at app board (at middle) (Comes Step ∷ [])) middle m
    last_leads =
        subst (λ (n : Machine). MovesLead app (moves_at app board (at middle) (Comes Step ∷ [])) middle n) (sym state)
        (record {
          image = goes.image;
          core =
              ap (λ (i : Image). core_beside app i b.core (puts_for app board registers (taken (Some w)))) goes.image
              ∙ ap (λ c. core_beside app a.image c (puts_for app board registers (taken (Some w)))) core_there
              ∙ sym (one_core app a.image board registers before w facts.1);
          steps =
              omega (
                arith,
                goes.steps,
                count,
                one_steps app a.image board registers before w facts.1,
              );
        })

    abbrev all : List Happening
    all = replicate k (Comes Step) ++ Comes Step ∷ []

    all_lead : Leads app board all (at a) (at m)
    all_lead =
        leads_on app board (replicate k (Comes Step)) (Comes Step ∷ []) (at a) (at middle) front_leads (at m)
        (record { machine = last_leads; registers = refl })

    all_lines : lines_at app board (at a) all ≡ Shows (numbered (a.steps + k) w) ∷ words
    all_lines =
        lines_split app board (replicate k (Comes Step)) (Comes Step ∷ []) (at a) (at middle) front_leads
        ∙ ap (λ ls. ls ++ lines_at app board (at middle) (Comes Step ∷ [])) (silent_lines k a facts.0)
        ∙ one_lines app a.image board registers before w facts.1 (a.steps + k)

    as_done : all ≡ replicate goes.done (Comes Step)
    as_done =
        replicate_more k (Comes Step)
        ∙ ap (λ n. replicate n (Comes Step)) (let e : k + 1 ≡ goes.done = omega (arith, count) in e)

    -- the lines, by the number of core steps that the code counts
    abbrev pub text_by : ℕ → List ℕ
    text_by n =
        flat_map (line_text app)
        (Shows (numbered n w) ∷ lines_of_words n (puts_for app board registers (taken (Some w))))

    module _ (n : ℕ) (counted : n + 1 ≡ m.steps) where
      same_number : a.steps + k ≡ n
      same_number = omega (arith, counted, ap (λ (m : Machine). m.steps) state, goes.steps, count)

      all_text : text_at app board (at a) all ≡ text_by n
      all_text = ap (flat_map (line_text app)) all_lines ∙ ap text_by same_number

      pub item_ran : (x y held kept : List ℕ) → Wrote x y held kept (text_by n)
          → Ran app board (replicate goes.done (Comes Step)) (at a) (at m) x y held kept
      item_ran x y held kept wrote =
          subst (λ hs. Ran app board hs (at a) (at m) x y held kept) as_done
          (written app board all (at a) (at m) x y held kept (text_by n) all_lead all_text wrote)

      pub item_cut : (x y held : List ℕ) → length held ≤ BUFFER_BYTES → TookPrefix x y (held ++ text_by n)
          → Cut app board (replicate most (Comes Step)) (at a) (at m) x y held
      item_cut x y held few part =
          let shows : 0 < length (lines_at app board (at a) all) = omega (arith, ap length all_lines) in
          cut_more app board goes.done most (at a) (at m) x y held goes.within
          (subst (λ hs. Cut app board hs (at a) (at m) x y held) as_done
          (stopped app board (replicate k (Comes Step)) Step (at a) (at m) x y held (text_by n)
          (silent_lines k a facts.0) shows few all_lead all_text part))
