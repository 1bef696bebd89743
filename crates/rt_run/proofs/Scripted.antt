-- A run line by line of a script, from a fresh core to the text of the whole trace.
use Rattle.std.proofs.Common.{◌≡◌, ℕ, ◌+◌, ◌<◌, ◌≤◌, List, [], ◌∷◌, ◌++◌, length, flat_map, take, drop}
use Rattle.std.proofs.Common.{if◌then◌else◌, inl, inr, refl, ap, sym, subst, ◌∙◌, get_or, arith}
use Rattle.std.proofs.lemmas.Grind.{flat_map-append}
use Rattle.std.proofs.lemmas.List.{append-nil, take_more, take-append-drop, length-append, length-replicate}
use Rattle.std.proofs.lemmas.List.Sums.{sum_by-cons, sum_by-take-le}
use Rattle.rt_ids.specs.Event.{Arrive, Tick, Step, steps}
use Rattle.rt_ids.specs.Lists.{is_empty}
use Rattle.rt_ids.specs.declared.limits.TheConstants.{SCRIPT_EVENTS}
use Rattle.rt_outside.specs.Bytes.{Took, TookAtLeast, TookPrefix}
use Rattle.rt_code.specs.Image.{Image}
use Rattle.rt_core.specs.Core.{Core, reset}
use Rattle.rt_core.specs.Machine.{Machine, IsFresh}
use Rattle.rt_core.specs.Trace.{labels}
use Rattle.rt_script.specs.Script.{IsScript, count, count_of, events, line_events}
use Rattle.rt_script.specs.declared.line.Line.{Line}
use Rattle.rt_script.specs.declared.line.Line.TheVariants.{Steps, Ticks, Pends, Device}
use Rattle.rt_trace.specs.Label.{items_of}
use Rattle.rt_trace.specs.declared.buffer.TheConstants.{BUFFER_BYTES}
use Rattle.rt_trace.specs.Text.{text, total_text}
use Rattle.rt_run.specs.Sending.{BreaksOff, TookButHeld, lines_of}
use Rattle.rt_run.specs.Inside.Writing.{Writes, Cut}
use Rattle.rt_run.specs.Written.{text_of}
use Rattle.rt_run.proofs.Taking.{part_more, wrote_all, wrote_cut, least_on}
use Rattle.rt_run.proofs.Advancing.{goes_on, cut_behind, cut_before, lines_split}

line_length : (line : Line) → length (line_events line) ≡ count_of line
line_length (Steps n) = length-replicate n Step
line_length (Ticks n) = length-replicate n Tick
line_length (Pends irq n) = length-replicate n (Arrive irq)
line_length (Device d irq n) = length-replicate n (Arrive irq)

-- a script is so many events
pub events_length : (script : List Line) → length (events script) ≡ count script
events_length [] = refl
events_length (line ∷ script) =
    rw sum_by-cons
    (omega (arith, length-append (line_events line) (events script), line_length line, events_length script))

module _ (script : List Line) (i : ℕ) (line : Line) (below : i < length script) (is : line ≡ get_or script i line) where
  pub events_more : events (take (i + 1) script) ≡ events (take i script) ++ line_events line
  events_more =
      ap events (take_more script i line below)
      ∙ flat_map-append line_events (take i script) (get_or script i line ∷ [])
      ∙ ap (λ es. events (take i script) ++ es) (append-nil (line_events (get_or script i line)))
      ∙ ap (λ (l : Line). events (take i script) ++ line_events l) (sym is)

  -- so many events have come before the line, and the line is so many
  pub room : IsScript script → length (events (take i script)) + count_of line ≤ SCRIPT_EVENTS
  room scripted =
      omega (
        arith,
        ap length events_more,
        length-append (events (take i script)) (line_events line),
        line_length line,
        events_length (take (i + 1) script),
        sum_by-take-le count_of script (i + 1),
        scripted.few,
      )

  pub line_more : (a b c : Machine) (x y z held mid kept : List ℕ) → Writes (events (take i script)) a b x y held mid
      → Writes (line_events line) b c y z mid kept → Writes (events (take (i + 1) script)) a c x z held kept
  line_more a b c x y z held mid kept first second =
      subst (λ es. Writes es a c x z held kept) (sym events_more)
      (goes_on (events (take i script)) (line_events line) a b c x y z held mid kept first second)

  pub line_cut : (a b c : Machine) (x y z held mid : List ℕ) → Writes (events (take i script)) a b x y held mid
      → Cut (line_events line) b c y z mid → Cut (events script) a c x z held
  line_cut a b c x y z held mid first cut =
      subst (λ es. Cut es a c x z held) all
      (cut_before (events (take (i + 1) script)) (events (drop (i + 1) script)) a c x z held
      (subst (λ es. Cut es a c x z held) (sym events_more)
      (cut_behind (events (take i script)) (line_events line) a b c x y z held mid first cut)))
    where
      all : events (take (i + 1) script) ++ events (drop (i + 1) script) ≡ events script
      all =
          sym (flat_map-append line_events (take (i + 1) script) (drop (i + 1) script))
          ∙ ap events (take-append-drop (i + 1) script)

-- the same of equal lines
pub ran_same : (s t : List Line) (a b : Machine) (x y held kept : List ℕ) → s ≡ t
    → Writes (events s) a b x y held kept → Writes (events t) a b x y held kept
ran_same s t a b x y held kept same run =
    subst (λ (lines : List Line). Writes (events lines) a b x y held kept) same run

pub cut_same : (s t : List Line) (a b : Machine) (x y held : List ℕ) → s ≡ t
    → Cut (events s) a b x y held → Cut (events t) a b x y held
cut_same s t a b x y held same cut = subst (λ (lines : List Line). Cut (events lines) a b x y held) same cut

-- the whole text
text_is : (m : Machine) (script : List Line) → IsFresh m
    → text_of m.image script ≡ lines_of m (events script) ++ total_text (steps (events script))
text_is m script fresh =
    let img : Image = m.image in
    let put : ℕ → Core → List ℕ = λ k c. flat_map (text img.names) (items_of k (labels img c (events script))) in
    let total : List ℕ = total_text (steps (events script)) in
    ap (λ t. put 0 (reset img) ++ t) (append-nil total)
    ∙ ap (λ c. put 0 c ++ total) (sym fresh.core)
    ∙ ap (λ k. put k m.core ++ total) (sym fresh.steps)

module _ (m n : Machine) (script : List Line) (fresh : IsFresh m) (x y held : List ℕ) (empty : held ≡ []) where
  -- what a fault at one of the lines leaves done
  pub cut_off : Cut (events script) m n x y held → BreaksOff (events script) m n x y
  cut_off cut = record {
    done = cut.done;
    rest = cut.rest;
    parts = cut.parts;
    leads = cut.leads;
    cut =
        part_more x y (lines_of m cut.done) (if is_empty cut.rest then total_text n.steps else [])
        (subst (λ h. TookPrefix x y (h ++ lines_of m cut.done)) empty cut.took);
    stops = inl (record {
      ends = cut.ends;
      held = subst (λ h. TookButHeld x y (h ++ lines_of m cut.ends.earlier)) empty cut.held_back;
    });
  }

  -- a fault at one of the lines
  pub cut_text : Cut (events script) m n x y held → TookPrefix x y (text_of m.image script)
  cut_text cut =
      let total : List ℕ = total_text (steps (events script)) in
      let front : TookPrefix x y (lines_of m cut.done) =
      subst (λ h. TookPrefix x y (h ++ lines_of m cut.done)) empty cut.took in
      let lines : TookPrefix x y (lines_of m (events script)) =
      subst (TookPrefix x y) (sym (ap (lines_of m) cut.parts ∙ lines_split cut.done cut.rest m n cut.leads))
      (part_more x y (lines_of m cut.done) (lines_of n cut.rest) front) in
      subst (TookPrefix x y) (sym (text_is m script fresh)) (part_more x y (lines_of m (events script)) total lines)

  module _ (z kept : List ℕ) (run : Writes (events script) m n x y held kept) (total : ℕ)
      (counted : total ≡ n.steps) where
    all_steps : total ≡ steps (events script)
    all_steps = omega (arith, counted, run.leads.steps, fresh.steps)

    whole : held ++ (lines_of m (events script) ++ total_text total) ≡ text_of m.image script
    whole =
        ap (λ h. h ++ (lines_of m (events script) ++ total_text total)) empty
        ∙ ap (λ k. lines_of m (events script) ++ total_text k) all_steps ∙ sym (text_is m script fresh)

    pub finished : Took y z (kept ++ total_text total) → Took x z (text_of m.image script)
    finished took =
        subst (Took x z) whole
        (wrote_all x y z held kept (lines_of m (events script)) (total_text total) run.wrote took)

    -- what a fault behind all events leaves done
    pub total_off : length kept ≤ BUFFER_BYTES → TookPrefix y z (kept ++ total_text total)
        → BreaksOff (events script) m n x z
    total_off few took = record {
      done = events script;
      rest = [];
      parts = sym (append-nil (events script));
      leads = run.leads;
      cut =
          subst (TookPrefix x z)
          (ap (λ h. h ++ (lines_of m (events script) ++ total_text total)) empty
          ∙ ap (λ k. lines_of m (events script) ++ total_text k) counted)
          (wrote_cut x y z held kept (lines_of m (events script)) (total_text total) run.wrote took);
      stops = inr (
        refl,
        record {
          front = run.wrote.front;
          held = kept;
          parts = ap (λ h. h ++ lines_of m (events script)) (sym empty) ∙ run.wrote.parts;
          took =
              subst (TookAtLeast x z) (append-nil run.wrote.front)
              (least_on x y z run.wrote.front [] run.wrote.took (took.0, took.2));
          few = few;
        },
      );
    }

    -- a fault at the last of the lines, or behind it
    pub total_cut : TookPrefix y z (kept ++ total_text total) → TookPrefix x z (text_of m.image script)
    total_cut took =
        subst (TookPrefix x z) whole
        (wrote_cut x y z held kept (lines_of m (events script)) (total_text total) run.wrote took)
