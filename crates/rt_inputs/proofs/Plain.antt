-- Arrivals and ticks, at which no device puts a word: they run as they do without inputs.
use Rattle.std.proofs.Common.{◌≡◌, ℕ, zero, suc, ◌+◌, List, [], ◌∷◌, ◌++◌, map, flat_map, replicate, length}
use Rattle.std.proofs.Common.{refl, ap, sym, subst, ◌∙◌, arith}
use Rattle.std.specs.List.{AllByRecursion}
use Rattle.std.proofs.lemmas.List.{map-append, length-map}
use Rattle.rt_ids.specs.Event.{Event, Arrive, Tick, Step, steps}
use Rattle.rt_ids.specs.Names.{Names}
use Rattle.rt_app.specs.Tree.{App}
use Rattle.rt_app.specs.Names.{names_of}
use Rattle.rt_code.specs.Image.{Image}
use Rattle.rt_core.specs.Core.{Core}
use Rattle.rt_core.specs.Machine.{Machine}
use Rattle.rt_core.specs.Trace.{happen, labels}
use Rattle.rt_outside.specs.Bytes.{TookPrefix}
use Rattle.rt_trace.specs.Text.{text}
use Rattle.rt_trace.specs.declared.item.Item.{Item}
use Rattle.rt_laws.specs.DeviceWords.{One, ones, things}
use Rattle.rt_laws.proofs.Beside.{things_ones}
use Rattle.rt_run.specs.Done as plain
use Rattle.rt_run.specs.Sending.{shown_items, lines_of, TookButHeld}
use Rattle.rt_run.specs.Inside.Writing as plain_writing
use Rattle.rt_run.specs.Inside.Writing.{Wrote}
use Rattle.rt_sim.specs.Beside.{core_beside, labels_beside}
use Rattle.rt_sim.proofs.Wordless.{labels_ones, core_ones}
use Rattle.rt_board.specs.Board.{Board}
use Rattle.rt_inputs.specs.Inputs.{Comes, Registers, moves_from}
use Rattle.rt_inputs.specs.Shown.{Shows, lines_from, line_text}
use Rattle.rt_inputs.specs.Going.{Moment, MovesLead, moves_at, lines_at, text_at, registers_after}
use Rattle.rt_inputs.specs.Inside.Ran.{Ran, Cut}
use Rattle.rt_inputs.proofs.LinesBehind.{lines_of_ones}
use Rattle.rt_inputs.proofs.Words.{front_all}

-- the event is no core step
abbrev pub IsNoStep : Event → Type 0
IsNoStep (Arrive irq) = Unit {0}
IsNoStep Tick = Unit {0}
IsNoStep Step = ⊥

pub all_same : (P : Event → Type 0) (n : ℕ) (e : Event) → P e → AllByRecursion P (replicate n e)
all_same P zero e one = tt
all_same P (suc n) e one = (one, all_same P n e one)

pub same_registers : (es : List Event) (registers : Registers) → registers_after registers (map Comes es) ≡ registers
same_registers [] registers = refl
same_registers (e ∷ es) registers = same_registers es registers

-- the text of items alone
pub text_of_items : (app : App) (items : List Item)
    → flat_map (line_text app) (map Shows items) ≡ flat_map (text (names_of app)) items
text_of_items app [] = refl
text_of_items app (item ∷ items) = ap (λ t. text (names_of app) item ++ t) (text_of_items app items)

module _ (app : App) (board : Board) (registers : Registers) where
  pub plain_moves : (img : Image) (es : List Event) (c : Core) → AllByRecursion IsNoStep es
      → moves_from app img board c registers (map Comes es) ≡ ones es
  plain_moves img [] c none = refl
  plain_moves img (Arrive irq ∷ es) c none =
      ap (λ ms. One (Arrive irq) ∷ ms) (plain_moves img es (happen img c (Arrive irq)).0 none.1)
  plain_moves img (Tick ∷ es) c none = ap (λ ms. One Tick ∷ ms) (plain_moves img es (happen img c Tick).0 none.1)
  plain_moves img (Step ∷ es) c none = absurd none.0

  abbrev pub at : Machine → Moment
  at m = record { machine = m; registers = registers }

  module _ (a : Machine) (named : a.image.names ≡ names_of app) where
    module _ (es : List Event) (none : AllByRecursion IsNoStep es) where
      moves_are : moves_at app board (at a) (map Comes es) ≡ ones es
      moves_are = plain_moves a.image es a.core none

      lead : (b : Machine) → plain.Leads es a b → MovesLead app (moves_at app board (at a) (map Comes es)) a b
      lead b run = record {
        image = run.image;
        core =
            run.core ∙ sym (core_ones app a.image es a.core) ∙ ap (core_beside app a.image a.core) (sym moves_are);
        steps =
            run.steps
            ∙ ap (λ fs. a.steps + steps fs) (sym (ap things moves_are ∙ things_ones es));
      }

      lines_are : lines_at app board (at a) (map Comes es) ≡ map Shows (shown_items a es)
      lines_are =
          ap (λ ms. lines_from a.steps [] (labels_beside app a.image a.core ms)) moves_are
          ∙ ap (lines_from a.steps []) (labels_ones app a.image es a.core)
          ∙ lines_of_ones a.steps (labels a.image a.core es)

      text_is : text_at app board (at a) (map Comes es) ≡ lines_of a es
      text_is =
          ap (flat_map (line_text app)) lines_are ∙ text_of_items app (shown_items a es)
          ∙ ap (λ (names : Names). flat_map (text names) (shown_items a es)) (sym named)

      pub plain_ran : (b : Machine) (x y held kept : List ℕ) → plain_writing.Writes es a b x y held kept
          → Ran app board (map Comes es) (at a) (at b) x y held kept
      plain_ran b x y held kept run = record {
        leads = record { machine = lead b run.leads; registers = sym (same_registers es registers) };
        wrote = subst (Wrote x y held kept) (sym text_is) run.wrote;
      }

    pub plain_cut : (es : List Event) → AllByRecursion IsNoStep es → (b : Machine) (x y held : List ℕ)
        → plain_writing.Cut es a b x y held → Cut app board (map Comes es) (at a) (at b) x y held
    plain_cut es none b x y held cut =
        let done_none : AllByRecursion IsNoStep cut.done =
        front_all IsNoStep cut.done cut.rest (subst (AllByRecursion IsNoStep) cut.parts none) in
        let earlier_none : AllByRecursion IsNoStep cut.ends.earlier =
        front_all IsNoStep cut.ends.earlier (cut.ends.last ∷ [])
        (subst (AllByRecursion IsNoStep) cut.ends.parts done_none) in
        record {
          done = map Comes cut.done;
          rest = map Comes cut.rest;
          parts = ap (map Comes) cut.parts ∙ map-append Comes cut.done cut.rest;
          leads = record {
            machine = lead cut.done done_none b cut.leads;
            registers = sym (same_registers cut.done registers);
          };
          took = subst (λ t. TookPrefix x y (held ++ t)) (sym (text_is cut.done done_none)) cut.took;
          ends = record {
            earlier = map Comes cut.ends.earlier;
            last = cut.ends.last;
            parts = ap (map Comes) cut.ends.parts ∙ map-append Comes cut.ends.earlier (cut.ends.last ∷ []);
            shows =
                omega (
                  arith,
                  cut.ends.shows,
                  ap length (lines_are cut.ends.earlier earlier_none),
                  length-map (shown_items a cut.ends.earlier) Shows,
                  ap length (lines_are cut.done done_none),
                  length-map (shown_items a cut.done) Shows,
                );
          };
          held_back =
              subst (λ t. TookButHeld x y (held ++ t)) (sym (text_is cut.ends.earlier earlier_none)) cut.held_back;
        }

-- equal events
pub map_same : (n : ℕ) (e : Event) → map Comes (replicate n e) ≡ replicate n (Comes e)
map_same zero e = refl
map_same (suc n) e = ap (λ hs. Comes e ∷ hs) (map_same n e)
