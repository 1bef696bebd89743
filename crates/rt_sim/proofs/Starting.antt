-- Both machines begin alike: the reset state of an image is the first state of Baker's machine, in a coupling of which
-- the invariant holds.
use Rattle.std.proofs.Common.{◌≡◌, ℕ, ◌^◌, ◌&&◌, ◌||◌, inl, nat_lt, Bool, true, false, List, [], ◌∷◌, length}
use Rattle.std.proofs.Common.{map, replicate, slice_index, None, refl, sym}
use Rattle.std.proofs.Common.{ap, subst, ◌∙◌}
use Rattle.std.proofs.lemmas.Bool.{ltb-true}
use Rattle.std.proofs.lemmas.List.{length-replicate, length-map}
use Rattle.rt_lemmas.proofs.Bools.{and_right}
use Rattle.rt_lemmas.proofs.Membership.{any_one}
use Rattle.rt_actions.specs.Location.{Location, Guarded, Own}
use Rattle.rt_actions.specs.Storage.{Starting}
use Rattle.rt_ids.specs.declared.ids.Section.TheVariants as section
use Rattle.rt_ids.specs.declared.limits.TheConstants.{IRQ_NUMBERS}
use Rattle.rt_app.specs.Tree.{App}
use Rattle.rt_app.specs.Accepted.{IsAccepted}
use Rattle.rt_app.specs.Acceptance.{IsSound}
use Rattle.rt_app.specs.Bodies.{members}
use Rattle.rt_app.specs.BodyCost.{cost_measure, cost_of}
use Rattle.rt_app.specs.Declarations.{owns}
use Rattle.rt_app.specs.Doings.{init_doing}
use Rattle.rt_app.specs.Holding.{storage, Represents, is_kept, is_constant, IsHeld}
use Rattle.rt_app.specs.Layout.{Cell, memory, row_of}
use Rattle.rt_app.specs.Statements.{is_init}
use Rattle.rt_app.proofs.LaidFirst.{first_cells, first_queues, first_contents, represented_first}
use Rattle.rt_build.specs.Image.{IsImageOf}
use Rattle.rt_code.specs.Image.{Image}
use Rattle.rt_code.specs.Standing.{Stands}
use Rattle.rt_core.specs.Core.{reset}
use Rattle.rt_laws.specs.State.{Init, first, first_values, reached_values}
use Rattle.rt_sim.specs.Whereabouts.{Whereabouts, IsAtReset, queue_at_reset}
use Rattle.rt_sim.specs.Inside.Coupling.{Part, Coupling, configuration_of, whereabouts_of}
use Rattle.rt_sim.specs.Inside.Ownership.{AlwaysRespects}
use Rattle.rt_sim.specs.Inside.CouplingInvariant.{CouplingInvariant}
use Rattle.rt_sim.specs.Inside.Agrees.{Agrees}
use Rattle.rt_sim.proofs.Acts.{owns_alike, agrees_reached}
use Rattle.rt_sim.proofs.BodyRows.{no_rows, calls_none}
use Rattle.rt_sim.proofs.FirstPlaces.{first_once}
use Rattle.rt_sim.proofs.Keepers.{local_held}

module _ (app : App) (img : Image) (accepted : IsAccepted app) (sound : IsSound app)
    (is_image : IsImageOf app img) (respects : AlwaysRespects app Starting false [] (init_doing app)) where
  abbrev pub cells_first : List ℕ
  cells_first = map (λ cell. cell.first) img.cells

  abbrev pub first_part : Part
  first_part = record {
    role = Init;
    priority = 2 ^ app.bits;
    rest = init_doing app (first_values app);
    left = cost_of (cost_measure app) app.init;
    lefts = [];
    held = [];
    places = [];
    address = 0;
    slots = replicate img.thread_words 0;
    caller = None;
    steps = cost_of (cost_measure app) app.init;
    rows = no_rows app img;
    own = img.thread_words;
  }

  abbrev pub first_coupling : Coupling
  first_coupling = record {
    running = first_part;
    below = [];
    time = 0;
    alarm = None;
    pending = replicate IRQ_NUMBERS false;
    basepri = 0;
    primask = true;
    cells = cells_first;
    queues = first_queues app;
    values = reached_values (init_doing app (first_values app)) (first_values app);
  }

  cells_are : cells_first ≡ map (λ cell. cell.first) (memory app)
  cells_are = ap (λ cells. map (λ cell. cell.first) cells) is_image.tables.cells ∙ firsts (memory app)
    where
      firsts : (cells : List Cell) → map (λ cell. cell.first) (map row_of cells) ≡ map (λ cell. cell.first) cells
      firsts [] = refl
      firsts (c ∷ cells) = ap (λ ns. c.first ∷ ns) (firsts cells)

  first_contents_are : (h : Location) → first_contents app h ≡ first_values app h
  first_contents_are (Guarded (section.Res r)) = refl
  first_contents_are (Guarded (section.Free n)) = refl
  first_contents_are (Guarded (section.Ready p)) = refl
  first_contents_are (Guarded section.Timer) = refl
  first_contents_are (Own n) = refl

  -- after reset each location's cells represent what it first holds
  all_first : (h : Location) → IsHeld app h
      → (storage app).Represents h (slice_index cells_first) (first_queues app h) (first_values app h)
  unfolding storage
  all_first h has = (
    has,
    subst (λ cells. Represents app (slice_index cells) h (first_queues app h) (first_values app h)) (sym cells_are)
        (subst (λ content. Represents app (first_cells app) h (first_queues app h) content) (first_contents_are h)
        (represented_first app h has)),
  )

  -- what `init` keeps is there
  kept_by_init : (h : Location) → (is_kept app Starting h || is_constant app Starting h) ≡ true → IsHeld app h
  kept_by_init (Guarded (section.Res r)) is = ltb-true r (length app.shared) (plain (nat_lt r (length app.shared)) is)
    where
      plain : (b : Bool) → (b || false) ≡ true → b ≡ true
      plain true is = refl
      plain false is = is
  kept_by_init (Guarded (section.Free n)) is = absurd (cc (is))
  kept_by_init (Guarded (section.Ready p)) is = absurd (cc (is))
  kept_by_init (Guarded section.Timer) is = absurd (cc (is))
  kept_by_init (Own n) is =
      let one = any_one (λ m. is_init m.id && owns n m) (members app) (plain _ is) in
      local_held app accepted sound one.1 one.0 n one.2 (and_right (is_init one.1.id) (owns n one.1) one.3)
    where
      plain : (b : Bool) → (b || false) ≡ true → b ≡ true
      plain true is = refl
      plain false is = is

  -- whatever the thread's frame holds
  pub stands_first : (slots : List ℕ) → length slots ≡ img.thread_words
      → Stands (storage app) img.code (no_rows app img) is_image.at.idle Starting (cost_of (cost_measure app) app.init)
      (configuration_of cells_first (first_queues app) (record first_part { slots = slots }))
  unfolding storage
  stands_first slots long = is_image.code.init (no_rows app img) slots cells_first (first_queues app)
      (first_values app)
      (long ∙ is_image.tables.thread)
      (ap length cells_are ∙ length-map (memory app) (λ cell. cell.first))
      (λ h reads. all_first h (kept_by_init h reads))

  pub invariant_first : CouplingInvariant app img is_image.at.idle first_coupling
  invariant_first = record {
    stack = record {
      frame = length-replicate img.thread_words 0 ∙ is_image.tables.thread;
      own_frame = refl;
      role = inl refl;
      greatest = λ e. refl;
      saves = tt;
    };
    parts = (
      record {
        stands = stands_first (replicate img.thread_words 0) (length-replicate img.thread_words 0);
        agrees = agrees_reached app img is_image.at.idle Starting [] (init_doing app (first_values app))
            (first_values app);
        counted = refl;
        respects = (respects (first_values app)).1;
        opened = tt;
        kinds = tt;
        once = tt;
        calls = calls_none app img Init (2 ^ app.bits) img.thread_words;
        own = length-replicate img.thread_words 0;
      },
      tt,
    );
    represented = λ h held away.
        subst (λ content. (storage app).Represents h (slice_index cells_first) (first_queues app h) content)
        (sym ((respects (first_values app)).0 h (owns_alike app Starting false [] h ∙ away.0))) (all_first h held);
    basepri = refl;
    primask = refl;
    memory = ap length cells_are ∙ length-map (memory app) (λ cell. cell.first);
    once = first_once app;
    numbers = length-replicate IRQ_NUMBERS false;
    alarmed = tt;
  }

  -- so are places at reset
  queues_first : (h : Location) → first_queues app h ≡ queue_at_reset app h
  queues_first (Guarded (section.Res r)) = refl
  queues_first (Guarded (section.Free n)) = refl
  queues_first (Guarded (section.Ready p)) = refl
  queues_first (Guarded section.Timer) = refl
  queues_first (Own n) = refl

  abbrev pub places_first : Whereabouts
  places_first = whereabouts_of first_coupling

  pub at_reset : IsAtReset app (whereabouts_of first_coupling)
  at_reset = record { in_hands = refl; in_queues = queues_first }

  pub agrees_first : Agrees app img is_image.at.idle (reset img) (first app) (λ u. u ≡ whereabouts_of first_coupling)
  agrees_first = record {
    coupling = first_coupling;
    core = refl;
    state = refl;
    invariant = invariant_first;
    places = refl;
  }
