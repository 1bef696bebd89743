-- Runs with inputs that go on where others ended, or where a fault came.
use Rattle.std.proofs.Common.{◌≡◌, ℕ, ◌+◌, ◌-◌, ◌<◌, ◌≤◌, List, [], ◌∷◌, ◌++◌, flat_map, replicate}
use Rattle.std.proofs.Common.{refl, ap, sym, subst, ◌∙◌, append_assoc, append-nil, length, length-append, arith}
use Rattle.std.proofs.lemmas.Grind.{flat_map-append}
use Rattle.std.proofs.lemmas.List.{replicate-append-replicate}
use Rattle.rt_ids.specs.Event.{Event, Step, steps}
use Rattle.rt_app.specs.Tree.{App}
use Rattle.rt_code.specs.Image.{Image}
use Rattle.rt_core.specs.Core.{Core}
use Rattle.rt_core.specs.Machine.{Machine}
use Rattle.rt_outside.specs.Bytes.{TookPrefix}
use Rattle.rt_trace.specs.Label.{steps_of}
use Rattle.rt_trace.specs.declared.buffer.TheConstants.{BUFFER_BYTES}
use Rattle.rt_laws.specs.DeviceWords.{things}
use Rattle.rt_run.specs.Sending.{TookButHeld}
use Rattle.rt_run.specs.Inside.Writing.{Wrote}
use Rattle.rt_run.proofs.Advancing.{steps-append}
use Rattle.rt_run.proofs.Taking.{wrote_none, wrote_on, wrote_cut, held_on}
use Rattle.rt_sim.specs.Beside.{core_beside, labels_beside}
use Rattle.rt_board.specs.Board.{Board}
use Rattle.rt_inputs.specs.Inputs.{Happening, Comes, Registers, moves_from}
use Rattle.rt_inputs.specs.Shown.{lines_from, line_text}
use Rattle.rt_inputs.specs.Going.{Moment, MovesLead, Leads, moves_at, lines_at, text_at, registers_after, EndsInItem}
use Rattle.rt_inputs.specs.Inside.Ran.{Ran, Cut}
use Rattle.rt_inputs.proofs.Joined.{things_append}
use Rattle.rt_inputs.proofs.Moved.{moves_more, core_more, shown_more, lines_more, registers_more, steps_shown}

module _ (app : App) (board : Board) where
  -- nothing has happened
  pub stands_still : (a : Moment) → Leads app board [] a a
  stands_still a = record {
    machine = record {
      image = refl;
      core = refl;
      steps = let e : a.machine.steps ≡ a.machine.steps + 0 = omega arith in e;
    };
    registers = refl;
  }

  pub nothing_yet : (a : Moment) (x held : List ℕ) → Ran app board [] a a x x held held
  nothing_yet a x held = record { leads = stands_still a; wrote = wrote_none x held }

  -- what happens behind what happened, from the moment that is known of it
  module _ (before after : List Happening) (a b : Moment) (run : Leads app board before a b) where
    abbrev img : Image
    img = a.machine.image

    abbrev there : Core
    there = core_beside app img a.machine.core (moves_at app board a before)

    abbrev then : Registers
    then = registers_after a.registers before

    moves_there : moves_at app board b after ≡ moves_from app img board there then after
    moves_there =
        ap (λ (i : Image). moves_from app i board b.machine.core b.registers after) run.machine.image
        ∙ ap (λ c. moves_from app img board c b.registers after) run.machine.core
        ∙ ap (λ r. moves_from app img board there r after) run.registers

    moves_all : moves_at app board a (before ++ after) ≡ moves_at app board a before ++ moves_at app board b after
    moves_all =
        moves_more app img board before after a.machine.core a.registers
        ∙ ap (λ ms. moves_at app board a before ++ ms) (sym moves_there)

    -- lead on to a machine
    pub moves_on : (m : Machine) → MovesLead app (moves_at app board b after) b.machine m
        → MovesLead app (moves_at app board a (before ++ after)) a.machine m
    moves_on m more = record {
      image = more.image ∙ run.machine.image;
      core =
          more.core
          ∙ ap (λ (i : Image). core_beside app i b.machine.core (moves_at app board b after)) run.machine.image
          ∙ ap (λ c. core_beside app img c (moves_at app board b after)) run.machine.core
          ∙ ap (core_beside app img there) moves_there
          ∙ sym (core_more app img board before after a.machine.core a.registers);
      steps =
          omega (
            arith,
            more.steps,
            run.machine.steps,
            ap (λ ms. steps (things ms)) moves_all,
            ap steps (things_append (moves_at app board a before) (moves_at app board b after)),
            steps-append (things (moves_at app board a before)) (things (moves_at app board b after)),
          );
    }

    pub leads_on : (c : Moment) → Leads app board after b c → Leads app board (before ++ after) a c
    leads_on c more = record {
      machine = moves_on c.machine more.machine;
      registers =
          more.registers ∙ ap (λ r. registers_after r after) run.registers
          ∙ sym (registers_more before after a.registers);
    }

    pub lines_split : lines_at app board a (before ++ after) ≡ lines_at app board a before ++ lines_at app board b after
    lines_split =
        let n : ℕ = a.machine.steps in
        let front = labels_beside app img a.machine.core (moves_at app board a before) in
        let behind = labels_beside app img there (moves_from app img board there then after) in
        let count : n + steps_of (things front) ≡ b.machine.steps =
        omega (
          arith,
          run.machine.steps,
          steps_shown app img (moves_at app board a before) a.machine.core,
        ) in
        let same : lines_at app board b after ≡ lines_from b.machine.steps [] behind =
        ap (λ ms. lines_from b.machine.steps [] (labels_beside app b.machine.image b.machine.core ms)) moves_there
        ∙ ap (λ (i : Image). lines_from b.machine.steps []
        (labels_beside app i b.machine.core (moves_from app img board there then after))) run.machine.image
        ∙ ap (λ c. lines_from b.machine.steps [] (labels_beside app img c (moves_from app img board there then after)))
        run.machine.core in
        ap (lines_from n []) (shown_more app img board before after a.machine.core a.registers)
        ∙ lines_more app img board before a.machine.core a.registers behind n
        ∙ ap (λ k. lines_from n [] front ++ lines_from k [] behind) count
        ∙ ap (λ ls. lines_from n [] front ++ ls) (sym same)

    pub text_split : text_at app board a (before ++ after) ≡ text_at app board a before ++ text_at app board b after
    text_split =
        ap (flat_map (line_text app)) lines_split
        ∙ flat_map-append (line_text app) (lines_at app board a before) (lines_at app board b after)

  -- the last of what happens behind shows an item
  abbrev pub ends_behind : (before after : List Happening) (a b : Moment) → Leads app board before a b
      → EndsInItem app board after b → EndsInItem app board (before ++ after) a
  ends_behind before after a b run ends = record {
    earlier = before ++ ends.earlier;
    last = ends.last;
    parts = ap (λ t. before ++ t) ends.parts ∙ sym (append_assoc before ends.earlier (Comes ends.last ∷ []));
    shows =
        omega (
          arith,
          ends.shows,
          ap length (lines_split before ends.earlier a b run),
          ap length (lines_split before after a b run),
          length-append (lines_at app board a before) (lines_at app board b ends.earlier),
          length-append (lines_at app board a before) (lines_at app board b after),
        );
  }

  -- one run and one that goes on are one
  pub goes_on : (before after : List Happening) (a b c : Moment) (x y z held mid kept : List ℕ)
      → Ran app board before a b x y held mid → Ran app board after b c y z mid kept
      → Ran app board (before ++ after) a c x z held kept
  goes_on before after a b c x y z held mid kept first second = record {
    leads = leads_on before after a b first.leads c second.leads;
    wrote =
        subst (Wrote x z held kept) (sym (text_split before after a b first.leads))
        (wrote_on x y z held mid kept (text_at app board a before) (text_at app board b after) first.wrote
        second.wrote);
  }

  -- a run, and a fault behind it
  pub cut_behind : (before after : List Happening) (a b c : Moment) (x y z held mid : List ℕ)
      → Ran app board before a b x y held mid → Cut app board after b c y z mid
      → Cut app board (before ++ after) a c x z held
  cut_behind before after a b c x y z held mid first cut = record {
    done = before ++ cut.done;
    rest = cut.rest;
    parts = ap (λ t. before ++ t) cut.parts ∙ sym (append_assoc before cut.done cut.rest);
    leads = leads_on before cut.done a b first.leads c cut.leads;
    took =
        subst (λ t. TookPrefix x z (held ++ t)) (sym (text_split before cut.done a b first.leads))
        (wrote_cut x y z held mid (text_at app board a before) (text_at app board b cut.done) first.wrote cut.took);
    ends = ends_behind before cut.done a b first.leads cut.ends;
    held_back =
        subst (λ t. TookButHeld x z (held ++ t)) (sym (text_split before cut.ends.earlier a b first.leads))
        (held_on x y z held mid (text_at app board a before) (text_at app board b cut.ends.earlier) first.wrote
        cut.held_back);
  }

  -- a fault, with more to come
  pub cut_before : (before after : List Happening) (a b : Moment) (x y held : List ℕ)
      → Cut app board before a b x y held → Cut app board (before ++ after) a b x y held
  cut_before before after a b x y held cut = record {
    done = cut.done;
    rest = cut.rest ++ after;
    parts = ap (λ t. t ++ after) cut.parts ∙ append_assoc cut.done cut.rest after;
    leads = cut.leads;
    took = cut.took;
    ends = cut.ends;
    held_back = cut.held_back;
  }

  -- core steps, some more of those that are left
  pub some_more : (count left now : ℕ) (a b c : Moment) (x y z held mid kept : List ℕ) → left ≤ count
      → now ≤ left → Ran app board (replicate (count - left) (Comes Step)) a b x y held mid
      → Ran app board (replicate (left - now) (Comes Step)) b c y z mid kept
      → Ran app board (replicate (count - now) (Comes Step)) a c x z held kept
  some_more count left now a b c x y z held mid kept within fewer first second =
      let e : Happening = Comes Step in
      subst (λ es. Ran app board es a c x z held kept)
      (replicate-append-replicate (count - left) (left - now) e
      ∙ ap (λ n. replicate n e) (let same : count - left + (left - now) ≡ count - now = omega (arith, within, fewer) in
      same))
      (goes_on (replicate (count - left) e) (replicate (left - now) e) a b c x y z held mid kept first second)

  -- and a fault among those that are left
  pub left_cut : (count left : ℕ) (a b c : Moment) (x y z held mid : List ℕ) → left ≤ count
      → Ran app board (replicate (count - left) (Comes Step)) a b x y held mid
      → Cut app board (replicate left (Comes Step)) b c y z mid
      → Cut app board (replicate count (Comes Step)) a c x z held
  left_cut count left a b c x y z held mid within first cut =
      let e : Happening = Comes Step in
      subst (λ es. Cut app board es a c x z held)
      (replicate-append-replicate (count - left) left e
      ∙ ap (λ n. replicate n e) (let same : count - left + left ≡ count = omega (arith, within) in same))
      (cut_behind (replicate (count - left) e) (replicate left e) a b c x y z held mid first cut)

  -- a fault among the first core steps
  pub cut_more : (n count : ℕ) (a b : Moment) (x y held : List ℕ) → n ≤ count
      → Cut app board (replicate n (Comes Step)) a b x y held
      → Cut app board (replicate count (Comes Step)) a b x y held
  cut_more n count a b x y held within cut =
      let e : Happening = Comes Step in
      subst (λ es. Cut app board es a b x y held)
      (replicate-append-replicate n (count - n) e ∙ ap (λ k. replicate k e)
      (let same : n + (count - n) ≡ count = omega (arith, within) in same))
      (cut_before (replicate n e) (replicate (count - n) e) a b x y held cut)

  -- what happened, with these lines
  pub written : (happened : List Happening) (a b : Moment) (x y held kept bytes : List ℕ)
      → Leads app board happened a b → text_at app board a happened ≡ bytes → Wrote x y held kept bytes
      → Ran app board happened a b x y held kept
  written happened a b x y held kept bytes run is wrote =
      record { leads = run; wrote = subst (Wrote x y held kept) (sym is) wrote }

  -- What happened, the last of which alone shows something, and then a fault.
  pub stopped : (earlier : List Happening) (last : Event) (a b : Moment) (x y held bytes : List ℕ)
      → lines_at app board a earlier ≡ [] → 0 < length (lines_at app board a (earlier ++ Comes last ∷ []))
      → length held ≤ BUFFER_BYTES
      → Leads app board (earlier ++ Comes last ∷ []) a b → text_at app board a (earlier ++ Comes last ∷ []) ≡ bytes
      → TookPrefix x y (held ++ bytes)
      → Cut app board (earlier ++ Comes last ∷ []) a b x y held
  stopped earlier last a b x y held bytes silent shows few run is part = record {
    done = earlier ++ Comes last ∷ [];
    rest = [];
    parts = sym (append-nil (earlier ++ Comes last ∷ []));
    leads = run;
    took = subst (λ t. TookPrefix x y (held ++ t)) (sym is) part;
    ends = record { earlier = earlier; last = last; parts = refl; shows = omega (arith, ap length silent, shows) };
    held_back = record {
      front = [];
      held = held;
      parts = ap (λ t. held ++ flat_map (line_text app) t) silent ∙ append-nil held;
      took = (part.0, part.2);
      few = few;
    };
  }
