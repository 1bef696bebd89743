-- What happens to a core goes on where other things ended, or does not where a fault came.
use Rattle.std.proofs.Common.{◌≡◌, ℕ, ◌+◌, ◌≤◌, Bool, true, false, List, [], ◌∷◌, ◌++◌, length, refl, ap, sym, subst}
use Rattle.std.proofs.Common.{◌∙◌, append_assoc, append-nil, arith}
use Rattle.std.proofs.lemmas.List.{length-append, nil_from_length}
use Rattle.rt_ids.specs.Event.{Event, Arrive, Step, Tick, steps}
use Rattle.rt_app.specs.Tree.{App}
use Rattle.rt_core.specs.Machine.{Machine}
use Rattle.rt_laws.specs.DeviceWords.{WithWords, things}
use Rattle.rt_outside.specs.Bytes.{Took, TookAtLeast, TookPrefix}
use Rattle.rt_outside.specs.Faults.{Rose}
use Rattle.rt_run.proofs.Advancing.{steps-append}
use Rattle.rt_run.proofs.Known.{ticks}
use Rattle.rt_run.proofs.Taking.{least_on, part_on, took_on}
use Rattle.rt_board.specs.Board.{Board}
use Rattle.rt_inputs.specs.Inputs.{Comes, Happening, events_of}
use Rattle.rt_inputs.specs.Going.{Moment, MovesLead, moves_at, text_at}
use Rattle.rt_inputs.specs.Inside.Ran.{Cut, Ran}
use Rattle.rt_inputs.proofs.Advancing.{goes_on as ran_on, moves_on, nothing_yet, text_split}
use Rattle.rt_inputs.proofs.Known.{still_can, time_led}
use Rattle.rt_inputs.proofs.Moved.{events_come, happened_more}
use Rattle.rt_live_inputs.specs.Inside.Going.{CanHappen, CameOf, IsOne, StopsIn}

pub ticks-append : (es fs : List Event) → ticks (es ++ fs) ≡ ticks es + ticks fs
ticks-append [] fs = let e : ticks fs ≡ 0 + ticks fs = omega arith in e
ticks-append (Step ∷ es) fs = ticks-append es fs
ticks-append (Tick ∷ es) fs =
    let e : ticks (Tick ∷ (es ++ fs)) ≡ ticks (Tick ∷ es) + ticks fs = omega (arith, ticks-append es fs) in e
ticks-append (Arrive irq ∷ es) fs = ticks-append es fs

module _ (app : App) (board : Board) where
  -- what goes out of a run is its lines
  ran_took : (hs : List Happening) (a b : Moment) (x y : List ℕ) → Ran app board hs a b x y [] []
      → Took x y (text_at app board a hs)
  ran_took hs a b x y run =
      subst (Took x y) (sym (run.wrote.parts ∙ append-nil run.wrote.front)) run.wrote.took

  -- a fault where one thing alone happens
  pub cut_stops : (hs : List Happening) (a b : Moment) (x y h : List ℕ) → h ≡ [] → IsOne hs
      → Cut app board hs a b x y h → StopsIn app board hs a b.machine x y
  cut_stops hs a b x y h empty one cut =
      let last : Happening = Comes cut.ends.last in
      let none : cut.ends.earlier ≡ [] =
      nil_from_length cut.ends.earlier (omega (
        arith,
        ap length one.1,
        ap length cut.parts,
        length-append cut.done cut.rest,
        ap length cut.ends.parts,
        length-append cut.ends.earlier (last ∷ []),
      )) in
      let done : cut.done ≡ last ∷ [] = cut.ends.parts ∙ ap (λ (t : List Happening). t ++ last ∷ []) none in
      let took : TookPrefix x y (text_at app board a (last ∷ [])) =
      subst (λ (t : List Happening). TookPrefix x y (text_at app board a t)) done
      (subst (λ (t : List ℕ). TookPrefix x y (t ++ text_at app board a cut.done)) empty cut.took) in
      record {
        told = [];
        last = last;
        rest = cut.rest;
        parts = cut.parts ∙ ap (λ (t : List Happening). t ++ cut.rest) done;
        leads =
            subst (λ (t : List Happening). MovesLead app (moves_at app board a t) a.machine b.machine) done
            cut.leads.machine;
        took = took;
        lines = (took.0, took.2);
      }

  -- a fault where its lines go out
  pub ran_stops : (hs : List Happening) (a b : Moment) (x y z h k : List ℕ) → h ≡ [] → IsOne hs
      → Ran app board hs a b x y h k → TookPrefix y z k → StopsIn app board hs a b.machine x z
  ran_stops hs a b x y z h k empty one run part =
      let took : TookPrefix x z (text_at app board a (one.0 ∷ [])) =
      subst (λ (t : List Happening). TookPrefix x z (text_at app board a t)) one.1
      (subst (TookPrefix x z)
      (sym run.wrote.parts ∙ ap (λ (t : List ℕ). t ++ text_at app board a hs) empty)
      (part_on x y z run.wrote.front k run.wrote.took part)) in
      record {
        told = [];
        last = one.0;
        rest = [];
        parts = one.1;
        leads =
            subst (λ (t : List Happening). MovesLead app (moves_at app board a t) a.machine b.machine) one.1
            run.leads.machine;
        took = took;
        lines = (took.0, took.2);
      }

  -- all lines went out
  pub ran_out : (hs : List Happening) (a b : Moment) (x y z h k : List ℕ) → h ≡ [] → Ran app board hs a b x y h k
      → Took y z k → Ran app board hs a b x z [] []
  ran_out hs a b x y z h k empty run took = record {
    leads = run.leads;
    wrote = record {
      front = text_at app board a hs;
      took =
          subst (Took x z) (sym run.wrote.parts ∙ ap (λ (t : List ℕ). t ++ text_at app board a hs) empty)
          (took_on x y z run.wrote.front k run.wrote.took took);
      parts = sym (append-nil (text_at app board a hs));
    };
  }

  stops_behind : (hs gs : List Happening) (a b : Moment) (m : Machine) (x y z : List ℕ)
      → Ran app board hs a b x y [] [] → StopsIn app board gs b m y z → StopsIn app board (hs ++ gs) a m x z
  stops_behind hs gs a b m x y z run stop =
      let own : List Happening = stop.told ++ stop.last ∷ [] in
      let took = ran_took hs a b x y run in
      let parts : hs ++ own ≡ (hs ++ stop.told) ++ stop.last ∷ [] =
      sym (append_assoc hs stop.told (stop.last ∷ [])) in
      record {
        told = hs ++ stop.told;
        last = stop.last;
        rest = stop.rest;
        parts =
            ap (λ (t : List Happening). hs ++ t) stop.parts
            ∙ sym (append_assoc hs stop.told (stop.last ∷ stop.rest));
        leads =
            subst (λ (t : List Happening). MovesLead app (moves_at app board a t) a.machine m) parts
            (moves_on app board hs own a b run.leads m stop.leads);
        took =
            subst (λ (t : List Happening). TookPrefix x z (text_at app board a t)) parts
            (subst (TookPrefix x z) (sym (text_split app board hs own a b run.leads))
            (part_on x y z (text_at app board a hs) (text_at app board b own) took stop.took));
        lines =
            subst (TookAtLeast x z) (sym (text_split app board hs stop.told a b run.leads))
            (least_on x y z (text_at app board a hs) (text_at app board b stop.told) took stop.lines);
      }

  stops_before : (hs gs : List Happening) (a : Moment) (m : Machine) (x y : List ℕ) → StopsIn app board hs a m x y
      → StopsIn app board (hs ++ gs) a m x y
  stops_before hs gs a m x y stop = record {
    told = stop.told;
    last = stop.last;
    rest = stop.rest ++ gs;
    parts =
        ap (λ (t : List Happening). t ++ gs) stop.parts ∙ append_assoc stop.told (stop.last ∷ stop.rest) gs;
    leads = stop.leads;
    took = stop.took;
    lines = stop.lines;
  }

  pub goes_none : (went : Bool) (a : Moment) (x : List ℕ) (f : ℕ) → CameOf app board [] went went a a x x f f
  goes_none true a x f = (nothing_yet app board a x [], refl)
  goes_none false a x f = (refl, refl, refl)

  pub goes_on : (hs gs : List Happening) (u v w : Bool) (a b c : Moment) (x y z : List ℕ) (f g h : ℕ)
      → CameOf app board hs u v a b x y f g → CameOf app board gs v w b c y z g h
      → CameOf app board (hs ++ gs) u w a c x z f h
  goes_on hs gs true true true a b c x y z f g h p q = (ran_on app board hs gs a b c x y z [] [] [] p.0 q.0, q.1 ∙ p.1)
  goes_on hs gs true true false a b c x y z f g h p q =
      (stops_behind hs gs a b c.machine x y z p.0 q.0, subst (λ n. Rose n h) p.1 q.1)
  goes_on hs gs true false true a b c x y z f g h p q = absurd q
  goes_on hs gs true false false a b c x y z f g h p q = (
    subst (λ (m : Machine). StopsIn app board (hs ++ gs) a m x z) (sym q.0)
        (subst (StopsIn app board (hs ++ gs) a b.machine x) (sym q.1)
        (stops_before hs gs a b.machine x y p.0)),
    subst (Rose f) (sym q.2) p.1,
  )
  goes_on hs gs false true w a b c x y z f g h p q = absurd p
  goes_on hs gs false false true a b c x y z f g h p q = absurd q
  goes_on hs gs false false false a b c x y z f g h p q = (q.0 ∙ p.0, q.1 ∙ p.1, q.2 ∙ p.2)

  -- by the same of equal lists
  pub goes_same : (hs gs : List Happening) (u w : Bool) (a b : Moment) (x y : List ℕ) (f g : ℕ) → hs ≡ gs
      → CameOf app board hs u w a b x y f g → CameOf app board gs u w a b x y f g
  goes_same hs gs u w a b x y f g is goes =
      subst (λ (t : List Happening). CameOf app board t u w a b x y f g) is goes

  -- what was done of what happens, with its steps and ticks
  record Led (hs : List Happening) (a b : Machine) : Type 0 where
    moves : List (WithWords Event)
    leads : MovesLead app moves a b
    few : steps (things moves) ≤ steps (events_of hs)
    early : ticks (things moves) ≤ ticks (events_of hs)

  led_by : (hs done rest : List Happening) (a : Moment) (m : Machine) → hs ≡ done ++ rest
      → MovesLead app (moves_at app board a done) a.machine m → Led hs a.machine m
  led_by hs done rest a m parts lead =
      let own : things (moves_at app board a done) ≡ events_of done =
      events_come app a.machine.image board a.machine.core a.registers done in
      let all : events_of hs ≡ events_of done ++ events_of rest =
      ap events_of parts ∙ happened_more done rest in
      record {
        moves = moves_at app board a done;
        leads = lead;
        few = omega (arith, ap steps own, ap steps all, steps-append (events_of done) (events_of rest));
        early = omega (arith, ap ticks own, ap ticks all, ticks-append (events_of done) (events_of rest));
      }

  led : (hs : List Happening) (u w : Bool) (a b : Moment) (x y : List ℕ) (f g : ℕ)
      → CameOf app board hs u w a b x y f g → Led hs a.machine b.machine
  led hs true true a b x y f g p = led_by hs hs [] a b.machine (sym (append-nil hs)) p.0.leads.machine
  led hs true false a b x y f g p =
      led_by hs (p.0.told ++ p.0.last ∷ []) p.0.rest a b.machine
      (p.0.parts ∙ sym (append_assoc p.0.told (p.0.last ∷ []) p.0.rest)) p.0.leads
  led hs false true a b x y f g p = absurd p
  led hs false false a b x y f g p =
      subst (Led hs a.machine) (sym p.0)
      (led_by hs [] hs a a.machine refl (record {
        image = refl;
        core = refl;
        steps = let e : a.machine.steps ≡ a.machine.steps + 0 = omega arith in e;
      }))

  module _ (hs : List Happening) (u w : Bool) (a b : Moment) (x y : List ℕ) (f g : ℕ)
      (goes : CameOf app board hs u w a b x y f g) where
    pub same_image : b.machine.image ≡ a.machine.image
    same_image = (led hs u w a b x y f g goes).leads.image

    -- what can happen then
    pub can_then : (n most : ℕ) → steps (events_of hs) + n ≤ most → ticks (events_of hs) + n ≤ most
        → CanHappen most app board a.machine → CanHappen n app board b.machine
    can_then n most few early can =
        let way = led hs u w a b x y f g goes in
        record {
          can = still_can app board way.moves a.machine b.machine way.leads can.can;
          few = omega (arith, way.leads.steps, way.few, few, can.few);
          early = omega (
            arith,
            time_led app way.moves a.machine b.machine way.leads,
            way.early,
            early,
            can.early,
          );
        }

-- fewer can happen too
pub can_fewer : {app : App} {board : Board} {m : Machine} (n most : ℕ) → n ≤ most → CanHappen most app board m
    → CanHappen n app board m
can_fewer n most fits can = record {
  can = can.can;
  few = omega (arith, fits, can.few);
  early = omega (arith, fits, can.early);
}
