-- Turns that go on where others ended, and what they leave to be done.
use Rattle.std.proofs.Common.{◌≡◌, ℕ, zero, suc, ◌+◌, ◌-◌, ◌^◌, ◌<◌, ◌≤◌, Bool, List, [], ◌∷◌, ◌++◌, map, flat_map}
use Rattle.std.proofs.Common.{length, zip, Option, refl, ap, sym, subst, ◌∙◌, append_assoc}
use Rattle.std.proofs.Common.{arith}
use Rattle.std.proofs.lemmas.List.{length-append, map-append}
use Rattle.std.proofs.lemmas.List.Concat.{flat_map-append}
use Rattle.std.specs.List.{AllByRecursion}
use Rattle.atomic_table.specs.Seated.{TableId}
use Rattle.rt_lemmas.proofs.Membership.{all_append}
use Rattle.rt_ids.specs.Event.{Arrive, Event, Step, Tick, steps}
use Rattle.rt_app.specs.Tree.{App}
use Rattle.rt_code.specs.Image.{Image}
use Rattle.rt_core.specs.Machine.{Machine}
use Rattle.rt_ids.specs.Naming.{IsDeclared}
use Rattle.rt_run.proofs.Advancing.{steps-append}
use Rattle.rt_run.proofs.Known.{ticks}
use Rattle.rt_words.specs.Lines.{Line, Row}
use Rattle.rt_live.specs.Able.{MayArrive}
use Rattle.rt_live.specs.Interleaving.{arrivals_from, look_calls}
use Rattle.rt_live.proofs.Woven.{all_latches, line_on, line_with, same_line}
use Rattle.rt_live.specs.Going.{IsWholeLook}
use Rattle.rt_board.specs.Board.{Board}
use Rattle.rt_inputs.specs.Inputs.{Comes, Gives, Happening, events_of}
use Rattle.rt_inputs.specs.Going.{Moment}
use Rattle.rt_inputs.proofs.Moved.{happened_more}
use Rattle.rt_values.specs.Sides.{TakerSide}
use Rattle.rt_values.specs.declared.call.Call.TheVariants.{Take}
use Rattle.rt_live_inputs.specs.declared.boxes.BoxKind.{BoxKind as Box}
use Rattle.rt_live_inputs.specs.Looking.{Found, Happens, Looks, InputTurn, box_happenings, happenings_of}
use Rattle.rt_live_inputs.specs.Looking.{look_happenings}
use Rattle.rt_live_inputs.specs.Looking.{looks}
use Rattle.rt_live_inputs.specs.Inside.Able.{CanLatch, CanTake, CanTurn}
use Rattle.rt_live_inputs.specs.Inside.Going.{CameOf}
use Rattle.rt_live_inputs.specs.Inside.Turning.{IsLook, Turns, took, took_all}
use Rattle.rt_live_inputs.proofs.Going.{can_then, goes_none, goes_on, goes_same, same_image, ticks-append}
use Rattle.rt_live_inputs.proofs.Looked.{box_steps, box_ticks, come, no_steps, no_ticks}

-- how many events there are among turns, but those of looks
abbrev pub happens : List InputTurn → ℕ
happens [] = zero
happens (Looks ∷ ts) = happens ts
happens (Happens (Comes event) ∷ ts) = suc (happens ts)
happens (Happens (Gives local word) ∷ ts) = happens ts

pub looks_append : (ts us : List InputTurn) → looks (ts ++ us) ≡ looks ts + looks us
looks_append [] us = omega arith
looks_append (Looks ∷ ts) us = omega (arith, looks_append ts us)
looks_append (Happens happening ∷ ts) us = looks_append ts us

pub happens_append : (ts us : List InputTurn) → happens (ts ++ us) ≡ happens ts + happens us
happens_append [] us = omega arith
happens_append (Looks ∷ ts) us = happens_append ts us
happens_append (Happens (Comes event) ∷ ts) us = omega (arith, happens_append ts us)
happens_append (Happens (Gives local word) ∷ ts) us = happens_append ts us

abbrev row_of : Found → List ℕ
row_of one = one.row

abbrev rows : List Found → List (List ℕ)
rows found = map (λ (one : Found). one.row) found

took_all_on : (ts : List TakerSide) (f g : List Found) → took_all ts (f ++ g) ≡ took_all (took_all ts f) g
took_all_on ts [] g = refl
took_all_on ts (one ∷ f) g = took_all_on (took ts one.waited) f g

-- what happens by some turns and by those behind them
pub happenings_on : (boxes : List Box) (ts us : List InputTurn) (f g : List Found) → length f ≡ looks ts
    → happenings_of boxes (ts ++ us) (f ++ g) ≡ happenings_of boxes ts f ++ happenings_of boxes us g
happenings_on boxes [] us [] g many = refl
happenings_on boxes [] us (one ∷ f) g many = absurd (omega (arith, many))
happenings_on boxes (Happens h ∷ ts) us f g many =
    ap (λ (t : List Happening). h ∷ t) (happenings_on boxes ts us f g many)
happenings_on boxes (Looks ∷ ts) us [] g many = absurd (omega (arith, many))
happenings_on boxes (Looks ∷ ts) us (one ∷ f) g many =
    ap (λ (t : List Happening). look_happenings boxes one ++ t) (happenings_on boxes ts us f g (omega (arith, many)))
    ∙ sym (append_assoc (look_happenings boxes one) (happenings_of boxes ts f) (happenings_of boxes us g))

-- things that happen, as turns
pub happenings_alone : (boxes : List Box) (hs : List Happening) → happenings_of boxes (map Happens hs) [] ≡ hs
happenings_alone boxes [] = refl
happenings_alone boxes (h ∷ hs) = ap (λ (t : List Happening). h ∷ t) (happenings_alone boxes hs)

no_looks : (hs : List Happening) → looks (map Happens hs) ≡ 0
no_looks [] = refl
no_looks (h ∷ hs) = no_looks hs

module _ {app : App} {board : Board} {boxes : List Box} where
  pub turns_none : {u : Bool} {l : Line} {ts : List TakerSide} {a : Moment} {x : List ℕ} {f : ℕ}
      → Turns app board boxes [] u u l l ts ts a a x x f f
  turns_none {u} {l} {ts} {a} {x} {f} = record {
    found = [];
    many = refl;
    each = tt;
    line_is = same_line l;
    takers_are = refl;
    goes = goes_none app board u a x f;
  }

  -- what happens without a look
  pub turns_happen : (hs : List Happening) {u w : Bool} {l : Line} {ts : List TakerSide} {a b : Moment} {x y : List ℕ}
      {f g : ℕ} → CameOf app board hs u w a b x y f g
      → Turns app board boxes (map Happens hs) u w l l ts ts a b x y f g
  turns_happen hs {u} {w} {l} {ts} {a} {b} {x} {y} {f} {g} goes = record {
    found = [];
    many = sym (no_looks hs);
    each = tt;
    line_is = same_line l;
    takers_are = refl;
    goes = goes_same app board hs (happenings_of boxes (map Happens hs) []) u w a b x y f g
        (sym (happenings_alone boxes hs)) goes;
  }

  pub turns_same : {us vs : List InputTurn} {u w : Bool} {l m : Line} {ts ts' : List TakerSide} {a b : Moment}
      {x y : List ℕ} {f g : ℕ} → us ≡ vs → Turns app board boxes us u w l m ts ts' a b x y f g
      → Turns app board boxes vs u w l m ts ts' a b x y f g
  turns_same {us} {vs} {u} {w} {l} {m} {ts} {ts'} {a} {b} {x} {y} {f} {g} is run =
      subst (λ (t : List InputTurn). Turns app board boxes t u w l m ts ts' a b x y f g) is run

  module _ {us : List InputTurn} {u v : Bool} {l m : Line} {ts ts' : List TakerSide} {a b : Moment} {x y : List ℕ}
      {f g : ℕ} (run : Turns app board boxes us u v l m ts ts' a b x y f g) where
    pub turned_image : b.machine.image ≡ a.machine.image
    turned_image = same_image app board (happenings_of boxes us run.found) u v a b x y f g run.goes

    pub turns_on : {vs : List InputTurn} {w : Bool} {n : Line} {ts'' : List TakerSide} {c : Moment} {z : List ℕ} {h : ℕ}
        → Turns app board boxes vs v w m n ts' ts'' b c y z g h
        → Turns app board boxes (us ++ vs) u w l n ts ts'' a c x z f h
    turns_on {vs} {w} {n} {ts''} {c} {z} {h} more =
        let calls = flat_map look_calls (rows run.found) in
        let others = flat_map look_calls (rows more.found) in
        record {
          found = run.found ++ more.found;
          many =
              omega (arith, length-append run.found more.found, run.many, more.many, looks_append us vs);
          each =
              all_append (IsLook a.machine.image.names (length boxes)) run.found more.found run.each
              (subst (λ (img : Image). AllByRecursion (IsLook img.names (length boxes)) more.found) turned_image
              more.each);
          line_is =
              line_on l m n calls others run.line_is more.line_is
              ∙ ap (line_with l)
              (sym (ap (flat_map look_calls) (map-append row_of run.found more.found)
              ∙ flat_map-append look_calls (rows run.found) (rows more.found)));
          takers_are =
              more.takers_are ∙ ap (λ (t : List TakerSide). took_all t more.found) run.takers_are
              ∙ sym (took_all_on ts run.found more.found);
          goes =
              goes_same app board (happenings_of boxes us run.found ++ happenings_of boxes vs more.found)
              (happenings_of boxes (us ++ vs) (run.found ++ more.found)) u w a c x z f h
              (sym (happenings_on boxes us vs run.found more.found run.many))
              (goes_on app board (happenings_of boxes us run.found) (happenings_of boxes vs more.found) u v w a b c x y
              z f g h run.goes more.goes);
        }

-- turns are no more core steps than they are things that happen, and no more ticks
one_steps : (e : Event) (hs : List Happening) → steps (events_of (Comes e ∷ hs)) ≤ suc (steps (events_of hs))
one_steps Step hs = omega arith
one_steps Tick hs = omega arith
one_steps (Arrive irq) hs = omega arith

one_ticks : (e : Event) (hs : List Happening) → ticks (events_of (Comes e ∷ hs)) ≤ suc (ticks (events_of hs))
one_ticks Step hs = omega arith
one_ticks Tick hs = omega arith
one_ticks (Arrive irq) hs = omega arith

look_steps : (boxes : List Box) (one : Found) (hs : List Happening)
    → steps (events_of (look_happenings boxes one ++ hs)) ≡ steps (events_of hs)
look_steps boxes one hs =
    let front : List Happening = come (arrivals_from 0 one.row) in
    let back : List Happening = flat_map box_happenings (zip boxes one.waited) in
    omega (
      arith,
      ap steps (happened_more (front ++ back) hs),
      steps-append (events_of (front ++ back)) (events_of hs),
      ap steps (happened_more front back),
      steps-append (events_of front) (events_of back),
      no_steps (arrivals_from 0 one.row),
      box_steps boxes one.waited,
    )

look_ticks : (boxes : List Box) (one : Found) (hs : List Happening)
    → ticks (events_of (look_happenings boxes one ++ hs)) ≡ ticks (events_of hs)
look_ticks boxes one hs =
    let front : List Happening = come (arrivals_from 0 one.row) in
    let back : List Happening = flat_map box_happenings (zip boxes one.waited) in
    omega (
      arith,
      ap ticks (happened_more (front ++ back) hs),
      ticks-append (events_of (front ++ back)) (events_of hs),
      ap ticks (happened_more front back),
      ticks-append (events_of front) (events_of back),
      no_ticks (arrivals_from 0 one.row),
      box_ticks boxes one.waited,
    )

pub turn_steps : (boxes : List Box) (ts : List InputTurn) (found : List Found)
    → steps (events_of (happenings_of boxes ts found)) ≤ happens ts
turn_steps boxes [] found = omega arith
turn_steps boxes (Happens (Comes e) ∷ ts) found =
    omega (arith, one_steps e (happenings_of boxes ts found), turn_steps boxes ts found)
turn_steps boxes (Happens (Gives local word) ∷ ts) found = omega (arith, turn_steps boxes ts found)
turn_steps boxes (Looks ∷ ts) [] = omega arith
turn_steps boxes (Looks ∷ ts) (one ∷ found) =
    omega (arith, look_steps boxes one (happenings_of boxes ts found), turn_steps boxes ts found)

pub turn_ticks : (boxes : List Box) (ts : List InputTurn) (found : List Found)
    → ticks (events_of (happenings_of boxes ts found)) ≤ happens ts
turn_ticks boxes [] found = omega arith
turn_ticks boxes (Happens (Comes e) ∷ ts) found =
    omega (arith, one_ticks e (happenings_of boxes ts found), turn_ticks boxes ts found)
turn_ticks boxes (Happens (Gives local word) ∷ ts) found = omega (arith, turn_ticks boxes ts found)
turn_ticks boxes (Looks ∷ ts) [] = omega arith
turn_ticks boxes (Looks ∷ ts) (one ∷ found) =
    omega (arith, look_ticks boxes one (happenings_of boxes ts found), turn_ticks boxes ts found)

abbrev HasCalls : ℕ → TakerSide → Type 0
HasCalls n t = length t.calls + n < 2 ^ 32 - 1

calls_left : (ts : List TakerSide) (ws : List (Option ℕ)) (n : ℕ) → AllByRecursion (HasCalls (suc n)) ts
    → AllByRecursion (HasCalls n) (took ts ws)
calls_left [] ws n room = tt
calls_left (t ∷ ts) [] n room = (omega (arith, room.0), fewer ts room.1)
  where
    fewer : (ts : List TakerSide) → AllByRecursion (HasCalls (suc n)) ts → AllByRecursion (HasCalls n) ts
    fewer [] room = tt
    fewer (t ∷ ts) room = (omega (arith, room.0), fewer ts room.1)
calls_left (t ∷ ts) (w ∷ ws) n room =
    (omega (arith, length-append t.calls (Take w ∷ []), room.0), calls_left ts ws n room.1)

calls_all : (ts : List TakerSide) (found : List Found) (n : ℕ)
    → AllByRecursion (HasCalls (length found + n)) ts → AllByRecursion (HasCalls n) (took_all ts found)
calls_all ts [] n room = subst (λ k. AllByRecursion (HasCalls k) ts) (let e : zero + n ≡ n = omega arith in e) room
calls_all ts (one ∷ found) n room =
    calls_all (took ts one.waited) found n
    (calls_left ts one.waited (length found + n)
    (subst (λ k. AllByRecursion (HasCalls k) ts)
    (let e : suc (length found) + n ≡ suc (length found + n) = omega arith in e) room))

calls_fewer : (ts : List TakerSide) (n most : ℕ) → n ≤ most → AllByRecursion (HasCalls most) ts
    → AllByRecursion (HasCalls n) ts
calls_fewer [] n most fits room = tt
calls_fewer (t ∷ ts) n most fits room = (omega (arith, fits, room.0), calls_fewer ts n most fits room.1)

boxes_kept : (ts : List TakerSide) (ws : List (Option ℕ))
    → map (λ (t : TakerSide). t.mailbox) (took ts ws) ≡ map (λ (t : TakerSide). t.mailbox) ts
boxes_kept [] ws = refl
boxes_kept (t ∷ ts) [] = refl
boxes_kept (t ∷ ts) (w ∷ ws) = ap (λ (ms : List TableId). t.mailbox ∷ ms) (boxes_kept ts ws)

pub boxes_stay : (ts : List TakerSide) (found : List Found)
    → map (λ (t : TakerSide). t.mailbox) (took_all ts found) ≡ map (λ (t : TakerSide). t.mailbox) ts
boxes_stay ts [] = refl
boxes_stay ts (one ∷ found) = boxes_stay (took ts one.waited) found ∙ boxes_kept ts one.waited

pub took_long : (ts : List TakerSide) (ws : List (Option ℕ)) → length (took ts ws) ≡ length ts
took_long [] ws = refl
took_long (t ∷ ts) [] = refl
took_long (t ∷ ts) (w ∷ ws) = ap suc (took_long ts ws)

pub takers_long : (ts : List TakerSide) (found : List Found) → length (took_all ts found) ≡ length ts
takers_long ts [] = refl
takers_long ts (one ∷ found) = takers_long (took ts one.waited) found ∙ took_long ts one.waited

pub whole_rows : {P : Found → Type 0} (found : List Found) → ((one : Found) → P one → IsWholeLook one.row)
    → AllByRecursion P found → AllByRecursion IsWholeLook (rows found)
whole_rows [] each all = tt
whole_rows (one ∷ found) each all = (each one all.0, whole_rows found each all.1)

pub rows_long : (found : List Found) → length (rows found) ≡ length found
rows_long [] = refl
rows_long (one ∷ found) = ap suc (rows_long found)

-- what can be done still
module _ {app : App} {board : Board} {boxes : List Box} {us : List InputTurn} {u w : Bool} {l m : Line}
    {ts ts' : List TakerSide} {a b : Moment} {x y : List ℕ} {f g : ℕ}
    (run : Turns app board boxes us u w l m ts ts' a b x y f g) (n : ℕ) {most : ℕ} {words : Row}
    {mailboxes : List TableId} (can : CanTurn most app board boxes a.machine l words mailboxes ts)
    (happening : happens us + n ≤ most) (looking : looks us + n ≤ most) where
  latches_then : CanLatch n b.machine m words
  latches_then =
      let calls = flat_map look_calls (rows run.found) in
      subst (λ (k : Line). CanLatch n b.machine k words) (sym run.line_is) (record {
        words = can.latches.words;
        here = can.latches.here;
        many = can.latches.many;
        may = λ irq low pending.
            subst (λ (img : Image). MayArrive img.names irq) (sym (turned_image run)) (can.latches.may irq low pending);
        room = omega (
          arith,
          length-append l.calls calls,
          all_latches (rows run.found) (whole_rows run.found (λ one look. look.row) run.each),
          rows_long run.found,
          run.many,
          looking,
          can.latches.room,
        );
      })

  takes_then : CanTake n b.machine boxes mailboxes ts'
  takes_then = subst (CanTake n b.machine boxes mailboxes) (sym run.takers_are) (record {
    kinds = can.takes.kinds ∙ sym (takers_long ts run.found);
    each = boxes_stay ts run.found ∙ can.takes.each;
    declared =
        subst (λ (img : Image). AllByRecursion (λ (box : Box). IsDeclared img.names box.irq) boxes)
        (sym (turned_image run)) can.takes.declared;
    room =
        calls_all ts run.found n
        (calls_fewer ts (length run.found + n) most (omega (arith, run.many, looking)) can.takes.room);
  })

  pub can_turn_on : CanTurn n app board boxes b.machine m words mailboxes ts'
  can_turn_on = record {
    happens =
        can_then app board (happenings_of boxes us run.found) u w a b x y f g run.goes n most
        (omega (arith, turn_steps boxes us run.found, happening))
        (omega (arith, turn_ticks boxes us run.found, happening)) can.happens;
    latches = latches_then;
    takes = takes_then;
  }

pub can_turn_fewer : {app : App} {board : Board} {boxes : List Box} {m : Machine} {l : Line} {words : Row}
    {mailboxes : List TableId} {ts : List TakerSide} (n most : ℕ) → n ≤ most
    → CanTurn most app board boxes m l words mailboxes ts → CanTurn n app board boxes m l words mailboxes ts
can_turn_fewer {ts = ts} n most fits can = record {
  happens = record {
    can = can.happens.can;
    few = omega (arith, fits, can.happens.few);
    early = omega (arith, fits, can.happens.early);
  };
  latches = record {
    words = can.latches.words;
    here = can.latches.here;
    many = can.latches.many;
    may = can.latches.may;
    room = omega (arith, fits, can.latches.room);
  };
  takes = record {
    kinds = can.takes.kinds;
    each = can.takes.each;
    declared = can.takes.declared;
    room = calls_fewer ts n most fits can.takes.room;
  };
}
