-- A look: bit by bit and word by word at the row, and mailbox by mailbox.
use Rattle.std.proofs.Common.{◌≡◌, ℕ, suc, ◌+◌, ◌*◌, ◌<◌, Bool, List, [], ◌∷◌, ◌++◌, map}
use Rattle.std.proofs.Common.{flat_map, length, zip, if◌then◌else◌, Option, Some, None, refl, ap, sym, subst}
use Rattle.std.proofs.Common.{◌∙◌, append_assoc, append-nil, arith, eq-eqb, slice_set, get_or}
use Rattle.std.proofs.lemmas.List.{length-append, map-append}
use Rattle.std.specs.Int.{bit_at}
use Rattle.std.specs.List.{AllByRecursion}
use Rattle.rt_lemmas.proofs.Membership.{all_append}
use Rattle.atomic_table.specs.Seated.{TableId}
use Rattle.rt_ids.specs.Arrivals.{arrivals, arrivals_below}
use Rattle.rt_ids.specs.Event.{Arrive, steps}
use Rattle.rt_app.specs.Tree.{App}
use Rattle.rt_code.specs.Image.{Image}
use Rattle.rt_ids.specs.Naming.{IsDeclared}
use Rattle.rt_run.proofs.Known.{ticks}
use Rattle.rt_words.specs.Lines.{Line, Row}
use Rattle.rt_words.specs.Object.{IsPending, pending_bit}
use Rattle.rt_words.specs.Row.{bit_in_row, word_in_row}
use Rattle.rt_words.specs.declared.call.Call.TheVariants.{Latch}
use Rattle.rt_live.specs.Able.{BitsMayArrive}
use Rattle.rt_live.specs.Going.{FindsDeclared}
use Rattle.rt_live.specs.Interleaving.{arrivals_from, look_arrivals, look_calls}
use Rattle.rt_live.proofs.Looking.{arrivals_more, arriving_all, zero_arrives}
use Rattle.rt_live.proofs.Woven.{found_on, latches_on, length-latches, line_on, line_with, same_line}
use Rattle.rt_board.specs.Board.{Board}
use Rattle.rt_inputs.specs.Inputs.{Comes, Happening, events_of}
use Rattle.rt_inputs.specs.Going.{Moment}
use Rattle.rt_inputs.specs.Script.{given_request}
use Rattle.rt_values.specs.Sides.{TakerSide}
use Rattle.rt_live_inputs.specs.declared.boxes.BoxKind.{BoxKind as Box}
use Rattle.rt_live_inputs.specs.Looking.{Found, Looks, box_happenings, look_happenings}
use Rattle.rt_live_inputs.specs.Inside.Able.{CanLatch, CanTake}
use Rattle.rt_live_inputs.specs.Inside.Going.{CanHappen, CameOf}
use Rattle.rt_live_inputs.specs.Inside.Turning.{IsFoundWord, LooksAtBoxes, LooksAtRow, Turns, took, took_one}
use Rattle.rt_live_inputs.proofs.Going.{can_then, goes_none, goes_on, goes_same, same_image}

-- interrupts that arrive
abbrev pub come : List ℕ → List Happening
come irqs = map Comes (map Arrive irqs)

come-append : (xs ys : List ℕ) → come (xs ++ ys) ≡ come xs ++ come ys
come-append xs ys = ap (map Comes) (map-append Arrive xs ys) ∙ map-append Comes (map Arrive xs) (map Arrive ys)

-- they are no core steps and no ticks
pub no_steps : (irqs : List ℕ) → steps (events_of (come irqs)) ≡ 0
no_steps [] = refl
no_steps (irq ∷ irqs) = no_steps irqs

pub no_ticks : (irqs : List ℕ) → ticks (events_of (come irqs)) ≡ 0
no_ticks [] = refl
no_ticks (irq ∷ irqs) = no_ticks irqs

-- before the first bit nothing arrives
pub none_below : (k word : ℕ) → arrivals_below k word 0 ≡ []
unfolding Rattle.rt_ids.specs.Lists.numbers_below
none_below k word = refl

-- a bit more
pub bit_comes : (k word bit irq : ℕ) → bit_at word bit ≡ 1 → irq ≡ 32 * k + bit
    → come (arrivals_below k word (bit + 1)) ≡ come (arrivals_below k word bit) ++ Comes (Arrive irq) ∷ []
bit_comes k word bit irq set is =
    let front : List ℕ = arrivals_below k word bit in
    ap (λ n. come (arrivals_below k word n)) (let e : bit + 1 ≡ suc bit = omega arith in e)
    ∙ ap come (arrivals_more k word bit)
    ∙ ap (λ b. come (front ++ (if b then (32 * k + bit) ∷ [] else []))) (eq-eqb (bit_at word bit) 1 set)
    ∙ come-append front ((32 * k + bit) ∷ [])
    ∙ ap (λ n. come front ++ Comes (Arrive n) ∷ []) (sym is)

-- one word more
pub found_more : (words : List ℕ) (word k : ℕ) → length words ≡ k
    → arrivals_from 0 (words ++ word ∷ []) ≡ arrivals_from 0 words ++ arrivals k word
found_more words word k many =
    found_on 0 words (word ∷ [])
    ∙ ap (λ is. arrivals_from 0 words ++ is) (append-nil (arrivals (0 + length words) word)
    ∙ ap (λ n. arrivals n word) (let e : 0 + length words ≡ k = omega (arith, many) in e))

-- so many words of the row were latched, and what they hold arrived
pub record RowSoFar (k : ℕ) (app : App) (board : Board) (u w : Bool) (line l : Line) (a b : Moment) (x y : List ℕ)
    (f g : ℕ) : Type 0 where
  pub found : List ℕ
  pub many : length found ≡ k
  pub declared : FindsDeclared a.machine.image.names found
  pub line_is : l ≡ record line { calls = line.calls ++ look_calls found }
  pub goes : CameOf app board (map Comes (look_arrivals found)) u w a b x y f g

pub row_none : (app : App) (board : Board) (u : Bool) (line : Line) (a : Moment) (x : List ℕ) (f : ℕ)
    → RowSoFar 0 app board u u line line a a x x f f
row_none app board u line a x f = record {
  found = [];
  many = refl;
  declared = tt;
  line_is = same_line line;
  goes = goes_none app board u a x f;
}

module _ {k : ℕ} {app : App} {board : Board} {u v : Bool} {line l : Line} {a b : Moment} {x y : List ℕ} {f g : ℕ}
    (row : RowSoFar k app board u v line l a b x y f g) where
  pub row_calls : length l.calls ≡ length line.calls + k
  row_calls = omega (
    arith,
    ap (λ (n : Line). length n.calls) row.line_is,
    length-append line.calls (look_calls row.found),
    length-latches 0 row.found,
    row.many,
  )

  pub row_can : (n : ℕ) → CanHappen n app board a.machine → CanHappen n app board b.machine
  row_can n can =
      can_then app board (map Comes (look_arrivals row.found)) u v a b x y f g row.goes n n
      (omega (arith, no_steps (arrivals_from 0 row.found))) (omega (arith, no_ticks (arrivals_from 0 row.found))) can

  pub row_image : b.machine.image ≡ a.machine.image
  row_image = same_image app board (map Comes (look_arrivals row.found)) u v a b x y f g row.goes

  -- one word more
  module _ {n : ℕ} {words : Row} (can : CanLatch n a.machine line words) (within : k < 16) (word : ℕ)
      (there : (bit : ℕ) → bit < 32 → bit_at word bit ≡ 1 → IsPending words.may (32 * word_in_row l.here k + bit))
    where
      here : l.here ≡ 0
      here = ap (λ (n : Line). n.here) row.line_is ∙ can.here

      bits : BitsMayArrive a.machine.image.names k word
      bits bit low set =
          can.may (32 * k + bit) (omega (arith, within, low)) (ap (pending_bit words.may)
          (let e : bit_in_row 0 (32 * k + bit) ≡ 32 * word_in_row l.here k + bit = omega (arith, here) in e)
          ∙ there bit low set)

      pub row_bits : BitsMayArrive b.machine.image.names k word
      row_bits = subst (λ (img : Image). BitsMayArrive img.names k word) (sym row_image) bits

      pub row_more : (m : Line) → m ≡ line_with l (Latch (word_in_row l.here k) word ∷ []) → {w : Bool} {c : Moment}
          {z : List ℕ} {h : ℕ} → CameOf app board (come (arrivals k word)) v w b c y z g h
          → RowSoFar (k + 1) app board u w line m a c x z f h
      row_more m call {w} {c} {z} {h} goes = record {
        found = row.found ++ word ∷ [];
        many = omega (arith, length-append row.found (word ∷ []), row.many);
        declared =
            subst (AllByRecursion (IsDeclared a.machine.image.names)) (sym (found_more row.found word k row.many))
            (all_append (IsDeclared a.machine.image.names) (arrivals_from 0 row.found) (arrivals k word) row.declared
            (arriving_all (IsDeclared a.machine.image.names) k word (λ bit low set. (bits bit low set).0)));
        line_is =
            line_on line l m (look_calls row.found) (Latch (word_in_row l.here k) word ∷ []) row.line_is call
            ∙ ap (line_with line)
            (ap (λ n. look_calls row.found ++ Latch n word ∷ [])
            (let e : word_in_row l.here k ≡ 0 + length row.found = omega (arith, here, row.many) in e)
            ∙ sym (latches_on 0 row.found (word ∷ [])));
        goes =
            goes_same app board (map Comes (look_arrivals row.found) ++ come (arrivals k word))
            (map Comes (look_arrivals (row.found ++ word ∷ []))) u w a c x z f h
            (sym (ap come (found_more row.found word k row.many)
            ∙ come-append (arrivals_from 0 row.found) (arrivals k word)))
            (goes_on app board (map Comes (look_arrivals row.found)) (come (arrivals k word)) u v w a b c x y z f g h
            row.goes goes);
      }

      pub row_skips : (m : Line) → m ≡ line_with l (Latch (word_in_row l.here k) word ∷ []) → word ≡ 0
          → RowSoFar (k + 1) app board u v line m a b x y f g
      row_skips m call none =
          row_more m call (goes_same app board [] (come (arrivals k word)) v v b b y y g g
          (sym (ap come (zero_arrives k word none)))
          (goes_none app board v b y g))

  -- all of them
  pub row_all : k ≡ 16 → LooksAtRow app board u v line l a b x y f g
  row_all all = record {
    found = row.found;
    whole = row.many ∙ all;
    declared = row.declared;
    line_is = row.line_is;
    goes = row.goes;
  }

took_none : (ts : List TakerSide) → took ts [] ≡ ts
took_none [] = refl
took_none (t ∷ ts) = refl

-- the taker of the next place has not taken yet
took_at : (ts : List TakerSide) (ws : List (Option ℕ)) (d : TakerSide)
    → get_or (took ts ws) (length ws) d ≡ get_or ts (length ws) d
took_at [] ws d = refl
took_at (t ∷ ts) [] d = refl
took_at (t ∷ ts) (w ∷ ws) d = took_at ts ws d

-- and then it has
took_more : (ts : List TakerSide) (ws : List (Option ℕ)) (w : Option ℕ) (d : TakerSide) → length ws < length ts
    → slice_set (took ts ws) (length ws) (took_one (get_or (took ts ws) (length ws) d) w) ≡ took ts (ws ++ w ∷ [])
took_more [] ws w d within = absurd (omega (arith, within))
took_more (t ∷ ts) [] w d within = ap (λ (more : List TakerSide). took_one t w ∷ more) (sym (took_none ts))
took_more (t ∷ ts) (v ∷ ws) w d within =
    ap (λ (more : List TakerSide). took_one t v ∷ more) (took_more ts ws w d (omega (arith, within)))

-- before the first mailbox
abbrev none_waited : List (Option ℕ)
none_waited = []

none_zipped : (kinds : List Box) → flat_map box_happenings (zip kinds none_waited) ≡ []
none_zipped [] = refl
none_zipped (kind ∷ kinds) = refl

-- what happens by one mailbox more
boxes_more : (kinds : List Box) (ws : List (Option ℕ)) (w : Option ℕ) (kind : Box) → length ws < length kinds
    → kind ≡ get_or kinds (length ws) kind
    → flat_map box_happenings (zip kinds (ws ++ w ∷ []))
    ≡ flat_map box_happenings (zip kinds ws) ++ box_happenings (kind, w)
boxes_more [] ws w kind within is = absurd (omega (arith, within))
boxes_more (k ∷ kinds) [] w kind within is =
    ap (λ (t : List Happening). box_happenings (k, w) ++ t) (none_zipped kinds)
    ∙ append-nil (box_happenings (k, w))
    ∙ ap (λ (b : Box). box_happenings (b, w)) (sym is)
boxes_more (k ∷ kinds) (v ∷ ws) w kind within is =
    ap (λ (t : List Happening). box_happenings (k, v) ++ t) (boxes_more kinds ws w kind (omega (arith, within)) is)
    ∙ sym (append_assoc (box_happenings (k, v)) (flat_map box_happenings (zip kinds ws)) (box_happenings (kind, w)))

-- words in mailboxes are no core steps and no ticks
pub box_steps : (kinds : List Box) (ws : List (Option ℕ))
    → steps (events_of (flat_map box_happenings (zip kinds ws))) ≡ 0
box_steps [] ws = refl
box_steps (kind ∷ kinds) [] = refl
box_steps (kind ∷ kinds) (None ∷ ws) = box_steps kinds ws
box_steps (kind ∷ kinds) (Some w ∷ ws) = box_steps kinds ws

pub box_ticks : (kinds : List Box) (ws : List (Option ℕ))
    → ticks (events_of (flat_map box_happenings (zip kinds ws))) ≡ 0
box_ticks [] ws = refl
box_ticks (kind ∷ kinds) [] = refl
box_ticks (kind ∷ kinds) (None ∷ ws) = box_ticks kinds ws
box_ticks (kind ∷ kinds) (Some w ∷ ws) = box_ticks kinds ws

some_taker : (ts : List TakerSide) (n : ℕ) → n < length ts → TakerSide
some_taker [] n within = absurd (omega (arith, within))
some_taker (t ∷ ts) n within = t

-- the mailboxes so far
pub record BoxesSoFar (n : ℕ) (app : App) (board : Board) (kinds : List Box) (u w : Bool) (ts ts' : List TakerSide)
    (a b : Moment) (x y : List ℕ) (f g : ℕ) : Type 0 where
  pub waited : List (Option ℕ)
  pub many : length waited ≡ n
  pub small : AllByRecursion IsFoundWord waited
  pub takers_are : ts' ≡ took ts waited
  pub goes : CameOf app board (flat_map box_happenings (zip kinds waited)) u w a b x y f g

pub boxes_none : (app : App) (board : Board) (kinds : List Box) (u : Bool) (ts : List TakerSide) (a : Moment)
    (x : List ℕ) (f : ℕ) → BoxesSoFar 0 app board kinds u u ts ts a a x x f f
boxes_none app board kinds u ts a x f = record {
  waited = [];
  many = refl;
  small = tt;
  takers_are = sym (took_none ts);
  goes = goes_same app board [] (flat_map box_happenings (zip kinds none_waited)) u u a a x x f f
      (sym (none_zipped kinds)) (goes_none app board u a x f);
}

module _ {n : ℕ} {app : App} {board : Board} {kinds : List Box} {u v : Bool} {ts ts' : List TakerSide} {a b : Moment}
    {x y : List ℕ} {f g : ℕ} (far : BoxesSoFar n app board kinds u v ts ts' a b x y f g) where
  pub boxes_can : (m : ℕ) → CanHappen m app board a.machine → CanHappen m app board b.machine
  boxes_can m can =
      can_then app board (flat_map box_happenings (zip kinds far.waited)) u v a b x y f g far.goes m m
      (omega (arith, box_steps kinds far.waited)) (omega (arith, box_ticks kinds far.waited)) can

  pub boxes_image : b.machine.image ≡ a.machine.image
  boxes_image = same_image app board (flat_map box_happenings (zip kinds far.waited)) u v a b x y f g far.goes

  pub boxes_at : (d : TakerSide) → get_or ts' n d ≡ get_or ts n d
  boxes_at d =
      ap (λ (t : List TakerSide). get_or t n d) far.takers_are
      ∙ ap (λ k. get_or (took ts far.waited) k d) (sym far.many)
      ∙ took_at ts far.waited d
      ∙ ap (λ k. get_or ts k d) far.many

  boxes_on : (found : Option ℕ) (kind : Box) {ts'' : List TakerSide} → IsFoundWord found
      → n < length ts → n < length kinds → kind ≡ get_or kinds n kind
      → ((d : TakerSide) → ts'' ≡ slice_set ts' n (took_one (get_or ts' n d) found)) → {w : Bool} {c : Moment}
      {z : List ℕ} {h : ℕ} → CameOf app board (box_happenings (kind, found)) v w b c y z g h
      → BoxesSoFar (n + 1) app board kinds u w ts ts'' a c x z f h
  boxes_on found kind {ts''} small within below is call {w} {c} {z} {h} goes =
      let d : TakerSide = some_taker ts n within in
      record {
        waited = far.waited ++ found ∷ [];
        many = omega (arith, far.many, length-append far.waited (found ∷ []));
        small = all_append IsFoundWord far.waited (found ∷ []) far.small (small, tt);
        takers_are =
            call d
            ∙ ap (λ (t : List TakerSide). slice_set t n (took_one (get_or t n d) found)) far.takers_are
            ∙ ap (λ k. slice_set (took ts far.waited) k (took_one (get_or (took ts far.waited) k d) found))
            (sym far.many)
            ∙ took_more ts far.waited found d (omega (arith, far.many, within));
        goes =
            goes_same app board (flat_map box_happenings (zip kinds far.waited) ++ box_happenings (kind, found))
            (flat_map box_happenings (zip kinds (far.waited ++ found ∷ []))) u w a c x z f h
            (sym (boxes_more kinds far.waited found kind (omega (arith, far.many, below))
            (is ∙ ap (λ k. get_or kinds k kind) (sym far.many))))
            (goes_on app board (flat_map box_happenings (zip kinds far.waited)) (box_happenings (kind, found)) u v w a b
            c x y z f g h far.goes goes);
      }

  -- a mailbox more, in which a word waited or none
  module _ (found : Option ℕ) (small : IsFoundWord found) (k : ℕ) (at : k ≡ n) (kind : Box) (within : n < length ts)
      (below : n < length kinds) (is : kind ≡ get_or kinds n kind) {ts'' : List TakerSide}
      (call : (d : TakerSide) → ts'' ≡ slice_set ts' k (took_one (get_or ts' k d) found)) where
    call_here : (waits : Option ℕ) → found ≡ waits → (d : TakerSide)
        → ts'' ≡ slice_set ts' n (took_one (get_or ts' n d) waits)
    call_here waits same d =
        call d ∙ ap (λ m. slice_set ts' m (took_one (get_or ts' m d) found)) at
        ∙ ap (λ (w : Option ℕ). slice_set ts' n (took_one (get_or ts' n d) w)) same

    pub boxes_some : (word : ℕ) → found ≡ Some word → {w : Bool} {c : Moment} {z : List ℕ} {h : ℕ}
        → CameOf app board (given_request kind.irq kind.local word) v w b c y z g h
        → BoxesSoFar (n + 1) app board kinds u w ts ts'' a c x z f h
    boxes_some word same goes =
        boxes_on (Some word) kind (subst IsFoundWord same small) within below is (call_here (Some word) same) goes

    pub boxes_skip : found ≡ None → BoxesSoFar (n + 1) app board kinds u v ts ts'' a b x y f g
    boxes_skip same =
        boxes_on None kind (subst IsFoundWord same small) within below is (call_here None same)
        (goes_none app board v b y g)

  pub boxes_all : n ≡ length kinds → LooksAtBoxes app board kinds u v ts ts' a b x y f g
  boxes_all all = record {
    waited = far.waited;
    many = far.many ∙ all;
    small = far.small;
    takers_are = far.takers_are;
    goes = far.goes;
  }

-- the row and then the mailboxes
module _ {app : App} {board : Board} {u v : Bool} {line l : Line} {a b : Moment} {x y : List ℕ} {f g : ℕ}
    (row : LooksAtRow app board u v line l a b x y f g) where
  pub looked_can : (n : ℕ) → CanHappen n app board a.machine → CanHappen n app board b.machine
  looked_can n can =
      can_then app board (map Comes (look_arrivals row.found)) u v a b x y f g row.goes n n
      (omega (arith, no_steps (arrivals_from 0 row.found))) (omega (arith, no_ticks (arrivals_from 0 row.found))) can

  looked_image : b.machine.image ≡ a.machine.image
  looked_image = same_image app board (map Comes (look_arrivals row.found)) u v a b x y f g row.goes

  pub looked_take : {kinds : List Box} {n : ℕ} {mailboxes : List TableId} {takers : List TakerSide}
      → CanTake n a.machine kinds mailboxes takers
      → CanTake n b.machine kinds mailboxes takers
  looked_take {kinds} can = record {
    kinds = can.kinds;
    each = can.each;
    declared =
        subst (λ (img : Image). AllByRecursion (λ (box : Box). IsDeclared img.names box.irq) kinds) (sym looked_image)
        can.declared;
    room = can.room;
  }

  pub look_done : {kinds : List Box} {w : Bool} {ts ts' : List TakerSide} {c : Moment} {z : List ℕ} {h : ℕ}
      → LooksAtBoxes app board kinds v w ts ts' b c y z g h
      → Turns app board kinds (Looks ∷ []) u w line l ts ts' a c x z f h
  look_done {kinds} {w} {ts} {ts'} {c} {z} {h} boxes =
      let one : Found = record { row = row.found; waited = boxes.waited } in
      let back : List Happening = flat_map box_happenings (zip kinds boxes.waited) in
      record {
        found = one ∷ [];
        many = refl;
        each = (
          record { row = row.whole; declared = row.declared; waited = boxes.many; small = boxes.small },
          tt,
        );
        line_is = row.line_is ∙ ap (line_with line) (sym (append-nil (look_calls row.found)));
        takers_are = boxes.takers_are;
        goes =
            goes_same app board (look_happenings kinds one) (look_happenings kinds one ++ []) u w a c x z f h
            (sym (append-nil (look_happenings kinds one)))
            (goes_on app board (map Comes (look_arrivals row.found)) back u v w a b c x y z f g h row.goes boxes.goes);
      }
