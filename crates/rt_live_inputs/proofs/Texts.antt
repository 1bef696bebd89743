-- What was taken in all: the bytes in front, the lines, the total and the account, or a beginning of them.
use Rattle.std.proofs.Common.{◌≡◌, ℕ, ◌+◌, ◌≤◌, ◌⊎◌, inl, inr, Bool, true, false, List, [], ◌∷◌, ◌++◌, length, refl, ap}
use Rattle.std.proofs.Common.{sym}
use Rattle.std.proofs.Common.{subst, ◌∙◌, append_assoc, append-nil, arith}
use Rattle.rt_app.specs.Tree.{App}
use Rattle.rt_core.specs.Machine.{Machine}
use Rattle.rt_outside.specs.Bytes.{Took, TookAtLeast, TookPrefix}
use Rattle.rt_outside.specs.Faults.{Rose}
use Rattle.rt_run.proofs.Taking.{least_on, part_more, part_on, took_on}
use Rattle.rt_board.specs.Board.{Board}
use Rattle.rt_inputs.specs.Inputs.{Happening}
use Rattle.rt_inputs.specs.Going.{Moment, MovesLead, moves_at, registers_after, text_at}
use Rattle.rt_inputs.specs.Inside.Ran.{Ran}
use Rattle.rt_inputs.proofs.Advancing.{text_split}
use Rattle.rt_live_inputs.specs.Inside.Going.{CameOf, Puts, StopsIn}

module _ (app : App) (board : Board) (hs : List Happening) (a : Moment) (front tail : List ℕ) where
  -- all of it
  abbrev pub whole_text : List ℕ
  whole_text = front ++ (text_at app board a hs ++ tail)

  -- how far it came where a fault did
  pub record Broken (m : Machine) (x y : List ℕ) : Type 0 where
    pub told : List Happening
    pub last : List Happening
    pub rest : List Happening
    pub parts : hs ≡ (told ++ last) ++ rest
    pub one : length last ≤ 1
    pub leads : MovesLead app (moves_at app board a (told ++ last)) a.machine m
    pub lines : (told ++ last ≡ []) ⊎ TookAtLeast x y (front ++ text_at app board a told)
    pub all : last ≡ [] → (told ≡ []) ⊎ (rest ≡ [])
    pub took : TookPrefix x y whole_text

  -- what came of it
  abbrev pub Comes_of : Bool → Machine → List ℕ → List ℕ → ℕ → ℕ → Type 0
  Comes_of true m x y f g =
      Took x y whole_text × MovesLead app (moves_at app board a hs) a.machine m × (g ≡ f)
  Comes_of false m x y f g = Broken m x y × Rose f g

-- what happens is split into what was done and the rest, and so are the lines
lines_part : (app : App) (board : Board) (a : Moment) (m : Machine) (done rest : List Happening)
    → MovesLead app (moves_at app board a done) a.machine m
    → (more : List ℕ) × (text_at app board a (done ++ rest) ≡ text_at app board a done ++ more)
lines_part app board a m done rest leads =
    let mid : Moment = record { machine = m; registers = registers_after a.registers done } in
    (text_at app board mid rest, text_split app board done rest a mid (record { machine = leads; registers = refl }))

module _ (app : App) (board : Board) (hs : List Happening) (a b : Moment) (front : List ℕ) (v x : List ℕ) (f g : ℕ)
    (first : Took v x front) (same : g ≡ f) where
  -- a fault where things happen
  happens_cut : (tail y : List ℕ) (h : ℕ) → StopsIn app board hs a b.machine x y → Rose g h
      → Comes_of app board hs a front tail false b.machine v y f h
  happens_cut tail y h stop rose =
      let done : List Happening = stop.told ++ stop.last ∷ [] in
      let parts : hs ≡ done ++ stop.rest =
      stop.parts ∙ sym (append_assoc stop.told (stop.last ∷ []) stop.rest) in
      let split = lines_part app board a b.machine done stop.rest stop.leads in
      let texts : text_at app board a hs ≡ text_at app board a done ++ split.0 =
      ap (text_at app board a) parts ∙ split.1 in (
        record {
          told = stop.told;
          last = stop.last ∷ [];
          rest = stop.rest;
          parts = parts;
          one = omega arith;
          leads = stop.leads;
          lines = inr (least_on v x y front (text_at app board a stop.told) first stop.lines);
          all = λ none. absurd (omega (arith, ap length none));
          took =
              part_on v x y front (text_at app board a hs ++ tail) first
              (part_more x y (text_at app board a hs) tail
              (subst (TookPrefix x y) (sym texts) (part_more x y (text_at app board a done) split.0 stop.took)));
        },
        subst (λ n. Rose n h) same rose,
      )

  -- a fault behind all that happens
  module _ (y : List ℕ) (h : ℕ) (run : Ran app board hs a b x y [] []) (quiet : h ≡ g) where
    lines_took : Took x y (text_at app board a hs)
    lines_took = subst (Took x y) (sym (run.wrote.parts ∙ append-nil run.wrote.front)) run.wrote.took

    up_to : Took v y (front ++ text_at app board a hs)
    up_to = took_on v x y front (text_at app board a hs) first lines_took

    tail_cut : (tail z : List ℕ) (i : ℕ) → TookPrefix y z tail → Rose h i
        → Comes_of app board hs a front tail false b.machine v z f i
    tail_cut tail z i part rose = (
      record {
        told = hs;
        last = [];
        rest = [];
        parts = sym (append-nil (hs ++ []) ∙ append-nil hs);
        one = omega arith;
        leads =
            subst (λ (t : List Happening). MovesLead app (moves_at app board a t) a.machine b.machine)
            (sym (append-nil hs)) run.leads.machine;
        lines = inr (part.0, took_on v y z (front ++ text_at app board a hs) part.0 up_to part.2);
        all = λ none. inr refl;
        took =
            subst (TookPrefix v z) (append_assoc front (text_at app board a hs) tail)
            (part_on v y z (front ++ text_at app board a hs) tail up_to part);
      },
      subst (λ n. Rose n i) (quiet ∙ same) rose,
    )

    all_taken : (total account z t : List ℕ) (i j : ℕ) → Took y z total → i ≡ h → Took z t account → j ≡ i
        → Comes_of app board hs a front (total ++ account) true b.machine v t f j
    all_taken total account z t i j totalled calm told still = (
      subst (Took v t) (append_assoc front (text_at app board a hs) (total ++ account))
          (took_on v y t (front ++ text_at app board a hs) (total ++ account) up_to
          (took_on y z t total account totalled told)),
      run.leads.machine,
      still ∙ calm ∙ quiet ∙ same,
    )

-- nothing happened where the fault came in front
front_cut : (app : App) (board : Board) (hs : List Happening) (a : Moment) (front tail v x : List ℕ) (f g : ℕ)
    (m : Machine) → m ≡ a.machine → TookPrefix v x front → Rose f g
    → Comes_of app board hs a front tail false m v x f g
front_cut app board hs a front tail v x f g m same part rose = (
  record {
    told = [];
    last = [];
    rest = hs;
    parts = refl;
    one = omega arith;
    leads = record {
      image = ap (λ (n : Machine). n.image) same;
      core = ap (λ (n : Machine). n.core) same;
      steps =
          ap (λ (n : Machine). n.steps) same ∙ (let e : a.machine.steps ≡ a.machine.steps + 0 = omega arith in e);
    };
    lines = inl refl;
    all = λ none. inl refl;
    took = part_more v x front (text_at app board a hs ++ tail) part;
  },
  rose,
)

module _ (app : App) (board : Board) (hs : List Happening) (a b : Moment) (front total account : List ℕ) where
  abbrev Cut_of : List ℕ → List ℕ → ℕ → ℕ → Type 0
  Cut_of v t f j = Comes_of app board hs a front (total ++ account) false b.machine v t f j

  cut_same : (v t u : List ℕ) (f i j : ℕ) → t ≡ u → i ≡ j → Cut_of v u f j → Cut_of v t f i
  cut_same v t u f i j is same cut =
      subst (λ (w : List ℕ). Cut_of v w f i) (sym is) (subst (λ n. Cut_of v u f n) (sym same) cut)

  -- whatever came of the parts
  pub comes_of : (p q r s : Bool) (v x y z t : List ℕ) (f g h i j : ℕ) → Puts front true p v x f g
      → CameOf app board hs p q a b x y g h → Puts total q r y z h i → Puts account r s z t i j
      → Comes_of app board hs a front (total ++ account) s b.machine v t f j
  comes_of true true true true v x y z t f g h i j one two three four =
      all_taken app board hs a b front v x f g one.0 one.1 y h two.0 two.1 total account z t i j three.0 three.1 four.0
      four.1
  comes_of true true true false v x y z t f g h i j one two three four =
      tail_cut app board hs a b front v x f g one.0 one.1 y h two.0 two.1 (total ++ account) t j
      (part_on y z t total account three.0 four.0) (subst (λ n. Rose n j) three.1 four.1)
  comes_of true true false true v x y z t f g h i j one two three four = absurd four
  comes_of true true false false v x y z t f g h i j one two three four =
      cut_same v t z f j i four.0 four.1
      (tail_cut app board hs a b front v x f g one.0 one.1 y h two.0 two.1 (total ++ account) z i
      (part_more y z total account three.0) three.1)
  comes_of true false true s v x y z t f g h i j one two three four = absurd three
  comes_of true false false true v x y z t f g h i j one two three four = absurd four
  comes_of true false false false v x y z t f g h i j one two three four =
      cut_same v t y f j h (four.0 ∙ three.0) (four.1 ∙ three.1)
      (happens_cut app board hs a b front v x f g one.0 one.1 (total ++ account) y h two.0 two.1)
  comes_of false true r s v x y z t f g h i j one two three four = absurd two
  comes_of false false true s v x y z t f g h i j one two three four = absurd three
  comes_of false false false true v x y z t f g h i j one two three four = absurd four
  comes_of false false false false v x y z t f g h i j one two three four =
      cut_same v t x f j g (four.0 ∙ three.0 ∙ two.1) (four.1 ∙ three.1 ∙ two.2)
      (front_cut app board hs a front (total ++ account) v x f g b.machine two.0 one.0 one.1)
