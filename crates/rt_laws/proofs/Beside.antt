-- Runs beside devices: a run without words is one of them, a word keeps what is well, and a run can be cut and joined.
use Rattle.std.proofs.Common.{◌≡◌, ℕ, zero, suc, List, [], ◌∷◌, ◌++◌, take, refl, ap, ◌∙◌, le_refl}
use Rattle.rt_actions.specs.Location.{Own}
use Rattle.rt_actions.specs.Content.{Number, values_with}
use Rattle.rt_trace.specs.Label.{Label}
use Rattle.rt_app.specs.Tree.{App}
use Rattle.rt_laws.specs.State.{State}
use Rattle.rt_laws.specs.Allowed.{after}
use Rattle.rt_laws.specs.Run.{RunsOn}
use Rattle.rt_laws.specs.ByItems.{after_all}
use Rattle.rt_laws.specs.Observer.{Observer}
use Rattle.rt_laws.specs.DeviceWords.{WithWords, One, Puts, ones, things, state_after_put, RunsBeside, after_moves}
use Rattle.rt_laws.proofs.Well.{StateWell}
use Rattle.rt_laws.proofs.Order.{all_kept}

module _ {A : Type 0} where
  pub things_ones : (xs : List A) → things (ones xs) ≡ xs
  things_ones [] = refl
  things_ones (x ∷ xs) = ap (λ ys. x ∷ ys) (things_ones xs)

  pub things_behind : (xs : List A) (ys : List (WithWords A)) → things (ones xs ++ ys) ≡ xs ++ things ys
  things_behind [] ys = refl
  things_behind (x ∷ xs) ys = ap (λ zs. x ∷ zs) (things_behind xs ys)

  pub ones_append : (xs ys : List A) → ones (xs ++ ys) ≡ ones xs ++ ones ys
  ones_append [] ys = refl
  ones_append (x ∷ xs) ys = ap (λ zs. One x ∷ zs) (ones_append xs ys)

  pub take_ones : (n : ℕ) (xs : List A) → take n (ones xs) ≡ ones (take n xs)
  take_ones zero xs = refl
  take_ones (suc n) [] = refl
  take_ones (suc n) (x ∷ xs) = ap (λ ys. One x ∷ ys) (take_ones n xs)

  -- among things alone there is no word
  pub no_words : (xs : List A) (front behind : List (WithWords A)) (n word : ℕ)
      → ones xs ≡ front ++ Puts n word ∷ behind → ⊥
  no_words [] [] behind n word is = cc
  no_words [] (y ∷ front) behind n word is = cc
  no_words (x ∷ xs) [] behind n word is = cc
  no_words (x ∷ xs) (y ∷ front) behind n word is =
      let more : ones xs ≡ front ++ Puts n word ∷ behind = cc in no_words xs front behind n word more

  -- where the things are two parts, so are the things with their words
  pub record Parts (moves : List (WithWords A)) (front behind : List A) : Type 0 where
    pub before : List (WithWords A)
    pub later : List (WithWords A)
    pub is : moves ≡ before ++ later
    pub front_is : things before ≡ front
    pub behind_is : things later ≡ behind

  -- with one thing more in front
  longer : (y x : A) (moves : List (WithWords A)) (front behind : List A) → y ≡ x → Parts moves front behind
      → Parts (One y ∷ moves) (x ∷ front) behind
  longer y x moves front behind here parts = record {
    before = One y ∷ parts.before;
    later = parts.later;
    is = ap (λ ms. One y ∷ ms) parts.is;
    front_is = ap (λ ys. y ∷ ys) parts.front_is ∙ ap (λ z. z ∷ front) here;
    behind_is = parts.behind_is;
  }

  pub parts_of : (moves : List (WithWords A)) (front behind : List A) → things moves ≡ front ++ behind
      → Parts moves front behind
  parts_of moves [] behind same =
      record { before = []; later = moves; is = refl; front_is = refl; behind_is = same }
  parts_of [] (x ∷ front) behind same = cc
  parts_of (One y ∷ moves) (x ∷ front) behind same =
      let here : y ≡ x = cc in
      let more : things moves ≡ front ++ behind = cc in
      longer y x moves front behind here (parts_of moves front behind more)
  parts_of (Puts n word ∷ moves) (x ∷ front) behind same =
      let deeper = parts_of moves (x ∷ front) behind same in record {
        before = Puts n word ∷ deeper.before;
        later = deeper.later;
        is = ap (λ ms. Puts n word ∷ ms) deeper.is;
        front_is = deeper.front_is;
        behind_is = deeper.behind_is;
      }

module _ (app : App) where
  -- a word keeps what is well
  pub put_well : (s : State) (v : Observer) (n word : ℕ) → StateWell app s v
      → StateWell app (state_after_put n word s) v
  put_well s v n word well = record {
    stack = well.stack;
    pending = well.pending;
    queued = record {
      ready = well.queued.ready;
      timer = well.queued.timer;
      handles = well.queued.handles;
      out = well.queued.out;
    };
    order = all_kept app s.time s.time s.jobs s.values (values_with s.values (Own n) (Number word))
        (le_refl s.time) (λ x queue there. refl) well.order;
  }

  -- a run is one beside devices, without a word
  pub runs_ones : (labels : List Label) (s : State) → RunsOn app s labels → RunsBeside app s (ones labels)
  runs_ones [] s runs = tt
  runs_ones (label ∷ labels) s runs = (runs.0, runs_ones labels (after app s label) runs.1)

  pub ones_run : (labels : List Label) (s : State) → RunsBeside app s (ones labels) → RunsOn app s labels
  ones_run [] s runs = tt
  ones_run (label ∷ labels) s runs = (runs.0, ones_run labels (after app s label) runs.1)

  pub after_ones : (labels : List Label) (s : State) → after_moves app s (ones labels) ≡ after_all app s labels
  after_ones [] s = refl
  after_ones (label ∷ labels) s = after_ones labels (after app s label)

  pub moves_behind_ones : (labels : List Label) (moves : List (WithWords Label)) (s : State)
      → after_moves app s (ones labels ++ moves) ≡ after_moves app (after_all app s labels) moves
  moves_behind_ones [] moves s = refl
  moves_behind_ones (label ∷ labels) moves s = moves_behind_ones labels moves (after app s label)

  pub runs_behind_ones : (labels : List Label) (moves : List (WithWords Label)) (s : State) → RunsOn app s labels
      → RunsBeside app (after_all app s labels) moves → RunsBeside app s (ones labels ++ moves)
  runs_behind_ones [] moves s before later = later
  runs_behind_ones (label ∷ labels) moves s before later =
      (before.0, runs_behind_ones labels moves (after app s label) before.1 later)

  pub moves_append : (front behind : List (WithWords Label)) (s : State)
      → after_moves app s (front ++ behind) ≡ after_moves app (after_moves app s front) behind
  moves_append [] behind s = refl
  moves_append (One label ∷ front) behind s = moves_append front behind (after app s label)
  moves_append (Puts n word ∷ front) behind s = moves_append front behind (state_after_put n word s)

  pub moves_front : (front behind : List (WithWords Label)) (s : State) → RunsBeside app s (front ++ behind)
      → RunsBeside app s front
  moves_front [] behind s runs = tt
  moves_front (One label ∷ front) behind s runs = (runs.0, moves_front front behind (after app s label) runs.1)
  moves_front (Puts n word ∷ front) behind s runs =
      (runs.0, moves_front front behind (state_after_put n word s) runs.1)

  pub moves_behind : (front behind : List (WithWords Label)) (s : State) → RunsBeside app s (front ++ behind)
      → RunsBeside app (after_moves app s front) behind
  moves_behind [] behind s runs = runs
  moves_behind (One label ∷ front) behind s runs = moves_behind front behind (after app s label) runs.1
  moves_behind (Puts n word ∷ front) behind s runs = moves_behind front behind (state_after_put n word s) runs.1
