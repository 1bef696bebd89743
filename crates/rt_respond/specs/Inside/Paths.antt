-- The graph of releases by places in the list of handlers, as the code keeps it, and the flags of which handlers are
-- reached from which.
use Rattle.std.specs.Prelude.{◌≡◌, ℕ, ◌<◌, Bool, true, false, List, [], Contains, length, slice_get}
use Rattle.std.specs.Prelude.{slice_index_or}
use Rattle.std.specs.Prelude.{Option, Some, None, Vec}
use Rattle.std.specs.Global.{Global}
use Rattle.std.specs.List.{AllByRecursion}
use Rattle.rt_app.specs.Tree.{App}
use Rattle.rt_respond.specs.Handlers.{is_at}
use Rattle.rt_respond.specs.Path.{releases}
use Rattle.rt_respond.specs.declared.handler.Handler.{Handler}
use Rattle.rt_respond.specs.declared.path.Edge.{Edge}

-- of two handlers the body of the first pends the second
pub record IsEdge (app : App) (hs : List Handler) (edge : Edge) : Type 0 where
  pub from : Handler
  pub to : Handler
  pub from_at : slice_get hs edge.from ≡ Some from
  pub to_at : slice_get hs edge.to ≡ Some to
  pub releases : releases app from to ≡ true

-- of the handlers before this one, all that they pend, and of this one those before another
pub record AreEdgesBefore (app : App) (hs : List Handler) (from to : ℕ) (edges : List Edge) : Type 0 where
  pub sound : AllByRecursion (IsEdge app hs) edges
  pub complete : (edge : Edge) → IsEdge app hs edge → edge.from < from → Contains edges edge
  pub begun : (edge : Edge) → IsEdge app hs edge → edge.from ≡ from → edge.to < to → Contains edges edge

-- all that handlers pend
pub record AreEdges (app : App) (hs : List Handler) (edges : List Edge) : Type 0 where
  pub sound : AllByRecursion (IsEdge app hs) edges
  pub complete : (edge : Edge) → IsEdge app hs edge → Contains edges edge

-- a path over edges, by places
pub data Walks (edges : List Edge) : ℕ → ℕ → Type 0 where
  Stays : (n : ℕ) → Walks edges n n
  Onward : (edge : Edge) (n : ℕ) → Contains edges edge → Walks edges edge.to n → Walks edges edge.from n

-- the edges are between so many places
abbrev pub AreWithin : ℕ → List Edge → Type 0
AreWithin count edges = AllByRecursion (λ edge. (edge.from < count) × (edge.to < count)) edges

-- a place is flagged
abbrev pub is_flagged : List Bool → ℕ → Bool
is_flagged flags n = slice_index_or flags n false

-- each flagged place is reached from this one
abbrev pub AreOnWalks : List Edge → ℕ → List Bool → Type 0
AreOnWalks edges root flags = (n : ℕ) → is_flagged flags n ≡ true → Walks edges root n

-- no edge leads from a flagged place to one that is not
abbrev pub AreClosed : List Edge → List Bool → Type 0
AreClosed edges flags =
    AllByRecursion (λ edge. is_flagged flags edge.from ≡ true → is_flagged flags edge.to ≡ true) edges

-- this place alone is flagged
pub record IsOnly (count root : ℕ) (flags : List Bool) : Type 0 where
  pub long : length flags ≡ count
  pub alone : (n : ℕ) → is_flagged flags n ≡ true → n ≡ root
  pub itself : root < count → is_flagged flags root ≡ true

-- flagged are just the places that are reached from this one
pub record AreReached (edges : List Edge) (count root : ℕ) (flags : List Bool) : Type 0 where
  pub long : length flags ≡ count
  pub sound : AreOnWalks edges root flags
  pub complete : (n : ℕ) → Walks edges root n → is_flagged flags n ≡ true

-- the flags of a row, where there is one
abbrev pub row_flags : Option (Vec Bool Global) → List Bool
row_flags None = []
row_flags (Some flags) = flags.items

-- in the row of a place another is flagged
abbrev pub is_marked : List (Vec Bool Global) → ℕ → ℕ → Bool
is_marked all from to = is_flagged (row_flags (slice_get all from)) to

-- for each place the flags of those that are reached from it
pub record AreAllReached (edges : List Edge) (count : ℕ) (all : List (Vec Bool Global)) : Type 0 where
  pub long : length all ≡ count
  pub rows : (root : ℕ) → root < count → AreReached edges count root (row_flags (slice_get all root))

-- the handler that stands last in the order, of all those before a place that are marked from one and to another
pub record IsLowestBefore (hs : List Handler) (all : List (Vec Bool Global)) (from to place lowest : ℕ) : Type 0 where
  pub there : lowest < length hs
  pub before : is_marked all from lowest ≡ true
  pub behind : is_marked all lowest to ≡ true
  pub last : (n : ℕ) (low h : Handler) → n < place → slice_get hs lowest ≡ Some low → slice_get hs n ≡ Some h
      → is_marked all from n ≡ true → is_marked all n to ≡ true → is_at low h ≡ true
