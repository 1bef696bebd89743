-- Ways through code: instructions that can run one after another, whatever the data are, and loops that a way comes to.
-- They are the paths of a control flow graph, whose longest is the bound of an analysis of execution times without the
-- hardware (Wilhelm and others, The Worst-Case Execution-Time Problem, 2008). An instruction is one core step. The code
-- has marks on addresses and a trail.
use Rattle.std.specs.Prelude.{◌≡◌, ℕ, suc, ◌≤◌, length}
use Rattle.rt_code.specs.Image.{Image}
use Rattle.rt_points.specs.Leading.{LeadsTo}
use Rattle.rt_points.specs.Point.{Point}

-- a point leads to another of the same owner, where at least so many sections are open
pub record Goes (img : Image) (depth : ℕ) (p q : Point) : Type 0 where
  pub leads : LeadsTo img p q
  pub owner : q.owner ≡ p.owner
  pub inside : depth ≤ length q.inside

-- so many steps can be taken one after another from a point on, where all points but the first have at least so many
-- sections open
pub data Way (img : Image) (depth : ℕ) : Point → ℕ → Type 0 where
  -- the step at the point alone
  Stops : (p : Point) → Way img depth p 1
  -- and a way from a point that it leads to
  Goes_on : (p : Point) → (q : Point) → (n : ℕ) → Goes img depth p q → Way img depth q n → Way img depth p (suc n)

-- a point is come to from another, or is the same
pub data Comes (img : Image) (depth : ℕ) : Point → Point → Type 0 where
  Here : (p : Point) → Comes img depth p p
  Further : (p : Point) → (q : Point) → (r : Point) → Goes img depth p q → Comes img depth q r → Comes img depth p r

-- from a point a loop is come to: a point at this address, which is come to from itself again
pub record ComesToLoop (img : Image) (depth : ℕ) (p : Point) (address : ℕ) : Type 0 where
  pub turn : Point
  pub at : turn.address ≡ address
  pub comes : Comes img depth p turn
  pub next : Point
  pub goes : Goes img depth turn next
  pub again : Comes img depth next turn
