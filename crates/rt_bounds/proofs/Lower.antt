-- Where fewer sections need be open more is come to.
use Rattle.std.proofs.Common.{◌≤◌, ℕ, arith}
use Rattle.rt_code.specs.Image.{Image}
use Rattle.rt_points.specs.Point.{Point}
use Rattle.rt_bounds.specs.Ways.{Goes, Comes, Here, Further, ComesToLoop}

pub goes_lower : (img : Image) (d e : ℕ) → e ≤ d → (p q : Point) → Goes img d p q → Goes img e p q
goes_lower img d e low p q goes =
    let inside = goes.inside in
    record { leads = goes.leads; owner = goes.owner; inside = omega (arith, inside, low) }

pub comes_lower : (img : Image) (d e : ℕ) → e ≤ d → (p q : Point) → Comes img d p q → Comes img e p q
comes_lower img d e low p q (Here same) = Here same
comes_lower img d e low p q (Further s t u goes rest) =
    Further s t u (goes_lower img d e low s t goes) (comes_lower img d e low t u rest)

pub loop_lower : (img : Image) (d e : ℕ) → e ≤ d → (p : Point) (a : ℕ) → ComesToLoop img d p a → ComesToLoop img e p a
loop_lower img d e low p a loop = record {
  turn = loop.turn;
  at = loop.at;
  comes = comes_lower img d e low p loop.turn loop.comes;
  next = loop.next;
  goes = goes_lower img d e low loop.turn loop.next loop.goes;
  again = comes_lower img d e low loop.next loop.turn loop.again;
}
