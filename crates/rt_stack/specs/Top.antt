-- What a region is once a loan of its last words has ended. In the architecture (ARMv7-M Architecture Reference
-- Manual, section B1.5) a handler's code can write at any address of the stack. Here, and in the code, a frame is
-- written through a loan of its own words alone.
use Rattle.std.specs.Prelude.{ℕ, List, ◌++◌}
use Rattle.std.specs.List.{refill}
use Rattle.std.specs.Borrow.{Lends, MutBor, Fml, Array, u32}
use Rattle.rt_stack.specs.Region.{Region, top, below}
use Rattle.rt_stack.specs.contracts.region.Region.{the_row}

-- The last so many words are these. A loan keeps its length; a list of another length would be cut, or filled up with
-- the words that stood there.
abbrev pub with_top : Region → ℕ → List ℕ → Region
with_top r n ws = record r { words = below r n ++ refill n (top r n) ws }

-- the region ends with the words that the loan ends with, and below them as it was
abbrev pub LendsTop : MutBor Region → ℕ → MutBor (List ℕ) → Fml
LendsTop r n loan = Lends the_row (Array u32 0) r loan (with_top r.now n)
