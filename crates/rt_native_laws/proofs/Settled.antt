-- Of a frame no more words are settled than it has.
use Rattle.std.proofs.Common.{ℕ, ◌≤◌, arith}
use Rattle.std.specs.Prelude.{min}
use Rattle.rt_native_laws.specs.Moments.{Last, Began, HasRead, WasCalled, CameBack, Went, settled_words}

pub fewer : (a b : ℕ) → min a b ≤ a
fewer a b = omega arith

pub settled_within : (last : Last) (words : ℕ) → settled_words last words ≤ words
settled_within Began words = omega arith
settled_within (HasRead input word) words = omega arith
settled_within (WasCalled arguments) words = omega arith
settled_within CameBack words = omega arith
settled_within Went words = omega arith
