-- What is claimed of canonical texts: each is read as its tree.
use Rattle.std.specs.Prelude.{◌≡◌, ◌≤◌, length}
use Rattle.rt_ids.specs.declared.limits.TheConstants.{TEXT_BYTES}
use Rattle.rt_ast.specs.Tree.{App}
use Rattle.rt_ast.specs.Canonical.{canonical}
use Rattle.rt_ast.specs.Bare.{bare}
use Rattle.rt_ast.specs.Printable.{IsPrintable}
use Rattle.rt_grammar.specs.Text.{IsReadAs, IsText}

-- the canonical text is read as the tree, offsets aside
abbrev pub ReadsBack : App → Type 0
ReadsBack app = (u : App) × IsReadAs (canonical app) u × (bare u ≡ bare app)

-- where the canonical text is no longer than a text may be, it is the text of an application
abbrev pub IsTextAgain : App → Type 0
IsTextAgain app = length (canonical app) ≤ TEXT_BYTES → (u : App) × IsText (canonical app) u × (bare u ≡ bare app)

-- the canonical text of each printable application is read as its tree, offsets aside
abbrev pub CanonicalTextsAreReadAsTheirTrees : Type 0
CanonicalTextsAreReadAsTheirTrees = (app : App) → IsPrintable app → ReadsBack app × IsTextAgain app
