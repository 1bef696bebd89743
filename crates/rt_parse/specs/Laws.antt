-- What is claimed of texts and refusals: each list of bytes is an application's text or is refused, never both; and the
-- trees of texts are printable.
use Rattle.std.specs.Prelude.{◌⊎◌, ℕ, List}
use Rattle.rt_ids.specs.declared.refusal.Fault.{Fault}
use Rattle.rt_ast.specs.Tree.{App}
use Rattle.rt_ast.specs.Printable.{IsPrintable}
use Rattle.rt_grammar.specs.Text.{IsText, IsRefused}

-- no text of an application is refused
abbrev pub NoTextIsRefused : Type 0
NoTextIsRefused = (src : List ℕ) (app : App) (fault : Fault) → IsText src app → IsRefused src fault → ⊥

-- each list of bytes is the text of some application, or has a refusal
abbrev pub EachIsTextOrRefused : Type 0
EachIsTextOrRefused = (src : List ℕ) → ((app : App) × IsText src app) ⊎ ((fault : Fault) × IsRefused src fault)

-- the tree of every application text is printable: its canonical text is read as this tree again
abbrev pub TextsKeepLimits : Type 0
TextsKeepLimits = (src : List ℕ) (app : App) → IsText src app → IsPrintable app
