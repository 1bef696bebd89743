-- The line that refuses an application text: the place, the number of the refusal, and what is wrong.
use Rattle.std.specs.Prelude.{◌≡◌, ℕ, List, ◌++◌, codes, decimal}
use Rattle.rt_ids.specs.declared.limit.Limit.{Limit}
use Rattle.rt_ids.specs.declared.limit.Limit.TheVariants as limit
use Rattle.rt_ids.specs.declared.refusal.Fault.{Fault}
use Rattle.rt_ids.specs.declared.refusal.Refusal.{Refusal}
use Rattle.rt_ids.specs.declared.refusal.Refusal.TheVariants as refusal
use Rattle.rt_ids.specs.declared.rule.Rule.{Rule}
use Rattle.rt_ids.specs.declared.rule.Rule.TheVariants as rule
use Rattle.rt_grammar.specs.Text.{IsRefused}
use Rattle.rt_build.specs.Accepted.{IsRefusedText}

-- the word for a limit
abbrev pub limit_word : Limit → List ℕ
limit_word limit.Tasks = codes "tasks"
limit_word limit.Shared = codes "shared"
limit_word limit.Locals = codes "locals"
limit_word limit.Interrupts = codes "interrupts"
limit_word limit.Interrupt = codes "interrupt"
limit_word limit.Bits = codes "bits"
limit_word limit.Arguments = codes "arguments"
limit_word limit.Capacity = codes "capacity"
limit_word limit.Name = codes "name"
limit_word limit.Number = codes "number"
limit_word limit.Nesting = codes "nesting"
limit_word limit.Parentheses = codes "parentheses"
limit_word limit.Depth = codes "depth"
limit_word limit.Statements = codes "statements"
limit_word limit.Turns = codes "turns"

-- the number of the refusal by a rule, and its words
abbrev pub rule_words : Rule → List ℕ
rule_words rule.UnknownName = codes "E05 unknown name"
rule_words rule.DeclaredTwice = codes "E06 name declared twice"
rule_words rule.PriorityOutOfRange = codes "E07 priority out of range"
rule_words rule.InterruptUsedTwice = codes "E08 interrupt used twice"
rule_words rule.TooFewDispatchers = codes "E09 too few dispatchers"
rule_words rule.LocalInTwoTasks = codes "E10 local in two tasks"
rule_words rule.OutsideLock = codes "E11 resource outside a lock"
rule_words rule.LockedInsideItself = codes "E12 locked inside itself"
rule_words rule.SharedAndExclusive = codes "E13 shared and exclusive"
rule_words rule.LockFreeAtTwoPriorities = codes "E14 lock_free at two priorities"
rule_words rule.NotSoftware = codes "E15 not a software task"
rule_words rule.NoMonotonic = codes "E16 no monotonic"
rule_words rule.TooLongBody = codes "E17 too long a body"
rule_words rule.NotWritable = codes "E18 not writable"

-- the number of a refusal, and its words
abbrev pub refusal_words : Refusal → List ℕ
refusal_words refusal.TooLong = codes "E01 text too long"
refusal_words refusal.Foreign = codes "E02 foreign byte"
refusal_words refusal.Syntax = codes "E03 syntax"
refusal_words (refusal.Limit what) = codes "E04 limit " ++ limit_word what
refusal_words (refusal.Rule what) = rule_words what

-- the line of a fault
abbrev pub refusal_line : Fault → List ℕ
refusal_line fault =
    decimal fault.place.line ++ codes ":" ++ decimal fault.place.col ++ codes " "
    ++ refusal_words fault.refusal ++ codes "\n"

-- the line refuses a text that is too long, not in the grammar, or past a limit: by what is met first
abbrev pub RefusesText : List ℕ → List ℕ → Type 0
RefusesText text line = (fault : Fault) × IsRefused text fault × (line ≡ refusal_line fault)

-- or one that breaks a rule: by the first that it breaks
abbrev pub RefusesApplication : List ℕ → List ℕ → Type 0
RefusesApplication text line = (fault : Fault) × IsRefusedText text fault × (line ≡ refusal_line fault)

-- or the second of two, by the same line with a word in front
abbrev pub RefusesOther : List ℕ → List ℕ → Type 0
RefusesOther text line = (own : List ℕ) × RefusesApplication text own × (line ≡ codes "second " ++ own)
