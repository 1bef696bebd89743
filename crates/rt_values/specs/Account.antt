-- How many requests were raised and merged by some calls, and how many words they found.
use Rattle.std.specs.Prelude.{ℕ, Bool, true, false, List, count_by, Option, Some, None}
use Rattle.rt_values.specs.declared.call.Given.TheVariants.{Raised, Merged}
use Rattle.rt_values.specs.declared.call.Call.{Call}
use Rattle.rt_values.specs.declared.call.Call.TheVariants.{Give, Take}

-- whether the call gave where no word waited, and so raised the request
abbrev pub raises : Call → Bool
raises (Give word Raised) = true
raises (Give word Merged) = false
raises (Take found) = false

-- whether the call gave where a word waited, so that its word took the place of that one
abbrev pub merges : Call → Bool
merges (Give word Raised) = false
merges (Give word Merged) = true
merges (Take found) = false

-- whether the call took a word
abbrev pub finds : Call → Bool
finds (Give word answer) = false
finds (Take None) = false
finds (Take (Some word)) = true

-- how many of these calls gave where no word waited
abbrev pub raised_count : List Call → ℕ
raised_count calls = count_by raises calls

-- how many of these calls gave where a word waited
abbrev pub merged_count : List Call → ℕ
merged_count calls = count_by merges calls

-- how many of these calls found a word
abbrev pub found_count : List Call → ℕ
found_count calls = count_by finds calls

-- 1 where a word waits, else 0
abbrev pub waiting_count : Option ℕ → ℕ
waiting_count None = 0
waiting_count (Some word) = 1
