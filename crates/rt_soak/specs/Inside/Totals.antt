-- What the runs of all workers count up to.
use Rattle.std.specs.Prelude.{◌≡◌, ◌*◌, ◌≤◌, List, [], length, fold, Result, Ok, Err, Vec}
use Rattle.std.specs.Global.{Global}
use Rattle.std.specs.List.{AllByRecursion}
use Rattle.rt_ids.specs.declared.limits.TheConstants.{SCRIPT_EVENTS}
use Rattle.rt_ids.specs.declared.memory.NoMemory.{NoMemory}
use Rattle.rt_count.specs.Joining.{joined_summary, CountsAtMost}
use Rattle.rt_count.specs.declared.summary.Summary.{Summary}
use Rattle.rt_soak.specs.declared.run.Run.{Run}
use Rattle.rt_soak.specs.declared.soaking.TheConstants.{MOST_RUNS}

-- a summary with runs behind it, one after another
abbrev pub summary_with_runs : Summary → List Run → Summary
summary_with_runs s runs = fold (λ before run. joined_summary before run.summary) s runs

-- one run, with no more of each thing than a script has events
pub record IsSmall (run : Run) : Type 0 where
  pub one : run.summary.runs ≡ 1
  pub within : CountsAtMost SCRIPT_EVENTS run.summary

-- so many runs have no more of each thing than so many scripts have events
abbrev pub IsBounded : Summary → Type 0
IsBounded s = CountsAtMost (s.runs * SCRIPT_EVENTS) s

-- what a worker answers: its runs, where it did not want memory
abbrev pub WorkerRuns : Type 0
WorkerRuns = Result (Vec Run Global) NoMemory

-- the runs of a worker, and none where it wanted memory
abbrev pub runs_in : WorkerRuns → List Run
runs_in (Ok runs) = runs.items
runs_in (Err e) = []

-- a worker did not want memory
abbrev pub IsThere : WorkerRuns → Type 0
IsThere (Ok runs) = Unit {0}
IsThere (Err e) = ⊥

-- the runs of a worker are no more than those of all may be
abbrev pub AreFew : WorkerRuns → Type 0
AreFew (Ok runs) = (length runs.items ≤ MOST_RUNS) × AllByRecursion IsSmall runs.items
AreFew (Err e) = Unit {0}
