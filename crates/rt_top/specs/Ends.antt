-- How the call leaves its sink and a source.
use Rattle.std.specs.Prelude.{◌≡◌, ℕ, ◌⊎◌, List, Option}
use Rattle.rt_ids.specs.declared.status.Status.{Status}
use Rattle.rt_ids.specs.declared.status.Status.TheVariants as status
use Rattle.rt_outside.specs.Faults.{Rose}
use Rattle.rt_outside.specs.Bytes.{Past, Took, TookPrefix}

-- all bytes were written and the status is the wanted one, or the sink failed after a beginning of them
abbrev pub Wrote : List ℕ → List ℕ → ℕ → ℕ → Status → Status → List ℕ → Type 0
Wrote before after faults_before faults_after wanted ended bytes =
    ((ended ≡ wanted) × Took before after bytes)
    ⊎ ((ended ≡ status.Write) × Rose faults_before faults_after × TookPrefix before after bytes)

-- a source that the program did not come to: it has given nothing since, has all that it had, and no new fault
pub record IsKept {S : Type 0} (past : S → Past) (left : S → Option (List ℕ)) (faults : S → ℕ) (old new : S) : Type 0
  where
    pub gave_none : past new ≡ past old
    pub has_all : left new ≡ left old
    pub no_fault : faults new ≡ faults old
