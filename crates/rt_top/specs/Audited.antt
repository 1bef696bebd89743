-- What `run`, `live` and `pair` write is what `audit` judges right: to each of these texts its answer is `yes` with the
-- number of the items of that trace, whatever the application, the script, and what the devices and cores did.
use Rattle.std.specs.Prelude.{◌≡◌, ℕ, List, ◌++◌, codes, decimal, length}
use Rattle.rt_ids.specs.declared.status.Status.TheVariants as status
use Rattle.rt_core.specs.Trace.{trace}
use Rattle.rt_dual.specs.Course.{first_events, second_events, course_items}
use Rattle.rt_live.specs.Interleaving.{turns, interleaving}
use Rattle.rt_script.specs.Script.{events}
use Rattle.rt_top.specs.Outputs.{IsRun, IsLive, IsAudited}
use Rattle.rt_top.specs.Paired.{IsPaired}

-- the bytes are audited as a run of so many items
abbrev pub IsAuditedRight : List ℕ → List ℕ → ℕ → Type 0
IsAuditedRight text bytes items = IsAudited text bytes status.Done (codes "yes " ++ decimal items ++ codes "\n")

-- what `run` writes
abbrev pub RunsAreAudited : Type 0
RunsAreAudited =
    (text more bytes : List ℕ) (r : IsRun text more bytes)
    → IsAuditedRight text bytes (length (trace r.image (events r.script)))

-- what `live` writes: the trace, and behind it the account, which an audit passes over
abbrev pub LivesAreAudited : Type 0
LivesAreAudited =
    (text more bytes : List ℕ) (l : IsLive text more bytes)
    → IsAuditedRight text bytes (length (trace l.image (interleaving (turns l.script) l.live.found)))

-- what `pair` writes of each core, behind the line that says which core it is
pub record AreAuditedApart (text more bytes : List ℕ) (first second : ℕ) : Type 0 where
  pub one : List ℕ
  pub two : List ℕ
  pub parts : bytes ≡ (codes "core 1\n" ++ one) ++ (codes "core 2\n" ++ two)
  pub one_is_right : IsAuditedRight text one first
  pub two_is_right : IsAuditedRight more two second

-- what `pair` writes, of both cores
abbrev pub PairsAreAudited : Type 0
PairsAreAudited =
    (text more last bytes : List ℕ) (p : IsPaired text more last bytes)
    → AreAuditedApart text more bytes (length (course_items p.first_image (first_events p.script) p.written.one))
    (length (course_items p.second_image (second_events p.script) p.written.two))
