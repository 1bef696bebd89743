-- What a command replies, and how it ends: with what is due, as far as the sink took it, or why the program stops.
use Rattle.std.specs.Prelude.{◌≡◌, ℕ, ◌⊎◌, List, [], Option, Some, None}
use Rattle.rt_ids.specs.declared.refusal.Fault.{Fault}
use Rattle.rt_ids.specs.declared.status.Status.{Status}
use Rattle.rt_ids.specs.declared.status.Status.TheVariants as status
use Rattle.rt_outside.specs.Bytes.{Took}
use Rattle.rt_ast.specs.Tree as tree
use Rattle.rt_app.specs.Tree.{App}
use Rattle.rt_build.specs.Accepted.{IsBroken}
use Rattle.rt_code.specs.Image.{Image}
use Rattle.rt_listing.specs.Listing.{listing}
use Rattle.rt_listing.specs.Numbers.{HasTypedNumbers}
use Rattle.rt_top.specs.Program.{Program, Inputs}
use Rattle.rt_top.specs.Refusal.{refusal_line}
use Rattle.rt_top.specs.Ends.{Wrote}
use Rattle.rt_top.specs.Outputs.{IsGoodOf}
use Rattle.rt_top.specs.Inside.Replies.{RepliesOrStops, Replies, WantsMemory}
use Rattle.rt_top.specs.Inside.Using.{Use, Whole, Sources, IsNotRead, AreRead}
use Rattle.rt_top.specs.declared.reply.Reply.{Reply}

-- the reply is with this status, and this is so of its text; or memory was wanted
abbrev pub Tells : Status → (List ℕ → Type 0) → Reply → Type 0
Tells wanted P r = Replies (λ ended bytes. (ended ≡ wanted) × P bytes) r

-- the line refuses the text of this tree by the first rule that it breaks
pub record IsBrokenBy (text : List ℕ) (a : tree.App) (line : List ℕ) : Type 0 where
  pub fault : Fault
  pub broken : IsBroken text a fault
  pub says : line ≡ refusal_line fault

-- the bytes are the listing of a good image of the application, and of no other
pub record Lists (app : App) (bytes : List ℕ) : Type 0 where
  pub image : Image
  pub good : IsGoodOf app image
  pub numbers : HasTypedNumbers image
  pub says : bytes ≡ listing image

-- How a command ends: some bytes were written as far as the sink took them, and this is so of them and of their status;
-- or memory was wanted, and the sink took nothing.
abbrev pub EndsAs : (Status → List ℕ → Type 0) → List ℕ → List ℕ → ℕ → ℕ → Status → Type 0
EndsAs Said before after faults_before faults_after result =
    ((ended : Status) × (bytes : List ℕ) × Said ended bytes
    × Wrote before after faults_before faults_after ended result bytes)
    ⊎ (WantsMemory result × Took before after [])

-- a reply was written as far as the sink took it, or there was nothing to write
abbrev pub Finishes : List ℕ → List ℕ → ℕ → ℕ → Reply → Status → Type 0
Finishes before after faults_before faults_after r result =
    RepliesOrStops (λ ended bytes. Wrote before after faults_before faults_after ended result bytes)
    (λ ended. (result ≡ ended) × Took before after []) r

-- the reply: the output where each text was read, or that to the one that was not
abbrev pub IsReplyTo : (p : Program) → p.Command → Inputs → Option Reply → Reply → Type 0
IsReplyTo p c t None r = Replies (p.IsOutputOf c t) r
IsReplyTo p c t (Some ended) r = r ≡ ended

-- what a command does with the sources that are left to it, for texts of the kinds that are left, and what it replies
pub record Answers (p : Program) (c : p.Command) (kinds : List p.Kind) (t : Inputs) (sources : Sources) (r : Reply)
    : Type 0 where
  pub end : Option Reply
  pub read : AreRead p kinds (p.over t) sources end
  pub replies : IsReplyTo p c t end r

-- what a command does with a source that gave this, for a text of the last of its kinds, and what it replies
abbrev pub AnswersOne : (p : Program) → p.Command → p.Kind → Inputs → List ℕ → (ℕ → Use → Type 0) → Reply → Type 0
AnswersOne p c kind t gave Does r =
    (Does (p.most_bytes kind) Whole × p.IsOfKind kind (p.over t) gave × Replies (p.IsOutputOf c t) r)
    ⊎ IsNotRead p kind (p.over t) gave Does r

-- and how it ends
abbrev pub ConductsOne : (p : Program) → p.Command → p.Kind → Inputs → List ℕ → (ℕ → Use → Type 0) → List ℕ → List ℕ
    → ℕ → ℕ → Status → Type 0
ConductsOne p c kind t gave Does before after faults_before faults_after result =
    (Does (p.most_bytes kind) Whole × p.IsOfKind kind (p.over t) gave
    × EndsAs (p.IsOutputOf c t) before after faults_before faults_after result)
    ⊎ ((r : Reply) × IsNotRead p kind (p.over t) gave Does r
    × Finishes before after faults_before faults_after r result)

-- how a command ends whose reading ended so
abbrev pub EndsBy : (p : Program) → p.Command → Inputs → Option Reply → List ℕ → List ℕ → ℕ → ℕ → Status → Type 0
EndsBy p c t None before after faults_before faults_after result =
    EndsAs (p.IsOutputOf c t) before after faults_before faults_after result
EndsBy p c t (Some r) before after faults_before faults_after result =
    Finishes before after faults_before faults_after r result

-- What a command does with the sources that are left to it, for texts of the kinds that are left, and how it ends. A
-- fault of the sink is told.
pub record Conducts (p : Program) (c : p.Command) (kinds : List p.Kind) (t : Inputs) (sources : Sources)
    (before after : List ℕ) (faults_before faults_after : ℕ) (result : Status) : Type 0 where
  pub end : Option Reply
  pub read : AreRead p kinds (p.over t) sources end
  pub ends : EndsBy p c t end before after faults_before faults_after result
  pub heard : (faults_after ≡ faults_before) ⊎ (result ≡ status.Write)
