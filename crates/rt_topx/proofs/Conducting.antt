-- What a text of `rticx` is refused by, and with which texts each command begins.
use Rattle.std.proofs.Common.{◌≡◌, ◌≢◌, ℕ, List, ◌∷◌, drop, refl}
use Rattle.rt_app.specs.Tree.{App}
use Rattle.rt_build.specs.Accepted.{IsApplication}
use Rattle.rt_board.specs.Board as boards
use Rattle.rt_target.specs.Reading.{IsBoardOf}
use Rattle.rt_top.specs.Kinds as first_kind
use Rattle.rt_top.specs.Program.{Inputs}
use Rattle.rt_top.specs.Rtic.{rtic_program}
use Rattle.rt_top.specs.Inside.Using.{Use, IsNotRead, refusal, stop}
use Rattle.rt_top.specs.declared.reply.Reply.{Reply}
use Rattle.rt_topx.specs.declared.command.Command.{Command}
use Rattle.rt_topx.specs.declared.command.Command.TheVariants as command
use Rattle.rt_topx.specs.Kinds.{kinds_of}
use Rattle.rt_topx.specs.Kinds as kind
use Rattle.rt_topx.specs.Inside.Beside.{command_of}
use Rattle.rt_topx.specs.declared.decide.Beside.{Beside}
use Rattle.rt_topx.specs.declared.decide.Beside.TheVariants as beside
use Rattle.rt_topx.specs.Refusal.{RefusesBeside}
use Rattle.rt_topx.specs.Rticx.{rticx_program}

-- no application was read, as rt_top tells it
pub not_application : (t : Inputs) (gave : List ℕ) (Does : ℕ → Use → Type 0) (r : Reply)
    → IsNotRead rtic_program first_kind.Application gave gave Does r
    → IsNotRead rticx_program kind.Application t gave Does r
not_application t gave Does r (refusal ended line whole is) = refusal ended line whole is
not_application t gave Does r (stop ended stops) = stop ended stops

-- likewise no listing
pub not_listing : (t : Inputs) (gave : List ℕ) (Does : ℕ → Use → Type 0) (r : Reply)
    → IsNotRead rtic_program first_kind.Listing gave gave Does r
    → IsNotRead rticx_program kind.Listing t gave Does r
not_listing t gave Does r (refusal ended line whole is) = refusal ended line whole is
not_listing t gave Does r (stop ended stops) = stop ended stops

-- so is one over an application and beside a board
pub refused_beside : {R : Type 0} {IsRefused : App → boards.Board → List ℕ → R → Type 0} {Says : R → List ℕ → Type 0}
    {text beside more line : List ℕ} (app : App) → IsApplication text app → (board : boards.Board)
    → IsBoardOf app beside board → (r : R) → IsRefused app board more r → Says r line
    → RefusesBeside IsRefused Says text beside more line
refused_beside app is board of_board r refused says = record {
  app = app;
  of_text = is;
  board = board;
  of_board = of_board;
  refusal = r;
  refused = refused;
  says = says;
}

-- all commands but three begin with an application, and those with a third text go on with a board
pub begins : (c : Command) → c ≢ command.Why → c ≢ command.Bounds → c ≢ command.TimedBounds
    → kinds_of c ≡ kind.Application ∷ drop 1 (kinds_of c)
begins command.Run why bounds timed = refl
begins command.Audit why bounds timed = refl
begins command.Live why bounds timed = refl
begins command.Native why bounds timed = refl
begins command.Why why bounds timed = absurd (why refl)
begins command.Cycles why bounds timed = refl
begins command.Bounds why bounds timed = absurd (bounds refl)
begins command.TimedBounds why bounds timed = absurd (timed refl)
begins command.Respond why bounds timed = refl

pub goes_on : (b : Beside) → drop 1 (kinds_of (command_of b)) ≡ kind.Board ∷ drop 2 (kinds_of (command_of b))
goes_on beside.Run = refl
goes_on beside.Audit = refl
goes_on beside.Live = refl
