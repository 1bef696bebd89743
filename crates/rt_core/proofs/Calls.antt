-- Calls of bodies on the frames are calls of bodies on the core.
use Rattle.std.proofs.Common.{◌≡◌, ℕ, ◌+◌, ◌/◌, ◌&&◌, Bool, true, not, nat_le, if◌then◌else◌, List, [], ◌∷◌}
use Rattle.std.proofs.Common.{is_none, Some, None, slice_get, refl, sym, ap, ◌∙◌}
use Rattle.rt_ids.specs.Lists.{is_empty}
use Rattle.rt_code.specs.Image.{Image}
use Rattle.rt_code.specs.declared.image.BodyRow.{BodyRow}
use Rattle.rt_code.specs.declared.processor.Trap.TheVariants as trap
use Rattle.rt_code.specs.Stack.{arguments_fit}
use Rattle.rt_context.specs.Frames.{Frames}
use Rattle.rt_context.specs.Moves as moves
use Rattle.rt_core.specs.Core.{Context, Core, frames_of, saved_contexts}
use Rattle.rt_core.specs.Outcome.{Outcome, Trapped, Done}
use Rattle.rt_core.specs.Transfer as transfer
use Rattle.rt_core.proofs.Contexts.{used_is}

pub room_alike : (img : Image) (c : Core) (n : ℕ) → moves.has_room (frames_of img c) n ≡ transfer.has_room img c n
room_alike img c n = ap (λ m. nat_le (m + n) (img.stack_bytes / 4)) (used_is img c)

emptiness_alike : (below : List Context) → is_empty (saved_contexts below) ≡ is_empty below
emptiness_alike [] = refl
emptiness_alike (x ∷ below) = refl

may_alike : (img : Image) (c : Core) → moves.may_call (frames_of img c) ≡ transfer.may_call c
may_alike img c = ap (λ e. is_none c.caller && (not e && not (is_empty c.processor.slots))) (emptiness_alike c.below)

fits_alike : (img : Image) (c : Core) (row : BodyRow) (from : ℕ) → moves.call_fits (frames_of img c) row from
    ≡ transfer.call_fits img c row from
fits_alike img c row from = ap (λ r. arguments_fit c.processor.slots row from && r) (room_alike img c row.frame)

-- what comes of a call of a row that is there
abbrev pub outcome_of : Core → BodyRow → ℕ → Bool → Outcome
outcome_of c body from fits = if fits then Done (transfer.core_after_call c body from) None else Trapped c trap.Stack

pub call_is : (img : Image) (c : Core) (f : Frames) (row from : ℕ) (body : BodyRow) → f ≡ frames_of img c
    → moves.may_call f ≡ true
    → slice_get img.bodies row ≡ Some body → transfer.call img c row from
    ≡ outcome_of c body from (moves.call_fits f body from)
call_is img c f row from body is may found =
    ap (λ b. if b then transfer.call_row img c (slice_get img.bodies row) from else Trapped c trap.Stack)
    (sym (may_alike img c) ∙ ap moves.may_call (sym is) ∙ may)
    ∙ ap (λ o. transfer.call_row img c o from) found
    ∙ ap (outcome_of c body from) (sym (fits_alike img c body from) ∙ ap (λ g. moves.call_fits g body from) (sym is))
