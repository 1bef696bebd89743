-- Each part of an image that `build` makes is closed: control stays within it.
use Rattle.std.proofs.Common.{◌≡◌, ℕ, suc, ◌-◌, ◌+◌, ◌≤◌, Bool, true, false, List, [], ◌∷◌, ◌++◌, length, length-append}
use Rattle.std.proofs.Common.{slice_get, Contains, Option, Some, None, IsSome, refl, sym, ap, subst, ◌∙◌, arith}
use Rattle.std.proofs.Common.{if◌then◌else◌}
use Rattle.rt_lemmas.proofs.Membership.{any_one}
use Rattle.rt_ids.specs.Lists.{is_some_and}
use Rattle.rt_ids.specs.declared.ids.BodyId.TheVariants as body
use Rattle.rt_app.specs.declared.app.Mono.{Mono}
use Rattle.rt_app.specs.Bodies.{Member, member_at}
use Rattle.rt_app.specs.Frame.{first_lock_slot}
use Rattle.rt_app.specs.Level.{is_software, is_of_level, levels}
use Rattle.rt_app.specs.Tree.{Body, App}
use Rattle.rt_code.specs.declared.instr.Instr.TheVariants as instr
use Rattle.rt_code.specs.declared.instr.Note.TheVariants as note
use Rattle.rt_gen_queue.specs.Line.{Line, plain, line_with_note}
use Rattle.rt_gen_body.specs.Form.{end_line}
use Rattle.rt_gen_body.specs.BodyCode.{context_of, threshold_of, body_blocks}
use Rattle.rt_gen_disp.proofs.Lasts.{level_served}
use Rattle.rt_gen_timer.specs.TimerCode.{queue_of}
use Rattle.rt_build.specs.Built.{idle_code, mono_code, part_code}
use Rattle.rt_build.specs.Order.{CodePart, OfBody, OfLevel, OfTimer}
use Rattle.rt_native_runs.proofs.Inside.{Part, IsFine, Fine, none, line_then, both, IsEnd, IsClosed}
use Rattle.rt_native_runs.proofs.Inside.{ends_behind}
use Rattle.rt_native_runs.proofs.InsideBodies.{block_fine}
use Rattle.rt_native_runs.proofs.InsideHandlers.{dispatcher_closed, timer_closed}
use Rattle.rt_native_runs.proofs.Apart.{IsKnown}

-- bodies are called in dispatchers alone
abbrev pub is_dispatcher : CodePart → Bool
is_dispatcher (OfBody id) = false
is_dispatcher (OfLevel p) = true
is_dispatcher OfTimer = false

-- so many lines from an address on are a part of the code
abbrev pub part_of_lines : App → Bool → ℕ → List Line → Part
part_of_lines app calls from own = record {
  first = from;
  last = from + length own - 1;
  timer = (queue_of app).irq;
  calls = calls;
}

module _ (app : App) where
  blocks_fine : (p : Part) → (queue_of app).irq ≡ p.timer → (o : Option Member) (entry : ℕ) → p.first ≤ entry
      → entry + length (body_blocks app o entry) ≤ p.last → Fine p (body_blocks app o entry)
  blocks_fine p timed None entry front back = none p
  blocks_fine p timed (Some m) entry front back =
      block_fine p (context_of app m) timed m.body.block (threshold_of app m) (first_lock_slot m.args m.body) entry
      front back

  -- the line that ends a task
  task_ends : (p : Part) (n entry : ℕ)
      → IsFine p (end_line app (body.Task n) entry).0 × IsEnd (end_line app (body.Task n) entry).0
  task_ends p n entry = go (is_some_and is_software (slice_get app.tasks n))
    where
      go : (b : Bool)
          → IsFine p (if b then line_with_note instr.Back (note.End (body.Task n)) else plain instr.Ret).0
          × IsEnd (if b then line_with_note instr.Back (note.End (body.Task n)) else plain instr.Ret).0
      go true = (tt, tt)
      go false = (tt, tt)

  task_closed : (n from : ℕ) (own : List Line) → own ≡ part_code app (OfBody (body.Task n)) from
      → IsClosed (part_of_lines app false from own) own
  task_closed n from own are =
      let p : Part = part_of_lines app false from own in
      let member : Option Member = member_at app (body.Task n) in
      let blocks : List Line = body_blocks app member from in
      let end : Line = end_line app (body.Task n) from in
      let is : own ≡ blocks ++ end ∷ [] = are in
      let long : length own ≡ length blocks + 1 =
      ap (λ (ls : List Line). length ls) is ∙ length-append blocks (end ∷ []) in
      let last = task_ends p n from in
      subst (λ (ls : List Line). IsClosed p ls) (sym is)
      (record {
        fine = both p blocks (end ∷ []) (blocks_fine p refl member from (omega arith) (omega (arith, long)))
            (line_then p end [] last.0 (none p));
        ends = ends_behind blocks (end ∷ []) last.1;
      })

  level_closed : (level from : ℕ) (own : List Line) → Contains (levels app) level
      → own ≡ part_code app (OfLevel level) from → IsClosed (part_of_lines app true from own) own
  level_closed level from own is are =
      let one = any_one (is_of_level level) app.tasks (level_served app level is) in
      let closed : (p : Part) → p.calls ≡ true → p.first ≤ from → from + length own ≤ suc p.last → IsClosed p own =
      λ p calls front back.
      subst (λ (ls : List Line). IsClosed p ls) (sym are)
      (dispatcher_closed p calls app level from one.0 one.1 one.2 one.3 front
      (subst (λ (ls : List Line). from + length ls ≤ suc p.last) are back)) in
      closed (part_of_lines app true from own) refl (omega arith) (omega arith)

  timer_is_closed : (o : Option Mono) (from : ℕ) (own : List Line) → IsSome o → own ≡ mono_code app o from
      → IsClosed (part_of_lines app false from own) own
  timer_is_closed None from own some are = absurd (cc)
  timer_is_closed (Some mono) from own some are =
      let p : Part = part_of_lines app false from own in
      subst (λ (ls : List Line). IsClosed p ls) (sym are)
      (timer_closed p app refl mono.priority from (omega arith)
      (subst (λ (ls : List Line). from + length ls ≤ suc p.last) are (omega arith)))

  -- a part that a table leads to
  pub part_closed : (part : CodePart) (from : ℕ) (own : List Line) → IsKnown app part → own ≡ part_code app part from
      → IsClosed (part_of_lines app (is_dispatcher part) from own) own
  part_closed (OfBody body.Init) from own known are = absurd known
  part_closed (OfBody body.Idle) from own known are = absurd known
  part_closed (OfBody (body.Task n)) from own known are = task_closed n from own are
  part_closed (OfLevel level) from own known are = level_closed level from own known are
  part_closed OfTimer from own known are = timer_is_closed app.mono from own known are

  -- what `idle` is, where it is declared and where it is not, in a part that begins before it
  idle_closed : (p : Part) → (queue_of app).irq ≡ p.timer → (o : Option Body) (entry : ℕ) → p.first ≤ entry
      → entry + length (idle_code app o entry) ≤ suc p.last → IsClosed p (idle_code app o entry)
  idle_closed p timed None entry front back = record { fine = record { claimed = tt }; ends = tt }
  idle_closed p timed (Some b) entry front back =
      let member : Option Member = member_at app body.Idle in
      let blocks : List Line = body_blocks app member entry in
      let end : Line = end_line app body.Idle entry in
      let long = length-append blocks (end ∷ []) in
      record {
        fine = both p blocks (end ∷ []) (blocks_fine p timed member entry front (omega (arith, long, back)))
            (line_then p end [] (record { front = front; back = omega (arith, long, back) }) (none p));
        ends = ends_behind blocks (end ∷ []) tt;
      }

  -- `init` and, behind it, `idle`
  pub thread_closed : (init idle : List Line) → init ≡ part_code app (OfBody body.Init) 0
      → idle ≡ part_code app (OfBody body.Idle) (length init)
      → IsClosed (part_of_lines app false 0 (init ++ idle)) (init ++ idle)
  thread_closed init idle init_is idle_is =
      let member : Option Member = member_at app body.Init in
      let blocks : List Line = body_blocks app member 0 in
      let end : Line = end_line app body.Init 0 in
      let is : init ≡ blocks ++ end ∷ [] = init_is in
      let long : length init ≡ length blocks + 1 =
      ap (λ (ls : List Line). length ls) is ∙ length-append blocks (end ∷ []) in
      let whole = length-append init idle in
      let closed : (p : Part) → (queue_of app).irq ≡ p.timer → p.first ≡ 0
      → length init + length idle ≤ suc p.last → IsClosed p (init ++ idle) =
      λ p timed first back.
      let behind : IsClosed p idle =
      subst (λ (ls : List Line). IsClosed p ls) (sym idle_is)
      (idle_closed p timed app.idle (length init) (omega (arith, first))
      (subst (λ (ls : List Line). length init + length ls ≤ suc p.last) idle_is back)) in
      let front : Fine p init =
      subst (λ (ls : List Line). Fine p ls) (sym is)
      (both p blocks (end ∷ [])
      (blocks_fine p timed member 0 (omega (arith, first)) (omega (arith, long, back)))
      (line_then p end [] tt (none p))) in
      record { fine = both p init idle front behind.fine; ends = ends_behind init idle behind.ends } in
      closed (part_of_lines app false 0 (init ++ idle)) refl refl (omega (arith, whole))
