use Rattle.std.proofs.Common.{◌≡◌, ℕ, ◌+◌, ◌≤◌, ◌<◌, List, ◌++◌, length, flat_map, take, drop, get_or, refl, ap, sym}
use Rattle.std.proofs.Common.{subst, ◌∙◌, append_assoc, arith}
use Rattle.std.specs.List.{AllByRecursion}
use Rattle.std.proofs.lemmas.List.{take_all}
use Rattle.std.proofs.lemmas.Option.{slice_get-get_or}
use Rattle.rt_lemmas.proofs.Membership.{all_at}
use Rattle.rt_lemmas.proofs.Results.{on_err_from}
use Rattle.rt_lemmas.proofs.Lists.{flat_map_next}
use Rattle.rt_ids.specs.declared.limits.TheConstants.{NAME_BYTES}
use Rattle.rt_outside.specs.Bytes.{TookPrefix}
use Rattle.rt_app.specs.View.{app_of}
use Rattle.rt_run.specs.Inside.Writing.{Wrote}
use Rattle.rt_run.proofs.Taking.{part_more, wrote_none, wrote_on, wrote_cut}
use Rattle.rt_board.specs.Board.{no_board}
use Rattle.rt_board.specs.declared.board.Input.{Input}
use Rattle.rt_inputs.specs.Shown.{local_name}
use Rattle.rt_inputs.specs.Inside.Placed.{text_for}
use Rattle.rt_inputs.specs.Inside.Ran.{held_in}
use Rattle.rt_inputs.proofs.Words.{flat_rest}
use Rattle.rt_inputs.proofs.lines.put_inputs.Goals as goal

pub loop-input-init : goal.loop-input-init
loop-input-init g c = record { run = wrote_none _ c.args.held.now.items; quiet = refl }

pub put_input-requires : goal.put_input-requires
put_input-requires g c =
    let inputs : List Input = c.inputs-inputs.result.now in
    let i : ℕ = c.loop-input.input-index in
    let input : Input = c.input-item.result in
    let at : i < length inputs = omega arith in
    let named : (input : Input) → Type 0 =
    λ input. length (local_name (app_of c.args.app.now) input.local) ≤ NAME_BYTES in
    let one : named (get_or inputs i input) =
    all_at named inputs i (get_or inputs i input)
    (subst (AllByRecursion named) (sym c.inputs-inputs.ensures) c.requires) (slice_get-get_or inputs i input at) in
    subst named (sym c.input-item.is) one

pub returns-in_err-put_input-clause-err : goal.returns-in_err-put_input-clause-err
returns-in_err-put_input-clause-err g c =
    let inputs : List Input = c.inputs-inputs.result.now in
    let i : ℕ = c.loop-input.input-index in
    let input : Input = c.input-item.result in
    let at : i < length inputs = omega arith in
    let f : Input → List ℕ =
    text_for (app_of c.args.app.now) no_board (held_in c.args.registers.now) c.args.step c.args.irq in
    let held : List ℕ = c.args.held.now.items in
    let before = g.K.Sink.taken c.args.out.now in
    let after = g.K.Sink.taken c.put_input.new.out in
    let front : List ℕ = flat_map f (take i inputs) in
    let rest : List ℕ = flat_map f (drop (i + 1) inputs) in
    let part : TookPrefix before after (held ++ (front ++ f input)) =
    wrote_cut _ _ _ held _ front (f input) c.loop-input.invariant.run c.in_err-put_input.ensures.err in
    let whole : (held ++ (front ++ f input)) ++ rest ≡ held ++ flat_map f inputs =
    append_assoc held (front ++ f input) rest
    ∙ ap (λ t. held ++ t) (ap (λ t. t ++ rest) (sym (flat_map_next f inputs i input at c.input-item.is))
    ∙ sym (flat_rest f inputs (i + 1))) in
    on_err_from c.from_residual.result
    (subst (λ (is : List Input). TookPrefix before after (held ++ flat_map f is)) c.inputs-inputs.ensures
    (subst (TookPrefix before after) whole (part_more before after (held ++ (front ++ f input)) rest part)))

pub loop-input-preserved : goal.loop-input-preserved
loop-input-preserved g c =
    let inputs : List Input = c.inputs-inputs.result.now in
    let i : ℕ = c.loop-input.input-index in
    let input : Input = c.input-item.result in
    let at : i < length inputs = omega arith in
    let f : Input → List ℕ =
    text_for (app_of c.args.app.now) no_board (held_in c.args.registers.now) c.args.step c.args.irq in
    record {
      run =
          subst (Wrote (g.K.Sink.taken c.args.out.now) (g.K.Sink.taken c.put_input.new.out) c.args.held.now.items
          c.put_input.new.held.items) (sym (flat_map_next f inputs i input at c.input-item.is))
          (wrote_on _ _ _ c.args.held.now.items _ _ (flat_map f (take i inputs)) (f input) c.loop-input.invariant.run
          c.in_ok-put_input.ensures.ok);
      quiet = c.in_ok-put_input.ensures.quiet ∙ c.loop-input.invariant.quiet;
    }

pub returns-clause-ok : goal.returns-clause-ok
returns-clause-ok g c =
    let inputs : List Input = c.inputs-inputs.result.now in
    let f : Input → List ℕ =
    text_for (app_of c.args.app.now) no_board (held_in c.args.registers.now) c.args.step c.args.irq in
    let all : take c.loop-input.input-index inputs ≡ c.args.board.now.inputs =
    take_all c.loop-input.input-index inputs (omega arith) ∙ c.inputs-inputs.ensures in
    subst (λ (is : List Input). Wrote (g.K.Sink.taken c.args.out.now) (g.K.Sink.taken c.loop-input.out)
    c.args.held.now.items c.loop-input.held.items (flat_map f is)) all c.loop-input.invariant.run
