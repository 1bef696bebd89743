use Rattle.rt_live.proofs.Vocabulary.{Arrive, Asked, Tick, [], ap, event_of, event_turns, inl, inr, refl, ◌∷◌, ◌≡◌}
use Rattle.rt_live.proofs.{Looking.event_goes, Weaving.comes_by}
use Rattle.rt_live.proofs.turns.turn.Goals as goal

pub returns-in-Ticks-clause-goes : goal.returns-in-Ticks-clause-goes
returns-in-Ticks-clause-goes g c =
    event_goes c.args.line.now _ Tick (ap (λ (l : Asked). event_turns (event_of l)) c.in-Ticks.is) refl
    (comes_by (Tick ∷ []) _ _ _ _ c.send_tick.result c.send_tick.ensures.ok c.send_tick.ensures.err)

pub returns-in-Pends-clause-goes : goal.returns-in-Pends-clause-goes
returns-in-Pends-clause-goes g c =
    let is : event_of c.args.asked.now ≡ Arrive c.in-Pends.irq =
    elim c.in-Pends.is [ inl pends ↦ ap event_of pends.1 | inr device ↦ ap event_of device.2 ] in
    event_goes c.args.line.now _ (Arrive c.in-Pends.irq) (ap event_turns is) refl
    (comes_by (Arrive c.in-Pends.irq ∷ []) _ _ _ _ c.send_pend.result c.send_pend.ensures.ok c.send_pend.ensures.err)
