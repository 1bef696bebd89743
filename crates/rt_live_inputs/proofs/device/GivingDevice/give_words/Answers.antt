use Rattle.std.proofs.Common.{◌≡◌, ℕ, suc, ◌+◌, [], ◌∷◌, ◌++◌, List, refl, ap, sym, subst, ◌∙◌, arith}
use Rattle.rt_given.specs.Words.{next_source, given_words, next_word}
use Rattle.rt_given.proofs.Sources.{after_one, no_word, one_word_more, source_after, words_long}
use Rattle.rt_live_inputs.specs.Giving.{Gave}
use Rattle.rt_live_inputs.proofs.Giving.{calls_length, gave_none, gave_on, gave_one}
use Rattle.rt_live_inputs.proofs.device.GivingDevice.give_words.Goals as goal

pub loop-done-init : goal.loop-done-init
loop-done-init g c = record {
  gave = subst (λ (words : List ℕ). Gave words c.args.self.now c.args.self.now) (sym (no_word c.args.source.now))
      (gave_none c.args.self.now);
  source = refl;
}

pub give-requires-clause-room : goal.give-requires-clause-room
give-requires-clause-room g c =
    let done : ℕ = c.loop-done.done in
    let first = c.args.source.now in
    omega (
      arith,
      calls_length (given_words done first) c.args.self.now c.loop-done.self c.loop-done.invariant.gave,
      words_long done first,
      c.requires.room,
    )

pub loop-done-preserved : goal.loop-done-preserved
loop-done-preserved g c =
    let done : ℕ = c.loop-done.done in
    let first = c.args.source.now in
    let device = c.loop-done.self in
    let word : ℕ = c.next-word.result in
    let step : done + 1 ≡ suc done = omega arith in
    let is : word ≡ next_word (source_after done first) =
    c.next-word.ensures.word ∙ ap next_word c.loop-done.invariant.source in
    record {
      gave =
          subst (λ (words : List ℕ). Gave words c.args.self.now (record device { giver = c.give.new.self }))
          (ap (λ (w : ℕ). given_words done first ++ w ∷ []) is ∙ sym (one_word_more done first)
          ∙ ap (λ n. given_words n first) (sym step))
          (gave_on (given_words done first) (word ∷ []) c.args.self.now device _ c.loop-done.invariant.gave
          (gave_one device c.give.new.self word c.give.result c.give.ensures.call));
      source =
          c.next-word.ensures.behind ∙ ap next_source c.loop-done.invariant.source ∙ sym (after_one done first)
          ∙ ap (λ n. source_after n first) (sym step);
    }
