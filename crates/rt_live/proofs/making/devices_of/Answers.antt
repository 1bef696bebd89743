use Rattle.rt_live.proofs.Vocabulary.{AllByRecursion, Caller, Contains, IsWaiting, List, all_append, ap, append-nil}
use Rattle.rt_live.proofs.Vocabulary.{arith, contains_cases, contains_none, false, inl, inr, is_device, length}
use Rattle.rt_live.proofs.Vocabulary.{maker_line, map, refl, subst, sym, those_below, true, ℕ, ◌+◌, ◌∙◌, ◌∷◌, ◌≡◌}
use Rattle.rt_devices.specs.declared.device.Device.{Device}
use Rattle.rt_live.proofs.Made.{among_those, below, none_below, numbers_more, still_among, those_next}
use Rattle.rt_live.proofs.making.devices_of.Goals as goal

pub loop-number-init : goal.loop-number-init
loop-number-init c =
    let made = ap (λ (l : Caller). l.made) c.requires in
    record {
      numbers =
          ap (map (λ (d : Device). d.number)) c.new-made.ensures.items ∙ sym (none_below (is_device c.args.lines.now));
      waiting = subst (AllByRecursion (IsWaiting c.args.words.now c.args.lines.now)) (sym c.new-made.ensures.items) tt;
      line = c.requires ∙ ap (maker_line c.args.words.now) (sym made);
      made = λ number is. absurd (contains_none number (subst (λ (ns : List ℕ). Contains ns number) made is));
    }

pub split-own-requires-clause-new : goal.split-own-requires-clause-new
split-own-requires-clause-new c = λ is.
    let n = c.loop-number.number in
    absurd (omega (arith, below (is_device c.args.lines.now) n n (c.loop-number.invariant.made n is)))

pub loop-number-preserved-then-not-names_device : goal.loop-number-preserved-then-not-names_device
loop-number-preserved-then-not-names_device c =
    let n = c.loop-number.number in
    let test = is_device c.args.lines.now in
    let before = c.loop-number.invariant in
    let named : test n ≡ false = sym c.names_device.ensures ∙ c.if-not-names_device.true in
    record {
      numbers = before.numbers ∙ sym (those_next test n false named ∙ append-nil (those_below test n));
      waiting = before.waiting;
      line = before.line;
      made = λ m is. still_among test n false named m (before.made m is);
    }

pub loop-number-preserved : goal.loop-number-preserved
loop-number-preserved c =
    let n = c.loop-number.number in
    let words = c.args.words.now in
    let script = c.args.lines.now in
    let test = is_device script in
    let before = c.loop-number.invariant in
    let named : test n ≡ true = sym c.names_device.ensures ∙ c.if-not-names_device.false in
    let made = c.loop-number.line.made in
    let line = c.split-own.ensures.maker
    ∙ ap (λ (l : Caller). record l { made = n ∷ made; since = length l.calls }) before.line in
    record {
      numbers = numbers_more test n c.loop-number.made.items _ _ c.in_ok-push.ensures.items refl named before.numbers;
      waiting =
          subst (AllByRecursion (IsWaiting words script)) (sym c.in_ok-push.ensures.items)
          (all_append (IsWaiting words script) c.loop-number.made.items _ before.waiting
          (record { low = omega arith; line = c.split-own.ensures.line; asks = c.in_ok-script.ensures }, tt));
      line = line ∙ ap (maker_line words) (sym (ap (λ (l : Caller). l.made) line));
      made = λ m is.
          elim (contains_cases n made m
          (subst (λ (ns : List ℕ). Contains ns m) (ap (λ (l : Caller). l.made) line) is)) [
            | inl same ↦ among_those test (n + 1) m (omega (arith, same)) (ap test (sym same) ∙ named)
            | inr behind ↦ still_among test n true named m (before.made m behind)
          ];
    }

pub returns-clause-made : goal.returns-clause-made
returns-clause-made c = λ m is.
    let end : c.loop-number.number ≡ 16 = omega arith in
    subst (λ n. Contains (those_below (is_device c.args.lines.now) n) m) end (c.loop-number.invariant.made m is)
