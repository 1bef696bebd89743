-- The line of a tick, and that of the alarm behind it.
use Rattle.std.proofs.Common.{◌≡◌, ℕ, List, [], ◌∷◌, ◌++◌, flat_map, Bool, true, if◌then◌else◌, ap, sym}
use Rattle.std.proofs.Common.{subst, ◌∙◌, append_assoc}
use Rattle.std.proofs.lemmas.List.{append-nil}
use Rattle.rt_ids.specs.Names.{Names}
use Rattle.rt_outside.specs.Bytes.{TookPrefix}
use Rattle.rt_trace.specs.Label.{Ticked, Rang, items_of}
use Rattle.rt_trace.specs.Text.{text}
use Rattle.rt_trace.specs.declared.item.What.TheVariants as what
use Rattle.rt_run.specs.Inside.Writing.{Wrote}
use Rattle.rt_run.proofs.Taking.{part_more, wrote_on, wrote_cut}

abbrev tick_line : Names → ℕ → List ℕ
tick_line names step = text names (record { step = step; what = what.Tick })

abbrev alarm_line : Names → ℕ → List ℕ
alarm_line names step = text names (record { step = step; what = what.Alarm })

-- what is behind the line of the tick
abbrev behind : Names → ℕ → Bool → List ℕ
behind names step came = flat_map (text names) (items_of step (if came then Rang ∷ [] else []))

abbrev both : Names → ℕ → Bool → List ℕ
both names step came = flat_map (text names) (items_of step (Ticked ∷ (if came then Rang ∷ [] else [])))

module _ (names : Names) (step : ℕ) (came : Bool) (a b held mid : List ℕ) where
  -- a fault at the line of the tick
  pub tick_part : TookPrefix a b (held ++ tick_line names step) → TookPrefix a b (held ++ both names step came)
  tick_part part =
      subst (TookPrefix a b) (append_assoc held (tick_line names step) (behind names step came))
      (part_more a b (held ++ tick_line names step) (behind names step came) part)

  both_is : came ≡ true → tick_line names step ++ alarm_line names step ≡ both names step came
  both_is rang =
      ap (λ t. tick_line names step ++ t) (sym (append-nil (alarm_line names step)))
      ∙ ap (λ r. tick_line names step ++ behind names step r) (sym rang)

  module _ (c : List ℕ) (rang : came ≡ true) (first : Wrote a b held mid (tick_line names step)) where
    pub tick_all : (kept : List ℕ) → Wrote b c mid kept (alarm_line names step)
        → Wrote a c held kept (both names step came)
    tick_all kept second =
        subst (Wrote a c held kept) (both_is rang)
        (wrote_on a b c held mid kept (tick_line names step) (alarm_line names step) first second)

    -- a fault at the line of the alarm
    pub tick_cut : TookPrefix b c (mid ++ alarm_line names step) → TookPrefix a c (held ++ both names step came)
    tick_cut part =
        subst (λ t. TookPrefix a c (held ++ t)) (both_is rang)
        (wrote_cut a b c held mid (tick_line names step) (alarm_line names step) first part)
