-- On sections as the tests of what is kept compare them.
use Rattle.std.proofs.Common.{◌≡◌, true, refl, ap}
use Rattle.std.proofs.lemmas.Bool.{eqb-true}
use Rattle.rt_ids.specs.declared.ids.Section.{Section}
use Rattle.rt_ids.specs.declared.ids.Section.TheVariants as section
use Rattle.rt_actions.specs.Location.{is_same_section}

pub one_section : (a b : Section) → is_same_section a b ≡ true → a ≡ b
one_section (section.Res a) (section.Res b) same = ap (λ n. section.Res n) (eqb-true a b same)
one_section (section.Free a) (section.Free b) same = ap (λ n. section.Free n) (eqb-true a b same)
one_section (section.Ready a) (section.Ready b) same = ap (λ n. section.Ready n) (eqb-true a b same)
one_section section.Timer section.Timer same = refl
one_section a b same = absurd (cc)
