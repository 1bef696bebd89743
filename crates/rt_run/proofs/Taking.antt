-- How what was taken and what is held grow, and how a fault is told on.
use Rattle.std.proofs.Common.{◌≡◌, ◌≤◌, ℕ, List, [], ◌++◌, length, length-append, Result, Ok, Err}
use Rattle.std.proofs.Common.{OnOk}
use Rattle.std.proofs.Common.{ap, sym}
use Rattle.std.proofs.Common.{subst, ◌∙◌, append_assoc, arith}
use Rattle.std.proofs.lemmas.List.{append-nil}
use Rattle.rt_outside.specs.Bytes.{Took, TookAtLeast, TookPrefix}
use Rattle.rt_outside.specs.Faults.{HasCause}
use Rattle.rt_run.specs.Sending.{TookButHeld}
use Rattle.rt_run.specs.Inside.Writing.{Wrote}

-- nothing was taken
pub took_none : (a : List ℕ) → Took a a []
took_none a = sym (append-nil a)

pub took_on : (a b c x y : List ℕ) → Took a b x → Took b c y → Took a c (x ++ y)
took_on a b c x y first then = then ∙ ap (λ t. t ++ y) first ∙ append_assoc a x y

-- a beginning of more
pub part_more : (a b x y : List ℕ) → TookPrefix a b x → TookPrefix a b (x ++ y)
part_more a b x y part =
    let longer : 1 ≤ length (part.1.0 ++ y) = omega (arith, length-append part.1.0 y, part.1.1) in
    (part.0, (part.1.0 ++ y, longer, sym (append_assoc part.0 part.1.0 y) ∙ ap (λ t. t ++ y) part.1.2), part.2)

-- all, and a beginning of what is behind
pub part_on : (a b c x y : List ℕ) → Took a b x → TookPrefix b c y → TookPrefix a c (x ++ y)
part_on a b c x y took part = (
  x ++ part.0,
  (part.1.0, part.1.1, append_assoc x part.0 part.1.0 ∙ ap (λ t. x ++ t) part.1.2),
  took_on a b c x part.0 took part.2,
)

-- all, and no fewer than the first of what is behind
pub least_on : (a b c x y : List ℕ) → Took a b x → TookAtLeast b c y → TookAtLeast a c (x ++ y)
least_on a b c x y took more =
    (more.0, subst (Took a c) (sym (append_assoc x y more.0)) (took_on a b c x (y ++ more.0) took more.1))

-- nothing was written
pub wrote_none : (a held : List ℕ) → Wrote a a held held []
wrote_none a held = record { front = []; took = took_none a; parts = append-nil held }

-- what was held went out
pub wrote_out : (a b held kept : List ℕ) → kept ≡ [] → Took a b held → Wrote a b held kept []
wrote_out a b held kept empty took = record { front = held; took = took; parts = ap (λ t. held ++ t) (sym empty) }

pub wrote_out_on : {T E : Type 0} (r : Result T E) (a b held kept : List ℕ) → OnOk r (Took a b held)
    → OnOk r (kept ≡ []) → OnOk r (Wrote a b held kept [])
wrote_out_on (Ok x) a b held kept took empty = wrote_out a b held kept empty took
wrote_out_on (Err e) a b held kept took empty = tt

-- bytes were put behind what is held
pub wrote_put : (a b held mid kept bytes : List ℕ) → Wrote a b held mid [] → kept ≡ mid ++ bytes
    → Wrote a b held kept bytes
wrote_put a b held mid kept bytes first put = record {
  front = first.front;
  took = first.took;
  parts =
      ap (λ t. t ++ bytes) (sym (append-nil held) ∙ first.parts) ∙ append_assoc first.front mid bytes
      ∙ ap (λ t. first.front ++ t) (sym put);
}

pub wrote_on : (a b c held mid kept x y : List ℕ) → Wrote a b held mid x → Wrote b c mid kept y
    → Wrote a c held kept (x ++ y)
wrote_on a b c held mid kept x y first second = record {
  front = first.front ++ second.front;
  took = took_on a b c first.front second.front first.took second.took;
  parts =
      sym (append_assoc held x y) ∙ ap (λ t. t ++ y) first.parts ∙ append_assoc first.front mid y
      ∙ ap (λ t. first.front ++ t) second.parts ∙ sym (append_assoc first.front second.front kept);
}

joined : (held mid front x y : List ℕ) → held ++ x ≡ front ++ mid → front ++ (mid ++ y) ≡ held ++ (x ++ y)
joined held mid front x y parts = sym (append_assoc front mid y) ∙ ap (λ t. t ++ y) (sym parts) ∙ append_assoc held x y

-- and then all that was held went out
pub wrote_all : (a b c held mid x y : List ℕ) → Wrote a b held mid x → Took b c (mid ++ y) → Took a c (held ++ (x ++ y))
wrote_all a b c held mid x y first then =
    subst (Took a c) (joined held mid first.front x y first.parts)
    (took_on a b c first.front (mid ++ y) first.took then)

-- and then a fault came
pub wrote_cut : (a b c held mid x y : List ℕ) → Wrote a b held mid x → TookPrefix b c (mid ++ y)
    → TookPrefix a c (held ++ (x ++ y))
wrote_cut a b c held mid x y first part =
    subst (TookPrefix a c) (joined held mid first.front x y first.parts)
    (part_on a b c first.front (mid ++ y) first.took part)

-- and then a fault came, at which no more than a buffer was held
pub held_on : (a b c held mid x y : List ℕ) → Wrote a b held mid x → TookButHeld b c (mid ++ y)
    → TookButHeld a c (held ++ (x ++ y))
held_on a b c held mid x y first late = record {
  front = first.front ++ late.front;
  held = late.held;
  parts =
      sym (joined held mid first.front x y first.parts) ∙ ap (λ t. first.front ++ t) late.parts
      ∙ sym (append_assoc first.front late.front late.held);
  took = least_on a b c first.front late.front first.took late.took;
  few = late.few;
}

-- the last bytes, and all that was held, went out as one piece
pub wrote_end : (a b c held mid bytes piece : List ℕ) → Wrote a b held mid [] → piece ≡ mid ++ bytes
    → Took b c piece → Took a c (held ++ bytes)
wrote_end a b c held mid bytes piece first is took =
    wrote_all a b c held mid [] bytes first (subst (Took b c) is took)

-- or a beginning of it
pub wrote_end_cut : (a b c held mid bytes piece : List ℕ) → Wrote a b held mid []
    → piece ≡ mid ++ bytes → TookPrefix b c piece → TookPrefix a c (held ++ bytes)
wrote_end_cut a b c held mid bytes piece first is part =
    wrote_cut a b c held mid [] bytes first (subst (TookPrefix b c) is part)

-- a fault of a later call is told
pub cause_on : {T E : Type 0} (a b c : ℕ) (r : Result T E) → b ≡ a → HasCause b c r → HasCause a c r
cause_on a b c r same cause = subst (λ n. HasCause n c r) same cause
