-- The status that is due is one, of each program that keeps some laws: no text is both of its kind and refused.
use Rattle.std.proofs.Common.{◌≡◌, ◌⊎◌, ℕ, List, [], ◌∷◌, inl, inr, sym, subst, ◌∙◌}
use Rattle.rt_ids.specs.declared.status.Status.{Status}
use Rattle.rt_ids.specs.declared.status.Status.TheVariants as status
use Rattle.rt_top.specs.Program.{Program, Inputs, each_of}
use Rattle.rt_top.specs.Defined.{IsRefusedAmong, Defined, refused, output}
use Rattle.rt_top.specs.Laws.{OneOfEachKind}

-- a status with which a command replies; the others say why the program stopped, or that there is no command
abbrev pub IsReplied : Status → Type 0
IsReplied status.Usage = ⊥
IsReplied status.Read = ⊥
IsReplied status.Write = ⊥
IsReplied status.Memory = ⊥
IsReplied other = Unit {0}

-- two statuses of what is due: commands reply with them, and they are one
abbrev pub AreDue : Status → Status → Type 0
AreDue a b = IsReplied a × (a ≡ b)

pub due_as : (told a b : Status) → IsReplied told → a ≡ told → b ≡ told → AreDue a b
due_as told a b replied is other = (subst IsReplied (sym is) replied, is ∙ sym other)

-- the status says whether this is so
abbrev pub SaysWhether : Type 0 → Status → Type 0
SaysWhether P ended = ((ended ≡ status.Done) × P) ⊎ ((ended ≡ status.No) × ¬ P)

pub whether_once : (P : Type 0) (a b : Status) → SaysWhether P a → SaysWhether P b → AreDue a b
whether_once P a b (inl (is, p)) (inl (other, q)) = due_as status.Done a b tt is other
whether_once P a b (inl (is, p)) (inr (other, not)) = absurd (not p)
whether_once P a b (inr (is, not)) (inl (other, q)) = absurd (not q)
whether_once P a b (inr (is, not)) (inr (other, none)) = due_as status.No a b tt is other

-- each text is of its kind
abbrev pub AreOfKinds : (p : Program) → List p.Kind → p.Over → List (List ℕ) → Type 0
AreOfKinds p [] over texts = Unit {0}
AreOfKinds p (k ∷ kinds) over [] = ⊥
AreOfKinds p (k ∷ kinds) over (text ∷ texts) = p.IsOfKind k over text × AreOfKinds p kinds over texts

-- what a program keeps
pub record IsLawful (p : Program) : Type 0 where
  -- words name one command at most
  pub one_command : (words : List (List ℕ)) (c d : p.Command) → p.Names words c → p.Names words d → c ≡ d
  pub one_of_each : OneOfEachKind p
  -- a refusal has the status of its kind
  pub one_refusal : (k : p.Kind) (over : p.Over) (text : List ℕ) (a b : Status) (x y : List ℕ)
      → p.IsRefusedBy k over text a x → p.IsRefusedBy k over text b y → AreDue a b
  -- where there is an output each text is of its kind
  pub all_read : (c : p.Command) (t : Inputs) (ended : Status) (bytes : List ℕ) → p.IsOutputOf c t ended bytes
      → AreOfKinds p (p.kinds_of c) (p.over t) (each_of t)
  pub one_output : (c : p.Command) (t : Inputs) (a b : Status) (x y : List ℕ) → p.IsOutputOf c t a x
      → p.IsOutputOf c t b y → AreDue a b

module _ {p : Program} (l : IsLawful p) where
  -- then none is refused
  none_refused : (kinds : List p.Kind) (over : p.Over) (texts : List (List ℕ)) (ended : Status) (line : List ℕ)
      → AreOfKinds p kinds over texts → IsRefusedAmong p kinds over texts ended line → ⊥
  none_refused [] over texts ended line are r = r
  none_refused (k ∷ kinds) over [] ended line are r = r
  none_refused (k ∷ kinds) over (text ∷ texts) ended line are (inl r) = l.one_of_each k over text ended line are.0 r
  none_refused (k ∷ kinds) over (text ∷ texts) ended line are (inr r) =
      none_refused kinds over texts ended line are.1 r.1

  -- and the first that is has one status
  one_among : (kinds : List p.Kind) (over : p.Over) (texts : List (List ℕ)) (a b : Status) (x y : List ℕ)
      → IsRefusedAmong p kinds over texts a x → IsRefusedAmong p kinds over texts b y → AreDue a b
  one_among [] over texts a b x y r s = absurd r
  one_among (k ∷ kinds) over [] a b x y r s = absurd r
  one_among (k ∷ kinds) over (text ∷ texts) a b x y (inl r) (inl s) = l.one_refusal k over text a b x y r s
  one_among (k ∷ kinds) over (text ∷ texts) a b x y (inl r) (inr s) = absurd (l.one_of_each k over text a x s.0 r)
  one_among (k ∷ kinds) over (text ∷ texts) a b x y (inr r) (inl s) = absurd (l.one_of_each k over text b y r.0 s)
  one_among (k ∷ kinds) over (text ∷ texts) a b x y (inr r) (inr s) = one_among kinds over texts a b x y r.1 s.1

  -- what is due has one status, with which commands reply
  both_due : (c : p.Command) (t : Inputs) (a b : Status) (x y : List ℕ) → Defined p c t a x → Defined p c t b y
      → AreDue a b
  both_due c t a b x y (refused one line r) (refused other line' s) =
      one_among (p.kinds_of c) (p.over t) (each_of t) one other line line' r s
  both_due c t a b x y (refused one line r) (output other bytes w) =
      absurd (none_refused (p.kinds_of c) (p.over t) (each_of t) one line (l.all_read c t other bytes w) r)
  both_due c t a b x y (output one bytes w) (refused other line s) =
      absurd (none_refused (p.kinds_of c) (p.over t) (each_of t) other line (l.all_read c t one bytes w) s)
  both_due c t a b x y (output one bytes w) (output other bytes' v) = l.one_output c t one other bytes bytes' w v

  pub one_due : (c : p.Command) (t : Inputs) (a b : Status) (x y : List ℕ) → Defined p c t a x → Defined p c t b y
      → a ≡ b
  one_due c t a b x y d e = (both_due c t a b x y d e).1

  pub replied : (c : p.Command) (t : Inputs) (ended : Status) (bytes : List ℕ) → Defined p c t ended bytes
      → IsReplied ended
  replied c t ended bytes d = (both_due c t ended ended bytes bytes d d).0
