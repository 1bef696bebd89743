-- What follows from how a command's texts were read: which sources it did not come to or read whole, why it stops.
use Rattle.std.proofs.Common.{◌≡◌, ℕ, zero, suc, ◌<◌, ◌≤◌, ◌⊎◌, List, [], ◌∷◌, length, Option, Some}
use Rattle.std.proofs.Common.{take, slice_get, inl, inr, refl, subst, arith}
use Rattle.rt_ids.specs.declared.status.Status.{Status}
use Rattle.rt_ids.specs.declared.status.Status.TheVariants as status
use Rattle.rt_outside.specs.Bytes.{Past}
use Rattle.rt_top.specs.Program.{Program}
use Rattle.rt_top.specs.Defined.{IsRefusedAmong}
use Rattle.rt_top.specs.Inside.Replies.{RepliesOrStops}
use Rattle.rt_top.specs.Inside.Using.{Use, Unread, Whole, Failed, Left, HasUse, Sources, No, Then, AreUnread, AreRead}
use Rattle.rt_top.specs.Inside.Using.{for_memory, at_fault, IsNotRead, refusal, stop}
use Rattle.rt_top.specs.declared.reply.Reply.{Reply}
use Rattle.rt_top.specs.declared.reply.Reply.TheVariants as reply
use Rattle.rt_top.proofs.Due.{IsLawful}

-- what the sources gave, how many they are, those behind so many, and what was done with the one behind so many
abbrev pub gaves : Sources → List (List ℕ)
gaves No = []
gaves (Then gave Does more) = gave ∷ gaves more

abbrev pub count : Sources → ℕ
count No = 0
count (Then gave Does more) = suc (count more)

abbrev pub behind : ℕ → Sources → Sources
behind zero sources = sources
behind (suc n) No = No
behind (suc n) (Then gave Does more) = behind n more

abbrev pub Did : ℕ → Sources → ℕ → Use → Type 0
Did n No limit how = Unit {0}
Did zero (Then gave Does more) limit how = Does limit how
Did (suc n) (Then gave Does more) limit how = Did n more limit how

pub unread_behind : (n : ℕ) (sources : Sources) → AreUnread sources → AreUnread (behind n sources)
unread_behind zero sources u = u
unread_behind (suc n) No u = u
unread_behind (suc n) (Then gave Does more) u = unread_behind n more u.1

pub did_unread : (n : ℕ) (sources : Sources) → AreUnread sources → Did n sources 0 Unread
did_unread n No u = tt
did_unread zero (Then gave Does more) u = u.0
did_unread (suc n) (Then gave Does more) u = did_unread n more u.1

-- a count of faults did not change, or this is so
pub quiet : {S : Type 0} (past : S → Past) (left : S → Option (List ℕ)) (faults : S → ℕ) (old new : S) (limit : ℕ)
    (how : Use) (P : Type 0) → HasUse past left faults old new limit how → (how ≡ Failed → P)
    → (faults new ≡ faults old) ⊎ P
quiet past left faults old new limit Unread P u told = inl u.no_fault
quiet past left faults old new limit Whole P u told = inl u.1
quiet past left faults old new limit Failed P u told = inr (told refl)
quiet past left faults old new limit Left P u told = inl u

module _ {p : Program} (l : IsLawful p) where
  -- the sources that a command does not come to
  pub skipped : (n : ℕ) (kinds : List p.Kind) (over : p.Over) (sources : Sources) (end : Option Reply)
      → AreRead p kinds over sources end
      → (length kinds ≤ n)
      ⊎ ((ended : Status) × (line : List ℕ) × IsRefusedAmong p (take n kinds) over (gaves sources) ended line)
      → AreUnread (behind n sources)
  skipped n [] over sources end read skips = unread_behind n sources read.0
  skipped zero (k ∷ kinds) over sources end read (inl few) = absurd (omega (arith, few))
  skipped zero (k ∷ kinds) over sources end read (inr (ended, line, r)) = absurd r
  skipped (suc n) (k ∷ kinds) over No end read skips = absurd read
  skipped (suc n) (k ∷ kinds) over (Then gave Does more) end (inl (whole, is, read)) (inl few) =
      skipped n kinds over more end read (inl (omega (arith, few)))
  skipped (suc n) (k ∷ kinds) over (Then gave Does more) end (inl (whole, is, read)) (inr (ended, line, inl r)) =
      absurd (l.one_of_each k over gave ended line is r)
  skipped (suc n) (k ∷ kinds) over (Then gave Does more) end (inl (whole, is, read)) (inr (ended, line, inr r)) =
      skipped n kinds over more end read (inr (ended, line, r.1))
  skipped (suc n) (k ∷ kinds) over (Then gave Does more) end (inr (r, is, none, unread)) skips =
      unread_behind n more unread

module _ (p : Program) where
  -- the sources that it comes to, where the program does not stop
  pub read_whole : (n : ℕ) (kinds : List p.Kind) (over : p.Over) (sources : Sources) (end : Option Reply)
      (k : p.Kind)
      → AreRead p kinds over sources end → slice_get kinds n ≡ Some k
      → ((ended : Status) (line : List ℕ) → IsRefusedAmong p (take n kinds) over (gaves sources) ended line → ⊥)
      → ((ended : Status) → end ≡ Some (reply.Stop ended) → ⊥) → Did n sources (p.most_bytes k) Whole
  read_whole n [] over sources end k read is passed alive = absurd cc
  read_whole n (j ∷ kinds) over No end k read is passed alive = absurd read
  read_whole zero (j ∷ kinds) over (Then gave Does more) end k (inl (whole, of, read)) is passed alive =
      let same : j ≡ k = cc in subst (λ x. Does (p.most_bytes x) Whole) same whole
  read_whole (suc n) (j ∷ kinds) over (Then gave Does more) end k (inl (whole, of, read)) is passed alive =
      read_whole n kinds over more end k read is (λ ended line r. passed ended line (inr (of, r))) alive
  read_whole n (j ∷ kinds) over (Then gave Does more) end k (inr (r, ends, stop ended stops, unread)) is passed alive =
      absurd (alive ended ends)
  read_whole zero (j ∷ kinds) over (Then gave Does more) end k (inr (r, ends, refusal ended line whole by, unread)) is
      passed alive = let same : j ≡ k = cc in subst (λ x. Does (p.most_bytes x) Whole) same whole
  read_whole (suc n) (j ∷ kinds) over (Then gave Does more) end k (inr (r, ends, refusal ended line whole by, unread))
      is passed alive = absurd (passed ended line.items (inl by))

  -- what was done with a source; only one that failed stops the program so
  pub did : (n : ℕ) (kinds : List p.Kind) (over : p.Over) (sources : Sources) (end : Option Reply)
      → AreRead p kinds over sources end
      → (limit : ℕ) × (how : Use) × Did n sources limit how × (how ≡ Failed → end ≡ Some (reply.Stop status.Read))
  did n [] over sources end read = (0, Unread, did_unread n sources read.0, λ e. absurd cc)
  did n (k ∷ kinds) over No end read = absurd read
  did zero (k ∷ kinds) over (Then gave Does more) end (inl (whole, is, read)) =
      (p.most_bytes k, Whole, whole, λ e. absurd cc)
  did zero (k ∷ kinds) over (Then gave Does more) end (inr (r, is, refusal ended line whole by, unread)) =
      (p.most_bytes k, Whole, whole, λ e. absurd cc)
  did zero (k ∷ kinds) over (Then gave Does more) end (inr (r, is, stop ended (at_fault failed), unread)) =
      (p.most_bytes k, Failed, failed, λ e. is)
  did zero (k ∷ kinds) over (Then gave Does more) end (inr (r, is, stop ended (for_memory left), unread)) =
      (p.most_bytes k, Left, left, λ e. absurd cc)
  did (suc n) (k ∷ kinds) over (Then gave Does more) end (inl (whole, is, read)) = did n kinds over more end read
  did (suc n) (k ∷ kinds) over (Then gave Does more) end (inr (r, is, none, unread)) =
      (0, Unread, did_unread n more unread, λ e. absurd cc)

  -- where a source failed, it is one that the command has a text in, and none behind it was come to
  pub failed_at : (kinds : List p.Kind) (over : p.Over) (sources : Sources) (end : Option Reply)
      → AreRead p kinds over sources end → end ≡ Some (reply.Stop status.Read)
      → (n limit : ℕ) × (n < length kinds) × (n < count sources) × Did n sources limit Failed
      × AreUnread (behind (suc n) sources)
  failed_at [] over sources end read is = let e = read.1 in absurd cc
  failed_at (k ∷ kinds) over No end read is = absurd read
  failed_at (k ∷ kinds) over (Then gave Does more) end (inl (whole, of, read)) is =
      let (n, limit, within, there, failed, unread) = failed_at kinds over more end read is in
      (suc n, limit, omega (arith, within), omega (arith, there), failed, unread)
  failed_at (k ∷ kinds) over (Then gave Does more) end (inr (r, ends, refusal ended line whole by, unread)) is =
      absurd cc
  failed_at (k ∷ kinds) over (Then gave Does more) end (inr (r, ends, stop ended (at_fault failed), unread)) is =
      (0, p.most_bytes k, omega arith, omega arith, failed, unread)
  failed_at (k ∷ kinds) over (Then gave Does more) end (inr (r, ends, stop ended (for_memory left), unread)) is =
      absurd cc

  -- a reply in place of an output: a text is refused, and those before it are not, or the program stops
  abbrev pub EndedBy : List p.Kind → p.Over → List (List ℕ) → Reply → Type 0
  EndedBy kinds over texts r =
      RepliesOrStops (IsRefusedAmong p kinds over texts) (λ ended. (ended ≡ status.Memory) ⊎ (ended ≡ status.Read)) r

  ended_here : (k : p.Kind) (kinds : List p.Kind) (over : p.Over) (gave : List ℕ)
      (Does : ℕ → Use → Type 0) (texts : List (List ℕ))
      (r : Reply) → IsNotRead p k over gave Does r → EndedBy (k ∷ kinds) over (gave ∷ texts) r
  ended_here k kinds over gave Does texts r (refusal ended line whole by) = inl by
  ended_here k kinds over gave Does texts r (stop ended (for_memory left)) = inl refl
  ended_here k kinds over gave Does texts r (stop ended (at_fault failed)) = inr refl

  pub ended_by : (kinds : List p.Kind) (over : p.Over) (sources : Sources) (r : Reply)
      → AreRead p kinds over sources (Some r) → EndedBy kinds over (gaves sources) r
  ended_by [] over sources r read = let e = read.1 in absurd cc
  ended_by (k ∷ kinds) over No r read = absurd read
  ended_by (k ∷ kinds) over (Then gave Does more) (reply.Write ended text) (inl (whole, is, read)) =
      inr (is, ended_by kinds over more (reply.Write ended text) read)
  ended_by (k ∷ kinds) over (Then gave Does more) (reply.Stop ended) (inl (whole, is, read)) =
      ended_by kinds over more (reply.Stop ended) read
  ended_by (k ∷ kinds) over (Then gave Does more) r (inr (q, is, none, unread)) =
      let same : q ≡ r = cc in
      subst (EndedBy (k ∷ kinds) over (gave ∷ gaves more)) same
      (ended_here k kinds over gave Does (gaves more) q none)
