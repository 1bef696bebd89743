-- What the guard of a section masks, at any preemption threshold, and what its lines write and name.
use Rattle.rt_gen_queue.proofs.Vocabulary.{AllByRecursion, Bool, IsMask, IsNameable, SectionKind, List, Marked, Masked}
use Rattle.rt_gen_queue.proofs.Vocabulary.{Names}
use Rattle.rt_gen_queue.proofs.Vocabulary.{Raised, Runner, Section, Storage, arith, closing_instr, enter_line, false}
use Rattle.rt_gen_queue.proofs.Vocabulary.{get_or-set_other, if◌then◌else◌, kind_of, leave_line, length, length-set}
use Rattle.rt_gen_queue.proofs.Vocabulary.{nat_le, nat_tests, opening_instr, refl, saved_slot, slots_with_mask}
use Rattle.rt_gen_queue.proofs.Vocabulary.{slice_index, slice_set}
use Rattle.rt_gen_queue.proofs.Vocabulary.{sym, true, ℕ, ◌<◌, ◌==◌, ◌∙◌, ◌≡◌, ◌≢◌}
use Rattle.rt_code.specs.Listable.{HasInstr, HasSection}
use Rattle.rt_gen_queue.specs.declared.guard.Guard.{Guard}

-- by whether the threshold is there already, and whether the ceiling's value is 0
abbrev kind_by : Bool → Bool → ℕ → SectionKind
kind_by low all slot = if low then Marked else if all then Masked slot else Raised slot

-- what holds of each kind of section
pub of_kinds : (g : Guard) (threshold : ℕ) (P : (ℕ → SectionKind) → Type 0) → P (λ slot. Marked)
    → P (λ slot. Masked slot)
    → P (λ slot. Raised slot) → P (λ slot. kind_of g threshold slot)
of_kinds g threshold P low all some = go (nat_le g.ceiling threshold) (g.value == 0)
  where
    go : (b c : Bool) → P (λ slot. kind_by b c slot)
    go true c = low
    go false true = all
    go false false = some

-- the mask that is asked for
pub mask_of : (st : Storage) (who : Runner) (g : Guard) (threshold slot : ℕ) → g.value ≡ st.value g.ceiling
    → IsMask st who g.ceiling threshold (kind_of g threshold slot)
mask_of st who g threshold slot is = go (nat_le g.ceiling threshold) (g.value == 0) refl refl
  where
    go : (low all : Bool) → nat_le g.ceiling threshold ≡ low → (g.value == 0) ≡ all
        → IsMask st who g.ceiling threshold (kind_by low all slot)
    go true all e f = grind (arith, nat_tests)
    go false true e f = let v : g.value ≡ 0 = grind (arith, nat_tests) in (grind (arith, nat_tests), sym is ∙ v)
    go false false e f = let v : 0 < g.value = grind (arith, nat_tests) in (grind (arith, nat_tests), omega (arith, is))

-- the slot that keeps the mask, where one does
pub saves_in : (g : Guard) (threshold slot : ℕ) → AllByRecursion (λ d. d ≡ slot) (saved_slot (kind_of g threshold slot))
saves_in g threshold slot =
    of_kinds g threshold (λ kind. AllByRecursion (λ d. d ≡ slot) (saved_slot (kind slot))) tt (refl, tt) (refl, tt)

-- what a section saves is written there, and other slots are as before
pub record Beside (mask : ℕ) (before after : List ℕ) : Type 0 where
  pub others : (d : ℕ) → d ≢ mask → slice_index after d ≡ slice_index before d
  pub long : length after ≡ length before

pub saved_beside : (g : Guard) (threshold mask saved : ℕ) (slots : List ℕ)
    → Beside mask slots (slots_with_mask (kind_of g threshold mask) saved slots)
saved_beside g threshold mask saved slots =
    of_kinds g threshold (λ kind. Beside mask slots (slots_with_mask (kind mask) saved slots))
    (record { others = λ d other. refl; long = refl }) wrote wrote
  where
    wrote : Beside mask slots (slice_set slots mask saved)
    wrote = record {
      others = λ d other. get_or-set_other slots mask d saved 0 other;
      long = length-set slots mask saved;
    }

-- the lines that open and close a section of what is declared name nothing else
pub enter_named : (names : Names) (x : Section) (g : Guard) (threshold slot : ℕ) → HasSection names x
    → IsNameable names (enter_line x g threshold slot)
enter_named names x g threshold slot has =
    record {
      instr = of_kinds g threshold (λ kind. HasInstr names (opening_instr g.value (kind slot))) tt tt tt;
      note =
          has;
    }

pub leave_named : (names : Names) (x : Section) (g : Guard) (threshold slot : ℕ) → HasSection names x
    → IsNameable names (leave_line x g threshold slot)
leave_named names x g threshold slot has =
    record { instr = of_kinds g threshold (λ kind. HasInstr names (closing_instr (kind slot))) tt tt tt; note = has }
