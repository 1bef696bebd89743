-- The greatest frame of a priority value, row after row.
use Rattle.std.proofs.Common.{◌≡◌, ◌+◌, ◌*◌, ◌==◌, true, false, ℕ, List, [], ◌∷◌, map, filter, Option, Some}
use Rattle.std.proofs.Common.{None}
use Rattle.std.proofs.Common.{suc, cond, if◌then◌else◌, refl, sym, ap, ◌∙◌, arith}
use Rattle.std.specs.List.{cons_option}
use Rattle.rt_lemmas.proofs.Numbers.{max_zero}
use Rattle.rt_ids.specs.Lists.{greatest}
use Rattle.rt_code.specs.declared.image.Handler.{Handler}
use Rattle.rt_code.specs.declared.image.IrqRow.{IrqRow}
use Rattle.rt_code.specs.Image.{Image, entry_words}
use Rattle.rt_points.specs.Stack.{handlers, bytes_of, bytes_below, frames_at}
use Rattle.rt_judge.specs.Inside.Greatest.{frame_of_value, frame_at, greater, greatest_frame}

abbrev pub frames : ℕ → List IrqRow → List ℕ
frames value irqs = map (λ (h : Handler). h.frame) (filter (λ (h : Handler). h.value == value) (handlers irqs))

abbrev pub greatest_or_none : List ℕ → Option ℕ
greatest_or_none [] = None
greatest_or_none (f ∷ fs) = Some (greatest (f ∷ fs))

more_frames : (f : ℕ) (fs : List ℕ) → greater (Some f) (greatest_or_none fs) ≡ greatest_or_none (f ∷ fs)
more_frames f [] = ap Some (sym (max_zero f))
more_frames f (g ∷ fs) = refl

-- a row more, by its handler
by_handler : (value : ℕ) (o : Option Handler) (rows : List IrqRow)
    → greater (frame_of_value value o) (greatest_or_none (frames value rows))
    ≡ greatest_or_none (map (λ (h : Handler). h.frame) (filter (λ (h : Handler). h.value == value)
    (cons_option o (handlers rows))))
by_handler value None rows = refl
by_handler value (Some h) rows = elim (h.value == value) as
    (λ b. greater (if b then Some h.frame else None) (greatest_or_none (frames value rows))
    ≡ greatest_or_none (map (λ (h : Handler). h.frame)
    (cond b (h ∷ filter (λ (h : Handler). h.value == value) (handlers rows))
    (filter (λ (h : Handler). h.value == value) (handlers rows))))) [
      | true ↦ more_frames h.frame (frames value rows)
      | false ↦ refl
    ]

pub greatest_of_frames : (value : ℕ) (rows : List IrqRow) → greatest_frame value rows
    ≡ greatest_or_none (frames value rows)
greatest_of_frames value [] = refl
greatest_of_frames value (row ∷ rows) =
    ap (greater (frame_at value row)) (greatest_of_frames value rows) ∙ by_handler value row.handler rows

abbrev pub bytes_if : ℕ → Option ℕ → ℕ
bytes_if entry None = 0
bytes_if entry (Some frame) = 4 * (entry + frame)

bytes_of_frames : (entry : ℕ) (fs : List ℕ) → bytes_of entry fs ≡ bytes_if entry (greatest_or_none fs)
bytes_of_frames entry [] = refl
bytes_of_frames entry (f ∷ fs) = refl

pub bytes_from : (entry value : ℕ) (rows : List IrqRow) (o : Option ℕ) → o ≡ greatest_frame value rows
    → bytes_of entry (frames value rows) ≡ bytes_if entry o
bytes_from entry value rows o is =
    bytes_of_frames entry (frames value rows) ∙ ap (bytes_if entry) (sym (is ∙ greatest_of_frames value rows))

pub below_none : (img : Image) → bytes_below img 0 ≡ 0
unfolding bytes_below
below_none img = refl

below_suc : (img : Image) (v : ℕ) → bytes_below img (suc v) ≡ bytes_below img v
    + bytes_of (entry_words img) (frames_at img v)
unfolding bytes_below
below_suc img v = refl

pub below_one_more : (img : Image) (v : ℕ) → bytes_below img (v + 1) ≡ bytes_below img v
    + bytes_of (entry_words img) (frames_at img v)
below_one_more img v = let e : v + 1 ≡ suc v = omega arith in ap (bytes_below img) e ∙ below_suc img v
