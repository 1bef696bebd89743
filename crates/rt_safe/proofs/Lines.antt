-- The line at a point of an image that keeps the rules is one of a few kinds.
use Rattle.std.proofs.Common.{◌≡◌, ℕ, ◌<◌, true, List, [], ◌∷◌, length, Option, Some, None, option_map, refl, ap, subst}
use Rattle.std.proofs.Common.{◌∙◌}
use Rattle.std.specs.List.{AllByRecursion}
use Rattle.std.specs.Option.{option_to_list}
use Rattle.std.proofs.lemmas.Bool.{false≢true, lt-ltb}
use Rattle.std.proofs.lemmas.Option.{none-some}
use Rattle.rt_lemmas.proofs.Bools.{and_both}
use Rattle.rt_lemmas.proofs.Indices.{there_is}
use Rattle.rt_ids.specs.declared.ids.BodyId.TheVariants as body
use Rattle.rt_ids.specs.declared.ids.Section.{Section}
use Rattle.rt_code.specs.Access.{Access, cell_of, access_of, cells_of}
use Rattle.rt_code.specs.Image.{Image}
use Rattle.rt_code.specs.Operands.{are_there}
use Rattle.rt_code.specs.Processor.{Processor}
use Rattle.rt_code.specs.declared.instr.Instr.{Instr}
use Rattle.rt_code.specs.declared.instr.Instr.TheVariants as instr
use Rattle.rt_code.specs.declared.instr.Note.{Note}
use Rattle.rt_code.specs.declared.instr.Note.TheVariants as note
use Rattle.rt_points.specs.declared.point.SectionKind.TheVariants.{Mark, Raise, Mask}
use Rattle.rt_points.specs.declared.point.Opened.{Opened}
use Rattle.rt_points.specs.declared.rule.Rule.TheVariants as rule
use Rattle.rt_points.specs.Checked.{IsChecked}
use Rattle.rt_points.specs.Leading.{IsPoint, StandsAt}
use Rattle.rt_points.specs.Point.{Point}
use Rattle.rt_points.specs.Rules.{is_supported, touched_cell, HasItsCell, IsOperable, IsNotedWell, opens}
use Rattle.rt_points.specs.Rules.{ClosesInnermost}
use Rattle.rt_points.specs.Rules.{JumpsInThread}
use Rattle.rt_safe.specs.Inside.Lines.{ActsOnSections, Simply, Anew, Opens, Closes, EndsInit, Returns}

-- slots that are below the words of a frame are in it
pub slots_there : (indices words : List ℕ) (n : ℕ) → n ≡ length words → AllByRecursion (λ index. index < n) indices
    → are_there indices words ≡ true
slots_there [] words n is all = refl
slots_there (index ∷ indices) words n is all =
    and_both _ (are_there indices words) (lt-ltb index (length words) (subst (λ m. index < m) is all.0))
    (slots_there indices words n is all.1)

-- an instruction that may be used names the cell that it touches
pub access_is : (i : Instr) (q : Processor) → is_supported i ≡ true → access_of i q ≡ touched_cell i
access_is (instr.LoadAt d c s) q supported = absurd (false≢true supported)
access_is (instr.StoreAt c s a) q supported = absurd (false≢true supported)
access_is i q supported = refl

-- and that is there
pub cells_there : (i : Instr) (q : Processor) (n : ℕ) → is_supported i ≡ true → n ≡ length q.cells
    → HasItsCell n (touched_cell i)
    → are_there (cells_of i q) q.cells ≡ true
cells_there i q n supported long has =
    ap (λ a. are_there (option_to_list (option_map cell_of a)) q.cells) (access_is i q supported)
    ∙ by (touched_cell i) has
  where
    by : (a : Option Access) → HasItsCell n a → are_there (option_to_list (option_map cell_of a)) q.cells ≡ true
    by None has = refl
    by (Some a) has =
        and_both _ true (lt-ltb (cell_of a) (length q.cells) (subst (λ m. cell_of a < m) long has)) refl

module _ (img : Image) (p : Point) where
  unnoted : (i : Instr) → IsOperable img p i → IsNotedWell img p i None → ActsOnSections p i None
  unnoted (instr.LoadAt d c s) op noted = absurd (false≢true op.supported)
  unnoted (instr.StoreAt c s a) op noted = absurd (false≢true op.supported)
  unnoted (instr.Alarm s irq) op noted = absurd (false≢true op.supported)
  unnoted instr.NoAlarm op noted = absurd (false≢true op.supported)
  unnoted (instr.Call row s) op noted = absurd (false≢true op.supported)
  unnoted instr.Back op noted = absurd (false≢true op.supported)
  unnoted (instr.Raise d v) op noted = absurd noted.has
  unnoted (instr.Restore s) op noted = absurd noted.has
  unnoted (instr.Mask d) op noted = absurd noted.has
  unnoted (instr.Unmask s) op noted = absurd noted.has
  unnoted instr.Serve op noted = absurd (none-some (note.End body.Init) noted.has)
  unnoted instr.Ret op noted = Returns op.ends.0.0 refl refl op.ends.0.1 op.ends.1
  unnoted i op noted = Simply refl refl noted.unsaved

  entered : (x : Section) (i : Instr) → opens i ≡ true → ActsOnSections p i (Some (note.Enter x))
  entered x instr.Mark is = Opens x Mark refl refl
  entered x (instr.Raise d v) is = Opens x (Raise d v) refl refl
  entered x (instr.Mask d) is = Opens x (Mask d) refl refl
  entered x i is = absurd (false≢true is)

  left : (x : Section) (i : Instr) (inside : List Opened) → p.inside ≡ inside → ClosesInnermost inside x i
      → ActsOnSections p i (Some (note.Leave x))
  left x i [] is closes = absurd closes
  left x i (o ∷ outer) is closes =
      Closes x o.kind outer (is ∙ ap (λ s. record { section = s; kind = o.kind } ∷ outer) closes.0) closes.1 refl

  begins_anew : (i : Instr) → JumpsInThread p.owner i → ActsOnSections p i (Some (note.End body.Idle))
  begins_anew (instr.Jump to) is = Anew to refl refl is
  begins_anew i is = absurd is

  pub line_is : (i : Instr) (told : Option Note) → IsOperable img p i → IsNotedWell img p i told
      → ActsOnSections p i told
  line_is i None op noted = unnoted i op noted
  line_is i (Some (note.Enter x)) op noted = entered x i noted.stands
  line_is i (Some (note.Leave x)) op noted = left x i p.inside refl noted.stands
  line_is i (Some (note.End body.Init)) op noted =
      let ends = subst (IsOperable img p) noted.stands op in EndsInit noted.stands refl ends.ends.0 ends.ends.1
  line_is i (Some (note.End body.Idle)) op noted = begins_anew i noted.stands
  line_is i (Some n) op noted = absurd noted.stands

-- the line at a point, with what the rules say of it
pub record HasLine (img : Image) (p : Point) : Type 0 where
  pub instr : Instr
  pub told : Option Note
  pub stands : StandsAt img p instr told
  pub operable : IsOperable img p instr
  pub noted : IsNotedWell img p instr told
  pub kind : ActsOnSections p instr told

module _ (img : Image) (checked : IsChecked img) where
  pub line_told : (p : Point) (i : Instr) (told : Option Note) → StandsAt img p i told → ActsOnSections p i told
  line_told p i told at = line_is img p i told (checked rule.Operands p i told at) (checked rule.Notes p i told at)

  pub line_at : (p : Point) → IsPoint img p → HasLine img p
  line_at p at =
      let line = there_is img.code p.address (checked rule.Addresses p at) in
      let stands : StandsAt img p line.0.0 line.0.1 = (at, line.1) in
      record {
        instr = line.0.0;
        told = line.0.1;
        stands = stands;
        operable = checked rule.Operands p line.0.0 line.0.1 stands;
        noted = checked rule.Notes p line.0.0 line.0.1 stands;
        kind = line_told p line.0.0 line.0.1 stands;
      }
