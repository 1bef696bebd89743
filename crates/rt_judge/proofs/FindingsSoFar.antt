-- What was found, with one more point.
use Rattle.std.proofs.Common.{◌≡◌, ◌↔◌, ◌&&◌, Bool, false, IsTrue, List, [], ◌∷◌, ◌++◌, slice_get}
use Rattle.std.proofs.Common.{Option}
use Rattle.std.proofs.Common.{Some, None, sym, ap, subst, ◌∙◌, map, append_assoc}
use mathlib.Core.List.{map-append}
use Rattle.std.proofs.lemmas.Option.{slice_get_within, slice_get-get_or}
use Rattle.rt_lemmas.proofs.Membership.{all_append}
use Rattle.rt_code.specs.Image.{Image}
use Rattle.rt_code.specs.declared.instr.Instr.{Instr}
use Rattle.rt_code.specs.declared.instr.Instr.TheVariants as instr
use Rattle.rt_code.specs.declared.instr.Note.{Note}
use Rattle.rt_points.specs.Point.{Point}
use Rattle.rt_points.specs.Rules.{IsOperable, IsNotedWell}
use Rattle.rt_points.specs.declared.point.Owner.{Owner}
use Rattle.rt_judge.specs.Inside.Points.{point}
use Rattle.rt_judge.specs.Inside.Visits.{Spot, point_of}
use Rattle.rt_judge.specs.Inside.Kept.{TellsOfAll, HasLine, OperatesAt, NotesAt}
use Rattle.rt_judge.proofs.Lines.{instr_in, note_in, told_line, no_line}
use Rattle.rt_judge.proofs.Seen.{tells_more, all_front, all_last}

-- at one point one line stands
module _ (img : Image) (p : Point) (i j : Instr) (told other : Option Note)
    (stands : slice_get img.code p.address ≡ Some (i, told))
    (there : slice_get img.code p.address ≡ Some (j, other)) where
  same_line : told_line i told ≡ told_line j other
  same_line =
      let was : slice_get img.code p.address ≡ told_line i told = stands in
      let is : slice_get img.code p.address ≡ told_line j other = there in
      sym was ∙ is

  pub one_instr : i ≡ j
  one_instr = ap (instr_in i) same_line

  pub one_note : told ≡ other
  one_note = ap (note_in told) same_line

module _ (img : Image) (ps : List Point) (p : Point) (i : Instr) (told : Option Note)
    (stands : slice_get img.code p.address ≡ Some (i, told)) where
  pub has_line : (b : Bool) → TellsOfAll b (HasLine img) ps → TellsOfAll b (HasLine img) (ps ++ p ∷ [])
  has_line b tells = (
    λ yes. all_append (HasLine img) ps (p ∷ []) (tells.0 yes) (
      slice_get_within img.code p.address (i, told) stands,
      tt,
    ),
    λ all. tells.1 (all_front (HasLine img) ps p all),
  )

  pub operates : (b r : Bool) → TellsOfAll b (OperatesAt img) ps → IsTrue r ↔ IsOperable img p i
      → TellsOfAll (b && r) (OperatesAt img) (ps ++ p ∷ [])
  operates b r tells one = tells_more b r (OperatesAt img) ps p tells (
    λ yes j other there. subst (IsOperable img p) (one_instr img p i j told other stands there) (one.0 yes),
    λ all. one.1 (all i told stands),
  )

  pub notes : (b r : Bool) → TellsOfAll b (NotesAt img) ps → IsTrue r ↔ IsNotedWell img p i told
      → TellsOfAll (b && r) (NotesAt img) (ps ++ p ∷ [])
  notes b r tells one = tells_more b r (NotesAt img) ps p tells (
    λ yes j other there. subst (λ k. IsNotedWell img p k other) (one_instr img p i j told other stands there)
        (subst (IsNotedWell img p i) (one_note img p i j told other stands there) (one.0 yes)),
    λ all. one.1 (all i told stands),
  )

-- a point without an instruction
module _ (img : Image) (ps : List Point) (p : Point) (absent : slice_get img.code p.address ≡ None) where
  pub nothing : (i : Instr) (told : Option Note) → slice_get img.code p.address ≡ Some (i, told) → ⊥
  nothing i told stands =
      let none : slice_get img.code p.address ≡ no_line = absent in
      let some : slice_get img.code p.address ≡ told_line i told = stands in
      absurd (let both : no_line ≡ told_line i told = sym none ∙ some in cc)

  pub no_address : (b : Bool) → TellsOfAll false (HasLine img) (ps ++ p ∷ [])
  no_address b = (
    λ no. absurd cc,
    λ all. absurd (let within = all_last (HasLine img) ps p all in
        nothing _ _ (slice_get-get_or img.code p.address (instr.Mark, None) within)),
  )

  pub operates_nowhere : (b : Bool) → TellsOfAll b (OperatesAt img) ps → TellsOfAll b (OperatesAt img) (ps ++ p ∷ [])
  operates_nowhere b tells = (
    λ yes. all_append (OperatesAt img) ps (p ∷ []) (tells.0 yes) (
      (λ i told stands. absurd (nothing i told stands)),
      tt,
    ),
    λ all. tells.1 (all_front (OperatesAt img) ps p all),
  )

  pub notes_nowhere : (b : Bool) → TellsOfAll b (NotesAt img) ps → TellsOfAll b (NotesAt img) (ps ++ p ∷ [])
  notes_nowhere b tells = (
    λ yes. all_append (NotesAt img) ps (p ∷ []) (tells.0 yes) ((λ i told stands. absurd (nothing i told stands)), tt),
    λ all. tells.1 (all_front (NotesAt img) ps p all),
  )

-- the points of the spots so far, one more
pub points_more : (owner : Owner) (ps : List Point) (done : List Spot) (spot : Spot)
    → (ps ++ map (point_of owner) done) ++ point spot.address owner spot.inside ∷ []
    ≡ ps ++ map (point_of owner) (done ++ spot ∷ [])
points_more owner ps done spot =
    append_assoc ps (map (point_of owner) done) (point_of owner spot ∷ [])
    ∙ ap (λ (qs : List Point). ps ++ qs) (sym (map-append (point_of owner) done (spot ∷ [])))
