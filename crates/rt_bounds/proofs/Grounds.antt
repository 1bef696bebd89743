-- The points of one owner, by their addresses.
use Rattle.std.proofs.Common.{◌≡◌, ◌≤◌, ◌<◌, ℕ, List, [], length, slice_get, Option, Some, unwrap_or}
use Rattle.std.proofs.Common.{refl, sym, ap, subst, ◌∙◌, false}
use Rattle.rt_code.specs.Image.{Image}
use Rattle.rt_code.specs.declared.instr.Instr.{Instr}
use Rattle.rt_code.specs.declared.instr.Note.{Note}
use Rattle.rt_points.specs.Leading.{IsPoint, Leads, LeadsOn, LeadsTo, inside_after}
use Rattle.rt_points.specs.Point.{Point}
use Rattle.rt_points.specs.declared.point.Opened.{Opened}
use Rattle.rt_points.specs.declared.point.Owner.{Owner}
use Rattle.rt_points.specs.Rules.{StaysInCode}
use Rattle.rt_judge.specs.Inside.Exits.{ends_init}
use Rattle.rt_judge.specs.Inside.Points.{point}
use Rattle.rt_judge.specs.Inside.Visits.{Spot, point_of, spot_of}
use Rattle.rt_judge.specs.Inside.Walks.{Reached, Has}
use Rattle.rt_judge.proofs.ExitLists.{goes_on}
use Rattle.rt_bounds.specs.Inside.Surveys.{IsThere, point_at}
use Rattle.rt_bounds.specs.Ways.{Goes}

-- a table has the points of an owner, all of them and no others
pub record HasAll (img : Image) (owner : Owner) (reached : Reached) : Type 0 where
  pub points : (spot : Spot) → Has reached spot → IsPoint img (point_of owner spot)
  pub all : (p : Point) → IsPoint img p → p.owner ≡ owner → Has reached (spot_of p)
  pub stays : StaysInCode img

module _ (img : Image) (owner : Owner) (reached : Reached) (mapped : HasAll img owner reached) where
  abbrev at : ℕ → Point
  at a = point_at owner reached a

  pub at_is : (a : ℕ) (inside : List Opened) → reached a ≡ Some inside → at a ≡ point a owner inside
  at_is a inside is = ap (λ (o : Option (List Opened)). point a owner (unwrap_or o [])) is

  pub at_point : (a : ℕ) → IsThere reached a → IsPoint img (at a)
  at_point a there =
      subst (IsPoint img) (sym (at_is a there.0 there.1))
      (mapped.points (record { address = a; inside = there.0 }) there.1)

  pub at_within : (a : ℕ) → IsThere reached a → a < length img.code
  at_within a there = mapped.stays (at a) (at_point a there)

  pub point_there : (q : Point) → IsPoint img q → q.owner ≡ owner → IsThere reached q.address
  point_there q is mine = (q.inside, mapped.all q is mine)

  pub is_at : (q : Point) → IsPoint img q → q.owner ≡ owner → at q.address ≡ q
  is_at q is mine =
      let e = at_is q.address q.inside (mapped.all q is mine) in
      e ∙ (λ i. record { address = q.address; owner = sym mine i; inside = q.inside })

  -- what a point of the owner goes to is one too
  module _ (a : ℕ) (there : IsThere reached a) (depth : ℕ) where
    pub goes_point : (q : Point) → Goes img depth (at a) q → IsPoint img q
    goes_point q goes = Leads (at a) q (at_point a there) goes.leads

    pub goes_there : (q : Point) → Goes img depth (at a) q → IsThere reached q.address
    goes_there q goes = point_there q (goes_point q goes) goes.owner

    pub goes_at : (q : Point) → Goes img depth (at a) q → at q.address ≡ q
    goes_at q goes = is_at q (goes_point q goes) goes.owner

    -- an exit in the region
    pub goes_to : (line : Instr × Option Note) → slice_get img.code a ≡ Some line → ends_init line.0 owner ≡ false
        → (b : ℕ) → LeadsOn line.0 a b → (inside : List Opened) → reached b ≡ Some inside → depth ≤ length inside
        → Goes img depth (at a) (at b)
    goes_to line stands on b leads inside is enough =
        let q : Point = point b owner (inside_after line.0 line.1 (at a).inside) in
        let to : LeadsTo img (at a) q = record {
          line = line;
          stands = stands;
          address = leads;
          owner = sym (goes_on line.0 owner on);
          inside = refl;
        } in
        let same : at b ≡ q = is_at q (Leads (at a) q (at_point a there) to) refl in
        record {
          leads = subst (LeadsTo img (at a)) (sym same) to;
          owner = refl;
          inside = subst (λ (o : Option (List Opened)). depth ≤ length (unwrap_or o [])) (sym is) enough;
        }
