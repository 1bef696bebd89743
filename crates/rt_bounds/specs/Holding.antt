-- What a slot holds at an address, whichever way an owner comes there: constants that are propagated through a run of
-- lines with one way in (Aho, Lam, Sethi and Ullman, Compilers, 2006, section 9.4, inside an extended basic block). A
-- job's slots are its own: nobody else writes them. The code goes back from line to line.
use Rattle.std.specs.Prelude.{◌≡◌, ◌≢◌, ℕ, suc, slice_get, Option, Some}
use Rattle.rt_code.specs.Image.{Image}
use Rattle.rt_code.specs.declared.image.Handler.{Handler}
use Rattle.rt_code.specs.declared.instr.Instr.{Instr}
use Rattle.rt_code.specs.declared.instr.Instr.TheVariants as instr
use Rattle.rt_code.specs.declared.instr.Note.{Note}
use Rattle.rt_points.specs.Leading.{IsPoint, LeadsTo, handler_at}
use Rattle.rt_points.specs.Point.{Point}
use Rattle.rt_points.specs.Rules.{written_slot}
use Rattle.rt_points.specs.declared.point.Owner.{Owner}
use Rattle.rt_points.specs.declared.point.Owner.TheVariants.{Starting, Thread, Handling}

-- an owner's code begins at an address; the thread's begins where that of `init` leads to
abbrev pub BeginsAt : Image → Owner → ℕ → Type 0
BeginsAt img Starting a = a ≡ 0
BeginsAt img Thread a = ⊥
BeginsAt img (Handling index) a = (h : Handler) × (handler_at img index ≡ Some h) × (h.entry ≡ a)

module _ (img : Image) (owner : Owner) where
  -- an owner comes to an address from another
  pub record ComesFrom (from to : ℕ) : Type 0 where
    pub before : Point
    pub after : Point
    pub point : IsPoint img before
    pub mine : before.owner ≡ owner
    pub leads : LeadsTo img before after
    pub still_mine : after.owner ≡ owner
    pub from_there : before.address ≡ from
    pub to_here : after.address ≡ to

  -- and from this one alone
  pub record ComesOnlyFrom (from to : ℕ) : Type 0 where
    pub comes : ComesFrom from to
    pub begins : ¬ BeginsAt img owner to
    pub alone : (p q : Point) → IsPoint img p → LeadsTo img p q → q.owner ≡ owner → q.address ≡ to
        → (p.owner ≡ owner) × (p.address ≡ from)

  -- A slot holds a value after the line at an address: the line sets it, or it leaves the slot alone, is come to from
  -- the line before alone, and the slot held the value after that.
  pub data HoldsAfter (slot value : ℕ) : ℕ → Type 0 where
    Sets : (a : ℕ) → (told : Option Note) → slice_get img.code a ≡ Some (instr.Set slot value, told)
        → HoldsAfter slot value a
    Keeps : (a : ℕ) → (line : Instr × Option Note) → slice_get img.code (suc a) ≡ Some line
        → written_slot line.0 ≢ Some slot → ComesOnlyFrom a (suc a) → HoldsAfter slot value a
        → HoldsAfter slot value (suc a)

  -- a slot holds a value where the line at an address begins: it did after the line before, and there is no other way
  pub record HoldsAt (slot value address : ℕ) : Type 0 where
    pub before : ℕ
    pub next : address ≡ suc before
    pub only : ComesOnlyFrom before address
    pub holds : HoldsAfter slot value before
