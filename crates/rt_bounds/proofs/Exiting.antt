-- The one way out of lines: what the code finds line by line is what is so of points.
use Rattle.std.proofs.Common.{◌≡◌, ◌≢◌, ◌⊎◌, ◌≤◌, ◌<◌, ℕ, suc, Bool, true, false, if◌then◌else◌}
use Rattle.std.proofs.Common.{slice_get, option_map, Option, Some, None, is_some}
use Rattle.std.proofs.Common.{refl, sym, ap, subst, ◌∙◌, inl, inr, ⊎_elim, arith}
use Rattle.std.proofs.lemmas.Bool.{cases_eq}
use Rattle.rt_code.specs.Image.{Image}
use Rattle.rt_code.specs.declared.instr.Instr.{Instr}
use Rattle.rt_code.specs.declared.instr.Instr.TheVariants as instr
use Rattle.rt_code.specs.declared.instr.Note.{Note}
use Rattle.rt_points.specs.Leading.{IsPoint, LeadsTo, LeadsOn, owner_after, inside_after}
use Rattle.rt_points.specs.Point.{Point}
use Rattle.rt_points.specs.declared.point.Owner.{Owner}
use Rattle.rt_judge.specs.Inside.Exits.{targets, ends_init}
use Rattle.rt_judge.specs.Inside.Nestings.{inside_of}
use Rattle.rt_judge.specs.Inside.Points.{point}
use Rattle.rt_judge.specs.Inside.Tables.{found}
use Rattle.rt_judge.specs.Inside.Walks.{reached_by}
use Rattle.rt_judge.specs.declared.nesting.Nesting.{Nesting}
use Rattle.rt_judge.specs.declared.walk.Walk.{Walk}
use Rattle.rt_judge.proofs.ExitLists.{stays, goes_on}
use Rattle.rt_bounds.specs.Inside.Shapes.{has, Has, LeavesOnce, leaving, leaving_at, leaving_among, leaving_two}
use Rattle.rt_bounds.specs.Inside.Shapes.{leaving_one, IsAmong, IsExit, IsOneExit}
use Rattle.rt_bounds.specs.declared.shape.Exit.{Exit}
use Rattle.rt_bounds.specs.declared.shape.Lines.{Lines}
use Rattle.rt_bounds.specs.declared.shape.Leaving.{Leaving}
use Rattle.rt_bounds.specs.declared.shape.Leaving.TheVariants.{Stays, Parts, Ends}
use Rattle.rt_bounds.proofs.Grounds.{HasAll}

abbrev Line : Type 0
Line = Instr × Option Note

pub has_so : (ls : Lines) (a : ℕ) → has ls a ≡ true → Has ls a
has_so ls a is =
    ((let h : ls.first ≤ a = grind (arith, is) in h), (let h : a ≤ ls.last = grind (arith, is) in h))

pub so_has : (ls : Lines) (a : ℕ) → Has ls a → has ls a ≡ true
so_has ls a is = let one = is.0 in let other = is.1 in grind (arith, one, other)

pub has_not : (ls : Lines) (a : ℕ) → has ls a ≡ false → ¬ Has ls a
has_not ls a is = λ h. let so = so_has ls a h in cc

not_has : (ls : Lines) (a : ℕ) → ¬ Has ls a → has ls a ≡ false
not_has ls a none = by (has ls a) refl
  where
    by : (b : Bool) → has ls a ≡ b → has ls a ≡ false
    by true is = absurd (none (has_so ls a is))
    by false is = is

-- a jump whose two ways part
pub record IsParting (ls : Lines) (at : ℕ) (next to : ℕ) (e : Exit) : Type 0 where
  pub here : e.jump ≡ at
  pub parts : ((e.stay ≡ next) × (e.out ≡ to)) ⊎ ((e.stay ≡ to) × (e.out ≡ next))
  pub stays_in : Has ls e.stay
  pub leads_out : ¬ Has ls e.out

pub none_so : (o : Option Exit) → is_some o ≡ false → o ≡ None
none_so None is = refl
none_so (Some e) is = absurd cc

pub same_parts : (d e : Exit) → Parts d ≡ Parts e → d ≡ e
same_parts d e is = ap (λ (l : Leaving). out_of l) is
  where
    out_of : Leaving → Exit
    out_of (Parts x) = x
    out_of other = d

parting : (ls : Lines) (at next to : ℕ) (e : Exit) → leaving_two ls at next to ≡ Parts e → IsParting ls at next to e
parting ls at next to e is = by (has ls next) (has ls to) refl refl is
  where
    by : (a b : Bool) → has ls next ≡ a → has ls to ≡ b
        → (if a then (if b then Stays else Parts (record { jump = at; stay = next; out = to }))
        else (if b then Parts (record { jump = at; stay = to; out = next }) else Ends)) ≡ Parts e
        → IsParting ls at next to e
    by true true one other is = absurd cc
    by true false one other is =
        subst (IsParting ls at next to) (same_parts (record { jump = at; stay = next; out = to }) e is)
        (record { here = refl; parts = inl (refl, refl); stays_in = has_so ls next one; leads_out = has_not ls to other })
    by false true one other is =
        subst (IsParting ls at next to) (same_parts (record { jump = at; stay = to; out = next }) e is)
        (record { here = refl; parts = inr (refl, refl); stays_in = has_so ls to other; leads_out = has_not ls next one })
    by false false one other is = absurd cc

-- only a jump of two ways parts
one_no_part : (ls : Lines) (to : ℕ) (e : Exit) → leaving_one ls to ≡ Parts e → ⊥
one_no_part ls to e is = by (has ls to) is
  where
    by : (b : Bool) → (if b then Stays else Ends) ≡ Parts e → ⊥
    by true is = absurd cc
    by false is = absurd cc

pub record PartsAt (ls : Lines) (i : Instr) (at : ℕ) (e : Exit) : Type 0 where
  pub slot : ℕ
  pub to : ℕ
  pub is : i ≡ instr.JumpZ slot to
  pub parting : IsParting ls at (suc at) to e

parts_instr : (ls : Lines) (i : Instr) (at : ℕ) (e : Exit) → leaving_among ls at (targets i at) ≡ Parts e
    → PartsAt ls i at e
parts_instr ls (instr.JumpZ s l) at e is =
    record { slot = s; to = l; is = refl; parting = parting ls at (suc at) l e is }
parts_instr ls (instr.Jump l) at e is = absurd (one_no_part ls l e is)
parts_instr ls instr.Wait at e is = absurd (one_no_part ls at e is)
parts_instr ls (instr.Call row s) at e is = absurd cc
parts_instr ls instr.Back at e is = absurd cc
parts_instr ls instr.Ret at e is = absurd cc
parts_instr ls i at e is = absurd (one_no_part ls (suc at) e is)

-- what parts, and what stays
pub record PartsHere (ls : Lines) (owner : Owner) (at : ℕ) (l : Option Line) (n : Option Nesting) (e : Exit)
    : Type 0 where
  pub line : Line
  pub stands : l ≡ Some line
  pub nesting : Nesting
  pub there : n ≡ Some nesting
  pub parts : PartsAt ls line.0 at e
  pub on : ends_init line.0 owner ≡ false

pub parts_here : (ls : Lines) (owner : Owner) (at : ℕ) (l : Option Line) (n : Option Nesting) (e : Exit)
    → leaving_at ls owner at l n ≡ Parts e → PartsHere ls owner at l n e
parts_here ls owner at None n e is = absurd cc
parts_here ls owner at (Some line) None e is = absurd cc
parts_here ls owner at (Some line) (Some nesting) e is = by (ends_init line.0 owner) refl is
  where
    by : (b : Bool) → ends_init line.0 owner ≡ b
        → (if b then Ends else leaving_among ls at (targets line.0 at)) ≡ Parts e
        → PartsHere ls owner at (Some line) (Some nesting) e
    by true ends is = absurd cc
    by false on is = record {
      line = line;
      stands = refl;
      nesting = nesting;
      there = refl;
      parts = parts_instr ls line.0 at e is;
      on = on;
    }

pub record StaysHere (ls : Lines) (owner : Owner) (at : ℕ) (line : Line) : Type 0 where
  pub on : ends_init line.0 owner ≡ false
  pub to : ℕ
  pub leads : LeadsOn line.0 at to
  pub all : (t : ℕ) → LeadsOn line.0 at t → Has ls t

one_stays : (ls : Lines) (to : ℕ) → leaving_one ls to ≡ Stays → Has ls to
one_stays ls to is = by (has ls to) refl is
  where
    by : (b : Bool) → has ls to ≡ b → (if b then Stays else Ends) ≡ Stays → Has ls to
    by true yes_it is = has_so ls to yes_it
    by false wrong is = absurd cc

two_stay : (ls : Lines) (at next to : ℕ) → leaving_two ls at next to ≡ Stays → Has ls next × Has ls to
two_stay ls at next to is = by (has ls next) (has ls to) refl refl is
  where
    by : (a b : Bool) → has ls next ≡ a → has ls to ≡ b
        → (if a then (if b then Stays else Parts (record { jump = at; stay = next; out = to }))
        else (if b then Parts (record { jump = at; stay = to; out = next }) else Ends)) ≡ Stays
        → Has ls next × Has ls to
    by true true one other is = (has_so ls next one, has_so ls to other)
    by true false one other is = absurd cc
    by false true one other is = absurd cc
    by false false one other is = absurd cc

stays_instr : (ls : Lines) (i : Instr) (at : ℕ) → leaving_among ls at (targets i at) ≡ Stays
    → ((to : ℕ) × LeadsOn i at to) × ((t : ℕ) → LeadsOn i at t → Has ls t)
stays_instr ls (instr.JumpZ s l) at is =
    let both = two_stay ls at (suc at) l is in (
      (l, inr refl),
      (λ t leads. ⊎_elim (λ e. subst (Has ls) (sym e) both.0) (λ e. subst (Has ls) (sym e) both.1) leads),
    )
stays_instr ls (instr.Jump l) at is = ((l, refl), (λ t e. subst (Has ls) (sym e) (one_stays ls l is)))
stays_instr ls instr.Wait at is = ((at, refl), (λ t e. subst (Has ls) (sym e) (one_stays ls at is)))
stays_instr ls (instr.Call row s) at is = absurd cc
stays_instr ls instr.Back at is = absurd cc
stays_instr ls instr.Ret at is = absurd cc
stays_instr ls i at is = ((suc at, refl), (λ t e. subst (Has ls) (sym e) (one_stays ls (suc at) is)))

pub stays_here : (ls : Lines) (owner : Owner) (at : ℕ) (line : Line) (nesting : Nesting)
    → leaving_at ls owner at (Some line) (Some nesting) ≡ Stays → StaysHere ls owner at line
stays_here ls owner at line nesting is = by (ends_init line.0 owner) refl is
  where
    by : (b : Bool) → ends_init line.0 owner ≡ b
        → (if b then Ends else leaving_among ls at (targets line.0 at)) ≡ Stays → StaysHere ls owner at line
    by true ends is = absurd cc
    by false on is =
        let both = stays_instr ls line.0 at is in
        record { on = on; to = both.0.0; leads = both.0.1; all = both.1 }

-- where all leads on in the lines it stays
pub here_stays : (ls : Lines) (owner : Owner) (at : ℕ) (line : Line) (nesting : Nesting) → StaysHere ls owner at line
    → leaving_at ls owner at (Some line) (Some nesting) ≡ Stays
here_stays ls owner at line nesting here =
    ap (λ (b : Bool). if b then Ends else leaving_among ls at (targets line.0 at)) here.on
    ∙ by line.0 here.to here.leads here.all
  where
    one : (to : ℕ) → Has ls to → leaving_one ls to ≡ Stays
    one to is = ap (λ (b : Bool). if b then Stays else Ends) (so_has ls to is)

    by : (i : Instr) (to : ℕ) → LeadsOn i at to → ((t : ℕ) → LeadsOn i at t → Has ls t)
        → leaving_among ls at (targets i at) ≡ Stays
    by (instr.JumpZ s l) to leads all =
        ap (λ (a : Bool). if a
        then (if has ls l then Stays else Parts (record { jump = at; stay = suc at; out = l }))
        else (if has ls l then Parts (record { jump = at; stay = l; out = suc at }) else Ends))
        (so_has ls (suc at) (all (suc at) (inl refl)))
        ∙ ap (λ (b : Bool). if b then Stays else Parts (record { jump = at; stay = suc at; out = l }))
        (so_has ls l (all l (inr refl)))
    by (instr.Jump l) to leads all = one l (all l refl)
    by instr.Wait to leads all = one at (all at refl)
    by (instr.Call row s) to leads all = absurd leads
    by instr.Back to leads all = absurd leads
    by instr.Ret to leads all = absurd leads
    by i to leads all = one (suc at) (all (suc at) refl)

-- the jump parts
pub jump_parts : (ls : Lines) (owner : Owner) (e : Exit) (slot to : ℕ) (told : Option Note) (nesting : Nesting)
    → ((e.stay ≡ suc e.jump) × (e.out ≡ to)) ⊎ ((e.stay ≡ to) × (e.out ≡ suc e.jump)) → Has ls e.stay → ¬ Has ls e.out
    → leaving_at ls owner e.jump (Some (instr.JumpZ slot to, told)) (Some nesting) ≡ Parts e
jump_parts ls owner e slot to told nesting parts inside outside = ⊎_elim
    (λ on. two true false (subst (λ n. has ls n ≡ true) on.0 (so_has ls e.stay inside))
    (subst (λ n. has ls n ≡ false) on.1 (not_has ls e.out outside))
    ∙ (λ k. Parts (record { jump = e.jump; stay = sym on.0 k; out = sym on.1 k })))
    (λ back. two false true (subst (λ n. has ls n ≡ false) back.1 (not_has ls e.out outside))
    (subst (λ n. has ls n ≡ true) back.0 (so_has ls e.stay inside))
    ∙ (λ k. Parts (record { jump = e.jump; stay = sym back.0 k; out = sym back.1 k })))
    parts
  where
    two : (a b : Bool) → has ls (suc e.jump) ≡ a → has ls to ≡ b
        → leaving_two ls e.jump (suc e.jump) to
        ≡ (if a then (if b then Stays else Parts (record { jump = e.jump; stay = suc e.jump; out = to }))
        else (if b then Parts (record { jump = e.jump; stay = to; out = suc e.jump }) else Ends))
    two a b one other =
        ap (λ (x : Bool). if x
        then (if has ls to then Stays else Parts (record { jump = e.jump; stay = suc e.jump; out = to }))
        else (if has ls to then Parts (record { jump = e.jump; stay = to; out = suc e.jump }) else Ends)) one
        ∙ ap (λ (y : Bool). if a
        then (if y then Stays else Parts (record { jump = e.jump; stay = suc e.jump; out = to }))
        else (if y then Parts (record { jump = e.jump; stay = to; out = suc e.jump }) else Ends)) other

module _ (img : Image) (owner : Owner) (walk : Walk) (ls : Lines) where
  abbrev out : ℕ → Leaving
  out a = leaving img owner walk ls a

  -- what was found of the lines before an address
  abbrev pub IsFoundTo : ℕ → Option Exit → Type 0
  IsFoundTo count None = (a : ℕ) → a < count → Has ls a → out a ≡ Stays
  IsFoundTo count (Some e) = Has ls e.jump × (e.jump < count) × (out e.jump ≡ Parts e)
      × ((a : ℕ) → a < count → Has ls a → (a ≡ e.jump) ⊎ (out a ≡ Stays))

  -- of points
  module _ (mapped : HasAll img owner (reached_by walk)) where
    -- a point of the owner where a walk came
    pub its_point : (a : ℕ) (nesting : Nesting) → found walk.table a ≡ Some nesting → (p : Point) × IsPoint img p
        × (p.owner ≡ owner) × (p.address ≡ a)
    its_point a nesting there =
        let inside = inside_of walk.nestings.opened.items nesting in
        let reached : reached_by walk a ≡ Some inside = ap (option_map (inside_of walk.nestings.opened.items)) there in
        (point a owner inside, mapped.points (record { address = a; inside = inside }) reached, refl, refl)

    -- and a walk came to each
    pub came : (p : Point) → IsPoint img p → p.owner ≡ owner → (nesting : Nesting)
        × (found walk.table p.address ≡ Some nesting)
    came p is mine = by (found walk.table p.address) refl (mapped.all p is mine)
      where
        by : (n : Option Nesting) → found walk.table p.address ≡ n
            → option_map (inside_of walk.nestings.opened.items) n ≡ Some p.inside
            → (nesting : Nesting) × (found walk.table p.address ≡ Some nesting)
        by None is has = absurd cc
        by (Some nesting) is has = (nesting, is)

    -- a point that an instruction leads to
    pub to_point : (p : Point) (line : Line) → slice_get img.code p.address ≡ Some line → (t : ℕ)
        → LeadsOn line.0 p.address t → (q : Point) × LeadsTo img p q × (q.address ≡ t)
        × (q.owner ≡ owner_after line.0 p.owner)
    to_point p line stands t leads = (
      point t (owner_after line.0 p.owner) (inside_after line.0 line.1 p.inside),
      record { line = line; stands = stands; address = leads; owner = refl; inside = refl },
      refl,
      refl,
    )

    pub its_line : (p q : Point) → (leads : LeadsTo img p q) → (line : Line) → slice_get img.code p.address ≡ Some line
        → LeadsOn line.0 p.address q.address × (q.owner ≡ owner_after line.0 p.owner)
    its_line p q leads line stands =
        let same : leads.line ≡ line = (let e : Some leads.line ≡ Some line = sym leads.stands ∙ stands in cc) in (
          subst (λ (l : Line). LeadsOn l.0 p.address q.address) same leads.address,
          subst (λ (l : Line). q.owner ≡ owner_after l.0 p.owner) same leads.owner,
        )

    module _ (e : Exit) (once : LeavesOnce img owner walk ls e) where
      parted : PartsHere ls owner e.jump (slice_get img.code e.jump) (found walk.table e.jump) e
      parted = parts_here ls owner e.jump (slice_get img.code e.jump) (found walk.table e.jump) e once.parts

      the_exit : IsExit img owner ls e
      the_exit =
          let p = its_point e.jump parted.nesting parted.there in
          let line = parted.line in
          let told : Option Note = line.1 in
          record {
            at = p.0;
            among = record { point = p.1; mine = p.2; inside = subst (Has ls) (sym p.3) once.jump };
            here = p.3;
            slot = parted.parts.slot;
            to = parted.parts.to;
            told = told;
            stands = parted.stands ∙ (λ k. Some (parted.parts.is k, told));
            parts = parted.parts.parting.parts;
            stays = parted.parts.parting.stays_in;
            leads_out = parted.parts.parting.leads_out;
          }

      -- each of the lines is the jump, or stays
      stay_line : (p : Point) → IsAmong img owner ls p → leaving img owner walk ls p.address ≡ Stays → (line : Line)
          → slice_get img.code p.address ≡ Some line → StaysHere ls owner p.address line
      stay_line p among is line stands =
          let n = came p among.point among.mine in
          stays_here ls owner p.address line n.0
          (sym (λ k. leaving_at ls owner p.address (stands k) (n.1 k)) ∙ is)

      left_by : (p q : Point) → IsAmong img owner ls p → LeadsTo img p q
          → (p.address ≡ e.jump) ⊎ (leaving img owner walk ls p.address ≡ Stays)
          → (q.owner ≡ owner) × (Has ls q.address ⊎ ((p.address ≡ e.jump) × (q.address ≡ e.out)))
      left_by p q among leads (inr is) =
          let here = stay_line p among is leads.line leads.stands in (
            leads.owner ∙ ap (owner_after leads.line.0) among.mine ∙ goes_on leads.line.0 owner here.on,
            inl (here.all q.address leads.address),
          )
      left_by p q among leads (inl at) =
          let on = its_line p q leads parted.line (ap (slice_get img.code) at ∙ parted.stands) in
          let jumps : LeadsOn (instr.JumpZ parted.parts.slot parted.parts.to) p.address q.address =
          subst (λ (i : Instr). LeadsOn i p.address q.address) parted.parts.is on.0 in (
            on.1 ∙ ap (owner_after parted.line.0) among.mine ∙ goes_on parted.line.0 owner parted.on,
            ⊎_elim
                (λ first. ⊎_elim
                (λ next. inl (subst (Has ls) (sym (next ∙ ap suc at ∙ sym first.0)) parted.parts.parting.stays_in))
                (λ to. inr (at, to ∙ sym first.1))
                jumps)
                (λ second. ⊎_elim
                (λ next. inr (at, next ∙ ap suc at ∙ sym second.1))
                (λ to. inl (subst (Has ls) (sym (to ∙ sym second.0)) parted.parts.parting.stays_in))
                jumps)
                parted.parts.parting.parts,
          )

      on_by : (p : Point) → IsAmong img owner ls p → (line : Line) → slice_get img.code p.address ≡ Some line
          → (p.address ≡ e.jump) ⊎ (leaving img owner walk ls p.address ≡ Stays) → (q : Point) × LeadsTo img p q
      on_by p among line stands (inr is) =
          let here = stay_line p among is line stands in
          let q = to_point p line stands here.to here.leads in
          (q.0, q.1)
      on_by p among line stands (inl at) =
          let jumps : LeadsOn parted.line.0 p.address (suc p.address) =
          subst (λ (i : Instr). LeadsOn i p.address (suc p.address)) (sym parted.parts.is) (inl refl) in
          let q = to_point p parted.line (ap (slice_get img.code) at ∙ parted.stands) (suc p.address) jumps in
          (q.0, q.1)

      pub one_exit : ((p : Point) → IsPoint img p → (line : Line) × (slice_get img.code p.address ≡ Some line))
          → IsOneExit img owner ls e
      one_exit lined = record {
        exit = the_exit;
        goes_on = λ p among.
            let line = lined p among.point in
            on_by p among line.0 line.1 (once.others p.address among.inside);
        left = λ p q among leads. left_by p q among leads (once.others p.address among.inside);
      }

    -- and back
    pub exit_once : (e : Exit) → IsOneExit img owner ls e → LeavesOnce img owner walk ls e
    exit_once e one =
        let exit = one.exit in
        let n = came exit.at exit.among.point exit.among.mine in
        let there : found walk.table e.jump ≡ Some n.0 = ap (found walk.table) (sym exit.here) ∙ n.1 in
        record {
          jump = subst (Has ls) exit.here exit.among.inside;
          parts = (λ k. leaving_at ls owner e.jump (exit.stands k) (there k))
              ∙ jump_parts ls owner e exit.slot exit.to exit.told n.0 exit.parts exit.stays exit.leads_out;
          others = λ a inside. ⊎_elim
              (λ same. inl same)
              (λ apart. inr (by a inside apart (slice_get img.code a) (found walk.table a) refl refl))
              (cases_eq a e.jump);
        }
      where
        by : (a : ℕ) → Has ls a → a ≢ e.jump → (l : Option Line) (n : Option Nesting) → slice_get img.code a ≡ l
            → found walk.table a ≡ n → leaving_at ls owner a l n ≡ Stays
        by a inside apart None n stands there = refl
        by a inside apart (Some line) None stands there = refl
        by a inside apart (Some line) (Some nesting) stands there =
            let p = its_point a nesting there in
            let among : IsAmong img owner ls p.0 =
            record { point = p.1; mine = p.2; inside = subst (Has ls) (sym p.3) inside } in
            let at_it : slice_get img.code p.0.address ≡ Some line = ap (slice_get img.code) p.3 ∙ stands in
            let q = one.goes_on p.0 among in
            let goes = its_line p.0 q.0 q.1 line at_it in
            let mine = (one.left p.0 q.0 among q.1).0 in
            here_stays ls owner a line nesting (record {
              on = stays line.0 owner (ap (owner_after line.0) (sym p.2) ∙ sym goes.1 ∙ mine);
              to = q.0.address;
              leads = subst (λ n. LeadsOn line.0 n q.0.address) p.3 goes.0;
              all = λ t leads.
                  let r = to_point p.0 line at_it t (subst (λ n. LeadsOn line.0 n t) (sym p.3) leads) in
                  ⊎_elim
                  (λ here. subst (Has ls) r.2 here)
                  (λ exits. absurd (apart (sym p.3 ∙ exits.0)))
                  (one.left p.0 r.0 among r.1).1;
            })
