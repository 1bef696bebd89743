-- A longest way goes to the end of what it is a bound of.
use Rattle.std.proofs.Common.{◌≡◌, ◌⊎◌, ◌≤◌, ◌<◌, ℕ, zero, suc, true, List, [], ◌∷◌, ◌++◌, length, drop, slice_get}
use Rattle.std.proofs.Common.{Option, Some, refl, sym, ap, subst, ◌∙◌, inl, inr, ⊎_elim, arith, length-append}
use Rattle.std.proofs.lemmas.Bool.{cases_lt}
use Rattle.rt_lemmas.proofs.Indices.{there_is}
use Rattle.rt_ids.specs.declared.ids.Section.{Section}
use Rattle.rt_code.specs.Image.{Image}
use Rattle.rt_code.specs.declared.image.Handler.{Handler}
use Rattle.rt_code.specs.declared.instr.Instr.{Instr}
use Rattle.rt_code.specs.declared.instr.Instr.TheVariants as instr
use Rattle.rt_code.specs.declared.instr.Note.{Note}
use Rattle.rt_code.specs.declared.instr.Note.TheVariants as note
use Rattle.rt_points.specs.Checked.{IsChecked}
use Rattle.rt_points.specs.Leading.{IsPoint, Begins, Enters, Leads, LeadsOn, StandsAt, handler_at, inside_after}
use Rattle.rt_points.specs.Leading.{kind_of, owner_after, starts_at}
use Rattle.rt_points.specs.Point.{Point}
use Rattle.rt_points.specs.Rules.{ClosesInnermost, EntersAt, IsOperable, MayEnd, StandsOn, is_supported, opens}
use Rattle.rt_points.specs.declared.point.Opened.{Opened}
use Rattle.rt_points.specs.declared.point.Owner.{Owner}
use Rattle.rt_points.specs.declared.point.Owner.TheVariants.{Starting, Handling}
use Rattle.rt_points.specs.declared.rule.Rule.TheVariants as rule
use Rattle.rt_judge.specs.Inside.Points.{point}
use Rattle.rt_bounds.specs.Bounds.{IsLongestFrom, IsOwnersBound, depth_inside}
use Rattle.rt_bounds.specs.Counting.{CountingLoop, IsCounting, IsInside as IsInLoop}
use Rattle.rt_bounds.specs.CountedWays.{CountedWay, Stops, Goes_on, Left, MayGo, all_left, left_after}
use Rattle.rt_bounds.specs.Laws.{BoundsReachEnds, LeadsToEnd, WayTo, Ends, Passes, ServesAt, ReturnsAt, LeavesAt}
use Rattle.rt_bounds.specs.Ways.{Goes}
use Rattle.rt_bounds.specs.declared.longest.Longest.TheVariants.{Steps}
use Rattle.rt_bounds.proofs.Nesting.{jump_out, one_jump}
use Rattle.rt_bounds.proofs.Setting.{same_line as one_line}

abbrev Line : Type 0
Line = Instr × Option Note

-- an instruction that may be used returns, or leads on
returns_or_leads : (i : Instr) (at : ℕ) → is_supported i ≡ true → (i ≡ instr.Ret) ⊎ ((to : ℕ) × LeadsOn i at to)
returns_or_leads (instr.Jump l) at is = inr (l, refl)
returns_or_leads (instr.JumpZ s l) at is = inr (l, inr refl)
returns_or_leads instr.Wait at is = inr (at, refl)
returns_or_leads (instr.Call row s) at is = absurd cc
returns_or_leads instr.Back at is = absurd cc
returns_or_leads instr.Ret at is = inl refl
returns_or_leads i at is = inr (suc at, refl)

-- who runs goes on, or `init` serves interrupts
stays_or_serves : (i : Instr) (owner : Owner) → (owner_after i owner ≡ owner)
    ⊎ ((i ≡ instr.Serve) × (owner ≡ Starting))
stays_or_serves instr.Serve Starting = inr (refl, refl)
stays_or_serves i owner = inl refl

-- what a line ends, where it goes on at no point with so many sections open
abbrev EndsBy : ℕ → Point → Line → Type 0
EndsBy depth p line = (line.0 ≡ instr.Ret) ⊎ (((line.0 ≡ instr.Serve) × (p.owner ≡ Starting))
    ⊎ (length (inside_after line.0 line.1 p.inside) < depth))

module _ (img : Image) (checked : IsChecked img) (depth : ℕ) where
  line_at_end : (p : Point) → IsPoint img p → ((q : Point) → Goes img depth p q → ⊥)
      → (line : Line) × (slice_get img.code p.address ≡ Some line) × EndsBy depth p line
  line_at_end p is none =
      let there = there_is img.code p.address (checked rule.Addresses p is) in
      let line : Line = there.0 in
      let stands : slice_get img.code p.address ≡ Some line = there.1 in
      let fits : IsOperable img p line.0 = checked rule.Operands p line.0 line.1 (is, stands) in (
        line,
        stands,
        ⊎_elim
            (λ returns. inl returns)
            (λ on. inr (⊎_elim
            (λ stays. ⊎_elim
            (λ fewer. inr fewer)
            (λ enough. absurd (none (point on.0 (owner_after line.0 p.owner) (inside_after line.0 line.1 p.inside))
            (record {
              leads = record { line = line; stands = stands; address = on.1; owner = refl; inside = refl };
              owner = stays;
              inside = enough;
            })))
            (cases_lt (length (inside_after line.0 line.1 p.inside)) depth))
            (λ serves. inl serves)
            (stays_or_serves line.0 p.owner)))
            (returns_or_leads line.0 p.address fits.supported),
      )

  -- a way has a last point, from where it may go on
  way_to : (left : Left) (p : Point) (n : ℕ) → CountedWay img depth left p n → (r : Point) × (l : Left)
      × WayTo img depth p n r
      × ((q : Point) → Goes img depth r q → MayGo img l r q → CountedWay img depth left p (suc n))
  way_to left p n (Stops l same) =
      (same, l, Ends same, (λ q goes may. Goes_on l same q 1 goes may (Stops (left_after l same q) q)))
  way_to left p n (Goes_on l same q m goes may way) =
      let on = way_to (left_after l same q) q m way in (
        on.0,
        on.1,
        Passes same q on.0 m goes on.2,
        (λ r step too. Goes_on l same q (suc m) goes may (on.3 r step too)),
      )

  -- where a loop that counts does not go on it leads out
  no_step : (l : Left) (r : Point) → ((q : Point) → Goes img depth r q → MayGo img l r q → ⊥) → (q : Point)
      → Goes img depth r q → ⊥
  no_step l r none q goes = none q goes (λ c counts at to. some c counts at to (l c) refl)
    where
      some : (c : CountingLoop) → IsCounting img r.owner c → r.address ≡ c.place.jump → q.address ≡ c.place.stay → (k : ℕ)
          → l c ≡ k → 0 < l c
      some c counts at to (suc k) is = omega (arith, is)
      some c counts at to zero is = absurd (
          let out = jump_out img r.owner c counts r at in
          let same = one_line img c.place.jump goes.leads.line out.1.line
          (ap (slice_get img.code) (sym at) ∙ goes.leads.stands) (ap (slice_get img.code) (sym at) ∙ out.1.stands) in
          let wide : q.inside ≡ out.0.inside =
          goes.leads.inside ∙ ap (λ (k : Line). inside_after k.0 k.1 r.inside) same ∙ sym out.1.inside in
          let enough = goes.inside in
          let long = ap length wide in
          let mine : out.0.owner ≡ r.owner =
          out.1.owner ∙ ap (λ (k : Line). owner_after k.0 r.owner) (sym same) ∙ sym goes.leads.owner ∙ goes.owner in
          none out.0 (record { leads = out.1; owner = mine; inside = omega (arith, enough, long) })
          (λ d other here stays. absurd (
          let one = one_jump img r.owner d c other counts (sym here ∙ at) in
          counts.loop.out (subst (IsInLoop c.place)
          (sym (sym out.2 ∙ stays ∙ ap (λ (x : CountingLoop). x.place.stay) one)) counts.loop.stay))))

  -- what is handed on from point to point is so at the last
  along : (P : Point → Type 0) → ((p q : Point) → P p → Goes img depth p q → P q) → (p r : Point) (n : ℕ)
      → WayTo img depth p n r → P p → P r
  along P on p r n (Ends same) here = here
  along P on p r n (Passes same s t m first way) here = along P on s t m way (on same s here first)

  -- a longest way does not go on
  longest_to : (p : Point) (n : ℕ) → IsLongestFrom img depth p n
      → (r : Point) × WayTo img depth p n r × ((q : Point) → Goes img depth r q → ⊥)
  longest_to p n longest =
      let to = way_to all_left p n longest.way in (
        to.0,
        to.2,
        no_step to.1 to.0 (λ q goes may. let more = longest.most (suc n) (to.3 q goes may) in
            omega (arith, more)),
      )

  -- a point of an owner
  abbrev IsOf : Owner → Point → Type 0
  IsOf owner p = IsPoint img p × (p.owner ≡ owner)

  of_on : (owner : Owner) (p q : Point) → IsOf owner p → Goes img depth p q → IsOf owner q
  of_on owner p q is goes = (Leads p q is.0 goes.leads, goes.owner ∙ is.1)

  may_end : (p : Point) (line : Line) (i : Instr) → IsPoint img p → slice_get img.code p.address ≡ Some line
      → line.0 ≡ i → MayEnd p.owner p.inside i
  may_end p line i is stands same = subst (λ (j : Instr). MayEnd p.owner p.inside j) same
      (checked rule.Operands p line.0 line.1 (is, stands)).ends

  stands_as : (p : Point) (line : Line) (i : Instr) → IsPoint img p → slice_get img.code p.address ≡ Some line
      → line.0 ≡ i → StandsAt img p i line.1
  stands_as p line i is stands same =
      (is, subst (λ (j : Instr). slice_get img.code p.address ≡ Some (j, line.1)) same stands)

-- `init` ends where it serves interrupts
init_ends : (img : Image) (steps : ℕ) → IsChecked img → IsOwnersBound img 0 Starting (Steps steps)
    → LeadsToEnd img 0 (starts_at 0 Starting) steps (ServesAt img)
init_ends img steps checked longest =
    let to = longest_to img checked 0 (starts_at 0 Starting) steps longest in
    let r = to.0 in
    let here = along img checked 0 (IsOf img checked 0 Starting) (of_on img checked 0 Starting) (starts_at 0 Starting) r
    steps to.1 (Begins, refl) in
    let end = line_at_end img checked 0 r here.0 to.2 in
    record {
      last = r;
      way = to.1;
      ends = ⊎_elim
          (λ returns. let may = may_end img checked 0 r end.0 instr.Ret here.0 end.1 returns in
          absurd (not_both r.owner may.0.0 may.0.1 here.1))
          (λ rest. ⊎_elim
          (λ serves. (end.0.1, stands_as img checked 0 r end.0 instr.Serve here.0 end.1 serves.0))
          (λ fewer. absurd (omega (arith, fewer)))
          rest)
          end.2;
    }
  where
    not_both : (owner : Owner) (index : ℕ) → owner ≡ Handling index → owner ≡ Starting → ⊥
    not_both owner index one other = let e : Handling index ≡ Starting = sym one ∙ other in absurd cc

-- a handler ends at its return
handler_ends : (img : Image) (index steps : ℕ) (h : Handler) → IsChecked img → handler_at img index ≡ Some h
    → IsOwnersBound img h.entry (Handling index) (Steps steps)
    → LeadsToEnd img 0 (starts_at h.entry (Handling index)) steps (ReturnsAt img)
handler_ends img index steps h checked enabled longest =
    let to = longest_to img checked 0 (starts_at h.entry (Handling index)) steps longest in
    let r = to.0 in
    let here = along img checked 0 (IsOf img checked 0 (Handling index)) (of_on img checked 0 (Handling index))
    (starts_at h.entry (Handling index)) r steps to.1 (Enters index h enabled, refl) in
    let end = line_at_end img checked 0 r here.0 to.2 in
    record {
      last = r;
      way = to.1;
      ends = ⊎_elim
          (λ returns. (end.0.1, stands_as img checked 0 r end.0 instr.Ret here.0 end.1 returns))
          (λ rest. ⊎_elim
          (λ serves. absurd (not_both r.owner here.1 serves.1))
          (λ fewer. absurd (omega (arith, fewer)))
          rest)
          end.2;
    }
  where
    not_both : (owner : Owner) → owner ≡ Handling index → owner ≡ Starting → ⊥
    not_both owner one other = let e : Handling index ≡ Starting = sym one ∙ other in absurd cc

-- fewer sections are open behind a line only where one is left
left_there : (i : Instr) (told : Option Note) (inside : List Opened)
    → length (inside_after i told inside) < length inside → (y : Section) × (told ≡ Some (note.Leave y))
left_there i (Some (note.Leave y)) inside less = (y, refl)
left_there i (Some (note.Enter y)) inside less = absurd (omega (arith, less))
left_there i told inside less = absurd (omega (arith, less))

module _ (o : Opened) (outer : List Opened) where
  -- a section and those around it are open, and maybe others inside it
  abbrev IsInside : List Opened → Type 0
  IsInside inside = (more : List Opened) × (inside ≡ more ++ o ∷ outer)

  inside_many : (inside : List Opened) → IsInside inside → suc (length outer) ≤ length inside
  inside_many inside is =
      let long = ap length is.1 in
      let sum = length-append is.0 (o ∷ outer) in
      omega (arith, long, sum)

  behind_leave : (more inside next : List Opened) → inside ≡ more ++ o ∷ outer → next ≡ drop 1 inside
      → suc (length outer) ≤ length next → IsInside next
  behind_leave [] inside next same is many =
      let long : length next ≡ length outer = ap length (is ∙ ap (drop 1) same) in
      absurd (omega (arith, long, many))
  behind_leave (m ∷ more) inside next same is many = (more, is ∙ ap (drop 1) same)

  inside_next : (i : Instr) (told : Option Note) (inside next : List Opened) → IsInside inside
      → next ≡ inside_after i told inside → suc (length outer) ≤ length next → IsInside next
  inside_next i (Some (note.Enter y)) inside next within is many =
      let new : Opened = record { section = y; kind = kind_of i } in
      (new ∷ within.0, is ∙ ap (λ (xs : List Opened). new ∷ xs) within.1)
  inside_next i (Some (note.Leave y)) inside next within is many =
      behind_leave within.0 inside next within.1 is many
  inside_next i told inside next within is many = (within.0, is ∙ within.1)

  -- where it is left it is the innermost
  innermost : (more inside : List Opened) (y : Section) (i : Instr) → inside ≡ more ++ o ∷ outer
      → length (drop 1 inside) < suc (length outer) → ClosesInnermost inside y i → o.section ≡ y
  innermost [] inside y i same few closes =
      (subst (λ (xs : List Opened). ClosesInnermost xs y i) same closes).0
  innermost (m ∷ more) inside y i same few closes =
      let long : length (drop 1 inside) ≡ length (more ++ o ∷ outer) =
      ap (λ (xs : List Opened). length (drop 1 xs)) same in
      let sum = length-append more (o ∷ outer) in
      absurd (omega (arith, long, sum, few))

some_line : (a b : Line) → Some a ≡ Some b → a ≡ b
some_line a b e = cc

module _ (img : Image) (p : Point) (i : Instr) (x : Section) (steps : ℕ) (checked : IsChecked img)
    (enters : EntersAt img p i x) where
  abbrev depth : ℕ
  depth = depth_inside p

  abbrev opened : Opened
  opened = record { section = x; kind = kind_of i }

  abbrev Within : Point → Type 0
  Within q = IsPoint img q × IsInside opened p.inside q.inside

  same_line : (line : Line) → slice_get img.code p.address ≡ Some line → line ≡ (i, Some (note.Enter x))
  same_line line stands = some_line line (i, Some (note.Enter x)) (sym stands ∙ enters.1)

  first_within : (q : Point) → Goes img depth p q → Within q
  first_within q goes =
      let leads = goes.leads in (
        Leads p q enters.0 leads,
        (
          [],
          leads.inside
              ∙ ap (λ (l : Line). inside_after l.0 l.1 p.inside) (same_line leads.line leads.stands),
        ),
      )

  within_on : (q r : Point) → Within q → Goes img depth q r → Within r
  within_on q r is goes =
      let leads = goes.leads in (
        Leads q r is.0 leads,
        inside_next opened p.inside leads.line.0 leads.line.1 q.inside r.inside is.1 leads.inside goes.inside,
      )

  opening : opens i ≡ true
  opening = (checked rule.Notes p i (Some (note.Enter x)) enters).stands

  -- it does not end where it is entered
  not_first : (line : Line) → slice_get img.code p.address ≡ Some line → EndsBy depth p line → ⊥
  not_first line stands (inl returns) =
      let same : i ≡ instr.Ret = sym (ap (λ (l : Line). l.0) (same_line line stands)) ∙ returns in
      let opened_by : opens instr.Ret ≡ true = subst (λ (j : Instr). opens j ≡ true) same opening in
      absurd cc
  not_first line stands (inr (inl serves)) =
      let same : i ≡ instr.Serve = sym (ap (λ (l : Line). l.0) (same_line line stands)) ∙ serves.0 in
      let opened_by : opens instr.Serve ≡ true = subst (λ (j : Instr). opens j ≡ true) same opening in
      absurd cc
  not_first line stands (inr (inr fewer)) =
      let long : length (inside_after line.0 line.1 p.inside) ≡ depth =
      ap (λ (l : Line). length (inside_after l.0 l.1 p.inside)) (same_line line stands) in
      absurd (omega (arith, long, fewer))

  -- and at a point inside it ends only by its leaving
  leaves : (r : Point) → Within r → (line : Line) → slice_get img.code r.address ≡ Some line → EndsBy depth r line
      → LeavesAt img x r
  leaves r is line stands (inl returns) =
      let may = may_end img checked depth r line instr.Ret is.0 stands returns in
      let many = inside_many opened p.inside r.inside is.1 in
      let none = ap length may.1 in
      absurd (omega (arith, many, none))
  leaves r is line stands (inr (inl serves)) =
      let may = may_end img checked depth r line instr.Serve is.0 stands serves.0 in
      let many = inside_many opened p.inside r.inside is.1 in
      let none = ap length may.1 in
      absurd (omega (arith, many, none))
  leaves r is line stands (inr (inr fewer)) =
      let many = inside_many opened p.inside r.inside is.1 in
      let left = left_there line.0 line.1 r.inside (omega (arith, many, fewer)) in
      let noted = checked rule.Notes r line.0 line.1 (is.0, stands) in
      let closes : ClosesInnermost r.inside left.0 line.0 =
      subst (λ (told : Option Note). StandsOn r.owner r.inside told line.0) left.1 noted.stands in
      let few : length (drop 1 r.inside) < depth =
      subst (λ (told : Option Note). length (inside_after line.0 told r.inside) < depth) left.1 fewer in
      let mine : x ≡ left.0 =
      innermost opened p.inside is.1.0 r.inside left.0 line.0 is.1.1 few closes in (
        line.0,
        (
          is.0,
          stands ∙ ap (λ (told : Option Note). Some (line.0, told)) left.1
              ∙ ap (λ (y : Section). Some (line.0, Some (note.Leave y))) (sym mine),
        ),
      )

  by_way : (q r : Point) (n : ℕ) → WayTo img depth q n r → q ≡ p → ((s : Point) → Goes img depth r s → ⊥)
      → LeavesAt img x r
  by_way q r n (Ends same) is_p none =
      let end = line_at_end img checked depth p enters.0
      (subst (λ (o : Point). (s : Point) → Goes img depth o s → ⊥) is_p none) in
      absurd (not_first end.0 end.1 end.2)
  by_way q r n (Passes same s t m goes way) is_p none =
      let first : Goes img depth p s = subst (λ (o : Point). Goes img depth o s) is_p goes in
      let here = along img checked depth Within within_on s t m way (first_within s first) in
      let end = line_at_end img checked depth t here.0 none in
      leaves t here end.0 end.1 end.2

  section_ends : IsLongestFrom img depth p steps → LeadsToEnd img depth p steps (LeavesAt img x)
  section_ends longest =
      let to = longest_to img checked depth p steps longest in
      record { last = to.0; way = to.1; ends = by_way p to.0 steps to.1 refl to.2 }

pub bounds_reach_ends : BoundsReachEnds
bounds_reach_ends = record { init = init_ends; handler = handler_ends; section = section_ends_of }
  where
    section_ends_of : (img : Image) (p : Point) (i : Instr) (x : Section) (steps : ℕ) → IsChecked img
        → EntersAt img p i x → IsLongestFrom img (depth_inside p) p steps
        → LeadsToEnd img (depth_inside p) p steps (LeavesAt img x)
    section_ends_of img p i x steps checked enters longest = section_ends img p i x steps checked enters longest
