-- What is known of the ways behind an instruction, from the marks of its exits.
use Rattle.std.proofs.Common.{◌≡◌, ◌≢◌, ◌⊎◌, ◌≤◌, ◌<◌, ◌+◌, ℕ, zero, suc, max, true, false, nat_le, List, [], ◌∷◌}
use Rattle.std.proofs.Common.{◌++◌, ◌==◌, if◌then◌else◌, length, slice_get, Option, Some, None, refl, sym, ap, subst}
use Rattle.std.proofs.Common.{◌∙◌, inl, inr, ⊎_elim, arith}
use Rattle.std.specs.List.{AllByRecursion, Contains}
use Rattle.std.proofs.lemmas.Bool.{cases_lt}
use Rattle.rt_lemmas.proofs.Membership.{all_has, contains_cases, contains_here, contains_none, contains_there}
use Rattle.rt_code.specs.Image.{Image}
use Rattle.rt_code.specs.declared.instr.Instr.{Instr}
use Rattle.rt_code.specs.declared.instr.Instr.TheVariants as instr
use Rattle.rt_code.specs.declared.instr.Note.{Note}
use Rattle.rt_points.specs.Leading.{LeadsOn, owner_after}
use Rattle.rt_points.specs.Point.{Point}
use Rattle.rt_points.specs.declared.point.Opened.{Opened}
use Rattle.rt_points.specs.declared.point.Owner.{Owner}
use Rattle.rt_judge.specs.Inside.Exits.{targets, ends_init}
use Rattle.rt_judge.specs.Inside.Walks.{Reached}
use Rattle.rt_judge.proofs.ExitLists.{leads_listed, listed_leads, stays}
use Rattle.rt_bounds.specs.CountedWays.{all_left}
use Rattle.rt_bounds.specs.Inside.Aheads.{Ahead, There, Stops, Goes_on, IsEndlessAhead}
use Rattle.rt_bounds.specs.Inside.Surveys as spec
use Rattle.rt_bounds.specs.Inside.Surveys.{IsHop, IsThere, IsSurveying, point_at, mark_at, look_of, is_goal}
use Rattle.rt_bounds.specs.Inside.Surveys.{look_where, look_at, look_among, look_by, unseen}
use Rattle.rt_bounds.specs.Ways.{Goes, Comes, Here, Further, ComesToLoop}
use Rattle.rt_bounds.specs.declared.longest.TheConstants.{MOST_STEPS}
use Rattle.rt_bounds.specs.declared.survey.Mark.{Mark}
use Rattle.rt_bounds.specs.declared.survey.Mark.TheVariants as mark
use Rattle.rt_bounds.specs.declared.survey.Look.{Look}
use Rattle.rt_bounds.specs.declared.survey.Look.TheVariants as look
use Rattle.rt_bounds.proofs.Aheads.{shorter}
use Rattle.rt_bounds.proofs.Grounds.{HasAll, at_is, goes_there, goes_at, goes_to}
use Rattle.rt_bounds.proofs.Loops.{comes_then}
use Rattle.rt_bounds.proofs.Marks.{there_is}
use Rattle.rt_bounds.proofs.Trails.{comes_on, trail_comes, trail_long}

-- of the ways on from a point through these addresses, this is the longest
pub record IsMost (img : Image) (depth : ℕ) (goal : Option ℕ) (p : Point) (Among : ℕ → Type 0) (n : ℕ) : Type 0 where
  pub all : (q : Point) (m : ℕ) → Among q.address → Goes img depth p q → Ahead img depth goal true all_left q m → m ≤ n
  pub some : (n ≡ 0) ⊎ ((q : Point) × Among q.address × Goes img depth p q × Ahead img depth goal false all_left q n)

module _ (img : Image) (depth : ℕ) (goal : Option ℕ) (owner : Owner) (reached : Reached) (marks : List Mark) (used : ℕ)
    (top p : Point) where
  -- A look at these exits of a point tells what is so; a number of steps has room where so many addresses are in use.
  -- What is to be looked at, and loops, are told of the top of the trail.
  abbrev pub Tells : (ℕ → Type 0) → Look → Type 0
  Tells Among (look.Unseen b) = Among b × Goes img depth p (point_at owner reached b)
      × IsHop img depth goal top (point_at owner reached b) × IsThere reached b × (mark_at marks b ≡ mark.Unseen)
      × (goal ≢ Some b)
  Tells Among (look.Loop a) = IsEndlessAhead img depth goal top a
  Tells Among (look.Steps n) = IsMost img depth goal p Among n × (n + used ≤ MOST_STEPS + length marks)

  abbrev pub Or : (ℕ → Type 0) → (ℕ → Type 0) → ℕ → Type 0
  Or A B a = A a ⊎ B a

  abbrev SomeWay : (ℕ → Type 0) → ℕ → Type 0
  SomeWay A n = (n ≡ 0) ⊎ ((q : Point) × A q.address × Goes img depth p q × Ahead img depth goal false all_left q n)

  some_first : (A B : ℕ → Type 0) (n : ℕ) → SomeWay A n → SomeWay (Or A B) n
  some_first A B n (inl none) = inl none
  some_first A B n (inr one) = inr (one.0, inl one.1, one.2, one.3)

  some_second : (A B : ℕ → Type 0) (n : ℕ) → SomeWay B n → SomeWay (Or A B) n
  some_second A B n (inl none) = inl none
  some_second A B n (inr one) = inr (one.0, inr one.1, one.2, one.3)

  most_both : (A B : ℕ → Type 0) (m n : ℕ) → IsMost img depth goal p A m → IsMost img depth goal p B n
      → IsMost img depth goal p (Or A B) (max m n)
  most_both A B m n one other = ⊎_elim
      (λ lt. record {
        all = λ q k is goes way. ⊎_elim
            (λ a. let h = one.all q k a goes way in omega (arith, h, lt))
            (λ b. let h = other.all q k b goes way in omega (arith, h, lt))
            is;
        some = subst (SomeWay (Or A B)) (is_first lt) (some_first A B m one.some);
      })
      (λ le. record {
        all = λ q k is goes way. ⊎_elim
            (λ a. let h = one.all q k a goes way in omega (arith, h, le))
            (λ b. let h = other.all q k b goes way in omega (arith, h, le))
            is;
        some = subst (SomeWay (Or A B)) (is_second le) (some_second A B n other.some);
      })
      (cases_lt n m)
    where
      is_second : m ≤ n → n ≡ max m n
      is_second le = omega (arith, le)

      is_first : n < m → m ≡ max m n
      is_first lt = omega (arith, lt)

  pub tells_both : (A B : ℕ → Type 0) (one other : Look) → Tells A one → Tells B other
      → Tells (Or A B) (spec.both one other)
  tells_both A B (look.Unseen a) other first second = (inl first.0, first.1, first.2, first.3, first.4, first.5)
  tells_both A B (look.Loop a) (look.Unseen b) first second =
      (inr second.0, second.1, second.2, second.3, second.4, second.5)
  tells_both A B (look.Loop a) (look.Loop b) first second = first
  tells_both A B (look.Loop a) (look.Steps n) first second = first
  tells_both A B (look.Steps m) (look.Unseen b) first second =
      (inr second.0, second.1, second.2, second.3, second.4, second.5)
  tells_both A B (look.Steps m) (look.Loop b) first second = second
  tells_both A B (look.Steps m) (look.Steps n) first second =
      let one = first.1 in let other = second.1 in
      (most_both A B m n first.0 second.0, omega (arith, one, other))

  -- the same exits, in other words
  pub tells_alike : (A B : ℕ → Type 0) (l : Look) → ((a : ℕ) → B a → A a) → ((a : ℕ) → A a → B a) → Tells A l
      → Tells B l
  tells_alike A B (look.Unseen a) fewer more tells =
      (more a tells.0, tells.1, tells.2, tells.3, tells.4, tells.5)
  tells_alike A B (look.Loop a) fewer more tells = tells
  tells_alike A B (look.Steps n) fewer more tells = (
    record {
      all = λ q m is goes way. tells.0.all q m (fewer q.address is) goes way;
      some = ⊎_elim
          (λ none. inl none)
          (λ one. inr (one.0, more one.0.address one.1, one.2, one.3))
          tells.0.some;
    },
    tells.1,
  )

  -- nothing goes on through these exits
  pub tells_none : (A : ℕ → Type 0) → used ≤ length marks → ((q : Point) → A q.address → Goes img depth p q → ⊥)
      → Tells A (look.Steps 0)
  tells_none A room none = (
    record {
      all = λ q m is goes way. absurd (none q is goes);
      some = inl refl;
    },
    omega (arith, room),
  )

  -- ways end there
  pub tells_goal : (A : ℕ → Type 0) → used ≤ length marks → ((a : ℕ) → A a → goal ≡ Some a) → Tells A (look.Steps 0)
  tells_goal A room ends = (
    record {
      all = λ q m is goes way. there q m (ends q.address is) way;
      some = inl refl;
    },
    omega (arith, room),
  )
    where
      there : (q : Point) (m : ℕ) → goal ≡ Some q.address → Ahead img depth goal true all_left q m → m ≤ 0
      there q m at (There left same here) = omega arith
      there q m at (Stops left same apart may) = absurd (apart at)
      there q m at (Goes_on left same r n apart goes may way) = absurd (apart at)

-- through any exit
abbrev pub Anywhere : ℕ → Type 0
Anywhere a = Unit {0}

-- a loop is come to again
turns : (img : Image) (depth : ℕ) (t p : Point) → Comes img depth t p → Goes img depth p t
    → (next : Point) × Goes img depth t next × Comes img depth next t
turns img depth t p (Here same) goes = (t, goes, Here t)
turns img depth t p (Further s q r first rest) goes = (q, first, comes_then img depth q r s rest goes)

pub loop_here : (img : Image) (depth : ℕ) (t p : Point) → Comes img depth t p → Goes img depth p t
    → ComesToLoop img depth p t.address
loop_here img depth t p comes goes =
    let turn = turns img depth t p comes goes in
    record { turn = t; at = refl; comes = Further p t t goes (Here t); next = turn.0; goes = turn.1; again = turn.2 }

pub loop_from : (img : Image) (depth : ℕ) (p q : Point) (a : ℕ) → Comes img depth p q → ComesToLoop img depth q a
    → ComesToLoop img depth p a
loop_from img depth p q a comes loop = record {
  turn = loop.turn;
  at = loop.at;
  comes = comes_on img depth p q loop.turn comes loop.comes;
  next = loop.next;
  goes = loop.goes;
  again = loop.again;
}

-- a survey with an address at the end of its trail, from which an address with an exit is come to
module _ (img : Image) (owner : Owner) (reached : Reached) (mapped : HasAll img owner reached) (depth : ℕ)
    (goal : Option ℕ) (marks : List Mark) (rest : List ℕ) (top : ℕ)
    (survey : IsSurveying img owner reached depth goal marks (rest ++ top ∷ [])) (from : ℕ)
    (there : IsThere reached from) (Exit : ℕ → Type 0)
    (near : Comes img depth (point_at owner reached top) (point_at owner reached from))
    (longer : (q : Point) → Exit q.address → Goes img depth (point_at owner reached from) q → (m : ℕ)
    → Ahead img depth goal true all_left q m → Ahead img depth goal true all_left (point_at owner reached top) (suc m))
  where
    abbrev at : ℕ → Point
    at a = point_at owner reached a

    abbrev used : ℕ
    used = length (rest ++ top ∷ []) + unseen marks

    abbrev pub Says : (ℕ → Type 0) → Look → Type 0
    Says A l = Tells img depth goal owner reached marks used (at top) (at from) A l

    hop_to : (b : ℕ) → Exit b → Goes img depth (at from) (at b) → IsHop img depth goal (at top) (at b)
    hop_to b exit goes = by (at top) (at from) near goes (λ m way. longer (at b) exit goes m way)
      where
        by : (p q : Point) → Comes img depth p q → Goes img depth q (at b)
            → ((m : ℕ) → Ahead img depth goal true all_left (at b) m → Ahead img depth goal true all_left p (suc m))
            → IsHop img depth goal p (at b)
        by p q (Here same) goes more = record { next = at b; goes = goes; comes = Here (at b); longer = more }
        by p q (Further s t u first behind) goes more =
            record { next = t; goes = first; comes = comes_then img depth t u (at b) behind goes; longer = more }

    -- an address on the trail is come to again, so there are ways of any number of steps
    round_again : (b : ℕ) → Exit b → Goes img depth (at from) (at b) → Contains (rest ++ top ∷ []) b → (m : ℕ)
        → Ahead img depth goal true all_left (at b) (suc m)
    round_again b exit goes wide zero =
        Stops all_left (at b) (all_has (λ a. goal ≢ Some a) (rest ++ top ∷ []) b survey.aside wide) (inl refl)
    round_again b exit goes wide (suc m) =
        trail_long img depth goal owner reached rest top b (suc m) survey.leads wide
        (longer (at b) exit goes (suc m) (round_again b exit goes wide m))

    -- an exit that is in the region, by its mark
    by_mark : (b : ℕ) → IsThere reached b → goal ≢ Some b → Exit b → Goes img depth (at from) (at b) → (m : Mark)
        → mark_at marks b ≡ m → Says (λ a. a ≡ b) (look_of m b)
    by_mark b here apart exit goes mark.Unseen is = (refl, goes, hop_to b exit goes, here, is, apart)
    by_mark b here apart exit goes mark.Open is =
        let open_there = survey.opened b (there_is (slice_get marks b) mark.Open (λ e. cc) is) in
        record {
          loop = loop_from img depth (at top) (at from) b near (loop_here img depth (at b) (at from)
              (comes_on img depth (at b) (at top) (at from)
              (trail_comes img depth goal owner reached rest top b survey.leads open_there) near) goes);
          long = shorter img depth goal all_left (at top) (suc (suc MOST_STEPS)) MOST_STEPS (omega arith)
              (longer (at b) exit goes (suc MOST_STEPS) (round_again b exit goes open_there MOST_STEPS));
        }
    by_mark b here apart exit goes (mark.Steps n) is =
        let got = there_is (slice_get marks b) (mark.Steps n) (λ e. cc) is in
        let right = survey.right b (mark.Steps n) got in (
          record {
            all = λ q m at_b goes_q way.
                let same : at q.address ≡ q = goes_at img owner reached mapped from there depth q goes_q in
                let one : q ≡ at b = sym same ∙ ap at at_b in
                right.most m (subst (λ (r : Point). Ahead img depth goal true all_left r m) one way);
            some = inr (at b, refl, goes, right.way);
          },
          survey.room b (mark.Steps n) got,
        )
    by_mark b here apart exit goes (mark.Loop a) is =
        let got = there_is (slice_get marks b) (mark.Loop a) (λ e. cc) is in
        let right = survey.right b (mark.Loop a) got in
        record {
          loop = loop_from img depth (at top) (at b) a (comes_then img depth (at top) (at from) (at b) near goes) right.loop;
          long = shorter img depth goal all_left (at top) (suc (suc MOST_STEPS)) MOST_STEPS (omega arith)
              (longer (at b) exit goes (suc MOST_STEPS) right.long);
        }

    module _ (line : Instr × Option Note) (stands : slice_get img.code from ≡ Some line)
        (on : ends_init line.0 owner ≡ false) where
      -- an exit, by what is open there
      exit_where : (b : ℕ) → Exit b → goal ≢ Some b → LeadsOn line.0 from b → (o : Option (List Opened)) → reached b ≡ o
          → Says (λ a. a ≡ b) (look_where depth marks b o)
      exit_where b exit apart leads None is =
          tells_none img depth goal owner reached marks used (at top) (at from) (λ a. a ≡ b) survey.room_left
          (λ q same goes. let found = goes_there img owner reached mapped from there depth q goes in
          let e : Some found.0 ≡ None = sym found.1 ∙ ap reached same ∙ is in cc)
      exit_where b exit apart leads (Some inside) is =
          elim (nat_le depth (length inside)) as (λ c. nat_le depth (length inside) ≡ c
          → Says (λ a. a ≡ b) (if c then look_of (mark_at marks b) b else look.Steps 0)) [
            | true ↦ λ e. by_mark b (inside, is) apart exit
                (goes_to img owner reached mapped from there depth line stands on b leads inside is
                (let le : depth ≤ length inside = grind (arith, e) in le)) (mark_at marks b) refl
            | false ↦ λ e. tells_none img depth goal owner reached marks used (at top) (at from) (λ a. a ≡ b)
                survey.room_left
                (λ q same goes.
                let one = at_is img owner reached mapped b inside is in
                let back = goes_at img owner reached mapped from there depth q goes in
                let alike : inside ≡ q.inside = ap (λ r. r.inside) (sym one ∙ ap at (sym same) ∙ back) in
                let enough = goes.inside in
                let long = ap length alike in
                let few : length inside < depth = grind (arith, e) in
                absurd (omega (arith, enough, long, few)))
          ] refl

      -- and by the goal
      pub exit_at : (b : ℕ) → Exit b → LeadsOn line.0 from b
          → Says (λ a. a ≡ b) (look_at reached depth goal marks b)
      exit_at b exit leads = by goal refl
        where
          same_goal : (g : ℕ) → (g == b) ≡ true → g ≡ b
          same_goal g is = grind (arith, is)

          other_goal : (g : ℕ) → (g == b) ≡ false → Some g ≢ Some b
          other_goal g is = λ e. let f : g ≡ b = cc in let h : (g == b) ≡ true = grind (arith, f) in cc

          by : (o : Option ℕ) → goal ≡ o
              → Says (λ a. a ≡ b) (if is_goal o b then look.Steps 0 else look_where depth marks b (reached b))
          by None is = exit_where b exit (λ e. let f : None ≡ Some b = sym is ∙ e in cc) leads (reached b) refl
          by (Some g) is =
              elim (g == b) as (λ c. (g == b) ≡ c
              → Says (λ a. a ≡ b) (if c then look.Steps 0 else look_where depth marks b (reached b))) [
                | true ↦ λ e. tells_goal img depth goal owner reached marks used (at top) (at from) (λ a. a ≡ b)
                    survey.room_left (λ a same. is ∙ ap Some (same_goal g e ∙ sym same))
                | false ↦ λ e. exit_where b exit (λ f. other_goal g e (sym is ∙ f)) leads (reached b) refl
              ] refl

      exits : ((a : ℕ) → Exit a) → (bs : List ℕ) → length bs ≤ 2 → AllByRecursion (λ b. LeadsOn line.0 from b) bs
          → Says (Contains bs) (look_among reached depth goal marks bs)
      exits every [] few all = tells_none img depth goal owner reached marks used (at top) (at from) (Contains [])
          survey.room_left (λ q is goes. contains_none q.address is)
      exits every (a ∷ []) few all = tells_alike img depth goal owner reached marks used (at top) (at from) (λ n. n ≡ a)
          (Contains (a ∷ [])) (look_at reached depth goal marks a) (only a) (back a) (exit_at a (every a) all.0)
        where
          only : (a n : ℕ) → Contains (a ∷ []) n → n ≡ a
          only a n is = ⊎_elim (λ e. sym e) (λ none. absurd (contains_none n none)) (contains_cases a [] n is)

          back : (a n : ℕ) → n ≡ a → Contains (a ∷ []) n
          back a n same = subst (Contains (a ∷ [])) (sym same) (contains_here a [])
      exits every (a ∷ b ∷ []) few all = tells_alike img depth goal owner reached marks used (at top) (at from)
          (Or img depth goal owner reached marks used (at top) (at from) (λ n. n ≡ a) (λ n. n ≡ b)) (Contains (a ∷ b ∷ []))
          (spec.both (look_at reached depth goal marks a) (look_at reached depth goal marks b)) two back
          (tells_both img depth goal owner reached marks used (at top) (at from) (λ n. n ≡ a) (λ n. n ≡ b)
          (look_at reached depth goal marks a) (look_at reached depth goal marks b)
          (exit_at a (every a) all.0) (exit_at b (every b) all.1.0))
        where
          two : (n : ℕ) → Contains (a ∷ b ∷ []) n → (n ≡ a) ⊎ (n ≡ b)
          two n is = ⊎_elim (λ e. inl (sym e))
              (λ more. ⊎_elim (λ e. inr (sym e)) (λ none. absurd (contains_none n none)) (contains_cases b [] n more))
              (contains_cases a (b ∷ []) n is)

          back : (n : ℕ) → (n ≡ a) ⊎ (n ≡ b) → Contains (a ∷ b ∷ []) n
          back n (inl same) = subst (Contains (a ∷ b ∷ [])) (sym same) (contains_here a (b ∷ []))
          back n (inr same) = subst (Contains (a ∷ b ∷ [])) (sym same) (contains_there a (b ∷ []) b (contains_here b []))
      exits every (a ∷ b ∷ c ∷ more) few all = absurd (omega (arith, few))

    two_targets : (i : Instr) (a : ℕ) → length (targets i a) ≤ 2
    two_targets (instr.Jump l) a = omega arith
    two_targets (instr.JumpZ s l) a = omega arith
    two_targets instr.Wait a = omega arith
    two_targets (instr.Call row s) a = omega arith
    two_targets instr.Back a = omega arith
    two_targets instr.Ret a = omega arith
    two_targets i a = omega arith

    -- where an instruction goes is among its targets, unless it ends `init`
    goes_listed : (line : Instr × Option Note) → slice_get img.code from ≡ Some line → (q : Point)
        → Goes img depth (at from) q → Contains (targets line.0 from) q.address
    goes_listed line stands q goes =
        let same : goes.leads.line ≡ line =
        (let e : Some goes.leads.line ≡ Some line = sym goes.leads.stands ∙ stands in cc) in
        leads_listed line.0 from q.address (subst (λ (l : Instr × Option Note). LeadsOn l.0 from q.address) same
        goes.leads.address)

    goes_stays : (line : Instr × Option Note) → slice_get img.code from ≡ Some line → (q : Point)
        → Goes img depth (at from) q → ends_init line.0 owner ≡ false
    goes_stays line stands q goes =
        let same : goes.leads.line ≡ line =
        (let e : Some goes.leads.line ≡ Some line = sym goes.leads.stands ∙ stands in cc) in
        stays line.0 owner (subst (λ (l : Instr × Option Note). owner_after l.0 owner ≡ owner) same
        (sym goes.leads.owner ∙ goes.owner))

    abbrev pub SaysAll : Look → Type 0
    SaysAll l = Says Anywhere l

    -- through any exit is through these
    everywhere : (A : ℕ → Type 0) (l : Look) → ((q : Point) → Goes img depth (at from) q → A q.address) → Says A l
        → SaysAll l
    everywhere A (look.Unseen a) through says = (tt, says.1, says.2, says.3, says.4, says.5)
    everywhere A (look.Loop a) through says = says
    everywhere A (look.Steps n) through says = (
      record {
        all = λ q m is goes way. says.0.all q m (through q goes) goes way;
        some = ⊎_elim (λ none. inl none) (λ one. inr (one.0, tt, one.2, one.3)) says.0.some;
      },
      says.1,
    )

    by_line : ((a : ℕ) → Exit a) → (o : Option (Instr × Option Note)) → slice_get img.code from ≡ o
        → SaysAll (look_by reached depth goal marks owner from o)
    by_line every None is = tells_none img depth goal owner reached marks used (at top) (at from) Anywhere survey.room_left
        (λ q any goes. let e : Some goes.leads.line ≡ None = sym goes.leads.stands ∙ is in cc)
    by_line every (Some line) is =
        elim (ends_init line.0 owner) as (λ c. ends_init line.0 owner ≡ c
        → SaysAll (if c then look.Steps 0 else look_among reached depth goal marks (targets line.0 from))) [
          | true ↦ λ e. tells_none img depth goal owner reached marks used (at top) (at from) Anywhere survey.room_left
              (λ q any goes. let f = goes_stays line is q goes in cc)
          | false ↦ λ e. everywhere (Contains (targets line.0 from))
              (look_among reached depth goal marks (targets line.0 from)) (goes_listed line is)
              (exits line is e every (targets line.0 from) (two_targets line.0 from) (listed_leads line.0 from))
        ] refl

    pub look_tells : ((a : ℕ) → Exit a) → SaysAll (look_by reached depth goal marks owner from (slice_get img.code from))
    look_tells every = by_line every (slice_get img.code from) refl
