-- A loop of lines, as the code finds it and as it is.
use Rattle.std.proofs.Common.{◌≡◌, ◌⊎◌, ◌≤◌, ◌<◌, ◌-◌, ◌==◌, ◌&&◌, ℕ, suc, nat_le, not, Bool, true, false}
use Rattle.std.proofs.Common.{if◌then◌else◌, slice_get, Option, Some, None}
use Rattle.std.proofs.Common.{refl, sym, ap, subst, ◌∙◌, inl, inr, ⊎_elim, arith}
use Rattle.rt_code.specs.Image.{Image}
use Rattle.rt_code.specs.declared.instr.Instr.{Instr}
use Rattle.rt_code.specs.declared.instr.Instr.TheVariants as instr
use Rattle.rt_code.specs.declared.instr.Note.{Note}
use Rattle.rt_points.specs.Leading.{Leads, LeadsOn, owner_after}
use Rattle.rt_points.specs.Point.{Point}
use Rattle.rt_points.specs.declared.point.Owner.{Owner}
use Rattle.rt_judge.specs.Inside.Exits.{targets, ends_init}
use Rattle.rt_judge.specs.Inside.Tables.{found}
use Rattle.rt_judge.specs.Inside.Walks.{reached_by}
use Rattle.rt_judge.specs.declared.nesting.Nesting.{Nesting}
use Rattle.rt_judge.specs.declared.walk.Walk.{Walk}
use Rattle.rt_judge.proofs.ExitLists.{goes_on, stays}
use Rattle.rt_bounds.specs.Counting.{Place, IsIn, IsLoop, JumpsBack}
use Rattle.rt_bounds.specs.Inside.Shapes.{has, Has, IsAmong, IsShape, head_among, head_at, head_of, lines_by, lines_at}
use Rattle.rt_bounds.specs.declared.shape.Exit.{Exit}
use Rattle.rt_bounds.specs.declared.shape.Lines.{Lines}
use Rattle.rt_bounds.proofs.Exiting.{its_point, to_point, came, so_has, has_so}
use Rattle.rt_bounds.proofs.Grounds.{HasAll}

abbrev Line : Type 0
Line = Instr × Option Note

-- the lines that are found, and their jump back
pub record IsBack (ls : Lines) (last : ℕ) (l : Option Line) (n : Option Nesting) : Type 0 where
  pub line : Line
  pub stands : l ≡ Some line
  pub nesting : Nesting
  pub there : n ≡ Some nesting
  pub last_is : ls.last ≡ last
  pub low : ls.first ≤ ls.last
  pub jumps : JumpsBack line.0 ls.first

same_lines : (c d : Lines) → Some c ≡ Some d → c ≡ d
same_lines c d is = cc

by_first : (first last : ℕ) (ls : Lines) → (b : Bool) → nat_le first last ≡ b
    → (if b then Some (record { first = first; last = last }) else None) ≡ Some ls
    → (ls.first ≡ first) × (ls.last ≡ last) × (first ≤ last)
by_first first last ls true low is =
    let same = same_lines (record { first = first; last = last }) ls is in (
      sym (ap (λ (x : Lines). x.first) same),
      sym (ap (λ (x : Lines). x.last) same),
      (let h : first ≤ last = grind (arith, low) in h),
    )
by_first first last ls false low is = absurd cc

by_instr : (i : Instr) (last : ℕ) (ls : Lines) → lines_by i last ≡ Some ls
    → (ls.last ≡ last) × (ls.first ≤ ls.last) × JumpsBack i ls.first
by_instr (instr.Jump l) last ls is =
    let h = by_first l last ls (nat_le l last) refl is in
    let one = h.0 in
    let other = h.1 in
    let low = h.2 in
    (h.1, (let e : ls.first ≤ ls.last = omega (arith, one, other, low) in e), sym h.0)
by_instr (instr.JumpZ s l) last ls is =
    let h = by_first l last ls (nat_le l last) refl is in
    let one = h.0 in
    let other = h.1 in
    let low = h.2 in
    (h.1, (let e : ls.first ≤ ls.last = omega (arith, one, other, low) in e), sym h.0)
by_instr i last ls is = absurd cc

pub lines_back : (ls : Lines) (last : ℕ) (l : Option Line) (n : Option Nesting) → lines_at last l n ≡ Some ls
    → IsBack ls last l n
lines_back ls last None n is = absurd cc
lines_back ls last (Some line) None is = absurd cc
lines_back ls last (Some line) (Some nesting) is =
    let h = by_instr line.0 last ls is in
    record {
      line = line;
      stands = refl;
      nesting = nesting;
      there = refl;
      last_is = h.0;
      low = h.1;
      jumps = h.2;
    }

-- and back
back_by : (i : Instr) (last first : ℕ) → first ≤ last → JumpsBack i first
    → lines_by i last ≡ Some (record { first = first; last = last })
back_by (instr.Jump l) last first low is =
    let le : nat_le l last ≡ true = grind (arith, low, is) in
    ap (λ (b : Bool). if b then Some (record { first = l; last = last }) else None) le
    ∙ (λ k. Some (record { first = is k; last = last }))
back_by (instr.JumpZ s l) last first low is =
    let le : nat_le l last ≡ true = grind (arith, low, is) in
    ap (λ (b : Bool). if b then Some (record { first = l; last = last }) else None) le
    ∙ (λ k. Some (record { first = is k; last = last }))
back_by i last first low is = absurd is

-- the head that is found
pub record IsHeadOf (img : Image) (owner : Owner) (walk : Walk) (ls : Lines) (head : ℕ) : Type 0 where
  pub some : 0 < ls.first
  pub line : Line
  pub stands : slice_get img.code (ls.first - 1) ≡ Some line
  pub nesting : Nesting
  pub there : found walk.table (ls.first - 1) ≡ Some nesting
  pub on : ends_init line.0 owner ≡ false
  pub among : head_among ls (targets line.0 (ls.first - 1)) ≡ Some head

pub head_is : (img : Image) (owner : Owner) (walk : Walk) (ls : Lines) (head : ℕ) → head_of img owner walk ls ≡ Some head
    → IsHeadOf img owner walk ls head
head_is img owner walk ls head is = by_zero (ls.first == 0) refl is
  where
    before : ℕ
    before = ls.first - 1

    by_end : (line : Line) (b : Bool) → ends_init line.0 owner ≡ b
        → (if b then None else head_among ls (targets line.0 (ls.first - 1))) ≡ Some head
        → (ends_init line.0 owner ≡ false) × (head_among ls (targets line.0 (ls.first - 1)) ≡ Some head)
    by_end line true on is = absurd cc
    by_end line false on is = (on, is)

    by_parts : 0 < ls.first → (l : Option Line) → slice_get img.code (ls.first - 1) ≡ l → (n : Option Nesting)
        → found walk.table (ls.first - 1) ≡ n
        → head_at ls owner (ls.first - 1) l n ≡ Some head → IsHeadOf img owner walk ls head
    by_parts some None stands n there is = absurd cc
    by_parts some (Some line) stands None there is = absurd cc
    by_parts some (Some line) stands (Some nesting) there is =
        let h = by_end line (ends_init line.0 owner) refl is in
        record { some = some; line = line; stands = stands; nesting = nesting; there = there; on = h.0; among = h.1 }

    by_zero : (b : Bool) → (ls.first == 0) ≡ b
        → (if b then None else head_at ls owner (ls.first - 1) (slice_get img.code (ls.first - 1))
        (found walk.table (ls.first - 1))) ≡ Some head → IsHeadOf img owner walk ls head
    by_zero true none is = absurd cc
    by_zero false some is =
        by_parts (let h : 0 < ls.first = grind (arith, some) in h) (slice_get img.code (ls.first - 1)) refl
        (found walk.table (ls.first - 1)) refl is

-- a head is one of the lines, and the line before leads there
head_leads : (ls : Lines) (before head : ℕ) → ls.first ≡ suc before → ls.first ≤ ls.last → (i : Instr)
    → head_among ls (targets i before) ≡ Some head → Has ls head × LeadsOn i before head
head_leads ls before head next low i is = by i is
  where
    some_same : (a b : ℕ) → Some a ≡ Some b → a ≡ b
    some_same a b e = cc

    first_in : Has ls (suc before)
    first_in = (
      (let h : ls.first ≤ suc before = omega (arith, next) in h),
      (let h : suc before ≤ ls.last = omega (arith, next, low) in h),
    )

    one : (to : ℕ) (b : Bool) → has ls to ≡ b → (if b then Some to else None) ≡ Some head → Has ls head × (head ≡ to)
    one to true inside e =
        let same = some_same to head e in (subst (Has ls) same (has_so ls to inside), sym same)
    one to false inside e = absurd cc

    two : (to : ℕ) (b : Bool) → (if b then None else Some (suc before)) ≡ Some head → Has ls head × (head ≡ suc before)
    two to true e = absurd cc
    two to false e = let same = some_same (suc before) head e in (subst (Has ls) same first_in, sym same)

    by : (i : Instr) → head_among ls (targets i before) ≡ Some head → Has ls head × LeadsOn i before head
    by (instr.JumpZ s l) is = let h = two l (has ls l && not (l == suc before)) is in (h.0, inl h.1)
    by (instr.Jump l) is = one l (has ls l) refl is
    by instr.Wait is = one before (has ls before) refl is
    by (instr.Call row s) is = absurd cc
    by instr.Back is = absurd cc
    by instr.Ret is = absurd cc
    by i is = one (suc before) (has ls (suc before)) refl is

module _ (img : Image) (owner : Owner) (walk : Walk) (mapped : HasAll img owner (reached_by walk)) (ls : Lines) where
  -- a point of lines is one of a loop of these lines
  pub loop_is : (last head : ℕ) (e : Exit) → IsBack ls last (slice_get img.code last) (found walk.table last)
      → IsHeadOf img owner walk ls head → IsShape img owner ls head e
      → IsLoop img owner (record {
        first = ls.first;
        last = ls.last;
        head = head;
        jump = e.jump;
        stay = e.stay;
        out = e.out;
      })
  loop_is last head e back at_head shape =
      let c : Place = record { first = ls.first; last = ls.last; head = head; jump = e.jump; stay = e.stay; out = e.out } in
      let among : (p : Point) → IsIn img owner c p → IsAmong img owner ls p =
      λ p is. record { point = is.point; mine = is.mine; inside = is.inside } in
      let p = its_point img owner walk ls mapped last back.nesting back.there in
      let low = back.low in
      let at_last = back.last_is in
      let some = at_head.some in
      let next : ls.first ≡ suc (ls.first - 1) = omega (arith, some) in
      let b = its_point img owner walk ls mapped (ls.first - 1) at_head.nesting at_head.there in
      let leads = head_leads ls (ls.first - 1) head next back.low at_head.line.0 at_head.among in
      let q = to_point img owner walk ls mapped b.0 at_head.line (ap (slice_get img.code) b.3 ∙ at_head.stands) head
      (subst (λ n. LeadsOn at_head.line.0 n head) (sym b.3) leads.1) in
      let exit = shape.one.exit in
      record {
        back = p.0;
        back_in = record {
          point = p.1;
          mine = p.2;
          inside = (
            (let same = p.3 in let h : ls.first ≤ p.0.address = omega (arith, same, low, at_last) in h),
            (let same = p.3 in let h : p.0.address ≤ ls.last = omega (arith, same, at_last) in h),
          );
        };
        back_last = p.3 ∙ sym back.last_is;
        back_line = back.line;
        back_stands = ap (slice_get img.code) back.last_is ∙ back.stands;
        back_jumps = back.jumps;
        before = ls.first - 1;
        before_first = next;
        enters = record {
          before = b.0;
          after = q.0;
          point = b.1;
          mine = b.2;
          leads = q.1;
          still_mine = q.3 ∙ ap (owner_after at_head.line.0) b.2 ∙ goes_on at_head.line.0 owner at_head.on;
          from_there = b.3;
          to_here = q.2;
        };
        begins = λ a begins. shape.closed.begins a begins;
        entered = λ p q point leads is. shape.closed.entered p q point leads (among q is);
        goes_on = λ p is. shape.one.goes_on p (among p is);
        leaving = exit.at;
        leaving_in = record { point = exit.among.point; mine = exit.among.mine; inside = exit.among.inside };
        leaving_at = exit.here;
        left = λ p q is leads. shape.one.left p q (among p is) leads;
        sections = λ p q one other at. shape.deepest p q (among p one) (among q other) at;
        head = leads.0;
        stay = exit.stays;
        out = exit.leads_out;
      }

module _ (img : Image) (owner : Owner) (walk : Walk) (mapped : HasAll img owner (reached_by walk)) (c : Place)
    (loop : IsLoop img owner c) where
  abbrev lines : Lines
  lines = record { first = c.first; last = c.last }

  abbrev exit : Exit
  exit = record { jump = c.jump; stay = c.stay; out = c.out }

  -- the lines of a loop are found
  pub loop_lines : lines_at c.last (slice_get img.code c.last) (found walk.table c.last) ≡ Some lines
  loop_lines =
      let n = came img owner walk lines mapped loop.back loop.back_in.point loop.back_in.mine in
      let there : found walk.table c.last ≡ Some n.0 = ap (found walk.table) (sym loop.back_last) ∙ n.1 in
      let up = loop.back_in.inside.0 in
      let down = loop.back_in.inside.1 in
      (λ k. lines_at c.last (loop.back_stands k) (there k))
      ∙ back_by loop.back_line.0 c.last c.first (omega (arith, up, down)) loop.back_jumps

  inside_is : (p : Point) → IsAmong img owner lines p → IsIn img owner c p
  inside_is p is = record { point = is.point; mine = is.mine; inside = is.inside }

  is_inside : (p : Point) → IsIn img owner c p → IsAmong img owner lines p
  is_inside p is = record { point = is.point; mine = is.mine; inside = is.inside }

  -- and its way in and out
  pub loop_shape : (slot to : ℕ) (told : Option Note) → slice_get img.code c.jump ≡ Some (instr.JumpZ slot to, told)
      → ((c.stay ≡ suc c.jump) × (c.out ≡ to)) ⊎ ((c.stay ≡ to) × (c.out ≡ suc c.jump))
      → IsShape img owner lines c.head exit
  loop_shape slot to told stands parts = record {
    closed = record {
      begins = loop.begins;
      entered = λ p q point leads is. loop.entered p q point leads (inside_is q is);
    };
    one = record {
      exit = record {
        at = loop.leaving;
        among = is_inside loop.leaving loop.leaving_in;
        here = loop.leaving_at;
        slot = slot;
        to = to;
        told = told;
        stands = stands;
        parts = parts;
        stays = loop.stay;
        leads_out = loop.out;
      };
      goes_on = λ p is. loop.goes_on p (inside_is p is);
      left = λ p q is leads. loop.left p q (inside_is p is) leads;
    };
    deepest = λ p q one other at. loop.sections p q (inside_is p one) (inside_is q other) at;
  }

  -- where the line before leads to is found
  before_is : c.first - 1 ≡ loop.before
  before_is = let next = loop.before_first in omega (arith, next)

  first_some : (c.first == 0) ≡ false
  first_some = let next = loop.before_first in grind (arith, next)

  its_head : (t : ℕ) → LeadsOn loop.enters.leads.line.0 loop.enters.before.address t → Has lines t → t ≡ c.head
  its_head t leads inside =
      let p : Point = loop.enters.before in
      let q = to_point img owner walk lines mapped p loop.enters.leads.line loop.enters.leads.stands t leads in
      let mine : q.0.owner ≡ owner =
      q.3 ∙ sym loop.enters.leads.owner ∙ loop.enters.still_mine in
      let into : IsIn img owner c q.0 = record {
        point = Leads p q.0 loop.enters.point q.1;
        mine = mine;
        inside = subst (Has lines) (sym q.2) inside;
      } in
      ⊎_elim
      (λ within.
      let up = within.0 in
      let next = loop.before_first in
      let at = loop.enters.from_there in
      absurd (omega (arith, up, next, at)))
      (λ at_head. sym q.2 ∙ at_head.1)
      (loop.entered p q.0 loop.enters.point q.1 into).1

  one_head : (to : ℕ) → c.head ≡ to → (if has lines to then Some to else None) ≡ Some c.head
  one_head to same =
      ap (λ (b : Bool). if b then Some to else None) (so_has lines to (subst (Has lines) same loop.head))
      ∙ ap Some (sym same)

  by_head : (i : Instr) (at : ℕ) → suc at ≡ c.first → LeadsOn i at c.head
      → ((t : ℕ) → LeadsOn i at t → Has lines t → t ≡ c.head) → head_among lines (targets i at) ≡ Some c.head
  by_head (instr.JumpZ s l) at next leads only =
      let up = loop.head.0 in
      let down = loop.head.1 in
      let inside : Has lines (suc at) = (
        (let h : c.first ≤ suc at = omega (arith, next) in h),
        (let h : suc at ≤ c.last = omega (arith, next, up, down) in h),
      ) in
      let first : suc at ≡ c.head = only (suc at) (inl refl) inside in
      ap (λ (b : Bool). if b then None else Some (suc at)) (apart (has lines l) refl first) ∙ ap Some first
    where
      apart : (b : Bool) → has lines l ≡ b → suc at ≡ c.head → (has lines l && not (l == suc at)) ≡ false
      apart true inside first =
          let same : l ≡ suc at = only l (inr refl) (has_so lines l inside) ∙ sym first in
          grind (arith, inside, same)
      apart false outside first = grind (arith, outside)
  by_head (instr.Jump l) at next leads only = one_head l leads
  by_head instr.Wait at next leads only = one_head at leads
  by_head (instr.Call row s) at next leads only = absurd leads
  by_head instr.Back at next leads only = absurd leads
  by_head instr.Ret at next leads only = absurd leads
  by_head i at next leads only = one_head (suc at) leads

  pub loop_head : head_of img owner walk lines ≡ Some c.head
  loop_head =
      let p : Point = loop.enters.before in
      let line : Line = loop.enters.leads.line in
      let at : p.address ≡ c.first - 1 = loop.enters.from_there ∙ sym before_is in
      let n = came img owner walk lines mapped p loop.enters.point loop.enters.mine in
      let stands : slice_get img.code (c.first - 1) ≡ Some line = ap (slice_get img.code) (sym at) ∙ loop.enters.leads.stands in
      let there : found walk.table (c.first - 1) ≡ Some n.0 = ap (found walk.table) (sym at) ∙ n.1 in
      let on : ends_init line.0 owner ≡ false = stays line.0 owner
      (ap (owner_after line.0) (sym loop.enters.mine) ∙ sym loop.enters.leads.owner ∙ loop.enters.still_mine) in
      let next : suc (c.first - 1) ≡ c.first = (let b = loop.before_first in omega (arith, b)) in
      let leads : LeadsOn line.0 (c.first - 1) c.head =
      subst (λ m. LeadsOn line.0 m c.head) at
      (subst (λ m. LeadsOn line.0 p.address m) loop.enters.to_here loop.enters.leads.address) in
      ap (λ (b : Bool). if b then None else head_at lines owner (c.first - 1) (slice_get img.code (c.first - 1))
      (found walk.table (c.first - 1))) first_some
      ∙ (λ k. head_at lines owner (c.first - 1) (stands k) (there k))
      ∙ ap (λ (b : Bool). if b then None else head_among lines (targets line.0 (c.first - 1))) on
      ∙ by_head line.0 (c.first - 1) next leads
      (λ t to inside. its_head t (subst (λ m. LeadsOn line.0 m t) (sym at) to) inside)
