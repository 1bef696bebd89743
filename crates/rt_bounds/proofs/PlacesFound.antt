-- The loop that jumps back at an address, if it counts, as the code finds it: its lines, its head, its way out, its turns.
use Rattle.std.proofs.Common.{◌≡◌, ◌<◌, ◌≤◌, ℕ, slice_get, List, Option, Some, None}
use Rattle.std.proofs.Common.{sym, ap, subst, ◌∙◌, arith}
use Rattle.rt_code.specs.Image.{Image}
use Rattle.rt_code.specs.declared.instr.Instr.TheVariants as instr
use Rattle.rt_code.specs.declared.instr.Note.{Note}
use Rattle.rt_points.specs.declared.point.Owner.{Owner}
use Rattle.rt_judge.specs.Inside.Tables.{found}
use Rattle.rt_judge.specs.Inside.Walks.{reached_by}
use Rattle.rt_judge.specs.declared.walk.Walk.{Walk}
use Rattle.rt_bounds.specs.Counting.{Place, CountingLoop, IsCounting, IsLoop, IsTest}
use Rattle.rt_bounds.specs.Inside.Countings.{CountsOn, place_of}
use Rattle.rt_bounds.specs.Inside.Shapes.{lines_at, head_of, IsShape}
use Rattle.rt_bounds.specs.Inside.Sources.{AreSources, nowhere}
use Rattle.rt_bounds.specs.declared.shape.Exit.{Exit}
use Rattle.rt_bounds.specs.declared.shape.Lines.{Lines}
use Rattle.rt_bounds.specs.declared.sources.Sources.{Sources}
use Rattle.rt_bounds.proofs.CountingFound.{counting_is, is_counting}
use Rattle.rt_bounds.proofs.Grounds.{HasAll}
use Rattle.rt_bounds.proofs.LoopFound.{lines_back, head_is, loop_is, loop_lines, loop_head, loop_shape}
use Rattle.rt_bounds.proofs.Setting.{Line, same_line}
use Rattle.rt_bounds.proofs.ShapeFound.{shape_once, same_exit}
use Rattle.rt_bounds.proofs.Tested.{test_compares}

-- the lines that are found end where they were looked for
pub back_last : (img : Image) (walk : Walk) (last : ℕ) (ls : Lines)
    → Some ls ≡ lines_at last (slice_get img.code last) (found walk.table last) → ls.last ≡ last
back_last img walk last ls is =
    (lines_back ls last (slice_get img.code last) (found walk.table last) (sym is)).last_is

pub back_there : (img : Image) (walk : Walk) (last : ℕ) (ls : Lines)
    → Some ls ≡ lines_at last (slice_get img.code last) (found walk.table last)
    → Some ls ≡ lines_at ls.last (slice_get img.code ls.last) (found walk.table ls.last)
back_there img walk last ls is = subst (λ n. Some ls ≡ lines_at n (slice_get img.code n) (found walk.table n))
    (sym (back_last img walk last ls is)) is

module _ (img : Image) (owner : Owner) (walk : Walk) (mapped : HasAll img owner (reached_by walk)) where
  -- where no lines are jumped back over, there is no loop
  pub no_lines : (last : ℕ) → lines_at last (slice_get img.code last) (found walk.table last) ≡ None → (c : CountingLoop)
      → c.place.last ≡ last → ¬ IsCounting img owner c
  no_lines last none c at counting =
      let is = loop_lines img owner walk mapped c.place counting.loop in
      let same : ◌≡◌ {A = Option Lines} None (Some (record { first = c.place.first; last = c.place.last })) =
      sym none ∙ sym (ap (λ n. lines_at n (slice_get img.code n) (found walk.table n)) at) ∙ is in
      cc

  -- the lines of a loop are those that are found
  pub its_lines : (ls : Lines) → Some ls ≡ lines_at ls.last (slice_get img.code ls.last) (found walk.table ls.last)
      → (c : CountingLoop) → c.place.last ≡ ls.last → IsCounting img owner c
      → record { first = c.place.first; last = c.place.last } ≡ ls
  its_lines ls back c at counting =
      let is = loop_lines img owner walk mapped c.place counting.loop in
      let same : Some (record { first = c.place.first; last = c.place.last }) ≡ Some ls =
      sym is ∙ ap (λ n. lines_at n (slice_get img.code n) (found walk.table n)) at ∙ sym back in
      cc

  module _ (ls : Lines) (back : Some ls ≡ lines_at ls.last (slice_get img.code ls.last) (found walk.table ls.last)) where
    pub no_head : head_of img owner walk ls ≡ None → (c : CountingLoop) → c.place.last ≡ ls.last → ¬ IsCounting img owner c
    no_head none c at counting =
        let is = loop_head img owner walk mapped c.place counting.loop in
        let same : None ≡ Some c.place.head =
        sym none ∙ sym (ap (head_of img owner walk) (its_lines ls back c at counting)) ∙ is in
        cc

    module _ (head : ℕ) (head_found : Some head ≡ head_of img owner walk ls) where
      pub some_first : 0 < ls.first
      some_first = (head_is img owner walk ls head (sym head_found)).some

      its_head : (c : CountingLoop) → c.place.last ≡ ls.last → IsCounting img owner c → c.place.head ≡ head
      its_head c at counting =
          let is = loop_head img owner walk mapped c.place counting.loop in
          let same : Some c.place.head ≡ Some head =
          sym is ∙ ap (head_of img owner walk) (its_lines ls back c at counting) ∙ sym head_found in
          cc

      its_shape : (c : CountingLoop) → c.place.last ≡ ls.last → IsCounting img owner c
          → IsShape img owner ls head (record { jump = c.place.jump; stay = c.place.stay; out = c.place.out })
      its_shape c at counting =
          subst (λ h. IsShape img owner ls h (record { jump = c.place.jump; stay = c.place.stay; out = c.place.out }))
          (its_head c at counting)
          (subst (λ (l : Lines). IsShape img owner l c.place.head
          (record { jump = c.place.jump; stay = c.place.stay; out = c.place.out })) (its_lines ls back c at counting)
          (loop_shape img owner walk mapped c.place counting.loop counting.slot counting.to counting.told counting.jumps
          counting.parts))

      pub no_exit : ((e : Exit) → ¬ IsShape img owner ls head e) → (c : CountingLoop) → c.place.last ≡ ls.last
          → ¬ IsCounting img owner c
      no_exit none c at counting =
          none (record { jump = c.place.jump; stay = c.place.stay; out = c.place.out }) (its_shape c at counting)

      module _ (e : Exit) (shape : IsShape img owner ls head e) where
        abbrev place : Place
        place = place_of ls head e

        pub the_loop : IsLoop img owner place
        the_loop = loop_is img owner walk mapped ls ls.last head e (lines_back ls ls.last (slice_get img.code ls.last)
            (found walk.table ls.last) (sym back)) (head_is img owner walk ls head (sym head_found)) shape

        pub jump_low : e.jump ≤ ls.last
        jump_low =
            let exit = shape.one.exit in
            let at = exit.here in
            let high = exit.among.inside.1 in
            omega (arith, at, high)

        pub loop_counts : (turns : ℕ) → CountsOn img owner place shape.one.exit.slot turns
            → IsCounting img owner (record { place = place; turns = turns })
        loop_counts turns on =
            let exit = shape.one.exit in
            counting_is img owner place turns the_loop exit.slot exit.to exit.told exit.stands exit.parts on.counter on.test
            on.tests on.counts

        module _ (rows : List Sources) (sources : AreSources img owner rows) (small : ls.last < nowhere) where
          its_exit : (c : CountingLoop) → c.place.last ≡ ls.last → IsCounting img owner c
              → record { jump = c.place.jump; stay = c.place.stay; out = c.place.out } ≡ e
          its_exit c at counting = same_exit img owner walk ls _ e
              (shape_once img owner walk ls mapped rows sources head some_first small
              (record { jump = c.place.jump; stay = c.place.stay; out = c.place.out }) (its_shape c at counting))
              (shape_once img owner walk ls mapped rows sources head some_first small e shape)

          its_place : (c : CountingLoop) → c.place.last ≡ ls.last → IsCounting img owner c → c.place ≡ place
          its_place c at counting =
              let lines = its_lines ls back c at counting in
              let exit = its_exit c at counting in
              let first : c.place.first ≡ ls.first = ap (λ (l : Lines). l.first) lines in
              let jump : c.place.jump ≡ e.jump = ap (λ (x : Exit). x.jump) exit in
              let stay : c.place.stay ≡ e.stay = ap (λ (x : Exit). x.stay) exit in
              let out : c.place.out ≡ e.out = ap (λ (x : Exit). x.out) exit in
              let at_head = its_head c at counting in
              λ k. record {
                first = first k;
                last = at k;
                head = at_head k;
                jump = jump k;
                stay = stay k;
                out = out k;
              }

          pub counts_not : ((n : ℕ) → ¬ CountsOn img owner place shape.one.exit.slot n) → (c : CountingLoop)
              → c.place.last ≡ ls.last → ¬ IsCounting img owner c
          counts_not none c at counting =
              let is : CountingLoop = record { place = place; turns = c.turns } in
              let same : c ≡ is =
              (let p = its_place c at counting in λ k. record { place = p k; turns = c.turns }) in
              let here : IsCounting img owner is = subst (IsCounting img owner) same counting in
              let exit = shape.one.exit in
              let jumps : instr.JumpZ here.slot here.to ≡ instr.JumpZ exit.slot exit.to =
              ap (λ (l : Line). l.0) (same_line img e.jump (instr.JumpZ here.slot here.to, here.told)
              (instr.JumpZ exit.slot exit.to, exit.told) here.jumps exit.stands) in
              let slot : here.slot ≡ exit.slot = cc in
              none c.turns (record {
                counter = here.counter;
                test = here.test;
                tests = subst (λ s. IsTest img owner place here.counter s here.test) slot here.tests;
                comparing = test_compares img owner place here.counter here.slot here.test here.tests;
                counts = is_counting img owner is here;
              })

        -- what is found of the turns is so of the loop
        pub the_count : (p : Place) → p ≡ place → (turns : ℕ)
            → (IsLoop img owner p → (slot to : ℕ) (told : Option Note)
            → slice_get img.code p.jump ≡ Some (instr.JumpZ slot to, told) → CountsOn img owner p slot turns)
            → IsCounting img owner (record { place = p; turns = turns }) × (p.last ≡ ls.last)
        the_count p same turns counts =
            let exit = shape.one.exit in
            let on = counts (subst (IsLoop img owner) (sym same) the_loop) exit.slot exit.to exit.told
            (ap (λ (q : Place). slice_get img.code q.jump) same ∙ exit.stands) in (
              subst (λ (q : Place). IsCounting img owner (record { place = q; turns = turns })) (sym same)
                  (loop_counts turns (subst (λ (q : Place). CountsOn img owner q exit.slot turns) same on)),
              ap (λ (q : Place). q.last) same,
            )

        pub none_counting : (rows : List Sources) → AreSources img owner rows → ls.last < nowhere → (p : Place)
            → p ≡ place
            → (IsLoop img owner p → (slot to : ℕ) (told : Option Note)
            → slice_get img.code p.jump ≡ Some (instr.JumpZ slot to, told) → (n : ℕ) → ¬ CountsOn img owner p slot n)
            → (c : CountingLoop) → c.place.last ≡ ls.last → ¬ IsCounting img owner c
        none_counting rows sources small p same none =
            let exit = shape.one.exit in
            counts_not rows sources small (λ n on.
            none (subst (IsLoop img owner) (sym same) the_loop) exit.slot exit.to exit.told
            (ap (λ (q : Place). slice_get img.code q.jump) same ∙ exit.stands) n
            (subst (λ (q : Place). CountsOn img owner q exit.slot n) (sym same) on))
