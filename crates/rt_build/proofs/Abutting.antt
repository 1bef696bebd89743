-- The parts of code, put one after the other, abut.
use Rattle.std.proofs.Common.{◌≡◌, ◌≢◌, ℕ, zero, suc, ◌+◌, ◌<◌, ◌≤◌, Bool, true, false, List, [], ◌∷◌, ◌++◌, length}
use Rattle.std.proofs.Common.{take, drop, map, Some, None, slice_get, slice_index, refl, sym, ap, subst, ◌∙◌, arith}
use Rattle.std.proofs.Common.{append_assoc, append-nil, length-append, if◌then◌else◌, ◌==◌, not}
use Rattle.std.specs.Prelude.{position}
use Rattle.std.proofs.lemmas.List.{take_more, drop_at, drop_all, length-drop, get_or_append_left, get_or_push}
use Rattle.std.proofs.lemmas.List.{length_push, map-append, take_all}
use Rattle.std.proofs.lemmas.List.Sorted.{IsPermutation-refl}
use Rattle.std.proofs.lemmas.Option.{get_or_from_slice_get, slice_get_within, same_Some, none-some}
use Rattle.rt_ids.specs.Lists.{or_zero}
use Rattle.rt_ids.specs.declared.ids.BodyId.TheVariants as body
use Rattle.rt_app.specs.declared.app.Mono.{Mono}
use Rattle.rt_app.specs.Tree.{Body, Task, App}
use Rattle.rt_app.specs.Bodies.{body_at}
use Rattle.rt_app.specs.BodyCost.{size_measure, cost_of, dispatcher_size, timer_size}
use Rattle.rt_app.specs.Level.{is_software, levels}
use Rattle.rt_code.specs.declared.instr.Instr.TheVariants as instr
use Rattle.rt_gen_queue.specs.Line.{Line}
use Rattle.rt_gen_body.specs.BodyCode.{body_code}
use Rattle.rt_gen_body.specs.Form.{HasForm}
use Rattle.rt_build.specs.Entries.{Entries}
use Rattle.rt_gen_disp.specs.Code.{dispatcher_code}
use Rattle.rt_gen_timer.specs.TimerCode.{timer_code}
use Rattle.rt_build.specs.Built.{part_code, idle_code, mono_code, IsPartAt}
use Rattle.rt_build.specs.Order.{CodePart, OfBody, OfLevel, OfTimer, begin_of, size_of, IsIdleFormed, IsFormed}
use Rattle.rt_build.specs.Order.{task_parts, timer_parts, fixed_parts, free_parts, IsPart, AreAbutting, IsInOrder}
use Rattle.rt_build.specs.Inside.Code.{KeepsCode, IsPut, AddsParts, HasParts, is_of_kind, part_of_kind, AddsTask}
use Rattle.rt_build.specs.Inside.Code.{AddsTasksBelow, AddsTasks, TellsTask, AddsDispatchers}
use Rattle.rt_build.specs.declared.code.TaskKind.{TaskKind}
use Rattle.rt_build.specs.declared.code.TaskKind.TheVariants.{Hardware, Software}
use Rattle.rt_build.proofs.Grown.{behind, whole, kept_then}
use Rattle.rt_build.proofs.Levels.{index_is}

module _ (IsThere : CodePart → ℕ → List Line → Type 0) where
  -- parts after parts
  abut_append : (ps qs : List CodePart) (from : ℕ) (xs ys : List Line) → AreAbutting IsThere from ps xs
      → AreAbutting IsThere (from + length xs) qs ys → AreAbutting IsThere from (ps ++ qs) (xs ++ ys)
  abut_append [] qs from xs ys none after =
      let here : from + length xs ≡ from =
      (let e : length xs ≡ 0 = ap (λ (l : List Line). length l) none in omega arith) in
      subst (λ (l : List Line). AreAbutting IsThere from qs (l ++ ys)) (sym none)
      (subst (λ n. AreAbutting IsThere n qs ys) here after)
  abut_append (p ∷ ps) qs from xs ys (own, more, is, part, rest) after =
      let long : from + length xs ≡ from + length own + length more =
      (let e : length xs ≡ length own + length more =
      ap (λ (l : List Line). length l) is ∙ length-append own more in omega arith) in (
        own,
        more ++ ys,
        ap (λ (l : List Line). l ++ ys) is ∙ append_assoc own more ys,
        part,
        abut_append ps qs (from + length own) more ys rest (subst (λ n. AreAbutting IsThere n qs ys) long after),
      )

  -- parts of which less is said
  abut_weaker : (IsSo : CodePart → ℕ → List Line → Type 0)
      → ((part : CodePart) (from : ℕ) (lines : List Line) → IsThere part from lines → IsSo part from lines)
      → (ps : List CodePart) (from : ℕ) (lines : List Line) → AreAbutting IsThere from ps lines
      → AreAbutting IsSo from ps lines
  abut_weaker IsSo less [] from lines none = none
  abut_weaker IsSo less (p ∷ ps) from lines (own, more, is, part, rest) = (
    own,
    more,
    is,
    less p from own part,
    abut_weaker IsSo less ps (from + length own) more rest,
  )

module _ (app : App) (at : Entries) where
  -- no parts after code, and parts after parts
  pub parts_none : (lines : List Line) → AddsParts app at [] lines lines
  parts_none lines = drop_all (length lines) lines (omega arith)

  pub parts_then : (ps qs : List CodePart) (first second third : List Line) → KeepsCode first second
      → KeepsCode second third
      → AddsParts app at ps first second → AddsParts app at qs second third → AddsParts app at (ps ++ qs) first third
  parts_then ps qs first second third kept further adds more =
      let all : first ++ (behind first second ++ behind second third) ≡ third =
      sym (append_assoc first (behind first second) (behind second third))
      ∙ (ap (λ (front : List Line). front ++ behind second third) (whole first second kept)
      ∙ whole second third further) in
      let after : behind first third ≡ behind first second ++ behind second third = ap (drop (length first)) (sym all)
      ∙ drop_at first (behind first second ++ behind second third) (length first) refl in
      let long : length second ≡ length first + length (behind first second) =
      sym (ap (λ (l : List Line). length l) (whole first second kept))
      ∙ length-append first (behind first second) in
      subst (AreAbutting (IsPut app at) (length first) (ps ++ qs)) (sym after)
      (abut_append (IsPut app at) ps qs (length first) (behind first second) (behind second third) adds
      (subst (λ n. AreAbutting (IsPut app at) n qs (behind second third)) long more))

  -- what a call that appends the code of a part says
  pub part_put : (part : CodePart) (entry : ℕ) (before after : List Line) → entry ≡ length before
      → begin_of at part ≡ entry → length after ≤ length before + size_of app part
      → IsFormed app part entry (drop entry after) → drop entry after ≡ part_code app part entry
      → AddsParts app at (part ∷ []) before after
  part_put part entry before after is begins short formed are = (
    behind before after,
    [],
    sym (append-nil (behind before after)),
    record {
      is = record {
        begins = begins ∙ is;
        short = omega (arith, length-drop (length before) after, short);
        formed = subst (λ n. IsFormed app part n (drop n after)) is formed;
      };
      are = subst (λ n. drop n after ≡ part_code app part n) is are;
    },
    refl,
  )

-- the tasks so far, and one more
module _ (test : Task → Bool) where
  abbrev own : ℕ → Task → List CodePart
  own n t = if test t then OfBody (body.Task n) ∷ [] else []

  parts_more : (n : ℕ) (ts : List Task) (k : ℕ) (t : Task) → slice_get ts k ≡ Some t
      → task_parts test n (take (k + 1) ts) ≡ task_parts test n (take k ts) ++ own (n + k) t
  parts_more n [] k t there = absurd (none-some t there)
  parts_more n (u ∷ us) zero t there =
      append-nil (own n u) ∙ (ap (own n) (same_Some u t there) ∙ ap (λ m. own m t) (same_index n))
    where
      same_index : (n : ℕ) → n ≡ n + 0
      same_index n = omega arith
  parts_more n (u ∷ us) (suc k) t there =
      ap (λ m. task_parts test n (take m (u ∷ us))) (one_later k)
      ∙ (ap (λ (ps : List CodePart). own n u ++ ps) (parts_more (n + 1) us k t there)
      ∙ (sym (append_assoc (own n u) (task_parts test (n + 1) (take k us)) (own (n + 1 + k) t))
      ∙ ap (λ m. (own n u ++ task_parts test (n + 1) (take k us)) ++ own m t) (same_sum n k)))
    where
      one_later : (k : ℕ) → suc k + 1 ≡ suc (k + 1)
      one_later k = omega arith

      same_sum : (n k : ℕ) → n + 1 + k ≡ n + suc k
      same_sum n k = omega arith

module _ (app : App) (first before after : List Line) (kept : KeepsCode first before)
    (further : KeepsCode before after) where
  -- the code of one task more, if it is of a kind
  pub tasks_added : (kind : TaskKind) (n : ℕ) (t : Task) (entries told : List ℕ) → slice_get app.tasks n ≡ Some t
      → AddsTasksBelow app n kind entries first before → TellsTask app kind n t entries told after
      → AddsTask app kind n t told before after → AddsTasksBelow app (n + 1) kind told first after
  tasks_added kind n t entries told there has tells adds at agrees =
      subst (λ (ps : List CodePart). AddsParts app at ps first after) (sym (all_parts n))
      (parts_then app at (task_parts (is_of_kind kind) 0 (take n app.tasks)) (part_of_kind kind n t) first before after
      kept further (has at before_it) (adds at (λ of. agrees n (one_less n) t there of)))
    where
      all_parts : (k : ℕ) → task_parts (is_of_kind kind) 0 (take (n + 1) app.tasks)
          ≡ task_parts (is_of_kind kind) 0 (take n app.tasks) ++ part_of_kind kind n t
      all_parts k =
          parts_more (is_of_kind kind) 0 app.tasks n t there
          ∙ ap (λ m. task_parts (is_of_kind kind) 0 (take n app.tasks) ++ part_of_kind kind m t) (no_more n)
        where
          no_more : (n : ℕ) → 0 + n ≡ n
          no_more n = omega arith

      one_less : (n : ℕ) → n < n + 1
      one_less n = omega arith

      before_it : (k : ℕ) → k < n → (u : Task) → slice_get app.tasks k ≡ Some u → is_of_kind kind u ≡ true
          → at.task k ≡ slice_index entries k
      before_it k less u here of =
          let other : k ≢ n = omega arith in
          agrees k (omega arith) u here of ∙ tells.others k other

  -- the code of one dispatcher more
  pub level_added : (k p entry : ℕ) (entries more : List ℕ) → slice_get (levels app) k ≡ Some p → length entries ≡ k
      → more ≡ entries ++ entry ∷ [] → AddsDispatchers app entries first before → entry ≡ length before
      → length after ≤ length before + dispatcher_size app p → drop entry after ≡ dispatcher_code app p entry
      → AddsDispatchers app more first after
  level_added k p entry entries more there counted is has begins short are at agrees =
      subst (λ (ps : List CodePart). AddsParts app at ps first after) (sym all_parts)
      (parts_then app at (map OfLevel (take (length entries) (levels app))) (OfLevel p ∷ []) first before after kept
      further (has at before_it) (part_put app at (OfLevel p) entry before after begins here short tt are))
    where
      long : length more ≡ length entries + 1
      long = ap (λ (es : List ℕ). length es) is ∙ length_push entries entry

      within : length entries < length (levels app)
      within = let less = slice_get_within (levels app) k p there in omega arith

      at_end : slice_get (levels app) (length entries) ≡ Some p
      at_end = ap (slice_get (levels app)) counted ∙ there

      all_parts : map OfLevel (take (length more) (levels app))
          ≡ map OfLevel (take (length entries) (levels app)) ++ OfLevel p ∷ []
      all_parts =
          ap (λ n. map OfLevel (take n (levels app))) long
          ∙ (ap (map OfLevel) (take_more (levels app) (length entries) p within
          ∙ ap (λ y. take (length entries) (levels app) ++ y ∷ [])
          (get_or_from_slice_get (levels app) (length entries) p p at_end))
          ∙ map-append OfLevel (take (length entries) (levels app)) (p ∷ []))

      here : at.dispatcher p ≡ entry
      here =
          agrees (length entries) p (omega (arith, long)) at_end
          ∙ (ap (λ (es : List ℕ). slice_index es (length entries)) is
          ∙ get_or_push entries entry 0 (length entries) refl)

      before_it : (j q : ℕ) → j < length entries → slice_get (levels app) j ≡ Some q
          → at.dispatcher q ≡ slice_index entries j
      before_it j q less index =
          agrees j q (omega (arith, long)) index
          ∙ (ap (λ (es : List ℕ). slice_index es j) is ∙ get_or_append_left entries (entry ∷ []) 0 j less)

-- what `idle` adds, where it is declared and where it is not, and the timer handler
module _ (app : App) (at : Entries) (entry : ℕ) (before after : List Line) (is : entry ≡ length before) where
  pub idle_added : (b : Body) → app.idle ≡ Some b → at.idle ≡ entry
      → length after ≤ length before + cost_of (size_measure app) app.idle
      → HasForm app body.Idle entry (drop entry after) → drop entry after ≡ body_code app body.Idle entry
      → AddsParts app at (OfBody body.Idle ∷ []) before after
  idle_added b declared begins short formed are =
      part_put app at (OfBody body.Idle) entry before after is begins short
      (subst (λ o. IsIdleFormed app o entry (drop entry after)) (sym declared) formed)
      (subst (λ o. drop entry after ≡ idle_code app o entry) (sym declared) are)

  pub wait_added : app.idle ≡ None → at.idle ≡ entry → after ≡ before ++ (instr.Wait, None) ∷ []
      → AddsParts app at (OfBody body.Idle ∷ []) before after
  wait_added absent begins grown =
      part_put app at (OfBody body.Idle) entry before after is begins
      (omega (
        arith,
        ap (λ (l : List Line). length l) grown,
        length-append before ((instr.Wait, None) ∷ []),
        ap (cost_of (size_measure app)) absent,
      ))
      (subst (λ o. IsIdleFormed app o entry (drop entry after)) (sym absent) waits)
      (subst (λ o. drop entry after ≡ idle_code app o entry) (sym absent) waits)
    where
      waits : drop entry after ≡ (instr.Wait, None) ∷ []
      waits = ap (drop entry) grown ∙ drop_at before ((instr.Wait, None) ∷ []) entry (sym is)

  pub timer_added : (mono : Mono) → app.mono ≡ Some mono → at.timer ≡ entry
      → length after ≤ length before + timer_size app (Some mono)
      → drop entry after ≡ timer_code app mono.priority entry → AddsParts app at (timer_parts app.mono) before after
  timer_added mono timed begins short are =
      subst (λ o. AddsParts app at (timer_parts o) before after) (sym timed)
      (part_put app at OfTimer entry before after is begins
      (subst (λ o. length after ≤ length before + timer_size app o) (sym timed) short) tt
      (subst (λ o. drop entry after ≡ mono_code app o entry) (sym timed) are))

-- what a task adds that is of a kind, and one that is not
module _ (app : App) (kind : TaskKind) (n : ℕ) (t : Task) (there : slice_get app.tasks n ≡ Some t) (entries : List ℕ)
    (before after : List Line) where
  pub task_added : (entry : ℕ) → is_of_kind kind t ≡ true → entry ≡ length before → slice_index entries n ≡ entry
      → length after ≤ length before + cost_of (size_measure app) (body_at app (body.Task n))
      → HasForm app (body.Task n) entry (drop entry after) → drop entry after ≡ body_code app (body.Task n) entry
      → AddsTask app kind n t entries before after
  task_added entry of is told short formed are at agrees =
      subst (λ b. AddsParts app at (if b then OfBody (body.Task n) ∷ [] else []) before after) (sym of)
      (part_put app at (OfBody (body.Task n)) entry before after is (agrees of ∙ told) short formed are)

  pub task_left : is_of_kind kind t ≡ false → after ≡ before → AddsTask app kind n t entries before after
  task_left other same at agrees =
      subst (λ b. AddsParts app at (if b then OfBody (body.Task n) ∷ [] else []) before after) (sym other)
      (subst (λ (l : List Line). AddsParts app at [] before l) (sym same) (parts_none app at before))

-- all tasks of a kind, and all dispatchers
module _ (app : App) (at : Entries) (entries : List ℕ) (before after : List Line) where
  pub tasks_whole : (kind : TaskKind) → AddsTasks app kind entries before after
      → ((n : ℕ) (t : Task) → slice_get app.tasks n ≡ Some t → is_of_kind kind t ≡ true
      → at.task n ≡ slice_index entries n)
      → AddsParts app at (task_parts (is_of_kind kind) 0 app.tasks) before after
  tasks_whole kind adds agrees =
      subst (λ (ts : List Task). AddsParts app at (task_parts (is_of_kind kind) 0 ts) before after)
      (take_all (length app.tasks) app.tasks (omega arith)) (adds at (λ n less. agrees n))

  pub levels_whole : length entries ≡ length (levels app) → AddsDispatchers app entries before after
      → ((p : ℕ) → at.dispatcher p ≡ slice_index entries (or_zero (position (λ q. q == p) (levels app))))
      → AddsParts app at (map OfLevel (levels app)) before after
  levels_whole counted adds are =
      subst (λ (ps : List ℕ). AddsParts app at (map OfLevel ps) before after)
      (take_all (length entries) (levels app) (omega arith))
      (adds at (λ k p less there. are p ∙ ap (λ o. slice_index entries (or_zero o)) (index_is app k p there)))

-- all parts, put after none
module _ (app : App) (at : Entries) (none first second third fourth fifth all : List Line) (empty : none ≡ []) where
  pub parts_put : KeepsCode none first → KeepsCode first second → KeepsCode second third → KeepsCode third fourth
      → KeepsCode fourth fifth → KeepsCode fifth all
      → AddsParts app at (OfBody body.Init ∷ []) none first → AddsParts app at (OfBody body.Idle ∷ []) first second
      → AddsParts app at (task_parts (is_of_kind Hardware) 0 app.tasks) second third
      → AddsParts app at (task_parts (is_of_kind Software) 0 app.tasks) third fourth
      → AddsParts app at (map OfLevel (levels app)) fourth fifth
      → AddsParts app at (timer_parts app.mono) fifth all
      → HasParts app at all
  parts_put kept1 kept2 kept3 kept4 kept5 kept6 init idle hardware software dispatchers timer =
      let after5 = kept_then fourth fifth all kept5 kept6 in
      let after4 = kept_then third fourth all kept4 after5 in
      let after3 = kept_then second third all kept3 after4 in
      let after2 = kept_then first second all kept2 after3 in
      let last : List CodePart = map OfLevel (levels app) ++ timer_parts app.mono in
      let free : List CodePart = task_parts is_software 0 app.tasks ++ last in
      let tasks : List CodePart = task_parts (λ t. not (is_software t)) 0 app.tasks ++ free in
      subst (λ n. AreAbutting (IsPut app at) n (fixed_parts app ++ free_parts app) (drop n all))
      (ap (λ (lines : List Line). length lines) empty)
      (parts_then app at (OfBody body.Init ∷ []) (OfBody body.Idle ∷ tasks) none first all kept1 after2 init
      (parts_then app at (OfBody body.Idle ∷ []) tasks first second all kept2 after3 idle
      (parts_then app at (task_parts (λ t. not (is_software t)) 0 app.tasks) free second third all kept3 after4 hardware
      (parts_then app at (task_parts is_software 0 app.tasks) last third fourth all kept4 after5 software
      (parts_then app at (map OfLevel (levels app)) (timer_parts app.mono) fourth fifth all kept5 kept6 dispatchers
      timer)))))

-- what follows of the parts of an application's code
module _ (app : App) (at : Entries) (code : List Line) (parts : HasParts app at code) where
  pub parts_ordered : IsInOrder app at code
  parts_ordered = record {
    behind = free_parts app;
    free = IsPermutation-refl (free_parts app);
    abut = abut_weaker (IsPut app at) (IsPart app at) (λ part from lines put. put.is)
        (fixed_parts app ++ free_parts app) 0 code parts;
  }

  pub parts_written : AreAbutting (IsPartAt app at) 0 (fixed_parts app ++ free_parts app) code
  parts_written =
      abut_weaker (IsPut app at) (IsPartAt app at)
      (λ part from lines put. record { begins = put.is.begins; are = put.are }) (fixed_parts app ++ free_parts app) 0
      code parts
