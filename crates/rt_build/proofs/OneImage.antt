-- An application has one image that `build` makes, and where its code is fixed it has one image at all: two such images
-- have the same lines and parts that begin at the same addresses, so their tables are the same.
use Rattle.std.proofs.Common.{◌≡◌, ℕ, ◌+◌, Bool, true, false, List, [], ◌∷◌, ◌++◌, length, map, filter, Option, Some}
use Rattle.std.proofs.Common.{None}
use Rattle.std.proofs.Common.{option_map, slice_get, refl, sym, ap, subst, ◌∙◌, append-nil, if◌then◌else◌, not, arith}
use Rattle.std.proofs.Common.{flat_map, sum_by, ◌==◌, IsSome}
use Rattle.std.specs.Prelude.{is_none, IsPermutation}
use Rattle.std.specs.List.{AllByRecursion}
use Rattle.std.proofs.lemmas.List.Sorted.{sum_by-IsPermutation}
use Rattle.std.proofs.lemmas.List.Sums.{sum_by-cons}
use Rattle.rt_lemmas.proofs.Lists.{all_append, all_front, all_behind, none_asked}
use Rattle.rt_ids.specs.declared.ids.BodyId.{BodyId}
use Rattle.rt_ids.specs.declared.ids.BodyId.TheVariants as body
use Rattle.rt_app.specs.declared.app.IrqDecl.{IrqDecl}
use Rattle.rt_app.specs.declared.app.Mono.{Mono}
use Rattle.rt_app.specs.Bodies.{member_at}
use Rattle.rt_app.specs.Handlers.{Service, bound_service, task_services, dispatcher_of, dispatcher_service}
use Rattle.rt_app.specs.Handlers.{timer_service, services, service_of}
use Rattle.rt_app.specs.Level.{is_software, levels}
use Rattle.rt_app.specs.Tree.{Body, Task, App}
use Rattle.rt_code.specs.Image.{Image}
use Rattle.rt_code.specs.declared.image.BodyRow.{BodyRow}
use Rattle.rt_code.specs.declared.image.IrqRow.{IrqRow}
use Rattle.rt_gen_queue.specs.Line.{Line}
use Rattle.rt_gen_queue.specs.Called.{row_for, rows_for}
use Rattle.rt_gen_body.specs.Form.{fixed_body, HasForm}
use Rattle.rt_build.specs.Built.{IsPartAt, IsBuilt}
use Rattle.rt_build.specs.Entries.{Entries, entry_of, handler_row, irq_rows}
use Rattle.rt_build.specs.Image.{HasTables, IsImageOf}
use Rattle.rt_build.specs.Laws.{IsFixedPart, HasFixedCode, FixedCodeHasOneImage, OneImageIsBuilt}
use Rattle.rt_build.specs.Order.{CodePart, OfBody, OfLevel, OfTimer, begin_of, IsIdleFormed, IsFormed, task_parts}
use Rattle.rt_build.specs.Order.{timer_parts, fixed_parts, free_parts, IsPart, AreAbutting, IsInOrder}

-- each of nothing is in its order alone
none_permuted : {A : Type 0} (xs ys : List A) → IsPermutation xs ys → ys ≡ [] → xs ≡ []
none_permuted [] ys is none = refl
none_permuted (x ∷ xs) ys is none =
    let counted = sum_by-IsPermutation (λ z. 1) (x ∷ xs) ys is in
    let no : sum_by (λ z. 1) ys ≡ 0 = ap (sum_by (λ z. 1)) none in
    absurd (omega (arith, counted, no, sum_by-cons (λ z. 1) x xs))

all_filtered : {A : Type 0} (P : A → Type 0) (test : A → Bool) (xs : List A) → AllByRecursion P xs
    → AllByRecursion P (filter test xs)
all_filtered P test [] all = tt
all_filtered P test (x ∷ xs) (first, rest) = go (test x) (all_filtered P test xs rest)
  where
    go : (b : Bool) → AllByRecursion P (filter test xs)
        → AllByRecursion P (if b then x ∷ filter test xs else filter test xs)
    go true behind = (first, behind)
    go false behind = behind

module _ (app : App) where
  -- lines whose form is fixed are the same
  some_fixed : (o : Option (List Line)) → IsSome o → (front : List Line) × (o ≡ Some front)
  some_fixed None is = absurd cc
  some_fixed (Some front) is = (front, refl)

  body_same : (id : BodyId) (from : ℕ) (xs ys : List Line) → IsSome (fixed_body app (member_at app id))
      → HasForm app id from xs → HasForm app id from ys → xs ≡ ys
  body_same id from xs ys fixed first second =
      let one = some_fixed (fixed_body app (member_at app id)) fixed in
      first.fixed one.0 one.1 ∙ sym (second.fixed one.0 one.1)

  idle_same : (o : Option Body) (from : ℕ) (xs ys : List Line)
      → (HasForm app body.Idle from xs → HasForm app body.Idle from ys → xs ≡ ys)
      → IsIdleFormed app o from xs → IsIdleFormed app o from ys → xs ≡ ys
  idle_same None from xs ys same first second = first ∙ sym second
  idle_same (Some b) from xs ys same first second = same first second

  part_same : (part : CodePart) (from : ℕ) (xs ys : List Line) → IsFixedPart app part → IsFormed app part from xs
      → IsFormed app part from ys → xs ≡ ys
  part_same (OfBody body.Init) from xs ys fixed first second = body_same body.Init from xs ys fixed first second
  part_same (OfBody body.Idle) from xs ys fixed first second =
      idle_same app.idle from xs ys (body_same body.Idle from xs ys fixed) first second
  part_same (OfBody (body.Task n)) from xs ys fixed first second =
      body_same (body.Task n) from xs ys fixed first second
  part_same (OfLevel p) from xs ys fixed first second = absurd fixed
  part_same OfTimer from xs ys fixed first second = absurd fixed

  module _ (one other : Entries) where
    -- parts that begin at the same addresses
    abbrev BeginsAlike : CodePart → Type 0
    BeginsAlike part = begin_of one part ≡ begin_of other part

    -- parts of which these are known, each of which has the same lines in both, and begins alike
    parts_same : (IsKnown : CodePart → Type 0) (First Second : CodePart → ℕ → List Line → Type 0)
        → ((part : CodePart) (from : ℕ) (xs ys : List Line) → IsKnown part → First part from xs → Second part from ys
        → (xs ≡ ys) × BeginsAlike part)
        → (parts : List CodePart) (from : ℕ) (xs ys : List Line) → AllByRecursion IsKnown parts
        → AreAbutting First from parts xs → AreAbutting Second from parts ys
        → (xs ≡ ys) × AllByRecursion BeginsAlike parts
    parts_same IsKnown First Second same [] from xs ys known first second = (first ∙ sym second, tt)
    parts_same IsKnown First Second same (part ∷ parts) from xs ys (known, more_known) (own, more, is, here, rest)
        (own2, more2, is2, here2, rest2) =
        let one_part : (own ≡ own2) × BeginsAlike part = same part from own own2 known here here2 in
        let behind = parts_same IsKnown First Second same parts (from + length own) more more2 more_known rest
        (subst (λ (lines : List Line). AreAbutting Second (from + length lines) parts more2) (sym one_part.0) rest2)
        in (
          is ∙ (ap (λ (lines : List Line). lines ++ more) one_part.0
              ∙ (ap (λ (lines : List Line). own2 ++ lines) behind.0 ∙ sym is2)),
          (one_part.1, behind.1),
        )

    -- what serves an interrupt is taken alike
    abbrev EntersAlike : Service → Type 0
    EntersAlike s = entry_of one s.handler ≡ entry_of other s.handler

    tasks_alike : (n : ℕ) (ts : List Task) → AllByRecursion BeginsAlike (task_parts (λ t. not (is_software t)) n ts)
        → AllByRecursion EntersAlike (task_services n ts)
    tasks_alike n [] all = tt
    tasks_alike n (t ∷ ts) all = go t.binds (tasks_alike (n + 1) ts) all
      where
        go : (o : Option ℕ)
            → (AllByRecursion BeginsAlike (task_parts (λ t. not (is_software t)) (n + 1) ts)
            → AllByRecursion EntersAlike (task_services (n + 1) ts))
            → AllByRecursion BeginsAlike ((if not (is_none o) then OfBody (body.Task n) ∷ [] else [])
            ++ task_parts (λ t. not (is_software t)) (n + 1) ts)
            → AllByRecursion EntersAlike (bound_service n t o ++ task_services (n + 1) ts)
        go None behind all = behind all
        go (Some irq) behind all = (all.0, behind all.1)

    levels_alike : (ps : List ℕ) → AllByRecursion BeginsAlike (map OfLevel ps)
        → AllByRecursion EntersAlike (flat_map (λ p. dispatcher_service p (dispatcher_of app p)) ps)
    levels_alike [] all = tt
    levels_alike (p ∷ ps) (here, behind) =
        all_append EntersAlike (dispatcher_service p (dispatcher_of app p))
        (flat_map (λ p. dispatcher_service p (dispatcher_of app p)) ps) (go (dispatcher_of app p))
        (levels_alike ps behind)
      where
        go : (o : Option ℕ) → AllByRecursion EntersAlike (dispatcher_service p o)
        go None = tt
        go (Some irq) = (here, tt)

    timer_alike : (o : Option Mono) → AllByRecursion BeginsAlike (timer_parts o)
        → AllByRecursion EntersAlike (timer_service o)
    timer_alike None all = tt
    timer_alike (Some mono) (here, none) = (here, tt)

    rows_same : (ss : List Service) → AllByRecursion EntersAlike ss
        → option_map (handler_row app one) (slice_get ss 0) ≡ option_map (handler_row app other) (slice_get ss 0)
    rows_same [] all = refl
    rows_same (s ∷ ss) all =
        ap (λ entry. Some (record (handler_row app one s) { entry = entry })) all.0

    irqs_same : (all : AllByRecursion EntersAlike (services app)) (i : ℕ) (ds : List IrqDecl)
        → irq_rows app one i ds ≡ irq_rows app other i ds
    irqs_same all i [] = refl
    irqs_same all i (d ∷ ds) =
        ap (λ handler. record { name = d.name; number = d.number; handler = handler } ∷ irq_rows app one (i + 1) ds)
        (rows_same (service_of app i) (all_filtered EntersAlike (λ s. s.irq == i) (services app) all))
        ∙ ap (λ (rows : List IrqRow).
        record {
          name = d.name;
          number = d.number;
          handler = option_map (handler_row app other)
              (slice_get (service_of app i) 0);
        } ∷ rows) (irqs_same all (i + 1) ds)

    bodies_same : (n : ℕ) (ts : List Task) → AllByRecursion BeginsAlike (task_parts is_software n ts)
        → rows_for one.task n ts ≡ rows_for other.task n ts
    bodies_same n [] all = refl
    bodies_same n (t ∷ ts) all = go (is_software t) (bodies_same (n + 1) ts) all
      where
        go : (b : Bool)
            → (AllByRecursion BeginsAlike (task_parts is_software (n + 1) ts)
            → rows_for one.task (n + 1) ts ≡ rows_for other.task (n + 1) ts)
            → AllByRecursion BeginsAlike ((if b then OfBody (body.Task n) ∷ [] else [])
            ++ task_parts is_software (n + 1) ts)
            → (if b then row_for one.task n t ∷ [] else []) ++ rows_for one.task (n + 1) ts
            ≡ (if b then row_for other.task n t ∷ [] else []) ++ rows_for other.task (n + 1) ts
        go true behind (here, rest) =
            ap (λ entry. record (row_for one.task n t) { entry = entry } ∷ rows_for one.task (n + 1) ts) here
            ∙ ap (λ (rows : List BodyRow). row_for other.task n t ∷ rows) (behind rest)
        go false behind all = behind all

    module _ (all : AllByRecursion BeginsAlike (fixed_parts app ++ free_parts app)) where
      free_alike : AllByRecursion BeginsAlike (free_parts app)
      free_alike = all_behind BeginsAlike (fixed_parts app) (free_parts app) all

      handlers_alike : AllByRecursion BeginsAlike (map OfLevel (levels app) ++ timer_parts app.mono)
      handlers_alike = all_behind BeginsAlike (task_parts is_software 0 app.tasks) _ free_alike

      services_alike : AllByRecursion EntersAlike (services app)
      services_alike =
          all_append EntersAlike (task_services 0 app.tasks) _
          (tasks_alike 0 app.tasks (all_front BeginsAlike (fixed_parts app) (free_parts app) all).1.1)
          (all_append EntersAlike (flat_map (λ p. dispatcher_service p (dispatcher_of app p)) (levels app))
          (timer_service app.mono)
          (levels_alike (levels app) (all_front BeginsAlike (map OfLevel (levels app)) _ handlers_alike))
          (timer_alike app.mono (all_behind BeginsAlike (map OfLevel (levels app)) _ handlers_alike)))

      same_images : (a b : Image) → HasTables app one a → HasTables app other b → a.code ≡ b.code → a ≡ b
      same_images a b first second code =
          ap (λ v. record a { bits = v }) (first.bits ∙ sym second.bits)
          ∙ ap (λ v. record a { bits = b.bits; fpu = v }) (first.fpu ∙ sym second.fpu)
          ∙ ap (λ v. record a { bits = b.bits; fpu = b.fpu; stack_bytes = v }) (first.stack ∙ sym second.stack)
          ∙ ap (λ v. record a { bits = b.bits; fpu = b.fpu; stack_bytes = b.stack_bytes; thread_words = v })
          (first.thread ∙ sym second.thread)
          ∙ ap (λ v. record b { cells = v; irqs = a.irqs; bodies = a.bodies; code = a.code; names = a.names })
          (first.cells ∙ sym second.cells)
          ∙ ap (λ v. record b { irqs = v; bodies = a.bodies; code = a.code; names = a.names })
          (first.irqs ∙ irqs_same services_alike 0 app.irqs ∙ sym second.irqs)
          ∙ ap (λ v. record b { bodies = v; code = a.code; names = a.names })
          (first.bodies
          ∙ bodies_same 0 app.tasks (all_front BeginsAlike (task_parts is_software 0 app.tasks) _ free_alike)
          ∙ sym second.bodies)
          ∙ ap (λ v. record b { code = v; names = a.names }) code
          ∙ ap (λ v. record b { names = v }) (first.names ∙ sym second.names)

  module _ (fixed : HasFixedCode app) where
    code_abuts : (at : Entries) (code : List Line) → IsInOrder app at code
        → AreAbutting (IsPart app at) 0 (fixed_parts app) code
    code_abuts at code order =
        subst (λ (ps : List CodePart). AreAbutting (IsPart app at) 0 ps code)
        (ap (λ (ps : List CodePart). fixed_parts app ++ ps)
        (none_permuted order.behind (free_parts app) order.free fixed.alone) ∙ append-nil (fixed_parts app)) order.abut

    fixed_images : (a b : Image) → IsImageOf app a → IsImageOf app b → a ≡ b
    fixed_images a b first second =
        let Alike = BeginsAlike first.at second.at in
        let code = parts_same first.at second.at (IsFixedPart app) (IsPart app first.at) (IsPart app second.at)
        (λ part from xs ys known here there. (
          part_same part from xs ys known here.formed there.formed,
          here.begins ∙ sym there.begins,
        ))
        (fixed_parts app) 0 a.code b.code fixed.bodies (code_abuts first.at a.code first.order)
        (code_abuts second.at b.code second.order) in
        let all : AllByRecursion Alike (fixed_parts app ++ free_parts app) =
        subst (λ (ps : List CodePart). AllByRecursion Alike (fixed_parts app ++ ps)) (sym fixed.alone)
        (subst (AllByRecursion Alike) (sym (append-nil (fixed_parts app))) code.1) in
        same_images first.at second.at all a b first.tables second.tables code.0

  built_images : (a b : Image) → IsBuilt app a → IsBuilt app b → a ≡ b
  built_images a b first second =
      let code = parts_same first.at second.at (λ part. Unit {0}) (IsPartAt app first.at) (IsPartAt app second.at)
      (λ part from xs ys known here there. (here.are ∙ sym there.are, here.begins ∙ sym there.begins))
      (fixed_parts app ++ free_parts app) 0 a.code b.code (none_asked (fixed_parts app ++ free_parts app)) first.parts
      second.parts in
      same_images first.at second.at code.1 a b first.tables second.tables code.0

pub one_image : FixedCodeHasOneImage
one_image app a b fixed first second = fixed_images app fixed a b first second

pub one_is_built : OneImageIsBuilt
one_is_built app a b first second = built_images app a b first second
