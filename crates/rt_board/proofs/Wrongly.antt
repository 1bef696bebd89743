-- A line that is refused is wrong for the cause that is told.
use Rattle.std.proofs.Common.{◌≡◌, ℕ, ◌==◌, ◌||◌, ◌&&◌, Bool, true, false, List, [], ◌∷◌, map}
use Rattle.std.proofs.Common.{slice_get, bytes_eq, codes, option_map, Option, Some, None, Ok, Err, if◌then◌else◌}
use Rattle.std.proofs.Common.{refl, sym, ap, subst, ◌∙◌}
use Rattle.std.specs.List.{list_any}
use Rattle.std.specs.Option.{ok_or, is_some}
use Rattle.std.specs.Result.{IfErr}
use Rattle.std.proofs.lemmas.Bool.{cond_both}
use Rattle.std.proofs.lemmas.Option.{none-some, same_Some, slice_get-map}
use Rattle.std.proofs.lemmas.Result.{IfOk-at_ok, IfErr-at_err}
use Rattle.std.proofs.lemmas.Slice.Eq.{bytes_eq-Decides}
use Rattle.rt_lemmas.proofs.Bools.{and_both, and_left, and_right, true_and_false}
use Rattle.rt_lemmas.proofs.Lists.{found}
use Rattle.rt_lemmas.proofs.Membership.{any_one, any_passes, contained_any, contains_at}
use Rattle.rt_lemmas.proofs.Texts.{same_text}
use Rattle.rt_ids.specs.Lists.{is_some_and, then_from}
use Rattle.rt_ids.specs.Names.{task_index}
use Rattle.rt_ids.specs.Word.{is_identifier}
use Rattle.rt_ids.proofs.Lists.{is_some-position, list_any-map}
use Rattle.rt_lines.specs.Parts.{spaced_words}
use Rattle.rt_script.specs.Wording.{is_blank, is_comment, is_loose}
use Rattle.rt_app.specs.Tree.{Task, App}
use Rattle.rt_app.specs.Level.{is_software}
use Rattle.rt_app.specs.Names.{names_of}
use Rattle.rt_app.specs.declared.body.Owned.{Owned}
use Rattle.rt_app.proofs.Members.{made_of}
use Rattle.rt_board.specs.Board.{Board, with_input, is_written}
use Rattle.rt_board.specs.Wording.{is_named, two_names, if_hardware, listed_local, own_local, hardware_task, if_new}
use Rattle.rt_board.specs.Wording.{input_of, says_input, with_words, with_line}
use Rattle.rt_board.specs.Wrong.{HasForm, HasTask, HasLocal, Lists, IsWrong, RefusedLinesAreWrong}
use Rattle.rt_board.specs.declared.board.Input.{Input}
use Rattle.rt_board.specs.declared.refusal.Cause.{Cause}
use Rattle.rt_board.specs.declared.refusal.Cause.TheVariants as cause
use Rattle.rt_board.proofs.Refused.{if_err_or, if_err_then, if_err_make}
use Rattle.rt_board.proofs.Telling.{IsHardware, IsOwn, task_named, task_hardware, local_own}

module _ (app : App) where
  -- where a search by name finds no task, none has the name
  no_task : (name : List ℕ) (t : Task) → task_index (names_of app) name ≡ None → ¬ HasTask app name t
  no_task name t none has =
      let names : List (List ℕ) = map (λ t. t.name) app.tasks in
      let there : slice_get names has.index ≡ Some name =
      slice_get-map (λ (t : Task). t.name) app.tasks has.index
      ∙ ap (λ o. option_map (λ (t : Task). t.name) o) has.task_is
      ∙ ap Some has.named in
      let any : list_any (bytes_eq name) names ≡ true =
      any_passes (bytes_eq name) names has.index name there (same_text name) in
      true_and_false (list_any (bytes_eq name) names) any
      (sym (is_some-position (bytes_eq name) names) ∙ ap is_some none)

  -- where a search by name finds no local resource, none has the name
  no_local : (name : List ℕ) (n : ℕ) → list_any (is_named name) app.locals ≡ false → ¬ HasLocal app name n
  no_local name n none has =
      true_and_false (list_any (is_named name) app.locals)
      (any_passes (is_named name) app.locals n has.local has.local_is
      ((bytes_eq-Decides has.local.name name).1 has.named))
      none

  -- where a search by name finds none that a task lists, it lists none of the name
  not_listed : (name : List ℕ) (t : Task) (n : ℕ) → listed_local app name t ≡ None → HasLocal app name n
      → ¬ Lists app t n
  not_listed name t n none has lists =
      let all : List Owned = t.body.local in
      let test : Owned → Bool = λ o. is_some_and (is_named name) (slice_get app.locals o.local) in
      let place = contains_at (map (λ o. o.local) all) n lists in
      let o = made_of (λ (o : Owned). o.local) (slice_get all place.0) n
      (sym (slice_get-map (λ (o : Owned). o.local) all place.0) ∙ place.1) in
      let passes : test o.0 ≡ true =
      rw (o.2, has.local_is) ((bytes_eq-Decides has.local.name name).1 has.named) in
      let first = found test all place.0 o.0 o.1 passes in
      none-some first.0.local (sym none ∙ ap (option_map (λ (o : Owned). o.local)) first.1)

  module _ (board : Board) (line : List ℕ) where
    abbrev Wrong : Cause → Type 0
    Wrong c = IsWrong app board.inputs line c

    abbrev Form : List ℕ → List ℕ → Type 0
    Form task local = HasForm line task local

    has_task : (task : List ℕ) (t : ℕ) (is : IsHardware app task t) → HasTask app task is.task
    has_task task t is = record { index = t; task_is = is.task_is; named = sym is.named }

    task_wrong : (task local : List ℕ) → Form task local → IfErr (hardware_task (names_of app) app task) Wrong
    task_wrong task local form =
        if_err_then Wrong (ok_or (task_index (names_of app) task) cause.UnknownTask) (if_hardware app)
        (if_err_or Wrong (task_index (names_of app) task) cause.UnknownTask
        (λ none. (task, local, form, λ t. no_task task t none)))
        (λ t given. let named = task_named app task t (some_of (task_index (names_of app) task) t given) in
        cond_both (is_some_and is_software (slice_get app.tasks t)) (Err cause.SoftwareTask) (Ok t)
        (λ r. IfErr r Wrong)
        (λ soft. (
          task,
          local,
          form,
          named.0,
          record { index = t; task_is = named.1; named = sym named.2 },
          sym (ap (is_some_and is_software) named.1) ∙ soft,
        ))
        (λ _. tt))
      where
        some_of : (o : Option ℕ) (t : ℕ) → ok_or o cause.UnknownTask ≡ Ok t → o ≡ Some t
        some_of None t is = absurd cc
        some_of (Some x) t is = cc

    local_wrong : (task local : List ℕ) → Form task local → (t : ℕ) → IsHardware app task t
        → IfErr (own_local app t local) Wrong
    local_wrong task local form t is =
        cond_both (list_any (is_named local) app.locals)
        (ok_or (then_from (slice_get app.tasks t) (listed_local app local)) cause.LocalOfAnother)
        (Err cause.UnknownLocal) (λ r. IfErr r Wrong)
        (λ known. if_err_or Wrong (then_from (slice_get app.tasks t) (listed_local app local)) cause.LocalOfAnother
        (λ none. let one = any_one (is_named local) app.locals known in
        let has : HasLocal app local one.0 = record {
          local = one.1;
          local_is = one.2;
          named = (bytes_eq-Decides one.1.name local).0 one.3;
        } in (
          task,
          local,
          form,
          is.task,
          has_task task t is,
          is.hardware,
          one.0,
          has,
          not_listed local is.task one.0
              (sym (ap (λ o. then_from o (listed_local app local)) is.task_is) ∙ none) has,
        )))
        (λ unknown. (task, local, form, is.task, has_task task t is, is.hardware, λ n. no_local local n unknown))

    twice_wrong : (task local : List ℕ) → Form task local → (t n : ℕ) → IsHardware app task t → IsOwn app t local n
        → IfErr (if_new (names_of app) app board t n) Wrong
    twice_wrong task local form t n is own =
        cond_both (is_written board n) (Err cause.NamedTwice) (Ok (record { task = t; local = n }))
        (λ r. IfErr r Wrong)
        (λ written. (
          task,
          local,
          form,
          is.task,
          has_task task t is,
          is.hardware,
          n,
          record { local = own.local; local_is = own.local_is; named = own.named },
          subst (λ (t : Task). Lists app t n) (same_Some own.task is.task (sym own.task_is ∙ is.task_is)) own.own,
          contained_any n (map (λ (i : Input). i.local) board.inputs)
              (list_any-map (λ (i : Input). i.local) (λ k. k == n) board.inputs ∙ written),
        ))
        (λ _. tt)

    named_wrong : (task local : List ℕ) → Form task local
        → IfErr (input_of (names_of app) app board task local) Wrong
    named_wrong task local form =
        if_err_then Wrong (hardware_task (names_of app) app task) _ (task_wrong task local form)
        (λ t given. let is = IfOk-at_ok (IsHardware app task) given (task_hardware app task) in
        if_err_then Wrong (own_local app t local) (if_new (names_of app) app board t)
        (local_wrong task local form t is)
        (λ n own. twice_wrong task local form t n is (IfOk-at_ok (IsOwn app t local) own (local_own app t local))))

    module _ (said : (is_blank line || is_comment line) ≡ false) (tight : is_loose line ≡ false) where
      rest_wrong : (rest : List (List ℕ)) → spaced_words line ≡ codes "input" ∷ rest
          → IfErr (two_names (input_of (names_of app) app board) rest) Wrong
      rest_wrong [] parts = (said, λ task local form. let same = sym parts ∙ form.words in absurd cc)
      rest_wrong (a ∷ []) parts = (said, λ task local form. let same = sym parts ∙ form.words in absurd cc)
      rest_wrong (a ∷ b ∷ []) parts =
          cond_both (is_identifier a && is_identifier b) (input_of (names_of app) app board a b) (Err cause.BadLine)
          (λ r. IfErr r Wrong)
          (λ names. named_wrong a b (record {
            words = parts;
            task_name = and_left (is_identifier a) (is_identifier b) names;
            local_name = and_right (is_identifier a) (is_identifier b) names;
            tight = tight;
            said = said;
          }))
          (λ not. (
            said,
            λ task local form. let same = sym parts ∙ form.words in
                let first : a ≡ task = cc in
                let second : b ≡ local = cc in
                true_and_false (is_identifier a && is_identifier b)
                (and_both (is_identifier a) (is_identifier b) (ap is_identifier first ∙ form.task_name)
                (ap is_identifier second ∙ form.local_name)) not,
          ))
      rest_wrong (a ∷ b ∷ c ∷ rest) parts = (said, λ task local form. let same = sym parts ∙ form.words in absurd cc)

      words_wrong : (words : List (List ℕ)) → spaced_words line ≡ words
          → IfErr (with_words (names_of app) app board words) Wrong
      words_wrong [] parts = (said, λ task local form. let same = sym parts ∙ form.words in absurd cc)
      words_wrong (first ∷ rest) parts =
          let input : List ℕ = codes "input" in
          cond_both (bytes_eq first input) (says_input (names_of app) app board rest) (Err cause.BadLine)
          (λ r. IfErr r Wrong)
          (λ is. if_err_make Wrong (two_names (input_of (names_of app) app board) rest) (with_input board)
          (rest_wrong rest (parts ∙ ap (λ w. w ∷ rest) ((bytes_eq-Decides first input).0 is))))
          (λ not. (
            said,
            λ task local form. let same = sym parts ∙ form.words in
                let head : first ≡ input = cc in
                true_and_false (bytes_eq first input) ((bytes_eq-Decides first input).1 head) not,
          ))

    line_wrong : IfErr (with_line (names_of app) app board line) Wrong
    line_wrong =
        cond_both (is_blank line || is_comment line) (Ok board)
        (if is_loose line then Err cause.BadLine else with_words (names_of app) app board (spaced_words line))
        (λ r. IfErr r Wrong) (λ _. tt)
        (λ said. cond_both (is_loose line) (Err cause.BadLine)
        (with_words (names_of app) app board (spaced_words line)) (λ r. IfErr r Wrong)
        (λ loose. (said, λ task local form. true_and_false (is_loose line) loose form.tight))
        (λ tight. words_wrong said tight (spaced_words line) refl))

pub refused_lines_are_wrong : RefusedLinesAreWrong
refused_lines_are_wrong app board line c is =
    IfErr-at_err (IsWrong app board.inputs line) is (line_wrong app board line)
