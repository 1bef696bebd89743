-- The board behind a line is the one that the line tells, and each line that tells one is right.
use Rattle.std.proofs.Common.{◌≡◌, ℕ, inl, inr, Bool, true, false, Contains, List, [], map}
use Rattle.std.proofs.Common.{slice_get, option_map, Some, Ok, Err, if◌then◌else◌}
use Rattle.std.proofs.Common.{refl, sym, ap, subst, ◌∙◌}
use Rattle.std.specs.Option.{ok_or}
use Rattle.std.proofs.lemmas.Option.{same_Some, slice_get_within, slice_get-map, get_or_from_slice_get}
use Rattle.std.proofs.lemmas.Result.{IfOk-at_ok}
use Rattle.rt_lemmas.proofs.Lists.{found, mapped_at, found_passes}
use Rattle.rt_lemmas.proofs.Membership.{all_at, any_passes, contains_at}
use Rattle.rt_lemmas.proofs.Texts.{same_text}
use Rattle.rt_ids.specs.Lists.{AreDifferent, is_some_and, then_from}
use Rattle.rt_ids.specs.Names.{task_index}
use Rattle.rt_ids.specs.Word.{IsName}
use Rattle.rt_lines.specs.Answers.{and_then}
use Rattle.rt_lines.specs.Parts.{spaced_words}
use Rattle.rt_lines.proofs.Found.{task_found}
use Rattle.rt_app.specs.Tree.{Task, App}
use Rattle.rt_app.specs.Accepted.{IsAccepted}
use Rattle.rt_app.specs.Level.{is_software}
use Rattle.rt_app.specs.Names.{names_of}
use Rattle.rt_app.specs.declared.body.Owned.{Owned}
use Rattle.rt_app.specs.declared.app.Local.{Local}
use Rattle.rt_app.proofs.Different.{different_back}
use Rattle.rt_app.proofs.Members.{made_of}
use Rattle.rt_app.proofs.SoundNames.{are_names}
use Rattle.rt_board.specs.Board.{Board, with_input, is_written, IsInput}
use Rattle.rt_board.specs.Wording.{is_named, local_among, if_hardware, listed_local, own_local, hardware_task, if_new}
use Rattle.rt_board.specs.Wording.{input_of, with_words, with_line}
use Rattle.rt_script.specs.Wording.{is_loose}
use Rattle.rt_board.specs.Told.{NamesInput, ComesBehind, LinesAreNamed}
use Rattle.rt_board.specs.declared.board.Input.{Input}
use Rattle.rt_board.specs.declared.refusal.Cause.TheVariants as cause
use Rattle.rt_board.proofs.Telling.{line_follows, named_local}

module _ (app : App) where
  module _ (accepted : IsAccepted app) where
    locals_differ : AreDifferent (map (λ r. r.name) app.locals)
    locals_differ =
        different_back (map (λ r. r.name) app.shared) (map (λ r. r.name) app.locals) accepted.names.resources_differ

    task_known : (t : ℕ) (task : Task) → slice_get app.tasks t ≡ Some task
        → task_index (names_of app) task.name ≡ Some t
    task_known t task at =
        let names : List (List ℕ) = map (λ t. t.name) app.tasks in
        let there : slice_get names t ≡ Some task.name = mapped_at (λ (t : Task). t.name) app.tasks t task at in
        ap (task_index (names_of app)) (sym (get_or_from_slice_get names t task.name [] there))
        ∙ task_found (names_of app) t (are_names app accepted.names accepted.limits)
        (slice_get_within names t task.name there)

    -- what has the index of a local resource passes a search by its name
    passes_by_name : (o : Owned) (n : ℕ) (local : Local) → o.local ≡ n → slice_get app.locals n ≡ Some local
        → is_some_and (is_named local.name) (slice_get app.locals o.local) ≡ true
    passes_by_name o n local same at = rw (same, at) (same_text local.name)

    -- and no other does
    index_by_name : (o : Owned) (n : ℕ) (local : Local) → slice_get app.locals n ≡ Some local
        → is_some_and (is_named local.name) (slice_get app.locals o.local) ≡ true
        → o.local ≡ n
    index_by_name o n local at passes =
        let other = named_local app local.name o passes in
        locals_differ o.local n local.name
        (mapped_at (λ (r : Local). r.name) app.locals o.local other.0 other.1 ∙ ap Some other.2)
        (mapped_at (λ (r : Local). r.name) app.locals n local at)

    -- the local resource of a name that is listed is found by its name
    among_known : (all : List Owned) (n : ℕ) (local : Local) → Contains (map (λ o. o.local) all) n
        → slice_get app.locals n ≡ Some local
        → local_among app.locals local.name all ≡ Some n
    among_known all n local own at =
        let test : Owned → Bool = λ o. is_some_and (is_named local.name) (slice_get app.locals o.local) in
        let place = contains_at (map (λ o. o.local) all) n own in
        let o = made_of (λ (o : Owned). o.local) (slice_get all place.0) n
        (sym (slice_get-map (λ (o : Owned). o.local) all place.0) ∙ place.1) in
        let first = found test all place.0 o.0 o.1 (passes_by_name o.0 n local o.2 at) in
        ap (option_map (λ (o : Owned). o.local)) first.1
        ∙ ap Some (index_by_name first.0 n local at (found_passes test all first.0 first.1))

    module _ (b : Board) (line : List ℕ) (input : Input) (names : NamesInput app line input)
        (is : IsInput app input) (fresh : is_written b input.local ≡ false) where
      same_task : is.task ≡ names.task
      same_task = same_Some is.task names.task (sym is.task_is ∙ names.task_is)

      hardware_known : hardware_task (names_of app) app names.task.name ≡ Ok input.task
      hardware_known =
          ap (λ o. and_then (ok_or o cause.UnknownTask) (if_hardware app))
          (task_known input.task names.task names.task_is)
          ∙ ap (λ soft. if soft then Err cause.SoftwareTask else Ok input.task)
          (ap (is_some_and is_software) is.task_is ∙ is.hardware)

      own_known : own_local app input.task names.local.name ≡ Ok input.local
      own_known =
          let name = names.local.name in
          let listed : listed_local app name names.task ≡ Some input.local =
          among_known names.task.body.local input.local names.local
          (subst (λ (t : Task). Contains (map (λ o. o.local) t.body.local) input.local) same_task is.own)
          names.local_is in
          ap (λ known. if known
          then ok_or (then_from (slice_get app.tasks input.task) (listed_local app name)) cause.LocalOfAnother
          else Err cause.UnknownLocal)
          (any_passes (is_named name) app.locals input.local names.local names.local_is (same_text name))
          ∙ ap (λ o. ok_or (then_from o (listed_local app name)) cause.LocalOfAnother) names.task_is
          ∙ ap (λ o. ok_or o cause.LocalOfAnother) listed

      input_known : input_of (names_of app) app b names.task.name names.local.name ≡ Ok input
      input_known =
          ap (λ r. and_then r (λ t. and_then (own_local app t names.local.name) (if_new (names_of app) app b t)))
          hardware_known
          ∙ ap (λ r. and_then r (if_new (names_of app) app b input.task)) own_known
          ∙ ap (λ w. if w then Err cause.NamedTwice else Ok input) fresh

      pub line_known : with_line (names_of app) app b line ≡ Ok (with_input b input)
      line_known =
          let task_name : IsName names.task.name =
          all_at (λ t. IsName t.name) app.tasks input.task names.task accepted.names.tasks names.task_is in
          let local_name : IsName names.local.name =
          all_at (λ r. IsName r.name) app.locals input.local names.local accepted.names.locals names.local_is in
          rw (names.said, names.tight, names.words, task_name.identifier, local_name.identifier, input_known) refl

pub lines_are_named : LinesAreNamed
lines_are_named app accepted board line u = (
  λ given. IfOk-at_ok (ComesBehind app board line) given (line_follows app board line),
  by_what_it_tells,
)
  where
    by_what_it_tells : ComesBehind app board line u → with_line (names_of app) app board line ≡ Ok u
    by_what_it_tells (inl skipped) =
        ap (λ skips. if skips then Ok board
        else if is_loose line then Err cause.BadLine else with_words (names_of app) app board (spaced_words line))
        skipped.0
        ∙ ap Ok (sym skipped.1)
    by_what_it_tells (inr adds) =
        line_known app accepted board line adds.0 adds.4 adds.2 adds.3 ∙ ap Ok (sym adds.1)
