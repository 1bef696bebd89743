-- What a line tells: nothing, or an input that it names.
use Rattle.std.proofs.Common.{◌≡◌, ℕ, ◌<◌, inl, inr, Bool, true, false, ◌||◌, ◌&&◌, Contains, List, [], ◌∷◌}
use Rattle.std.proofs.Common.{map, find, position, slice_get, bytes_eq, codes, Option, Some, None, Ok, Err, IfOk}
use Rattle.std.proofs.Common.{IfSome, if◌then◌else◌, refl, sym, ap, subst, ◌∙◌}
use Rattle.std.specs.List.{list_any}
use Rattle.std.specs.Option.{ok_or}
use Rattle.std.proofs.lemmas.Bool.{cond_both}
use Rattle.std.proofs.lemmas.List.{length-map}
use Rattle.std.proofs.lemmas.List.Quantifiers.{position-Some}
use Rattle.std.proofs.lemmas.Option.{slice_get_within, get_or_from_slice_get}
use Rattle.std.proofs.lemmas.Result.{IfOk-at_ok}
use Rattle.std.proofs.lemmas.Slice.Eq.{bytes_eq-Decides}
use Rattle.rt_lemmas.proofs.Lists.{mapped_at, some_at, found_passes}
use Rattle.rt_lemmas.proofs.Options.{if_some-map}
use Rattle.rt_ids.specs.Lists.{is_some_and, then_from}
use Rattle.rt_ids.specs.Names.{task_index}
use Rattle.rt_ids.specs.Word.{is_identifier}
use Rattle.rt_ids.proofs.Lists.{some_passing}
use Rattle.rt_lines.specs.Parts.{spaced_words}
use Rattle.rt_lines.proofs.Decoded.{if_some_from, if_ok_from, if_ok_or, if_ok_chosen, if_ok_then, if_ok_make}
use Rattle.rt_lines.proofs.Found.{found_at}
use Rattle.rt_script.specs.Wording.{is_blank, is_comment, is_loose}
use Rattle.rt_app.specs.Tree.{Task, App}
use Rattle.rt_app.specs.Names.{names_of}
use Rattle.rt_app.specs.Level.{is_software}
use Rattle.rt_app.specs.declared.app.Local.{Local}
use Rattle.rt_app.specs.declared.body.Owned.{Owned}
use Rattle.rt_app.proofs.Different.{contained}
use Rattle.rt_board.specs.Board.{Board, with_input, is_written, IsInput}
use Rattle.rt_board.specs.Wording.{is_named, two_names, if_hardware, listed_local, own_local, hardware_task, if_new}
use Rattle.rt_board.specs.Wording.{input_of, says_input, with_words, with_line}
use Rattle.rt_board.specs.Told as told
use Rattle.rt_board.specs.declared.board.Input.{Input}
use Rattle.rt_board.specs.declared.refusal.Cause.TheVariants as cause

-- the local resource that a search by name found
pub named_local : (app : App) (name : List ℕ) (o : Owned)
    → is_some_and (is_named name) (slice_get app.locals o.local) ≡ true
    → (r : Local) × (slice_get app.locals o.local ≡ Some r) × (r.name ≡ name)
named_local app name o passes =
    let there = some_passing (is_named name) (slice_get app.locals o.local) passes in
    (there.0, there.1, (bytes_eq-Decides there.0.name name).0 there.2)

module _ (app : App) where
  -- a hardware task has this name
  pub record IsHardware (name : List ℕ) (t : ℕ) : Type 0 where
    pub task : Task
    pub task_is : slice_get app.tasks t ≡ Some task
    pub named : name ≡ task.name
    pub hardware : is_software task ≡ false

  -- a task lists a local resource of this name
  pub record IsOwn (t : ℕ) (name : List ℕ) (n : ℕ) : Type 0 where
    pub task : Task
    pub task_is : slice_get app.tasks t ≡ Some task
    pub own : Contains (map (λ o. o.local) task.body.local) n
    pub local : Local
    pub local_is : slice_get app.locals n ≡ Some local
    pub named : local.name ≡ name

  listed_own : (name : List ℕ) (t : ℕ) (task : Task) → slice_get app.tasks t ≡ Some task
      → IfSome (listed_local app name task) (IsOwn t name)
  listed_own name t task at =
      let test : Owned → Bool = λ o. is_some_and (is_named name) (slice_get app.locals o.local) in
      if_some-map (λ (o : Owned). o.local) (IsOwn t name) (find test task.body.local)
      (if_some_from (find test task.body.local) (λ o. IsOwn t name o.local)
      (λ o is. let there = named_local app name o (found_passes test task.body.local o is) in
      let place = found_at test task.body.local o is in
      record {
        task = task;
        task_is = at;
        own = contained (map (λ (o : Owned). o.local) task.body.local) place.0 o.local
            (mapped_at (λ (o : Owned). o.local) task.body.local place.0 o place.1);
        local = there.0;
        local_is = there.1;
        named = there.2;
      }))

  task_own : (name : List ℕ) (t : ℕ) (o : Option Task) → slice_get app.tasks t ≡ o
      → IfSome (then_from o (listed_local app name)) (IsOwn t name)
  task_own name t None at = tt
  task_own name t (Some task) at = listed_own name t task at

  pub local_own : (t : ℕ) (name : List ℕ) → IfOk (own_local app t name) (IsOwn t name)
  local_own t name =
      if_ok_chosen (list_any (is_named name) app.locals) _ (Err cause.UnknownLocal) (IsOwn t name)
      (λ _. if_ok_or (then_from (slice_get app.tasks t) (listed_local app name)) cause.LocalOfAnother (IsOwn t name)
      (task_own name t (slice_get app.tasks t) refl))
      tt

  abbrev tasks : List (List ℕ)
  tasks = map (λ t. t.name) app.tasks

  -- the task of a name, whichever it is
  pub task_named : (name : List ℕ) (t : ℕ) → position (bytes_eq name) tasks ≡ Some t
      → (task : Task) × (slice_get app.tasks t ≡ Some task) × (name ≡ task.name)
  task_named name t is =
      let first = position-Some (bytes_eq name) tasks t [] is in
      let there = some_at app.tasks t (subst (λ n. t < n) (length-map app.tasks (λ t. t.name)) first.0) in
      let read = get_or_from_slice_get tasks t there.0.name []
      (mapped_at (λ (t : Task). t.name) app.tasks t there.0 there.1) in
      (there.0, there.1, (bytes_eq-Decides name there.0.name).0 (ap (bytes_eq name) (sym read) ∙ first.1))

  hardware_is : (name : List ℕ) (t : ℕ)
      → (task : Task) × (slice_get app.tasks t ≡ Some task) × (name ≡ task.name)
      → IfOk (if_hardware app t) (IsHardware name)
  hardware_is name t named =
      cond_both (is_some_and is_software (slice_get app.tasks t)) (Err cause.SoftwareTask) (Ok t)
      (λ r. IfOk r (IsHardware name)) (λ _. tt)
      (λ hardware. record {
        task = named.0;
        task_is = named.1;
        named = named.2;
        hardware = sym (ap (is_some_and is_software) named.1) ∙ hardware;
      })

  pub task_hardware : (name : List ℕ) → IfOk (hardware_task (names_of app) app name) (IsHardware name)
  task_hardware name =
      let there : ℕ → Type 0 = λ t. (task : Task) × (slice_get app.tasks t ≡ Some task) × (name ≡ task.name) in
      if_ok_then (IsHardware name) (ok_or (task_index (names_of app) name) cause.UnknownTask) (if_hardware app) there
      (if_ok_or (task_index (names_of app) name) cause.UnknownTask there
      (if_some_from (task_index (names_of app) name) there (task_named name)))
      (hardware_is name)

  module _ (board : Board) where
    -- an input that can come behind these, named by these words
    pub record IsNew (words : List (List ℕ)) (input : Input) : Type 0 where
      pub may : IsInput app input
      pub fresh : is_written board input.local ≡ false
      pub task : Task
      pub task_is : slice_get app.tasks input.task ≡ Some task
      pub local : Local
      pub local_is : slice_get app.locals input.local ≡ Some local
      pub words_are : words ≡ task.name ∷ local.name ∷ []

    new_is : (task local : List ℕ) (t n : ℕ) → IsHardware task t → IsOwn t local n
        → IfOk (if_new (names_of app) app board t n) (IsNew (task ∷ local ∷ []))
    new_is task local t n hardware own =
        cond_both (is_written board n) (Err cause.NamedTwice) (Ok (record { task = t; local = n }))
        (λ r. IfOk r (IsNew (task ∷ local ∷ []))) (λ _. tt)
        (λ fresh. record {
          may = record {
            task = own.task;
            task_is = own.task_is;
            hardware =
                sym (ap (is_some_and is_software) own.task_is) ∙ ap (is_some_and is_software) hardware.task_is
                ∙ hardware.hardware;
            declared = slice_get_within app.locals n own.local own.local_is;
            own = own.own;
          };
          fresh = fresh;
          task = hardware.task;
          task_is = hardware.task_is;
          local = own.local;
          local_is = own.local_is;
          words_are = ap (λ w. w ∷ local ∷ []) hardware.named ∙ ap (λ w. hardware.task.name ∷ w ∷ []) (sym own.named);
        })

    input_new : (task local : List ℕ)
        → IfOk (input_of (names_of app) app board task local) (IsNew (task ∷ local ∷ []))
    input_new task local =
        if_ok_then (IsNew (task ∷ local ∷ [])) (hardware_task (names_of app) app task) _ (IsHardware task)
        (task_hardware task)
        (λ t hardware. if_ok_then (IsNew (task ∷ local ∷ [])) (own_local app t local)
        (if_new (names_of app) app board t) (IsOwn t local) (local_own t local)
        (λ n own. new_is task local t n hardware own))

    words_new : (words : List (List ℕ))
        → IfOk (two_names (input_of (names_of app) app board) words) (IsNew words)
    words_new [] = tt
    words_new (a ∷ []) = tt
    words_new (a ∷ b ∷ []) =
        if_ok_chosen (is_identifier a && is_identifier b) (input_of (names_of app) app board a b)
        (Err cause.BadLine) (IsNew (a ∷ b ∷ [])) (λ _. input_new a b) tt
    words_new (a ∷ b ∷ c ∷ words) = tt

    -- an input that can come behind these, and the board with it
    abbrev WithNew : List (List ℕ) → Board → Type 0
    WithNew words u = (input : Input) × (u ≡ with_input board input) × IsNew words input

    says_new : (words : List (List ℕ)) → IfOk (says_input (names_of app) app board words) (WithNew words)
    says_new words =
        if_ok_make (WithNew words) (two_names (input_of (names_of app) app board) words) (with_input board)
        (IsNew words) (words_new words) (λ input new. (input, refl, new))

    abbrev Adds : List ℕ → Board → Type 0
    Adds line u = told.Adds app board line u

    abbrev ComesBehind : List ℕ → Board → Type 0
    ComesBehind line u = told.ComesBehind app board line u

    adds : (line : List ℕ) (words : List (List ℕ)) (u : Board) → spaced_words line ≡ codes "input" ∷ words
        → is_loose line ≡ false
        → (is_blank line || is_comment line) ≡ false → WithNew words u → Adds line u
    adds line words u parts tight said new = (
      new.0,
      new.1,
      new.2.may,
      new.2.fresh,
      record {
        task = new.2.task;
        task_is = new.2.task_is;
        local = new.2.local;
        local_is = new.2.local_is;
        words = parts ∙ ap (λ ws. codes "input" ∷ ws) new.2.words_are;
        tight = tight;
        said = said;
      },
    )

    words_add : (line : List ℕ) (words : List (List ℕ)) → spaced_words line ≡ words → is_loose line ≡ false
        → (is_blank line || is_comment line) ≡ false
        → IfOk (with_words (names_of app) app board words) (Adds line)
    words_add line [] parts tight said = tt
    words_add line (first ∷ words) parts tight said =
        let input = codes "input" in
        if_ok_chosen (bytes_eq first input) (says_input (names_of app) app board words) (Err cause.BadLine) (Adds line)
        (λ is. if_ok_from (says_input (names_of app) app board words) (Adds line)
        (λ u given. adds line words u (parts ∙ ap (λ w. w ∷ words) ((bytes_eq-Decides first input).0 is)) tight said
        (IfOk-at_ok (WithNew words) given (says_new words))))
        tt

    pub line_follows : (line : List ℕ) → IfOk (with_line (names_of app) app board line) (ComesBehind line)
    line_follows line =
        cond_both (is_blank line || is_comment line) (Ok board)
        (if is_loose line then Err cause.BadLine else with_words (names_of app) app board (spaced_words line))
        (λ r. IfOk r (ComesBehind line)) (λ skipped. inl (skipped, refl))
        (λ said. cond_both (is_loose line) (Err cause.BadLine)
        (with_words (names_of app) app board (spaced_words line)) (λ r. IfOk r (ComesBehind line)) (λ _. tt)
        (λ tight. if_ok_from (with_words (names_of app) app board (spaced_words line)) (ComesBehind line)
        (λ u given. inr (IfOk-at_ok (Adds line) given (words_add line (spaced_words line) refl tight said)))))
