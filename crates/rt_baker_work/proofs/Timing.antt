-- Armed messages: the least of them, and what the timer handler does by it.
use Rattle.std.proofs.Common.{◌≡◌, ℕ, ◌+◌, ◌<◌, ◌≤◌, Bool, true, false, List, [], ◌∷◌, ◌++◌, get_or, length, take}
use Rattle.std.proofs.Common.{Option, Some, None, nat_le, refl, ap, ◌∙◌, sym, arith, position, if◌then◌else◌}
use Rattle.std.specs.List.{slice_get}
use Rattle.std.specs.Option.{option_and_then}
use Rattle.std.proofs.lemmas.Bool.Decides.{nat_tests}
use Rattle.std.proofs.lemmas.List.{take_more}
use Rattle.std.proofs.lemmas.Option.{slice_get_read}
use Rattle.rt_ids.proofs.Lists.{find_by_position}
use Rattle.rt_ids.specs.Lists.{then_from}
use Rattle.rt_actions.specs.Location.{Guarded}
use Rattle.rt_actions.specs.Content.{Message, Armed, delays, lesser, least_instant, has_instant, least}
use Rattle.rt_actions.specs.Action.{Leaves, Fires, SetsAlarm}
use Rattle.rt_ids.specs.declared.ids.Section.TheVariants as section
use Rattle.rt_app.specs.Tree.{App}
use Rattle.rt_app.specs.Bodies.{task_priority}
use Rattle.rt_app.specs.Sending.{act_all, ready_actions}
use Rattle.rt_app.specs.Doings.{due}
use Rattle.rt_baker_work.specs.declared.action.Action.TheVariants as action
use Rattle.rt_baker_work.specs.declared.todo.Todo.TheVariants as todo
use Rattle.rt_baker_work.specs.Store.{Store, contents}
use Rattle.rt_baker_work.specs.Todo.{fire_message, meaning, behind}
use Rattle.rt_baker_work.specs.Work.{Work, Becomes}
use Rattle.rt_baker_work.specs.Inside.Pushes.{Pushes}
use Rattle.rt_baker_work.proofs.Walks.{with_todos, pushed}
use Rattle.rt_baker_work.proofs.Pushing.{all_pushed, then_pushed, pushes_become}

lesser_turned : (a x : ℕ) (o : Option ℕ) → lesser x (Some (lesser a o)) ≡ lesser a (Some (lesser x o))
lesser_turned a x None = omega arith
lesser_turned a x (Some j) = omega arith

pub least_end : (xs : List Armed) (a : Armed) → least_instant (xs ++ a ∷ []) ≡ Some (lesser a.instant
    (least_instant xs))
least_end [] a = refl
least_end (x ∷ xs) a =
    ap (λ (o : Option ℕ). Some (lesser x.instant o)) (least_end xs a)
    ∙ ap (λ (n : ℕ). Some n) (lesser_turned a.instant x.instant (least_instant xs))

pub least_more : (all : List Armed) (i : ℕ) (a : Armed) (before : Option ℕ) (n : ℕ) → i < length all
    → a ≡ get_or all i a → before ≡ least_instant (take i all)
    → n ≡ lesser a.instant before → Some n ≡ least_instant (take (i + 1) all)
least_more all i a before n within is e f =
    ap (λ (k : ℕ). Some k) f ∙ ap (λ (o : Option ℕ). Some (lesser a.instant o)) e
    ∙ ap (λ (b : Armed). Some (lesser b.instant (least_instant (take i all)))) is
    ∙ sym (ap least_instant (take_more all i a within) ∙ least_end (take i all) (get_or all i a))

none_armed : (xs : List Armed) → least_instant xs ≡ None → xs ≡ []
none_armed [] h = refl
none_armed (a ∷ xs) h = absurd cc

pub none_least : (xs : List Armed) (o : Option ℕ) → o ≡ least_instant xs → o ≡ None
    → None ≡ position (has_instant (least_instant xs)) xs
none_least xs o is none = sym (ap (λ (ys : List Armed). position (has_instant (least_instant ys)) ys) (none_armed
    xs (sym is ∙ none)))

-- the least armed message by its index
least_at : (xs : List Armed) (o : Option ℕ) → position (has_instant (least_instant xs)) xs ≡ o
    → least xs ≡ option_and_then (slice_get xs) o
least_at xs o is = find_by_position (has_instant (least_instant xs)) xs ∙ ap (option_and_then (slice_get xs)) is

abbrev in_time : ℕ → Armed → Option Armed
in_time time a = if nat_le a.instant time then Some a else None

pub due_none : (app : App) (time : ℕ) (xs : List Armed) (o : Option ℕ)
    → o ≡ position (has_instant (least_instant xs)) xs → o ≡ None → None ≡ due app time xs
due_none app time xs o is none = sym (ap (λ (m : Option Armed). then_from m (in_time time)) (least_at xs None (sym
    is ∙ none)))

pub due_now : (app : App) (time : ℕ) (xs : List Armed) (o : Option ℕ) (i : ℕ) (a : Armed)
    → o ≡ position (has_instant (least_instant xs)) xs → o ≡ Some i → i < length xs
    → a ≡ get_or xs i a → a.instant ≤ time → Some a ≡ due app time xs
due_now app time xs o i a is at within reads early =
    let test : nat_le a.instant time ≡ true = grind (arith, nat_tests) in
    sym
    (ap (λ (m : Option Armed). then_from m (in_time time)) (least_at xs (Some i) (sym is ∙ at)
    ∙ slice_get_read xs (length xs) i a refl within reads)
    ∙ ap (λ (b : Bool). if b then Some a else None) test)

pub due_later : (app : App) (time : ℕ) (xs : List Armed) (o : Option ℕ) (i : ℕ) (a : Armed)
    → o ≡ position (has_instant (least_instant xs)) xs → o ≡ Some i → i < length xs
    → a ≡ get_or xs i a → time < a.instant → None ≡ due app time xs
due_later app time xs o i a is at within reads late =
    let test : nat_le a.instant time ≡ false = grind (arith, nat_tests) in
    sym
    (ap (λ (m : Option Armed). then_from m (in_time time)) (least_at xs (Some i) (sym is ∙ at)
    ∙ slice_get_read xs (length xs) i a refl within reads)
    ∙ ap (λ (b : Bool). if b then Some a else None) test)

-- what the timer handler does where none is due, and where one is
pub none_due : (app : App) (time : ℕ) (xs : List Armed) (old new : Work) (s : Store)
    → xs ≡ delays (contents s (Guarded section.Timer)) → None ≡ due app time xs
    → new ≡ with_todos old (todo.Act (action.Leave section.Timer) ∷ todo.Act action.SetAlarm ∷ [])
    → Becomes app (meaning app (todo.Due time)) old s new s
unfolding behind
none_due app time xs old new s read none is =
    pushed app (meaning app (todo.Due time)) old new s _ is
    (λ later.
    ap (λ (ys : List Armed). fire_message app (due app time ys) (later old.vars) (contents s)) (sym read)
    ∙ ap (λ (m : Option Armed). fire_message app m (later old.vars) (contents s)) (sym none))

pub one_due : (app : App) (time : ℕ) (xs : List Armed) (a : Armed) (m n : Message) (old mid new : Work) (s : Store)
    → xs ≡ delays (contents s (Guarded section.Timer))
    → Some a ≡ due app time xs → m ≡ a.message → n ≡ a.message
    → Pushes app (λ later vars. act_all (ready_actions app (task_priority app n.task) n) (later vars)) old mid
    → new ≡ with_todos mid (todo.Act (action.Leave section.Timer) ∷ todo.Act action.SetAlarm ∷ todo.Act
    (action.Fire m) ∷ [])
    → Becomes app (meaning app (todo.Due time)) old s new s
unfolding behind
one_due app time xs a m n old mid new s read one first second readies is =
    let p : Pushes app _ mid new = all_pushed app (λ later vars vs. act_all (Fires m ∷ SetsAlarm ∷ Leaves
    section.Timer ∷ []) (later vars) vs) mid new _ is (λ later vars vs. refl) in
    let q = then_pushed app _ _ old mid new readies p in
    pushes_become app _ (meaning app (todo.Due time)) old new s
    (λ later.
    ap (λ (ys : List Armed). fire_message app (due app time ys) (later old.vars) (contents s)) (sym read)
    ∙ ap (λ (o : Option Armed). fire_message app o (later old.vars) (contents s)) (sym one)
    ∙ ap (λ (k : Message). act_all (Fires k ∷ SetsAlarm ∷ Leaves section.Timer ∷ []) (act_all (ready_actions app
    (task_priority app a.message.task) a.message) (later old.vars)) (contents s)) (sym first)
    ∙ ap (λ (k : Message). act_all (Fires m ∷ SetsAlarm ∷ Leaves section.Timer ∷ []) (act_all (ready_actions app
    (task_priority app k.task) k) (later old.vars)) (contents s)) (sym second)) q
