-- The texts of `init`, of `idle` and of tasks are read as them.
use Rattle.std.proofs.Common.{◌≡◌, ℕ, ◌+◌, ◌<◌, ◌≤◌, false, List, [], ◌∷◌, ◌++◌, map, length, Option, Some, None, refl}
use Rattle.std.proofs.Common.{sym, ap, ◌∙◌, arith, append_assoc, append-nil, length-append, inl, inr}
use Rattle.std.specs.Prelude.{◌⊎◌, codes, flat_map, option_map}
use Rattle.std.specs.List.{AllByRecursion}
use Rattle.std.proofs.lemmas.List.{map-append, length-map}
use Rattle.rt_ids.specs.declared.limit.Limit.TheVariants as limit
use Rattle.rt_ids.specs.declared.limits.TheConstants.{TASKS, ARGUMENTS}
use Rattle.rt_lex.specs.declared.token.Kind.TheVariants as kind
use Rattle.rt_ast.specs.declared.ident.Ident.{Ident}
use Rattle.rt_ast.specs.Tree.{Body, Task, Block}
use Rattle.rt_ast.specs.Bare.{bare_name, bare_listed, bare_block, bare_body, bare_task}
use Rattle.rt_ast.specs.CanonicalExpression.{newline, further, name_text}
use Rattle.rt_ast.specs.CanonicalBlock.{block_text}
use Rattle.rt_ast.specs.CanonicalOptions.{body_options, task_options, options_text}
use Rattle.rt_ast.specs.Canonical.{body_text, arguments_text, task_text}
use Rattle.rt_ast.specs.Printable.{IfThere, ArePrintableNames, IsPrintableBlock, IsPrintableBody, IsPrintableInit}
use Rattle.rt_ast.specs.Printable.{IsPrintableTask}
use Rattle.rt_grammar.specs.Language.{gives, repeat}
use Rattle.rt_grammar.specs.Tokens.{free, name, limited_name, sign, word, limited_word, adds}
use Rattle.rt_grammar.specs.Statement.{block}
use Rattle.rt_grammar.specs.Limits.{at_most}
use Rattle.rt_grammar.specs.Options.{Options, Owner, OfInit, OfIdle, OfTask, is_init, options}
use Rattle.rt_grammar.specs.Bodies.{or_empty, body_with, thread_body, parameter, parameters, task}
use Rattle.rt_print.proofs.Reading.{Reads, Any, read_gives, read_then, read_left, read_right, read_none, read_step}
use Rattle.rt_print.proofs.Reading.{read_space, read_trail, read_same}
use Rattle.rt_print.proofs.Lexemes.{IsFront, Stops, IsNamed, read_name, read_word, read_sign}
use Rattle.rt_print.proofs.Statements.{IsBlock, body_block_reads}
use Rattle.rt_print.proofs.Declared.{AreNames, at_most_free, same_name}
use Rattle.rt_print.proofs.Resources.{AreAll, IsMaybe}
use Rattle.rt_print.proofs.Choices.{listed_once, AreRead, TaskOptions, options_reads, shared_left, binds_left}
use Rattle.rt_print.proofs.Choices.{none_read}

or_empty_is : {A : Type 0} (view : A → A) (x : Option (List A)) (xs : List A) → option_map (map view) x
    ≡ listed_once view xs → map view (or_empty x) ≡ map view xs
or_empty_is view None [] e = refl
or_empty_is view None (y ∷ ys) e = absurd cc
or_empty_is view (Some x) [] e = absurd cc
or_empty_is view (Some x) (y ∷ ys) e = cc

same_body : (b : Option Ident) (p : _) (c : Option ℕ) (body : Body) (o : Options) (blk : Block) (at : ℕ)
    → AreRead b p c body.shared body.local o → bare_block blk ≡ bare_block body.block
    → bare_body (body_with o blk at) ≡ bare_body body
same_body b p c body o blk at a e = rw (
  or_empty_is bare_listed o.shared body.shared a.shared,
  or_empty_is bare_name o.local body.local a.local,
  e,
) refl

-- a block, and the line feed after it
whole_block_reads : (b : Block) (Y : List ℕ) → IsPrintableBlock b → Reads (block 16 16 1 0) (IsBlock b 0)
    (block_text [] b ++ 10 ∷ Y) Y
whole_block_reads b Y h = read_trail (block 16 16 1 0) (IsBlock b 0) (block_text [] b ++ 10 ∷ Y) Y
    (body_block_reads b (10 ∷ Y) h.statements h.nesting h.few)

body_append : (w : List ℕ) (b : Body) (Y : List ℕ) → body_text w (Some b) ++ Y ≡ w
    ++ (options_text (body_options b) ++ 32 ∷ (block_text [] b.block ++ 10 ∷ Y))
body_append w b Y = simp append_assoc refl

-- a word in front of options
abbrev IsBefore : List ℕ → Type 0
IsBefore w = (os : List (List ℕ)) (E : List ℕ) → IsFront w kind.Word (options_text os ++ 32 ∷ E)

body_reads : (owner : Owner) (w : List ℕ) (b : Body) (Y : List ℕ) → IsBefore w → (is_init owner ≡ false)
    ⊎ (b.shared ≡ []) → IsPrintableBody b
    → Reads (thread_body 16 owner w) (IsMaybe bare_body (Some b)) (body_text w (Some b) ++ Y) Y
body_reads owner w b Y before own h =
    let P = IsMaybe bare_body (Some b) in
    let B = block_text [] b.block ++ 10 ∷ Y in
    let O = options_text (body_options b) ++ 32 ∷ B in
    let A = AreRead None None None b.shared b.local in
    read_same (thread_body 16 owner w) P (w ++ O) (body_text w (Some b) ++ Y) Y (body_append w b Y)
    (read_right (gives None) _ P (w ++ O) Y
    (read_then (word w) _ Any P (w ++ O) O Y (read_word w free O refl (before (body_options b) B)) (λ at u.
    read_then (options owner) _ A P O (32 ∷ B) Y (options_reads owner A (body_options b) (32 ∷ B)
    (shared_left owner None None None b.shared b.local _ (32 ∷ B) own h.shared h.local none_read)) (λ o a.
    read_space _ P B Y
    (read_then (block 16 16 1 0) _ (IsBlock b.block 0) P B Y Y (whole_block_reads b.block Y h.block) (λ c e.
    read_gives P (Some (body_with o c.0 at)) Y (ap Some (same_body None None None b o c.0 at a e.same))))))))

init_before : IsBefore (codes "init")
init_before [] E = refl
init_before (o ∷ os) E = refl

idle_before : IsBefore (codes "idle")
idle_before [] E = refl
idle_before (o ∷ os) E = refl

pub init_reads : (b : Option Body) (Y : List ℕ) → IfThere IsPrintableInit b
    → Reads (thread_body 16 OfInit (codes "init")) (IsMaybe bare_body b) (body_text (codes "init") b ++ Y) Y
init_reads None Y h = read_left (gives None) _ (IsMaybe bare_body None) Y Y
    (read_gives (IsMaybe bare_body None) None Y refl)
init_reads (Some b) Y h = body_reads OfInit (codes "init") b Y init_before (inr h.1) h.0

pub idle_reads : (b : Option Body) (Y : List ℕ) → IfThere IsPrintableBody b
    → Reads (thread_body 16 OfIdle (codes "idle")) (IsMaybe bare_body b) (body_text (codes "idle") b ++ Y) Y
idle_reads None Y h = read_left (gives None) _ (IsMaybe bare_body None) Y Y
    (read_gives (IsMaybe bare_body None) None Y refl)
idle_reads (Some b) Y h = body_reads OfIdle (codes "idle") b Y idle_before (inl refl) h

stops_further : (xs : List Ident) (Y : List ℕ) → Stops Y → Stops (further name_text xs ++ Y)
stops_further [] Y h = h
stops_further (x ∷ xs) Y h = refl

arguments_from : (xs done goal : List Ident) (Y : List ℕ) → ArePrintableNames xs → length (map bare_name done)
    + length xs ≤ 4 → map bare_name done ++ map bare_name xs ≡ goal → Stops Y
    → Reads (repeat parameter done) (λ all. map bare_name all ≡ goal) (further name_text xs ++ Y) Y
arguments_from [] done goal Y h few e stop = read_none parameter _ done Y (sym (append-nil (map bare_name done)) ∙ e)
arguments_from (x ∷ xs) done goal Y h few e stop =
    let P : List Ident → Type 0 = λ all. map bare_name all ≡ map bare_name done ++ bare_name x ∷ [] in
    let Q : List Ident → Type 0 = λ all. map bare_name all ≡ goal in
    let F = further name_text xs ++ Y in
    let N = x.name ++ F in
    let fits : length done < 4 = omega (arith, few, length-map done bare_name) in
    read_same (repeat parameter done) Q (44 ∷ 32 ∷ N) (further name_text (x ∷ xs) ++ Y) Y
    (ap (λ (t : List ℕ). 44 ∷ 32 ∷ t) (append_assoc x.name (further name_text xs) Y))
    (read_step parameter P Q done (44 ∷ 32 ∷ N) F Y
    (read_then (sign (codes ",")) _ Any P (44 ∷ 32 ∷ N) (32 ∷ N) F (read_sign (codes ",") free (32 ∷ N) refl refl)
    (λ c u.
    read_space _ P N F
    (read_then (limited_name (at_most ARGUMENTS limit.Arguments (length done))) _ (IsNamed x) P N F F
    (read_name x (at_most ARGUMENTS limit.Arguments (length done)) F h.0
    (at_most_free ARGUMENTS limit.Arguments (length done) fits) (stops_further xs Y stop)) (λ y n.
    read_gives P (done ++ y ∷ []) F (map-append bare_name done (y ∷ [])
    ∙ ap (λ (z : Ident). map bare_name done ++ z ∷ []) (same_name x y n))))))
    (λ t p. arguments_from xs t goal Y h.1 (omega (
      arith,
      few,
      ap length p,
      length-append (map bare_name done) (bare_name x ∷ []),
    ))
    (ap (λ (z : List Ident). z ++ map bare_name xs) p ∙ append_assoc (map bare_name done) (bare_name x ∷ [])
    (map bare_name xs) ∙ e) stop))

arguments_read : (xs : List Ident) (Y : List ℕ) → ArePrintableNames xs → length xs ≤ 4 → Stops Y
    → Reads parameters (AreNames xs) (arguments_text xs ++ Y) Y
arguments_read [] Y h few stop = read_left (gives []) _ (AreNames []) Y Y (read_gives (AreNames []) [] Y refl)
arguments_read (x ∷ xs) Y h few stop =
    let P = AreNames (x ∷ xs) in
    let F = further name_text xs ++ Y in
    let N = x.name ++ F in
    read_same parameters P (codes " with " ++ N) (arguments_text (x ∷ xs) ++ Y) Y
    (ap (λ (t : List ℕ). codes " with " ++ t) (append_assoc x.name (further name_text xs) Y))
    (read_right (gives []) _ P (codes " with " ++ N) Y
    (read_space _ P (codes "with " ++ N) Y
    (read_then (word (codes "with")) _ Any P (codes "with " ++ N) (32 ∷ N) Y
    (read_word (codes "with") free (32 ∷ N) refl refl) (λ c u.
    read_space _ P N Y
    (read_then name _ (IsNamed x) P N F Y (read_name x free F h.0 refl (stops_further xs Y stop)) (λ y n.
    arguments_from xs (y ∷ []) (map bare_name (x ∷ xs)) Y h.1 (omega (arith, few))
    (ap (λ (z : Ident). z ∷ map bare_name xs) (same_name x y n)) stop))))))

stops_arguments : (xs : List Ident) (E : List ℕ) → Stops (arguments_text xs ++ 32 ∷ E)
stops_arguments [] E = refl
stops_arguments (x ∷ xs) E = refl

stops_options : (os : List (List ℕ)) (Y : List ℕ) → Stops Y → Stops (options_text os ++ Y)
stops_options [] Y h = h
stops_options (o ∷ os) Y h = refl

task_parts : (n o g b Y : List ℕ) → (codes "task " ++ n ++ o ++ g ++ codes " " ++ b ++ newline) ++ Y ≡ codes "task "
    ++ (n ++ (o ++ (g ++ 32 ∷ (b ++ 10 ∷ Y))))
task_parts n o g b Y = simp append_assoc refl

task_append : (t : Task) (Y : List ℕ) → task_text t ++ Y ≡ codes "task "
    ++ (t.name.name ++ (options_text (task_options t) ++ (arguments_text t.args ++ 32
    ∷ (block_text [] t.body.block ++ 10 ∷ Y))))
task_append t Y = task_parts t.name.name (options_text (task_options t)) (arguments_text t.args)
    (block_text [] t.body.block) Y

task_options_of : (t : Task) → IsPrintableTask t → TaskOptions t.binds t.priority t.capacity t.body.shared t.body.local
task_options_of t h = record {
  binds = h.binds;
  priority = h.priority;
  capacity = h.capacity;
  shared = h.body.shared;
  local = h.body.local;
}

task_reads : (t : Task) (before : ℕ) (Y : List ℕ) → IsPrintableTask t → before < TASKS
    → Reads (task 16 before) (λ x. bare_task x ≡ bare_task t) (task_text t ++ Y) Y
task_reads t before Y h few =
    let P : Task → Type 0 = λ x. bare_task x ≡ bare_task t in
    let B = block_text [] t.body.block ++ 10 ∷ Y in
    let G = arguments_text t.args ++ 32 ∷ B in
    let O = options_text (task_options t) ++ G in
    let N = t.name.name ++ O in
    let A = AreRead t.binds t.priority t.capacity t.body.shared t.body.local in
    read_same (task 16 before) P (codes "task " ++ N) (task_text t ++ Y) Y (task_append t Y)
    (read_then (limited_word (codes "task") (at_most TASKS limit.Tasks before)) _ Any P (codes "task " ++ N) (32 ∷ N) Y
    (read_word (codes "task") (at_most TASKS limit.Tasks before) (32 ∷ N) (at_most_free TASKS limit.Tasks before few)
    refl) (λ c u.
    read_space _ P N Y
    (read_then name _ (IsNamed t.name) P N O Y (read_name t.name free O h.name refl
    (stops_options (task_options t) G (stops_arguments t.args B))) (λ x n.
    read_then (options OfTask) _ A P O G Y
    (options_reads OfTask A (task_options t) G (binds_left t.binds t.priority t.capacity t.body.shared t.body.local _ G
    (task_options_of t h) none_read)) (λ o a.
    read_then parameters _ (AreNames t.args) P G (32 ∷ B) Y (arguments_read t.args (32 ∷ B) h.args h.few_args refl)
    (λ xs e.
    read_space _ P B Y
    (read_then (block 16 16 1 0) _ (IsBlock t.body.block 0) P B Y Y (whole_block_reads t.body.block Y h.body.block)
    (λ b k.
    read_gives P (record {
      name = x;
      binds = o.binds;
      priority = o.priority;
      capacity = o.capacity;
      args = xs;
      body =
          body_with o b.0 x.at;
    }) Y
    (rw (n, a.binds, a.priority, a.capacity, e, same_body t.binds t.priority t.capacity t.body o b.0 x.at a k.same)
    refl)))))))))

tasks_from : (ts done goal : List Task) (Y : List ℕ) → AllByRecursion IsPrintableTask ts → length (map bare_task done)
    + length ts ≤ 64 → map bare_task done ++ map bare_task ts ≡ goal
    → Reads (repeat (adds (task 16)) done) (λ all. map bare_task all ≡ goal) (flat_map task_text ts ++ Y) Y
tasks_from [] done goal Y h few e = read_none (adds (task 16)) _ done Y (sym (append-nil (map bare_task done)) ∙ e)
tasks_from (t ∷ ts) done goal Y h few e =
    let P : List Task → Type 0 = λ all. map bare_task all ≡ map bare_task done ++ bare_task t ∷ [] in
    let Q : List Task → Type 0 = λ all. map bare_task all ≡ goal in
    let F = flat_map task_text ts ++ Y in
    read_same (repeat (adds (task 16)) done) Q (task_text t ++ F) (flat_map task_text (t ∷ ts) ++ Y) Y
    (append_assoc (task_text t) (flat_map task_text ts) Y)
    (read_step (adds (task 16)) P Q done (task_text t ++ F) F Y
    (read_then (task 16 (length done)) _ (λ x. bare_task x ≡ bare_task t) P (task_text t ++ F) F F
    (task_reads t (length done) F h.0 (omega (arith, few, length-map done bare_task))) (λ x p.
    read_gives P (done ++ x ∷ []) F (map-append bare_task done (x ∷ [])
    ∙ ap (λ (z : Task). map bare_task done ++ z ∷ []) p)))
    (λ all p. tasks_from ts all goal Y h.1 (omega (
      arith,
      few,
      ap length p,
      length-append (map bare_task done) (bare_task t ∷ []),
    ))
    (ap (λ (z : List Task). z ++ map bare_task ts) p ∙ append_assoc (map bare_task done) (bare_task t ∷ [])
    (map bare_task ts) ∙ e)))

pub tasks_read : (ts : List Task) (Y : List ℕ) → AllByRecursion IsPrintableTask ts → length ts ≤ TASKS
    → Reads (repeat (adds (task 16)) []) (AreAll bare_task ts) (flat_map task_text ts ++ Y) Y
tasks_read ts Y h few = tasks_from ts [] (map bare_task ts) Y h (omega (arith, few)) refl
