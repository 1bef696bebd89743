-- The list of the frames of bodies, one after the other.
use Rattle.std.proofs.Common.{◌≡◌, sym, ap, ◌∙◌, ℕ, ◌+◌, ◌<◌, List, [], ◌∷◌, ◌++◌, length, map, take, get_or, Option}
use Rattle.std.specs.List.{AllByRecursion}
use Rattle.std.proofs.lemmas.List.{take_more, map-append}
use Rattle.rt_lemmas.proofs.Lists.{mapped_read}
use Rattle.rt_lemmas.proofs.Membership.{all_at}
use Rattle.rt_app.specs.declared.app.Task as code
use Rattle.rt_app.specs.Tree.{Body, Task}
use Rattle.rt_app.specs.Frame.{frame_words}
use Rattle.rt_app.specs.Stack.{thread_frame}
use Rattle.rt_app.specs.Limits.{KeepsThreadLimits, KeepsTaskLimits}
use Rattle.rt_app.specs.View.{body_of, task_of}
use Rattle.rt_frames.specs.Inside.Saturated.{saturated_number}
use Rattle.rt_frames.proofs.Within.{whole, thread_few, task_few}

pub frames_begin : (o p : Option Body) (x y : ℕ) (none one two : List ℕ) → KeepsThreadLimits o → KeepsThreadLimits p
    → none ≡ [] → x ≡ saturated_number (thread_frame o) → one ≡ none ++ x ∷ []
    → y ≡ saturated_number (thread_frame p) → two ≡ one ++ y ∷ [] → two ≡ thread_frame o ∷ thread_frame p ∷ []
frames_begin o p x y none one two few fewer empty first then second last =
    last ∙ ap (λ xs. xs ++ y ∷ []) (then ∙ ap (λ xs. xs ++ x ∷ []) empty)
    ∙ ap (λ v. v ∷ y ∷ []) (first ∙ whole (thread_frame o) (thread_few o few))
    ∙ ap (λ v. thread_frame o ∷ v ∷ []) (second ∙ whole (thread_frame p) (thread_few p fewer))

pub frames_more : (a b : ℕ) (tasks : List code.Task) (i : ℕ) (t : code.Task) (x : ℕ) (before after : List ℕ)
    → AllByRecursion KeepsTaskLimits (map task_of tasks) → i < length tasks → t ≡ get_or tasks i t
    → before ≡ a ∷ b ∷ map (λ t. frame_words t.args t.body) (map task_of (take i tasks)) → x
    ≡ saturated_number (frame_words t.args (body_of t.body)) → after ≡ before ++ x ∷ []
    → after ≡ a ∷ b ∷ map (λ t. frame_words t.args t.body) (map task_of (take (i + 1) tasks))
frames_more a b tasks i t x before after limits within is begun size last =
    let few : KeepsTaskLimits (task_of t) = all_at KeepsTaskLimits (map task_of tasks) i (task_of t) limits
    (mapped_read task_of tasks i t within is) in
    let words : List code.Task → List ℕ = λ ts. map (λ (t : Task). frame_words t.args t.body) (map task_of ts) in
    last ∙ ap (λ xs. xs ++ x ∷ []) begun ∙ ap (λ v. a ∷ b ∷ (words (take i tasks) ++ v ∷ []))
    (size ∙ whole (frame_words t.args (body_of t.body)) (task_few (task_of t) few))
    ∙ ap (λ xs. a ∷ b ∷ xs) (sym (ap words (take_more tasks i t within ∙ ap (λ y. take i tasks ++ y ∷ []) (sym is))
    ∙ ap (λ (ts : List Task). map (λ (t : Task). frame_words t.args t.body) ts)
    (map-append task_of (take i tasks) (t ∷ []))
    ∙ map-append (λ (t : Task). frame_words t.args t.body) (map task_of (take i tasks)) (task_of t ∷ [])))
