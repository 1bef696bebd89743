-- What is read of a source: its bytes, a tree, an application, and texts over an application's names.
use Rattle.std.proofs.Common.{◌≡◌, ℕ, ◌+◌, ◌≤◌, List, ◌++◌, length, codes, Option, Result, Ok, Err, IfOk, IfErr, Vec}
use Rattle.std.proofs.Common.{vec_len, Global, inl, inr, refl, sym, ap, subst, arith}
use Rattle.rt_ids.specs.declared.status.Status.TheVariants as status
use Rattle.rt_ast.specs.Tree as tree
use Rattle.rt_grammar.specs.Text.{IsText}
use Rattle.rt_build.specs.Accepted.{KeepsRules, IsApplication}
use Rattle.rt_app.specs.Tree.{App}
use Rattle.rt_app.specs.View.{app_of}
use Rattle.rt_app.specs.declared.app.App as code
use Rattle.rt_outside.specs.Bytes.{Past, HasGiven, IsAtEnd}
use Rattle.rt_top.specs.Kinds as kind
use Rattle.rt_top.specs.Rtic.{rtic_program}
use Rattle.rt_top.specs.Reads.{given_by, IsReadWithin}
use Rattle.rt_top.specs.Refusal.{RefusesText, RefusesApplication}
use Rattle.rt_top.specs.Inside.Decides.{Tells, IsBrokenBy}
use Rattle.rt_top.specs.Inside.Replies.{IsOfSecond}
use Rattle.rt_top.specs.Inside.Using.{Use, Whole, Left, Reads, IsNotRead, refusal, stop}
use Rattle.rt_top.specs.declared.reply.Reply.{Reply}
use Rattle.rt_top.proofs.Conducting.{refusal_reads}

-- a source that was read whole
pub whole_within : {S : Type 0} (limit : ℕ) (past : S → Past) (left : S → Option (List ℕ)) (old new : S)
    → HasGiven past left old new → IsAtEnd past left new → length (given_by past old new) ≤ limit
    → IsReadWithin limit past left old new
whole_within limit past left old new gave ended short = record { gave = gave; how_much = inl (ended, short) }

pub text_within : {S : Type 0} (limit : ℕ) (past : S → Past) (left : S → Option (List ℕ)) (old new : S)
    (text : Vec ℕ Global) → HasGiven past left old new → text.items ≡ given_by past old new → IsAtEnd past left new
    → vec_len text ≤ limit → IsReadWithin limit past left old new
text_within limit past left old new text gave same ended short =
    let long = ap (λ (bytes : List ℕ). length bytes) same in
    whole_within limit past left old new gave ended (omega (arith, long, short, text.ok.0))

-- and one that has more bytes than the limit
pub long_within : {S : Type 0} (limit : ℕ) (past : S → Past) (left : S → Option (List ℕ)) (old new : S)
    → HasGiven past left old new → length (given_by past old new) ≡ limit + 1 → IsReadWithin limit past left old new
long_within limit past left old new gave long = record { gave = gave; how_much = inr long }

-- what refuses a text refuses its application
pub text_refuses : (text line : List ℕ) → RefusesText text line → RefusesApplication text line
text_refuses text line (fault, met, says) = (fault, inl met, says)

pub tree_is_refused : (gave : List ℕ) (Does : ℕ → Use → Type 0) (r : Reply)
    → IsNotRead rtic_program kind.Tree gave gave Does r → IsNotRead rtic_program kind.Application gave gave Does r
tree_is_refused gave Does r (refusal ended line whole is) =
    refusal ended line whole (is.0, text_refuses gave line.items is.1)
tree_is_refused gave Does r (stop ended stops) = stop ended stops

-- with the tree of the text, which was read as its own
module _ (text : List ℕ) (a : tree.App) (own : List ℕ) (spelled : IsText own a) (same : own ≡ text) where
  pub broken_refuses : (line : List ℕ) → IsBrokenBy own a line → RefusesApplication text line
  broken_refuses line b =
      subst (λ t. RefusesApplication t line) same (
        b.fault,
        inr (record { tree = a; text = spelled; broken = b.broken }),
        b.says,
      )

  pub accepted_is : (app : App) → KeepsRules a app → IsApplication text app
  accepted_is app kept = record { tree = a; text = subst (λ t. IsText t a) same spelled; kept = kept }

  -- the application that was judged, or its refusal
  pub accepted_result : (Does : ℕ → Use → Type 0) → Does (kind.most_bytes kind.Application) Whole
      → Does (kind.most_bytes kind.Application) Left → (r : Result code.App Reply)
      → IfOk r (λ app. KeepsRules a (app_of app)) → IfErr r (Tells status.App (IsBrokenBy own a))
      → Reads rtic_program kind.Application text text Does (λ app. IsApplication text (app_of app)) r
  accepted_result Does whole left (Ok app) kept broken = (whole, accepted_is (app_of app) kept)
  accepted_result Does whole left (Err q) kept broken =
      refusal_reads rtic_program kind.Application text text Does whole left status.App (IsBrokenBy own a)
      (λ line b. (refl, broken_refuses line b)) q broken

-- the refusal of a second application
pub other_is_refused : (first gave : List ℕ) (Does : ℕ → Use → Type 0)
    → (Does (kind.most_bytes kind.Application) Whole → Does (kind.most_bytes kind.Application) Left) → (r q : Reply)
    → IsNotRead rtic_program kind.Application gave gave Does r → IsOfSecond r q
    → IsNotRead rtic_program kind.OtherApplication first gave Does q
other_is_refused first gave Does left r q (refusal ended line whole is) told =
    refusal_reads rtic_program kind.OtherApplication first gave Does whole (left whole) ended
    (λ bytes. bytes ≡ codes "second " ++ line.items) (λ bytes says. (is.0, (line.items, is.1, says))) q told
other_is_refused first gave Does left r q (stop ended stops) is =
    subst (IsNotRead rtic_program kind.OtherApplication first gave Does) (sym is) (stop ended stops)
