-- The reader of texts is exact for the grammar, with any number of parentheses and blocks inside each other.
use Rattle.std.proofs.Common.{◌≡◌, ℕ, List, [], ◌∷◌, ◌++◌, Option, Result, Ok, Err, sym, ap, ◌∙◌, subst, inl, inr}
use Rattle.std.proofs.Common.{append_assoc, arith}
use Rattle.std.specs.Prelude.{◌⊎◌}
use Rattle.std.specs.List.{AllByRecursion}
use Rattle.rt_ids.specs.declared.limit.Limit.{Limit}
use Rattle.rt_ids.specs.declared.refusal.Refusal.TheVariants as refusal
use Rattle.rt_lex.specs.Token.{Token}
use Rattle.rt_ast.specs.Tree.{App}
use Rattle.rt_grammar.specs.Mark.{Mark, IsWithin}
use Rattle.rt_grammar.specs.Declaration.{application}
use Rattle.rt_grammar.specs.Text.{text}
use Rattle.rt_parse.specs.Inside.ReadingDeclaration.{text_at}
use Rattle.rt_parse.specs.declared.stop.Found.{Found}
use Rattle.rt_parse.proofs.Exact.{IsFront, IsRead, IsWrong, IsLimited, Passes, Outcome}
use Rattle.rt_parse.proofs.ShrinksApplication.{shrinks_application}
use Rattle.rt_parse.proofs.LargerDeclaration.{larger}
use Rattle.rt_parse.proofs.WholeFronts.{within_not, last_front}
use Rattle.rt_parse.proofs.Whole.{bound, bounded, outcome, of_bound, to_bound, wrong_no_limit}

front_then : (a b c : List Mark) → IsFront a b → IsFront b c → IsFront a c
front_then a b c (more, e) (rest, f) = (
  more ++ rest,
  f ∙ ap (λ (ms : List Mark). ms ++ rest) e
      ∙ append_assoc a more rest,
)

front_same : (a b c : List Mark) → b ≡ c → IsFront a b → IsFront a c
front_same a b c e (more, f) = (more, sym e ∙ f)

to_larger : (m : ℕ) (marks : List Mark) (app : App) → application (bound 0) marks app → application (bound m) marks app
to_larger m = larger (bound 0) (bound m) (omega arith)

module _ (ts : List Token) where
  read_text : (app : App) → text_at ts ≡ Ok app → IsRead text ts app
  read_text app e = record {
    marks = o.marks;
    means = (bound 0, o.means);
    fits = o.fits;
    within = o.within;
    most = λ others left r. let b = to_bound ts others left r in front_same others _ o.marks (same b.0)
        ((read b.0).most others left b.1);
    only = λ others other l fits. let p = (read l.0).only others other (bounded l.0 others other l.1) fits in
        (p.0 ∙ same l.0, p.1);
  }
    where
      read : (m : ℕ) → IsRead (application (bound m)) ts app
      read m = outcome m ts (Ok app) e

      o : IsRead (application (bound 0)) ts app
      o = read 0

      same : (m : ℕ) → (read m).marks ≡ o.marks
      same m = sym ((read m).only o.marks app (to_larger m o.marks app o.means) o.fits).0

  module _ (found : Found) (e : text_at ts ≡ Err found) where
    -- What is wrong with one bound is so with each, and no bound goes further.
    wrong_text : IsWrong (application (bound 0)) ts found → IsWrong text ts found
    wrong_text w = record {
      marks = w.marks;
      rest = w.rest;
      reached = of_bound (bound 0) ts w.marks w.rest w.reached;
      within = w.within;
      most = λ others left r. let b = to_bound ts others left r in
          front_then others (wrong b.0).marks w.marks ((wrong b.0).most others left b.1) (shorter b.0 (wrong b.0));
      none = λ others other l fits. (wrong l.0).none others other (bounded l.0 others other l.1) fits;
      is = w.is;
    }
      where
        of_outcome : (m : ℕ) → Outcome (application (bound m)) ts (Err found) → IsWrong (application (bound m)) ts found
        of_outcome m (inl v) = v
        of_outcome m (inr (what, f, l)) = absurd (wrong_no_limit w.rest what
            (sym (ap (λ (f : Found). f.refusal) w.is) ∙ f))

        wrong : (m : ℕ) → IsWrong (application (bound m)) ts found
        wrong m = of_outcome m (outcome m ts (Err found) e)

        shorter : (m : ℕ) (v : IsWrong (application (bound m)) ts found) → IsFront v.marks w.marks
        shorter m v =
            let r = (shrinks_application (bound m) (bound 0) (omega arith)).front v.marks v.reached.begins.0
            v.reached.begins.1 v.reached.begins.2 v.within in
            w.most v.marks v.rest (record { begins = r; fits = v.reached.fits })

    limited_text : (what : Limit) → found.refusal ≡ refusal.Limit what
        → IsLimited (application (bound 0)) ts found.at what → IsLimited text ts found.at what
    limited_text what is l = record {
      marks = l.marks;
      mark = l.mark;
      rest = l.rest;
      reached = of_bound (bound 0) ts (l.marks ++ l.mark ∷ []) l.rest l.reached;
      within = l.within;
      passes = l.passes;
      most = λ others left r. let b = to_bound ts others left r in
          subst (λ (ms : List Mark). IsFront others ms ⊎ IsFront ms others) (same b.0)
          ((limited b.0).2.most others left b.1);
      only = λ others other t fits. subst (λ (ms : List Mark). IsFront ms others) (same t.0)
          ((limited t.0).2.only others other (bounded t.0 others other t.1) fits);
    }
      where
        of_outcome : (m : ℕ) → Outcome (application (bound m)) ts (Err found) → (passed : Limit)
            × (found.refusal ≡ refusal.Limit passed) × IsLimited (application (bound m)) ts found.at passed
        of_outcome m (inl w) = absurd (wrong_no_limit w.rest what (sym (ap (λ (f : Found). f.refusal) w.is) ∙ is))
        of_outcome m (inr limited) = limited

        limited : (m : ℕ) → (passed : Limit) × (found.refusal ≡ refusal.Limit passed)
            × IsLimited (application (bound m)) ts found.at passed
        limited m = of_outcome m (outcome m ts (Err found) e)

        equal : (a b : List Mark) (x y : Mark) (at : Option ℕ) (passed : Limit) → Passes x at passed
            → AllByRecursion IsWithin b → (a ++ x ∷ [] ≡ b ++ y ∷ []) ⊎ IsFront (a ++ x ∷ []) b → a ++ x ∷ [] ≡ b ++ y
            ∷ []
        equal a b x y at passed passes within (inl f) = f
        equal a b x y at passed passes within (inr f) = absurd (within_not a x at passed b passes f within)

        either : (passed : Limit) (a : List Mark) (x : Mark) → Passes x found.at passed → AllByRecursion IsWithin a
            → IsFront (l.marks ++ l.mark ∷ []) (a ++ x ∷ []) ⊎ IsFront (a ++ x ∷ []) (l.marks ++ l.mark ∷ []) → a ++ x
            ∷ [] ≡ l.marks ++ l.mark ∷ []
        either passed a x passes within (inl f) =
            sym (equal l.marks a l.mark x found.at what l.passes within (last_front a (l.marks ++ l.mark ∷ []) x f))
        either passed a x passes within (inr f) = equal a l.marks x l.mark found.at passed passes l.within
            (last_front l.marks (a ++ x ∷ []) l.mark f)

        same : (m : ℕ) → (limited m).2.marks ++ (limited m).2.mark ∷ [] ≡ l.marks ++ l.mark ∷ []
        same m = let v = (limited m).2 in
            either (limited m).0 v.marks v.mark v.passes v.within
            (v.most (l.marks ++ l.mark ∷ []) l.rest
            (record {
              begins = (l.reached.begins.0, l.reached.begins.1, to_larger m _ _ l.reached.begins.2);
              fits =
                  l.reached.fits;
            }))

  -- what is read of the tokens, or found in them
  pub text_outcome : (read : Result App Found) → text_at ts ≡ read → Outcome text ts read
  text_outcome (Ok app) e = read_text app e
  text_outcome (Err found) e = go (outcome 0 ts (Err found) e)
    where
      go : Outcome (application (bound 0)) ts (Err found) → Outcome text ts (Err found)
      go (inl w) = inl (wrong_text found e w)
      go (inr (what, f, l)) = inr (what, f, limited_text found e what f l)
