-- The end of an expression that is part of no other, where its depth is judged; and the end of a text.
use Rattle.std.proofs.Common.{◌≡◌, ℕ, ◌≤◌, Bool, true, false, List, [], ◌∷◌, ◌++◌, Option, Some, None, Result, Ok, Err}
use Rattle.std.proofs.Common.{refl, sym, ap, ◌∙◌, subst, inl, arith}
use Rattle.std.specs.Prelude.{nat_lt, if◌then◌else◌}
use Rattle.rt_ids.specs.declared.limit.Limit.TheVariants as limit
use Rattle.rt_ids.specs.declared.limits.TheConstants.{DEPTH}
use Rattle.rt_ids.specs.declared.refusal.Refusal.TheVariants as refusal
use Rattle.rt_lex.specs.Token.{Token}
use Rattle.rt_ast.specs.Tree.{Expression, depth_of}
use Rattle.rt_grammar.specs.Mark.{Mark, Ends}
use Rattle.rt_grammar.specs.Language.{Language, gives, ◌>>=◌}
use Rattle.rt_grammar.specs.Expression.{Operand, ends}
use Rattle.rt_grammar.specs.Reach.{Fits, goes_on, expression_goes_on}
use Rattle.rt_parse.specs.Inside.Reading as reading
use Rattle.rt_parse.specs.Inside.Reading.{Reader, begins_with, fault_found_at}
use Rattle.rt_parse.specs.declared.stop.Found.{Found}
use Rattle.rt_parse.proofs.Exact.{IsFront, Outcome, IsExact, IsInhabited, Avoids, AvoidsMarks, ReadsAfter, Reads}
use Rattle.rt_parse.proofs.Exact.{nothing}
use Rattle.rt_parse.proofs.ExactOutcome.{IsMarked, outcome_marked, outcome_limited}
use Rattle.rt_parse.proofs.ExactLaws.{same_outcome, then_gives, then_gives'}
use Rattle.rt_parse.proofs.ExactToken.{begins_with-nothing, begins_with-none}

-- where it is too deep, the offset of its first token
abbrev pub deep_at : Bool → Operand × Bool → Option ℕ
deep_at deep e = if deep then Some e.0.at else None

pub stopped : (compares : Bool) (tokens : List Token) → begins_with (goes_on compares) tokens ≡ false
    → expression_goes_on compares tokens ≡ false
stopped compares [] e = refl
stopped compares (t ∷ tokens) e = e

module _ {B : Type 0} (e : Operand × Bool) (K : Expression → Language B) where
  ends_mark : Mark
  ends_mark = Ends e.1 (deep_at (nat_lt DEPTH (depth_of e.0.tree)) e)

  behind_ends : (marks : List Mark) (y : B) → (ends e >>= K) marks y → (back : List Mark) × (marks ≡ ends_mark ∷ back)
      × K e.0.tree back y
  unfolding ends_mark
  behind_ends marks y (x, front, back, (em, ex), k, f) =
      (back, f ∙ ap (λ (ms : List Mark). ms ++ back) em, subst (λ (z : Expression). K z back y) ex k)

  -- whatever goes on with an expression does not come after its end
  pub ends_avoids : Avoids (goes_on e.1) (ends e >>= K)
  unfolding ends_mark
  ends_avoids marks y l = let b : (back : List Mark) × (marks ≡ ends_mark ∷ back) × K e.0.tree back y =
      behind_ends marks y l in
      subst (AvoidsMarks (goes_on e.1)) (sym b.1) (λ t f. f)

  ends_marked : (deep : Bool) → nat_lt DEPTH (depth_of e.0.tree) ≡ deep → (tokens : List Token)
      → expression_goes_on e.1 tokens ≡ false
      → IsMarked (ends e >>= K) (K e.0.tree) (Ends e.1 (deep_at deep e)) tokens tokens
  unfolding ends_mark
  ends_marked deep is tokens stop = record {
    into = λ marks y k. (
      e.0.tree,
      Ends e.1 (deep_at deep e) ∷ [],
      marks,
      (ap (λ (b : Bool). Ends e.1 (deep_at b e) ∷ []) (sym is), refl),
      k,
      refl,
    );
    fits = λ marks rest fits. (stop, fits);
    out = λ m marks y front rest l fits. go m marks y front rest (behind_ends (m ∷ marks) y l) fits;
    some = λ y l. let b : (back : List Mark) × ([] ≡ ends_mark ∷ back) × K e.0.tree back y = behind_ends [] y l in
        let f : [] ≡ ends_mark ∷ b.0 = b.1 in absurd cc;
  }
    where
      same_mark : ends_mark ≡ Ends e.1 (deep_at deep e)
      same_mark = ap (λ (b : Bool). Ends e.1 (deep_at b e)) is

      go : (m : Mark) (marks : List Mark) (y : B) (front : List Mark) (rest : List Token) → (back : List Mark)
          × (m ∷ marks ≡ ends_mark ∷ back) × K e.0.tree back y → Fits (m ∷ front) tokens rest
          → (m ≡ Ends e.1 (deep_at deep e)) × K e.0.tree marks y × Fits front tokens rest
      go m marks y front rest b fits =
          let f : m ∷ marks ≡ ends_mark ∷ b.0 = b.1 in
          let g : m ≡ ends_mark = cc in
          let h : b.0 ≡ marks = cc in
          let i : m ≡ Ends e.1 (deep_at deep e) = g ∙ same_mark in
          let j : Fits (Ends e.1 (deep_at deep e) ∷ front) tokens rest =
          subst (λ (n : Mark). Fits (n ∷ front) tokens rest) i fits in
          (i, subst (λ (ms : List Mark). K e.0.tree ms y) h b.2, j.1)

  pub ends_outcome : (tokens : List Token) (read : Result B Found) → expression_goes_on e.1 tokens ≡ false
      → IsInhabited (K e.0.tree)
      → (nat_lt DEPTH (depth_of e.0.tree) ≡ false → Outcome (K e.0.tree) tokens read)
      → Outcome (ends e >>= K) tokens (if nat_lt DEPTH (depth_of e.0.tree) then Err
      (record { at = Some e.0.at; refusal = refusal.Limit limit.Depth }) else read)
  ends_outcome tokens read stop some exact = go (nat_lt DEPTH (depth_of e.0.tree)) refl
    where
      go : (deep : Bool) → nat_lt DEPTH (depth_of e.0.tree) ≡ deep → Outcome (ends e >>= K) tokens
          (if deep then Err (record { at = Some e.0.at; refusal = refusal.Limit limit.Depth }) else read)
      go false is = outcome_marked _ _ _ _ _ (ends_marked false is tokens stop) refl read (exact is)
      go true is = outcome_limited _ _ _ _ _ (ends_marked true is tokens stop) (Some e.0.at) limit.Depth
          (e.0.at, refl, refl) some

-- The end of an expression is read where the next token does not go on with it.
pub reads_ends : {B C : Type 0} {goes : Expression → Token → Bool} {value : Expression → C} (e : Operand × Bool)
    (deep : Bool) (at : ℕ) (tree : C)
    → deep ≡ nat_lt DEPTH (depth_of e.0.tree) → at ≡ e.0.at → tree ≡ value e.0.tree
    → ReadsAfter B (goes_on e.1) goes nothing (λ n. n) value (ends e)
    (λ tokens. if deep then Err (record { at = Some at; refusal = refusal.Limit limit.Depth }) else Ok
    (tree, tokens))
reads_ends {B} {C} {value = value} e deep at tree is_deep is_at is_tree = record {
  exact = λ behind read most any avoids exact tokens le stop.
      subst (Outcome (ends e >>= behind) tokens) (same behind read tokens)
      (ends_outcome e behind tokens (read (value e.0.tree) tokens) (stopped e.1 tokens stop) (any e.0.tree)
      (λ f. exact e.0.tree tokens le (begins_with-nothing e.0.tree tokens)));
}
  where
    pick : (behind : Expression → Language B) (read : C → List Token → Result B Found) (tokens : List Token) (b : Bool)
        → (if b then Err (record { at = Some e.0.at; refusal = refusal.Limit limit.Depth }) else read (value e.0.tree)
        tokens)
        ≡ reading.◌>>=◌ {A = C × List Token}
        (if b then Err (record { at = Some e.0.at; refusal = refusal.Limit limit.Depth }) else Ok
        (value e.0.tree, tokens)) (λ got. read got.0 got.1)
    pick behind read tokens true = refl
    pick behind read tokens false = refl

    same : (behind : Expression → Language B) (read : C → List Token → Result B Found) (tokens : List Token)
        → (if nat_lt DEPTH (depth_of e.0.tree)
        then Err (record { at = Some e.0.at; refusal = refusal.Limit limit.Depth })
        else read (value e.0.tree) tokens)
        ≡ reading.◌>>=◌ {A = C × List Token}
        (if deep then Err (record { at = Some at; refusal = refusal.Limit limit.Depth }) else Ok (tree, tokens))
        (λ got. read got.0 got.1)
    same behind read tokens = rw (is_deep, is_at, is_tree) (pick behind read tokens (nat_lt DEPTH (depth_of e.0.tree)))

abbrev pub is_end : List Token → Bool
is_end [] = true
is_end (t ∷ tokens) = false

first : (others more : List Mark) → others ++ more ≡ [] → IsFront others []
first others more e = (more, sym e)

-- Nothing is read at the end of a text alone.
pub exact_end : {B : Type 0} (x : B) (n : ℕ) → IsExact (gives x)
    (λ tokens. if is_end tokens then Ok x else Err (fault_found_at tokens)) n
exact_end x n [] le = record {
  marks = [];
  means = (refl, refl);
  fits = refl;
  within = tt;
  most = λ others left r. let e : others ++ r.begins.0 ≡ [] = r.begins.2.0 in first others r.begins.0 e;
  only = λ others other l fits. l;
}
exact_end x n (t ∷ tokens) le = inl (record {
  marks = [];
  rest = t ∷ tokens;
  reached = record { begins = ([], x, (refl, refl)); fits = refl };
  within = tt;
  most = λ others left r. let e : others ++ r.begins.0 ≡ [] = r.begins.2.0 in first others r.begins.0 e;
  none = λ others other l fits. let f : t ∷ tokens ≡ [] = subst (λ (ms : List Mark). Fits ms (t ∷ tokens) []) l.0
      fits in absurd cc;
  is = refl;
})

-- A reader of a whole text, which reads its form and then the end.
pub exact_whole : {A : Type 0} {goes stops : A → Token → Bool} {longer : ℕ → ℕ} {form : Language A} {reader : Reader A}
    → ((n : ℕ) → n ≤ longer n) → Reads A goes stops longer (λ x. x) form reader
    → (n : ℕ) → IsExact form (λ tokens. reading.◌>>=◌ (reader tokens)
    (λ got. if is_end got.1 then Ok got.0 else Err (fault_found_at got.1))) n
exact_whole {goes = goes} {longer = longer} {form = form} {reader = reader} more reads n tokens le =
    same_outcome (form >>= gives) form tokens (reading.◌>>=◌ (reader tokens)
    (λ got. if is_end got.1 then Ok got.0 else Err (fault_found_at got.1)))
    (then_gives' form) (then_gives form)
    (reads.exact gives (λ x tokens. if is_end tokens then Ok x else Err (fault_found_at tokens)) n
    (λ x. ([], x, (refl, refl))) (λ x marks y l. subst (AvoidsMarks (goes x)) (sym l.0) tt)
    (λ x tokens le stop. exact_end x n tokens le) tokens (let l : n ≤ longer n = more n in omega arith)
    (begins_with-none tokens))
