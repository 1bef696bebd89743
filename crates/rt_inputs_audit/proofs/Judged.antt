-- What a judge of lines keeps as another line comes, and the verdict.
use Rattle.std.proofs.Common.{◌≡◌, ℕ, suc, ◌+◌, Bool, true, false, List, [], ◌∷◌, ◌++◌, length}
use Rattle.std.proofs.Common.{take, Option, Some, None, refl, sym, ap, subst, ◌∙◌, arith, length-append}
use Rattle.std.proofs.Math.Seq.{take-append-add, take-append_seam}
use Rattle.rt_app.specs.Stack.{stack_bytes}
use Rattle.rt_app.specs.Tree.{App}
use Rattle.rt_app.specs.Accepted.{IsAccepted}
use Rattle.rt_baker.specs.Judging.{MayGoOn}
use Rattle.rt_board.specs.Board.{Board, AreInputs}
use Rattle.rt_inputs.specs.Laws.{InputsAreUnused}
use Rattle.rt_inputs.specs.Shown.{ShownLine}
use Rattle.rt_inputs_audit.specs.Audit.{IsRightBeside, IsWrongAt}
use Rattle.rt_inputs_audit.specs.Following.{Place, start, place_behind, AreRightLines}
use Rattle.rt_inputs_audit.specs.Judging.{PlaceIs, LineJudged, EndJudged, Follows, FailsAt, HasComeTo, HasJudged}
use Rattle.rt_inputs_audit.specs.Judging.{MayTake}
use Rattle.rt_inputs_audit.specs.declared.followed.Followed.{Followed}
use Rattle.rt_inputs_audit.specs.declared.judge.InputsJudge.{InputsJudge}
use Rattle.rt_inputs_audit.proofs.Counting.{stands_behind}
use Rattle.rt_inputs_audit.proofs.Verdicts.{place_more, right_more, right_last, is_right, is_wrong_at, is_wrong_end}

module _ (app : App) (b : Board) where
  follows : (xs : List ShownLine) (j : InputsJudge) → j.wrong ≡ None → HasJudged app b xs j
      → Follows app b xs j.followed
  follows xs j is h = subst (λ (o : Option ℕ). HasComeTo app b xs j.followed o) is h.come_to

  fails : (xs : List ShownLine) (j : InputsJudge) (index : ℕ) → j.wrong ≡ Some index → HasJudged app b xs j
      → FailsAt app b xs index
  fails xs j index is h = subst (λ (o : Option ℕ). HasComeTo app b xs j.followed o) is h.come_to

  pub judged_none : (f : Followed) (stack : ℕ) → stack ≡ stack_bytes app → PlaceIs app f (start app)
      → HasJudged app b [] (record { followed = f; stack = stack; lines = 0; wrong = None })
  judged_none f stack bound is = record {
    counted = refl;
    bounded = bound;
    come_to = record { right = record { come = tt; depths = tt }; is = is };
  }

  -- of lines that follow one another, the next one follows too, or it is the first that fails
  follows_more : (xs : List ShownLine) (x : ShownLine) (old new : Followed) → Follows app b xs old
      → LineJudged app b true old new x → Follows app b (xs ++ x ∷ []) new
  unfolding LineJudged
  follows_more xs x old new h judged =
      let went = judged.1 (place_behind app b (start app) xs) h.is in record {
        right = right_more app b xs x h.right went.comes judged.0;
        is = subst (λ (p : Place). PlaceIs app new p) (sym (place_more app b xs (start app) x)) went.is;
      }

  take_last : (xs : List ShownLine) (x : ShownLine) → take (suc (length xs)) (xs ++ x ∷ []) ≡ xs ++ x ∷ []
  take_last xs x =
      let n : suc (length xs) ≡ length xs + 1 = omega arith in
      ap (λ (k : ℕ). take k (xs ++ x ∷ [])) n ∙ take-append-add xs (x ∷ []) 1

  fails_here : (xs : List ShownLine) (x : ShownLine) (old new : Followed) → Follows app b xs old
      → LineJudged app b false old new x → FailsAt app b (xs ++ x ∷ []) (length xs)
  unfolding LineJudged
  fails_here xs x old new h judged = record {
    within = omega (arith, length-append xs (x ∷ []));
    right = subst (λ (ys : List ShownLine). AreRightLines app b ys) (sym (take-append_seam xs (x ∷ []))) h.right;
    wrong = λ right.
        let all : AreRightLines app b (xs ++ x ∷ []) =
        subst (λ (ys : List ShownLine). AreRightLines app b ys) (take_last xs x) right in
        let last = right_last app b xs x all in
        judged (place_behind app b (start app) xs) h.is last.1 last.0;
  }

  one_more : (x : ShownLine) (j : InputsJudge) (n : ℕ) → n ≡ j.lines + 1 → (xs : List ShownLine) → HasJudged app b xs j
      → n ≡ length (xs ++ x ∷ [])
  one_more x j n more xs h = omega (arith, more, h.counted, length-append xs (x ∷ []))

  -- the first wrong one came
  pub judged_wrong : (x : ShownLine) (j : InputsJudge) (n : ℕ) (new : Followed) (came : Bool) → n ≡ j.lines + 1
      → j.wrong ≡ None → came ≡ false → LineJudged app b came j.followed new x
      → (xs : List ShownLine) → HasJudged app b xs j
      → HasJudged app b (xs ++ x ∷ []) (record j { followed = new; lines = n; wrong = Some j.lines })
  judged_wrong x j n new came more is none judged xs h =
      let judges : LineJudged app b false j.followed new x =
      subst (λ (c : Bool). LineJudged app b c j.followed new x) none judged in
      let here : FailsAt app b (xs ++ x ∷ []) (length xs) = fails_here xs x j.followed new (follows xs j is h) judges in
      record {
        counted = one_more x j n more xs h;
        bounded = h.bounded;
        come_to = subst (λ (index : ℕ). FailsAt app b (xs ++ x ∷ []) index) (sym h.counted) here;
      }

  -- another right one came
  pub judged_right : (x : ShownLine) (j : InputsJudge) (n : ℕ) (new : Followed) (came : Bool) → n ≡ j.lines + 1
      → j.wrong ≡ None → came ≡ true → LineJudged app b came j.followed new x
      → (xs : List ShownLine) → HasJudged app b xs j
      → HasJudged app b (xs ++ x ∷ []) (record j { followed = new; lines = n })
  judged_right x j n new came more is some judged xs h =
      let judges : LineJudged app b true j.followed new x =
      subst (λ (c : Bool). LineJudged app b c j.followed new x) some judged in
      record {
        counted = one_more x j n more xs h;
        bounded = h.bounded;
        come_to =
            subst (λ (o : Option ℕ). HasComeTo app b (xs ++ x ∷ []) new o) (sym is)
            (follows_more xs x j.followed new (follows xs j is h) judges);
      }

  -- the ends
  end_right : (xs : List ShownLine) (f : Followed) (o : Option ℕ) → Follows app b xs f → EndJudged app true f o
      → AreInputs app b.inputs → InputsAreUnused → IsAccepted app → IsRightBeside app b xs o
  unfolding EndJudged
  end_right xs f o h ends are unused accepted =
      is_right app b unused accepted are xs o h.right (ends (place_behind app b (start app) xs) h.is)

  end_wrong : (xs : List ShownLine) (f : Followed) (o : Option ℕ) (number : ℕ) → number ≡ length xs + 1
      → Follows app b xs f → EndJudged app false f o
      → AreInputs app b.inputs → InputsAreUnused → IsAccepted app → IsWrongAt app b xs o number
  unfolding EndJudged
  end_wrong xs f o number is h ends are unused accepted =
      is_wrong_end app b unused accepted are xs o number is h.right (ends (place_behind app b (start app) xs) h.is)

  module _ (unused : InputsAreUnused) (accepted : IsAccepted app) where
    pub judge_early : (j : InputsJudge) → j.wrong ≡ None → MayTake app b j → MayGoOn app j.followed.state
    judge_early j is may =
        let h : Follows app b may.lines j.followed = follows may.lines j is may.judged in
        let stands = stands_behind app unused accepted b may.inputs may.lines h.right.come in
        record {
          state = (place_behind app b (start app) may.lines).state;
          is = h.is.is;
          count = length may.lines;
          within = stands.reached.within;
          few = may.few;
        }

    pub finds_wrong : (o : Option ℕ) (j : InputsJudge) (index number : ℕ) → j.wrong ≡ Some index → number ≡ index + 1
        → AreInputs app b.inputs → (xs : List ShownLine) → HasJudged app b xs j → IsWrongAt app b xs o number
    finds_wrong o j index number is counts are xs h =
        let f : FailsAt app b xs index = fails xs j index is h in
        is_wrong_at app b unused accepted are xs o index number counts f.within f.right f.wrong

    pub finds_right : (o : Option ℕ) (j : InputsJudge) → j.wrong ≡ None → EndJudged app true j.followed o
        → AreInputs app b.inputs → (xs : List ShownLine) → HasJudged app b xs j → IsRightBeside app b xs o
    finds_right o j is ends are xs h = end_right xs j.followed o (follows xs j is h) ends are unused accepted

    pub finds_wrong_end : (o : Option ℕ) (j : InputsJudge) (number : ℕ) → j.wrong ≡ None
        → EndJudged app false j.followed o → number ≡ j.lines + 1 → AreInputs app b.inputs → (xs : List ShownLine)
        → HasJudged app b xs j → IsWrongAt app b xs o number
    finds_wrong_end o j number is ends counts are xs h =
        end_wrong xs j.followed o number (omega (arith, counts, h.counted)) (follows xs j is h) ends are unused accepted
