-- A text is read in one way: lines lead from a state to one state alone, and each line leads on or is wrong.
use Rattle.std.proofs.Common.{◌≡◌, ◌⊎◌, ◌≤◌, ◌<◌, inl, inr, ℕ, suc, ◌+◌, List, [], ◌∷◌, ◌++◌, length, length-append}
use Rattle.std.proofs.Common.{Option, Some, None, Result, Ok, Err, IfOk, refl, ap, sym, ◌∙◌, subst, arith}
use Rattle.std.proofs.Common.{append_assoc, append-nil}
use Rattle.std.proofs.lemmas.Result.{IfOk-at_ok}
use Rattle.rt_lines.specs.Reading.{Reader, Lead, IsRead, IsWrongNext, IsFirstWrong, IsReadOneWay}
use Rattle.rt_lines.specs.Inside.Progress.{Progress}

module _ {S W : Type 0} (reader : Reader S W) where
  -- lines lead on from where others led
  pub lead_append : (s t u : S) (ls more : List (List ℕ)) → Lead reader s ls t → Lead reader t more u
      → Lead reader s (ls ++ more) u
  lead_append s t u [] more a b = subst (λ v. Lead reader v more u) (sym a) b
  lead_append s t u (l ∷ ls) more a b = (a.0, a.1, lead_append a.0 t u ls more a.2 b)

  -- one line more
  pub lead_more : (s t u : S) (ls : List (List ℕ)) (line : List ℕ) → Lead reader s ls t → reader.step t line ≡ Ok u
      → Lead reader s (ls ++ line ∷ []) u
  lead_more s t u ls line lead e = lead_append s t u ls (line ∷ []) lead (u, e, refl)

  -- what each step keeps holds behind all lines
  pub kept : (P : S → Type 0) → ((s : S) (line : List ℕ) → P s → IfOk (reader.step s line) P)
      → (s t : S) (ls : List (List ℕ)) → Lead reader s ls t → P s → P t
  kept P keeps s t [] lead p = subst P lead p
  kept P keeps s t (line ∷ ls) lead p =
      kept P keeps lead.0 t ls lead.2 (IfOk-at_ok P lead.1 (keeps s line p))

  -- What lines say from a state on: the state behind them, or the number of lines in front of the first wrong one and
  -- its fault.
  data Said : Type 0 where
    Right : (s : S) → Said
    Wrong : (n : ℕ) (w : W) → Said

  abbrev at_end : Option W → S → ℕ → Said
  at_end None s n = Right s
  at_end (Some w) s n = Wrong n w

  abbrev by_step : Result S W → ℕ → (S → Said) → Said
  by_step (Ok t) n more = more t
  by_step (Err w) n more = Wrong n w

  abbrev said : S → ℕ → List (List ℕ) → Said
  said s n [] = at_end (reader.missing s) s n
  said s n (line ∷ ls) = by_step (reader.step s line) n (λ t. said t (suc n) ls)

  -- lines that lead on say nothing themselves
  through : (s t : S) (n : ℕ) (ls rest : List (List ℕ)) → Lead reader s ls t
      → said s n (ls ++ rest) ≡ said t (n + length ls) rest
  through s t n [] rest e =
      let same : n ≡ n + 0 = omega arith in
      ap (λ v. said v n rest) e ∙ ap (λ k. said t k rest) same
  through s t n (l ∷ ls) rest lead =
      let number : suc n + length ls ≡ n + suc (length ls) = omega arith in
      ap (λ r. by_step r n (λ v. said v (suc n) (ls ++ rest))) lead.1
      ∙ (through lead.0 t (suc n) ls rest lead.2 ∙ ap (λ k. said t k rest) number)

  next_wrong : (s : S) (n : ℕ) (rest : List (List ℕ)) (w : W) → IsWrongNext reader s rest w
      → said s n rest ≡ Wrong n w
  next_wrong s n [] w e = ap (λ o. at_end o s n) e
  next_wrong s n (line ∷ ls) w e = ap (λ r. by_step r n (λ v. said v (suc n) ls)) e

  said_read : (text : List ℕ) (s : S) → IsRead reader text s → said reader.start 0 (reader.lines text) ≡ Right s
  said_read text s is =
      ap (said reader.start 0) (sym (append-nil (reader.lines text)))
      ∙ (through reader.start s 0 (reader.lines text) [] is.lead
      ∙ ap (λ o. at_end o s (0 + length (reader.lines text))) is.whole)

  said_wrong : (text : List ℕ) (n : ℕ) (w : W) (is : IsFirstWrong reader text n w)
      → said reader.start 0 (reader.lines text) ≡ Wrong (length is.before) w
  said_wrong text n w is =
      let number : 0 + length is.before ≡ length is.before = omega arith in
      ap (said reader.start 0) is.parts
      ∙ (through reader.start is.reached 0 is.before is.behind is.lead
      ∙ (ap (λ k. said is.reached k is.behind) number
      ∙ next_wrong is.reached (length is.before) is.behind w is.wrong))

  right_same : (s t : S) → Right s ≡ Right t → s ≡ t
  right_same s t e = cc

  wrong_same : (n m : ℕ) (v w : W) → Wrong n v ≡ Wrong m w → (n ≡ m) × (v ≡ w)
  wrong_same n m v w e = (cc, cc)

  right_wrong : (s : S) (n : ℕ) (w : W) → Right s ≡ Wrong n w → ⊥
  right_wrong s n w e = cc

  one_number : (text : List ℕ) (n m : ℕ) (v w : W) (a : IsFirstWrong reader text n v)
      (b : IsFirstWrong reader text m w) → (n ≡ m) × (v ≡ w)
  one_number text n m v w a b =
      let same = wrong_same (length a.before) (length b.before) v w
      (sym (said_wrong text n v a) ∙ said_wrong text m w b) in
      (a.number_is ∙ (ap suc same.0 ∙ sym b.number_is), same.1)

  module _ (text : List ℕ) (short : length text ≤ reader.most) where
    abbrev Either : Type 0
    Either = ((s : S) × IsRead reader text s) ⊎ ((n : ℕ) × (w : W) × IsFirstWrong reader text n w)

    faulty : (before behind : List (List ℕ)) (s : S) (w : W) → reader.lines text ≡ before ++ behind
        → Lead reader reader.start before s → IsWrongNext reader s behind w → Either
    faulty before behind s w parts lead wrong =
        inr (
          suc (length before),
          w,
          record {
            short = short;
            before = before;
            behind = behind;
            parts = parts;
            number_is = refl;
            reached = s;
            lead = lead;
            wrong = wrong;
          },
        )

    ended : (before : List (List ℕ)) (s : S) (o : Option W) → reader.missing s ≡ o
        → reader.lines text ≡ before ++ [] → Lead reader reader.start before s → Either
    ended before s None none parts lead =
        inl (
          s,
          record {
            short = short;
            lead = subst (λ ls. Lead reader reader.start ls s) (sym (parts ∙ append-nil before)) lead;
            whole = none;
          },
        )
    ended before s (Some w) some parts lead = faulty before [] s w parts lead some

    stepped : (before : List (List ℕ)) (line : List ℕ) (ls : List (List ℕ)) (s : S) (r : Result S W)
        → reader.step s line ≡ r → reader.lines text ≡ before ++ line ∷ ls → Lead reader reader.start before s
        → ((t : S) → reader.lines text ≡ (before ++ line ∷ []) ++ ls
        → Lead reader reader.start (before ++ line ∷ []) t → Either)
        → Either
    stepped before line ls s (Ok t) step parts lead go =
        go t (parts ∙ sym (append_assoc before (line ∷ []) ls)) (lead_more reader.start s t before line lead step)
    stepped before line ls s (Err w) step parts lead go = faulty before (line ∷ ls) s w parts lead step

    goes : (ls before : List (List ℕ)) (s : S) → reader.lines text ≡ before ++ ls → Lead reader reader.start before s
        → Either
    goes [] before s parts lead = ended before s (reader.missing s) refl parts lead
    goes (line ∷ ls) before s parts lead =
        stepped before line ls s (reader.step s line) refl parts lead (goes ls (before ++ line ∷ []))

    either : Either
    either = goes (reader.lines text) [] reader.start refl refl

  pub read_one_way : IsReadOneWay reader
  read_one_way = record {
    one_state = λ text s t a b. right_same s t (sym (said_read text s a) ∙ said_read text t b);
    not_both = λ text s n w a b. right_wrong s (length b.before) w (sym (said_read text s a) ∙ said_wrong text n w b);
    one_fault = one_number;
    either = either;
  }

  -- a line more
  pub line_more : (text rest behind line : List ℕ) (number : ℕ) (s t : S) → Progress reader text rest number s
      → reader.lines rest ≡ line ∷ reader.lines behind → length behind < length rest → reader.step s line ≡ Ok t
      → Progress reader text behind (number + 1) t
  line_more text rest behind line number s t at cut shorter step =
      let count : number ≡ length at.before = at.number_is in
      let room : number + length rest ≤ length text = at.room in
      record {
        before = at.before ++ line ∷ [];
        parts = at.parts ∙ (ap (λ ls. at.before ++ ls) cut
            ∙ sym (append_assoc at.before (line ∷ []) (reader.lines behind)));
        number_is = simp length-append (omega (arith, count));
        lead = lead_more reader.start s t at.before line at.lead step;
        room = omega (arith, room, shorter);
      }

  -- the first wrong line
  pub wrong_line : (text rest behind line : List ℕ) (number : ℕ) (s : S) (w : W) → Progress reader text rest number s
      → reader.lines rest ≡ line ∷ reader.lines behind → length text ≤ reader.most → reader.step s line ≡ Err w
      → IsFirstWrong reader text (number + 1) w
  wrong_line text rest behind line number s w at cut short step =
      let count : number ≡ length at.before = at.number_is in
      record {
        short = short;
        before = at.before;
        behind = line ∷ reader.lines behind;
        parts = at.parts ∙ ap (λ ls. at.before ++ ls) cut;
        number_is = omega (arith, count);
        reached = s;
        lead = at.lead;
        wrong = step;
      }

  -- the end of the text
  pub read_whole : (text rest : List ℕ) (number : ℕ) (s : S) → Progress reader text rest number s
      → reader.lines rest ≡ [] → length text ≤ reader.most → reader.missing s ≡ None → IsRead reader text s
  read_whole text rest number s at none short whole = record {
    short = short;
    lead = subst (λ ls. Lead reader reader.start ls s)
        (sym (at.parts ∙ (ap (λ ls. at.before ++ ls) none ∙ append-nil at.before))) at.lead;
    whole = whole;
  }

  -- where something is missing at it
  pub wrong_end : (text rest : List ℕ) (number : ℕ) (s : S) (w : W) → Progress reader text rest number s
      → reader.lines rest ≡ [] → length text ≤ reader.most → reader.missing s ≡ Some w
      → IsFirstWrong reader text (number + 1) w
  wrong_end text rest number s w at none short missing =
      let count : number ≡ length at.before = at.number_is in
      record {
        short = short;
        before = at.before;
        behind = [];
        parts = at.parts ∙ ap (λ ls. at.before ++ ls) none;
        number_is = omega (arith, count);
        reached = s;
        lead = at.lead;
        wrong = missing;
      }
