-- Items are judged one after another, and so is the trace.
use Rattle.std.proofs.Common.{◌≡◌, ℕ, zero, suc, ◌+◌, ◌-◌, ◌<◌, ◌≤◌, Bool, true, false, List, [], ◌∷◌}
use Rattle.std.proofs.Common.{◌++◌, length, take, Option, Some, None, inl, inr, refl, ap, ◌∙◌, sym, subst}
use Rattle.std.proofs.Common.{le_refl, arith, length-append}
use Rattle.std.proofs.Math.Seq.{take-append-add, take-append_seam, take-length, take-take}
use Rattle.std.specs.List.{AllByRecursion}
use Rattle.rt_trace.specs.Trace.{Trace}
use Rattle.rt_trace.specs.declared.item.Item.{Item}
use Rattle.rt_app.specs.Tree.{App}
use Rattle.rt_app.specs.Stack.{stack_bytes}
use Rattle.rt_app.specs.Accepted.{IsAccepted}
use Rattle.rt_laws.specs.State as laws
use Rattle.rt_laws.specs.State.{first}
use Rattle.rt_laws.specs.Allowed.{May, after}
use Rattle.rt_laws.specs.Run.{RunsOn, IsWithinStack, StatesTotal, Judged}
use Rattle.rt_laws.specs.ByItems.{label_of, steps_after, after_all, silent, Comes}
use Rattle.rt_laws.proofs.ByItems.{runs_are_by_items}
use Rattle.rt_laws.proofs.Keeping.{judged_traces_keep_laws}
use Rattle.rt_laws.proofs.AllMoments.{runs_keep_messages}
use Rattle.rt_baker_moves.specs.State.{AuditorState, StateIs}
use Rattle.rt_baker.specs.declared.done.Done.{Done}
use Rattle.rt_baker.specs.declared.judge.Judge.{Judge}
use Rattle.rt_baker.specs.declared.verdict.Verdict.{Verdict}
use Rattle.rt_baker.specs.Audit.{front, IsRight, IsWrongAt, IsVerdict}
use Rattle.rt_baker.specs.Judge.{steps_done, state_after, steps_done_after, AreRight, Follows, FailsAt, HasComeTo}
use Rattle.rt_baker.specs.Judge.{HasJudged}
use Rattle.rt_baker.specs.Judge.{MayTake}
use Rattle.rt_baker.specs.Judging.{MayGoOn, Judges, Passes, Behind, ItemComes, ItemJudged, Ends, TotalJudged}
use Rattle.rt_baker.proofs.Allowing.{owes_as}
use Rattle.rt_baker.proofs.Counting.{silent_within, behind_within}
use Rattle.rt_baker.proofs.Running.{silent_owing, come_more, come_last, state_more}
use Rattle.rt_baker.proofs.Running.{done_more, come_front, run_from, run_comes, run_ends, run_here}

-- an item with the silent steps in front of it
pub item_disordered : (app : App) (old new : AuditorState) (n : ℕ) (x : Item) → x.step < n
    → ItemComes app None old new n x
unfolding ItemComes
item_disordered app old new n x less = λ t h comes. absurd (omega (arith, less, comes.in_order))

pub item_stopped : (app : App) (old new : AuditorState) (n k : ℕ) (x : Item) → k ≡ x.step - n
    → Passes app false old new k
    → ItemComes app None old new n x
unfolding ItemComes Passes
item_stopped app old new n k x is stops = λ t h comes.
    stops t h (subst (λ (m : ℕ). RunsOn app t (silent m)) (sym is) comes.quiet)

-- the state behind the silent steps, and what is kept of it
pub still_early : (app : App) (old mid : AuditorState) (k : ℕ) → MayGoOn app old → Passes app true old mid k
    → MayGoOn app mid
unfolding Passes
still_early app old mid k h passes = record {
  state = after_all app h.state (silent k);
  is = (passes h.state h.is).is;
  count = h.count;
  within = silent_within app k h.count h.state h.within;
  few = h.few;
}

pub item_refused : (app : App) (old mid new : AuditorState) (n k : ℕ) (x : Item) → k ≡ x.step - n
    → Passes app true old mid k → Judges app false mid new x.what → ItemComes app None old new n x
unfolding ItemComes Passes Judges
item_refused app old mid new n k x is passes refuses = λ t h comes.
    refuses (after_all app t (silent k)) (passes t h).is
    (subst (λ (m : ℕ). May app (after_all app t (silent m)) (label_of (after_all app t (silent k)).owing x.what))
    (sym is)
    (subst (λ (b : Bool). May app (after_all app t (silent (x.step - n))) (label_of b x.what))
    (sym (silent_owing app k t)) comes.allowed))

pub item_comes : (app : App) (old mid new : AuditorState) (n k : ℕ) (x : Item) (d : Done) → n ≤ x.step → k ≡ x.step - n
    → Passes app true old mid k → Judges app true mid new x.what
    → steps_done d ≡ steps_after x.step (label_of mid.owing x.what)
    → ItemComes app (Some d) old new n x
unfolding ItemComes Passes Judges
item_comes app old mid new n k x d le is passes judges counts = λ t h.
    let u : laws.State = after_all app t (silent k) in
    let passed = passes t h in
    let c = judges u passed.is in
    let owing : u.owing ≡ t.owing = silent_owing app k t in
    let kept : u.owing ≡ mid.owing = owes_as app mid u mid.owing passed.is refl in
    record {
      comes = record {
        in_order = le;
        quiet = subst (λ (m : ℕ). RunsOn app t (silent m)) is passed.runs;
        allowed =
            subst (λ (m : ℕ). May app (after_all app t (silent m)) (label_of t.owing x.what)) is
            (subst (λ (b : Bool). May app u (label_of b x.what)) owing c.may);
      };
      is =
          subst (λ (m : ℕ). StateIs app new (after app (after_all app t (silent m)) (label_of t.owing x.what))) is
          (subst (λ (b : Bool). StateIs app new (after app u (label_of b x.what))) owing c.is);
      steps =
          counts
          ∙ ap (λ (b : Bool). steps_after x.step (label_of b x.what)) (sym kept ∙ owing);
    }

-- and the stack bound
pub item_beyond : (app : App) (old new : AuditorState) (n : ℕ) (x : Item) → (IsWithinStack app x.what → ⊥)
    → ItemJudged app None old new n x
unfolding ItemJudged
item_beyond app old new n x beyond = λ t h within comes. beyond within

pub item_within : (app : App) (o : Option Done) (old new : AuditorState) (n : ℕ) (x : Item) → IsWithinStack app x.what
    → ItemComes app o old new n x → ItemJudged app o old new n x
unfolding ItemJudged ItemComes
item_within app None old new n x within comes = λ t h also. comes t h
item_within app (Some d) old new n x within comes = (within, comes)

-- all items
all_more : (app : App) (xs : List Item) (x : Item) → AllByRecursion (λ y. IsWithinStack app y.what) xs
    → IsWithinStack app x.what → AllByRecursion (λ y. IsWithinStack app y.what) (xs ++ x ∷ [])
all_more app [] x all last = (last, tt)
all_more app (y ∷ xs) x all last = (all.0, all_more app xs x all.1 last)

all_last : (app : App) (xs : List Item) (x : Item) → AllByRecursion (λ y. IsWithinStack app y.what) (xs ++ x ∷ [])
    → IsWithinStack app x.what
all_last app [] x all = all.0
all_last app (y ∷ xs) x all = all_last app xs x all.1

all_front : (app : App) (k : ℕ) (xs : List Item) → AllByRecursion (λ y. IsWithinStack app y.what) xs
    → AllByRecursion (λ y. IsWithinStack app y.what) (take k xs)
all_front app zero [] all = tt
all_front app zero (x ∷ xs) all = tt
all_front app (suc k) [] all = tt
all_front app (suc k) (x ∷ xs) all = (all.0, all_front app k xs all.1)

right_more : (app : App) (xs : List Item) (x : Item) → AreRight app xs
    → Comes app (state_after app (first app) 0 xs) (steps_done_after app (first app) 0 xs) x
    → IsWithinStack app x.what → AreRight app (xs ++ x ∷ [])
right_more app xs x right comes within = record {
  come = come_more app xs (first app) 0 x right.come comes;
  depths = all_more app xs x right.depths within;
}

right_front : (app : App) (k : ℕ) (xs : List Item) → AreRight app xs → AreRight app (take k xs)
right_front app k xs right = record {
  come = come_front app k xs (first app) 0 right.come;
  depths = all_front app k xs right.depths;
}

right_less : (app : App) (n m : ℕ) (xs : List Item) → n ≤ m → AreRight app (take m xs) → AreRight app (take n xs)
right_less app n m xs le right =
    subst (λ (ys : List Item). AreRight app ys) (take-take n m xs le) (right_front app n (take m xs) right)

-- of items that follow one another, the next one follows too, or it is the first that fails
follows_more : (app : App) (xs : List Item) (n : ℕ) (x : Item) (old new : AuditorState) (d : Done)
    → Follows app xs old n
    → ItemJudged app (Some d) old new n x → Follows app (xs ++ x ∷ []) new (steps_done d)
unfolding ItemJudged
follows_more app xs n x old new d h judged =
    let b : Behind app (state_after app (first app) 0 xs) (steps_done_after app (first app) 0 xs) x new
    (steps_done d) =
    subst (λ (m : ℕ). Behind app (state_after app (first app) 0 xs) m x new (steps_done d)) h.steps
    (judged.1 (state_after app (first app) 0 xs) h.is) in
    record {
      right = right_more app xs x h.right b.comes judged.0;
      is = subst (λ (u : laws.State). StateIs app new u) (sym (state_more app xs (first app) 0 x)) b.is;
      steps = b.steps ∙ sym (done_more app xs (first app) 0 x);
    }

take_last : (xs : List Item) (x : Item) → take (suc (length xs)) (xs ++ x ∷ []) ≡ xs ++ x ∷ []
take_last xs x =
    let n : suc (length xs) ≡ length xs + 1 = omega arith in
    ap (λ (k : ℕ). take k (xs ++ x ∷ [])) n ∙ take-append-add xs (x ∷ []) 1

fails_here : (app : App) (xs : List Item) (n : ℕ) (x : Item) (old new : AuditorState) → Follows app xs old n
    → ItemJudged app None old new n x → FailsAt app (xs ++ x ∷ []) (length xs)
unfolding ItemJudged
fails_here app xs n x old new h judged = record {
  within = omega (arith, length-append xs (x ∷ []));
  right = subst (λ (ys : List Item). AreRight app ys) (sym (take-append_seam xs (x ∷ []))) h.right;
  wrong = λ right.
      let all : AreRight app (xs ++ x ∷ []) = subst (λ (ys : List Item). AreRight app ys) (take_last xs x) right in
      judged (state_after app (first app) 0 xs) h.is (all_last app xs x all.depths)
      (subst (λ (m : ℕ). Comes app (state_after app (first app) 0 xs) m x) (sym h.steps)
      (come_last app xs (first app) 0 x all.come));
}

-- a judge
follows : (app : App) (xs : List Item) (j : Judge) → j.wrong ≡ None → HasJudged app xs j
    → Follows app xs j.state (steps_done j.done)
follows app xs j is h =
    let s : HasComeTo app xs j.state j.done None =
    subst (λ (o : Option ℕ). HasComeTo app xs j.state j.done o) is h.come_to in s

fails : (app : App) (xs : List Item) (j : Judge) (index : ℕ) → j.wrong ≡ Some index → HasJudged app xs j
    → FailsAt app xs index
fails app xs j index is h =
    let s : HasComeTo app xs j.state j.done (Some index) =
    subst (λ (o : Option ℕ). HasComeTo app xs j.state j.done o) is h.come_to in s

pub judged_none : (app : App) (s : AuditorState) (stack : ℕ) (d : Done) → stack ≡ stack_bytes app
    → StateIs app s (first app)
    → steps_done d ≡ 0 → HasJudged app [] (record { state = s; stack = stack; done = d; items = 0; wrong = None })
judged_none app s stack d bound is none = record {
  counted = refl;
  bounded = bound;
  come_to = record { right = record { come = tt; depths = tt }; is = is; steps = none };
}

pub judge_early : (app : App) (j : Judge) → IsAccepted app → j.wrong ≡ None → MayTake app j → MayGoOn app j.state
judge_early app j accepted is may =
    let h : Follows app may.items j.state (steps_done j.done) = follows app may.items j is may.judged in
    record {
      state = state_after app (first app) 0 may.items;
      is = h.is;
      count = length may.items;
      within = behind_within app accepted may.items h.right.come;
      few = may.few;
    }

one_more : (app : App) (x : Item) (j : Judge) (n : ℕ) → n ≡ j.items + 1 → (xs : List Item) → HasJudged app xs j
    → n ≡ length (xs ++ x ∷ [])
one_more app x j n more xs h = omega (arith, more, h.counted, length-append xs (x ∷ []))

-- the first wrong one came
pub judged_wrong : (app : App) (x : Item) (j : Judge) (n : ℕ) (new : AuditorState) (o : Option Done) → n ≡ j.items + 1
    → j.wrong ≡ None → o ≡ None → ItemJudged app o j.state new (steps_done j.done) x
    → (xs : List Item) → HasJudged app xs j
    → HasJudged app (xs ++ x ∷ []) (record j { state = new; items = n; wrong = Some j.items })
judged_wrong app x j n new o more is none judged xs h =
    let judges : ItemJudged app None j.state new (steps_done j.done) x =
    subst (λ (p : Option Done). ItemJudged app p j.state new (steps_done j.done) x) none judged in
    let here : FailsAt app (xs ++ x ∷ []) (length xs) =
    fails_here app xs (steps_done j.done) x j.state new (follows app xs j is h) judges in
    record {
      counted = one_more app x j n more xs h;
      bounded = h.bounded;
      come_to = subst (λ (index : ℕ). FailsAt app (xs ++ x ∷ []) index) (sym h.counted) here;
    }

-- another right one came
pub judged_right : (app : App) (x : Item) (j : Judge) (n : ℕ) (new : AuditorState) (o : Option Done) (d : Done)
    → n ≡ j.items + 1 → j.wrong ≡ None → o ≡ Some d → ItemJudged app o j.state new (steps_done j.done) x
    → (xs : List Item) → HasJudged app xs j
    → HasJudged app (xs ++ x ∷ []) (record j { state = new; done = d; items = n })
judged_right app x j n new o d more is some judged xs h =
    let judges : ItemJudged app (Some d) j.state new (steps_done j.done) x =
    subst (λ (p : Option Done). ItemJudged app p j.state new (steps_done j.done) x) some judged in
    record {
      counted = one_more app x j n more xs h;
      bounded = h.bounded;
      come_to =
          subst (λ (p : Option ℕ). HasComeTo app (xs ++ x ∷ []) new d p) (sym is)
          (follows_more app xs (steps_done j.done) x j.state new d (follows app xs j is h) judges);
    }

-- the items of a trace
pub judged_all : (app : App) (xs : List Item) (i : ℕ) (j : Judge) → i ≡ length xs → HasJudged app (take i xs) j
    → HasJudged app xs j
judged_all app xs i j all h =
    subst (λ (ys : List Item). HasJudged app ys j) (ap (λ (k : ℕ). take k xs) all ∙ take-length xs) h

-- the end
pub ends_any : (app : App) (s : AuditorState) (n : ℕ) (o : Option ℕ) → o ≡ None → TotalJudged app true s n o
unfolding TotalJudged
ends_any app s n o is = λ t h. subst (λ (p : Option ℕ). Ends app t n p) (sym is) tt

pub total_less : (app : App) (s : AuditorState) (n total : ℕ) (o : Option ℕ) → o ≡ Some total → total < n
    → TotalJudged app false s n o
unfolding TotalJudged
total_less app s n total o is less = λ t h ends.
    let e : Ends app t n (Some total) = subst (λ (p : Option ℕ). Ends app t n p) is ends in
    absurd (omega (arith, less, e.0))

pub total_passes : (app : App) (b : Bool) (s new : AuditorState) (n k total : ℕ) (o : Option ℕ) → o ≡ Some total → n
    ≤ total
    → k ≡ total - n → Passes app b s new k → TotalJudged app b s n o
unfolding TotalJudged Passes
total_passes app true s new n k total o is le more passes = λ t h.
    subst (λ (p : Option ℕ). Ends app t n p) (sym is)
    (le, subst (λ (m : ℕ). RunsOn app t (silent m)) more (passes t h).runs)
total_passes app false s new n k total o is le more stops = λ t h ends.
    let e : Ends app t n (Some total) = subst (λ (p : Option ℕ). Ends app t n p) is ends in
    stops t h (subst (λ (m : ℕ). RunsOn app t (silent m)) (sym more) e.1)

-- the verdict
judged_items : (app : App) (xs : List Item) (o : Option ℕ) → AreRight app xs
    → Ends app (state_after app (first app) 0 xs) (steps_done_after app (first app) 0 xs) o
    → Judged app (record { items = xs; total = o })
judged_items app xs None right ends =
    let m : ℕ = steps_done_after app (first app) 0 xs in
    record {
      total = m;
      stated = tt;
      run = runs_are_by_items.of_items app xs m
          (run_from app xs (first app) 0 m right.come (le_refl m) (run_here app (state_after app (first app) 0 xs) m));
      depths = right.depths;
    }
judged_items app xs (Some total) right ends = record {
  total = total;
  stated = refl;
  run = runs_are_by_items.of_items app xs total (run_from app xs (first app) 0 total right.come ends.0 ends.1);
  depths = right.depths;
}

right_items : (app : App) (trace : Trace) → Judged app trace → AreRight app trace.items
right_items app trace judged = record {
  come = run_comes app trace.items (first app) 0 judged.total
      (runs_are_by_items.by_items app trace.items judged.total judged.run);
  depths = judged.depths;
}

stated_ends : (app : App) (t : laws.State) (n : ℕ) (o : Option ℕ) (total : ℕ) → StatesTotal o total → n ≤ total
    → RunsOn app t (silent (total - n)) → Ends app t n o
stated_ends app t n None total stated le runs = tt
stated_ends app t n (Some k) total stated le runs =
    subst (λ (m : ℕ). Ends app t n (Some m)) (sym stated) (le, runs)

right_ends : (app : App) (trace : Trace) → Judged app trace
    → Ends app (state_after app (first app) 0 trace.items) (steps_done_after app (first app) 0 trace.items)
    trace.total
right_ends app trace judged =
    let ends = run_ends app trace.items (first app) 0 judged.total
    (runs_are_by_items.by_items app trace.items judged.total judged.run) in
    stated_ends app (state_after app (first app) 0 trace.items) (steps_done_after app (first app) 0 trace.items)
    trace.total
    judged.total judged.stated ends.0 ends.1

judged_fronts : (app : App) (trace : Trace) (m n : ℕ) → AreRight app (take m trace.items) → n ≤ m
    → Judged app (front n trace)
judged_fronts app trace m n right le =
    judged_items app (take n trace.items) None (right_less app n m trace.items le right) tt

is_right : (app : App) (trace : Trace) (s : AuditorState) (n : ℕ) → IsAccepted app → Follows app trace.items s n
    → TotalJudged app true s n trace.total → IsRight app trace
unfolding TotalJudged
is_right app trace s n accepted h ends =
    let judged : Judged app trace = judged_items app trace.items trace.total h.right
    (subst (λ (m : ℕ). Ends app (state_after app (first app) 0 trace.items) m trace.total) h.steps
    (ends (state_after app (first app) 0 trace.items) h.is)) in
    record {
      judged = judged;
      laws = judged_traces_keep_laws app trace accepted judged;
      messages = runs_keep_messages app accepted judged.run.labels judged.run.allowed;
    }

is_wrong_at : (app : App) (trace : Trace) (i number : ℕ) → number ≡ i + 1 → FailsAt app trace.items i
    → IsWrongAt app trace number
is_wrong_at app trace i number is h = record {
  before = i;
  number_is = omega (arith, is);
  right = λ n le. judged_fronts app trace i n h.right le;
  wrong = inl (h.within, λ judged. h.wrong (right_items app (front (suc i) trace) judged));
  not_judged = λ judged. h.wrong (right_front app (suc i) trace.items (right_items app trace judged));
}

is_wrong_total : (app : App) (trace : Trace) (s : AuditorState) (n number : ℕ) → number ≡ length trace.items + 1
    → Follows app trace.items s n → TotalJudged app false s n trace.total → IsWrongAt app trace number
unfolding TotalJudged
is_wrong_total app trace s n number is h wrong = record {
  before = length trace.items;
  number_is = omega (arith, is);
  right = λ k le.
      judged_items app (take k trace.items) None (right_front app k trace.items h.right) tt;
  wrong = inr refl;
  not_judged = λ judged.
      wrong (state_after app (first app) 0 trace.items) h.is
      (subst (λ (m : ℕ). Ends app (state_after app (first app) 0 trace.items) m trace.total) (sym h.steps)
      (right_ends app trace judged));
}

pub finds_wrong : (app : App) (o : Option ℕ) (j : Judge) (index number : ℕ) → j.wrong ≡ Some index
    → number ≡ index + 1 → (xs : List Item) → HasJudged app xs j
    → IsWrongAt app (record { items = xs; total = o }) number
finds_wrong app o j index number is counts xs h =
    is_wrong_at app (record { items = xs; total = o }) index number counts (fails app xs j index is h)

pub finds_right : (app : App) (o : Option ℕ) (j : Judge) → IsAccepted app → j.wrong ≡ None
    → TotalJudged app true j.state (steps_done j.done) o → (xs : List Item) → HasJudged app xs j
    → IsRight app (record { items = xs; total = o })
finds_right app o j accepted is total xs h =
    is_right app (record { items = xs; total = o }) j.state (steps_done j.done) accepted (follows app xs j is h) total

pub finds_wrong_total : (app : App) (o : Option ℕ) (j : Judge) (number : ℕ) → j.wrong ≡ None
    → TotalJudged app false j.state (steps_done j.done) o → number ≡ j.items + 1 → (xs : List Item)
    → HasJudged app xs j → IsWrongAt app (record { items = xs; total = o }) number
finds_wrong_total app o j number is total counts xs h =
    is_wrong_total app (record { items = xs; total = o }) j.state (steps_done j.done) number
    (omega (arith, counts, h.counted)) (follows app xs j is h) total

-- the verdict on the items and the total of a trace is on the trace
pub verdict_of : (app : App) (trace : Trace) (xs : List Item) (o : Option ℕ) (v : Verdict) → xs ≡ trace.items
    → o ≡ trace.total → IsVerdict app (record { items = xs; total = o }) v → IsVerdict app trace v
verdict_of app trace xs o v items total h =
    subst (λ (p : Option ℕ). IsVerdict app (record { items = trace.items; total = p }) v) total
    (subst (λ (ys : List Item). IsVerdict app (record { items = ys; total = o }) v) items h)
