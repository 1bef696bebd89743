-- The one that is taken first is one alone, and it is the one of the least key.
use Rattle.std.proofs.Common.{◌≡◌, ◌≢◌, ℕ, ◌+◌, ◌*◌, ◌%◌, ◌<◌, ◌≤◌, ◌^◌, min, ◌⊎◌, inl, inr, Bool, true, false, List}
use Rattle.std.proofs.Common.{length, length-set}
use Rattle.std.proofs.Common.{get_or, set, replicate, Option, Some, None, unwrap_or, IsSome, refl}
use Rattle.std.proofs.Common.{sym, ap, subst, ◌∙◌, ⊎_elim, arith, get_or-set_same, get_or-set_other}
use Rattle.std.proofs.lemmas.Bool.{cases_lt}
use Rattle.std.proofs.lemmas.List.{get_or-replicate, length-replicate}
use native.Mathlib.Decide.{ℕ_discrete}
use Rattle.rt_ids.specs.Lists.{numbers_below}
use Rattle.rt_ids.specs.declared.limits.TheConstants.{IRQ_NUMBERS, THREAD_VALUE}
use Rattle.rt_nvic.specs.declared.sizes.TheConstants.{ACTIVE, LEAVES, NO_KEY, NODES, WORDS}
use Rattle.rt_nvic.specs.Nvic.{Nvic, IsSized, priority_value, priority_of, is_pending, picked_irq, IsReady}
use Rattle.rt_nvic.specs.Inside.Bits.{flags}
use Rattle.rt_nvic.specs.Inside.Fields.{IsKept}
use Rattle.rt_nvic.specs.Inside.Keys.{key, leaf, IsTournament, HasKeys}
use Rattle.rt_nvic.proofs.Choosing.{chosen}
use Rattle.rt_nvic.proofs.Fitting.{shown, sized, number_of_ready}
use Rattle.rt_nvic.proofs.Flags.{get_or-same, length-flags, flags_none}
use Rattle.rt_nvic.proofs.Precedence.{IsChoice, choice}
use Rattle.rt_nvic.proofs.Tournament.{least, key_of_first}

one_of_two : (v w i j : ℕ) → (v < w) ⊎ ((v ≡ w) × (i ≤ j)) → (w < v) ⊎ ((w ≡ v) × (j ≤ i)) → i ≡ j
one_of_two v w i j (inl a) (inl b) = absurd (omega arith)
one_of_two v w i j (inl a) (inr b) = absurd (omega arith)
one_of_two v w i j (inr a) (inl b) = absurd (omega arith)
one_of_two v w i j (inr a) (inr b) = omega arith

-- there is one choice
same_choice : (n : Nvic) (exec count : ℕ) (a b : Option ℕ) → IsChoice n exec count a → IsChoice n exec count b → a ≡ b
same_choice n exec count None None x y = refl
same_choice n exec count None (Some j) x y = absurd (x j y.0 y.1)
same_choice n exec count (Some i) None x y = absurd (y i x.0 x.1)
same_choice n exec count (Some i) (Some j) x y =
    ap Some (one_of_two (priority_value n i) (priority_value n j) i j (x.2 j y.0 y.1) (y.2 i x.0 x.1))

chosen_from : (n : Nvic) (exec : ℕ) (o : Option ℕ) → IsChoice n exec IRQ_NUMBERS o → o ≡ picked_irq n exec
chosen_from n exec o is = same_choice n exec IRQ_NUMBERS o (chosen n exec (numbers_below IRQ_NUMBERS)) is
    (choice n exec IRQ_NUMBERS)

-- the key of one that is ready
key_ready : (number : ℕ) (o : Option ℕ) (p : Bool) → p ≡ true → IsSome o → key number o p
    ≡ unwrap_or o THREAD_VALUE * LEAVES + number
key_ready number None p h is = cc
key_ready number (Some value) false h is = cc
key_ready number (Some value) true h is = refl

-- and whose key is below that of one that is not
low_pending : (number : ℕ) (o : Option ℕ) (p : Bool) → key number o p < NO_KEY → p ≡ true
low_pending number None p h = absurd (omega arith)
low_pending number (Some value) false h = absurd (omega arith)
low_pending number (Some value) true h = refl

low_enabled : (number : ℕ) (o : Option ℕ) (p : Bool) → key number o p < NO_KEY → IsSome o
low_enabled number None p h = absurd (omega arith)
low_enabled number (Some value) p h = refl

-- keys are in the order of values and numbers
by_keys : (a b i j : ℕ) → a * LEAVES + i ≤ b * LEAVES + j → i < LEAVES → j < LEAVES → (a < b) ⊎ ((a ≡ b) × (i ≤ j))
by_keys a b i j l x y = ⊎_elim (λ less. inl less) (λ more. inr (omega arith, omega arith)) (cases_lt a b)

module _ (n : Nvic) (exec : ℕ) (nodes : List ℕ) (sizes : IsSized n) (small : exec < 2 ^ 16) (is : IsTournament nodes)
    (keys : HasKeys n.priorities n.pending nodes) where
  key_of : (irq : ℕ) → irq < LEAVES → IsReady n exec irq → leaf nodes irq ≡ priority_value n irq * LEAVES + irq
  key_of irq l r = keys.each irq l ∙ key_ready irq (priority_of n irq) (is_pending n irq) r.pending r.enabled

  ready_of : (irq : ℕ) → irq < LEAVES → leaf nodes irq < exec * LEAVES → IsReady n exec irq
  ready_of irq l low =
      let e = keys.each irq l in
      let h : key irq (priority_of n irq) (is_pending n irq) < NO_KEY = omega arith in
      let p = low_pending irq (priority_of n irq) (is_pending n irq) h in
      let s = low_enabled irq (priority_of n irq) (is_pending n irq) h in
      let v : leaf nodes irq ≡ priority_value n irq * LEAVES + irq =
      keys.each irq l ∙ key_ready irq (priority_of n irq) (is_pending n irq) p s in
      record { pending = p; enabled = s; higher = omega arith }

  first_of : (irq : ℕ) → irq < LEAVES → leaf nodes irq ≡ get_or nodes 1 0 → IsReady n exec irq
      → IsChoice n exec IRQ_NUMBERS (Some irq)
  first_of irq l e r = (
    number_of_ready n exec irq sizes r,
    r,
    λ other low s.
        let within : other < LEAVES = omega arith in
        let here = key_of irq l r in
        let there = key_of other within s in
        let before = least nodes other within is in
        by_keys (priority_value n irq) (priority_value n other) irq other (omega arith) l within,
  )

  pub none_of : exec * LEAVES ≤ get_or nodes 1 0 → None ≡ picked_irq n exec
  none_of h = chosen_from n exec None
      (λ irq low r.
      let within : irq < LEAVES = omega arith in
      let there = key_of irq within r in
      let before = least nodes irq within is in
      let higher = r.higher in
      omega arith)

  number_at : (irq : ℕ) → irq < LEAVES → leaf nodes irq ≡ get_or nodes 1 0 → get_or nodes 1 0 < exec * LEAVES
      → get_or nodes 1 0 % LEAVES < IRQ_NUMBERS
  number_at irq l same h =
      let r = ready_of irq l (omega arith) in
      let here = key_of irq l r in
      let low = number_of_ready n exec irq sizes r in
      omega arith

  -- the number in the first key, where it is low enough, is one of an interrupt
  pub number_of_first : get_or nodes 1 0 < exec * LEAVES → get_or nodes 1 0 % LEAVES < IRQ_NUMBERS
  number_of_first h = let first = key_of_first nodes is in number_at first.number first.within first.same h

  one_at : (irq : ℕ) → irq < LEAVES → leaf nodes irq ≡ get_or nodes 1 0 → get_or nodes 1 0 < exec * LEAVES
      → Some (get_or nodes 1 0 % LEAVES) ≡ picked_irq n exec
  one_at irq l same h =
      let r = ready_of irq l (omega arith) in
      let here = key_of irq l r in
      let low = number_of_ready n exec irq sizes r in
      let number : get_or nodes 1 0 % LEAVES ≡ irq = omega arith in
      ap Some number ∙ chosen_from n exec (Some irq) (first_of irq l same r)

  pub one_of : get_or nodes 1 0 < exec * LEAVES → Some (get_or nodes 1 0 % LEAVES) ≡ picked_irq n exec
  one_of h = let first = key_of_first nodes is in one_at first.number first.within first.same h

-- the keys of the interrupts, where one changed

changed_by : (priorities after : List (Option ℕ)) (pending later : List Bool) (nodes left : List ℕ) (irq j : ℕ)
    → Dec (j ≡ irq) → j < LEAVES → HasKeys priorities pending nodes
    → leaf left irq ≡ key irq (get_or after irq None) (get_or later irq false)
    → ((j : ℕ) → j ≢ irq → leaf left j ≡ leaf nodes j)
    → ((j : ℕ) → j ≢ irq → get_or after j None ≡ get_or priorities j None)
    → ((j : ℕ) → j ≢ irq → get_or later j false ≡ get_or pending j false)
    → leaf left j ≡ key j (get_or after j None) (get_or later j false)
changed_by priorities after pending later nodes left irq j (yes e) l is here keys values flags =
    let P : ℕ → Type 0 = λ k. leaf left k ≡ key k (get_or after k None) (get_or later k false) in
    subst P (sym e) here
changed_by priorities after pending later nodes left irq j (no ne) l is here keys values flags =
    keys j ne
    ∙ is.each j l
    ∙ ap (λ (o : Option ℕ). key j o (get_or pending j false)) (sym (values j ne))
    ∙ ap (λ (p : Bool). key j (get_or after j None) p) (sym (flags j ne))

module _ (priorities : List (Option ℕ)) (pending : List Bool) (nodes left : List ℕ) (irq : ℕ)
    (is : HasKeys priorities pending nodes)
    (others : (j : ℕ) → j ≢ irq → leaf left j ≡ leaf nodes j) where
  -- whether it is pending
  pub keys_pended : (b : Bool) → irq < length pending → leaf left irq ≡ key irq (get_or priorities irq None) b
      → HasKeys priorities (set pending irq b) left
  keys_pended b l here =
      let same = get_or-set_same pending irq b false l in
      record {
        each = λ j low. changed_by priorities priorities pending (set pending irq b) nodes left irq j (ℕ_discrete j irq)
            low is (here ∙ ap (key irq (get_or priorities irq None)) (sym same)) others (λ k ne. refl)
            (λ k ne. get_or-set_other pending irq k b false ne);
      }

  -- its priority value
  pub keys_enabled : (o : Option ℕ) → irq < length priorities → leaf left irq ≡ key irq o (get_or pending irq false)
      → HasKeys (set priorities irq o) pending left
  keys_enabled o l here =
      let same = get_or-set_same priorities irq o None l in
      record {
        each = λ j low. changed_by priorities (set priorities irq o) pending pending nodes left irq j (ℕ_discrete j irq)
            low is (here ∙ ap (λ (o : Option ℕ). key irq o (get_or pending irq false)) (sym same)) others
            (λ k ne. get_or-set_other priorities irq k o None ne) (λ k ne. refl);
      }

-- what is taken, from what the fields keep

module _ (priorities : List (Option ℕ)) (pending active : List ℕ) (top : ℕ) (nodes : List ℕ) (n : Nvic)
    (e : shown priorities pending active top ≡ n) (is : IsKept priorities pending active top nodes) where
  pub sizes_of : IsSized n
  sizes_of = subst IsSized e (sized priorities pending active top is.fixed)

  keys_of : HasKeys n.priorities n.pending nodes
  keys_of = let P : Nvic → Type 0 = λ n. HasKeys n.priorities n.pending nodes in subst P e is.keys

  pub then_within : (exec : ℕ) → exec < 2 ^ 16 → get_or nodes 1 0 < exec * LEAVES
      → get_or nodes 1 0 % LEAVES < IRQ_NUMBERS
  then_within exec small h = number_of_first n exec nodes sizes_of small is.tournament keys_of h

  pub then_picked : (exec : ℕ) → exec < 2 ^ 16 → get_or nodes 1 0 < exec * LEAVES
      → Some (get_or nodes 1 0 % LEAVES) ≡ picked_irq n exec
  then_picked exec small h = one_of n exec nodes sizes_of small is.tournament keys_of h

  pub none_picked : (exec : ℕ) → exec < 2 ^ 16 → exec * LEAVES ≤ get_or nodes 1 0 → None ≡ picked_irq n exec
  none_picked exec small h = none_of n exec nodes sizes_of small is.tournament keys_of h

-- what the fields keep, after each change

-- a request or an entry
pub kept_pended : (priorities : List (Option ℕ)) (pending later active beside : List ℕ) (top more : ℕ)
    (nodes left : List ℕ) (irq : ℕ) (b : Bool) → irq < IRQ_NUMBERS → IsKept priorities pending active top nodes
    → length later ≡ length pending → flags later ≡ set (flags pending) irq b → length beside ≡ length active
    → more ≤ ACTIVE → length left ≡ NODES → IsTournament left → leaf left irq ≡ key irq (get_or priorities irq None) b
    → ((j : ℕ) → j ≢ irq → leaf left j ≡ leaf nodes j) → IsKept priorities later beside more left
kept_pended priorities pending later active beside top more nodes left irq b l is long now same within nodes_long
    tournament here others =
    let fixed = is.fixed in
    let flags_long = length-flags pending in
    let inside : irq < length (flags pending) = omega arith in
    let P : List Bool → Type 0 = λ flags. HasKeys priorities flags left in
    record {
      fixed = record {
        priorities_long = fixed.priorities_long;
        pending_long = long ∙ fixed.pending_long;
        active_long = same ∙ fixed.active_long;
        top_within = within;
      };
      nodes_long = nodes_long;
      tournament = tournament;
      keys = subst P (sym now) (keys_pended priorities (flags pending) nodes left irq is.keys others b inside here);
    }

-- a priority value
pub kept_enabled : (priorities : List (Option ℕ)) (pending active : List ℕ) (top : ℕ) (nodes left : List ℕ) (irq : ℕ)
    (o : Option ℕ) → irq < IRQ_NUMBERS → IsKept priorities pending active top nodes → length left ≡ NODES
    → IsTournament left → leaf left irq ≡ key irq o (get_or (flags pending) irq false)
    → ((j : ℕ) → j ≢ irq → leaf left j ≡ leaf nodes j) → IsKept (set priorities irq o) pending active top left
kept_enabled priorities pending active top nodes left irq o l is nodes_long tournament here others =
    let fixed = is.fixed in
    let long = fixed.priorities_long in
    let inside : irq < length priorities = omega arith in
    record {
      fixed = record {
        priorities_long = length-set priorities irq o ∙ long;
        pending_long = fixed.pending_long;
        active_long = fixed.active_long;
        top_within = fixed.top_within;
      };
      nodes_long = nodes_long;
      tournament = tournament;
      keys = keys_enabled priorities (flags pending) nodes left irq is.keys others o inside here;
    }

-- where nothing is pending

pub key_not_pending : (number : ℕ) (o : Option ℕ) → NO_KEY ≡ key number o false
key_not_pending number None = refl
key_not_pending number (Some value) = refl

same_three : (a b c v : ℕ) → a ≡ v → b ≡ v → c ≡ v → a ≡ min b c
same_three a b c v x y z = omega arith

no_keys : IsTournament (replicate NODES NO_KEY)
no_keys = record {
  each = λ i some low. same_three _ _ _ NO_KEY (get_or-replicate NODES i NO_KEY 0 (omega arith))
      (get_or-replicate NODES (2 * i) NO_KEY 0 (omega arith))
      (get_or-replicate NODES (2 * i + 1) NO_KEY 0 (omega arith));
}

none_has_a_key : (priorities : List (Option ℕ)) → HasKeys priorities (replicate IRQ_NUMBERS false)
    (replicate NODES NO_KEY)
none_has_a_key priorities = record {
  each = λ j low.
      get_or-replicate NODES (LEAVES + j) NO_KEY 0 (omega arith)
      ∙ key_not_pending j (get_or priorities j None)
      ∙ ap (key j (get_or priorities j None)) (sym (get_or-same IRQ_NUMBERS j false));
}

pub kept_cleared : (priorities : List (Option ℕ)) (active : List ℕ) → length priorities ≡ IRQ_NUMBERS
    → length active ≡ ACTIVE
    → IsKept priorities (replicate WORDS 0) active ACTIVE (replicate NODES NO_KEY)
kept_cleared priorities active long active_long =
    let P : List Bool → Type 0 = λ flags. HasKeys priorities flags (replicate NODES NO_KEY) in
    record {
      fixed = record {
        priorities_long = long;
        pending_long = length-replicate {A = ℕ} WORDS 0;
        active_long = active_long;
        top_within = omega arith;
      };
      nodes_long = length-replicate {A = ℕ} NODES NO_KEY;
      tournament = no_keys;
      keys = subst P (sym flags_none) (none_has_a_key priorities);
    }
