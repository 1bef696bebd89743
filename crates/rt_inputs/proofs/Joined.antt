-- Events and words, some behind others.
use Rattle.std.proofs.Common.{◌≡◌, ◌⊎◌, ◌<◌, ◌^◌, inl, inr, ℕ, suc, cond, List, [], ◌∷◌, ◌++◌, count_by, length}
use Rattle.std.proofs.Common.{Some, None, refl, sym, ap, subst, ◌∙◌, append_assoc, arith}
use Rattle.std.proofs.lemmas.List.Sums.{sum_by-cons}
use Rattle.rt_ids.specs.Event.{Event}
use Rattle.rt_trace.specs.Label.{Label, Arrived, Ticked, Rang, Stepped, items_of}
use Rattle.rt_trace.specs.declared.item.Item.{Item}
use Rattle.rt_trace.specs.declared.item.What.TheVariants as what
use Rattle.rt_app.specs.Tree.{App}
use Rattle.rt_code.specs.Image.{Image}
use Rattle.rt_core.specs.Core.{Core, reset}
use Rattle.rt_core.specs.Trace.{happen}
use Rattle.rt_laws.specs.DeviceWords.{WithWords, One, Puts, ones, things, IsUnused, after_moves}
use Rattle.rt_laws.specs.State.{State, first}
use Rattle.rt_laws.proofs.Beside.{moves_append}
use Rattle.rt_sim.specs.Beside.{core_after_put, core_beside, labels_beside, shown_beside, WordsAreFree}
use Rattle.rt_sim.specs.Good.{is_arming}

pub things_append : {A : Type 0} (xs ys : List (WithWords A)) → things (xs ++ ys) ≡ things xs ++ things ys
things_append [] ys = refl
things_append (One x ∷ xs) ys = ap (λ zs. x ∷ zs) (things_append xs ys)
things_append (Puts n word ∷ xs) ys = things_append xs ys

-- a take behind labels shows no arming
pub take_arms_none : (ls : List Label) (n irq depth : ℕ)
    → count_by (λ (item : Item). is_arming item.what) (items_of n (ls ++ Stepped (Some (what.Take irq depth)) ∷ []))
    ≡ count_by (λ (item : Item). is_arming item.what) (items_of n ls)
take_arms_none [] n irq depth = refl
take_arms_none (Arrived i ∷ ls) n irq depth =
    take_arms_none ls n irq depth
take_arms_none (Ticked ∷ ls) n irq depth =
    take_arms_none ls n irq depth
take_arms_none (Rang ∷ ls) n irq depth =
    take_arms_none ls n irq depth
take_arms_none (Stepped None ∷ ls) n irq depth =
    take_arms_none ls (suc n) irq depth
take_arms_none (Stepped (Some w) ∷ ls) n irq depth =
    let item : Item = record { step = n; what = w } in
    let arms : Item → ℕ = λ item. cond (is_arming item.what) 1 0 in
    let one = sum_by-cons arms item (items_of (suc n) ls) in
    let more = sum_by-cons arms item (items_of (suc n) (ls ++ Stepped (Some (what.Take irq depth)) ∷ [])) in
    let rest = take_arms_none ls (suc n) irq depth in
    omega (arith, one, more, rest)

module _ (app : App) (img : Image) where
  pub core_append : (xs ys : List (WithWords Event)) (c : Core)
      → core_beside app img c (xs ++ ys) ≡ core_beside app img (core_beside app img c xs) ys
  core_append [] ys c = refl
  core_append (One e ∷ xs) ys c = core_append xs ys (happen img c e).0
  core_append (Puts n word ∷ xs) ys c = core_append xs ys (core_after_put app n word c)

  pub labels_append : (xs ys : List (WithWords Event)) (c : Core)
      → labels_beside app img c (xs ++ ys)
      ≡ labels_beside app img c xs ++ labels_beside app img (core_beside app img c xs) ys
  labels_append [] ys c = refl
  labels_append (One e ∷ xs) ys c =
      let next = (happen img c e).0 in
      ap (λ ls. ones (happen img c e).1 ++ ls) (labels_append xs ys next)
      ∙ sym (append_assoc (ones (happen img c e).1) (labels_beside app img next xs)
      (labels_beside app img (core_beside app img next xs) ys))
  labels_append (Puts n word ∷ xs) ys c =
      ap (λ ls. Puts n word ∷ ls) (labels_append xs ys (core_after_put app n word c))

  -- the state of Baker's machine behind events and words
  abbrev pub state_behind : List (WithWords Event) → State
  state_behind moves = after_moves app (first app) (shown_beside app img moves)

  -- a word changes no job
  pub same_jobs : (moves : List (WithWords Event)) (n word : ℕ)
      → (state_behind (moves ++ Puts n word ∷ [])).jobs ≡ (state_behind moves).jobs
  same_jobs moves n word =
      ap (λ ls. (after_moves app (first app) ls).jobs) (labels_append moves (Puts n word ∷ []) (reset img))
      ∙ ap (λ (s : State). s.jobs) (moves_append app (shown_beside app img moves) (Puts n word ∷ []) (first app))

-- what stands in front of a last thing, or is it
not_empty : {A : Type 0} (front behind : List A) (x : A) → front ++ x ∷ behind ≡ [] → ⊥
not_empty [] behind x e = absurd cc
not_empty (f ∷ front) behind x e = absurd cc

last_or_before : {A : Type 0} (front behind before : List A) (x last : A) → front ++ x ∷ behind ≡ before ++ last ∷ []
    → ((front ≡ before) × (x ≡ last)) ⊎ ((rest : List A) × (before ≡ front ++ x ∷ rest))
last_or_before [] [] [] x last e = inl (refl, cc)
last_or_before [] (b ∷ behind) [] x last e = absurd cc
last_or_before [] behind (p ∷ before) x last e = let head : p ≡ x = cc in inr (before, ap (λ y. y ∷ before) head)
last_or_before (f ∷ front) behind [] x last e = let tail : front ++ x ∷ behind ≡ [] = cc in
    absurd (not_empty front behind x tail)
last_or_before (f ∷ front) behind (p ∷ before) x last e =
    let head : p ≡ f = cc in
    let tail : front ++ x ∷ behind ≡ before ++ last ∷ [] = cc in
    elim (last_or_before front behind before x last tail) [
      | inl same ↦ inl (ap (λ y. y ∷ front) (sym head) ∙ ap (λ ys. p ∷ ys) same.0, same.1)
      | inr more ↦ inr (more.0, ap (λ y. y ∷ before) head ∙ ap (λ ys. f ∷ ys) more.1)
    ]

module _ (app : App) (img : Image) where
  -- a word may be put behind these
  abbrev pub MayBePut : List (WithWords Event) → ℕ → ℕ → Type 0
  MayBePut moves n word =
      (n < length app.locals) × (word < 2 ^ 32) × IsUnused app (state_behind app img moves).jobs n

  pub free_event : (moves : List (WithWords Event)) (e : Event) → WordsAreFree app img moves
      → WordsAreFree app img (moves ++ One e ∷ [])
  free_event moves e free front behind n word parts =
      elim (last_or_before front behind moves (Puts n word) (One e) (sym parts)) [
        | inl same ↦ absurd (other_kind n word e same.1)
        | inr more ↦ free front more.0 n word more.1
      ]
    where
      other_kind : (n word : ℕ) (e : Event) → Puts n word ≡ One e → ⊥
      other_kind n word e same = absurd cc

  pub free_word : (moves : List (WithWords Event)) (local value : ℕ) → WordsAreFree app img moves
      → MayBePut moves local value
      → WordsAreFree app img (moves ++ Puts local value ∷ [])
  free_word moves local value free may front behind n word parts =
      elim (last_or_before front behind moves (Puts n word) (Puts local value) (sym parts)) [
        | inl same ↦ last same.0 same.1
        | inr more ↦ free front more.0 n word more.1
      ]
    where
      last : front ≡ moves → ◌≡◌ {A = WithWords Event} (Puts n word) (Puts local value) → MayBePut front n word
      last before same =
          let local_is : local ≡ n = cc in
          let value_is : value ≡ word = cc in
          subst (λ ms. MayBePut ms n word) (sym before)
          (subst (λ v. MayBePut moves n v) value_is (subst (λ l. MayBePut moves l value) local_is may))
