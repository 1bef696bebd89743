-- Frames with other words: which are alike, and what holds of a coupling where the running job's frame has others.
use Rattle.std.proofs.Common.{◌≡◌, ℕ, zero, suc, ◌<◌, List, [], ◌∷◌, length, take, slice_index, refl, sym, ap}
use Rattle.std.proofs.Common.{subst, ◌∙◌, arith}
use Rattle.rt_app.specs.Tree.{App}
use Rattle.rt_code.specs.Image.{Image}
use Rattle.rt_code.specs.Stack.{IsAlikeUpTo}
use Rattle.rt_sim.specs.Inside.Chains.{base_of, is_init, mask_of, Saves}
use Rattle.rt_sim.specs.Inside.Coupling.{Part, Coupling}
use Rattle.rt_sim.specs.Inside.CouplingInvariant.{IsStacked, CouplingInvariant}
use Rattle.rt_sim.specs.Inside.PartInvariant.{StandsBy}
use Rattle.rt_sim.proofs.Plain.{own_kept}

-- words that are the same one by one
pub take_alike : (n : ℕ) (xs ys : List ℕ) → length ys ≡ length xs
    → ((k : ℕ) → k < n → slice_index ys k ≡ slice_index xs k) → take n ys ≡ take n xs
take_alike zero xs ys long same = refl
take_alike (suc n) [] [] long same = refl
take_alike (suc n) [] (y ∷ ys) long same = absurd (omega (arith, long))
take_alike (suc n) (x ∷ xs) [] long same = absurd (omega (arith, long))
take_alike (suc n) (x ∷ xs) (y ∷ ys) long same =
    let head : y ≡ x = same 0 (omega arith) in
    let rest : take n ys ≡ take n xs =
    take_alike n xs ys (omega (arith, long)) (λ k less. same (suc k) (omega (arith, less))) in
    ap (λ z. z ∷ take n ys) head ∙ ap (λ zs. x ∷ zs) rest

take_all : (xs : List ℕ) → take (length xs) xs ≡ xs
take_all [] = refl
take_all (x ∷ xs) = ap (λ ys. x ∷ ys) (take_all xs)

-- a frame that is alike in all its words is the same
pub alike_all : (xs ys : List ℕ) → IsAlikeUpTo (length xs) xs ys → ys ≡ xs
alike_all xs ys alike =
    sym (take_all ys) ∙ ap (λ n. take n ys) alike.0 ∙ alike.1 ∙ take_all xs

pub alike_itself : (n : ℕ) (xs : List ℕ) → IsAlikeUpTo n xs xs
alike_itself n xs = (refl, refl)

pub alike_further : (n : ℕ) (xs ys zs : List ℕ) → IsAlikeUpTo n xs ys → IsAlikeUpTo n ys zs → IsAlikeUpTo n xs zs
alike_further n xs ys zs first second = (second.0 ∙ first.0, second.1 ∙ first.1)

module _ (app : App) (img : Image) (thread : ℕ) where
  -- the coupling with these words in the running job's frame
  abbrev pub with_words : List ℕ → Coupling → Coupling
  with_words slots m = record m { running = record m.running { slots = slots } }

  stack_words : (p : Part) (ps : List Part) (slots : List ℕ) → length slots ≡ length p.slots → p.held ≡ []
      → IsStacked app img thread p ps → IsStacked app img thread (record p { slots = slots }) ps
  stack_words p [] slots long closed is = record {
    frame = long ∙ is.frame;
    own_frame = is.own_frame;
    role = is.role;
    greatest = is.greatest;
    saves = subst (λ held. Saves app slots held 0 (is_init p.role)) (sym closed) tt;
  }
  stack_words p (q ∷ ps) slots long closed stack = (
    record {
      irq = stack.0.irq;
      serves = stack.0.serves;
      above = stack.0.above;
      most = stack.0.most;
      apart = stack.0.apart;
      unmasked = stack.0.unmasked;
      handled = stack.0.handled;
      frame = omega (arith, long, stack.0.frame);
      saves = subst (λ held. Saves app slots held (base_of app q ps) (mask_of app q ps)) (sym closed) tt;
    },
    stack.1,
  )

  -- the invariant, where no section is open and the code stands with these words too
  pub invariant_words : (m : Coupling) (slots : List ℕ) → CouplingInvariant app img thread m → m.running.held ≡ []
      → length slots ≡ length m.running.slots
      → StandsBy app img thread m.running.role m.cells m.queues (record m.running { slots = slots })
      → CouplingInvariant app img thread (with_words slots m)
  invariant_words m slots invariant closed long stands = record {
    stack = stack_words m.running m.below slots long closed invariant.stack;
    parts = (
      record {
        stands = stands;
        agrees = invariant.parts.0.agrees;
        counted = invariant.parts.0.counted;
        respects = invariant.parts.0.respects;
        opened = invariant.parts.0.opened;
        kinds = invariant.parts.0.kinds;
        once = invariant.parts.0.once;
        calls = invariant.parts.0.calls;
        own = own_kept m.running.caller m.running.slots slots long ∙ invariant.parts.0.own;
      },
      invariant.parts.1,
    );
    represented = invariant.represented;
    basepri = invariant.basepri;
    primask = invariant.primask;
    memory = invariant.memory;
    once = invariant.once;
    numbers = invariant.numbers;
    alarmed = invariant.alarmed;
  }
