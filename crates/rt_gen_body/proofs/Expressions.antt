-- The code of an expression leaves its value in a slot, and statements without blocks do their action, or change their
-- variable or resource, within their steps.
use Rattle.rt_gen_queue.proofs.Vocabulary.{Agree, Assign, Bool, Clocks, Contains, Emit, Expression, Guarded, HasCodeAt}
use Rattle.rt_gen_queue.proofs.Vocabulary.{OpenSection, Location, Instr, IsChangeable, Line, List, Num, Number, Oper}
use Rattle.rt_gen_queue.proofs.Vocabulary.{Own, Pend}
use Rattle.rt_gen_queue.proofs.Vocabulary.{Read, Some, Values, [], ap, arith, does, eqb-true, expression_steps, false}
use Rattle.rt_gen_queue.proofs.Vocabulary.{get_or-set_other, get_or-set_same, inl, inr, irq_number, length}
use Rattle.rt_gen_queue.proofs.Vocabulary.{length-append, length-set, nat_tests, number, operate, or_left, or_zero}
use Rattle.rt_gen_queue.proofs.Vocabulary.{owns, plain, refl, values_with}
use Rattle.rt_gen_queue.proofs.Vocabulary.{run, slice_get, slice_index, slice_set, storage, subst, suc, sym, true}
use Rattle.rt_gen_queue.proofs.Vocabulary.{value_in, ℕ, ◌++◌, ◌+◌, ◌<◌, ◌==◌, ◌∙◌, ◌∷◌, ◌≡◌, ◌≢◌, ◌≤◌, ◌⊎◌}
use Rattle.std.proofs.lemmas.Grind.{get_or-set_at}
use Rattle.rt_ids.specs.declared.ids.Section.TheVariants as section
use Rattle.rt_app.specs.{Accepted.AreMeant, Accepted.IsMeant, Frame.expression_depth, Meaning.Later, Sound.AreReached}
use Rattle.rt_app.specs.{Sound.IsReached, declared.expr.Atom.Atom}
use Rattle.rt_app.specs.declared.expr.Atom.TheVariants as atom
use Rattle.rt_code.specs.declared.instr.Instr.TheVariants as instr
use Rattle.rt_gen_queue.proofs.Layer.{Gives, Here, IsFree, S, calc_gives, clocks_here, copy_gives, emits_here, goes}
use Rattle.rt_gen_queue.proofs.Layer.{load_gives, posts_here, set_gives, store_gives}
use Rattle.rt_gen_queue.proofs.Placing.{code_behind}
use Rattle.rt_gen_body.proofs.Owning.{HasCell, OpenAre, local_cell, reads_cell, resource_cell, represented_agreed}
use Rattle.rt_gen_body.proofs.Owning.{represented_put, writes_cell}
use Rattle.rt_gen_body.proofs.Scopes.{IsAboutToRun, Behind, Body, Inside, Knows, Performs, Scope, free_slot, front_of}
use Rattle.rt_gen_body.proofs.Scopes.{goes_behind, listed_by, named, sooner, still_behind}
use Rattle.rt_gen_body.proofs.Storing.{local_owned, resource_owned, resource_read}
use Rattle.rt_gen_body.specs.SimpleCode.{assign_code, emit_code}
use Rattle.rt_gen_body.specs.ValueCode.{Context, expression_code, next_slot, value_code}

-- A value has come into a slot; but for it, all slots below those that were free and from the top on are as before.
pub record Evaluated (slot free top result : ℕ) (before after : List ℕ) : Type 0 where
  pub long : length after ≡ length before
  pub value : slice_index after slot ≡ result
  pub below : (i : ℕ) → i < free → i ≢ slot → slice_index after i ≡ slice_index before i
  pub above : (i : ℕ) → top ≤ i → i ≢ slot → slice_index after i ≡ slice_index before i

pub evaluated_at : {slot free top value : ℕ} {slots : List ℕ} → slot < length slots
    → Evaluated slot free top value slots (slice_set slots slot value)
evaluated_at {slot = slot} {value = value} {slots = slots} there = record {
  long = length-set slots slot value;
  value = get_or-set_same slots slot value 0 there;
  below = λ i less other. get_or-set_other slots slot i value 0 other;
  above = λ i high other. get_or-set_other slots slot i value 0 other;
}

-- Where a value may come: below its free slots, or above those that masks are saved in. What is in scope
-- is below it and below them.
pub record Target (b : Body) (p : Scope) (slot free : ℕ) : Type 0 where
  pub target : ((slot < free) × (slot < b.top)) ⊎ (p.lock ≤ slot)
  pub there : slot < b.words
  pub low : b.c.expressions ≤ slot
  pub floor : b.c.expressions ≤ free

pub one_deep : (e : Expression) → 1 ≤ expression_depth e
one_deep (Num n) = omega arith
one_deep (Read x at) = omega arith
one_deep (Oper o left right) = omega arith

-- the cell of a local resource
pub local_at : (b : Body) (n : ℕ) → n < length b.z.app.locals → HasCell b.z.app (Own n) (b.c.locals + n)
local_at b n within =
    subst (λ (c : Context). HasCell b.z.app (Own n) (c.locals + n)) (sym b.facts.is) (local_cell b.z.app n within)

target_free : {b : Body} {p : Scope} {slot free : ℕ} → Target b p slot free → (slot < b.top) ⊎ (p.lock ≤ slot)
target_free t = elim t.target [ inl below ↦ inl below.1 | inr above ↦ inr above ]

-- the left side of an operation is kept while the right side is evaluated
left_kept : {b : Body} {p : Scope} {slot free value : ℕ} {before after : List ℕ} → Target b p slot free
    → b.top ≤ p.lock → free < b.top → next_slot free ≡ free + 1
    → Evaluated free (next_slot free) b.top value before after → slice_index after slot ≡ slice_index before slot
left_kept {slot = slot} {free = free} t order inside next is = elim t.target [
  | inl below ↦ (let less = below.0 in is.below slot (omega arith) (λ (e : slot ≡ free). omega arith))
  | inr above ↦ is.above slot (omega arith) (λ (e : slot ≡ free). omega arith)
]

-- an expression that may be evaluated here
pub record Sound (b : Body) (p : Scope) (e : Expression) : Type 0 where
  pub deep : b.c.expressions + expression_depth e ≤ b.top
  pub reached : AreReached b.z.app b.m p.locked e
  pub meant : AreMeant b.z.app (listed_by b.m) p.visible e

-- what is correct where a value has come into a slot, after so many lines
abbrev pub Follows : Body → Here → (steps size slot free value : ℕ) → Type 0
Follows b h steps size slot free value =
    (done at : ℕ) (after : List ℕ) → done ≡ h.done + steps → at ≡ h.at + size
    → Evaluated slot free b.top value h.slots after → S b.z (record h { done = done; slots = after; at = at })

module _ {b : Body} {p : Scope} {h : Here} {lines : List Line} {cost : ℕ} {vars : List ℕ} {vs : Values} where
  -- What is known is known still, where slots differ where nothing in scope is.
  pub still_known : {after : List ℕ} → length after ≡ length h.slots
      → ((x : ℕ) → x < b.c.expressions → slice_index after x ≡ slice_index h.slots x)
      → IsAboutToRun b p h lines cost vars vs → Knows b h.held p.visible after h.cells vars vs
  still_known long same begins = record {
    in_slots = λ x here.
        same x (omega (arith, begins.inside.below x here, begins.inside.room)) ∙ begins.known.in_slots x here;
    in_cells = begins.known.in_cells;
    long = begins.known.long;
    frame = long ∙ begins.known.frame;
    variables = begins.known.variables;
  }

  -- and other lines begin there
  pub next_begins : {few done at : ℕ} {after : List ℕ} {more : List Line} → HasCodeAt b.z.code at more
      → done + few ≤ h.done + cost → length after ≡ length h.slots
      → ((x : ℕ) → x < b.c.expressions → slice_index after x ≡ slice_index h.slots x)
      → IsAboutToRun b p h lines cost vars vs
      → IsAboutToRun b p (record h { done = done; slots = after; at = at }) more few vars vs
  next_begins has less long same begins = record {
    has = has;
    time = sooner less begins;
    known = still_known long same begins;
    inside = begins.inside;
  }

module _ {b : Body} {p : Scope} {h : Here} {vars : List ℕ} {vs : Values} where
  -- an expression of one line
  one_line : {i : Instr} {slot free value : ℕ} → Target b p slot free → IsAboutToRun b p h (plain i ∷ []) 1 vars vs
      → (slot < length h.slots → IsFree h.held slot
      → Gives b.z h i (slice_set h.slots slot value) (suc h.at) h.cells) → Follows b h 1 1 slot free value → S b.z h
  one_line {slot = slot} {value = value} t begins gives on =
      let there : slot < length h.slots = omega (arith, t.there, begins.known.frame) in
      goes begins.has.0 (sooner (omega arith) begins) (gives there (free_slot slot (target_free t) begins.inside))
      (on (suc h.done) (suc h.at) (slice_set h.slots slot value) (omega arith) (omega arith) (evaluated_at there))

pub evaluates : {b : Body} {p : Scope} (e : Expression) {h : Here} {vars : List ℕ} {vs : Values} {slot free : ℕ}
    → Target b p slot free → free + expression_depth e ≤ suc b.top → AreReached b.z.app b.m p.locked e
    → AreMeant b.z.app (listed_by b.m) p.visible e
    → IsAboutToRun b p h (expression_code b.c e slot free) (expression_steps e) vars vs
    → Follows b h (expression_steps e) (length (expression_code b.c e slot free)) slot free (value_in vars vs e)
    → S b.z h
evaluates (Num v) t deep reached meant begins on = one_line t begins (λ there free. set_gives there free) on
evaluates (Read (atom.Var x) offset) {vars = vars} t deep reached meant begins on =
    let below = begins.inside.below x meant in
    one_line t begins
    (λ there free. copy_gives (slice_index vars x) there (omega (arith, t.low, begins.inside.room)) free
    (begins.known.in_slots x meant)) on
evaluates {b = b} {p = p} (Read (atom.Shared r) offset) {h = h} {vs = vs} t deep reached meant begins on =
    one_line t begins
    (λ there free. load_gives (number (vs (Guarded (section.Res r)))) there free
    (reads_cell (resource_cell b.z.app r meant) (resource_read b.facts h.held p.locked r begins.inside.are reached)
    begins.known.long begins.known.in_cells)) on
evaluates {b = b} {p = p} (Read (atom.Local n) offset) {h = h} {vs = vs} t deep reached meant begins on =
    one_line t begins
    (λ there free. load_gives (number (vs (Own n))) there free
    (reads_cell (local_at b n meant.0) (or_left _ _ (local_owned b.facts h.held p.locked n reached))
    begins.known.long begins.known.in_cells)) on
evaluates {b = b} {p = p} (Oper op left right) {h = h} {vars = vars} {vs = vs} {slot = slot} {free = free} t deep
    reached meant begins on =
    let left_code : List Line = expression_code b.c left slot free in
    let right_code : List Line = expression_code b.c right free (next_slot free) in
    let last : List Line = plain (instr.Calc op slot slot free) ∷ [] in
    let one = one_deep left in let two = one_deep right in
    let inside : free < b.top = omega arith in
    let order = begins.inside.low in
    let top : b.top ≤ b.words = omega (arith, b.masks, b.spawns) in
    let next : next_slot free ≡ free + 1 = omega (arith, top, b.word) in
    let from : free < length h.slots = omega (arith, begins.known.frame) in
    let there : slot < length h.slots = omega (arith, t.there, begins.known.frame) in
    evaluates left t (omega arith) reached.0 meant.0
    (front_of left_code (right_code ++ last) (omega arith) begins)
    (λ done1 at1 s1 done1_is at1_is first.
    let has1 : HasCodeAt b.z.code at1 (right_code ++ last) =
    code_behind b.z.code h.at at1 left_code (right_code ++ last) at1_is begins.has in
    evaluates right
    (record { target = inl (omega arith, inside); there = omega arith; low = t.floor; floor = omega (arith, t.floor) })
    (omega arith) reached.1 meant.1
    (front_of right_code last (omega arith)
    (next_begins {few = expression_steps right + 1} has1 (omega arith) first.long
    (λ x less. first.below x (omega (arith, t.floor)) (λ (e : x ≡ slot). omega (arith, t.low))) begins))
    (λ done2 at2 s2 done2_is at2_is second.
    let value : ℕ = value_in vars vs (Oper op left right) in
    let long : length s2 ≡ length h.slots = second.long ∙ first.long in
    let left_is : slice_index s2 slot ≡ value_in vars vs left = left_kept t order inside next second ∙ first.value in
    goes (code_behind b.z.code at1 at2 right_code last at2_is has1).0 (sooner (omega arith) begins)
    (calc_gives value (omega arith) (omega arith) (omega arith) (free_slot _ (target_free t) begins.inside)
    (ap (λ x. operate op x (slice_index s2 free)) left_is ∙ ap (operate op (value_in vars vs left)) second.value))
    (on (suc done2) (suc at2) (slice_set s2 slot value) (omega arith)
    (omega (arith, length-append left_code (right_code ++ last), length-append right_code last))
    (record {
      long = length-set s2 slot value ∙ long;
      value = get_or-set_same s2 slot value 0 (omega arith);
      below = λ i less other. get_or-set_other s2 slot i value 0 other
          ∙ second.below i (omega arith) (λ (e : i ≡ free). omega arith) ∙ first.below i less other;
      above = λ i high other. get_or-set_other s2 slot i value 0 other
          ∙ second.above i high (λ (e : i ≡ free). omega arith) ∙ first.above i high other;
    }))))

-- the value of an expression is in the first slot for expressions, with these slots
abbrev pub valued : Body → Here → Expression → List ℕ → Here
valued b h e slots =
    record h { done = h.done + expression_steps e; slots = slots; at = h.at + length (value_code b.c e) }

-- It comes there, and the lines after it begin.
pub with_value : {b : Body} {p : Scope} {visible : List ℕ} {h : Here} {lines : List Line} {vars : List ℕ} {vs : Values}
    {total : ℕ} {later : Later} (e : Expression) (cost : ℕ) → expression_steps e + cost ≤ total → Sound b p e
    → IsAboutToRun b p h (value_code b.c e ++ lines) total vars vs
    → Behind b p visible h (length (value_code b.c e ++ lines)) total later
    → ((slots : List ℕ) → b.c.expressions < length slots → slice_index slots b.c.expressions ≡ value_in vars vs e
    → IsAboutToRun b p (valued b h e slots) lines cost vars vs
    → Behind b p visible (valued b h e slots) (length lines) cost later → S b.z (valued b h e slots)) → S b.z h
with_value {b = b} {p = p} {h = h} {lines = lines} e cost less sound begins behind on =
    let test : List Line = value_code b.c e in
    let some = one_deep e in let deep = sound.deep in
    let top : b.top ≤ b.words = omega (arith, b.masks, b.spawns) in
    let next : next_slot b.c.expressions ≡ b.c.expressions + 1 = omega (arith, b.word) in
    evaluates e
    (record { target = inl (omega arith, omega arith); there = omega arith; low = omega arith; floor = omega arith })
    (omega arith) sound.reached sound.meant (front_of test lines (omega arith) begins)
    (λ done at after done_is at_is is.
    let same : (x : ℕ) → x < b.c.expressions → slice_index after x ≡ slice_index h.slots x =
    λ x low. is.below x (omega arith) (λ (e : x ≡ b.c.expressions). omega arith) in
    named done_is at_is refl
    (on after (omega (arith, is.long, begins.known.frame)) is.value
    (next_begins (code_behind b.z.code h.at (h.at + length test) test lines refl begins.has) (omega arith) is.long same
    begins)
    (still_behind behind (omega (arith, length-append test lines)) (omega arith)
    (λ x here. same x (omega (arith, begins.inside.fixed x here, begins.inside.room))))))

-- the same index of two lists gets the same value
both_set : (slots vars : List ℕ) (x v y : ℕ) → x < length slots → x < length vars
    → (y ≢ x → slice_index slots y ≡ slice_index vars y)
    → slice_index (slice_set slots x v) y ≡ slice_index (slice_set vars x v) y
both_set slots vars x v y in_slots in_vars other = go (x == y) refl
  where
    go : (b : Bool) → (x == y) ≡ b → slice_index (slice_set slots x v) y ≡ slice_index (slice_set vars x v) y
    go true e =
        let is : y ≡ x = sym (eqb-true x y e) in
        get_or-set_at slots x y v 0 is in_slots ∙ sym (get_or-set_at vars x y v 0 is in_vars)
    go false e =
        let differ : y ≢ x = grind (arith, nat_tests) in
        get_or-set_other slots x y v 0 differ ∙ other differ ∙ sym (get_or-set_other vars x y v 0 differ)

-- a variable and its slot get a value
pub variable_set : {b : Body} {held : List OpenSection} {visible slots cells vars : List ℕ} {vs : Values} (x v : ℕ)
    (more : List ℕ) → x < b.c.expressions → ((y : ℕ) → Contains more y → (x ≡ y) ⊎ Contains visible y)
    → Knows b held visible slots cells vars vs → Knows b held more (slice_set slots x v) cells (slice_set vars x v) vs
variable_set {b = b} {slots = slots} {vars = vars} x v more small cases known = record {
  in_slots = λ y here.
      both_set slots vars x v y (omega (arith, known.frame, b.floor, b.masks, b.spawns))
      (omega (arith, known.variables))
      (λ differ. elim (cases y here) [ inl is ↦ absurd (differ (sym is)) | inr old ↦ known.in_slots y old ]);
  in_cells = known.in_cells;
  long = known.long;
  frame = length-set slots x v ∙ known.frame;
  variables = length-set vars x v ∙ known.variables;
}

-- values that agree in what may be read
pub known_agreed : {b : Body} {held : List OpenSection} {visible slots cells vars : List ℕ} {vs ws : Values}
    → Agree (storage b.z.app) b.z.who held ws vs → Knows b held visible slots cells vars vs
    → Knows b held visible slots cells vars ws
known_agreed agree known = record {
  in_slots = known.in_slots;
  in_cells = represented_agreed agree known.in_cells;
  long = known.long;
  frame = known.frame;
  variables = known.variables;
}

-- A variable may be set, and then these are in scope: it has a slot, and no loop has it.
pub record Sets (b : Body) (p : Scope) (x : ℕ) (more : List ℕ) : Type 0 where
  pub small : {held : List OpenSection} → Inside b p held → x < b.c.expressions
  pub free : {held : List OpenSection} → Inside b p held → ¬ Contains p.fixed x
  pub cases : (y : ℕ) → Contains more y → (x ≡ y) ⊎ Contains p.visible y

pub kept_set : (b : Body) (p : Scope) (slots : List ℕ) (x v y : ℕ) → ¬ Contains p.fixed x → Contains p.fixed y
    → slice_index (slice_set slots x v) y ≡ slice_index slots y
kept_set b p slots x v y changes here =
    get_or-set_other slots x y v 0 (λ (is : y ≡ x). changes (subst (λ (z : ℕ). Contains p.fixed z) is here))

module _ {b : Body} {p : Scope} where
  -- `let` and assignments to variables
  pub sets_variable : {x : ℕ} {more : List ℕ} (e : Expression) → Sound b p e → Sets b p x more
      → Performs b p more (λ at. value_code b.c e ++ plain (instr.Copy x b.c.expressions) ∷ [])
      (expression_steps e + 1) (λ later vars vs. later (slice_set vars x (value_in vars vs e)) vs)
  sets_variable {x = x} {more = more} e sound sets = record {
    runs = λ {h} {vars} {vs} later begins is behind.
        with_value e 1 (omega arith) sound begins behind
        (λ slots there result begins1 behind1.
        let small = sets.small begins.inside in
        let value : ℕ = value_in vars vs e in
        goes begins1.has.0 (sooner (omega arith) begins1)
        (copy_gives value (omega arith) there (free_slot x (inl (omega (arith, b.floor))) begins.inside) result)
        (named refl refl is
        (goes_behind behind1 (omega arith) (omega arith) (variable_set x value more small sets.cases begins1.known)
        (λ y here. kept_set b p slots x value y (sets.free begins.inside) here))));
  }

  pub emits_value : (e : Expression) → Sound b p e
      → Performs b p p.visible (λ at. emit_code b.c e) (expression_steps e + 1) (run b.z.app (Emit e))
  emits_value e sound = record {
    runs = λ {h} {vars} {vs} later begins is behind.
        with_value e 1 (omega arith) sound begins behind
        (λ slots there result begins1 behind1.
        emits_here (value_in vars vs e) begins1.has.0 (sooner (omega arith) begins1) there result is
        (λ ws agree.
        goes_behind behind1 (omega arith) (omega arith) (known_agreed agree begins1.known) (λ y here. refl)));
  }

  -- a resource, which has a cell, gets a value
  stores_value : (e : Expression) (cell : ℕ) (location : Location) → Sound b p e → HasCell b.z.app location cell
      → ((held : List OpenSection) → OpenAre held p.locked → owns (storage b.z.app) b.z.who held location ≡ true)
      → Performs b p p.visible (λ at. value_code b.c e ++ plain (instr.Store cell b.c.expressions) ∷ [])
      (expression_steps e + 1) (λ later vars vs. later vars (values_with vs location (Number (value_in vars vs e))))
  stores_value e cell location sound has own = record {
    runs = λ {h} {vars} {vs} later begins is behind.
        with_value e 1 (omega arith) sound begins behind
        (λ slots there result begins1 behind1.
        let known = begins1.known in
        let value : ℕ = value_in vars vs e in
        goes begins1.has.0 (sooner (omega arith) begins1)
        (store_gives value there result (writes_cell has (own h.held begins.inside.are) known.long))
        (named refl refl is (goes_behind behind1 (omega arith) (omega arith) (record {
          in_slots = known.in_slots;
          in_cells = represented_put value has known.long known.in_cells;
          long = length-set h.cells cell value ∙ known.long;
          frame = known.frame;
          variables = known.variables;
        }) (λ y here. refl))));
  }

  -- an assignment, to whatever its name stands for
  pub assigns : (x : Atom) (e : Expression) (offset : ℕ) → Sound b p e → IsReached b.z.app b.m p.locked x
      → IsMeant b.z.app (listed_by b.m) p.visible x → IsChangeable b.z.app b.m p.fixed x
      → Performs b p p.visible (λ at. assign_code b.c x e) (expression_steps e + 1) (run b.z.app (Assign x e offset))
  assigns (atom.Var x) e offset sound to meant changes =
      sets_variable e sound
      (record {
        small = λ {held} inside. omega (arith, inside.below x meant, inside.room);
        free = λ {held} inside. changes;
        cases = λ y here. inr here;
      })
  assigns (atom.Shared r) e offset sound to meant changes =
      stores_value e r (Guarded (section.Res r)) sound (resource_cell b.z.app r meant)
      (λ held are. resource_owned b.facts held p.locked p.fixed r are to changes)
  assigns (atom.Local l) e offset sound to meant changes =
      stores_value e (b.c.locals + l) (Own l) sound (local_at b l meant.0)
      (λ held are. local_owned b.facts held p.locked l to)

  pub pends : (i : ℕ) → Performs b p p.visible (λ at. plain (instr.Post (or_zero (irq_number b.c.app i))) ∷ []) 1
      (run b.z.app (Pend i))
  pends i = record {
    runs = λ {h} {vars} {vs} later begins is behind.
        posts_here (subst (λ (irq : ℕ). slice_get b.z.code h.at ≡ Some (plain (instr.Post irq)))
        (ap (λ (c : Context). or_zero (irq_number c.app i)) b.facts.is) begins.has.0)
        (sooner (omega arith) begins) is
        (λ ws agree.
        goes_behind behind (omega arith) (omega arith) (known_agreed agree begins.known) (λ y here. refl));
  }

  -- a variable gets the time
  pub binds_time : {x : ℕ} {more : List ℕ} → Sets b p x more → Performs b p more (λ at. plain (instr.Clock x) ∷ []) 2
      (λ later vars vs. does Clocks vs (λ time. later (slice_set vars x time)))
  binds_time {x = x} {more = more} sets = record {
    runs = λ {h} {vars} {vs} later begins is behind.
        let small = sets.small begins.inside in
        clocks_here begins.has.0 (sooner (omega arith) begins)
        (omega (arith, begins.known.frame, b.floor, b.masks, b.spawns))
        (free_slot x (inl (omega (arith, b.floor))) begins.inside) is
        (λ time ws early agree.
        goes_behind behind (omega arith) (omega arith)
        (variable_set x time more small sets.cases (known_agreed agree begins.known))
        (λ y here. kept_set b p h.slots x time y (sets.free begins.inside) here));
  }
