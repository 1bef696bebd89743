-- What the spawns and the listings of a body raise, seen at one index of each table.
use Rattle.std.proofs.Common.{◌≡◌, ℕ, ◌<◌, ◌==◌, max, Bool, if◌then◌else◌, List, map, length, get_or, slice_get, refl}
use Rattle.std.proofs.Common.{ap, ◌∙◌, arith}
use Rattle.std.specs.List.{fold, list_any}
use Rattle.rt_lemmas.proofs.Lists.{fold_keeps, fold_leaves}
use Rattle.rt_app.specs.declared.body.Listed.{Listed}
use Rattle.rt_app.specs.Tree.{App, Block, Spawn, Soon, After, Cancel, Move}
use Rattle.rt_app.specs.Spawned.{spawns, uses_timer}
use Rattle.rt_app.specs.Level.{is_of_level}
use Rattle.rt_ids.specs.Lists.{is_some_and, greatest}
use Rattle.rt_app.specs.Ceiling.{uses_places_of, readies, arms_level}
use Rattle.rt_ceil.specs.Inside.Tables.{Tables, level_in, mono_priority, tables_after_spawn, tables_after_listing}
use Rattle.rt_ceil.specs.Inside.Tables.{tables_after_body}
use Rattle.rt_ceil.proofs.Greatest.{folded_raises, greatest_any, greatest_both}
use Rattle.rt_ceil.proofs.Raised.{length-raised, length-raised_level, raised_at, raised_level_at, level_in_is}

-- tables with so many resources, tasks and levels
pub record IsSized (resources tasks levels : ℕ) (t : Tables) : Type 0 where
  pub shared : length t.shared ≡ resources
  pub free : length t.free ≡ tasks
  pub ready : length t.ready ≡ levels

pub spawned_keeps : (app : App) (q i j k : ℕ) (t : Tables) (s : Spawn) → IsSized i j k t
    → IsSized i j k (tables_after_spawn app q t s)
spawned_keeps app q i j k t (Soon task args at) h = record {
  shared = h.shared;
  free = length-raised t.free task q ∙ h.free;
  ready = length-raised_level t.ready (level_in (slice_get app.tasks task)) q ∙ h.ready;
}
spawned_keeps app q i j k t (After word delay task args at) h = record {
  shared = h.shared;
  free = length-raised t.free task q ∙ h.free;
  ready = length-raised_level t.ready (level_in (slice_get app.tasks task)) (mono_priority app.mono) ∙ h.ready;
}
spawned_keeps app q i j k t (Cancel word task handle at) h =
    record { shared = h.shared; free = length-raised t.free task q ∙ h.free; ready = h.ready }
spawned_keeps app q i j k t (Move word delay task handle at) h =
    record { shared = h.shared; free = h.free; ready = h.ready }

pub listed_keeps : (q i j k : ℕ) (t : Tables) (l : Listed) → IsSized i j k t
    → IsSized i j k (tables_after_listing q t l)
listed_keeps q i j k t l h = record {
  shared = length-raised t.shared l.resource q ∙ h.shared;
  free = h.free;
  ready =
      h.ready;
}

pub used_keeps : (app : App) (q i j k : ℕ) (ls : List Listed) (block : Block) (t : Tables) → IsSized i j k t
    → IsSized i j k (tables_after_body app q ls block t)
used_keeps app q i j k ls block t h =
    fold_keeps (tables_after_spawn app q) (IsSized i j k) (spawned_keeps app q i j k)
    (fold (tables_after_listing q) t ls) (spawns block)
    (fold_keeps (tables_after_listing q) (IsSized i j k) (listed_keeps q i j k) t ls h)

max_zero : (n : ℕ) → n ≡ max n 0
max_zero n = omega arith

max_zeros : (n : ℕ) → n ≡ max n (max 0 0)
max_zeros n = omega arith

-- a spawn at each table
spawned_free : (app : App) (q n i j k : ℕ) → n < j → (t : Tables) (s : Spawn) → IsSized i j k t
    → get_or (tables_after_spawn app q t s).free n 0 ≡ max (get_or t.free n 0) (if uses_places_of n s then q else 0)
spawned_free app q n i j k b t (Soon task args at) h = raised_at t.free task q n (omega (arith, h.free))
spawned_free app q n i j k b t (After word delay task args at) h = raised_at t.free task q n (omega (arith, h.free))
spawned_free app q n i j k b t (Cancel word task handle at) h = raised_at t.free task q n (omega (arith, h.free))
spawned_free app q n i j k b t (Move word delay task handle at) h = max_zero (get_or t.free n 0)

zero_max : (n : ℕ) → n ≡ max 0 n
zero_max n = omega arith

spawned_ready : (app : App) (q p i j k : ℕ) → p < k → (t : Tables) (s : Spawn) → IsSized i j k t
    → get_or (tables_after_spawn app q t s).ready p 0 ≡ max (get_or t.ready p 0)
    (max (if readies app p s then q else 0) (if arms_level app p s then mono_priority app.mono else 0))
spawned_ready app q p i j k b t (Soon task args at) h =
    raised_level_at t.ready (level_in (slice_get app.tasks task)) q p (omega (arith, h.ready))
    ∙ ap (λ (x : Bool). max (get_or t.ready p 0) (if x then q else 0)) (level_in_is p (slice_get app.tasks task))
    ∙ ap (max (get_or t.ready p 0)) (max_zero (if is_some_and (is_of_level p) (slice_get app.tasks task) then q else 0))
spawned_ready app q p i j k b t (After word delay task args at) h =
    raised_level_at t.ready (level_in (slice_get app.tasks task)) (mono_priority app.mono) p (omega (arith, h.ready))
    ∙ ap (λ (x : Bool). max (get_or t.ready p 0) (if x then mono_priority app.mono else 0))
    (level_in_is p (slice_get app.tasks task))
    ∙ ap (max (get_or t.ready p 0))
    (zero_max (if is_some_and (is_of_level p) (slice_get app.tasks task) then mono_priority app.mono else 0))
spawned_ready app q p i j k b t (Cancel word task handle at) h = max_zeros (get_or t.ready p 0)
spawned_ready app q p i j k b t (Move word delay task handle at) h = max_zeros (get_or t.ready p 0)

spawned_timer : (app : App) (q i j k : ℕ) (t : Tables) (s : Spawn) → IsSized i j k t
    → (tables_after_spawn app q t s).timer ≡ max t.timer (if uses_timer s then q else 0)
spawned_timer app q i j k t (Soon task args at) h = max_zero t.timer
spawned_timer app q i j k t (After word delay task args at) h = refl
spawned_timer app q i j k t (Cancel word task handle at) h = refl
spawned_timer app q i j k t (Move word delay task handle at) h = refl

spawned_shared : (app : App) (q : ℕ) (t : Tables) (s : Spawn) → (tables_after_spawn app q t s).shared ≡ t.shared
spawned_shared app q t (Soon task args at) = refl
spawned_shared app q t (After word delay task args at) = refl
spawned_shared app q t (Cancel word task handle at) = refl
spawned_shared app q t (Move word delay task handle at) = refl

-- a body at each table
pub used_shared : (app : App) (q r i j k : ℕ) → r < i → (ls : List Listed) (block : Block) (t : Tables)
    → IsSized i j k t
    → get_or (tables_after_body app q ls block t).shared r 0 ≡ max (get_or t.shared r 0)
    (if list_any (λ l. l.resource == r) ls then q else 0)
used_shared app q r i j k b ls block t h =
    ap (λ (xs : List ℕ). get_or xs r 0) (fold_leaves (tables_after_spawn app q) (λ u. u.shared) (spawned_shared app q)
    (fold (tables_after_listing q) t ls) (spawns block))
    ∙ folded_raises (tables_after_listing q) (IsSized i j k) (listed_keeps q i j k) (λ u. get_or u.shared r 0)
    (λ l. if l.resource == r then q else 0) (λ u l v. raised_at u.shared l.resource q r (omega (arith, v.shared))) t
    ls h
    ∙ ap (max (get_or t.shared r 0)) (greatest_any (λ (l : Listed). l.resource == r) q ls)

pub used_free : (app : App) (q n i j k : ℕ) → n < j → (ls : List Listed) (block : Block) (t : Tables) → IsSized i j k t
    → get_or (tables_after_body app q ls block t).free n 0 ≡ max (get_or t.free n 0)
    (if list_any (uses_places_of n) (spawns block) then q else 0)
used_free app q n i j k b ls block t h =
    folded_raises (tables_after_spawn app q) (IsSized i j k) (spawned_keeps app q i j k) (λ u. get_or u.free n 0)
    (λ s. if uses_places_of n s then q else 0) (spawned_free app q n i j k b) (fold (tables_after_listing q) t ls)
    (spawns block)
    (fold_keeps (tables_after_listing q) (IsSized i j k) (listed_keeps q i j k) t ls h)
    ∙ ap (λ (xs : List ℕ). max (get_or xs n 0)
    (greatest (map (λ s. if uses_places_of n s then q else 0) (spawns block))))
    (fold_leaves (tables_after_listing q) (λ u. u.free) (λ u l. refl) t ls)
    ∙ ap (max (get_or t.free n 0)) (greatest_any (uses_places_of n) q (spawns block))

pub used_ready : (app : App) (q p i j k : ℕ) → p < k → (ls : List Listed) (block : Block) (t : Tables) → IsSized i j k t
    → get_or (tables_after_body app q ls block t).ready p 0 ≡ max (get_or t.ready p 0)
    (max (if list_any (readies app p) (spawns block) then q else 0)
    (if list_any (arms_level app p) (spawns block) then mono_priority app.mono else 0))
used_ready app q p i j k b ls block t h =
    let soon : Spawn → ℕ = λ s. if readies app p s then q else 0 in
    let after : Spawn → ℕ = λ s. if arms_level app p s then mono_priority app.mono else 0 in
    folded_raises (tables_after_spawn app q) (IsSized i j k) (spawned_keeps app q i j k) (λ u. get_or u.ready p 0)
    (λ s. max (soon s) (after s)) (spawned_ready app q p i j k b) (fold (tables_after_listing q) t ls)
    (spawns block)
    (fold_keeps (tables_after_listing q) (IsSized i j k) (listed_keeps q i j k) t ls h)
    ∙ ap (λ (xs : List ℕ). max (get_or xs p 0) (greatest (map (λ s. max (soon s) (after s)) (spawns block))))
    (fold_leaves (tables_after_listing q) (λ u. u.ready) (λ u l. refl) t ls)
    ∙ ap (max (get_or t.ready p 0)) (greatest_both soon after (spawns block)
    ∙ ap (λ x. max x (greatest (map after (spawns block)))) (greatest_any (readies app p) q (spawns block))
    ∙ ap (max (if list_any (readies app p) (spawns block) then q else 0))
    (greatest_any (arms_level app p) (mono_priority app.mono) (spawns block)))

pub used_timer : (app : App) (q i j k : ℕ) (ls : List Listed) (block : Block) (t : Tables) → IsSized i j k t
    → (tables_after_body app q ls block t).timer ≡ max t.timer (if list_any uses_timer (spawns block) then q else 0)
used_timer app q i j k ls block t h =
    folded_raises (tables_after_spawn app q) (IsSized i j k) (spawned_keeps app q i j k) (λ u. u.timer)
    (λ s. if uses_timer s then q else 0) (spawned_timer app q i j k) (fold (tables_after_listing q) t ls)
    (spawns block)
    (fold_keeps (tables_after_listing q) (IsSized i j k) (listed_keeps q i j k) t ls h)
    ∙ ap (λ x. max x (greatest (map (λ s. if uses_timer s then q else 0) (spawns block))))
    (fold_leaves (tables_after_listing q) (λ u. u.timer) (λ u l. refl) t ls)
    ∙ ap (max t.timer) (greatest_any uses_timer q (spawns block))
