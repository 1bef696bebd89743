-- The ask of a handler, and the handler of an ask.
use Rattle.std.proofs.Common.{◌≡◌, ℕ, zero, suc, ◌≤◌, Bool, true, false, if◌then◌else◌, List, [], ◌∷◌, ◌++◌}
use Rattle.std.proofs.Common.{slice_get, Option, Some, None, option_map, option_to_list, refl, sym, ap, subst, ⊎_elim}
use Rattle.std.proofs.Common.{◌∙◌}
use Rattle.std.specs.List.{Contains}
use Rattle.std.proofs.lemmas.Bool.{leb-true, le-leb}
use Rattle.std.proofs.lemmas.Option.{none-some, same_Some}
use Rattle.rt_lemmas.proofs.Membership.{contains_cases, contains_none}
use Rattle.rt_ids.specs.Lists.{then_from}
use Rattle.rt_code.specs.Image.{Image}
use Rattle.rt_code.specs.declared.image.Handler.{Handler}
use Rattle.rt_code.specs.declared.image.IrqRow.{IrqRow}
use Rattle.rt_rta.specs.Limits.{every_of}
use Rattle.rt_rta.specs.declared.limits.Limit.{Limit}
use Rattle.rt_bounds.specs.declared.bound.HandlerBound.{HandlerBound}
use Rattle.rt_bounds.specs.declared.longest.Longest.{Longest}
use Rattle.rt_image_times.specs.Response.{is_at}
use Rattle.rt_image_times_laws.proofs.Asks.{Ask, ask_by, row_ask, ask_of, asks}

module _ (img : Image) (limits : List Limit) (value : ℕ) where
  -- an ask of these for this interrupt, with this bound
  pub record IsFound (irq : ℕ) (own : Longest) (all : List Ask) : Type 0 where
    pub index : ℕ
    pub ask : Ask
    pub at : slice_get all index ≡ Some ask
    pub number : ask.irq ≡ irq
    pub bound : ask.longest ≡ own

  behind_one : (irq : ℕ) (own : Longest) (o : Option Ask) (all : List Ask) → IsFound irq own all
      → IsFound irq own (option_to_list o ++ all)
  behind_one irq own None all one = one
  behind_one irq own (Some a) all one = record {
    index = suc one.index;
    ask = one.ask;
    at = one.at;
    number = one.number;
    bound = one.bound;
  }

  asks_it : (row : IrqRow) (h : Handler) (every : ℕ) (own : Longest) → row.handler ≡ Some h → h.value ≤ value
      → every_of limits row.number ≡ Some every
      → row_ask img limits value own row ≡ Some (ask_by img limits value row own every)
  asks_it row h every own enabled high limit =
      ap (λ b. if b then option_map (ask_by img limits value row own) (every_of limits row.number) else None)
      (ap (is_at value) enabled ∙ le-leb h.value value high)
      ∙ ap (option_map (ask_by img limits value row own)) limit

  -- a handler that counts, with its bound
  pub found : (row : IrqRow) (h : Handler) (every : ℕ) (hb : HandlerBound) → slice_get img.irqs hb.index ≡ Some row
      → row.handler ≡ Some h → h.value ≤ value → every_of limits row.number ≡ Some every → (bounds : List HandlerBound)
      → Contains bounds hb → IsFound row.number hb.longest (asks img limits value bounds)
  found row h every hb at enabled high limit [] has = absurd (contains_none hb has)
  found row h every hb at enabled high limit (x ∷ bounds) has =
      ⊎_elim here
      (λ rest. behind_one row.number hb.longest (ask_of img limits value x) (asks img limits value bounds)
      (found row h every hb at enabled high limit bounds rest))
      (contains_cases x bounds hb has)
    where
      here : x ≡ hb
          → IsFound row.number hb.longest (option_to_list (ask_of img limits value x) ++ asks img limits value bounds)
      here same =
          let is : ask_of img limits value x ≡ Some (ask_by img limits value row hb.longest every) =
          ap (ask_of img limits value) same ∙ ap (λ o. then_from o (row_ask img limits value hb.longest)) at
          ∙ asks_it row h every hb.longest enabled high limit in
          subst (λ (o : Option Ask). IsFound row.number hb.longest (option_to_list o ++ asks img limits value bounds))
          (sym is)
          (record {
            index = 0;
            ask = ask_by img limits value row hb.longest every;
            at = refl;
            number = refl;
            bound = refl;
          })

  -- the handler of an ask
  pub record IsOfRow (a : Ask) : Type 0 where
    pub index : ℕ
    pub row : IrqRow
    pub at : slice_get img.irqs index ≡ Some row
    pub handler : Handler
    pub enabled : row.handler ≡ Some handler
    pub high : handler.value ≤ value
    pub number : row.number ≡ a.irq
    pub limit : every_of limits a.irq ≡ Some a.every

  made_by : (own : Longest) (row : IrqRow) (a : Ask) (o : Option ℕ) → every_of limits row.number ≡ o
      → option_map (ask_by img limits value row own) o ≡ Some a
      → (row.number ≡ a.irq) × (every_of limits a.irq ≡ Some a.every)
  made_by own row a None limit is = absurd (none-some a is)
  made_by own row a (Some every) limit is =
      let same : ask_by img limits value row own every ≡ a = same_Some (ask_by img limits value row own every) a is in (
        ap (λ (b : Ask). b.irq) same,
        ap (every_of limits) (sym (ap (λ (b : Ask). b.irq) same)) ∙ limit ∙ ap (λ (b : Ask). Some b.every) same,
      )

  by_handler : (own : Longest) (index : ℕ) (row : IrqRow) (a : Ask) → slice_get img.irqs index ≡ Some row
      → (o : Option Handler) → row.handler ≡ o → (b : Bool) → is_at value o ≡ b
      → (if b then option_map (ask_by img limits value row own) (every_of limits row.number) else None) ≡ Some a
      → IsOfRow a
  by_handler own index row a at o enabled false test is = absurd (none-some a is)
  by_handler own index row a at None enabled true test is = cc
  by_handler own index row a at (Some h) enabled true test is =
      let made = made_by own row a (every_of limits row.number) refl is in
      record {
        index = index;
        row = row;
        at = at;
        handler = h;
        enabled = enabled;
        high = leb-true h.value value test;
        number = made.0;
        limit = made.1;
      }

  by_row : (own : Longest) (index : ℕ) (a : Ask) (o : Option IrqRow) → slice_get img.irqs index ≡ o
      → then_from o (row_ask img limits value own) ≡ Some a → IsOfRow a
  by_row own index a None at is = absurd (none-some a is)
  by_row own index a (Some row) at is =
      by_handler own index row a at row.handler refl (is_at value row.handler) refl is

  pub row_of_ask : (bounds : List HandlerBound) (i : ℕ) (a : Ask) → slice_get (asks img limits value bounds) i ≡ Some a
      → IsOfRow a
  row_of_ask [] i a at = absurd (none-some a at)
  row_of_ask (x ∷ bounds) i a at =
      by (λ j there. row_of_ask bounds j a there) (ask_of img limits value x) refl i at
    where
      by : ((j : ℕ) → slice_get (asks img limits value bounds) j ≡ Some a → IsOfRow a) → (o : Option Ask)
          → ask_of img limits value x ≡ o → (k : ℕ)
          → slice_get (option_to_list o ++ asks img limits value bounds) k ≡ Some a → IsOfRow a
      by deeper None is k there = deeper k there
      by deeper (Some b) is zero there =
          by_row x.longest x.index a (slice_get img.irqs x.index) refl (is ∙ there)
      by deeper (Some b) is (suc k) there = deeper k there
