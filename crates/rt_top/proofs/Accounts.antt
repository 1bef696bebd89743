-- The lines of an account: a reader of traces passes over them, and they are few and short.
use Rattle.std.proofs.Common.{◌≡◌, ℕ, ◌*◌, ◌≤◌, ◌==◌, true, List, [], ◌∷◌, ◌++◌, length, map, flat_map, codes, decimal}
use Rattle.std.proofs.Common.{Option, Some, None, option_map, unwrap_or, refl, sym, arith, length-append}
use Rattle.std.specs.List.{AllByRecursion}
use Rattle.rt_lemmas.proofs.Lists.{find_has, flat_map-map}
use Rattle.rt_lemmas.proofs.Texts.{decimal_few}
use Rattle.rt_ids.specs.Names.{Names, AreNames}
use Rattle.rt_ids.specs.Naming.{irq_named, irq_name}
use Rattle.rt_ids.specs.Word.{IsName}
use Rattle.rt_live.specs.Account.{account_text, counts_of}
use Rattle.rt_live.specs.declared.account.AccountRow.{AccountRow}
use Rattle.rt_trace.specs.Reading.{is_account}
use Rattle.rt_lines.specs.Table.{spaced_text}
use Rattle.rt_lines.proofs.Short.{irq_name_short}
use Rattle.rt_lines.proofs.Unbroken.{IsUnbroken, fed, name_unbroken, spaced_unbroken, unbroken_append}
use Rattle.rt_lines.proofs.Words.{word_free, decimal_bytes}

-- the line of a row, without its line feed
abbrev account_line : Names → AccountRow → List ℕ
account_line names row = codes "account" ++ spaced_text (irq_name names row.irq ∷ map decimal (counts_of row))

abbrev pub account_lines : Names → List AccountRow → List (List ℕ)
account_lines names rows = map (account_line names) rows

pub account_fed : (names : Names) (rows : List AccountRow) → account_text names rows
    ≡ flat_map fed (account_lines names rows)
account_fed names rows = sym (flat_map-map fed (account_line names) rows)

pub account_told : (names : Names) (rows : List AccountRow)
    → AllByRecursion (λ line. is_account line ≡ true) (account_lines names rows)
account_told names [] = tt
account_told names (row ∷ rows) = (refl, account_told names rows)

decimals_unbroken : (ns : List ℕ) → AllByRecursion IsUnbroken (map decimal ns)
decimals_unbroken [] = tt
decimals_unbroken (n ∷ ns) = (word_free 10 (decimal n) refl (decimal_bytes n), decimals_unbroken ns)

found_unbroken : (found : Option (List ℕ × ℕ)) → ((irq : List ℕ × ℕ) → found ≡ Some irq → IsName irq.0)
    → IsUnbroken (unwrap_or (option_map (λ irq. irq.0) found) [])
found_unbroken None named = tt
found_unbroken (Some irq) named = let name = named irq refl in name_unbroken irq.0 name.identifier

irq_unbroken : (names : Names) (number : ℕ) → AreNames names → IsUnbroken (irq_name names number)
irq_unbroken names number are = found_unbroken (irq_named names number)
    (λ irq found. find_has (λ irq. IsName irq.0) (λ irq. irq.1 == number) names.irqs irq are.irqs found)

pub account_unbroken : (names : Names) (rows : List AccountRow) → AreNames names
    → AllByRecursion IsUnbroken (account_lines names rows)
account_unbroken names [] are = tt
account_unbroken names (row ∷ rows) are = (
  unbroken_append (codes "account") (spaced_text (irq_name names row.irq ∷ map decimal (counts_of row)))
      (refl, (refl, (refl, (refl, (refl, (refl, (refl, tt)))))))
      (spaced_unbroken (irq_name names row.irq ∷ map decimal (counts_of row))
      (irq_unbroken names row.irq are, decimals_unbroken (counts_of row))),
  account_unbroken names rows are,
)

spaced_few : (ns : List ℕ) → length (spaced_text (map decimal ns)) ≤ 65 * length ns
spaced_few [] = omega arith
spaced_few (n ∷ ns) =
    omega (arith, decimal_few n, spaced_few ns, length-append (32 ∷ decimal n) (spaced_text (map decimal ns)))

line_few : (names : Names) (row : AccountRow) → AreNames names → length (account_line names row) ≤ 300
line_few names row are =
    let name = irq_name_short names row.irq are in
    omega (
      arith,
      name,
      spaced_few (counts_of row),
      length-append (32 ∷ irq_name names row.irq) (spaced_text (map decimal (counts_of row))),
      length-append (codes "account") (spaced_text (irq_name names row.irq ∷ map decimal (counts_of row))),
    )

pub account_few : (names : Names) (rows : List AccountRow) → AreNames names
    → length (flat_map fed (account_lines names rows)) ≤ 301 * length rows
account_few names [] are = omega arith
account_few names (row ∷ rows) are =
    omega (
      arith,
      line_few names row are,
      account_few names rows are,
      length-append (account_line names row) (10 ∷ []),
      length-append (fed (account_line names row)) (flat_map fed (account_lines names rows)),
    )
