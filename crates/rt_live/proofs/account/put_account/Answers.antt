use Rattle.rt_live.proofs.Vocabulary.{List, TookPrefix, account_text, ap, drop, flat_map, flat_map-append, get_or}
use Rattle.rt_live.proofs.Vocabulary.{length, on_err_from, part_more, part_on, rules, subst, sym, take}
use Rattle.rt_live.proofs.Vocabulary.{take-append-drop, ℕ, ◌++◌, ◌+◌, ◌<◌, ◌∙◌, ◌≡◌}
use Rattle.rt_lemmas.proofs.Lists.{drop_as_cons}
use Rattle.rt_live.specs.{Account.row_text, declared.account.AccountRow.AccountRow}
use Rattle.rt_live.proofs.account.put_account.Goals as goal

-- the texts of all are those of the first, of one, and of those behind it
split_at : (f : AccountRow → List ℕ) (rows : List AccountRow) (i : ℕ) (row : AccountRow) → i < length rows
    → row ≡ get_or rows i row → flat_map f (take i rows) ++ (f row ++ flat_map f (drop (i + 1) rows)) ≡ flat_map f rows
split_at f rows i row within is =
    ap (λ (rest : List AccountRow). flat_map f (take i rows) ++ flat_map f rest)
    (sym (drop_as_cons rows i row within is))
    ∙ sym (flat_map-append f (take i rows) (drop i rows))
    ∙ ap (flat_map f) (take-append-drop i rows)

pub returns-in_err-put_all-clause-err : goal.returns-in_err-put_all-clause-err
returns-in_err-put_all-clause-err g c =
    let names = c.args.names.now in
    let rows : List AccountRow = c.args.account.now.rows.items in
    let i : ℕ = c.loop-row.row-index in
    let row : AccountRow = c.row-item.result in
    let behind : List ℕ = account_text names (drop (i + 1) rows) in
    let before = g.K.Sink.taken c.args.out.now in
    let mid = g.K.Sink.taken c.loop-row.out in
    let after = g.K.Sink.taken c.put_all.new.sink in
    let part : TookPrefix mid after (row_text names row) =
    subst (TookPrefix mid after) (c.as_slice.ensures.value ∙ c.row_line.ensures) c.in_err-put_all.ensures.err in
    on_err_from c.from_residual.result
    (subst (TookPrefix before after) (split_at (row_text names) rows i row (search rules)
    (c.row-item.is ∙ ap (λ (rs : List AccountRow). get_or rs i row) c.deref-row-items.ensures.value))
    (part_on before mid after (account_text names (take i rows)) (row_text names row ++ behind)
    c.loop-row.invariant.took (part_more mid after (row_text names row) behind part)))
