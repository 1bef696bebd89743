use Rattle.rt_live.proofs.Vocabulary.{AllByRecursion, AreReady, Caller, HasLived, HasRoom, HasWrittenPart, IsBalanced}
use Rattle.rt_live.proofs.Vocabulary.{IsScript, Line, List, ap, arith, drop, get_or, length, map, refl, settled_row}
use Rattle.rt_live.proofs.Vocabulary.{subst, sym, take, take_at, with_counts, ℕ, ◌++◌, ◌∙◌, ◌≡◌, ◌≤◌}
use Rattle.rt_live.specs.declared.account.AccountRow.{AccountRow}
use Rattle.rt_live.proofs.Ended.{if_all, if_cut}
use Rattle.rt_live.proofs.Outputs.{all_gathered, failed_part, has_lived, rows_balanced, rows_fit}
use Rattle.rt_live.proofs.ready.Ready.run.Goals as goal

pub go-went-requires-clause-ready : goal.go-went-requires-clause-ready
go-went-requires-clause-ready g c = λ _ _.
    let names = c.args.core.now.image.names in
    let ready = c.args.self in
    subst (λ (lines : List Line). AreReady names lines ready.words ready.line ready.devices.items
    c.deref_mut.result.now) (sym c.lines.ensures.lines)
    (subst (AreReady names ready.script.now ready.words ready.line ready.devices.items) (sym c.deref_mut.ensures.value)
    c.requires.ready)

pub close-left-requires-clause-words : goal.close-left-requires-clause-words
close-left-requires-clause-words g c = ap (λ (l : Caller). l.words) c.go-went.ensures.gathered.first

pub close-left-requires-clause-first : goal.close-left-requires-clause-first
close-left-requires-clause-first g c = ap (λ (l : Caller). l.number) c.go-went.ensures.gathered.first

pub close-left-requires-clause-gathered : goal.close-left-requires-clause-gathered
close-left-requires-clause-gathered g c = all_gathered (subst IsScript
    (sym c.lines.ensures.lines) c.requires.ready.scripted) c.go-went.ensures.gathered

pub enter_left-requires-clause-room : goal.enter_left-requires-clause-room
enter_left-requires-clause-room g c =
    let front : List AccountRow = c.go-went.new.rows in
    let held : length front ≡ c.args.self.rows.len = c.go-went.auto.rows ∙ c.deref_mut.ensures.len in
    subst (AllByRecursion HasRoom) (sym (c.deref_mut-2.ensures.value
    ∙ take_at front (drop (length front) c.args.self.rows.items) c.args.self.rows.len held))
    (rows_fit (subst IsScript (sym c.lines.ensures.lines) c.requires.ready.scripted) c.go-went.ensures.gathered)

pub returns : goal.returns
returns g c =
    let ready = c.requires.ready in
    let went = c.go-went.ensures in
    let closed = c.close-left.ensures in
    let bits = c.close-left.result.bits in
    let own = c.close-left.result.own in
    let n = c.args.self.rows.len in
    let lines = c.lines.ensures.lines in
    let old = c.args.core.now in
    let new = c.go-went.new.core in
    let x = g.K.Sink.taken c.args.out.now in
    let y = g.K.Sink.taken c.go-went.new.out in
    let front : List AccountRow = c.go-went.new.rows in
    let held : length front ≡ n = c.go-went.auto.rows ∙ c.deref_mut.ensures.len in
    let mid : List AccountRow = take n (front ++ drop (length front) c.args.self.rows.items) in
    let ended : List AccountRow = c.enter_left.new.rows in
    let out : List AccountRow = take n (ended ++ drop (length ended) mid) in
    let rows : out ≡ map (settled_row 0 bits) (map (with_counts 0 0 0 own) front) =
    take_at ended (drop (length ended) mid) n (c.enter_left.auto.rows ∙ c.deref_mut-2.ensures.len)
    ∙ c.enter_left.ensures ∙ ap (λ (rs : List AccountRow). map (settled_row 0 bits) (map (with_counts 0 0 0 own) rs))
    (c.deref_mut-2.ensures.value ∙ take_at front (drop (length front) c.args.self.rows.items) n held) in
    let scripted = subst IsScript (sym lines) ready.scripted in
    let behind : (k : ℕ) → 16 ≤ k → get_or bits k 0 ≡ 0 = λ k far. closed.behind k (omega (arith, ready.many, far)) in
    record {
      ok =
          if_all c.go-went.result went.ended (λ all. subst (λ (ls : List Line). HasLived ls old new x y out) lines
          (subst (HasLived c.lines.result.now old new x y) (sym rows)
          (has_lived scripted went.gathered closed.history behind c.requires.fresh own closed.own ready.in_range x y all
          refl)));
      balanced =
          if_all c.go-went.result went.ended
          (λ all. subst (λ (ls : List Line). AllByRecursion (IsBalanced ls) out) lines
          (subst (AllByRecursion (IsBalanced c.lines.result.now)) (sym rows)
          (rows_balanced scripted went.gathered closed.history behind c.requires.fresh own closed.own ready.in_range x y
          all)));
      err =
          if_cut c.go-went.result went.ended (λ early. subst (λ (ls : List Line). HasWrittenPart ls old new x y) lines
          (failed_part scripted went.gathered closed.history behind c.requires.fresh x y early));
      cause = went.cause;
      quiet = went.quiet;
    }
