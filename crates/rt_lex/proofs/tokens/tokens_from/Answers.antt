use Rattle.std.proofs.Common.{◌≡◌, ◌+◌, arith, refl, sym, ◌∙◌}
use Rattle.rt_lex.specs.FrontView.{front_view}
use Rattle.rt_lex.specs.Tokens.{tokens_at}
use Rattle.rt_lex.proofs.Lexing.{Takes, takes_first}
use Rattle.rt_lex.proofs.tokens.tokens_from.Goals as goal
use Rattle.rt_lex.proofs.tokens.tokens_from.Goals.{After-front_of-front}

-- what the front takes from the rest
taken : (c : After-front_of-front) → Takes (front_view c.front_of-front.result) c.loop-rest.at c.loop-rest.rest.now
taken c = takes_first (front_view c.front_of-front.result) c.loop-rest.at c.loop-rest.rest.now c.in-len1-up.len_at_least
    c.front_of-front.ensures

pub split_at-requires : goal.split_at-requires
split_at-requires c = (taken c).within

pub loop-rest-smaller : goal.loop-rest-smaller
loop-rest-smaller c =
    let t = taken (goal.at.loop-rest-smaller c).After-front_of-front in
    omega (arith, t.some, t.within, c.split_at.ensures.back_len)

pub loop-rest-preserved : goal.loop-rest-preserved
loop-rest-preserved c =
    let t = taken (goal.at.loop-rest-preserved c).After-front_of-front in
    let behind : tokens_at (c.loop-rest.at + c.front_of-front.result.len) c.split_at.result.1.now
    ≡ tokens_at c.loop-rest.at c.loop-rest.rest.now =
    sym (t.found ∙ rw (c.in_default-kind.is, c.split_at.ensures.back) refl) in
    record {
      same = behind ∙ c.loop-rest.invariant.same;
      end = omega (arith, c.loop-rest.invariant.end, c.split_at.ensures.back_len, t.within);
    }

pub returns-in-Some : goal.returns-in-Some
returns-in-Some c =
    let t = taken (goal.at.returns-in-Some c).After-front_of-front in
    sym (sym c.loop-rest.invariant.same ∙ t.found ∙ rw (c.in-Some.is, c.split_at.ensures.front, c.split_at.ensures.back)
    refl)
