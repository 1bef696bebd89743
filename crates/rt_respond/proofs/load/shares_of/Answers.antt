use Rattle.std.proofs.Common.{◌+◌, ◌<◌, ◌++◌, [], ◌∷◌, drop, length, None, sym, ap, ◌∙◌, append_assoc, arith}
use Rattle.std.specs.Prelude.{Vec}
use Rattle.std.specs.Global.{Global}
use Rattle.rt_respond.specs.Limits.{every_of}
use Rattle.rt_respond.specs.Inside.Places.{table_shares}
use Rattle.rt_respond.specs.declared.handler.Handler.{Handler}
use Rattle.rt_respond.specs.declared.load.Share.{Share}
use Rattle.rt_respond.proofs.Shares.{passed, shared}
use Rattle.rt_respond.proofs.load.shares_of.Goals as goal
use Rattle.rt_respond.proofs.load.shares_of.Goals.{in-Some+in-Some-share_of+in_ok-push-in-Some-share_of, in_default}

pub loop-index-preserved : goal.loop-index-preserved
loop-index-preserved c =
    let limits = c.args.limits.now in
    let hs = c.args.handlers.now in
    let ws = c.args.works.now in
    let i = c.loop-index.index in
    let h = c.index-handlers-index.result in
    let long = c.requires in
    let in_ws : i < length ws = omega (arith, long, c.loop-index-test.true) in
    let same = ap (λ (h : Handler). every_of limits h.number) c.index-handlers-index.is in
    elim c.match-every_of.branch [
      | in-Some+in-Some-share_of+in_ok-push-in-Some-share_of w ↦
          let share = w.in-Some-share_of.share in
          let next = shared limits hs ws i h None w.in-Some.every share c.loop-index-test.true in_ws
          c.index-handlers-index.is (same ∙ sym w.in-Some.ensures) w.in-Some-share_of.ensures in
          record {
            shares =
                ap (λ (v : Vec Share Global). v.items ++ table_shares limits (drop (i + 1) hs) (drop (i + 1) ws))
                w.shares-is
                ∙ ap (λ ss. ss ++ table_shares limits (drop (i + 1) hs) (drop (i + 1) ws))
                w.in_ok-push-in-Some-share_of.ensures.items
                ∙ append_assoc c.loop-index.shares.items (share ∷ [])
                (table_shares limits (drop (i + 1) hs) (drop (i + 1) ws))
                ∙ ap (λ ss. c.loop-index.shares.items ++ ss) (sym next.0) ∙ c.loop-index.invariant.shares;
            numbers = c.loop-index.invariant.numbers ∙ next.1;
          }
      | in_default w ↦
          let next = passed limits hs ws i h c.loop-index-test.true in_ws c.index-handlers-index.is
          (same ∙ sym w.in_default.ensures) in
          record {
            shares =
                ap (λ (v : Vec Share Global). v.items ++ table_shares limits (drop (i + 1) hs) (drop (i + 1) ws))
                w.shares-is
                ∙ ap (λ ss. c.loop-index.shares.items ++ ss) (sym next.0) ∙ c.loop-index.invariant.shares;
            numbers = c.loop-index.invariant.numbers ∙ next.1;
          }
    ]
