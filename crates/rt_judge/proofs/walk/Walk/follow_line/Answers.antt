use Rattle.std.proofs.Common.{ap}
use Rattle.rt_judge.proofs.Following.{goes_nowhere, goes_to_one, goes_to_two, on_ok_both}
use Rattle.rt_judge.proofs.walk.Walk.follow_line.Goals as goal

pub returns-in-Nowhere : goal.returns-in-Nowhere
returns-in-Nowhere c =
    goes_nowhere c.args.self.now c.args.line.now c.args.owner c.args.visit c.ends_init-is_end.result c.requires.sound
    c.ends_init-is_end.ensures c.in-Nowhere.ensures

pub returns-in_ok-nesting-in-One : goal.returns-in_ok-nesting-in-One
returns-in_ok-nesting-in-One c = on_ok_both c.go.result _ _ _ (λ waits goes.
    goes_to_one c.args.self.now c.args.line.now c.args.owner c.args.visit c.ends_init-is_end.result c.requires.sound
    c.ends_init-is_end.ensures c.go.new.self c.in_ok-nesting-in-One.nesting c.behind.new.self.opened.items
    c.in_ok-nesting-in-One.ensures c.in-One.address (ap (λ n. n.opened.items) c.go.ensures.nestings)
    c.go.ensures.table waits goes c.in-One.ensures) c.go.ensures.waiting c.go.ensures.behind

pub returns-in_ok-go-in-Two : goal.returns-in_ok-go-in-Two
returns-in_ok-go-in-Two c = on_ok_both c.go-in-Two-2.result _ _ _ (λ waits goes.
    goes_to_two c.args.self.now c.args.line.now c.args.owner c.args.visit c.ends_init-is_end.result c.requires.sound
    c.ends_init-is_end.ensures c.go-in-Two.new.self c.in_ok-nesting-in-Two.nesting
    c.behind-in-Two.new.self.opened.items c.in_ok-nesting-in-Two.ensures c.in-Two.address
    (ap (λ n. n.opened.items) c.go-in-Two.ensures.nestings) c.go-in-Two.ensures.table
    c.in_ok-go-in-Two.ensures.waiting c.in_ok-go-in-Two.ensures.behind
    c.go-in-Two-2.new.self c.in-Two.other c.go-in-Two-2.ensures.nestings c.go-in-Two-2.ensures.table waits goes
    c.in-Two.ensures) c.go-in-Two-2.ensures.waiting c.go-in-Two-2.ensures.behind
