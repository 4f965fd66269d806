use Rattle.std.proofs.Common.{◌≡◌, take, arith}
use Rattle.std.proofs.lemmas.List.{take_all}
use Rattle.runs.proofs.Playing.{call_more}
use Rattle.runs.proofs.play.play.Goals as goal

pub loop-call-preserved : goal.loop-call-preserved
loop-call-preserved g c =
    record {
      first = call_more _ _ _ c.call-item.result c.loop-call-test.true c.call-item.is c.perform-event.ensures c.push_reserved.ensures.items
          c.loop-call.invariant.first;
      made = omega arith;
      places = omega arith;
    }

pub returns : goal.returns
returns g c =
    let first = c.loop-call.invariant.first in
    let all : take c.loop-call.call-index c.args.calls.now ≡ c.args.calls.now = take_all _ _ c.loop-call-test.false in
    (rw all at first.events, rw all at first.state)
