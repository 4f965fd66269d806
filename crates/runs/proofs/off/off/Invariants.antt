use Rattle.std.proofs.Common.{◌≡◌, take, vec_items}
use Rattle.runs.specs.HeldFeeder.{came_off}
use Rattle.runs.proofs.off.off.Given as goal

-- what was kept so far is what the first events took off
abbrev pub invariant-loop-event : goal.invariant-loop-event
invariant-loop-event g l = vec_items l.elements ≡ came_off (take l.event-index l.events)
