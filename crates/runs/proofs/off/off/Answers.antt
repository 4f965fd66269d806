use Rattle.std.proofs.Common.{◌++◌, vec_items, sym, ap, ◌∙◌}
use Rattle.std.specs.Option.{option_to_list}
use Rattle.std.proofs.lemmas.List.{append-nil, take_all}
use Rattle.runs.specs.HeldFeeder.{came_off}
use Rattle.runs.proofs.Playing.{off_more}
use Rattle.runs.proofs.off.off.Goals as goal
use Rattle.runs.proofs.off.off.Goals.{in-Some+in_ok-push, in_default}

pub loop-event-preserved : goal.loop-event-preserved
loop-event-preserved g c =
    off_more c.args.events.now c.loop-event.event-index c.event-item.result c.taken_off.result (vec_items c.loop-event.elements)
    (vec_items c.match-taken_off.elements) c.loop-event-test.true c.event-item.is c.taken_off.ensures
    (elim c.match-taken_off.branch [
      | in-Some+in_ok-push w ↦ ap vec_items w.elements-is ∙ w.in_ok-push.ensures.items
          ∙ ap (λ o. vec_items c.loop-event.elements ++ option_to_list o) (sym w.in-Some.is)
      | in_default w ↦ ap vec_items w.elements-is ∙ sym (append-nil (vec_items c.loop-event.elements))
          ∙ ap (λ o. vec_items c.loop-event.elements ++ option_to_list o) (sym w.in_default.is)
    ])
    c.loop-event.invariant

pub returns : goal.returns
returns g c = c.loop-event.invariant ∙ ap came_off (take_all c.loop-event.event-index c.args.events.now c.loop-event-test.false)
