use Rattle.pieces.proofs.Kept.{within, reached, stepped_kept, stepped_uncompared}
use Rattle.pieces.proofs.tray.Tray.make_access.Goals as goal

pub access-requires-clause-seat : goal.access-requires-clause-seat
access-requires-clause-seat g c = within c.args.self.now _ _ c.in_ok-occupant.ensures

pub access-requires-clause-strips : goal.access-requires-clause-strips
access-requires-clause-strips g c = reached c.args.self.now _ _ c.in_ok-occupant.ensures

pub invariant_of-self : goal.invariant_of-self
invariant_of-self g c =
    record { sound = stepped_kept c.args.self.now _ _ c.in_ok-occupant.ensures g.met.E.Element.reflexive _ _ (c.access.ensures _ _) }

pub returns-clause-uncompared : goal.returns-clause-uncompared
returns-clause-uncompared g c =
    stepped_uncompared c.args.self.now _ _ c.in_ok-occupant.ensures g.met.E.Element.reflexive _ _ (c.access.ensures _ _) g.row.E.coded
