use Rattle.std.proofs.Common.{◌∙◌}
use Rattle.pieces.specs.Meanings.{names_of, view_of}
use Rattle.pieces.proofs.Solo.{alone}
use Rattle.pieces.proofs.alone.call_alone.Goals as goal

pub returns : goal.returns
returns g c =
    let m = g.P.Piece.meaning in
    let x = c.args.piece.now in
    let d = c.args.command in
    alone (names_of m x) (view_of m x) c.args.worker d (names_of m c.seat_meant.new.piece) (names_of m c.finish.new.piece)
    c.seat_meant.ensures.names (c.finish.ensures.names ∙ c.seat_meant.ensures.names)
    (view_of m c.seat_meant.new.piece) (view_of m c.finish.new.piece) (view_of m c.take_meant.new.piece) c.take_meant.result
    c.in_ok-seat_meant.ensures.meant c.finish.ensures.view c.take_meant.ensures
