use Rattle.std.proofs.Common.{◌≡◌, ◌<◌}
use Rattle.elements.specs.declared.commands.Command.{Command}
use Rattle.pieces.specs.Meanings.{names_of, view_of}
use Rattle.pieces.specs.Views.{workers_of, seat_of, loaded}
use Rattle.pieces.proofs.Solo.{Going}
use Rattle.pieces.proofs.alone.finish.Given as goal

-- nothing that is named has changed, and the try that was begun goes on
abbrev pub invariant-loop-access : goal.invariant-loop-access
invariant-loop-access g l =
    (names_of g.P.Piece.meaning l.piece ≡ names_of g.P.Piece.meaning l.initial.piece)
    × ((c : Command g.row.P-Element.Denot) → l.worker < workers_of (view_of g.P.Piece.meaning l.initial.piece)
    → seat_of (view_of g.P.Piece.meaning l.initial.piece) l.worker ≡ loaded c
    → Going (names_of g.P.Piece.meaning l.initial.piece) (view_of g.P.Piece.meaning l.initial.piece) l.worker c l._access (view_of g.P.Piece.meaning l.piece)
    × (l._access < (names_of g.P.Piece.meaning l.initial.piece).longest))
