use Rattle.std.proofs.Common.{◌∙◌}
use Rattle.pieces.specs.Meanings.{names_of, view_of}
use Rattle.pieces.proofs.Solo.{access_ends, access_goes_on}
use Rattle.pieces.proofs.alone.finish.Goals as goal

pub returns-then-ends-clause-view : goal.returns-then-ends-clause-view
returns-then-ends-clause-view g c =
    let p = g.P.Piece.meaning in
    let x = c.args.piece.now in
    let y = c.loop-access.piece in
    λ d there at.
    access_ends (names_of p x) (names_of p y) c.loop-access.invariant.0 (view_of p x) c.args.worker d there at c.loop-access._access (view_of p y)
    (view_of p c.step_meant.new.piece) (c.loop-access.invariant.1 d there at).0 c.step_meant.result c.step_meant.ensures.meant c.if-ends.ensures

pub loop-access-preserved : goal.loop-access-preserved
loop-access-preserved g c =
    let p = g.P.Piece.meaning in
    let x = c.args.piece.now in
    let y = c.loop-access.piece in (
      c.step_meant.ensures.names ∙ c.loop-access.invariant.0,
      λ d there at.
          access_goes_on (names_of p x) (names_of p y) c.loop-access.invariant.0 (view_of p x) c.args.worker d there at c.loop-access._access (view_of p y)
          (view_of p c.step_meant.new.piece) (c.loop-access.invariant.1 d there at).0 c.step_meant.result c.step_meant.ensures.meant c.if-ends.ensures,
    )
