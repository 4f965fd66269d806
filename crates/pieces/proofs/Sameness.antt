-- Which elements are the same never decides: where indices and ticks agree, the elements that an access compares are equal.
use Rattle.std.proofs.Common.{◌≡◌, ℕ, ◌<◌, Bool, true, false, cond, ◌&&◌, ltb, set, pos, ◌-ℤ◌, Ok, Result, sym, refl, ap, ◌∙◌, arith}
use Rattle.std.proofs.lemmas.Int.{ints}
use Rattle.std.proofs.lemmas.Bool.{ltb-true, cond-false}
use Rattle.elements.specs.Kinds.{ElementKind, uncompared}
use Rattle.elements.specs.declared.answers.StepAnswer.{StepAnswer}
use Rattle.elements.specs.declared.answers.StepAnswer.TheVariants.{Moved, Ended as AnsweredEnd, SettledEnded, StoodOff}
use Rattle.elements.specs.declared.refusals.Refusal.{Refusal}
use Rattle.pieces.specs.Outcomes.{if_worker}
use Rattle.pieces.specs.Ticks.{tick_eq}
use Rattle.pieces.proofs.TickLaws.{Decides-tick_eq}
use Rattle.pieces.specs.declared.tray.records.Cell.{Cell}
use Rattle.pieces.specs.declared.tray.records.Head.{Head}
use Rattle.pieces.specs.declared.tray.records.Try.{Try}
use Rattle.pieces.specs.TrayKinds.{TraySeat}
use Rattle.pieces.specs.declared.seats.Seat.TheVariants.{Empty, Loaded, Ended, Running}
use Rattle.pieces.specs.declared.tray.records.Phase.TheVariants.{HeadRead, CellRead, CellWritten, NeighbourRead}
use Rattle.pieces.specs.Seats.{seat_at}
use Rattle.pieces.specs.TrayStates.{TrayState, cell_at, head_of, with_cells, with_head, with_seat}
use Rattle.pieces.specs.TrayAccess.{settled_early, agrees, helps, unchanged, moved_head, limit_reply, done_reply, accessed}
use Rattle.pieces.specs.TrayCalls.{step_outcome}
use Rattle.pieces.specs.TraySound.{TryTrue, ReadTrue, SeatTrue, Sound}
use Rattle.pieces.proofs.Soundness.{helps_if_behind}

module _ {E : Type 0} (e : ElementKind E) (same : (x : E) → e.same x x ≡ true) where
  -- access 3 writes exactly where the cell is one tick behind
  helps_by_tick : (c : Cell E) (h : Head E) (t : Try E) (u : E) → TryTrue c h t → ReadTrue c t u → helps e c t u ≡ helps (uncompared e.blank) c t u
  helps_by_tick c h t u o r = go (tick_eq c.tick (t.head.tick -ℤ pos 1)) refl
    where
      go : (y : Bool) → tick_eq c.tick (t.head.tick -ℤ pos 1) ≡ y → helps e c t u ≡ helps (uncompared e.blank) c t u
      go true y = helps_if_behind e c h t u o same r (omega (arith, ints, (Decides-tick_eq c.tick (t.head.tick -ℤ pos 1)).0 y)) ∙ sym (ap (λ z. z && true) y)
      go false y = ap (λ z. z && e.same c.element u) y ∙ sym (ap (λ z. z && true) y)

  -- access 5 moves the head exactly where it has the index and the tick that the try saw
  moves_by_tick : (c : Cell E) (h : Head E) (t : Try E) → TryTrue c h t → unchanged e h t ≡ unchanged (uncompared e.blank) h t
  moves_by_tick c h t o = go (agrees h t) refl
    where
      go : (y : Bool) → agrees h t ≡ y → (agrees h t && e.same h.element t.head.element) ≡ (agrees h t && true)
      go true y = ap (λ z. agrees h t && z) (ap (λ z. e.same z t.head.element) (o.stands y) ∙ same t.head.element)
      go false y = ap (λ z. z && e.same h.element t.head.element) y ∙ sym (ap (λ z. z && true) y)

  accessed_by_tick : (s : TrayState E) (i : ℕ) (q : TraySeat E) → SeatTrue e.blank s.cells (head_of e.blank s.heads) q
      → accessed e s i q ≡ accessed (uncompared e.blank) s i q
  accessed_by_tick s i Empty o = refl
  accessed_by_tick s i (Loaded c) o = refl
  accessed_by_tick s i (Running (HeadRead t)) o = refl
  accessed_by_tick s i (Running (CellRead t u)) o =
      ap (λ y. (
        Ok (cond (settled_early s.room t) AnsweredEnd Moved),
        with_seat (with_cells s (cond y (set s.cells t.head.index (record { element = t.head.element; tick = t.head.tick })) s.cells)) i
            (cond (settled_early s.room t) (Ended (limit_reply e t.command)) (Running (CellWritten t))),
      ))
      (helps_by_tick (cell_at e.blank s.cells t.head.index) (head_of e.blank s.heads) t u o.0 o.1)
  accessed_by_tick s i (Running (CellWritten t)) o = refl
  accessed_by_tick s i (Running (NeighbourRead t x)) o =
      ap (λ y. cond {A = Result StepAnswer Refusal × TrayState E} y
      (Ok SettledEnded, with_seat (with_head s (moved_head e t x)) i (Ended (done_reply e t))) (Ok StoodOff, with_seat s i (Loaded t.command)))
      (moves_by_tick (cell_at e.blank s.cells t.head.index) (head_of e.blank s.heads) t o.0)
  accessed_by_tick s i (Ended r) o = refl

  -- so the outcome of a Step is that of elements any two of which are the same
  pub step_by_tick : (s : TrayState E) → Sound e.blank s → (i : ℕ) → step_outcome e s i ≡ step_outcome (uncompared e.blank) s i
  step_by_tick s o i = go (ltb i s.count) refl
    where
      go : (y : Bool) → ltb i s.count ≡ y → step_outcome e s i ≡ step_outcome (uncompared e.blank) s i
      go true f =
          let l : i < s.count = ltb-true i s.count f in
          ap (if_worker s.count s i) (accessed_by_tick s i (seat_at s.seats i) ((o.consistent (omega arith)).seats_true i l))
      go false f = cond-false (ltb i s.count) _ _ f ∙ sym (cond-false (ltb i s.count) _ _ f)
