-- A try that nobody disturbs: five accesses, after which its reply is the one of a try that moved the head.
use Rattle.std.proofs.Common.{◌≡◌, ℕ, ◌<◌, ◌≤◌, true, false, cond, ◌&&◌, ltb, List, length, set, pos, ◌-ℤ◌, Ok, Result, refl, ap, ◌∙◌, arith}
use Rattle.std.proofs.lemmas.List.{get_or-set_same, set-set}
use Rattle.std.proofs.Math.Bool.{and-true}
use Rattle.std.proofs.lemmas.Bool.{cond-true, lt-ltb, eq-eqb, and_from}
use Rattle.elements.specs.Kinds.{ElementKind}
use Rattle.elements.specs.declared.commands.Reply.{Reply}
use Rattle.elements.specs.declared.refusals.Refusal.{Refusal}
use Rattle.pieces.specs.declared.tray.records.Cell.{Cell}
use Rattle.pieces.specs.declared.tray.records.Head.{Head}
use Rattle.pieces.specs.Ticks.{tick_eq}
use Rattle.pieces.proofs.TickLaws.{Decides-tick_eq}
use Rattle.pieces.specs.declared.tray.records.Try.{Try}
use Rattle.pieces.specs.declared.tray.records.Next.{Next}
use Rattle.pieces.specs.TrayKinds.{TrayCommand, TraySeat}
use Rattle.pieces.specs.declared.seats.Seat.TheVariants.{Empty, Loaded, Ended, Running}
use Rattle.pieces.specs.declared.tray.records.Phase.TheVariants.{HeadRead, CellRead, CellWritten, NeighbourRead}
use Rattle.pieces.specs.TrayStates.{TrayState, cell_at, head_of, with_seats, with_cells, with_head}
use Rattle.pieces.specs.TrayAccess.{at_limit, helped_cells, next_of, unchanged, moved_head, limit_reply, done_reply, accessed}
use Rattle.pieces.specs.TrayCalls.{step_outcome, take_outcome}
use Rattle.pieces.specs.Seats.{reply_in, taken_or}

-- a Step of worker i
abbrev pub stepped : {E : Type 0} → ElementKind E → ℕ → TrayState E → TrayState E
stepped e i s = (step_outcome e s i).1

-- five of them, and a Take
abbrev pub ended_try : {E : Type 0} → ElementKind E → ℕ → TrayState E → Result (Reply E) Refusal × TrayState E
ended_try e i s = take_outcome e (stepped e i (stepped e i (stepped e i (stepped e i (stepped e i s))))) i

module _ {E : Type 0} (e : ElementKind E) (s : TrayState E) (i : ℕ) (l : i < s.count) (long : s.count ≤ length s.seats) where
  within : i < length s.seats
  within = omega arith

  -- the state with the seat q of worker i, in other cells
  abbrev at : List (Cell E) → TraySeat E → TrayState E
  at cs q = with_seats (with_cells s cs) (set s.seats i q)

  -- a Step there
  step_at : (cs : List (Cell E)) (q : TraySeat E) → step_outcome e (at cs q) i ≡ accessed e (at cs q) i q
  step_at cs q =
      cond-true (ltb i s.count) _ _ (lt-ltb i s.count l)
      ∙ ap (accessed e (at cs q) i) (get_or-set_same s.seats i q Empty within)

  -- the seat is written again
  again : (cs : List (Cell E)) (q q' : TraySeat E) → with_seats (at cs q) (set (at cs q).seats i q') ≡ at cs q'
  again cs q q' = ap (with_seats (with_cells s cs)) (set-set s.seats i q q')

  module _ (law : (x : E) → e.same x x ≡ true) (c : TrayCommand E) (free : at_limit s.room (head_of e.blank s.heads) c ≡ false) where
    abbrev h : Head E
    h = head_of e.blank s.heads

    abbrev t : Try E
    t = record { command = c; head = h }

    abbrev cell : Cell E
    cell = cell_at e.blank s.cells h.index

    -- the cells after access 3
    abbrev cells' : List (Cell E)
    cells' = cond (tick_eq cell.tick (h.tick -ℤ pos 1)) (set s.cells h.index (record { element = h.element; tick = h.tick })) s.cells

    abbrev n : Next E
    n = next_of e cells' t

    -- the state after access 5, with the seat q of worker i
    abbrev moved : TraySeat E → TrayState E
    moved q = with_seats (with_head (with_cells s cells') (moved_head e t n)) (set s.seats i q)

    -- and at the end
    abbrev pub solo_state : TrayState E
    solo_state = moved Empty

    helped : helped_cells e s.cells t cell.element ≡ cells'
    helped =
        ap (λ b. cond b (set s.cells h.index (record { element = h.element; tick = h.tick })) s.cells)
        (ap (λ b. tick_eq cell.tick (h.tick -ℤ pos 1) && b) (law cell.element) ∙ and-true (tick_eq cell.tick (h.tick -ℤ pos 1)))

    same_head : unchanged e h t ≡ true
    same_head = and_from _ _ (and_from _ _ (eq-eqb h.index h.index refl) ((Decides-tick_eq h.tick h.tick).1 refl)) (law h.element)

    access_1 : (step_outcome e (at s.cells (Loaded c)) i).1 ≡ at s.cells (Running (HeadRead t))
    access_1 = ap (λ y. y.1) (step_at s.cells (Loaded c)) ∙ again s.cells (Loaded c) (Running (HeadRead t))

    access_2 : (step_outcome e (at s.cells (Running (HeadRead t))) i).1 ≡ at s.cells (Running (CellRead t cell.element))
    access_2 = ap (λ y. y.1) (step_at s.cells (Running (HeadRead t))) ∙ again s.cells (Running (HeadRead t)) (Running (CellRead t cell.element))

    access_3 : (step_outcome e (at s.cells (Running (CellRead t cell.element))) i).1 ≡ at cells' (Running (CellWritten t))
    access_3 =
        let q : TraySeat E = Running (CellRead t cell.element) in
        let full : TraySeat E = Ended (limit_reply e c) in
        ap (λ y. y.1) (step_at s.cells q)
        ∙ ap (λ cs. with_seats (with_cells s cs) (set (set s.seats i q) i (cond (at_limit s.room h c) full (Running (CellWritten t))))) helped
        ∙ ap (λ b. with_seats (with_cells s cells') (set (set s.seats i q) i (cond b full (Running (CellWritten t))))) free
        ∙ again cells' q (Running (CellWritten t))

    access_4 : (step_outcome e (at cells' (Running (CellWritten t))) i).1 ≡ at cells' (Running (NeighbourRead t n))
    access_4 = ap (λ y. y.1) (step_at cells' (Running (CellWritten t))) ∙ again cells' (Running (CellWritten t)) (Running (NeighbourRead t n))

    access_5 : (step_outcome e (at cells' (Running (NeighbourRead t n))) i).1 ≡ moved (Ended (done_reply e t))
    access_5 =
        ap (λ y. y.1) (step_at cells' (Running (NeighbourRead t n)) ∙ cond-true (unchanged e h t) _ _ same_head)
        ∙ ap (with_seats (with_head (with_cells s cells') (moved_head e t n))) (set-set s.seats i (Running (NeighbourRead t n)) (Ended (done_reply e t)))

    took : take_outcome e (moved (Ended (done_reply e t))) i ≡ (Ok (done_reply e t), solo_state)
    took =
        cond-true (ltb i s.count) _ _ (lt-ltb i s.count l)
        ∙ ap (λ q. taken_or (moved (Ended (done_reply e t))).seats s.count (moved (Ended (done_reply e t))) (with_seats (moved (Ended (done_reply e t))) (set (moved (Ended (done_reply e t))).seats i Empty)) (reply_in e.blank q)) (get_or-set_same s.seats i (Ended (done_reply e t)) Empty within)
        ∙ ap (λ ss. (Ok (done_reply e t), with_seats (with_head (with_cells s cells') (moved_head e t n)) ss)) (set-set s.seats i (Ended (done_reply e t)) Empty)

    -- the reply of the try, and the state that it leaves
    pub solo : ended_try e i (at s.cells (Loaded c)) ≡ (Ok (done_reply e t), solo_state)
    solo =
        ap (λ z. take_outcome e z i)
        (ap (λ z. stepped e i (stepped e i (stepped e i (stepped e i z)))) access_1
        ∙ ap (λ z. stepped e i (stepped e i (stepped e i z))) access_2
        ∙ ap (λ z. stepped e i (stepped e i z)) access_3
        ∙ ap (stepped e i) access_4
        ∙ access_5)
        ∙ took
