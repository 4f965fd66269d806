-- What takes place in a run of a tray: one event for each call, and the state after them all.
use Rattle.std.specs.Prelude.{◌≡◌, ℕ, List, Some, None, Ok, Err, vec_items, Option, Result, Vec}
use Rattle.std.specs.List.{fold, scan}
use Rattle.std.specs.Option.{option_map}
use Rattle.std.specs.Result.{result_map_both}
use Rattle.std.specs.declared.alloc.Global.{Global}
use Rattle.std.specs.declared.alloc.AllocError.{AllocError}
use Rattle.elements.specs.Kinds.{ElementKind}
use Rattle.elements.specs.declared.answers.StepAnswer.{StepAnswer}
use Rattle.elements.specs.declared.refusals.Refusal.{Refusal}
use Rattle.pieces.specs.TrayKinds.{TraySeat}
use Rattle.pieces.specs.declared.seats.Seat.TheVariants.{Empty, Loaded, Ended, Running}
use Rattle.pieces.specs.declared.tray.records.Phase.TheVariants.{HeadRead, CellRead, CellWritten, NeighbourRead}
use Rattle.pieces.specs.TrayStates.{TrayState}
use Rattle.pieces.specs.TrayAccess.{neighbour}
use Rattle.pieces.specs.TrayCalls.{seat_outcome, step_outcome, take_outcome}
use Rattle.pieces.specs.TrayShown.{shown_head, shown_cell, shown_seat}
use Rattle.runs.specs.declared.events.Call.{Call}
use Rattle.runs.specs.declared.events.Call.TheVariants.{Seat as SeatCall, Step as StepCall, Take as TakeCall}
use Rattle.runs.specs.declared.events.Touched.{Touched}
use Rattle.runs.specs.declared.events.Access.{Access}
use Rattle.runs.specs.declared.events.Step.{Step}
use Rattle.runs.specs.declared.events.Event.{Event}
use Rattle.runs.specs.declared.events.Event.TheVariants.{Seated, Stepped, Taken}

module _ {E : Type 0} where
  -- which access a seat makes next; 0 for one that makes none
  abbrev pub access_number_of : TraySeat E → ℕ
  access_number_of Empty = 0
  access_number_of (Loaded c) = 1
  access_number_of (Running (HeadRead t)) = 2
  access_number_of (Running (CellRead t u)) = 3
  access_number_of (Running (CellWritten t)) = 4
  access_number_of (Running (NeighbourRead t x)) = 5
  access_number_of (Ended r) = 0

  -- 0 for a worker that there is not
  abbrev pub access_number : Option (TraySeat E) → ℕ
  access_number None = 0
  access_number (Some q) = access_number_of q

  -- a cell of a tray with its index
  abbrev pub touched_at : E → TrayState E → ℕ → Option (Touched E)
  touched_at blank s x = option_map (λ c. record { index = x; cell = c }) (shown_cell blank s x)

  -- the cell that a seat touches next, in the state s: accesses 2 and 3 the one of the head that the try saw, access 4
  -- the one that the try makes the top
  abbrev pub touched_of : E → TrayState E → TraySeat E → Option (Touched E)
  touched_of blank s Empty = None
  touched_of blank s (Loaded c) = None
  touched_of blank s (Running (HeadRead t)) = touched_at blank s t.head.index
  touched_of blank s (Running (CellRead t u)) = touched_at blank s t.head.index
  touched_of blank s (Running (CellWritten t)) = touched_at blank s (neighbour t)
  touched_of blank s (Running (NeighbourRead t x)) = None
  touched_of blank s (Ended r) = None

  -- and none for a worker that there is not
  abbrev pub touched : E → TrayState E → Option (TraySeat E) → Option (Touched E)
  touched blank s None = None
  touched blank s (Some q) = touched_of blank s q

  -- what is told of an access from the seat q that was answered a and left the state s
  abbrev pub access_of : E → TrayState E → Option (TraySeat E) → StepAnswer → Access E
  access_of blank s q a = record { number = access_number q; answer = a; touched = touched blank s q }

module _ {E : Type 0} (e : ElementKind E) where
  -- what is told of the access that a Step of worker i makes in the state s, or why it is refused: the cell is the one
  -- after it
  abbrev pub access_told : TrayState E → ℕ → Result (Access E) Refusal
  access_told s i =
      result_map_both (access_of e.blank (step_outcome e s i).1 (shown_seat s i)) (λ x. x) (step_outcome e s i).0

  -- what is told of that Step: the head too is the one after it
  abbrev pub step_of : TrayState E → ℕ → Step E
  step_of s i =
      record {
        worker = i;
        head = shown_head e.blank (step_outcome e s i).1;
        access = access_told s i;
      }

  -- one call: its event, and the state that it leaves
  abbrev pub performed : TrayState E → Call E → Event E × TrayState E
  performed s (SeatCall i c) = (Seated i c (seat_outcome s i c).0, (seat_outcome s i c).1)
  performed s (StepCall i) = (Stepped (step_of s i), (step_outcome e s i).1)
  performed s (TakeCall i) = (Taken i (take_outcome e s i).0, (take_outcome e s i).1)

  -- the events of calls made one after another
  abbrev pub events_of : TrayState E → List (Call E) → List (Event E)
  events_of = scan (λ s c. (performed s c).1) (λ s c. (performed s c).0)

  -- and the state after them all
  abbrev pub state_after : TrayState E → List (Call E) → TrayState E
  state_after = fold (λ s c. (performed s c).1)

  -- a run from s to s': every event, in order; or nothing at all, for want of memory
  abbrev pub Played : TrayState E → List (Call E) → Result (Vec (Event E) Global) AllocError → TrayState E → Type 0
  Played s cs (Ok v) s' = (vec_items v ≡ events_of s cs) × (s' ≡ state_after s cs)
  Played s cs (Err x) s' = s' ≡ s
