-- The run of the held feeder, and what is laid on and comes off in a run.
use Rattle.std.specs.Prelude.{◌≡◌, ℕ, cond, List, [], ◌∷◌, ◌++◌, length, take, drop, replicate, pos, Some, None, Ok, Err, Option, ◌==◌}
use Rattle.std.specs.List.{filter_map}
use Rattle.std.specs.List.Sorted.{IsPermutation}
use Rattle.elements.specs.declared.answers.StepAnswer.TheVariants.{Moved}
use Rattle.elements.specs.Codes.{code_number}
use Rattle.elements.specs.Kinds.{ElementKind}
use Rattle.elements.specs.declared.commands.Command.{Command}
use Rattle.elements.specs.declared.commands.Code.TheVariants.{Done, Popped}
use Rattle.pieces.specs.TrayKinds.{push, pop}
use Rattle.pieces.specs.declared.seats.Seat.TheVariants.{Empty}
use Rattle.pieces.specs.TrayStates.{TrayState}
use Rattle.pieces.specs.TrayCalls.{made_tray}
use Rattle.runs.specs.declared.events.Call.{Call}
use Rattle.runs.specs.declared.events.Call.TheVariants.{Seat, Step, Take}
use Rattle.runs.specs.declared.events.Access.{Access}
use Rattle.runs.specs.declared.events.Step.{Step as StepEvent}
use Rattle.runs.specs.declared.events.Event.{Event}
use Rattle.runs.specs.declared.events.Event.TheVariants.{Seated, Stepped, Taken}
use Rattle.runs.specs.declared.held_feeder.Batches.{Batches}
use Rattle.runs.specs.Events.{events_of}

module _ {E : Type 0} where
  -- the five accesses of a try, and the reply
  abbrev pub tried : ℕ → List (Call E)
  tried i = Step i ∷ Step i ∷ Step i ∷ Step i ∷ Step i ∷ Take i ∷ []

  -- a command of worker i, from its seat to its reply
  abbrev pub whole : ℕ → Command E → List (Call E)
  whole i c = Seat i c ∷ tried i

  -- a command whose worker is held between reading a cell and writing it
  abbrev pub held : ℕ → Command E → List (Call E)
  held i c = Seat i c ∷ Step i ∷ Step i ∷ []

  -- the held worker goes on: the late write, the rest of that try, and another one
  abbrev pub resumed : ℕ → List (Call E)
  resumed i = Step i ∷ Step i ∷ Step i ∷ tried i

  -- feeder 0 is held as it pushes `late`, while feeder 1 takes `first` off and lays `second` on, and feeder 2 lays
  -- `third` on; at the end everything is taken off
  abbrev pub before_late : E → Batches E → List (Call E)
  before_late blank b =
      whole 1 (push b.first) ++ held 0 (push b.late) ++ whole 1 (pop blank) ++ whole 1 (push b.second) ++ whole 2 (push b.third)

  abbrev pub held_feeder : E → Batches E → List (Call E)
  held_feeder blank b = before_late blank b ++ resumed 0 ++ whole 2 (pop blank) ++ whole 2 (pop blank) ++ whole 2 (pop blank)

  -- what an event takes off: the element of a reply that says popped
  abbrev pub popped : Event E → Option E
  popped (Seated i c r) = None
  popped (Stepped a) = None
  popped (Taken i (Ok r)) = cond (r.code == code_number Popped) (Some r.element) None
  popped (Taken i (Err x)) = None

  -- what comes off in a run
  abbrev pub came_off : List (Event E) → List E
  came_off = filter_map popped

  -- what is laid on: at each reply that says done, the element of that worker's latest command; f has those so far
  abbrev pub laid_since : (ℕ → E) → List (Event E) → List E
  laid_since f [] = []
  laid_since f (Seated i c (Ok u) ∷ vs) = laid_since (λ j. cond (j == i) c.element (f j)) vs
  laid_since f (Seated i c (Err x) ∷ vs) = laid_since f vs
  laid_since f (Stepped a ∷ vs) = laid_since f vs
  laid_since f (Taken i (Ok r) ∷ vs) = cond (r.code == code_number Done) (f i ∷ laid_since f vs) (laid_since f vs)
  laid_since f (Taken i (Err x) ∷ vs) = laid_since f vs

  abbrev pub laid_on : E → List (Event E) → List E
  laid_on blank vs = laid_since (λ _. blank) vs

-- a new tray with four places for three workers
abbrev pub fresh : {E : Type 0} → ElementKind E → TrayState E
fresh e =
    made_tray e (replicate 5 (record { element = e.blank; tick = pos 0 })) (replicate 1 (record { index = 0; element = e.blank; tick = pos 0 }))
    (replicate 3 Empty)

-- the late write, as the run has it: access 3 of feeder 0, which saw `first` on top at cell 1 and finds the newer
-- `second` there
abbrev pub late_access : {E : Type 0} → Batches E → Access E
late_access b =
    record {
      number = 3;
      answer = Moved;
      touched = Some (record { index = 1; cell = record { element = b.second; tick = pos 2 } });
    }

-- the Step that makes it, with `third` in the head
abbrev pub late_step : {E : Type 0} → Batches E → StepEvent E
late_step b =
    record {
      worker = 0;
      head = Some (record { index = 2; element = b.third; tick = pos 1 });
      access = Ok (late_access b);
    }

-- what the run of the held feeder promises of its events
pub record EachOnce {E : Type 0} (e : ElementKind E) (b : Batches E) (vs : List (Event E)) : Type 0 where
  -- they are those of the calls above, from a new tray
  pub exact : vs ≡ events_of e (fresh e) (held_feeder e.blank b)
  -- all four were laid on
  pub laid : laid_on e.blank vs ≡ b.first ∷ b.second ∷ b.third ∷ b.late ∷ []
  -- what came off is each that was laid on, once
  pub once : IsPermutation (laid_on e.blank vs) (came_off vs)
  -- the late write leaves `second` in its cell
  pub late : take 1 (drop (length (before_late e.blank b)) vs) ≡ Stepped (late_step b) ∷ []
