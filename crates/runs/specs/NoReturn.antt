-- Nothing comes back in a run of a tray.
use Rattle.std.specs.Prelude.{ℕ, List, ◌++◌, ℤ, ◌≤ℤ◌, ◌≢◌}
use Rattle.elements.specs.Kinds.{ElementKind}
use Rattle.pieces.specs.TrayStates.{TrayState, cell_at, head_of}
use Rattle.runs.specs.declared.events.Call.{Call}
use Rattle.runs.specs.Events.{state_after}

module _ {E : Type 0} (e : ElementKind E) where
  -- the index and the tick in the head
  abbrev pub head_pair : TrayState E → ℕ × ℤ
  head_pair s = ((head_of e.blank s.heads).index, (head_of e.blank s.heads).tick)

  -- of every run from the state s on, whatever calls it makes
  pub record NoReturn (s : TrayState E) : Type 0 where
    -- once calls cs have given the head another pair of index and tick, no later calls ds give it that of s again
    pub head : (cs ds : List (Call E)) → (head_pair (state_after e s cs) ≢ head_pair s)
        → head_pair (state_after e s (cs ++ ds)) ≢ head_pair s
    -- the tick of a cell only grows
    pub cells : (cs : List (Call E)) (x : ℕ) → (cell_at e.blank s.cells x).tick ≤ℤ (cell_at e.blank (state_after e s cs).cells x).tick
