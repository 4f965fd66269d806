-- What a piece says of itself: its whole state, what each call makes of it exactly, and what that means.
use Rattle.std.specs.Prelude.{◌≡◌, ℕ, ◌≤◌, Result}
use Rattle.elements.specs.declared.commands.Command.{Command}
use Rattle.elements.specs.declared.commands.Reply.{Reply}
use Rattle.elements.specs.declared.answers.StepAnswer.{StepAnswer}
use Rattle.elements.specs.declared.refusals.Refusal.{Refusal}
use Rattle.pieces.specs.Names.{Names, Lawful}
use Rattle.pieces.specs.Views.{PieceView, workers_of}
use Rattle.pieces.specs.Calls.{seated, taken, cleared, Stepped}

-- each call, exactly: its answer and the state that it leaves, as a function of the whole state M before it
pub record PieceCalls (E M : Type 0) : Type 0 where
  pub seat : M → ℕ → Command E → Result (Unit {0}) Refusal × M
  pub step : M → ℕ → Result StepAnswer Refusal × M
  pub take : M → ℕ → Result (Reply E) Refusal × M
  pub clear : M → M

-- of a piece that is an S and holds elements E: the contents that it may have, its whole state as a model, what it names,
-- what its state means, and what its calls do
pub record PieceMeaning (S E : Type 0) : Type 1 where
  pub Content : Type 0
  pub Model : Type 0
  pub model : S → Model
  pub names : Model → Names E Content
  pub view : Model → PieceView E Content
  pub calls : PieceCalls E Model

-- no call changes what is named, nor the number of workers
pub record SameNames {E C : Type 0} (N N' : Names E C) (v v' : PieceView E C) : Type 0 where
  pub names : N' ≡ N
  pub workers : workers_of v' ≡ workers_of v

module _ {S E : Type 0} (p : PieceMeaning S E) where
  -- what a call makes of a model, as its view shows it
  abbrev pub shown : {R : Type 0} → R × p.Model → R × PieceView E p.Content
  shown y = (y.0, p.view y.1)

  abbrev pub Same : p.Model → p.Model → Type 0
  Same m m' = SameNames (p.names m) (p.names m') (p.view m) (p.view m')

  -- what every piece owes in the state m, whose element kind has this blank: lawful names, at most sixteen workers, and
  -- that each call lies within its meaning, and changes nothing that is named
  pub record MeaningKept (blank : E) (m : p.Model) : Type 0 where
    pub lawful : Lawful (p.names m)
    pub blank_named : (p.names m).blank ≡ blank
    pub few_workers : workers_of (p.view m) ≤ 16
    pub seat_meant : (i : ℕ) (c : Command E) → shown (p.calls.seat m i c) ≡ seated (p.names m) (p.view m) i c
    pub step_meant : (i : ℕ) → Stepped (p.names m) (p.view m) i (p.calls.step m i).0 (p.view (p.calls.step m i).1)
    pub take_meant : (i : ℕ) → shown (p.calls.take m i) ≡ taken (p.names m) (p.view m) i
    pub clear_meant : p.view (p.calls.clear m) ≡ cleared (p.view m)
    pub seat_same : (i : ℕ) (c : Command E) → Same m (p.calls.seat m i c).1
    pub step_same : (i : ℕ) → Same m (p.calls.step m i).1
    pub take_same : (i : ℕ) → Same m (p.calls.take m i).1
    pub clear_same : Same m (p.calls.clear m)

  -- the names and the view of a piece
  abbrev pub names_of : S → Names E p.Content
  names_of x = p.names (p.model x)

  abbrev pub view_of : S → PieceView E p.Content
  view_of x = p.view (p.model x)
