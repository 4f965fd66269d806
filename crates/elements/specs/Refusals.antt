-- The number of each question, and which layer asks which.
use Rattle.std.specs.Prelude.{◌≡◌, ℕ, Bool, true, false, ◌||◌, List, [], ◌∷◌, Some, Option, ◌==◌}
use Rattle.elements.specs.declared.refusals.Layer.{Layer}
use Rattle.elements.specs.declared.refusals.Layer.TheVariants.{Bay, Piece, Door, Sheet}
use Rattle.elements.specs.declared.refusals.Cause.{Cause}
use Rattle.elements.specs.declared.refusals.Cause.TheVariants.{NoSuchWorker, NotIdle, UnknownManner, UnknownKind, NoSeatingsLeft, NothingToStep, NothingToTake, NotAway, NotWaiting, NotInside, SheetTooLong, RecordCutShort, RecordWithoutKind, UnknownRecordKind, SetupMisplaced, WrongBodyLength, UnknownSetup}
use Rattle.elements.specs.declared.refusals.Refusal.{Refusal}

abbrev pub cause_number : Cause → ℕ
cause_number NoSuchWorker = 1
cause_number NotIdle = 2
cause_number UnknownManner = 3
cause_number UnknownKind = 4
cause_number NoSeatingsLeft = 5
cause_number NothingToStep = 6
cause_number NothingToTake = 7
cause_number NotAway = 8
cause_number NotWaiting = 9
cause_number NotInside = 10
cause_number SheetTooLong = 11
cause_number RecordCutShort = 12
cause_number RecordWithoutKind = 13
cause_number UnknownRecordKind = 14
cause_number SetupMisplaced = 15
cause_number WrongBodyLength = 16
cause_number UnknownSetup = 17

-- is n one of these numbers?
abbrev pub one_of : List ℕ → ℕ → Bool
one_of [] n = false
one_of (m ∷ ms) n = n == m || one_of ms n

-- the numbers of the questions that a layer asks
abbrev pub asks : Layer → ℕ → Bool
asks Bay n = one_of (1 ∷ 2 ∷ 3 ∷ 6 ∷ 7 ∷ []) n
asks Piece n = one_of (1 ∷ 2 ∷ 4 ∷ 5 ∷ 6 ∷ 7 ∷ []) n
asks Door n = one_of (1 ∷ 8 ∷ 9 ∷ 10 ∷ []) n
asks Sheet n = one_of (11 ∷ 12 ∷ 13 ∷ 14 ∷ 15 ∷ 16 ∷ 17 ∷ []) n

-- the refusal of a layer at its question number n; the two proofs, each `refl`, tie the number to the cause and to the layer
abbrev pub refusal : (l : Layer) (n : ℕ) (c : Cause) → cause_number c ≡ n → asks l n ≡ true → Refusal
refusal l n c numbered asked = record { layer = l; cause = c }

-- one question: its no decides, its yes leaves it to the questions after it
abbrev pub ask : Bool → Refusal → Option Refusal → Option Refusal
ask true r later = later
ask false r later = Some r
