-- What a call of a tray finds in the tray's type, and puts back there.
use Rattle.std.proofs.Common.{◌≡◌, ℕ, ◌+◌, ◌<◌, ◌≤◌, length, take, true, Ok, Err, Result, List, sym, subst, arith}
use mathlib.Core.Logic.{∥∥₁_elim}
use base.Stored.{Coded}
use Rattle.std.proofs.Props.{props}
use Rattle.std.proofs.lemmas.List.{length-map, length-take-le}
use Rattle.std.specs.Result.{IsErrAnd}
use Rattle.std.proofs.lemmas.Result.{err_from_is_err_and}
use Rattle.elements.specs.Kinds.{uncompared}
use Rattle.elements.specs.Outcomes.{Exactly}
use Rattle.elements.specs.declared.answers.StepAnswer.{StepAnswer}
use Rattle.elements.specs.declared.commands.Command.{Command}
use Rattle.elements.specs.declared.element.Element.{Ghosts}
use Rattle.elements.specs.declared.refusals.Refusal.{Refusal}
use Rattle.pieces.specs.Calls.{most_seatings}
use Rattle.pieces.specs.declared.tray.Tray.{Tray}
use Rattle.pieces.specs.declared.tray.records.TrayKind.{TrayKind}
use Rattle.pieces.specs.declared.seats.Seat.TheVariants.{Empty, Loaded}
use Rattle.pieces.specs.Seats.{seat_at, occupant, idle, once_more}
use Rattle.pieces.specs.TrayAccess.{accessed}
use Rattle.pieces.specs.TrayBounds.{Reachable}
use Rattle.pieces.specs.TrayCalls.{filled, seat_outcome, step_outcome}
use Rattle.pieces.specs.TrayKinds.{TrayCommand, TraySeat, tray_kind_of}
use Rattle.pieces.specs.TrayStates.{TrayState, with_seat, with_seats}
use Rattle.pieces.specs.TraySound.{Sound}
use Rattle.pieces.specs.Trays.{tray_state}
use Rattle.pieces.proofs.Bounds.{Rests}
use Rattle.pieces.proofs.CallLaws.{if_there}
use Rattle.pieces.proofs.Keeping.{seat_ok_one, known, keep}
use Rattle.pieces.proofs.Reaching.{reachable}
use Rattle.pieces.proofs.Sameness.{step_by_tick}
use Rattle.pieces.proofs.SeatLaws.{occupant_in}
use Rattle.pieces.proofs.Soundness.{more_seatings, step_sound, loaded_sound, rested_sound, some_emptied_sound}

-- where there is one seating more, there were some left
more_left : (m n : ℕ) → ◌≡◌ {A = Result ℕ Refusal} (Ok n) (once_more m) → (m < most_seatings) × (n ≡ m + 1)
more_left m n more = grind arith

module _ {E : Type 0} {g : Ghosts E} (x : Tray E g) where
  abbrev s : TrayState E
  s = tray_state x

  -- every worker has a seat
  pub enough : x.count ≤ length x.seats.now
  enough = ∥∥₁_elim x.sound (hlevel props) (λ o. o.bounded.seats_long)

  pub occupant_is : (i : ℕ) → occupant (length (take x.count x.seats.now)) (take x.count x.seats.now) i ≡ occupant x.count x.seats.now i
  occupant_is = occupant_in x.count x.seats.now enough

  -- it is one seating more
  pub more_kept : (n : ℕ) → ◌≡◌ {A = Result ℕ Refusal} (Ok n) (once_more x.seatings) → ∥ Sound g.kind.blank (record s { seatings = n }) ∥₁
  more_kept n more =
      let m = more_left _ _ more in
      ∥∥₁_elim x.sound (hlevel props) (λ o. ∣ more_seatings g.kind.blank s o n (omega (arith, m.1)) (omega (arith, m.0, m.1)) ∣₁)

  -- the first n seats are emptied, as all of them are
  pub cleared_kept : (n : ℕ) (qs : List (TraySeat E)) → qs ≡ filled n Empty x.seats.now → n ≤ x.count → ∥ Sound g.kind.blank (with_seats s qs) ∥₁
  cleared_kept n qs is few =
      ∥∥₁_elim x.sound (hlevel props) (λ o. ∣ subst (λ z. Sound g.kind.blank (with_seats s z)) (sym is) (some_emptied_sound g.kind s o n few) ∣₁)

  -- worker i's seat is q
  module _ (i : ℕ) (q : TraySeat E) (held : ◌≡◌ {A = Result (TraySeat E) Refusal} (Ok q) (occupant x.count x.seats.now i)) where
    there : i < x.count
    there = grind arith

    pub within : i < length x.seats.now
    within = omega (arith, there, enough)

    -- it is left without a command, as when it is emptied
    pub rested_kept : (q' : TraySeat E) → Rests q' → ∥ Sound g.kind.blank (with_seat s i q') ∥₁
    rested_kept q' rests = ∥∥₁_elim x.sound (hlevel props) (λ o. ∣ rested_sound g.kind s o i there q' rests ∣₁)

    -- or loaded, which is one seating more
    pub loaded_kept : (n : ℕ) (d : TrayCommand E) → ◌≡◌ {A = Result ℕ Refusal} (Ok n) (once_more x.seatings)
        → ∥ Sound g.kind.blank (with_seat (record s { seatings = n }) i (Loaded d)) ∥₁
    loaded_kept n d more =
        let m = more_left _ _ more in
        ∥∥₁_elim x.sound (hlevel props)
        (λ o. ∣ subst (λ z. Sound g.kind.blank (with_seat (record s { seatings = z }) i (Loaded d))) (sym m.1) (loaded_sound g.kind s o i there d m.0) ∣₁)

    -- an access of it has what it relies on,
    pub reached : Reachable x.room x.cells.now x.heads.now (seat_at x.seats.now i)
    reached = ∥∥₁_elim x.sound (hlevel (props, seat_ok_one)) (λ o. reachable g.kind.blank s o.bounded i there)

    -- and leaves z
    module _ (same : (y : E) → g.kind.same y y ≡ true) (r : Result StepAnswer Refusal) (z : TrayState E) (exact : Exactly r z (accessed g.kind s i (seat_at x.seats.now i))) where
      pub stepped_kept : ∥ Sound g.kind.blank z ∥₁
      stepped_kept = ∥∥₁_elim x.sound (hlevel props) (λ o. keep (if_there x.count s i there exact).left (step_sound g.kind s o i same))

      -- whichever elements are the same
      pub stepped_uncompared : Coded E → Exactly r z (step_outcome (uncompared g.kind.blank) s i)
      stepped_uncompared coded =
          subst (λ y. Exactly r z y) (step_by_tick g.kind same s (known coded g.kind.blank s x.sound) i) (if_there x.count s i there exact)

    -- a command whose kind is known comes to it while it is idle: it is seated, or no seatings are left
    module _ (u : Unit {0}) (free : ◌≡◌ {A = Result (Unit {0}) Refusal} (Ok u) (idle q)) (k : TrayKind) (d : Command E) (knows : ◌≡◌ {A = Result TrayKind Refusal} (Ok k) (tray_kind_of d.kind)) where
      pub seated : (n : ℕ) → ◌≡◌ {A = Result ℕ Refusal} (Ok n) (once_more x.seatings)
          → Exactly (Ok tt) (with_seat (record s { seatings = n }) i (Loaded (record { kind = k; element = d.element }))) (seat_outcome s i d)
      seated n more = grind arith

      pub unseated : (f : Refusal) → ◌≡◌ {A = Result ℕ Refusal} (Err f) (once_more x.seatings) → (r : Result (Unit {0}) Refusal) → IsErrAnd r (λ y. y ≡ f) → Exactly r s (seat_outcome s i d)
      unseated f none r is = let p = err_from_is_err_and r is in grind arith

-- what a Seat and a Take put back, and what tells how many workers there are
pub ruleset seating = (more_kept, loaded_kept)

pub ruleset taking = (within, rested_kept)

pub ruleset counting_workers = (enough, length-map, length-take-le)
