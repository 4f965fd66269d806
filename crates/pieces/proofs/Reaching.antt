-- What an access of a sound tray may rely on.
use Rattle.std.proofs.Common.{◌≡◌, ℕ, ◌<◌, List, length, take, slice_index_or, Result, sym, ap, subst, ◌∙◌, arith}
use Rattle.std.proofs.lemmas.List.{get_or_default}
use Rattle.elements.specs.Outcomes.{Exactly}
use Rattle.elements.specs.declared.answers.StepAnswer.{StepAnswer}
use Rattle.elements.specs.declared.refusals.Refusal.{Refusal}
use Rattle.pieces.specs.Calls.{most_seatings}
use Rattle.pieces.specs.Seats.{seat_at}
use Rattle.pieces.specs.TrayKinds.{TraySeat}
use Rattle.pieces.specs.declared.seats.Seat.TheVariants.{Empty}
use Rattle.pieces.specs.TrayStates.{TrayState}
use Rattle.pieces.specs.TrayBounds.{all_unsettled, Held, Bounded, Reachable}
use Rattle.pieces.proofs.Ticks.{seat_kept}

pub reachable : {E : Type 0} (blank : E) (s : TrayState E) → Bounded blank s → (i : ℕ) → i < s.count → Reachable s.room s.cells s.heads (seat_at s.seats i)
reachable blank s b i l =
    let p = all_unsettled s.room (take s.count s.seats) in
    let h : Held blank s p = b.held (omega arith) in
    record {
      heads = h.heads_long;
      cells = h.cells_long;
      room = b.room_small;
      remembered = seat_kept p s.seatings 0 most_seatings (omega (arith, b.few)) s.room _ (h.seats_ok i l);
    }

-- the seat of worker i, read with any default
pub there : {E : Type 0} (qs : List (TraySeat E)) (i : ℕ) (d q : TraySeat E) → i < length qs → slice_index_or qs i d ≡ q → q ≡ seat_at qs i
there qs i d q l e = sym e ∙ get_or_default qs i d Empty l

-- an access of worker i, whose seat is q
pub at_worker : {E : Type 0} (f : TraySeat E → Result StepAnswer Refusal × TrayState E) {r : Result StepAnswer Refusal} {s : TrayState E} (q q' : TraySeat E) → q ≡ q'
    → (r, s) ≡ f q → Exactly r s (f q')
at_worker f {r} {s} q q' e same = subst (λ z. Exactly r s (f z)) e (record { answer = ap (λ y. y.0) same; left = ap (λ y. y.1) same })
