-- What a call of a piece does, by its worker: one that there is, or one that there is not.
use Rattle.std.proofs.Common.{◌≡◌, ℕ, ◌+◌, ◌<◌, ◌≤◌, Bool, true, false, cond, ltb, List, None, Ok, Err, Option, Result, sym, refl, ap, ◌∙◌, subst, set}
use Rattle.std.proofs.lemmas.Bool.{ltb-true, lt-ltb, le-ltb, cond-true, cond-false}
use Rattle.elements.specs.Outcomes.{Exactly, unless_refused}
use Rattle.elements.specs.Refusals.{refusal, ask}
use Rattle.elements.specs.declared.answers.StepAnswer.{StepAnswer}
use Rattle.elements.specs.declared.refusals.Refusal.{Refusal}
use Rattle.elements.specs.declared.refusals.Cause.TheVariants.{NoSuchWorker, NotIdle, UnknownKind, NoSeatingsLeft, NothingToStep, NothingToTake}
use Rattle.elements.specs.declared.refusals.Layer.TheVariants.{Piece}
use Rattle.pieces.specs.Names.{Names, knows}
use Rattle.pieces.specs.Views.{SeatView, empty, loaded, PieceView, workers_of, seat_of}
use Rattle.pieces.specs.Accesses.{Allowed, left_at, view_left}
use Rattle.pieces.specs.Outcomes.{refused, if_worker}
use Rattle.pieces.specs.Calls.{most_seatings, is_empty as is_empty_view, can_step, can_take, reply_at, reseated, step_refusal, seated, taken, Stepped}
use Rattle.pieces.specs.Seats.{seat_at, is_empty, reply_in, seat_asked, taken_or, take_asked}
use Rattle.pieces.specs.declared.seats.Seat.{Seat}
use Rattle.elements.specs.declared.commands.Command.{Command}
use Rattle.elements.specs.declared.commands.Reply.{Reply}

-- what a call leaves, by a test
pub by_test : {R M : Type 0} (P : M → Type 0) (b : Bool) (y z : R × M) → (b ≡ true → P y.1) → (b ≡ false → P z.1) → P (cond b y z).1
by_test P true y z f g = f refl
by_test P false y z f g = g refl

-- a call of a worker that there is
pub if_there : {R M : Type 0} {r : Result R Refusal} {s : M} (n : ℕ) (m : M) (i : ℕ) {y : Result R Refusal × M} → i < n → Exactly r s y → Exactly r s (if_worker n m i y)
if_there {r = r} {s = s} n m i {y = y} l o = subst (λ z. Exactly r s z) (sym (cond-true (ltb i n) y _ (lt-ltb i n l))) o

-- and of one that there is not
pub unknown : {R M : Type 0} {r : Result R Refusal} {s : M} (n : ℕ) (m : M) (i : ℕ) (y : Result R Refusal × M) → n ≤ i
    → r ≡ Err (refusal Piece 1 NoSuchWorker refl refl) → s ≡ m → Exactly r s (if_worker n m i y)
unknown {r = r} {s = s} n m i y l e f =
    subst (λ z. Exactly r s z) (sym (cond-false (ltb i n) y _ (le-ltb i n l))) (record { answer = e; left = f })

-- what Seat and Take leave of a piece whose workers have the seats qs: the piece as it was, or m'
module _ {K E T M : Type 0} (qs : List (Seat K E T)) (n : ℕ) (m m' : M) (P : M → Type 0) (was : P m) (i : ℕ) where
  pub seat_left : (g : ℕ) (known : Bool) → (i < n → known ≡ true → g < most_seatings → P m') → P (seat_asked qs n m i g known m').1
  seat_left g known then =
      by_test P (ltb i n) _ _
      (λ l. by_test P (is_empty (seat_at qs i)) _ _
      (λ _. by_test P known _ _
      (λ k. by_test P (ltb g most_seatings) _ _ (λ f. then (ltb-true i n l) k (ltb-true g most_seatings f)) (λ _. was))
      (λ _. was)) (λ _. was)) (λ _. was)

  pub take_left : (blank : E) → (i < n → P m') → P (take_asked qs n m blank i m').1
  take_left blank then = by_test P (ltb i n) _ _ (λ l. go (ltb-true i n l) (reply_in blank (seat_at qs i))) (λ _. was)
    where
      go : i < n → (r : Result (Reply E) Refusal) → P (taken_or qs n m m' r).1
      go l (Ok r) = then l
      go l (Err x) = was

module _ {E C M : Type 0} (view : M → PieceView E C) (m : M) (i n : ℕ) (size : workers_of (view m) ≡ n) where
  abbrev nobody : Refusal
  nobody = refusal Piece 1 NoSuchWorker refl refl

  -- a call that is refused with 1 to a worker that there is not, and else is y, is within a meaning that asks so first
  pub by_worker : {R : Type 0} (later : Option Refusal) (y : Result R Refusal × M) (z : R × PieceView E C)
      → (i < n → ◌≡◌ {A = Result R Refusal × PieceView E C} (y.0, view y.1) (unless_refused later (view m) z))
      → ◌≡◌ {A = Result R Refusal × PieceView E C}
      ((if_worker n m i y).0, view (if_worker n m i y).1)
      (unless_refused (ask (ltb i (workers_of (view m))) nobody later) (view m) z)
  by_worker {R} later y z known =
      go (ltb i n) refl ∙ ap (λ k. unless_refused (ask (ltb i k) nobody later) (view m) z) (sym size)
    where
      go : (b : Bool) → ltb i n ≡ b
          → ◌≡◌ {A = Result R Refusal × PieceView E C} ((cond b y (Err nobody, m)).0, view (cond b y (Err nobody, m)).1)
          (unless_refused (ask (ltb i n) nobody later) (view m) z)
      go true e = known (ltb-true i n e) ∙ ap (λ b. unless_refused (ask b nobody later) (view m) z) (sym e)
      go false e = ap (λ b. unless_refused (ask b nobody later) (view m) z) (sym e)

  -- and a Step
  pub step_by_worker : (N : Names E C) (y : Result StepAnswer Refusal × M) → (i < n → Stepped N (view m) i y.0 (view y.1))
      → Stepped N (view m) i (if_worker n m i y).0 (view (if_worker n m i y).1)
  step_by_worker N y known = go (ltb i n) refl
    where
      go : (b : Bool) → ltb i n ≡ b → Stepped N (view m) i (cond b y (Err nobody, m)).0 (view (cond b y (Err nobody, m)).1)
      go true e = known (ltb-true i n e)
      go false e = (
        ap (λ b. ask b nobody (ask (can_step (seat_of (view m) i)) (refusal Piece 6 NothingToStep refl refl) None)) (ap (ltb i) size ∙ e),
        refl,
      )

  -- the questions before a Step of a worker that there is, whose seat means w
  pub step_asked : i < n → (w : SeatView E) → seat_of (view m) i ≡ w → step_refusal (view m) i ≡ ask (can_step w) (refusal Piece 6 NothingToStep refl refl) None
  step_asked l w at =
      ap (λ b. ask b nobody (ask (can_step (seat_of (view m) i)) (refusal Piece 6 NothingToStep refl refl) None)) (ap (ltb i) size ∙ lt-ltb i n l)
      ∙ ap (λ q. ask (can_step q) (refusal Piece 6 NothingToStep refl refl) None) at

  -- an access at a seat that means w is within the meaning, if its answer is allowed there and leaves what it says
  pub step_within : (N : Names E C) → i < n → (w : SeatView E) → seat_of (view m) i ≡ w → can_step w ≡ true → (a : StepAnswer) (u : PieceView E C)
      → Allowed N.longest w a → u ≡ view_left N (view m) i (left_at N (view m).content w a) → Stepped N (view m) i (Ok a) u
  step_within N l w at can a u allowed left = (
    step_asked l w at ∙ ap (λ b. ask b (refusal Piece 6 NothingToStep refl refl) None) can,
    subst (λ q. Allowed N.longest q a) (sym at) allowed,
    left ∙ ap (λ q. view_left N (view m) i (left_at N (view m).content q a)) (sym at),
  )

  -- and a Step at a seat that cannot be stepped is refused
  pub step_without : (N : Names E C) → i < n → (w : SeatView E) → seat_of (view m) i ≡ w → can_step w ≡ false
      → Stepped N (view m) i (Err (refusal Piece 6 NothingToStep refl refl)) (view m)
  step_without N l w at cannot = (step_asked l w at ∙ ap (λ b. ask b (refusal Piece 6 NothingToStep refl refl) None) cannot, refl)

  -- a Seat of the command c, which leaves m' if it is not refused, by the answers to its last three questions
  module _ (N : Names E C) (c : Command E) (m' : M) where
    abbrev loaded_view : PieceView E C
    loaded_view = record { content = (view m).content; seatings = (view m).seatings + 1; seats = set (view m).seats i (loaded c) }

    abbrev asked : Bool → Bool → Bool → Result (Unit {0}) Refusal × M
    asked idle known more =
        cond idle (cond known (cond more (Ok tt, m') (refused m 5 NoSeatingsLeft refl refl)) (refused m 4 UnknownKind refl refl))
        (refused m 2 NotIdle refl refl)

    abbrev meant : Bool → Bool → Bool → Result (Unit {0}) Refusal × PieceView E C
    meant idle known more =
        unless_refused
        (ask idle (refusal Piece 2 NotIdle refl refl)
        (ask known (refusal Piece 4 UnknownKind refl refl) (ask more (refusal Piece 5 NoSeatingsLeft refl refl) None)))
        (view m) (tt, loaded_view)

    by_answers : (idle known more : Bool) → (known ≡ true → view m' ≡ loaded_view)
        → ((asked idle known more).0, view (asked idle known more).1) ≡ meant idle known more
    by_answers true true true shows = λ j. (Ok tt, shows refl j)
    by_answers true true false shows = refl
    by_answers true false more shows = refl
    by_answers false known more shows = refl

    -- it is within the meaning, if the worker's seat means what it is, what is known is what is named, and a command that is
    -- known and seated is shown as loaded
    pub seat_within : {K T : Type 0} (qs : List (Seat K E T)) (known : Bool) → known ≡ knows N c
        → (i < n → is_empty_view (seat_of (view m) i) ≡ is_empty (seat_at qs i)) → (known ≡ true → view m' ≡ loaded_view)
        → ◌≡◌ {A = Result (Unit {0}) Refusal × PieceView E C}
        ((seat_asked qs n m i (view m).seatings known m').0, view (seat_asked qs n m i (view m).seatings known m').1) (seated N (view m) i c)
    seat_within qs known named same shows =
        by_worker _ (asked (is_empty (seat_at qs i)) known (ltb (view m).seatings most_seatings)) _
        (λ l.
        by_answers (is_empty (seat_at qs i)) known (ltb (view m).seatings most_seatings) shows
        ∙ ap (λ idle. meant idle known (ltb (view m).seatings most_seatings)) (sym (same l))
        ∙ ap (λ k. meant (is_empty_view (seat_of (view m) i)) k (ltb (view m).seatings most_seatings)) named)

  -- a Take that leaves m' if it is not refused, where the worker's seat means w
  module _ {K T : Type 0} (N : Names E C) (qs : List (Seat K E T)) (m' : M) where
    abbrev offered : Seat K E T → Result (Reply E) Refusal × M
    offered q = taken_or qs n m m' (reply_in N.blank q)

    -- it is within the meaning, if what can be taken from a seat is what its meaning offers, and a seat that is emptied is shown so
    pub take_within : (i < n → (can_take (seat_of (view m) i) ≡ true → reply_in N.blank (seat_at qs i) ≡ Ok (reply_at N.blank (seat_of (view m) i)))
        × (can_take (seat_of (view m) i) ≡ false → reply_in N.blank (seat_at qs i) ≡ Err (refusal Piece 7 NothingToTake refl refl)))
        → view m' ≡ reseated (view m) i empty
        → ◌≡◌ {A = Result (Reply E) Refusal × PieceView E C}
        ((take_asked qs n m N.blank i m').0, view (take_asked qs n m N.blank i m').1) (taken N (view m) i)
    take_within offers shows =
        by_worker _ (offered (seat_at qs i)) _ (λ l. go (can_take (seat_of (view m) i)) refl (offers l))
      where
        go : (b : Bool) → can_take (seat_of (view m) i) ≡ b
            → (can_take (seat_of (view m) i) ≡ true → reply_in N.blank (seat_at qs i) ≡ Ok (reply_at N.blank (seat_of (view m) i)))
            × (can_take (seat_of (view m) i) ≡ false → reply_in N.blank (seat_at qs i) ≡ Err (refusal Piece 7 NothingToTake refl refl))
            → ◌≡◌ {A = Result (Reply E) Refusal × PieceView E C}
            ((offered (seat_at qs i)).0, view (offered (seat_at qs i)).1)
            (unless_refused (ask (can_take (seat_of (view m) i)) (refusal Piece 7 NothingToTake refl refl) None) (view m) (reply_at N.blank (seat_of (view m) i), reseated (view m) i empty))
        go true e w =
            ap (λ r. ((taken_or qs n m m' r).0, view (taken_or qs n m m' r).1)) (w.0 e)
            ∙ (λ j. (Ok (reply_at N.blank (seat_of (view m) i)), shows j))
            ∙ ap (λ b. unless_refused (ask b (refusal Piece 7 NothingToTake refl refl) None) (view m) (reply_at N.blank (seat_of (view m) i), reseated (view m) i empty)) (sym e)
        go false e w =
            ap (λ r. ((taken_or qs n m m' r).0, view (taken_or qs n m m' r).1)) (w.1 e)
            ∙ ap (λ b. unless_refused (ask b (refusal Piece 7 NothingToTake refl refl) None) (view m) (reply_at N.blank (seat_of (view m) i), reseated (view m) i empty)) (sym e)
