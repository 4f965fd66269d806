-- Every call leaves a tally sound.
use Rattle.std.proofs.Common.{◌≡◌, ℕ, ◌+◌, ◌<◌, ◌≤◌, length, take, set, replicate, pos, ◌+ℤ◌, sum_by, true, ltb, Ok, ℤ, FitsSigned, w64, ◌≤ℤ◌, sym, refl, ap, ◌∙◌, subst, inl, inr, zero-le, arith}
use Rattle.std.specs.Int.{cast_signed, cast_unsigned}
use Rattle.std.proofs.lemmas.List.{length-set, get_or-set_same, get_or-set_other, get_or-replicate, get_or-take, length-take-le, take-replicate}
use Rattle.std.proofs.lemmas.List.Folds.{sum_by-replicate}
use Rattle.std.proofs.lemmas.Int.{ints, to_z-of_z}
use Rattle.std.proofs.lemmas.Bool.{cases_eq, ltb-true}
use Rattle.elements.specs.Codes.{reply}
use Rattle.elements.specs.Kinds.{amount_kind}
use Rattle.elements.specs.Refusals.{one_of}
use Rattle.elements.specs.Outcomes.{Exactly}
use Rattle.elements.specs.declared.answers.StepAnswer.TheVariants.{SettledEnded}
use Rattle.elements.specs.declared.commands.Code.TheVariants.{Added}
use Rattle.elements.specs.declared.commands.Command.{Command}
use Rattle.elements.specs.declared.commands.Reply.{Reply}
use Rattle.elements.specs.declared.kinds.Amount.{Amount}
use Rattle.pieces.specs.declared.seats.KnownCommand.{KnownCommand}
use Rattle.pieces.specs.declared.seats.Seat.TheVariants.{Empty, Loaded, Running, Ended}
use Rattle.pieces.specs.Calls.{most_seatings}
use Rattle.pieces.specs.Seats.{seat_at, occupant, once_more}
use Rattle.pieces.specs.Ticks.{TickOk}
use Rattle.pieces.proofs.TickLaws.{tick_kept, tick_up, tick_most}
use Rattle.pieces.proofs.CallLaws.{by_test, seat_left, take_left}
use Rattle.pieces.proofs.SeatLaws.{sum_set}
use Rattle.tally.specs.declared.Tally.{Tally}
use Rattle.tally.specs.declared.records.Pair.{Pair}
use Rattle.tally.specs.declared.records.PairRead.{PairRead}
use Rattle.tally.specs.declared.records.TallyKind.{TallyKind}
use Rattle.tally.specs.TallyStates.{TallySeat, TallyState, tried, with_seat}
use Rattle.tally.specs.TallyKinds.{tally_kinds, tally_command}
use Rattle.tally.specs.TallyCalls.{pair_read, unchanged, accessed, seat_outcome, step_outcome, take_outcome, clear_outcome, made_tally}
use Rattle.tally.specs.Tallies.{tally_state}
use Rattle.tally.specs.TallySound.{unsettled, TryOk, SeatOk, Sound}
use Rattle.tally.proofs.Keeping.{known}

-- a seat stays as it has to be when the pair is a tick later
later_ok : (m : ℕ) (p p' : Pair) → p'.tick ≡ p.tick +ℤ pos 1 → (q : TallySeat) → SeatOk m p q → SeatOk m p' q
later_ok m p p' e Empty o = tt
later_ok m p p' e (Loaded c) o = tt
later_ok m p p' e (Running r) o = record { fits = o.fits; older = omega (arith, ints); stands = λ f. absurd (omega (arith, ints)) }
later_ok m p p' e (Ended r) o = tt

-- every worker has a seat
pub enough_seats : (s : TallyState) → Sound s → s.count ≤ length s.seats
enough_seats s o = omega (arith, o.seats_long, o.few_workers)

-- worker i's seat is q
module _ (s : TallyState) (o : Sound s) (i : ℕ) (q : TallySeat) (there : i < s.count) (at : seat_at s.seats i ≡ q) where
  abbrev before : ℕ
  before = sum_by unsettled (take s.count s.seats)

  abbrev after : TallySeat → ℕ
  after q' = sum_by unsettled (take s.count (set s.seats i q'))

  counted : (q' : TallySeat) → after q' + unsettled q ≡ before + unsettled q'
  counted q' = ap (λ r. after q' + unsettled r) (sym at) ∙ sum_set unsettled s.count Empty s.seats (enough_seats s o) i there q'

  -- it becomes q', in a tally with another pair and another number of seatings
  changed : (p : Pair) (g : ℕ) (q' : TallySeat) → g ≤ most_seatings → p.total ≤ s.limit → TickOk (after q') g p.tick
      → ((r : TallySeat) → SeatOk s.limit s.pair r → SeatOk s.limit p r) → SeatOk s.limit p q'
      → Sound (with_seat (record s { pair = p; seatings = g }) i q')
  changed p g q' few within tick others ok =
      record {
        seats_long = length-set s.seats i q' ∙ o.seats_long;
        few_workers = o.few_workers;
        few_seatings = few;
        limit_small = o.limit_small;
        within = within;
        tick_ok = tick;
        seats_ok = λ j m. elim (cases_eq j i) [
          | inl e ↦ subst (SeatOk s.limit p)
              (sym (ap (seat_at (set s.seats i q')) e ∙ get_or-set_same s.seats i q' Empty (omega (arith, there, enough_seats s o)))) ok
          | inr n ↦ subst (SeatOk s.limit p) (sym (get_or-set_other s.seats i j q' Empty n)) (others _ (o.seats_ok j m))
        ];
      }

  -- only the seat is another, and there may be more seatings
  reseated : (g : ℕ) (q' : TallySeat) → unsettled q' + s.seatings ≤ unsettled q + g → g ≤ most_seatings → SeatOk s.limit s.pair q'
      → Sound (with_seat (record s { seatings = g }) i q')
  reseated g q' more few ok =
      changed s.pair g q' few o.within (tick_kept before s.seatings (after q') g (omega (arith, counted q')) o.tick_ok) (λ r h. h) ok

-- its try of an add goes in, and has ended
added : (s : TallyState) (o : Sound s) (i : ℕ) (r : PairRead) → i < s.count → seat_at s.seats i ≡ Running r → s.pair.total ≡ r.pair.total
    → (tick : ℤ) (q : TallySeat) (e : Reply Amount) → tick ≡ s.pair.tick +ℤ pos 1 → q ≡ Ended e
    → Sound (with_seat (record s { pair = record { total = s.pair.total + r.amount.units; tick = tick } }) i q)
added s o i r there at same tick q e later ends =
    let p : Pair = record { total = s.pair.total + r.amount.units; tick = tick } in
    let try : TryOk s.limit s.pair r = subst (SeatOk s.limit s.pair) at (o.seats_ok i there) in
    changed s o i (Running r) there at p s.seatings q o.few_seatings (omega (arith, try.fits, same))
    (subst (TickOk _ s.seatings) (sym later)
    (tick_up _ s.seatings _ (omega (arith, counted s o i (Running r) there at q, ap unsettled ends)) s.pair.tick o.tick_ok))
    (later_ok s.limit s.pair p later) (subst (SeatOk s.limit p) (sym ends) tt)

-- worker i's seat is q, as a call finds it
module _ (x : Tally) (i : ℕ) (q : TallySeat) (held : occupant (length (take x.count x.seats)) (take x.count x.seats) i ≡ Ok q) where
  abbrev s : TallyState
  s = tally_state x

  there : i < s.count
  there = let n = enough_seats s (known x) in grind (arith, length-take-le)

  at : seat_at s.seats i ≡ q
  at = grind (arith, get_or-take, there)

  -- a command is seated, and it is one seating more
  pub loaded_kept : (g : ℕ) (c : KnownCommand TallyKind Amount) → once_more s.seatings ≡ Ok g
      → ∥ Sound (with_seat (record s { seatings = g }) i (Loaded c)) ∥₁
  loaded_kept g c more = ∣ reseated s (known x) i q there at g (Loaded c) (grind arith) (grind arith) tt ∣₁

  -- only the seat is another, and no more unsettled than it was
  pub kept : (q' : TallySeat) → unsettled q' ≤ unsettled q → SeatOk s.limit s.pair q' → ∥ Sound (with_seat s i q') ∥₁
  kept q' less ok = ∣ reseated s (known x) i q there at s.seatings q' (omega (arith, less)) (known x).few_seatings ok ∣₁

-- access 1 at worker i's seat
pub read_kept : (x : Tally) (i : ℕ) (c : KnownCommand TallyKind Amount) (q : TallySeat) → occupant (length (take x.count x.seats)) (take x.count x.seats) i ≡ Ok (Loaded c)
    → q ≡ (pair_read x.limit x.pair c.kind c.element).1 → ∥ Sound (with_seat (tally_state x) i q) ∥₁
read_kept x i c q held is = kept x i (Loaded c) held q (grind arith) (grind arith)

-- worker i's try of an add that goes in
module _ (x : Tally) (i : ℕ) (r : PairRead) (held : occupant (length (take x.count x.seats)) (take x.count x.seats) i ≡ Ok (Running r)) where
  -- its total fits
  pub add_fits : x.pair.total ≡ r.pair.total → x.pair.total + r.amount.units ≤ 1000000000
  add_fits same =
      let try : TryOk x.limit x.pair r = subst (SeatOk x.limit x.pair) (at x i (Running r) held) ((known x).seats_ok i (there x i (Running r) held)) in
      omega (arith, same, try.fits, (known x).limit_small)

  -- it ends
  pub added_kept : (tick : ℤ) (q : TallySeat) (e : Reply Amount) → x.pair.total ≡ r.pair.total → tick ≡ x.pair.tick +ℤ pos 1 → q ≡ Ended e
      → ∥ Sound (with_seat (record (tally_state x) { pair = record { total = x.pair.total + r.amount.units; tick = tick } }) i q) ∥₁
  added_kept tick q e same later ends =
      ∣ added (tally_state x) (known x) i r (there x i (Running r) held) (at x i (Running r) held) same tick q e later ends ∣₁

  -- and leaves what it has to, with the tick as it is read
  pub add_left : (tick : ℤ) (q : TallySeat) → unchanged x.pair r.pair ≡ true → tick ≡ x.pair.tick +ℤ pos 1
      → q ≡ Ended (reply Added (record { units = x.pair.total + r.amount.units }))
      → Exactly (Ok SettledEnded) (with_seat (record (tally_state x) { pair = record { total = x.pair.total + r.amount.units; tick = tick } }) i q)
      (step_outcome (tally_state x) i)
  add_left tick q same later ends = let l = there x i (Running r) held in let a = at x i (Running r) held in grind arith

-- of n workers whose seats are all empty, none is unsettled
none_unsettled : (n : ℕ) → n ≤ 16 → sum_by unsettled (take n (replicate 16 Empty)) ≡ 0
none_unsettled n few = omega (arith, ap (sum_by unsettled) (take-replicate n 16 Empty few), sum_by-replicate unsettled n Empty)

-- a tally whose seats are all empty
empty_sound : (p : Pair) (g m n : ℕ) → n ≤ 16 → g ≤ most_seatings → m ≤ 1000000000 → p.total ≤ m → TickOk 0 g p.tick
    → Sound (record { pair = p; seats = replicate 16 Empty; seatings = g; limit = m; count = n })
empty_sound p g m n workers few small within tick =
    record {
      seats_long = refl;
      few_workers = workers;
      few_seatings = few;
      limit_small = small;
      within = within;
      tick_ok = subst (λ k. TickOk k g p.tick) (sym (none_unsettled n workers)) tick;
      seats_ok = λ j l. subst (SeatOk m p) (sym (get_or-replicate 16 j Empty Empty (omega arith))) tt;
    }

pub clear_sound : (s : TallyState) → Sound s → Sound (clear_outcome s)
clear_sound s o =
    empty_sound s.pair s.seatings s.limit s.count o.few_workers o.few_seatings o.limit_small o.within
    (tick_kept _ s.seatings 0 s.seatings (omega arith) o.tick_ok)

pub made_sound : (n m : ℕ) → Sound (made_tally n m)
made_sound n m = empty_sound _ 0 _ _ (omega arith) zero-le (omega arith) zero-le (record { low = omega (arith, ints); high = omega (arith, ints) })

-- and each call of any sound state, be it a tally's or not
module _ (s : TallyState) (o : Sound s) (i : ℕ) where
  access_sound : i < s.count → (q : TallySeat) → seat_at s.seats i ≡ q → Sound (accessed s i q).1
  access_sound l Empty at = o
  access_sound l (Loaded c) at = reseated s o i (Loaded c) l at s.seatings _ (grind arith) o.few_seatings (grind arith)
  access_sound l (Running r) at =
      by_test Sound (unchanged s.pair r.pair) _ _ (λ same. added s o i r l at (grind arith) _ _ _ refl refl)
      (λ _. reseated s o i (Running r) l at s.seatings (Loaded (tried r)) (omega arith) o.few_seatings tt)
  access_sound l (Ended r) at = o

  pub seat_sound : (c : Command Amount) → Sound (seat_outcome s i c).1
  seat_sound c =
      seat_left s.seats s.count s (with_seat (record s { seatings = s.seatings + 1 }) i (Loaded (tally_command c))) Sound o i s.seatings (one_of tally_kinds c.kind)
      (λ l _ f. reseated s o i _ l refl (s.seatings + 1) (Loaded (tally_command c)) (omega arith) (omega arith) tt)

  pub step_sound : Sound (step_outcome s i).1
  step_sound = by_test Sound (ltb i s.count) _ _ (λ f. access_sound (ltb-true i s.count f) (seat_at s.seats i) refl) (λ _. o)

  pub take_sound : Sound (take_outcome s i).1
  take_sound =
      take_left s.seats s.count s (with_seat s i Empty) Sound o i amount_kind.blank
      (λ l. reseated s o i _ l refl s.seatings Empty (omega arith) o.few_seatings tt)

-- the next tick fits, and is read as it was written
module _ (x : Tally) where
  most : x.pair.tick ≤ℤ pos most_seatings
  most = tick_most _ _ x.pair.tick (known x).tick_ok (known x).few_seatings

  read_back : cast_signed w64 (cast_unsigned w64 x.pair.tick) ≡ x.pair.tick
  read_back = to_z-of_z w64 x.pair.tick (omega (arith, ints, (known x).tick_ok.low, most))

  later_fits : FitsSigned w64 (x.pair.tick +ℤ pos 1)
  later_fits = omega (arith, ints, (known x).tick_ok.low, most)

  pub tick_fits : FitsSigned w64 (cast_signed w64 (cast_unsigned w64 x.pair.tick) +ℤ pos 1)
  tick_fits = subst (λ t. FitsSigned w64 (t +ℤ pos 1)) (sym read_back) later_fits

  pub tick_read : cast_signed w64 (cast_unsigned w64 (cast_signed w64 (cast_unsigned w64 x.pair.tick) +ℤ pos 1)) ≡ x.pair.tick +ℤ pos 1
  tick_read = to_z-of_z w64 _ tick_fits ∙ ap (λ t. t +ℤ pos 1) read_back

-- what a Step takes
pub ruleset stepping = (kept, read_kept, add_fits, added_kept, add_left, tick_fits, tick_read)
