-- Every call of a sound tally lies within its meaning.
use Rattle.std.proofs.Common.{◌≡◌, ℕ, ◌+◌, ◌<◌, ◌≤◌, Bool, true, false, map, length, take, set, pos, ◌+ℤ◌, None, sym, refl, ap, ◌∙◌, arith}
use Rattle.std.specs.Ordering.{int_eq}
use Rattle.std.proofs.lemmas.List.{length-set, take-replicate}
use Rattle.std.proofs.lemmas.Int.{ints}
use Rattle.std.proofs.lemmas.Bool.Decides.{same_from_decides, Decides-like, Decides-and, Decides-not, Decides-eqb, Decides-int_eq}
use Rattle.elements.specs.Codes.{reply}
use Rattle.elements.specs.Kinds.{amount_kind}
use Rattle.elements.specs.declared.commands.Command.{Command}
use Rattle.elements.specs.declared.commands.Reply.{Reply}
use Rattle.elements.specs.declared.commands.Code.TheVariants.{Added}
use Rattle.elements.specs.declared.kinds.Amount.{Amount}
use Rattle.pieces.specs.declared.seats.Seat.TheVariants.{Empty, Loaded, Running, Ended}
use Rattle.pieces.specs.Ordinary.{OrdinaryLaw}
use Rattle.pieces.specs.OrdinaryTally.{ordinary_tally}
use Rattle.pieces.specs.Views.{running, ended, workers_of, seat_of}
use Rattle.pieces.specs.Accesses.{disturbed_seat}
use Rattle.pieces.specs.Calls.{seated, taken, cleared, Stepped}
use Rattle.pieces.specs.Meanings.{shown, Same, MeaningKept}
use Rattle.pieces.specs.Seats.{seat_at}
use Rattle.pieces.proofs.Ordinaries.{object_law}
use Rattle.pieces.proofs.SeatLaws.{count_views, view_at, view_set, view_anew, view_cleared}
use Rattle.pieces.proofs.CallLaws.{by_worker, step_by_worker}
use Rattle.tally.specs.declared.records.Pair.{Pair}
use Rattle.tally.specs.declared.records.PairRead.{PairRead}
use Rattle.tally.specs.TallyKinds.{tally_command, command_of}
use Rattle.tally.specs.TallyStates.{TallySeat, TallyState, tried}
use Rattle.tally.specs.TallyCalls.{pair_read, unchanged, moved_pair, accessed, step_outcome, seat_outcome, take_outcome, clear_outcome}
use Rattle.tally.specs.TallyMeaning.{tally_names, seat_view, tally_view, tally_meaning}
use Rattle.tally.specs.TallySound.{TryOk, SeatOk, Sound}
use Rattle.tally.proofs.Soundness.{enough_seats}

-- with the tick of now a try has the total of now, so that the ticks decide
unchanged_is : (m : ℕ) (p : Pair) (r : PairRead) → TryOk m p r → unchanged p r.pair ≡ int_eq p.tick r.pair.tick
unchanged_is m p r o =
    same_from_decides _ _
    (Decides-like _ (λ both. both.1) (λ e. (sym (o.stands (sym e)), e)) (Decides-and _ _ (Decides-eqb _ _) (Decides-int_eq _ _)))
    (Decides-int_eq p.tick r.pair.tick)

-- a tick later every try is disturbed
later_view : (m : ℕ) (p p' : Pair) → p'.tick ≡ p.tick +ℤ pos 1 → (q : TallySeat) → SeatOk m p q
    → seat_view p' q ≡ disturbed_seat (seat_view p q)
later_view m p p' e Empty o = refl
later_view m p p' e (Loaded c) o = refl
later_view m p p' e (Running r) o =
    ap (λ b. running (command_of (tried r)) (record { accesses = 1; disturbed = b; settled = None }))
    ((Decides-not _ (Decides-int_eq p'.tick r.pair.tick)).1 (λ f. omega (arith, ints, o.older)))
later_view m p p' e (Ended r) o = refl

module _ (s : TallyState) (o : Sound s) where
  pub workers_counted : workers_of (tally_view s) ≡ s.count
  workers_counted = count_views (seat_view s.pair) s.count Empty s.seats (enough_seats s o)

  seat_shown : (i : ℕ) → i < s.count → seat_of (tally_view s) i ≡ seat_view s.pair (seat_at s.seats i)
  seat_shown = view_at (seat_view s.pair) s.count Empty s.seats (enough_seats s o)

  -- the seats after worker i's is q
  seats_shown : (i : ℕ) (q : TallySeat)
      → map (seat_view s.pair) (take s.count (set s.seats i q)) ≡ set (tally_view s).seats i (seat_view s.pair q)
  seats_shown = view_set (seat_view s.pair) s.count Empty s.seats (enough_seats s o)

  -- and after an add of worker i, which disturbs all tries
  add_shown : (i : ℕ) (p : Pair) → p.tick ≡ s.pair.tick +ℤ pos 1 → (r : Reply Amount)
      → map (seat_view p) (take s.count (set s.seats i (Ended r))) ≡ set (map disturbed_seat (tally_view s).seats) i (ended r)
  add_shown i p e r =
      view_set (seat_view p) s.count Empty s.seats (enough_seats s o) i (Ended r)
      ∙ ap (λ qs. set qs i (ended r))
      (view_anew (seat_view s.pair) s.count Empty s.seats (enough_seats s o) (seat_view p) disturbed_seat
      (λ j l. later_view s.limit s.pair p e _ (o.seats_ok j l)))

  seat_meant : (i : ℕ) (c : Command Amount) → shown tally_meaning (seat_outcome s i c) ≡ seated (tally_names s) (tally_view s) i c
  seat_meant i c =
      by_worker tally_view s i s.count workers_counted _ _ _
      (λ l. let e = seat_shown i l in let w = seats_shown i (Loaded (tally_command c)) in grind arith)

  take_meant : (i : ℕ) → shown tally_meaning (take_outcome s i) ≡ taken (tally_names s) (tally_view s) i
  take_meant i =
      by_worker tally_view s i s.count workers_counted _ _ _
      (λ l. let e = seat_shown i l in let w = seats_shown i Empty in grind arith)

  clear_meant : tally_view (clear_outcome s) ≡ cleared (tally_view s)
  clear_meant =
      ap (λ qs. record { content = s.pair.total; seatings = s.seatings; seats = qs })
      (view_cleared (seat_view s.pair) s.count Empty s.seats (enough_seats s o) Empty refl _ (take-replicate s.count 16 Empty o.few_workers))

  -- an access of worker i, whose seat is q
  access_meant : (i : ℕ) → i < s.count → (q : TallySeat) → seat_of (tally_view s) i ≡ seat_view s.pair q → SeatOk s.limit s.pair q
      → Stepped (tally_names s) (tally_view s) i (accessed s i q).0 (tally_view (accessed s i q).1)
  access_meant i l Empty e ok = let n = workers_counted in grind arith
  access_meant i l (Loaded c) e ok =
      let n = workers_counted in
      let w = seats_shown i (pair_read s.limit s.pair c.kind c.element).1 in
      let t = (Decides-int_eq s.pair.tick s.pair.tick).1 refl in
      grind arith
  access_meant i l (Running r) e ok = go (int_eq s.pair.tick r.pair.tick) refl
    where
      go : (b : Bool) → int_eq s.pair.tick r.pair.tick ≡ b
          → Stepped (tally_names s) (tally_view s) i (accessed s i (Running r)).0 (tally_view (accessed s i (Running r)).1)
      go true t =
          let n = workers_counted in
          let u = unchanged_is s.limit s.pair r ok in
          let total : r.pair.total ≡ s.pair.total = ok.stands (sym ((Decides-int_eq s.pair.tick r.pair.tick).0 t)) in
          let x : s.pair.total + r.amount.units ≤ s.limit = omega (arith, ok.fits) in
          let w = add_shown i (moved_pair s.pair r.amount) refl (reply Added (record { units = s.pair.total + r.amount.units })) in
          grind arith
      go false t =
          let n = workers_counted in
          let u = unchanged_is s.limit s.pair r ok in
          let w = seats_shown i (Loaded (tried r)) in
          grind arith
  access_meant i l (Ended r) e ok = let n = workers_counted in grind arith

  step_meant : (i : ℕ) → Stepped (tally_names s) (tally_view s) i (step_outcome s i).0 (tally_view (step_outcome s i).1)
  step_meant i =
      step_by_worker tally_view s i s.count workers_counted (tally_names s) (accessed s i (seat_at s.seats i))
      (λ l. access_meant i l (seat_at s.seats i) (seat_shown i l) (o.seats_ok i l))

  -- no call changes the limit, nor the number of workers and of seats
  same : (s' : TallyState) → s'.limit ≡ s.limit → s'.count ≡ s.count → length s'.seats ≡ length s.seats → Same tally_meaning s s'
  same s' limit count long =
      record {
        names = ap (λ m. tally_names (record s { limit = m })) limit;
        workers = count_views (seat_view s'.pair) s'.count Empty s'.seats (omega (arith, count, long, enough_seats s o)) ∙ count ∙ sym workers_counted;
      }

  pub meaning_kept : OrdinaryLaw (λ total. total ≤ s.limit) (ordinary_tally s.limit) → MeaningKept tally_meaning amount_kind.blank s
  meaning_kept law =
      record {
        lawful = record { some_access = omega arith; lawful_object = object_law law _ };
        blank_named = refl;
        few_workers = omega (arith, workers_counted, o.few_workers);
        seat_meant = seat_meant;
        step_meant = step_meant;
        take_meant = take_meant;
        clear_meant = clear_meant;
        seat_same = λ i c. same _ (grind arith) (grind arith) (grind (arith, length-set));
        step_same = λ i. same _ (grind arith) (grind arith) (grind (arith, length-set));
        take_same = λ i. same _ (grind arith) (grind arith) (grind (arith, length-set));
        clear_same = same _ refl refl (sym o.seats_long);
      }
