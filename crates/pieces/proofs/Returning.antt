-- Nothing comes back: the head never has a pair of index and tick again that it has left, and the ticks of cells only grow.
use Rattle.std.proofs.Common.{◌≡◌, ℕ, ◌<◌, Bool, true, false, cond, ltb, length, take, set, ◌≤ℤ◌, sym, refl, subst, arith}
use Rattle.std.proofs.lemmas.Int.{ints}
use Rattle.std.proofs.lemmas.List.{get_or-set_same}
use Rattle.std.proofs.lemmas.Bool.{ltb-true, both_ways, and_parts}
use Rattle.elements.specs.Kinds.{ElementKind}
use Rattle.pieces.proofs.CallLaws.{by_test}
use Rattle.pieces.specs.declared.tray.records.Head.{Head}
use Rattle.pieces.specs.declared.tray.records.Try.{Try}
use Rattle.pieces.specs.declared.tray.records.Next.{Next}
use Rattle.pieces.specs.TrayKinds.{TrayCommand, TraySeat}
use Rattle.pieces.specs.declared.seats.Seat.TheVariants.{Empty, Loaded, Ended, Running}
use Rattle.pieces.specs.declared.tray.records.Phase.TheVariants.{HeadRead, CellRead, CellWritten, NeighbourRead}
use Rattle.pieces.specs.Seats.{seat_at}
use Rattle.pieces.specs.TrayStates.{TrayState, cell_at, head_of, with_cells, with_head, with_seat}
use Rattle.pieces.specs.TrayAccess.{agrees, helps, unchanged, moved_head, accessed}
use Rattle.pieces.specs.TrayCalls.{step_outcome}
use Rattle.pieces.specs.TrayBounds.{all_unsettled, SeatOk}
use Rattle.pieces.specs.TraySound.{TryTrue, SeatTrue, Sound}
use Rattle.pieces.proofs.Bounds.{held}
use Rattle.pieces.proofs.Late.{tick_grows, write_try, never_seen, move_try}
use Rattle.pieces.proofs.Soundness.{agrees_now, helps_now}

module _ {E : Type 0} (e : ElementKind E) where
  -- a head that was once seen, as a try remembers it, is one that the tray has now or has left behind
  abbrev pub Seen : TrayState E → Try E → Type 0
  Seen s t = TryTrue (cell_at e.blank s.cells t.head.index) (head_of e.blank s.heads) t

  -- from s to z what was seen stays seen, what was left behind stays so, and no tick of a cell falls
  pub record Later (s z : TrayState E) : Type 0 where
    pub seen : (t : Try E) → Seen s t → Seen z t
    pub gone : (t : Try E) → Seen s t → agrees (head_of e.blank s.heads) t ≡ false → agrees (head_of e.blank z.heads) t ≡ false
    pub grown : (x : ℕ) → (cell_at e.blank s.cells x).tick ≤ℤ (cell_at e.blank z.cells x).tick

  -- a call that writes neither cells nor heads
  pub later_quiet : (s z : TrayState E) → z.cells ≡ s.cells → z.heads ≡ s.heads → Later s z
  later_quiet s z cells heads =
      subst (λ cs. Later s (record { cells = cs; heads = z.heads; seats = z.seats; seatings = z.seatings; room = z.room; count = z.count })) (sym cells)
      (subst (λ hs. Later s (record { cells = s.cells; heads = hs; seats = z.seats; seatings = z.seatings; room = z.room; count = z.count })) (sym heads)
      (record { seen = λ _ r. r; gone = λ _ _ n. n; grown = λ x. omega (arith, ints) }))

  pub later_still : (s z y : TrayState E) → Later s z → Later z y → Later s y
  later_still s z y a b =
      record {
        seen = λ t p. b.seen t (a.seen t p);
        gone = λ t p n. b.gone t (a.seen t p) (a.gone t p n);
        grown = λ x. omega (arith, ints, a.grown x, b.grown x);
      }

  module _ (s : TrayState E) (o : Sound e.blank s) where
    abbrev h : Head E
    h = head_of e.blank s.heads

    -- the head of now is seen now
    pub seen_now : 0 < s.count → (c : TrayCommand E) → Seen s (record { command = c; head = h })
    seen_now some c =
        record {
          behind = (o.consistent some).head_true.behind;
          stands = λ _. refl;
          past = λ n. absurd (both_ways _ n (agrees_now h c));
        }

    module _ (i : ℕ) (l : i < s.count) where
      abbrev unsettled : ℕ
      unsettled = all_unsettled s.room (take s.count s.seats)

      -- access 3, by whether it writes
      written : (t : Try E) (u : E) → SeatOk s.room unsettled s.seatings (Running (CellRead t u)) → SeatTrue e.blank s.cells h (Running (CellRead t u))
          → (q : TraySeat E) (w : Bool) → helps e (cell_at e.blank s.cells t.head.index) t u ≡ w
          → Later s (with_seat (with_cells s (cond w (set s.cells t.head.index (record { element = t.head.element; tick = t.head.tick })) s.cells)) i q)
      written t u ok p q true w =
          let k = helps_now e (cell_at e.blank s.cells t.head.index) h t u p.0 w in
          let within : t.head.index < length s.cells = omega (arith, (held e s o.bounded i l).cells_long, ok.index) in
          record {
            seen = write_try e.blank s.room unsettled s.seatings s.cells h t within k.0 k.1;
            gone = λ _ _ n. n;
            grown = tick_grows e.blank s.cells t.head.index _ within k.1;
          }
      written t u ok p q false w = later_quiet s _ refl refl

      -- access 5 moves the head
      moved : (t : Try E) (x : Next E) → SeatTrue e.blank s.cells h (Running (NeighbourRead t x)) → (q : TraySeat E) → agrees h t ≡ true
          → Later s (with_seat (with_head s (moved_head e t x)) i q)
      moved t x p q a =
          let top : moved_head e t x ≡ head_of e.blank (set s.heads 0 (moved_head e t x)) =
          sym (get_or-set_same s.heads 0 (moved_head e t x) _ (held e s o.bounded i l).heads_long) in
          record {
            seen = λ t' r. subst (λ z. TryTrue (cell_at e.blank s.cells t'.head.index) z t') top (move_try e s.cells h t x a p t' r);
            gone = λ t' r _. subst (λ z. agrees z t' ≡ false) top (never_seen e s.cells h t x a p t' r);
            grown = λ y. omega (arith, ints);
          }

      access_later : (q : TraySeat E) → SeatOk s.room unsettled s.seatings q → SeatTrue e.blank s.cells h q → Later s (accessed e s i q).1
      access_later Empty ok p = later_quiet s s refl refl
      access_later (Loaded c) ok p = later_quiet s _ refl refl
      access_later (Running (HeadRead t)) ok p = later_quiet s _ refl refl
      access_later (Running (CellRead t u)) ok p = written t u ok p _ (helps e (cell_at e.blank s.cells t.head.index) t u) refl
      access_later (Running (CellWritten t)) ok p = later_quiet s _ refl refl
      access_later (Running (NeighbourRead t x)) ok p =
          by_test (Later s) (unchanged e h t) _ _ (λ f. moved t x p _ (and_parts (agrees h t) _ f).0)
          (λ _. later_quiet s _ refl refl)
      access_later (Ended r) ok p = later_quiet s s refl refl

    pub step_later : (i : ℕ) → Later s (step_outcome e s i).1
    step_later i =
        by_test (Later s) (ltb i s.count) _ _
        (λ f. let l : i < s.count = ltb-true i s.count f in
        access_later i l (seat_at s.seats i) ((held e s o.bounded i l).seats_ok i l) ((o.consistent (omega arith)).seats_true i l))
        (λ _. later_quiet s s refl refl)
