-- Every call leaves a tray sound.
use Rattle.std.proofs.Common.{◌≡◌, ℕ, ◌+◌, ◌<◌, ◌≤◌, Bool, true, false, cond, ltb, List, length, take, set, ℤ, pos, ◌+ℤ◌, ◌-ℤ◌, ◌≤ℤ◌, sym, refl, ap, ◌∙◌, subst, inl, inr, ⊎_elim, le_refl, arith}
use Rattle.std.proofs.lemmas.List.{get_or-set_same, get_or-set_other}
use Rattle.std.proofs.lemmas.Int.{ints, by_lt_z}
use Rattle.std.proofs.lemmas.Bool.{cases_eq, cases_Bool, both_ways, ltb-true, eq-eqb, and_from, and_parts}
use Rattle.elements.specs.Kinds.{ElementKind}
use Rattle.elements.specs.declared.commands.Command.{Command}
use Rattle.pieces.specs.Calls.{most_seatings}
use Rattle.pieces.proofs.CallLaws.{by_test, seat_left, take_left}
use Rattle.pieces.proofs.TickLaws.{Decides-tick_eq, tick_kept}
use Rattle.pieces.proofs.Ticks.{seat_kept}
use Rattle.pieces.specs.declared.tray.records.Cell.{Cell}
use Rattle.pieces.specs.declared.tray.records.Head.{Head}
use Rattle.pieces.specs.declared.tray.records.Try.{Try}
use Rattle.pieces.specs.declared.tray.records.Next.{Next}
use Rattle.pieces.specs.TrayKinds.{TrayCommand, TraySeat}
use Rattle.pieces.specs.declared.seats.Seat.TheVariants.{Empty, Loaded, Ended, Running}
use Rattle.pieces.specs.declared.tray.records.Phase.TheVariants.{HeadRead, CellRead, CellWritten, NeighbourRead}
use Rattle.pieces.specs.TrayKinds.{tray_knows, tray_command}
use Rattle.pieces.specs.Seats.{seat_at}
use Rattle.pieces.specs.TrayStates.{TrayState, state_of, cell_at, head_of, with_seat, with_seats}
use Rattle.pieces.specs.TrayAccess.{settled_early, agrees, helps, unchanged, moved_head, limit_reply, done_reply, accessed}
use Rattle.pieces.specs.TrayCalls.{filled, loaded, seat_outcome, step_outcome, take_outcome, clear_outcome}
use Rattle.pieces.specs.TrayBounds.{all_unsettled, SeatOk, Held}
use Rattle.pieces.specs.TraySound.{HeadTrue, TryTrue, ReadTrue, WriteTrue, SeatTrue, Consistent, Sound}
use Rattle.pieces.proofs.Filling.{filled_keeps}
use Rattle.pieces.proofs.Bounds.{Rests, held, access_bounded, loaded_bounded, rested_bounded}
use Rattle.pieces.proofs.Late.{agree, cell_same, write_try, write_keeps, move_keeps}

caught_up : (a b : ℤ) → a ≤ℤ (b +ℤ pos 1) → ((b +ℤ pos 1) ≡ a → ⊥) → a ≤ℤ b
caught_up a b h n = by_lt_z b a (λ l. absurd (n (omega (arith, ints)))) (λ l. l)

-- the head agrees with a try that has just seen it
pub agrees_now : {E : Type 0} (h : Head E) (c : TrayCommand E) → agrees h (record { command = c; head = h }) ≡ true
agrees_now h c = and_from _ _ (eq-eqb h.index h.index refl) ((Decides-tick_eq h.tick h.tick).1 refl)

module _ {E : Type 0} (e : ElementKind E) (c : Cell E) (h : Head E) (t : Try E) (u : E) (o : TryTrue c h t) where
  -- access 3 writes only while the head stands, to a cell that is one tick behind
  pub helps_now : helps e c t u ≡ true → (agrees h t ≡ true) × ((c.tick +ℤ pos 1) ≡ t.head.tick)
  helps_now w =
      let f : (c.tick +ℤ pos 1) ≡ t.head.tick =
      omega (arith, ints, (Decides-tick_eq c.tick (t.head.tick -ℤ pos 1)).0 (and_parts _ _ w).0) in
      (⊎_elim (λ y. y) (λ n. absurd (omega (arith, ints, o.past n))) (cases_Bool (agrees h t)), f)

  -- what it compares is what it read, so a cell that is one tick behind is written
  pub helps_if_behind : ((x : E) → e.same x x ≡ true) → ReadTrue c t u → (c.tick +ℤ pos 1) ≡ t.head.tick → helps e c t u ≡ true
  helps_if_behind same r f =
      and_from _ _ ((Decides-tick_eq c.tick (t.head.tick -ℤ pos 1)).1 (omega (arith, ints))) (ap (λ z. e.same z u) (r f) ∙ same u)

  -- and one that is not written is no tick behind
  pub helps_not : ((x : E) → e.same x x ≡ true) → ReadTrue c t u → helps e c t u ≡ false → WriteTrue c t
  helps_not same r n = caught_up _ _ o.behind (λ f. both_ways _ n (helps_if_behind same r f))

module _ {E : Type 0} (e : ElementKind E) (s : TrayState E) (o : Sound e.blank s) (i : ℕ) (l : i < s.count) where
  abbrev h : Head E
  h = head_of e.blank s.heads

  abbrev cell : ℕ → Cell E
  cell = cell_at e.blank s.cells

  bounds : Held e.blank s (all_unsettled s.room (take s.count s.seats))
  bounds = held e s o.bounded i l

  agreement : Consistent e.blank s
  agreement = o.consistent (omega arith)

  -- worker i has another seat, in a tray with other cells, another head and more seatings
  reseated : (cs : List (Cell E)) (hs : List (Head E)) (q : TraySeat E) (g : ℕ)
      → HeadTrue (cell_at e.blank cs (head_of e.blank hs).index) (head_of e.blank hs)
      → ((j : ℕ) → j < s.count → SeatTrue e.blank cs (head_of e.blank hs) (seat_at s.seats j))
      → SeatTrue e.blank cs (head_of e.blank hs) q
      → Consistent e.blank (record { cells = cs; heads = hs; seats = set s.seats i q; seatings = g; room = s.room; count = s.count })
  reseated cs hs q g head others own =
      record {
        head_true = head;
        seats_true = λ j m. elim (cases_eq j i) [
          | inl f ↦ subst (λ z. SeatTrue e.blank cs (head_of e.blank hs) z)
              (sym (ap (seat_at (set s.seats i q)) f ∙ get_or-set_same s.seats i q Empty (omega (arith, o.bounded.seats_long)))) own
          | inr n ↦ subst (λ z. SeatTrue e.blank cs (head_of e.blank hs) z) (sym (get_or-set_other s.seats i j q Empty n)) (others j m)
        ];
      }

  -- only the seat is another
  quiet : (q : TraySeat E) (g : ℕ) → SeatTrue e.blank s.cells h q
      → Consistent e.blank (record { cells = s.cells; heads = s.heads; seats = set s.seats i q; seatings = g; room = s.room; count = s.count })
  quiet q g own = reseated s.cells s.heads q g agreement.head_true agreement.seats_true own

  -- access 3, by whether it writes, and whether the try had settled
  helped : ((x : E) → e.same x x ≡ true) → (t : Try E) (u : E) → SeatOk s.room (all_unsettled s.room (take s.count s.seats)) s.seatings (Running (CellRead t u))
      → SeatTrue e.blank s.cells h (Running (CellRead t u)) → (w y : Bool) → helps e (cell t.head.index) t u ≡ w
      → Consistent e.blank (record {
        cells = cond w (set s.cells t.head.index (record { element = t.head.element; tick = t.head.tick })) s.cells;
        heads = s.heads;
        seats = set s.seats i (cond y (Ended (limit_reply e t.command)) (Running (CellWritten t)));
        seatings = s.seatings;
        room = s.room;
        count = s.count;
      })
  helped same t u ok p true y w =
      let k = helps_now e (cell t.head.index) h t u p.0 w in
      let within : t.head.index < length s.cells = omega (arith, bounds.cells_long, ok.index) in
      let now : Cell E = record { element = t.head.element; tick = t.head.tick } in
      let cs : List (Cell E) = set s.cells t.head.index now in
      let at : cell_at e.blank cs t.head.index ≡ now = cell_same e.blank s.cells t.head.index now within in
      let keeps = write_keeps e.blank s.room (all_unsettled s.room (take s.count s.seats)) s.seatings s.cells h t within k.0 k.1 in
      let try = write_try e.blank s.room (all_unsettled s.room (take s.count s.seats)) s.seatings s.cells h t within k.0 k.1 t p.0 in
      reseated cs s.heads _ s.seatings
      (subst (λ z. HeadTrue (cell_at e.blank cs z) h) (sym (agree h t k.0).0)
      (subst (λ z. HeadTrue z h) (sym at) (record {
        behind = omega (arith, ints, (agree h t k.0).1);
        ahead = omega (arith, ints, (agree h t k.0).1);
        written = λ _. sym (p.0.stands k.0);
      })))
      (λ j m. keeps (seat_at s.seats j) (bounds.seats_ok j m) (agreement.seats_true j m))
      (own cs y try (subst (λ z. WriteTrue z t) (sym at) (omega (arith, ints))))
    where
      own : (cs : List (Cell E)) (y : Bool) → TryTrue (cell_at e.blank cs t.head.index) h t → WriteTrue (cell_at e.blank cs t.head.index) t
          → SeatTrue e.blank cs h (cond y (Ended (limit_reply e t.command)) (Running (CellWritten t)))
      own cs true a d = tt
      own cs false a d = (a, d)
  helped same t u ok p false y w = quiet _ s.seatings (own y)
    where
      own : (y : Bool) → SeatTrue e.blank s.cells h (cond y (Ended (limit_reply e t.command)) (Running (CellWritten t)))
      own true = tt
      own false = (p.0, helps_not e (cell t.head.index) h t u p.0 same p.1 w)

  -- access 5 moves the head
  moved : (t : Try E) (x : Next E) → SeatTrue e.blank s.cells h (Running (NeighbourRead t x)) → agrees h t ≡ true
      → Consistent e.blank (record {
        cells = s.cells;
        heads = set s.heads 0 (moved_head e t x);
        seats = set s.seats i (Ended (done_reply e t));
        seatings = s.seatings;
        room = s.room;
        count = s.count;
      })
  moved t x p a =
      let top : head_of e.blank (set s.heads 0 (moved_head e t x)) ≡ moved_head e t x = get_or-set_same s.heads 0 (moved_head e t x) _ bounds.heads_long in
      let n = (p.2 a).tick in
      reseated s.cells (set s.heads 0 (moved_head e t x)) (Ended (done_reply e t)) s.seatings
      (subst (λ z. HeadTrue (cell z.index) z) (sym top) (record { behind = omega (arith, ints, n); ahead = omega (arith, ints, n); written = λ f. absurd (omega (arith, ints, n)) }))
      (λ j m. subst (λ z. SeatTrue e.blank s.cells z (seat_at s.seats j)) (sym top)
      (move_keeps e s.cells h t x a p (seat_at s.seats j) (agreement.seats_true j m)))
      tt

  -- an access of worker i, whose seat is q
  access_consistent : ((x : E) → e.same x x ≡ true) → (q : TraySeat E) → SeatOk s.room (all_unsettled s.room (take s.count s.seats)) s.seatings q
      → SeatTrue e.blank s.cells h q → Consistent e.blank (accessed e s i q).1
  access_consistent same Empty ok p = agreement
  access_consistent same (Loaded d) ok p =
      quiet _ s.seatings (record {
        behind = agreement.head_true.behind;
        stands = λ _. refl;
        past = λ n. absurd (both_ways _ n (agrees_now h d));
      })
  access_consistent same (Running (HeadRead t)) ok p = quiet _ s.seatings (p, λ _. refl)
  access_consistent same (Running (CellRead t u)) ok p = helped same t u ok p (helps e (cell t.head.index) t u) (settled_early s.room t) refl
  access_consistent same (Running (CellWritten t)) ok p = quiet _ s.seatings (p.0, p.1, λ _. record { tick = refl; element = refl })
  access_consistent same (Running (NeighbourRead t x)) ok p =
      by_test (Consistent e.blank) (unchanged e h t) _ _
      (λ f. moved t x p (and_parts (agrees h t) _ f).0) (λ _. quiet (Loaded t.command) s.seatings tt)
  access_consistent same (Ended r) ok p = agreement

-- with more seatings a tray is sound still
pub more_seatings : {E : Type 0} (blank : E) (s : TrayState E) → Sound blank s → (g : ℕ) → s.seatings ≤ g → g ≤ most_seatings
    → Sound blank (state_of s.cells s.heads s.seats g s.room s.count)
more_seatings blank s o g more few =
    let p = all_unsettled s.room (take s.count s.seats) in
    let kept : p + s.seatings ≤ p + g = omega arith in
    record {
      bounded = record {
        seats_long = o.bounded.seats_long;
        room_small = o.bounded.room_small;
        few = few;
        held = λ m.
            let h = o.bounded.held m in
            record {
              heads_long = h.heads_long;
              cells_long = h.cells_long;
              some_room = h.some_room;
              top = h.top;
              cells_ok = λ y l. tick_kept p s.seatings p g kept (h.cells_ok y l);
              head_ok = tick_kept p s.seatings p g kept h.head_ok;
              seats_ok = λ j l. seat_kept p s.seatings p g kept s.room _ (h.seats_ok j l);
            };
      };
      few_workers = o.few_workers;
      consistent = λ m. record { head_true = (o.consistent m).head_true; seats_true = (o.consistent m).seats_true };
    }

-- an access leaves the number of workers
workers_kept : {E : Type 0} (e : ElementKind E) (s : TrayState E) (i : ℕ) (q : TraySeat E) → (accessed e s i q).1.count ≡ s.count
workers_kept e s i q = grind arith

module _ {E : Type 0} (e : ElementKind E) (s : TrayState E) (o : Sound e.blank s) (i : ℕ) where
  pub step_sound : ((x : E) → e.same x x ≡ true) → Sound e.blank (step_outcome e s i).1
  step_sound same =
      by_test (Sound e.blank) (ltb i s.count) _ _
      (λ f.
      let l : i < s.count = ltb-true i s.count f in
      let ok = (bounds e s o i l).seats_ok i l in
      record {
        bounded = access_bounded e s o.bounded i l (seat_at s.seats i) refl ok;
        few_workers = omega (arith, o.few_workers, workers_kept e s i (seat_at s.seats i));
        consistent = λ _. access_consistent e s o i l same (seat_at s.seats i) ok ((agreement e s o i l).seats_true i l);
      })
      (λ _. o)

  -- a seat is loaded, which is one seating more
  pub loaded_sound : i < s.count → (d : TrayCommand E) → s.seatings < most_seatings
      → Sound e.blank (state_of s.cells s.heads (set s.seats i (Loaded d)) (s.seatings + 1) s.room s.count)
  loaded_sound l d few =
      record {
        bounded = loaded_bounded e s o.bounded i l d few;
        few_workers = o.few_workers;
        consistent = λ _. quiet e s o i l (Loaded d) (s.seatings + 1) tt;
      }

  -- or left without a command
  pub rested_sound : i < s.count → (q : TraySeat E) → Rests q → Sound e.blank (with_seat s i q)
  rested_sound l q r =
      record {
        bounded = rested_bounded e s o.bounded i l q r;
        few_workers = o.few_workers;
        consistent = λ _. quiet e s o i l q s.seatings (true_of q r);
      }
    where
      true_of : (q : TraySeat E) → Rests q → SeatTrue e.blank s.cells (head_of e.blank s.heads) q
      true_of Empty r = tt
      true_of (Loaded c) r = absurd r
      true_of (Running t) r = absurd r
      true_of (Ended y) r = tt

  -- as one that is emptied
  pub emptied_sound : i < s.count → Sound e.blank (with_seat s i Empty)
  emptied_sound l = rested_sound l Empty tt

  pub seat_sound : (d : Command E) → Sound e.blank (seat_outcome s i d).1
  seat_sound d =
      seat_left s.seats s.count s (loaded s i d) (Sound e.blank) o i s.seatings (tray_knows d.kind)
      (λ l _ f. loaded_sound l (tray_command d) f)

  pub take_sound : Sound e.blank (take_outcome e s i).1
  take_sound =
      take_left s.seats s.count s (with_seat s i Empty) (Sound e.blank) o i e.blank emptied_sound

module _ {E : Type 0} (e : ElementKind E) (s : TrayState E) (o : Sound e.blank s) where
  -- the first n seats are emptied
  pub some_emptied_sound : (n : ℕ) → n ≤ s.count → Sound e.blank (with_seats s (filled n Empty s.seats))
  some_emptied_sound =
      filled_keeps (λ qs. Sound e.blank (with_seats s qs)) Empty s.seats s.count o.bounded.seats_long o
      (λ qs i l p. emptied_sound e (with_seats s qs) p i l)

  -- or all
  pub clear_sound : Sound e.blank (clear_outcome s)
  clear_sound = some_emptied_sound s.count (le_refl s.count)
