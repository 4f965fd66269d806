-- Every call of a sound tray lies within the meaning of a piece: each access is one step of the ordinary tray or none.
use Rattle.std.proofs.Common.{◌≡◌, ℕ, ◌+◌, ◌<◌, Bool, true, false, cond, not, eqb, ltb, List, [], map, length, take, set, ℤ, pos, ◌≤ℤ◌, Some, None, Ok, Err, Result, sym, refl, ap, ◌∙◌, subst, ⊎_elim, arith}
use Rattle.std.proofs.lemmas.List.{get_or-set_same}
use Rattle.std.proofs.lemmas.Int.{ints}
use Rattle.std.proofs.lemmas.Bool.{cases_Bool, both_ways, lt-ltb, cond-true, and_from, and_parts}
use Rattle.elements.specs.declared.element.Element.{Ghosts}
use Rattle.elements.specs.Codes.{is_change}
use Rattle.elements.specs.Kinds.{ElementKind}
use Rattle.elements.specs.Refusals.{refusal}
use Rattle.elements.specs.declared.commands.Command.{Command}
use Rattle.elements.specs.declared.commands.Reply.{Reply}
use Rattle.elements.specs.declared.answers.StepAnswer.{StepAnswer}
use Rattle.elements.specs.declared.answers.StepAnswer.TheVariants.{Moved, Settled, SettledEnded, Ended as AnsweredEnd, StoodOff}
use Rattle.elements.specs.declared.refusals.Refusal.{Refusal}
use Rattle.elements.specs.declared.refusals.Cause.TheVariants.{NothingToStep, NothingToTake}
use Rattle.elements.specs.declared.refusals.Layer.TheVariants.{Piece}
use Rattle.pieces.specs.Names.{Names}
use Rattle.pieces.specs.Views.{SeatView, loaded, running, ended, PieceView, workers_of, seat_of}
use Rattle.pieces.specs.Accesses.{has_settled, Allowed, ended_with, disturbed_seat, left_at, view_left}
use Rattle.pieces.specs.Calls.{is_empty as is_empty_view, can_step, can_take, reply_at, reseated, seated, taken, cleared, Stepped}
use Rattle.pieces.specs.Meanings.{SameNames, MeaningKept}
use Rattle.pieces.proofs.SeatLaws.{count_views, view_at, view_set, view_anew, view_cleared}
use Rattle.pieces.proofs.CallLaws.{seat_within, take_within, step_by_worker, step_within, step_without}
use Rattle.pieces.specs.declared.tray.records.Cell.{Cell}
use Rattle.pieces.specs.declared.tray.records.Head.{Head}
use Rattle.pieces.specs.declared.tray.records.Try.{Try}
use Rattle.pieces.specs.declared.tray.records.Next.{Next}
use Rattle.pieces.specs.TrayKinds.{TrayCommand, TraySeat}
use Rattle.pieces.specs.declared.seats.Seat.TheVariants.{Empty, Loaded, Ended, Running}
use Rattle.pieces.specs.declared.tray.records.Phase.TheVariants.{HeadRead, CellRead, CellWritten, NeighbourRead}
use Rattle.pieces.specs.TrayKinds.{pushes, tray_knows, tray_kinds, tray_command, command_of}
use Rattle.pieces.proofs.KindLaws.{known_command, read_again}
use Rattle.pieces.specs.OrdinaryTray.{ordinary_tray}
use Rattle.pieces.specs.Seats.{seat_at, is_empty, reply_in}
use Rattle.pieces.specs.TrayStates.{TrayState, cell_at, head_of, stack, tray_content, with_cells, with_head, with_seat}
use Rattle.pieces.specs.TrayAccess.{at_limit, settled_early, agrees, neighbour, helps, helped_cells, unchanged, moved_head, limit_reply, done_reply, accessed}
use Rattle.pieces.specs.TrayCalls.{filled, loaded as loaded_tray, seat_outcome, step_outcome, take_outcome, clear_outcome}
use Rattle.pieces.specs.TrayBounds.{all_unsettled, SeatOk, Held}
use Rattle.pieces.specs.TraySound.{TryTrue, SeatTrue, Consistent, Sound}
use Rattle.pieces.specs.TrayMeaning.{tray_names, try_view, seat_view, tray_view, tray_meaning}
use Rattle.pieces.proofs.Filling.{take_filled}
use Rattle.pieces.proofs.Bounds.{held}
use Rattle.pieces.proofs.Ordinaries.{object_law, tray_law}
use Rattle.pieces.proofs.Late.{agree, never_seen}
use Rattle.pieces.proofs.Stack.{length_stack, stack_set, limit_look, limit_no_change, done_change, moved_stack}
use Rattle.pieces.proofs.Soundness.{agrees_now, helps_now, seat_sound, step_sound, take_sound, clear_sound}

-- what a call answers, and the view of what it leaves
abbrev seen : {E R : Type 0} → ElementKind E → R × TrayState E → R × PieceView E (List E)
seen e y = (y.0, tray_view e y.1)

module _ {E : Type 0} (e : ElementKind E) (s : TrayState E) (o : Sound e.blank s) where
  abbrev h : Head E
  h = head_of e.blank s.heads

  abbrev N : Names E (List E)
  N = tray_names e s

  abbrev v : PieceView E (List E)
  v = tray_view e s

  -- the seats with another of worker i
  seats_set : (i : ℕ) (q : TraySeat E) → map (seat_view e s.room h) (take s.count (set s.seats i q)) ≡ set v.seats i (seat_view e s.room h q)
  seats_set = view_set (seat_view e s.room h) s.count Empty s.seats o.bounded.seats_long

  pub size : workers_of v ≡ s.count
  size = count_views (seat_view e s.room h) s.count Empty s.seats o.bounded.seats_long

  -- a try after n accesses, by whether it had settled, while the head is z
  abbrev tried : Head E → Try E → ℕ → Bool → SeatView E
  tried z t n y =
      running (command_of t.command) (record {
        accesses = n;
        disturbed = cond y false (not (agrees z t));
        settled = cond y (Some (limit_reply e t.command)) None;
      })

  module _ (i : ℕ) (l : i < s.count) where
    bounds : Held e.blank s (all_unsettled s.room (take s.count s.seats))
    bounds = held e s o.bounded i l

    agreement : Consistent e.blank s
    agreement = o.consistent (omega arith)

    -- the worker's seat
    seat_is : (q : TraySeat E) → seat_at s.seats i ≡ q → seat_of v i ≡ seat_view e s.room h q
    seat_is q f = view_at (seat_view e s.room h) s.count Empty s.seats o.bounded.seats_long i l ∙ ap (seat_view e s.room h) f

    -- the content of a tray with workers
    content_is : (cs : List (Cell E)) (x : Head E) → cond (ltb 0 s.count) (stack e.blank cs x.index x.element) [] ≡ stack e.blank cs x.index x.element
    content_is cs x = cond-true (ltb 0 s.count) _ _ (lt-ltb 0 s.count (omega arith))

    -- with another seat of the worker, and with other cells that leave the content
    quiet_in : (cs : List (Cell E)) → tray_content e.blank (with_cells s cs) ≡ v.content → (q : TraySeat E)
        → tray_view e (with_seat (with_cells s cs) i q) ≡ reseated v i (seat_view e s.room h q)
    quiet_in cs same q = λ j. record {
      content = same j;
      seatings = s.seatings;
      seats = seats_set i q j;
    }

    quiet : (q : TraySeat E) → tray_view e (with_seat s i q) ≡ reseated v i (seat_view e s.room h q)
    quiet = quiet_in s.cells refl

    -- an access at the seat q that is answered a, and one that is refused
    within : (q : TraySeat E) → seat_at s.seats i ≡ q → can_step (seat_view e s.room h q) ≡ true → (a : StepAnswer) (u : PieceView E (List E))
        → Allowed 5 (seat_view e s.room h q) a → u ≡ view_left N v i (left_at N v.content (seat_view e s.room h q) a) → Stepped N v i (Ok a) u
    within q f = step_within (tray_view e) s i s.count size N l (seat_view e s.room h q) (seat_is q f)

    without : (q : TraySeat E) → seat_at s.seats i ≡ q → can_step (seat_view e s.room h q) ≡ false
        → Stepped N v i (Err (refusal Piece 6 NothingToStep refl refl)) v
    without q f = step_without (tray_view e) s i s.count size N l (seat_view e s.room h q) (seat_is q f)

    size_is : length v.content ≡ h.index
    size_is = ap length (content_is s.cells h) ∙ length_stack e.blank s.cells h.index h.element

    -- what an access that settles with y leaves, where the worker's seat is w
    abbrev settling : (Reply E → SeatView E) → List E × Reply E → PieceView E (List E)
    settling w y =
        record {
          content = y.0;
          seatings = s.seatings;
          seats = set (cond (is_change y.1.code) (map disturbed_seat v.seats) v.seats) i (w y.1);
        }

    -- access 1
    at_loaded : (d : TrayCommand E) → seat_at s.seats i ≡ Loaded d → (y : Bool) → at_limit s.room h d ≡ y
        → Stepped N v i (Ok (cond y Settled Moved)) (tray_view e (with_seat s i (Running (HeadRead (record { command = d; head = h })))))
    at_loaded d f true y =
        let t : Try E = record { command = d; head = h } in
        let w : Reply E → SeatView E = λ r. running (command_of d) (record { accesses = 1; disturbed = false; settled = Some r }) in
        let look =
        limit_look e s.room v.content (command_of d) (subst (λ x. cond (pushes d) (eqb x s.room) (eqb x 0) ≡ true) (sym size_is) y)
        ∙ ap (λ c. (v.content, limit_reply e c)) (read_again d)
        in
        within (Loaded d) f refl Settled _ (refl, omega arith)
        (quiet (Running (HeadRead t)) ∙ ap (λ z. reseated v i (tried h t 1 z)) y
        ∙ sym (ap (settling w) look
        ∙ ap (λ z. record { content = v.content; seatings = s.seatings; seats = set (cond z (map disturbed_seat v.seats) v.seats) i (w (limit_reply e d)) })
        (limit_no_change e s.room d)))
    at_loaded d f false y =
        let t : Try E = record { command = d; head = h } in
        within (Loaded d) f refl Moved _ (omega arith)
        (quiet (Running (HeadRead t)) ∙ ap (λ z. reseated v i (tried h t 1 z)) y
        ∙ ap (λ z. reseated v i (running (command_of d) (record { accesses = 1; disturbed = not z; settled = None }))) (agrees_now h d))

    -- access 3 leaves the content
    content_kept : (t : Try E) (u : E) → SeatTrue e.blank s.cells h (Running (CellRead t u))
        → tray_content e.blank (with_cells s (helped_cells e s.cells t u)) ≡ v.content
    content_kept t u p = go (helps e (cell_at e.blank s.cells t.head.index) t u) refl
      where
        go : (w : Bool) → helps e (cell_at e.blank s.cells t.head.index) t u ≡ w
            → tray_content e.blank (with_cells s (cond w (set s.cells t.head.index (record { element = t.head.element; tick = t.head.tick })) s.cells)) ≡ v.content
        go true w =
            let a = (helps_now e (cell_at e.blank s.cells t.head.index) h t u p.0 w).0 in
            ap (λ xs. cond (ltb 0 s.count) xs [])
            (subst (λ z. stack e.blank (set s.cells t.head.index (record { element = t.head.element; tick = t.head.tick })) z h.element ≡ stack e.blank s.cells z h.element)
            (sym (agree h t a).0) (stack_set e.blank s.cells t.head.index (record { element = t.head.element; tick = t.head.tick }) h.element))
        go false w = refl

    at_cell_read : (t : Try E) (u : E) → seat_at s.seats i ≡ Running (CellRead t u) → SeatTrue e.blank s.cells h (Running (CellRead t u)) → (y : Bool) → settled_early s.room t ≡ y
        → Stepped N v i (Ok (cond y AnsweredEnd Moved))
        (tray_view e (with_seat (with_cells s (helped_cells e s.cells t u)) i (cond y (Ended (limit_reply e t.command)) (Running (CellWritten t)))))
    at_cell_read t u f p true y =
        within (Running (CellRead t u)) f refl AnsweredEnd _ (ap (λ z. has_settled (cond z (Some (limit_reply e t.command)) None)) y, omega arith)
        (quiet_in (helped_cells e s.cells t u) (content_kept t u p) (Ended (limit_reply e t.command)) ∙ sym (ap (λ z. reseated v i (ended_with (command_of t.command) (cond z (Some (limit_reply e t.command)) None))) y))
    at_cell_read t u f p false y = within (Running (CellRead t u)) f refl Moved _ (omega arith) (quiet_in (helped_cells e s.cells t u) (content_kept t u p) (Running (CellWritten t)))

    -- access 5 stands off only a try that is disturbed: the elements that it compares are equal while index and tick are
    stood_off : ((x : E) → e.same x x ≡ true) → (t : Try E) → TryTrue (cell_at e.blank s.cells t.head.index) h t → unchanged e h t ≡ false → agrees h t ≡ false
    stood_off same t p n =
        ⊎_elim (λ y. absurd (both_ways _ n (and_from _ _ y (ap (λ z. e.same z t.head.element) (p.stands y) ∙ same t.head.element)))) (λ m. m)
        (cases_Bool (agrees h t))

    -- access 5 moves the head
    module _ (t : Try E) (x : Next E) (ok : settled_early s.room t ≡ false) (p : SeatTrue e.blank s.cells h (Running (NeighbourRead t x))) (a : agrees h t ≡ true) where
      abbrev h' : Head E
      h' = moved_head e t x

      -- the top lies in its cell
      written : (cell_at e.blank s.cells t.head.index).element ≡ t.head.element
      written =
          let f = (agree h t a).0 in
          subst (λ z. (cell_at e.blank s.cells z).element ≡ h.element) f
          (agreement.head_true.written (between agreement.head_true.ahead (subst (λ z. h.tick ≤ℤ (cell_at e.blank s.cells z).tick) (sym f)
          (subst (λ z. z ≤ℤ (cell_at e.blank s.cells t.head.index).tick) (sym (agree h t a).1) p.1))))
          ∙ p.0.stands a
        where
          between : {m n : ℤ} → m ≤ℤ n → n ≤ℤ m → m ≡ n
          between j k = omega (arith, ints)

      -- so what the ordinary tray makes of the content is what the move makes of the head
      ordinary_is : ordinary_tray e.blank s.room v.content (command_of t.command) ≡ (stack e.blank s.cells (neighbour t) x.element, done_reply e t)
      ordinary_is =
          ap (λ xs. ordinary_tray e.blank s.room xs (command_of t.command))
          (content_is s.cells h ∙ ap (λ z. stack e.blank s.cells z h.element) (agree h t a).0 ∙ ap (stack e.blank s.cells t.head.index) (p.0.stands a))
          ∙ subst (λ c. at_limit s.room t.head c ≡ false
          → x.element ≡ cond (pushes t.command) t.command.element (cell_at e.blank s.cells (neighbour (record { command = c; head = t.head }))).element
          → ordinary_tray e.blank s.room (stack e.blank s.cells t.head.index t.head.element) (command_of t.command)
          ≡ (stack e.blank s.cells (neighbour (record { command = c; head = t.head })) x.element, done_reply e (record { command = c; head = t.head })))
          (read_again t.command) (λ f m. moved_stack e s.room s.cells (command_of t.command) t.head x.element f written m) ok (p.2 a).element

      -- every other try that has not settled is disturbed
      try_disturbed : (t' : Try E) (n : ℕ) → TryTrue (cell_at e.blank s.cells t'.head.index) h t'
          → running (command_of t'.command) (try_view e s.room h' t' n) ≡ disturbed_seat (running (command_of t'.command) (try_view e s.room h t' n))
      try_disturbed t' n o' = go (settled_early s.room t')
        where
          go : (y : Bool) → tried h' t' n y ≡ disturbed_seat (tried h t' n y)
          go true = refl
          go false = ap (λ z. running (command_of t'.command) (record { accesses = n; disturbed = not z; settled = None })) (never_seen e s.cells h t x a p t' o')

      seat_disturbed : (q : TraySeat E) → SeatTrue e.blank s.cells h q → seat_view e s.room h' q ≡ disturbed_seat (seat_view e s.room h q)
      seat_disturbed Empty r = refl
      seat_disturbed (Loaded d) r = refl
      seat_disturbed (Running (HeadRead t')) r = try_disturbed t' 1 r
      seat_disturbed (Running (CellRead t' u)) r = try_disturbed t' 2 r.0
      seat_disturbed (Running (CellWritten t')) r = try_disturbed t' 3 r.0
      seat_disturbed (Running (NeighbourRead t' x')) r = try_disturbed t' 4 r.0
      seat_disturbed (Ended d) r = refl

      -- the view of the moved tray, read by its head
      abbrev by_head : Head E → PieceView E (List E)
      by_head z =
          record {
            content = cond (ltb 0 s.count) (stack e.blank s.cells z.index z.element) [];
            seatings = s.seatings;
            seats = map (seat_view e s.room z) (take s.count (set s.seats i (Ended (done_reply e t))));
          }

      seats_moved : map (seat_view e s.room h') (take s.count (set s.seats i (Ended (done_reply e t)))) ≡ set (map disturbed_seat v.seats) i (ended (done_reply e t))
      seats_moved =
          view_set (seat_view e s.room h') s.count Empty s.seats o.bounded.seats_long i (Ended (done_reply e t))
          ∙ ap (λ ws. set ws i (ended (done_reply e t)))
          (view_anew (seat_view e s.room h) s.count Empty s.seats o.bounded.seats_long (seat_view e s.room h') disturbed_seat
          (λ j m. seat_disturbed (seat_at s.seats j) (agreement.seats_true j m)))

      moved_view : tray_view e (with_seat (with_head s h') i (Ended (done_reply e t))) ≡ settling ended (ordinary_tray e.blank s.room v.content (command_of t.command))
      moved_view =
          ap by_head (get_or-set_same s.heads 0 h' (record { index = 0; element = e.blank; tick = pos 0 }) bounds.heads_long)
          ∙ (λ j. record { content = content_is s.cells h' j; seatings = s.seatings; seats = seats_moved j })
          ∙ sym (ap (settling ended) ordinary_is
          ∙ ap (λ z. record {
            content = stack e.blank s.cells (neighbour t) x.element;
            seatings = s.seatings;
            seats = set (cond z (map disturbed_seat v.seats) v.seats) i (ended (done_reply e t));
          }) (done_change e s.room t))

    -- by whether it moves
    abbrev by_move : Try E → Next E → Bool → Result StepAnswer Refusal × TrayState E
    by_move t x y =
        cond y (Ok SettledEnded, with_seat (with_head s (moved_head e t x)) i (Ended (done_reply e t))) (Ok StoodOff, with_seat s i (Loaded t.command))

    at_neighbour_read : ((z : E) → e.same z z ≡ true) → (t : Try E) (x : Next E) → seat_at s.seats i ≡ Running (NeighbourRead t x) → settled_early s.room t ≡ false
        → SeatTrue e.blank s.cells h (Running (NeighbourRead t x))
        → Stepped N v i (accessed e s i (Running (NeighbourRead t x))).0 (tray_view e (accessed e s i (Running (NeighbourRead t x))).1)
    at_neighbour_read same t x f ok p = go (unchanged e h t) refl
      where
        unsettled : has_settled (cond (settled_early s.room t) (Some (limit_reply e t.command)) None) ≡ false
        unsettled = ap (λ z. has_settled (cond z (Some (limit_reply e t.command)) None)) ok

        go : (y : Bool) → unchanged e h t ≡ y → Stepped N v i (by_move t x y).0 (tray_view e (by_move t x y).1)
        go true y = within (Running (NeighbourRead t x)) f refl SettledEnded _ (unsettled, omega arith) (moved_view t x ok p (and_parts (agrees h t) _ y).0)
        go false y =
            within (Running (NeighbourRead t x)) f refl StoodOff _
            (unsettled, ap (λ z. cond z false (not (agrees h t))) ok ∙ ap not (stood_off same t p.0 y), omega arith)
            (quiet (Loaded t.command))

    -- an access of worker i, whose seat is q
    at_seat : ((z : E) → e.same z z ≡ true) → (q : TraySeat E) → seat_at s.seats i ≡ q
        → SeatOk s.room (all_unsettled s.room (take s.count s.seats)) s.seatings q → SeatTrue e.blank s.cells h q
        → Stepped N v i (accessed e s i q).0 (tray_view e (accessed e s i q).1)
    at_seat same Empty f ok p = without Empty f refl
    at_seat same (Loaded d) f ok p = at_loaded d f (at_limit s.room h d) refl
    at_seat same (Running (HeadRead t)) f ok p = within (Running (HeadRead t)) f refl Moved _ (omega arith) (quiet _)
    at_seat same (Running (CellRead t u)) f ok p = at_cell_read t u f p (settled_early s.room t) refl
    at_seat same (Running (CellWritten t)) f ok p = within (Running (CellWritten t)) f refl Moved _ (omega arith) (quiet _)
    at_seat same (Running (NeighbourRead t x)) f ok p = at_neighbour_read same t x f ok.1 p
    at_seat same (Ended r) f ok p = without (Ended r) f refl

  -- Step
  pub step_meant : ((z : E) → e.same z z ≡ true) → (i : ℕ) → Stepped N v i (step_outcome e s i).0 (tray_view e (step_outcome e s i).1)
  step_meant same i =
      step_by_worker (tray_view e) s i s.count size N (accessed e s i (seat_at s.seats i))
      (λ l. at_seat i l same (seat_at s.seats i) refl ((bounds i l).seats_ok i l) ((agreement i l).seats_true i l))

  -- a seat means what it is, to those who would seat a command there or take from it
  shown_empty : (q : TraySeat E) → is_empty_view (seat_view e s.room h q) ≡ is_empty q
  shown_empty Empty = refl
  shown_empty (Loaded d) = refl
  shown_empty (Running (HeadRead t)) = refl
  shown_empty (Running (CellRead t u)) = refl
  shown_empty (Running (CellWritten t)) = refl
  shown_empty (Running (NeighbourRead t x)) = refl
  shown_empty (Ended r) = refl

  abbrev Offers : SeatView E → TraySeat E → Type 0
  Offers w q =
      (can_take w ≡ true → reply_in e.blank q ≡ Ok (reply_at e.blank w))
      × (can_take w ≡ false → reply_in e.blank q ≡ Err (refusal Piece 7 NothingToTake refl refl))

  shown_offer : (q : TraySeat E) → Offers (seat_view e s.room h q) q
  shown_offer q = grind arith

  -- Seat
  pub seat_meant : (i : ℕ) (d : Command E) → seen e (seat_outcome s i d) ≡ seated N v i d
  seat_meant i d =
      seat_within (tray_view e) s i s.count size N d (loaded_tray s i d) s.seats (tray_knows d.kind) refl
      (λ l. ap is_empty_view (seat_is i l (seat_at s.seats i) refl) ∙ shown_empty (seat_at s.seats i))
      (λ k j. record {
        content = v.content;
        seatings = s.seatings + 1;
        seats = (seats_set i (Loaded (tray_command d)) ∙ ap (λ c. set v.seats i (loaded c)) (known_command d k)) j;
      })

  -- Take
  pub take_meant : (i : ℕ) → seen e (take_outcome e s i) ≡ taken N v i
  take_meant i =
      take_within (tray_view e) s i s.count size N s.seats (with_seat s i Empty)
      (λ l. subst (λ w. Offers w (seat_at s.seats i)) (sym (seat_is i l (seat_at s.seats i) refl)) (shown_offer (seat_at s.seats i)))
      (λ j. record { content = v.content; seatings = s.seatings; seats = seats_set i Empty j })

  -- Clear
  pub clear_meant : tray_view e (clear_outcome s) ≡ cleared v
  clear_meant = λ j. record {
    content = v.content;
    seatings = s.seatings;
    seats = view_cleared (seat_view e s.room h) s.count Empty s.seats o.bounded.seats_long Empty refl
        (filled s.count Empty s.seats) (take_filled s.count Empty s.seats) j;
  }

-- no call changes k or n
abbrev SameSize : {E : Type 0} → TrayState E → TrayState E → Type 0
SameSize s z = (z.room ≡ s.room) × (z.count ≡ s.count)

-- a sound tray keeps the meaning of a piece
module _ {E : Type 0} (e : ElementKind E) (same : (x : E) → e.same x x ≡ true) (s : TrayState E) (o : Sound e.blank s) where
  unchanged_names : (z : TrayState E) → Sound e.blank z → SameSize s z → SameNames (tray_names e s) (tray_names e z) (tray_view e s) (tray_view e z)
  unchanged_names z p f =
      record {
        names = ap (λ k. record { blank = e.blank; kinds = tray_kinds; ordinary = ordinary_tray e.blank k; change = is_change; longest = 5 }) f.0;
        workers = size e z p ∙ f.1 ∙ sym (size e s o);
      }

  pub meaning_kept : {g : Ghosts E} → MeaningKept (tray_meaning e {g = g}) e.blank s
  meaning_kept =
      record {
        lawful = record { some_access = omega arith; lawful_object = object_law (tray_law e.blank s.room) _ };
        blank_named = refl;
        few_workers = omega (arith, size e s o, o.few_workers);
        seat_meant = seat_meant e s o;
        step_meant = step_meant e s o same;
        take_meant = take_meant e s o;
        clear_meant = clear_meant e s o;
        seat_same = λ i d. unchanged_names _ (seat_sound e s o i d) (grind arith);
        step_same = λ i. unchanged_names _ (step_sound e s o i same) (grind arith);
        take_same = λ i. unchanged_names _ (take_sound e s o i) (grind arith);
        clear_same = unchanged_names _ (clear_sound e s o) (refl, refl);
      }
