-- A try of one worker, with no access of another in between, ends, and does what the ordinary object does.
use Rattle.std.proofs.Common.{◌≡◌, ℕ, zero, suc, ◌+◌, ◌<◌, Bool, true, false, cond, ltb, ◌⊎◌, List, map, length, get_or, set, Some, None, Ok, Err, Option, Result, sym, refl, ap, ◌∙◌, subst, inl, inr, add-one, arith}
use Rattle.std.proofs.lemmas.List.{get_or-map, get_or-set_same, set-set, set-get_or, length-set, length-map, map-set}
use Rattle.std.proofs.lemmas.Bool.{true≢false, false≢true, lt-ltb, ltb-true}
use Rattle.elements.specs.declared.commands.Command.{Command}
use Rattle.elements.specs.declared.commands.Reply.{Reply}
use Rattle.elements.specs.declared.answers.StepAnswer.{StepAnswer}
use Rattle.elements.specs.declared.answers.StepAnswer.TheVariants.{Moved, Settled, SettledEnded, Ended, StoodOff}
use Rattle.elements.specs.declared.refusals.Refusal.{Refusal}
use Rattle.elements.specs.Outcomes.{Exactly, unless_refused}
use Rattle.elements.specs.Refusals.{refusal, ask}
use Rattle.elements.specs.declared.refusals.Cause.TheVariants.{NoSuchWorker, NothingToStep, NothingToTake}
use Rattle.elements.specs.declared.refusals.Layer.TheVariants.{Piece}
use Rattle.pieces.specs.Names.{Names}
use Rattle.pieces.specs.Views.{new_try, SeatView, empty, loaded, running, ended, PieceView, workers_of, seat_of}
use Rattle.pieces.specs.Accesses.{MayAnswer, Allowed, disturbed_seat, Left, left_by, left_at, view_left, after}
use Rattle.pieces.specs.Calls.{is_empty, can_step, can_take, reply_at, reseated, step_refusal, seat_refusal, seated, taken, Stepped}
use Rattle.pieces.specs.Alone.{ended_by, Finished, called_alone_view, called_alone}
use Rattle.pieces.proofs.CallLaws.{step_asked}

module _ {E C : Type 0} (N : Names E C) (v : PieceView E C) (i : ℕ) (c : Command E) where
  abbrev w : ℕ
  w = N.longest

  abbrev answer : C × Reply E
  answer = N.ordinary v.content c

  -- the worker's seat after k accesses, while its try has not settled
  abbrev trying : ℕ → SeatView E
  trying zero = loaded c
  trying (suc k) = running c (record { accesses = suc k; disturbed = false; settled = None })

  -- the view after its try has settled, with this seat
  abbrev settled_with : SeatView E → PieceView E C
  settled_with q = view_left N v i (record { seat = q; content = answer.0; disturbs = N.change answer.1.code })

  -- after k accesses of the try, begun in v, the view is u
  abbrev pub Going : ℕ → PieceView E C → Type 0
  Going k u =
      (u ≡ reseated v i (trying k))
      ⊎ (u ≡ settled_with (running c (record { accesses = k; disturbed = false; settled = Some answer.1 })))

  -- what one access more makes of it, by its answer
  abbrev pub Goes : ℕ → Result StepAnswer Refusal → PieceView E C → Type 0
  Goes k (Ok Moved) u = Going (k + 1) u × (k + 1 < w)
  Goes k (Ok Settled) u = Going (k + 1) u × (k + 1 < w)
  Goes k (Ok SettledEnded) u = u ≡ settled_with (ended answer.1)
  Goes k (Ok Ended) u = u ≡ settled_with (ended answer.1)
  Goes k (Ok StoodOff) u = ⊥
  Goes k (Err r) u = ⊥

  -- an access at the worker's seat of the try, as one of a try with k accesses
  left_trying : (k : ℕ) (a : StepAnswer) → left_at N v.content (trying k) a ≡ left_by N v.content c (record { accesses = k; disturbed = false; settled = None }) a
  left_trying zero a = refl
  left_trying (suc k) a = refl

  allowed_trying : (k : ℕ) (a : StepAnswer) → Allowed w (trying k) a → MayAnswer {E = E} w (record { accesses = k; disturbed = false; settled = None }) a
  allowed_trying zero a p = p
  allowed_trying (suc k) a p = p

  trying_more : (k : ℕ) → running c (record { accesses = k + 1; disturbed = false; settled = None }) ≡ trying (k + 1)
  trying_more k = subst (λ n. running c (record { accesses = n; disturbed = false; settled = None }) ≡ trying n) (sym (add-one k)) refl

  module _ (there : i < workers_of v) where
    -- an access leaves of the view with the worker's seat what it leaves of v
    pub left_once : (k : ℕ) (l : Left E C) → view_left N (reseated v i (trying k)) i l ≡ view_left N v i l
    left_once k l = λ j. record { content = l.content; seatings = v.seatings; seats = go l.disturbs j }
      where
        go : (b : Bool) → set (cond b (map disturbed_seat (set v.seats i (trying k))) (set v.seats i (trying k))) i l.seat
            ≡ set (cond b (map disturbed_seat v.seats) v.seats) i l.seat
        go true = ap (λ qs. set qs i l.seat) (map-set disturbed_seat v.seats i (trying k)) ∙ set-set (map disturbed_seat v.seats) i _ l.seat
        go false = set-set v.seats i (trying k) l.seat

    -- and after the try has settled it only makes the seat another
    left_twice : (q q' : SeatView E) → view_left N (settled_with q) i (record { seat = q'; content = answer.0; disturbs = false }) ≡ settled_with q'
    left_twice q q' = λ j. record {
      content = answer.0;
      seatings = v.seatings;
      seats = set-set (cond (N.change answer.1.code) (map disturbed_seat v.seats) v.seats) i q q' j;
    }

    seat_trying : (k : ℕ) → seat_of (reseated v i (trying k)) i ≡ trying k
    seat_trying k = get_or-set_same v.seats i (trying k) empty there

    seat_settled : (q : SeatView E) → seat_of (settled_with q) i ≡ q
    seat_settled q = get_or-set_same (cond (N.change answer.1.code) (map disturbed_seat v.seats) v.seats) i q empty (within (N.change answer.1.code))
      where
        within : (b : Bool) → i < length (cond b (map disturbed_seat v.seats) v.seats)
        within true = omega (arith, length-map v.seats disturbed_seat)
        within false = there

    -- one access of a try that has not settled
    from_trying : (k : ℕ) (a : StepAnswer) (u : PieceView E C) → MayAnswer {E = E} w (record { accesses = k; disturbed = false; settled = None }) a
        → u ≡ view_left N v i (left_by N v.content c (record { accesses = k; disturbed = false; settled = None }) a) → Goes k (Ok a) u
    from_trying k Moved u may e = (inl (e ∙ ap (reseated v i) (trying_more k)), may)
    from_trying k Settled u may e = (inr e, may.1)
    from_trying k SettledEnded u may e = e
    from_trying k Ended u may e = absurd (false≢true may.0)
    from_trying k StoodOff u may e = absurd (false≢true may.1)

    -- and of one that has
    from_settled : (k : ℕ) (a : StepAnswer) (u : PieceView E C) → MayAnswer w (record { accesses = k; disturbed = false; settled = Some answer.1 }) a
        → u ≡ view_left N (settled_with (running c (record { accesses = k; disturbed = false; settled = Some answer.1 }))) i
        (left_by N answer.0 c (record { accesses = k; disturbed = false; settled = Some answer.1 }) a)
        → Goes k (Ok a) u
    from_settled k Moved u may e = (inr (e ∙ left_twice _ _), may)
    from_settled k Settled u may e = absurd (true≢false may.0)
    from_settled k SettledEnded u may e = absurd (true≢false may.0)
    from_settled k Ended u may e = e ∙ left_twice _ _
    from_settled k StoodOff u may e = absurd (true≢false may.0)

    size_of : (k : ℕ) (u : PieceView E C) → Going k u → workers_of u ≡ workers_of v
    size_of k u (inl e) = ap workers_of e ∙ length-set v.seats i (trying k)
    size_of k u (inr e) = ap workers_of e ∙ length-set (cond (N.change answer.1.code) (map disturbed_seat v.seats) v.seats) i _ ∙ go (N.change answer.1.code)
      where
        go : (b : Bool) → length (cond b (map disturbed_seat v.seats) v.seats) ≡ length v.seats
        go true = length-map v.seats disturbed_seat
        go false = refl

    can_go : (k : ℕ) (u : PieceView E C) → Going k u → can_step (seat_of u i) ≡ true
    can_go k u (inl e) = ap (λ z. can_step (seat_of z i)) e ∙ ap can_step (seat_trying k) ∙ loaded_or_running k
      where
        loaded_or_running : (n : ℕ) → can_step (trying n) ≡ true
        loaded_or_running zero = refl
        loaded_or_running (suc n) = refl
    can_go k u (inr e) = ap (λ z. can_step (seat_of z i)) e ∙ ap can_step (seat_settled _)

    -- so a Step of the worker is not refused
    not_refused : (k : ℕ) (u : PieceView E C) → Going k u → (r : Refusal) → step_refusal u i ≡ Some r → ⊥
    not_refused k u g r e =
        let n : step_refusal u i ≡ None =
        step_asked (λ z. z) u i (workers_of v) (size_of k u g) there (seat_of u i) refl
        ∙ ap (λ b. ask b (refusal Piece 6 NothingToStep refl refl) None) (can_go k u g) in
        let z : ◌≡◌ {A = ℕ} 0 1 = cc in
        omega arith

    -- and the try goes on, or ends
    pub goes : (k : ℕ) (u u' : PieceView E C) (r : Result StepAnswer Refusal) → Going k u → Stepped N u i r u' → Goes k r u'
    goes k u u' (Err r) g p = not_refused k u g r p.0
    goes k u u' (Ok a) (inl e) p =
        from_trying k a u'
        (allowed_trying k a (subst (λ q. Allowed w q a) (ap (λ z. seat_of z i) e ∙ seat_trying k) p.1))
        (p.2 ∙ ap (λ z. after N z i a) e
        ∙ ap (λ q. view_left N (reseated v i (trying k)) i (left_at N v.content q a)) (seat_trying k)
        ∙ left_once k _ ∙ ap (view_left N v i) (left_trying k a))
    goes k u u' (Ok a) (inr e) p =
        let q : SeatView E = running c (record { accesses = k; disturbed = false; settled = Some answer.1 }) in
        from_settled k a u' (subst (λ z. Allowed w z a) (ap (λ z. seat_of z i) e ∙ seat_settled q) p.1)
        (p.2 ∙ ap (λ z. after N z i a) e ∙ ap (λ z. view_left N (settled_with q) i (left_at N answer.0 z a)) (seat_settled q))

    -- so it ends as one access that settles and ends it would,
    pub ends : seat_of v i ≡ loaded c → (k : ℕ) (u : PieceView E C) (r : Result StepAnswer Refusal) → Goes k r u → ended_by r ≡ true → u ≡ after N v i SettledEnded
    ends at k u (Ok Moved) g e = absurd (false≢true e)
    ends at k u (Ok Settled) g e = absurd (false≢true e)
    ends at k u (Ok SettledEnded) g e = g ∙ ap (λ q. view_left N v i (left_at N v.content q SettledEnded)) (sym at)
    ends at k u (Ok Ended) g e = g ∙ ap (λ q. view_left N v i (left_at N v.content q SettledEnded)) (sym at)
    ends at k u (Ok StoodOff) g e = absurd g
    ends at k u (Err r) g e = absurd g

    -- or has one access more behind it, and another before it
    pub goes_on : (k : ℕ) (u : PieceView E C) (r : Result StepAnswer Refusal) → Goes k r u → ended_by r ≡ false → Going (k + 1) u × (k + 1 < w)
    goes_on k u (Ok Moved) g e = g
    goes_on k u (Ok Settled) g e = g
    goes_on k u (Ok SettledEnded) g e = absurd (true≢false e)
    goes_on k u (Ok Ended) g e = absurd (true≢false e)
    goes_on k u (Ok StoodOff) g e = absurd g
    goes_on k u (Err r) g e = absurd g

-- one access of a try that goes on; N' is what is named by then, which is N
module _ {E C : Type 0} (N N' : Names E C) (same : N' ≡ N) (v : PieceView E C) (i : ℕ) (c : Command E) (there : i < workers_of v) (at : seat_of v i ≡ loaded c)
    (k : ℕ) (u u' : PieceView E C) (going : Going N v i c k u) (r : Result StepAnswer Refusal) (p : Stepped N' u i r u') where
  pub access_ends : true ≡ ended_by r → u' ≡ after N v i SettledEnded
  access_ends e = ends N v i c there at k u' r (goes N v i c there k u u' r going (subst (λ M. Stepped M u i r u') same p)) (sym e)

  pub access_goes_on : false ≡ ended_by r → Going N v i c (k + 1) u' × (k + 1 < N.longest)
  access_goes_on e = goes_on N v i c there k u' r (goes N v i c there k u u' r going (subst (λ M. Stepped M u i r u') same p)) (sym e)

-- a question that does not decide was answered by yes
asked : (b : Bool) (r : Refusal) (later : Option Refusal) → ask b r later ≡ None → (b ≡ true) × (later ≡ None)
asked true r later e = (refl, e)
asked false r later e = let z : ◌≡◌ {A = ℕ} 0 1 = cc in absurd (omega arith)

-- a whole call: Seat, the try to its end, Take
module _ {E C : Type 0} (N : Names E C) (v : PieceView E C) (i : ℕ) (c : Command E) where
  abbrev seated_view : PieceView E C
  seated_view = record { content = v.content; seatings = v.seatings + 1; seats = set v.seats i (loaded c) }

  -- one that is seated was not refused
  accepted : (u : PieceView E C) → Exactly (Ok tt) u (seated N v i c) → (seat_refusal N v i c ≡ None) × (u ≡ seated_view)
  accepted u = go (seat_refusal N v i c)
    where
      go : (o : Option Refusal) → Exactly {R = Result (Unit {0}) Refusal} (Ok tt) u (unless_refused o v (tt, seated_view)) → (o ≡ None) × (u ≡ seated_view)
      go None x = (refl, x.left)
      go (Some f) x = let e = x.answer in let z : ◌≡◌ {A = ℕ} 0 1 = cc in absurd (omega arith)

  module _ (free : seat_refusal N v i c ≡ None) where
    there : i < workers_of v
    there = ltb-true i (workers_of v) (asked (ltb i (workers_of v)) _ _ free).0

    idle : seat_of v i ≡ empty
    idle = only_empty (seat_of v i) (asked (is_empty (seat_of v i)) _ _ (asked (ltb i (workers_of v)) _ _ free).1).0
      where
        only_empty : (q : SeatView E) → is_empty q ≡ true → q ≡ empty
        only_empty empty e = refl
        only_empty (loaded d) e = absurd (false≢true e)
        only_empty (running d t) e = absurd (false≢true e)
        only_empty (ended r) e = absurd (false≢true e)

    abbrev counted : PieceView E C
    counted = record { content = v.content; seatings = v.seatings + 1; seats = v.seats }

    abbrev others : Bool → List (SeatView E)
    others b = cond b (map disturbed_seat v.seats) v.seats

    abbrev change : Bool
    change = N.change (N.ordinary v.content c).1.code

    -- the view when the try has ended, and when the reply is taken
    abbrev ended_view : PieceView E C
    ended_view = record { content = (N.ordinary v.content c).0; seatings = v.seatings + 1; seats = set (others change) i (ended (N.ordinary v.content c).1) }

    ended_is : (u : PieceView E C) → Finished N seated_view i u → u ≡ ended_view
    ended_is u f =
        let at : seat_of seated_view i ≡ loaded c = get_or-set_same v.seats i (loaded c) empty there in
        f c (omega (arith, length-set v.seats i (loaded c), there)) at
        ∙ ap (λ q. view_left N seated_view i (left_at N v.content q SettledEnded)) at
        ∙ left_once N counted i c there 0 (left_by N v.content c new_try SettledEnded)

    size_others : (b : Bool) → length (others b) ≡ length v.seats
    size_others true = length-map v.seats disturbed_seat
    size_others false = refl

    idle_others : (b : Bool) → get_or (others b) i empty ≡ empty
    idle_others true = get_or-map disturbed_seat v.seats i empty empty there ∙ ap disturbed_seat idle
    idle_others false = idle

    seat_ended : seat_of ended_view i ≡ ended (N.ordinary v.content c).1
    seat_ended = get_or-set_same (others change) i (ended (N.ordinary v.content c).1) empty (omega (arith, size_others change, there))

    taken_is : taken N ended_view i ≡ unless_refused None ended_view (called_alone_view N v c)
    taken_is =
        ap (λ b. unless_refused (ask b (refusal Piece 1 NoSuchWorker refl refl) (ask (can_take (seat_of ended_view i)) (refusal Piece 7 NothingToTake refl refl) None)) ended_view
        (reply_at N.blank (seat_of ended_view i), reseated ended_view i empty))
        (lt-ltb i (workers_of ended_view) (omega (arith, size_others change, there, length-set (others change) i (ended (N.ordinary v.content c).1))))
        ∙ ap (λ q. unless_refused (ask (can_take q) (refusal Piece 7 NothingToTake refl refl) None) ended_view (reply_at N.blank q, reseated ended_view i empty)) seat_ended
        ∙ ap (λ qs. unless_refused None ended_view ((N.ordinary v.content c).1, record { content = (N.ordinary v.content c).0; seatings = v.seatings + 1; seats = qs }))
        (set-set (others change) i (ended (N.ordinary v.content c).1) empty ∙ ap (set (others change) i) (sym (idle_others change)) ∙ set-get_or (others change) i empty)

  -- from the seated command over the ended try to the reply; what is named stays N
  pub alone : (N₁ N₂ : Names E C) → N₁ ≡ N → N₂ ≡ N → (u₁ u₂ u₃ : PieceView E C) (r : Result (Reply E) Refusal)
      → Exactly (Ok tt) u₁ (seated N v i c) → Finished N₁ u₁ i u₂ → Exactly r u₃ (taken N₂ u₂ i) → Exactly r u₃ (called_alone N v i c)
  alone N₁ N₂ e₁ e₂ u₁ u₂ u₃ r s f t =
      let a = accepted u₁ s in
      let is : u₂ ≡ ended_view a.0 = ended_is a.0 u₂ (subst (λ z. Finished N z i u₂) a.1 (subst (λ M. Finished M u₁ i u₂) e₁ f)) in
      subst (λ o. Exactly r u₃ (unless_refused o v (called_alone_view N v c))) (sym a.0)
      (subst (λ y. Exactly r u₃ y) (taken_is a.0) (subst (λ z. Exactly r u₃ (taken N z i)) is (subst (λ M. Exactly r u₃ (taken M u₂ i)) e₂ t)))
