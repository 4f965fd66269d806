-- The run of the held feeder, for any four elements of any kind.
use Rattle.std.proofs.Common.{◌≡◌, ℕ, ◌+◌, true, cond, eqb, List, [], ◌∷◌, ◌++◌, take, drop, pos, IfOk, Ok, Err, vec_items, Result, Vec, sym, refl, ap, ◌∙◌, subst, lit<, lit≤}
use Rattle.std.specs.List.Sorted.{IsPermutation}
use Rattle.std.proofs.lemmas.List.Sorted.{IsPermutation-swap}
use Rattle.std.specs.declared.alloc.Global.{Global}
use Rattle.std.specs.declared.alloc.AllocError.{AllocError}
use Rattle.elements.specs.Kinds.{ElementKind}
use Rattle.elements.specs.Codes.{reply}
use Rattle.elements.specs.declared.commands.Command.{Command}
use Rattle.elements.specs.declared.commands.Reply.{Reply}
use Rattle.elements.specs.declared.commands.Code.TheVariants.{Done, Popped}
use Rattle.elements.specs.declared.refusals.Refusal.{Refusal}
use Rattle.pieces.specs.declared.tray.records.Cell.{Cell}
use Rattle.pieces.specs.declared.tray.records.Head.{Head}
use Rattle.pieces.specs.TrayKinds.{TraySeat, tray_command, push, pop}
use Rattle.pieces.specs.declared.seats.Seat.TheVariants.{Empty, Loaded, Running}
use Rattle.pieces.specs.declared.tray.records.Phase.TheVariants.{CellRead}
use Rattle.pieces.specs.TrayStates.{TrayState}
use Rattle.runs.specs.declared.events.Call.{Call}
use Rattle.runs.specs.declared.events.Call.TheVariants.{Seat as SeatCall}
use Rattle.runs.specs.declared.events.Event.{Event}
use Rattle.runs.specs.declared.events.Event.TheVariants.{Stepped, Taken}
use Rattle.runs.specs.declared.held_feeder.Batches.{Batches}
use Rattle.runs.specs.Events.{events_of, state_after, Played}
use Rattle.runs.specs.HeldFeeder.{whole, held, resumed, held_feeder, came_off, laid_since, laid_on, fresh, late_step, EachOnce}
use Rattle.runs.proofs.Solo.{ended_try, solo}

module _ {E : Type 0} (e : ElementKind E) (law : (x : E) → e.same x x ≡ true) (batches : Batches E) where
  abbrev a : E
  a = batches.first

  abbrev b : E
  b = batches.second

  abbrev c : E
  c = batches.third

  abbrev d : E
  d = batches.late

  abbrev cell : E → ℕ → Cell E
  cell x n = record { element = x; tick = pos n }

  abbrev head : ℕ → E → ℕ → Head E
  head i x n = record { index = i; element = x; tick = pos n }

  -- the tray with its first four cells, its head, feeder 0's seat and the seatings; the other feeders are idle
  abbrev tray : Cell E → Cell E → Cell E → Cell E → Head E → TraySeat E → ℕ → TrayState E
  tray c₀ c₁ c₂ c₃ h q g =
      record { cells = c₀ ∷ c₁ ∷ c₂ ∷ c₃ ∷ cell e.blank 0 ∷ []; heads = h ∷ []; seats = q ∷ Empty ∷ Empty ∷ []; seatings = g; room = 4; count = 3 }

  -- feeder 0 is held after its second access, when it has seen a on top and the blank in its cell
  abbrev waiting : TraySeat E
  waiting = Running (CellRead (record { command = tray_command (push d); head = head 1 a 1 }) e.blank)

  -- the states between the commands
  abbrev o : E
  o = e.blank

  abbrev s₁ : TrayState E
  s₁ = tray (cell o 0) (cell o 0) (cell o 0) (cell o 0) (head 1 a 1) Empty 1

  abbrev s₂ : TrayState E
  s₂ = tray (cell o 0) (cell o 0) (cell o 0) (cell o 0) (head 1 a 1) waiting 2

  abbrev s₃ : TrayState E
  s₃ = tray (cell o 0) (cell a 1) (cell o 0) (cell o 0) (head 0 o 1) waiting 3

  abbrev s₄ : TrayState E
  s₄ = tray (cell o 1) (cell a 1) (cell o 0) (cell o 0) (head 1 b 2) waiting 4

  abbrev s₅ : TrayState E
  s₅ = tray (cell o 1) (cell b 2) (cell o 0) (cell o 0) (head 2 c 1) waiting 5

  -- feeder 0 has gone on, and is stood off
  abbrev s₆ : TrayState E
  s₆ = tray (cell o 1) (cell b 2) (cell o 0) (cell o 0) (head 2 c 1) (Loaded (tray_command (push d))) 5

  abbrev s₇ : TrayState E
  s₇ = tray (cell o 1) (cell b 2) (cell c 1) (cell o 0) (head 3 d 1) Empty 5

  abbrev s₈ : TrayState E
  s₈ = tray (cell o 1) (cell b 2) (cell c 1) (cell d 1) (head 2 c 2) Empty 6

  abbrev s₉ : TrayState E
  s₉ = tray (cell o 1) (cell b 2) (cell c 2) (cell d 1) (head 1 b 3) Empty 7

  abbrev s₁₀ : TrayState E
  s₁₀ = tray (cell o 1) (cell b 3) (cell c 2) (cell d 1) (head 0 o 2) Empty 8

  -- a command of worker i from the state s, once it is seated
  abbrev seated : ℕ → Command E → TrayState E → TrayState E
  seated i k s = state_after e s (SeatCall i k ∷ [])

  abbrev more : TrayState E → TrayState E
  more s = record { cells = s.cells; heads = s.heads; seats = s.seats; seatings = s.seatings + 1; room = s.room; count = s.count }

  lays_a : ended_try e 1 (seated 1 (push a) (fresh e)) ≡ (Ok (reply Done o), s₁)
  lays_a = solo e (more (fresh e)) 1 (lit< tt) (lit≤ tt) law (tray_command (push a)) refl

  takes_a : ended_try e 1 (seated 1 (pop o) s₂) ≡ (Ok (reply Popped a), s₃)
  takes_a = solo e (more s₂) 1 (lit< tt) (lit≤ tt) law (tray_command (pop o)) refl

  lays_b : ended_try e 1 (seated 1 (push b) s₃) ≡ (Ok (reply Done o), s₄)
  lays_b = solo e (more s₃) 1 (lit< tt) (lit≤ tt) law (tray_command (push b)) refl

  lays_c : ended_try e 2 (seated 2 (push c) s₄) ≡ (Ok (reply Done o), s₅)
  lays_c = solo e (more s₄) 2 (lit< tt) (lit≤ tt) law (tray_command (push c)) refl

  lays_d : ended_try e 0 s₆ ≡ (Ok (reply Done o), s₇)
  lays_d = solo e s₆ 0 (lit< tt) (lit≤ tt) law (tray_command (push d)) refl

  takes_d : ended_try e 2 (seated 2 (pop o) s₇) ≡ (Ok (reply Popped d), s₈)
  takes_d = solo e (more s₇) 2 (lit< tt) (lit≤ tt) law (tray_command (pop o)) refl

  takes_c : ended_try e 2 (seated 2 (pop o) s₈) ≡ (Ok (reply Popped c), s₉)
  takes_c = solo e (more s₈) 2 (lit< tt) (lit≤ tt) law (tray_command (pop o)) refl

  takes_b : ended_try e 2 (seated 2 (pop o) s₉) ≡ (Ok (reply Popped b), s₁₀)
  takes_b = solo e (more s₉) 2 (lit< tt) (lit≤ tt) law (tray_command (pop o)) refl

  abbrev pops : List (Call E)
  pops = whole 2 (pop o) ++ whole 2 (pop o) ++ whole 2 (pop o)

  abbrev late : List (Call E)
  late = resumed 0 ++ pops

  abbrev EndedTry : Type 0
  EndedTry = Result (Reply E) Refusal × TrayState E

  -- what came off, and what was laid on
  abbrev told : (ℕ → E) → List (Event E) → List E × List E
  told f vs = (came_off vs, laid_since f vs)

  -- the latest commands' elements, by feeder
  abbrev with_x : ℕ → E → (ℕ → E) → ℕ → E
  with_x i x f j = cond (eqb j i) x (f j)

  abbrev f₁ : ℕ → E
  f₁ = with_x 1 a (λ _. o)

  abbrev f₃ : ℕ → E
  f₃ = with_x 1 o (with_x 0 d f₁)

  abbrev f₄ : ℕ → E
  f₄ = with_x 1 b f₃

  abbrev f₅ : ℕ → E
  f₅ = with_x 2 c f₄

  abbrev f₈ : ℕ → E
  f₈ = with_x 2 o f₅

  abbrev f₉ : ℕ → E
  f₉ = with_x 2 o f₈

  abbrev f₁₀ : ℕ → E
  f₁₀ = with_x 2 o f₉

  told_all : told (λ _. o) (events_of e (fresh e) (held_feeder o batches)) ≡ (a ∷ d ∷ c ∷ b ∷ [], a ∷ b ∷ c ∷ d ∷ [])
  told_all =
      ap (λ (y : EndedTry). told f₁ (Taken 1 y.0 ∷ events_of e y.1 (held 0 (push d) ++ whole 1 (pop o) ++ whole 1 (push b) ++ whole 2 (push c) ++ late))) lays_a
      ∙ ap (λ (p : List E × List E). (p.0, a ∷ p.1))
      (ap (λ (y : EndedTry). told f₃ (Taken 1 y.0 ∷ events_of e y.1 (whole 1 (push b) ++ whole 2 (push c) ++ late))) takes_a
      ∙ ap (λ (p : List E × List E). (a ∷ p.0, p.1))
      (ap (λ (y : EndedTry). told f₄ (Taken 1 y.0 ∷ events_of e y.1 (whole 2 (push c) ++ late))) lays_b
      ∙ ap (λ (p : List E × List E). (p.0, b ∷ p.1))
      (ap (λ (y : EndedTry). told f₅ (Taken 2 y.0 ∷ events_of e y.1 late)) lays_c
      ∙ ap (λ (p : List E × List E). (p.0, c ∷ p.1))
      (ap (λ (y : EndedTry). told f₅ (Taken 0 y.0 ∷ events_of e y.1 pops)) lays_d
      ∙ ap (λ (p : List E × List E). (p.0, d ∷ p.1))
      (ap (λ (y : EndedTry). told f₈ (Taken 2 y.0 ∷ events_of e y.1 (whole 2 (pop o) ++ whole 2 (pop o)))) takes_d
      ∙ ap (λ (p : List E × List E). (d ∷ p.0, p.1))
      (ap (λ (y : EndedTry). told f₉ (Taken 2 y.0 ∷ events_of e y.1 (whole 2 (pop o)))) takes_c
      ∙ ap (λ (p : List E × List E). (c ∷ p.0, p.1))
      (ap (λ (y : EndedTry). told f₁₀ (Taken 2 y.0 ∷ [])) takes_b)))))))

  -- the late write
  late_all : take 1 (drop 31 (events_of e (fresh e) (held_feeder o batches))) ≡ Stepped (late_step batches) ∷ []
  late_all =
      ap (λ (y : EndedTry). take 1 (drop 24 (events_of e y.1 (held 0 (push d) ++ whole 1 (pop o) ++ whole 1 (push b) ++ whole 2 (push c) ++ late)))) lays_a
      ∙ ap (λ (y : EndedTry). take 1 (drop 14 (events_of e y.1 (whole 1 (push b) ++ whole 2 (push c) ++ late)))) takes_a
      ∙ ap (λ (y : EndedTry). take 1 (drop 7 (events_of e y.1 (whole 2 (push c) ++ late)))) lays_b
      ∙ ap (λ (y : EndedTry). take 1 (events_of e y.1 late)) lays_c

  pub each_once : (vs : List (Event E)) → vs ≡ events_of e (fresh e) (held_feeder o batches) → EachOnce e batches vs
  each_once vs exact =
      let both : told (λ _. o) vs ≡ (a ∷ d ∷ c ∷ b ∷ [], a ∷ b ∷ c ∷ d ∷ []) = ap (told (λ _. o)) exact ∙ told_all in
      let off : came_off vs ≡ a ∷ d ∷ c ∷ b ∷ [] = ap (λ (p : List E × List E). p.0) both in
      let on : laid_on o vs ≡ a ∷ b ∷ c ∷ d ∷ [] = ap (λ (p : List E × List E). p.1) both in
      record {
        exact = exact;
        laid = on;
        once = subst (λ xs. IsPermutation xs (came_off vs)) (sym on)
            (subst (λ ys. IsPermutation (a ∷ b ∷ c ∷ d ∷ []) ys) (sym off)
            (IsPermutation-swap (a ∷ b ∷ c ∷ d ∷ []) (a ∷ d ∷ c ∷ b ∷ []) 1 3 (lit< tt) (lit< tt) refl));
        late = ap (λ z. take 1 (drop 31 z)) exact ∙ late_all;
      }

  -- a run of these calls on a new tray, if there was memory for it
  pub played_once : (s s' : TrayState E) (cs : List (Call E)) (r : Result (Vec (Event E) Global) AllocError)
      → s ≡ fresh e → cs ≡ held_feeder o batches → Played e s cs r s' → IfOk r (λ v. EachOnce e batches (vec_items v))
  played_once s s' cs (Ok v) f g p = each_once (vec_items v) (p.0 ∙ ap (λ z. events_of e z cs) f ∙ ap (events_of e (fresh e)) g)
  played_once s s' cs (Err x) f g p = tt
