-- A push and a pop, on the cells and the head of a tray and on a list.
use Rattle.std.proofs.Common.{◌≡◌, ℕ, zero, suc, ◌+◌, ◌-◌, ◌<◌, Bool, true, false, cond, eqb, ◌≢◌, List, [], ◌∷◌, ◌++◌, length, get_or, take, set, pos, sym, refl, ap, ◌∙◌, subst, add-one, arith}
use Rattle.std.proofs.lemmas.List.{get_or-set_other, length_push, take_at, get_or_at}
use Rattle.std.proofs.lemmas.Bool.{eqb-false, cond-false}
use Rattle.elements.specs.Codes.{reply, is_change}
use Rattle.elements.specs.Kinds.{ElementKind}
use Rattle.elements.specs.declared.commands.Command.{Command}
use Rattle.elements.specs.declared.commands.Reply.{Reply}
use Rattle.elements.specs.declared.commands.Code.TheVariants.{Done, Full, Popped, Empty}
use Rattle.pieces.specs.declared.tray.records.Cell.{Cell}
use Rattle.pieces.specs.declared.tray.records.Head.{Head}
use Rattle.pieces.specs.declared.tray.records.Try.{Try}
use Rattle.pieces.specs.declared.tray.records.TrayKind.TheVariants.{Push, Pop}
use Rattle.pieces.specs.TrayKinds.{TrayCommand, is_push, pushes, tray_command}
use Rattle.pieces.specs.OrdinaryTray.{ordinary_push, ordinary_pop, ordinary_tray}
use Rattle.pieces.specs.TrayStates.{cell_at, below, stack}
use Rattle.pieces.specs.TrayAccess.{at_limit, settled_early, neighbour, limit_reply, done_reply}

module _ {E : Type 0} (blank : E) (cs : List (Cell E)) where
  length_below : (y : ℕ) → length (below blank cs y) ≡ y
  length_below zero = refl
  length_below (suc y) = omega (arith, length_push (below blank cs y) (cell_at blank cs (suc y)).element, length_below y)

  pub length_stack : (x : ℕ) (v : E) → length (stack blank cs x v) ≡ x
  length_stack zero v = refl
  length_stack (suc y) v = omega (arith, length_push (below blank cs y) v, length_below y)

  below_set : (x : ℕ) (c : Cell E) (y : ℕ) → y < x → below blank (set cs x c) y ≡ below blank cs y
  below_set x c zero l = refl
  below_set x c (suc y) l =
      let n : suc y ≢ x = omega arith in
      let b : below blank (set cs x c) y ≡ below blank cs y = below_set x c y (omega arith) in
      let f : (cell_at blank (set cs x c) (suc y)).element ≡ (cell_at blank cs (suc y)).element =
      ap (λ z. z.element) (get_or-set_other cs x (suc y) c (record { element = blank; tick = pos 0 }) n) in
      cc

  -- what lies on a tray does not lie in the head's own cell
  pub stack_set : (x : ℕ) (c : Cell E) (v : E) → stack blank (set cs x c) x v ≡ stack blank cs x v
  stack_set zero c v = refl
  stack_set (suc y) c v = ap (λ xs. xs ++ (v ∷ [])) (below_set (suc y) c y (omega arith))

  -- once the head's element is written into its cell
  below_stack : (x : ℕ) (v : E) → (cell_at blank cs x).element ≡ v → below blank cs x ≡ stack blank cs x v
  below_stack zero v e = refl
  below_stack (suc y) v e = ap (λ w. below blank cs y ++ (w ∷ [])) e

  push_stack : (x : ℕ) (v u : E) → (cell_at blank cs x).element ≡ v → stack blank cs (x + 1) u ≡ stack blank cs x v ++ (u ∷ [])
  push_stack x v u p = ap (λ z. stack blank cs z u) (add-one x) ∙ ap (λ xs. xs ++ (u ∷ [])) (below_stack x v p)

  pop_stack : (x : ℕ) (v u : E) → (x ≡ 0 → ⊥) → (cell_at blank cs (x - 1)).element ≡ u
      → (stack blank cs (x - 1) u ≡ take (x - 1) (stack blank cs x v)) × (get_or (stack blank cs x v) (x - 1) blank ≡ v)
  pop_stack zero v u n p = absurd (n refl)
  pop_stack (suc y) v u n p =
      let e : suc y - 1 ≡ y = omega arith in
      subst (λ z. (stack blank cs z u ≡ take z (stack blank cs (suc y) v)) × (get_or (stack blank cs (suc y) v) z blank ≡ v)) (sym e) (
        sym (below_stack y u (subst (λ z. (cell_at blank cs z).element ≡ u) e p)) ∙ sym (take_at (below blank cs y) (v ∷ []) y (length_below y)),
        get_or_at (below blank cs y) v [] blank y (length_below y),
      )

module _ {E : Type 0} (e : ElementKind E) (k : ℕ) where
  -- at its limit the ordinary tray only looks, whatever command comes to it
  pub limit_look : (xs : List E) (c : Command E) → cond (is_push c) (eqb (length xs) k) (eqb (length xs) 0) ≡ true
      → ordinary_tray e.blank k xs c ≡ (xs, limit_reply e (tray_command c))
  limit_look xs c = go (is_push c)
    where
      go : (b : Bool) → cond b (eqb (length xs) k) (eqb (length xs) 0) ≡ true
          → cond b (ordinary_push e.blank k xs c.element) (ordinary_pop e.blank k xs)
          ≡ (xs, limit_reply e (record { kind = cond b Push Pop; element = c.element }))
      go true f = ap (λ y. cond y (xs, reply Full e.blank) (xs ++ (c.element ∷ []), reply Done e.blank)) f
      go false f = ap (λ y. cond y (xs, reply Empty e.blank) (take (length xs - 1) xs, reply Popped (get_or xs (length xs - 1) e.blank))) f

  pub limit_no_change : (c : TrayCommand E) → is_change (limit_reply e c).code ≡ false
  limit_no_change c = go (pushes c)
    where
      go : (b : Bool) → is_change (cond b (reply Full e.blank) (reply Empty e.blank)).code ≡ false
      go true = refl
      go false = refl

  pub done_change : (t : Try E) → is_change (done_reply e t).code ≡ true
  done_change t = go (pushes t.command)
    where
      go : (b : Bool) → is_change (cond b (reply Done e.blank) (reply Popped t.head.element)).code ≡ true
      go true = refl
      go false = refl

  -- a try of whatever command, that is not at its limit, and whose head's element is written into its cell: what the
  -- ordinary tray makes of the content is what the tray makes of the head
  module _ (cs : List (Cell E)) (c : Command E) (h : Head E) (u : E) where
    abbrev xs : List E
    xs = stack e.blank cs h.index h.element

    -- the try, of a push or not
    abbrev try_of : Bool → Try E
    try_of b = record { command = record { kind = cond b Push Pop; element = c.element }; head = h }

    size : length xs ≡ h.index
    size = length_stack e.blank cs h.index h.element

    moved_by : (b : Bool) → settled_early k (try_of b) ≡ false → (cell_at e.blank cs h.index).element ≡ h.element
        → u ≡ cond b c.element (cell_at e.blank cs (neighbour (try_of b))).element
        → ◌≡◌ {A = List E × Reply E} (cond b (ordinary_push e.blank k xs c.element) (ordinary_pop e.blank k xs))
        (stack e.blank cs (neighbour (try_of b)) u, done_reply e (try_of b))
    moved_by true f w m =
        cond-false (eqb (length xs) k) (xs, reply Full e.blank) (xs ++ (c.element ∷ []), reply Done e.blank) (ap (λ z. eqb z k) size ∙ f)
        ∙ ap (λ ys. (ys, reply Done e.blank))
        (sym (push_stack e.blank cs h.index h.element c.element w) ∙ ap (stack e.blank cs (h.index + 1)) (sym m))
    moved_by false f w m =
        let q = pop_stack e.blank cs h.index h.element u (eqb-false h.index 0 f) (sym m) in
        cond-false (eqb (length xs) 0) (xs, reply Empty e.blank) (take (length xs - 1) xs, reply Popped (get_or xs (length xs - 1) e.blank))
        (ap (λ z. eqb z 0) size ∙ f)
        ∙ ap (λ z. (take (z - 1) xs, reply Popped (get_or xs (z - 1) e.blank))) size
        ∙ (λ j. (sym q.0 j, reply Popped (q.1 j)))

    -- as the tray reads the command
    abbrev t : Try E
    t = record { command = tray_command c; head = h }

    pub moved_stack : at_limit k h t.command ≡ false → (cell_at e.blank cs h.index).element ≡ h.element
        → u ≡ cond (is_push c) c.element (cell_at e.blank cs (neighbour t)).element
        → ordinary_tray e.blank k xs c ≡ (stack e.blank cs (neighbour t) u, done_reply e t)
    moved_stack = moved_by (is_push c)
