-- A run, call by call.
use Rattle.std.proofs.Common.{◌≡◌, ℕ, ◌+◌, ◌<◌, List, [], ◌∷◌, ◌++◌, length, get_or, take, None, Some, Option, sym, refl, ap, ◌∙◌}
use Rattle.std.specs.List.{fold, scan, cons_option}
use Rattle.std.specs.Option.{option_to_list}
use Rattle.std.proofs.lemmas.List.{take_more}
use Rattle.std.proofs.lemmas.List.Elements.{filter_map-append}
use Rattle.std.proofs.lemmas.List.Sums.{fold-append}
use Rattle.elements.specs.Kinds.{ElementKind}
use Rattle.elements.specs.Outcomes.{Exactly}
use Rattle.pieces.specs.TrayStates.{TrayState}
use Rattle.runs.specs.declared.events.Call.{Call}
use Rattle.runs.specs.declared.events.Event.{Event}
use Rattle.runs.specs.Events.{performed, events_of, state_after}
use Rattle.runs.specs.HeldFeeder.{popped, came_off}

-- a scan over one item more
scan_more : {S X Y : Type 0} (next : S → X → S) (out : S → X → Y) (s : S) (xs : List X) (x : X)
    → scan next out s (xs ++ (x ∷ [])) ≡ scan next out s xs ++ (out (fold next s xs) x ∷ [])
scan_more next out s [] x = refl
scan_more next out s (y ∷ xs) x = ap (λ zs. out s y ∷ zs) (scan_more next out (next s y) xs x)

module _ {E : Type 0} (e : ElementKind E) (s₀ : TrayState E) (cs : List (Call E)) where
  -- the events es and the state s are those of the first i calls
  pub record FirstCalls (i : ℕ) (es : List (Event E)) (s : TrayState E) : Type 0 where
    pub events : es ≡ events_of e s₀ (take i cs)
    pub state : s ≡ state_after e s₀ (take i cs)

  -- one call more
  pub call_more : {i : ℕ} {es es' : List (Event E)} {s s' : TrayState E} {v : Event E} (c : Call E) → i < length cs → c ≡ get_or cs i c
      → Exactly v s' (performed e s c) → es' ≡ es ++ (v ∷ []) → FirstCalls i es s → FirstCalls (i + 1) es' s'
  call_more {i} c l is o more so_far =
      let next : take (i + 1) cs ≡ take i cs ++ (c ∷ []) = take_more cs i c l ∙ ap (λ z. take i cs ++ (z ∷ [])) (sym is) in
      record { events = rw (next, scan_more) (cc); state = rw (next, fold-append) (cc) }

-- what comes off, event by event
pub off_more : {E : Type 0} (vs : List (Event E)) (i : ℕ) (v : Event E) (o : Option E) (xs xs' : List E) → i < length vs → v ≡ get_or vs i v
    → o ≡ popped v → xs' ≡ xs ++ option_to_list o → xs ≡ came_off (take i vs) → xs' ≡ came_off (take (i + 1) vs)
off_more {E} vs i v o xs xs' l is found more so_far =
    more ∙ ap (λ z. xs ++ option_to_list z) found ∙ ap (λ ys. ys ++ option_to_list (popped v)) so_far
    ∙ sym (ap came_off next ∙ filter_map-append popped (take i vs) (v ∷ []) ∙ ap (λ ys. came_off (take i vs) ++ ys) (one (popped v)))
  where
    next : take (i + 1) vs ≡ take i vs ++ (v ∷ [])
    next = take_more vs i v l ∙ ap (λ z. take i vs ++ (z ∷ [])) (sym is)

    one : (o : Option E) → cons_option o [] ≡ option_to_list o
    one None = refl
    one (Some x) = refl
