-- Nothing comes back in a run of a tray: call by call, what was left behind stays behind.
use Rattle.std.proofs.Common.{◌≡◌, ℕ, ◌<◌, ◌≤◌, true, false, eqb, List, [], ◌∷◌, ℤ, sym, refl, ap, ◌∙◌, subst, inl, inr, arith}
use Rattle.std.proofs.lemmas.Bool.{cases_Bool, cases_lt, both_ways, eq-eqb, eqb-true, and_from, and_parts}
use Rattle.std.proofs.lemmas.Bool.Decides.{nat_tests}
use Rattle.std.proofs.lemmas.List.Folds.{fold_stays}
use Rattle.std.proofs.lemmas.List.Sums.{fold-append}
use Rattle.elements.specs.Kinds.{ElementKind}
use Rattle.pieces.specs.Ticks.{tick_eq}
use Rattle.pieces.proofs.TickLaws.{Decides-tick_eq}
use Rattle.pieces.specs.declared.tray.records.TrayKind.TheVariants.{Push}
use Rattle.pieces.specs.declared.tray.records.Try.{Try}
use Rattle.pieces.specs.TrayStates.{TrayState, head_of}
use Rattle.pieces.specs.TrayAccess.{agrees}
use Rattle.pieces.specs.TraySound.{Sound}
use Rattle.pieces.proofs.Soundness.{seat_sound, step_sound, take_sound}
use Rattle.pieces.proofs.Returning.{Later, later_quiet, later_still, seen_now, step_later}
use Rattle.runs.specs.declared.events.Call.{Call}
use Rattle.runs.specs.declared.events.Call.TheVariants.{Seat, Step, Take}
use Rattle.runs.specs.Events.{performed, state_after}
use Rattle.runs.specs.NoReturn.{head_pair, NoReturn}

module _ {E : Type 0} (e : ElementKind E) (same : (x : E) → e.same x x ≡ true) where
  call_sound : (s : TrayState E) → Sound e.blank s → (c : Call E) → Sound e.blank (performed e s c).1
  call_sound s o (Seat i c) = seat_sound e s o i c
  call_sound s o (Step i) = step_sound e s o i same
  call_sound s o (Take i) = take_sound e s o i

  call_later : (s : TrayState E) → Sound e.blank s → (c : Call E) → Later e s (performed e s c).1
  call_later s o (Seat i c) = later_quiet e s _ (grind arith) (grind arith)
  call_later s o (Step i) = step_later e s o i
  call_later s o (Take i) = later_quiet e s _ (grind arith) (grind arith)

  run_sound : (s : TrayState E) → Sound e.blank s → (cs : List (Call E)) → Sound e.blank (state_after e s cs)
  run_sound s o [] = o
  run_sound s o (c ∷ cs) = run_sound (performed e s c).1 (call_sound s o c) cs

  run_later : (s : TrayState E) → Sound e.blank s → (cs : List (Call E)) → Later e s (state_after e s cs)
  run_later s o [] = later_quiet e s s refl refl
  run_later s o (c ∷ cs) = later_still e s _ _ (call_later s o c) (run_later (performed e s c).1 (call_sound s o c) cs)

  -- a tray without workers stays as it is
  nobody : (s : TrayState E) → s.count ≤ 0 → (c : Call E) → (performed e s c).1 ≡ s
  nobody s n (Seat i c) = grind (arith, nat_tests)
  nobody s n (Step i) = grind (arith, nat_tests)
  nobody s n (Take i) = grind (arith, nat_tests)

  module _ (s : TrayState E) (o : Sound e.blank s) where
    -- the head of s, as a try remembers it
    abbrev now : Try E
    now = record { command = record { kind = Push; element = e.blank }; head = head_of e.blank s.heads }

    same_pair : (z : TrayState E) → agrees (head_of e.blank z.heads) now ≡ true → head_pair e z ≡ head_pair e s
    same_pair z a =
        let p = and_parts (eqb (head_pair e z).0 (head_pair e s).0) (tick_eq (head_pair e z).1 (head_pair e s).1) a in
        λ j. (eqb-true (head_pair e z).0 (head_pair e s).0 p.0 j, (Decides-tick_eq (head_pair e z).1 (head_pair e s).1).0 p.1 j)

    pair_agrees : (z : TrayState E) → head_pair e z ≡ head_pair e s → agrees (head_of e.blank z.heads) now ≡ true
    pair_agrees z f =
        and_from _ _ (eq-eqb (head_pair e z).0 (head_pair e s).0 (ap (λ p. p.0) f))
        (subst (λ (p : ℕ × ℤ). tick_eq (head_pair e z).1 p.1 ≡ true) f ((Decides-tick_eq (head_pair e z).1 (head_pair e z).1).1 refl))

    gone_for_good : 0 < s.count → (cs ds : List (Call E)) → (head_pair e (state_after e s cs) ≡ head_pair e s → ⊥)
        → head_pair e (state_after e (state_after e s cs) ds) ≡ head_pair e s → ⊥
    gone_for_good some cs ds left back =
        let z : TrayState E = state_after e s cs in
        let seen = (run_later s o cs).seen now (seen_now e s o some now.command) in
        let gone : agrees (head_of e.blank z.heads) now ≡ false =
        elim (cases_Bool (agrees (head_of e.blank z.heads) now)) [ inl a ↦ absurd (left (same_pair z a)) | inr n ↦ n ] in
        both_ways _ ((run_later z (run_sound s o cs) ds).gone now seen gone) (pair_agrees (state_after e z ds) back)

    pub no_return : NoReturn e s
    no_return =
        record {
          head = λ cs ds left back. elim (cases_lt 0 s.count) [
            | inl some ↦ gone_for_good some cs ds left (ap (head_pair e) (sym (fold-append (λ z c. (performed e z c).1) s cs ds)) ∙ back)
            | inr none ↦ left (ap (head_pair e) (fold_stays (λ z c. (performed e z c).1) s (nobody s none) cs))
          ];
          cells = λ cs x. (run_later s o cs).grown x;
        }
