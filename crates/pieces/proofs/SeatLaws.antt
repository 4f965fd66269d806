-- A piece keeps its workers' seats in a list, of which the first n are in use; f reads off what each of them means.
use Rattle.std.proofs.Common.{◌≡◌, ℕ, zero, suc, ◌+◌, ◌<◌, ◌≤◌, Bool, true, false, cond, ltb, Ok, Err, List, [], ◌∷◌, map, length, get_or, take, set, replicate, sum_by, sym, refl, ap, ◌∙◌, suc-le-suc, zero-le, arith}
use Rattle.std.proofs.lemmas.List.{length-map, length-take-le, get_or-map, get_or-take, map-set}
use Rattle.std.proofs.lemmas.List.Sums.{sum_by-set}
use Rattle.std.proofs.lemmas.Bool.{ltb-true, cond-false}
use Rattle.elements.specs.Refusals.{refusal}
use Rattle.elements.specs.declared.refusals.Cause.TheVariants.{NoSuchWorker}
use Rattle.elements.specs.declared.refusals.Layer.TheVariants.{Piece}
use Rattle.pieces.specs.declared.seats.Seat.{Seat}
use Rattle.pieces.specs.declared.seats.Seat.TheVariants.{Empty}
use Rattle.pieces.specs.Seats.{occupant}
use Rattle.pieces.specs.Views.{SeatView, empty}

pub take_of_set : {A : Type 0} (n : ℕ) (xs : List A) (i : ℕ) (a : A) → take n (set xs i a) ≡ set (take n xs) i a
take_of_set zero xs i a = refl
take_of_set (suc n) [] i a = refl
take_of_set (suc n) (x ∷ xs) zero a = refl
take_of_set (suc n) (x ∷ xs) (suc i) a = ap (λ r. x ∷ r) (take_of_set n xs i a)

map_by : {A B C : Type 0} (g : A → C) (h : B → C) (f : A → B) (d : A) (xs : List A)
    → ((j : ℕ) → j < length xs → g (get_or xs j d) ≡ h (f (get_or xs j d))) → map g xs ≡ map h (map f xs)
map_by g h f d [] e = refl
map_by g h f d (x ∷ xs) e =
    let first : g x ≡ h (f x) = e 0 (suc-le-suc zero-le) in
    let rest : map g xs ≡ map h (map f xs) = map_by g h f d xs (λ j l. e (suc j) (suc-le-suc l)) in
    cc

-- a list that holds one thing only
map_replicate : {A B C : Type 0} (f : A → C) (a : A) (c : C) → f a ≡ c → (xs : List B) → map f (replicate (length xs) a) ≡ map (λ _. c) xs
map_replicate f a c e [] = refl
map_replicate f a c e (x ∷ xs) =
    let rest : map f (replicate (length xs) a) ≡ map (λ _. c) xs = map_replicate f a c e xs in
    cc

module _ {Q E : Type 0} (f : Q → SeatView E) (n : ℕ) (d : Q) (qs : List Q) (long : n ≤ length qs) where
  pub count_views : length (map f (take n qs)) ≡ n
  count_views = length-map (take n qs) f ∙ length-take-le n qs long

  -- worker i's
  pub view_at : (i : ℕ) → i < n → get_or (map f (take n qs)) i empty ≡ f (get_or qs i d)
  view_at i l = get_or-map f (take n qs) i d empty (omega (arith, length-take-le n qs long)) ∙ ap f (get_or-take n qs i d l)

  -- with another seat of worker i
  pub view_set : (i : ℕ) (q : Q) → map f (take n (set qs i q)) ≡ set (map f (take n qs)) i (f q)
  view_set i q = ap (map f) (take_of_set n qs i q) ∙ map-set f (take n qs) i q

  -- all seats read anew, by g, are those of before, each made another by h
  pub view_anew : (g : Q → SeatView E) (h : SeatView E → SeatView E) → ((j : ℕ) → j < n → g (get_or qs j d) ≡ h (f (get_or qs j d)))
      → map g (take n qs) ≡ map h (map f (take n qs))
  view_anew g h e =
      map_by g h f d (take n qs)
      (λ j l.
      let m : j < n = omega (arith, length-take-le n qs long) in
      ap g (get_or-take n qs j d m) ∙ e j m ∙ ap (λ q. h (f q)) (sym (get_or-take n qs j d m)))

  -- all seats emptied
  pub view_cleared : (e : Q) → f e ≡ empty → (qs' : List Q) → take n qs' ≡ replicate n e → map f (take n qs') ≡ map (λ _. empty) (map f (take n qs))
  view_cleared e is qs' all =
      ap (map f) (all ∙ ap (λ m. replicate m e) (sym count_views)) ∙ map_replicate f e empty is (map f (take n qs))

-- the seat of a worker of n, read in the first n seats
pub occupant_in : {K E T : Type 0} (n : ℕ) (qs : List (Seat K E T)) → n ≤ length qs → (i : ℕ) → occupant (length (take n qs)) (take n qs) i ≡ occupant n qs i
occupant_in n qs long i =
    ap (λ m. occupant m (take n qs) i) (length-take-le n qs long)
    ∙ by_cases (ltb i n) refl
  where
    by_cases : (b : Bool) → ltb i n ≡ b → occupant n (take n qs) i ≡ occupant n qs i
    by_cases true l = ap (λ q. cond (ltb i n) (Ok q) (Err (refusal Piece 1 NoSuchWorker refl refl))) (get_or-take n qs i Empty (ltb-true i n l))
    by_cases false l = cond-false (ltb i n) _ _ l ∙ sym (cond-false (ltb i n) _ _ l)

-- a number for each seat, summed over those in use: another seat of worker i changes the sum by its own
pub sum_set : {Q : Type 0} (w : Q → ℕ) (n : ℕ) (d : Q) (qs : List Q) → n ≤ length qs → (i : ℕ) → i < n → (q : Q)
    → sum_by w (take n (set qs i q)) + w (get_or qs i d) ≡ sum_by w (take n qs) + w q
sum_set w n d qs long i l q =
    omega (
      arith,
      ap (sum_by w) (take_of_set n qs i q),
      sum_by-set w (take n qs) i q d (omega (arith, length-take-le n qs long)),
      ap w (get_or-take n qs i d l),
    )
