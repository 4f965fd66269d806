-- Writing a strip anew, place by place.
use Rattle.std.proofs.Common.{◌≡◌, ℕ, zero, suc, ◌+◌, ◌<◌, ◌≤◌, List, [], ◌∷◌, ◌++◌, length, get_or, take, drop, set, replicate, sym, refl, ap, subst, ◌∙◌, add-one, arith}
use Rattle.std.proofs.lemmas.List.{drop_more, set_at, length-replicate, length-append, length-drop, append_assoc, replicate_more, take_at, get_or_append_left, get_or-replicate}
use Rattle.std.specs.List.{FoldsTo}
use Rattle.pieces.specs.TrayCalls.{filled}

pub filled_more : {A : Type 0} (xs : List A) (i : ℕ) (a : A) → i < length xs → set (filled i a xs) i a ≡ filled (i + 1) a xs
filled_more xs i a l =
    ap (λ z. set (replicate i a ++ z) i a) (drop_more xs i a l)
    ∙ set_at (replicate i a) (get_or xs i a) (drop (i + 1) xs) a i (length-replicate i a)
    ∙ sym (append_assoc (replicate i a) (a ∷ []) (drop (i + 1) xs))
    ∙ ap (λ z. z ++ drop (i + 1) xs) (replicate_more i a)

pub take_filled : {A : Type 0} (n : ℕ) (a : A) (xs : List A) → take n (filled n a xs) ≡ replicate n a
take_filled n a xs = take_at (replicate n a) (drop n xs) n (length-replicate n a)

pub length_filled : {A : Type 0} (n : ℕ) (a : A) (xs : List A) → n ≤ length xs → length (filled n a xs) ≡ length xs
length_filled n a xs l = omega (arith, length-append (replicate n a) (drop n xs), length-replicate n a, length-drop n xs)

pub get_or_filled : {A : Type 0} (n : ℕ) (a : A) (xs : List A) (i : ℕ) (d : A) → i < n → get_or (filled n a xs) i d ≡ a
get_or_filled n a xs i d l =
    get_or_append_left (replicate n a) (drop n xs) d i (omega (arith, length-replicate n a)) ∙ get_or-replicate n i a d l

-- what is kept as places below m are written one by one is kept as the first n of them are
pub filled_keeps : {A : Type 0} (P : List A → Type 0) (a : A) (xs : List A) (m : ℕ) → m ≤ length xs → P xs
    → ((ys : List A) (i : ℕ) → i < m → P ys → P (set ys i a)) → (n : ℕ) → n ≤ m → P (filled n a xs)
filled_keeps P a xs m long was write zero l = was
filled_keeps P a xs m long was write (suc n) l =
    subst P (filled_more xs n a (omega arith) ∙ ap (λ k. filled k a xs) (add-one n))
    (write (filled n a xs) n (omega arith) (filled_keeps P a xs m long was write n (omega arith)))

-- items that calls make, each of which is a
pub all_made : {P A : Type 0} (R : P → A → P → Type 0) (a : A) (p : P) → ((x : A) (q : P) → R p x q → (x ≡ a) × (q ≡ p))
    → (xs : List A) (q : P) → FoldsTo R p xs q → xs ≡ replicate (length xs) a
all_made R a p same [] q f = refl
all_made R a p same (x ∷ xs) q (j, r, f) =
    let e = same x j r in
    let rest = all_made R a p same xs q (subst (λ z. FoldsTo R z xs q) e.1 f) in
    λ i. e.0 i ∷ rest i
