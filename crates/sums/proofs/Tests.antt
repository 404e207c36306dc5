-- The tests of a list's elements.
-- Assumes nothing.
use Rattle.std.proofs.Common.{◌≡◌, ℕ, suc, ◌+◌, ◌<◌, Bool, true, ◌&&◌, ◌||◌, List, [], ◌∷◌, length, get_or, sym, refl, ap, ◌∙◌, ap₂, inl, inr, add-zero, arith}
use Rattle.std.specs.List.{list_all, list_any, range_with_len, enumerate_from}
use Rattle.std.proofs.lemmas.Bool.{or_left, or_right}
use Rattle.figures.specs.Lists.{every, some_passes, In}

module _ {X : Type 0} (f : X → Bool) where
  pub every_all : (xs : List X) → every f xs ≡ list_all f xs
  every_all [] = refl
  every_all (x ∷ xs) = ap (λ b. f x && b) (every_all xs)

  pub some_from : (x : X) (xs : List X) → In x xs → f x ≡ true → some_passes f xs ≡ true
  some_from x [] i e = elim i [ ]
  some_from x (y ∷ xs) (inl q) e = or_left (f y) (some_passes f xs) (ap f (sym q) ∙ e)
  some_from x (y ∷ xs) (inr i) e = or_right (f y) (some_passes f xs) (some_from x xs i e)

-- a test of each element with its number, by a function that tells the elements
pub some_numbered : {X : Type 0} (f : ℕ × X → Bool) (d : X) (tell : ℕ → X) (n : ℕ) (xs : List X) → ((i : ℕ) → i < length xs → get_or xs i d ≡ tell (n + i)) → list_any f (enumerate_from n xs) ≡ some_passes (λ p. f (p, tell p)) (range_with_len n (length xs))
some_numbered f d tell n [] is = refl
some_numbered f d tell n (x ∷ xs) is =
    ap₂ ◌||◌ (ap (λ y. f (n, y)) (is 0 (omega arith) ∙ ap tell (add-zero n)))
    (some_numbered f d tell (n + 1) xs (λ i h. is (suc i) (omega arith) ∙ ap tell (omega arith)))
