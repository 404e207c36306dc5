-- Lists with the same elements in another order.
-- Assumes nothing.
use Rattle.std.proofs.Common.{◌≡◌, ◌⊎◌, List, [], ◌∷◌, refl, subst, inl, inr}
use Rattle.figures.specs.Lists.{In, Once}
use Rattle.figures.proofs.Members.{without, in_without, in_whole, not_left, once_without}

pub data Perm {X : Type 0} : List X → List X → Type 0 where
  done : Perm [] []
  keep : {x : X} {xs ys : List X} → Perm xs ys → Perm (x ∷ xs) (x ∷ ys)
  swap : {x y : X} {xs : List X} → Perm (x ∷ (y ∷ xs)) (y ∷ (x ∷ xs))
  next : {xs ys zs : List X} → Perm xs ys → Perm ys zs → Perm xs zs

module _ {X : Type 0} where
  pub perm_refl : (xs : List X) → Perm xs xs
  perm_refl [] = done
  perm_refl (x ∷ xs) = keep (perm_refl xs)

  -- an element of a list may be moved to its front
  to_front : (x : X) (ys : List X) (i : In x ys) → Perm (x ∷ without x ys i) ys
  unfolding without
  to_front x [] i = elim i [ ]
  to_front x (y ∷ ys) (inl e) = subst (λ z. Perm (x ∷ ys) (z ∷ ys)) e (perm_refl (x ∷ ys))
  to_front x (y ∷ ys) (inr i) = next swap (keep (to_front x ys i))

  -- two lists in which nothing stands twice, with the same elements
  pub same_members : (xs ys : List X) → Once xs → Once ys → ((x : X) → In x xs → In x ys) → ((x : X) → In x ys → In x xs) → Perm xs ys
  same_members [] [] o p f g = done
  same_members [] (y ∷ ys) o p f g = elim (g y (inl refl)) [ ]
  same_members (x ∷ xs) ys o p f g =
      let i = f x (inl refl) in
      next (keep (same_members xs (without x ys i) o.1 (once_without x ys i p) (λ z j. onward z j (in_without x z ys i (f z (inr j)))) (λ z j. backward z (λ e. not_left x ys i p (subst (λ t. In t (without x ys i)) e j)) (g z (in_whole x z ys i j)))))
      (to_front x ys i)
    where
      onward : (z : X) → In z xs → (z ≡ x) ⊎ In z (without x ys (f x (inl refl))) → In z (without x ys (f x (inl refl)))
      onward z j (inl e) = absurd (o.0 (subst (λ t. In t xs) e j))
      onward z j (inr k) = k

      backward : (z : X) → (z ≡ x → ⊥) → (z ≡ x) ⊎ In z xs → In z xs
      backward z q (inl e) = absurd (q e)
      backward z q (inr k) = k
