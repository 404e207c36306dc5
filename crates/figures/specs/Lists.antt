-- Folds, tests and membership of lists.
-- Assumes nothing.
use Rattle.std.specs.Prelude.{◌≡◌, Bool, true, false, cond, ◌&&◌, ◌||◌, ◌⊎◌, List, [], ◌∷◌}

-- f of each element, joined by an operation; the operation's unit for an empty list
abbrev pub fold : {X V : Type 0} → V → (V → V → V) → List X → (X → V) → V
fold unit op [] f = unit
fold unit op (x ∷ xs) f = op (f x) (fold unit op xs f)

-- every element passes
abbrev pub every : {X : Type 0} → (X → Bool) → List X → Bool
every f xs = fold true ◌&&◌ xs f

-- some element passes
abbrev pub some_passes : {X : Type 0} → (X → Bool) → List X → Bool
some_passes f xs = fold false ◌||◌ xs f

-- the elements that pass
abbrev pub kept : {X : Type 0} → (X → Bool) → List X → List X
kept f [] = []
kept f (x ∷ xs) = let rest = kept f xs in cond (f x) (x ∷ rest) rest

-- x stands in the list
abbrev pub In : {X : Type 0} → X → List X → Type 0
In x [] = ⊥
In x (y ∷ ys) = (x ≡ y) ⊎ In x ys

-- no element stands twice
abbrev pub Once : {X : Type 0} → List X → Type 0
Once [] = Unit {0}
Once (x ∷ xs) = (In x xs → ⊥) × Once xs
