-- Folds under an operation that may be regrouped and exchanged.
-- Assumes nothing.
use Rattle.std.proofs.Common.{◌≡◌, ℕ, ◌+◌, Bool, true, false, cond, List, [], ◌∷◌, ◌++◌, map, sym, refl, ap, ◌∙◌, ap₂, inl, inr, arith}
use mathlib.Core.Path.{fun_ext}
use Rattle.std.specs.List.{range_with_len, flat_map}
use Rattle.std.proofs.lemmas.List.FromFn.{map-range_with_len_more}
use Rattle.std.proofs.lemmas.List.{map-id}
use Rattle.algebra.specs.Semiring.{Commutative}
use Rattle.figures.specs.Lists.{fold, kept, In}
use Rattle.figures.proofs.Perms.{Perm, done, keep, swap, next}

module _ {X V : Type 0} (unit : V) (op : V → V → V) where
  pub fold_cong : (xs : List X) (f g : X → V) → ((x : X) → f x ≡ g x) → fold unit op xs f ≡ fold unit op xs g
  fold_cong xs f g e = ap (fold unit op xs) (fun_ext e)

-- only what stands in the list counts
pub fold_cong_in : {X V : Type 0} (unit : V) (op : V → V → V) (xs : List X) (f g : X → V) → ((x : X) → In x xs → f x ≡ g x) → fold unit op xs f ≡ fold unit op xs g
fold_cong_in unit op [] f g e = refl
fold_cong_in unit op (x ∷ xs) f g e = ap₂ op (e x (inl refl)) (fold_cong_in unit op xs f g (λ y i. e y (inr i)))

pub fold_map : {X Y V : Type 0} (unit : V) (op : V → V → V) (g : X → Y) (f : Y → V) (xs : List X) → fold unit op (map g xs) f ≡ fold unit op xs (λ x. f (g x))
fold_map unit op g f [] = refl
fold_map unit op g f (x ∷ xs) = ap (op (f (g x))) (fold_map unit op g f xs)

-- a map that takes unit to unit and joins to joins takes folds to folds
pub fold_carried : {X V W : Type 0} (unit : V) (op : V → V → V) (unit' : W) (op' : W → W → W) (h : V → W) → h unit ≡ unit' → ((x y : V) → h (op x y) ≡ op' (h x) (h y)) → (xs : List X) (f : X → V) (g : X → W) → ((x : X) → h (f x) ≡ g x) → h (fold unit op xs f) ≡ fold unit' op' xs g
fold_carried unit op unit' op' h z j [] f g e = z
fold_carried unit op unit' op' h z j (x ∷ xs) f g e =
    j (f x) (fold unit op xs f) ∙ ap₂ op' (e x) (fold_carried unit op unit' op' h z j xs f g e)

module _ {V : Type 0} {unit : V} {op : V → V → V} (c : Commutative unit op) where
  pub neutral_right : (x : V) → op x unit ≡ x
  neutral_right x = c.comm x unit ∙ c.neutral x

  -- the two middle ones of four exchanged
  pub exchanged : (a b x y : V) → op (op a b) (op x y) ≡ op (op a x) (op b y)
  exchanged a b x y =
      c.assoc a b (op x y)
      ∙ ap (op a) (sym (c.assoc b x y) ∙ ap (λ t. op t y) (c.comm b x) ∙ c.assoc x b y)
      ∙ sym (c.assoc a x (op b y))

  pub fold_append : {X : Type 0} (xs ys : List X) (f : X → V) → fold unit op (xs ++ ys) f ≡ op (fold unit op xs f) (fold unit op ys f)
  fold_append [] ys f = sym (c.neutral (fold unit op ys f))
  fold_append (x ∷ xs) ys f = ap (op (f x)) (fold_append xs ys f) ∙ sym (c.assoc (f x) (fold unit op xs f) (fold unit op ys f))

  -- one number more
  pub fold_counting_more : (n : ℕ) (f : ℕ → V) → fold unit op (range_with_len 0 (n + 1)) f ≡ op (fold unit op (range_with_len 0 n) f) (f n)
  fold_counting_more n f =
      ap (λ xs. fold unit op xs f) (sym (map-id (range_with_len 0 (n + 1))) ∙ map-range_with_len_more (λ x. x) 0 n n (omega arith) ∙ ap (λ xs. xs ++ n ∷ []) (map-id (range_with_len 0 n)))
      ∙ fold_append (range_with_len 0 n) (n ∷ []) f ∙ ap (op (fold unit op (range_with_len 0 n) f)) (neutral_right (f n))

  pub fold_joined : {X Y : Type 0} (g : X → List Y) (f : Y → V) (xs : List X) → fold unit op (flat_map g xs) f ≡ fold unit op xs (λ x. fold unit op (g x) f)
  fold_joined g f [] = refl
  fold_joined g f (x ∷ xs) = fold_append (g x) (flat_map g xs) f ∙ ap (op (fold unit op (g x) f)) (fold_joined g f xs)

  pub fold_both : {X : Type 0} (xs : List X) (f g : X → V) → fold unit op xs (λ x. op (f x) (g x)) ≡ op (fold unit op xs f) (fold unit op xs g)
  fold_both [] f g = sym (c.neutral unit)
  fold_both (x ∷ xs) f g =
      ap (op (op (f x) (g x))) (fold_both xs f g) ∙ exchanged (f x) (g x) (fold unit op xs f) (fold unit op xs g)

  pub fold_kept : {X : Type 0} (p : X → Bool) (f : X → V) (xs : List X) → fold unit op (kept p xs) f ≡ fold unit op xs (λ x. cond (p x) (f x) unit)
  fold_kept p f [] = refl
  fold_kept p f (x ∷ xs) = one (p x) ∙ ap (op (cond (p x) (f x) unit)) (fold_kept p f xs)
    where
      one : (b : Bool) → fold unit op (cond b (x ∷ kept p xs) (kept p xs)) f ≡ op (cond b (f x) unit) (fold unit op (kept p xs) f)
      one true = refl
      one false = sym (c.neutral (fold unit op (kept p xs) f))

  pub fold_unit : {X : Type 0} (xs : List X) → fold unit op xs (λ _. unit) ≡ unit
  fold_unit [] = refl
  fold_unit (x ∷ xs) = c.neutral (fold unit op xs (λ _. unit)) ∙ fold_unit xs

  pub fold_swap : {X Y : Type 0} (xs : List X) (ys : List Y) (f : X → Y → V) → fold unit op xs (λ x. fold unit op ys (f x)) ≡ fold unit op ys (λ y. fold unit op xs (λ x. f x y))
  fold_swap [] ys f = sym (fold_unit ys)
  fold_swap (x ∷ xs) ys f =
      ap (op (fold unit op ys (f x))) (fold_swap xs ys f) ∙ sym (fold_both ys (f x) (λ y. fold unit op xs (λ z. f z y)))

  pub fold_perm : {X : Type 0} {xs ys : List X} (f : X → V) → Perm xs ys → fold unit op xs f ≡ fold unit op ys f
  fold_perm f done = refl
  fold_perm f (keep {x} p) = ap (op (f x)) (fold_perm f p)
  fold_perm f (swap {x} {y} {xs}) =
      sym (c.assoc (f x) (f y) (fold unit op xs f)) ∙ ap (λ t. op t (fold unit op xs f)) (c.comm (f x) (f y)) ∙ c.assoc (f y) (f x) (fold unit op xs f)
  fold_perm f (next p q) = fold_perm f p ∙ fold_perm f q
