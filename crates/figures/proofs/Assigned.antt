-- The assignments listed are exactly those of n alleles below k, and none is listed twice.
-- Assumes nothing.
use Rattle.std.proofs.Common.{◌≡◌, ℕ, zero, suc, ◌<◌, List, [], ◌∷◌, map, length, refl, ap, inl, inr, arith}
use Rattle.std.specs.List.{range_with_len, AllByRecursion}
use Rattle.figures.specs.Lists.{In, Once}
use Rattle.figures.specs.Assignments.{assignments}
use Rattle.figures.specs.Statements.{Listed}
use Rattle.figures.proofs.Members.{in_map, map_in, in_joined, joined_in, in_counting, counting_in, once_map, once_joined, once_counting}

pub listed_fits : (n k : ℕ) (ρ : List ℕ) → In ρ (assignments n k) → (length ρ ≡ n) × AllByRecursion (λ a. a < k) ρ
listed_fits zero k ρ (inl e) = simp e (refl, tt)
listed_fits zero k ρ (inr i) = elim i [ ]
listed_fits (suc n) k ρ i =
    let r = joined_in (λ a. map (λ σ. a ∷ σ) (assignments n k)) ρ (range_with_len 0 k) i in
    let q = map_in (λ σ. r.0 ∷ σ) ρ (assignments n k) r.2 in
    let h = listed_fits n k q.0 q.1 in
    let b = counting_in 0 k r.0 r.1 in
    simp q.2 (ap suc h.0, (omega arith, h.1))

pub fits_listed : (n k : ℕ) (ρ : List ℕ) → length ρ ≡ n → AllByRecursion (λ a. a < k) ρ → In ρ (assignments n k)
fits_listed zero k [] e h = inl refl
fits_listed zero k (a ∷ ρ) e h = absurd (omega (arith, e))
fits_listed (suc n) k [] e h = absurd (omega (arith, e))
fits_listed (suc n) k (a ∷ ρ) e h =
    in_joined (λ b. map (λ σ. b ∷ σ) (assignments n k)) a (a ∷ ρ) (range_with_len 0 k) (in_counting 0 k a (omega arith) (omega (arith, h.0)))
    (in_map (λ σ. a ∷ σ) ρ (assignments n k) (fits_listed n k ρ (omega (arith, e)) h.1))

pub once_assignments : (n k : ℕ) → Once (assignments n k)
once_assignments zero k = ((λ i. i), tt)
once_assignments (suc n) k =
    once_joined (λ a. map (λ σ. a ∷ σ) (assignments n k)) (λ a. once_map (λ σ. a ∷ σ) (λ σ τ e. cc) (assignments n k) (once_assignments n k))
    (λ a b ρ i j.
    let p = map_in (λ σ. a ∷ σ) ρ (assignments n k) i in
    let q = map_in (λ σ. b ∷ σ) ρ (assignments n k) j in
    cc (p.2, q.2))
    (range_with_len 0 k) (once_counting 0 k)

pub listed : Listed
listed n k = ((λ ρ. (listed_fits n k ρ, (λ h. fits_listed n k ρ h.0 h.1))), once_assignments n k)
