-- One person more at the end of a lawful family, in the list and in the memory. Assumes nothing.
use Rattle.std.proofs.Common.{◌≡◌, ℕ, ◌+◌, ◌<◌, ◌≤◌, true, List, [], ◌∷◌, ◌++◌, length, take, set, sym, ap, ◌∙◌, subst, inl, inr, arith}
use Rattle.std.proofs.lemmas.List.{take_more_set, length_push, get_or_push, get_or_append_left, get_or_past, length-take-le}
use Rattle.std.proofs.lemmas.Bool.{cases_order}
use Rattle.pedigree.specs.declared.families.Family.{Family}
use Rattle.pedigree.specs.declared.families.FamilyBuilder.{FamilyBuilder}
use Rattle.pedigree.specs.declared.persons.Person.{Person}
use Rattle.pedigree.specs.declared.persons.Person.TheVariants.{Founder, Child}
use Rattle.pedigree.specs.Families.{founders_in, parents_below, ParentsFirst, Lawful}
use Rattle.pedigree.specs.Building.{entered, persons_of}

pub founders_in_push : (ps : List Person) (x : Person) → founders_in (ps ++ x ∷ []) ≡ founders_in ps + founders_in (x ∷ [])
founders_in_push [] x = omega arith
founders_in_push (Founder ∷ ps) x = omega (arith, founders_in_push ps x)
founders_in_push (Child m f ∷ ps) x = founders_in_push ps x

pub parents_push : (ps : List Person) (x : Person) → ParentsFirst ps → parents_below (length ps) x ≡ true → ParentsFirst (ps ++ x ∷ [])
parents_push ps x first here p =
    elim (cases_order p (length ps)) [
      | inl e ↦ ap (parents_below p) (get_or_push ps x Founder p (sym e)) ∙ subst (λ n. parents_below n x ≡ true) (sym e) here
      | inr (inl l) ↦ ap (parents_below p) (get_or_append_left ps (x ∷ []) Founder p l) ∙ first p
      | inr (inr g) ↦ ap (parents_below p) (get_or_past (ps ++ x ∷ []) p Founder (omega (arith, length_push ps x)))
    ]

-- a person written into the memory behind those entered: the founders among them then, and all of them lawful where the person may have its number
module _ (b : FamilyBuilder) (n : ℕ) (x : Person) (next : n ≡ b.count) (room : n < 64) where
  entered_more : take (b.count + 1) (set b.persons n x) ≡ entered b ++ x ∷ []
  entered_more = ap (λ k. take (b.count + 1) (set b.persons k x)) next ∙ take_more_set b.persons b.count x (omega arith)

  pub counted_more : (k : ℕ) → k ≡ b.founders + founders_in (x ∷ []) → k ≡ founders_in (take (b.count + 1) (set b.persons n x))
  counted_more k counted = omega (arith, ap founders_in entered_more, founders_in_push (entered b) x)

  pub lawful_more : b.founders + founders_in (x ∷ []) ≤ 32 → parents_below n x ≡ true → Lawful (take (b.count + 1) (set b.persons n x))
  lawful_more few here =
      let long : n ≡ length (entered b) = next ∙ sym (length-take-le b.count b.persons (omega arith)) in
      let first = parents_push (entered b) x b.lawful.2 (subst (λ k. parents_below k x ≡ true) long here) in
      subst Lawful (sym entered_more) (omega (arith, length_push (entered b) x), omega (arith, founders_in_push (entered b) x), first)

-- a closed family is lawful, and has a person
pub family_lawful : (f : Family) → Lawful (persons_of f)
family_lawful f = f.builder.lawful

pub family_some : (f : Family) → 0 < length (persons_of f)
family_some f = let b = f.builder in let some = f.some in omega (arith, length-take-le b.count b.persons (omega arith))
