-- One person more: what the memory keeps with its tie written behind the others.
-- Assumes nothing.
use Rattle.std.proofs.Common.{◌≡◌, ℕ, ◌+◌, ◌<◌, ◌≤◌, min, max, true, ◌⊎◌, List, [], ◌∷◌, ◌++◌, map, reverse, length, get_or, take, set, replicate, Some, None, Option, sym, refl, ap, ◌∙◌, subst, ap₂, inl, inr, arith}
use Rattle.std.proofs.lemmas.List.{take_more_set, take-set-le, map_push, length-map, length-take-le, length-set, get_or-set_same, get_or-set_other, reverse-append}
use Rattle.std.proofs.lemmas.List.Elements.{filter_map-append}
use Rattle.std.proofs.lemmas.Bool.{cases_order, and_from}
use Rattle.figures.specs.Lists.{every}
use Rattle.figures.proofs.Names.{name}
use Rattle.forest.specs.declared.trees.Forest.{Forest}
use Rattle.forest.specs.declared.trees.Tie.{Tie}
use Rattle.forest.specs.Entries.{links_laid, in_range}
use Rattle.forest.specs.Hanging.{entry, first_entries, newest, parents, hung_by, Kept, Grown, Undone}
use Rattle.forest.specs.Laid.{laid}

newest_push : (es : List (Option (ℕ × ℕ))) (e : Option (ℕ × ℕ)) → newest (es ++ e ∷ []) ≡ newest (e ∷ []) ++ newest es
newest_push es e = ap reverse (filter_map-append (λ d. d) es (e ∷ [])) ∙ reverse-append (links_laid es) (links_laid (e ∷ []))

pub newest_none : (es : List (Option (ℕ × ℕ))) → newest (es ++ None ∷ []) ≡ newest es
newest_none es = newest_push es None

pub newest_some : (es : List (Option (ℕ × ℕ))) (l : ℕ × ℕ) → newest (es ++ Some l ∷ []) ≡ l ∷ newest es
newest_some es l = newest_push es (Some l)

-- what a memory keeps, all together
abbrev pub Memory : List ℕ → List (Option Tie) → ℕ → Type 0
Memory parent ties count = record { kept : Kept ties count; grown : Grown parent ties count; undone : Undone ties count }

-- the memory with the tie t of one person more
module _ (f : Forest) (t : Option Tie) (room : f.count < 64) where
  entries_more : first_entries (f.count + 1) (set f.ties f.count t) ≡ laid f ++ entry t ∷ []
  entries_more = let k = f.kept in ap (map entry) (take_more_set f.ties f.count t (omega arith)) ∙ map_push entry (take f.count f.ties) t

  entries_same : (p : ℕ) → p ≤ f.count → first_entries p (set f.ties f.count t) ≡ first_entries p f.ties
  entries_same p h = ap (map entry) (take-set-le p f.ties f.count t h)

  -- the links laid now, the last one first, are ls
  memory_more : (parent : List ℕ) (ls : List (ℕ × ℕ)) → newest (laid f ++ entry t ∷ []) ≡ ls → every in_range ls ≡ true → parent ≡ parents ls → ((u : Tie) → t ≡ Some u → u.hung ≡ hung_by (newest (laid f)) u.slots) → Memory parent (set f.ties f.count t) (f.count + 1)
  memory_more parent ls links range grown here =
      let k = f.kept in
      let now : newest (first_entries (f.count + 1) (set f.ties f.count t)) ≡ ls = ap newest entries_more ∙ links in record {
        kept = record { long = length-set f.ties f.count t ∙ k.long; few = omega arith; range = ap (every in_range) now ∙ range };
        grown = grown ∙ ap parents (sym now);
        undone = λ p u h e. go p u e (cases_order p f.count) h;
      }
    where
      go : (p : ℕ) (u : Tie) → get_or (set f.ties f.count t) p None ≡ Some u → (p ≡ f.count) ⊎ ((p < f.count) ⊎ (f.count < p)) → p < f.count + 1 → u.hung ≡ hung_by (newest (first_entries p (set f.ties f.count t))) u.slots
      go p u e (inl last) h =
          let k = f.kept in
          let read = ap (λ q. get_or (set f.ties f.count t) q None) last ∙ get_or-set_same f.ties f.count t None (omega arith) in
          let same = ap (λ q. first_entries q (set f.ties f.count t)) last ∙ entries_same f.count (omega arith) in
          here u (sym read ∙ e) ∙ ap (λ es. hung_by (newest es) u.slots) (sym same)
      go p u e (inr (inl l)) h =
          f.undone p u l (sym (get_or-set_other f.ties f.count p t None (omega arith)) ∙ e)
          ∙ ap (λ es. hung_by (newest es) u.slots) (sym (entries_same p (omega arith)))
      go p u e (inr (inr g)) h = absurd (omega arith)

-- one person more who links nothing
pub memory_none : (f : Forest) → f.count < 64 → Memory f.parent (set f.ties f.count None) (f.count + 1)
memory_none f room =
    memory_more f None room f.parent (newest (laid f)) (newest_none (laid f)) f.kept.range f.grown (λ u e. cc)

-- one person more who links two slots: the higher of their roots is hung under the lower
pub memory_some : (f : Forest) → f.count < 64 → (l : ℕ × ℕ) (t : Tie) (x y high low : ℕ) → in_range l ≡ true → x ≡ name (newest (laid f)) l.0 → y ≡ name (newest (laid f)) l.1 → high ≡ max x y → low ≡ min x y → t.slots ≡ l → t.hung ≡ max x y → Memory (set f.parent high low) (set f.ties f.count (Some t)) (f.count + 1)
unfolding parents
memory_some f room l t x y high low range p q up down slots hung =
    let ls = newest (laid f) in
    memory_more f (Some t) room (set f.parent high low) (l ∷ ls) (newest_some (laid f) t.slots ∙ ap (λ k. k ∷ ls) slots) (and_from (in_range l) (every in_range ls) range f.kept.range)
    (ap₂ (set f.parent) (up ∙ ap₂ max p q) (down ∙ ap₂ min p q) ∙ ap (λ ps. set ps (max (name ls l.0) (name ls l.1)) (min (name ls l.0) (name ls l.1))) f.grown)
    (λ u e. let same : t ≡ u = cc in subst (λ (v : Tie). v.hung ≡ hung_by ls v.slots) same (hung ∙ ap₂ max p q ∙ ap (hung_by ls) (sym slots)))

-- nobody laid
pub memory_start : (parent : List ℕ) → parent ≡ parents [] → Memory parent (replicate 64 None) 0
memory_start parent own = record {
  kept = record { long = refl; few = omega arith; range = refl };
  grown = own;
  undone = λ p t h e. absurd (omega arith);
}

-- how many persons are laid
pub persons_laid : (f : Forest) → length (laid f) ≡ f.count
persons_laid f = let k = f.kept in length-map (take f.count f.ties) entry ∙ length-take-le f.count f.ties (omega arith)
