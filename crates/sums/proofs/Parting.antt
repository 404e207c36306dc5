-- Gathering the components one after the other finds all of them.
-- Assumes nothing.
use Rattle.std.proofs.Common.{◌≡◌, ℕ, ◌+◌, ◌^◌, ◌<◌, ◌≤◌, Bool, true, false, ◌&&◌, ◌||◌, ltb, ◌⊎◌, List, [], ◌∷◌, ◌++◌, length, replicate, is_some, None, Option, sym, refl, ap, ◌∙◌, subst, ap₂, inl, inr, arith}
use Rattle.std.specs.List.{range_with_len, flat_map}
use Rattle.std.proofs.lemmas.Bool.{cases_eq, both_ways, false≢true, and_parts, and_from, or_cases, or_left, or_right, lt-ltb, ltb-true}
use Rattle.algebra.specs.Semiring.{Ops, Laws}
use Rattle.readings.specs.declared.class.Class.{Class}
use Rattle.readings.specs.declared.class.Class.TheVariants.{Silent, Named, Several}
use Rattle.figures.specs.Graph.{Chain, same, back, join, Component, Components, Wide, links, has}
use Rattle.figures.specs.Lists.{fold, some_passes, In, Once}
use Rattle.figures.specs.Locus.{Locus}
use Rattle.figures.specs.View.{reading_of, readings_of}
use Rattle.figures.proofs.Members.{in_left, in_right, in_append, in_joined, joined_in, in_counting, counting_in, once_append, has_in, in_has, no_more}
use Rattle.sums.specs.Searching.{Searching, pair_of, is_set, agrees}
use Rattle.sums.specs.Seen.{told, seen}
use Rattle.sums.specs.Widths.{is_several, several_in, too_wide}
use Rattle.sums.specs.declared.slots.Held.{Held}
use Rattle.sums.proofs.Lawful.{blank}
use Rattle.sums.proofs.Tests.{some_from}
use Rattle.sums.proofs.Views.{told_at, reading_in, in_reading}

-- the components so far have exactly the slots gathered, and cover those below i
pub record Parted (n : ℕ) (ls : List (ℕ × ℕ)) (gathered : List ℕ) (i : ℕ) (cs : List (List ℕ)) : Type 0 where
  pub each : (c : List ℕ) → In c cs → (s : ℕ) × In s c × Component n ls s c
  pub once : Once (flat_map (λ c. c) cs)
  pub marked : (t : ℕ) → has gathered t ≡ true → In t (flat_map (λ c. c) cs)
  pub known : (t : ℕ) → In t (flat_map (λ c. c) cs) → has gathered t ≡ true
  pub covered : (t : ℕ) → t < i → In t (flat_map (λ c. c) cs)

module _ {n : ℕ} {ls : List (ℕ × ℕ)} where
  pub parted_none : {gathered : List ℕ} → ((t : ℕ) → has gathered t ≡ false) → Parted n ls gathered 0 []
  parted_none {gathered} blank = record {
    each = λ c i. elim i [ ];
    once = tt;
    marked = λ t e. absurd (both_ways (has gathered t) (blank t) e);
    known = λ t i. elim i [ ];
    covered = λ t h. absurd (omega arith);
  }

  module _ {gathered : List ℕ} {i : ℕ} {cs : List (List ℕ)} (p : Parted n ls gathered i cs) where
    -- a slot gathered before
    pub parted_old : has gathered i ≡ true → Parted n ls gathered (i + 1) cs
    parted_old e = record {
      each = p.each;
      once = p.once;
      marked = p.marked;
      known = p.known;
      covered = λ t h. go t h (cases_eq t i);
    }
      where
        go : (t : ℕ) → t < i + 1 → (t ≡ i) ⊎ (t ≡ i → ⊥) → In t (flat_map (λ c. c) cs)
        go t h (inl q) = p.marked t (ap (λ u. has gathered u) q ∙ e)
        go t h (inr ne) = p.covered t (omega arith)

    -- a new component
    pub parted_new : {c new : List ℕ} → i < n → Component n ls i c → has gathered i ≡ false → ((t : ℕ) → has new t ≡ (has gathered t || has c t)) → Parted n ls new (i + 1) (c ∷ cs)
    parted_new {c} {new} small comp free is = record {
      each = λ d j. which d j;
      once = once_append c (flat_map (λ d. d) cs) comp.once p.once apart;
      marked = λ t e. from_mark t (or_cases (has gathered t) (has c t) (sym (is t) ∙ e));
      known = λ t j. is t ∙ to_mark t (in_append t c (flat_map (λ d. d) cs) j);
      covered = λ t h. go t h (cases_eq t i);
    }
      where
        own_slot : In i c
        own_slot = (comp.exactly i).1 (small, same)

        which : (d : List ℕ) → (d ≡ c) ⊎ In d cs → (s : ℕ) × In s d × Component n ls s d
        which d (inl q) = (i, subst (In i) (sym q) own_slot, subst (Component n ls i) (sym q) comp)
        which d (inr j) = p.each d j

        apart : (t : ℕ) → In t c → In t (flat_map (λ d. d) cs) → ⊥
        apart t j k =
            let q = joined_in (λ d. d) t cs k in
            let e = p.each q.0 q.1 in
            let chained : Chain ls e.0 i = join ((e.2.exactly t).0 q.2).1 (back ((comp.exactly t).0 j).1) in
            both_ways (has gathered i) free (p.known i (in_joined (λ d. d) q.0 i cs q.1 ((e.2.exactly i).1 (small, chained))))

        from_mark : (t : ℕ) → (has gathered t ≡ true) ⊎ (has c t ≡ true) → In t (c ++ flat_map (λ d. d) cs)
        from_mark t (inl e) = in_right t c (flat_map (λ d. d) cs) (p.marked t e)
        from_mark t (inr e) = in_left t c (flat_map (λ d. d) cs) (has_in c t e)

        to_mark : (t : ℕ) → In t c ⊎ In t (flat_map (λ d. d) cs) → (has gathered t || has c t) ≡ true
        to_mark t (inl j) = or_right (has gathered t) (has c t) (in_has c t j)
        to_mark t (inr j) = or_left (has gathered t) (has c t) (p.known t j)

        go : (t : ℕ) → t < i + 1 → (t ≡ i) ⊎ (t ≡ i → ⊥) → In t (c ++ flat_map (λ d. d) cs)
        go t h (inl q) = in_left t c (flat_map (λ d. d) cs) (subst (λ u. In u c) (sym q) own_slot)
        go t h (inr ne) = in_right t c (flat_map (λ d. d) cs) (p.covered t (omega arith))

pub parted_all : (L : Locus) {gathered : List ℕ} {i : ℕ} {cs : List (List ℕ)} → L.slots ≤ i → Parted L.slots (links L.readings) gathered i cs → Components L cs
parted_all L h p = record {
  each = p.each;
  once = p.once;
  all = λ s l. p.covered s (omega arith);
}

-- the product of the components' sums, one more
pub product_more : {V : Type 0} (o : Ops V) → Laws o → (f : List ℕ → V) (cs : List (List ℕ)) (c : List ℕ) (total sum next : V) → total ≡ fold o.one o.product cs f → sum ≡ f c → next ≡ o.product total sum → next ≡ fold o.one o.product (c ∷ cs) f
product_more o l f cs c total sum next p q r =
    r ∙ ap₂ o.product p q ∙ l.products.comm (fold o.one o.product cs f) (f c)

module _ (h : Held) (class : ℕ → Class) (fits : ℕ → ℕ → ℕ → Bool) (k : ℕ) where
  is_several_true : (c : Class) → is_several c ≡ true → c ≡ Several
  is_several_true Silent e = absurd (false≢true e)
  is_several_true (Named a b) e = absurd (false≢true e)
  is_several_true Several e = refl

  some_at : {X : Type 0} (f : X → Bool) (xs : List X) → some_passes f xs ≡ true → (x : X) × In x xs × (f x ≡ true)
  some_at f [] e = absurd (false≢true e)
  some_at f (x ∷ xs) e = go (λ q. some_at f xs q) (or_cases (f x) (some_passes f xs) e)
    where
      go : (some_passes f xs ≡ true → (y : _) × In y xs × (f y ≡ true)) → (f x ≡ true) ⊎ (some_passes f xs ≡ true) → (y : _) × In y (x ∷ xs) × (f y ≡ true)
      go ih (inl q) = (x, inl refl, q)
      go ih (inr q) = let r = ih q in (r.0, inr r.1, r.2)

  -- a component that is too wide makes the locus wide
  pub wide_some : (s : ℕ) (c : List ℕ) → s < h.slots → Component h.slots (links (readings_of (told h) class fits)) s c → too_wide h class k c ≡ true → Wide (seen h k class fits)
  wide_some s c l comp e =
      let t = and_parts (several_in h class c) (ltb 65536 (k ^ length c)) e in
      let r = some_at (λ p. is_several (class p) && has c (pair_of h p).0) (range_with_len 0 h.persons) t.0 in
      let b = counting_in 0 h.persons r.0 r.1 in
      let small : r.0 < h.persons = omega arith in
      let u = and_parts (is_several (class r.0)) (has c (pair_of h r.0).0) r.2 in
      record {
        slot = s;
        within = l;
        slots = c;
        component = comp;
        reading = reading_of (told h) class fits r.0;
        read = in_reading h class fits r.0 small;
        several = is_several_true (class r.0) u.0;
        inside = subst (λ (x : ℕ × ℕ). Chain (links (readings_of (told h) class fits)) s x.0) (sym (told_at h class fits r.0 small)) ((comp.exactly (pair_of h r.0).0).0 (has_in c (pair_of h r.0).0 u.1)).1;
        many = ltb-true 65536 (k ^ length c) t.1;
      }

  -- where no component is, the locus is not
  pub wide_none : (cs : List (List ℕ)) → Components (seen h k class fits) cs → ((c : List ℕ) → In c cs → too_wide h class k c ≡ false) → Wide (seen h k class fits) → ⊥
  wide_none cs comps narrow w =
      let q = joined_in (λ c. c) w.slot cs (comps.all w.slot w.within) in
      let e = comps.each q.0 q.1 in
      let c = q.0 in
      let across : Chain (links (readings_of (told h) class fits)) e.0 w.slot = ((e.2.exactly w.slot).0 q.2).1 in
      let r = reading_in h class fits w.reading w.read in
      let pair = ap (λ x. x.ends) r.2 ∙ told_at h class fits r.0 r.1 in
      let there : In (pair_of h r.0).0 c = (e.2.exactly (pair_of h r.0).0).1 ((h.within.3 r.0 r.1).0, join across (subst (λ (x : ℕ × ℕ). Chain (links (readings_of (told h) class fits)) w.slot x.0) pair w.inside)) in
      let several : several_in h class c ≡ true = some_from (λ p. is_several (class p) && has c (pair_of h p).0) r.0 (range_with_len 0 h.persons) (in_counting 0 h.persons r.0 (omega arith) (omega (arith, r.1))) (and_from (is_several (class r.0)) (has c (pair_of h r.0).0) (ap is_several (sym (ap (λ x. x.class) r.2) ∙ w.several)) (in_has c (pair_of h r.0).0 there)) in
      let sizes : length w.slots ≡ length c = omega (arith, longer w.slots c w.component.once (λ t i. (e.2.exactly t).1 (((w.component.exactly t).0 i).0, join across ((w.component.exactly t).0 i).1)), longer c w.slots e.2.once (λ t i. (w.component.exactly t).1 (((e.2.exactly t).0 i).0, join (back across) ((e.2.exactly t).0 i).1))) in
      let many : 65536 < k ^ length c = subst (λ m. 65536 < k ^ m) sizes w.many in
      both_ways (too_wide h class k c) (narrow c q.1) (and_from (several_in h class c) (ltb 65536 (k ^ length c)) several (lt-ltb 65536 (k ^ length c) many))
    where
      longer : (xs ys : List ℕ) → Once xs → ((t : ℕ) → In t xs → In t ys) → length xs ≤ length ys
      longer xs ys o sub = no_more (λ x y. x ≡ y) xs ys (λ x z y i j p q. p ∙ sym q) o (λ x i. (x, sub x i, refl))

-- one component more that is not too wide
pub narrow_more : (test : List ℕ → Bool) (d : List ℕ) (ds : List (List ℕ)) → test d ≡ false → ((c : List ℕ) → In c ds → test c ≡ false) → (c : List ℕ) → In c (d ∷ ds) → test c ≡ false
narrow_more test d ds e h c (inl q) = ap test q ∙ e
narrow_more test d ds e h c (inr i) = h c i

-- nothing is set at the start
pub nothing_set : (h : Held) (fits : ℕ → ℕ → ℕ → Bool) (slots : List ℕ) → Once slots → Searching h fits [] slots (replicate 64 None)
nothing_set h fits slots once = record {
  once = once;
  set = λ t i. elim i [ ];
  only = λ t e. absurd (both_ways (is_set (replicate 64 None) t) (ap is_some (blank 64 t nothing)) e);
  fitting = λ p l. ap₂ (agrees (fits p)) (blank 64 (pair_of h p).0 nothing) (blank 64 (pair_of h p).1 nothing);
}
  where
    nothing : Option ℕ
    nothing = None
