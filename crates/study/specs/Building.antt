-- What a panel builder and a closed panel hold, and what each call on a builder answers. Assumes nothing.
use Rattle.std.specs.Prelude.{◌≡◌, ℕ, ◌<◌, cond, ◌&&◌, List, [], map, length, take, Some, None, Ok, Err, Option, Result, ◌==◌, nat_le, nat_lt, slice_index_or}
use Rattle.study.specs.declared.loci.Locus.{Locus}
use Rattle.study.specs.declared.panels.Panel.{Panel}
use Rattle.study.specs.declared.panels.PanelBuilder.{PanelBuilder}
use Rattle.study.specs.declared.faults.ReadingsFault.{ReadingsFault}
use Rattle.study.specs.declared.faults.ReadingsFault.TheVariants.{NoLocus, NinthLocus, Alleles, CostCount, Cost}
use Rattle.study.specs.Panels.{costs_low, codominant_count}

-- the costs of a locus, from its memory
abbrev pub listed : Locus → List ℕ
listed L = take L.alleles L.costs

-- the loci entered so far, each the list of its costs
abbrev pub loci_so_far : PanelBuilder → List (List ℕ)
loci_so_far b = map listed (take b.count b.loci)

-- how many loci stood when dominant ones first began, if they did
abbrev pub begun_at : PanelBuilder → Option ℕ
begun_at b = b.begun

-- how many of the loci entered so far are codominant; they are the first
abbrev pub codominants_so_far : PanelBuilder → ℕ
codominants_so_far b = codominant_count (begun_at b) (length (loci_so_far b))

-- the loci of a closed panel, each the list of its costs
abbrev pub loci_of : Panel → List (List ℕ)
loci_of p = loci_so_far p.entered

-- how many loci of a closed panel are codominant
abbrev pub codominants_of : Panel → ℕ
codominants_of p = codominants_so_far p.entered

-- entering a locus of k alleles: refused as a ninth, then for k outside 1 to 16, for costs other than k in number, for a cost above 65,535,
-- else answered by its number
abbrev pub locus_answer : List (List ℕ) → ℕ → List ℕ → Result ℕ ReadingsFault
locus_answer loci k costs =
    cond (nat_lt (length loci) 8) (cond (nat_le 1 k && nat_le k 16) (cond (length costs == k) (cond (costs_low costs) (Ok (length loci)) (Err (Cost (length loci)))) (Err (CostCount (length loci)))) (Err (Alleles (length loci)))) (Err (NinthLocus (length loci)))

-- closing: a panel with exactly the loci entered, n of them codominant, where there is a locus; refused where there is none
abbrev pub Closed : List (List ℕ) → ℕ → Result Panel ReadingsFault → Type 0
Closed loci n (Ok p) = (0 < length loci) × (loci_of p ≡ loci) × (codominants_of p ≡ n)
Closed loci n (Err e) = (loci ≡ []) × (e ≡ NoLocus)

-- how many alleles a locus has, where the panel has it
abbrev pub alleles_answer : List (List ℕ) → ℕ → Option ℕ
alleles_answer loci l = cond (nat_lt l (length loci)) (Some (length (slice_index_or loci l []))) None
