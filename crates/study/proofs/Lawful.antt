-- A panel in its memory is lawful: each of its loci is. Assumes nothing.
use Rattle.std.proofs.Common.{◌≡◌, length, take, get_or, length-take-le, arith}
use Rattle.std.proofs.lemmas.List.{length-map}
use Rattle.std.proofs.lemmas.List.Elements.{All-map}
use Rattle.study.specs.declared.loci.Locus.{Locus}
use Rattle.study.specs.declared.panels.PanelBuilder.{PanelBuilder}
use Rattle.study.specs.Panels.{LawfulLocus, LawfulPanel}
use Rattle.study.specs.Building.{listed, loci_so_far, codominants_so_far}

lawful_locus : (L : Locus) → LawfulLocus (listed L)
lawful_locus L =
    let long = length-take-le L.alleles L.costs (omega arith) in
    (omega arith, omega arith, L.low)

pub lawful : (b : PanelBuilder) → LawfulPanel (loci_so_far b) (codominants_so_far b)
lawful b =
    let loci = take b.count b.loci in
    let many : length (loci_so_far b) ≡ b.count = omega (arith, length-map loci listed, length-take-le b.count b.loci (omega arith)) in
    (omega arith, rw many b.first, All-map LawfulLocus listed loci (λ l d h. lawful_locus (get_or loci l d)))
