-- Lemmas on the byte of a person at a locus: within the table, past its end, and past the last locus or person.
use Rattle.std.specs.Prelude.{◌≡◌, ℕ, ◌+◌, ◌*◌, ◌<◌, ◌≤◌, List, length, slice_index, slice_index_or}
use Rattle.std.proofs.Common.{arith, sym, ◌∙◌}
use Rattle.std.proofs.lemmas.Bool.Decides.{nat_tests}
use Rattle.std.proofs.lemmas.List.{get_or_default, get_or_past}
use Rattle.readings.specs.Tables.{byte_at}

module _ (table : List ℕ) (locus person : ℕ) where
  pub byte_near : locus < 8 → person < 64 → byte_at table locus person ≡ slice_index_or table (64 * locus + person) 255
  byte_near l p = grind (arith, nat_tests)

  pub byte_within : locus < 8 → person < 64 → 64 * locus + person < length table → slice_index table (64 * locus + person) ≡ byte_at table locus person
  byte_within l p h = get_or_default table (64 * locus + person) 0 255 h ∙ sym (byte_near l p)

  pub byte_past : locus < 8 → person < 64 → length table ≤ 64 * locus + person → 255 ≡ byte_at table locus person
  byte_past l p h = sym (byte_near l p ∙ get_or_past table (64 * locus + person) 255 h)

  pub byte_far_locus : 8 ≤ locus → byte_at table locus person ≡ 255
  byte_far_locus h = grind (arith, nat_tests)

  pub byte_far_person : 64 ≤ person → byte_at table locus person ≡ 255
  byte_far_person h = grind (arith, nat_tests)
