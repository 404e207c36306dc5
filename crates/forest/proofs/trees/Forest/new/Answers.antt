use Rattle.std.proofs.Common.{arith, rules}
use Rattle.forest.proofs.Growing.{memory_start}
use Rattle.forest.proofs.Hung.{parents_first}
use Rattle.forest.proofs.trees.Forest.new.Goals as goal

pub invariant_of-result : goal.invariant_of-result
invariant_of-result c =
    let made = c.from_fn.ensures.items in
    memory_start c.from_fn.result (parents_first c.from_fn.result 64 made.long (omega arith) (λ k h. let r = made.at k 0 h in search rules))
