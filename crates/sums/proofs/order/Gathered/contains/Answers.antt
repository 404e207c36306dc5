use Rattle.std.proofs.Common.{◌≡◌, false, slice_index_or, ◌∙◌, rules}
use Rattle.sums.proofs.order.Gathered.contains.Goals as goal

pub returns : goal.returns
returns c =
    let looked : c.unwrap_or.result ≡ slice_index_or c.args.self.now.marks c.args.slot false = search rules in
    looked ∙ c.args.self.now.marked c.args.slot
