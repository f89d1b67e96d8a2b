use Rattle.sat_search.proofs.Turns.{stays}
use Rattle.sat_search.proofs.search.Search.tidy.Goals as goal

pub forget-requires : goal.forget-requires
forget-requires c = c.requires

pub returns-then-is_due : goal.returns-then-is_due
returns-then-is_due c = c.forget.ensures

pub returns : goal.returns
returns c = stays c.args.self.now
