use Rattle.std.proofs.Common.{◌≡◌}
use Rattle.sat_propagate.specs.Propagation.{Taken, Holds}
use Rattle.sat_propagate.proofs.propagation.Propagation.look_at_short.Given as goal

-- so many of the short clauses are true
abbrev pub invariant-loop-index : goal.invariant-loop-index
invariant-loop-index l =
    let p : Taken = record {
      watches = l.self-inside.watches;
      many = l.self-inside.many;
      short = l.self-inside.short.items;
      looked = l.self-inside.looked;
    } in
    Holds l.clauses l.trail p × (p.watches ≡ l.fn.self.watches) × (p.many ≡ l.fn.self.many)
    × (p.short ≡ l.fn.self.short) × (p.looked ≡ l.index)
