use Rattle.std.proofs.Common.{◌≡◌, ◌++◌, drop, map}
use Rattle.rvf_core.specs.Lists.{name_line}
use Rattle.rvf_core.proofs.listing.names.Given as goal

-- the lines so far, and those of the checks that are left
abbrev pub invariant-loop-check : goal.invariant-loop-check
invariant-loop-check l = l.lines ++ map name_line (drop l.check-index l.checks) ≡ map name_line l.checks
