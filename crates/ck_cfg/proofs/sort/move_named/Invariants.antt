use Rattle.std.proofs.Common.{◌≡◌, ◌++◌, not, length}
use Rattle.std.specs.List.{filter}
use Rattle.ck_cfg.specs.Checks.{is_named}
use Rattle.ck_cfg.proofs.sort.move_named.Given as goal

abbrev pub invariant-loop-index : goal.invariant-loop-index
invariant-loop-index l = record {
  moved : l.front.items ++ filter (is_named l.name) l.rest.items ≡ l.initial.front.items
      ++ filter (is_named l.name) l.initial.rest.items;
  left : filter (λ c. not (is_named l.name c)) l.rest.items
      ≡ filter (λ c. not (is_named l.name c)) l.initial.rest.items;
}

abbrev pub decreases-loop-index : goal.decreases-loop-index
decreases-loop-index l = length l.rest.items
