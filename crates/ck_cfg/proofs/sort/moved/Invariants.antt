use Rattle.std.proofs.Common.{◌≡◌, ◌++◌, drop}
use Rattle.ck_cfg.specs.Checks.{moved}
use Rattle.ck_cfg.proofs.sort.moved.Given as goal

abbrev pub invariant-loop-name : goal.invariant-loop-name
invariant-loop-name l =
    l.front.items ++ moved (drop l.name-index l.names) l.rest.items ≡ moved l.names l.initial.rest.items
