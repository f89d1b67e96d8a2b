use Rattle.std.proofs.Common.{◌≡◌, ◌≤◌, min, drop}
use Rattle.std.specs.Prelude.{option_map}
use Rattle.aiger_text.specs.declared.number.TheConstants.{MOST}
use Rattle.fv_lines.specs.Numbers.{continued}
use Rattle.aiger_text.proofs.number.natural.Given as goal

abbrev pub invariant-loop-digit : goal.invariant-loop-digit
invariant-loop-digit l = (l.value ≤ MOST)
    × (option_map (min MOST) (continued l.value (drop l.digit-index l.digits))
    ≡ option_map (min MOST) (continued 0 l.digits))
