use Rattle.std.proofs.Common.{◌≡◌, ◌++◌, drop, map}
use Rattle.rvf_report.specs.Printed.{place_text}
use Rattle.rvf_report.proofs.says.place_texts.Given as goal

abbrev pub invariant-loop-place : goal.invariant-loop-place
invariant-loop-place l =
    l.values ++ map (place_text l.names) (drop l.place-index l.places) ≡ map (place_text l.names) l.places
