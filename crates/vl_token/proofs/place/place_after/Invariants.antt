use Rattle.std.proofs.Common.{◌≡◌, drop}
use Rattle.vl_token.specs.Place.{place_after}
use Rattle.vl_token.proofs.place.place_after.Given as goal

abbrev pub invariant-loop-byte : goal.invariant-loop-byte
invariant-loop-byte l = place_after l.pos (drop l.byte-index l.bytes) ≡ place_after l.fn.start l.bytes
