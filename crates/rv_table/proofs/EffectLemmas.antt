-- Bounds of masks and bytes.
use Rattle.std.proofs.Common.{◌≡◌, ℕ, ◌+◌, ◌-◌, ◌*◌, ◌/◌, ◌%◌, ◌^◌, ◌<◌, ◌≤◌, arith}
use Rattle.std.proofs.lemmas.Nat.{pow_pos, mod_below, one_shl, shl_whole, pow_below}

pub ruleset bytes = (pow_pos, mod_below, one_shl, shl_whole, pow_below)
