-- Bounds of powers, shifts and fields.
use Rattle.std.proofs.Common.{◌≡◌, ℕ, ◌+◌, ◌-◌, ◌*◌, ◌/◌, ◌%◌, ◌^◌, ◌<◌, ◌≤◌, arith, ap, ◌∙◌, sym}
use Rattle.std.proofs.lemmas.Nat.{pow_pos, mod_below, one_shl, shl_whole, pow_below, pow-add, row_fits}

pub ruleset words = (pow_pos, mod_below, one_shl, shl_whole, pow_below)

-- a field moved within a word keeps its bits
pub moved_value : (r v j to : ℕ) → r < 2 ^ j → j + to ≤ 32 → r ≡ v → r * 2 ^ to % 2 ^ 32 ≡ v * 2 ^ to
moved_value r v j to small room e = shl_whole r j to 32 small room ∙ ap (λ n. n * 2 ^ to) e

pub moved_small : (r j to : ℕ) → r < 2 ^ j → r * 2 ^ to + 2 ^ to ≤ 2 ^ (j + to)
moved_small r j to small = rw (pow-add 2 j to) (row_fits r (2 ^ to) (2 ^ j) (2 ^ to) small (omega arith))
