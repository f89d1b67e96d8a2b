-- Meaning: What a check reads of a list of retirements, which has them cycle by cycle and in each cycle by channel
-- (documentation of riscv-formal, in this project's profile).
use Rattle.std.specs.Prelude.{◌≡◌, ℕ, ◌+◌, Bool, true, false, not, ◌&&◌, ◌||◌, ◌==◌, nat_lt, nat_le, if◌then◌else◌}
use Rattle.std.specs.Prelude.{List, Option, Some, None, find, reverse}
use Rattle.std.specs.List.{list_any, filter, AllByRecursion}
use Rattle.rv_table.specs.declared.retire.Retire.{Retire}
use Rattle.ck_cfg.specs.declared.check.Check.{Check}
use Rattle.ck_cfg.specs.declared.kind.CheckKind.{CheckKind}
use Rattle.ck_cfg.specs.declared.kind.CheckKind.TheVariants as kind
use Rattle.ck_spec.specs.declared.retired.Retired.{Retired}

-- it retired in the cycle, in the channel of the check
abbrev pub is_at : Check → ℕ → Retired → Bool
is_at check cycle r = r.cycle == cycle && r.channel == check.channel

abbrev pub found_at : Check → ℕ → List Retired → Option Retired
found_at check cycle rs = find (λ r. is_at check cycle r) rs

-- it retired in a cycle that the check looks at
abbrev pub counts : Check → Retired → Bool
counts check r = nat_le check.start r.cycle && nat_le r.cycle check.cycle

-- and before the retirement that the check is about: in an earlier cycle, or in a channel below in the same one
abbrev pub stands_before : Check → Retired → Bool
stands_before check r =
    counts check r && (nat_lt r.cycle check.cycle || (r.cycle == check.cycle && nat_lt r.channel check.channel))

-- and isn't the retirement that the check is about, which has no other of its cycle and channel
abbrev pub is_other : Check → Retired → Bool
is_other check r = counts check r && not (is_at check check.cycle r)

-- Two retirements of one cycle may stand in either order of execution. These kinds go by the order that is reported, so
-- that they look at all others; causal and dmem go by the place.
abbrev pub looks_both_ways : CheckKind → Bool
looks_both_ways kind.Reg = true
looks_both_ways kind.PcFwd = true
looks_both_ways kind.PcBwd = true
looks_both_ways other = false

-- the retirements that count as earlier
abbrev pub is_earlier : Check → Retired → Bool
is_earlier check r = if looks_both_ways check.kind then is_other check r else stands_before check r

-- where nothing retires in another channel than that of the check, the earlier ones are those that stand before it
abbrev pub OneChannelLooksBack : Type 0
OneChannelLooksBack =
    (check : Check) (rs : List Retired) → AllByRecursion (λ r. r.channel ≡ check.channel) rs
    → filter (is_earlier check) rs ≡ filter (stands_before check) rs

-- the last of those that are such
abbrev pub last_earlier : Check → (Retire → Bool) → List Retired → Option Retired
last_earlier check such rs = find (λ r. is_earlier check r && such r.retire) (reverse rs)

-- some of those is such
abbrev pub any_earlier : Check → (Retire → Bool) → List Retired → Bool
any_earlier check such rs = list_any (λ r. is_earlier check r && such r.retire) rs

-- one of the order behind this one is among those that count
abbrev pub has_next : Check → ℕ → List Retired → Bool
has_next check order rs = list_any (λ e. counts check e && e.retire.order == order + 1) rs

-- of the retirement, where there is one
abbrev pub where_found : Option Retired → (Retire → Bool) → Bool
where_found None such = true
where_found (Some r) such = such r.retire
