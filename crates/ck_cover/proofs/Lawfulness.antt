-- The targets of lawful checks are lawful.
use Rattle.std.proofs.Common.{ℕ, ◌<◌, ◌≤◌, Bool, true, false, List, [], ◌∷◌, Option, Some, None, refl, cond}
use Rattle.std.proofs.Common.{arith}
use Rattle.std.specs.Prelude.{option_map, option_to_list}
use Rattle.std.specs.List.{AllByRecursion, flat_map}
use Rattle.rv_table.specs.declared.row.RowId.{RowId}
use Rattle.ck_cfg.specs.declared.kind.CheckKind.{CheckKind}
use Rattle.ck_cfg.specs.declared.check.Check.{Check}
use Rattle.ck_cfg.specs.Kind.{kinds, is_kind}
use Rattle.ck_cfg.specs.Lawful.{IsCheck}
use Rattle.ck_cfg.proofs.Lawfulness.{all_append}
use Rattle.ck_cover.specs.Targets.{greater, cycle_for, greatest, any_target, any_of, any_targets}
use Rattle.ck_cover.specs.Targets.{hit_target, hit_row, hit_of, hit_targets, targets_of}
use Rattle.ck_cover.specs.Laws.{IsTarget}

-- a cycle that is there is at most 100, and there is a channel
abbrev IsWithin : ℕ → Option ℕ → Type 0
IsWithin channels None = Unit {0}
IsWithin channels (Some n) = (0 < channels) × (n ≤ 100)

within_greater : (channels : ℕ) (m o : Option ℕ) → IsWithin channels m → IsWithin channels o
    → IsWithin channels (greater m o)
within_greater channels m None h k = h
within_greater channels None (Some n) h k = k
within_greater channels (Some m) (Some n) h k = (h.0, omega (arith, h.1, k.1))

within_cycle : (channels n : ℕ) (b : Bool) → 0 < channels → n ≤ 100 → IsWithin channels (cond b (Some n) None)
within_cycle channels n true some most = (some, most)
within_cycle channels n false some most = tt

within_greatest : (channels : ℕ) (kind : CheckKind) (cs : List Check) → AllByRecursion (IsCheck channels) cs
    → IsWithin channels (greatest kind cs)
within_greatest channels kind [] all = tt
within_greatest channels kind (c ∷ cs) all =
    within_greater channels (cycle_for kind c) (greatest kind cs)
    (within_cycle channels c.cycle (is_kind c.kind kind) (omega (arith, all.0.channel)) all.0.lawful.most)
    (within_greatest channels kind cs all.1)

any_lawful : (channels : ℕ) (kind : CheckKind) (o : Option ℕ) → IsWithin channels o
    → AllByRecursion (IsTarget channels) (option_to_list (option_map (any_target kind) o))
any_lawful channels kind None h = tt
any_lawful channels kind (Some n) h = (record { kind = tt; channel = h.0; most = h.1 }, tt)

any_all : (channels : ℕ) (checks : List Check) (ks : List CheckKind) → AllByRecursion (IsCheck channels) checks
    → AllByRecursion (IsTarget channels) (flat_map (any_of checks) ks)
any_all channels checks [] all = tt
any_all channels checks (k ∷ ks) all =
    all_append (IsTarget channels) (any_of checks k) (flat_map (any_of checks) ks)
    (any_lawful channels k (greatest k checks) (within_greatest channels k checks all))
    (any_all channels checks ks all)

hit_lawful : (channels : ℕ) (c : Check) (o : Option RowId) → IsCheck channels c
    → AllByRecursion (IsTarget channels) (option_to_list (option_map (hit_target c) o))
hit_lawful channels c None h = tt
hit_lawful channels c (Some row) h = (record { kind = refl; channel = h.channel; most = h.lawful.most }, tt)

hit_all : (channels : ℕ) (cs : List Check) → AllByRecursion (IsCheck channels) cs
    → AllByRecursion (IsTarget channels) (hit_targets cs)
hit_all channels [] all = tt
hit_all channels (c ∷ cs) all =
    all_append (IsTarget channels) (hit_of c) (hit_targets cs) (hit_lawful channels c (hit_row c) all.0)
    (hit_all channels cs all.1)

pub lawful : (channels : ℕ) (checks : List Check) → AllByRecursion (IsCheck channels) checks
    → AllByRecursion (IsTarget channels) (targets_of checks)
lawful channels checks all =
    all_append (IsTarget channels) (any_targets checks) (hit_targets checks)
    (any_all channels checks kinds all) (hit_all channels checks all)
