-- Between functions: What a check asks of the retirement at its trigger and all others that it looks at, over the
-- entries that were kept of them (rule of this project).
use Rattle.std.specs.Prelude.{ℕ, ◌+◌, ◌-◌, ◌*◌, ◌^◌, ◌==◌, Bool, true, not, ◌&&◌, ◌||◌, List, ◌++◌, take, drop}
use Rattle.std.specs.Prelude.{if◌then◌else◌}
use Rattle.ck_cfg.specs.declared.check.Check.{Check}
use Rattle.ck_cfg.specs.declared.kind.CheckKind.{CheckKind}
use Rattle.ck_cfg.specs.declared.kind.CheckKind.TheVariants as kinds
use Rattle.ck_spec.specs.Lists.{looks_both_ways}
use Rattle.ck_history.specs.Entries.{Entry}
use Rattle.ck_history.specs.Searches.{first_agrees}
use Rattle.ck_gen.specs.Kept.{sought_same, sought_next}

-- none of those behind it and before it has its order
abbrev pub order_is_own : Entry → List Entry → List Entry → Bool
order_is_own own front back = first_agrees sought_same own front && first_agrees sought_same own back

-- it halts (the small number is 1), or has the last order, or one of all has the order behind it
abbrev pub is_followed_so : Entry → List Entry → Bool
is_followed_so own es =
    (not (own.small == 0) || (own.key == 2 ^ 64 - 1)) || not (first_agrees sought_next own es)

-- a check of this kind is about the retirement at its trigger and all others
abbrev pub LooksAround : CheckKind → Type 0
LooksAround kinds.Unique = Unit {0}
LooksAround kinds.Liveness = Unit {0}
LooksAround other = ⊥

-- by kind, where the retirement has this place among all entries
abbrev pub holds_around : CheckKind → ℕ → Entry → List Entry → Bool
holds_around kinds.Unique place own es = order_is_own own (take place es) (drop (place + 1) es)
holds_around kinds.Liveness place own es = is_followed_so own es
holds_around other place own es = true

-- Of a list of what is kept of all retirements, the last one first, where the one that a check is about has this place:
-- what is kept of the earlier ones.
abbrev pub earlier_of : {X : Type 0} → CheckKind → ℕ → List X → List X
earlier_of kind place xs =
    if looks_both_ways kind then take place xs ++ drop (place + 1) xs else drop (place + 1) xs

-- that place: the entries of later cycles come first, and in each cycle those of higher channels
abbrev pub place_of : Check → ℕ → ℕ
place_of check channels = (check.cycle - check.trig) * channels + (channels - 1 - check.channel)
