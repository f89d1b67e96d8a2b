-- The greatest cycle, check by check.
use Rattle.std.proofs.Common.{◌≡◌, ℕ, Bool, true, false, List, [], ◌∷◌, Option, Some, None, refl, ap, arith}
use Rattle.std.proofs.Common.{cond, max}
use Rattle.std.specs.List.{AllByRecursion}
use Rattle.ck_cfg.specs.declared.kind.CheckKind.{CheckKind}
use Rattle.ck_cfg.specs.declared.check.Check.{Check}
use Rattle.ck_cfg.specs.Kind.{is_kind}
use Rattle.ck_cover.specs.Targets.{greater, cycle_for, greatest}
use Rattle.ck_cover.specs.Laws.{IsAtMost}

max_assoc : (a b c : ℕ) → max (max a b) c ≡ max a (max b c)
max_assoc a b c = omega arith

-- it doesn't matter which two are compared first
pub greater_assoc : (a b c : Option ℕ) → greater (greater a b) c ≡ greater a (greater b c)
greater_assoc a b None = refl
greater_assoc a None (Some n) = refl
greater_assoc None (Some m) (Some n) = refl
greater_assoc (Some l) (Some m) (Some n) = ap Some (max_assoc l m n)

-- one check more
pub greatest_on : (kind : CheckKind) (best : Option ℕ) (c : Check) (cs : List Check)
    → greater (greater best (cycle_for kind c)) (greatest kind cs) ≡ greater best (greatest kind (c ∷ cs))
greatest_on kind best c cs = greater_assoc best (cycle_for kind c) (greatest kind cs)

-- ---- no check has a greater one

most_left : (a : ℕ) (o : Option ℕ) → IsAtMost a (greater (Some a) o)
most_left a None = omega arith
most_left a (Some n) = omega arith

most_right : (a : ℕ) (m o : Option ℕ) → IsAtMost a o → IsAtMost a (greater m o)
most_right a None None h = absurd h
most_right a (Some m) None h = absurd h
most_right a None (Some n) h = h
most_right a (Some m) (Some n) h = omega (arith, h)

of_kind : (n : ℕ) (b : Bool) (o : Option ℕ) → b ≡ true → IsAtMost n (greater (cond b (Some n) None) o)
of_kind n true o e = most_left n o
of_kind n false o e = absurd (let f : ⊥ = cc in f)

all_more : (kind : CheckKind) (m o : Option ℕ) (cs : List Check)
    → AllByRecursion (λ c. is_kind c.kind kind ≡ true → IsAtMost c.cycle o) cs
    → AllByRecursion (λ c. is_kind c.kind kind ≡ true → IsAtMost c.cycle (greater m o)) cs
all_more kind m o [] all = tt
all_more kind m o (c ∷ cs) all = (λ is. most_right c.cycle m o (all.0 is), all_more kind m o cs all.1)

pub each_has_its_target : (kind : CheckKind) (checks : List Check)
    → AllByRecursion (λ c. is_kind c.kind kind ≡ true → IsAtMost c.cycle (greatest kind checks)) checks
each_has_its_target kind [] = tt
each_has_its_target kind (c ∷ cs) = (
  λ is. of_kind c.cycle (is_kind c.kind kind) (greatest kind cs) is,
  all_more kind (cycle_for kind c) (greatest kind cs) cs (each_has_its_target kind cs),
)
