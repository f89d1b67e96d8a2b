-- With one channel what counts as earlier is what stands before.
use Rattle.std.proofs.Common.{◌≡◌, ℕ, Bool, true, false, not, cond, ◌&&◌, ◌||◌, ◌==◌, List, [], ◌∷◌, refl, ap, ◌∙◌, arith}
use Rattle.std.specs.Prelude.{nat_le, nat_lt, if◌then◌else◌}
use Rattle.std.specs.List.{filter, AllByRecursion}
use Rattle.std.proofs.lemmas.Bool.Decides.{nat_tests}
use Rattle.ck_cfg.specs.declared.check.Check.{Check}
use Rattle.ck_spec.specs.declared.retired.Retired.{Retired}
use Rattle.ck_spec.specs.Lists.{looks_both_ways, is_other, stands_before, is_earlier}

-- one of the same channel: its cycle tells
same_channel : (a k b i c : ℕ) → i ≡ c
    → ((nat_le a k && nat_le k b) && not ((k == b) && (i == c)))
    ≡ ((nat_le a k && nat_le k b) && (nat_lt k b || ((k == b) && nat_lt i c)))
same_channel a k b i c e = grind (arith, nat_tests)

one_is : (check : Check) (r : Retired) → r.channel ≡ check.channel → is_earlier check r ≡ stands_before check r
one_is check r e = step (looks_both_ways check.kind) where
  step : (b : Bool) → (if b then is_other check r else stands_before check r) ≡ stands_before check r
  step true = same_channel check.start r.cycle check.cycle r.channel check.channel e
  step false = refl

pub one_channel : (check : Check) (rs : List Retired) → AllByRecursion (λ r. r.channel ≡ check.channel) rs
    → filter (is_earlier check) rs ≡ filter (stands_before check) rs
one_channel check [] a = refl
one_channel check (r ∷ rs) a =
    ap (λ b. cond b (r ∷ filter (is_earlier check) rs) (filter (is_earlier check) rs)) (one_is check r a.0)
    ∙ ap (λ xs. cond (stands_before check r) (r ∷ xs) xs) (one_channel check rs a.1)
