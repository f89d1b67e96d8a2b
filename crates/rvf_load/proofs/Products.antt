-- One factor more.
use Rattle.std.specs.Prelude.{◌≡◌, ℕ, ◌+◌, ◌*◌, ◌-◌, ◌^◌, ◌<◌, ◌≤◌, min, nat_lt, List, ◌∷◌, length, Bool, false}
use Rattle.std.specs.Prelude.{Option, Some, if◌then◌else◌}
use Rattle.std.proofs.Common.{ap, sym, ◌∙◌, arith, drop, get_or}
use Rattle.std.proofs.lemmas.List.{at_drop_more}
use Rattle.std.proofs.lemmas.Bool.Decides.{nat_tests}
use Rattle.rvf_load.specs.Loads.{too_heavy}

within : (x p : ℕ) → p ≡ min x (2 ^ 64 - 1) → p ≤ 20000000 → nat_lt 20000000 x ≡ false
within x p e h = grind (arith, nat_tests)

module _ (weight i : ℕ) (fs : List ℕ) (f p : ℕ) (below : i < length fs) (here : f ≡ get_or fs i 0)
    (is : p ≡ min (weight * f) (2 ^ 64 - 1)) where
  abbrev by : Bool → Option (ℕ × ℕ)
  by b = if b then Some (i, min (weight * f) (2 ^ 64 - 1)) else too_heavy weight (i + 1) (drop (i + 1) fs)

  split : too_heavy weight i (drop i fs) ≡ by (nat_lt 20000000 (weight * f))
  split =
      at_drop_more (too_heavy weight i) fs i 0 below
      ∙ ap (λ x. too_heavy weight i (x ∷ drop (i + 1) fs)) (sym here)

  pub light_enough : p ≤ 20000000 → too_heavy weight (i + 1) (drop (i + 1) fs) ≡ too_heavy weight i (drop i fs)
  light_enough h = sym (split ∙ ap by (within (weight * f) p is h))
