-- What combinational blocks may assign, of drivers one after the other.
use Rattle.std.specs.Prelude.{◌≡◌, refl, ℕ, List, [], ◌∷◌, ◌++◌, map, false, ◌||◌}
use Rattle.std.proofs.Common.{ap, sym, ◌∙◌}
use Rattle.vl_size.specs.declared.decl.Decl.{Decl}
use Rattle.vl_mean.specs.declared.driver.Driver.{Driver}
use Rattle.vl_mean.specs.declared.driver.Start.{Start}
use Rattle.vl_mean.specs.FlatLaw.{flat_scopes}
use Rattle.vl_mean.specs.FlatParts.{driver_part, parts_of, start_part}
use Rattle.vl_mean.specs.Parts.{Part, declares}
use Rattle.vl_mean.specs.Runs.{is_driven, is_driven_by}
use Rattle.vl_flow_order.proofs.Tests.{or_assoc, or_none}

-- the parts of drivers
abbrev pub driver_parts : List Decl → List Driver → List Part
driver_parts ds xs = map (λ x. driver_part (flat_scopes ds) x.what) xs

driven_append : (ps qs : List Part) (n : List ℕ) (k : ℕ)
    → is_driven (ps ++ qs) n k ≡ (is_driven ps n k || is_driven qs n k)
driven_append [] qs n k = refl
driven_append (p ∷ ps) qs n k =
    ap (λ b. is_driven_by p n k || b) (driven_append ps qs n k)
    ∙ sym (or_assoc (is_driven_by p n k) (is_driven ps n k) (is_driven qs n k))

by_decls : (ds : List Decl) (n : List ℕ) (k : ℕ) → is_driven (map (λ d. declares d) ds) n k ≡ false
by_decls [] n k = refl
by_decls (d ∷ ds) n k = by_decls ds n k

module _ (ds : List Decl) where
  by_starts : (xs : List Start) (n : List ℕ) (k : ℕ)
      → is_driven (map (start_part (flat_scopes ds)) xs) n k ≡ false
  by_starts [] n k = refl
  by_starts (x ∷ xs) n k = by_starts xs n k

  -- drivers alone drive
  pub by_drivers : (drivers : List Driver) (xs : List Start) (n : List ℕ) (k : ℕ)
      → is_driven (parts_of ds drivers xs) n k ≡ is_driven (driver_parts ds drivers) n k
  by_drivers drivers xs n k =
      let decls = map (λ d. declares d) ds in
      let starts = map (start_part (flat_scopes ds)) xs in
      let blocks = driver_parts ds drivers in
      driven_append (decls ++ blocks) starts n k
      ∙ (λ i. driven_append decls blocks n k i || by_starts xs n k i)
      ∙ (λ i. (by_decls ds n k i || is_driven blocks n k) || false) ∙ or_none (is_driven blocks n k)

  pub one_driver_more : (xs : List Driver) (x : Driver) (n : List ℕ) (k : ℕ)
      → is_driven (driver_parts ds (xs ++ x ∷ [])) n k
      ≡ (is_driven (driver_parts ds xs) n k || is_driven_by (driver_part (flat_scopes ds) x.what) n k)
  one_driver_more [] x n k = or_none (is_driven_by (driver_part (flat_scopes ds) x.what) n k)
  one_driver_more (y ∷ ys) x n k =
      let first = is_driven_by (driver_part (flat_scopes ds) y.what) n k in
      ap (λ b. first || b) (one_driver_more ys x n k)
      ∙ sym (or_assoc first (is_driven (driver_parts ds ys) n k)
      (is_driven_by (driver_part (flat_scopes ds) x.what) n k))
