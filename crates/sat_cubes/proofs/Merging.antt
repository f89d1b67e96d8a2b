-- The values of a cube and of what it leaves make the formula true.
use Rattle.std.proofs.Common.{◌≡◌, ℕ, zero, suc, ◌+◌, ◌-◌, ◌<◌, ◌≤◌, Bool, true, false, not, cond, ◌&&◌, List, [], ◌∷◌}
use Rattle.std.proofs.Common.{◌++◌, ℤ, pos, negsuc, neg_ℤ, map, length, get_or, refl, ap, sym, subst, ◌∙◌, ◌⊎◌, inl, inr}
use Rattle.std.proofs.Common.{length-append, arith}
use Rattle.std.specs.Prelude.{unsigned_abs}
use Rattle.std.proofs.Math.Seq.{get_or-append_seam}
use Rattle.std.proofs.lemmas.List.{get_or_append_left}
use Rattle.std.proofs.lemmas.Bool.{false≢true, cases_lt, cases_Bool, and_from, and_parts}
use Rattle.cnf_form.specs.Cnf.{IsLiteral, AreLiterals, AreClauses, literal_true, clause_true, formula_true, value_of}
use Rattle.lrat_check.specs.Sets.{has, is_false}
use Rattle.sat_trail.specs.Trail.{is_assigned}
use Rattle.sat_trail.proofs.Members.{any_from, any_has}
use Rattle.sat_cubes.specs.Cubes.{IsCube, new_number, renumbered, reduced, restricted, is_satisfied}
use Rattle.sat_cubes.specs.Values.{value_under, merged}
use Rattle.sat_cubes.proofs.Others.{stands_at}
use Rattle.sat_cubes.proofs.Renumbers.{assigned_apart}
use Rattle.sat_cubes.proofs.Mirrors.{from_not, no_pair, map_to, left_open, literal_in}

module _ (q : List ℤ) (values : List Bool) where
  pub length_merged : (vars : ℕ) → length (merged q values vars) ≡ vars
  length_merged zero = refl
  length_merged (suc n) =
      let e = length-append (merged q values n) (value_under q values (n + 1) ∷ []) in
      let h = length_merged n in
      omega (arith, e, h)

  values_at : (vars n : ℕ) → n < vars → get_or (merged q values vars) n false ≡ value_under q values (n + 1)
  values_at zero n h = absurd (omega (arith, h))
  values_at (suc m) n h =
      let long = length_merged m in
      elim (cases_lt n m) [
        | inl k ↦ get_or_append_left (merged q values m) (value_under q values (m + 1) ∷ []) false n
            (omega (arith, long, k)) ∙ values_at m n k
        | inr k ↦
            let e : n ≡ length (merged q values m) = omega (arith, long, k, h) in
            let f : m ≡ n = omega (arith, k, h) in
            ap (λ i. get_or (merged q values m ++ value_under q values (m + 1) ∷ []) i false) e
            ∙ get_or-append_seam (merged q values m) (value_under q values (m + 1)) [] false
            ∙ ap (λ i. value_under q values (i + 1)) f
      ]

module _ (q : List ℤ) (values : List Bool) (vars : ℕ) (cube : IsCube vars q) where
  abbrev v : ℕ → Bool
  v = value_of (merged q values vars)

  value_is : (n : ℕ) → n < vars → v (suc n) ≡ value_under q values (suc n)
  value_is n h =
      let e : suc n - 1 ≡ n = omega arith in
      let f : n + 1 ≡ suc n = omega arith in
      ap (λ i. get_or (merged q values vars) i false) e ∙ values_at q values vars n h ∙ ap (value_under q values) f

  -- a literal of the cube
  cube_true : (y : ℤ) → IsLiteral vars y → has q y ≡ true → literal_true v y ≡ true
  cube_true (pos zero) h t = absurd (omega (arith, h.0))
  cube_true (pos (suc n)) h t =
      value_is n (omega (arith, h.1))
      ∙ ap (λ b. cond b true (cond (is_false q (pos (suc n))) false
      (get_or values (new_number q (suc n) - 1) false))) t
  cube_true (negsuc n) h t =
      let e : n + 1 ≡ suc n = omega arith in
      let none : has q (pos (suc n)) ≡ false =
      from_not (has q (pos (suc n))) (λ f. no_pair vars q cube.0 cube.1 (negsuc n) t f) in
      ap (λ i. not (v i)) e ∙ ap not (value_is n (omega (arith, h.1))
      ∙ ap (λ b. cond b true (cond (is_false q (pos (suc n))) false
      (get_or values (new_number q (suc n) - 1) false))) none
      ∙ ap (λ b. cond b false (get_or values (new_number q (suc n) - 1) false)) t)

  open_value : (n : ℕ) → n < vars → is_assigned q (suc n) ≡ false
      → v (suc n) ≡ value_of values (new_number q (suc n))
  open_value n h o =
      let p = assigned_apart q (pos (suc n)) (omega arith) o in
      value_is n h
      ∙ ap (λ b. cond b true (cond (is_false q (pos (suc n))) false
      (get_or values (new_number q (suc n) - 1) false))) p.0
      ∙ ap (λ b. cond b false (get_or values (new_number q (suc n) - 1) false)) p.1

  neg_value : (w : ℕ → Bool) (m : ℕ) → 0 < m → literal_true w (neg_ℤ (pos m)) ≡ not (w m)
  neg_value w zero s = absurd (omega (arith, s))
  neg_value w (suc m) s = (let e : m + 1 ≡ suc m = omega arith in ap (λ i. not (w i)) e)

  -- a literal that the cube leaves open
  open_true : (y : ℤ) → IsLiteral vars y → is_assigned q (unsigned_abs y) ≡ false
      → literal_true v y ≡ literal_true (value_of values) (renumbered q y)
  open_true (pos zero) h o = absurd (omega (arith, h.0))
  open_true (pos (suc n)) h o = open_value n (omega (arith, h.1)) o
  open_true (negsuc n) h o =
      let e : n + 1 ≡ suc n = omega arith in
      let some = (stands_at (is_assigned q) vars (suc n) (omega arith) o h.1).some in
      ap (λ i. not (v i)) e ∙ ap not (open_value n (omega (arith, h.1)) o)
      ∙ sym (neg_value (value_of values) (new_number q (suc n)) some)

  satisfied_true : (c : List ℤ) → AreLiterals vars c → is_satisfied q c ≡ true → clause_true v c ≡ true
  satisfied_true c a s =
      let w = any_has (has q) c s in
      any_from (literal_true v) c w.0 w.1 (cube_true w.0 (literal_in q vars c w.0 a w.1) w.2)

  left_true : (c : List ℤ) → AreLiterals vars c → is_satisfied q c ≡ false
      → clause_true (value_of values) (map (renumbered q) (reduced q c)) ≡ true → clause_true v c ≡ true
  left_true c a o t =
      let w = any_has (literal_true (value_of values)) (map (renumbered q) (reduced q c)) t in
      let y = map_to (renumbered q) (reduced q c) w.0 w.1 in
      let p = left_open q vars c a o y.0 y.1 in
      any_from (literal_true v) c y.0 p.0
      (open_true y.0 p.1 p.2 ∙ ap (literal_true (value_of values)) (sym y.2) ∙ w.2)

  clause_at : (c : List ℤ) (cs : List (List ℤ)) (b : Bool) → is_satisfied q c ≡ b → AreLiterals vars c
      → formula_true (value_of values)
      (cond b (restricted q cs) (map (renumbered q) (reduced q c) ∷ restricted q cs)) ≡ true
      → (formula_true (value_of values) (restricted q cs) ≡ true → formula_true v cs ≡ true)
      → formula_true v (c ∷ cs) ≡ true
  clause_at c cs true e a t rest =
      and_from (clause_true v c) (formula_true v cs) (satisfied_true c a e) (rest t)
  clause_at c cs false e a t rest =
      let p = and_parts (clause_true (value_of values) (map (renumbered q) (reduced q c)))
      (formula_true (value_of values) (restricted q cs)) t in
      and_from (clause_true v c) (formula_true v cs) (left_true c a e p.0) (rest p.1)

  -- where the values make true what is left, all of them make the formula true
  pub merged_true : (cs : List (List ℤ)) → AreClauses vars cs
      → formula_true (value_of values) (restricted q cs) ≡ true → formula_true v cs ≡ true
  merged_true [] a t = refl
  merged_true (c ∷ cs) a t =
      clause_at c cs (is_satisfied q c) refl a.0 t (λ s. merged_true cs a.1 s)
