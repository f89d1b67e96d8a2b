-- A table of marks by code, as it is read and widened.
use Rattle.std.proofs.Common.{◌≡◌, ℕ, zero, suc, Bool, false, List, [], ◌∷◌, ◌++◌, ℤ, neg_ℤ, refl, ap, sym, ◌∙◌}
use Rattle.lrat_check.specs.Codes.{lit_of, flip}
use Rattle.lrat_check.specs.Marks.{is_near, is_marked, AreMarked}
use Rattle.lrat_check.specs.Sets.{has, is_false, IsLit}
use Rattle.lrat_check.specs.declared.marks.Marks.{Marks}
use Rattle.lrat_check.proofs.Codes.{code_lit, flip_code}

pub widened : (marks : List Bool) (k : ℕ) → is_near (marks ++ false ∷ []) k ≡ is_near marks k
widened [] zero = refl
widened [] (suc k) = refl
widened (m ∷ ms) zero = refl
widened (m ∷ ms) (suc k) = widened ms k

module _ (marks : Marks) (set : List ℤ) (a : AreMarked marks set) (code : ℕ) (i : IsLit (lit_of code)) where
  pub true_there : is_marked marks code ≡ has set (lit_of code)
  true_there = ap (is_marked marks) (sym (code_lit code i)) ∙ a.at (lit_of code)

  pub false_there : is_marked marks (flip code) ≡ is_false set (lit_of code)
  false_there = ap (is_marked marks) (flip_code code i) ∙ a.at (neg_ℤ (lit_of code))
