-- A choice of two nodes by a constant.
use Rattle.std.specs.Prelude.{◌≡◌, ℕ, ◌==◌, Bool, true, false, Some, slice_get, if◌then◌else◌}
use Rattle.std.proofs.Common.{ap, sym, ◌∙◌}
use Rattle.fv_text.specs.declared.word.Word.{Word}
use Rattle.fv_text.specs.Word.{number}
use Rattle.wn_net.specs.declared.node.Node.TheVariants as n
use Rattle.wn_net.specs.Net.{Netlist, IsNet}
use Rattle.wn_opt.specs.Folding.{chosen, is_constant, is_known, known_at, nothing}
use Rattle.wn_opt.specs.declared.fold.Folded.{Folded}
use Rattle.wn_opt.specs.declared.fold.Folded.TheVariants as f
use Rattle.wn_opt.proofs.Counting.{not_one}
use Rattle.wn_opt.proofs.Folds.{konst_value}

module _ (net : Netlist) (c a b : ℕ) (w : Word) (v : ℕ) (whole : IsNet net)
    (k : slice_get net.nodes c ≡ Some (n.Konst w)) (e : v ≡ number w) where
  known : is_known net c ≡ true
  known = ap is_constant k

  taken : (r : Bool) → (v == 1) ≡ r → (known_at net c == 1) ≡ r
  taken r t = ap (λ u. u == 1) (konst_value net nothing c w whole k ∙ sym e) ∙ t

  abbrev by_test : Bool → Bool → Folded
  by_test p q = if p then f.Same (if q then a else b) else f.Kept (n.Mux c a b)

  pub chosen_yes : v ≡ 1 → f.Same a ≡ chosen net c a b
  chosen_yes t = sym (λ i. by_test (known i) (taken true (ap (λ u. u == 1) t) i))

  pub chosen_no : (v ≡ 1 → ⊥) → f.Same b ≡ chosen net c a b
  chosen_no t = sym (λ i. by_test (known i) (taken false (not_one v t) i))
