-- The number that an operator of constants comes to.
use Rattle.std.specs.Prelude.{◌≡◌, refl, ℕ, ◌<◌, ◌^◌, ◌==◌, Bool, true, false, [], ◌∷◌, Some, slice_get, if◌then◌else◌}
use Rattle.std.proofs.Common.{ap, sym, ◌∙◌, arith, subst}
use Rattle.std.proofs.lemmas.Bool.Decides.{nat_tests}
use Rattle.fv_text.specs.declared.word.Word.{Word}
use Rattle.fv_text.specs.Word.{number}
use Rattle.wn_net.specs.declared.node.Node.{Node}
use Rattle.wn_net.specs.declared.node.Node.TheVariants as n
use Rattle.wn_net.specs.Net.{Netlist, IsNet}
use Rattle.wn_net.specs.Changes.{value_in}
use Rattle.wn_opt.specs.Folding.{is_constant, is_known, are_known, reads_constants, nothing}
use Rattle.wn_opt.specs.Needed.{operands}
use Rattle.wn_opt.specs.Sound.{two_value}
use Rattle.wn_opt.proofs.Knowns.{all_true, three_number, three_reads, two_number, two_reads}

is_one : (v : ℕ) → (v == 1) ≡ true → v ≡ 1
is_one v e = grind (arith, nat_tests, e)

pub not_one : (v : ℕ) → (v ≡ 1 → ⊥) → (v == 1) ≡ false
not_one v other = by (v == 1) refl
  where
    by : (c : Bool) → (v == 1) ≡ c → (v == 1) ≡ false
    by true e = absurd (other (is_one v e))
    by false e = e

abbrev IsFolded : Netlist → Node → ℕ → Type 0
IsFolded net z v = (reads_constants net z ≡ true) × (v ≡ value_in net nothing z)

pub two_folded : (net : Netlist) (whole : IsNet net) (a b : ℕ) (x y : Word)
    → slice_get net.nodes a ≡ Some (n.Konst x) → slice_get net.nodes b ≡ Some (n.Konst y)
    → (z : Node) (v : ℕ) → operands z ≡ a ∷ b ∷ [] → v ≡ two_value z x y → IsFolded net z v
two_folded net whole a b x y k l z v e f = (
  two_reads net z a b e ∙ all_true (is_known net a) (is_known net b) (ap is_constant k) (ap is_constant l),
  f ∙ two_number net whole a b x y k l z e,
)

module _ (net : Netlist) (whole : IsNet net) (c a b : ℕ) (t x y : Word)
    (j : slice_get net.nodes c ≡ Some (n.Konst t)) (k : slice_get net.nodes a ≡ Some (n.Konst x))
    (l : slice_get net.nodes b ≡ Some (n.Konst y)) (z : Node) (e : operands z ≡ c ∷ a ∷ b ∷ []) where
  known : reads_constants net z ≡ true
  known = three_reads net z c a b e
      ∙ all_true (is_known net c) (are_known net a b) (ap is_constant j)
      (all_true (is_known net a) (is_known net b) (ap is_constant k) (ap is_constant l))

  abbrev taken : Bool → ℕ
  taken r = if r then number x else number y

  by_test : (v : ℕ) (r : Bool) → v ≡ number t → (v == 1) ≡ r → taken r ≡ value_in net nothing z
  by_test v r f h = sym (ap taken (ap (λ u. u == 1) (sym f) ∙ h)) ∙ three_number net whole c a b t x y j k l z e

  pub three_yes : (v r : ℕ) → v ≡ number t → v ≡ 1 → r ≡ number x → IsFolded net z r
  three_yes v r f h g = (known, g ∙ by_test v true f (ap (λ u. u == 1) h))

  pub three_no : (v r : ℕ) → v ≡ number t → (v ≡ 1 → ⊥) → r ≡ number y → IsFolded net z r
  three_no v r f h g = (known, g ∙ by_test v false f (not_one v h))

pub right_fits : (x y : Word) (v w : ℕ) → y.width ≡ x.width → v ≡ number y → w ≡ x.width → v < 2 ^ w
right_fits x y v w e f g =
    let p : number y < 2 ^ y.width = y.value_fits in
    let q : number y < 2 ^ w = subst (λ u. number y < 2 ^ u) (e ∙ sym g) p in
    subst (λ u. u < 2 ^ w) (sym f) q
