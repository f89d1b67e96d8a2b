-- What a call for a node comes to has the node's value.
use Rattle.std.specs.Prelude.{◌≡◌, refl, ℕ, ◌&&◌, Bool, true}
use Rattle.std.specs.Prelude.{false, Some, None, Option, slice_get, slice_index}
use Rattle.std.proofs.Common.{sym, ◌∙◌, true≢false}
use Rattle.fv_text.specs.declared.word.Word.{Word}
use Rattle.fv_text.specs.Word.{number}
use Rattle.wn_net.specs.declared.node.Node.{Node}
use Rattle.wn_net.specs.declared.node.Node.TheVariants as n
use Rattle.wn_net.specs.Value.{Given}
use Rattle.wn_net.specs.Net.{Netlist, IsNet, values_of, width_at, value_at}
use Rattle.wn_net.specs.Changes.{value_in}
use Rattle.wn_run.proofs.Own.{each_value, each_width}
use Rattle.wn_opt.specs.Folding.{is_constant, is_known, are_known, reads_constants}

-- ---- constants

konst_of : (o : Option Node) → is_constant o ≡ true → (w : Word) × (o ≡ Some (n.Konst w))
konst_of None e = absurd (true≢false (sym e))
konst_of (Some (n.Konst w)) e = (w, refl)
konst_of (Some x) e = absurd (true≢false (sym e))

-- a constant has one value in every cycle
pub known_same : (net : Netlist) (g h : Given) (a : ℕ) → IsNet net → is_known net a ≡ true
    → value_at net g a ≡ value_at net h a
known_same net g h a whole e =
    let k = konst_of (slice_get net.nodes a) e in
    each_value net g a (n.Konst k.0) whole k.1 ∙ sym (each_value net h a (n.Konst k.0) whole k.1)

-- the number of a constant, and its width
pub konst_value : (net : Netlist) (g : Given) (a : ℕ) (w : Word) → IsNet net
    → slice_get net.nodes a ≡ Some (n.Konst w) → value_at net g a ≡ number w
konst_value net g a w whole e = each_value net g a (n.Konst w) whole e

pub konst_width : (net : Netlist) (a : ℕ) (w : Word) → IsNet net → slice_get net.nodes a ≡ Some (n.Konst w)
    → width_at net a ≡ w.width
konst_width net a w whole e = each_width net a (n.Konst w) whole e

left : (a b : Bool) → (a && b) ≡ true → a ≡ true
left true b e = refl
left false b e = e

right : (a b : Bool) → (a && b) ≡ true → b ≡ true
right true b e = e
right false b e = absurd (true≢false (sym e))

-- and so has an operator of constants
module _ (net : Netlist) (g h : Given) (whole : IsNet net) where
  abbrev SameAt : ℕ → Type 0
  SameAt a = slice_index (values_of net g) a ≡ slice_index (values_of net h) a

  one : (a : ℕ) → is_known net a ≡ true → SameAt a
  unfolding value_at
  one a e = known_same net g h a whole e

  first : (a b : ℕ) → are_known net a b ≡ true → SameAt a
  first a b e = one a (left (is_known net a) (is_known net b) e)

  second : (a b : ℕ) → are_known net a b ≡ true → SameAt b
  second a b e = one b (right (is_known net a) (is_known net b) e)

  pub folds_same : (x : Node) → reads_constants net x ≡ true → value_in net g x ≡ value_in net h x
  folds_same (n.Konst w) e = refl
  folds_same (n.Input i) e = absurd (true≢false (sym e))
  folds_same (n.Reg i) e = absurd (true≢false (sym e))
  folds_same (n.Read m a) e = absurd (true≢false (sym e))
  folds_same (n.Not a) e = rw (one a e) refl
  folds_same (n.And a b) e = rw (first a b e, second a b e) refl
  folds_same (n.Or a b) e = rw (first a b e, second a b e) refl
  folds_same (n.Xor a b) e = rw (first a b e, second a b e) refl
  folds_same (n.Add a b) e = rw (first a b e, second a b e) refl
  folds_same (n.Sub a b) e = rw (first a b e, second a b e) refl
  folds_same (n.Mul a b) e = rw (first a b e, second a b e) refl
  folds_same (n.Eq a b) e = rw (first a b e, second a b e) refl
  folds_same (n.Ult a b) e = rw (first a b e, second a b e) refl
  folds_same (n.Slt a b) e = rw (first a b e, second a b e) refl
  folds_same (n.Shl a b) e = rw (first a b e, second a b e) refl
  folds_same (n.Lshr a b) e = rw (first a b e, second a b e) refl
  folds_same (n.Ashr a b) e = rw (first a b e, second a b e) refl
  folds_same (n.Concat a b) e = rw (first a b e, second a b e) refl
  folds_same (n.Mux c a b) e =
      let p = one c (left (is_known net c) (are_known net a b) e) in
      let q = first a b (right (is_known net c) (are_known net a b) e) in
      let r = second a b (right (is_known net c) (are_known net a b) e) in
      rw (p, q, r) refl
  folds_same (n.Slice a at w) e = rw (one a e) refl
  folds_same (n.Zext a w) e = one a e
  folds_same (n.Sext a w) e = rw (one a e) refl
