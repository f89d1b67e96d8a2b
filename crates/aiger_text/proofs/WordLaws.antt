-- What a comparison of words says.
use Rattle.std.proofs.Common.{◌≡◌, ℕ, Bool, true, false, not, eqb, List, sym, ◌∙◌, ◌⊎◌, inl, inr}
use Rattle.std.specs.Prelude.{bytes_eq}
use Rattle.std.proofs.lemmas.Bool.{false≢true, cases_Bool}
use Rattle.std.proofs.lemmas.Slice.Eq.{bytes_eq-Decides}
use lib.Pointwise.{pointwise, bytes_decides}

not_true : (b : Bool) → true ≡ not b → b ≡ true → ⊥
not_true true e f = false≢true (sym e)
not_true false e f = false≢true f

pub words_differ : (xs ys zs : List ℕ) (b : Bool) → b ≡ not (pointwise eqb xs ys) → b ≡ true → ys ≡ zs
    → bytes_eq xs zs ≡ false
words_differ xs ys zs b e t y = by (cases_Bool (bytes_eq xs zs)) where
  by : (bytes_eq xs zs ≡ true) ⊎ (bytes_eq xs zs ≡ false) → bytes_eq xs zs ≡ false
  by (inl k) =
      absurd (not_true (pointwise eqb xs ys) (sym t ∙ e)
      ((bytes_decides xs ys).1 ((bytes_eq-Decides xs zs).0 k ∙ sym y)))
  by (inr f) = f
