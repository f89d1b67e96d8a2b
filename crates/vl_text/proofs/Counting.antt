-- The end of the top module, token by token.
use Rattle.std.proofs.Common.{◌≡◌, ℕ, ◌+◌, List, [], ◌∷◌, None, Some, true, false, refl}
use Rattle.fv_text.specs.declared.token.Token.{Token}
use Rattle.vl_text.specs.Assumptions.{is_endmodule, first_end, begins_top, end_of_top}

module _ (before : ℕ) (left ts : List Token) (t : Token) (is : left ≡ t ∷ ts) where
  pub end_later : begins_top t ts ≡ false → end_of_top before left ≡ end_of_top (before + 1) ts
  end_later test = rw (is, test) refl

  pub end_here : begins_top t ts ≡ true → end_of_top before left ≡ first_end (before + 1) ts
  end_here test = rw (is, test) refl

  pub first_end_later : is_endmodule t.kind ≡ false → first_end before left ≡ first_end (before + 1) ts
  first_end_later test = rw (is, test) refl

  pub first_end_here : is_endmodule t.kind ≡ true → first_end before left ≡ Some before
  first_end_here test = rw (is, test) refl

pub no_end : (before : ℕ) (left : List Token) → left ≡ [] → end_of_top before left ≡ None
no_end before left none = rw none refl

pub no_first_end : (before : ℕ) (left : List Token) → left ≡ [] → first_end before left ≡ None
no_first_end before left none = rw none refl

pub ruleset ends = (end_later, end_here, first_end_later, first_end_here, no_end, no_first_end)
