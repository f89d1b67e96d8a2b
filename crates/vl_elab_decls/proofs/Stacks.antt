-- Stacks of scopes, as they are taken apart and put together.
use Rattle.std.specs.Prelude.{◌≡◌, refl, ℕ, List, [], ◌∷◌, ◌++◌, drop}
use Rattle.std.proofs.Common.{ap, sym, ◌∙◌}
use Rattle.vl_mean.specs.Scopes.{Scope}
use Rattle.vl_elab_spec.specs.Meanings.{Names, meaning_in, value_of}
use Rattle.vl_elab_const.specs.Numbers.{HaveNumbers}
use Rattle.vl_elab_scope.specs.Seen.{innermost}

pub drop_two : (ns : List Names) → drop 2 ns ≡ drop 1 (drop 1 ns)
drop_two [] = refl
drop_two (n ∷ ns) = refl

module _ (old taken left between new : List Names) (own rest : Names) (first : own ≡ innermost old)
    (others : taken ≡ drop 1 old) (left_is : left ≡ drop 1 taken) (put : between ≡ rest ∷ left)
    (last : new ≡ own ∷ between) where
  new_is : new ≡ innermost old ∷ rest ∷ drop 2 old
  new_is =
      last ∙ (λ i. first i ∷ put i)
      ∙ (λ i. innermost old ∷ rest ∷ (left_is ∙ ap (drop 1) others ∙ sym (drop_two old)) i)

  pub rest_is : innermost (drop 1 new) ≡ rest
  rest_is = ap (λ ns. innermost (drop 1 ns)) new_is

  pub stack_is : new ≡ innermost old ∷ innermost (drop 1 new) ∷ drop 2 old
  stack_is = new_is ∙ (λ i. innermost old ∷ sym rest_is i ∷ drop 2 old)

-- over others, which are lifted again, two are made, and put over what was beneath
module _ (old laid over one taken left rest between new : List Names) (own behind : Names) (count : ℕ)
    (is_laid : laid ≡ over ++ old) (around : drop 2 one ≡ laid) (first : own ≡ innermost one)
    (one_taken : taken ≡ drop 1 one) (second : behind ≡ innermost taken) (two_taken : left ≡ drop 1 taken) where
  pub left_is_laid : left ≡ over ++ old
  left_is_laid = two_taken ∙ ap (drop 1) one_taken ∙ sym (drop_two one) ∙ around ∙ is_laid

  module _ (lifted : rest ≡ old) (put : between ≡ behind ∷ rest) (last : new ≡ own ∷ between) where
    pub put_over : new ≡ innermost one ∷ innermost (drop 1 one) ∷ old
    put_over =
        last ∙ (λ i. first i ∷ put i)
        ∙ (λ i. innermost one ∷ (second ∙ ap innermost one_taken) i ∷ lifted i)

    pub put_first : innermost one ≡ innermost new
    put_first = sym (ap innermost put_over)

    pub put_second : innermost (drop 1 one) ≡ innermost (drop 1 new)
    put_second = sym (ap (λ ns. innermost (drop 1 ns)) put_over)

    pub put_is : new ≡ innermost new ∷ innermost (drop 1 new) ∷ old
    put_is = put_over ∙ (λ i. put_first i ∷ put_second i ∷ old)

-- what hides constants stands before them
pub hidden_is : (old taken between new : List Names) (values hidden named : Names) → values ≡ innermost old
    → taken ≡ drop 1 old → between ≡ values ∷ taken → new ≡ hidden ∷ between → hidden ≡ named
    → new ≡ named ∷ innermost old ∷ drop 1 old
hidden_is old taken between new values hidden named first others put last same =
    last ∙ (λ i. same i ∷ (put ∙ (λ j. first j ∷ others j)) i)

pub left_four : (old one two : List Names) → one ≡ drop 1 old → two ≡ drop 1 one → two ≡ drop 2 old
left_four old one two e f = f ∙ ap (drop 1) e ∙ sym (drop_two old)

pub again : (ns : List Names) (text : List ℕ) → meaning_in (innermost ns ∷ drop 1 ns) text ≡ meaning_in ns text
again [] text = refl
again (n ∷ ns) text = refl

pub same_numbers : (ns : List Names) (ss : List Scope) → HaveNumbers ns ss
    → HaveNumbers (innermost ns ∷ drop 1 ns) ss
same_numbers ns ss h text = ap value_of (again ns text) ∙ h text
