-- More inputs, registers or memories change nothing for the nodes that were there.
use Rattle.std.specs.Prelude.{◌≡◌, refl, ℕ, ◌<◌, ◌≤◌, List, [], ◌∷◌, ◌++◌, length, slice_index}
use Rattle.std.proofs.Common.{ap, sym, ◌∙◌, arith, subst, length-append}
use Rattle.std.proofs.lemmas.List.{get_or_append_left}
use Rattle.wn_net.specs.declared.node.Node.{Node}
use Rattle.wn_net.specs.declared.node.Node.TheVariants as n
use Rattle.wn_net.specs.Width.{Shape, width, widths, IsFitting, AreFitting}
use Rattle.wn_net.specs.Value.{Given, value, values}

-- the second list has the numbers of the first at its beginning
pub record Extends (xs ys : List ℕ) : Type 0 where
  pub longer : length xs ≤ length ys
  pub same : (i : ℕ) → i < length xs → slice_index ys i ≡ slice_index xs i

pub record IsWider (s t : Shape) : Type 0 where
  pub inputs : Extends s.inputs t.inputs
  pub regs : Extends s.regs t.regs
  pub mems : Extends s.mems t.mems

pub extends_self : (xs : List ℕ) → Extends xs xs
extends_self xs = record { longer = omega arith; same = λ i h. refl }

pub extends_more : (xs ys : List ℕ) → Extends xs (xs ++ ys)
extends_more xs ys = record {
  longer = omega (arith, length-append xs ys);
  same = λ i h. get_or_append_left xs ys 0 i h;
}

pub width_wider : (s t : Shape) (ws : List ℕ) (x : Node) → IsWider s t → IsFitting s ws x → width t ws x ≡ width s ws x
width_wider s t ws (n.Input i) g fits = g.inputs.same i fits
width_wider s t ws (n.Reg i) g fits = g.regs.same i fits
width_wider s t ws (n.Read m a) g fits = g.mems.same m fits.0
width_wider s t ws x g fits = refl

pub fitting_wider : (s t : Shape) (ws : List ℕ) (x : Node) → IsWider s t → IsFitting s ws x → IsFitting t ws x
fitting_wider s t ws (n.Input i) g fits = omega (arith, g.inputs.longer, fits)
fitting_wider s t ws (n.Reg i) g fits = omega (arith, g.regs.longer, fits)
fitting_wider s t ws (n.Read m a) g fits = (omega (arith, g.mems.longer, fits.0), fits.1)
fitting_wider s t ws x g fits = fits

pub all_wider : (s t : Shape) (ws : List ℕ) (xs : List Node) → IsWider s t → AreFitting s ws xs → AreFitting t ws xs
all_wider s t ws [] g fits = tt
all_wider s t ws (x ∷ xs) g fits =
    let P : ℕ → Type 0 = λ w. AreFitting t (ws ++ w ∷ []) xs in (
      fitting_wider s t ws x g fits.0,
      subst P (sym (width_wider s t ws x g fits.0)) (all_wider s t (ws ++ width s ws x ∷ []) xs g fits.1),
    )

pub widths_wider : (s t : Shape) (ws : List ℕ) (xs : List Node) → IsWider s t → AreFitting s ws xs
    → widths t ws xs ≡ widths s ws xs
widths_wider s t ws [] g fits = refl
widths_wider s t ws (x ∷ xs) g fits =
    ap (λ w. widths t (ws ++ w ∷ []) xs) (width_wider s t ws x g fits.0)
    ∙ widths_wider s t (ws ++ width s ws x ∷ []) xs g fits.1

pub values_wider : (s t : Shape) (c : Given) (ws vs : List ℕ) (xs : List Node) → IsWider s t → AreFitting s ws xs
    → values t c ws vs xs ≡ values s c ws vs xs
values_wider s t c ws vs [] g fits = refl
values_wider s t c ws vs (x ∷ xs) g fits =
    ap (λ w. values t c (ws ++ w ∷ []) (vs ++ value c ws vs x ∷ []) xs) (width_wider s t ws x g fits.0)
    ∙ values_wider s t c (ws ++ width s ws x ∷ []) (vs ++ value c ws vs x ∷ []) xs g fits.1
