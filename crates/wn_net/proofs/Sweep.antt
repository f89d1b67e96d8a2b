-- Nodes behind others: what is added at the end changes nothing before it.
use Rattle.std.specs.Prelude.{◌≡◌, refl, ℕ, ◌+◌, ◌<◌, List, [], ◌∷◌, ◌++◌, length, slice_index}
use Rattle.std.proofs.Common.{◌∙◌, arith}
use Rattle.std.proofs.lemmas.List.{get_or_append_left, length_push}
use Rattle.wn_net.specs.declared.node.Node.{Node}
use Rattle.wn_net.specs.Width.{Shape, width, widths, AreFitting}
use Rattle.wn_net.specs.Value.{Given, value, values}

pub widths-append : (s : Shape) (ws : List ℕ) (xs ys : List Node)
    → widths s ws (xs ++ ys) ≡ widths s (widths s ws xs) ys
widths-append s ws [] ys = refl
widths-append s ws (x ∷ xs) ys = widths-append s (ws ++ width s ws x ∷ []) xs ys

pub values-append : (s : Shape) (g : Given) (ws vs : List ℕ) (xs ys : List Node)
    → values s g ws vs (xs ++ ys) ≡ values s g (widths s ws xs) (values s g ws vs xs) ys
values-append s g ws vs [] ys = refl
values-append s g ws vs (x ∷ xs) ys = values-append s g (ws ++ width s ws x ∷ []) (vs ++ value g ws vs x ∷ []) xs ys

pub length-widths : (s : Shape) (ws : List ℕ) (xs : List Node) → length (widths s ws xs) ≡ length ws + length xs
length-widths s ws [] = omega arith
length-widths s ws (x ∷ xs) =
    omega (arith, length-widths s (ws ++ width s ws x ∷ []) xs, length_push ws (width s ws x))

pub length-values : (s : Shape) (g : Given) (ws vs : List ℕ) (xs : List Node)
    → length (values s g ws vs xs) ≡ length vs + length xs
length-values s g ws vs [] = omega arith
length-values s g ws vs (x ∷ xs) =
    omega (
      arith,
      length-values s g (ws ++ width s ws x ∷ []) (vs ++ value g ws vs x ∷ []) xs,
      length_push vs
          (value g ws vs x),
    )

-- those before have kept theirs
pub widths_begin : (s : Shape) (ws : List ℕ) (xs : List Node) (i : ℕ) → i < length ws
    → slice_index (widths s ws xs) i ≡ slice_index ws i
widths_begin s ws [] i h = refl
widths_begin s ws (x ∷ xs) i h =
    widths_begin s (ws ++ width s ws x ∷ []) xs i (omega (arith, length_push ws (width s ws x)))
    ∙ get_or_append_left ws (width s ws x ∷ []) 0 i h

pub values_begin : (s : Shape) (g : Given) (ws vs : List ℕ) (xs : List Node) (i : ℕ) → i < length vs
    → slice_index (values s g ws vs xs) i ≡ slice_index vs i
values_begin s g ws vs [] i h = refl
values_begin s g ws vs (x ∷ xs) i h =
    values_begin s g (ws ++ width s ws x ∷ []) (vs ++ value g ws vs x ∷ []) xs i
    (omega (arith, length_push vs (value g ws vs x)))
    ∙ get_or_append_left vs (value g ws vs x ∷ []) 0 i h

pub fitting_both : (s : Shape) (ws : List ℕ) (xs ys : List Node) → AreFitting s ws xs → AreFitting s (widths s ws xs) ys
    → AreFitting s ws (xs ++ ys)
fitting_both s ws [] ys a b = b
fitting_both s ws (x ∷ xs) ys a b = (a.0, fitting_both s (ws ++ width s ws x ∷ []) xs ys a.1 b)

pub fitting_first : (s : Shape) (ws : List ℕ) (xs ys : List Node) → AreFitting s ws (xs ++ ys) → AreFitting s ws xs
fitting_first s ws [] ys a = tt
fitting_first s ws (x ∷ xs) ys a = (a.0, fitting_first s (ws ++ width s ws x ∷ []) xs ys a.1)
