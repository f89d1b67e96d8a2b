-- Rows of a graph, as they are read.
use Rattle.std.proofs.Common.{◌≡◌, ℕ, ◌<◌, List, [], ◌∷◌, length, get_or, refl, ap, sym, ◌∙◌, arith}
use Rattle.std.specs.Prelude.{slice_get, All}
use Rattle.std.proofs.lemmas.Option.{slice_get-get_or}
use Rattle.fv_graph.specs.Graph.{targets, IsWithin}
use Rattle.fv_graph.proofs.Rows.{row_at}

-- a row that was read, by the row that it was read from
pub row_read : (graph : List (List ℕ)) (i : ℕ) (row own : List ℕ) → i < length graph → row ≡ own
    → own ≡ get_or graph i own → targets graph i ≡ row
row_read graph i row own less e f = row_at graph i own less f ∙ sym e

-- the targets of a node are nodes
pub row_within : (graph : List (List ℕ)) (i n : ℕ) (row : List ℕ) → IsWithin graph → targets graph i ≡ row
    → n ≡ length graph → All (λ j. j < n) row
row_within graph i n row within t e = λ k d less.
    let l = within i (get_or row k d) (k, ap (λ r. slice_get r k) t ∙ slice_get-get_or row k d less) in
    omega (arith, l, e)

pub none_left : (nodes : List ℕ) → length nodes ≡ 0 → nodes ≡ []
none_left [] h = refl
none_left (i ∷ is) h = absurd (omega (arith, h))
