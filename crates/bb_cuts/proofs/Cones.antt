-- Tables of nodes over leaves.
use Rattle.std.specs.Prelude.{◌≡◌, refl, ℕ, zero, suc, ◌*◌, ◌/◌, ◌%◌, ◌<◌, ◌==◌, Bool, not, ◌&&◌}
use Rattle.std.specs.Prelude.{List, [], ◌∷◌, ◌++◌, length, slice_get, slice_index_or, Some}
use Rattle.std.specs.List.{AllByRecursion}
use Rattle.std.proofs.Common.{ap, sym, ◌∙◌, arith, subst}
use Rattle.bb_aig.specs.declared.node.AigNode.{AigNode}
use Rattle.bb_aig.specs.declared.node.AigNode.TheVariants as n
use Rattle.bb_aig.specs.Graph.{IsGraph, lit_at, turned}
use Rattle.bb_aig.proofs.AigGates.{first_value, gate_value}
use Rattle.bb_cuts.specs.declared.leaves.Leaves.{Leaves}
use Rattle.bb_cuts.specs.declared.cone.Mark.{Mark}
use Rattle.bb_cuts.specs.Rows.{row_of, has_row}
use Rattle.bb_cuts.specs.Variables.{node_at, IsTable}
use Rattle.bb_cuts.proofs.RowLaws.{leads, none, row_small}

abbrev pub AreMarked : List AigNode → Leaves → List Mark → Type 0
AreMarked graph leaves marks = AllByRecursion (λ m. IsTable graph leaves m.node m.rows) marks

pub mark_at : (graph : List AigNode) (leaves : Leaves) (marks : List Mark) (i : ℕ) (d : Mark) → i < length marks
    → AreMarked graph leaves marks
    → IsTable graph leaves (slice_index_or marks i d).node (slice_index_or marks i d).rows
mark_at graph leaves [] i d below h = absurd (omega arith)
mark_at graph leaves (m ∷ ms) zero d below h = h.0
mark_at graph leaves (m ∷ ms) (suc i) d below h = mark_at graph leaves ms i d (omega arith) h.1

pub marked_more : (graph : List AigNode) (leaves : Leaves) (marks more : List Mark) (m : Mark)
    → more ≡ marks ++ m ∷ [] → AreMarked graph leaves marks → IsTable graph leaves m.node m.rows
    → AreMarked graph leaves more
marked_more graph leaves marks more m e h is =
    let P : List Mark → Type 0 = λ ms. AreMarked graph leaves ms in
    subst P (sym e) (pushed marks h)
  where
    pushed : (marks : List Mark) → AreMarked graph leaves marks → AreMarked graph leaves (marks ++ m ∷ [])
    pushed [] h = (is, tt)
    pushed (k ∷ ks) h = (h.0, pushed ks h.1)

pub plain_literal : (graph : List AigNode) (leaves : Leaves) (lit rows : ℕ) (x : ℕ → Bool)
    → IsTable graph leaves (lit / 2) rows → (lit % 2 ≡ 1 → ⊥)
    → has_row rows (row_of (node_at graph x) leaves) ≡ lit_at graph x lit
plain_literal graph leaves lit rows x is other =
    let e : lit % 2 ≡ 0 = zero_of (lit % 2) other (omega arith) in
    is x ∙ ap (λ r. turned (r == 1) (node_at graph x (lit / 2))) (sym e)
  where
    zero_of : (r : ℕ) → (r ≡ 1 → ⊥) → r < 2 → r ≡ 0
    zero_of zero ne h = refl
    zero_of (suc zero) ne h = absurd (ne refl)
    zero_of (suc (suc r)) ne h = absurd (omega arith)

pub turned_literal : (graph : List AigNode) (leaves : Leaves) (lit rows other : ℕ) (x : ℕ → Bool)
    → IsTable graph leaves (lit / 2) rows → lit % 2 ≡ 1
    → ((r : ℕ) → r < 16 → has_row other r ≡ not (has_row rows r))
    → has_row other (row_of (node_at graph x) leaves) ≡ lit_at graph x lit
turned_literal graph leaves lit rows other x is odd law =
    law (row_of (node_at graph x) leaves) (row_small (node_at graph x) leaves) ∙ ap not (is x)
    ∙ ap (λ r. turned (r == 1) (node_at graph x (lit / 2))) (sym odd)

-- the value of a node is that of its literal
node_value : (graph : List AigNode) (x : ℕ → Bool) (k : ℕ) → lit_at graph x (2 * k) ≡ node_at graph x k
node_value graph x k =
    let r : 2 * k % 2 ≡ 0 = omega arith in
    let e : 2 * k / 2 ≡ k = omega arith in
    ap (λ r. turned (r == 1) (node_at graph x (2 * k / 2))) r ∙ ap (node_at graph x) e

pub gate_table : (graph : List AigNode) (leaves : Leaves) (k a b left right rows : ℕ) → IsGraph graph
    → slice_get graph k ≡ Some (n.And a b)
    → ((x : ℕ → Bool) → has_row left (row_of (node_at graph x) leaves) ≡ lit_at graph x a)
    → ((x : ℕ → Bool) → has_row right (row_of (node_at graph x) leaves) ≡ lit_at graph x b)
    → ((r : ℕ) → has_row rows r ≡ (has_row left r && has_row right r)) → IsTable graph leaves k rows
gate_table graph leaves k a b left right rows g e hl hr law x =
    let r = row_of (node_at graph x) leaves in
    law r ∙ ap (λ t. t && has_row right r) (hl x) ∙ ap (λ t. lit_at graph x a && t) (hr x)
    ∙ sym (gate_value graph k a b g e x) ∙ node_value graph x k

-- node 0 and the leaves
pub leaves_marked : (graph : List AigNode) (leaves : Leaves) (marks : List Mark) → IsGraph graph
    → marks ≡ record { node = 0; rows = 0 } ∷ record { node = leaves.first; rows = 43690 }
    ∷ record { node = leaves.second; rows = 52428 } ∷ record { node = leaves.third; rows = 61680 }
    ∷ record { node = leaves.fourth; rows = 65280 } ∷ []
    → AreMarked graph leaves marks
leaves_marked graph leaves marks g e =
    let P : List Mark → Type 0 = λ ms. AreMarked graph leaves ms in
    let own = λ (x : ℕ → Bool). leads (node_at graph x leaves.first) (node_at graph x leaves.second)
    (node_at graph x leaves.third) (node_at graph x leaves.fourth) in
    subst P (sym e) (
      λ x. none (row_of (node_at graph x) leaves) ∙ sym (first_value graph x g.begins),
      (
        λ x. (own x).first,
        (λ x. (own x).second, (λ x. (own x).third, (λ x. (own x).fourth, tt))),
      ),
    )
