-- The widths of a name's cells among those of all.
use Rattle.std.specs.Prelude.{◌≡◌, ℕ, ◌+◌, ◌<◌, List, ◌++◌, length, map, Some, slice_get, slice_index}
use Rattle.std.proofs.Common.{ap, sym, ◌∙◌, arith, subst}
use Rattle.std.proofs.lemmas.List.{length-map}
use Rattle.vl_size.specs.declared.decl.Decl.{Decl}
use Rattle.vl_mean.specs.Cells.{cells}
use Rattle.vl_flow_cells.proofs.Lists.{get_left, get_less, get_right}
use Rattle.wn_net.specs.Net.{IsNodeOf, Netlist}
use Rattle.vl_lower_assign.specs.Frames.{AreCellsOf, cell_widths}
use Rattle.vl_lower_cell_laws.proofs.SourcesLists.{map_get}
use Rattle.vl_lower_cell_laws.proofs.ShownLists.{index_is}

-- cells from a number on have these widths
abbrev pub WideFrom : List ℕ → ℕ → List ℕ → Type 0
WideFrom whole first ws = (j w : ℕ) → slice_get ws j ≡ Some w → slice_get whole (first + j) ≡ Some w

abbrev pub own_widths : Decl → List ℕ
own_widths d = map (λ (n : List ℕ). d.width) (cells d)

pub wide_front : (whole : List ℕ) (first : ℕ) (xs ys : List ℕ) → WideFrom whole first (xs ++ ys)
    → WideFrom whole first xs
wide_front whole first xs ys h j w e = h j w (get_left xs ys j w e)

pub wide_back : (whole : List ℕ) (d : Decl) (first : ℕ) (ys : List ℕ) → WideFrom whole first (own_widths d ++ ys)
    → WideFrom whole (first + length (cells d)) ys
wide_back whole d first ys h j w e =
    let many : length (own_widths d) ≡ length (cells d) = length-map (cells d) (λ (n : List ℕ). d.width) in
    let same : first + (length (cells d) + j) ≡ first + length (cells d) + j = omega arith in
    ap (slice_get whole) (sym same)
    ∙ h (length (cells d) + j) w
    (get_right (own_widths d) ys j (length (cells d) + j) (ap (λ n. n + j) (sym many)) ∙ e)

-- each of a name's cells has its width
pub wide_each : (whole : List ℕ) (d : Decl) (first : ℕ) → WideFrom whole first (own_widths d)
    → (j : ℕ) (n : List ℕ) → slice_get (cells d) j ≡ Some n → slice_get whole (first + j) ≡ Some d.width
wide_each whole d first h j n e = h j d.width (map_get (λ (t : List ℕ). d.width) (cells d) j n e)

-- the node of such a cell
pub node_of : (net : Netlist) (ds : List Decl) (nodes : List ℕ) → AreCellsOf net ds nodes → (c w : ℕ)
    → slice_get (cell_widths ds) c ≡ Some w → (c < length nodes) × IsNodeOf net w (slice_index nodes c)
node_of net ds nodes own c w e =
    let less : c < length nodes = omega (arith, get_less (cell_widths ds) c w e, own.each) in
    (less, subst (λ n. IsNodeOf net n (slice_index nodes c)) (index_is (cell_widths ds) c w e) (own.node c less))

pub from_none : (ws : List ℕ) → WideFrom ws 0 ws
from_none ws j w e = let same : 0 + j ≡ j = omega arith in ap (slice_get ws) same ∙ e
