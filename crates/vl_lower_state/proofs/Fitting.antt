-- Cells in a net that keeps the nodes of another, and the range of a map that stands in cells.
use Rattle.std.specs.Prelude.{◌≡◌, refl, ℕ, zero, suc, ◌<◌, ◌^◌, List, [], ◌∷◌, ◌++◌, map, Some, slice_get, slice_index}
use Rattle.std.specs.List.{AllByRecursion}
use Rattle.std.proofs.Common.{sym, ◌∙◌, arith, subst}
use Rattle.vl_size.specs.declared.decl.Class.{Class}
use Rattle.vl_size.specs.declared.decl.Class.TheVariants as class
use Rattle.vl_size.specs.declared.decl.Decl.{Decl}
use Rattle.vl_size.specs.Size.{Values}
use Rattle.vl_mean.specs.Cells.{cells}
use Rattle.vl_mean.specs.Runs.{Each, InRange}
use Rattle.vl_flow_cells.specs.Numbered.{all_cells}
use Rattle.wn_net.specs.Value.{Given}
use Rattle.wn_net.specs.Net.{AreNodes, IsNet, Netlist, value_at}
use Rattle.wn_net.specs.Given.{IsGiven}
use Rattle.wn_net.specs.Changes.{Keeps}
use Rattle.wn_net.proofs.Moved.{value_within}
use Rattle.vl_lower_assign.specs.Frames.{AreCellsOf, Stand, cell_widths}
use Rattle.vl_lower_assign.proofs.Behind.{cell_there}
use Rattle.vl_lower_spec.specs.Built.{AreRanged}

pub stand_kept : (old new : Netlist) (g : Given) (ds : List Decl) (cells : List ℕ) (v : Values) → Keeps old new
    → AreCellsOf old ds cells → Stand old g ds cells v → Stand new g ds cells v
stand_kept old new g ds cells v keeps own h = λ i n e.
    h i n e
    ∙ sym (keeps.values g (slice_index cells i) (own.node i (cell_there old ds cells i n own e)).0)

pub cells_kept : (old new : Netlist) (ds : List Decl) (cells : List ℕ) → Keeps old new → AreCellsOf old ds cells
    → AreCellsOf new ds cells
cells_kept old new ds cells keeps own = record {
  each = own.each;
  node = λ i less.
      let n = own.node i less in
      (omega (arith, n.0, keeps.longer), keeps.widths (slice_index cells i) n.0 ∙ n.1);
}

-- ---- assumptions

pub above : (n : ℕ) → (n ≡ 0 → ⊥) → 0 < n
above zero f = absurd (f refl)
above (suc n) f = omega arith

module _ (old new : Netlist) (g : Given) (keeps : Keeps old new) where
  abbrev Met : List ℕ → Type 0
  Met ids = AllByRecursion (λ id. value_at new g id ≡ 0 → ⊥) ids

  pub met_of : (ids : List ℕ) → AreNodes old ids → Each (λ id. 0 < value_at old g id) ids → Met ids
  met_of [] own h = tt
  met_of (x ∷ xs) own h = (
    λ none. let same = keeps.values g x own.0 in let more = h.0 in absurd (omega (arith, none, same, more)),
    met_of xs own.1 h.1,
  )

  pub of_met : (ids : List ℕ) → AreNodes old ids → Met ids → Each (λ id. 0 < value_at old g id) ids
  of_met [] own h = tt
  of_met (x ∷ xs) own h = (
    above (value_at old g x) (λ none. h.0 (keeps.values g x own.0 ∙ none)),
    of_met xs own.1 h.1,
  )

  pub met_both : (xs ys : List ℕ) → Met xs → Met ys → Met (xs ++ ys)
  met_both [] ys a b = b
  met_both (x ∷ xs) ys a b = (a.0, met_both xs ys a.1 b)

  pub met_front : (xs ys : List ℕ) → Met (xs ++ ys) → Met xs
  met_front [] ys h = tt
  met_front (x ∷ xs) ys h = (h.0, met_front xs ys h.1)

  pub met_behind : (xs ys : List ℕ) → Met (xs ++ ys) → Met ys
  met_behind [] ys h = h
  met_behind (x ∷ xs) ys h = met_behind xs ys h.1

-- ---- what stands in cells has their widths

in_range : (v : Values) (d : Decl) (c : Class) → Each (λ text. v text < 2 ^ d.width) (cells d) → InRange v d c
in_range v d class.Clock h = tt
in_range v d class.Reset h = h
in_range v d class.Input h = h
in_range v d class.Net h = h
in_range v d class.Variable h = h
in_range v d class.EachCycle h = h
in_range v d class.Once h = h

-- each cell's number is below 2 to its width
abbrev AreSmall : Values → List (List ℕ) → List ℕ → Type 0
AreSmall v ns ws = (i : ℕ) (n : List ℕ) → slice_get ns i ≡ Some n → v n < 2 ^ slice_index ws i

first_small : (v : Values) (w : ℕ) (ns ms : List (List ℕ)) (ws : List ℕ)
    → AreSmall v (ns ++ ms) (map (λ (n : List ℕ). w) ns ++ ws) → Each (λ n. v n < 2 ^ w) ns
first_small v w [] ms ws h = tt
first_small v w (n ∷ ns) ms ws h =
    (h zero n refl, first_small v w ns ms ws (λ i m e. h (suc i) m e))

rest_small : (v : Values) (w : ℕ) (ns ms : List (List ℕ)) (ws : List ℕ)
    → AreSmall v (ns ++ ms) (map (λ (n : List ℕ). w) ns ++ ws) → AreSmall v ms ws
rest_small v w [] ms ws h = h
rest_small v w (n ∷ ns) ms ws h = rest_small v w ns ms ws (λ i m e. h (suc i) m e)

all_in_range : (v : Values) (ds : List Decl) → AreSmall v (all_cells ds) (cell_widths ds) → AreRanged ds v
all_in_range v [] h = tt
all_in_range v (d ∷ ds) h = (
  in_range v d d.class (first_small v d.width (cells d) (all_cells ds) (cell_widths ds) h),
  all_in_range v ds (rest_small v d.width (cells d) (all_cells ds) (cell_widths ds) h),
)

pub stands_in_range : (net : Netlist) (g : Given) (ds : List Decl) (cells : List ℕ) (v : Values) → IsNet net
    → IsGiven net g → AreCellsOf net ds cells → Stand net g ds cells v → AreRanged ds v
stands_in_range net g ds cells v whole given own h =
    all_in_range v ds (λ i n e.
    subst (λ x. x < 2 ^ slice_index (cell_widths ds) i) (sym (h i n e))
    (value_within net g (slice_index (cell_widths ds) i) (slice_index cells i) whole given
    (own.node i (cell_there net ds cells i n own e))))
