-- Nodes of the number 0 for the cells of one name more, and what they stand for.
use Rattle.std.specs.Prelude.{◌≡◌, refl, ℕ, zero, suc, ◌<◌, List, [], ◌∷◌, ◌++◌, length, map, replicate}
use Rattle.std.specs.Prelude.{slice_index}
use Rattle.std.proofs.Common.{ap, sym, ◌∙◌, arith, subst, append_assoc}
use Rattle.std.proofs.lemmas.List.{append-nil}
use Rattle.vl_size.specs.declared.decl.Decl.{Decl}
use Rattle.vl_mean.specs.Cells.{cells}
use Rattle.vl_mean.specs.Execution.{begun}
use Rattle.vl_mean.specs.Runs.{Each}
use Rattle.vl_mean.specs.Scopes.{no_values}
use Rattle.wn_net.specs.Value.{Given}
use Rattle.wn_net.specs.Net.{Netlist, AreNodes, value_at}
use Rattle.wn_net.specs.Changes.{AddsNodes}
use Rattle.wn_net.proofs.Laws.{node_on, value_on}
use Rattle.vl_lower_assign.specs.Frames.{AreCellsOf, Cells, IsFrame, Stand, StandsFor, cell_widths}
use Rattle.vl_lower_assign.specs.Tracks.{AreTracks}
use Rattle.vl_lower_assign.proofs.Memories.{no_tracks}
use Rattle.vl_lower_assign.proofs.Behind.{cell_there}
use Rattle.vl_lower_stmt.specs.First.{IsZeroFrame}
use Rattle.vl_lower_stmt.specs.Zeros.{AreZeros, IsZero, PutsZeros}

pub zeros_on : (old new : Netlist) (ws ids : List ℕ) → AddsNodes old new → AreZeros old ws ids → AreZeros new ws ids
zeros_on old new [] [] adds h = tt
zeros_on old new [] (id ∷ ids) adds h = absurd h
zeros_on old new (w ∷ ws) [] adds h = absurd h
zeros_on old new (w ∷ ws) (id ∷ ids) adds h = (
  (node_on old new w id adds h.0.0, λ g. value_on old new g id adds h.0.0.0 ∙ h.0.1 g),
  zeros_on old new ws ids adds h.1,
)

zeros_append : (net : Netlist) (ws vs ids js : List ℕ) → AreZeros net ws ids → AreZeros net vs js
    → AreZeros net (ws ++ vs) (ids ++ js)
zeros_append net [] vs [] js h k = k
zeros_append net [] vs (id ∷ ids) js h k = absurd h
zeros_append net (w ∷ ws) vs [] js h k = absurd h
zeros_append net (w ∷ ws) vs (id ∷ ids) js h k = (h.0, zeros_append net ws vs ids js h.1 k)

zeros_copied : (net : Netlist) (w id : ℕ) (ns : List (List ℕ)) → IsZero net w id
    → AreZeros net (map (λ n. w) ns) (replicate (length ns) id)
zeros_copied net w id [] h = tt
zeros_copied net w id (n ∷ ns) h = (h, zeros_copied net w id ns h)

widths_more : (ds : List Decl) (d : Decl)
    → cell_widths (ds ++ d ∷ []) ≡ cell_widths ds ++ map (λ n. d.width) (cells d)
widths_more [] d = append-nil (map (λ n. d.width) (cells d))
widths_more (e ∷ ds) d =
    ap (λ ws. map (λ n. e.width) (cells e) ++ ws) (widths_more ds d)
    ∙ sym (append_assoc (map (λ n. e.width) (cells e)) (cell_widths ds) (map (λ n. d.width) (cells d)))

pub name_more : (old new : Netlist) (ds more : List Decl) (d : Decl) (before after : List ℕ)
    → AreZeros old (cell_widths ds) before → PutsZeros old new d before after → more ≡ ds ++ d ∷ []
    → AreZeros new (cell_widths more) after
name_more old new ds more d before after were puts e =
    let widths : cell_widths more ≡ cell_widths ds ++ map (λ n. d.width) (cells d) =
    ap cell_widths e ∙ widths_more ds d in
    let all : AreZeros new (cell_widths ds ++ map (λ n. d.width) (cells d))
    (before ++ replicate (length (cells d)) puts.id) =
    zeros_append new (cell_widths ds) (map (λ n. d.width) (cells d)) before (replicate (length (cells d)) puts.id)
    (zeros_on old new (cell_widths ds) before puts.adds were) (zeros_copied new d.width puts.id (cells d) puts.zero) in
    subst (λ ws. AreZeros new ws after) (sym widths)
    (subst (AreZeros new (cell_widths ds ++ map (λ n. d.width) (cells d))) (sym puts.behind) all)

-- ---- what they stand for

zeros_length : (net : Netlist) (ws ids : List ℕ) → AreZeros net ws ids → length ids ≡ length ws
zeros_length net [] [] h = refl
zeros_length net [] (id ∷ ids) h = absurd h
zeros_length net (w ∷ ws) [] h = absurd h
zeros_length net (w ∷ ws) (id ∷ ids) h = ap suc (zeros_length net ws ids h.1)

zero_at : (net : Netlist) (ws ids : List ℕ) → AreZeros net ws ids → (i : ℕ) → i < length ids
    → IsZero net (slice_index ws i) (slice_index ids i)
zero_at net [] [] h i less = absurd (omega (arith, less))
zero_at net [] (id ∷ ids) h i less = absurd h
zero_at net (w ∷ ws) [] h i less = absurd h
zero_at net (w ∷ ws) (id ∷ ids) h zero less = h.0
zero_at net (w ∷ ws) (id ∷ ids) h (suc i) less =
    let before : i < length ids = omega (arith, less) in zero_at net ws ids h.1 i before

module _ (net : Netlist) (ds : List Decl) where
  zero_cells : (ids : List ℕ) → AreZeros net (cell_widths ds) ids → AreCellsOf net ds ids
  zero_cells ids h = record {
    each = zeros_length net (cell_widths ds) ids h;
    node = λ i less. (zero_at net (cell_widths ds) ids h i less).0;
  }

  zeros_stand : (g : Given) (ids : List ℕ) → AreZeros net (cell_widths ds) ids → Stand net g ds ids no_values
  zeros_stand g ids h i n e =
      let less = cell_there net ds ids i n (zero_cells ids h) e in
      sym ((zero_at net (cell_widths ds) ids h i less).1 g)

  pub zero_frame : (f : Cells) → IsZeroFrame net ds f → IsFrame net ds f
  zero_frame f h = record {
    now = zero_cells f.now h.now;
    next = zero_cells f.next h.next;
    assumed = subst (AreNodes net) (sym h.assumed) tt;
    tracks = subst (AreTracks net f.next) (sym h.tracks) (no_tracks net f.next);
  }

  pub stands_for_zeros : (g : Given) (f : Cells) → IsZeroFrame net ds f
      → StandsFor net g ds f (begun no_values) no_values
  stands_for_zeros g f h = record {
    now = zeros_stand g f.now h.now;
    next = zeros_stand g f.next h.next;
    assumed = (λ t. subst (Each (λ id. 0 < value_at net g id)) (sym h.assumed) tt, λ t. tt);
  }
