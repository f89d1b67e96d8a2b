-- Nodes of bits, one after the other.
use Rattle.std.specs.Prelude.{◌≡◌, refl, ℕ, zero, suc, ◌+◌, ◌<◌, List, [], ◌∷◌, ◌++◌}
use Rattle.std.specs.Prelude.{Some, length, take, slice_get, slice_index}
use Rattle.std.proofs.Common.{ap, ◌∙◌, arith}
use Rattle.std.proofs.lemmas.List.{take_more}
use Rattle.std.proofs.lemmas.Option.{get_or_from_slice_get, slice_get_within}
use Rattle.vl_lower_spec.specs.Maps.{gathered}
use Rattle.wn_net.specs.declared.names.Spot.{Spot}
use Rattle.wn_net.specs.Value.{Given}
use Rattle.wn_net.specs.Changes.{AddsNodes, Shows}
use Rattle.wn_net.specs.Net.{Netlist, value_at}
use Rattle.wn_net.proofs.Laws.{node_on, value_on, given_on}
use Rattle.vl_lower_state.specs.Nexts.{AreBitsOfCell, AreBitsOfCells, ShowBits}

pub shows_on : (old mid new : Netlist) (bits : ℕ) (m : Given → ℕ) (id : ℕ) → AddsNodes mid new
    → Shows old mid bits m id → Shows old new bits m id
shows_on old mid new bits m id adds h = record {
  node = node_on mid new bits id adds h.node;
  value = λ g given. value_on mid new g id adds h.node.0 ∙ h.value g given;
}

pub take_get : {A : Type 0} (xs : List A) (at : ℕ) (x : A) → slice_get xs at ≡ Some x
    → take (at + 1) xs ≡ take at xs ++ x ∷ []
take_get xs at x e =
    take_more xs at x (slice_get_within xs at x e)
    ∙ ap (λ y. take at xs ++ y ∷ []) (get_or_from_slice_get xs at x x e)

-- ---- the spot and the cell at a place

pub record HasBits (net : Netlist) (cells : List ℕ) (ss : List Spot) (cs : List ℕ) (at : ℕ) : Type 0 where
  pub spot : Spot
  pub cell : ℕ
  pub of_spot : slice_get ss at ≡ Some spot
  pub of_cell : slice_get cs at ≡ Some cell
  pub bits : AreBitsOfCell net cells spot cell

pub bits_at : (net : Netlist) (cells : List ℕ) (ss : List Spot) (cs : List ℕ) → AreBitsOfCells net cells ss cs
    → (at : ℕ) → at < length ss → HasBits net cells ss cs at
bits_at net cells [] [] h at less = absurd (omega (arith, less))
bits_at net cells [] (c ∷ cs) h at less = absurd h
bits_at net cells (s ∷ ss) [] h at less = absurd h
bits_at net cells (s ∷ ss) (c ∷ cs) h zero less =
    record { spot = s; cell = c; of_spot = refl; of_cell = refl; bits = h.0 }
bits_at net cells (s ∷ ss) (c ∷ cs) h (suc at) less =
    let r = bits_at net cells ss cs h.1 at (omega (arith, less)) in
    record { spot = r.spot; cell = r.cell; of_spot = r.of_spot; of_cell = r.of_cell; bits = r.bits }

-- ---- one node more

pub show_on : (old mid new : Netlist) (cells : List ℕ) (ss : List Spot) (cs ns : List ℕ) → AddsNodes mid new
    → ShowBits old mid cells ss cs ns → ShowBits old new cells ss cs ns
show_on old mid new cells [] [] [] adds h = tt
show_on old mid new cells [] [] (n ∷ ns) adds h = absurd h
show_on old mid new cells [] (c ∷ cs) ns adds h = absurd h
show_on old mid new cells (s ∷ ss) [] ns adds h = absurd h
show_on old mid new cells (s ∷ ss) (c ∷ cs) [] adds h = absurd h
show_on old mid new cells (s ∷ ss) (c ∷ cs) (n ∷ ns) adds h = (
  shows_on old mid new (length s.bits) (λ g. gathered (value_at old g (slice_index cells c)) s.bits) n adds h.0,
  show_on old mid new cells ss cs ns adds h.1,
)

pub show_more : (old new : Netlist) (cells : List ℕ) (ss : List Spot) (cs ns : List ℕ) (s : Spot) (c n : ℕ)
    → ShowBits old new cells ss cs ns
    → Shows old new (length s.bits) (λ g. gathered (value_at old g (slice_index cells c)) s.bits) n
    → ShowBits old new cells (ss ++ s ∷ []) (cs ++ c ∷ []) (ns ++ n ∷ [])
show_more old new cells [] [] [] s c n h more = (more, tt)
show_more old new cells [] [] (m ∷ ns) s c n h more = absurd h
show_more old new cells [] (d ∷ cs) ns s c n h more = absurd h
show_more old new cells (t ∷ ss) [] ns s c n h more = absurd h
show_more old new cells (t ∷ ss) (d ∷ cs) [] s c n h more = absurd h
show_more old new cells (t ∷ ss) (d ∷ cs) (m ∷ ns) s c n h more =
    (h.0, show_more old new cells ss cs ns s c n h.1 more)

-- from a net between them
pub seen_before : (old mid new : Netlist) (cells : List ℕ) (s : Spot) (c n : ℕ) → AddsNodes old mid
    → AreBitsOfCell old cells s c
    → Shows mid new (length s.bits) (λ g. gathered (value_at mid g (slice_index cells c)) s.bits) n
    → Shows old new (length s.bits) (λ g. gathered (value_at old g (slice_index cells c)) s.bits) n
seen_before old mid new cells s c n adds is h = record {
  node = h.node;
  value = λ g given.
      h.value g (given_on old mid g adds given)
      ∙ ap (λ x. gathered x s.bits) (value_on old mid g (slice_index cells c) adds is.node);
}

pub as_many : (net : Netlist) (cells : List ℕ) (ss : List Spot) (cs : List ℕ) → AreBitsOfCells net cells ss cs
    → length cs ≡ length ss
as_many net cells [] [] h = refl
as_many net cells [] (c ∷ cs) h = absurd h
as_many net cells (s ∷ ss) [] h = absurd h
as_many net cells (s ∷ ss) (c ∷ cs) h = ap suc (as_many net cells ss cs h.1)
