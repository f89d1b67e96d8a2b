-- One step behind another.
use Rattle.std.specs.Prelude.{◌≡◌, refl, ℕ, ◌+◌, ◌<◌, List, [], ◌∷◌, map, slice_get, slice_index, length, Some}
use Rattle.std.proofs.Common.{sym, ◌∙◌, arith, subst, length-append}
use Rattle.std.proofs.lemmas.List.{length-map}
use Rattle.std.proofs.lemmas.Option.{slice_get_within}
use Rattle.vl_size.specs.declared.decl.Decl.{Decl}
use Rattle.vl_size.specs.Size.{Values}
use Rattle.vl_mean.specs.Cells.{cells as names_of}
use Rattle.vl_mean.specs.Execution.{State}
use Rattle.vl_mean.specs.Runs.{Each}
use Rattle.wn_net.specs.Value.{Given}
use Rattle.wn_net.specs.Net.{Netlist, AreNodes, value_at}
use Rattle.wn_net.specs.Given.{IsGiven}
use Rattle.wn_net.specs.Changes.{AddsNodes}
use Rattle.wn_net.proofs.Laws.{adds_on, adds_none, node_on, there_on, value_on, given_on}
use Rattle.vl_flow_cells.specs.Numbered.{all_cells}
use Rattle.vl_lower_assign.proofs.Memories.{tracks_on}
use Rattle.vl_lower_assign.specs.Frames.{AreCellsOf, Stand, Cells, IsFrame, StandsFor, Steps, cell_widths}

-- ---- frames stay

pub cells_on : (old new : Netlist) (ds : List Decl) (cells : List ℕ) → AddsNodes old new → AreCellsOf old ds cells
    → AreCellsOf new ds cells
cells_on old new ds cells adds h = record {
  each = h.each;
  node = λ i less. node_on old new (slice_index (cell_widths ds) i) (slice_index cells i) adds (h.node i less);
}

pub nodes_on : (old new : Netlist) (ids : List ℕ) → AddsNodes old new → AreNodes old ids → AreNodes new ids
nodes_on old new [] adds h = h
nodes_on old new (x ∷ xs) adds h = (there_on old new x adds h.0, nodes_on old new xs adds h.1)

pub frame_on : (old new : Netlist) (ds : List Decl) (f : Cells) → AddsNodes old new → IsFrame old ds f → IsFrame new ds f
frame_on old new ds f adds h = record {
  now = cells_on old new ds f.now adds h.now;
  next = cells_on old new ds f.next adds h.next;
  assumed = nodes_on old new f.assumed adds h.assumed;
  tracks = tracks_on old new f.next f.tracks adds (λ i less. (h.next.node i less).0) h.tracks;
}

pub met_on : (old new : Netlist) (g : Given) (ids : List ℕ) → AddsNodes old new → AreNodes old ids
    → Each (λ id. 0 < value_at old g id) ids → Each (λ id. 0 < value_at new g id) ids
met_on old new g [] adds own h = h
met_on old new g (x ∷ xs) adds own h =
    (subst (λ n. 0 < n) (sym (value_on old new g x adds own.0)) h.0, met_on old new g xs adds own.1 h.1)

pub met_back : (old new : Netlist) (g : Given) (ids : List ℕ) → AddsNodes old new → AreNodes old ids
    → Each (λ id. 0 < value_at new g id) ids → Each (λ id. 0 < value_at old g id) ids
met_back old new g [] adds own h = h
met_back old new g (x ∷ xs) adds own h =
    (subst (λ n. 0 < n) (value_on old new g x adds own.0) h.0, met_back old new g xs adds own.1 h.1)

widths_count : (ds : List Decl) → length (cell_widths ds) ≡ length (all_cells ds)
widths_count [] = refl
widths_count (d ∷ ds) =
    length-append (map (λ n. d.width) (names_of d)) (cell_widths ds)
    ∙ (λ i. length-map (names_of d) (λ (n : List ℕ). d.width) i + widths_count ds i)
    ∙ sym (length-append (names_of d) (all_cells ds))

-- a cell of a name is there
pub cell_there : (net : Netlist) (ds : List Decl) (cells : List ℕ) (i : ℕ) (n : List ℕ) → AreCellsOf net ds cells
    → slice_get (all_cells ds) i ≡ Some n → i < length cells
cell_there net ds cells i n own e = omega (arith, slice_get_within (all_cells ds) i n e, widths_count ds, own.each)

pub stand_on : (old new : Netlist) (g : Given) (ds : List Decl) (cells : List ℕ) (v : Values) → AddsNodes old new
    → AreCellsOf old ds cells → Stand old g ds cells v → Stand new g ds cells v
stand_on old new g ds cells v adds own h = λ i n e.
    h i n e ∙ sym (value_on old new g (slice_index cells i) adds (own.node i (cell_there old ds cells i n own e)).0)

pub stands_on : (old new : Netlist) (g : Given) (ds : List Decl) (f : Cells) (t : State) (w : Values)
    → AddsNodes old new → IsFrame old ds f → StandsFor old g ds f t w → StandsFor new g ds f t w
stands_on old new g ds f t w adds own h = record {
  now = stand_on old new g ds f.now t.now adds own.now h.now;
  next = stand_on old new g ds f.next w adds own.next h.next;
  assumed = (
    λ x. met_on old new g f.assumed adds own.assumed (h.assumed.0 x),
    λ x. h.assumed.1 (met_back old new g f.assumed adds own.assumed x),
  );
}

-- ---- steps

module _ (ds : List Decl) where
  pub steps_none : (net : Netlist) (f : Cells) → IsFrame net ds f → Steps net net ds f f (λ g t. t) (λ g t w. w)
  steps_none net f own = record { adds = adds_none net; frame = own; back = refl; comes = λ g t w given h. h }

  pub steps_then : (a b c : Netlist) (f h k : Cells) (d e : Given → State → State)
      (m n : Given → State → Values → Values) → Steps a b ds f h d m → Steps b c ds h k e n
      → Steps a c ds f k (λ g t. e g (d g t)) (λ g t w. n g (d g t) (m g t w))
  steps_then a b c f h k d e m n one two = record {
    adds = adds_on a b c one.adds two.adds;
    frame = two.frame;
    back = two.back ∙ one.back;
    comes = λ g t w given has.
        two.comes g (d g t) (m g t w) (given_on a b g one.adds given) (one.comes g t w given has);
  }

  -- another meaning that comes to the same where the frame stands for the state
  pub steps_as : (a b : Netlist) (f h : Cells) (d e : Given → State → State) (m n : Given → State → Values → Values)
      → Steps a b ds f h d m
      → ((g : Given) (t : State) (w : Values) → IsGiven a g → StandsFor a g ds f t w → d g t ≡ e g t)
      → ((g : Given) (t : State) (w : Values) → IsGiven a g → StandsFor a g ds f t w → m g t w ≡ n g t w)
      → Steps a b ds f h e n
  steps_as a b f h d e m n one p q = record {
    adds = one.adds;
    frame = one.frame;
    back = one.back;
    comes = λ g t w given has.
        let P : State → Type 0 = λ u. StandsFor b g ds h u (m g t w) in
        let Q : Values → Type 0 = λ u. StandsFor b g ds h (e g t) u in
        subst Q (q g t w given has) (subst P (p g t w given has) (one.comes g t w given has));
  }

  -- nodes alone, and then a step
  pub steps_behind : (a b c : Netlist) (f h : Cells) (d : Given → State → State)
      (m : Given → State → Values → Values) → AddsNodes a b → IsFrame a ds f → Steps b c ds f h d m
      → Steps a c ds f h d m
  steps_behind a b c f h d m adds own one = record {
    adds = adds_on a b c adds one.adds;
    frame = one.frame;
    back = one.back;
    comes = λ g t w given has.
        one.comes g t w (given_on a b g adds given) (stands_on a b g ds f t w adds own has);
  }

  -- a step, and then nodes alone
  pub steps_before : (a b c : Netlist) (f h : Cells) (d : Given → State → State)
      (m : Given → State → Values → Values) → Steps a b ds f h d m → AddsNodes b c → Steps a c ds f h d m
  steps_before a b c f h d m one adds = record {
    adds = adds_on a b c one.adds adds;
    frame = frame_on b c ds h adds one.frame;
    back = one.back;
    comes = λ g t w given has.
        stands_on b c g ds h (d g t) (m g t w) adds one.frame (one.comes g t w given has);
  }
