-- The widths and the values of all nodes behind those in front.
use Rattle.std.specs.Prelude.{◌≡◌, refl, ℕ, zero, suc, ◌+◌, ◌≤◌, List, [], ◌∷◌, ◌++◌, length, map, take}
use Rattle.std.specs.Prelude.{Some, slice_get, slice_index}
use Rattle.std.specs.List.{AllByRecursion}
use Rattle.std.proofs.Common.{ap, sym, ◌∙◌, arith, subst}
use Rattle.std.proofs.lemmas.List.{append-nil, append_assoc}
use Rattle.wn_net.specs.declared.node.Node.{Node}
use Rattle.wn_net.specs.declared.parts.Input.{Input}
use Rattle.wn_net.specs.declared.parts.Reg.{Reg}
use Rattle.wn_net.specs.Width.{Shape, width, widths, AreFitting, IsFitting, IsWidth}
use Rattle.wn_net.specs.Value.{Given, value, values}
use Rattle.wn_net.specs.Net.{Netlist, IsNet, IsRegOf, shape_of, widths_of, values_of}
use Rattle.wn_net.proofs.Sweep.{widths-append, values-append}
use Rattle.bm_induct.specs.declared.how.Rebuild.{Rebuild}
use Rattle.bm_induct.specs.Rebuilt.{seen}
use Rattle.bm_induct.specs.Stages.{moved}
use Rattle.bm_induct.proofs.Leads.{lead_nodes, lead_widths, lead_values, widths_lead, values_lead}
use Rattle.bm_induct.proofs.Leads.{long_widths, long_values, first_row, second_row}
use Rattle.bm_induct.proofs.Higher.{AreLeads, AreValues, AreSmall, width_moved, value_moved}

pub leads : (how : Rebuild) (net : Netlist) → AreLeads how net (lead_widths net)
leads how net = record {
  long = long_widths net;
  inputs = λ i below.
      first_row (slice_index (shape_of net).inputs) (slice_index (shape_of net).regs) (length net.inputs)
      (length net.regs) i below;
  regs = λ i below.
      second_row (slice_index (shape_of net).inputs) (slice_index (shape_of net).regs) (length net.inputs)
      (length net.regs) i below;
}

pub lead_is : (how : Rebuild) (net : Netlist) (g : Given) → AreValues how net g (lead_values net g)
lead_is how net g = record {
  long = long_values net g;
  inputs = λ i below.
      first_row (slice_index g.inputs) (slice_index g.state.regs) (length net.inputs) (length net.regs) i below;
  regs = λ i below.
      second_row (slice_index g.inputs) (slice_index g.state.regs) (length net.inputs) (length net.regs) i below;
}

-- ---- widths of at most 128 bits

small_inputs : (xs : List Input) (i : ℕ) → AllByRecursion (λ i. IsWidth i.width) xs
    → slice_index (map (λ x. x.width) xs) i ≤ 128
small_inputs [] zero own = omega arith
small_inputs [] (suc i) own = omega arith
small_inputs (x ∷ xs) zero own = own.0.1
small_inputs (x ∷ xs) (suc i) own = small_inputs xs i own.1

small_regs : (net : Netlist) (xs : List Reg) (i : ℕ) → AllByRecursion (IsRegOf net) xs
    → slice_index (map (λ x. x.width) xs) i ≤ 128
small_regs net [] zero own = omega arith
small_regs net [] (suc i) own = omega arith
small_regs net (x ∷ xs) zero own = own.0.width.1
small_regs net (x ∷ xs) (suc i) own = small_regs net xs i own.1

pub small : (how : Rebuild) (net : Netlist) → IsNet net → AreSmall how net
small how net whole = record {
  inputs = λ i. small_inputs net.inputs i whole.inputs;
  regs = λ i. small_regs net net.regs i whole.regs;
}

-- ---- all nodes

widths_behind : (how : Rebuild) (net : Netlist) (lw ws : List ℕ) (xs : List Node) → AreLeads how net lw
    → AreFitting (shape_of net) ws xs
    → widths (shape_of net) (lw ++ ws) (map (moved how net) xs) ≡ lw ++ widths (shape_of net) ws xs
widths_behind how net lw ws [] lead fits = refl
widths_behind how net lw ws (x ∷ xs) lead fits =
    let s = shape_of net in
    ap (λ w. widths s (lw ++ ws ++ w ∷ []) (map (moved how net) xs)) (width_moved how net lw ws x lead fits.0)
    ∙ ap (λ us. widths s us (map (moved how net) xs)) (append_assoc lw ws (width s ws x ∷ []))
    ∙ widths_behind how net lw (ws ++ width s ws x ∷ []) xs lead fits.1

values_behind : (how : Rebuild) (net : Netlist) (g : Given) (lw ws lv vs : List ℕ) (xs : List Node)
    → AreLeads how net lw → AreValues how net g lv → AreFitting (shape_of net) ws xs
    → values (shape_of net) g (lw ++ ws) (lv ++ vs) (map (moved how net) xs)
    ≡ lv ++ values (shape_of net) (seen how net g) ws vs xs
values_behind how net g lw ws lv vs [] lead own fits = refl
values_behind how net g lw ws lv vs (x ∷ xs) lead own fits =
    let s = shape_of net in
    let h = seen how net g in
    ap (λ w. values s g (lw ++ ws ++ w ∷ [])
    (lv ++ vs ++ value g (lw ++ ws) (lv ++ vs) (moved how net x) ∷ []) (map (moved how net) xs))
    (width_moved how net lw ws x lead fits.0)
    ∙ ap (λ us. values s g us
    (lv ++ vs ++ value g (lw ++ ws) (lv ++ vs) (moved how net x) ∷ []) (map (moved how net) xs))
    (append_assoc lw ws (width s ws x ∷ []))
    ∙ ap (λ v. values s g (lw ++ (ws ++ width s ws x ∷ [])) (lv ++ vs ++ v ∷ []) (map (moved how net) xs))
    (value_moved how net g lw ws lv vs x lead own fits.0)
    ∙ ap (λ us. values s g (lw ++ (ws ++ width s ws x ∷ [])) us (map (moved how net) xs))
    (append_assoc lv vs (value h ws vs x ∷ []))
    ∙ values_behind how net g lw (ws ++ width s ws x ∷ []) lv (vs ++ value h ws vs x ∷ []) xs lead own fits.1

-- those of a net of this shape whose nodes are the ones in front, and behind them some that were moved
pub all_widths : (how : Rebuild) (net made : Netlist) (xs : List Node) → shape_of made ≡ shape_of net
    → made.nodes ≡ lead_nodes net ++ map (moved how net) xs → AreFitting (shape_of net) [] xs
    → widths_of made ≡ lead_widths net ++ widths (shape_of net) [] xs
all_widths how net made xs shape nodes fits =
    let s = shape_of net in
    (λ j. widths (shape j) [] (nodes j))
    ∙ widths-append s [] (lead_nodes net) (map (moved how net) xs)
    ∙ ap (λ us. widths s us (map (moved how net) xs)) (widths_lead net ∙ sym (append-nil (lead_widths net)))
    ∙ widths_behind how net (lead_widths net) [] xs (leads how net) fits

pub all_values : (how : Rebuild) (net made : Netlist) (g : Given) (xs : List Node) → shape_of made ≡ shape_of net
    → made.nodes ≡ lead_nodes net ++ map (moved how net) xs → AreFitting (shape_of net) [] xs
    → values_of made g ≡ lead_values net g ++ values (shape_of net) (seen how net g) [] [] xs
all_values how net made g xs shape nodes fits =
    let s = shape_of net in
    (λ j. values (shape j) g [] [] (nodes j))
    ∙ values-append s g [] [] (lead_nodes net) (map (moved how net) xs)
    ∙ ap (λ us. values s g us (values s g [] [] (lead_nodes net)) (map (moved how net) xs))
    (widths_lead net ∙ sym (append-nil (lead_widths net)))
    ∙ ap (λ us. values s g (lead_widths net ++ []) us (map (moved how net) xs))
    (values_lead net g ∙ sym (append-nil (lead_values net g)))
    ∙ values_behind how net g (lead_widths net) [] (lead_values net g) [] xs (leads how net) (lead_is how net g) fits

-- ---- a node behind the first ones

pub fits_at : (s : Shape) (ws : List ℕ) (xs : List Node) (i : ℕ) (x : Node) → AreFitting s ws xs
    → slice_get xs i ≡ Some x → IsFitting s (widths s ws (take i xs)) x
fits_at s ws [] i x fits e = cc
fits_at s ws (y ∷ ys) zero x fits e = let p : y ≡ x = cc in subst (λ (z : Node). IsFitting s ws z) p fits.0
fits_at s ws (y ∷ ys) (suc i) x fits e = fits_at s (ws ++ width s ws y ∷ []) ys i x fits.1 e

pub fitting_taken : (s : Shape) (ws : List ℕ) (xs : List Node) (i : ℕ) → AreFitting s ws xs
    → AreFitting s ws (take i xs)
fitting_taken s ws xs zero fits = tt
fitting_taken s ws [] (suc i) fits = tt
fitting_taken s ws (y ∷ ys) (suc i) fits = (fits.0, fitting_taken s (ws ++ width s ws y ∷ []) ys i fits.1)
