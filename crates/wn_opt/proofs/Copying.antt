-- The needed nodes, one after the other, with new numbers.
use Rattle.std.specs.Prelude.{◌≡◌, refl, ℕ, zero, suc, ◌+◌, ◌<◌, ◌≤◌, Bool, true, false, List, [], ◌∷◌, ◌++◌}
use Rattle.std.specs.Prelude.{length, Some, None, Option, is_none, is_some, slice_get, slice_set, slice_index}
use Rattle.std.specs.Prelude.{slice_index_or}
use Rattle.std.proofs.Common.{ap, sym, ◌∙◌, arith, subst, true≢false, ◌⊎◌, inl, inr}
use Rattle.std.proofs.lemmas.List.{length-map}
use Rattle.std.proofs.lemmas.Option.{same_Some, slice_get-get_or}
use Rattle.fv_graph.proofs.Lists.{get_less, get_some, get_front, get_last, get_cases, get_set, get_unset, length_more}
use Rattle.fv_graph.proofs.Moves.{same_or_not}
use Rattle.wn_net.specs.declared.node.Node.{Node}
use Rattle.wn_net.specs.declared.node.Node.TheVariants as n
use Rattle.wn_net.specs.declared.parts.Input.{Input}
use Rattle.wn_net.specs.declared.parts.Reg.{Reg}
use Rattle.wn_net.specs.Width.{Shape, width, IsFitting}
use Rattle.wn_net.specs.Net.{Netlist, IsNet, IsNodeOf, shape_of, widths_of, width_at}
use Rattle.wn_net.specs.Changes.{with_node, width_in}
use Rattle.wn_net.proofs.Stays.{length-widths_of, with_node_has_more, with_node_builds}
use Rattle.wn_run.proofs.Own.{each_width}
use Rattle.wn_opt.specs.Needed.{IsIn, operands}
use Rattle.wn_opt.specs.Cone.{IsPlace, HasPlace, KeepsPlaces, or_zero, place, renamed}
use Rattle.wn_opt.specs.Marks.{IsSet, AreClosed}
use Rattle.wn_opt.specs.Parts.{HasParts, IsFront, AddsBehind, AreCopied, AreCopiedTo, ArePlaced, HasNoPlaces}
use Rattle.wn_opt.specs.Rebuilt.{AreWide}
use Rattle.wn_opt.specs.Table.{IsOperator}
use Rattle.wn_opt.proofs.Begun.{index_map}
use Rattle.wn_opt.proofs.Before.{before, fits_in, operands_before, width_before}

-- ---- the table with one more place

place_front : (t : List (Option ℕ)) (o : Option ℕ) (a : ℕ) → a < length t → place (t ++ o ∷ []) a ≡ place t a
place_front t o a less =
    let x = get_some t a less in
    ap or_zero (get_front t o a x.0 x.1) ∙ sym (ap or_zero x.1)

pub place_is : (t : List (Option ℕ)) (id at : ℕ) → IsPlace t id at → place t id ≡ at
place_is t id at p = ap or_zero p

renamed_same : (t u : List (Option ℕ)) (x : Node) → ((a : ℕ) → IsIn (operands x) a → place u a ≡ place t a)
    → renamed u x ≡ renamed t x
renamed_same t u (n.Konst word) same = refl
renamed_same t u (n.Input i) same = refl
renamed_same t u (n.Reg i) same = refl
renamed_same t u (n.Read m a) same = λ i. n.Read m (same a (0, refl) i)
renamed_same t u (n.Not a) same = λ i. n.Not (same a (0, refl) i)
renamed_same t u (n.And a b) same = λ i. n.And (same a (0, refl) i) (same b (1, refl) i)
renamed_same t u (n.Or a b) same = λ i. n.Or (same a (0, refl) i) (same b (1, refl) i)
renamed_same t u (n.Xor a b) same = λ i. n.Xor (same a (0, refl) i) (same b (1, refl) i)
renamed_same t u (n.Add a b) same = λ i. n.Add (same a (0, refl) i) (same b (1, refl) i)
renamed_same t u (n.Sub a b) same = λ i. n.Sub (same a (0, refl) i) (same b (1, refl) i)
renamed_same t u (n.Mul a b) same = λ i. n.Mul (same a (0, refl) i) (same b (1, refl) i)
renamed_same t u (n.Eq a b) same = λ i. n.Eq (same a (0, refl) i) (same b (1, refl) i)
renamed_same t u (n.Ult a b) same = λ i. n.Ult (same a (0, refl) i) (same b (1, refl) i)
renamed_same t u (n.Slt a b) same = λ i. n.Slt (same a (0, refl) i) (same b (1, refl) i)
renamed_same t u (n.Shl a b) same = λ i. n.Shl (same a (0, refl) i) (same b (1, refl) i)
renamed_same t u (n.Lshr a b) same = λ i. n.Lshr (same a (0, refl) i) (same b (1, refl) i)
renamed_same t u (n.Ashr a b) same = λ i. n.Ashr (same a (0, refl) i) (same b (1, refl) i)
renamed_same t u (n.Concat a b) same = λ i. n.Concat (same a (0, refl) i) (same b (1, refl) i)
renamed_same t u (n.Mux c a b) same =
    λ i. n.Mux (same c (0, refl) i) (same a (1, refl) i) (same b (2, refl) i)
renamed_same t u (n.Slice a at w) same = λ i. n.Slice (same a (0, refl) i) at w
renamed_same t u (n.Zext a w) same = λ i. n.Zext (same a (0, refl) i) w
renamed_same t u (n.Sext a w) same = λ i. n.Sext (same a (0, refl) i) w

-- a node of the net names the same with one more place behind those that it reads
pub renamed_on : (net : Netlist) (t : List (Option ℕ)) (o : Option ℕ) (id : ℕ) (x : Node) → IsNet net
    → slice_get net.nodes id ≡ Some x → id ≤ length t → renamed (t ++ o ∷ []) x ≡ renamed t x
renamed_on net t o id x whole e long =
    renamed_same t (t ++ o ∷ []) x (λ a i.
    let low = operands_before net id x whole e a i in
    let less : a < length t = omega (arith, low, long) in
    place_front t o a less)

-- and so where what it reads has its place still
pub renamed_kept : (t u : List (Option ℕ)) (x : Node) → KeepsPlaces t u → ArePlaced t (operands x)
    → renamed u x ≡ renamed t x
renamed_kept t u x kept placed =
    renamed_same t u x (λ a i.
    let p = placed a i in place_is u a p.0 (kept a p.0 p.1) ∙ sym (place_is t a p.0 p.1))

-- ---- a node without a place gets one

module _ (t : List (Option ℕ)) (id at : ℕ) (free : slice_get t id ≡ Some None) where
  abbrev more : List (Option ℕ)
  more = slice_set t id (Some at)

  pub placed_on : KeepsPlaces t more
  placed_on k b p = get_unset t id k (Some at) other ∙ p
    where
      other : k ≡ id → ⊥
      other e = true≢false (ap is_none (same_Some None (Some b) (sym free ∙ ap (slice_get t) (sym e) ∙ p)))

  pub placed_here : IsPlace more id at
  placed_here = get_set t id (Some at) (get_less t id None free)

  pub place_cases : (k b : ℕ) → IsPlace more k b → IsPlace t k b ⊎ ((k ≡ id) × (at ≡ b))
  place_cases k b p = by (same_or_not k id)
    where
      by : (k ≡ id) ⊎ (k ≡ id → ⊥) → IsPlace t k b ⊎ ((k ≡ id) × (at ≡ b))
      by (inl e) =
          let here : Some (Some at) ≡ Some (Some b) = sym placed_here ∙ ap (slice_get more) (sym e) ∙ p in
          inr (e, same_Some at b (same_Some (Some at) (Some b) here))
      by (inr other) = inl (sym (get_unset t id k (Some at) other) ∙ p)

-- ---- the steps

pub none_placed : (t u : List (Option ℕ)) → u ≡ t ++ None ∷ [] → HasNoPlaces t → HasNoPlaces u
none_placed t u e h id p =
    by (get_cases t None id (Some p.0) (ap (λ v. slice_get v id) (sym e) ∙ p.1))
  where
    by : (slice_get t id ≡ Some (Some p.0)) ⊎ ((id ≡ length t) × (None ≡ Some p.0)) → ⊥
    by (inl f) = h id (p.0, f)
    by (inr f) = true≢false (ap is_none f.1)

-- no node has a place yet
pub copied_first : (net part : Netlist) (marks : List Bool) (t : List (Option ℕ))
    → HasParts net part (length net.inputs) (length net.regs) (length net.mems) → HasNoPlaces t
    → AreCopiedTo net marks part t 0
copied_first net part marks t h none = record {
  marked = λ id p. absurd (none id p);
  placed = λ id low s. absurd (omega (arith, low));
  nodes = λ id at x p f. absurd (none id (at, p));
  widths = λ id at p. absurd (none id (at, p));
  others = λ at past low. absurd (omega (arith, past, low, h.nodes_each));
  closed = λ user at a x p f i. absurd (none user (at, p));
}

-- the next node isn't marked, or has its place already
pub copied_skip : (net part : Netlist) (marks : List Bool) (t : List (Option ℕ)) (k : ℕ)
    → AreCopiedTo net marks part t k → (IsSet marks k → HasPlace t k) → AreCopiedTo net marks part t (k + 1)
copied_skip net part marks t k h here = record {
  marked = h.marked;
  placed = λ id low s. by id low s (same_or_not id k);
  nodes = h.nodes;
  widths = h.widths;
  others = h.others;
  closed = h.closed;
}
  where
    by : (id : ℕ) → id < k + 1 → IsSet marks id → (id ≡ k) ⊎ (id ≡ k → ⊥) → HasPlace t id
    by id low s (inl e) = subst (HasPlace t) (sym e) (here (ap (slice_get marks) (sym e) ∙ s))
    by id low s (inr other) = h.placed id (omega (arith, low, other)) s

pub copied_all : (net part : Netlist) (marks : List Bool) (t : List (Option ℕ)) (k : ℕ)
    → AreCopiedTo net marks part t k → length t ≤ k → AreCopied net marks part t
copied_all net part marks t k h long = record {
  marked = h.marked;
  placed = λ id low s. h.placed id (omega (arith, low, long)) s;
  nodes = h.nodes;
  widths = h.widths;
  others = h.others;
  closed = h.closed;
}

-- The next node is marked, and stands in the new net: as an input's or a register's node that is there, or as one more
-- behind the others.
pub record IsNext (net a b : Netlist) (t : List (Option ℕ)) (id : ℕ) (x : Node) (at : ℕ) : Type 0 where
  pub node : slice_get b.nodes at ≡ Some (renamed t x)
  pub width : IsNodeOf b (width_at net id) at
  pub adds : AddsBehind a b
  pub others : (k : ℕ) → length net.inputs + length net.regs ≤ k → k < length b.nodes
      → (k < length a.nodes) ⊎ (k ≡ at)

module _ (net a b : Netlist) (marks : List Bool) (t : List (Option ℕ)) (id : ℕ) (x : Node) (at : ℕ)
    (h : AreCopiedTo net marks a t id) (on : IsSet marks id) (e : slice_get net.nodes id ≡ Some x)
    (free : slice_get t id ≡ Some None) (reads : ArePlaced t (operands x)) (is : IsNext net a b t id x at) where
  abbrev u : List (Option ℕ)
  u = slice_set t id (Some at)

  kept : KeepsPlaces t u
  kept = placed_on t id at free

  same_node : (k : ℕ) (y : Node) → k ≡ id → slice_get net.nodes k ≡ Some y → x ≡ y
  same_node k y is f = same_Some x y (sym e ∙ ap (slice_get net.nodes) (sym is) ∙ f)

  mark : (k b : ℕ) → IsPlace t k b ⊎ ((k ≡ id) × (at ≡ b)) → IsSet marks k
  mark k b (inl p) = h.marked k (b, p)
  mark k b (inr p) = ap (slice_get marks) p.0 ∙ on

  found : (k : ℕ) → k < id + 1 → IsSet marks k → (k ≡ id) ⊎ (k ≡ id → ⊥) → HasPlace u k
  found k low s (inl same) = (at, ap (slice_get u) same ∙ placed_here t id at free)
  found k low s (inr other) = let q = h.placed k (omega (arith, low, other)) s in (q.0, kept k q.0 q.1)

  node : (k j : ℕ) (y : Node) → slice_get net.nodes k ≡ Some y → IsPlace t k j ⊎ ((k ≡ id) × (at ≡ j))
      → slice_get b.nodes j ≡ Some (renamed u y)
  node k j y f (inl p) =
      is.adds.front j (renamed t y) (h.nodes k j y p f)
      ∙ ap Some (sym (renamed_kept t u y kept (λ a i. h.closed k j a y p f i)))
  node k j y f (inr p) =
      ap (slice_get b.nodes) (sym p.1) ∙ is.node ∙ ap Some (sym (renamed_kept t u x kept reads))
      ∙ ap (λ z. Some (renamed u z)) (same_node k y p.0 f)

  wide : (k j : ℕ) → IsPlace t k j ⊎ ((k ≡ id) × (at ≡ j)) → IsNodeOf b (width_at net k) j
  wide k j (inl p) = is.adds.widths (width_at net k) j (h.widths k j p)
  wide k j (inr p) =
      let P : ℕ → Type 0 = λ i. IsNodeOf b (width_at net i) j in
      subst P (sym p.0) (subst (λ i. IsNodeOf b (width_at net id) i) p.1 is.width)

  rest : (k : ℕ) → length net.inputs + length net.regs ≤ k → (k < length a.nodes) ⊎ (k ≡ at)
      → (i : ℕ) × IsPlace u i k
  rest k past (inl low) = let q = h.others k past low in (q.0, kept q.0 k q.1)
  rest k past (inr same) = (id, placed_here t id at free ∙ ap (λ j. Some (Some j)) (sym same))

  close : (k j c : ℕ) (y : Node) → slice_get net.nodes k ≡ Some y → IsIn (operands y) c
      → IsPlace t k j ⊎ ((k ≡ id) × (at ≡ j)) → HasPlace u c
  close k j c y f i (inl p) = let q = h.closed k j c y p f i in (q.0, kept c q.0 q.1)
  close k j c y f i (inr p) =
      let q = reads c (subst (λ z. IsIn (operands z) c) (sym (same_node k y p.0 f)) i) in (q.0, kept c q.0 q.1)

  pub copied_some : AreCopiedTo net marks b u (id + 1)
  copied_some = record {
    marked = λ k p. mark k p.0 (place_cases t id at free k p.0 p.1);
    placed = λ k low s. found k low s (same_or_not k id);
    nodes = λ k j y p f. node k j y f (place_cases t id at free k j p);
    widths = λ k j p. wide k j (place_cases t id at free k j p);
    others = λ k past low. rest k past (is.others k past low);
    closed = λ k j c y p f i. close k j c y f i (place_cases t id at free k j p);
  }

-- ---- the new node fits, and has its width

-- what a node reads has a place, with its width
pub record IsPlaced (part : Netlist) (t : List (Option ℕ)) (ws : List ℕ) (a : ℕ) : Type 0 where
  pub there : place t a < length (widths_of part)
  pub width : slice_index (widths_of part) (place t a) ≡ slice_index ws a

module _ (s : Shape) (ws : List ℕ) (part : Netlist) (t : List (Option ℕ)) where
  abbrev AllPlaced : Node → Type 0
  AllPlaced x = (a : ℕ) → IsIn (operands x) a → IsPlaced part t ws a

  abbrev us : List ℕ
  us = widths_of part

  two_alike : (a b : ℕ) → IsPlaced part t ws a → IsPlaced part t ws b → slice_index ws a ≡ slice_index ws b
      → slice_index us (place t a) ≡ slice_index us (place t b)
  two_alike a b p q e = p.width ∙ e ∙ sym q.width

  fits_renamed : (x : Node) → IsOperator x → s.mems ≡ (shape_of part).mems → AllPlaced x → IsFitting s ws x
      → IsFitting (shape_of part) us (renamed t x)
  fits_renamed (n.Konst word) op same p fits = tt
  fits_renamed (n.Input i) op same p fits = absurd (true≢false op)
  fits_renamed (n.Reg i) op same p fits = absurd (true≢false op)
  fits_renamed (n.Read m a) op same p fits =
      let P : List ℕ → Type 0 = λ ms. m < length ms in (subst P same fits.0, (p a (0, refl)).there)
  fits_renamed (n.Not a) op same p fits = (p a (0, refl)).there
  fits_renamed (n.And a b) op same p fits =
      ((p a (0, refl)).there, (p b (1, refl)).there, two_alike a b (p a (0, refl)) (p b (1, refl)) fits.2)
  fits_renamed (n.Or a b) op same p fits =
      ((p a (0, refl)).there, (p b (1, refl)).there, two_alike a b (p a (0, refl)) (p b (1, refl)) fits.2)
  fits_renamed (n.Xor a b) op same p fits =
      ((p a (0, refl)).there, (p b (1, refl)).there, two_alike a b (p a (0, refl)) (p b (1, refl)) fits.2)
  fits_renamed (n.Add a b) op same p fits =
      ((p a (0, refl)).there, (p b (1, refl)).there, two_alike a b (p a (0, refl)) (p b (1, refl)) fits.2)
  fits_renamed (n.Sub a b) op same p fits =
      ((p a (0, refl)).there, (p b (1, refl)).there, two_alike a b (p a (0, refl)) (p b (1, refl)) fits.2)
  fits_renamed (n.Mul a b) op same p fits =
      ((p a (0, refl)).there, (p b (1, refl)).there, two_alike a b (p a (0, refl)) (p b (1, refl)) fits.2)
  fits_renamed (n.Eq a b) op same p fits =
      ((p a (0, refl)).there, (p b (1, refl)).there, two_alike a b (p a (0, refl)) (p b (1, refl)) fits.2)
  fits_renamed (n.Ult a b) op same p fits =
      ((p a (0, refl)).there, (p b (1, refl)).there, two_alike a b (p a (0, refl)) (p b (1, refl)) fits.2)
  fits_renamed (n.Slt a b) op same p fits =
      ((p a (0, refl)).there, (p b (1, refl)).there, two_alike a b (p a (0, refl)) (p b (1, refl)) fits.2)
  fits_renamed (n.Shl a b) op same p fits = ((p a (0, refl)).there, (p b (1, refl)).there)
  fits_renamed (n.Lshr a b) op same p fits = ((p a (0, refl)).there, (p b (1, refl)).there)
  fits_renamed (n.Ashr a b) op same p fits = ((p a (0, refl)).there, (p b (1, refl)).there)
  fits_renamed (n.Concat a b) op same p fits =
      let q = p a (0, refl) in
      let r = p b (1, refl) in
      (q.there, r.there, omega (arith, q.width, r.width, fits.2))
  fits_renamed (n.Mux c a b) op same p fits = (
    (p c (0, refl)).there,
    (p c (0, refl)).width ∙ fits.1,
    ((p a (1, refl)).there, (p b (2, refl)).there, two_alike a b (p a (1, refl)) (p b (2, refl)) fits.2.2),
  )
  fits_renamed (n.Slice a at w) op same p fits =
      let q = p a (0, refl) in (q.there, fits.1, omega (arith, q.width, fits.2))
  fits_renamed (n.Zext a w) op same p fits =
      let q = p a (0, refl) in (q.there, omega (arith, q.width, fits.1), fits.2)
  fits_renamed (n.Sext a w) op same p fits =
      let q = p a (0, refl) in (q.there, omega (arith, q.width, fits.1), fits.2)

  width_renamed : (x : Node) → IsOperator x → s.mems ≡ (shape_of part).mems → AllPlaced x
      → width (shape_of part) us (renamed t x) ≡ width s ws x
  width_renamed (n.Konst word) op same p = refl
  width_renamed (n.Input i) op same p = absurd (true≢false op)
  width_renamed (n.Reg i) op same p = absurd (true≢false op)
  width_renamed (n.Read m a) op same p = ap (λ ms. slice_index ms m) (sym same)
  width_renamed (n.Not a) op same p = (p a (0, refl)).width
  width_renamed (n.And a b) op same p = (p a (0, refl)).width
  width_renamed (n.Or a b) op same p = (p a (0, refl)).width
  width_renamed (n.Xor a b) op same p = (p a (0, refl)).width
  width_renamed (n.Add a b) op same p = (p a (0, refl)).width
  width_renamed (n.Sub a b) op same p = (p a (0, refl)).width
  width_renamed (n.Mul a b) op same p = (p a (0, refl)).width
  width_renamed (n.Eq a b) op same p = refl
  width_renamed (n.Ult a b) op same p = refl
  width_renamed (n.Slt a b) op same p = refl
  width_renamed (n.Shl a b) op same p = (p a (0, refl)).width
  width_renamed (n.Lshr a b) op same p = (p a (0, refl)).width
  width_renamed (n.Ashr a b) op same p = (p a (0, refl)).width
  width_renamed (n.Concat a b) op same p =
      λ i. (p a (0, refl)).width i + (p b (1, refl)).width i
  width_renamed (n.Mux c a b) op same p = (p a (1, refl)).width
  width_renamed (n.Slice a at w) op same p = refl
  width_renamed (n.Zext a w) op same p = refl
  width_renamed (n.Sext a w) op same p = refl

-- a renamed operator fits behind a part in which what it reads has its widths, and has its own
module _ (net part : Netlist) (t : List (Option ℕ)) (id : ℕ) (x : Node) (whole : IsNet net)
    (mems : (shape_of net).mems ≡ (shape_of part).mems) (wide : AreWide net part t) (placed : ArePlaced t (operands x))
    (at : slice_get net.nodes id ≡ Some x) where
  is_placed : (ws : List ℕ) → ((a : ℕ) → a < id → slice_index ws a ≡ width_at net a)
      → (a : ℕ) → IsIn (operands x) a → IsPlaced part t ws a
  unfolding width_at
  is_placed ws same a i =
      let p = placed a i in
      let own = wide a p.0 p.1 in
      let is = place_is t a p.0 p.1 in
      record {
        there = omega (arith, is, own.0, length-widths_of part);
        width =
            ap (slice_index (widths_of part)) is ∙ own.1 ∙ sym (same a (operands_before net id x whole at a i));
      }

  pub operator_fits : IsOperator x → IsFitting (shape_of part) (widths_of part) (renamed t x)
  operator_fits op =
      let less = get_less net.nodes id x at in
      let long : id ≤ length net.nodes = omega (arith, less) in
      fits_renamed (shape_of net) (before net id) part t x op mems
      (is_placed (before net id) (λ a low. width_before net id a long low))
      (fits_in net id x whole at)

  pub operator_width : IsOperator x → width_in part (renamed t x) ≡ width_at net id
  unfolding width_at
  operator_width op =
      width_renamed (shape_of net) (widths_of net) part t x op mems (is_placed (widths_of net) (λ a low. refl))
      ∙ sym (each_width net id x whole at)

pub adds_none : (a : Netlist) → AddsBehind a a
adds_none a = record {
  front = λ k y f. f;
  widths = λ w k f. f;
  inputs = refl;
  regs = refl;
  mems = refl;
  assumes = refl;
}

pub adds_on : (a b c : Netlist) → AddsBehind a b → AddsBehind b c → AddsBehind a c
adds_on a b c h k = record {
  front = λ i y f. k.front i y (h.front i y f);
  widths = λ w i f. k.widths w i (h.widths w i f);
  inputs = k.inputs ∙ h.inputs;
  regs = k.regs ∙ h.regs;
  mems = k.mems ∙ h.mems;
  assumes = k.assumes ∙ h.assumes;
}

pub adds_node : (a b : Netlist) (y : Node) → b ≡ with_node a y → AddsBehind a b
adds_node a b y e =
    let more = with_node_has_more a y in
    let Is : Netlist → Type 0 = λ m. AddsBehind a m in
    subst Is (sym e) (record {
      front = λ k z f. get_front a.nodes y k z f;
      widths = λ w k own. (omega (arith, own.0, more.longer), more.widths k own.0 ∙ own.1);
      inputs = refl;
      regs = refl;
      mems = refl;
      assumes = refl;
    })

module _ (net part : Netlist) (marks : List Bool) (t : List (Option ℕ)) (id : ℕ) (x : Node) (whole : IsNet net)
    (front : IsFront net part) (copied : AreCopiedTo net marks part t id) (placed : ArePlaced t (operands x))
    (at : slice_get net.nodes id ≡ Some x) where
  pub next_fits : IsOperator x → IsFitting (shape_of part) (widths_of part) (renamed t x)
  next_fits op = operator_fits net part t id x whole (sym front.mem_widths) copied.widths placed at op

  next_width : IsOperator x → width_in part (renamed t x) ≡ width_at net id
  next_width op = operator_width net part t id x whole (sym front.mem_widths) copied.widths placed at op

  -- an operator behind the others
  pub next_built : (b : Netlist) (new : ℕ) → IsOperator x → new ≡ length part.nodes → b ≡ with_node part (renamed t x)
      → IsNext net part b t id x new
  next_built b new op last e =
      let built = with_node_builds part (renamed t x) in
      let Is : Netlist → Type 0 = λ m. IsNext net part m t id x (length part.nodes) in
      let there : length part.nodes < length (part.nodes ++ renamed t x ∷ []) = omega
      (arith, length_more part.nodes (renamed t x)) in
      subst (λ k. IsNext net part b t id x k) (sym last) (subst Is (sym e) (record {
        node = get_last part.nodes (renamed t x);
        width = (there, built.width ∙ next_width op);
        adds = adds_node part (with_node part (renamed t x)) (renamed t x) refl;
        others = λ k past low.
            last_or_less part.nodes k (omega (arith, low, length_more part.nodes (renamed t x)));
      }))
    where
      last_or_less : (xs : List Node) (k : ℕ) → k < suc (length xs) → (k < length xs) ⊎ (k ≡ length xs)
      last_or_less [] zero l = inr refl
      last_or_less [] (suc k) l = absurd (omega (arith, l))
      last_or_less (y ∷ ys) zero l = inl (omega arith)
      last_or_less (y ∷ ys) (suc k) l = up (last_or_less ys k (omega (arith, l)))
        where
          up : (k < length ys) ⊎ (k ≡ length ys) → (suc k < suc (length ys)) ⊎ (suc k ≡ suc (length ys))
          up (inl l) = inl (omega (arith, l))
          up (inr e) = inr (ap suc e)

  -- a node that is there
  next_there : (k : ℕ) → slice_get part.nodes k ≡ Some (renamed t x) → IsNodeOf part (width_at net id) k
      → IsNext net part part t id x k
  next_there k node own = record {
    node = node;
    width = own;
    adds = adds_none part;
    others = λ j past low. inl low;
  }

  pub next_input : (i : ℕ) → x ≡ n.Input i → IsNext net part part t id x i
  next_input i e =
      let few : i < length net.inputs = omega (
        arith,
        fits_in net id (n.Input i) whole (at ∙ ap Some e),
        length-map net.inputs (λ (y : Input). y.width),
      ) in
      let y = get_some net.inputs i few in
      let wide : width_at net id ≡ y.0.width =
      each_width net id (n.Input i) whole (at ∙ ap Some e)
      ∙ index_map (λ (z : Input). z.width) net.inputs i y.0 y.1 in
      next_there i (front.input_nodes i few ∙ ap (λ z. Some (renamed t z)) (sym e))
      (subst (λ w. IsNodeOf part w i) (sym wide) (front.input_widths i y.0 y.1))

  pub next_reg : (i : ℕ) → x ≡ n.Reg i → IsNext net part part t id x (length net.inputs + i)
  next_reg i e =
      let few : i < length net.regs = omega (
        arith,
        fits_in net id (n.Reg i) whole (at ∙ ap Some e),
        length-map net.regs (λ (y : Reg). y.width),
      ) in
      let y = get_some net.regs i few in
      let wide : width_at net id ≡ y.0.width =
      each_width net id (n.Reg i) whole (at ∙ ap Some e)
      ∙ index_map (λ (z : Reg). z.width) net.regs i y.0 y.1 in
      next_there (length net.inputs + i) (front.reg_nodes i few ∙ ap (λ z. Some (renamed t z)) (sym e))
      (subst (λ w. IsNodeOf part w (length net.inputs + i)) (sym wide) (front.reg_widths i y.0 y.1))

-- ---- the next node

pub operands_placed : (net part : Netlist) (marks : List Bool) (t : List (Option ℕ)) (id : ℕ) (x : Node) → IsNet net
    → AreCopiedTo net marks part t id → AreClosed net marks → IsSet marks id
    → slice_get net.nodes id ≡ Some x → ArePlaced t (operands x)
operands_placed net part marks t id x whole copied closed on at a i =
    copied.placed a (operands_before net id x whole at a i) (closed id a x on at i)

-- a place that was read
none_of : {A : Type 0} (o : Option A) → is_some o ≡ false → o ≡ None
none_of None e = refl
none_of (Some x) e = absurd (true≢false e)

some_of : {A : Type 0} (o : Option A) → is_some o ≡ true → (x : A) × (o ≡ Some x)
some_of None e = absurd (true≢false (sym e))
some_of (Some x) e = (x, refl)

module _ (t : List (Option ℕ)) (k : ℕ) (o : Option ℕ) (less : k < length t) (read : o ≡ slice_index_or t k o) where
  at_place : slice_get t k ≡ Some o
  at_place = slice_get-get_or t k o less ∙ ap Some (sym read)

  pub free_place : (b : Bool) → b ≡ is_some o → b ≡ false → slice_get t k ≡ Some None
  free_place b e f = at_place ∙ ap Some (none_of o (sym e ∙ f))

  pub taken_place : (b : Bool) → b ≡ is_some o → b ≡ true → HasPlace t k
  taken_place b e f = let x = some_of o (sym e ∙ f) in (x.0, at_place ∙ ap Some x.1)

pub mark_read : (marks : List Bool) (k : ℕ) (b : Bool) → k < length marks → slice_index_or marks k false ≡ b
    → slice_get marks k ≡ Some b
mark_read marks k b less e = slice_get-get_or marks k false less ∙ ap Some e

pub not_set : (marks : List Bool) (k : ℕ) (P : Type 0) → slice_get marks k ≡ Some false → IsSet marks k → P
not_set marks k P off on = absurd (true≢false (same_Some true false (sym on ∙ off)))

-- ---- operators

pub operator_of : (x : Node) → ((i : ℕ) → x ≡ n.Input i → ⊥) → ((i : ℕ) → x ≡ n.Reg i → ⊥) → IsOperator x
operator_of (n.Input i) no_input no_reg = absurd (no_input i refl)
operator_of (n.Reg i) no_input no_reg = absurd (no_reg i refl)
operator_of x no_input no_reg = refl

pub renamed_operator : (t : List (Option ℕ)) (x : Node) → IsOperator x → IsOperator (renamed t x)
renamed_operator t (n.Input i) op = op
renamed_operator t (n.Reg i) op = op
renamed_operator t x op = refl
