-- Next values, writes and assumptions, one after the other.
use Rattle.std.specs.Prelude.{◌≡◌, refl, ℕ, zero, suc, ◌+◌, ◌<◌, Bool, true, false, List, [], ◌∷◌, ◌++◌}
use Rattle.std.specs.Prelude.{length, map, take, Some, None, Option, is_none, slice_get}
use Rattle.std.proofs.Common.{ap, sym, ◌∙◌, arith, subst, true≢false, ◌⊎◌, inl, inr}
use Rattle.std.proofs.lemmas.Option.{same_Some}
use Rattle.fv_graph.proofs.Lists.{get_less, get_some}
use Rattle.fv_graph.proofs.Moves.{same_or_not}
use Rattle.wn_net.specs.declared.parts.Reg.{Reg}
use Rattle.wn_net.specs.declared.parts.Mem.{Mem}
use Rattle.wn_net.specs.declared.parts.MemWrite.{MemWrite}
use Rattle.wn_net.specs.Net.{Netlist, IsNet, IsNode, IsNodeOf, IsRegOf, IsMemOf, IsWriteOf, width_at}
use Rattle.wn_net.specs.Changes.{Keeps, reg_width, mem_width, with_next, with_write}
use Rattle.wn_opt.specs.Needed.{IsIn, write_nodes}
use Rattle.wn_opt.specs.Cone.{IsPlace, HasPlace, place, places_of, with_place, renamed_write}
use Rattle.wn_opt.specs.Marks.{IsSet}
use Rattle.wn_opt.specs.Parts.{AddsWrites, AreBare, AreBelow, AreCopied, AreNextsPlaced, ArePlaced, AreWritesFit}
use Rattle.wn_opt.specs.Parts.{AreWritesPlaced, HasAssumes, HasNexts, HasRegs, HasSameNodes, HasWrites}
use Rattle.wn_opt.specs.Parts.{with_next_node, without_writes}
use Rattle.wn_opt.proofs.Begun.{index_map}
use Rattle.wn_opt.proofs.Copying.{place_is}
use Rattle.wn_opt.proofs.Framing.{take_more, map_more}
use Rattle.wn_opt.proofs.Before.{all_in}

-- ---- the same nodes

pub same_none : (a : Netlist) → HasSameNodes a a
same_none a = record { nodes = refl; inputs = refl; widths = λ id low. refl }

pub same_on : (a b c : Netlist) → HasSameNodes a b → HasSameNodes b c → HasSameNodes a c
same_on a b c h k = record {
  nodes = k.nodes ∙ h.nodes;
  inputs = k.inputs ∙ h.inputs;
  widths = λ id low. k.widths id (omega (arith, low, ap length h.nodes)) ∙ h.widths id low;
}

pub node_same : (a b : Netlist) (w id : ℕ) → HasSameNodes a b → IsNodeOf a w id → IsNodeOf b w id
node_same a b w id h own = (omega (arith, own.0, ap length h.nodes), h.widths id own.0 ∙ own.1)

pub copied_same : (net a b : Netlist) (marks : List Bool) (t : List (Option ℕ)) → HasSameNodes a b
    → AreCopied net marks a t → AreCopied net marks b t
copied_same net a b marks t same h = record {
  marked = h.marked;
  placed = h.placed;
  nodes = λ id at x p e. ap (λ xs. slice_get xs at) same.nodes ∙ h.nodes id at x p e;
  widths = λ id at p. node_same a b (width_at net id) at same (h.widths id at p);
  others = λ at past low. h.others at past (omega (arith, low, ap length same.nodes));
  closed = h.closed;
}

-- a mark isn't set and unset
set_unset : (bs : List Bool) (i k : ℕ) → i ≡ k → slice_get bs k ≡ Some false → IsSet bs i → ⊥
set_unset bs i k is off on = true≢false (same_Some true false (sym on ∙ ap (slice_get bs) is ∙ off))

-- ---- next values

next_here : (i next : ℕ) (rs : List Reg) (r : Reg) → slice_get rs i ≡ Some r
    → slice_get (with_next i next rs) i ≡ Some (with_next_node next r)
next_here i next [] r e = absurd (true≢false (ap is_none e))
next_here zero next (q ∷ rs) r e = ap (λ z. Some (with_next_node next z)) (same_Some q r e)
next_here (suc i) next (q ∷ rs) r e = next_here i next rs r e

next_there : (i next j : ℕ) (rs : List Reg) → (j ≡ i → ⊥) → slice_get (with_next i next rs) j ≡ slice_get rs j
next_there i next j [] h = refl
next_there zero next zero (q ∷ rs) h = absurd (h refl)
next_there zero next (suc j) (q ∷ rs) h = refl
next_there (suc i) next zero (q ∷ rs) h = refl
next_there (suc i) next (suc j) (q ∷ rs) h = next_there i next j rs (λ e. h (ap suc e))

next_length : (i next : ℕ) (rs : List Reg) → length (with_next i next rs) ≡ length rs
next_length i next [] = refl
next_length zero next (q ∷ rs) = refl
next_length (suc i) next (q ∷ rs) = ap suc (next_length i next rs)

pub nexts_none : (net a b : Netlist) (marks : List Bool) (t : List (Option ℕ)) → b ≡ a
    → HasNexts net marks t a b 0
nexts_none net a b marks t e =
    let Is : Netlist → Type 0 = λ m. HasNexts net marks t a m 0 in
    subst Is (sym e) (record {
      same = same_none a;
      mems = refl;
      assumes = refl;
      each = refl;
      regs = λ i r low on e. absurd (omega (arith, low));
      kept = λ i not. refl;
    })

module _ (net a b : Netlist) (marks : List Bool) (t : List (Option ℕ)) (k : ℕ) (r : Reg) (regs : HasRegs net a)
    (h : HasNexts net marks t a b k) (at : slice_get net.regs k ≡ Some r) where
  own : (next : ℕ) × (slice_get a.regs k ≡ Some (with_next_node next r))
  own = regs k r at

  here : slice_get b.regs k ≡ Some (with_next_node own.0 r)
  here = h.kept k (λ low on. omega (arith, low)) ∙ own.1

  pub reg_there : k < length b.regs
  reg_there = get_less b.regs k (with_next_node own.0 r) here

  -- the next register isn't marked
  pub nexts_skip : slice_get marks k ≡ Some false → HasNexts net marks t a b (k + 1)
  nexts_skip off = record {
    same = h.same;
    mems = h.mems;
    assumes = h.assumes;
    each = h.each;
    regs = λ i q low on e. by i q low on e (same_or_not i k);
    kept = λ i not. h.kept i (λ low on. not (omega (arith, low)) on);
  }
    where
      by : (i : ℕ) (q : Reg) → i < k + 1 → IsSet marks i → slice_get net.regs i ≡ Some q → (i ≡ k) ⊎ (i ≡ k → ⊥)
          → slice_get b.regs i ≡ Some (with_next_node (place t q.next) q)
      by i q low on e (inl is) = absurd (set_unset marks i k is off on)
      by i q low on e (inr other) = h.regs i q (omega (arith, low, other)) on e

  -- the next register is marked
  pub nexts_set : (c : Netlist) → IsSet marks k → c ≡ record b { regs = with_next k (place t r.next) b.regs }
      → Keeps b c → HasNexts net marks t a c (k + 1)
  nexts_set c set e keeps = record {
    same = same_on a b c h.same (record {
      nodes = ap (λ m. m.nodes) e;
      inputs = ap (λ m. m.inputs) e;
      widths = keeps.widths;
    });
    mems = ap (λ m. m.mems) e ∙ h.mems;
    assumes = ap (λ m. m.assumes) e ∙ h.assumes;
    each = ap (λ m. length m.regs) e ∙ next_length k (place t r.next) b.regs ∙ h.each;
    regs = λ i q low on f. ap (λ m. slice_get m.regs i) e ∙ by i q low on f (same_or_not i k);
    kept = λ i not.
        let other : i ≡ k → ⊥ = λ is. not (omega (arith, is)) (ap (slice_get marks) is ∙ set) in
        ap (λ m. slice_get m.regs i) e ∙ next_there k (place t r.next) i b.regs other
        ∙ h.kept i (λ low on. not (omega (arith, low)) on);
  }
    where
      by : (i : ℕ) (q : Reg) → i < k + 1 → IsSet marks i → slice_get net.regs i ≡ Some q → (i ≡ k) ⊎ (i ≡ k → ⊥)
          → slice_get (with_next k (place t r.next) b.regs) i ≡ Some (with_next_node (place t q.next) q)
      by i q low on f (inl is) =
          let same : r ≡ q = same_Some r q (sym at ∙ ap (slice_get net.regs) (sym is) ∙ f) in
          ap (slice_get (with_next k (place t r.next) b.regs)) is
          ∙ next_here k (place t r.next) b.regs (with_next_node own.0 r) here
          ∙ ap (λ z. Some (with_next_node (place t z.next) z)) same
      by i q low on f (inr other) =
          next_there k (place t r.next) i b.regs other ∙ h.regs i q (omega (arith, low, other)) on f

  reg_wide : reg_width b k ≡ r.width
  reg_wide = index_map (λ (q : Reg). q.width) b.regs k (with_next_node own.0 r) here

  -- its next node fits
  pub next_node : (nodes : List Bool) → IsNet net → AreCopied net nodes a t → AreNextsPlaced net marks t
      → IsSet marks k → IsNodeOf b (reg_width b k) (place t r.next)
  next_node nodes whole copied placed on =
      let p = placed k r on at in
      let old : IsNodeOf net r.width r.next = (all_in (IsRegOf net) net.regs r whole.regs (k, at)).next in
      let new : IsNodeOf b (width_at net r.next) p.0 =
      node_same a b (width_at net r.next) p.0 h.same (copied.widths r.next p.0 p.1) in
      let wide : width_at net r.next ≡ reg_width b k = old.1 ∙ sym reg_wide in
      subst (λ w. IsNodeOf b w (place t r.next)) wide
      (subst (λ j. IsNodeOf b (width_at net r.next) j) (sym (place_is t r.next p.0 p.1)) new)

-- ---- writes

write_here : (i : ℕ) (w : MemWrite) (ms : List Mem) (m : Mem) → slice_get ms i ≡ Some m
    → slice_get (with_write i w ms) i ≡ Some (record m { writes = m.writes ++ w ∷ [] })
write_here i w [] m e = absurd (true≢false (ap is_none e))
write_here zero w (x ∷ ms) m e = ap {A = Mem} (λ z. Some (record z { writes = z.writes ++ w ∷ [] })) (same_Some x m e)
write_here (suc i) w (x ∷ ms) m e = write_here i w ms m e

write_there : (i : ℕ) (w : MemWrite) (j : ℕ) (ms : List Mem) → (j ≡ i → ⊥)
    → slice_get (with_write i w ms) j ≡ slice_get ms j
write_there i w j [] h = refl
write_there zero w zero (x ∷ ms) h = absurd (h refl)
write_there zero w (suc j) (x ∷ ms) h = refl
write_there (suc i) w zero (x ∷ ms) h = refl
write_there (suc i) w (suc j) (x ∷ ms) h = write_there i w j ms (λ e. h (ap suc e))

write_length : (i : ℕ) (w : MemWrite) (ms : List Mem) → length (with_write i w ms) ≡ length ms
write_length i w [] = refl
write_length zero w (x ∷ ms) = refl
write_length (suc i) w (x ∷ ms) = ap suc (write_length i w ms)

nothing_more : {A : Type 0} (xs : List A) → xs ++ [] ≡ xs
nothing_more [] = refl
nothing_more (x ∷ xs) = ap (λ zs. x ∷ zs) (nothing_more xs)

one_more : {A : Type 0} (xs ys : List A) (x : A) → (xs ++ ys) ++ x ∷ [] ≡ xs ++ (ys ++ x ∷ [])
one_more [] ys x = refl
one_more (y ∷ xs) ys x = ap (λ zs. y ∷ zs) (one_more xs ys x)

pub adds_no_writes : (a b : Netlist) (m : ℕ) → b ≡ a → AddsWrites a b m []
adds_no_writes a b m e =
    let Is : Netlist → Type 0 = λ x. AddsWrites a x m [] in
    subst Is (sym e) (record {
      same = same_none a;
      regs = refl;
      assumes = refl;
      each = refl;
      here = λ x f. f ∙ ap (λ ws. Some (record x { writes = ws })) (sym (nothing_more x.writes));
      others = λ k h. refl;
    })

pub adds_write : (a b c : Netlist) (m : ℕ) (ws : List MemWrite) (w : MemWrite) → AddsWrites a b m ws
    → c ≡ record b { mems = with_write m w b.mems } → Keeps b c → AddsWrites a c m (ws ++ w ∷ [])
adds_write a b c m ws w h e keeps = record {
  same = same_on a b c h.same (record {
    nodes = ap (λ x. x.nodes) e;
    inputs = ap (λ x. x.inputs) e;
    widths = keeps.widths;
  });
  regs = ap (λ x. x.regs) e ∙ h.regs;
  assumes = ap (λ x. x.assumes) e ∙ h.assumes;
  each = ap (λ x. length x.mems) e ∙ write_length m w b.mems ∙ h.each;
  here = λ x f.
      ap (λ y. slice_get y.mems m) e
      ∙ write_here m w b.mems (record x { writes = x.writes ++ ws }) (h.here x f)
      ∙ ap (λ vs. Some (record x { writes = vs })) (one_more x.writes ws w);
  others = λ k other. ap (λ y. slice_get y.mems k) e ∙ write_there m w k b.mems other ∙ h.others k other;
}

-- the width of the words stays
pub mem_wide : (a b : Netlist) (m : ℕ) (ws : List MemWrite) → AddsWrites a b m ws → m < length a.mems
    → mem_width b m ≡ mem_width a m
mem_wide a b m ws h less =
    let x = get_some a.mems m less in
    index_map (λ (y : Mem). y.width) b.mems m (record x.0 { writes = x.0.writes ++ ws }) (h.here x.0 x.1)
    ∙ sym (index_map (λ (y : Mem). y.width) a.mems m x.0 x.1)

pub write_same : (a b : Netlist) (width : ℕ) (w : MemWrite) → HasSameNodes a b → IsWriteOf a width w
    → IsWriteOf b width w
write_same a b width w same h = record {
  enable = node_same a b 1 w.enable same h.enable;
  addr = omega (arith, h.addr, ap length same.nodes);
  mask = node_same a b width w.mask same h.mask;
  value = node_same a b width w.value same h.value;
}

-- a write of the net fits with the new numbers
pub write_fits : (net part : Netlist) (nodes : List Bool) (t : List (Option ℕ)) (width : ℕ) (w : MemWrite)
    → AreCopied net nodes part t → ArePlaced t (write_nodes w) → IsWriteOf net width w
    → IsWriteOf part width (renamed_write t w)
write_fits net part nodes t width w copied placed own = record {
  enable = node w.enable (placed w.enable (0, refl)) 1 own.enable;
  addr = (node w.addr (placed w.addr (1, refl)) (width_at net w.addr) (own.addr, refl)).0;
  mask = node w.mask (placed w.mask (2, refl)) width own.mask;
  value = node w.value (placed w.value (3, refl)) width own.value;
}
  where
    node : (id : ℕ) → HasPlace t id → (v : ℕ) → IsNodeOf net v id → IsNodeOf part v (place t id)
    node id p v own =
        subst (λ w. IsNodeOf part w (place t id)) own.1
        (subst (λ j. IsNodeOf part (width_at net id) j) (sym (place_is t id p.0 p.1)) (copied.widths id p.0 p.1))

-- ---- the writes of each memory

bare_get : (ms : List Mem) (m : ℕ) (x : Mem) → slice_get ms m ≡ Some x
    → slice_get (map without_writes ms) m ≡ Some (without_writes x)
bare_get [] m x e = absurd (true≢false (ap is_none e))
bare_get (y ∷ ms) zero x e = ap (λ z. Some (without_writes z)) (same_Some y x e)
bare_get (y ∷ ms) (suc m) x e = bare_get ms m x e

pub bare_at : (net a : Netlist) → a.mems ≡ map without_writes net.mems → (m : ℕ) (x : Mem)
    → slice_get net.mems m ≡ Some x → slice_get a.mems m ≡ Some (without_writes x)
bare_at net a e m x f = ap (λ ms. slice_get ms m) e ∙ bare_get net.mems m x f

pub all_bare : (net a : Netlist) (marks : List Bool) → a.mems ≡ map without_writes net.mems → AreBare net marks a
all_bare net a marks e m x on f = bare_at net a e m x f

pub writes_none : (net a b : Netlist) (marks : List Bool) (t : List (Option ℕ)) → b ≡ a
    → HasWrites net marks t a b 0
writes_none net a b marks t e =
    let Is : Netlist → Type 0 = λ m. HasWrites net marks t a m 0 in
    subst Is (sym e) (record {
      same = same_none a;
      regs = refl;
      assumes = refl;
      each = refl;
      mems = λ m x low on f. absurd (omega (arith, low));
      kept = λ m not. refl;
    })

module _ (net a b : Netlist) (marks : List Bool) (t : List (Option ℕ)) (k : ℕ) (x : Mem)
    (bare : AreBare net marks a) (h : HasWrites net marks t a b k) (at : slice_get net.mems k ≡ Some x) where
  pub writes_skip : slice_get marks k ≡ Some false → HasWrites net marks t a b (k + 1)
  writes_skip off = record {
    same = h.same;
    regs = h.regs;
    assumes = h.assumes;
    each = h.each;
    mems = λ m y low on e. by m y low on e (same_or_not m k);
    kept = λ m not. h.kept m (λ low on. not (omega (arith, low)) on);
  }
    where
      by : (m : ℕ) (y : Mem) → m < k + 1 → IsSet marks m → slice_get net.mems m ≡ Some y → (m ≡ k) ⊎ (m ≡ k → ⊥)
          → slice_get b.mems m ≡ Some (record y { writes = map (renamed_write t) y.writes })
      by m y low on e (inl is) = absurd (set_unset marks m k is off on)
      by m y low on e (inr other) = h.mems m y (omega (arith, low, other)) on e

  -- the next memory is marked
  module _ (set : IsSet marks k) where
    mem_here : slice_get b.mems k ≡ Some (without_writes x)
    mem_here = h.kept k (λ low on. omega (arith, low)) ∙ bare k x set at

    pub mem_there : k < length b.mems
    mem_there = get_less b.mems k (without_writes x) mem_here

    mem_width_is : mem_width b k ≡ x.width
    mem_width_is = index_map (λ (y : Mem). y.width) b.mems k (without_writes x) mem_here

    pub writes_set : (c : Netlist) → AddsWrites b c k (map (renamed_write t) x.writes)
        → HasWrites net marks t a c (k + 1)
    writes_set c adds = record {
      same = same_on a b c h.same adds.same;
      regs = adds.regs ∙ h.regs;
      assumes = adds.assumes ∙ h.assumes;
      each = adds.each ∙ h.each;
      mems = λ m y low on e. by m y low on e (same_or_not m k);
      kept = λ m not.
          let other : m ≡ k → ⊥ = λ is. not (omega (arith, is)) (ap (slice_get marks) is ∙ set) in
          adds.others m other ∙ h.kept m (λ low on. not (omega (arith, low)) on);
    }
      where
        by : (m : ℕ) (y : Mem) → m < k + 1 → IsSet marks m → slice_get net.mems m ≡ Some y → (m ≡ k) ⊎ (m ≡ k → ⊥)
            → slice_get c.mems m ≡ Some (record y { writes = map (renamed_write t) y.writes })
        by m y low on e (inl is) =
            let same : x ≡ y = same_Some x y (sym at ∙ ap (slice_get net.mems) (sym is) ∙ e) in
            ap (slice_get c.mems) is ∙ adds.here (without_writes x) mem_here
            ∙ ap {A = Mem} (λ z. Some (record z { writes = map (renamed_write t) z.writes })) same
        by m y low on e (inr other) = adds.others m other ∙ h.mems m y (omega (arith, low, other)) on e

    -- its writes fit
    pub mem_writes_fit : (nodes : List Bool) → IsNet net → AreCopied net nodes a t → AreWritesPlaced t x.writes
        → AreWritesFit b (mem_width b k) t x.writes
    mem_writes_fit nodes whole copied placed w i =
        let own : IsMemOf net x = all_in (IsMemOf net) net.mems x whole.mems (k, at) in
        let fits = all_in (IsWriteOf net x.width) x.writes w own.writes i in
        subst (λ v. IsWriteOf b v (renamed_write t w)) (sym mem_width_is)
        (write_fits net b nodes t x.width w (copied_same net a b nodes t h.same copied) (placed w i) fits)

-- ---- assumptions

places_more : (t : List (Option ℕ)) (ids : List ℕ) (id : ℕ)
    → places_of t (ids ++ id ∷ []) ≡ places_of t ids ++ with_place (slice_get t id) []
places_more t [] id = refl
places_more t (x ∷ ids) id = by (slice_get t x) (places_more t ids id)
  where
    by : (o : Option (Option ℕ))
        → places_of t (ids ++ id ∷ []) ≡ places_of t ids ++ with_place (slice_get t id) []
        → with_place o (places_of t (ids ++ id ∷ [])) ≡ with_place o (places_of t ids) ++ with_place (slice_get t id) []
    by None e = e
    by (Some None) e = e
    by (Some (Some at)) e = ap (λ zs. at ∷ zs) e

pub assumes_none : (net a b : Netlist) (t : List (Option ℕ)) → b ≡ a → HasAssumes net t a b 0
assumes_none net a b t e =
    let Is : Netlist → Type 0 = λ m. HasAssumes net t a m 0 in
    subst Is (sym e) (record {
      same = same_none a;
      regs = refl;
      mems = refl;
      assumes = sym (nothing_more a.assumes);
    })

joined : (xs ys zs : List ℕ) → (xs ++ ys) ++ zs ≡ xs ++ (ys ++ zs)
joined [] ys zs = refl
joined (x ∷ xs) ys zs = ap (λ us. x ∷ us) (joined xs ys zs)

taken_places : (net : Netlist) (t : List (Option ℕ)) (k id : ℕ) → slice_get net.assumes k ≡ Some id
    → places_of t (take (k + 1) net.assumes)
    ≡ places_of t (take k net.assumes) ++ with_place (slice_get t id) []
taken_places net t k id at = ap (places_of t) (take_more net.assumes k id at) ∙ places_more t (take k net.assumes) id

pub assumes_skip : (net a b : Netlist) (t : List (Option ℕ)) (k id : ℕ) → HasAssumes net t a b k
    → slice_get net.assumes k ≡ Some id → slice_get t id ≡ Some None → HasAssumes net t a b (k + 1)
assumes_skip net a b t k id h at none = record {
  same = h.same;
  regs = h.regs;
  mems = h.mems;
  assumes =
      h.assumes
      ∙ ap (λ zs. a.assumes ++ zs)
      (sym (taken_places net t k id at
      ∙ ap (λ o. places_of t (take k net.assumes) ++ with_place o []) none
      ∙ nothing_more (places_of t (take k net.assumes))));
}

pub assumes_more : (net a b c : Netlist) (t : List (Option ℕ)) (k id at : ℕ) → HasAssumes net t a b k
    → slice_get net.assumes k ≡ Some id → IsPlace t id at
    → c ≡ record b { assumes = b.assumes ++ at ∷ [] } → Keeps b c → HasAssumes net t a c (k + 1)
assumes_more net a b c t k id at h is p e keeps = record {
  same = same_on a b c h.same (record {
    nodes = ap (λ m. m.nodes) e;
    inputs = ap (λ m. m.inputs) e;
    widths = keeps.widths;
  });
  regs = ap (λ m. m.regs) e ∙ h.regs;
  mems = ap (λ m. m.mems) e ∙ h.mems;
  assumes =
      ap (λ m. m.assumes) e ∙ ap (λ zs. zs ++ at ∷ []) h.assumes
      ∙ joined a.assumes (places_of t (take k net.assumes)) (at ∷ [])
      ∙ ap (λ zs. a.assumes ++ zs)
      (sym (taken_places net t k id is ∙ ap (λ o. places_of t (take k net.assumes) ++ with_place o []) p));
}

-- ---- each step, whether marked or not

pub nexts_step : (net a b c : Netlist) (marks : List Bool) (t : List (Option ℕ)) (k : ℕ) (r : Reg) (v : Bool)
    → HasRegs net a → HasNexts net marks t a b k → slice_get net.regs k ≡ Some r → slice_get marks k ≡ Some v
    → (v ≡ false → c ≡ b) → (v ≡ true → c ≡ record b { regs = with_next k (place t r.next) b.regs })
    → (v ≡ true → Keeps b c) → HasNexts net marks t a c (k + 1)
nexts_step net a b c marks t k r true regs h at on skip set keeps =
    nexts_set net a b marks t k r regs h at c on (set refl) (keeps refl)
nexts_step net a b c marks t k r false regs h at off skip set keeps =
    subst (λ m. HasNexts net marks t a m (k + 1)) (sym (skip refl)) (nexts_skip net a b marks t k r regs h at off)

pub writes_step : (net a b c : Netlist) (marks : List Bool) (t : List (Option ℕ)) (k : ℕ) (x : Mem) (v : Bool)
    → AreBare net marks a → HasWrites net marks t a b k → slice_get net.mems k ≡ Some x
    → slice_get marks k ≡ Some v → (v ≡ false → c ≡ b)
    → (v ≡ true → AddsWrites b c k (map (renamed_write t) x.writes)) → HasWrites net marks t a c (k + 1)
writes_step net a b c marks t k x true bare h at on skip set =
    writes_set net a b marks t k x bare h at on c (set refl)
writes_step net a b c marks t k x false bare h at off skip set =
    subst (λ m. HasWrites net marks t a m (k + 1)) (sym (skip refl)) (writes_skip net a b marks t k x bare h at off)

pub assumes_step : (net a b c : Netlist) (t : List (Option ℕ)) (k id : ℕ) (o : Option ℕ) → HasAssumes net t a b k
    → slice_get net.assumes k ≡ Some id → slice_get t id ≡ Some o → (o ≡ None → c ≡ b)
    → ((at : ℕ) → o ≡ Some at → c ≡ record b { assumes = b.assumes ++ at ∷ [] })
    → ((at : ℕ) → o ≡ Some at → Keeps b c) → HasAssumes net t a c (k + 1)
assumes_step net a b c t k id None h at e skip set keeps =
    subst (λ m. HasAssumes net t a m (k + 1)) (sym (skip refl)) (assumes_skip net a b t k id h at e)
assumes_step net a b c t k id (Some p) h at e skip set keeps =
    assumes_more net a b c t k id p h at e (set p refl) (keeps p refl)

-- what an assumption's place names is there
pub assumed_there : (net a b : Netlist) (nodes : List Bool) (t : List (Option ℕ)) (k id at : ℕ)
    → AreCopied net nodes a t → HasAssumes net t a b k → IsPlace t id at → IsNode b at
assumed_there net a b nodes t k id at copied h p =
    (node_same a b (width_at net id) at h.same (copied.widths id at p)).0

-- a write goes on fitting
pub writes_on : (a b : Netlist) (m : ℕ) (t : List (Option ℕ)) (ws vs : List MemWrite) → m < length a.mems
    → AreWritesFit a (mem_width a m) t ws → AddsWrites a b m vs → AreWritesFit b (mem_width b m) t ws
writes_on a b m t ws vs less fit h w i =
    subst (λ v. IsWriteOf b v (renamed_write t w)) (sym (mem_wide a b m vs h less))
    (write_same a b (mem_width a m) (renamed_write t w) h.same (fit w i))

pub writes_below : (t : List (Option ℕ)) (ws : List MemWrite) (w : MemWrite) → AreWritesPlaced t ws → IsIn ws w
    → AreBelow (write_nodes w) (length t)
writes_below t ws w placed i id j = let p = placed w i id j in get_less t id (Some p.0) p.1

pub taken_writes : (t : List (Option ℕ)) (ws : List MemWrite) (k : ℕ) (w : MemWrite) → slice_get ws k ≡ Some w
    → map (renamed_write t) (take (k + 1) ws) ≡ map (renamed_write t) (take k ws) ++ renamed_write t w ∷ []
taken_writes t ws k w at = ap (map (renamed_write t)) (take_more ws k w at) ∙ map_more (renamed_write t) (take k ws) w
