-- A part of a net, grown by what one more node needs.
use Rattle.std.specs.Prelude.{◌≡◌, refl, ℕ, zero, suc, ◌+◌, ◌<◌, Bool, true, false, List, [], ◌∷◌, ◌++◌, length, map}
use Rattle.std.specs.Prelude.{Some, Option, slice_get}
use Rattle.std.proofs.Common.{ap, sym, ◌∙◌, arith, subst, true≢false, ◌⊎◌, inl, inr}
use Rattle.std.proofs.lemmas.Option.{same_Some}
use Rattle.fv_graph.proofs.Lists.{get_less, get_some}
use Rattle.wn_net.specs.declared.node.Node.TheVariants as n
use Rattle.wn_net.specs.declared.parts.Input.{Input}
use Rattle.wn_net.specs.declared.parts.Reg.{Reg}
use Rattle.wn_net.specs.declared.parts.Mem.{Mem}
use Rattle.wn_net.specs.declared.parts.MemWrite.{MemWrite}
use Rattle.wn_net.specs.Net.{Netlist, IsNet}
use Rattle.wn_run.proofs.Own.{each_width}
use Rattle.wn_opt.specs.declared.marks.Marks.{Marks}
use Rattle.wn_opt.specs.Needed.{IsIn, IsNeeded, IsNeededReg, IsNeededMem, write_nodes}
use Rattle.wn_opt.specs.Needed.{root, operand, next, write}
use Rattle.wn_opt.specs.Cone.{IsPlace, HasPlace, IsCone, KeepsMem, KeepsPlaces, KeepsReg, StandsBehind, place}
use Rattle.wn_opt.specs.Cone.{places_of, renamed_write, with_place}
use Rattle.wn_opt.specs.Marks.{IsSet, AreNeeds}
use Rattle.wn_opt.specs.Parts.{AddsBehind, AreBare, AreCopied, AreCopiedTo, AreFresh, AreMemsPlaced}
use Rattle.wn_opt.specs.Parts.{HasNexts, HasRegs, HasSameNodes, HasWrites, IsFront, with_next_node}
use Rattle.wn_opt.proofs.Begun.{index_map, map_like}
use Rattle.wn_opt.proofs.Copying.{place_is}
use Rattle.wn_opt.proofs.Framing.{front_on}
use Rattle.wn_opt.proofs.In.{in_here, in_next}
use Rattle.wn_opt.proofs.Joining.{copied_same, same_on}
use Rattle.wn_opt.proofs.Whole.{cone_of, front_same, need_place, reg_joined}
use Rattle.wn_opt.proofs.Whole.{same_state, set_or_not}

-- what some nodes need more nodes need
needed_more : (net : Netlist) (xs ys : List ℕ) → ((id : ℕ) → IsIn xs id → IsIn ys id) → (id : ℕ)
    → IsNeeded net xs id → IsNeeded net ys id
needed_more net xs ys sub k (root id h) = root id (sub id h)
needed_more net xs ys sub k (operand user id x up e h) =
    operand user id x (needed_more net xs ys sub user up) e h
needed_more net xs ys sub k (next user i r up e f) = next user i r (needed_more net xs ys sub user up) e f
needed_more net xs ys sub k (write user m a id mem w up e f h i) =
    write user m a id mem w (needed_more net xs ys sub user up) e f h i

among_more : (xs : List ℕ) (x id : ℕ) → IsIn xs id → IsIn (xs ++ x ∷ []) id
among_more xs x id h = (h.0, front xs h.0 h.1)
  where
    front : (zs : List ℕ) (k : ℕ) → slice_get zs k ≡ Some id → slice_get (zs ++ x ∷ []) k ≡ Some id
    front [] k e = cc
    front (z ∷ zs) zero e = e
    front (z ∷ zs) (suc k) e = front zs k e

pub among_is : (all xs : List ℕ) (x : ℕ) → all ≡ xs ++ x ∷ [] → (id : ℕ) → IsIn xs id → IsIn all id
among_is all xs x e id h =
    let P : List ℕ → Type 0 = λ ids. IsIn ids id in subst P (sym e) (among_more xs x id h)

-- ---- what a larger table says of what has a place in a smaller one

place_same : (t u : List (Option ℕ)) (id : ℕ) → KeepsPlaces t u → HasPlace t id → place t id ≡ place u id
place_same t u id kept p = place_is t id p.0 p.1 ∙ sym (place_is u id p.0 (kept id p.0 p.1))

places_same : (t u : List (Option ℕ)) (ids : List ℕ) → KeepsPlaces t u → ((id : ℕ) → IsIn ids id → HasPlace t id)
    → places_of t ids ≡ places_of u ids
places_same t u [] kept placed = refl
places_same t u (id ∷ ids) kept placed =
    let p = placed id (in_here id ids) in
    ap (λ o. with_place o (places_of t ids)) (p.1 ∙ sym (kept id p.0 p.1))
    ∙ ap (with_place (slice_get u id)) (places_same t u ids kept (λ i h. placed i (in_next id ids i h)))

writes_same : (t u : List (Option ℕ)) (ws : List MemWrite) → KeepsPlaces t u
    → ((w : MemWrite) (id : ℕ) → IsIn ws w → IsIn (write_nodes w) id → HasPlace t id)
    → map (renamed_write t) ws ≡ map (renamed_write u) ws
writes_same t u [] kept placed = refl
writes_same t u (w ∷ ws) kept placed =
    let here : (id : ℕ) → IsIn (write_nodes w) id → place t id ≡ place u id =
    λ id i. place_same t u id kept (placed w id (0, refl) i) in
    let enable = here w.enable (0, refl) in
    let addr = here w.addr (1, refl) in
    let mask = here w.mask (2, refl) in
    let value = here w.value (3, refl) in
    let rest = writes_same t u ws kept (λ v id h i. placed v id (suc h.0, h.1) i) in
    λ j. record { enable = enable j; addr = addr j; mask = mask j; value = value j } ∷ rest j

-- ---- the smaller part

module _ (net : Netlist) (first all : List ℕ) (part : Netlist) (t : List (Option ℕ)) (m : Marks)
    (cone : IsCone net first part t) (whole : IsNet net) (own : IsNet part)
    (sub : (id : ℕ) → IsIn first id → IsIn all id) (needs : AreNeeds net all m) where
  pub first_front : IsFront net part
  first_front = record {
    input_nodes = cone.input_nodes;
    reg_nodes = cone.reg_nodes;
    input_widths = λ i x e.
        let node = cone.input_nodes i (get_less net.inputs i x e) in (
          get_less part.nodes i (n.Input i) node,
          each_width part i (n.Input i) own node
              ∙ index_map (λ (z : Input). z.width) part.inputs i x (ap (λ xs. slice_get xs i) cone.inputs ∙ e),
        );
    reg_widths = λ i r e.
        let node = cone.reg_nodes i (get_less net.regs i r e) in
        let q = cone.regs i r e in (
          get_less part.nodes (length net.inputs + i) (n.Reg i) node,
          each_width part (length net.inputs + i) (n.Reg i) own node
              ∙ index_map (λ (z : Reg). z.width) part.regs i q.reg q.there ∙ q.width,
        );
    mem_widths = (same_state net first part t cone whole own).mem_widths;
  }

  pub first_copied : AreCopiedTo net m.nodes.items part t 0
  first_copied = record {
    marked = λ id p. (needs.nodes id).1 (needed_more net first all sub id ((cone.needed id).1 p));
    placed = λ id low s. absurd (omega (arith, low));
    nodes = cone.nodes;
    widths = λ id at p.
        let less = get_less t id (Some at) p in
        let x = get_some net.nodes id (omega (arith, less, cone.each)) in
        (get_less part.nodes at _ (cone.nodes id at x.0 p x.1), cone.widths id at p);
    others = cone.others;
    closed = λ user at a x p e i. (cone.needed a).0 (operand user a x ((cone.needed user).1 (at, p)) e i);
  }

  first_regs : HasRegs net part
  first_regs i r e =
      let q = cone.regs i r e in
      (q.reg.next, q.there ∙ (λ j. Some (record { width = q.width j; init = q.init j; next = q.reg.next })))

  -- with more nodes behind it
  pub grown_regs : (a : Netlist) → AddsBehind part a → HasRegs net a
  grown_regs a adds i r e =
      let q = first_regs i r e in (q.0, ap (λ rs. slice_get rs i) adds.regs ∙ q.1)

  -- a memory that isn't needed yet has no writes
  pub first_bare : (before : Marks) (fresh : List Bool) (count : ℕ) → AreNeeds net first before
      → AreFresh m.mems.items before.mems.items fresh count → (b : Netlist) → b.mems ≡ part.mems
      → AreBare net fresh b
  first_bare before fresh count old new b same k x on e =
      let q = cone.mems k x e in
      let off = (new.set k on).1 in
      let none = q.none (λ need. true≢false (same_Some true false (sym ((old.mems k).1 need) ∙ off))) in
      ap (λ ms. slice_get ms k) same ∙ q.there
      ∙ (λ j. Some (record { width = q.width j; words = q.words j; init = q.init j; writes = none j }))

-- ---- the larger part

module _ (net : Netlist) (first all : List ℕ) (part : Netlist) (t u : List (Option ℕ)) (before m : Marks)
    (cone : IsCone net first part t) (whole : IsNet net) (own : IsNet part)
    (sub : (id : ℕ) → IsIn first id → IsIn all id) (old : AreNeeds net first before) (needs : AreNeeds net all m)
    (fresh : List Bool) (new : AreFresh m.mems.items before.mems.items fresh (length m.mems.items))
    (assumed : (id : ℕ) → IsIn net.assumes id → IsIn first id) (a b d : Netlist) (adds : AddsBehind part a)
    (copied : AreCopied net m.nodes.items a u) (each : length u ≡ length net.nodes) (kept : KeepsPlaces t u)
    (nexts : HasNexts net m.regs.items u a b (length net.regs))
    (writes : HasWrites net fresh u b d (length net.mems)) where
  same : HasSameNodes a d
  same = same_on a b d nexts.same writes.same

  keeps_reg : (i : ℕ) (r : Reg) → slice_get net.regs i ≡ Some r → KeepsReg net all d u i r
  keeps_reg i r e =
      let less = get_less net.regs i r e in
      by (set_or_not (IsNeededReg net all i) m.regs.items i (needs.regs i) (omega (arith, less, needs.each_reg)))
    where
      by : (IsSet m.regs.items i × IsNeededReg net all i)
          ⊎ ((slice_get m.regs.items i ≡ Some false) × (IsNeededReg net all i → ⊥)) → KeepsReg net all d u i r
      by (inl q) = record {
        reg = with_next_node (place u r.next) r;
        there = reg_joined net a b d m.regs.items u i r nexts writes.regs q.0 e;
        width = refl;
        init = refl;
        next = λ need.
            let p = need_place net a all m u needs copied each r.next (next need.0 i r need.1 need.2 e) in
            subst (λ k. IsPlace u r.next k) (sym (place_is u r.next p.0 p.1)) p.1;
        own = λ not. absurd (not q.1);
      }
      by (inr q) =
          let was = cone.regs i r e in
          record {
            reg = was.reg;
            there =
                ap (λ rs. slice_get rs i) writes.regs ∙ nexts.kept i (λ low on. q.1 ((needs.regs i).0 on))
                ∙ ap (λ rs. slice_get rs i) adds.regs ∙ was.there;
            width = was.width;
            init = was.init;
            next = λ need. absurd (q.1 need);
            own = λ not.
                ap (λ xs. slice_get xs was.reg.next) same.nodes
                ∙ adds.front was.reg.next (n.Reg i)
                (was.own (λ need. q.1 (need.0, needed_more net first all sub need.0 need.1, need.2)));
          }

  mem_was : (k : ℕ) (x : Mem) → slice_get net.mems k ≡ Some x → (IsSet fresh k → ⊥)
      → slice_get d.mems k ≡ slice_get part.mems k
  mem_was k x e not =
      writes.kept k (λ low on. not on) ∙ ap (λ ms. slice_get ms k) (nexts.mems ∙ adds.mems)

  keeps_mem : (k : ℕ) (x : Mem) → slice_get net.mems k ≡ Some x → KeepsMem net all d u k x
  keeps_mem k x e =
      by (set_or_not (IsNeededMem net all k) m.mems.items k (needs.mems k) (omega (arith, less, needs.each_mem)))
      (set_or_not (IsNeededMem net first k) before.mems.items k (old.mems k) (omega (arith, less, old.each_mem)))
    where
      less : k < length net.mems
      less = get_less net.mems k x e

      was : KeepsMem net first part t k x
      was = cone.mems k x e

      by : (IsSet m.mems.items k × IsNeededMem net all k)
          ⊎ ((slice_get m.mems.items k ≡ Some false) × (IsNeededMem net all k → ⊥))
          → (IsSet before.mems.items k × IsNeededMem net first k)
          ⊎ ((slice_get before.mems.items k ≡ Some false) × (IsNeededMem net first k → ⊥))
          → KeepsMem net all d u k x
      by (inl q) (inl p) = record {
        mem = was.mem;
        there =
            mem_was k x e (λ on. true≢false (same_Some true false (sym p.0 ∙ (new.set k on).1))) ∙ was.there;
        width = was.width;
        words = was.words;
        init = was.init;
        writes = λ need.
            was.writes p.1
            ∙ writes_same t u x.writes kept (λ w id i j.
            (cone.needed id).0 (write p.1.0 k p.1.1 id x w p.1.2 p.1.3 e i j));
        none = λ not. absurd (not q.1);
      }
      by (inl q) (inr p) = record {
        mem = record x { writes = map (renamed_write u) x.writes };
        there = writes.mems k x less (new.found k (omega (arith, less, needs.each_mem)) q.0 p.0) e;
        width = refl;
        words = refl;
        init = refl;
        writes = λ need. refl;
        none = λ not. absurd (not q.1);
      }
      by (inr q) p = record {
        mem = was.mem;
        there = mem_was k x e (λ on. q.1 ((needs.mems k).0 (new.set k on).0)) ∙ was.there;
        width = was.width;
        words = was.words;
        init = was.init;
        writes = λ need. absurd (q.1 need);
        none = λ not.
            was.none (λ need. q.1 (need.0, need.1, needed_more net first all sub need.0 need.2, need.3));
      }

  mems_each : length d.mems ≡ length net.mems
  mems_each = writes.each ∙ ap length (nexts.mems ∙ adds.mems) ∙ cone.mems_each

  mem_widths : map (λ m. m.width) d.mems ≡ map (λ m. m.width) net.mems
  mem_widths = map_like (λ (x : Mem). x.width) net.mems d.mems mems_each (λ i x e.
      let q = keeps_mem i x e in record { item = q.mem; there = q.there; same = q.width })

  grown_cone : IsCone net all d u
  grown_cone =
      cone_of net all m u d needs
      (front_same net a d (front_on net part a (first_front net first all part t m cone whole own sub needs) adds) same
      mem_widths)
      (copied_same net a d m.nodes.items u same copied) each (same.inputs ∙ adds.inputs ∙ cone.inputs)
      (ap length writes.regs ∙ nexts.each ∙ ap length adds.regs ∙ cone.regs_each) keeps_reg mems_each keeps_mem
      (writes.assumes ∙ nexts.assumes ∙ adds.assumes ∙ cone.assumes
      ∙ places_same t u net.assumes kept (λ id i. (cone.needed id).0 (root id (assumed id i))))

  grown_stands : StandsBehind part t d u
  grown_stands = record {
    nodes = λ at x e. ap (λ xs. slice_get xs at) same.nodes ∙ adds.front at x e;
    places = kept;
  }

-- ---- with equations for what was read

pub fresh_by : (xs ys ms bs fresh : List Bool) → xs ≡ ms → ys ≡ bs → AreFresh xs ys fresh (length xs)
    → AreFresh ms bs fresh (length ms)
fresh_by xs ys ms bs fresh e f h =
    let P : List Bool → Type 0 = λ zs. AreFresh zs ys fresh (length zs) in
    let Q : List Bool → Type 0 = λ zs. AreFresh ms zs fresh (length ms) in subst Q f (subst P e h)

pub fresh_placed : (net : Netlist) (marks before fresh : List Bool) (count : ℕ) (u : List (Option ℕ))
    → AreFresh marks before fresh count → AreMemsPlaced net marks u → (fs : List Bool) → fs ≡ fresh
    → AreMemsPlaced net fs u
fresh_placed net marks before fresh count u new h fs e =
    let P : List Bool → Type 0 = λ zs. AreMemsPlaced net zs u in
    subst P (sym e) (λ k x on f. h k x (new.set k on).0 f)

pub copied_from : (net part : Netlist) (m : Marks) (ns : List Bool) (t v : List (Option ℕ)) → ns ≡ m.nodes.items → v ≡ t
    → AreCopiedTo net m.nodes.items part t 0 → AreCopiedTo net ns part v 0
copied_from net part m ns t v e f h =
    let P : List Bool → Type 0 = λ zs. AreCopiedTo net zs part v 0 in
    let Q : List (Option ℕ) → Type 0 = λ w. AreCopiedTo net m.nodes.items part w 0 in
    subst P (sym e) (subst Q (sym f) h)

module _ (net : Netlist) (first : List ℕ) (last : ℕ) (all : List ℕ) (part : Netlist) (t : List (Option ℕ))
    (before m : Marks) (all_are : all ≡ first ++ last ∷ []) (cone : IsCone net first part t) (whole : IsNet net)
    (own : IsNet part) (old : AreNeeds net first before) (needs : AreNeeds net all m) (fresh : List Bool)
    (new : AreFresh m.mems.items before.mems.items fresh (length m.mems.items))
    (assumed : (id : ℕ) → IsIn net.assumes id → IsIn first id) (a b d : Netlist) (adds : AddsBehind part a)
    (ns rs fs : List Bool) (was u v answered : List (Option ℕ)) (ns_are : ns ≡ m.nodes.items)
    (rs_are : rs ≡ m.regs.items) (fs_are : fs ≡ fresh) (was_is : was ≡ t) (v_is : v ≡ u) (answered_is : answered ≡ u)
    (copied : AreCopied net ns a u) (each : length u ≡ length net.nodes) (kept : KeepsPlaces was u)
    (nexts : HasNexts net rs v a b (length net.regs)) (writes : HasWrites net fs v b d (length net.mems)) where
  sub : (id : ℕ) → IsIn first id → IsIn all id
  sub = among_is all first last all_are

  copied_here : AreCopied net m.nodes.items a u
  copied_here = subst (λ zs. AreCopied net zs a u) ns_are copied

  kept_here : KeepsPlaces t u
  kept_here = subst (λ w. KeepsPlaces w u) was_is kept

  nexts_here : HasNexts net m.regs.items u a b (length net.regs)
  nexts_here =
      subst (λ zs. HasNexts net zs u a b (length net.regs)) rs_are
      (subst (λ w. HasNexts net rs w a b (length net.regs)) v_is nexts)

  writes_here : HasWrites net fresh u b d (length net.mems)
  writes_here =
      subst (λ zs. HasWrites net zs u b d (length net.mems)) fs_are
      (subst (λ w. HasWrites net fs w b d (length net.mems)) v_is writes)

  pub cone_behind : IsCone net (first ++ last ∷ []) d answered
  cone_behind =
      subst (λ ids. IsCone net ids d answered) all_are
      (subst (λ w. IsCone net all d w) (sym answered_is)
      (grown_cone net first all part t u before m cone whole own sub old needs fresh new assumed a b d adds copied_here
      each kept_here nexts_here writes_here))

  pub stands_behind : StandsBehind part t d answered
  stands_behind =
      subst (λ w. StandsBehind part t d w) (sym answered_is)
      (grown_stands net first all part t u before m cone whole own sub old needs fresh new assumed a b d adds copied_here
      each kept_here nexts_here writes_here)
