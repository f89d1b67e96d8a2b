-- The part of a net that some nodes need, from its steps, and its runs.
use Rattle.std.specs.Prelude.{◌≡◌, refl, ◌↔◌, ℕ, ◌+◌, ◌<◌, Bool, true, false, List, ◌++◌, length, map, take}
use Rattle.std.specs.Prelude.{Some, Option, slice_get}
use Rattle.std.specs.List.{AllByRecursion}
use Rattle.std.proofs.Common.{ap, sym, ◌∙◌, arith, subst, true≢false, ◌⊎◌, inl, inr}
use Rattle.std.proofs.lemmas.List.{length-map, take_all}
use Rattle.std.proofs.lemmas.Option.{same_Some}
use Rattle.fv_graph.proofs.Lists.{get_less, get_some}
use Rattle.wn_net.specs.declared.parts.Reg.{Reg}
use Rattle.wn_net.specs.declared.parts.Mem.{Mem}
use Rattle.wn_net.specs.declared.parts.State.{State}
use Rattle.wn_net.specs.Net.{Netlist, IsNet, value_at}
use Rattle.wn_run.specs.Runs.{IsMet, cycle_at}
use Rattle.wn_opt.specs.declared.marks.Marks.{Marks}
use Rattle.wn_opt.specs.Needed.{IsIn, IsNeeded, IsNeededReg, IsNeededMem}
use Rattle.wn_opt.specs.Needed.{root, operand, next, write}
use Rattle.wn_opt.specs.Cone.{IsPlace, HasPlace, place, places_of, renamed_write, KeepsReg, KeepsMem, IsCone}
use Rattle.wn_opt.specs.Cone.{AreMetOf, KeepsRuns}
use Rattle.wn_opt.specs.Marks.{IsSet, AreNeeds, AreClosed}
use Rattle.wn_opt.specs.Parts.{AreCopied, AreMemsPlaced, AreNextsPlaced, HasAssumes, HasNexts, HasSameNodes, HasWrites}
use Rattle.wn_opt.specs.Parts.{IsFrame, IsFront, with_next_node, without_writes}
use Rattle.wn_opt.proofs.Assumed.{met_of, all_of}
use Rattle.wn_opt.proofs.Begun.{map_like}
use Rattle.wn_opt.proofs.Choices.{HasSameState, same_choices, same_given, same_inputs, same_start}
use Rattle.wn_opt.proofs.Copying.{place_is}
use Rattle.wn_opt.proofs.Framing.{front_of}
use Rattle.wn_opt.proofs.Joining.{bare_at, copied_same, node_same, same_on}
use Rattle.wn_opt.proofs.Running as running
use Rattle.wn_opt.proofs.Running.{IsSameReg, IsSameMem, run_values}
use Rattle.wn_opt.proofs.Same.{IsCopy}

-- ---- what the marks say

pub needs_closed : (net : Netlist) (roots : List ℕ) (m : Marks) → AreNeeds net roots m → AreClosed net m.nodes.items
needs_closed net roots m h user a x on e i = (h.nodes a).1 (operand user a x ((h.nodes user).0 on) e i)

module _ (net part : Netlist) (roots : List ℕ) (m : Marks) (t : List (Option ℕ)) (needs : AreNeeds net roots m)
    (copied : AreCopied net m.nodes.items part t) (each : length t ≡ length net.nodes) where
  pub need_place : (id : ℕ) → IsNeeded net roots id → HasPlace t id
  need_place id h =
      let on = (needs.nodes id).1 h in
      let less = get_less m.nodes.items id true on in
      copied.placed id (omega (arith, less, needs.each_node, each)) on

  pub place_needed : (id : ℕ) → HasPlace t id → IsNeeded net roots id
  place_needed id p = (needs.nodes id).0 (copied.marked id p)

  pub nexts_placed : AreNextsPlaced net m.regs.items t
  nexts_placed i r on e =
      let q = (needs.regs i).0 on in need_place r.next (next q.0 i r q.1 q.2 e)

  pub mems_placed : AreMemsPlaced net m.mems.items t
  mems_placed k x on e w i id j =
      let q = (needs.mems k).0 on in need_place id (write q.0 k q.1 id x w q.2 q.3 e i j)

-- ---- the answered net

-- from what became of its registers, memories and assumptions
module _ (net : Netlist) (roots : List ℕ) (m : Marks) (t : List (Option ℕ)) (d : Netlist)
    (needs : AreNeeds net roots m) (front : IsFront net d) (copied : AreCopied net m.nodes.items d t)
    (each : length t ≡ length net.nodes) (inputs : d.inputs ≡ net.inputs) (regs_each : length d.regs ≡ length net.regs)
    (regs : (i : ℕ) (r : Reg) → slice_get net.regs i ≡ Some r → KeepsReg net roots d t i r)
    (mems_each : length d.mems ≡ length net.mems)
    (mems : (k : ℕ) (x : Mem) → slice_get net.mems k ≡ Some x → KeepsMem net roots d t k x)
    (assumes : d.assumes ≡ places_of t net.assumes) where
  pub cone_of : IsCone net roots d t
  cone_of = record {
    each = each;
    needed = λ id.
        (need_place net d roots m t needs copied each id, place_needed net d roots m t needs copied each id);
    nodes = copied.nodes;
    widths = λ id at p. (copied.widths id at p).1;
    input_nodes = front.input_nodes;
    reg_nodes = front.reg_nodes;
    others = copied.others;
    inputs = inputs;
    regs_each = regs_each;
    regs = regs;
    mems_each = mems_each;
    mems = mems;
    assumes = assumes;
  }

-- a front stays while next values, writes and assumptions are joined
pub front_same : (net a b : Netlist) → IsFront net a → HasSameNodes a b
    → map (λ m. m.width) b.mems ≡ map (λ m. m.width) net.mems → IsFront net b
front_same net a b h same widths = record {
  input_nodes = λ i less. ap (λ xs. slice_get xs i) same.nodes ∙ h.input_nodes i less;
  reg_nodes = λ i less. ap (λ xs. slice_get xs (length net.inputs + i)) same.nodes ∙ h.reg_nodes i less;
  input_widths = λ i x e. node_same a b x.width i same (h.input_widths i x e);
  reg_widths = λ i r e. node_same a b r.width (length net.inputs + i) same (h.reg_widths i r e);
  mem_widths = widths;
}

-- a marked register has its next node
pub reg_joined : (net a b d : Netlist) (marks : List Bool) (t : List (Option ℕ)) (i : ℕ) (r : Reg)
    → HasNexts net marks t a b (length net.regs) → d.regs ≡ b.regs → IsSet marks i → slice_get net.regs i ≡ Some r
    → slice_get d.regs i ≡ Some (with_next_node (place t r.next) r)
reg_joined net a b d marks t i r nexts same on e =
    ap (λ rs. slice_get rs i) same ∙ nexts.regs i r (get_less net.regs i r e) on e

-- which of the two a mark is
pub set_or_not : (P : Type 0) (bs : List Bool) (i : ℕ) → (IsSet bs i ↔ P) → i < length bs
    → (IsSet bs i × P) ⊎ ((slice_get bs i ≡ Some false) × (P → ⊥))
set_or_not P bs i h less = let x = get_some bs i less in by x.0 x.1
  where
    by : (b : Bool) → slice_get bs i ≡ Some b → (IsSet bs i × P) ⊎ ((slice_get bs i ≡ Some false) × (P → ⊥))
    by true e = inl (e, h.0 e)
    by false e = inr (e, λ p. true≢false (same_Some true false (sym (h.1 p) ∙ e)))

module _ (net : Netlist) (roots : List ℕ) (m : Marks) (t : List (Option ℕ)) (a b c d : Netlist)
    (needs : AreNeeds net roots m) (frame : IsFrame net a) (copied : AreCopied net m.nodes.items a t)
    (each : length t ≡ length net.nodes) (nexts : HasNexts net m.regs.items t a b (length net.regs))
    (writes : HasWrites net m.mems.items t b c (length net.mems))
    (assumes : HasAssumes net t c d (length net.assumes)) where
  same : HasSameNodes a d
  same = same_on a c d (same_on a b c nexts.same writes.same) assumes.same

  last : AreCopied net m.nodes.items d t
  last = copied_same net a d m.nodes.items t same copied

  keeps_reg : (i : ℕ) (r : Reg) → slice_get net.regs i ≡ Some r → KeepsReg net roots d t i r
  keeps_reg i r e =
      let less = get_less net.regs i r e in
      by (set_or_not (IsNeededReg net roots i) m.regs.items i (needs.regs i) (omega (arith, less, needs.each_reg)))
    where
      by : (IsSet m.regs.items i × IsNeededReg net roots i)
          ⊎ ((slice_get m.regs.items i ≡ Some false) × (IsNeededReg net roots i → ⊥)) → KeepsReg net roots d t i r
      by (inl q) = record {
        reg = with_next_node (place t r.next) r;
        there = reg_joined net a b d m.regs.items t i r nexts (assumes.regs ∙ writes.regs) q.0 e;
        width = refl;
        init = refl;
        next = λ need.
            let p = need_place net a roots m t needs copied each r.next (next need.0 i r need.1 need.2 e) in
            subst (λ k. IsPlace t r.next k) (sym (place_is t r.next p.0 p.1)) p.1;
        own = λ not. absurd (not q.1);
      }
      by (inr q) = record {
        reg = with_next_node (length net.inputs + i) r;
        there =
            ap (λ rs. slice_get rs i) (assumes.regs ∙ writes.regs)
            ∙ nexts.kept i (λ low on. q.1 ((needs.regs i).0 on)) ∙ frame.regs i r e;
        width = refl;
        init = refl;
        next = λ need. absurd (q.1 need);
        own = λ not.
            ap (λ xs. slice_get xs (length net.inputs + i)) same.nodes ∙ frame.reg_nodes i (get_less net.regs i r e);
      }

  bare : (k : ℕ) (x : Mem) → slice_get net.mems k ≡ Some x → slice_get b.mems k ≡ Some (without_writes x)
  bare k x e = ap (λ ms. slice_get ms k) nexts.mems ∙ bare_at net a frame.mems k x e

  keeps_mem : (k : ℕ) (x : Mem) → slice_get net.mems k ≡ Some x → KeepsMem net roots d t k x
  keeps_mem k x e =
      let less = get_less net.mems k x e in
      by (set_or_not (IsNeededMem net roots k) m.mems.items k (needs.mems k) (omega (arith, less, needs.each_mem)))
    where
      by : (IsSet m.mems.items k × IsNeededMem net roots k)
          ⊎ ((slice_get m.mems.items k ≡ Some false) × (IsNeededMem net roots k → ⊥)) → KeepsMem net roots d t k x
      by (inl q) = record {
        mem = record x { writes = map (renamed_write t) x.writes };
        there =
            ap (λ ms. slice_get ms k) assumes.mems ∙ writes.mems k x (get_less net.mems k x e) q.0 e;
        width = refl;
        words = refl;
        init = refl;
        writes = λ need. refl;
        none = λ not. absurd (not q.1);
      }
      by (inr q) = record {
        mem = without_writes x;
        there =
            ap (λ ms. slice_get ms k) assumes.mems ∙ writes.kept k (λ low on. q.1 ((needs.mems k).0 on)) ∙ bare k x e;
        width = refl;
        words = refl;
        init = refl;
        writes = λ need. absurd (q.1 need);
        none = λ not. refl;
      }

  mems_each : length d.mems ≡ length net.mems
  mems_each =
      ap length assumes.mems ∙ writes.each ∙ ap length (nexts.mems ∙ frame.mems) ∙ length-map net.mems without_writes

  mem_widths : map (λ m. m.width) d.mems ≡ map (λ m. m.width) net.mems
  mem_widths = map_like (λ (x : Mem). x.width) net.mems d.mems mems_each (λ i x e.
      let q = keeps_mem i x e in record { item = q.mem; there = q.there; same = q.width })

  pub is_cone : IsCone net roots d t
  is_cone =
      cone_of net roots m t d needs (front_same net a d (front_of net a frame) same mem_widths) last each
      (same.inputs ∙ frame.inputs) (ap length (assumes.regs ∙ writes.regs) ∙ nexts.each ∙ frame.regs_each) keeps_reg
      mems_each keeps_mem
      (assumes.assumes
      ∙ ap (λ xs. xs ++ places_of t (take (length net.assumes) net.assumes))
      (writes.assumes ∙ nexts.assumes ∙ frame.assumes)
      ∙ ap (places_of t) (take_all (length net.assumes) net.assumes (omega arith)))

-- ---- its runs

module _ (net : Netlist) (roots : List ℕ) (part : Netlist) (t : List (Option ℕ)) (h : IsCone net roots part t)
    (whole : IsNet net) (own : IsNet part) where
  pub same_state : HasSameState net part
  same_state = record {
    inputs = h.inputs;
    regs_each = h.regs_each;
    reg_widths = map_like (λ (r : Reg). r.width) net.regs part.regs h.regs_each (λ i r e.
        let q = h.regs i r e in record { item = q.reg; there = q.there; same = q.width });
    reg_starts = map_like (λ (r : Reg). r.init) net.regs part.regs h.regs_each (λ i r e.
        let q = h.regs i r e in record { item = q.reg; there = q.there; same = q.init });
    mems_each = h.mems_each;
    mem_widths = map_like (λ (x : Mem). x.width) net.mems part.mems h.mems_each (λ i x e.
        let q = h.mems i x e in record { item = q.mem; there = q.there; same = q.width });
    mem_words = map_like (λ (x : Mem). x.words) net.mems part.mems h.mems_each (λ i x e.
        let q = h.mems i x e in record { item = q.mem; there = q.there; same = q.words });
    mem_starts = map_like (λ (x : Mem). x.init) net.mems part.mems h.mems_each (λ i x e.
        let q = h.mems i x e in record { item = q.mem; there = q.there; same = q.init });
  }

  is_copy : IsCopy net part t
  is_copy = record {
    there = λ id p. let less = get_less t id (Some p.0) p.1 in omega (arith, less, h.each);
    nodes = h.nodes;
    widths = h.widths;
    closed = λ user a x p e i. (h.needed a).0 (operand user a x ((h.needed user).1 p) e i);
  }

  nexts : running.HasNexts net part t
  nexts = record {
    regs = λ i id r p e f.
        let q = h.regs i r f in
        record { reg = q.reg; there = q.there; next = q.next (id, (h.needed id).1 p, e) };
    mems = λ k a id x p e f.
        let q = h.mems k x f in
        record { mem = q.mem; there = q.there; width = q.width; writes = q.writes (id, a, (h.needed id).1 p, e) };
    written = λ k a id p x w at e f i j.
        (h.needed p).0 (write id k a p x w ((h.needed id).1 at) e f i j);
  }

  values : (inputs : ℕ → List ℕ) (start : State) (k id at : ℕ) → IsPlace t id at
      → value_at part (cycle_at part inputs start k) at ≡ value_at net (cycle_at net inputs start k) id
  values inputs start k id at p = run_values net part t whole own is_copy nexts inputs start k id at p

  met : (inputs : ℕ → List ℕ) (start : State) (k : ℕ)
      → IsMet part (cycle_at part inputs start k) ↔ AreMetOf net t (cycle_at net inputs start k)
  met inputs start k =
      let P : List ℕ → Type 0 = λ ids.
      AllByRecursion (λ id. value_at part (cycle_at part inputs start k) id ≡ 0 → ⊥) ids
      ↔ AreMetOf net t (cycle_at net inputs start k) in
      subst P (sym h.assumes)
      (met_of net part t (cycle_at net inputs start k) (cycle_at part inputs start k) net.assumes
      (values inputs start k))

  all_met : ((id : ℕ) → IsIn net.assumes id → IsIn roots id) → (inputs : ℕ → List ℕ) (start : State) (k : ℕ)
      → IsMet part (cycle_at part inputs start k) ↔ IsMet net (cycle_at net inputs start k)
  all_met all inputs start k =
      let m = met inputs start k in
      let p : (id : ℕ) → IsIn net.assumes id → HasPlace t id = λ id i. (h.needed id).0 (root id (all id i)) in
      let q = all_of (λ id. value_at net (cycle_at net inputs start k) id ≡ 0 → ⊥) t net.assumes p in
      (λ x. q.0 (m.0 x), λ x. m.1 (q.1 x))

  pub keeps_runs : KeepsRuns net roots part t
  keeps_runs = record {
    choices = same_choices net part same_state;
    given = same_given net part same_state;
    inputs = same_inputs net part same_state;
    start = same_start net part same_state;
    values = values;
    met = met;
    all_met = all_met;
  }

-- ---- with equations for what was read

module _ (net : Netlist) (roots : List ℕ) (m : Marks) (ns : List Bool) (t u : List (Option ℕ)) (a : Netlist)
    (needs : AreNeeds net roots m) (nodes_are : ns ≡ m.nodes.items) (table_is : u ≡ t)
    (copied : AreCopied net ns a t) (each : length t ≡ length net.nodes) where
  by_marks : AreCopied net m.nodes.items a t
  by_marks = subst (λ bs. AreCopied net bs a t) nodes_are copied

  pub copied_by : (b : Netlist) → HasSameNodes a b → AreCopied net ns b u
  copied_by b same = subst (λ v. AreCopied net ns b v) (sym table_is) (copied_same net a b ns t same copied)

  pub nexts_by : (rs : List Bool) → rs ≡ m.regs.items → AreNextsPlaced net rs u
  nexts_by rs e =
      subst (λ v. AreNextsPlaced net rs v) (sym table_is)
      (subst (λ bs. AreNextsPlaced net bs t) (sym e) (nexts_placed net a roots m t needs by_marks each))

  pub mems_by : (ms : List Bool) → ms ≡ m.mems.items → AreMemsPlaced net ms u
  mems_by ms e =
      subst (λ v. AreMemsPlaced net ms v) (sym table_is)
      (subst (λ bs. AreMemsPlaced net bs t) (sym e) (mems_placed net a roots m t needs by_marks each))

  pub cone_by : (rs ms : List Bool) (answered : List (Option ℕ)) (b c d : Netlist) → rs ≡ m.regs.items
      → ms ≡ m.mems.items → answered ≡ t → IsFrame net a → HasNexts net rs u a b (length net.regs)
      → HasWrites net ms u b c (length net.mems) → HasAssumes net u c d (length net.assumes)
      → IsCone net roots d answered
  cone_by rs ms answered b c d er em ea frame nexts writes assumes =
      subst (λ v. IsCone net roots d v) (sym ea)
      (is_cone net roots m t a b c d needs frame by_marks each
      (subst (λ bs. HasNexts net bs t a b (length net.regs)) er
      (subst (λ v. HasNexts net rs v a b (length net.regs)) table_is nexts))
      (subst (λ bs. HasWrites net bs t b c (length net.mems)) em
      (subst (λ v. HasWrites net ms v b c (length net.mems)) table_is writes))
      (subst (λ v. HasAssumes net v c d (length net.assumes)) table_is assumes))
