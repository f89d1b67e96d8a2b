-- Marks of needed nodes: one more, those of a register and of a memory, and the end.
use Rattle.std.specs.Prelude.{◌≡◌, refl, ℕ, zero, suc, ◌+◌, ◌<◌, ◌≤◌, Bool, true, false, List, [], ◌∷◌, ◌++◌}
use Rattle.std.specs.Prelude.{length, Some, is_none, slice_get, slice_index_or, slice_set, take, replicate}
use Rattle.std.proofs.Common.{ap, sym, ◌∙◌, arith, subst, true≢false, ◌⊎◌, inl, inr}
use Rattle.std.proofs.lemmas.Option.{same_Some, slice_get-get_or}
use Rattle.std.proofs.lemmas.List.{take_at, take_all, length-map}
use Rattle.fv_graph.proofs.Lists.{get_less, get_some, get_set, get_unset, length_set, length_more}
use Rattle.fv_graph.proofs.Moves.{same_or_not}
use Rattle.wn_net.specs.declared.node.Node.{Node}
use Rattle.wn_net.specs.declared.node.Node.TheVariants as n
use Rattle.wn_net.specs.declared.parts.Reg.{Reg}
use Rattle.wn_net.specs.declared.parts.Mem.{Mem}
use Rattle.wn_net.specs.declared.parts.MemWrite.{MemWrite}
use Rattle.wn_net.specs.Net.{Netlist, IsNet, AreNodes}
use Rattle.wn_net.proofs.Begun.{begun_self, begun_on}
use Rattle.wn_opt.specs.declared.marks.Marks.{Marks}
use Rattle.wn_opt.specs.Needed.{IsIn, operands, write_nodes, IsNeeded, IsNeededReg, IsNeededMem}
use Rattle.wn_opt.specs.Needed.{root, operand, next, write}
use Rattle.wn_opt.specs.Marks.{IsSet, unset, AreWritesIn, Walks, IsMore, Goes, IsFollowed, AreNeeds, AreIn}
use Rattle.wn_opt.specs.Marks.{AreNeeded, AreWritesNeeded}
use Rattle.wn_opt.proofs.In.{in_none, in_front, in_last, in_push, in_begun, get_begun}
use Rattle.wn_opt.proofs.Framing.{take_more}
use Rattle.wn_opt.proofs.Before.{needed_there, fits_in}

-- ---- counts

pub unset_set : (bs : List Bool) (i : ℕ) → slice_get bs i ≡ Some false → unset (slice_set bs i true) + 1 ≡ unset bs
unset_set [] i e = absurd (true≢false (ap is_none e))
unset_set (true ∷ bs) zero e = absurd (true≢false (same_Some true false e))
unset_set (false ∷ bs) zero e = refl
unset_set (true ∷ bs) (suc i) e = unset_set bs i e
unset_set (false ∷ bs) (suc i) e = ap (λ k. k + 1) (unset_set bs i e)

pub none_set : (k i : ℕ) → IsSet (replicate k false) i → ⊥
none_set zero i e = true≢false (ap is_none e)
none_set (suc k) zero e = true≢false (sym (same_Some false true e))
none_set (suc k) (suc i) e = none_set k i e

pub all_unset : (k : ℕ) → unset (replicate k false) ≡ k
all_unset zero = refl
all_unset (suc k) = omega (arith, all_unset k)

pub length-unmarked : (k : ℕ) → length (replicate k false) ≡ k
length-unmarked zero = refl
length-unmarked (suc k) = omega (arith, length-unmarked k)

set_one : (bs : List Bool) (i j : ℕ) → i < length bs → IsSet bs j → IsSet (slice_set bs i true) j
set_one bs i j less e = by (same_or_not j i)
  where
    by : (j ≡ i) ⊎ (j ≡ i → ⊥) → IsSet (slice_set bs i true) j
    by (inl is) = ap (slice_get (slice_set bs i true)) is ∙ get_set bs i true less
    by (inr other) = get_unset bs i j true other ∙ e

pub was_set : (P : ℕ → Type 0) (bs : List Bool) (i j : ℕ) → P i → ((k : ℕ) → IsSet bs k → P k)
    → IsSet (slice_set bs i true) j → P j
was_set P bs i j here before e = by (same_or_not j i)
  where
    by : (j ≡ i) ⊎ (j ≡ i → ⊥) → P j
    by (inl is) = subst P (sym is) here
    by (inr other) = before j (sym (get_unset bs i j true other) ∙ e)

-- ---- nothing changed, and more after more

pub goes_none : (net : Netlist) (roots : List ℕ) (m : Marks) → Walks net roots m → Goes net roots m m
goes_none net roots m w = record {
  walks = w;
  more = record { list = begun_self m.list.items; regs = λ i h. h; mems = λ k h. h };
}

pub more_on : (a b c : Marks) → IsMore a b → IsMore b c → IsMore a c
more_on a b c h k = record {
  list = begun_on a.list.items b.list.items c.list.items h.list k.list;
  regs = λ i s. k.regs i (h.regs i s);
  mems = λ i s. k.mems i (h.mems i s);
}

pub goes_on : (net : Netlist) (roots : List ℕ) (a b c : Marks) → Goes net roots a b → Goes net roots b c
    → Goes net roots a c
goes_on net roots a b c h k = record { walks = k.walks; more = more_on a b c h.more k.more }

pub in_more : (a b : Marks) (id : ℕ) → IsMore a b → IsIn a.list.items id → IsIn b.list.items id
in_more a b id h i = in_begun a.list.items b.list.items id h.list i

-- ---- one more node

-- the marks with one more node
pub record IsMarked (m k : Marks) (id : ℕ) : Type 0 where
  pub nodes : k.nodes.items ≡ slice_set m.nodes.items id true
  pub list : k.list.items ≡ m.list.items ++ id ∷ []
  pub regs : k.regs ≡ m.regs
  pub mems : k.mems ≡ m.mems

pub marked_goes : (net : Netlist) (roots : List ℕ) (m k : Marks) (id : ℕ) → Walks net roots m
    → IsNeeded net roots id → slice_get m.nodes.items id ≡ Some false → IsMarked m k id → Goes net roots m k
marked_goes net roots m k id w need off is =
    let less : id < length m.nodes.items = get_less m.nodes.items id false off in
    let inner : (x : ℕ) → IsIn k.list.items x → IsIn (m.list.items ++ id ∷ []) x =
    λ x h. (h.0, ap (λ xs. slice_get xs h.0) (sym is.list) ∙ h.1) in
    let outer : (x : ℕ) → IsIn (m.list.items ++ id ∷ []) x → IsIn k.list.items x =
    λ x h. (h.0, ap (λ xs. slice_get xs h.0) is.list ∙ h.1) in
    let front : (x : ℕ) → IsIn m.list.items x → IsIn k.list.items x =
    λ x h. outer x (in_front m.list.items id x h) in
    record {
      walks = record {
        whole = w.whole;
        there = w.there;
        each_node = ap length is.nodes ∙ length_set m.nodes.items id true ∙ w.each_node;
        each_reg = ap (λ v. length v.items) is.regs ∙ w.each_reg;
        each_mem = ap (λ v. length v.items) is.mems ∙ w.each_mem;
        count =
            let one = unset_set m.nodes.items id off in
            omega (arith, one, ap unset is.nodes, ap length is.list, length_more m.list.items id, w.count);
        needed = λ x h. in_push (IsNeeded net roots) m.list.items id x w.needed need (inner x h);
        listed = λ x s.
            was_set (λ y. IsIn k.list.items y) m.nodes.items id x (outer id (in_last m.list.items id))
            (λ y t. front y (w.listed y t)) (sym (ap (λ bs. slice_get bs x) is.nodes) ∙ s);
        marked = λ x h.
            ap (λ bs. slice_get bs x) is.nodes
            ∙ in_push (λ y. IsSet (slice_set m.nodes.items id true) y) m.list.items id x
            (λ y t. set_one m.nodes.items id y less (w.marked y t)) (get_set m.nodes.items id true less)
            (inner x h);
        regs = λ i s. w.regs i (sym (ap (λ v. slice_get v.items i) is.regs) ∙ s);
        mems = λ i s. w.mems i (sym (ap (λ v. slice_get v.items i) is.mems) ∙ s);
        written = λ i x s e v p h j.
            front p (w.written i x (sym (ap (λ v. slice_get v.items i) is.mems) ∙ s) e v p h j);
      };
      more = record {
        list =
            ap (take (length m.list.items)) is.list ∙ take_at m.list.items (id ∷ []) (length m.list.items) refl;
        regs = λ i s. ap (λ v. slice_get v.items i) is.regs ∙ s;
        mems = λ i s. ap (λ v. slice_get v.items i) is.mems ∙ s;
      };
    }

pub marked_listed : (m k : Marks) (id : ℕ) → IsMarked m k id → IsIn k.list.items id
marked_listed m k id is =
    let h = in_last m.list.items id in (h.0, ap (λ xs. slice_get xs h.0) is.list ∙ h.1)

-- ---- a register, a memory

pub record IsRegMarked (m k : Marks) (i : ℕ) : Type 0 where
  pub regs : k.regs.items ≡ slice_set m.regs.items i true
  pub nodes : k.nodes ≡ m.nodes
  pub list : k.list ≡ m.list
  pub mems : k.mems ≡ m.mems

pub reg_goes : (net : Netlist) (roots : List ℕ) (m k : Marks) (i : ℕ) → Walks net roots m → i < length m.regs.items
    → IsNeededReg net roots i → IsRegMarked m k i → Goes net roots m k
reg_goes net roots m k i w less need is = record {
  walks = record {
    whole = w.whole;
    there = w.there;
    each_node = ap (λ v. length v.items) is.nodes ∙ w.each_node;
    each_reg = ap length is.regs ∙ length_set m.regs.items i true ∙ w.each_reg;
    each_mem = ap (λ v. length v.items) is.mems ∙ w.each_mem;
    count = (λ j. length (is.list j).items + unset (is.nodes j).items) ∙ w.count;
    needed = λ x h. w.needed x (h.0, sym (ap (λ v. slice_get v.items h.0) is.list) ∙ h.1);
    listed = λ x s.
        let h = w.listed x (sym (ap (λ v. slice_get v.items x) is.nodes) ∙ s) in
        (h.0, ap (λ v. slice_get v.items h.0) is.list ∙ h.1);
    marked = λ x h.
        ap (λ v. slice_get v.items x) is.nodes
        ∙ w.marked x (h.0, sym (ap (λ v. slice_get v.items h.0) is.list) ∙ h.1);
    regs = λ x s.
        was_set (IsNeededReg net roots) m.regs.items i x need w.regs (sym (ap (λ bs. slice_get bs x) is.regs) ∙ s);
    mems = λ x s. w.mems x (sym (ap (λ v. slice_get v.items x) is.mems) ∙ s);
    written = λ x y s e v p h j.
        let r = w.written x y (sym (ap (λ v. slice_get v.items x) is.mems) ∙ s) e v p h j in
        (r.0, ap (λ v. slice_get v.items r.0) is.list ∙ r.1);
  };
  more = record {
    list = ap (λ v. take (length m.list.items) v.items) is.list ∙ begun_self m.list.items;
    regs = λ x s. ap (λ bs. slice_get bs x) is.regs ∙ set_one m.regs.items i x less s;
    mems = λ x s. ap (λ v. slice_get v.items x) is.mems ∙ s;
  };
}

pub reg_set : (m k : Marks) (i : ℕ) → i < length m.regs.items → IsRegMarked m k i → IsSet k.regs.items i
reg_set m k i less is = ap (λ bs. slice_get bs i) is.regs ∙ get_set m.regs.items i true less

pub record IsMemMarked (m k : Marks) (i : ℕ) : Type 0 where
  pub mems : k.mems.items ≡ slice_set m.mems.items i true
  pub nodes : k.nodes ≡ m.nodes
  pub list : k.list ≡ m.list
  pub regs : k.regs ≡ m.regs

pub mem_goes : (net : Netlist) (roots : List ℕ) (m k : Marks) (i : ℕ) (mem : Mem) → Walks net roots m
    → i < length m.mems.items → IsNeededMem net roots i → slice_get net.mems i ≡ Some mem
    → AreWritesIn m.list.items mem.writes → IsMemMarked m k i → Goes net roots m k
mem_goes net roots m k i mem w less need at done is = record {
  walks = record {
    whole = w.whole;
    there = w.there;
    each_node = ap (λ v. length v.items) is.nodes ∙ w.each_node;
    each_reg = ap (λ v. length v.items) is.regs ∙ w.each_reg;
    each_mem = ap length is.mems ∙ length_set m.mems.items i true ∙ w.each_mem;
    count = (λ j. length (is.list j).items + unset (is.nodes j).items) ∙ w.count;
    needed = λ x h. w.needed x (h.0, sym (ap (λ v. slice_get v.items h.0) is.list) ∙ h.1);
    listed = λ x s.
        let h = w.listed x (sym (ap (λ v. slice_get v.items x) is.nodes) ∙ s) in
        (h.0, ap (λ v. slice_get v.items h.0) is.list ∙ h.1);
    marked = λ x h.
        ap (λ v. slice_get v.items x) is.nodes
        ∙ w.marked x (h.0, sym (ap (λ v. slice_get v.items h.0) is.list) ∙ h.1);
    regs = λ x s. w.regs x (sym (ap (λ v. slice_get v.items x) is.regs) ∙ s);
    mems = λ x s.
        was_set (IsNeededMem net roots) m.mems.items i x need w.mems (sym (ap (λ bs. slice_get bs x) is.mems) ∙ s);
    written = λ x y s e.
        let Done : ℕ → Type 0 = λ z. (y : Mem) → slice_get net.mems z ≡ Some y → AreWritesIn m.list.items y.writes in
        let here : Done i =
        λ y e. subst (λ (z : Mem). AreWritesIn m.list.items z.writes) (same_Some mem y (sym at ∙ e)) done in
        let all : AreWritesIn m.list.items y.writes =
        was_set Done m.mems.items i x here (λ z t y f. w.written z y t f)
        (sym (ap (λ bs. slice_get bs x) is.mems) ∙ s) y e in
        λ v p h j. let r = all v p h j in (r.0, ap (λ v. slice_get v.items r.0) is.list ∙ r.1);
  };
  more = record {
    list = ap (λ v. take (length m.list.items) v.items) is.list ∙ begun_self m.list.items;
    regs = λ x s. ap (λ v. slice_get v.items x) is.regs ∙ s;
    mems = λ x s. ap (λ bs. slice_get bs x) is.mems ∙ set_one m.mems.items i x less s;
  };
}

pub mem_set : (m k : Marks) (i : ℕ) → i < length m.mems.items → IsMemMarked m k i → IsSet k.mems.items i
mem_set m k i less is = ap (λ bs. slice_get bs i) is.mems ∙ get_set m.mems.items i true less

-- ---- the begin and the end

pub record IsUnmarked (net : Netlist) (m : Marks) : Type 0 where
  pub nodes : m.nodes.items ≡ replicate (length net.nodes) false
  pub regs : m.regs.items ≡ replicate (length net.regs) false
  pub mems : m.mems.items ≡ replicate (length net.mems) false
  pub list : m.list.items ≡ []

pub walks_first : (net : Netlist) (roots : List ℕ) (m : Marks) → IsNet net → AreNodes net roots → IsUnmarked net m
    → Walks net roots m
walks_first net roots m whole own is =
    let nodes : (i : ℕ) → IsSet m.nodes.items i → ⊥ =
    λ i s. none_set (length net.nodes) i (sym (ap (λ bs. slice_get bs i) is.nodes) ∙ s) in
    let regs : (i : ℕ) → IsSet m.regs.items i → ⊥ =
    λ i s. none_set (length net.regs) i (sym (ap (λ bs. slice_get bs i) is.regs) ∙ s) in
    let mems : (i : ℕ) → IsSet m.mems.items i → ⊥ =
    λ i s. none_set (length net.mems) i (sym (ap (λ bs. slice_get bs i) is.mems) ∙ s) in
    let list : (x : ℕ) → IsIn m.list.items x → ⊥ =
    λ x h. true≢false (ap is_none (sym (ap (λ xs. slice_get xs h.0) is.list) ∙ h.1)) in
    record {
      whole = whole;
      there = λ id h. needed_there net roots id whole own h;
      each_node = ap length is.nodes ∙ length-unmarked (length net.nodes);
      each_reg = ap length is.regs ∙ length-unmarked (length net.regs);
      each_mem = ap length is.mems ∙ length-unmarked (length net.mems);
      count =
          let none : length m.list.items ≡ 0 = ap length is.list in
          omega (arith, none, ap unset is.nodes, all_unset (length net.nodes));
      needed = λ x h. absurd (list x h);
      listed = λ x s. absurd (nodes x s);
      marked = λ x h. absurd (list x h);
      regs = λ i s. absurd (regs i s);
      mems = λ i s. absurd (mems i s);
      written = λ i x s e. absurd (mems i s);
    }

-- all that the first listed nodes make needed is marked
abbrev pub AreFollowed : Netlist → Marks → ℕ → Type 0
AreFollowed net m place =
    (k user : ℕ) (x : Node) → k < place → slice_get m.list.items k ≡ Some user → slice_get net.nodes user ≡ Some x
    → IsFollowed net m x

pub followed_on : (net : Netlist) (a b : Marks) (x : Node) → IsMore a b → IsFollowed net a x → IsFollowed net b x
followed_on net a b x h f = record {
  operands = λ id i. in_more a b id h (f.operands id i);
  next = λ i r is e. in_more a b r.next h (f.next i r is e);
  reg = λ i is. h.regs i (f.reg i is);
  mem = λ k p is. h.mems k (f.mem k p is);
}

pub one_followed : (net : Netlist) (a b : Marks) (place user : ℕ) → IsMore a b → AreFollowed net a place
    → slice_get a.list.items place ≡ Some user
    → ((x : Node) → slice_get net.nodes user ≡ Some x → IsFollowed net b x) → AreFollowed net b (place + 1)
one_followed net a b place user h before at here k who x low e f = by (same_or_not k place)
  where
    by : (k ≡ place) ⊎ (k ≡ place → ⊥) → IsFollowed net b x
    by (inl is) =
        let on = get_begun a.list.items b.list.items place user h.list at in
        let same : who ≡ user = same_Some who user (sym e ∙ ap (slice_get b.list.items) is ∙ on) in
        here x (subst (λ u. slice_get net.nodes u ≡ Some x) same f)
    by (inr other) =
        let under : k < place = omega (arith, low, other) in
        let long = get_less a.list.items place user at in
        let less : k < length a.list.items = omega (arith, under, long) in
        let y = get_some a.list.items k less in
        let same : y.0 ≡ who = same_Some y.0 who
        (sym (get_begun a.list.items b.list.items k y.0 h.list y.1) ∙ e) in
        followed_on net a b x h
        (before k y.0 x under y.1 (subst (λ u. slice_get net.nodes u ≡ Some x) (sym same) f))

module _ (net : Netlist) (roots : List ℕ) (m : Marks) (w : Walks net roots m) (place : ℕ)
    (past : length m.list.items ≤ place) (followed : AreFollowed net m place) (first : AreIn m.list.items roots) where
  of_listed : (user : ℕ) (x : Node) → IsIn m.list.items user → slice_get net.nodes user ≡ Some x → IsFollowed net m x
  of_listed user x h e =
      let less = get_less m.list.items h.0 user h.1 in
      let low : h.0 < place = omega (arith, less, past) in
      followed h.0 user x low h.1 e

  all_listed : (id : ℕ) → IsNeeded net roots id → IsIn m.list.items id
  all_listed k (root id h) = first id h
  all_listed k (operand user id x up e i) = (of_listed user x (all_listed user up) e).operands id i
  all_listed k (next user i r up e f) = (of_listed user (n.Reg i) (all_listed user up) e).next i r refl f
  all_listed k (write user m0 a id mem v up e f h i) =
      w.written m0 mem ((of_listed user (n.Read m0 a) (all_listed user up) e).mem m0 a refl) f v id h i

  pub all_needed : AreNeeds net roots m
  all_needed = record {
    each_node = w.each_node;
    each_reg = w.each_reg;
    each_mem = w.each_mem;
    nodes = λ id. (λ s. w.needed id (w.listed id s), λ h. w.marked id (all_listed id h));
    regs = λ i.
        (w.regs i, λ r. (of_listed r.0 (n.Reg i) (all_listed r.0 r.1) r.2).reg i refl);
    mems = λ k.
        (w.mems k, λ r. (of_listed r.0 (n.Read k r.1) (all_listed r.0 r.2) r.3).mem k r.1 refl);
  }

-- ---- one after the other

-- the first of some nodes are marked
pub record AreMarked (net : Netlist) (roots : List ℕ) (a b : Marks) (ids : List ℕ) (count : ℕ) : Type 0 where
  pub goes : Goes net roots a b
  pub listed : AreIn b.list.items (take count ids)

pub marked_none : (net : Netlist) (roots : List ℕ) (m : Marks) (ids : List ℕ) → Walks net roots m
    → AreMarked net roots m m ids 0
marked_none net roots m ids w =
    record { goes = goes_none net roots m w; listed = λ x h. in_none (IsIn m.list.items) x h }

pub marked_more : (net : Netlist) (roots : List ℕ) (a b c : Marks) (ids : List ℕ) (i id : ℕ)
    → AreMarked net roots a b ids i → slice_get ids i ≡ Some id → Goes net roots b c → IsIn c.list.items id
    → AreMarked net roots a c ids (i + 1)
marked_more net roots a b c ids i id h at goes here = record {
  goes = goes_on net roots a b c h.goes goes;
  listed = λ x j.
      in_push (IsIn c.list.items) (take i ids) id x (λ y k. in_more b c y goes.more (h.listed y k)) here
      (j.0, ap (λ xs. slice_get xs j.0) (sym (take_more ids i id at)) ∙ j.1);
}

pub marked_all : (net : Netlist) (roots : List ℕ) (a b : Marks) (ids : List ℕ) (i : ℕ) → length ids ≤ i
    → AreMarked net roots a b ids i → AreIn b.list.items ids
marked_all net roots a b ids i past h x j =
    h.listed x (j.0, ap (λ xs. slice_get xs j.0) (take_all i ids past) ∙ j.1)

-- the nodes of the first of some writes are marked
pub record AreWritesMarked (net : Netlist) (roots : List ℕ) (a b : Marks) (ws : List MemWrite) (count : ℕ) : Type
    0 where
  pub goes : Goes net roots a b
  pub listed : AreWritesIn b.list.items (take count ws)

pub writes_none : (net : Netlist) (roots : List ℕ) (m : Marks) (ws : List MemWrite) → Walks net roots m
    → AreWritesMarked net roots m m ws 0
writes_none net roots m ws w = record {
  goes = goes_none net roots m w;
  listed = λ v id h j. in_none (λ u. IsIn m.list.items id) v h;
}

pub writes_more : (net : Netlist) (roots : List ℕ) (a b c : Marks) (ws : List MemWrite) (i : ℕ) (w : MemWrite)
    → AreWritesMarked net roots a b ws i → slice_get ws i ≡ Some w → Goes net roots b c
    → AreIn c.list.items (write_nodes w) → AreWritesMarked net roots a c ws (i + 1)
writes_more net roots a b c ws i w h at goes here = record {
  goes = goes_on net roots a b c h.goes goes;
  listed = λ v id j k.
      in_push (λ u. (x : ℕ) → IsIn (write_nodes u) x → IsIn c.list.items x) (take i ws) w v
      (λ u l x m. in_more b c x goes.more (h.listed u x l m)) here
      (j.0, ap (λ us. slice_get us j.0) (sym (take_more ws i w at)) ∙ j.1) id k;
}

pub writes_all : (net : Netlist) (roots : List ℕ) (a b : Marks) (ws : List MemWrite) (i : ℕ) → length ws ≤ i
    → AreWritesMarked net roots a b ws i → AreWritesIn b.list.items ws
writes_all net roots a b ws i past h v id j k =
    h.listed v id (j.0, ap (λ us. slice_get us j.0) (take_all i ws past) ∙ j.1) k

-- ---- what is needed is there

pub mark_there : (net : Netlist) (roots : List ℕ) (m : Marks) (id : ℕ) → Walks net roots m → IsNeeded net roots id
    → id < length m.nodes.items
mark_there net roots m id w need = omega (arith, w.there id need, w.each_node)

pub reg_there : (net : Netlist) (roots : List ℕ) (m : Marks) (user i : ℕ) → Walks net roots m
    → slice_get net.nodes user ≡ Some (n.Reg i) → i < length m.regs.items
reg_there net roots m user i w e =
    omega (arith, fits_in net user (n.Reg i) w.whole e, length-map net.regs (λ (r : Reg). r.width), w.each_reg)

pub mem_there : (net : Netlist) (roots : List ℕ) (m : Marks) (user k a : ℕ) → Walks net roots m
    → slice_get net.nodes user ≡ Some (n.Read k a) → k < length m.mems.items
mem_there net roots m user k a w e =
    omega (
      arith,
      (fits_in net user (n.Read k a) w.whole e).0,
      length-map net.mems (λ (x : Mem). x.width),
      w.each_mem,
    )

-- what a needed node reads is needed
pub operands_needed : (net : Netlist) (roots : List ℕ) (user : ℕ) (x : Node) → IsNeeded net roots user
    → slice_get net.nodes user ≡ Some x → AreNeeded net roots (operands x)
operands_needed net roots user x need e id i = operand user id x need e i

pub next_needed : (net : Netlist) (roots : List ℕ) (user i : ℕ) (r : Reg) → IsNeeded net roots user
    → slice_get net.nodes user ≡ Some (n.Reg i) → slice_get net.regs i ≡ Some r → IsNeeded net roots r.next
next_needed net roots user i r need e f = next user i r need e f

pub writes_needed : (net : Netlist) (roots : List ℕ) (user k a : ℕ) (m : Mem) → IsNeeded net roots user
    → slice_get net.nodes user ≡ Some (n.Read k a) → slice_get net.mems k ≡ Some m
    → AreWritesNeeded net roots m.writes
writes_needed net roots user k a m need e f w i id j = write user k a id m w need e f i j

pub roots_needed : (net : Netlist) (roots : List ℕ) → AreNeeded net roots roots
roots_needed net roots id h = root id h

pub read_bit : (bs : List Bool) (i : ℕ) (b v : Bool) → i < length bs → b ≡ slice_index_or bs i b → b ≡ v
    → slice_get bs i ≡ Some v
read_bit bs i b v less read e = slice_get-get_or bs i b less ∙ ap Some (sym read ∙ e)

-- a register is followed where it is marked, and its next node listed
pub reg_followed : (net : Netlist) (m : Marks) (i : ℕ) (r : Reg) → slice_get net.regs i ≡ Some r
    → IsIn m.list.items r.next → IsSet m.regs.items i → IsFollowed net m (n.Reg i)
reg_followed net m i r at here on = record {
  operands = λ id h. in_none (IsIn m.list.items) id h;
  next = λ j q is e.
      let same : r ≡ q = same_Some r q (sym at ∙ ap (slice_get net.regs) (reg_is i j is) ∙ e) in
      subst (λ (z : Reg). IsIn m.list.items z.next) same here;
  reg = λ j is. ap (slice_get m.regs.items) (sym (reg_is i j is)) ∙ on;
  mem = λ k a is. absurd (no_read i k a is);
}
  where
    reg_is : (i j : ℕ) → n.Reg i ≡ n.Reg j → i ≡ j
    reg_is i j e = cc

    no_read : (i k a : ℕ) → n.Reg i ≡ n.Read k a → ⊥
    no_read i k a e = cc

-- a read is followed where its address is listed, and its memory marked
pub read_followed : (net : Netlist) (m : Marks) (k a : ℕ) → AreIn m.list.items (operands (n.Read k a))
    → IsSet m.mems.items k → IsFollowed net m (n.Read k a)
read_followed net m k a here on = record {
  operands = here;
  next = λ i r is e. absurd (no_reg k a i is);
  reg = λ i is. absurd (no_reg k a i is);
  mem = λ j b is. ap (slice_get m.mems.items) (sym (read_is k a j b is)) ∙ on;
}
  where
    read_is : (k a j b : ℕ) → n.Read k a ≡ n.Read j b → k ≡ j
    read_is k a j b e = cc

    no_reg : (k a i : ℕ) → n.Read k a ≡ n.Reg i → ⊥
    no_reg k a i e = cc

-- another node is followed where what it reads is listed
pub other_followed : (net : Netlist) (m : Marks) (x : Node) → AreIn m.list.items (operands x)
    → ((i : ℕ) → x ≡ n.Reg i → ⊥) → ((k a : ℕ) → x ≡ n.Read k a → ⊥) → IsFollowed net m x
other_followed net m x here no_reg no_read = record {
  operands = here;
  next = λ i r is e. absurd (no_reg i is);
  reg = λ i is. absurd (no_reg i is);
  mem = λ k a is. absurd (no_read k a is);
}

pub are_in_more : (a b : Marks) (ids : List ℕ) → IsMore a b → AreIn a.list.items ids → AreIn b.list.items ids
are_in_more a b ids h here x i = in_more a b x h (here x i)
