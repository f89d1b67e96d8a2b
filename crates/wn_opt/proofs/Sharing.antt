-- Needed nodes once more, equal ones once, one after the other.
use Rattle.std.specs.Prelude.{◌≡◌, refl, ℕ, ◌<◌, ◌≤◌, Bool, true, false, List, [], ◌∷◌, ◌++◌, length, map, take}
use Rattle.std.specs.Prelude.{Some, None, Option, is_none, slice_get, slice_index}
use Rattle.std.proofs.Common.{ap, sym, ◌∙◌, arith, subst, true≢false, ◌⊎◌, inl, inr}
use Rattle.std.proofs.lemmas.Bool.{cases_lt}
use Rattle.std.proofs.lemmas.List.{length-map, nil_from_length, take_all}
use Rattle.std.proofs.lemmas.Option.{same_Some}
use Rattle.fv_graph.proofs.Lists.{get_less, get_some, get_cases}
use Rattle.wn_net.specs.declared.node.Node.{Node}
use Rattle.wn_net.specs.declared.node.Node.TheVariants as n
use Rattle.wn_net.specs.declared.parts.Input.{Input}
use Rattle.wn_net.specs.declared.parts.Reg.{Reg}
use Rattle.wn_net.specs.declared.parts.Mem.{Mem}
use Rattle.wn_net.specs.Width.{IsFitting}
use Rattle.wn_net.specs.Value.{Given}
use Rattle.wn_net.specs.Given.{IsGiven}
use Rattle.wn_net.specs.Net.{Netlist, IsNet, IsNodeOf, shape_of, widths_of, values_of, width_at, value_at}
use Rattle.wn_net.specs.Changes.{AddsNodes, IsBegun, Keeps, Shows, with_node, width_in, value_in}
use Rattle.wn_run.proofs.Own.{each_value, each_width}
use Rattle.wn_opt.specs.declared.fold.Folded.{Folded}
use Rattle.wn_opt.specs.declared.fold.Folded.TheVariants as f
use Rattle.wn_opt.specs.declared.marks.Marks.{Marks}
use Rattle.wn_opt.specs.Compact.{IsFlat}
use Rattle.wn_opt.specs.Cone.{IsPlace, place, or_zero, renamed}
use Rattle.wn_opt.specs.Folding.{folded}
use Rattle.wn_opt.specs.Hashing.{Answers, Gives, IsOnce}
use Rattle.wn_opt.specs.Marks.{AreNeeds, IsSet}
use Rattle.wn_opt.specs.Needed.{IsIn, operands, root}
use Rattle.wn_opt.specs.Parts.{ArePlaced, HasParts, without_writes}
use Rattle.wn_opt.specs.Rebuilt.{AreShared, AreWide, HasOwnInputs, IsShared}
use Rattle.wn_opt.specs.Sound.{IsSound}
use Rattle.wn_opt.specs.Table.{IsOperator}
use Rattle.wn_opt.proofs.Before.{fits_in}
use Rattle.wn_opt.proofs.Choices.{HasSameState, same_given}
use Rattle.wn_opt.proofs.Copying.{operator_fits, operator_width, renamed_operator}
use Rattle.wn_opt.proofs.In.{get_begun}
use Rattle.wn_opt.proofs.Marked.{marked_first, marked_none, marked_some, place_cases, place_or_none}
use Rattle.wn_opt.proofs.Same.{value_renamed}
use Rattle.wn_opt.proofs.Sounds.{folded_sound}

-- ---- inputs and their nodes

input_of : Node → ℕ
input_of (n.Input i) = i
input_of x = 0

pub same_input : (i j : ℕ) → n.Input i ≡ n.Input j → i ≡ j
unfolding input_of
same_input i j e = ap input_of e

-- an operator is no node of an input
pub no_input : (x : Node) (i : ℕ) → IsOperator x → x ≡ n.Input i → ⊥
no_input x i op e = true≢false (subst (λ y. IsOperator y) e op)

own_more : (a : Netlist) (x : Node) → IsOperator x → HasOwnInputs a → HasOwnInputs (with_node a x)
own_more a x op h id i e = by (get_cases a.nodes x id (n.Input i) e)
  where
    by : (slice_get a.nodes id ≡ Some (n.Input i)) ⊎ ((id ≡ length a.nodes) × (x ≡ n.Input i)) → id ≡ i
    by (inl e) = h id i e
    by (inr e) = absurd (no_input x i op e.1)

-- a call for an operator adds no node of an input
module _ (a b : Netlist) (id : ℕ) (begun : IsBegun a.nodes b.nodes) (h : HasOwnInputs a) where
  once_own : (x : Node) → IsOperator x → IsOnce a b x id → HasOwnInputs b
  once_own x op once = by (cases_lt id (length a.nodes))
    where
      Own : Netlist → Type 0
      Own net = HasOwnInputs net

      by : (id < length a.nodes) ⊎ (length a.nodes ≤ id) → HasOwnInputs b
      by (inl less) =
          let y = get_some a.nodes id less in
          let same : y.0 ≡ x = same_Some y.0 x
          (sym (get_begun a.nodes b.nodes id y.0 begun y.1) ∙ once.first.there) in
          subst Own (sym (once.known id (y.1 ∙ ap Some same))) h
      by (inr past) =
          subst Own (sym (once.added (λ k e.
          let less = get_less a.nodes k x e in
          once.first.first k (omega (arith, less, past)) (get_begun a.nodes b.nodes k x begun e))))
          (own_more a x op h)

  gives_own : (x : Node) (r : Folded) → IsSound a x r → Gives a b r id → HasOwnInputs b
  gives_own x (f.Same k) sound gives = let Own : Netlist → Type 0 = λ net. HasOwnInputs net in subst Own (sym gives.1) h
  gives_own x (f.Number width value) sound gives = once_own (n.Konst gives.word) refl gives.once
  gives_own x (f.Kept y) sound gives = once_own y sound.operator gives

  pub answers_own : (x : Node) → IsNet a → IsOperator x → IsFitting (shape_of a) (widths_of a) x → Answers a b x id
      → HasOwnInputs b
  answers_own x whole op fits answers = gives_own x (folded a x) (folded_sound a whole x op fits) answers

-- ---- nets without registers and memories

pub flat_mems : (net part : Netlist) → IsFlat net → IsFlat part → (shape_of net).mems ≡ (shape_of part).mems
flat_mems net part flat own = ap (map (λ (m : Mem). m.width)) (flat.1 ∙ sym own.1)

-- with the same inputs they have the same cycles
pub flat_given : (net part : Netlist) → IsFlat net → IsFlat part → part.inputs ≡ net.inputs → (g : Given)
    → IsGiven net g → IsGiven part g
flat_given net part flat own inputs g is =
    let regs : part.regs ≡ net.regs = own.0 ∙ sym flat.0 in
    let mems : part.mems ≡ net.mems = own.1 ∙ sym flat.1 in
    let same : HasSameState net part = record {
      inputs = inputs;
      regs_each = ap length regs;
      reg_widths = ap (map (λ (r : Reg). r.width)) regs;
      reg_starts = ap (map (λ (r : Reg). r.init)) regs;
      mems_each = ap length mems;
      mem_widths = ap (map (λ (m : Mem). m.width)) mems;
      mem_words = ap (map (λ (m : Mem). m.words)) mems;
      mem_starts = ap (map (λ (m : Mem). m.init)) mems;
    } in
    (same_given net part same g).0 is

pub no_reg : (net : Netlist) (id i : ℕ) → IsNet net → IsFlat net → slice_get net.nodes id ≡ Some (n.Reg i) → ⊥
no_reg net id i whole flat e =
    omega (arith, fits_in net id (n.Reg i) whole e, ap length (ap (map (λ (r : Reg). r.width)) flat.0))

-- ---- one node more

keeps_self : (a : Netlist) → Keeps a a
keeps_self a = record {
  longer = omega arith;
  widths = λ id less. refl;
  values = λ g id less. refl;
  given = λ g is. is;
}

pub shared_none : (net part : Netlist) (marks : List Bool) (t : List (Option ℕ)) → AreShared net marks part t
    → slice_get marks (length t) ≡ Some false → AreShared net marks part (t ++ None ∷ [])
shared_none net part marks t h off = record {
  flat = h.flat;
  inputs = h.inputs;
  nodes = h.nodes;
  own = h.own;
  places = marked_none marks t h.places off;
  widths = λ id at p. h.widths id at (place_or_none t id at p);
  values = λ g is id at p. h.values g is id at (place_or_none t id at p);
}

-- what stands for the next node is there
pub record IsNextShared (net a b : Netlist) (t : List (Option ℕ)) (at : ℕ) : Type 0 where
  pub flat : IsFlat b
  pub inputs : b.inputs ≡ net.inputs
  pub begun : IsBegun a.nodes b.nodes
  pub own : HasOwnInputs b
  pub keeps : Keeps a b
  pub wide : IsNodeOf b (width_at net (length t)) at
  pub value : (g : Given) → IsGiven net g → value_at b g at ≡ value_at net g (length t)

pub shared_some : (net a b : Netlist) (marks : List Bool) (t : List (Option ℕ)) (at : ℕ) → AreShared net marks a t
    → IsSet marks (length t) → IsNextShared net a b t at → AreShared net marks b (t ++ Some at ∷ [])
shared_some net a b marks t at h on next = record {
  flat = next.flat;
  inputs = next.inputs;
  nodes = λ i less. get_begun a.nodes b.nodes i (n.Input i) next.begun (h.nodes i less);
  own = next.own;
  places = marked_some marks t at h.places on;
  widths = place_cases (λ id k. IsNodeOf b (width_at net id) k) t at
      (λ id k p.
      let o = h.widths id k p in (omega (arith, o.0, next.keeps.longer), next.keeps.widths k o.0 ∙ o.1)) next.wide;
  values = λ g is. place_cases (λ id k. value_at b g k ≡ value_at net g id) t at
      (λ id k p. next.keeps.values g k (h.widths id k p).0 ∙ h.values g is id k p) (next.value g is);
}

-- an input's node is there
pub next_input : (net a : Netlist) (marks : List Bool) (t : List (Option ℕ)) (i : ℕ) → IsNet net → IsNet a
    → AreShared net marks a t → slice_get net.nodes (length t) ≡ Some (n.Input i) → IsNextShared net a a t i
next_input net a marks t i whole own h at =
    let few : i < length net.inputs = omega (
      arith,
      fits_in net (length t) (n.Input i) whole at,
      length-map net.inputs (λ (y : Input). y.width),
    ) in
    let node = h.nodes i few in
    record {
      flat = h.flat;
      inputs = h.inputs;
      begun = take_all (length a.nodes) a.nodes (omega arith);
      own = h.own;
      keeps = keeps_self a;
      wide = (
        get_less a.nodes i (n.Input i) node,
        each_width a i (n.Input i) own node
            ∙ ap (λ xs. slice_index (map (λ (y : Input). y.width) xs) i) h.inputs
            ∙ sym (each_width net (length t) (n.Input i) whole at),
      );
      value = λ g is.
          each_value a g i (n.Input i) own node ∙ sym (each_value net g (length t) (n.Input i) whole at);
    }

-- the value of a renamed operator
pub operator_value : (net part : Netlist) (t : List (Option ℕ)) (x : Node) (g : Given) → IsNet net
    → AreWide net part t → ((id at : ℕ) → IsPlace t id at → value_at part g at ≡ value_at net g id)
    → ArePlaced t (operands x) → slice_get net.nodes (length t) ≡ Some x
    → value_in part g (renamed t x) ≡ value_at net g (length t)
unfolding value_at width_at
operator_value net part t x g whole wide same placed at =
    value_renamed g g t (widths_of net) (values_of net g) (widths_of part) (values_of part g) x
    (record { input = λ i e. refl; reg = λ i e. refl; mem = λ m a e. refl })
    (λ a i.
    let p = placed a i in
    let is : place t a ≡ p.0 = ap or_zero p.1 in
    record {
      width = ap (slice_index (widths_of part)) is ∙ (wide a p.0 p.1).1;
      value = ap (slice_index (values_of part g)) is ∙ same a p.0 p.1;
    })
    ∙ sym (each_value net g (length t) x whole at)

module _ (net a : Netlist) (marks : List Bool) (t : List (Option ℕ)) (x : Node) (whole : IsNet net)
    (flat : IsFlat net) (h : AreShared net marks a t) (placed : ArePlaced t (operands x))
    (at : slice_get net.nodes (length t) ≡ Some x) (op : IsOperator x) where
  pub shared_fits : IsFitting (shape_of a) (widths_of a) (renamed t x)
  shared_fits = operator_fits net a t (length t) x whole (flat_mems net a flat h.flat) h.widths placed at op

  -- what a call for a renamed operator answers stands for it
  pub next_operator : (b : Netlist) (id : ℕ) → IsNet a → AddsNodes a b
      → Shows a b (width_in a (renamed t x)) (λ g. value_in a g (renamed t x)) id → Answers a b (renamed t x) id
      → IsNextShared net a b t id
  next_operator b id own adds shows answers = record {
    flat = (adds.regs ∙ h.flat.0, adds.mems ∙ h.flat.1);
    inputs = adds.inputs ∙ h.inputs;
    begun = adds.nodes;
    own = answers_own a b id adds.nodes h.own (renamed t x) own (renamed_operator t x op) shared_fits answers;
    keeps = adds.keeps;
    wide = (
      shows.node.0,
      shows.node.1 ∙ operator_width net a t (length t) x whole (flat_mems net a flat h.flat) h.widths placed at op,
    );
    value = λ g is.
        shows.value g (flat_given net a flat h.flat h.inputs g is)
        ∙ operator_value net a t x g whole h.widths (h.values g is) placed at;
  }

-- ---- the first nodes and all nodes

pub shared_first : (net part : Netlist) (marks : List Bool) → IsFlat net
    → HasParts net part (length net.inputs) (length net.regs) (length net.mems) → AreShared net marks part []
shared_first net part marks flat h =
    let count : length net.regs ≡ 0 = ap length flat.0 in
    let none : (id at : ℕ) → IsPlace [] id at → ⊥ = λ id at p. true≢false (ap is_none p) in
    record {
      flat = (
        nil_from_length part.regs (h.regs_each ∙ count),
        h.mems_are ∙ ap (λ ms. map without_writes (take (length ms) ms)) flat.1,
      );
      inputs = h.inputs_are ∙ take_all (length net.inputs) net.inputs (omega arith);
      nodes = λ i less. h.input_nodes i less;
      own = λ id i e.
          let there = get_less part.nodes id (n.Input i) e in
          let less : id < length net.inputs = omega (arith, there, h.nodes_each, count) in
          same_input id i (same_Some (n.Input id) (n.Input i) (sym (h.input_nodes id less) ∙ e));
      places = marked_first marks;
      widths = λ id at p. absurd (none id at p);
      values = λ g is id at p. absurd (none id at p);
    }

-- each root has a place where all needed nodes are marked
pub roots_placed : (net : Netlist) (roots : List ℕ) (m : Marks) (t : List (Option ℕ)) → AreNeeds net roots m
    → length t ≡ length net.nodes → ((id : ℕ) → id < length t → IsSet m.nodes.items id → (at : ℕ) × IsPlace t id at)
    → (id : ℕ) → IsIn roots id → (at : ℕ) × IsPlace t id at
roots_placed net roots m t needs each placed id h =
    let on = (needs.nodes id).1 (root id h) in
    let less = get_less m.nodes.items id true on in
    placed id (omega (arith, less, needs.each_node, each)) on

pub is_shared : (net part : Netlist) (roots : List ℕ) (m : Marks) (marks : List Bool) (t : List (Option ℕ))
    → AreNeeds net roots m → marks ≡ m.nodes.items → AreShared net marks part t → length t ≡ length net.nodes
    → IsShared net roots part t
is_shared net part roots m marks t needs are h each = record {
  flat = h.flat;
  inputs = h.inputs;
  own = h.own;
  placed = roots_placed net roots m t needs each
      (λ id less on. h.places.placed id less (ap (λ bs. slice_get bs id) are ∙ on));
  widths = h.widths;
  values = h.values;
}
