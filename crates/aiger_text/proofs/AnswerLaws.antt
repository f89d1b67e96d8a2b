-- What the parts of a reader say of the text, and that no text has two answers.
use Rattle.std.proofs.Common.{◌≡◌, ℕ, ◌+◌, ◌*◌, ◌/◌, ◌<◌, ◌≤◌, ◌^◌, List, [], ◌∷◌, ◌++◌, length, map, Option, Some}
use Rattle.std.proofs.Common.{None, Result, Ok, Err, refl, ap, sym, ◌∙◌, subst, ◌⊎◌, inl, inr, get_or, arith}
use Rattle.std.specs.Prelude.{slice_get, All, IfOk, OnOk, IfErr}
use Rattle.std.proofs.lemmas.Bool.{cases_order}
use Rattle.std.proofs.lemmas.List.{length-map, length-append}
use Rattle.std.proofs.lemmas.Option.{none-some, same_Some, slice_get-get_or}
use Rattle.bb_aig.specs.declared.node.AigNode.{AigNode}
use Rattle.fv_graph.specs.Graph.{IsOrder, IsSimpleCircle}
use Rattle.fv_graph.proofs.Ends.{no_circle_beside}
use Rattle.aiger_text.specs.declared.fault.AagFault.{AagFault}
use Rattle.aiger_text.specs.declared.fault.AagFault.TheVariants.{Header, Kind, Literal, Twice, Open, Undefined, Loop}
use Rattle.aiger_text.specs.declared.fault.AagFault.TheVariants.{Memory}
use Rattle.aiger_text.specs.declared.gate.Gate.{Gate}
use Rattle.aiger_text.specs.declared.wires.Wire.{Wire}
use Rattle.aiger_text.specs.Faults.{OrMemory, OnlyMemory}
use Rattle.aiger_text.specs.Said.{Said, variable, variables, said_by}
use Rattle.aiger_text.specs.Profile.{undefined_line, DependsOnItself, IsLoop, literal_value, Meets, IsOutput}
use Rattle.aiger_text.specs.Profile.{IsOfProfile, HasCause, in_line, in_use, in_loop, IsGraphOf, IsReadGraph, Answers}
use Rattle.aiger_text.specs.Profile.{IsRefusedBy}
use Rattle.aiger_text.specs.Wires.{IsUndefined, IsWired, AreNodes, IsFew, IsLooped, successors, MeetsWires, IsBuilt}
use Rattle.aiger_text.specs.Circles.{IsOnCircle, IsFirstOnCircle}
use Rattle.aiger_text.proofs.BodyLaws.{or_memory}
use Rattle.aiger_text.proofs.SaidLaws.{AreVariables, said_variables, same_ok, err_ok}
use Rattle.aiger_text.proofs.EndLaws.{end_less, gate_at, same_count}
use Rattle.aiger_text.proofs.ValueLaws.{lifted, lifts, lowered, lowers, root_lowered}
use Rattle.aiger_text.proofs.DependLaws.{is_within, depends_circle, first_loop}
use Rattle.aiger_text.proofs.SearchLaws.{cases_of}

-- ---- parts

all_variables : (said : Said) → length (variables said) ≡ length said.inputs + length said.gates
all_variables said =
    length-append (map variable said.inputs) (map (λ (g : Gate). variable g.literal) said.gates)
    ∙ ap (λ n. n + length (map (λ (g : Gate). variable g.literal) said.gates)) (length-map said.inputs variable)
    ∙ ap (λ n. length said.inputs + n) (length-map said.gates (λ (g : Gate). variable g.literal))

module _ (bytes : List ℕ) (said : Said) (inputs root : ℕ) (wires : List Wire) (e : said_by bytes ≡ Ok said)
    (h : IsWired said inputs root wires) where
  count : inputs + length wires ≡ length (variables said)
  count =
      let a = all_variables said in
      let b = same_count (variables said) said.gates wires h.wires_are in
      let c = h.count in
      omega (arith, a, b, c)

  pub wired_nodes : AreNodes inputs root wires
  wired_nodes = record {
    few = let f = h.few in omega (arith, f, count);
    root_there =
        let l = end_less (variables said) said.output.literal root h.root_is in omega (arith, l, count);
    left_there = λ k w f.
        let g = gate_at (variables said) said.gates wires h.wires_are k w f in
        let l = end_less (variables said) g.0.left w.left g.2.left in
        omega (arith, l, count);
    right_there = λ k w f.
        let g = gate_at (variables said) said.gates wires h.wires_are k w f in
        let l = end_less (variables said) g.0.right w.right g.2.right in
        omega (arith, l, count);
    within = is_within said inputs root wires h (said_variables bytes said e);
  }

  -- a gate that depends on itself is refused
  pub loop_cause : (f : AagFault) → undefined_line said ≡ None → IsLooped inputs wires f
      → OrMemory f (HasCause bytes f)
  loop_cause f u l =
      or_memory f ((k : ℕ) × (w : Wire) × IsFirstOnCircle (successors inputs wires) (Some k)
      × (slice_get wires k ≡ Some w) × (f ≡ Loop w.line)) (HasCause bytes f) l
      (λ r. in_loop said r.1.line e u
      (first_loop said inputs root wires h (said_variables bytes said e) r.0 r.1 r.2 r.3) r.4)

  -- what is built is the text's graph
  pub graph_is : (graph : List AigNode) (lit : ℕ) → undefined_line said ≡ None
      → IsFirstOnCircle (successors inputs wires) None → IsBuilt inputs root wires graph lit
      → (s : Said) × IsOfProfile bytes s × IsGraphOf s graph lit
  graph_is graph lit u c b = (said, profile, graph_of) where
    a : AreVariables (variables said)
    a = said_variables bytes said e

    profile : IsOfProfile bytes said
    profile = record {
      says = e;
      defined = u;
      in_order = λ k d. c k (depends_circle said inputs root wires h a k d);
    }

    graph_of : IsGraphOf said graph lit
    graph_of = record {
      count = b.count ∙ h.count;
      inputs = λ k l. b.first k (let n = h.count in omega (arith, l, n));
      nodes =
          let n = b.nodes in
          let i = h.count in
          let g = same_count (variables said) said.gates wires h.wires_are in
          omega (arith, n, i, g);
      literal = b.literal;
      output = λ x. record {
        some = (lifted (b.some x).0 (variables said), lifts said inputs root wires h a x (b.some x).0 (b.some x).1);
        same = λ v m.
            sym (root_lowered said inputs root wires h a x v m)
            ∙ b.same x (lowered v (variables said)) (lowers said inputs root wires h a x v m);
      };
    }

  -- what is answered, where all variables are defined
  pub answers_of : (r : Result (List AigNode × ℕ) AagFault) → undefined_line said ≡ None
      → IfOk r (λ x. IsBuilt inputs root wires x.0 x.1) → OnOk r (IsFirstOnCircle (successors inputs wires) None)
      → IfErr r (IsLooped inputs wires) → Answers IsReadGraph bytes r
  answers_of (Ok x) u b o l = graph_is x.0 x.1 u o b
  answers_of (Err f) u b o l = loop_cause f u l

-- the operands are of few nodes
pub nodes_few : (inputs root : ℕ) (wires : List Wire) → AreNodes inputs root wires → All IsFew wires
nodes_few inputs root wires h = λ k d less.
    let e = slice_get-get_or wires k d less in
    let l = h.left_there k (get_or wires k d) e in
    let r = h.right_there k (get_or wires k d) e in
    let f = h.few in
    (omega (arith, l, f), omega (arith, r, f))

-- where the gates stand in an order none is on a circle
pub none_on_circle : (graph : List (List ℕ)) (order : List ℕ) → IsOrder graph order → IsFirstOnCircle graph None
none_on_circle graph order o = λ i c. no_circle_beside graph order (i ∷ c.0) o c.1

-- a circle has a gate on it
pub some_on_circle : (graph : List (List ℕ)) (circle : List ℕ) → IsSimpleCircle graph circle
    → (i : ℕ) × IsOnCircle graph i
some_on_circle graph [] c = absurd c.0
some_on_circle graph (i ∷ rest) c = (i, (rest, c.0))

-- a line is refused
pub line_cause : (bytes : List ℕ) (e : AagFault) → OrMemory e (said_by bytes ≡ Err e) → OrMemory e (HasCause bytes e)
line_cause bytes e h = or_memory e (said_by bytes ≡ Err e) (HasCause bytes e) h (λ p. in_line p)

-- a variable isn't defined
pub use_cause : (bytes : List ℕ) (said : Said) (e : AagFault) → said_by bytes ≡ Ok said
    → IsUndefined (undefined_line said) e → OrMemory e (HasCause bytes e)
use_cause bytes said e s h =
    or_memory e ((line : ℕ) × (e ≡ Undefined line) × (undefined_line said ≡ Some line)) (HasCause bytes e) h
    (λ p. in_use said p.0 s p.2 p.1)

-- ---- one answer

same_err : {X : Type 0} (e f : AagFault) → ◌≡◌ {A = Result X AagFault} (Err e) (Err f) → e ≡ f
same_err e f h = cc

loops_same : (gates : List Gate) (k l : ℕ) → IsLoop gates k → IsLoop gates l → k ≡ l
loops_same gates k l p q = by (cases_order p.place q.place) where
  by : (p.place ≡ q.place) ⊎ ((p.place < q.place) ⊎ (q.place < p.place)) → k ≡ l
  by (inl e) =
      let g = same_Some p.gate q.gate (sym p.gate_is ∙ ap (slice_get gates) e ∙ q.gate_is) in
      sym p.line_is ∙ ap (λ (x : Gate). x.line) g ∙ q.line_is
  by (inr (inl less)) = absurd (q.first p.place less p.depends)
  by (inr (inr less)) = absurd (p.first q.place less q.depends)

same_said : (bytes : List ℕ) (s t : Said) → said_by bytes ≡ Ok s → said_by bytes ≡ Ok t → s ≡ t
same_said bytes s t p q = same_ok s t (sym p ∙ q)

not_both : (bytes : List ℕ) (e : AagFault) (s : Said) → said_by bytes ≡ Err e → said_by bytes ≡ Ok s → ⊥
not_both bytes e s p q = err_ok e s (sym p ∙ q)

cause_same : (bytes : List ℕ) (e f : AagFault) → HasCause bytes e → HasCause bytes f → e ≡ f
cause_same bytes e f (in_line p) (in_line q) = same_err e f (sym p ∙ q)
cause_same bytes e f (in_line p) (in_use t m q v g) = absurd (not_both bytes e t p q)
cause_same bytes e f (in_line p) (in_loop t m q v l g) = absurd (not_both bytes e t p q)
cause_same bytes e f (in_use s k p u g) (in_line q) = absurd (not_both bytes f s q p)
cause_same bytes e f (in_use s k p u g) (in_use t m q v h) =
    let same = same_Some k m (sym u ∙ ap undefined_line (same_said bytes s t p q) ∙ v) in
    g ∙ ap (λ n. Undefined n) same ∙ sym h
cause_same bytes e f (in_use s k p u g) (in_loop t m q v l h) =
    absurd (none-some k (sym v ∙ ap undefined_line (same_said bytes t s q p) ∙ u))
cause_same bytes e f (in_loop s k p u l g) (in_line q) = absurd (not_both bytes f s q p)
cause_same bytes e f (in_loop s k p u l g) (in_use t m q v h) =
    absurd (none-some m (sym u ∙ ap undefined_line (same_said bytes s t p q) ∙ v))
cause_same bytes e f (in_loop s k p u l g) (in_loop t m q v o h) =
    let there = subst (λ (x : Said). IsLoop x.gates k) (same_said bytes s t p q) l in
    g ∙ ap (λ n. Loop n) (loops_same t.gates k m there o) ∙ sym h

no_cause : (bytes : List ℕ) (said : Said) (e : AagFault) → IsOfProfile bytes said → HasCause bytes e → ⊥
no_cause bytes said e h (in_line p) = not_both bytes e said p h.says
no_cause bytes said e h (in_use t m q v g) =
    none-some m (sym h.defined ∙ ap undefined_line (same_said bytes said t h.says q) ∙ v)
no_cause bytes said e h (in_loop t m q v l g) =
    h.in_order l.place
    (subst (λ (x : Said). DependsOnItself x.gates l.place) (same_said bytes t said q h.says) l.depends)

-- a text that has a cause is refused by it, one that says a graph isn't
pub refused_by : {X : Type 0} (P : Said → X → Type 0) (bytes : List ℕ) (e : AagFault) (r : Result X AagFault)
    → Answers P bytes r → HasCause bytes e → IsRefusedBy e r
refused_by P bytes e (Ok x) h c = no_cause bytes h.0 e h.1 c
refused_by P bytes e (Err f) h c = or_memory f (HasCause bytes f) (f ≡ e) h (λ d. cause_same bytes f e d c)

memory_alone : (e : AagFault) → OrMemory e ⊥ → e ≡ Memory
memory_alone (Header line) h = absurd h
memory_alone (Kind line) h = absurd h
memory_alone (Literal line) h = absurd h
memory_alone (Twice line) h = absurd h
memory_alone (Open line) h = absurd h
memory_alone (Undefined line) h = absurd h
memory_alone (Loop line) h = absurd h
memory_alone Memory h = refl

pub only_memory : {X : Type 0} (P : Said → X → Type 0) (bytes : List ℕ) (said : Said) (r : Result X AagFault)
    → Answers P bytes r → IsOfProfile bytes said → OnlyMemory r
only_memory P bytes said (Ok x) h p = tt
only_memory P bytes said (Err e) h p =
    memory_alone e (or_memory e (HasCause bytes e) ⊥ h (λ c. no_cause bytes said e p c))
