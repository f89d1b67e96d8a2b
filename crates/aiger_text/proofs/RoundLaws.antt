-- What the text of a graph says is of the profile, and its output is the graph's root.
use Rattle.std.proofs.Common.{◌≡◌, ℕ, zero, suc, ◌+◌, ◌-◌, ◌*◌, ◌/◌, ◌%◌, ◌<◌, ◌≤◌, ◌^◌, ◌==◌, Bool, true, false, cond}
use Rattle.std.proofs.Common.{◌&&◌, ◌||◌, List, [], ◌∷◌, ◌++◌, length, map, Option, Some, None, refl, ap, sym, ◌∙◌}
use Rattle.std.proofs.Common.{subst, ◌⊎◌, inl, inr, arith}
use Rattle.std.specs.Prelude.{nat_eq, slice_get, slice_index_or}
use Rattle.std.specs.List.{list_any}
use Rattle.std.proofs.lemmas.Bool.{cases_eq, eq-eqb, ne_eqb, cases_Bool}
use Rattle.std.proofs.lemmas.List.Folds.{list_any-append}
use Rattle.std.proofs.lemmas.Option.{none-some, same_Some, slice_get_within}
use Rattle.bb_aig.specs.declared.node.AigNode.{AigNode}
use Rattle.bb_aig.specs.declared.node.AigNode.TheVariants as n
use Rattle.bb_aig.specs.Graph.{is_negated, turned, literal, values_of, lit_at, inputs_after, IsFitting, AreFitting, IsGraph}
use Rattle.bb_aig.specs.Graph.{IsLit, inputs_of}
use Rattle.fv_lines.specs.Words.{next_place}
use Rattle.fv_graph.proofs.Lists.{get_some}
use Rattle.aiger_text.specs.declared.gate.Gate.{Gate}
use Rattle.aiger_text.specs.Said.{Said, variable, variables, said_by}
use Rattle.aiger_text.specs.Profile.{is_known, unknown_line, undefined_line, Needs, LeadsTo, DependsOnItself}
use Rattle.aiger_text.specs.Profile.{literal_value, Meets, IsOutput, IsOfProfile, SaysGraph}
use Rattle.aiger_text.specs.Written.{aag_text}
use Rattle.aiger_text.proofs.SearchLaws.{cases_of}
use Rattle.aiger_text.proofs.NodeLaws.{gate_operands, input_value, false_value, gate_value, only_first, first_node}
use Rattle.aiger_text.proofs.TextLaws.{input_lits, gates_from, count_lits, text_said}

-- ---- lines and nodes

-- what a gate's line says is what its node says
record IsGateOf (g : Gate) (k a b : ℕ) : Type 0 where
  literal_is : g.literal ≡ 2 * k
  left_is : g.left ≡ a
  right_is : g.right ≡ b

gate_index : (line k : ℕ) (gs : List AigNode) (i : ℕ) (g : Gate) → slice_get (gates_from line k gs) i ≡ Some g
    → (j a b : ℕ) × (slice_get gs j ≡ Some (n.And a b)) × IsGateOf g (k + j) a b
gate_index line k [] i g e = absurd (none-some g e)
gate_index line k (n.False ∷ gs) i g e = one_on (gate_index line (k + 1) gs i g e) where
  one_on : (j a b : ℕ) × (slice_get gs j ≡ Some (n.And a b)) × IsGateOf g (k + 1 + j) a b
      → (j a b : ℕ) × (slice_get (n.False ∷ gs) j ≡ Some (n.And a b)) × IsGateOf g (k + j) a b
  one_on r =
      let z : k + 1 + r.0 ≡ k + suc r.0 = omega arith in
      (suc r.0, r.1, r.2, r.3, subst (λ m. IsGateOf g m r.1 r.2) z r.4)
gate_index line k (n.Input m ∷ gs) i g e = one_on (gate_index line (k + 1) gs i g e) where
  one_on : (j a b : ℕ) × (slice_get gs j ≡ Some (n.And a b)) × IsGateOf g (k + 1 + j) a b
      → (j a b : ℕ) × (slice_get (n.Input m ∷ gs) j ≡ Some (n.And a b)) × IsGateOf g (k + j) a b
  one_on r =
      let z : k + 1 + r.0 ≡ k + suc r.0 = omega arith in
      (suc r.0, r.1, r.2, r.3, subst (λ m. IsGateOf g m r.1 r.2) z r.4)
gate_index line k (n.And a b ∷ gs) zero g e =
    let s = same_Some (record { line = line; literal = 2 * k; left = a; right = b }) g e in
    let z : k ≡ k + 0 = omega arith in (
      0,
      a,
      b,
      refl,
      record {
        literal_is = ap (λ (x : Gate). x.literal) (sym s) ∙ ap (λ m. 2 * m) z;
        left_is = ap (λ (x : Gate). x.left) (sym s);
        right_is = ap (λ (x : Gate). x.right) (sym s);
      },
    )
gate_index line k (n.And c d ∷ gs) (suc i) g e = one_on (gate_index (next_place line) (k + 1) gs i g e) where
  one_on : (j a b : ℕ) × (slice_get gs j ≡ Some (n.And a b)) × IsGateOf g (k + 1 + j) a b
      → (j a b : ℕ) × (slice_get (n.And c d ∷ gs) j ≡ Some (n.And a b)) × IsGateOf g (k + j) a b
  one_on r =
      let z : k + 1 + r.0 ≡ k + suc r.0 = omega arith in
      (suc r.0, r.1, r.2, r.3, subst (λ m. IsGateOf g m r.1 r.2) z r.4)

gate_line_at : (line k : ℕ) (gs : List AigNode) (j a b : ℕ) → slice_get gs j ≡ Some (n.And a b)
    → (i : ℕ) × (g : Gate) × (slice_get (gates_from line k gs) i ≡ Some g) × IsGateOf g (k + j) a b
gate_line_at line k [] j a b e = absurd (none-some (n.And a b) e)
gate_line_at line k (n.False ∷ gs) zero a b e = absurd (other (same_Some n.False (n.And a b) e)) where
  other : n.False ≡ n.And a b → ⊥
  other q = cc
gate_line_at line k (n.Input m ∷ gs) zero a b e = absurd (other (same_Some (n.Input m) (n.And a b) e)) where
  other : n.Input m ≡ n.And a b → ⊥
  other q = cc
gate_line_at line k (n.And c d ∷ gs) zero a b e =
    let s = same_Some (n.And c d) (n.And a b) e in
    let p : c ≡ a = cc in
    let q : d ≡ b = cc in
    let z : k ≡ k + 0 = omega arith in (
      0,
      record { line = line; literal = 2 * k; left = c; right = d },
      refl,
      record { literal_is = ap (λ m. 2 * m) z; left_is = p; right_is = q },
    )
gate_line_at line k (n.False ∷ gs) (suc j) a b e =
    let r = gate_line_at line (k + 1) gs j a b e in
    let z : k + 1 + j ≡ k + suc j = omega arith in
    (r.0, r.1, r.2, subst (λ m. IsGateOf r.1 m a b) z r.3)
gate_line_at line k (n.Input m ∷ gs) (suc j) a b e =
    let r = gate_line_at line (k + 1) gs j a b e in
    let z : k + 1 + j ≡ k + suc j = omega arith in
    (r.0, r.1, r.2, subst (λ m. IsGateOf r.1 m a b) z r.3)
gate_line_at line k (n.And c d ∷ gs) (suc j) a b e =
    let r = gate_line_at (next_place line) (k + 1) gs j a b e in
    let z : k + 1 + j ≡ k + suc j = omega arith in
    (suc r.0, r.1, r.2, subst (λ m. IsGateOf r.1 m a b) z r.3)

input_index : (k c : ℕ) (gs : List AigNode) (m l : ℕ) → AreFitting k c gs → slice_get (input_lits k gs) m ≡ Some l
    → (j : ℕ) × (slice_get gs j ≡ Some (n.Input (c + m))) × (l ≡ 2 * (k + j))
input_index k c [] m l f e = absurd (none-some l e)
input_index k c (n.False ∷ gs) m l f e =
    let r = input_index (k + 1) c gs m l f.1 e in let q = r.2 in (suc r.0, r.1, omega (arith, q))
input_index k c (n.And a b ∷ gs) m l f e =
    let r = input_index (k + 1) c gs m l f.1 e in let q = r.2 in (suc r.0, r.1, omega (arith, q))
input_index k c (n.Input i ∷ gs) zero l f e =
    let s = same_Some (2 * k) l e in
    let z : i ≡ c + 0 = let q : i ≡ c = f.0 in omega (arith, q) in
    (0, ap (λ x. Some (n.Input x)) z, omega (arith, s))
input_index k c (n.Input i ∷ gs) (suc m) l f e =
    let r = input_index (k + 1) (c + 1) gs m l f.1 e in
    let q = r.2 in
    let z : c + 1 + m ≡ c + suc m = omega arith in
    (suc r.0, r.1 ∙ ap (λ x. Some (n.Input x)) z, omega (arith, q))

input_line_at : (k c : ℕ) (gs : List AigNode) (j i : ℕ) → AreFitting k c gs → slice_get gs j ≡ Some (n.Input i)
    → (m : ℕ) × (i ≡ c + m) × (slice_get (input_lits k gs) m ≡ Some (2 * (k + j)))
input_line_at k c [] j i f e = absurd (none-some (n.Input i) e)
input_line_at k c (n.False ∷ gs) zero i f e = absurd (other (same_Some n.False (n.Input i) e)) where
  other : n.False ≡ n.Input i → ⊥
  other q = cc
input_line_at k c (n.And a b ∷ gs) zero i f e = absurd (other (same_Some (n.And a b) (n.Input i) e)) where
  other : n.And a b ≡ n.Input i → ⊥
  other q = cc
input_line_at k c (n.Input h ∷ gs) zero i f e =
    let s = same_Some (n.Input h) (n.Input i) e in
    let p : h ≡ i = cc in
    let q : h ≡ c = f.0 in
    let z : k ≡ k + 0 = omega arith in
    (0, omega (arith, p, q), ap (λ x. Some (2 * x)) z)
input_line_at k c (n.False ∷ gs) (suc j) i f e =
    let r = input_line_at (k + 1) c gs j i f.1 e in
    let z : k + 1 + j ≡ k + suc j = omega arith in
    (r.0, r.1, r.2 ∙ ap (λ x. Some (2 * x)) z)
input_line_at k c (n.And a b ∷ gs) (suc j) i f e =
    let r = input_line_at (k + 1) c gs j i f.1 e in
    let z : k + 1 + j ≡ k + suc j = omega arith in
    (r.0, r.1, r.2 ∙ ap (λ x. Some (2 * x)) z)
input_line_at k c (n.Input h ∷ gs) (suc j) i f e =
    let r = input_line_at (k + 1) (c + 1) gs j i f.1 e in
    let p = r.1 in
    let z : k + 1 + j ≡ k + suc j = omega arith in
    (suc r.0, omega (arith, p), r.2 ∙ ap (λ x. Some (2 * x)) z)

-- ---- known variables

any_of : (m : ℕ) (vs : List ℕ) (i : ℕ) → slice_get vs i ≡ Some m → list_any (nat_eq m) vs ≡ true
any_of m [] i e = absurd (none-some m e)
any_of m (v ∷ vs) zero e = ap (λ b. b || list_any (nat_eq m) vs) (eq-eqb m v (sym (same_Some v m e)))
any_of m (v ∷ vs) (suc i) e = by (any_of m vs i e) (cases_Bool (nat_eq m v)) where
  by : list_any (nat_eq m) vs ≡ true → (nat_eq m v ≡ true) ⊎ (nat_eq m v ≡ false)
      → list_any (nat_eq m) (v ∷ vs) ≡ true
  by later (inl t) = ap (λ b. b || list_any (nat_eq m) vs) t
  by later (inr f) = ap (λ b. b || list_any (nat_eq m) vs) f ∙ later

get_map : {X : Type 0} (f : X → ℕ) (xs : List X) (i : ℕ) (x : X) → slice_get xs i ≡ Some x → slice_get (map f xs) i ≡ Some (f x)
get_map f [] i x e = absurd (none-some x e)
get_map f (y ∷ xs) zero x e = ap (λ z. Some (f z)) (same_Some y x e)
get_map f (y ∷ xs) (suc i) x e = get_map f xs i x e

any_left : (m : ℕ) (us vs : List ℕ) → list_any (nat_eq m) us ≡ true → list_any (nat_eq m) (us ++ vs) ≡ true
any_left m us vs h = list_any-append (nat_eq m) us vs ∙ ap (λ b. b || list_any (nat_eq m) vs) h

any_right : (m : ℕ) (us vs : List ℕ) → list_any (nat_eq m) vs ≡ true → list_any (nat_eq m) (us ++ vs) ≡ true
any_right m us vs h = by (cases_Bool (list_any (nat_eq m) us)) where
  by : (list_any (nat_eq m) us ≡ true) ⊎ (list_any (nat_eq m) us ≡ false) → list_any (nat_eq m) (us ++ vs) ≡ true
  by (inl t) = any_left m us vs t
  by (inr f) = list_any-append (nat_eq m) us vs ∙ ap (λ b. b || list_any (nat_eq m) vs) f ∙ h

known_lines : (vs : List ℕ) (gates : List Gate)
    → ((i : ℕ) (g : Gate) → slice_get gates i ≡ Some g → (is_known vs g.left && is_known vs g.right) ≡ true)
    → unknown_line vs gates ≡ None
known_lines vs [] h = refl
known_lines vs (g ∷ gates) h =
    ap (λ b. cond b (unknown_line vs gates) (Some g.line)) (h 0 g refl)
    ∙ known_lines vs gates (λ i x e. h (suc i) x e)

-- a literal, by that of its node without a sign
lit_split : (vs : List Bool) (a : ℕ) → literal vs a ≡ turned (is_negated a) (literal vs (2 * (a / 2)))
lit_split vs a =
    let r : 2 * (a / 2) % 2 ≡ 0 = omega arith in
    let d : 2 * (a / 2) / 2 ≡ a / 2 = omega arith in
    sym (ap (turned (is_negated a)) (ap (λ s. turned (s == 1) (slice_index_or vs (2 * (a / 2) / 2) false)) r
    ∙ ap (λ k. slice_index_or vs k false) d))

-- ---- the text of a graph

abbrev pub said_from : List AigNode → ℕ → ℕ → ℕ → Said
said_from nodes root line last = record {
  inputs = input_lits 1 nodes;
  output = record { line = line; literal = root };
  gates = gates_from last 1 nodes;
}

module _ (nodes : List AigNode) (root line last : ℕ) (h : IsGraph (n.False ∷ nodes)) (lit : IsLit (n.False ∷ nodes) root)
  where
    known_node : (j : ℕ) → j < length nodes
        → list_any (nat_eq (1 + j)) (variables (said_from nodes root line last)) ≡ true
    known_node j l = by g.0 g.1 where
      g : (g : AigNode) × (slice_get nodes j ≡ Some g)
      g = get_some nodes j l

      by : (g : AigNode) → slice_get nodes j ≡ Some g
          → list_any (nat_eq (1 + j)) (variables (said_from nodes root line last)) ≡ true
      by n.False e = absurd (let z = only_first (n.False ∷ nodes) (suc j) h e in omega (arith, z))
      by (n.Input i) e =
          let r = input_line_at 1 0 nodes j i h.fitting.1 e in
          let z : variable (2 * (1 + j)) ≡ 1 + j = omega arith in
          any_left (1 + j) (map variable (input_lits 1 nodes))
          (map (λ (x : Gate). variable x.literal) (gates_from last 1 nodes))
          (any_of (1 + j) (map variable (input_lits 1 nodes)) r.0
          (get_map variable (input_lits 1 nodes) r.0 (2 * (1 + j)) r.2 ∙ ap (λ k. Some k) z))
      by (n.And a b) e =
          let r = gate_line_at last 1 nodes j a b e in
          let z : variable (2 * (1 + j)) ≡ 1 + j = omega arith in
          any_right (1 + j) (map variable (input_lits 1 nodes))
          (map (λ (x : Gate). variable x.literal) (gates_from last 1 nodes))
          (any_of (1 + j) (map (λ (x : Gate). variable x.literal) (gates_from last 1 nodes)) r.0
          (get_map (λ (x : Gate). variable x.literal) (gates_from last 1 nodes) r.0 r.1 r.2
          ∙ ap (λ k. Some k) (ap variable r.3.literal_is ∙ z)))

    known : (a : ℕ) → a < 2 * length (n.False ∷ nodes) → is_known (variables (said_from nodes root line last)) a ≡ true
    known a l = cases_of (cases_eq (variable a) 0)
        (λ z. ap (λ b. b || list_any (nat_eq (variable a)) (variables (said_from nodes root line last)))
        (eq-eqb (variable a) 0 z))
        (λ d.
        let s : variable a ≡ 1 + (variable a - 1) = omega (arith, d) in
        let less : variable a - 1 < length nodes = omega (arith, l, d) in
        ap (λ b. b || list_any (nat_eq (variable a)) (variables (said_from nodes root line last)))
        (ne_eqb (variable a) 0 d)
        ∙ ap (λ v. list_any (nat_eq v) (variables (said_from nodes root line last))) s
        ∙ known_node (variable a - 1) less)

    -- the operands of a gate come before it
    lower : (i : ℕ) (g : Gate) → slice_get (gates_from last 1 nodes) i ≡ Some g
        → (variable g.left < variable g.literal) × (variable g.right < variable g.literal)
        × (variable g.literal < length (n.False ∷ nodes))
    lower i g e =
        let r = gate_index last 1 nodes i g e in
        let o = gate_operands (n.False ∷ nodes) h (suc r.0) r.1 r.2 r.3 in
        let p = o.0 in
        let q = o.1 in
        let x = r.4.literal_is in
        let y = r.4.left_is in
        let z = r.4.right_is in
        let less = slice_get_within nodes r.0 (n.And r.1 r.2) r.3 in
        (omega (arith, p, x, y), omega (arith, q, x, z), omega (arith, x, less))

    pub text_defined : undefined_line (said_from nodes root line last) ≡ None
    text_defined =
        ap (λ b. cond b (unknown_line (variables (said_from nodes root line last)) (gates_from last 1 nodes)) (Some line))
        (known root lit)
        ∙ known_lines (variables (said_from nodes root line last)) (gates_from last 1 nodes) (λ i g e.
        let r = lower i g e in
        let p = r.0 in
        let q = r.1 in
        let s = r.2 in
        ap (λ b. b && is_known (variables (said_from nodes root line last)) g.right)
        (known g.left (omega (arith, p, s)))
        ∙ known g.right (omega (arith, q, s)))

    needs_lower : (k j : ℕ) (m : Needs (gates_from last 1 nodes) k j) → variable m.used.literal < variable m.user.literal
    needs_lower k j m =
        let r = lower k m.user m.user_is in
        let p = r.0 in
        let q = r.1 in
        cases_of m.uses (λ e. omega (arith, p, e)) (λ e. omega (arith, q, e))

    leads_lower : (goal k : ℕ) (js : List ℕ) (g u : Gate) → slice_get (gates_from last 1 nodes) goal ≡ Some g
        → slice_get (gates_from last 1 nodes) k ≡ Some u → LeadsTo (gates_from last 1 nodes) goal k js
        → variable g.literal < variable u.literal
    leads_lower goal k [] g u e f m =
        let l = needs_lower k goal m in
        let p = ap (λ (x : Gate). variable x.literal) (same_Some m.used g (sym m.used_is ∙ e)) in
        let q = ap (λ (x : Gate). variable x.literal) (same_Some m.user u (sym m.user_is ∙ f)) in
        omega (arith, l, p, q)
    leads_lower goal k (j ∷ js) g u e f m =
        let l = needs_lower k j m.0 in
        let r = leads_lower goal j js g m.0.used e m.0.used_is m.1 in
        let q = ap (λ (x : Gate). variable x.literal) (same_Some m.0.user u (sym m.0.user_is ∙ f)) in
        omega (arith, l, r, q)

    pub text_in_order : (k : ℕ) → DependsOnItself (gates_from last 1 nodes) k → ⊥
    text_in_order k d = by d.0 d.1 where
      by : (js : List ℕ) → LeadsTo (gates_from last 1 nodes) k k js → ⊥
      by [] m =
          let l = leads_lower k k [] m.user m.user m.user_is m.user_is m in absurd (omega (arith, l))
      by (j ∷ js) m =
          let l = leads_lower k k (j ∷ js) m.0.user m.0.user m.0.user_is m.0.user_is m in absurd (omega (arith, l))

    -- ---- the output

    module _ (x : ℕ → Bool) where
      split : (a : ℕ) → lit_at (n.False ∷ nodes) x a
          ≡ turned (is_negated a) (lit_at (n.False ∷ nodes) x (2 * (a / 2)))
      split a = lit_split (values_of (n.False ∷ nodes) x) a

      graph_meets : Meets (said_from nodes root line last) x (λ i. lit_at (n.False ∷ nodes) x (2 * i))
      graph_meets = record {
        constant = false_value (n.False ∷ nodes) h x 0 refl;
        inputs = λ k l e.
            let r = input_index 1 0 nodes k l h.fitting.1 e in
            let q = r.2 in
            let z : 2 * variable l ≡ 2 * suc r.0 = omega (arith, q) in
            let s : 0 + k ≡ k = omega arith in
            ap (lit_at (n.False ∷ nodes) x) z ∙ input_value (n.False ∷ nodes) h x (suc r.0) (0 + k) r.1 ∙ ap x s;
        gates = λ k g e.
            let r = gate_index last 1 nodes k g e in
            let q = r.4.literal_is in
            let z : 2 * variable g.literal ≡ 2 * suc r.0 = omega (arith, q) in
            ap (lit_at (n.False ∷ nodes) x) z ∙ gate_value (n.False ∷ nodes) h x (suc r.0) r.1 r.2 r.3
            ∙ ap (λ a. lit_at (n.False ∷ nodes) x a && lit_at (n.False ∷ nodes) x r.2) (sym r.4.left_is)
            ∙ ap (λ a. lit_at (n.False ∷ nodes) x g.left && lit_at (n.False ∷ nodes) x a) (sym r.4.right_is)
            ∙ ap (λ c. c && lit_at (n.False ∷ nodes) x g.right) (split g.left)
            ∙ ap (λ c. literal_value (λ i. lit_at (n.False ∷ nodes) x (2 * i)) g.left && c) (split g.right);
      }

      module _ (v : ℕ → Bool) (m : Meets (said_from nodes root line last) x v) where
        same_literal : (a : ℕ) → v (variable a) ≡ lit_at (n.False ∷ nodes) x (2 * (a / 2))
            → literal_value v a ≡ lit_at (n.False ∷ nodes) x a
        same_literal a e = ap (turned (is_negated a)) e ∙ sym (split a)

        -- the values are those of the nodes, of the lower ones first
        agrees : (k j : ℕ) → j < k → j < length (n.False ∷ nodes) → v j ≡ lit_at (n.False ∷ nodes) x (2 * j)
        agrees zero j l less = absurd (omega (arith, l))
        agrees (suc k) zero l less = m.constant ∙ sym (false_value (n.False ∷ nodes) h x 0 refl)
        agrees (suc k) (suc j) l less = by (λ i p q. agrees k i p q) g.0 g.1 where
          there : j < length nodes
          there = omega (arith, less)

          g : (g : AigNode) × (slice_get nodes j ≡ Some g)
          g = get_some nodes j there

          operand : ((i : ℕ) → i < k → i < length (n.False ∷ nodes) → v i ≡ lit_at (n.False ∷ nodes) x (2 * i))
              → (a : ℕ) → a < 2 * suc j → literal_value v a ≡ lit_at (n.False ∷ nodes) x a
          operand before a s =
              same_literal a (before (variable a) (omega (arith, s, l)) (omega (arith, s, less)))

          by : ((i : ℕ) → i < k → i < length (n.False ∷ nodes) → v i ≡ lit_at (n.False ∷ nodes) x (2 * i))
              → (g : AigNode) → slice_get nodes j ≡ Some g → v (suc j) ≡ lit_at (n.False ∷ nodes) x (2 * suc j)
          by before n.False e = absurd (let z = only_first (n.False ∷ nodes) (suc j) h e in omega (arith, z))
          by before (n.Input i) e =
              let r = input_line_at 1 0 nodes j i h.fitting.1 e in
              let z : suc j ≡ variable (2 * (1 + j)) = omega arith in
              let s : r.0 ≡ i = let q = r.1 in omega (arith, q) in
              ap v z ∙ m.inputs r.0 (2 * (1 + j)) r.2 ∙ ap x s ∙ sym (input_value (n.False ∷ nodes) h x (suc j) i e)
          by before (n.And a b) e =
              let r = gate_line_at last 1 nodes j a b e in
              let q = r.3.literal_is in
              let z : suc j ≡ variable r.1.literal = omega (arith, q) in
              let o = gate_operands (n.False ∷ nodes) h (suc j) a b e in
              ap v z ∙ m.gates r.0 r.1 r.2
              ∙ ap (λ c. literal_value v c && literal_value v r.1.right) r.3.left_is
              ∙ ap (λ c. literal_value v a && literal_value v c) r.3.right_is
              ∙ ap (λ c. c && literal_value v b) (operand before a o.0)
              ∙ ap (λ c. lit_at (n.False ∷ nodes) x a && c) (operand before b o.1)
              ∙ sym (gate_value (n.False ∷ nodes) h x (suc j) a b e)

        root_agrees : literal_value v root ≡ lit_at (n.False ∷ nodes) x root
        root_agrees =
            same_literal root (agrees (suc (variable root)) (variable root) (omega arith) (omega (arith, lit)))

      pub text_output : IsOutput (said_from nodes root line last) x (lit_at (n.False ∷ nodes) x root)
      text_output = record {
        some = (λ i. lit_at (n.False ∷ nodes) x (2 * i), graph_meets);
        same = root_agrees;
      }

-- what is written says the graph
module _ (nodes : List AigNode) (root : ℕ) (names : List (List ℕ)) (bytes : List ℕ) (h : IsGraph (n.False ∷ nodes))
    (few : length (n.False ∷ nodes) ≤ 2 ^ 62) (written : bytes ≡ aag_text (n.False ∷ nodes) root names)
    (lit : IsLit (n.False ∷ nodes) root) where
  says_graph : SaysGraph bytes (n.False ∷ nodes) root
  says_graph =
      let t = text_said nodes root names h few lit in
      let c = count_lits 1 0 nodes in
      let count : length (input_lits 1 nodes) ≡ inputs_of (n.False ∷ nodes) = omega (arith, c) in (
        said_from nodes root t.0 t.1,
        record {
          says = ap said_by written ∙ t.2;
          defined = text_defined nodes root t.0 t.1 h lit;
          in_order = text_in_order nodes root t.0 t.1 h lit;
        },
        count,
        λ x. text_output nodes root t.0 t.1 h lit x,
      )

pub text_says : (graph nodes : List AigNode) (root : ℕ) (names : List (List ℕ)) (bytes : List ℕ)
    → graph ≡ n.False ∷ nodes → IsGraph graph → length graph ≤ 2 ^ 62 → bytes ≡ aag_text graph root names
    → IsLit graph root → SaysGraph bytes graph root
text_says graph nodes root names bytes e h few written lit =
    subst (λ (g : List AigNode). SaysGraph bytes g root) (sym e)
    (says_graph nodes root names bytes (subst IsGraph e h) (let l = ap length e in omega (arith, few, l))
    (written ∙ ap (λ (g : List AigNode). aag_text g root names) e)
    (subst (λ (g : List AigNode). IsLit g root) e lit))
