-- Values of variables as values of nodes, and the other way.
use Rattle.std.proofs.Common.{◌≡◌, ℕ, zero, suc, ◌+◌, ◌-◌, ◌*◌, ◌/◌, ◌%◌, ◌<◌, ◌≤◌, Bool, true, false, cond, ◌==◌, ◌&&◌}
use Rattle.std.proofs.Common.{List, [], ◌∷◌, ◌++◌, length, map, Option, Some, None, get_or, refl, ap, sym, ◌∙◌, subst}
use Rattle.std.proofs.Common.{arith, length-append}
use Rattle.std.specs.Prelude.{nat_eq, position, option_map, slice_get}
use Rattle.std.proofs.lemmas.Bool.{ne_eqb}
use Rattle.std.proofs.lemmas.List.{length-map}
use Rattle.std.proofs.lemmas.Option.{none-some, slice_get_within, slice_get-map, get_or_from_slice_get, slice_get-get_or}
use Rattle.bb_aig.specs.Graph.{is_negated, turned}
use Rattle.aiger_text.specs.declared.gate.Gate.{Gate}
use Rattle.aiger_text.specs.declared.wires.Wire.{Wire}
use Rattle.aiger_text.specs.Said.{Said, variable, variables}
use Rattle.aiger_text.specs.Profile.{literal_value, Meets}
use Rattle.aiger_text.specs.Wires.{wire_end, wire_of, IsWired, wire_value, MeetsWires}
use Rattle.aiger_text.proofs.PlaceLaws.{place_has, place_is}
use Rattle.aiger_text.proofs.SaidLaws.{AreVariables}
use Rattle.aiger_text.proofs.EndLaws.{Ends, constant, placed, ends, AreEnds, wire_at, gate_at}

-- ---- places of variables

get_left : (xs ys : List ℕ) (k x : ℕ) → slice_get xs k ≡ Some x → slice_get (xs ++ ys) k ≡ Some x
get_left [] ys k x e = absurd (none-some x e)
get_left (y ∷ xs) ys zero x e = e
get_left (y ∷ xs) ys (suc k) x e = get_left xs ys k x e

get_right : (xs ys : List ℕ) (k x : ℕ) → slice_get ys k ≡ Some x → slice_get (xs ++ ys) (length xs + k) ≡ Some x
get_right [] ys k x e =
    let z : 0 + k ≡ k = omega arith in
    ap (slice_get ys) z ∙ e
get_right (y ∷ xs) ys k x e =
    let z : suc (length xs) + k ≡ suc (length xs + k) = omega arith in
    ap (slice_get (y ∷ xs ++ ys)) z ∙ get_right xs ys k x e

module _ (said : Said) where
  pub input_place : (k literal : ℕ) → slice_get said.inputs k ≡ Some literal
      → slice_get (variables said) k ≡ Some (variable literal)
  input_place k literal e =
      get_left (map variable said.inputs) (map (λ (g : Gate). variable g.literal) said.gates) k (variable literal)
      (slice_get-map variable said.inputs k ∙ ap (option_map variable) e)

  pub gate_place : (k : ℕ) (g : Gate) → slice_get said.gates k ≡ Some g
      → slice_get (variables said) (length said.inputs + k) ≡ Some (variable g.literal)
  gate_place k g e =
      let n : length (map variable said.inputs) ≡ length said.inputs = length-map said.inputs variable in
      ap (λ i. slice_get (variables said) (i + k)) (sym n)
      ∙ get_right (map variable said.inputs) (map (λ (h : Gate). variable h.literal) said.gates) k (variable g.literal)
      (slice_get-map (λ (h : Gate). variable h.literal) said.gates k
      ∙ ap (option_map (λ (h : Gate). variable h.literal)) e)

-- ---- values of variables, from those of nodes

abbrev at_node : (ℕ → Bool) → Option ℕ → Bool
at_node u None = false
at_node u (Some i) = u (i + 1)

abbrev pub lifted : (ℕ → Bool) → List ℕ → ℕ → Bool
lifted u vs v = cond (v == 0) false (at_node u (position (nat_eq v) vs))

lifted_at : (u : ℕ → Bool) (vs : List ℕ) (v i : ℕ) → (v ≡ 0 → ⊥) → position (nat_eq v) vs ≡ Some i
    → lifted u vs v ≡ u (i + 1)
lifted_at u vs v i n e =
    ap (λ b. cond b false (at_node u (position (nat_eq v) vs))) (ne_eqb v 0 n) ∙ ap (at_node u) e

lifted_zero : (u : ℕ → Bool) (vs : List ℕ) (v : ℕ) → v ≡ 0 → lifted u vs v ≡ false
lifted_zero u vs v e = ap (lifted u vs) e

-- the value of a node's literal is that of the variable's
lifted_end : (u : ℕ → Bool) (vs : List ℕ) (literal e : ℕ) → u 0 ≡ false → wire_end vs literal ≡ Some e
    → wire_value u e ≡ literal_value (lifted u vs) literal
lifted_end u vs literal e c h = by (ends vs literal e h) where
  same : (b : Bool) → e % 2 ≡ literal % 2 → u (e / 2) ≡ b → lifted u vs (variable literal) ≡ b
      → wire_value u e ≡ literal_value (lifted u vs) literal
  same b r p q = ap (λ s. turned (s == 1) (u (e / 2))) r ∙ ap (turned (is_negated literal)) (p ∙ sym q)

  by : Ends vs literal e → wire_value u e ≡ literal_value (lifted u vs) literal
  by (constant z q) =
      let r : e % 2 ≡ literal % 2 = omega (arith, q) in
      let d : e / 2 ≡ 0 = omega (arith, q) in
      same false r (ap u d ∙ c) (lifted_zero u vs (variable literal) z)
  by (placed i n p q) =
      let r : e % 2 ≡ literal % 2 = omega (arith, q) in
      let d : e / 2 ≡ i + 1 = omega (arith, q) in
      same (u (i + 1)) r (ap u d) (lifted_at u vs (variable literal) i n p)

-- ---- values of nodes, from those of variables

abbrev pub lowered : (ℕ → Bool) → List ℕ → ℕ → Bool
lowered v vs zero = false
lowered v vs (suc i) = v (get_or vs i 0)

lowered_at : (v : ℕ → Bool) (vs : List ℕ) (i x : ℕ) → slice_get vs i ≡ Some x → lowered v vs (i + 1) ≡ v x
lowered_at v vs i x e =
    let n : i + 1 ≡ suc i = omega arith in
    ap (lowered v vs) n ∙ ap v (get_or_from_slice_get vs i x 0 e)

lowered_end : (v : ℕ → Bool) (vs : List ℕ) (literal e : ℕ) → v 0 ≡ false → wire_end vs literal ≡ Some e
    → wire_value (lowered v vs) e ≡ literal_value v literal
lowered_end v vs literal e c h = by (ends vs literal e h) where
  same : (b : Bool) → e % 2 ≡ literal % 2 → lowered v vs (e / 2) ≡ b → v (variable literal) ≡ b
      → wire_value (lowered v vs) e ≡ literal_value v literal
  same b r p q = ap (λ s. turned (s == 1) (lowered v vs (e / 2))) r ∙ ap (turned (is_negated literal)) (p ∙ sym q)

  by : Ends vs literal e → wire_value (lowered v vs) e ≡ literal_value v literal
  by (constant z q) =
      let r : e % 2 ≡ literal % 2 = omega (arith, q) in
      let d : e / 2 ≡ 0 = omega (arith, q) in
      same false r (ap (lowered v vs) d) (ap v z ∙ c)
  by (placed i n p q) =
      let r : e % 2 ≡ literal % 2 = omega (arith, q) in
      let d : e / 2 ≡ i + 1 = omega (arith, q) in
      same (v (variable literal)) r
      (ap (lowered v vs) d ∙ lowered_at v vs i (variable literal) (place_has (variable literal) i vs p)) refl

-- ---- texts and nodes

module _ (said : Said) (inputs root : ℕ) (wires : List Wire) (h : IsWired said inputs root wires)
    (a : AreVariables (variables said)) where
  not_zero : (k v : ℕ) → slice_get (variables said) k ≡ Some v → v ≡ 0 → ⊥
  not_zero k v e z = a.some k (e ∙ ap (λ n. Some n) z)

  pub lifts : (x u : ℕ → Bool) → MeetsWires inputs wires x u → Meets said x (lifted u (variables said))
  lifts x u m = record {
    constant = lifted_zero u (variables said) 0 refl;
    inputs = λ k literal e.
        let p = input_place said k literal e in
        let less = slice_get_within said.inputs k literal e in
        lifted_at u (variables said) (variable literal) k (not_zero k (variable literal) p)
        (place_is (variable literal) k (variables said) a.once p)
        ∙ m.given k (omega (arith, less, h.count));
    gates = λ k g e.
        let w = wire_at (variables said) said.gates wires h.wires_are k g e in
        let p = gate_place said k g e in
        let n : length said.inputs + k + 1 ≡ inputs + 1 + k = omega (arith, h.count) in
        lifted_at u (variables said) (variable g.literal) (length said.inputs + k)
        (not_zero (length said.inputs + k) (variable g.literal) p)
        (place_is (variable g.literal) (length said.inputs + k) (variables said) a.once p)
        ∙ ap u n ∙ m.gates k w.0 w.1
        ∙ ap (λ b. b && wire_value u w.0.right)
        (lifted_end u (variables said) g.left w.0.left m.constant w.2.left)
        ∙ ap (λ b. literal_value (lifted u (variables said)) g.left && b)
        (lifted_end u (variables said) g.right w.0.right m.constant w.2.right);
  }

  pub lowers : (x v : ℕ → Bool) → Meets said x v → MeetsWires inputs wires x (lowered v (variables said))
  lowers x v m = record {
    constant = refl;
    given = λ k less.
        let l : k < length said.inputs = omega (arith, less, h.count) in
        let e = slice_get-get_or said.inputs k 0 l in
        lowered_at v (variables said) k (variable (get_or said.inputs k 0))
        (input_place said k (get_or said.inputs k 0) e)
        ∙ m.inputs k (get_or said.inputs k 0) e;
    gates = λ k w e.
        let g = gate_at (variables said) said.gates wires h.wires_are k w e in
        let n : inputs + 1 + k ≡ length said.inputs + k + 1 = omega (arith, h.count) in
        ap (lowered v (variables said)) n
        ∙ lowered_at v (variables said) (length said.inputs + k) (variable g.0.literal) (gate_place said k g.0 g.1)
        ∙ m.gates k g.0 g.1
        ∙ ap (λ b. b && literal_value v g.0.right)
        (sym (lowered_end v (variables said) g.0.left w.left m.constant g.2.left))
        ∙ ap (λ b. wire_value (lowered v (variables said)) w.left && b)
        (sym (lowered_end v (variables said) g.0.right w.right m.constant g.2.right));
  }

  -- the output is the root
  pub root_lowered : (x v : ℕ → Bool) → Meets said x v
      → wire_value (lowered v (variables said)) root ≡ literal_value v said.output.literal
  root_lowered x v m = lowered_end v (variables said) said.output.literal root m.constant h.root_is
