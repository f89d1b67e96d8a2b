-- What holds of all that lines say: each variable that they define stands once, and is not 0.
use Rattle.std.proofs.Common.{◌≡◌, ℕ, zero, suc, ◌+◌, ◌*◌, ◌/◌, ◌%◌, ◌<◌, ◌≤◌, Bool, true, false, not, cond, ◌==◌, ◌&&◌}
use Rattle.std.proofs.Common.{List, [], ◌∷◌, ◌++◌, length, map, Option, Some, None, Result, Ok, Err}
use Rattle.std.proofs.Common.{refl, ap, sym, ◌∙◌, subst, ◌⊎◌, inl, inr, append_assoc, arith}
use Rattle.std.specs.Prelude.{nat_eq, nat_lt, slice_get}
use Rattle.std.specs.Option.{ok_or}
use Rattle.std.specs.List.{list_any}
use Rattle.std.proofs.lemmas.Bool.{false≢true, cases_Bool, and_parts}
use Rattle.std.proofs.lemmas.Bool.Decides.{nat_tests}
use Rattle.std.proofs.lemmas.List.{map_push, append-nil}
use Rattle.std.proofs.lemmas.Option.{none-some, same_Some, cond_some}
use Rattle.fv_text.specs.Results.{and_then}
use Rattle.fv_lines.specs.Words.{next_place}
use Rattle.fv_graph.specs.Graph.{StandOnce}
use Rattle.fv_graph.proofs.Lists.{get_cases}
use Rattle.aiger_text.specs.declared.gate.Gate.{Gate}
use Rattle.aiger_text.specs.declared.gate.Output.{Output}
use Rattle.aiger_text.specs.declared.header.Sizes.{Sizes}
use Rattle.aiger_text.specs.declared.fault.AagFault.{AagFault}
use Rattle.aiger_text.specs.declared.fault.AagFault.TheVariants.{Header, Kind, Literal, Twice, Open}
use Rattle.aiger_text.specs.Lines.{lines, words, literal_of}
use Rattle.aiger_text.specs.Header.{if_some, header_of}
use Rattle.aiger_text.specs.Said.{Said, variable, variables, with_gate, if_even, defined_literal, gate_of, once}
use Rattle.aiger_text.specs.Said.{input_line, output_line, gate_line, read_inputs, read_gates, read_lines, said_by}
use Rattle.aiger_text.proofs.PlaceLaws.{once_push}

-- ---- answers that came of others

pub err_ok : {X : Type 0} (e : AagFault) (x : X) → ◌≡◌ {A = Result X AagFault} (Err e) (Ok x) → ⊥
err_ok e x h = cc

pub same_ok : {X : Type 0} (x y : X) → ◌≡◌ {A = Result X AagFault} (Ok x) (Ok y) → x ≡ y
same_ok x y h = cc

pub then_ok : {X Y : Type 0} (r : Result X AagFault) (next : X → Result Y AagFault) (y : Y) → and_then r next ≡ Ok y
    → (x : X) × (r ≡ Ok x) × (next x ≡ Ok y)
then_ok (Ok x) next y h = (x, refl, h)
then_ok (Err e) next y h = absurd (err_ok e y h)

pub or_ok : {X : Type 0} (o : Option X) (e : AagFault) (x : X) → ok_or o e ≡ Ok x → o ≡ Some x
or_ok (Some y) e x h = ap (λ z. Some z) (same_ok y x h)
or_ok None e x h = absurd (err_ok e x h)

pub some_then : {X Y : Type 0} (o : Option X) (next : X → Option Y) (y : Y) → if_some o next ≡ Some y
    → (x : X) × (o ≡ Some x) × (next x ≡ Some y)
some_then (Some x) next y h = (x, refl, h)
some_then None next y h = absurd (none-some y h)

pub else_ok : {X : Type 0} (b : Bool) (e : AagFault) (r : Result X AagFault) (x : X) → cond b (Err e) r ≡ Ok x
    → (b ≡ false) × (r ≡ Ok x)
else_ok true e r x h = absurd (err_ok e x h)
else_ok false e r x h = (refl, h)

pub either_ok : {X : Type 0} (b : Bool) (r s : Result X AagFault) (x : X) → cond b r s ≡ Ok x
    → ((b ≡ true) × (r ≡ Ok x)) ⊎ ((b ≡ false) × (s ≡ Ok x))
either_ok true r s x h = inl (refl, h)
either_ok false r s x h = inr (refl, h)

-- ---- what a line defines

not_none : (l : ℕ) → not (l == 0) ≡ true → l ≡ 0 → ⊥
not_none l h z = grind (arith, nat_tests)

even_some : (l k : ℕ) → if_even l ≡ Some k → (l ≡ k) × (variable l ≡ 0 → ⊥)
even_some l k h =
    let r = cond_some ((l % 2 == 0) && not (l == 0)) l k h in
    let p = and_parts (l % 2 == 0) (not (l == 0)) r.0 in
    let e : l % 2 ≡ 0 = let q = p.0 in grind (arith, nat_tests) in
    (r.1, λ z. not_none l p.1 (omega (arith, z, e)))

pub defines : (most l : ℕ) (word : List ℕ) → defined_literal most word ≡ Some l → variable l ≡ 0 → ⊥
defines most l word h =
    let r = some_then (literal_of most word) if_even l h in
    let e = even_some r.0 l r.2 in
    λ z. e.1 (ap variable e.0 ∙ z)

-- the literal that a gate's line defines
pub gate_defines : (most line : ℕ) (ws : List (List ℕ)) (g : Gate) → gate_of most line ws ≡ Some g
    → variable g.literal ≡ 0 → ⊥
gate_defines most line [] g h = absurd (none-some g h)
gate_defines most line (a ∷ []) g h = absurd (none-some g h)
gate_defines most line (a ∷ b ∷ []) g h = absurd (none-some g h)
gate_defines most line (a ∷ b ∷ c ∷ d ∷ ds) g h = absurd (none-some g h)
gate_defines most line (a ∷ b ∷ c ∷ []) g h =
    let x = some_then (defined_literal most a) (λ literal. if_some (literal_of most b) (λ left.
    if_some (literal_of most c) (λ right.
    Some (record { line = line; literal = literal; left = left; right = right })))) g h in
    let y = some_then (literal_of most b) (λ left. if_some (literal_of most c) (λ right.
    Some (record { line = line; literal = x.0; left = left; right = right }))) g x.2 in
    let z = some_then (literal_of most c) (λ right.
    Some (record { line = line; literal = x.0; left = y.0; right = right })) g y.2 in
    let same = same_Some (record { line = line; literal = x.0; left = y.0; right = z.0 }) g z.2 in
    λ e. defines most x.0 a x.1 (ap (λ (k : Gate). variable k.literal) same ∙ e)

-- ---- variables

pub record AreVariables (vs : List ℕ) : Type 0 where
  pub once : StandOnce vs
  pub some : (a : ℕ) → slice_get vs a ≡ Some 0 → ⊥

no_variables : AreVariables []
no_variables = record { once = λ a b i e f. absurd (none-some i e); some = λ a e. none-some 0 e }

variables_push : (v : ℕ) (vs : List ℕ) → AreVariables vs → (v ≡ 0 → ⊥) → list_any (nat_eq v) vs ≡ false
    → AreVariables (vs ++ v ∷ [])
variables_push v vs h n e = record {
  once = once_push v vs h.once e;
  some = λ a f. by a (get_cases vs v a 0 f);
}
  where
    by : (a : ℕ) → (slice_get vs a ≡ Some 0) ⊎ ((a ≡ length vs) × (v ≡ 0)) → ⊥
    by a (inl f) = h.some a f
    by a (inr f) = n f.1

input_variables : (most line : ℕ) (inputs text items : List ℕ) → AreVariables (map variable inputs)
    → input_line most line inputs text ≡ Ok items → AreVariables (map variable items)
input_variables most line inputs text items h e =
    let r = then_ok (ok_or (defined_literal most text) (Literal line))
    (λ l. once (map variable inputs) line l (inputs ++ l ∷ [])) items e in
    let d = or_ok (defined_literal most text) (Literal line) r.0 r.1 in
    let s = else_ok (list_any (nat_eq (variable r.0)) (map variable inputs)) (Twice line)
    (Ok (inputs ++ r.0 ∷ [])) items r.2 in
    let same = same_ok (inputs ++ r.0 ∷ []) items s.1 in
    subst AreVariables (sym (map_push variable inputs r.0) ∙ ap (map variable) same)
    (variables_push (variable r.0) (map variable inputs) h (defines most r.0 text d) s.0)

gate_variables : (most line : ℕ) (said now : Said) (text : List ℕ) → AreVariables (variables said)
    → gate_line most line said text ≡ Ok now → AreVariables (variables now)
gate_variables most line said now text h e =
    let r = then_ok (ok_or (gate_of most line (words text)) (Literal line))
    (λ (g : Gate). once (variables said) line g.literal (with_gate said g)) now e in
    let d = or_ok (gate_of most line (words text)) (Literal line) r.0 r.1 in
    let s = else_ok (list_any (nat_eq (variable r.0.literal)) (variables said)) (Twice line)
    (Ok (with_gate said r.0)) now r.2 in
    let same = same_ok (with_gate said r.0) now s.1 in
    subst AreVariables (append_assoc (map variable said.inputs) (map (λ (g : Gate). variable g.literal) said.gates)
    (variable r.0.literal ∷ [])
    ∙ ap (λ vs. map variable said.inputs ++ vs) (sym (map_push (λ (g : Gate). variable g.literal) said.gates r.0))
    ∙ ap variables same)
    (variables_push (variable r.0.literal) (variables said) h (gate_defines most line (words text) r.0 d) s.0)

gates_variables : (sizes : Sizes) (line : ℕ) (said now : Said) (ls : List (List ℕ)) → AreVariables (variables said)
    → read_gates sizes line said ls ≡ Ok now → AreVariables (variables now)
gates_variables sizes line said now [] h e =
    by (either_ok (length said.gates == sizes.gates) (Ok said) (Err (Open line)) now e) where
      by : (((length said.gates == sizes.gates) ≡ true) × (◌≡◌ {A = Result Said AagFault} (Ok said) (Ok now)))
          ⊎ (((length said.gates == sizes.gates) ≡ false)
          × (◌≡◌ {A = Result Said AagFault} (Err (Open line)) (Ok now)))
          → AreVariables (variables now)
      by (inl t) = subst (λ s. AreVariables (variables s)) (same_ok said now t.1) h
      by (inr f) = absurd (err_ok (Open line) now f.1)
gates_variables sizes line said now (t ∷ ts) h e =
    by (λ s a f. gates_variables sizes (next_place line) s now ts a f)
    (either_ok (length said.gates == sizes.gates) (Ok said)
    (and_then (gate_line sizes.most line said t) (λ s. read_gates sizes (next_place line) s ts)) now e) where
      by : ((s : Said) → AreVariables (variables s) → read_gates sizes (next_place line) s ts ≡ Ok now
          → AreVariables (variables now))
          → (((length said.gates == sizes.gates) ≡ true) × (◌≡◌ {A = Result Said AagFault} (Ok said) (Ok now)))
          ⊎ (((length said.gates == sizes.gates) ≡ false)
          × (and_then (gate_line sizes.most line said t) (λ s. read_gates sizes (next_place line) s ts) ≡ Ok now))
          → AreVariables (variables now)
      by later (inl t) = subst (λ s. AreVariables (variables s)) (same_ok said now t.1) h
      by later (inr f) =
          let r = then_ok (gate_line sizes.most line said t) (λ s. read_gates sizes (next_place line) s ts) now f.1 in
          later r.0 (gate_variables sizes.most line said r.0 t h r.1) r.2

inputs_variables : (sizes : Sizes) (line : ℕ) (inputs : List ℕ) (now : Said) (ls : List (List ℕ))
    → AreVariables (map variable inputs) → read_inputs sizes line inputs ls ≡ Ok now → AreVariables (variables now)
inputs_variables sizes line inputs now [] h e = absurd (err_ok (Open line) now e)
inputs_variables sizes line inputs now (t ∷ ts) h e =
    by (λ ls a f. inputs_variables sizes (next_place line) ls now ts a f)
    (either_ok (nat_lt (length inputs) sizes.inputs)
    (and_then (input_line sizes.most line inputs t) (λ all. read_inputs sizes (next_place line) all ts))
    (and_then (output_line sizes.most line t)
    (λ o. read_gates sizes (next_place line) (record { inputs = inputs; output = o; gates = [] }) ts)) now e) where
      by : ((ls : List ℕ) → AreVariables (map variable ls) → read_inputs sizes (next_place line) ls ts ≡ Ok now
          → AreVariables (variables now))
          → ((nat_lt (length inputs) sizes.inputs ≡ true)
          × (and_then (input_line sizes.most line inputs t) (λ all. read_inputs sizes (next_place line) all ts) ≡ Ok now))
          ⊎ ((nat_lt (length inputs) sizes.inputs ≡ false)
          × (and_then (output_line sizes.most line t)
          (λ o. read_gates sizes (next_place line) (record { inputs = inputs; output = o; gates = [] }) ts) ≡ Ok now))
          → AreVariables (variables now)
      by later (inl f) =
          let r = then_ok (input_line sizes.most line inputs t) (λ all. read_inputs sizes (next_place line) all ts) now
          f.1 in
          later r.0 (input_variables sizes.most line inputs t r.0 h r.1) r.2
      by later (inr f) =
          let r = then_ok (output_line sizes.most line t)
          (λ o. read_gates sizes (next_place line) (record { inputs = inputs; output = o; gates = [] }) ts) now f.1 in
          gates_variables sizes (next_place line) (record { inputs = inputs; output = r.0; gates = [] }) now ts
          (subst AreVariables (sym (append-nil (map variable inputs))) h) r.2

lines_variables : (ls : List (List ℕ)) (said : Said) → read_lines ls ≡ Ok said → AreVariables (variables said)
lines_variables [] said e = absurd (err_ok (Header 1) said e)
lines_variables (t ∷ ts) said e =
    let r = then_ok (ok_or (header_of t) (Header 1))
    (λ (sizes : Sizes). cond sizes.plain (read_inputs sizes 2 [] ts) (Err (Kind 1))) said e in
    by r.0 (either_ok r.0.plain (read_inputs r.0 2 [] ts) (Err (Kind 1)) said r.2) where
      by : (sizes : Sizes) → ((sizes.plain ≡ true) × (read_inputs sizes 2 [] ts ≡ Ok said))
          ⊎ ((sizes.plain ≡ false) × (◌≡◌ {A = Result Said AagFault} (Err (Kind 1)) (Ok said)))
          → AreVariables (variables said)
      by sizes (inl f) = inputs_variables sizes 2 [] said ts no_variables f.1
      by sizes (inr f) = absurd (err_ok (Kind 1) said f.1)

-- the variables that lines define
pub said_variables : (bytes : List ℕ) (said : Said) → said_by bytes ≡ Ok said → AreVariables (variables said)
said_variables bytes said e = lines_variables (lines bytes) said e
