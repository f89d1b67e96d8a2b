-- Lines of inputs and of gates, one more.
use Rattle.std.proofs.Common.{◌≡◌, ℕ, ◌<◌, ◌≤◌, Bool, true, false, cond, ◌==◌, List, [], ◌∷◌, ◌++◌, length, map}
use Rattle.std.proofs.Common.{Option, Some, None, Result, Ok, Err, refl, ap, sym, ◌∙◌, append_assoc, arith}
use Rattle.std.specs.Prelude.{nat_eq, nat_lt}
use Rattle.std.specs.Option.{ok_or}
use Rattle.std.specs.List.{list_any}
use Rattle.std.proofs.lemmas.List.{map_push, append-nil}
use Rattle.fv_text.specs.Results.{and_then}
use Rattle.fv_lines.specs.Words.{next_place}
use Rattle.aiger_text.specs.declared.gate.Gate.{Gate}
use Rattle.aiger_text.specs.declared.gate.Output.{Output}
use Rattle.aiger_text.specs.declared.header.Sizes.{Sizes}
use Rattle.aiger_text.specs.declared.fault.AagFault.{AagFault}
use Rattle.aiger_text.specs.declared.fault.AagFault.TheVariants.{Header, Kind, Literal, Twice, Open, Undefined, Loop}
use Rattle.aiger_text.specs.declared.fault.AagFault.TheVariants.{Memory}
use Rattle.aiger_text.specs.Faults.{OrMemory}
use Rattle.aiger_text.specs.Lines.{lines, words, literal_of}
use Rattle.aiger_text.specs.Said.{Said, variable, variables, with_gate, defined_literal, gate_of, once, input_line}
use Rattle.aiger_text.specs.Said.{gate_line, output_line, read_inputs, read_gates}

-- what follows of the fact about a refusal
pub or_memory : (e : AagFault) (P Q : Type 0) → OrMemory e P → (P → Q) → OrMemory e Q
or_memory (Header line) P Q p f = f p
or_memory (Kind line) P Q p f = f p
or_memory (Literal line) P Q p f = f p
or_memory (Twice line) P Q p f = f p
or_memory (Open line) P Q p f = f p
or_memory (Undefined line) P Q p f = f p
or_memory (Loop line) P Q p f = f p
or_memory Memory P Q p f = tt

-- ---- inputs

pub input_bad : (most line : ℕ) (inputs text : List ℕ) → None ≡ defined_literal most text
    → input_line most line inputs text ≡ Err (Literal line)
input_bad most line inputs text e =
    ap (λ o. and_then (ok_or o (Literal line)) (λ l. once (map variable inputs) line l (inputs ++ l ∷ []))) (sym e)

input_tested : (most line l : ℕ) (inputs text keys : List ℕ) (b : Bool) → Some l ≡ defined_literal most text
    → keys ≡ map variable inputs → list_any (nat_eq (variable l)) keys ≡ b
    → input_line most line inputs text ≡ cond b (Err (Twice line)) (Ok (inputs ++ l ∷ []))
input_tested most line l inputs text keys b e k h =
    ap (λ o. and_then (ok_or o (Literal line)) (λ l. once (map variable inputs) line l (inputs ++ l ∷ []))) (sym e)
    ∙ ap (λ ks. cond (list_any (nat_eq (variable l)) ks) (Err (Twice line)) (Ok (inputs ++ l ∷ []))) (sym k)
    ∙ ap (λ t. cond t (Err (Twice line)) (Ok (inputs ++ l ∷ []))) h

pub input_twice : (most line l : ℕ) (inputs text keys : List ℕ) (e : AagFault) → Some l ≡ defined_literal most text
    → keys ≡ map variable inputs → list_any (nat_eq (variable l)) keys ≡ true → e ≡ Twice line
    → input_line most line inputs text ≡ Err e
input_twice most line l inputs text keys e d k h t =
    input_tested most line l inputs text keys true d k h ∙ ap (λ f. Err f) (sym t)

pub input_ok : (most line l : ℕ) (inputs text keys new items : List ℕ) → Some l ≡ defined_literal most text
    → keys ≡ map variable inputs → list_any (nat_eq (variable l)) keys ≡ false → new ≡ keys ++ variable l ∷ []
    → items ≡ inputs ++ l ∷ []
    → (new ≡ map variable items) × (input_line most line inputs text ≡ Ok items)
input_ok most line l inputs text keys new items d k h n i = (
  n ∙ ap (λ ks. ks ++ variable l ∷ []) k ∙ sym (map_push variable inputs l) ∙ ap (map variable) (sym i),
  input_tested most line l inputs text keys false d k h ∙ ap (λ ls. Ok ls) (sym i),
)

pub input_refused : (most line l : ℕ) (inputs text keys : List ℕ) (e : AagFault) → Some l ≡ defined_literal most text
    → keys ≡ map variable inputs → OrMemory e ((e ≡ Twice line) × (list_any (nat_eq (variable l)) keys ≡ true))
    → OrMemory e (input_line most line inputs text ≡ Err e)
input_refused most line l inputs text keys e d k h =
    or_memory e ((e ≡ Twice line) × (list_any (nat_eq (variable l)) keys ≡ true))
    (input_line most line inputs text ≡ Err e) h
    (λ (t : (e ≡ Twice line) × (list_any (nat_eq (variable l)) keys ≡ true)).
    input_twice most line l inputs text keys e d k t.1 t.0)

-- a line of the inputs, where there is one
module _ (sizes : Sizes) (line : ℕ) (inputs rest text behind : List ℕ) (all : Result Said AagFault)
    (e : lines rest ≡ text ∷ lines behind) (p : read_inputs sizes line inputs (lines rest) ≡ all) where
  inputs_at : nat_lt (length inputs) sizes.inputs ≡ true
      → all ≡ and_then (input_line sizes.most line inputs text)
      (λ ls. read_inputs sizes (next_place line) ls (lines behind))
  inputs_at h =
      sym p ∙ ap (read_inputs sizes line inputs) e
      ∙ ap (λ b. cond b (and_then (input_line sizes.most line inputs text)
      (λ ls. read_inputs sizes (next_place line) ls (lines behind)))
      (and_then (output_line sizes.most line text)
      (λ o. read_gates sizes (next_place line) (record { inputs = inputs; output = o; gates = [] }) (lines behind)))) h

  pub inputs_next : (items : List ℕ) → nat_lt (length inputs) sizes.inputs ≡ true
      → input_line sizes.most line inputs text ≡ Ok items
      → read_inputs sizes (next_place line) items (lines behind) ≡ all
  inputs_next items h k =
      sym (inputs_at h ∙ ap (λ r. and_then r (λ ls. read_inputs sizes (next_place line) ls (lines behind))) k)

  pub inputs_fail : (f : AagFault) → nat_lt (length inputs) sizes.inputs ≡ true
      → input_line sizes.most line inputs text ≡ Err f → all ≡ Err f
  inputs_fail f h k =
      inputs_at h ∙ ap (λ r. and_then r (λ ls. read_inputs sizes (next_place line) ls (lines behind))) k

  pub inputs_refused : (f : AagFault) → nat_lt (length inputs) sizes.inputs ≡ true
      → OrMemory f (input_line sizes.most line inputs text ≡ Err f) → OrMemory f (all ≡ Err f)
  inputs_refused f h o =
      or_memory f (input_line sizes.most line inputs text ≡ Err f) (all ≡ Err f) o (λ k. inputs_fail f h k)

  -- the output's line, behind all inputs
  pub output_at : nat_lt (length inputs) sizes.inputs ≡ false
      → all ≡ and_then (output_line sizes.most line text)
      (λ o. read_gates sizes (next_place line) (record { inputs = inputs; output = o; gates = [] }) (lines behind))
  output_at h =
      sym p ∙ ap (read_inputs sizes line inputs) e
      ∙ ap (λ b. cond b (and_then (input_line sizes.most line inputs text)
      (λ ls. read_inputs sizes (next_place line) ls (lines behind)))
      (and_then (output_line sizes.most line text)
      (λ o. read_gates sizes (next_place line) (record { inputs = inputs; output = o; gates = [] }) (lines behind)))) h

  pub output_bad : nat_lt (length inputs) sizes.inputs ≡ false → None ≡ literal_of sizes.most text
      → all ≡ Err (Literal line)
  output_bad h k =
      output_at h ∙ ap (λ o. and_then (and_then (ok_or o (Literal line)) (λ l. Ok (record { line = line; literal = l })))
      (λ o. read_gates sizes (next_place line) (record { inputs = inputs; output = o; gates = [] }) (lines behind)))
      (sym k)

  pub output_ok : (l : ℕ) → nat_lt (length inputs) sizes.inputs ≡ false → Some l ≡ literal_of sizes.most text
      → all ≡ read_gates sizes (next_place line)
      (record { inputs = inputs; output = record { line = line; literal = l }; gates = [] }) (lines behind)
  output_ok l h k =
      output_at h ∙ ap (λ o. and_then (and_then (ok_or o (Literal line)) (λ l. Ok (record { line = line; literal = l })))
      (λ o. read_gates sizes (next_place line) (record { inputs = inputs; output = o; gates = [] }) (lines behind)))
      (sym k)

pub inputs_open : (sizes : Sizes) (line : ℕ) (inputs rest : List ℕ) (all : Result Said AagFault) → rest ≡ []
    → read_inputs sizes line inputs (lines rest) ≡ all → all ≡ Err (Open line)
inputs_open sizes line inputs rest all e p = sym p ∙ ap (λ r. read_inputs sizes line inputs (lines r)) e

-- ---- gates

pub no_gates : (inputs keys : List ℕ) (output : Output) (gates : List Gate) → keys ≡ map variable inputs → gates ≡ []
    → keys ≡ variables (record { inputs = inputs; output = output; gates = gates })
no_gates inputs keys output gates k g =
    k ∙ sym (append-nil (map variable inputs))
    ∙ ap (λ gs. map variable inputs ++ map (λ (h : Gate). variable h.literal) gs) (sym g)

pub gate_bad : (most line : ℕ) (said : Said) (text : List ℕ) → None ≡ gate_of most line (words text)
    → gate_line most line said text ≡ Err (Literal line)
gate_bad most line said text e =
    ap (λ o. and_then (ok_or o (Literal line)) (λ (g : Gate). once (variables said) line g.literal (with_gate said g)))
    (sym e)

gate_tested : (most line : ℕ) (g : Gate) (said : Said) (text keys : List ℕ) (b : Bool)
    → Some g ≡ gate_of most line (words text) → keys ≡ variables said
    → list_any (nat_eq (variable g.literal)) keys ≡ b
    → gate_line most line said text ≡ cond b (Err (Twice line)) (Ok (with_gate said g))
gate_tested most line g said text keys b e k h =
    ap (λ o. and_then (ok_or o (Literal line)) (λ (g : Gate). once (variables said) line g.literal (with_gate said g)))
    (sym e)
    ∙ ap (λ ks. cond (list_any (nat_eq (variable g.literal)) ks) (Err (Twice line)) (Ok (with_gate said g))) (sym k)
    ∙ ap (λ t. cond t (Err (Twice line)) (Ok (with_gate said g))) h

pub gate_twice : (most line : ℕ) (g : Gate) (said : Said) (text keys : List ℕ) (e : AagFault)
    → Some g ≡ gate_of most line (words text) → keys ≡ variables said
    → list_any (nat_eq (variable g.literal)) keys ≡ true → e ≡ Twice line → gate_line most line said text ≡ Err e
gate_twice most line g said text keys e d k h t =
    gate_tested most line g said text keys true d k h ∙ ap (λ f. Err f) (sym t)

pub gate_ok : (most line : ℕ) (g : Gate) (said : Said) (text keys new : List ℕ) (gates : List Gate)
    → Some g ≡ gate_of most line (words text) → keys ≡ variables said
    → list_any (nat_eq (variable g.literal)) keys ≡ false → new ≡ keys ++ variable g.literal ∷ []
    → gates ≡ said.gates ++ g ∷ []
    → (new ≡ variables (record { inputs = said.inputs; output = said.output; gates = gates }))
    × (gate_line most line said text ≡ Ok (record { inputs = said.inputs; output = said.output; gates = gates }))
gate_ok most line g said text keys new gates d k h n i = (
  n ∙ ap (λ ks. ks ++ variable g.literal ∷ []) k
      ∙ append_assoc (map variable said.inputs) (map (λ (h : Gate). variable h.literal) said.gates)
      (variable g.literal ∷ [])
      ∙ ap (λ ks. map variable said.inputs ++ ks) (sym (map_push (λ (h : Gate). variable h.literal) said.gates g))
      ∙ ap (λ gs. map variable said.inputs ++ map (λ (h : Gate). variable h.literal) gs) (sym i),
  gate_tested most line g said text keys false d k h
      ∙ ap (λ gs. Ok (record { inputs = said.inputs; output = said.output; gates = gs })) (sym i),
)

pub gate_refused : (most line : ℕ) (g : Gate) (said : Said) (text keys : List ℕ) (e : AagFault)
    → Some g ≡ gate_of most line (words text) → keys ≡ variables said
    → OrMemory e ((e ≡ Twice line) × (list_any (nat_eq (variable g.literal)) keys ≡ true))
    → OrMemory e (gate_line most line said text ≡ Err e)
gate_refused most line g said text keys e d k h =
    or_memory e ((e ≡ Twice line) × (list_any (nat_eq (variable g.literal)) keys ≡ true))
    (gate_line most line said text ≡ Err e) h
    (λ (t : (e ≡ Twice line) × (list_any (nat_eq (variable g.literal)) keys ≡ true)).
    gate_twice most line g said text keys e d k t.1 t.0)

pub gates_full : (sizes : Sizes) (line : ℕ) (said : Said) (ls : List (List ℕ)) (all : Result Said AagFault)
    → (length said.gates == sizes.gates) ≡ true → read_gates sizes line said ls ≡ all → all ≡ Ok said
gates_full sizes line said [] all h p = sym p ∙ ap (λ b. cond b (Ok said) (Err (Open line))) h
gates_full sizes line said (t ∷ ts) all h p =
    sym p ∙ ap (λ b. cond b (Ok said) (and_then (gate_line sizes.most line said t)
    (λ s. read_gates sizes (next_place line) s ts))) h

pub gates_open : (sizes : Sizes) (line : ℕ) (said : Said) (rest : List ℕ) (all : Result Said AagFault) → rest ≡ []
    → (length said.gates == sizes.gates) ≡ false → read_gates sizes line said (lines rest) ≡ all → all ≡ Err (Open line)
gates_open sizes line said rest all e h p =
    sym p ∙ ap (λ r. read_gates sizes line said (lines r)) e ∙ ap (λ b. cond b (Ok said) (Err (Open line))) h

-- a line of a gate, where there is one
module _ (sizes : Sizes) (line : ℕ) (said : Said) (rest text behind : List ℕ) (all : Result Said AagFault)
    (e : lines rest ≡ text ∷ lines behind) (h : (length said.gates == sizes.gates) ≡ false)
    (p : read_gates sizes line said (lines rest) ≡ all) where
  gates_at : all ≡ and_then (gate_line sizes.most line said text)
      (λ s. read_gates sizes (next_place line) s (lines behind))
  gates_at =
      sym p ∙ ap (read_gates sizes line said) e
      ∙ ap (λ b. cond b (Ok said) (and_then (gate_line sizes.most line said text)
      (λ s. read_gates sizes (next_place line) s (lines behind)))) h

  pub gates_next : (now : Said) → gate_line sizes.most line said text ≡ Ok now
      → read_gates sizes (next_place line) now (lines behind) ≡ all
  gates_next now k =
      sym (gates_at ∙ ap (λ r. and_then r (λ s. read_gates sizes (next_place line) s (lines behind))) k)

  pub gates_fail : (f : AagFault) → gate_line sizes.most line said text ≡ Err f → all ≡ Err f
  gates_fail f k = gates_at ∙ ap (λ r. and_then r (λ s. read_gates sizes (next_place line) s (lines behind))) k

  pub gates_refused : (f : AagFault) → OrMemory f (gate_line sizes.most line said text ≡ Err f)
      → OrMemory f (all ≡ Err f)
  gates_refused f o =
      or_memory f (gate_line sizes.most line said text ≡ Err f) (all ≡ Err f) o (λ k. gates_fail f k)
