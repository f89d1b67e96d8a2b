-- The text of a graph says the graph's inputs, output and gates.
use Rattle.std.proofs.Common.{◌≡◌, ℕ, zero, suc, ◌+◌, ◌-◌, ◌*◌, ◌/◌, ◌%◌, ◌^◌, ◌<◌, ◌≤◌, Bool, true, false, not, cond}
use Rattle.std.proofs.Common.{◌==◌, ◌&&◌, ◌||◌, List, [], ◌∷◌, ◌++◌, length, map, Option, Some, None, Result, Ok, Err}
use Rattle.std.proofs.Common.{refl, ap, sym, ◌∙◌, subst, ◌⊎◌, inl, inr, append_assoc, arith}
use Rattle.std.specs.Prelude.{nat_eq, nat_lt, nat_le, slice_get, codes, decimal}
use Rattle.std.specs.Option.{ok_or}
use Rattle.std.specs.List.{list_any, list_all, AllByRecursion}
use Rattle.std.proofs.lemmas.Bool.{false≢true, cases_Bool, and_parts, or_cases, eqb-true}
use Rattle.std.proofs.lemmas.Bool.Decides.{nat_tests}
use Rattle.std.proofs.lemmas.List.{append-nil, map_push, length_push, length-append}
use Rattle.std.proofs.lemmas.List.Folds.{list_any-append}
use Rattle.std.proofs.lemmas.Fmt.{length-decimal-le}
use Rattle.std.proofs.lemmas.Option.{none-some, same_Some}
use Rattle.fv_text.specs.Results.{and_then}
use Rattle.fv_lines.specs.Numbers.{is_digit, natural_of}
use Rattle.fv_lines.specs.Words.{joined, next_place}
use Rattle.fv_lines.specs.Cuts.{HasNo}
use Rattle.fv_lines.proofs.Digits.{Says, decimal_says, natural_from, number_is}
use Rattle.bb_aig.specs.declared.node.AigNode.{AigNode}
use Rattle.bb_aig.specs.declared.node.AigNode.TheVariants as n
use Rattle.bb_aig.specs.Graph.{inputs_of, count_inputs, inputs_after, IsFitting, AreFitting, IsGraph, IsLit}
use Rattle.aiger_text.specs.declared.gate.Gate.{Gate}
use Rattle.aiger_text.specs.declared.gate.Output.{Output}
use Rattle.aiger_text.specs.declared.header.Sizes.{Sizes}
use Rattle.aiger_text.specs.declared.fault.AagFault.{AagFault}
use Rattle.aiger_text.specs.declared.fault.AagFault.TheVariants.{Header, Kind, Literal, Twice, Open}
use Rattle.aiger_text.specs.Lines.{lines, words, short, literal_of}
use Rattle.aiger_text.specs.Header.{if_some, shorts, sizes_of, header_words, header_of}
use Rattle.aiger_text.specs.Said.{Said, variable, variables, with_gate, if_even, defined_literal, gate_of, once}
use Rattle.aiger_text.specs.Said.{input_line, output_line, gate_line, read_inputs, read_gates, read_lines, said_by}
use Rattle.aiger_text.specs.Written.{with_end, word, last_word, header_text, input_text, gate_text, inputs_text}
use Rattle.aiger_text.specs.Written.{gates_text, names_text, aag_text}
use Rattle.aiger_text.proofs.LineLaws.{line_first, word_first, word_last}
use Rattle.aiger_text.proofs.BodyLaws.{gates_full}

-- ---- what the text says

-- the literals of inputs, among nodes of which the first has this number
abbrev pub input_lits : ℕ → List AigNode → List ℕ
input_lits k [] = []
input_lits k (n.False ∷ gs) = input_lits (k + 1) gs
input_lits k (n.Input i ∷ gs) = 2 * k ∷ input_lits (k + 1) gs
input_lits k (n.And a b ∷ gs) = input_lits (k + 1) gs

-- their gates, from this line on
abbrev pub gates_from : ℕ → ℕ → List AigNode → List Gate
gates_from line k [] = []
gates_from line k (n.False ∷ gs) = gates_from line (k + 1) gs
gates_from line k (n.Input i ∷ gs) = gates_from line (k + 1) gs
gates_from line k (n.And a b ∷ gs) =
    record { line = line; literal = 2 * k; left = a; right = b } ∷ gates_from (next_place line) (k + 1) gs

-- ---- numbers as lines and words

no_digit : (mark : ℕ) (ds : List ℕ) → mark < 48 → list_all is_digit ds ≡ true → HasNo mark ds
no_digit mark [] l h = refl
no_digit mark (d ∷ ds) l h =
    let p = and_parts (is_digit d) (list_all is_digit ds) h in
    let q : is_digit d ≡ true = p.0 in
    let e : not (d == mark) ≡ true = grind (arith, nat_tests) in
    ap (λ b. b && list_all (λ z. not (z == mark)) ds) e ∙ no_digit mark ds l p.1

pub decimal_has_no : (mark k : ℕ) → mark < 48 → k < 2 ^ 64 → HasNo mark (decimal k)
decimal_has_no mark k l f = no_digit mark (decimal k) l (decimal_says k f).digits

no_append : (mark : ℕ) (xs ys : List ℕ) → HasNo mark xs → HasNo mark ys → HasNo mark (xs ++ ys)
no_append mark [] ys h k = k
no_append mark (x ∷ xs) ys h k =
    let p = and_parts (not (x == mark)) (list_all (λ z. not (z == mark)) xs) h in
    ap (λ b. b && list_all (λ z. not (z == mark)) (xs ++ ys)) p.0 ∙ no_append mark xs ys p.1 k

-- a line that was written, and what stands behind it
line_is : (line rest : List ℕ) → HasNo 10 line → lines ((line ++ 10 ∷ []) ++ rest) ≡ line ∷ lines rest
line_is line rest h = ap lines (append_assoc line (10 ∷ []) rest) ∙ line_first line rest h

short_is : (k : ℕ) → k < 2 ^ 64 → short (decimal k) ≡ Some k
short_is k f =
    let l = length-decimal-le 20 k (omega arith) (omega (arith, f)) f in
    let le : nat_le (length (decimal k)) 20 ≡ true = grind (arith, nat_tests) in
    ap (λ b. cond b (natural_of (decimal k)) None) le ∙ natural_from k (decimal k) (decimal_says k f)

literal_is : (most l : ℕ) → l < 2 ^ 64 → l ≤ 2 * most + 1 → literal_of most (decimal l) ≡ Some l
literal_is most l f h = number_is (2 * most + 1) l (decimal l) (decimal_says l f) h

even_is : (k : ℕ) → 0 < k → if_even (2 * k) ≡ Some (2 * k)
even_is k h =
    let r : (2 * k % 2 == 0) ≡ true = grind (arith, nat_tests) in
    let s : not (2 * k == 0) ≡ true = grind (arith, nat_tests) in
    ap (λ b. cond (b && not (2 * k == 0)) (Some (2 * k)) None) r ∙ ap (λ b. cond b (Some (2 * k)) None) s

defined_is : (most k : ℕ) → 0 < k → 2 * k < 2 ^ 64 → k ≤ most → defined_literal most (decimal (2 * k)) ≡ Some (2 * k)
defined_is most k p f h =
    ap (λ o. if_some o if_even) (literal_is most (2 * k) f (omega (arith, h))) ∙ even_is k p

-- ---- variables that are lower

none_lower : (m k : ℕ) (vs : List ℕ) → AllByRecursion (λ v. v < k) vs → k ≤ m → list_any (nat_eq m) vs ≡ false
none_lower m k [] h l = refl
none_lower m k (v ∷ vs) h l =
    let less : v < k = h.0 in
    let e : nat_eq m v ≡ false = grind (arith, nat_tests) in
    ap (λ b. b || list_any (nat_eq m) vs) e ∙ none_lower m k vs h.1 l

lower_push : (k v : ℕ) (vs : List ℕ) → AllByRecursion (λ u. u < k) vs → v < k → AllByRecursion (λ u. u < k) (vs ++ v ∷ [])
lower_push k v [] h l = (l, tt)
lower_push k v (u ∷ vs) h l = (h.0, lower_push k v vs h.1 l)

lower_more : (k : ℕ) (vs : List ℕ) → AllByRecursion (λ u. u < k) vs → AllByRecursion (λ u. u < k + 1) vs
lower_more k [] h = tt
lower_more k (v ∷ vs) h = let l : v < k = h.0 in (omega (arith, l), lower_more k vs h.1)

half : (k : ℕ) → variable (2 * k) ≡ k
half k = omega arith

-- ---- inputs

module _ (sizes : Sizes) (few : sizes.most < 2 ^ 62) where
  input_is : (line k : ℕ) (inputs : List ℕ) → 0 < k → k ≤ sizes.most
      → AllByRecursion (λ v. v < k) (map variable inputs)
      → input_line sizes.most line inputs (decimal (2 * k)) ≡ Ok (inputs ++ 2 * k ∷ [])
  input_is line k inputs p h lower =
      let d = defined_is sizes.most k p (omega (arith, h, few)) h in
      ap (λ o. and_then (ok_or o (Literal line)) (λ l. once (map variable inputs) line l (inputs ++ l ∷ []))) d
      ∙ ap (λ v. cond (list_any (nat_eq v) (map variable inputs)) (Err (Twice line)) (Ok (inputs ++ 2 * k ∷ []))) (half k)
      ∙ ap (λ b. cond b (Err (Twice line)) (Ok (inputs ++ 2 * k ∷ [])))
      (none_lower k k (map variable inputs) lower (omega arith))

  inputs_are : (line k : ℕ) (gs : List AigNode) (inputs rest : List ℕ) → 0 < k → k + length gs ≤ sizes.most + 1
      → length inputs + length (input_lits k gs) ≡ sizes.inputs
      → AllByRecursion (λ v. v < k) (map variable inputs) → (next : ℕ)
      × (read_inputs sizes line inputs (lines (inputs_text k gs ++ rest))
      ≡ read_inputs sizes next (inputs ++ input_lits k gs) (lines rest))
  inputs_are line k [] inputs rest p h c lower =
      (line, ap (λ xs. read_inputs sizes line xs (lines rest)) (sym (append-nil inputs)))
  inputs_are line k (n.False ∷ gs) inputs rest p h c lower =
      inputs_are line (k + 1) gs inputs rest (omega arith) (omega (arith, h)) c (lower_more k (map variable inputs) lower)
  inputs_are line k (n.And a b ∷ gs) inputs rest p h c lower =
      inputs_are line (k + 1) gs inputs rest (omega arith) (omega (arith, h)) c (lower_more k (map variable inputs) lower)
  inputs_are line k (n.Input i ∷ gs) inputs rest p h c lower =
      let small : k ≤ sizes.most = omega (arith, h) in
      let fits : 2 * k < 2 ^ 64 = omega (arith, small, few) in
      let r = inputs_are (next_place line) (k + 1) gs (inputs ++ 2 * k ∷ []) rest (omega arith) (omega (arith, h))
      (let l = length_push inputs (2 * k) in omega (arith, l, c))
      (subst (AllByRecursion (λ v. v < k + 1)) (sym (map_push variable inputs (2 * k)
      ∙ ap (λ v. map variable inputs ++ v ∷ []) (half k)))
      (lower_push (k + 1) k (map variable inputs) (lower_more k (map variable inputs) lower) (omega arith))) in
      let t : nat_lt (length inputs) sizes.inputs ≡ true =
      (let q : length inputs < sizes.inputs = omega (arith, c) in grind (arith, nat_tests)) in (
        r.0,
        ap (λ x. read_inputs sizes line inputs (lines x))
            (append_assoc (last_word (2 * k)) (inputs_text (k + 1) gs) rest)
            ∙ ap (read_inputs sizes line inputs)
            (line_is (decimal (2 * k)) (inputs_text (k + 1) gs ++ rest)
            (decimal_has_no 10 (2 * k) (omega arith) fits))
            ∙ ap (λ b. cond b (and_then (input_line sizes.most line inputs (decimal (2 * k)))
            (λ all. read_inputs sizes (next_place line) all (lines (inputs_text (k + 1) gs ++ rest))))
            (and_then (output_line sizes.most line (decimal (2 * k)))
            (λ o. read_gates sizes (next_place line) (record { inputs = inputs; output = o; gates = [] })
            (lines (inputs_text (k + 1) gs ++ rest))))) t
            ∙ ap (λ o. and_then o
            (λ all. read_inputs sizes (next_place line) all (lines (inputs_text (k + 1) gs ++ rest))))
            (input_is line k inputs p small lower)
            ∙ r.1
            ∙ ap (λ xs. read_inputs sizes r.0 xs (lines rest))
            (append_assoc inputs (2 * k ∷ []) (input_lits (k + 1) gs)),
      )

  -- ---- the output

  output_is : (line root : ℕ) (inputs rest : List ℕ) → nat_lt (length inputs) sizes.inputs ≡ false
      → root ≤ 2 * sizes.most + 1
      → read_inputs sizes line inputs (lines (last_word root ++ rest))
      ≡ read_gates sizes (next_place line)
      (record { inputs = inputs; output = record { line = line; literal = root }; gates = [] }) (lines rest)
  output_is line root inputs rest f h =
      let fits : root < 2 ^ 64 = omega (arith, h, few) in
      ap (read_inputs sizes line inputs)
      (line_is (decimal root) rest (decimal_has_no 10 root (omega arith) fits))
      ∙ ap (λ b. cond b (and_then (input_line sizes.most line inputs (decimal root))
      (λ all. read_inputs sizes (next_place line) all (lines rest)))
      (and_then (output_line sizes.most line (decimal root))
      (λ o. read_gates sizes (next_place line) (record { inputs = inputs; output = o; gates = [] }) (lines rest)))) f
      ∙ ap (λ o. and_then (and_then (ok_or o (Literal line)) (λ l. Ok (record { line = line; literal = l })))
      (λ o. read_gates sizes (next_place line) (record { inputs = inputs; output = o; gates = [] }) (lines rest)))
      (literal_is sizes.most root fits h)

  -- ---- gates

  -- the line of a gate
  gate_words : (k a b : ℕ) → k < 2 ^ 64 → a < 2 ^ 64 → b < 2 ^ 64
      → words (decimal k ++ 32 ∷ (decimal a ++ 32 ∷ decimal b)) ≡ decimal k ∷ decimal a ∷ decimal b ∷ []
  gate_words k a b f g h =
      word_first (decimal k) (decimal a ++ 32 ∷ decimal b) (decimal_has_no 32 k (omega arith) f)
      ∙ ap (λ ws. decimal k ∷ ws) (word_first (decimal a) (decimal b) (decimal_has_no 32 a (omega arith) g))
      ∙ ap (λ ws. decimal k ∷ decimal a ∷ ws) (word_last (decimal b) (decimal_has_no 32 b (omega arith) h))

  gate_shape : (k a b : ℕ) (rest : List ℕ) → (word k ++ word a ++ last_word b) ++ rest
      ≡ ((decimal k ++ 32 ∷ (decimal a ++ 32 ∷ decimal b)) ++ 10 ∷ []) ++ rest
  gate_shape k a b rest = simp append_assoc

  gate_has_no : (k a b : ℕ) → k < 2 ^ 64 → a < 2 ^ 64 → b < 2 ^ 64
      → HasNo 10 (decimal k ++ 32 ∷ (decimal a ++ 32 ∷ decimal b))
  gate_has_no k a b f g h =
      no_append 10 (decimal k) (32 ∷ (decimal a ++ 32 ∷ decimal b)) (decimal_has_no 10 k (omega arith) f)
      (no_append 10 (decimal a) (32 ∷ decimal b) (decimal_has_no 10 a (omega arith) g)
      (decimal_has_no 10 b (omega arith) h))

  gate_is : (line k a b : ℕ) (said : Said) → 0 < k → k ≤ sizes.most → a < 2 * k → b < 2 * k
      → list_any (nat_eq k) (variables said) ≡ false
      → gate_line sizes.most line said (decimal (2 * k) ++ 32 ∷ (decimal a ++ 32 ∷ decimal b))
      ≡ Ok (with_gate said (record { line = line; literal = 2 * k; left = a; right = b }))
  gate_is line k a b said p h l m none =
      let f : 2 * k < 2 ^ 64 = omega (arith, h, few) in
      let g : a < 2 ^ 64 = omega (arith, f, l) in
      let i : b < 2 ^ 64 = omega (arith, f, m) in
      ap (λ ws. and_then (ok_or (gate_of sizes.most line ws) (Literal line))
      (λ (x : Gate). once (variables said) line x.literal (with_gate said x))) (gate_words (2 * k) a b f g i)
      ∙ ap (λ o. and_then (ok_or (if_some o (λ x. if_some (literal_of sizes.most (decimal a)) (λ y.
      if_some (literal_of sizes.most (decimal b)) (λ z.
      Some (record { line = line; literal = x; left = y; right = z }))))) (Literal line))
      (λ (x : Gate). once (variables said) line x.literal (with_gate said x))) (defined_is sizes.most k p f h)
      ∙ ap (λ o. and_then (ok_or (if_some o (λ y. if_some (literal_of sizes.most (decimal b)) (λ z.
      Some (record { line = line; literal = 2 * k; left = y; right = z })))) (Literal line))
      (λ (x : Gate). once (variables said) line x.literal (with_gate said x)))
      (literal_is sizes.most a g (omega (arith, l, h)))
      ∙ ap (λ o. and_then (ok_or (if_some o (λ z.
      Some (record { line = line; literal = 2 * k; left = a; right = z }))) (Literal line))
      (λ (x : Gate). once (variables said) line x.literal (with_gate said x)))
      (literal_is sizes.most b i (omega (arith, m, h)))
      ∙ ap (λ v. cond (list_any (nat_eq v) (variables said)) (Err (Twice line))
      (Ok (with_gate said (record { line = line; literal = 2 * k; left = a; right = b })))) (half k)
      ∙ ap (λ t. cond t (Err (Twice line))
      (Ok (with_gate said (record { line = line; literal = 2 * k; left = a; right = b })))) none

  gates_are : (line k i : ℕ) (gs : List AigNode) (said : Said) (rest : List ℕ) → AreFitting k i gs
      → k + length gs ≤ sizes.most + 1 → length said.gates + length (gates_from line k gs) ≡ sizes.gates
      → AllByRecursion (λ v. v < k) (map (λ (g : Gate). variable g.literal) said.gates)
      → ((j a b : ℕ) → slice_get gs j ≡ Some (n.And a b)
      → list_any (nat_eq (k + j)) (map variable said.inputs) ≡ false)
      → read_gates sizes line said (lines (gates_text k gs ++ rest))
      ≡ Ok (record { inputs = said.inputs; output = said.output; gates = said.gates ++ gates_from line k gs })
  gates_are line k i [] said rest f h c lower absent =
      let t : (length said.gates == sizes.gates) ≡ true = grind (arith, nat_tests) in
      gates_full sizes line said (lines rest) (read_gates sizes line said (lines rest)) t refl
      ∙ ap (λ gs. Ok (record { inputs = said.inputs; output = said.output; gates = gs })) (sym (append-nil said.gates))
  gates_are line k i (n.False ∷ gs) said rest f h c lower absent =
      gates_are line (k + 1) i gs said rest f.1 (omega (arith, h)) c
      (lower_more k (map (λ (g : Gate). variable g.literal) said.gates) lower)
      (λ j a b e. moved j (absent (suc j) a b e)) where
        moved : (j : ℕ) → list_any (nat_eq (k + suc j)) (map variable said.inputs) ≡ false
            → list_any (nat_eq (k + 1 + j)) (map variable said.inputs) ≡ false
        moved j e =
            let z : k + 1 + j ≡ k + suc j = omega arith in
            ap (λ m. list_any (nat_eq m) (map variable said.inputs)) z ∙ e
  gates_are line k i (n.Input m ∷ gs) said rest f h c lower absent =
      gates_are line (k + 1) (i + 1) gs said rest f.1 (omega (arith, h)) c
      (lower_more k (map (λ (g : Gate). variable g.literal) said.gates) lower)
      (λ j a b e. moved j (absent (suc j) a b e)) where
        moved : (j : ℕ) → list_any (nat_eq (k + suc j)) (map variable said.inputs) ≡ false
            → list_any (nat_eq (k + 1 + j)) (map variable said.inputs) ≡ false
        moved j e =
            let z : k + 1 + j ≡ k + suc j = omega arith in
            ap (λ m. list_any (nat_eq m) (map variable said.inputs)) z ∙ e
  gates_are line k i (n.And a b ∷ gs) said rest f h c lower absent =
      let l : a < 2 * k = f.0.0 in
      let m : b < 2 * k = f.0.1 in
      let p : 0 < k = omega (arith, l) in
      let small : k ≤ sizes.most = omega (arith, h) in
      let x : 2 * k < 2 ^ 64 = omega (arith, small, few) in
      let y : a < 2 ^ 64 = omega (arith, x, l) in
      let z : b < 2 ^ 64 = omega (arith, x, m) in
      let t : (length said.gates == sizes.gates) ≡ false =
      (let q : length said.gates < sizes.gates = omega (arith, c) in grind (arith, nat_tests)) in
      let here : k + 0 ≡ k = omega arith in
      let none : list_any (nat_eq k) (variables said) ≡ false =
      list_any-append (nat_eq k) (map variable said.inputs) (map (λ (g : Gate). variable g.literal) said.gates)
      ∙ ap (λ w. w || list_any (nat_eq k) (map (λ (g : Gate). variable g.literal) said.gates))
      (ap (λ v. list_any (nat_eq v) (map variable said.inputs)) (sym here) ∙ absent 0 a b refl)
      ∙ none_lower k k (map (λ (g : Gate). variable g.literal) said.gates) lower (omega arith) in
      let r = gates_are (next_place line) (k + 1) i gs
      (with_gate said (record { line = line; literal = 2 * k; left = a; right = b })) rest f.1 (omega (arith, h))
      (let w = length_push said.gates (record { line = line; literal = 2 * k; left = a; right = b }) in
      omega (arith, w, c))
      (subst (AllByRecursion (λ v. v < k + 1))
      (sym (map_push (λ (g : Gate). variable g.literal) said.gates
      (record { line = line; literal = 2 * k; left = a; right = b })
      ∙ ap (λ v. map (λ (g : Gate). variable g.literal) said.gates ++ v ∷ []) (half k)))
      (lower_push (k + 1) k (map (λ (g : Gate). variable g.literal) said.gates)
      (lower_more k (map (λ (g : Gate). variable g.literal) said.gates) lower) (omega arith)))
      (λ j a b e. moved j (absent (suc j) a b e)) in
      ap (λ w. read_gates sizes line said (lines w))
      (append_assoc (word (2 * k) ++ word a ++ last_word b) (gates_text (k + 1) gs) rest
      ∙ gate_shape (2 * k) a b (gates_text (k + 1) gs ++ rest))
      ∙ ap (read_gates sizes line said)
      (line_is (decimal (2 * k) ++ 32 ∷ (decimal a ++ 32 ∷ decimal b)) (gates_text (k + 1) gs ++ rest)
      (gate_has_no (2 * k) a b x y z))
      ∙ ap (λ w. cond w (Ok said) (and_then (gate_line sizes.most line said
      (decimal (2 * k) ++ 32 ∷ (decimal a ++ 32 ∷ decimal b)))
      (λ s. read_gates sizes (next_place line) s (lines (gates_text (k + 1) gs ++ rest))))) t
      ∙ ap (λ o. and_then o (λ s. read_gates sizes (next_place line) s (lines (gates_text (k + 1) gs ++ rest))))
      (gate_is line k a b said p small l m none)
      ∙ r
      ∙ ap (λ gs. Ok (record { inputs = said.inputs; output = said.output; gates = gs }))
      (append_assoc said.gates (record { line = line; literal = 2 * k; left = a; right = b } ∷ [])
      (gates_from (next_place line) (k + 1) gs)) where
        moved : (j : ℕ) → list_any (nat_eq (k + suc j)) (map variable said.inputs) ≡ false
            → list_any (nat_eq (k + 1 + j)) (map variable said.inputs) ≡ false
        moved j e =
            let z : k + 1 + j ≡ k + suc j = omega arith in
            ap (λ m. list_any (nat_eq m) (map variable said.inputs)) z ∙ e

-- ---- the header

abbrev header_line : List ℕ → List ℕ → List ℕ → List ℕ
header_line m i a = codes "aag " ++ (m ++ 32 ∷ (i ++ 32 ∷ (codes "0 1 " ++ a)))

header_shape : (m i a rest : List ℕ)
    → (codes "aag " ++ (m ++ 32 ∷ []) ++ (i ++ 32 ∷ []) ++ codes "0 1 " ++ (a ++ 10 ∷ [])) ++ rest
    ≡ (header_line m i a ++ 10 ∷ []) ++ rest
header_shape m i a rest = simp append_assoc

header_has_no : (m i a : ℕ) → m < 2 ^ 64 → i < 2 ^ 64 → a < 2 ^ 64
    → HasNo 10 (header_line (decimal m) (decimal i) (decimal a))
header_has_no m i a f g h =
    no_append 10 (codes "aag ") (decimal m ++ 32 ∷ (decimal i ++ 32 ∷ (codes "0 1 " ++ decimal a))) refl
    (no_append 10 (decimal m) (32 ∷ (decimal i ++ 32 ∷ (codes "0 1 " ++ decimal a)))
    (decimal_has_no 10 m (omega arith) f)
    (no_append 10 (decimal i) (32 ∷ (codes "0 1 " ++ decimal a)) (decimal_has_no 10 i (omega arith) g)
    (decimal_has_no 10 a (omega arith) h)))

line_words : (m i a : ℕ) → m < 2 ^ 64 → i < 2 ^ 64 → a < 2 ^ 64
    → words (header_line (decimal m) (decimal i) (decimal a))
    ≡ codes "aag" ∷ decimal m ∷ decimal i ∷ codes "0" ∷ codes "1" ∷ decimal a ∷ []
line_words m i a f g h =
    let one : words (header_line (decimal m) (decimal i) (decimal a))
    ≡ codes "aag" ∷ words (decimal m ++ 32 ∷ (decimal i ++ 32 ∷ (codes "0 1 " ++ decimal a))) = refl in
    let two : words (codes "0 1 " ++ decimal a) ≡ codes "0" ∷ codes "1" ∷ words (decimal a) = refl in
    one
    ∙ ap (λ ws. codes "aag" ∷ ws) (word_first (decimal m) (decimal i ++ 32 ∷ (codes "0 1 " ++ decimal a))
    (decimal_has_no 32 m (omega arith) f))
    ∙ ap (λ ws. codes "aag" ∷ decimal m ∷ ws) (word_first (decimal i) (codes "0 1 " ++ decimal a)
    (decimal_has_no 32 i (omega arith) g))
    ∙ ap (λ ws. codes "aag" ∷ decimal m ∷ decimal i ∷ ws) two
    ∙ ap (λ ws. codes "aag" ∷ decimal m ∷ decimal i ∷ codes "0" ∷ codes "1" ∷ ws)
    (word_last (decimal a) (decimal_has_no 32 a (omega arith) h))

line_numbers : (m i a : ℕ) → m < 2 ^ 64 → i < 2 ^ 64 → a < 2 ^ 64
    → shorts [] (decimal m ∷ decimal i ∷ codes "0" ∷ codes "1" ∷ decimal a ∷ []) ≡ Some (m ∷ i ∷ 0 ∷ 1 ∷ a ∷ [])
line_numbers m i a f g h =
    let last : shorts (m ∷ i ∷ []) (codes "0" ∷ codes "1" ∷ decimal a ∷ [])
    ≡ shorts (m ∷ i ∷ 0 ∷ 1 ∷ []) (decimal a ∷ []) = refl in
    ap (λ o. if_some o (λ x. shorts (x ∷ []) (decimal i ∷ codes "0" ∷ codes "1" ∷ decimal a ∷ []))) (short_is m f)
    ∙ ap (λ o. if_some o (λ x. shorts (m ∷ x ∷ []) (codes "0" ∷ codes "1" ∷ decimal a ∷ []))) (short_is i g)
    ∙ last
    ∙ ap (λ o. if_some o (λ x. shorts (m ∷ i ∷ 0 ∷ 1 ∷ x ∷ []) [])) (short_is a h)

header_is : (m i a : ℕ) → m < 2 ^ 64 → i < 2 ^ 64 → a < 2 ^ 64 → i + a ≤ m
    → header_of (header_line (decimal m) (decimal i) (decimal a))
    ≡ Some (record { most = m; inputs = i; gates = a; plain = true })
header_is m i a f g h l =
    let le : nat_le (i + 0 + a) m ≡ true = grind (arith, nat_tests) in
    ap header_words (line_words m i a f g h)
    ∙ ap (λ o. if_some o sizes_of) (line_numbers m i a f g h)
    ∙ ap (λ b. cond b (Some (record { most = m; inputs = i; gates = a; plain = true })) None) le

-- ---- how many there are

pub count_lits : (k c : ℕ) (gs : List AigNode) → count_inputs c gs ≡ c + length (input_lits k gs)
count_lits k c [] = omega arith
count_lits k c (n.False ∷ gs) = count_lits (k + 1) c gs
count_lits k c (n.Input i ∷ gs) = let r = count_lits (k + 1) (c + 1) gs in omega (arith, r)
count_lits k c (n.And a b ∷ gs) = count_lits (k + 1) c gs

count_all : (line k i : ℕ) (gs : List AigNode) → 0 < k → AreFitting k i gs
    → length gs ≡ length (input_lits k gs) + length (gates_from line k gs)
count_all line k i [] p f = omega arith
count_all line k i (n.False ∷ gs) p f = let z : k ≡ 0 = f.0 in absurd (omega (arith, p, z))
count_all line k i (n.Input m ∷ gs) p f =
    let r = count_all line (k + 1) (i + 1) gs (omega arith) f.1 in omega (arith, r)
count_all line k i (n.And a b ∷ gs) p f =
    let r = count_all (next_place line) (k + 1) i gs (omega arith) f.1 in omega (arith, r)

-- ---- which variables are inputs'

pub input_node : (k : ℕ) (gs : List AigNode) (m : ℕ) → list_any (nat_eq m) (map variable (input_lits k gs)) ≡ true
    → (j i : ℕ) × (m ≡ k + j) × (slice_get gs j ≡ Some (n.Input i))
input_node k [] m h = absurd (false≢true h)
input_node k (n.False ∷ gs) m h =
    let r = input_node (k + 1) gs m h in
    let e = r.2 in
    (suc r.0, r.1, omega (arith, e), r.3)
input_node k (n.And a b ∷ gs) m h =
    let r = input_node (k + 1) gs m h in
    let e = r.2 in
    (suc r.0, r.1, omega (arith, e), r.3)
input_node k (n.Input i ∷ gs) m h =
    by (λ t. input_node (k + 1) gs m t)
    (or_cases (nat_eq m (variable (2 * k))) (list_any (nat_eq m) (map variable (input_lits (k + 1) gs))) h) where
      by : (list_any (nat_eq m) (map variable (input_lits (k + 1) gs)) ≡ true
          → (j l : ℕ) × (m ≡ k + 1 + j) × (slice_get gs j ≡ Some (n.Input l)))
          → (nat_eq m (variable (2 * k)) ≡ true) ⊎ (list_any (nat_eq m) (map variable (input_lits (k + 1) gs)) ≡ true)
          → (j l : ℕ) × (m ≡ k + j) × (slice_get (n.Input i ∷ gs) j ≡ Some (n.Input l))
      by later (inl t) =
          let e : m ≡ variable (2 * k) = eqb-true m (variable (2 * k)) t in
          let f = half k in
          (0, i, omega (arith, e, f), refl)
      by later (inr t) =
          let r = later t in
          let e = r.2 in
          (suc r.0, r.1, omega (arith, e), r.3)

-- a gate's variable is none of them
absent : (k : ℕ) (gs : List AigNode) (j a b : ℕ) → slice_get gs j ≡ Some (n.And a b)
    → list_any (nat_eq (k + j)) (map variable (input_lits k gs)) ≡ false
absent k gs j a b e = by (cases_Bool (list_any (nat_eq (k + j)) (map variable (input_lits k gs)))) where
  by : (list_any (nat_eq (k + j)) (map variable (input_lits k gs)) ≡ true)
      ⊎ (list_any (nat_eq (k + j)) (map variable (input_lits k gs)) ≡ false)
      → list_any (nat_eq (k + j)) (map variable (input_lits k gs)) ≡ false
  by (inr f) = f
  by (inl t) =
      let r = input_node k gs (k + j) t in
      let s : j ≡ r.0 = let q = r.2 in omega (arith, q) in
      absurd (other r.1 (same_Some (n.And a b) (n.Input r.1) (sym e ∙ ap (slice_get gs) s ∙ r.3))) where
        other : (i : ℕ) → n.And a b ≡ n.Input i → ⊥
        other i q = cc

-- ---- the whole text

five : (h i r g n : List ℕ) → h ++ i ++ r ++ g ++ n ≡ h ++ (i ++ (r ++ (g ++ n)))
five h i r g n = simp append_assoc

module _ (nodes : List AigNode) (root : ℕ) (names : List (List ℕ)) (h : IsGraph (n.False ∷ nodes))
    (few : length (n.False ∷ nodes) ≤ 2 ^ 62) (lit : IsLit (n.False ∷ nodes) root) where
  counted : inputs_of (n.False ∷ nodes) ≡ length (input_lits 1 nodes)
  counted = let q = count_lits 1 0 nodes in omega (arith, q)

  gates_counted : (line : ℕ) → length nodes ≡ length (input_lits 1 nodes) + length (gates_from line 1 nodes)
  gates_counted line = count_all line 1 0 nodes (omega arith) h.fitting.1

  header_text_is : header_text (n.False ∷ nodes)
      ≡ codes "aag " ++ word (length nodes) ++ word (length (input_lits 1 nodes)) ++ codes "0 1 "
      ++ last_word (length nodes - length (input_lits 1 nodes))
  header_text_is =
      let m : length (n.False ∷ nodes) - 1 ≡ length nodes = omega arith in
      ap (λ x. codes "aag " ++ word x ++ word (inputs_of (n.False ∷ nodes)) ++ codes "0 1 "
      ++ last_word (x - inputs_of (n.False ∷ nodes))) m
      ∙ ap (λ x. codes "aag " ++ word (length nodes) ++ word x ++ codes "0 1 " ++ last_word (length nodes - x)) counted

  -- what stands behind the header
  behind : (rest : List ℕ) → read_lines (lines (header_text (n.False ∷ nodes) ++ rest))
      ≡ read_inputs (record {
        most = length nodes;
        inputs = length (input_lits 1 nodes);
        gates = length nodes - length (input_lits 1 nodes);
        plain = true;
      }) 2 [] (lines rest)
  behind rest =
      let m : length nodes < 2 ^ 64 = omega (arith, few) in
      let c = gates_counted 0 in
      let i : length (input_lits 1 nodes) < 2 ^ 64 = omega (arith, few, c) in
      let a : length nodes - length (input_lits 1 nodes) < 2 ^ 64 = omega (arith, few) in
      ap (λ x. read_lines (lines (x ++ rest))) header_text_is
      ∙ ap (λ x. read_lines (lines x)) (header_shape (decimal (length nodes)) (decimal (length (input_lits 1 nodes)))
      (decimal (length nodes - length (input_lits 1 nodes))) rest)
      ∙ ap read_lines (line_is (header_line (decimal (length nodes)) (decimal (length (input_lits 1 nodes)))
      (decimal (length nodes - length (input_lits 1 nodes)))) rest
      (header_has_no (length nodes) (length (input_lits 1 nodes)) (length nodes - length (input_lits 1 nodes)) m i a))
      ∙ ap (λ o. and_then (ok_or o (Header 1))
      (λ (sizes : Sizes). cond sizes.plain (read_inputs sizes 2 [] (lines rest)) (Err (Kind 1))))
      (header_is (length nodes) (length (input_lits 1 nodes)) (length nodes - length (input_lits 1 nodes)) m i a
      (omega (arith, c)))

  pub text_said : (line last : ℕ) × (said_by (aag_text (n.False ∷ nodes) root names) ≡ Ok (record {
    inputs = input_lits 1 nodes;
    output = record { line = line; literal = root };
    gates = gates_from last 1 nodes;
  }))
  text_said =
      let small : length nodes < 2 ^ 62 = omega (arith, few) in
      let i = inputs_are (record {
        most = length nodes;
        inputs = length (input_lits 1 nodes);
        gates = length nodes - length (input_lits 1 nodes);
        plain = true;
      }) small 2 1 nodes [] (last_word root ++ (gates_text 1 nodes ++ names_text 0 names)) (omega arith) (omega arith)
      (omega arith) tt in
      let full : nat_lt (length (input_lits 1 nodes)) (length (input_lits 1 nodes)) ≡ false = grind (arith, nat_tests) in
      let o = output_is (record {
        most = length nodes;
        inputs = length (input_lits 1 nodes);
        gates = length nodes - length (input_lits 1 nodes);
        plain = true;
      }) small i.0 root (input_lits 1 nodes) (gates_text 1 nodes ++ names_text 0 names) full (omega (arith, lit)) in
      let c = gates_counted (next_place i.0) in
      let g = gates_are (record {
        most = length nodes;
        inputs = length (input_lits 1 nodes);
        gates = length nodes - length (input_lits 1 nodes);
        plain = true;
      }) small (next_place i.0) 1 0 nodes
      (record { inputs = input_lits 1 nodes; output = record { line = i.0; literal = root }; gates = [] })
      (names_text 0 names) h.fitting.1 (omega arith) (omega (arith, c)) tt (absent 1 nodes) in (
        i.0,
        next_place i.0,
        ap said_by (five (header_text (n.False ∷ nodes)) (inputs_text 1 nodes) (last_word root) (gates_text 1 nodes)
            (names_text 0 names))
            ∙ behind (inputs_text 1 nodes ++ (last_word root ++ (gates_text 1 nodes ++ names_text 0 names)))
            ∙ i.1 ∙ o ∙ g,
      )
