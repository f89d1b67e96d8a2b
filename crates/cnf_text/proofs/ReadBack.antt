-- A clause file that was written is read back.
use Rattle.std.proofs.Common.{◌≡◌, ℕ, ◌^◌, ◌<◌, ◌≤◌, Bool, true, false, cond, ◌&&◌, ◌||◌, ◌==◌, List, [], ◌∷◌, ◌++◌}
use Rattle.std.proofs.Common.{length, drop, map, ℤ, pos, negsuc, Option, Some, None, refl, ap, sym, ◌∙◌, append_assoc}
use Rattle.std.proofs.Common.{arith}
use Rattle.std.specs.Prelude.{nat_le, decimal, codes, unsigned_abs, Ok, Err}
use Rattle.std.specs.Option.{ok_or}
use Rattle.std.specs.Fmt.{signed_decimal}
use Rattle.std.specs.List.{list_all, flat_map}
use Rattle.std.proofs.lemmas.Bool.{false≢true}
use Rattle.std.proofs.lemmas.Bool.Decides.{nat_tests}
use Rattle.std.proofs.lemmas.List.{append-nil, drop_all}
use Rattle.cnf_form.specs.Cnf.{Cnf, IsLiteral, AreLiterals, AreClauses}
use Rattle.cnf_text.specs.declared.fault.DimacsFault.{DimacsFault}
use Rattle.fv_lines.specs.Numbers.{is_digit, number_up_to}
use Rattle.cnf_text.specs.declared.fault.DimacsFault.TheVariants.{Header, Literal}
use Rattle.fv_text.specs.Results.{and_then}
use Rattle.cnf_text.specs.Dimacs.{literal_of, is_comment, is_zero, header_of, both, Body, with_number}
use Rattle.cnf_text.specs.Dimacs.{with_words, with_line, with_lines, finished, read_behind, read_lines, formula_of}
use Rattle.cnf_text.specs.Dimacs.{note_text, literal_text, clause_text, header_text, dimacs_text, HaveNoEnd}
use Rattle.fv_lines.specs.Words.{begins_with, joined, lines, words, is_nil, next_place}
use Rattle.fv_lines.proofs.Digits.{Says, decimal_says, number_is}
use Rattle.cnf_text.proofs.Prints.{literal_is, literal_words, literal_inner}
use Rattle.fv_lines.proofs.Prints.{is_inner, is_plain, line_of, some_line, word_of, word_blank, decimal_plain}
use Rattle.fv_lines.proofs.Prints.{inners_of, all_append}

module _ (vars : ℕ) (v : vars ≤ 100000000) where
  small : vars < 2 ^ 63
  small = omega arith

  zero_is : literal_of vars (48 ∷ []) ≡ Some (pos 0)
  zero_is =
      let le : nat_le 0 vars ≡ true = grind (arith, nat_tests) in ap (λ b. Rattle_map (cond b (Some 0) None)) le where
        Rattle_map : Option ℕ → Option ℤ
        Rattle_map None = None
        Rattle_map (Some n) = Some (pos n)

  step_words : (line : ℕ) (b : Body) (w : List ℕ) (ws : List (List ℕ)) (l : ℤ) → literal_of vars w ≡ Some l
      → with_words vars line b (w ∷ ws) ≡ with_words vars line (with_number b line l) ws
  step_words line b w ws l e =
      ap (λ o. and_then (ok_or o (Literal line)) (λ k. with_words vars line (with_number b line k) ws)) e

  not_zero : (l : ℤ) → IsLiteral vars l → is_zero l ≡ false
  not_zero l h = let some : 0 < unsigned_abs l = h.0 in grind (arith, nat_tests)

  -- the words of a clause's line
  clause_words : (line : ℕ) (clauses : List (List ℤ)) (done clause : List ℤ) (last : ℕ) → AreLiterals vars clause
      → (k : ℕ) × (with_words vars line (record { clauses = clauses; clause = done; last = last })
      (map signed_decimal clause ++ (48 ∷ []) ∷ [])
      ≡ Ok (record { clauses = clauses ++ (done ++ clause) ∷ []; clause = []; last = k }))
  clause_words line clauses done [] last h = (
    last,
    step_words line (record { clauses = clauses; clause = done; last = last }) (48 ∷ []) [] (pos 0) zero_is
        ∙ ap (λ c. Ok (record { clauses = clauses ++ c ∷ []; clause = []; last = last })) (sym (append-nil done)),
  )
  clause_words line clauses done (l ∷ ls) last h =
      let r = clause_words line clauses (done ++ l ∷ []) ls line h.1 in
      let step = step_words line (record { clauses = clauses; clause = done; last = last }) (signed_decimal l)
      (map signed_decimal ls ++ (48 ∷ []) ∷ []) l (literal_is vars l v h.0) in
      let open_one : with_number (record { clauses = clauses; clause = done; last = last }) line l
      ≡ record { clauses = clauses; clause = done ++ l ∷ []; last = line } =
      ap (λ b. cond b (record { clauses = clauses ++ done ∷ []; clause = []; last = last })
      (record { clauses = clauses; clause = done ++ l ∷ []; last = line })) (not_zero l h.0) in (
        r.0,
        step ∙ ap (λ b. with_words vars line b (map signed_decimal ls ++ (48 ∷ []) ∷ [])) open_one ∙ r.1
            ∙ ap (λ c. Ok (record { clauses = clauses ++ c ∷ []; clause = []; last = r.0 }))
            (append_assoc done (l ∷ []) ls),
      )

  not_c : (ds : List ℕ) (n : ℕ) → Says n ds → begins_with 99 ds ≡ false
  not_c [] n s = refl
  not_c (d ∷ ds) n s =
      let p : is_digit d ≡ true = first (is_digit d) (list_all is_digit ds) s.digits in
      grind (arith, nat_tests) where
        first : (a b : Bool) → (a && b) ≡ true → a ≡ true
        first true b e = refl
        first false b e = absurd (false≢true e)

  no_comment : (clause : List ℤ) → AreLiterals vars clause
      → is_comment (map signed_decimal clause ++ (48 ∷ []) ∷ []) ≡ false
  no_comment [] h = refl
  no_comment (pos n ∷ ls) h = not_c (decimal n) n (decimal_says n (omega (arith, h.0.1)))
  no_comment (negsuc n ∷ ls) h = refl

  clause_line : (clause : List ℤ) (rest : List ℕ) → AreLiterals vars clause
      → lines (clause_text clause ++ rest) ≡ (flat_map literal_text clause ++ 48 ∷ []) ∷ lines rest
  clause_line clause rest h =
      let shape : clause_text clause ++ rest ≡ (flat_map literal_text clause ++ 48 ∷ []) ++ 10 ∷ rest =
      append_assoc (flat_map literal_text clause) (48 ∷ 10 ∷ []) rest
      ∙ sym (append_assoc (flat_map literal_text clause) (48 ∷ []) (10 ∷ rest)) in
      ap lines shape ∙ line_of (flat_map literal_text clause ++ 48 ∷ []) rest
      (all_append is_inner (flat_map literal_text clause) (48 ∷ []) (literal_inner vars clause small h) refl)

  read_clause : (line : ℕ) (clauses : List (List ℤ)) (clause : List ℤ) (last : ℕ) → AreLiterals vars clause → (k : ℕ)
      × (with_line vars line (record { clauses = clauses; clause = []; last = last })
      (flat_map literal_text clause ++ 48 ∷ [])
      ≡ Ok (record { clauses = clauses ++ clause ∷ []; clause = []; last = k }))
  read_clause line clauses clause last h =
      let w = literal_words vars clause (48 ∷ []) small h in
      let r = clause_words line clauses [] clause last h in
      let b : Body = record { clauses = clauses; clause = []; last = last } in (
        r.0,
        ap (λ ws. cond (is_comment ws) (Ok b) (with_words vars line b ws)) w
            ∙ ap (λ x. cond x (Ok b) (with_words vars line b (map signed_decimal clause ++ (48 ∷ []) ∷ [])))
            (no_comment clause h) ∙ r.1,
      )

  step_lines : (line : ℕ) (b c : Body) (l : List ℕ) (ls : List (List ℕ)) → with_line vars line b l ≡ Ok c
      → with_lines vars line b (l ∷ ls) ≡ with_lines vars (next_place line) c ls
  step_lines line b c l ls e = ap (λ o. and_then o (λ d. with_lines vars (next_place line) d ls)) e

  read_clauses : (line : ℕ) (done clauses : List (List ℤ)) (last : ℕ) → AreClauses vars clauses → (k : ℕ)
      × (with_lines vars line (record { clauses = done; clause = []; last = last })
      (lines (flat_map clause_text clauses)) ≡ Ok (record { clauses = done ++ clauses; clause = []; last = k }))
  read_clauses line done [] last h =
      (last, ap (λ c. Ok (record { clauses = c; clause = []; last = last })) (sym (append-nil done)))
  read_clauses line done (c ∷ cs) last h =
      let one = read_clause line done c last h.0 in
      let more = read_clauses (next_place line) (done ++ c ∷ []) cs one.0 h.1 in (
        more.0,
        ap (with_lines vars line (record { clauses = done; clause = []; last = last }))
            (clause_line c (flat_map clause_text cs) h.0)
            ∙ step_lines line (record { clauses = done; clause = []; last = last })
            (record { clauses = done ++ c ∷ []; clause = []; last = one.0 }) (flat_map literal_text c ++ 48 ∷ [])
            (lines (flat_map clause_text cs)) one.1
            ∙ more.1 ∙ ap (λ x. Ok (record { clauses = x; clause = []; last = more.0 }))
            (append_assoc done (c ∷ []) cs),
      )

  all_behind : (count line : ℕ) (clauses : List (List ℤ)) → AreClauses vars clauses → count ≡ length clauses
      → read_behind (vars, count) line (lines (flat_map clause_text clauses))
      ≡ Ok (record { vars = vars; clauses = clauses })
  all_behind count line clauses h e =
      let r = read_clauses line [] clauses 0 h in
      let same : (length clauses == count) ≡ true = grind (arith, nat_tests) in
      ap (λ o. and_then o (finished vars count)) r.1
      ∙ ap (λ b. cond b (Ok (record { vars = vars; clauses = clauses }))
      (Err (DimacsFault.Count (length clauses) count))) same

header_shape : (d c rest : List ℕ) → (codes "p cnf " ++ d ++ 32 ∷ [] ++ c ++ 10 ∷ []) ++ rest
    ≡ (codes "p cnf " ++ (d ++ 32 ∷ c)) ++ 10 ∷ rest
header_shape d c rest = simp append_assoc

header_words : (d c : List ℕ) → list_all is_plain d ≡ true → 0 < length d → list_all is_plain c ≡ true → 0 < length c
    → words (codes "p cnf " ++ (d ++ 32 ∷ c)) ≡ (112 ∷ []) ∷ (99 ∷ 110 ∷ 102 ∷ []) ∷ d ∷ c ∷ []
header_words d c h s k t =
    let one : words (codes "p cnf " ++ (d ++ 32 ∷ c)) ≡ (112 ∷ []) ∷ (99 ∷ 110 ∷ 102 ∷ [])
    ∷ words (d ++ 32 ∷ c) = refl in
    let last : words c ≡ c ∷ [] = ap words (sym (append-nil c)) ∙ word_of c [] k t refl in
    one ∙ ap (λ ws. (112 ∷ []) ∷ (99 ∷ 110 ∷ 102 ∷ []) ∷ ws) (word_blank d c h s ∙ ap (λ ws. d ∷ ws) last)

header_is : (vars count : ℕ) (d c : List ℕ) → number_up_to 100000000 d ≡ Some vars
    → number_up_to 100000000 c ≡ Some count → header_of ((112 ∷ []) ∷ (99 ∷ 110 ∷ 102 ∷ []) ∷ d ∷ c ∷ [])
    ≡ Some (vars, count)
header_is vars count d c e f = ap (λ x. both x (number_up_to 100000000 c)) e ∙ ap (both (Some vars)) f

read_header : (line : ℕ) (l : List ℕ) (ls ws : List (List ℕ)) (header : ℕ × ℕ) → words l ≡ ws
    → (is_nil ws || is_comment ws) ≡ false → header_of ws ≡ Some header
    → read_lines line (l ∷ ls) ≡ read_behind header (next_place line) ls
read_header line l ls ws header w n h =
    ap (λ b. cond b (read_lines (next_place line) ls)
    (and_then (ok_or (header_of (words l)) (Header line)) (λ k. read_behind k (next_place line) ls)))
    (ap (λ x. is_nil x || is_comment x) w ∙ n)
    ∙ ap (λ o. and_then (ok_or o (Header line)) (λ k. read_behind k (next_place line) ls)) (ap header_of w ∙ h)

skipped : (line : ℕ) (l : List ℕ) (ls : List (List ℕ)) → (is_nil (words l) || is_comment (words l)) ≡ true
    → read_lines line (l ∷ ls) ≡ read_lines (next_place line) ls
skipped line l ls h = grind (arith, h)

-- notes are passed over
read_notes : (line : ℕ) (notes : List (List ℕ)) (rest : List ℕ) → HaveNoEnd notes → (k : ℕ)
    × (read_lines line (lines (flat_map note_text notes ++ rest)) ≡ read_lines k (lines rest))
read_notes line [] rest h = (line, refl)
read_notes line (n ∷ ns) rest h =
    let more = read_notes (next_place line) ns rest h.1 in
    let l = some_line n (flat_map note_text ns ++ rest) h.0 in
    let shape : (note_text n ++ flat_map note_text ns) ++ rest ≡ 99 ∷ 32 ∷ (n ++ 10 ∷ (flat_map note_text ns ++ rest)) =
    append_assoc (note_text n) (flat_map note_text ns) rest
    ∙ ap (λ x. 99 ∷ 32 ∷ x) (append_assoc n (10 ∷ []) (flat_map note_text ns ++ rest)) in
    let first : lines (99 ∷ 32 ∷ (n ++ 10 ∷ (flat_map note_text ns ++ rest))) ≡ (99 ∷ 32 ∷ l.0)
    ∷ lines (flat_map note_text ns ++ rest) = ap (λ x. joined 99 (joined 32 x)) l.1 in (
      more.0,
      ap (λ x. read_lines line (lines x)) shape ∙ ap (read_lines line) first
          ∙ skipped line (99 ∷ 32 ∷ l.0) (lines (flat_map note_text ns ++ rest)) refl ∙ more.1,
    )

-- a formula that was written is read back
pub read_back : (notes : List (List ℕ)) (cnf : Cnf) → HaveNoEnd notes → cnf.vars ≤ 100000000
    → length cnf.clauses ≤ 100000000 → AreClauses cnf.vars cnf.clauses → formula_of (dimacs_text notes cnf) ≡ Ok cnf
read_back notes cnf n v m h =
    let clauses = flat_map clause_text cnf.clauses in
    let d = decimal cnf.vars in
    let c = decimal (length cnf.clauses) in
    let sd = decimal_says cnf.vars (omega arith) in
    let sc = decimal_says (length cnf.clauses) (omega arith) in
    let pd = decimal_plain cnf.vars (omega arith) in
    let pc = decimal_plain (length cnf.clauses) (omega arith) in
    let header : List ℕ = codes "p cnf " ++ (d ++ 32 ∷ c) in
    let inner : list_all is_inner header ≡ true =
    all_append is_inner (codes "p cnf ") (d ++ 32 ∷ c) refl
    (all_append is_inner d (32 ∷ c) (inners_of d pd.0) (inners_of c pc.0)) in
    let k = read_notes 1 notes (header_text cnf ++ clauses) n in
    ap (λ x. read_lines 1 (lines x)) (append_assoc (flat_map note_text notes) (header_text cnf) clauses)
    ∙ k.1 ∙ ap (λ x. read_lines k.0 (lines x)) (header_shape d c clauses)
    ∙ ap (read_lines k.0) (line_of header clauses inner)
    ∙ read_header k.0 header (lines clauses) ((112 ∷ []) ∷ (99 ∷ 110 ∷ 102 ∷ []) ∷ d ∷ c ∷ [])
    (cnf.vars, length cnf.clauses)
    (header_words d c pd.0 pd.1 pc.0 pc.1) refl
    (header_is cnf.vars (length cnf.clauses) d c (number_is 100000000 cnf.vars d sd v)
    (number_is 100000000 (length cnf.clauses) c sc m))
    ∙ all_behind cnf.vars v (length cnf.clauses) (next_place k.0) cnf.clauses h refl

-- where nothing is left, all is written
pub written_all : {X : Type 0} (f : X → List ℕ) (items : List X) (k : ℕ) (out whole : List ℕ) → length items ≤ k
    → out ++ flat_map f (drop k items) ≡ whole → out ≡ whole
written_all f items k out whole h e =
    sym (append-nil out) ∙ ap (λ x. out ++ flat_map f x) (sym (drop_all k items h)) ∙ e
