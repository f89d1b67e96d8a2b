-- A proof that was written is read back.
use Rattle.std.proofs.Common.{◌≡◌, ℕ, suc, ◌^◌, ◌<◌, Bool, true, false, cond, ◌&&◌, ◌==◌, List, [], ◌∷◌, ◌++◌, length}
use Rattle.std.proofs.Common.{map, ℤ, pos, negsuc, neg_ℤ, Option, Some, None, refl, ap, sym, ◌∙◌, append_assoc, arith}
use Rattle.std.specs.Prelude.{nat_le, decimal, bytes_eq, option_map, Result, Ok}
use Rattle.std.specs.Fmt.{signed_decimal}
use Rattle.std.specs.List.{AllByRecursion, list_all, flat_map}
use Rattle.std.proofs.lemmas.Bool.{false≢true}
use Rattle.std.proofs.lemmas.Bool.Decides.{nat_tests}
use Rattle.std.proofs.lemmas.List.{append-nil}
use Rattle.std.proofs.lemmas.Fmt.{length-decimal-le}
use Rattle.cnf_form.specs.Cnf.{AreLiterals}
use Rattle.fv_lines.specs.Numbers.{is_digit, continued, natural_of}
use Rattle.fv_lines.specs.Words.{lines, words, is_nil, next_place}
use Rattle.cnf_text.specs.Dimacs.{literal_text}
use Rattle.fv_lines.proofs.Digits.{Says, decimal_says, natural_from, unsigned}
use Rattle.fv_lines.proofs.Prints.{is_inner, line_of, word_blank, decimal_plain, inners_of, all_append}
use Rattle.cnf_text.proofs.Prints.{literal_words, literal_inner}
use Rattle.lrat_check.specs.declared.step.Step.{Step}
use Rattle.lrat_check.specs.declared.step.Step.TheVariants.{Add, Delete}
use Rattle.lrat_check.specs.declared.lrat_fault.LratFault.{LratFault}
use Rattle.lrat_check.specs.Texts.{short, nonzero, literal_of, is_end, is_delete, up_to_end, add_of, delete_of}
use Rattle.lrat_check.specs.Texts.{behind_id, step_of, with_line, with_lines, steps_of, id_text, step_text, lrat_text}
use Rattle.lrat_check.specs.Texts.{IsShortLiteral, IsShortId, IsShort, AreShort}

short_decimal : (n : ℕ) → n < 10 ^ 18 → short (decimal n) ≡ Some n
short_decimal n h =
    let k = length-decimal-le 18 n (omega arith) h (omega arith) in
    let le : nat_le (length (decimal n)) 18 ≡ true = grind (arith, nat_tests) in
    ap (λ b. cond b (natural_of (decimal n)) None) le ∙ natural_from n (decimal n) (decimal_says n (omega arith))

nonzero_is : (n : ℕ) → 0 < n → nonzero (Some n) ≡ Some n
nonzero_is n h = let z : (n == 0) ≡ false = grind (arith, nat_tests) in ap (λ b. cond b None (Some n)) z

id_is : (n : ℕ) → IsShortId n → nonzero (short (decimal n)) ≡ Some n
id_is n h = ap nonzero (short_decimal n h.1) ∙ nonzero_is n h.0

literal_is : (l : ℤ) → IsShortLiteral l → literal_of (signed_decimal l) ≡ Some l
literal_is (pos n) h = unsigned (λ ds. nonzero (short ds)) n (decimal n) (decimal_says n (omega (arith, h.1)))
    ∙ ap (option_map pos) (id_is n h)
literal_is (negsuc n) h = ap (option_map (λ k. neg_ℤ (pos k))) (id_is (suc n) h)

and_false : (a : Bool) → (a && false) ≡ false
and_false true = refl
and_false false = refl

-- the digits of a number above 0 are not the word `0`
not_end_at : (n : ℕ) (ds : List ℕ) → Says n ds → 0 < n → is_end ds ≡ false
not_end_at n [] s h = absurd (omega (arith, s.some))
not_end_at n (d ∷ e ∷ es) s h = and_false (d == 48)
not_end_at n (d ∷ []) s h = one_digit (d == 48) refl where
  some_is : (x y : ℕ) → Some x ≡ Some y → x ≡ y
  some_is x y e = cc

  one_digit : (b : Bool) → (d == 48) ≡ b → (b && true) ≡ false
  one_digit false e = refl
  one_digit true e =
      let q : d ≡ 48 = grind (arith, nat_tests) in
      let v : Some 0 ≡ Some n = sym (ap (λ x. continued 0 (x ∷ [])) q) ∙ s.value in
      absurd (let z = some_is 0 n v in omega arith)

id_no_end : (n : ℕ) → IsShortId n → is_end (decimal n) ≡ false
id_no_end n h = not_end_at n (decimal n) (decimal_says n (omega (arith, h.1))) h.0

literal_no_end : (l : ℤ) → IsShortLiteral l → is_end (signed_decimal l) ≡ false
literal_no_end (pos n) h = id_no_end n h
literal_no_end (negsuc n) h = refl

module _ {X : Type 0} (number : List ℕ → Option X) (print : X → List ℕ) (line : ℕ) where
  -- each is read as it was printed, and is no end
  abbrev pub AreRead : List X → Type 0
  AreRead xs = AllByRecursion (λ x. (is_end (print x) ≡ false) × (number (print x) ≡ Some x)) xs

  step_read : (xs : List X) (x : X) (w : List ℕ) (ws : List (List ℕ)) → is_end w ≡ false → number w ≡ Some x
      → up_to_end number line xs (w ∷ ws) ≡ up_to_end number line (xs ++ x ∷ []) ws
  step_read xs x w ws e n = grind (arith, e, n)

  all_read : (done xs : List X) (more : List (List ℕ)) → AreRead xs
      → up_to_end number line done (map print xs ++ (48 ∷ []) ∷ more) ≡ Ok (done ++ xs, more)
  all_read done [] more a = ap (λ d. Ok (d, more)) (sym (append-nil done))
  all_read done (x ∷ xs) more a =
      step_read done x (print x) (map print xs ++ (48 ∷ []) ∷ more) a.0.0 a.0.1
      ∙ all_read (done ++ x ∷ []) xs more a.1 ∙ ap (λ d. Ok (d, more)) (append_assoc done (x ∷ []) xs)

lits_read : (line : ℕ) (lits : List ℤ) → AllByRecursion IsShortLiteral lits
    → AreRead literal_of signed_decimal line lits
lits_read line [] h = tt
lits_read line (l ∷ ls) h = ((literal_no_end l h.0, literal_is l h.0), lits_read line ls h.1)

ids_read : (line : ℕ) (ids : List ℕ) → AllByRecursion IsShortId ids → AreRead (λ w. nonzero (short w)) decimal line ids
ids_read line [] h = tt
ids_read line (i ∷ is) h = ((id_no_end i h.0, id_is i h.0), ids_read line is h.1)

are_literals : (lits : List ℤ) → AllByRecursion IsShortLiteral lits → AreLiterals (10 ^ 18) lits
are_literals [] h = tt
are_literals (l ∷ ls) h = ((h.0.0, omega (arith, h.0.1)), are_literals ls h.1)

id_words : (ids : List ℕ) (rest : List ℕ) → AllByRecursion IsShortId ids
    → words (flat_map id_text ids ++ rest) ≡ map decimal ids ++ words rest
id_words [] rest h = refl
id_words (i ∷ is) rest h =
    let s = decimal_plain i (omega (arith, h.0.1)) in
    ap words (append_assoc (id_text i) (flat_map id_text is) rest
    ∙ append_assoc (decimal i) (32 ∷ []) (flat_map id_text is ++ rest))
    ∙ word_blank (decimal i) (flat_map id_text is ++ rest) s.0 s.1 ∙ ap (λ ws. decimal i ∷ ws) (id_words is rest h.1)

id_inner : (ids : List ℕ) → AllByRecursion IsShortId ids → list_all is_inner (flat_map id_text ids) ≡ true
id_inner [] h = refl
id_inner (i ∷ is) h =
    all_append is_inner (id_text i) (flat_map id_text is)
    (all_append is_inner (decimal i) (32 ∷ [])
    (inners_of (decimal i) (decimal_plain i (omega (arith, h.0.1))).0) refl) (id_inner is h.1)

digits_no_delete : (n : ℕ) (ds : List ℕ) → Says n ds → is_delete ds ≡ false
digits_no_delete n [] s = refl
digits_no_delete n (d ∷ ds) s =
    let p : is_digit d ≡ true = first (is_digit d) (list_all is_digit ds) s.digits in
    let no : (d == 100) ≡ false = grind (arith, nat_tests) in
    ap (λ b. b && bytes_eq ds []) no where
      first : (a b : Bool) → (a && b) ≡ true → a ≡ true
      first true b e = refl
      first false b e = absurd (false≢true e)

-- the words behind the id of an added clause
abbrev behind : List ℤ → List ℤ → List (List ℕ)
behind lits hints = map signed_decimal lits ++ (48 ∷ []) ∷ (map signed_decimal hints ++ (48 ∷ []) ∷ [])

no_delete : (lits hints : List ℤ) (line id : ℕ) → AllByRecursion IsShortLiteral lits
    → behind_id line id (behind lits hints) ≡ add_of line id (behind lits hints)
no_delete [] hints line id h = refl
no_delete (pos n ∷ ls) hints line id h =
    ap (λ b. cond b (delete_of line id (behind ls hints)) (add_of line id (decimal n ∷ behind ls hints)))
    (digits_no_delete n (decimal n) (decimal_says n (omega (arith, h.0.1))))
no_delete (negsuc n ∷ ls) hints line id h = refl

add_reads : (line id : ℕ) (lits hints : List ℤ) → AllByRecursion IsShortLiteral lits
    → AllByRecursion IsShortLiteral hints → add_of line id (behind lits hints) ≡ Ok (Add id lits hints)
add_reads line id lits hints h k =
    let a = all_read literal_of signed_decimal line [] lits (map signed_decimal hints ++ (48 ∷ []) ∷ [])
    (lits_read line lits h) in
    let b = all_read literal_of signed_decimal line [] hints [] (lits_read line hints k) in
    grind (arith, a, b)

delete_reads : (line id : ℕ) (ids : List ℕ) → AllByRecursion IsShortId ids
    → delete_of line id (map decimal ids ++ (48 ∷ []) ∷ []) ≡ Ok (Delete id ids)
delete_reads line id ids h =
    let a = all_read (λ w. nonzero (short w)) decimal line [] ids [] (ids_read line ids h) in
    grind (arith, a)

step_reads : (line id : ℕ) (w : List ℕ) (ws : List (List ℕ)) (o : Result Step LratFault) → short w ≡ Some id
    → behind_id line id ws ≡ o → step_of line (w ∷ ws) ≡ o
step_reads line id w ws o s b = grind (arith, s, b)

line_reads : (line : ℕ) (steps : List Step) (l w : List ℕ) (ws : List (List ℕ)) (step : Step) → words l ≡ w ∷ ws
    → step_of line (w ∷ ws) ≡ Ok step → with_line line steps l ≡ Ok (steps ++ step ∷ [])
line_reads line steps l w ws step e s =
    let n : is_nil (words l) ≡ false = ap is_nil e in
    let k : step_of line (words l) ≡ Ok step = ap (step_of line) e ∙ s in
    grind (arith, n, k)

-- the line of a step: its text without the end, its words, and the step that they say
pub record IsLine (line : ℕ) (step : Step) (rest : List ℕ) : Type 0 where
  pub text : List ℕ
  pub lines_are : lines (step_text step ++ rest) ≡ text ∷ lines rest
  pub says : (steps : List Step) → with_line line steps text ≡ Ok (steps ++ step ∷ [])

add_line : (line id : ℕ) (lits hints : List ℤ) (rest : List ℕ) → IsShort (Add id lits hints)
    → IsLine line (Add id lits hints) rest
add_line line id lits hints rest h =
    let a = flat_map literal_text lits in
    let b = flat_map literal_text hints in
    let text : List ℕ = decimal id ++ 32 ∷ (a ++ 48 ∷ 32 ∷ (b ++ 48 ∷ [])) in
    let p = decimal_plain id (omega (arith, h.0)) in
    let shape : step_text (Add id lits hints) ++ rest ≡ text ++ 10 ∷ rest = simp append_assoc in
    let inner : list_all is_inner text ≡ true =
    all_append is_inner (decimal id) (32 ∷ (a ++ 48 ∷ 32 ∷ (b ++ 48 ∷ []))) (inners_of (decimal id) p.0)
    (all_append is_inner a (48 ∷ 32 ∷ (b ++ 48 ∷ []))
    (literal_inner (10 ^ 18) lits (omega arith) (are_literals lits h.1))
    (all_append is_inner b (48 ∷ []) (literal_inner (10 ^ 18) hints (omega arith) (are_literals hints h.2)) refl)) in
    let w : words text ≡ decimal id ∷ behind lits hints =
    word_blank (decimal id) (a ++ 48 ∷ 32 ∷ (b ++ 48 ∷ [])) p.0 p.1
    ∙ ap (λ ws. decimal id ∷ ws) (literal_words (10 ^ 18) lits (48 ∷ 32 ∷ (b ++ 48 ∷ [])) (omega arith)
    (are_literals lits h.1)
    ∙ ap (λ ws. map signed_decimal lits ++ (48 ∷ []) ∷ ws)
    (literal_words (10 ^ 18) hints (48 ∷ []) (omega arith) (are_literals hints h.2))) in
    record {
      text = text;
      lines_are = ap lines shape ∙ line_of text rest inner;
      says = λ steps. line_reads line steps text (decimal id) (behind lits hints) (Add id lits hints) w
          (step_reads line id (decimal id) (behind lits hints) (Ok (Add id lits hints)) (short_decimal id h.0)
          (no_delete lits hints line id h.1 ∙ add_reads line id lits hints h.1 h.2));
    }

delete_line : (line id : ℕ) (ids rest : List ℕ) → IsShort (Delete id ids) → IsLine line (Delete id ids) rest
delete_line line id ids rest h =
    let a = flat_map id_text ids in
    let text : List ℕ = decimal id ++ 32 ∷ 100 ∷ 32 ∷ (a ++ 48 ∷ []) in
    let p = decimal_plain id (omega (arith, h.0)) in
    let shape : step_text (Delete id ids) ++ rest ≡ text ++ 10 ∷ rest = simp append_assoc in
    let inner : list_all is_inner text ≡ true =
    all_append is_inner (decimal id) (32 ∷ 100 ∷ 32 ∷ (a ++ 48 ∷ [])) (inners_of (decimal id) p.0)
    (all_append is_inner a (48 ∷ []) (id_inner ids h.1) refl) in
    let w : words text ≡ decimal id ∷ (100 ∷ []) ∷ (map decimal ids ++ (48 ∷ []) ∷ []) =
    word_blank (decimal id) (100 ∷ 32 ∷ (a ++ 48 ∷ [])) p.0 p.1
    ∙ ap (λ ws. decimal id ∷ (100 ∷ []) ∷ ws) (id_words ids (48 ∷ []) h.1) in
    record {
      text = text;
      lines_are = ap lines shape ∙ line_of text rest inner;
      says = λ steps. line_reads line steps text (decimal id) ((100 ∷ []) ∷ (map decimal ids ++ (48 ∷ []) ∷ []))
          (Delete id ids) w
          (step_reads line id (decimal id) ((100 ∷ []) ∷ (map decimal ids ++ (48 ∷ []) ∷ [])) (Ok (Delete id ids))
          (short_decimal id h.0) (delete_reads line id ids h.1));
    }

line_at : (line : ℕ) (step : Step) (rest : List ℕ) → IsShort step → IsLine line step rest
line_at line (Add id lits hints) rest h = add_line line id lits hints rest h
line_at line (Delete id ids) rest h = delete_line line id ids rest h

step_lines : (line : ℕ) (steps more : List Step) (l : List ℕ) (ls : List (List ℕ)) → with_line line steps l ≡ Ok more
    → with_lines line steps (l ∷ ls) ≡ with_lines (next_place line) more ls
step_lines line steps more l ls e = grind (arith, e)

read_steps : (line : ℕ) (done steps : List Step) → AreShort steps
    → with_lines line done (lines (lrat_text steps)) ≡ Ok (done ++ steps)
read_steps line done [] h = ap (λ d. Ok d) (sym (append-nil done))
read_steps line done (s ∷ ss) h =
    let one = line_at line s (lrat_text ss) h.0 in
    ap (with_lines line done) one.lines_are ∙ step_lines line done (done ++ s ∷ []) one.text (lines (lrat_text ss))
    (one.says done)
    ∙ read_steps (next_place line) (done ++ s ∷ []) ss h.1 ∙ ap (λ d. Ok d) (append_assoc done (s ∷ []) ss)

-- steps that were written are read back
pub read_back : (steps : List Step) → AreShort steps → steps_of (lrat_text steps) ≡ Ok steps
read_back steps h = read_steps 1 [] steps h
