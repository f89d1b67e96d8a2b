-- Printed literals, as words and as numbers.
use Rattle.std.proofs.Common.{◌≡◌, ℕ, suc, ◌^◌, ◌<◌, ◌≤◌, true, List, [], ◌∷◌, ◌++◌, length, map, ℤ, pos, negsuc}
use Rattle.std.proofs.Common.{neg_ℤ, Some, refl, ap, ◌∙◌, append_assoc, arith}
use Rattle.std.specs.Prelude.{option_map, decimal}
use Rattle.std.specs.Fmt.{signed_decimal}
use Rattle.std.specs.List.{list_all, flat_map}
use Rattle.cnf_form.specs.Cnf.{IsLiteral, AreLiterals}
use Rattle.fv_lines.specs.Numbers.{number_up_to}
use Rattle.fv_lines.specs.Words.{words}
use Rattle.fv_lines.proofs.Digits.{decimal_says, number_is, unsigned}
use Rattle.fv_lines.proofs.Prints.{is_inner, is_plain, word_blank, decimal_plain, inners_of, all_append}
use Rattle.cnf_text.specs.Dimacs.{literal_of, literal_text}

pub literal_is : (vars : ℕ) (l : ℤ) → vars ≤ 100000000 → IsLiteral vars l → literal_of vars (signed_decimal l) ≡ Some l
literal_is vars (pos n) v h =
    let s = decimal_says n (omega (arith, h.1)) in
    unsigned (number_up_to vars) n (decimal n) s ∙ ap (option_map pos) (number_is vars n (decimal n) s h.1)
literal_is vars (negsuc n) v h =
    let s = decimal_says (suc n) (omega (arith, h.1)) in
    ap (option_map (λ k. neg_ℤ (pos k))) (number_is vars (suc n) (decimal (suc n)) s h.1)

pub signed_plain : (vars : ℕ) (l : ℤ) → vars < 2 ^ 63 → IsLiteral vars l
    → (list_all is_plain (signed_decimal l) ≡ true) × (0 < length (signed_decimal l))
signed_plain vars (pos n) v h = decimal_plain n (omega (arith, h.1))
signed_plain vars (negsuc n) v h = let s = decimal_plain (suc n) (omega (arith, h.1)) in (s.0, omega arith)

-- the words of printed literals, and what stands behind them
pub literal_words : (vars : ℕ) (clause : List ℤ) (rest : List ℕ) → vars < 2 ^ 63 → AreLiterals vars clause
    → words (flat_map literal_text clause ++ rest) ≡ map signed_decimal clause ++ words rest
literal_words vars [] rest v h = refl
literal_words vars (l ∷ ls) rest v h =
    let s = signed_plain vars l v h.0 in
    ap words (append_assoc (literal_text l) (flat_map literal_text ls) rest
    ∙ append_assoc (signed_decimal l) (32 ∷ []) (flat_map literal_text ls ++ rest))
    ∙ word_blank (signed_decimal l) (flat_map literal_text ls ++ rest) s.0 s.1
    ∙ ap (λ ws. signed_decimal l ∷ ws) (literal_words vars ls rest v h.1)

-- printed literals have no end of line
pub literal_inner : (vars : ℕ) (clause : List ℤ) → vars < 2 ^ 63 → AreLiterals vars clause
    → list_all is_inner (flat_map literal_text clause) ≡ true
literal_inner vars [] v h = refl
literal_inner vars (l ∷ ls) v h =
    all_append is_inner (literal_text l) (flat_map literal_text ls)
    (all_append is_inner (signed_decimal l) (32 ∷ []) (inners_of (signed_decimal l) (signed_plain vars l v h.0).0) refl)
    (literal_inner vars ls v h.1)
