-- What stands at the end of a line.
use Rattle.std.proofs.Common.{◌≡◌, ℕ, ◌+◌, ◌-◌, ◌<◌, Bool, true, false, cond, ◌&&◌, ◌==◌, List, [], ◌∷◌, ◌++◌, length}
use Rattle.std.proofs.Common.{take, get_or, Some, None, refl, ap, sym, ◌∙◌, arith}
use Rattle.std.specs.Prelude.{option_map}
use Rattle.std.specs.List.{list_all}
use Rattle.std.proofs.lemmas.Bool.Decides.{nat_tests}
use Rattle.std.proofs.lemmas.List.{take_more, take_all}
use Rattle.fv_lines.specs.Words.{is_blank}
use Rattle.ck_cfg.specs.Line.{end_trimmed, before_bracket}

last_split : (xs : List ℕ) → 0 < length xs → xs ≡ take (length xs - 1) xs ++ get_or xs (length xs - 1) 0 ∷ []
last_split xs h =
    let i : (length xs - 1) + 1 ≡ length xs = omega arith in
    sym (take_all (length xs) xs (omega arith)) ∙ ap (λ n. take n xs) (sym i)
    ∙ take_more xs (length xs - 1) 0 (omega arith)

all_push : (xs : List ℕ) (b : ℕ) → list_all is_blank (xs ++ b ∷ []) ≡ (list_all is_blank xs && is_blank b)
all_push [] b = and_true (is_blank b) where
  and_true : (c : Bool) → (c && true) ≡ c
  and_true true = refl
  and_true false = refl
all_push (x ∷ xs) b =
    ap (λ c. is_blank x && c) (all_push xs b) ∙ and_assoc (is_blank x) (list_all is_blank xs) (is_blank b) where
      and_assoc : (a b c : Bool) → (a && (b && c)) ≡ ((a && b) && c)
      and_assoc true b c = refl
      and_assoc false b c = refl

blank_end : (xs : List ℕ) (b : ℕ) → is_blank b ≡ true → end_trimmed (xs ++ b ∷ []) ≡ end_trimmed xs
blank_end [] b h = ap (λ c. cond (c && true) [] (b ∷ [])) h
blank_end (x ∷ xs) b h =
    ap (λ c. cond (is_blank x && c) [] (x ∷ end_trimmed (xs ++ b ∷ [])))
    (all_push xs b ∙ ap (λ c. list_all is_blank xs && c) h ∙ and_true (list_all is_blank xs))
    ∙ ap (λ t. cond (is_blank x && list_all is_blank xs) [] (x ∷ t)) (blank_end xs b h) where
      and_true : (c : Bool) → (c && true) ≡ c
      and_true true = refl
      and_true false = refl

kept_end : (xs : List ℕ) (b : ℕ) → is_blank b ≡ false → end_trimmed (xs ++ b ∷ []) ≡ xs ++ b ∷ []
kept_end [] b h = ap (λ c. cond (c && true) [] (b ∷ [])) h
kept_end (x ∷ xs) b h =
    ap (λ c. cond (is_blank x && c) [] (x ∷ end_trimmed (xs ++ b ∷ [])))
    (all_push xs b ∙ ap (λ c. list_all is_blank xs && c) h ∙ and_false (list_all is_blank xs))
    ∙ ap (λ c. cond c [] (x ∷ end_trimmed (xs ++ b ∷ []))) (and_false (is_blank x))
    ∙ ap (λ t. x ∷ t) (kept_end xs b h) where
      and_false : (c : Bool) → (c && false) ≡ false
      and_false true = refl
      and_false false = refl

-- a blank at the end goes
pub blank_more : (rest : List ℕ) → 0 < length rest → is_blank (get_or rest (length rest - 1) 0) ≡ true
    → end_trimmed (take (length rest - 1) rest) ≡ end_trimmed rest
blank_more rest h b =
    sym (blank_end (take (length rest - 1) rest) (get_or rest (length rest - 1) 0) b)
    ∙ ap end_trimmed (sym (last_split rest h))

-- another byte at the end stays, and all before it
pub kept_more : (rest : List ℕ) → 0 < length rest → is_blank (get_or rest (length rest - 1) 0) ≡ false
    → rest ≡ end_trimmed rest
kept_more rest h b =
    let s = last_split rest h in
    s ∙ sym (kept_end (take (length rest - 1) rest) (get_or rest (length rest - 1) 0) b) ∙ ap end_trimmed (sym s)

bracket_end : (xs : List ℕ) (b : ℕ) → before_bracket (xs ++ b ∷ []) ≡ cond (b == 93) (Some xs) None
bracket_end [] b = refl
bracket_end (x ∷ []) b = mapped x [] (b == 93) where
  mapped : (x : ℕ) (xs : List ℕ) (c : Bool)
      → option_map (λ name. x ∷ name) (cond c (Some xs) None) ≡ cond c (Some (x ∷ xs)) None
  mapped x xs true = refl
  mapped x xs false = refl
bracket_end (x ∷ y ∷ ys) b =
    ap (option_map (λ name. x ∷ name)) (bracket_end (y ∷ ys) b) ∙ mapped x (y ∷ ys) (b == 93) where
      mapped : (x : ℕ) (xs : List ℕ) (c : Bool)
          → option_map (λ name. x ∷ name) (cond c (Some xs) None) ≡ cond c (Some (x ∷ xs)) None
      mapped x xs true = refl
      mapped x xs false = refl

-- what stands before the last byte, where that is the bracket
pub bracket_at : (text : List ℕ) → 0 < length text
    → before_bracket text ≡ cond (get_or text (length text - 1) 0 == 93) (Some (take (length text - 1) text)) None
bracket_at text h = ap before_bracket (last_split text h)
    ∙ bracket_end (take (length text - 1) text) (get_or text (length text - 1) 0)

pub bracket_found : (text : List ℕ) → 0 < length text → get_or text (length text - 1) 0 ≡ 93
    → Some (take (length text - 1) text) ≡ before_bracket text
bracket_found text h e = sym (bracket_at text h ∙ ap (λ n. cond (n == 93) (Some (take (length text - 1) text)) None) e)

pub bracket_none : (text : List ℕ) → 0 < length text → (get_or text (length text - 1) 0 ≡ 93 → ⊥)
    → None ≡ before_bracket text
bracket_none text h n = sym (bracket_at text h
    ∙ ap (λ b. cond b (Some (take (length text - 1) text)) None) (other (get_or text (length text - 1) 0) n)) where
      other : (x : ℕ) → (x ≡ 93 → ⊥) → (x == 93) ≡ false
      other x n = grind (arith, nat_tests)
