-- Numbers that are told up to a most.
use Rattle.std.proofs.Common.{◌≡◌, ℕ, ◌+◌, ◌-◌, ◌*◌, ◌<◌, min, Bool, true, false, cond, List, [], ◌∷◌, length, drop}
use Rattle.std.proofs.Common.{get_or, Option, Some, None, refl, ap, sym, ◌∙◌, arith}
use Rattle.std.specs.Prelude.{option_map}
use Rattle.std.proofs.lemmas.List.{drop_more}
use Rattle.fv_lines.specs.Numbers.{is_digit, continued}

capped : (most m n : ℕ) → min most m ≡ min most n → (d : ℕ) → min most (10 * m + d) ≡ min most (10 * n + d)
capped most m n e d = omega arith

same_at : (most m n d : ℕ) (ds : List ℕ) (b : Bool)
    → option_map (min most) (continued (10 * m + (d - 48)) ds)
    ≡ option_map (min most) (continued (10 * n + (d - 48)) ds)
    → option_map (min most) (cond b (continued (10 * m + (d - 48)) ds) None)
    ≡ option_map (min most) (cond b (continued (10 * n + (d - 48)) ds) None)
same_at most m n d ds true h = h
same_at most m n d ds false h = refl

-- what a number is beyond the most doesn't matter
pub same_capped : (most m n : ℕ) (ds : List ℕ) → min most m ≡ min most n
    → option_map (min most) (continued m ds) ≡ option_map (min most) (continued n ds)
same_capped most m n [] e = ap (λ x. Some x) e
same_capped most m n (d ∷ ds) e = same_at most m n d ds (is_digit d)
    (same_capped most (10 * m + (d - 48)) (10 * n + (d - 48)) ds (capped most m n e (d - 48)))

-- one digit more
pub digit_more : (most value next : ℕ) (digits : List ℕ) (i d : ℕ) (all : Option ℕ) → i < length digits
    → d ≡ get_or digits i 0 → is_digit d ≡ true → next ≡ min most (10 * value + (d - 48))
    → option_map (min most) (continued value (drop i digits)) ≡ all
    → option_map (min most) (continued next (drop (i + 1) digits)) ≡ all
digit_more most value next digits i d all lt at is n h =
    ap (λ v. option_map (min most) (continued v (drop (i + 1) digits))) n
    ∙ same_capped most (min most (10 * value + (d - 48))) (10 * value + (d - 48)) (drop (i + 1) digits) (omega arith)
    ∙ ap (λ b. option_map (min most) (cond b (continued (10 * value + (d - 48)) (drop (i + 1) digits)) None)) (sym is)
    ∙ ap (λ x. option_map (min most) (continued value (x ∷ drop (i + 1) digits))) at
    ∙ ap (λ x. option_map (min most) (continued value x)) (sym (drop_more digits i 0 lt)) ∙ h
