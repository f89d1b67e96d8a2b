-- What stands before and behind a part of a text.
use Rattle.std.proofs.Common.{◌≡◌, ℕ, ◌+◌, ◌-◌, Bool, true, false, not, cond, eqb, ◌==◌, ◌&&◌, List, [], ◌∷◌, ◌++◌}
use Rattle.std.proofs.Common.{length, take, drop, refl, ap, sym, ◌∙◌, length-append, arith}
use Rattle.std.proofs.lemmas.Bool.{false≢true}
use lib.Pointwise.{pointwise, bytes_decides}
use Rattle.std.proofs.lemmas.List.{take_at, drop_at}
use Rattle.std.specs.List.{list_all}
use Rattle.fv_lines.specs.Cuts.{HasNo, with_first, whole_lines}

pub front_of : (bytes front rest : List ℕ) → bytes ≡ front ++ rest → take (length front) bytes ≡ front
front_of bytes front rest e = ap (take (length front)) e ∙ take_at front rest (length front) refl

pub end_of : (bytes start end : List ℕ) → bytes ≡ start ++ end → drop (length bytes - length end) bytes ≡ end
end_of bytes start end e =
    let l : length bytes ≡ length start + length end = ap length e ∙ length-append start end in
    let k : length bytes - length end ≡ length start = omega (arith, l) in
    ap (λ n. drop n bytes) k ∙ ap (drop (length start)) e ∙ drop_at start end (length start) refl

pub is_same : (xs ys : List ℕ) (b : Bool) → b ≡ pointwise eqb xs ys → b ≡ false → xs ≡ ys → ⊥
is_same xs ys b e f s = false≢true (sym f ∙ e ∙ (bytes_decides xs ys).1 s)

-- the first line of a text
pub whole_cut : (line rest : List ℕ) → HasNo 10 line → whole_lines (line ++ 10 ∷ rest) ≡ line ∷ whole_lines rest
whole_cut [] rest h = refl
whole_cut (c ∷ line) rest h =
    let p = parts (c == 10) (list_all (λ z. not (z == 10)) line) h in
    ap (λ b. cond b ([] ∷ whole_lines (line ++ 10 ∷ rest)) (with_first c (whole_lines (line ++ 10 ∷ rest)))) p.0
    ∙ ap (with_first c) (whole_cut line rest p.1) where
      parts : (a b : Bool) → (not a && b) ≡ true → (a ≡ false) × (b ≡ true)
      parts true b h = absurd (false≢true h)
      parts false b h = (refl, h)

pub whole_none : (bytes : List ℕ) → HasNo 10 bytes → whole_lines bytes ≡ []
whole_none [] h = refl
whole_none (c ∷ bytes) h =
    let p = parts (c == 10) (list_all (λ z. not (z == 10)) bytes) h in
    ap (λ b. cond b ([] ∷ whole_lines bytes) (with_first c (whole_lines bytes))) p.0
    ∙ ap (with_first c) (whole_none bytes p.1) where
      parts : (a b : Bool) → (not a && b) ≡ true → (a ≡ false) × (b ≡ true)
      parts true b h = absurd (false≢true h)
      parts false b h = (refl, h)
