-- The names of generate blocks without a label: none of them is declared in its scope, and those of different
-- constructs differ.
use Rattle.std.specs.Prelude.{◌≡◌, refl, ℕ, zero, suc, ◌+◌, ◌<◌, ◌≤◌, ◌%◌, ◌^◌}
use Rattle.std.specs.Prelude.{◌==◌, nat_le, List, [], ◌∷◌, ◌++◌}
use Rattle.std.specs.Prelude.{bytes_eq, length, replicate, decimal, codes, Bool, true, false, ◌&&◌, ◌||◌, not}
use Rattle.std.specs.Prelude.{if◌then◌else◌}
use Rattle.std.proofs.Common.{ap, sym, ◌∙◌, true≢false, arith, mod-lt, get_or}
use Rattle.std.proofs.lemmas.Bool.Decides.{nat_tests}
use Rattle.std.proofs.lemmas.Fmt.{decimal_by_steps, decimal_injective, first_decimal}
use Rattle.std.proofs.lemmas.List.{append_cancel_left}
use Rattle.vl_mean.specs.Cells.{contains_name}
use Rattle.vl_mean.specs.Declarations.{genblk, unused_genblk, unlabelled}
use Rattle.vl_elab_accepted_laws.proofs.Contained.{Has, Lacks, same_text}
use Rattle.vl_elab_accepted_laws.proofs.Texts.{is_free, free-append}

-- ---- digits

module _ (p : ℕ → Bool) (h : (d : ℕ) → d < 10 → p (48 + d) ≡ false) where
  digit-free : (d : ℕ) → d < 10 → is_free p ((48 + d) ∷ []) ≡ true
  digit-free d k = ap (λ b. not b && true) (h d k)

  pub decimal-free : (n : ℕ) → n < 2 ^ 64 → is_free p (decimal n) ≡ true
  decimal-free n k =
      decimal_by_steps (λ n ds. is_free p ds ≡ true) digit-free
      (λ n ds l f. free-append p ds ((48 + n % 10) ∷ []) f (digit-free (n % 10) (mod-lt n (omega arith)))) n k

-- a dot or a bracket: in a full name they stand behind the name of a scope
abbrev pub is_mark : ℕ → Bool
is_mark c = (c == 46) || (c == 91)

no-digit : (d : ℕ) → d < 10 → is_mark (48 + d) ≡ false
no-digit d h = grind (arith, nat_tests)

zeros-free : (z : ℕ) → is_free is_mark (replicate z 48) ≡ true
zeros-free zero = refl
zeros-free (suc z) = zeros-free z

pub genblk-free : (z n : ℕ) → n < 2 ^ 64 → is_free is_mark (genblk z n) ≡ true
genblk-free z n h =
    free-append is_mark (codes "genblk") (replicate z 48 ++ decimal n) refl
    (free-append is_mark (replicate z 48) (decimal n) (zeros-free z) (decimal-free is_mark no-digit n h))

-- ---- the number

abbrev behind_zeros : List ℕ → List ℕ
behind_zeros [] = []
behind_zeros (x ∷ xs) = if x == 48 then behind_zeros xs else x ∷ xs

no-zero : (d : ℕ) → 48 < d → (d == 48) ≡ false
no-zero d h = grind (arith, nat_tests)

behind-none : (ds : List ℕ) → 48 < get_or ds 0 0 → behind_zeros ds ≡ ds
behind-none [] h = refl
behind-none (d ∷ ds) h = ap (λ b. if b then behind_zeros ds else d ∷ ds) (no-zero d h)

behind-zeros : (z : ℕ) (ds : List ℕ) → 48 < get_or ds 0 0 → behind_zeros (replicate z 48 ++ ds) ≡ ds
behind-zeros zero ds h = behind-none ds h
behind-zeros (suc z) ds h = behind-zeros z ds h

pub genblk-number : (y z m n : ℕ) → 0 < m → 0 < n → m < 2 ^ 64 → n < 2 ^ 64 → genblk y m ≡ genblk z n
    → m ≡ n
genblk-number y z m n hm hn km kn e =
    decimal_injective m n km kn
    (sym (behind-zeros y (decimal m) (first_decimal m hm km))
    ∙ ap behind_zeros
    (append_cancel_left (codes "genblk") (replicate y 48 ++ decimal m) (replicate z 48 ++ decimal n) e)
    ∙ behind-zeros z (decimal n) (first_decimal n hn kn))

-- ---- as many names are tried as there are others, and one

abbrev one_of : Bool → ℕ
one_of b = if b then 1 else 0

-- how many names have so many letters at least
abbrev longer : ℕ → List (List ℕ) → ℕ
longer t [] = 0
longer t (n ∷ ns) = one_of (nat_le t (length n)) + longer t ns

one-few : (b : Bool) → one_of b ≤ 1
one-few true = omega arith
one-few false = omega arith

longer-few : (t : ℕ) (ns : List (List ℕ)) → longer t ns ≤ length ns
longer-few t [] = omega arith
longer-few t (n ∷ ns) =
    let h : longer t ns ≤ length ns = longer-few t ns in
    let k : one_of (nat_le t (length n)) ≤ 1 = one-few (nat_le t (length n)) in omega arith

no-less : (t l : ℕ) → nat_le (suc t) l ≡ true → nat_le t l ≡ false → ⊥
no-less t l e f = grind (arith, nat_tests)

one-more : (t l : ℕ) → one_of (nat_le (suc t) l) ≤ one_of (nat_le t l)
one-more t l = by (nat_le (suc t) l) (nat_le t l) refl refl
  where
    by : (a b : Bool) → nat_le (suc t) l ≡ a → nat_le t l ≡ b → one_of a ≤ one_of b
    by true true e f = omega arith
    by true false e f = absurd (no-less t l e f)
    by false b e f = omega arith

longer-next : (t : ℕ) (ns : List (List ℕ)) → longer (suc t) ns ≤ longer t ns
longer-next t [] = omega arith
longer-next t (n ∷ ns) =
    let h : longer (suc t) ns ≤ longer t ns = longer-next t ns in
    let k : one_of (nat_le (suc t) (length n)) ≤ one_of (nat_le t (length n)) = one-more t (length n) in omega arith

at-length : (l : ℕ) → nat_le l l ≡ true
at-length l = grind (arith, nat_tests)

past-length : (l : ℕ) → nat_le (suc l) l ≡ false
past-length l = grind (arith, nat_tests)

fewer : (text : List ℕ) (ns : List (List ℕ)) → Has ns text
    → suc (longer (suc (length text)) ns) ≤ longer (length text) ns
fewer text [] h = absurd (true≢false (sym h))
fewer text (n ∷ ns) h = by (bytes_eq text n) refl h (fewer text ns)
  where
    by : (b : Bool) → bytes_eq text n ≡ b → (b || contains_name ns text) ≡ true
        → (Has ns text → suc (longer (suc (length text)) ns) ≤ longer (length text) ns)
        → suc (longer (suc (length text)) (n ∷ ns)) ≤ longer (length text) (n ∷ ns)
    by true e f next =
        let same : length text ≡ length n = ap length (same_text text n e) in
        let a : one_of (nat_le (length text) (length n)) ≡ 1
        = ap (λ l. one_of (nat_le (length text) l)) (sym same) ∙ ap one_of (at-length (length text)) in
        let b : one_of (nat_le (suc (length text)) (length n)) ≡ 0
        = ap (λ l. one_of (nat_le (suc (length text)) l)) (sym same) ∙ ap one_of (past-length (length text)) in
        let c : longer (suc (length text)) ns ≤ longer (length text) ns = longer-next (length text) ns in omega arith
    by false e f next =
        let a : suc (longer (suc (length text)) ns) ≤ longer (length text) ns = next f in
        let b : one_of (nat_le (suc (length text)) (length n)) ≤ one_of (nat_le (length text) (length n))
        = one-more (length text) (length n) in omega arith

padded : (z : ℕ) (xs : List ℕ) → length (replicate z 48 ++ xs) ≡ z + length xs
padded zero xs = omega arith
padded (suc z) xs = let h : length (replicate z 48 ++ xs) ≡ z + length xs = padded z xs in omega arith

longer-name : (z n : ℕ) → length (genblk (z + 1) n) ≡ suc (length (genblk z n))
longer-name z n =
    let h : length (replicate (z + 1) 48 ++ decimal n) ≡ z + 1 + length (decimal n) = padded (z + 1) (decimal n) in
    let k : length (replicate z 48 ++ decimal n) ≡ z + length (decimal n) = padded z (decimal n) in omega arith

unused-lacks : (k z : ℕ) (names : List (List ℕ)) (n : ℕ) → longer (length (genblk z n)) names ≤ k
    → Lacks names (unused_genblk k z names n)
unused-lacks zero z names n h = by (contains_name names (genblk z n)) refl
  where
    by : (b : Bool) → contains_name names (genblk z n) ≡ b → contains_name names (genblk z n) ≡ false
    by true e =
        let f : suc (longer (suc (length (genblk z n))) names) ≤ longer (length (genblk z n)) names
        = fewer (genblk z n) names e in absurd (omega arith)
    by false e = e
unused-lacks (suc k) z names n h = by (contains_name names (genblk z n)) refl (unused-lacks k (z + 1) names n)
  where
    by : (b : Bool) → contains_name names (genblk z n) ≡ b
        → (longer (length (genblk (z + 1) n)) names ≤ k → Lacks names (unused_genblk k (z + 1) names n))
        → Lacks names (if b then unused_genblk k (z + 1) names n else genblk z n)
    by true e next =
        let f : suc (longer (suc (length (genblk z n))) names) ≤ longer (length (genblk z n)) names
        = fewer (genblk z n) names e in
        let g : length (genblk (z + 1) n) ≡ suc (length (genblk z n)) = longer-name z n in
        let a : longer (length (genblk (z + 1) n)) names ≡ longer (suc (length (genblk z n))) names
        = ap (λ l. longer l names) g in next (omega arith)
    by false e next = e

pub unlabelled-lacks : (names : List (List ℕ)) (n : ℕ) → Lacks names (unlabelled names n)
unlabelled-lacks names n = unused-lacks (length names) 0 names n (longer-few (length (genblk 0 n)) names)

pub record IsGenblk (n : ℕ) (text : List ℕ) : Type 0 where
  pub zeros : ℕ
  pub is : text ≡ genblk zeros n

unused-is : (k z : ℕ) (names : List (List ℕ)) (n : ℕ) → IsGenblk n (unused_genblk k z names n)
unused-is zero z names n = record { zeros = z; is = refl }
unused-is (suc k) z names n = by (contains_name names (genblk z n)) (unused-is k (z + 1) names n)
  where
    by : (b : Bool) → IsGenblk n (unused_genblk k (z + 1) names n)
        → IsGenblk n (if b then unused_genblk k (z + 1) names n else genblk z n)
    by true next = next
    by false next = record { zeros = z; is = refl }

pub unlabelled-is : (names : List (List ℕ)) (n : ℕ) → IsGenblk n (unlabelled names n)
unlabelled-is names n = unused-is (length names) 0 names n

pub unlabelled-number : (names : List (List ℕ)) (m n : ℕ) → 0 < m → 0 < n → m < 2 ^ 64 → n < 2 ^ 64
    → unlabelled names m ≡ unlabelled names n → m ≡ n
unlabelled-number names m n hm hn km kn e =
    let a : IsGenblk m (unlabelled names m) = unlabelled-is names m in
    let b : IsGenblk n (unlabelled names n) = unlabelled-is names n in
    genblk-number a.zeros b.zeros m n hm hn km kn (sym a.is ∙ e ∙ b.is)

pub unlabelled-free : (names : List (List ℕ)) (n : ℕ) → n < 2 ^ 64
    → is_free is_mark (unlabelled names n) ≡ true
unlabelled-free names n h =
    let a : IsGenblk n (unlabelled names n) = unlabelled-is names n
    in ap (is_free is_mark) a.is ∙ genblk-free a.zeros n h
