-- The longest sign at the front of a text.
use Rattle.std.proofs.Common.{◌≡◌, ℕ, ◌≤◌, Bool, true, false, cond, ◌&&◌, ◌||◌, ◌==◌, leb, inl, inr, ◌⊎◌, List, []}
use Rattle.std.proofs.Common.{◌∷◌, ◌++◌, Option, Some, length, take, drop, refl, ap, sym, ◌∙◌, subst, arith}
use Rattle.std.proofs.Common.{length-append, nat_eq}
use Rattle.std.specs.Prelude.{find, bytes_eq}
use Rattle.std.specs.List.{starts_with}
use Rattle.std.proofs.lemmas.Bool.{and_parts, leb-true}
use Rattle.std.proofs.Math.Seq.{take-append_seam}
use Rattle.std.proofs.lemmas.Bool.Decides.{Decides-eqb}
use Rattle.std.proofs.lemmas.Slice.Eq.{starts_is}
use Rattle.fv_text.specs.Symbol.{symbol_text}
use Rattle.fv_text.specs.declared.symbol.Symbol.{Symbol}
use Rattle.fv_text.specs.declared.symbol.Symbol.TheVariants as s
use Rattle.vl_token.specs.Piece.{begins_comment}
use Rattle.vl_token.specs.Cut.{sign_at, signs, sign_cut, slash_cut, first_cut}

find_step : (b : Bool) (p : Symbol → Bool) (x t : Symbol) (o : Option Symbol) → p x ≡ b → (o ≡ Some t → p t ≡ true)
    → cond b (Some x) o ≡ Some t → p t ≡ true
find_step true p x t o e h same = let one : x ≡ t = cc in subst (λ y. p y ≡ true) one e
find_step false p x t o e h same = h same

pub find_passes : (p : Symbol → Bool) (xs : List Symbol) (t : Symbol) → find p xs ≡ Some t → p t ≡ true
find_passes p [] t e = absurd (let f : ⊥ = cc in f)
find_passes p (x ∷ xs) t e = find_step (p x) p x t (find p xs) refl (find_passes p xs t) e

pub sign_begins : (bytes : List ℕ) (t : Symbol) → sign_at bytes ≡ Some t
    → starts_with nat_eq bytes (symbol_text t) ≡ true
unfolding sign_at
sign_begins bytes t e = find_passes (λ u. starts_with nat_eq bytes (symbol_text u)) signs t e

-- a text that begins with another
pub begins_split : (bytes front : List ℕ) → starts_with nat_eq bytes front ≡ true
    → bytes ≡ front ++ drop (length front) bytes
begins_split bytes front e = (starts_is Decides-eqb bytes front (starts_with nat_eq bytes front) refl).0 e

pub begins_front : (bytes front rest : List ℕ) → bytes ≡ front ++ rest → starts_with nat_eq bytes front ≡ true
begins_front bytes front rest e = (starts_is Decides-eqb bytes front (starts_with nat_eq bytes front) refl).1 rest e

pub sign_splits : (bytes : List ℕ) (t : Symbol) → sign_at bytes ≡ Some t
    → bytes ≡ symbol_text t ++ drop (length (symbol_text t)) bytes
sign_splits bytes t e = begins_split bytes (symbol_text t) (sign_begins bytes t e)

front_fits : (bytes front rest : List ℕ) → bytes ≡ front ++ rest → length front ≤ length bytes
front_fits bytes front rest e = rw e (omega (arith, length-append front rest))

pub sign_fits : (bytes : List ℕ) (t : Symbol) → sign_at bytes ≡ Some t → length (symbol_text t) ≤ length bytes
sign_fits bytes t e = front_fits bytes (symbol_text t) (drop (length (symbol_text t)) bytes) (sign_splits bytes t e)

-- a sign is in a list
abbrev pub In : Symbol → List Symbol → Type 0
In t [] = ⊥
In t (x ∷ xs) = (t ≡ x) ⊎ In t xs

pub all_in : (t : Symbol) → In t signs
all_in s.OpenParen = inr (inr (inr (inr
    (inr (inr (inr (inr (inr (inr (inr (inr (inr (inr (inr (inr (inr (inr (inr (inr (inr (inl refl)))))))))))))))))))))
all_in s.CloseParen = inr (inr (inr (inr
    (inr (inr (inr (inr (inr (inr (inr (inr
    (inr (inr (inr (inr (inr (inr (inr (inr (inr (inr (inl refl))))))))))))))))))))))
all_in s.OpenBracket = inr (inr (inr (inr
    (inr (inr (inr (inr (inr (inr (inr (inr
    (inr (inr (inr (inr (inr (inr (inr (inr (inr (inr (inr (inl refl)))))))))))))))))))))))
all_in s.CloseBracket = inr (inr (inr (inr
    (inr (inr (inr (inr (inr (inr (inr (inr
    (inr (inr (inr (inr (inr (inr (inr (inr (inr (inr (inr (inr (inl refl))))))))))))))))))))))))
all_in s.OpenBrace = inr (inr (inr (inr
    (inr (inr (inr (inr (inr (inr (inr (inr
    (inr (inr (inr (inr (inr (inr (inr (inr (inr (inr (inr (inr (inr (inl refl)))))))))))))))))))))))))
all_in s.CloseBrace = inr (inr (inr (inr
    (inr (inr (inr (inr (inr (inr (inr (inr
    (inr (inr (inr (inr (inr (inr (inr (inr (inr (inr (inr (inr (inr (inr (inl refl))))))))))))))))))))))))))
all_in s.OpenAttribute = inr (inr (inr (inr (inl refl))))
all_in s.CloseAttribute = inr (inr (inr (inr (inr (inl refl)))))
all_in s.Semicolon = inr (inr (inr (inr
    (inr (inr (inr (inr (inr (inr (inr (inr
    (inr (inr (inr (inr (inr (inr (inr (inr (inr (inr (inr (inr (inr (inr (inr (inl refl)))))))))))))))))))))))))))
all_in s.Colon = inr (inr (inr (inr (inr
    (inr (inr (inr (inr (inr (inr (inr (inr
    (inr (inr (inr (inr (inr (inr (inr (inr (inr (inr (inr (inr (inr (inr (inr (inl refl))))))))))))))))))))))))))))
all_in s.Comma = inr (inr (inr (inr (inr
    (inr (inr (inr (inr (inr (inr (inr (inr
    (inr (inr (inr (inr (inr (inr (inr (inr
    (inr (inr (inr (inr (inr (inr (inr (inr (inl refl)))))))))))))))))))))))))))))
all_in s.Dot = inr (inr (inr (inr (inr (inr
    (inr (inr (inr (inr (inr (inr (inr (inr
    (inr (inr (inr (inr (inr (inr (inr (inr
    (inr (inr (inr (inr (inr (inr (inr (inr (inl refl))))))))))))))))))))))))))))))
all_in s.Hash = inr (inr (inr (inr (inr
    (inr (inr (inr (inr (inr (inr (inr (inr
    (inr (inr (inr (inr (inr (inr (inr (inr
    (inr (inr (inr (inr (inr (inr (inr (inr (inr (inr (inl refl)))))))))))))))))))))))))))))))
all_in s.At = inr (inr (inr (inr (inr (inr
    (inr (inr (inr (inr (inr (inr (inr (inr
    (inr (inr (inr (inr (inr (inr (inr (inr
    (inr (inr (inr (inr (inr (inr (inr (inr (inr (inr (inl refl))))))))))))))))))))))))))))))))
all_in s.Equal = inr (inr (inr (inr (inr
    (inr (inr (inr (inr (inr (inr (inr (inr
    (inr (inr (inr (inr (inr (inr (inr (inr
    (inr (inr (inr (inr (inr (inr (inr (inr (inr (inr (inr (inr (inl refl)))))))))))))))))))))))))))))))))
all_in s.Question = inr (inr (inr (inr (inr
    (inr (inr (inr (inr (inr (inr (inr (inr
    (inr (inr (inr (inr (inr (inr (inr (inr
    (inr (inr (inr (inr (inr (inr (inr (inr (inr (inr (inr (inr (inr (inl refl))))))))))))))))))))))))))))))))))
all_in s.Plus = inr (inr (inr (inr (inr
    (inr (inr (inr (inr (inr (inr (inr (inr
    (inr (inr (inr (inr (inr (inr (inr (inr
    (inr (inr (inr (inr (inr (inr (inr (inr (inr (inr (inr (inr (inr (inr (inl refl)))))))))))))))))))))))))))))))))))
all_in s.Minus = inr (inr (inr (inr (inr
    (inr (inr (inr (inr (inr (inr (inr (inr
    (inr (inr (inr (inr (inr (inr (inr (inr
    (inr (inr (inr (inr (inr (inr (inr (inr
    (inr (inr (inr (inr (inr (inr (inr (inl refl))))))))))))))))))))))))))))))))))))
all_in s.Star = inr (inr (inr (inr (inr
    (inr (inr (inr (inr (inr (inr (inr (inr
    (inr (inr (inr (inr (inr (inr (inr (inr
    (inr (inr (inr (inr (inr (inr (inr (inr
    (inr (inr (inr (inr (inr (inr (inr (inr (inl refl)))))))))))))))))))))))))))))))))))))
all_in s.Slash = inr (inr (inr (inr (inr
    (inr (inr (inr (inr (inr (inr (inr (inr
    (inr (inr (inr (inr (inr (inr (inr (inr
    (inr (inr (inr (inr (inr (inr (inr (inr
    (inr (inr (inr (inr (inr (inr (inr (inr (inr (inl refl))))))))))))))))))))))))))))))))))))))
all_in s.Percent = inr (inr (inr (inr (inr
    (inr (inr (inr (inr (inr (inr (inr (inr
    (inr (inr (inr (inr (inr (inr (inr (inr
    (inr (inr (inr (inr (inr (inr (inr (inr
    (inr (inr (inr (inr (inr (inr (inr (inr (inr (inr (inl refl)))))))))))))))))))))))))))))))))))))))
all_in s.StarStar = inr (inr (inr (inr (inr (inr (inl refl))))))
all_in s.Bang = inr (inr (inr (inr (inr
    (inr (inr (inr (inr (inr (inr (inr (inr
    (inr (inr (inr (inr (inr (inr (inr (inr
    (inr (inr (inr (inr (inr (inr (inr (inr
    (inr (inr (inr (inr (inr (inr (inr (inr (inr (inr (inr (inl refl))))))))))))))))))))))))))))))))))))))))
all_in s.Tilde = inr (inr (inr (inr (inr
    (inr (inr (inr (inr (inr (inr (inr (inr
    (inr (inr (inr (inr (inr (inr (inr (inr
    (inr (inr (inr (inr (inr (inr (inr (inr
    (inr (inr (inr (inr (inr (inr (inr (inr (inr (inr (inr (inr (inl refl)))))))))))))))))))))))))))))))))))))))))
all_in s.And = inr (inr (inr (inr (inr (inr
    (inr (inr (inr (inr (inr (inr (inr (inr
    (inr (inr (inr (inr (inr (inr (inr (inr
    (inr (inr (inr (inr (inr (inr (inr (inr
    (inr (inr (inr (inr (inr (inr (inr (inr (inr (inr (inr (inr (inl refl))))))))))))))))))))))))))))))))))))))))))
all_in s.Or = inr (inr (inr (inr (inr (inr
    (inr (inr (inr (inr (inr (inr (inr (inr
    (inr (inr (inr (inr (inr (inr (inr (inr
    (inr (inr (inr (inr (inr (inr (inr (inr
    (inr (inr (inr (inr (inr (inr (inr (inr
    (inr (inr (inr (inr (inr (inl refl)))))))))))))))))))))))))))))))))))))))))))
all_in s.Caret = inr (inr (inr (inr (inr
    (inr (inr (inr (inr (inr (inr (inr (inr
    (inr (inr (inr (inr (inr (inr (inr (inr
    (inr (inr (inr (inr (inr (inr (inr (inr
    (inr (inr (inr (inr (inr (inr (inr (inr
    (inr (inr (inr (inr (inr (inr (inr (inl refl))))))))))))))))))))))))))))))))))))))))))))
all_in s.TildeAnd = inr (inr (inr (inr (inr (inr (inr (inl refl)))))))
all_in s.TildeOr = inr (inr (inr (inr (inr (inr (inr (inr (inl refl))))))))
all_in s.TildeCaret = inr (inr (inr (inr (inr (inr (inr (inr (inr (inl refl)))))))))
all_in s.CaretTilde = inr (inr (inr (inr (inr (inr (inr (inr (inr (inr (inl refl))))))))))
all_in s.AndAnd = inr (inr (inr (inr (inr (inr (inr (inr (inr (inr (inr (inl refl)))))))))))
all_in s.OrOr = inr (inr (inr (inr (inr (inr (inr (inr (inr (inr (inr (inr (inl refl))))))))))))
all_in s.Less = inr (inr (inr (inr (inr
    (inr (inr (inr (inr (inr (inr (inr (inr
    (inr (inr (inr (inr (inr (inr (inr (inr
    (inr (inr (inr (inr (inr (inr (inr (inr
    (inr (inr (inr (inr (inr (inr (inr (inr
    (inr (inr (inr (inr (inr (inr (inr (inr (inl refl)))))))))))))))))))))))))))))))))))))))))))))
all_in s.LessEqual = inr (inr (inr (inr (inr (inr (inr (inr (inr (inr (inr (inr (inr (inl refl)))))))))))))
all_in s.Greater = inr (inr (inr (inr (inr
    (inr (inr (inr (inr (inr (inr (inr (inr
    (inr (inr (inr (inr (inr (inr (inr (inr
    (inr (inr (inr (inr (inr (inr (inr (inr
    (inr (inr (inr (inr (inr (inr (inr (inr
    (inr (inr (inr (inr (inr (inr (inr (inr (inr (inl refl))))))))))))))))))))))))))))))))))))))))))))))
all_in s.GreaterEqual = inr (inr (inr (inr (inr (inr (inr (inr (inr (inr (inr (inr (inr (inr (inl refl))))))))))))))
all_in s.EqualEqual = inr (inr (inr (inr (inr (inr (inr (inr (inr (inr (inr (inr (inr (inr (inr (inl refl)))))))))))))))
all_in s.BangEqual =
    inr (inr (inr (inr (inr (inr (inr (inr (inr (inr (inr (inr (inr (inr (inr (inr (inl refl))))))))))))))))
all_in s.EqualEqualEqual = inl refl
all_in s.BangEqualEqual = inr (inl refl)
all_in s.LessLess =
    inr (inr (inr (inr (inr (inr (inr (inr (inr (inr (inr (inr (inr (inr (inr (inr (inr (inl refl)))))))))))))))))
all_in s.GreaterGreater = inr (inr (inr (inr
    (inr (inr (inr (inr (inr (inr (inr (inr (inr (inr (inr (inr (inr (inr (inl refl))))))))))))))))))
all_in s.LessLessLess = inr (inr (inl refl))
all_in s.GreaterGreaterGreater = inr (inr (inr (inl refl)))
all_in s.PlusColon = inr (inr (inr (inr
    (inr (inr (inr (inr (inr (inr (inr (inr (inr (inr (inr (inr (inr (inr (inr (inl refl)))))))))))))))))))
all_in s.MinusColon = inr (inr (inr (inr
    (inr (inr (inr (inr (inr (inr (inr (inr (inr (inr (inr (inr (inr (inr (inr (inr (inl refl))))))))))))))))))))

-- longer ones first, none longer than n
abbrev pub falls : ℕ → List Symbol → Bool
falls n [] = true
falls n (x ∷ xs) = leb (length (symbol_text x)) n && falls (length (symbol_text x)) xs

in_falls : (n : ℕ) (xs : List Symbol) (t : Symbol) → falls n xs ≡ true → In t xs → length (symbol_text t) ≤ n
in_falls n [] t e i = absurd i
in_falls n (x ∷ xs) t e (inl same) =
    let both = and_parts (leb (length (symbol_text x)) n) (falls (length (symbol_text x)) xs) e in
    rw same (leb-true (length (symbol_text x)) n both.0)
in_falls n (x ∷ xs) t e (inr later) =
    let both = and_parts (leb (length (symbol_text x)) n) (falls (length (symbol_text x)) xs) e in
    let top = leb-true (length (symbol_text x)) n both.0 in
    let low = in_falls (length (symbol_text x)) xs t both.1 later in
    omega arith

mutual_step : (p : Symbol → Bool) (x t u : Symbol) (n : ℕ) (xs : List Symbol) (c : Bool) → p x ≡ c
    → falls n (x ∷ xs) ≡ true
    → (find p xs ≡ Some t → In u xs → length (symbol_text u) ≤ length (symbol_text t))
    → cond c (Some x) (find p xs) ≡ Some t → (u ≡ x) ⊎ In u xs → p u ≡ true
    → length (symbol_text u) ≤ length (symbol_text t)
mutual_step p x t u n xs true e f h same (inl first) pass =
    let one : x ≡ t = cc in subst (λ z. length (symbol_text z) ≤ length (symbol_text t)) (sym first)
    (subst (λ z. length (symbol_text x) ≤ length (symbol_text z)) one (omega arith))
mutual_step p x t u n xs true e f h same (inr later) pass =
    let one : x ≡ t = cc in
    let both = and_parts (leb (length (symbol_text x)) n) (falls (length (symbol_text x)) xs) f in
    subst (λ z. length (symbol_text u) ≤ length (symbol_text z)) one
    (in_falls (length (symbol_text x)) xs u both.1 later)
mutual_step p x t u n xs false e f h same (inl first) pass =
    absurd (let g : true ≡ false = sym pass ∙ (ap p first ∙ e) in let k : ⊥ = cc in k)
mutual_step p x t u n xs false e f h same (inr later) pass = h same later

found_longest : (p : Symbol → Bool) (n : ℕ) (xs : List Symbol) (t u : Symbol) → falls n xs ≡ true
    → find p xs ≡ Some t → In u xs → p u ≡ true
    → length (symbol_text u) ≤ length (symbol_text t)
found_longest p n [] t u f e i pass = absurd i
found_longest p n (x ∷ xs) t u f e i pass =
    let both = and_parts (leb (length (symbol_text x)) n) (falls (length (symbol_text x)) xs) f in
    mutual_step p x t u n xs (p x) refl f (λ same later. found_longest p
    (length (symbol_text x)) xs t u both.1 same later pass) e i pass

find_step_some : (p : Symbol → Bool) (x u : Symbol) (xs : List Symbol) (c : Bool) → p x ≡ c
    → (In u xs → (t : Symbol) × (find p xs ≡ Some t)) → (u ≡ x) ⊎ In u xs → p u ≡ true
    → (t : Symbol) × (cond c (Some x) (find p xs) ≡ Some t)
find_step_some p x u xs true e h i pass = (x, refl)
find_step_some p x u xs false e h (inl first) pass =
    absurd (let g : true ≡ false = sym pass ∙ (ap p first ∙ e) in let k : ⊥ = cc in k)
find_step_some p x u xs false e h (inr later) pass = h later

find_some : (p : Symbol → Bool) (xs : List Symbol) (u : Symbol) → In u xs → p u ≡ true → (t : Symbol)
    × (find p xs ≡ Some t)
find_some p [] u i pass = absurd i
find_some p (x ∷ xs) u i pass = find_step_some p x u xs (p x) refl (λ later. find_some p xs u later pass) i pass

signs_fall : falls 3 signs ≡ true
unfolding symbol_text
signs_fall = refl

pub sign_longest : (bytes : List ℕ) (t u : Symbol) → sign_at bytes ≡ Some t
    → starts_with nat_eq bytes (symbol_text u) ≡ true → length (symbol_text u) ≤ length (symbol_text t)
unfolding sign_at
sign_longest bytes t u e pass =
    found_longest (λ v. starts_with nat_eq bytes (symbol_text v)) 3 signs t u signs_fall e (all_in u) pass

sign_some : (bytes : List ℕ) (u : Symbol) → starts_with nat_eq bytes (symbol_text u) ≡ true → (t : Symbol)
    × (sign_at bytes ≡ Some t)
unfolding sign_at
sign_some bytes u pass = find_some (λ v. starts_with nat_eq bytes (symbol_text v)) signs u (all_in u) pass

-- two signs have different texts
symbol_of : List ℕ → Option Symbol
symbol_of text = find (λ t. bytes_eq (symbol_text t) text) signs

symbol_again : (t : Symbol) → symbol_of (symbol_text t) ≡ Some t
unfolding symbol_text symbol_of
symbol_again s.OpenParen = refl
symbol_again s.CloseParen = refl
symbol_again s.OpenBracket = refl
symbol_again s.CloseBracket = refl
symbol_again s.OpenBrace = refl
symbol_again s.CloseBrace = refl
symbol_again s.OpenAttribute = refl
symbol_again s.CloseAttribute = refl
symbol_again s.Semicolon = refl
symbol_again s.Colon = refl
symbol_again s.Comma = refl
symbol_again s.Dot = refl
symbol_again s.Hash = refl
symbol_again s.At = refl
symbol_again s.Equal = refl
symbol_again s.Question = refl
symbol_again s.Plus = refl
symbol_again s.Minus = refl
symbol_again s.Star = refl
symbol_again s.Slash = refl
symbol_again s.Percent = refl
symbol_again s.StarStar = refl
symbol_again s.Bang = refl
symbol_again s.Tilde = refl
symbol_again s.And = refl
symbol_again s.Or = refl
symbol_again s.Caret = refl
symbol_again s.TildeAnd = refl
symbol_again s.TildeOr = refl
symbol_again s.TildeCaret = refl
symbol_again s.CaretTilde = refl
symbol_again s.AndAnd = refl
symbol_again s.OrOr = refl
symbol_again s.Less = refl
symbol_again s.LessEqual = refl
symbol_again s.Greater = refl
symbol_again s.GreaterEqual = refl
symbol_again s.EqualEqual = refl
symbol_again s.BangEqual = refl
symbol_again s.EqualEqualEqual = refl
symbol_again s.BangEqualEqual = refl
symbol_again s.LessLess = refl
symbol_again s.GreaterGreater = refl
symbol_again s.LessLessLess = refl
symbol_again s.GreaterGreaterGreater = refl
symbol_again s.PlusColon = refl
symbol_again s.MinusColon = refl

pub one_sign : (t u : Symbol) → symbol_text t ≡ symbol_text u → t ≡ u
one_sign t u e = let f : Some t ≡ Some u = sym (symbol_again t) ∙ (ap symbol_of e ∙ symbol_again u) in cc

-- two fronts of one length are the same
one_front : (bytes front other : List ℕ) → bytes ≡ front ++ drop (length front) bytes
    → bytes ≡ other ++ drop (length other) bytes → length front ≡ length other → front ≡ other
one_front bytes front other e f long =
    let a : take (length front) bytes ≡ front = ap (λ z. take (length front) z) e
    ∙ take-append_seam front (drop (length front) bytes) in
    let b : take (length other) bytes ≡ other = ap (λ z. take (length other) z) f
    ∙ take-append_seam other (drop (length other) bytes) in
    sym a ∙ (ap (λ n. take n bytes) long ∙ b)

pub sign_again : (bytes : List ℕ) (u : Symbol) (rest : List ℕ) → bytes ≡ symbol_text u ++ rest
    → ((t : Symbol) → starts_with nat_eq bytes (symbol_text t) ≡ true
    → length (symbol_text t) ≤ length (symbol_text u)) → sign_at bytes ≡ Some u
sign_again bytes u rest e longest =
    let pass = begins_front bytes (symbol_text u) rest e in
    let found = sign_some bytes u pass in
    let t = found.0 in
    let up = sign_longest bytes t u found.1 pass in
    let down = longest t (sign_begins bytes t found.1) in
    let long : length (symbol_text t) ≡ length (symbol_text u) = omega arith in
    let same : t ≡ u = one_sign t u (one_front bytes (symbol_text t) (symbol_text u) (sign_splits bytes t found.1)
    (begins_split bytes (symbol_text u) pass) long) in
    found.1 ∙ ap (λ (z : Symbol). Some z) same

slash_on : (rest : List ℕ) → begins_comment (47 ∷ rest) ≡ false
    → slash_cut rest ≡ sign_cut (47 ∷ rest) (sign_at (47 ∷ rest))
slash_on [] e = refl
slash_on (b ∷ bs) e =
    let one = or_false_left (b == 47) (b == 42) e in
    let two = or_false_right (b == 47) (b == 42) e in
    rw (one, two) refl
  where
    or_false_left : (x y : Bool) → (x || y) ≡ false → x ≡ false
    or_false_left true y e = e
    or_false_left false y e = refl

    or_false_right : (x y : Bool) → (x || y) ≡ false → y ≡ false
    or_false_right true y e = absurd (let f : ⊥ = cc in f)
    or_false_right false y e = e

-- a sign's first byte leads to the signs
pub sign_first : (t : Symbol) (rest : List ℕ) → begins_comment (symbol_text t ++ rest) ≡ false
    → first_cut (symbol_text t ++ rest) ≡ sign_cut (symbol_text t ++ rest) (sign_at (symbol_text t ++ rest))
unfolding first_cut symbol_text
sign_first s.OpenParen rest e = refl
sign_first s.CloseParen rest e = refl
sign_first s.OpenBracket rest e = refl
sign_first s.CloseBracket rest e = refl
sign_first s.OpenBrace rest e = refl
sign_first s.CloseBrace rest e = refl
sign_first s.OpenAttribute rest e = refl
sign_first s.CloseAttribute rest e = refl
sign_first s.Semicolon rest e = refl
sign_first s.Colon rest e = refl
sign_first s.Comma rest e = refl
sign_first s.Dot rest e = refl
sign_first s.Hash rest e = refl
sign_first s.At rest e = refl
sign_first s.Equal rest e = refl
sign_first s.Question rest e = refl
sign_first s.Plus rest e = refl
sign_first s.Minus rest e = refl
sign_first s.Star rest e = refl
sign_first s.Slash rest e = slash_on rest e
sign_first s.Percent rest e = refl
sign_first s.StarStar rest e = refl
sign_first s.Bang rest e = refl
sign_first s.Tilde rest e = refl
sign_first s.And rest e = refl
sign_first s.Or rest e = refl
sign_first s.Caret rest e = refl
sign_first s.TildeAnd rest e = refl
sign_first s.TildeOr rest e = refl
sign_first s.TildeCaret rest e = refl
sign_first s.CaretTilde rest e = refl
sign_first s.AndAnd rest e = refl
sign_first s.OrOr rest e = refl
sign_first s.Less rest e = refl
sign_first s.LessEqual rest e = refl
sign_first s.Greater rest e = refl
sign_first s.GreaterEqual rest e = refl
sign_first s.EqualEqual rest e = refl
sign_first s.BangEqual rest e = refl
sign_first s.EqualEqualEqual rest e = refl
sign_first s.BangEqualEqual rest e = refl
sign_first s.LessLess rest e = refl
sign_first s.GreaterGreater rest e = refl
sign_first s.LessLessLess rest e = refl
sign_first s.GreaterGreaterGreater rest e = refl
sign_first s.PlusColon rest e = refl
sign_first s.MinusColon rest e = refl
