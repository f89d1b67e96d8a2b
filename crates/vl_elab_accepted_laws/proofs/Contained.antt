-- Names in lists of names, and lists whose names differ.
use Rattle.std.specs.Prelude.{◌≡◌, refl, ℕ, List, [], ◌∷◌, ◌++◌, Bool, true, false, ◌||◌}
use Rattle.std.specs.Prelude.{bytes_eq}
use Rattle.std.proofs.Common.{ap, sym, ◌∙◌, true≢false, subst}
use Rattle.std.proofs.lemmas.Slice.Eq.{bytes_eq-Decides}
use Rattle.vl_mean.specs.Cells.{contains_name}
use Rattle.vl_mean.specs.Runs.{Each}

abbrev pub Has : List (List ℕ) → List ℕ → Type 0
Has ns n = contains_name ns n ≡ true

abbrev pub Lacks : List (List ℕ) → List ℕ → Type 0
Lacks ns n = contains_name ns n ≡ false

abbrev pub Different : List (List ℕ) → Type 0
Different [] = Unit {0}
Different (n ∷ ns) = Lacks ns n × Different ns

pub clash : {b : Bool} → b ≡ true → b ≡ false → ⊥
clash h k = true≢false (sym h ∙ k)

pub or_first : (a b : Bool) → (a || b) ≡ false → a ≡ false
or_first true b h = h
or_first false b h = refl

pub or_second : (a b : Bool) → (a || b) ≡ false → b ≡ false
or_second true b h = absurd (true≢false h)
or_second false b h = h

pub or_neither : (a b : Bool) → a ≡ false → b ≡ false → (a || b) ≡ false
or_neither true b h k = h
or_neither false b h k = k

pub or_right : (a b : Bool) → b ≡ true → (a || b) ≡ true
or_right true b h = refl
or_right false b h = h

pub same_text : (n m : List ℕ) → bytes_eq n m ≡ true → n ≡ m
same_text n m h = (bytes_eq-Decides n m).0 h

pub text_same : (n m : List ℕ) → n ≡ m → bytes_eq n m ≡ true
text_same n m h = (bytes_eq-Decides n m).1 h

-- ---- a name that is there, or isn't

pub has-first : (n : List ℕ) (ns : List (List ℕ)) → Has (n ∷ ns) n
has-first n ns = ap (λ b. b || contains_name ns n) (text_same n n refl)

pub lacks-append : (xs ys : List (List ℕ)) (n : List ℕ) → Lacks xs n → Lacks ys n → Lacks (xs ++ ys) n
lacks-append [] ys n h k = k
lacks-append (x ∷ xs) ys n h k =
    or_neither (bytes_eq n x) (contains_name (xs ++ ys) n) (or_first (bytes_eq n x) (contains_name xs n) h)
    (lacks-append xs ys n (or_second (bytes_eq n x) (contains_name xs n) h) k)

pub lacks-front : (xs ys : List (List ℕ)) (n : List ℕ) → Lacks (xs ++ ys) n → Lacks xs n
lacks-front [] ys n h = refl
lacks-front (x ∷ xs) ys n h =
    or_neither (bytes_eq n x) (contains_name xs n) (or_first (bytes_eq n x) (contains_name (xs ++ ys) n) h)
    (lacks-front xs ys n (or_second (bytes_eq n x) (contains_name (xs ++ ys) n) h))

pub lacks-back : (xs ys : List (List ℕ)) (n : List ℕ) → Lacks (xs ++ ys) n → Lacks ys n
lacks-back [] ys n h = h
lacks-back (x ∷ xs) ys n h = lacks-back xs ys n (or_second (bytes_eq n x) (contains_name (xs ++ ys) n) h)

pub has-front : (xs ys : List (List ℕ)) (n : List ℕ) → Has xs n → Has (xs ++ ys) n
has-front [] ys n h = absurd (true≢false (sym h))
has-front (x ∷ xs) ys n h = by (bytes_eq n x) h (has-front xs ys n)
  where
    by : (b : Bool) → (b || contains_name xs n) ≡ true → (Has xs n → Has (xs ++ ys) n)
        → (b || contains_name (xs ++ ys) n) ≡ true
    by true h next = refl
    by false h next = next h

pub has-back : (xs ys : List (List ℕ)) (n : List ℕ) → Has ys n → Has (xs ++ ys) n
has-back [] ys n h = h
has-back (x ∷ xs) ys n h = or_right (bytes_eq n x) (contains_name (xs ++ ys) n) (has-back xs ys n h)

-- what each name of a list is, one that is there is too
pub each-has : (P : List ℕ → Type 0) (ns : List (List ℕ)) (n : List ℕ) → Each P ns → Has ns n → P n
each-has P [] n e h = absurd (true≢false (sym h))
each-has P (m ∷ ns) n e h = by (bytes_eq n m) refl h (each-has P ns n e.1)
  where
    by : (b : Bool) → bytes_eq n m ≡ b → (b || contains_name ns n) ≡ true → (Has ns n → P n) → P n
    by true f g next = subst P (sym (same_text n m f)) e.0
    by false f g next = next g

pub each-of : (P : List ℕ → Type 0) (ns : List (List ℕ)) → ((n : List ℕ) → Has ns n → P n) → Each P ns
each-of P [] f = tt
each-of P (m ∷ ns) f =
    (f m (has-first m ns), each-of P ns (λ n h. f n (or_right (bytes_eq n m) (contains_name ns n) h)))

-- ---- names that differ

-- none of the names is one that it can't be
pub lacks-each : (P : List ℕ → Type 0) (ns : List (List ℕ)) (n : List ℕ) → (P n → ⊥) → Each P ns
    → Lacks ns n
lacks-each P [] n f h = refl
lacks-each P (m ∷ ns) n f h = by (bytes_eq n m) refl (lacks-each P ns n f h.1)
  where
    by : (b : Bool) → bytes_eq n m ≡ b → Lacks ns n → (b || contains_name ns n) ≡ false
    by true e next = absurd (f (subst P (sym (same_text n m e)) h.0))
    by false e next = next

pub different-append : (P Q : List ℕ → Type 0) (xs ys : List (List ℕ))
    → ((n : List ℕ) → P n → Q n → ⊥) → Each P xs
    → Each Q ys → Different xs → Different ys → Different (xs ++ ys)
different-append P Q [] ys f p q h k = k
different-append P Q (x ∷ xs) ys f p q h k = (
  lacks-append xs ys x h.0 (lacks-each Q ys x (f x p.0) q),
  different-append P Q xs ys f p.1 q h.1 k,
)
