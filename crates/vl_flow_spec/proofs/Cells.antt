-- The cells of declared names: a word of a memory is one, and no cell has two declarations.
use Rattle.std.specs.Prelude.{◌≡◌, refl, ℕ, zero, suc, ◌/◌, ◌%◌, ◌<◌, ◌==◌, List, [], ◌∷◌, ◌++◌, Bool, true}
use Rattle.std.specs.Prelude.{false, ◌&&◌, ◌||◌, not, Option, Some, None, ℤ, pos, negsuc, ◌+ℤ◌, ◌-ℤ◌, nat_abs}
use Rattle.std.specs.Prelude.{int_le, bytes_eq, codes, if◌then◌else◌}
use Rattle.std.specs.Prelude.{is_none, All}
use Rattle.std.specs.List.{list_all}
use Rattle.std.specs.Fmt.{signed_decimal, decimal, digits, digits_onto, digit_glyph}
use Rattle.std.proofs.Common.{ap, sym, ◌∙◌, arith, subst, true≢false, append_assoc}
use Rattle.std.proofs.lemmas.Bool.Decides.{nat_tests}
use Rattle.std.proofs.lemmas.Int.{ints}
use Rattle.std.proofs.lemmas.List.Elements.{All-head, All-tail}
use Rattle.std.proofs.lemmas.List.Folds.{list_all-append}
use Rattle.std.proofs.lemmas.Option.{same_Some}
use Rattle.std.proofs.lemmas.Slice.Eq.{bytes_eq-Decides}
use Rattle.vl_size.specs.declared.decl.Decl.{Decl}
use Rattle.vl_size.specs.Table.{span, is_between, word_name, declared_as, IsNoWordIn, HasNoWord, AreApart}
use Rattle.vl_mean.specs.Cells.{contains_name, words_from, is_cell}
use Rattle.vl_mean.specs.Runs.{Each}
use Rattle.vl_flow_spec.specs.Reads.{IsCellOf}
use Rattle.vl_flow_spec.proofs.Bools.{or_left, or_right, or_case}

-- ---- each of the cells

pub each_contained : (P : List ℕ → Type 0) (ns : List (List ℕ)) (n : List ℕ) → Each P ns → contains_name ns n ≡ true
    → P n
each_contained P [] n h c = absurd (true≢false (sym c))
each_contained P (m ∷ ns) n h c =
    or_case (bytes_eq n m) (contains_name ns n) (λ e. subst P (sym ((bytes_eq-Decides n m).0 e)) h.0)
    (λ t. each_contained P ns n h.1 t) c

pub each_of_contained : (P : List ℕ → Type 0) (ns : List (List ℕ)) → ((n : List ℕ) → contains_name ns n ≡ true → P n)
    → Each P ns
each_of_contained P [] h = tt
each_of_contained P (m ∷ ns) h = (
  h m (or_left (bytes_eq m m) (contains_name ns m) ((bytes_eq-Decides m m).1 refl)),
  each_of_contained P ns (λ n c. h n (or_right (bytes_eq n m) (contains_name ns n) c)),
)

pub own_cell : (text : List ℕ) → is_cell text None text ≡ true
own_cell text = or_left (bytes_eq text text) false ((bytes_eq-Decides text text).1 refl)

pub own_name : (text n : List ℕ) → is_cell text None n ≡ true → n ≡ text
own_name text n h =
    or_cell (bytes_eq n text) (bytes_eq-Decides n text).0 h
  where
    or_cell : (b : Bool) → (b ≡ true → n ≡ text) → (b || false) ≡ true → n ≡ text
    or_cell true f h = f refl
    or_cell false f h = absurd (true≢false (sym h))

-- ---- places of words

up_place : (l r i : ℤ) → int_le l r ≡ true → is_between l r i ≡ true
    → (nat_abs (i -ℤ l) < span l r) × (l +ℤ pos (nat_abs (i -ℤ l)) ≡ i)
up_place l r i e h = grind (arith, ints, e, h)

down_place : (l r i : ℤ) → int_le l r ≡ false → is_between l r i ≡ true
    → (nat_abs (l -ℤ i) < span l r) × (l -ℤ pos (nat_abs (l -ℤ i)) ≡ i)
down_place l r i e h = grind (arith, ints, e, h)

up_between : (l r : ℤ) (j : ℕ) → int_le l r ≡ true → j < span l r → is_between l r (l +ℤ pos j) ≡ true
up_between l r j e less = grind (arith, ints, e, less)

down_between : (l r : ℤ) (j : ℕ) → int_le l r ≡ false → j < span l r → is_between l r (l -ℤ pos j) ≡ true
down_between l r j e less = grind (arith, ints, e, less)

-- ---- words of memories

up_word : (memory : List ℕ) (m : ℕ) (i : ℤ) (j : ℕ) (q : ℤ) → j < m → i +ℤ pos j ≡ q
    → contains_name (words_from memory m true i) (word_name memory q) ≡ true
up_word memory zero i j q less e = absurd (omega (arith, less))
up_word memory (suc m) i zero q less e =
    let same : q ≡ i = omega (arith, ints, e) in
    or_left (bytes_eq (word_name memory q) (word_name memory i))
    (contains_name (words_from memory m true (i +ℤ pos 1)) (word_name memory q))
    ((bytes_eq-Decides (word_name memory q) (word_name memory i)).1 (ap (word_name memory) same))
up_word memory (suc m) i (suc j) q less e =
    or_right (bytes_eq (word_name memory q) (word_name memory i))
    (contains_name (words_from memory m true (i +ℤ pos 1)) (word_name memory q))
    (up_word memory m (i +ℤ pos 1) j q (omega (arith, less)) (omega (arith, ints, e)))

down_word : (memory : List ℕ) (m : ℕ) (i : ℤ) (j : ℕ) (q : ℤ) → j < m → i -ℤ pos j ≡ q
    → contains_name (words_from memory m false i) (word_name memory q) ≡ true
down_word memory zero i j q less e = absurd (omega (arith, less))
down_word memory (suc m) i zero q less e =
    let same : q ≡ i = omega (arith, ints, e) in
    or_left (bytes_eq (word_name memory q) (word_name memory i))
    (contains_name (words_from memory m false (i -ℤ pos 1)) (word_name memory q))
    ((bytes_eq-Decides (word_name memory q) (word_name memory i)).1 (ap (word_name memory) same))
down_word memory (suc m) i (suc j) q less e =
    or_right (bytes_eq (word_name memory q) (word_name memory i))
    (contains_name (words_from memory m false (i -ℤ pos 1)) (word_name memory q))
    (down_word memory m (i -ℤ pos 1) j q (omega (arith, less)) (omega (arith, ints, e)))

pub word_is_cell : (memory : List ℕ) (bounds : ℤ × ℤ) (i : ℤ) → is_between bounds.0 bounds.1 i ≡ true
    → is_cell memory (Some bounds) (word_name memory i) ≡ true
word_is_cell memory bounds i h = by (int_le bounds.0 bounds.1) refl
  where
    by : (b : Bool) → int_le bounds.0 bounds.1 ≡ b
        → contains_name (words_from memory (span bounds.0 bounds.1) b bounds.0) (word_name memory i) ≡ true
    by true e =
        let at = up_place bounds.0 bounds.1 i e h in
        up_word memory (span bounds.0 bounds.1) bounds.0 (nat_abs (i -ℤ bounds.0)) i at.0 at.1
    by false e =
        let at = down_place bounds.0 bounds.1 i e h in
        down_word memory (span bounds.0 bounds.1) bounds.0 (nat_abs (bounds.0 -ℤ i)) i at.0 at.1

-- the name is that of a word of the memory
pub record IsWordOf (memory : List ℕ) (bounds : ℤ × ℤ) (n : List ℕ) : Type 0 where
  pub index : ℤ
  pub between : is_between bounds.0 bounds.1 index ≡ true
  pub is : n ≡ word_name memory index

up_words : (memory : List ℕ) (m : ℕ) (i : ℤ) (n : List ℕ) → contains_name (words_from memory m true i) n ≡ true
    → (j : ℕ) × (j < m) × (n ≡ word_name memory (i +ℤ pos j))
up_words memory zero i n h = absurd (true≢false (sym h))
up_words memory (suc m) i n h =
    or_case (bytes_eq n (word_name memory i)) (contains_name (words_from memory m true (i +ℤ pos 1)) n)
    (λ e. let none : i ≡ i +ℤ pos 0 = omega (arith, ints) in
    (0, omega arith, (bytes_eq-Decides n (word_name memory i)).0 e ∙ ap (word_name memory) none))
    (λ t. let r = up_words memory m (i +ℤ pos 1) n t in
    let next : (i +ℤ pos 1) +ℤ pos r.0 ≡ i +ℤ pos (suc r.0) = omega (arith, ints) in
    (suc r.0, omega (arith, r.1), r.2 ∙ ap (word_name memory) next)) h

down_words : (memory : List ℕ) (m : ℕ) (i : ℤ) (n : List ℕ) → contains_name (words_from memory m false i) n ≡ true
    → (j : ℕ) × (j < m) × (n ≡ word_name memory (i -ℤ pos j))
down_words memory zero i n h = absurd (true≢false (sym h))
down_words memory (suc m) i n h =
    or_case (bytes_eq n (word_name memory i)) (contains_name (words_from memory m false (i -ℤ pos 1)) n)
    (λ e. let none : i ≡ i -ℤ pos 0 = omega (arith, ints) in
    (0, omega arith, (bytes_eq-Decides n (word_name memory i)).0 e ∙ ap (word_name memory) none))
    (λ t. let r = down_words memory m (i -ℤ pos 1) n t in
    let next : (i -ℤ pos 1) -ℤ pos r.0 ≡ i -ℤ pos (suc r.0) = omega (arith, ints) in
    (suc r.0, omega (arith, r.1), r.2 ∙ ap (word_name memory) next)) h

pub cell_is_word : (memory : List ℕ) (bounds : ℤ × ℤ) (n : List ℕ) → is_cell memory (Some bounds) n ≡ true
    → IsWordOf memory bounds n
cell_is_word memory bounds n h = by (int_le bounds.0 bounds.1) refl h
  where
    by : (b : Bool) → int_le bounds.0 bounds.1 ≡ b
        → contains_name (words_from memory (span bounds.0 bounds.1) b bounds.0) n ≡ true → IsWordOf memory bounds n
    by true e h =
        let r = up_words memory (span bounds.0 bounds.1) bounds.0 n h in
        record { index = bounds.0 +ℤ pos r.0; between = up_between bounds.0 bounds.1 r.0 e r.1; is = r.2 }
    by false e h =
        let r = down_words memory (span bounds.0 bounds.1) bounds.0 n h in
        record { index = bounds.0 -ℤ pos r.0; between = down_between bounds.0 bounds.1 r.0 e r.1; is = r.2 }

-- ---- two memories have no word in common

abbrev other : ℕ → Bool
other c = not (c == 91)

-- what stands before the last bracket
abbrev before : List ℕ → List ℕ
before [] = []
before (c ∷ cs) = if list_all other cs then [] else c ∷ before cs

bracket_behind : (memory rest : List ℕ) → list_all other (memory ++ 91 ∷ rest) ≡ false
bracket_behind memory rest =
    list_all-append other memory (91 ∷ rest) ∙ none (list_all other memory)
  where
    none : (b : Bool) → (b && false) ≡ false
    none true = refl
    none false = refl

before_is : (memory rest : List ℕ) → list_all other rest ≡ true → before (memory ++ 91 ∷ rest) ≡ memory
before_is [] rest h = ap (λ b. if b then [] else 91 ∷ before rest) h
before_is (c ∷ memory) rest h =
    ap (λ b. if b then [] else c ∷ before (memory ++ 91 ∷ rest)) (bracket_behind memory rest)
    ∙ ap (λ cs. c ∷ cs) (before_is memory rest h)

glyph_other : (n : ℕ) → other (digit_glyph false (n % 10)) ≡ true
glyph_other n = grind (arith, nat_tests)

either_way : (b : Bool) (xs ys : List ℕ) → list_all other xs ≡ true → list_all other ys ≡ true
    → list_all other (if b then xs else ys) ≡ true
either_way true xs ys h k = h
either_way false xs ys h k = k

digits_other : (k n : ℕ) (acc : List ℕ) → list_all other acc ≡ true
    → list_all other (digits_onto k 10 false n acc) ≡ true
digits_other zero n acc h = h
digits_other (suc k) n acc h =
    let more : list_all other (digit_glyph false (n % 10) ∷ acc) ≡ true =
    ap (λ b. b && list_all other acc) (glyph_other n) ∙ h in
    either_way (n / 10 == 0) (digit_glyph false (n % 10) ∷ acc)
    (digits_onto k 10 false (n / 10) (digit_glyph false (n % 10) ∷ acc)) more
    (digits_other k (n / 10) (digit_glyph false (n % 10) ∷ acc) more)

decimal_other : (n : ℕ) → list_all other (decimal n) ≡ true
unfolding digits
decimal_other n = digits_other 64 n [] refl

signed_other : (i : ℤ) → list_all other (signed_decimal i) ≡ true
signed_other (pos n) = decimal_other n
signed_other (negsuc n) = decimal_other (suc n)

index_other : (i : ℤ) → list_all other (signed_decimal i ++ codes "]") ≡ true
index_other i =
    list_all-append other (signed_decimal i) (codes "]") ∙ ap (λ b. b && list_all other (codes "]")) (signed_other i)

pub memory_of_word : (memory : List ℕ) (i : ℤ) → before (word_name memory i) ≡ memory
memory_of_word memory i =
    ap before (append_assoc (memory ++ codes "[") (signed_decimal i) (codes "]")
    ∙ append_assoc memory (codes "[") (signed_decimal i ++ codes "]"))
    ∙ before_is memory (signed_decimal i ++ codes "]") (index_other i)

-- ---- one declaration

pub declared_all : (P : Decl → Type 0) (ds : List Decl) (text : List ℕ) (d : Decl) → declared_as ds text ≡ Some d
    → All P ds → P d
declared_all P [] text d e all = absurd (true≢false (ap is_none e))
declared_all P (x ∷ xs) text d e all =
    by (bytes_eq text x.name) (λ t. declared_all P xs text d t (All-tail P x xs all)) e
  where
    by : (b : Bool) → (declared_as xs text ≡ Some d → P d) → (if b then Some x else declared_as xs text) ≡ Some d → P d
    by true later e = subst P (same_Some x d e) (All-head P x xs all)
    by false later e = later e

one_name : (ds : List Decl) (d e : Decl) → declared_as ds d.name ≡ Some d → declared_as ds e.name ≡ Some e
    → d.name ≡ e.name → d ≡ e
one_name ds d e own_d own_e same = same_Some d e (sym own_d ∙ ap (declared_as ds) same ∙ own_e)

-- a declared name is no word of a memory
not_word : (ds : List Decl) → AreApart ds → (d e : Decl) → declared_as ds d.name ≡ Some d
    → declared_as ds e.name ≡ Some e → (words : Option (ℤ × ℤ)) → e.words ≡ words → IsNoWordIn words e.name d.name
not_word ds apart d e own_d own_e words w =
    let all = declared_all (HasNoWord ds) ds e.name e own_e apart in
    subst (λ o. IsNoWordIn o e.name d.name) w
    (declared_all (λ x. IsNoWordIn e.words e.name x.name) ds d.name d own_d all)

-- no cell has two declarations
abbrev pub HaveOwnCells : List Decl → Type 0
HaveOwnCells ds = (d e : Decl) (n : List ℕ) → IsCellOf ds d n → IsCellOf ds e n → d ≡ e

pub own_cells : (ds : List Decl) → AreApart ds → HaveOwnCells ds
own_cells ds apart d e n h k = by d.words refl e.words refl
  where
    of_word : (x y : Decl) → declared_as ds x.name ≡ Some x → declared_as ds y.name ≡ Some y → (b : ℤ × ℤ)
        → y.words ≡ Some b → is_cell y.name (Some b) x.name ≡ true → ⊥
    of_word x y own_x own_y b w c =
        let r = cell_is_word y.name b x.name c in
        not_word ds apart x y own_x own_y (Some b) w r.index r.between r.is

    at : (x : Decl) → is_cell x.name x.words n ≡ true → (o : Option (ℤ × ℤ)) → x.words ≡ o → is_cell x.name o n ≡ true
    at x c o w = ap (λ q. is_cell x.name q n) (sym w) ∙ c

    by : (p : Option (ℤ × ℤ)) → d.words ≡ p → (q : Option (ℤ × ℤ)) → e.words ≡ q → d ≡ e
    by None v None w =
        one_name ds d e h.declared k.declared
        (sym (own_name d.name n (at d h.cell None v)) ∙ own_name e.name n (at e k.cell None w))
    by None v (Some b) w =
        let same = own_name d.name n (at d h.cell None v) in
        absurd (of_word d e h.declared k.declared b w
        (ap (is_cell e.name (Some b)) (sym same) ∙ at e k.cell (Some b) w))
    by (Some a) v None w =
        let same = own_name e.name n (at e k.cell None w) in
        absurd (of_word e d k.declared h.declared a v
        (ap (is_cell d.name (Some a)) (sym same) ∙ at d h.cell (Some a) v))
    by (Some a) v (Some b) w =
        let r = cell_is_word d.name a n (at d h.cell (Some a) v) in
        let t = cell_is_word e.name b n (at e k.cell (Some b) w) in
        one_name ds d e h.declared k.declared
        (sym (memory_of_word d.name r.index) ∙ ap before (sym r.is ∙ t.is) ∙ memory_of_word e.name t.index)
