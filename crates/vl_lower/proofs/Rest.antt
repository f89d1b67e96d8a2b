-- What is left of a list of names, or of a memory's words.
use Rattle.std.specs.Prelude.{◌≡◌, refl, ℕ, zero, suc, ◌+◌, ◌-◌, ◌<◌, List, [], ◌∷◌, ◌++◌, length, drop, Bool, true}
use Rattle.std.specs.Prelude.{false}
use Rattle.std.specs.Prelude.{Option, Some, None, int_le, is_none, slice_get, slice_index, ℤ}
use Rattle.std.proofs.Common.{ap, sym, ◌∙◌, arith, true≢false}
use Rattle.std.proofs.lemmas.Int.{ints}
use Rattle.std.proofs.lemmas.Option.{same_Some}
use Rattle.vl_size.specs.declared.decl.Decl.{Decl}
use Rattle.vl_size.specs.Table.{span, word_name}
use Rattle.vl_mean.specs.Cells.{cells, cells_of, words_from}
use Rattle.vl_flow_cells.specs.Numbered.{all_cells}
use Rattle.vl_flow_cells.specs.Places.{index_at}
use Rattle.wn_net.specs.declared.names.NetName.{NetName}
use Rattle.vl_lower_cell_laws.specs.Entries.{node_entries, node_entry}
use Rattle.vl_lower.specs.Listed.{entries_by, name_entries, next_memory}

pub grouped : {A : Type 0} (xs ys zs : List A) → (xs ++ ys) ++ zs ≡ xs ++ (ys ++ zs)
grouped [] ys zs = refl
grouped (x ∷ xs) ys zs = (λ i. x ∷ grouped xs ys zs i)

-- ---- words

next_index : (up : Bool) (i : ℤ) (k : ℕ) → index_at up (index_at up i k) 1 ≡ index_at up i (k + 1)
next_index true i k = omega (arith, ints)
next_index false i k = omega (arith, ints)

words_left : (name : List ℕ) (n k : ℕ) (up : Bool) (i : ℤ) → k < n
    → words_from name (n - k) up (index_at up i k)
    ≡ word_name name (index_at up i k) ∷ words_from name (n - (k + 1)) up (index_at up i (k + 1))
words_left name n k up i less =
    let left : n - k ≡ suc (n - (k + 1)) = omega (arith, less) in
    ap (λ m. words_from name m up (index_at up i k)) left ∙ by up
  where
    by : (b : Bool)
        → words_from name (suc (n - (k + 1))) b (index_at b i k)
        ≡ word_name name (index_at b i k) ∷ words_from name (n - (k + 1)) b (index_at b i (k + 1))
    by true = ap (λ j. word_name name (index_at true i k) ∷ words_from name (n - (k + 1)) true j) (next_index true i k)
    by false =
        ap (λ j. word_name name (index_at false i k) ∷ words_from name (n - (k + 1)) false j) (next_index false i k)

-- the words of a memory from a place on
abbrev pub words_after : List ℕ → Option (ℤ × ℤ) → ℕ → List (List ℕ)
words_after name None k = []
words_after name (Some b) k =
    words_from name (span b.0 b.1 - k) (int_le b.0 b.1) (index_at (int_le b.0 b.1) b.0 k)

-- all of them
pub words_whole : (name : List ℕ) (b : ℤ × ℤ) → words_after name (Some b) 0 ≡ cells_of name (Some b)
words_whole name b =
    let none : span b.0 b.1 - 0 ≡ span b.0 b.1 = omega arith in
    ap (λ m. words_from name m (int_le b.0 b.1) (index_at (int_le b.0 b.1) b.0 0)) none
    ∙ ap (words_from name (span b.0 b.1) (int_le b.0 b.1)) (sym (first (int_le b.0 b.1)))
  where
    first : (up : Bool) → b.0 ≡ index_at up b.0 0
    first true = omega (arith, ints)
    first false = omega (arith, ints)

-- one word more is put behind
pub word_more : (d : Decl) (nodes : List ℕ) (list new whole : List NetName) (first n k node : ℕ) (text : List ℕ)
    (up : Bool) (i : ℤ)
    → list ++ node_entries d nodes (first + k) (words_from d.name (n - k) up (index_at up i k)) ≡ whole
    → k < n → text ≡ word_name d.name (index_at up i k) → node ≡ slice_index nodes (first + k)
    → new ≡ list ++ node_entry d text node ∷ []
    → new ++ node_entries d nodes (first + (k + 1)) (words_from d.name (n - (k + 1)) up (index_at up i (k + 1))) ≡ whole
word_more d nodes list new whole first n k node text up i so less is at put =
    let rest : List NetName =
    node_entries d nodes (first + (k + 1)) (words_from d.name (n - (k + 1)) up (index_at up i (k + 1))) in
    let next : first + k + 1 ≡ first + (k + 1) = omega arith in
    ap (λ xs. xs ++ rest) put ∙ grouped list (node_entry d text node ∷ []) rest
    ∙ (λ j. list ++ node_entry d (is j) (at j)
    ∷ node_entries d nodes (sym next j) (words_from d.name (n - (k + 1)) up (index_at up i (k + 1))))
    ∙ ap (λ ts. list ++ node_entries d nodes (first + k) ts) (sym (words_left d.name n k up i less)) ∙ so

pub no_words_left : (d : Decl) (nodes : List ℕ) (list whole : List NetName) (first n k : ℕ) (up : Bool) (i : ℤ)
    → list ++ node_entries d nodes (first + k) (words_from d.name (n - k) up (index_at up i k)) ≡ whole → n - k ≡ 0
    → list ≡ whole
no_words_left d nodes list whole first n k up i so none =
    sym (to_none list) ∙ ap (λ m. list ++ node_entries d nodes (first + k) (words_from d.name m up (index_at up i k)))
    (sym none) ∙ so
  where
    to_none : (xs : List NetName) → xs ++ [] ≡ xs
    to_none [] = refl
    to_none (x ∷ xs) = (λ j. x ∷ to_none xs j)

-- ---- names

pub first_left : (ds : List Decl) (i : ℕ) (d : Decl) → slice_get ds i ≡ Some d → drop i ds ≡ d ∷ drop (i + 1) ds
first_left [] i d e = absurd (true≢false (ap is_none e))
first_left (x ∷ ds) zero d e = (λ j. same_Some x d e j ∷ ds)
first_left (x ∷ ds) (suc i) d e =
    let next : suc (i + 1) ≡ suc i + 1 = omega arith in
    first_left ds i d e ∙ ap (λ k. d ∷ drop k (x ∷ ds)) next

many_both : (xs ys : List (List ℕ)) → length (xs ++ ys) ≡ length xs + length ys
many_both [] ys = omega arith
many_both (x ∷ xs) ys = omega (arith, many_both xs ys)

-- the cells of what is left
pub cells_left : (ds : List Decl) (i : ℕ) (d : Decl) → slice_get ds i ≡ Some d
    → length (all_cells (drop i ds)) ≡ length (cells d) + length (all_cells (drop (i + 1) ds))
cells_left ds i d e =
    ap (λ es. length (all_cells es)) (first_left ds i d e) ∙ many_both (cells d) (all_cells (drop (i + 1) ds))

-- one name more is put behind
pub name_more : (firsts nodes : List ℕ) (ds : List Decl) (list new whole : List NetName) (i first count m next : ℕ)
    (d : Decl) → slice_get ds i ≡ Some d → list ++ entries_by firsts (drop i ds) nodes first m ≡ whole
    → new ≡ list ++ name_entries firsts d nodes first m → next ≡ next_memory firsts d first m
    → count ≡ length (cells d) → new ++ entries_by firsts (drop (i + 1) ds) nodes (first + count) next ≡ whole
name_more firsts nodes ds list new whole i first count m next d e so put then many =
    ap (λ xs. xs ++ entries_by firsts (drop (i + 1) ds) nodes (first + count) next) put
    ∙ grouped list (name_entries firsts d nodes first m)
    (entries_by firsts (drop (i + 1) ds) nodes (first + count) next)
    ∙ (λ j. list ++ (name_entries firsts d nodes first m
    ++ entries_by firsts (drop (i + 1) ds) nodes (first + many j) (then j)))
    ∙ ap (λ es. list ++ entries_by firsts es nodes first m) (sym (first_left ds i d e)) ∙ so
