-- What reads and writes of names weigh: of vectors, and of memories with what is selected of their words.
use Rattle.std.specs.Prelude.{◌≡◌, refl, ℕ, ◌+◌, ◌*◌, ◌<◌, ◌^◌, List, [], ◌∷◌, length, drop, Bool, true, false, not}
use Rattle.std.specs.Prelude.{Option, None, Some, is_none, is_some, if◌then◌else◌}
use Rattle.std.proofs.Common.{ap, sym, ◌∙◌, arith, true≢false}
use Rattle.vl_tree.specs.declared.expr.Select.{Select}
use Rattle.vl_tree.specs.declared.expr.Select.TheVariants as s
use Rattle.vl_tree.specs.Expr.{Selects}
use Rattle.vl_tree.specs.ExprView.{selects}
use Rattle.vl_size.specs.declared.decl.Decl.{Decl}
use Rattle.vl_mean.specs.ConstantFaults.{capped}
use Rattle.vl_mean.specs.FlatLaw.{flat_scopes}
use Rattle.vl_mean.specs.Targets.{are_fixed}
use Rattle.vl_flow_spec.specs.Weight.{access_weight, behind_word, select_weight, word_count}
use Rattle.vl_flow_weight.proofs.Sums.{two}

-- ---- selects of a vector

pub fixed_weight : (ds : List Decl) (w : ℕ) (xs : Selects) → true ≡ are_fixed (flat_scopes ds) xs
    → 0 ≡ capped (select_weight ds w xs)
fixed_weight ds w xs h = ap (λ b. capped (if b then 0 else w)) h

pub varying_weight : (ds : List Decl) (w made : ℕ) (xs : Selects) → false ≡ are_fixed (flat_scopes ds) xs
    → made ≡ w → made < 2 ^ 64 → made ≡ capped (select_weight ds w xs)
varying_weight ds w made xs h e few =
    let small : made ≡ capped made = omega (arith, few) in
    small ∙ ap capped e ∙ ap (λ b. capped (if b then 0 else w)) h

pub ruleset of_selects = (fixed_weight, varying_weight)

-- ---- behind the index of a memory

first_behind : (ss : List Select) → behind_word (selects ss) ≡ selects (drop 1 ss)
first_behind [] = refl
first_behind (s.Bit p i ∷ ss) = refl
first_behind (s.Part p l r ∷ ss) = refl
first_behind (s.Indexed p i n ∷ ss) = refl

pub none_behind : (ds : List Decl) (w : ℕ) (ss : List Select) → length ss ≡ 0
    → 0 ≡ capped (select_weight ds w (behind_word (selects ss)))
none_behind ds w [] h = refl
none_behind ds w (x ∷ ss) h = absurd (omega (arith, h))

pub some_behind : (ds : List Decl) (w made : ℕ) (ss rest : List Select) → rest ≡ drop 1 ss
    → made ≡ capped (select_weight ds w (selects rest))
    → made ≡ capped (select_weight ds w (behind_word (selects ss)))
some_behind ds w made ss rest e h =
    h ∙ ap (λ xs. capped (select_weight ds w (selects xs))) e
    ∙ ap (λ xs. capped (select_weight ds w xs)) (sym (first_behind ss))

pub ruleset behind_words = (none_behind, some_behind)

-- ---- declared names

none_is : {A : Type 0} (o : Option A) (b : Bool) → is_some o ≡ not b → b ≡ is_none o
none_is None true h = refl
none_is None false h = absurd (true≢false (sym h))
none_is (Some x) true h = absurd (true≢false h)
none_is (Some x) false h = refl

pub vector_access : (ds : List Decl) (d : Decl) (xs : Selects) (made : ℕ) (b : Bool) → is_some d.words ≡ not b
    → b ≡ true → made ≡ capped (select_weight ds d.width xs) → made ≡ capped (access_weight ds (Some d) xs)
vector_access ds d xs made b is true_is h =
    h ∙ ap (λ t. capped (if t then select_weight ds d.width xs
    else word_count d.words * d.width + select_weight ds d.width (behind_word xs))) (sym true_is ∙ none_is d.words b is)

pub memory_access : (ds : List Decl) (d : Decl) (xs : Selects) (words behind made : ℕ) (b : Bool)
    → is_some d.words ≡ not b → b ≡ false → words ≡ capped (word_count d.words * d.width)
    → behind ≡ capped (select_weight ds d.width (behind_word xs)) → made ≡ capped (words + behind)
    → made ≡ capped (access_weight ds (Some d) xs)
memory_access ds d xs words behind made b is false_is e f h =
    two (word_count d.words * d.width) (select_weight ds d.width (behind_word xs)) words behind made e f h
    ∙ ap (λ t. capped (if t then select_weight ds d.width xs
    else word_count d.words * d.width + select_weight ds d.width (behind_word xs))) (sym false_is ∙ none_is d.words b is)
