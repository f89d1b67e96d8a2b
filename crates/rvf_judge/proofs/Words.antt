-- The words of a memory by their places.
use Rattle.std.specs.Prelude.{◌≡◌, refl, ℕ, zero, suc, ◌+◌, ◌<◌, ◌≤◌, List, [], ◌∷◌, Bool, true, false}
use Rattle.std.specs.Prelude.{Some, ℤ, int_le, slice_index_or}
use Rattle.std.proofs.Common.{ap, sym, ◌∙◌, arith}
use Rattle.std.proofs.lemmas.Int.{ints}
use Rattle.vl_size.specs.Table.{span, word_name}
use Rattle.vl_mean.specs.Cells.{cells_of, words_from}
use Rattle.rvf_judge.specs.Words.{index_at}

first_index : (up : Bool) (i : ℤ) → i ≡ index_at up i 0
first_index true i = omega (arith, ints)
first_index false i = omega (arith, ints)

next_index : (up : Bool) (i : ℤ) (k : ℕ) → index_at up (index_at up i 1) k ≡ index_at up i (suc k)
next_index true i k = omega (arith, ints)
next_index false i k = omega (arith, ints)

word_at : (memory : List ℕ) (count : ℕ) (up : Bool) (i : ℤ) (k : ℕ) → k < count
    → slice_index_or (words_from memory count up i) k [] ≡ word_name memory (index_at up i k)
word_at memory zero up i k less = absurd (omega (arith, less))
word_at memory (suc count) up i zero less = ap (word_name memory) (first_index up i)
word_at memory (suc count) up i (suc k) less =
    let before : k < count = omega (arith, less) in
    word_at memory count up (index_at up i 1) k before ∙ ap (word_name memory) (next_index up i k)

past_words : (memory : List ℕ) (count : ℕ) (up : Bool) (i : ℤ) (k : ℕ) → count ≤ k
    → slice_index_or (words_from memory count up i) k [] ≡ []
past_words memory zero up i zero past = refl
past_words memory zero up i (suc k) past = refl
past_words memory (suc count) up i zero past = absurd (omega (arith, past))
past_words memory (suc count) up i (suc k) past =
    past_words memory count up (index_at up i 1) k (omega (arith, past))

pub named_word : (memory : List ℕ) (range : ℤ × ℤ) (place distance : ℕ) (index : ℤ)
    → index ≡ index_at (int_le range.0 range.1) range.0 place → distance + 1 ≡ span range.0 range.1
    → place ≤ distance → word_name memory index ≡ slice_index_or (cells_of memory (Some range)) place []
named_word memory range place distance index is count less =
    let within : place < span range.0 range.1 = omega (arith, count, less) in
    ap (word_name memory) is
    ∙ sym (word_at memory (span range.0 range.1) (int_le range.0 range.1) range.0 place within)

pub no_word : (memory : List ℕ) (range : ℤ × ℤ) (place distance : ℕ) → distance + 1 ≡ span range.0 range.1
    → distance < place → slice_index_or (cells_of memory (Some range)) place [] ≡ []
no_word memory range place distance count past =
    past_words memory (span range.0 range.1) (int_le range.0 range.1) range.0 place (omega (arith, count, past))

pub other_place : (text : List ℕ) (place : ℕ) → 0 < place → slice_index_or (text ∷ []) place [] ≡ []
other_place text zero some = absurd (omega (arith, some))
other_place text (suc zero) some = refl
other_place text (suc (suc place)) some = refl

pub none_at : (place : ℕ) (none : List ℕ) → slice_index_or [] place none ≡ none
none_at zero none = refl
none_at (suc place) none = refl
