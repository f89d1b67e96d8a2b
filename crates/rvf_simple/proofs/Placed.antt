-- Assumptions that are put in their place are blocks, so a simple wrapper has none, and no tokens more than were put
-- out.
use Rattle.std.specs.Prelude.{◌≡◌, refl, ℕ, ◌+◌, ◌*◌, ◌≤◌, List, [], ◌∷◌, ◌++◌, length, take, drop, Bool, true, false, not}
use Rattle.std.specs.Prelude.{Option, Some, None, if◌then◌else◌}
use Rattle.std.specs.List.{filter}
use Rattle.std.proofs.Common.{arith}
use Rattle.std.proofs.lemmas.List.{length-append, length-drop, length-take}
use Rattle.fv_text.specs.declared.token.Token.{Token}
use Rattle.vl_tree.specs.ItemSpelling.{spell_source}
use Rattle.vl_tree.specs.Phrase.{Spells}
use Rattle.vl_tree.specs.declared.source.Source.{Source}
use Rattle.vl_text.specs.Assumptions.{end_at, end_of_top, is_assumed, is_not_assumed, is_within, item, items}
use Rattle.vl_text.specs.Assumptions.{line_start, many_on, placed, put_in, section_of, with_assumptions}
use Rattle.vl_text.specs.Texts.{Text}
use Rattle.rvf_simple.specs.SimpleTrees.{IsSimple}
use Rattle.rvf_simple.proofs.Unassumed.{many, many_both, no_always}

-- each token is put apart to one side
sorted_few : (section : _) (ts : List Token)
    → length (filter (is_assumed section) ts) + length (filter (is_not_assumed section) ts) ≡ length ts
sorted_few section [] = refl
sorted_few section (t ∷ ts) = by (is_within section t.pos) (sorted_few section ts)
  where
    by : (b : Bool)
        → length (filter (is_assumed section) ts) + length (filter (is_not_assumed section) ts) ≡ length ts
        → length (if b then t ∷ filter (is_assumed section) ts else filter (is_assumed section) ts)
        + length (if not b then t ∷ filter (is_not_assumed section) ts else filter (is_not_assumed section) ts)
        ≡ length (t ∷ ts)
    by true rest = omega (arith, rest)
    by false rest = omega (arith, rest)

-- an item has seven tokens more than what is assumed
items_few : (lines : List Text) (ts : List Token) → length (items lines ts) ≤ length ts + 7 * length lines
items_few [] ts = omega arith
items_few (x ∷ xs) ts =
    omega (
      arith,
      length-append (item (line_start x) (take (many_on x ts) ts)) (items xs (drop (many_on x ts) ts)),
      length-append (take (many_on x ts) ts) (end_at (line_start x)),
      length-take (many_on x ts) ts,
      length-drop (many_on x ts) ts,
      items_few xs (drop (many_on x ts) ts),
    )

put_few : (place : Option ℕ) (is ts : List Token) → length (put_in place is ts) ≤ length is + length ts
put_few None is ts = omega arith
put_few (Some before) is ts =
    omega (
      arith,
      length-append (take before ts) (is ++ drop before ts),
      length-append is (drop before ts),
      length-take before ts,
      length-drop before ts,
    )

placed_few : (section : Option _) (lines : List Text) (ts : List Token)
    → length (placed section lines ts) ≤ length ts + 7 * length lines
placed_few None lines ts = omega arith
placed_few (Some section) lines ts =
    let assumed : List Token = filter (is_assumed section) ts in
    let others : List Token = filter (is_not_assumed section) ts in
    omega (
      arith,
      sorted_few section ts,
      items_few lines assumed,
      put_few (end_of_top 0 others) (items lines assumed) others,
    )

pub assumed_few : (lines : List Text) (ts : List Token)
    → length (with_assumptions lines ts) ≤ length ts + 7 * length lines
assumed_few lines ts = placed_few (section_of lines) lines ts

-- ---- of a simple wrapper

-- what is put in has an `always`
put_always : (n : ℕ) (x : Text) (xs : List Text) (assumed others : List Token)
    → many (put_in (Some n) (items (x ∷ xs) assumed) others) ≡ 0 → ⊥
put_always n x xs assumed others e =
    omega (
      arith,
      e,
      many_both (take n others) (items (x ∷ xs) assumed ++ drop n others),
      many_both (items (x ∷ xs) assumed) (drop n others),
    )

other_few : (place : Option ℕ) (section : _) (x : Text) (xs : List Text) (ts : List Token)
    → many (put_in place (items (x ∷ xs) (filter (is_assumed section) ts)) (filter (is_not_assumed section) ts)) ≡ 0
    → length (put_in place (items (x ∷ xs) (filter (is_assumed section) ts)) (filter (is_not_assumed section) ts))
    ≤ length ts
other_few None section x xs ts e = omega (arith, sorted_few section ts)
other_few (Some n) section x xs ts e =
    absurd (put_always n x xs (filter (is_assumed section) ts) (filter (is_not_assumed section) ts) e)

simple_few : (section : Option _) (lines : List Text) (ts : List Token) → section_of lines ≡ section
    → many (placed section lines ts) ≡ 0 → length (placed section lines ts) ≤ length ts
simple_few None lines ts is e = omega arith
simple_few (Some section) [] ts is e = absurd (let f : ⊥ = cc in f)
simple_few (Some section) (x ∷ xs) ts is e =
    other_few (end_of_top 0 (filter (is_not_assumed section) ts)) section x xs ts e

-- the tokens of a simple wrapper are no more than those that were put out
pub simple_tokens : (lines : List Text) (ts : List Token) (tree : Source)
    → Spells (spell_source tree) (with_assumptions lines ts) [] → IsSimple tree.modules
    → length (with_assumptions lines ts) ≤ length ts
simple_tokens lines ts tree h simple =
    simple_few (section_of lines) lines ts refl (no_always tree (with_assumptions lines ts) h simple)
