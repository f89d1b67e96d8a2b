-- What a text states of its channels, line by line.
use Rattle.std.proofs.Common.{◌≡◌, ℕ, Bool, true, false, cond, ◌==◌, List, [], ◌∷◌, ◌++◌, Option, Some, None, refl, ap}
use Rattle.std.proofs.Common.{sym, ◌∙◌, ◌≤◌, arith}
use Rattle.std.specs.Prelude.{unwrap_or, codes}
use Rattle.std.specs.Option.{option_or}
use Rattle.std.specs.Str.{bytes_eq}
use Rattle.std.proofs.lemmas.Bool.Decides.{nat_tests}
use Rattle.fv_lines.specs.Words.{lines, words, joined, begins_word, next_place}
use Rattle.ck_cfg.specs.Channels.{nret_said, nret_in, nret_at, stays_inside, nret_among, stated_nret}
use Rattle.ck_cfg.specs.Line.{Line, trimmed, is_dropped, section_begun, counted, counted_from}
use Rattle.ck_cfg.specs.Options.{nret_named}

-- a comment has another key
comment_key : (bs : List ℕ) → nret_in (words (35 ∷ bs)) ≡ None
comment_key bs = step (begins_word bs) (words bs) where
  step : (b : Bool) (ws : List (List ℕ)) → nret_in (cond b (joined 35 ws) ((35 ∷ []) ∷ ws)) ≡ None
  step true [] = refl
  step true (w ∷ ws) = refl
  step false ws = refl

none_either : (inside : Bool) (o : Option ℕ) → o ≡ None → cond inside o None ≡ None
none_either true o e = e
none_either false o e = refl

-- a line that doesn't count states nothing, and begins no section
dropped_states : (inside : Bool) (text : List ℕ) → is_dropped text ≡ true
    → (nret_at inside text ≡ None) × (section_begun text ≡ None)
dropped_states inside [] e = (none_either inside None refl, refl)
dropped_states inside (b ∷ bs) e = comment b (grind (arith, nat_tests)) where
  comment : (b : ℕ) → b ≡ 35 → (nret_at inside (b ∷ bs) ≡ None) × (section_begun (b ∷ bs) ≡ None)
  comment b h =
      rw h (none_either inside (nret_in (words (35 ∷ bs))) (comment_key bs), refl)

-- what lines state, where the first has this text, whether it counts or not
first_line : (inside : Bool) (n : ℕ) (text : List ℕ) (ls : List Line)
    → nret_among inside (counted n text ++ ls)
    ≡ option_or (nret_at inside text) (nret_among (stays_inside inside (section_begun text)) ls)
first_line inside n text ls = step (is_dropped text) refl where
  step : (b : Bool) → is_dropped text ≡ b
      → nret_among inside (cond b [] (record { number = n; text = text } ∷ []) ++ ls)
      ≡ option_or (nret_at inside text) (nret_among (stays_inside inside (section_begun text)) ls)
  step false e = refl
  step true e =
      let d = dropped_states inside text e in
      sym (ap (λ o. option_or o (nret_among (stays_inside inside (section_begun text)) ls)) d.0
      ∙ ap (λ o. nret_among (stays_inside inside o) ls) d.1)

module _ (inside : Bool) (n : ℕ) (rest behind text kept : List ℕ) (all : ℕ) (cut : lines rest ≡ text ∷ lines behind)
    (trims : kept ≡ trimmed text) (so_far : unwrap_or (nret_among inside (counted_from n (lines rest))) 1 ≡ all) where
  whole : unwrap_or (option_or (nret_at inside kept)
      (nret_among (stays_inside inside (section_begun kept)) (counted_from (next_place n) (lines behind)))) 1 ≡ all
  whole =
      ap (λ o. unwrap_or o 1) (sym (first_line inside n kept (counted_from (next_place n) (lines behind))))
      ∙ ap (λ t. unwrap_or (nret_among inside (counted n t ++ counted_from (next_place n) (lines behind))) 1) trims
      ∙ ap (λ ls. unwrap_or (nret_among inside (counted_from n ls)) 1) (sym cut) ∙ so_far

  -- the line states the number
  pub line_states : (o : Option ℕ) (channels : ℕ) → o ≡ nret_at inside kept → o ≡ Some channels → channels ≡ all
  line_states o channels e is =
      ap (λ p. unwrap_or (option_or p (nret_among (stays_inside inside (section_begun kept))
      (counted_from (next_place n) (lines behind)))) 1) (sym is ∙ e) ∙ whole

  -- the line states nothing
  pub line_passed : (o : Option ℕ) (now : Bool) → o ≡ nret_at inside kept → o ≡ None
      → now ≡ stays_inside inside (section_begun kept)
      → unwrap_or (nret_among now (counted_from (next_place n) (lines behind))) 1 ≡ all
  line_passed o now e is stays =
      ap (λ b. unwrap_or (nret_among b (counted_from (next_place n) (lines behind))) 1) stays
      ∙ ap (λ p. unwrap_or (option_or p (nret_among (stays_inside inside (section_begun kept))
      (counted_from (next_place n) (lines behind)))) 1) (sym is ∙ e) ∙ whole
