-- The numbers of a header's words.
use Rattle.std.proofs.Common.{◌≡◌, ℕ, ◌<◌, ◌^◌, Bool, true, false, cond, List, [], ◌∷◌, ◌++◌, Option, Some, None}
use Rattle.std.proofs.Common.{refl, ap, sym, ◌∙◌}
use Rattle.std.specs.Prelude.{bytes_eq, codes}
use Rattle.std.specs.List.{AllByRecursion}
use Rattle.fv_lines.specs.Cuts.{HasNo, IsCut}
use Rattle.aiger_text.specs.Lines.{words, short}
use Rattle.aiger_text.specs.declared.header.Sizes.{Sizes}
use Rattle.aiger_text.specs.Header.{if_some, shorts, sizes_of, header_words, header_of}
use Rattle.aiger_text.proofs.LineLaws.{word_cut, word_last}

-- one word more
pub shorts_next : (rest word behind : List ℕ) (ns : List ℕ) (o : Option ℕ) (all : Option (List ℕ))
    → IsCut 32 rest word behind → o ≡ short word → shorts ns (words rest) ≡ all
    → if_some o (λ n. shorts (ns ++ n ∷ []) (words behind)) ≡ all
shorts_next rest word behind ns o all c e h =
    ap (λ x. if_some x (λ n. shorts (ns ++ n ∷ []) (words behind))) e
    ∙ sym (ap (shorts ns) (word_cut rest word behind c)) ∙ h

-- the last word
pub shorts_last : (rest : List ℕ) (ns : List ℕ) (o : Option ℕ) (all : Option (List ℕ))
    → HasNo 32 rest → o ≡ short rest → shorts ns (words rest) ≡ all
    → if_some o (λ n. Some (ns ++ n ∷ [])) ≡ all
shorts_last rest ns o all c e h =
    ap (λ x. if_some x (λ n. Some (ns ++ n ∷ []))) e ∙ sym (ap (shorts ns) (word_last rest c)) ∙ h

pub small_push : (ns : List ℕ) (n : ℕ) → AllByRecursion (λ k. k < 10 ^ 20) ns → n < 10 ^ 20
    → AllByRecursion (λ k. k < 10 ^ 20) (ns ++ n ∷ [])
small_push [] n a h = (h, tt)
small_push (m ∷ ms) n a h = (a.0, small_push ms n a.1 h)

-- a line of one word
pub no_header : (line : List ℕ) → HasNo 32 line → ◌≡◌ {A = Option Sizes} None (header_of line)
no_header line h = sym (ap header_words (word_last line h) ∙ same (bytes_eq line (codes "aag"))) where
  same : (b : Bool) → ◌≡◌ {A = Option Sizes} (cond b None None) None
  same true = refl
  same false = refl

-- a line that begins otherwise
pub other_word : (line word rest : List ℕ) → IsCut 32 line word rest → bytes_eq word (codes "aag") ≡ false
    → ◌≡◌ {A = Option Sizes} None (header_of line)
other_word line word rest c e =
    sym (ap header_words (word_cut line word rest c)
    ∙ ap (λ b. cond b (if_some (shorts [] (words rest)) sizes_of) None) e)
