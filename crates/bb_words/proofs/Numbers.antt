-- Words that take no gate, and their numbers.
use Rattle.std.specs.Prelude.{◌≡◌, refl, ℕ, zero, suc, ◌+◌, ◌-◌, ◌*◌, ◌/◌, ◌%◌, ◌^◌}
use Rattle.std.specs.Prelude.{◌<◌, ◌≤◌, ◌==◌, Bool, true, false}
use Rattle.std.specs.Prelude.{if◌then◌else◌, List, [], ◌∷◌, ◌++◌, length, map, take, drop, replicate}
use Rattle.std.proofs.Common.{ap, sym, ◌∙◌, arith, subst, inl, inr, add-one, length-append}
use Rattle.std.proofs.lemmas.Bool.{cases_eq}
use Rattle.std.proofs.lemmas.List.{length-map, map-append, take-map, drop-map, length-take-le, length-drop, length_push}
use Rattle.std.proofs.lemmas.List.{length-replicate, map_push}
use Rattle.bb_aig.specs.declared.node.AigNode.{AigNode}
use Rattle.bb_aig.specs.Graph.{IsLit, lit_at, complement}
use Rattle.fv_bits.specs.Bits as num
use Rattle.bb_aig.specs.Bits.{number, top}
use Rattle.bb_aig.proofs.All.{bitwise, placed}
use Rattle.bb_aig.proofs.Numbers.{number-append, pow_next}
use Rattle.bb_aig.specs.Gates.{IsMade, AreLits, bits}
use Rattle.bb_words.proofs.Lits.{lits_push}
use Rattle.bb_words.proofs.Copies.{wide_bits, lits_take, lits_drop, lits_join, lits_replicate, map-replicate}
use Rattle.bb_words.proofs.Copies.{bits_complement, lits_complement}
use Rattle.bb_words.specs.Words.{Counts, IsWord, count}

pub word_turned : (graph : List AigNode) (a lits r : List ℕ) → AreLits graph a → lits ≡ map complement a
    → r ≡ lits
    → IsWord graph (length a) (λ x. num.complement (length a) (count graph x a)) r
word_turned graph a lits r h e is =
    let P : List ℕ → Type 0 = λ ls. IsWord graph (length a) (λ x. num.complement (length a)
    (count graph x a)) ls in
    let made : IsWord graph (length a) (λ x. num.complement (length a) (count graph x a)) (map complement a) = record {
      there = lits_complement graph a h;
      wide = length-map a complement;
      value = λ x.
          ap number (bits_complement graph x a) ∙ bitwise.turned (bits graph x a)
          ∙ ap (λ w. num.complement w (count graph x a)) (wide_bits graph x a);
    } in
    subst P (sym (is ∙ e)) made

pub word_joined : (graph : List AigNode) (high low lits r : List ℕ) → AreLits graph high → AreLits graph low
    → lits ≡ low ++ high → r ≡ lits
    → IsWord graph (length high + length low) (λ x. num.joined (length low) (count graph x high)
    (count graph x low)) r
word_joined graph high low lits r h k e is =
    let m : Counts = λ x. num.joined (length low) (count graph x high) (count graph x low) in
    let P : List ℕ → Type 0 = λ ls. IsWord graph (length high + length low) m ls in
    let made : IsWord graph (length high + length low) m (low ++ high) = record {
      there = lits_join graph low high k h;
      wide = omega (arith, length-append low high);
      value = λ x.
          ap number (map-append (lit_at graph x) low high) ∙ placed.joined (bits graph x high) (bits graph x low)
          ∙ ap (λ w. num.joined w (count graph x high) (count graph x low)) (wide_bits graph x low);
    } in
    subst P (sym (is ∙ e)) made

pub word_part : (graph : List AigNode) (a lits r : List ℕ) (at w : ℕ) → at + w ≤ length a → AreLits graph a
    → lits ≡ take w (drop at a) → r ≡ lits → IsWord graph w (λ x. num.part at w (count graph x a)) r
word_part graph a lits r at w within h e is =
    let P : List ℕ → Type 0 = λ ls. IsWord graph w (λ x. num.part at w (count graph x a)) ls in
    let made : IsWord graph w (λ x. num.part at w (count graph x a)) (take w (drop at a)) = record {
      there = lits_take graph w (drop at a) (lits_drop graph at a h);
      wide = length-take-le w (drop at a) (omega (arith, length-drop at a));
      value = λ x.
          ap number (sym (take-map (lit_at graph x) w (drop at a)) ∙ ap (take w) (sym (drop-map
          (lit_at graph x) at a)))
          ∙ placed.part at w (bits graph x a) (omega (arith, wide_bits graph x a));
    } in
    subst P (sym (is ∙ e)) made

bits_extended : (graph : List AigNode) (x : ℕ → Bool) (a : List ℕ) (k fill : ℕ)
    → bits graph x (a ++ replicate k fill) ≡ bits graph x a ++ replicate k (lit_at graph x fill)
bits_extended graph x a k fill =
    map-append (lit_at graph x) a (replicate k fill)
    ∙ ap (λ bs. bits graph x a ++ bs) (map-replicate (lit_at graph x) k fill)

wide_extended : (a : List ℕ) (w fill : ℕ) → length a ≤ w → length (a ++ replicate (w - length a) fill) ≡ w
wide_extended a w fill h =
    omega (arith, length-append a (replicate (w - length a) fill), length-replicate (w - length a) fill)

pub word_zeros : (graph : List AigNode) (a lits r : List ℕ) (w fill : ℕ) → length a ≤ w → AreLits graph a
    → IsMade graph (λ x. false) fill → lits ≡ a ++ replicate (w - length a) fill → r ≡ lits
    → IsWord graph w (λ x. count graph x a) r
word_zeros graph a lits r w fill within h is_no e is =
    let k = w - length a in
    let P : List ℕ → Type 0 = λ ls. IsWord graph w (λ x. count graph x a) ls in
    let made : IsWord graph w (λ x. count graph x a) (a ++ replicate k fill) = record {
      there = lits_join graph a (replicate k fill) h (lits_replicate graph k fill is_no.there);
      wide = wide_extended a w fill within;
      value = λ x.
          ap number (bits_extended graph x a k fill)
          ∙ ap (λ f. number (bits graph x a ++ replicate k f)) (is_no.value x) ∙ placed.zeros k (bits graph x a);
    } in
    subst P (sym (is ∙ e)) made

pub word_signs : (graph : List AigNode) (a lits r : List ℕ) (w fill : ℕ) → 1 ≤ length a → length a ≤ w
    → AreLits graph a → IsLit graph fill → ((x : ℕ → Bool) → lit_at graph x fill ≡ top (bits graph x a))
    → lits ≡ a ++ replicate (w - length a) fill → r ≡ lits
    → IsWord graph w (λ x. num.sign_extended (length a) w (count graph x a)) r
word_signs graph a lits r w fill some within h there high e is =
    let k = w - length a in
    let m : Counts = λ x. num.sign_extended (length a) w (count graph x a) in
    let P : List ℕ → Type 0 = λ ls. IsWord graph w m ls in
    let made : IsWord graph w m (a ++ replicate k fill) = record {
      there = lits_join graph a (replicate k fill) h (lits_replicate graph k fill there);
      wide = wide_extended a w fill within;
      value = λ x.
          let n = length (bits graph x a) in
          let full : n + k ≡ w = omega (arith, wide_bits graph x a) in
          ap number (bits_extended graph x a k fill)
          ∙ ap (λ f. number (bits graph x a ++ replicate k f)) (high x)
          ∙ placed.signs k (bits graph x a) (omega (arith, wide_bits graph x a))
          ∙ ap (λ v. num.sign_extended n v (count graph x a)) full
          ∙ ap (λ v. num.sign_extended v w (count graph x a)) (wide_bits graph x a);
    } in
    subst P (sym (is ∙ e)) made

-- ---- the bits of a number

-- What the loop keeps: the bits so far count what isn't left.
pub record Taking (graph : List AigNode) (whole i left : ℕ) (made : List ℕ) : Type 0 where
  pub there : AreLits graph made
  pub wide : length made ≡ i
  pub value : (x : ℕ → Bool) → count graph x made + left * 2 ^ i ≡ whole

pub taking_start : (graph : List AigNode) (whole left : ℕ) (made : List ℕ) → left ≡ whole → made ≡ []
    → Taking graph whole 0 left made
taking_start graph whole left made is e =
    let P : List ℕ → Type 0 = λ ls. Taking graph whole 0 left ls in
    let none : Taking graph whole 0 left [] = record { there = tt; wide = refl; value = λ x. omega (arith, is) } in
    subst P (sym e) none

step_value : (c left rest p b : ℕ) → left ≡ 2 * rest + b → c + b * p + rest * (2 * p) ≡ c + left * p
step_value c left rest p b e = omega (arith, ap (λ n. n * p) e)

one_bit : (b : Bool) → number (b ∷ []) ≡ num.bit b
one_bit true = refl
one_bit false = refl

pub halves : (n : ℕ) → n ≡ 2 * (n / 2) + num.bit (n % 2 == 1)
halves n = elim (cases_eq (n % 2) 1) [
  | inl e ↦ let b : num.bit (n % 2 == 1) ≡ 1 = ap (λ r. num.bit (r == 1)) e in omega (arith, e, b)
  | inr ne ↦
      let z : n % 2 ≡ 0 = omega arith in
      let b : num.bit (n % 2 == 1) ≡ 0 = ap (λ r. num.bit (r == 1)) z in
      omega (arith, z, b)
]

pub made_bit : (graph : List AigNode) (b : Bool) (one none : ℕ) → IsMade graph (λ x. true) one
    → IsMade graph (λ x. false) none → IsMade graph (λ x. b) (if b then one else none)
made_bit graph true one none h k = h
made_bit graph false one none h k = k

pub taking_next : (graph : List AigNode) (whole i left one none bit : ℕ) (made longer : List ℕ)
    → IsMade graph (λ x. true) one → IsMade graph (λ x. false) none → bit ≡
    (if left % 2 == 1 then one else none)
    → longer ≡ made ++ bit ∷ [] → Taking graph whole i left made → Taking graph whole (i + 1)
    (left / 2) longer
taking_next graph whole i left one none bit made longer is_yes is_no e pushed h =
    let b = left % 2 == 1 in
    let M : ℕ → Type 0 = λ l. IsMade graph (λ x. b) l in
    let lit = subst M (sym e) (made_bit graph b one none is_yes is_no) in
    let P : List ℕ → Type 0 = λ ls. Taking graph whole (i + 1) (left / 2) ls in
    let more : Taking graph whole (i + 1) (left / 2) (made ++ bit ∷ []) = record {
      there = lits_push graph made bit h.there lit.there;
      wide = length_push made bit ∙ ap (λ n. n + 1) h.wide;
      value = λ x.
          let c = count graph x made in
          let n : number (bits graph x (made ++ bit ∷ [])) ≡ c + num.bit b * 2 ^ i = ap number (map_push
          (lit_at graph x) made bit)
          ∙ number-append (bits graph x made) (lit_at graph x bit ∷ [])
          ∙ ap (λ k. c + k * 2 ^ length (bits graph x made)) (one_bit (lit_at graph x bit) ∙ ap num.bit
          (lit.value x))
          ∙ ap (λ k. c + num.bit b * 2 ^ k) (wide_bits graph x made ∙ h.wide) in
          let p : 2 ^ (i + 1) ≡ 2 * 2 ^ i = ap (λ n. 2 ^ n) (add-one i) ∙ pow_next i in
          ap (λ k. k + left / 2 * 2 ^ (i + 1)) n ∙ ap (λ k. c + num.bit b * 2 ^ i + left / 2 * k) p
          ∙ step_value c left (left / 2) (2 ^ i) (num.bit b) (halves left) ∙ h.value x;
    } in
    subst P (sym pushed) more

taken : (c left p whole : ℕ) → c + left * p ≡ whole → whole < p → c ≡ whole
taken c zero p whole e h = omega (arith, e)
taken c (suc n) p whole e h = absurd (omega (arith, e, h))

pub taken_all : (graph : List AigNode) (whole w left : ℕ) (made r : List ℕ) → whole < 2 ^ w → r ≡ made
    → Taking graph whole w left made → IsWord graph w (λ x. whole) r
taken_all graph whole w left made r fits e h =
    let P : List ℕ → Type 0 = λ ls. IsWord graph w (λ x. whole) ls in
    let done : IsWord graph w (λ x. whole) made = record {
      there = h.there;
      wide = h.wide;
      value = λ x. taken (count graph x made) left (2 ^ w) whole (h.value x) fits;
    } in
    subst P (sym e) done
