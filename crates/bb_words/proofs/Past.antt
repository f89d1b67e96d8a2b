-- Moved bits, and shifts past the width.
use Rattle.std.specs.Prelude.{◌≡◌, refl, ℕ, zero, suc, ◌-◌, ◌*◌, ◌≤◌, Bool}
use Rattle.std.specs.Prelude.{true, false, List, [], ◌∷◌}
use Rattle.std.specs.Prelude.{◌++◌, length, take, drop, map, replicate}
use Rattle.std.proofs.Common.{ap, sym, ◌∙◌, arith, inl, inr, ◌⊎◌, length-append}
use Rattle.std.proofs.lemmas.List.{take_all, take-append-le, take-replicate, length-take-le, length-replicate}
use Rattle.std.proofs.lemmas.List.{length-map}
use Rattle.std.proofs.lemmas.List.{length-drop, drop_all, take-map, drop-map, map-append}
use Rattle.bb_aig.specs.declared.node.AigNode.{AigNode}
use Rattle.bb_aig.specs.Graph.{IsLit, lit_at}
use Rattle.bb_aig.specs.Bits.{paired, pick, any_bit, shl_bits, shr_bits}
use Rattle.bb_aig.proofs.Moves.{picked_all}
use Rattle.bb_aig.specs.Gates.{AreLits, bits}
use Rattle.bb_words.specs.declared.shifts.Direction.{Direction}
use Rattle.bb_words.specs.declared.shifts.Direction.TheVariants.{Up, Down}
use Rattle.bb_words.specs.Moves.{moved, shift_bits}
use Rattle.bb_words.proofs.Copies.{lits_take, lits_drop, lits_join, lits_replicate, map-replicate}

-- ---- as they are made

take_behind : (f : ℕ) (n k : ℕ) (xs : List ℕ) → k ≤ n → take n
    (replicate k f ++ xs) ≡ replicate k f ++ take (n - k) xs
take_behind f n zero xs h = let e : n ≡ n - 0 = omega arith in ap (λ m. take m xs) e
take_behind f zero (suc k) xs h = absurd (omega arith)
take_behind f (suc n) (suc k) xs h =
    let e : n - k ≡ suc n - suc k = omega arith in
    ap (λ ls. f ∷ ls) (take_behind f n k xs (omega arith) ∙ ap (λ m. replicate k f ++ take m xs) e)

pub up_made : (f k : ℕ) (xs made : List ℕ) → k ≤ length xs → made ≡ replicate k f ++ take (length xs - k) xs
    → made ≡ moved Up f k xs
up_made f k xs made h e = e ∙ sym (take_behind f (length xs) k xs h)

pub down_made : (f k : ℕ) (xs made : List ℕ) → k ≤ length xs → made ≡ drop k xs ++ replicate k f
    → made ≡ moved Down f k xs
down_made f k xs made h e =
    e ∙ sym (take_all (length xs) (drop k xs ++ replicate k f)
    (omega (arith, length-append (drop k xs) (replicate k f), length-drop k xs, length-replicate k f)))

-- ---- literals that are moved

pub lits_moved : (graph : List AigNode) (d : Direction) (f k : ℕ) (lits : List ℕ) → IsLit graph f
    → AreLits graph lits
    → AreLits graph (moved d f k lits)
lits_moved graph Up f k lits t h =
    lits_take graph (length lits) (replicate k f ++ lits)
    (lits_join graph (replicate k f) lits (lits_replicate graph k f t) h)
lits_moved graph Down f k lits t h =
    lits_take graph (length lits) (drop k lits ++ replicate k f)
    (lits_join graph (drop k lits) (replicate k f) (lits_drop graph k lits h) (lits_replicate graph k f t))

pub bits_moved : (graph : List AigNode) (x : ℕ → Bool) (d : Direction) (f k : ℕ) (lits : List ℕ)
    → bits graph x (moved d f k lits) ≡ moved d (lit_at graph x f) k (bits graph x lits)
bits_moved graph x Up f k lits =
    let v = lit_at graph x in
    sym (take-map v (length lits) (replicate k f ++ lits))
    ∙ ap (take (length lits)) (map-append v (replicate k f) lits
    ∙ ap (λ bs. bs ++ map v lits) (map-replicate v k f))
    ∙ ap (λ n. take n (replicate k (v f) ++ map v lits)) (sym (length-map lits v))
bits_moved graph x Down f k lits =
    let v = lit_at graph x in
    sym (take-map v (length lits) (drop k lits ++ replicate k f))
    ∙ ap (take (length lits)) (map-append v (drop k lits) (replicate k f)
    ∙ ap (λ bs. bs ++ map v (replicate k f)) (sym (drop-map v k lits))
    ∙ ap (λ bs. drop k (map v lits) ++ bs) (map-replicate v k f))
    ∙ ap (λ n. take n (drop k (map v lits) ++ replicate k (v f))) (sym (length-map lits v))

pub length-moved : {A : Type 0} (d : Direction) (f : A) → (k : ℕ) (xs : List A) → length
    (moved d f k xs) ≡ length xs
length-moved Up f k xs =
    length-take-le (length xs) (replicate k f ++ xs) (omega (arith, length-append (replicate k f) xs))
length-moved Down f k xs =
    length-take-le (length xs) (drop k xs ++ replicate k f)
    (omega (arith, length-append (drop k xs) (replicate k f), length-drop k xs, length-replicate k f))

-- ---- past the width

moved_past : (d : Direction) (f : Bool) (k : ℕ) (xs : List Bool) → length xs ≤ k
    → moved d f k xs ≡ replicate (length xs) f
moved_past Up f k xs h =
    take-append-le (length xs) (replicate k f) xs (omega (arith, length-replicate k f))
    ∙ take-replicate (length xs) k f h
moved_past Down f k xs h =
    ap (λ ys. take (length xs) (ys ++ replicate k f)) (drop_all k xs h) ∙ take-replicate (length xs) k f h

any_true : (ys : List Bool) → any_bit true ys ≡ true
any_true [] = refl
any_true (y ∷ ys) = any_true ys

both_same : (b : Bool) (xs : List Bool) → paired (pick b) xs xs ≡ xs
both_same true xs = picked_all true xs xs refl
both_same false xs = picked_all false xs xs refl

shift_past : (d : Direction) (f : Bool) (k : ℕ) (xs ys : List Bool) → length xs ≤ k
    → shift_bits d f k xs ys ≡ paired (pick (any_bit false ys)) (replicate (length xs) f) xs
shift_past d f k xs [] h =
    sym (picked_all false (replicate (length xs) f) xs (sym (length-replicate (length xs) f)))
shift_past d f k xs (true ∷ ys) h =
    let all = replicate (length xs) f in
    let us = paired (pick true) (moved d f k xs) xs in
    let long : length xs ≡ length all = sym (length-replicate (length xs) f) in
    let e : us ≡ all = ap (λ ms. paired (pick true) ms xs) (moved_past d f k xs h) ∙ picked_all true all xs long in
    let wide : length us ≡ length xs = ap length e ∙ sym long in
    let any = any_bit false ys in
    shift_past d f (2 * k) us ys (omega arith) ∙ ap (λ n. paired (pick any) (replicate n f) us) wide
    ∙ ap (λ vs. paired (pick any) all vs) e ∙ both_same any all ∙ sym (picked_all true all xs long)
    ∙ ap (λ b. paired (pick b) all xs) (sym (any_true ys))
shift_past d f k xs (false ∷ ys) h =
    let all = replicate (length xs) f in
    let us = paired (pick false) (moved d f k xs) xs in
    let long : length xs ≡ length all = sym (length-replicate (length xs) f) in
    let e : us ≡ xs = ap (λ ms. paired (pick false) ms xs) (moved_past d f k xs h)
    ∙ picked_all false all xs long in
    let wide : length us ≡ length xs = ap length e in
    shift_past d f (2 * k) us ys (omega arith)
    ∙ ap (λ vs. paired (pick (any_bit false ys)) (replicate (length vs) f) vs) e

-- by what is left of an amount, where that can't count, or there is none
pub shift_rest : (d : Direction) (f : Bool) (k : ℕ) (xs ys : List Bool) → (length xs ≤ k) ⊎ (ys ≡ [])
    → shift_bits d f k xs ys ≡ paired (pick (any_bit false ys)) (replicate (length xs) f) xs
shift_rest d f k xs ys (inl h) = shift_past d f k xs ys h
shift_rest d f k xs ys (inr e) =
    ap (shift_bits d f k xs) e
    ∙ sym (picked_all false (replicate (length xs) f) xs (sym (length-replicate (length xs) f)))
    ∙ ap (λ us. paired (pick (any_bit false us)) (replicate (length xs) f) xs) (sym e)

-- ---- as shifts of bits

pub shift_up : (k : ℕ) (xs ys : List Bool) → shift_bits Up false k xs ys ≡ shl_bits k xs ys
shift_up k xs [] = refl
shift_up k xs (y ∷ ys) = shift_up (2 * k) (paired (pick y) (moved Up false k xs) xs) ys

pub shift_down : (f : Bool) (k : ℕ) (xs ys : List Bool) → shift_bits Down f k xs ys ≡ shr_bits f k xs ys
shift_down f k xs [] = refl
shift_down f k xs (y ∷ ys) = shift_down f (2 * k) (paired (pick y) (moved Down f k xs) xs) ys
