-- What sets have, from what the first and the last of them have.
use Rattle.std.specs.Prelude.{◌≡◌, refl, ℕ, zero, suc, ◌-◌, ◌≤◌, List, [], ◌∷◌, ◌++◌, length, take, drop, min}
use Rattle.std.specs.Prelude.{Bool, ◌&&◌, ◌||◌}
use Rattle.std.proofs.Common.{ap, sym, ◌∙◌, arith, subst, length-drop, get_or}
use Rattle.std.proofs.lemmas.List.{take_all, take-append-drop, length-take}
use Rattle.fv_bit_sets.specs.declared.step.Step.{Step}
use Rattle.fv_bit_sets.specs.Cells.{has, IsBare}
use Rattle.vl_flow_order.specs.declared.crossing.Crossing.{Crossing}
use Rattle.vl_flow_order.specs.Sets.{some_has, crosses, IsCrossing, IsJoined}
use Rattle.vl_flow_order.proofs.Tests.{or_assoc, nothing_across, across}

pub some_append : (xs ys : List (List Step)) (c i : ℕ) → some_has (xs ++ ys) c i ≡ (some_has xs c i || some_has ys c i)
some_append [] ys c i = refl
some_append (x ∷ xs) ys c i =
    ap (λ b. has x c i || b) (some_append xs ys c i) ∙ sym (or_assoc (has x c i) (some_has xs c i) (some_has ys c i))

pub some_split : (xs : List (List Step)) (k c i : ℕ) → k ≤ length xs
    → (some_has (take k xs) c i || some_has (take (length xs - k) (drop k xs)) c i) ≡ some_has xs c i
some_split xs k c i le =
    let size : length (drop k xs) ≤ length xs - k = omega (arith, length-drop k xs) in
    ap (λ ys. some_has (take k xs) c i || some_has ys c i) (take_all (length xs - k) (drop k xs) size)
    ∙ sym (some_append (take k xs) (drop k xs) c i) ∙ ap (λ ys. some_has ys c i) (take-append-drop k xs)

-- a row of one
pub only_one : (xs : List (List Step)) (d : List Step) → length xs ≡ 1 → d ≡ get_or xs 0 d → d ∷ [] ≡ xs
only_one [] d e h = absurd (omega (arith, e))
only_one (x ∷ []) d e h = ap (λ y. y ∷ []) h
only_one (x ∷ y ∷ xs) d e h = absurd (omega (arith, e))

pub no_row : (xs : List (List Step)) → length xs ≡ 0 → [] ≡ xs
no_row [] e = refl
no_row (x ∷ xs) e = absurd (omega (arith, e))

pub crosses_append : (hs bs cs ds : List (List Step)) (c i : ℕ) → length hs ≡ length bs
    → crosses (hs ++ cs) (bs ++ ds) c i
    ≡ ((crosses hs bs c i || crosses cs ds c i)
    || ((some_has hs c i && some_has ds c i) || (some_has cs c i && some_has bs c i)))
crosses_append [] [] cs ds c i e = nothing_across (some_has cs c i) (crosses cs ds c i)
crosses_append [] (b ∷ bs) cs ds c i e = absurd (omega (arith, e))
crosses_append (a ∷ hs) [] cs ds c i e = absurd (omega (arith, e))
crosses_append (a ∷ hs) (b ∷ bs) cs ds c i e =
    let same : length hs ≡ length bs = omega (arith, e) in
    (λ j. (has a c i && some_append bs ds c i j)
    || ((has b c i && some_append hs cs c i j) || crosses_append hs bs cs ds c i same j))
    ∙ across (has a c i) (has b c i) (some_has hs c i) (some_has bs c i) (crosses hs bs c i) (some_has cs c i)
    (some_has ds c i) (crosses cs ds c i)

take_length : (k : ℕ) (xs : List (List Step)) → k ≤ length xs → length (take k xs) ≡ k
take_length zero xs h = refl
take_length (suc k) [] h = absurd (omega (arith, h))
take_length (suc k) (x ∷ xs) h = let e = take_length k xs (omega (arith, h)) in ap suc e

pub halves : (xs ys : List (List Step)) (k : ℕ) (left right x : Crossing) → k ≤ length xs → length xs ≡ length ys
    → IsCrossing (take k xs) (take k ys) left
    → IsCrossing (take (length xs - k) (drop k xs)) (take (length ys - k) (drop k ys)) right
    → IsJoined left right x → IsCrossing xs ys x
halves xs ys k left right x le same l r joined = record {
  first = λ c i. joined.first c i ∙ (λ j. l.first c i j || r.first c i j) ∙ some_split xs k c i le;
  second = λ c i. joined.second c i ∙ (λ j. l.second c i j || r.second c i j) ∙ some_split ys k c i le_too;
  both = λ c i. joined.both c i
      ∙ (λ j. (l.both c i j || behind.both c i j)
      || ((l.first c i j && behind.second c i j) || (behind.first c i j && l.second c i j)))
      ∙ sym (crosses_append (take k xs) (take k ys) (drop k xs) (drop k ys) c i sizes)
      ∙ (λ j. crosses (take-append-drop k xs j) (take-append-drop k ys j) c i);
}
  where
    le_too : k ≤ length ys
    le_too = omega (arith, le, same)

    sizes : length (take k xs) ≡ length (take k ys)
    sizes = take_length k xs le ∙ sym (take_length k ys le_too)

    all : (zs : List (List Step)) → take (length zs - k) (drop k zs) ≡ drop k zs
    all zs = take_all (length zs - k) (drop k zs) (omega (arith, length-drop k zs))

    behind : IsCrossing (drop k xs) (drop k ys) right
    behind = subst (λ zs. IsCrossing zs (drop k ys) right) (all xs)
        (subst (λ zs. IsCrossing (take (length xs - k) (drop k xs)) zs right) (all ys) r)

-- ---- of few sets

pub union_one : (xs : List (List Step)) (d none made : List Step) → length xs ≡ 1 → d ≡ get_or xs 0 d
    → ((c : ℕ) → IsBare none c) → ((c i : ℕ) → has made c i ≡ (has d c i || has none c i)) → (c i : ℕ)
    → has made c i ≡ some_has xs c i
union_one xs d none made e h bare is c i =
    is c i ∙ ap (λ b. has d c i || b) (bare c i) ∙ ap (λ ys. some_has ys c i) (only_one xs d e h)

pub crossing_none : (xs ys : List (List Step)) (x : Crossing) → length xs ≡ 0 → length xs ≡ length ys
    → IsCrossing [] [] x → IsCrossing xs ys x
crossing_none xs ys x e same h =
    subst (λ zs. IsCrossing xs zs x) (no_row ys (sym same ∙ e)) (subst (λ zs. IsCrossing zs [] x) (no_row xs e) h)

pub crossing_one : (xs ys : List (List Step)) (d e : List Step) (x : Crossing) → length xs ≡ 1
    → length xs ≡ length ys → d ≡ get_or xs 0 d → e ≡ get_or ys 0 e → IsCrossing (d ∷ []) (e ∷ []) x
    → IsCrossing xs ys x
crossing_one xs ys d e x one same f g h =
    subst (λ zs. IsCrossing xs zs x) (only_one ys e (sym same ∙ one) g)
    (subst (λ zs. IsCrossing zs (e ∷ []) x) (only_one xs d one f) h)

pub same_takes : (k : ℕ) (xs ys : List (List Step)) → length xs ≡ length ys
    → length (take k xs) ≡ length (take k ys)
same_takes k xs ys h = length-take k xs ∙ ap (min k) h ∙ sym (length-take k ys)

pub same_rests : (k : ℕ) (xs ys : List (List Step)) → length xs ≡ length ys
    → length (take (length xs - k) (drop k xs)) ≡ length (take (length ys - k) (drop k ys))
same_rests k xs ys h =
    let left = length-take (length xs - k) (drop k xs) in
    let right = length-take (length ys - k) (drop k ys) in
    omega (arith, left, right, length-drop k xs, length-drop k ys, h)

pub met_across : (both inside across forth back : List Step) (c i : ℕ)
    → has both c i ≡ (has inside c i || has across c i) → has across c i ≡ (has forth c i || has back c i)
    → (x y z : Bool) → has inside c i ≡ x → has forth c i ≡ y → has back c i ≡ z → has both c i ≡ (x || (y || z))
met_across both inside across forth back c i e f x y z g h k =
    e ∙ ap (λ b. has inside c i || b) f ∙ (λ j. g j || (h j || k j))
