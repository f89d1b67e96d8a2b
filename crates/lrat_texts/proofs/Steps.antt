-- A text is read as steps exactly where it says these steps.
use Rattle.std.proofs.Common.{◌≡◌, ℕ, ◌<◌, ◌≤◌, Bool, true, false, not, cond, ◌==◌, ◌↔◌, List, [], ◌∷◌, ◌++◌, length}
use Rattle.std.proofs.Common.{map, filter, codes, append_assoc, append-nil, ℤ, unsigned_abs, Option, Some, None}
use Rattle.std.proofs.Common.{Result, Ok, Err, nat_le, refl, ap, sym, subst, ◌∙◌, inl, inr, arith}
use Rattle.std.specs.List.{AllZip}
use Rattle.std.proofs.lemmas.Bool.{cases_Bool}
use Rattle.std.proofs.lemmas.Bool.Decides.{nat_tests}
use Rattle.std.proofs.lemmas.Slice.Eq.{bytes_eq-Decides}
use Rattle.fv_text.specs.Results.{and_then}
use Rattle.fv_lines.specs.Numbers.{natural_of}
use Rattle.fv_lines.specs.Words.{is_nil, lines, next_place, words}
use Rattle.lrat_check.specs.declared.step.Step.{Step}
use Rattle.lrat_check.specs.declared.step.Step.TheVariants.{Add, Delete}
use Rattle.lrat_check.specs.declared.lrat_fault.LratFault.{LratFault}
use Rattle.lrat_check.specs.declared.lrat_fault.LratFault.TheVariants.{Literal, Open}
use Rattle.lrat_check.specs.Texts.{short, nonzero, literal_of, is_end, is_delete, wanted, up_to_end, ended}
use Rattle.lrat_check.specs.Texts.{add_of, delete_of, behind_id, step_of, with_line, with_lines, steps_of}
use Rattle.lrat_texts.specs.Steps.{SaysId, SaysDeleted, SaysLiteral, SaysStep, said_lines}
use Rattle.lrat_texts.specs.Steps.{SaysSteps}
use Rattle.lrat_texts.proofs.Numerals.{none_some, number_said, number_read, signed_said, signed_read}

-- ---- answers

abbrev answer : {X : Type 0} → X → Result X LratFault
answer x = Ok x

abbrev refusal : {X : Type 0} → LratFault → Result X LratFault
refusal f = Err f

ok_is : {X : Type 0} (x y : X) → answer x ≡ answer y → x ≡ y
ok_is x y e = cc

err_ok : {X : Type 0} (f : LratFault) (x : X) → refusal f ≡ answer x → ⊥
err_ok f x e = cc

went : {X Y : Type 0} (r : Result X LratFault) (next : X → Result Y LratFault) (y : Y) → and_then r next ≡ Ok y
    → (x : X) × (r ≡ Ok x) × (next x ≡ Ok y)
went (Ok x) next y e = (x, refl, e)
went (Err f) next y e = absurd (err_ok f y e)

found : {X Y : Type 0} (line : ℕ) (o : Option X) (next : X → Result Y LratFault) (y : Y)
    → and_then (wanted line o) next ≡ Ok y → (x : X) × (o ≡ Some x) × (next x ≡ Ok y)
found line (Some x) next y e = (x, refl, e)
found line None next y e = absurd (err_ok (Literal line) y e)

-- ---- numbers

is_le : (n m : ℕ) → nat_le n m ≡ true → n ≤ m
is_le n m h = grind (arith, nat_tests)

le_is : (n m : ℕ) → n ≤ m → nat_le n m ≡ true
le_is n m h = grind (arith, nat_tests)

tested : {X : Type 0} (t : Bool) (o : Option X) (x : X) → cond t o None ≡ Some x → (t ≡ true) × (o ≡ Some x)
tested true o x e = (refl, e)
tested false o x e = absurd (none_some x e)

some_is : {X : Type 0} (x y : X) → Some x ≡ Some y → x ≡ y
some_is x y e = cc

id_said : (word : List ℕ) (id : ℕ) → short word ≡ Some id → SaysId word id
id_said word id e =
    let t = tested (nat_le (length word) 18) (natural_of word) id e in
    (number_said word id t.1, is_le (length word) 18 t.0)

id_read : (word : List ℕ) (id : ℕ) → SaysId word id → short word ≡ Some id
id_read word id s = ap (λ t. cond t (natural_of word) None) (le_is (length word) 18 s.1) ∙ number_read word id s.0

above_zero : (o : Option ℕ) (n : ℕ) → nonzero o ≡ Some n → (o ≡ Some n) × (0 < n)
above_zero None n e = absurd (none_some n e)
above_zero (Some k) n e = by_test (k == 0) refl e where
  by_test : (t : Bool) → (k == 0) ≡ t → cond t None (Some k) ≡ Some n → (Some k ≡ Some n) × (0 < n)
  by_test true h q = absurd (none_some n q)
  by_test false h q =
      let same = some_is k n q in
      let some : 0 < k = grind (arith, nat_tests) in
      (q, omega (arith, same))

nonzero_is : (o : Option ℕ) (n : ℕ) → o ≡ Some n → 0 < n → nonzero o ≡ Some n
nonzero_is o n e h =
    let z : (n == 0) ≡ false = grind (arith, nat_tests) in ap nonzero e ∙ ap (λ t. cond t None (Some n)) z

-- a number of at most 18 digits that isn't 0
abbrev deleted_of : List ℕ → Option ℕ
deleted_of word = nonzero (short word)

deleted_said : (word : List ℕ) (id : ℕ) → deleted_of word ≡ Some id → SaysDeleted word id
deleted_said word id e = let p = above_zero (short word) id e in (id_said word id p.0, p.1)

deleted_read : (word : List ℕ) (id : ℕ) → SaysDeleted word id → deleted_of word ≡ Some id
deleted_read word id s = nonzero_is (short word) id (id_read word id s.0) s.1

literal_said : (word : List ℕ) (l : ℤ) → literal_of word ≡ Some l → SaysLiteral word l
literal_said word l e =
    let p = signed_said deleted_of word l e in
    let d = deleted_said _ (unsigned_abs l) p.0 in
    (record { size = d.0.0; sign = p.1 }, d.0.1, d.1)

literal_read : (word : List ℕ) (l : ℤ) → SaysLiteral word l → literal_of word ≡ Some l
literal_read word l s =
    signed_read deleted_of word l (deleted_read _ (unsigned_abs l) ((s.0.size, s.1), s.2)) s.0.sign

-- ---- numbers up to an end

module _ {X : Type 0} (number : List ℕ → Option X) (Says : List ℕ → X → Type 0)
    (said : (w : List ℕ) (x : X) → number w ≡ Some x → Says w x)
    (read : (w : List ℕ) (x : X) → Says w x → number w ≡ Some x) (no_number : number (codes "0") ≡ None) where
  no_end : (w : List ℕ) (x : X) → number w ≡ Some x → is_end w ≡ false
  no_end w x e = elim (cases_Bool (is_end w)) [
    | inl h ↦
        let same : w ≡ codes "0" = (bytes_eq-Decides w (codes "0")).0 h in
        absurd (none_some x (sym no_number ∙ ap number (sym same) ∙ e))
    | inr h ↦ h
  ]

  -- the words up to the first end say numbers, which came behind those before them
  record Taken (before after : List X) (ws rest : List (List ℕ)) : Type 0 where
    front : List (List ℕ)
    numbers : List X
    words_are : ws ≡ front ++ codes "0" ∷ rest
    after_is : after ≡ before ++ numbers
    zips : AllZip Says front numbers

  taken : (line : ℕ) (before after : List X) (ws rest : List (List ℕ))
      → up_to_end number line before ws ≡ Ok (after, rest) → Taken before after ws rest
  taken line before after [] rest e = absurd (err_ok (Open line) (after, rest) e)
  taken line before after (w ∷ ws) rest e =
      by_test (λ x k. taken line (before ++ x ∷ []) after ws rest k) (is_end w) refl e where
        pair_is : (x y : List X × List (List ℕ)) → answer x ≡ answer y → x ≡ y
        pair_is x y q = cc

        by_test : ((x : X) → up_to_end number line (before ++ x ∷ []) ws ≡ Ok (after, rest)
            → Taken (before ++ x ∷ []) after ws rest) → (t : Bool) → is_end w ≡ t → cond t (Ok (before, ws))
            (and_then (wanted line (number w)) (λ x. up_to_end number line (before ++ x ∷ []) ws)) ≡ Ok (after, rest)
            → Taken before after (w ∷ ws) rest
        by_test more true h k =
            let p = pair_is (before, ws) (after, rest) k in
            let same : w ≡ codes "0" = (bytes_eq-Decides w (codes "0")).0 h in
            record {
              front = [];
              numbers = [];
              words_are = ap (λ x. x ∷ ws) same ∙ ap (λ (x : List X × List (List ℕ)). codes "0" ∷ x.1) p;
              after_is = sym (ap (λ (x : List X × List (List ℕ)). x.0) p) ∙ sym (append-nil before);
              zips = tt;
            }
        by_test more false h k =
            let f = found line (number w) (λ x. up_to_end number line (before ++ x ∷ []) ws) (after, rest) k in
            let r = more f.0 f.2 in
            record {
              front = w ∷ r.front;
              numbers = f.0 ∷ r.numbers;
              words_are = ap (λ x. w ∷ x) r.words_are;
              after_is = r.after_is ∙ append_assoc before (f.0 ∷ []) r.numbers;
              zips = (said w f.0 f.1, r.zips);
            }

  again : (line : ℕ) (before numbers : List X) (front rest : List (List ℕ)) → AllZip Says front numbers
      → up_to_end number line before (front ++ codes "0" ∷ rest) ≡ Ok (before ++ numbers, rest)
  again line before [] [] rest z = ap (λ x. Ok (x, rest)) (sym (append-nil before))
  again line before (x ∷ xs) [] rest z = absurd z
  again line before [] (w ∷ ws) rest z = absurd z
  again line before (x ∷ xs) (w ∷ ws) rest z =
      let n = read w x z.0 in
      let next : X → Result (List X × List (List ℕ)) LratFault =
      λ y. up_to_end number line (before ++ y ∷ []) (ws ++ codes "0" ∷ rest) in
      ap (λ t. cond t (Ok (before, ws ++ codes "0" ∷ rest)) (and_then (wanted line (number w)) next)) (no_end w x n)
      ∙ ap (λ o. and_then (wanted line o) next) n ∙ again line (before ++ x ∷ []) xs ws rest z.1
      ∙ ap (λ y. Ok (y, rest)) (append_assoc before (x ∷ []) xs)

abbrev TakenLiterals : List ℤ → List (List ℕ) → List (List ℕ) → Type 0
TakenLiterals after ws rest = Taken literal_of SaysLiteral literal_said literal_read refl [] after ws rest

abbrev TakenDeleted : List ℕ → List (List ℕ) → List (List ℕ) → Type 0
TakenDeleted after ws rest = Taken deleted_of SaysDeleted deleted_said deleted_read refl [] after ws rest

literals_taken : (line : ℕ) (after : List ℤ) (ws rest : List (List ℕ))
    → up_to_end literal_of line [] ws ≡ Ok (after, rest) → TakenLiterals after ws rest
literals_taken line after ws rest e =
    taken literal_of SaysLiteral literal_said literal_read refl line [] after ws rest e

deleted_taken : (line : ℕ) (after : List ℕ) (ws rest : List (List ℕ))
    → up_to_end deleted_of line [] ws ≡ Ok (after, rest) → TakenDeleted after ws rest
deleted_taken line after ws rest e =
    taken deleted_of SaysDeleted deleted_said deleted_read refl line [] after ws rest e

literals_again : (line : ℕ) (lits : List ℤ) (front rest : List (List ℕ)) → AllZip SaysLiteral front lits
    → up_to_end literal_of line [] (front ++ codes "0" ∷ rest) ≡ Ok (lits, rest)
literals_again line lits front rest z =
    again literal_of SaysLiteral literal_said literal_read refl line [] lits front rest z

deleted_again : (line : ℕ) (ids : List ℕ) (front rest : List (List ℕ)) → AllZip SaysDeleted front ids
    → up_to_end deleted_of line [] (front ++ codes "0" ∷ rest) ≡ Ok (ids, rest)
deleted_again line ids front rest z =
    again deleted_of SaysDeleted deleted_said deleted_read refl line [] ids front rest z

-- ---- a step

all_ended : (line : ℕ) (step made : Step) (ws : List (List ℕ)) → ended line made ws ≡ Ok step
    → (ws ≡ []) × (made ≡ step)
all_ended line step made [] e = (refl, ok_is made step e)
all_ended line step made (w ∷ ws) e = absurd (err_ok (Literal line) step e)

-- the words behind an id say the rest of a step
abbrev SaysRest : List ℕ → ℕ → List (List ℕ) → Step → Type 0
SaysRest w id ws step = SaysId w id → SaysStep (w ∷ ws) step

add_said : (line id : ℕ) (w : List ℕ) (ws : List (List ℕ)) (step : Step) → add_of line id ws ≡ Ok step
    → SaysRest w id ws step
add_said line id w ws step e s =
    let first = went (up_to_end literal_of line [] ws) (λ lits. and_then (up_to_end literal_of line [] lits.1)
    (λ hints. ended line (Add id lits.0 hints.0) hints.1)) step e in
    let second = went (up_to_end literal_of line [] first.0.1)
    (λ hints. ended line (Add id first.0.0 hints.0) hints.1) step first.2 in
    let last = all_ended line step (Add id first.0.0 second.0.0) second.0.1 second.2 in
    let lits = literals_taken line first.0.0 ws first.0.1 first.1 in
    let hints = literals_taken line second.0.0 first.0.1 second.0.1 second.1 in
    subst (SaysStep (w ∷ ws)) last.1 (record {
      id_word = w;
      lit_words = lits.front;
      hint_words = hints.front;
      words_are = ap (λ x. w ∷ x) (lits.words_are
          ∙ ap (λ x. lits.front ++ codes "0" ∷ x) (hints.words_are
          ∙ ap (λ x. hints.front ++ codes "0" ∷ x) last.0));
      id_is = s;
      lits_are = subst (λ xs. AllZip SaysLiteral lits.front xs) (sym lits.after_is) lits.zips;
      hints_are = subst (λ xs. AllZip SaysLiteral hints.front xs) (sym hints.after_is) hints.zips;
    })

delete_said : (line id : ℕ) (w : List ℕ) (ws : List (List ℕ)) (step : Step) → delete_of line id ws ≡ Ok step
    → SaysRest w id (codes "d" ∷ ws) step
delete_said line id w ws step e s =
    let first = went (up_to_end deleted_of line [] ws) (λ ids. ended line (Delete id ids.0) ids.1) step e in
    let last = all_ended line step (Delete id first.0.0) first.0.1 first.2 in
    let ids = deleted_taken line first.0.0 ws first.0.1 first.1 in
    subst (SaysStep (w ∷ codes "d" ∷ ws)) last.1 (record {
      id_word = w;
      deleted_words = ids.front;
      words_are = ap (λ x. w ∷ codes "d" ∷ x) (ids.words_are ∙ ap (λ x. ids.front ++ codes "0" ∷ x) last.0);
      id_is = s;
      ids_are = subst (λ xs. AllZip SaysDeleted ids.front xs) (sym ids.after_is) ids.zips;
    })

rest_said : (line id : ℕ) (w : List ℕ) (ws : List (List ℕ)) (step : Step) → behind_id line id ws ≡ Ok step
    → SaysRest w id ws step
rest_said line id w [] step e s = absurd (err_ok (Open line) step e)
rest_said line id w (v ∷ ws) step e s = by_test (is_delete v) refl e where
  by_test : (t : Bool) → is_delete v ≡ t → cond t (delete_of line id ws) (add_of line id (v ∷ ws)) ≡ Ok step
      → SaysStep (w ∷ v ∷ ws) step
  by_test true h k =
      let same : v ≡ codes "d" = (bytes_eq-Decides v (codes "d")).0 h in
      subst (λ x. SaysStep (w ∷ x ∷ ws) step) (sym same) (delete_said line id w ws step k s)
  by_test false h k = add_said line id w (v ∷ ws) step k s

step_said : (line : ℕ) (ws : List (List ℕ)) (step : Step) → step_of line ws ≡ Ok step → SaysStep ws step
step_said line [] step e = absurd (err_ok (Open line) step e)
step_said line (w ∷ ws) step e =
    let f = found line (short w) (λ id. behind_id line id ws) step e in
    rest_said line f.0 w ws step f.2 (id_said w f.0 f.1)

add_read : (line id : ℕ) (lits hints : List ℤ) (front behind : List (List ℕ)) → AllZip SaysLiteral front lits
    → AllZip SaysLiteral behind hints
    → add_of line id (front ++ codes "0" ∷ (behind ++ codes "0" ∷ [])) ≡ Ok (Add id lits hints)
add_read line id lits hints front behind y z =
    ap (λ r. and_then r (λ ls. and_then (up_to_end literal_of line [] ls.1)
    (λ hs. ended line (Add id ls.0 hs.0) hs.1))) (literals_again line lits front (behind ++ codes "0" ∷ []) y)
    ∙ ap (λ r. and_then r (λ hs. ended line (Add id lits hs.0) hs.1)) (literals_again line hints behind [] z)

no_delete : (w : List ℕ) (l : ℤ) → SaysLiteral w l → is_delete w ≡ false
no_delete w l s = elim (cases_Bool (is_delete w)) [
  | inl h ↦
      let same : w ≡ codes "d" = (bytes_eq-Decides w (codes "d")).0 h in
      let none : literal_of (codes "d") ≡ None = refl in
      absurd (none_some l (sym none ∙ ap literal_of (sym same) ∙ literal_read w l s))
  | inr h ↦ h
]

add_behind : (line id : ℕ) (lits : List ℤ) (front rest : List (List ℕ)) → AllZip SaysLiteral front lits
    → behind_id line id (front ++ codes "0" ∷ rest) ≡ add_of line id (front ++ codes "0" ∷ rest)
add_behind line id lits [] rest z = refl
add_behind line id [] (w ∷ ws) rest z = absurd z
add_behind line id (l ∷ ls) (w ∷ ws) rest z =
    ap (λ t. cond t (delete_of line id (ws ++ codes "0" ∷ rest)) (add_of line id (w ∷ (ws ++ codes "0" ∷ rest))))
    (no_delete w l z.0)

step_from : (line id : ℕ) (w : List ℕ) (ws : List (List ℕ)) → SaysId w id
    → step_of line (w ∷ ws) ≡ behind_id line id ws
step_from line id w ws s = ap (λ o. and_then (wanted line o) (λ i. behind_id line i ws)) (id_read w id s)

step_read : (line : ℕ) (ws : List (List ℕ)) (step : Step) → SaysStep ws step → step_of line ws ≡ Ok step
step_read line ws (Add id lits hints) s =
    ap (step_of line) s.words_are
    ∙ step_from line id s.id_word (s.lit_words ++ codes "0" ∷ (s.hint_words ++ codes "0" ∷ [])) s.id_is
    ∙ add_behind line id lits s.lit_words (s.hint_words ++ codes "0" ∷ []) s.lits_are
    ∙ add_read line id lits hints s.lit_words s.hint_words s.lits_are s.hints_are
step_read line ws (Delete id ids) s =
    ap (step_of line) s.words_are
    ∙ step_from line id s.id_word (codes "d" ∷ (s.deleted_words ++ codes "0" ∷ [])) s.id_is
    ∙ ap (λ r. and_then r (λ is. ended line (Delete id is.0) is.1))
    (deleted_again line ids s.deleted_words [] s.ids_are)

-- ---- lines

abbrev spoken : List (List ℕ) → List (List (List ℕ))
spoken ls = filter (λ ws. not (is_nil ws)) (map words ls)

-- the lines say steps, which came behind those before them
record Told (before after : List Step) (ls : List (List ℕ)) : Type 0 where
  steps : List Step
  after_is : after ≡ before ++ steps
  zips : AllZip SaysStep (spoken ls) steps

lines_said : (line : ℕ) (before after : List Step) (ls : List (List ℕ)) → with_lines line before ls ≡ Ok after
    → Told before after ls
lines_said line before after [] e =
    record { steps = []; after_is = sym (ok_is before after e) ∙ sym (append-nil before); zips = tt }
lines_said line before after (l ∷ ls) e =
    let w = went (with_line line before l) (λ more. with_lines (next_place line) more ls) after e in
    let r = lines_said (next_place line) w.0 after ls w.2 in
    let all = by_test (is_nil (words l)) w.0 w.1 r in
    record { steps = all.0; after_is = all.1; zips = all.2 } where
      by_test : (t : Bool) (middle : List Step)
          → cond t (Ok before) (and_then (step_of line (words l)) (λ s. Ok (before ++ s ∷ []))) ≡ Ok middle
          → Told middle after ls
          → (steps : List Step) × (after ≡ before ++ steps)
          × AllZip SaysStep (cond (not t) (words l ∷ spoken ls) (spoken ls)) steps
      by_test true middle k r =
          (r.steps, r.after_is ∙ ap (λ x. x ++ r.steps) (sym (ok_is before middle k)), r.zips)
      by_test false middle k r =
          let s = went (step_of line (words l)) (λ s. answer (before ++ s ∷ [])) middle k in (
            s.0 ∷ r.steps,
            r.after_is ∙ ap (λ x. x ++ r.steps) (sym (ok_is (before ++ s.0 ∷ []) middle s.2))
                ∙ append_assoc before (s.0 ∷ []) r.steps,
            (step_said line (words l) s.0 s.1, r.zips),
          )

lines_read : (line : ℕ) (before steps : List Step) (ls : List (List ℕ)) → AllZip SaysStep (spoken ls) steps
    → with_lines line before ls ≡ Ok (before ++ steps)
lines_read line before [] [] z = ap (λ x. Ok x) (sym (append-nil before))
lines_read line before (s ∷ ss) [] z = absurd z
lines_read line before steps (l ∷ ls) z =
    by_test (λ others all k. lines_read (next_place line) others all ls k) (is_nil (words l)) steps z where
      by_test : ((others all : List Step) → AllZip SaysStep (spoken ls) all
          → with_lines (next_place line) others ls ≡ Ok (others ++ all)) → (t : Bool) (all : List Step)
          → AllZip SaysStep (cond (not t) (words l ∷ spoken ls) (spoken ls)) all
          → and_then (cond t (Ok before) (and_then (step_of line (words l)) (λ s. Ok (before ++ s ∷ []))))
          (λ more. with_lines (next_place line) more ls) ≡ Ok (before ++ all)
      by_test more true all k = more before all k
      by_test more false [] k = absurd k
      by_test more false (s ∷ ss) k =
          ap (λ r. and_then (and_then r (λ x. answer (before ++ x ∷ [])))
          (λ others. with_lines (next_place line) others ls)) (step_read line (words l) s k.0)
          ∙ more (before ++ s ∷ []) ss k.1 ∙ ap (λ x. Ok x) (append_assoc before (s ∷ []) ss)

pub steps_law : (bytes : List ℕ) (steps : List Step) → (steps_of bytes ≡ Ok steps) ↔ SaysSteps bytes steps
steps_law bytes steps = (
  λ e.
      let t = lines_said 1 [] steps (lines bytes) e in
      subst (λ xs. AllZip SaysStep (said_lines bytes) xs) (sym t.after_is) t.zips,
  λ z. lines_read 1 [] steps (lines bytes) z,
)
