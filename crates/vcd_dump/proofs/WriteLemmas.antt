-- The lines of a trace, one name or one cycle more.
use Rattle.std.proofs.Common.{◌≡◌, ℕ, zero, suc, ◌+◌, ◌<◌, ◌≤◌, List, [], ◌∷◌, ◌++◌, length, get_or, drop, refl, ap}
use Rattle.std.proofs.Common.{sym, subst, ◌∙◌, append_assoc, arith}
use Rattle.std.specs.List.{AllByRecursion}
use Rattle.std.proofs.lemmas.List.{at_drop_more, at_drop_all, append-nil}
use Rattle.std.proofs.lemmas.Grind.{flat_map-append}
use Rattle.fv_text.specs.declared.trace.TraceName.{TraceName}
use Rattle.vcd_dump.specs.Vcd.{AreValues, with_end, text_of, name_line, name_lines, value_line, value_lines}
use Rattle.vcd_dump.specs.Vcd.{change_line, change_lines, time_line, later_lines}

-- in each cycle there are as many values as names
pub as_many : (ns : List TraceName) (vs : List ℕ) → AreValues ns vs → length vs ≡ length ns
as_many [] [] a = refl
as_many [] (v ∷ vs) a = absurd a
as_many (n ∷ ns) [] a = absurd a
as_many (n ∷ ns) (v ∷ vs) a = let e : length vs ≡ length ns = as_many ns vs a.1 in ap suc e

-- a fact of all is one of each
pub at_each : {X : Type 0} (P : X → Type 0) (xs : List X) (i : ℕ) (d : X) → AllByRecursion P xs → i < length xs
    → P (get_or xs i d)
at_each P [] i d a l = absurd (omega (arith, l))
at_each P (x ∷ xs) zero d a l = a.0
at_each P (x ∷ xs) (suc i) d a l = at_each P xs i d a.1 (omega (arith, l))

-- one line or more, and the lines behind them
pub text_of-append : (xs ys : List (List ℕ)) → text_of (xs ++ ys) ≡ text_of xs ++ text_of ys
text_of-append xs ys = flat_map-append with_end xs ys

-- what was put with what is left, where lines of what is left are put
shift : (before part rest after left all : List ℕ) → left ≡ part ++ rest → before ++ left ≡ all
    → after ≡ before ++ part → after ++ rest ≡ all
shift before part rest after left all e p q =
    ap (λ x. x ++ rest) q ∙ append_assoc before part rest ∙ ap (λ x. before ++ x) (sym e) ∙ p

pub names_step : (before after all : List ℕ) (i : ℕ) (ns : List TraceName) (n : TraceName) → i < length ns
    → n ≡ get_or ns i n → before ++ text_of (name_lines i (drop i ns)) ≡ all
    → after ≡ before ++ with_end (name_line i n) → after ++ text_of (name_lines (i + 1) (drop (i + 1) ns)) ≡ all
names_step before after all i ns n l e p q = shift before (with_end (name_line i n))
    (text_of (name_lines (i + 1) (drop (i + 1) ns))) after (text_of (name_lines i (drop i ns))) all
    (at_drop_more (λ x. text_of (name_lines i x)) ns i n l
    ∙ ap (λ x. text_of (name_lines i (x ∷ drop (i + 1) ns))) (sym e)) p q

pub values_step : (before after all : List ℕ) (i : ℕ) (ns : List TraceName) (n : TraceName) (vs : List ℕ)
    → i < length ns → n ≡ get_or ns i n → AreValues ns vs
    → before ++ text_of (value_lines i (drop i ns) (drop i vs)) ≡ all
    → after ≡ before ++ with_end (value_line i n (get_or vs i 0))
    → after ++ text_of (value_lines (i + 1) (drop (i + 1) ns) (drop (i + 1) vs)) ≡ all
values_step before after all i ns n vs l e a p q = shift before (with_end (value_line i n (get_or vs i 0)))
    (text_of (value_lines (i + 1) (drop (i + 1) ns) (drop (i + 1) vs))) after
    (text_of (value_lines i (drop i ns) (drop i vs))) all
    (at_drop_more (λ x. text_of (value_lines i x (drop i vs))) ns i n l
    ∙ ap (λ x. text_of (value_lines i (x ∷ drop (i + 1) ns) (drop i vs))) (sym e)
    ∙ at_drop_more (λ x. text_of (value_lines i (n ∷ drop (i + 1) ns) x)) vs i 0
    (subst (λ k. i < k) (sym (as_many ns vs a)) l)) p q

pub changes_step : (before after all : List ℕ) (i : ℕ) (ns : List TraceName) (n : TraceName) (bs vs : List ℕ)
    → i < length ns → n ≡ get_or ns i n → AreValues ns bs → AreValues ns vs
    → before ++ text_of (change_lines i (drop i ns) (drop i bs) (drop i vs)) ≡ all
    → after ≡ before ++ text_of (change_line i n (get_or bs i 0) (get_or vs i 0))
    → after ++ text_of (change_lines (i + 1) (drop (i + 1) ns) (drop (i + 1) bs) (drop (i + 1) vs)) ≡ all
changes_step before after all i ns n bs vs l e a b p q = shift before
    (text_of (change_line i n (get_or bs i 0) (get_or vs i 0)))
    (text_of (change_lines (i + 1) (drop (i + 1) ns) (drop (i + 1) bs) (drop (i + 1) vs))) after
    (text_of (change_lines i (drop i ns) (drop i bs) (drop i vs))) all
    (at_drop_more (λ x. text_of (change_lines i x (drop i bs) (drop i vs))) ns i n l
    ∙ ap (λ x. text_of (change_lines i (x ∷ drop (i + 1) ns) (drop i bs) (drop i vs))) (sym e)
    ∙ at_drop_more (λ x. text_of (change_lines i (n ∷ drop (i + 1) ns) x (drop i vs))) bs i 0
    (subst (λ k. i < k) (sym (as_many ns bs a)) l)
    ∙ at_drop_more (λ x. text_of (change_lines i (n ∷ drop (i + 1) ns) (get_or bs i 0 ∷ drop (i + 1) bs) x)) vs i 0
    (subst (λ k. i < k) (sym (as_many ns vs b)) l)
    ∙ text_of-append (change_line i n (get_or bs i 0) (get_or vs i 0))
    (change_lines (i + 1) (drop (i + 1) ns) (drop (i + 1) bs) (drop (i + 1) vs))) p q

pub later_step : (before mid after all : List ℕ) (i : ℕ) (ns : List TraceName) (bs vs : List ℕ)
    (cycles : List (List ℕ)) → i < length cycles → vs ≡ get_or cycles i vs
    → before ++ text_of (later_lines ns (i + 1) bs (drop i cycles)) ≡ all
    → mid ≡ before ++ with_end (time_line (i + 1)) → after ≡ mid ++ text_of (change_lines 0 ns bs vs)
    → after ++ text_of (later_lines ns (i + 1 + 1) vs (drop (i + 1) cycles)) ≡ all
later_step before mid after all i ns bs vs cycles l e p q r =
    let rest = later_lines ns (i + 1 + 1) vs (drop (i + 1) cycles) in
    shift mid (text_of (change_lines 0 ns bs vs)) (text_of rest) after (text_of (change_lines 0 ns bs vs ++ rest)) all
    (text_of-append (change_lines 0 ns bs vs) rest)
    (shift before (with_end (time_line (i + 1))) (text_of (change_lines 0 ns bs vs ++ rest)) mid
    (text_of (later_lines ns (i + 1) bs (drop i cycles))) all
    (at_drop_more (λ x. text_of (later_lines ns (i + 1) bs x)) cycles i vs l
    ∙ ap (λ x. text_of (later_lines ns (i + 1) bs (x ∷ drop (i + 1) cycles))) (sym e)) p q)
    r

-- where nothing is left, all was put
pub names_end : (before all : List ℕ) (i : ℕ) (ns : List TraceName) → length ns ≤ i
    → before ++ text_of (name_lines i (drop i ns)) ≡ all → before ≡ all
names_end before all i ns l p =
    sym (append-nil before) ∙ ap (λ x. before ++ x) (sym (at_drop_all (λ x. text_of (name_lines i x)) ns i l)) ∙ p

pub values_end : (before all : List ℕ) (i : ℕ) (ns : List TraceName) (vs : List ℕ) → length ns ≤ i
    → before ++ text_of (value_lines i (drop i ns) (drop i vs)) ≡ all → before ≡ all
values_end before all i ns vs l p = sym (append-nil before)
    ∙ ap (λ x. before ++ x) (sym (at_drop_all (λ x. text_of (value_lines i x (drop i vs))) ns i l)) ∙ p

pub changes_end : (before all : List ℕ) (i : ℕ) (ns : List TraceName) (bs vs : List ℕ) → length ns ≤ i
    → before ++ text_of (change_lines i (drop i ns) (drop i bs) (drop i vs)) ≡ all → before ≡ all
changes_end before all i ns bs vs l p = sym (append-nil before)
    ∙ ap (λ x. before ++ x) (sym (at_drop_all (λ x. text_of (change_lines i x (drop i bs) (drop i vs))) ns i l)) ∙ p

pub later_end : (before after all : List ℕ) (i : ℕ) (ns : List TraceName) (bs : List ℕ) (cycles : List (List ℕ))
    → length cycles ≤ i → before ++ text_of (later_lines ns (i + 1) bs (drop i cycles)) ≡ all
    → after ≡ before ++ with_end (time_line (i + 1)) → after ≡ all
later_end before after all i ns bs cycles l p q = q
    ∙ ap (λ x. before ++ x) (sym (append-nil (with_end (time_line (i + 1))))
    ∙ sym (at_drop_all (λ x. text_of (later_lines ns (i + 1) bs x)) cycles i l)) ∙ p

-- a line
pub line_put : (before after line : List ℕ) → after ≡ before ++ with_end line → after ≡ before ++ text_of (line ∷ [])
line_put before after line p = p ∙ ap (λ x. before ++ x) (sym (append-nil (with_end line)))

-- lines, and lines behind them
pub lines_put : (before mid after : List ℕ) (xs ys : List (List ℕ)) → mid ≡ before ++ text_of xs
    → after ≡ mid ++ text_of ys → after ≡ before ++ text_of (xs ++ ys)
lines_put before mid after xs ys p q = q ∙ ap (λ x. x ++ text_of ys) p
    ∙ append_assoc before (text_of xs) (text_of ys) ∙ ap (λ x. before ++ x) (sym (text_of-append xs ys))
