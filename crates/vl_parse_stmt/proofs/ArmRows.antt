-- What is read of the arms of a case, row by row.
use Rattle.std.proofs.Common.{◌≡◌, ℕ, zero, suc, ◌+◌, ◌-◌, ◌≤◌, ◌<◌, ◌==◌, Bool, true, false, List, [], ◌∷◌, ◌++◌}
use Rattle.std.proofs.Common.{length, refl, sym, ap, ◌∙◌, subst, arith}
use Rattle.std.specs.Prelude.{Result, Ok, Err, Option, Some, None, ◌&&◌}
use Rattle.fv_text.specs.declared.kind.Kind.{Kind}
use Rattle.fv_text.specs.declared.kind.Kind.TheVariants as k
use Rattle.fv_text.specs.declared.keyword.Keyword.{Keyword}
use Rattle.fv_text.specs.declared.keyword.Keyword.TheVariants as w
use Rattle.fv_text.specs.declared.number.Number.{Number}
use Rattle.fv_text.specs.declared.symbol.Symbol.{Symbol}
use Rattle.fv_text.specs.declared.symbol.Symbol.TheVariants as s
use Rattle.vl_tree.specs.declared.stmt.CaseKind.{CaseKind}
use Rattle.vl_tree.specs.declared.stmt.CaseKind.TheVariants as c
use Rattle.vl_parse_grammar.specs.Machine as machine
use Rattle.vl_parse_grammar.specs.Machine.{Row, Move, take, pop, bad, syntax, deep, placed, left, then}
use Rattle.vl_parse_grammar.specs.Grammar.{Rule, Outcome, expand, ends, read, sign, expr, plain, operand, more, stmt}
use Rattle.vl_parse_grammar.specs.Grammar.{first_arm, arms, label, labels, behind_default, on_label, on_arm, on_operand}
use Rattle.vl_parse_grammar.specs.Grammar.{arm_with, inside, on_casez_number, if_known}
use Rattle.vl_parse_grammar.proofs.InParts as parts
use Rattle.vl_parse_cursor.specs.declared.lead.Lead.{Lead}
use Rattle.vl_parse_cursor.specs.declared.lead.Lead.TheVariants as lead
use Rattle.vl_parse_cursor.specs.Lead.{lead_of}
use Rattle.vl_parse_stmt.specs.Arms.{wild_if, wild_label, is_something, begins, begins_label}
use Rattle.vl_parse_cursor.specs.Next.{IsOther}
use Rattle.vl_parse_cursor.specs.Parts.{row_read, row_deep, row_bad, same_row, fits_true, fits_false}
use Rattle.vl_parse_expr.proofs.ExprRows.{by_lead, lead_made}

number_wild : (b d : Bool) (n m : Number) → n.wild == 0 ≡ b → n.unknown == 0 ≡ d → wild_if b d n ≡ Some m
    → on_label c.Casez (k.Number n) ≡ take 0 []
number_wild false true n m e f h = rw e (rw f refl)
number_wild false false n m e f h = cc
number_wild true d n m e f h = cc

label_taken : (kind : CaseKind) (t : Kind) (m : Number) → wild_label kind t ≡ Some m → on_label kind t ≡ take 0 []
label_taken c.Casez (k.Number n) m h = number_wild (n.wild == 0) (n.unknown == 0) n m refl refl h
label_taken kind t m h = cc

number_plain : (b d : Bool) (n : Number) → n.wild == 0 ≡ b → n.unknown == 0 ≡ d → wild_if b d n ≡ None
    → on_label c.Casez (k.Number n) ≡ on_operand plain 0 0 (k.Number n)
number_plain true d n e f h = ap (λ b. on_casez_number b n) e
number_plain false true n e f h = cc
number_plain false false n e f h =
    ap (λ b. on_casez_number b n) e ∙ ap (λ b. if_known b (take 0 [])) f
    ∙ sym (ap (λ b. if_known (b && n.unknown == 0) (take 0 ((more plain 0 0, 0) ∷ []))) e)

label_plain : (kind : CaseKind) (t : Kind) → wild_label kind t ≡ None → on_label kind t ≡ on_operand plain 0 0 t
label_plain c.Casez (k.Number n) h = number_plain (n.wild == 0) (n.unknown == 0) n refl refl h
label_plain kind t h = refl

pub label_wild : (kind : CaseKind) (n : ℕ) (t : Kind) (ts : List Kind) (m : Number) → wild_label kind t ≡ Some m
    → read (label kind) n (t ∷ ts) ≡ Ok ts
label_wild kind n t ts m h = row_read (label kind) n t ts 0 [] (label_taken kind t m h) (omega arith)

pub label_expr : (kind : CaseKind) (n : ℕ) (t : Kind) (ts : List Kind) → wild_label kind t ≡ None
    → read (label kind) n (t ∷ ts) ≡ read expr n (t ∷ ts)
label_expr kind n t ts h = same_row (label kind) expr n t ts (label_plain kind t h)

pub label_none : (kind : CaseKind) (n : ℕ) → read (label kind) n [] ≡ Err (syntax 0)
unfolding read machine.reads
label_none kind n = refl

pub labels_comma : (kind : CaseKind) (n : ℕ) (ts : List Kind)
    → read (labels kind) n (k.Symbol s.Comma ∷ ts) ≡ then (read (label kind) n ts) (λ r. read (labels kind) n r)
labels_comma kind n ts = row_read (labels kind) n (k.Symbol s.Comma) ts 0 _ refl (omega arith)

pub labels_colon : (kind : CaseKind) (n : ℕ) (ts : List Kind)
    → read (labels kind) n (k.Symbol s.Colon ∷ ts) ≡ read stmt n ts
labels_colon kind n ts = row_read (labels kind) n (k.Symbol s.Colon) ts 0 _ refl (omega arith)

pub labels_wrong : (kind : CaseKind) (n : ℕ) (ts : List Kind) → IsOther (k.Symbol s.Comma) ts
    → IsOther (k.Symbol s.Colon) ts → read (labels kind) n ts ≡ Err (syntax (length ts))
unfolding read machine.reads
labels_wrong kind n [] h i = refl
labels_wrong kind n (k.Symbol s.Comma ∷ ts) h i = absurd (h refl)
labels_wrong kind n (k.Symbol s.Colon ∷ ts) h i = absurd (i refl)
labels_wrong kind n (t ∷ ts) h i = refl

-- arms

pub arms_end : (kind : CaseKind) (d : Bool) (n : ℕ) (ts : List Kind)
    → read (arms kind d) n (k.Keyword w.Endcase ∷ ts) ≡ Ok ts
arms_end kind d n ts = row_read (arms kind d) n (k.Keyword w.Endcase) ts 0 [] refl (omega arith)

pub arms_default : (kind : CaseKind) (n : ℕ) (ts : List Kind) → 0 < n
    → read (arms kind false) n (k.Keyword w.Default ∷ ts) ≡
    then (read behind_default (n - 1) ts) (λ r. read (arms kind true) n r)
arms_default kind n ts l = row_read (arms kind false) n (k.Keyword w.Default) ts 1 _ refl l

pub arms_default_deep : (kind : CaseKind) (n : ℕ) (ts : List Kind) → n ≡ 0
    → read (arms kind false) n (k.Keyword w.Default ∷ ts) ≡ Err (deep (suc (length ts)))
arms_default_deep kind n ts l = row_deep (arms kind false) n (k.Keyword w.Default) ts 1 _ refl (omega (arith, l))

pub arms_twice : (kind : CaseKind) (n : ℕ) (ts : List Kind)
    → read (arms kind true) n (k.Keyword w.Default ∷ ts) ≡ Err (syntax (suc (length ts)))
arms_twice kind n ts = row_bad (arms kind true) n (k.Keyword w.Default) ts refl

pub arms_none : (kind : CaseKind) (d : Bool) (n : ℕ) → read (arms kind d) n [] ≡ Err (syntax 0)
unfolding read machine.reads
arms_none kind d n = refl

-- a keyword begins no label
no_word : (kind : CaseKind) (found : Keyword) → begins_label kind (k.Keyword found) ≡ true → ⊥
no_word c.Case found h = cc
no_word c.Casez found h = cc

arm_made : (kind : CaseKind) (d : Bool) (t : Kind) → begins_label kind t ≡ true
    → expand (arms kind d) t ≡ arm_with kind d (on_label kind t)
arm_made kind d (k.Keyword found) h = absurd (no_word kind found h)
arm_made kind d t h = refl

placed_inside : (n : ℕ) (xs k : Row Rule) → 0 < n → placed n (inside xs ++ k) [] ≡ placed (n - 1) xs [] ++ placed n k []
placed_inside n [] k l = refl
placed_inside zero (x ∷ xs) k l = absurd (omega (arith, l))
placed_inside (suc n) (x ∷ xs) k l = (let e : suc n - 1 ≡ n = omega arith in
    ap (λ r. (x.0, left x.1 n) ∷ r) (placed_inside (suc n) xs k l)
    ∙ ap (λ m. (x.0, left x.1 m) ∷ placed (suc n - 1) xs [] ++ placed (suc n) k []) (sym e))

arm_turn : (kind : CaseKind) (d : Bool) (n : ℕ) (t : Kind) (ts : List Kind) (o : ℕ) (xs : Row Rule)
    → on_label kind t ≡ take o xs
    → expand (arms kind d) t ≡ take (suc o) (inside xs ++ (labels kind, 1) ∷ (arms kind d, 0) ∷ []) → 0 < n
    → read (arms kind d) n (t ∷ ts) ≡ then (read (label kind) (n - 1) (t ∷ ts))
    (λ r. then (read (labels kind) (n - 1) r) (λ q. read (arms kind d) n q))
unfolding read
arm_turn kind d n t ts o xs e f l = by_fit (machine.fits o (n - 1)) refl
  where
    by_fit : (b : Bool) → machine.fits o (n - 1) ≡ b
        → machine.reads expand ends ((arms kind d, n) ∷ []) (t ∷ ts) ≡
        then (machine.reads expand ends ((label kind, n - 1) ∷ []) (t ∷ ts))
        (λ r. then (machine.reads expand ends ((labels kind, n - 1) ∷ []) r)
        (λ q. machine.reads expand ends ((arms kind d, n) ∷ []) q))
    by_fit true g =
        parts.take_row expand ends (arms kind d) n [] t ts (suc o)
        (inside xs ++ (labels kind, 1) ∷ (arms kind d, 0) ∷ []) f (omega (arith, fits_true o (n - 1) g, l))
        ∙ ap (λ j. machine.reads expand ends j ts) (placed_inside n xs ((labels kind, 1) ∷ (arms kind d, 0) ∷ []) l)
        ∙ parts.in_parts expand ends (placed (n - 1) xs []) (placed n ((labels kind, 1) ∷ (arms kind d, 0) ∷ []) []) ts
        ∙ ap (λ a. then a (λ r. machine.reads expand ends
        (placed n ((labels kind, 1) ∷ (arms kind d, 0) ∷ []) []) r))
        (sym (parts.take_row expand ends (label kind) (n - 1) [] t ts o xs e (fits_true o (n - 1) g)))
        ∙ ap (λ f. then (machine.reads expand ends ((label kind, n - 1) ∷ []) (t ∷ ts)) f) (λ i r. behind_labels r i)
      where
        behind_labels : (r : List Kind) → machine.reads expand ends
            (placed n ((labels kind, 1) ∷ (arms kind d, 0) ∷ []) []) r
            ≡ then (machine.reads expand ends ((labels kind, n - 1) ∷ []) r)
            (λ q. machine.reads expand ends ((arms kind d, n) ∷ []) q)
        behind_labels r = parts.in_parts expand ends ((labels kind, left 1 n) ∷ []) ((arms kind d, n) ∷ []) r
            ∙ ap (λ m. then (machine.reads expand ends ((labels kind, m) ∷ []) r)
            (λ q. machine.reads expand ends ((arms kind d, n) ∷ []) q)) (parts.left_less 1 n)
    by_fit false g =
        parts.take_deep expand ends (arms kind d) n [] t ts (suc o)
        (inside xs ++ (labels kind, 1) ∷ (arms kind d, 0) ∷ []) f (omega (arith, fits_false o (n - 1) g, l))
        ∙ ap (λ a. then a (λ r. then (machine.reads expand ends ((labels kind, n - 1) ∷ []) r)
        (λ q. machine.reads expand ends ((arms kind d, n) ∷ []) q)))
        (sym (parts.take_deep expand ends (label kind) (n - 1) [] t ts o xs e (fits_false o (n - 1) g)))

-- each move at a token that begins a label takes it
label_takes : (kind : CaseKind) (t : Kind) → begins_label kind t ≡ true → (o : ℕ) × (xs : Row Rule)
    × (on_label kind t ≡ take o xs)
label_takes kind t h = by_wild (wild_label kind t) refl h
  where
    by_wild : (found : Option Number) → wild_label kind t ≡ found → begins found (lead_of t) ≡ true → (o : ℕ)
        × (xs : Row Rule) × (on_label kind t ≡ take o xs)
    by_wild (Some n) e h = (0, [], label_taken kind t n e)
    by_wild None e h = by_first (lead_of t) refl h
      where
        by_first : (l : Lead) → lead_of t ≡ l → is_something l ≡ true → (o : ℕ) × (xs : Row Rule)
            × (on_label kind t ≡ take o xs)
        by_first (lead.Number n) f i = (_, _, label_plain kind t e ∙ lead_made plain 0 0 t ∙ ap (by_lead plain 0 0) f)
        by_first lead.Name f i = (_, _, label_plain kind t e ∙ lead_made plain 0 0 t ∙ ap (by_lead plain 0 0) f)
        by_first lead.Paren f i = (_, _, label_plain kind t e ∙ lead_made plain 0 0 t ∙ ap (by_lead plain 0 0) f)
        by_first lead.Brace f i = (_, _, label_plain kind t e ∙ lead_made plain 0 0 t ∙ ap (by_lead plain 0 0) f)
        by_first (lead.Unary op) f i = (_, _, label_plain kind t e ∙ lead_made plain 0 0 t ∙ ap (by_lead plain 0 0) f)
        by_first (lead.Cast to) f i = (_, _, label_plain kind t e ∙ lead_made plain 0 0 t ∙ ap (by_lead plain 0 0) f)
        by_first lead.Nothing f i = cc

arm_takes : (kind : CaseKind) (d : Bool) (t : Kind) (o : ℕ) (xs : Row Rule) → begins_label kind t ≡ true
    → on_label kind t ≡ take o xs
    → expand (arms kind d) t ≡ take (suc o) (inside xs ++ (labels kind, 1) ∷ (arms kind d, 0) ∷ [])
arm_takes kind d t o xs h e = arm_made kind d t h ∙ ap (arm_with kind d) e

pub arms_labels : (kind : CaseKind) (d : Bool) (n : ℕ) (t : Kind) (ts : List Kind) → begins_label kind t ≡ true → 0 < n
    → read (arms kind d) n (t ∷ ts) ≡ then (read (label kind) (n - 1) (t ∷ ts))
    (λ r. then (read (labels kind) (n - 1) r) (λ q. read (arms kind d) n q))
arms_labels kind d n t ts h l =
    (let (o, xs, e) = label_takes kind t h in arm_turn kind d n t ts o xs e (arm_takes kind d t o xs h e) l)

pub arms_deep : (kind : CaseKind) (d : Bool) (n : ℕ) (t : Kind) (ts : List Kind) → begins_label kind t ≡ true → n ≡ 0
    → read (arms kind d) n (t ∷ ts) ≡ Err (deep (suc (length ts)))
arms_deep kind d n t ts h l = (let (o, xs, e) = label_takes kind t h
    in row_deep (arms kind d) n t ts (suc o) _ (arm_takes kind d t o xs h e) (omega (arith, l)))

label_bad : (kind : CaseKind) (t : Kind) → begins_label kind t ≡ false → on_label kind t ≡ bad
label_bad kind t h = by_wild (wild_label kind t) refl h
  where
    by_wild : (found : Option Number) → wild_label kind t ≡ found → begins found (lead_of t) ≡ false
        → on_label kind t ≡ bad
    by_wild (Some n) e h = cc
    by_wild None e h = by_first (lead_of t) refl h
      where
        by_first : (l : Lead) → lead_of t ≡ l → is_something l ≡ false → on_label kind t ≡ bad
        by_first lead.Nothing f i = label_plain kind t e ∙ lead_made plain 0 0 t ∙ ap (by_lead plain 0 0) f
        by_first (lead.Number n) f i = cc
        by_first lead.Name f i = cc
        by_first lead.Paren f i = cc
        by_first lead.Brace f i = cc
        by_first (lead.Unary op) f i = cc
        by_first (lead.Cast to) f i = cc

arms_other : (kind : CaseKind) (d : Bool) (t : Kind) → begins_label kind t ≡ false → (t ≡ k.Keyword w.Endcase → ⊥)
    → (t ≡ k.Keyword w.Default → ⊥)
    → expand (arms kind d) t ≡ bad
arms_other kind d (k.Keyword w.Endcase) h i j = absurd (i refl)
arms_other kind d (k.Keyword w.Default) h i j = absurd (j refl)
arms_other kind true (k.Keyword found) h i j = refl
arms_other kind false (k.Keyword found) h i j = refl
arms_other kind d t h i j = ap (arm_with kind d) (label_bad kind t h)

pub arms_wrong : (kind : CaseKind) (d : Bool) (n : ℕ) (t : Kind) (ts : List Kind) → begins_label kind t ≡ false
    → IsOther (k.Keyword w.Endcase) (t ∷ ts)
    → IsOther (k.Keyword w.Default) (t ∷ ts) → read (arms kind d) n (t ∷ ts) ≡ Err (syntax (suc (length ts)))
arms_wrong kind d n t ts h i j = row_bad (arms kind d) n t ts (arms_other kind d t h i j)

first_on : (kind : CaseKind) (t : Kind) → (t ≡ k.Keyword w.Endcase → ⊥)
    → expand (first_arm kind) t ≡ expand (arms kind false) t
first_on kind (k.Keyword w.Endcase) h = absurd (h refl)
first_on kind (k.Keyword found) h = refl
first_on kind t h = refl

pub first_arms : (kind : CaseKind) (n : ℕ) (ts : List Kind) → IsOther (k.Keyword w.Endcase) ts
    → read (first_arm kind) n ts ≡ read (arms kind false) n ts
unfolding read machine.reads
first_arms kind n [] h = refl
first_arms kind n (t ∷ ts) h = same_row (first_arm kind) (arms kind false) n t ts (first_on kind t h)

pub first_arm_wrong : (kind : CaseKind) (n : ℕ) (ts : List Kind)
    → read (first_arm kind) n (k.Keyword w.Endcase ∷ ts) ≡ Err (syntax (suc (length ts)))
first_arm_wrong kind n ts = row_bad (first_arm kind) n (k.Keyword w.Endcase) ts refl

pub ruleset of_label = (label_wild, label_expr, label_none)

pub ruleset of_labels = (labels_comma, labels_colon, labels_wrong)

pub ruleset of_arms = (arms_end, first_arms, first_arm_wrong, arms_none)

pub ruleset of_arm = (arms_default, arms_default_deep, arms_twice, arms_labels, arms_deep, arms_wrong, arms_none)
