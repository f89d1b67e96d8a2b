-- A list of tokens has one faulty token, and a run answers it unless a construct too many is open before it.
use Rattle.std.proofs.Common.{◌≡◌, ℕ, suc, List, [], ◌∷◌, ◌++◌, length, refl, sym, ap, ◌∙◌, subst}
use Rattle.std.specs.Prelude.{Ok, Err}
use Rattle.std.proofs.lemmas.List.{append_assoc}
use Rattle.fv_text.specs.declared.kind.Kind.{Kind}
use Rattle.fv_text.specs.declared.token.Token.{Token}
use Rattle.vl_tree.specs.Phrase.{kinds_of}
use Rattle.vl_parse_grammar.specs.Machine.{syntax, deep}
use Rattle.vl_parse_grammar.specs.Grammar as grammar
use Rattle.vl_parse_grammar.specs.Grammar.{start}
use Rattle.vl_parse_grammar.specs.Depth.{IsTooDeep, unless_too_deep}
use Rattle.vl_parse_grammar.specs.Text.{IsText, IsFaulty}
use Rattle.vl_parse_grammar.proofs.Onto.{all_of}
use Rattle.vl_parse_grammar.proofs.Measured.{Ran}
use Rattle.vl_parse_grammar.proofs.FirstFault.{faulty, whole}
use Rattle.vl_parse_grammar.proofs.TooDeep.{text_run, same_stop, too_deep}

-- one of two places in a list is earlier, and the tokens before the other go on from it
record Earlier (before behind other : List Kind) : Type 0 where
  kind : Kind
  rest : List Kind
  gap : List Kind
  first : behind ≡ kind ∷ rest
  others : other ≡ before ++ kind ∷ gap

data Places (m n o q : List Kind) : Type 0 where
  same : length n ≡ length q → Places m n o q
  before : Earlier m n o → Places m n o q
  after : Earlier o q m → Places m n o q

head_same : (x y : Kind) (xs ys : List Kind) → x ∷ xs ≡ y ∷ ys → x ≡ y
head_same x y xs ys h = cc

tail_same : (x y : Kind) (xs ys : List Kind) → x ∷ xs ≡ y ∷ ys → xs ≡ ys
tail_same x y xs ys h = cc

places : (m n o q : List Kind) → m ++ n ≡ o ++ q → Places m n o q
places [] n [] q h = same (ap length h)
places [] n (x ∷ o) q h = before (record { kind = x; rest = o ++ q; gap = o; first = h; others = refl })
places (x ∷ m) n [] q h = after (record { kind = x; rest = m ++ n; gap = m; first = sym h; others = refl })
places (x ∷ m) n (y ∷ o) q h =
    by_tail (head_same x y (m ++ n) (o ++ q) h) (places m n o q (tail_same x y (m ++ n) (o ++ q) h))
  where
    by_tail : x ≡ y → Places m n o q → Places (x ∷ m) n (y ∷ o) q
    by_tail e (same f) = same f
    by_tail e (before f) =
        before (record {
          kind = f.kind;
          rest = f.rest;
          gap = f.gap;
          first = f.first;
          others = λ i. sym e i ∷ f.others i;
        })
    by_tail e (after f) =
        after (record { kind = f.kind; rest = f.rest; gap = f.gap; first = f.first; others = λ i. e i ∷ f.others i })

-- an earlier token is not faulty
clash : {A : Type 0} (ks : List Kind) (l m : ℕ) (x : IsFaulty ks l) (y : IsFaulty ks m)
    → Earlier x.before x.behind y.before → A
clash ks l m x y f =
    absurd (x.no_token f.kind f.rest (f.gap ++ y.rest) f.first
    (subst IsText (ap (λ r. r ++ y.rest) f.others ∙ append_assoc x.before (f.kind ∷ f.gap) y.rest) y.goes_on))

pub one_fault : (ks : List Kind) (l m : ℕ) → IsFaulty ks l → IsFaulty ks m → l ≡ m
one_fault ks l m x y = by_places (places x.before x.behind y.before y.behind (sym x.same ∙ y.same))
  where
    by_places : Places x.before x.behind y.before y.behind → l ≡ m
    by_places (same f) = sym x.long ∙ f ∙ y.long
    by_places (before f) = clash ks l m x y f
    by_places (after f) = clash ks m l y x f

-- a list with a faulty token is no text
no_text : {A : Type 0} (ks : List Kind) (l : ℕ) → IsFaulty ks l → IsText ks → A
no_text ks l x t = absurd (by_rest x.behind refl)
  where
    by_rest : (behind : List Kind) → x.behind ≡ behind → ⊥
    by_rest [] e = x.no_end e (subst IsText (x.same ∙ ap (λ r. x.before ++ r) e ∙ all_of x.before) t)
    by_rest (kind ∷ rest) e = x.no_token kind rest rest e (subst IsText (x.same ∙ ap (λ r. x.before ++ r) e) t)

pub only_syntax : (ts : List Token) (l : ℕ) → IsFaulty (kinds_of ts) l → ((m : ℕ) → IsTooDeep (kinds_of ts) m → ⊥)
    → grammar.run (kinds_of ts) ≡ Err (syntax l)
only_syntax ts l x shallow = by_run (grammar.run (kinds_of ts)) refl
  where
    by_run : (o : Ran) → grammar.run (kinds_of ts) ≡ o → o ≡ Err (syntax l)
    by_run (Ok u) e = no_text (kinds_of ts) l x (whole ts e)
    by_run (Err (syntax m)) e = ap (λ n. Err (syntax n)) (one_fault (kinds_of ts) m l (faulty ts m e) x)
    by_run (Err (deep m)) e = absurd (shallow m (too_deep ts m e))

pub only_deep : (ks : List Kind) (l : ℕ) → IsTooDeep ks l → grammar.run ks ≡ Err (deep l)
only_deep ks l x =
    let here : grammar.run (x.before ++ x.token ∷ x.rest) ≡ Err (deep (suc (length x.rest))) =
    ap grammar.run (sym x.spelled) ∙ text_run x.tree x.formed ∙ ap unless_too_deep x.first in
    ap grammar.run x.same ∙ same_stop start x.before x.token x.rest x.behind here ∙ ap (λ m. Err (deep m)) x.long
