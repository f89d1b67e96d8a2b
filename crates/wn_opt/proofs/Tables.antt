-- Nodes are the same where their keys are, and what a table has of a list with one more node.
use Rattle.std.specs.Prelude.{◌≡◌, refl, ℕ, ◌+◌, ◌*◌, ◌^◌, ◌<◌, ◌≤◌, ◌==◌, Bool, true, false, List, [], ◌∷◌, ◌++◌}
use Rattle.std.specs.Prelude.{length, Some, None, is_none, slice_get, if◌then◌else◌}
use Rattle.std.specs.declared.cmp.Ordering.{Ordering}
use Rattle.std.specs.declared.cmp.Ordering.TheVariants.{Less, Equal, Greater}
use Rattle.std.specs.Ordering.{nat_cmp, is_eq}
use Rattle.std.specs.Cmp.Lexicographic.{slice_cmp}
use Rattle.std.proofs.Common.{ap, sym, ◌∙◌, arith, subst, true≢false, ◌⊎◌, inl, inr}
use Rattle.std.proofs.Props.{props}
use Rattle.std.proofs.lemmas.Option.{same_Some}
use Rattle.std.proofs.lemmas.Map.Lookups.{exact_bytes}
use Rattle.fv_graph.proofs.Lists.{get_less, get_front, get_last, get_cases}
use Rattle.fv_text.specs.declared.word.Word.{Word}
use Rattle.wn_net.specs.declared.node.Node.{Node}
use Rattle.wn_net.specs.declared.node.Node.TheVariants as n
use Rattle.wn_opt.specs.declared.table.Table.{Table}
use Rattle.wn_opt.specs.Hashing.{IsFirst}
use Rattle.wn_opt.specs.Table.{key, place_in, is_source, IsOperator, IsTableOf}

-- ---- words

abbrev Facts : ℕ → ℕ → ℕ → Type 0
Facts w h l = (1 ≤ w) × (w ≤ 128) × (h * 2 ^ 64 + l < 2 ^ w)

facts_one : (w h l : ℕ) (p q : Facts w h l) → p ≡ q
facts_one w h l p q = let one : IsProp (Facts w h l) = hlevel props in one p q

abbrev made : (w h l : ℕ) → Facts w h l → Word
made w h l p = record { width = w; high = h; low = l; some_bits = p.0; few_bits = p.1; value_fits = p.2 }

by_low : (w h l l' : ℕ) (p : Facts w h l) (q : Facts w h l') → l ≡ l' → made w h l p ≡ made w h l' q
by_low w h l l' p q e =
    subst (λ z. (r : Facts w h z) → made w h l p ≡ made w h z r) e (λ r. ap (made w h l) (facts_one w h l p r)) q

by_high : (w h h' l l' : ℕ) (p : Facts w h l) (q : Facts w h' l') → h ≡ h' → l ≡ l'
    → made w h l p ≡ made w h' l' q
by_high w h h' l l' p q e f =
    subst (λ z. (r : Facts w z l') → made w h l p ≡ made w z l' r) e (λ r. by_low w h l l' p r f) q

by_width : (w w' h h' l l' : ℕ) (p : Facts w h l) (q : Facts w' h' l') → w ≡ w' → h ≡ h' → l ≡ l'
    → made w h l p ≡ made w' h' l' q
by_width w w' h h' l l' p q e f g =
    subst (λ z. (r : Facts z h' l') → made w h l p ≡ made z h' l' r) e (λ r. by_high w h h' l l' p r f g) q

pub same_word : (a b : Word) → a.width ≡ b.width → a.high ≡ b.high → a.low ≡ b.low → a ≡ b
same_word a b e f g =
    by_width a.width b.width a.high b.high a.low b.low (a.some_bits, a.few_bits, a.value_fits)
    (b.some_bits, b.few_bits, b.value_fits) e f g

-- ---- keys

abbrev is_word : Node → Bool
is_word (n.Konst word) = true
is_word x = false

as_word : (x : Node) → is_word x ≡ true → (w : Word) × (x ≡ n.Konst w)
as_word (n.Konst w) e = (w, refl)
as_word x e = absurd (true≢false (sym e))

-- the node of a key; z in place of a constant
abbrev node_of : Node → (t a b c : ℕ) → Node
node_of z t a b c =
    if t == 1 then n.Input a else if t == 2 then n.Reg a else if t == 3 then n.Read a b
    else if t == 4 then n.Not a else if t == 5 then n.And a b else if t == 6 then n.Or a b
    else if t == 7 then n.Xor a b else if t == 8 then n.Add a b else if t == 9 then n.Sub a b
    else if t == 10 then n.Mul a b else if t == 11 then n.Eq a b else if t == 12 then n.Ult a b
    else if t == 13 then n.Slt a b else if t == 14 then n.Shl a b else if t == 15 then n.Lshr a b
    else if t == 16 then n.Ashr a b else if t == 17 then n.Concat a b else if t == 18 then n.Mux a b c
    else if t == 19 then n.Slice a b c else if t == 20 then n.Zext a b else if t == 21 then n.Sext a b else z

abbrev unkey : Node → List ℕ → Node
unkey z (t ∷ a ∷ b ∷ c ∷ []) = node_of z t a b c
unkey z xs = z

unkeyed : (z x : Node) → unkey z (key x) ≡ (if is_word x then z else x)
unkeyed z (n.Konst word) = refl
unkeyed z (n.Input i) = refl
unkeyed z (n.Reg i) = refl
unkeyed z (n.Read m a) = refl
unkeyed z (n.Not a) = refl
unkeyed z (n.And a b) = refl
unkeyed z (n.Or a b) = refl
unkeyed z (n.Xor a b) = refl
unkeyed z (n.Add a b) = refl
unkeyed z (n.Sub a b) = refl
unkeyed z (n.Mul a b) = refl
unkeyed z (n.Eq a b) = refl
unkeyed z (n.Ult a b) = refl
unkeyed z (n.Slt a b) = refl
unkeyed z (n.Shl a b) = refl
unkeyed z (n.Lshr a b) = refl
unkeyed z (n.Ashr a b) = refl
unkeyed z (n.Concat a b) = refl
unkeyed z (n.Mux c a b) = refl
unkeyed z (n.Slice a at w) = refl
unkeyed z (n.Zext a w) = refl
unkeyed z (n.Sext a w) = refl

two_kinds : (y : Node) → n.Input 0 ≡ y → n.Reg 0 ≡ y → ⊥
two_kinds y e f = no (e ∙ sym f)
  where
    no : n.Input 0 ≡ n.Reg 0 → ⊥
    no e = cc

words_same : (a b : Word) → key (n.Konst a) ≡ key (n.Konst b) → a ≡ b
words_same a b e =
    let width : a.width ≡ b.width = cc in
    let high : a.high ≡ b.high = cc in
    let low : a.low ≡ b.low = cc in
    same_word a b width high low

pub key_same : (x y : Node) → key x ≡ key y → x ≡ y
key_same x y e = by (is_word x) (is_word y) refl refl
  where
    both : (z : Node) → (if is_word x then z else x) ≡ (if is_word y then z else y)
    both z = sym (unkeyed z x) ∙ ap (unkey z) e ∙ unkeyed z y

    at : (b c : Bool) → is_word x ≡ b → is_word y ≡ c → (z : Node) → (if b then z else x) ≡ (if c then z else y)
    at b c p q z =
        ap (λ v. if v then z else x) (sym p) ∙ both z ∙ ap (λ v. if v then z else y) q

    by : (b c : Bool) → is_word x ≡ b → is_word y ≡ c → x ≡ y
    by false false p q = at false false p q x
    by true false p q = absurd (two_kinds y (at true false p q (n.Input 0)) (at true false p q (n.Reg 0)))
    by false true p q =
        absurd (two_kinds x (sym (at false true p q (n.Input 0))) (sym (at false true p q (n.Reg 0))))
    by true true p q =
        let v = as_word x p in
        let w = as_word y q in
        v.1 ∙ ap (λ u. n.Konst u) (words_same v.0 w.0 (sym (ap key v.1) ∙ e ∙ ap key w.1)) ∙ sym w.1

is_equal : (o : Ordering) → is_eq o ≡ true → o ≡ Equal
is_equal Less e = absurd (true≢false (sym e))
is_equal Equal e = refl
is_equal Greater e = absurd (true≢false (sym e))

-- what the table's order calls equal is the same node
pub same_node : (x y : Node) → is_eq (slice_cmp nat_cmp (key x) (key y)) ≡ true → x ≡ y
same_node x y e = key_same x y (exact_bytes (key x) (key y) (is_equal (slice_cmp nat_cmp (key x) (key y)) e))

-- ---- one more node

pub first_on : (nodes : List Node) (x y : Node) (id : ℕ) → IsFirst nodes y id → IsFirst (nodes ++ x ∷ []) y id
first_on nodes x y id f = record {
  there = get_front nodes x id y f.there;
  first = λ k low e. by k low (get_cases nodes x k y e);
}
  where
    by : (k : ℕ) → k < id → (slice_get nodes k ≡ Some y) ⊎ ((k ≡ length nodes) × (x ≡ y)) → ⊥
    by k low (inl e) = f.first k low e
    by k low (inr e) = absurd (omega (arith, low, e.0, get_less nodes id y f.there))

-- which is there already, or is an input's or a register's
pub table_same : (nodes : List Node) (t : Table) (x : Node) → IsTableOf nodes t
    → (IsOperator x → place_in t x ≡ None → ⊥) → IsTableOf (nodes ++ x ∷ []) t
table_same nodes t x h there = record {
  first = λ y id e. first_on nodes x y id (h.first y id e);
  whole = λ y k op e none. by y k op none (get_cases nodes x k y e);
}
  where
    by : (y : Node) (k : ℕ) → IsOperator y → place_in t y ≡ None
        → (slice_get nodes k ≡ Some y) ⊎ ((k ≡ length nodes) × (x ≡ y)) → ⊥
    by y k op none (inl e) = h.whole y k op e none
    by y k op none (inr e) =
        there (ap is_source e.1 ∙ op) (ap (place_in t) e.1 ∙ none)

-- which is put into it
pub table_more : (nodes : List Node) (t u : Table) (x : Node) (id : ℕ) → IsTableOf nodes t → IsOperator x
    → place_in t x ≡ None → id ≡ length nodes → place_in u x ≡ Some id
    → ((y : Node) → place_in u y
    ≡ (if is_eq (slice_cmp nat_cmp (key x) (key y)) then Some id else place_in t y))
    → IsTableOf (nodes ++ x ∷ []) u
table_more nodes t u x id h op absent at here others = record {
  first = λ y k e. one y k e (is_eq (slice_cmp nat_cmp (key x) (key y))) refl;
  whole = λ y k p e none. by y k p none (get_cases nodes x k y e);
}
  where
    either : (y : Node) (b : Bool) → is_eq (slice_cmp nat_cmp (key x) (key y)) ≡ b
        → place_in u y ≡ (if b then Some id else place_in t y)
    either y b e = others y ∙ ap (λ v. if v then Some id else place_in t y) e

    none_before : (k : ℕ) → k < id → slice_get (nodes ++ x ∷ []) k ≡ Some x → ⊥
    none_before k low e = at_one (get_cases nodes x k x e)
      where
        at_one : (slice_get nodes k ≡ Some x) ⊎ ((k ≡ length nodes) × (x ≡ x)) → ⊥
        at_one (inl f) = h.whole x k op f absent
        at_one (inr f) = absurd (omega (arith, low, f.0, at))

    last : IsFirst (nodes ++ x ∷ []) x id
    last = record { there = ap (slice_get (nodes ++ x ∷ [])) at ∙ get_last nodes x; first = none_before }

    one : (y : Node) (k : ℕ) → place_in u y ≡ Some k → (b : Bool)
        → is_eq (slice_cmp nat_cmp (key x) (key y)) ≡ b → IsFirst (nodes ++ x ∷ []) y k
    one y k e true is =
        let same : x ≡ y = same_node x y is in
        let num : id ≡ k = same_Some id k (sym (either y true is) ∙ e) in
        subst (λ z. IsFirst (nodes ++ x ∷ []) z k) same (subst (IsFirst (nodes ++ x ∷ []) x) num last)
    one y k e false is = first_on nodes x y k (h.first y k (sym (either y false is) ∙ e))

    other : (y : Node) (k : ℕ) → IsOperator y → place_in u y ≡ None → slice_get nodes k ≡ Some y → (b : Bool)
        → is_eq (slice_cmp nat_cmp (key x) (key y)) ≡ b → ⊥
    other y k p none e true is =
        true≢false (ap is_none (sym none ∙ either y true is))
    other y k p none e false is = h.whole y k p e (sym (either y false is) ∙ none)

    by : (y : Node) (k : ℕ) → IsOperator y → place_in u y ≡ None
        → (slice_get nodes k ≡ Some y) ⊎ ((k ≡ length nodes) × (x ≡ y)) → ⊥
    by y k p none (inl e) = other y k p none e (is_eq (slice_cmp nat_cmp (key x) (key y))) refl
    by y k p none (inr e) = true≢false (ap is_none (sym none ∙ sym (ap (place_in u) e.1) ∙ here))

-- ---- no node, and another table that has the same

pub table_none : (t : Table) → ((x : Node) → place_in t x ≡ None) → IsTableOf [] t
table_none t none = record {
  first = λ x id e. absurd (true≢false (ap is_none (sym (none x) ∙ e)));
  whole = λ x k op e absent. true≢false (ap is_none e);
}

pub table_like : (nodes : List Node) (t u : Table) → ((x : Node) → place_in u x ≡ place_in t x) → IsTableOf nodes t
    → IsTableOf nodes u
table_like nodes t u same h = record {
  first = λ x id e. h.first x id (sym (same x) ∙ e);
  whole = λ x k op e absent. h.whole x k op e (sym (same x) ∙ absent);
}
