-- The table of declarations against the entries of its map.
use Rattle.std.specs.Prelude.{◌≡◌, refl, ℕ, ◌+◌, ◌<◌, List, [], ◌∷◌, ◌++◌, length, Bool, true, false, cond, not, ◌||◌}
use Rattle.std.specs.Prelude.{nat_lt, Option, Some, None, is_some, position, Vec, bytes_eq, All, IfSome, Result, Ok}
use Rattle.std.specs.Prelude.{Err, OnOk, OnErr, ◌^◌, ◌-◌, zero, suc}
use Rattle.std.proofs.Common.{ap, sym, ◌∙◌, subst, true≢false, Bor, arith}
use Rattle.std.specs.List.{position_or_len, AllByRecursion, IsDistinct}
use Rattle.std.specs.Map.{keys_of, lookup}
use Rattle.std.specs.Map.Iter.{deref_pair}
use Rattle.std.specs.Option.{option_map, option_copied}
use Rattle.std.proofs.lemmas.List.Elements.{All-append, All-head, All-tail}
use Rattle.std.specs.declared.alloc.Global.{Global}
use Rattle.std.proofs.lemmas.List.{length-map, length-append, map-append}
use Rattle.std.proofs.lemmas.Slice.Eq.{bytes_eq-Decides}
use Rattle.std.proofs.lemmas.Bool.Decides.{same_from_decides, Decides-like}
use Rattle.vl_size.specs.declared.decl.Decl.{Decl}
use Rattle.vl_size.specs.Entries.{Entry, AreKeyed, IsTable, decls_of}
use Rattle.vl_size.specs.Table.{is_declared, place, declared_as, AreDifferent, IsShaped, AreApart}

abbrev bytes_of : Vec ℕ Global → List ℕ
bytes_of k = k.items

position_or_len-keyed : (name : List ℕ) (es : List Entry) → AreKeyed es
    → position_or_len (λ k. bytes_eq name (bytes_of k)) (keys_of es)
    ≡ position_or_len (λ d. bytes_eq name d.name) (decls_of es)
position_or_len-keyed name [] h = refl
position_or_len-keyed name (e ∷ es) h =
    λ i. cond (not (bytes_eq name (h.0 i))) (1 + position_or_len-keyed name es h.1 i) 0

-- the place of a name among the keys is its place among the declarations
pub place-keyed : (name : List ℕ) (es : List Entry) → AreKeyed es
    → position (λ k. bytes_eq name (bytes_of k)) (keys_of es) ≡ place (decls_of es) name
place-keyed name es h =
    let p = position_or_len-keyed name es h in
    let l : length (keys_of es) ≡ length (decls_of es) = length-map es (λ e. e.0) ∙ sym (length-map es (λ e. e.1)) in
    λ i. cond (nat_lt (p i) (l i)) (Some (p i)) None

-- a name that isn't declared is no key
pub lookup-fresh : (name : List ℕ) (es : List Entry) → AreKeyed es → is_declared (decls_of es) name ≡ false
    → lookup (λ k. bytes_eq name (bytes_of k)) es ≡ None
lookup-fresh name [] h fresh = refl
lookup-fresh name (e ∷ es) h fresh = by (bytes_eq name e.1.name) (bytes_eq name (bytes_of e.0))
    (ap (λ k. bytes_eq name k) h.0) fresh (lookup-fresh name es h.1)
  where
    by : (b c : Bool) → c ≡ b → (b || is_declared (decls_of es) name) ≡ false
        → (is_declared (decls_of es) name ≡ false → lookup (λ k. bytes_eq name (bytes_of k)) es ≡ None)
        → cond c (Some e.1) (lookup (λ k. bytes_eq name (bytes_of k)) es) ≡ None
    by true c p fresh others = absurd (true≢false fresh)
    by false c p fresh others =
        ap (λ d. cond d (Some e.1) (lookup (λ k. bytes_eq name (bytes_of k)) es)) p ∙ others fresh

pub AreKeyed-append : (es : List Entry) (k : Vec ℕ Global) (d : Decl) → AreKeyed es → k.items ≡ d.name
    → AreKeyed (es ++ (k, d) ∷ [])
AreKeyed-append [] k d h p = (p, tt)
AreKeyed-append (e ∷ es) k d h p = (h.0, AreKeyed-append es k d h.1 p)

or_false : (b c : Bool) → b ≡ false → c ≡ false → (b || c) ≡ false
or_false b c p q = ap (λ d. d || c) p ∙ q

-- a key that is equal to no other is the name of one declaration
undeclared : (k : Vec ℕ Global) (es : List Entry) → AreKeyed es
    → AllByRecursion (λ j. bytes_eq (bytes_of k) (bytes_of j) ≡ false) (keys_of es)
    → is_declared (decls_of es) (bytes_of k) ≡ false
undeclared k [] h p = refl
undeclared k (e ∷ es) h p = or_false _ _ (ap (λ n. bytes_eq (bytes_of k) n) (sym h.0) ∙ p.0) (undeclared k es h.1 p.1)

pub different : (es : List Entry) → AreKeyed es → IsDistinct (λ j k. bytes_eq (bytes_of j) (bytes_of k)) (keys_of es)
    → AreDifferent (decls_of es)
unfolding IsDistinct
different [] h p = tt
different (e ∷ es) h p =
    (subst (λ n. is_declared (decls_of es) n ≡ false) h.0 (undeclared e.0 es h.1 p.0), different es h.1 p.1)

-- the declaration of an entry that was lent
pub seconds : (r : Option (Bor (Vec ℕ Global) × Bor Decl))
    → option_map (λ p. p.1.now) r ≡ option_map (λ e. e.1) (option_map deref_pair r)
seconds None = refl
seconds (Some p) = refl

one_of : (P : Decl → Type 0) (d : Decl) → P d → All P (d ∷ [])
one_of P d h zero e k = h
one_of P d h (suc n) e k = absurd (omega (arith, k))

pub decls_of-append : (es : List Entry) (k : Vec ℕ Global) (d : Decl)
    → decls_of (es ++ (k, d) ∷ []) ≡ decls_of es ++ d ∷ []
decls_of-append es k d = map-append (λ (e : Entry). e.1) es ((k, d) ∷ [])

-- a table with one more entry
pub table-append : (es : List Entry) (k : Vec ℕ Global) (d : Decl) → IsTable es → k.items ≡ d.name → IsShaped d
    → AreApart (decls_of es ++ d ∷ []) → length (decls_of es) < 2 ^ 32 - 1 → IsTable (es ++ (k, d) ∷ [])
table-append es k d t named shaped apart few =
    let same = decls_of-append es k d in
    record {
      keyed = AreKeyed-append es k d t.keyed named;
      shaped = subst (λ ds. All IsShaped ds) (sym same)
          (All-append IsShaped (decls_of es) (d ∷ []) t.shaped (one_of IsShaped d shaped));
      apart = subst AreApart (sym same) apart;
      short = omega (arith, few, length-map es (λ (e : Entry). e.1), length-append es ((k, d) ∷ []));
    }

pub table-after : {A E : Type 0} (r : Result A E) (old new : List Entry) (e : Entry)
    → OnOk r (new ≡ old ++ e ∷ []) → OnErr r (new ≡ old) → IsTable old → IsTable (old ++ e ∷ []) → IsTable new
table-after (Ok x) old new e p q before after = subst IsTable (sym p) after
table-after (Err x) old new e p q before after = subst IsTable (sym q) before

-- what the map has at a name is the declaration of the name
pub named-keyed : (name : List ℕ) (es : List Entry) → AreKeyed es
    → lookup (λ k. bytes_eq name (bytes_of k)) es ≡ declared_as (decls_of es) name
named-keyed name [] h = refl
named-keyed name (e ∷ es) h = λ i. cond (bytes_eq name (h.0 i)) (Some e.1) (named-keyed name es h.1 i)

-- a name has a declaration where it is declared
pub named_declared : (ds : List Decl) (name : List ℕ) → is_some (declared_as ds name) ≡ is_declared ds name
named_declared [] name = refl
named_declared (d ∷ ds) name = by (bytes_eq name d.name) (named_declared ds name)
  where
    by : (b : Bool) → is_some (declared_as ds name) ≡ is_declared ds name
        → is_some (cond b (Some d) (declared_as ds name)) ≡ (b || is_declared ds name)
    by true h = refl
    by false h = h

pub copied_some : {A : Type 0} (r : Option (Bor A)) → is_some r ≡ is_some (option_copied r)
copied_some None = refl
copied_some (Some x) = refl

-- what holds of each declaration holds of that of a name
pub named_shaped : (name : List ℕ) (ds : List Decl) → All IsShaped ds → IfSome (declared_as ds name) IsShaped
named_shaped name [] h = tt
named_shaped name (d ∷ ds) h =
    by (bytes_eq name d.name) (All-head IsShaped d ds h) (named_shaped name ds (All-tail IsShaped d ds h))
  where
    by : (b : Bool) → IsShaped d → IfSome (declared_as ds name) IsShaped
        → IfSome (cond b (Some d) (declared_as ds name)) IsShaped
    by true h k = h
    by false h k = k
