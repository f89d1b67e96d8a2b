-- Names of a path.
use Rattle.std.specs.Prelude.{◌≡◌, refl, ℕ, ◌+◌, List, [], ◌∷◌, ◌++◌, drop, Bool, true, false, ◌||◌, bytes_eq}
use Rattle.std.specs.Prelude.{is_some, slice_get, Option, Some, None, if◌then◌else◌, Vec, IsSome, ◌↔◌, ◌<◌}
use Rattle.std.specs.Prelude.{option_to_list, length, zero, suc}
use Rattle.std.specs.Prelude.{Result, Ok, Err, OnOk, OnErr}
use Rattle.std.specs.declared.alloc.Global.{Global}
use Rattle.std.specs.Map.{lookup}
use Rattle.std.proofs.Common.{ap, sym, ◌∙◌, arith, append-nil}
use Rattle.std.proofs.lemmas.List.{append_assoc, same_from_push}
use Rattle.std.proofs.lemmas.Option.{same_Some}
use Rattle.vl_mean.specs.Cells.{contains_name}
use Rattle.vl_elab_names.specs.Path.{Entry, texts_of}

pub contains_lookup : (text : List ℕ) (es : List Entry)
    → is_some (lookup (λ key. bytes_eq text key.items) es) ≡ contains_name (texts_of es) text
contains_lookup text [] = refl
contains_lookup text (e ∷ es) = by (bytes_eq text e.0.items) (contains_lookup text es)
  where
    by : (b : Bool) → is_some (lookup (λ key. bytes_eq text key.items) es) ≡ contains_name (texts_of es) text
        → is_some (if b then Some e.1 else lookup (λ key. bytes_eq text key.items) es)
        ≡ (b || contains_name (texts_of es) text)
    by true h = refl
    by false h = h

texts_append : (es ds : List Entry) → texts_of (es ++ ds) ≡ texts_of es ++ texts_of ds
texts_append [] ds = refl
texts_append (e ∷ es) ds = ap (λ ts. e.0.items ∷ ts) (texts_append es ds)

none_of : (o : Option (Unit {0})) → is_some o ≡ false → o ≡ None
none_of None h = refl
none_of (Some x) h = cc

-- a name that isn't on the path has no entry
pub is_absent : (es : List Entry) (key : List ℕ) (ns : List (List ℕ)) (text : List ℕ) → texts_of es ≡ ns → key ≡ text
    → contains_name ns text ≡ false → lookup (λ k. bytes_eq key k.items) es ≡ None
is_absent es key ns text e n h =
    none_of (lookup (λ k. bytes_eq key k.items) es) (contains_lookup key es ∙ (λ i. contains_name (e i) (n i)) ∙ h)

pub name_added : {A E : Type 0} (r : Result A E) (old new : List Entry) (key : Vec ℕ Global) (ns : List (List ℕ))
    (text : List ℕ) → texts_of old ≡ ns → key.items ≡ text → OnOk r (new ≡ old ++ (key, tt) ∷ [])
    → OnOk r (texts_of new ≡ ns ++ text ∷ [])
name_added (Ok x) old new key ns text e n made =
    ap texts_of made ∙ texts_append old ((key, tt) ∷ []) ∙ (λ i. e i ++ n i ∷ [])
name_added (Err x) old new key ns text e n made = made

pub names_stay : {A E : Type 0} (r : Result A E) (old new : List Entry) (ns : List (List ℕ)) → texts_of old ≡ ns
    → OnErr r (new ≡ old) → OnErr r (texts_of new ≡ ns)
names_stay (Ok x) old new ns e same = same
names_stay (Err x) old new ns e same = ap texts_of same ∙ e

-- the last name leaves
name_left : (e : Entry) (old new : List Entry) (ns : List (List ℕ)) (text : List ℕ) → old ≡ new ++ e ∷ []
    → texts_of old ≡ ns ++ text ∷ [] → texts_of new ≡ ns
name_left e old new ns text took named =
    (same_from_push (texts_of new) ns e.0.items text
    (sym (ap texts_of took ∙ texts_append new (e ∷ [])) ∙ named)).0

not_empty : (ns : List (List ℕ)) (text : List ℕ) → [] ≡ ns ++ text ∷ [] → ⊥
not_empty [] text e = cc
not_empty (n ∷ ns) text e = cc

not_some : false ≡ true → ⊥
not_some e = cc

pub popped : (r : Option Entry) (old new : List Entry) (all ns : List (List ℕ)) (text : List ℕ)
    → old ≡ new ++ option_to_list r → IsSome r ↔ (0 < length old) → texts_of old ≡ all → all ≡ ns ++ text ∷ []
    → texts_of new ≡ ns
popped (Some e) old new all ns text took found seen named = name_left e old new ns text took (seen ∙ named)
popped None [] new all ns text took found seen named = absurd (not_empty ns text (seen ∙ named))
popped None (e ∷ old) new all ns text took found seen named = absurd (not_some (found.1 (omega arith)))

-- ---- names one behind the other

from_place : (es : List Entry) (i : ℕ) (e : Entry) → Some e ≡ slice_get es i → drop i es ≡ e ∷ drop (i + 1) es
from_place [] i e h = cc
from_place (x ∷ es) zero e h = ap (λ y. y ∷ es) (same_Some x e (sym h))
from_place (x ∷ es) (suc i) e h =
    let next : suc i + 1 ≡ suc (i + 1) = omega arith in
    from_place es i e h ∙ ap (λ j. e ∷ drop j (x ∷ es)) (sym next)

pub name_more : (es : List Entry) (i : ℕ) (e : Entry) (names new : List (List ℕ)) (text : List ℕ)
    → Some e ≡ slice_get es i → text ≡ e.0.items → new ≡ names ++ text ∷ []
    → new ++ texts_of (drop (i + 1) es) ≡ names ++ texts_of (drop i es)
name_more es i e names new text h n made =
    (λ k. made k ++ texts_of (drop (i + 1) es))
    ∙ append_assoc names (text ∷ []) (texts_of (drop (i + 1) es))
    ∙ (λ k. names ++ n k ∷ texts_of (drop (i + 1) es)) ∙ ap (λ ds. names ++ texts_of ds) (sym (from_place es i e h))

pub name_pushed : {A E : Type 0} (r : Result A E) (es : List Entry) (i : ℕ) (e : Entry) (names new : List (List ℕ))
    (text : List ℕ) → Some e ≡ slice_get es i → text ≡ e.0.items → OnOk r (new ≡ names ++ text ∷ [])
    → OnOk r (new ++ texts_of (drop (i + 1) es) ≡ names ++ texts_of (drop i es))
name_pushed (Ok x) es i e names new text h n made = name_more es i e names new text h n made
name_pushed (Err x) es i e names new text h n made = made

at_end : (es : List Entry) (i : ℕ) → None ≡ slice_get es i → (drop i es ≡ []) × (drop (i + 1) es ≡ [])
at_end [] zero h = (refl, refl)
at_end [] (suc i) h =
    let next : suc i + 1 ≡ suc (i + 1) = omega arith in
    (refl, ap (λ j. drop j []) next)
at_end (x ∷ es) zero h = cc
at_end (x ∷ es) (suc i) h =
    let next : suc i + 1 ≡ suc (i + 1) = omega arith in
    let inner = at_end es i h in
    (inner.0, ap (λ j. drop j (x ∷ es)) next ∙ inner.1)

pub no_name : (es : List Entry) (i : ℕ) (names : List (List ℕ)) → None ≡ slice_get es i
    → names ++ texts_of (drop (i + 1) es) ≡ names ++ texts_of (drop i es)
no_name es i names h =
    let inner = at_end es i h in
    ap (λ ds. names ++ texts_of ds) (inner.1 ∙ sym inner.0)

pub all_named : (es : List Entry) (i : ℕ) (names : List (List ℕ)) → drop i es ≡ []
    → names ++ texts_of (drop i es) ≡ texts_of es → names ≡ texts_of es
all_named es i names gone h = sym (append-nil names) ∙ ap (λ ds. names ++ texts_of ds) (sym gone) ∙ h
